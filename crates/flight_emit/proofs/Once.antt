-- One value is meant at a place, and one node is given by a value.
use Rattle.std.proofs.Common.{◌≡◌, ℕ, ◌+◌, ◌<◌, ◌≤◌, ◌⊎◌, inl, inr, ⊎_elim, [], ◌∷◌, ◌++◌, Option, Some, None, refl, sym, ap, ◌∙◌, subst, arith}
use Rattle.std.proofs.lemmas.Option.{none-some, same_Some}
use Rattle.flight_value.specs.Listed.{In}
use Rattle.flight_value.specs.Store as store
use Rattle.flight_value.specs.declared.key.Key.{Key}
use Rattle.flight_value.specs.declared.name.Name.{Name}
use Rattle.flight_render.specs.Jobs.{Job, Value, element, target_of}
use Rattle.flight_meaning.specs.declared.place.Place.{Place}
use Rattle.flight_meaning.specs.Linked.{Spot}
use Rattle.flight_meaning.specs.Resolve.{Path}
use Rattle.flight_payload.specs.Tree.{count, trees_of}
use Rattle.flight_payload.proofs.Standing.{Each, EachTree, EachProp}
use Rattle.flight_state.specs.Emits.{IsPlain}
use Rattle.flight_state.specs.Local.{job_seen, value_seen}
use Rattle.flight_state.proofs.Lists.{in_either, map_in}
use Rattle.flight_emit.specs.Sheet.{Form, as_array, as_object, as_element, Drawn, leaf, token, composite, Parts, no_parts, part_and, names_in, tree_of, trees_in, props_with, head, value_in, numbered, meant_from, meant_in, Sheet, filled, opening, spot, spotted, meant_on}
use Rattle.flight_emit.specs.Good.{Gives, itself, in_place, IsNode}
use Rattle.flight_emit.proofs.Rows.{one_sheet}
use Rattle.flight_emit.proofs.Shapes.{counts}
use Rattle.flight_emit.proofs.Sits.{Paper, meant, Filled, Sits, PartsSit, flat_in, in_numbered, composite_at, parts_at, sheet_sits}

-- ---- nodes

same_node : {K : Type 0} (t : store.Target K) (k l : K) → t ≡ store.node_at k → t ≡ store.node_at l → k ≡ l
same_node t k l e f = let both : store.node_at k ≡ store.node_at l = sym e ∙ f in cc

same_element : (o : Option Job) (n m : Name) → o ≡ Some (element n) → o ≡ Some (element m) → n ≡ m
same_element o n m e f = let both : Some (element n) ≡ Some (element m) = sym e ∙ f in cc

pub one_node : (p : Paper) (v w z : Value) (k l : Key) → Gives p.g p.seen v w → IsNode p.g p.seen w k → Gives p.g p.seen v z → IsNode p.g p.seen z l → k ≡ l
one_node p v _ _ k l itself n itself m = same_node (target_of v) k l n.is_target m.is_target
one_node p v _ z k l itself n (in_place name end is_seen job ends rest) m = absurd (none-some (element name) (sym n.no_job ∙ job))
one_node p v w _ k l (in_place name end is_seen job ends rest) n itself m = absurd (none-some (element name) (sym m.no_job ∙ job))
one_node p v w z k l (in_place name end is_seen job ends rest) n (in_place other last is_seen_too job_too ends_too rest_too) m =
    let same = same_element (job_seen p.seen v) name other job job_too in
    let one_end = same_Some end last (sym ends ∙ (ap p.seen.ends same ∙ ends_too)) in
    one_node p (value_seen p.g p.seen (element name) end) w z k l rest n
    (subst (λ e. Gives p.g p.seen (value_seen p.g p.seen (element name) e) z) (sym one_end)
    (subst (λ x. Gives p.g p.seen (value_seen p.g p.seen (element x) last) z) (sym same) rest_too)) m

-- ---- ranges of numbers

head_counts : (form : Form) → 1 ≤ head form
head_counts as_array = omega arith
head_counts as_object = omega arith
head_counts as_element = omega arith

mutual
  pub range : (p : Paper) (x : Filled p) (d : Drawn) (n : ℕ) (path : Path) → Sits p x d n path → (m : ℕ) (v : Value) → In (m, v) (meant_from n d) → (n ≤ m) × (m < n + count (tree_of d))
  range p x (leaf o at) n path s m v i = let e = (in_numbered n o m v i).0 in (omega (arith, e), omega (arith, e))
  range p x (token note kind id) n path s m v (inl e) = let f : m ≡ n = ap (λ q. q.0) e in (omega (arith, f), omega (arith, f))
  range p x (token note kind id) n path s m v (inr i) = absurd i
  range p x (composite noted form ps) n path s m v i =
      let size = (composite_at p x noted form ps n path s).size in
      let positive = head_counts form in
      ⊎_elim (λ j. let e = (in_numbered n (value_in noted) m v j).0 in (omega (arith, e), omega (arith, e, size, positive)))
      (λ j. let r = range_in p x ps (n + head form) path (parts_at p x noted form ps n path s) m v j in let low = r.0 in let high = r.1 in (omega (arith, low), omega (arith, high, size)))
      (in_either (numbered n (value_in noted)) (meant_in (n + head form) ps) (m, v) i)

  pub range_in : (p : Paper) (x : Filled p) (ps : Parts) (n : ℕ) (path : Path) → PartsSit p x n path ps → (m : ℕ) (v : Value) → In (m, v) (meant_in n ps) → (n ≤ m) × (m < n + counts ps)
  range_in p x no_parts n path s m v i = absurd i
  range_in p x (part_and name d rest) n path s m v i =
      ⊎_elim (λ j. let r = range p x d n (path ++ name ∷ []) s.0 m v j in let low = r.0 in let high = r.1 in (omega (arith, low), omega (arith, high)))
      (λ j. let r = range_in p x rest (n + count (tree_of d)) path s.1 m v j in let low = r.0 in let high = r.1 in (omega (arith, low), omega (arith, high)))
      (in_either (meant_from n d) (meant_in (n + count (tree_of d)) rest) (m, v) i)

both_some : (o : Option Value) (v w : Value) → o ≡ Some v → o ≡ Some w → v ≡ w
both_some o v w e f = same_Some v w (sym e ∙ f)

mutual
  pub one_value : (p : Paper) (x : Filled p) (d : Drawn) (n : ℕ) (path : Path) → Sits p x d n path → (m : ℕ) (v w : Value) → In (m, v) (meant_from n d) → In (m, w) (meant_from n d) → v ≡ w
  one_value p x (leaf o at) n path s m v w i j = both_some o v w (in_numbered n o m v i).1 (in_numbered n o m w j).1
  one_value p x (token note kind id) n path s m v w (inl e) (inl f) = ap (λ q. q.1) e ∙ sym (ap (λ q. q.1) f)
  one_value p x (token note kind id) n path s m v w (inr i) j = absurd i
  one_value p x (token note kind id) n path s m v w (inl e) (inr j) = absurd j
  one_value p x (composite noted form ps) n path s m v w i j =
      let inside = parts_at p x noted form ps n path s in
      let positive = head_counts form in
      let front = numbered n (value_in noted) in
      let back = meant_in (n + head form) ps in
      ⊎_elim
      (λ a. ⊎_elim (λ b. both_some (value_in noted) v w (in_numbered n (value_in noted) m v a).1 (in_numbered n (value_in noted) m w b).1)
      (λ b. let e = (in_numbered n (value_in noted) m v a).0 in let low = (range_in p x ps (n + head form) path inside m w b).0 in absurd (omega (arith, e, low, positive))) (in_either front back (m, w) j))
      (λ a. ⊎_elim (λ b. let e = (in_numbered n (value_in noted) m w b).0 in let low = (range_in p x ps (n + head form) path inside m v a).0 in absurd (omega (arith, e, low, positive)))
      (λ b. one_part p x ps (n + head form) path inside m v w a b) (in_either front back (m, w) j))
      (in_either front back (m, v) i)

  one_part : (p : Paper) (x : Filled p) (ps : Parts) (n : ℕ) (path : Path) → PartsSit p x n path ps → (m : ℕ) (v w : Value) → In (m, v) (meant_in n ps) → In (m, w) (meant_in n ps) → v ≡ w
  one_part p x no_parts n path s m v w i j = absurd i
  one_part p x (part_and name d rest) n path s m v w i j =
      let front = meant_from n d in
      let back = meant_in (n + count (tree_of d)) rest in
      ⊎_elim
      (λ a. ⊎_elim (λ b. one_value p x d n (path ++ name ∷ []) s.0 m v w a b)
      (λ b. let high = (range p x d n (path ++ name ∷ []) s.0 m v a).1 in let low = (range_in p x rest (n + count (tree_of d)) path s.1 m w b).0 in absurd (omega (arith, high, low))) (in_either front back (m, w) j))
      (λ a. ⊎_elim (λ b. let high = (range p x d n (path ++ name ∷ []) s.0 m w b).1 in let low = (range_in p x rest (n + count (tree_of d)) path s.1 m v a).0 in absurd (omega (arith, high, low)))
      (λ b. one_part p x rest (n + count (tree_of d)) path s.1 m v w a b) (in_either front back (m, w) j))
      (in_either front back (m, v) i)

-- ---- what is meant in all rows

pub record MeantAt (p : Paper) (s : Spot) (v : Value) : Type 0 where
  pub sheet : Filled p
  pub number : ℕ
  pub is_spot : s ≡ spot sheet.id number
  pub is_meant : In (number, v) (meant_from 0 sheet.drawn)

meant_there : (p : Paper) (s : Spot) (v : Value) (x : Sheet) → In x p.sheets → In (s, v) (meant_on x) → MeantAt p s v
meant_there p s v (opening id flow) i j = absurd j
meant_there p s v (filled id kind d) i j =
    let q = map_in (spotted id) (meant_from 0 d) (s, v) j in
    let pair : ℕ × Value = q.0 in
    record {
      sheet = record { id = id; kind = kind; drawn = d; is_sheet = i };
      number = pair.0;
      is_spot = ap (λ r. r.0) q.2;
      is_meant = subst (λ z. In (pair.0, z) (meant_from 0 d)) (sym (ap (λ r. r.1) q.2)) q.1;
    }

pub meant_at : (p : Paper) (s : Spot) (v : Value) → In (s, v) (meant p) → MeantAt p s v
meant_at p s v i = let f = flat_in meant_on p.sheets (s, v) i in meant_there p s v f.0 f.1 f.2

pub one_meant : (p : Paper) (s : Spot) (v w : Value) → In (s, v) (meant p) → In (s, w) (meant p) → v ≡ w
one_meant p s v w i j =
    let a = meant_at p s v i in
    let b = meant_at p s w j in
    let x = a.sheet in
    let y = b.sheet in
    let spots : spot x.id a.number ≡ spot y.id b.number = sym a.is_spot ∙ b.is_spot in
    let same = one_sheet p.sheets p.on.once (filled x.id x.kind x.drawn) (filled y.id y.kind y.drawn) x.is_sheet y.is_sheet (ap (λ z. z.id) spots) in
    let drawn : x.drawn ≡ y.drawn = cc in
    one_value p x x.drawn 0 [] (sheet_sits p x) a.number v w a.is_meant
    (subst (λ z. In (z, w) (meant_from 0 x.drawn)) (sym (ap (λ z. z.at) spots)) (subst (λ z. In (b.number, w) (meant_from 0 z)) (sym drawn) b.is_meant))

-- ---- each place is plain or meant

abbrev pub IsPlainOrMeant : (p : Paper) → Filled p → ℕ → Place → Type 0
IsPlainOrMeant p x n at = IsPlain at ⊎ ((v : Value) × In (spot x.id n, v) (meant p))

mutual
  pub each_drawn : (p : Paper) (x : Filled p) (d : Drawn) (n : ℕ) (path : Path) → Sits p x d n path → Each (IsPlainOrMeant p x) n (tree_of d)
  each_drawn p x (leaf None at) n path s = inl s.good
  each_drawn p x (leaf (Some v) at) n path s = inr (v, s.meant n v (inl refl))
  each_drawn p x (token note kind id) n path s = inr (note.value, s.meant n note.value (inl refl))
  each_drawn p x (composite noted as_array ps) n path s = (inl tt, each_array p x ps (n + 1) path (parts_at p x noted as_array ps n path s))
  each_drawn p x (composite noted as_object ps) n path s = (inl tt, each_object p x ps (n + 1) path (parts_at p x noted as_object ps n path s))
  each_drawn p x (composite noted as_element (part_and a t (part_and b k (part_and c q no_parts)))) n path s =
      let inside = parts_at p x noted as_element (part_and a t (part_and b k (part_and c q no_parts))) n path s in
      let second = inside.1 in
      let third = second.1 in (
        inl tt,
        inl tt,
        each_drawn p x t (n + 2) (path ++ a ∷ []) inside.0,
        each_drawn p x k (n + 2 + count (tree_of t)) (path ++ b ∷ []) second.0,
        each_drawn p x q (n + 2 + count (tree_of t) + count (tree_of k)) (path ++ c ∷ []) third.0,
      )
  each_drawn p x (composite noted as_element no_parts) n path s = inl tt
  each_drawn p x (composite noted as_element (part_and a t no_parts)) n path s = inl tt
  each_drawn p x (composite noted as_element (part_and a t (part_and b k no_parts))) n path s = inl tt
  each_drawn p x (composite noted as_element (part_and a t (part_and b k (part_and c q (part_and e u rest))))) n path s = inl tt

  each_array : (p : Paper) (x : Filled p) (ps : Parts) (n : ℕ) (path : Path) → PartsSit p x n path ps → EachTree (IsPlainOrMeant p x) n (trees_of (trees_in ps))
  each_array p x no_parts n path s = tt
  each_array p x (part_and name d rest) n path s = (each_drawn p x d n (path ++ name ∷ []) s.0, each_array p x rest (n + count (tree_of d)) path s.1)

  each_object : (p : Paper) (x : Filled p) (ps : Parts) (n : ℕ) (path : Path) → PartsSit p x n path ps → EachProp (IsPlainOrMeant p x) n (props_with (names_in ps) (trees_in ps))
  each_object p x no_parts n path s = tt
  each_object p x (part_and name d rest) n path s = (each_drawn p x d n (path ++ name ∷ []) s.0, each_object p x rest (n + count (tree_of d)) path s.1)
