-- Where the values of sheets sit among the places of rows.
use Rattle.std.proofs.Common.{◌≡◌, ℕ, ◌+◌, inl, inr, ⊎_elim, List, [], ◌∷◌, ◌++◌, flat_map, Option, Some, None, refl, sym, ap, subst}
use Rattle.std.proofs.lemmas.Option.{none-some, same_Some}
use Rattle.std.specs.Prelude.{slice_get}
use Rattle.flight_value.specs.Listed.{In}
use Rattle.flight_value.specs.declared.key.Key.{Key}
use Rattle.flight_text.specs.declared.mark.Ref.{Ref}
use Rattle.flight_row.specs.declared.row.RowKind.{RowKind}
use Rattle.flight_home.specs.Homes.{Homes}
use Rattle.flight_render.specs.declared.root.Ground.{Ground}
use Rattle.flight_render.specs.Jobs.{Value}
use Rattle.flight_meaning.specs.declared.place.Place.{Place}
use Rattle.flight_meaning.specs.declared.place.PlacedRow.{PlacedRow}
use Rattle.flight_meaning.specs.Resolve.{Path, step}
use Rattle.flight_payload.specs.Tree.{count, places_from}
use Rattle.flight_payload.specs.Standing.{Stands}
use Rattle.flight_payload.proofs.Standing.{whole_stands}
use Rattle.flight_state.specs.Emits.{Meant}
use Rattle.flight_state.specs.Local.{Seen, Births, StepsTo}
use Rattle.flight_state.proofs.Lists.{in_front, in_behind, in_either, in_map}
use Rattle.flight_emit.specs.Sheet.{Note, Form, Drawn, leaf, token, composite, Parts, no_parts, part_and, tree_of, head, value_in, value_at, numbered, meant_from, meant_in, homes_in, homes_of, Sheet, filled, rows_on, spot, spotted, meant_on, meant_of}
use Rattle.flight_emit.specs.Good.{HasEntries, IsGood, AreGood}
use Rattle.flight_emit.specs.Whole.{Use, OnPaper}
use Rattle.flight_emit.specs.Wrote.{note_at}
use Rattle.flight_emit.proofs.Shapes.{PartsStand, PartsLead, Composite, composite_there}

-- ---- all that is on paper

pub record Paper : Type 0 where
  pub g : Ground
  pub seen : Seen
  pub first : Value
  pub own : Option ℕ
  pub start : ℕ
  pub before : Homes
  pub more : Homes
  pub sheets : List Sheet
  pub births : Births
  pub uses : List Use
  pub on : OnPaper g seen first own start before more sheets births uses

abbrev pub homes : Paper → Homes
homes p = p.before ++ p.more

abbrev pub rows : Paper → List PlacedRow
rows p = rows_on p.sheets

abbrev pub meant : Paper → Meant
meant p = meant_of p.sheets

-- a sheet with something in it
pub record Filled (p : Paper) : Type 0 where
  pub id : ℕ
  pub kind : RowKind
  pub drawn : Drawn
  pub is_sheet : In (filled id kind drawn) p.sheets

abbrev pub places : {p : Paper} → Filled p → List Place
places x = places_from 0 (tree_of x.drawn)

abbrev pub at_path : ℕ → Path → Ref
at_path id path = record { id = id; path = path }

-- a value sits at a number, and the names of the steps to it are these
pub record Sits (p : Paper) (x : Filled p) (d : Drawn) (n : ℕ) (path : Path) : Type 0 where
  pub stands : Stands (places x) n (tree_of d)
  pub steps : StepsTo (places x) 0 path n
  pub good : IsGood p.g p.seen (homes p) p.more p.sheets (HasEntries p.g p.seen p.sheets) (at_path x.id path) d
  pub meant : (m : ℕ) (v : Value) → In (m, v) (meant_from n d) → In (spot x.id m, v) (meant p)

abbrev pub PartsSit : (p : Paper) → Filled p → ℕ → Path → Parts → Type 0
PartsSit p x n path no_parts = Unit {0}
PartsSit p x n path (part_and name d rest) = Sits p x d n (path ++ name ∷ []) × PartsSit p x (n + count (tree_of d)) path rest

-- ---- lists

pub in_flat : {A B : Type 0} (f : A → List B) (xs : List A) (x : A) (y : B) → In x xs → In y (f x) → In y (flat_map f xs)
in_flat f [] x y i j = absurd i
in_flat f (z ∷ xs) x y (inl e) j = in_front (f z) (flat_map f xs) y (subst (λ w. In y (f w)) e j)
in_flat f (z ∷ xs) x y (inr i) j = in_behind (f z) (flat_map f xs) y (in_flat f xs x y i j)

pub flat_in : {A B : Type 0} (f : A → List B) (xs : List A) (y : B) → In y (flat_map f xs) → (x : A) × In x xs × In y (f x)
flat_in f [] y i = absurd i
flat_in f (z ∷ xs) y i = ⊎_elim (λ j. (z, inl refl, j)) (λ j. let r = flat_in f xs y j in (r.0, inr r.1, r.2)) (in_either (f z) (flat_map f xs) y i)

pub in_numbered : (n : ℕ) (o : Option Value) (m : ℕ) (v : Value) → In (m, v) (numbered n o) → (m ≡ n) × (o ≡ Some v)
in_numbered n None m v i = absurd i
in_numbered n (Some w) m v (inl e) = (ap (λ q. q.0) e, ap (λ q. Some q.1) (sym e))
in_numbered n (Some w) m v (inr i) = absurd i

pub numbered_in : (n : ℕ) (o : Option Value) (v : Value) → o ≡ Some v → In (n, v) (numbered n o)
numbered_in n None v e = absurd (none-some v e)
numbered_in n (Some w) v e = inl (ap (λ z. (n, z)) (sym (same_Some w v e)))

-- the value of the whole is meant at its number
pub value_first : (n : ℕ) (d : Drawn) (v : Value) → value_at d ≡ Some v → In (n, v) (meant_from n d)
value_first n (leaf meant at) v e = numbered_in n meant v e
value_first n (token note kind id) v e = inl (ap (λ z. (n, z)) (sym (same_Some note.value v e)))
value_first n (composite noted form ps) v e = in_front (numbered n (value_in noted)) (meant_in (n + head form) ps) (n, v) (numbered_in n (value_in noted) v e)

-- ---- the parts of what sits

pub steps_snoc : (all : List Place) (path : Path) (at n m : ℕ) (above : Place) (name : List ℕ) → StepsTo all at path n → slice_get all n ≡ Some above → step above name ≡ Some m → StepsTo all at (path ++ name ∷ []) m
steps_snoc all [] at n m above name e is_place goes = (above, m, subst (λ z. slice_get all z ≡ Some above) (sym e) is_place, goes, refl)
steps_snoc all (first ∷ path) at n m above name s is_place goes = (s.0, s.1, s.2, s.3, steps_snoc all path s.1 n m above name s.4 is_place goes)

parts_sit : (p : Paper) (x : Filled p) (n : ℕ) (path : Path) (above : Place) → slice_get (places x) n ≡ Some above → StepsTo (places x) 0 path n
    → (ps : Parts) (k : ℕ) → PartsStand (places x) k ps → PartsLead (step above) k ps → AreGood p.g p.seen (homes p) p.more p.sheets (HasEntries p.g p.seen p.sheets) (at_path x.id path) ps
    → ((m : ℕ) (v : Value) → In (m, v) (meant_in k ps) → In (spot x.id m, v) (meant p)) → PartsSit p x k path ps
parts_sit p x n path above is_place steps no_parts k stand lead good all = tt
parts_sit p x n path above is_place steps (part_and name d rest) k stand lead good all = (
  record {
    stands = stand.0;
    steps = steps_snoc (places x) path 0 n k above name steps is_place lead.0;
    good = good.0;
    meant = λ m v i. all m v (in_front (meant_from k d) (meant_in (k + count (tree_of d)) rest) (m, v) i);
  },
  parts_sit p x n path above is_place steps rest (k + count (tree_of d)) stand.1 lead.1 good.1 (λ m v i. all m v (in_behind (meant_from k d) (meant_in (k + count (tree_of d)) rest) (m, v) i)),
)

pub composite_at : (p : Paper) (x : Filled p) (noted : Option Note) (form : Form) (ps : Parts) (n : ℕ) (path : Path) → Sits p x (composite noted form ps) n path → Composite (places x) n form ps
composite_at p x noted form ps n path s = composite_there (places x) n form ps s.stands (let good = s.good in good.1)

pub parts_at : (p : Paper) (x : Filled p) (noted : Option Note) (form : Form) (ps : Parts) (n : ℕ) (path : Path) → Sits p x (composite noted form ps) n path → PartsSit p x (n + head form) path ps
parts_at p x noted form ps n path s =
    let c = composite_at p x noted form ps n path s in
    parts_sit p x n path c.above c.is_place s.steps ps (n + head form) c.stand c.lead (let good = s.good in good.2)
    (λ m v i. s.meant m v (in_behind (numbered n (value_in noted)) (meant_in (n + head form) ps) (m, v) i))

-- ---- the whole of a sheet

pub sheet_sits : (p : Paper) (x : Filled p) → Sits p x x.drawn 0 []
sheet_sits p x =
    record {
      stands = whole_stands (tree_of x.drawn);
      steps = refl;
      good = let good = p.on.good (filled x.id x.kind x.drawn) x.is_sheet in good.1;
      meant = λ m v i. in_flat meant_on p.sheets (filled x.id x.kind x.drawn) (spot x.id m, v) x.is_sheet (in_map (spotted x.id) (meant_from 0 x.drawn) (m, v) i);
    }

-- ---- what is meant, and what is at home, sits somewhere

pub record SitsAs (p : Paper) (x : Filled p) (m : ℕ) (v : Value) : Type 0 where
  pub drawn : Drawn
  pub path : Path
  pub sits : Sits p x drawn m path
  pub is_value : value_at drawn ≡ Some v

sits_itself : (p : Paper) (x : Filled p) (d : Drawn) (n : ℕ) (path : Path) → Sits p x d n path → (m : ℕ) (v : Value) → m ≡ n → value_at d ≡ Some v → SitsAs p x m v
sits_itself p x d n path s m v e is_value = record { drawn = d; path = path; sits = subst (λ z. Sits p x d z path) (sym e) s; is_value = is_value }

mutual
  pub find_meant : (p : Paper) (x : Filled p) (d : Drawn) (n : ℕ) (path : Path) → Sits p x d n path → (m : ℕ) (v : Value) → In (m, v) (meant_from n d) → SitsAs p x m v
  find_meant p x (leaf o at) n path s m v i = let r = in_numbered n o m v i in sits_itself p x (leaf o at) n path s m v r.0 r.1
  find_meant p x (token note kind id) n path s m v (inl e) = sits_itself p x (token note kind id) n path s m v (ap (λ q. q.0) e) (ap (λ q. Some q.1) (sym e))
  find_meant p x (token note kind id) n path s m v (inr i) = absurd i
  find_meant p x (composite noted form ps) n path s m v i =
      ⊎_elim (λ j. let r = in_numbered n (value_in noted) m v j in sits_itself p x (composite noted form ps) n path s m v r.0 r.1)
      (λ j. find_part p x ps (n + head form) path (parts_at p x noted form ps n path s) m v j)
      (in_either (numbered n (value_in noted)) (meant_in (n + head form) ps) (m, v) i)

  find_part : (p : Paper) (x : Filled p) (ps : Parts) (n : ℕ) (path : Path) → PartsSit p x n path ps → (m : ℕ) (v : Value) → In (m, v) (meant_in n ps) → SitsAs p x m v
  find_part p x no_parts n path s m v i = absurd i
  find_part p x (part_and name d rest) n path s m v i =
      ⊎_elim (λ j. find_meant p x d n (path ++ name ∷ []) s.0 m v j) (λ j. find_part p x rest (n + count (tree_of d)) path s.1 m v j)
      (in_either (meant_from n d) (meant_in (n + count (tree_of d)) rest) (m, v) i)

pub record SitsAtHome (p : Paper) (x : Filled p) (k : Key) (r : Ref) : Type 0 where
  pub drawn : Drawn
  pub number : ℕ
  pub sits : Sits p x drawn number r.path
  pub same_id : r.id ≡ x.id
  pub note : Note
  pub is_note : note_at drawn ≡ Some note
  pub is_key : k ≡ note.key

home_itself : (p : Paper) (x : Filled p) (d : Drawn) (n : ℕ) (path : Path) → Sits p x d n path → (note : Note) → note_at d ≡ Some note → (k : Key) (r : Ref) → ◌≡◌ {A = Key × Ref} (k, r) (note.key, at_path x.id path) → SitsAtHome p x k r
home_itself p x d n path s note is_note k r e =
    record {
      drawn = d;
      number = n;
      sits = subst (λ z. Sits p x d n z) (ap (λ q. q.1.path) (sym e)) s;
      same_id = ap (λ q. q.1.id) e;
      note = note;
      is_note = is_note;
      is_key = ap (λ q. q.0) e;
    }

mutual
  pub find_home : (p : Paper) (x : Filled p) (d : Drawn) (n : ℕ) (path : Path) → Sits p x d n path → (k : Key) (r : Ref) → In (k, r) (homes_in (at_path x.id path) d) → SitsAtHome p x k r
  find_home p x (leaf o at) n path s k r i = absurd i
  find_home p x (token note kind id) n path s k r (inl e) = home_itself p x (token note kind id) n path s note refl k r e
  find_home p x (token note kind id) n path s k r (inr i) = absurd i
  find_home p x (composite None form ps) n path s k r i = home_part p x ps (n + head form) path (parts_at p x None form ps n path s) k r i
  find_home p x (composite (Some note) form ps) n path s k r (inl e) = home_itself p x (composite (Some note) form ps) n path s note refl k r e
  find_home p x (composite (Some note) form ps) n path s k r (inr i) = home_part p x ps (n + head form) path (parts_at p x (Some note) form ps n path s) k r i

  home_part : (p : Paper) (x : Filled p) (ps : Parts) (n : ℕ) (path : Path) → PartsSit p x n path ps → (k : Key) (r : Ref) → In (k, r) (homes_of (at_path x.id path) ps) → SitsAtHome p x k r
  home_part p x no_parts n path s k r i = absurd i
  home_part p x (part_and name d rest) n path s k r i =
      ⊎_elim (λ j. find_home p x d n (path ++ name ∷ []) s.0 k r j) (λ j. home_part p x rest (n + count (tree_of d)) path s.1 k r j)
      (in_either (homes_in (at_path x.id (path ++ name ∷ [])) d) (homes_of (at_path x.id path) rest) (k, r) i)
