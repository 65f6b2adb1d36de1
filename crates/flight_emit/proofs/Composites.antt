-- A composite that is written at its home, and a value that is given in its place.
use Rattle.std.proofs.Common.{◌≡◌, ℕ, suc, ◌≤◌, inl, inr, ⊎_elim, List, [], ◌∷◌, ◌++◌, Some, None, refl, sym, ap, ◌∙◌, subst, arith, append_assoc, append-nil}
use Rattle.std.proofs.lemmas.Option.{none-some, same_Some}
use Rattle.json.specs.Token.{Token}
use Rattle.json.specs.Token as token
use Rattle.flight_value.specs.Graph.{Ascend}
use Rattle.flight_value.specs.Listed.{In}
use Rattle.flight_value.specs.declared.key.Key.{Key}
use Rattle.flight_text.specs.declared.mark.Ref.{Ref}
use Rattle.flight_text.specs.Mark.{IsPlace}
use Rattle.flight_home.specs.Homes.{Homes, IsNew}
use Rattle.flight_render.specs.declared.root.Ground.{Ground}
use Rattle.flight_render.specs.Jobs.{Value}
use Rattle.flight_meaning.specs.Meaning.{Token as Kind, token_label}
use Rattle.flight_payload.specs.Tree.{single, trees_of, names, depth, tree_depth, prop_depth}
use Rattle.flight_payload.specs.Written.{token_of, tokens_of, tree_tokens, prop_tokens, mark_token, IsKey, IsWritable, AreWritable, HaveWritable}
use Rattle.flight_state.specs.Local.{Seen, Met, shape_seen}
use Rattle.flight_emit.specs.declared.work.Due.TheVariants as due
use Rattle.flight_emit.specs.Sheet.{Note, Form, as_array, as_object, as_element, Drawn, leaf, token as is_token, composite, Parts, no_parts, part_and, names_in, tree_of, trees_in, props_with, composed, value_at, label_of, token_place, homes_in, Sheet}
use Rattle.flight_emit.specs.Good.{Gives, itself, in_place, IsNode, HasNames, Entries, IsGood}
use Rattle.flight_emit.specs.Log.{entries_row, put, take, value_of_key, IsMetNode, Took, homes_by, sheets_by, dues_by, Stage}
use Rattle.flight_emit.specs.Wrote.{WroteLeaf, AreDue, Wrote, tokens_in, AllWritable, AllWithin, WroteParts, opens, closes, note_at, WroteNode, element_parts, IsReadableForm}
use Rattle.flight_emit.proofs.Growing.{grows_none, grows_took, grows_more, grows_put, grows_out, grows_on}
use Rattle.flight_emit.proofs.PartsOn.{goods_more, good_more}

-- ---- tokens

array_tokens : (ps : Parts) → tree_tokens (trees_of (trees_in ps)) ≡ tokens_in as_array ps
array_tokens no_parts = refl
array_tokens (part_and name d rest) = ap (λ z. tokens_of (tree_of d) ++ z) (array_tokens rest)

object_tokens : (ps : Parts) → prop_tokens (props_with (names_in ps) (trees_in ps)) ≡ tokens_in as_object ps
object_tokens no_parts = refl
object_tokens (part_and name d rest) = ap (λ z. token.key name ∷ (tokens_of (tree_of d) ++ z)) (object_tokens rest)

element_tokens : (tag key props : Drawn) → tokens_of (composed as_element (names_in (element_parts tag key props)) (trees_in (element_parts tag key props))) ≡ opens as_element ++ (tokens_in as_element (element_parts tag key props) ++ closes as_element)
element_tokens tag key props =
    let a = tokens_of (tree_of tag) in
    let b = tokens_of (tree_of key) in
    let c = tokens_of (tree_of props) in
    ap (λ z. token.begin_array ∷ mark_token ∷ z)
    (sym (append_assoc a (b ++ (c ++ [])) (token.end_array ∷ []) ∙ ap (λ z. a ++ z) (append_assoc b (c ++ []) (token.end_array ∷ []) ∙ ap (λ z. b ++ (z ++ token.end_array ∷ [])) (append-nil c))))

-- ---- depths

tree_within : (levels : ℕ) (ps : Parts) → AllWithin levels ps → tree_depth (trees_of (trees_in ps)) ≤ levels
tree_within levels no_parts h = omega arith
tree_within levels (part_and name d rest) h = let a = h.0 in let b = tree_within levels rest h.1 in omega (arith, a, b)

prop_within : (levels : ℕ) (ps : Parts) → AllWithin levels ps → prop_depth (props_with (names_in ps) (trees_in ps)) ≤ levels
prop_within levels no_parts h = omega arith
prop_within levels (part_and name d rest) h = let a = h.0 in let b = prop_within levels rest h.1 in omega (arith, a, b)

-- ---- what is writable

trees_writable : (ps : Parts) → AllWritable ps → AreWritable (trees_of (trees_in ps))
trees_writable no_parts h = tt
trees_writable (part_and name d rest) h = (h.0, trees_writable rest h.1)

props_writable : (ps : Parts) → AllWritable ps → HaveWritable (props_with (names_in ps) (trees_in ps))
props_writable no_parts h = tt
props_writable (part_and name d rest) h = (h.0, props_writable rest h.1)

props_named : (ps : Parts) → names (props_with (names_in ps) (trees_in ps)) ≡ names_in ps
props_named no_parts = refl
props_named (part_and name d rest) = ap (λ z. name ∷ z) (props_named rest)

-- ---- a composite as a tree

pub record Composed (form : Form) (ps : Parts) (levels : ℕ) : Type 0 where
  pub tokens : tokens_of (composed form (names_in ps) (trees_in ps)) ≡ opens form ++ (tokens_in form ps ++ closes form)
  pub writable : IsWritable (composed form (names_in ps) (trees_in ps))
  pub shallow : depth (composed form (names_in ps) (trees_in ps)) ≤ suc levels

element_composed : (tag key props : Drawn) (levels : ℕ) → IsKey (tree_of key) → AllWritable (element_parts tag key props) → AllWithin levels (element_parts tag key props) → Composed as_element (element_parts tag key props) levels
element_composed tag key props levels is_key all within =
    let first = within.0 in
    let rest = within.1 in
    let second = rest.0 in
    let last = rest.1 in
    let third = last.0 in
    let a = all.1 in
    let b = a.1 in
    record {
      tokens = element_tokens tag key props;
      writable = (is_key, all.0, a.0, b.0);
      shallow = omega (arith, first, second, third);
    }

pub compose : (form : Form) (ps : Parts) (levels : ℕ) → IsReadableForm form ps → AllWritable ps → AllWithin levels ps → Composed form ps levels
compose as_array ps levels readable all within =
    record {
      tokens = ap (λ z. token.begin_array ∷ (z ++ token.end_array ∷ [])) (array_tokens ps);
      writable = trees_writable ps all;
      shallow = let a = tree_within levels ps within in omega (arith, a);
    }
compose as_object ps levels readable all within =
    record {
      tokens = ap (λ z. token.begin_object ∷ (z ++ token.end_object ∷ [])) (object_tokens ps);
      writable = (subst Ascend (sym (props_named ps)) readable, props_writable ps all);
      shallow = let a = prop_within levels ps within in omega (arith, a);
    }
compose as_element ps levels readable all within =
    let same = readable.3 in
    subst (λ z. Composed as_element z levels) (sym same)
    (element_composed readable.0 readable.1 readable.2 levels readable.4 (subst AllWritable same all) (subst (AllWithin levels) same within))

-- ---- a node at its home

note_value : (d : Drawn) (note : Note) → note_at d ≡ Some note → value_at d ≡ Some note.value
note_value (leaf o at) note e = absurd (none-some note e)
note_value (is_token other kind id) note e = ap (λ z. Some z.value) (same_Some other note e)
note_value (composite None form ps) note e = absurd (none-some note e)
note_value (composite (Some other) form ps) note e = ap (λ z. Some z.value) (same_Some other note e)

note_home : (r : Ref) (d : Drawn) (note : Note) (x : Key) (h : Ref) → note_at d ≡ Some note → ◌≡◌ {A = Key × Ref} (x, h) (note.key, r) → In (x, h) (homes_in r d)
note_home r (leaf o at) note x h e i = absurd (none-some note e)
note_home r (is_token other kind id) note x h e i = inl (i ∙ ap (λ z. (z.key, r)) (sym (same_Some other note e)))
note_home r (composite None form ps) note x h e i = absurd (none-some note e)
note_home r (composite (Some other) form ps) note x h e i = inl (i ∙ ap (λ z. (z.key, r)) (sym (same_Some other note e)))

-- a composite
pub composite_node : (g : Ground) (seen : Seen) (k : Key) (r : Ref) (form : Form) (names : List (List ℕ)) (values : List Value) (levels : ℕ) (s b c u : Stage)
    → b ≡ record s { out = s.out ++ opens form } → (w : WroteParts g seen (value_of_key k) form r names values levels b c) → u ≡ record c { out = c.out ++ closes form }
    → IsNode g seen (value_of_key k) k → shape_seen g seen k ≡ Some (record { label = label_of form names; slots = values }) → HasNames form names → IsReadableForm form w.parts
    → WroteNode g seen k r (suc levels) s u
composite_node g seen k r form names values levels s b c u begun w ended node shape has_names readable =
    let ps = w.parts in
    let v = value_of_key k in
    let made = compose form ps levels readable w.writable w.shallow in
    let id = ap (λ z. z.next) begun in
    let first = grows_none g seen v s b (ap (λ z. z.homes) begun) id (ap (λ z. z.rows) begun) (ap (λ z. z.births) begun) (ap (λ z. z.dues) begun) in
    let all = grows_more g seen v [] w.acts s b c first w.grows in
    let same_homes = ap (λ z. z.homes) ended in
    record {
      acts = w.acts;
      drawn = composite (Some (record { value = v; key = k })) form ps;
      grows = grows_out g seen v w.acts s c u all (ended ∙ ap (λ z. record c { out = z }) (sym (ap (λ z. z.out) ended)));
      tokens = ap (λ z. z.out) ended ∙ (ap (λ z. z ++ closes form) (w.tokens ∙ ap (λ z. z ++ tokens_in form ps) (ap (λ z. z.out) begun))
          ∙ (append_assoc (s.out ++ opens form) (tokens_in form ps) (closes form) ∙ (append_assoc s.out (opens form) (tokens_in form ps ++ closes form) ∙ ap (λ z. s.out ++ z) (sym made.tokens))));
      is_note = refl;
      good = (
        (((v, itself, node), inl refl), (values, shape_named, w.are_values)),
        subst (HasNames form) (sym w.are_names) has_names,
        goods_more g seen c.homes u.homes (homes_by b.next w.acts) ((k, r) ∷ homes_by s.next w.acts) (sheets_by b.next w.acts) (sheets_by s.next w.acts)
            (AreDue g seen (dues_by b.next w.acts)) (AreDue g seen (dues_by s.next w.acts)) r ps
            (λ x i. subst (In x) (sym same_homes) i)
            (λ x i. inr (subst (λ n. In x (homes_by n w.acts)) id i))
            (λ x i. subst (λ n. In x (sheets_by n w.acts)) id i)
            (λ x kind n h. (subst (λ m. In (due.Entries n x) (dues_by m w.acts)) id h.0, h.1)) w.good,
      );
      placed = λ x h i. inr (w.placed x h i);
      writable = made.writable;
      shallow = made.shallow;
    }
  where
    shape_named : shape_seen g seen k ≡ Some (record { label = label_of form (names_in w.parts); slots = values })
    shape_named = shape ∙ ap (λ z. Some (record { label = label_of form z; slots = values })) (sym w.are_names)

-- the token of a Map or of a Set
pub token_node : (g : Ground) (seen : Seen) (k : Key) (r : Ref) (kind : Kind) (levels : ℕ) (slots : List Value) (s t u : Stage)
    → Took (entries_row k) s t → u ≡ record t { out = t.out ++ token_of (token_place kind s.next) ∷ [] } → IsMetNode g seen (value_of_key k) k
    → shape_seen g seen k ≡ Some (record { label = token_label kind; slots = slots }) → IsWritable (single (token_place kind s.next))
    → WroteNode g seen k r levels s u
token_node g seen k r kind levels slots s t u took ended met shape writable =
    let v = value_of_key k in
    let grown = grows_took g seen v (entries_row k) s t took tt met in
    record {
      acts = take (entries_row k) ∷ [];
      drawn = is_token (record { value = v; key = k }) kind s.next;
      grows = grows_out g seen v (take (entries_row k) ∷ []) s t u grown (ended ∙ ap (λ z. record t { out = z }) (sym (ap (λ z. z.out) ended)));
      tokens = ap (λ z. z.out) ended ∙ ap (λ z. z ++ token_of (token_place kind s.next) ∷ []) took.out;
      is_note = refl;
      good = (((v, itself, met.node), inl refl), (inl refl, (slots, shape)));
      placed = λ x h i. absurd i;
      writable = writable;
      shallow = omega arith;
    }

-- a node whose home is put first
pub node_put : (g : Ground) (seen : Seen) (k : Key) (r : Ref) (levels : ℕ) (s a u : Stage) → IsPlace r → a ≡ record s { homes = s.homes ++ (k, r) ∷ [] } → IsNew k s.homes → WroteNode g seen k r levels a u → Wrote g seen r (value_of_key k) levels s u
node_put g seen k r levels s a u is_place homed new w =
    let v = value_of_key k in
    let id = ap (λ z. z.next) homed in
    let all = grows_more g seen v (put k r ∷ []) w.acts s a u (grows_put g seen v k r s a is_place homed new) w.grows in
    record {
      acts = put k r ∷ w.acts;
      drawn = w.drawn;
      grows = all;
      tokens = w.tokens ∙ ap (λ z. z ++ tokens_of (tree_of w.drawn)) (ap (λ z. z.out) homed);
      is_value = note_value w.drawn (record { value = v; key = k }) w.is_note;
      good = good_more g seen u.homes u.homes ((k, r) ∷ homes_by a.next w.acts) ((k, r) ∷ homes_by s.next w.acts) (sheets_by a.next w.acts) (sheets_by s.next w.acts)
          (AreDue g seen (dues_by a.next w.acts)) (AreDue g seen (dues_by s.next w.acts)) r w.drawn
          (λ x i. i)
          (λ x i. subst (λ n. In x ((k, r) ∷ homes_by n w.acts)) id i)
          (λ x i. subst (λ n. In x (sheets_by n w.acts)) id i)
          (λ x kind n h. (subst (λ m. In (due.Entries n x) (dues_by m w.acts)) id h.0, h.1)) w.good;
      placed = λ x h i. ⊎_elim (λ e. note_home r w.drawn (record { value = v; key = k }) x h w.is_note e) (λ j. w.placed x h j) i;
      writable = w.writable;
      shallow = w.shallow;
    }

-- ---- what is given in place

pub gives_on : (g : Ground) (seen : Seen) (v w z : Value) → Gives g seen v w → Gives g seen w z → Gives g seen v z
gives_on g seen v _ z itself h = h
gives_on g seen v w z (in_place n end is_seen job ends rest) h = in_place n end is_seen job ends (gives_on g seen _ w z rest h)

abbrev as_value : Value → Drawn → Drawn
as_value v (leaf None at) = leaf None at
as_value v (leaf (Some w) at) = leaf (Some v) at
as_value v (is_token note kind id) = is_token (record { value = v; key = note.key }) kind id
as_value v (composite None form ps) = composite None form ps
as_value v (composite (Some note) form ps) = composite (Some (record { value = v; key = note.key })) form ps

same_tree : (v : Value) (d : Drawn) → tree_of (as_value v d) ≡ tree_of d
same_tree v (leaf None at) = refl
same_tree v (leaf (Some w) at) = refl
same_tree v (is_token note kind id) = refl
same_tree v (composite None form ps) = refl
same_tree v (composite (Some note) form ps) = refl

same_homes : (v : Value) (r : Ref) (d : Drawn) → homes_in r (as_value v d) ≡ homes_in r d
same_homes v r (leaf None at) = refl
same_homes v r (leaf (Some w) at) = refl
same_homes v r (is_token note kind id) = refl
same_homes v r (composite None form ps) = refl
same_homes v r (composite (Some note) form ps) = refl

has_value : (v w : Value) (d : Drawn) → value_at d ≡ Some w → value_at (as_value v d) ≡ Some v
has_value v w (leaf None at) e = absurd (none-some w e)
has_value v w (leaf (Some z) at) e = refl
has_value v w (is_token note kind id) e = refl
has_value v w (composite None form ps) e = absurd (none-some w e)
has_value v w (composite (Some note) form ps) e = refl

given_good : (g : Ground) (seen : Seen) (homes more : Homes) (sheets : List Sheet) (E : Entries) (r : Ref) (v w : Value) (d : Drawn) → Gives g seen v w → value_at d ≡ Some w → IsGood g seen homes more sheets E r d → IsGood g seen homes more sheets E r (as_value v d)
given_good g seen homes more sheets E r v w (leaf None at) gives e h = absurd (none-some w e)
given_good g seen homes more sheets E r v w (leaf (Some z) at) gives e h = (h.0, gives_on g seen v w h.0 gives (subst (λ y. Gives g seen y h.0) (same_Some z w e) h.1), h.2)
given_good g seen homes more sheets E r v w (is_token note kind id) gives e h =
    let home = h.0 in let node = home.0 in (((node.0, gives_on g seen v w node.0 gives (subst (λ y. Gives g seen y node.0) (same_Some note.value w e) node.1), node.2), home.1), h.1)
given_good g seen homes more sheets E r v w (composite None form ps) gives e h = absurd (none-some w e)
given_good g seen homes more sheets E r v w (composite (Some note) form ps) gives e h =
    let first = h.0 in let home = first.0 in let node = home.0 in
    ((((node.0, gives_on g seen v w node.0 gives (subst (λ y. Gives g seen y node.0) (same_Some note.value w e) node.1), node.2), home.1), first.1), h.1, h.2)

pub given_wrote : (g : Ground) (seen : Seen) (r : Ref) (v w : Value) (levels : ℕ) (s u : Stage) → Gives g seen v w → Met g seen v w → Wrote g seen r w levels s u → Wrote g seen r v levels s u
given_wrote g seen r v w levels s u gives met a =
    record {
      acts = a.acts;
      drawn = as_value v a.drawn;
      grows = grows_on g seen v w a.acts s u met a.grows;
      tokens = a.tokens ∙ ap (λ z. s.out ++ tokens_of z) (sym (same_tree v a.drawn));
      is_value = has_value v w a.drawn a.is_value;
      good = given_good g seen u.homes (homes_by s.next a.acts) (sheets_by s.next a.acts) (AreDue g seen (dues_by s.next a.acts)) r v w a.drawn gives a.is_value a.good;
      placed = λ k h i. subst (In (k, h)) (sym (same_homes v r a.drawn)) (a.placed k h i);
      writable = subst IsWritable (sym (same_tree v a.drawn)) a.writable;
      shallow = subst (λ z. depth z ≤ levels) (sym (same_tree v a.drawn)) a.shallow;
    }

-- a leaf, under any reference
pub leaf_wrote : (g : Ground) (seen : Seen) (r : Ref) (v : Value) (levels : ℕ) (s u : Stage) → WroteLeaf g seen v s u → Wrote g seen r v levels s u
leaf_wrote g seen r v levels s u a =
    let inside = a.leaf in
    record {
      acts = a.acts;
      drawn = leaf (Some v) a.place;
      grows = a.grows;
      tokens = a.tokens;
      is_value = refl;
      good = inside;
      placed = λ k h i. absurd (subst (In (k, h)) a.no_places i);
      writable = a.writable;
      shallow = omega arith;
    }
