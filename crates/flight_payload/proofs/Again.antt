-- The places of a value's JSON are the value's own.
use Rattle.std.proofs.Common.{◌≡◌, ◌≢◌, ℕ, ◌+◌, ◌-◌, ◌^◌, ◌<◌, ◌||◌, Bool, true, false, not, nat_eq, ℤ, pos, negsuc, List, [], ◌∷◌, ◌++◌, Some, refl, sym, ap, ap₂, ◌∙◌, subst, arith, append-nil, codes, lt-ltb}
use Rattle.std.specs.Prelude.{if◌then◌else◌}
use Rattle.std.specs.List.{starts_with}
use Rattle.std.proofs.lemmas.Bool.Decides.{nat_tests}
use Rattle.serde_json.specs.Data as value
use Rattle.serde_json.specs.Data.{Data, Items, Members}
use Rattle.serde_json.specs.Read.{read}
use Rattle.json.specs.Lex.{tokens}
use Rattle.flight_value.specs.Graph.{IsSafe}
use Rattle.flight_value.specs.declared.graph.Atom.{Atom}
use Rattle.flight_value.specs.declared.graph.Atom.TheVariants as atom
use Rattle.flight_text.specs.declared.mark.Mark.{Mark}
use Rattle.flight_text.specs.declared.mark.Mark.TheVariants as mark
use Rattle.flight_text.specs.Mark.{IsSpelling, IsSpellable, spelling_of}
use Rattle.flight_text.specs.Whole.{whole_of}
use Rattle.flight_text.proofs.Written.{is_spelling}
use Rattle.flight_text.proofs.Lines.{same_mark}
use Rattle.flight_meaning.specs.declared.place.Place.{Place}
use Rattle.flight_meaning.specs.declared.place.Place.TheVariants as place
use Rattle.flight_meaning.specs.declared.place.Named.{Named}
use Rattle.flight_place.specs.declared.manner.Manner.TheVariants.{Wire}
use Rattle.flight_place.specs.Tokens.{is_dollar, is_text, place_of}
use Rattle.flight_place.specs.Places.{Visit, token, faulty, number_visit, is_mark, is_marked, is_key, is_element, count, item_count, member_count, item_numbers, member_numbers, visits, element_visits, item_visits, member_visits, array_visits, HasPlace, HavePlaces}
use Rattle.flight_place.specs.declared.fault.PlaceKind.TheVariants.{BadElement}
use Rattle.flight_place.specs.Rows.{model_visits}
use Rattle.flight_payload.specs.Tree as tree
use Rattle.flight_payload.specs.Tree.{Tree, single, array, object, element, Trees, no_trees, tree_and, Props, no_props, prop_and, tree_count, prop_count, tree_numbers, prop_numbers, places_from, tree_places, prop_places}
use Rattle.flight_payload.specs.Written.{tokens_of, IsWritableAtom, IsWritablePlace, IsKey, IsWritable, AreWritable, HaveWritable, IsReadable}
use Rattle.flight_payload.proofs.Data.{num_of, atom_data, place_data, data_of, items_of, members_of, safe_pos, safe_negsuc, read_again}

-- ---- strings

other_than_dollar : (s : List ℕ) → s ≢ codes "$" → is_dollar s ≡ false
other_than_dollar [] h = refl
other_than_dollar (b ∷ []) h = by (nat_eq b 36) refl
  where
    by : (v : Bool) → nat_eq b 36 ≡ v → v ≡ false
    by true e = let same : b ≡ 36 = grind (arith, nat_tests) in absurd (h (ap (λ x. x ∷ []) same))
    by false e = refl
other_than_dollar (b ∷ c ∷ s) h = refl

no_mark : (m : Mark) → IsSpellable m → m ≢ mark.Element → is_dollar (spelling_of m) ≡ false
no_mark m is other = other_than_dollar (spelling_of m) (λ e. other (same_mark (codes "$") m mark.Element (subst (λ s. IsSpelling s m) e (is_spelling m is)) refl))

has_place : (n : ℕ) (m : Mark) → IsSpellable m → m ≢ mark.Element → HasPlace Wire (token n (spelling_of m)) (place_of m)
has_place n m is other = record { allowed = no_mark m is other; spelled = m; spells = is_spelling m is; is_place = refl }

-- ---- atoms and references

small_pos : (n : ℕ) → n < 2 ^ 53 → whole_of (value.unsigned n) ≡ Some (pos n)
small_pos n h = rw (lt-ltb n (2 ^ 53) h) refl

small_negsuc : (n : ℕ) → n < 2 ^ 53 - 1 → whole_of (value.negative (negsuc n)) ≡ Some (negsuc n)
small_negsuc n h = rw (lt-ltb n (2 ^ 53 - 1) h) refl

whole_same : (z : ℤ) → IsSafe z → whole_of (num_of z) ≡ Some z
whole_same (pos n) h = small_pos n (safe_pos n h)
whole_same (negsuc n) h = small_negsuc n (safe_negsuc n h)

atom_have : (n : ℕ) (a : Atom) → IsWritableAtom a → HavePlaces Wire (visits Wire n (atom_data a)) (place.Atom a ∷ [])
atom_have n atom.Null h = (refl, tt)
atom_have n atom.Undefined h = (has_place n mark.Undefined tt (λ e. cc), tt)
atom_have n (atom.Bool b) h = (refl, tt)
atom_have n (atom.Whole z) h = (subst (λ o. HasPlace Wire (number_visit o) (place.Atom (atom.Whole z))) (sym (whole_same z h)) refl, tt)
atom_have n (atom.Big z) h = (has_place n (mark.Big z) h (λ e. cc), tt)
atom_have n (atom.Text text) h = (has_place n (mark.Plain text) tt (λ e. cc), tt)
atom_have n (atom.Date text) h = (has_place n (mark.Date text) h (λ e. cc), tt)
atom_have n (atom.Symbol name) h = (has_place n (mark.Symbol name) tt (λ e. cc), tt)
atom_have n (atom.Constant c) h = (has_place n (mark.Constant c) tt (λ e. cc), tt)
atom_have n (atom.Import text) h = absurd h
atom_have n (atom.Failed digest) h = absurd h
atom_have n atom.Pending h = absurd h

place_have : (n : ℕ) (p : Place) → IsWritablePlace p → HavePlaces Wire (visits Wire n (place_data p)) (p ∷ [])
place_have n (place.Atom a) h = atom_have n a h
place_have n (place.Lazy id) h = (has_place n (mark.Lazy id) h (λ e. cc), tt)
place_have n (place.Promise id) h = (has_place n (mark.Promise id) h (λ e. cc), tt)
place_have n (place.Value at) h = (has_place n (mark.Value at) h (λ e. cc), tt)
place_have n (place.Map at) h = (has_place n (mark.Map at) h (λ e. cc), tt)
place_have n (place.Set at) h = (has_place n (mark.Set at) h (λ e. cc), tt)
place_have n (place.Action id) h = (has_place n (mark.Action id) h (λ e. cc), tt)
place_have n _ h = absurd h

atom_no_mark : (a : Atom) → IsWritableAtom a → is_mark (atom_data a) ≡ false
atom_no_mark atom.Null h = refl
atom_no_mark atom.Undefined h = refl
atom_no_mark (atom.Bool b) h = refl
atom_no_mark (atom.Whole z) h = refl
atom_no_mark (atom.Big z) h = refl
atom_no_mark (atom.Text text) h = no_mark (mark.Plain text) tt (λ e. cc)
atom_no_mark (atom.Date text) h = no_mark (mark.Date text) h (λ e. cc)
atom_no_mark (atom.Symbol name) h = no_mark (mark.Symbol name) tt (λ e. cc)
atom_no_mark (atom.Constant c) h = no_mark (mark.Constant c) tt (λ e. cc)
atom_no_mark _ h = refl

place_no_mark : (p : Place) → IsWritablePlace p → is_mark (place_data p) ≡ false
place_no_mark (place.Atom a) h = atom_no_mark a h
place_no_mark (place.Lazy id) h = no_mark (mark.Lazy id) h (λ e. cc)
place_no_mark (place.Promise id) h = no_mark (mark.Promise id) h (λ e. cc)
place_no_mark (place.Value at) h = no_mark (mark.Value at) h (λ e. cc)
place_no_mark (place.Map at) h = no_mark (mark.Map at) h (λ e. cc)
place_no_mark (place.Set at) h = no_mark (mark.Set at) h (λ e. cc)
place_no_mark (place.Action id) h = no_mark (mark.Action id) h (λ e. cc)
place_no_mark _ h = refl

-- ---- what stands first in an array, and the key of an element

value_no_mark : (t : Tree) → IsWritable t → is_mark (data_of t) ≡ false
value_no_mark (single p) h = place_no_mark p h
value_no_mark (array ts) h = refl
value_no_mark (object ps) h = refl
value_no_mark (element tag key props) h = refl

unmarked : (ts : Trees) → AreWritable ts → is_marked (items_of ts) ≡ false
unmarked no_trees h = refl
unmarked (tree_and t ts) h = value_no_mark t h.0

abbrev begins_so : List ℕ → Bool
begins_so text = starts_with nat_eq text (codes "$")

text_is_text : (text : List ℕ) (v : Bool) → begins_so text ≡ v → is_text (if v then codes "$" ++ text else text) ≡ true
text_is_text text false e = ap (λ x. not x || starts_with nat_eq text (codes "$$")) e
text_is_text [] true e = absurd cc
text_is_text (b ∷ bs) true e = let same : b ≡ 36 = grind (arith, nat_tests) in subst (λ x. is_text (36 ∷ x ∷ bs) ≡ true) (sym same) refl

key_is_key : (t : Tree) → IsKey t → is_key (data_of t) ≡ true
key_is_key (single (place.Atom atom.Null)) h = refl
key_is_key (single (place.Atom (atom.Text text))) h = text_is_text text (begins_so text) refl
key_is_key _ h = absurd h

-- ---- numbers

place_count : (p : Place) → count (place_data p) ≡ 1
place_count (place.Atom atom.Null) = refl
place_count _ = refl

mutual
  count_same : (t : Tree) → count (data_of t) ≡ tree.count t
  count_same (single p) = place_count p
  count_same (array ts) = ap (λ k. 1 + k) (item_count_same ts)
  count_same (object ps) = ap (λ k. 1 + k) (member_count_same ps)
  count_same (element tag key props) =
      let a = count_same tag in
      let b = count_same key in
      let c = count_same props in
      omega arith

  item_count_same : (ts : Trees) → item_count (items_of ts) ≡ tree_count ts
  item_count_same no_trees = refl
  item_count_same (tree_and t ts) = ap₂ (λ a b. a + b) (count_same t) (item_count_same ts)

  member_count_same : (ps : Props) → member_count (members_of ps) ≡ prop_count ps
  member_count_same no_props = refl
  member_count_same (prop_and name t ps) = ap₂ (λ a b. a + b) (count_same t) (member_count_same ps)

numbers_same : (n : ℕ) (ts : Trees) → item_numbers n (items_of ts) ≡ tree_numbers n ts
numbers_same n no_trees = refl
numbers_same n (tree_and t ts) = ap (λ ns. n ∷ ns) (ap (λ k. item_numbers (n + k) (items_of ts)) (count_same t) ∙ numbers_same (n + tree.count t) ts)

named_same : (n : ℕ) (ps : Props) → member_numbers n (members_of ps) ≡ prop_numbers n ps
named_same n no_props = refl
named_same n (prop_and name t ps) =
    let first : Named = record { name = name; place = n } in
    ap (λ ns. first ∷ ns) (ap (λ k. member_numbers (n + k) (members_of ps)) (count_same t) ∙ named_same (n + tree.count t) ps)

element_same : (n : ℕ) (tag key props : Tree) → tree.element_place n tag key ≡ place.Element (n + 2) (n + 2 + count (data_of tag)) (n + 2 + count (data_of tag) + count (data_of key))
element_same n tag key props = rw (count_same tag, count_same key) refl

-- ---- places

have_append : (vs ws : List Visit) (ps qs : List Place) → HavePlaces Wire vs ps → HavePlaces Wire ws qs → HavePlaces Wire (vs ++ ws) (ps ++ qs)
have_append [] ws [] qs h k = k
have_append [] ws (p ∷ ps) qs h k = absurd h
have_append (v ∷ vs) ws [] qs h k = absurd h
have_append (v ∷ vs) ws (p ∷ ps) qs h k = (h.0, have_append vs ws ps qs h.1 k)

chosen_unmarked : (m e : Bool) (vs fs ws : List Visit) (ps : List Place) → m ≡ false → HavePlaces Wire ws ps → HavePlaces Wire (if m then (if e then vs else fs) else ws) ps
chosen_unmarked true e vs fs ws ps off h = absurd cc
chosen_unmarked false e vs fs ws ps off h = h

chosen_element : (e : Bool) (vs fs : List Visit) (ps : List Place) → e ≡ true → HavePlaces Wire vs ps → HavePlaces Wire (if e then vs else fs) ps
chosen_element true vs fs ps on h = h
chosen_element false vs fs ps on h = absurd cc

abbrev element_items : Tree → Tree → Tree → Items
element_items tag key props = value.item (value.string (spelling_of mark.Element)) (value.item (data_of tag) (value.item (data_of key) (value.item (data_of props) value.no_items)))

-- the slots of an element, one after another
slots_have : (n a b : ℕ) (tag key props : Data) (ps qs rs : List Place) → count tag ≡ a → count key ≡ b → HavePlaces Wire (visits Wire n tag) ps → HavePlaces Wire (visits Wire (n + a) key) qs → HavePlaces Wire (visits Wire (n + a + b) props) rs
    → HavePlaces Wire (item_visits Wire n (value.item tag (value.item key (value.item props value.no_items)))) (ps ++ (qs ++ rs))
slots_have n a b tag key props ps qs rs is_a is_b h i j = rw (is_a, is_b, append-nil) (have_append (visits Wire n tag) (visits Wire (n + a) key ++ visits Wire (n + a + b) props) ps (qs ++ rs) h (have_append (visits Wire (n + a) key) (visits Wire (n + a + b) props) qs rs i j))

mutual
  value_have : (n : ℕ) (t : Tree) → IsWritable t → HavePlaces Wire (visits Wire n (data_of t)) (places_from n t)
  value_have n (single p) h = place_have n p h
  value_have n (array ts) h =
      chosen_unmarked (is_marked (items_of ts)) (is_element (items_of ts)) (element_visits Wire n (items_of ts)) (faulty (BadElement n) ∷ []) (array_visits Wire n (items_of ts)) (places_from n (array ts))
      (unmarked ts h) (ap place.Array (sym (numbers_same (n + 1) ts)), items_have (n + 1) ts h)
  value_have n (object ps) h = (ap place.Object (sym (named_same (n + 1) ps)), members_have (n + 1) ps h.1)
  value_have n (element tag key props) h =
      chosen_element (is_key (data_of key)) (element_visits Wire n (element_items tag key props)) (faulty (BadElement n) ∷ []) (places_from n (element tag key props)) (key_is_key key h.0) (
        element_same n tag key props,
        (
          refl,
          slots_have (n + 2) (tree.count tag) (tree.count key) (data_of tag) (data_of key) (data_of props) (places_from (n + 2) tag) (places_from (n + 2 + tree.count tag) key) (places_from (n + 2 + tree.count tag + tree.count key) props) (count_same tag) (count_same key)
              (value_have (n + 2) tag h.1) (value_have (n + 2 + tree.count tag) key h.2) (value_have (n + 2 + tree.count tag + tree.count key) props h.3),
        ),
      )

  items_have : (n : ℕ) (ts : Trees) → AreWritable ts → HavePlaces Wire (item_visits Wire n (items_of ts)) (tree_places n ts)
  items_have n no_trees h = tt
  items_have n (tree_and t ts) h =
      have_append (visits Wire n (data_of t)) (item_visits Wire (n + count (data_of t)) (items_of ts)) (places_from n t) (tree_places (n + tree.count t) ts) (value_have n t h.0)
      (subst (λ k. HavePlaces Wire (item_visits Wire (n + k) (items_of ts)) (tree_places (n + tree.count t) ts)) (sym (count_same t)) (items_have (n + tree.count t) ts h.1))

  members_have : (n : ℕ) (ps : Props) → HaveWritable ps → HavePlaces Wire (member_visits Wire n (members_of ps)) (prop_places n ps)
  members_have n no_props h = tt
  members_have n (prop_and name t ps) h =
      have_append (visits Wire n (data_of t)) (member_visits Wire (n + count (data_of t)) (members_of ps)) (places_from n t) (prop_places (n + tree.count t) ps) (value_have n t h.0)
      (subst (λ k. HavePlaces Wire (member_visits Wire (n + k) (members_of ps)) (prop_places (n + tree.count t) ps)) (sym (count_same t)) (members_have (n + tree.count t) ps h.1))

-- a text with the tokens of a value has the value's places
pub read_have : (text : List ℕ) (t : Tree) → tokens text ≡ tokens_of t → IsReadable t → HavePlaces Wire (model_visits Wire (read text)) (places_from 0 t)
read_have text t e h = subst (λ o. HavePlaces Wire (model_visits Wire o) (places_from 0 t)) (sym (read_again text t e h)) (value_have 0 t h.writable)
