-- The JSON that a value is written as, and that it is read so.
use Rattle.std.proofs.Common.{◌≡◌, ℕ, ◌-◌, ◌^◌, ◌<◌, ◌≤◌, max, ℤ, pos, negsuc, List, [], ◌∷◌, ◌++◌, Some, refl, sym, ap, ap₂, ◌∙◌, subst, arith, append_assoc, append-nil, option_map}
use Rattle.std.specs.Prelude.{option_and_then}
use Rattle.std.specs.Fmt.{signed_decimal}
use Rattle.std.specs.List.Sorted.{IsStrictlySortedBy}
use lib.Dec.{leb→le}
use Rattle.json.specs.Token.{Token}
use Rattle.json.specs.Token as token
use Rattle.json.specs.Lex.{tokens}
use Rattle.json.specs.Json as json
use Rattle.json.specs.Tree as tree
use Rattle.json.proofs.Printed.Trees.{value-json_tokens}
use Rattle.serde_json.specs.Data as value
use Rattle.serde_json.specs.Data.{Num, Data, Items, Members, put}
use Rattle.serde_json.specs.Read.{of_json, of_items, of_members, read, max_depth}
use Rattle.serde_json.proofs.Numbers.{number_of-decimal, number_of-negative}
use Rattle.flight_value.specs.Graph.{IsSafe, Ascend}
use Rattle.flight_value.specs.declared.graph.Atom.{Atom}
use Rattle.flight_value.specs.declared.graph.Atom.TheVariants as atom
use Rattle.flight_text.specs.declared.mark.Mark.TheVariants as mark
use Rattle.flight_text.specs.Mark.{spelling_of}
use Rattle.flight_text.specs.Ordered as order
use Rattle.flight_text.specs.Ordered.{OrderedMembers}
use Rattle.flight_meaning.specs.declared.place.Place.{Place}
use Rattle.flight_meaning.specs.declared.place.Place.TheVariants as place
use Rattle.flight_payload.specs.Tree.{Tree, single, array, object, element, Trees, no_trees, tree_and, Props, no_props, prop_and, names, depth, tree_depth, prop_depth}
use Rattle.flight_payload.specs.Written.{tokens_of, tree_tokens, prop_tokens, token_of, IsWritableAtom, IsWritablePlace, IsWritable, AreWritable, HaveWritable, IsReadable}
use Rattle.flight_payload.proofs.Joined.{joined, joined_on, joined_none, put_last}

-- ---- atoms and references

abbrev pub num_of : ℤ → Num
num_of (pos n) = value.unsigned n
num_of (negsuc n) = value.negative (negsuc n)

abbrev pub atom_data : Atom → Data
atom_data atom.Null = value.null
atom_data atom.Undefined = value.string (spelling_of mark.Undefined)
atom_data (atom.Bool b) = value.boolean b
atom_data (atom.Whole z) = value.number (num_of z)
atom_data (atom.Big z) = value.string (spelling_of (mark.Big z))
atom_data (atom.Text text) = value.string (spelling_of (mark.Plain text))
atom_data (atom.Date text) = value.string (spelling_of (mark.Date text))
atom_data (atom.Symbol name) = value.string (spelling_of (mark.Symbol name))
atom_data (atom.Constant c) = value.string (spelling_of (mark.Constant c))
atom_data _ = value.null

abbrev pub place_data : Place → Data
place_data (place.Atom a) = atom_data a
place_data (place.Lazy id) = value.string (spelling_of (mark.Lazy id))
place_data (place.Promise id) = value.string (spelling_of (mark.Promise id))
place_data (place.Value at) = value.string (spelling_of (mark.Value at))
place_data (place.Map at) = value.string (spelling_of (mark.Map at))
place_data (place.Set at) = value.string (spelling_of (mark.Set at))
place_data (place.Action id) = value.string (spelling_of (mark.Action id))
place_data _ = value.null

-- the JSON of data whose strings and numbers are those of a single place
abbrev num_text : Num → List ℕ
num_text (value.unsigned n) = signed_decimal (pos n)
num_text (value.negative z) = signed_decimal z
num_text (value.float x) = []

abbrev single_json : Data → json.Json
single_json value.null = json.null
single_json (value.boolean b) = json.boolean b
single_json (value.number x) = json.number (num_text x)
single_json (value.string s) = json.string s
single_json _ = json.null

pub safe_pos : (n : ℕ) → IsSafe (pos n) → n < 2 ^ 53
safe_pos n h = let small = leb→le n (2 ^ 53 - 1) h.1.le in omega (arith, small)

pub safe_negsuc : (n : ℕ) → IsSafe (negsuc n) → n < 2 ^ 53 - 1
safe_negsuc n h = let small = leb→le n (2 ^ 53 - 2) h.0.le in omega (arith, small)

whole_tokens : (z : ℤ) → token.number (signed_decimal z) ∷ [] ≡ tree.json_tokens (single_json (value.number (num_of z)))
whole_tokens (pos n) = refl
whole_tokens (negsuc n) = refl

atom_tokens : (a : Atom) → IsWritableAtom a → token_of (place.Atom a) ∷ [] ≡ tree.json_tokens (single_json (atom_data a))
atom_tokens atom.Null h = refl
atom_tokens atom.Undefined h = refl
atom_tokens (atom.Bool b) h = refl
atom_tokens (atom.Whole z) h = whole_tokens z
atom_tokens (atom.Big z) h = refl
atom_tokens (atom.Text text) h = refl
atom_tokens (atom.Date text) h = refl
atom_tokens (atom.Symbol name) h = refl
atom_tokens (atom.Constant c) h = refl
atom_tokens (atom.Import text) h = absurd h
atom_tokens (atom.Failed digest) h = absurd h
atom_tokens atom.Pending h = absurd h

place_tokens : (p : Place) → IsWritablePlace p → token_of p ∷ [] ≡ tree.json_tokens (single_json (place_data p))
place_tokens (place.Atom a) h = atom_tokens a h
place_tokens (place.Lazy id) h = refl
place_tokens (place.Promise id) h = refl
place_tokens (place.Value at) h = refl
place_tokens (place.Map at) h = refl
place_tokens (place.Set at) h = refl
place_tokens (place.Action id) h = refl
place_tokens _ h = absurd h

whole_read : (z : ℤ) → IsSafe z → of_json (single_json (value.number (num_of z))) ≡ Some (value.number (num_of z))
whole_read (pos n) h = let small = safe_pos n h in ap (option_map value.number) (number_of-decimal n (omega (arith, small)))
whole_read (negsuc n) h = let small = safe_negsuc n h in ap (option_map value.number) (number_of-negative n (omega (arith, small)))

atom_read : (a : Atom) → IsWritableAtom a → of_json (single_json (atom_data a)) ≡ Some (atom_data a)
atom_read atom.Null h = refl
atom_read atom.Undefined h = refl
atom_read (atom.Bool b) h = refl
atom_read (atom.Whole z) h = whole_read z h
atom_read (atom.Big z) h = refl
atom_read (atom.Text text) h = refl
atom_read (atom.Date text) h = refl
atom_read (atom.Symbol name) h = refl
atom_read (atom.Constant c) h = refl
atom_read (atom.Import text) h = refl
atom_read (atom.Failed digest) h = refl
atom_read atom.Pending h = refl

place_read : (p : Place) → IsWritablePlace p → of_json (single_json (place_data p)) ≡ Some (place_data p)
place_read (place.Atom a) h = atom_read a h
place_read (place.Lazy id) h = refl
place_read (place.Promise id) h = refl
place_read (place.Value at) h = refl
place_read (place.Map at) h = refl
place_read (place.Set at) h = refl
place_read (place.Action id) h = refl
place_read _ h = absurd h

single_depth : (d : Data) → tree.depth (single_json d) ≡ 0
single_depth value.null = refl
single_depth (value.boolean b) = refl
single_depth (value.number x) = refl
single_depth (value.string s) = refl
single_depth (value.array ds) = refl
single_depth (value.object ms) = refl

-- ---- values

-- the data of a value
abbrev mutual
  pub data_of : Tree → Data
  data_of (single p) = place_data p
  data_of (array ts) = value.array (items_of ts)
  data_of (object ps) = value.object (members_of ps)
  data_of (element tag key props) = value.array (value.item (value.string (spelling_of mark.Element)) (value.item (data_of tag) (value.item (data_of key) (value.item (data_of props) value.no_items))))

  pub items_of : Trees → Items
  items_of no_trees = value.no_items
  items_of (tree_and t ts) = value.item (data_of t) (items_of ts)

  pub members_of : Props → Members
  members_of no_props = value.no_members
  members_of (prop_and name t ps) = value.member name (data_of t) (members_of ps)

-- and its JSON
abbrev mutual
  json_of : Tree → json.Json
  json_of (single p) = single_json (place_data p)
  json_of (array ts) = json.array (json_items ts)
  json_of (object ps) = json.object (json_members ps)
  json_of (element tag key props) = json.array (json.item (json.string (spelling_of mark.Element)) (json.item (json_of tag) (json.item (json_of key) (json.item (json_of props) json.no_items))))

  json_items : Trees → json.Items
  json_items no_trees = json.no_items
  json_items (tree_and t ts) = json.item (json_of t) (json_items ts)

  json_members : Props → json.Members
  json_members no_props = json.no_members
  json_members (prop_and name t ps) = json.member name (json_of t) (json_members ps)

-- ---- its tokens

mutual
  value_tokens : (t : Tree) → IsWritable t → tokens_of t ≡ tree.json_tokens (json_of t)
  value_tokens (single p) h = place_tokens p h
  value_tokens (array ts) h = ap (λ xs. token.begin_array ∷ xs) (items_tokens ts h)
  value_tokens (object ps) h = ap (λ xs. token.begin_object ∷ xs) (members_tokens ps h.1)
  value_tokens (element tag key props) h =
      ap (λ xs. token.begin_array ∷ token.string (spelling_of mark.Element) ∷ xs)
      (ap₂ (λ xs ys. xs ++ ys) (value_tokens tag h.1) (ap₂ (λ xs ys. xs ++ ys) (value_tokens key h.2) (ap (λ xs. xs ++ token.end_array ∷ []) (value_tokens props h.3))))

  items_tokens : (ts : Trees) → AreWritable ts → tree_tokens ts ++ token.end_array ∷ [] ≡ tree.items_tokens (json_items ts)
  items_tokens no_trees h = refl
  items_tokens (tree_and t ts) h =
      append_assoc (tokens_of t) (tree_tokens ts) (token.end_array ∷ []) ∙ ap₂ (λ xs ys. xs ++ ys) (value_tokens t h.0) (items_tokens ts h.1)

  members_tokens : (ps : Props) → HaveWritable ps → prop_tokens ps ++ token.end_object ∷ [] ≡ tree.members_tokens (json_members ps)
  members_tokens no_props h = refl
  members_tokens (prop_and name t ps) h =
      ap (λ xs. token.key name ∷ xs)
      (append_assoc (tokens_of t) (prop_tokens ps) (token.end_object ∷ []) ∙ ap₂ (λ xs ys. xs ++ ys) (value_tokens t h.0) (members_tokens ps h.1))

-- ---- its depth

mutual
  value_depth : (t : Tree) → tree.depth (json_of t) ≡ depth t
  value_depth (single p) = single_depth (place_data p)
  value_depth (array ts) = let e = items_depth ts in omega arith
  value_depth (object ps) = let e = members_depth ps in omega arith
  value_depth (element tag key props) =
      let a = value_depth tag in
      let b = value_depth key in
      let c = value_depth props in
      omega arith

  items_depth : (ts : Trees) → tree.items_depth (json_items ts) ≡ tree_depth ts
  items_depth no_trees = refl
  items_depth (tree_and t ts) = ap₂ max (value_depth t) (items_depth ts)

  members_depth : (ps : Props) → tree.members_depth (json_members ps) ≡ prop_depth ps
  members_depth no_props = refl
  members_depth (prop_and name t ps) = ap₂ max (value_depth t) (members_depth ps)

-- ---- what is read

names_same : (ps : Props) → order.names (members_of ps) ≡ names ps
names_same no_props = refl
names_same (prop_and name t ps) = ap (λ ks. name ∷ ks) (names_same ps)

ordered : (ms : Members) → Ascend (order.names ms) → OrderedMembers ms
unfolding IsStrictlySortedBy
ordered value.no_members h = tt
ordered (value.member name d ms) h = (h.0, ordered ms h.1)

mutual
  value_read : (t : Tree) → IsWritable t → of_json (json_of t) ≡ Some (data_of t)
  value_read (single p) h = place_read p h
  value_read (array ts) h = ap (option_map value.array) (items_read ts h)
  value_read (object ps) h = ap (option_map value.object) (members_read ps value.no_members (ordered (members_of ps) (subst Ascend (sym (names_same ps)) h.0)) h.1)
  value_read (element tag key props) h = rw (value_read tag h.1, value_read key h.2, value_read props h.3) refl

  items_read : (ts : Trees) → AreWritable ts → of_items (json_items ts) ≡ Some (items_of ts)
  items_read no_trees h = refl
  items_read (tree_and t ts) h = rw (value_read t h.0, items_read ts h.1) refl

  members_read : (ps : Props) (found : Members) → OrderedMembers (joined found (members_of ps)) → HaveWritable ps → of_members (json_members ps) found ≡ Some (joined found (members_of ps))
  members_read no_props found o h = ap Some (sym (joined_none found))
  members_read (prop_and name t ps) found o h =
      ap (option_and_then (λ d. of_members (json_members ps) (put name d found))) (value_read t h.0)
      ∙ (ap (of_members (json_members ps)) (put_last found name (data_of t) (members_of ps) o)
      ∙ (members_read ps (joined found (value.member name (data_of t) value.no_members)) (subst OrderedMembers (sym (joined_on found name (data_of t) (members_of ps))) o) h.1
      ∙ ap Some (joined_on found name (data_of t) (members_of ps))))

-- a text with the tokens of a value is read as its data
pub read_again : (text : List ℕ) (t : Tree) → tokens text ≡ tokens_of t → IsReadable t → read text ≡ Some (data_of t)
read_again text t e h =
    let shallow : tree.depth (json_of t) ≤ max_depth = subst (λ n. n ≤ 127) (sym (value_depth t)) h.shallow in
    ap (λ o. option_and_then of_json (option_and_then (λ p. json.if_last p.0 p.1) o))
    (ap (json.value max_depth) (e ∙ (value_tokens t h.writable ∙ sym (append-nil (tree.json_tokens (json_of t))))) ∙ value-json_tokens (json_of t) max_depth [] shallow)
    ∙ value_read t h.writable
