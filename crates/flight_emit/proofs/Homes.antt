-- What is meant at a place is written there, and each node at home there has its slots.
use Rattle.std.proofs.Common.{◌≡◌, ℕ, ◌+◌, List, [], ◌∷◌, ◌++◌, map, Option, Some, None, refl, sym, ap, ap₂, ◌∙◌, subst}
use Rattle.std.proofs.lemmas.Option.{none-some, same_Some}
use Rattle.std.specs.Prelude.{slice_get}
use Rattle.std.specs.List.{AllZip}
use Rattle.flight_value.specs.Listed.{In}
use Rattle.flight_value.specs.Store as store
use Rattle.flight_value.specs.Store.{Label, Shape}
use Rattle.flight_value.specs.declared.graph.Atom.{Atom}
use Rattle.flight_value.specs.declared.key.Key.{Key}
use Rattle.flight_value.specs.declared.key.Key.TheVariants as key
use Rattle.flight_text.specs.declared.mark.Ref.{Ref}
use Rattle.flight_row.specs.declared.row.RowKind.{RowKind}
use Rattle.flight_row.specs.declared.row.RowKind.TheVariants as row
use Rattle.flight_render.specs.Jobs.{Value, element}
use Rattle.flight_render.specs.Laws.{IsLasting}
use Rattle.flight_meaning.specs.declared.place.Place.{Place}
use Rattle.flight_meaning.specs.declared.place.Place.TheVariants as place
use Rattle.flight_meaning.specs.declared.place.PlaceTree.{PlaceTree}
use Rattle.flight_meaning.specs.declared.place.PlacedRow.{PlacedRow}
use Rattle.flight_meaning.specs.Linked.{rows_of, Spot, place_at}
use Rattle.flight_meaning.specs.Resolve.{Path, to, found, Ends, IsStop}
use Rattle.flight_meaning.specs.Meaning as wire
use Rattle.flight_meaning.specs.Meaning.{Written, at_place, at_places, Identity, made_at, Token, map_token, set_token, token_label, entry, both, entries, slots_in, node_here, HasShapeHere, HasShape}
use Rattle.flight_payload.specs.Tree.{count}
use Rattle.flight_state.specs.Emits.{HasValueRow}
use Rattle.flight_state.specs.Fits.{IsAtomRow}
use Rattle.flight_state.specs.Local as local
use Rattle.flight_state.specs.Local.{shape_seen, NamesAt, Names, WrittenHere, MeantHere, HasValue, StepsTo, EndsHere}
use Rattle.flight_state.proofs.NamesLead.{names_lead, value_leads}
use Rattle.flight_emit.specs.Sheet.{Note, Form, as_array, as_object, as_element, Drawn, leaf, token, composite, Parts, no_parts, part_and, names_in, tree_of, head, value_at, values_in, token_place, entry_values, all_entries, values_of, label_of, filled, spot}
use Rattle.flight_emit.specs.Good as good
use Rattle.flight_emit.specs.Good.{Gives, IsNode, HasAtomRow, IsLeaf, HasEntries, IsPlainKind}
use Rattle.flight_emit.proofs.Rows.{row_there, place_there}
use Rattle.flight_emit.proofs.Shapes.{numbers_in, tree_numbers_in}
use Rattle.flight_emit.proofs.Sits.{Paper, homes, rows, meant, Filled, places, at_path, Sits, PartsSit, value_first, composite_at, parts_at, sheet_sits, SitsAtHome}
use Rattle.flight_emit.specs.Wrote.{note_at}

-- ---- rows with values

pub plain_kind : (p : Paper) (x : Filled p) → IsPlainKind x.kind
plain_kind p x = let good = p.on.good (filled x.id x.kind x.drawn) x.is_sheet in good.0

pub has_value : (kind : RowKind) → IsPlainKind kind → HasValue kind
has_value row.Model h = tt
has_value row.Import h = tt
has_value row.Error h = tt
has_value row.Text h = tt
has_value row.Close h = absurd h
has_value (row.Open flow) h = absurd h

abbrev pub tree_on : {p : Paper} → Filled p → PlaceTree
tree_on x = record { kind = x.kind; places = places x }

pub only_row : (p : Paper) (x : Filled p) → rows_of x.id (rows p) ≡ tree_on x ∷ []
only_row p x = row_there p.sheets (filled x.id x.kind x.drawn) p.on.once x.is_sheet

pub walk : (p : Paper) (x : Filled p) (path : Path) (last : ℕ) → StepsTo (places x) 0 path last → EndsHere (places x) last → Ends (rows p) (to x.id path) (found (spot x.id last))
walk p x path last steps ends = names_lead (rows p) x.id (tree_on x) [] path last (only_row p x) (has_value x.kind (plain_kind p x)) steps ends

pub value_row : (p : Paper) (x : Filled p) → HasValueRow (rows p) x.id
value_row p x = value_leads (rows p) x.id (tree_on x) [] (only_row p x) (has_value x.kind (plain_kind p x))

pub spot_place : (p : Paper) (x : Filled p) (n : ℕ) → place_at (rows p) (spot x.id n) ≡ slice_get (places x) n
spot_place p x n = place_there p.sheets x.id x.kind x.drawn p.on.once x.is_sheet n

pub atom_row : (p : Paper) (id : ℕ) (a : Atom) → HasAtomRow p.sheets id a → IsAtomRow (rows p) id a
atom_row p id a h =
    let x : Filled p = record { id = id; kind = h.0; drawn = leaf None (place.Atom a); is_sheet = h.1 } in
    (walk p x [] 0 refl (place.Atom a, refl, tt), spot_place p x 0)

-- ---- atoms, references, and what is given in place

pub leaf_here : (p : Paper) (s : Option Spot) (at : Place) (v : Value) → IsLeaf p.g p.seen (homes p) p.sheets at v → WrittenHere p.g p.seen (homes p) p.more (rows p) s at v
leaf_here p s at v (good.an_atom a is_place target certain) = local.an_atom a is_place target certain
leaf_here p s at v (good.an_atom_row a id refers is_row target certain) = local.an_atom_row a id refers (atom_row p id a is_row) target certain
leaf_here p s at v (good.a_known_atom a k r refers home of target) = local.a_known_atom a k r refers home of target
leaf_here p s at v (good.a_reference k r shape node home is_shape refers) = local.a_reference k r shape node.is_seen node.no_job node.is_target node.lasting home is_shape refers
leaf_here p s at v (good.a_stream stream r target home refers) = local.a_stream stream r target home refers
leaf_here p s at v (good.a_task n r is_seen job home refers) = local.a_task n r is_seen job home refers

pub gives_here : (p : Paper) (s : Option Spot) (at : Place) (v w : Value) → Gives p.g p.seen v w → WrittenHere p.g p.seen (homes p) p.more (rows p) s at w → WrittenHere p.g p.seen (homes p) p.more (rows p) s at v
gives_here p s at v _ good.itself h = h
gives_here p s at v w (good.in_place n end is_seen job ends gives) h = local.what_is_given n end is_seen job ends (gives_here p s at (local.value_seen p.g p.seen (element n) end) w gives h)

-- ---- names of nodes

-- nodes of this label are known by their places
abbrev pub IsPlaceLabel : Label → Type 0
IsPlaceLabel store.promise = ⊥
IsPlaceLabel (store.action name) = ⊥
IsPlaceLabel label = Unit {0}

abbrev pub IsNamedPlace : List PlacedRow → Ref → Identity → Type 0
IsNamedPlace all r i = (s : Spot) × (i ≡ made_at s) × Ends all (to r.id r.path) (found s)

pub names_place : (label : Label) (all : List PlacedRow) (r : Ref) (i : Identity) → IsPlaceLabel label → IsNamedPlace all r i → NamesAt label all r i
names_place store.array all r i h n = n
names_place (store.object names) all r i h n = n
names_place store.map_of all r i h n = n
names_place store.set_of all r i h n = n
names_place store.element all r i h n = n
names_place (store.stream flow state) all r i h n = n
names_place store.promise all r i h n = absurd h
names_place (store.action name) all r i h n = absurd h

pub place_names : (label : Label) (all : List PlacedRow) (r : Ref) (i : Identity) → IsPlaceLabel label → NamesAt label all r i → IsNamedPlace all r i
place_names store.array all r i h n = n
place_names (store.object names) all r i h n = n
place_names store.map_of all r i h n = n
place_names store.set_of all r i h n = n
place_names store.element all r i h n = n
place_names (store.stream flow state) all r i h n = n
place_names store.promise all r i h n = absurd h
place_names (store.action name) all r i h n = absurd h

abbrev pub IsNamedNode : Paper → Key → Ref → Identity → Type 0
IsNamedNode p k r i = (shape : Shape Value) × (shape_seen p.g p.seen k ≡ Some shape) × NamesAt shape.label (rows p) r i

pub names_node : (p : Paper) (k : Key) (r : Ref) (i : Identity) → IsLasting k → IsNamedNode p k r i → Names p.g p.seen (rows p) k r i
names_node p (key.Made n) r i h named = named
names_node p (key.Source source n) r i h named = named
names_node p (key.Settled source) r i h named = named
names_node p (key.Stream stream) r i h named = absurd h
names_node p (key.Action action) r i h named = named
names_node p (key.Client client) r i h named = named
names_node p (key.Symbol name) r i h named = named
names_node p (key.Server n) r i h named = named

pub node_names : (p : Paper) (k : Key) (r : Ref) (i : Identity) → IsLasting k → Names p.g p.seen (rows p) k r i → IsNamedNode p k r i
node_names p (key.Made n) r i h named = named
node_names p (key.Source source n) r i h named = named
node_names p (key.Settled source) r i h named = named
node_names p (key.Stream stream) r i h named = absurd h
node_names p (key.Action action) r i h named = named
node_names p (key.Client client) r i h named = named
node_names p (key.Symbol name) r i h named = named
node_names p (key.Server n) r i h named = named

pub form_label : (form : Form) (names : List (List ℕ)) → IsPlaceLabel (label_of form names)
form_label as_array names = tt
form_label as_object names = tt
form_label as_element names = tt

pub token_named : (kind : Token) → IsPlaceLabel (token_label kind)
token_named map_token = tt
token_named set_token = tt

-- ---- the slots of what sits

abbrev MeansSlot : Paper → Value → Written → Type 0
MeansSlot p v w = MeantHere p.g p.seen (rows p) p.births (meant p) v w

same_first : {A : Type 0} (x y : A) (xs ys : List A) → x ∷ xs ≡ y ∷ ys → x ≡ y
same_first x y xs ys e = cc

same_rest : {A : Type 0} (x y : A) (xs ys : List A) → x ∷ xs ≡ y ∷ ys → xs ≡ ys
same_rest x y xs ys e = cc

none_and : {A : Type 0} (x : A) (xs : List A) → x ∷ xs ≡ [] → ⊥
none_and x xs e = cc

empty_and : {A : Type 0} (x : A) (xs : List A) → [] ≡ x ∷ xs → ⊥
empty_and x xs e = cc

slot_means : (p : Paper) (x : Filled p) (d : Drawn) (n : ℕ) (path : Path) (v : Value) → Sits p x d n path → value_at d ≡ Some v → MeansSlot p v (at_place (spot x.id n))
slot_means p x d n path v s e = local.at_spot (spot x.id n) (s.meant n v (value_first n d v e))

parts_mean : (p : Paper) (x : Filled p) (ps : Parts) (n : ℕ) (path : Path) (here : Spot) (slots : List Value) → here.id ≡ x.id → here.nth ≡ 0 → PartsSit p x n path ps → values_in ps ≡ map Some slots → AllZip (MeansSlot p) slots (at_places here (numbers_in n ps))
parts_mean p x no_parts n path here [] is_id is_nth s e = tt
parts_mean p x no_parts n path here (v ∷ slots) is_id is_nth s e = absurd (empty_and (Some v) (map Some slots) e)
parts_mean p x (part_and name d ps) n path here [] is_id is_nth s e = absurd (none_and (value_at d) (values_in ps) e)
parts_mean p x (part_and name d ps) n path here (v ∷ slots) is_id is_nth s e = (
  subst (λ z. MeansSlot p v (at_place z)) (ap₂ (λ a b. record { id = a; nth = b; at = n }) (sym is_id) (sym is_nth))
      (slot_means p x d n (path ++ name ∷ []) v s.0 (same_first (value_at d) (Some v) (values_in ps) (map Some slots) e)),
  parts_mean p x ps (n + count (tree_of d)) path here slots is_id is_nth s.1 (same_rest (value_at d) (Some v) (values_in ps) (map Some slots) e),
)

-- the slots of the entries of a Map
pub record EntriesMean (p : Paper) (x : Filled p) (n : ℕ) (ps : Parts) (slots : List Value) : Type 0 where
  pub written : List Written
  pub are : entries (rows p) (spot x.id 0) (numbers_in n ps) ≡ Some written
  pub mean : AllZip (MeansSlot p) slots written

two_more : (p : Paper) (x : Filled p) (n k : ℕ) (a b : Drawn) (name one other : List ℕ) (path : Path) (rest : Parts) (v w : Value) (slots : List Value)
    → Sits p x (composite None as_array (part_and one a (part_and other b no_parts))) n path
    → value_at a ≡ Some v → value_at b ≡ Some w → k ≡ n + count (tree_of (composite None as_array (part_and one a (part_and other b no_parts)))) → EntriesMean p x k rest slots
    → EntriesMean p x n (part_and name (composite None as_array (part_and one a (part_and other b no_parts))) rest) (v ∷ w ∷ slots)
two_more p x n k a b name one other path rest v w slots s first second e others =
    let inside = parts_at p x None as_array (part_and one a (part_and other b no_parts)) n path s in
    let is_pair = spot_place p x n ∙ (let stands = s.stands in stands.0) in
    record {
      written = at_place (spot x.id (n + 1)) ∷ at_place (spot x.id (n + 1 + count (tree_of a))) ∷ others.written;
      are = ap₂ both (ap (entry (spot x.id 0)) is_pair) (subst (λ z. entries (rows p) (spot x.id 0) (numbers_in z rest) ≡ Some others.written) e others.are);
      mean = (slot_means p x a (n + 1) (path ++ one ∷ []) v inside.0 first, (slot_means p x b (n + 1 + count (tree_of a)) (path ++ other ∷ []) w (let more = inside.1 in more.0) second, others.mean));
    }

no_values : (o : Option Value) (xs : List (Option Value)) (slots : List Value) → None ∷ xs ≡ map Some slots → ⊥
no_values o xs [] e = none_and None xs e
no_values o xs (v ∷ slots) e = none-some v (same_first None (Some v) xs (map Some slots) e)

one_more : (p : Paper) (x : Filled p) (name : List ℕ) (d : Drawn) (rest : Parts) (n : ℕ) (path : Path) (slots : List Value) → Sits p x d n path → entry_values d ++ all_entries rest ≡ map Some slots
    → ((more : List Value) → all_entries rest ≡ map Some more → EntriesMean p x (n + count (tree_of d)) rest more) → EntriesMean p x n (part_and name d rest) slots
one_more p x name (composite None as_array (part_and one a (part_and other b no_parts))) rest n path (v ∷ w ∷ slots) s e others =
    let first = same_first (value_at a) (Some v) (value_at b ∷ all_entries rest) (Some w ∷ map Some slots) e in
    let tail = same_rest (value_at a) (Some v) (value_at b ∷ all_entries rest) (Some w ∷ map Some slots) e in
    two_more p x n (n + count (tree_of (composite None as_array (part_and one a (part_and other b no_parts))))) a b name one other path rest v w slots s first
    (same_first (value_at b) (Some w) (all_entries rest) (map Some slots) tail) refl (others slots (same_rest (value_at b) (Some w) (all_entries rest) (map Some slots) tail))
one_more p x name (composite None as_array (part_and one a (part_and other b no_parts))) rest n path [] s e others = absurd (none_and (value_at a) (value_at b ∷ all_entries rest) e)
one_more p x name (composite None as_array (part_and one a (part_and other b no_parts))) rest n path (v ∷ []) s e others =
    absurd (none_and (value_at b) (all_entries rest) (same_rest (value_at a) (Some v) (value_at b ∷ all_entries rest) [] e))
one_more p x name (leaf o at) rest n path slots s e others = absurd (no_values None (all_entries rest) slots e)
one_more p x name (token note kind id) rest n path slots s e others = absurd (no_values None (all_entries rest) slots e)
one_more p x name (composite (Some note) form ps) rest n path slots s e others = absurd (no_values None (all_entries rest) slots e)
one_more p x name (composite None as_object ps) rest n path slots s e others = absurd (no_values None (all_entries rest) slots e)
one_more p x name (composite None as_element ps) rest n path slots s e others = absurd (no_values None (all_entries rest) slots e)
one_more p x name (composite None as_array no_parts) rest n path slots s e others = absurd (no_values None (all_entries rest) slots e)
one_more p x name (composite None as_array (part_and one a no_parts)) rest n path slots s e others = absurd (no_values None (all_entries rest) slots e)
one_more p x name (composite None as_array (part_and one a (part_and other b (part_and third c ps)))) rest n path slots s e others = absurd (no_values None (all_entries rest) slots e)

entries_mean : (p : Paper) (x : Filled p) (ps : Parts) (n : ℕ) (path : Path) (slots : List Value) → PartsSit p x n path ps → all_entries ps ≡ map Some slots → EntriesMean p x n ps slots
entries_mean p x no_parts n path [] s e = record { written = []; are = refl; mean = tt }
entries_mean p x no_parts n path (v ∷ slots) s e = absurd (empty_and (Some v) (map Some slots) e)
entries_mean p x (part_and name d rest) n path slots s e =
    one_more p x name d rest n (path ++ name ∷ []) slots s.0 e (λ more f. entries_mean p x rest (n + count (tree_of d)) path more s.1 f)

-- ---- a node at home

pub record HomeThere (p : Paper) (x : Filled p) (k : Key) (r : Ref) : Type 0 where
  pub at : ℕ
  pub value : Value
  pub is_meant : In (spot x.id at, value) (meant p)
  pub gives : (w : Value) × Gives p.g p.seen value w × IsNode p.g p.seen w k
  pub place : Place
  pub is_place : slice_get (places x) at ≡ Some place
  pub leads : Ends (rows p) (to r.id r.path) (found (spot x.id at))
  pub is_new : In (k, r) p.more
  pub here : Shape Value
  pub is_here : shape_seen p.g p.seen k ≡ Some here
  pub there : Shape Written
  pub is_there : HasShape (rows p) (made_at (spot x.id at)) there
  pub labels : here.label ≡ there.label
  pub by_place : IsPlaceLabel here.label
  pub slots : AllZip (MeansSlot p) here.slots there.slots

shape_here : (p : Paper) (s : Spot) (at : Place) (shape : Shape Written) → node_here s at ≡ Some shape → HasShapeHere (rows p) s (Some at) shape
shape_here p s (place.Map reference) shape e = absurd (none-some shape e)
shape_here p s (place.Set reference) shape e = absurd (none-some shape e)
shape_here p s (place.Atom a) shape e = e
shape_here p s (place.Array numbers) shape e = e
shape_here p s (place.Object props) shape e = e
shape_here p s (place.Element tag k props) shape e = e
shape_here p s (place.Lazy id) shape e = e
shape_here p s (place.Promise id) shape e = e
shape_here p s (place.Value at) shape e = e
shape_here p s (place.Action id) shape e = e

-- a composite
composite_home : (p : Paper) (x : Filled p) (note : Note) (form : Form) (ps : Parts) (n : ℕ) (path : Path) → Sits p x (composite (Some note) form ps) n path → HomeThere p x note.key (at_path x.id path)
composite_home p x note form ps n path s =
    let c = composite_at p x (Some note) form ps n path s in
    let all = s.good in
    let home = all.0 in
    let shape = home.1 in
    let slots = shape.0 in
    record {
      at = n;
      value = note.value;
      is_meant = s.meant n note.value (value_first n (composite (Some note) form ps) note.value refl);
      gives = let given = home.0 in given.0;
      place = c.above;
      is_place = c.is_place;
      leads = walk p x path n s.steps (c.above, c.is_place, c.stops);
      is_new = let given = home.0 in given.1;
      here = record { label = label_of form (names_in ps); slots = slots };
      is_here = shape.1;
      there = record { label = label_of form (names_in ps); slots = at_places (spot x.id n) (numbers_in (n + head form) ps) };
      is_there = subst (λ o. HasShapeHere (rows p) (spot x.id n) o (record { label = label_of form (names_in ps); slots = at_places (spot x.id n) (numbers_in (n + head form) ps) })) (sym (spot_place p x n ∙ c.is_place))
          (shape_here p (spot x.id n) c.above (record { label = label_of form (names_in ps); slots = at_places (spot x.id n) (numbers_in (n + head form) ps) }) (c.node (spot x.id n)));
      labels = refl;
      by_place = form_label form (names_in ps);
      slots = parts_mean p x ps (n + head form) path (spot x.id n) slots refl refl (parts_at p x (Some note) form ps n path s) shape.2;
    }

-- the slots that a token's entries give
pub record TokenMeans (p : Paper) (kind : Token) (id : ℕ) (slots : List Value) : Type 0 where
  pub written : List Written
  pub are : wire.HasSlots (rows p) kind (record { id = id; path = [] }) written
  pub mean : AllZip (MeansSlot p) slots written

token_means : (p : Paper) (kind : Token) (x : Filled p) (ps : Parts) (slots : List Value) → x.drawn ≡ composite None as_array ps → values_of kind ps ≡ map Some slots → Sits p x (composite None as_array ps) 0 [] → TokenMeans p kind x.id slots
token_means p map_token x ps slots e are s =
    let m = entries_mean p x ps 1 [] slots (parts_at p x None as_array ps 0 [] s) are in
    let c = composite_at p x None as_array ps 0 [] s in
    let place_is = spot_place p x 0 ∙ (let stands = s.stands in stands.0) in
    record {
      written = m.written;
      are = (found (spot x.id 0), walk p x [] 0 refl (c.above, c.is_place, c.stops), ap (slots_in map_token (rows p) (spot x.id 0)) place_is ∙ (ap (entries (rows p) (spot x.id 0)) (tree_numbers_in 1 ps) ∙ m.are));
      mean = m.mean;
    }
token_means p set_token x ps slots e are s =
    let c = composite_at p x None as_array ps 0 [] s in
    let place_is = spot_place p x 0 ∙ (let stands = s.stands in stands.0) in
    record {
      written = at_places (spot x.id 0) (numbers_in 1 ps);
      are = (found (spot x.id 0), walk p x [] 0 refl (c.above, c.is_place, c.stops), ap (slots_in set_token (rows p) (spot x.id 0)) place_is ∙ ap (λ xs. Some (at_places (spot x.id 0) xs)) (tree_numbers_in 1 ps));
      mean = parts_mean p x ps 1 [] (spot x.id 0) slots refl refl (parts_at p x None as_array ps 0 [] s) are;
    }

entries_there : (p : Paper) (k : Key) (kind : Token) (id : ℕ) (h : HasEntries p.g p.seen p.sheets k kind id) → (slots : List Value) × (shape_seen p.g p.seen k ≡ Some (record { label = token_label kind; slots = slots })) × TokenMeans p kind id slots
entries_there p k kind id h =
    let ps : Parts = h.0 in
    let x : Filled p = record { id = id; kind = row.Model; drawn = composite None as_array ps; is_sheet = h.1 } in
    let shape = h.2 in
    (shape.0, shape.1, token_means p kind x ps shape.0 refl shape.2 (sheet_sits p x))

token_stops : (kind : Token) (id : ℕ) → IsStop (token_place kind id)
token_stops map_token id = tt
token_stops set_token id = tt

token_shape : (p : Paper) (s : Spot) (kind : Token) (id : ℕ) (written : List Written) → wire.HasSlots (rows p) kind (record { id = id; path = [] }) written → HasShapeHere (rows p) s (Some (token_place kind id)) (record { label = token_label kind; slots = written })
token_shape p s map_token id written h = (written, h, refl)
token_shape p s set_token id written h = (written, h, refl)

token_home : (p : Paper) (x : Filled p) (note : Note) (kind : Token) (id n : ℕ) (path : Path) → Sits p x (token note kind id) n path → HomeThere p x note.key (at_path x.id path)
token_home p x note kind id n path s =
    let all = s.good in
    let home = all.0 in
    let t = entries_there p note.key kind id all.1 in
    let means = t.2 in
    record {
      at = n;
      value = note.value;
      is_meant = s.meant n note.value (value_first n (token note kind id) note.value refl);
      gives = home.0;
      place = token_place kind id;
      is_place = s.stands;
      leads = walk p x path n s.steps (token_place kind id, s.stands, token_stops kind id);
      is_new = home.1;
      here = record { label = token_label kind; slots = t.0 };
      is_here = t.1;
      there = record { label = token_label kind; slots = means.written };
      is_there = subst (λ o. HasShapeHere (rows p) (spot x.id n) o (record { label = token_label kind; slots = means.written })) (sym (spot_place p x n ∙ s.stands)) (token_shape p (spot x.id n) kind id means.written means.are);
      labels = refl;
      by_place = token_named kind;
      slots = means.mean;
    }

note_home : (p : Paper) (x : Filled p) (d : Drawn) (n : ℕ) (path : Path) (note : Note) → Sits p x d n path → note_at d ≡ Some note → HomeThere p x note.key (at_path x.id path)
note_home p x (leaf o at) n path note s e = absurd (none-some note e)
note_home p x (token other kind id) n path note s e = subst (λ z. HomeThere p x z.key (at_path x.id path)) (same_Some other note e) (token_home p x other kind id n path s)
note_home p x (composite None form ps) n path note s e = absurd (none-some note e)
note_home p x (composite (Some other) form ps) n path note s e = subst (λ z. HomeThere p x z.key (at_path x.id path)) (same_Some other note e) (composite_home p x other form ps n path s)

pub home_there : (p : Paper) (x : Filled p) (k : Key) (r : Ref) → SitsAtHome p x k r → HomeThere p x k r
home_there p x k r s =
    subst (λ z. HomeThere p x z r) (sym s.is_key)
    (subst (λ z. HomeThere p x s.note.key (record { id = z; path = r.path })) (sym s.same_id) (note_home p x s.drawn s.number r.path s.note s.sits s.is_note))

-- ---- what is meant is written

pub record IsWrittenAt (p : Paper) (x : Filled p) (n : ℕ) (v : Value) : Type 0 where
  pub place : Place
  pub is_place : slice_get (places x) n ≡ Some place
  pub written : WrittenHere p.g p.seen (homes p) p.more (rows p) (Some (spot x.id n)) place v

home_written : (p : Paper) (x : Filled p) (k : Key) (r : Ref) (h : HomeThere p x k r) → IsWrittenAt p x h.at h.value
home_written p x k r h =
    let gives = h.gives in
    let node = gives.2 in
    record {
      place = h.place;
      is_place = h.is_place;
      written = gives_here p (Some (spot x.id h.at)) h.place h.value gives.0 gives.1
          (local.its_home k r (spot x.id h.at) refl node.is_seen node.no_job node.is_target node.lasting h.is_new
          (names_node p k r (made_at (spot x.id h.at)) node.lasting (h.here, h.is_here, names_place h.here.label (rows p) r (made_at (spot x.id h.at)) h.by_place (spot x.id h.at, refl, h.leads))));
    }

leaf_written : (p : Paper) (x : Filled p) (v : Value) (at : Place) (n : ℕ) (path : Path) → Sits p x (leaf (Some v) at) n path → IsWrittenAt p x n v
leaf_written p x v at n path s =
    let good = s.good in
    record { place = at; is_place = s.stands; written = gives_here p (Some (spot x.id n)) at v good.0 good.1 (leaf_here p (Some (spot x.id n)) at good.0 good.2) }

pub value_written : (p : Paper) (x : Filled p) (d : Drawn) (n : ℕ) (path : Path) (v : Value) → Sits p x d n path → value_at d ≡ Some v → IsWrittenAt p x n v
unfolding token_home composite_home
value_written p x (leaf None at) n path v s e = absurd (none-some v e)
value_written p x (leaf (Some w) at) n path v s e = subst (IsWrittenAt p x n) (same_Some w v e) (leaf_written p x w at n path s)
value_written p x (token note kind id) n path v s e = subst (IsWrittenAt p x n) (same_Some note.value v e) (home_written p x note.key (at_path x.id path) (token_home p x note kind id n path s))
value_written p x (composite None form ps) n path v s e = absurd (none-some v e)
value_written p x (composite (Some note) form ps) n path v s e = subst (IsWrittenAt p x n) (same_Some note.value v e) (home_written p x note.key (at_path x.id path) (composite_home p x note form ps n path s))
