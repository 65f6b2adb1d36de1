-- Acts whose rows are all written are on paper: the facts one by one.
use Rattle.std.proofs.Common.{◌≡◌, ℕ, suc, ◌≤◌, true, false, ◌⊎◌, inl, inr, ⊎_elim, List, [], ◌∷◌, ◌++◌, map, codes, Option, Some, None, option_map, refl, sym, ap, ◌∙◌, subst, arith}
use Rattle.std.proofs.lemmas.Option.{none-some, same_Some}
use Rattle.std.specs.Prelude.{slice_get}
use Rattle.flight_value.specs.Listed.{In, Distinct}
use Rattle.flight_value.specs.Store as store
use Rattle.flight_value.specs.Store.{Label, Shape, Target}
use Rattle.flight_value.specs.declared.graph.Atom.{Atom}
use Rattle.flight_value.specs.declared.key.Key.{Key}
use Rattle.flight_value.specs.declared.key.Key.TheVariants as key
use Rattle.flight_value.specs.declared.made.Tree.TheVariants as tree
use Rattle.flight_syntax.specs.declared.script.Flowing.{Flowing}
use Rattle.flight_text.specs.declared.mark.Ref.{Ref}
use Rattle.flight_row.specs.declared.row.RowKind.TheVariants as row
use Rattle.flight_home.specs.Homes.{Homes}
use Rattle.flight_render.specs.declared.root.Ground.{Ground}
use Rattle.flight_render.specs.declared.job.What.{What}
use Rattle.flight_render.specs.Jobs.{Value, shown, failed, stopped, of_job, target_of}
use Rattle.flight_render.specs.Plain.{flow_shape}
use Rattle.flight_render.specs.Attempt.{job_for}
use Rattle.flight_render.specs.Laws.{IsLasting}
use Rattle.flight_meaning.specs.declared.place.Place.TheVariants as place
use Rattle.flight_meaning.specs.Meaning.{Token, map_token, set_token, token_label}
use Rattle.flight_state.specs.State.{stream_for, IsAlone, next_by, next_what}
use Rattle.flight_state.specs.Local.{Seen, shape_seen, MetBy, TablesHere, IsRowKey, IsAtomOf, Births}
use Rattle.flight_state.proofs.Lists.{in_either}
use Rattle.flight_emit.specs.declared.work.Due.{Due}
use Rattle.flight_emit.specs.declared.work.Due.TheVariants as due
use Rattle.flight_emit.specs.Sheet.{Note, as_array, as_object, Drawn, leaf, token as is_token, composite, Parts, no_parts, part_and, names_in, values_in, values_of, label_of, reference_parts, below, homes_in, homes_of, Sheet, filled, opening, id_on, homes_on, root}
use Rattle.flight_emit.specs.Good.{IsNode, IsHomeOf, HasShape, HasEntries, IsGood, AreGood, IsGoodSheet, HasAtomRow}
use Rattle.flight_emit.specs.Whole as whole
use Rattle.flight_emit.specs.Whole.{Use, ids_from, HasOneSlot, HasNodeHome, HasHome, HasStream, HasOwnId, OnPaper}
use Rattle.flight_emit.specs.Log.{Taken, atom_row, value_row, entries_row, task, stream_row, reference_row, Act, put, take, home_for, sheet_for, birth_for, due_for, homes_by, places_by, sheets_by, births_by, dues_by, value_of_key, IsTaskFor, FitsTaken}
use Rattle.flight_emit.specs.Wrote.{AreDue, note_at}
use Rattle.flight_emit.specs.Finished.{use_of, uses_of, due_id, IsDrafted, Finished}
use Rattle.flight_emit.proofs.Growing.{leaf_more}
use Rattle.flight_emit.proofs.PartsOn.{good_more}
use Rattle.flight_emit.proofs.Homes.{IsPlaceLabel, form_label, token_named}
use Rattle.flight_emit.proofs.Finishing.{Added, sheet_source, birth_source, due_source, home_source, new_key, one_home}

-- ---- nodes at home in rows

-- a key whose node is at home at a place
pub record PlacedNode (g : Ground) (seen : Seen) (k : Key) : Type 0 where
  pub value : Value
  pub node : IsNode g seen value k
  pub label : Label
  pub slots : List Value
  pub shape : shape_seen g seen k ≡ Some (record { label = label; slots = slots })
  pub by_place : IsPlaceLabel label

note_placed : (g : Ground) (seen : Seen) (more : Homes) (r : Ref) (note : Note) (label : Label) (values : List (Option Value)) → IsHomeOf g seen more r note → HasShape g seen note.key label values → IsPlaceLabel label → PlacedNode g seen note.key
note_placed g seen more r note label values home shape by_place =
    let node = home.0 in record { value = node.0; node = node.2; label = label; slots = shape.0; shape = shape.1; by_place = by_place }

mutual
  placed_in : (g : Ground) (seen : Seen) (homes more : Homes) (sheets : List Sheet) (dues : List Due) (r : Ref) (d : Drawn) (k : Key) (a : Ref) → IsGood g seen homes more sheets (AreDue g seen dues) r d → In (k, a) (homes_in r d) → PlacedNode g seen k
  placed_in g seen homes more sheets dues r (leaf o at) k a h i = absurd i
  placed_in g seen homes more sheets dues r (is_token note kind id) k a h (inl e) =
      let due = h.1 in let shape = due.1 in
      subst (PlacedNode g seen) (sym (ap (λ p. p.0) e)) (note_placed g seen more r note (token_label kind) (map Some shape.0) h.0 (shape.0, shape.1, refl) (token_named kind))
  placed_in g seen homes more sheets dues r (is_token note kind id) k a h (inr i) = absurd i
  placed_in g seen homes more sheets dues r (composite None form ps) k a h i = placed_of g seen homes more sheets dues r ps k a h.2 i
  placed_in g seen homes more sheets dues r (composite (Some note) form ps) k a h (inl e) =
      let first = h.0 in
      subst (PlacedNode g seen) (sym (ap (λ p. p.0) e)) (note_placed g seen more r note (label_of form (names_in ps)) (values_in ps) first.0 first.1 (form_label form (names_in ps)))
  placed_in g seen homes more sheets dues r (composite (Some note) form ps) k a h (inr i) = placed_of g seen homes more sheets dues r ps k a h.2 i

  placed_of : (g : Ground) (seen : Seen) (homes more : Homes) (sheets : List Sheet) (dues : List Due) (r : Ref) (ps : Parts) (k : Key) (a : Ref) → AreGood g seen homes more sheets (AreDue g seen dues) r ps → In (k, a) (homes_of r ps) → PlacedNode g seen k
  placed_of g seen homes more sheets dues r no_parts k a h i = absurd i
  placed_of g seen homes more sheets dues r (part_and name d rest) k a h i =
      ⊎_elim (λ j. placed_in g seen homes more sheets dues (below r name) d k a h.0 j) (λ j. placed_of g seen homes more sheets dues r rest k a h.1 j) (in_either (homes_in (below r name) d) (homes_of r rest) (k, a) i)

placed_on : (g : Ground) (seen : Seen) (homes more : Homes) (sheets : List Sheet) (dues : List Due) (s : Sheet) (k : Key) (a : Ref) → IsDrafted g seen homes more sheets dues s → In (k, a) (homes_on s) → PlacedNode g seen k
placed_on g seen homes more sheets dues (filled id kind d) k a h i = placed_in g seen homes more sheets dues (root id) d k a h.1 i
placed_on g seen homes more sheets dues (opening id flow) k a h i = absurd h

-- no value leads to a key that is no node
abbrev IsNodeTarget : Target Key → Type 0
IsNodeTarget (store.node_at (key.Client client)) = ⊥
IsNodeTarget (store.node_at (key.Symbol name)) = ⊥
IsNodeTarget (store.node_at (key.Server n)) = ⊥
IsNodeTarget t = Unit {0}

node_target : (v : Value) → IsNodeTarget (target_of v)
node_target (shown (tree.Atom a)) = tt
node_target (shown (tree.Made n)) = tt
node_target (shown (tree.FromSource source n)) = tt
node_target (shown (tree.Promise source)) = tt
node_target (shown (tree.Stream stream)) = tt
node_target (shown (tree.Action action)) = tt
node_target (failed digest) = tt
node_target (stopped source) = tt
node_target (of_job j) = tt

placed_key : (g : Ground) (seen : Seen) (k : Key) → PlacedNode g seen k → IsNodeTarget (store.node_at k)
placed_key g seen k p = let node = p.node in subst IsNodeTarget node.is_target (node_target p.value)

-- a node at a place has no id of its own
pub own_or_place : (g : Ground) (seen : Seen) (k : Key) → PlacedNode g seen k → HasOwnId g seen k → ⊥
own_or_place g seen (key.Client client) p own = placed_key g seen (key.Client client) p
own_or_place g seen (key.Symbol name) p own = placed_key g seen (key.Symbol name) p
own_or_place g seen (key.Server n) p own = placed_key g seen (key.Server n) p
own_or_place g seen k p (inl row_key) = no_row k row_key (placed_key g seen k p)
  where
    no_row : (l : Key) → IsRowKey l → IsNodeTarget (store.node_at l) → ⊥
    no_row (key.Client client) a b = b
    no_row (key.Symbol name) a b = b
    no_row (key.Server n) a b = b
    no_row (key.Made n) a b = a
    no_row (key.Source source n) a b = a
    no_row (key.Settled source) a b = a
    no_row (key.Stream stream) a b = a
    no_row (key.Action action) a b = a
own_or_place g seen k p (inr (inl stream)) = let node = p.node in subst IsLasting stream.1 node.lasting
own_or_place g seen k p (inr (inr (inl promise))) =
    subst IsPlaceLabel (ap (λ z. z.label) (same_Some (record { label = p.label; slots = p.slots }) (record { label = store.promise; slots = promise.0 ∷ [] }) (sym p.shape ∙ promise.1))) p.by_place
own_or_place g seen k p (inr (inr (inr action))) =
    subst IsPlaceLabel (ap (λ z. z.label) (same_Some (record { label = p.label; slots = p.slots }) (record { label = store.action action.0; slots = action.1 ∷ [] }) (sym p.shape ∙ action.2))) p.by_place

-- a stream is neither a promise nor a server reference
abbrev IsStreamLabel : Label → Type 0
IsStreamLabel (store.stream flow state) = Unit {0}
IsStreamLabel label = ⊥

stream_label : (g : Ground) (o : Option Flowing) (shape : Shape Value) → option_map (flow_shape g []) o ≡ Some shape → IsStreamLabel shape.label
stream_label g None shape e = absurd (none-some shape e)
stream_label g (Some f) shape e = subst (λ z. IsStreamLabel z.label) (same_Some (flow_shape g [] f) shape e) tt

-- ---- homes

at_home : (g : Ground) (seen : Seen) (sheets : List Sheet) (births : Births) (k : Key) (a : Ref) → IsNodeTarget (store.node_at k) → IsLasting k → HasNodeHome g seen sheets births k a → HasHome g seen sheets births k a
at_home g seen sheets births (key.Made n) a h l home = home
at_home g seen sheets births (key.Source source n) a h l home = home
at_home g seen sheets births (key.Settled source) a h l home = home
at_home g seen sheets births (key.Action action) a h l home = home
at_home g seen sheets births (key.Stream stream) a h l home = absurd l
at_home g seen sheets births (key.Client client) a h l home = absurd h
at_home g seen sheets births (key.Symbol name) a h l home = absurd h
at_home g seen sheets births (key.Server n) a h l home = absurd h

atom_home : (g : Ground) (seen : Seen) (sheets : List Sheet) (births : Births) (k : Key) (a : Ref) (at : Atom) → IsRowKey k → IsAtomOf g k at → HasAtomRow sheets a.id at → HasHome g seen sheets births k a
atom_home g seen sheets births (key.Client client) a at h of has = subst (HasAtomRow sheets a.id) of has
atom_home g seen sheets births (key.Symbol name) a at h of has = subst (HasAtomRow sheets a.id) of has
atom_home g seen sheets births (key.Server n) a at h of has = absurd of
atom_home g seen sheets births (key.Made n) a at h of has = absurd h
atom_home g seen sheets births (key.Source source n) a at h of has = absurd h
atom_home g seen sheets births (key.Settled source) a at h of has = absurd h
atom_home g seen sheets births (key.Stream stream) a at h of has = absurd h
atom_home g seen sheets births (key.Action action) a at h of has = absurd h

task_home : (g : Ground) (seen : Seen) (sheets : List Sheet) (births : Births) (k : Key) (a : Ref) (w : What) → IsTaskFor g seen k w → IsAlone w → In (a.id, w) births → HasHome g seen sheets births k a
task_home g seen sheets births (key.Server n) a w h alone i = (w, i, h)
task_home g seen sheets births (key.Stream stream) a w h alone i = absurd h
task_home g seen sheets births (key.Client client) a w h alone i = absurd (none-some _ h.1)
task_home g seen sheets births (key.Symbol name) a w h alone i = absurd (none-some _ h.1)
task_home g seen sheets births (key.Made n) a w h alone i = whole.promise_with_task h.0 w h.1 i alone h.2 h.3
task_home g seen sheets births (key.Source source n) a w h alone i = whole.promise_with_task h.0 w h.1 i alone h.2 h.3
task_home g seen sheets births (key.Settled source) a w h alone i = whole.promise_with_task h.0 w h.1 i alone h.2 h.3
task_home g seen sheets births (key.Action action) a w h alone i = whole.promise_with_task h.0 w h.1 i alone h.2 h.3

pub one_slot_home : (g : Ground) (seen : Seen) (sheets : List Sheet) (births : Births) (k : Key) (a : Ref) (label : Label) (v : Value) → HasOneSlot g seen k label v → (IsStreamLabel label → ⊥) → HasNodeHome g seen sheets births k a → HasHome g seen sheets births k a
one_slot_home g seen sheets births (key.Made n) a label v shape other home = home
one_slot_home g seen sheets births (key.Source source n) a label v shape other home = home
one_slot_home g seen sheets births (key.Settled source) a label v shape other home = home
one_slot_home g seen sheets births (key.Action action) a label v shape other home = home
one_slot_home g seen sheets births (key.Stream stream) a label v shape other home = absurd (other (stream_label g (slice_get g.script.streams stream) (record { label = label; slots = v ∷ [] }) shape))
one_slot_home g seen sheets births (key.Client client) a label v shape other home = absurd (none-some _ shape)
one_slot_home g seen sheets births (key.Symbol name) a label v shape other home = absurd (none-some _ shape)
one_slot_home g seen sheets births (key.Server n) a label v shape other home = absurd (none-some _ shape)

-- ---- streams follow one another

next_stream : (stream : ℕ) (items : List ℕ) (n : ℕ) → stream_for (next_what stream items n) ≡ Some stream
next_stream stream items n = go (slice_get items n)
  where
    go : (o : Option ℕ) → stream_for (next_by stream n o) ≡ Some stream
    go None = refl
    go (Some source) = refl

next_tables : (seen : Seen) (stream : ℕ) (items : List ℕ) (n : ℕ) → TablesHere seen (next_what stream items n)
next_tables seen stream items n = go (slice_get items n)
  where
    go : (o : Option ℕ) → TablesHere seen (next_by stream n o)
    go None = tt
    go (Some source) = tt

-- ---- what was written when all is finished

pub record Done : Type 0 where
  pub g : Ground
  pub seen : Seen
  pub first : Value
  pub own : Option ℕ
  pub start : ℕ
  pub before : Homes
  pub acts : List Act
  pub done : List Sheet
  pub sheets : List Sheet
  pub is : Finished g seen first own start before acts done sheets

abbrev more : Done → Homes
more d = homes_by d.start d.acts

abbrev all : Done → Homes
all d = d.before ++ homes_by d.start d.acts

abbrev births : Done → Births
births d = births_by d.start d.acts

-- the names of a server reference's row
two_names : codes "bound" ≡ codes "id" → ⊥
two_names e = cc

abbrev IsGoodHere : Done → Sheet → Type 0
IsGoodHere d s = IsGoodSheet d.g d.seen (all d) (more d) d.sheets s

taken_good : (d : Done) (id : ℕ) (t : Taken) (s : Sheet) → FitsTaken d.g d.seen d.first (all d) t → In s (sheet_for id t) → IsGoodHere d s
taken_good d id (atom_row home kind a) s fits (inl e) = subst (IsGoodHere d) (sym e) (fits.0, tt)
taken_good d id (atom_row home kind a) s fits (inr i) = absurd i
taken_good d id (value_row k) s fits i = absurd i
taken_good d id (entries_row k) s fits i = absurd i
taken_good d id (task k w) s fits i = absurd i
taken_good d id (stream_row stream flows) s fits (inl e) = subst (IsGoodHere d) (sym e) tt
taken_good d id (stream_row stream flows) s fits (inr i) = absurd i
taken_good d id (reference_row k name v at) s fits (inl e) =
    let z = fits.2 in
    subst (IsGoodHere d) (sym e) (tt, (tt, (λ i. ⊎_elim (λ f. two_names f) (λ j. j) i, ((λ i. i), tt)), ((z.0, z.1, leaf_more d.g d.seen (all d) (all d) [] d.sheets at z.0 (λ x i. i) (λ x i. absurd i) z.2), (tt, tt))))
taken_good d id (reference_row k name v at) s fits (inr i) = absurd i

token_apart : (kind other : Token) → token_label kind ≡ token_label other → kind ≡ other
token_apart map_token map_token e = refl
token_apart set_token set_token e = refl
token_apart map_token set_token e = absurd (let f : store.map_of ≡ store.set_of = e in labels_apart f)
  where
    labels_apart : store.map_of ≡ store.set_of → ⊥
    labels_apart f = cc
token_apart set_token map_token e = absurd (let f : store.set_of ≡ store.map_of = e in labels_apart f)
  where
    labels_apart : store.set_of ≡ store.map_of → ⊥
    labels_apart f = cc

entries_done : (d : Done) (k : Key) (kind : Token) (id : ℕ) → AreDue d.g d.seen (dues_by d.start d.acts) k kind id → HasEntries d.g d.seen d.sheets k kind id
entries_done d k kind id h =
    let done = d.is.all_done (due.Entries id k) h.0 in
    let slots = h.1 in
    let shape = done.3 in
    let same = token_apart done.1 kind (ap (λ z. z.label) (same_Some (record { label = token_label done.1; slots = shape.0 }) (record { label = token_label kind; slots = slots.0 }) (sym shape.1 ∙ slots.1))) in
    (done.0, d.is.written (filled id row.Model (composite None as_array done.0)) done.2, subst (λ z. HasShape d.g d.seen k (token_label z) (values_of z done.0)) same shape)

drafted_good : (d : Done) (s : Sheet) → IsDrafted d.g d.seen (all d) (more d) d.sheets (dues_by d.start d.acts) s → IsGoodHere d s
drafted_good d (filled id kind drawn) h =
    (h.0, good_more d.g d.seen (all d) (all d) (more d) (more d) d.sheets d.sheets (AreDue d.g d.seen (dues_by d.start d.acts)) (HasEntries d.g d.seen d.sheets) (root id) drawn (λ x i. i) (λ x i. i) (λ x i. i) (entries_done d) h.1)
drafted_good d (opening id flow) h = absurd h

sheet_good : (d : Done) (s : Sheet) → In s d.sheets → IsGoodHere d s
sheet_good d s i =
    ⊎_elim (λ j. let f = sheet_source d.g d.seen d.first (all d) d.start d.acts s d.is.fit j in taken_good d f.id f.taken s f.fits f.is)
    (λ j. drafted_good d s (d.is.drafted s j)) (d.is.are s i)

-- ---- ids of rows

taken_row : (id : ℕ) (t : Taken) (s : Sheet) → In s (sheet_for id t) → (id_on s ≡ id) × ((use_of t).has_row ≡ true)
taken_row id (atom_row home kind a) s (inl e) = (ap id_on e, refl)
taken_row id (atom_row home kind a) s (inr i) = absurd i
taken_row id (value_row k) s i = absurd i
taken_row id (entries_row k) s i = absurd i
taken_row id (task k w) s i = absurd i
taken_row id (stream_row stream flows) s (inl e) = (ap id_on e, refl)
taken_row id (stream_row stream flows) s (inr i) = absurd i
taken_row id (reference_row k name v at) s (inl e) = (ap id_on e, refl)
taken_row id (reference_row k name v at) s (inr i) = absurd i

taken_due : (id : ℕ) (t : Taken) (x : Due) → In x (due_for id t) → (due_id x ≡ id) × ((use_of t).has_row ≡ true)
taken_due id (atom_row home kind a) x i = absurd i
taken_due id (value_row k) x (inl e) = (ap due_id e, refl)
taken_due id (value_row k) x (inr i) = absurd i
taken_due id (entries_row k) x (inl e) = (ap due_id e, refl)
taken_due id (entries_row k) x (inr i) = absurd i
taken_due id (task k w) x i = absurd i
taken_due id (stream_row stream flows) x i = absurd i
taken_due id (reference_row k name v at) x i = absurd i

abbrev HasRowUse : Done → ℕ → Type 0
HasRowUse d n = (u : Use) × In (n, u) (ids_from d.start (uses_of d.acts)) × (u.has_row ≡ true)

sheet_use : (d : Done) (s : Sheet) → In s d.sheets → (d.own ≡ Some (id_on s)) ⊎ HasRowUse d (id_on s)
sheet_use d s i = ⊎_elim at_once (λ j. ⊎_elim (λ own. inl own) (λ h. inr (by_due h.0 h.1 h.2)) (d.is.for_due s j)) (d.is.are s i)
  where
    at_once : In s (sheets_by d.start d.acts) → (d.own ≡ Some (id_on s)) ⊎ HasRowUse d (id_on s)
    at_once j =
        let f = sheet_source d.g d.seen d.first (all d) d.start d.acts s d.is.fit j in
        let r = taken_row f.id f.taken s f.is in
        inr (subst (HasRowUse d) (sym r.0) (use_of f.taken, f.added.is_use, r.1))

    by_due : (x : Due) → In x (dues_by d.start d.acts) → due_id x ≡ id_on s → HasRowUse d (id_on s)
    by_due x j e =
        let f = due_source d.g d.seen d.first (all d) d.start d.acts x d.is.fit j in
        let r = taken_due f.id f.taken x f.is in
        subst (HasRowUse d) (sym r.0 ∙ e) (use_of f.taken, f.added.is_use, r.1)

-- ---- homes

abbrev IsHomeHere : Done → Key → Ref → Type 0
IsHomeHere d k a = HasHome d.g d.seen d.sheets (births d) k a

placed_node : (d : Done) (k : Key) (a : Ref) → In (k, a) (places_by d.acts) → PlacedNode d.g d.seen k
placed_node d k a i =
    let p = d.is.placed k a i in
    placed_on d.g d.seen (all d) (more d) d.sheets (dues_by d.start d.acts) p.0 k a (d.is.drafted p.0 p.1) p.2

placed_home : (d : Done) (k : Key) (a : Ref) → In (k, a) (places_by d.acts) → IsHomeHere d k a
placed_home d k a i =
    let p = d.is.placed k a i in
    let n = placed_node d k a i in
    let node = n.node in
    at_home d.g d.seen d.sheets (births d) k a (placed_key d.g d.seen k n) node.lasting (whole.at_place p.0 (d.is.written p.0 p.1) p.2)

note_homed : (id : ℕ) (drawn : Drawn) (note : Note) → note_at drawn ≡ Some note → In (note.key, root id) (homes_in (root id) drawn)
note_homed id (leaf o at) note e = absurd (none-some note e)
note_homed id (is_token other kind n) note e = inl (ap (λ z. (z.key, root id)) (sym (same_Some other note e)))
note_homed id (composite None form ps) note e = absurd (none-some note e)
note_homed id (composite (Some other) form ps) note e = inl (ap (λ z. (z.key, root id)) (sym (same_Some other note e)))

value_home : (d : Done) (id : ℕ) (k : Key) → In (due.Value id k) (dues_by d.start d.acts) → IsHomeHere d k (root id)
value_home d id k i =
    let done = d.is.all_done (due.Value id k) i in
    let s : Sheet = filled id row.Model done.0 in
    ⊎_elim
    (λ note.
    let homed = note_homed id done.0 (record { value = value_of_key k; key = k }) note in
    let n = placed_on d.g d.seen (all d) (more d) d.sheets (dues_by d.start d.acts) s k (root id) (d.is.drafted s done.1) homed in
    let node = n.node in
    at_home d.g d.seen d.sheets (births d) k (root id) (placed_key d.g d.seen k n) node.lasting (whole.at_place s (d.is.written s done.1) homed))
    (λ h. one_slot_home d.g d.seen d.sheets (births d) k (root id) store.promise h.0 h.1 (λ z. z) (whole.promise_with_row h.0 row.Model done.0 h.1 (d.is.written s done.1) h.2))
    done.2

abbrev TakenHome : Done → ℕ → Taken → Key → Ref → Type 0
TakenHome d id t k a = IsHomeHere d k a × ((use_of t).home ≡ Some k) × (a.id ≡ id)

taken_home : (d : Done) (id : ℕ) (t : Taken) (k : Key) (a : Ref) → Added d.start d.acts id t → FitsTaken d.g d.seen d.first (all d) t → In (k, a) (home_for id t) → TakenHome d id t k a
taken_home d id (atom_row None kind x) k a added fits i = absurd i
taken_home d id (atom_row (Some home) kind x) k a added fits (inl e) =
    let of = fits.1 in
    subst (λ p. TakenHome d id (atom_row (Some home) kind x) p.0 p.1) (sym e)
    (atom_home d.g d.seen d.sheets (births d) home (root id) x of.0 of.1 (kind, d.is.at_once (filled id kind (leaf None (place.Atom x))) (added.sheets (filled id kind (leaf None (place.Atom x))) (inl refl))), refl, refl)
taken_home d id (atom_row (Some home) kind x) k a added fits (inr i) = absurd i
taken_home d id (value_row home) k a added fits (inl e) =
    subst (λ p. TakenHome d id (value_row home) p.0 p.1) (sym e) (value_home d id home (added.dues (due.Value id home) (inl refl)), refl, refl)
taken_home d id (value_row home) k a added fits (inr i) = absurd i
taken_home d id (entries_row home) k a added fits i = absurd i
taken_home d id (task home w) k a added fits (inl e) =
    subst (λ p. TakenHome d id (task home w) p.0 p.1) (sym e) (task_home d.g d.seen d.sheets (births d) home (root id) w fits.3 fits.0 (added.births (id, w) (inl refl)), refl, refl)
taken_home d id (task home w) k a added fits (inr i) = absurd i
taken_home d id (stream_row stream flows) k a added fits (inl e) =
    subst (λ p. TakenHome d id (stream_row stream flows) p.0 p.1) (sym e)
    (record { flows = flows; is_stream = fits.0; opens = d.is.at_once (opening id flows.flow) (added.sheets (opening id flows.flow) (inl refl)); born = added.births (id, next_what stream flows.items 0) (inl refl) }, refl, refl)
taken_home d id (stream_row stream flows) k a added fits (inr i) = absurd i
taken_home d id (reference_row home name v at) k a added fits (inl e) =
    let s : Sheet = filled id row.Model (composite None as_object (reference_parts v at name)) in
    subst (λ p. TakenHome d id (reference_row home name v at) p.0 p.1) (sym e)
    (one_slot_home d.g d.seen d.sheets (births d) home (root id) (store.action name) v fits.0 (λ z. z) (whole.server_reference name v at fits.0 fits.1 (d.is.at_once s (added.sheets s (inl refl)))), refl, refl)
taken_home d id (reference_row home name v at) k a added fits (inr i) = absurd i

home_by : (d : Done) (k : Key) (a : Ref) → In (k, a) (more d) → In (k, a) (places_by d.acts) ⊎ ((id : ℕ) × (t : Taken) × Added d.start d.acts id t × TakenHome d id t k a)
home_by d k a i =
    ⊎_elim (λ j. inl j) (λ s. inr (s.id, s.taken, s.added, taken_home d s.id s.taken k a s.added s.fits s.is))
    (home_source d.g d.seen d.first (all d) d.start d.acts (k, a) d.is.fit i)

has_home : (d : Done) (k : Key) (a : Ref) → In (k, a) (more d) → IsHomeHere d k a
has_home d k a i = ⊎_elim (λ j. placed_home d k a j) (λ s. let h = s.3 in h.0) (home_by d k a i)

own_id : (d : Done) (k : Key) (a : Ref) → In (k, a) (more d) → HasOwnId d.g d.seen k → (u : Use) × In (a.id, u) (ids_from d.start (uses_of d.acts)) × (u.home ≡ Some k)
own_id d k a i own =
    ⊎_elim (λ j. absurd (own_or_place d.g d.seen k (placed_node d k a j) own))
    (λ s. let h = s.3 in let added = s.2 in (use_of s.1, subst (λ z. In (z, use_of s.1) (ids_from d.start (uses_of d.acts))) (sym h.2) added.is_use, h.1)) (home_by d k a i)

-- ---- births

abbrev IsBorn : Done → ℕ → What → Type 0
IsBorn d id w =
    ((u : Use) × In (id, u) (ids_from d.start (uses_of d.acts)) × (u.birth ≡ Some w) × (IsAlone w → u.has_row ≡ false))
    × (MetBy d.g d.seen d.first (job_for d.g w) (stream_for w) × (TablesHere d.seen w
    × ((stream : ℕ) → stream_for w ≡ Some stream → (a : Ref) × In (key.Stream stream, a) (more d) × (a.id ≡ id))))

taken_birth : (d : Done) (n : ℕ) (t : Taken) (id : ℕ) (w : What) → Added d.start d.acts n t → FitsTaken d.g d.seen d.first (all d) t → In (id, w) (birth_for n t) → IsBorn d id w
taken_birth d n (atom_row home kind x) id w added fits i = absurd i
taken_birth d n (value_row k) id w added fits i = absurd i
taken_birth d n (entries_row k) id w added fits i = absurd i
taken_birth d n (reference_row k name v at) id w added fits i = absurd i
taken_birth d n (task k what) id w added fits (inl e) =
    subst (λ p. IsBorn d p.0 p.1) (sym e) (
      (use_of (task k what), added.is_use, refl, (λ alone. refl)),
      (subst (MetBy d.g d.seen d.first (job_for d.g what)) (sym fits.0) fits.1, (fits.2, (λ stream s. absurd (none-some stream (sym fits.0 ∙ s))))),
    )
taken_birth d n (task k what) id w added fits (inr i) = absurd i
taken_birth d n (stream_row stream flows) id w added fits (inl e) =
    let next = next_stream stream flows.items 0 in
    subst (λ p. IsBorn d p.0 p.1) (sym e) (
      (use_of (stream_row stream flows), added.is_use, refl, (λ alone. absurd (none-some stream (sym alone ∙ next)))),
      (
        subst (MetBy d.g d.seen d.first (job_for d.g (next_what stream flows.items 0))) (sym next) fits.1,
        (
          next_tables d.seen stream flows.items 0,
          (λ other s. (root n, subst (λ z. In (key.Stream z, root n) (more d)) (same_Some stream other (sym next ∙ s)) (added.homes (key.Stream stream, root n) (inl refl)), refl)),
        ),
      ),
    )
taken_birth d n (stream_row stream flows) id w added fits (inr i) = absurd i

born : (d : Done) (id : ℕ) (w : What) → In (id, w) (births d) → IsBorn d id w
born d id w i = let s = birth_source d.g d.seen d.first (all d) d.start d.acts (id, w) d.is.fit i in taken_birth d s.id s.taken id w s.added s.fits s.is

-- births under ids from a number on
births_from : (n : ℕ) (acts : List Act) (id : ℕ) → In id (map (λ b. b.0) (births_by n acts)) → n ≤ id
births_from n [] id i = absurd i
births_from n (put k r ∷ acts) id i = births_from n acts id i
births_from n (take (atom_row home kind x) ∷ acts) id i = let h = births_from (suc n) acts id i in omega (arith, h)
births_from n (take (value_row k) ∷ acts) id i = let h = births_from (suc n) acts id i in omega (arith, h)
births_from n (take (entries_row k) ∷ acts) id i = let h = births_from (suc n) acts id i in omega (arith, h)
births_from n (take (reference_row k name v at) ∷ acts) id i = let h = births_from (suc n) acts id i in omega (arith, h)
births_from n (take (task k w) ∷ acts) id (inl e) = omega (arith, e)
births_from n (take (task k w) ∷ acts) id (inr i) = let h = births_from (suc n) acts id i in omega (arith, h)
births_from n (take (stream_row stream flows) ∷ acts) id (inl e) = omega (arith, e)
births_from n (take (stream_row stream flows) ∷ acts) id (inr i) = let h = births_from (suc n) acts id i in omega (arith, h)

births_once : (n : ℕ) (acts : List Act) → Distinct (map (λ b. b.0) (births_by n acts))
births_once n [] = tt
births_once n (put k r ∷ acts) = births_once n acts
births_once n (take (atom_row home kind x) ∷ acts) = births_once (suc n) acts
births_once n (take (value_row k) ∷ acts) = births_once (suc n) acts
births_once n (take (entries_row k) ∷ acts) = births_once (suc n) acts
births_once n (take (reference_row k name v at) ∷ acts) = births_once (suc n) acts
births_once n (take (task k w) ∷ acts) = ((λ i. let h = births_from (suc n) acts n i in omega (arith, h)), births_once (suc n) acts)
births_once n (take (stream_row stream flows) ∷ acts) = ((λ i. let h = births_from (suc n) acts n i in omega (arith, h)), births_once (suc n) acts)

-- ---- the whole

pub on_paper : (g : Ground) (seen : Seen) (first : Value) (own : Option ℕ) (start : ℕ) (before : Homes) (acts : List Act) (done sheets : List Sheet) → Finished g seen first own start before acts done sheets
    → OnPaper g seen first own start before (homes_by start acts) sheets (births_by start acts) (uses_of acts)
on_paper g seen first own start before acts done sheets is =
    let d : Done = record { g = g; seen = seen; first = first; own = own; start = start; before = before; acts = acts; done = done; sheets = sheets; is = is } in
    record {
      older = is.older;
      once = is.once;
      good = sheet_good d;
      row_ids = sheet_use d;
      own_row = is.own_row;
      new_keys = λ k a i. new_key before (homes_by start acts) k a is.keys i;
      one_home = λ k a b i j. one_home before (homes_by start acts) k a b is.keys i j;
      has_home = has_home d;
      own_ids = own_id d;
      born_once = births_once start acts;
      born_ids = λ id w i. (born d id w i).0;
      born_met = λ id w i. let b = born d id w i in let c = b.1 in c.0;
      born_tables = λ id w i. let b = born d id w i in let c = b.1 in let t = c.1 in t.0;
      for_stream = λ id w stream i e. let b = born d id w i in let c = b.1 in let t = c.1 in let f = t.1 in f stream e;
    }
