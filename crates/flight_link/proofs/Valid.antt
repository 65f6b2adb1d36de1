-- The graph that was drawn is valid.
use Rattle.std.proofs.Common.{get_or, ◌≡◌, ℕ, ◌<◌, ◌≤◌, ◌^◌, codes, List, [], ◌∷◌, length, map, Bool, true, false, Option, Some, None, option_and_then, slice_get, refl, sym, ◌∙◌, ap, subst, arith, inl, inr, ◌⊎◌, All}
use Rattle.std.specs.Prelude.{is_some, if◌then◌else◌}
use Rattle.std.specs.List.{AllZip, AllByRecursion}
use Rattle.std.proofs.lemmas.Option.{none-some, same_Some, slice_get_within, get_or_from_slice_get, slice_get-get_or}
use Rattle.std.proofs.lemmas.List.Elements.{All-from_recursion, All-get_or}
use Rattle.flight_value.specs.declared.graph.Atom.{Atom}
use Rattle.flight_value.specs.declared.graph.Atom.TheVariants as atom
use Rattle.flight_value.specs.declared.graph.Slot.{Slot}
use Rattle.flight_value.specs.declared.graph.Slot.TheVariants as slot
use Rattle.flight_value.specs.declared.graph.Node.{Node}
use Rattle.flight_value.specs.declared.graph.Node.TheVariants as node
use Rattle.flight_value.specs.Graph.{slots_of, Ascend, IsValidAtom, IsValidSlot, IsPromise, IsBound, IsValidKind, IsValidNode, IsValid}
use Rattle.flight_value.specs.Store as store
use Rattle.flight_value.specs.Store.{Label, Shape, Target, label_of, of_graph, DrawOneGraph}
use Rattle.flight_row.specs.declared.row.RowKind.{RowKind}
use Rattle.flight_text.specs.declared.mark.Ref.{Ref}
use Rattle.flight_row.specs.declared.row.RowKind.TheVariants as row
use Rattle.flight_meaning.specs.declared.place.Place.{Place}
use Rattle.flight_meaning.specs.declared.place.Place.TheVariants as place
use Rattle.flight_meaning.specs.declared.place.PlaceTree.{PlaceTree}
use Rattle.flight_meaning.specs.declared.place.PlacedRow.{PlacedRow}
use Rattle.flight_meaning.specs.Linked as linked
use Rattle.flight_meaning.specs.Linked.{rows_of, place_at, beside, first_place}
use Rattle.flight_place.specs.Parts.{HasOrder, HasValidAtom}
use Rattle.flight_meaning.specs.Resolve.{property, here, Found, found, stream, not_yet, nowhere}
use Rattle.flight_meaning.specs.Meaning as meaning
use Rattle.flight_meaning.specs.Meaning.{Written, at_place, value_of, Identity, made_at, promise_of, stream_of, action_of, Token, Reference, text_at, bound_at, reference_with, reference_in, reference_by, reference_of, there, Flowed, opened, flowed, stream_shape, action_shape, HasShapeHere, HasShape, pending, TokenLeads, LeadsHere, IsTarget, Leads}
use Rattle.flight_meaning.proofs.Walking.{turn_ends, stop_turn}
use Rattle.flight_meaning.proofs.OneMeaning.{leads_once}
use Rattle.flight_link.specs.declared.key.NodeKey.{NodeKey}
use Rattle.flight_link.specs.Nodes.{IsFine}
use Rattle.flight_link.specs.declared.draw.Drawing.{Drawing}
use Rattle.flight_link.specs.Drawing.{identity_of, numbered_from, Draws, DrawsNode, AreDrawn, IsDrawing}
use Rattle.flight_link.proofs.PlainRows.{row_of_tree}
use Rattle.flight_link.proofs.Drawn.{node_of_key, graph_fits}

-- ---- what holds of all places

all_at : {A : Type 0} (P : A → Type 0) (xs : List A) (i : ℕ) (x : A) → All P xs → slice_get xs i ≡ Some x → P x
all_at P xs i x h e = subst P (get_or_from_slice_get xs i x x e) (All-get_or P xs i x (slice_get_within xs i x e) h)

fine_place : (rows : List PlacedRow) (s : linked.Spot) (at : Place) → All IsFine rows → place_at rows s ≡ Some at → HasOrder at × HasValidAtom at
fine_place rows s at fine e = go (slice_get (rows_of s.id rows) s.nth) refl e
  where
    go : (o : Option PlaceTree) → slice_get (rows_of s.id rows) s.nth ≡ o → option_and_then (λ (t : PlaceTree). slice_get t.places s.at) o ≡ Some at → HasOrder at × HasValidAtom at
    go None is h = absurd (none-some at h)
    go (Some t) is h =
        let w = row_of_tree rows s.id s.nth t is in
        let f = all_at IsFine rows w.0 w.1.0 fine w.1.1 in
        let same : slice_get w.1.0.tree.places s.at ≡ Some at = ap (λ (t : PlaceTree). slice_get t.places s.at) w.1.3 ∙ h in
        (all_at HasOrder w.1.0.tree.places s.at at f.ordered same, all_at HasValidAtom w.1.0.tree.places s.at at f.valid same)

-- ---- atoms

atom_or_node : {K : Type 0} (a : Atom) (k : K) → store.atom a ≡ store.node_at k → ⊥
atom_or_node a k e = cc

abbrev atom_at : Atom → Target Identity
atom_at a = store.atom a

atom_valid : (a b : Atom) → atom_at a ≡ atom_at b → IsValidAtom b → IsValidAtom a
atom_valid a b e h = subst IsValidAtom (sym (same a b e)) h
  where
    same : (a b : Atom) → atom_at a ≡ atom_at b → a ≡ b
    same a b e = cc

token_valid : (rows : List PlacedRow) (token : Token) (s : linked.Spot) (r : Ref) (a : Atom) → TokenLeads rows token s r (store.atom a) → IsValidAtom a
token_valid rows token s r a (inl h) = absurd (atom_or_node a (made_at s) h.2)
token_valid rows token s r a (inr (inl h)) = atom_valid a (atom.Failed h.0) h.2 tt
token_valid rows token s r a (inr (inr h)) = atom_valid a atom.Pending h.2 tt

action_valid : (b : Bool) (id : ℕ) (a : Atom) → store.atom a ≡ (if b then store.node_at (action_of id) else pending) → IsValidAtom a
action_valid true id a e = absurd (atom_or_node a (action_of id) e)
action_valid false id a e = atom_valid a atom.Pending e tt

here_valid : (rows : List PlacedRow) (s : linked.Spot) (o : Option Place) (a : Atom) → ((at : Place) → o ≡ Some at → HasValidAtom at) → LeadsHere rows s o (store.atom a) → IsValidAtom a
here_valid rows s None a f h = atom_valid a atom.Pending h tt
here_valid rows s (Some (place.Atom b)) a f h = atom_valid a b h (f (place.Atom b) refl)
here_valid rows s (Some (place.Array ns)) a f h = absurd (atom_or_node a (made_at s) h)
here_valid rows s (Some (place.Object ps)) a f h = absurd (atom_or_node a (made_at s) h)
here_valid rows s (Some (place.Element x y z)) a f h = absurd (atom_or_node a (made_at s) h)
here_valid rows s (Some (place.Promise id)) a f h = absurd (atom_or_node a (promise_of id) h)
here_valid rows s (Some (place.Action id)) a f h = action_valid (is_some (reference_of rows id)) id a h
here_valid rows s (Some (place.Map r)) a f h = token_valid rows meaning.map_token s r a h
here_valid rows s (Some (place.Set r)) a f h = token_valid rows meaning.set_token s r a h
here_valid rows s (Some (place.Lazy id)) a f h = atom_valid a atom.Pending h tt
here_valid rows s (Some (place.Value r)) a f h = atom_valid a atom.Pending h tt

leads_valid : (rows : List PlacedRow) (w : Written) (a : Atom) → All IsFine rows → Leads rows w (store.atom a) → IsValidAtom a
leads_valid rows w a fine (inr h) = atom_valid a atom.Pending h.1 tt
leads_valid rows w a fine (inl h) = go h.0 h.2
  where
    go : (f : Found) → IsTarget rows f (store.atom a) → IsValidAtom a
    go (found s) t = here_valid rows s (place_at rows s) a (λ at e. (fine_place rows s at fine e).1) t
    go (stream id) t = absurd (atom_or_node a (stream_of id) t)
    go (not_yet id path) t = atom_valid a atom.Pending t tt
    go nowhere t = atom_valid a atom.Pending t tt

-- ---- slots

slot_valid : (rows : List PlacedRow) (keys : List NodeKey) (count : ℕ) (s : Slot) (w : Written) → All IsFine rows → length keys ≤ count → Draws rows keys s w → IsValidSlot count s
slot_valid rows keys count (slot.Atom a) w fine le h = leads_valid rows w a fine h
slot_valid rows keys count (slot.Node n) w fine le h = let lt = slice_get_within keys n h.0 h.1 in omega (arith, lt, le)

slots_valid : (rows : List PlacedRow) (keys : List NodeKey) (count : ℕ) (ss : List Slot) (ws : List Written) → All IsFine rows → length keys ≤ count → AllZip (Draws rows keys) ss ws → AllByRecursion (IsValidSlot count) ss
slots_valid rows keys count [] [] fine le h = tt
slots_valid rows keys count (s ∷ ss) (w ∷ ws) fine le h = (slot_valid rows keys count s w fine le h.0, slots_valid rows keys count ss ws fine le h.1)
slots_valid rows keys count [] (w ∷ ws) fine le h = absurd h
slots_valid rows keys count (s ∷ ss) [] fine le h = absurd h

-- ---- what a label says of what stands there

label_of_shape : (a : Label) (ws : List Written) (shape : Shape Written) → Some (record { label = a; slots = ws }) ≡ Some shape → shape.label ≡ a
label_of_shape a ws shape e = sym (ap (λ (s : Shape Written). s.label) (same_Some (record { label = a; slots = ws }) shape e))

same_names : (a b : List (List ℕ)) → store.object a ≡ store.object b → a ≡ b
same_names a b e = cc

stream_label : (id : ℕ) (ts : List PlaceTree) (shape : Shape Written) (names : List (List ℕ)) → stream_shape id ts ≡ Some shape → shape.label ≡ store.object names → ⊥
stream_label id [] shape names e l = none-some shape e
stream_label id (t ∷ ts) shape names e l = go t.kind (flowed id 1 ts) e
  where
    go : (k : RowKind) (f : Flowed) → opened k f ≡ Some shape → ⊥
    go (row.Open flow) f e = let q = sym l ∙ label_of_shape (store.stream flow (meaning.state_of f.end)) _ shape e in cc
    go row.Model f e = none-some shape e
    go row.Import f e = none-some shape e
    go row.Error f e = none-some shape e
    go row.Text f e = none-some shape e
    go row.Close f e = none-some shape e

action_label : (o : Option Reference) (shape : Shape Written) (names : List (List ℕ)) → action_shape o ≡ Some shape → shape.label ≡ store.object names → ⊥
action_label None shape names e l = none-some shape e
action_label (Some r) shape names e l = let q = sym l ∙ label_of_shape (store.action r.name) (at_place r.bound ∷ []) shape e in cc

object_ascends : (rows : List PlacedRow) (k : Identity) (shape : Shape Written) (names : List (List ℕ)) → All IsFine rows → HasShape rows k shape → shape.label ≡ store.object names → Ascend names
object_ascends rows (promise_of id) shape names fine h l = absurd (let q = sym l ∙ ap (λ (s : Shape Written). s.label) h in cc)
object_ascends rows (stream_of id) shape names fine h l = absurd (stream_label id (rows_of id rows) shape names h l)
object_ascends rows (action_of id) shape names fine h l = absurd (action_label (reference_of rows id) shape names h l)
object_ascends rows (made_at s) shape names fine h l = go (place_at rows s) (λ at e. (fine_place rows s at fine e).0) h
  where
    go : (o : Option Place) → ((at : Place) → o ≡ Some at → HasOrder at) → HasShapeHere rows s o shape → Ascend names
    go None f h = absurd (none-some shape h)
    go (Some (place.Object ps)) f h =
        let same : map (λ p. p.name) ps ≡ names = same_names (map (λ p. p.name) ps) names (sym (label_of_shape (store.object (map (λ p. p.name) ps)) _ shape h) ∙ l) in
        subst (λ ns. Ascend ns) same (f (place.Object ps) refl)
    go (Some (place.Array ns)) f h = absurd (let q = sym l ∙ label_of_shape store.array _ shape h in cc)
    go (Some (place.Element x y z)) f h = absurd (let q = sym l ∙ label_of_shape store.element _ shape h in cc)
    go (Some (place.Map r)) f h = absurd (let q = sym l ∙ ap (λ (s : Shape Written). s.label) h.2 in cc)
    go (Some (place.Set r)) f h = absurd (let q = sym l ∙ ap (λ (s : Shape Written). s.label) h.2 in cc)
    go (Some (place.Atom a)) f h = absurd (none-some shape h)
    go (Some (place.Promise id)) f h = absurd (none-some shape h)
    go (Some (place.Action id)) f h = absurd (none-some shape h)
    go (Some (place.Lazy id)) f h = absurd (none-some shape h)
    go (Some (place.Value r)) f h = absurd (none-some shape h)

-- ---- what a server reference is bound to

-- null or a promise stands there
abbrev BoundAt : List PlacedRow → linked.Spot → Type 0
BoundAt rows s = (place_at rows s ≡ Some (place.Atom atom.Null)) ⊎ ((id : ℕ) × (place_at rows s ≡ Some (place.Promise id)))

same_reference : (name : List ℕ) (bound : linked.Spot) (r : Reference) → reference_with (Some name) (Some bound) ≡ Some r → (r.name ≡ name) × (r.bound ≡ bound)
same_reference name bound r e =
    let q = same_Some (record { name = name; bound = bound }) r e in
    (sym (ap (λ (x : Reference). x.name) q), sym (ap (λ (x : Reference). x.bound) q))

bound_with : (a : Option (List ℕ)) (b : Option linked.Spot) (r : Reference) → reference_with a b ≡ Some r → b ≡ Some r.bound
bound_with None b r e = absurd (none-some r e)
bound_with (Some name) None r e = absurd (none-some r e)
bound_with (Some name) (Some bound) r e = ap Some (sym (same_reference name bound r e).1)

name_with : (a : Option (List ℕ)) (b : Option linked.Spot) (r : Reference) → reference_with a b ≡ Some r → a ≡ Some r.name
name_with None b r e = absurd (none-some r e)
name_with (Some name) None r e = absurd (none-some r e)
name_with (Some name) (Some bound) r e = ap Some (sym (same_reference name bound r e).0)

bound_place : (s b : linked.Spot) (o : Option Place) → bound_at s o ≡ Some b → (s ≡ b) × ((o ≡ Some (place.Atom atom.Null)) ⊎ ((id : ℕ) × (o ≡ Some (place.Promise id))))
bound_place s b None e = absurd (none-some b e)
bound_place s b (Some (place.Atom atom.Null)) e = (same_Some s b e, inl refl)
bound_place s b (Some (place.Promise id)) e = (same_Some s b e, inr (id, refl))
bound_place s b (Some at) e = absurd (none-some b e)

bound_of : (rows : List PlacedRow) (s b : linked.Spot) (o : Option ℕ) → option_and_then (λ n. bound_at (beside s n) (there rows s n)) o ≡ Some b → BoundAt rows b
bound_of rows s b None e = absurd (none-some b e)
bound_of rows s b (Some n) e =
    let w = bound_place (beside s n) b (there rows s n) e in
    subst (BoundAt rows) w.0 w.1

reference_here : (rows : List PlacedRow) (s : linked.Spot) (o : Option Place) (r : Reference) → reference_in rows s o ≡ Some r → BoundAt rows r.bound
reference_here rows s None r e = absurd (none-some r e)
reference_here rows s (Some (place.Object ps)) r e =
    bound_of rows s r.bound (property ps (codes "bound"))
    (bound_with (option_and_then (λ n. text_at (there rows s n)) (property ps (codes "id"))) (option_and_then (λ n. bound_at (beside s n) (there rows s n)) (property ps (codes "bound"))) r e)
reference_here rows s (Some at) r e = absurd (none-some r e)

reference_kind : (rows : List PlacedRow) (id : ℕ) (k : RowKind) (r : Reference) → reference_by rows id k ≡ Some r → reference_in rows (first_place id) (place_at rows (first_place id)) ≡ Some r
reference_kind rows id row.Model r e = e
reference_kind rows id k r e = absurd (none-some r e)

reference_row : (rows : List PlacedRow) (id : ℕ) (r : Reference) → reference_of rows id ≡ Some r → reference_in rows (first_place id) (place_at rows (first_place id)) ≡ Some r
reference_row rows id r e = go (slice_get (rows_of id rows) 0) e
  where
    go : (o : Option PlaceTree) → option_and_then (λ (t : PlaceTree). reference_by rows id t.kind) o ≡ Some r → reference_in rows (first_place id) (place_at rows (first_place id)) ≡ Some r
    go None e = absurd (none-some r e)
    go (Some t) e = reference_kind rows id t.kind r e

-- the parts of a reference, by what stands in its row
pub reference_parts : (rows : List PlacedRow) (id : ℕ) (r : Reference) (ps : List _) (n m : ℕ) (text : List ℕ) → reference_of rows id ≡ Some r → place_at rows (first_place id) ≡ Some (place.Object ps) → property ps (codes "id") ≡ Some n → property ps (codes "bound") ≡ Some m → place_at rows (beside (first_place id) n) ≡ Some (place.Atom (atom.Text text)) → (r.name ≡ text) × (r.bound ≡ beside (first_place id) m)
reference_parts rows id r ps n m text e at pn pm tn =
    let s : linked.Spot = first_place id in
    let w : reference_in rows s (Some (place.Object ps)) ≡ Some r = sym (ap (reference_in rows s) at) ∙ reference_row rows id r e in
    let texts : option_and_then (λ n. text_at (there rows s n)) (property ps (codes "id")) ≡ Some text = ap (option_and_then (λ n. text_at (there rows s n))) pn ∙ ap text_at tn in
    let bounds : bound_at (beside s m) (there rows s m) ≡ Some r.bound = sym (ap (option_and_then (λ n. bound_at (beside s n) (there rows s n))) pm) ∙ bound_with (option_and_then (λ n. text_at (there rows s n)) (property ps (codes "id"))) (option_and_then (λ n. bound_at (beside s n) (there rows s n)) (property ps (codes "bound"))) r w in
    let names = name_with (option_and_then (λ n. text_at (there rows s n)) (property ps (codes "id"))) (option_and_then (λ n. bound_at (beside s n) (there rows s n)) (property ps (codes "bound"))) r w in
    (sym (same_Some text r.name (sym texts ∙ names)), sym (bound_place (beside s m) r.bound (there rows s m) bounds).0)

-- the slots of a server reference's node
IsBoundShape : List PlacedRow → Shape Written → Type 0
IsBoundShape rows shape = (s : linked.Spot) × (shape.slots ≡ at_place s ∷ []) × BoundAt rows s

action_bound : (rows : List PlacedRow) (k : Identity) (shape : Shape Written) (name : List ℕ) → HasShape rows k shape → shape.label ≡ store.action name → IsBoundShape rows shape
unfolding IsBoundShape
action_bound rows (promise_of id) shape name h l = absurd (let q = sym l ∙ ap (λ (s : Shape Written). s.label) h in cc)
action_bound rows (stream_of id) shape name h l = absurd (go (rows_of id rows) h)
  where
    kinds : (k : RowKind) (f : Flowed) → opened k f ≡ Some shape → ⊥
    kinds (row.Open flow) f e = let q = sym l ∙ label_of_shape (store.stream flow (meaning.state_of f.end)) _ shape e in cc
    kinds row.Model f e = none-some shape e
    kinds row.Import f e = none-some shape e
    kinds row.Error f e = none-some shape e
    kinds row.Text f e = none-some shape e
    kinds row.Close f e = none-some shape e

    go : (ts : List PlaceTree) → stream_shape id ts ≡ Some shape → ⊥
    go [] e = none-some shape e
    go (t ∷ ts) e = kinds t.kind (flowed id 1 ts) e
action_bound rows (action_of id) shape name h l = go (reference_of rows id) refl h
  where
    go : (o : Option Reference) → reference_of rows id ≡ o → action_shape o ≡ Some shape → IsBoundShape rows shape
    go None is e = absurd (none-some shape e)
    go (Some r) is e = (r.bound, sym (ap (λ (s : Shape Written). s.slots) (same_Some (record { label = store.action r.name; slots = at_place r.bound ∷ [] }) shape e)), reference_here rows (first_place id) (place_at rows (first_place id)) r (reference_row rows id r is))
action_bound rows (made_at s) shape name h l = absurd (go (place_at rows s) h)
  where
    go : (o : Option Place) → HasShapeHere rows s o shape → ⊥
    go None h = none-some shape h
    go (Some (place.Object ps)) h = let q = sym l ∙ label_of_shape (store.object (map (λ p. p.name) ps)) _ shape h in cc
    go (Some (place.Array ns)) h = let q = sym l ∙ label_of_shape store.array _ shape h in cc
    go (Some (place.Element x y z)) h = let q = sym l ∙ label_of_shape store.element _ shape h in cc
    go (Some (place.Map r)) h = let q = sym l ∙ ap (λ (s : Shape Written). s.label) h.2 in cc
    go (Some (place.Set r)) h = let q = sym l ∙ ap (λ (s : Shape Written). s.label) h.2 in cc
    go (Some (place.Atom a)) h = none-some shape h
    go (Some (place.Promise id)) h = none-some shape h
    go (Some (place.Action id)) h = none-some shape h
    go (Some (place.Lazy id)) h = none-some shape h
    go (Some (place.Value r)) h = none-some shape h

leads_bound : (rows : List PlacedRow) (s : linked.Spot) → BoundAt rows s → Leads rows (at_place s) (store.atom atom.Null) ⊎ ((id : ℕ) × Leads rows (at_place s) (store.node_at (promise_of id)))
leads_bound rows s (inl e) = inl (inl (found s, turn_ends rows (here s []) (found s) (stop_turn rows s (place.Atom atom.Null, e, tt)), subst (λ o. LeadsHere rows s o (store.atom atom.Null)) (sym e) refl))
leads_bound rows s (inr h) = inr (h.0, inl (found s, turn_ends rows (here s []) (found s) (stop_turn rows s (place.Promise h.0, h.1, tt)), subst (λ o. LeadsHere rows s o (store.node_at (promise_of h.0))) (sym h.1) refl))

is_null : (nodes : List Node) (a : Atom) → atom_at a ≡ atom_at atom.Null → IsBound nodes (slot.Atom a)
is_null nodes a e = subst (λ b. IsBound nodes (slot.Atom b)) (sym (same a e)) tt
  where
    same : (a : Atom) → atom_at a ≡ atom_at atom.Null → a ≡ atom.Null
    same a e = cc

promise_label : (x : Node) → label_of x ≡ store.promise → IsPromise (Some x)
promise_label (node.Promise outcome) e = tt
promise_label (node.Array items) e = cc
promise_label (node.Object props) e = cc
promise_label (node.Map pairs) e = cc
promise_label (node.Set items) e = cc
promise_label (node.Element a b c) e = cc
promise_label (node.Stream flow items end) e = cc
promise_label (node.Action id bound) e = cc

is_promise : (rows : List PlacedRow) (keys : List NodeKey) (nodes : List Node) (n id : ℕ) (key : NodeKey) → AreDrawn rows keys nodes → slice_get keys n ≡ Some key → store.node_at (identity_of rows key) ≡ store.node_at (promise_of id) → IsPromise (slice_get nodes n)
is_promise rows keys nodes n id key drawn at e =
    let x = node_of_key keys nodes n key drawn.all at in
    let d = drawn.each n x.0 x.1 in
    let same : identity_of rows d.0 ≡ promise_of id = ap (identity_of rows) (same_Some d.0 key (sym d.1 ∙ at)) ∙ same_node (identity_of rows key) (promise_of id) e in
    let stands = subst (λ k. HasShape rows k d.2.shape) same d.2.stands in
    subst IsPromise (sym x.1) (promise_label x.0 (d.2.label ∙ ap (λ (s : Shape Written). s.label) stands))
  where
    same_node : (a b : Identity) → store.node_at a ≡ store.node_at b → a ≡ b
    same_node a b e = cc

bound_valid : (rows : List PlacedRow) (keys : List NodeKey) (nodes : List Node) (s : Slot) (w : linked.Spot) → AreDrawn rows keys nodes → BoundAt rows w → Draws rows keys s (at_place w) → IsBound nodes s
bound_valid rows keys nodes (slot.Atom a) w drawn b h =
    elim (leads_bound rows w b) [
      | inl l ↦ is_null nodes a (leads_once rows (at_place w) (store.atom a) (store.atom atom.Null) h l)
      | inr l ↦ absurd (atom_or_node a (promise_of l.0) (leads_once rows (at_place w) (store.atom a) (store.node_at (promise_of l.0)) h l.1))
    ]
bound_valid rows keys nodes (slot.Node n) w drawn b h =
    elim (leads_bound rows w b) [
      | inl l ↦ absurd (atom_or_node atom.Null (identity_of rows h.0) (leads_once rows (at_place w) (store.atom atom.Null) (store.node_at (identity_of rows h.0)) l h.2))
      | inr l ↦ is_promise rows keys nodes n l.0 h.0 drawn h.1 (leads_once rows (at_place w) (store.node_at (identity_of rows h.0)) (store.node_at (promise_of l.0)) h.2 l.1)
    ]

-- ---- nodes

kind_valid : (rows : List PlacedRow) (keys : List NodeKey) (nodes : List Node) (k : Identity) (x : Node) → All IsFine rows → AreDrawn rows keys nodes → DrawsNode rows keys k x → IsValidKind nodes x
unfolding IsBoundShape
kind_valid rows keys nodes k (node.Object props) fine drawn d = object_ascends rows k d.shape (map (λ p. p.name) props) fine d.stands (sym d.label)
kind_valid rows keys nodes k (node.Action id bound) fine drawn d =
    let w = action_bound rows k d.shape id d.stands (sym d.label) in
    let zipped = subst (λ ws. AllZip (Draws rows keys) (bound ∷ []) ws) w.1 d.slots in
    bound_valid rows keys nodes bound w.0 drawn w.2 zipped.0
kind_valid rows keys nodes k (node.Array items) fine drawn d = tt
kind_valid rows keys nodes k (node.Map pairs) fine drawn d = tt
kind_valid rows keys nodes k (node.Set items) fine drawn d = tt
kind_valid rows keys nodes k (node.Element a b c) fine drawn d = tt
kind_valid rows keys nodes k (node.Promise outcome) fine drawn d = tt
kind_valid rows keys nodes k (node.Stream flow items end) fine drawn d = tt

node_valid : (rows : List PlacedRow) (keys : List NodeKey) (nodes : List Node) (k : Identity) (x : Node) → All IsFine rows → AreDrawn rows keys nodes → DrawsNode rows keys k x → IsValidNode nodes x
node_valid rows keys nodes k x fine drawn d = record {
  few = d.few;
  slots = All-from_recursion (IsValidSlot (length nodes)) (slots_of x) (slots_valid rows keys (length nodes) (slots_of x) d.shape.slots fine drawn.all d.slots);
  kind = kind_valid rows keys nodes k x fine drawn d;
}

pub graph_valid : (rows : List PlacedRow) (keys : List NodeKey) (root : Slot) (nodes : List Node) → All IsFine rows → length nodes < 2 ^ 32 → Draws rows keys root (value_of 0) → AreDrawn rows keys nodes → IsValid (record { root = root; nodes = nodes })
graph_valid rows keys root nodes fine few at drawn = record {
  few = few;
  valid_root = slot_valid rows keys (length nodes) root (value_of 0) fine drawn.all at;
  each = λ i d lt.
      let e = slice_get-get_or nodes i d lt in
      let w = drawn.each i (get_or nodes i d) e in
      node_valid rows keys nodes (identity_of rows w.0) (get_or nodes i d) fine drawn w.2;
}

-- ---- the whole

pub drawing_right : (rows : List PlacedRow) (d : Drawing) (nodes : List Node) → All IsFine rows → IsDrawing rows d → nodes ≡ d.nodes.items → IsValid (record { root = d.root; nodes = nodes }) × DrawOneGraph (of_graph (record { root = d.root; nodes = nodes })) (meaning.meaning rows)
drawing_right rows d nodes fine h e =
    let whole : List Node → Type 0 = λ xs. IsValid (record { root = d.root; nodes = xs }) × DrawOneGraph (of_graph (record { root = d.root; nodes = xs })) (meaning.meaning rows) in
    subst whole (sym e) (graph_valid rows d.keys.items d.root d.nodes.items fine h.few h.root h.drawn, (numbered_from rows 0 d.keys.items, graph_fits rows d.keys.items d.root d.nodes.items h.root h.drawn h.apart))
