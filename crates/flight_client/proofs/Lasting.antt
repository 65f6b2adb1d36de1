-- What a look showed stays when more rows come.
use Rattle.std.proofs.Common.{◌≡◌, ◌≢◌, ℕ, List, [], ◌∷◌, ◌++◌, refl, sym, ◌∙◌, ap, subst, append-nil, Option, Some, None, inl, inr}
use Rattle.std.specs.Prelude.{slice_get}
use Rattle.flight_value.specs.Store as store
use Rattle.flight_value.specs.Store.{Label, Shape, Target}
use Rattle.flight_value.specs.declared.graph.Atom.{Atom}
use Rattle.flight_value.specs.declared.graph.Atom.TheVariants as atom
use Rattle.flight_value.specs.declared.graph.Flow.{Flow}
use Rattle.flight_text.specs.declared.mark.Ref.{Ref}
use Rattle.flight_graph.specs.Look.{kind_of}
use Rattle.flight_meaning.specs.declared.place.Place.{Place}
use Rattle.flight_meaning.specs.declared.place.Place.TheVariants as place
use Rattle.flight_meaning.specs.declared.place.PlacedRow.{PlacedRow}
use Rattle.flight_meaning.specs.Linked.{Spot, place_at}
use Rattle.flight_meaning.specs.Meaning.{Written, Identity, made_at, promise_of, stream_of, action_of, Token, map_token, set_token, token_label, HasShapeHere, HasTokenShape, Reference, action_shape, reference_of, Leads, HasShape, pending}
use Rattle.flight_meaning.specs.Lasting.{HasEnded}
use Rattle.flight_meaning.proofs.MoreRows.{slice_get-front}
use Rattle.flight_meaning.proofs.MoreMeaning.{shape-more, leads-more, stream-grows}
use Rattle.flight_link.specs.Looking.{Sight, sees_atom, sees_node, awaits, no_place, SeesHere, SeesPast, InSlot, Sees}
use Rattle.flight_client.specs.AnyPrefix.{Lasts}

-- ---- a node stays, and a stream that goes on takes more slots behind its own

pub record Grows (rows more : List PlacedRow) (k : Identity) (shape : Shape Written) : Type 0 where
  pub later : Shape Written
  pub has : HasShape (rows ++ more) k later
  pub kind : kind_of later.label ≡ kind_of shape.label
  pub rest : List Written
  pub slots : later.slots ≡ shape.slots ++ rest

same_shape : (x y : Shape Written) → Some x ≡ Some y → HasEnded x.label → HasEnded y.label
same_shape x y e h = let s : x ≡ y = cc in subst (λ z. HasEnded z.label) s h

token_ended : (rows : List PlacedRow) (token : Token) (r : Ref) (shape : Shape Written) → HasEnded (token_label token) → HasTokenShape rows token r shape → HasEnded shape.label
token_ended rows token r shape e h = subst (λ z. HasEnded z.label) (sym h.2) e

none_shape : (P : Type 0) (y : Shape Written) → None ≡ Some y → P
none_shape P y e = cc

pub made_ended : (rows : List PlacedRow) (s : Spot) (o : Option Place) (shape : Shape Written) → HasShapeHere rows s o shape → HasEnded shape.label
made_ended rows s None shape h = none_shape (HasEnded shape.label) shape h
made_ended rows s (Some (place.Atom a)) shape h = none_shape (HasEnded shape.label) shape h
made_ended rows s (Some (place.Array ns)) shape h = same_shape _ shape h tt
made_ended rows s (Some (place.Object ps)) shape h = same_shape _ shape h tt
made_ended rows s (Some (place.Element tag key props)) shape h = same_shape _ shape h tt
made_ended rows s (Some (place.Lazy id)) shape h = none_shape (HasEnded shape.label) shape h
made_ended rows s (Some (place.Promise id)) shape h = none_shape (HasEnded shape.label) shape h
made_ended rows s (Some (place.Value at)) shape h = none_shape (HasEnded shape.label) shape h
made_ended rows s (Some (place.Map at)) shape h = token_ended rows map_token at shape tt h
made_ended rows s (Some (place.Set at)) shape h = token_ended rows set_token at shape tt h
made_ended rows s (Some (place.Action id)) shape h = none_shape (HasEnded shape.label) shape h

pub action_ended : (o : Option Reference) (shape : Shape Written) → action_shape o ≡ Some shape → HasEnded shape.label
action_ended (Some r) shape h = same_shape _ shape h tt
action_ended None shape h = none_shape (HasEnded shape.label) shape h

stays_ended : (rows more : List PlacedRow) (k : Identity) (shape : Shape Written) → HasEnded shape.label → HasShape rows k shape → Grows rows more k shape
stays_ended rows more k shape e h = record { later = shape; has = shape-more rows more k shape e h; kind = refl; rest = []; slots = sym (append-nil shape.slots) }

flows_on : (rows more : List PlacedRow) (k : Identity) (shape : Shape Written) (flow : Flow) → shape.label ≡ store.stream flow store.flowing → HasShape rows k shape → Grows rows more k shape
flows_on rows more (made_at s) shape flow e h = stays_ended rows more (made_at s) shape (made_ended rows s (place_at rows s) shape h) h
flows_on rows more (promise_of id) shape flow e h = stays_ended rows more (promise_of id) shape (subst (λ z. HasEnded z.label) (sym h) tt) h
flows_on rows more (action_of id) shape flow e h = stays_ended rows more (action_of id) shape (action_ended (reference_of rows id) shape h) h
flows_on rows more (stream_of id) shape flow e h =
    let is : HasShape rows (stream_of id) (record { label = store.stream flow store.flowing; slots = shape.slots }) = subst (λ l. HasShape rows (stream_of id) (record { label = l; slots = shape.slots })) e h in
    let g = stream-grows rows more id flow store.flowing shape.slots is in
    record {
      later = record { label = store.stream flow g.0; slots = shape.slots ++ g.1 };
      has = g.2;
      kind = ap kind_of (sym e);
      rest = g.1;
      slots = refl;
    }

grows_by : (rows more : List PlacedRow) (k : Identity) (shape : Shape Written) (l : Label) → shape.label ≡ l → HasShape rows k shape → Grows rows more k shape
grows_by rows more k shape store.array e h = stays_ended rows more k shape (subst HasEnded (sym e) tt) h
grows_by rows more k shape (store.object names) e h = stays_ended rows more k shape (subst HasEnded (sym e) tt) h
grows_by rows more k shape store.map_of e h = stays_ended rows more k shape (subst HasEnded (sym e) tt) h
grows_by rows more k shape store.set_of e h = stays_ended rows more k shape (subst HasEnded (sym e) tt) h
grows_by rows more k shape store.element e h = stays_ended rows more k shape (subst HasEnded (sym e) tt) h
grows_by rows more k shape store.promise e h = stays_ended rows more k shape (subst HasEnded (sym e) tt) h
grows_by rows more k shape (store.action id) e h = stays_ended rows more k shape (subst HasEnded (sym e) tt) h
grows_by rows more k shape (store.stream flow store.closed) e h = stays_ended rows more k shape (subst HasEnded (sym e) tt) h
grows_by rows more k shape (store.stream flow (store.broken digest)) e h = stays_ended rows more k shape (subst HasEnded (sym e) tt) h
grows_by rows more k shape (store.stream flow store.flowing) e h = flows_on rows more k shape flow e h

pub grows : (rows more : List PlacedRow) (k : Identity) (shape : Shape Written) → HasShape rows k shape → Grows rows more k shape
grows rows more k shape h = grows_by rows more k shape shape.label refl h

-- ---- along a path

pub node_not_pending : (k : Identity) → store.node_at k ≢ pending
node_not_pending k e = cc

pub atom_not_pending : (a : Atom) → a ≢ atom.Pending → store.atom a ≢ pending
atom_not_pending a n e = n (let same : a ≡ atom.Pending = cc in same)

lasts_no_place : (rows : List PlacedRow) (w : Written) (path : List ℕ) (sight : Sight) → sight ≡ no_place → Lasts rows w path sight
lasts_no_place rows w path sight e = subst (λ x. Lasts rows w path x) (sym e) tt

lasts_yet : (rows : List PlacedRow) (w : Written) (path : List ℕ) (sight : Sight) (id : ℕ) → sight ≡ awaits id → Lasts rows w path sight
lasts_yet rows w path sight id e = subst (λ x. Lasts rows w path x) (sym e) tt

lasts_past : (rows : List PlacedRow) (w : Written) (path : List ℕ) (l : Label) (k : Identity) (sight : Sight) → SeesPast l k sight → Lasts rows w path sight
lasts_past rows w path store.array k sight e = lasts_no_place rows w path sight e
lasts_past rows w path (store.object names) k sight e = lasts_no_place rows w path sight e
lasts_past rows w path store.map_of k sight e = lasts_no_place rows w path sight e
lasts_past rows w path store.set_of k sight e = lasts_no_place rows w path sight e
lasts_past rows w path store.element k sight e = lasts_no_place rows w path sight e
lasts_past rows w path store.promise k sight e = lasts_no_place rows w path sight e
lasts_past rows w path (store.action id) k sight e = lasts_no_place rows w path sight e
lasts_past rows w path (store.stream flow store.closed) k sight e = lasts_no_place rows w path sight e
lasts_past rows w path (store.stream flow (store.broken digest)) k sight e = lasts_no_place rows w path sight e
lasts_past rows w path (store.stream flow store.flowing) (made_at s) sight e = lasts_no_place rows w path sight e
lasts_past rows w path (store.stream flow store.flowing) (promise_of id) sight e = lasts_no_place rows w path sight e
lasts_past rows w path (store.stream flow store.flowing) (action_of id) sight e = lasts_no_place rows w path sight e
lasts_past rows w path (store.stream flow store.flowing) (stream_of id) sight e = lasts_yet rows w path sight id e

here_lasts : (rows more : List PlacedRow) (w : Written) (sight : Sight) → SeesHere rows w sight → Lasts (rows ++ more) w [] sight
here_lasts rows more w (sees_atom value) h = (leads-more rows more w (store.atom value) (atom_not_pending value h.1) h.0, h.1)
here_lasts rows more w (sees_node l k) h =
    let g = grows rows more k h.1.0 h.1.1 in
    (g.later.label, g.kind ∙ ap kind_of (sym h.1.2), (leads-more rows more w (store.node_at k) (node_not_pending k) h.0, (g.later, g.has, refl)))
here_lasts rows more w (awaits id) h = tt
here_lasts rows more w no_place h = tt

into_lasts : (rows : List PlacedRow) (w v : Written) (n : ℕ) (path : List ℕ) (k : Identity) (shape : Shape Written) (sight : Sight) → Leads rows w (store.node_at k) → HasShape rows k shape → slice_get shape.slots n ≡ Some v → Lasts rows v path sight → Lasts rows w (n ∷ path) sight
into_lasts rows w v n path k shape (sees_atom value) leads has e h =
    inl (k, shape, leads, has, subst (λ o. InSlot (λ x. Sees rows x path (sees_atom value)) shape.label k o (sees_atom value)) (sym e) h)
into_lasts rows w v n path k shape (sees_node l j) leads has e h =
    (h.0, h.1, inl (k, shape, leads, has, subst (λ o. InSlot (λ x. Sees rows x path (sees_node h.0 j)) shape.label k o (sees_node h.0 j)) (sym e) h.2))
into_lasts rows w v n path k shape (awaits id) leads has e h = tt
into_lasts rows w v n path k shape no_place leads has e h = tt

below_lasts : (rows more : List PlacedRow) (w : Written) (n : ℕ) (path : List ℕ) (sight : Sight) → ((v : Written) → Sees rows v path sight → Lasts (rows ++ more) v path sight) → (k : Identity) (shape : Shape Written) → Leads rows w (store.node_at k) → HasShape rows k shape → (o : Option Written) → slice_get shape.slots n ≡ o → InSlot (λ v. Sees rows v path sight) shape.label k o sight → Lasts (rows ++ more) w (n ∷ path) sight
below_lasts rows more w n path sight next k shape leads has (Some v) e goes =
    let g = grows rows more k shape has in
    let there : slice_get g.later.slots n ≡ Some v = ap (λ ss. slice_get ss n) g.slots ∙ slice_get-front shape.slots g.rest n v e in
    into_lasts (rows ++ more) w v n path k g.later sight (leads-more rows more w (store.node_at k) (node_not_pending k) leads) g.has there (next v goes)
below_lasts rows more w n path sight next k shape leads has None e goes = lasts_past (rows ++ more) w (n ∷ path) shape.label k sight goes

pub sight_lasts : (rows more : List PlacedRow) (path : List ℕ) (w : Written) (sight : Sight) → Sees rows w path sight → Lasts (rows ++ more) w path sight
sight_lasts rows more [] w sight h = here_lasts rows more w sight h
sight_lasts rows more (n ∷ path) w sight (inl h) = below_lasts rows more w n path sight (λ v k. sight_lasts rows more path v sight k) h.0 h.1 h.2 h.3 (slice_get h.1.slots n) refl h.4
sight_lasts rows more (n ∷ path) w sight (inr (inl h)) = lasts_no_place (rows ++ more) w (n ∷ path) sight h.3
sight_lasts rows more (n ∷ path) w sight (inr (inr (inl h))) = lasts_yet (rows ++ more) w (n ∷ path) sight h.0 h.2
sight_lasts rows more (n ∷ path) w sight (inr (inr (inr h))) = lasts_no_place (rows ++ more) w (n ∷ path) sight h.2
