-- A graph that draws what rows mean has at each path what a look shows there.
use Rattle.std.proofs.Common.{◌≡◌, ℕ, zero, suc, List, [], ◌∷◌, refl, sym, ◌∙◌, ap, subst, Option, Some, None, inl, inr}
use Rattle.std.specs.Prelude.{slice_get, option_map, option_and_then, unwrap_or}
use Rattle.std.specs.List.{AllZip}
use Rattle.flight_value.specs.Store as store
use Rattle.flight_value.specs.Store.{Label, Shape, Target, Store, TargetsFit, SlotsFit, NodesFit, Fits, Paired, DrawOneGraph, of_graph, label_of, shape_of}
use Rattle.flight_value.specs.declared.graph.Atom.{Atom}
use Rattle.flight_value.specs.declared.graph.Slot.{Slot}
use Rattle.flight_value.specs.declared.graph.Slot.TheVariants as slot
use Rattle.flight_value.specs.declared.graph.Node.{Node}
use Rattle.flight_value.specs.declared.graph.Graph.{Graph}
use Rattle.flight_graph.specs.Canon.{node_at, slots_at}
use Rattle.flight_graph.specs.Look.{slot_along}
use Rattle.flight_meaning.specs.declared.place.PlacedRow.{PlacedRow}
use Rattle.flight_meaning.specs.Meaning.{Written, Identity, made_at, promise_of, stream_of, action_of, Leads, HasShape, meaning}
use Rattle.flight_meaning.proofs.OneMeaning.{leads_once, stands_once}
use Rattle.flight_link.specs.Looking.{Sight, sees_atom, sees_node, awaits, no_place, SeesHere, SeesPast, InSlot, Sees}
use Rattle.flight_client.specs.AnyPrefix.{Holds, ShowsAlike}

-- ---- a slot and what is written there lead to one thing

atom_in : (P : ℕ → Identity → Type 0) (s : Slot) (here : Target ℕ) (v : Atom) → store.target_of s ≡ here → TargetsFit P here (store.atom v) → s ≡ slot.Atom v
atom_in P (slot.Atom a) here v e f = let g : a ≡ v = subst (λ t. TargetsFit P t (store.atom v)) (sym e) f in ap slot.Atom g
atom_in P (slot.Node n) here v e f = absurd (subst (λ t. TargetsFit P t (store.atom v)) (sym e) f)

node_in : (P : ℕ → Identity → Type 0) (s : Slot) (here : Target ℕ) (k : Identity) → store.target_of s ≡ here → TargetsFit P here (store.node_at k) → (n : ℕ) × (s ≡ slot.Node n) × P n k
node_in P (slot.Atom a) here k e f = absurd (subst (λ t. TargetsFit P t (store.node_at k)) (sym e) f)
node_in P (slot.Node n) here k e f = (n, refl, subst (λ t. TargetsFit P t (store.node_at k)) (sym e) f)

-- ---- a node by its number

shape_there : (o : Option Node) (d : Node) (shape : Shape Slot) → option_map shape_of o ≡ Some shape → shape_of (unwrap_or o d) ≡ shape
shape_there (Some n) d shape e = cc
shape_there None d shape e = cc

slot_fits : (P : ℕ → Identity → Type 0) (g : Store ℕ Slot) (h : Store Identity Written) (ss : List Slot) (ws : List Written) (n : ℕ) (w : Written) → AllZip (SlotsFit P g h) ss ws → slice_get ws n ≡ Some w → (s : Slot) × (slice_get ss n ≡ Some s) × SlotsFit P g h s w
slot_fits P g h [] [] n w f e = cc
slot_fits P g h [] (v ∷ ws) n w f e = absurd f
slot_fits P g h (s ∷ ss) [] n w f e = absurd f
slot_fits P g h (s ∷ ss) (v ∷ ws) zero w f e = let same : v ≡ w = cc in (s, refl, subst (SlotsFit P g h s) same f.0)
slot_fits P g h (s ∷ ss) (v ∷ ws) (suc n) w f e = slot_fits P g h ss ws n w f.1 e

-- ---- along a path

record Meets (rows : List PlacedRow) (g : Graph) (P : ℕ → Identity → Type 0) (s : Slot) (node : Identity) (shape : Shape Written) : Type 0 where
  number : ℕ
  is_node : s ≡ slot.Node number
  label : label_of (node_at g.nodes number) ≡ shape.label
  slots : AllZip (SlotsFit P (of_graph g) (meaning rows)) (slots_at g.nodes number) shape.slots

meets : (rows : List PlacedRow) (g : Graph) (P : ℕ → Identity → Type 0) → Fits P (of_graph g) (meaning rows) → (s : Slot) (w : Written) → SlotsFit P (of_graph g) (meaning rows) s w → (node : Identity) (shape : Shape Written) → Leads rows w (store.node_at node) → HasShape rows node shape → Meets rows g P s node shape
meets rows g P fits s w f node shape leads has =
    let there = leads_once rows w f.there (store.node_at node) f.leads_there leads in
    let found = node_in P s f.here node f.leads_here (subst (TargetsFit P f.here) there f.targets_fit) in
    let nodes = fits.each found.0 node found.2 in
    let same = stands_once rows node nodes.there shape nodes.is_there has in
    let is = shape_there (slice_get g.nodes found.0) _ nodes.here nodes.is_here in
    record {
      number = found.0;
      is_node = found.1;
      label = ap (λ x. x.label) is ∙ (nodes.labels ∙ ap (λ x. x.label) same);
      slots = subst (λ x. AllZip (SlotsFit P (of_graph g) (meaning rows)) x shape.slots) (sym (ap (λ x. x.slots) is))
          (subst (λ x. AllZip (SlotsFit P (of_graph g) (meaning rows)) nodes.here.slots x.slots) same nodes.slots_fit);
    }

unsaid : (nodes : List Node) (o : Option Slot) (sight : Sight) → (sight ≡ no_place) → Holds nodes sight o
unsaid nodes o sight e = subst (λ x. Holds nodes x o) (sym e) tt

unsaid_yet : (nodes : List Node) (o : Option Slot) (sight : Sight) (id : ℕ) → (sight ≡ awaits id) → Holds nodes sight o
unsaid_yet nodes o sight id e = subst (λ x. Holds nodes x o) (sym e) tt

past : (nodes : List Node) (o : Option Slot) (label : Label) (node : Identity) (sight : Sight) → SeesPast label node sight → Holds nodes sight o
past nodes o store.array node sight e = unsaid nodes o sight e
past nodes o (store.object names) node sight e = unsaid nodes o sight e
past nodes o store.map_of node sight e = unsaid nodes o sight e
past nodes o store.set_of node sight e = unsaid nodes o sight e
past nodes o store.element node sight e = unsaid nodes o sight e
past nodes o store.promise node sight e = unsaid nodes o sight e
past nodes o (store.action id) node sight e = unsaid nodes o sight e
past nodes o (store.stream flow store.closed) node sight e = unsaid nodes o sight e
past nodes o (store.stream flow (store.broken digest)) node sight e = unsaid nodes o sight e
past nodes o (store.stream flow store.flowing) (made_at s) sight e = unsaid nodes o sight e
past nodes o (store.stream flow store.flowing) (promise_of id) sight e = unsaid nodes o sight e
past nodes o (store.stream flow store.flowing) (action_of id) sight e = unsaid nodes o sight e
past nodes o (store.stream flow store.flowing) (stream_of id) sight e = unsaid_yet nodes o sight id e

here_holds : (rows : List PlacedRow) (g : Graph) (P : ℕ → Identity → Type 0) → Fits P (of_graph g) (meaning rows) → (s : Slot) (w : Written) → SlotsFit P (of_graph g) (meaning rows) s w → (sight : Sight) → SeesHere rows w sight → Holds g.nodes sight (Some s)
here_holds rows g P fits s w f (sees_atom value) h =
    let there = leads_once rows w f.there (store.atom value) f.leads_there h.0 in
    ap Some (atom_in P s f.here value f.leads_here (subst (TargetsFit P f.here) there f.targets_fit))
here_holds rows g P fits s w f (sees_node label node) h =
    let m = meets rows g P fits s w f node h.1.0 h.0 h.1.1 in
    (m.number, ap Some m.is_node, m.label ∙ sym h.1.2)
here_holds rows g P fits s w f (awaits id) h = tt
here_holds rows g P fits s w f no_place h = tt

below_holds : (rows : List PlacedRow) (g : Graph) (P : ℕ → Identity → Type 0) → Fits P (of_graph g) (meaning rows) → (s : Slot) (w : Written) → SlotsFit P (of_graph g) (meaning rows) s w → (n : ℕ) (path : List ℕ) (sight : Sight) → ((t : Slot) (v : Written) → SlotsFit P (of_graph g) (meaning rows) t v → Sees rows v path sight → Holds g.nodes sight (slot_along g.nodes t path)) → (node : Identity) (shape : Shape Written) → Leads rows w (store.node_at node) → HasShape rows node shape → (o : Option Written) → slice_get shape.slots n ≡ o → InSlot (λ v. Sees rows v path sight) shape.label node o sight → Holds g.nodes sight (slot_along g.nodes s (n ∷ path))
below_holds rows g P fits s w f n path sight next node shape leads has (Some v) e goes =
    let m = meets rows g P fits s w f node shape leads has in
    let t = slot_fits P (of_graph g) (meaning rows) (slots_at g.nodes m.number) shape.slots n v m.slots e in
    let into = next t.0 v t.2 goes in
    subst (λ x. Holds g.nodes sight (slot_along g.nodes x (n ∷ path))) (sym m.is_node)
    (subst (λ o. Holds g.nodes sight (option_and_then (λ x. slot_along g.nodes x path) o)) (sym t.1) into)
below_holds rows g P fits s w f n path sight next node shape leads has None e goes = past g.nodes (slot_along g.nodes s (n ∷ path)) shape.label node sight goes

pub slot_holds : (rows : List PlacedRow) (g : Graph) (P : ℕ → Identity → Type 0) → Fits P (of_graph g) (meaning rows) → (path : List ℕ) (sight : Sight) (s : Slot) (w : Written) → SlotsFit P (of_graph g) (meaning rows) s w → Sees rows w path sight → Holds g.nodes sight (slot_along g.nodes s path)
slot_holds rows g P fits [] sight s w f h = here_holds rows g P fits s w f sight h
slot_holds rows g P fits (n ∷ path) sight s w f (inl h) =
    below_holds rows g P fits s w f n path sight (λ t v x k. slot_holds rows g P fits path sight t v x k) h.0 h.1 h.2 h.3 (slice_get h.1.slots n) refl h.4
slot_holds rows g P fits (n ∷ path) sight s w f (inr (inl h)) = unsaid g.nodes (slot_along g.nodes s (n ∷ path)) sight h.3
slot_holds rows g P fits (n ∷ path) sight s w f (inr (inr (inl h))) = unsaid_yet g.nodes (slot_along g.nodes s (n ∷ path)) sight h.0 h.2
slot_holds rows g P fits (n ∷ path) sight s w f (inr (inr (inr h))) = unsaid g.nodes (slot_along g.nodes s (n ∷ path)) sight h.2

pub shows_alike : (rows : List PlacedRow) (g : Graph) → DrawOneGraph (of_graph g) (meaning rows) → ShowsAlike rows g
shows_alike rows g d path sight h = slot_holds rows g (Paired d.0) d.1 path sight g.root _ d.1.roots h
