-- The graph that was drawn is that of the rows.
use Rattle.std.proofs.Common.{◌≡◌, ℕ, zero, suc, ◌+◌, ◌<◌, ◌≤◌, List, [], ◌∷◌, length, Some, slice_get, refl, sym, ◌∙◌, ap, subst, arith, inl, inr}
use Rattle.std.specs.Prelude.{option_map, slice_index_or}
use Rattle.std.proofs.lemmas.Option.{none-some, same_Some, slice_get_within, slice_get_cases}
use Rattle.flight_value.specs.declared.graph.Slot.{Slot}
use Rattle.flight_value.specs.declared.graph.Slot.TheVariants as slot
use Rattle.flight_value.specs.declared.graph.Node.{Node}
use Rattle.flight_value.specs.declared.graph.Graph.{Graph}
use Rattle.flight_value.specs.Graph.{slots_of}
use Rattle.flight_value.specs.Store as store
use Rattle.flight_value.specs.Store.{Shape, SlotsFit, NodesFit, Fits, Paired, shape_of, of_graph}
use Rattle.flight_meaning.specs.declared.place.PlacedRow.{PlacedRow}
use Rattle.flight_meaning.specs.Meaning.{Written, value_of, Identity, HasShape, meaning}
use Rattle.flight_link.specs.declared.key.NodeKey.{NodeKey}
use Rattle.flight_link.specs.Drawing.{identity_of, numbered_from, Draws, AreDrawn, AreApart}
use Rattle.flight_link.proofs.Drawing.{zip_as}

-- ---- pairs of numbers and identities

pub record IsPairOf (rows : List PlacedRow) (i : ℕ) (keys : List NodeKey) (n : ℕ) (k : Identity) : Type 0 where
  pub place : ℕ
  pub key : NodeKey
  pub at : slice_get keys place ≡ Some key
  pub number : n ≡ i + place
  pub identity : identity_of rows key ≡ k

held_at : (rows : List PlacedRow) (i : ℕ) (keys : List NodeKey) (n : ℕ) (k : Identity) (j : ℕ) → j < length (numbered_from rows i keys) → slice_index_or (numbered_from rows i keys) j (n, k) ≡ (n, k) → IsPairOf rows i keys n k
held_at rows i [] n k j lt e = absurd (omega (arith, lt))
held_at rows i (x ∷ keys) n k zero lt e = record {
  place = 0;
  key = x;
  at = refl;
  number = sym (ap (λ p. p.0) e) ∙ omega arith;
  identity = ap (λ p. p.1) e;
}
held_at rows i (x ∷ keys) n k (suc j) lt e =
    let h = held_at rows (suc i) keys n k j (omega (arith, lt)) e in
    record { place = suc h.place; key = h.key; at = h.at; number = omega (arith, h.number); identity = h.identity }

pub pair_held : (rows : List PlacedRow) (keys : List NodeKey) (n : ℕ) (k : Identity) → Paired (numbered_from rows 0 keys) n k → (key : NodeKey) × (slice_get keys n ≡ Some key) × (identity_of rows key ≡ k)
pair_held rows keys n k p =
    let h = held_at rows 0 keys n k p.0 p.1 p.2 in
    let same : n ≡ h.place = omega (arith, h.number) in
    (h.key, ap (slice_get keys) same ∙ h.at, h.identity)

there_at : (rows : List PlacedRow) (i : ℕ) (keys : List NodeKey) (j : ℕ) (key : NodeKey) (x : ℕ × Identity) → slice_get keys j ≡ Some key → (j < length (numbered_from rows i keys)) × (slice_index_or (numbered_from rows i keys) j x ≡ (i + j, identity_of rows key))
there_at rows i [] j key x e = absurd (none-some key e)
there_at rows i (y ∷ keys) zero key x e = (omega arith, ap (λ n. (n, identity_of rows y)) (omega arith) ∙ ap (λ k. (i + 0, identity_of rows k)) (same_Some y key e))
there_at rows i (y ∷ keys) (suc j) key x e =
    let h = there_at rows (suc i) keys j key x e in
    (omega (arith, h.0), h.1 ∙ ap (λ n. (n, identity_of rows key)) (omega arith))

pub pair_there : (rows : List PlacedRow) (keys : List NodeKey) (n : ℕ) (key : NodeKey) → slice_get keys n ≡ Some key → Paired (numbered_from rows 0 keys) n (identity_of rows key)
pair_there rows keys n key e =
    let h = there_at rows 0 keys n key (n, identity_of rows key) e in
    (n, h.0, h.1 ∙ ap (λ m. (m, identity_of rows key)) (omega arith))

-- ---- the pairs fit

abbrev graph_with : Slot → List Node → Graph
graph_with root nodes = record { root = root; nodes = nodes }

slot_fits : (rows : List PlacedRow) (keys : List NodeKey) (root : Slot) (nodes : List Node) (s : Slot) (w : Written) → Draws rows keys s w → SlotsFit (Paired (numbered_from rows 0 keys)) (of_graph (graph_with root nodes)) (meaning rows) s w
slot_fits rows keys root nodes (slot.Atom a) w h = record { here = store.atom a; there = store.atom a; leads_here = refl; leads_there = h; targets_fit = refl }
slot_fits rows keys root nodes (slot.Node n) w h = record {
  here = store.node_at n;
  there = store.node_at (identity_of rows h.0);
  leads_here = refl;
  leads_there = h.2;
  targets_fit = pair_there rows keys n h.0 h.1;
}

pub node_of_key : (keys : List NodeKey) (nodes : List Node) (n : ℕ) (key : NodeKey) → length keys ≤ length nodes → slice_get keys n ≡ Some key → (x : Node) × (slice_get nodes n ≡ Some x)
node_of_key keys nodes n key all e =
    let less = slice_get_within keys n key e in
    elim (slice_get_cases nodes n).1 [ inl h ↦ (h.0, h.2) | inr h ↦ (let past = h.0 in absurd (omega (arith, less, all, past))) ]

node_fits : (rows : List PlacedRow) (keys : List NodeKey) (root : Slot) (nodes : List Node) → AreDrawn rows keys nodes → (n : ℕ) (k : Identity) → Paired (numbered_from rows 0 keys) n k → NodesFit (Paired (numbered_from rows 0 keys)) (of_graph (graph_with root nodes)) (meaning rows) n k
node_fits rows keys root nodes drawn n k p =
    let w = pair_held rows keys n k p in
    let x = node_of_key keys nodes n w.0 drawn.all w.1 in
    let d = drawn.each n x.0 x.1 in
    let same : identity_of rows d.0 ≡ k = ap (identity_of rows) (same_Some d.0 w.0 (sym d.1 ∙ w.1)) ∙ w.2 in
    record {
      here = shape_of x.0;
      there = d.2.shape;
      is_here = ap (option_map shape_of) x.1;
      is_there = subst (λ i. HasShape rows i d.2.shape) same d.2.stands;
      labels = d.2.label;
      slots_fit = zip_as (Draws rows keys) (SlotsFit (Paired (numbered_from rows 0 keys)) (of_graph (graph_with root nodes)) (meaning rows)) (slots_of x.0) d.2.shape.slots (λ s v h. slot_fits rows keys root nodes s v h) d.2.slots;
    }

pub graph_fits : (rows : List PlacedRow) (keys : List NodeKey) (root : Slot) (nodes : List Node) → Draws rows keys root (value_of 0) → AreDrawn rows keys nodes → AreApart rows keys → Fits (Paired (numbered_from rows 0 keys)) (of_graph (graph_with root nodes)) (meaning rows)
graph_fits rows keys root nodes at drawn apart = record {
  one_there = λ k l m p q.
      let a = pair_held rows keys k l p in
      let b = pair_held rows keys k m q in
      sym a.2 ∙ (ap (identity_of rows) (same_Some a.0 b.0 (sym a.1 ∙ b.1)) ∙ b.2);
  one_here = λ k j l p q.
      let a = pair_held rows keys k l p in
      let b = pair_held rows keys j l q in
      apart k j a.0 b.0 a.1 b.1 (a.2 ∙ sym b.2);
  roots = slot_fits rows keys root nodes root (value_of 0) at;
  each = λ n k p. node_fits rows keys root nodes drawn n k p;
}
