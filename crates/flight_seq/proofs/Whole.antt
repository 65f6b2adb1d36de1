-- The graph that was drawn is that of sequential rendering, and is valid.
use Rattle.std.proofs.Common.{◌≡◌, ℕ, zero, suc, ◌+◌, ◌<◌, Bool, List, [], ◌∷◌, map, length, Some, None, slice_get, get_or, refl, sym, ◌∙◌, ap, subst, inl, inr, arith}
use Rattle.std.specs.Prelude.{option_map, slice_index_or}
use Rattle.std.specs.List.{AllByRecursion, AllZip}
use Rattle.std.proofs.lemmas.List.Elements.{All-from_recursion}
use Rattle.std.proofs.lemmas.Option.{none-some, same_Some, slice_get_within, slice_get-get_or}
use Rattle.flight_value.specs.declared.graph.Atom.{Atom}
use Rattle.flight_value.specs.declared.graph.Atom.TheVariants as atom
use Rattle.flight_value.specs.declared.graph.Slot.{Slot}
use Rattle.flight_value.specs.declared.graph.Slot.TheVariants as slot
use Rattle.flight_value.specs.declared.graph.Node.{Node}
use Rattle.flight_value.specs.declared.graph.Node.TheVariants as node
use Rattle.flight_value.specs.declared.graph.Graph.{Graph}
use Rattle.flight_value.specs.declared.key.Key.{Key}
use Rattle.flight_value.specs.declared.made.Tree.TheVariants as tree
use Rattle.flight_value.specs.Graph.{slots_of, IsValid, IsValidAtom, IsValidSlot, IsValidNode, IsValidKind, IsBound, IsPromise}
use Rattle.flight_value.specs.Store as store
use Rattle.flight_value.specs.Store.{Shape, Target, SlotsFit, NodesFit, Paired, DrawOneGraph, label_of, shape_of, of_graph}
use Rattle.flight_render.specs.declared.root.Ground.{Ground}
use Rattle.flight_render.specs.Jobs.{Value, shown, of_job, failed, stopped, the_root, job_of, Leads, target_of}
use Rattle.flight_render.specs.Plain.{NodeIs, plain}
use Rattle.flight_value.specs.Listed.{In, Distinct}
use Rattle.flight_render.specs.Costs.{Reached, at_root, in_slot}
use Rattle.flight_render.specs.Valid.{IsValidGround, ShowsKnown}
use Rattle.flight_render.proofs.Closed.{reached_known}
use Rattle.flight_render.proofs.Sourced.{each_at, value_valid}
use Rattle.flight_seq.specs.declared.walk.Walk.{Walk}
use Rattle.flight_seq.specs.Walk.{Entry, IsMet}
use Rattle.flight_seq.specs.Chain.{Fits, Draws}
use Rattle.flight_seq.specs.Drawing.{DrawsNode, numbered_from}
use Rattle.flight_seq.specs.Whole.{IsDrawing}
use Rattle.flight_seq.specs.Cost.{IsRenderedIn}
use Rattle.flight_seq.proofs.Chains.{reached_comes}
use Rattle.flight_seq.proofs.Drawings.{zip_as, all_in}
use Rattle.flight_seq.proofs.Handled.{node_drawn, is_within}
use Rattle.flight_seq.proofs.Labels.{IsBoundValue, object_ascends, action_bound}

-- ---- pairs of numbers and keys

pub record IsPairOf (i : ℕ) (keys : List Key) (n : ℕ) (k : Key) : Type 0 where
  pub place : ℕ
  pub at : slice_get keys place ≡ Some k
  pub number : n ≡ i + place

held_at : (i : ℕ) (keys : List Key) (n : ℕ) (k : Key) (j : ℕ) → j < length (numbered_from i keys) → slice_index_or (numbered_from i keys) j (n, k) ≡ (n, k) → IsPairOf i keys n k
held_at i [] n k j lt e = absurd (omega (arith, lt))
held_at i (x ∷ keys) n k zero lt e = record { place = 0; at = ap (λ p. Some p.1) e; number = sym (ap (λ p. p.0) e) ∙ omega arith }
held_at i (x ∷ keys) n k (suc j) lt e =
    let h = held_at (suc i) keys n k j (omega (arith, lt)) e in
    record { place = suc h.place; at = h.at; number = omega (arith, h.number) }

pair_held : (keys : List Key) (n : ℕ) (k : Key) → Paired (numbered_from 0 keys) n k → slice_get keys n ≡ Some k
pair_held keys n k p =
    let h = held_at 0 keys n k p.0 p.1 p.2 in
    let same : n ≡ h.place = omega (arith, h.number) in
    ap (slice_get keys) same ∙ h.at

there_at : (i : ℕ) (keys : List Key) (j : ℕ) (k : Key) (x : ℕ × Key) → slice_get keys j ≡ Some k → (j < length (numbered_from i keys)) × (slice_index_or (numbered_from i keys) j x ≡ (i + j, k))
there_at i [] j k x e = absurd (none-some k e)
there_at i (y ∷ keys) zero k x e = (omega arith, ap (λ n. (n, y)) (omega arith) ∙ ap (λ z. (i + 0, z)) (same_Some y k e))
there_at i (y ∷ keys) (suc j) k x e =
    let h = there_at (suc i) keys j k x e in
    (omega (arith, h.0), h.1 ∙ ap (λ n. (n, k)) (omega arith))

pair_there : (keys : List Key) (n : ℕ) (k : Key) → slice_get keys n ≡ Some k → Paired (numbered_from 0 keys) n k
pair_there keys n k e =
    let h = there_at 0 keys n k (n, k) e in
    (n, h.0, h.1 ∙ ap (λ m. (m, k)) (omega arith))

in_at : (keys : List Key) (n : ℕ) (k : Key) → slice_get keys n ≡ Some k → In k keys
in_at [] n k e = absurd (none-some k e)
in_at (x ∷ keys) zero k e = inl (sym (same_Some x k e))
in_at (x ∷ keys) (suc n) k e = inr (in_at keys n k e)

apart : (keys : List Key) (m n : ℕ) (k : Key) → Distinct keys → slice_get keys m ≡ Some k → slice_get keys n ≡ Some k → m ≡ n
apart [] m n k d a b = absurd (none-some k a)
apart (x ∷ keys) zero zero k d a b = refl
apart (x ∷ keys) zero (suc n) k d a b = absurd (d.0 (subst (λ z. In z keys) (sym (same_Some x k a)) (in_at keys n k b)))
apart (x ∷ keys) (suc m) zero k d a b = absurd (d.0 (subst (λ z. In z keys) (sym (same_Some x k b)) (in_at keys m k a)))
apart (x ∷ keys) (suc m) (suc n) k d a b = ap suc (apart keys m n k d.1 a b)

promise_label : (x : Node) → label_of x ≡ store.promise → IsPromise (Some x)
promise_label (node.Promise outcome) e = tt
promise_label (node.Array items) e = cc
promise_label (node.Object props) e = cc
promise_label (node.Map pairs) e = cc
promise_label (node.Set items) e = cc
promise_label (node.Element a b c) e = cc
promise_label (node.Stream flow items end) e = cc
promise_label (node.Action id bound) e = cc

module _ (g : Ground) (s : List Bool) (fuel : ℕ) (root : Slot) (nodes : List Node) (w : Walk) (d : IsDrawing g s fuel root nodes w) where
  abbrev es : List Entry
  es = w.bodies.entries

  abbrev ks : List Key
  ks = w.keys.keys

  abbrev drawn : Graph
  drawn = record { root = root; nodes = nodes }

  -- ---- one graph

  pub record HasTarget (x : Slot) (t : Target Key) : Type 0 where
    pub here : Target ℕ
    pub leads : store.target_of x ≡ here
    pub fits : store.TargetsFit (Paired (numbered_from 0 ks)) here t

  target_fits : (x : Slot) (t : Target Key) → Fits ks x t → HasTarget x t
  target_fits (slot.Atom a) (store.atom b) h = record { here = store.atom a; leads = refl; fits = h }
  target_fits (slot.Node n) (store.node_at k) h = record { here = store.node_at n; leads = refl; fits = pair_there ks n k h }
  target_fits (slot.Atom a) (store.node_at k) h = absurd h
  target_fits (slot.Node n) (store.atom b) h = absurd h

  slot_fits : (x : Slot) (v : Value) → Draws g s es ks x v → SlotsFit (Paired (numbered_from 0 ks)) (of_graph drawn) (plain g s) x v
  slot_fits x v h =
      let t = target_fits x (target_of h.last) h.fits in
      record {
        here = t.here;
        there = target_of h.last;
        leads_here = t.leads;
        leads_there = record { jobs = h.comes.jobs; last = h.last; leads = h.comes.leads; no_job = h.no_job; is_target = refl };
        targets_fit = t.fits;
      }

  node_fits : (n : ℕ) (k : Key) → Paired (numbered_from 0 ks) n k → NodesFit (Paired (numbered_from 0 ks)) (of_graph drawn) (plain g s) n k
  node_fits n k p =
      let x = node_drawn g s fuel root nodes w d n k (pair_held ks n k p) in
      record {
        here = shape_of x.0;
        there = x.2.shape;
        is_here = ap (option_map shape_of) x.1;
        is_there = x.2.is_shape;
        labels = x.2.label;
        slots_fit = zip_as (Draws g s es ks) (SlotsFit (Paired (numbered_from 0 ks)) (of_graph drawn) (plain g s)) (slots_of x.0) x.2.shape.slots slot_fits x.2.slots;
      }

  one_graph : DrawOneGraph (of_graph drawn) (plain g s)
  one_graph = (
    numbered_from 0 ks,
    record {
      one_there = λ k l m p q. same_Some l m (sym (pair_held ks k l p) ∙ pair_held ks k m q);
      one_here = λ k j l p q. apart ks k j l d.walk.apart (pair_held ks k l p) (pair_held ks j l q);
      roots = slot_fits root (of_job the_root) d.draws_root;
      each = node_fits;
    },
  )

  -- ---- a valid graph

  atom_valid : (a : Atom) (v : Value) → ShowsKnown g s v → Fits ks (slot.Atom a) (target_of v) → IsValidAtom a
  atom_valid a (shown (tree.Atom b)) h e = subst IsValidAtom (sym e) (value_valid g b h)
  atom_valid a (shown (tree.Made n)) h e = absurd e
  atom_valid a (shown (tree.FromSource i n)) h e = absurd e
  atom_valid a (shown (tree.Promise i)) h e = absurd e
  atom_valid a (shown (tree.Stream i)) h e = absurd e
  atom_valid a (shown (tree.Action i)) h e = absurd e
  atom_valid a (failed digest) h e = subst IsValidAtom (sym e) tt
  atom_valid a (stopped source) h e = subst IsValidAtom (sym e) tt
  atom_valid a (of_job j) h e = subst IsValidAtom (sym e) tt

  number_valid : (n : ℕ) (t : Target Key) → Fits ks (slot.Node n) t → n < length nodes
  number_valid n (store.node_at k) h =
      let less = slice_get_within ks n k h in
      let all = d.all in
      omega (arith, less, all)
  number_valid n (store.atom b) h = absurd h

  slot_valid : IsValidGround g → (x : Slot) (v : Value) → Reached g s v → Draws g s es ks x v → IsValidSlot (length nodes) x
  slot_valid valid (slot.Atom a) v r h = atom_valid a h.last (reached_known g valid s h.last (reached_comes g s es v h.last r h.comes)) h.fits
  slot_valid valid (slot.Node n) v r h = number_valid n (target_of h.last) h.fits

  slots_valid : IsValidGround g → (xs : List Slot) (vs : List Value) → AllByRecursion (Reached g s) vs → AllZip (Draws g s es ks) xs vs → AllByRecursion (IsValidSlot (length nodes)) xs
  slots_valid valid [] [] r h = tt
  slots_valid valid (x ∷ xs) (v ∷ vs) r h = (slot_valid valid x v r.0 h.0, slots_valid valid xs vs r.1 h.1)
  slots_valid valid [] (v ∷ vs) r h = absurd h
  slots_valid valid (x ∷ xs) [] r h = absurd h

  null_fits : (x : Slot) → Fits ks x (store.atom atom.Null) → IsBound nodes x
  null_fits (slot.Atom a) e = subst (λ b. IsBound nodes (slot.Atom b)) (sym e) tt
  null_fits (slot.Node n) e = absurd e

  promise_fits : (x : Slot) (k : Key) (shape : Shape Value) → Fits ks x (store.node_at k) → NodeIs g s k shape → shape.label ≡ store.promise → IsBound nodes x
  promise_fits (slot.Atom a) k shape e is l = absurd e
  promise_fits (slot.Node n) k shape e is l =
      let y = node_drawn g s fuel root nodes w d n k e in
      let same : y.2.shape ≡ shape = same_Some y.2.shape shape (sym y.2.is_shape ∙ is) in
      subst IsPromise (sym y.1) (promise_label y.0 (y.2.label ∙ (ap (λ (z : Shape Value). z.label) same ∙ l)))

  stays : (v last : Value) (js : List _) → Leads g s v js last → job_of g s v ≡ None → v ≡ last
  stays v last [] leads none = leads
  stays v last (j ∷ js) leads none = absurd (none-some j (sym none ∙ leads.0))

  bound_valid : (x : Slot) (v : Value) → Draws g s es ks x v → IsBoundValue g s v → IsBound nodes x
  bound_valid x v h (inl e) =
      let none : job_of g s v ≡ None = ap (job_of g s) e in
      let same : h.last ≡ shown (tree.Atom atom.Null) = sym (stays v h.last h.comes.jobs h.comes.leads none) ∙ e in
      null_fits x (subst (λ u. Fits ks x (target_of u)) same h.fits)
  bound_valid x v h (inr p) =
      let same : h.last ≡ v = sym (stays v h.last h.comes.jobs h.comes.leads p.no_job) in
      promise_fits x p.at p.shape (subst (Fits ks x) (ap target_of same ∙ p.target) h.fits) p.is_shape p.label

  kind_valid : IsValidGround g → (k : Key) (x : Node) → DrawsNode g s es ks k x → IsValidKind nodes x
  kind_valid valid k (node.Object props) h = object_ascends g valid s k h.shape (map (λ p. p.name) props) h.is_shape (sym h.label)
  kind_valid valid k (node.Action id bound) h =
      let b = action_bound g valid s k h.shape id h.is_shape (sym h.label) in
      let zipped = subst (AllZip (Draws g s es ks) (bound ∷ [])) b.1 h.slots in
      bound_valid bound b.0 zipped.0 b.2
  kind_valid valid k (node.Array items) h = tt
  kind_valid valid k (node.Map pairs) h = tt
  kind_valid valid k (node.Set items) h = tt
  kind_valid valid k (node.Element a b c) h = tt
  kind_valid valid k (node.Promise outcome) h = tt
  kind_valid valid k (node.Stream flow items end) h = tt

  node_valid : IsValidGround g → (n : ℕ) (k : Key) (x : Node) → slice_get ks n ≡ Some k → DrawsNode g s es ks k x → IsValidNode nodes x
  node_valid valid n k x at h =
      let met = each_at (IsMet g s) ks n k d.walk.keys at in
      let reached = all_in (Reached g s) h.shape.slots (λ v i. in_slot met.met met.no_job met.leads h.is_shape i) in
      record {
        few = h.few;
        slots = All-from_recursion (IsValidSlot (length nodes)) (slots_of x) (slots_valid valid (slots_of x) h.shape.slots reached h.slots);
        kind = kind_valid valid k x h;
      }

  valid_graph : IsValidGround g → IsValid drawn
  valid_graph valid = record {
    few = d.few;
    valid_root = slot_valid valid root (of_job the_root) at_root d.draws_root;
    each = λ i x lt.
        let e = slice_get-get_or nodes i x lt in
        let h = d.each i (get_or nodes i x) e in
        node_valid valid i h.0 (get_or nodes i x) h.1 h.2;
  }

  pub is_rendered : IsValidGround g → IsRenderedIn g s fuel w.spent drawn
  is_rendered valid = (is_within g s fuel root nodes w d, valid_graph valid, one_graph)
