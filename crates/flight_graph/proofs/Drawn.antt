-- Graphs that draw one store have one canon.
use Rattle.std.proofs.Common.{◌≡◌, ℕ, List, [], ◌∷◌, sym, ◌∙◌, ap, subst}
use Rattle.std.proofs.lemmas.Option.{same_Some}
use Rattle.std.specs.List.{AllZip}
use Rattle.flight_value.specs.Graph.{IsValid}
use Rattle.flight_value.specs.Store.{Shape, Target, atom, node_at, TargetsFit, SlotsFit, Fits, Store, Paired, DrawOneGraph, of_graph}
use Rattle.flight_value.specs.declared.graph.Graph.{Graph}
use Rattle.flight_graph.specs.Canon.{canon_of}
use Rattle.flight_graph.specs.Joined.{Joined}
use Rattle.flight_graph.proofs.Pairs.{one_canon, same_by}

-- each slot leads to one target, and at each key stands one node
pub record IsSingle {K V : Type 0} (s : Store K V) : Type 0 where
  pub leads_once : (v : V) (x y : Target K) → s.leads v x → s.leads v y → x ≡ y
  pub stands_once : (k : K) (x y : Shape V) → s.at k x → s.at k y → x ≡ y

pub graph_single : (g : Graph) → IsSingle (of_graph g)
graph_single g = record { leads_once = λ v x y a b. sym a ∙ b; stands_once = λ k x y a b. same_Some x y (sym a ∙ b) }

targets_join : {K L N : Type 0} (P : K → N → Type 0) (Q : L → N → Type 0) (a : Target K) (b : Target L) (s : Target N) → TargetsFit P a s → TargetsFit Q b s → TargetsFit (Joined P Q) a b
targets_join P Q (atom a) (atom b) (atom c) f h = f ∙ sym h
targets_join P Q (node_at i) (node_at j) (node_at x) f h = (x, f, h)
targets_join P Q (atom a) (atom b) (node_at c) f h = absurd f
targets_join P Q (atom a) (node_at b) (atom c) f h = absurd h
targets_join P Q (atom a) (node_at b) (node_at c) f h = absurd f
targets_join P Q (node_at a) (atom b) (atom c) f h = absurd f
targets_join P Q (node_at a) (atom b) (node_at c) f h = absurd h
targets_join P Q (node_at a) (node_at b) (atom c) f h = absurd f

slot_join : {K V L W N X : Type 0} (P : K → N → Type 0) (Q : L → N → Type 0) (g : Store K V) (k : Store L W) (h : Store N X) → IsSingle h → (v : V) (w : W) (x : X) → SlotsFit P g h v x → SlotsFit Q k h w x → SlotsFit (Joined P Q) g k v w
slot_join P Q g k h single v w x a b =
    let same = single.leads_once x a.there b.there a.leads_there b.leads_there in
    record {
      here = a.here;
      there = b.here;
      leads_here = a.leads_here;
      leads_there = b.leads_here;
      targets_fit = targets_join P Q a.here b.here b.there (subst (TargetsFit P a.here) same a.targets_fit) b.targets_fit;
    }

slots_join : {K V L W N X : Type 0} (P : K → N → Type 0) (Q : L → N → Type 0) (g : Store K V) (k : Store L W) (h : Store N X) → IsSingle h → (vs : List V) (ws : List W) (xs : List X) → AllZip (SlotsFit P g h) vs xs → AllZip (SlotsFit Q k h) ws xs → AllZip (SlotsFit (Joined P Q) g k) vs ws
slots_join P Q g k h single [] [] [] a b = tt
slots_join P Q g k h single (v ∷ vs) (w ∷ ws) (x ∷ xs) a b = (slot_join P Q g k h single v w x a.0 b.0, slots_join P Q g k h single vs ws xs a.1 b.1)
slots_join P Q g k h single [] [] (x ∷ xs) a b = absurd a
slots_join P Q g k h single [] (w ∷ ws) [] a b = absurd b
slots_join P Q g k h single [] (w ∷ ws) (x ∷ xs) a b = absurd a
slots_join P Q g k h single (v ∷ vs) [] [] a b = absurd a
slots_join P Q g k h single (v ∷ vs) [] (x ∷ xs) a b = absurd b
slots_join P Q g k h single (v ∷ vs) (w ∷ ws) [] a b = absurd a

-- two stores that fit a third fit one another
pub fits_join : {K V L W N X : Type 0} (P : K → N → Type 0) (Q : L → N → Type 0) (g : Store K V) (k : Store L W) (h : Store N X) → IsSingle h → Fits P g h → Fits Q k h → Fits (Joined P Q) g k
fits_join P Q g k h single a b =
    record {
      one_there = λ i j l x y. b.one_here j l y.0 (subst (Q j) (a.one_there i x.0 y.0 x.1 y.1) x.2) y.2;
      one_here = λ i j l x y. a.one_here i j y.0 (subst (P i) (b.one_there l x.0 y.0 x.2 y.2) x.1) y.1;
      roots = slot_join P Q g k h single g.root k.root h.root a.roots b.roots;
      each = λ i j x.
          let m = a.each i x.0 x.1 in
          let n = b.each j x.0 x.2 in
          let same = single.stands_once x.0 m.there n.there m.is_there n.is_there in
          record {
            here = m.here;
            there = n.here;
            is_here = m.is_here;
            is_there = n.is_here;
            labels = m.labels ∙ (ap (λ z. z.label) same ∙ sym n.labels);
            slots_fit = slots_join P Q g k h single m.here.slots n.here.slots n.there.slots (subst (λ z. AllZip (SlotsFit P g h) m.here.slots z.slots) same m.slots_fit) n.slots_fit;
          };
    }

-- two graphs that fit have one canon
pub fit_one_canon : (P : ℕ → ℕ → Type 0) (g h : Graph) → IsValid g → IsValid h → Fits P (of_graph g) (of_graph h) → canon_of g ≡ canon_of h
fit_one_canon P g h valid valid' f = one_canon P g h valid valid' (same_by P g h f)

-- two graphs that draw one another's graph
pub draw_one_canon : (g h : Graph) → IsValid g → IsValid h → DrawOneGraph (of_graph g) (of_graph h) → canon_of g ≡ canon_of h
draw_one_canon g h valid valid' d = fit_one_canon (Paired d.0) g h valid valid' d.1

-- two graphs that draw one store
pub drawn_one_canon : {K V : Type 0} (s : Store K V) → IsSingle s → (g h : Graph) → IsValid g → IsValid h → DrawOneGraph (of_graph g) s → DrawOneGraph (of_graph h) s → canon_of g ≡ canon_of h
drawn_one_canon s single g h valid valid' a b =
    fit_one_canon (Joined (Paired a.0) (Paired b.0)) g h valid valid' (fits_join (Paired a.0) (Paired b.0) (of_graph g) (of_graph h) s single a.1 b.1)
