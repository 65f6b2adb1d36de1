-- Graphs of one canon draw one graph.
use Rattle.std.proofs.Common.{◌≡◌, ℕ, zero, suc, ◌<◌, Bool, true, false, nat_eq, List, [], ◌∷◌, length, map, Some, unwrap_or, slice_get, refl, sym, ◌∙◌, ap, ap₂, arith, inl, inr}
use Rattle.std.specs.Prelude.{option_map}
use Rattle.std.specs.List.{AllByRecursion, AllZip, IsDistinct, zip}
use Rattle.std.proofs.lemmas.Bool.Decides.{nat_tests}
use Rattle.std.proofs.lemmas.Option.{slice_get_within, get_or_from_slice_get, slice_get-get_or, slice_get-map, none-some}
use Rattle.flight_value.specs.Graph.{IsValid, slots_of}
use Rattle.flight_value.specs.Store.{DrawOneGraph, Fits, NodesFit, Paired, SlotsFit, TargetsFit, label_of, object, stream, of_graph, shape_of, state_of, target_of}
use Rattle.flight_value.specs.declared.graph.Atom.{Atom}
use Rattle.flight_value.specs.declared.graph.Slot.{Slot}
use Rattle.flight_value.specs.declared.graph.Slot.TheVariants as slot
use Rattle.flight_value.specs.declared.graph.End.{End}
use Rattle.flight_value.specs.declared.graph.End.TheVariants as end
use Rattle.flight_value.specs.declared.graph.Node.{Node}
use Rattle.flight_value.specs.declared.graph.Node.TheVariants as node
use Rattle.flight_value.specs.declared.graph.Graph.{Graph}
use Rattle.flight_graph.specs.Canon.{canon_of, canon_under, map_end, map_slots, node_at, renamed, visited_of}
use Rattle.flight_graph.proofs.Reached.{In, IsMet, Reaches, below_in, visited_reaches}
use Rattle.flight_graph.proofs.Renamed.{met_place, names-map, slots_of-map_slots}

-- ---- pairs of the nodes at one place

zip_get : (v w : List ℕ) (p m n : ℕ) → slice_get v p ≡ Some m → slice_get w p ≡ Some n → slice_get (zip v w) p ≡ Some (m, n)
zip_get [] w p m n h k = absurd (none-some m h)
zip_get (x ∷ v) [] p m n h k = absurd (none-some n k)
zip_get (x ∷ v) (y ∷ w) zero m n h k = ap₂ (λ a b. Some (unwrap_or a 0, unwrap_or b 0)) h k
zip_get (x ∷ v) (y ∷ w) (suc p) m n h k = zip_get v w p m n h k

zip_read : (v w : List ℕ) (p m n : ℕ) → slice_get (zip v w) p ≡ Some (m, n) → (slice_get v p ≡ Some m) × (slice_get w p ≡ Some n)
zip_read [] w p m n h = absurd (none-some (m, n) h)
zip_read (x ∷ v) [] p m n h = absurd (none-some (m, n) h)
zip_read (x ∷ v) (y ∷ w) zero m n h = (ap (λ o. Some (unwrap_or {T = ℕ × ℕ} o (x, y)).0) h, ap (λ o. Some (unwrap_or {T = ℕ × ℕ} o (x, y)).1) h)
zip_read (x ∷ v) (y ∷ w) (suc p) m n h = zip_read v w p m n h

-- the nodes at one place of two lists
AtOnePlace : List ℕ → List ℕ → ℕ → ℕ → Type 0
AtOnePlace v w m n = (p : ℕ) × (slice_get v p ≡ Some m) × (slice_get w p ≡ Some n)

paired : (v w : List ℕ) (m n : ℕ) → AtOnePlace v w m n → Paired (zip v w) m n
unfolding AtOnePlace
paired v w m n h = let e = zip_get v w h.0 m n h.1 h.2 in (h.0, slice_get_within (zip v w) h.0 (m, n) e, get_or_from_slice_get (zip v w) h.0 (m, n) (m, n) e)

at_one_place : (v w : List ℕ) (m n : ℕ) → Paired (zip v w) m n → AtOnePlace v w m n
unfolding AtOnePlace
at_one_place v w m n h = let e = zip_read v w h.0 m n (slice_get-get_or (zip v w) h.0 (m, n) h.1 ∙ ap Some h.2) in (h.0, e.0, e.1)

never_in : (m : ℕ) (v : List ℕ) (p : ℕ) → AllByRecursion (λ y. nat_eq m y ≡ false) v → slice_get v p ≡ Some m → ⊥
never_in m [] p d h = none-some m h
never_in m (x ∷ v) zero d h =
    let same : x ≡ m = ap (λ o. unwrap_or o 0) h in
    let test : nat_eq m x ≡ true = grind (arith, nat_tests) in
    let apart : nat_eq m x ≡ false = d.0 in
    cc
never_in m (x ∷ v) (suc p) d h = never_in m v p d.1 h

-- a node has one place
pub one_place : (v : List ℕ) (p q m : ℕ) → IsDistinct nat_eq v → slice_get v p ≡ Some m → slice_get v q ≡ Some m → p ≡ q
unfolding IsDistinct
one_place [] p q m d h k = absurd (none-some m h)
one_place (x ∷ v) zero zero m d h k = refl
one_place (x ∷ v) zero (suc q) m d h k = absurd (never_in x v q d.0 (k ∙ ap Some (sym (ap (λ o. unwrap_or o 0) h))))
one_place (x ∷ v) (suc p) zero m d h k = absurd (never_in x v p d.0 (h ∙ ap Some (sym (ap (λ o. unwrap_or o 0) k))))
one_place (x ∷ v) (suc p) (suc q) m d h k = ap suc (one_place v p q m d.1 h k)

some_same : (a b : ℕ) → Some a ≡ Some b → a ≡ b
some_same a b h = ap (λ o. unwrap_or o 0) h

forth : (v w : List ℕ) → IsDistinct nat_eq v → (m n n' : ℕ) → AtOnePlace v w m n → AtOnePlace v w m n' → n ≡ n'
unfolding AtOnePlace
forth v w d m n n' h k =
    let e = one_place v h.0 k.0 m d h.1 k.1 in
    some_same n n' (sym h.2 ∙ (ap (slice_get w) e ∙ k.2))

back : (v w : List ℕ) → IsDistinct nat_eq w → (m m' n : ℕ) → AtOnePlace v w m n → AtOnePlace v w m' n → m ≡ m'
unfolding AtOnePlace
back v w d m m' n h k =
    let e = one_place w h.0 k.0 n d h.2 k.2 in
    some_same m m' (sym h.1 ∙ (ap (slice_get v) e ∙ k.1))

-- ---- slots of one new name fit

atom_in : Atom → Slot → Atom
atom_in d (slot.Atom a) = a
atom_in d (slot.Node n) = d

number_in : Slot → ℕ
number_in (slot.Atom a) = 0
number_in (slot.Node n) = n

is_node : Slot → Bool
is_node (slot.Atom a) = false
is_node (slot.Node n) = true

targets_fit : (v w : List ℕ) (s t : Slot) → IsMet v [] s → IsMet w [] t → renamed v s ≡ renamed w t → TargetsFit (Paired (zip v w)) (target_of s) (target_of t)
unfolding atom_in number_in is_node AtOnePlace
targets_fit v w (slot.Atom a) (slot.Atom b) p q e = ap (atom_in a) e
targets_fit v w (slot.Atom a) (slot.Node n) p q e = absurd (let k : false ≡ true = ap is_node e in cc)
targets_fit v w (slot.Node m) (slot.Atom b) p q e = absurd (let k : true ≡ false = ap is_node e in cc)
targets_fit v w (slot.Node m) (slot.Node n) p q e =
    let here = met_place m v p in
    let there = met_place n w q in
    let same : here.0 ≡ there.0 = sym here.1 ∙ (ap number_in e ∙ there.1) in
    paired v w m n (here.0, here.3, ap (slice_get w) same ∙ there.3)

slot_fits : (g h : Graph) (v w : List ℕ) (s t : Slot) → IsMet v [] s → IsMet w [] t → renamed v s ≡ renamed w t → SlotsFit (Paired (zip v w)) (of_graph g) (of_graph h) s t
slot_fits g h v w s t p q e = record { here = target_of s; there = target_of t; leads_here = refl; leads_there = refl; targets_fit = targets_fit v w s t p q e }

first : Slot → List Slot → Slot
first d [] = d
first d (s ∷ slots) = s

rest : List Slot → List Slot
rest [] = []
rest (s ∷ slots) = slots

is_more : List Slot → Bool
is_more [] = false
is_more (s ∷ slots) = true

slots_fit : (g h : Graph) (v w : List ℕ) (ss ts : List Slot) → AllByRecursion (IsMet v []) ss → AllByRecursion (IsMet w []) ts → map (renamed v) ss ≡ map (renamed w) ts → AllZip (SlotsFit (Paired (zip v w)) (of_graph g) (of_graph h)) ss ts
unfolding first rest is_more
slots_fit g h v w [] [] p q e = tt
slots_fit g h v w [] (t ∷ ts) p q e = absurd (let k : false ≡ true = ap is_more e in cc)
slots_fit g h v w (s ∷ ss) [] p q e = absurd (let k : true ≡ false = ap is_more e in cc)
slots_fit g h v w (s ∷ ss) (t ∷ ts) p q e = (slot_fits g h v w s t p.0 q.0 (ap (first (renamed v s)) e), slots_fit g h v w ss ts p.1 q.1 (ap rest e))

-- ---- nodes that are one in the canons fit

states-map : (f : Slot → Slot) (e : End) → state_of (map_end f e) ≡ state_of e
states-map f end.Going = refl
states-map f (end.Closed s) = refl
states-map f (end.Broken digest) = refl

pub label_of-map_slots : (f : Slot → Slot) (n : Node) → label_of (map_slots f n) ≡ label_of n
label_of-map_slots f (node.Array items) = refl
label_of-map_slots f (node.Object props) = ap object (names-map f props)
label_of-map_slots f (node.Map pairs) = refl
label_of-map_slots f (node.Set items) = refl
label_of-map_slots f (node.Element tag key props) = refl
label_of-map_slots f (node.Promise outcome) = refl
label_of-map_slots f (node.Stream flow items e) = ap (stream flow) (states-map f e)
label_of-map_slots f (node.Action id bound) = refl

stands : (nodes : List Node) (n : ℕ) → n < length nodes → option_map shape_of (slice_get nodes n) ≡ Some (shape_of (node_at nodes n))
stands [] n within = absurd (omega (arith, within))
stands (x ∷ nodes) zero within = refl
stands (x ∷ nodes) (suc n) within = stands nodes n (omega (arith, within))

pub in_at : (v : List ℕ) (p m : ℕ) → slice_get v p ≡ Some m → In m v
in_at [] p m h = absurd (none-some m h)
in_at (x ∷ v) zero m h = inl (sym (some_same x m h))
in_at (x ∷ v) (suc p) m h = inr (in_at v p m h)

new_node : Graph → List ℕ → ℕ → Node
new_node g v n = map_slots (renamed v) (node_at g.nodes n)

nodes_fit : (g h : Graph) (v w : List ℕ) → Reaches g v [] → Reaches h w [] → map (new_node g v) v ≡ map (new_node h w) w → (m n : ℕ) → AtOnePlace v w m n → NodesFit (Paired (zip v w)) (of_graph g) (of_graph h) m n
unfolding AtOnePlace new_node
nodes_fit g h v w r r' e m n k =
    let at_m = in_at v k.0 m k.1 in
    let at_n = in_at w k.0 n k.2 in
    let here : slice_get (map (new_node g v) v) k.0 ≡ Some (new_node g v m) = slice_get-map (new_node g v) v k.0 ∙ ap (option_map (new_node g v)) k.1 in
    let there : slice_get (map (new_node h w) w) k.0 ≡ Some (new_node h w n) = slice_get-map (new_node h w) w k.0 ∙ ap (option_map (new_node h w)) k.2 in
    let same : new_node g v m ≡ new_node h w n = ap (λ o. unwrap_or o (new_node g v m)) (sym here ∙ (ap (λ ns. slice_get ns k.0) e ∙ there)) in
    record {
      here = shape_of (node_at g.nodes m);
      there = shape_of (node_at h.nodes n);
      is_here = stands g.nodes m (below_in (length g.nodes) m v r.below at_m);
      is_there = stands h.nodes n (below_in (length h.nodes) n w r'.below at_n);
      labels = sym (label_of-map_slots (renamed v) (node_at g.nodes m)) ∙ (ap label_of same ∙ label_of-map_slots (renamed w) (node_at h.nodes n));
      slots_fit = slots_fit g h v w (slots_of (node_at g.nodes m)) (slots_of (node_at h.nodes n)) (r.all_met m at_m) (r'.all_met n at_n) (sym (slots_of-map_slots (renamed v) (node_at g.nodes m)) ∙ (ap slots_of same ∙ slots_of-map_slots (renamed w) (node_at h.nodes n)));
    }

under_fits : (g h : Graph) (v w : List ℕ) → Reaches g v [] → Reaches h w [] → canon_under g v ≡ canon_under h w → Fits (Paired (zip v w)) (of_graph g) (of_graph h)
unfolding new_node
under_fits g h v w r r' e =
    record {
      one_there = λ m n n' p q. forth v w r.distinct m n n' (at_one_place v w m n p) (at_one_place v w m n' q);
      one_here = λ m m' n p q. back v w r'.distinct m m' n (at_one_place v w m n p) (at_one_place v w m' n q);
      roots = slot_fits g h v w g.root h.root r.root_met r'.root_met (ap (λ (c : Graph). c.root) e);
      each = λ m n p. nodes_fit g h v w r r' (ap (λ (c : Graph). c.nodes) e) m n (at_one_place v w m n p);
    }

-- two graphs of one canon, by the pairs of nodes that are visited at one time
pub one_canon_draws : (g h : Graph) → IsValid g → IsValid h → canon_of g ≡ canon_of h → DrawOneGraph (of_graph g) (of_graph h)
unfolding canon_of
one_canon_draws g h valid valid' e = (zip (visited_of g) (visited_of h), under_fits g h (visited_of g) (visited_of h) (visited_reaches g valid) (visited_reaches h valid') e)
