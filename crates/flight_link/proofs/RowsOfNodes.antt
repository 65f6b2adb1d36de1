-- From which rows the nodes of the canon come.
use Rattle.std.proofs.Common.{◌≡◌, ℕ, zero, suc, ◌<◌, List, [], ◌∷◌, length, map, Some, unwrap_or, slice_get, refl, sym, ◌∙◌, ap, subst, arith}
use Rattle.std.specs.Prelude.{option_map}
use Rattle.std.specs.List.{AllByRecursion, AllZip}
use Rattle.std.proofs.lemmas.Option.{none-some, same_Some, slice_get-map}
use Rattle.std.proofs.lemmas.List.{length-map}
use Rattle.flight_value.specs.Graph.{IsValid, slots_of}
use Rattle.flight_value.specs.Store.{Paired}
use Rattle.flight_value.specs.declared.graph.Slot.{Slot}
use Rattle.flight_value.specs.declared.graph.Slot.TheVariants as slot
use Rattle.flight_value.specs.declared.graph.Node.{Node}
use Rattle.flight_value.specs.declared.graph.Graph.{Graph}
use Rattle.flight_graph.specs.Canon.{canon_of, map_slots, node_at, renamed, visited_of}
use Rattle.flight_graph.proofs.Drawn.{drawn_one_canon}
use Rattle.flight_graph.proofs.Reached.{In, IsMet, Reaches, below_in, visited_reaches}
use Rattle.flight_graph.proofs.Renamed.{canon_valid, met_place, slots_of-map_slots}
use Rattle.flight_graph.proofs.Same.{in_at, label_of-map_slots, one_place}
use Rattle.flight_meaning.specs.declared.place.PlacedRow.{PlacedRow}
use Rattle.flight_meaning.specs.Meaning.{Written, value_of, Identity, meaning}
use Rattle.flight_meaning.proofs.OneMeaning.{leads_once, stands_once}
use Rattle.flight_link.specs.declared.key.NodeKey.{NodeKey}
use Rattle.flight_link.specs.Drawing.{identity_of, key_of, origin_in, numbered_from, Draws, DrawsNode, AreDrawn, AreApart}
use Rattle.flight_link.specs.Origins.{AreOrigins, origin_of}
use Rattle.flight_link.proofs.Drawn.{graph_fits, pair_held}

at_map : {T : Type 0} (f : ℕ → T) (v : List ℕ) (n : ℕ) (x : T) → slice_get (map f v) n ≡ Some x → (m : ℕ) × (slice_get v n ≡ Some m) × (x ≡ f m)
at_map f [] n x h = absurd (none-some x h)
at_map f (m ∷ v) zero x h = (m, refl, sym (same_Some (f m) x h))
at_map f (m ∷ v) (suc n) x h = at_map f v n x h

get_node : (nodes : List Node) (n : ℕ) → n < length nodes → slice_get nodes n ≡ Some (node_at nodes n)
get_node [] n within = absurd (omega (arith, within))
get_node (x ∷ nodes) zero within = refl
get_node (x ∷ nodes) (suc n) within = get_node nodes n (omega (arith, within))

-- ---- keys in the order of a first visit

key_there : (keys : List NodeKey) (m : ℕ) (key : NodeKey) → slice_get keys m ≡ Some key → key_of keys m ≡ key
key_there keys m key h = ap (λ o. unwrap_or o key) (ap (λ o. Some (unwrap_or o (NodeKey.Promise 0))) h)

key_at : (keys : List NodeKey) (v : List ℕ) (p m : ℕ) (key : NodeKey) → slice_get v p ≡ Some m → slice_get keys m ≡ Some key → slice_get (map (key_of keys) v) p ≡ Some key
key_at keys v p m key h k = slice_get-map (key_of keys) v p ∙ (ap (option_map (key_of keys)) h ∙ ap Some (key_there keys m key k))

met_draws : (rows : List PlacedRow) (keys : List NodeKey) (v : List ℕ) (s : Slot) (w : Written) → IsMet v [] s → Draws rows keys s w → Draws rows (map (key_of keys) v) (renamed v s) w
met_draws rows keys v (slot.Atom a) w met h = h
met_draws rows keys v (slot.Node n) w met h =
    let p = met_place n v met in
    (h.0, ap (slice_get (map (key_of keys) v)) p.1 ∙ key_at keys v p.0 n h.0 p.3 h.1, h.2)

all_met_draw : (rows : List PlacedRow) (keys : List NodeKey) (v : List ℕ) (ss : List Slot) (ws : List Written) → AllByRecursion (IsMet v []) ss → AllZip (Draws rows keys) ss ws → AllZip (Draws rows (map (key_of keys) v)) (map (renamed v) ss) ws
all_met_draw rows keys v [] [] met h = tt
all_met_draw rows keys v [] (w ∷ ws) met h = absurd h
all_met_draw rows keys v (s ∷ ss) [] met h = absurd h
all_met_draw rows keys v (s ∷ ss) (w ∷ ws) met h = (met_draws rows keys v s w met.0 h.0, all_met_draw rows keys v ss ws met.1 h.1)

-- a node of the canon
abbrev new_node : Graph → List ℕ → ℕ → Node
new_node g v n = map_slots (renamed v) (node_at g.nodes n)

-- a node of the canon draws what the key of its old number stands for
node_drawn : (rows : List PlacedRow) (keys : List NodeKey) (g : Graph) (v : List ℕ) → Reaches g v [] → AreDrawn rows keys g.nodes → (m : ℕ) → In m v → (key : NodeKey) × (slice_get keys m ≡ Some key) × DrawsNode rows (map (key_of keys) v) (identity_of rows key) (new_node g v m)
node_drawn rows keys g v r drawn m h =
    let old = node_at g.nodes m in
    let d = drawn.each m old (get_node g.nodes m (below_in (length g.nodes) m v r.below h)) in
    let slots = slots_of-map_slots (renamed v) old in
    let long : length (slots_of (map_slots (renamed v) old)) ≡ length (slots_of old) = ap length slots ∙ length-map (slots_of old) (renamed v) in (
      d.0,
      d.1,
      record {
        shape = d.2.shape;
        stands = d.2.stands;
        label = label_of-map_slots (renamed v) old ∙ d.2.label;
        slots = subst (λ ss. AllZip (Draws rows (map (key_of keys) v)) ss d.2.shape.slots) (sym slots) (all_met_draw rows keys v (slots_of old) d.2.shape.slots (r.all_met m h) d.2.slots);
        few = omega (arith, long, d.2.few);
      },
    )

each_drawn : (rows : List PlacedRow) (keys : List NodeKey) (g : Graph) (v : List ℕ) → Reaches g v [] → AreDrawn rows keys g.nodes → AreDrawn rows (map (key_of keys) v) (map (new_node g v) v)
each_drawn rows keys g v r drawn = record {
  each = λ n node e.
      let at = at_map (new_node g v) v n node e in
      let d = node_drawn rows keys g v r drawn at.0 (in_at v n at.0 at.1) in
      (d.0, key_at keys v n at.0 d.0 at.1 d.1, subst (DrawsNode rows (map (key_of keys) v) (identity_of rows d.0)) (sym at.2) d.2);
  all = omega (arith, length-map v (key_of keys), length-map v (new_node g v));
}

-- no node stands twice in that order
still_apart : (rows : List PlacedRow) (keys : List NodeKey) (g : Graph) (v : List ℕ) → Reaches g v [] → AreDrawn rows keys g.nodes → AreApart rows keys → AreApart rows (map (key_of keys) v)
still_apart rows keys g v r drawn apart m n k l h i e =
    let a = at_map (key_of keys) v m k h in
    let b = at_map (key_of keys) v n l i in
    let x = node_drawn rows keys g v r drawn a.0 (in_at v m a.0 a.1) in
    let y = node_drawn rows keys g v r drawn b.0 (in_at v n b.0 b.1) in
    let here : k ≡ x.0 = a.2 ∙ key_there keys a.0 x.0 x.1 in
    let there : l ≡ y.0 = b.2 ∙ key_there keys b.0 y.0 y.1 in
    let same : identity_of rows x.0 ≡ identity_of rows y.0 = ap (identity_of rows) (sym here) ∙ (e ∙ ap (identity_of rows) there) in
    one_place v m n a.0 r.distinct a.1 (b.1 ∙ ap Some (sym (apart a.0 b.0 x.0 y.0 x.1 y.1 same)))

-- ---- their rows

abbrev graph_with : Slot → List Node → Graph
graph_with root nodes = record { root = root; nodes = nodes }

each_origin : (rows : List PlacedRow) (keys : List NodeKey) (v : List ℕ) (n : ℕ) (node : Identity) → Paired (numbered_from rows 0 (map (key_of keys) v)) n node → slice_get (map (origin_in rows keys) v) n ≡ Some (origin_of node)
each_origin rows keys v n node p =
    let held = pair_held rows (map (key_of keys) v) n node p in
    let at = at_map (key_of keys) v n held.0 held.1 in
    slice_get-map (origin_in rows keys) v n ∙ (ap (option_map (origin_in rows keys)) at.1 ∙ ap (λ i. Some (origin_of i)) (sym (ap (identity_of rows) at.2) ∙ held.2))

pub origins_right : (rows : List PlacedRow) (keys : List NodeKey) (root : Slot) (nodes : List Node) → IsValid (graph_with root nodes) → Draws rows keys root (value_of 0) → AreDrawn rows keys nodes → AreApart rows keys → AreOrigins rows (map (origin_in rows keys) (visited_of (graph_with root nodes)))
unfolding canon_of
origins_right rows keys root nodes valid at drawn apart =
    let g = graph_with root nodes in
    let v = visited_of g in
    let r = visited_reaches g valid in
    let new = map (key_of keys) v in
    let fits = graph_fits rows new (renamed v root) (map (new_node g v) v) (met_draws rows keys v root (value_of 0) r.root_met at) (each_drawn rows keys g v r drawn) (still_apart rows keys g v r drawn apart) in
    record {
      graph = canon_of g;
      valid = canon_valid g valid;
      is_canon = drawn_one_canon (meaning rows) (record { leads_once = leads_once rows; stands_once = stands_once rows }) (canon_of g) g (canon_valid g valid) valid (numbered_from rows 0 new, fits) (numbered_from rows 0 keys, graph_fits rows keys root nodes at drawn apart);
      pairs = numbered_from rows 0 new;
      fits = fits;
      one_each = length-map v (origin_in rows keys) ∙ sym (length-map v (new_node g v));
      each = λ n node p. each_origin rows keys v n node p;
    }
