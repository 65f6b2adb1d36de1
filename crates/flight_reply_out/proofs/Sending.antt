-- The nodes of a canon that can be sent are known.
use Rattle.std.proofs.Common.{◌≡◌, ℕ, zero, suc, ◌+◌, ◌<◌, Bool, true, false, not, ◌&&◌, cond, List, [], ◌∷◌, length, slice_index_or, Option, Some, None, refl, sym, ◌∙◌, arith}
use Rattle.std.specs.List.{list_all, position_from}
use Rattle.std.proofs.lemmas.Iterator.Adapters.{position_from-zero}
use Rattle.flight_value.specs.Graph.{slots_of, IsValid}
use Rattle.flight_value.specs.declared.graph.Slot.{Slot}
use Rattle.flight_value.specs.declared.graph.Prop.{Prop}
use Rattle.flight_value.specs.declared.graph.Pair.{Pair}
use Rattle.flight_value.specs.declared.graph.Node.{Node}
use Rattle.flight_value.specs.declared.graph.Node.TheVariants as node
use Rattle.flight_value.specs.declared.graph.Graph.{Graph}
use Rattle.flight_reply_out.specs.Sent.{is_sent_slot, is_sent_node, IsSent}
use Rattle.flight_reply_out.specs.Known.{AreGood}
use Rattle.flight_reply_out.proofs.Good.{prop_slots, pair_slots}

-- each of a list
abbrev AreSent : List Slot → Type 0
AreSent slots = (k : ℕ) (d : Slot) → k < length slots → is_sent_slot (slice_index_or slots k d) ≡ true

both : (a b : Bool) → (a && b) ≡ true → (a ≡ true) × (b ≡ true)
both true b e = (refl, e)
both false b e = absurd cc

none_sent : AreSent []
none_sent k d lt = absurd (omega arith)

more_sent : (s : Slot) (slots : List Slot) → is_sent_slot s ≡ true → AreSent slots → AreSent (s ∷ slots)
more_sent s slots e h zero d lt = e
more_sent s slots e h (suc k) d lt = h k d (omega (arith, lt))

items_sent : (items : List Slot) → list_all is_sent_slot items ≡ true → AreSent items
items_sent [] e = none_sent
items_sent (s ∷ ss) e = let h = both (is_sent_slot s) (list_all is_sent_slot ss) e in more_sent s ss h.0 (items_sent ss h.1)

props_sent : (props : List Prop) → list_all (λ p. is_sent_slot p.slot) props ≡ true → AreSent (prop_slots props)
props_sent [] e = none_sent
props_sent (p ∷ ps) e = let h = both (is_sent_slot p.slot) (list_all (λ p. is_sent_slot p.slot) ps) e in more_sent p.slot (prop_slots ps) h.0 (props_sent ps h.1)

pairs_sent : (pairs : List Pair) → list_all (λ p. is_sent_slot p.key && is_sent_slot p.value) pairs ≡ true → AreSent (pair_slots pairs)
pairs_sent [] e = none_sent
pairs_sent (p ∷ ps) e =
    let h = both (is_sent_slot p.key && is_sent_slot p.value) (list_all (λ p. is_sent_slot p.key && is_sent_slot p.value) ps) e in
    let k = both (is_sent_slot p.key) (is_sent_slot p.value) h.0 in
    more_sent p.key (p.value ∷ pair_slots ps) k.0 (more_sent p.value (pair_slots ps) k.1 (pairs_sent ps h.1))

slots_sent : (n : Node) → is_sent_node n ≡ true → AreSent (slots_of n)
slots_sent (node.Array items) e = items_sent items e
slots_sent (node.Object props) e = props_sent props e
slots_sent (node.Map pairs) e = pairs_sent pairs e
slots_sent (node.Set items) e = items_sent items e
slots_sent (node.Element tag key props) e = absurd cc
slots_sent (node.Promise outcome) e = more_sent outcome [] e none_sent
slots_sent (node.Stream flow items end) e = absurd cc
slots_sent (node.Action id bound) e = more_sent bound [] e none_sent

head_none : (b : Bool) (i : ℕ) (o : Option ℕ) → cond (not b) (Some i) o ≡ None → (b ≡ true) × (o ≡ None)
head_none true i o e = (refl, e)
head_none false i o e = absurd cc

nodes_sent : (i : ℕ) (nodes : List Node) → position_from (λ n. not (is_sent_node n)) i nodes ≡ None → (k : ℕ) (d : Node) → k < length nodes → is_sent_node (slice_index_or nodes k d) ≡ true
nodes_sent i [] e k d lt = absurd (omega arith)
nodes_sent i (n ∷ ns) e zero d lt = (head_none (is_sent_node n) i (position_from (λ n. not (is_sent_node n)) (i + 1) ns) e).0
nodes_sent i (n ∷ ns) e (suc k) d lt = nodes_sent (i + 1) ns (head_none (is_sent_node n) i (position_from (λ n. not (is_sent_node n)) (i + 1) ns) e).1 k d (omega (arith, lt))

pub all_good : (g : Graph) → IsValid g → IsSent g → AreGood g.nodes
all_good g valid sent k d lt =
    let n = slice_index_or g.nodes k d in
    let v = valid.each k d lt in
    let e = nodes_sent 0 g.nodes (sym (position_from-zero (λ n. not (is_sent_node n)) g.nodes) ∙ sent.nodes) k d lt in
    record { few = v.few; sent = e; slots = λ i s l. record { valid = v.slots i s l; sent = slots_sent n e i s l } }
