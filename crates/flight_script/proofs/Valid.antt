-- The graphs of sources are valid.
use Rattle.std.proofs.Common.{◌≡◌, ℕ, suc, ◌+◌, ◌-◌, ◌^◌, ◌<◌, List, [], ◌∷◌, length, map, refl, sym, ◌∙◌, ap, subst, arith, true, false, Bool, Option, Some, None, option_map, nat_lt, ◌&&◌}
use Rattle.std.specs.Prelude.{ℤ, pos, negsuc, if◌then◌else◌, codes, ◌==◌, option_and_then}
use Rattle.std.specs.Ordering.{nat_cmp, match_ordering}
use Rattle.std.specs.declared.cmp.Ordering.{Ordering}
use Rattle.std.specs.declared.cmp.Ordering.TheVariants.{Less, Equal, Greater}
use Rattle.std.specs.Cmp.Lexicographic.{slice_cmp}
use Rattle.std.specs.List.{AllByRecursion, AllZip, flat_map, list_all}
use lib.Dec.{le→leb}
use Rattle.std.proofs.lemmas.List.{length-map}
use Rattle.std.proofs.lemmas.Bool.{ltb-true, and_parts}
use Rattle.std.proofs.lemmas.List.Elements.{All-from_recursion}
use Rattle.serde_json.specs.Data.{Num, unsigned, negative, float, Data, null, boolean, number, string, array, object, Items, no_items, item, Members, no_members, member}
use Rattle.serde_json.specs.Find.{get, get_member}
use Rattle.flight_value.specs.declared.graph.Atom.TheVariants as atom
use Rattle.flight_value.specs.declared.graph.Slot.{Slot}
use Rattle.flight_value.specs.declared.graph.Slot.TheVariants as slot
use Rattle.flight_value.specs.declared.graph.Prop.{Prop}
use Rattle.flight_value.specs.declared.graph.Pair.{Pair}
use Rattle.flight_value.specs.declared.graph.Node.{Node}
use Rattle.flight_value.specs.declared.graph.Node.TheVariants as node
use Rattle.flight_value.specs.declared.graph.Graph.{Graph}
use Rattle.flight_value.specs.Graph.{Ascend, IsSafe, IsValidSlot, IsValidNode, IsValid}
use Rattle.flight_syntax.specs.declared.script.Outcome.TheVariants.{Value}
use Rattle.flight_text.specs.declared.mark.Mark.{Mark}
use Rattle.flight_text.specs.declared.mark.Mark.TheVariants as mark
use Rattle.flight_text.specs.Mark.{IsSpelling}
use Rattle.flight_text.specs.Whole.{whole_of}
use Rattle.flight_text.proofs.Ordered as ordered
use Rattle.flight_text.proofs.Ordered.{Ordered, AllOrdered, EachOrdered, OrderedMembers, ascend}
use Rattle.flight_script.specs.Json.{Member, items, members, as_list, as_members, only, member_count}
use Rattle.flight_script.specs.Slots.{slot_of, IsSlot, IsProp, IsPair, IsNode, Each, list_in, members_in}
use Rattle.flight_script.specs.Sources.{value_parts, IsGraph}
use Rattle.flight_script.specs.Counts.{fits, node_fits, outcome_fits}
use Rattle.flight_script.proofs.Marks.{some≢none}
use Rattle.flight_script.proofs.Once.{some_one}

-- ---- slots

safe_pos : (b : Bool) (n : ℕ) (z : ℤ) → (b ≡ true → n < 2 ^ 53) → (if b then Some (pos n) else None) ≡ Some z → IsSafe z
safe_pos true n z small h = let lt = small refl in subst IsSafe (some_one (pos n) z h) (record { le = tt }, record { le = le→leb n (2 ^ 53 - 1) (omega (arith, lt)) })
safe_pos false n z small h = absurd (some≢none z (sym h))

safe_neg : (b : Bool) (n : ℕ) (z : ℤ) → (b ≡ true → n < 2 ^ 53 - 1) → (if b then Some (negsuc n) else None) ≡ Some z → IsSafe z
safe_neg true n z small h = let lt = small refl in subst IsSafe (some_one (negsuc n) z h) (record { le = le→leb n (2 ^ 53 - 2) (omega (arith, lt)) }, record { le = tt })
safe_neg false n z small h = absurd (some≢none z (sym h))

whole_safe : (x : Num) (z : ℤ) → whole_of x ≡ Some z → IsSafe z
whole_safe (unsigned n) z h = safe_pos (nat_lt n (2 ^ 53)) n z (λ e. ltb-true n (2 ^ 53) e) h
whole_safe (negative (pos n)) z h = absurd (some≢none z (sym h))
whole_safe (negative (negsuc n)) z h = safe_neg (nat_lt n (2 ^ 53 - 1)) n z (λ e. ltb-true n (2 ^ 53 - 1) e) h
whole_safe (float x) z h = absurd (some≢none z (sym h))

number_valid : (count : ℕ) (o : Option ℤ) (s : Slot) → ((z : ℤ) → o ≡ Some z → IsSafe z) → option_map (λ z. slot.Atom (atom.Whole z)) o ≡ Some s → IsValidSlot count s
number_valid count None s safe h = absurd (some≢none s (sym h))
number_valid count (Some z) s safe h = subst (IsValidSlot count) (some_one (slot.Atom (atom.Whole z)) s h) (safe z refl)

node_slot_valid : (count id : ℕ) (b : Bool) (s : Slot) → (b ≡ true → id < count) → (if b then Some (slot.Node id) else None) ≡ Some s → IsValidSlot count s
node_slot_valid count id true s within h = subst (IsValidSlot count) (some_one (slot.Node id) s h) (within refl)
node_slot_valid count id false s within h = absurd (some≢none s (sym h))

mark_valid : (count : ℕ) (text : List ℕ) (m : Mark) (s : Slot) → IsSpelling text m → slot_of count m ≡ Some s → IsValidSlot count s
mark_valid count text (mark.Plain t) s sp h = subst (IsValidSlot count) (some_one (slot.Atom (atom.Text t)) s h) tt
mark_valid count text mark.Element s sp h = absurd (some≢none s (sym h))
mark_valid count text (mark.Lazy id) s sp h = absurd (some≢none s (sym h))
mark_valid count text (mark.Promise id) s sp h = absurd (some≢none s (sym h))
mark_valid count text (mark.Value place) s sp h =
    node_slot_valid count place.id ((length place.path == 0) && nat_lt place.id count) s (λ e. ltb-true place.id count (and_parts (length place.path == 0) (nat_lt place.id count) e).1) h
mark_valid count text (mark.Map place) s sp h = absurd (some≢none s (sym h))
mark_valid count text (mark.Set place) s sp h = absurd (some≢none s (sym h))
mark_valid count text (mark.Action id) s sp h = absurd (some≢none s (sym h))
mark_valid count text (mark.Date date) s sp h = subst (IsValidSlot count) (some_one (slot.Atom (atom.Date date)) s h) sp.1
mark_valid count text (mark.Big n) s sp h = subst (IsValidSlot count) (some_one (slot.Atom (atom.Big n)) s h) tt
mark_valid count text (mark.Symbol name) s sp h = subst (IsValidSlot count) (some_one (slot.Atom (atom.Symbol name)) s h) tt
mark_valid count text mark.Undefined s sp h = subst (IsValidSlot count) (some_one (slot.Atom atom.Undefined) s h) tt
mark_valid count text (mark.Constant c) s sp h = subst (IsValidSlot count) (some_one (slot.Atom (atom.Constant c)) s h) tt

slot_valid : (count : ℕ) (d : Data) (s : Slot) → IsSlot count d s → IsValidSlot count s
slot_valid count null s h = subst (IsValidSlot count) (sym h) tt
slot_valid count (boolean b) s h = subst (IsValidSlot count) (sym h) tt
slot_valid count (number x) s h = number_valid count (whole_of x) s (whole_safe x) h
slot_valid count (string t) s h = mark_valid count t h.0 s h.1 h.2
slot_valid count (array ds) s h = absurd h
slot_valid count (object ms) s h = absurd h

-- what holds of each slot that JSON is

abbrev pub OfSlots : ℕ → (Slot → Type 0) → Type 0
OfSlots count P = (d : Data) (s : Slot) → IsSlot count d s → P s

zip_each : (count : ℕ) (P : Slot → Type 0) → OfSlots count P → (ds : List Data) (ss : List Slot) → AllZip (IsSlot count) ds ss → AllByRecursion P ss
zip_each count P f [] [] h = tt
zip_each count P f [] (s ∷ ss) h = absurd h
zip_each count P f (d ∷ ds) [] h = tt
zip_each count P f (d ∷ ds) (s ∷ ss) h = (f d s h.0, zip_each count P f ds ss h.1)

pub slots_each : (count : ℕ) (P : Slot → Type 0) → OfSlots count P → (o : Option (List Data)) (ss : List Slot) → Each (IsSlot count) o ss → AllByRecursion P ss
slots_each count P f None ss h = absurd h
slots_each count P f (Some ds) ss h = zip_each count P f ds ss h

zip_props : (count : ℕ) (P : Slot → Type 0) → OfSlots count P → (ms : List Member) (ps : List Prop) → AllZip (IsProp count) ms ps → AllByRecursion P (map (λ p. p.slot) ps)
zip_props count P f [] [] h = tt
zip_props count P f [] (p ∷ ps) h = absurd h
zip_props count P f (m ∷ ms) [] h = tt
zip_props count P f (m ∷ ms) (p ∷ ps) h = (f m.1 p.slot h.0.1, zip_props count P f ms ps h.1)

pub props_each : (count : ℕ) (P : Slot → Type 0) → OfSlots count P → (o : Option (List Member)) (ps : List Prop) → Each (IsProp count) o ps → AllByRecursion P (map (λ p. p.slot) ps)
props_each count P f None ps h = absurd h
props_each count P f (Some ms) ps h = zip_props count P f ms ps h

zip_pairs : (count : ℕ) (P : Slot → Type 0) → OfSlots count P → (ds : List Data) (ps : List Pair) → AllZip (IsPair count) ds ps → AllByRecursion P (flat_map (λ p. p.key ∷ p.value ∷ []) ps)
zip_pairs count P f [] [] h = tt
zip_pairs count P f [] (p ∷ ps) h = absurd h
zip_pairs count P f (d ∷ ds) [] h = tt
zip_pairs count P f (d ∷ ds) (p ∷ ps) h = let own = slots_each count P f (as_list d) (p.key ∷ p.value ∷ []) h.0 in (own.0, (own.1.0, zip_pairs count P f ds ps h.1))

pub pairs_each : (count : ℕ) (P : Slot → Type 0) → OfSlots count P → (o : Option (List Data)) (ps : List Pair) → Each (IsPair count) o ps → AllByRecursion P (flat_map (λ p. p.key ∷ p.value ∷ []) ps)
pairs_each count P f None ps h = absurd h
pairs_each count P f (Some ds) ps h = zip_pairs count P f ds ps h

pairs_length : (ps : List Pair) → length (flat_map (λ p. p.key ∷ p.value ∷ []) ps) ≡ length ps + length ps
pairs_length [] = refl
pairs_length (p ∷ ps) = let e = pairs_length ps in omega (arith, e)

few_pairs : (ps : List Pair) (k : ℕ) → length ps < k → length (flat_map (λ p. p.key ∷ p.value ∷ []) ps) < k + k
few_pairs ps k h = let e = pairs_length ps in omega (arith, e, h)

-- ---- the names of objects

names_zip : (count : ℕ) (ms : Members) (ps : List Prop) → AllZip (IsProp count) (members ms) ps → map (λ p. p.name) ps ≡ ordered.names ms
names_zip count no_members [] h = refl
names_zip count no_members (p ∷ ps) h = absurd h
names_zip count (member k d ms) [] h = absurd h
names_zip count (member k d ms) (p ∷ ps) h = ap (λ n. n ∷ map (λ p. p.name) ps) h.0.0 ∙ ap (λ ns. k ∷ ns) (names_zip count ms ps h.1)

chosen : (o : Ordering) (k : List ℕ) (d e : Data) (rest : Option Data) → Ordered d → (rest ≡ Some e → Ordered e) → match_ordering o rest (Some d) rest ≡ Some e → Ordered e
chosen Less k d e rest w later h = later h
chosen Equal k d e rest w later h = subst Ordered (some_one d e h) w
chosen Greater k d e rest w later h = later h

member_ordered : (k : List ℕ) (ms : Members) (e : Data) → EachOrdered ms → get_member k ms ≡ Some e → Ordered e
member_ordered k no_members e w h = absurd (some≢none e (sym h))
member_ordered k (member l d ms) e w h = chosen (slice_cmp nat_cmp k l) k d e (get_member k ms) w.0 (member_ordered k ms e w.1) h

pub get_ordered : (k : List ℕ) (d e : Data) → Ordered d → get k d ≡ Some e → Ordered e
get_ordered k null e w h = absurd (some≢none e (sym h))
get_ordered k (boolean b) e w h = absurd (some≢none e (sym h))
get_ordered k (number x) e w h = absurd (some≢none e (sym h))
get_ordered k (string s) e w h = absurd (some≢none e (sym h))
get_ordered k (array ds) e w h = absurd (some≢none e (sym h))
get_ordered k (object ms) e w h = member_ordered k ms e w.1 h

if_some : (b : Bool) (o : Option Data) (e : Data) → (if b then o else None) ≡ Some e → o ≡ Some e
if_some true o e h = h
if_some false o e h = absurd (some≢none e (sym h))

object_ascends : (count : ℕ) (d : Data) (ps : List Prop) → Ordered d → Each (IsProp count) (as_members d) ps → Ascend (map (λ p. p.name) ps)
object_ascends count null ps w h = absurd h
object_ascends count (boolean b) ps w h = absurd h
object_ascends count (number x) ps w h = absurd h
object_ascends count (string s) ps w h = absurd h
object_ascends count (array ds) ps w h = absurd h
object_ascends count (object ms) ps w h = subst Ascend (sym (names_zip count ms ps h)) (ascend ms w.0)

in_ascends : (count : ℕ) (o : Option Data) (ps : List Prop) → ((e : Data) → o ≡ Some e → Ordered e) → Each (IsProp count) (option_and_then as_members o) ps → Ascend (map (λ p. p.name) ps)
in_ascends count None ps w h = absurd h
in_ascends count (Some d) ps w h = object_ascends count d ps (w d refl) h

-- ---- nodes and graphs

node_valid : (nodes : List Node) (count : ℕ) (d : Data) (n : Node) → count ≡ length nodes → Ordered d → IsNode count d n → node_fits n ≡ true → IsValidNode nodes n
node_valid nodes count d (node.Array ss) e w h f =
    record { few = ltb-true (length ss) (2 ^ 32) f; slots = All-from_recursion (IsValidSlot (length nodes)) ss (subst (λ c. AllByRecursion (IsValidSlot c) ss) e (slots_each count (IsValidSlot count) (slot_valid count) (list_in (codes "array") d) ss h)); kind = tt }
node_valid nodes count d (node.Object ps) e w h f =
    record {
      few = subst (λ k. k < 2 ^ 32) (sym (length-map ps (λ p. p.slot))) (ltb-true (length ps) (2 ^ 32) f);
      slots = All-from_recursion (IsValidSlot (length nodes)) (map (λ p. p.slot) ps) (subst (λ c. AllByRecursion (IsValidSlot c) (map (λ p. p.slot) ps)) e (props_each count (IsValidSlot count) (slot_valid count) (members_in (codes "object") d) ps h));
      kind = in_ascends count (only (codes "object") d) ps (λ x k. get_ordered (codes "object") d x w (if_some (member_count d == 1) (get (codes "object") d) x k)) h;
    }
node_valid nodes count d (node.Map ps) e w h f =
    record {
      few = few_pairs ps (2 ^ 31) (ltb-true (length ps) (2 ^ 31) f);
      slots = All-from_recursion (IsValidSlot (length nodes)) (flat_map (λ p. p.key ∷ p.value ∷ []) ps) (subst (λ c. AllByRecursion (IsValidSlot c) (flat_map (λ p. p.key ∷ p.value ∷ []) ps)) e (pairs_each count (IsValidSlot count) (slot_valid count) (list_in (codes "map") d) ps h));
      kind = tt;
    }
node_valid nodes count d (node.Set ss) e w h f =
    record { few = ltb-true (length ss) (2 ^ 32) f; slots = All-from_recursion (IsValidSlot (length nodes)) ss (subst (λ c. AllByRecursion (IsValidSlot c) ss) e (slots_each count (IsValidSlot count) (slot_valid count) (list_in (codes "set") d) ss h)); kind = tt }
node_valid nodes count d (node.Element t k p) e w h f = absurd h
node_valid nodes count d (node.Promise o) e w h f = absurd h
node_valid nodes count d (node.Stream l i x) e w h f = absurd h
node_valid nodes count d (node.Action i b) e w h f = absurd h

nodes_valid : (nodes : List Node) (count : ℕ) (ds : List Data) (ns : List Node) → count ≡ length nodes → AllByRecursion Ordered ds → AllZip (IsNode count) ds ns → list_all node_fits ns ≡ true → AllByRecursion (IsValidNode nodes) ns
nodes_valid nodes count [] [] e w h f = tt
nodes_valid nodes count [] (n ∷ ns) e w h f = absurd h
nodes_valid nodes count (d ∷ ds) [] e w h f = tt
nodes_valid nodes count (d ∷ ds) (n ∷ ns) e w h f =
    let parts = and_parts (node_fits n) (list_all node_fits ns) f in
    (node_valid nodes count d n e w.0 h.0 parts.0, nodes_valid nodes count ds ns e w.1 h.1 parts.1)

pub zip_length : {A B : Type 0} (R : A → B → Type 0) (xs : List A) (ys : List B) → AllZip R xs ys → length xs ≡ length ys
zip_length R [] [] h = refl
zip_length R [] (y ∷ ys) h = absurd h
zip_length R (x ∷ xs) [] h = absurd h
zip_length R (x ∷ xs) (y ∷ ys) h = ap suc (zip_length R xs ys h.1)

graph_valid : (d : Data) (ds : List Data) (g : Graph) → AllByRecursion Ordered ds → IsSlot (length ds) d g.root → AllZip (IsNode (length ds)) ds g.nodes → outcome_fits (Value g) ≡ true → IsValid g
graph_valid d ds g w root nodes f =
    let parts = and_parts (fits (length g.nodes)) (list_all node_fits g.nodes) f in
    let same = zip_length (IsNode (length ds)) ds g.nodes nodes in
    record {
      few = ltb-true (length g.nodes) (2 ^ 32) parts.0;
      valid_root = subst (λ c. IsValidSlot c g.root) same (slot_valid (length ds) d g.root root);
      each = All-from_recursion (IsValidNode g.nodes) g.nodes (nodes_valid g.nodes (length ds) ds g.nodes same w nodes parts.1);
    }

items_ordered : (ds : Items) → AllOrdered ds → AllByRecursion Ordered (items ds)
items_ordered no_items h = tt
items_ordered (item d ds) h = (h.0, items_ordered ds h.1)

list_ordered : (d : Data) (ds : List Data) → Ordered d → as_list d ≡ Some ds → AllByRecursion Ordered ds
list_ordered null ds w h = absurd (some≢none ds (sym h))
list_ordered (boolean b) ds w h = absurd (some≢none ds (sym h))
list_ordered (number x) ds w h = absurd (some≢none ds (sym h))
list_ordered (string s) ds w h = absurd (some≢none ds (sym h))
list_ordered (array xs) ds w h = subst (AllByRecursion Ordered) (some_one (items xs) ds h) (items_ordered xs w)
list_ordered (object ms) ds w h = absurd (some≢none ds (sym h))

found_ordered : (o : Option Data) (ds : List Data) → ((e : Data) → o ≡ Some e → Ordered e) → option_and_then as_list o ≡ Some ds → AllByRecursion Ordered ds
found_ordered None ds w h = absurd (some≢none ds (sym h))
found_ordered (Some d) ds w h = list_ordered d ds (w d refl) h

parts_valid : (root : Option Data) (nodes : Option (List Data)) (g : Graph) → ((ds : List Data) → nodes ≡ Some ds → AllByRecursion Ordered ds) → IsGraph (option_and_then (λ r. option_map (λ ns. (r, ns)) nodes) root) g → outcome_fits (Value g) ≡ true → IsValid g
parts_valid None nodes g w h f = absurd h
parts_valid (Some r) None g w h f = absurd h
parts_valid (Some r) (Some ds) g w h f = graph_valid r ds g (w ds refl) h.0 h.1 f

two_valid : (two : Bool) (d : Data) (g : Graph) → Ordered d → IsGraph (if two then option_and_then (λ r. option_map (λ ns. (r, ns)) (option_and_then as_list (get (codes "nodes") d))) (get (codes "value") d) else None) g → outcome_fits (Value g) ≡ true → IsValid g
two_valid false d g w h f = absurd h
two_valid true d g w h f = parts_valid (get (codes "value") d) (option_and_then as_list (get (codes "nodes") d)) g (λ ds k. found_ordered (get (codes "nodes") d) ds (λ e m. get_ordered (codes "nodes") d e w m) k) h f

pub value_valid : (d : Data) (g : Graph) → Ordered d → IsGraph (value_parts d) g → outcome_fits (Value g) ≡ true → IsValid g
value_valid d g w h f = two_valid (member_count d == 2) d g w h f
