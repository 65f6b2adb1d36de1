-- A text has one script or one first fault.
use Rattle.std.proofs.Common.{◌≡◌, ℕ, zero, suc, arith, true, false, Bool, List, [], ◌∷◌, refl, sym, ◌∙◌, ap, subst, inl, inr, length, Option, Some, None, codes, option_map}
use Rattle.std.specs.Prelude.{slice_get, option_and_then, if◌then◌else◌, ◌==◌}
use Rattle.std.specs.Str.{bytes_eq}
use Rattle.std.proofs.lemmas.Bool.{eqb-true}
use Rattle.std.specs.List.Sorted.{IsStrictlySortedBy}
use Rattle.std.specs.List.{AllZip}
use Rattle.serde_json.specs.Data.{Data, null, boolean, number, string, array, object}
use Rattle.serde_json.specs.Read.{read}
use Rattle.serde_json.specs.Find.{get, as_str}
use Rattle.flight_value.specs.declared.graph.Atom.TheVariants as atom
use Rattle.flight_value.specs.declared.graph.Slot.{Slot}
use Rattle.flight_value.specs.declared.graph.Slot.TheVariants as slot
use Rattle.flight_value.specs.declared.graph.Prop.{Prop}
use Rattle.flight_value.specs.declared.graph.Pair.{Pair}
use Rattle.flight_value.specs.declared.graph.Node.{Node}
use Rattle.flight_value.specs.declared.graph.Node.TheVariants as node
use Rattle.flight_value.specs.declared.graph.Graph.{Graph}
use Rattle.flight_value.specs.Graph.{Ascend}
use Rattle.flight_text.specs.Whole.{whole_of}
use Rattle.flight_text.proofs.Lines.{same_mark}
use Rattle.flight_syntax.specs.declared.program.Declared.{Declared}
use Rattle.flight_syntax.specs.declared.script.Outcome.{Outcome}
use Rattle.flight_syntax.specs.declared.script.Outcome.TheVariants.{Value, Reject}
use Rattle.flight_syntax.specs.declared.script.Data as source
use Rattle.flight_syntax.specs.declared.script.Flowing.{Flowing}
use Rattle.flight_syntax.specs.declared.script.Script.{Script}
use Rattle.flight_script.specs.declared.fault.ScriptFault.{ScriptFault}
use Rattle.flight_script.specs.Json.{Member, as_list, as_members, only, list_of, list_at, member_count, text}
use Rattle.flight_script.specs.Slots.{slot_of, IsSlot, IsProp, IsPair, IsNode, Each, list_in, members_in}
use Rattle.flight_script.specs.Sources.{rejection, value_parts, IsGraph, IsOutcome, IsSource}
use Rattle.flight_script.specs.Streams.{flow_in, IsNumberOf, IsLast, IsStream}
use Rattle.flight_script.specs.Settlers.{AreSettled}
use Rattle.flight_script.specs.Script.{sources_in, streams_in, names, IsScript, IsScriptOf}
use Rattle.flight_script.specs.Tests.{Test, AllPass, IsFirstFault}
use Rattle.flight_script.proofs.Marks.{some≢none}
use Rattle.flight_script.proofs.Nodes.{apart_each, each_some}
use Rattle.flight_script.proofs.Settling.{apart, below_get}

-- ---- faults

pub not_both : (ts : List Test) (e : ScriptFault) → AllPass ts → IsFirstFault ts e → ⊥
not_both [] e h f = f
not_both (t ∷ ts) e h (inl here) = here.0 h.0
not_both (t ∷ ts) e h (inr later) = not_both ts e h.1 later.1

pub one_fault : (ts : List Test) (e f : ScriptFault) → IsFirstFault ts e → IsFirstFault ts f → e ≡ f
one_fault [] e f h k = absurd h
one_fault (t ∷ ts) e f (inl h) (inl k) = h.1 ∙ sym k.1
one_fault (t ∷ ts) e f (inl h) (inr k) = absurd (h.0 k.0)
one_fault (t ∷ ts) e f (inr h) (inl k) = absurd (k.0 h.0)
one_fault (t ∷ ts) e f (inr h) (inr k) = one_fault ts e f h.1 k.1

-- ---- lists

pub some_one : {A : Type 0} (x y : A) → Some x ≡ Some y → x ≡ y
some_one x y h = cc

one_of : {A : Type 0} (o : Option A) (x y : A) → o ≡ Some x → o ≡ Some y → x ≡ y
one_of o x y h k = some_one x y (sym h ∙ k)

one_zip : {A B : Type 0} (R : A → B → Type 0) → ((x : A) (y z : B) → R x y → R x z → y ≡ z) → (xs : List A) (ys zs : List B) → AllZip R xs ys → AllZip R xs zs → ys ≡ zs
one_zip R one [] [] [] h k = refl
one_zip R one [] [] (z ∷ zs) h k = absurd k
one_zip R one [] (y ∷ ys) zs h k = absurd h
one_zip R one (x ∷ xs) [] zs h k = absurd h
one_zip R one (x ∷ xs) (y ∷ ys) [] h k = absurd k
one_zip R one (x ∷ xs) (y ∷ ys) (z ∷ zs) h k = ap (λ w. w ∷ ys) (one x y z h.0 k.0) ∙ ap (λ ws. z ∷ ws) (one_zip R one xs ys zs h.1 k.1)

one_each : {A B : Type 0} (R : A → B → Type 0) → ((x : A) (y z : B) → R x y → R x z → y ≡ z) → (o : Option (List A)) (ys zs : List B) → Each R o ys → Each R o zs → ys ≡ zs
one_each R one None ys zs h k = absurd h
one_each R one (Some xs) ys zs h k = one_zip R one xs ys zs h k

-- ---- slots and nodes

one_slot : (count : ℕ) (d : Data) (s t : Slot) → IsSlot count d s → IsSlot count d t → s ≡ t
one_slot count null s t h k = h ∙ sym k
one_slot count (boolean b) s t h k = h ∙ sym k
one_slot count (number x) s t h k = one_of (option_map (λ z. slot.Atom (atom.Whole z)) (whole_of x)) s t h k
one_slot count (string text) s t h k =
    let same : h.0 ≡ k.0 = same_mark text h.0 k.0 h.1 k.1 in
    one_of (slot_of count h.0) s t h.2 (ap (slot_of count) same ∙ k.2)
one_slot count (array ds) s t h k = absurd h
one_slot count (object ms) s t h k = absurd h

prop_same : (p q : Prop) → p.name ≡ q.name → p.slot ≡ q.slot → p ≡ q
prop_same p q e f = ap (λ a. record { name = a; slot = p.slot }) e ∙ ap (λ b. record { name = q.name; slot = b }) f

one_prop : (count : ℕ) (m : Member) (p q : Prop) → IsProp count m p → IsProp count m q → p ≡ q
one_prop count m p q h k = prop_same p q (h.0 ∙ sym k.0) (one_slot count m.1 p.slot q.slot h.1 k.1)

abbrev key_of : (default : Slot) → List Slot → Slot
key_of default [] = default
key_of default (s ∷ ss) = s

abbrev value_of : (default : Slot) → List Slot → Slot
value_of default [] = default
value_of default (s ∷ ss) = key_of default ss

pair_same : (p q : Pair) → p.key ≡ q.key → p.value ≡ q.value → p ≡ q
pair_same p q e f = ap (λ a. record { key = a; value = p.value }) e ∙ ap (λ b. record { key = q.key; value = b }) f

one_pair : (count : ℕ) (d : Data) (p q : Pair) → IsPair count d p → IsPair count d q → p ≡ q
one_pair count d p q h k =
    let same : p.key ∷ p.value ∷ [] ≡ q.key ∷ q.value ∷ [] = one_each (IsSlot count) (one_slot count) (as_list d) (p.key ∷ p.value ∷ []) (q.key ∷ q.value ∷ []) h k in
    pair_same p q (ap (key_of p.key) same) (ap (value_of p.key) same)

apart_both : {A B C D : Type 0} (f : Data → Option (List A)) (g : Data → Option (List B)) (R : A → C → Type 0) (Q : B → D → Type 0) (d : Data) (a b : List ℕ) (ys : List C) (zs : List D) → bytes_eq a b ≡ false
    → Each R (option_and_then f (only a d)) ys → Each Q (option_and_then g (only b d)) zs → ⊥
apart_both f g R Q d a b ys zs differ h k =
    let found = each_some R (option_and_then f (only a d)) ys h in
    apart_each f g Q d a b found.0 zs differ (sym found.1) k

one_node : (count : ℕ) (d : Data) (n m : Node) → IsNode count d n → IsNode count d m → n ≡ m
one_node count d (node.Array ys) (node.Array zs) h k = ap (λ ws. node.Array ws) (one_each (IsSlot count) (one_slot count) (list_in (codes "array") d) ys zs h k)
one_node count d (node.Array ys) (node.Object zs) h k = absurd (apart_both as_list as_members (IsSlot count) (IsProp count) d (codes "array") (codes "object") ys zs refl h k)
one_node count d (node.Array ys) (node.Map zs) h k = absurd (apart_both as_list as_list (IsSlot count) (IsPair count) d (codes "array") (codes "map") ys zs refl h k)
one_node count d (node.Array ys) (node.Set zs) h k = absurd (apart_both as_list as_list (IsSlot count) (IsSlot count) d (codes "array") (codes "set") ys zs refl h k)
one_node count d (node.Array ys) (node.Element t u v) h k = absurd k
one_node count d (node.Array ys) (node.Promise o) h k = absurd k
one_node count d (node.Array ys) (node.Stream f i e) h k = absurd k
one_node count d (node.Array ys) (node.Action i b) h k = absurd k
one_node count d (node.Object ys) (node.Array zs) h k = absurd (apart_both as_members as_list (IsProp count) (IsSlot count) d (codes "object") (codes "array") ys zs refl h k)
one_node count d (node.Object ys) (node.Object zs) h k = ap (λ ws. node.Object ws) (one_each (IsProp count) (one_prop count) (members_in (codes "object") d) ys zs h k)
one_node count d (node.Object ys) (node.Map zs) h k = absurd (apart_both as_members as_list (IsProp count) (IsPair count) d (codes "object") (codes "map") ys zs refl h k)
one_node count d (node.Object ys) (node.Set zs) h k = absurd (apart_both as_members as_list (IsProp count) (IsSlot count) d (codes "object") (codes "set") ys zs refl h k)
one_node count d (node.Object ys) (node.Element t u v) h k = absurd k
one_node count d (node.Object ys) (node.Promise o) h k = absurd k
one_node count d (node.Object ys) (node.Stream f i e) h k = absurd k
one_node count d (node.Object ys) (node.Action i b) h k = absurd k
one_node count d (node.Map ys) (node.Array zs) h k = absurd (apart_both as_list as_list (IsPair count) (IsSlot count) d (codes "map") (codes "array") ys zs refl h k)
one_node count d (node.Map ys) (node.Object zs) h k = absurd (apart_both as_list as_members (IsPair count) (IsProp count) d (codes "map") (codes "object") ys zs refl h k)
one_node count d (node.Map ys) (node.Map zs) h k = ap (λ ws. node.Map ws) (one_each (IsPair count) (one_pair count) (list_in (codes "map") d) ys zs h k)
one_node count d (node.Map ys) (node.Set zs) h k = absurd (apart_both as_list as_list (IsPair count) (IsSlot count) d (codes "map") (codes "set") ys zs refl h k)
one_node count d (node.Map ys) (node.Element t u v) h k = absurd k
one_node count d (node.Map ys) (node.Promise o) h k = absurd k
one_node count d (node.Map ys) (node.Stream f i e) h k = absurd k
one_node count d (node.Map ys) (node.Action i b) h k = absurd k
one_node count d (node.Set ys) (node.Array zs) h k = absurd (apart_both as_list as_list (IsSlot count) (IsSlot count) d (codes "set") (codes "array") ys zs refl h k)
one_node count d (node.Set ys) (node.Object zs) h k = absurd (apart_both as_list as_members (IsSlot count) (IsProp count) d (codes "set") (codes "object") ys zs refl h k)
one_node count d (node.Set ys) (node.Map zs) h k = absurd (apart_both as_list as_list (IsSlot count) (IsPair count) d (codes "set") (codes "map") ys zs refl h k)
one_node count d (node.Set ys) (node.Set zs) h k = ap (λ ws. node.Set ws) (one_each (IsSlot count) (one_slot count) (list_in (codes "set") d) ys zs h k)
one_node count d (node.Set ys) (node.Element t u v) h k = absurd k
one_node count d (node.Set ys) (node.Promise o) h k = absurd k
one_node count d (node.Set ys) (node.Stream f i e) h k = absurd k
one_node count d (node.Set ys) (node.Action i b) h k = absurd k
one_node count d (node.Element t u v) m h k = absurd h
one_node count d (node.Promise o) m h k = absurd h
one_node count d (node.Stream f i e) m h k = absurd h
one_node count d (node.Action i b) m h k = absurd h

-- ---- sources

graph_same : (g h : Graph) → g.root ≡ h.root → g.nodes ≡ h.nodes → g ≡ h
graph_same g h e f = ap (λ a. record { root = a; nodes = g.nodes }) e ∙ ap (λ b. record { root = h.root; nodes = b }) f

one_graph : (o : Option (Data × List Data)) (g h : Graph) → IsGraph o g → IsGraph o h → g ≡ h
one_graph None g h i j = absurd i
one_graph (Some parts) g h i j =
    graph_same g h (one_slot (length parts.1) parts.0 g.root h.root i.0 j.0) (one_zip (IsNode (length parts.1)) (one_node (length parts.1)) parts.1 g.nodes h.nodes i.1 j.1)

one_not_two : (n : ℕ) → (n == 1) ≡ true → (n == 2) ≡ true → ⊥
one_not_two n h k = let a = eqb-true n 1 h in let b = eqb-true n 2 k in omega (arith, a, b)

two_members : (one two : Bool) → (one ≡ true → two ≡ true → ⊥) → (o : Option Data) (p : Option (Data × List Data)) (digest : List ℕ) (g : Graph)
    → option_and_then as_str (if one then o else None) ≡ Some digest → IsGraph (if two then p else None) g → ⊥
two_members false two both o p digest g h i = some≢none digest (sym h)
two_members true false both o p digest g h i = i
two_members true true both o p digest g h i = both refl refl

-- a rejected source has one member, and one with a value two
value_no_rejection : (d : Data) (digest : List ℕ) (g : Graph) → rejection d ≡ Some digest → IsGraph (value_parts d) g → ⊥
value_no_rejection d digest g h i = two_members (member_count d == 1) (member_count d == 2) (one_not_two (member_count d)) _ _ digest g h i

one_outcome : (d : Data) (a b : Outcome) → IsOutcome d a → IsOutcome d b → a ≡ b
one_outcome d (Value g) (Value h) i j = ap (λ x. Value x) (one_graph (value_parts d) g h i j)
one_outcome d (Value g) (Reject e) i j = absurd (value_no_rejection d e g j i)
one_outcome d (Reject e) (Value g) i j = absurd (value_no_rejection d e g i j)
one_outcome d (Reject e) (Reject f) i j = ap (λ x. Reject x) (one_of (rejection d) e f i j)

source_same : (a b : source.Data) → a.name ≡ b.name → a.outcome ≡ b.outcome → a ≡ b
source_same a b e f = ap (λ x. record { name = x; outcome = a.outcome }) e ∙ ap (λ y. record { name = b.name; outcome = y }) f

one_source : (m : Member) (a b : source.Data) → IsSource m a → IsSource m b → a ≡ b
one_source m a b h k = source_same a b (h.0 ∙ sym k.0) (one_outcome m.1 a.outcome b.outcome h.1 k.1)

-- ---- streams and settlers

one_place : (ns : List (List ℕ)) (n : List ℕ) (i j : ℕ) → Ascend ns → slice_get ns i ≡ Some n → slice_get ns j ≡ Some n → i ≡ j
unfolding IsStrictlySortedBy
one_place [] n i j a h k = absurd (some≢none n (sym h))
one_place (m ∷ ns) n zero zero a h k = refl
one_place (m ∷ ns) n zero (suc j) a h k = absurd (apart m n (below_get m ns j n a.0 k) (some_one m n h))
one_place (m ∷ ns) n (suc i) zero a h k = absurd (apart m n (below_get m ns i n a.0 h) (some_one m n k))
one_place (m ∷ ns) n (suc i) (suc j) a h k = ap suc (one_place ns n i j a.1 h k)

one_number : (names : List (List ℕ)) → Ascend names → (d : Data) (i j : ℕ) → IsNumberOf names d i → IsNumberOf names d j → i ≡ j
one_number names a d i j h k = one_place names (text d) i j a h k

one_last : (names : List (List ℕ)) → Ascend names → (o : Option Data) (i j : Option ℕ) → IsLast names o i → IsLast names o j → i ≡ j
one_last names a None None None h k = refl
one_last names a None None (Some j) h k = absurd k
one_last names a None (Some i) j h k = absurd h
one_last names a (Some d) None j h k = absurd h
one_last names a (Some d) (Some i) None h k = absurd k
one_last names a (Some d) (Some i) (Some j) h k = ap Some (one_number names a d i j h k)

stream_same : (s t : Flowing) → s.name ≡ t.name → s.flow ≡ t.flow → s.items ≡ t.items → s.last ≡ t.last → s ≡ t
stream_same s t e f g h =
    ap (λ x. record { name = x; flow = s.flow; items = s.items; last = s.last }) e ∙ (ap (λ x. record { name = t.name; flow = x; items = s.items; last = s.last }) f
    ∙ (ap (λ x. record { name = t.name; flow = t.flow; items = x; last = s.last }) g ∙ ap (λ x. record { name = t.name; flow = t.flow; items = t.items; last = x }) h))

one_stream : (names : List (List ℕ)) → Ascend names → (m : Member) (s t : Flowing) → IsStream names m s → IsStream names m t → s ≡ t
one_stream names a m s t h k =
    stream_same s t (h.is_name ∙ sym k.is_name) (one_of (flow_in m.1) s.flow t.flow h.is_flow k.is_flow) (one_zip (IsNumberOf names) (one_number names a) (list_at (codes "items") m.1) s.items t.items h.are_items k.are_items)
    (one_last names a (get (codes "final") m.1) s.last t.last h.is_last k.is_last)

one_settler : (names : List (List ℕ)) → Ascend names → (d : Data) (xs ys : List ℕ) → AreSettled names d xs → AreSettled names d ys → xs ≡ ys
one_settler names a d xs ys h k = one_zip (IsNumberOf names) (one_number names a) (list_of d) xs ys h k

-- ---- the whole

script_same : (s t : Script) → s.sources ≡ t.sources → s.streams ≡ t.streams → s.settlers ≡ t.settlers → s ≡ t
script_same s t e f g =
    ap (λ x. record { sources = x; streams = s.streams; settlers = s.settlers }) e ∙ (ap (λ x. record { sources = t.sources; streams = x; settlers = s.settlers }) f ∙ ap (λ x. record { sources = t.sources; streams = t.streams; settlers = x }) g)

one_script : (d : Data) (s t : Script) → IsScript d s → IsScript d t → s ≡ t
one_script d s t h k =
    let ns = names (sources_in d) in
    let a = h.sources_ascend in
    script_same s t (one_zip IsSource one_source (sources_in d) s.sources t.sources h.sources k.sources) (one_zip (IsStream ns) (one_stream ns a) (streams_in d) s.streams t.streams h.streams k.streams)
    (one_zip (AreSettled ns) (one_settler ns a) (list_at (codes "settlers") d) s.settlers t.settlers h.settlers k.settlers)

pub one_script_of : (text : List ℕ) (declared : List Declared) (s t : Script) → IsScriptOf text declared s → IsScriptOf text declared t → s ≡ t
one_script_of text declared s t h k =
    let same : h.json ≡ k.json = one_of (read text) h.json k.json h.is_read k.is_read in
    one_script h.json s t h.is_script (subst (λ d. IsScript d t) (sym same) k.is_script)
