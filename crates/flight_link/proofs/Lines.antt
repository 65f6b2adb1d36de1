-- Nodes, drawn from what their slots lead to.
use Rattle.std.proofs.Common.{◌≡◌, ℕ, zero, suc, ◌+◌, ◌-◌, ◌<◌, ◌≤◌, ◌^◌, List, [], ◌∷◌, length, map, take, drop, get_or, Some, slice_get, refl, sym, ◌∙◌, ap, subst, arith}
use Rattle.std.specs.Prelude.{All, unwrap_or}
use Rattle.std.specs.List.{AllZip, flat_map}
use Rattle.std.proofs.lemmas.List.{take_rest, length-map}
use Rattle.std.proofs.lemmas.Option.{none-some, same_Some}
use Rattle.flight_value.specs.Graph.{slots_of}
use Rattle.flight_value.specs.declared.graph.Slot.{Slot}
use Rattle.flight_value.specs.declared.graph.Slot.TheVariants as slot
use Rattle.flight_value.specs.declared.graph.Prop.{Prop}
use Rattle.flight_value.specs.declared.graph.Pair.{Pair}
use Rattle.flight_value.specs.declared.graph.Node.{Node}
use Rattle.flight_value.specs.Store as store
use Rattle.flight_value.specs.Store.{label_of}
use Rattle.flight_meaning.specs.declared.place.Named.{Named}
use Rattle.flight_meaning.specs.declared.place.PlacedRow.{PlacedRow}
use Rattle.flight_meaning.specs.Meaning.{Written}
use Rattle.flight_link.specs.declared.key.NodeKey.{NodeKey}
use Rattle.flight_link.specs.declared.key.NodeKey.TheVariants.{Made, Promise, Action}
use Rattle.flight_link.specs.declared.laid.Head.{Head}
use Rattle.flight_link.specs.declared.laid.Head.TheVariants as head
use Rattle.flight_link.specs.declared.numbers.Numbers.{Numbers}
use Rattle.flight_link.specs.declared.table.Table.{Table}
use Rattle.flight_link.specs.declared.target.Target.{Target}
use Rattle.flight_link.specs.declared.target.Target.TheVariants as target
use Rattle.flight_link.specs.Nodes.{IsTable}
use Rattle.flight_link.specs.Numbering.{HasNumber, AreNumbered}
use Rattle.flight_link.specs.Targets.{IsTargetOf}
use Rattle.flight_link.specs.Drawing.{identity_of, Draws, DrawsNode}
use Rattle.flight_link.specs.Laid.{label_in, IsCount, IsLaid, LeadsToNumber, slot_of, slots_for, props_of, pairs_of, node_with}
use Rattle.flight_link.proofs.Drawing.{node_leads}
use Rattle.flight_link.proofs.Slots.{node_place}

-- ---- each of a list

pub all_none : {A : Type 0} (P : A → Type 0) → All P []
all_none P k d less = absurd (omega (arith, less))

pub all_cons : {A : Type 0} (P : A → Type 0) (x : A) (xs : List A) → P x → All P xs → All P (x ∷ xs)
all_cons P x xs p h zero d less = p
all_cons P x xs p h (suc k) d less = h k d (omega (arith, less))

pub all_tail : {A : Type 0} (P : A → Type 0) (x : A) (xs : List A) → All P (x ∷ xs) → All P xs
all_tail P x xs h k d less = h (suc k) d (omega (arith, less))

-- ---- lists by their items

pub two_first : {A : Type 0} (xs : List A) (a b : A) → 2 ≤ length xs → a ≡ get_or xs 0 a → b ≡ get_or xs 1 b → xs ≡ a ∷ b ∷ drop 2 xs
two_first [] a b l e f = absurd (omega (arith, l))
two_first (x ∷ []) a b l e f = absurd (omega (arith, l))
two_first (x ∷ y ∷ xs) a b l e f = ap (λ u. u ∷ y ∷ xs) (sym e) ∙ ap (λ u. a ∷ u ∷ xs) (sym f)

-- ---- nodes with their slots

pub slot_drawn : (t : Table) (n : Numbers) (x : Target) (w : Written) → IsTable t → AreNumbered t.rows.items n → LeadsToNumber t.rows.items n x → IsTargetOf t.rows.items w x → Draws t.rows.items n.keys.items (slot_of t.rows.items n x) w
slot_drawn t n (target.Atom a) w table are num h = h.0
slot_drawn t n (target.Node s) w table are num h =
    let at = subst (HasNumber n.keys.items (Made s)) num.1 (are.each (Made s) (node_place t s w table h)) in
    subst (λ k. Draws t.rows.items n.keys.items (slot.Node k) w) (sym (ap (λ o. unwrap_or o 0) num.1)) (Made s, at, node_leads t.rows.items s w table.plain h)
slot_drawn t n (target.Promise id) w table are num h =
    let at = subst (HasNumber n.keys.items (Promise id)) num.1 (are.each (Promise id) tt) in
    subst (λ k. Draws t.rows.items n.keys.items (slot.Node k) w) (sym (ap (λ o. unwrap_or o 0) num.1)) (Promise id, at, h)
slot_drawn t n (target.Action id) w table are num h =
    let at = subst (HasNumber n.keys.items (Action id)) num.1 (are.each (Action id) tt) in
    subst (λ k. Draws t.rows.items n.keys.items (slot.Node k) w) (sym (ap (λ o. unwrap_or o 0) num.1)) (Action id, at, h)
slot_drawn t n (target.Awaits id) w table are num h = h.0
slot_drawn t n target.Lost w table are num h = h.0

slots_drawn : (t : Table) (n : Numbers) (ws : List Written) (xs : List Target) → IsTable t → AreNumbered t.rows.items n → All (LeadsToNumber t.rows.items n) xs → AllZip (IsTargetOf t.rows.items) ws xs → AllZip (Draws t.rows.items n.keys.items) (slots_for t.rows.items n xs) ws
slots_drawn t n [] [] table are num h = tt
slots_drawn t n (w ∷ ws) (x ∷ xs) table are num h = (slot_drawn t n x w table are (num 0 x (omega arith)) h.0, slots_drawn t n ws xs table are (all_tail (LeadsToNumber t.rows.items n) x xs num) h.1)
slots_drawn t n [] (x ∷ xs) table are num h = absurd h
slots_drawn t n (w ∷ ws) [] table are num h = absurd h

names_with : (ns : List Named) (ss : List Slot) → length ss ≡ length ns → map (λ (p : Prop). p.name) (props_of ns ss) ≡ map (λ (p : Named). p.name) ns
names_with [] ss e = refl
names_with (n ∷ ns) [] e = absurd (omega (arith, e))
names_with (n ∷ ns) (s ∷ ss) e = ap (λ t. n.name ∷ t) (names_with ns ss (omega (arith, e)))

props_with : (ns : List Named) (ss : List Slot) → length ss ≡ length ns → map (λ (p : Prop). p.slot) (props_of ns ss) ≡ ss
props_with [] [] e = refl
props_with [] (s ∷ ss) e = absurd (omega (arith, e))
props_with (n ∷ ns) [] e = absurd (omega (arith, e))
props_with (n ∷ ns) (s ∷ ss) e = ap (λ t. s ∷ t) (props_with ns ss (omega (arith, e)))

pairs_with : (ss : List Slot) (m : ℕ) → length ss ≡ m + m → flat_map (λ (p : Pair). p.key ∷ p.value ∷ []) (pairs_of ss) ≡ ss
pairs_with [] m e = refl
pairs_with (k ∷ []) m e = absurd (omega (arith, e))
pairs_with (k ∷ v ∷ ss) zero e = absurd (omega (arith, e))
pairs_with (k ∷ v ∷ ss) (suc m) e = ap (λ t. k ∷ v ∷ t) (pairs_with ss m (omega (arith, e)))

label_with : (h : Head) (ss : List Slot) → IsCount h (length ss) → label_of (node_with h ss) ≡ label_in h
label_with head.Array ss c = refl
label_with (head.Object named) ss c = ap store.object (names_with named.now ss c)
label_with head.Map ss c = refl
label_with head.Set ss c = refl
label_with head.Element (x ∷ y ∷ z ∷ ss) c = refl
label_with head.Element [] c = absurd (omega (arith, c))
label_with head.Element (x ∷ []) c = absurd (omega (arith, c))
label_with head.Element (x ∷ y ∷ []) c = absurd (omega (arith, c))
label_with head.Promise (x ∷ ss) c = refl
label_with head.Promise [] c = absurd (omega (arith, c))
label_with (head.Action id) (x ∷ ss) c = refl
label_with (head.Action id) [] c = absurd (omega (arith, c))

slots_with : (h : Head) (ss : List Slot) → IsCount h (length ss) → slots_of (node_with h ss) ≡ ss
slots_with head.Array ss c = refl
slots_with (head.Object named) ss c = props_with named.now ss c
slots_with head.Map ss c = pairs_with ss c.0 c.1
slots_with head.Set ss c = refl
slots_with head.Element (x ∷ y ∷ z ∷ []) c = refl
slots_with head.Element (x ∷ y ∷ z ∷ w ∷ ss) c = absurd (omega (arith, c))
slots_with head.Element [] c = absurd (omega (arith, c))
slots_with head.Element (x ∷ []) c = absurd (omega (arith, c))
slots_with head.Element (x ∷ y ∷ []) c = absurd (omega (arith, c))
slots_with head.Promise (x ∷ []) c = refl
slots_with head.Promise (x ∷ y ∷ ss) c = absurd (omega (arith, c))
slots_with head.Promise [] c = absurd (omega (arith, c))
slots_with (head.Action id) (x ∷ []) c = refl
slots_with (head.Action id) (x ∷ y ∷ ss) c = absurd (omega (arith, c))
slots_with (head.Action id) [] c = absurd (omega (arith, c))

-- a node that is laid out is drawn, where each of its slots leads to a key that has a number
pub node_drawn : (t : Table) (n : Numbers) (key : NodeKey) (h : Head) (xs : List Target) → IsTable t → AreNumbered t.rows.items n → IsLaid t.rows.items key h xs → All (LeadsToNumber t.rows.items n) xs → DrawsNode t.rows.items n.keys.items (identity_of t.rows.items key) (node_with h (slots_for t.rows.items n xs))
node_drawn t n key h xs table are laid num =
    let ss = slots_for t.rows.items n xs in
    let long : length ss ≡ length xs = length-map xs (slot_of t.rows.items n) in
    let count : IsCount h (length ss) = subst (IsCount h) (sym long) laid.count in
    let same : slots_of (node_with h ss) ≡ ss = slots_with h ss count in
    record {
      shape = laid.shape;
      stands = laid.stands;
      label = label_with h ss count ∙ laid.label;
      slots = subst (λ s. AllZip (Draws t.rows.items n.keys.items) s laid.shape.slots) (sym same) (slots_drawn t n laid.shape.slots xs table are num laid.slots);
      few = below (length xs) (length (slots_of (node_with h ss))) (2 ^ 32) (sym (ap length same ∙ long)) laid.few;
    }
  where
    below : (m n top : ℕ) → m ≡ n → m < top → n < top
    below m n top e h = subst (λ k. k < top) e h

pub even_less : {A : Type 0} (xs behind : List A) → behind ≡ drop 2 xs → 2 ≤ length xs → (m : ℕ) × (length xs ≡ m + m) → (m : ℕ) × (length behind ≡ m + m)
even_less {A} xs behind is_behind two e = subst (λ (ts : List A). (m : ℕ) × (length ts ≡ m + m)) (sym is_behind) (go xs two e.0 e.1)
  where
    go : (xs : List A) → 2 ≤ length xs → (m : ℕ) → length xs ≡ m + m → (m : ℕ) × (length (drop 2 xs) ≡ m + m)
    go [] l m e = absurd (omega (arith, l))
    go (x ∷ []) l m e = absurd (omega (arith, l))
    go (x ∷ y ∷ xs) l zero e = absurd (omega (arith, e))
    go (x ∷ y ∷ xs) l (suc m) e = (m, omega (arith, e))

-- what a slice pattern leaves behind two items
pub behind_two : {A : Type 0} (xs : List A) → take (length xs - 2) (drop 2 xs) ≡ drop 2 xs
behind_two xs = take_rest xs 2

-- ---- lines

abbrev pub DrawsKey : List PlacedRow → List NodeKey → NodeKey → Node → Type 0
DrawsKey rows keys key x = DrawsNode rows keys (identity_of rows key) x

pub key_at : (rows : List PlacedRow) (keys ks : List NodeKey) (nodes : List Node) (i : ℕ) (x : Node) → AllZip (DrawsKey rows keys) ks nodes → slice_get nodes i ≡ Some x → (key : NodeKey) × (slice_get ks i ≡ Some key) × DrawsKey rows keys key x
key_at rows keys [] [] i x h e = absurd (none-some x e)
key_at rows keys (k ∷ ks) (y ∷ ys) zero x h e = (k, refl, subst (DrawsKey rows keys k) (same_Some y x e) h.0)
key_at rows keys (k ∷ ks) (y ∷ ys) (suc i) x h e = key_at rows keys ks ys i x h.1 e
key_at rows keys [] (y ∷ ys) i x h e = absurd h
key_at rows keys (k ∷ ks) [] i x h e = absurd h

pub below_top : (m n top : ℕ) → m ≡ n → m < top → n < top
below_top m n top e h = subst (λ k. k < top) e h
