-- What a draft says once its gaps are filled: the text of the graph whose nodes stand under its keys.
use Rattle.std.proofs.Common.{◌≡◌, ℕ, zero, suc, ◌+◌, ◌<◌, ◌^◌, codes, List, [], ◌∷◌, ◌++◌, length, map, refl, sym, ◌∙◌, ap, subst, arith, append_assoc, append-nil}
use Rattle.std.specs.Prelude.{All}
use Rattle.std.specs.List.{AllZip, flat_map}
use Rattle.flight_value.specs.declared.graph.Prop.{Prop}
use Rattle.flight_value.specs.declared.graph.Pair.{Pair}
use Rattle.flight_value.specs.declared.graph.Node.{Node}
use Rattle.flight_meaning.specs.declared.place.Named.{Named}
use Rattle.flight_meaning.specs.declared.place.PlacedRow.{PlacedRow}
use Rattle.flight_meaning.specs.Meaning.{Written, value_of}
use Rattle.flight_graph.specs.Text.{atom_text, commas, line_text, lines_from, node_text, number_text, pair_text, prop_text, slot_text, string_text}
use Rattle.flight_link.specs.declared.key.NodeKey.{NodeKey}
use Rattle.flight_link.specs.declared.key.NodeKey.TheVariants.{Made, Promise, Action}
use Rattle.flight_link.specs.declared.laid.Head.{Head}
use Rattle.flight_link.specs.declared.laid.Head.TheVariants as head
use Rattle.flight_link.specs.declared.numbers.Numbers.{Numbers}
use Rattle.flight_link.specs.declared.table.Table.{Table}
use Rattle.flight_link.specs.declared.target.Target.{Target}
use Rattle.flight_link.specs.declared.target.Target.TheVariants as target
use Rattle.flight_link.specs.Nodes.{IsTable}
use Rattle.flight_link.specs.Numbering.{AreNumbered, IsKey}
use Rattle.flight_link.specs.Targets.{IsTargetOf}
use Rattle.flight_link.specs.Laid.{IsCount, IsLaid, IsNumbered, IsTextUnder, LeadsToNumber, node_with, number_in, pairs_of, props_of, slot_of, slots_for}
use Rattle.flight_link.specs.Drafted.{Part, byte, number, plain, fill, AllKeys, slot_parts, more_parts, commas_parts, prop_parts, with_names, pair_parts, in_twos, node_parts, line_parts, lines_parts, DraftsNode, IsDrafted, IsFilled}
use Rattle.flight_link.proofs.Drafts.{fill-plain_only, keys-before, keys-plain}
use Rattle.flight_link.proofs.Drawing.{zip_push}
use Rattle.flight_link.proofs.LaidOut.{zip_long}
use Rattle.flight_link.proofs.Lines.{all_none, all_cons, below_top, DrawsKey, key_at, node_drawn, slot_drawn}
use Rattle.flight_link.proofs.Slots.{node_place}

-- ---- texts

pub fill_append : (f : NodeKey → List ℕ) (p q : List Part) → fill f (p ++ q) ≡ fill f p ++ fill f q
fill_append f [] q = refl
fill_append f (byte b ∷ p) q = ap (λ x. b ∷ x) (fill_append f p q)
fill_append f (number key ∷ p) q = ap (λ x. f key ++ x) (fill_append f p q) ∙ sym (append_assoc (f key) (fill f p) (fill f q))

-- two pieces, of which the texts are known
both : (f : NodeKey → List ℕ) (p q : List Part) (x y : List ℕ) → fill f p ≡ x → fill f q ≡ y → fill f (p ++ q) ≡ x ++ y
both f p q x y hp hq = fill_append f p q ∙ (ap (λ z. z ++ fill f q) hp ∙ ap (λ z. x ++ z) hq)

-- bytes and then a piece
lead : (f : NodeKey → List ℕ) (s : List ℕ) (q : List Part) (y : List ℕ) → fill f q ≡ y → fill f (plain s ++ q) ≡ s ++ y
lead f s q y h = both f (plain s) q s y (fill-plain_only f s) h

-- a piece and then bytes
behind : (f : NodeKey → List ℕ) (p : List Part) (s x : List ℕ) → fill f p ≡ x → fill f (p ++ plain s) ≡ x ++ s
behind f p s x h = both f p (plain s) x s h (fill-plain_only f s)

abbrev NumberText : List PlacedRow → Numbers → NodeKey → List ℕ
NumberText rows n key = number_text (number_in rows n key)

slot_filled : (rows : List PlacedRow) (n : Numbers) (t : Target) → fill (NumberText rows n) (slot_parts t) ≡ slot_text (slot_of rows n t)
slot_filled rows n (target.Atom a) = fill-plain_only (NumberText rows n) (atom_text a.now)
slot_filled rows n (target.Node s) = append-nil (number_text (number_in rows n (Made s)))
slot_filled rows n (target.Promise id) = append-nil (number_text (number_in rows n (Promise id)))
slot_filled rows n (target.Action id) = append-nil (number_text (number_in rows n (Action id)))
slot_filled rows n (target.Awaits id) = refl
slot_filled rows n target.Lost = refl

more_filled : {A B : Type 0} (f : NodeKey → List ℕ) (each : A → List Part) (text : B → List ℕ) (g : A → B) → ((x : A) → fill f (each x) ≡ text (g x)) → (xs : List A) → fill f (more_parts each xs) ≡ flat_map (λ y. codes "," ++ text y) (map g xs)
more_filled f each text g h [] = refl
more_filled f each text g h (x ∷ xs) =
    both f (plain (codes ",") ++ each x) (more_parts each xs) (codes "," ++ text (g x)) (flat_map (λ y. codes "," ++ text y) (map g xs))
    (lead f (codes ",") (each x) (text (g x)) (h x)) (more_filled f each text g h xs)

commas_filled : {A B : Type 0} (f : NodeKey → List ℕ) (each : A → List Part) (text : B → List ℕ) (g : A → B) → ((x : A) → fill f (each x) ≡ text (g x)) → (xs : List A) → fill f (commas_parts each xs) ≡ commas text (map g xs)
commas_filled f each text g h [] = refl
commas_filled f each text g h (x ∷ xs) = both f (each x) (more_parts each xs) (text (g x)) (flat_map (λ y. codes "," ++ text y) (map g xs)) (h x) (more_filled f each text g h xs)

abbrev prop_in : List PlacedRow → Numbers → Named × Target → Prop
prop_in rows n p = record { name = p.0.name; slot = slot_of rows n p.1 }

prop_filled : (rows : List PlacedRow) (n : Numbers) (p : Named × Target) → fill (NumberText rows n) (prop_parts p) ≡ prop_text (prop_in rows n p)
prop_filled rows n p =
    let f = NumberText rows n in
    both f (plain (string_text p.0.name) ++ plain (codes ":")) (slot_parts p.1) (string_text p.0.name ++ codes ":") (slot_text (slot_of rows n p.1))
    (lead f (string_text p.0.name) (plain (codes ":")) (codes ":") (fill-plain_only f (codes ":"))) (slot_filled rows n p.1)

props_same : (rows : List PlacedRow) (n : Numbers) (ns : List Named) (ts : List Target) → map (prop_in rows n) (with_names ns ts) ≡ props_of ns (slots_for rows n ts)
props_same rows n [] ts = refl
props_same rows n (m ∷ ns) [] = refl
props_same rows n (m ∷ ns) (t ∷ ts) = ap (λ ps. record { name = m.name; slot = slot_of rows n t } ∷ ps) (props_same rows n ns ts)

abbrev pair_in : List PlacedRow → Numbers → Target × Target → Pair
pair_in rows n p = record { key = slot_of rows n p.0; value = slot_of rows n p.1 }

pair_filled : (rows : List PlacedRow) (n : Numbers) (p : Target × Target) → fill (NumberText rows n) (pair_parts p) ≡ pair_text (pair_in rows n p)
pair_filled rows n p =
    let f = NumberText rows n in
    let k = slot_text (slot_of rows n p.0) in
    let v = slot_text (slot_of rows n p.1) in
    let key : fill f (plain (codes "[") ++ slot_parts p.0) ≡ codes "[" ++ k = lead f (codes "[") (slot_parts p.0) k (slot_filled rows n p.0) in
    let comma : fill f (plain (codes "[") ++ slot_parts p.0 ++ plain (codes ",")) ≡ codes "[" ++ k ++ codes "," = behind f (plain (codes "[") ++ slot_parts p.0) (codes ",") (codes "[" ++ k) key in
    let value : fill f (plain (codes "[") ++ slot_parts p.0 ++ plain (codes ",") ++ slot_parts p.1) ≡ codes "[" ++ k ++ codes "," ++ v = both f (plain (codes "[") ++ slot_parts p.0 ++ plain (codes ",")) (slot_parts p.1) (codes "[" ++ k ++ codes ",") v comma (slot_filled rows n p.1) in
    behind f (plain (codes "[") ++ slot_parts p.0 ++ plain (codes ",") ++ slot_parts p.1) (codes "]") (codes "[" ++ k ++ codes "," ++ v) value

pairs_same : (rows : List PlacedRow) (n : Numbers) (ts : List Target) → map (pair_in rows n) (in_twos ts) ≡ pairs_of (slots_for rows n ts)
pairs_same rows n [] = refl
pairs_same rows n (k ∷ []) = refl
pairs_same rows n (k ∷ v ∷ ts) = ap (λ ps. record { key = slot_of rows n k; value = slot_of rows n v } ∷ ps) (pairs_same rows n ts)

-- within brackets
within : (f : NodeKey → List ℕ) (left right : List ℕ) (p : List Part) (x : List ℕ) → fill f p ≡ x → fill f (plain left ++ p ++ plain right) ≡ left ++ x ++ right
within f left right p x h = behind f (plain left ++ p) right (left ++ x) (lead f left p x h)

node_filled : (rows : List PlacedRow) (n : Numbers) (h : Head) (ts : List Target) → IsCount h (length ts) → fill (NumberText rows n) (node_parts h ts) ≡ node_text (node_with h (slots_for rows n ts))
node_filled rows n head.Array ts c = within (NumberText rows n) (codes "array [") (codes "]") (commas_parts slot_parts ts) (commas slot_text (slots_for rows n ts)) (commas_filled (NumberText rows n) slot_parts slot_text (slot_of rows n) (slot_filled rows n) ts)
node_filled rows n (head.Object named) ts c =
    within (NumberText rows n) (codes "object {") (codes "}") (commas_parts prop_parts (with_names named.now ts)) (commas prop_text (props_of named.now (slots_for rows n ts)))
    (commas_filled (NumberText rows n) prop_parts prop_text (prop_in rows n) (prop_filled rows n) (with_names named.now ts) ∙ ap (commas prop_text) (props_same rows n named.now ts))
node_filled rows n head.Map ts c =
    within (NumberText rows n) (codes "map [") (codes "]") (commas_parts pair_parts (in_twos ts)) (commas pair_text (pairs_of (slots_for rows n ts)))
    (commas_filled (NumberText rows n) pair_parts pair_text (pair_in rows n) (pair_filled rows n) (in_twos ts) ∙ ap (commas pair_text) (pairs_same rows n ts))
node_filled rows n head.Set ts c = within (NumberText rows n) (codes "set [") (codes "]") (commas_parts slot_parts ts) (commas slot_text (slots_for rows n ts)) (commas_filled (NumberText rows n) slot_parts slot_text (slot_of rows n) (slot_filled rows n) ts)
node_filled rows n head.Element (x ∷ y ∷ z ∷ []) c =
    let f = NumberText rows n in
    let text = λ (t : Target). slot_text (slot_of rows n t) in
    let first : fill f (plain (codes "element ") ++ slot_parts x ++ plain (codes " ")) ≡ codes "element " ++ text x ++ codes " " = within f (codes "element ") (codes " ") (slot_parts x) (text x) (slot_filled rows n x) in
    let second : fill f (plain (codes "element ") ++ slot_parts x ++ plain (codes " ") ++ slot_parts y) ≡ codes "element " ++ text x ++ codes " " ++ text y = both f (plain (codes "element ") ++ slot_parts x ++ plain (codes " ")) (slot_parts y) (codes "element " ++ text x ++ codes " ") (text y) first (slot_filled rows n y) in
    let blank : fill f (plain (codes "element ") ++ slot_parts x ++ plain (codes " ") ++ slot_parts y ++ plain (codes " ")) ≡ codes "element " ++ text x ++ codes " " ++ text y ++ codes " " = behind f (plain (codes "element ") ++ slot_parts x ++ plain (codes " ") ++ slot_parts y) (codes " ") (codes "element " ++ text x ++ codes " " ++ text y) second in
    both f (plain (codes "element ") ++ slot_parts x ++ plain (codes " ") ++ slot_parts y ++ plain (codes " ")) (slot_parts z) (codes "element " ++ text x ++ codes " " ++ text y ++ codes " ") (text z) blank (slot_filled rows n z)
node_filled rows n head.Promise (x ∷ []) c = lead (NumberText rows n) (codes "promise ") (slot_parts x) (slot_text (slot_of rows n x)) (slot_filled rows n x)
node_filled rows n (head.Action id) (x ∷ []) c =
    let f = NumberText rows n in
    let name : fill f (plain (codes "action ") ++ plain (string_text id.now)) ≡ codes "action " ++ string_text id.now = lead f (codes "action ") (plain (string_text id.now)) (string_text id.now) (fill-plain_only f (string_text id.now)) in
    let blank : fill f (plain (codes "action ") ++ plain (string_text id.now) ++ plain (codes " ")) ≡ codes "action " ++ string_text id.now ++ codes " " = behind f (plain (codes "action ") ++ plain (string_text id.now)) (codes " ") (codes "action " ++ string_text id.now) name in
    both f (plain (codes "action ") ++ plain (string_text id.now) ++ plain (codes " ")) (slot_parts x) (codes "action " ++ string_text id.now ++ codes " ") (slot_text (slot_of rows n x)) blank (slot_filled rows n x)
node_filled rows n head.Element [] c = absurd (omega (arith, c))
node_filled rows n head.Element (x ∷ []) c = absurd (omega (arith, c))
node_filled rows n head.Element (x ∷ y ∷ []) c = absurd (omega (arith, c))
node_filled rows n head.Element (x ∷ y ∷ z ∷ w ∷ ts) c = absurd (omega (arith, c))
node_filled rows n head.Promise [] c = absurd (omega (arith, c))
node_filled rows n head.Promise (x ∷ y ∷ ts) c = absurd (omega (arith, c))
node_filled rows n (head.Action id) [] c = absurd (omega (arith, c))
node_filled rows n (head.Action id) (x ∷ y ∷ ts) c = absurd (omega (arith, c))

line_filled : (rows : List PlacedRow) (n : Numbers) (i : ℕ) (h : Head) (ts : List Target) → IsCount h (length ts) → fill (NumberText rows n) (line_parts i h ts) ≡ line_text i (node_with h (slots_for rows n ts))
line_filled rows n i h ts c =
    let f = NumberText rows n in
    let x = node_text (node_with h (slots_for rows n ts)) in
    let number : fill f (plain (number_text i) ++ plain (codes " ")) ≡ number_text i ++ codes " " = lead f (number_text i) (plain (codes " ")) (codes " ") (fill-plain_only f (codes " ")) in
    let node : fill f (plain (number_text i) ++ plain (codes " ") ++ node_parts h ts) ≡ number_text i ++ codes " " ++ x = both f (plain (number_text i) ++ plain (codes " ")) (node_parts h ts) (number_text i ++ codes " ") x number (node_filled rows n h ts c) in
    behind f (plain (number_text i) ++ plain (codes " ") ++ node_parts h ts) (codes "\n") (number_text i ++ codes " " ++ x) node

-- ---- keys

pub keys_append : (P : NodeKey → Type 0) (p q : List Part) → AllKeys P p → AllKeys P q → AllKeys P (p ++ q)
keys_append P [] q h k = k
keys_append P (byte b ∷ p) q h k = keys_append P p q h k
keys_append P (number key ∷ p) q h k = (h.0, keys_append P p q h.1 k)

keys_front : (P : NodeKey → Type 0) (p q : List Part) → AllKeys P (p ++ q) → AllKeys P p
keys_front P [] q h = tt
keys_front P (byte b ∷ p) q h = keys_front P p q h
keys_front P (number key ∷ p) q h = (h.0, keys_front P p q h.1)

keys_rest : (P : NodeKey → Type 0) (p q : List Part) → AllKeys P (p ++ q) → AllKeys P q
keys_rest P [] q h = h
keys_rest P (byte b ∷ p) q h = keys_rest P p q h
keys_rest P (number key ∷ p) q h = keys_rest P p q h.1

keys_then : (P : NodeKey → Type 0) (p : List Part) (s : List ℕ) → AllKeys P p → AllKeys P (p ++ plain s)
keys_then P p s h = keys_append P p (plain s) h (keys-plain P s)

-- each of a list, item by item
abbrev Each : {A : Type 0} → (A → Type 0) → List A → Type 0
Each Q [] = Unit {0}
Each Q (x ∷ xs) = Q x × Each Q xs

-- the keys among what is written for an item hold this
abbrev Holds : (NodeKey → Type 0) → Target → Type 0
Holds P t = AllKeys P (slot_parts t)

more_keys : {A : Type 0} (P : NodeKey → Type 0) (each : A → List Part) (xs : List A) → Each (λ x. AllKeys P (each x)) xs → AllKeys P (more_parts each xs)
more_keys P each [] h = tt
more_keys P each (x ∷ xs) h = keys_append P (plain (codes ",") ++ each x) (more_parts each xs) (keys-before P (codes ",") (each x) h.0) (more_keys P each xs h.1)

commas_keys : {A : Type 0} (P : NodeKey → Type 0) (each : A → List Part) (xs : List A) → Each (λ x. AllKeys P (each x)) xs → AllKeys P (commas_parts each xs)
commas_keys P each [] h = tt
commas_keys P each (x ∷ xs) h = keys_append P (each x) (more_parts each xs) h.0 (more_keys P each xs h.1)

keys_more : {A : Type 0} (P : NodeKey → Type 0) (each : A → List Part) (xs : List A) → AllKeys P (more_parts each xs) → Each (λ x. AllKeys P (each x)) xs
keys_more P each [] h = tt
keys_more P each (x ∷ xs) h = (keys_rest P (plain (codes ",")) (each x) (keys_front P (plain (codes ",") ++ each x) (more_parts each xs) h), keys_more P each xs (keys_rest P (plain (codes ",") ++ each x) (more_parts each xs) h))

keys_commas : {A : Type 0} (P : NodeKey → Type 0) (each : A → List Part) (xs : List A) → AllKeys P (commas_parts each xs) → Each (λ x. AllKeys P (each x)) xs
keys_commas P each [] h = tt
keys_commas P each (x ∷ xs) h = (keys_front P (each x) (more_parts each xs) h, keys_more P each xs (keys_rest P (each x) (more_parts each xs) h))

named_keys : (P : NodeKey → Type 0) (ns : List Named) (ts : List Target) → Each (Holds P) ts → Each (λ p. AllKeys P (prop_parts p)) (with_names ns ts)
named_keys P [] ts h = tt
named_keys P (n ∷ ns) [] h = tt
named_keys P (n ∷ ns) (t ∷ ts) h = (keys_append P (plain (string_text n.name) ++ plain (codes ":")) (slot_parts t) (keys-before P (string_text n.name) (plain (codes ":")) tt) h.0, named_keys P ns ts h.1)

keys_named : (P : NodeKey → Type 0) (ns : List Named) (ts : List Target) → length ts ≡ length ns → Each (λ p. AllKeys P (prop_parts p)) (with_names ns ts) → Each (Holds P) ts
keys_named P ns [] e h = tt
keys_named P [] (t ∷ ts) e h = absurd (omega (arith, e))
keys_named P (n ∷ ns) (t ∷ ts) e h = (keys_rest P (plain (string_text n.name) ++ plain (codes ":")) (slot_parts t) h.0, keys_named P ns ts (omega (arith, e)) h.1)

twos_keys : (P : NodeKey → Type 0) (ts : List Target) → Each (Holds P) ts → Each (λ p. AllKeys P (pair_parts p)) (in_twos ts)
twos_keys P [] h = tt
twos_keys P (k ∷ []) h = tt
twos_keys P (k ∷ v ∷ ts) h =
    let key = keys_then P (plain (codes "[") ++ slot_parts k) (codes ",") (keys-before P (codes "[") (slot_parts k) h.0) in
    (keys_then P (plain (codes "[") ++ slot_parts k ++ plain (codes ",") ++ slot_parts v) (codes "]") (keys_append P (plain (codes "[") ++ slot_parts k ++ plain (codes ",")) (slot_parts v) key h.1.0), twos_keys P ts h.1.1)

keys_twos : (P : NodeKey → Type 0) (ts : List Target) (m : ℕ) → length ts ≡ m + m → Each (λ p. AllKeys P (pair_parts p)) (in_twos ts) → Each (Holds P) ts
keys_twos P [] m e h = tt
keys_twos P (k ∷ []) m e h = absurd (omega (arith, e))
keys_twos P (k ∷ v ∷ ts) zero e h = absurd (omega (arith, e))
keys_twos P (k ∷ v ∷ ts) (suc m) e h =
    let both = keys_front P (plain (codes "[") ++ slot_parts k ++ plain (codes ",") ++ slot_parts v) (plain (codes "]")) h.0 in
    let key = keys_front P (plain (codes "[") ++ slot_parts k) (plain (codes ",")) (keys_front P (plain (codes "[") ++ slot_parts k ++ plain (codes ",")) (slot_parts v) both) in
    let value = keys_rest P (plain (codes "[") ++ slot_parts k ++ plain (codes ",")) (slot_parts v) both in
    (keys_rest P (plain (codes "[")) (slot_parts k) key, (value, keys_twos P ts m (omega (arith, e)) h.1))

bracket_keys : (P : NodeKey → Type 0) (left right : List ℕ) (p : List Part) → AllKeys P p → AllKeys P (plain left ++ p ++ plain right)
bracket_keys P left right p h = keys_then P (plain left ++ p) right (keys-before P left p h)

keys_bracket : (P : NodeKey → Type 0) (left right : List ℕ) (p : List Part) → AllKeys P (plain left ++ p ++ plain right) → AllKeys P p
keys_bracket P left right p h = keys_rest P (plain left) p (keys_front P (plain left ++ p) (plain right) h)

node_keys : (P : NodeKey → Type 0) (h : Head) (ts : List Target) → IsCount h (length ts) → Each (Holds P) ts → AllKeys P (node_parts h ts)
node_keys P head.Array ts c e = bracket_keys P (codes "array [") (codes "]") (commas_parts slot_parts ts) (commas_keys P slot_parts ts e)
node_keys P (head.Object named) ts c e = bracket_keys P (codes "object {") (codes "}") (commas_parts prop_parts (with_names named.now ts)) (commas_keys P prop_parts (with_names named.now ts) (named_keys P named.now ts e))
node_keys P head.Map ts c e = bracket_keys P (codes "map [") (codes "]") (commas_parts pair_parts (in_twos ts)) (commas_keys P pair_parts (in_twos ts) (twos_keys P ts e))
node_keys P head.Set ts c e = bracket_keys P (codes "set [") (codes "]") (commas_parts slot_parts ts) (commas_keys P slot_parts ts e)
node_keys P head.Element (x ∷ y ∷ z ∷ []) c e =
    let first = bracket_keys P (codes "element ") (codes " ") (slot_parts x) e.0 in
    let second = keys_then P (plain (codes "element ") ++ slot_parts x ++ plain (codes " ") ++ slot_parts y) (codes " ") (keys_append P (plain (codes "element ") ++ slot_parts x ++ plain (codes " ")) (slot_parts y) first e.1.0) in
    keys_append P (plain (codes "element ") ++ slot_parts x ++ plain (codes " ") ++ slot_parts y ++ plain (codes " ")) (slot_parts z) second e.1.1.0
node_keys P head.Promise (x ∷ []) c e = keys-before P (codes "promise ") (slot_parts x) e.0
node_keys P (head.Action id) (x ∷ []) c e =
    let name = keys_then P (plain (codes "action ") ++ plain (string_text id.now)) (codes " ") (keys-before P (codes "action ") (plain (string_text id.now)) (keys-plain P (string_text id.now))) in
    keys_append P (plain (codes "action ") ++ plain (string_text id.now) ++ plain (codes " ")) (slot_parts x) name e.0
node_keys P head.Element [] c e = absurd (omega (arith, c))
node_keys P head.Element (x ∷ []) c e = absurd (omega (arith, c))
node_keys P head.Element (x ∷ y ∷ []) c e = absurd (omega (arith, c))
node_keys P head.Element (x ∷ y ∷ z ∷ w ∷ ts) c e = absurd (omega (arith, c))
node_keys P head.Promise [] c e = absurd (omega (arith, c))
node_keys P head.Promise (x ∷ y ∷ ts) c e = absurd (omega (arith, c))
node_keys P (head.Action id) [] c e = absurd (omega (arith, c))
node_keys P (head.Action id) (x ∷ y ∷ ts) c e = absurd (omega (arith, c))

keys_node : (P : NodeKey → Type 0) (h : Head) (ts : List Target) → IsCount h (length ts) → AllKeys P (node_parts h ts) → Each (Holds P) ts
keys_node P head.Array ts c e = keys_commas P slot_parts ts (keys_bracket P (codes "array [") (codes "]") (commas_parts slot_parts ts) e)
keys_node P (head.Object named) ts c e = keys_named P named.now ts c (keys_commas P prop_parts (with_names named.now ts) (keys_bracket P (codes "object {") (codes "}") (commas_parts prop_parts (with_names named.now ts)) e))
keys_node P head.Map ts c e = keys_twos P ts c.0 c.1 (keys_commas P pair_parts (in_twos ts) (keys_bracket P (codes "map [") (codes "]") (commas_parts pair_parts (in_twos ts)) e))
keys_node P head.Set ts c e = keys_commas P slot_parts ts (keys_bracket P (codes "set [") (codes "]") (commas_parts slot_parts ts) e)
keys_node P head.Element (x ∷ y ∷ z ∷ []) c e =
    let fourth = keys_front P (plain (codes "element ") ++ slot_parts x ++ plain (codes " ") ++ slot_parts y ++ plain (codes " ")) (slot_parts z) e in
    let second = keys_front P (plain (codes "element ") ++ slot_parts x ++ plain (codes " ") ++ slot_parts y) (plain (codes " ")) fourth in
    let first = keys_front P (plain (codes "element ") ++ slot_parts x ++ plain (codes " ")) (slot_parts y) second in
    let third = keys_rest P (plain (codes "element ") ++ slot_parts x ++ plain (codes " ") ++ slot_parts y ++ plain (codes " ")) (slot_parts z) e in
    (keys_bracket P (codes "element ") (codes " ") (slot_parts x) first, (keys_rest P (plain (codes "element ") ++ slot_parts x ++ plain (codes " ")) (slot_parts y) second, (third, tt)))
keys_node P head.Promise (x ∷ []) c e = (keys_rest P (plain (codes "promise ")) (slot_parts x) e, tt)
keys_node P (head.Action id) (x ∷ []) c e = (keys_rest P (plain (codes "action ") ++ plain (string_text id.now) ++ plain (codes " ")) (slot_parts x) e, tt)
keys_node P head.Element [] c e = absurd (omega (arith, c))
keys_node P head.Element (x ∷ []) c e = absurd (omega (arith, c))
keys_node P head.Element (x ∷ y ∷ []) c e = absurd (omega (arith, c))
keys_node P head.Element (x ∷ y ∷ z ∷ w ∷ ts) c e = absurd (omega (arith, c))
keys_node P head.Promise [] c e = absurd (omega (arith, c))
keys_node P head.Promise (x ∷ y ∷ ts) c e = absurd (omega (arith, c))
keys_node P (head.Action id) [] c e = absurd (omega (arith, c))
keys_node P (head.Action id) (x ∷ y ∷ ts) c e = absurd (omega (arith, c))

line_keys : (P : NodeKey → Type 0) (i : ℕ) (h : Head) (ts : List Target) → IsCount h (length ts) → Each (Holds P) ts → AllKeys P (line_parts i h ts)
line_keys P i h ts c e =
    let number = keys-before P (number_text i) (plain (codes " ")) (keys-plain P (codes " ")) in
    keys_then P (plain (number_text i) ++ plain (codes " ") ++ node_parts h ts) (codes "\n") (keys_append P (plain (number_text i) ++ plain (codes " ")) (node_parts h ts) number (node_keys P h ts c e))

keys_line : (P : NodeKey → Type 0) (i : ℕ) (h : Head) (ts : List Target) → IsCount h (length ts) → AllKeys P (line_parts i h ts) → Each (Holds P) ts
keys_line P i h ts c e = keys_node P h ts c (keys_rest P (plain (number_text i) ++ plain (codes " ")) (node_parts h ts) (keys_front P (plain (number_text i) ++ plain (codes " ") ++ node_parts h ts) (plain (codes "\n")) e))

-- ---- what targets hold

target_key : (t : Table) (w : Written) (x : Target) → IsTable t → IsTargetOf t.rows.items w x → Holds (IsKey t.rows.items) x
target_key t w (target.Atom a) table h = keys-plain (IsKey t.rows.items) (atom_text a.now)
target_key t w (target.Node s) table h = (node_place t s w table h, tt)
target_key t w (target.Promise id) table h = (tt, tt)
target_key t w (target.Action id) table h = (tt, tt)
target_key t w (target.Awaits id) table h = tt
target_key t w target.Lost table h = tt

targets_keys : (t : Table) (ws : List Written) (xs : List Target) → IsTable t → AllZip (IsTargetOf t.rows.items) ws xs → Each (Holds (IsKey t.rows.items)) xs
targets_keys t [] [] table h = tt
targets_keys t (w ∷ ws) (x ∷ xs) table h = (target_key t w x table h.0, targets_keys t ws xs table h.1)
targets_keys t [] (x ∷ xs) table h = absurd h
targets_keys t (w ∷ ws) [] table h = absurd h

leads_numbered : (rows : List PlacedRow) (n : Numbers) (x : Target) → Holds (IsNumbered rows n) x → LeadsToNumber rows n x
leads_numbered rows n (target.Atom a) h = tt
leads_numbered rows n (target.Node s) h = h.0
leads_numbered rows n (target.Promise id) h = h.0
leads_numbered rows n (target.Action id) h = h.0
leads_numbered rows n (target.Awaits id) h = tt
leads_numbered rows n target.Lost h = tt

all_numbered : (rows : List PlacedRow) (n : Numbers) (xs : List Target) → Each (Holds (IsNumbered rows n)) xs → All (LeadsToNumber rows n) xs
all_numbered rows n [] h = all_none (LeadsToNumber rows n)
all_numbered rows n (x ∷ xs) h = all_cons (LeadsToNumber rows n) x xs (leads_numbered rows n x h.0) (all_numbered rows n xs h.1)

-- ---- lines

abbrev LaidKey : List PlacedRow → NodeKey → Head × List Target → Type 0
LaidKey rows key node = IsLaid rows key node.0 node.1

abbrev node_of : List PlacedRow → Numbers → Head × List Target → Node
node_of rows n node = node_with node.0 (slots_for rows n node.1)

lines_filled : (rows : List PlacedRow) (n : Numbers) (i : ℕ) (ks : List NodeKey) (nodes : List (Head × List Target)) → AllZip (LaidKey rows) ks nodes → fill (NumberText rows n) (lines_parts i nodes) ≡ lines_from i (map (node_of rows n) nodes)
lines_filled rows n i [] [] h = refl
lines_filled rows n i (k ∷ ks) (x ∷ xs) h =
    both (NumberText rows n) (line_parts i x.0 x.1) (lines_parts (i + 1) xs) (line_text i (node_of rows n x)) (lines_from (i + 1) (map (node_of rows n) xs))
    (line_filled rows n i x.0 x.1 h.0.count) (lines_filled rows n (i + 1) ks xs h.1)
lines_filled rows n i [] (x ∷ xs) h = absurd h
lines_filled rows n i (k ∷ ks) [] h = absurd h

lines_keys : (t : Table) (i : ℕ) (ks : List NodeKey) (nodes : List (Head × List Target)) → IsTable t → AllZip (LaidKey t.rows.items) ks nodes → AllKeys (IsKey t.rows.items) (lines_parts i nodes)
lines_keys t i [] [] table h = tt
lines_keys t i (k ∷ ks) (x ∷ xs) table h =
    keys_append (IsKey t.rows.items) (line_parts i x.0 x.1) (lines_parts (i + 1) xs)
    (line_keys (IsKey t.rows.items) i x.0 x.1 h.0.count (targets_keys t h.0.shape.slots x.1 table h.0.slots)) (lines_keys t (i + 1) ks xs table h.1)
lines_keys t i [] (x ∷ xs) table h = absurd h
lines_keys t i (k ∷ ks) [] table h = absurd h

lines_drawn : (t : Table) (n : Numbers) (i : ℕ) (ks : List NodeKey) (nodes : List (Head × List Target)) → IsTable t → AreNumbered t.rows.items n → AllZip (LaidKey t.rows.items) ks nodes → AllKeys (IsNumbered t.rows.items n) (lines_parts i nodes) → AllZip (DrawsKey t.rows.items n.keys.items) ks (map (node_of t.rows.items n) nodes)
lines_drawn t n i [] [] table are h num = tt
lines_drawn t n i (k ∷ ks) (x ∷ xs) table are h num = (
  node_drawn t n k x.0 x.1 table are h.0
      (all_numbered t.rows.items n x.1 (keys_line (IsNumbered t.rows.items n) i x.0 x.1 h.0.count (keys_front (IsNumbered t.rows.items n) (line_parts i x.0 x.1) (lines_parts (i + 1) xs) num))),
  lines_drawn t n (i + 1) ks xs table are h.1 (keys_rest (IsNumbered t.rows.items n) (line_parts i x.0 x.1) (lines_parts (i + 1) xs) num),
)
lines_drawn t n i [] (x ∷ xs) table are h num = absurd h
lines_drawn t n i (k ∷ ks) [] table are h num = absurd h

pub lines_parts_snoc : (i : ℕ) (xs : List (Head × List Target)) (x : Head × List Target) → lines_parts i (xs ++ x ∷ []) ≡ lines_parts i xs ++ line_parts (i + length xs) x.0 x.1
lines_parts_snoc i [] x = append-nil (line_parts i x.0 x.1) ∙ ap (λ k. line_parts k x.0 x.1) (omega arith)
lines_parts_snoc i (y ∷ xs) x =
    let count : i + 1 + length xs ≡ i + suc (length xs) = omega arith in
    ap (λ z. line_parts i y.0 y.1 ++ z) (lines_parts_snoc (i + 1) xs x)
    ∙ (sym (append_assoc (line_parts i y.0 y.1) (lines_parts (i + 1) xs) (line_parts (i + 1 + length xs) x.0 x.1))
    ∙ ap (λ k. lines_parts i (y ∷ xs) ++ line_parts k x.0 x.1) count)

-- ---- the whole

pub draft_keys : (t : Table) (keys : List NodeKey) (draft : List Part) → IsTable t → IsDrafted t.rows.items keys draft → AllKeys (IsKey t.rows.items) draft
draft_keys t keys draft table d =
    let P = IsKey t.rows.items in
    let line = bracket_keys P (codes "root ") (codes "\n") (slot_parts d.root) (target_key t (value_of 0) d.root table d.leads) in
    subst (AllKeys P) (sym d.is_draft) (keys_append P (plain (codes "root ") ++ slot_parts d.root ++ plain (codes "\n")) (lines_parts 0 d.nodes) line (lines_keys t 0 keys d.nodes table d.laid))

pub filled_under : (t : Table) (n : Numbers) (draft : List Part) (text : List ℕ) → IsTable t → AreNumbered t.rows.items n → length n.keys.items < 2 ^ 32 → IsDrafted t.rows.items n.keys.items draft → IsFilled t.rows.items n draft text → IsTextUnder t.rows.items n.keys.items text
filled_under t n draft text table are few d filled =
    let rows = t.rows.items in
    let f = NumberText rows n in
    let P = IsNumbered rows n in
    let num : AllKeys P (plain (codes "root ") ++ slot_parts d.root ++ plain (codes "\n") ++ lines_parts 0 d.nodes) = subst (AllKeys P) d.is_draft filled.0 in
    let num_line = keys_front P (plain (codes "root ") ++ slot_parts d.root ++ plain (codes "\n")) (lines_parts 0 d.nodes) num in
    let num_lines : AllKeys P (lines_parts 0 d.nodes) = keys_rest P (plain (codes "root ") ++ slot_parts d.root ++ plain (codes "\n")) (lines_parts 0 d.nodes) num in
    let leads : LeadsToNumber rows n d.root = leads_numbered rows n d.root (keys_bracket P (codes "root ") (codes "\n") (slot_parts d.root) num_line) in
    let nodes : List Node = map (node_of rows n) d.nodes in
    let drawn : AllZip (DrawsKey rows n.keys.items) n.keys.items nodes = lines_drawn t n 0 n.keys.items d.nodes table are d.laid num_lines in
    let long : length n.keys.items ≡ length nodes = zip_long (DrawsKey rows n.keys.items) n.keys.items nodes drawn in
    let root : List ℕ = slot_text (slot_of rows n d.root) in
    let whole : fill f (plain (codes "root ") ++ slot_parts d.root ++ plain (codes "\n") ++ lines_parts 0 d.nodes) ≡ codes "root " ++ root ++ codes "\n" ++ lines_from 0 nodes =
    both f (plain (codes "root ") ++ slot_parts d.root ++ plain (codes "\n")) (lines_parts 0 d.nodes) (codes "root " ++ root ++ codes "\n") (lines_from 0 nodes)
    (within f (codes "root ") (codes "\n") (slot_parts d.root) root (slot_filled rows n d.root)) (lines_filled rows n 0 n.keys.items d.nodes d.laid) in
    record {
      root = slot_of rows n d.root;
      nodes = nodes;
      leads = slot_drawn t n d.root (value_of 0) table are leads d.leads;
      drawn = record {
        each = λ i x e. key_at rows n.keys.items n.keys.items nodes i x drawn e;
        all = omega (arith, long);
      };
      long = sym long;
      few = below_top (length n.keys.items) (length nodes) (2 ^ 32) long few;
      is_text = filled.1 ∙ (ap (fill f) d.is_draft ∙ whole);
    }

-- ---- on the way

pub draft_begun : (rows : List PlacedRow) (root : Target) (old new : List Part) → IsTargetOf rows (value_of 0) root → old ≡ [] → new ≡ old ++ plain (codes "root ") ++ slot_parts root ++ plain (codes "\n") → IsDrafted rows [] new
draft_begun rows root old new leads empty e = record {
  root = root;
  leads = leads;
  nodes = [];
  laid = tt;
  is_draft = e ∙ (ap (λ (x : List Part). x ++ plain (codes "root ") ++ slot_parts root ++ plain (codes "\n")) empty ∙ sym (append-nil (plain (codes "root ") ++ slot_parts root ++ plain (codes "\n"))));
}

pub draft_more : (rows : List PlacedRow) (keys new : List NodeKey) (key : NodeKey) (d d' : List Part) → IsDrafted rows keys d → new ≡ keys ++ key ∷ [] → DraftsNode rows key (length keys) d d' → IsDrafted rows new d'
draft_more rows keys new key d d' drafted more x =
    let node : Head × List Target = (x.head, x.targets) in
    let nodes : List (Head × List Target) = drafted.nodes ++ node ∷ [] in
    let long : length keys ≡ length drafted.nodes = zip_long (LaidKey rows) keys drafted.nodes drafted.laid in
    let line : List Part = line_parts (length keys) x.head x.targets in
    let lines : lines_parts 0 drafted.nodes ++ line ≡ lines_parts 0 nodes = ap (λ k. lines_parts 0 drafted.nodes ++ line_parts k x.head x.targets) (omega (arith, long)) ∙ sym (lines_parts_snoc 0 drafted.nodes node) in
    record {
      root = drafted.root;
      leads = drafted.leads;
      nodes = nodes;
      laid = subst (λ ks. AllZip (LaidKey rows) ks nodes) (sym more) (zip_push (LaidKey rows) keys drafted.nodes key node drafted.laid x.is_laid);
      is_draft =
          x.line
          ∙ (ap (λ (y : List Part). y ++ line) drafted.is_draft
          ∙ (append_assoc (plain (codes "root ") ++ slot_parts drafted.root ++ plain (codes "\n")) (lines_parts 0 drafted.nodes) line
          ∙ ap (λ (y : List Part). plain (codes "root ") ++ slot_parts drafted.root ++ plain (codes "\n") ++ y) lines));
    }
