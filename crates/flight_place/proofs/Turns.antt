-- What the grammar's loops give as data, a turn at a time.
use Rattle.std.proofs.Common.{◌≡◌, ℕ, zero, suc, ◌-◌, ◌<◌, ◌≤◌, List, length, Option, Some, None, option_map, option_and_then, refl, ap, ◌∙◌}
use Rattle.json.specs.Token.{Token}
use Rattle.json.specs.Json as json
use Rattle.json.specs.Json.{Parse, parse_map, after_end_array, read_key, items_step, items, members}
use Rattle.json.proofs.Grammar.{items_end, items_more, members_end, members_no_key, members_more}
use Rattle.serde_json.specs.Data.{Data, array, object, no_items, item, Members, no_members, put}
use Rattle.serde_json.specs.Read.{of_json, of_items, of_members, converted}

-- the data of members, with those that were put in before
abbrev pub onto : Members → json.Members → Option Members
onto old ms = of_members ms old

-- ---- what was read, and its data

abbrev paired : {B : Type 0} → List Token → Option B → Option (B × List Token)
paired r x = option_map (λ b. (b, r)) x

abbrev or : {A : Type 0} → A → Option A → A
or a None = a
or a (Some b) = b

unpaired : {B : Type 0} (r s : List Token) (x : Option B) (b : B) → paired r x ≡ Some (b, s) → (r ≡ s) × (x ≡ Some b)
unpaired r s None b e = absurd (cc)
unpaired r s (Some y) b e = let same = ap (or (y, r)) e in (ap (λ p. p.1) same, ap (λ p. Some p.0) same)

has-data : {A B : Type 0} (f : A → Option B) (o : Option (A × List Token)) (b : B) (r : List Token) → converted f o ≡ Some (b, r) → (a : A) × (o ≡ Some (a, r)) × (f a ≡ Some b)
has-data f None b r e = absurd (cc)
has-data f (Some p) b r e = let both = unpaired p.1 r (f p.0) b e in (p.0, ap (λ s. Some (p.0, s)) both.0, both.1)

no-data : {B : Type 0} (r : List Token) (x : Option B) → paired r x ≡ None → x ≡ None
no-data r None e = refl
no-data r (Some y) e = absurd (cc)

mapped : {A B : Type 0} (g : A → B) (r : List Token) (x : Option A) → paired r (option_map g x) ≡ parse_map g (paired r x)
mapped g r None = refl
mapped g r (Some a) = refl

pub array-data : (o : Option (json.Items × List Token)) → converted of_json (parse_map json.array o) ≡ parse_map array (converted of_items o)
array-data None = refl
array-data (Some p) = mapped array p.1 (of_items p.0)

pub object-data : (o : Option (json.Members × List Token)) → converted of_json (parse_map json.object o) ≡ parse_map object (converted (onto no_members) o)
object-data None = refl
object-data (Some p) = mapped object p.1 (onto no_members p.0)

-- ---- items

item-data : (j : json.Json) (d : Data) → of_json j ≡ Some d → (o : Option (json.Items × List Token)) → converted of_items (parse_map (json.item j) o) ≡ parse_map (item d) (converted of_items o)
item-data j d e None = refl
item-data j d e (Some p) = rw e (mapped (item d) p.1 (of_items p.0))

item-no-data : (j : json.Json) → of_json j ≡ None → (o : Option (json.Items × List Token)) → converted of_items (parse_map (json.item j) o) ≡ None
item-no-data j e None = refl
item-no-data j e (Some p) = rw e

pub items-turn : (p : Parse json.Json) (n : ℕ) (ts r : List Token) (d : Data) → 0 < n → after_end_array ts ≡ None → converted of_json (p ts) ≡ Some (d, r)
    → converted of_items (items p n ts) ≡ parse_map (item d) (converted of_items (items p (n - 1) r))
items-turn p n ts r d some going e =
    let h = has-data of_json (p ts) d r e in
    ap (converted of_items) (items_more p n ts r h.0 some going h.1) ∙ item-data h.0 d h.2 (items p (n - 1) r)

step-no-data : (more : Parse json.Items) (o : Option (json.Json × List Token)) → converted of_json o ≡ None → converted of_items (option_and_then (λ q. parse_map (json.item q.0) (more q.1)) o) ≡ None
step-no-data more None e = refl
step-no-data more (Some q) e = item-no-data q.0 (no-data q.1 (of_json q.0) e) (more q.1)

pub items-no-data : (p : Parse json.Json) (n : ℕ) (ts : List Token) → after_end_array ts ≡ None → converted of_json (p ts) ≡ None → converted of_items (items p n ts) ≡ None
unfolding items
items-no-data p zero ts going e = refl
items-no-data p (suc n) ts going e = ap (λ o. converted of_items (items_step p (items p n) ts o)) going ∙ step-no-data (items p n) (p ts) e

pub items-over : (p : Parse json.Json) (n : ℕ) (ts r : List Token) → length ts ≤ n → after_end_array ts ≡ Some r → converted of_items (items p n ts) ≡ Some (no_items, r)
items-over p n ts r enough e = ap (converted of_items) (items_end p n ts r enough e)

-- ---- members

member-data : (k : List ℕ) (j : json.Json) (d : Data) (old : Members) → of_json j ≡ Some d → (o : Option (json.Members × List Token)) → converted (onto old) (parse_map (json.member k j) o) ≡ converted (onto (put k d old)) o
member-data k j d old e None = refl
member-data k j d old e (Some p) = rw e

member-no-data : (k : List ℕ) (j : json.Json) (old : Members) → of_json j ≡ None → (o : Option (json.Members × List Token)) → converted (onto old) (parse_map (json.member k j) o) ≡ None
member-no-data k j old e None = refl
member-no-data k j old e (Some p) = rw e

pub members-turn : (p : Parse json.Json) (old : Members) (n : ℕ) (k : List ℕ) (ts s r : List Token) (d : Data) → 0 < n → read_key ts ≡ Some (Some k, s) → converted of_json (p s) ≡ Some (d, r)
    → converted (onto old) (members p n ts) ≡ converted (onto (put k d old)) (members p (n - 1) r)
members-turn p old n k ts s r d some key e =
    let h = has-data of_json (p s) d r e in
    ap (converted (onto old)) (members_more p n k ts s r h.0 some key h.1) ∙ member-data k h.0 d old h.2 (members p (n - 1) r)

key-no-data : (old : Members) (k : List ℕ) (more : Parse json.Members) (o : Option (json.Json × List Token)) → converted of_json o ≡ None → converted (onto old) (option_and_then (λ q. parse_map (json.member k q.0) (more q.1)) o) ≡ None
key-no-data old k more None e = refl
key-no-data old k more (Some q) e = member-no-data k q.0 old (no-data q.1 (of_json q.0) e) (more q.1)

pub members-no-data : (p : Parse json.Json) (old : Members) (n : ℕ) (k : List ℕ) (ts s : List Token) → read_key ts ≡ Some (Some k, s) → converted of_json (p s) ≡ None → converted (onto old) (members p n ts) ≡ None
unfolding members
members-no-data p old zero k ts s key e = refl
members-no-data p old (suc n) k ts s key e = rw key (key-no-data old k (members p n) (p s) e)

pub members-no-key : (p : Parse json.Json) (old : Members) (n : ℕ) (ts : List Token) → read_key ts ≡ None → converted (onto old) (members p n ts) ≡ None
members-no-key p old n ts e = ap (converted (onto old)) (members_no_key p n ts e)

pub members-over : (p : Parse json.Json) (old : Members) (n : ℕ) (ts r : List Token) → length ts ≤ n → read_key ts ≡ Some (None, r) → converted (onto old) (members p n ts) ≡ Some (old, r)
members-over p old n ts r enough e = ap (converted (onto old)) (members_end p n ts r enough e)
