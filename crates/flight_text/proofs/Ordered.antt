-- The members of an object that was read ascend by their names.
use Rattle.std.proofs.Common.{◌≡◌, ℕ, List, [], ◌∷◌, refl, ◌∙◌, ap}
use Rattle.std.specs.Prelude.{Option, Some, None, option_map, option_and_then}
use Rattle.std.specs.declared.cmp.Ordering.{Ordering}
use Rattle.std.specs.declared.cmp.Ordering.TheVariants.{Less, Equal, Greater}
use Rattle.std.specs.Ordering.{nat_cmp, match_ordering, ordering_reverse}
use Rattle.std.specs.Cmp.Lexicographic.{slice_cmp}
use Rattle.std.specs.List.Sorted.{IsStrictlySortedBy}
use Rattle.std.proofs.lemmas.Cmp.{nat_list_cmp_total}
use Rattle.json.specs.Json as json
use Rattle.json.specs.Lex.{tokens}
use Rattle.serde_json.specs.Data.{Data, null, boolean, number, string, array, object, Items, no_items, item, Members, no_members, member, put}
use Rattle.serde_json.specs.Read.{read, max_depth, of_json, of_items, of_members, number_of}
use Rattle.flight_value.specs.Graph.{Ascend}
pub use Rattle.flight_text.specs.Ordered.{names, Below, OrderedMembers}

-- ---- members in order

below-trans : (k l : List ℕ) (ks : List (List ℕ)) → slice_cmp nat_cmp k l ≡ Less → Below l ks → Below k ks
below-trans k l [] e h = tt
below-trans k l (x ∷ ks) e h = (nat_list_cmp_total.trans k l x e h.0, below-trans k l ks e h.1)

below-put_at : (o : Ordering) (l k m : List ℕ) (d e : Data) (ms : Members) → slice_cmp nat_cmp l k ≡ Less → Below l (m ∷ names ms) → Below l (names (put k d ms))
    → Below l (names (match_ordering o (member k d (member m e ms)) (member m d ms) (member m e (put k d ms))))
below-put_at Less l k m d e ms less h r = (less, h)
below-put_at Equal l k m d e ms less h r = h
below-put_at Greater l k m d e ms less h r = (h.0, r)

below-put : (l k : List ℕ) (d : Data) (ms : Members) → slice_cmp nat_cmp l k ≡ Less → Below l (names ms) → Below l (names (put k d ms))
below-put l k d no_members less h = (less, tt)
below-put l k d (member m e ms) less h = below-put_at (slice_cmp nat_cmp k m) l k m d e ms less h (below-put l k d ms less h.1)

put-ordered_at : (o : Ordering) (k m : List ℕ) (d e : Data) (ms : Members) → slice_cmp nat_cmp k m ≡ o → OrderedMembers (member m e ms) → OrderedMembers (put k d ms)
    → OrderedMembers (match_ordering o (member k d (member m e ms)) (member m d ms) (member m e (put k d ms)))
put-ordered_at Less k m d e ms is h r = ((is, below-trans k m (names ms) is h.0), h)
put-ordered_at Equal k m d e ms is h r = h
put-ordered_at Greater k m d e ms is h r =
    let less : slice_cmp nat_cmp m k ≡ Less = nat_list_cmp_total.antisymm m k ∙ ap ordering_reverse is in
    (below-put m k d ms less h.0, r)

pub put-ordered : (k : List ℕ) (d : Data) (ms : Members) → OrderedMembers ms → OrderedMembers (put k d ms)
put-ordered k d no_members h = (tt, tt)
put-ordered k d (member m e ms) h = put-ordered_at (slice_cmp nat_cmp k m) k m d e ms refl h (put-ordered k d ms h.1)

-- ---- values whose objects are in order

abbrev mutual
  pub Ordered : Data → Type 0
  Ordered null = Unit {0}
  Ordered (boolean b) = Unit {0}
  Ordered (number x) = Unit {0}
  Ordered (string s) = Unit {0}
  Ordered (array ds) = AllOrdered ds
  Ordered (object ms) = OrderedMembers ms × EachOrdered ms

  pub AllOrdered : Items → Type 0
  AllOrdered no_items = Unit {0}
  AllOrdered (item d ds) = Ordered d × AllOrdered ds

  pub EachOrdered : Members → Type 0
  EachOrdered no_members = Unit {0}
  EachOrdered (member name d ms) = Ordered d × EachOrdered ms

put-each_at : (o : Ordering) (k m : List ℕ) (d e : Data) (ms : Members) → Ordered d → EachOrdered (member m e ms) → EachOrdered (put k d ms)
    → EachOrdered (match_ordering o (member k d (member m e ms)) (member m d ms) (member m e (put k d ms)))
put-each_at Less k m d e ms w h r = (w, h)
put-each_at Equal k m d e ms w h r = (w, h.1)
put-each_at Greater k m d e ms w h r = (h.0, r)

put-each : (k : List ℕ) (d : Data) (ms : Members) → Ordered d → EachOrdered ms → EachOrdered (put k d ms)
put-each k d no_members w h = (w, tt)
put-each k d (member m e ms) w h = put-each_at (slice_cmp nat_cmp k m) k m d e ms w h (put-each k d ms w h.1)

-- ---- what is read is in order

abbrev pub If : {A : Type 0} → (A → Type 0) → Option A → Type 0
If P None = Unit {0}
If P (Some x) = P x

if-map : {A B : Type 0} (P : A → Type 0) (Q : B → Type 0) (f : A → B) (o : Option A) → ((x : A) → P x → Q (f x)) → If P o → If Q (option_map f o)
if-map P Q f None g h = tt
if-map P Q f (Some x) g h = g x h

if-then : {A B : Type 0} (P : A → Type 0) (Q : B → Type 0) (f : A → Option B) (o : Option A) → ((x : A) → P x → If Q (f x)) → If P o → If Q (option_and_then f o)
if-then P Q f None g h = tt
if-then P Q f (Some x) g h = g x h

if-any : {A : Type 0} (o : Option A) → If (λ x. Unit {0}) o
if-any None = tt
if-any (Some x) = tt

abbrev InOrder : Members → Type 0
InOrder ms = OrderedMembers ms × EachOrdered ms

mutual
  json-ordered : (j : json.Json) → If Ordered (of_json j)
  json-ordered json.null = tt
  json-ordered (json.boolean b) = tt
  json-ordered (json.number s) = if-map (λ x. Unit {0}) Ordered number (number_of s) (λ x u. tt) (if-any (number_of s))
  json-ordered (json.string s) = tt
  json-ordered (json.array js) = if-map AllOrdered Ordered array (of_items js) (λ x h. h) (items-ordered js)
  json-ordered (json.object ms) = if-map InOrder Ordered object (of_members ms no_members) (λ x h. h) (members-ordered ms no_members (tt, tt))

  items-ordered : (js : json.Items) → If AllOrdered (of_items js)
  items-ordered json.no_items = tt
  items-ordered (json.item j js) =
      if-then Ordered AllOrdered (λ d. option_map (item d) (of_items js)) (of_json j) (λ d w. if-map AllOrdered AllOrdered (item d) (of_items js) (λ ds h. (w, h)) (items-ordered js)) (json-ordered j)

  members-ordered : (ms : json.Members) (found : Members) → InOrder found → If InOrder (of_members ms found)
  members-ordered json.no_members found h = h
  members-ordered (json.member k j ms) found h =
      if-then Ordered InOrder (λ d. of_members ms (put k d found)) (of_json j) (λ d w. members-ordered ms (put k d found) (put-ordered k d found h.0, put-each k d found w h.1)) (json-ordered j)

parsed-ordered : (o : Option json.Json) → If Ordered (option_and_then of_json o)
parsed-ordered None = tt
parsed-ordered (Some j) = json-ordered j

pub read-ordered : (text : List ℕ) → If Ordered (read text)
read-ordered text = parsed-ordered (option_and_then (λ p. json.if_last p.0 p.1) (json.value max_depth (tokens text)))

pub ascend : (ms : Members) → OrderedMembers ms → Ascend (names ms)
unfolding IsStrictlySortedBy
ascend no_members h = tt
ascend (member name d ms) h = (h.0, ascend ms h.1)
