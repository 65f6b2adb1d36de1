-- Places of items that are read one by one.
use Rattle.std.proofs.Common.{◌≡◌, ℕ, zero, suc, ◌+◌, ◌-◌, ◌<◌, List, [], ◌∷◌, ◌++◌, length, Option, Some, None, option_map, option_and_then, refl, sym, ap, subst, ◌∙◌, arith, append-nil, true, false, slice_set, length-append, length-set, Result, Ok, Err, IfErr}
use Rattle.std.proofs.lemmas.Bool.{false≢true}
use Rattle.json.specs.Token as token
use Rattle.json.proofs.Grammar.{value_is}
use Rattle.json.specs.Token.{Token}
use Rattle.json.specs.Json as json
use Rattle.json.specs.Json.{Parse, parse_map, after_end_array, items, value, value_with}
use Rattle.serde_json.specs.Data.{Num, Data, number, string, array, object, Items, no_items, item, Members, no_members}
use Rattle.serde_json.specs.Read.{of_json, of_items, of_members, number_of, converted}
use Rattle.flight_meaning.specs.declared.place.Place.{Place}
use Rattle.flight_place.specs.declared.manner.Manner.{Manner}
use Rattle.flight_place.specs.declared.fault.PlaceFault.{PlaceFault}
use Rattle.flight_place.specs.declared.fault.PlaceFault.TheVariants as fault
use Rattle.flight_meaning.specs.declared.place.Place.TheVariants as place
use Rattle.flight_place.specs.declared.reading.Unread.{Unread}
use Rattle.flight_place.specs.declared.reading.Unread.TheVariants as unread
use Rattle.flight_place.specs.declared.placing.Stop.{Stop}
use Rattle.flight_place.specs.declared.placing.Stop.TheVariants as stop
use Rattle.flight_place.specs.Tokens.{is_dollar}
use Rattle.flight_place.specs.Places.{Visit, is_mark, is_marked, visits, count, array_visits, item_visits, item_count, item_numbers, IsFirstFault}
use Rattle.flight_place.specs.Faults.{Refuses, Adds}
use Rattle.flight_place.specs.Placing.{Brings, BringsItems, Stops, StopsAt, stop_at, stop_unread, is_mark_token, is_array_token}
use Rattle.flight_place.proofs.Adding.{Leads, leads-start, leads-end, adds-parts, refuses-behind}
use Rattle.flight_place.proofs.Walks.{items-on, items-refuse, parts-on}
use Rattle.flight_place.proofs.Turns.{items-turn, items-no-data}

abbrev or : {A : Type 0} → A → Option A → A
or a None = a
or a (Some b) = b

same-data : {A : Type 0} (a b : A) (r s : List Token) → ◌≡◌ {A = Option (A × List Token)} (Some (a, r)) (Some (b, s)) → a ≡ b
same-data {A} a b r s e = ap (λ (o : Option (A × List Token)). (or {A = A × List Token} (a, r) o).0) e

-- a value that was read, and then refused, is refused
pub stops-at : {A : Type 0} (manner : Manner) (visited : A → List Visit) (seen : Option (A × List Token)) (a : A) (r : List Token) (e : PlaceFault) → seen ≡ Some (a, r) → Refuses manner (visited a) e → Stops manner visited seen (stop_at e)
stops-at manner visited seen a r (fault.Fault kind) is f = λ b rest is_b. subst (λ d. IsFirstFault manner (visited d) kind) (same-data a b r rest (sym is ∙ is_b)) f
stops-at manner visited seen a r fault.Memory is f = tt

-- ---- items in front of others

abbrev pub front : List Data → Items → Items
front [] rest = rest
front (d ∷ ds) rest = item d (front ds rest)

front-push : (ds : List Data) (d : Data) (rest : Items) → front ds (item d rest) ≡ front (ds ++ d ∷ []) rest
front-push [] d rest = refl
front-push (e ∷ ds) d rest = ap (item e) (front-push ds d rest)

front-one_more : (ds : List Data) (d : Data) (r : Option (Items × List Token)) → parse_map (front ds) (parse_map (item d) r) ≡ parse_map (front (ds ++ d ∷ [])) r
front-one_more ds d None = refl
front-one_more ds d (Some r) = ap (λ xs. Some (xs, r.1)) (front-push ds d r.0)

front-none : (r : Option (Items × List Token)) → r ≡ parse_map (front []) r
front-none None = refl
front-none (Some r) = refl

-- ---- the places so far, and what is still to be read

pub record Awaits (manner : Manner) (start now : List Place) (numbers : List ℕ) (whole rest : Option (Items × List Token)) : Type 0 where
  pub done : List Data
  pub whole_is : whole ≡ parse_map (front done) rest
  pub leads : (ds : Items) → Leads manner start (item_visits manner (length start) (front done ds)) now (item_visits manner (length now) ds)
  pub count_is : (ds : Items) → length now + item_count ds ≡ length start + item_count (front done ds)
  pub numbers_are : (ds : Items) → numbers ++ item_numbers (length now) ds ≡ item_numbers (length start) (front done ds)

pub awaits-start : (manner : Manner) (start : List Place) (numbers : List ℕ) (whole : Option (Items × List Token)) → numbers ≡ [] → Awaits manner start start numbers whole whole
awaits-start manner start numbers whole none = record {
  done = [];
  whole_is = front-none whole;
  leads = λ ds. leads-start manner start (item_visits manner (length start) ds);
  count_is = λ ds. refl;
  numbers_are = λ ds. ap (λ ns. ns ++ item_numbers (length start) ds) none;
}

pub awaits-on : (manner : Manner) (start now next : List Place) (numbers pushed : List ℕ) (whole rest more : Option (Items × List Token)) (d : Data) (k : ℕ)
    → Awaits manner start now numbers whole rest → rest ≡ parse_map (item d) more → Adds manner now next (visits manner (length now) d) → length next ≡ length now + count d → pushed ≡ numbers ++ k ∷ [] → k ≡ length now
    → Awaits manner start next pushed whole more
awaits-on manner start now next numbers pushed whole rest more d k a is adds len is_pushed is_k = record {
  done = a.done ++ d ∷ [];
  whole_is = a.whole_is ∙ (ap (parse_map (front a.done)) is ∙ front-one_more a.done d more);
  leads = λ ds. subst (λ xs. Leads manner start (item_visits manner (length start) xs) next (item_visits manner (length next) ds)) (front-push a.done d ds)
      (items-on manner start now next (item_visits manner (length start) (front a.done (item d ds))) d ds (a.leads (item d ds)) adds len);
  count_is = λ ds. subst (λ xs. length next + item_count ds ≡ length start + item_count xs) (front-push a.done d ds) (let before = a.count_is (item d ds) in omega (arith, before, len));
  numbers_are = λ ds. subst (λ xs. pushed ++ item_numbers (length next) ds ≡ item_numbers (length start) xs) (front-push a.done d ds)
      (parts-on numbers pushed (item_numbers (length start) (front a.done (item d ds))) (length now) k (λ n. item_numbers n ds) (length now + count d) (length next) (a.numbers_are (item d ds)) is_pushed is_k len);
}

pub awaits-end : (manner : Manner) (start now : List Place) (numbers : List ℕ) (whole rest : Option (Items × List Token)) (r : List Token) → Awaits manner start now numbers whole rest → rest ≡ Some (no_items, r) → BringsItems manner start now whole r numbers
awaits-end manner start now numbers whole rest r a is = record {
  items = front a.done no_items;
  is_read = a.whole_is ∙ ap (parse_map (front a.done)) is;
  adds = leads-end manner start now (item_visits manner (length start) (front a.done no_items)) (a.leads no_items);
  count = (let all = a.count_is no_items in omega (arith, all));
  are_numbers = sym (append-nil numbers) ∙ a.numbers_are no_items;
}

-- ---- where items stop

with-map : {A B : Type 0} (f : A → B) (o : Option (A × List Token)) (b : B) (r : List Token) → parse_map f o ≡ Some (b, r) → (a : A) × (o ≡ Some (a, r)) × (f a ≡ b)
with-map f None b r e = absurd (cc)
with-map {A} {B} f (Some p) b r e =
    let given : Option (B × List Token) → B × List Token = λ o. or (f p.0, p.1) o in
    let back : Option (B × List Token) → Option (A × List Token) = λ o. Some (p.0, (given o).1) in
    (p.0, ap back e, ap (λ o. (given o).0) e)

-- items that do not end begin with one
begun : (p : Parse json.Json) (turns : ℕ) (ts : List Token) (o : Option (Data × List Token)) (ds : Items) (r : List Token) → converted of_json (p ts) ≡ o → after_end_array ts ≡ None → converted of_items (items p turns ts) ≡ Some (ds, r)
    → (d : Data) × (s : List Token) × (rest : Items) × (converted of_json (p ts) ≡ Some (d, s)) × (item d rest ≡ ds)
unfolding items
begun p turns ts None ds r is going e = absurd (let none = items-no-data p turns ts going is in cc)
begun p zero ts (Some q) ds r is going e = absurd (cc)
begun p (suc turns) ts (Some q) ds r is going e =
    let some : 0 < suc turns = omega arith in
    let turn = items-turn p (suc turns) ts q.1 q.0 some going is in
    let rest = with-map (item q.0) (converted of_items (items p (suc turns - 1) q.1)) ds r (sym turn ∙ e) in
    (q.0, q.1, rest.0, is, rest.2)

pub awaits-stops : (manner : Manner) (start now : List Place) (numbers : List ℕ) (whole : Option (Items × List Token)) (p : Parse json.Json) (turns : ℕ) (ts : List Token) (e : Stop)
    → Awaits manner start now numbers whole (converted of_items (items p turns ts)) → after_end_array ts ≡ None → Stops manner (visits manner (length now)) (converted of_json (p ts)) e → Stops manner (item_visits manner (length start)) whole e
awaits-stops manner start now numbers whole p turns ts stop.NoJson a going f = a.whole_is ∙ ap (parse_map (front a.done)) (items-no-data p turns ts going f)
awaits-stops manner start now numbers whole p turns ts (stop.Fault kind) a going f = λ all r is_all.
    let inner = with-map (front a.done) (converted of_items (items p turns ts)) all r (sym a.whole_is ∙ is_all) in
    let first = begun p turns ts (converted of_json (p ts)) inner.0 r refl going inner.1 in
    let same : front a.done (item first.0 first.2) ≡ all = ap (front a.done) first.4 ∙ inner.2 in
    subst (λ xs. IsFirstFault manner (item_visits manner (length start) xs) kind) same
    (items-refuse manner start now (item_visits manner (length start) (front a.done (item first.0 first.2))) first.0 first.2 (fault.Fault kind) (a.leads (item first.0 first.2)) (f first.0 first.1 first.3))
awaits-stops manner start now numbers whole p turns ts stop.Memory a going f = tt

pub stops-unread : {A X : Type 0} (manner : Manner) (visited : A → List Visit) (seen : Option (A × List Token)) (u : Unread) (r : Result X Unread) → r ≡ Err u → (r ≡ Err unread.NoJson → seen ≡ None) → Stops manner visited seen (stop_unread u)
stops-unread manner visited seen unread.NoJson r is none = none is
stops-unread manner visited seen unread.Memory r is none = tt

-- ---- an array among values

pub brings-array : (manner : Manner) (old new : List Place) (seen : Option (Items × List Token)) (whole : Option (Data × List Token)) (r : List Token) → whole ≡ parse_map array seen
    → Brings manner (λ ds. visits manner (length old) (array ds)) (λ ds. 1 + item_count ds) old new seen r → Brings manner (visits manner (length old)) count old new whole r
brings-array manner old new seen whole r is b = record { what = array b.what; is_read = is ∙ ap (parse_map array) b.is_read; adds = b.adds; count = b.count }

pub stops-array : (manner : Manner) (n : ℕ) (seen : Option (Items × List Token)) (whole : Option (Data × List Token)) (e : Stop) → whole ≡ parse_map array seen
    → Stops manner (λ ds. visits manner n (array ds)) seen e → Stops manner (visits manner n) whole e
stops-array manner n seen whole stop.NoJson is f = is ∙ ap (parse_map array) f
stops-array manner n seen whole (stop.Fault kind) is f = λ d r is_d.
    let inner = with-map array seen d r (sym is ∙ is_d) in
    subst (λ x. IsFirstFault manner (visits manner n x) kind) inner.2 (f inner.0 r inner.1)
stops-array manner n seen whole stop.Memory is f = tt

-- ---- the first item

is-dollar : (s : List ℕ) → is_dollar s ≡ true → s ≡ 36 ∷ []
is-dollar [] h = absurd (false≢true h)
is-dollar (b ∷ []) h = (let is : b ≡ 36 = grind (arith, h) in ap (λ x. x ∷ []) is)
is-dollar (b ∷ c ∷ s) h = absurd (false≢true h)

pub is-mark : (t : Token) → is_mark_token t ≡ true → t ≡ token.string (36 ∷ [])
is-mark token.begin_object h = absurd (false≢true h)
is-mark token.end_object h = absurd (false≢true h)
is-mark token.begin_array h = absurd (false≢true h)
is-mark token.end_array h = absurd (false≢true h)
is-mark (token.key s) h = absurd (false≢true h)
is-mark (token.string s) h = ap token.string (is-dollar s h)
is-mark (token.number s) h = absurd (false≢true h)
is-mark (token.boolean b) h = absurd (false≢true h)
is-mark token.null h = absurd (false≢true h)
is-mark token.bad h = absurd (false≢true h)

pub is-array : (t : Token) → is_array_token t ≡ true → t ≡ token.begin_array
is-array token.begin_object h = absurd (false≢true h)
is-array token.end_object h = absurd (false≢true h)
is-array token.begin_array h = refl
is-array token.end_array h = absurd (false≢true h)
is-array (token.key s) h = absurd (false≢true h)
is-array (token.string s) h = absurd (false≢true h)
is-array (token.number s) h = absurd (false≢true h)
is-array (token.boolean b) h = absurd (false≢true h)
is-array token.null h = absurd (false≢true h)
is-array token.bad h = absurd (false≢true h)

-- the data that a read gives has no mark
abbrev Unmarked : Option (Data × List Token) → Type 0
Unmarked None = Unit {0}
Unmarked (Some q) = is_mark q.0 ≡ false

list-unmarked : (x : Option Items) (r : List Token) → Unmarked (option_map (λ y. (y, r)) (option_map array x))
list-unmarked None r = tt
list-unmarked (Some ds) r = refl

object-list-unmarked : (x : Option Members) (r : List Token) → Unmarked (option_map (λ y. (y, r)) (option_map object x))
object-list-unmarked None r = tt
object-list-unmarked (Some ms) r = refl

object-unmarked : (o : Option (json.Members × List Token)) → Unmarked (converted of_json (parse_map json.object o))
object-unmarked None = tt
object-unmarked (Some q) = object-list-unmarked (of_members q.0 no_members) q.1

number-unmarked : (x : Option Num) (r : List Token) → Unmarked (option_map (λ y. (y, r)) (option_map number x))
number-unmarked None r = tt
number-unmarked (Some n) r = refl

array-unmarked : (o : Option (json.Items × List Token)) → Unmarked (converted of_json (parse_map json.array o))
array-unmarked None = tt
array-unmarked (Some q) = list-unmarked (of_items q.0) q.1

begins-unmarked : (a : Parse json.Items) (o : Parse json.Members) (t : Token) (r : List Token) → is_mark_token t ≡ false → Unmarked (converted of_json (value_with a o (t ∷ r)))
begins-unmarked a o token.begin_object r h = object-unmarked (o r)
begins-unmarked a o token.end_object r h = tt
begins-unmarked a o token.begin_array r h = array-unmarked (a r)
begins-unmarked a o token.end_array r h = tt
begins-unmarked a o (token.key s) r h = tt
begins-unmarked a o (token.string s) r h = h
begins-unmarked a o (token.number s) r h = number-unmarked (number_of s) r
begins-unmarked a o (token.boolean b) r h = refl
begins-unmarked a o token.null r h = refl
begins-unmarked a o token.bad r h = tt

-- items that begin with another token than a mark are no element
pub items-unmarked : (levels turns : ℕ) (t : Token) (r s : List Token) (ds : Items) → after_end_array (t ∷ r) ≡ None → is_mark_token t ≡ false → converted of_items (items (value levels) turns (t ∷ r)) ≡ Some (ds, s) → is_marked ds ≡ false
items-unmarked levels turns t r s ds going h e =
    let first = begun (value levels) turns (t ∷ r) (converted of_json (value levels (t ∷ r))) ds s refl going e in
    let any : Unmarked (converted of_json (value levels (t ∷ r))) = subst (λ o. Unmarked (converted of_json o)) (sym (value_is levels (t ∷ r))) (begins-unmarked _ _ t r h) in
    let none : is_mark first.0 ≡ false = subst (λ o. Unmarked o) first.3 any in
    ap is_marked (sym first.4) ∙ none

-- ---- an array that is no element

pub unmarked-brings : (manner : Manner) (start opened walked last : List Place) (first : Place) (n : ℕ) (numbers : List ℕ) (levels turns : ℕ) (t : Token) (r s : List Token)
    → after_end_array (t ∷ r) ≡ None → is_mark_token t ≡ false → n ≡ length start → opened ≡ start ++ first ∷ []
    → BringsItems manner opened walked (converted of_items (items (value levels) turns (t ∷ r))) s numbers → last ≡ slice_set walked n (place.Array numbers)
    → Brings manner (λ ds. visits manner (length start) (array ds)) (λ ds. 1 + item_count ds) start last (converted of_items (items (value levels) turns (t ∷ r))) s
unmarked-brings manner start opened walked last first n numbers levels turns t r s going h is_n is_opened b is_last =
    let ds = b.items in
    let none : is_marked ds ≡ false = items-unmarked levels turns t r s ds going h b.is_read in
    let whole : Adds manner start last (array_visits manner (length start) ds) = adds-parts manner start opened walked last first place.Array (λ k. item_visits manner k ds) (λ k. item_numbers k ds) n numbers is_n is_opened b.adds b.are_numbers is_last in
    let same : array_visits manner (length start) ds ≡ visits manner (length start) (array ds) = rw none refl in
    let one : length opened ≡ length start + 1 = ap length is_opened ∙ length-append start (first ∷ []) in
    let kept : length last ≡ length walked = ap length is_last ∙ length-set walked n (place.Array numbers) in
    let counted = b.count in
    record { what = ds; is_read = b.is_read; adds = subst (λ vs. Adds manner start last vs) same whole; count = omega (arith, one, kept, counted) }

pub unmarked-stops : (manner : Manner) (start opened : List Place) (first : Place) (levels turns : ℕ) (t : Token) (r : List Token) (e : Stop)
    → after_end_array (t ∷ r) ≡ None → is_mark_token t ≡ false → opened ≡ start ++ first ∷ []
    → Stops manner (item_visits manner (length opened)) (converted of_items (items (value levels) turns (t ∷ r))) e
    → Stops manner (λ ds. visits manner (length start) (array ds)) (converted of_items (items (value levels) turns (t ∷ r))) e
unmarked-stops manner start opened first levels turns t r stop.NoJson going h is_opened f = f
unmarked-stops manner start opened first levels turns t r (stop.Fault kind) going h is_opened f = λ ds s is.
    let one : length opened ≡ length start + 1 = ap length is_opened ∙ length-append start (first ∷ []) in
    let none : is_marked ds ≡ false = items-unmarked levels turns t r s ds going h is in
    let same : array_visits manner (length start) ds ≡ visits manner (length start) (array ds) = rw none refl in
    let later : IsFirstFault manner (item_visits manner (length start + 1) ds) kind = subst (λ k. IsFirstFault manner (item_visits manner k ds) kind) one (f ds s is) in
    subst (λ vs. IsFirstFault manner vs kind) same (refuses-behind manner (place.Array (item_numbers (length start + 1) ds)) (item_visits manner (length start + 1) ds) (fault.Fault kind) later)
unmarked-stops manner start opened first levels turns t r stop.Memory going h is_opened f = tt

-- ---- an array that begins with a mark

pub marked-turn : (levels : ℕ) (s : List ℕ) (r : List Token) → converted of_items (items (value levels) (length r + 1) (token.string s ∷ r)) ≡ parse_map (item (string s)) (converted of_items (items (value levels) (length r) r))
marked-turn levels s r =
    let some : 0 < length r + 1 = omega arith in
    let less : length r + 1 - 1 ≡ length r = omega arith in
    items-turn (value levels) (length r + 1) (token.string s ∷ r) r (string s) some refl (ap (converted of_json) (value_is levels (token.string s ∷ r)))
    ∙ ap (λ n. parse_map (item (string s)) (converted of_items (items (value levels) n r))) less

-- ---- arrays without items

pub empty-brings : (manner : Manner) (old new : List Place) (seen : Option (Items × List Token)) (r : List Token) → seen ≡ Some (no_items, r) → new ≡ old ++ place.Array [] ∷ []
    → Brings manner (λ ds. visits manner (length old) (array ds)) (λ ds. 1 + item_count ds) old new seen r
empty-brings manner old new seen r is is_new =
    let len = ap length is_new ∙ length-append old (place.Array [] ∷ []) in
    record { what = no_items; is_read = is; adds = record { more = place.Array [] ∷ []; added = is_new; have = (refl, tt) }; count = len }

-- ---- where nothing can be read

stops-none : {A : Type 0} (manner : Manner) (visited : A → List Visit) (seen : Option (A × List Token)) (e : Stop) → seen ≡ None → Stops manner visited seen e
stops-none manner visited seen stop.NoJson none = none
stops-none manner visited seen (stop.Fault kind) none = λ a r is. absurd (cc)
stops-none manner visited seen stop.Memory none = tt

pub any-stop : {A X : Type 0} (manner : Manner) (visited : A → List Visit) (seen : Option (A × List Token)) (r : Result X Stop) → seen ≡ None → IfErr r (Stops manner visited seen)
any-stop manner visited seen (Ok x) none = tt
any-stop manner visited seen (Err e) none = stops-none manner visited seen e none

pub nothing-left : (p : Parse json.Json) (ts : List Token) → ts ≡ [] → converted of_items (items p (length ts) ts) ≡ None
unfolding items
nothing-left p [] e = refl
nothing-left p (t ∷ ts) e = absurd (cc)

pub from-first : (p : Parse json.Json) (ts r : List Token) (t : Token) → ts ≡ t ∷ r → converted of_items (items p (length ts) ts) ≡ converted of_items (items p (length r + 1) (t ∷ r))
from-first p ts r t e =
    let more : suc (length r) ≡ length r + 1 = omega arith in
    ap (λ xs. converted of_items (items p (length xs) xs)) e ∙ ap (λ n. converted of_items (items p n (t ∷ r))) more

-- ---- a whole payload

json-none : (x : Option Data) → option_map {U = Data × List Token} (λ y. (y, [])) x ≡ None → x ≡ None
json-none None e = refl
json-none (Some d) e = absurd (cc)

whole-none : (o : Option (json.Json × List Token)) → converted of_json o ≡ None → option_and_then of_json (option_and_then (λ p. json.if_last p.0 p.1) o) ≡ None
whole-none None e = refl
whole-none (Some (j, [])) e = json-none (of_json j) e
whole-none (Some (j, t ∷ r)) e = refl

whole-some : (o : Option (json.Json × List Token)) (d : Data) → option_and_then of_json (option_and_then (λ p. json.if_last p.0 p.1) o) ≡ Some d → converted of_json o ≡ Some (d, [])
whole-some None d e = absurd (cc)
whole-some (Some (j, [])) d e = ap (λ x. option_map (λ y. (y, [])) x) e
whole-some (Some (j, t ∷ r)) d e = absurd (cc)

pub payload-stops : (manner : Manner) (o : Option (json.Json × List Token)) (e : Stop) → Stops manner (visits manner 0) (converted of_json o) e → StopsAt manner (option_and_then of_json (option_and_then (λ p. json.if_last p.0 p.1) o)) e
payload-stops manner o stop.NoJson f = whole-none o f
payload-stops manner o (stop.Fault kind) f = λ d is. f d [] (whole-some o d is)
payload-stops manner o stop.Memory f = tt
