-- The walk over items and members, and the form of an element.
use Rattle.std.proofs.Common.{◌≡◌, ℕ, ◌+◌, ◌<◌, ◌≤◌, List, [], ◌∷◌, ◌++◌, length, length-append, slice_set, slice_index_or, refl, sym, ◌∙◌, ap, subst, arith, true, false, append_assoc, inl}
use Rattle.std.proofs.lemmas.Bool.{false≢true}
use Rattle.flight_place.specs.Parsed.{data_of, items_data}
use Rattle.flight_place.specs.declared.parsed.Parsed.{Parsed}
use Rattle.serde_json.specs.Data.{Data, null, boolean, number, string, array, object, Items, no_items, item, Members, member}
use Rattle.flight_meaning.specs.declared.place.Place.{Place}
use Rattle.flight_meaning.specs.declared.place.Place.TheVariants as place
use Rattle.flight_meaning.specs.declared.place.Named.{Named}
use Rattle.flight_place.specs.declared.manner.Manner.{Manner}
use Rattle.flight_place.specs.declared.fault.PlaceKind.TheVariants.{BadElement}
use Rattle.flight_place.specs.declared.fault.PlaceFault.{PlaceFault}
use Rattle.flight_place.specs.Places.{Visit, placed, is_mark, is_key, is_element, element_of, mark_visit, count, item_numbers, visits, element_visits, marked_visits, IsFirstFault, item_visits, member_visits}
use Rattle.flight_place.specs.Faults.{Refuses, Adds}
use Rattle.flight_place.proofs.Adding.{Leads, leads-start, leads-on, leads-end, leads-refuses, adds-filled, refuses-behind}

-- ---- which lists have the form of an element

-- a list of four, three of which are known
pub four : (xs : List Parsed) (t k p : Parsed) → 4 ≤ length xs → length xs < 5 → t ≡ slice_index_or xs 1 t → k ≡ slice_index_or xs 2 k → p ≡ slice_index_or xs 3 p
    → (m : Data) × (items_data xs ≡ item m (item (data_of t) (item (data_of k) (item (data_of p) no_items))))
four [] t k p least most is_t is_k is_p = absurd (omega arith)
four (a ∷ []) t k p least most is_t is_k is_p = absurd (omega arith)
four (a ∷ b ∷ []) t k p least most is_t is_k is_p = absurd (omega arith)
four (a ∷ b ∷ c ∷ []) t k p least most is_t is_k is_p = absurd (omega arith)
four (a ∷ b ∷ c ∷ d ∷ []) t k p least most is_t is_k is_p = (data_of a, rw (is_t, is_k, is_p) refl)
four (a ∷ b ∷ c ∷ d ∷ e ∷ xs) t k p least most is_t is_k is_p = absurd (omega arith)

pub fewer : (xs : List Parsed) → length xs < 4 → is_element (items_data xs) ≡ false
fewer [] short = refl
fewer (a ∷ []) short = refl
fewer (a ∷ b ∷ []) short = refl
fewer (a ∷ b ∷ c ∷ []) short = refl
fewer (a ∷ b ∷ c ∷ d ∷ xs) short = absurd (omega arith)

pub more : (xs : List Parsed) → 5 ≤ length xs → is_element (items_data xs) ≡ false
more [] long = refl
more (a ∷ []) long = refl
more (a ∷ b ∷ []) long = refl
more (a ∷ b ∷ c ∷ []) long = refl
more (a ∷ b ∷ c ∷ d ∷ []) long = absurd (omega arith)
more (a ∷ b ∷ c ∷ d ∷ e ∷ xs) long = refl

-- ---- one item further

pub items-on : (manner : Manner) (start now next : List Place) (all : List Visit) (d : Data) (ds : Items) → Leads manner start all now (item_visits manner (length now) (item d ds)) → Adds manner now next (visits manner (length now) d) → length next ≡ length now + count d
    → Leads manner start all next (item_visits manner (length next) ds)
items-on manner start now next all d ds l a len =
    rw len (leads-on manner start now next all (visits manner (length now) d) (item_visits manner (length now + count d) ds) l a)

pub items-refuse : (manner : Manner) (start now : List Place) (all : List Visit) (d : Data) (ds : Items) (e : PlaceFault) → Leads manner start all now (item_visits manner (length now) (item d ds)) → Refuses manner (visits manner (length now) d) e → Refuses manner all e
items-refuse manner start now all d ds e l f =
    leads-refuses manner start now all (visits manner (length now) d) (item_visits manner (length now + count d) ds) e l f

pub members-on : (manner : Manner) (start now next : List Place) (all : List Visit) (name : List ℕ) (d : Data) (ms : Members) → Leads manner start all now (member_visits manner (length now) (member name d ms)) → Adds manner now next (visits manner (length now) d) → length next ≡ length now + count d
    → Leads manner start all next (member_visits manner (length next) ms)
members-on manner start now next all name d ms l a len =
    rw len (leads-on manner start now next all (visits manner (length now) d) (member_visits manner (length now + count d) ms) l a)

pub members-refuse : (manner : Manner) (start now : List Place) (all : List Visit) (name : List ℕ) (d : Data) (ms : Members) (e : PlaceFault) → Leads manner start all now (member_visits manner (length now) (member name d ms)) → Refuses manner (visits manner (length now) d) e → Refuses manner all e
members-refuse manner start now all name d ms e l f =
    leads-refuses manner start now all (visits manner (length now) d) (member_visits manner (length now + count d) ms) e l f

-- the parts so far, with the next one
pub parts-on : {A : Type 0} (done pushed all : List A) (x y : A) (f : ℕ → List A) (m n : ℕ) → done ++ (x ∷ f m) ≡ all → pushed ≡ done ++ y ∷ [] → y ≡ x → n ≡ m → pushed ++ f n ≡ all
parts-on done pushed all x y f m n whole is_pushed is_y is_n =
    ap (λ p. p ++ f n) is_pushed ∙ (ap (λ z. (done ++ z ∷ []) ++ f n) is_y ∙ (ap (λ k. (done ++ x ∷ []) ++ f k) is_n ∙ (append_assoc done (x ∷ []) (f m) ∙ whole)))

abbrev pub named : List ℕ → ℕ → Named
named name place = record { name = name; place = place }

pub same-named : (a b : List ℕ) (m n : ℕ) → a ≡ b → m ≡ n → named a m ≡ named b n
same-named a b m n same_name same_place = ap (λ x. named x m) same_name ∙ ap (λ k. named b k) same_place

-- ---- an element

-- the mark and what stands behind it
abbrev pub inside : Manner → ℕ → Items → List Visit
inside manner n ds = mark_visit manner (n + 1) ∷ item_visits manner (n + 2) ds

-- behind the place of an element and its mark
pub element-marked : (manner : Manner) (start opened marked : List Place) (first : Place) (ds : Items) → opened ≡ start ++ first ∷ [] → Adds manner opened marked (mark_visit manner (length opened) ∷ []) → length marked ≡ length opened + 1
    → Leads manner opened (inside manner (length start) ds) marked (item_visits manner (length marked) ds)
element-marked manner start opened marked first ds is_opened a is_len =
    let n = length start in
    let len : length opened ≡ n + 1 = ap length is_opened ∙ length-append start (first ∷ []) in
    let len2 : length marked ≡ n + 2 = omega (arith, len, is_len) in
    let mark : Adds manner opened marked (mark_visit manner (n + 1) ∷ []) = subst (λ k. Adds manner opened marked (mark_visit manner k ∷ [])) len a in
    rw len2 (leads-on manner opened opened marked (inside manner n ds) (mark_visit manner (n + 1) ∷ []) (item_visits manner (n + 2) ds) (leads-start manner opened (inside manner n ds)) mark)

pub element-refuse-mark : (manner : Manner) (start opened : List Place) (first place : Place) (ds : Items) (e : PlaceFault) → opened ≡ start ++ first ∷ [] → Refuses manner (mark_visit manner (length opened) ∷ []) e → Refuses manner (placed place ∷ inside manner (length start) ds) e
element-refuse-mark manner start opened first place ds e is_opened f =
    let n = length start in
    let len : length opened ≡ n + 1 = ap length is_opened ∙ length-append start (first ∷ []) in
    let mark : Refuses manner (mark_visit manner (n + 1) ∷ []) e = subst (λ k. Refuses manner (mark_visit manner k ∷ []) e) len f in
    refuses-behind manner place (inside manner n ds) e (leads-refuses manner opened opened (inside manner n ds) (mark_visit manner (n + 1) ∷ []) (item_visits manner (n + 2) ds) e (leads-start manner opened (inside manner n ds)) mark)

-- type, key and props one after another
abbrev pub three : Data → Data → Data → Items
three t k p = item t (item k (item p no_items))

pub element-adds : (manner : Manner) (start opened marked first_out second_out walked last : List Place) (first : Place) (m t k p : Data) (n tag key props : ℕ)
    → n ≡ length start → opened ≡ start ++ first ∷ [] → Adds manner opened marked (mark_visit manner (length opened) ∷ []) → length marked ≡ length opened + 1
    → Adds manner marked first_out (visits manner (length marked) t) → length first_out ≡ length marked + count t
    → Adds manner first_out second_out (visits manner (length first_out) k) → length second_out ≡ length first_out + count k
    → Adds manner second_out walked (visits manner (length second_out) p) → length walked ≡ length second_out + count p
    → tag ≡ length marked → key ≡ length first_out → props ≡ length second_out → last ≡ slice_set walked n (place.Element tag key props)
    → Adds manner start last (element_visits manner (length start) (item m (three t k p)))
element-adds manner start opened marked first_out second_out walked last first m t k p n tag key props is_n is_opened a_mark len_mark a_tag len_tag a_key len_key a_props len_props is_tag is_key is_props is_last =
    let all = inside manner (length start) (three t k p) in
    let l = element-marked manner start opened marked first (three t k p) is_opened a_mark len_mark in
    let l1 = items-on manner opened marked first_out all t (item k (item p no_items)) l a_tag len_tag in
    let l2 = items-on manner opened first_out second_out all k (item p no_items) l1 a_key len_key in
    let l3 = items-on manner opened second_out walked all p no_items l2 a_props len_props in
    let whole : Adds manner opened walked all = leads-end manner opened walked all l3 in
    let behind : Adds manner (start ++ first ∷ []) walked all = subst (λ o. Adds manner o walked all) is_opened whole in
    let filled = adds-filled manner start walked all n first (place.Element tag key props) (sym is_n) behind in
    let len : length opened ≡ length start + 1 = ap length is_opened ∙ length-append start (first ∷ []) in
    let same_tag : tag ≡ length start + 2 = omega (arith, is_tag, len_mark, len) in
    let same_key : key ≡ length start + 2 + count t = omega (arith, is_key, len_tag, len_mark, len) in
    let same_props : props ≡ length start + 2 + count t + count k = omega (arith, is_props, len_key, len_tag, len_mark, len) in
    let same : place.Element tag key props ≡ place.Element (length start + 2) (length start + 2 + count t) (length start + 2 + count t + count k) = cc in
    subst (λ o. Adds manner start o (placed (place.Element (length start + 2) (length start + 2 + count t) (length start + 2 + count t + count k)) ∷ all)) (sym is_last)
    (subst (λ q. Adds manner start (slice_set walked n (place.Element tag key props)) (placed q ∷ all)) same filled)

-- four items with a key have the form of an element
marked-form : (manner : Manner) (n : ℕ) (m t k p : Data) → is_key k ≡ true → marked_visits manner n (item m (three t k p)) ≡ element_visits manner n (item m (three t k p))
marked-form manner n m t k p key = rw key refl

pub marked-adds : (manner : Manner) (start last : List Place) (n : ℕ) (ds : Items) (m t k p : Data) → ds ≡ item m (three t k p) → is_key k ≡ true → Adds manner start last (element_visits manner n (item m (three t k p))) → Adds manner start last (marked_visits manner n ds)
marked-adds manner start last n ds m t k p seen key a =
    subst (λ xs. Adds manner start last (marked_visits manner n xs)) (sym seen) (subst (λ vs. Adds manner start last vs) (sym (marked-form manner n m t k p key)) a)

pub marked-refuses : (manner : Manner) (n : ℕ) (ds : Items) (m t k p : Data) (e : PlaceFault) → ds ≡ item m (three t k p) → is_key k ≡ true → Refuses manner (inside manner n (three t k p)) e → Refuses manner (marked_visits manner n ds) e
marked-refuses manner n ds m t k p e seen key f =
    subst (λ xs. Refuses manner (marked_visits manner n xs) e) (sym seen)
    (subst (λ vs. Refuses manner vs e) (sym (marked-form manner n m t k p key)) (refuses-behind manner (element_of (item_numbers (n + 2) (three t k p))) (inside manner n (three t k p)) e f))

-- marked items without the form are a bad element
pub not-element : (manner : Manner) (n at : ℕ) (ds : Items) → is_element ds ≡ false → at ≡ n → IsFirstFault manner (marked_visits manner n ds) (BadElement at)
not-element manner n at ds other same = rw other (inl (ap BadElement same))

-- a mark is one place
pub mark-count : (d : Data) → is_mark d ≡ true → count d ≡ 1
mark-count null h = absurd (false≢true h)
mark-count (boolean b) h = absurd (false≢true h)
mark-count (number x) h = absurd (false≢true h)
mark-count (string s) h = refl
mark-count (array ds) h = absurd (false≢true h)
mark-count (object ms) h = absurd (false≢true h)
