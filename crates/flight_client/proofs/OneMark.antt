-- Two nodes have one mark exactly where they are one.
use Rattle.std.proofs.Common.{◌≡◌, ℕ, zero, suc, ◌+◌, ◌<◌, ◌≤◌, Bool, true, false, List, [], ◌∷◌, length, take, refl, sym, ◌∙◌, ap, subst, Option, Some, None, arith, eq-eqb}
use Rattle.std.specs.Prelude.{slice_get, option_and_then, ◌==◌}
use Rattle.flight_value.specs.Store.{Shape}
use Rattle.flight_meaning.specs.declared.place.Place.{Place}
use Rattle.flight_meaning.specs.declared.place.Place.TheVariants as place
use Rattle.flight_meaning.specs.declared.place.PlaceTree.{PlaceTree}
use Rattle.flight_meaning.specs.declared.place.PlacedRow.{PlacedRow}
use Rattle.flight_meaning.specs.Linked as linked
use Rattle.flight_meaning.specs.Linked.{rows_of, place_at}
use Rattle.flight_meaning.specs.Meaning.{Written, Identity, made_at, promise_of, stream_of, action_of, HasShapeHere, HasShape}
use Rattle.flight_link.specs.Spots.{IsNumber, IsFirst, places_in}
use Rattle.flight_link.specs.Looking.{IsMark}
use Rattle.flight_client.specs.AnyPrefix.{HasOneMark}
use Rattle.flight_client.proofs.Marks.{cons_same, cons_other, places_cons, spot_id, got_within}

-- ---- rows before a later row

places_before : (rows : List PlacedRow) (i j : ℕ) (row : PlacedRow) → slice_get rows i ≡ Some row → i < j → places_in (take i rows) + length row.tree.places ≤ places_in (take j rows)
places_before [] i j row e l = cc
places_before (r ∷ rows) zero zero row e l = absurd (omega arith)
places_before (r ∷ rows) zero (suc j) row e l =
    let same : r ≡ row = cc in
    let long = ap (λ x. length x.tree.places) same in
    let front : places_in (take (suc j) (r ∷ rows)) ≡ length r.tree.places + places_in (take j rows) = places_cons r (take j rows) in
    omega (arith, long, front)
places_before (r ∷ rows) (suc i) zero row e l = absurd (omega arith)
places_before (r ∷ rows) (suc i) (suc j) row e l =
    let h = places_before rows i j row e (omega arith) in
    let here : places_in (take (suc i) (r ∷ rows)) ≡ length r.tree.places + places_in (take i rows) = places_cons r (take i rows) in
    let there : places_in (take (suc j) (r ∷ rows)) ≡ length r.tree.places + places_in (take j rows) = places_cons r (take j rows) in
    omega (arith, h, here, there)

abbrev count : ℕ → List PlacedRow → ℕ
count id rows = length (rows_of id rows)

count_same : (id : ℕ) (r : PlacedRow) (rows : List PlacedRow) → r.id == id ≡ true → count id (r ∷ rows) ≡ suc (count id rows)
count_same id r rows e = ap length (cons_same id r rows e)

count_behind : (id : ℕ) (r : PlacedRow) (some more : List PlacedRow) (b : Bool) → r.id == id ≡ b → suc (count id some) ≤ count id more → suc (count id (r ∷ some)) ≤ count id (r ∷ more)
count_behind id r some more true e h = let x = count_same id r some e in let y = count_same id r more e in omega (arith, x, y, h)
count_behind id r some more false e h = let x = ap length (cons_other id r some e) in let y = ap length (cons_other id r more e) in omega (arith, x, y, h)

count_before : (rows : List PlacedRow) (i j : ℕ) (row : PlacedRow) → slice_get rows i ≡ Some row → i < j → suc (count row.id (take i rows)) ≤ count row.id (take j rows)
count_before [] i j row e l = cc
count_before (r ∷ rows) zero zero row e l = absurd (omega arith)
count_before (r ∷ rows) zero (suc j) row e l =
    let same : r ≡ row = cc in
    subst (λ x. suc (count x.id []) ≤ count x.id (r ∷ take j rows)) same (let one = count_same r.id r (take j rows) (eq-eqb r.id r.id refl) in omega (arith, one))
count_before (r ∷ rows) (suc i) zero row e l = absurd (omega arith)
count_before (r ∷ rows) (suc i) (suc j) row e l = count_behind row.id r (take i rows) (take j rows) (r.id == row.id) refl (count_before rows i j row e (omega arith))

-- ---- numbers and spots

equal_unless : (i j : ℕ) → (i < j → ⊥) → (j < i → ⊥) → i ≡ j
equal_unless zero zero up down = refl
equal_unless zero (suc j) up down = absurd (up (omega arith))
equal_unless (suc i) zero up down = absurd (down (omega arith))
equal_unless (suc i) (suc j) up down = ap suc (equal_unless i j (λ l. up (omega arith)) (λ l. down (omega arith)))

one_number : (rows : List PlacedRow) (s : linked.Spot) (m n : ℕ) → IsNumber rows s m → IsNumber rows s n → m ≡ n
one_number rows s m n a b =
    let i = a.is_spot in
    let j = b.is_spot in
    let same : i.row.id ≡ j.row.id = sym i.id ∙ j.id in
    let up : a.spot.row < b.spot.row → suc (count i.row.id (take a.spot.row rows)) ≤ count i.row.id (take b.spot.row rows) = count_before rows a.spot.row b.spot.row i.row i.is_row in
    let down : b.spot.row < a.spot.row → suc (count j.row.id (take b.spot.row rows)) ≤ count j.row.id (take a.spot.row rows) = count_before rows b.spot.row a.spot.row j.row j.is_row in
    let down' : b.spot.row < a.spot.row → suc (count i.row.id (take b.spot.row rows)) ≤ count i.row.id (take a.spot.row rows) = subst (λ id. b.spot.row < a.spot.row → suc (count id (take b.spot.row rows)) ≤ count id (take a.spot.row rows)) (sym same) down in
    let nth = i.nth in
    let nth' : s.nth ≡ count i.row.id (take b.spot.row rows) = j.nth ∙ ap (λ id. count id (take b.spot.row rows)) (sym same) in
    let rows_same : a.spot.row ≡ b.spot.row = equal_unless a.spot.row b.spot.row (λ l. let h = up l in omega (arith, h, nth, nth')) (λ l. let h = down' l in omega (arith, h, nth, nth')) in
    a.is_number ∙ (ap (λ k. places_in (take k rows) + s.at) rows_same ∙ sym b.is_number)

within : (rows : List PlacedRow) (s : linked.Spot) (m : ℕ) (at : Place) → (n : IsNumber rows s m) → place_at rows s ≡ Some at → s.at < length n.is_spot.row.tree.places
within rows s m at n here =
    let i = n.is_spot in
    let tree = spot_id rows n.spot.row s i.row i.is_row i.id i.nth in
    got_within i.row.tree.places s.at at (ap (option_and_then (λ (t : PlaceTree). slice_get t.places s.at)) (sym tree) ∙ here)

one_spot : (rows : List PlacedRow) (s t : linked.Spot) (m : ℕ) (x y : Place) → IsNumber rows s m → IsNumber rows t m → place_at rows s ≡ Some x → place_at rows t ≡ Some y → s ≡ t
one_spot rows s t m x y a b here there =
    let i = a.is_spot in
    let j = b.is_spot in
    let ws = within rows s m x a here in
    let wt = within rows t m y b there in
    let up : a.spot.row < b.spot.row → places_in (take a.spot.row rows) + length i.row.tree.places ≤ places_in (take b.spot.row rows) = places_before rows a.spot.row b.spot.row i.row i.is_row in
    let down : b.spot.row < a.spot.row → places_in (take b.spot.row rows) + length j.row.tree.places ≤ places_in (take a.spot.row rows) = places_before rows b.spot.row a.spot.row j.row j.is_row in
    let ns = a.is_number in
    let nt = b.is_number in
    let same : a.spot.row ≡ b.spot.row = equal_unless a.spot.row b.spot.row (λ l. let h = up l in omega (arith, h, ws, ns, nt)) (λ l. let h = down l in omega (arith, h, wt, ns, nt)) in
    let nt' : m ≡ places_in (take a.spot.row rows) + t.at = nt ∙ ap (λ k. places_in (take k rows) + t.at) (sym same) in
    let at : s.at ≡ t.at = omega (arith, ns, nt') in
    let some : Some i.row ≡ Some j.row = sym i.is_row ∙ (ap (slice_get rows) same ∙ j.is_row) in
    let row : i.row ≡ j.row = cc in
    let id : s.id ≡ t.id = i.id ∙ (ap (λ r. r.id) row ∙ sym j.id) in
    let nth : s.nth ≡ t.nth = i.nth ∙ (ap (λ r. count r.id (take a.spot.row rows)) row ∙ (ap (λ k. count j.row.id (take k rows)) same ∙ sym j.nth)) in
    ap (λ (z : ℕ). record { id = z; nth = s.nth; at = s.at }) id ∙ (ap (λ z. record { id = t.id; nth = z; at = s.at }) nth ∙ ap (λ z. record { id = t.id; nth = t.nth; at = z }) at)

one_first : (rows : List PlacedRow) (stands : Place) (m n : ℕ) → IsFirst rows stands m → IsFirst rows stands n → m ≡ n
one_first rows stands m n a b =
    let x = a.first b.spot n b.here b.is_number in
    let y = b.first a.spot m a.here a.is_number in
    omega (arith, x, y)

-- what stands first at one number is one thing
same_first : (rows : List PlacedRow) (x y : Place) (m : ℕ) → IsFirst rows x m → IsFirst rows y m → x ≡ y
same_first rows x y m a b =
    let e = one_spot rows a.spot b.spot m x y a.is_number b.is_number a.here b.here in
    let some : Some x ≡ Some y = sym a.here ∙ (ap (place_at rows) e ∙ b.here) in
    cc

-- ---- nodes

there_is : (rows : List PlacedRow) (s : linked.Spot) (o : Option Place) (shape : Shape Written) → HasShapeHere rows s o shape → (at : Place) × (o ≡ Some at)
there_is rows s None shape h = let e : None ≡ Some shape = h in cc
there_is rows s (Some at) shape h = (at, refl)

no_promise : (rows : List PlacedRow) (s : linked.Spot) (id : ℕ) (shape : Shape Written) → HasShapeHere rows s (Some (place.Promise id)) shape → ⊥
no_promise rows s id shape h = let e : None ≡ Some shape = h in cc

no_action : (rows : List PlacedRow) (s : linked.Spot) (id : ℕ) (shape : Shape Written) → HasShapeHere rows s (Some (place.Action id)) shape → ⊥
no_action rows s id shape h = let e : None ≡ Some shape = h in cc

stands_there : (rows : List PlacedRow) (s : linked.Spot) (stands : Place) (m : ℕ) (shape : Shape Written) → HasShapeHere rows s (place_at rows s) shape → IsNumber rows s m → IsFirst rows stands m → HasShapeHere rows s (Some stands) shape
stands_there rows s stands m shape h a f =
    let at = there_is rows s (place_at rows s) shape h in
    let e = one_spot rows s f.spot m at.0 stands a f.is_number at.1 f.here in
    subst (λ o. HasShapeHere rows s o shape) (ap (place_at rows) e ∙ f.here) h

one_node : (rows : List PlacedRow) (k l : Identity) (x y : Shape Written) (m : ℕ) → HasShape rows k x → HasShape rows l y → IsMark rows k m → IsMark rows l m → k ≡ l
one_node rows (made_at s) (made_at t) x y m h g a b =
    let here = there_is rows s (place_at rows s) x h in
    let there = there_is rows t (place_at rows t) y g in
    ap made_at (one_spot rows s t m here.0 there.0 a b here.1 there.1)
one_node rows (made_at s) (promise_of id) x y m h g a b = absurd (no_promise rows s id x (stands_there rows s (place.Promise id) m x h a b))
one_node rows (made_at s) (action_of id) x y m h g a b = absurd (no_action rows s id x (stands_there rows s (place.Action id) m x h a b))
one_node rows (made_at s) (stream_of id) x y m h g a b = absurd b
one_node rows (promise_of id) (made_at t) x y m h g a b = absurd (no_promise rows t id y (stands_there rows t (place.Promise id) m y g b a))
one_node rows (promise_of i) (promise_of j) x y m h g a b = let e = same_first rows (place.Promise i) (place.Promise j) m a b in let s : i ≡ j = cc in ap promise_of s
one_node rows (promise_of i) (action_of j) x y m h g a b = let e = same_first rows (place.Promise i) (place.Action j) m a b in cc
one_node rows (promise_of i) (stream_of j) x y m h g a b = absurd b
one_node rows (action_of id) (made_at t) x y m h g a b = absurd (no_action rows t id y (stands_there rows t (place.Action id) m y g b a))
one_node rows (action_of i) (promise_of j) x y m h g a b = let e = same_first rows (place.Action i) (place.Promise j) m a b in cc
one_node rows (action_of i) (action_of j) x y m h g a b = let e = same_first rows (place.Action i) (place.Action j) m a b in let s : i ≡ j = cc in ap action_of s
one_node rows (action_of i) (stream_of j) x y m h g a b = absurd b
one_node rows (stream_of i) l x y m h g a b = absurd a

one_mark : (rows : List PlacedRow) (k : Identity) (m n : ℕ) → IsMark rows k m → IsMark rows k n → m ≡ n
one_mark rows (made_at s) m n a b = one_number rows s m n a b
one_mark rows (promise_of id) m n a b = one_first rows (place.Promise id) m n a b
one_mark rows (action_of id) m n a b = one_first rows (place.Action id) m n a b
one_mark rows (stream_of id) m n a b = absurd a

pub has_one_mark : (rows : List PlacedRow) → HasOneMark rows
has_one_mark rows = record { one_mark = one_mark rows; one_node = one_node rows }
