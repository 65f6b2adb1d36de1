-- A loose walk goes on.
use Rattle.std.proofs.Common.{◌≡◌, ◌≢◌, ℕ, zero, suc, ◌<◌, ◌≤◌, true, List, [], ◌∷◌, length, Option, Some, None, slice_get, slice_set, refl, sym, ◌∙◌, ap, subst, arith, inl, inr, ◌⊎◌}
use Rattle.std.proofs.lemmas.Bool.{false≢true}
use Rattle.std.proofs.lemmas.Bool.Decides.{eqb_tells}
use Rattle.std.proofs.lemmas.List.{length-set}
use Rattle.std.proofs.lemmas.Option.{none-some, same_Some, slice_get_within}
use Rattle.flight_meaning.specs.declared.place.PlacedRow.{PlacedRow}
use Rattle.flight_meaning.specs.Resolve.{Path}
use Rattle.flight_link.specs.declared.node.Start.{Start}
use Rattle.flight_link.specs.declared.node.State.{State}
use Rattle.flight_link.specs.declared.node.State.TheVariants.{Absent, Ended, Lost, Behind}
use Rattle.flight_link.specs.declared.node.Loose.{Loose}
use Rattle.flight_link.specs.declared.table.Table.{Table}
use Rattle.flight_link.specs.Nodes.{IsNodeAt, HasBegun, IsSound, AreSound, Advances, HasNode, AreStates, TakesStep, IsLoose, Moves, is_done, is_ended, has_ended, steps_left, names_of, last_names}
use Rattle.flight_link.proofs.Advancing.{gets_more, is_last, last_length}

-- ---- one element of a list changes

pub set_here : {A : Type 0} (xs : List A) (i : ℕ) (x y : A) → slice_get xs i ≡ Some x → slice_get (slice_set xs i y) i ≡ Some y
set_here [] i x y e = absurd (none-some x e)
set_here (z ∷ zs) zero x y e = refl
set_here (z ∷ zs) (suc i) x y e = set_here zs i x y e

pub set_there : {A : Type 0} (xs : List A) (i j : ℕ) (y : A) → i ≢ j → slice_get (slice_set xs i y) j ≡ slice_get xs j
set_there [] i j y ne = refl
set_there (z ∷ zs) zero zero y ne = absurd (ne refl)
set_there (z ∷ zs) zero (suc j) y ne = refl
set_there (z ∷ zs) (suc i) zero y ne = refl
set_there (z ∷ zs) (suc i) (suc j) y ne = set_there zs i j y (λ e. ne (ap suc e))

pub same_or : (a b : ℕ) → (a ≡ b) ⊎ (a ≢ b)
same_or a b = elim (eqb_tells a b) [ inl p ↦ inl p.1 | inr p ↦ inr p.1 ]

-- each state but one stays, and that one is sound
pub sound_set : (rows : List PlacedRow) (starts : List Start) (states : List State) (n : ℕ) (old new : State) → AreSound rows starts states → slice_get states n ≡ Some old → ((start : Start) → IsNodeAt starts n start → IsSound rows starts start new) → AreSound rows starts (slice_set states n new)
sound_set rows starts states n old new sound e is = λ k start state is_start is_state. go k start state is_start is_state (same_or n k)
  where
    go : (k : ℕ) (start : Start) (state : State) → slice_get starts k ≡ Some start → slice_get (slice_set states n new) k ≡ Some state → (n ≡ k) ⊎ (n ≢ k) → IsSound rows starts start state
    go k start state is_start is_state (inl p) =
        let same : new ≡ state = same_Some new state (sym (set_here states n old new e) ∙ (ap (slice_get (slice_set states n new)) p ∙ is_state)) in
        subst (IsSound rows starts start) same (is start (ap (slice_get starts) p ∙ is_start))
    go k start state is_start is_state (inr p) = sound k start state is_start (sym (set_there states n k new p) ∙ is_state)

pub states_set : (t : Table) (states : List State) (n : ℕ) (old new : State) → AreStates t states → slice_get states n ≡ Some old → ((start : Start) → IsNodeAt t.starts.items n start → IsSound t.rows.items t.starts.items start new) → AreStates t (slice_set states n new)
states_set t states n old new are e is = record { one_each = length-set states n new ∙ are.one_each; sound = sound_set t.rows.items t.starts.items states n old new are.sound e is }

-- ---- a loose walk

pub loose_within : (t : Table) (states : List State) (l : Loose) → AreStates t states → IsLoose states l → l.node < length t.starts.items
loose_within t states l are loose =
    let w = slice_get_within states l.node (Behind l.behind l.left) loose.is_state in
    omega (arith, w, are.one_each)

pub loose_start : (t : Table) (states : List State) (l : Loose) → AreStates t states → IsLoose states l → HasNode t.starts.items l.node
loose_start t states l are loose = go (slice_get t.starts.items l.node) refl
  where
    go : (o : Option Start) → slice_get t.starts.items l.node ≡ o → HasNode t.starts.items l.node
    go (Some start) e = (start, e)
    go None e =
        let w = loose_within t states l are loose in
        absurd (past t.starts.items l.node w e)
      where
        past : (xs : List Start) (i : ℕ) → i < length xs → slice_get xs i ≡ None → ⊥
        past [] i w e = omega (arith, w)
        past (x ∷ xs) zero w e = none-some x (sym e)
        past (x ∷ xs) (suc i) w e = past xs i (omega (arith, w)) e

loose_sound : (t : Table) (states : List State) (l : Loose) (start : Start) → AreStates t states → IsLoose states l → IsNodeAt t.starts.items l.node start → HasBegun t.rows.items t.starts.items start (Behind l.behind l.left)
loose_sound t states l start are loose is = are.sound l.node start (Behind l.behind l.left) is loose.is_state

pub loose_few : (t : Table) (states : List State) (l : Loose) (start : Start) → AreStates t states → IsLoose states l → IsNodeAt t.starts.items l.node start → l.left ≤ length (names_of t.rows.items start)
loose_few t states l start are loose is = (loose_sound t states l start are loose is).gets.few

pub loose_behind : (t : Table) (states : List State) (l : Loose) → AreStates t states → IsLoose states l → HasNode t.starts.items l.behind
loose_behind t states l are loose =
    let start = loose_start t states l are loose in
    let g = (loose_sound t states l start.0 are loose start.1).gets in
    (g.other, g.is_other)

-- a walk that has begun is sound
pub begun_sound : (rows : List PlacedRow) (starts : List Start) (start : Start) (state : State) → HasBegun rows starts start state → IsSound rows starts start state
begun_sound rows starts start Absent b = absurd b.gets
begun_sound rows starts start (Ended e) b = b
begun_sound rows starts start Lost b = b
begun_sound rows starts start (Behind node left) b = b

ended_there : (states : List State) (n : ℕ) → has_ended states n ≡ true → (state : State) × (slice_get states n ≡ Some state) × (is_done state ≡ true)
ended_there states n e = go (slice_get states n) refl e
  where
    go : (o : Option State) → slice_get states n ≡ o → is_ended o ≡ true → (state : State) × (slice_get states n ≡ Some state) × (is_done state ≡ true)
    go None is e = absurd (false≢true e)
    go (Some state) is e = (state, is, e)

pub moves : (t : Table) (states : List State) (l : Loose) (all names : Path) (new : State) → AreStates t states → IsLoose states l → ((start : Start) → IsNodeAt t.starts.items l.node start → all ≡ names_of t.rows.items start) → names ≡ last_names l.left all → Advances t l.behind names new → TakesStep states l.behind names new → Moves t l new
moves t states l all names new are loose is_all is_names leads fewer = λ start is.
    let b = loose_sound t states l start are loose is in
    let same : names ≡ last_names l.left (names_of t.rows.items start) = is_names ∙ ap (last_names l.left) (is_all start is) in
    let few = loose_few t states l start are loose is in
    let leads' = subst (λ x. Advances t l.behind x new) same leads in
    let g = leads' b.gets.other b.gets.is_other b.next b.gets.come in
    let g' = gets_more t.rows.items t.starts.items (last_names l.left (names_of t.rows.items start)) (names_of t.rows.items start) b.next new (is_last l.left (names_of t.rows.items start)) g in
    let len : length names ≡ l.left = ap length same ∙ last_length l.left (names_of t.rows.items start) few in
    let old = ended_there states l.behind loose.ended in
    let less = fewer old.0 old.1 old.2 in
    (begun_sound t.rows.items t.starts.items start new (record { next = b.next; is_next = b.is_next; gets = g' }), subst (λ k. steps_left new ≤ k) len less)
