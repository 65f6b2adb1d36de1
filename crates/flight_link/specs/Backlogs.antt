-- The walks that stand behind each node, in lists.
use Rattle.std.specs.Prelude.{ℕ, ◌+◌, ◌-◌, ◌^◌, false, ◌<◌, ◌≤◌, ◌≡◌, ◌≢◌, ◌⊎◌, true, List, [], ◌∷◌, ◌++◌, length, slice_get, slice_set, sum_by, Option, Some, None, option_and_then, vec_capacity}
use Rattle.flight_link.specs.declared.node.State.{State}
use Rattle.flight_link.specs.declared.node.State.TheVariants.{Absent, Ended, Lost, Behind}
use Rattle.flight_link.specs.declared.backlog.Backlog.{Backlog}
use Rattle.flight_link.specs.declared.node.Start.{Start}
use Rattle.flight_link.specs.declared.table.Table.{Table}
use Rattle.flight_link.specs.Nodes.{has_ended, is_done, IsQuiet, AreQuiet, IsSound, IsNodeAt, steps_left}

-- the number that a table has for a node
abbrev pub cell : List (Option ℕ) → ℕ → Option ℕ
cell cells n = option_and_then (λ o. o) (slice_get cells n)

-- the nodes from one on, each followed by its next
abbrev pub IsRun : List (Option ℕ) → Option ℕ → List ℕ → Type 0
IsRun next None [] = Unit {0}
IsRun next None (m ∷ ms) = ⊥
IsRun next (Some n) [] = ⊥
IsRun next (Some n) (m ∷ ms) = (n ≡ m) × IsRun next (cell next n) ms

abbrev pub IsOf : ℕ → List ℕ → Type 0
IsOf n [] = ⊥
IsOf n (m ∷ ms) = (m ≡ n) ⊎ IsOf n ms

abbrev pub IsQueued : List ℕ → ℕ → Type 0
IsQueued ended n = (k : ℕ) × (slice_get ended k ≡ Some n)

abbrev pub IsLast : List ℕ → ℕ → Type 0
IsLast ended n = slice_get ended (length ended - 1) ≡ Some n

-- the walk of a node stands behind another
abbrev pub StandsBehind : List State → ℕ → ℕ → Type 0
StandsBehind states n m = (left : ℕ) × (slice_get states n ≡ Some (Behind m left))

-- nodes below a number, but for one, are in the lists
abbrev pub IsTaken : ℕ → Option ℕ → ℕ → Type 0
IsTaken count but n = (n < count) × (but ≢ Some n)

-- the nodes from one on are those whose walks stand behind a node
pub record IsListed (count : ℕ) (but : Option ℕ) (states : List State) (next : List (Option ℕ)) (m : ℕ) (o : Option ℕ) : Type 0 where
  pub nodes : List ℕ
  pub run : IsRun next o nodes
  pub behind : (n : ℕ) → IsOf n nodes → IsTaken count but n × StandsBehind states n m
  pub each : (n : ℕ) → IsTaken count but n → StandsBehind states n m → IsOf n nodes

-- a walk that has not ended may be queued yet
abbrev pub to_come : State → ℕ
to_come (Ended e) = 0
to_come Lost = 0
to_come state = 1

abbrev pub without : Option ℕ → List State → List State
without None states = states
without (Some n) states = slice_set states n Absent

-- each node below a number but for one is in the list of that behind which it stands, and those that have ended are queued
pub record AreListed (count : ℕ) (but : Option ℕ) (states : List State) (b : Backlog) : Type 0 where
  pub lists : (m : ℕ) → IsListed count but states b.next.items m (cell b.first.items m)
  pub ended : (m : ℕ) → IsQueued b.ended.items m → has_ended states m ≡ true
  pub loose : (n m : ℕ) → IsTaken count but n → StandsBehind states n m → has_ended states m ≡ true → (but ≡ Some m) ⊎ IsQueued b.ended.items m
  pub few : length b.ended.items + sum_by to_come (without but states) ≤ length states

-- the walks of the nodes from a number on have not ended, and those below it but one are listed
pub record AreBegun (count node : ℕ) (states : List State) (b : Backlog) : Type 0 where
  pub are_listed : AreListed count (Some node) states b
  pub fresh : (n : ℕ) → count ≤ n → has_ended states n ≡ false

-- none is queued, and each walk is in the list of the node behind which it stands
pub record IsAtRest (states : List State) (b : Backlog) : Type 0 where
  pub are_listed : AreListed (length states) None states b
  pub none : b.ended.items ≡ []

-- the same, and no walk stands behind one that has ended
pub record IsSettled (states : List State) (b : Backlog) : Type 0 where
  pub rest : IsAtRest states b
  pub quiet : AreQuiet states

-- there is room for all nodes, and their numbers fit in cells
pub record HasRoom (states : List State) (b : Backlog) : Type 0 where
  pub first : length states ≤ length b.first.items
  pub next : length states ≤ length b.next.items
  pub ended : length states < vec_capacity b.ended
  pub few : length states < 2 ^ 32

-- a walk comes into the list of the node behind which it stands, or is queued
pub record IsPut (b c : Backlog) (first next : List (Option ℕ)) (ended : List ℕ) : Type 0 where
  pub first_is : c.first.items ≡ first
  pub next_is : c.next.items ≡ next
  pub ended_is : c.ended.items ≡ ended

abbrev pub Puts : Backlog → ℕ → State → Backlog → Type 0
Puts b n (Behind m left) c = IsPut b c (slice_set b.first.items m (Some n)) (slice_set b.next.items n (cell b.first.items m)) b.ended.items
Puts b n (Ended e) c = IsPut b c b.first.items b.next.items (b.ended.items ++ n ∷ [])
Puts b n Lost c = IsPut b c b.first.items b.next.items (b.ended.items ++ n ∷ [])
Puts b n Absent c = IsPut b c b.first.items b.next.items b.ended.items

-- the first of a list is taken from it
pub record IsTakenFrom (b : Backlog) (m n : ℕ) (c : Backlog) : Type 0 where
  pub is_first : cell b.first.items m ≡ Some n
  pub is_put : IsPut b c (slice_set b.first.items m (cell b.next.items n)) b.next.items b.ended.items

abbrev pub Takes : Backlog → ℕ → Option ℕ → Backlog → Type 0
Takes b m None c = (cell b.first.items m ≡ None) × IsPut b c b.first.items b.next.items b.ended.items
Takes b m (Some n) c = IsTakenFrom b m n c

-- a walk goes on if the one behind which it stands has ended, and comes behind none that has
pub record GoesOn (t : Table) (states : List State) (n : ℕ) (state : State) : Type 0 where
  pub sound : (start : Start) → IsNodeAt t.starts.items n start → IsSound t.rows.items t.starts.items start state
  pub quiet : IsQuiet states state
  pub ended : has_ended states n ≡ true → is_done state ≡ true
  pub fewer : (m left : ℕ) → slice_get states n ≡ Some (Behind m left) → has_ended states m ≡ true → steps_left state ≤ left

-- how much there is to do: twice the steps that are left, and what is queued
abbrev pub to_do : List State → Backlog → ℕ
to_do states b = (sum_by steps_left states + sum_by steps_left states) + length b.ended.items
