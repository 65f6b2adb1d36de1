-- Walks that have not ended: they end for want of a row, or never.
use Rattle.std.proofs.Common.{◌≡◌, ◌≢◌, ℕ, zero, suc, ◌+◌, ◌<◌, ◌≤◌, nat_eq, Bool, true, false, List, [], ◌∷◌, ◌++◌, length, Option, Some, None, slice_get, refl, sym, ◌∙◌, ap, subst, arith, inl, inr, ◌⊎◌, length-append}
use Rattle.std.specs.Prelude.{MatchOption}
use Rattle.std.specs.List.{AllByRecursion, IsDistinct, list_any}
use Rattle.std.proofs.lemmas.Bool.{false≢true, eqb-true}
use Rattle.std.specs.Prelude.{◌||◌}
use Rattle.std.proofs.lemmas.Bool.Decides.{eqb_tells}
use Rattle.std.proofs.lemmas.Map.Steps.{length-le_from_distinct_below}
use Rattle.std.proofs.lemmas.Option.{none-some, same_Some, slice_get_within}
use Rattle.flight_meaning.specs.declared.place.PlacedRow.{PlacedRow}
use Rattle.flight_meaning.specs.Resolve.{Path, Stand, to, Found, found, stream, not_yet, nowhere, ends, after_turn, walk_by, Ends, Endless}
use Rattle.flight_meaning.proofs.Walking.{turn_forth, ends_back, turn_ends, endless_back}
use Rattle.flight_meaning.proofs.Paths.{onward, front_by, endless-longer, absent_turn}
use Rattle.flight_link.specs.declared.node.Start.{Start}
use Rattle.flight_link.specs.declared.node.Start.TheVariants.{Id, Place as AtPlace}
use Rattle.flight_link.specs.declared.node.State.{State}
use Rattle.flight_link.specs.declared.node.State.TheVariants.{Absent, Ended, Lost, Behind}
use Rattle.flight_link.specs.declared.table.Table.{Table}
use Rattle.flight_link.specs.Nodes.{ComeBy, Come, Reaches, with_path, last_names, stand, names_of, HasBegun, HasNoRow, IsSound, IsNodeAt, HasNode, AreStates, IsQuiet, AreLinked, is_done, is_ended, has_ended, Advances}
use Rattle.flight_link.specs.Waiting.{IsNotYet, Waits, IsResolved, WaitsFor, WaitsForever, id_of_start}
use Rattle.flight_link.proofs.Turns.{come_on, come_here, come_by_turn, come_with, with_twice}
use Rattle.flight_link.proofs.RowComes.{as_many}

-- ---- walks along turns

ends_come_by : (n : ℕ) (rows : List PlacedRow) (s t : Stand) (f : Found) → ComeBy n rows s t → Ends rows t f → Ends rows s f
ends_come_by zero rows s t f e w = subst (λ x. Ends rows x f) (sym e) w
ends_come_by (suc n) rows s t f c w = ends_back rows s c.0 c.1 f (ends_come_by n rows c.0 t f c.2 w)

pub ends_come : (rows : List PlacedRow) (s t : Stand) (f : Found) → Come rows s t → Ends rows t f → Ends rows s f
ends_come rows s t f c w = ends_come_by c.0 rows s t f c.1 w

endless_come_by : (n : ℕ) (rows : List PlacedRow) (s t : Stand) → ComeBy n rows s t → Endless rows t → Endless rows s
endless_come_by zero rows s t e w = subst (Endless rows) (sym e) w
endless_come_by (suc n) rows s t c w = endless_back rows s c.0 c.1 (endless_come_by n rows c.0 t c.2 w)

pub endless_come : (rows : List PlacedRow) (s t : Stand) → Come rows s t → Endless rows t → Endless rows s
endless_come rows s t c w = endless_come_by c.0 rows s t c.1 w

walk_come : (k n : ℕ) (rows : List PlacedRow) (s t : Stand) (f : Found) → ComeBy k rows s t → walk_by n rows s ≡ Some f → (j : ℕ) × (j ≤ n) × (walk_by j rows t ≡ Some f)
walk_come zero n rows s t f e w = (n, omega arith, subst (λ x. walk_by n rows x ≡ Some f) e w)
walk_come (suc k) zero rows s t f c w = absurd (none-some f w)
walk_come (suc k) (suc n) rows s t f c w =
    let r = walk_come k n rows c.0 t f c.2 (turn_forth rows s c.0 c.1 n f w) in
    let less = r.1 in
    (r.0, omega (arith, less), r.2)

pub reaches_ends : (rows : List PlacedRow) (s : Stand) (f : Found) → Reaches rows s (ends f) → Ends rows s f
reaches_ends rows s f r = ends_come rows s r.by f r.come (turn_ends rows r.by f r.is_turn)

-- ---- behind another walk

not_yet_more : (g f : Found) (n : ℕ) (rows : List PlacedRow) (q : Path) → after_turn (walk_by n rows) (onward g q) ≡ Some f → IsNotYet g → IsNotYet f
not_yet_more (not_yet id path) f n rows q e h = subst IsNotYet (same_Some (not_yet id (path ++ q)) f e) tt
not_yet_more (found s) f n rows q e h = absurd h
not_yet_more (stream id) f n rows q e h = absurd h
not_yet_more nowhere f n rows q e h = absurd h

-- a walk that comes behind a node within so many turns
record ComesOn (n : ℕ) (rows : List PlacedRow) (start : Start) (f : Found) : Type 0 where
  pub turns : ℕ
  pub fewer : turns ≤ n
  pub front : Found
  pub walks : walk_by turns rows (stand rows start) ≡ Some front
  pub not_yet : IsNotYet front → IsNotYet f

comes_on : (n : ℕ) (rows : List PlacedRow) (s : Stand) (start : Start) (q : Path) (f : Found) → Come rows s (with_path (stand rows start) q) → walk_by n rows s ≡ Some f → ComesOn n rows start f
comes_on n rows s start q f c w =
    let b = walk_come c.0 n rows s (with_path (stand rows start) q) f c.1 w in
    let r = front_by b.0 rows (stand rows start) q f b.2 in
    let le = b.1 in
    let most = r.within in
    record { turns = r.turns; fewer = omega (arith, le, most); front = r.front; walks = r.walks; not_yet = not_yet_more r.front f b.0 rows q r.rest }

begun_on : (n : ℕ) (rows : List PlacedRow) (starts : List Start) (start other : Start) (node left : ℕ) (f : Found) → HasBegun rows starts start (Behind node left) → IsNodeAt starts node other → walk_by (suc n) rows (stand rows start) ≡ Some f → ComesOn n rows other f
begun_on n rows starts start other node left f b is w =
    let same : b.gets.other ≡ other = same_Some b.gets.other other (sym b.gets.is_other ∙ is) in
    comes_on n rows b.next other (last_names left (names_of rows start)) f (subst (λ x. Come rows b.next (with_path (stand rows x) (last_names left (names_of rows start)))) same b.gets.come) (turn_forth rows (stand rows start) b.next b.is_next n f w)

-- ---- a walk that has not ended ends for want of a row

state_of : (t : Table) (states : List State) (n : ℕ) (start : Start) → AreStates t states → IsNodeAt t.starts.items n start → (state : State) × (slice_get states n ≡ Some state)
state_of t states n start are is = as_many t.starts.items states n start are.one_each is

not_done : (states : List State) (n : ℕ) (state : State) → slice_get states n ≡ Some state → has_ended states n ≡ false → is_done state ≡ false
not_done states n state e h = sym (ap is_ended e) ∙ h

waits_by : (most n : ℕ) (t : Table) (states : List State) (node : ℕ) (start : Start) (f : Found) → n ≤ most → AreLinked t states → IsNodeAt t.starts.items node start → has_ended states node ≡ false → walk_by n t.rows.items (stand t.rows.items start) ≡ Some f → IsNotYet f
waits_by zero zero t states node start f le linked is waits w = absurd (none-some f w)
waits_by zero (suc n) t states node start f le linked is waits w = let no : ⊥ = omega (arith, le) in absurd no
waits_by (suc most) zero t states node start f le linked is waits w = absurd (none-some f w)
waits_by (suc most) (suc n) t states node start f le linked is waits w =
    let s = state_of t states node start linked.are_states is in
    go s.0 (linked.are_states.sound node start s.0 is s.1) (linked.quiet node s.0 s.1) (not_done states node s.0 s.1 waits) start refl
    (λ other m g j small e is_other h. waits_by most j t states m other g small linked is_other h e)
  where
    go : (state : State) → IsSound t.rows.items t.starts.items start state → IsQuiet states state → is_done state ≡ false → (x : Start) → x ≡ start → ((other : Start) (m : ℕ) (g : Found) (j : ℕ) → j ≤ most → walk_by j t.rows.items (stand t.rows.items other) ≡ Some g → IsNodeAt t.starts.items m other → has_ended states m ≡ false → IsNotYet g) → IsNotYet f
    go (Ended e) sound quiet undone x is rest = absurd (false≢true (sym undone))
    go Lost sound quiet undone x is rest = absurd (false≢true (sym undone))
    go (Behind m left) sound quiet undone x is rest =
        let c = begun_on n t.rows.items t.starts.items start sound.gets.other m left f sound sound.gets.is_other w in
        let few = c.fewer in
        let small : c.turns ≤ most = omega (arith, few, le) in
        c.not_yet (rest sound.gets.other m c.front c.turns small c.walks sound.gets.is_other quiet)
    go Absent sound quiet undone (AtPlace s) is rest = absurd (subst (HasNoRow t.rows.items) (sym is) sound)
    go Absent sound quiet undone (Id id) is rest =
        let none = subst (HasNoRow t.rows.items) (sym is) sound in
        let e = ap (after_turn (walk_by n t.rows.items)) (absent_turn t.rows.items id [] none) in
        subst IsNotYet (same_Some (not_yet id []) f (sym e ∙ (ap (λ y. walk_by (suc n) t.rows.items (stand t.rows.items y)) is ∙ w))) tt

pub waits_behind : (t : Table) (states : List State) (node : ℕ) (start : Start) (s : Stand) (q : Path) → AreLinked t states → IsNodeAt t.starts.items node start → has_ended states node ≡ false → Come t.rows.items s (with_path (stand t.rows.items start) q) → Waits t.rows.items s
waits_behind t states node start s q linked is waits come f w =
    let c = comes_on w.0 t.rows.items s start q f come w.1 in
    c.not_yet (waits_by c.turns c.turns t states node start c.front (omega arith) linked is waits c.walks)

-- ---- what names from an id resolve to

quiet_behind : (states : List State) (node left : ℕ) → IsQuiet states (Behind node left) → has_ended states node ≡ false
quiet_behind states node left h = h

pub resolves : (t : Table) (states : List State) (id node : ℕ) (names : Path) (state : State) → AreLinked t states → IsNodeAt t.starts.items node (Id id) → Advances t node names state → IsQuiet states state → IsResolved t states id names state
resolves t states id node names Absent linked is leads quiet = absurd (leads (Id id) is (to id names) (come_here t.rows.items (to id names)))
resolves t states id node names (Ended e) linked is leads quiet =
    let g = leads (Id id) is (to id names) (come_here t.rows.items (to id names)) in
    (reaches_ends t.rows.items (to id names) _ g.0, g.1)
resolves t states id node names Lost linked is leads quiet = reaches_ends t.rows.items (to id names) nowhere (leads (Id id) is (to id names) (come_here t.rows.items (to id names)))
resolves t states id node names (Behind m left) linked is leads quiet = (leads (Id id) is (to id names) (come_here t.rows.items (to id names)), quiet)

-- ---- walks that stand behind one another

-- nodes, each of which stands behind the next, from one to another
abbrev pub Visits : List State → List ℕ → ℕ → ℕ → Type 0
Visits states [] n m = n ≡ m
Visits states (x ∷ xs) n m = (x ≡ n) × ((next : ℕ) × (left : ℕ) × (slice_get states n ≡ Some (Behind next left)) × Visits states xs next m)

visits_more : (states : List State) (xs : List ℕ) (n m next left : ℕ) → Visits states xs n m → slice_get states m ≡ Some (Behind next left) → Visits states (xs ++ m ∷ []) n next
visits_more states [] n m next left v e = (sym v, (next, left, ap (slice_get states) v ∙ e, refl))
visits_more states (x ∷ xs) n m next left v e = (v.0, (v.1.0, v.1.1, v.1.2, visits_more states xs v.1.0 m next left v.1.3 e))

-- so many nodes, each of which stands behind the next, from one to another
abbrev Chain : ℕ → List State → ℕ → ℕ → Type 0
Chain zero states n m = n ≡ m
Chain (suc k) states n m = (next : ℕ) × (left : ℕ) × (slice_get states n ≡ Some (Behind next left)) × Chain k states next m

chain_more : (k : ℕ) (states : List State) (n m next left : ℕ) → Chain k states n m → slice_get states m ≡ Some (Behind next left) → Chain (suc k) states n next
chain_more zero states n m next left v e = (next, left, ap (slice_get states) v ∙ e, refl)
chain_more (suc k) states n m next left v e = (v.0, v.1, v.2, chain_more k states v.0 m next left v.3 e)

-- the walk of a node ends within so many turns
abbrev EndsWithin : Table → ℕ → ℕ → Type 0
EndsWithin t n node = (start : Start) × (f : Found) × IsNodeAt t.starts.items node start × (walk_by n t.rows.items (stand t.rows.items start) ≡ Some f)

ends_next : (n : ℕ) (t : Table) (states : List State) (node next left : ℕ) → AreLinked t states → slice_get states node ≡ Some (Behind next left) → EndsWithin t n node → (j : ℕ) × (j < n) × EndsWithin t j next
ends_next zero t states node next left linked e w = absurd (none-some w.1 w.3)
ends_next (suc n) t states node next left linked e w =
    let b = linked.are_states.sound node w.0 (Behind next left) w.2 e in
    let c = begun_on n t.rows.items t.starts.items w.0 b.gets.other next left w.1 b b.gets.is_other w.3 in
    let few = c.fewer in
    (c.turns, omega (arith, few), (b.gets.other, c.front, b.gets.is_other, c.walks))

ends_along : (k n : ℕ) (t : Table) (states : List State) (node last : ℕ) → AreLinked t states → Chain k states node last → EndsWithin t n node → (j : ℕ) × (j + k ≤ n) × EndsWithin t j last
ends_along zero n t states node last linked v w = (n, omega arith, subst (EndsWithin t n) v w)
ends_along (suc k) n t states node last linked v w =
    let a = ends_next n t states node v.0 v.1 linked v.2 w in
    let b = ends_along k a.0 t states v.0 last linked v.3 a.2 in
    let x = a.1 in
    let y = b.1 in
    (b.0, omega (arith, x, y), b.2)

-- in a ring no walk ends
ring : (most n k : ℕ) (t : Table) (states : List State) (node : ℕ) → n ≤ most → AreLinked t states → Chain (suc k) states node node → EndsWithin t n node → ⊥
ring zero n k t states node le linked v w =
    let a = ends_along (suc k) n t states node node linked v w in
    let x = a.1 in
    omega (arith, x, le)
ring (suc most) n k t states node le linked v w =
    let a = ends_along (suc k) n t states node node linked v w in
    let x = a.1 in
    let small : a.0 ≤ most = omega (arith, x, le) in
    ring most a.0 k t states node small linked v a.2

apart_from : (a b : ℕ) → a ≢ b → nat_eq a b ≡ false
apart_from a b ne = go (eqb_tells a b)
  where
    go : ((nat_eq a b ≡ true) × (a ≡ b)) ⊎ ((nat_eq a b ≡ false) × (a ≢ b)) → nat_eq a b ≡ false
    go (inl p) = absurd (ne p.1)
    go (inr p) = p.0

-- a node does not come again where its walk ends
not_again : (t : Table) (states : List State) (n node : ℕ) (k : ℕ) (xs : List ℕ) (at last : ℕ) → AreLinked t states → EndsWithin t n node → Chain (suc k) states node at → Visits states xs at last → AllByRecursion (λ y. nat_eq node y ≡ false) (xs ++ last ∷ [])
not_again t states n node k [] at last linked w c v =
    (apart_from node last (λ same. ring n n k t states node (omega arith) linked (subst (Chain (suc k) states node) (v ∙ sym same) c) w), tt)
not_again t states n node k (x ∷ xs) at last linked w c v = (
  apart_from node x (λ same. ring n n k t states node (omega arith) linked (subst (Chain (suc k) states node) (sym v.0 ∙ sym same) c) w),
  not_again t states n node (suc k) xs v.1.0 last linked w (chain_more (suc k) states node at v.1.0 v.1.1 c v.1.2) v.1.3,
)

distinct : (t : Table) (states : List State) (n : ℕ) (xs : List ℕ) (node last : ℕ) → AreLinked t states → EndsWithin t n node → Visits states xs node last → IsDistinct nat_eq (xs ++ last ∷ [])
unfolding IsDistinct
distinct t states n [] node last linked w v = (tt, tt)
distinct t states n (x ∷ xs) node last linked w v =
    let a = ends_next n t states node v.1.0 v.1.1 linked v.1.2 w in (
      subst (λ y. AllByRecursion (λ z. nat_eq y z ≡ false) (xs ++ last ∷ [])) (sym v.0) (not_again t states n node 0 xs v.1.0 last linked w (v.1.0, v.1.1, v.1.2, refl) v.1.3),
      distinct t states a.0 xs v.1.0 last linked a.2 v.1.3,
    )

either : (b c : Bool) → (b || c) ≡ true → (b ≡ true) ⊎ (c ≡ true)
either true c e = inl refl
either false c e = inr e

below : (states : List State) (count : ℕ) (xs : List ℕ) (node last : ℕ) → count ≡ length states → last < count → Visits states xs node last → (q : ℕ) → list_any (nat_eq q) (xs ++ last ∷ []) ≡ true → q < count
below states count [] node last len w v q e = go (either (nat_eq q last) false e)
  where
    go : (nat_eq q last ≡ true) ⊎ (false ≡ true) → q < count
    go (inl h) = subst (λ x. x < count) (sym (eqb-true q last h)) w
    go (inr h) = absurd (false≢true h)
below states count (x ∷ xs) node last len w v q e = go (either (nat_eq q x) (list_any (nat_eq q) (xs ++ last ∷ [])) e) (below states count xs v.1.0 last len w v.1.3 q)
  where
    go : (nat_eq q x ≡ true) ⊎ (list_any (nat_eq q) (xs ++ last ∷ []) ≡ true) → (list_any (nat_eq q) (xs ++ last ∷ []) ≡ true → q < count) → q < count
    go (inl h) rest =
        let less = slice_get_within states node (Behind v.1.0 v.1.1) v.1.2 in
        let same : q ≡ node = eqb-true q x h ∙ v.0 in
        omega (arith, less, same, len)
    go (inr h) rest = rest h

-- past as many nodes as there are no walk ends
never : (t : Table) (states : List State) (n : ℕ) (xs : List ℕ) (node last : ℕ) → AreLinked t states → length xs ≡ length states → last < length states → Visits states xs node last → EndsWithin t n node → ⊥
never t states n xs node last linked len w v ended =
    let most = length-le_from_distinct_below (xs ++ last ∷ []) (length states) (distinct t states n xs node last linked ended v) (below states (length states) xs node last refl w v) in
    let sum = length-append xs (last ∷ []) in
    omega (arith, most, sum, len)

-- ---- the way behind walks

pub record IsChain (t : Table) (states : List State) (node behind count : ℕ) : Type 0 where
  pub passed : List ℕ
  pub long : length passed ≡ count
  pub visits : Visits states passed node behind
  pub has : HasNode t.starts.items behind
  pub waits : has_ended states behind ≡ false
  pub from : (start : Start) → IsNodeAt t.starts.items node start → (names : Path) → (rest : Path) × Come t.rows.items (with_path (stand t.rows.items start) names) (with_path (stand t.rows.items has.0) rest)

pub chain_begins : (t : Table) (states : List State) (node : ℕ) → HasNode t.starts.items node → has_ended states node ≡ false → IsChain t states node node 0
chain_begins t states node has waits = record {
  passed = [];
  long = refl;
  visits = refl;
  has = has;
  waits = waits;
  from = λ start is names. (names, subst (λ x. Come t.rows.items (with_path (stand t.rows.items start) names) (with_path (stand t.rows.items x) names)) (same_Some start has.0 (sym is ∙ has.1)) (come_here t.rows.items (with_path (stand t.rows.items start) names)));
}

pub chain_within : (t : Table) (states : List State) (node behind count : ℕ) → AreLinked t states → IsChain t states node behind count → behind < length states
chain_within t states node behind count linked is =
    let w = slice_get_within t.starts.items behind is.has.0 is.has.1 in
    omega (arith, w, linked.are_states.one_each)

pub chain_goes : (t : Table) (states : List State) (node behind next left count : ℕ) → AreLinked t states → IsChain t states node behind count → slice_get states behind ≡ Some (Behind next left) → IsChain t states node next (suc count)
chain_goes t states node behind next left count linked is e =
    let b = linked.are_states.sound behind is.has.0 (Behind next left) is.has.1 e in
    let names = last_names left (names_of t.rows.items is.has.0) in
    record {
      passed = is.passed ++ behind ∷ [];
      long = length-append is.passed (behind ∷ []) ∙ (ap (λ n. n + 1) is.long ∙ omega arith);
      visits = visits_more states is.passed node behind next left is.visits e;
      has = (b.gets.other, b.gets.is_other);
      waits = linked.quiet behind (Behind next left) e;
      from = λ start at more.
          let f = is.from start at more in
          let whole = come_on t.rows.items (stand t.rows.items is.has.0) b.next _ (come_by_turn t.rows.items (stand t.rows.items is.has.0) b.next b.is_next) b.gets.come in (
            names ++ f.0,
            come_on t.rows.items (with_path (stand t.rows.items start) more) (with_path (stand t.rows.items is.has.0) f.0) (with_path (stand t.rows.items b.gets.other) (names ++ f.0)) f.1
                (subst (Come t.rows.items (with_path (stand t.rows.items is.has.0) f.0)) (with_twice (stand t.rows.items b.gets.other) names f.0)
                (come_with t.rows.items (stand t.rows.items is.has.0) (with_path (stand t.rows.items b.gets.other) names) f.0 whole)),
          );
    }

pub chain_absent : (t : Table) (states : List State) (node behind count : ℕ) (start : Start) (answer : Option ℕ) → AreLinked t states → IsChain t states node behind count → slice_get states behind ≡ Some Absent → IsNodeAt t.starts.items behind start → answer ≡ id_of_start start → MatchOption answer (WaitsForever t node) (WaitsFor t node)
chain_absent t states node behind count start answer linked is e at is_answer =
    subst (λ o. MatchOption o (WaitsForever t node) (WaitsFor t node)) (sym is_answer)
    (go start at (linked.are_states.sound behind start Absent at e) (same_Some is.has.0 start (sym is.has.1 ∙ at)))
  where
    go : (start : Start) → IsNodeAt t.starts.items behind start → HasNoRow t.rows.items start → is.has.0 ≡ start → MatchOption (id_of_start start) (WaitsForever t node) (WaitsFor t node)
    go (AtPlace s) at none same = absurd none
    go (Id id) at none same = λ first is_first names.
        let f = is.from first is_first names in (
          f.0,
          ends_come t.rows.items (with_path (stand t.rows.items first) names) (to id f.0) (not_yet id f.0)
              (subst (λ x. Come t.rows.items (with_path (stand t.rows.items first) names) (with_path (stand t.rows.items x) f.0)) same f.1)
              (turn_ends t.rows.items (to id f.0) (not_yet id f.0) (absent_turn t.rows.items id f.0 none)),
        )

pub chain_ended : {A : Type 0} (t : Table) (states : List State) (node behind count : ℕ) (state : State) → IsChain t states node behind count → slice_get states behind ≡ Some state → is_done state ≡ true → A
chain_ended t states node behind count state is e done = absurd (false≢true (sym (not_done states behind state e is.waits) ∙ done))

pub chain_whole : (t : Table) (states : List State) (node behind count : ℕ) → AreLinked t states → IsChain t states node behind count → count ≡ length states → WaitsForever t node
chain_whole t states node behind count linked is len start at names = endless-longer t.rows.items (stand t.rows.items start) names (λ n. go n (walk_by n t.rows.items (stand t.rows.items start)) refl)
  where
    go : (n : ℕ) (o : Option Found) → walk_by n t.rows.items (stand t.rows.items start) ≡ o → walk_by n t.rows.items (stand t.rows.items start) ≡ None
    go n None e = e
    go n (Some f) e = absurd (never t states n is.passed node behind linked (is.long ∙ len) (chain_within t states node behind count linked is) is.visits (start, f, at, e))
