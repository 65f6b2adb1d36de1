-- Walks go on and are put where they stand, until none is queued.
use Rattle.std.proofs.Common.{◌≡◌, ◌≢◌, ℕ, zero, suc, ◌+◌, ◌-◌, ◌<◌, ◌≤◌, true, false, Bool, List, [], ◌∷◌, ◌++◌, length, take, Option, Some, None, slice_get, slice_set, get_or, refl, sym, ◌∙◌, ap, subst, arith, inl, inr, ◌⊎◌, length-append}
use Rattle.std.specs.Prelude.{sum_by}
use Rattle.std.proofs.lemmas.Bool.{false≢true}
use Rattle.std.proofs.lemmas.List.{length-set}
use Rattle.std.proofs.lemmas.List.Sums.{sum_by-set, sum_by-cons, sum_by_push}
use Rattle.std.proofs.lemmas.Option.{none-some, same_Some, slice_get_within, get_or_from_slice_get}
use Rattle.flight_meaning.proofs.MoreRows.{slice_get-front}
use Rattle.flight_link.specs.declared.fresh.Fresh.{Fresh}
use Rattle.flight_link.specs.declared.node.Start.{Start}
use Rattle.flight_link.specs.declared.node.Start.TheVariants.{Id}
use Rattle.flight_link.specs.declared.node.State.{State}
use Rattle.flight_link.specs.declared.node.State.TheVariants.{Absent, Ended, Lost, Behind}
use Rattle.flight_link.specs.declared.table.Table.{Table}
use Rattle.flight_link.specs.declared.backlog.Backlog.{Backlog}
use Rattle.flight_meaning.specs.declared.place.PlaceTree.{PlaceTree}
use Rattle.flight_meaning.specs.declared.place.PlacedRow.{PlacedRow}
use Rattle.flight_meaning.specs.Resolve.{to}
use Rattle.flight_link.specs.Growth.{MayCome, root_of}
use Rattle.flight_link.specs.Nodes.{IsTable}
use Rattle.flight_link.specs.Nodes.{is_done, is_ended, has_ended, IsQuiet, AreQuiet, AreStates, HasNode, IsSound, Moves, steps_left}
use Rattle.flight_link.specs.Backlogs.{cell, IsRun, IsOf, IsQueued, IsLast, StandsBehind, IsTaken, IsListed, to_come, AreListed, AreBegun, IsAtRest, Puts, GoesOn, to_do}
use Rattle.flight_link.proofs.Settling.{set_there, same_or, states_set}
use Rattle.flight_link.proofs.Growing.{push_get, append_get, get_before, absent_ended, on_there}
use Rattle.flight_link.proofs.Backlogs.{queued_on, put_listed, behind_stays, behind_was}

-- ---- a walk goes on

pub is_there : {A : Type 0} (xs : List A) (n : ℕ) → n < length xs → (x : A) × (slice_get xs n ≡ Some x)
is_there [] n w = let no : ⊥ = omega (arith, w) in absurd no
is_there (x ∷ xs) zero w = (x, refl)
is_there (x ∷ xs) (suc n) w = is_there xs n (omega (arith, w))

start_there : (t : Table) (states : List State) (n : ℕ) → AreStates t states → n < length states → HasNode t.starts.items n
start_there t states n are w = is_there t.starts.items n (let e = are.one_each in omega (arith, w, e))

same_left : (a m b l : ℕ) → Behind a m ≡ Behind b l → m ≡ l
same_left a m b l e = cc

pub goes_on : (t : Table) (states : List State) (n behind left : ℕ) (state new : State) → AreStates t states → slice_get states n ≡ Some state → state ≡ Behind behind left → Moves t (record { node = n; behind = behind; left = left }) new → IsQuiet states new → GoesOn t states n new
goes_on t states n behind left state new are at is moves quiet = record {
  sound = λ start e. (moves start e).0;
  quiet = quiet;
  ended = λ e. absurd (false≢true (sym (ap is_ended (at ∙ ap Some is)) ∙ e));
  fewer = λ m l e d. let s : left ≡ l = same_left behind left m l (same_Some (Behind behind left) (Behind m l) (sym (at ∙ ap Some is) ∙ e)) in subst (λ k. steps_left new ≤ k) s (moves start.0 start.1).1;
}
  where
    start : HasNode t.starts.items n
    start = start_there t states n are (slice_get_within states n state at)

sound_node : (t : Table) (start : Start) (state : State) (m left : ℕ) → IsSound t.rows.items t.starts.items start state → state ≡ Behind m left → HasNode t.starts.items m
sound_node t start state m left s e = let g = (subst (IsSound t.rows.items t.starts.items start) e s).gets in (g.other, g.is_other)

pub behind_within : (t : Table) (states : List State) (n m : ℕ) → AreStates t states → StandsBehind states n m → m < length states
behind_within t states n m are b =
    let start = start_there t states n are (slice_get_within states n (Behind m b.0) b.1) in
    let node = sound_node t start.0 (Behind m b.0) m b.0 (are.sound n start.0 (Behind m b.0) start.1 b.1) refl in
    let w = slice_get_within t.starts.items m node.0 node.1 in
    let e = are.one_each in
    omega (arith, w, e)

pub goes_within : (t : Table) (states : List State) (n m left : ℕ) (new : State) → AreStates t states → n < length states → GoesOn t states n new → new ≡ Behind m left → m < length states
goes_within t states n m left new are w goes is =
    let start = start_there t states n are w in
    let node = sound_node t start.0 new m left (goes.sound start.0 start.1) is in
    let v = slice_get_within t.starts.items m node.0 node.1 in
    let e = are.one_each in
    omega (arith, v, e)

pub goes_states : (t : Table) (states : List State) (n : ℕ) (new : State) → AreStates t states → n < length states → GoesOn t states n new → AreStates t (slice_set states n new)
goes_states t states n new are w goes = let old = is_there states n w in states_set t states n old.0 new are old.1 goes.sound

pub goes_listed : (t : Table) (count n : ℕ) (states after : List State) (new : State) (b c : Backlog) → AreStates t states → n < length states → length states ≤ length b.first.items → length states ≤ length b.next.items → GoesOn t states n new → Puts b n new c → after ≡ slice_set states n new → n < count → AreListed count (Some n) states b → AreListed count None after c
goes_listed t count n states after new b c are w first next goes puts is below listed =
    subst (λ x. AreListed count None x c) (sym is)
    (put_listed count n states new b c w below (omega (arith, w, next)) (λ m left e. let v = goes_within t states n m left new are w goes e in omega (arith, v, first)) goes.ended goes.quiet puts listed)

pub goes_fewer : (t : Table) (n : ℕ) (states after : List State) (new : State) (b c : Backlog) → AreStates t states → n < length states → GoesOn t states n new → Puts b n new c → after ≡ slice_set states n new → (m : ℕ) → StandsBehind states n m → has_ended states m ≡ true → to_do after c < to_do states b
goes_fewer t n states after new b c are w goes puts is m s done =
    let less = goes.fewer m s.0 s.1 done in
    let e = sum_by-set steps_left states n new Lost w in
    let f : steps_left (get_or states n Lost) ≡ suc s.0 = ap steps_left (get_or_from_slice_get states n (Behind m s.0) Lost s.1) in
    let g = ap (sum_by steps_left) is in
    let on = (queued_on b c n new puts).count in
    omega (arith, less, e, f, g, on)

-- ---- the last that is queued leaves

last_at : (xs : List ℕ) (k m : ℕ) → slice_get xs k ≡ Some m → suc k ≡ length xs → xs ≡ take k xs ++ m ∷ []
last_at [] k m e l = absurd (none-some m e)
last_at (x ∷ []) zero m e l = ap (λ y. y ∷ []) (same_Some x m e)
last_at (x ∷ y ∷ ys) zero m e l = let no : ⊥ = omega (arith, l) in absurd no
last_at (x ∷ xs) (suc k) m e l = ap (λ y. x ∷ y) (last_at xs k m e (omega (arith, l)))

pub last_queued : (xs : List ℕ) (m : ℕ) → IsLast xs m → IsQueued xs m
last_queued xs m e = (length xs - 1, e)

pub last_is : (xs : List ℕ) (m : ℕ) → IsLast xs m → xs ≡ take (length xs - 1) xs ++ m ∷ []
last_is xs m e = let w = slice_get_within xs (length xs - 1) m e in last_at xs (length xs - 1) m e (omega (arith, w))

no_run : (next : List (Option ℕ)) (o : Option ℕ) (n : ℕ) (xs : List ℕ) → o ≡ None → IsRun next o xs → IsOf n xs → ⊥
no_run next None n [] e h i = i
no_run next None n (x ∷ xs) e h i = h
no_run next (Some m) n xs e h i = none-some m (sym e)

pub leave_listed : (count m : ℕ) (states : List State) (b c : Backlog) → IsLast b.ended.items m → cell b.first.items m ≡ None → c.first.items ≡ b.first.items → c.next.items ≡ b.next.items → c.ended.items ≡ take (length b.ended.items - 1) b.ended.items → AreListed count None states b → AreListed count None states c × (to_do states c < to_do states b)
leave_listed count m states b c last empty first next is are = (
  record {
    lists = λ k. subst (λ x. IsListed count None states x k (cell c.first.items k)) (sym next) (subst (λ x. IsListed count None states b.next.items k (cell x k)) (sym first) (are.lists k));
    ended = λ k q. are.ended k (q.0, ap (λ x. slice_get x q.0) whole ∙ slice_get-front c.ended.items (m ∷ []) q.0 k q.1);
    loose = λ n k t s e. elim (are.loose n k t s e) [ inl x ↦ inl x | inr q ↦ inr (kept n k t s (push_get c.ended.items m q.0 k (ap (λ x. slice_get x q.0) (sym whole) ∙ q.1)) q.0) ];
    few = let l = shorter in let f = are.few in omega (arith, l, f);
  },
  (let l = shorter in omega (arith, l)),
)
  where
    whole : b.ended.items ≡ c.ended.items ++ m ∷ []
    whole = last_is b.ended.items m last ∙ ap (λ x. x ++ m ∷ []) (sym is)

    shorter : length b.ended.items ≡ length c.ended.items + 1
    shorter = ap length whole ∙ length-append c.ended.items (m ∷ [])

    kept : (n k : ℕ) → IsTaken count None n → StandsBehind states n k → {j : ℕ} → (slice_get c.ended.items j ≡ Some k) ⊎ ((j ≡ length c.ended.items) × (m ≡ k)) → ℕ → IsQueued c.ended.items k
    kept n k t s {j = j} (inl h) x = (j, h)
    kept n k t s (inr p) x = absurd (no_run b.next.items (cell b.first.items m) n (are.lists m).nodes empty (are.lists m).run ((are.lists m).each n t (subst (StandsBehind states n) (sym p.1) s)))

-- ---- none is queued any more

pub drained : (t : Table) (states : List State) (b : Backlog) → AreStates t states → b.ended.items ≡ [] → AreListed (length states) None states b → AreQuiet states
drained t states b are none listed n state e = go state e
  where
    not_queued : (m : ℕ) → IsQueued b.ended.items m → ⊥
    not_queued m q = none-some m (ap (λ x. slice_get x q.0) (sym none) ∙ q.1)

    ended : (m left : ℕ) (v : Bool) → slice_get states n ≡ Some (Behind m left) → has_ended states m ≡ v → has_ended states m ≡ false
    ended m left false is d = d
    ended m left true is d = elim (listed.loose n m (slice_get_within states n (Behind m left) is, λ x. none-some n x) (left, is) d) [ inl x ↦ absurd (none-some m x) | inr q ↦ absurd (not_queued m q) ]

    go : (state : State) → slice_get states n ≡ Some state → IsQuiet states state
    go Absent is = tt
    go (Ended s) is = tt
    go Lost is = tt
    go (Behind m left) is = ended m left (has_ended states m) is refl

-- ---- the next of the nodes that are not in the lists yet

pub next_listed : (n : ℕ) (states : List State) (b : Backlog) → n < length states → has_ended states n ≡ false → AreListed n None states b → AreListed (n + 1) (Some n) states b
next_listed n states b w waits are = record {
  lists = λ m. let l = are.lists m in record {
    nodes = l.nodes;
    run = l.run;
    behind = λ k i. let h = l.behind k i in ((more k h.0.0, λ e. other k h.0.0 (same_Some n k e)), h.1);
    each = λ k t s. l.each k (fewer k t, λ e. none-some k e) s;
  };
  ended = are.ended;
  loose = λ k m t s e. elim (are.loose k m (fewer k t, λ x. none-some k x) s e) [ inl x ↦ absurd (none-some m x) | inr q ↦ inr q ];
  few = few (is_there states n w) waits;
}
  where
    more : (k : ℕ) → k < n → k < n + 1
    more k h = omega (arith, h)

    other : (k : ℕ) → k < n → n ≡ k → ⊥
    other k h e = omega (arith, h, e)

    fewer : (k : ℕ) → IsTaken (n + 1) (Some n) k → k < n
    fewer k t = let ne : n ≢ k = λ e. t.1 (ap Some e) in let h = t.0 in omega (arith, h, ne)

    one : (state : State) → is_done state ≡ false → to_come state ≡ 1
    one Absent d = refl
    one (Behind m left) d = refl
    one (Ended s) d = absurd (false≢true (sym d))
    one Lost d = absurd (false≢true (sym d))

    few : ((state : State) × (slice_get states n ≡ Some state)) → has_ended states n ≡ false → length b.ended.items + sum_by to_come (slice_set states n Absent) ≤ length states
    few old d =
        let a = sum_by-set to_come states n Absent Lost w in
        let x : to_come (get_or states n Lost) ≡ 1 = ap to_come (get_or_from_slice_get states n old.0 Lost old.1) ∙ one old.0 (sym (ap is_ended old.1) ∙ d) in
        let f = are.few in
        omega (arith, a, x, f)

-- ---- cells that are added

run_same : (next after : List (Option ℕ)) (o : Option ℕ) (xs : List ℕ) → ((n : ℕ) → cell after n ≡ cell next n) → IsRun next o xs → IsRun after o xs
run_same next after None [] same h = h
run_same next after None (x ∷ xs) same h = h
run_same next after (Some n) [] same h = h
run_same next after (Some n) (x ∷ xs) same h = (h.0, subst (λ o. IsRun after o xs) (sym (same n)) (run_same next after (cell next n) xs same h.1))

pub rest_same : (states : List State) (b c : Backlog) → ((n : ℕ) → cell c.first.items n ≡ cell b.first.items n) → ((n : ℕ) → cell c.next.items n ≡ cell b.next.items n) → c.ended.items ≡ b.ended.items → IsAtRest states b → IsAtRest states c
rest_same states b c first next ended rest = record {
  are_listed = record {
    lists = λ m. let l = rest.are_listed.lists m in record {
      nodes = l.nodes;
      run = subst (λ o. IsRun c.next.items o l.nodes) (sym (first m)) (run_same b.next.items c.next.items (cell b.first.items m) l.nodes next l.run);
      behind = l.behind;
      each = l.each;
    };
    ended = λ m q. rest.are_listed.ended m (q.0, ap (λ x. slice_get x q.0) (sym ended) ∙ q.1);
    loose = λ n m t s e. elim (rest.are_listed.loose n m t s e) [ inl x ↦ inl x | inr q ↦ inr (q.0, ap (λ x. slice_get x q.0) ended ∙ q.1) ];
    few = let l = ap length ended in let f = rest.are_listed.few in omega (arith, l, f);
  };
  none = ended ∙ rest.none;
}

-- ---- a node without a row

pub rest_absent : (states new : List State) (b : Backlog) → new ≡ states ++ Absent ∷ [] → IsAtRest states b → IsAtRest new b
rest_absent states new b is rest = subst (λ x. IsAtRest x b) (sym is) (record {
  are_listed = record {
    lists = λ m. let l = rest.are_listed.lists m in record {
      nodes = l.nodes;
      run = l.run;
      behind = λ n i. let h = l.behind n i in ((more n h.0.0, h.0.1), (h.1.0, slice_get-front states (Absent ∷ []) n (Behind m h.1.0) h.1.1));
      each = λ n t s. let old = was n m s in l.each n (slice_get_within states n (Behind m old.0) old.1, t.1) old;
    };
    ended = λ m q. absurd (not_queued m q);
    loose = λ n m t s e. let old = was n m s in rest.are_listed.loose n m (slice_get_within states n (Behind m old.0) old.1, t.1) old (sym (absent_ended states m) ∙ e);
    few = let a = sum_by_push to_come states Absent in let l = length-append states (Absent ∷ []) in let f = rest.are_listed.few in omega (arith, a, l, f);
  };
  none = rest.none;
})
  where
    not_queued : (m : ℕ) → IsQueued b.ended.items m → ⊥
    not_queued m q = none-some m (ap (λ x. slice_get x q.0) (sym rest.none) ∙ q.1)

    more : (n : ℕ) → n < length states → n < length (states ++ Absent ∷ [])
    more n w = let l = length-append states (Absent ∷ []) in omega (arith, w, l)

    was : (n m : ℕ) → StandsBehind (states ++ Absent ∷ []) n m → StandsBehind states n m
    was n m s = elim (push_get states Absent n (Behind m s.0) s.1) [ inl h ↦ (s.0, h) | inr p ↦ absurd (clash m s.0 p.1) ]
      where
        clash : (m left : ℕ) → Absent ≡ Behind m left → ⊥
        clash m left e = cc

pub ended_within : (states : List State) (m : ℕ) → has_ended states m ≡ true → m < length states
ended_within states m e = go (slice_get states m) refl e
  where
    go : (o : Option State) → slice_get states m ≡ o → is_ended o ≡ true → m < length states
    go None is d = absurd (false≢true d)
    go (Some state) is d = slice_get_within states m state is

-- ---- a row has come

few_to_come : (states : List State) → sum_by to_come states ≤ length states
few_to_come [] = omega arith
few_to_come (s ∷ states) =
    let a = sum_by-cons to_come s states in
    let b = few_to_come states in
    let d = one s in
    omega (arith, a, b, d)
  where
    one : (state : State) → to_come state ≤ 1
    one Absent = omega arith
    one (Ended e) = omega arith
    one Lost = omega arith
    one (Behind m left) = omega arith

begun : (states more : List State) (node : ℕ) (x : State) (b : Backlog) → node < length states → ((m left : ℕ) → slice_get states node ≡ Some (Behind m left) → ⊥) → ((k : ℕ) (state : State) → slice_get more k ≡ Some state → is_done state ≡ false) → ((n m : ℕ) → StandsBehind states n m → m < length states) → AreQuiet states → IsAtRest states b → AreBegun (length states) node (slice_set (states ++ more) node x) b
begun states more node x b w isnt waiting within quiet rest = record {
  are_listed = record {
    lists = λ m. let l = rest.are_listed.lists m in record {
      nodes = l.nodes;
      run = l.run;
      behind = λ k i.
          let h = l.behind k i in
          let ne : node ≢ k = λ e. isnt m h.1.0 (ap (slice_get states) e ∙ h.1.1) in
          ((h.0.0, λ p. ne (same_Some node k p)), behind_stays (states ++ more) node k m x ne (h.1.0, slice_get-front states more k (Behind m h.1.0) h.1.1));
      each = λ k t s. l.each k (t.0, λ e. none-some k e) (was k m t s);
    };
    ended = λ m q. absurd (none-some m (ap (λ y. slice_get y q.0) (sym rest.none) ∙ q.1));
    loose = λ k m t s e. loose k m (was k m t s) e (same_or node m);
    few =
        let a = few_to_come (slice_set (slice_set (states ++ more) node x) node Absent) in
        let l = length-set (slice_set (states ++ more) node x) node Absent in
        let z = ap (λ (y : List ℕ). length y) rest.none in
        omega (arith, a, l, z);
  };
  fresh = λ n v. let ne : node ≢ n = omega (arith, w, v) in ap is_ended (set_there (states ++ more) node n x ne) ∙ fresh n v (slice_get (states ++ more) n) refl;
}
  where
    was : (k m : ℕ) → IsTaken (length states) (Some node) k → StandsBehind (slice_set (states ++ more) node x) k m → StandsBehind states k m
    was k m t s =
        let ne : node ≢ k = λ e. t.1 (ap Some e) in
        let old = behind_was (states ++ more) node k m x ne s in
        (old.0, sym (get_before states more k t.0) ∙ old.1)

    loose : (k m : ℕ) → StandsBehind states k m → has_ended (slice_set (states ++ more) node x) m ≡ true → (node ≡ m) ⊎ (node ≢ m) → (Some node ≡ Some m) ⊎ IsQueued b.ended.items m
    loose k m s e (inl p) = inl (ap Some p)
    loose k m s e (inr ne) = absurd (false≢true (sym (quiet k (Behind m s.0) s.1) ∙ (sym (ap is_ended (get_before states more m (within k m s))) ∙ (sym (ap is_ended (set_there (states ++ more) node m x ne)) ∙ e))))

    fresh : (n : ℕ) → length states ≤ n → (o : Option State) → slice_get (states ++ more) n ≡ o → has_ended (states ++ more) n ≡ false
    fresh n v None e = ap is_ended e
    fresh n v (Some state) e = ap is_ended e ∙ elim (append_get states more n state e) [ inl h ↦ absurd (let u = slice_get_within states n state h in let bad : ⊥ = omega (arith, u, v) in bad) | inr p ↦ waiting p.0 state p.2 ]

pub row_begun : (t : Table) (r : PlacedRow) (f : Fresh) (node : ℕ) (states new : List State) (b : Backlog) → IsTable t → MayCome t r f node → AreStates t states → new ≡ slice_set (states ++ f.states.items) node (root_of f.index.items (length t.rows.items)) → AreQuiet states → IsAtRest states b → AreBegun (length states) node new b
row_begun t r f node states new b table may are is quiet rest =
    subst (λ x. AreBegun (length states) node x b) (sym is)
    (begun states f.states.items node (root_of f.index.items (length t.rows.items)) b (let v = slice_get_within t.starts.items node (Id r.id) may.is_node in let e = are.one_each in omega (arith, v, e)) isnt waiting (λ n m s. behind_within t states n m are s) quiet rest)
  where
    isnt : (m left : ℕ) → slice_get states node ≡ Some (Behind m left) → ⊥
    isnt m left e =
        let h = are.sound node (Id r.id) (Behind m left) may.is_node e in
        let there = on_there t.rows.items (to r.id []) h.next h.is_next in
        none-some there.0 (ap (λ (x : List PlaceTree). slice_get x 0) (sym may.none) ∙ there.1)

    waiting : (k : ℕ) (state : State) → slice_get f.states.items k ≡ Some state → is_done state ≡ false
    waiting k state e =
        let v = slice_get_within f.states.items k state e in
        let s = is_there f.starts.items k (let c = may.fresh.same_count in omega (arith, v, c)) in
        ap is_done (may.fresh.nodes k s.0 state s.1 e).is_state
