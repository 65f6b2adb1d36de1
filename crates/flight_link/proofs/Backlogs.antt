-- Walks in lists: one is taken out of its list, and one comes into a list or into the queue.
use Rattle.std.proofs.Common.{◌≡◌, ◌≢◌, ℕ, zero, suc, ◌+◌, ◌<◌, ◌≤◌, true, false, List, [], ◌∷◌, ◌++◌, length, Option, Some, None, option_and_then, slice_get, slice_set, get_or, refl, sym, ◌∙◌, ap, subst, arith, inl, inr, ◌⊎◌, length-append}
use Rattle.std.specs.Prelude.{sum_by}
use Rattle.std.proofs.lemmas.Bool.{false≢true}
use Rattle.std.proofs.lemmas.List.{length-set}
use Rattle.std.proofs.lemmas.List.Sums.{sum_by-set}
use Rattle.std.proofs.lemmas.Option.{none-some, same_Some, slice_get_within, get_or_from_slice_get}
use Rattle.flight_meaning.proofs.MoreRows.{slice_get-front}
use Rattle.flight_link.specs.declared.node.State.{State}
use Rattle.flight_link.specs.declared.node.State.TheVariants.{Absent, Ended, Lost, Behind}
use Rattle.flight_link.specs.declared.backlog.Backlog.{Backlog}
use Rattle.flight_link.specs.Nodes.{is_done, is_ended, has_ended, IsQuiet}
use Rattle.flight_link.specs.Backlogs.{cell, IsRun, IsOf, IsQueued, StandsBehind, IsTaken, IsListed, to_come, AreListed, Puts, IsTakenFrom}
use Rattle.flight_link.proofs.Settling.{set_there, same_or}
use Rattle.flight_link.proofs.Growing.{push_get, push_at}

-- ---- runs

-- a run is determined by where it begins
same_length : (next : List (Option ℕ)) (o : Option ℕ) (xs ys : List ℕ) → IsRun next o xs → IsRun next o ys → length xs ≡ length ys
same_length next None [] [] h k = refl
same_length next None [] (y ∷ ys) h k = absurd k
same_length next None (x ∷ xs) ys h k = absurd h
same_length next (Some n) [] ys h k = absurd h
same_length next (Some n) (x ∷ xs) [] h k = absurd k
same_length next (Some n) (x ∷ xs) (y ∷ ys) h k = ap suc (same_length next (cell next n) xs ys h.1 k.1)

-- behind one of a run there are fewer
behind_one : (next : List (Option ℕ)) (o : Option ℕ) (n : ℕ) (xs : List ℕ) → IsRun next o xs → IsOf n xs → (ys : List ℕ) × IsRun next (cell next n) ys × (length ys < length xs)
behind_one next None n [] h i = absurd i
behind_one next None n (x ∷ xs) h i = absurd h
behind_one next (Some m) n [] h i = absurd h
behind_one next (Some m) n (x ∷ xs) h (inl e) = (xs, subst (λ k. IsRun next (cell next k) xs) (h.0 ∙ e) h.1, omega arith)
behind_one next (Some m) n (x ∷ xs) h (inr i) = let r = behind_one next (cell next m) n xs h.1 i in (r.0, r.1, omega (arith, r.2))

-- what stands behind a node in a run is not the node
not_behind : (next : List (Option ℕ)) (n : ℕ) (xs : List ℕ) → IsRun next (cell next n) xs → IsOf n xs → ⊥
not_behind next n xs h i =
    let r = behind_one next (cell next n) n xs h i in
    let e = same_length next (cell next n) xs r.0 h r.1 in
    omega (arith, r.2, e)

-- a run stays where another node gets a new next
run_stays : (next : List (Option ℕ)) (n : ℕ) (v o : Option ℕ) (xs : List ℕ) → IsRun next o xs → (IsOf n xs → ⊥) → IsRun (slice_set next n v) o xs
run_stays next n v None [] h out = h
run_stays next n v None (x ∷ xs) h out = h
run_stays next n v (Some m) [] h out = h
run_stays next n v (Some m) (x ∷ xs) h out =
    let ne : n ≢ m = λ e. out (inl (sym h.0 ∙ sym e)) in
    let e : cell (slice_set next n v) m ≡ cell next m = ap (option_and_then (λ o. o)) (set_there next n m v ne) in
    (h.0, subst (λ o. IsRun (slice_set next n v) o xs) (sym e) (run_stays next n v (cell next m) xs h.1 (λ i. out (inr i))))

pub cell_here : (cells : List (Option ℕ)) (n : ℕ) (v : Option ℕ) → n < length cells → cell (slice_set cells n v) n ≡ v
cell_here [] n v w = let no : ⊥ = omega (arith, w) in absurd no
cell_here (c ∷ cells) zero v w = refl
cell_here (c ∷ cells) (suc n) v w = cell_here cells n v (omega (arith, w))

pub cell_there : (cells : List (Option ℕ)) (n m : ℕ) (v : Option ℕ) → n ≢ m → cell (slice_set cells n v) m ≡ cell cells m
cell_there cells n m v ne = ap (option_and_then (λ o. o)) (set_there cells n m v ne)

-- ---- states

pub at_set : (states : List State) (n : ℕ) (new : State) → n < length states → slice_get (slice_set states n new) n ≡ Some new
at_set [] n new w = let no : ⊥ = omega (arith, w) in absurd no
at_set (s ∷ states) zero new w = refl
at_set (s ∷ states) (suc n) new w = at_set states n new (omega (arith, w))

pub behind_stays : (states : List State) (n k m : ℕ) (new : State) → n ≢ k → StandsBehind states k m → StandsBehind (slice_set states n new) k m
behind_stays states n k m new ne b = (b.0, set_there states n k new ne ∙ b.1)

pub behind_was : (states : List State) (n k m : ℕ) (new : State) → n ≢ k → StandsBehind (slice_set states n new) k m → StandsBehind states k m
behind_was states n k m new ne b = (b.0, sym (set_there states n k new ne) ∙ b.1)

same_behind : (a m b l : ℕ) → Behind a m ≡ Behind b l → a ≡ b
same_behind a m b l e = cc

behind_one_node : (states : List State) (n a b : ℕ) → StandsBehind states n a → StandsBehind states n b → a ≡ b
behind_one_node states n a b h k = same_behind a h.0 b k.0 (same_Some (Behind a h.0) (Behind b k.0) (sym h.1 ∙ k.1))

-- a state stands behind a node
IsBehind : State → ℕ → Type 0
IsBehind state m = (left : ℕ) × (state ≡ Behind m left)

-- ---- a walk comes into a list

-- the other lists stay
keeps_list : (count n m : ℕ) (states : List State) (new : State) (next next' : List (Option ℕ)) (o : Option ℕ) → n < length states → ((left : ℕ) → new ≡ Behind m left → ⊥) → ((xs : List ℕ) → IsRun next o xs → (IsOf n xs → ⊥) → IsRun next' o xs) → IsListed count (Some n) states next m o → IsListed count None (slice_set states n new) next' m o
keeps_list count n m states new next next' o w not stays l = record {
  nodes = l.nodes;
  run = stays l.nodes l.run (λ i. (l.behind n i).0.1 refl);
  behind = λ k i. let b = l.behind k i in let ne : n ≢ k = λ e. b.0.1 (ap Some e) in ((b.0.0, λ e. none-some k e), behind_stays states n k m new ne b.1);
  each = λ k t b. elim (same_or n k) [
    | inl e ↦ absurd (not b.0 (same_Some new (Behind m b.0) (sym (at_set states n new w) ∙ (ap (slice_get (slice_set states n new)) e ∙ b.1))))
    | inr ne ↦ l.each k (t.0, λ e. ne (same_Some n k e)) (behind_was states n k m new ne b)
  ];
}

-- the list of the node behind which it stands grows by it
more_in_list : (count n m left : ℕ) (states : List State) (next : List (Option ℕ)) (o : Option ℕ) → n < length states → n < count → n < length next → IsListed count (Some n) states next m o → IsListed count None (slice_set states n (Behind m left)) (slice_set next n o) m (Some n)
more_in_list count n m left states next o w below v l = record {
  nodes = n ∷ l.nodes;
  run = (refl, subst (λ x. IsRun (slice_set next n o) x l.nodes) (sym (cell_here next n o v)) (run_stays next n o o l.nodes l.run (λ i. (l.behind n i).0.1 refl)));
  behind = λ k i. elim i [
    | inl e ↦ ((subst (λ x. x < count) e below, λ p. none-some k p), (left, ap (slice_get (slice_set states n (Behind m left))) (sym e) ∙ at_set states n (Behind m left) w))
    | inr j ↦ let b = l.behind k j in let ne : n ≢ k = λ e. b.0.1 (ap Some e) in ((b.0.0, λ p. none-some k p), behind_stays states n k m (Behind m left) ne b.1)
  ];
  each = λ k t b. elim (same_or n k) [
    | inl e ↦ inl e
    | inr ne ↦ inr (l.each k (t.0, λ e. ne (same_Some n k e)) (behind_was states n k m (Behind m left) ne b))
  ];
}

-- ---- counts

few_more : (states : List State) (n count : ℕ) (new : State) → n < length states → count + sum_by to_come (slice_set states n Absent) ≤ length states → (count + 1) + sum_by to_come (slice_set states n new) ≤ length (slice_set states n new) + to_come new
few_more states n count new w few =
    let a = sum_by-set to_come states n Absent Lost w in
    let b = sum_by-set to_come states n new Lost w in
    let c = length-set states n new in
    omega (arith, a, b, c, few)

-- ---- a walk is put where it stands

listed_in : (count : ℕ) (but : Option ℕ) (states : List State) (next next' : List (Option ℕ)) (m : ℕ) (o o' : Option ℕ) → next' ≡ next → o' ≡ o → IsListed count but states next m o → IsListed count but states next' m o'
listed_in count but states next next' m o o' e f l = subst (λ x. IsListed count but states x m o') (sym e) (subst (IsListed count but states next m) (sym f) l)

put_lists : (count n : ℕ) (states : List State) (new : State) (b c : Backlog) → n < length states → n < count → n < length b.next.items → ((m left : ℕ) → new ≡ Behind m left → m < length b.first.items) → Puts b n new c → ((m : ℕ) → IsListed count (Some n) states b.next.items m (cell b.first.items m)) → (m : ℕ) → IsListed count None (slice_set states n new) c.next.items m (cell c.first.items m)
put_lists count n states (Behind at left) b c w below v u p l m = elim (same_or at m) [
  | inl e ↦
      subst (λ x. IsListed count None (slice_set states n (Behind at left)) c.next.items x (cell c.first.items x)) e
      (listed_in count None (slice_set states n (Behind at left)) (slice_set b.next.items n (cell b.first.items at)) c.next.items at (Some n) (cell c.first.items at) p.next_is
      (ap (λ x. cell x at) p.first_is ∙ cell_here b.first.items at (Some n) (u at left refl))
      (more_in_list count n at left states b.next.items (cell b.first.items at) w below v (l at)))
  | inr ne ↦
      listed_in count None (slice_set states n (Behind at left)) (slice_set b.next.items n (cell b.first.items at)) c.next.items m (cell b.first.items m) (cell c.first.items m) p.next_is
      (ap (λ x. cell x m) p.first_is ∙ cell_there b.first.items at m (Some n) ne)
      (keeps_list count n m states (Behind at left) b.next.items (slice_set b.next.items n (cell b.first.items at)) (cell b.first.items m) w (λ k e. ne (same_behind at left m k e)) (λ xs h out. run_stays b.next.items n (cell b.first.items at) (cell b.first.items m) xs h out) (l m))
]
put_lists count n states (Ended e) b c w below v u p l m =
    listed_in count None (slice_set states n (Ended e)) b.next.items c.next.items m (cell b.first.items m) (cell c.first.items m) p.next_is (ap (λ x. cell x m) p.first_is)
    (keeps_list count n m states (Ended e) b.next.items b.next.items (cell b.first.items m) w (λ k x. cc) (λ xs h out. h) (l m))
put_lists count n states Lost b c w below v u p l m =
    listed_in count None (slice_set states n Lost) b.next.items c.next.items m (cell b.first.items m) (cell c.first.items m) p.next_is (ap (λ x. cell x m) p.first_is)
    (keeps_list count n m states Lost b.next.items b.next.items (cell b.first.items m) w (λ k x. cc) (λ xs h out. h) (l m))
put_lists count n states Absent b c w below v u p l m =
    listed_in count None (slice_set states n Absent) b.next.items c.next.items m (cell b.first.items m) (cell c.first.items m) p.next_is (ap (λ x. cell x m) p.first_is)
    (keeps_list count n m states Absent b.next.items b.next.items (cell b.first.items m) w (λ k x. cc) (λ xs h out. h) (l m))

-- those that were queued are, and the node is if its walk has ended; no other is
pub record IsQueuedOn (b c : Backlog) (n : ℕ) (new : State) : Type 0 where
  pub old : (m : ℕ) → IsQueued b.ended.items m → IsQueued c.ended.items m
  pub its : is_done new ≡ true → IsQueued c.ended.items n
  pub only : (m : ℕ) → IsQueued c.ended.items m → IsQueued b.ended.items m ⊎ ((n ≡ m) × (is_done new ≡ true))
  pub count : length c.ended.items + to_come new ≡ length b.ended.items + 1

queued_push : (xs ys : List ℕ) (n m : ℕ) → ys ≡ xs ++ n ∷ [] → IsQueued ys m → IsQueued xs m ⊎ (n ≡ m)
queued_push xs ys n m e q = elim (push_get xs n q.0 m (ap (λ x. slice_get x q.0) (sym e) ∙ q.1)) [ inl h ↦ inl (q.0, h) | inr p ↦ inr p.1 ]

queued_done : (b c : Backlog) (n : ℕ) (new : State) → is_done new ≡ true → to_come new ≡ 0 → c.ended.items ≡ b.ended.items ++ n ∷ [] → IsQueuedOn b c n new
queued_done b c n new d z e = record {
  old = λ m q. (q.0, ap (λ x. slice_get x q.0) e ∙ slice_get-front b.ended.items (n ∷ []) q.0 m q.1);
  its = λ _. (length b.ended.items, ap (λ x. slice_get x (length b.ended.items)) e ∙ push_at b.ended.items n);
  only = λ m q. elim (queued_push b.ended.items c.ended.items n m e q) [ inl h ↦ inl h | inr p ↦ inr (p, d) ];
  count = let l = ap length e ∙ length-append b.ended.items (n ∷ []) in omega (arith, l, z);
}

queued_same : (b c : Backlog) (n : ℕ) (new : State) → is_done new ≡ false → to_come new ≡ 1 → c.ended.items ≡ b.ended.items → IsQueuedOn b c n new
queued_same b c n new d z e = record {
  old = λ m q. (q.0, ap (λ x. slice_get x q.0) e ∙ q.1);
  its = λ t. absurd (false≢true (sym d ∙ t));
  only = λ m q. inl (q.0, ap (λ x. slice_get x q.0) (sym e) ∙ q.1);
  count = let l = ap length e in omega (arith, l, z);
}

pub queued_on : (b c : Backlog) (n : ℕ) (new : State) → Puts b n new c → IsQueuedOn b c n new
queued_on b c n (Behind m left) p = queued_same b c n (Behind m left) refl refl p.ended_is
queued_on b c n (Ended e) p = queued_done b c n (Ended e) refl refl p.ended_is
queued_on b c n Lost p = queued_done b c n Lost refl refl p.ended_is
queued_on b c n Absent p = queued_same b c n Absent refl refl p.ended_is

-- a walk that goes on from where one has ended comes to no other that has
quiet_behind : (states : List State) (new : State) (m left : ℕ) → IsQuiet states new → new ≡ Behind m left → has_ended states m ≡ false
quiet_behind states new m left q e = subst (IsQuiet states) e q

pub put_listed : (count n : ℕ) (states : List State) (new : State) (b c : Backlog) → n < length states → n < count → n < length b.next.items → ((m left : ℕ) → new ≡ Behind m left → m < length b.first.items) → (has_ended states n ≡ true → is_done new ≡ true) → IsQuiet states new → Puts b n new c → AreListed count (Some n) states b → AreListed count None (slice_set states n new) c
put_listed count n states new b c w below v u stays quiet p are = record {
  lists = put_lists count n states new b c w below v u p are.lists;
  ended = λ m q. elim (on.only m q) [ inl h ↦ still m (are.ended m h) (same_or n m) | inr h ↦ subst (λ x. has_ended (slice_set states n new) x ≡ true) h.0 (here ∙ h.1) ];
  loose = λ k m t s e. inr (queued k m t s e (same_or n k) (same_or n m));
  few = let f = few_more states n (length b.ended.items) new w are.few in let k = on.count in omega (arith, f, k);
}
  where
    on : IsQueuedOn b c n new
    on = queued_on b c n new p

    here : has_ended (slice_set states n new) n ≡ is_done new
    here = ap is_ended (at_set states n new w)

    still : (m : ℕ) → has_ended states m ≡ true → (n ≡ m) ⊎ (n ≢ m) → has_ended (slice_set states n new) m ≡ true
    still m e (inl s) = subst (λ x. has_ended (slice_set states n new) x ≡ true) s (here ∙ stays (ap (has_ended states) s ∙ e))
    still m e (inr ne) = ap is_ended (set_there states n m new ne) ∙ e

    its_own : (m left : ℕ) → new ≡ Behind m left → has_ended (slice_set states n new) m ≡ true → (n ≡ m) ⊎ (n ≢ m) → ⊥
    its_own m left is e (inl s) = false≢true (sym (ap is_done is) ∙ (sym here ∙ (ap (has_ended (slice_set states n new)) s ∙ e)))
    its_own m left is e (inr ne) = false≢true (sym (quiet_behind states new m left quiet is) ∙ (sym (ap is_ended (set_there states n m new ne)) ∙ e))

    queued : (k m : ℕ) → IsTaken count None k → StandsBehind (slice_set states n new) k m → has_ended (slice_set states n new) m ≡ true → (n ≡ k) ⊎ (n ≢ k) → (n ≡ m) ⊎ (n ≢ m) → IsQueued c.ended.items m
    queued k m t s e (inl p) d = absurd (its_own m s.0 (same_Some new (Behind m s.0) (sym (at_set states n new w) ∙ (ap (slice_get (slice_set states n new)) p ∙ s.1))) e d)
    queued k m t s e (inr ne) (inl p) = subst (IsQueued c.ended.items) p (on.its (sym here ∙ (ap (has_ended (slice_set states n new)) p ∙ e)))
    queued k m t s e (inr ne) (inr other) = elim (are.loose k m (t.0, λ x. ne (same_Some n k x)) (behind_was states n k m new ne s) (sym (ap is_ended (set_there states n m new other)) ∙ e)) [
      | inl x ↦ absurd (other (same_Some n m x))
      | inr q ↦ on.old m q
    ]

-- ---- a walk is taken out of a list

pub take_listed : (count m n : ℕ) (states : List State) (b c : Backlog) → m < length b.first.items → IsTakenFrom b m n c → has_ended states m ≡ true → AreListed count None states b → AreListed count (Some n) states c × StandsBehind states n m × (n < count)
take_listed count m n states b c w t done are = (
  record {
    lists = λ k. listed_in count (Some n) states b.next.items c.next.items k (one k (same_or m k)) (cell c.first.items k) t.is_put.next_is (one_is k (same_or m k)) (others k (same_or m k));
    ended = λ k q. are.ended k (q.0, ap (λ x. slice_get x q.0) (sym t.is_put.ended_is) ∙ q.1);
    loose = λ k j h s e. elim (are.loose k j (h.0, λ x. none-some k x) s e) [ inl x ↦ absurd (none-some j x) | inr q ↦ inr (q.0, ap (λ x. slice_get x q.0) t.is_put.ended_is ∙ q.1) ];
    few = few;
  },
  its.1,
  its.0.0,
)
  where
    the : IsListed count None states b.next.items m (cell b.first.items m)
    the = are.lists m

    -- its list begins with it
    begins : (o : Option ℕ) (xs : List ℕ) → o ≡ Some n → IsRun b.next.items o xs → (ys : List ℕ) × (xs ≡ n ∷ ys) × IsRun b.next.items (cell b.next.items n) ys
    begins None xs e h = absurd (none-some n e)
    begins (Some k) [] e h = absurd h
    begins (Some k) (x ∷ xs) e h =
        let s : k ≡ n = same_Some k n e in
        (xs, ap (λ y. y ∷ xs) (sym h.0 ∙ s), subst (λ y. IsRun b.next.items (cell b.next.items y) xs) s h.1)

    front : (ys : List ℕ) × (the.nodes ≡ n ∷ ys) × IsRun b.next.items (cell b.next.items n) ys
    front = begins (cell b.first.items m) the.nodes t.is_first the.run

    its : IsTaken count None n × StandsBehind states n m
    its = the.behind n (subst (IsOf n) (sym front.1) (inl refl))

    one : (k : ℕ) → (m ≡ k) ⊎ (m ≢ k) → Option ℕ
    one k (inl e) = cell b.next.items n
    one k (inr ne) = cell b.first.items k

    one_is : (k : ℕ) (d : (m ≡ k) ⊎ (m ≢ k)) → cell c.first.items k ≡ one k d
    one_is k (inl e) = ap (λ x. cell x k) t.is_put.first_is ∙ (ap (cell (slice_set b.first.items m (cell b.next.items n))) (sym e) ∙ cell_here b.first.items m (cell b.next.items n) w)
    one_is k (inr ne) = ap (λ x. cell x k) t.is_put.first_is ∙ cell_there b.first.items m k (cell b.next.items n) ne

    rest : IsListed count (Some n) states b.next.items m (cell b.next.items n)
    rest = record {
      nodes = front.0;
      run = front.2;
      behind = λ k i.
          let h = the.behind k (subst (IsOf k) (sym front.1) (inr i)) in
          ((h.0.0, λ e. not_behind b.next.items n front.0 front.2 (subst (λ x. IsOf x front.0) (sym (same_Some n k e)) i)), h.1);
      each = λ k h s. elim (subst (IsOf k) front.1 (the.each k (h.0, λ e. none-some k e) s)) [ inl e ↦ absurd (h.1 (ap Some e)) | inr i ↦ i ];
    }

    others : (k : ℕ) (d : (m ≡ k) ⊎ (m ≢ k)) → IsListed count (Some n) states b.next.items k (one k d)
    others k (inl e) = subst (λ x. IsListed count (Some n) states b.next.items x (cell b.next.items n)) e rest
    others k (inr ne) =
        let l = are.lists k in
        record {
          nodes = l.nodes;
          run = l.run;
          behind = λ j i. let h = l.behind j i in ((h.0.0, λ e. ne (behind_one_node states n m k its.1 (subst (λ x. StandsBehind states x k) (sym (same_Some n j e)) h.1))), h.1);
          each = λ j h s. l.each j (h.0, λ e. none-some j e) s;
        }

    few : length c.ended.items + sum_by to_come (slice_set states n Absent) ≤ length states
    few =
        let v = slice_get_within states n (Behind m its.1.0) its.1.1 in
        let a = sum_by-set to_come states n Absent Lost v in
        let x : to_come (get_or states n Lost) ≡ 1 = ap to_come (get_or_from_slice_get states n (Behind m its.1.0) Lost its.1.1) in
        let l = ap length t.is_put.ended_is in
        let f = are.few in
        omega (arith, a, x, l, f)
