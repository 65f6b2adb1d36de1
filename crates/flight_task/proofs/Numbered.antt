-- Tasks by their numbers, after one is changed or born.
use Rattle.std.proofs.Common.{◌⊎◌, inl, inr, ◌≡◌, ◌≢◌, ℕ, zero, suc, Bool, true, false, true≢false, List, [], ◌∷◌, ◌++◌, length, Some, None, refl, sym, ap, subst, ◌∙◌, arith, ap₂, get_or, ◌<◌, ◌^◌, ◌-◌, map, cond, rules, ◌==◌}
use Rattle.flight_state.specs.Steps.{woken_status}
use Rattle.std.specs.Prelude.{slice_get, slice_set, is_some, unwrap_or}
use Rattle.std.specs.Global.{Vec}
use Rattle.std.proofs.lemmas.Option.{get_or_from_slice_get, slice_get_within}
use Rattle.flight_value.specs.Listed.{In}
use Rattle.flight_state.specs.declared.status.Status.{Status}
use Rattle.flight_state.specs.declared.status.Status.TheVariants as status
use Rattle.flight_task.specs.declared.task.Task.{Task}
use Rattle.flight_task.specs.Tasks.{IsTaskAt, IsReadyAt, IsWaiting, woken, Changes, HaveTurns, IsQueued, IsQueuedBut, IsListed, Holds, IsIn}

none_some : {A : Type 0} {x : A} → None ≡ Some x → ⊥
none_some e = true≢false (sym (ap is_some e))

some_same : {A : Type 0} {x y : A} → Some x ≡ Some y → x ≡ y
some_same {A} {x} e = ap (λ o. unwrap_or o x) e

pub at_set : (P : Task → Type 0) (ts : List Task) (n m : ℕ) (u : Task) → IsTaskAt (slice_set ts n u) m P → ((m ≢ n) × IsTaskAt ts m P) ⊎ ((m ≡ n) × P u)
at_set P [] n m u (v, is, p) = absurd (none_some is)
at_set P (t ∷ ts) zero zero u (v, is, p) = inr (refl, subst P (sym (some_same is)) p)
at_set P (t ∷ ts) zero (suc m) u h = inl (λ e. omega (arith, e), h)
at_set P (t ∷ ts) (suc n) zero u h = inl (λ e. omega (arith, e), h)
at_set P (t ∷ ts) (suc n) (suc m) u h = go (at_set P ts n m u h)
  where
    go : ((m ≢ n) × IsTaskAt ts m P) ⊎ ((m ≡ n) × P u) → ((suc m ≢ suc n) × IsTaskAt ts m P) ⊎ ((suc m ≡ suc n) × P u)
    go (inl (other, at)) = inl (λ e. other (omega (arith, e)), at)
    go (inr (e, p)) = inr (ap suc e, p)

pub at_push : (P : Task → Type 0) (ts : List Task) (m : ℕ) (u : Task) → IsTaskAt (ts ++ u ∷ []) m P → IsTaskAt ts m P ⊎ ((m ≡ length ts) × P u)
at_push P [] zero u (v, is, p) = inr (refl, subst P (sym (some_same is)) p)
at_push P [] (suc m) u h = inl h
at_push P (t ∷ ts) zero u h = inl h
at_push P (t ∷ ts) (suc m) u h = go (at_push P ts m u h)
  where
    go : IsTaskAt ts m P ⊎ ((m ≡ length ts) × P u) → IsTaskAt ts m P ⊎ ((suc m ≡ suc (length ts)) × P u)
    go (inl at) = inl at
    go (inr (e, p)) = inr (ap suc e, p)

kind : Status → ℕ
kind status.Ready = 0
kind (status.Running turn) = 1
kind (status.Waiting source) = 2
kind status.Done = 3

source_of : Status → ℕ
source_of (status.Waiting source) = source
source_of s = 0

-- ---- the queue and the lists

pub queued_set : (ts : List Task) (n : ℕ) (u : Task) (queue : List ℕ) → u.status ≢ status.Ready → IsQueued ts queue → IsQueued (slice_set ts n u) queue
queued_set ts n u queue never all m h = go (at_set (λ t. t.status ≡ status.Ready) ts n m u h)
  where
    go : ((m ≢ n) × IsTaskAt ts m (λ t. t.status ≡ status.Ready)) ⊎ ((m ≡ n) × (u.status ≡ status.Ready)) → In m queue
    go (inl (other, at)) = all m at
    go (inr (e, p)) = absurd (never p)

pub queued_taken : (ts : List Task) (n : ℕ) (u : Task) (queue : List ℕ) → u.status ≢ status.Ready → IsQueuedBut (Some n) ts queue → IsQueued (slice_set ts n u) queue
queued_taken ts n u queue never all m h = go (at_set (λ t. t.status ≡ status.Ready) ts n m u h)
  where
    or : m ≢ n → (Some n ≡ Some m) ⊎ In m queue → In m queue
    or other (inl e) = absurd (other (sym (some_same e)))
    or other (inr at) = at

    go : ((m ≢ n) × IsTaskAt ts m (λ t. t.status ≡ status.Ready)) ⊎ ((m ≡ n) × (u.status ≡ status.Ready)) → In m queue
    go (inl (other, at)) = or other (all m at)
    go (inr (e, p)) = absurd (never p)

pub listed_set : (ts : List Task) (n : ℕ) (u : Task) (lists : List (Vec ℕ)) → ((source : ℕ) → u.status ≢ status.Waiting source) → IsListed ts lists → IsListed (slice_set ts n u) lists
listed_set ts n u lists never all m source h = go (at_set (λ t. t.status ≡ status.Waiting source) ts n m u h)
  where
    go : ((m ≢ n) × IsTaskAt ts m (λ t. t.status ≡ status.Waiting source)) ⊎ ((m ≡ n) × (u.status ≡ status.Waiting source)) → IsIn lists source m
    go (inl (other, at)) = all m source at
    go (inr (e, p)) = absurd (never source p)

pub listed_waits : (ts : List Task) (n : ℕ) (u : Task) (waited : ℕ) (old new : List (Vec ℕ)) → u.status ≡ status.Waiting waited → Holds old new → IsIn new waited n → IsListed ts old → IsListed (slice_set ts n u) new
unfolding source_of
listed_waits ts n u waited old new is holds held all m source h = go (at_set (λ t. t.status ≡ status.Waiting source) ts n m u h)
  where
    go : ((m ≢ n) × IsTaskAt ts m (λ t. t.status ≡ status.Waiting source)) ⊎ ((m ≡ n) × (u.status ≡ status.Waiting source)) → IsIn new source m
    go (inl (other, at)) = holds m source (all m source at)
    go (inr (e, p)) = subst (λ k. IsIn new source k) (sym e) (subst (λ s. IsIn new s n) (ap source_of (sym is ∙ p)) held)

pub running_not_ready : (turn : ℕ) → status.Running turn ≢ status.Ready
unfolding kind
running_not_ready turn e = omega (arith, ap kind e)

pub waiting_not_ready : (source : ℕ) → status.Waiting source ≢ status.Ready
unfolding kind
waiting_not_ready source e = omega (arith, ap kind e)

pub done_not_ready : status.Done ≢ status.Ready
unfolding kind
done_not_ready e = omega (arith, ap kind e)

pub running_not_waiting : (turn source : ℕ) → status.Running turn ≢ status.Waiting source
unfolding kind
running_not_waiting turn source e = omega (arith, ap kind e)

pub done_not_waiting : (source : ℕ) → status.Done ≢ status.Waiting source
unfolding kind
done_not_waiting source e = omega (arith, ap kind e)

pub ready_not_waiting : (source : ℕ) → status.Ready ≢ status.Waiting source
unfolding kind
ready_not_waiting source e = omega (arith, ap kind e)

pub queued_born : (ts : List Task) (u : Task) (old new : List ℕ) → ((n : ℕ) → In n old → In n new) → In (length ts) new → IsQueued ts old → IsQueued (ts ++ u ∷ []) new
queued_born ts u old new keeps last all m h = go (at_push (λ t. t.status ≡ status.Ready) ts m u h)
  where
    go : IsTaskAt ts m (λ t. t.status ≡ status.Ready) ⊎ ((m ≡ length ts) × (u.status ≡ status.Ready)) → In m new
    go (inl at) = keeps m (all m at)
    go (inr (e, p)) = subst (λ k. In k new) (sym e) last

pub listed_born : (ts : List Task) (u : Task) (lists : List (Vec ℕ)) → u.status ≡ status.Ready → IsListed ts lists → IsListed (ts ++ u ∷ []) lists
listed_born ts u lists is all m source h = go (at_push (λ t. t.status ≡ status.Waiting source) ts m u h)
  where
    go : IsTaskAt ts m (λ t. t.status ≡ status.Waiting source) ⊎ ((m ≡ length ts) × (u.status ≡ status.Waiting source)) → IsIn lists source m
    go (inl at) = all m source at
    go (inr (e, p)) = absurd (ready_not_waiting source (sym is ∙ p))

-- the write of a changed task, behind a borrow
pub changed : (f : Task → Task) (P : Task → Type 0) (old inside : List Task) (n : ℕ) (v : Task) → inside ≡ old → v ≡ get_or inside n v → IsTaskAt old n P → Changes f n old (slice_set inside n (f v))
changed f P old inside n v same is (t, at, p) = (t, at, ap₂ (λ xs w. slice_set xs n (f w)) same (is ∙ ap (λ xs. get_or xs n v) same ∙ get_or_from_slice_get old n t v at))

pub within : (P : Task → Type 0) (ts : List Task) (n : ℕ) → IsTaskAt ts n P → n < length ts
within P ts n (t, at, p) = slice_get_within ts n t at

pub turns_left : (P : Task → Type 0) (old inside : List Task) (n : ℕ) (v : Task) → inside ≡ old → v ≡ get_or inside n v → IsTaskAt old n P → HaveTurns old → v.turns < 2 ^ 64 - 1
turns_left P old inside n v same is (t, at, p) have = subst (λ w. w.turns < 2 ^ 64 - 1) (sym (is ∙ ap (λ xs. get_or xs n v) same ∙ get_or_from_slice_get old n t v at)) (have n t at)

-- ---- the lists of sources

get_front : {A : Type 0} (xs ys : List A) (n : ℕ) (x : A) → slice_get xs n ≡ Some x → slice_get (xs ++ ys) n ≡ Some x
get_front [] ys n x at = absurd (none_some at)
get_front (y ∷ xs) ys zero x at = at
get_front (y ∷ xs) ys (suc n) x at = get_front xs ys n x at

pub holds_push : (old lists : List (Vec ℕ)) (v : Vec ℕ) → Holds old lists → Holds old (lists ++ v ∷ [])
holds_push old lists v holds n source h = go (holds n source h)
  where
    go : IsIn lists source n → IsIn (lists ++ v ∷ []) source n
    go (list, at, held) = (list, get_front lists (v ∷ []) source list at, held)

in_set : (lists : List (Vec ℕ)) (s source n : ℕ) (v w : Vec ℕ) → slice_get lists s ≡ Some v → (In n v.items → In n w.items) → IsIn lists source n → IsIn (slice_set lists s w) source n
in_set [] s source n v w is more (list, at, held) = absurd (none_some at)
in_set (x ∷ lists) zero zero n v w is more (list, at, held) = (w, refl, more (subst (λ z. In n z.items) (sym (some_same at) ∙ some_same is) held))
in_set (x ∷ lists) zero (suc source) n v w is more h = h
in_set (x ∷ lists) (suc s) zero n v w is more h = h
in_set (x ∷ lists) (suc s) (suc source) n v w is more h = in_set lists s source n v w is more h

pub holds_set : (old lists : List (Vec ℕ)) (s : ℕ) (v w : Vec ℕ) → slice_get lists s ≡ Some v → ((n : ℕ) → In n v.items → In n w.items) → Holds old lists → Holds old (slice_set lists s w)
holds_set old lists s v w is more holds n source h = in_set lists s source n v w is (more n) (holds n source h)

pub here_set : {A : Type 0} (xs : List A) (n : ℕ) (v w : A) → slice_get xs n ≡ Some v → slice_get (slice_set xs n w) n ≡ Some w
here_set [] n v w is = absurd (none_some is)
here_set (x ∷ xs) zero v w is = refl
here_set (x ∷ xs) (suc n) v w is = here_set xs n v w is

pub in_front : (n : ℕ) (xs ys : List ℕ) → In n xs → In n (xs ++ ys)
in_front n [] ys h = elim h [ ]
in_front n (x ∷ xs) ys (inl e) = inl e
in_front n (x ∷ xs) ys (inr h) = inr (in_front n xs ys h)

pub in_last : (n : ℕ) (xs : List ℕ) → In n (xs ++ n ∷ [])
in_last n [] = inl refl
in_last n (x ∷ xs) = inr (in_last n xs)

pub read_at : {A : Type 0} (xs : List A) (n : ℕ) (x : A) → n < length xs → x ≡ get_or xs n x → slice_get xs n ≡ Some x
read_at [] n x h e = absurd (omega (arith, h))
read_at (y ∷ xs) zero x h e = ap Some (sym e)
read_at (y ∷ xs) (suc n) x h e = read_at xs n x (omega (arith, h)) e

-- ---- waking

woken_same : (source : ℕ) (s : Status) → s ≢ status.Waiting source → woken_status source s ≡ s
woken_same source status.Ready never = refl
woken_same source (status.Running turn) never = refl
woken_same source status.Done never = refl
woken_same source (status.Waiting waited) never = go (waited == source) refl
  where
    go : (b : Bool) → (waited == source) ≡ b → cond b status.Ready (status.Waiting waited) ≡ status.Waiting waited
    go true e = absurd (never (ap status.Waiting (search (rules, arith, e))))
    go false e = refl

-- where no task waits for a source, none is woken
pub woken_none : (source : ℕ) (ts : List Task) → ((n : ℕ) → IsWaiting source ts n → ⊥) → map (woken source) ts ≡ ts
woken_none source [] never = refl
woken_none source (t ∷ ts) never =
    ap₂ (λ s rest. record t { status = s } ∷ rest) (woken_same source t.status (λ e. never 0 (t, refl, e))) (woken_none source ts (λ n at. never (suc n) at))

woken_self : (source : ℕ) → woken_status source (status.Waiting source) ≡ status.Ready
woken_self source = search (rules, arith)

pub woken_waiting : (source : ℕ) (t : Task) → t.status ≡ status.Waiting source → woken source (record t { status = status.Ready }) ≡ woken source t
woken_waiting source t is = ap (λ s. record t { status = s }) (sym (ap (woken_status source) is ∙ woken_self source))

pub left_set : (source : ℕ) (ts : List Task) (n : ℕ) (u : Task) → u.status ≢ status.Waiting source → (other : ℕ) → IsWaiting source (slice_set ts n u) other → IsWaiting source ts other × (other ≢ n)
left_set source ts n u never other h = go (at_set (λ t. t.status ≡ status.Waiting source) ts n other u h)
  where
    go : ((other ≢ n) × IsWaiting source ts other) ⊎ ((other ≡ n) × (u.status ≡ status.Waiting source)) → IsWaiting source ts other × (other ≢ n)
    go (inl (differs, at)) = (at, differs)
    go (inr (e, p)) = absurd (never p)

-- every task that is ready after a source is woken was ready, or waited for it
pub ready_before : (source : ℕ) (ts : List Task) (n : ℕ) → IsReadyAt (map (woken source) ts) n → IsReadyAt ts n ⊎ IsWaiting source ts n
ready_before source (t ∷ ts) zero (v, is, p) = go t.status refl (subst (λ z. z.status ≡ status.Ready) (sym (some_same is)) p)
  where
    by : (waited : ℕ) → t.status ≡ status.Waiting waited → (b : Bool) → (waited == source) ≡ b → cond b status.Ready (status.Waiting waited) ≡ status.Ready → IsReadyAt (t ∷ ts) zero ⊎ IsWaiting source (t ∷ ts) zero
    by waited e true same r = inr (t, refl, e ∙ ap status.Waiting (search (rules, arith, same)))
    by waited e false same r = absurd (waiting_not_ready waited r)

    go : (s : Status) → t.status ≡ s → woken_status source t.status ≡ status.Ready → IsReadyAt (t ∷ ts) zero ⊎ IsWaiting source (t ∷ ts) zero
    go status.Ready e r = inl (t, refl, e)
    go (status.Running turn) e r = absurd (running_not_ready turn (sym (ap (woken_status source) e) ∙ r))
    go status.Done e r = absurd (done_not_ready (sym (ap (woken_status source) e) ∙ r))
    go (status.Waiting waited) e r = by waited e (waited == source) refl (sym (ap (woken_status source) e) ∙ r)
ready_before source (t ∷ ts) (suc n) h = ready_before source ts n h
ready_before source [] n (v, is, p) = absurd (none_some is)

pub the_list : (lists : List (Vec ℕ)) (source n : ℕ) (v : Vec ℕ) → slice_get lists source ≡ Some v → IsIn lists source n → In n v.items
the_list lists source n v is (list, at, held) = subst (λ z. In n z.items) (some_same (sym at ∙ is)) held

-- a task that waits afterwards waited before, for another source
pub waiting_before : (source other : ℕ) (ts : List Task) (n : ℕ) → IsWaiting other (map (woken source) ts) n → IsWaiting other ts n × (other ≢ source)
unfolding source_of
waiting_before source other (t ∷ ts) zero (v, is, p) = go t.status refl (subst (λ z. z.status ≡ status.Waiting other) (sym (some_same is)) p)
  where
    by : (waited : ℕ) → t.status ≡ status.Waiting waited → (b : Bool) → (waited == source) ≡ b → cond b status.Ready (status.Waiting waited) ≡ status.Waiting other → IsWaiting other (t ∷ ts) zero × (other ≢ source)
    by waited e true same r = absurd (ready_not_waiting other r)
    by waited e false same r = let one : waited ≡ other = ap source_of r in ((t, refl, e ∙ r), λ k. search (rules, arith, same, k, one))

    go : (s : Status) → t.status ≡ s → woken_status source t.status ≡ status.Waiting other → IsWaiting other (t ∷ ts) zero × (other ≢ source)
    go status.Ready e r = absurd (ready_not_waiting other (sym (ap (woken_status source) e) ∙ r))
    go (status.Running turn) e r = absurd (running_not_waiting turn other (sym (ap (woken_status source) e) ∙ r))
    go status.Done e r = absurd (done_not_waiting other (sym (ap (woken_status source) e) ∙ r))
    go (status.Waiting waited) e r = by waited e (waited == source) refl (sym (ap (woken_status source) e) ∙ r)
waiting_before source other (t ∷ ts) (suc n) h = waiting_before source other ts n h
waiting_before source other [] n (v, is, p) = absurd (none_some is)

pub in_other : (lists : List (Vec ℕ)) (s source n : ℕ) (w : Vec ℕ) → source ≢ s → IsIn lists source n → IsIn (slice_set lists s w) source n
in_other [] s source n w other (list, at, held) = absurd (none_some at)
in_other (x ∷ lists) zero zero n w other h = absurd (other refl)
in_other (x ∷ lists) zero (suc source) n w other h = h
in_other (x ∷ lists) (suc s) zero n w other h = h
in_other (x ∷ lists) (suc s) (suc source) n w other h = in_other lists s source n w (λ e. other (ap suc e)) h
