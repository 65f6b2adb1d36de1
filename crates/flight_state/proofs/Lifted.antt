-- What a writer's step gives is what the step of its task asks for.
use Rattle.std.proofs.Common.{◌≡◌, ◌≢◌, ℕ, ◌<◌, Bool, is_some, ◌⊎◌, inl, inr, ⊎_elim, List, [], ◌∷◌, ◌++◌, map, Option, Some, None, option_and_then, refl, sym, ap, ◌∙◌, subst, arith, eqb, eqb-true, true, false}
use Rattle.std.proofs.lemmas.Option.{none-some, same_Some}
use Rattle.std.proofs.lemmas.Bool.{eqb-false}
use Rattle.std.specs.Prelude.{slice_get, slice_set}
use Rattle.flight_value.specs.Store as store
use Rattle.flight_value.specs.Store.{Shape, Label, Target, TargetsFit, Paired}
use Rattle.flight_value.specs.declared.key.Key.{Key}
use Rattle.flight_value.specs.declared.key.Key.TheVariants as key
use Rattle.flight_text.specs.declared.mark.Ref.{Ref}
use Rattle.flight_row.specs.declared.row.RowKind.{RowKind}
use Rattle.flight_row.specs.declared.row.RowKind.TheVariants as row
use Rattle.flight_render.specs.declared.job.What.{What}
use Rattle.flight_render.specs.declared.job.What.TheVariants as what
use Rattle.flight_render.specs.Bodies.{element_of}
use Rattle.flight_render.specs.Jobs.{Value, value_of}
use Rattle.flight_render.specs.Plain.{NodeIs}
use Rattle.flight_value.specs.Listed.{In, Distinct}
use Rattle.flight_render.specs.Costs.{Reached}
use Rattle.flight_render.specs.Attempt.{job_for, IsTabled}
use Rattle.flight_render.specs.Laws.{IsLasting}
use Rattle.flight_meaning.specs.declared.place.Place.{Place}
use Rattle.flight_meaning.specs.declared.place.PlaceTree.{PlaceTree}
use Rattle.flight_meaning.specs.declared.place.PlacedRow.{PlacedRow}
use Rattle.flight_meaning.specs.Linked.{rows_of, Standing, absent, defined, streaming, goes, after, next, standing_of, FollowOn, Spot, place_at, first_place}
use Rattle.flight_meaning.specs.Meaning as wire
use Rattle.flight_meaning.specs.Meaning.{Written, at_place, Identity, made_at, promise_of, stream_of, action_of, HasShape}
use Rattle.flight_meaning.specs.Good.{IsHeld}
use Rattle.flight_state.specs.State.{Task, IsLive, stream_for, IsAlone, own_ids, next_what, job_at}
use Rattle.flight_state.specs.Spells.{IsLone, HomeAt, AtHome}
use Rattle.flight_state.specs.Fits.{RowAt, ReachedBy, ReachedFor, OpenFor}
use Rattle.flight_state.specs.Steps.{close}
use Rattle.flight_state.specs.Emits.{HasValueRow, IsWritten, IsPlain, StreamStep, unchanged, opened, EmitsWell}
use Rattle.flight_state.specs.Local as local
use Rattle.flight_state.specs.Local.{Seen, IsSeen, job_seen, shape_seen, value_seen, Met, Homes, Births, NamesAt, Names, RefersBy, IsAtomOf, WrittenHere, MeantHere, NodeHere, StreamHere, TaskHere, HomeHere, MetBy, TablesHere, IsFresh, IsNewHome, IsOnce, IsRowKey, IsNodeKey, IsOwnRow, AddsHere, Shows, TiedTo, Tied, id_of, Below, Adopts}
use Rattle.flight_state.proofs.Lists.{in_front, in_behind, in_either, map_in, set_back}
use Rattle.flight_state.proofs.Owned.{live_owns}
use Rattle.flight_state.proofs.Moves.{stream_home}
use Rattle.flight_state.proofs.Emitting.{step_only, settled_is}
use Rattle.flight_state.proofs.Alike.{rows-behind}
use Rattle.flight_state.proofs.Joined.{job_shown, shape_shown, met_reached, stream_no_job, IsStanding, standing_by, names_one, names_shape, ids_append, ids_owned, distinct_append, id_of_own, set_other}
use Rattle.flight_state.proofs.Lift.{Lifting, as_base, as_new, as_other, birth_of, born_live, born_new, born_task, fresh_base, in_behind_homes, in_homes, names_before, names_behind, new_home, node_here, none_new, old_home, old_only, place_new, row_more, rows_now, shows_new, some_rows, task_in, task_live}
use Rattle.flight_state.proofs.Written.{lasting_node, written}

-- ---- one home for a key, one key for a home

one_home : (w : Lifting) (k : Key) (i j : Identity) → Paired w.new.homes k i → Paired w.new.homes k j → i ≡ j
one_home w k i j p q = go (in_homes w k i p) (in_homes w k j q)
  where
    new_old : (x y : Identity) → Paired w.step.homes.0 k x → Paired w.old.homes k y → ⊥
    new_old x y a b = let m = (w.adopts.into k x a).1 in let o = w.tied.back k y b in w.local.new_key k m.0 o.0 m.1 o.1

    go : Paired w.old.homes k i ⊎ Paired w.step.homes.0 k i → Paired w.old.homes k j ⊎ Paired w.step.homes.0 k j → i ≡ j
    go (inl a) (inl b) = w.fits.one_home k i j a b
    go (inl a) (inr b) = absurd (new_old j i b a)
    go (inr a) (inl b) = absurd (new_old i j a b)
    go (inr a) (inr b) =
        let m = (w.adopts.into k i a).1 in
        let n = (w.adopts.into k j b).1 in
        names_one w.g w.seen w.rows k m.0 i j m.2 (subst (λ z. Names w.g w.seen w.rows k z j) (w.local.one_home k n.0 m.0 n.1 m.1) n.2)

-- a place that is there is of an id with rows
has_rows : (rows : List PlacedRow) (s : Spot) (at : Place) → place_at rows s ≡ Some at → rows_of s.id rows ≢ []
has_rows rows s at h e = none-some at (sym (ap (λ ts. option_and_then (λ (t : PlaceTree). slice_get t.places s.at) (slice_get ts s.nth)) e) ∙ h)

standing_rows : (rows : List PlacedRow) (s : Spot) → IsStanding rows (made_at s) → rows_of s.id rows ≢ []
standing_rows rows s h = go (place_at rows s) refl h
  where
    IsAtomTarget : Target Identity → Type 0
    IsAtomTarget (store.atom a) = Unit {0}
    IsAtomTarget (store.node_at j) = ⊥

    go : (o : Option Place) → place_at rows s ≡ o → wire.LeadsHere rows s o (store.node_at (made_at s)) → rows_of s.id rows ≢ []
    go None e l = absurd (subst IsAtomTarget (sym l) tt)
    go (Some at) e l = has_rows rows s at e

old_standing : (w : Lifting) (k : Key) (s : Spot) → Paired w.old.homes k (made_at s) → IsStanding w.old.rows (made_at s)
old_standing w k s p = go k (w.fits.homes k (made_at s) p)
  where
    by : (k : Key) → IsLone (made_at s) × AtHome w.g w.old k (made_at s) → IsStanding w.old.rows (made_at s)
    by k h = standing_by w.old.rows (made_at s) h.1.there h.0 h.1.is_there

    go : (k : Key) → HomeAt w.g w.old k (made_at s) → IsStanding w.old.rows (made_at s)
    go (key.Stream n) h = absurd h
    go (key.Made n) h = by (key.Made n) h
    go (key.Source a n) h = by (key.Source a n) h
    go (key.Settled n) h = by (key.Settled n) h
    go (key.Action n) h = by (key.Action n) h
    go (key.Client n) h = by (key.Client n) h
    go (key.Symbol n) h = by (key.Symbol n) h
    go (key.Server n) h = by (key.Server n) h

-- a new home that is a place is there
new_standing : (w : Lifting) (k : Key) (s : Spot) (a : Ref) → IsNodeKey k → In (k, a) w.local.more → Names w.g w.seen w.rows k a (made_at s) → IsStanding w.rows (made_at s)
new_standing w k s a node i names = go k node i names
  where
    by : (k : Key) → IsLasting k → IsNodeKey k → In (k, a) w.local.more → Names w.g w.seen w.rows k a (made_at s) → IsStanding w.rows (made_at s)
    by k lasting node i names =
        let x = node_here w k a lasting node i in
        subst (IsStanding w.rows) (names_one w.g w.seen w.rows k a x.identity (made_at s) x.names names) (standing_by w.rows x.identity x.there x.lone x.is_there)

    IsMadeAt : Identity → Type 0
    IsMadeAt (made_at t) = Unit {0}
    IsMadeAt j = ⊥

    go : (k : Key) → IsNodeKey k → In (k, a) w.local.more → Names w.g w.seen w.rows k a (made_at s) → IsStanding w.rows (made_at s)
    go (key.Stream n) x y z = absurd (subst IsMadeAt z tt)
    go (key.Made n) x y z = by (key.Made n) tt x y z
    go (key.Source b n) x y z = by (key.Source b n) tt x y z
    go (key.Settled n) x y z = by (key.Settled n) tt x y z
    go (key.Action n) x y z = by (key.Action n) tt x y z
    go (key.Client n) x y z = absurd x
    go (key.Symbol n) x y z = absurd x
    go (key.Server n) x y z = absurd x

one_key : (w : Lifting) (k l : Key) (i : Identity) → Paired w.new.homes k i → Paired w.new.homes l i → k ≡ l
one_key w k l i p q = go (in_homes w k i p) (in_homes w l i q)
  where
    both : (a b : Key) (j : Identity) → Paired w.old.homes a j → IsNodeKey b → (r : Ref) → In (b, r) w.local.more → Names w.g w.seen w.rows b r j → IsNewHome w.start w.below_next j → ⊥
    both a b (made_at s) x node r y z f =
        standing_rows w.rows s (new_standing w b s r node y z) (old_only w s.id (standing_rows w.old.rows s (old_standing w a s x)))
    both a b (promise_of id) x node r y z f = absurd (omega (arith, f.0, w.low.homes a (promise_of id) x))
    both a b (stream_of id) x node r y z f = absurd (omega (arith, f.0, w.low.homes a (stream_of id) x))
    both a b (action_of id) x node r y z f = absurd (omega (arith, f.0, w.low.homes a (action_of id) x))

    old_new : (a b : Key) → Paired w.old.homes a i → Paired w.step.homes.0 b i → ⊥
    old_new a b x y = let m = w.adopts.into b i y in both a b i x m.0 m.1.0 m.1.1 m.1.2 (w.local.home_fresh b m.1.0 i m.1.1 m.1.2)

    go : Paired w.old.homes k i ⊎ Paired w.step.homes.0 k i → Paired w.old.homes l i ⊎ Paired w.step.homes.0 l i → k ≡ l
    go (inl a) (inl b) = w.fits.one_key k l i a b
    go (inl a) (inr b) = absurd (old_new k l a b)
    go (inr a) (inl b) = absurd (old_new l k b a)
    go (inr a) (inr b) =
        let m = (w.adopts.into k i a).1 in
        let n = (w.adopts.into l i b).1 in
        w.local.one_key k l m.0 n.0 i m.1 n.1 m.2 n.2

-- ---- one row for a key that is no node, and one key for a row

in_others : (w : Lifting) (k : Key) (id : ℕ) → In (k, id) w.new.others → In (k, id) w.old.others ⊎ (IsRowKey k × ((a : Ref) × In (k, a) w.local.more × (a.id ≡ id)))
in_others w k id i = ⊎_elim (λ x. inl x) (λ x. inr (w.adopts.into_rows k id x)) (in_either w.old.others w.step.others.0 (k, id) (subst (In (k, id)) w.step.others.1 i))

one_row : (w : Lifting) (k : Key) (a b : ℕ) → In (k, a) w.new.others → In (k, b) w.new.others → a ≡ b
one_row w k a b i j = go (in_others w k a i) (in_others w k b j)
  where
    apart_keys : (n : ℕ) → In (k, n) w.old.others → (r : Ref) → In (k, r) w.local.more → ⊥
    apart_keys n x r y = let o = w.tied.back_row k n x in w.local.new_key k r o.0 y o.1

    go : In (k, a) w.old.others ⊎ (IsRowKey k × ((r : Ref) × In (k, r) w.local.more × (r.id ≡ a))) → In (k, b) w.old.others ⊎ (IsRowKey k × ((r : Ref) × In (k, r) w.local.more × (r.id ≡ b))) → a ≡ b
    go (inl x) (inl y) = w.fits.one_row k a b x y
    go (inl x) (inr y) = absurd (apart_keys a x y.1.0 y.1.1)
    go (inr x) (inl y) = absurd (apart_keys b y x.1.0 x.1.1)
    go (inr x) (inr y) = sym x.1.2 ∙ (ap (λ (z : Ref). z.id) (w.local.one_home k x.1.0 y.1.0 x.1.1 y.1.1) ∙ y.1.2)

one_row_key : (w : Lifting) (k l : Key) (id : ℕ) → In (k, id) w.new.others → In (l, id) w.new.others → k ≡ l
one_row_key w k l id i j = go (in_others w k id i) (in_others w l id j)
  where
    go : In (k, id) w.old.others ⊎ (IsRowKey k × ((r : Ref) × In (k, r) w.local.more × (r.id ≡ id))) → In (l, id) w.old.others ⊎ (IsRowKey l × ((r : Ref) × In (l, r) w.local.more × (r.id ≡ id))) → k ≡ l
    go (inl x) (inl y) = w.fits.one_row_key k l id x y
    go (inl x) (inr y) = absurd (omega (arith, w.low.others k id x, y.1.2, (w.local.row_fresh_key l y.1.0 y.0 y.1.1).0))
    go (inr x) (inl y) = absurd (omega (arith, w.low.others l id y, x.1.2, (w.local.row_fresh_key k x.1.0 x.0 x.1.1).0))
    go (inr x) (inr y) = w.local.one_row_key k l x.1.0 y.1.0 x.0 y.0 x.1.1 y.1.1 (x.1.2 ∙ sym y.1.2)

-- ---- streams

-- another stream's rows stay as they are
pub stream_unchanged : (w : Lifting) (n id : ℕ) → Paired w.old.homes (key.Stream n) (stream_of id) → (id ≡ w.step.task.id → ⊥) → StreamStep w.g w.old w.new w.step.task w.step.end w.all n id
stream_unchanged w n id q ne =
    let s = w.fits.homes (key.Stream n) (stream_of id) q in
    unchanged q ne (as_other w id ne (old_only w id (λ e. some_rows s.opener s.behind (sym s.rows ∙ e))))

stream_opened : (w : Lifting) (n : ℕ) (i : Identity) → Paired w.step.homes.0 (key.Stream n) i → (id : ℕ) × (i ≡ stream_of id) × StreamStep w.g w.old w.new w.step.task w.step.end w.all n id
stream_opened w n i q =
    let m = (w.adopts.into (key.Stream n) i q).1 in
    let s = w.local.is_home (key.Stream n) m.0 m.1 in
    let u = born_task w m.0.id (next_what n s.flows.items 0) s.born in (
      m.0.id,
      m.2,
      opened s.flows s.opener s.is_stream
          (subst (λ z. rows_of m.0.id z ≡ s.opener ∷ []) (sym (rows_now w)) (rows-behind w.base w.rows w.apart m.0.id s.opener [] s.is_row)) s.opens
          (record { task = u.0; is_task = born_new w u.0 u.1; same_id = u.2; live = born_live w u.0 u.1; is_next = u.3 }),
    )

-- ---- the rows follow one another

opens : (k : RowKind) → ¬ (k ≡ row.Close) → (s : Standing) × (after (next absent k) [] ≡ Some s)
opens row.Close sure = absurd (sure refl)
opens row.Model sure = (defined, refl)
opens row.Import sure = (defined, refl)
opens row.Error sure = (defined, refl)
opens row.Text sure = (defined, refl)
opens (row.Open flow) sure = (streaming, refl)

-- of an id that gets no row before the value's own
pub follows_at : (w : Lifting) (n : ℕ) → ((s : Standing) × (after (goes absent) (rows_of n w.base) ≡ Some s)) → (s : Standing) × (standing_of n w.new.rows ≡ Some s)
follows_at w n before = go (rows_of n w.rows) refl (w.local.once n)
  where
    go : (ts : List PlaceTree) → rows_of n w.rows ≡ ts → IsOnce ts → (s : Standing) × (standing_of n w.new.rows ≡ Some s)
    go [] e once = (before.0, ap (after (goes absent)) (as_base w n e) ∙ before.1)
    go (t ∷ []) e once =
        let s = opens t.kind once in
        (s.0, ap (after (goes absent)) (subst (λ z. rows_of n z ≡ t ∷ []) (sym (rows_now w)) (rows-behind w.base w.rows w.apart n t [] e)) ∙ s.1)
    go (t ∷ u ∷ ts) e once = absurd once

place_by : (xs ys : List PlacedRow) (s : Spot) (at : Place) → rows_of s.id xs ≡ rows_of s.id ys → place_at xs s ≡ Some at → place_at ys s ≡ Some at
place_by xs ys s at e h = sym (ap (λ ts. option_and_then (λ (t : PlaceTree). slice_get t.places s.at) (slice_get ts s.nth)) e) ∙ h

-- what stands at a place of the value's rows, or of those before
pub held_at : (w : Lifting) (s : Spot) (at : Place) → place_at w.new.rows s ≡ Some at → (place_at w.base s ≡ Some at) ⊎ (IsPlain at ⊎ ((v : Value) × In (s, v) w.all))
held_at w s at h = go (w.apart s.id)
  where
    go : (rows_of s.id w.base ≡ []) ⊎ (rows_of s.id w.rows ≡ []) → (place_at w.base s ≡ Some at) ⊎ (IsPlain at ⊎ ((v : Value) × In (s, v) w.all))
    go (inl e) = inr (⊎_elim (λ x. inl x) (λ x. inr (x.0, w.among s x.0 x.1)) (w.local.held s at (place_by w.new.rows w.rows s at (as_new w s.id e) h)))
    go (inr e) = inl (place_by w.new.rows w.base s at (as_base w s.id e) h)

-- ---- the tasks

map_map : (ts : List Task) → map (λ (t : Task). t.id) ts ≡ map (λ (b : ℕ × What). b.0) (map (λ (t : Task). (t.id, t.what)) ts)
map_map [] = refl
map_map (t ∷ ts) = ap (λ z. t.id ∷ z) (map_map ts)

-- the ids of those that are born
born_ids : (w : Lifting) → own_ids w.step.born ≡ map (λ (b : ℕ × What). b.0) (w.ahead ++ w.births)
born_ids w = ids_owned w.step.born (λ u i. live_owns u (born_live w u i)) ∙ (map_map w.step.born ∙ ap (map (λ (b : ℕ × What). b.0)) w.adopts.same_births)

-- no two tasks have one id, where those that are left have none of those that are born
pub one_task_by : (w : Lifting) → Distinct (own_ids (slice_set w.old.tasks w.number (close w.step.task))) → Distinct (map (λ (b : ℕ × What). b.0) (w.ahead ++ w.births))
    → ((x : ℕ) → In x (own_ids (slice_set w.old.tasks w.number (close w.step.task))) → In x (map (λ (b : ℕ × What). b.0) (w.ahead ++ w.births)) → ⊥) → Distinct (own_ids w.new.tasks)
one_task_by w left born apart_ids =
    subst (λ z. Distinct (own_ids z)) (sym w.step.tasks)
    (subst Distinct (sym (ids_append (slice_set w.old.tasks w.number (close w.step.task)) w.step.born))
    (distinct_append (own_ids (slice_set w.old.tasks w.number (close w.step.task))) (own_ids w.step.born) left (subst Distinct (sym (born_ids w)) born) (λ x i j. apart_ids x i (subst (In x) (born_ids w) j))))

-- no task that was there has a fresh id
pub not_born : (w : Lifting) (x : ℕ) → In x (own_ids w.old.tasks) → In x (map (λ (b : ℕ × What). b.0) w.births) → ⊥
not_born w x i j =
    let t = id_of_own w.old.tasks x i in
    let b = map_in (λ (b : ℕ × What). b.0) w.births x j in
    omega (arith, w.low.tasks t.0 t.1, t.2, b.2, (w.local.born_fresh b.0.0 b.0.1 b.1).0)

pub met_reached_for : (w : Lifting) (id : ℕ) (v : What) → In (id, v) w.births → ReachedFor w.g w.new.settled v
met_reached_for w id v i = go (stream_for v) (w.local.born_met id v i)
  where
    reach : (x : Value) → Met w.g w.seen w.first x → Reached w.g w.new.settled x
    reach x m = met_reached w.g w.new.settled w.seen (shows_new w) w.first (w.first_reached id v i) x m

    go : (o : Option ℕ) → MetBy w.g w.seen w.first (job_for w.g v) o → ReachedBy w.g w.new.settled (job_for w.g v) o
    go None m = (m.0, reach m.0 m.1, job_shown w.g w.new.settled w.seen (shows_new w) m.0 m.2 ∙ m.3)
    go (Some n) m = (m.0, reach m.0 m.1, stream_no_job w.g w.new.settled m.0 n m.2, sym m.2)

pub here_tabled : (w : Lifting) (v : What) → TablesHere w.seen v → IsTabled w.g w.new.settled v
here_tabled w (what.Element n tables) t =
    let at = (shows_new w).nodes n t.0.0 t.0.1 in
    (((t.0.0, at), t.1 ∙ (shows_new w).tables n t.0.0 t.0.1 t.0.2), ap (λ o. is_some (element_of o)) at ∙ t.0.2)
here_tabled w what.Root t = tt
here_tabled w (what.Promise a) t = tt
here_tabled w (what.Known a) t = tt
here_tabled w (what.Item a b) t = tt
here_tabled w (what.Last a) t = tt

-- a live task that was there is another than the finished one
pub live_other : (w : Lifting) (u : Task) → In u w.new.tasks → IsLive u.status → (In u w.old.tasks × (u.id ≡ w.step.task.id → ⊥)) ⊎ In u w.step.born
live_other w u i live = go (in_either (slice_set w.old.tasks w.number (close w.step.task)) w.step.born u (subst (In u) w.step.tasks i))
  where
    gone : u ≡ close w.step.task → ⊥
    gone e = subst (λ (z : Task). IsLive z.status) e live

    go : In u (slice_set w.old.tasks w.number (close w.step.task)) ⊎ In u w.step.born → (In u w.old.tasks × (u.id ≡ w.step.task.id → ⊥)) ⊎ In u w.step.born
    go (inr k) = inr k
    go (inl k) =
        inl (
          ⊎_elim (λ e. absurd (gone e)) (λ x. x) (set_back w.old.tasks w.number (close w.step.task) u k),
          λ same. gone (set_other w.old.tasks w.number w.step.task (close w.step.task) u w.fits.one_task w.step.is_task (live_owns w.step.task (task_live w)) k (live_owns u live) same),
        )

old_unwritten : (w : Lifting) (u : Task) → In u w.old.tasks → (u.id ≡ w.step.task.id → ⊥) → IsLive u.status → IsAlone u.what → rows_of u.id w.new.rows ≡ []
old_unwritten w u i ne live alone = none_new w u.id (w.base_same u.id ne ∙ w.fits.unwritten u i live alone) (go (rows_of u.id w.rows) refl)
  where
    go : (ts : List PlaceTree) → rows_of u.id w.rows ≡ ts → rows_of u.id w.rows ≡ []
    go [] e = e
    go (t ∷ ts) e = absurd (⊎_elim (λ q. ne (w.own_id u.id q)) (λ f. absurd (omega (arith, f.0, w.low.tasks u i))) (w.local.row_fresh u.id (λ q. some_rows t ts (sym e ∙ q))))

pub streaming_rows : (rows : List PlacedRow) (id : ℕ) → standing_of id rows ≡ Some streaming → rows_of id rows ≢ []
streaming_rows rows id h e = go (same_Some absent streaming (sym (ap (after (goes absent)) e) ∙ h))
  where
    IsAbsent : Standing → Type 0
    IsAbsent absent = Unit {0}
    IsAbsent s = ⊥

    go : absent ≡ streaming → ⊥
    go q = subst IsAbsent q tt

old_open : (w : Lifting) (u : Task) (n : ℕ) → In u w.old.tasks → (u.id ≡ w.step.task.id → ⊥) → IsLive u.status → stream_for u.what ≡ Some n → OpenFor w.new u.id n
old_open w u n k ne live of =
    let o = w.fits.open_for u n k live of in
    record { home = old_home w (key.Stream n) (stream_of u.id) o.home; goes_on = ap (after (goes absent)) (as_other w u.id ne (old_only w u.id (streaming_rows w.old.rows u.id o.goes_on))) ∙ o.goes_on }

born_open : (w : Lifting) (id : ℕ) (v : What) (n : ℕ) → In (id, v) w.births → stream_for v ≡ Some n → OpenFor w.new id n
born_open w id v n k of =
    let a = w.local.for_stream id v n k of in
    let s = w.local.is_home (key.Stream n) a.0 a.1 in
    let rows = rows-behind w.base w.rows w.apart a.0.id s.opener [] s.is_row in
    subst (λ z. OpenFor w.new z n) a.2
    (record {
      home = new_home w (key.Stream n) (stream_of a.0.id) (w.adopts.onto (key.Stream n) a.0 (stream_of a.0.id) tt a.1 refl);
      goes_on = ap (after (goes absent)) (subst (λ z. rows_of a.0.id z ≡ s.opener ∷ []) (sym (rows_now w)) rows) ∙ ap (λ z. after (next absent z) []) s.opens;
    })

-- ---- the whole

-- what the row of the task itself and the task that follows ask for
pub record Rest (w : Lifting) : Type 0 where
  pub follow_on : FollowOn w.new.rows
  pub value_row : IsAlone w.step.task.what → HasValueRow w.new.rows w.step.task.id × In (first_place w.step.task.id, value_of w.g w.new.settled (job_at w.g w.step.task) w.step.end) w.all
  pub places : (s : Spot) (v : Value) → In (s, v) w.all → In (s, v) w.meant ⊎ IsWritten w.g w.new s v
  pub held : (s : Spot) (at : Place) → place_at w.base s ≡ Some at → IsHeld w.old.rows at ⊎ (IsPlain at ⊎ ((v : Value) × In (s, v) w.all))
  pub own_step : (n : ℕ) → Paired w.old.homes (key.Stream n) (stream_of w.step.task.id) → StreamStep w.g w.old w.new w.step.task w.step.end w.all n w.step.task.id
  pub one_task : Distinct (own_ids w.new.tasks)
  pub reached : (u : Task) → In (u.id, u.what) w.ahead → ReachedFor w.g w.new.settled u.what
  pub tabled : (u : Task) → In (u.id, u.what) w.ahead → IsTabled w.g w.new.settled u.what
  pub not_alone : (u : Task) → In (u.id, u.what) w.ahead → IsAlone u.what → ⊥
  pub open_for : (u : Task) (n : ℕ) → In (u.id, u.what) w.ahead → stream_for u.what ≡ Some n → OpenFor w.new u.id n

pub emits_by : (w : Lifting) → Rest w → EmitsWell w.g w.old w.new w.step.task w.step.born w.step.end w.all
emits_by w r =
    record {
      follow_on = r.follow_on;
      own = r.value_row;
      places = λ s v i. ⊎_elim (λ k. let x = w.local.places s v k in written w (Some s) s x.0 v (λ t e. sym (same_Some s t e)) (place_new w s x.0 x.1) x.2) (λ x. x) (r.places s v i);
      held = λ s at h. ⊎_elim (λ x. r.held s at x) (λ x. inr x) (held_at w s at h);
      one_home = one_home w;
      one_key = one_key w;
      new_homes = λ k i lasting p. ⊎_elim (λ x. inl x) (λ x. let m = w.adopts.into k i x in inr (lasting_node w k i lasting m.0 m.1.0 m.1.1 m.1.2)) (in_homes w k i p);
      streams = λ n i p. ⊎_elim (λ q. old_stream n i q) (λ q. stream_opened w n i q) (in_homes w (key.Stream n) i p);
      others = λ k id i. ⊎_elim (λ x. inl x)
          (λ x. let m = w.adopts.into_rows k id x in inr (subst (RowAt w.g w.new k) m.1.2 (row_more w k m.1.0 m.0 m.1.1)))
          (in_either w.old.others w.step.others.0 (k, id) (subst (In (k, id)) w.step.others.1 i));
      one_row = one_row w;
      one_row_key = one_row_key w;
      one_task = r.one_task;
      reached = λ u i. ⊎_elim (λ k. r.reached u k) (λ k. met_reached_for w u.id u.what k) (birth_of w u i);
      tabled = λ u i. ⊎_elim (λ k. r.tabled u k) (λ k. here_tabled w u.what (w.local.born_tables u.id u.what k)) (birth_of w u i);
      unwritten = λ u i live alone. ⊎_elim (λ x. old_unwritten w u x.0 x.1 live alone)
          (λ x. ⊎_elim (λ k. absurd (r.not_alone u k alone))
          (λ k. none_new w u.id (fresh_base w u.id (w.local.born_fresh u.id u.what k).0) (w.local.unwritten u.id u.what k alone)) (birth_of w u x)) (live_other w u i live);
      open_for = λ u n i live of. ⊎_elim (λ x. old_open w u n x.0 x.1 live of) (λ x. ⊎_elim (λ k. r.open_for u n k of) (λ k. born_open w u.id u.what n k of) (birth_of w u x)) (live_other w u i live);
      own_counted = w.adopts.own_counted;
      counted_once = w.adopts.counted_once;
      new_counted = λ a c i. ⊎_elim (λ x. inl x) (λ x. inr (w.adopts.new_counted a c x)) (in_either w.old.counted w.step.counted.0 (a, c) (subst (In (a, c)) w.step.counted.1 i));
    }
  where
    old_stream : (n : ℕ) (i : Identity) → Paired w.old.homes (key.Stream n) i → (id : ℕ) × (i ≡ stream_of id) × StreamStep w.g w.old w.new w.step.task w.step.end w.all n id
    old_stream n i q =
        let id = stream_home w.g w.old n i (w.fits.homes (key.Stream n) i q) in
        let p = subst (Paired w.old.homes (key.Stream n)) id.1 q in
        (id.0, id.1, go id.0 p (eqb id.0 w.step.task.id) refl)
      where
        go : (id : ℕ) → Paired w.old.homes (key.Stream n) (stream_of id) → (b : Bool) → eqb id w.step.task.id ≡ b → StreamStep w.g w.old w.new w.step.task w.step.end w.all n id
        go id p true e =
            let same = eqb-true id w.step.task.id e in
            subst (StreamStep w.g w.old w.new w.step.task w.step.end w.all n) (sym same) (r.own_step n (subst (λ z. Paired w.old.homes (key.Stream n) (stream_of z)) same p))
        go id p false e = stream_unchanged w n id p (eqb-false id w.step.task.id e)

-- ---- what the next call asks for

tie_more : (w : Lifting) (k : Key) (a : Ref) → In (k, a) w.local.more → TiedTo w.g w.new k a
tie_more w k a i = go k i
  where
    row_tied : (k : Key) → IsRowKey k → In (k, a) w.local.more → TiedTo w.g w.new k a
    row_tied k is i = local.row_tie is (subst (In (k, a.id)) (sym w.step.others.1) (in_behind w.old.others w.step.others.0 (k, a.id) (w.adopts.onto_rows k a is i)))

    node_tied : (k : Key) → IsLasting k → IsNodeKey k → In (k, a) w.local.more → TiedTo w.g w.new k a
    node_tied k lasting node i =
        let x = node_here w k a lasting node i in
        local.node_tie x.here x.identity lasting (shape_shown w.g w.new.settled w.seen (shows_new w) k x.here lasting x.is_here)
        (new_home w k x.identity (w.adopts.onto k a x.identity node i x.names)) (names_behind w x.here.label a x.identity (names_shape w.g w.seen w.rows k a x.identity x.here lasting x.is_here x.names))

    go : (k : Key) → In (k, a) w.local.more → TiedTo w.g w.new k a
    go (key.Stream n) i = local.stream_tie n (new_home w (key.Stream n) (stream_of a.id) (w.adopts.onto (key.Stream n) a (stream_of a.id) tt i refl))
    go (key.Made n) i = node_tied (key.Made n) tt tt i
    go (key.Source s n) i = node_tied (key.Source s n) tt tt i
    go (key.Settled n) i = node_tied (key.Settled n) tt tt i
    go (key.Action n) i = node_tied (key.Action n) tt tt i
    go (key.Client n) i = row_tied (key.Client n) tt i
    go (key.Symbol n) i = row_tied (key.Symbol n) tt i
    go (key.Server n) i = row_tied (key.Server n) tt i

tie_old : (w : Lifting) (k : Key) (a : Ref) → TiedTo w.g w.old k a → TiedTo w.g w.new k a
tie_old w k a (local.node_tie shape i lasting at p names) =
    local.node_tie shape i lasting (subst (λ z. NodeIs w.g z k shape) (sym (settled_is w.g w.old w.new w.number w.step)) at) (old_home w k i p) (names_before w shape.label a i names)
tie_old w k a (local.stream_tie n p) = local.stream_tie n (old_home w (key.Stream n) (stream_of a.id) p)
tie_old w k a (local.row_tie is i) = local.row_tie is (subst (In (k, a.id)) (sym w.step.others.1) (in_front w.old.others w.step.others.0 (k, a.id) i))

pub tied_new : (w : Lifting) → Tied w.g w.new w.behind
tied_new w =
    record {
      tie = λ k a i. ⊎_elim (λ x. tie_old w k a (w.tied.tie k a x)) (λ x. tie_more w k a x) (in_behind_homes w k a i);
      back = λ k i p. ⊎_elim
          (λ x. let b = w.tied.back k i x in (b.0, subst (In (k, b.0)) (sym w.local.homes) (in_front w.before w.local.more (k, b.0) b.1)))
          (λ x. let m = (w.adopts.into k i x).1 in (m.0, subst (In (k, m.0)) (sym w.local.homes) (in_behind w.before w.local.more (k, m.0) m.1)))
          (in_homes w k i p);
      back_row = λ k id i. ⊎_elim
          (λ x. let b = w.tied.back_row k id x in (b.0, subst (In (k, b.0)) (sym w.local.homes) (in_front w.before w.local.more (k, b.0) b.1)))
          (λ x. (x.1.0, subst (In (k, x.1.0)) (sym w.local.homes) (in_behind w.before w.local.more (k, x.1.0) x.1.1)))
          (in_others w k id i);
    }

task_low : (w : Lifting) → w.step.task.id < w.below_next
task_low w = omega (arith, w.low.tasks w.step.task (task_in w), w.local.up)

row_low : (w : Lifting) (n : ℕ) → rows_of n w.rows ≢ [] → n < w.below_next
row_low w n h = ⊎_elim (λ e. omega (arith, w.own_id n e, task_low w)) (λ f. f.1) (w.local.row_fresh n h)

home_low : (w : Lifting) (k : Key) (a : Ref) (i : Identity) → IsNodeKey k → In (k, a) w.local.more → Names w.g w.seen w.rows k a i → IsNewHome w.start w.below_next i → id_of i < w.below_next
home_low w k a (made_at s) node m names f = row_low w s.id (standing_rows w.rows s (new_standing w k s a node m names))
home_low w k a (promise_of id) node m names f = f.1
home_low w k a (stream_of id) node m names f = f.1
home_low w k a (action_of id) node m names f = f.1

pub below_new : (w : Lifting) → Below w.new w.below_next
below_new w =
    record {
      rows = λ n h. go n h (rows_of n w.rows) refl;
      others = λ k id i. ⊎_elim (λ x. omega (arith, w.low.others k id x, w.local.up)) (λ x. omega (arith, x.1.2, (w.local.row_fresh_key k x.1.0 x.0 x.1.1).1)) (in_others w k id i);
      tasks = λ u i. ⊎_elim (λ e. subst (λ (z : Task). z.id < w.below_next) (sym e) (task_low w))
          (λ x. ⊎_elim (λ k. omega (arith, w.low.tasks u k, w.local.up)) (λ k. ⊎_elim (λ q. w.ahead_low u.id u.what q) (λ q. (w.local.born_fresh u.id u.what q).1) (birth_of w u k)) x) (step_only w.g w.old w.new w.number w.step u i);
      homes = λ k i p. ⊎_elim (λ x. omega (arith, w.low.homes k i x, w.local.up))
          (λ x. let m = w.adopts.into k i x in home_low w k m.1.0 i m.0 m.1.1 m.1.2 (w.local.home_fresh k m.1.0 i m.1.1 m.1.2)) (in_homes w k i p);
    }
  where
    go : (n : ℕ) → rows_of n w.new.rows ≢ [] → (ts : List PlaceTree) → rows_of n w.rows ≡ ts → n < w.below_next
    go n h (t ∷ ts) e = row_low w n (λ q. some_rows t ts (sym e ∙ q))
    go n h [] e = by (eqb n w.step.task.id) refl
      where
        by : (b : Bool) → eqb n w.step.task.id ≡ b → n < w.below_next
        by true q = let same = eqb-true n w.step.task.id q in omega (arith, same, task_low w)
        by false q = omega (arith, w.low.rows n (λ x. h (as_other w n (eqb-false n w.step.task.id q) e ∙ x)), w.local.up)
