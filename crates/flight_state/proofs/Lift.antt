-- A writer's step, and the rows, tasks and homes behind it.
use Rattle.std.proofs.Common.{◌≡◌, ◌≢◌, ℕ, ◌<◌, ◌≤◌, Bool, ◌⊎◌, ⊎_elim, List, [], ◌∷◌, ◌++◌, Option, Some, refl, sym, ap, ◌∙◌, subst, append-nil, append_assoc, arith}
use Rattle.std.proofs.lemmas.Option.{none-some}
use Rattle.std.proofs.lemmas.List.Elements.{Contains-append_left, Contains-append_right, Contains-append_cases}
use Rattle.std.specs.Prelude.{slice_set}
use Rattle.flight_value.specs.Store.{Shape, Label, Paired}
use Rattle.flight_value.specs.declared.graph.Atom.{Atom}
use Rattle.flight_value.specs.declared.graph.Atom.TheVariants as atom
use Rattle.flight_value.specs.declared.key.Key.{Key}
use Rattle.flight_value.specs.declared.key.Key.TheVariants as key
use Rattle.flight_text.specs.declared.mark.Ref.{Ref}
use Rattle.flight_row.specs.declared.row.RowKind.TheVariants as row
use Rattle.flight_render.specs.declared.root.Ground.{Ground}
use Rattle.flight_render.specs.declared.job.What.{What}
use Rattle.flight_render.specs.Values.{import_at}
use Rattle.flight_render.specs.Jobs.{Value, comes}
use Rattle.flight_render.specs.Plain.{NodeIs}
use Rattle.flight_value.specs.Listed.{In}
use Rattle.flight_render.specs.Costs.{Reached}
use Rattle.flight_render.specs.Attempt.{job_for}
use Rattle.flight_render.specs.Laws.{IsLasting}
use Rattle.flight_render.proofs.Reaches.{one_node}
use Rattle.flight_meaning.specs.declared.place.Place.{Place}
use Rattle.flight_meaning.specs.declared.place.Place.TheVariants as place
use Rattle.flight_meaning.specs.declared.place.PlaceTree.{PlaceTree}
use Rattle.flight_meaning.specs.declared.place.PlacedRow.{PlacedRow}
use Rattle.flight_meaning.specs.Linked.{rows_of, Spot, place_at, first_place}
use Rattle.flight_meaning.specs.Resolve.{Stand, to, here, Found, found, Turn, on, ends, turn, go_to, Ends, IsEnd}
use Rattle.flight_meaning.specs.Resolve as resolve
use Rattle.flight_meaning.specs.Meaning.{Written, Identity, stream_of, HasShape}
use Rattle.flight_meaning.proofs.MoreRows.{rows_of-append, rows_of-first, end-more}
use Rattle.flight_meaning.proofs.MoreMeaning.{shape-more}
use Rattle.flight_state.specs.State.{State, Task, IsLive, job_at}
use Rattle.flight_state.specs.Spells.{IsLone, AtHome}
use Rattle.flight_state.specs.Fits.{IsAtomRow, RowAt, Fits}
use Rattle.flight_state.specs.Steps.{close, DoneStep}
use Rattle.flight_state.specs.Emits.{Meant, HasValueRow}
use Rattle.flight_state.specs.Local as local
use Rattle.flight_state.specs.Local.{Seen, IsSeen, job_seen, shape_seen, value_seen, Met, Homes, Births, NamesAt, Names, RefersBy, IsAtomOf, WrittenHere, MeantHere, NodeHere, StreamHere, TaskHere, HomeHere, MetBy, TablesHere, IsFresh, IsNewHome, IsOnce, IsRowKey, IsNodeKey, IsOwnRow, AddsHere, Shows, TiedTo, Tied, id_of, Below, Adopts}
use Rattle.flight_state.proofs.Lists.{in_behind, in_either, in_map, map_in, at_in}
use Rattle.flight_state.proofs.Moves.{lone_ended, row_on}
use Rattle.flight_state.proofs.Emitting.{moves_of, settled_is}
use Rattle.flight_state.proofs.Alike.{Apart, place-behind, end-behind, shape-behind, rows-behind}
use Rattle.flight_state.proofs.Joined.{shape_shown, IsStanding, standing_by, names_at_on, names_shape}

-- all that is given, in one
pub record Lifting : Type 0 where
  pub g : Ground
  pub old : State
  pub new : State
  pub number : ℕ
  pub seen : Seen
  pub start : ℕ
  pub below_next : ℕ
  pub before : Homes
  pub behind : Homes
  pub rows : List PlacedRow
  pub births : Births
  pub meant : Meant
  pub fits : Fits g old
  pub step : DoneStep g old new number
  pub gives : comes g old.settled (job_at g step.task) ≡ Some step.end
  pub tied : Tied g old before
  pub low : Below old start
  pub shows : Shows g old.settled seen
  -- the task's own row, where it has one, and what stands before the rows and births of the value
  pub own : Option ℕ
  pub own_id : (n : ℕ) → IsOwnRow own n → n ≡ step.task.id
  pub front : List PlacedRow
  pub ahead : Births
  pub base : List PlacedRow
  pub is_base : base ≡ old.rows ++ front
  pub base_same : (n : ℕ) → (n ≡ step.task.id → ⊥) → rows_of n base ≡ rows_of n old.rows
  pub apart : Apart base rows
  -- what is meant at all places
  pub all : Meant
  pub among : (s : Spot) (v : Value) → In (s, v) meant → In (s, v) all
  pub ahead_low : (id : ℕ) (v : What) → In (id, v) ahead → id < below_next
  pub first : Value
  pub first_reached : (id : ℕ) (v : What) → In (id, v) births → Reached g new.settled first
  pub local : AddsHere g seen first own start below_next before behind rows births meant
  pub adopts : Adopts g old new number step seen local.more front rows ahead births

-- ---- the task, and what is settled

pub task_in : (w : Lifting) → In w.step.task w.old.tasks
task_in w = at_in w.old.tasks w.number w.step.task w.step.is_task

pub task_live : (w : Lifting) → IsLive w.step.task.status
task_live w = subst IsLive (sym w.step.was) tt

pub shows_new : (w : Lifting) → Shows w.g w.new.settled w.seen
shows_new w = subst (λ z. Shows w.g z w.seen) (sym (settled_is w.g w.old w.new w.number w.step)) w.shows

-- ---- the rows

pub rows_now : (w : Lifting) → w.new.rows ≡ w.base ++ w.rows
rows_now w = w.step.rows.1 ∙ (ap (λ z. w.old.rows ++ z) w.adopts.same_rows ∙ (sym (append_assoc w.old.rows w.front w.rows) ∙ ap (λ z. z ++ w.rows) (sym w.is_base)))

pub IsEmpty : List PlaceTree → Type 0
IsEmpty [] = Unit {0}
IsEmpty (t ∷ ts) = ⊥

pub some_rows : (t : PlaceTree) (ts : List PlaceTree) → t ∷ ts ≡ [] → ⊥
unfolding IsEmpty
some_rows t ts e = absurd (subst IsEmpty (sym e) tt)

pub front_none : (xs ys : List PlaceTree) → xs ++ ys ≡ [] → xs ≡ []
front_none [] ys e = refl
front_none (x ∷ xs) ys e = absurd (some_rows x (xs ++ ys) e)

-- a fresh id has no row yet
pub fresh_none : (old : State) (start : ℕ) → Below old start → (n : ℕ) → start ≤ n → rows_of n old.rows ≡ []
fresh_none old start low n h = go (rows_of n old.rows) refl
  where
    go : (ts : List PlaceTree) → rows_of n old.rows ≡ ts → rows_of n old.rows ≡ []
    go [] e = e
    go (t ∷ ts) e = absurd (omega (arith, h, low.rows n (λ q. some_rows t ts (sym e ∙ q))))

pub not_task : (w : Lifting) (n : ℕ) → w.start ≤ n → n ≡ w.step.task.id → ⊥
not_task w n h e = omega (arith, h, e, w.low.tasks w.step.task (task_in w))

pub fresh_base : (w : Lifting) (n : ℕ) → w.start ≤ n → rows_of n w.base ≡ []
fresh_base w n h = w.base_same n (not_task w n h) ∙ fresh_none w.old w.start w.low n h

-- an id that has rows already gets none
pub old_only : (w : Lifting) (n : ℕ) → rows_of n w.old.rows ≢ [] → rows_of n w.rows ≡ []
old_only w n h = ⊎_elim (λ e. absurd (h (front_none (rows_of n w.old.rows) (rows_of n w.front) (sym (rows_of-append n w.old.rows w.front) ∙ (sym (ap (rows_of n) w.is_base) ∙ e))))) (λ e. e) (w.apart n)

pub of_id : (w : Lifting) (n : ℕ) → rows_of n w.new.rows ≡ rows_of n w.base ++ rows_of n w.rows
of_id w n = ap (rows_of n) (rows_now w) ∙ rows_of-append n w.base w.rows

pub none_new : (w : Lifting) (n : ℕ) → rows_of n w.base ≡ [] → rows_of n w.rows ≡ [] → rows_of n w.new.rows ≡ []
none_new w n a b = of_id w n ∙ (ap (λ z. z ++ rows_of n w.rows) a ∙ b)

pub as_base : (w : Lifting) (n : ℕ) → rows_of n w.rows ≡ [] → rows_of n w.new.rows ≡ rows_of n w.base
as_base w n e = of_id w n ∙ (ap (λ z. rows_of n w.base ++ z) e ∙ append-nil (rows_of n w.base))

pub as_other : (w : Lifting) (n : ℕ) → (n ≡ w.step.task.id → ⊥) → rows_of n w.rows ≡ [] → rows_of n w.new.rows ≡ rows_of n w.old.rows
as_other w n h e = as_base w n e ∙ w.base_same n h

pub as_new : (w : Lifting) (n : ℕ) → rows_of n w.base ≡ [] → rows_of n w.new.rows ≡ rows_of n w.rows
as_new w n e = of_id w n ∙ ap (λ z. z ++ rows_of n w.rows) e

pub place_new : (w : Lifting) (s : Spot) (at : Place) → place_at w.rows s ≡ Some at → place_at w.new.rows s ≡ Some at
place_new w s at h = subst (λ z. place_at z s ≡ Some at) (sym (rows_now w)) (place-behind w.base w.rows w.apart s at h)

pub end_new : (w : Lifting) (s : Stand) (f : Found) → IsEnd f → Ends w.rows s f → Ends w.new.rows s f
end_new w s f is h = subst (λ z. Ends z s f) (sym (rows_now w)) (end-behind w.base w.rows w.apart s f is h)

pub end_old : (w : Lifting) (s : Stand) (f : Found) → IsEnd f → Ends w.old.rows s f → Ends w.new.rows s f
end_old w s f is h = subst (λ z. Ends z s f) (sym w.step.rows.1) (end-more w.old.rows w.step.rows.0 s f is h)

pub shape_new : (w : Lifting) (i : Identity) (shape : Shape Written) → IsLone i → HasShape w.rows i shape → HasShape w.new.rows i shape
shape_new w i shape lone h = subst (λ z. HasShape z i shape) (sym (rows_now w)) (shape-behind w.base w.rows w.apart i shape (lone_ended w.rows i shape lone h) h)

pub atom_row_new : (w : Lifting) (id : ℕ) (a : Atom) → IsAtomRow w.rows id a → IsAtomRow w.new.rows id a
atom_row_new w id a h = (end_new w (to id []) (found (first_place id)) tt h.0, place_new w (first_place id) (place.Atom a) h.1)

pub value_row_new : (w : Lifting) (id : ℕ) → HasValueRow w.rows id → HasValueRow w.new.rows id
value_row_new w id h = go (rows_of id w.rows) refl
  where
    IsOn : Turn → Type 0
    IsOn (on s) = Unit {0}
    IsOn (ends f) = ⊥

    go : (ts : List PlaceTree) → rows_of id w.rows ≡ ts → HasValueRow w.new.rows id
    go [] e = absurd (subst IsOn (sym h ∙ ap (λ z. go_to id z []) e) tt)
    go (t ∷ ts) e =
        let same : rows_of id w.new.rows ≡ rows_of id w.rows = subst (λ z. rows_of id z ≡ rows_of id w.rows) (sym (rows_now w)) (rows-behind w.base w.rows w.apart id t ts e ∙ sym e) in
        ap (λ z. go_to id z []) same ∙ h

-- ---- the tasks that are born

pub born_task : (w : Lifting) (id : ℕ) (v : What) → In (id, v) w.births → (u : Task) × In u w.step.born × (u.id ≡ id) × (u.what ≡ v)
born_task w id v i =
    let x = map_in (λ (t : Task). (t.id, t.what)) w.step.born (id, v) (subst (In (id, v)) (sym w.adopts.same_births) (in_behind w.ahead w.births (id, v) i)) in
    (x.0, x.1, sym (ap (λ z. z.0) x.2), sym (ap (λ z. z.1) x.2))

pub birth_of : (w : Lifting) (u : Task) → In u w.step.born → In (u.id, u.what) w.ahead ⊎ In (u.id, u.what) w.births
birth_of w u i = in_either w.ahead w.births (u.id, u.what) (subst (In (u.id, u.what)) w.adopts.same_births (in_map (λ (t : Task). (t.id, t.what)) w.step.born u i))

pub born_new : (w : Lifting) (u : Task) → In u w.step.born → In u w.new.tasks
born_new w u i = subst (In u) (sym w.step.tasks) (in_behind (slice_set w.old.tasks w.number (close w.step.task)) w.step.born u i)

pub born_live : (w : Lifting) (u : Task) → In u w.step.born → IsLive u.status
born_live w u i = subst IsLive (sym (w.step.are_ready u i)) tt

-- ---- the homes

pub in_homes : (w : Lifting) (k : Key) (i : Identity) → Paired w.new.homes k i → Paired w.old.homes k i ⊎ Paired w.step.homes.0 k i
in_homes w k i p = Contains-append_cases w.old.homes w.step.homes.0 (k, i) (subst (λ z. Paired z k i) w.step.homes.1 p)

pub old_home : (w : Lifting) (k : Key) (i : Identity) → Paired w.old.homes k i → Paired w.new.homes k i
old_home w k i p = subst (λ z. Paired z k i) (sym w.step.homes.1) (Contains-append_left w.old.homes w.step.homes.0 (k, i) p)

pub new_home : (w : Lifting) (k : Key) (i : Identity) → Paired w.step.homes.0 k i → Paired w.new.homes k i
new_home w k i p = subst (λ z. Paired z k i) (sym w.step.homes.1) (Contains-append_right w.old.homes w.step.homes.0 (k, i) p)

pub in_behind_homes : (w : Lifting) (k : Key) (a : Ref) → In (k, a) w.behind → In (k, a) w.before ⊎ In (k, a) w.local.more
in_behind_homes w k a i = in_either w.before w.local.more (k, a) (subst (In (k, a)) w.local.homes i)

-- the node of a lasting key is written whole
pub node_here : (w : Lifting) (k : Key) (a : Ref) → IsLasting k → IsNodeKey k → In (k, a) w.local.more → NodeHere w.g w.seen w.rows w.births w.meant k a
node_here w (key.Made n) a lasting node i = w.local.is_home (key.Made n) a i
node_here w (key.Source s n) a lasting node i = w.local.is_home (key.Source s n) a i
node_here w (key.Settled s) a lasting node i = w.local.is_home (key.Settled s) a i
node_here w (key.Action s) a lasting node i = w.local.is_home (key.Action s) a i
node_here w (key.Stream s) a lasting node i = absurd lasting
node_here w (key.Client s) a lasting node i = absurd node
node_here w (key.Symbol s) a lasting node i = absurd node
node_here w (key.Server s) a lasting node i = absurd node

pub lone_old : (w : Lifting) (k : Key) (i : Identity) → IsLasting k → Paired w.old.homes k i → IsLone i × AtHome w.g w.old k i
lone_old w (key.Stream s) i lasting p = absurd lasting
lone_old w (key.Made s) i lasting p = w.fits.homes (key.Made s) i p
lone_old w (key.Source s n) i lasting p = w.fits.homes (key.Source s n) i p
lone_old w (key.Settled s) i lasting p = w.fits.homes (key.Settled s) i p
lone_old w (key.Action s) i lasting p = w.fits.homes (key.Action s) i p
lone_old w (key.Client s) i lasting p = w.fits.homes (key.Client s) i p
lone_old w (key.Symbol s) i lasting p = w.fits.homes (key.Symbol s) i p
lone_old w (key.Server s) i lasting p = w.fits.homes (key.Server s) i p

-- where a lasting node stands
pub record Stands (w : Lifting) (k : Key) (a : Ref) (label : Label) : Type 0 where
  pub identity : Identity
  pub is_home : Paired w.new.homes k identity
  pub names : NamesAt label w.new.rows a identity
  pub standing : IsStanding w.new.rows identity

pub names_behind : (w : Lifting) (label : Label) (a : Ref) (i : Identity) → NamesAt label w.rows a i → NamesAt label w.new.rows a i
names_behind w label a i x = names_at_on label w.rows w.new.rows (λ s t h. end_new w s (found t) tt h) a i x

pub names_before : (w : Lifting) (label : Label) (a : Ref) (i : Identity) → NamesAt label w.old.rows a i → NamesAt label w.new.rows a i
names_before w label a i x = names_at_on label w.old.rows w.new.rows (λ s t h. end_old w s (found t) tt h) a i x

pub stands_more : (w : Lifting) (k : Key) (a : Ref) (shape : Shape Value) → IsLasting k → IsNodeKey k → shape_seen w.g w.seen k ≡ Some shape → In (k, a) w.local.more → Stands w k a shape.label
stands_more w k a shape lasting node h i =
    let x = node_here w k a lasting node i in
    record {
      identity = x.identity;
      is_home = new_home w k x.identity (w.adopts.onto k a x.identity node i x.names);
      names = names_behind w shape.label a x.identity (names_shape w.g w.seen w.rows k a x.identity shape lasting h x.names);
      standing = standing_by w.new.rows x.identity x.there x.lone (shape_new w x.identity x.there x.lone x.is_there);
    }

pub stands_old : (w : Lifting) (k : Key) (a : Ref) (shape : Shape Value) → IsLasting k → IsNodeKey k → shape_seen w.g w.seen k ≡ Some shape → TiedTo w.g w.old k a → Stands w k a shape.label
stands_old w k a shape lasting node h (local.node_tie is i lasting' at p names) =
    let same : is ≡ shape = one_node w.g w.old.settled k is shape at (shape_shown w.g w.old.settled w.seen w.shows k shape lasting h) in
    let home = lone_old w k i lasting p in
    record {
      identity = i;
      is_home = old_home w k i p;
      names = subst (λ (z : Shape Value). NamesAt z.label w.new.rows a i) same (names_before w is.label a i names);
      standing = standing_by w.new.rows i home.1.there home.0
          (subst (λ z. HasShape z i home.1.there) (sym w.step.rows.1) (shape-more w.old.rows w.step.rows.0 i home.1.there (lone_ended w.old.rows i home.1.there home.0 home.1.is_there) home.1.is_there));
    }
stands_old w k a shape lasting node h (local.stream_tie s p) = absurd lasting
stands_old w k a shape lasting node h (local.row_tie is i) = absurd (go k node is)
  where
    go : (k : Key) → IsNodeKey k → IsRowKey k → ⊥
    go (key.Made n) a b = b
    go (key.Source s n) a b = b
    go (key.Settled n) a b = b
    go (key.Stream n) a b = b
    go (key.Action n) a b = b
    go (key.Client n) a b = a
    go (key.Symbol n) a b = a
    go (key.Server n) a b = a

pub stands_at : (w : Lifting) (k : Key) (a : Ref) (shape : Shape Value) → IsLasting k → IsNodeKey k → shape_seen w.g w.seen k ≡ Some shape → In (k, a) w.behind → Stands w k a shape.label
stands_at w k a shape lasting node h i = ⊎_elim (λ x. stands_old w k a shape lasting node h (w.tied.tie k a x)) (λ x. stands_more w k a shape lasting node h x) (in_behind_homes w k a i)

-- a key with a node is no key of a row
pub node_key : (g : Ground) (seen : Seen) (k : Key) (shape : Shape Value) → shape_seen g seen k ≡ Some shape → IsNodeKey k
node_key g seen (key.Made n) shape h = tt
node_key g seen (key.Source s n) shape h = tt
node_key g seen (key.Settled n) shape h = tt
node_key g seen (key.Stream n) shape h = tt
node_key g seen (key.Action n) shape h = tt
node_key g seen (key.Client n) shape h = none-some shape h
node_key g seen (key.Symbol n) shape h = none-some shape h
node_key g seen (key.Server n) shape h = none-some shape h

-- where a stream's rows stand
pub open_turn : (rows : List PlacedRow) (id : ℕ) (t : PlaceTree) (ts : List PlaceTree) (flow : _) → rows_of id rows ≡ t ∷ ts → t.kind ≡ row.Open flow → turn rows (to id []) ≡ ends (resolve.stream id)
open_turn rows id t ts flow e k = ap (λ z. go_to id z []) e ∙ ap (λ z. resolve.enter id z []) k

pub stream_stands : (w : Lifting) (n : ℕ) (a : Ref) → In (key.Stream n, a) w.behind → Paired w.new.homes (key.Stream n) (stream_of a.id) × (turn w.new.rows (to a.id []) ≡ ends (resolve.stream a.id))
stream_stands w n a i = ⊎_elim (λ x. by_old (w.tied.tie (key.Stream n) a x)) by_more (in_behind_homes w (key.Stream n) a i)
  where
    by_more : In (key.Stream n, a) w.local.more → Paired w.new.homes (key.Stream n) (stream_of a.id) × (turn w.new.rows (to a.id []) ≡ ends (resolve.stream a.id))
    by_more x =
        let s = w.local.is_home (key.Stream n) a x in (
          new_home w (key.Stream n) (stream_of a.id) (w.adopts.onto (key.Stream n) a (stream_of a.id) tt x refl),
          open_turn w.new.rows a.id s.opener [] s.flows.flow (subst (λ z. rows_of a.id z ≡ s.opener ∷ []) (sym (rows_now w)) (rows-behind w.base w.rows w.apart a.id s.opener [] s.is_row)) s.opens,
        )

    by_old : TiedTo w.g w.old (key.Stream n) a → Paired w.new.homes (key.Stream n) (stream_of a.id) × (turn w.new.rows (to a.id []) ≡ ends (resolve.stream a.id))
    by_old (local.node_tie is j lasting at p names) = absurd lasting
    by_old (local.row_tie is j) = absurd is
    by_old (local.stream_tie m p) =
        let s = w.fits.homes (key.Stream n) (stream_of a.id) p in (
          old_home w (key.Stream n) (stream_of a.id) p,
          open_turn w.new.rows a.id s.opener (s.behind ++ rows_of a.id w.step.rows.0) s.flows.flow (subst (λ z. rows_of a.id z ≡ s.opener ∷ (s.behind ++ rows_of a.id w.step.rows.0)) (sym w.step.rows.1) (rows_of-first a.id w.old.rows w.step.rows.0 s.opener s.behind s.rows)) s.opens,
        )

-- the row of an import, of a symbol, or of a server element's task
pub row_more : (w : Lifting) (k : Key) (a : Ref) → IsRowKey k → In (k, a) w.local.more → RowAt w.g w.new k a.id
row_more w (key.Server n) a is i =
    let t = w.local.is_home (key.Server n) a i in
    let u = born_task w a.id t.what t.born in
    (u.0, born_new w u.0 u.1, u.2, ap (job_for w.g) u.3 ∙ t.is_job)
row_more w (key.Client c) a is i = atom_row_new w a.id (atom.Import (import_at w.g c)) (w.local.is_home (key.Client c) a i)
row_more w (key.Symbol n) a is i = atom_row_new w a.id (atom.Symbol n) (w.local.is_home (key.Symbol n) a i)
row_more w (key.Made n) a is i = absurd is
row_more w (key.Source s n) a is i = absurd is
row_more w (key.Settled n) a is i = absurd is
row_more w (key.Stream n) a is i = absurd is
row_more w (key.Action n) a is i = absurd is

pub no_node : (g : Ground) (s : List Bool) (k : Key) (shape : Shape Value) → IsRowKey k → NodeIs g s k shape → ⊥
no_node g s (key.Server n) shape is h = none-some shape h
no_node g s (key.Client n) shape is h = none-some shape h
no_node g s (key.Symbol n) shape is h = none-some shape h
no_node g s (key.Made n) shape is h = is
no_node g s (key.Source a n) shape is h = is
no_node g s (key.Settled n) shape is h = is
no_node g s (key.Stream n) shape is h = is
no_node g s (key.Action n) shape is h = is

pub row_old : (w : Lifting) (k : Key) (a : Ref) → TiedTo w.g w.old k a → IsRowKey k → RowAt w.g w.new k a.id
row_old w k a (local.node_tie shape j lasting at p names) r = absurd (no_node w.g w.old.settled k shape r at)
row_old w k a (local.row_tie r j) r' = row_on w.g w.old w.new (moves_of w.g w.old w.new w.number w.step) k a.id (w.fits.others k a.id j)
row_old w k a (local.stream_tie m p) r = absurd r

pub row_at : (w : Lifting) (k : Key) (a : Ref) → IsRowKey k → In (k, a) w.behind → RowAt w.g w.new k a.id
row_at w k a is i = ⊎_elim (λ x. row_old w k a (w.tied.tie k a x) is) (row_more w k a is) (in_behind_homes w k a i)
