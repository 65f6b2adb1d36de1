-- In a quiet state the homes pair the nodes of sequential rendering with those that the rows mean.
use Rattle.std.proofs.Common.{◌≡◌, ℕ, Bool, ◌⊎◌, inl, inr, ⊎_elim, List, [], ◌∷◌, ◌++◌, option_map, Some, None, refl, sym, ap, ◌∙◌, subst}
use Rattle.std.proofs.lemmas.Option.{none-some, same_Some}
use Rattle.flight_value.specs.Store as target
use Rattle.flight_value.specs.Store.{Target, Shape, TargetsFit, SlotsFit, NodesFit, Paired, DrawOneGraph}
use Rattle.flight_value.specs.declared.graph.Atom.TheVariants as atom
use Rattle.flight_value.specs.declared.key.Key.{Key}
use Rattle.flight_render.specs.declared.root.Ground.{Ground}
use Rattle.flight_render.specs.Run.{Run, waits, End}
use Rattle.flight_value.specs.declared.made.Tree.{Tree}
use Rattle.flight_render.specs.Bodies.{inner, body_at, Finishes}
use Rattle.flight_render.specs.Jobs.{Job, the_root, element, outcome, known, blank, Value, of_job, stopped, job_of, comes, value_of, Leads, IsTarget, target_of}
use Rattle.flight_render.specs.Plain.{plain}
use Rattle.flight_value.specs.Listed.{In}
use Rattle.flight_render.specs.Costs.{Reached, at_root, through, in_slot, address_of, Rendered, total_of, Total}
use Rattle.flight_render.proofs.Falling.{one_end}
use Rattle.flight_render.proofs.Reaches.{one_node}
use Rattle.flight_meaning.specs.declared.place.Place.{Place}
use Rattle.flight_meaning.specs.declared.place.Place.TheVariants as place
use Rattle.flight_meaning.specs.declared.place.PlacedRow.{PlacedRow}
use Rattle.flight_meaning.specs.Linked.{rows_of, first_place}
use Rattle.flight_meaning.specs.Resolve.{to, Found, found, stream, not_yet, nowhere, Ends, IsEnd, after_turn, walk_by, go_to}
use Rattle.flight_meaning.specs.Meaning as wire
use Rattle.flight_meaning.specs.Meaning.{Written, Identity, meaning, stand_of}
use Rattle.flight_meaning.specs.Good.{IsDefined, IsGood}
use Rattle.flight_meaning.proofs.Walking.{one_walk}
use Rattle.flight_state.specs.State.{State, Task, IsLive, job_at, IsQuiet, IsClosed}
use Rattle.flight_state.specs.Spells.{CountedAt, AllCounted, SpellsLater, Spells, SpelledBy, AtHome}
use Rattle.flight_state.specs.Fits.{IsEndOrLive, IsFollowed, IsKnown, Fits}
use Rattle.flight_state.proofs.Lists.{zip-map, in_zip}
use Rattle.flight_state.proofs.Flows.{at_rest, quiet_home}

-- ---- chains

pub leads_more : (g : Ground) (s : List Bool) (e : Value) (js : List Job) (f : Value) → Leads g s e js f → (j : Job) (h : End) → job_of g s f ≡ Some j → comes g s j ≡ Some h → Leads g s e (js ++ j ∷ []) (value_of g s j h)
leads_more g s e [] f l j h is by = (ap (job_of g s) l ∙ is, (h, by, refl))
leads_more g s e (k ∷ js) f l j h is by = (l.0, (l.1.0, l.1.1, leads_more g s (value_of g s k l.1.0) js f l.1.2 j h is by))

-- from one value by one job
pub next_job_same : (g : Ground) (s : List Bool) (e : Value) (j k : Job) → job_of g s e ≡ Some j → job_of g s e ≡ Some k → j ≡ k
next_job_same g s e j k a b = same_Some j k (sym a ∙ b)

pub next_same : (g : Ground) (s : List Bool) (j k : Job) (h i : End) → j ≡ k → comes g s j ≡ Some h → comes g s k ≡ Some i → value_of g s j h ≡ value_of g s k i
next_same g s j k h i same a b = ap (λ z. value_of g s j z) (same_Some h i (sym a ∙ (ap (comes g s) same ∙ b))) ∙ ap (λ z. value_of g s z i) same

-- ---- a slot as it is written meets its value

pub WaitsAt : Ground → List Bool → Value → Type 0
WaitsAt g s e = (js : List Job) × (i : ℕ) × Leads g s e js (stopped i)

pub waits_later : (g : Ground) (st : State) → Fits g st → IsQuiet st → (e : Value) (m : Written) → SpellsLater g st m e → WaitsAt g st.settled e
unfolding WaitsAt
waits_later g st f quiet e m l =
    let w = at_rest g st f l.task l.is_task l.live (quiet l.task l.is_task) in
    (l.jobs ++ job_at g l.task ∷ [], w.0, leads_more g st.settled e l.jobs l.last l.leads (job_at g l.task) (waits w.0) l.begins w.1.0)

pub not_ended : (st : State) (p : ℕ × ℕ) → st.ended ≡ [] → In p st.ended → ⊥
not_ended st p none i = absurd (subst (λ z. In p z) none i)

meets : (g : Ground) (st : State) → Fits g st → IsQuiet st → st.ended ≡ [] → (e : Value) (m : Written) → Spells g st m e → SlotsFit (Paired st.homes) (plain g st.settled) (meaning st.rows) e m
unfolding WaitsAt
meets g st f quiet none e m (inl now) =
    record {
      here = now.here;
      there = now.there;
      leads_here = record { jobs = now.jobs; last = now.last; leads = now.leads; no_job = now.no_job; is_target = now.is_here };
      leads_there = now.is_there;
      targets_fit = now.fit;
    }
meets g st f quiet none e m (inr (inl later)) =
    let w = waits_later g st f quiet e m later in
    record {
      here = target.atom atom.Pending;
      there = target.atom atom.Pending;
      leads_here = record { jobs = w.0; last = stopped w.1; leads = w.2; no_job = refl; is_target = refl };
      leads_there = inl (not_yet later.task.id [], later.walks, refl);
      targets_fit = refl;
    }
meets g st f quiet none e m (inr (inr ended)) = absurd (not_ended st (ended.task.id, ended.error) none ended.is_ended)

node_meets : (g : Ground) (st : State) → Fits g st → IsQuiet st → st.ended ≡ [] → (k : Key) (h : Identity) → AtHome g st k h → NodesFit (Paired st.homes) (plain g st.settled) (meaning st.rows) k h
node_meets g st f quiet none k h a =
    record {
      here = a.here;
      there = a.there;
      is_here = a.is_here;
      is_there = a.is_there;
      labels = a.labels;
      slots_fit = zip-map (SpelledBy g st) (SlotsFit (Paired st.homes) (plain g st.settled) (meaning st.rows)) (meets g st f quiet none) a.here.slots a.there.slots a.slots;
    }

pub same_graph : (g : Ground) (st : State) → Fits g st → IsQuiet st → st.ended ≡ [] → DrawOneGraph (plain g st.settled) (meaning st.rows)
same_graph g st f quiet none = (
  st.homes,
  record {
    one_there = f.one_home;
    one_here = f.one_key;
    roots = meets g st f quiet none (of_job the_root) (wire.value_of 0) f.root;
    each = λ k h p. node_meets g st f quiet none k h (quiet_home g st f quiet none k h (f.homes k h p));
  },
)

-- ---- where no task is live

not_live : (st : State) → IsClosed st → (t : Task) → In t st.tasks → IsLive t.status → ⊥
not_live st closed t i l = absurd (subst IsLive (closed t i) l)

ends_well : (st : State) → IsClosed st → (f : Found) → IsEndOrLive st f → IsEnd f
ends_well st closed (found s) x = tt
ends_well st closed (stream id) x = tt
ends_well st closed (not_yet id rest) x = absurd (not_live st closed x.1.task x.1.is_task x.1.live)
ends_well st closed nowhere x = x

defined : (st : State) → IsClosed st → (at : Place) → IsKnown st at → IsDefined st.rows at
defined st closed (place.Lazy id) k = (k.0, k.1, ends_well st closed k.0 k.2)
defined st closed (place.Promise id) k = (k.0, k.1, ends_well st closed k.0 k.2)
defined st closed (place.Value at) k = (k.0, k.1, ends_well st closed k.0 k.2)
defined st closed (place.Map at) k = k
defined st closed (place.Set at) k = k
defined st closed (place.Action id) k = k
defined st closed (place.Atom a) k = tt
defined st closed (place.Array ns) k = tt
defined st closed (place.Object ps) k = tt
defined st closed (place.Element a b c) k = tt

-- what fits a pending target is pending
pub pends : (homes : List (Key × Identity)) (a : Target Key) (b : Target Identity) → TargetsFit (Paired homes) a b → b ≡ wire.pending → a ≡ target.atom atom.Pending
pends homes (target.atom a) b fit e = ap target.atom (subst (λ z. TargetsFit (Paired homes) (target.atom a) z) e fit)
pends homes (target.node_at k) b fit e = absurd (subst (λ z. TargetsFit (Paired homes) (target.node_at k) z) e fit)

-- a slot that spells a value is followed
pub spells_followed : (g : Ground) (st : State) (m : Written) (x : Value) → Spells g st m x → IsFollowed st (stand_of m)
spells_followed g st m x (inl now) = go now.is_there
  where
    sure : now.there ≡ wire.pending → ⊥
    sure e = now.certain (pends st.homes now.here now.there now.fit e)

    go : wire.Leads st.rows m now.there → IsFollowed st (stand_of m)
    go (inl (found s, w, t)) = (found s, w, tt)
    go (inl (stream id, w, t)) = (stream id, w, tt)
    go (inl (not_yet id path, w, t)) = absurd (sure t)
    go (inl (nowhere, w, t)) = absurd (sure t)
    go (inr w) = absurd (sure w.1)
spells_followed g st m x (inr (inl l)) = (not_yet l.task.id [], l.walks, (refl, record { task = l.task; is_task = l.is_task; same_id = refl; live = l.live; alone = l.alone }))
spells_followed g st m x (inr (inr e)) = (found (first_place e.error), e.walks, tt)

-- a walk into an id that has no row yet waits for it
pub absent_walk : (rows : List PlacedRow) (id : ℕ) → rows_of id rows ≡ [] → Ends rows (to id []) (not_yet id [])
absent_walk rows id none = (1, ap (λ z. after_turn (walk_by 0 rows) (go_to id z [])) none)

has_row : (st : State) → IsClosed st → IsFollowed st (to 0 []) → rows_of 0 st.rows ≡ [] → ⊥
has_row st closed w none =
    let end : IsEnd w.0 = ends_well st closed w.0 w.2 in
    let a = absent_walk st.rows 0 none in
    absurd (subst IsEnd (one_walk w.1.0 a.0 st.rows (to 0 []) w.0 (not_yet 0 []) w.1.1 a.1) end)

pub closed_good : (g : Ground) (st : State) → Fits g st → IsClosed st → IsGood st.rows
closed_good g st f closed =
    record {
      follow_on = f.follow_on;
      root = has_row st closed (spells_followed g st (wire.value_of 0) (of_job the_root) f.root);
      defined = λ at h. defined st closed at (f.known at h);
    }

-- ---- the counted bodies are those that are rendered and finish

pub stuck : (g : Ground) (s : List Bool) (e : Value) (ks : List Job) (f : Value) (j : Job) → job_of g s e ≡ None → Leads g s e ks f → job_of g s f ≡ Some j → ⊥
stuck g s e [] f j stop l by = none-some j (sym stop ∙ (ap (job_of g s) l ∙ by))
stuck g s e (k ∷ ks) f j stop l by = none-some k (sym stop ∙ l.0)

-- a job on a chain is counted, or comes no earlier than the last of those that are counted
pub passes : (g : Ground) (st : State) (e : Value) (es ns : List Job) (last f : Value) (j : Job) → Leads g st.settled e es last → AllCounted st es → Leads g st.settled e ns f → job_of g st.settled f ≡ Some j
    → CountedAt st (address_of j) ⊎ ((ks : List Job) × Leads g st.settled last ks f)
passes g st e [] ns last f j l c on by = inr (ns, subst (λ z. Leads g st.settled z ns f) l on)
passes g st e (k ∷ ks) [] last f j l c on by = inl (subst (λ z. CountedAt st (address_of z)) (same_Some k j (sym l.0 ∙ (ap (job_of g st.settled) on ∙ by))) c.0)
passes g st e (k ∷ ks) (m ∷ ms) last f j l c on by =
    let same = next_same g st.settled m k on.1.0 l.1.0 (next_job_same g st.settled e m k on.0 l.0) on.1.1 l.1.1 in
    passes g st (value_of g st.settled k l.1.0) ks ms last f j l.1.2 c.1 (subst (λ z. Leads g st.settled z ms f) same on.1.2) by

-- a value that is reached is on the way from a slot that is written
pub record Shown (g : Ground) (st : State) (e : Value) : Type 0 where
  pub mark : Written
  pub from : Value
  pub jobs : List Job
  pub spelled : Spells g st mark from
  pub leads : Leads g st.settled from jobs e

home_of : (homes : List (Key × Identity)) (k : Key) (a : Target Key) (b : Target Identity) → a ≡ target.node_at k → TargetsFit (Paired homes) a b → (h : Identity) × Paired homes k h
home_of homes k a (target.node_at h) e fit = (h, subst (λ z. TargetsFit (Paired homes) z (target.node_at h)) e fit)
home_of homes k a (target.atom h) e fit = absurd (subst (λ z. TargetsFit (Paired homes) z (target.atom h)) e fit)

IsAtom : Target Key → Type 0
IsAtom (target.atom a) = Unit {0}
IsAtom (target.node_at i) = ⊥

has_home : (g : Ground) (st : State) → Fits g st → IsQuiet st → st.ended ≡ [] → (m : Written) (from : Value) → Spells g st m from → (js : List Job) (e : Value) → Leads g st.settled from js e → job_of g st.settled e ≡ None → (k : Key) → IsTarget g st.settled e (target.node_at k)
    → (h : Identity) × Paired st.homes k h
unfolding WaitsAt IsAtom
has_home g st f quiet none m from (inl now) js e l stops k is =
    home_of st.homes k now.here now.there (now.is_here ∙ (ap target_of (one_end g st.settled from now.jobs js now.last e now.leads l now.no_job stops) ∙ sym is)) now.fit
has_home g st f quiet none m from (inr (inl later)) js e l stops k is =
    let w = waits_later g st f quiet from m later in
    absurd (subst IsAtom (ap target_of (one_end g st.settled from w.0 js (stopped w.1) e w.2 l refl stops) ∙ sym is) tt)
has_home g st f quiet none m from (inr (inr ended)) js e l stops k is = absurd (not_ended st (ended.task.id, ended.error) none ended.is_ended)

pub shown : (g : Ground) (st : State) → Fits g st → IsQuiet st → st.ended ≡ [] → (e : Value) → Reached g st.settled e → Shown g st e
shown g st f quiet none _ at_root = record { mark = wire.value_of 0; from = of_job the_root; jobs = []; spelled = f.root; leads = refl }
shown g st f quiet none _ (through {v = d} {j = j} {end = h} x is by) =
    let s = shown g st f quiet none d x in
    record { mark = s.mark; from = s.from; jobs = s.jobs ++ j ∷ []; spelled = s.spelled; leads = leads_more g st.settled s.from s.jobs d s.leads j h is by }
shown g st f quiet none e (in_slot {v = d} {k = k} {shape = shape} x stops is at among) =
    let s = shown g st f quiet none d x in
    let h = has_home g st f quiet none s.mark s.from s.spelled s.jobs d s.leads stops k is in
    let home = quiet_home g st f quiet none k h.0 (f.homes k h.0 h.1) in
    let same : shape ≡ home.here = one_node g st.settled k shape home.here at home.is_here in
    let found = in_zip (SpelledBy g st) e home.here.slots home.there.slots (subst (λ z. In e z.slots) same among) home.slots in
    record { mark = found.0; from = e; jobs = []; spelled = found.1; leads = refl }

waits_not : (s : ℕ) (e : End) → e ≡ waits s → Finishes e → ⊥
waits_not s e is f = absurd (subst Finishes is f)

-- a job whose value is reached and that comes to its end is counted
counted_here : (g : Ground) (st : State) → Fits g st → IsQuiet st → st.ended ≡ [] → (e : Value) (j : Job) (h : End) → job_of g st.settled e ≡ Some j → comes g st.settled j ≡ Some h → Finishes h → Shown g st e → CountedAt st (address_of j)
counted_here g st f quiet none e j h is by ends s = go s.spelled
  where
    late : (last : Value) (t : Job) (i : ℕ) → job_of g st.settled last ≡ Some t → comes g st.settled t ≡ Some (waits i) → (ks : List Job) → Leads g st.settled last ks e → ⊥
    late last t i begins waits_i [] l =
        let same : j ≡ t = same_Some j t (sym is ∙ (ap (job_of g st.settled) (sym l) ∙ begins)) in
        waits_not i h (same_Some h (waits i) (sym by ∙ (ap (comes g st.settled) same ∙ waits_i))) ends
    late last t i begins waits_i (k ∷ ks) l =
        let same = next_same g st.settled k t l.1.0 (waits i) (next_job_same g st.settled last k t l.0 begins) l.1.1 waits_i in
        stuck g st.settled (stopped i) ks e j refl (subst (λ z. Leads g st.settled z ks e) same l.1.2) is

    go : Spells g st s.mark s.from → CountedAt st (address_of j)
    go (inl now) = ⊎_elim (λ c. c) (λ w. absurd (stuck g st.settled now.last w.0 e j now.no_job w.1 is)) (passes g st s.from now.jobs s.jobs now.last e j now.leads now.counted s.leads is)
    go (inr (inl later)) =
        let w = at_rest g st f later.task later.is_task later.live (quiet later.task later.is_task) in
        ⊎_elim (λ c. c) (λ k. absurd (late later.last (job_at g later.task) w.0 later.begins w.1.0 k.0 k.1)) (passes g st s.from later.jobs s.jobs later.last e j later.leads later.counted s.leads is)
    go (inr (inr ended)) = absurd (not_ended st (ended.task.id, ended.error) none ended.is_ended)

-- two accounts of one address agree on its cost
same_cost : (g : Ground) (s : List Bool) (a : List ℕ) (c d : ℕ) → Rendered g s a c → Rendered g s a d → c ≡ d
same_cost g s a c d x y = sym x.costs ∙ (ap (λ (b : Run Tree). b.after.cost) (same_Some x.here y.here (sym x.is_body ∙ y.is_body)) ∙ y.costs)

pub comes_at : (g : Ground) (s : List Bool) (j : Job) (a : List ℕ) (b : Run Tree) → address_of j ≡ Some a → body_at g s a ≡ Some b → comes g s j ≡ Some b.step
unfolding comes
comes_at g s the_root a b e h = ap (option_map (λ (x : Run Tree). x.step)) (ap (body_at g s) (same_Some [] a e) ∙ h)
comes_at g s (element n) a b e h = ap (option_map (λ (x : Run Tree). x.step)) (ap (body_at g s) (same_Some (inner n) a e) ∙ h)
comes_at g s (outcome i) a b e h = absurd (none-some a e)
comes_at g s (known slot) a b e h = absurd (none-some a e)
comes_at g s blank a b e h = absurd (none-some a e)

counted_each : (g : Ground) (st : State) → Fits g st → IsQuiet st → st.ended ≡ [] → (a : List ℕ) (c : ℕ) → Rendered g st.settled a c → In (a, c) st.counted
counted_each g st f quiet none a c x =
    finish (subst (CountedAt st) x.addressed (counted_here g st f quiet none x.value x.job x.here.step x.is_job (comes_at g st.settled x.job a x.here x.addressed x.is_body) x.finishes (shown g st f quiet none x.value x.met)))
  where
    finish : CountedAt st (Some a) → In (a, c) st.counted
    finish w = subst (λ z. In (a, z) st.counted) (same_cost g st.settled a w.0 c (f.counted_only a w.0 w.1) x) w.1

pub spent_total : (g : Ground) (st : State) → Fits g st → IsQuiet st → st.ended ≡ [] → Total g st.settled (total_of st.counted)
spent_total g st f quiet none = record { counted = st.counted; once = f.counted_once; only = f.counted_only; each = counted_each g st f quiet none; is_total = refl }
