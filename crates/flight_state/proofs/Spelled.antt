-- What leads to a row that spells a job's value spells what the job is on the way from.
use Rattle.std.proofs.Common.{◌≡◌, ◌⊎◌, inl, inr, ⊎_elim, Bool, List, [], ◌∷◌, ◌++◌, Some, refl, sym, ap, ◌∙◌, subst}
use Rattle.std.proofs.lemmas.Option.{none-some}
use Rattle.flight_value.specs.Store as target
use Rattle.flight_value.specs.Store.{Target, TargetsFit, Paired}
use Rattle.flight_value.specs.declared.graph.Atom.TheVariants as atom
use Rattle.flight_value.specs.declared.key.Key.{Key}
use Rattle.flight_render.specs.declared.root.Ground.{Ground}
use Rattle.flight_render.specs.Run.{End}
use Rattle.flight_render.specs.Jobs.{Job, Value, of_job, shown, failed, stopped, job_of, comes, value_of, Leads, IsTarget, IsFinal}
use Rattle.flight_value.specs.Listed.{In}
use Rattle.flight_render.specs.Costs.{address_of}
use Rattle.flight_meaning.specs.declared.place.PlacedRow.{PlacedRow}
use Rattle.flight_meaning.specs.Linked.{rows_of, first_place}
use Rattle.flight_meaning.specs.Resolve.{Found, found, not_yet, Ends}
use Rattle.flight_meaning.specs.Meaning as wire
use Rattle.flight_meaning.specs.Meaning.{Written, Identity, stand_of}
use Rattle.flight_state.specs.State.{State, Task, IsLive, IsAlone, job_at}
use Rattle.flight_state.specs.Spells.{CountedAt, AllCounted, SpellsNow, Spells}
use Rattle.flight_state.proofs.AnyOrder.{pends, absent_walk}

-- ---- chains

pub all_counted-append : (st : State) (js ks : List Job) → AllCounted st js → AllCounted st ks → AllCounted st (js ++ ks)
all_counted-append st [] ks a b = b
all_counted-append st (j ∷ js) ks a b = (a.0, all_counted-append st js ks a.1 b)

is_cons : {j : Job} {js : List Job} → j ∷ js ≡ [] → ⊥
is_cons e = absurd (subst Cons e tt)
  where
    Cons : List Job → Type 0
    Cons [] = ⊥
    Cons (z ∷ zs) = Unit {0}

-- a chain to a job, and on from the job
pub leads_join : (g : Ground) (s : List Bool) (x : Value) (js : List Job) (last : Value) (j : Job) (ks : List Job) (f : Value) → Leads g s x js last → job_of g s last ≡ Some j → Leads g s (of_job j) ks f
    → ((ks ≡ []) × (f ≡ of_job j)) ⊎ Leads g s x (js ++ ks) f
leads_join g s x js last j [] f l b k = inl (refl, sym k)
leads_join g s x [] last j (i ∷ ks) f l b k = inr (ap (job_of g s) l ∙ (b ∙ k.0), k.1)
leads_join g s x (i ∷ js) last j (k ∷ ks) f l b q =
    ⊎_elim (λ w. absurd (is_cons w.0)) (λ w. inr (l.0, (l.1.0, l.1.1, w))) (leads_join g s (value_of g s i l.1.0) js last j (k ∷ ks) f l.1.2 b q)

-- what no chain goes on from and what is certain is final
pub final_by : (g : Ground) (s : List Bool) (v : Value) (t : Target Key) → IsTarget g s v t → ¬ (t ≡ target.atom atom.Pending) → IsFinal v
final_by g s (shown t) x is sure = tt
final_by g s (of_job j) x is sure = tt
final_by g s (failed digest) x is sure = tt
final_by g s (stopped source) x is sure = absurd (sure is)

-- ---- from one slot as it is written to another

-- every end of one walk is one of the other
abbrev pub GoesTo : List PlacedRow → Written → Written → Type 0
GoesTo rows a b = (f : Found) → Ends rows (stand_of b) f → Ends rows (stand_of a) f

pub leads_from : (rows : List PlacedRow) (a b : Written) → GoesTo rows a b → (t : Target Identity) → ¬ (t ≡ wire.pending) → wire.Leads rows b t → wire.Leads rows a t
leads_from rows a b goes t sure (inl w) = inl (w.0, goes w.0 w.1, w.2)
leads_from rows a b goes t sure (inr w) = absurd (sure w.1)

pub sure_there : (g : Ground) (st : State) (w : Written) (v : Value) (now : SpellsNow g st w v) → ¬ (now.there ≡ wire.pending)
sure_there g st w v now e = now.certain (pends st.homes now.here now.there now.fit e)

-- what leads to the row of a job spells what the row spells
pub through_row : (g : Ground) (st : State) (m n : Written) (x : Value) (js : List Job) (last : Value) (j : Job)
    → Leads g st.settled x js last → AllCounted st js → job_of g st.settled last ≡ Some j → GoesTo st.rows m n → Spells g st n (of_job j) → Spells g st m x
through_row g st m n x js last j l c b walk (inl now) =
    inl (⊎_elim
    (λ w. absurd (none-some j (sym now.no_job ∙ ap (job_of g st.settled) w.1)))
    (λ w. record {
      jobs = js ++ now.jobs;
      last = now.last;
      leads = w;
      no_job = now.no_job;
      counted = all_counted-append st js now.jobs c now.counted;
      here = now.here;
      there = now.there;
      is_here = now.is_here;
      is_there = leads_from st.rows m n walk now.there (sure_there g st n (of_job j) now) now.is_there;
      certain = now.certain;
      fit = now.fit;
    })
    (leads_join g st.settled x js last j now.jobs now.last l b now.leads))
through_row g st m n x js last j l c b walk (inr (inl later)) =
    inr (inl (⊎_elim
    (λ w. record { jobs = js; last = last; task = later.task; leads = l; counted = c; begins = b ∙ (ap (job_of g st.settled) (sym w.1) ∙ later.begins); is_task = later.is_task; live = later.live; alone = later.alone; walks = walk (not_yet later.task.id []) later.walks })
    (λ w. record { jobs = js ++ later.jobs; last = later.last; task = later.task; leads = w; counted = all_counted-append st js later.jobs c later.counted; begins = later.begins; is_task = later.is_task; live = later.live; alone = later.alone; walks = walk (not_yet later.task.id []) later.walks })
    (leads_join g st.settled x js last j later.jobs later.last l b later.leads)))
through_row g st m n x js last j l c b walk (inr (inr e)) =
    inr (inr (⊎_elim
    (λ w. record { jobs = js; last = last; task = e.task; error = e.error; digest = e.digest; leads = l; counted = c; begins = b ∙ (ap (job_of g st.settled) (sym w.1) ∙ e.begins); is_task = e.is_task; alone = e.alone; is_ended = e.is_ended; is_error = e.is_error; walks = walk (found (first_place e.error)) e.walks })
    (λ w. record { jobs = js ++ e.jobs; last = e.last; task = e.task; error = e.error; digest = e.digest; leads = w; counted = all_counted-append st js e.jobs c e.counted; begins = e.begins; is_task = e.is_task; alone = e.alone; is_ended = e.is_ended; is_error = e.is_error; walks = walk (found (first_place e.error)) e.walks })
    (leads_join g st.settled x js last j e.jobs e.last l b e.leads)))

-- a slot that spells what a job gives spells the value that is the job
pub given_first : (g : Ground) (st : State) (m n : Written) (e : Value) (j : Job) (h : End) → job_of g st.settled e ≡ Some j → comes g st.settled j ≡ Some h → CountedAt st (address_of j) → GoesTo st.rows m n → Spells g st n (value_of g st.settled j h) → Spells g st m e
given_first g st m n e j h is by c walk (inl now) =
    inl (record {
      jobs = j ∷ now.jobs;
      last = now.last;
      leads = (is, (h, by, now.leads));
      no_job = now.no_job;
      counted = (c, now.counted);
      here = now.here;
      there = now.there;
      is_here = now.is_here;
      is_there = leads_from st.rows m n walk now.there (sure_there g st n (value_of g st.settled j h) now) now.is_there;
      certain = now.certain;
      fit = now.fit;
    })
given_first g st m n e j h is by c walk (inr (inl l)) =
    inr (inl (record { jobs = j ∷ l.jobs; last = l.last; task = l.task; leads = (is, (h, by, l.leads)); counted = (c, l.counted); begins = l.begins; is_task = l.is_task; live = l.live; alone = l.alone; walks = walk (not_yet l.task.id []) l.walks }))
given_first g st m n e j h is by c walk (inr (inr x)) =
    inr (inr (record { jobs = j ∷ x.jobs; last = x.last; task = x.task; error = x.error; digest = x.digest; leads = (is, (h, by, x.leads)); counted = (c, x.counted); begins = x.begins; is_task = x.is_task; alone = x.alone; is_ended = x.is_ended; is_error = x.is_error; walks = walk (found (first_place x.error)) x.walks }))

-- the row that a live task is to write
pub serve_live : (g : Ground) (st : State) (u : Task) → In u st.tasks → IsAlone u.what → IsLive u.status → rows_of u.id st.rows ≡ [] → Spells g st (wire.value_of u.id) (of_job (job_at g u))
serve_live g st u i alone live none =
    inr (inl (record { jobs = []; last = of_job (job_at g u); task = u; leads = refl; counted = tt; begins = refl; is_task = i; live = live; alone = alone; walks = absent_walk st.rows u.id none }))

-- what leads to a slot spells what the slot spells
pub spells_from : (g : Ground) (st : State) (m n : Written) → GoesTo st.rows m n → (x : Value) → Spells g st n x → Spells g st m x
spells_from g st m n walk x (inl now) =
    inl (record {
      jobs = now.jobs;
      last = now.last;
      leads = now.leads;
      no_job = now.no_job;
      counted = now.counted;
      here = now.here;
      there = now.there;
      is_here = now.is_here;
      is_there = leads_from st.rows m n walk now.there (sure_there g st n x now) now.is_there;
      certain = now.certain;
      fit = now.fit;
    })
spells_from g st m n walk x (inr (inl l)) =
    inr (inl (record { jobs = l.jobs; last = l.last; task = l.task; leads = l.leads; counted = l.counted; begins = l.begins; is_task = l.is_task; live = l.live; alone = l.alone; walks = walk (not_yet l.task.id []) l.walks }))
spells_from g st m n walk x (inr (inr e)) =
    inr (inr (record { jobs = e.jobs; last = e.last; task = e.task; error = e.error; digest = e.digest; leads = e.leads; counted = e.counted; begins = e.begins; is_task = e.is_task; alone = e.alone; is_ended = e.is_ended; is_error = e.is_error; walks = walk (found (first_place e.error)) e.walks }))
