-- The worked run of a stream that an abort breaks.
use Rattle.std.proofs.Common.{◌≡◌, ℕ, false, inl, List, [], ◌∷◌, ◌++◌, refl, sym, ap, ◌∙◌, arith}
use Rattle.std.specs.Prelude.{codes}
use Rattle.flight_value.specs.Store as store
use Rattle.flight_value.specs.Store.{DrawOneGraph, of_graph, Paired}
use Rattle.flight_value.specs.declared.graph.Flow.TheVariants as flow
use Rattle.flight_value.specs.Listed.{In}
use Rattle.flight_meaning.specs.declared.place.Place.TheVariants as place
use Rattle.flight_meaning.specs.Resolve as resolve
use Rattle.flight_meaning.specs.Meaning.{Identity, stream_of, meaning}
use Rattle.flight_state.specs.declared.status.Status.TheVariants as status
use Rattle.flight_state.specs.declared.event.Event.{Event}
use Rattle.flight_state.specs.declared.event.Event.TheVariants as event
use Rattle.flight_state.specs.State.{State, IsClosed, IsQuiet, IsAtRest, Task}
use Rattle.flight_state.specs.Steps as steps
use Rattle.flight_state.specs.Steps.{opening, TakeStep, WaitStep, AbortStep}
use Rattle.flight_state.specs.Worked.{streamed, root_done, item_of_feed, feed_events, feed_waiting, feed_aborted, broken_graph}
use Rattle.flight_state.proofs.Aborting.{abort_fits}
use Rattle.flight_state.proofs.Going.{Going, takes, stops}
use Rattle.flight_state.proofs.Singles.{each_in, contains_in, in_contains}
use Rattle.flight_state.proofs.WorkedStream.{streamed_valid, root_taken, root_running, root_finishes, feed_open, feed_homes, at_root_running, at_feed_open}

-- ---- the item is waited for

abbrev item_running : State
item_running = record feed_open { tasks = root_done (false ∷ []) ∷ item_of_feed (status.Running 1) 1 (false ∷ []) ∷ [] }

item_taken : TakeStep feed_open item_running 1
item_taken = record { task = item_of_feed status.Ready 0 []; is_task = refl; was = refl; now = refl }

item_waits : WaitStep streamed item_running feed_waiting 1 0
item_waits = record { task = item_of_feed (status.Running 1) 1 (false ∷ []); is_task = refl; turn = 1; was = refl; finds = refl; now = refl }

at_item_running : Going streamed item_running feed_homes 2
at_item_running = takes streamed feed_open item_running 1 2 feed_homes at_feed_open item_taken

at_waiting : Going streamed feed_waiting feed_homes 2
at_waiting = stops streamed streamed_valid item_running feed_waiting 1 0 2 feed_homes at_item_running item_waits

-- the steps up to there, and then others
feed_then : (more : List Event) (new : State) → steps.Run streamed more feed_waiting new → steps.Run streamed (feed_events ++ more) (opening streamed) new
feed_then more new run = (
  root_running,
  record { does = root_taken; fits = at_root_running.fits },
  (
    feed_open,
    record { does = root_finishes; fits = at_feed_open.fits },
    (
      item_running,
      record { does = item_taken; fits = at_item_running.fits },
      (feed_waiting, record { does = item_waits; fits = at_waiting.fits }, run),
    ),
  ),
)

pub feed_waits : steps.Run streamed feed_events (opening streamed) feed_waiting
feed_waits = feed_then [] feed_waiting refl

pub feed_quiet : IsQuiet feed_waiting
feed_quiet = each_in (λ (t : Task). IsAtRest t.status) feed_waiting.tasks (tt, (tt, tt))

-- ---- the abort

pub no_task : (t : Task) → In t feed_waiting.tasks → t.id ≡ 2 → ⊥
no_task = each_in (λ (t : Task). t.id ≡ 2 → ⊥) feed_waiting.tasks ((λ e. omega (arith, e)), ((λ e. omega (arith, e)), tt))

abbrev pub breaks : AbortStep feed_waiting feed_aborted
breaks =
    record {
      digest = codes "stopped";
      error = 2;
      is_free = refl;
      no_task = no_task;
      reference = place.Lazy 2;
      refers = inl refl;
      now = refl;
    }

pub broken_runs : steps.Run streamed (feed_events ++ event.Abort ∷ []) (opening streamed) feed_aborted
broken_runs = feed_then (event.Abort ∷ []) feed_aborted (feed_aborted, record { does = breaks; fits = abort_fits streamed feed_waiting feed_aborted at_waiting.fits breaks }, refl)

pub broken_closed : IsClosed feed_aborted
broken_closed = each_in (λ (t : Task). t.status ≡ status.Done) feed_aborted.tasks (refl, (refl, tt))

-- ---- what it means

abbrev pairs : List (ℕ × Identity)
pairs = (0, stream_of 1) ∷ []

pub broken_means : DrawOneGraph (of_graph broken_graph) (meaning feed_aborted.rows)
broken_means = (
  pairs,
  record {
    one_there = λ k l m p q. ap (λ (z : ℕ × Identity). z.1) (only k l p ∙ sym (only k m q));
    one_here = λ k j l p q. ap (λ (z : ℕ × Identity). z.0) (only k l p ∙ sym (only j l q));
    roots = record {
      here = store.node_at 0;
      there = store.node_at (stream_of 1);
      leads_here = refl;
      leads_there = inl (resolve.stream 1, (4, refl), refl);
      targets_fit = in_contains pairs (0, stream_of 1) (inl refl);
    };
    each = λ k l p. each_in (λ (z : ℕ × Identity). store.NodesFit (Paired pairs) (of_graph broken_graph) (meaning feed_aborted.rows) z.0 z.1) pairs (
      record {
        here = record { label = store.stream flow.Readable (store.broken (codes "stopped")); slots = [] };
        there = record { label = store.stream flow.Readable (store.broken (codes "stopped")); slots = [] };
        is_here = refl;
        is_there = refl;
        labels = refl;
        slots_fit = tt;
      },
      tt,
    ) (k, l) (contains_in pairs (k, l) p);
  },
)
  where
    only : (k : ℕ) (l : Identity) → Paired pairs k l → ◌≡◌ {A = ℕ × Identity} (k, l) (0, stream_of 1)
    only k l p = each_in (λ (z : ℕ × Identity). z ≡ (0, stream_of 1)) pairs (refl, tt) (k, l) (contains_in pairs (k, l) p)
