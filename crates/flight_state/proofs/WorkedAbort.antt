-- The worked run that is aborted while a task waits.
use Rattle.std.proofs.Common.{◌≡◌, inl, inr, [], ◌∷◌, ◌++◌, refl, ap, arith}
use Rattle.std.specs.Prelude.{codes}
use Rattle.flight_value.specs.Store as store
use Rattle.flight_value.specs.Store.{DrawOneGraph, of_graph}
use Rattle.flight_value.specs.declared.graph.Atom.TheVariants as atom
use Rattle.flight_value.specs.Listed.{In}
use Rattle.flight_meaning.specs.declared.place.Place.TheVariants as place
use Rattle.flight_meaning.specs.Linked.{first_place}
use Rattle.flight_meaning.specs.Resolve.{found}
use Rattle.flight_meaning.specs.Meaning.{meaning}
use Rattle.flight_state.specs.declared.event.Event.TheVariants as event
use Rattle.flight_state.specs.State.{IsClosed, Task}
use Rattle.flight_state.specs.Steps as steps
use Rattle.flight_state.specs.Steps.{opening, AbortStep}
use Rattle.flight_state.specs.Worked.{late, late_events, late_waiting, late_aborted, aborted_graph}
use Rattle.flight_state.proofs.Aborting.{abort_fits}
use Rattle.flight_state.proofs.WorkedWait.{at_waiting, late_then}

pub no_task : (t : Task) → In t late_waiting.tasks → t.id ≡ 2 → ⊥
no_task t (inl e) same = omega (arith, ap (λ (z : Task). z.id) e, same)
no_task t (inr (inl e)) same = omega (arith, ap (λ (z : Task). z.id) e, same)
no_task t (inr (inr i)) same = i

abbrev pub aborts : AbortStep late_waiting late_aborted
aborts =
    record {
      digest = codes "stopped";
      error = 2;
      is_free = refl;
      no_task = no_task;
      reference = place.Lazy 2;
      refers = inl refl;
      now = refl;
    }

pub aborted_runs : steps.Run late (late_events ++ event.Abort ∷ []) (opening late) late_aborted
aborted_runs = late_then (event.Abort ∷ []) late_aborted (late_aborted, record { does = aborts; fits = abort_fits late late_waiting late_aborted at_waiting.fits aborts }, refl)

pub aborted_closed : IsClosed late_aborted
aborted_closed t (inl e) = ap (λ (z : Task). z.status) e
aborted_closed t (inr (inl e)) = ap (λ (z : Task). z.status) e
aborted_closed t (inr (inr i)) = absurd i

pub aborted_means : DrawOneGraph (of_graph aborted_graph) (meaning late_aborted.rows)
aborted_means = (
  [],
  record {
    one_there = λ k l m p q. absurd (omega (arith, p.1));
    one_here = λ k j l p q. absurd (omega (arith, p.1));
    roots = record {
      here = store.atom (atom.Failed (codes "stopped"));
      there = store.atom (atom.Failed (codes "stopped"));
      leads_here = refl;
      leads_there = inl (found (first_place 2), (6, refl), refl);
      targets_fit = refl;
    };
    each = λ k l p. absurd (omega (arith, p.1));
  },
)
