-- What holds on the way through a run, with the homes that the writer keeps and its next id.
use Rattle.std.proofs.Common.{ℕ, []}
use Rattle.flight_render.specs.declared.root.Ground.{Ground}
use Rattle.flight_render.specs.Valid.{IsValidGround}
use Rattle.flight_state.specs.State.{State}
use Rattle.flight_state.specs.Fits.{Fits}
use Rattle.flight_state.specs.Steps.{TakeStep, WaitStep, PingStep, opening}
use Rattle.flight_state.specs.Local.{Homes, Tied, Below, WritesHere, StreamsOn}
use Rattle.flight_state.proofs.Runs.{opening_fits}
use Rattle.flight_state.proofs.Tasks.{take_fits, wait_fits, ping_fits}
use Rattle.flight_state.proofs.LiftAlone.{lift_fits, lift_tied, lift_below}
use Rattle.flight_state.proofs.LiftStream.{stream_fits, stream_tied, stream_below}
use Rattle.flight_state.proofs.Tying.{tied_opening, tied_take, tied_wait, tied_ping, below_opening, below_take, below_wait, below_ping}

pub record Going (g : Ground) (st : State) (homes : Homes) (next : ℕ) : Type 0 where
  pub fits : Fits g st
  pub tied : Tied g st homes
  pub below : Below st next

pub opens : (g : Ground) → Going g (opening g) [] 1
opens g = record { fits = opening_fits g; tied = tied_opening g; below = below_opening g }

pub takes : (g : Ground) (old new : State) (task next : ℕ) (homes : Homes) → Going g old homes next → TakeStep old new task → Going g new homes next
takes g old new task next homes x w =
    record { fits = take_fits g old new task x.fits w; tied = tied_take g old new task homes w x.tied; below = below_take old new task next w x.below }

pub stops : (g : Ground) → IsValidGround g → (old new : State) (task source next : ℕ) (homes : Homes) → Going g old homes next → WaitStep g old new task source → Going g new homes next
stops g valid old new task source next homes x w =
    record {
      fits = wait_fits g valid old new task source x.fits w;
      tied = tied_wait g old new task source homes w x.tied;
      below = below_wait g old new task source next w x.below;
    }

pub pings : (g : Ground) (old new : State) (source next : ℕ) (homes : Homes) → Going g old homes next → PingStep old new source → Going g new homes next
pings g old new source next homes x w =
    record { fits = ping_fits g old new source x.fits w; tied = tied_ping g old new source homes w x.tied; below = below_ping old new source next w x.below }

pub writes : (g : Ground) → IsValidGround g → (old new : State) (number start next : ℕ) (before behind : Homes) → Going g old before start → WritesHere g old new number start next before behind → Going g new behind next
writes g valid old new number start next before behind x w =
    record {
      fits = lift_fits g valid old new number start next before behind x.fits x.tied x.below w;
      tied = lift_tied g valid old new number start next before behind x.fits x.tied x.below w;
      below = lift_below g valid old new number start next before behind x.fits x.tied x.below w;
    }

pub flows : (g : Ground) → IsValidGround g → (old new : State) (number start next : ℕ) (before behind : Homes) → Going g old before start → StreamsOn g old new number start next before behind → Going g new behind next
flows g valid old new number start next before behind x w =
    record {
      fits = stream_fits g valid old new number start next before behind x.fits x.tied x.below w;
      tied = stream_tied g valid old new number start next before behind x.fits x.tied x.below w;
      below = stream_below g valid old new number start next before behind x.fits x.tied x.below w;
    }
