use Rattle.std.proofs.Common.{◌≡◌, drop}
use Rattle.std.specs.Prelude.{position}
use Rattle.std.specs.List.{position_from}
use Rattle.flight_render.specs.Values.{is_app}
use Rattle.flight_eval.proofs.start.app_at.Given as goal

abbrev pub invariant-loop-declaration : goal.invariant-loop-declaration
invariant-loop-declaration l = (position_from is_app l.at (drop l.declaration-index l.declared) ≡ position is_app l.declared) × (l.at ≡ l.declaration-index)
