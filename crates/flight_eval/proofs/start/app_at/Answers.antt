use Rattle.std.proofs.Common.{sym, refl}
use Rattle.std.proofs.lemmas.Iterator.Adapters.{position_from-zero}
use Rattle.flight_render.specs.Values.{is_app}
use Rattle.flight_eval.proofs.start.app_at.Goals as goal

pub loop-declaration-init : goal.loop-declaration-init
loop-declaration-init c = (sym (position_from-zero is_app c.args.declared.now), refl)
