use Rattle.std.proofs.Common.{◌∙◌, ap, map, true, slice_set}
use Rattle.flight_script.proofs.Settling.{marks_set}
use Rattle.flight_script.proofs.settler.settle_one.Goals as goal

pub returns-clause-marks : goal.returns-clause-marks
returns-clause-marks c earlier h =
    c.mark.ensures ∙ (ap (λ bs. slice_set bs c.in_ok-number.number true) h ∙ marks_set (map (λ n. n.now) c.args.sources.now) earlier c.in_ok-number.number c.args.name.now c.requires.ascend c.in_ok-number.ensures.is)
