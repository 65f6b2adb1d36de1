use Rattle.std.proofs.Common.{◌∙◌, sym, subst}
use Rattle.std.specs.Prelude.{option_map}
use Rattle.flight_bundle.proofs.Cuts.{parts_utf8, program_within}
use Rattle.flight_bundle.proofs.bundle.read_bundle.Goals as goal

pub ground_of-requires-clause-program : goal.ground_of-requires-clause-program
ground_of-requires-clause-program c =
    (parts_utf8 c.args.bytes.now c.parts_of-parts.result.program.now c.parts_of-parts.result.script.now (option_map (λ r. r.now) c.parts_of-parts.result.reply) c.parts_of-parts.ensures c.in_default.ensures.cases.1).0

pub ground_of-requires-clause-script : goal.ground_of-requires-clause-script
ground_of-requires-clause-script c =
    (parts_utf8 c.args.bytes.now c.parts_of-parts.result.program.now c.parts_of-parts.result.script.now (option_map (λ r. r.now) c.parts_of-parts.result.reply) c.parts_of-parts.ensures c.in_default.ensures.cases.1).1
