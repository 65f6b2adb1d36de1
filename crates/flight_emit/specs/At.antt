-- Where a value is written.
use Rattle.std.specs.Prelude.{ℕ, List, codes}
use Rattle.std.specs.Fmt.{decimal}
use Rattle.flight_text.specs.declared.mark.Ref.{Ref}
use Rattle.flight_emit.specs.declared.at.Step.{Step}
use Rattle.flight_emit.specs.declared.at.Step.TheVariants as step
use Rattle.flight_emit.specs.declared.at.At.{At}
use Rattle.flight_emit.specs.declared.at.At.TheVariants as at
use Rattle.flight_emit.specs.Sheet.{below, root}

abbrev pub step_name : Step → List ℕ
step_name (step.Index n) = decimal n
step_name (step.Name name) = name.now
step_name step.Type = codes "type"
step_name step.Props = codes "props"

abbrev pub ref_at : At → Ref
ref_at (at.Root id) = root id
ref_at (at.Part of s) = below of.now (step_name s)
