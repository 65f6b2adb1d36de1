use Rattle.std.proofs.Common.{ap, Err, ◌∙◌}
use Rattle.serde_json.specs.View.{view}
use Rattle.flight_top.proofs.StaticPrograms.{tree_text}
use Rattle.flight_top.proofs.run.static_text.Goals as goal

pub returns-in-Ok-value_text-clause-text : goal.returns-in-Ok-value_text-clause-text
returns-in-Ok-value_text-clause-text c =
    let t = c.in-Ok.ensures.tree in
    (t.0, t.1, c.in-Ok-value_text.ensures ∙ tree_text t.0 (view c.in-Ok.value) t.2 c.in-Ok.ensures.row.plain)

pub returns-in-Err-NotBuilt-clause-refused : goal.returns-in-Err-NotBuilt-clause-refused
returns-in-Err-NotBuilt-clause-refused c = λ same. c.in-Err-NotBuilt.ensures.refused (ap Err c.in-Err-NotBuilt.field-0-is)
