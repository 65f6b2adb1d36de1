use Rattle.std.proofs.Common.{◌≡◌, sym, ◌∙◌, string_bytes}
use Rattle.serde_json.specs.View.{members_view}
use Rattle.serde_json.proofs.Views.{members_view-insert_entry}
use Rattle.std.proofs.Common.{ap}
use Rattle.flight_top.proofs.StaticLoops.{found_name, none_of}
use Rattle.flight_top.proofs.static_read.add.Goals as goal

pub returns-then-is_some-clause-twice : goal.returns-then-is_some-clause-twice
returns-then-is_some-clause-twice c = λ same.
    found_name c.args.members.now.entries c.args.name c.in_ok-insert.field-0 c.in_ok-insert.ensures.old ∙ sym c.if-is_some.ensures

pub returns-clause-new : goal.returns-clause-new
returns-clause-new c =
    none_of _ (found_name c.args.members.now.entries c.args.name c.in_ok-insert.field-0 c.in_ok-insert.ensures.old ∙ sym c.if-is_some.ensures)

pub returns-clause-put : goal.returns-clause-put
returns-clause-put c = ap members_view c.in_ok-insert.ensures.entries ∙ members_view-insert_entry c.args.members.now.entries c.args.name c.args.value
