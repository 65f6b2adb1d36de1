use Rattle.std.proofs.Common.{map}
use Rattle.std.proofs.lemmas.Result.{err_from_is_err_and}
use Rattle.serde_json.specs.View.{view}
use Rattle.flight_script.specs.Entries.{entries}
use Rattle.flight_script.proofs.Nodes.{array_unfit, object_unfit, map_unfit, set_unfit}
use Rattle.flight_script.proofs.node.read_node.Goals as goal

pub returns-in_err-read_slots : goal.returns-in_err-read_slots
returns-in_err-read_slots c =
    let p = err_from_is_err_and c.from_residual.result c.from_residual.ensures.1 in
    rw (p.1, p.2) (array_unfit c.args.count (view c.args.value.now) (map view c.in-Some.items.now) c.in_err-read_slots.field-0.0 c.in-Some.ensures c.in_err-read_slots.ensures)

pub returns-in_err-read_props : goal.returns-in_err-read_props
returns-in_err-read_props c =
    let p = err_from_is_err_and c.from_residual-in_err-read_props.result c.from_residual-in_err-read_props.ensures.1 in
    rw (p.1, p.2) (object_unfit c.args.count (view c.args.value.now) (entries c.in-Some-members_in.members.now.entries) c.in_err-read_props.field-0.0 c.in-Some-members_in.ensures c.in_err-read_props.ensures)

pub returns-in_err-read_pairs : goal.returns-in_err-read_pairs
returns-in_err-read_pairs c =
    let p = err_from_is_err_and c.from_residual-in_err-read_pairs.result c.from_residual-in_err-read_pairs.ensures.1 in
    rw (p.1, p.2) (map_unfit c.args.count (view c.args.value.now) (map view c.in-Some-list_in.items.now) c.in_err-read_pairs.field-0.0 c.in-Some-list_in.ensures c.in_err-read_pairs.ensures)

pub returns-in_err-read_slots-in-Some-list_in-2 : goal.returns-in_err-read_slots-in-Some-list_in-2
returns-in_err-read_slots-in-Some-list_in-2 c =
    let p = err_from_is_err_and c.from_residual-in_err-read_slots-in-Some-list_in-2.result c.from_residual-in_err-read_slots-in-Some-list_in-2.ensures.1 in
    rw (p.1, p.2) (set_unfit c.args.count (view c.args.value.now) (map view c.in-Some-list_in-2.items.now) c.in_err-read_slots-in-Some-list_in-2.field-0.0 c.in-Some-list_in-2.ensures c.in_err-read_slots-in-Some-list_in-2.ensures)
