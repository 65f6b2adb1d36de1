use Rattle.std.proofs.Common.{◌∙◌, String, Global}
use Rattle.serde_json.specs.declared.value.Value.{Value}
use Rattle.std.proofs.lemmas.Result.{err_from_is_err_and}
use Rattle.flight_script.specs.Entries.{entry, entries}
use Rattle.flight_script.specs.Slots.{IsProp}
use Rattle.flight_script.proofs.Built.{built_step, unfit_step}
use Rattle.flight_script.proofs.Nodes.{unfit_prop}
use Rattle.flight_script.proofs.node.read_props.Goals as goal

pub loop-name-preserved : goal.loop-name-preserved
loop-name-preserved c =
    let l = c.loop-name in
    let e : String Global × Value = (c.in-Some.name.now, c.in-Some.member.now) in
    built_step (IsProp c.args.count) entry (entries c.args.members.now.entries) l.name-iterator c.next.new.self e l.props.items c.push.new.self.items (record { name = c.in_ok-name.name; slot = c.in_ok-slot.slot })
    l.invariant c.in-Some.ensures.steps (c.in_ok-name.ensures ∙ c.as_str.ensures.value, c.in_ok-slot.ensures) c.in_ok-push.ensures.items

pub returns-in_err-slot : goal.returns-in_err-slot
returns-in_err-slot c =
    let l = c.loop-name in
    let e : String Global × Value = (c.in-Some.name.now, c.in-Some.member.now) in
    let p = err_from_is_err_and c.from_residual-in_err-slot.result c.from_residual-in_err-slot.ensures.1 in
    rw (p.1, p.2) (unfit_step (IsProp c.args.count) entry (entries c.args.members.now.entries) l.name-iterator c.next.new.self e l.props.items c.in_err-slot.field-0.0 l.invariant c.in-Some.ensures.steps
    (unfit_prop c.args.count (entry e) c.in_err-slot.field-0.0 c.in_err-slot.ensures))
