use Rattle.std.proofs.Common.{◌≤◌, List, length, append-nil, sym, subst}
use Rattle.std.proofs.lemmas.Option.{slice_get_past}
use Rattle.flight_value.specs.declared.graph.Prop.{Prop}
use Rattle.flight_reply_out.proofs.home.push_steps.Goals as goal

pub returns-in-None : goal.returns-in-None
returns-in-None c =
    let past = subst (λ (ps : List Prop). length ps ≤ c.args.slot) c.as_slice.ensures c.in-None.ensures.lookup.3 in
    rw (c.in-Object.is, slice_get_past c.in-Object.props c.args.slot past) (sym (append-nil c.args.path.now.items))
