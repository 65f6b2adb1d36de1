use Rattle.std.proofs.Common.{rules, ◌<◌, ◌^◌, length, refl}
use Rattle.flight_link.proofs.LaidOut.{object_laid}
use Rattle.flight_link.proofs.table.Table.lay_object.Goals as goal

pub returns : goal.returns
returns c =
    let few : length c.push_props.new.targets.items < 2 ^ 32 = search rules in
    object_laid c.args.self.now.rows.items c.args.spot _ c.args.named.now c.args.targets.now.items c.push_props.new.targets.items refl (λ e. e) c.requires.linked.table.plain c.requires.place c.requires.empty c.in_ok-push_props.ensures few
