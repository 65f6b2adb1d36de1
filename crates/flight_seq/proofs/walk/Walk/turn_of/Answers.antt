use Rattle.std.proofs.Common.{◌∙◌, Some, None, refl, sym, ap}
use Rattle.std.specs.Prelude.{if◌then◌else◌}
use Rattle.flight_value.specs.declared.made.Tree.TheVariants as tree
use Rattle.flight_render.specs.Jobs.{element, shown, is_server}
use Rattle.flight_seq.proofs.Results.{if_ok}
use Rattle.flight_seq.proofs.Walks.{node_known}
use Rattle.flight_seq.proofs.walk.Walk.turn_of.Goals as goal

pub returns-then-not-is_server : goal.returns-then-not-is_server
returns-then-not-is_server c =
    let g = c.args.ground.now in
    let s = c.args.seen.now.settled in
    let node = node_known g s c.args.fuel c.args.self.now.bodies.entries c.args.name c.in-Some.made.now c.requires.walk.bodies (sym c.in-Some.ensures) in
    let none = ap (λ b. if b then Some (element c.args.name) else None) (ap is_server node ∙ (sym c.is_server.ensures ∙ c.if-not-is_server.true)) in
    if_ok c.stand.result _ _ (λ t h. h g s c.args.fuel (shown (tree.Made c.args.name)) c.requires.walk c.requires.met none refl) c.stand.ensures

pub element-requires-clause-server : goal.element-requires-clause-server
element-requires-clause-server c =
    let node = node_known c.args.ground.now c.args.seen.now.settled c.args.fuel c.args.self.now.bodies.entries c.args.name c.in-Some.made.now c.requires.walk.bodies (sym c.in-Some.ensures) in
    ap is_server node ∙ (sym c.is_server.ensures ∙ c.if-not-is_server.false)
