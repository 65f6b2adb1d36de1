use Rattle.std.proofs.Common.{◌∙◌, sym, ap, subst, IfOk, MatchOption, Some}
use Rattle.flight_value.specs.declared.graph.Atom.TheVariants as atom
use Rattle.flight_value.specs.declared.made.Tree.TheVariants as tree
use Rattle.flight_syntax.specs.declared.script.Seen.{Seen}
use Rattle.flight_render.specs.Values.{source_end}
use Rattle.flight_render.specs.Costs.{IsOver}
use Rattle.flight_render.specs.Jobs.{the_root, outcome, known, blank, of_job, shown}
use Rattle.flight_seq.specs.declared.held.End.TheVariants as end
use Rattle.flight_seq.specs.Held.{value_held}
use Rattle.flight_seq.specs.Chain.{Begins}
use Rattle.flight_seq.proofs.Flows.{comes_source, comes_blank}
use Rattle.flight_seq.proofs.Chains.{begins_if, begins_here, begins_job, comes_none, comes_known}
use Rattle.flight_seq.proofs.walk.Walk.first.Goals as goal

pub returns-in-Tree : goal.returns-in-Tree
returns-in-Tree c =
    let g = c.args.ground.now in
    let s = c.args.seen.now.settled in
    let w = c.args.self.now in
    let e = end.Gave c.in-Tree.tree in
    subst (λ h. Begins g s c.args.fuel (value_held h) e w w) (sym c.in-Tree.is)
    (begins_here g s c.args.fuel (shown c.in-Tree.tree) e w c.requires.walk (comes_none g s w.bodies.entries (shown c.in-Tree.tree)))

pub returns-in-Root : goal.returns-in-Root
returns-in-Root c =
    let g = c.args.ground.now in
    let s = c.args.seen.now.settled in
    let w = c.args.self.now in
    subst (λ h. IfOk c.root.result (λ o. MatchOption o (IsOver g s c.args.fuel) (λ e. Begins g s c.args.fuel (value_held h) e w c.root.new.self))) (sym c.in-Root.is)
    (begins_if g s c.args.fuel (of_job the_root) w c.root.new.self c.root.result c.root.ensures)

pub returns-in_ok-outcome-in-Outcome : goal.returns-in_ok-outcome-in-Outcome
returns-in_ok-outcome-in-Outcome c =
    let g = c.args.ground.now in
    let s = c.args.seen.now.settled in
    let w = c.args.self.now in
    let e = c.in_ok-outcome-in-Outcome.field-0 in
    subst (λ h. Begins g s c.args.fuel (value_held h) e w w) (sym c.in-Outcome.is)
    (begins_job g s c.args.fuel (outcome c.in-Outcome.source) e w c.requires.walk (comes_source g s c.in-Outcome.source ∙ ap Some (sym (c.in_ok-outcome-in-Outcome.ensures ∙ ap (λ (x : Seen). source_end g x.settled c.in-Outcome.source) c.get.ensures))) tt)

pub returns-in_ok-argument-in-Known : goal.returns-in_ok-argument-in-Known
returns-in_ok-argument-in-Known c =
    let g = c.args.ground.now in
    let s = c.args.seen.now.settled in
    let w = c.args.self.now in
    let t = c.in_ok-argument-in-Known.field-0 in
    subst (λ h. Begins g s c.args.fuel (value_held h) (end.Gave t) w w) (sym c.in-Known.is)
    (begins_job g s c.args.fuel (known c.in-Known.slot) (end.Gave t) w c.requires.walk (comes_known g s c.in-Known.slot t c.in_ok-argument-in-Known.ensures) tt)

pub returns-in-Blank : goal.returns-in-Blank
returns-in-Blank c =
    let g = c.args.ground.now in
    let s = c.args.seen.now.settled in
    let w = c.args.self.now in
    let e = end.Gave (tree.Atom atom.Undefined) in
    subst (λ h. Begins g s c.args.fuel (value_held h) e w w) (sym c.in-Blank.is)
    (begins_job g s c.args.fuel blank e w c.requires.walk (comes_blank g s) tt)
