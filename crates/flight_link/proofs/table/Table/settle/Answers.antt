use Rattle.std.proofs.Common.{◌≡◌, ◌≢◌, ◌+◌, ◌<◌, ◌≤◌, length, None, sym, ◌∙◌, ap, subst, arith}
use Rattle.flight_link.specs.Nodes.{is_ended}
use Rattle.flight_link.specs.Backlogs.{AreListed}
use Rattle.flight_link.proofs.Hanging.{next_listed}
use Rattle.flight_link.proofs.table.Table.settle.Goals as goal

pub loop-fresh-init : goal.loop-fresh-init
loop-fresh-init c =
    let below = c.requires.below in
    record {
      states = c.hang.ensures.states;
      listed = c.hang.ensures.listed c.args.nodes.start c.requires.below c.requires.begun.are_listed;
      room = c.hang.ensures.room;
      count = c.requires.all.1 ∙ sym c.hang.ensures.count;
      fresh = λ n w. let ne : c.args.node ≢ n = omega (arith, below, w) in ap is_ended (c.hang.ensures.others n ne) ∙ c.requires.begun.fresh n w;
    }

pub loop-fresh-preserved : goal.loop-fresh-preserved
loop-fresh-preserved c =
    let count = c.loop-fresh.invariant.count in
    let test = c.loop-fresh-test.true in
    let w : c.loop-fresh.fresh < length c.loop-fresh.states = omega (arith, count, test) in
    let one : c.loop-fresh.fresh < c.loop-fresh.fresh + 1 = omega arith in
    let it : c.loop-fresh.fresh ≤ c.loop-fresh.fresh = omega arith in
    record {
      states = c.hang-in-loop-fresh.ensures.states;
      listed = c.hang-in-loop-fresh.ensures.listed (c.loop-fresh.fresh + 1) one (next_listed c.loop-fresh.fresh c.loop-fresh.states c.loop-fresh.backlog w (c.loop-fresh.invariant.fresh c.loop-fresh.fresh it) c.loop-fresh.invariant.listed);
      room = c.hang-in-loop-fresh.ensures.room;
      count = count ∙ sym c.hang-in-loop-fresh.ensures.count;
      fresh = λ n v.
          let ne : c.loop-fresh.fresh ≢ n = omega (arith, v) in
          let le : c.loop-fresh.fresh ≤ n = omega (arith, v) in
          ap is_ended (c.hang-in-loop-fresh.ensures.others n ne) ∙ c.loop-fresh.invariant.fresh n le;
    }

pub drain-requires-clause-listed : goal.drain-requires-clause-listed
drain-requires-clause-listed c =
    let count = c.loop-fresh.invariant.count in
    let test = c.loop-fresh-test.false in
    let few = c.loop-fresh.auto.fresh-end in
    let all = c.requires.all.0 in
    let same : c.loop-fresh.fresh ≡ length c.loop-fresh.states = omega (arith, count, test, few, all) in
    subst (λ k. AreListed k None c.loop-fresh.states c.loop-fresh.backlog) same c.loop-fresh.invariant.listed
