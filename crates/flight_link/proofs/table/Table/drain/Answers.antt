use Rattle.std.proofs.Common.{ℕ, ◌<◌, ◌-◌, Option, List, length, take, None, sym, ◌∙◌, ap, subst, arith}
use Rattle.flight_link.specs.Backlogs.{AreListed}
use Rattle.flight_link.proofs.Backlogs.{take_listed}
use Rattle.flight_link.proofs.Hanging.{ended_within, last_queued, leave_listed, drained}
use Rattle.flight_link.proofs.table.Table.drain.Goals as goal

pub take-requires : goal.take-requires
take-requires c =
    let done = c.loop-ended.invariant.listed.ended c.in-Some.ended (last_queued c.loop-ended.backlog.ended.items c.in-Some.ended c.in-Some.ensures) in
    let w = ended_within c.loop-ended.states c.in-Some.ended done in
    let f = c.loop-ended.invariant.room.first in
    omega (arith, w, f)

pub hang-requires-clause-node : goal.hang-requires-clause-node
hang-requires-clause-node c =
    let done = c.loop-ended.invariant.listed.ended c.in-Some.ended (last_queued c.loop-ended.backlog.ended.items c.in-Some.ended c.in-Some.ensures) in
    let w = ended_within c.loop-ended.states c.in-Some.ended done in
    let f = c.loop-ended.invariant.room.first in
    let v : c.in-Some.ended < length c.loop-ended.backlog.first.items = omega (arith, w, f) in
    (take_listed (length c.loop-ended.states) c.in-Some.ended c.in-Some-take.node c.loop-ended.states c.loop-ended.backlog c.take.new.self v c.in-Some-take.ensures.takes done c.loop-ended.invariant.listed).2

pub loop-ended-smaller-in-Some-take : goal.loop-ended-smaller-in-Some-take
loop-ended-smaller-in-Some-take c =
    let done = c.loop-ended.invariant.listed.ended c.in-Some.ended (last_queued c.loop-ended.backlog.ended.items c.in-Some.ended c.in-Some.ensures) in
    let w = ended_within c.loop-ended.states c.in-Some.ended done in
    let f = c.loop-ended.invariant.room.first in
    let v : c.in-Some.ended < length c.loop-ended.backlog.first.items = omega (arith, w, f) in
    let taken = take_listed (length c.loop-ended.states) c.in-Some.ended c.in-Some-take.node c.loop-ended.states c.loop-ended.backlog c.take.new.self v c.in-Some-take.ensures.takes done c.loop-ended.invariant.listed in
    let less = c.hang.ensures.fewer c.in-Some.ended taken.1 done in
    let same = ap (λ (x : List ℕ). length x) c.in-Some-take.ensures.takes.is_put.ended_is in
    omega (arith, less, same)

pub loop-ended-preserved-in-Some-take : goal.loop-ended-preserved-in-Some-take
loop-ended-preserved-in-Some-take c =
    let done = c.loop-ended.invariant.listed.ended c.in-Some.ended (last_queued c.loop-ended.backlog.ended.items c.in-Some.ended c.in-Some.ensures) in
    let w = ended_within c.loop-ended.states c.in-Some.ended done in
    let f = c.loop-ended.invariant.room.first in
    let v : c.in-Some.ended < length c.loop-ended.backlog.first.items = omega (arith, w, f) in
    let taken = take_listed (length c.loop-ended.states) c.in-Some.ended c.in-Some-take.node c.loop-ended.states c.loop-ended.backlog c.take.new.self v c.in-Some-take.ensures.takes done c.loop-ended.invariant.listed in
    record {
      states = c.hang.ensures.states;
      listed = subst (λ k. AreListed k None c.hang.new.states c.hang.new.backlog) (sym c.hang.ensures.count) (c.hang.ensures.listed (length c.loop-ended.states) taken.2 taken.0);
      room = c.hang.ensures.room;
    }

pub loop-ended-preserved : goal.loop-ended-preserved
loop-ended-preserved c =
    let first = c.leave.ensures.rest.0 ∙ c.in-None.ensures.takes.1.first_is in
    let next = c.leave.ensures.rest.1 ∙ c.in-None.ensures.takes.1.next_is in
    let listed =
    leave_listed (length c.loop-ended.states) c.in-Some.ended c.loop-ended.states c.loop-ended.backlog c.leave.new.self c.in-Some.ensures c.in-None.ensures.takes.0 first next
    (c.leave.ensures.ended ∙ ap (λ (x : List ℕ). take (length x - 1) x) c.in-None.ensures.takes.1.ended_is) c.loop-ended.invariant.listed in
    let room = c.loop-ended.invariant.room in
    let a = ap (λ (x : List (Option ℕ)). length x) first in
    let b = ap (λ (x : List (Option ℕ)). length x) next in
    let k = c.leave.ensures.capacity in
    let t = c.in-None.ensures.capacity in
    record {
      states = c.loop-ended.invariant.states;
      listed = listed.0;
      room = record { first = omega (arith, a, room); next = omega (arith, b, room); ended = omega (arith, k, t, room); few = room.few };
    }

pub returns-clause-quiet : goal.returns-clause-quiet
returns-clause-quiet c = drained c.args.self.now c.loop-ended.states c.loop-ended.backlog c.loop-ended.invariant.states c.in_default.ensures c.loop-ended.invariant.listed
