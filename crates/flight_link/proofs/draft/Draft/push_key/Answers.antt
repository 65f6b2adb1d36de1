use Rattle.std.proofs.Common.{◌≡◌, ◌-◌, arith, rules}
use Rattle.flight_link.specs.declared.gap.Gap.{Gap}
use Rattle.flight_link.proofs.Drafts.{reach-within, gap-at_end, gap-at_end-parts}
use Rattle.flight_link.proofs.draft.Draft.push_key.Goals as goal

pub overflow_sub-len : goal.overflow_sub-len
overflow_sub-len c =
    let within = reach-within c.self.inside.text c.self.inside.gaps.items c.self.invariant.0 in
    let is_reach = c.self.invariant.1 in
    let long = c.in_ok-len.ensures in
    omega (arith, within, is_reach, long)

pub invariant_of-self-2 : goal.invariant_of-self-2
invariant_of-self-2 c =
    let gap : Gap = record { before = c.in-Ok.before; key = c.args.key } in
    let before : c.in-Ok.before ≡ c.in_ok-len.len - c.self.inside.passed = search rules in
    gap-at_end c.self.inside.text c.self.inside.gaps.items c.push.new.self.items gap c.self.inside.passed c.in_ok-len.len c.in_ok-len.ensures before c.in_ok-push.ensures.items c.self.invariant

pub returns : goal.returns
returns c =
    let gap : Gap = record { before = c.in-Ok.before; key = c.args.key } in
    let before : c.in-Ok.before ≡ c.in_ok-len.len - c.self.inside.passed = search rules in
    gap-at_end-parts c.self.inside.text c.self.inside.gaps.items c.push.new.self.items gap c.self.inside.passed c.in_ok-len.len c.args.self.now c.in_ok-len.ensures before c.in_ok-push.ensures.items c.self.invariant c.self.view_is
