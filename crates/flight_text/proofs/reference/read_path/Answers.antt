use Rattle.std.proofs.Common.{rules, All, subst, sym}
use Rattle.flight_text.specs.Reference.{IsName}
use Rattle.flight_text.proofs.Paths.{one_more, all_names}
use Rattle.flight_text.proofs.reference.read_path.Goals as goal

pub loop-name-preserved : goal.loop-name-preserved
loop-name-preserved c = (
  search rules,
  one_more c.loop-name.names.items c.push.new.self.items _ c.in-Some.name.now c.in-Some.rest.now c.loop-name.path.now _ c.in_ok-push.ensures.items c.in_ok-new.ensures c.in-Some.ensures.1 c.loop-name.invariant.1,
  all_names c.loop-name.names.items c.push.new.self.items _ c.in-Some.name.now c.in_ok-push.ensures.items c.in_ok-new.ensures c.in-Some.ensures.0 c.loop-name.invariant.2,
)

pub returns-clause-names : goal.returns-clause-names
returns-clause-names c =
    let is = all_names c.loop-name.names.items c.push-2.new.self.items _ c.loop-name.path.now c.in_ok-push-2.ensures.items c.in_ok-new-2.ensures c.in_default.ensures c.loop-name.invariant.2 in
    subst (λ names. All IsName names) (sym c.new-3.ensures) is
