use Rattle.std.proofs.Common.{[], ◌∷◌}
use Rattle.flight_link.proofs.Drafts.{kept-fits, kept-parts}
use Rattle.flight_link.proofs.draft.Draft.push.Goals as goal

pub invariant_of-self : goal.invariant_of-self
invariant_of-self c =
    let old = c.self.inside in
    kept-fits c.push-written.result old.text c.push-written.new.self (c.args.character ∷ []) old.gaps.items c.kept.new.gaps.items old.passed c.kept.new.passed c.push-written.ensures c.kept.ensures.ok c.kept.ensures.err c.self.invariant

pub returns : goal.returns
returns c =
    let old = c.self.inside in
    kept-parts c.push-written.result c.kept.result old.text c.push-written.new.self (c.args.character ∷ []) old.gaps.items c.kept.new.gaps.items old.passed c.kept.new.passed c.args.self.now c.kept.ensures.result c.push-written.ensures c.kept.ensures.ok c.self.invariant c.self.view_is
