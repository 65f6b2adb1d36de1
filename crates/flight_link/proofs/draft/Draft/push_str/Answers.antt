use Rattle.flight_link.proofs.Drafts.{kept-fits, kept-parts}
use Rattle.flight_link.proofs.draft.Draft.push_str.Goals as goal

pub invariant_of-self : goal.invariant_of-self
invariant_of-self c =
    let old = c.self.inside in
    kept-fits c.push_str-written.result old.text c.push_str-written.new.self c.args.piece.now old.gaps.items c.kept.new.gaps.items old.passed c.kept.new.passed c.push_str-written.ensures c.kept.ensures.ok c.kept.ensures.err c.self.invariant

pub returns : goal.returns
returns c =
    let old = c.self.inside in
    kept-parts c.push_str-written.result c.kept.result old.text c.push_str-written.new.self c.args.piece.now old.gaps.items c.kept.new.gaps.items old.passed c.kept.new.passed c.args.self.now c.kept.ensures.result c.push_str-written.ensures c.kept.ensures.ok c.self.invariant c.self.view_is
