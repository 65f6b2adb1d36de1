use Rattle.flight_graph.specs.Text.{number_text}
use Rattle.flight_link.proofs.Drafts.{kept-fits, kept-parts}
use Rattle.flight_link.proofs.draft.Draft.push_number.Goals as goal

pub invariant_of-self : goal.invariant_of-self
invariant_of-self c =
    let old = c.self.inside in
    kept-fits c.write_number-written.result old.text c.write_number-written.new.out (number_text c.args.number) old.gaps.items c.kept.new.gaps.items old.passed c.kept.new.passed c.write_number-written.ensures c.kept.ensures.ok c.kept.ensures.err c.self.invariant

pub returns : goal.returns
returns c =
    let old = c.self.inside in
    kept-parts c.write_number-written.result c.kept.result old.text c.write_number-written.new.out (number_text c.args.number) old.gaps.items c.kept.new.gaps.items old.passed c.kept.new.passed c.args.self.now c.kept.ensures.result c.write_number-written.ensures c.kept.ensures.ok c.self.invariant c.self.view_is
