use Rattle.std.proofs.Common.{subst, sym}
use Rattle.std.proofs.lemmas.Result.{err_from_is_err_and}
use Rattle.flight_grammar.specs.Reader as reader
use Rattle.flight_parse.specs.Code.{words, tree_of, Gives}
use Rattle.flight_parse.proofs.Chains.{word_fails, with_posts}
use Rattle.flight_parse.proofs.expression.chain.Goals as goal

pub returns-in_err-atom : goal.returns-in_err-atom
returns-in_err-atom g c =
    let e = err_from_is_err_and c.from_residual.result c.from_residual.ensures.1 in
    rw (e.1, e.2) (word_fails c.in_err-atom.field-0.0 (reader.expression c.args.below) (reader.child_element c.args.below) (words c.args.lexemes.now) c.in_err-atom.ensures)

pub returns : goal.returns
returns g c =
    let is = with_posts (reader.expression c.args.below) (reader.child_element c.args.below) (words c.args.lexemes.now) (words c.in_ok-atom.after.now) (tree_of c.in_ok-atom.atom) c.in_ok-atom.ensures in
    subst (Gives (λ x. (tree_of x.0, words x.1.now)) c.with_posts.result) (sym is) c.with_posts.ensures
