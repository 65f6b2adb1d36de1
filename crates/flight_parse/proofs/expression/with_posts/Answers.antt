use Rattle.std.proofs.Common.{map, ap, ◌∙◌}
use Rattle.flight_grammar.specs.Reader as reader
use Rattle.flight_parse.specs.Code.{words, tree_of, post_of, posted}
use Rattle.flight_parse.proofs.Chains.{posts_read}
use Rattle.flight_parse.proofs.expression.with_posts.Goals as goal

pub returns : goal.returns
returns g c =
    posts_read (reader.expression c.args.below) (words c.args.lexemes.now) (words c.in_ok-posts.rest.now) (tree_of c.args.atom) (tree_of c.postfixed.result) (map post_of c.in_ok-posts.posts) c.in_ok-posts.ensures
    (c.postfixed.ensures ∙ ap (λ z. posted (tree_of z) (map post_of c.in_ok-posts.posts)) c.in_ok-of.ensures)
