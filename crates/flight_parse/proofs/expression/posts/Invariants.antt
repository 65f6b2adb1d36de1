use Rattle.std.proofs.Common.{◌≡◌, map}
use Rattle.flight_grammar.specs.Reader as reader
use Rattle.flight_parse.specs.Code.{words, post_of, read_post}
use Rattle.flight_parse.proofs.Chains.{left_posts}
use Rattle.flight_parse.proofs.expression.posts.Given as goal

abbrev pub invariant-loop : goal.invariant-loop
invariant-loop g l = left_posts 100 l.counter (reader.expression l.below) (map read_post (map post_of l.posts)) (words l.rest) ≡ reader.posts 100 (reader.expression l.below) (words l.lexemes)
