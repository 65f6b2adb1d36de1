use Rattle.std.proofs.Common.{◌≡◌, arith, rules, map, subst, sym, ◌∙◌}
use Rattle.std.proofs.lemmas.Result.{err_from_is_err_and}
use Rattle.flight_grammar.specs.Reader as reader
use Rattle.flight_parse.specs.Code.{words, post_of, read_post}
use Rattle.flight_parse.proofs.Chains.{left_posts, begins_posts, ends_posts, too_many_posts, more_posts, fails_posts}
use Rattle.flight_parse.proofs.expression.posts.Goals as goal

pub loop-init : goal.loop-init
loop-init g c =
    subst (λ xs. left_posts 100 0 (reader.expression c.args.below) (map read_post (map post_of xs)) (words c.args.lexemes.now) ≡ reader.posts 100 (reader.expression c.args.below) (words c.args.lexemes.now)) (sym c.new-posts.ensures)
    (begins_posts 100 (reader.expression c.args.below) (words c.args.lexemes.now))

pub returns-then-not-starts_post : goal.returns-then-not-starts_post
returns-then-not-starts_post g c =
    ends_posts 100 c.loop.counter (reader.expression c.args.below) (map read_post (map post_of c.loop.posts)) (words c.loop.rest.now) (reader.posts 100 (reader.expression c.args.below) (words c.args.lexemes.now)) c.loop.invariant (sym c.starts_post.ensures ∙ c.if-not-starts_post.true)

pub returns-in_err-post : goal.returns-in_err-post
returns-in_err-post g c =
    let e = err_from_is_err_and c.from_residual.result c.from_residual.ensures.1 in
    rw (e.1, e.2) (fails_posts c.in_err-post.field-0.0 100 c.loop.counter (reader.expression c.args.below) (map read_post (map post_of c.loop.posts)) c.loop.rest.now (reader.posts 100 (reader.expression c.args.below) (words c.args.lexemes.now)) c.loop.invariant (omega arith) (sym c.starts_post.ensures ∙ c.if-not-starts_post.false) c.in_err-post.ensures)

pub loop-preserved : goal.loop-preserved
loop-preserved g c =
    more_posts post_of 100 c.loop.counter (reader.expression c.args.below) c.loop.posts c.push.new.self c.in_ok-post.post c.loop.rest.now (words c.in_ok-post.after.now) (reader.posts 100 (reader.expression c.args.below) (words c.args.lexemes.now)) c.loop.invariant (omega arith)
    (sym c.starts_post.ensures ∙ c.if-not-starts_post.false) c.in_ok-post.ensures (search rules)

pub returns-then-starts_post : goal.returns-then-starts_post
returns-then-starts_post g c =
    too_many_posts c.too_deep.result 100 c.loop.counter (reader.expression c.args.below) (map read_post (map post_of c.loop.posts)) c.loop.rest.now (reader.posts 100 (reader.expression c.args.below) (words c.args.lexemes.now)) c.loop.invariant (omega arith) (sym c.starts_post-2.ensures ∙ c.if-starts_post.true) c.too_deep.ensures

pub returns : goal.returns
returns g c =
    ends_posts 100 c.loop.counter (reader.expression c.args.below) (map read_post (map post_of c.loop.posts)) (words c.loop.rest.now) (reader.posts 100 (reader.expression c.args.below) (words c.args.lexemes.now)) c.loop.invariant (sym c.starts_post-2.ensures ∙ c.if-starts_post.false)
