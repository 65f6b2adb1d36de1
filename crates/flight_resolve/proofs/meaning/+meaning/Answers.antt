use Rattle.std.proofs.Common.{◌≡◌, ◌∙◌, map, ap, sym, arith, rules}
use Rattle.flight_syntax.specs.Term.{term, prop, pair, post}
use Rattle.flight_syntax.specs.Term as terms
use Rattle.flight_syntax.specs.Meaning.{meaning}
use Rattle.flight_parse.specs.Code.{tree_of, property_of, entry_of, post_of}
use Rattle.flight_resolve.specs.Names.{all_of, names_of}
use Rattle.flight_resolve.proofs.Terms.{terms_steps, props_steps, pairs_steps, posts_steps, posted_meaning}
use Rattle.flight_resolve.proofs.meaning.+meaning.Goals as goal

pub exprs_of-loop-item-preserved : goal.exprs_of-loop-item-preserved
exprs_of-loop-item-preserved t c =
    terms_steps (all_of c.args.body.now) (names_of c.args.body.now c.args.locals.now) c.args.items.now c.loop-item.item-index c.item-item.result (omega arith) c.item-item.is c.loop-item.out c.push.new.self c.in_ok-expr.expr (search rules) term tree_of c.loop-item.invariant c.in_ok-expr.ensures

pub postfixed_of-returns : goal.postfixed_of-returns
postfixed_of-returns t c =
    let all = all_of c.args.body.now in
    let names = names_of c.args.body.now c.args.locals.now in
    let same = ap (λ z. terms.posted z (map post c.in_ok-postfixes.postfixes)) c.in_ok-of.ensures ∙ (ap (terms.posted (meaning all names (tree_of c.args.of.now))) c.in_ok-postfixes.ensures ∙ sym (posted_meaning all names (tree_of c.args.of.now) (map post_of c.args.posts.now))) in
    c.postfixed.ensures ∙ (ap (λ z. terms.posted (term z) (map post c.in_ok-postfixes.postfixes)) c.in_ok-of-2.ensures ∙ same)

pub postfixes_of-loop-post-preserved : goal.postfixes_of-loop-post-preserved
postfixes_of-loop-post-preserved t c =
    posts_steps (all_of c.args.body.now) (names_of c.args.body.now c.args.locals.now) c.args.posts.now c.loop-post.post-index c.post-item.result (omega arith) c.post-item.is c.loop-post.out c.push.new.self c.in_ok-postfix.postfix (search rules) post post_of c.loop-post.invariant c.in_ok-postfix.ensures

pub props_in-loop-property-preserved : goal.props_in-loop-property-preserved
props_in-loop-property-preserved t c =
    props_steps (all_of c.args.body.now) (names_of c.args.body.now c.args.locals.now) c.args.properties.now c.loop-property.property-index c.property-item.result (omega arith) c.property-item.is c.loop-property.out c.push.new.self c.in_ok-property.property (search rules) prop property_of c.loop-property.invariant c.in_ok-property.ensures.name c.in_ok-property.ensures.value

pub pairs_in-loop-entry-preserved : goal.pairs_in-loop-entry-preserved
pairs_in-loop-entry-preserved t c =
    pairs_steps (all_of c.args.body.now) (names_of c.args.body.now c.args.locals.now) c.args.entries.now c.loop-entry.entry-index c.entry-item.result (omega arith) c.entry-item.is c.loop-entry.out c.push.new.self c.in_ok-entry.entry (search rules) pair entry_of c.loop-entry.invariant c.in_ok-entry.ensures.key c.in_ok-entry.ensures.value
