use Rattle.std.proofs.Common.{map, drop}
use Rattle.flight_syntax.specs.Term.{term, prop, pair, post, terms_of, props_of, pairs_of}
use Rattle.flight_script.specs.Program.{names_in_terms, names_in_props, names_in_pairs, names_in_posts, named_tests}
use Rattle.flight_script.proofs.Passing.{Passed}
use Rattle.flight_script.proofs.named.+check.Given as goal

abbrev pub invariant-check_items-loop-item : goal.invariant-check_items-loop-item
invariant-check_items-loop-item l = Passed (named_tests (map (λ n. n.now) l.sources) (map (λ n. n.now) l.streams) (names_in_terms (terms_of (map term l.items)))) (named_tests (map (λ n. n.now) l.sources) (map (λ n. n.now) l.streams) (names_in_terms (terms_of (map term (drop l.item-index l.items)))))

abbrev pub invariant-check_postfixes-loop-postfix : goal.invariant-check_postfixes-loop-postfix
invariant-check_postfixes-loop-postfix l = Passed (named_tests (map (λ n. n.now) l.sources) (map (λ n. n.now) l.streams) (names_in_posts (map post l.postfixes))) (named_tests (map (λ n. n.now) l.sources) (map (λ n. n.now) l.streams) (names_in_posts (map post (drop l.postfix-index l.postfixes))))

abbrev pub invariant-check_props-loop-prop : goal.invariant-check_props-loop-prop
invariant-check_props-loop-prop l = Passed (named_tests (map (λ n. n.now) l.sources) (map (λ n. n.now) l.streams) (names_in_props (props_of (map prop l.props)))) (named_tests (map (λ n. n.now) l.sources) (map (λ n. n.now) l.streams) (names_in_props (props_of (map prop (drop l.prop-index l.props)))))

abbrev pub invariant-check_pairs-loop-pair : goal.invariant-check_pairs-loop-pair
invariant-check_pairs-loop-pair l = Passed (named_tests (map (λ n. n.now) l.sources) (map (λ n. n.now) l.streams) (names_in_pairs (pairs_of (map pair l.pairs)))) (named_tests (map (λ n. n.now) l.sources) (map (λ n. n.now) l.streams) (names_in_pairs (pairs_of (map pair (drop l.pair-index l.pairs)))))
