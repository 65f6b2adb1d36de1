use Rattle.std.proofs.Common.{◌≡◌, ◌++◌, map, drop, false, nat_lt, string_bytes}
use Rattle.flight_syntax.specs.Term.{term, prop, pair, post, terms_of, props_of, pairs_of}
use Rattle.flight_print.specs.Text.{terms_text, props_text, pairs_text, attrs_text, children_text}
use Rattle.flight_print.specs.Scope.{declared_names, scope_of, posts_text}
use Rattle.flight_print.proofs.expression.+print.Given as goal

abbrev pub invariant-write_items-loop-at : goal.invariant-write_items-loop-at
invariant-write_items-loop-at l =
    string_bytes l.out ++ terms_text (declared_names l.names.declared.now) (scope_of l.names l.locals) (nat_lt 0 l.at) (terms_of (map term (drop l.at l.items)))
    ≡ string_bytes l.initial.out ++ terms_text (declared_names l.names.declared.now) (scope_of l.names l.locals) false (terms_of (map term l.items))

abbrev pub invariant-write_props-loop-at : goal.invariant-write_props-loop-at
invariant-write_props-loop-at l =
    string_bytes l.out ++ props_text (declared_names l.names.declared.now) (scope_of l.names l.locals) (nat_lt 0 l.at) (props_of (map prop (drop l.at l.props)))
    ≡ string_bytes l.initial.out ++ props_text (declared_names l.names.declared.now) (scope_of l.names l.locals) false (props_of (map prop l.props))

abbrev pub invariant-write_pairs-loop-at : goal.invariant-write_pairs-loop-at
invariant-write_pairs-loop-at l =
    string_bytes l.out ++ pairs_text (declared_names l.names.declared.now) (scope_of l.names l.locals) (nat_lt 0 l.at) (pairs_of (map pair (drop l.at l.pairs)))
    ≡ string_bytes l.initial.out ++ pairs_text (declared_names l.names.declared.now) (scope_of l.names l.locals) false (pairs_of (map pair l.pairs))

abbrev pub invariant-write_attrs-loop-attr : goal.invariant-write_attrs-loop-attr
invariant-write_attrs-loop-attr l =
    string_bytes l.out ++ attrs_text (declared_names l.names.declared.now) (scope_of l.names l.locals) (props_of (map prop (drop l.attr-index l.attrs)))
    ≡ string_bytes l.initial.out ++ attrs_text (declared_names l.names.declared.now) (scope_of l.names l.locals) (props_of (map prop l.attrs))

abbrev pub invariant-write_children-loop-child : goal.invariant-write_children-loop-child
invariant-write_children-loop-child l =
    string_bytes l.out ++ children_text (declared_names l.names.declared.now) (scope_of l.names l.locals) (terms_of (map term (drop l.child-index l.children)))
    ≡ string_bytes l.initial.out ++ children_text (declared_names l.names.declared.now) (scope_of l.names l.locals) (terms_of (map term l.children))

abbrev pub invariant-write_postfixes-loop-postfix : goal.invariant-write_postfixes-loop-postfix
invariant-write_postfixes-loop-postfix l =
    string_bytes l.out ++ posts_text (declared_names l.names.declared.now) (scope_of l.names l.locals) (map post (drop l.postfix-index l.postfixes))
    ≡ string_bytes l.initial.out ++ posts_text (declared_names l.names.declared.now) (scope_of l.names l.locals) (map post l.postfixes)
