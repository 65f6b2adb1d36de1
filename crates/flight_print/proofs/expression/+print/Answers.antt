use Rattle.std.proofs.Common.{refl, string_bytes, ap, ◌∙◌, ◌++◌}
use Rattle.flight_print.specs.Scope.{declared_names, scope_of}
use Rattle.flight_print.proofs.Written as written
use Rattle.flight_print.proofs.Written.{tail_one, tail_two, tail_three, tail_four}
use Rattle.flight_print.proofs.expression.+print.Goals as goal

pub write_ending-returns : goal.write_ending-returns
write_ending-returns t c =
    let N = declared_names c.args.names.now.declared.now in
    let S = scope_of c.args.names.now c.args.locals.now in
    tail_four c.write_word-3.result (string_bytes c.write_word-3.new.out) (string_bytes c.write_two.new.out) (string_bytes c.write_children.new.out) (string_bytes c.write_word-2.new.out) (string_bytes c.args.out.now) _ _ _ _ _
    c.in_ok-write_word.ensures c.in_ok-write_children.ensures c.in_ok-write_two.ensures c.write_word-3.ensures
    (written.ending_whole N S c.args.tag.now c.args.children.now c.is_empty.result c.tag_word.result.now c.is_empty.ensures c.if-is_empty.false c.tag_word.ensures)

pub write_expr-returns-in_ok-write_expr-in-Postfixed : goal.write_expr-returns-in_ok-write_expr-in-Postfixed
write_expr-returns-in_ok-write_expr-in-Postfixed t c =
    let N = declared_names c.args.names.now.declared.now in
    let S = scope_of c.args.names.now c.args.locals.now in
    tail_two c.write_postfixes.result (string_bytes c.write_postfixes.new.out) (string_bytes c.write_expr.new.out) (string_bytes c.args.out.now) _ _ _ c.in_ok-write_expr-in-Postfixed.ensures c.write_postfixes.ensures
    (written.postfixed_text N S c.args.expr.now c.in-Postfixed.of c.in-Postfixed.postfixes c.as_slice.result.now c.get-in-Postfixed.result.now c.in-Postfixed.is c.get-in-Postfixed.ensures c.as_slice.ensures)

pub write_expr-returns-in-Array : goal.write_expr-returns-in-Array
write_expr-returns-in-Array t c =
    let N = declared_names c.args.names.now.declared.now in
    let S = scope_of c.args.names.now c.args.locals.now in
    tail_one c.write_list.result (string_bytes c.write_list.new.out) (string_bytes c.args.out.now) _ _ c.write_list.ensures (written.array_text N S c.args.expr.now c.in-Array.items c.as_slice-in-Array.result.now c.in-Array.is c.as_slice-in-Array.ensures)

pub write_expr-returns-in-Object : goal.write_expr-returns-in-Object
write_expr-returns-in-Object t c =
    let N = declared_names c.args.names.now.declared.now in
    let S = scope_of c.args.names.now c.args.locals.now in
    tail_one c.write_object.result (string_bytes c.write_object.new.out) (string_bytes c.args.out.now) _ _ c.write_object.ensures (written.object_text N S c.args.expr.now c.in-Object.props c.as_slice-in-Object.result.now c.in-Object.is c.as_slice-in-Object.ensures)

pub write_expr-returns-in_ok-write_word-in-Map : goal.write_expr-returns-in_ok-write_word-in-Map
write_expr-returns-in_ok-write_word-in-Map t c =
    let N = declared_names c.args.names.now.declared.now in
    let S = scope_of c.args.names.now c.args.locals.now in
    tail_two c.write_entries.result (string_bytes c.write_entries.new.out) (string_bytes c.write_word-in-Map.new.out) (string_bytes c.args.out.now) _ _ _ c.in_ok-write_word-in-Map.ensures c.write_entries.ensures
    (written.map_text N S c.args.expr.now c.in-Map.pairs c.as_slice-in-Map.result.now c.in-Map.is c.as_slice-in-Map.ensures)

pub write_expr-returns-in_ok-write_word-in-Set : goal.write_expr-returns-in_ok-write_word-in-Set
write_expr-returns-in_ok-write_word-in-Set t c =
    let N = declared_names c.args.names.now.declared.now in
    let S = scope_of c.args.names.now c.args.locals.now in
    tail_two c.write_list-in-Set.result (string_bytes c.write_list-in-Set.new.out) (string_bytes c.write_word-in-Set.new.out) (string_bytes c.args.out.now) _ _ _ c.in_ok-write_word-in-Set.ensures c.write_list-in-Set.ensures
    (written.set_text N S c.args.expr.now c.in-Set.items c.as_slice-in-Set.result.now c.in-Set.is c.as_slice-in-Set.ensures)

pub write_expr-returns-in-Source : goal.write_expr-returns-in-Source
write_expr-returns-in-Source t c =
    let N = declared_names c.args.names.now.declared.now in
    let S = scope_of c.args.names.now c.args.locals.now in
    tail_one c.write_named.result (string_bytes c.write_named.new.out) (string_bytes c.args.out.now) _ _ c.write_named.ensures (written.source_text N S c.args.expr.now c.in-Source.name c.in-Source.is)

pub write_expr-returns-in-Promise : goal.write_expr-returns-in-Promise
write_expr-returns-in-Promise t c =
    let N = declared_names c.args.names.now.declared.now in
    let S = scope_of c.args.names.now c.args.locals.now in
    tail_one c.write_named-in-Promise.result (string_bytes c.write_named-in-Promise.new.out) (string_bytes c.args.out.now) _ _ c.write_named-in-Promise.ensures (written.promise_text N S c.args.expr.now c.in-Promise.name c.in-Promise.is)

pub write_expr-returns-in-Stream : goal.write_expr-returns-in-Stream
write_expr-returns-in-Stream t c =
    let N = declared_names c.args.names.now.declared.now in
    let S = scope_of c.args.names.now c.args.locals.now in
    tail_one c.write_named-in-Stream.result (string_bytes c.write_named-in-Stream.new.out) (string_bytes c.args.out.now) _ _ c.write_named-in-Stream.ensures (written.stream_text N S c.args.expr.now c.in-Stream.name c.in-Stream.is)

pub write_expr-returns-in-None : goal.write_expr-returns-in-None
write_expr-returns-in-None t c =
    let N = declared_names c.args.names.now.declared.now in
    let S = scope_of c.args.names.now c.args.locals.now in
    c.in_ok-write_two-in-Action.ensures
    ∙ ap (λ z. string_bytes c.args.out.now ++ z)
    (written.action_text N S c.args.expr.now c.in-Action.action c.in-Action.bound c.declared_name-in-Action.result.now c.in-Action.is c.in-None.is c.declared_name-in-Action.ensures)

pub write_expr-returns-in_ok-write_word-in-Some : goal.write_expr-returns-in_ok-write_word-in-Some
write_expr-returns-in_ok-write_word-in-Some t c =
    let N = declared_names c.args.names.now.declared.now in
    let S = scope_of c.args.names.now c.args.locals.now in
    tail_three c.write_list-in-Some.result (string_bytes c.write_list-in-Some.new.out) (string_bytes c.write_word-in-Some.new.out) (string_bytes c.write_two.new.out) (string_bytes c.args.out.now) _ _ _ _
    c.in_ok-write_two-in-Action.ensures c.in_ok-write_word-in-Some.ensures c.write_list-in-Some.ensures
    (written.action_with_text N S c.args.expr.now c.in-Action.action c.in-Action.bound c.declared_name-in-Action.result.now c.in-Some.bound c.as_slice-in-Some.result.now c.in-Action.is c.in-Some.is c.as_slice-in-Some.ensures c.declared_name-in-Action.ensures)

pub write_expr-returns-in_ok-write_after-in-Paren : goal.write_expr-returns-in_ok-write_after-in-Paren
write_expr-returns-in_ok-write_after-in-Paren t c =
    let N = declared_names c.args.names.now.declared.now in
    let S = scope_of c.args.names.now c.args.locals.now in
    tail_two c.write_word-in-Paren.result (string_bytes c.write_word-in-Paren.new.out) (string_bytes c.write_after-in-Paren.new.out) (string_bytes c.args.out.now) _ _ _
    c.in_ok-write_after-in-Paren.ensures c.write_word-in-Paren.ensures
    (written.paren_text N S c.args.expr.now c.in-Paren.inside c.get-in-Paren.result.now c.in-Paren.is c.get-in-Paren.ensures)

pub write_expr-returns-in_ok-write_after-in-Binary-2 : goal.write_expr-returns-in_ok-write_after-in-Binary-2
write_expr-returns-in_ok-write_after-in-Binary-2 t c =
    let N = declared_names c.args.names.now.declared.now in
    let S = scope_of c.args.names.now c.args.locals.now in
    tail_three c.write_word-in-Binary.result (string_bytes c.write_word-in-Binary.new.out) (string_bytes c.write_after-in-Binary-2.new.out) (string_bytes c.write_after-in-Binary.new.out) (string_bytes c.args.out.now) _ _ _ _
    c.in_ok-write_after-in-Binary.ensures c.in_ok-write_after-in-Binary-2.ensures c.write_word-in-Binary.ensures
    (written.binary_text N S c.args.expr.now c.in-Binary.left c.in-Binary.right c.get-in-Binary.result.now c.get-in-Binary-2.result.now c.in-Binary.op c.op_word.result.now c.in-Binary.is c.get-in-Binary.ensures c.get-in-Binary-2.ensures c.op_word.ensures)

pub write_expr-returns-in_ok-write_attrs-in-Element : goal.write_expr-returns-in_ok-write_attrs-in-Element
write_expr-returns-in_ok-write_attrs-in-Element t c =
    let N = declared_names c.args.names.now.declared.now in
    let S = scope_of c.args.names.now c.args.locals.now in
    tail_three c.write_ending.result (string_bytes c.write_ending.new.out) (string_bytes c.write_attrs.new.out) (string_bytes c.write_two-in-Element.new.out) (string_bytes c.args.out.now) _ _ _ _
    c.in_ok-write_two-in-Element.ensures c.in_ok-write_attrs-in-Element.ensures c.write_ending.ensures
    (written.element_text N S c.args.expr.now c.in-Element.tag c.in-Element.tag c.in-Element.attrs c.as_slice-in-Element.result.now c.in-Element.children c.as_slice-in-Element-2.result.now c.tag_word.result.now c.in-Element.is refl c.as_slice-in-Element.ensures c.as_slice-in-Element-2.ensures c.tag_word.ensures)
