use Rattle.std.proofs.Common.{◌≡◌, ◌+◌, ◌++◌, ◌∷◌, [], List, ℕ, map, length, refl, sym, ◌∙◌, ap, subst, rules, length-append, true, append-nil}
use Rattle.std.specs.Ordering.{nat_cmp}
use Rattle.std.specs.Cmp.Lexicographic.{slice_cmp}
use Rattle.std.specs.List.Sorted.{IsStrictlySortedBy}
use Rattle.std.specs.Map.{keys_of}
use Rattle.serde_json.specs.View.{view, items_view, members_view}
use Rattle.std.proofs.lemmas.Bool.{false≢true}
use Rattle.serde_json.proofs.Views.{view-Array, view-Object}
use Rattle.flight_value.specs.declared.graph.Node.TheVariants.{Object}
use Rattle.flight_top.specs.Model.{is_mark, is_marked, has_element_form, array_node, array_nodes, member_nodes, member_props}
use Rattle.flight_top.specs.Fine.{behind}
use Rattle.std.specs.Option.{IsSome}
use Rattle.std.specs.Vec.Iter.{into_iter_items, into_iter_len}
use Rattle.flight_top.proofs.Models.{filled, form_length, parts, all_there, element_out, member_props-names, ascend-map, ascend_if_ok}
use Rattle.flight_top.proofs.model.+walk.Goals as goal
use Rattle.flight_top.proofs.model.+walk.Goals.{walk_array-in_default-via-in-Some+in-Some+in_default, walk_array-in_default-via-in-Some+in_default, walk_array-in_default-via-in_default}

pub walk-returns-in_ok-node-in-Array-clause-nodes : goal.walk-returns-in_ok-node-in-Array-clause-nodes
walk-returns-in_ok-node-in-Array-clause-nodes t c =
    let ds = items_view c.in-Array.items.items in
    let before = c.args.out.now.items in
    let seen = ap view c.in-Array.is ∙ view-Array c.in-Array.items in
    let len : length c.push.new.self.items ≡ length before + 1 = ap length c.in_ok-push-in-Array.ensures.items ∙ length-append before (c.unfinished.result ∷ []) in
    let node : c.in_ok-node-in-Array.node ≡ array_node (length before + 1) ds = c.in_ok-node-in-Array.ensures.node ∙ ap (λ n. array_node n ds) len in
    let more : c.walk_array.new.out.items ≡ c.push.new.self.items ++ array_nodes (length before + 1) ds = c.in_ok-node-in-Array.ensures.nodes ∙ ap (λ n. c.push.new.self.items ++ array_nodes n ds) len in
    let filled_in = filled before c.walk_array.new.out.items (array_nodes (length before + 1) ds) c.in_ok-number-in-Array.number c.unfinished.result c.in_ok-node-in-Array.node (search rules) (more ∙ ap (λ xs. xs ++ array_nodes (length before + 1) ds) c.in_ok-push-in-Array.ensures.items) in
    rw seen (c.put.ensures.nodes ∙ (filled_in ∙ ap (λ m. before ++ m ∷ array_nodes (length before + 1) ds) node))

pub walk-returns-in_ok-props-in-Object-clause-nodes : goal.walk-returns-in_ok-props-in-Object-clause-nodes
walk-returns-in_ok-props-in-Object-clause-nodes t c =
    let ms = members_view c.in-Object.members.entries in
    let before = c.args.out.now.items in
    let seen = ap view c.in-Object.is ∙ view-Object c.in-Object.members in
    let len : length c.push-in-Object.new.self.items ≡ length before + 1 = ap length c.in_ok-push-in-Object.ensures.items ∙ length-append before (c.unfinished-in-Object.result ∷ []) in
    let props : c.in_ok-props-in-Object.props ≡ member_props (length before + 1) ms = c.in_ok-props-in-Object.ensures.props ∙ ap (λ n. member_props n ms) len in
    let more : c.walk_members.new.out.items ≡ c.push-in-Object.new.self.items ++ member_nodes (length before + 1) ms = c.in_ok-props-in-Object.ensures.nodes ∙ ap (λ n. c.push-in-Object.new.self.items ++ member_nodes n ms) len in
    let filled_in = filled before c.walk_members.new.out.items (member_nodes (length before + 1) ms) c.in_ok-number-in-Object.number c.unfinished-in-Object.result (Object c.in_ok-props-in-Object.props) (search rules) (more ∙ ap (λ xs. xs ++ member_nodes (length before + 1) ms) c.in_ok-push-in-Object.ensures.items) in
    rw seen (c.put-in-Object.ensures.nodes ∙ (filled_in ∙ ap (λ ps. before ++ Object ps ∷ member_nodes (length before + 1) ms) props))

pub walk_array-returns-in-Some-Some-Some-clause-nodes : goal.walk_array-returns-in-Some-Some-Some-clause-nodes
walk_array-returns-in-Some-Some-Some-clause-nodes t c =
    let xs = c.args.items.items in
    let form : has_element_form (behind (items_view xs)) ≡ true = sym (ap (λ xs. has_element_form (behind (items_view xs))) c.as_slice-2.ensures.value) ∙ c.if-not-is_element.ensures.0 refl in
    let w = c.in-Some-Some-Some in
    let f = parts xs (into_iter_items c.next.new.self) (into_iter_items c.next-2.new.self) (into_iter_items c.next-3.new.self) (into_iter_items c.next-4.new.self)
    (into_iter_len c.into_iter-items.result) (into_iter_len c.next.new.self) (into_iter_len c.next-2.new.self) c.next.result w.tag w.key w.props form
    (rw c.into_iter-items.ensures.rest at c.next.ensures.cases) w.ensures.cases.1 w.ensures.cases.0 w.ensures'.cases.0 w.ensures''.cases.0 in
    let marked : is_mark f.0 ≡ true = sym (ap (λ xs. is_marked (items_view xs)) c.as_slice.ensures.value ∙ ap is_marked f.1) ∙ c.if-not-starts_with_mark.ensures.0 refl in
    rw f.1 (element_out c.args.out.now.items c.walk.new.out.items c.walk-in-Some-Some-Some.new.out.items c.walk-in-Some-Some-Some-2.new.out.items f.0 (view w.tag) (view w.key) (view w.props) marked
    c.in_ok-tag-in-Some-Some-Some.ensures.nodes c.in_ok-key-in-Some-Some-Some.ensures.nodes c.in_ok-props-in-Some-Some-Some.ensures.nodes)

pub walk_array-returns-clause-refused : goal.walk_array-returns-clause-refused
walk_array-returns-clause-refused t c refused =
    let xs = c.args.items.items in
    let form : has_element_form (behind (items_view xs)) ≡ true = sym (ap (λ xs. has_element_form (behind (items_view xs))) c.as_slice-2.ensures.value) ∙ c.if-not-is_element.ensures.0 refl in
    let four : into_iter_len c.into_iter-items.result ≡ 4 = c.into_iter-items.ensures.len ∙ (sym c.as_slice-2.ensures.len ∙ (ap length c.as_slice-2.ensures.value ∙ form_length xs form)) in
    let there = all_there (into_iter_len c.into_iter-items.result) (into_iter_len c.next.new.self) (into_iter_len c.next-2.new.self) (into_iter_len c.next-3.new.self) (into_iter_len c.next-4.new.self)
    c.next.result c.next-2.result c.next-3.result c.next-4.result four c.next.ensures.len c.next-2.ensures.len c.next-3.ensures.len c.next-2.ensures.variant c.next-3.ensures.variant c.next-4.ensures.variant in
    elim c.in_default.branch [
      | walk_array-in_default-via-in-Some+in-Some+in_default w ↦ absurd (false≢true (subst IsSome w.in_default.is-2 there.2))
      | walk_array-in_default-via-in-Some+in_default w ↦ absurd (false≢true (subst IsSome w.in_default.is-1 there.1))
      | walk_array-in_default-via-in_default w ↦ absurd (false≢true (subst IsSome w.in_default.is-0 there.0))
    ]

pub walk_members-returns-clause-names : goal.walk_members-returns-clause-names
walk_members-returns-clause-names t c =
    let es = c.args.members.entries in
    let n = length c.args.out.now.items in
    let empty = c.in-None.ensures.steps.0 in
    let all : c.loop-name.props.items ++ [] ≡ member_props n (members_view es) =
    sym (ap (λ rest. c.loop-name.props.items ++ member_props (length c.loop-name.out.items) (members_view rest)) empty) ∙ c.loop-name.invariant.props in
    let props : c.loop-name.props.items ≡ member_props n (members_view es) = sym (append-nil c.loop-name.props.items) ∙ all in
    let names = ap (λ ps. map (λ p. p.name) ps) props ∙ member_props-names n es in
    ascend_if_ok c.few.result c.loop-name.props.items c.few.ensures.ok
    (let P : List (List ℕ) → Type 0 = λ ns. IsStrictlySortedBy (slice_cmp nat_cmp) ns in subst P (sym names) (ascend-map (keys_of es) c.into_iter-name-iterator.ensures.into_iter_gives.5))
