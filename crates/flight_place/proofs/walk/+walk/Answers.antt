use Rattle.std.proofs.Common.{◌≡◌, ◌<◌, ◌≤◌, ◌+◌, ◌++◌, ◌∷◌, [], length, drop, refl, sym, ◌∙◌, ap, subst, arith, OnOk, false, length-append, length-set}
use Rattle.std.proofs.lemmas.Result.{err_from_is_err_and}
use Rattle.std.proofs.lemmas.List.{drop_more, drop_all}
use Rattle.std.proofs.lemmas.Bool.{false_from_ne_true, false≢true}
use Rattle.serde_json.specs.Data.{item, no_items, object}
use Rattle.flight_place.specs.Faults.{Adds}
use Rattle.flight_place.proofs.Parsing.{data-Object}
use Rattle.flight_place.specs.Parsed.{data_of, items_data, members_data}
use Rattle.flight_meaning.specs.declared.place.Place.TheVariants.{Array, Object, Element}
use Rattle.flight_place.specs.Places.{is_marked, is_element, is_key, visits, item_visits, member_visits, item_count, member_count, count, item_numbers, member_numbers}
use Rattle.flight_place.proofs.Adding.{Leads, leads-end, adds-parts}
use Rattle.flight_place.proofs.Walks.{four, fewer, more, three, inside, element-marked, element-adds, marked-adds, marked-refuses, not-element, mark-count, items-on, items-refuse, members-on, members-refuse, parts-on, named, same-named}
use Rattle.flight_place.proofs.walk.+walk.Goals as goal
use Rattle.flight_place.proofs.walk.+walk.Goals.{walk_element-in_default-via-then-items-lt4, walk_element-in_default-via-in-len4+else-may_be_key, walk_element-in_default-via-else-items-lt4+else-items-lt5}

pub walk_array-returns-clause-adds : goal.walk_array-returns-clause-adds
walk_array-returns-clause-adds t c =
    let ds = items_data c.args.items.now in
    adds-parts c.args.manner c.args.out.now.items c.push.new.out.items c.walk_items.new.out.items c.put.new.out.items c.unfinished.result Array (λ n. item_visits c.args.manner n ds) (λ n. item_numbers n ds) c.in_ok-number.number c.new.result
    c.in_ok-number.ensures.number c.in_ok-number.ensures.ok c.in_ok-numbers.ensures.adds (c.new.ensures ∙ c.in_ok-numbers.ensures.numbers) c.put.ensures

pub walk_object-returns-clause-adds : goal.walk_object-returns-clause-adds
walk_object-returns-clause-adds t c =
    let ms = members_data c.args.members.now in
    adds-parts c.args.manner c.args.out.now.items c.push.new.out.items c.walk_members.new.out.items c.put.new.out.items c.unfinished.result Object (λ n. member_visits c.args.manner n ms) (λ n. member_numbers n ms) c.in_ok-number.number c.new.result
    c.in_ok-number.ensures.number c.in_ok-number.ensures.ok c.in_ok-numbers.ensures.adds (c.new.ensures ∙ c.in_ok-numbers.ensures.numbers) c.put.ensures

pub walk_items-returns-in_err-walk-clause-err : goal.walk_items-returns-in_err-walk-clause-err
walk_items-returns-in_err-walk-clause-err t c =
    let p = err_from_is_err_and c.from_residual-in_err-walk.result c.from_residual-in_err-walk.ensures.1 in
    let l = c.loop-item in
    let xs = c.args.items.now in
    let v = c.item-item.result in
    let more : drop l.item-index xs ≡ v ∷ drop (l.item-index + 1) xs = drop_more xs l.item-index v c.loop-item-test.true ∙ ap (λ x. x ∷ drop (l.item-index + 1) xs) (sym c.item-item.is) in
    let leads = subst (λ vs. Leads c.args.manner c.args.out.now.items (item_visits c.args.manner (length c.args.out.now.items) (items_data xs)) l.out.items (item_visits c.args.manner (length l.out.items) (items_data vs))) more l.invariant.leads in
    rw (p.1, p.2) (items-refuse c.args.manner c.args.out.now.items l.out.items (item_visits c.args.manner (length c.args.out.now.items) (items_data xs)) (data_of v) (items_data (drop (l.item-index + 1) xs)) c.in_err-walk.field-0.0 leads c.in_err-walk.ensures.err)

pub walk_items-loop-item-preserved : goal.walk_items-loop-item-preserved
walk_items-loop-item-preserved t c =
    let l = c.loop-item in
    let xs = c.args.items.now in
    let v = c.item-item.result in
    let start = c.args.out.now.items in
    let n = length l.out.items in
    let rest = items_data (drop (l.item-index + 1) xs) in
    let more : drop l.item-index xs ≡ v ∷ drop (l.item-index + 1) xs = drop_more xs l.item-index v c.loop-item-test.true ∙ ap (λ x. x ∷ drop (l.item-index + 1) xs) (sym c.item-item.is) in
    let leads = subst (λ vs. Leads c.args.manner start (item_visits c.args.manner (length start) (items_data xs)) l.out.items (item_visits c.args.manner n (items_data vs))) more l.invariant.leads in
    let counted : n + (count (data_of v) + item_count rest) ≡ length start + item_count (items_data xs) = subst (λ vs. n + item_count (items_data vs) ≡ length start + item_count (items_data xs)) more l.invariant.count in
    let numbered : l.numbers.items ++ (n ∷ item_numbers (n + count (data_of v)) rest) ≡ item_numbers (length start) (items_data xs) = subst (λ vs. l.numbers.items ++ item_numbers n (items_data vs) ≡ item_numbers (length start) (items_data xs)) more l.invariant.numbers in
    let len : length c.walk.new.out.items ≡ n + count (data_of v) = c.in_ok-walk.ensures.count in
    record {
      leads = items-on c.args.manner start l.out.items c.walk.new.out.items (item_visits c.args.manner (length start) (items_data xs)) (data_of v) rest leads c.in_ok-walk.ensures.adds len;
      count = omega (arith, counted, len);
      numbers = parts-on l.numbers.items c.push.new.self.items (item_numbers (length start) (items_data xs)) n c.in_ok-walk.field-0 (λ k. item_numbers k rest) (n + count (data_of v)) (length c.walk.new.out.items) numbered c.in_ok-push.ensures.items c.in_ok-walk.ensures.number len;
    }

pub walk_items-returns-clause-adds : goal.walk_items-returns-clause-adds
walk_items-returns-clause-adds t c =
    let l = c.loop-item in
    let xs = c.args.items.now in
    let start = c.args.out.now.items in
    let all = item_visits c.args.manner (length start) (items_data xs) in
    let none : drop l.item-index xs ≡ [] = drop_all l.item-index xs c.loop-item-test.false in
    leads-end c.args.manner start l.out.items all (subst (λ vs. Leads c.args.manner start all l.out.items (item_visits c.args.manner (length l.out.items) (items_data vs))) none l.invariant.leads)

pub walk_members-loop-member-preserved : goal.walk_members-loop-member-preserved
walk_members-loop-member-preserved t c =
    let l = c.loop-member in
    let xs = c.args.members.now in
    let v = c.member-item.result in
    let start = c.args.out.now.items in
    let n = length l.out.items in
    let name = v.0.now in
    let d = data_of v.1 in
    let rest = members_data (drop (l.member-index + 1) xs) in
    let more : drop l.member-index xs ≡ v ∷ drop (l.member-index + 1) xs = drop_more xs l.member-index v c.loop-member-test.true ∙ ap (λ x. x ∷ drop (l.member-index + 1) xs) (sym c.member-item.is) in
    let leads : Leads c.args.manner start (member_visits c.args.manner (length start) (members_data xs)) l.out.items (visits c.args.manner n d ++ member_visits c.args.manner (n + count d) rest) = subst (λ ms. Leads c.args.manner start (member_visits c.args.manner (length start) (members_data xs)) l.out.items (member_visits c.args.manner n (members_data ms))) more l.invariant.leads in
    let counted : n + (count d + member_count rest) ≡ length start + member_count (members_data xs) = subst (λ ms. n + member_count (members_data ms) ≡ length start + member_count (members_data xs)) more l.invariant.count in
    let one = named name n in
    let numbered : l.numbers.items ++ (one ∷ member_numbers (n + count d) rest) ≡ member_numbers (length start) (members_data xs) = subst (λ ms. l.numbers.items ++ member_numbers n (members_data ms) ≡ member_numbers (length start) (members_data xs)) more l.invariant.numbers in
    let len : length c.walk.new.out.items ≡ n + count d = c.in_ok-place.ensures.count in
    record {
      leads = members-on c.args.manner start l.out.items c.walk.new.out.items (member_visits c.args.manner (length start) (members_data xs)) name d rest leads c.in_ok-place.ensures.adds len;
      count = omega (arith, counted, len);
      numbers = parts-on l.numbers.items c.push.new.self.items (member_numbers (length start) (members_data xs)) one (named c.in_ok-name.name c.in_ok-place.place) (λ k. member_numbers k rest) (n + count d) (length c.walk.new.out.items) numbered c.in_ok-push.ensures.items (same-named c.in_ok-name.name name c.in_ok-place.place n c.in_ok-name.ensures c.in_ok-place.ensures.number) len;
    }

pub walk_members-returns-in_err-place-clause-err : goal.walk_members-returns-in_err-place-clause-err
walk_members-returns-in_err-place-clause-err t c =
    let p = err_from_is_err_and c.from_residual-in_err-place.result c.from_residual-in_err-place.ensures.1 in
    let l = c.loop-member in
    let xs = c.args.members.now in
    let v = c.member-item.result in
    let start = c.args.out.now.items in
    let n = length l.out.items in
    let all = member_visits c.args.manner (length start) (members_data xs) in
    let more : drop l.member-index xs ≡ v ∷ drop (l.member-index + 1) xs = drop_more xs l.member-index v c.loop-member-test.true ∙ ap (λ x. x ∷ drop (l.member-index + 1) xs) (sym c.member-item.is) in
    let leads = subst (λ ms. Leads c.args.manner start all l.out.items (member_visits c.args.manner n (members_data ms))) more l.invariant.leads in
    rw (p.1, p.2) (members-refuse c.args.manner start l.out.items all v.0.now (data_of v.1) (members_data (drop (l.member-index + 1) xs)) c.in_err-place.field-0.0 leads c.in_err-place.ensures.err)

pub walk_members-returns-clause-adds : goal.walk_members-returns-clause-adds
walk_members-returns-clause-adds t c =
    let l = c.loop-member in
    let xs = c.args.members.now in
    let start = c.args.out.now.items in
    let all = member_visits c.args.manner (length start) (members_data xs) in
    let none : drop l.member-index xs ≡ [] = drop_all l.member-index xs c.loop-member-test.false in
    leads-end c.args.manner start l.out.items all (subst (λ vs. Leads c.args.manner start all l.out.items (member_visits c.args.manner (length l.out.items) (members_data vs))) none l.invariant.leads)

pub walk_element-returns-in_err-tag-in-len4-clause-err : goal.walk_element-returns-in_err-tag-in-len4-clause-err
walk_element-returns-in_err-tag-in-len4-clause-err t c =
    let p = err_from_is_err_and c.from_residual-in_err-tag-in-len4.result c.from_residual-in_err-tag-in-len4.ensures.1 in
    let manner = c.args.manner in
    let xs = c.args.items.now in
    let start = c.args.out.now.items in
    let tag = data_of c.tag-item.result in
    let key = data_of c.key-item.result in
    let props = data_of c.props-item.result in
    let f = four xs c.tag-item.result c.key-item.result c.props-item.result c.in-len4.len_at_least c.in-len4.len_below c.tag-item.is c.key-item.is c.props-item.is in
    let all = inside manner (length start) (three tag key props) in
    let opened = c.push.new.out.items in
    let marked = c.push_mark.new.out.items in
    let l = element-marked manner start opened marked c.unfinished.result (three tag key props) c.in_ok-number-in-len4.ensures.ok c.in_ok-push_mark-in-len4.ensures.adds c.in_ok-push_mark-in-len4.ensures.count in
    let refused = items-refuse manner opened marked all tag (item key (item props no_items)) c.in_err-tag-in-len4.field-0.0 l c.in_err-tag-in-len4.ensures.err in
    rw (p.1, p.2) (marked-refuses manner (length start) (items_data xs) f.0 tag key props c.in_err-tag-in-len4.field-0.0 f.1 (c.if-may_be_key.ensures.0 refl) refused)

pub walk_element-returns-in_err-key-in-len4-clause-err : goal.walk_element-returns-in_err-key-in-len4-clause-err
walk_element-returns-in_err-key-in-len4-clause-err t c =
    let p = err_from_is_err_and c.from_residual-in_err-key-in-len4.result c.from_residual-in_err-key-in-len4.ensures.1 in
    let manner = c.args.manner in
    let xs = c.args.items.now in
    let start = c.args.out.now.items in
    let tag = data_of c.tag-item.result in
    let key = data_of c.key-item.result in
    let props = data_of c.props-item.result in
    let f = four xs c.tag-item.result c.key-item.result c.props-item.result c.in-len4.len_at_least c.in-len4.len_below c.tag-item.is c.key-item.is c.props-item.is in
    let all = inside manner (length start) (three tag key props) in
    let opened = c.push.new.out.items in
    let marked = c.push_mark.new.out.items in
    let l = element-marked manner start opened marked c.unfinished.result (three tag key props) c.in_ok-number-in-len4.ensures.ok c.in_ok-push_mark-in-len4.ensures.adds c.in_ok-push_mark-in-len4.ensures.count in
    let l1 = items-on manner opened marked c.walk.new.out.items all tag (item key (item props no_items)) l c.in_ok-tag-in-len4.ensures.adds c.in_ok-tag-in-len4.ensures.count in
    let refused = items-refuse manner opened c.walk.new.out.items all key (item props no_items) c.in_err-key-in-len4.field-0.0 l1 c.in_err-key-in-len4.ensures.err in
    rw (p.1, p.2) (marked-refuses manner (length start) (items_data xs) f.0 tag key props c.in_err-key-in-len4.field-0.0 f.1 (c.if-may_be_key.ensures.0 refl) refused)

pub walk_element-returns-in_err-props-in-len4-clause-err : goal.walk_element-returns-in_err-props-in-len4-clause-err
walk_element-returns-in_err-props-in-len4-clause-err t c =
    let p = err_from_is_err_and c.from_residual-in_err-props-in-len4.result c.from_residual-in_err-props-in-len4.ensures.1 in
    let manner = c.args.manner in
    let xs = c.args.items.now in
    let start = c.args.out.now.items in
    let tag = data_of c.tag-item.result in
    let key = data_of c.key-item.result in
    let props = data_of c.props-item.result in
    let f = four xs c.tag-item.result c.key-item.result c.props-item.result c.in-len4.len_at_least c.in-len4.len_below c.tag-item.is c.key-item.is c.props-item.is in
    let all = inside manner (length start) (three tag key props) in
    let opened = c.push.new.out.items in
    let marked = c.push_mark.new.out.items in
    let l = element-marked manner start opened marked c.unfinished.result (three tag key props) c.in_ok-number-in-len4.ensures.ok c.in_ok-push_mark-in-len4.ensures.adds c.in_ok-push_mark-in-len4.ensures.count in
    let l1 = items-on manner opened marked c.walk.new.out.items all tag (item key (item props no_items)) l c.in_ok-tag-in-len4.ensures.adds c.in_ok-tag-in-len4.ensures.count in
    let l2 = items-on manner opened c.walk.new.out.items c.walk-in-len4.new.out.items all key (item props no_items) l1 c.in_ok-key-in-len4.ensures.adds c.in_ok-key-in-len4.ensures.count in
    let refused = items-refuse manner opened c.walk-in-len4.new.out.items all props no_items c.in_err-props-in-len4.field-0.0 l2 c.in_err-props-in-len4.ensures.err in
    rw (p.1, p.2) (marked-refuses manner (length start) (items_data xs) f.0 tag key props c.in_err-props-in-len4.field-0.0 f.1 (c.if-may_be_key.ensures.0 refl) refused)

pub walk_element-returns-in_ok-props-in-len4-clause-adds : goal.walk_element-returns-in_ok-props-in-len4-clause-adds
walk_element-returns-in_ok-props-in-len4-clause-adds t c =
    let manner = c.args.manner in
    let xs = c.args.items.now in
    let start = c.args.out.now.items in
    let tag = data_of c.tag-item.result in
    let key = data_of c.key-item.result in
    let props = data_of c.props-item.result in
    let f = four xs c.tag-item.result c.key-item.result c.props-item.result c.in-len4.len_at_least c.in-len4.len_below c.tag-item.is c.key-item.is c.props-item.is in
    let whole = element-adds manner start c.push.new.out.items c.push_mark.new.out.items c.walk.new.out.items c.walk-in-len4.new.out.items c.walk-in-len4-2.new.out.items c.put.new.out.items c.unfinished.result f.0 tag key props
    c.in_ok-number-in-len4.number c.in_ok-tag-in-len4.tag c.in_ok-key-in-len4.key c.in_ok-props-in-len4.props
    c.in_ok-number-in-len4.ensures.number c.in_ok-number-in-len4.ensures.ok c.in_ok-push_mark-in-len4.ensures.adds c.in_ok-push_mark-in-len4.ensures.count
    c.in_ok-tag-in-len4.ensures.adds c.in_ok-tag-in-len4.ensures.count c.in_ok-key-in-len4.ensures.adds c.in_ok-key-in-len4.ensures.count c.in_ok-props-in-len4.ensures.adds c.in_ok-props-in-len4.ensures.count
    c.in_ok-tag-in-len4.ensures.number c.in_ok-key-in-len4.ensures.number c.in_ok-props-in-len4.ensures.number c.put.ensures in
    marked-adds manner start c.put.new.out.items (length start) (items_data xs) f.0 tag key props f.1 (c.if-may_be_key.ensures.0 refl) whole

pub walk_element-returns-in_ok-props-in-len4-clause-count : goal.walk_element-returns-in_ok-props-in-len4-clause-count
walk_element-returns-in_ok-props-in-len4-clause-count t c =
    let xs = c.args.items.now in
    let n = length c.args.out.now.items in
    let tag = data_of c.tag-item.result in
    let key = data_of c.key-item.result in
    let props = data_of c.props-item.result in
    let f = four xs c.tag-item.result c.key-item.result c.props-item.result c.in-len4.len_at_least c.in-len4.len_below c.tag-item.is c.key-item.is c.props-item.is in
    let one : count f.0 ≡ 1 = mark-count f.0 (sym (ap is_marked f.1) ∙ c.requires) in
    let total : item_count (items_data xs) ≡ count f.0 + (count tag + (count key + (count props + 0))) = ap item_count f.1 in
    let opened : length c.push.new.out.items ≡ n + 1 = ap length c.in_ok-number-in-len4.ensures.ok ∙ length-append c.args.out.now.items (c.unfinished.result ∷ []) in
    let marked : length c.push_mark.new.out.items ≡ length c.push.new.out.items + 1 = c.in_ok-push_mark-in-len4.ensures.count in
    let first : length c.walk.new.out.items ≡ length c.push_mark.new.out.items + count tag = c.in_ok-tag-in-len4.ensures.count in
    let second : length c.walk-in-len4.new.out.items ≡ length c.walk.new.out.items + count key = c.in_ok-key-in-len4.ensures.count in
    let third : length c.walk-in-len4-2.new.out.items ≡ length c.walk-in-len4.new.out.items + count props = c.in_ok-props-in-len4.ensures.count in
    let last : length c.put.new.out.items ≡ length c.walk-in-len4-2.new.out.items = ap length c.put.ensures ∙ length-set c.walk-in-len4-2.new.out.items c.in_ok-number-in-len4.number (Element c.in_ok-tag-in-len4.tag c.in_ok-key-in-len4.key c.in_ok-props-in-len4.props) in
    omega (arith, one, total, opened, marked, first, second, third, last)

pub walk_element-returns-in_ok-next_number-in_default-clause-err : goal.walk_element-returns-in_ok-next_number-in_default-clause-err
walk_element-returns-in_ok-next_number-in_default-clause-err t c =
    let xs = c.args.items.now in
    let n = length c.args.out.now.items in
    let at = c.in_ok-next_number-in_default.field-0 in
    let same : at ≡ n = c.in_ok-next_number-in_default.ensures.ok ∙ ap length c.as_slice.ensures.value in
    elim c.in_default.branch [
      | walk_element-in_default-via-then-items-lt4 w ↦
          let few : length xs < 4 = let known = w in grind arith in
          not-element c.args.manner n at (items_data xs) (fewer xs few) same
      | walk_element-in_default-via-in-len4+else-may_be_key w ↦
          let f = four xs w.tag-item.result w.key-item.result w.props-item.result w.in-len4.len_at_least w.in-len4.len_below w.tag-item.is w.key-item.is w.props-item.is in
          let key : is_key (data_of w.key-item.result) ≡ false = false_from_ne_true (is_key (data_of w.key-item.result)) (λ e. false≢true (w.if-may_be_key.ensures.1 e)) in
          not-element c.args.manner n at (items_data xs) (ap is_element f.1 ∙ key) same
      | walk_element-in_default-via-else-items-lt4+else-items-lt5 w ↦
          let many : 5 ≤ length xs = let known = w in grind arith in
          not-element c.args.manner n at (items_data xs) (more xs many) same
    ]

pub walk-returns-in-Object-clause-adds : goal.walk-returns-in-Object-clause-adds
walk-returns-in-Object-clause-adds t c =
    let start = c.args.out.now.items in
    let seen : data_of c.args.value.now ≡ object (members_data c.deref-in-Object.result.now) = ap data_of c.in-Object.is ∙ (data-Object c.in-Object.members ∙ ap (λ xs. object (members_data xs)) (sym c.deref-in-Object.ensures.value)) in
    subst (λ d. OnOk c.walk_object.result (Adds c.args.manner start c.walk_object.new.out.items (visits c.args.manner (length start) d))) (sym seen) c.walk_object.ensures.adds

pub walk-returns-in-Object-clause-count : goal.walk-returns-in-Object-clause-count
walk-returns-in-Object-clause-count t c =
    let seen : data_of c.args.value.now ≡ object (members_data c.deref-in-Object.result.now) = ap data_of c.in-Object.is ∙ (data-Object c.in-Object.members ∙ ap (λ xs. object (members_data xs)) (sym c.deref-in-Object.ensures.value)) in
    subst (λ d. OnOk c.walk_object.result (length c.walk_object.new.out.items ≡ length c.args.out.now.items + count d)) (sym seen) (subst (λ m. OnOk c.walk_object.result (length c.walk_object.new.out.items ≡ m)) (omega arith) c.walk_object.ensures.count)
