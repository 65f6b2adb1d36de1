use Rattle.std.proofs.Common.{map, drop, ◌+◌, ◌++◌, subst, ◌≡◌, ◌∙◌, ap, refl, OnOk, IfErr}
use Rattle.std.proofs.lemmas.Result.{err_from_is_err_and}
use Rattle.flight_syntax.specs.Term.{term, prop, pair, post, terms_of, props_of, pairs_of}
use Rattle.flight_syntax.proofs.Terms.{term-Let, term-If, term-For, term-Postfixed, term-Binary, term-Element, prop-value, pair-value}
use Rattle.flight_script.specs.Program.{names_in, names_in_terms, names_in_props, names_in_pairs, names_in_post, names_in_posts, named_tests}
use Rattle.flight_script.specs.Tests.{AllPass, Refuses}
use Rattle.flight_script.proofs.Built.{map_drop}
use Rattle.flight_script.proofs.Naming.{first_refuses, refuses_first, refuses_second, pass_last, err_last, named_on, named_refuses, names_posted}
use Rattle.flight_script.proofs.named.+check.Goals as goal

pub check-returns-in_err-check-in-Let-clause-err : goal.check-returns-in_err-check-in-Let-clause-err
check-returns-in_err-check-in-Let-clause-err t c =
    let p = err_from_is_err_and c.from_residual.result c.from_residual.ensures.1 in
    let ss = map (λ n. n.now) c.args.sources.now in
    let ts = map (λ n. n.now) c.args.streams.now in
    let e = c.in_err-check-in-Let.field-0.0 in
    let is : names_in (term c.args.expr.now) ≡ names_in (term c.in-Let.value) ++ names_in (term c.in-Let.then) = ap (λ x. names_in (term x)) c.in-Let.is ∙ ap names_in (term-Let c.in-Let.name c.in-Let.value c.in-Let.then) in
    let refused = subst (λ x. Refuses (named_tests ss ts (names_in (term x))) e) c.get.ensures c.in_err-check-in-Let.ensures.err in
    rw (p.1, p.2) (refuses_first ss ts (names_in (term c.args.expr.now)) (names_in (term c.in-Let.value)) (names_in (term c.in-Let.then)) e is refused)

pub check-returns-in_ok-check-in-Let-clause-pass : goal.check-returns-in_ok-check-in-Let-clause-pass
check-returns-in_ok-check-in-Let-clause-pass t c =
    let ss = map (λ n. n.now) c.args.sources.now in
    let ts = map (λ n. n.now) c.args.streams.now in
    let is : names_in (term c.args.expr.now) ≡ names_in (term c.in-Let.value) ++ names_in (term c.in-Let.then) = ap (λ x. names_in (term x)) c.in-Let.is ∙ ap names_in (term-Let c.in-Let.name c.in-Let.value c.in-Let.then) in
    let first = subst (λ x. AllPass (named_tests ss ts (names_in (term x)))) c.get.ensures c.in_ok-check-in-Let.ensures.pass in
    let second = subst (λ x. OnOk c.check-in-Let.result (AllPass (named_tests ss ts (names_in (term x))))) c.get-in-Let.ensures c.check-in-Let.ensures.pass in
    pass_last ss ts (names_in (term c.args.expr.now)) (names_in (term c.in-Let.value)) (names_in (term c.in-Let.then)) c.check-in-Let.result is first second

pub check-returns-in_ok-check-in-Let-clause-err : goal.check-returns-in_ok-check-in-Let-clause-err
check-returns-in_ok-check-in-Let-clause-err t c =
    let ss = map (λ n. n.now) c.args.sources.now in
    let ts = map (λ n. n.now) c.args.streams.now in
    let is : names_in (term c.args.expr.now) ≡ names_in (term c.in-Let.value) ++ names_in (term c.in-Let.then) = ap (λ x. names_in (term x)) c.in-Let.is ∙ ap names_in (term-Let c.in-Let.name c.in-Let.value c.in-Let.then) in
    let first = subst (λ x. AllPass (named_tests ss ts (names_in (term x)))) c.get.ensures c.in_ok-check-in-Let.ensures.pass in
    let second = subst (λ x. IfErr c.check-in-Let.result (Refuses (named_tests ss ts (names_in (term x))))) c.get-in-Let.ensures c.check-in-Let.ensures.err in
    err_last ss ts (names_in (term c.args.expr.now)) (names_in (term c.in-Let.value)) (names_in (term c.in-Let.then)) c.check-in-Let.result is first second

pub check-returns-in_err-check-in-For-clause-err : goal.check-returns-in_err-check-in-For-clause-err
check-returns-in_err-check-in-For-clause-err t c =
    let p = err_from_is_err_and c.from_residual-in_err-check-in-For.result c.from_residual-in_err-check-in-For.ensures.1 in
    let ss = map (λ n. n.now) c.args.sources.now in
    let ts = map (λ n. n.now) c.args.streams.now in
    let e = c.in_err-check-in-For.field-0.0 in
    let is : names_in (term c.args.expr.now) ≡ names_in (term c.in-For.over) ++ names_in (term c.in-For.give) = ap (λ x. names_in (term x)) c.in-For.is ∙ ap names_in (term-For c.in-For.name c.in-For.over c.in-For.give) in
    let refused = subst (λ x. Refuses (named_tests ss ts (names_in (term x))) e) c.get-in-For.ensures c.in_err-check-in-For.ensures.err in
    rw (p.1, p.2) (refuses_first ss ts (names_in (term c.args.expr.now)) (names_in (term c.in-For.over)) (names_in (term c.in-For.give)) e is refused)

pub check-returns-in_ok-check-in-For-clause-pass : goal.check-returns-in_ok-check-in-For-clause-pass
check-returns-in_ok-check-in-For-clause-pass t c =
    let ss = map (λ n. n.now) c.args.sources.now in
    let ts = map (λ n. n.now) c.args.streams.now in
    let is : names_in (term c.args.expr.now) ≡ names_in (term c.in-For.over) ++ names_in (term c.in-For.give) = ap (λ x. names_in (term x)) c.in-For.is ∙ ap names_in (term-For c.in-For.name c.in-For.over c.in-For.give) in
    let first = subst (λ x. AllPass (named_tests ss ts (names_in (term x)))) c.get-in-For.ensures c.in_ok-check-in-For.ensures.pass in
    let second = subst (λ x. OnOk c.check-in-For-2.result (AllPass (named_tests ss ts (names_in (term x))))) c.get-in-For-2.ensures c.check-in-For-2.ensures.pass in
    pass_last ss ts (names_in (term c.args.expr.now)) (names_in (term c.in-For.over)) (names_in (term c.in-For.give)) c.check-in-For-2.result is first second

pub check-returns-in_ok-check-in-For-clause-err : goal.check-returns-in_ok-check-in-For-clause-err
check-returns-in_ok-check-in-For-clause-err t c =
    let ss = map (λ n. n.now) c.args.sources.now in
    let ts = map (λ n. n.now) c.args.streams.now in
    let is : names_in (term c.args.expr.now) ≡ names_in (term c.in-For.over) ++ names_in (term c.in-For.give) = ap (λ x. names_in (term x)) c.in-For.is ∙ ap names_in (term-For c.in-For.name c.in-For.over c.in-For.give) in
    let first = subst (λ x. AllPass (named_tests ss ts (names_in (term x)))) c.get-in-For.ensures c.in_ok-check-in-For.ensures.pass in
    let second = subst (λ x. IfErr c.check-in-For-2.result (Refuses (named_tests ss ts (names_in (term x))))) c.get-in-For-2.ensures c.check-in-For-2.ensures.err in
    err_last ss ts (names_in (term c.args.expr.now)) (names_in (term c.in-For.over)) (names_in (term c.in-For.give)) c.check-in-For-2.result is first second

pub check-returns-in_err-check-in-Postfixed-clause-err : goal.check-returns-in_err-check-in-Postfixed-clause-err
check-returns-in_err-check-in-Postfixed-clause-err t c =
    let p = err_from_is_err_and c.from_residual-in_err-check-in-Postfixed.result c.from_residual-in_err-check-in-Postfixed.ensures.1 in
    let ss = map (λ n. n.now) c.args.sources.now in
    let ts = map (λ n. n.now) c.args.streams.now in
    let e = c.in_err-check-in-Postfixed.field-0.0 in
    let is : names_in (term c.args.expr.now) ≡ names_in (term c.in-Postfixed.of) ++ names_in_posts (map post c.in-Postfixed.postfixes) = ap (λ x. names_in (term x)) c.in-Postfixed.is ∙ (ap names_in (term-Postfixed c.in-Postfixed.of c.in-Postfixed.postfixes) ∙ names_posted (term c.in-Postfixed.of) (map post c.in-Postfixed.postfixes)) in
    let refused = subst (λ x. Refuses (named_tests ss ts (names_in (term x))) e) c.get-in-Postfixed.ensures c.in_err-check-in-Postfixed.ensures.err in
    rw (p.1, p.2) (refuses_first ss ts (names_in (term c.args.expr.now)) (names_in (term c.in-Postfixed.of)) (names_in_posts (map post c.in-Postfixed.postfixes)) e is refused)

pub check-returns-in_ok-check-in-Postfixed-clause-pass : goal.check-returns-in_ok-check-in-Postfixed-clause-pass
check-returns-in_ok-check-in-Postfixed-clause-pass t c =
    let ss = map (λ n. n.now) c.args.sources.now in
    let ts = map (λ n. n.now) c.args.streams.now in
    let is : names_in (term c.args.expr.now) ≡ names_in (term c.in-Postfixed.of) ++ names_in_posts (map post c.in-Postfixed.postfixes) = ap (λ x. names_in (term x)) c.in-Postfixed.is ∙ (ap names_in (term-Postfixed c.in-Postfixed.of c.in-Postfixed.postfixes) ∙ names_posted (term c.in-Postfixed.of) (map post c.in-Postfixed.postfixes)) in
    let first = subst (λ x. AllPass (named_tests ss ts (names_in (term x)))) c.get-in-Postfixed.ensures c.in_ok-check-in-Postfixed.ensures.pass in
    let second = subst (λ xs. OnOk c.check_postfixes.result (AllPass (named_tests ss ts (names_in_posts (map post xs))))) c.as_slice.ensures c.check_postfixes.ensures.pass in
    pass_last ss ts (names_in (term c.args.expr.now)) (names_in (term c.in-Postfixed.of)) (names_in_posts (map post c.in-Postfixed.postfixes)) c.check_postfixes.result is first second

pub check-returns-in_ok-check-in-Postfixed-clause-err : goal.check-returns-in_ok-check-in-Postfixed-clause-err
check-returns-in_ok-check-in-Postfixed-clause-err t c =
    let ss = map (λ n. n.now) c.args.sources.now in
    let ts = map (λ n. n.now) c.args.streams.now in
    let is : names_in (term c.args.expr.now) ≡ names_in (term c.in-Postfixed.of) ++ names_in_posts (map post c.in-Postfixed.postfixes) = ap (λ x. names_in (term x)) c.in-Postfixed.is ∙ (ap names_in (term-Postfixed c.in-Postfixed.of c.in-Postfixed.postfixes) ∙ names_posted (term c.in-Postfixed.of) (map post c.in-Postfixed.postfixes)) in
    let first = subst (λ x. AllPass (named_tests ss ts (names_in (term x)))) c.get-in-Postfixed.ensures c.in_ok-check-in-Postfixed.ensures.pass in
    let second = subst (λ xs. IfErr c.check_postfixes.result (Refuses (named_tests ss ts (names_in_posts (map post xs))))) c.as_slice.ensures c.check_postfixes.ensures.err in
    err_last ss ts (names_in (term c.args.expr.now)) (names_in (term c.in-Postfixed.of)) (names_in_posts (map post c.in-Postfixed.postfixes)) c.check_postfixes.result is first second

pub check-returns-in_err-check-in-Binary-clause-err : goal.check-returns-in_err-check-in-Binary-clause-err
check-returns-in_err-check-in-Binary-clause-err t c =
    let p = err_from_is_err_and c.from_residual-in_err-check-in-Binary.result c.from_residual-in_err-check-in-Binary.ensures.1 in
    let ss = map (λ n. n.now) c.args.sources.now in
    let ts = map (λ n. n.now) c.args.streams.now in
    let e = c.in_err-check-in-Binary.field-0.0 in
    let is : names_in (term c.args.expr.now) ≡ names_in (term c.in-Binary.left) ++ names_in (term c.in-Binary.right) = ap (λ x. names_in (term x)) c.in-Binary.is ∙ ap names_in (term-Binary c.in-Binary.op c.in-Binary.left c.in-Binary.right) in
    let refused = subst (λ x. Refuses (named_tests ss ts (names_in (term x))) e) c.get-in-Binary.ensures c.in_err-check-in-Binary.ensures.err in
    rw (p.1, p.2) (refuses_first ss ts (names_in (term c.args.expr.now)) (names_in (term c.in-Binary.left)) (names_in (term c.in-Binary.right)) e is refused)

pub check-returns-in_ok-check-in-Binary-clause-pass : goal.check-returns-in_ok-check-in-Binary-clause-pass
check-returns-in_ok-check-in-Binary-clause-pass t c =
    let ss = map (λ n. n.now) c.args.sources.now in
    let ts = map (λ n. n.now) c.args.streams.now in
    let is : names_in (term c.args.expr.now) ≡ names_in (term c.in-Binary.left) ++ names_in (term c.in-Binary.right) = ap (λ x. names_in (term x)) c.in-Binary.is ∙ ap names_in (term-Binary c.in-Binary.op c.in-Binary.left c.in-Binary.right) in
    let first = subst (λ x. AllPass (named_tests ss ts (names_in (term x)))) c.get-in-Binary.ensures c.in_ok-check-in-Binary.ensures.pass in
    let second = subst (λ x. OnOk c.check-in-Binary-2.result (AllPass (named_tests ss ts (names_in (term x))))) c.get-in-Binary-2.ensures c.check-in-Binary-2.ensures.pass in
    pass_last ss ts (names_in (term c.args.expr.now)) (names_in (term c.in-Binary.left)) (names_in (term c.in-Binary.right)) c.check-in-Binary-2.result is first second

pub check-returns-in_ok-check-in-Binary-clause-err : goal.check-returns-in_ok-check-in-Binary-clause-err
check-returns-in_ok-check-in-Binary-clause-err t c =
    let ss = map (λ n. n.now) c.args.sources.now in
    let ts = map (λ n. n.now) c.args.streams.now in
    let is : names_in (term c.args.expr.now) ≡ names_in (term c.in-Binary.left) ++ names_in (term c.in-Binary.right) = ap (λ x. names_in (term x)) c.in-Binary.is ∙ ap names_in (term-Binary c.in-Binary.op c.in-Binary.left c.in-Binary.right) in
    let first = subst (λ x. AllPass (named_tests ss ts (names_in (term x)))) c.get-in-Binary.ensures c.in_ok-check-in-Binary.ensures.pass in
    let second = subst (λ x. IfErr c.check-in-Binary-2.result (Refuses (named_tests ss ts (names_in (term x))))) c.get-in-Binary-2.ensures c.check-in-Binary-2.ensures.err in
    err_last ss ts (names_in (term c.args.expr.now)) (names_in (term c.in-Binary.left)) (names_in (term c.in-Binary.right)) c.check-in-Binary-2.result is first second

pub check-returns-in_err-check-in-If-clause-err : goal.check-returns-in_err-check-in-If-clause-err
check-returns-in_err-check-in-If-clause-err t c =
    let p = err_from_is_err_and c.from_residual-in_err-check-in-If.result c.from_residual-in_err-check-in-If.ensures.1 in
    let ss = map (λ n. n.now) c.args.sources.now in
    let ts = map (λ n. n.now) c.args.streams.now in
    let e = c.in_err-check-in-If.field-0.0 in
    let is : names_in (term c.args.expr.now) ≡ names_in (term c.in-If.test) ++ (names_in (term c.in-If.yes) ++ names_in (term c.in-If.no)) = ap (λ x. names_in (term x)) c.in-If.is ∙ ap names_in (term-If c.in-If.test c.in-If.yes c.in-If.no) in
    let refused = subst (λ x. Refuses (named_tests ss ts (names_in (term x))) e) c.get-in-If.ensures c.in_err-check-in-If.ensures.err in
    rw (p.1, p.2) (refuses_first ss ts (names_in (term c.args.expr.now)) (names_in (term c.in-If.test)) (names_in (term c.in-If.yes) ++ names_in (term c.in-If.no)) e is refused)

pub check-returns-in_err-check-in-If-2-clause-err : goal.check-returns-in_err-check-in-If-2-clause-err
check-returns-in_err-check-in-If-2-clause-err t c =
    let p = err_from_is_err_and c.from_residual-in_err-check-in-If-2.result c.from_residual-in_err-check-in-If-2.ensures.1 in
    let ss = map (λ n. n.now) c.args.sources.now in
    let ts = map (λ n. n.now) c.args.streams.now in
    let e = c.in_err-check-in-If-2.field-0.0 in
    let is : names_in (term c.args.expr.now) ≡ names_in (term c.in-If.test) ++ (names_in (term c.in-If.yes) ++ names_in (term c.in-If.no)) = ap (λ x. names_in (term x)) c.in-If.is ∙ ap names_in (term-If c.in-If.test c.in-If.yes c.in-If.no) in
    let first = subst (λ x. AllPass (named_tests ss ts (names_in (term x)))) c.get-in-If.ensures c.in_ok-check-in-If.ensures.pass in
    let refused = subst (λ x. Refuses (named_tests ss ts (names_in (term x))) e) c.get-in-If-2.ensures c.in_err-check-in-If-2.ensures.err in
    rw (p.1, p.2) (refuses_second ss ts (names_in (term c.args.expr.now)) (names_in (term c.in-If.test)) (names_in (term c.in-If.yes) ++ names_in (term c.in-If.no)) e is first (first_refuses ss ts (names_in (term c.in-If.yes)) (names_in (term c.in-If.no)) e refused))

pub check-returns-in_ok-check-in-If-2-clause-pass : goal.check-returns-in_ok-check-in-If-2-clause-pass
check-returns-in_ok-check-in-If-2-clause-pass t c =
    let ss = map (λ n. n.now) c.args.sources.now in
    let ts = map (λ n. n.now) c.args.streams.now in
    let is : names_in (term c.args.expr.now) ≡ names_in (term c.in-If.test) ++ (names_in (term c.in-If.yes) ++ names_in (term c.in-If.no)) = ap (λ x. names_in (term x)) c.in-If.is ∙ ap names_in (term-If c.in-If.test c.in-If.yes c.in-If.no) in
    let first = subst (λ x. AllPass (named_tests ss ts (names_in (term x)))) c.get-in-If.ensures c.in_ok-check-in-If.ensures.pass in
    let second = subst (λ x. AllPass (named_tests ss ts (names_in (term x)))) c.get-in-If-2.ensures c.in_ok-check-in-If-2.ensures.pass in
    let third = subst (λ x. OnOk c.check-in-If-3.result (AllPass (named_tests ss ts (names_in (term x))))) c.get-in-If-3.ensures c.check-in-If-3.ensures.pass in
    pass_last ss ts (names_in (term c.args.expr.now)) (names_in (term c.in-If.test)) (names_in (term c.in-If.yes) ++ names_in (term c.in-If.no)) c.check-in-If-3.result is first (pass_last ss ts (names_in (term c.in-If.yes) ++ names_in (term c.in-If.no)) (names_in (term c.in-If.yes)) (names_in (term c.in-If.no)) c.check-in-If-3.result refl second third)

pub check-returns-in_ok-check-in-If-2-clause-err : goal.check-returns-in_ok-check-in-If-2-clause-err
check-returns-in_ok-check-in-If-2-clause-err t c =
    let ss = map (λ n. n.now) c.args.sources.now in
    let ts = map (λ n. n.now) c.args.streams.now in
    let is : names_in (term c.args.expr.now) ≡ names_in (term c.in-If.test) ++ (names_in (term c.in-If.yes) ++ names_in (term c.in-If.no)) = ap (λ x. names_in (term x)) c.in-If.is ∙ ap names_in (term-If c.in-If.test c.in-If.yes c.in-If.no) in
    let first = subst (λ x. AllPass (named_tests ss ts (names_in (term x)))) c.get-in-If.ensures c.in_ok-check-in-If.ensures.pass in
    let second = subst (λ x. AllPass (named_tests ss ts (names_in (term x)))) c.get-in-If-2.ensures c.in_ok-check-in-If-2.ensures.pass in
    let third = subst (λ x. IfErr c.check-in-If-3.result (Refuses (named_tests ss ts (names_in (term x))))) c.get-in-If-3.ensures c.check-in-If-3.ensures.err in
    err_last ss ts (names_in (term c.args.expr.now)) (names_in (term c.in-If.test)) (names_in (term c.in-If.yes) ++ names_in (term c.in-If.no)) c.check-in-If-3.result is first (err_last ss ts (names_in (term c.in-If.yes) ++ names_in (term c.in-If.no)) (names_in (term c.in-If.yes)) (names_in (term c.in-If.no)) c.check-in-If-3.result refl second third)

pub check-returns-in_err-check_props-in-Element-clause-err : goal.check-returns-in_err-check_props-in-Element-clause-err
check-returns-in_err-check_props-in-Element-clause-err t c =
    let p = err_from_is_err_and c.from_residual-in_err-check_props-in-Element.result c.from_residual-in_err-check_props-in-Element.ensures.1 in
    let ss = map (λ n. n.now) c.args.sources.now in
    let ts = map (λ n. n.now) c.args.streams.now in
    let e = c.in_err-check_props-in-Element.field-0.0 in
    let is : names_in (term c.args.expr.now) ≡ names_in_props (props_of (map prop c.in-Element.attrs)) ++ names_in_terms (terms_of (map term c.in-Element.children)) = ap (λ x. names_in (term x)) c.in-Element.is ∙ ap names_in (term-Element c.in-Element.tag c.in-Element.attrs c.in-Element.children) in
    let refused = subst (λ xs. Refuses (named_tests ss ts (names_in_props (props_of (map prop xs)))) e) c.as_slice-in-Element.ensures c.in_err-check_props-in-Element.ensures.err in
    rw (p.1, p.2) (refuses_first ss ts (names_in (term c.args.expr.now)) (names_in_props (props_of (map prop c.in-Element.attrs))) (names_in_terms (terms_of (map term c.in-Element.children))) e is refused)

pub check-returns-in_ok-check_props-in-Element-clause-pass : goal.check-returns-in_ok-check_props-in-Element-clause-pass
check-returns-in_ok-check_props-in-Element-clause-pass t c =
    let ss = map (λ n. n.now) c.args.sources.now in
    let ts = map (λ n. n.now) c.args.streams.now in
    let is : names_in (term c.args.expr.now) ≡ names_in_props (props_of (map prop c.in-Element.attrs)) ++ names_in_terms (terms_of (map term c.in-Element.children)) = ap (λ x. names_in (term x)) c.in-Element.is ∙ ap names_in (term-Element c.in-Element.tag c.in-Element.attrs c.in-Element.children) in
    let first = subst (λ xs. AllPass (named_tests ss ts (names_in_props (props_of (map prop xs))))) c.as_slice-in-Element.ensures c.in_ok-check_props-in-Element.ensures.pass in
    let second = subst (λ xs. OnOk c.check_items-in-Element.result (AllPass (named_tests ss ts (names_in_terms (terms_of (map term xs)))))) c.as_slice-in-Element-2.ensures c.check_items-in-Element.ensures.pass in
    pass_last ss ts (names_in (term c.args.expr.now)) (names_in_props (props_of (map prop c.in-Element.attrs))) (names_in_terms (terms_of (map term c.in-Element.children))) c.check_items-in-Element.result is first second

pub check-returns-in_ok-check_props-in-Element-clause-err : goal.check-returns-in_ok-check_props-in-Element-clause-err
check-returns-in_ok-check_props-in-Element-clause-err t c =
    let ss = map (λ n. n.now) c.args.sources.now in
    let ts = map (λ n. n.now) c.args.streams.now in
    let is : names_in (term c.args.expr.now) ≡ names_in_props (props_of (map prop c.in-Element.attrs)) ++ names_in_terms (terms_of (map term c.in-Element.children)) = ap (λ x. names_in (term x)) c.in-Element.is ∙ ap names_in (term-Element c.in-Element.tag c.in-Element.attrs c.in-Element.children) in
    let first = subst (λ xs. AllPass (named_tests ss ts (names_in_props (props_of (map prop xs))))) c.as_slice-in-Element.ensures c.in_ok-check_props-in-Element.ensures.pass in
    let second = subst (λ xs. IfErr c.check_items-in-Element.result (Refuses (named_tests ss ts (names_in_terms (terms_of (map term xs)))))) c.as_slice-in-Element-2.ensures c.check_items-in-Element.ensures.err in
    err_last ss ts (names_in (term c.args.expr.now)) (names_in_props (props_of (map prop c.in-Element.attrs))) (names_in_terms (terms_of (map term c.in-Element.children))) c.check_items-in-Element.result is first second

pub check_items-loop-item-preserved : goal.check_items-loop-item-preserved
check_items-loop-item-preserved t c =
    let ss = map (λ n. n.now) c.args.sources.now in
    let ts = map (λ n. n.now) c.args.streams.now in
    let l = c.loop-item in
    let xs = c.args.items.now in
    let i = l.item-index in
    let v = c.item-item.result in
    let rest = names_in_terms (terms_of (map term (drop (i + 1) xs))) in
    let left = names_in_terms (terms_of (map term (drop i xs))) in
    let all = named_tests ss ts (names_in_terms (terms_of (map term xs))) in
    let more = ap (λ ys. names_in_terms (terms_of ys)) (map_drop term xs i v c.loop-item-test.true c.item-item.is) in
    named_on ss ts all left (names_in (term v)) rest l.invariant more c.in_ok-check.ensures.pass

pub check_items-returns-in_err-check-clause-err : goal.check_items-returns-in_err-check-clause-err
check_items-returns-in_err-check-clause-err t c =
    let p = err_from_is_err_and c.from_residual.result c.from_residual.ensures.1 in
    let ss = map (λ n. n.now) c.args.sources.now in
    let ts = map (λ n. n.now) c.args.streams.now in
    let l = c.loop-item in
    let xs = c.args.items.now in
    let i = l.item-index in
    let v = c.item-item.result in
    let rest = names_in_terms (terms_of (map term (drop (i + 1) xs))) in
    let left = names_in_terms (terms_of (map term (drop i xs))) in
    let all = named_tests ss ts (names_in_terms (terms_of (map term xs))) in
    let more = ap (λ ys. names_in_terms (terms_of ys)) (map_drop term xs i v c.loop-item-test.true c.item-item.is) in
    rw (p.1, p.2) (named_refuses ss ts all left (names_in (term v)) rest c.in_err-check.field-0.0 l.invariant more c.in_err-check.ensures.err)

pub check_postfixes-loop-postfix-preserved : goal.check_postfixes-loop-postfix-preserved
check_postfixes-loop-postfix-preserved t c =
    let ss = map (λ n. n.now) c.args.sources.now in
    let ts = map (λ n. n.now) c.args.streams.now in
    let l = c.loop-postfix in
    let xs = c.args.postfixes.now in
    let i = l.postfix-index in
    let v = c.postfix-item.result in
    let rest = names_in_posts (map post (drop (i + 1) xs)) in
    let left = names_in_posts (map post (drop i xs)) in
    let all = named_tests ss ts (names_in_posts (map post xs)) in
    let more = ap names_in_posts (map_drop post xs i v c.loop-postfix-test.true c.postfix-item.is) in
    named_on ss ts all left (names_in_post (post v)) rest l.invariant more c.in_ok-check_postfix.ensures.pass

pub check_postfixes-returns-in_err-check_postfix-clause-err : goal.check_postfixes-returns-in_err-check_postfix-clause-err
check_postfixes-returns-in_err-check_postfix-clause-err t c =
    let p = err_from_is_err_and c.from_residual.result c.from_residual.ensures.1 in
    let ss = map (λ n. n.now) c.args.sources.now in
    let ts = map (λ n. n.now) c.args.streams.now in
    let l = c.loop-postfix in
    let xs = c.args.postfixes.now in
    let i = l.postfix-index in
    let v = c.postfix-item.result in
    let rest = names_in_posts (map post (drop (i + 1) xs)) in
    let left = names_in_posts (map post (drop i xs)) in
    let all = named_tests ss ts (names_in_posts (map post xs)) in
    let more = ap names_in_posts (map_drop post xs i v c.loop-postfix-test.true c.postfix-item.is) in
    rw (p.1, p.2) (named_refuses ss ts all left (names_in_post (post v)) rest c.in_err-check_postfix.field-0.0 l.invariant more c.in_err-check_postfix.ensures.err)

pub check_props-loop-prop-preserved : goal.check_props-loop-prop-preserved
check_props-loop-prop-preserved t c =
    let ss = map (λ n. n.now) c.args.sources.now in
    let ts = map (λ n. n.now) c.args.streams.now in
    let l = c.loop-prop in
    let xs = c.args.props.now in
    let i = l.prop-index in
    let v = c.prop-item.result in
    let rest = names_in_props (props_of (map prop (drop (i + 1) xs))) in
    let left = names_in_props (props_of (map prop (drop i xs))) in
    let all = named_tests ss ts (names_in_props (props_of (map prop xs))) in
    let more = ap (λ ys. names_in_props (props_of ys)) (map_drop prop xs i v c.loop-prop-test.true c.prop-item.is) in
    let more_is : left ≡ names_in (term v.value) ++ rest = more ∙ ap (λ x. names_in x ++ rest) (ap (λ q. q.1) (prop-value v)) in
    named_on ss ts all left (names_in (term v.value)) rest l.invariant more_is c.in_ok-check.ensures.pass

pub check_props-returns-in_err-check-clause-err : goal.check_props-returns-in_err-check-clause-err
check_props-returns-in_err-check-clause-err t c =
    let p = err_from_is_err_and c.from_residual.result c.from_residual.ensures.1 in
    let ss = map (λ n. n.now) c.args.sources.now in
    let ts = map (λ n. n.now) c.args.streams.now in
    let l = c.loop-prop in
    let xs = c.args.props.now in
    let i = l.prop-index in
    let v = c.prop-item.result in
    let rest = names_in_props (props_of (map prop (drop (i + 1) xs))) in
    let left = names_in_props (props_of (map prop (drop i xs))) in
    let all = named_tests ss ts (names_in_props (props_of (map prop xs))) in
    let more = ap (λ ys. names_in_props (props_of ys)) (map_drop prop xs i v c.loop-prop-test.true c.prop-item.is) in
    let more_is : left ≡ names_in (term v.value) ++ rest = more ∙ ap (λ x. names_in x ++ rest) (ap (λ q. q.1) (prop-value v)) in
    rw (p.1, p.2) (named_refuses ss ts all left (names_in (term v.value)) rest c.in_err-check.field-0.0 l.invariant more_is c.in_err-check.ensures.err)

pub check_pairs-loop-pair-preserved : goal.check_pairs-loop-pair-preserved
check_pairs-loop-pair-preserved t c =
    let ss = map (λ n. n.now) c.args.sources.now in
    let ts = map (λ n. n.now) c.args.streams.now in
    let l = c.loop-pair in
    let xs = c.args.pairs.now in
    let i = l.pair-index in
    let v = c.pair-item.result in
    let rest = names_in_pairs (pairs_of (map pair (drop (i + 1) xs))) in
    let left = names_in_pairs (pairs_of (map pair (drop i xs))) in
    let all = named_tests ss ts (names_in_pairs (pairs_of (map pair xs))) in
    let more = ap (λ ys. names_in_pairs (pairs_of ys)) (map_drop pair xs i v c.loop-pair-test.true c.pair-item.is) in
    let more_is : left ≡ names_in (term v.key) ++ (names_in (term v.value) ++ rest) = more ∙ ap (λ q. names_in q.0 ++ (names_in q.1 ++ rest)) (pair-value v) in
    let keyed = named_on ss ts all left (names_in (term v.key)) (names_in (term v.value) ++ rest) l.invariant more_is c.in_ok-check.ensures.pass in
    named_on ss ts all (names_in (term v.value) ++ rest) (names_in (term v.value)) rest keyed refl c.in_ok-check-2.ensures.pass

pub check_pairs-returns-in_err-check-clause-err : goal.check_pairs-returns-in_err-check-clause-err
check_pairs-returns-in_err-check-clause-err t c =
    let p = err_from_is_err_and c.from_residual.result c.from_residual.ensures.1 in
    let ss = map (λ n. n.now) c.args.sources.now in
    let ts = map (λ n. n.now) c.args.streams.now in
    let l = c.loop-pair in
    let xs = c.args.pairs.now in
    let i = l.pair-index in
    let v = c.pair-item.result in
    let rest = names_in_pairs (pairs_of (map pair (drop (i + 1) xs))) in
    let left = names_in_pairs (pairs_of (map pair (drop i xs))) in
    let all = named_tests ss ts (names_in_pairs (pairs_of (map pair xs))) in
    let more = ap (λ ys. names_in_pairs (pairs_of ys)) (map_drop pair xs i v c.loop-pair-test.true c.pair-item.is) in
    let more_is : left ≡ names_in (term v.key) ++ (names_in (term v.value) ++ rest) = more ∙ ap (λ q. names_in q.0 ++ (names_in q.1 ++ rest)) (pair-value v) in
    rw (p.1, p.2) (named_refuses ss ts all left (names_in (term v.key)) (names_in (term v.value) ++ rest) c.in_err-check.field-0.0 l.invariant more_is c.in_err-check.ensures.err)

pub check_pairs-returns-in_err-check-2-clause-err : goal.check_pairs-returns-in_err-check-2-clause-err
check_pairs-returns-in_err-check-2-clause-err t c =
    let p = err_from_is_err_and c.from_residual-in_err-check-2.result c.from_residual-in_err-check-2.ensures.1 in
    let ss = map (λ n. n.now) c.args.sources.now in
    let ts = map (λ n. n.now) c.args.streams.now in
    let l = c.loop-pair in
    let xs = c.args.pairs.now in
    let i = l.pair-index in
    let v = c.pair-item.result in
    let rest = names_in_pairs (pairs_of (map pair (drop (i + 1) xs))) in
    let left = names_in_pairs (pairs_of (map pair (drop i xs))) in
    let all = named_tests ss ts (names_in_pairs (pairs_of (map pair xs))) in
    let more = ap (λ ys. names_in_pairs (pairs_of ys)) (map_drop pair xs i v c.loop-pair-test.true c.pair-item.is) in
    let more_is : left ≡ names_in (term v.key) ++ (names_in (term v.value) ++ rest) = more ∙ ap (λ q. names_in q.0 ++ (names_in q.1 ++ rest)) (pair-value v) in
    let keyed = named_on ss ts all left (names_in (term v.key)) (names_in (term v.value) ++ rest) l.invariant more_is c.in_ok-check.ensures.pass in
    rw (p.1, p.2) (named_refuses ss ts all (names_in (term v.value) ++ rest) (names_in (term v.value)) rest c.in_err-check-2.field-0.0 keyed refl c.in_err-check-2.ensures.err)
