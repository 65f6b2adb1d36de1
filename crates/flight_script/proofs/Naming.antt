-- The names in a program, one after another.
use Rattle.std.proofs.Common.{◌≡◌, ℕ, List, [], ◌∷◌, ◌++◌, refl, sym, ◌∙◌, ap, subst, append_assoc, append-nil}
use Rattle.std.specs.Prelude.{Result, Ok, Err, OnOk, IfErr}
use Rattle.flight_script.specs.declared.fault.ScriptFault.{ScriptFault}
use Rattle.flight_syntax.specs.Term.{Term, Post, named, indexed, posted, member, index}
use Rattle.flight_script.specs.Program.{Named, names_in, names_in_posts, named_test, named_tests}
use Rattle.flight_script.specs.Tests.{Test, AllPass, Refuses}
use Rattle.flight_script.proofs.Passing.{all_behind, refuses_front, refuses_behind, Passed, passed_on, passed_refuses}

pub named-append : (sources streams : List (List ℕ)) (ns ms : List Named) → named_tests sources streams (ns ++ ms) ≡ named_tests sources streams ns ++ named_tests sources streams ms
named-append sources streams [] ms = refl
named-append sources streams (n ∷ ns) ms = ap (λ ts. named_test sources streams n ∷ ts) (named-append sources streams ns ms)

pub both_pass : (sources streams : List (List ℕ)) (ns ms : List Named) → AllPass (named_tests sources streams ns) → AllPass (named_tests sources streams ms) → AllPass (named_tests sources streams (ns ++ ms))
both_pass sources streams ns ms h k = subst AllPass (sym (named-append sources streams ns ms)) (all_behind (named_tests sources streams ns) (named_tests sources streams ms) h k)

pub first_refuses : (sources streams : List (List ℕ)) (ns ms : List Named) (e : ScriptFault) → Refuses (named_tests sources streams ns) e → Refuses (named_tests sources streams (ns ++ ms)) e
first_refuses sources streams ns ms e h = subst (λ ts. Refuses ts e) (sym (named-append sources streams ns ms)) (refuses_front (named_tests sources streams ns) (named_tests sources streams ms) e h)

pub second_refuses : (sources streams : List (List ℕ)) (ns ms : List Named) (e : ScriptFault) → AllPass (named_tests sources streams ns) → Refuses (named_tests sources streams ms) e → Refuses (named_tests sources streams (ns ++ ms)) e
second_refuses sources streams ns ms e h k =
    subst (λ ts. Refuses ts e) (sym (named-append sources streams ns ms)) (refuses_behind (named_tests sources streams ns) (named_tests sources streams ms) e h k)

-- ---- names that are those of two parts

pub refuses_first : (sources streams : List (List ℕ)) (all ns ms : List Named) (e : ScriptFault) → all ≡ ns ++ ms → Refuses (named_tests sources streams ns) e → Refuses (named_tests sources streams all) e
refuses_first sources streams all ns ms e is h = subst (λ xs. Refuses (named_tests sources streams xs) e) (sym is) (first_refuses sources streams ns ms e h)

pub refuses_second : (sources streams : List (List ℕ)) (all ns ms : List Named) (e : ScriptFault) → all ≡ ns ++ ms → AllPass (named_tests sources streams ns) → Refuses (named_tests sources streams ms) e → Refuses (named_tests sources streams all) e
refuses_second sources streams all ns ms e is h k = subst (λ xs. Refuses (named_tests sources streams xs) e) (sym is) (second_refuses sources streams ns ms e h k)

pub pass_last : {X : Type 0} (sources streams : List (List ℕ)) (all ns ms : List Named) (r : Result X ScriptFault) → all ≡ ns ++ ms → AllPass (named_tests sources streams ns) → OnOk r (AllPass (named_tests sources streams ms)) → OnOk r (AllPass (named_tests sources streams all))
pass_last sources streams all ns ms (Ok x) is h k = subst (λ xs. AllPass (named_tests sources streams xs)) (sym is) (both_pass sources streams ns ms h k)
pass_last sources streams all ns ms (Err e) is h k = tt

pub err_last : {X : Type 0} (sources streams : List (List ℕ)) (all ns ms : List Named) (r : Result X ScriptFault) → all ≡ ns ++ ms → AllPass (named_tests sources streams ns) → IfErr r (Refuses (named_tests sources streams ms)) → IfErr r (Refuses (named_tests sources streams all))
err_last sources streams all ns ms (Ok x) is h k = tt
err_last sources streams all ns ms (Err e) is h k = refuses_second sources streams all ns ms e is h k

-- ---- an expression with its postfixes

pub names_posted : (t : Term) (ps : List Post) → names_in (posted t ps) ≡ names_in t ++ names_in_posts ps
names_posted t [] = sym (append-nil (names_in t))
names_posted t (named n ∷ ps) = names_posted (member t n) ps
names_posted t (indexed i ∷ ps) = names_posted (index t i) ps ∙ append_assoc (names_in t) (names_in i) (names_in_posts ps)

-- ---- names that are left

pub named_on : (sources streams : List (List ℕ)) (all : List Test) (left ns ms : List Named) → Passed all (named_tests sources streams left) → left ≡ ns ++ ms → AllPass (named_tests sources streams ns) → Passed all (named_tests sources streams ms)
named_on sources streams all left ns ms p is h =
    passed_on all (named_tests sources streams ns) (named_tests sources streams ms) (subst (Passed all) (ap (named_tests sources streams) is ∙ named-append sources streams ns ms) p) h

pub named_refuses : (sources streams : List (List ℕ)) (all : List Test) (left ns ms : List Named) (e : ScriptFault) → Passed all (named_tests sources streams left) → left ≡ ns ++ ms → Refuses (named_tests sources streams ns) e → Refuses all e
named_refuses sources streams all left ns ms e p is h =
    passed_refuses all (named_tests sources streams ns) (named_tests sources streams ms) e (subst (Passed all) (ap (named_tests sources streams) is ∙ named-append sources streams ns ms) p) h
