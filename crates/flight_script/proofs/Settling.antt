-- The sources that are settled so far.
use Rattle.std.proofs.Common.{◌≡◌, ◌≢◌, ℕ, zero, suc, ◌+◌, ◌<◌, List, [], ◌∷◌, ◌++◌, length, drop, map, refl, sym, ◌∙◌, ap, subst, arith, append_assoc, append-nil, Some, Less, nat_cmp, true, false, Bool, slice_set, Bor}
use Rattle.std.proofs.lemmas.List.{drop_more}
use Rattle.std.specs.Prelude.{◌||◌, slice_get}
use Rattle.std.specs.Cmp.Lexicographic.{slice_cmp}
use Rattle.std.specs.List.{AllByRecursion}
use Rattle.std.specs.List.Sorted.{IsStrictlySortedBy}
use Rattle.std.specs.Str.{bytes_eq}
use Rattle.std.proofs.lemmas.Slice.Eq.{bytes_eq-Decides}
use Rattle.std.proofs.lemmas.Bool.{or_right}
use Rattle.serde_json.specs.Data.{Data}
use Rattle.flight_value.specs.Graph.{Ascend}
use Rattle.flight_script.specs.Json.{is_among, text}
use Rattle.flight_script.specs.Settlers.{marks, settle_tests, settled_tests}
use Rattle.flight_script.specs.Tests.{AllPass, Refuses}
use Rattle.flight_script.specs.declared.fault.ScriptFault.{ScriptFault}
use Rattle.flight_script.proofs.Marks.{some≢none}
use Rattle.flight_script.proofs.Finding.{equal_from_same, less≢equal, some_same}
use Rattle.flight_script.proofs.Passing.{Passed, passed_on, passed_refuses}

-- ---- one more mark

among_last : (xs : List (List ℕ)) (x : List ℕ) → is_among (xs ++ x ∷ []) x ≡ true
among_last [] x = rw ((bytes_eq-Decides x x).1 refl) refl
among_last (y ∷ xs) x = or_right (bytes_eq y x) (is_among (xs ++ x ∷ []) x) (among_last xs x)

not_same : (a b : List ℕ) (t : Bool) → bytes_eq a b ≡ t → (a ≢ b) → t ≡ false
not_same a b false e h = refl
not_same a b true e h = absurd (h ((bytes_eq-Decides a b).0 e))

among_other : (xs : List (List ℕ)) (x n : List ℕ) → x ≢ n → is_among (xs ++ x ∷ []) n ≡ is_among xs n
among_other [] x n h = rw (not_same x n (bytes_eq x n) refl h) refl
among_other (y ∷ xs) x n h = ap (λ b. bytes_eq y n || b) (among_other xs x n h)

pub apart : (a b : List ℕ) → slice_cmp nat_cmp a b ≡ Less → a ≢ b
apart a b less same = less≢equal (sym less ∙ equal_from_same a b same)

pub below_get : (n : List ℕ) (ns : List (List ℕ)) (i : ℕ) (x : List ℕ) → AllByRecursion (λ y. slice_cmp nat_cmp n y ≡ Less) ns → slice_get ns i ≡ Some x → slice_cmp nat_cmp n x ≡ Less
below_get n [] i x h e = absurd (some≢none x (sym e))
below_get n (m ∷ ns) zero x h e = subst (λ y. slice_cmp nat_cmp n y ≡ Less) (some_same m x e) h.0
below_get n (m ∷ ns) (suc i) x h e = below_get n ns i x h.1 e

marks_other : (ns earlier : List (List ℕ)) (x : List ℕ) → AllByRecursion (λ y. slice_cmp nat_cmp x y ≡ Less) ns → marks ns earlier ≡ marks ns (earlier ++ x ∷ [])
marks_other [] earlier x h = refl
marks_other (n ∷ ns) earlier x h = rw (among_other earlier x n (apart x n h.0)) (ap (λ bs. is_among earlier n ∷ bs) (marks_other ns earlier x h.1))

pub marks_set : (ns earlier : List (List ℕ)) (i : ℕ) (x : List ℕ) → Ascend ns → slice_get ns i ≡ Some x → slice_set (marks ns earlier) i true ≡ marks ns (earlier ++ x ∷ [])
unfolding IsStrictlySortedBy
marks_set [] earlier i x h e = absurd (some≢none x (sym e))
marks_set (n ∷ ns) earlier zero x h e =
    let same : n ≡ x = some_same n x e in
    let first : is_among (earlier ++ x ∷ []) n ≡ true = subst (λ m. is_among (earlier ++ x ∷ []) m ≡ true) (sym same) (among_last earlier x) in
    let rest = marks_other ns earlier x (subst (λ m. AllByRecursion (λ y. slice_cmp nat_cmp m y ≡ Less) ns) same h.0) in
    rw first (ap (λ bs. true ∷ bs) rest)
marks_set (n ∷ ns) earlier (suc i) x h e =
    let other : x ≢ n = λ same. apart n x (below_get n ns i x h.0 e) (sym same) in
    rw (among_other earlier x n other) (ap (λ bs. is_among earlier n ∷ bs) (marks_set ns earlier i x h.1 e))

-- ---- what is left to settle

pub record Settling (sources earlier : List (List ℕ)) (all rest : List Data) (settled : List Bool) : Type 0 where
  pub now : List (List ℕ)
  pub are_marks : settled ≡ marks sources now
  pub split : now ++ map text rest ≡ earlier ++ map text all
  pub passed : Passed (settled_tests sources earlier all) (settled_tests sources now rest)

pub settling_start : (sources earlier : List (List ℕ)) (all : List Data) (settled : List Bool) → settled ≡ marks sources earlier → Settling sources earlier all all settled
settling_start sources earlier all settled h = record { now = earlier; are_marks = h; split = refl; passed = record { done = []; split = refl; passed = tt } }

pub settling_on : (sources earlier : List (List ℕ)) (all rest : List Data) (d : Data) (settled new : List Bool)
    → Settling sources earlier all (d ∷ rest) settled
    → ((now : List (List ℕ)) → settled ≡ marks sources now → AllPass (settle_tests sources now (text d)))
    → ((now : List (List ℕ)) → settled ≡ marks sources now → new ≡ marks sources (now ++ text d ∷ []))
    → Settling sources earlier all rest new
settling_on sources earlier all rest d settled new s pass mark =
    record {
      now = s.now ++ text d ∷ [];
      are_marks = mark s.now s.are_marks;
      split = append_assoc s.now (text d ∷ []) (map text rest) ∙ s.split;
      passed = passed_on (settled_tests sources earlier all) (settle_tests sources s.now (text d)) (settled_tests sources (s.now ++ text d ∷ []) rest) s.passed (pass s.now s.are_marks);
    }

pub settling_refuses : (sources earlier : List (List ℕ)) (all rest : List Data) (d : Data) (settled : List Bool) (e : ScriptFault)
    → Settling sources earlier all (d ∷ rest) settled
    → ((now : List (List ℕ)) → settled ≡ marks sources now → Refuses (settle_tests sources now (text d)) e)
    → Refuses (settled_tests sources earlier all) e
settling_refuses sources earlier all rest d settled e s refused =
    passed_refuses (settled_tests sources earlier all) (settle_tests sources s.now (text d)) (settled_tests sources (s.now ++ text d ∷ []) rest) e s.passed (refused s.now s.are_marks)

pub settling_pass : (sources earlier : List (List ℕ)) (all : List Data) (settled : List Bool) → Settling sources earlier all [] settled → AllPass (settled_tests sources earlier all)
settling_pass sources earlier all settled s = subst AllPass (sym (s.passed.split ∙ append-nil s.passed.done)) s.passed.passed

pub settling_marks : (sources earlier : List (List ℕ)) (all : List Data) (settled : List Bool) → Settling sources earlier all [] settled → settled ≡ marks sources (earlier ++ map text all)
settling_marks sources earlier all settled s = s.are_marks ∙ ap (marks sources) (sym (append-nil s.now) ∙ s.split)

-- ---- settler by settler

tests-append : (sources earlier : List (List ℕ)) (ds es : List Data) → settled_tests sources earlier (ds ++ es) ≡ settled_tests sources earlier ds ++ settled_tests sources (earlier ++ map text ds) es
tests-append sources earlier [] es = ap (λ n. settled_tests sources n es) (sym (append-nil earlier))
tests-append sources earlier (d ∷ ds) es =
    ap (λ ts. settle_tests sources earlier (text d) ++ ts)
    (tests-append sources (earlier ++ text d ∷ []) ds es ∙ ap (λ n. settled_tests sources (earlier ++ text d ∷ []) ds ++ settled_tests sources n es) (append_assoc earlier (text d ∷ []) (map text ds)))

map-append : (ds es : List Data) → map text (ds ++ es) ≡ map text ds ++ map text es
map-append [] es = refl
map-append (d ∷ ds) es = ap (λ ts. text d ∷ ts) (map-append ds es)

pub settlers_on : (sources earlier : List (List ℕ)) (all ds rest : List Data) (settled new : List Bool)
    → Settling sources earlier all (ds ++ rest) settled
    → ((now : List (List ℕ)) → settled ≡ marks sources now → AllPass (settled_tests sources now ds))
    → ((now : List (List ℕ)) → settled ≡ marks sources now → new ≡ marks sources (now ++ map text ds))
    → Settling sources earlier all rest new
settlers_on sources earlier all ds rest settled new s pass mark =
    record {
      now = s.now ++ map text ds;
      are_marks = mark s.now s.are_marks;
      split = append_assoc s.now (map text ds) (map text rest) ∙ (ap (λ ts. s.now ++ ts) (sym (map-append ds rest)) ∙ s.split);
      passed = passed_on (settled_tests sources earlier all) (settled_tests sources s.now ds) (settled_tests sources (s.now ++ map text ds) rest)
          (subst (Passed (settled_tests sources earlier all)) (tests-append sources s.now ds rest) s.passed) (pass s.now s.are_marks);
    }

pub settlers_refuse : (sources earlier : List (List ℕ)) (all ds rest : List Data) (settled : List Bool) (e : ScriptFault)
    → Settling sources earlier all (ds ++ rest) settled
    → ((now : List (List ℕ)) → settled ≡ marks sources now → Refuses (settled_tests sources now ds) e)
    → Refuses (settled_tests sources earlier all) e
settlers_refuse sources earlier all ds rest settled e s refused =
    passed_refuses (settled_tests sources earlier all) (settled_tests sources s.now ds) (settled_tests sources (s.now ++ map text ds) rest) e
    (subst (Passed (settled_tests sources earlier all)) (tests-append sources s.now ds rest) s.passed) (refused s.now s.are_marks)

-- ---- no marks yet

marks_drop : (ns : List (Bor (List ℕ))) (i : ℕ) → i < length ns → marks (map (λ n. n.now) (drop i ns)) [] ≡ false ∷ marks (map (λ n. n.now) (drop (i + 1) ns)) []
marks_drop [] i h = absurd (omega arith)
marks_drop (n ∷ ns) i h = ap (λ xs. marks (map (λ n. n.now) xs) []) (drop_more (n ∷ ns) i n h)

pub unmarked : (ns : List (Bor (List ℕ))) (i : ℕ) (out new all : List Bool) → i < length ns → out ++ marks (map (λ n. n.now) (drop i ns)) [] ≡ all → new ≡ out ++ false ∷ [] → new ++ marks (map (λ n. n.now) (drop (i + 1) ns)) [] ≡ all
unmarked ns i out new all within h pushed =
    let rest = marks (map (λ n. n.now) (drop (i + 1) ns)) [] in
    ap (λ o. o ++ rest) pushed ∙ (append_assoc out (false ∷ []) rest ∙ (ap (λ r. out ++ r) (sym (marks_drop ns i within)) ∙ h))
