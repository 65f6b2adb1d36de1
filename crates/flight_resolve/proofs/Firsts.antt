-- The first fault of parts, one after another.
use Rattle.std.proofs.Common.{◌≡◌, ℕ, ◌+◌, ◌<◌, length, map, take, drop, get_or, subst, if◌then◌else◌, List, [], ◌∷◌, ◌++◌, Option, Some, None, option_map, refl, sym, ap, ◌∙◌}
use Rattle.std.proofs.lemmas.List.{drop_more, take_more}
use Rattle.flight_syntax.specs.Lexicon.{Placed}
use Rattle.flight_syntax.specs.Faults as faults
use Rattle.flight_syntax.specs.Faults.{first_fault, first_of}
use Rattle.flight_syntax.proofs.FirstFaults.{first_fault-append}
use Rattle.flight_resolve.specs.declared.name_fault.NameFault.{NameFault}
use Rattle.flight_resolve.specs.Names.{fault_of, IsFirst, inside_out}
use Rattle.flight_resolve.proofs.Scopes.{inside_one}
use Rattle.flight_resolve.specs.Seen.{going}
use Rattle.flight_syntax.specs.Tree.{Tree, Declaration, member, index}
use Rattle.flight_parse.specs.Code.{PlainPost, named, indexed, posted}
use Rattle.flight_resolve.specs.Posts.{faults_posts}

-- a fault, or none, as a list
abbrev listed : Option faults.NameFault → List faults.NameFault
listed None = []
listed (Some fault) = fault ∷ []

first_listed : (o : Option faults.NameFault) → first_fault (listed o) ≡ o
first_listed None = refl
first_listed (Some fault) = refl

pub append_assoc : {A : Type 0} (xs ys zs : List A) → (xs ++ ys) ++ zs ≡ xs ++ (ys ++ zs)
append_assoc [] ys zs = refl
append_assoc (x ∷ xs) ys zs = ap (λ us. x ∷ us) (append_assoc xs ys zs)

-- of three the first
of_lists : (xs ys zs : List faults.NameFault) → first_of (first_of (first_fault xs) (first_fault ys)) (first_fault zs) ≡ first_of (first_fault xs) (first_of (first_fault ys) (first_fault zs))
of_lists xs ys zs =
    ap (λ o. first_of o (first_fault zs)) (sym (first_fault-append xs ys))
    ∙ (sym (first_fault-append (xs ++ ys) zs)
    ∙ (ap first_fault (append_assoc xs ys zs)
    ∙ (first_fault-append xs (ys ++ zs) ∙ ap (first_of (first_fault xs)) (first_fault-append ys zs))))

pub first_of-assoc : (a b c : Option faults.NameFault) → first_of (first_of a b) c ≡ first_of a (first_of b c)
first_of-assoc a b c =
    ap (λ o. first_of (first_of o b) c) (sym (first_listed a))
    ∙ (ap (λ o. first_of (first_of (first_fault (listed a)) o) c) (sym (first_listed b))
    ∙ (ap (λ o. first_of (first_of (first_fault (listed a)) (first_fault (listed b))) o) (sym (first_listed c))
    ∙ (of_lists (listed a) (listed b) (listed c)
    ∙ (ap (λ o. first_of o (first_of (first_fault (listed b)) (first_fault (listed c)))) (first_listed a)
    ∙ (ap (λ o. first_of a (first_of o (first_fault (listed c)))) (first_listed b)
    ∙ ap (λ o. first_of a (first_of b o)) (first_listed c))))))

first_of-none : (o : Option faults.NameFault) → first_of o None ≡ o
first_of-none None = refl
first_of-none (Some fault) = refl

-- two parts
pub of_parts : (found first other : Option NameFault) (part rest : List faults.NameFault) → option_map fault_of found ≡ first_of (option_map fault_of first) (option_map fault_of other)
    → IsFirst first part → IsFirst other rest → IsFirst found (part ++ rest)
of_parts found first other part rest e f o =
    e ∙ (ap (λ x. first_of x (option_map fault_of other)) f ∙ (ap (first_of (first_fault part)) o ∙ sym (first_fault-append part rest)))

-- ---- one after another

pub starts : (all : List faults.NameFault) → going None all ≡ first_fault all
starts all = refl

pub goes_on : (found new fault : Option NameFault) (part rest : List faults.NameFault) (total : Option faults.NameFault) → going found (part ++ rest) ≡ total → IsFirst fault part
    → option_map fault_of new ≡ first_of (option_map fault_of found) (option_map fault_of fault) → going new rest ≡ total
goes_on found new fault part rest total inv f e =
    ap (λ o. first_of o (first_fault rest)) e
    ∙ (ap (λ o. first_of (first_of (option_map fault_of found) o) (first_fault rest)) f
    ∙ (first_of-assoc (option_map fault_of found) (first_fault part) (first_fault rest)
    ∙ (ap (first_of (option_map fault_of found)) (sym (first_fault-append part rest)) ∙ inv)))

pub ends : (found : Option NameFault) (total : Option faults.NameFault) → going found [] ≡ total → option_map fault_of found ≡ total
ends found total inv = sym (first_of-none (option_map fault_of found)) ∙ inv

-- ---- over a list

pub map_last : {A B : Type 0} (f : A → B) (xs : List A) (x : A) → map f (xs ++ x ∷ []) ≡ map f xs ++ f x ∷ []
map_last f [] x = refl
map_last f (y ∷ xs) x = ap (λ us. f y ∷ us) (map_last f xs x)

pub more : {A : Type 0} (xs : List A) (i : ℕ) (x : A) → i < length xs → x ≡ get_or xs i x → drop i xs ≡ x ∷ drop (i + 1) xs
more xs i x l is = drop_more xs i x l ∙ ap (λ z. z ∷ drop (i + 1) xs) (sym is)

pub taken : {A : Type 0} (xs : List A) (i : ℕ) (x : A) → i < length xs → x ≡ get_or xs i x → take (i + 1) xs ≡ take i xs ++ x ∷ []
taken xs i x l is = take_more xs i x l ∙ ap (λ z. take i xs ++ z ∷ []) (sym is)

-- the faults of one more are met
pub steps : {A : Type 0} (list : List A → List faults.NameFault) (one : A → List faults.NameFault) → ((x : A) (xs : List A) → list (x ∷ xs) ≡ one x ++ list xs)
    → (xs : List A) (i : ℕ) (x : A) → i < length xs → x ≡ get_or xs i x → (found new fault : Option NameFault) (total : Option faults.NameFault) → going found (list (drop i xs)) ≡ total
    → IsFirst fault (one x) → option_map fault_of new ≡ first_of (option_map fault_of found) (option_map fault_of fault) → going new (list (drop (i + 1) xs)) ≡ total
steps list one splits xs i x l is found new fault total inv f e =
    goes_on found new fault (one x) (list (drop (i + 1) xs)) total (ap (going found) (sym (ap list (more xs i x l is) ∙ splits x (drop (i + 1) xs))) ∙ inv) f e

-- a name more is seen
abbrev pub before : {A : Type 0} → (A → Placed) → List A → ℕ → List Placed
before P xs i = inside_out [] (map P (take i xs))

one_before : {A : Type 0} (P : A → Placed) (xs : List A) (i : ℕ) (x : A) → i < length xs → x ≡ get_or xs i x → before P xs (i + 1) ≡ P x ∷ before P xs i
one_before P xs i x l is = ap (λ z. inside_out [] (map P z)) (taken xs i x l is) ∙ (ap (inside_out []) (map_last P (take i xs) x) ∙ inside_one [] (map P (take i xs)) (P x))

pub seen_steps : {A : Type 0} (P : A → Placed) (xs : List A) (i : ℕ) (x : A) → i < length xs → x ≡ get_or xs i x → (Seen : List Placed → Type 0) → Seen (P x ∷ before P xs i) → Seen (before P xs (i + 1))
seen_steps P xs i x l is Seen h = subst Seen (sym (one_before P xs i x l is)) h

pub repeated_steps : {A : Type 0} (P : A → Placed) (xs : List A) (i : ℕ) (x : A) → i < length xs → x ≡ get_or xs i x → (found new fault : Option NameFault) (total : Option faults.NameFault)
    → going found (faults.repeated (before P xs i) (map P (drop i xs))) ≡ total → IsFirst fault (if faults.is_named (P x).bytes (before P xs i) then faults.twice (P x) ∷ [] else [])
    → option_map fault_of new ≡ first_of (option_map fault_of found) (option_map fault_of fault) → going new (faults.repeated (before P xs (i + 1)) (map P (drop (i + 1) xs))) ≡ total
repeated_steps P xs i x l is found new fault total inv f e =
    ap (λ b. going new (faults.repeated b (map P (drop (i + 1) xs)))) (one_before P xs i x l is)
    ∙ goes_on found new fault (if faults.is_named (P x).bytes (before P xs i) then faults.twice (P x) ∷ [] else []) (faults.repeated (P x ∷ before P xs i) (map P (drop (i + 1) xs))) total
    (ap (λ z. going found (faults.repeated (before P xs i) (map P z))) (sym (more xs i x l is)) ∙ inv) f e

-- ---- an expression with its postfixes

append_none : {A : Type 0} (xs : List A) → xs ≡ xs ++ []
append_none [] = refl
append_none (x ∷ xs) = ap (λ us. x ∷ us) (append_none xs)

pub posted_faults : (all : List Declaration) (scope : List Placed) (t : Tree) (ps : List PlainPost) → faults.faults all scope (posted t ps) ≡ faults.faults all scope t ++ faults_posts all scope ps
posted_faults all scope t [] = append_none (faults.faults all scope t)
posted_faults all scope t (named n ∷ ps) = posted_faults all scope (member t n) ps
posted_faults all scope t (indexed a ∷ ps) = posted_faults all scope (index t a) ps ∙ append_assoc (faults.faults all scope t) (faults.faults all scope a) (faults_posts all scope ps)
