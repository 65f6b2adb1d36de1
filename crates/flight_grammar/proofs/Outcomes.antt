-- A text comes to one outcome.
use Rattle.std.proofs.Common.{◌≡◌, ℕ, Bool, true, false, ◌⊎◌, inl, inr, List, [], ◌∷◌, ◌++◌, length, Some, refl, sym, ap, subst, ◌∙◌, append_assoc}
use Rattle.flight_syntax.specs.Lexicon.{Word, words_of}
use Rattle.flight_syntax.specs.Tree.{Declaration}
use Rattle.flight_syntax.specs.Grammar.{most_levels, DeclaresAll}
use Rattle.flight_syntax.specs.Faults.{NameFault, first_fault, program_faults, has_app}
use Rattle.std.specs.List.{AllZip}
use Rattle.flight_syntax.specs.Derives.{Said, SaidAs, IsProgram}
use Rattle.flight_syntax.proofs.Readings.{one_reading}
use Rattle.flight_syntax.proofs.Meanings.{all_said}
use Rattle.flight_grammar.specs.Reading.{Fault}
use Rattle.flight_grammar.specs.Verdict.{Alike, IsDeeper, StopsAt}
use Rattle.flight_grammar.specs.Outcome.{lexed, unexpected, too_deep, misnamed, no_app, program, place_of, StopsIn, IsSpelled, HasOneOutcome}
use Rattle.flight_grammar.proofs.Exact.{ok_is}
use Rattle.flight_grammar.proofs.Programs.{again}

-- ---- one place

-- two ways to cut one list
abbrev pub Cuts : (a x b y : List Word) → Type 0
Cuts a x b y = ((a ≡ b) × (x ≡ y)) ⊎ (((w : Word) × (m : List Word) × (x ≡ w ∷ (m ++ y)) × (b ≡ a ++ w ∷ m)) ⊎ ((w : Word) × (m : List Word) × (y ≡ w ∷ (m ++ x)) × (a ≡ b ++ w ∷ m)))

pub cut : (a x b y : List Word) → a ++ x ≡ b ++ y → Cuts a x b y
cut [] x [] y e = inl (refl, e)
cut [] x (w ∷ b) y e = inr (inl (w, b, e, refl))
cut (w ∷ a) x [] y e = inr (inr (w, a, sym e, refl))
cut (w ∷ a) x (v ∷ b) y e = by (cut a x b y (cc))
  where
    head : w ≡ v
    head = cc (e)

    by : Cuts a x b y → Cuts (w ∷ a) x (v ∷ b) y
    by (inl h) = inl (cc (head, h.0), h.1)
    by (inr (inl h)) = inr (inl (h.0, h.1, h.2, cc (head, h.3)))
    by (inr (inr h)) = inr (inr (h.0, h.1, h.2, cc (head, h.3)))

alike_self : (x : List Word) → Alike x x
alike_self [] = tt
alike_self (w ∷ ws) = refl

-- a program does not go on past the place where another stop is
pub past : (words : List Word) (f : Fault) (s : StopsAt words f) (all : List Declaration) (w : Word) (m y rest : List Word) → s.bad ≡ w ∷ (m ++ y) → DeclaresAll all ((s.before ++ w ∷ m) ++ rest) → ⊥
past words f s all w m y rest e d =
    s.dead (w ∷ (m ++ rest)) (subst (λ z. Alike z (w ∷ (m ++ rest))) (sym e) refl) all (subst (DeclaresAll all) (append_assoc s.before (w ∷ m) rest) d)

abbrev fault : Bool → ℕ → Fault
fault d n = record { too_deep = d; left = n }

-- not too deep and too deep at once
not_deep : (words : List Word) (f g : Fault) (s : StopsAt words f) (t : StopsAt words g) → s.before ≡ t.before → s.bad ≡ t.bad → f.too_deep ≡ true → g.too_deep ≡ false → ⊥
not_deep words f g s t b e p q = t.tie q s.rest (subst (λ z. IsDeeper z s.rest) e (s.deeper p)) s.all (subst (λ z. DeclaresAll s.all (z ++ s.rest)) b s.begins)

same_kind : (p q : Bool) → (p ≡ true → q ≡ false → ⊥) → (q ≡ true → p ≡ false → ⊥) → p ≡ q
same_kind true true h k = refl
same_kind false false h k = refl
same_kind true false h k = absurd (h refl refl)
same_kind false true h k = absurd (k refl refl)

pub one_stop : (words : List Word) (f g : Fault) → StopsAt words f → StopsAt words g → f ≡ g
one_stop words f g s t = by (cut s.before s.bad t.before t.bad (sym s.whole ∙ t.whole))
  where
    by : Cuts s.before s.bad t.before t.bad → f ≡ g
    by (inl h) =
        let left : f.left ≡ g.left = s.is_left ∙ ap length h.1 ∙ sym t.is_left in
        let deep : f.too_deep ≡ g.too_deep = same_kind f.too_deep g.too_deep (not_deep words f g s t h.0 h.1) (not_deep words g f t s (sym h.0) (sym h.1)) in
        ap (λ d. fault d f.left) deep ∙ ap (λ n. fault g.too_deep n) left
    by (inr (inl h)) = absurd (past words f s t.all h.0 h.1 t.bad t.rest h.2 (subst (λ z. DeclaresAll t.all (z ++ t.rest)) h.3 t.begins))
    by (inr (inr h)) = absurd (past words g t s.all h.0 h.1 s.bad s.rest h.2 (subst (λ z. DeclaresAll s.all (z ++ s.rest)) h.3 s.begins))

-- what spells a program does not stop
pub no_stop : (words : List Word) (all : List Declaration) (f : Fault) → DeclaresAll all words → StopsAt words f → ⊥
no_stop words all f d s = s.dead s.bad (alike_self s.bad) all (subst (DeclaresAll all) s.whole d)

pub one_tree : (words : List Word) (all other : List Declaration) → DeclaresAll all words → DeclaresAll other words → all ≡ other
one_tree words all other d e = ap (λ p. p.0) (ok_is (all, []) (other, []) (sym (again most_levels all words d) ∙ again most_levels other words e))

-- ---- one outcome

one_place : (text : List ℕ) (deep other : Bool) (n m : ℕ) → StopsIn text deep n → StopsIn text other m → (deep ≡ other) × (n ≡ m)
one_place text deep other n m s t =
    let same : s.tokens ≡ t.tokens = (one_reading text).one_list s.tokens t.tokens s.are_tokens t.are_tokens in
    let f : fault deep s.left ≡ fault other t.left = one_stop (words_of text t.tokens) (fault deep s.left) (fault other t.left) (subst (λ z. StopsAt (words_of text z) (fault deep s.left)) same s.stops) t.stops in
    let left : s.left ≡ t.left = ap (λ (f : Fault). f.left) f in
    (ap (λ (f : Fault). f.too_deep) f, s.is_place ∙ ap (λ z. place_of text z s.left) same ∙ ap (λ z. place_of text t.tokens z) left ∙ sym t.is_place)

one_spelled : (text : List ℕ) (all other : List Declaration) → IsSpelled text all → IsSpelled text other → all ≡ other
one_spelled text all other s t =
    let same : s.tokens ≡ t.tokens = (one_reading text).one_list s.tokens t.tokens s.are_tokens t.are_tokens in
    one_tree (words_of text t.tokens) all other (subst (λ z. DeclaresAll all (words_of text z)) same s.declares) t.declares

spelled_stops : (text : List ℕ) (all : List Declaration) (deep : Bool) (n : ℕ) → IsSpelled text all → StopsIn text deep n → ⊥
spelled_stops text all deep n s t =
    let same : s.tokens ≡ t.tokens = (one_reading text).one_list s.tokens t.tokens s.are_tokens t.are_tokens in
    no_stop (words_of text t.tokens) all (fault deep t.left) (subst (λ z. DeclaresAll all (words_of text z)) same s.declares) t.stops

program_spelled : (text : List ℕ) (said : List Said) → (p : IsProgram text said) → IsSpelled text p.all
program_spelled text said p = record { tokens = p.tokens; are_tokens = p.are_tokens; declares = p.declares }

some_is : {A : Type 0} (a b : A) → Some a ≡ Some b → a ≡ b
some_is a b e = cc

-- no fault stands first among none
none_first : (fault : NameFault) (all other : List Declaration) → all ≡ other → first_fault (program_faults all) ≡ Some fault → program_faults other ≡ [] → ⊥
none_first fault all other e h k =
    let none : first_fault [] ≡ Some fault = ap first_fault (sym k) ∙ ap (λ z. first_fault (program_faults z)) (sym e) ∙ h in
    absurd cc

app_or_not : (all other : List Declaration) → all ≡ other → has_app all ≡ true → has_app other ≡ false → ⊥
app_or_not all other e h k = let both : true ≡ false = sym h ∙ ap has_app e ∙ k in absurd cc

pub one_outcome : (text : List ℕ) → HasOneOutcome text
one_outcome text (lexed f) (lexed g) m n = ap lexed ((one_reading text).one_fault f g m n)
one_outcome text (unexpected p) (unexpected q) m n = ap unexpected (one_place text false false p q m n).1
one_outcome text (too_deep p) (too_deep q) m n = ap too_deep (one_place text true true p q m n).1
one_outcome text (misnamed f) (misnamed g) m n = ap misnamed (some_is f g (sym m.2 ∙ ap (λ z. first_fault (program_faults z)) (one_spelled text m.0 n.0 m.1 n.1) ∙ n.2))
one_outcome text no_app no_app m n = refl
one_outcome text (program s) (program t) m n =
    let same = one_spelled text m.all n.all (program_spelled text s m) (program_spelled text t n) in
    ap program (all_said n.all n.all s t (subst (λ z. AllZip (SaidAs z) z s) same m.means) n.means)
one_outcome text (lexed f) (unexpected p) m n = absurd ((one_reading text).not_both n.tokens f n.are_tokens m)
one_outcome text (lexed f) (too_deep p) m n = absurd ((one_reading text).not_both n.tokens f n.are_tokens m)
one_outcome text (lexed f) (misnamed g) m n = absurd ((one_reading text).not_both n.1.tokens f n.1.are_tokens m)
one_outcome text (lexed f) no_app m n = absurd ((one_reading text).not_both n.1.tokens f n.1.are_tokens m)
one_outcome text (lexed f) (program s) m n = absurd ((one_reading text).not_both n.tokens f n.are_tokens m)
one_outcome text (unexpected p) (lexed f) m n = absurd ((one_reading text).not_both m.tokens f m.are_tokens n)
one_outcome text (too_deep p) (lexed f) m n = absurd ((one_reading text).not_both m.tokens f m.are_tokens n)
one_outcome text (misnamed g) (lexed f) m n = absurd ((one_reading text).not_both m.1.tokens f m.1.are_tokens n)
one_outcome text no_app (lexed f) m n = absurd ((one_reading text).not_both m.1.tokens f m.1.are_tokens n)
one_outcome text (program s) (lexed f) m n = absurd ((one_reading text).not_both m.tokens f m.are_tokens n)
one_outcome text (unexpected p) (too_deep q) m n = let e : false ≡ true = (one_place text false true p q m n).0 in absurd cc
one_outcome text (too_deep p) (unexpected q) m n = let e : true ≡ false = (one_place text true false p q m n).0 in absurd cc
one_outcome text (unexpected p) (misnamed f) m n = absurd (spelled_stops text n.0 false p n.1 m)
one_outcome text (unexpected p) no_app m n = absurd (spelled_stops text n.0 false p n.1 m)
one_outcome text (unexpected p) (program s) m n = absurd (spelled_stops text n.all false p (program_spelled text s n) m)
one_outcome text (too_deep p) (misnamed f) m n = absurd (spelled_stops text n.0 true p n.1 m)
one_outcome text (too_deep p) no_app m n = absurd (spelled_stops text n.0 true p n.1 m)
one_outcome text (too_deep p) (program s) m n = absurd (spelled_stops text n.all true p (program_spelled text s n) m)
one_outcome text (misnamed f) (unexpected p) m n = absurd (spelled_stops text m.0 false p m.1 n)
one_outcome text no_app (unexpected p) m n = absurd (spelled_stops text m.0 false p m.1 n)
one_outcome text (program s) (unexpected p) m n = absurd (spelled_stops text m.all false p (program_spelled text s m) n)
one_outcome text (misnamed f) (too_deep p) m n = absurd (spelled_stops text m.0 true p m.1 n)
one_outcome text no_app (too_deep p) m n = absurd (spelled_stops text m.0 true p m.1 n)
one_outcome text (program s) (too_deep p) m n = absurd (spelled_stops text m.all true p (program_spelled text s m) n)
one_outcome text (misnamed f) no_app m n = absurd (none_first f m.0 n.0 (one_spelled text m.0 n.0 m.1 n.1) m.2 n.2)
one_outcome text no_app (misnamed f) m n = absurd (none_first f n.0 m.0 (one_spelled text n.0 m.0 n.1 m.1) n.2 m.2)
one_outcome text (misnamed f) (program s) m n = absurd (none_first f m.0 n.all (one_spelled text m.0 n.all m.1 (program_spelled text s n)) m.2 n.faultless)
one_outcome text (program s) (misnamed f) m n = absurd (none_first f n.0 m.all (one_spelled text n.0 m.all n.1 (program_spelled text s m)) n.2 m.faultless)
one_outcome text no_app (program s) m n = absurd (app_or_not n.all m.0 (one_spelled text n.all m.0 (program_spelled text s n) m.1) n.app m.3)
one_outcome text (program s) no_app m n = absurd (app_or_not m.all n.0 (one_spelled text m.all n.0 (program_spelled text s m) n.1) m.app n.3)
