-- Reading one after another, as a loop does.
use Rattle.std.proofs.Common.{◌≡◌, ℕ, zero, suc, ◌-◌, ◌+◌, ◌≤◌, ◌<◌, Bool, true, false, List, [], ◌∷◌, ◌++◌, map, Option, Ok, Err, length, refl, sym, ap, ◌∙◌, arith}
use Rattle.flight_parse.specs.declared.stop.Stop.{Stop}
use Rattle.flight_parse.specs.declared.stop.Stop.TheVariants as stops
use Rattle.flight_syntax.specs.Lexicon.{Word, U, is_mark}
use Rattle.flight_syntax.specs.declared.word.Punctuator.TheVariants.{Comma}
use Rattle.flight_grammar.specs.Reading.{Read, Reader, ◌>>=◌, want, at, next_is, both, made, behind, many_by, more, first_and, paired}
use Rattle.flight_parse.specs.Code.{Fails, words}
use Rattle.flight_parse.specs.declared.lexeme.Lexeme.{Lexeme}

-- what was read, and what is still read behind it, in so many turns
abbrev pub joined : {A : Type 0} → List A → Read (List A) → Read (List A)
joined xs r = r >>= λ b. Ok (xs ++ b.0, b.1)

abbrev pub going : {A : Type 0} → ℕ → ℕ → (Word → Bool) → Reader A → List A → List Word → Read (List A)
going count i starts p xs ts = joined xs (many_by (count - i) starts p ts)

append_nil : {A : Type 0} (xs : List A) → xs ++ [] ≡ xs
append_nil [] = refl
append_nil (x ∷ xs) = ap (λ ys. x ∷ ys) (append_nil xs)

append_assoc : {A : Type 0} (xs ys zs : List A) → (xs ++ ys) ++ zs ≡ xs ++ (ys ++ zs)
append_assoc [] ys zs = refl
append_assoc (x ∷ xs) ys zs = ap (λ us. x ∷ us) (append_assoc xs ys zs)

map_push : {X A : Type 0} (view : X → A) (xs : List X) (x : X) → map view (xs ++ x ∷ []) ≡ map view xs ++ view x ∷ []
map_push view [] x = refl
map_push view (y ∷ xs) x = ap (λ us. view y ∷ us) (map_push view xs x)

none : {A : Type 0} (n : ℕ) (starts : Word → Bool) (p : Reader A) (ts : List Word) → next_is starts ts ≡ false → many_by n starts p ts ≡ Ok ([], ts)
none zero starts p ts e = refl
none (suc n) starts p ts e = rw e refl

one_more : {A : Type 0} (n : ℕ) (starts : Word → Bool) (p : Reader A) (ts : List Word) (a : A) (after : List Word) → next_is starts ts ≡ true → p ts ≡ Ok (a, after)
    → many_by (suc n) starts p ts ≡ joined (a ∷ []) (many_by n starts p after)
one_more n starts p ts a after e f = rw (e, f) refl

regroup : {A : Type 0} (xs : List A) (a : A) (r : Read (List A)) → joined xs (joined (a ∷ []) r) ≡ joined (xs ++ a ∷ []) r
regroup xs a (Ok b) = ap (λ us. Ok (us, b.1)) (sym (append_assoc xs (a ∷ []) b.0))
regroup xs a (Err e) = refl

-- nothing more starts
pub ends : {A : Type 0} (count i : ℕ) (starts : Word → Bool) (p : Reader A) (xs : List A) (ts : List Word) (total : Read (List A))
    → going count i starts p xs ts ≡ total → next_is starts ts ≡ false → total ≡ Ok (xs, ts)
ends count i starts p xs ts total inv e =
    sym inv ∙ ap (joined xs) (none (count - i) starts p ts e) ∙ ap (λ us. Ok (us, ts)) (append_nil xs)

-- all turns are taken
pub runs_out : {A : Type 0} (count i : ℕ) (starts : Word → Bool) (p : Reader A) (xs : List A) (ts : List Word) (total : Read (List A))
    → going count i starts p xs ts ≡ total → count ≤ i → total ≡ Ok (xs, ts)
runs_out count i starts p xs ts total inv e =
    let z : count - i ≡ zero = omega arith in
    sym inv ∙ ap (λ n. joined xs (many_by n starts p ts)) z ∙ ap (λ us. Ok (us, ts)) (append_nil xs)

-- one more was read
pub goes_on : {X A : Type 0} (view : X → A) (count i : ℕ) (starts : Word → Bool) (p : Reader A) (xs ys : List X) (x : X) (ts after : List Word) (total : Read (List A))
    → going count i starts p (map view xs) ts ≡ total → i < count → next_is starts ts ≡ true → p ts ≡ Ok (view x, after) → ys ≡ xs ++ x ∷ []
    → going count (i + 1) starts p (map view ys) after ≡ total
goes_on view count i starts p xs ys x ts after total inv lt e f push =
    let k : count - i ≡ suc (count - (i + 1)) = omega arith in
    ap (λ us. going count (i + 1) starts p us after) (ap (map view) push ∙ map_push view xs x)
    ∙ (sym (regroup (map view xs) (view x) (many_by (count - (i + 1)) starts p after))
    ∙ (ap (joined (map view xs)) (sym (one_more (count - (i + 1)) starts p ts (view x) after e f))
    ∙ (ap (λ n. joined (map view xs) (many_by n starts p ts)) (sym k) ∙ inv)))

-- one more fails
pub fails : {A : Type 0} (s : Stop) (count i : ℕ) (starts : Word → Bool) (p : Reader A) (xs : List A) (ts : List Word) (total : Read (List A))
    → going count i starts p xs ts ≡ total → i < count → next_is starts ts ≡ true → Fails s (p ts) → Fails s total
fails stops.Memory count i starts p xs ts total inv lt e f = tt
fails (stops.Fault deep left) count i starts p xs ts total inv lt e f =
    let k : count - i ≡ suc (count - (i + 1)) = omega arith in
    sym inv ∙ (ap (λ n. joined xs (many_by n starts p ts)) k ∙ rw (e, f) refl)

-- ---- behind a word

pub behind_is : {A : Type 0} (take : Word → Option U) (p : Reader A) (ts mid : List Word) (r : Read A) → want take ts ≡ Ok (tt, mid) → p mid ≡ r → behind take p ts ≡ r
behind_is take p ts mid r e f = rw e f

pub behind_fails : {A : Type 0} (s : Stop) (take : Word → Option U) (p : Reader A) (ts mid : List Word) → want take ts ≡ Ok (tt, mid) → Fails s (p mid) → Fails s (behind take p ts)
behind_fails s take p ts mid e f = rw e f

-- ---- the first, and then more

pub with_first : {A : Type 0} (p : Reader A) (ts after : List Word) (a : A) → p ts ≡ Ok (a, after) → joined (a ∷ []) (more p after) ≡ made first_and (both p (λ a. more p)) ts
with_first p ts after a e = rw e (go (more p after))
  where
    go : (r : Read (List _)) → joined (a ∷ []) r ≡ ((r >>= λ b. paired a b) >>= λ b. Ok (first_and b.0, b.1))
    go (Ok b) = refl
    go (Err f) = refl

pub length_words : (lexemes : List Lexeme) → length (words lexemes) ≡ length lexemes
length_words [] = refl
length_words (lexeme ∷ lexemes) = ap suc (length_words lexemes)

-- the first of some with commas between, before the first turn
pub begins : {X A : Type 0} (view : X → A) (p : Reader A) (ts after : List Word) (x : X) (xs : List X) → p ts ≡ Ok (view x, after) → xs ≡ x ∷ []
    → going (length after) 0 (at (is_mark Comma)) (behind (is_mark Comma) p) (map view xs) after ≡ made first_and (both p (λ a. more p)) ts
begins view p ts after x xs e is =
    let k : length after - 0 ≡ length after = omega arith in
    ap (λ ys. going (length after) 0 (at (is_mark Comma)) (behind (is_mark Comma) p) (map view ys) after) is
    ∙ (ap (λ n. joined (view x ∷ []) (many_by n (at (is_mark Comma)) (behind (is_mark Comma) p) after)) k ∙ with_first p ts after (view x) e)
