-- Reading words from left to right with one word of foresight: what reading is made of.
use Rattle.std.specs.Prelude.{ℕ, zero, suc, Bool, true, false, if◌then◌else◌, List, [], ◌∷◌, length, Option, Some, None, Result, Ok, Err}
use Rattle.flight_syntax.specs.declared.word.Punctuator.TheVariants.{Comma}
use Rattle.flight_syntax.specs.Lexicon.{Word, U, is_mark}

-- where the reading ends, by the number of words that are left there: at a word that nothing continues with,
-- or where the nesting or the postfixes pass their limit
pub record Fault : Type 0 where
  pub too_deep : Bool
  pub left : ℕ

-- what was read, and the words behind it
abbrev pub Read : Type 0 → Type 0
Read A = Result (A × List Word) Fault

abbrev pub Reader : Type 0 → Type 0
Reader A = List Word → Read A

abbrev pub unexpected : {A : Type 0} → List Word → Read A
unexpected words = Err (record { too_deep = false; left = length words })

abbrev pub too_deep : {A : Type 0} → List Word → Read A
too_deep words = Err (record { too_deep = true; left = length words })

infixl 10 ◌>>=◌
abbrev pub ◌>>=◌ : {A B : Type 0} → Result A Fault → (A → Result B Fault) → Result B Fault
(Ok x) >>= f = f x
(Err e) >>= f = Err e

-- ---- one word

abbrev pub taken : {A : Type 0} → Option A → Word → List Word → Read A
taken (Some a) word words = Ok (a, words)
taken None word words = unexpected (word ∷ words)

-- one word that is taken
abbrev pub want : {A : Type 0} → (Word → Option A) → Reader A
want take [] = unexpected []
want take (word ∷ words) = taken (take word) word words

abbrev pub is_some : {A : Type 0} → Option A → Bool
is_some (Some a) = true
is_some None = false

-- whether the word is taken
abbrev pub at : {A : Type 0} → (Word → Option A) → Word → Bool
at take word = is_some (take word)

-- whether the next word is one of these
abbrev pub next_is : (Word → Bool) → List Word → Bool
next_is test [] = false
next_is test (word ∷ words) = test word

-- ---- from parts

-- nothing is read
abbrev pub done : {A : Type 0} → A → Reader A
done a words = Ok (a, words)

abbrev pub paired : {A B : Type 0} → A → B × List Word → Read (A × B)
paired a b = Ok ((a, b.0), b.1)

-- one and then another, which may depend on the first
abbrev pub both : {A B : Type 0} → Reader A → (A → Reader B) → Reader (A × B)
both p q words = p words >>= λ a. q a.0 a.1 >>= λ b. paired a.0 b

-- put together
abbrev pub made : {A B : Type 0} → (A → B) → Reader A → Reader B
made put p words = p words >>= λ a. Ok (put a.0, a.1)

-- behind a word
abbrev pub behind : {A : Type 0} → (Word → Option U) → Reader A → Reader A
behind take p words = want take words >>= λ u. p u.1

-- up to a word
abbrev pub closed : {A : Type 0} → Reader A → (Word → Option U) → Reader A
closed p take words = p words >>= λ a. want take a.1 >>= λ u. Ok (a.0, u.1)

-- by the next word, one or the other
abbrev pub choice : {A : Type 0} → (Word → Bool) → Reader A → Reader A → Reader A
choice starts p q words = if next_is starts words then p words else q words

-- ---- by the first word

-- what the first word decides: that nothing begins with it, that it passes a limit, or how to read on behind it
pub data Arm (A : Type 0) : Type 0 where
  stop : Arm A
  limit : Arm A
  go : (List Word → Result (A × List Word) Fault) → Arm A

abbrev pub by_arm : {A : Type 0} → Arm A → Word → List Word → Read A
by_arm stop word words = unexpected (word ∷ words)
by_arm limit word words = too_deep (word ∷ words)
by_arm (go p) word words = p words

abbrev pub by_word : {A : Type 0} → (Word → Arm A) → Reader A
by_word arms [] = unexpected []
by_word arms (word ∷ words) = by_arm (arms word) word words

-- ---- any number

abbrev pub consed : {A : Type 0} → A → List A × List Word → Read (List A)
consed a b = Ok (a ∷ b.0, b.1)

-- as long as the next word starts one more, and at most so many
abbrev mutual
  pub many_by : {A : Type 0} → ℕ → (Word → Bool) → Reader A → Reader (List A)
  many_by zero starts p words = Ok ([], words)
  many_by (suc n) starts p words = if next_is starts words then (p words >>= λ a. many_by n starts p a.1 >>= λ b. consed a.0 b) else Ok ([], words)

-- as long as the next word starts one more
abbrev pub many : {A : Type 0} → (Word → Bool) → Reader A → Reader (List A)
many starts p words = many_by (length words) starts p words

-- more, each behind a comma
abbrev pub more : {A : Type 0} → Reader A → Reader (List A)
more p = many (at (is_mark Comma)) (behind (is_mark Comma) p)

abbrev pub first_and : {A : Type 0} → A × List A → List A
first_and x = x.0 ∷ x.1

-- one or more with commas between, up to a word
abbrev pub some_until : {A : Type 0} → (Word → Option U) → Reader A → Reader (List A)
some_until close p = closed (made first_and (both p (λ a. more p))) close

-- any number with commas between, up to a word
abbrev pub list_until : {A : Type 0} → (Word → Option U) → Reader A → Reader (List A)
list_until close p = choice (at close) (behind close (done [])) (some_until close p)
