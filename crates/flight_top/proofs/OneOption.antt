-- The words of a command with one option, by how many they are.
use Rattle.std.proofs.Common.{◌≡◌, ℕ, ◌<◌, ◌≤◌, List, [], ◌∷◌, ◌++◌, length, slice_index_or, refl, sym, ◌∙◌, ap, subst, arith, string_bytes, codes, None, Some, Option}
use Rattle.std.specs.Prelude.{String, MatchOption, IfSome}
use Rattle.std.specs.declared.alloc.Global.{Global}
use Rattle.std.proofs.lemmas.List.{append_assoc, append_cancel_left}
use Rattle.flight_top.specs.Due.{texts}
use Rattle.flight_top.specs.Words.{IsNumber, AreNumbered, alone, apart, joined, AreOf}

-- ---- the texts of words

pub two_words : (words : List (String Global)) (a b : String Global) → 2 ≤ length words → length words < 3 → a ≡ slice_index_or words 0 a → b ≡ slice_index_or words 1 b → texts words ≡ string_bytes a ∷ string_bytes b ∷ []
two_words [] a b least most ea eb = absurd (omega arith)
two_words (x ∷ []) a b least most ea eb = absurd (omega arith)
two_words (x ∷ y ∷ []) a b least most ea eb = rw (ea, eb) refl
two_words (x ∷ y ∷ z ∷ ws) a b least most ea eb = absurd (omega arith)

pub three_words : (words : List (String Global)) (a b v : String Global) → 3 ≤ length words → length words < 4 → a ≡ slice_index_or words 0 a → b ≡ slice_index_or words 1 b → v ≡ slice_index_or words 2 v → texts words ≡ string_bytes a ∷ string_bytes b ∷ string_bytes v ∷ []
three_words [] a b v least most ea eb ev = absurd (omega arith)
three_words (x ∷ []) a b v least most ea eb ev = absurd (omega arith)
three_words (x ∷ y ∷ []) a b v least most ea eb ev = absurd (omega arith)
three_words (x ∷ y ∷ z ∷ []) a b v least most ea eb ev = rw (ea, eb, ev) refl
three_words (x ∷ y ∷ z ∷ w ∷ ws) a b v least most ea eb ev = absurd (omega arith)

-- ---- what two and three words are

abbrev first : List (List ℕ) → List ℕ
first [] = []
first (a ∷ ws) = a

abbrev second : List (List ℕ) → List ℕ
second (a ∷ b ∷ ws) = b
second ws = []

abbrev third : List (List ℕ) → List ℕ
third (a ∷ b ∷ c ∷ ws) = c
third ws = []

of_two : (command option : List ℕ) (most : ℕ) (words : List (List ℕ)) (n : ℕ) → AreNumbered command option most words n → (a b : List ℕ) → words ≡ a ∷ b ∷ [] → (a ≡ command) × ((value : List ℕ) × (b ≡ option ++ codes "=" ++ value) × IsNumber most value n)
of_two command option most _ _ alone a b e = cc
of_two command option most _ _ (apart text n is) a b e = cc
of_two command option most _ _ (joined text n is) a b e = (sym (ap first e), (text, sym (ap second e), is))

of_three : (command option : List ℕ) (most : ℕ) (words : List (List ℕ)) (n : ℕ) → AreNumbered command option most words n → (a b v : List ℕ) → words ≡ a ∷ b ∷ v ∷ [] → (a ≡ command) × (b ≡ option) × IsNumber most v n
of_three command option most _ _ alone a b v e = cc
of_three command option most _ _ (apart text n is) a b v e = (sym (ap first e), sym (ap second e), subst (λ t. IsNumber most t n) (ap third e) is)
of_three command option most _ _ (joined text n is) a b v e = cc

-- ---- the number that they ask for

pub number_of_two : (command option : List ℕ) (most : ℕ) (o : Option ℕ) (words : List (List ℕ)) (a b : List ℕ) → words ≡ a ∷ b ∷ [] → a ≡ command → IfSome o (λ n. (value : List ℕ) × (b ≡ option ++ codes "=" ++ value) × IsNumber most value n) → (o ≡ None → (value : List ℕ) (n : ℕ) → b ≡ option ++ codes "=" ++ value → ¬ (IsNumber most value n)) → MatchOption o (¬ (AreOf command option most words)) (AreNumbered command option most words)
number_of_two command option most (Some n) words a b e is some none =
    subst (λ ws. AreNumbered command option most ws n) (sym (e ∙ (ap (λ w. w ∷ b ∷ []) is ∙ ap (λ w. command ∷ w ∷ []) some.1))) (joined some.0 n some.2)
number_of_two command option most None words a b e is some none =
    λ h. let two = of_two command option most words h.0 h.1 a b e in none refl two.1.0 h.0 two.1.1 two.1.2

pub number_of_three : (command option : List ℕ) (most : ℕ) (o : Option ℕ) (words : List (List ℕ)) (a b v : List ℕ) → words ≡ a ∷ b ∷ v ∷ [] → a ≡ command → b ≡ option → MatchOption o ((n : ℕ) → ¬ (IsNumber most v n)) (IsNumber most v) → MatchOption o (¬ (AreOf command option most words)) (AreNumbered command option most words)
number_of_three command option most (Some n) words a b v e is name h =
    subst (λ ws. AreNumbered command option most ws n) (sym (e ∙ (ap (λ w. w ∷ b ∷ v ∷ []) is ∙ ap (λ w. command ∷ w ∷ v ∷ []) name))) (apart v n h)
number_of_three command option most None words a b v e is name h = λ k. h k.0 (of_three command option most words k.0 k.1 a b v e).2

pub other_command : (command option : List ℕ) (most : ℕ) (words : List (List ℕ)) (a b v : List ℕ) → words ≡ a ∷ b ∷ v ∷ [] → ¬ (a ≡ command) → ¬ (AreOf command option most words)
other_command command option most words a b v e other = λ h. other (of_three command option most words h.0 h.1 a b v e).0

pub other_option : (command option : List ℕ) (most : ℕ) (words : List (List ℕ)) (a b v : List ℕ) → words ≡ a ∷ b ∷ v ∷ [] → ¬ (b ≡ option) → ¬ (AreOf command option most words)
other_option command option most words a b v e other = λ h. other (of_three command option most words h.0 h.1 a b v e).1

pub by_itself : (command option : List ℕ) (most : ℕ) (words : List (List ℕ)) (a : List ℕ) → words ≡ a ∷ [] → a ≡ command → AreNumbered command option most words most
by_itself command option most words a e is = subst (λ ws. AreNumbered command option most ws most) (sym (e ∙ ap (λ w. w ∷ []) is)) alone

-- ---- a word with its option

-- what stands behind an option, where the word is the option, a sign and a value
pub behind_option : (text option rest value : List ℕ) → text ≡ option ++ rest → text ≡ option ++ codes "=" ++ value → rest ≡ codes "=" ++ value
behind_option text option rest value e f = append_cancel_left option rest (codes "=" ++ value) (sym e ∙ f ∙ append_assoc option (codes "=") value)

pub behind_sign : (text option rest inner value : List ℕ) → text ≡ option ++ rest → rest ≡ codes "=" ++ inner → text ≡ option ++ codes "=" ++ value → inner ≡ value
behind_sign text option rest inner value e f g = append_cancel_left (codes "=") inner value (sym f ∙ behind_option text option rest value e g)
