-- What is printed of a part of a program, as words that spell such a part again.
use Rattle.std.proofs.Common.{◌≡◌, ℕ, ◌+◌, ◌==◌, true, List, [], ◌∷◌, ◌++◌, Option, Some, refl, ap, ap₂, ◌∙◌, arith}
use Rattle.std.proofs.lemmas.Bool.Decides.{nat_tests}
use Rattle.flight_syntax.specs.declared.token.TokenKind.{TokenKind}
use Rattle.flight_syntax.specs.declared.token.TokenKind.TheVariants.{Name, Mark}
use Rattle.flight_syntax.specs.declared.word.Keyword.{Keyword}
use Rattle.flight_syntax.specs.declared.word.Punctuator.{Punctuator}
use Rattle.flight_syntax.specs.Pieces.{SpellsToken}
use Rattle.flight_syntax.specs.Lexicon.{Placed, Word, ◌▸◌, nothing, one, keyword, sign, spelled, sign_spelled, is_key, is_mark, key_number, sign_number, word_as, taken_where}
use Rattle.flight_print.specs.Text.{word}
use Rattle.flight_print.specs.Pieces.{Piece, AreApart, text_of, words_at, total}
use Rattle.flight_print.proofs.Lexing.{text_of-append, words_at-append, AreApart-append}
use Rattle.flight_print.proofs.Alike.{unplaced}
use Rattle.flight_print.proofs.Said.{Takes, key_named, key_word, sign_marked, sign_word}

-- the text is tokens that end where they do, which spell such a part wherever they stand
pub record Again {A : Type 0} (P : A → List Word → Type 0) (S : A → Type 0) (text : List ℕ) : Type 0 where
  pub pieces : List Piece
  pub is_text : text_of pieces ≡ text
  pub apart : AreApart pieces
  pub spells : (at : ℕ) → (a : A) × S a × P a (words_at at pieces)

-- nothing to be said of a part
abbrev pub U : Type 0
U = Unit {0}

pub nothing_again : Again {A = U} (λ a. nothing) (λ a. U) []
nothing_again = record { pieces = []; is_text = refl; apart = tt; spells = λ at. (tt, tt, refl) }

-- one token
pub token_again : {A : Type 0} (P : A → List Word → Type 0) (S : A → Type 0) (kind : TokenKind) (bytes : List ℕ) → SpellsToken kind bytes
    → ((at : ℕ) → (a : A) × S a × P a (word_as kind (record { bytes = bytes; at = at }) ∷ [])) → Again P S (word bytes)
token_again P S kind bytes h f = record {
  pieces = record { kind = kind; bytes = bytes; gap = 32 ∷ [] } ∷ [];
  is_text = refl;
  apart = (h, refl, tt);
  spells = f;
}

-- one part and then another
pub then_again : {A B : Type 0} {P : A → List Word → Type 0} {S : A → Type 0} {Q : B → List Word → Type 0} {T : B → Type 0} {s t : List ℕ} → Again P S s → Again Q T t
    → Again {A = A × B} (λ p. P p.0 ▸ Q p.1) (λ p. S p.0 × T p.1) (s ++ t)
then_again x y = record {
  pieces = x.pieces ++ y.pieces;
  is_text = text_of-append x.pieces y.pieces ∙ ap₂ (λ a b. a ++ b) x.is_text y.is_text;
  apart = AreApart-append x.pieces y.pieces x.apart y.apart;
  spells = λ at.
      let a = x.spells at in
      let b = y.spells (at + total x.pieces) in
      ((a.0, b.0), (a.1, b.1), (words_at at x.pieces, words_at (at + total x.pieces) y.pieces, words_at-append at x.pieces y.pieces, a.2, b.2));
}

-- made into something else
pub made_again : {A B : Type 0} {P : A → List Word → Type 0} {S : A → Type 0} {s : List ℕ} (Q : B → List Word → Type 0) (T : B → Type 0) → Again P S s → (f : A → B) → ((a : A) → S a → T (f a)) → ((a : A) (x : List Word) → S a → P a x → Q (f a) x) → Again Q T s
made_again Q T x f g h = record {
  pieces = x.pieces;
  is_text = x.is_text;
  apart = x.apart;
  spells = λ at. let a = x.spells at in (f a.0, g a.0 a.1, h a.0 (words_at at x.pieces) a.1 a.2);
}

-- the same of the same text
pub so_again : {A : Type 0} {P : A → List Word → Type 0} {S : A → Type 0} {s t : List ℕ} → s ≡ t → Again P S s → Again P S t
so_again e x = record { pieces = x.pieces; is_text = x.is_text ∙ e; apart = x.apart; spells = x.spells }

-- ---- words

same_number : (n : ℕ) → (n == n) ≡ true
same_number n = grind (arith, nat_tests)

same_key : (k : Keyword) → ◌≡◌ {A = Option U} (taken_where (key_number k == key_number k) tt) (Some tt)
same_key k = ap (λ b. taken_where {A = U} b tt) (same_number (key_number k))

pub same_sign : (s : Punctuator) → ◌≡◌ {A = Option U} (taken_where (sign_number s == sign_number s) tt) (Some tt)
same_sign s = ap (λ b. taken_where {A = U} b tt) (same_number (sign_number s))

pub keyword_again : (k : Keyword) → Again {A = U} (λ a. keyword k) (λ a. U) (word (spelled k))
keyword_again k = token_again (λ a. keyword k) (λ a. U) Name (spelled k) (key_named k) (λ at. (tt, tt, (_, ap (is_key k) (key_word k at) ∙ same_key k, refl)))

pub sign_again : (s : Punctuator) → Again {A = U} (λ a. sign s) (λ a. U) (word (sign_spelled s))
sign_again s = token_again (λ a. sign s) (λ a. U) Mark (sign_spelled s) (sign_marked s) (λ at. (tt, tt, (_, ap (is_mark s) (sign_word s at) ∙ same_sign s, refl)))

-- a name, with its bytes
abbrev pub Named : Placed → Placed → Type 0
Named name other = unplaced other ≡ unplaced name

pub named_again : (take : Word → Option Placed) (name : Placed) → Takes take name.bytes → Again (one take) (Named name) (word name.bytes)
named_again take name h = token_again (one take) (Named name) Name name.bytes h.is_name (λ at. (record { bytes = name.bytes; at = at }, refl, (_, h.again at, refl)))

-- a keyword or a mark before and behind a part
module _ {B : Type 0} {Q : B → List Word → Type 0} {T : B → Type 0} {t : List ℕ} where
  pub key_before : (k : Keyword) → Again Q T t → Again (λ b. keyword k ▸ Q b) T (word (spelled k) ++ t)
  key_before k x = made_again (λ b. keyword k ▸ Q b) T (then_again (keyword_again k) x) (λ p. p.1) (λ p s. s.1) (λ p w s m. m)

  pub sign_before : (s : Punctuator) → Again Q T t → Again (λ b. sign s ▸ Q b) T (word (sign_spelled s) ++ t)
  sign_before s x = made_again (λ b. sign s ▸ Q b) T (then_again (sign_again s) x) (λ p. p.1) (λ p s. s.1) (λ p w s m. m)

  pub sign_behind : (s : Punctuator) → Again Q T t → Again (λ b. Q b ▸ sign s) T (t ++ word (sign_spelled s))
  sign_behind s x = made_again (λ b. Q b ▸ sign s) T (then_again x (sign_again s)) (λ p. p.0) (λ p s. s.0) (λ p w s m. m)
