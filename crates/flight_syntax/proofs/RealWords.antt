-- The words of a text are words that some text has.
use Rattle.std.proofs.Common.{ℕ, Bool, true, false, List, [], ◌∷◌, Option, Some, None, if◌then◌else◌}
use Rattle.std.specs.Char.{is_ascii_uppercase}
use Rattle.std.specs.Prelude.{slice_index}
use Rattle.flight_syntax.specs.declared.token.Token.{Token}
use Rattle.flight_syntax.specs.declared.token.TokenKind.{TokenKind}
use Rattle.flight_syntax.specs.declared.token.TokenKind.TheVariants as kind
use Rattle.flight_syntax.specs.declared.word.Keyword.{Keyword}
use Rattle.flight_syntax.specs.declared.word.Punctuator.{Punctuator}
use Rattle.flight_syntax.specs.Lexicon.{Placed, lower, upper, keyword_of, sign_of, name_word, mark_word, word_as, words_of, IsReal, AreReal}

real_name : (o : Option Keyword) (name : Placed) → IsReal (name_word o name)
real_name (Some k) name = tt
real_name None name = by (is_ascii_uppercase (slice_index name.bytes 0))
  where
    by : (b : Bool) → IsReal (if b then upper name else lower name)
    by true = tt
    by false = tt

real_mark : (o : Option Punctuator) → IsReal (mark_word o)
real_mark (Some m) = tt
real_mark None = tt

real_word : (k : TokenKind) (name : Placed) → IsReal (word_as k name)
real_word kind.Name name = real_name (keyword_of name.bytes) name
real_word kind.Number name = tt
real_word kind.Big name = tt
real_word kind.Text name = tt
real_word kind.Mark name = real_mark (sign_of name.bytes)

pub real_words : (text : List ℕ) (tokens : List Token) → AreReal (words_of text tokens)
real_words text [] = tt
real_words text (t ∷ tokens) = (real_word t.kind _, real_words text tokens)
