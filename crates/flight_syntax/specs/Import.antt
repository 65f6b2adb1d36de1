-- What a bundler says of a client component.
use Rattle.std.specs.Prelude.{ℕ, ◌≡◌, List, ◌++◌, Some}
use Rattle.json.specs.Json.{Json}
use Rattle.serde_json.specs.Data.{Data}
use Rattle.serde_json.specs.Read.{of_json}
use Rattle.serde_json.specs.Written.{compact_text}
use Rattle.flight_syntax.specs.declared.token.Token.{Token}
use Rattle.flight_syntax.specs.Tokens.{AreTokens}
use Rattle.flight_syntax.specs.Lexicon.{Word, words_of}
use Rattle.flight_syntax.specs.Grammar.{SpellsJson, most_levels}

-- JSON of the language, which some words of a text spell, as `serde_json` writes it compactly
pub record IsImport (import : List ℕ) : Type 0 where
  pub text : List ℕ
  pub tokens : List Token
  pub before : List Word
  pub words : List Word
  pub after : List Word
  pub json : Json
  pub meant : Data
  pub are_tokens : AreTokens text tokens
  pub among : words_of text tokens ≡ before ++ (words ++ after)
  pub spelled : SpellsJson json most_levels words
  pub is_read : of_json json ≡ Some meant
  pub is_compact : import ≡ compact_text meant
