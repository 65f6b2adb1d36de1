-- What a text comes to: the program that it is, or its first fault.
use Rattle.std.specs.Prelude.{ℕ, ◌-◌, ◌≡◌, true, false, Bool, List, [], ◌∷◌, length, drop, Some}
use Rattle.flight_syntax.specs.declared.token.Token.{Token}
use Rattle.flight_syntax.specs.declared.token.LexFault.{LexFault}
use Rattle.flight_syntax.specs.Tokens.{AreTokens, HasFault}
use Rattle.flight_syntax.specs.Lexicon.{words_of}
use Rattle.flight_syntax.specs.Tree.{Declaration}
use Rattle.flight_syntax.specs.Grammar.{DeclaresAll}
use Rattle.flight_syntax.specs.Faults.{NameFault, program_faults, has_app, first_fault}
use Rattle.flight_syntax.specs.Derives.{Said, IsProgram}
use Rattle.flight_grammar.specs.Verdict.{StopsAt}

pub data Outcome : Type 0 where
  -- a text that has no tokens
  lexed : (fault : LexFault) → Outcome
  -- tokens that spell no program: at a token that no program continues with, or the end; or where it is too deep
  unexpected : (place : ℕ) → Outcome
  too_deep : (place : ℕ) → Outcome
  -- a program with a fault of its names
  misnamed : (fault : NameFault) → Outcome
  no_app : Outcome
  program : (declared : List Said) → Outcome

-- where the last so many tokens begin, or the end of the text
abbrev pub start_of : ℕ → List Token → ℕ
start_of end [] = end
start_of end (token ∷ tokens) = token.from

abbrev pub place_of : List ℕ → List Token → ℕ → ℕ
place_of text tokens left = start_of (length text) (drop (length tokens - left) tokens)

-- the tokens of the text spell no program, and end to do so at this place
pub record StopsIn (text : List ℕ) (deep : Bool) (place : ℕ) : Type 0 where
  pub tokens : List Token
  pub are_tokens : AreTokens text tokens
  pub left : ℕ
  pub stops : StopsAt (words_of text tokens) (record { too_deep = deep; left = left })
  pub is_place : place ≡ place_of text tokens left

-- the tokens of the text spell these declarations
pub record IsSpelled (text : List ℕ) (all : List Declaration) : Type 0 where
  pub tokens : List Token
  pub are_tokens : AreTokens text tokens
  pub declares : DeclaresAll all (words_of text tokens)

abbrev pub ComesTo : List ℕ → Outcome → Type 0
ComesTo text (lexed fault) = HasFault text fault
ComesTo text (unexpected place) = StopsIn text false place
ComesTo text (too_deep place) = StopsIn text true place
ComesTo text (misnamed fault) = (all : List Declaration) × IsSpelled text all × (first_fault (program_faults all) ≡ Some fault)
ComesTo text no_app = (all : List Declaration) × IsSpelled text all × (program_faults all ≡ []) × (has_app all ≡ false)
ComesTo text (program declared) = IsProgram text declared

-- a text comes to one outcome and to no other
abbrev pub HasOneOutcome : List ℕ → Type 0
HasOneOutcome text = (outcome other : Outcome) → ComesTo text outcome → ComesTo text other → outcome ≡ other
