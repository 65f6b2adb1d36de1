-- What the reader gives, said of the text.
use Rattle.std.proofs.Common.{◌≡◌, ℕ, Bool, List, Ok, Err, subst}
use Rattle.flight_syntax.specs.declared.token.Token.{Token}
use Rattle.flight_syntax.specs.Tokens.{AreTokens}
use Rattle.flight_syntax.specs.Lexicon.{words_of}
use Rattle.flight_syntax.specs.Tree.{Declaration}
use Rattle.flight_syntax.specs.Grammar.{DeclaresAll}
use Rattle.flight_grammar.specs.Reader.{program}
use Rattle.flight_grammar.specs.Verdict.{Verdict, StopsAt}
use Rattle.flight_grammar.specs.Outcome.{IsSpelled, StopsIn, place_of}
use Rattle.flight_parse.specs.declared.lexeme.Lexeme.{Lexeme}
use Rattle.flight_parse.specs.Code.{words}

pub spelled : (text : List ℕ) (tokens : List Token) (ls : List Lexeme) (all : List Declaration) → AreTokens text tokens → words ls ≡ words_of text tokens
    → program (words ls) ≡ Ok all → Verdict (words ls) (program (words ls)) → IsSpelled text all
spelled text tokens ls all are same read v = record {
  tokens = tokens;
  are_tokens = are;
  declares = subst (DeclaresAll all) same (subst (Verdict (words ls)) read v).0;
}

pub stops : (text : List ℕ) (tokens : List Token) (ls : List Lexeme) (deep : Bool) (left place : ℕ) → AreTokens text tokens → words ls ≡ words_of text tokens
    → program (words ls) ≡ Err (record { too_deep = deep; left = left }) → Verdict (words ls) (program (words ls)) → place ≡ place_of text tokens left → StopsIn text deep place
stops text tokens ls deep left place are same read v is = record {
  tokens = tokens;
  are_tokens = are;
  left = left;
  stops = subst (λ ws. StopsAt ws (record { too_deep = deep; left = left })) same (subst (Verdict (words ls)) read v);
  is_place = is;
}
