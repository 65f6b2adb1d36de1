use Rattle.std.proofs.Common.{◌≡◌, ◌+◌, sym, ◌∙◌, ap, arith, slice_index_or}
use Rattle.std.proofs.lemmas.Bool.{false≢true}
use Rattle.flight_syntax.specs.declared.token.Token.{Token}
use Rattle.flight_syntax.specs.declared.token.TokenKind.TheVariants.{Name}
use Rattle.flight_syntax.specs.Words.{Word, word_of}
use Rattle.flight_top.specs.StaticReader.{lower_name, words_from}
use Rattle.flight_top.proofs.StaticWords.{words_at, lower_none}
use Rattle.flight_top.proofs.static_word.lower_name.Goals as goal

abbrev any_token : Token
any_token = record { kind = Name; from = 0; to = 0 }

pub returns-then-not-is_lower : goal.returns-then-not-is_lower
returns-then-not-is_lower c =
    let token = slice_index_or c.args.code.now.tokens.now c.args.at any_token in
    ap lower_name (words_at c.args.code.now c.args.at any_token (omega arith))
    ∙ lower_none (word_of c.args.code.now.text.now token) (words_from c.args.code.now (c.args.at + 1)) (λ same. absurd (false≢true (c.if-not-is_lower.ensures.1 same)))
