use Rattle.std.proofs.Common.{◌≡◌, ◌+◌, refl, sym, ◌∙◌, ap, arith, rules, slice_index_or, Bool, true, false, not}
use Rattle.std.proofs.lemmas.Bool.{false≢true}
use denote.Enum.Bare.{same_true}
use Rattle.flight_syntax.specs.contracts.token.TokenKind.{the_type}
use Rattle.flight_syntax.specs.declared.token.Token.{Token}
use Rattle.flight_syntax.specs.declared.token.TokenKind.TheVariants.{Name}
use Rattle.flight_syntax.specs.Words.{Word, word_of}
use Rattle.flight_top.specs.StaticReader.{want, words_from}
use Rattle.flight_top.proofs.StaticWords.{words_at, want_here, want_none}
use Rattle.flight_top.proofs.static_word.want.Goals as goal

abbrev any_token : Token
any_token = record { kind = Name; from = 0; to = 0 }

is_same : (b : Bool) → false ≡ not b → true ≡ b
is_same true e = refl
is_same false e = absurd (false≢true e)

pub returns-then-not-is : goal.returns-then-not-is
returns-then-not-is c =
    let token = slice_index_or c.args.code.now.tokens.now c.args.at any_token in
    sym (ap (want c.args.kind c.args.word.now) (words_at c.args.code.now c.args.at any_token (omega arith))
    ∙ want_none c.args.kind c.args.word.now (word_of c.args.code.now.text.now token) (words_from c.args.code.now (c.args.at + 1)) (λ same. absurd (false≢true (c.if-not-is.ensures.1 same.1))))

pub returns : goal.returns
returns c =
    let token = slice_index_or c.args.code.now.tokens.now c.args.at any_token in
    sym (ap (want c.args.kind c.args.word.now) (words_at c.args.code.now c.args.at any_token (omega arith))
    ∙ want_here c.args.kind c.args.word.now (word_of c.args.code.now.text.now token) (words_from c.args.code.now (c.args.at + 1)) (same_true the_type (search rules) _ _ (sym (is_same _ c.if-ne.ensures))) (c.if-not-is.ensures.0 refl))
