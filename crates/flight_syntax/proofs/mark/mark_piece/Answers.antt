use Rattle.std.proofs.Common.{◌∙◌, sym}
use Rattle.flight_syntax.proofs.Marks.{single_at, none_at}
use Rattle.flight_syntax.proofs.mark.mark_piece.Goals as goal

pub returns-then-is_single_mark : goal.returns-then-is_single_mark
returns-then-is_single_mark c = single_at c.args.text.now c.requires.some (sym c.is_single_mark.ensures ∙ c.if-is_single_mark.true) c.in_default.ensures.none

pub returns : goal.returns
returns c = none_at c.args.text.now c.requires.some c.requires.no_space c.requires.no_name c.requires.no_digit c.requires.no_quote (sym c.is_single_mark.ensures ∙ c.if-is_single_mark.false) c.in_default.ensures.none
