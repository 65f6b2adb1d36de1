use Rattle.std.proofs.Common.{◌∙◌, sym}
use Rattle.flight_syntax.proofs.Fronts.{Stands-space, Stands-name}
use Rattle.flight_syntax.proofs.lex.plain_piece.Goals as goal

pub returns-then-is_space : goal.returns-then-is_space
returns-then-is_space c = Stands-space c.args.text.now c.requires.some (sym c.is_space.ensures ∙ c.if-is_space.true)

pub returns-then-begins_name : goal.returns-then-begins_name
returns-then-begins_name c = rw c.name_len-len.ensures.value (Stands-name c.args.text.now c.requires.some (sym c.begins_name.ensures ∙ c.if-begins_name.true))
