use Rattle.std.proofs.Common.{◌∙◌, sym, subst}
use Rattle.flight_text.specs.Mark.{IsSpelling}
use Rattle.flight_text.proofs.Written.{is_spelling}
use Rattle.flight_text.proofs.spell.spell_mark.Goals as goal

pub returns-clause-read : goal.returns-clause-read
returns-clause-read c = subst (λ text. IsSpelling text c.args.mark.now) (sym (c.in_ok-from_string.ensures ∙ c.in_ok-spelled.ensures)) (is_spelling c.args.mark.now c.requires)
