use Rattle.std.proofs.Common.{ap, ◌∙◌}
use Rattle.flight_syntax.specs.Lexicon.{sign_spelled, so_spelled}
use Rattle.flight_parse.proofs.word.sign_of.Goals as goal

pub returns : goal.returns
returns c = c.sign_among.ensures ∙ ap (so_spelled sign_spelled c.args.bytes.now) c.as_slice.ensures
