use Rattle.std.proofs.Common.{ap, ◌∙◌}
use Rattle.flight_syntax.specs.Lexicon.{spelled, so_spelled}
use Rattle.flight_parse.proofs.word.keyword_of.Goals as goal

pub returns : goal.returns
returns c = c.keyword_among.ensures ∙ ap (so_spelled spelled c.args.name.now) c.as_slice.ensures
