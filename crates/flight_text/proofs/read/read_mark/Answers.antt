use Rattle.std.proofs.Common.{◌∙◌, None, ap, sym, refl, arith}
use Rattle.std.proofs.lemmas.Str.Pattern.{strip_prefix_char}
use Rattle.flight_text.specs.Mark.{plain}
use Rattle.flight_text.proofs.Lines.{is_marked, plain_unmarked}
use Rattle.flight_text.proofs.read.read_mark.Goals as goal

pub returns-in_ok-new-in-None-clause-spelled : goal.returns-in_ok-new-in-None-clause-spelled
returns-in_ok-new-in-None-clause-spelled c =
    let bare = strip_prefix_char 36 c.args.text.now None c.in-None.ensures.cases (omega arith) in
    plain_unmarked c.args.text.now bare (is_marked c.args.text.now) refl ∙ ap plain (sym c.in_ok-new-in-None.ensures)
