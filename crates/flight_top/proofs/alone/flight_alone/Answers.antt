use Rattle.std.proofs.Common.{◌≡◌, ap, inr, sym, subst}
use Rattle.flight_top.specs.Told.{is_whole}
use Rattle.flight_top.specs.Due.{texts, IsDue}
use Rattle.flight_top.specs.declared.told.Status.{Status}
use Rattle.flight_top.proofs.Dues.{due-whole}
use Rattle.flight_top.proofs.alone.flight_alone.Goals as goal

pub answer-requires : goal.answer-requires
answer-requires g c = due-whole (texts c.args.words.now) (g.S.Source.left c.args.source.now) c.in-Ok.due.status c.in-Ok.due.text c.in-Ok.ensures.due

pub returns-in-Ok-clause-memory : goal.returns-in-Ok-clause-memory
returns-in-Ok-clause-memory g c memory =
    let part = c.answer.ensures.part (ap is_whole memory) in
    inr (c.in-Ok.due.status, c.in-Ok.due.text, c.in-Ok.ensures.due, rw c.as_str.ensures at part)

pub returns-in-Ok-clause-whole : goal.returns-in-Ok-clause-whole
returns-in-Ok-clause-whole g c whole =
    let w = c.answer.ensures.whole whole in
    let held = w.1 in
    let P : Status → Type 0 = λ s. IsDue (texts c.args.words.now) (g.S.Source.left c.args.source.now) s c.in-Ok.due.text in
    (c.in-Ok.due.text, subst P (sym w.0) c.in-Ok.ensures.due, rw c.as_str.ensures at held, w.2)
