use Rattle.std.proofs.Common.{drop}
use Rattle.flight_reply_out.specs.Noted.{Notes}
use Rattle.flight_reply_out.proofs.origin.note_items.Given as goal

abbrev pub invariant-items : goal.invariant-items
invariant-items l = Notes l.n l.i (drop l.i l.items) l.fn.origins.items l.origins.items
