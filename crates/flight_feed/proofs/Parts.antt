-- What a reader keeps is the beginning of a row.
use Rattle.std.proofs.Common.{◌≡◌, ℕ, List, [], ◌++◌, append-nil, arith}
use Rattle.flight_feed.specs.declared.begun.Coming.TheVariants.{Row as ARow, Hint as AHint}
use Rattle.flight_feed.specs.declared.begun.Mode.{Mode}
use Rattle.flight_feed.specs.declared.begun.Mode.TheVariants as mode
use Rattle.flight_feed.specs.Parts.{IsPart, in_id, behind_id, behind_colon, in_length, in_text, in_line, in_hint}
use Rattle.flight_feed.proofs.Heads.{no_digits}
use Rattle.flight_feed.specs.Begun.{Begins, IsUnfinished}

without : (h p : List ℕ) → IsPart h → p ≡ [] → IsPart (h ++ p)
without h p part none = rw (none, append-nil) part

pub part_of : (m : Mode) (h p : List ℕ) → Begins m h p → IsUnfinished m → IsPart (h ++ p)
part_of (mode.Id id) h p b u = without h p (in_id h id b.0) b.1
part_of (mode.Tag id) h p b u = without h p (behind_id h id b.0) b.1
part_of mode.Colon h p b u = without h p (rw b.0 behind_colon) b.1
part_of (mode.Length id count value) h p b u = without h p (in_length h id count value b.0) b.1
part_of (mode.Text id left) h p b u = in_text h p id left b u
part_of (mode.Line (ARow id kind)) h p b u = in_line h p id kind b
part_of (mode.Line AHint) h p b u = in_hint h p b

pub no_part : IsPart []
no_part = in_id [] 0 (record { are_digits = no_digits; small = omega arith })
