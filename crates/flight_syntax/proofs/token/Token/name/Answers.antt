use Rattle.flight_syntax.proofs.Spellings.{is_name-IsUtf8}
use Rattle.flight_syntax.proofs.token.Token.name.Goals as goal

pub unreachable-requires : goal.unreachable-requires
unreachable-requires c =
    let named = rw c.requires.name at c.requires.token.spelled in
    c.in-Err.ensures.cases.0 (rw c.bytes.ensures (is_name-IsUtf8 _ named))
