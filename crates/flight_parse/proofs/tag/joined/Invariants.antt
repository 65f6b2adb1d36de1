use Rattle.std.proofs.Common.{◌≡◌, drop, map}
use Rattle.std.specs.Prelude.{string_bytes}
use Rattle.flight_syntax.specs.Tree.{joined_bytes}
use Rattle.flight_parse.specs.Code.{placed}
use Rattle.flight_parse.proofs.tag.joined.Given as goal

abbrev pub invariant-loop-part : goal.invariant-loop-part
invariant-loop-part l =
    joined_bytes (string_bytes l.bytes) (map placed (drop l.part-index l.parts)) ≡ joined_bytes l.first.bytes (map placed l.parts)
