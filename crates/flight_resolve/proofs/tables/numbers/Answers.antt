use Rattle.std.proofs.Common.{◌≡◌, ◌∙◌, arith}
use Rattle.flight_parse.specs.Declarations.{declaration_of}
use Rattle.flight_resolve.specs.Names.{is_kind}
use Rattle.flight_resolve.proofs.Lookups.{from_start}
use Rattle.flight_resolve.proofs.tables.numbers.Goals as goal

pub returns : goal.returns
returns c q =
    let none : c.loop-at.at ≡ 0 = omega arith in
    c.loop-at.invariant.known q ∙ from_start c.loop-at.at (is_kind c.args.kind q) declaration_of c.args.declared.now none
