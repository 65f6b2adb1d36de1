use Rattle.std.proofs.Common.{◌≡◌, ◌≤◌, false, length, arith, sym, subst, ◌∙◌}
use Rattle.std.specs.Prelude.{All}
use Rattle.std.proofs.lemmas.List.{take_all}
use Rattle.std.proofs.lemmas.List.Elements.{All-more}
use Rattle.flight_graph.specs.Writing.{is_escaped}
use Rattle.flight_graph.proofs.Escapes.{or_false}
use Rattle.flight_graph.proofs.escape.any_escaped.Goals as goal

pub loop-byte-preserved : goal.loop-byte-preserved
loop-byte-preserved c =
    λ none.
    let both = or_false c.loop-byte.found c.is_escaped-found.result none in
    All-more (λ b. is_escaped b ≡ false) c.args.bytes.now c.loop-byte.byte-index 0 c.loop-byte-test.true (c.loop-byte.invariant both.0) (sym c.is_escaped-found.ensures ∙ both.1)

pub returns : goal.returns
returns c =
    λ none.
    let all : length c.args.bytes.now ≤ c.loop-byte.byte-index = omega (arith, c.loop-byte-test.false) in
    subst (All (λ b. is_escaped b ≡ false)) (take_all c.loop-byte.byte-index c.args.bytes.now all) (c.loop-byte.invariant none)
