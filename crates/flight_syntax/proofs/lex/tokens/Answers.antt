use Rattle.std.proofs.Common.{arith, length-drop}
use Rattle.flight_syntax.specs.Tokens.{nothing}
use Rattle.flight_syntax.proofs.Spellings.{Reads-each, Reads-ascend}
use Rattle.flight_syntax.proofs.Readings.{Reads-token, Reads-blank}
use Rattle.flight_syntax.proofs.lex.tokens.Goals as goal

pub loop-at-init : goal.loop-at-init
loop-at-init c = record { within = omega arith; before = rw c.new-tokens.ensures.items nothing }

pub loop-at-preserved-in_ok-push : goal.loop-at-preserved-in_ok-push
loop-at-preserved-in_ok-push c =
    let stands = rw (c.in-Some.is, c.in-Token.is) at c.in_ok-found.ensures in
    record {
      within = let w = stands.within in let l = length-drop c.loop-at.at c.args.bytes.now in omega (arith, w, l);
      before = rw c.in_ok-push.ensures.items (Reads-token c.args.bytes.now c.loop-at.tokens.items c.loop-at.at c.in-Some.found.len c.in-Token.kind c.loop-at.invariant.before stands);
    }

pub loop-at-preserved : goal.loop-at-preserved
loop-at-preserved c =
    let stands = rw c.in-Some.is at c.in_ok-found.ensures in
    record {
      within = let w = stands.within in let l = length-drop c.loop-at.at c.args.bytes.now in omega (arith, w, l);
      before = Reads-blank c.args.bytes.now c.loop-at.tokens.items c.loop-at.at c.in-Some.found.len c.in-Some.found.piece c.loop-at.invariant.before stands c.in_default-piece.not-Token;
    }

pub returns-clause-each : goal.returns-clause-each
returns-clause-each c = Reads-each c.loop-at.invariant.before

pub returns-clause-ascend : goal.returns-clause-ascend
returns-clause-ascend c = Reads-ascend c.loop-at.invariant.before
