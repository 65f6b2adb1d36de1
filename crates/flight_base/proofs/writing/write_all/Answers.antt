use Rattle.std.proofs.Common.{refl, ◌≡◌, ◌+◌, length, take, drop, arith, sym, ◌∙◌, ap, length-drop}
use Rattle.std.proofs.lemmas.List.{take_rest}
use Rattle.std.proofs.Math.Seq.{take-add}
use Rattle.flight_base.specs.Outside.{appended}
use Rattle.flight_base.proofs.Told.{appended-append}
use Rattle.flight_base.proofs.writing.write_all.Goals as goal

pub turns-preserved : goal.turns-preserved
turns-preserved g c =
    let rest = take_rest c.args.bytes.now c.turns.at in
    record {
      within = let h = rw (rest, length-drop) at c.in_ok-at.ensures.bound.1 in omega arith;
      held =
          let h = rw rest at c.in_ok-at.ensures.bytes in
          h
          ∙ (ap (λ o. appended o (take c.in_ok-at.field-0 (drop c.turns.at c.args.bytes.now))) c.turns.invariant.held
          ∙ (appended-append (g.K.Sink.held c.args.sink.now) (take c.turns.at c.args.bytes.now) (take c.in_ok-at.field-0 (drop c.turns.at c.args.bytes.now))
          ∙ ap (appended (g.K.Sink.held c.args.sink.now)) (sym (take-add c.turns.at c.in_ok-at.field-0 c.args.bytes.now))));
      unfinished = λ _. c.in_ok-at.ensures.unfinished;
      untouched = λ h. absurd (let b = c.in_ok-at.ensures.bound.0 in let e : c.turns.at + c.in_ok-at.field-0 ≡ 0 = h in omega arith);
      same = c.in_ok-at.ensures.same ∙ c.turns.invariant.same;
      later = omega (arith, c.in_ok-at.ensures.later, c.turns.invariant.later);
    }

pub returns-clause-unfinished : goal.returns-clause-unfinished
returns-clause-unfinished g c = λ some. c.turns.invariant.unfinished (let h = c.turns-test.false in omega arith)

pub returns-clause-empty : goal.returns-clause-empty
returns-clause-empty g c = λ none. (refl, c.turns.invariant.untouched (let w = c.turns.invariant.within in let l : length c.args.bytes.now ≡ 0 = ap length none in omega arith))
