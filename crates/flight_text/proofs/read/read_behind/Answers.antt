use Rattle.std.proofs.lemmas.Result.{err_from_is_err_and}
use Rattle.flight_text.specs.Hex.{IsId}
use Rattle.flight_text.specs.Big.{IsBig}
use Rattle.flight_text.specs.Reference.{IsReference}
use Rattle.flight_text.proofs.Lines.{no_line, behind_sign, date_answer, IsOther, other_answer}
use Rattle.std.proofs.Common.{inl, inr, arith}
use Rattle.flight_text.proofs.read.read_behind.Goals as goal

pub returns-in_err-read_id-in-L : goal.returns-in_err-read_id-in-L
returns-in_err-read_id-in-L c =
    let p = err_from_is_err_and c.from_residual-in_err-read_id-in-L.result c.from_residual-in_err-read_id-in-L.ensures.1 in
    rw (p.1, p.2) (no_line (IsId c.in-Some.rest.now) c.args.text.now 76 c.in-Some.rest.now _ (behind_sign c.args.text.now c.in-Some.rest.now c.in-Some.sign 76 (omega arith) c.in-Some.ensures c.in-L.is) (λ m l. (l.0, l.1)) c.in_err-read_id-in-L.ensures)

pub returns-in_err-read_id-in-64 : goal.returns-in_err-read_id-in-64
returns-in_err-read_id-in-64 c =
    let p = err_from_is_err_and c.from_residual-in_err-read_id-in-64.result c.from_residual-in_err-read_id-in-64.ensures.1 in
    rw (p.1, p.2) (no_line (IsId c.in-Some.rest.now) c.args.text.now 64 c.in-Some.rest.now _ (behind_sign c.args.text.now c.in-Some.rest.now c.in-Some.sign 64 (omega arith) c.in-Some.ensures c.in-64.is) (λ m l. (l.0, l.1)) c.in_err-read_id-in-64.ensures)

pub returns-in_err-read_id-in-F : goal.returns-in_err-read_id-in-F
returns-in_err-read_id-in-F c =
    let p = err_from_is_err_and c.from_residual-in_err-read_id-in-F.result c.from_residual-in_err-read_id-in-F.ensures.1 in
    rw (p.1, p.2) (elim c.in-F.is [
      | inl is ↦ no_line (IsId c.in-Some.rest.now) c.args.text.now 70 c.in-Some.rest.now _ (behind_sign c.args.text.now c.in-Some.rest.now c.in-Some.sign 70 (omega arith) c.in-Some.ensures is) (λ m l. (l.0, l.1)) c.in_err-read_id-in-F.ensures
      | inr is ↦ no_line (IsId c.in-Some.rest.now) c.args.text.now 104 c.in-Some.rest.now _ (behind_sign c.args.text.now c.in-Some.rest.now c.in-Some.sign 104 (omega arith) c.in-Some.ensures is) (λ m l. (l.0, l.1)) c.in_err-read_id-in-F.ensures
    ])

pub returns-in_err-read_reference-in-Q : goal.returns-in_err-read_reference-in-Q
returns-in_err-read_reference-in-Q c =
    let p = err_from_is_err_and c.from_residual-in_err-read_reference-in-Q.result c.from_residual-in_err-read_reference-in-Q.ensures.1 in
    rw (p.1, p.2) (no_line (IsReference c.in-Some.rest.now) c.args.text.now 81 c.in-Some.rest.now _ (behind_sign c.args.text.now c.in-Some.rest.now c.in-Some.sign 81 (omega arith) c.in-Some.ensures c.in-Q.is) (λ m l. (l.0, l.1)) c.in_err-read_reference-in-Q.ensures)

pub returns-in_err-read_reference-in-W : goal.returns-in_err-read_reference-in-W
returns-in_err-read_reference-in-W c =
    let p = err_from_is_err_and c.from_residual-in_err-read_reference-in-W.result c.from_residual-in_err-read_reference-in-W.ensures.1 in
    rw (p.1, p.2) (no_line (IsReference c.in-Some.rest.now) c.args.text.now 87 c.in-Some.rest.now _ (behind_sign c.args.text.now c.in-Some.rest.now c.in-Some.sign 87 (omega arith) c.in-Some.ensures c.in-W.is) (λ m l. (l.0, l.1)) c.in_err-read_reference-in-W.ensures)

pub returns-in_err-read_big-in-n : goal.returns-in_err-read_big-in-n
returns-in_err-read_big-in-n c =
    let p = err_from_is_err_and c.from_residual-in_err-read_big-in-n.result c.from_residual-in_err-read_big-in-n.ensures.1 in
    rw (p.1, p.2) (no_line (IsBig c.in-Some.rest.now) c.args.text.now 110 c.in-Some.rest.now _ (behind_sign c.args.text.now c.in-Some.rest.now c.in-Some.sign 110 (omega arith) c.in-Some.ensures c.in-n.is) (λ m l. (l.0, l.1)) c.in_err-read_big-in-n.ensures)

pub returns-in-D : goal.returns-in-D
returns-in-D c = date_answer c.args.text.now c.in-Some.rest.now c.read_date.result (behind_sign c.args.text.now c.in-Some.rest.now c.in-Some.sign 68 (omega arith) c.in-Some.ensures c.in-D.is) c.read_date.ensures.ok c.read_date.ensures.bad

pub returns-in_default-sign : goal.returns-in_default-sign
returns-in_default-sign c =
    let is : IsOther c.in-Some.sign = record {
      no_dollar = omega arith;
      no_lazy = omega arith;
      no_promise = omega arith;
      no_action = grind arith;
      no_old_action = grind arith;
      no_map = omega arith;
      no_set = omega arith;
      no_big = omega arith;
      no_date = omega arith;
      no_symbol = omega arith;
    } in
    other_answer c.args.text.now c.in-Some.rest.now c.in-Some.sign c.read_word_or_place.result c.in-Some.ensures is c.read_word_or_place.ensures.ok c.read_word_or_place.ensures.bad
