use Rattle.std.proofs.lemmas.Result.{err_from_is_err_and}
use Rattle.flight_text.proofs.Paths.{no_place_whole, no_place_front}
use Rattle.flight_text.proofs.reference.read_reference.Goals as goal

pub returns-in_err-read_id-in-None : goal.returns-in_err-read_id-in-None
returns-in_err-read_id-in-None c =
    let p = err_from_is_err_and c.from_residual.result c.from_residual.ensures.1 in
    rw (p.1, p.2) (no_place_whole c.args.text.now _ c.in-None.ensures c.in_err-read_id-in-None.ensures)

pub returns-in_err-read_id-in-Some : goal.returns-in_err-read_id-in-Some
returns-in_err-read_id-in-Some c =
    let p = err_from_is_err_and c.from_residual-in_err-read_id-in-Some.result c.from_residual-in_err-read_id-in-Some.ensures.1 in
    rw (p.1, p.2) (no_place_front c.args.text.now c.in-Some.digits.now c.in-Some.path.now _ c.in-Some.ensures.0 c.in-Some.ensures.1 c.in_err-read_id-in-Some.ensures)
