use Rattle.std.proofs.Common.{length, ap, subst}
use Rattle.std.proofs.lemmas.Result.{err_from_is_err_and}
use Rattle.json.specs.Json.{value}
use Rattle.json.specs.Lex.{tokens}
use Rattle.serde_json.specs.Read.{of_json, converted}
use Rattle.flight_place.specs.Places.{visits}
use Rattle.flight_place.specs.Placing.{Stops}
use Rattle.flight_place.proofs.OneByOne.{payload-stops}
use Rattle.flight_place.proofs.tree.whole.Goals as goal

pub returns-in_err-place_next-clause-stops : goal.returns-in_err-place_next-clause-stops
returns-in_err-place_next-clause-stops c =
    let s = err_from_is_err_and c.from_residual-in_err-place_next.result c.from_residual-in_err-place_next.ensures.1 in
    let manner = c.args.manner in
    let e = c.in_err-place_next.field-0.0 in
    let none = c.clear.new.self.items in
    let read = subst (λ ts. Stops manner (visits manner (length none)) (converted of_json (value 127 ts)) e) c.in_ok-reader.ensures.ok c.in_err-place_next.ensures.stops in
    let stops = subst (λ n. Stops manner (visits manner n) (converted of_json (value 127 (tokens c.args.payload.now))) e) (ap length c.clear.ensures.items) read in
    rw (s.1, s.2) (payload-stops manner (value 127 (tokens c.args.payload.now)) e stops)
