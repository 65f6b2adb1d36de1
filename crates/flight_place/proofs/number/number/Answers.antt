use Rattle.std.proofs.Common.{◌≡◌, drop, get_or, true, false, ◌==◌, sym, ap, ◌∙◌, arith, take_all, length-drop}
use Rattle.fast_float.specs.Text.{scan}
use Rattle.serde_json.specs.Read.{number_of, number_from}
use Rattle.flight_place.proofs.number.number.Goals as goal

pub returns-then-has_sign : goal.returns-then-has_sign
unfolding number_of
returns-then-has_sign c =
    let s = c.as_bytes-bytes.result.now in
    let behind = drop 1 s in
    let signed : (get_or s 0 0 == 45) ≡ true = sym c.if-has_sign.ensures.sign in
    let writes : number_from true (scan behind) ≡ number_of s = rw signed in
    c.negative.ensures ∙ ap (λ bs. number_from true (scan bs)) (take_all _ behind (omega (arith, length-drop 1 s))) ∙ writes ∙ ap number_of c.as_bytes-bytes.ensures.value

pub returns-else-has_sign : goal.returns-else-has_sign
unfolding number_of
returns-else-has_sign c =
    let s = c.as_bytes-bytes.result.now in
    let bare : (get_or s 0 0 == 45) ≡ false = sym c.if-has_sign.ensures.sign in
    let writes : number_from false (scan s) ≡ number_of s = rw bare in
    c.unsigned.ensures ∙ writes ∙ ap number_of c.as_bytes-bytes.ensures.value
