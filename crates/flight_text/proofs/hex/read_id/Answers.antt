use Rattle.std.proofs.Common.{ℕ, ◌≡◌, ◌∙◌, sym, true, Ok, Err, arith}
use Rattle.std.specs.List.{list_all}
use Rattle.flight_text.specs.Hex.{is_hex_digit}
use Rattle.flight_text.proofs.Digits.{from_hex}
use Rattle.flight_text.proofs.hex.read_id.Goals as goal

pub returns-in-Ok : goal.returns-in-Ok
returns-in-Ok c =
    let lower : list_all is_hex_digit c.args.digits.now ≡ true = sym c.are_digits.ensures ∙ c.if-not-are_digits.false in
    let read = from_hex {E = ℕ} c.args.digits.now (Ok c.in-Ok.id) lower c.in-Ok.ensures.value in
    record { hex = record { lower = lower; some = read.0.0; short = omega arith; value = sym read.1 }; small = omega arith }

pub returns-in_default-2 : goal.returns-in_default-2
returns-in_default-2 c =
    let lower : list_all is_hex_digit c.args.digits.now ≡ true = sym c.are_digits.ensures ∙ c.if-not-are_digits.false in
    λ value is. from_hex {E = ℕ} c.args.digits.now (Err 0) lower c.in_default.ensures.value (is.hex.some, omega arith)
