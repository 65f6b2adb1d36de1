use Rattle.std.proofs.Common.{◌<◌, arith}
use Rattle.std.proofs.lemmas.Str.{IsUtf8-from_ascii}
use Rattle.std.proofs.lemmas.Str.Ascii.{IsAscii-from_all}
use Rattle.std.proofs.lemmas.List.Elements.{All-from_get_or}
use Rattle.std.proofs.lemmas.Bool.Decides.{nat_tests}
use Rattle.flight_feed.proofs.begun.is_text.Goals as goal

pub returns-then-greatest-lt128 : goal.returns-then-greatest-lt128
returns-then-greatest-lt128 c =
    let small = c.if-greatest-lt128.true in
    (λ _. IsUtf8-from_ascii c.args.bytes.now (IsAscii-from_all c.args.bytes.now (All-from_get_or (λ b. b < 128) c.args.bytes.now 0 (λ i within. let most = c.greatest.ensures i within in omega (arith, most, small)))), λ _. grind (arith, nat_tests, small))
