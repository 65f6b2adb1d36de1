use Rattle.std.proofs.Common.{◌≡◌, ◌≤◌, ◌∙◌, sym, ap, subst, arith, rules, List, ℕ, IsUtf8, length, refl, string_bytes, Some}
use Rattle.std.specs.Prelude.{Vec}
use Rattle.std.specs.declared.alloc.Global.{Global}
use Rattle.std.proofs.lemmas.Str.{IsUtf8-string_bytes}
use Rattle.serde_json.specs.Read.{read}
use Rattle.serde_json.specs.View.{view}
use Rattle.flight_top.proofs.StaticRows.{root_is}
use Rattle.flight_top.proofs.static_row.root_row.Goals as goal

pub returns : goal.returns
returns c =
    let bytes : c.new.result ≡ string_bytes c.in_ok-payload.payload = c.new.ensures ∙ ap (λ (v : Vec ℕ Global). v.items) c.into_bytes.ensures.value in
    let utf8 = subst IsUtf8 (sym bytes) (IsUtf8-string_bytes c.in_ok-payload.payload) in
    let len = ap length bytes in
    let short : length c.new.result ≤ 67108861 = omega (arith, len) in
    root_is (view c.args.value.now) c.new.result (bytes ∙ c.in_ok-payload.ensures.text c.requires.no_float) utf8 short (ap read bytes ∙ c.in_ok-payload.ensures.reads_back c.requires.shallow)
