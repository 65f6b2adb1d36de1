use Rattle.std.proofs.Common.{◌≡◌, sym, subst, Some}
use Rattle.serde_json.specs.Read.{read}
use Rattle.serde_json.specs.View.{view}
use Rattle.flight_script.specs.Script.{script_tests, tests, IsScriptOf}
use Rattle.flight_script.specs.Tests.{AllPass}
use Rattle.flight_script.proofs.Formed.{has_form}
use Rattle.flight_script.proofs.script.read_script.Goals as goal

pub returns-then-script_fits-clause-form : goal.returns-then-script_fits-clause-form
returns-then-script_fits-clause-form c =
    let bytes = c.args.bytes.now in
    let declared = c.args.program.now.declared in
    let d = view c.in_ok-script.script in
    let s = c.in_ok-script-2.script in
    let r : read bytes ≡ Some d = subst (λ b. read b ≡ Some d) c.utf8-2.ensures c.in_ok-script.ensures.ok in
    let pass = subst (λ ds. AllPass (script_tests d ds)) c.as_slice.ensures c.in_ok-script-2.ensures.pass in
    let is : IsScriptOf bytes declared s = record { json = d; is_read = r; all_pass = subst (λ o. AllPass (tests o declared)) (sym r) pass; is_script = c.in_ok-script-2.ensures.is } in
    has_form bytes declared s is (sym c.if-script_fits.ensures)
