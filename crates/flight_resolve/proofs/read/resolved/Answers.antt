use Rattle.std.proofs.Common.{◌≡◌, ◌∙◌, map, sym, subst, None, Some}
use Rattle.flight_syntax.specs.Derives.{said}
use Rattle.flight_syntax.specs.Faults.{program_faults}
use Rattle.flight_parse.specs.Declarations.{declaration_of}
use Rattle.flight_resolve.specs.Names.{IsFirst}
use Rattle.flight_resolve.specs.Reports.{IsParseFault}
use Rattle.flight_resolve.proofs.Keeping.{to_program, to_no_app, to_fault}
use Rattle.flight_resolve.proofs.read.resolved.Goals as goal

pub returns-in-Some-clause-fault : goal.returns-in-Some-clause-fault
returns-in-Some-clause-fault c text s =
    subst (IsParseFault text) (sym c.from.ensures) (to_fault text (map declaration_of c.args.declared.now) c.in-Some.fault s (subst (λ o. IsFirst o (program_faults (map declaration_of c.args.declared.now))) c.in-Some.is c.in_ok-found.ensures))

pub returns-then-not-has_app-clause-fault : goal.returns-then-not-has_app-clause-fault
returns-then-not-has_app-clause-fault c text s =
    to_no_app text (map declaration_of c.args.declared.now) s (subst (λ o. IsFirst o (program_faults (map declaration_of c.args.declared.now))) c.in_default.is c.in_ok-found.ensures) (sym c.has_app.ensures ∙ c.if-not-has_app.true)

pub returns-clause-ok : goal.returns-clause-ok
returns-clause-ok c text s =
    to_program text (map declaration_of c.args.declared.now) (map said c.in_ok-program.program.declared) s (subst (λ o. IsFirst o (program_faults (map declaration_of c.args.declared.now))) c.in_default.is c.in_ok-found.ensures) (sym c.has_app.ensures ∙ c.if-not-has_app.false) c.in_ok-program.ensures
