use Rattle.std.proofs.Common.{◌≡◌, ◌++◌, ◌∷◌, [], map, take, drop, codes, bytes_eq, refl, sym, ap, subst, ◌∙◌, arith, rules, if◌then◌else◌}
use Rattle.flight_syntax.specs.Faults as faults
use Rattle.flight_parse.specs.Code.{placed, tree_of, property_of, entry_of}
use Rattle.flight_parse.specs.Declarations.{declaration_of}
use Rattle.flight_resolve.proofs.Firsts.{steps}
use Rattle.flight_resolve.proofs.program.in_declarations.Goals as goal

pub loop-declaration-preserved : goal.loop-declaration-preserved
loop-declaration-preserved c =
    steps (λ ds. faults.each_faults (map declaration_of c.args.declared.now) (map declaration_of ds)) (λ d. faults.declaration_faults (map declaration_of c.args.declared.now) (declaration_of d)) (λ x xs. refl)
    c.args.declared.now c.loop-declaration.declaration-index c.declaration-item.result (omega arith) c.declaration-item.is c.loop-declaration.first c.first_of-first.result c.in_ok-fault.fault
    (faults.first_fault (faults.each_faults (map declaration_of c.args.declared.now) (map declaration_of c.args.declared.now))) c.loop-declaration.invariant c.in_ok-fault.ensures c.first_of-first.ensures.is
