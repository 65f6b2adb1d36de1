use Rattle.std.proofs.Common.{◌≡◌, ◌++◌, ◌∷◌, [], map, take, sym, ap, subst, ◌∙◌, arith}
use Rattle.flight_syntax.specs.Derives.{said}
use Rattle.flight_parse.specs.Declarations.{declaration_of}
use Rattle.flight_resolve.specs.Kept.{IsKept}
use Rattle.flight_resolve.proofs.Keeping.{kept_steps}
use Rattle.flight_resolve.proofs.program.program.Goals as goal

pub loop-declaration-preserved : goal.loop-declaration-preserved
loop-declaration-preserved c =
    kept_steps (IsKept (map declaration_of c.args.declared.now)) declaration_of said c.args.declared.now c.loop-declaration.declaration-index c.declaration-item.result (omega arith) c.declaration-item.is
    c.loop-declaration.kept.items c.push.new.self.items c.in_ok-declaration.declaration c.loop-declaration.invariant c.in_ok-declaration.ensures c.in_ok-push.ensures.items
