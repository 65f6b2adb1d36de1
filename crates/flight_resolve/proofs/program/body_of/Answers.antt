use Rattle.std.proofs.Common.{◌≡◌, ◌∙◌, map, subst, rules, IfOk}
use Rattle.flight_syntax.specs.Term.{term}
use Rattle.flight_syntax.specs.Meaning.{meaning}
use Rattle.flight_parse.specs.Code.{tree_of}
use Rattle.flight_parse.specs.Declarations.{declaration_of}
use Rattle.flight_resolve.proofs.Scopes.{none_in}
use Rattle.flight_resolve.proofs.program.body_of.Goals as goal

pub returns : goal.returns
returns c =
    subst (λ s. IfOk c.expr_of.result (λ e. term e ≡ meaning (map declaration_of c.args.declared.now) s (tree_of c.args.tree.now))) (none_in c.args.params.now c.as_slice.result.now (search rules)) c.expr_of.ensures
