use Rattle.std.proofs.Common.{map, sym, subst, IfOk}
use Rattle.flight_parse.specs.Code.{placed}
use Rattle.flight_resolve.specs.Names.{IsFirst}
use Rattle.flight_resolve.proofs.element_fault.beside_children.Goals as goal

pub returns : goal.returns
returns c = subst (λ l. IfOk c.children_if.result (λ fault. IsFirst fault l)) (sym (c.has_children.ensures (map (λ n. placed n.now) c.args.names.now))) c.children_if.ensures
