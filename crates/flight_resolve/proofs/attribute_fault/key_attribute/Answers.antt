use Rattle.std.proofs.Common.{◌≡◌, ◌++◌, ◌∷◌, [], map, take, drop, codes, bytes_eq, refl, sym, ap, subst, ◌∙◌, arith, rules, if◌then◌else◌}
use Rattle.flight_syntax.specs.Faults as faults
use Rattle.flight_parse.specs.Code.{placed, tree_of, property_of, entry_of}
use Rattle.flight_resolve.proofs.Firsts.{steps}
use Rattle.flight_resolve.proofs.attribute_fault.key_attribute.Goals as goal

pub loop-name-preserved : goal.loop-name-preserved
loop-name-preserved c =
    steps (λ ns. faults.key_attributes (map (λ n. placed n.now) ns)) (λ n. if bytes_eq n.now.bytes (codes "key") then faults.key_on_server (placed n.now) ∷ [] else []) (λ x xs. refl)
    c.args.names.now c.loop-name.name-index c.name-item.result (omega arith) c.name-item.is c.loop-name.first c.first_of-first.result c.in_ok-fault.fault (faults.first_fault (faults.key_attributes (map (λ n. placed n.now) c.args.names.now)))
    c.loop-name.invariant c.in_ok-fault.ensures c.first_of-first.ensures.is
