use Rattle.std.proofs.Common.{rules, sym, Ok, Err}
use Rattle.std.proofs.lemmas.Fn.{always_returns_same}
use Rattle.std.specs.Cmp.Lexicographic.{slice_cmp}
use Rattle.std.specs.Ordering.{nat_cmp}
use Rattle.flight_meaning.specs.declared.place.Named.{Named}
use Rattle.flight_link.proofs.Searched.{searched_property}
use Rattle.flight_link.proofs.step.property_of.Goals as goal

pub returns-in-Ok : goal.returns-in-Ok
returns-in-Ok c =
    sym (searched_property c.args.props.now c.args.name.now (Ok c.in-Ok.at) c.requires c.in-Ok.ensures.bound
    (c.in-Ok.ensures.position (λ (p : Named). slice_cmp nat_cmp p.name c.args.name.now) (always_returns_same _ _ _ (λ a r f h. search rules))) _)

pub returns-in-Err : goal.returns-in-Err
returns-in-Err c =
    sym (searched_property c.args.props.now c.args.name.now (Err c.in-Err.field-0) c.requires c.in-Err.ensures.bound
    (c.in-Err.ensures.position (λ (p : Named). slice_cmp nat_cmp p.name c.args.name.now) (always_returns_same _ _ _ (λ a r f h. search rules))))
