use Rattle.std.proofs.Common.{rules, sym, Ok, Err}
use Rattle.std.proofs.lemmas.Fn.{always_returns_same}
use Rattle.std.specs.Cmp.Lexicographic.{slice_cmp}
use Rattle.std.specs.Ordering.{nat_cmp}
use Rattle.flight_syntax.specs.declared.script.Data.{Data}
use Rattle.flight_eval.proofs.Searched.{searched_name}
use Rattle.flight_eval.proofs.parts.source_at.Goals as goal

pub returns-in-Ok : goal.returns-in-Ok
returns-in-Ok c =
    sym (searched_name (λ (x : Data). x.name) c.args.name.now c.args.sources.now (Ok c.in-Ok.at) c.requires c.in-Ok.ensures.bound
    (c.in-Ok.ensures.position (λ (x : Data). slice_cmp nat_cmp x.name c.args.name.now) (always_returns_same _ _ _ (λ a r f h. search rules))))

pub returns-in-Err : goal.returns-in-Err
returns-in-Err c =
    sym (searched_name (λ (x : Data). x.name) c.args.name.now c.args.sources.now (Err c.in-Err.field-0) c.requires c.in-Err.ensures.bound
    (c.in-Err.ensures.position (λ (x : Data). slice_cmp nat_cmp x.name c.args.name.now) (always_returns_same _ _ _ (λ a r f h. search rules))))
