use Rattle.std.proofs.Common.{◌≡◌, ◌∙◌, ap, map, false, subst}
use Rattle.std.specs.Prelude.{◌==◌, slice_get}
use Rattle.std.specs.List.{list_any}
use Rattle.flight_syntax.specs.Form.{is_scripted}
use Rattle.flight_script.proofs.Seeing.{also, marked_at}
use Rattle.flight_script.proofs.seen.scripted.Goals as goal

pub returns-clause-is : goal.returns-clause-is
returns-clause-is c i h =
    marked_at c.args.script.now.sources c.in_ok-settled.settled.items c.mark_settlers.new.settled.items c.new.result (is_scripted c.args.script.now i) i h (c.in_ok-settled.ensures ∙ ap (map (λ s. false)) c.as_slice.ensures)
    (subst (λ all. slice_get c.mark_settlers.new.settled.items i ≡ also (list_any (λ own. list_any (λ n. n == i) own) all) (slice_get c.in_ok-settled.settled.items i)) c.as_slice-2.ensures (c.mark_settlers.ensures.is i)) c.new.ensures
