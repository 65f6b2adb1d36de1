-- What `plain` owes: what follows for the refusals, and that it is whole.
use Rattle.std.proofs.Common.{◌≡◌, ℕ, ◌<◌, List, length, refl, true, Option, Some, None, codes}
use Rattle.flight_base.specs.Outside.{IsMore}
use Rattle.flight_render.specs.declared.root.Ground.{Ground}
use Rattle.flight_bundle.specs.declared.fault.BundleFault.TheVariants as bundle
use Rattle.flight_bundle.specs.Bundle.{most_bytes}
use Rattle.flight_top.specs.declared.told.Status.{Status}
use Rattle.flight_top.specs.declared.told.Status.TheVariants as status
use Rattle.flight_top.specs.Told.{is_whole}
use Rattle.std.specs.Prelude.{Result, Ok, Err, IfOk}
use Rattle.flight_top.specs.declared.due.Due.{Due}
use Rattle.flight_top.specs.declared.due.Undue.{Undue}
use Rattle.flight_top.specs.Plain.{IsAccepted, IsDueGround, IsDuePlain, IsDuePlainOf}
use Rattle.flight_top.proofs.Long.{long_list}

-- more bytes than a bundle may have
pub plain_too_long : (fuel : ℕ) (left : Option (List ℕ)) → IsMore most_bytes left → IsDuePlainOf fuel left status.Bundle (codes "bundle: too long\n")
plain_too_long fuel None more = let some = long_list most_bytes in (some.0, tt, (bundle.TooLong, some.1, λ e. cc, refl))
plain_too_long fuel (Some left) more = (left, refl, (bundle.TooLong, more, λ e. cc, refl))

-- what is due is printed whole
ground-whole : (fuel : ℕ) (g : Ground) (s : Status) (text : List ℕ) → IsDueGround fuel g s text → is_whole s ≡ true
ground-whole fuel g status.Done text h = refl
ground-whole fuel g status.Usage text h = absurd h
ground-whole fuel g status.Bundle text h = absurd h
ground-whole fuel g status.Stream text h = absurd h
ground-whole fuel g status.Fuel text h = refl
ground-whole fuel g status.Stalled text h = absurd h
ground-whole fuel g status.Read text h = absurd h
ground-whole fuel g status.Write text h = absurd h
ground-whole fuel g status.Memory text h = absurd h

pub plain-whole : (fuel : ℕ) (input : List ℕ) (s : Status) (text : List ℕ) → IsDuePlain fuel input s text → is_whole s ≡ true
plain-whole fuel input status.Bundle text h = refl
plain-whole fuel input status.Done text h = refl
plain-whole fuel input status.Fuel text h = refl
plain-whole fuel input status.Usage text h = ground-whole fuel h.0 status.Usage text h.2
plain-whole fuel input status.Stream text h = ground-whole fuel h.0 status.Stream text h.2
plain-whole fuel input status.Stalled text h = ground-whole fuel h.0 status.Stalled text h.2
plain-whole fuel input status.Read text h = ground-whole fuel h.0 status.Read text h.2
plain-whole fuel input status.Write text h = ground-whole fuel h.0 status.Write text h.2
plain-whole fuel input status.Memory text h = ground-whole fuel h.0 status.Memory text h.2

-- what a ground owes is what its bundle owes
pub ground_due : (fuel : ℕ) (input : List ℕ) (g : Ground) (s : Status) (text : List ℕ) → IsAccepted input g → IsDueGround fuel g s text → IsDuePlain fuel input s text
ground_due fuel input g status.Done text a h = (g, a, h)
ground_due fuel input g status.Usage text a h = absurd h
ground_due fuel input g status.Bundle text a h = absurd h
ground_due fuel input g status.Stream text a h = absurd h
ground_due fuel input g status.Fuel text a h = (g, a, h)
ground_due fuel input g status.Stalled text a h = absurd h
ground_due fuel input g status.Read text a h = absurd h
ground_due fuel input g status.Write text a h = absurd h
ground_due fuel input g status.Memory text a h = absurd h

pub grounds_due : (fuel : ℕ) (input : List ℕ) (g : Ground) (r : Result Due Undue) → IsAccepted input g → IfOk r (λ due. IsDueGround fuel g due.status due.text) → IfOk r (λ due. IsDuePlain fuel input due.status due.text)
grounds_due fuel input g (Ok due) a h = ground_due fuel input g due.status due.text a h
grounds_due fuel input g (Err e) a h = h
