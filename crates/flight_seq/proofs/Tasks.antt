-- What an attempt says of the body at an address.
use Rattle.std.proofs.Common.{◌≡◌, ℕ, ◌<◌, Bool, List, [], Some, sym, ◌∙◌, ap, subst, inr}
use Rattle.std.specs.Prelude.{option_map}
use Rattle.std.proofs.lemmas.Option.{none-some, same_Some}
use Rattle.flight_value.specs.declared.made.Tree.{Tree}
use Rattle.flight_render.specs.declared.root.Ground.{Ground}
use Rattle.flight_render.specs.declared.job.What.{What}
use Rattle.flight_render.specs.Run.{Run, End}
use Rattle.flight_render.specs.Bodies.{inner, body_at}
use Rattle.flight_render.specs.Jobs.{Job, the_root, element, outcome, known, blank, comes, job_body}
use Rattle.flight_render.specs.Costs.{address_of, IsOver}
use Rattle.flight_render.specs.Attempt.{job_for, run_for}
use Rattle.flight_seq.specs.declared.known.Known.{Known}
use Rattle.flight_seq.specs.declared.known.Known.TheVariants as body
use Rattle.flight_seq.specs.declared.walk.Walk.{Walk}
use Rattle.flight_seq.specs.Held.{known_end}
use Rattle.flight_seq.specs.Walk.{Entry, known_at, IsEntry, IsKnownAt, IsKnownBody, IsMetJob, IsWalk, IsAsked, Reaches, Ends}
use Rattle.flight_seq.proofs.Walks.{known_entry}
use Rattle.flight_seq.proofs.Pushing.{goes_none}

pub body_of_job : (g : Ground) (s : List Bool) (j : Job) (a : List ℕ) → address_of j ≡ Some a → job_body g s j ≡ body_at g s a
body_of_job g s the_root a e = ap (body_at g s) (same_Some [] a e)
body_of_job g s (element n) a e = ap (body_at g s) (same_Some (inner n) a e)
body_of_job g s (outcome i) a e = absurd (none-some a e)
body_of_job g s (known slot) a e = absurd (none-some a e)
body_of_job g s blank a e = absurd (none-some a e)

pub over_body : (g : Ground) (s : List Bool) (fuel : ℕ) (a : List ℕ) (w : What) → IsAsked g s a w → fuel < (run_for g s w).after.cost → IsOver g s fuel
over_body g s fuel a w asked more = inr (record {
  value = asked.value;
  met = asked.met;
  job = job_for g w;
  is_job = asked.is_job;
  here = run_for g s w;
  is_body = body_of_job g s (job_for g w) a asked.addressed ∙ asked.is_body;
  more = more;
})

-- ---- the end of a task's body

comes_body : (g : Ground) (s : List Bool) (j : Job) (a : List ℕ) → address_of j ≡ Some a → comes g s j ≡ option_map (λ b. b.step) (body_at g s a)
unfolding comes
comes_body g s the_root a e = ap (λ x. option_map (λ b. b.step) (body_at g s x)) (same_Some [] a e)
comes_body g s (element n) a e = ap (λ x. option_map (λ b. b.step) (body_at g s x)) (same_Some (inner n) a e)
comes_body g s (outcome i) a e = absurd (none-some a e)
comes_body g s (known slot) a e = absurd (none-some a e)
comes_body g s blank a e = absurd (none-some a e)

step_known : (g : Ground) (s : List Bool) (a : List ℕ) (k : Known) (here : Run Tree) → IsKnownBody g s a k here → here.step ≡ known_end k
step_known g s a (body.Finished made inside gave_it cost) here is = is.2
step_known g s a (body.Waits source) here is = is

job_met : (es : List Entry) (j : Job) (a : List ℕ) → address_of j ≡ Some a → IsKnownAt es a → IsMetJob es j
job_met es the_root a e h = subst (IsKnownAt es) (sym (same_Some [] a e)) h
job_met es (element n) a e h = subst (IsKnownAt es) (sym (same_Some (inner n) a e)) h
job_met es (outcome i) a e h = absurd (none-some a e)
job_met es (known slot) a e h = absurd (none-some a e)
job_met es blank a e h = absurd (none-some a e)

pub ends_known : (g : Ground) (s : List Bool) (fuel : ℕ) (a : List ℕ) (w : What) (k : Known) (h : End) (old new : Walk) → IsAsked g s a w → Reaches g s fuel a old new → known_at new.bodies.entries a ≡ Some k → h ≡ known_end k → Ends g s fuel w h old new
ends_known g s fuel a w k h old new asked reaches at is =
    let entry = known_entry (IsEntry g s fuel) new.bodies.entries a k reaches.walk.bodies at in
    record {
      walk = reaches.walk;
      goes_on = reaches.goes_on;
      comes_to = comes_body g s (job_for g w) a asked.addressed ∙ (ap (option_map (λ b. b.step)) entry.is_body ∙ ap Some (step_known g s a k entry.here entry.is_known ∙ sym is));
      met = job_met new.bodies.entries (job_for g w) a asked.addressed reaches.knows;
    }

pub reaches_here : (g : Ground) (s : List Bool) (fuel : ℕ) (a : List ℕ) (k : Known) (w : Walk) → IsWalk g s fuel w → known_at w.bodies.entries a ≡ Some k → Reaches g s fuel a w w
reaches_here g s fuel a k w walk at = record { walk = walk; goes_on = goes_none w; knows = (k, at) }
