-- The tasks of the root and of server elements.
use Rattle.std.proofs.Common.{◌≡◌, ℕ, Bool, true, List, [], ◌∷◌, ◌++◌, Option, Some, None, refl, sym, ◌∙◌, ap, subst, true≢false}
use Rattle.std.specs.Prelude.{is_some, if◌then◌else◌, unwrap_or}
use Rattle.flight_value.specs.declared.made.Made.{Made}
use Rattle.flight_value.specs.declared.made.Tables.{Tables}
use Rattle.flight_value.specs.declared.made.Tree.{Tree}
use Rattle.flight_value.specs.declared.made.Tree.TheVariants as tree
use Rattle.flight_value.specs.declared.name.Name.{Name}
use Rattle.flight_render.specs.declared.root.Ground.{Ground}
use Rattle.flight_render.specs.declared.job.What.TheVariants as what
use Rattle.flight_render.specs.Run.{fail}
use Rattle.flight_render.specs.Values.{made_in}
use Rattle.flight_render.specs.Operators.{type_digest}
use Rattle.flight_render.specs.Body.{fresh, root_body}
use Rattle.flight_render.specs.Bodies.{inner, element_of, next_body, body_at, node_at, tables_at, tables_for, tables_with, finished, is_finished}
use Rattle.flight_render.specs.Jobs.{the_root, element, shown, of_job, is_server}
use Rattle.flight_render.specs.Costs.{Reached, at_root}
use Rattle.flight_render.specs.Valid.{IsValidGround}
use Rattle.flight_render.proofs.Larger.{finished-is}
use Rattle.flight_render.proofs.Falling.{body_with-tables, tables_of-element}
use Rattle.flight_render.proofs.There.{tables_belong}
use Rattle.flight_seq.specs.declared.known.Known.TheVariants as known
use Rattle.flight_seq.specs.declared.walk.Walk.{Walk}
use Rattle.flight_seq.specs.Walk.{IsEntry, IsWalk, IsAsked}
use Rattle.flight_seq.specs.Chain.{HasInside}
use Rattle.flight_seq.proofs.Walks.{known_entry, finishes_end}

root_there : (g : Ground) (s : List Bool) → (body_at g s [] ≡ Some (root_body g s)) × ([] ≡ tables_at g s [])
unfolding body_at tables_at
root_there g s = (refl, refl)

pub asked_root : (g : Ground) (s : List Bool) (a : List ℕ) → a ≡ [] → IsAsked g s a what.Root
asked_root g s a e = subst (λ x. IsAsked g s x what.Root) (sym e) (record {
  is_what = refl;
  is_body = (root_there g s).0;
  tables = (root_there g s).1;
  addressed = refl;
  value = of_job the_root;
  met = at_root;
  is_job = refl;
})

-- ---- server elements

server_is : (o : Option Made) → is_server o ≡ true → (m : Made) × (o ≡ Some m)
server_is None e = absurd (true≢false (sym e))
server_is (Some m) e = (m, refl)

run_of : (g : Ground) (s : List Bool) (ts : List (List Made)) (a : List ℕ) (o : Option (ℕ × Tree)) → is_some o ≡ true → next_body g s ts a o ≡ Some (unwrap_or (next_body g s ts a o) (fail type_digest fresh))
run_of g s ts a None e = absurd (true≢false (sym e))
run_of g s ts a (Some x) e = refl

inside_tables : (g : Ground) (s : List Bool) (fuel : ℕ) (w : Walk) (n : Name) (t : Tables) → IsWalk g s fuel w → HasInside w.bodies.entries n.render t → t.made ≡ tables_for g s n
inside_tables g s fuel w n t walk h =
    let entry = known_entry (IsEntry g s fuel) w.bodies.entries n.render (known.Finished h.0 t h.1 h.2) walk.bodies h.3 in
    let done : is_finished entry.here.step ≡ true = ap is_finished entry.is_known.2 ∙ finishes_end h.1 in
    entry.is_known.1
    ∙ (ap (λ (m : List Made). tables_at g s n.render ++ m ∷ []) entry.is_known.0
    ∙ (ap (λ o. tables_with (tables_at g s n.render) o) (sym (finished-is entry.here done))
    ∙ ap (λ o. tables_with (tables_at g s n.render) (finished o)) (sym entry.is_body)))

pub asked_element : (g : Ground) → IsValidGround g → (s : List Bool) (fuel : ℕ) (w : Walk) (n : Name) (t : Tables) (a : List ℕ) → IsWalk g s fuel w → Reached g s (shown (tree.Made n)) → is_server (node_at g s n) ≡ true → HasInside w.bodies.entries n.render t → a ≡ inner n → IsAsked g s a (what.Element n t)
asked_element g valid s fuel w n t a walk met server inside e = subst (λ x. IsAsked g s x (what.Element n t)) (sym e) (
    let tables = inside_tables g s fuel w n t walk inside in
    let belong = tables_belong g valid s n t.made (server_is (node_at g s n) server, tables) in
    let there : is_some (element_of (made_in t.made n)) ≡ true = ap (λ o. is_some (element_of o)) belong.1 ∙ server in
    record {
      is_what = (refl, belong.0, there);
      is_body = body_with-tables g s n
          ∙ (ap (λ ts. next_body g s ts (inner n) (element_of (node_at g s n))) (sym tables)
          ∙ (ap (λ o. next_body g s t.made (inner n) (element_of o)) (sym belong.1)
          ∙ run_of g s t.made (inner n) (element_of (made_in t.made n)) there));
      tables = tables ∙ sym (tables_of-element g s n);
      addressed = refl;
      value = shown (tree.Made n);
      met = met;
      is_job = ap (λ b. if b then Some (element n) else None) server;
    })
