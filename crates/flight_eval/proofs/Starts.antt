-- The body of the root and that of a server element, by where they are evaluated.
use Rattle.std.proofs.Common.{ℕ, ◌≡◌, subst, sym, List, [], Option, Some, Result, slice_get}
use Rattle.std.specs.Prelude.{Bool, unwrap_or}
use Rattle.flight_value.specs.declared.name.Name.{Name}
use Rattle.flight_value.specs.declared.made.Made.{Made}
use Rattle.flight_value.specs.declared.made.Tree.{Tree}
use Rattle.flight_render.specs.declared.root.Ground.{Ground}
use Rattle.flight_render.specs.Run.{Machine, Run, fail}
use Rattle.flight_render.specs.Values.{made_in}
use Rattle.flight_render.specs.Operators.{type_digest}
use Rattle.flight_render.specs.Body.{component_start, root_start, run_start, body, root_body, fresh}
use Rattle.flight_render.specs.Bodies.{inner, element_of, next_body}
use Rattle.flight_render.specs.Attempt.{element_run}
use Rattle.flight_render.specs.Valid.{IsWhat}
use Rattle.flight_render.specs.declared.job.What.{What}
use Rattle.flight_render.specs.declared.job.What.TheVariants as what
use Rattle.flight_eval.specs.Address.{IsAddressOf}
use Rattle.flight_eval.specs.declared.stop.Stop.{Stop}
use Rattle.flight_eval.specs.Gives.{Gives}

pub root_at : (fuel : ℕ) (g : Ground) (settled : List Bool) (address : List ℕ) (tables : List (List Made)) (r : Result Tree Stop) (m : Machine) → address ≡ [] → tables ≡ [] → Gives (λ t. t) fuel (run_start (record { over = g; settled = settled; address = address; tables = tables }) (root_start g g.root)) r m → Gives (λ t. t) fuel (root_body g settled) r m
unfolding root_body
root_at fuel g settled address tables r m here none h =
    subst (λ z. Gives (λ t. t) fuel (run_start (record { over = g; settled = settled; address = z; tables = [] }) (root_start g g.root)) r m) here
    (subst (λ z. Gives (λ t. t) fuel (run_start (record { over = g; settled = settled; address = address; tables = z }) (root_start g g.root)) r m) none h)

body_given : (fuel : ℕ) (g : Ground) (settled : List Bool) (address : List ℕ) (tables : List (List Made)) (component : ℕ) (props : Tree) (r : Result Tree Stop) (m : Machine) → Gives (λ t. t) fuel (run_start (record { over = g; settled = settled; address = address; tables = tables }) (component_start g tables (slice_get g.program.declared component) props)) r m → Gives (λ t. t) fuel (body g settled tables component props address) r m
unfolding body
body_given fuel g settled address tables component props r m h = h

pub element_given : (fuel : ℕ) (g : Ground) (settled : List Bool) (n : Name) (address : List ℕ) (tables : List (List Made)) (component : ℕ) (props : Tree) (r : Result Tree Stop) (m : Machine) → address ≡ inner n → element_of (made_in tables n) ≡ Some (component, props) → Gives (λ t. t) fuel (run_start (record { over = g; settled = settled; address = address; tables = tables }) (component_start g tables (slice_get g.program.declared component) props)) r m → Gives (λ t. t) fuel (element_run g settled tables n) r m
element_given fuel g settled n address tables component props r m here found h =
    subst (λ z. Gives (λ t. t) fuel (unwrap_or (next_body g settled tables (inner n) z) (fail type_digest fresh)) r m) (sym found)
    (body_given fuel g settled (inner n) tables component props r m
    (subst (λ z. Gives (λ t. t) fuel (run_start (record { over = g; settled = settled; address = z; tables = tables }) (component_start g tables (slice_get g.program.declared component) props)) r m) here h))

-- ---- addresses

pub address_of : (g : Ground) (address : List ℕ) (w : What) → IsWhat g address w → IsAddressOf w address
address_of g address what.Root h = h
address_of g address (what.Element n tables) h = h.0
address_of g address (what.Promise source) h = tt
address_of g address (what.Known slot) h = tt
address_of g address (what.Item stream index) h = tt
address_of g address (what.Last stream) h = tt
