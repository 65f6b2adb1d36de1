-- What stands at keys.
use Rattle.std.proofs.Common.{◌≡◌, ℕ, Bool, List, Some, slice_get, sym, ◌∙◌, ap}
use Rattle.std.specs.Prelude.{option_map, option_and_then}
use Rattle.flight_value.specs.Store.{Shape}
use Rattle.flight_value.specs.declared.key.Key.{Key}
use Rattle.flight_value.specs.declared.key.Key.TheVariants as key
use Rattle.flight_value.specs.declared.made.Made.{Made}
use Rattle.flight_value.specs.declared.name.Name.{Name}
use Rattle.flight_syntax.specs.declared.script.Flowing.{Flowing}
use Rattle.flight_render.specs.declared.root.Ground.{Ground}
use Rattle.flight_render.specs.Bodies.{node_at}
use Rattle.flight_render.specs.Jobs.{Value}
use Rattle.flight_render.specs.Plain.{NodeIs, shape_at, made_shape, flow_shape}

pub made_node : (g : Ground) (s : List Bool) (k : Key) (n : Name) (m : Made) (shape : Shape Value) → k ≡ key.Made n → node_at g s n ≡ Some m → made_shape g m ≡ Some shape → NodeIs g s k shape
made_node g s k n m shape e at h = ap (shape_at g s) e ∙ (ap (option_and_then (made_shape g)) at ∙ h)

pub stream_node : (g : Ground) (s : List Bool) (k : Key) (n : ℕ) (f : Flowing) (shape : Shape Value) → k ≡ key.Stream n → Some f ≡ slice_get g.script.streams n → shape ≡ flow_shape g s f → NodeIs g s k shape
stream_node g s k n f shape e at h = ap (shape_at g s) e ∙ (ap (option_map (flow_shape g s)) (sym at) ∙ ap Some (sym h))
