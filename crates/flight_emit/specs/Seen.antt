-- What a writer sees by the bodies that finished.
use Rattle.std.specs.Prelude.{ℕ, suc, ◌≡◌, Bool, true, List, [], ◌∷◌, ◌++◌, if◌then◌else◌, Option, Some, None, length, take, drop}
use Rattle.std.specs.List.{AllByRecursion}
use Rattle.std.specs.Option.{option_or}
use Rattle.std.specs.Str.{bytes_eq}
use Rattle.flight_value.specs.declared.made.Made.{Made}
use Rattle.flight_value.specs.declared.made.MadeKind.TheVariants as kind
use Rattle.flight_value.specs.declared.made.Tree.{Tree}
use Rattle.flight_value.specs.declared.name.Name.{Name}
use Rattle.flight_eval.specs.declared.body.Body.{Body}
use Rattle.flight_eval.specs.Attempted.{end_of}
use Rattle.flight_render.specs.declared.root.Ground.{Ground}
use Rattle.flight_render.specs.Run.{End, gave}
use Rattle.flight_render.specs.Valid.{IsValidGround, IsNamed, MadeWell, IsKey}
use Rattle.flight_render.specs.Values.{made_in}
use Rattle.flight_render.specs.Bodies.{inner}
use Rattle.flight_render.specs.Jobs.{is_server}
use Rattle.flight_state.specs.Local.{Seen}

-- the tables of a body, and the nodes that it made behind them
abbrev pub tables_to : Body → List (List Made)
tables_to b = b.tables.made ++ b.made ∷ []

-- the node stands at the body's address or above it
abbrev pub is_above : List ℕ → List ℕ → Bool
is_above render address = bytes_eq (take (length render) address) render

abbrev pub node_by : Body → Name → Option Made
node_by b n = if is_above n.render b.address then made_in (tables_to b) n else None

abbrev pub look : List Body → Name → Option Made
look [] n = None
look (b ∷ bs) n = option_or (node_by b n) (look bs n)

-- how the body of a server element ended
abbrev pub end_at : List Body → Name → Option End
end_at [] n = None
end_at (b ∷ bs) n = if bytes_eq b.address (inner n) then Some (end_of b.gave) else end_at bs n

-- the tables of a server element: what the bodies down to its node made
abbrev pub tables_by : List Body → Name → List (List Made)
tables_by [] n = []
tables_by (b ∷ bs) n = if is_above n.render b.address then take (suc (length n.render)) (tables_to b) else tables_by bs n

-- the first body is the task's own, and the others are those of server elements
abbrev pub seen_of : List Body → Seen
seen_of bodies = record { look = look bodies; ends = end_at (drop 1 bodies); tables = tables_by bodies }

-- a server element
abbrev pub IsServerNode : Option Made → Type 0
IsServerNode o = (m : Made) × (o ≡ Some m) × (is_server (Some m) ≡ true)

-- ---- a scene in which each name is found

abbrev pub IsElementKeyed : Made → Type 0
IsElementKeyed m = m.kind ≡ kind.Element → (tag key props : Tree) × (m.slots ≡ tag ∷ key ∷ props ∷ []) × IsKey key

pub record IsScene (g : Ground) (bodies : List Body) : Type 0 where
  pub ground : IsValidGround g
  pub nodes : (n : Name) (m : Made) → look bodies n ≡ Some m → AllByRecursion (IsNamed g (look bodies)) m.slots × MadeWell g (look bodies) m.kind m.slots
  pub keyed : (n : Name) (m : Made) → look bodies n ≡ Some m → IsElementKeyed m
  pub ends : (n : Name) (t : Tree) → end_at (drop 1 bodies) n ≡ Some (gave t) → IsNamed g (look bodies) t
