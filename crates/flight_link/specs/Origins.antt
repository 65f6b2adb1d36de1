-- From which rows the nodes of a graph come.
use Rattle.std.specs.Prelude.{ℕ, ◌≡◌, List, length, slice_get, Some}
use Rattle.flight_value.specs.Graph.{IsValid}
use Rattle.flight_value.specs.Store.{Fits, Paired, of_graph}
use Rattle.flight_value.specs.declared.graph.Graph.{Graph}
use Rattle.flight_graph.specs.Canon.{canon_of}
use Rattle.flight_meaning.specs.declared.place.PlacedRow.{PlacedRow}
use Rattle.flight_meaning.specs.Meaning.{Identity, made_at, promise_of, stream_of, action_of, meaning}

-- the id of the row that holds a node: of its place, and of a promise, a stream or a server reference its own
abbrev pub origin_of : Identity → ℕ
origin_of (made_at s) = s.id
origin_of (promise_of id) = id
origin_of (stream_of id) = id
origin_of (action_of id) = id

-- for each node of the canon of what the rows mean, in order, the id of the row that holds it
pub record AreOrigins (rows : List PlacedRow) (ids : List ℕ) : Type 0 where
  pub graph : Graph
  pub valid : IsValid graph
  pub is_canon : canon_of graph ≡ graph
  pub pairs : List (ℕ × Identity)
  pub fits : Fits (Paired pairs) (of_graph graph) (meaning rows)
  pub one_each : length ids ≡ length graph.nodes
  pub each : (n : ℕ) (node : Identity) → Paired pairs n node → slice_get ids n ≡ Some (origin_of node)
