-- The form of a script, as data: which names, values and numbers it may have.
use Rattle.std.specs.Prelude.{ℕ, ◌^◌, ◌≡◌, ◌≢◌, ◌<◌, ◌≤◌, true, false, List, map, length, All, AllPairs, Some}
use Rattle.flight_value.specs.Graph.{IsValid, slots_of, Ascend}
use Rattle.flight_value.specs.declared.graph.Atom.TheVariants as atom
use Rattle.flight_value.specs.declared.graph.Slot.{Slot}
use Rattle.flight_value.specs.declared.graph.Slot.TheVariants as slot
use Rattle.flight_value.specs.declared.graph.Node.{Node}
use Rattle.flight_value.specs.declared.graph.Node.TheVariants as node
use Rattle.flight_value.specs.declared.graph.Graph.{Graph}
use Rattle.flight_syntax.specs.declared.script.Outcome.{Outcome}
use Rattle.flight_syntax.specs.declared.script.Outcome.TheVariants as outcome
use Rattle.flight_syntax.specs.declared.script.Data.{Data}
use Rattle.flight_syntax.specs.declared.script.Flowing.{Flowing}
use Rattle.flight_syntax.specs.declared.script.Script.{Script}
use Rattle.flight_syntax.specs.Pieces.{is_name}
use Rattle.flight_syntax.specs.Names.{is_keyword}
use Rattle.flight_syntax.specs.Form.{settled_by}

-- a name that is no keyword
abbrev pub IsPlainName : List ℕ → Type 0
IsPlainName name = (is_name name ≡ true) × (is_keyword name ≡ false)

-- what a slot of a source's value may hold: no import, no failure, nothing that is pending
abbrev pub IsSourceSlot : Slot → Type 0
IsSourceSlot (slot.Atom (atom.Import text)) = ⊥
IsSourceSlot (slot.Atom (atom.Failed digest)) = ⊥
IsSourceSlot (slot.Atom atom.Pending) = ⊥
IsSourceSlot s = Unit {0}

-- arrays, objects, maps and sets
abbrev pub IsSourceKind : Node → Type 0
IsSourceKind (node.Array items) = Unit {0}
IsSourceKind (node.Object props) = Unit {0}
IsSourceKind (node.Map pairs) = Unit {0}
IsSourceKind (node.Set items) = Unit {0}
IsSourceKind n = ⊥

abbrev pub IsSourceNode : Node → Type 0
IsSourceNode n = IsSourceKind n × All IsSourceSlot (slots_of n)

pub record IsSourceValue (g : Graph) : Type 0 where
  pub valid : IsValid g
  pub root : IsSourceSlot g.root
  pub nodes : All IsSourceNode g.nodes

abbrev pub IsOutcome : Outcome → Type 0
IsOutcome (outcome.Value g) = IsSourceValue g
IsOutcome (outcome.Reject digest) = Unit {0}

abbrev pub IsData : Data → Type 0
IsData d = IsPlainName d.name × IsOutcome d.outcome

-- a stream whose items and final value are among so many sources
pub record IsFlowing (sources : ℕ) (f : Flowing) : Type 0 where
  pub named : IsPlainName f.name
  pub few : length f.items < 2 ^ 32
  pub items : All (λ source. source < sources) f.items
  pub last : (source : ℕ) → f.last ≡ Some source → source < sources

-- names ascend, numbers name sources, and no source is settled twice
pub record IsScript (script : Script) : Type 0 where
  pub few_sources : length script.sources < 2 ^ 32
  pub few_streams : length script.streams < 2 ^ 32
  pub sources : Ascend (map (λ d. d.name) script.sources)
  pub each_source : All IsData script.sources
  pub streams : Ascend (map (λ f. f.name) script.streams)
  pub each_stream : All (IsFlowing (length script.sources)) script.streams
  pub few_settlers : length script.settlers ≤ 64
  pub each_settler : All (All (λ source. source < length script.sources)) script.settlers
  pub once : AllPairs (λ one other. one ≢ other) (settled_by script)
