-- `plain`: its words, and what it owes for a bundle.
use Rattle.std.specs.Prelude.{ℕ, ◌<◌, ◌≡◌, ◌≢◌, List, length, Option, None, Some, Bool, false, slice_get, codes}
use Rattle.flight_base.specs.Outside.{IsAll}
use Rattle.flight_value.specs.Graph.{IsValid}
use Rattle.flight_value.specs.Store.{DrawOneGraph, of_graph}
use Rattle.flight_value.specs.declared.graph.Graph.{Graph}
use Rattle.flight_graph.specs.Text.{text_of}
use Rattle.flight_syntax.specs.declared.script.Script.{Script}
use Rattle.flight_syntax.specs.Form.{is_scripted}
use Rattle.flight_render.specs.declared.root.Ground.{Ground}
use Rattle.flight_render.specs.Plain.{plain}
use Rattle.flight_render.specs.Costs.{IsOver}
use Rattle.flight_bundle.specs.declared.fault.BundleFault.{BundleFault}
use Rattle.flight_bundle.specs.declared.fault.BundleFault.TheVariants as bundle
use Rattle.flight_bundle.specs.Bundle.{IsBundle, HasFault}
use Rattle.flight_top.specs.Words.{AreNumbered, AreOf}
use Rattle.flight_top.specs.BundleLines.{bundle_line}
use Rattle.flight_top.specs.declared.told.Status.{Status}
use Rattle.flight_top.specs.declared.told.Status.TheVariants as status

-- ---- words

-- the command, with its fuel, from 1 to 1,000,000; by itself it is 1,000,000
abbrev pub IsPlainWords : List (List ℕ) → ℕ → Type 0
IsPlainWords words fuel = AreNumbered (codes "plain") (codes "--fuel") 1000000 words fuel

abbrev pub IsPlain : List (List ℕ) → Type 0
IsPlain words = AreOf (codes "plain") (codes "--fuel") 1000000 words

-- ---- bundles

-- just the sources that some settler settles
pub record AreScripted (script : Script) (settled : List Bool) : Type 0 where
  pub one_each : length settled ≡ length script.sources
  pub each : (source : ℕ) → source < length script.sources → slice_get settled source ≡ Some (is_scripted script source)

-- a bundle without a reply
abbrev pub IsAccepted : List ℕ → Ground → Type 0
IsAccepted input ground = IsBundle input false ground None

-- rendering with the scripted sources settled is within the fuel, and this is the canonical text of its graph
pub record IsRenderedAs (ground : Ground) (fuel : ℕ) (text : List ℕ) : Type 0 where
  pub settled : List Bool
  pub scripted : AreScripted ground.script settled
  pub within : IsOver ground settled fuel → ⊥
  pub graph : Graph
  pub valid : IsValid graph
  pub draws : DrawOneGraph (of_graph graph) (plain ground settled)
  pub is_text : text ≡ text_of graph

-- rendering with the scripted sources settled costs more than the fuel
pub record CostsMore (ground : Ground) (fuel : ℕ) : Type 0 where
  pub settled : List Bool
  pub scripted : AreScripted ground.script settled
  pub over : IsOver ground settled fuel

-- the canonical text of the rendered graph, or that it costs more than the fuel
abbrev pub IsDueGround : ℕ → Ground → Status → List ℕ → Type 0
IsDueGround fuel ground status.Done text = IsRenderedAs ground fuel text
IsDueGround fuel ground status.Fuel text = CostsMore ground fuel × (text ≡ codes "fuel\n")
IsDueGround fuel ground s text = ⊥

-- what a bundle's ground owes, or the line of the first fault
abbrev pub IsDuePlain : ℕ → List ℕ → Status → List ℕ → Type 0
IsDuePlain fuel input status.Bundle text = (f : BundleFault) × HasFault input false f × (f ≢ bundle.Memory) × (text ≡ bundle_line f)
IsDuePlain fuel input s text = (ground : Ground) × IsAccepted input ground × IsDueGround fuel ground s text

-- to bytes that were left, where they are told, and to some bytes where they are not
abbrev pub IsDuePlainOf : ℕ → Option (List ℕ) → Status → List ℕ → Type 0
IsDuePlainOf fuel left s text = (input : List ℕ) × IsAll left input × IsDuePlain fuel input s text
