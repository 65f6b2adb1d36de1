-- What is asked of a script, in order, and the first fault.
use Rattle.std.specs.Prelude.{ℕ, ◌≡◌, ◌⊎◌, Bool, true, List, [], ◌∷◌}
use Rattle.std.specs.List.{AllByRecursion}
use Rattle.serde_json.specs.Data.{Data}
use Rattle.flight_value.specs.declared.graph.Slot.{Slot}
use Rattle.flight_value.specs.declared.graph.Node.{Node}
use Rattle.flight_script.specs.declared.fault.ScriptFault.{ScriptFault}
use Rattle.flight_script.specs.declared.fault.ScriptFault.TheVariants.{Memory}
use Rattle.flight_script.specs.Slots.{IsSlot, IsNode}

-- a condition, or that JSON is a slot or a node among so many nodes; with the fault if not
pub data Test : Type 0 where
  holds : (condition : Bool) (fault : ScriptFault) → Test
  a_slot : (count : ℕ) (json : Data) (fault : ScriptFault) → Test
  a_node : (count : ℕ) (json : Data) (fault : ScriptFault) → Test

abbrev pub Passes : Test → Type 0
Passes (holds condition fault) = condition ≡ true
Passes (a_slot count json fault) = (s : Slot) × IsSlot count json s
Passes (a_node count json fault) = (n : Node) × IsNode count json n

abbrev pub fault_of : Test → ScriptFault
fault_of (holds condition fault) = fault
fault_of (a_slot count json fault) = fault
fault_of (a_node count json fault) = fault

abbrev pub AllPass : List Test → Type 0
AllPass tests = AllByRecursion Passes tests

-- the fault of the first test that fails
abbrev pub IsFirstFault : List Test → ScriptFault → Type 0
IsFirstFault [] fault = ⊥
IsFirstFault (t ∷ ts) fault = (¬ Passes t × (fault ≡ fault_of t)) ⊎ (Passes t × IsFirstFault ts fault)

-- want of memory, or the first fault
abbrev pub Refuses : List Test → ScriptFault → Type 0
Refuses tests fault = (fault ≡ Memory) ⊎ IsFirstFault tests fault
