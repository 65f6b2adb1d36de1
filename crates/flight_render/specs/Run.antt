-- A run of the evaluator: it threads the nodes made and the cost, and goes on, throws or waits.
use Rattle.std.specs.Prelude.{ℕ, ◌+◌, List, [], ◌∷◌, ◌++◌, length}
use Rattle.flight_value.specs.declared.graph.Atom.{Atom}
use Rattle.flight_value.specs.declared.graph.Atom.TheVariants as atom
use Rattle.flight_value.specs.declared.made.MadeKind.{MadeKind}
use Rattle.flight_value.specs.declared.made.MadeKind.TheVariants as kind
use Rattle.flight_value.specs.declared.made.Made.{Made}
use Rattle.flight_value.specs.declared.made.Tree.{Tree}
use Rattle.flight_value.specs.declared.made.Tree.TheVariants as tree

-- the nodes made so far, in the order of making, and the cost so far
pub record Machine : Type 0 where
  pub made : List Made
  pub cost : ℕ

-- how a run comes to its end: with a value, with a digest thrown, or at a source that is not settled
pub data Step (A : Type 0) : Type 0 where
  gave : (value : A) → Step A
  threw : (digest : List ℕ) → Step A
  waits : (source : ℕ) → Step A

pub record Run (A : Type 0) : Type 0 where
  pub after : Machine
  pub step : Step A

-- how a body, a promise or an item of a stream comes to its end
abbrev pub End : Type 0
End = Step Tree

abbrev pub pay : ℕ → Machine → Machine
pay cost m = record { made = m.made; cost = m.cost + cost }

abbrev pub ends : {A : Type 0} → Step A → Machine → Run A
ends step m = record { after = m; step = step }

abbrev pub give : {A : Type 0} → A → Machine → Run A
give a m = ends (gave a) m

abbrev pub fail : {A : Type 0} → List ℕ → Machine → Run A
fail digest m = ends (threw digest) m

-- a value goes on; a throw and a wait end the whole
abbrev pub on_step : {A B : Type 0} → Step A → (A → Machine → Run B) → Machine → Run B
on_step (gave a) next m = next a m
on_step (threw digest) next m = fail digest m
on_step (waits source) next m = ends (waits source) m

abbrev pub and_then : {A B : Type 0} → Run A → (A → Machine → Run B) → Run B
and_then run next = on_step run.step next run.after

-- ---- what nodes cost

-- the bytes of a text
abbrev pub atom_weight : Atom → ℕ
atom_weight (atom.Text text) = length text
atom_weight _ = 0

-- the bytes of the text that a slot holds
abbrev pub weight : Tree → ℕ
weight (tree.Atom a) = atom_weight a
weight _ = 0

-- each slot costs 1, and the bytes of the text that it holds
abbrev pub slots_cost : List Tree → ℕ
slots_cost [] = 0
slots_cost (slot ∷ slots) = 1 + weight slot + slots_cost slots

abbrev pub names_cost : List (List ℕ) → ℕ
names_cost [] = 0
names_cost (name ∷ names) = length name + names_cost names

-- the names of an object cost their bytes, and the component of a server element 1
abbrev pub kind_cost : MadeKind → ℕ
kind_cost (kind.Object names) = names_cost names
kind_cost (kind.Server component) = 1
kind_cost _ = 0

-- makes a node at an address: its serial is the number of those made before
abbrev pub make : List ℕ → MadeKind → List Tree → Machine → Run Tree
make address kind slots m =
    give (tree.Made (record { render = address; serial = length m.made }))
    (record { made = m.made ++ record { kind = kind; slots = slots } ∷ []; cost = m.cost + (slots_cost slots + kind_cost kind) })
