-- What the laws of rendering speak of.
use Rattle.std.specs.Prelude.{ℕ, suc, ◌≡◌, ◌<◌, ◌⊎◌, Bool, true, false, List, [], ◌∷◌, ◌++◌, length, Some}
use Rattle.flight_value.specs.declared.key.Key.{Key}
use Rattle.flight_value.specs.declared.key.Key.TheVariants as key
use Rattle.flight_value.specs.declared.made.Made.{Made}
use Rattle.flight_value.specs.declared.made.Tree.{Tree}
use Rattle.flight_value.specs.declared.made.Tree.TheVariants as tree
use Rattle.flight_render.specs.declared.root.Ground.{Ground}
use Rattle.flight_render.specs.Run.{Step, gave, threw, waits, Run}
use Rattle.flight_render.specs.Values.{is_settled}
use Rattle.flight_render.specs.Bodies.{node_at}
use Rattle.flight_render.specs.Jobs.{Value, shown}

-- ---- more sources settled

abbrev pub Grows : List Bool → List Bool → Type 0
Grows few many = (source : ℕ) → is_settled few source ≡ true → is_settled many source ≡ true

-- an end that does not change with more sources settled: it does not wait, or waits for one that still is not
abbrev pub Stays : {A : Type 0} → List Bool → Step A → Type 0
Stays many (gave a) = Unit {0}
Stays many (threw digest) = Unit {0}
Stays many (waits source) = is_settled many source ≡ false

-- ---- names

-- a node of a proper prefix of an address, made before the item that follows there
abbrev pub Met : List ℕ → List ℕ → ℕ → Type 0
Met [] render serial = ⊥
Met (i ∷ address) [] serial = serial < i
Met (i ∷ address) (j ∷ render) serial = (j ≡ i) × Met address render serial

-- a node made at an address before the next, or one met from outside; every value that is no node made
abbrev pub Own : List ℕ → ℕ → Tree → Type 0
Own address next (tree.Made n) = ((n.render ≡ address) × (n.serial < next)) ⊎ Met address n.render n.serial
Own address next _ = Unit {0}

abbrev pub AllOwn : List ℕ → ℕ → List Tree → Type 0
AllOwn address next [] = Unit {0}
AllOwn address next (t ∷ ts) = Own address next t × AllOwn address next ts

-- each node of an address, from a serial on, has slots of lesser nodes and of nodes met from outside
abbrev pub LeadBack : List ℕ → ℕ → List Made → Type 0
LeadBack address next [] = Unit {0}
LeadBack address next (m ∷ ms) = AllOwn address next m.slots × LeadBack address (suc next) ms

-- so do those of each table of an address
abbrev pub TablesLeadBack : List ℕ → List ℕ → List (List Made) → Type 0
TablesLeadBack above [] [] = Unit {0}
TablesLeadBack above (i ∷ address) (made ∷ tables) = LeadBack above 0 made × TablesLeadBack (above ++ i ∷ []) address tables
TablesLeadBack above _ _ = ⊥

-- a body names only its own lesser nodes, and nodes met from outside; one that gives a value is below fewer than 200
pub record NamesBack (address : List ℕ) (b : Run Tree) : Type 0 where
  pub nodes : LeadBack address 0 b.after.made
  pub value : (t : Tree) → b.step ≡ gave t → Own address (length b.after.made) t
  pub shallow : (t : Tree) → b.step ≡ gave t → length address < 200

-- ---- keys

-- the node at a key does not change: it is no stream
abbrev pub IsLasting : Key → Type 0
IsLasting (key.Stream stream) = ⊥
IsLasting _ = Unit {0}

-- ---- nodes made

-- the node that a value names is there, where a body made it
abbrev pub IsThere : Ground → List Bool → Value → Type 0
IsThere g settled (shown (tree.Made n)) = (m : Made) × (node_at g settled n ≡ Some m)
IsThere g settled _ = Unit {0}
