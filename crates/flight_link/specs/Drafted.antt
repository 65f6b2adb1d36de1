-- A text in which the numbers of some keys are still to come.
use Rattle.std.specs.Prelude.{ℕ, ◌+◌, ◌≤◌, ◌≡◌, List, [], ◌∷◌, ◌++◌, length, map, take, drop, codes, flat_map}
use Rattle.std.specs.List.{AllZip}
use Rattle.flight_meaning.specs.declared.place.Named.{Named}
use Rattle.flight_meaning.specs.declared.place.PlacedRow.{PlacedRow}
use Rattle.flight_meaning.specs.Meaning.{value_of}
use Rattle.flight_graph.specs.Text.{atom_text, number_text, string_text}
use Rattle.flight_link.specs.declared.gap.Gap.{Gap}
use Rattle.flight_link.specs.declared.key.NodeKey.{NodeKey}
use Rattle.flight_link.specs.declared.key.NodeKey.TheVariants.{Made, Promise, Action}
use Rattle.flight_link.specs.declared.laid.Head.{Head}
use Rattle.flight_link.specs.declared.laid.Head.TheVariants as head
use Rattle.flight_link.specs.declared.numbers.Numbers.{Numbers}
use Rattle.flight_link.specs.declared.target.Target.{Target}
use Rattle.flight_link.specs.declared.target.Target.TheVariants as target
use Rattle.flight_link.specs.Targets.{IsTargetOf}
use Rattle.flight_link.specs.Laid.{IsLaid, IsNumbered, number_in}

-- ---- parts

pub data Part : Type 0 where
  byte : (code : ℕ) → Part
  number : (key : NodeKey) → Part

abbrev pub plain : List ℕ → List Part
plain bytes = map byte bytes

-- a text with gaps, each so many bytes behind the one before
abbrev pub parts : List ℕ → List Gap → List Part
parts text [] = plain text
parts text (g ∷ gaps) = plain (take g.before text) ++ number g.key ∷ parts (drop g.before text) gaps

abbrev pub Fits : List ℕ → List Gap → Type 0
Fits text [] = Unit {0}
Fits text (g ∷ gaps) = (g.before ≤ length text) × Fits (drop g.before text) gaps

-- how many bytes stand before the last gap
abbrev pub reach : List Gap → ℕ
reach [] = 0
reach (g ∷ gaps) = g.before + reach gaps

-- the text, where this is the text of each key's number
abbrev pub fill : (NodeKey → List ℕ) → List Part → List ℕ
fill f [] = []
fill f (byte b ∷ ps) = b ∷ fill f ps
fill f (number key ∷ ps) = f key ++ fill f ps

-- each number that is still to come is that of a key which holds this
abbrev pub AllKeys : (NodeKey → Type 0) → List Part → Type 0
AllKeys P [] = Unit {0}
AllKeys P (byte b ∷ ps) = AllKeys P ps
AllKeys P (number key ∷ ps) = P key × AllKeys P ps

-- ---- slots

abbrev pub slot_parts : Target → List Part
slot_parts (target.Atom a) = plain (atom_text a.now)
slot_parts (target.Node spot) = number (Made spot) ∷ []
slot_parts (target.Promise id) = number (Promise id) ∷ []
slot_parts (target.Action id) = number (Action id) ∷ []
slot_parts (target.Awaits id) = plain (codes "pending")
slot_parts target.Lost = plain (codes "pending")

-- several behind others, and several in a row
abbrev pub more_parts : {A : Type 0} → (A → List Part) → List A → List Part
more_parts each items = flat_map (λ x. plain (codes ",") ++ each x) items

abbrev pub commas_parts : {A : Type 0} → (A → List Part) → List A → List Part
commas_parts each [] = []
commas_parts each (x ∷ items) = each x ++ more_parts each items

-- a property, with its name
abbrev pub prop_parts : Named × Target → List Part
prop_parts p = plain (string_text p.0.name) ++ plain (codes ":") ++ slot_parts p.1

abbrev pub with_names : List Named → List Target → List (Named × Target)
with_names (n ∷ named) (t ∷ targets) = (n, t) ∷ with_names named targets
with_names named targets = []

-- an entry, of two targets
abbrev pub pair_parts : Target × Target → List Part
pair_parts p = plain (codes "[") ++ slot_parts p.0 ++ plain (codes ",") ++ slot_parts p.1 ++ plain (codes "]")

abbrev pub in_twos : List Target → List (Target × Target)
in_twos (key ∷ value ∷ targets) = (key, value) ∷ in_twos targets
in_twos targets = []

-- ---- nodes

-- with so many targets as it may have; with others, nothing
abbrev pub node_parts : Head → List Target → List Part
node_parts head.Array targets = plain (codes "array [") ++ commas_parts slot_parts targets ++ plain (codes "]")
node_parts (head.Object named) targets = plain (codes "object {") ++ commas_parts prop_parts (with_names named.now targets) ++ plain (codes "}")
node_parts head.Map targets = plain (codes "map [") ++ commas_parts pair_parts (in_twos targets) ++ plain (codes "]")
node_parts head.Set targets = plain (codes "set [") ++ commas_parts slot_parts targets ++ plain (codes "]")
node_parts head.Element (tag ∷ key ∷ props ∷ []) = plain (codes "element ") ++ slot_parts tag ++ plain (codes " ") ++ slot_parts key ++ plain (codes " ") ++ slot_parts props
node_parts head.Promise (outcome ∷ []) = plain (codes "promise ") ++ slot_parts outcome
node_parts (head.Action id) (bound ∷ []) = plain (codes "action ") ++ plain (string_text id.now) ++ plain (codes " ") ++ slot_parts bound
node_parts h targets = []

abbrev pub line_parts : ℕ → Head → List Target → List Part
line_parts n h targets = plain (number_text n) ++ plain (codes " ") ++ node_parts h targets ++ plain (codes "\n")

-- ---- the whole

abbrev pub lines_parts : ℕ → List (Head × List Target) → List Part
lines_parts n [] = []
lines_parts n (node ∷ nodes) = line_parts n node.0 node.1 ++ lines_parts (n + 1) nodes

-- the line of what the value of row 0 is, and then the lines of the nodes of these keys
pub record IsDrafted (rows : List PlacedRow) (keys : List NodeKey) (draft : List Part) : Type 0 where
  pub root : Target
  pub leads : IsTargetOf rows (value_of 0) root
  pub nodes : List (Head × List Target)
  pub laid : AllZip (λ key node. IsLaid rows key node.0 node.1) keys nodes
  pub is_draft : draft ≡ plain (codes "root ") ++ slot_parts root ++ plain (codes "\n") ++ lines_parts 0 nodes

-- a line more, of the node of this key
pub record DraftsNode (rows : List PlacedRow) (key : NodeKey) (n : ℕ) (old new : List Part) : Type 0 where
  pub head : Head
  pub targets : List Target
  pub is_laid : IsLaid rows key head targets
  pub line : new ≡ old ++ line_parts n head targets

-- with the number of each key at its gap
abbrev pub IsFilled : List PlacedRow → Numbers → List Part → List ℕ → Type 0
IsFilled rows n draft text = AllKeys (IsNumbered rows n) draft × (text ≡ fill (λ key. number_text (number_in rows n key)) draft)
