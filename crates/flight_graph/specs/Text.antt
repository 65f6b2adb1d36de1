-- The text of a graph: a line for the root's slot, and then a line for each node of the canon.
use Rattle.std.specs.Prelude.{ℕ, ◌+◌, ◌/◌, ◌%◌, nat_eq, nat_lt, List, [], ◌∷◌, ◌++◌, if◌then◌else◌, codes, decimal, flat_map}
use Rattle.std.specs.List.{join_by}
use Rattle.std.specs.Fmt.{signed_decimal}
use Rattle.std.specs.Char.{digit_char}
use Rattle.flight_value.specs.declared.graph.Constant.{Constant}
use Rattle.flight_value.specs.declared.graph.Constant.TheVariants as constant
use Rattle.flight_value.specs.declared.graph.Atom.{Atom}
use Rattle.flight_value.specs.declared.graph.Atom.TheVariants as atom
use Rattle.flight_value.specs.declared.graph.Slot.{Slot}
use Rattle.flight_value.specs.declared.graph.Slot.TheVariants as slot
use Rattle.flight_value.specs.declared.graph.Flow.{Flow}
use Rattle.flight_value.specs.declared.graph.Flow.TheVariants as flow
use Rattle.flight_value.specs.declared.graph.End.{End}
use Rattle.flight_value.specs.declared.graph.End.TheVariants as end
use Rattle.flight_value.specs.declared.graph.Prop.{Prop}
use Rattle.flight_value.specs.declared.graph.Pair.{Pair}
use Rattle.flight_value.specs.declared.graph.Node.{Node}
use Rattle.flight_value.specs.declared.graph.Node.TheVariants as node
use Rattle.flight_value.specs.declared.graph.Graph.{Graph}
use Rattle.flight_graph.specs.Canon.{canon_of}

-- ---- strings

-- a byte within a JSON string: a quotation mark, a backslash and the bytes below 32 are escaped
abbrev pub escaped : ℕ → List ℕ
escaped byte =
    if nat_eq byte 34 then codes "\\\"" else
    if nat_eq byte 92 then codes "\\\\" else
    if nat_eq byte 8 then codes "\\b" else
    if nat_eq byte 12 then codes "\\f" else
    if nat_eq byte 10 then codes "\\n" else
    if nat_eq byte 13 then codes "\\r" else
    if nat_eq byte 9 then codes "\\t" else
    if nat_lt byte 32 then codes "\\u00" ++ digit_char (byte / 16) ∷ digit_char (byte % 16) ∷ [] else
    byte ∷ []

-- a text as a JSON string
abbrev pub string_text : List ℕ → List ℕ
string_text bytes = codes "\"" ++ flat_map escaped bytes ++ codes "\""

-- ---- slots

-- a number that JSON cannot spell
abbrev pub constant_text : Constant → List ℕ
constant_text constant.NotANumber = codes "NaN"
constant_text constant.Infinity = codes "Infinity"
constant_text constant.MinusInfinity = codes "-Infinity"
constant_text constant.MinusZero = codes "-0"

-- an atom; dates and imports stand as they are
abbrev pub atom_text : Atom → List ℕ
atom_text atom.Null = codes "null"
atom_text atom.Undefined = codes "undefined"
atom_text (atom.Bool b) = if b then codes "true" else codes "false"
atom_text (atom.Whole z) = signed_decimal z
atom_text (atom.Big z) = signed_decimal z ++ codes "n"
atom_text (atom.Text text) = string_text text
atom_text (atom.Date text) = codes "date " ++ text
atom_text (atom.Symbol text) = codes "symbol " ++ string_text text
atom_text (atom.Constant c) = constant_text c
atom_text (atom.Import json) = codes "import " ++ json
atom_text (atom.Failed digest) = codes "failed " ++ string_text digest
atom_text atom.Pending = codes "pending"

-- a node's number behind a `#`
abbrev pub number_text : ℕ → List ℕ
number_text n = codes "#" ++ decimal n

-- a slot: its atom, or its node's number
abbrev pub slot_text : Slot → List ℕ
slot_text (slot.Atom a) = atom_text a
slot_text (slot.Node n) = number_text n

-- ---- nodes

-- several in a row, with commas between them
abbrev pub commas : {A : Type 0} → (A → List ℕ) → List A → List ℕ
commas text items = join_by text (codes ",") items

-- a property
abbrev pub prop_text : Prop → List ℕ
prop_text p = string_text p.name ++ codes ":" ++ slot_text p.slot

-- an entry of a map
abbrev pub pair_text : Pair → List ℕ
pair_text p = codes "[" ++ slot_text p.key ++ codes "," ++ slot_text p.value ++ codes "]"

-- what a stream was opened as
abbrev pub flow_text : Flow → List ℕ
flow_text flow.Readable = codes "readable"
flow_text flow.Iterable = codes "iterable"
flow_text flow.Iterator = codes "iterator"

-- how a stream ends, as far as it is known
abbrev pub end_text : End → List ℕ
end_text end.Going = codes "open"
end_text (end.Closed final) = codes "closed " ++ slot_text final
end_text (end.Broken digest) = codes "failed " ++ string_text digest

-- a node, by what it is
abbrev pub node_text : Node → List ℕ
node_text (node.Array items) = codes "array [" ++ commas slot_text items ++ codes "]"
node_text (node.Object props) = codes "object {" ++ commas prop_text props ++ codes "}"
node_text (node.Map pairs) = codes "map [" ++ commas pair_text pairs ++ codes "]"
node_text (node.Set items) = codes "set [" ++ commas slot_text items ++ codes "]"
node_text (node.Element tag key props) = codes "element " ++ slot_text tag ++ codes " " ++ slot_text key ++ codes " " ++ slot_text props
node_text (node.Promise outcome) = codes "promise " ++ slot_text outcome
node_text (node.Stream flow items end) = flow_text flow ++ codes " [" ++ commas slot_text items ++ codes "] " ++ end_text end
node_text (node.Action id bound) = codes "action " ++ string_text id ++ codes " " ++ slot_text bound

-- ---- the whole

-- a node's line
abbrev pub line_text : ℕ → Node → List ℕ
line_text n node = number_text n ++ codes " " ++ node_text node ++ codes "\n"

-- the lines of nodes, numbered from n on
abbrev pub lines_from : ℕ → List Node → List ℕ
lines_from n [] = []
lines_from n (node ∷ nodes) = line_text n node ++ lines_from (n + 1) nodes

-- a graph as it is numbered; each line ends with a newline, the last too
abbrev pub graph_text : Graph → List ℕ
graph_text g = codes "root " ++ slot_text g.root ++ codes "\n" ++ lines_from 0 g.nodes

-- the text of a graph: that of its canon
unfoldable pub text_of : Graph → List ℕ
text_of g = graph_text (canon_of g)
