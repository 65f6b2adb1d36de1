-- The reader of static trees, which gives the JSON of their row; for private clauses.
use Rattle.std.specs.Prelude.{ℕ, zero, suc, ◌≡◌, ◌==◌, ◌&&◌, Bool, true, false, if◌then◌else◌, List, [], ◌∷◌, ◌++◌, length, drop, codes, Option, Some, None, option_map, option_and_then, is_some, Result, Ok, Err}
use Rattle.std.specs.List.{All}
use Rattle.std.specs.Str.{bytes_eq}
use Rattle.serde_json.specs.Data.{Data, null, boolean, number, unsigned, string, array, object, Items, no_items, item, Members, no_members, member, put}
use Rattle.serde_json.specs.Find.{get_member}
use Rattle.serde_json.specs.Read.{read}
use Rattle.serde_json.specs.View.{view, items_of}
use Rattle.serde_json.specs.declared.value.Value.{Value}
use Rattle.flight_syntax.specs.declared.token.TokenKind.{TokenKind}
use Rattle.flight_syntax.specs.declared.token.TokenKind.TheVariants.{Name, Number, Big, Text, Mark}
use Rattle.flight_syntax.specs.Pieces.{SpellsToken, decimal}
use Rattle.flight_syntax.specs.Names.{is_lower}
use Rattle.flight_syntax.specs.Tokens.{IsTokenOf}
use Rattle.flight_syntax.specs.Words.{Word, words_of}
use Rattle.flight_top.specs.declared.static_code.Code.{Code}
use Rattle.flight_top.specs.declared.static_code.Unbuilt.{Unbuilt}
use Rattle.flight_top.specs.declared.static_code.Unbuilt.TheVariants as unbuilt
use Rattle.flight_top.specs.Static as static
use Rattle.flight_top.specs.Static.{Static, most_values}

-- ---- the JSON of a tree whose properties are in order

-- a text that begins with a dollar is written with one more
abbrev pub escaped : List ℕ → List ℕ
escaped [] = []
escaped (b ∷ bs) = if b == 36 then 36 ∷ b ∷ bs else b ∷ bs

-- an element: the mark, the tag, no key, and its properties
abbrev pub element_json : List ℕ → Members → Data
element_json tag ms = array (item (string (codes "$")) (item (string (escaped tag)) (item null (item (object ms) no_items))))

abbrev mutual
  pub json_of : Static → Data
  json_of static.null = null
  json_of (static.boolean truth) = boolean truth
  json_of (static.whole n) = number (unsigned n)
  json_of (static.text bytes) = string (escaped bytes)
  json_of (static.array items) = array (items_json items)
  json_of (static.object props) = object (members_json props)
  json_of (static.element tag props) = element_json tag (members_json props)

  pub items_json : static.Items → Items
  items_json static.no_items = no_items
  items_json (static.item_and tree items) = item (json_of tree) (items_json items)

  pub members_json : static.Props → Members
  members_json static.no_props = no_members
  members_json (static.prop_and named value props) = member named (json_of value) (members_json props)

-- ---- words

-- each word is spelled as its kind says
abbrev pub AreSpelled : List Word → Type 0
AreSpelled [] = Unit {0}
AreSpelled (w ∷ ws) = SpellsToken w.kind w.bytes × AreSpelled ws

abbrev pub same_kind : TokenKind → TokenKind → Bool
same_kind Name Name = true
same_kind Number Number = true
same_kind Big Big = true
same_kind Text Text = true
same_kind Mark Mark = true
same_kind _ _ = false

abbrev pub is_the : TokenKind → List ℕ → Word → Bool
is_the kind bytes w = same_kind kind w.kind && bytes_eq w.bytes bytes

-- ---- reading

abbrev pub Read : Type 0 → Type 0
Read A = Option (A × List Word)

abbrev pub gives : {A : Type 0} → A → List Word → Read A
gives a rest = Some (a, rest)

infixl 10 ◌>>=◌
abbrev pub ◌>>=◌ : {A B : Type 0} → Option A → (A → Option B) → Option B
(Some x) >>= f = f x
None >>= f = None

abbrev pub if_some : {A B : Type 0} → Option A → (A → B) → B → B
if_some (Some a) f b = f a
if_some None f b = b

-- behind one word
abbrev pub want : TokenKind → List ℕ → List Word → Option (List Word)
want kind bytes [] = None
want kind bytes (w ∷ ws) = if is_the kind bytes w then Some ws else None

abbrev pub any_name : List Word → Read (List ℕ)
any_name [] = None
any_name (w ∷ ws) = if same_kind Name w.kind then Some (w.bytes, ws) else None

abbrev pub lower_name : List Word → Read (List ℕ)
lower_name [] = None
lower_name (w ∷ ws) = if same_kind Name w.kind then (if is_lower w.bytes then Some (w.bytes, ws) else None) else None

abbrev pub string_in : Option Data → Option (List ℕ)
string_in (Some (string s)) = Some s
string_in _ = None

abbrev pub a_text : List Word → Read Data
a_text [] = None
a_text (w ∷ ws) = if same_kind Text w.kind then (string_in (read w.bytes) >>= λ s. Some (string (escaped s), ws)) else None

abbrev pub a_number : List Word → Read Data
a_number [] = None
a_number (w ∷ ws) = if same_kind Number w.kind then Some (number (unsigned (decimal w.bytes)), ws) else None

-- a value of one word
abbrev pub atom : List Word → Read Data
atom ws =
    if_some (want Name (codes "null") ws) (λ r. Some (null, r))
    (if_some (want Name (codes "true") ws) (λ r. Some (boolean true, r))
    (if_some (want Name (codes "false") ws) (λ r. Some (boolean false, r))
    (if_some (a_number ws) (λ x. Some x) (a_text ws))))

abbrev pub Reader : Type 0
Reader = List Word → Read Data

-- the items of an array, behind some of them
abbrev pub items_by : ℕ → Reader → List Data → List Word → Read Data
items_by zero below done ws = None
items_by (suc n) below done ws =
    below ws >>= λ x. if_some (want Mark (codes "]") x.1) (λ r. Some (array (items_of (done ++ x.0 ∷ [])), r)) (want Mark (codes ",") x.1 >>= λ r. items_by n below (done ++ x.0 ∷ []) r)

abbrev pub array_rest : Reader → Reader
array_rest below ws = if_some (want Mark (codes "]") ws) (λ r. Some (array no_items, r)) (items_by (length ws) below [] ws)

-- a name is put among others, where it is none of them
abbrev pub added : List ℕ → Members → Data × List Word → Read Members
added named found v = if is_some (get_member named found) then None else Some (put named v.0 found, v.1)

abbrev pub property : Reader → Members → List Word → Read Members
property below found ws = any_name ws >>= λ n. want Mark (codes ":") n.1 >>= λ r. below r >>= λ v. added n.0 found v

-- the properties of an object, behind some of them
abbrev pub members_by : ℕ → Reader → Members → List Word → Read Data
members_by zero below found ws = None
members_by (suc n) below found ws =
    property below found ws >>= λ x. if_some (want Mark (codes "}") x.1) (λ r. Some (object x.0, r)) (want Mark (codes ",") x.1 >>= λ r. members_by n below x.0 r)

abbrev pub object_rest : Reader → Reader
object_rest below ws = if_some (want Mark (codes "}") ws) (λ r. Some (object no_members, r)) (members_by (length ws) below no_members ws)

abbrev pub braced : Reader → Reader
braced below ws = want Mark (codes "{") ws >>= λ r. below r >>= λ v. want Mark (codes "}") v.1 >>= λ e. Some (v.0, e)

abbrev pub attribute_value : Reader → Reader
attribute_value below ws = if_some (a_text ws) (λ x. Some x) (braced below ws)

abbrev pub attribute : Reader → Members → List Word → Read Members
attribute below found ws =
    any_name ws >>= λ n. if bytes_eq n.0 (codes "key") then None else (want Mark (codes "=") n.1 >>= λ r. attribute_value below r >>= λ v. added n.0 found v)

-- the attributes of an element, behind some of them
abbrev pub attributes_by : ℕ → Reader → Members → List Word → Read Members
attributes_by zero below found ws = None
attributes_by (suc n) below found ws =
    if_some (want Mark (codes "/>") ws) (λ r. Some (found, r)) (attribute below found ws >>= λ x. attributes_by n below x.0 x.1)

abbrev pub element_rest : Reader → Reader
element_rest below ws = lower_name ws >>= λ t. attributes_by (length t.1) below no_members t.1 >>= λ x. Some (element_json t.0 x.0, x.1)

-- a value by its first word
abbrev pub begun : Reader → Reader
begun below ws =
    if_some (want Mark (codes "[") ws) (λ r. array_rest below r)
    (if_some (want Mark (codes "{") ws) (λ r. object_rest below r)
    (if_some (want Mark (codes "<") ws) (λ r. element_rest below r)
    (atom ws)))

-- a value with so many levels
unfoldable pub value : ℕ → Reader
value zero ws = None
value (suc d) ws = begun (value d) ws

abbrev pub ended : Data × List Word → Option Data
ended (v, []) = Some v
ended (v, w ∷ ws) = None

-- the front of a program, up to its value
abbrev pub opening : List Word → Option (List Word)
opening ws = want Name (codes "server") ws >>= λ a. want Name (codes "App") a >>= λ b. want Mark (codes "(") b >>= λ c. want Mark (codes ")") c >>= λ e. want Mark (codes "=") e

abbrev pub program : List Word → Option Data
program ws = opening ws >>= λ r. value most_values r >>= λ v. want Mark (codes ";") v.1 >>= λ e. ended (v.0, e)

-- ---- what a function of the code gives

-- what was returned, seen by view, is what reading gives, unless memory was wanting
abbrev pub Gives : {X Y : Type 0} → (X → Y) → Result X Unbuilt → Option Y → Type 0
Gives view (Ok x) read = read ≡ Some (view x)
Gives view (Err unbuilt.NotBuilt) read = read ≡ None
Gives view (Err unbuilt.Memory) read = Unit {0}

-- each token is one of the text's
abbrev pub AreOfText : Code → Type 0
AreOfText code = All (IsTokenOf code.text.now) code.tokens.now

-- the words from a token on
abbrev pub words_from : Code → ℕ → List Word
words_from code at = words_of code.text.now (drop at code.tokens.now)

-- a value, and the words behind it
abbrev pub seen : Code → Value × ℕ → Data × List Word
seen code x = (view x.0, words_from code x.1)
