-- A bundle of one component that stands still: its tree, and the bytes that spell it.
use Rattle.std.specs.Prelude.{ℕ, zero, suc, ◌≤◌, ◌≡◌, ◌≢◌, ◌⊎◌, Bool, true, false, List, [], ◌∷◌, length, codes, Contains, IsUtf8}
use Rattle.std.specs.List.{AllPairs}
use Rattle.flight_syntax.specs.declared.token.Token.{Token}
use Rattle.flight_syntax.specs.Tokens.{AreTokens}
use Rattle.flight_syntax.specs.Words.{Word, Phrase, ◌▸◌, nothing, mark, name, lower, number, literal, words_of}

-- ---- trees

-- a value without references, and elements
mutual
  pub data Static : Type 0 where
    null : Static
    boolean : (truth : Bool) → Static
    whole : (n : ℕ) → Static
    text : (bytes : List ℕ) → Static
    array : (items : Items) → Static
    object : (props : Props) → Static
    element : (tag : List ℕ) (props : Props) → Static

  pub data Items : Type 0 where
    no_items : Items
    item_and : (first : Static) (rest : Items) → Items

  pub data Props : Type 0 where
    no_props : Props
    prop_and : (named : List ℕ) (value : Static) (rest : Props) → Props

-- ---- the productions

-- so many uses of a value may be nested
abbrev pub most_values : ℕ
most_values = 40

-- a text without braces, as an attribute's value
abbrev pub Bare : Static → Phrase
Bare (text bytes) words = literal bytes words
Bare _ words = ⊥

-- the number of a phrase is how many nested values are left
abbrev mutual
  pub Spells : Static → ℕ → Phrase
  Spells tree zero words = ⊥
  Spells null (suc d) words = name (codes "null") words
  Spells (boolean true) (suc d) words = name (codes "true") words
  Spells (boolean false) (suc d) words = name (codes "false") words
  Spells (whole n) (suc d) words = number n words
  Spells (text bytes) (suc d) words = literal bytes words
  Spells (array items) (suc d) words = (mark (codes "[") ▸ Listed items d ▸ mark (codes "]")) words
  Spells (object props) (suc d) words = (mark (codes "{") ▸ Properties props d ▸ mark (codes "}")) words
  Spells (element tag props) (suc d) words = (mark (codes "<") ▸ lower tag ▸ Attributes props d ▸ mark (codes "/>")) words

  -- values with commas between
  pub Listed : Items → ℕ → Phrase
  Listed no_items d words = nothing words
  Listed (item_and tree items) d words = (Spells tree d ▸ MoreListed items d) words

  pub MoreListed : Items → ℕ → Phrase
  MoreListed no_items d words = nothing words
  MoreListed (item_and tree items) d words = (mark (codes ",") ▸ Spells tree d ▸ MoreListed items d) words

  -- properties with commas between
  pub Properties : Props → ℕ → Phrase
  Properties no_props d words = nothing words
  Properties (prop_and named value props) d words = (name named ▸ mark (codes ":") ▸ Spells value d ▸ MoreProperties props d) words

  pub MoreProperties : Props → ℕ → Phrase
  MoreProperties no_props d words = nothing words
  MoreProperties (prop_and named value props) d words = (mark (codes ",") ▸ name named ▸ mark (codes ":") ▸ Spells value d ▸ MoreProperties props d) words

  -- attributes, one after another, each a text or a value in braces
  pub Attributes : Props → ℕ → Phrase
  Attributes no_props d words = nothing words
  Attributes (prop_and named value props) d words = (name named ▸ mark (codes "=") ▸ (λ x. Bare value x ⊎ (mark (codes "{") ▸ Spells value d ▸ mark (codes "}")) x) ▸ Attributes props d) words

-- `server App() = value;`
abbrev pub Declares : Static → Phrase
Declares tree words = (name (codes "server") ▸ name (codes "App") ▸ mark (codes "(") ▸ mark (codes ")") ▸ mark (codes "=") ▸ Spells tree most_values ▸ mark (codes ";")) words

-- ---- names

abbrev pub names : Props → List (List ℕ)
names no_props = []
names (prop_and named value props) = named ∷ names props

-- no name twice
abbrev pub AreApart : Props → Type 0
AreApart props = AllPairs (λ a b. a ≢ b) (names props)

-- no name stands twice in one object or element, and no attribute is named `key`
abbrev mutual
  pub IsLawful : Static → Type 0
  IsLawful null = Unit {0}
  IsLawful (boolean truth) = Unit {0}
  IsLawful (whole n) = Unit {0}
  IsLawful (text bytes) = Unit {0}
  IsLawful (array items) = AreLawful items
  IsLawful (object props) = AreApart props × HaveLawful props
  IsLawful (element tag props) = AreApart props × (¬ (Contains (names props) (codes "key"))) × HaveLawful props

  pub AreLawful : Items → Type 0
  AreLawful no_items = Unit {0}
  AreLawful (item_and tree items) = IsLawful tree × AreLawful items

  pub HaveLawful : Props → Type 0
  HaveLawful no_props = Unit {0}
  HaveLawful (prop_and named value props) = IsLawful value × HaveLawful props

-- ---- bundles

-- the most bytes of a program
abbrev pub most_program : ℕ
most_program = 65536

-- the bytes are a program whose one component is this tree
pub record IsStatic (input : List ℕ) (tree : Static) : Type 0 where
  pub short : length input ≤ most_program
  pub utf8 : IsUtf8 input
  pub tokens : List Token
  pub are_tokens : AreTokens input tokens
  pub declares : Declares tree (words_of input tokens)
  pub lawful : IsLawful tree
