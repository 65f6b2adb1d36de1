-- The productions: which words spell a tree. The number of a phrase is how many levels of nesting are left.
use Rattle.std.specs.Prelude.{ℕ, zero, suc, ◌≡◌, ◌<◌, ◌⊎◌, List, [], ◌∷◌}
use Rattle.flight_value.specs.declared.graph.Atom.{Atom}
use Rattle.flight_value.specs.declared.graph.Atom.TheVariants as value
use Rattle.flight_syntax.specs.declared.word.Keyword.TheVariants.{Date, Symbol, Let, In, If, Then, Else, For, Give, Throw, Map, Set, Use, Promise, Stream, Action, With, Server, Client}
use Rattle.flight_syntax.specs.declared.word.Punctuator.{Punctuator}
use Rattle.flight_syntax.specs.declared.word.Punctuator.TheVariants.{OpenParen, CloseParen, OpenBracket, CloseBracket, OpenBrace, CloseBrace, Comma, Semicolon, Colon, Dot, Assign, Minus, Less, Greater, LessSlash, SlashGreater}
use Rattle.json.specs.Json as json
use Rattle.flight_syntax.specs.Lexicon.{Placed, beyond, is_deep, name_of, lower_of, upper_of, plain_of, is_plain, component_of, text_of, property_of, constant_of, negative_of, date_of, symbol_of, operator_of, json_of, negative_json_of, Phrase, ◌▸◌, nothing, one, keyword, sign}
use Rattle.flight_syntax.specs.Tree.{Tree, Trees, TreeProps, TreePairs, Declaration, let_in, if_else, for_in, throw, member, index, atom, variable, client, array, object, map, set, source, promise, stream, action, action_with, paren, binary, element, too_deep, too_many, no_trees, tree_and, no_props, prop_and, no_pairs, pair_and, server, client_is, action_is, joined, postfixes, IsBase, IsElement}

-- so many expressions, child elements or json values may nest, and so many postfixes stand on one atom
abbrev pub most_levels : ℕ
most_levels = 100

abbrev pub most_postfixes : ℕ
most_postfixes = 100

-- the literals
abbrev pub Constant : Atom → Phrase
Constant a words = one constant_of a words ⊎ ((sign Minus ▸ one negative_of a) words ⊎ ((keyword Date ▸ one date_of a) words ⊎ (keyword Symbol ▸ one symbol_of a) words))

-- a text without braces, as an attribute's value or a child
abbrev pub Bare : Tree → Phrase
Bare tree words = (text : Placed) × (atom (value.Text text.bytes) ≡ tree) × one text_of text words

-- parts of an attribute's name, behind the first
abbrev pub MoreParts : List Placed → Phrase
MoreParts [] words = nothing words
MoreParts (part ∷ parts) words = ((sign Minus ▸ one name_of part) ▸ MoreParts parts) words

-- the name of an attribute
abbrev pub AttributeName : Placed → Phrase
AttributeName named words = (first : Placed) × (parts : List Placed) × (joined first parts ≡ named) × (one name_of first ▸ MoreParts parts) words

-- a mark that would begin what is beyond a limit
abbrev pub Beyond : Punctuator → Phrase
Beyond mark words = words ≡ beyond mark ∷ []

-- expressions
abbrev mutual
  pub Spells : Tree → ℕ → Phrase
  Spells too_deep zero words = one is_deep tt words
  Spells _ zero words = ⊥
  Spells too_deep (suc d) words = ⊥
  Spells (let_in named bound rest) (suc d) words = (keyword Let ▸ one lower_of named ▸ sign Assign ▸ Spells bound d ▸ keyword In ▸ Spells rest d) words
  Spells (if_else test yes_one other) (suc d) words = (keyword If ▸ Spells test d ▸ keyword Then ▸ Spells yes_one d ▸ keyword Else ▸ Spells other d) words
  Spells (for_in named over give) (suc d) words = (keyword For ▸ one lower_of named ▸ keyword In ▸ Spells over d ▸ keyword Give ▸ Spells give d) words
  Spells (throw thrown) (suc d) words = (keyword Throw ▸ Spells thrown d) words
  Spells (member of named) (suc d) words = IsBase of × (postfixes of < most_postfixes) × (Spells of (suc d) ▸ sign Dot ▸ one name_of named) words
  Spells (index of at) (suc d) words = IsBase of × (postfixes of < most_postfixes) × (Spells of (suc d) ▸ sign OpenBracket ▸ Spells at d ▸ sign CloseBracket) words
  Spells (too_many of) (suc d) words = IsBase of × (Spells of (suc d) ▸ (λ x. Beyond Dot x ⊎ Beyond OpenBracket x)) words
  Spells (atom a) (suc d) words = Constant a words
  Spells (variable named) (suc d) words = one lower_of named words
  Spells (client named) (suc d) words = one upper_of named words
  Spells (array items) (suc d) words = (sign OpenBracket ▸ Listed items d ▸ sign CloseBracket) words
  Spells (object props) (suc d) words = (sign OpenBrace ▸ Properties props d ▸ sign CloseBrace) words
  Spells (map pairs) (suc d) words = (keyword Map ▸ sign OpenBracket ▸ Entries pairs d ▸ sign CloseBracket) words
  Spells (set items) (suc d) words = (keyword Set ▸ sign OpenBracket ▸ Listed items d ▸ sign CloseBracket) words
  Spells (source named) (suc d) words = (keyword Use ▸ one plain_of named) words
  Spells (promise named) (suc d) words = (keyword Promise ▸ one plain_of named) words
  Spells (stream named) (suc d) words = (keyword Stream ▸ one plain_of named) words
  Spells (action named) (suc d) words = (keyword Action ▸ one lower_of named) words
  Spells (action_with named bound) (suc d) words = (keyword Action ▸ one lower_of named ▸ keyword With ▸ sign OpenBracket ▸ Listed bound d ▸ sign CloseBracket) words
  Spells (paren inside) (suc d) words = (sign OpenParen ▸ Spells inside d ▸ sign CloseParen) words
  Spells (binary op left right) (suc d) words = (sign OpenParen ▸ Spells left d ▸ one operator_of op ▸ Spells right d ▸ sign CloseParen) words
  Spells (element tag attrs children) (suc d) words =
      (sign Less ▸ one plain_of tag ▸ Attributes attrs d
      ▸ (λ x. ((children ≡ no_trees) × sign SlashGreater x) ⊎ (sign Greater ▸ Children children d ▸ sign LessSlash ▸ one (is_plain tag.bytes) tt ▸ sign Greater) x)) words

  -- expressions with commas between
  pub Listed : Trees → ℕ → Phrase
  Listed no_trees d words = nothing words
  Listed (tree_and tree trees) d words = (Spells tree d ▸ MoreListed trees d) words

  pub MoreListed : Trees → ℕ → Phrase
  MoreListed no_trees d words = nothing words
  MoreListed (tree_and tree trees) d words = ((sign Comma ▸ Spells tree d) ▸ MoreListed trees d) words

  -- properties with commas between
  pub Properties : TreeProps → ℕ → Phrase
  Properties no_props d words = nothing words
  Properties (prop_and named given props) d words = ((one property_of named ▸ sign Colon ▸ Spells given d) ▸ MoreProperties props d) words

  pub MoreProperties : TreeProps → ℕ → Phrase
  MoreProperties no_props d words = nothing words
  MoreProperties (prop_and named given props) d words = ((sign Comma ▸ one property_of named ▸ sign Colon ▸ Spells given d) ▸ MoreProperties props d) words

  -- entries with commas between
  pub Entries : TreePairs → ℕ → Phrase
  Entries no_pairs d words = nothing words
  Entries (pair_and key given pairs) d words = ((sign OpenBracket ▸ Spells key d ▸ sign Comma ▸ Spells given d ▸ sign CloseBracket) ▸ MoreEntries pairs d) words

  pub MoreEntries : TreePairs → ℕ → Phrase
  MoreEntries no_pairs d words = nothing words
  MoreEntries (pair_and key given pairs) d words = ((sign Comma ▸ sign OpenBracket ▸ Spells key d ▸ sign Comma ▸ Spells given d ▸ sign CloseBracket) ▸ MoreEntries pairs d) words

  -- attributes, one after another, each a text or an expression in braces
  pub Attributes : TreeProps → ℕ → Phrase
  Attributes no_props d words = nothing words
  Attributes (prop_and named given props) d words = ((AttributeName named ▸ sign Assign ▸ (λ x. Bare given x ⊎ (sign OpenBrace ▸ Spells given d ▸ sign CloseBrace) x)) ▸ Attributes props d) words

  -- children, one after another, each a text, an expression in braces or an element
  pub Children : Trees → ℕ → Phrase
  Children no_trees d words = nothing words
  Children (tree_and tree trees) d words =
      ((λ x. (Bare tree x ⊎ (sign OpenBrace ▸ Spells tree d ▸ sign CloseBrace) x) ⊎ ((IsElement tree × Spells tree d x) ⊎ ((tree ≡ too_deep) × Beyond Less x))) ▸ Children trees d) words

-- JSON; at level 0 `null` stands for what is nested too deep
abbrev mutual
  pub SpellsJson : json.Json → ℕ → Phrase
  SpellsJson json.null zero words = one is_deep tt words
  SpellsJson _ zero words = ⊥
  SpellsJson json.null (suc d) words = one json_of json.null words
  SpellsJson (json.boolean b) (suc d) words = one json_of (json.boolean b) words
  SpellsJson (json.number digits) (suc d) words = one json_of (json.number digits) words ⊎ (sign Minus ▸ one negative_json_of (json.number digits)) words
  SpellsJson (json.string text) (suc d) words = one json_of (json.string text) words
  SpellsJson (json.array items) (suc d) words = (sign OpenBracket ▸ JsonItems items d ▸ sign CloseBracket) words
  SpellsJson (json.object members) (suc d) words = (sign OpenBrace ▸ JsonMembers members d ▸ sign CloseBrace) words

  pub JsonItems : json.Items → ℕ → Phrase
  JsonItems json.no_items d words = nothing words
  JsonItems (json.item j items) d words = (SpellsJson j d ▸ MoreJsonItems items d) words

  pub MoreJsonItems : json.Items → ℕ → Phrase
  MoreJsonItems json.no_items d words = nothing words
  MoreJsonItems (json.item j items) d words = ((sign Comma ▸ SpellsJson j d) ▸ MoreJsonItems items d) words

  pub JsonMembers : json.Members → ℕ → Phrase
  JsonMembers json.no_members d words = nothing words
  JsonMembers (json.member key j members) d words = (((λ x. (at : ℕ) × one text_of (record { bytes = key; at = at }) x) ▸ sign Colon ▸ SpellsJson j d) ▸ MoreJsonMembers members d) words

  pub MoreJsonMembers : json.Members → ℕ → Phrase
  MoreJsonMembers json.no_members d words = nothing words
  MoreJsonMembers (json.member key j members) d words = ((sign Comma ▸ (λ x. (at : ℕ) × one text_of (record { bytes = key; at = at }) x) ▸ sign Colon ▸ SpellsJson j d) ▸ MoreJsonMembers members d) words

-- parameters with commas between
abbrev pub MoreParameters : List Placed → Phrase
MoreParameters [] words = nothing words
MoreParameters (param ∷ params) words = ((sign Comma ▸ one lower_of param) ▸ MoreParameters params) words

abbrev pub Parameters : List Placed → Phrase
Parameters [] words = nothing words
Parameters (param ∷ params) words = (one lower_of param ▸ MoreParameters params) words

-- a declaration whose expression or JSON value has at most so many levels
abbrev pub DeclaresTo : ℕ → Declaration → Phrase
DeclaresTo levels (server named params body) words = (keyword Server ▸ one component_of named ▸ sign OpenParen ▸ Parameters params ▸ sign CloseParen ▸ sign Assign ▸ Spells body levels ▸ sign Semicolon) words
DeclaresTo levels (client_is named import) words = (keyword Client ▸ one component_of named ▸ sign Assign ▸ SpellsJson import levels ▸ sign Semicolon) words
DeclaresTo levels (action_is named params body) words = (keyword Action ▸ one lower_of named ▸ sign OpenParen ▸ Parameters params ▸ sign CloseParen ▸ sign Assign ▸ Spells body levels ▸ sign Semicolon) words

abbrev pub DeclaresAllTo : ℕ → List Declaration → Phrase
DeclaresAllTo levels [] words = nothing words
DeclaresAllTo levels (first ∷ rest) words = (DeclaresTo levels first ▸ DeclaresAllTo levels rest) words

-- a declaration
abbrev pub Declares : Declaration → Phrase
Declares = DeclaresTo most_levels

-- a program
abbrev pub DeclaresAll : List Declaration → Phrase
DeclaresAll = DeclaresAllTo most_levels
