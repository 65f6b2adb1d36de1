-- The reader of programs: each production by its first word. A reader of expressions `e` and one of child elements `c` are
-- those of the level below.
use Rattle.std.specs.Prelude.{ℕ, zero, suc, ◌||◌, Bool, true, false, if◌then◌else◌, List, [], ◌∷◌, length, Option, Some, None, Result, Ok, Err}
use Rattle.flight_value.specs.declared.graph.Atom.{Atom}
use Rattle.flight_value.specs.declared.graph.Atom.TheVariants as value
use Rattle.flight_syntax.specs.declared.word.Keyword.TheVariants.{Date, Symbol, Let, In, If, Then, Else, For, Give, Throw, Map, Set, Use, Promise, Stream, Action, With, Server, Client}
use Rattle.flight_syntax.specs.declared.word.Punctuator.TheVariants.{OpenParen, CloseParen, OpenBracket, CloseBracket, OpenBrace, CloseBrace, Comma, Semicolon, Colon, Dot, Assign, Minus, Less, Greater, LessSlash, SlashGreater}
use Rattle.flight_syntax.specs.declared.expr.Op.{Op}
use Rattle.json.specs.Json as json
use Rattle.json.specs.Json.{Json}
use Rattle.flight_syntax.specs.Lexicon.{Word, key, lower, upper, mark, beyond, Placed, U, is_key, is_mark, is_deep, name_of, lower_of, plain_of, is_plain, component_of, text_of, property_of, constant_of, negative_of, date_of, symbol_of, operator_of, json_of, negative_json_of}
use Rattle.flight_syntax.specs.Tree.{Tree, Trees, TreeProps, TreePairs, Declaration, let_in, if_else, for_in, throw, member, index, atom, variable, client, array, object, map, set, source, promise, stream, action, action_with, paren, binary, element, too_many, trees_of, props_of, pairs_of, server, client_is, action_is, json_items_of, json_members_of, joined}
use Rattle.flight_syntax.specs.Tree as tree
use Rattle.flight_syntax.specs.Grammar.{most_levels, most_postfixes}
use Rattle.flight_grammar.specs.Reading.{Fault, Reader, too_deep, ◌>>=◌, want, at, next_is, done, both, made, behind, closed, choice, Arm, stop, limit, go, by_word, many, list_until}

-- ---- behind the first word of a production

abbrev pub let_rest : Reader Tree → Reader (Placed × (Tree × Tree))
let_rest e = both (want lower_of) (λ n. behind (is_mark Assign) (both e (λ v. behind (is_key In) e)))

abbrev pub if_rest : Reader Tree → Reader (Tree × (Tree × Tree))
if_rest e = both e (λ t. behind (is_key Then) (both e (λ y. behind (is_key Else) e)))

abbrev pub for_rest : Reader Tree → Reader (Placed × (Tree × Tree))
for_rest e = both (want lower_of) (λ n. behind (is_key In) (both e (λ o. behind (is_key Give) e)))

abbrev pub items : Reader Tree → Reader (List Tree)
items e = list_until (is_mark CloseBracket) e

abbrev pub property : Reader Tree → Reader (Placed × Tree)
property e = both (want property_of) (λ n. behind (is_mark Colon) e)

abbrev pub properties : Reader Tree → Reader (List (Placed × Tree))
properties e = list_until (is_mark CloseBrace) (property e)

abbrev pub entry : Reader Tree → Reader (Tree × Tree)
entry e = behind (is_mark OpenBracket) (both e (λ k. behind (is_mark Comma) (closed e (is_mark CloseBracket))))

abbrev pub entries : Reader Tree → Reader (List (Tree × Tree))
entries e = list_until (is_mark CloseBracket) (entry e)

-- an action, and what is bound, if `with` follows
abbrev pub action_of : Placed × Option (List Tree) → Tree
action_of (n, None) = action n
action_of (n, Some bound) = action_with n (trees_of bound)

abbrev pub with_rest : Reader Tree → Reader (Option (List Tree))
with_rest e = choice (at (is_key With)) (made Some (behind (is_key With) (behind (is_mark OpenBracket) (items e)))) (done None)

abbrev pub action_rest : Reader Tree → Reader (Placed × Option (List Tree))
action_rest e = both (want lower_of) (λ n. with_rest e)

-- an operator and what stands right of it, or nothing
abbrev pub paren_of : Tree × Option (Op × Tree) → Tree
paren_of (l, None) = paren l
paren_of (l, Some p) = binary p.0 l p.1

abbrev pub operand : Reader Tree → Reader (Option (Op × Tree))
operand e = choice (at (is_mark CloseParen)) (behind (is_mark CloseParen) (done None)) (made Some (both (want operator_of) (λ o. closed e (is_mark CloseParen))))

abbrev pub paren_rest : Reader Tree → Reader (Tree × Option (Op × Tree))
paren_rest e = both e (λ l. operand e)

-- ---- elements

-- a text or an expression in braces
abbrev pub bare : Placed → Tree
bare text = atom (value.Text text.bytes)

abbrev pub given : Reader Tree → Reader Tree
given e = choice (at text_of) (made bare (want text_of)) (behind (is_mark OpenBrace) (closed e (is_mark CloseBrace)))

abbrev pub more_parts : Reader (List Placed)
more_parts = many (at (is_mark Minus)) (behind (is_mark Minus) (want name_of))

-- a name of parts, and what is given
abbrev pub attribute_of : Placed × (List Placed × Tree) → Placed × Tree
attribute_of p = (joined p.0 p.1.0, p.1.1)

abbrev pub attribute : Reader Tree → Reader (Placed × Tree)
attribute e = made attribute_of (both (want name_of) (λ n. both more_parts (λ ps. behind (is_mark Assign) (given e))))

abbrev pub attributes : Reader Tree → Reader (List (Placed × Tree))
attributes e = many (at name_of) (attribute e)

abbrev pub starts_given : Word → Bool
starts_given word = at text_of word || at (is_mark OpenBrace) word

-- whether the word begins an element, also one beyond the limit
abbrev pub starts_element : Word → Bool
starts_element (beyond Less) = true
starts_element word = at (is_mark Less) word

abbrev pub starts_child : Word → Bool
starts_child word = starts_given word || starts_element word

abbrev pub child : Reader Tree → Reader Tree → Reader Tree
child e c = choice starts_given (given e) c

abbrev pub children : Reader Tree → Reader Tree → Reader (List Tree)
children e c = many starts_child (child e c)

-- the closing tag, which is the opening one
abbrev pub closing : Placed → Reader U
closing tag = behind (is_mark LessSlash) (behind (is_plain tag.bytes) (want (is_mark Greater)))

abbrev pub inside_of : List Tree × U → List Tree
inside_of p = p.0

-- behind the attributes: the end of the element, or its children and its closing tag
abbrev pub inside : Reader Tree → Reader Tree → Placed → Reader (List Tree)
inside e c tag = choice (at (is_mark SlashGreater)) (behind (is_mark SlashGreater) (done [])) (behind (is_mark Greater) (made inside_of (both (children e c) (λ cs. closing tag))))

abbrev pub element_of : Placed × (List (Placed × Tree) × List Tree) → Tree
element_of p = element p.0 (props_of p.1.0) (trees_of p.1.1)

abbrev pub element_rest : Reader Tree → Reader Tree → Reader (Placed × (List (Placed × Tree) × List Tree))
element_rest e c = both (want plain_of) (λ tag. both (attributes e) (λ attrs. inside e c tag))

-- ---- postfixes

-- a postfix; `over` is one too many
pub data Post : Type 0 where
  named : (name : Placed) → Post
  indexed : (place : Tree) → Post
  over : Post

abbrev pub posted : Tree → List Post → Tree
posted e [] = e
posted e (named n ∷ ps) = posted (member e n) ps
posted e (indexed t ∷ ps) = posted (index e t) ps
posted e (over ∷ ps) = posted (too_many e) ps

abbrev pub named_and : Placed × List Post → List Post
named_and p = named p.0 ∷ p.1

abbrev pub indexed_and : Tree × List Post → List Post
indexed_and p = indexed p.0 ∷ p.1

-- a mark that begins a postfix
abbrev pub starts_post : Word → Bool
starts_post (mark Dot) = true
starts_post (mark OpenBracket) = true
starts_post (beyond Dot) = true
starts_post (beyond OpenBracket) = true
starts_post _ = false

abbrev pub last_post_arm : Word → Arm (List Post)
last_post_arm (mark Dot) = limit
last_post_arm (mark OpenBracket) = limit
last_post_arm (beyond Dot) = go (done (over ∷ []))
last_post_arm (beyond OpenBracket) = go (done (over ∷ []))
last_post_arm _ = stop

abbrev pub post_arm : Reader Tree → Reader (List Post) → Word → Arm (List Post)
post_arm e others (mark Dot) = go (made named_and (both (want name_of) (λ n. others)))
post_arm e others (mark OpenBracket) = go (made indexed_and (both (closed e (is_mark CloseBracket)) (λ t. others)))
post_arm e others (beyond Dot) = go (done (over ∷ []))
post_arm e others (beyond OpenBracket) = go (done (over ∷ []))
post_arm e others _ = stop

-- at most so many postfixes
abbrev mutual
  pub posts : ℕ → Reader Tree → Reader (List Post)
  posts zero e words = choice starts_post (by_word last_post_arm) (done []) words
  posts (suc n) e words = choice starts_post (by_word (post_arm e (posts n e))) (done []) words

-- ---- expressions

abbrev pub constant_arm : Option Atom → Arm Tree
constant_arm (Some a) = go (done (atom a))
constant_arm None = stop

-- an atom, by its first word
abbrev pub atom_arm : Reader Tree → Reader Tree → Word → Arm Tree
atom_arm e c (mark Minus) = go (made atom (want negative_of))
atom_arm e c (key Date at) = go (made atom (want date_of))
atom_arm e c (key Symbol at) = go (made atom (want symbol_of))
atom_arm e c (lower name) = go (done (variable name))
atom_arm e c (upper name) = go (done (client name))
atom_arm e c (mark OpenBracket) = go (made (λ ts. array (trees_of ts)) (items e))
atom_arm e c (mark OpenBrace) = go (made (λ ps. object (props_of ps)) (properties e))
atom_arm e c (key Map at) = go (made (λ ps. map (pairs_of ps)) (behind (is_mark OpenBracket) (entries e)))
atom_arm e c (key Set at) = go (made (λ ts. set (trees_of ts)) (behind (is_mark OpenBracket) (items e)))
atom_arm e c (key Use at) = go (made source (want plain_of))
atom_arm e c (key Promise at) = go (made promise (want plain_of))
atom_arm e c (key Stream at) = go (made stream (want plain_of))
atom_arm e c (key Action at) = go (made action_of (action_rest e))
atom_arm e c (mark OpenParen) = go (made paren_of (paren_rest e))
atom_arm e c (mark Less) = go (made element_of (element_rest e c))
atom_arm e c word = constant_arm (constant_of word)

abbrev pub chain_of : Tree × List Post → Tree
chain_of p = posted p.0 p.1

-- an atom and its postfixes
abbrev pub chain_arm : Reader Tree → Arm Tree → Arm Tree
chain_arm e stop = stop
chain_arm e limit = limit
chain_arm e (go p) = go (made chain_of (both p (λ a. posts most_postfixes e)))

-- an expression, by its first word
abbrev pub level_arm : Reader Tree → Reader Tree → Word → Arm Tree
level_arm e c (key Let at) = go (made (λ p. let_in p.0 p.1.0 p.1.1) (let_rest e))
level_arm e c (key If at) = go (made (λ p. if_else p.0 p.1.0 p.1.1) (if_rest e))
level_arm e c (key For at) = go (made (λ p. for_in p.0 p.1.0 p.1.1) (for_rest e))
level_arm e c (key Throw at) = go (made throw e)
level_arm e c word = chain_arm e (atom_arm e c word)

-- a child element, by its first word
abbrev pub element_arm : Reader Tree → Reader Tree → Word → Arm Tree
element_arm e c (mark Less) = go (made element_of (element_rest e c))
element_arm e c (beyond Less) = go (done tree.too_deep)
element_arm e c _ = stop

abbrev pub no_element_arm : Word → Arm Tree
no_element_arm (mark Less) = limit
no_element_arm (beyond Less) = go (done tree.too_deep)
no_element_arm _ = stop

-- where no level is left
abbrev pub no_expression : Reader Tree
no_expression words = if next_is (at is_deep) words then made (λ u. tree.too_deep) (want is_deep) words else too_deep words

-- the readers of expressions and of child elements, of at most so many levels
pub record Level : Type 0 where
  pub whole : List Word → Result (Tree × List Word) Fault
  pub nested : List Word → Result (Tree × List Word) Fault

unfoldable pub level : ℕ → Level
level zero = record { whole = no_expression; nested = by_word no_element_arm }
level (suc d) = record { whole = by_word (level_arm (level d).whole (level d).nested); nested = by_word (element_arm (level d).whole (level d).nested) }

abbrev pub expression : ℕ → Reader Tree
expression d = (level d).whole

abbrev pub child_element : ℕ → Reader Tree
child_element d = (level d).nested

-- ---- JSON

abbrev pub json_key : Reader Json → Reader (Placed × Json)
json_key j = both (want text_of) (λ n. behind (is_mark Colon) j)

abbrev pub scalar_arm : Option Json → Arm Json
scalar_arm (Some j) = go (done j)
scalar_arm None = stop

abbrev pub json_arm : Reader Json → Word → Arm Json
json_arm j (mark Minus) = go (want negative_json_of)
json_arm j (mark OpenBracket) = go (made (λ js. json.array (json_items_of js)) (list_until (is_mark CloseBracket) j))
json_arm j (mark OpenBrace) = go (made (λ ms. json.object (json_members_of ms)) (list_until (is_mark CloseBrace) (json_key j)))
json_arm j word = scalar_arm (json_of word)

abbrev pub no_json : Reader Json
no_json words = if next_is (at is_deep) words then made (λ u. json.null) (want is_deep) words else too_deep words

unfoldable pub json_value : ℕ → Reader Json
json_value zero = no_json
json_value (suc d) = by_word (json_arm (json_value d))

-- ---- programs

abbrev pub parameters : Reader (List Placed)
parameters = behind (is_mark OpenParen) (list_until (is_mark CloseParen) (want lower_of))

-- of at most so many levels
abbrev pub body_to : ℕ → Reader Tree
body_to levels = behind (is_mark Assign) (closed (expression levels) (is_mark Semicolon))

abbrev pub body : Reader Tree
body = body_to most_levels

abbrev pub import_to : ℕ → Reader Json
import_to levels = behind (is_mark Assign) (closed (json_value levels) (is_mark Semicolon))

abbrev pub import : Reader Json
import = import_to most_levels

abbrev pub declaration_arm_to : ℕ → Word → Arm Declaration
declaration_arm_to levels (key Server at) = go (made (λ p. server p.0 p.1.0 p.1.1) (both (want component_of) (λ n. both parameters (λ ps. body_to levels))))
declaration_arm_to levels (key Client at) = go (made (λ p. client_is p.0 p.1) (both (want component_of) (λ n. import_to levels)))
declaration_arm_to levels (key Action at) = go (made (λ p. action_is p.0 p.1.0 p.1.1) (both (want lower_of) (λ n. both parameters (λ ps. body_to levels))))
declaration_arm_to levels _ = stop

abbrev pub declaration_arm : Word → Arm Declaration
declaration_arm = declaration_arm_to most_levels

abbrev pub declaration_to : ℕ → Reader Declaration
declaration_to levels = by_word (declaration_arm_to levels)

abbrev pub declaration : Reader Declaration
declaration = declaration_to most_levels

abbrev pub starts_declaration : Word → Bool
starts_declaration (key Server at) = true
starts_declaration (key Client at) = true
starts_declaration (key Action at) = true
starts_declaration _ = false

abbrev pub ended : {A : Type 0} → A × List Word → Result A Fault
ended (a, []) = Ok a
ended (a, word ∷ words) = Err (record { too_deep = false; left = length (word ∷ words) })

-- declarations and nothing more
abbrev pub program_to : ℕ → List Word → Result (List Declaration) Fault
program_to levels words = many starts_declaration (declaration_to levels) words >>= ended

abbrev pub program : List Word → Result (List Declaration) Fault
program = program_to most_levels
