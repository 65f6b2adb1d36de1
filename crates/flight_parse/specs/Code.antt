-- The code's lexemes and trees as plain data, and what a result says of a reader.
use Rattle.std.specs.Prelude.{ℕ, ◌≡◌, Bool, true, false, List, [], ◌∷◌, map, Option, Result, Ok, Err}
use Rattle.flight_syntax.specs.Lexicon.{Placed, Word, U, is_mark, name_of}
use Rattle.flight_syntax.specs.Lexicon as lexicon
use Rattle.flight_syntax.specs.Tree as tree
use Rattle.flight_syntax.specs.Tree.{Tree, trees_of, props_of, pairs_of}
use Rattle.flight_grammar.specs.Reading.{Fault, Reader, Arm, stop, go, done, want, at, made, behind, closed, choice}
use Rattle.flight_syntax.specs.declared.word.Punctuator.TheVariants.{Dot, OpenBracket, CloseBracket}
use Rattle.flight_grammar.specs.Reader as reader
use Rattle.flight_parse.specs.declared.lexeme.Name.{Name}
use Rattle.flight_parse.specs.declared.lexeme.Lexeme.{Lexeme}
use Rattle.flight_parse.specs.declared.lexeme.Lexeme.TheVariants as code
use Rattle.flight_parse.specs.declared.stop.Stop.{Stop}
use Rattle.flight_parse.specs.declared.stop.Stop.TheVariants as stops
use Rattle.flight_parse.specs.declared.tree.Tree as declared
use Rattle.flight_parse.specs.declared.tree.Post.TheOpen.{Tree-F, Property-F, Entry-F, Post-F}
use Rattle.flight_parse.specs.declared.tree.Post.TheFolds.{fold-Tree, fold-Property, fold-Entry, fold-Post}
use Rattle.flight_parse.specs.declared.tree.Property.{Property}
use Rattle.flight_parse.specs.declared.tree.Entry.{Entry}
use Rattle.flight_parse.specs.declared.tree.Post.{Post}

-- a name with its place
abbrev pub placed : Name → Placed
placed name = record { bytes = name.bytes; at = name.at }

abbrev pub word : Lexeme → Word
word (code.Key keyword at) = lexicon.key keyword at
word (code.Lower name) = lexicon.lower (placed name)
word (code.Upper name) = lexicon.upper (placed name)
word (code.Number numeral) = lexicon.number numeral.digits
word (code.Big numeral) = lexicon.big numeral.digits
word (code.Literal value) = lexicon.literal (placed value)
word (code.Mark sign) = lexicon.mark sign

abbrev pub words : List Lexeme → List Word
words lexemes = map word lexemes

-- ---- trees

-- an action, with the arguments behind `with`, if any
abbrev pub action_of : Placed → Option (List Tree) → Tree
action_of named bound = reader.action_of (named, bound)

-- a postfix: the name behind a dot, or the expression in brackets
pub data PlainPost : Type 0 where
  named : (name : Placed) → PlainPost
  indexed : (inside : Tree) → PlainPost

-- as the reader has it
abbrev pub read_post : PlainPost → reader.Post
read_post (named name) = reader.named name
read_post (indexed inside) = reader.indexed inside

-- an expression with its postfixes, in the order written
abbrev pub posted : Tree → List PlainPost → Tree
posted of [] = of
posted of (named name ∷ posts) = posted (tree.member of name) posts
posted of (indexed inside ∷ posts) = posted (tree.index of inside) posts

-- one level, with each tree inside already seen as plain data
abbrev pub tree_step : Tree-F PlainPost Tree (Tree × Tree) (Placed × Tree) → Tree
tree_step (Tree-F.Let name value rest) = tree.let_in (placed name) value rest
tree_step (Tree-F.If test yes_one other) = tree.if_else test yes_one other
tree_step (Tree-F.For name over give) = tree.for_in (placed name) over give
tree_step (Tree-F.Throw value) = tree.throw value
tree_step (Tree-F.Postfixed of posts) = posted of posts
tree_step (Tree-F.Atom value) = tree.atom value
tree_step (Tree-F.Variable name) = tree.variable (placed name)
tree_step (Tree-F.Client name) = tree.client (placed name)
tree_step (Tree-F.Array items) = tree.array (trees_of items)
tree_step (Tree-F.Object props) = tree.object (props_of props)
tree_step (Tree-F.Map pairs) = tree.map (pairs_of pairs)
tree_step (Tree-F.Set items) = tree.set (trees_of items)
tree_step (Tree-F.Source name) = tree.source (placed name)
tree_step (Tree-F.Promise name) = tree.promise (placed name)
tree_step (Tree-F.Stream name) = tree.stream (placed name)
tree_step (Tree-F.Action name bound) = action_of (placed name) bound
tree_step (Tree-F.Paren inside) = tree.paren inside
tree_step (Tree-F.Binary op left right) = tree.binary op left right
tree_step (Tree-F.Element tag attrs children) = tree.element (placed tag) (props_of attrs) (trees_of children)

abbrev pub property_step : Property-F PlainPost Tree (Tree × Tree) (Placed × Tree) → Placed × Tree
property_step p = (placed p.name, p.value)

abbrev pub entry_step : Entry-F PlainPost Tree (Tree × Tree) (Placed × Tree) → Tree × Tree
entry_step p = (p.key, p.value)

abbrev pub post_step : Post-F PlainPost Tree (Tree × Tree) (Placed × Tree) → PlainPost
post_step (Post-F.Named name) = named (placed name)
post_step (Post-F.Indexed inside) = indexed inside

-- an expression, a property, an entry and a postfix as plain data
abbrev pub tree_of : declared.Tree → Tree
tree_of = fold-Tree PlainPost Tree (Tree × Tree) (Placed × Tree) post_step tree_step entry_step property_step

abbrev pub property_of : Property → Placed × Tree
property_of = fold-Property PlainPost Tree (Tree × Tree) (Placed × Tree) post_step tree_step entry_step property_step

abbrev pub entry_of : Entry → Tree × Tree
entry_of = fold-Entry PlainPost Tree (Tree × Tree) (Placed × Tree) post_step tree_step entry_step property_step

abbrev pub post_of : Post → PlainPost
post_of = fold-Post PlainPost Tree (Tree × Tree) (Placed × Tree) post_step tree_step entry_step property_step

-- the reader of one postfix
abbrev pub postfix : Reader Tree → Reader reader.Post
postfix e = choice (at (is_mark Dot)) (behind (is_mark Dot) (made reader.named (want name_of))) (behind (is_mark OpenBracket) (made reader.indexed (closed e (is_mark CloseBracket))))

-- the reader of expressions, or of child elements, of at most so many levels
abbrev pub at_level : Bool → ℕ → Reader Tree
at_level true depth = reader.child_element depth
at_level false depth = reader.expression depth

-- an atom of one word that is no keyword
abbrev pub simple_arm : Word → Arm Tree
simple_arm (lexicon.lower name) = go (done (tree.variable name))
simple_arm (lexicon.upper name) = go (done (tree.client name))
simple_arm (lexicon.number digits) = reader.constant_arm (lexicon.constant_of (lexicon.number digits))
simple_arm (lexicon.big digits) = reader.constant_arm (lexicon.constant_of (lexicon.big digits))
simple_arm (lexicon.literal value) = reader.constant_arm (lexicon.constant_of (lexicon.literal value))
simple_arm _ = stop

-- ---- results

-- What a function returned, seen by view, is what reading gives, unless memory ran out.
abbrev pub Fails : {Y : Type 0} → Stop → Result Y Fault → Type 0
Fails stops.Memory read = Unit {0}
Fails (stops.Fault deep left) read = read ≡ Err (record { too_deep = deep; left = left })

abbrev pub Gives : {X Y : Type 0} → (X → Y) → Result X Stop → Result Y Fault → Type 0
Gives view (Ok x) read = read ≡ Ok (view x)
Gives view (Err e) read = Fails e read
