-- The JSON tokens that a value is written as, and which values are read again.
use Rattle.std.specs.Prelude.{ℕ, ◌^◌, ◌<◌, ◌≤◌, List, [], ◌∷◌, ◌++◌, FitsSigned}
use Rattle.std.specs.Int.{w128}
use Rattle.std.specs.Fmt.{signed_decimal}
use Rattle.json.specs.Token.{Token}
use Rattle.json.specs.Token as token
use Rattle.flight_value.specs.Date.{IsDate}
use Rattle.flight_value.specs.Graph.{IsSafe, Ascend}
use Rattle.flight_value.specs.declared.graph.Atom.{Atom}
use Rattle.flight_value.specs.declared.graph.Atom.TheVariants as atom
use Rattle.flight_text.specs.declared.mark.Mark.{Mark}
use Rattle.flight_text.specs.declared.mark.Mark.TheVariants as mark
use Rattle.flight_text.specs.Mark.{IsPlace, spelling_of}
use Rattle.flight_meaning.specs.declared.place.Place.{Place}
use Rattle.flight_meaning.specs.declared.place.Place.TheVariants as place
use Rattle.flight_payload.specs.Tree.{Tree, single, array, object, element, Trees, no_trees, tree_and, Props, no_props, prop_and, names, depth}

-- ---- tokens

-- the string that spells a mark
abbrev pub spelled : Mark → Token
spelled m = token.string (spelling_of m)

-- null, booleans and whole numbers as JSON has them, and any other atom as a string; modules, failures and what is pending have rows
-- of their own
abbrev pub atom_token : Atom → Token
atom_token atom.Null = token.null
atom_token atom.Undefined = spelled mark.Undefined
atom_token (atom.Bool b) = token.boolean b
atom_token (atom.Whole z) = token.number (signed_decimal z)
atom_token (atom.Big z) = spelled (mark.Big z)
atom_token (atom.Text text) = spelled (mark.Plain text)
atom_token (atom.Date text) = spelled (mark.Date text)
atom_token (atom.Symbol name) = spelled (mark.Symbol name)
atom_token (atom.Constant c) = spelled (mark.Constant c)
atom_token (atom.Import json) = token.bad
atom_token (atom.Failed digest) = token.bad
atom_token atom.Pending = token.bad

-- an atom or a reference
abbrev pub token_of : Place → Token
token_of (place.Atom a) = atom_token a
token_of (place.Lazy id) = spelled (mark.Lazy id)
token_of (place.Promise id) = spelled (mark.Promise id)
token_of (place.Value at) = spelled (mark.Value at)
token_of (place.Map at) = spelled (mark.Map at)
token_of (place.Set at) = spelled (mark.Set at)
token_of (place.Action id) = spelled (mark.Action id)
token_of composite = token.bad

-- the string `$`, which stands before the slots of an element
abbrev pub mark_token : Token
mark_token = spelled mark.Element

abbrev mutual
  pub tokens_of : Tree → List Token
  tokens_of (single p) = token_of p ∷ []
  tokens_of (array ts) = token.begin_array ∷ (tree_tokens ts ++ token.end_array ∷ [])
  tokens_of (object ps) = token.begin_object ∷ (prop_tokens ps ++ token.end_object ∷ [])
  tokens_of (element tag key props) = token.begin_array ∷ mark_token ∷ (tokens_of tag ++ (tokens_of key ++ (tokens_of props ++ token.end_array ∷ [])))

  pub tree_tokens : Trees → List Token
  tree_tokens no_trees = []
  tree_tokens (tree_and t ts) = tokens_of t ++ tree_tokens ts

  pub prop_tokens : Props → List Token
  prop_tokens no_props = []
  prop_tokens (prop_and name t ps) = token.key name ∷ (tokens_of t ++ prop_tokens ps)

-- a property: its name, and its value
abbrev pub named_tokens : List ℕ × Tree → List Token
named_tokens p = token.key p.0 ∷ tokens_of p.1

-- ---- what is read again

-- an atom that stands in a row's JSON: it is no client module and no failure, and something is known of it
abbrev pub HasToken : Atom → Type 0
HasToken (atom.Import json) = ⊥
HasToken (atom.Failed digest) = ⊥
HasToken atom.Pending = ⊥
HasToken a = Unit {0}

-- and that is read as it was written
abbrev pub IsWritableAtom : Atom → Type 0
IsWritableAtom (atom.Whole z) = IsSafe z
IsWritableAtom (atom.Big z) = FitsSigned w128 z
IsWritableAtom (atom.Date text) = IsDate text
IsWritableAtom a = HasToken a

-- such an atom, or a reference to an id below 2^31 by names without `:`
abbrev pub IsWritablePlace : Place → Type 0
IsWritablePlace (place.Atom a) = IsWritableAtom a
IsWritablePlace (place.Lazy id) = id < 2 ^ 31
IsWritablePlace (place.Promise id) = id < 2 ^ 31
IsWritablePlace (place.Value at) = IsPlace at
IsWritablePlace (place.Map at) = IsPlace at
IsWritablePlace (place.Set at) = IsPlace at
IsWritablePlace (place.Action id) = id < 2 ^ 31
IsWritablePlace composite = ⊥

-- the key of an element: null or a text
abbrev pub IsKey : Tree → Type 0
IsKey (single (place.Atom atom.Null)) = Unit {0}
IsKey (single (place.Atom (atom.Text text))) = Unit {0}
IsKey t = ⊥

-- each atom and each reference is writable, names ascend by their bytes, and an element has a key
abbrev mutual
  pub IsWritable : Tree → Type 0
  IsWritable (single p) = IsWritablePlace p
  IsWritable (array ts) = AreWritable ts
  IsWritable (object ps) = Ascend (names ps) × HaveWritable ps
  IsWritable (element tag key props) = IsKey key × IsWritable tag × IsWritable key × IsWritable props

  pub AreWritable : Trees → Type 0
  AreWritable no_trees = Unit {0}
  AreWritable (tree_and t ts) = IsWritable t × AreWritable ts

  pub HaveWritable : Props → Type 0
  HaveWritable no_props = Unit {0}
  HaveWritable (prop_and name t ps) = IsWritable t × HaveWritable ps

-- it nests no deeper than JSON is read
pub record IsReadable (t : Tree) : Type 0 where
  pub writable : IsWritable t
  pub shallow : depth t ≤ 127
