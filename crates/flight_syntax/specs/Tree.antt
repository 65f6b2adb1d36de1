-- The trees that the productions give, with names as they are written and where they stand.
use Rattle.std.specs.Prelude.{ℕ, suc, List, [], ◌∷◌, ◌++◌}
use Rattle.flight_value.specs.declared.graph.Atom.{Atom}
use Rattle.flight_syntax.specs.declared.expr.Op.{Op}
use Rattle.json.specs.Json as json
use Rattle.json.specs.Json.{Json}
use Rattle.flight_syntax.specs.Lexicon.{Placed}

-- an expression
mutual
  pub data Tree : Type 0 where
    let_in : (named : Placed) (value rest : Tree) → Tree
    if_else : (test yes other : Tree) → Tree
    for_in : (named : Placed) (over give : Tree) → Tree
    throw : (value : Tree) → Tree
    member : (of : Tree) (named : Placed) → Tree
    index : (of at : Tree) → Tree
    atom : (value : Atom) → Tree
    variable : (named : Placed) → Tree
    client : (named : Placed) → Tree
    array : (items : Trees) → Tree
    object : (props : TreeProps) → Tree
    map : (pairs : TreePairs) → Tree
    set : (items : Trees) → Tree
    source : (named : Placed) → Tree
    promise : (named : Placed) → Tree
    stream : (named : Placed) → Tree
    action : (named : Placed) → Tree
    action_with : (named : Placed) (bound : Trees) → Tree
    paren : (inside : Tree) → Tree
    binary : (op : Op) (left right : Tree) → Tree
    element : (tag : Placed) (attrs : TreeProps) (children : Trees) → Tree
    -- what is nested too deep, and a postfix too many. No text has them.
    too_deep : Tree
    too_many : (of : Tree) → Tree

  pub data Trees : Type 0 where
    no_trees : Trees
    tree_and : (first : Tree) (rest : Trees) → Trees

  pub data TreeProps : Type 0 where
    no_props : TreeProps
    prop_and : (named : Placed) (value : Tree) (rest : TreeProps) → TreeProps

  pub data TreePairs : Type 0 where
    no_pairs : TreePairs
    pair_and : (key value : Tree) (rest : TreePairs) → TreePairs

-- a declaration
pub data Declaration : Type 0 where
  server : (named : Placed) (params : List Placed) (body : Tree) → Declaration
  client_is : (named : Placed) (import : Json) → Declaration
  action_is : (named : Placed) (params : List Placed) (body : Tree) → Declaration

-- ---- from lists

abbrev pub trees_of : List Tree → Trees
trees_of [] = no_trees
trees_of (tree ∷ trees) = tree_and tree (trees_of trees)

abbrev pub props_of : List (Placed × Tree) → TreeProps
props_of [] = no_props
props_of (p ∷ props) = prop_and p.0 p.1 (props_of props)

abbrev pub pairs_of : List (Tree × Tree) → TreePairs
pairs_of [] = no_pairs
pairs_of (p ∷ pairs) = pair_and p.0 p.1 (pairs_of pairs)

abbrev pub json_items_of : List Json → json.Items
json_items_of [] = json.no_items
json_items_of (j ∷ items) = json.item j (json_items_of items)

abbrev pub json_members_of : List (Placed × Json) → json.Members
json_members_of [] = json.no_members
json_members_of (p ∷ members) = json.member p.0.bytes p.1 (json_members_of members)

-- the parts of an attribute's name, joined by `-`
abbrev pub joined_bytes : List ℕ → List Placed → List ℕ
joined_bytes bytes [] = bytes
joined_bytes bytes (part ∷ parts) = bytes ++ 45 ∷ joined_bytes part.bytes parts

abbrev pub joined : Placed → List Placed → Placed
joined first parts = record { bytes = joined_bytes first.bytes parts; at = first.at }

-- ---- what an expression is

-- how many postfixes stand on an atom
abbrev pub postfixes : Tree → ℕ
postfixes (member of named) = suc (postfixes of)
postfixes (index of at) = suc (postfixes of)
postfixes _ = 0

-- what may have a postfix
abbrev pub IsBase : Tree → Type 0
IsBase (let_in named value rest) = ⊥
IsBase (if_else test yes_one other) = ⊥
IsBase (for_in named over give) = ⊥
IsBase (throw value) = ⊥
IsBase too_deep = ⊥
IsBase (too_many of) = ⊥
IsBase _ = Unit {0}

-- whether an expression is an element
abbrev pub IsElement : Tree → Type 0
IsElement (element tag attrs children) = Unit {0}
IsElement _ = ⊥
