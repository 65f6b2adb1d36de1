-- The reader at work on `server App(x) = [x, 1].y;` and on words that are no program.
use Rattle.std.proofs.Common.{◌≡◌, ℕ, List, [], ◌∷◌, refl, pos, Ok, Err, true, false}
use Rattle.std.specs.Prelude.{codes}
use Rattle.flight_value.specs.declared.graph.Atom.TheVariants as value
use Rattle.flight_syntax.specs.declared.word.Keyword.TheVariants.{Server}
use Rattle.flight_syntax.specs.declared.word.Punctuator.TheVariants.{OpenParen, CloseParen, OpenBracket, CloseBracket, Comma, Semicolon, Assign, Dot, Minus, Less, Greater, LessSlash}
use Rattle.flight_syntax.specs.Lexicon.{Word, Placed, key, lower, upper, number, mark}
use Rattle.flight_syntax.specs.Tree as tree
use Rattle.flight_grammar.specs.Reader.{program, expression, level, posts, json_value}

abbrev placed : List ℕ → ℕ → Placed
placed bytes at = record { bytes = bytes; at = at }

abbrev x : ℕ → Placed
x at = placed (codes "x") at

abbrev words : List Word → List Word
words body = key Server 0 ∷ upper (placed (codes "App") 7) ∷ mark OpenParen ∷ lower (x 11) ∷ mark CloseParen ∷ mark Assign ∷ body

abbrev body : tree.Tree
body = tree.member (tree.array (tree.tree_and (tree.variable (x 17)) (tree.tree_and (tree.atom (value.Whole (pos 1))) tree.no_trees))) (placed (codes "y") 23)

pub reads : program (words (mark OpenBracket ∷ lower (x 17) ∷ mark Comma ∷ number (codes "1") ∷ mark CloseBracket ∷ mark Dot ∷ lower (placed (codes "y") 23) ∷ mark Semicolon ∷ [])) ≡ Ok (tree.server (placed (codes "App") 7) (x 11 ∷ []) body ∷ [])
unfolding level
reads = refl

-- it stops at the `]` that no expression begins with
pub stops : program (words (mark OpenBracket ∷ lower (x 17) ∷ mark Comma ∷ mark CloseBracket ∷ mark Semicolon ∷ [])) ≡ Err (record { too_deep = false; left = 2 })
unfolding level
stops = refl

-- and where the third level would begin, where two are left
pub too_deep : expression 2 (mark OpenBracket ∷ mark OpenParen ∷ lower (x 1) ∷ []) ≡ Err (record { too_deep = true; left = 1 })
unfolding level
too_deep = refl

-- whatever stands where a level too many begins, the end included, but not behind a `[` that closes at once
pub too_deep_at_end : expression 1 (mark OpenBracket ∷ []) ≡ Err (record { too_deep = true; left = 0 })
unfolding level
too_deep_at_end = refl

pub closes_at_once : expression 1 (mark OpenBracket ∷ mark CloseBracket ∷ []) ≡ Ok (tree.array tree.no_trees, [])
unfolding level
closes_at_once = refl

-- a child element is too deep at its mark, and only there
pub child_too_deep : expression 1 (mark Less ∷ lower (x 1) ∷ mark Greater ∷ mark Less ∷ lower (x 4) ∷ []) ≡ Err (record { too_deep = true; left = 2 })
unfolding level
child_too_deep = refl

pub child_unexpected : expression 1 (mark Less ∷ lower (x 1) ∷ mark Greater ∷ mark CloseParen ∷ []) ≡ Err (record { too_deep = false; left = 1 })
unfolding level
child_unexpected = refl

-- the closing tag is the opening one, else the fault is at its name
pub other_tag : expression 1 (mark Less ∷ lower (x 1) ∷ mark Greater ∷ mark LessSlash ∷ upper (placed (codes "App") 5) ∷ mark Greater ∷ []) ≡ Err (record { too_deep = false; left = 2 })
unfolding level
other_tag = refl

-- a postfix too many is too deep at its mark
pub postfix_too_deep : posts 1 (expression 1) (mark Dot ∷ lower (x 1) ∷ mark Dot ∷ lower (x 3) ∷ []) ≡ Err (record { too_deep = true; left = 2 })
postfix_too_deep = refl

-- in JSON no 0 stands behind a minus
pub minus_zero : json_value 1 (mark Minus ∷ number (codes "0") ∷ []) ≡ Err (record { too_deep = false; left = 1 })
unfolding json_value
minus_zero = refl
