-- The operators on atoms, keys, and the digests that they throw.
use Rattle.std.specs.Prelude.{ℕ, ◌-◌, ◌^◌, Bool, true, false, ◌&&◌, if◌then◌else◌, ℤ, pos, negsuc, ◌+ℤ◌, ◌-ℤ◌, ◌*ℤ◌, int_lt, int_le, List, ◌++◌, bytes_eq, codes}
use Rattle.std.specs.Ordering.{nat_cmp, int_eq, is_lt}
use Rattle.std.specs.Cmp.Lexicographic.{slice_cmp}
use Rattle.std.specs.Fmt.{signed_decimal}
use Rattle.flight_value.specs.declared.graph.Atom.{Atom}
use Rattle.flight_value.specs.declared.graph.Atom.TheVariants as atom
use Rattle.flight_value.specs.declared.made.Tree.{Tree}
use Rattle.flight_value.specs.declared.made.Tree.TheVariants as tree
use Rattle.flight_syntax.specs.declared.expr.Op.{Op}
use Rattle.flight_syntax.specs.declared.expr.Op.TheVariants as op
use Rattle.flight_render.specs.Run.{Step, gave, threw}

abbrev pub type_digest : List ℕ
type_digest = codes "type"

abbrev pub range_digest : List ℕ
range_digest = codes "range"

abbrev pub missing_digest : List ℕ
missing_digest = codes "missing"

abbrev pub depth_digest : List ℕ
depth_digest = codes "depth"

abbrev pub is_safe : ℤ → Bool
is_safe z = int_le (negsuc (2 ^ 53 - 2)) z && int_le z (pos (2 ^ 53 - 1))

abbrev pub is_big : ℤ → Bool
is_big z = int_le (negsuc (2 ^ 127 - 1)) z && int_le z (pos (2 ^ 127 - 1))

-- a whole number within 53 bits, and a big one within 128 bits with its sign
abbrev pub whole : ℤ → Step Atom
whole z = if is_safe z then gave (atom.Whole z) else threw range_digest

abbrev pub big : ℤ → Step Atom
big z = if is_big z then gave (atom.Big z) else threw range_digest

-- two wholes, or two bigs
abbrev pub counted : (ℤ → ℤ → ℤ) → Atom → Atom → Step Atom
counted by (atom.Whole x) (atom.Whole y) = whole (by x y)
counted by (atom.Big x) (atom.Big y) = big (by x y)
counted by _ _ = threw type_digest

-- two texts are joined, and a whole's digits to a text
abbrev pub added : Atom → Atom → Step Atom
added (atom.Text x) (atom.Text y) = gave (atom.Text (x ++ y))
added (atom.Text x) (atom.Whole y) = gave (atom.Text (x ++ signed_decimal y))
added x y = counted ◌+ℤ◌ x y

-- what `==` compares
abbrev pub is_plain : Atom → Bool
is_plain atom.Null = true
is_plain atom.Undefined = true
is_plain (atom.Bool b) = true
is_plain (atom.Whole z) = true
is_plain (atom.Big z) = true
is_plain (atom.Text text) = true
is_plain (atom.Date text) = true
is_plain (atom.Symbol text) = true
is_plain _ = false

abbrev pub same_bool : Bool → Bool → Bool
same_bool true true = true
same_bool false false = true
same_bool _ _ = false

-- different kinds are unequal
abbrev pub same_plain : Atom → Atom → Bool
same_plain atom.Null atom.Null = true
same_plain atom.Undefined atom.Undefined = true
same_plain (atom.Bool x) (atom.Bool y) = same_bool x y
same_plain (atom.Whole x) (atom.Whole y) = int_eq x y
same_plain (atom.Big x) (atom.Big y) = int_eq x y
same_plain (atom.Text x) (atom.Text y) = bytes_eq x y
same_plain (atom.Date x) (atom.Date y) = bytes_eq x y
same_plain (atom.Symbol x) (atom.Symbol y) = bytes_eq x y
same_plain _ _ = false

abbrev pub equal : Atom → Atom → Step Atom
equal x y = if is_plain x && is_plain y then gave (atom.Bool (same_plain x y)) else threw type_digest

-- two wholes, two bigs, or two texts by bytes
abbrev pub less : Atom → Atom → Step Atom
less (atom.Whole x) (atom.Whole y) = gave (atom.Bool (int_lt x y))
less (atom.Big x) (atom.Big y) = gave (atom.Bool (int_lt x y))
less (atom.Text x) (atom.Text y) = gave (atom.Bool (is_lt (slice_cmp nat_cmp x y)))
less _ _ = threw type_digest

-- an operator other than `&&` and `||` on two atoms
abbrev pub operate : Op → Atom → Atom → Step Atom
operate op.Plus x y = added x y
operate op.Minus x y = counted ◌-ℤ◌ x y
operate op.Times x y = counted ◌*ℤ◌ x y
operate op.Equal x y = equal x y
operate op.Less x y = less x y
operate _ x y = threw type_digest

-- on two values: what is no atom is of no operator's kind
abbrev pub operated : Op → Tree → Tree → Step Atom
operated o (tree.Atom x) (tree.Atom y) = operate o x y
operated o _ _ = threw type_digest

-- a key: a text, or a whole's digits
abbrev pub key_of : Tree → Step Atom
key_of (tree.Atom (atom.Text text)) = gave (atom.Text text)
key_of (tree.Atom (atom.Whole z)) = gave (atom.Text (signed_decimal z))
key_of _ = threw type_digest

-- the digest that a thrown value is
abbrev pub thrown : Tree → List ℕ
thrown (tree.Atom (atom.Text text)) = text
thrown _ = type_digest
