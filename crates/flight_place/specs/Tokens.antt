-- What strings stand for, and where they may stand.
use Rattle.std.specs.Prelude.{ℕ, ◌==◌, ◌||◌, Bool, true, false, not, nat_eq, List, [], ◌∷◌, codes}
use Rattle.std.specs.List.{starts_with}
use Rattle.flight_value.specs.declared.graph.Atom.TheVariants as atom
use Rattle.flight_text.specs.declared.mark.Mark.{Mark}
use Rattle.flight_text.specs.declared.mark.Mark.TheVariants as mark
use Rattle.flight_meaning.specs.declared.place.Place.{Place}
use Rattle.flight_meaning.specs.declared.place.Place.TheVariants as place
use Rattle.flight_place.specs.declared.manner.Manner.{Manner}
use Rattle.flight_place.specs.declared.manner.Manner.TheVariants.{Wire, Reply}

-- the string `$`
abbrev pub is_dollar : List ℕ → Bool
is_dollar (b ∷ []) = b == 36
is_dollar text = false

-- the strings that stand for themselves: those that do not begin with `$`
abbrev pub is_plain : List ℕ → Bool
is_plain [] = true
is_plain (b ∷ text) = not (b == 36)

-- the strings that stand for texts: those that begin with no `$`, or with two
abbrev pub is_text : List ℕ → Bool
is_text text = not (starts_with nat_eq text (codes "$")) || starts_with nat_eq text (codes "$$")

-- lazy values, server references with what they are bound to, and symbols
abbrev pub is_of_wire : List ℕ → Bool
is_of_wire text = starts_with nat_eq text (codes "$L") || (starts_with nat_eq text (codes "$h") || starts_with nat_eq text (codes "$S"))

-- the strings that may not stand where a value does: the mark of an element, and in a reply what only a server writes
abbrev pub is_barred : Manner → List ℕ → Bool
is_barred Wire text = is_dollar text
is_barred Reply text = is_dollar text || is_of_wire text

-- the place of what a string spells; the mark of an element is kept as the text `$`
abbrev pub place_of : Mark → Place
place_of (mark.Plain text) = place.Atom (atom.Text text)
place_of mark.Element = place.Atom (atom.Text (codes "$"))
place_of (mark.Lazy id) = place.Lazy id
place_of (mark.Promise id) = place.Promise id
place_of (mark.Value at) = place.Value at
place_of (mark.Map at) = place.Map at
place_of (mark.Set at) = place.Set at
place_of (mark.Action id) = place.Action id
place_of (mark.Date date) = place.Atom (atom.Date date)
place_of (mark.Big number) = place.Atom (atom.Big number)
place_of (mark.Symbol name) = place.Atom (atom.Symbol name)
place_of mark.Undefined = place.Atom atom.Undefined
place_of (mark.Constant constant) = place.Atom (atom.Constant constant)
