-- Names that were met, and a list of faults that is met part by part.
use Rattle.std.specs.Prelude.{ℕ, ◌≡◌, List, [], ◌∷◌, Bool, Option, Some, None, option_map}
use Rattle.std.specs.Str.{bytes_eq}
use Rattle.std.specs.HashSet.{HashSet, contains}
use Rattle.flight_syntax.specs.Lexicon.{Placed}
use Rattle.flight_syntax.specs.Faults as faults
use Rattle.flight_syntax.specs.Faults.{is_named, first_fault, first_of}
use Rattle.flight_resolve.specs.declared.name_fault.NameFault.{NameFault}
use Rattle.flight_resolve.specs.Names.{fault_of}

-- the set has the names
abbrev pub HasSeen : {S : Type 0} → HashSet (List ℕ) S → List Placed → Type 0
HasSeen seen names = (q : List ℕ) → contains bytes_eq seen q ≡ is_named q names

-- the first of what was found and of the faults that are left
abbrev pub going : Option NameFault → List faults.NameFault → Option faults.NameFault
going found rest = first_of (option_map fault_of found) (first_fault rest)

-- in front of a list, if there is one
abbrev pub with_some : {A : Type 0} → Option A → List A → List A
with_some None rest = rest
with_some (Some first) rest = first ∷ rest
