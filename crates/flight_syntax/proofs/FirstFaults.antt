-- The first fault of two parts is the first of their first faults.
use Rattle.std.proofs.Common.{◌≡◌, Bool, true, false, List, [], ◌∷◌, ◌++◌, Option, Some, None, refl, ap, ◌∙◌, arith, if◌then◌else◌, nat_lt}
use Rattle.std.proofs.lemmas.Bool.Decides.{nat_tests}
use Rattle.flight_syntax.specs.Faults.{NameFault, place, earlier, first_fault, first_of}

-- the first of three, by two
pub earlier-first_of : (fault : NameFault) (a b : Option NameFault) → earlier fault (first_of a b) ≡ first_of (earlier fault a) b
earlier-first_of fault None b = refl
earlier-first_of fault (Some f) None = by (nat_lt (place f) (place fault))
  where
    by : (t : Bool) → (if t then Some f else Some fault) ≡ first_of (if t then Some f else Some fault) None
    by true = refl
    by false = refl
earlier-first_of fault (Some f) (Some g) = by (nat_lt (place g) (place f)) (nat_lt (place f) (place fault)) (nat_lt (place g) (place fault)) refl refl refl
  where
    by : (p q r : Bool) → nat_lt (place g) (place f) ≡ p → nat_lt (place f) (place fault) ≡ q → nat_lt (place g) (place fault) ≡ r → earlier fault (earlier f (Some g)) ≡ first_of (earlier fault (Some f)) (Some g)
    by true true true e h k = rw (e, k, h, e) refl
    by true false true e h k = rw (e, h, k) refl
    by true false false e h k = rw (e, h, k) refl
    by false true true e h k = rw (e, h, e) refl
    by false true false e h k = rw (e, h, e) refl
    by false false false e h k = rw (e, h, k) refl
    by true true false e h k = absurd (grind (arith, nat_tests, e, h, k))
    by false false true e h k = absurd (grind (arith, nat_tests, e, h, k))

pub first_fault-append : (a b : List NameFault) → first_fault (a ++ b) ≡ first_of (first_fault a) (first_fault b)
first_fault-append [] b = refl
first_fault-append (fault ∷ a) b = ap (earlier fault) (first_fault-append a b) ∙ earlier-first_of fault (first_fault a) (first_fault b)
