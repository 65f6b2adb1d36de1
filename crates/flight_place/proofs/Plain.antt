-- Strings that stand for themselves.
use Rattle.std.proofs.Common.{◌≡◌, ◌≢◌, ◌==◌, ℕ, List, [], ◌∷◌, ◌++◌, ◌∙◌, length, refl, sym, ap, arith, true, false, Bool, not, nat_eq}
use Rattle.std.proofs.lemmas.Bool.{false≢true}
use Rattle.std.proofs.lemmas.Bool.Decides.{nat_tests}
use Rattle.std.specs.List.{starts_with}
use Rattle.flight_text.specs.Mark.{plain}
use Rattle.flight_text.specs.declared.mark.Mark.TheVariants as mark
use Rattle.flight_text.proofs.Lines.{is_marked, plain_unmarked}
use Rattle.flight_value.specs.declared.graph.Atom.TheVariants as atom
use Rattle.flight_meaning.specs.declared.place.Place.{Place}
use Rattle.flight_meaning.specs.declared.place.Place.TheVariants as place
use Rattle.flight_place.specs.declared.manner.Manner.{Manner}
use Rattle.flight_place.specs.declared.manner.Manner.TheVariants.{Wire, Reply}
use Rattle.flight_place.specs.Tokens.{is_plain, is_dollar, is_of_wire, is_barred}
use Rattle.flight_place.specs.Places.{token}
use Rattle.flight_place.specs.Faults.{Adds}

other-first : (b : ℕ) (text needle : List ℕ) → is_plain (b ∷ text) ≡ true → starts_with nat_eq (b ∷ text) (36 ∷ needle) ≡ false
other-first b text needle h = let other : nat_eq 36 b ≡ false = grind (arith, nat_tests, h) in rw other refl

not-dollar : (text : List ℕ) → is_plain text ≡ true → is_dollar text ≡ false
not-dollar [] h = refl
not-dollar (b ∷ []) h = grind (arith, nat_tests, h)
not-dollar (b ∷ c ∷ text) h = refl

not-of_wire : (text : List ℕ) → is_plain text ≡ true → is_of_wire text ≡ false
not-of_wire [] h = refl
not-of_wire (b ∷ text) h = rw (other-first b text (76 ∷ []) h, other-first b text (104 ∷ []) h, other-first b text (83 ∷ []) h) refl

not-barred : (manner : Manner) (text : List ℕ) → is_plain text ≡ true → is_barred manner text ≡ false
not-barred Wire text h = not-dollar text h
not-barred Reply text h = rw (not-dollar text h, not-of_wire text h) refl

bare : (text : List ℕ) → is_plain text ≡ true → (rest : List ℕ) → text ≢ 36 ∷ rest
bare text h rest is = false≢true (sym (ap is_plain is) ∙ h)

pub plain-adds : (manner : Manner) (old new : List Place) (text : List ℕ) (at : Place) → is_plain text ≡ true → new ≡ old ++ at ∷ [] → at ≡ place.Atom (atom.Text text) → Adds manner old new (token (length old) text ∷ [])
plain-adds manner old new text at h is_new is_at = record {
  more = at ∷ [];
  added = is_new;
  have = (record { allowed = not-barred manner text h; spelled = mark.Plain text; spells = plain_unmarked text (bare text h) (is_marked text) refl; is_place = is_at }, tt);
}
