-- That a text has one reading, whatever the pieces in which it comes.
use Rattle.std.specs.Prelude.{ℕ, ◌≡◌, List}
use Rattle.flight_value.specs.Graph.{IsValid}
use Rattle.flight_value.specs.declared.graph.Graph.{Graph}
use Rattle.flight_graph.specs.Canon.{canon_of}
use Rattle.flight_meaning.specs.declared.place.PlacedRow.{PlacedRow}
use Rattle.flight_meaning.specs.Good.{IsGood}
use Rattle.flight_client.specs.declared.fault.ClientFault.{ClientFault}
use Rattle.flight_client.specs.Rows.{HasSoFar, IsWhole}
use Rattle.flight_client.specs.Faults.{HasFault, EndsWithFault}
use Rattle.flight_client.specs.Meant.{IsMeant}

-- what has come of a text is rows, or has a fault behind rows, in one way only
pub record HasOneReading (text : List ℕ) : Type 0 where
  pub rows : (p q : List PlacedRow) → HasSoFar text p → HasSoFar text q → p ≡ q
  pub not_both : (p q : List PlacedRow) (f : ClientFault) → HasSoFar text p → HasFault text q f → ⊥
  pub one_fault : (p q : List PlacedRow) (f g : ClientFault) → HasFault text p f → HasFault text q g → (p ≡ q) × (f ≡ g)

-- a text that ends here is good rows, or has a fault, in one way only; and good rows mean one graph
pub record HasOneEnd (text : List ℕ) : Type 0 where
  pub rows : (p q : List PlacedRow) → IsWhole text p → IsWhole text q → p ≡ q
  pub not_both : (p : List PlacedRow) (f : ClientFault) → IsWhole text p → IsGood p → EndsWithFault text f → ⊥
  pub one_fault : (f g : ClientFault) → EndsWithFault text f → EndsWithFault text g → f ≡ g
  pub one_graph : (g h : Graph) → IsValid g → IsValid h → IsMeant text g → IsMeant text h → canon_of g ≡ canon_of h
