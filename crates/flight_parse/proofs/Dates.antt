-- The test of a date, in whatever way it is made.
use Rattle.std.proofs.Common.{◌≡◌, ◌↔◌, ℕ, Bool, List, IsTrue}
use Rattle.std.proofs.lemmas.Bool.Decides.{same_from_decides}
use Rattle.flight_value.specs.Date.{IsDate}
use Rattle.flight_syntax.specs.Lexicon.{is_date}
use Rattle.flight_syntax.proofs.Dates.{date_is, is_date-true}

pub same_date : (r : Bool) (text : List ℕ) → (IsTrue r ↔ IsDate text) → r ≡ is_date text
same_date r text h = same_from_decides r (is_date text) h (date_is text, is_date-true text)
