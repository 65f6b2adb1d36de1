-- What a reader of rows is.
use Rattle.std.specs.Prelude.{ℕ, List, Option}
use Rattle.flight_feed.specs.declared.fault.FeedFault.{FeedFault}

-- the fault that it keeps, the number of the row that has begun or comes next, and the bytes of that row so far
pub record Fed : Type 0 where
  pub fault : Option FeedFault
  pub number : ℕ
  pub bytes : List ℕ
