use Rattle.flight_meaning.proofs.MoreRows.{rows_of-append, standing-append, follow_front}
use Rattle.flight_meaning.proofs.MoreMeaning.{flowed-append}
use Rattle.flight_meaning.proofs.law.rows_follow.Goals as goal

pub returns-clause-rows : goal.returns-clause-rows
returns-clause-rows c = rows_of-append

pub returns-clause-standing : goal.returns-clause-standing
returns-clause-standing c = standing-append

pub returns-clause-front : goal.returns-clause-front
returns-clause-front c = follow_front

pub returns-clause-items : goal.returns-clause-items
returns-clause-items c = flowed-append
