use Rattle.std.proofs.Common.{rules, ◌≡◌, ◌<◌, ◌^◌, length}
use Rattle.std.proofs.lemmas.Result.{IfOk-weaker}
use Rattle.flight_value.specs.Graph.{IsValid}
use Rattle.flight_value.specs.Store.{DrawOneGraph, of_graph}
use Rattle.flight_value.specs.declared.graph.Graph.{Graph}
use Rattle.flight_graph.specs.Text.{text_of}
use Rattle.flight_meaning.specs.Meaning.{meaning}
use Rattle.flight_link.specs.Drafted.{IsFilled}
use Rattle.flight_link.proofs.Drawing.{apart}
use Rattle.flight_link.proofs.Gaps.{draft_keys, filled_under}
use Rattle.flight_link.proofs.Ordering.{text_right}
use Rattle.flight_link.proofs.table.Table.text.Goals as goal

pub filled-requires-clause-keys : goal.filled-requires-clause-keys
filled-requires-clause-keys c = draft_keys c.args.self.now c.in_ok-numbers.numbers.keys.items c.in_order.new.draft c.requires.linked.table c.in_ok-numbers.ensures.drafted

pub returns : goal.returns
returns c =
    let rows = c.args.self.now.rows.items in
    let n = c.in_ok-numbers.numbers in
    let table = c.requires.linked.table in
    let few : length n.keys.items < 2 ^ 32 = search rules in
    IfOk-weaker c.filled.result (IsFilled rows n c.in_order.new.draft) (λ t. (g : Graph) × IsValid g × DrawOneGraph (of_graph g) (meaning rows) × (t ≡ text_of g))
    (λ t h. text_right rows n.keys.items t table.fine (apart rows n table.plain c.in_ok-numbers.ensures.numbered) c.in_ok-numbers.ensures.ordered
    (filled_under c.args.self.now n c.in_order.new.draft t table c.in_ok-numbers.ensures.numbered few c.in_ok-numbers.ensures.drafted h)) c.filled.ensures
