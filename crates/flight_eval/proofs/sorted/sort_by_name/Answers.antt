use Rattle.std.proofs.Common.{rules}
use Rattle.std.proofs.lemmas.List.Sorted.{answers_always}
use Rattle.flight_eval.proofs.StableOrder.{before, before_orders, sorted_by_name}
use Rattle.flight_eval.proofs.sorted.sort_by_name.Goals as goal

pub returns : goal.returns
returns c =
    sorted_by_name c.args.props.now.items c.sort_by.new.self.items
    (c.in_ok-sort_by.ensures.sorted before before_orders (answers_always _ _ _ (λ f a r g h. search rules)))
    (c.sort_by.ensures.stable before before_orders (answers_always _ _ _ (λ f a r g h. search rules)))
