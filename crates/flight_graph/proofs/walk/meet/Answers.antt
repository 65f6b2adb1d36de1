use Rattle.flight_graph.proofs.Walks.{none_at, passed_reached, visited_kept, visited_reached, visited_turns}
use Rattle.flight_graph.proofs.walk.meet.Goals as goal

pub returns-in_ok-visit-clause-kept : goal.returns-in_ok-visit-clause-kept
returns-in_ok-visit-clause-kept c =
    let none = none_at c.args.walk.now.places.items c.args.node c.index.result.now c.index.ensures c.is_none.result c.is_none.ensures c.if-is_none.true in
    visited_kept c.args.walk.now c.visit.new.walk c.args.nodes.now c.args.node c.requires.kept c.requires.within (c.requires.valid c.args.node) none c.in_ok-visit.ensures

pub returns-in_ok-visit-clause-reached : goal.returns-in_ok-visit-clause-reached
returns-in_ok-visit-clause-reached c =
    let none = none_at c.args.walk.now.places.items c.args.node c.index.result.now c.index.ensures c.is_none.result c.is_none.ensures c.if-is_none.true in
    visited_reached c.args.walk.now c.visit.new.walk c.args.nodes.now c.args.node c.requires.kept c.requires.within none c.in_ok-visit.ensures

pub returns-in_ok-visit-clause-turns : goal.returns-in_ok-visit-clause-turns
returns-in_ok-visit-clause-turns c =
    let none = none_at c.args.walk.now.places.items c.args.node c.index.result.now c.index.ensures c.is_none.result c.is_none.ensures c.if-is_none.true in
    visited_turns c.args.walk.now c.visit.new.walk c.args.nodes.now c.args.node c.requires.kept c.requires.within none c.in_ok-visit.ensures

pub returns-else-is_none-clause-reached : goal.returns-else-is_none-clause-reached
returns-else-is_none-clause-reached c =
    passed_reached c.args.walk.now c.args.nodes.now c.args.node c.index.result.now c.requires.kept c.requires.within c.index.ensures c.is_none.result c.is_none.ensures c.if-is_none.false
