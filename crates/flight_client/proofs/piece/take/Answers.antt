use Rattle.std.proofs.Common.{◌++◌, ap, ◌∙◌}
use Rattle.std.specs.Prelude.{Err}
use Rattle.std.proofs.lemmas.Result.{err_from_is_err_and}
use Rattle.flight_client.proofs.Pieces.{came_readable, refused_more, left_more, stops_more, piece_stands}
use Rattle.flight_client.proofs.piece.take.Goals as goal

pub link_all-requires : goal.link_all-requires
link_all-requires c =
    let a = rw c.new-arrived.ensures.items at c.in-Ok.ensures.ok.2 in
    came_readable _ _ _ _ _ a

pub link_all-requires-in-Err-Row : goal.link_all-requires-in-Err-Row
link_all-requires-in-Err-Row c =
    let r = rw c.new-arrived.ensures.items at c.feed.ensures.refused c.in-Err-Row.number c.in-Err-Row.kind c.requires (c.in-Err-Row.is ∙ ap Err c.in-Err-Row.field-0-is) in
    came_readable _ _ _ _ _ r.rows

pub link_all-requires-in-Err-Memory : goal.link_all-requires-in-Err-Memory
link_all-requires-in-Err-Memory c =
    let r = rw c.new-arrived.ensures.items at c.feed.ensures.memory c.requires (c.in-Err-Memory.is ∙ ap Err c.in-Err-Memory.field-0-is) in
    came_readable _ _ _ _ _ r.rows

pub returns-in-Ok-clause-stands : goal.returns-in-Ok-clause-stands
returns-in-Ok-clause-stands c =
    λ text on.
    let a = rw c.new-arrived.ensures.items at c.in-Ok.ensures.ok.2 in
    piece_stands c.link_all.result text c.args.piece.now c.args.feed.now c.feed.new.self c.args.links.now c.link_all.new.links c.feed.new.out.items on a c.in-Ok.ensures.part c.link_all.ensures.ok c.link_all.ensures.stops

pub returns-in_err-link_all-in-Err-Row-clause-stands : goal.returns-in_err-link_all-in-Err-Row-clause-stands
returns-in_err-link_all-in-Err-Row-clause-stands c =
    λ text on.
    let r = rw c.new-arrived.ensures.items at c.feed.ensures.refused c.in-Err-Row.number c.in-Err-Row.kind c.requires (c.in-Err-Row.is ∙ ap Err c.in-Err-Row.field-0-is) in
    let p = err_from_is_err_and c.from_residual.result c.from_residual.ensures.1 in
    rw (p.1, p.2)
    (stops_more text c.args.piece.now c.args.feed.now c.feed.new.self c.args.links.now c.link_all-in-Err-Row.new.links c.feed.new.out.items (r.bad ++ r.more) c.in-Err-Row.number c.in_err-link_all-in-Err-Row.field-0.0 on r.rows c.in_err-link_all-in-Err-Row.ensures.stops)

pub returns-in_ok-link_all-in-Err-Row-clause-stands : goal.returns-in_ok-link_all-in-Err-Row-clause-stands
returns-in_ok-link_all-in-Err-Row-clause-stands c =
    λ text on.
    let r = rw c.new-arrived.ensures.items at c.feed.ensures.refused c.in-Err-Row.number c.in-Err-Row.kind c.requires (c.in-Err-Row.is ∙ ap Err c.in-Err-Row.field-0-is) in
    refused_more text c.args.piece.now c.args.feed.now c.args.links.now c.link_all-in-Err-Row.new.links c.feed.new.out.items c.in-Err-Row.number c.in-Err-Row.kind on r c.in_ok-link_all-in-Err-Row.ensures.ok

pub returns-in_err-link_all-in-Err-Memory-clause-stands : goal.returns-in_err-link_all-in-Err-Memory-clause-stands
returns-in_err-link_all-in-Err-Memory-clause-stands c =
    λ text on.
    let l = rw c.new-arrived.ensures.items at c.feed.ensures.memory c.requires (c.in-Err-Memory.is ∙ ap Err c.in-Err-Memory.field-0-is) in
    let p = err_from_is_err_and c.from_residual-in_err-link_all-in-Err-Memory.result c.from_residual-in_err-link_all-in-Err-Memory.ensures.1 in
    rw (p.1, p.2)
    (stops_more text c.args.piece.now c.args.feed.now c.feed.new.self c.args.links.now c.link_all-in-Err-Memory.new.links c.feed.new.out.items l.more l.number c.in_err-link_all-in-Err-Memory.field-0.0 on l.rows c.in_err-link_all-in-Err-Memory.ensures.stops)

pub returns-in_ok-link_all-in-Err-Memory-clause-stands : goal.returns-in_ok-link_all-in-Err-Memory-clause-stands
returns-in_ok-link_all-in-Err-Memory-clause-stands c =
    λ text on.
    let l = rw c.new-arrived.ensures.items at c.feed.ensures.memory c.requires (c.in-Err-Memory.is ∙ ap Err c.in-Err-Memory.field-0-is) in
    left_more text c.args.piece.now c.args.feed.now c.args.links.now c.link_all-in-Err-Memory.new.links c.feed.new.out.items on l c.in_ok-link_all-in-Err-Memory.ensures.ok
