use Rattle.std.proofs.Common.{◌≡◌, ◌<◌, ◌++◌, ◌∙◌, get_or, sym, subst, ℕ}
use Rattle.flight_reply_out.specs.Fields.{value_fields, node_fields}
use Rattle.flight_reply_out.proofs.Planning.{node_is}
use Rattle.flight_reply_out.proofs.Gathering.{on_ok, home_is, parts_pushed}
use Rattle.flight_reply_out.proofs.field.push_parts.Goals as goal

pub returns-clause-fields : goal.returns-clause-fields
returns-clause-fields c =
    let nodes = c.args.drawn.nodes.now in
    let homes = c.args.drawn.homes.now in
    let n = c.args.n in
    let node = get_or nodes n c.index-drawn-n.result in
    let home = get_or homes n c.index-drawn-n-2.result in
    let lt = subst (λ (len : ℕ). n < len) (sym c.requires.drawn.homes) c.requires.within in
    let start = c.args.fields.now.items in
    let mid = c.push_token.new.fields.items in
    let last = c.push_value.new.fields.items in
    on_ok (last ≡ mid ++ value_fields nodes homes n home node) (last ≡ start ++ node_fields nodes homes n) c.push_value.result
    (parts_pushed nodes homes n home node start mid last (node_is nodes n c.index-drawn-n.result c.requires.within c.index-drawn-n.is ∙ c.index-drawn-n.is) (home_is homes n c.index-drawn-n-2.result lt c.index-drawn-n-2.is ∙ c.index-drawn-n-2.is) c.in_ok-push_token.ensures.fields)
    c.push_value.ensures.fields
