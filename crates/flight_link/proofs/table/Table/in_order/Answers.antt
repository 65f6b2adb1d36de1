use Rattle.std.proofs.Common.{◌≡◌, ◌<◌, ◌++◌, List, [], length, rules, sym, ◌∙◌, ap, subst, arith}
use Rattle.std.proofs.lemmas.List.{nil_from_length}
use Rattle.flight_link.specs.declared.key.NodeKey.{NodeKey}
use Rattle.flight_link.specs.Drafted.{IsDrafted}
use Rattle.flight_link.specs.Ordering.{IsOnWay, key_in, turns_left}
use Rattle.flight_link.proofs.Drawing.{apart}
use Rattle.flight_link.proofs.Gaps.{draft_begun}
use Rattle.flight_link.proofs.Ordering.{begins, ends, taken_turns}
use Rattle.flight_link.proofs.table.Table.in_order.Goals as goal

pub keys-init : goal.keys-init
keys-init c =
    let rows = c.args.self.now.rows.items in
    let waits = c.in_ok-push_key.ensures ∙ ap (λ (x : List NodeKey). x ++ key_in c.target_of-root.result) c.new-waiting.ensures.items in
    record {
      numbered = c.in_ok-numbers.ensures.numbered rows c.requires.whole.bases.is_total;
      on_way = subst (λ ks. IsOnWay rows ks c.push_key.new.waiting.items) (sym c.in_ok-numbers.ensures.none) (subst (IsOnWay rows []) (sym waits) (begins c.args.self.now c.target_of-root.result c.requires.whole.linked.table c.target_of-root.ensures));
      drafted = subst (λ ks. IsDrafted rows ks c.draft_root.new.draft) (sym c.in_ok-numbers.ensures.none) (draft_begun rows c.target_of-root.result c.args.draft.now c.draft_root.new.draft c.target_of-root.ensures c.requires.empty c.in_ok-draft_root.ensures);
    }

pub keys-smaller : goal.keys-smaller
keys-smaller c =
    let less = taken_turns c.keys.numbers.keys.items c.keys.waiting.items c.pop.new.self.items c.in-Some.key c.in-Some.ensures.items in
    let same : turns_left c.meet.new.numbers.keys.items c.meet.new.waiting.items < turns_left c.keys.numbers.keys.items c.keys.waiting.items = omega (arith, less, c.in_ok-meet.ensures.turns) in
    same

pub returns-clause-ordered : goal.returns-clause-ordered
returns-clause-ordered c =
    let rows = c.args.self.now.rows.items in
    let none : length c.keys.waiting.items ≡ 0 = search rules in
    let empty : c.keys.waiting.items ≡ [] = nil_from_length c.keys.waiting.items none in
    ends rows c.keys.numbers.keys.items (apart rows c.keys.numbers c.requires.whole.linked.table.plain c.keys.invariant.numbered)
    (subst (IsOnWay rows c.keys.numbers.keys.items) empty c.keys.invariant.on_way)
