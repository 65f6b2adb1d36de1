use Rattle.std.proofs.Common.{◌≡◌, ◌∙◌, ◌+◌, [], length, ap, sym, arith}
use Rattle.std.specs.Vec.Iter.{into_iter_items}
use Rattle.serde_json.specs.Data.{put}
use Rattle.flight_place.specs.Parsed.{data_of, members_data}
use Rattle.flight_place.proofs.Gathering.{put-inserted_entry, put_each, put_each-ordered, no_entries}
use Rattle.flight_place.proofs.gathered.mapped.Goals as goal

pub loop-name-preserved : goal.loop-name-preserved
loop-name-preserved c =
    let l = c.loop-name in
    let es = l.map.entries in
    let rest = into_iter_items c.next.new.self in
    let steps = c.in-Some.ensures.steps in
    let turned : members_data c.insert.new.self.entries ≡ put c.in-Some.name.now (data_of c.in-Some.value) (members_data es) = ap members_data c.in_ok-insert.ensures.entries ∙ put-inserted_entry es c.in-Some.name c.in-Some.value in
    let longer : length (into_iter_items l.name-iterator) ≡ length rest + 1 = ap length steps.0 ∙ omega arith in
    record {
      puts = ap (put_each rest) turned ∙ (ap (λ xs. put_each xs (members_data es)) (sym steps.0) ∙ l.invariant.puts);
      left = omega (arith, steps.1, l.invariant.left, longer);
    }

pub returns : goal.returns
returns c =
    let l = c.loop-name in
    let xs = c.args.list.items in
    let start = c.new-map.result.entries in
    let none : into_iter_items l.name-iterator ≡ [] = no_entries (into_iter_items l.name-iterator) (sym l.invariant.left ∙ c.in-None.ensures.steps.0) in
    ap (λ ys. put_each ys (members_data l.map.entries)) (sym none)
    ∙ (l.invariant.puts
    ∙ (ap (λ ys. put_each ys (members_data start)) c.into_iter-name-iterator.ensures.into_iter_gives.0
    ∙ (ap (λ es. put_each xs (members_data es)) c.new-map.ensures.empty ∙ put_each-ordered xs c.requires)))
