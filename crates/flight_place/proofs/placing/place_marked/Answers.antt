use Rattle.std.proofs.Common.{◌≡◌, ◌+◌, ◌∷◌, [], length, Some, sym, ap, subst, ◌∙◌, arith}
use Rattle.std.proofs.lemmas.Result.{err_from_is_err_and}
use Rattle.json.specs.Json.{parse_map, items, value}
use Rattle.json.specs.Token as token
use Rattle.serde_json.specs.Data.{array, item, string}
use Rattle.serde_json.specs.Read.{of_items, converted}
use Rattle.flight_place.specs.Parsed.{items_data}
use Rattle.flight_place.specs.Places.{visits, count}
use Rattle.flight_place.specs.Faults.{Refuses, Adds}
use Rattle.flight_place.proofs.Parsing.{data-Array}
use Rattle.flight_place.proofs.OneByOne.{marked-turn, stops-at, stops-unread}
use Rattle.flight_place.proofs.placing.place_marked.Goals as goal

pub returns-in_err-items-clause-stops : goal.returns-in_err-items-clause-stops
returns-in_err-items-clause-stops c =
    let s = err_from_is_err_and c.from_residual.result c.from_residual.ensures.1 in
    let r = c.args.reader.now in
    rw (s.1, s.2) (stops-unread c.args.manner (λ ds. visits c.args.manner (length c.args.out.now.items) (array ds)) (converted of_items (items (value c.args.levels) (length r + 1) (token.string (36 ∷ []) ∷ r))) c.in_err-items.field-0.0 c.read_items.result (grind arith)
    (λ h. marked-turn c.args.levels (36 ∷ []) r ∙ ap (parse_map (item (string (36 ∷ [])))) (c.read_items.ensures.err h)))

pub returns-in_err-walk-clause-stops : goal.returns-in_err-walk-clause-stops
returns-in_err-walk-clause-stops c =
    let s = err_from_is_err_and c.from_residual-in_err-walk.result c.from_residual-in_err-walk.ensures.1 in
    let n = length c.args.out.now.items in
    let r = c.args.reader.now in
    let left = c.read_items.new.reader in
    let xs = c.in_ok-items.items.items in
    let all = c.insert.new.self in
    let e = c.in_err-walk.field-0.0 in
    let seen = converted of_items (items (value c.args.levels) (length r + 1) (token.string (36 ∷ []) ∷ r)) in
    let same : items_data all.items ≡ item (string (36 ∷ [])) (items_data xs) = ap items_data c.in_ok-insert.ensures.items ∙ ap (λ d. item d (items_data xs)) c.mark.ensures in
    let read : seen ≡ Some (items_data all.items, left) = marked-turn c.args.levels (36 ∷ []) r ∙ (ap (parse_map (item (string (36 ∷ [])))) c.in_ok-items.ensures.ok ∙ ap (λ ds. Some (ds, left)) (sym same)) in
    rw (s.1, s.2) (stops-at c.args.manner (λ ds. visits c.args.manner n (array ds)) seen (items_data all.items) left e read (subst (λ d. Refuses c.args.manner (visits c.args.manner n d) e) (data-Array all) c.in_err-walk.ensures.err))

pub returns-clause-brings : goal.returns-clause-brings
returns-clause-brings c =
    let start = c.args.out.now.items in
    let n = length start in
    let r = c.args.reader.now in
    let left = c.read_items.new.reader in
    let xs = c.in_ok-items.items.items in
    let all = c.insert.new.self in
    let new = c.walk.new.out.items in
    let seen = converted of_items (items (value c.args.levels) (length r + 1) (token.string (36 ∷ []) ∷ r)) in
    let same : items_data all.items ≡ item (string (36 ∷ [])) (items_data xs) = ap items_data c.in_ok-insert.ensures.items ∙ ap (λ d. item d (items_data xs)) c.mark.ensures in
    let read : seen ≡ Some (items_data all.items, left) = marked-turn c.args.levels (36 ∷ []) r ∙ (ap (parse_map (item (string (36 ∷ [])))) c.in_ok-items.ensures.ok ∙ ap (λ ds. Some (ds, left)) (sym same)) in
    record {
      what = items_data all.items;
      is_read = read;
      adds = subst (λ d. Adds c.args.manner start new (visits c.args.manner n d)) (data-Array all) c.in_ok-walk.ensures.adds;
      count = subst (λ d. length new ≡ length start + count d) (data-Array all) c.in_ok-walk.ensures.count;
    }
