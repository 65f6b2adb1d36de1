use Rattle.std.proofs.Common.{◌≡◌, ◌+◌, ◌-◌, ◌<◌, ◌++◌, inl, ◌∷◌, [], length, Some, None, refl, sym, ap, subst, ◌∙◌, arith, IfErr}
use Rattle.std.proofs.lemmas.Result.{err_from_is_err_and, on_ok_weaker, IfErr-weaker}
use Rattle.json.specs.Token.{string}
use Rattle.json.specs.Json.{after_end_array, items, value}
use Rattle.json.specs.Reads.{token_of}
use Rattle.json.proofs.Grammar.{value_is}
use Rattle.serde_json.specs.Data.{array}
use Rattle.serde_json.specs.Read.{of_json, of_items, converted}
use Rattle.flight_place.specs.Places.{visits}
use Rattle.flight_place.specs.Placing.{BringsItems, Stops}
use Rattle.flight_place.proofs.Parsing.{an-array, too-deep}
use Rattle.flight_place.proofs.Turns.{items-turn, items-over}
use Rattle.flight_place.proofs.OneByOne.{awaits-start, awaits-on, awaits-end, awaits-stops, brings-array, stops-array, is-mark, is-array, unmarked-brings, unmarked-stops, empty-brings, any-stop, nothing-left, from-first}
use Rattle.flight_place.proofs.placing.+place.Goals as goal

pub place-returns-then-is_array-clause-brings : goal.place-returns-then-is_array-clause-brings
place-returns-then-is_array-clause-brings t c =
    let begins = is-array (token_of c.args.token) (c.is_array.ensures.0 c.if-is_array.true) in
    let opened = an-array c.args.levels (token_of c.args.token ∷ c.args.reader.now) c.args.reader.now (ap (λ k. k ∷ c.args.reader.now) begins) (omega arith) in
    on_ok_weaker c.place_array.result (brings-array c.args.manner c.args.out.now.items c.place_array.new.out.items _ _ c.place_array.new.reader opened) c.place_array.ensures.brings

pub place-returns-then-is_array-clause-stops : goal.place-returns-then-is_array-clause-stops
place-returns-then-is_array-clause-stops t c =
    let begins = is-array (token_of c.args.token) (c.is_array.ensures.0 c.if-is_array.true) in
    let opened = an-array c.args.levels (token_of c.args.token ∷ c.args.reader.now) c.args.reader.now (ap (λ k. k ∷ c.args.reader.now) begins) (omega arith) in
    IfErr-weaker c.place_array.result _ _ (λ e. stops-array c.args.manner (length c.args.out.now.items) _ _ e opened) c.place_array.ensures.stops

pub place-returns-then-levels-eq0-clause-stops : goal.place-returns-then-levels-eq0-clause-stops
place-returns-then-levels-eq0-clause-stops t c =
    let begins = is-array (token_of c.args.token) (c.is_array.ensures.0 c.if-is_array.true) in
    too-deep c.args.levels (token_of c.args.token ∷ c.args.reader.now) c.args.reader.now (token_of c.args.token) (inl begins) refl (omega arith)

pub place_array-returns-then-take_end_array-clause-brings : goal.place_array-returns-then-take_end_array-clause-brings
place_array-returns-then-take_end_array-clause-brings t c =
    let ts = c.args.reader.now in
    let r = c.take_end_array.new.self in
    let over = items-over (value c.args.levels) (length ts) ts r (omega arith) (grind arith) in
    empty-brings c.args.manner c.args.out.now.items c.push.new.out.items _ r over (c.in_ok-push.ensures.ok ∙ ap (λ p. c.args.out.now.items ++ p ∷ []) c.unfinished.ensures)

pub place_array-returns-in_err-first-clause-stops : goal.place_array-returns-in_err-first-clause-stops
place_array-returns-in_err-first-clause-stops t c =
    let empty : c.args.reader.now ≡ [] = grind arith in
    any-stop c.args.manner (λ ds. visits c.args.manner (length c.args.out.now.items) (array ds)) _ c.from_residual-in_err-first.result (nothing-left (value c.args.levels) c.args.reader.now empty)

pub place_array-returns-then-is_mark-clause-stops : goal.place_array-returns-then-is_mark-clause-stops
place_array-returns-then-is_mark-clause-stops t c =
    let r = c.next.new.self in
    let first : c.args.reader.now ≡ token_of c.in_ok-first.first ∷ r = grind arith in
    let marked = is-mark (token_of c.in_ok-first.first) (c.is_mark.ensures.0 c.if-is_mark.true) in
    let same = from-first (value c.args.levels) c.args.reader.now r (string (36 ∷ [])) (first ∙ ap (λ k. k ∷ r) marked) in
    subst (λ seen. IfErr c.place_marked.result (Stops c.args.manner (λ ds. visits c.args.manner (length c.args.out.now.items) (array ds)) seen)) (sym same) c.place_marked.ensures.stops

pub place_array-returns-else-is_mark-clause-stops : goal.place_array-returns-else-is_mark-clause-stops
place_array-returns-else-is_mark-clause-stops t c =
    let r = c.next.new.self in
    let first : c.args.reader.now ≡ token_of c.in_ok-first.first ∷ r = grind arith in
    let same = from-first (value c.args.levels) c.args.reader.now r (token_of c.in_ok-first.first) first in
    subst (λ seen. IfErr c.place_unmarked.result (Stops c.args.manner (λ ds. visits c.args.manner (length c.args.out.now.items) (array ds)) seen)) (sym same) c.place_unmarked.ensures.stops

pub place_items-returns-in_err-place-clause-stops : goal.place_items-returns-in_err-place-clause-stops
place_items-returns-in_err-place-clause-stops t c =
    let p = err_from_is_err_and c.from_residual.result c.from_residual.ensures.1 in
    let ts = token_of c.args.first ∷ c.args.reader.now in
    let start = c.args.out.now.items in
    let whole = converted of_items (items (value c.args.levels) (length c.args.reader.now + 1) ts) in
    rw (p.1, p.2) (awaits-stops c.args.manner start start [] whole (value c.args.levels) (length c.args.reader.now + 1) ts c.in_err-place.field-0.0 (awaits-start c.args.manner start [] whole refl) c.requires c.in_err-place.ensures.stops)

pub place_items-items-init : goal.place_items-items-init
place_items-items-init t c =
    let p = value c.args.levels in
    let r = c.args.reader.now in
    let ts = token_of c.args.first ∷ r in
    let start = c.args.out.now.items in
    let none = c.new-numbers.result.items in
    let whole = converted of_items (items p (length r + 1) ts) in
    let b = c.in_ok-place.ensures.brings in
    let shorter = c.in_ok-place.ensures.shorter in
    let left = c.place.new.reader in
    let some : 0 < length r + 1 = omega arith in
    let turn = items-turn p (length r + 1) ts left b.what some c.requires b.is_read in (
      length r + 1 - 1,
      omega (arith, shorter),
      awaits-on c.args.manner start start c.place.new.out.items none c.push.new.self.items whole whole (converted of_items (items p (length r + 1 - 1) left)) b.what c.in_ok-place.field-0
          (awaits-start c.args.manner start none whole c.new-numbers.ensures.items) turn b.adds b.count c.in_ok-push.ensures.items c.in_ok-place.ensures.number,
      omega (arith, shorter),
    )

pub place_items-items-preserved : goal.place_items-items-preserved
place_items-items-preserved t c =
    let p = value c.args.levels in
    let l = c.items in
    let turns = l.invariant.0 in
    let start = c.args.out.now.items in
    let whole = converted of_items (items p (length c.args.reader.now + 1) (token_of c.args.first ∷ c.args.reader.now)) in
    let going : (after_end_array l.reader ≡ None) × (c.take_end_array.new.self ≡ l.reader) = grind arith in
    let b = c.in_ok-place_next.ensures.brings in
    let left = c.place_next.new.reader in
    let read = subst (λ ts. converted of_json (p ts) ≡ Some (b.what, left)) going.1 b.is_read in
    let shorter : length left < length l.reader = subst (λ ts. length left < length ts) going.1 c.in_ok-place_next.ensures.shorter in
    let turn = items-turn p turns l.reader left b.what (omega (arith, l.invariant.1, shorter)) going.0 read in (
      turns - 1,
      omega (arith, l.invariant.1, shorter),
      awaits-on c.args.manner start l.out.items c.place_next.new.out.items l.numbers.items c.push-in-items.new.self.items whole (converted of_items (items p turns l.reader)) (converted of_items (items p (turns - 1) left)) b.what c.in_ok-place_next.field-0
          l.invariant.2 turn b.adds b.count c.in_ok-push-2.ensures.items c.in_ok-place_next.ensures.number,
      omega (arith, l.invariant.3, shorter),
    )

pub place_items-returns-in_err-place_next-clause-stops : goal.place_items-returns-in_err-place_next-clause-stops
place_items-returns-in_err-place_next-clause-stops t c =
    let s = err_from_is_err_and c.from_residual-in_err-place_next.result c.from_residual-in_err-place_next.ensures.1 in
    let p = value c.args.levels in
    let l = c.items in
    let start = c.args.out.now.items in
    let e = c.in_err-place_next.field-0.0 in
    let whole = converted of_items (items p (length c.args.reader.now + 1) (token_of c.args.first ∷ c.args.reader.now)) in
    let going : (after_end_array l.reader ≡ None) × (c.take_end_array.new.self ≡ l.reader) = grind arith in
    let stops = subst (λ ts. Stops c.args.manner (visits c.args.manner (length l.out.items)) (converted of_json (p ts)) e) going.1 c.in_err-place_next.ensures.stops in
    rw (s.1, s.2) (awaits-stops c.args.manner start l.out.items l.numbers.items whole p l.invariant.0 l.reader e l.invariant.2 going.0 stops)

pub place_items-returns-clause-brings : goal.place_items-returns-clause-brings
place_items-returns-clause-brings t c =
    let p = value c.args.levels in
    let l = c.items in
    let r = c.take_end_array.new.self in
    awaits-end c.args.manner c.args.out.now.items l.out.items l.numbers.items _ (converted of_items (items p l.invariant.0 l.reader)) r l.invariant.2 (items-over p l.invariant.0 l.reader r l.invariant.1 (grind arith))

pub place_next-returns-in_err-token-clause-stops : goal.place_next-returns-in_err-token-clause-stops
place_next-returns-in_err-token-clause-stops t c =
    let empty : c.args.reader.now ≡ [] = grind arith in
    any-stop c.args.manner (visits c.args.manner (length c.args.out.now.items)) _ c.from_residual.result (ap (converted of_json) (ap (value c.args.levels) empty ∙ value_is c.args.levels []))

pub place_unmarked-returns-in_err-numbers-clause-stops : goal.place_unmarked-returns-in_err-numbers-clause-stops
place_unmarked-returns-in_err-numbers-clause-stops t c =
    let s = err_from_is_err_and c.from_residual-in_err-numbers.result c.from_residual-in_err-numbers.ensures.1 in
    let r = c.args.reader.now in
    rw (s.1, s.2) (unmarked-stops c.args.manner c.args.out.now.items c.push.new.out.items c.unfinished.result c.args.levels (length r + 1) (token_of c.args.first) r c.in_err-numbers.field-0.0 c.requires.going c.requires.unmarked c.in_ok-number.ensures.ok c.in_err-numbers.ensures.stops)

pub place_unmarked-returns-clause-brings : goal.place_unmarked-returns-clause-brings
place_unmarked-returns-clause-brings t c =
    let r = c.args.reader.now in
    let start = c.args.out.now.items in
    let seen = converted of_items (items (value c.args.levels) (length r + 1) (token_of c.args.first ∷ r)) in
    let b = subst (λ ns. BringsItems c.args.manner c.push.new.out.items c.place_items.new.out.items seen c.place_items.new.reader ns) (sym c.new.ensures) c.in_ok-numbers.ensures.brings in
    unmarked-brings c.args.manner start c.push.new.out.items c.place_items.new.out.items c.put.new.out.items c.unfinished.result c.in_ok-number.number c.new.result c.args.levels (length r + 1) (token_of c.args.first) r c.place_items.new.reader
    c.requires.going c.requires.unmarked c.in_ok-number.ensures.number c.in_ok-number.ensures.ok b c.put.ensures
