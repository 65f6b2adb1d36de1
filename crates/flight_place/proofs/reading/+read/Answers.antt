use Rattle.std.proofs.Common.{◌≡◌, ◌-◌, ◌<◌, [], ◌∷◌, ◌++◌, length, Some, None, refl, sym, ap, ◌∙◌, arith, rules, inl, inr}
use Rattle.json.specs.Token.{Token}
use Rattle.json.specs.Json.{parse_map, after_end_array, read_key, items, members, value}
use Rattle.json.specs.Reads.{token_of}
use Rattle.json.proofs.Grammar.{value_is, read_key-shorter}
use Rattle.serde_json.specs.Data.{null, boolean, number, string, array, object}
use Rattle.serde_json.specs.Read.{of_json, of_items, converted}
use Rattle.serde_json.specs.View.{number_view}
use Rattle.flight_place.proofs.Turns.{onto, items-turn, items-no-data, items-over, members-turn, members-no-data, members-no-key, members-over}
use Rattle.flight_place.specs.Parsed.{data_of, gathered_data}
use Rattle.flight_place.specs.declared.parsed.Parsed.{String, Number, Bool, Null, the_lemmas}
use Rattle.flight_text.proofs.Ordered.{put-ordered}
use Rattle.flight_place.proofs.Parsing.{data-Array, data-Object, behind, behind-none, behind-one_more, behind-nothing, an-array, an-object, too-deep}
use Rattle.flight_place.proofs.reading.+read.Goals as goal

pub read_value-returns-in_err-token-clause-err : goal.read_value-returns-in_err-token-clause-err
read_value-returns-in_err-token-clause-err t c refused =
    let empty : c.args.reader.now ≡ [] = grind arith in
    ap (converted of_json) (ap (value c.args.levels) empty ∙ value_is c.args.levels [])

pub read_from-returns-then-levels-eq0-clause-err : goal.read_from-returns-then-levels-eq0-clause-err
read_from-returns-then-levels-eq0-clause-err t c refused =
    too-deep c.args.levels (token_of c.args.token ∷ c.args.reader.now) c.args.reader.now (token_of c.args.token) (inl (ap token_of c.in-BeginArray.is)) refl (omega arith)

pub read_from-returns-then-levels-eq0-2-clause-err : goal.read_from-returns-then-levels-eq0-2-clause-err
read_from-returns-then-levels-eq0-2-clause-err t c refused =
    too-deep c.args.levels (token_of c.args.token ∷ c.args.reader.now) c.args.reader.now (token_of c.args.token) (inr (ap token_of c.in-BeginObject.is)) refl (omega arith)

pub read_from-returns-in_err-read_items-in-BeginArray-clause-err : goal.read_from-returns-in_err-read_items-in-BeginArray-clause-err
read_from-returns-in_err-read_items-in-BeginArray-clause-err t c refused =
    let opened = an-array c.args.levels (token_of c.args.token ∷ c.args.reader.now) c.args.reader.now (ap (λ k. token_of k ∷ c.args.reader.now) c.in-BeginArray.is) (omega arith) in
    opened ∙ ap (parse_map array) (c.read_items.ensures.err (grind arith))

pub read_from-returns-in_err-read_members-in-BeginObject-clause-err : goal.read_from-returns-in_err-read_members-in-BeginObject-clause-err
read_from-returns-in_err-read_members-in-BeginObject-clause-err t c refused =
    let opened = an-object c.args.levels (token_of c.args.token ∷ c.args.reader.now) c.args.reader.now (ap (λ k. token_of k ∷ c.args.reader.now) c.in-BeginObject.is) (omega arith) in
    opened ∙ ap (parse_map object) (c.read_members.ensures.err (grind arith))

pub read_from-returns-in-String-clause-ok : goal.read_from-returns-in-String-clause-ok
read_from-returns-in-String-clause-ok t c =
    let is : token_of c.args.token ≡ Token.string c.in-String.text.now = ap token_of c.in-String.is in
    let seen : data_of (String c.in-String.text) ≡ string c.in-String.text.now = search (rules, the_lemmas) in
    ap (converted of_json) (ap (λ k. value c.args.levels (k ∷ c.args.reader.now)) is ∙ value_is c.args.levels _) ∙ ap (λ d. Some (d, c.args.reader.now)) (sym seen)

pub read_from-returns-in-Bool-clause-ok : goal.read_from-returns-in-Bool-clause-ok
read_from-returns-in-Bool-clause-ok t c =
    let is : token_of c.args.token ≡ Token.boolean c.in-Bool.b = ap token_of c.in-Bool.is in
    let seen : data_of (Bool c.in-Bool.b) ≡ boolean c.in-Bool.b = search (rules, the_lemmas) in
    ap (converted of_json) (ap (λ k. value c.args.levels (k ∷ c.args.reader.now)) is ∙ value_is c.args.levels _) ∙ ap (λ d. Some (d, c.args.reader.now)) (sym seen)

pub read_from-returns-in-Null-clause-ok : goal.read_from-returns-in-Null-clause-ok
read_from-returns-in-Null-clause-ok t c =
    let is : token_of c.args.token ≡ Token.null = ap token_of c.in-Null.is in
    let seen : data_of (Null) ≡ null = search (rules, the_lemmas) in
    ap (converted of_json) (ap (λ k. value c.args.levels (k ∷ c.args.reader.now)) is ∙ value_is c.args.levels _) ∙ ap (λ d. Some (d, c.args.reader.now)) (sym seen)

pub read_from-returns-in-Some-clause-ok : goal.read_from-returns-in-Some-clause-ok
read_from-returns-in-Some-clause-ok t c =
    let is : token_of c.args.token ≡ Token.number c.in-Number.text.now = ap token_of c.in-Number.is in
    let seen : data_of (Number c.in-Some.number) ≡ number (number_view c.in-Some.number) = search (rules, the_lemmas) in
    ap (converted of_json) (ap (λ k. value c.args.levels (k ∷ c.args.reader.now)) is ∙ value_is c.args.levels _) ∙ rw (← c.in-Some.ensures, seen)

pub read_from-returns-in-None-clause-err : goal.read_from-returns-in-None-clause-err
read_from-returns-in-None-clause-err t c refused =
    let is : token_of c.args.token ≡ Token.number c.in-Number.text.now = ap token_of c.in-Number.is in
    ap (converted of_json) (ap (λ k. value c.args.levels (k ∷ c.args.reader.now)) is ∙ value_is c.args.levels _) ∙ rw (← c.in-None.ensures)

pub read_from-returns-in-EndObject-clause-err : goal.read_from-returns-in-EndObject-clause-err
read_from-returns-in-EndObject-clause-err t c refused =
    let none : value c.args.levels (token_of c.args.token ∷ c.args.reader.now) ≡ None = rw (value_is c.args.levels (token_of c.args.token ∷ c.args.reader.now)) (grind arith) in
    ap (converted of_json) none

pub read_from-returns-in_ok-read_items-in-BeginArray-clause-ok : goal.read_from-returns-in_ok-read_items-in-BeginArray-clause-ok
read_from-returns-in_ok-read_items-in-BeginArray-clause-ok t c =
    let opened = an-array c.args.levels (token_of c.args.token ∷ c.args.reader.now) c.args.reader.now (ap (λ k. token_of k ∷ c.args.reader.now) c.in-BeginArray.is) (omega arith) in
    let found = c.in_ok-read_items-in-BeginArray in
    opened ∙ (ap (parse_map array) found.ensures.ok ∙ ap (λ d. Some (d, c.read_items.new.reader)) (sym (data-Array found.field-0)))

pub read_from-returns-in_ok-read_members-in-BeginObject-clause-ok : goal.read_from-returns-in_ok-read_members-in-BeginObject-clause-ok
read_from-returns-in_ok-read_members-in-BeginObject-clause-ok t c =
    let opened = an-object c.args.levels (token_of c.args.token ∷ c.args.reader.now) c.args.reader.now (ap (λ k. token_of k ∷ c.args.reader.now) c.in-BeginObject.is) (omega arith) in
    let found = c.in_ok-read_members-in-BeginObject in
    opened ∙ (ap (parse_map object) found.ensures.ok ∙ ap (λ d. Some (d, c.read_members.new.reader)) (sym (data-Object found.field-0)))

pub read_items-items-init : goal.read_items-items-init
read_items-items-init t c =
    let all = converted of_items (items (value c.args.levels) (length c.args.reader.now) c.args.reader.now) in
    (length c.args.reader.now, omega arith, behind-nothing all ∙ ap (λ vs. parse_map (behind vs) all) (sym c.new-found.ensures.items), omega arith)

pub read_items-returns-in_err-item-clause-err : goal.read_items-returns-in_err-item-clause-err
read_items-returns-in_err-item-clause-err t c refused =
    let l = c.items in
    let going : (after_end_array l.reader ≡ None) × (c.take_end_array.new.self ≡ l.reader) = grind arith in
    l.invariant.2 ∙ ap (parse_map (behind l.found.items)) (items-no-data (value c.args.levels) l.invariant.0 l.reader going.0 (rw (← going.1) (c.read_value.ensures.err (grind arith))))

pub read_items-items-preserved : goal.read_items-items-preserved
read_items-items-preserved t c =
    let p = value c.args.levels in
    let l = c.items in
    let turns = l.invariant.0 in
    let going : (after_end_array l.reader ≡ None) × (c.take_end_array.new.self ≡ l.reader) = grind arith in
    let done = c.in_ok-item.ensures in
    let v = c.in_ok-item.item in
    let r = c.read_value.new.reader in
    let less : length r < length l.reader = rw (← going.1) done.shorter in
    let turn = items-turn p turns l.reader r (data_of v) (omega (arith, l.invariant.1)) going.0 (rw (← going.1) done.ok) in (
      turns - 1,
      omega (arith, l.invariant.1),
      l.invariant.2 ∙ (ap (parse_map (behind l.found.items)) turn ∙ (behind-one_more l.found.items v _
          ∙ ap (λ vs. parse_map (behind vs) (converted of_items (items p (turns - 1) r))) (sym (c.push_reserved.ensures.items ∙ ap (λ vs. vs ++ v ∷ []) c.reserve.ensures.items)))),
      omega (arith, l.invariant.3),
    )

pub read_items-returns-clause-ok : goal.read_items-returns-clause-ok
read_items-returns-clause-ok t c =
    let l = c.items in
    let r = c.take_end_array.new.self in
    l.invariant.2 ∙ (ap (parse_map (behind l.found.items)) (items-over (value c.args.levels) l.invariant.0 l.reader r l.invariant.1 (grind arith)) ∙ ap (λ ds. Some (ds, r)) (behind-none l.found.items))

pub read_members-members-init : goal.read_members-members-init
read_members-members-init t c =
    let all = members (value c.args.levels) (length c.args.reader.now) c.args.reader.now in
    let none = c.new-found.ensures in
    (length c.args.reader.now, omega arith, ap (λ old. converted (onto old) all) (sym none), omega arith, rw none tt)

pub read_members-returns-in_err-name-clause-err : goal.read_members-returns-in_err-name-clause-err
read_members-returns-in_err-name-clause-err t c refused =
    let l = c.members in
    l.invariant.2 ∙ members-no-key (value c.args.levels) (gathered_data l.found) l.invariant.0 l.reader c.in_err-name.ensures.value

pub read_members-returns-in_err-member-clause-err : goal.read_members-returns-in_err-member-clause-err
read_members-returns-in_err-member-clause-err t c refused =
    let l = c.members in
    let k = c.in-Some.name.now in
    let s = c.next_key.new.self in
    let named : read_key l.reader ≡ Some (Some k, s) = grind arith in
    l.invariant.2 ∙ members-no-data (value c.args.levels) (gathered_data l.found) l.invariant.0 k l.reader s named (c.read_value.ensures.err (grind arith))

pub read_members-members-preserved : goal.read_members-members-preserved
read_members-members-preserved t c =
    let p = value c.args.levels in
    let l = c.members in
    let turns = l.invariant.0 in
    let old = gathered_data l.found in
    let k = c.in-Some.name.now in
    let s = c.next_key.new.self in
    let named : read_key l.reader ≡ Some (Some k, s) = grind arith in
    let done = c.in_ok-member.ensures in
    let d = data_of c.in_ok-member.member in
    let r = c.read_value.new.reader in
    let less = read_key-shorter l.reader (Some k) s named in
    let lesser = done.shorter in
    let added = c.in_ok-put.ensures in (
      turns - 1,
      omega (arith, l.invariant.1),
      l.invariant.2 ∙ (members-turn p old turns k l.reader s r d (omega (arith, l.invariant.1)) named done.ok
          ∙ ap (λ found. converted (onto found) (members p (turns - 1) r)) (sym added)),
      omega (arith, l.invariant.3),
      rw added (put-ordered k d old l.invariant.4),
    )

pub read_members-returns-clause-ok : goal.read_members-returns-clause-ok
read_members-returns-clause-ok t c =
    let l = c.members in
    let r = c.next_key.new.self in
    l.invariant.2 ∙ (members-over (value c.args.levels) (gathered_data l.found) l.invariant.0 l.reader r l.invariant.1 (grind arith) ∙ ap (λ ms. Some (ms, r)) (sym c.in_ok-into_list.ensures))
