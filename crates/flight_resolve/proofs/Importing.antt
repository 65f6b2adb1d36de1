-- JSON as data, part by part.
use Rattle.std.proofs.Common.{◌≡◌, ℕ, suc, ℤ, pos, negsuc, ◌^◌, ◌<◌, Bool, true, false, List, [], ◌∷◌, ◌++◌, ◌+◌, length, map, take, drop, get_or, w64, Option, Some, None, option_map, Ordering, Less, Equal, Greater, refl, sym, ap, ◌∙◌, arith}
use Rattle.std.specs.Prelude.{◌||◌, option_and_then}
use Rattle.std.specs.Ordering.{match_ordering, nat_cmp}
use Rattle.std.specs.Cmp.Lexicographic.{slice_cmp}
use Rattle.std.specs.Fmt.{signed_decimal}
use Rattle.json.specs.Json as json
use Rattle.serde_json.specs.Data as json_data
use Rattle.serde_json.specs.Data.{Data, Num}
use Rattle.serde_json.specs.Read.{number_of, of_json, of_items, of_members}
use Rattle.serde_json.specs.Written.{has_float, items_have_float, members_have_float}
use Rattle.serde_json.specs.View.{view, items_of, items_view}
use Rattle.serde_json.specs.declared.value.Value.{Value}
use Rattle.std.specs.Int.RustNames.{FitsSigned}
use Rattle.flight_parse.specs.declared.json_value.Json.{Json}
use Rattle.flight_parse.specs.declared.json_value.Member.{Member}
use Rattle.flight_parse.specs.Values.{json_of, member_of}
use Rattle.flight_resolve.specs.Kept.{IsValueOf}
use Rattle.flight_resolve.proofs.Firsts.{more, taken, map_last}
use Rattle.serde_json.specs.Find.{of_integer}
use Rattle.serde_json.proofs.Numbers.{number_of-decimal, number_of-negative}
use Rattle.flight_syntax.specs.Lexicon.{Placed}
use Rattle.flight_syntax.specs.Tree.{json_items_of, json_members_of}

-- ---- numbers

pub whole_number : (z : ℤ) → (n : ℕ) → z ≡ pos n → n < 2 ^ 64 → number_of (signed_decimal z) ≡ Some (of_integer z)
whole_number z n e h = ap (λ x. number_of (signed_decimal x)) e ∙ (number_of-decimal n h ∙ ap (λ x. Some (of_integer x)) (sym e))

pub below_zero : (z : ℤ) → (n : ℕ) → z ≡ negsuc n → n < 2 ^ 63 → number_of (signed_decimal z) ≡ Some (of_integer z)
below_zero z n e h = ap (λ x. number_of (signed_decimal x)) e ∙ (number_of-negative n h ∙ ap (λ x. Some (of_integer x)) (sym e))

pub number_read : (z : ℤ) → number_of (signed_decimal z) ≡ Some (of_integer z) → of_json (json.number (signed_decimal z)) ≡ Some (json_data.number (of_integer z))
number_read z e = ap (option_map json_data.number) e

pub no_float : (z : ℤ) → has_float (json_data.number (of_integer z)) ≡ false
no_float (pos n) = refl
no_float (negsuc n) = refl

-- ---- items

pub one_item : (js : List json.Json) (j : json.Json) (ds : List Data) (d : Data) → of_items (json_items_of js) ≡ Some (items_of ds) → of_json j ≡ Some d → of_items (json_items_of (js ++ j ∷ [])) ≡ Some (items_of (ds ++ d ∷ []))
one_item [] j [] d e f = rw f refl
one_item [] j (x ∷ ds) d e f = absurd cc
one_item (k ∷ js) j ds d e f = by (of_json k) (of_items (json_items_of js)) refl refl (λ rest h. one_item js j rest d h f) ds e
  where
    by : (o : Option Data) (p : Option json_data.Items) → of_json k ≡ o → of_items (json_items_of js) ≡ p
        → ((rest : List Data) → of_items (json_items_of js) ≡ Some (items_of rest) → of_items (json_items_of (js ++ j ∷ [])) ≡ Some (items_of (rest ++ d ∷ [])))
        → (ds : List Data) → option_and_then (λ d. option_map (json_data.item d) p) o ≡ Some (items_of ds)
        → option_and_then (λ d. option_map (json_data.item d) (of_items (json_items_of (js ++ j ∷ [])))) (of_json k) ≡ Some (items_of (ds ++ d ∷ []))
    by None p g h again ds e = absurd cc
    by (Some x) None g h again ds e = absurd cc
    by (Some x) (Some xs) g h again [] e = absurd cc
    by (Some x) (Some xs) g h again (y ∷ ds) e =
        let same : xs ≡ items_of ds = cc in
        let first : x ≡ y = cc in
        rw (g, again ds (h ∙ ap (λ z. Some z) same)) (ap (λ z. Some (json_data.item z (items_of (ds ++ d ∷ [])))) first)

or_false : (a b : Bool) → a ≡ false → b ≡ false → (a || b) ≡ false
or_false true b e f = absurd cc
or_false false b e f = f

or_parts : (a b : Bool) → (a || b) ≡ false → (a ≡ false) × (b ≡ false)
or_parts true b e = absurd cc
or_parts false b e = (refl, e)

pub one_whole : (ds : List Data) (d : Data) → items_have_float (items_of ds) ≡ false → has_float d ≡ false → items_have_float (items_of (ds ++ d ∷ [])) ≡ false
one_whole [] d e f = or_false (has_float d) false f refl
one_whole (x ∷ ds) d e f =
    let p = or_parts (has_float x) (items_have_float (items_of ds)) e in or_false (has_float x) (items_have_float (items_of (ds ++ d ∷ []))) p.0 (one_whole ds d p.1 f)

-- ---- members

pub one_member : (p : Placed × json.Json) (ps : List (Placed × json.Json)) (found : json_data.Members) (d : Data) (total : Option json_data.Members) → of_members (json_members_of (p ∷ ps)) found ≡ total → of_json p.1 ≡ Some d
    → of_members (json_members_of ps) (json_data.put p.0.bytes d found) ≡ total
one_member p ps found d total e f = ap (option_and_then (λ d. of_members (json_members_of ps) (json_data.put p.0.bytes d found))) (sym f) ∙ e

pub put_whole : (k : List ℕ) (d : Data) (ms : json_data.Members) → has_float d ≡ false → members_have_float ms ≡ false → members_have_float (json_data.put k d ms) ≡ false
put_whole k d json_data.no_members f e = or_false (has_float d) false f refl
put_whole k d (json_data.member l x ms) f e = by (slice_cmp nat_cmp k l) (put_whole k d ms f p.1)
  where
    p : (has_float x ≡ false) × (members_have_float ms ≡ false)
    p = or_parts (has_float x) (members_have_float ms) e

    by : (o : Ordering) → members_have_float (json_data.put k d ms) ≡ false → members_have_float (match_ordering o (json_data.member k d (json_data.member l x ms)) (json_data.member l d ms) (json_data.member l x (json_data.put k d ms))) ≡ false
    by Less again = or_false (has_float d) (members_have_float (json_data.member l x ms)) f e
    by Equal again = or_false (has_float d) (members_have_float ms) f p.1
    by Greater again = or_false (has_float x) (members_have_float (json_data.put k d ms)) p.0 again

-- ---- over a list

pub values_read : (items : List Json) (i : ℕ) (x : Json) → i < length items → x ≡ get_or items i x → (old new : List Value) (v : Value) → of_items (json_items_of (map json_of (take i items))) ≡ Some (items_view old)
    → of_json (json_of x) ≡ Some (view v) → new ≡ old ++ v ∷ [] → of_items (json_items_of (map json_of (take (i + 1) items))) ≡ Some (items_view new)
values_read items i x l is old new v inv f push =
    ap (λ z. of_items (json_items_of z)) (ap (map json_of) (taken items i x l is) ∙ map_last json_of (take i items) x)
    ∙ (one_item (map json_of (take i items)) (json_of x) (map view old) (view v) inv f ∙ ap (λ z. Some (items_of z)) (sym (ap (map view) push ∙ map_last view old v)))

pub values_whole : (old new : List Value) (v : Value) → items_have_float (items_view old) ≡ false → has_float (view v) ≡ false → new ≡ old ++ v ∷ [] → items_have_float (items_view new) ≡ false
values_whole old new v inv f push = ap (λ z. items_have_float (items_of z)) (ap (map view) push ∙ map_last view old v) ∙ one_whole (map view old) (view v) inv f

pub members_read : (members : List Member) (i : ℕ) (x : Member) → i < length members → x ≡ get_or members i x → (found new : json_data.Members) (d : Data) (total : Option json_data.Members)
    → of_members (json_members_of (map member_of (drop i members))) found ≡ total → of_json (member_of x).1 ≡ Some d → new ≡ json_data.put (member_of x).0.bytes d found
    → of_members (json_members_of (map member_of (drop (i + 1) members))) new ≡ total
members_read members i x l is found new d total inv f e =
    ap (of_members (json_members_of (map member_of (drop (i + 1) members)))) e
    ∙ one_member (member_of x) (map member_of (drop (i + 1) members)) found d total (ap (λ z. of_members (json_members_of (map member_of z)) found) (sym (more members i x l is)) ∙ inv) f

pub members_whole : (k : List ℕ) (d : Data) (found new : json_data.Members) → has_float d ≡ false → members_have_float found ≡ false → new ≡ json_data.put k d found → members_have_float new ≡ false
members_whole k d found new f inv e = ap members_have_float e ∙ put_whole k d found f inv

pub whole_value : (v : Value) (z : ℤ) → FitsSigned w64 z → view v ≡ json_data.number (of_integer z) → IsValueOf v (json.number (signed_decimal z))
whole_value v (pos n) fits e = record { is_read = number_read (pos n) (whole_number (pos n) n refl (omega (arith, fits.sfits))) ∙ ap (λ z. Some z) (sym e); whole = ap has_float e ∙ no_float (pos n) }
whole_value v (negsuc n) fits e = record { is_read = number_read (negsuc n) (below_zero (negsuc n) n refl (omega (arith, fits.sfits))) ∙ ap (λ z. Some z) (sym e); whole = ap has_float e ∙ no_float (negsuc n) }
