-- The reader of JSON is exact, level by level.
use Rattle.std.proofs.Common.{◌≡◌, ℕ, zero, suc, Bool, true, false, if◌then◌else◌, inl, inr, List, [], ◌∷◌, Option, Some, None, refl, sym, ap, subst, codes}
use Rattle.std.specs.Str.{bytes_eq}
use Rattle.json.specs.Json as json
use Rattle.json.specs.Json.{Json}
use Rattle.flight_syntax.specs.declared.word.Keyword.TheVariants.{Null}
use Rattle.flight_syntax.specs.declared.word.Punctuator.TheVariants.{OpenBracket, CloseBracket, OpenBrace, CloseBrace, Colon, Minus}
use Rattle.flight_syntax.specs.Lexicon.{Word, Placed, key, number, mark, Phrase, one, is_mark, is_deep, json_of, negative_json_of}
use Rattle.flight_syntax.specs.Tree.{json_items_of, json_members_of}
use Rattle.flight_syntax.specs.Grammar.{SpellsJson}
use Rattle.flight_grammar.specs.Reading.{Reader, at, by_word, list_until}
use Rattle.flight_grammar.specs.Reader.{json_key, scalar_arm, json_arm, no_json, json_value}
use Rattle.flight_grammar.proofs.Exact.{Exact, never, meek_none, exact_for}
use Rattle.flight_grammar.proofs.Parts.{Just, exact_done, Image, exact_made, ByWord, IsArm, Limit, Arms, exact_word, exact_want}
use Rattle.flight_grammar.proofs.Choices.{after_word, word_and}
use Rattle.flight_grammar.proofs.Terminals.{the_mark, a_text, a_negative_json}
use Rattle.flight_grammar.proofs.Lists.{Refuses, comma, UntilList, list_up_to}
use Rattle.flight_grammar.proofs.After.{at_mark}
use Rattle.flight_grammar.proofs.Listed.{J, Member, json_items_of_spell, json_items_of_back, members_spell, members_back}
use Rattle.flight_grammar.proofs.Productions.{refuses_mark}
use Rattle.flight_grammar.proofs.Deep.{OnlyDeep, exact_deep}
use Rattle.flight_grammar.proofs.Atoms.{lead_mark, lead_word}

-- the mark that closes an array
abbrev at_close : Word → Bool
at_close = at (is_mark CloseBracket)

abbrev Values : ℕ → List Json → Phrase
Values d = UntilList (is_mark CloseBracket) (J d)

abbrev Members : ℕ → List (Placed × Json) → Phrase
Members d = UntilList (is_mark CloseBrace) (Member d)

abbrev ScalarBehind : Option Json → Json → Phrase
ScalarBehind (Some j) value y = Just j value y
ScalarBehind None value y = ⊥

abbrev JsonBehind : ℕ → Word → Json → Phrase
JsonBehind d (mark Minus) j y = one negative_json_of j y
JsonBehind d (mark OpenBracket) j y = Image (λ js. json.array (json_items_of js)) (Values d) j y
JsonBehind d (mark OpenBrace) j y = Image (λ ms. json.object (json_members_of ms)) (Members d) j y
JsonBehind d word j y = ScalarBehind (json_of word) j y

-- ---- there

some_is : {A : Type 0} (a b : A) → Some a ≡ Some b → a ≡ b
some_is a b e = cc

negative_number : (w : Word) (j : Json) → negative_json_of w ≡ Some j → (digits : List ℕ) × (json.number digits ≡ j)
negative_number (number digits) j e = by (bytes_eq digits (codes "0")) e
  where
    by : (b : Bool) → (if b then None else Some (json.number (45 ∷ digits))) ≡ Some j → (digits : List ℕ) × (json.number digits ≡ j)
    by true e = absurd cc
    by false e = (45 ∷ digits, some_is (json.number (45 ∷ digits)) j e)
negative_number _ j e = absurd cc

no_array : (w : Word) (l : json.Items) → json_of w ≡ Some (json.array l) → ⊥
no_array (key Null at) l e = absurd cc
no_array _ l e = absurd cc

no_object : (w : Word) (l : json.Members) → json_of w ≡ Some (json.object l) → ⊥
no_object (key Null at) l e = absurd cc
no_object _ l e = absurd cc

scalar_spells : (d : ℕ) (w : Word) (j : Json) → json_of w ≡ Some j → SpellsJson j (suc d) (w ∷ [])
scalar_spells d w json.null e = (w, e, refl)
scalar_spells d w (json.boolean b) e = (w, e, refl)
scalar_spells d w (json.number n) e = inl (w, e, refl)
scalar_spells d w (json.string s) e = (w, e, refl)
scalar_spells d w (json.array l) e = absurd (no_array w l e)
scalar_spells d w (json.object l) e = absurd (no_object w l e)

json_scalar : (d : ℕ) (w : Word) (j : Json) (y : List Word) → ScalarBehind (json_of w) j y → SpellsJson j (suc d) (w ∷ y)
json_scalar d w j y m = by (json_of w) refl m
  where
    by : (o : Option Json) → json_of w ≡ o → ScalarBehind o j y → SpellsJson j (suc d) (w ∷ y)
    by (Some k) e m = subst (λ z. SpellsJson j (suc d) (w ∷ z)) (sym m.1) (subst (λ z. SpellsJson z (suc d) (w ∷ [])) (sym m.0) (scalar_spells d w k e))
    by None e m = absurd m

json_there : (d : ℕ) (j : Json) (x : List Word) → ByWord (JsonBehind d) j x → SpellsJson j (suc d) x
json_there d j x m = subst (SpellsJson j (suc d)) (sym m.2) (by m.0 m.1 m.3)
  where
    by : (w : Word) (y : List Word) → JsonBehind d w j y → SpellsJson j (suc d) (w ∷ y)
    by (mark Minus) y m =
        let n = negative_number m.0 j m.1 in
        subst (λ z. SpellsJson z (suc d) (mark Minus ∷ y)) n.1 (inr (lead_word (is_mark Minus) (mark Minus) (one negative_json_of (json.number n.0)) y refl (subst (λ z. one negative_json_of z y) (sym n.1) m)))
    by (mark OpenBracket) y m =
        let q = m.2 in subst (λ z. SpellsJson z (suc d) (mark OpenBracket ∷ y)) m.1 (lead_word (is_mark OpenBracket) (mark OpenBracket) _ y refl (q.0, q.1, q.2, json_items_of_spell d m.0 q.0 q.3, q.4))
    by (mark OpenBrace) y m =
        let q = m.2 in subst (λ z. SpellsJson z (suc d) (mark OpenBrace ∷ y)) m.1 (lead_word (is_mark OpenBrace) (mark OpenBrace) _ y refl (q.0, q.1, q.2, members_spell d m.0 q.0 q.3, q.4))
    by w y m = json_scalar d w j y m

-- ---- and back

by_scalar : (o : Option Json) (j : Json) → o ≡ Some j → ScalarBehind o j []
by_scalar (Some k) j e = (some_is j k (sym e), refl)
by_scalar None j e = absurd cc

scalar_back : (d : ℕ) (w : Word) (j : Json) → json_of w ≡ Some j → JsonBehind d w j []
scalar_back d (mark Minus) j e = absurd cc
scalar_back d (mark OpenBracket) j e = absurd cc
scalar_back d (mark OpenBrace) j e = absurd cc
scalar_back d w j e = by_scalar (json_of w) j e

json_back : (d : ℕ) (j : Json) (x : List Word) → SpellsJson j (suc d) x → ByWord (JsonBehind d) j x
json_back d json.null x m = (m.0, [], m.2, scalar_back d m.0 json.null m.1)
json_back d (json.boolean b) x m = (m.0, [], m.2, scalar_back d m.0 (json.boolean b) m.1)
json_back d (json.number n) x (inl m) = (m.0, [], m.2, scalar_back d m.0 (json.number n) m.1)
json_back d (json.number n) x (inr m) = let l = lead_mark Minus (one negative_json_of (json.number n)) x m in (mark Minus, l.0, l.1, l.2)
json_back d (json.string s) x m = (m.0, [], m.2, scalar_back d m.0 (json.string s) m.1)
json_back d (json.array l) x m =
    let q = lead_mark OpenBracket _ x m in let r = q.2 in let b = json_items_of_back d l r.0 r.3 in (mark OpenBracket, q.0, q.1, (b.0, ap json.array b.1, (r.0, r.1, r.2, b.2, r.4)))
json_back d (json.object l) x m =
    let q = lead_mark OpenBrace _ x m in let r = q.2 in let b = members_back d l r.0 r.3 in (mark OpenBrace, q.0, q.1, (b.0, ap json.object b.1, (r.0, r.1, r.2, b.2, r.4)))

-- ---- exact

scalar_each : (o : Option Json) → IsArm (ScalarBehind o) never ⊥ (scalar_arm o)
scalar_each (Some j) = exact_done j
scalar_each None = λ a x m. m

no_limit : (L : Type 0) (o : Option Json) → IsArm (ScalarBehind o) never ⊥ (scalar_arm o) → IsArm (ScalarBehind o) never L (scalar_arm o)
no_limit L (Some j) h = h
no_limit L None h = h

pub values_part : (d : ℕ) (v : Reader Json) → Exact (J d) never v → Refuses at_close v → Exact (Values d) never (list_until (is_mark CloseBracket) v)
values_part d v h r = list_up_to h (the_mark CloseBracket) (λ a w k. refl) (λ a w k. refl) (at_mark CloseBracket comma refl) r

pub key_part : (d : ℕ) (v : Reader Json) → Exact (J d) never v → Exact (Member d) (λ c. never c.1) (json_key v)
key_part d v h = word_and a_text (λ n. after_word (the_mark Colon) h)

members_part : (d : ℕ) (v : Reader Json) → Exact (J d) never v → Exact (Members d) never (list_until (is_mark CloseBrace) (json_key v))
members_part d v h = list_up_to (key_part d v h) (the_mark CloseBrace) (λ a w k. refl) (λ a w k. refl) (at_mark CloseBrace comma refl) (refuses_mark CloseBrace (json_key v) tt (λ ws. tt))

json_each : (d : ℕ) (v : Reader Json) → Exact (J d) never v → Refuses at_close v → (w : Word) → IsArm (JsonBehind d w) never (Limit (JsonBehind d) w) (json_arm v w)
json_each d v h r (mark Minus) = exact_want negative_json_of a_negative_json
json_each d v h r (mark OpenBracket) = exact_made (λ js. json.array (json_items_of js)) (Values d) never (list_until (is_mark CloseBracket) v) (values_part d v h r) (λ a. meek_none)
json_each d v h r (mark OpenBrace) = exact_made (λ ms. json.object (json_members_of ms)) (Members d) never (list_until (is_mark CloseBrace) (json_key v)) (members_part d v h) (λ a. meek_none)
json_each d v h r w = no_limit (Limit (JsonBehind d) w) (json_of w) (scalar_each (json_of w))

json_arms : (d : ℕ) (v : Reader Json) → Exact (J d) never v → Refuses at_close v → Arms (JsonBehind d) never (json_arm v)
json_arms d v h r = record {
  each = json_each d v h r;
  at_deep = refl;
  at_beyond = λ m k. refl;
  some = record { tree = json.null; text = key Null 0 ∷ []; spelled = (key Null 0, [], refl, (refl, refl)) };
  meek = λ a. meek_none;
}

exact_value : (d : ℕ) (v : Reader Json) → Exact (J d) never v → Refuses at_close v → Exact (J (suc d)) never (by_word (json_arm v))
exact_value d v h r = exact_for (ByWord (JsonBehind d)) (J (suc d)) never (by_word (json_arm v)) (json_there d) (json_back d) (exact_word (JsonBehind d) never (json_arm v) (json_arms d v h r))

only_deep : (j : Json) (x : List Word) → SpellsJson j zero x → (j ≡ json.null) × one is_deep tt x
only_deep json.null x m = (refl, m)
only_deep _ x m = absurd m

exact_no_json : Exact (J zero) never no_json
exact_no_json = exact_for (OnlyDeep json.null) (J zero) never no_json (λ a x m. subst (λ z. SpellsJson z zero x) (sym m.0) m.1) only_deep (exact_deep json.null)

refuses_close : (d : ℕ) → Refuses at_close (json_value d)
unfolding json_value
refuses_close zero = refuses_mark CloseBracket no_json tt (λ ws. tt)
refuses_close (suc d) = refuses_mark CloseBracket (by_word (json_arm (json_value d))) tt (λ ws. tt)

pub values : (d : ℕ) → Exact (J d) never (json_value d)
unfolding json_value
values zero = exact_no_json
values (suc d) = exact_value d (json_value d) (values d) (refuses_close d)
