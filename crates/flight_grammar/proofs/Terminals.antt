-- The tests of one word.
use Rattle.std.proofs.Common.{◌≡◌, ℕ, ◌==◌, Bool, true, false, List, Some, refl, sym, ap, ◌∙◌, arith, codes}
use Rattle.std.specs.Prelude.{slice_get}
use Rattle.std.specs.Str.{bytes_eq}
use Rattle.std.proofs.lemmas.Bool.{eqb-true}
use Rattle.std.proofs.lemmas.Bool.Decides.{nat_tests}
use Rattle.std.proofs.lemmas.Slice.Eq.{bytes_eq-Decides}
use Rattle.flight_value.specs.declared.graph.Atom.TheVariants as atom
use Rattle.flight_syntax.specs.declared.word.Keyword.{Keyword}
use Rattle.flight_syntax.specs.declared.word.Keyword.TheVariants as keys
use Rattle.flight_syntax.specs.declared.word.Punctuator.{Punctuator}
use Rattle.flight_syntax.specs.declared.word.Punctuator.TheVariants as signs
use Rattle.flight_syntax.specs.declared.expr.Op.TheVariants as op
use Rattle.json.specs.Json as json
use Rattle.flight_syntax.specs.Lexicon.{Word, key, lower, upper, number, literal, mark, Placed, U, taken_where, key_number, sign_number, all_keywords, all_signs, is_key, is_mark, name_of, lower_of, upper_of, plain_of, is_plain, component_of, text_of, property_of, negative_of, date_of, symbol_of, operator_of, negative_json_of, minus}
use Rattle.flight_grammar.proofs.Parts.{Terminal}

same_self : (n : ℕ) → (n == n) ≡ true
same_self n = grind (arith, nat_tests)

pub the_key : (k : Keyword) → Terminal (is_key k)
the_key k = record { word = key k 0; some = tt; takes = ap (λ b. taken_where b tt) (same_self (key_number k)); at_deep = refl; at_beyond = λ m. refl }

pub the_mark : (m : Punctuator) → Terminal (is_mark m)
the_mark m = record { word = mark m; some = tt; takes = ap (λ b. taken_where b tt) (same_self (sign_number m)); at_deep = refl; at_beyond = λ m. refl }

-- ---- which word was taken

where_true : {A : Type 0} (b : Bool) (a c : A) → taken_where b a ≡ Some c → b ≡ true
where_true true a c e = refl
where_true false a c e = absurd cc

some_is : {A : Type 0} (a b : A) → Some a ≡ Some b → a ≡ b
some_is a b e = cc

keys_listed : (k : Keyword) → slice_get all_keywords (key_number k) ≡ Some k
keys_listed keys.Null = refl
keys_listed _ = refl

signs_listed : (m : Punctuator) → slice_get all_signs (sign_number m) ≡ Some m
signs_listed signs.OpenParen = refl
signs_listed _ = refl

pub same_key : (k l : Keyword) → (key_number l == key_number k) ≡ true → l ≡ k
same_key k l e = some_is l k (sym (keys_listed l) ∙ ap (λ n. slice_get all_keywords n) (eqb-true (key_number l) (key_number k) e) ∙ keys_listed k)

pub same_sign : (m n : Punctuator) → (sign_number n == sign_number m) ≡ true → n ≡ m
same_sign m n e = some_is n m (sym (signs_listed n) ∙ ap (λ n. slice_get all_signs n) (eqb-true (sign_number n) (sign_number m) e) ∙ signs_listed m)

pub key_is : (k : Keyword) (w : Word) (u : U) → is_key k w ≡ Some u → (at : ℕ) × (w ≡ key k at)
key_is k (key l at) u e = (at, ap (λ z. key z at) (same_key k l (where_true (key_number l == key_number k) tt u e)))
key_is k _ u e = absurd cc

pub mark_is : (m : Punctuator) (w : Word) (u : U) → is_mark m w ≡ Some u → w ≡ mark m
mark_is m (mark n) u e = ap (λ z. mark z) (same_sign m n (where_true (sign_number n == sign_number m) tt u e))
mark_is m _ u e = absurd cc

pub lower_is : (w : Word) (n : Placed) → lower_of w ≡ Some n → w ≡ lower n
lower_is (lower n) m e = ap (λ z. lower z) (some_is n m e)
lower_is _ m e = absurd cc

pub upper_is : (w : Word) (n : Placed) → upper_of w ≡ Some n → w ≡ upper n
upper_is (upper n) m e = ap (λ z. upper z) (some_is n m e)
upper_is _ m e = absurd cc

-- ---- the tests

abbrev x : Placed
x = record { bytes = codes "x"; at = 0 }

pub a_name : Terminal name_of
a_name = record { word = lower x; some = x; takes = refl; at_deep = refl; at_beyond = λ m. refl }

pub a_lower : Terminal lower_of
a_lower = record { word = lower x; some = x; takes = refl; at_deep = refl; at_beyond = λ m. refl }

pub a_plain : Terminal plain_of
a_plain = record { word = lower x; some = x; takes = refl; at_deep = refl; at_beyond = λ m. refl }

pub bytes_self : (a : List ℕ) → bytes_eq a a ≡ true
bytes_self a = grind (arith, bytes_eq-Decides)

pub this_name : (bytes : List ℕ) → Terminal (is_plain bytes)
this_name bytes = record { word = lower (record { bytes = bytes; at = 0 }); some = tt; takes = ap (λ b. taken_where b tt) (bytes_self bytes); at_deep = refl; at_beyond = λ m. refl }

abbrev app : Placed
app = record { bytes = codes "App"; at = 0 }

pub a_component : Terminal component_of
a_component = record { word = upper app; some = app; takes = refl; at_deep = refl; at_beyond = λ m. refl }

pub a_text : Terminal text_of
a_text = record { word = literal x; some = x; takes = refl; at_deep = refl; at_beyond = λ m. refl }

pub a_property : Terminal property_of
a_property = record { word = lower x; some = x; takes = refl; at_deep = refl; at_beyond = λ m. refl }

pub a_negative : Terminal negative_of
a_negative = record { word = number (codes "0"); some = minus 0; takes = refl; at_deep = refl; at_beyond = λ m. refl }

abbrev day : Placed
day = record { bytes = codes "2000-01-01T00:00:00.000Z"; at = 0 }

pub a_date : Terminal date_of
a_date = record { word = literal day; some = atom.Date day.bytes; takes = refl; at_deep = refl; at_beyond = λ m. refl }

pub a_symbol : Terminal symbol_of
a_symbol = record { word = literal x; some = atom.Symbol (codes "x"); takes = refl; at_deep = refl; at_beyond = λ m. refl }

pub an_operator : Terminal operator_of
an_operator = record { word = mark signs.Plus; some = op.Plus; takes = refl; at_deep = refl; at_beyond = λ m. refl }

pub a_negative_json : Terminal negative_json_of
a_negative_json = record { word = number (codes "1"); some = json.number (codes "-1"); takes = refl; at_deep = refl; at_beyond = λ m. refl }
