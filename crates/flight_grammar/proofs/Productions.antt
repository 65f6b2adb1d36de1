-- The parts of a level, from those of the level below.
use Rattle.std.proofs.Common.{◌≡◌, ℕ, zero, suc, ◌||◌, Bool, true, false, cond, ◌⊎◌, inl, inr, List, [], ◌∷◌, Option, Some, None, refl, sym, subst, ◌∙◌}
use Rattle.flight_syntax.specs.declared.word.Keyword.TheVariants.{In, Then, Else, Give, With}
use Rattle.flight_syntax.specs.declared.word.Punctuator.{Punctuator}
use Rattle.flight_syntax.specs.declared.word.Punctuator.TheVariants.{CloseParen, OpenBracket, CloseBracket, OpenBrace, CloseBrace, Comma, Colon, Dot, Assign, Minus, Less, Greater, LessSlash, SlashGreater}
use Rattle.flight_syntax.specs.declared.expr.Op.{Op}
use Rattle.flight_syntax.specs.Lexicon.{Word, key, mark, beyond, Placed, U, Phrase, one, is_key, is_mark, name_of, lower_of, plain_of, is_plain, text_of, operator_of}
use Rattle.flight_syntax.specs.Tree.{Tree, element, too_deep, IsElement}
use Rattle.flight_syntax.specs.Grammar.{Spells, Beyond}
use Rattle.flight_grammar.specs.Reading.{Reader, is_some, at, want, done, both, made, behind, closed, choice}
use Rattle.flight_grammar.specs.Reader.{let_rest, if_rest, for_rest, items, property, properties, entry, entries, with_rest, action_rest, operand, paren_rest, bare, given, more_parts, attribute_of, attribute, attributes, starts_given, starts_element, starts_child, child, children, closing, inside_of, inside, element_rest, starts_post}
use Rattle.flight_grammar.proofs.Exact.{HasHead, IsMeek, Exact, none, never, or, meek_none}
use Rattle.flight_grammar.proofs.Parts.{Just, exact_done, Seq, Image, exact_made, meek_at, exact_want}
use Rattle.flight_grammar.proofs.Choices.{IsEager, eager_behind, eager_both, eager_made, eager_want, Or, exact_one_of, exact_optional, head_closed, joins, one_head, behind_head, Lead, Trail, after_word, word_and, part_and, up_to, lead_joins}
use Rattle.flight_grammar.proofs.Many.{Many, goes_on, exact_many, goes_apart}
use Rattle.flight_grammar.proofs.Terminals.{mark_is, the_key, the_mark, a_name, a_lower, a_plain, this_name, a_text, a_property, an_operator}
use Rattle.flight_grammar.proofs.Lists.{IsErr, Refuses, comma, UntilList, list_up_to}
use Rattle.flight_grammar.proofs.After.{after, at_mark, after_apart, meek_after, key_after, mark_after}
use Rattle.flight_grammar.proofs.Listed.{E, Property, Entry, Part}

-- a child element of so many levels
abbrev pub C : ℕ → Tree → Phrase
C d tree words = (IsElement tree × Spells tree d words) ⊎ ((tree ≡ too_deep) × Beyond Less words)

-- the readers of a level
pub record Below (d : ℕ) (e c : Reader Tree) : Type 0 where
  pub whole : Exact (E d) after e
  pub nested : Exact (C d) never c
  pub refuses : Refuses (at (is_mark CloseBracket)) e
  pub eager : IsEager starts_element c

pub refuses_mark : {A : Type 0} (m : Punctuator) (p : Reader A) → IsErr (p []) → ((ws : List Word) → IsErr (p (mark m ∷ ws))) → Refuses (at (is_mark m)) p
refuses_mark {A} m p h k = record { at_end = h; at_word = by }
  where
    some_of : (o : Option U) → is_some o ≡ true → o ≡ Some tt
    some_of (Some u) e = refl
    some_of None e = absurd cc

    by : (w : Word) (ws : List Word) → at (is_mark m) w ≡ true → IsErr (p (w ∷ ws))
    by w ws e = subst (λ z. IsErr (p (z ∷ ws))) (sym (mark_is m w tt (some_of (is_mark m w) e))) (k ws)

-- ---- let, if, for

abbrev pub LetRest : ℕ → Placed × (Tree × Tree) → Phrase
LetRest d = Seq (one lower_of) (λ n. Lead (is_mark Assign) (Seq (E d) (λ v. Lead (is_key In) (E d))))

pub let_part : (d : ℕ) (e : Reader Tree) → Exact (E d) after e → Exact (LetRest d) (λ c. after c.1.1) (let_rest e)
let_part d e h = word_and a_lower (λ n. after_word (the_mark Assign) (part_and h (λ v. after_word (the_key In) h) (lead_joins after (is_key In) (λ v. E d) after (key_after In (λ at. refl)) meek_after)))

abbrev pub IfRest : ℕ → Tree × (Tree × Tree) → Phrase
IfRest d = Seq (E d) (λ t. Lead (is_key Then) (Seq (E d) (λ y. Lead (is_key Else) (E d))))

pub if_part : (d : ℕ) (e : Reader Tree) → Exact (E d) after e → Exact (IfRest d) (λ c. after c.1.1) (if_rest e)
if_part d e h =
    part_and h (λ t. after_word (the_key Then) (part_and h (λ y. after_word (the_key Else) h) (lead_joins after (is_key Else) (λ y. E d) after (key_after Else (λ at. refl)) meek_after)))
    (lead_joins after (is_key Then) (λ t. Seq (E d) (λ y. Lead (is_key Else) (E d))) (λ c. after c.1) (key_after Then (λ at. refl)) (λ c. meek_after c.1))

abbrev pub ForRest : ℕ → Placed × (Tree × Tree) → Phrase
ForRest d = Seq (one lower_of) (λ n. Lead (is_key In) (Seq (E d) (λ o. Lead (is_key Give) (E d))))

pub for_part : (d : ℕ) (e : Reader Tree) → Exact (E d) after e → Exact (ForRest d) (λ c. after c.1.1) (for_rest e)
for_part d e h = word_and a_lower (λ n. after_word (the_key In) (part_and h (λ o. after_word (the_key Give) h) (lead_joins after (is_key Give) (λ o. E d) after (key_after Give (λ at. refl)) meek_after)))

-- ---- lists

abbrev pub Items : ℕ → List Tree → Phrase
Items d = UntilList (is_mark CloseBracket) (E d)

pub items_part : (d : ℕ) (e : Reader Tree) → Exact (E d) after e → Refuses (at (is_mark CloseBracket)) e → Exact (Items d) never (items e)
items_part d e h r = list_up_to h (the_mark CloseBracket) (mark_after Comma refl) (mark_after CloseBracket refl) (at_mark CloseBracket comma refl) r

pub property_part : (d : ℕ) (e : Reader Tree) → Exact (E d) after e → Exact (Property d) (λ c. after c.1) (property e)
property_part d e h = word_and a_property (λ n. after_word (the_mark Colon) h)

abbrev pub Props : ℕ → List (Placed × Tree) → Phrase
Props d = UntilList (is_mark CloseBrace) (Property d)

pub properties_part : (d : ℕ) (e : Reader Tree) → Exact (E d) after e → Exact (Props d) never (properties e)
properties_part d e h =
    list_up_to (property_part d e h) (the_mark CloseBrace) (λ c. mark_after Comma refl c.1) (λ c. mark_after CloseBrace refl c.1) (at_mark CloseBrace comma refl) (refuses_mark CloseBrace (property e) tt (λ ws. tt))

pub entry_part : (d : ℕ) (e : Reader Tree) → Exact (E d) after e → Exact (Entry d) never (entry e)
entry_part d e h =
    after_word (the_mark OpenBracket) (part_and h (λ k. after_word (the_mark Comma) (up_to h (the_mark CloseBracket) (mark_after CloseBracket refl)))
    (lead_joins after (is_mark Comma) (λ k. Trail (E d) (is_mark CloseBracket)) never (mark_after Comma refl) (λ b. meek_none)))

abbrev pub Pairs : ℕ → List (Tree × Tree) → Phrase
Pairs d = UntilList (is_mark CloseBracket) (Entry d)

pub entries_part : (d : ℕ) (e : Reader Tree) → Exact (E d) after e → Exact (Pairs d) never (entries e)
entries_part d e h = list_up_to (entry_part d e h) (the_mark CloseBracket) (λ c w k. refl) (λ c w k. refl) (at_mark CloseBracket comma refl) (refuses_mark CloseBracket (entry e) tt (λ ws. tt))

-- ---- action

abbrev pub on_with : Option (List Tree) → Word → Bool
on_with (Some bound) = none
on_with None = at (is_key With)

meek_with : (o : Option (List Tree)) → IsMeek (on_with o)
meek_with (Some bound) = meek_none
meek_with None = meek_at (is_key With) (the_key With)

abbrev WithItems : ℕ → List Tree → Phrase
WithItems d = Lead (is_key With) (Lead (is_mark OpenBracket) (Items d))

abbrev pub WithRest : ℕ → Option (List Tree) → Phrase
WithRest d = Or (Image Some (WithItems d)) (Just None)

pub with_part : (d : ℕ) (e : Reader Tree) → Exact (E d) after e → Refuses (at (is_mark CloseBracket)) e → Exact (WithRest d) on_with (with_rest e)
with_part d e h r =
    let bound = after_word (the_mark OpenBracket) (items_part d e h r) in
    exact_optional (at (is_key With)) None (exact_made Some (WithItems d) on_with (behind (is_key With) (behind (is_mark OpenBracket) (items e))) (after_word (the_key With) bound) meek_with)
    (λ a x m. behind_head (is_key With) tt (Lead (is_mark OpenBracket) (Items d) m.0) x m.2) (λ w. refl) (meek_at (is_key With) (the_key With))
    (eager_made (at (is_key With)) Some (behind (is_key With) (behind (is_mark OpenBracket) (items e))) (eager_behind (is_key With) (Lead (is_mark OpenBracket) (Items d)) never (behind (is_mark OpenBracket) (items e)) bound))

abbrev pub ActionRest : ℕ → Placed × Option (List Tree) → Phrase
ActionRest d = Seq (one lower_of) (λ n. WithRest d)

pub action_part : (d : ℕ) (e : Reader Tree) → Exact (E d) after e → Refuses (at (is_mark CloseBracket)) e → Exact (ActionRest d) (λ c. on_with c.1) (action_rest e)
action_part d e h r = word_and a_lower (λ n. with_part d e h r)

-- ---- parentheses

abbrev OpRest : ℕ → Op × Tree → Phrase
OpRest d = Seq (one operator_of) (λ o. Trail (E d) (is_mark CloseParen))

abbrev pub Operand : ℕ → Option (Op × Tree) → Phrase
Operand d = Or (Lead (is_mark CloseParen) (Just None)) (Image Some (OpRest d))

operator_apart : (w : Word) → at operator_of w ≡ true → at (is_mark CloseParen) w ≡ false
operator_apart (mark CloseParen) e = absurd cc
operator_apart _ e = refl

pub operand_part : (d : ℕ) (e : Reader Tree) → Exact (E d) after e → Exact (Operand d) never (operand e)
operand_part d e h =
    exact_one_of (at (is_mark CloseParen)) (after_word (the_mark CloseParen) (exact_done None))
    (exact_made Some (OpRest d) never (both (want operator_of) (λ o. closed e (is_mark CloseParen))) (word_and an_operator (λ o. up_to h (the_mark CloseParen) (mark_after CloseParen refl))) (λ a. meek_none))
    (λ a x m. behind_head (is_mark CloseParen) tt (Just None a) x m)
    (λ a x rest m. head_closed (at operator_of) (at (is_mark CloseParen)) x rest operator_apart (behind_head operator_of m.0.0 (Trail (E d) (is_mark CloseParen) m.0.1) x m.2))
    (meek_at (is_mark CloseParen) (the_mark CloseParen)) (eager_behind (is_mark CloseParen) (Just None) never (done None) (exact_done None))

abbrev ends_left : Word → Bool
ends_left = or (at (is_mark CloseParen)) (at operator_of)

no_post : (w : Word) → ends_left w ≡ true → starts_post w ≡ false
no_post (mark Dot) k = absurd cc
no_post (mark OpenBracket) k = absurd cc
no_post (beyond Dot) k = absurd cc
no_post (beyond OpenBracket) k = absurd cc
no_post _ k = refl

no_with : (w : Word) → ends_left w ≡ true → at (is_key With) w ≡ false
no_with (key With at) k = absurd cc
no_with _ k = refl

-- a head that one of two tests takes
pub head_or_left : (f g : Word → Bool) (x : List Word) → HasHead f x → HasHead (or f g) x
head_or_left f g [] h = h
head_or_left f g (w ∷ ws) h = rw h refl

pub head_or_right : (f g : Word → Bool) (x : List Word) → HasHead g x → HasHead (or f g) x
head_or_right f g [] h = h
head_or_right f g (w ∷ ws) h = by (f w)
  where
    by : (b : Bool) → cond b true (g w) ≡ true
    by true = refl
    by false = h

abbrev pub ParenRest : ℕ → Tree × Option (Op × Tree) → Phrase
ParenRest d = Seq (E d) (λ l. Operand d)

pub paren_part : (d : ℕ) (e : Reader Tree) → Exact (E d) after e → Exact (ParenRest d) never (paren_rest e)
paren_part d e h = part_and h (λ l. operand_part d e h) (joins after (λ l. Operand d) never ends_left head (after_apart ends_left no_post no_with) (λ b. meek_none))
  where
    head : (a : Tree) (b : Option (Op × Tree)) (y : List Word) → Operand d b y → HasHead ends_left y
    head a b y (inl m) = head_or_left (at (is_mark CloseParen)) (at operator_of) y (behind_head (is_mark CloseParen) tt (Just None b) y m)
    head a b y (inr m) = head_or_right (at (is_mark CloseParen)) (at operator_of) y (behind_head operator_of m.0.0 (Trail (E d) (is_mark CloseParen) m.0.1) y m.2)

-- ---- what is given, and attributes

abbrev Braces : ℕ → Tree → Phrase
Braces d = Lead (is_mark OpenBrace) (Trail (E d) (is_mark CloseBrace))

abbrev pub Given : ℕ → Tree → Phrase
Given d = Or (Image bare (one text_of)) (Braces d)

pub braces_part : (d : ℕ) (e : Reader Tree) → Exact (E d) after e → Exact (Braces d) never (behind (is_mark OpenBrace) (closed e (is_mark CloseBrace)))
braces_part d e h = after_word (the_mark OpenBrace) (up_to h (the_mark CloseBrace) (mark_after CloseBrace refl))

pub given_part : (d : ℕ) (e : Reader Tree) → Exact (E d) after e → Exact (Given d) never (given e)
given_part d e h =
    exact_one_of (at text_of) (exact_made bare (one text_of) never (want text_of) (exact_want text_of a_text) (λ a. meek_none)) (braces_part d e h)
    (λ a x m. one_head text_of m.0 x m.2)
    (λ a x rest m. head_closed (at (is_mark OpenBrace)) (at text_of) x rest (at_mark OpenBrace (at text_of) refl) (behind_head (is_mark OpenBrace) tt (Trail (E d) (is_mark CloseBrace) a) x m))
    (meek_at text_of a_text) (eager_made (at text_of) bare (want text_of) (eager_want text_of))

pub parts_part : Exact (Many Part) (goes_on (at (is_mark Minus)) never) more_parts
parts_part =
    let each = after_word (the_mark Minus) (exact_want name_of a_name) in
    exact_many Part (at (is_mark Minus)) never (behind (is_mark Minus) (want name_of))
    (record {
      first = λ a x m. behind_head (is_mark Minus) tt (one name_of a) x m;
      apart = λ a w k. refl;
      meek = meek_at (is_mark Minus) (the_mark Minus);
      eager = eager_behind (is_mark Minus) (one name_of) never (want name_of) (exact_want name_of a_name);
    }) each

abbrev pub AttrRest : ℕ → Placed → List Placed × Tree → Phrase
AttrRest d n = Seq (Many Part) (λ ps. Lead (is_mark Assign) (Given d))

abbrev pub Attr : ℕ → Placed × Tree → Phrase
Attr d = Image attribute_of (Seq (one name_of) (AttrRest d))

pub attr_rest_part : (d : ℕ) (e : Reader Tree) → Exact (E d) after e → (n : Placed) → Exact (AttrRest d n) never (both more_parts (λ ps. behind (is_mark Assign) (given e)))
attr_rest_part d e h n =
    part_and parts_part (λ ps. after_word (the_mark Assign) (given_part d e h))
    (lead_joins (goes_on (at (is_mark Minus)) never) (is_mark Assign) (λ ps. Given d) never (goes_apart (at (is_mark Assign)) (at (is_mark Minus)) never (λ a w k. refl) (at_mark Assign (at (is_mark Minus)) refl)) (λ b. meek_none))

pub attribute_part : (d : ℕ) (e : Reader Tree) → Exact (E d) after e → Exact (Attr d) never (attribute e)
attribute_part d e h =
    exact_made attribute_of (Seq (one name_of) (AttrRest d)) never (both (want name_of) (λ n. both more_parts (λ ps. behind (is_mark Assign) (given e)))) (word_and a_name (attr_rest_part d e h)) (λ a. meek_none)

pub attributes_part : (d : ℕ) (e : Reader Tree) → Exact (E d) after e → Exact (Many (Attr d)) (goes_on (at name_of) never) (attributes e)
attributes_part d e h =
    exact_many (Attr d) (at name_of) never (attribute e)
    (record {
      first = λ a x m. behind_head name_of m.0.0 (AttrRest d m.0.0 m.0.1) x m.2;
      apart = λ a w k. refl;
      meek = meek_at name_of a_name;
      eager = eager_made (at name_of) attribute_of (both (want name_of) (λ n. both more_parts (λ ps. behind (is_mark Assign) (given e)))) (eager_both name_of (AttrRest d) (λ n. never) (λ n. both more_parts (λ ps. behind (is_mark Assign) (given e))) (attr_rest_part d e h));
    }) (attribute_part d e h)

-- ---- children

eager_choice : {A : Type 0} (test starts others : Word → Bool) (p q : Reader A) → IsEager starts p → IsEager others q → ((w : Word) → test w ≡ true → starts w ≡ false → others w ≡ true) → IsEager test (choice starts p q)
eager_choice test starts others p q hp hq h [] k e = absurd cc
eager_choice {A} test starts others p q hp hq h (w ∷ ws) k e = by (starts w) refl
  where
    by : (b : Bool) → starts w ≡ b → ⊥
    by true s = hp (w ∷ ws) s (sym (left s) ∙ e)
      where
        left : starts w ≡ true → choice starts p q (w ∷ ws) ≡ p (w ∷ ws)
        left s = rw s refl
    by false s = hq (w ∷ ws) (h w k s) (sym (right s) ∙ e)
      where
        right : starts w ≡ false → choice starts p q (w ∷ ws) ≡ q (w ∷ ws)
        right s = rw s refl

given_or : (w : Word) → starts_given w ≡ true → at text_of w ≡ false → at (is_mark OpenBrace) w ≡ true
given_or w k e = sym (by (at text_of w) e) ∙ k
  where
    by : (b : Bool) → b ≡ false → (b || at (is_mark OpenBrace) w) ≡ at (is_mark OpenBrace) w
    by false e = refl
    by true e = absurd cc

eager_given : (d : ℕ) (e : Reader Tree) → Exact (E d) after e → IsEager starts_given (given e)
eager_given d e h =
    eager_choice starts_given (at text_of) (at (is_mark OpenBrace)) (made bare (want text_of)) (behind (is_mark OpenBrace) (closed e (is_mark CloseBrace))) (eager_made (at text_of) bare (want text_of) (eager_want text_of))
    (eager_behind (is_mark OpenBrace) (Trail (E d) (is_mark CloseBrace)) never (closed e (is_mark CloseBrace)) (up_to h (the_mark CloseBrace) (mark_after CloseBrace refl))) given_or

abbrev pub Child : ℕ → Tree → Phrase
Child d = Or (Given d) (C d)

or_true : (b : Bool) → (b || true) ≡ true
or_true true = refl
or_true false = refl

head_where : (test other : Word → Bool) → ((w : Word) → test w ≡ true → other w ≡ true) → (x : List Word) → HasHead test x → HasHead other x
head_where test other h [] k = absurd cc
head_where test other h (w ∷ ws) k = h w k

given_head : (d : ℕ) (tree : Tree) (x : List Word) → Given d tree x → HasHead starts_given x
given_head d tree x (inl m) = head_where (at text_of) starts_given (λ w k. rw k refl) x (one_head text_of m.0 x m.2)
given_head d tree x (inr m) = head_where (at (is_mark OpenBrace)) starts_given (λ w k. rw k (or_true (at text_of w))) x (behind_head (is_mark OpenBrace) tt (Trail (E d) (is_mark CloseBrace) tree) x m)

less_starts : (w : Word) → at (is_mark Less) w ≡ true → starts_element w ≡ true
less_starts (beyond Less) k = absurd cc
less_starts w k = k

pub nested_head : (d : ℕ) (tree : Tree) (x : List Word) → C d tree x → HasHead starts_element x
nested_head d tree x (inr m) = subst (HasHead starts_element) (sym m.1) refl
nested_head zero (element tag attrs children) x (inl m) = absurd m.1
nested_head (suc d) (element tag attrs children) x (inl m) = head_where (at (is_mark Less)) starts_element less_starts x (behind_head (is_mark Less) tt _ x m.1)
nested_head d _ x (inl m) = absurd m.0

element_apart : (w : Word) → starts_element w ≡ true → starts_given w ≡ false
element_apart (mark Less) k = refl
element_apart (beyond Less) k = refl
element_apart _ k = absurd cc

meek_given : IsMeek starts_given
meek_given = record { at_deep = refl; at_beyond = λ m e. refl }

meek_child : IsMeek starts_child
meek_child = record { at_deep = refl; at_beyond = beyonds }
  where
    beyonds : (m : Punctuator) → starts_child (mark m) ≡ false → starts_child (beyond m) ≡ false
    beyonds Less e = absurd cc
    beyonds _ e = refl

pub child_part : (d : ℕ) (e c : Reader Tree) → Below d e c → Exact (Child d) never (child e c)
child_part d e c b = exact_one_of starts_given (given_part d e b.whole) b.nested (given_head d) (λ a x rest m. head_closed starts_element starts_given x rest element_apart (nested_head d a x m)) meek_given (eager_given d e b.whole)

given_starts : (w : Word) → starts_given w ≡ true → starts_child w ≡ true
given_starts w k = rw k refl

element_starts : (w : Word) → starts_element w ≡ true → starts_child w ≡ true
element_starts w k = rw k (or_true (starts_given w))

not_given : (w : Word) → starts_child w ≡ true → starts_given w ≡ false → starts_element w ≡ true
not_given w k e = sym (by (starts_given w) e) ∙ k
  where
    by : (b : Bool) → b ≡ false → (b || starts_element w) ≡ starts_element w
    by false e = refl
    by true e = absurd cc

pub children_part : (d : ℕ) (e c : Reader Tree) → Below d e c → Exact (Many (Child d)) (goes_on starts_child never) (children e c)
children_part d e c b =
    exact_many (Child d) starts_child never (child e c) (record { first = first; apart = λ a w k. refl; meek = meek_child; eager = eager_choice starts_child starts_given starts_element (given e) c (eager_given d e b.whole) b.eager not_given })
    (child_part d e c b)
  where
    first : (a : Tree) (x : List Word) → Child d a x → HasHead starts_child x
    first a x (inl m) = head_where starts_given starts_child given_starts x (given_head d a x m)
    first a x (inr m) = head_where starts_element starts_child element_starts x (nested_head d a x m)

-- ---- elements

abbrev pub Closing : Placed → U → Phrase
Closing tag = Lead (is_mark LessSlash) (Lead (is_plain tag.bytes) (one (is_mark Greater)))

pub closing_part : (tag : Placed) → Exact (Closing tag) never (closing tag)
closing_part tag = after_word (the_mark LessSlash) (after_word (this_name tag.bytes) (exact_want (is_mark Greater) (the_mark Greater)))

abbrev InsideRest : ℕ → Placed → List Tree × U → Phrase
InsideRest d tag = Seq (Many (Child d)) (λ cs. Closing tag)

abbrev pub Inside : ℕ → Placed → List Tree → Phrase
Inside d tag = Or (Lead (is_mark SlashGreater) (Just [])) (Lead (is_mark Greater) (Image inside_of (InsideRest d tag)))

pub inside_rest_part : (d : ℕ) (e c : Reader Tree) → Below d e c → (tag : Placed) → Exact (InsideRest d tag) never (both (children e c) (λ cs. closing tag))
inside_rest_part d e c b tag =
    part_and (children_part d e c b) (λ cs. closing_part tag)
    (lead_joins (goes_on starts_child never) (is_mark LessSlash) (λ (cs : List Tree). Lead (is_plain tag.bytes) (one (is_mark Greater))) never
    (goes_apart (at (is_mark LessSlash)) starts_child never (λ a w k. refl) (at_mark LessSlash starts_child refl)) (λ u. meek_none))

pub inside_part : (d : ℕ) (e c : Reader Tree) → Below d e c → (tag : Placed) → Exact (Inside d tag) never (inside e c tag)
inside_part d e c b tag =
    exact_one_of (at (is_mark SlashGreater)) (after_word (the_mark SlashGreater) (exact_done []))
    (after_word (the_mark Greater) (exact_made inside_of (InsideRest d tag) never (both (children e c) (λ cs. closing tag)) (inside_rest_part d e c b tag) (λ a. meek_none)))
    (λ a x m. behind_head (is_mark SlashGreater) tt (Just [] a) x m)
    (λ a x rest m. head_closed (at (is_mark Greater)) (at (is_mark SlashGreater)) x rest (at_mark Greater (at (is_mark SlashGreater)) refl) (behind_head (is_mark Greater) tt (Image inside_of (InsideRest d tag) a) x m))
    (meek_at (is_mark SlashGreater) (the_mark SlashGreater)) (eager_behind (is_mark SlashGreater) (Just []) never (done []) (exact_done []))

abbrev pub ElementRest : ℕ → Placed × (List (Placed × Tree) × List Tree) → Phrase
ElementRest d = Seq (one plain_of) (λ tag. Seq (Many (Attr d)) (λ attrs. Inside d tag))

abbrev starts_inside : Word → Bool
starts_inside = or (at (is_mark SlashGreater)) (at (is_mark Greater))

inside_head : (d : ℕ) (tag : Placed) (attrs : List (Placed × Tree)) (cs : List Tree) (y : List Word) → Inside d tag cs y → HasHead starts_inside y
inside_head d tag attrs cs y (inl m) = head_or_left (at (is_mark SlashGreater)) (at (is_mark Greater)) y (behind_head (is_mark SlashGreater) tt (Just [] cs) y m)
inside_head d tag attrs cs y (inr m) = head_or_right (at (is_mark SlashGreater)) (at (is_mark Greater)) y (behind_head (is_mark Greater) tt (Image inside_of (InsideRest d tag) cs) y m)

no_name : (w : Word) → starts_inside w ≡ true → at name_of w ≡ false
no_name (mark m) k = refl
no_name (beyond m) k = refl
no_name _ k = absurd cc

pub element_part : (d : ℕ) (e c : Reader Tree) → Below d e c → Exact (ElementRest d) never (element_rest e c)
element_part d e c b =
    word_and a_plain (λ tag. part_and (attributes_part d e b.whole) (λ attrs. inside_part d e c b tag)
    (joins (goes_on (at name_of) never) (λ attrs. Inside d tag) never starts_inside (inside_head d tag) (goes_apart starts_inside (at name_of) never (λ a w k. refl) no_name) (λ cs. meek_none)))
