-- Readers of more levels read the same, unless one of fewer passes its limit.
use Rattle.std.proofs.Common.{◌≡◌, ℕ, zero, suc, ◌≤◌, false, inr, List, [], ◌∷◌, Some, None, refl, arith}
use Rattle.json.specs.Json as json
use Rattle.json.specs.Json.{Json}
use Rattle.flight_syntax.specs.declared.word.Keyword.TheVariants.{Let, In, If, Then, Else, For, Give, Throw, Map, Set, Action, Server, Client, With}
use Rattle.flight_syntax.specs.declared.word.Punctuator.TheVariants.{OpenParen, CloseParen, OpenBracket, CloseBracket, OpenBrace, CloseBrace, Comma, Colon, Semicolon, Dot, Assign, Minus, Less, Greater, SlashGreater}
use Rattle.flight_syntax.specs.Lexicon.{Word, key, mark, deep, beyond, Phrase, is_key, is_mark, is_deep, name_of, lower_of, plain_of, component_of, text_of, property_of, operator_of, AreReal}
use Rattle.flight_syntax.specs.Tree.{Tree, let_in, if_else, for_in, throw, array, object, map, set, trees_of, props_of, pairs_of, server, client_is, action_is, json_items_of, json_members_of}
use Rattle.flight_syntax.specs.Grammar.{most_postfixes, DeclaresTo}
use Rattle.flight_grammar.specs.Reading.{Reader, Arm, stop, limit, go, at, next_is, want, done, made, behind, closed, choice, by_word}
use Rattle.flight_grammar.specs.Reader.{let_rest, if_rest, for_rest, items, property, properties, entry, entries, action_rest, paren_rest, bare, given, more_parts, attribute_of, attribute, attributes, starts_given, starts_child, child, children, closing, inside_of, element_of, element_rest, action_of, paren_of, named_and, indexed_and, starts_post, last_post_arm, post_arm, posts, chain_of, chain_arm, atom_arm, level_arm, element_arm, no_element_arm, no_expression, level, expression, child_element, json_key, json_arm, no_json, json_value, parameters, body_to, declaration_arm_to, declaration_to, starts_declaration}
use Rattle.flight_grammar.proofs.Exact.{Exact, never}
use Rattle.flight_grammar.proofs.Parts.{IsArm}
use Rattle.flight_grammar.proofs.Choices.{Trail, up_to}
use Rattle.flight_grammar.proofs.Many.{Many, goes_on}
use Rattle.flight_grammar.proofs.Terminals.{the_mark}
use Rattle.flight_grammar.proofs.After.{after, mark_after}
use Rattle.flight_grammar.proofs.Listed.{E, J, Property, Entry, Part, Member}
use Rattle.flight_grammar.proofs.Productions.{Below, property_part, entry_part, parts_part, Attr, attribute_part, attributes_part, Child, child_part, children_part}
use Rattle.flight_grammar.proofs.Atoms.{after_atom, AtomBehind, atom_each}
use Rattle.flight_grammar.proofs.Levels.{levels}
use Rattle.flight_grammar.proofs.Values.{values, key_part}
use Rattle.flight_grammar.proofs.Programs.{Params, params_part, exact_declaration, all_of}
use Rattle.flight_grammar.proofs.Agree.{IsTooDeep, Agree, Keeps, keeps, keeps_want, agree_self, agree_both, agree_made, agree_behind, agree_closed, agree_choice, AgreeArm, same_arm, agree_word, agree_many, agree_list}

-- two levels, the first of which is exact
record Two (d : ℕ) (e c f g : Reader Tree) : Type 0 where
  pub below : Below d e c
  pub whole : Agree e f
  pub nested : Agree c g

keep : (d : ℕ) (e c f g : Reader Tree) → Two d e c f g → Keeps e
keep d e c f g t = keeps (E d) after e t.below.whole

agree_items : (d : ℕ) (e c f g : Reader Tree) → Two d e c f g → Agree (items e) (items f)
agree_items d e c f g t = agree_list (is_mark CloseBracket) t.whole (keep d e c f g t)

agree_properties : (d : ℕ) (e c f g : Reader Tree) → Two d e c f g → Agree (properties e) (properties f)
agree_properties d e c f g t =
    agree_list (is_mark CloseBrace) (agree_both (agree_self (want property_of)) (keeps_want property_of) (λ n. agree_behind (is_mark Colon) t.whole)) (keeps (Property d) (λ c. after c.1) (property e) (property_part d e t.below.whole))

agree_entries : (d : ℕ) (e c f g : Reader Tree) → Two d e c f g → Agree (entries e) (entries f)
agree_entries d e c f g t =
    agree_list (is_mark CloseBracket) (agree_behind (is_mark OpenBracket) (agree_both t.whole (keep d e c f g t) (λ k. agree_behind (is_mark Comma) (agree_closed (is_mark CloseBracket) t.whole)))) (keeps (Entry d) never (entry e) (entry_part d e t.below.whole))

agree_let : (d : ℕ) (e c f g : Reader Tree) → Two d e c f g → Agree (let_rest e) (let_rest f)
agree_let d e c f g t = agree_both (agree_self (want lower_of)) (keeps_want lower_of) (λ n. agree_behind (is_mark Assign) (agree_both t.whole (keep d e c f g t) (λ v. agree_behind (is_key In) t.whole)))

agree_if : (d : ℕ) (e c f g : Reader Tree) → Two d e c f g → Agree (if_rest e) (if_rest f)
agree_if d e c f g t = agree_both t.whole (keep d e c f g t) (λ y. agree_behind (is_key Then) (agree_both t.whole (keep d e c f g t) (λ o. agree_behind (is_key Else) t.whole)))

agree_for : (d : ℕ) (e c f g : Reader Tree) → Two d e c f g → Agree (for_rest e) (for_rest f)
agree_for d e c f g t = agree_both (agree_self (want lower_of)) (keeps_want lower_of) (λ n. agree_behind (is_key In) (agree_both t.whole (keep d e c f g t) (λ v. agree_behind (is_key Give) t.whole)))

agree_action : (d : ℕ) (e c f g : Reader Tree) → Two d e c f g → Agree (action_rest e) (action_rest f)
agree_action d e c f g t =
    agree_both (agree_self (want lower_of)) (keeps_want lower_of)
    (λ n. agree_choice (at (is_key With)) (agree_made Some (agree_behind (is_key With) (agree_behind (is_mark OpenBracket) (agree_items d e c f g t)))) (agree_self (done None)))

agree_paren : (d : ℕ) (e c f g : Reader Tree) → Two d e c f g → Agree (paren_rest e) (paren_rest f)
agree_paren d e c f g t =
    agree_both t.whole (keep d e c f g t)
    (λ l. agree_choice (at (is_mark CloseParen)) (agree_self (behind (is_mark CloseParen) (done None))) (agree_made Some (agree_both (agree_self (want operator_of)) (keeps_want operator_of) (λ o. agree_closed (is_mark CloseParen) t.whole))))

agree_given : (d : ℕ) (e c f g : Reader Tree) → Two d e c f g → Agree (given e) (given f)
agree_given d e c f g t = agree_choice (at text_of) (agree_self (made bare (want text_of))) (agree_behind (is_mark OpenBrace) (agree_closed (is_mark CloseBrace) t.whole))

agree_attributes : (d : ℕ) (e c f g : Reader Tree) → Two d e c f g → Agree (attributes e) (attributes f)
agree_attributes d e c f g t =
    agree_many (at name_of) (agree_made attribute_of (agree_both (agree_self (want name_of)) (keeps_want name_of)
    (λ n. agree_both (agree_self more_parts) (keeps (Many Part) (goes_on (at (is_mark Minus)) never) more_parts parts_part) (λ ps. agree_behind (is_mark Assign) (agree_given d e c f g t)))))
    (keeps (Attr d) never (attribute e) (attribute_part d e t.below.whole))

agree_children : (d : ℕ) (e c f g : Reader Tree) → Two d e c f g → Agree (children e c) (children f g)
agree_children d e c f g t = agree_many starts_child (agree_choice starts_given (agree_given d e c f g t) t.nested) (keeps (Child d) never (child e c) (child_part d e c t.below))

agree_element : (d : ℕ) (e c f g : Reader Tree) → Two d e c f g → Agree (element_rest e c) (element_rest f g)
agree_element d e c f g t =
    agree_both (agree_self (want plain_of)) (keeps_want plain_of)
    (λ tag. agree_both (agree_attributes d e c f g t) (keeps (Many (Attr d)) (goes_on (at name_of) never) (attributes e) (attributes_part d e t.below.whole))
    (λ attrs. agree_choice (at (is_mark SlashGreater)) (agree_self (behind (is_mark SlashGreater) (done [])))
    (agree_behind (is_mark Greater) (agree_made inside_of (agree_both (agree_children d e c f g t) (keeps (Many (Child d)) (goes_on starts_child never) (children e c) (children_part d e c t.below)) (λ cs. agree_self (closing tag)))))))

agree_posts : (d : ℕ) (e c f g : Reader Tree) → Two d e c f g → (n : ℕ) → Agree (posts n e) (posts n f)
agree_posts d e c f g t zero = agree_self (choice starts_post (by_word last_post_arm) (done []))
agree_posts d e c f g t (suc n) = agree_choice starts_post (agree_word (post_arm e (posts n e)) (post_arm f (posts n f)) (by (agree_posts d e c f g t n))) (agree_self (done []))
  where
    by : Agree (posts n e) (posts n f) → (w : Word) → AreReal (w ∷ []) → AgreeArm (post_arm e (posts n e) w) (post_arm f (posts n f) w)
    by again (mark Dot) r = agree_made named_and (agree_both (agree_self (want name_of)) (keeps_want name_of) (λ m. again))
    by again (mark OpenBracket) r =
        agree_made indexed_and (agree_both (agree_closed (is_mark CloseBracket) t.whole) (keeps (Trail (E d) (is_mark CloseBracket)) never (closed e (is_mark CloseBracket)) (up_to t.below.whole (the_mark CloseBracket) (mark_after CloseBracket refl))) (λ m. again))
    by again (beyond Dot) r = absurd r.0
    by again (beyond OpenBracket) r = absurd r.0
    by again _ r = tt

agree_atom : (d : ℕ) (e c f g : Reader Tree) → Two d e c f g → (w : Word) → AgreeArm (atom_arm e c w) (atom_arm f g w)
agree_atom d e c f g t (mark OpenBracket) = agree_made (λ ts. array (trees_of ts)) (agree_items d e c f g t)
agree_atom d e c f g t (mark OpenBrace) = agree_made (λ ps. object (props_of ps)) (agree_properties d e c f g t)
agree_atom d e c f g t (key Map at) = agree_made (λ ps. map (pairs_of ps)) (agree_behind (is_mark OpenBracket) (agree_entries d e c f g t))
agree_atom d e c f g t (key Set at) = agree_made (λ ts. set (trees_of ts)) (agree_behind (is_mark OpenBracket) (agree_items d e c f g t))
agree_atom d e c f g t (key Action at) = agree_made action_of (agree_action d e c f g t)
agree_atom d e c f g t (mark OpenParen) = agree_made paren_of (agree_paren d e c f g t)
agree_atom d e c f g t (mark Less) = agree_made element_of (agree_element d e c f g t)
agree_atom d e c f g t w = same_arm (atom_arm e c w)

agree_chain : (d : ℕ) (e c f g : Reader Tree) → Two d e c f g → (Q : Tree → Phrase) (arm other : Arm Tree) → IsArm Q after_atom ⊥ arm → AgreeArm arm other → AgreeArm (chain_arm e arm) (chain_arm f other)
agree_chain d e c f g t Q stop stop i h = tt
agree_chain d e c f g t Q limit other i h = tt
agree_chain d e c f g t Q (go p) (go s) i h = agree_made chain_of (agree_both h (keeps Q after_atom p i) (λ a. agree_posts d e c f g t most_postfixes))
agree_chain d e c f g t Q stop limit i h = absurd h
agree_chain d e c f g t Q stop (go s) i h = absurd h
agree_chain d e c f g t Q (go p) stop i h = absurd h
agree_chain d e c f g t Q (go p) limit i h = absurd h

agree_level : (d : ℕ) (e c f g : Reader Tree) → Two d e c f g → (w : Word) → AgreeArm (level_arm e c w) (level_arm f g w)
agree_level d e c f g t (key Let at) = agree_made (λ p. let_in p.0 p.1.0 p.1.1) (agree_let d e c f g t)
agree_level d e c f g t (key If at) = agree_made (λ p. if_else p.0 p.1.0 p.1.1) (agree_if d e c f g t)
agree_level d e c f g t (key For at) = agree_made (λ p. for_in p.0 p.1.0 p.1.1) (agree_for d e c f g t)
agree_level d e c f g t (key Throw at) = agree_made throw t.whole
agree_level d e c f g t w = agree_chain d e c f g t (AtomBehind d w) (atom_arm e c w) (atom_arm f g w) (atom_each d e c t.below w) (agree_atom d e c f g t w)

agree_elements : (d : ℕ) (e c f g : Reader Tree) → Two d e c f g → (w : Word) → AgreeArm (element_arm e c w) (element_arm f g w)
agree_elements d e c f g t (mark Less) = agree_made element_of (agree_element d e c f g t)
agree_elements d e c f g t w = same_arm (element_arm e c w)

-- on real words nothing is read where no level is left
no_word : {A : Type 0} (r s : Reader A) → ((ts : List Word) → next_is (at is_deep) ts ≡ false → IsTooDeep (r ts)) → Agree r s
no_word r s h ts real = inr (h ts (shallow ts real))
  where
    shallow : (ts : List Word) → AreReal ts → next_is (at is_deep) ts ≡ false
    shallow [] real = refl
    shallow (deep ∷ ws) real = absurd real.0
    shallow (_ ∷ ws) real = refl

no_expression_deep : (ts : List Word) → next_is (at is_deep) ts ≡ false → IsTooDeep (no_expression ts)
no_expression_deep ts e = rw e refl

no_json_deep : (ts : List Word) → next_is (at is_deep) ts ≡ false → IsTooDeep (no_json ts)
no_json_deep ts e = rw e refl

no_elements : (e c : Reader Tree) (w : Word) → AreReal (w ∷ []) → AgreeArm (no_element_arm w) (element_arm e c w)
no_elements e c (mark Less) r = tt
no_elements e c (beyond Less) r = absurd r.0
no_elements e c _ r = tt

pub agree_levels : (d k : ℕ) → d ≤ k → Agree (expression d) (expression k) × Agree (child_element d) (child_element k)
unfolding level
agree_levels zero zero h = (agree_self no_expression, agree_self (by_word no_element_arm))
agree_levels zero (suc k) h = (no_word no_expression (by_word (level_arm (expression k) (child_element k))) no_expression_deep, agree_word no_element_arm (element_arm (expression k) (child_element k)) (no_elements (expression k) (child_element k)))
agree_levels (suc d) zero h = absurd (omega (arith, h))
agree_levels (suc d) (suc k) h =
    let again = agree_levels d k (omega (arith, h)) in
    let two : Two d (expression d) (child_element d) (expression k) (child_element k) = record { below = levels d; whole = again.0; nested = again.1 } in (
      agree_word (level_arm (expression d) (child_element d)) (level_arm (expression k) (child_element k)) (λ w r. agree_level d (expression d) (child_element d) (expression k) (child_element k) two w),
      agree_word (element_arm (expression d) (child_element d)) (element_arm (expression k) (child_element k)) (λ w r. agree_elements d (expression d) (child_element d) (expression k) (child_element k) two w),
    )

-- ---- JSON

agree_json : (d : ℕ) (v w : Reader Json) → Exact (J d) never v → Agree v w → (word : Word) → AgreeArm (json_arm v word) (json_arm w word)
agree_json d v w h a (mark OpenBracket) = agree_made (λ js. json.array (json_items_of js)) (agree_list (is_mark CloseBracket) a (keeps (J d) never v h))
agree_json d v w h a (mark OpenBrace) =
    agree_made (λ ms. json.object (json_members_of ms)) (agree_list (is_mark CloseBrace) (agree_both (agree_self (want text_of)) (keeps_want text_of) (λ n. agree_behind (is_mark Colon) a)) (keeps (Member d) (λ c. never c.1) (json_key v) (key_part d v h)))
agree_json d v w h a word = same_arm (json_arm v word)

pub agree_values : (d k : ℕ) → d ≤ k → Agree (json_value d) (json_value k)
unfolding json_value
agree_values zero zero h = agree_self no_json
agree_values zero (suc k) h = no_word no_json (by_word (json_arm (json_value k))) no_json_deep
agree_values (suc d) zero h = absurd (omega (arith, h))
agree_values (suc d) (suc k) h = agree_word (json_arm (json_value d)) (json_arm (json_value k)) (λ w r. agree_json d (json_value d) (json_value k) (values d) (agree_values d k (omega (arith, h))) w)

-- ---- programs

agree_body : (d k : ℕ) → d ≤ k → Agree (body_to d) (body_to k)
agree_body d k h = agree_behind (is_mark Assign) (agree_closed (is_mark Semicolon) (agree_levels d k h).0)

agree_declaration : (d k : ℕ) → d ≤ k → (w : Word) → AgreeArm (declaration_arm_to d w) (declaration_arm_to k w)
agree_declaration d k h (key Server at) =
    agree_made (λ p. server p.0 p.1.0 p.1.1) (agree_both (agree_self (want component_of)) (keeps_want component_of) (λ n. agree_both (agree_self parameters) (keeps Params never parameters params_part) (λ ps. agree_body d k h)))
agree_declaration d k h (key Client at) =
    agree_made (λ p. client_is p.0 p.1) (agree_both (agree_self (want component_of)) (keeps_want component_of) (λ n. agree_behind (is_mark Assign) (agree_closed (is_mark Semicolon) (agree_values d k h))))
agree_declaration d k h (key Action at) =
    agree_made (λ p. action_is p.0 p.1.0 p.1.1) (agree_both (agree_self (want lower_of)) (keeps_want lower_of) (λ n. agree_both (agree_self parameters) (keeps Params never parameters params_part) (λ ps. agree_body d k h)))
agree_declaration d k h _ = tt

pub agree_all : (d k : ℕ) → d ≤ k → Agree (all_of d) (all_of k)
agree_all d k h =
    agree_many starts_declaration (agree_word (declaration_arm_to d) (declaration_arm_to k) (λ w r. agree_declaration d k h w)) (keeps (DeclaresTo d) never (declaration_to d) (exact_declaration d))
