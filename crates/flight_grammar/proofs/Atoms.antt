-- Atoms: what each is spelled by, by its first word, and back.
use Rattle.std.proofs.Common.{◌≡◌, ℕ, suc, Bool, ◌⊎◌, inl, inr, List, [], ◌∷◌, ◌++◌, Option, Some, None, refl, sym, ap, subst, ◌∙◌}
use Rattle.std.proofs.lemmas.List.{append-nil}
use Rattle.flight_value.specs.declared.graph.Atom.{Atom}
use Rattle.flight_syntax.specs.declared.word.Keyword.{Keyword}
use Rattle.flight_syntax.specs.declared.word.Keyword.TheVariants.{Date, Symbol, Map, Set, Use, Promise, Stream, Action, With}
use Rattle.flight_syntax.specs.declared.word.Punctuator.{Punctuator}
use Rattle.flight_syntax.specs.declared.word.Punctuator.TheVariants.{OpenParen, CloseParen, OpenBracket, CloseBracket, OpenBrace, Minus, Less, Greater, LessSlash, SlashGreater, Assign}
use Rattle.flight_syntax.specs.declared.expr.Op.{Op}
use Rattle.flight_syntax.specs.Lexicon.{Word, key, lower, upper, mark, Placed, U, Phrase, ◌▸◌, one, is_key, is_mark, keyword, sign, name_of, lower_of, plain_of, is_plain, constant_of, negative_of, date_of, symbol_of, operator_of}
use Rattle.flight_syntax.specs.Tree.{Tree, Trees, TreeProps, let_in, if_else, for_in, throw, member, index, atom, variable, client, array, object, map, set, source, promise, stream, action, action_with, paren, binary, element, too_deep, too_many, no_trees, tree_and, no_props, prop_and, trees_of, props_of, pairs_of}
use Rattle.flight_syntax.specs.Grammar.{Spells, Constant, Listed, Attributes, AttributeName, Children}
use Rattle.flight_grammar.specs.Reading.{Reader, at, want, behind}
use Rattle.flight_grammar.specs.Reader.{items, entries, action_of, paren_of, element_of, action_rest, paren_rest, properties, element_rest, constant_arm, atom_arm}
use Rattle.flight_grammar.proofs.Exact.{IsMeek, none, never, meek_none}
use Rattle.flight_grammar.proofs.Parts.{Just, exact_done_on, exact_spelled, Image, exact_made, ByWord, IsArm, meek_at, exact_want}
use Rattle.flight_grammar.proofs.Choices.{Lead, after_word}
use Rattle.flight_grammar.proofs.Many.{Many}
use Rattle.flight_grammar.proofs.Terminals.{key_is, mark_is, lower_is, upper_is, the_key, the_mark, a_plain, a_negative, a_date, a_symbol}
use Rattle.flight_grammar.proofs.Listed.{regroup, ungroup, Part, parts_spell, parts_back, trees_of_spell, trees_of_back, props_of_spell, props_of_back, pairs_of_spell, pairs_of_back}
use Rattle.flight_grammar.proofs.Productions.{Below, Items, items_part, Props, properties_part, Pairs, entries_part, on_with, WithRest, ActionRest, action_part, Operand, ParenRest, paren_part, Given, Attr, Child, Inside, ElementRest, element_part}

-- ---- what is an atom

abbrev pub IsAtom : Tree → Type 0
IsAtom (let_in named value rest) = ⊥
IsAtom (if_else test yes_one other) = ⊥
IsAtom (for_in named over give) = ⊥
IsAtom (throw value) = ⊥
IsAtom (member of named) = ⊥
IsAtom (index of at) = ⊥
IsAtom too_deep = ⊥
IsAtom (too_many of) = ⊥
IsAtom _ = Unit {0}

-- what continues an atom, besides postfixes
abbrev pub after_atom : Tree → Word → Bool
after_atom (action named) = at (is_key With)
after_atom _ = none

-- ---- a first word

pub lead_mark : (m : Punctuator) (P : Phrase) (x : List Word) → (sign m ▸ P) x → (y : List Word) × (x ≡ mark m ∷ y) × P y
lead_mark m P x s = (s.1, s.2 ∙ ap (λ z. z ++ s.1) (s.3.2 ∙ ap (λ z. z ∷ []) (mark_is m s.3.0 tt s.3.1)), s.4)

pub lead_key : (k : Keyword) (P : Phrase) (x : List Word) → (keyword k ▸ P) x → (at : ℕ) × (y : List Word) × (x ≡ key k at ∷ y) × P y
lead_key k P x s = let i = key_is k s.3.0 tt s.3.1 in (i.0, s.1, s.2 ∙ ap (λ z. z ++ s.1) (s.3.2 ∙ ap (λ z. z ∷ []) i.1), s.4)

pub lead_word : (take : Word → Option U) (w : Word) (P : Phrase) (y : List Word) → take w ≡ Some tt → P y → (one take tt ▸ P) (w ∷ y)
lead_word take w P y e m = (w ∷ [], y, refl, (w, e, refl), m)

-- ---- elements

attr_spell : (d : ℕ) (a : Placed × Tree) (x : List Word) → Attr d a x → (AttributeName a.0 ▸ sign Assign ▸ Given d a.1) x
attr_spell d a x m =
    let p = m.0 in
    let g = ungroup (one name_of p.0) (Many Part p.1.0) (sign Assign ▸ Given d p.1.1) x m.2 in
    subst (λ (z : Placed × Tree). (AttributeName z.0 ▸ sign Assign ▸ Given d z.1) x) m.1
    (g.0, g.1, g.2, (p.0, p.1.0, refl, (g.3.0, g.3.1, g.3.2, g.3.3, parts_spell p.1.0 g.3.1 g.3.4)), g.4)

attr_back : (d : ℕ) (n : Placed) (t : Tree) (x : List Word) → (AttributeName n ▸ sign Assign ▸ Given d t) x → Attr d (n, t) x
attr_back d n t x m =
    let a = m.3 in
    let q = a.3 in (
      (a.0, (a.1, t)),
      ap (λ z. (z, t)) a.2,
      regroup (one name_of a.0) (Many Part a.1) (sign Assign ▸ Given d t) x (m.0, m.1, m.2, (q.0, q.1, q.2, q.3, parts_back a.1 q.1 q.4), m.4),
    )

attrs_spell : (d : ℕ) (found : List (Placed × Tree)) (x : List Word) → Many (Attr d) found x → Attributes (props_of found) d x
attrs_spell d [] x m = m
attrs_spell d (a ∷ rest) x m = (m.0, m.1, m.2, attr_spell d a m.0 m.3, attrs_spell d rest m.1 m.4)

attrs_back : (d : ℕ) (l : TreeProps) (x : List Word) → Attributes l d x → (found : List (Placed × Tree)) × (props_of found ≡ l) × Many (Attr d) found x
attrs_back d no_props x m = ([], refl, m)
attrs_back d (prop_and n t rest) x m = let b = attrs_back d rest m.1 m.4 in ((n, t) ∷ b.0, ap (λ z. prop_and n t z) b.1, (m.0, m.1, m.2, attr_back d n t m.0 m.3, b.2))

children_spell : (d : ℕ) (found : List Tree) (x : List Word) → Many (Child d) found x → Children (trees_of found) d x
children_spell d [] x m = m
children_spell d (a ∷ rest) x m = (m.0, m.1, m.2, m.3, children_spell d rest m.1 m.4)

children_back : (d : ℕ) (l : Trees) (x : List Word) → Children l d x → (found : List Tree) × (trees_of found ≡ l) × Many (Child d) found x
children_back d no_trees x m = ([], refl, m)
children_back d (tree_and t rest) x m = let b = children_back d rest m.1 m.4 in (t ∷ b.0, ap (λ z. tree_and t z) b.1, (m.0, m.1, m.2, m.3, b.2))

-- behind the attributes
abbrev Ends : ℕ → Placed → Trees → Phrase
Ends d tag children x = ((children ≡ no_trees) × sign SlashGreater x) ⊎ (sign Greater ▸ Children children d ▸ sign LessSlash ▸ one (is_plain tag.bytes) tt ▸ sign Greater) x

ends_spell : (d : ℕ) (tag : Placed) (cs : List Tree) (x : List Word) → Inside d tag cs x → Ends d tag (trees_of cs) x
ends_spell d tag cs x (inl m) = inl (ap trees_of m.4.0, subst (sign SlashGreater) (sym (m.2 ∙ ap (λ z. m.0 ++ z) m.4.1 ∙ append-nil m.0)) m.3)
ends_spell d tag cs x (inr m) = let q = m.4.2 in inr (m.0, m.1, m.2, m.3, (q.0, q.1, q.2, subst (λ z. Children (trees_of z) d q.0) m.4.1 (children_spell d m.4.0.0 q.0 q.3), q.4))

ends_back : (d : ℕ) (tag : Placed) (children : Trees) (x : List Word) → Ends d tag children x → (cs : List Tree) × (trees_of cs ≡ children) × Inside d tag cs x
ends_back d tag children x (inl m) = ([], sym m.0, inl (x, [], sym (append-nil x), m.1, (refl, refl)))
ends_back d tag children x (inr m) = let q = m.4 in let b = children_back d children q.0 q.3 in (b.0, b.1, inr (m.0, m.1, m.2, m.3, ((b.0, tt), refl, (q.0, q.1, q.2, b.2, q.4))))

pub element_spell : (d : ℕ) (c : Placed × (List (Placed × Tree) × List Tree)) (y : List Word) → ElementRest d c y → Spells (element_of c) (suc d) (mark Less ∷ y)
element_spell d c y m =
    let r = m.4 in
    lead_word (is_mark Less) (mark Less) _ y refl (m.0, m.1, m.2, m.3, (r.0, r.1, r.2, attrs_spell d c.1.0 r.0 r.3, ends_spell d c.0 c.1.1 r.1 r.4))

pub element_back : (d : ℕ) (tag : Placed) (attrs : TreeProps) (children : Trees) (x : List Word) → Spells (element tag attrs children) (suc d) x → (y : List Word) × (x ≡ mark Less ∷ y) × Image element_of (ElementRest d) (element tag attrs children) y
element_back d tag attrs children x m =
    let l = lead_mark Less _ x m in
    let n = l.2 in
    let r = n.4 in
    let a = attrs_back d attrs r.0 r.3 in
    let e = ends_back d tag children r.1 r.4 in (
      l.0,
      l.1,
      (
        (tag, (a.0, e.0)),
        ap (λ z. element tag z (trees_of e.0)) a.1 ∙ ap (λ z. element tag attrs z) e.1,
        (n.0, n.1, n.2, n.3, (r.0, r.1, r.2, a.2, e.2)),
      ),
    )

-- ---- by the first word

abbrev pub ConstantBehind : Option Atom → Tree → Phrase
ConstantBehind (Some a) tree y = Just (atom a) tree y
ConstantBehind None tree y = ⊥

abbrev pub AtomBehind : ℕ → Word → Tree → Phrase
AtomBehind d (mark Minus) tree y = Image atom (one negative_of) tree y
AtomBehind d (key Date at) tree y = Image atom (one date_of) tree y
AtomBehind d (key Symbol at) tree y = Image atom (one symbol_of) tree y
AtomBehind d (lower name) tree y = Just (variable name) tree y
AtomBehind d (upper name) tree y = Just (client name) tree y
AtomBehind d (mark OpenBracket) tree y = Image (λ ts. array (trees_of ts)) (Items d) tree y
AtomBehind d (mark OpenBrace) tree y = Image (λ ps. object (props_of ps)) (Props d) tree y
AtomBehind d (key Map at) tree y = Image (λ ps. map (pairs_of ps)) (Lead (is_mark OpenBracket) (Pairs d)) tree y
AtomBehind d (key Set at) tree y = Image (λ ts. set (trees_of ts)) (Lead (is_mark OpenBracket) (Items d)) tree y
AtomBehind d (key Use at) tree y = Image source (one plain_of) tree y
AtomBehind d (key Promise at) tree y = Image promise (one plain_of) tree y
AtomBehind d (key Stream at) tree y = Image stream (one plain_of) tree y
AtomBehind d (key Action at) tree y = Image action_of (ActionRest d) tree y
AtomBehind d (mark OpenParen) tree y = Image paren_of (ParenRest d) tree y
AtomBehind d (mark Less) tree y = Image element_of (ElementRest d) tree y
AtomBehind d word tree y = ConstantBehind (constant_of word) tree y

abbrev Found : ℕ → Word → Tree → List Word → Type 0
Found d w tree y = Spells tree (suc d) (w ∷ y) × IsAtom tree

-- what is spelled behind a word, with the word
found : {B : Type 0} (d : ℕ) (w : Word) (put : B → Tree) (Q : B → Phrase) → ((b : B) (y : List Word) → Q b y → Found d w (put b) y) → (tree : Tree) (y : List Word) → Image put Q tree y → Found d w tree y
found d w put Q h tree y m = subst (λ z. Found d w z y) m.1 (h m.0 y m.2)

-- ---- an action, and parentheses

items_spell : (d : ℕ) (ts : List Tree) (x : List Word) → Items d ts x → (Listed (trees_of ts) d ▸ sign CloseBracket) x
items_spell d ts x m = (m.0, m.1, m.2, trees_of_spell d ts m.0 m.3, m.4)

items_back : (d : ℕ) (l : Trees) (x : List Word) → (Listed l d ▸ sign CloseBracket) x → (ts : List Tree) × (trees_of ts ≡ l) × Items d ts x
items_back d l x m = let b = trees_of_back d l m.0 m.3 in (b.0, b.1, (m.0, m.1, m.2, b.2, m.4))

abbrev WithBound : ℕ → Trees → Phrase
WithBound d bound = keyword With ▸ sign OpenBracket ▸ Listed bound d ▸ sign CloseBracket

with_none : (d : ℕ) (x : List Word) → WithRest d None x → x ≡ []
with_none d x (inl m) = absurd (cc (m.1))
with_none d x (inr m) = m.1

some_is : {A : Type 0} (a b : A) → Some a ≡ Some b → a ≡ b
some_is a b e = cc

with_some : (d : ℕ) (ts : List Tree) (x : List Word) → WithRest d (Some ts) x → WithBound d (trees_of ts) x
with_some d ts x (inr m) = absurd (cc (m.0))
with_some d ts x (inl m) = subst (λ z. WithBound d (trees_of z) x) (some_is m.0 ts m.1) (let q = m.2 in let r = q.4 in (q.0, q.1, q.2, q.3, (r.0, r.1, r.2, r.3, items_spell d m.0 r.1 r.4)))

with_back : (d : ℕ) (bound : Trees) (x : List Word) → WithBound d bound x → (ts : List Tree) × (trees_of ts ≡ bound) × WithRest d (Some ts) x
with_back d bound x q = let r = q.4 in let b = items_back d bound r.1 r.4 in (b.0, b.1, inl (b.0, refl, (q.0, q.1, q.2, q.3, (r.0, r.1, r.2, r.3, b.2))))

-- a phrase and nothing
and_nothing : (P : Phrase) (x y z : List Word) → x ≡ y ++ z → z ≡ [] → P y → P x
and_nothing P x y z e n p = subst P (sym (e ∙ ap (λ w. y ++ w) n ∙ append-nil y)) p

found_action : (d at : ℕ) (c : Placed × Option (List Tree)) (y : List Word) → ActionRest d c y → Found d (key Action at) (action_of c) y
found_action d at (n, None) y m = (lead_word (is_key Action) (key Action at) (one lower_of n) y refl (and_nothing (one lower_of n) y m.0 m.1 m.2 (with_none d m.1 m.4) m.3), tt)
found_action d at (n, Some bound) y m = (lead_word (is_key Action) (key Action at) (one lower_of n ▸ WithBound d (trees_of bound)) y refl (m.0, m.1, m.2, m.3, with_some d bound m.1 m.4), tt)

operand_none : (d : ℕ) (x : List Word) → Operand d None x → sign CloseParen x
operand_none d x (inl m) = and_nothing (sign CloseParen) x m.0 m.1 m.2 m.4.1 m.3
operand_none d x (inr m) = absurd (cc (m.1))

operand_some : (d : ℕ) (p : Op × Tree) (x : List Word) → Operand d (Some p) x → (one operator_of p.0 ▸ Spells p.1 d ▸ sign CloseParen) x
operand_some d p x (inl m) = absurd (cc (m.4.0))
operand_some d p x (inr m) = subst (λ (z : Op × Tree). (one operator_of z.0 ▸ Spells z.1 d ▸ sign CloseParen) x) (some_is m.0 p m.1) m.2

found_paren : (d : ℕ) (c : Tree × Option (Op × Tree)) (y : List Word) → ParenRest d c y → Found d (mark OpenParen) (paren_of c) y
found_paren d (l, None) y m = (lead_word (is_mark OpenParen) (mark OpenParen) (Spells l d ▸ sign CloseParen) y refl (m.0, m.1, m.2, m.3, operand_none d m.1 m.4), tt)
found_paren d (l, Some p) y m = (lead_word (is_mark OpenParen) (mark OpenParen) (Spells l d ▸ one operator_of p.0 ▸ Spells p.1 d ▸ sign CloseParen) y refl (m.0, m.1, m.2, m.3, operand_some d p m.1 m.4), tt)

-- ---- what is spelled behind each word

found_constant : (d : ℕ) (w : Word) (tree : Tree) (y : List Word) → ConstantBehind (constant_of w) tree y → Found d w tree y
found_constant d w tree y m = by (constant_of w) refl m
  where
    by : (o : Option Atom) → constant_of w ≡ o → ConstantBehind o tree y → Found d w tree y
    by (Some a) e m = subst (λ z. Found d w z y) (sym m.0) (inl (w, e, ap (λ z. w ∷ z) m.1), tt)
    by None e m = absurd m

found_just : (d : ℕ) (w : Word) (a tree : Tree) (y : List Word) → Found d w a [] → Just a tree y → Found d w tree y
found_just d w a tree y f m = subst (λ z. Found d w tree z) (sym m.1) (subst (λ z. Found d w z []) (sym m.0) f)

pub atom_spells : (d : ℕ) (w : Word) (tree : Tree) (y : List Word) → AtomBehind d w tree y → Spells tree (suc d) (w ∷ y) × IsAtom tree
atom_spells d (mark Minus) tree y m = found d (mark Minus) atom (one negative_of) (λ b y m. (inr (inl (lead_word (is_mark Minus) (mark Minus) (one negative_of b) y refl m)), tt)) tree y m
atom_spells d (key Date at) tree y m = found d (key Date at) atom (one date_of) (λ b y m. (inr (inr (inl (lead_word (is_key Date) (key Date at) (one date_of b) y refl m))), tt)) tree y m
atom_spells d (key Symbol at) tree y m = found d (key Symbol at) atom (one symbol_of) (λ b y m. (inr (inr (inr (lead_word (is_key Symbol) (key Symbol at) (one symbol_of b) y refl m))), tt)) tree y m
atom_spells d (lower n) tree y m = found_just d (lower n) (variable n) tree y ((lower n, refl, refl), tt) m
atom_spells d (upper n) tree y m = found_just d (upper n) (client n) tree y ((upper n, refl, refl), tt) m
atom_spells d (mark OpenBracket) tree y m =
    found d (mark OpenBracket) (λ ts. array (trees_of ts)) (Items d) (λ b y m. (lead_word (is_mark OpenBracket) (mark OpenBracket) (Listed (trees_of b) d ▸ sign CloseBracket) y refl (items_spell d b y m), tt)) tree y m
atom_spells d (mark OpenBrace) tree y m =
    found d (mark OpenBrace) (λ ps. object (props_of ps)) (Props d) (λ b y m. (lead_word (is_mark OpenBrace) (mark OpenBrace) _ y refl (m.0, m.1, m.2, props_of_spell d b m.0 m.3, m.4), tt)) tree y m
atom_spells d (key Map at) tree y m =
    found d (key Map at) (λ ps. map (pairs_of ps)) (Lead (is_mark OpenBracket) (Pairs d))
    (λ b y m. let q = m.4 in (lead_word (is_key Map) (key Map at) _ y refl (m.0, m.1, m.2, m.3, (q.0, q.1, q.2, pairs_of_spell d b q.0 q.3, q.4)), tt)) tree y m
atom_spells d (key Set at) tree y m =
    found d (key Set at) (λ ts. set (trees_of ts)) (Lead (is_mark OpenBracket) (Items d)) (λ b y m. (lead_word (is_key Set) (key Set at) _ y refl (m.0, m.1, m.2, m.3, items_spell d b m.1 m.4), tt)) tree y m
atom_spells d (key Use at) tree y m = found d (key Use at) source (one plain_of) (λ b y m. (lead_word (is_key Use) (key Use at) (one plain_of b) y refl m, tt)) tree y m
atom_spells d (key Promise at) tree y m = found d (key Promise at) promise (one plain_of) (λ b y m. (lead_word (is_key Promise) (key Promise at) (one plain_of b) y refl m, tt)) tree y m
atom_spells d (key Stream at) tree y m = found d (key Stream at) stream (one plain_of) (λ b y m. (lead_word (is_key Stream) (key Stream at) (one plain_of b) y refl m, tt)) tree y m
atom_spells d (key Action at) tree y m = found d (key Action at) action_of (ActionRest d) (found_action d at) tree y m
atom_spells d (mark OpenParen) tree y m = found d (mark OpenParen) paren_of (ParenRest d) (found_paren d) tree y m
atom_spells d (mark Less) tree y m = found d (mark Less) element_of (ElementRest d) (λ b y m. (element_spell d b y m, tt)) tree y m
atom_spells d w tree y m = found_constant d w tree y m

-- ---- and back

by_constant : (o : Option Atom) (a : Atom) → o ≡ Some a → ConstantBehind o (atom a) []
by_constant (Some b) a e = (ap atom (some_is a b (sym e)), refl)
by_constant None a e = absurd cc

constant_back : (d : ℕ) (w : Word) (a : Atom) → constant_of w ≡ Some a → AtomBehind d w (atom a) []
constant_back d (mark Minus) a e = absurd cc
constant_back d (key Date at) a e = absurd cc
constant_back d (key Symbol at) a e = absurd cc
constant_back d (lower n) a e = absurd cc
constant_back d (upper n) a e = absurd cc
constant_back d (mark OpenBracket) a e = absurd cc
constant_back d (mark OpenBrace) a e = absurd cc
constant_back d (key Map at) a e = absurd cc
constant_back d (key Set at) a e = absurd cc
constant_back d (key Use at) a e = absurd cc
constant_back d (key Promise at) a e = absurd cc
constant_back d (key Stream at) a e = absurd cc
constant_back d (key Action at) a e = absurd cc
constant_back d (mark OpenParen) a e = absurd cc
constant_back d (mark Less) a e = absurd cc
constant_back d w a e = by_constant (constant_of w) a e

atom_constant : (d : ℕ) (a : Atom) (x : List Word) → Constant a x → ByWord (AtomBehind d) (atom a) x
atom_constant d a x (inl m) = (m.0, [], m.2, constant_back d m.0 a m.1)
atom_constant d a x (inr (inl m)) = let l = lead_mark Minus (one negative_of a) x m in (mark Minus, l.0, l.1, (a, refl, l.2))
atom_constant d a x (inr (inr (inl m))) = let l = lead_key Date (one date_of a) x m in (key Date l.0, l.1, l.2, (a, refl, l.3))
atom_constant d a x (inr (inr (inr m))) = let l = lead_key Symbol (one symbol_of a) x m in (key Symbol l.0, l.1, l.2, (a, refl, l.3))

pub atom_back : (d : ℕ) (tree : Tree) (x : List Word) → IsAtom tree → Spells tree (suc d) x → ByWord (AtomBehind d) tree x
atom_back d (atom a) x i m = atom_constant d a x m
atom_back d (variable n) x i m = (lower n, [], m.2 ∙ ap (λ z. z ∷ []) (lower_is m.0 n m.1), (refl, refl))
atom_back d (client n) x i m = (upper n, [], m.2 ∙ ap (λ z. z ∷ []) (upper_is m.0 n m.1), (refl, refl))
atom_back d (array l) x i m = let q = lead_mark OpenBracket _ x m in let b = items_back d l q.0 q.2 in (mark OpenBracket, q.0, q.1, (b.0, ap array b.1, b.2))
atom_back d (object l) x i m =
    let q = lead_mark OpenBrace _ x m in let r = q.2 in let b = props_of_back d l r.0 r.3 in (mark OpenBrace, q.0, q.1, (b.0, ap object b.1, (r.0, r.1, r.2, b.2, r.4)))
atom_back d (map l) x i m =
    let q = lead_key Map _ x m in let o = q.3 in let r = o.4 in let b = pairs_of_back d l r.0 r.3 in (key Map q.0, q.1, q.2, (b.0, ap map b.1, (o.0, o.1, o.2, o.3, (r.0, r.1, r.2, b.2, r.4))))
atom_back d (set l) x i m = let q = lead_key Set _ x m in let o = q.3 in let b = items_back d l o.1 o.4 in (key Set q.0, q.1, q.2, (b.0, ap set b.1, (o.0, o.1, o.2, o.3, b.2)))
atom_back d (source n) x i m = let q = lead_key Use (one plain_of n) x m in (key Use q.0, q.1, q.2, (n, refl, q.3))
atom_back d (promise n) x i m = let q = lead_key Promise (one plain_of n) x m in (key Promise q.0, q.1, q.2, (n, refl, q.3))
atom_back d (stream n) x i m = let q = lead_key Stream (one plain_of n) x m in (key Stream q.0, q.1, q.2, (n, refl, q.3))
atom_back d (action n) x i m = let q = lead_key Action (one lower_of n) x m in (key Action q.0, q.1, q.2, ((n, None), refl, (q.1, [], sym (append-nil q.1), q.3, inr (refl, refl))))
atom_back d (action_with n l) x i m =
    let q = lead_key Action (one lower_of n ▸ WithBound d l) x m in
    let r = q.3 in
    let b = with_back d l r.1 r.4 in
    (key Action q.0, q.1, q.2, ((n, Some b.0), ap (λ z. action_with n z) b.1, (r.0, r.1, r.2, r.3, b.2)))
atom_back d (paren t) x i m =
    let q = lead_mark OpenParen _ x m in
    let r = q.2 in
    (mark OpenParen, q.0, q.1, ((t, None), refl, (r.0, r.1, r.2, r.3, inl (r.1, [], sym (append-nil r.1), r.4, (refl, refl)))))
atom_back d (binary o l r) x i m =
    let q = lead_mark OpenParen _ x m in let s = q.2 in (mark OpenParen, q.0, q.1, ((l, Some (o, r)), refl, (s.0, s.1, s.2, s.3, inr ((o, r), refl, s.4))))
atom_back d (element tag attrs children) x i m = let q = element_back d tag attrs children x m in (mark Less, q.0, q.1, q.2)
atom_back d _ x i m = absurd i

-- ---- exact

pub meek_atom : (tree : Tree) → IsMeek (after_atom tree)
meek_atom (action n) = meek_at (is_key With) (the_key With)
meek_atom _ = meek_none

constant_each : (o : Option Atom) → IsArm (ConstantBehind o) after_atom ⊥ (constant_arm o)
constant_each (Some a) = exact_done_on (atom a) after_atom (λ w. refl) meek_atom
constant_each None = λ a x m. m

action_on : (c : Placed × Option (List Tree)) (w : Word) → on_with c.1 w ≡ after_atom (action_of c) w
action_on (n, None) w = refl
action_on (n, Some bound) w = refl

paren_on : (c : Tree × Option (Op × Tree)) (w : Word) → none w ≡ after_atom (paren_of c) w
paren_on (l, None) w = refl
paren_on (l, Some p) w = refl

pub atom_each : (d : ℕ) (e c : Reader Tree) → Below d e c → (w : Word) → IsArm (AtomBehind d w) after_atom ⊥ (atom_arm e c w)
atom_each d e c b (mark Minus) = exact_made atom (one negative_of) after_atom (want negative_of) (exact_want negative_of a_negative) meek_atom
atom_each d e c b (key Date at) = exact_made atom (one date_of) after_atom (want date_of) (exact_want date_of a_date) meek_atom
atom_each d e c b (key Symbol at) = exact_made atom (one symbol_of) after_atom (want symbol_of) (exact_want symbol_of a_symbol) meek_atom
atom_each d e c b (lower n) = exact_done_on (variable n) after_atom (λ w. refl) meek_atom
atom_each d e c b (upper n) = exact_done_on (client n) after_atom (λ w. refl) meek_atom
atom_each d e c b (mark OpenBracket) = exact_made (λ ts. array (trees_of ts)) (Items d) after_atom (items e) (items_part d e b.whole b.refuses) meek_atom
atom_each d e c b (mark OpenBrace) = exact_made (λ ps. object (props_of ps)) (Props d) after_atom (properties e) (properties_part d e b.whole) meek_atom
atom_each d e c b (key Map at) =
    exact_made (λ ps. map (pairs_of ps)) (Lead (is_mark OpenBracket) (Pairs d)) after_atom (behind (is_mark OpenBracket) (entries e)) (after_word (the_mark OpenBracket) (entries_part d e b.whole)) meek_atom
atom_each d e c b (key Set at) =
    exact_made (λ ts. set (trees_of ts)) (Lead (is_mark OpenBracket) (Items d)) after_atom (behind (is_mark OpenBracket) (items e)) (after_word (the_mark OpenBracket) (items_part d e b.whole b.refuses)) meek_atom
atom_each d e c b (key Use at) = exact_made source (one plain_of) after_atom (want plain_of) (exact_want plain_of a_plain) meek_atom
atom_each d e c b (key Promise at) = exact_made promise (one plain_of) after_atom (want plain_of) (exact_want plain_of a_plain) meek_atom
atom_each d e c b (key Stream at) = exact_made stream (one plain_of) after_atom (want plain_of) (exact_want plain_of a_plain) meek_atom
atom_each d e c b (key Action at) =
    exact_made action_of (ActionRest d) after_atom (action_rest e)
    (exact_spelled (ActionRest d) (λ c. on_with c.1) (λ c. after_atom (action_of c)) (action_rest e) (λ c x m w. action_on c w) (λ c. meek_atom (action_of c)) (action_part d e b.whole b.refuses)) meek_atom
atom_each d e c b (mark OpenParen) =
    exact_made paren_of (ParenRest d) after_atom (paren_rest e)
    (exact_spelled (ParenRest d) never (λ c. after_atom (paren_of c)) (paren_rest e) (λ c x m w. paren_on c w) (λ c. meek_atom (paren_of c)) (paren_part d e b.whole)) meek_atom
atom_each d e c b (mark Less) = exact_made element_of (ElementRest d) after_atom (element_rest e c) (element_part d e c b) meek_atom
atom_each d e c b w = constant_each (constant_of w)
