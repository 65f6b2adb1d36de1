-- The reader of expressions is exact, level by level.
use Rattle.std.proofs.Common.{◌≡◌, ℕ, zero, suc, ◌+◌, ◌-◌, ◌≤◌, Bool, true, false, inl, inr, List, [], ◌∷◌, ◌++◌, refl, sym, ap, subst, ◌∙◌, append_assoc, arith}
use Rattle.std.proofs.lemmas.List.{append-nil}
use Rattle.flight_syntax.specs.declared.word.Keyword.TheVariants.{Let, If, For, Throw, With}
use Rattle.flight_syntax.specs.declared.word.Punctuator.{Punctuator}
use Rattle.flight_syntax.specs.declared.word.Punctuator.TheVariants.{CloseBracket, Less}
use Rattle.flight_syntax.specs.Lexicon.{Word, key, lower, mark, beyond, Placed, Phrase, one, is_key, is_deep}
use Rattle.flight_syntax.specs.Tree.{Tree, let_in, if_else, for_in, throw, member, index, variable, action, element, too_deep, too_many, postfixes, IsBase}
use Rattle.flight_syntax.specs.Grammar.{most_postfixes, Spells}
use Rattle.flight_grammar.specs.Reading.{Reader, Arm, stop, limit, go, at, both, made, by_word}
use Rattle.flight_grammar.specs.Reader.{let_rest, if_rest, for_rest, Post, named, indexed, over, posted, starts_post, starts_element, posts, chain_of, chain_arm, atom_arm, level_arm, element_of, element_rest, element_arm, no_element_arm, no_expression, level, expression, child_element}
use Rattle.flight_grammar.proofs.Exact.{Closed, IsMeek, Exact, never, or, closed_both, closed_left, closed_right, meek_none, meek_or, exact_for}
use Rattle.flight_grammar.proofs.Parts.{Just, exact_done, exact_spelled, Seq, Joins, exact_both, Image, exact_made, ByWord, IsArm, Limit, Arms, exact_word}
use Rattle.flight_grammar.proofs.Choices.{IsEager, IsStop, eager_word, head_closed}
use Rattle.flight_grammar.proofs.Deep.{OnlyDeep, exact_deep}
use Rattle.flight_grammar.proofs.After.{after, meek_after, meek_post}
use Rattle.flight_grammar.proofs.Listed.{E}
use Rattle.flight_grammar.proofs.Productions.{C, Below, refuses_mark, LetRest, let_part, IfRest, if_part, ForRest, for_part, ElementRest, element_part}
use Rattle.flight_grammar.proofs.Postfixes.{Posts, after_posts, meek_posts, posts_part, exact_arm, posted_after, posts_head}
use Rattle.flight_grammar.proofs.Atoms.{IsAtom, after_atom, meek_atom, lead_key, lead_word, element_spell, element_back, AtomBehind, atom_spells, atom_back, atom_each}

-- ---- an atom and its postfixes

abbrev chain_on : Tree → List Post → Word → Bool
chain_on a [] = or (after_atom a) starts_post
chain_on a (p ∷ ps) = after_posts (p ∷ ps)

abbrev Chain : ℕ → ℕ → (Tree → Phrase) → Tree × List Post → Phrase
Chain d n Q = Seq Q (λ a. Posts d n)

atom_apart : (a : Tree) (w : Word) → starts_post w ≡ true → after_atom a w ≡ false
atom_apart (action n) w e = with_apart w e
  where
    with_apart : (w : Word) → starts_post w ≡ true → at (is_key With) w ≡ false
    with_apart (key k at) e = absurd cc
    with_apart _ e = refl
atom_apart _ w e = refl

chain_joins : (d n : ℕ) → Joins after_atom (λ (a : Tree). Posts d n) after_posts (λ c. chain_on c.0 c.1)
chain_joins d n = record { follow = follow; last = last; all = all; meek = λ c. meek c.0 c.1 }
  where
    follow : (a : Tree) (ps : List Post) (y rest : List Word) → Posts d n ps y → Closed (chain_on a ps) rest → Closed (after_atom a) (y ++ rest)
    follow a [] y rest m c = subst (λ z. Closed (after_atom a) (z ++ rest)) (sym m) (closed_left (after_atom a) starts_post rest c)
    follow a (p ∷ ps) y rest m c = head_closed starts_post (after_atom a) y rest (atom_apart a) (posts_head d n p ps y m)

    last : (a : Tree) (ps : List Post) (rest : List Word) → Closed (chain_on a ps) rest → Closed (after_posts ps) rest
    last a [] rest c = closed_right (after_atom a) starts_post rest c
    last a (p ∷ ps) rest c = c

    all : (a : Tree) (ps : List Post) (y rest : List Word) → Posts d n ps y → Closed (after_atom a) (y ++ rest) → Closed (after_posts ps) rest → Closed (chain_on a ps) rest
    all a [] y rest m c k = closed_both (after_atom a) starts_post rest (subst (λ z. Closed (after_atom a) (z ++ rest)) m c) k
    all a (p ∷ ps) y rest m c k = k

    meek : (a : Tree) (ps : List Post) → IsMeek (chain_on a ps)
    meek a [] = meek_or (after_atom a) starts_post (meek_atom a) meek_post
    meek a (p ∷ ps) = meek_posts (p ∷ ps)

chain_is : (a : Tree) (ps : List Post) → IsAtom a → (w : Word) → chain_on a ps w ≡ after (posted a ps) w
chain_is a (p ∷ ps) i w = sym (posted_after p ps a w)
chain_is (let_in n v b) [] i w = absurd i
chain_is (if_else t y o) [] i w = absurd i
chain_is (for_in n o g) [] i w = absurd i
chain_is (throw v) [] i w = absurd i
chain_is (member of n) [] i w = absurd i
chain_is (index of t) [] i w = absurd i
chain_is too_deep [] i w = absurd i
chain_is (too_many of) [] i w = absurd i
chain_is _ [] i w = refl

chain_part : (d n : ℕ) (e : Reader Tree) → Exact (E d) after e → (Q : Tree → Phrase) (p : Reader Tree) → Exact Q after_atom p → ((a : Tree) (y : List Word) → Q a y → IsAtom a)
    → Exact (Image chain_of (Chain d n Q)) after (made chain_of (both p (λ a. posts n e)))
chain_part d n e h Q p hp atoms =
    exact_made chain_of (Chain d n Q) after (both p (λ a. posts n e))
    (exact_spelled (Chain d n Q) (λ c. chain_on c.0 c.1) (λ c. after (posted c.0 c.1)) (both p (λ a. posts n e)) (λ c x m w. chain_is c.0 c.1 (atoms c.0 m.0 m.3) w) (λ c. meek_after (posted c.0 c.1))
    (exact_both Q (λ a. Posts d n) after_atom after_posts (λ c. chain_on c.0 c.1) p (λ a. posts n e) hp (λ a. posts_part d n e h) (chain_joins d n))) meek_after

chain_each : (d : ℕ) (e : Reader Tree) (L : Type 0) → Exact (E d) after e → (Q : Tree → Phrase) (arm : Arm Tree) → IsArm Q after_atom ⊥ arm → ((a : Tree) (y : List Word) → Q a y → IsAtom a)
    → IsArm (Image chain_of (Chain d most_postfixes Q)) after L (chain_arm e arm)
chain_each d e L h Q stop i atoms = λ a x m. i m.0.0 m.2.0 m.2.3
chain_each d e L h Q limit i atoms = absurd i.1
chain_each d e L h Q (go p) i atoms = chain_part d most_postfixes e h Q p i atoms

-- ---- from atoms and postfixes to trees and back

is_base : (a : Tree) → IsAtom a → IsBase a
is_base (let_in n v b) i = absurd i
is_base (if_else t y o) i = absurd i
is_base (for_in n o g) i = absurd i
is_base (throw v) i = absurd i
is_base (member of n) i = absurd i
is_base (index of t) i = absurd i
is_base too_deep i = absurd i
is_base (too_many of) i = absurd i
is_base _ i = tt

no_postfixes : (a : Tree) → IsAtom a → postfixes a ≡ 0
no_postfixes (member of n) i = absurd i
no_postfixes (index of t) i = absurd i
no_postfixes _ i = refl

grown_by : (x y z w : List Word) → z ≡ y ++ w → x ++ z ≡ (x ++ y) ++ w
grown_by x y z w e = ap (λ v. x ++ v) e ∙ sym (append_assoc x y w)

posted_spells : (d n : ℕ) (e : Tree) (x : List Word) → IsBase e → postfixes e + n ≡ most_postfixes → Spells e (suc d) x → (ps : List Post) (z : List Word) → Posts d n ps z → Spells (posted e ps) (suc d) (x ++ z)
posted_spells d n e x b k s [] z m = subst (Spells e (suc d)) (sym (ap (λ w. x ++ w) m ∙ append-nil x)) s
posted_spells d n e x b k s (over ∷ []) z m = (b, (x, z, refl, s, m))
posted_spells d n e x b k s (over ∷ p ∷ ps) z m = absurd m
posted_spells d zero e x b k s (named q ∷ ps) z m = absurd m
posted_spells d zero e x b k s (indexed t ∷ ps) z m = absurd m
posted_spells d (suc n) e x b k s (named q ∷ ps) z m =
    let r = m.4 in
    let y = m.0 ++ r.0 in
    let whole : z ≡ y ++ r.1 = m.2 ∙ ap (λ w. m.0 ++ w) r.2 ∙ sym (append_assoc m.0 r.0 r.1) in
    subst (Spells (posted (member e q) ps) (suc d)) (sym (grown_by x y z r.1 whole))
    (posted_spells d n (member e q) (x ++ y) tt (omega (arith, k)) (b, omega (arith, k), (x, y, refl, s, (m.0, r.0, refl, m.3, r.3))) ps r.1 r.4)
posted_spells d (suc n) e x b k s (indexed t ∷ ps) z m =
    let r = m.4 in
    let y = m.0 ++ r.0 in
    let whole : z ≡ y ++ r.1 = m.2 ∙ ap (λ w. m.0 ++ w) r.2 ∙ sym (append_assoc m.0 r.0 r.1) in
    subst (Spells (posted (index e t) ps) (suc d)) (sym (grown_by x y z r.1 whole))
    (posted_spells d n (index e t) (x ++ y) tt (omega (arith, k)) (b, omega (arith, k), (x, y, refl, s, (m.0, r.0, refl, m.3, r.3))) ps r.1 r.4)

-- ---- an expression, by its first word

abbrev LevelBehind : ℕ → Word → Tree → Phrase
LevelBehind d (key Let at) tree y = Image (λ p. let_in p.0 p.1.0 p.1.1) (LetRest d) tree y
LevelBehind d (key If at) tree y = Image (λ p. if_else p.0 p.1.0 p.1.1) (IfRest d) tree y
LevelBehind d (key For at) tree y = Image (λ p. for_in p.0 p.1.0 p.1.1) (ForRest d) tree y
LevelBehind d (key Throw at) tree y = Image throw (E d) tree y
LevelBehind d word tree y = Image chain_of (Chain d most_postfixes (AtomBehind d word)) tree y

level_image : {B : Type 0} (d : ℕ) (put : B → Tree) (Q : B → Phrase) (x : List Word) → ((b : B) (y : List Word) → Q b y → Spells (put b) (suc d) x) → (tree : Tree) (y : List Word) → Image put Q tree y → Spells tree (suc d) x
level_image d put Q x h tree y m = subst (λ z. Spells z (suc d) x) m.1 (h m.0 y m.2)

level_chain : (d : ℕ) (w : Word) (tree : Tree) (y : List Word) → Image chain_of (Chain d most_postfixes (AtomBehind d w)) tree y → Spells tree (suc d) (w ∷ y)
level_chain d w tree y m =
    let c = m.0 in
    let q = m.2 in
    let a = atom_spells d w c.0 q.0 q.3 in
    subst (λ z. Spells z (suc d) (w ∷ y)) m.1 (subst (Spells (posted c.0 c.1) (suc d)) (ap (λ z. w ∷ z) (sym q.2)) (posted_spells d most_postfixes c.0 (w ∷ q.0) (is_base c.0 a.1) (ap (λ n. n + most_postfixes) (no_postfixes c.0 a.1)) a.0 c.1 q.1 q.4))

level_there : (d : ℕ) (tree : Tree) (x : List Word) → ByWord (LevelBehind d) tree x → Spells tree (suc d) x
level_there d tree x m = subst (Spells tree (suc d)) (sym m.2) (by m.0 m.1 m.3)
  where
    by : (w : Word) (y : List Word) → LevelBehind d w tree y → Spells tree (suc d) (w ∷ y)
    by (key Let at) y m = subst (λ z. Spells z (suc d) (key Let at ∷ y)) m.1 (lead_word (is_key Let) (key Let at) _ y refl m.2)
    by (key If at) y m = subst (λ z. Spells z (suc d) (key If at ∷ y)) m.1 (lead_word (is_key If) (key If at) _ y refl m.2)
    by (key For at) y m = subst (λ z. Spells z (suc d) (key For at ∷ y)) m.1 (lead_word (is_key For) (key For at) _ y refl m.2)
    by (key Throw at) y m = subst (λ z. Spells z (suc d) (key Throw at ∷ y)) m.1 (lead_word (is_key Throw) (key Throw at) _ y refl m.2)
    by w y m = level_chain d w tree y m

-- no atom begins with these
no_atom_word : (d : ℕ) (w : Word) (a : Tree) (y : List Word) → AtomBehind d w a y → (n : ℕ) (tree : Tree) (z : List Word) → Image chain_of (Chain d n (AtomBehind d w)) tree z → n ≡ most_postfixes → LevelBehind d w tree z
no_atom_word d (key Let at) a y m n tree z q e = absurd m
no_atom_word d (key If at) a y m n tree z q e = absurd m
no_atom_word d (key For at) a y m n tree z q e = absurd m
no_atom_word d (key Throw at) a y m n tree z q e = absurd m
no_atom_word d w a y m n tree z q e = subst (λ k. Image chain_of (Chain d k (AtomBehind d w)) tree z) e q

few_postfixes : (d : ℕ) (e : Tree) (x : List Word) → IsBase e → Spells e (suc d) x → postfixes e ≤ most_postfixes
few_postfixes d (member of n) x b s = s.1
few_postfixes d (index of t) x b s = s.1
few_postfixes d _ x b s = omega arith

unposted_atom : (d : ℕ) (e : Tree) (x : List Word) → IsAtom e → Spells e (suc d) x → (n : ℕ) → postfixes e + n ≡ most_postfixes → (ps : List Post) (z : List Word) → Posts d n ps z → ByWord (LevelBehind d) (posted e ps) (x ++ z)
unposted_atom d e x i s n k ps z m =
    let a = atom_back d e x i s in
    let none : postfixes e ≡ 0 = no_postfixes e i in
    let all : n ≡ most_postfixes = omega (arith, k, none) in
    (a.0, a.1 ++ z, ap (λ v. v ++ z) a.2, no_atom_word d a.0 e a.1 a.3 n (posted e ps) (a.1 ++ z) ((e, ps), refl, (a.1, z, refl, a.3, m)) all)

-- an expression that may have postfixes, with those that follow
unposted : (d : ℕ) (e : Tree) (x : List Word) → IsBase e → Spells e (suc d) x → (n : ℕ) → postfixes e + n ≡ most_postfixes → (ps : List Post) (z : List Word) → Posts d n ps z → ByWord (LevelBehind d) (posted e ps) (x ++ z)
unposted d (member of q) x b s n k ps z m =
    let c = s.2 in
    let w = c.4 in
    let whole : x ++ z ≡ c.0 ++ (c.1 ++ z) = ap (λ v. v ++ z) c.2 ∙ append_assoc c.0 c.1 z in
    subst (ByWord (LevelBehind d) (posted (member of q) ps)) (sym whole)
    (unposted d of c.0 s.0 c.3 (suc n) (omega (arith, k)) (named q ∷ ps) (c.1 ++ z) (w.0, w.1 ++ z, ap (λ v. v ++ z) w.2 ∙ append_assoc w.0 w.1 z, w.3, (w.1, z, refl, w.4, m)))
unposted d (index of t) x b s n k ps z m =
    let c = s.2 in
    let w = c.4 in
    let whole : x ++ z ≡ c.0 ++ (c.1 ++ z) = ap (λ v. v ++ z) c.2 ∙ append_assoc c.0 c.1 z in
    subst (ByWord (LevelBehind d) (posted (index of t) ps)) (sym whole)
    (unposted d of c.0 s.0 c.3 (suc n) (omega (arith, k)) (indexed t ∷ ps) (c.1 ++ z) (w.0, w.1 ++ z, ap (λ v. v ++ z) w.2 ∙ append_assoc w.0 w.1 z, w.3, (w.1, z, refl, w.4, m)))
unposted d (let_in q v w) x b s n k ps z m = absurd b
unposted d (if_else t y o) x b s n k ps z m = absurd b
unposted d (for_in q o g) x b s n k ps z m = absurd b
unposted d (throw v) x b s n k ps z m = absurd b
unposted d too_deep x b s n k ps z m = absurd b
unposted d (too_many of) x b s n k ps z m = absurd b
unposted d e x b s n k ps z m = unposted_atom d e x tt s n k ps z m

chain_back : (d : ℕ) (e : Tree) (x : List Word) → IsBase e → Spells e (suc d) x → ByWord (LevelBehind d) e x
chain_back d e x b s =
    let few : postfixes e ≤ most_postfixes = few_postfixes d e x b s in
    subst (ByWord (LevelBehind d) e) (append-nil x) (unposted d e x b s (most_postfixes - postfixes e) (omega (arith, few)) [] [] refl)

level_back : (d : ℕ) (tree : Tree) (x : List Word) → Spells tree (suc d) x → ByWord (LevelBehind d) tree x
level_back d (let_in n v b) x m = let q = lead_key Let _ x m in (key Let q.0, q.1, q.2, ((n, (v, b)), refl, q.3))
level_back d (if_else t y o) x m = let q = lead_key If _ x m in (key If q.0, q.1, q.2, ((t, (y, o)), refl, q.3))
level_back d (for_in n o g) x m = let q = lead_key For _ x m in (key For q.0, q.1, q.2, ((n, (o, g)), refl, q.3))
level_back d (throw v) x m = let q = lead_key Throw (Spells v d) x m in (key Throw q.0, q.1, q.2, (v, refl, q.3))
level_back d too_deep x m = absurd m
level_back d (too_many of) x m =
    let c = m.1 in
    let few : postfixes of ≤ most_postfixes = few_postfixes d of c.0 m.0 c.3 in
    subst (ByWord (LevelBehind d) (too_many of)) (sym c.2) (unposted d of c.0 m.0 c.3 (most_postfixes - postfixes of) (omega (arith, few)) (over ∷ []) c.1 c.4)
level_back d e x m = chain_back d e x tt m

-- ---- exact

level_each : (d : ℕ) (e c : Reader Tree) → Below d e c → (w : Word) → IsArm (LevelBehind d w) after (Limit (LevelBehind d) w) (level_arm e c w)
level_each d e c b (key Let at) = exact_made (λ p. let_in p.0 p.1.0 p.1.1) (LetRest d) after (let_rest e) (let_part d e b.whole) meek_after
level_each d e c b (key If at) = exact_made (λ p. if_else p.0 p.1.0 p.1.1) (IfRest d) after (if_rest e) (if_part d e b.whole) meek_after
level_each d e c b (key For at) = exact_made (λ p. for_in p.0 p.1.0 p.1.1) (ForRest d) after (for_rest e) (for_part d e b.whole) meek_after
level_each d e c b (key Throw at) = exact_made throw (E d) after e b.whole meek_after
level_each d e c b w = chain_each d e (Limit (LevelBehind d) w) b.whole (AtomBehind d w) (atom_arm e c w) (atom_each d e c b w) (λ a y m. (atom_spells d w a y m).1)

x : Placed
x = record { bytes = []; at = 0 }

level_arms : (d : ℕ) (e c : Reader Tree) → Below d e c → Arms (LevelBehind d) after (level_arm e c)
level_arms d e c b = record {
  each = level_each d e c b;
  at_deep = refl;
  at_beyond = λ m k. refl;
  some = record { tree = variable x; text = lower x ∷ []; spelled = (lower x, [], refl, ((variable x, []), refl, ([], [], refl, (refl, refl), refl))) };
  meek = meek_after;
}

exact_level : (d : ℕ) (e c : Reader Tree) → Below d e c → Exact (E (suc d)) after (by_word (level_arm e c))
exact_level d e c b =
    exact_for (ByWord (LevelBehind d)) (E (suc d)) after (by_word (level_arm e c)) (level_there d) (level_back d) (exact_word (LevelBehind d) after (level_arm e c) (level_arms d e c b))

-- ---- a child element

abbrev ElementBehind : ℕ → Word → Tree → Phrase
ElementBehind d (mark Less) tree y = Image element_of (ElementRest d) tree y
ElementBehind d (beyond Less) tree y = Just too_deep tree y
ElementBehind d _ tree y = ⊥

abbrev NoElementBehind : Word → Tree → Phrase
NoElementBehind (beyond Less) tree y = Just too_deep tree y
NoElementBehind _ tree y = ⊥

element_there : (d : ℕ) (tree : Tree) (x : List Word) → ByWord (ElementBehind d) tree x → C (suc d) tree x
element_there d tree x m = by m.0 m.1 m.2 m.3
  where
    by : (w : Word) (y : List Word) → x ≡ w ∷ y → ElementBehind d w tree y → C (suc d) tree x
    by (mark Less) y e m = subst (C (suc d) tree) (sym e) (subst (λ z. C (suc d) z (mark Less ∷ y)) m.1 (inl (tt, element_spell d m.0 y m.2)))
    by (beyond Less) y e m = inr (m.0, e ∙ ap (λ z. beyond Less ∷ z) m.1)
    by _ y e m = absurd m

element_over : (d : ℕ) (tree : Tree) (x : List Word) → C (suc d) tree x → ByWord (ElementBehind d) tree x
element_over d tree x (inr m) = (beyond Less, [], m.1, (m.0, refl))
element_over d (element tag attrs children) x (inl m) = let q = element_back d tag attrs children x m.1 in (mark Less, q.0, q.1, q.2)
element_over d _ x (inl m) = absurd m.0

element_arms : (d : ℕ) (e c : Reader Tree) → Below d e c → Arms (ElementBehind d) never (element_arm e c)
element_arms d e c b = record {
  each = each;
  at_deep = refl;
  at_beyond = beyonds;
  some = record { tree = too_deep; text = beyond Less ∷ []; spelled = (beyond Less, [], refl, (refl, refl)) };
  meek = λ a. meek_none;
}
  where
    each : (w : Word) → IsArm (ElementBehind d w) never (Limit (ElementBehind d) w) (element_arm e c w)
    each (mark Less) = exact_made element_of (ElementRest d) never (element_rest e c) (element_part d e c b) (λ a. meek_none)
    each (beyond Less) = exact_done too_deep
    each _ = λ a x m. m

    beyonds : (m : Punctuator) → element_arm e c (mark m) ≡ stop → element_arm e c (beyond m) ≡ stop
    beyonds Less k = absurd cc
    beyonds _ k = refl

exact_element : (d : ℕ) (e c : Reader Tree) → Below d e c → Exact (C (suc d)) never (by_word (element_arm e c))
exact_element d e c b =
    exact_for (ByWord (ElementBehind d)) (C (suc d)) never (by_word (element_arm e c)) (element_there d) (element_over d) (exact_word (ElementBehind d) never (element_arm e c) (element_arms d e c b))

eager_element : (d : ℕ) (e c : Reader Tree) → Below d e c → IsEager starts_element (by_word (element_arm e c))
eager_element d e c b = eager_word starts_element (element_arm e c) not_stop (λ w. exact_arm (ElementBehind d w) never (Limit (ElementBehind d) w) (element_arm e c w) ((element_arms d e c b).each w))
  where
    not_stop : (w : Word) → starts_element w ≡ true → IsStop (element_arm e c w) → ⊥
    not_stop (mark Less) k s = s
    not_stop (beyond Less) k s = s
    not_stop _ k s = absurd cc

-- ---- where no level is left

no_element_there : (tree : Tree) (x : List Word) → ByWord NoElementBehind tree x → C zero tree x
no_element_there tree x m = by m.0 m.1 m.2 m.3
  where
    by : (w : Word) (y : List Word) → x ≡ w ∷ y → NoElementBehind w tree y → C zero tree x
    by (beyond Less) y e m = inr (m.0, e ∙ ap (λ z. beyond Less ∷ z) m.1)
    by _ y e m = absurd m

no_element_over : (tree : Tree) (x : List Word) → C zero tree x → ByWord NoElementBehind tree x
no_element_over tree x (inr m) = (beyond Less, [], m.1, (m.0, refl))
no_element_over (element tag attrs children) x (inl m) = absurd m.1
no_element_over _ x (inl m) = absurd m.0

no_element_arms : Arms NoElementBehind never no_element_arm
no_element_arms = record {
  each = each;
  at_deep = refl;
  at_beyond = beyonds;
  some = record { tree = too_deep; text = beyond Less ∷ []; spelled = (beyond Less, [], refl, (refl, refl)) };
  meek = λ a. meek_none;
}
  where
    each : (w : Word) → IsArm (NoElementBehind w) never (Limit NoElementBehind w) (no_element_arm w)
    each (mark Less) = (λ a x m. m, (Less, refl, record { tree = too_deep; text = []; spelled = (refl, refl) }))
    each (beyond Less) = exact_done too_deep
    each _ = λ a x m. m

    beyonds : (m : Punctuator) → no_element_arm (mark m) ≡ stop → no_element_arm (beyond m) ≡ stop
    beyonds Less k = absurd cc
    beyonds _ k = refl

exact_no_element : Exact (C zero) never (by_word no_element_arm)
exact_no_element = exact_for (ByWord NoElementBehind) (C zero) never (by_word no_element_arm) no_element_there no_element_over (exact_word NoElementBehind never no_element_arm no_element_arms)

eager_no_element : IsEager starts_element (by_word no_element_arm)
eager_no_element = eager_word starts_element no_element_arm not_stop (λ w. exact_arm (NoElementBehind w) never (Limit NoElementBehind w) (no_element_arm w) (no_element_arms.each w))
  where
    not_stop : (w : Word) → starts_element w ≡ true → IsStop (no_element_arm w) → ⊥
    not_stop (mark Less) k s = s
    not_stop (beyond Less) k s = s
    not_stop _ k s = absurd cc

only_deep : (tree : Tree) (x : List Word) → Spells tree zero x → (tree ≡ too_deep) × one is_deep tt x
only_deep too_deep x m = (refl, m)
only_deep _ x m = absurd m

exact_no_expression : Exact (E zero) after no_expression
exact_no_expression =
    exact_spelled (E zero) never after no_expression (λ a x m w. sym (ap (λ z. after z w) (only_deep a x m).0)) meek_after
    (exact_for (OnlyDeep too_deep) (E zero) never no_expression (λ a x m. subst (λ z. Spells z zero x) (sym m.0) m.1) only_deep (exact_deep too_deep))

-- ---- every level

pub levels : (d : ℕ) → Below d (expression d) (child_element d)
unfolding level
levels zero = record { whole = exact_no_expression; nested = exact_no_element; refuses = refuses_mark CloseBracket no_expression tt (λ ws. tt); eager = eager_no_element }
levels (suc d) =
    let b = levels d in
    record {
      whole = exact_level d (expression d) (child_element d) b;
      nested = exact_element d (expression d) (child_element d) b;
      refuses = refuses_mark CloseBracket (by_word (level_arm (expression d) (child_element d))) tt (λ ws. tt);
      eager = eager_element d (expression d) (child_element d) b;
    }
