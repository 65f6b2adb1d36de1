-- What is printed of a tree spells the same tree, but for places.
use Rattle.std.proofs.Common.{◌≡◌, ℕ, zero, suc, ◌<◌, true, false, ◌⊎◌, inl, inr, List, [], ◌∷◌, ◌++◌, Option, Some, refl, sym, ap, ap₂, subst, ◌∙◌, append_assoc, codes}
use Rattle.std.specs.Prelude.{unwrap_or}
use Rattle.flight_syntax.specs.declared.word.Keyword.TheVariants.{Let, In, If, Then, Else, For, Give, Throw, Map, Set, Use, Promise, Stream, Action, With}
use Rattle.flight_syntax.specs.declared.word.Punctuator.TheVariants.{OpenParen, CloseParen, OpenBracket, CloseBracket, OpenBrace, CloseBrace, Comma, Colon, Dot, Assign, Less, Greater, LessSlash, SlashGreater}
use Rattle.flight_syntax.specs.Lexicon.{Placed, Word, Phrase, ◌▸◌, nothing, one, keyword, sign, lower_of, upper_of, plain_of, name_of, property_of, is_plain, is_deep}
use Rattle.flight_syntax.specs.Tree as tree
use Rattle.flight_syntax.specs.Tree.{Tree, Trees, TreeProps, TreePairs, Declaration, IsElement, postfixes}
use Rattle.flight_syntax.specs.Grammar.{Bare, Beyond, Spells, Listed, MoreListed, Properties, MoreProperties, Entries, MoreEntries, Attributes, Children, most_postfixes}
use Rattle.flight_syntax.specs.Scope.{action_number, client_number, tag_of, Means, MeansEach, MeansProps, MeansPairs}
use Rattle.flight_syntax.specs.Meaning.{given, given_tag, meaning, meanings, meaning_props, meaning_pairs}
use Rattle.flight_print.specs.Text as printed
use Rattle.flight_print.specs.Text.{word, name_at, Shape, bare, element, other, braced, given_text, child_text, term_text, terms_text, props_text, pairs_text, attrs_text, children_text}
use Rattle.flight_print.proofs.Alike.{unplaced, plain_each, plain_props, plain_pairs, three}
use Rattle.flight_print.proofs.Said.{IsSaid, AreSaid, Takes, left, right, lower_again, upper_again, plain_again, name_again, deep_said}
use Rattle.flight_print.proofs.Again.{Again, Named, nothing_again, then_again, made_again, so_again, sign_again, named_again, key_before, sign_before, sign_behind}
use Rattle.flight_print.proofs.Atoms.{atom_again}
use Rattle.flight_print.proofs.Parts.{Like, same_base, same_posts, same_element, shape, bare_shape, shape_bare, shape_element, bare_again, property_again, op_again, names_of, client_name, action_name, tag_named, closing_again, attribute_again}

-- ---- one word

pub taken : {take : Word → Option Placed} → ((w : Word) (named : Placed) → IsSaid w → take w ≡ Some named → Takes take named.bytes) → (named : Placed) (x : List Word) → AreSaid x → one take named x → Again (one take) (Named named) (word named.bytes)
taken {take} f named x r o = named_again take named (f o.0 named (subst AreSaid o.2 r).0 o.1)

not_deep : (x : List Word) → AreSaid x → one is_deep tt x → ⊥
not_deep x r m = by m.0 m.1 (subst AreSaid m.2 r).0
  where
    by : (w : Word) → is_deep w ≡ Some tt → IsSaid w → ⊥
    by Rattle.flight_syntax.specs.Lexicon.deep e s = deep_said s
    by _ e s = cc

-- ---- values in braces, and children

abbrev Given : Tree → ℕ → Phrase
Given t d x = Bare t x ⊎ (sign OpenBrace ▸ Spells t d ▸ sign CloseBrace) x

abbrev Child : Tree → ℕ → Phrase
Child t d x = Given t d x ⊎ ((IsElement t × Spells t d x) ⊎ ((t ≡ tree.too_deep) × Beyond Less x))

module _ (all : List Declaration) (scope : List (List ℕ)) where
  abbrev text : Tree → List ℕ
  text t = term_text (names_of all) scope (meaning all scope t)

  abbrev TreeAgain : Tree → ℕ → Type 0
  TreeAgain t d = Again (λ u. Spells u d) (Like t) (text t)

  braced_again : (t : Tree) (d : ℕ) → TreeAgain t d → Again (λ u. Given u d) (Like t) (braced (text t))
  braced_again t d h = made_again (λ u. Given u d) (Like t) (sign_before OpenBrace (sign_behind CloseBrace h)) (λ u. u) (λ u s. s) (λ u x s m. inr m)

  bare_given : (t : Tree) (d : ℕ) (v : List ℕ) → shape all scope t ≡ bare v → Again (λ u. Given u d) (Like t) (printed.literal v)
  bare_given t d v e = made_again (λ u. Given u d) (Like t) (bare_again t v (shape_bare all scope t v e)) (λ u. u) (λ u s. s) (λ u x s m. inl m)

  -- what is no text stands in braces
  in_braces : (t : Tree) (d : ℕ) (x : List Word) → AreSaid x → Given t d x → ((v : List ℕ) → shape all scope t ≡ bare v → ⊥) → ((y : List Word) → AreSaid y → Spells t d y → TreeAgain t d) → TreeAgain t d
  in_braces t d x r (inl m) f h = absurd (f m.0.bytes (bare_shape all scope t m.0.bytes m.1))
  in_braces t d x r (inr m) f h = let a = m.4 in h a.0 (left a.0 a.1 a.2 (right m.0 m.1 m.2 r)) a.3

  given_again : (t : Tree) (d : ℕ) (x : List Word) → AreSaid x → Given t d x → ((y : List Word) → AreSaid y → Spells t d y → TreeAgain t d) → Again (λ u. Given u d) (Like t) (given_text (shape all scope t) (text t))
  given_again t d x r m h = by (shape all scope t) refl
    where
      by : (s : Shape) → shape all scope t ≡ s → Again (λ u. Given u d) (Like t) (given_text (shape all scope t) (text t))
      by (bare v) e = so_again (ap (λ s. given_text s (text t)) (sym e)) (bare_given t d v e)
      by element e = so_again (ap (λ s. given_text s (text t)) (sym e)) (braced_again t d (in_braces t d x r m (λ v f. let g : element ≡ bare v = sym e ∙ f in cc) h))
      by other e = so_again (ap (λ s. given_text s (text t)) (sym e)) (braced_again t d (in_braces t d x r m (λ v f. let g : other ≡ bare v = sym e ∙ f in cc) h))

  child_given : (t : Tree) (d : ℕ) (s : List ℕ) → Again (λ u. Given u d) (Like t) s → Again (λ u. Child u d) (Like t) s
  child_given t d s x = made_again (λ u. Child u d) (Like t) x (λ u. u) (λ u s. s) (λ u y s m. inl m)

  child_element : (t : Tree) (d : ℕ) → IsElement t → TreeAgain t d → Again (λ u. Child u d) (Like t) (text t)
  child_element t d e x = made_again (λ u. Child u d) (Like t) x (λ u. u) (λ u s. s) (λ u y s m. inr (inl (same_element t u s e, m)))

  no_too_deep : (t : Tree) → Means all scope t (meaning all scope t) → t ≡ tree.too_deep → ⊥
  no_too_deep t k e = subst (λ z. Means all scope z (meaning all scope z)) e k

  child_tree : (t : Tree) (d : ℕ) (x : List Word) → AreSaid x → Child t d x → Means all scope t (meaning all scope t) → ((v : List ℕ) → shape all scope t ≡ bare v → ⊥) → ((y : List Word) → AreSaid y → Spells t d y → TreeAgain t d) → TreeAgain t d
  child_tree t d x r (inl m) k f h = in_braces t d x r m f h
  child_tree t d x r (inr (inl m)) k f h = h x r m.1
  child_tree t d x r (inr (inr m)) k f h = absurd (no_too_deep t k m.0)

  child_again : (t : Tree) (d : ℕ) (x : List Word) → AreSaid x → Child t d x → Means all scope t (meaning all scope t) → ((y : List Word) → AreSaid y → Spells t d y → TreeAgain t d)
      → Again (λ u. Child u d) (Like t) (child_text (shape all scope t) (text t))
  child_again t d x r m k h = by (shape all scope t) refl
    where
      by : (s : Shape) → shape all scope t ≡ s → Again (λ u. Child u d) (Like t) (child_text (shape all scope t) (text t))
      by (bare v) e = so_again (ap (λ s. child_text s (text t)) (sym e)) (child_given t d (printed.literal v) (bare_given t d v e))
      by element e = so_again (ap (λ s. child_text s (text t)) (sym e)) (child_element t d (shape_element all scope t e) (child_tree t d x r m k (λ v f. let g : element ≡ bare v = sym e ∙ f in cc) h))
      by other e = so_again (ap (λ s. child_text s (text t)) (sym e)) (child_given t d (braced (text t)) (braced_again t d (child_tree t d x r m k (λ v f. let g : other ≡ bare v = sym e ∙ f in cc) h)))

-- ---- elements

-- how an element ends, where the closing tag has these bytes
abbrev Ends : List ℕ → Trees → ℕ → Phrase
Ends tag children d x = ((children ≡ tree.no_trees) × sign SlashGreater x) ⊎ (sign Greater ▸ Children children d ▸ sign LessSlash ▸ one (is_plain tag) tt ▸ sign Greater) x

abbrev ElementOf : List ℕ → Placed → TreeProps → Trees → ℕ → Phrase
ElementOf tag named attrs children d = sign Less ▸ one plain_of named ▸ Attributes attrs d ▸ Ends tag children d

bytes_same : (a b : Placed) → unplaced a ≡ unplaced b → a.bytes ≡ b.bytes
bytes_same a b e = ap (λ z. z.bytes) e

element_made : (named : Placed) (attrs : TreeProps) (children : Trees) (d : ℕ) (s : List ℕ)
    → Again {A = Placed × (TreeProps × Trees)} (λ p. sign Less ▸ (one plain_of p.0 ▸ (Attributes p.1.0 d ▸ Ends named.bytes p.1.1 d))) (λ p. Named named p.0 × ((plain_props p.1.0 ≡ plain_props attrs) × (plain_each p.1.1 ≡ plain_each children))) s
    → Again (λ u. Spells u (suc d)) (Like (tree.element named attrs children)) s
element_made named attrs children d s x =
    made_again (λ u. Spells u (suc d)) (Like (tree.element named attrs children)) x (λ p. tree.element p.0 p.1.0 p.1.1) (λ p s. three tree.element s.0 s.1.0 s.1.1)
    (λ p w s m. subst (λ q. ElementOf q p.0 p.1.0 p.1.1 d w) (sym (bytes_same p.0 named s.0)) m)

-- an element without children, and with some
childless : (named : Placed) (attrs : TreeProps) (d : ℕ) (s : List ℕ) → Again (one plain_of) (Named named) (word named.bytes) → Again (λ a. Attributes a d) (λ a. plain_props a ≡ plain_props attrs) s
    → Again (λ u. Spells u (suc d)) (Like (tree.element named attrs tree.no_trees)) (word (codes "<") ++ (word named.bytes ++ (s ++ word (codes "/>"))))
childless named attrs d s name props =
    element_made named attrs tree.no_trees d _ (sign_before Less (then_again name (then_again props
    (made_again (λ c. Ends named.bytes c d) (λ c. plain_each c ≡ tree.no_trees) (sign_again SlashGreater) (λ b. tree.no_trees) (λ b s. refl) (λ b w s m. inl (refl, m))))))

with_children : (named : Placed) (attrs : TreeProps) (children : Trees) (d : ℕ) (s t : List ℕ) → Again (one plain_of) (Named named) (word named.bytes) → Takes plain_of named.bytes → Again (λ a. Attributes a d) (λ a. plain_props a ≡ plain_props attrs) s
    → Again (λ c. Children c d) (λ c. plain_each c ≡ plain_each children) t
    → Again (λ u. Spells u (suc d)) (Like (tree.element named attrs children)) (word (codes "<") ++ (word named.bytes ++ (s ++ (word (codes ">") ++ (t ++ (word (codes "</") ++ (word named.bytes ++ word (codes ">"))))))))
with_children named attrs children d s t name h props each =
    element_made named attrs children d _ (sign_before Less (then_again name (then_again props
    (made_again (λ c. Ends named.bytes c d) (λ c. plain_each c ≡ plain_each children) (sign_before Greater (then_again each (sign_before LessSlash (sign_behind Greater (closing_again named.bytes h))))) (λ p. p.0) (λ p s. s.0) (λ p w s m. inr m)))))

taken_plain : (named : Placed) (x : List Word) → AreSaid x → one plain_of named x → Takes plain_of named.bytes
taken_plain named x r o = plain_again o.0 named (subst AreSaid o.2 r).0 o.1

-- ---- lists

pub grouped : (a b c : List ℕ) → (a ++ b) ++ c ≡ a ++ (b ++ c)
grouped a b c = append_assoc a b c

grouped_three : (a b c d : List ℕ) → (a ++ (b ++ c)) ++ d ≡ a ++ (b ++ (c ++ d))
grouped_three a b c d = append_assoc a (b ++ c) d ∙ ap (λ z. a ++ z) (append_assoc b c d)

grouped_four : (a b c d e : List ℕ) → (a ++ (b ++ (c ++ d))) ++ e ≡ a ++ (b ++ (c ++ (d ++ e)))
grouped_four a b c d e = append_assoc a (b ++ (c ++ d)) e ∙ ap (λ z. a ++ z) (grouped_three b c d e)

pub grouped_five : (a b c d e f : List ℕ) → (a ++ (b ++ (c ++ (d ++ e)))) ++ f ≡ a ++ (b ++ (c ++ (d ++ (e ++ f))))
grouped_five a b c d e f = append_assoc a (b ++ (c ++ (d ++ e))) f ∙ ap (λ z. a ++ z) (grouped_four b c d e f)

grouped_six : (a b c d e f g : List ℕ) → (a ++ (b ++ (c ++ (d ++ (e ++ f))))) ++ g ≡ a ++ (b ++ (c ++ (d ++ (e ++ (f ++ g)))))
grouped_six a b c d e f g = append_assoc a (b ++ (c ++ (d ++ (e ++ f)))) g ∙ ap (λ z. a ++ z) (grouped_five b c d e f g)

-- one phrase behind two others, grouped otherwise
regrouped : {P Q R : Phrase} (x : List Word) → ((P ▸ Q) ▸ R) x → (P ▸ (Q ▸ R)) x
regrouped x m =
    let a = m.3 in
    (a.0, a.1 ++ m.1, m.2 ∙ (ap (λ z. z ++ m.1) a.2 ∙ append_assoc a.0 a.1 m.1), a.3, (a.1, m.1, refl, a.4, m.4))

-- the children where an element has some
ended : {R : Type 0} (t : Tree) (l : Trees) (d : ℕ) (tag : List ℕ) (x : List Word) → AreSaid x → Ends tag (tree.tree_and t l) d x → ((y : List Word) → AreSaid y → Children (tree.tree_and t l) d y → R) → R
ended t l d tag x r (inl m) h = let e = m.0 in absurd cc
ended t l d tag x r (inr m) h = let a = m.4 in h a.0 (left a.0 a.1 a.2 (right m.0 m.1 m.2 r)) a.3

mutual
  pub again : (all : List Declaration) (scope : List (List ℕ)) (t : Tree) (d : ℕ) (x : List Word) → AreSaid x → Spells t d x → Means all scope t (meaning all scope t) → TreeAgain all scope t d
  again all scope tree.too_deep zero x r m k = absurd k
  again all scope _ zero x r m k = absurd m
  again all scope tree.too_deep (suc d) x r m k = absurd m
  again all scope (tree.let_in n v b) (suc d) x r m k =
      let p = right m.0 m.1 m.2 r in
      let a = m.4.4.4 in
      let q = right m.4.4.0 m.4.4.1 m.4.4.2 (right m.4.0 m.4.1 m.4.2 p) in
      let name = taken lower_again n m.4.0 (left m.4.0 m.4.1 m.4.2 p) m.4.3 in
      let value = again all scope v d a.0 (left a.0 a.1 a.2 q) a.3 k.1 in
      let rest = again all (scope ++ n.bytes ∷ []) b d a.4.1 (right a.4.0 a.4.1 a.4.2 (right a.0 a.1 a.2 q)) a.4.4 k.2 in
      made_again (λ u. Spells u (suc d)) (Like (tree.let_in n v b)) (key_before Let (then_again name (sign_before Assign (then_again value (key_before In rest)))))
      (λ p. tree.let_in p.0 p.1.0 p.1.1) (λ p s. three tree.let_in s.0 s.1.0 s.1.1) (λ p w s y. y)
  again all scope (tree.if_else t y o) (suc d) x r m k =
      let a = m.4 in
      let q = right m.0 m.1 m.2 r in
      let b = a.4.4 in
      let p = right a.4.0 a.4.1 a.4.2 (right a.0 a.1 a.2 q) in
      let test = again all scope t d a.0 (left a.0 a.1 a.2 q) a.3 k.0 in
      let one_way = again all scope y d b.0 (left b.0 b.1 b.2 p) b.3 k.1 in
      let other_way = again all scope o d b.4.1 (right b.4.0 b.4.1 b.4.2 (right b.0 b.1 b.2 p)) b.4.4 k.2 in
      made_again (λ u. Spells u (suc d)) (Like (tree.if_else t y o)) (key_before If (then_again test (key_before Then (then_again one_way (key_before Else other_way)))))
      (λ p. tree.if_else p.0 p.1.0 p.1.1) (λ p s. three tree.if_else s.0 s.1.0 s.1.1) (λ p w s y. y)
  again all scope (tree.for_in n o g) (suc d) x r m k =
      let p = right m.0 m.1 m.2 r in
      let a = m.4.4.4 in
      let q = right m.4.4.0 m.4.4.1 m.4.4.2 (right m.4.0 m.4.1 m.4.2 p) in
      let name = taken lower_again n m.4.0 (left m.4.0 m.4.1 m.4.2 p) m.4.3 in
      let over = again all scope o d a.0 (left a.0 a.1 a.2 q) a.3 k.1 in
      let give = again all (scope ++ n.bytes ∷ []) g d a.4.1 (right a.4.0 a.4.1 a.4.2 (right a.0 a.1 a.2 q)) a.4.4 k.2 in
      made_again (λ u. Spells u (suc d)) (Like (tree.for_in n o g)) (key_before For (then_again name (key_before In (then_again over (key_before Give give)))))
      (λ p. tree.for_in p.0 p.1.0 p.1.1) (λ p s. three tree.for_in s.0 s.1.0 s.1.1) (λ p w s y. y)
  again all scope (tree.throw v) (suc d) x r m k =
      made_again (λ u. Spells u (suc d)) (Like (tree.throw v)) (key_before Throw (again all scope v d m.1 (right m.0 m.1 m.2 r) m.4 k)) (λ u. tree.throw u) (λ u s. ap tree.throw s) (λ u w s y. y)
  again all scope (tree.member of n) (suc d) x r m k =
      let a = m.2 in
      let q = right a.0 a.1 a.2 r in
      let name = taken name_again n a.4.1 (right a.4.0 a.4.1 a.4.2 q) a.4.4 in
      made_again (λ u. Spells u (suc d)) (Like (tree.member of n)) (then_again (again all scope of (suc d) a.0 (left a.0 a.1 a.2 r) a.3 k.1) (sign_before Dot name))
      (λ p. tree.member p.0 p.1) (λ p s. ap₂ tree.member s.0 s.1) (λ p w s y. (same_base of p.0 s.0 m.0, subst (λ z. z < most_postfixes) (sym (same_posts of p.0 s.0)) m.1, y))
  again all scope (tree.index of t) (suc d) x r m k =
      let a = m.2 in
      let b = a.4.4 in
      let q = right a.4.0 a.4.1 a.4.2 (right a.0 a.1 a.2 r) in
      made_again (λ u. Spells u (suc d)) (Like (tree.index of t))
      (then_again (again all scope of (suc d) a.0 (left a.0 a.1 a.2 r) a.3 k.0) (sign_before OpenBracket (sign_behind CloseBracket (again all scope t d b.0 (left b.0 b.1 b.2 q) b.3 k.1))))
      (λ p. tree.index p.0 p.1) (λ p s. ap₂ tree.index s.0 s.1) (λ p w s y. (same_base of p.0 s.0 m.0, subst (λ z. z < most_postfixes) (sym (same_posts of p.0 s.0)) m.1, y))
  again all scope (tree.too_many of) (suc d) x r m k = absurd k
  again all scope (tree.atom v) (suc d) x r m k = made_again (λ u. Spells u (suc d)) (Like (tree.atom v)) (atom_again v x r m) (λ b. tree.atom v) (λ b s. refl) (λ b w s y. y)
  again all scope (tree.variable n) (suc d) x r m k =
      made_again (λ u. Spells u (suc d)) (Like (tree.variable n)) (so_again (ap word (sym (ap (λ o. unwrap_or o []) k.here))) (taken lower_again n x r m)) (λ n. tree.variable n) (λ n s. ap tree.variable s) (λ n w s y. y)
  again all scope (tree.client n) (suc d) x r m k =
      made_again (λ u. Spells u (suc d)) (Like (tree.client n)) (so_again (ap word (sym (client_name all n.bytes (given (client_number all n.bytes)) k))) (taken upper_again n x r m)) (λ n. tree.client n) (λ n s. ap tree.client s) (λ n w s y. y)
  again all scope (tree.array l) (suc d) x r m k =
      let a = m.4 in
      made_again (λ u. Spells u (suc d)) (Like (tree.array l)) (sign_before OpenBracket (sign_behind CloseBracket (each_again all scope l d a.0 (left a.0 a.1 a.2 (right m.0 m.1 m.2 r)) a.3 k))) (λ l. tree.array l) (λ l s. ap tree.array s) (λ l w s y. y)
  again all scope (tree.object l) (suc d) x r m k =
      let a = m.4 in
      made_again (λ u. Spells u (suc d)) (Like (tree.object l)) (sign_before OpenBrace (sign_behind CloseBrace (props_again all scope l d a.0 (left a.0 a.1 a.2 (right m.0 m.1 m.2 r)) a.3 k))) (λ l. tree.object l) (λ l s. ap tree.object s) (λ l w s y. y)
  again all scope (tree.map l) (suc d) x r m k =
      let a = m.4.4 in
      let q = right m.4.0 m.4.1 m.4.2 (right m.0 m.1 m.2 r) in
      made_again (λ u. Spells u (suc d)) (Like (tree.map l)) (key_before Map (sign_before OpenBracket (sign_behind CloseBracket (pairs_again all scope l d a.0 (left a.0 a.1 a.2 q) a.3 k)))) (λ l. tree.map l) (λ l s. ap tree.map s) (λ l w s y. y)
  again all scope (tree.set l) (suc d) x r m k =
      let a = m.4.4 in
      let q = right m.4.0 m.4.1 m.4.2 (right m.0 m.1 m.2 r) in
      made_again (λ u. Spells u (suc d)) (Like (tree.set l)) (key_before Set (sign_before OpenBracket (sign_behind CloseBracket (each_again all scope l d a.0 (left a.0 a.1 a.2 q) a.3 k)))) (λ l. tree.set l) (λ l s. ap tree.set s) (λ l w s y. y)
  again all scope (tree.source n) (suc d) x r m k =
      made_again (λ u. Spells u (suc d)) (Like (tree.source n)) (key_before Use (taken plain_again n m.1 (right m.0 m.1 m.2 r) m.4)) (λ n. tree.source n) (λ n s. ap tree.source s) (λ n w s y. y)
  again all scope (tree.promise n) (suc d) x r m k =
      made_again (λ u. Spells u (suc d)) (Like (tree.promise n)) (key_before Promise (taken plain_again n m.1 (right m.0 m.1 m.2 r) m.4)) (λ n. tree.promise n) (λ n s. ap tree.promise s) (λ n w s y. y)
  again all scope (tree.stream n) (suc d) x r m k =
      made_again (λ u. Spells u (suc d)) (Like (tree.stream n)) (key_before Stream (taken plain_again n m.1 (right m.0 m.1 m.2 r) m.4)) (λ n. tree.stream n) (λ n s. ap tree.stream s) (λ n w s y. y)
  again all scope (tree.action n) (suc d) x r m k =
      made_again (λ u. Spells u (suc d)) (Like (tree.action n))
      (key_before Action (so_again (ap word (sym (action_name all n.bytes (given (action_number all n.bytes)) k))) (taken lower_again n m.1 (right m.0 m.1 m.2 r) m.4))) (λ n. tree.action n) (λ n s. ap tree.action s) (λ n w s y. y)
  again all scope (tree.action_with n l) (suc d) x r m k =
      let q = right m.0 m.1 m.2 r in
      let p = right m.4.0 m.4.1 m.4.2 q in
      let b = m.4.4.4.4 in
      let o = right m.4.4.4.0 m.4.4.4.1 m.4.4.4.2 (right m.4.4.0 m.4.4.1 m.4.4.2 p) in
      let name = so_again (ap word (sym (action_name all n.bytes (given (action_number all n.bytes)) k.0))) (taken lower_again n m.4.0 (left m.4.0 m.4.1 m.4.2 q) m.4.3) in
      made_again (λ u. Spells u (suc d)) (Like (tree.action_with n l)) (key_before Action (then_again name (key_before With (sign_before OpenBracket (sign_behind CloseBracket (each_again all scope l d b.0 (left b.0 b.1 b.2 o) b.3 k.1))))))
      (λ p. tree.action_with p.0 p.1) (λ p s. ap₂ tree.action_with s.0 s.1) (λ p w s y. y)
  again all scope (tree.paren t) (suc d) x r m k =
      let a = m.4 in
      made_again (λ u. Spells u (suc d)) (Like (tree.paren t)) (sign_before OpenParen (sign_behind CloseParen (again all scope t d a.0 (left a.0 a.1 a.2 (right m.0 m.1 m.2 r)) a.3 k))) (λ t. tree.paren t) (λ t s. ap tree.paren s) (λ t w s y. y)
  again all scope (tree.binary o l g) (suc d) x r m k =
      let a = m.4 in
      let q = right m.0 m.1 m.2 r in
      let b = a.4.4 in
      let p = right a.4.0 a.4.1 a.4.2 (right a.0 a.1 a.2 q) in
      made_again (λ u. Spells u (suc d)) (Like (tree.binary o l g))
      (sign_before OpenParen (then_again (again all scope l d a.0 (left a.0 a.1 a.2 q) a.3 k.1) (then_again (op_again o) (sign_behind CloseParen (again all scope g d b.0 (left b.0 b.1 b.2 p) b.3 k.2)))))
      (λ p. tree.binary o p.0 p.1.1) (λ p s. ap₂ (tree.binary o) s.0 s.1.1) (λ p w s y. y)
  again all scope (tree.element n a tree.no_trees) (suc d) x r m k =
      let q = right m.0 m.1 m.2 r in
      let p = right m.4.0 m.4.1 m.4.2 q in
      let b = m.4.4 in
      let name = taken plain_again n m.4.0 (left m.4.0 m.4.1 m.4.2 q) m.4.3 in
      let attrs = attrs_again all scope a d b.0 (left b.0 b.1 b.2 p) b.3 k.1 in
      so_again (ap (λ z. word (codes "<") ++ (word z ++ (attrs_text (names_of all) scope (meaning_props all scope a) ++ word (codes "/>")))) (sym (tag_named all n.bytes (given_tag (tag_of all n.bytes)) k.0))) (childless n a d _ name attrs)
  again all scope (tree.element n a (tree.tree_and t l)) (suc d) x r m k =
      let q = right m.0 m.1 m.2 r in
      let p = right m.4.0 m.4.1 m.4.2 q in
      let b = m.4.4 in
      let h = taken_plain n m.4.0 (left m.4.0 m.4.1 m.4.2 q) m.4.3 in
      let attrs = attrs_again all scope a d b.0 (left b.0 b.1 b.2 p) b.3 k.1 in
      let children = ended t l d n.bytes b.1 (right b.0 b.1 b.2 p) b.4 (λ y s n. children_again all scope (tree.tree_and t l) d y s n k.2) in
      let text = children_text (names_of all) scope (meanings all scope (tree.tree_and t l)) in
      so_again (ap (λ z. word (codes "<") ++ (word z ++ (attrs_text (names_of all) scope (meaning_props all scope a) ++ (word (codes ">") ++ (text ++ (word (codes "</") ++ (word z ++ word (codes ">")))))))) (sym (tag_named all n.bytes (given_tag (tag_of all n.bytes)) k.0)))
      (with_children n a (tree.tree_and t l) d _ text (named_again plain_of n h) h attrs children)

  each_again : (all : List Declaration) (scope : List (List ℕ)) (l : Trees) (d : ℕ) (x : List Word) → AreSaid x → Listed l d x → MeansEach all scope l (meanings all scope l) → Again (λ k. Listed k d) (λ k. plain_each k ≡ plain_each l) (terms_text (names_of all) scope false (meanings all scope l))
  each_again all scope tree.no_trees d x r m k = made_again (λ k. Listed k d) (λ k. plain_each k ≡ tree.no_trees) nothing_again (λ b. tree.no_trees) (λ b s. refl) (λ b w s y. y)
  each_again all scope (tree.tree_and t l) d x r m k =
      made_again (λ k. Listed k d) (λ k. plain_each k ≡ plain_each (tree.tree_and t l)) (then_again (again all scope t d m.0 (left m.0 m.1 m.2 r) m.3 k.0) (more_again all scope l d m.1 (right m.0 m.1 m.2 r) m.4 k.1))
      (λ p. tree.tree_and p.0 p.1) (λ p s. ap₂ tree.tree_and s.0 s.1) (λ p w s y. y)

  more_again : (all : List Declaration) (scope : List (List ℕ)) (l : Trees) (d : ℕ) (x : List Word) → AreSaid x → MoreListed l d x → MeansEach all scope l (meanings all scope l) → Again (λ k. MoreListed k d) (λ k. plain_each k ≡ plain_each l) (terms_text (names_of all) scope true (meanings all scope l))
  more_again all scope tree.no_trees d x r m k = made_again (λ k. MoreListed k d) (λ k. plain_each k ≡ tree.no_trees) nothing_again (λ b. tree.no_trees) (λ b s. refl) (λ b w s y. y)
  more_again all scope (tree.tree_and t l) d x r m k =
      let a = m.3 in
      let q = left m.0 m.1 m.2 r in
      so_again (grouped (word (codes ",")) (term_text (names_of all) scope (meaning all scope t)) (terms_text (names_of all) scope true (meanings all scope l)))
      (made_again (λ k. MoreListed k d) (λ k. plain_each k ≡ plain_each (tree.tree_and t l))
      (then_again (sign_before Comma (again all scope t d a.1 (right a.0 a.1 a.2 q) a.4 k.0)) (more_again all scope l d m.1 (right m.0 m.1 m.2 r) m.4 k.1))
      (λ p. tree.tree_and p.0 p.1) (λ p s. ap₂ tree.tree_and s.0 s.1) (λ p w s y. y))

  props_again : (all : List Declaration) (scope : List (List ℕ)) (l : TreeProps) (d : ℕ) (x : List Word) → AreSaid x → Properties l d x → MeansProps all scope l (meaning_props all scope l)
      → Again (λ k. Properties k d) (λ k. plain_props k ≡ plain_props l) (props_text (names_of all) scope false (meaning_props all scope l))
  props_again all scope tree.no_props d x r m k = made_again (λ k. Properties k d) (λ k. plain_props k ≡ tree.no_props) nothing_again (λ b. tree.no_props) (λ b s. refl) (λ b w s y. y)
  props_again all scope (tree.prop_and n t l) d x r m k =
      let a = m.3.4 in
      let q = right m.3.0 m.3.1 m.3.2 (left m.0 m.1 m.2 r) in
      so_again (grouped_three (printed.literal n.bytes) (word (codes ":")) (term_text (names_of all) scope (meaning all scope t)) (props_text (names_of all) scope true (meaning_props all scope l)))
      (made_again (λ k. Properties k d) (λ k. plain_props k ≡ plain_props (tree.prop_and n t l))
      (then_again (then_again (property_again n) (sign_before Colon (again all scope t d a.1 (right a.0 a.1 a.2 q) a.4 k.1))) (more_props_again all scope l d m.1 (right m.0 m.1 m.2 r) m.4 k.2))
      (λ p. tree.prop_and p.0.0 p.0.1 p.1) (λ p s. three tree.prop_and s.0.0 s.0.1 s.1) (λ p w s y. y))

  more_props_again : (all : List Declaration) (scope : List (List ℕ)) (l : TreeProps) (d : ℕ) (x : List Word) → AreSaid x → MoreProperties l d x → MeansProps all scope l (meaning_props all scope l)
      → Again (λ k. MoreProperties k d) (λ k. plain_props k ≡ plain_props l) (props_text (names_of all) scope true (meaning_props all scope l))
  more_props_again all scope tree.no_props d x r m k = made_again (λ k. MoreProperties k d) (λ k. plain_props k ≡ tree.no_props) nothing_again (λ b. tree.no_props) (λ b s. refl) (λ b w s y. y)
  more_props_again all scope (tree.prop_and n t l) d x r m k =
      let c = m.3.4 in
      let p = right m.3.0 m.3.1 m.3.2 (left m.0 m.1 m.2 r) in
      let a = c.4 in
      let q = right c.0 c.1 c.2 p in
      so_again (grouped_four (word (codes ",")) (printed.literal n.bytes) (word (codes ":")) (term_text (names_of all) scope (meaning all scope t)) (props_text (names_of all) scope true (meaning_props all scope l)))
      (made_again (λ k. MoreProperties k d) (λ k. plain_props k ≡ plain_props (tree.prop_and n t l))
      (then_again (sign_before Comma (then_again (property_again n) (sign_before Colon (again all scope t d a.1 (right a.0 a.1 a.2 q) a.4 k.1)))) (more_props_again all scope l d m.1 (right m.0 m.1 m.2 r) m.4 k.2))
      (λ p. tree.prop_and p.0.0 p.0.1 p.1) (λ p s. three tree.prop_and s.0.0 s.0.1 s.1) (λ p w s y. y))

  pairs_again : (all : List Declaration) (scope : List (List ℕ)) (l : TreePairs) (d : ℕ) (x : List Word) → AreSaid x → Entries l d x → MeansPairs all scope l (meaning_pairs all scope l)
      → Again (λ k. Entries k d) (λ k. plain_pairs k ≡ plain_pairs l) (pairs_text (names_of all) scope false (meaning_pairs all scope l))
  pairs_again all scope tree.no_pairs d x r m k = made_again (λ k. Entries k d) (λ k. plain_pairs k ≡ tree.no_pairs) nothing_again (λ b. tree.no_pairs) (λ b s. refl) (λ b w s y. y)
  pairs_again all scope (tree.pair_and e t l) d x r m k =
      let a = m.3.4 in
      let q = right m.3.0 m.3.1 m.3.2 (left m.0 m.1 m.2 r) in
      let b = a.4.4 in
      let p = right a.4.0 a.4.1 a.4.2 (right a.0 a.1 a.2 q) in
      so_again (grouped_five (word (codes "[")) (term_text (names_of all) scope (meaning all scope e)) (word (codes ",")) (term_text (names_of all) scope (meaning all scope t)) (word (codes "]")) (pairs_text (names_of all) scope true (meaning_pairs all scope l)))
      (made_again (λ k. Entries k d) (λ k. plain_pairs k ≡ plain_pairs (tree.pair_and e t l))
      (then_again (sign_before OpenBracket (then_again (again all scope e d a.0 (left a.0 a.1 a.2 q) a.3 k.0) (sign_before Comma (sign_behind CloseBracket (again all scope t d b.0 (left b.0 b.1 b.2 p) b.3 k.1)))))
      (more_pairs_again all scope l d m.1 (right m.0 m.1 m.2 r) m.4 k.2))
      (λ p. tree.pair_and p.0.0 p.0.1 p.1) (λ p s. three tree.pair_and s.0.0 s.0.1 s.1) (λ p w s y. y))

  more_pairs_again : (all : List Declaration) (scope : List (List ℕ)) (l : TreePairs) (d : ℕ) (x : List Word) → AreSaid x → MoreEntries l d x → MeansPairs all scope l (meaning_pairs all scope l)
      → Again (λ k. MoreEntries k d) (λ k. plain_pairs k ≡ plain_pairs l) (pairs_text (names_of all) scope true (meaning_pairs all scope l))
  more_pairs_again all scope tree.no_pairs d x r m k = made_again (λ k. MoreEntries k d) (λ k. plain_pairs k ≡ tree.no_pairs) nothing_again (λ b. tree.no_pairs) (λ b s. refl) (λ b w s y. y)
  more_pairs_again all scope (tree.pair_and e t l) d x r m k =
      let a = m.3.4.4 in
      let q = right m.3.4.0 m.3.4.1 m.3.4.2 (right m.3.0 m.3.1 m.3.2 (left m.0 m.1 m.2 r)) in
      let b = a.4.4 in
      let p = right a.4.0 a.4.1 a.4.2 (right a.0 a.1 a.2 q) in
      so_again (grouped_six (word (codes ",")) (word (codes "[")) (term_text (names_of all) scope (meaning all scope e)) (word (codes ",")) (term_text (names_of all) scope (meaning all scope t)) (word (codes "]")) (pairs_text (names_of all) scope true (meaning_pairs all scope l)))
      (made_again (λ k. MoreEntries k d) (λ k. plain_pairs k ≡ plain_pairs (tree.pair_and e t l))
      (then_again (sign_before Comma (sign_before OpenBracket (then_again (again all scope e d a.0 (left a.0 a.1 a.2 q) a.3 k.0) (sign_before Comma (sign_behind CloseBracket (again all scope t d b.0 (left b.0 b.1 b.2 p) b.3 k.1))))))
      (more_pairs_again all scope l d m.1 (right m.0 m.1 m.2 r) m.4 k.2))
      (λ p. tree.pair_and p.0.0 p.0.1 p.1) (λ p s. three tree.pair_and s.0.0 s.0.1 s.1) (λ p w s y. y))

  attrs_again : (all : List Declaration) (scope : List (List ℕ)) (l : TreeProps) (d : ℕ) (x : List Word) → AreSaid x → Attributes l d x → MeansProps all scope l (meaning_props all scope l)
      → Again (λ k. Attributes k d) (λ k. plain_props k ≡ plain_props l) (attrs_text (names_of all) scope (meaning_props all scope l))
  attrs_again all scope tree.no_props d x r m k = made_again (λ k. Attributes k d) (λ k. plain_props k ≡ tree.no_props) nothing_again (λ b. tree.no_props) (λ b s. refl) (λ b w s y. y)
  attrs_again all scope (tree.prop_and n t l) d x r m k =
      let c = m.3 in
      let q = left m.0 m.1 m.2 r in
      let a = c.4 in
      let value = given_again all scope t d a.1 (right a.0 a.1 a.2 (right c.0 c.1 c.2 q)) a.4 (λ y s n. again all scope t d y s n k.1) in
      let text = given_text (shape all scope t) (term_text (names_of all) scope (meaning all scope t)) in
      so_again (append_assoc (n.bytes ++ word (codes "=")) text _ ∙ (append_assoc n.bytes (word (codes "=")) (text ++ attrs_text (names_of all) scope (meaning_props all scope l))))
      (made_again (λ k. Attributes k d) (λ k. plain_props k ≡ plain_props (tree.prop_and n t l))
      (then_again (then_again (attribute_again n c.0 (left c.0 c.1 c.2 q) c.3) value) (attrs_again all scope l d m.1 (right m.0 m.1 m.2 r) m.4 k.2))
      (λ p. tree.prop_and p.0.0 p.0.1 p.1) (λ p s. three tree.prop_and s.0.0 s.0.1 s.1) (λ p w s y. (y.0, y.1, y.2, regrouped y.0 y.3, y.4)))

  children_again : (all : List Declaration) (scope : List (List ℕ)) (l : Trees) (d : ℕ) (x : List Word) → AreSaid x → Children l d x → MeansEach all scope l (meanings all scope l)
      → Again (λ k. Children k d) (λ k. plain_each k ≡ plain_each l) (children_text (names_of all) scope (meanings all scope l))
  children_again all scope tree.no_trees d x r m k = made_again (λ k. Children k d) (λ k. plain_each k ≡ tree.no_trees) nothing_again (λ b. tree.no_trees) (λ b s. refl) (λ b w s y. y)
  children_again all scope (tree.tree_and t l) d x r m k =
      made_again (λ k. Children k d) (λ k. plain_each k ≡ plain_each (tree.tree_and t l))
      (then_again (child_again all scope t d m.0 (left m.0 m.1 m.2 r) m.3 k.0 (λ y s n. again all scope t d y s n k.0)) (children_again all scope l d m.1 (right m.0 m.1 m.2 r) m.4 k.1))
      (λ p. tree.tree_and p.0 p.1) (λ p s. ap₂ tree.tree_and s.0 s.1) (λ p w s y. y)
