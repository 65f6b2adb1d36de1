-- What the words of a text spell has nothing that is too deep.
use Rattle.std.proofs.Common.{◌≡◌, ℕ, zero, suc, ◌⊎◌, inl, inr, List, [], ◌∷◌, ◌++◌, Some, sym, subst}
use Rattle.flight_value.specs.declared.graph.Atom.TheVariants as value
use Rattle.flight_syntax.specs.declared.token.Token.{Token}
use Rattle.flight_syntax.specs.declared.word.Punctuator.TheVariants.{Dot, OpenBracket, OpenBrace, CloseBrace, Less, Greater, LessSlash, SlashGreater}
use Rattle.flight_syntax.specs.Lexicon.{Word, Placed, Phrase, ◌▸◌, one, sign, is_plain, deep, AreReal, IsReal, is_deep, words_of}
use Rattle.flight_syntax.specs.Tree as tree
use Rattle.flight_syntax.specs.Tree.{Tree, Trees, TreeProps, TreePairs, Declaration, IsElement}
use Rattle.flight_syntax.specs.Grammar.{Bare, Beyond, Spells, Listed, MoreListed, Properties, MoreProperties, Entries, MoreEntries, Attributes, Children, DeclaresTo, DeclaresAllTo}
use Rattle.flight_syntax.proofs.RealWords.{real_words}
use Rattle.flight_syntax.proofs.Known.{IsWhole, AreWhole, ArePropsWhole, ArePairsWhole}

front_real : (y z : List Word) → AreReal (y ++ z) → AreReal y
front_real [] z h = tt
front_real (w ∷ y) z h = (h.0, front_real y z h.1)

rest_real : (y z : List Word) → AreReal (y ++ z) → AreReal z
rest_real [] z h = h
rest_real (w ∷ y) z h = rest_real y z h.1

pub left : {x : List Word} (y z : List Word) → x ≡ y ++ z → AreReal x → AreReal y
left {x} y z e r = front_real y z (subst AreReal e r)

pub right : {x : List Word} (y z : List Word) → x ≡ y ++ z → AreReal x → AreReal z
right {x} y z e r = rest_real y z (subst AreReal e r)

not_deep : (w : Word) → is_deep w ≡ Some tt → IsReal w → ⊥
not_deep deep e r = r
not_deep _ e r = absurd cc

no_beyond : (x : List Word) → AreReal x → Beyond Dot x ⊎ Beyond OpenBracket x → ⊥
no_beyond x r (inl e) = (subst AreReal e r).0
no_beyond x r (inr e) = (subst AreReal e r).0

abbrev Given : Tree → ℕ → Phrase
Given t d x = Bare t x ⊎ (sign OpenBrace ▸ Spells t d ▸ sign CloseBrace) x

abbrev Child : Tree → ℕ → Phrase
Child t d x = Given t d x ⊎ ((IsElement t × Spells t d x) ⊎ ((t ≡ tree.too_deep) × Beyond Less x))

abbrev Ends : Trees → ℕ → Placed → Phrase
Ends children d tag x = ((children ≡ tree.no_trees) × sign SlashGreater x) ⊎ (sign Greater ▸ Children children d ▸ sign LessSlash ▸ one (is_plain tag.bytes) tt ▸ sign Greater) x

bare_whole : (t : Tree) (text : Placed) → tree.atom (value.Text text.bytes) ≡ t → IsWhole t
bare_whole t text e = subst IsWhole e tt

given_whole : (t : Tree) (d : ℕ) (x : List Word) → AreReal x → Given t d x → ((x : List Word) → AreReal x → Spells t d x → IsWhole t) → IsWhole t
given_whole t d x r (inl m) h = bare_whole t m.0 m.1
given_whole t d x r (inr m) h = let a = m.4 in h a.0 (left a.0 a.1 a.2 (right m.0 m.1 m.2 r)) a.3

child_whole : (t : Tree) (d : ℕ) (x : List Word) → AreReal x → Child t d x → ((x : List Word) → AreReal x → Spells t d x → IsWhole t) → IsWhole t
child_whole t d x r (inl m) h = given_whole t d x r m h
child_whole t d x r (inr (inl m)) h = h x r m.1
child_whole t d x r (inr (inr m)) h = absurd (subst AreReal m.1 r).0

ends_whole : (l : Trees) (d : ℕ) (n : Placed) (x : List Word) → AreReal x → Ends l d n x → ((x : List Word) → AreReal x → Children l d x → AreWhole l) → AreWhole l
ends_whole l d n x r (inl m) h = subst AreWhole (sym m.0) tt
ends_whole l d n x r (inr m) h = let a = m.4 in h a.0 (left a.0 a.1 a.2 (right m.0 m.1 m.2 r)) a.3

mutual
  pub whole : (t : Tree) (d : ℕ) (x : List Word) → AreReal x → Spells t d x → IsWhole t
  whole tree.too_deep zero x r m = not_deep m.0 m.1 (subst AreReal m.2 r).0
  whole _ zero x r m = absurd m
  whole tree.too_deep (suc d) x r m = absurd m
  whole (tree.let_in n v b) (suc d) x r m =
      let a = m.4.4.4 in let q = right m.4.4.0 m.4.4.1 m.4.4.2 (right m.4.0 m.4.1 m.4.2 (right m.0 m.1 m.2 r)) in (whole v d a.0 (left a.0 a.1 a.2 q) a.3, whole b d a.4.1 (right a.4.0 a.4.1 a.4.2 (right a.0 a.1 a.2 q)) a.4.4)
  whole (tree.if_else t y o) (suc d) x r m =
      let a = m.4 in
      let q = right m.0 m.1 m.2 r in
      let b = a.4.4 in
      let p = right a.4.0 a.4.1 a.4.2 (right a.0 a.1 a.2 q) in
      (whole t d a.0 (left a.0 a.1 a.2 q) a.3, whole y d b.0 (left b.0 b.1 b.2 p) b.3, whole o d b.4.1 (right b.4.0 b.4.1 b.4.2 (right b.0 b.1 b.2 p)) b.4.4)
  whole (tree.for_in n o g) (suc d) x r m =
      let a = m.4.4.4 in let q = right m.4.4.0 m.4.4.1 m.4.4.2 (right m.4.0 m.4.1 m.4.2 (right m.0 m.1 m.2 r)) in (whole o d a.0 (left a.0 a.1 a.2 q) a.3, whole g d a.4.1 (right a.4.0 a.4.1 a.4.2 (right a.0 a.1 a.2 q)) a.4.4)
  whole (tree.throw v) (suc d) x r m = whole v d m.1 (right m.0 m.1 m.2 r) m.4
  whole (tree.member of n) (suc d) x r m = let a = m.2 in whole of (suc d) a.0 (left a.0 a.1 a.2 r) a.3
  whole (tree.index of t) (suc d) x r m =
      let a = m.2 in let b = a.4.4 in let q = right a.4.0 a.4.1 a.4.2 (right a.0 a.1 a.2 r) in (whole of (suc d) a.0 (left a.0 a.1 a.2 r) a.3, whole t d b.0 (left b.0 b.1 b.2 q) b.3)
  whole (tree.too_many of) (suc d) x r m = no_beyond m.1.1 (right m.1.0 m.1.1 m.1.2 r) m.1.4
  whole (tree.atom v) (suc d) x r m = tt
  whole (tree.variable n) (suc d) x r m = tt
  whole (tree.client n) (suc d) x r m = tt
  whole (tree.array l) (suc d) x r m = let a = m.4 in all_whole l d a.0 (left a.0 a.1 a.2 (right m.0 m.1 m.2 r)) a.3
  whole (tree.object l) (suc d) x r m = let a = m.4 in props_whole l d a.0 (left a.0 a.1 a.2 (right m.0 m.1 m.2 r)) a.3
  whole (tree.map l) (suc d) x r m = let a = m.4.4 in pairs_whole l d a.0 (left a.0 a.1 a.2 (right m.4.0 m.4.1 m.4.2 (right m.0 m.1 m.2 r))) a.3
  whole (tree.set l) (suc d) x r m = let a = m.4.4 in all_whole l d a.0 (left a.0 a.1 a.2 (right m.4.0 m.4.1 m.4.2 (right m.0 m.1 m.2 r))) a.3
  whole (tree.source n) (suc d) x r m = tt
  whole (tree.promise n) (suc d) x r m = tt
  whole (tree.stream n) (suc d) x r m = tt
  whole (tree.action n) (suc d) x r m = tt
  whole (tree.action_with n l) (suc d) x r m =
      let b = m.4.4.4 in let a = b.4 in all_whole l d a.0 (left a.0 a.1 a.2 (right b.0 b.1 b.2 (right m.4.4.0 m.4.4.1 m.4.4.2 (right m.4.0 m.4.1 m.4.2 (right m.0 m.1 m.2 r))))) a.3
  whole (tree.paren t) (suc d) x r m = let a = m.4 in whole t d a.0 (left a.0 a.1 a.2 (right m.0 m.1 m.2 r)) a.3
  whole (tree.binary o l k) (suc d) x r m =
      let a = m.4 in let q = right m.0 m.1 m.2 r in let b = a.4.4 in let p = right a.4.0 a.4.1 a.4.2 (right a.0 a.1 a.2 q) in (whole l d a.0 (left a.0 a.1 a.2 q) a.3, whole k d b.0 (left b.0 b.1 b.2 p) b.3)
  whole (tree.element n a c) (suc d) x r m =
      let b = m.4.4 in
      let q = right m.4.0 m.4.1 m.4.2 (right m.0 m.1 m.2 r) in
      (attrs_whole a d b.0 (left b.0 b.1 b.2 q) b.3, ends_whole c d n b.1 (right b.0 b.1 b.2 q) b.4 (λ y k o. children_whole c d y k o))

  all_whole : (l : Trees) (d : ℕ) (x : List Word) → AreReal x → Listed l d x → AreWhole l
  all_whole tree.no_trees d x r m = tt
  all_whole (tree.tree_and t l) d x r m = (whole t d m.0 (left m.0 m.1 m.2 r) m.3, more_whole l d m.1 (right m.0 m.1 m.2 r) m.4)

  more_whole : (l : Trees) (d : ℕ) (x : List Word) → AreReal x → MoreListed l d x → AreWhole l
  more_whole tree.no_trees d x r m = tt
  more_whole (tree.tree_and t l) d x r m = let a = m.3 in (whole t d a.1 (right a.0 a.1 a.2 (left m.0 m.1 m.2 r)) a.4, more_whole l d m.1 (right m.0 m.1 m.2 r) m.4)

  props_whole : (l : TreeProps) (d : ℕ) (x : List Word) → AreReal x → Properties l d x → ArePropsWhole l
  props_whole tree.no_props d x r m = tt
  props_whole (tree.prop_and n t l) d x r m = let a = m.3.4 in (whole t d a.1 (right a.0 a.1 a.2 (right m.3.0 m.3.1 m.3.2 (left m.0 m.1 m.2 r))) a.4, more_props l d m.1 (right m.0 m.1 m.2 r) m.4)

  more_props : (l : TreeProps) (d : ℕ) (x : List Word) → AreReal x → MoreProperties l d x → ArePropsWhole l
  more_props tree.no_props d x r m = tt
  more_props (tree.prop_and n t l) d x r m = let a = m.3.4.4 in (whole t d a.1 (right a.0 a.1 a.2 (right m.3.4.0 m.3.4.1 m.3.4.2 (right m.3.0 m.3.1 m.3.2 (left m.0 m.1 m.2 r)))) a.4, more_props l d m.1 (right m.0 m.1 m.2 r) m.4)

  pairs_whole : (l : TreePairs) (d : ℕ) (x : List Word) → AreReal x → Entries l d x → ArePairsWhole l
  pairs_whole tree.no_pairs d x r m = tt
  pairs_whole (tree.pair_and k t l) d x r m =
      let a = m.3.4 in
      let q = right m.3.0 m.3.1 m.3.2 (left m.0 m.1 m.2 r) in
      let b = a.4.4 in
      (whole k d a.0 (left a.0 a.1 a.2 q) a.3, whole t d b.0 (left b.0 b.1 b.2 (right a.4.0 a.4.1 a.4.2 (right a.0 a.1 a.2 q))) b.3, more_pairs l d m.1 (right m.0 m.1 m.2 r) m.4)

  more_pairs : (l : TreePairs) (d : ℕ) (x : List Word) → AreReal x → MoreEntries l d x → ArePairsWhole l
  more_pairs tree.no_pairs d x r m = tt
  more_pairs (tree.pair_and k t l) d x r m =
      let a = m.3.4.4 in
      let q = right m.3.4.0 m.3.4.1 m.3.4.2 (right m.3.0 m.3.1 m.3.2 (left m.0 m.1 m.2 r)) in
      let b = a.4.4 in
      (whole k d a.0 (left a.0 a.1 a.2 q) a.3, whole t d b.0 (left b.0 b.1 b.2 (right a.4.0 a.4.1 a.4.2 (right a.0 a.1 a.2 q))) b.3, more_pairs l d m.1 (right m.0 m.1 m.2 r) m.4)

  attrs_whole : (l : TreeProps) (d : ℕ) (x : List Word) → AreReal x → Attributes l d x → ArePropsWhole l
  attrs_whole tree.no_props d x r m = tt
  attrs_whole (tree.prop_and n t l) d x r m = let a = m.3.4 in (given_whole t d a.1 (right a.0 a.1 a.2 (right m.3.0 m.3.1 m.3.2 (left m.0 m.1 m.2 r))) a.4 (λ y k n. whole t d y k n), attrs_whole l d m.1 (right m.0 m.1 m.2 r) m.4)

  children_whole : (l : Trees) (d : ℕ) (x : List Word) → AreReal x → Children l d x → AreWhole l
  children_whole tree.no_trees d x r m = tt
  children_whole (tree.tree_and t l) d x r m = (child_whole t d m.0 (left m.0 m.1 m.2 r) m.3 (λ y k n. whole t d y k n), children_whole l d m.1 (right m.0 m.1 m.2 r) m.4)

-- ---- programs

abbrev pub IsBodyWhole : Declaration → Type 0
IsBodyWhole (tree.server n ps b) = IsWhole b
IsBodyWhole (tree.action_is n ps b) = IsWhole b
IsBodyWhole (tree.client_is n j) = Unit {0}

abbrev pub AreBodiesWhole : List Declaration → Type 0
AreBodiesWhole [] = Unit {0}
AreBodiesWhole (d ∷ all) = IsBodyWhole d × AreBodiesWhole all

body_whole : (levels : ℕ) (a : Declaration) (x : List Word) → AreReal x → DeclaresTo levels a x → IsBodyWhole a
body_whole levels (tree.server n ps b) x r m =
    let c = m.4.4.4.4.4 in let a = c.4 in whole b levels a.0 (left a.0 a.1 a.2 (right c.0 c.1 c.2 (right m.4.4.4.4.0 m.4.4.4.4.1 m.4.4.4.4.2 (right m.4.4.4.0 m.4.4.4.1 m.4.4.4.2 (right m.4.4.0 m.4.4.1 m.4.4.2 (right m.4.0 m.4.1 m.4.2 (right m.0 m.1 m.2 r))))))) a.3
body_whole levels (tree.action_is n ps b) x r m =
    let c = m.4.4.4.4.4 in let a = c.4 in whole b levels a.0 (left a.0 a.1 a.2 (right c.0 c.1 c.2 (right m.4.4.4.4.0 m.4.4.4.4.1 m.4.4.4.4.2 (right m.4.4.4.0 m.4.4.4.1 m.4.4.4.2 (right m.4.4.0 m.4.4.1 m.4.4.2 (right m.4.0 m.4.1 m.4.2 (right m.0 m.1 m.2 r))))))) a.3
body_whole levels (tree.client_is n j) x r m = tt

bodies_whole : (levels : ℕ) (all : List Declaration) (x : List Word) → AreReal x → DeclaresAllTo levels all x → AreBodiesWhole all
bodies_whole levels [] x r m = tt
bodies_whole levels (a ∷ all) x r m = (body_whole levels a m.0 (left m.0 m.1 m.2 r) m.3, bodies_whole levels all m.1 (right m.0 m.1 m.2 r) m.4)

-- the words of a text spell whole bodies
pub text_whole : (levels : ℕ) (text : List ℕ) (tokens : List Token) (all : List Declaration) → DeclaresAllTo levels all (words_of text tokens) → AreBodiesWhole all
text_whole levels text tokens all m = bodies_whole levels all (words_of text tokens) (real_words text tokens) m
