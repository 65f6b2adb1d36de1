-- What the words of a text spell has literals that are in range.
use Rattle.std.proofs.Common.{◌≡◌, ℕ, zero, suc, ◌-◌, ◌<◌, ◌≤◌, ◌⊎◌, inl, inr, Bool, true, false, List, [], ◌∷◌, ◌++◌, length, take, Option, Some, None, refl, sym, subst, arith, pos, negsuc}
use Rattle.std.specs.Prelude.{◌^◌, ◌≤ℤ◌, slice_index, if◌then◌else◌}
use Rattle.std.specs.Char.{is_ascii_uppercase}
use Rattle.std.specs.List.{AllByRecursion}
use Rattle.std.proofs.lemmas.List.{length-append}
use Rattle.std.proofs.Math.Seq.{take-append_seam}
use lib.Dec.{le→leb}
use Rattle.flight_value.specs.declared.graph.Atom.{Atom}
use Rattle.flight_value.specs.declared.graph.Atom.TheVariants as value
use Rattle.flight_value.specs.declared.graph.Constant.TheVariants as constant
use Rattle.flight_syntax.specs.declared.token.Token.{Token}
use Rattle.flight_syntax.specs.declared.token.TokenKind.{TokenKind}
use Rattle.flight_syntax.specs.declared.token.TokenKind.TheVariants as kind
use Rattle.flight_syntax.specs.declared.word.Keyword.{Keyword}
use Rattle.flight_syntax.specs.declared.word.Keyword.TheVariants as keys
use Rattle.flight_syntax.specs.declared.word.Punctuator.{Punctuator}
use Rattle.flight_syntax.specs.declared.word.Punctuator.TheVariants.{OpenBrace, CloseBrace, Less, Greater, LessSlash, SlashGreater}
use Rattle.flight_syntax.specs.Pieces.{decimal, IsBig, SpellsToken}
use Rattle.flight_syntax.specs.Tokens.{AreTokens, IsTokenOf, spelling}
use Rattle.flight_syntax.specs.Lexicon.{Word, key, lower, upper, number, big, literal, Placed, Phrase, ◌▸◌, one, sign, is_plain, is_date, constant_of, minus, big_minus, negative_of, date_of, symbol_of, taken_where, keyword_of, sign_of, name_word, mark_word, word_as, words_of}
use Rattle.flight_syntax.specs.Tree as tree
use Rattle.flight_syntax.specs.Tree.{Tree, Trees, TreeProps, TreePairs, Declaration, IsElement}
use Rattle.flight_syntax.specs.Grammar.{Constant, Bare, Beyond, Spells, Listed, MoreListed, Properties, MoreProperties, Entries, MoreEntries, Attributes, Children, DeclaresTo, DeclaresAllTo}
use Rattle.flight_syntax.proofs.Dates.{date_is}
use Rattle.flight_syntax.proofs.Spellings.{Reads-each}
use Rattle.flight_render.specs.Valid.{IsLiteral}
use Rattle.flight_render.proofs.Sourced.{each_of}

-- ---- the words of a text

-- a word whose number is in range
abbrev pub IsFit : Word → Type 0
IsFit (number digits) = decimal digits < 2 ^ 53
IsFit (big digits) = decimal digits < 2 ^ 127
IsFit _ = Unit {0}

abbrev pub AreFit : List Word → Type 0
AreFit words = AllByRecursion IsFit words

fit_name : (o : Option Keyword) (name : Placed) → IsFit (name_word o name)
fit_name (Some k) name = tt
fit_name None name = by (is_ascii_uppercase (slice_index name.bytes 0))
  where
    by : (b : Bool) → IsFit (if b then upper name else lower name)
    by true = tt
    by false = tt

fit_mark : (o : Option Punctuator) → IsFit (mark_word o)
fit_mark (Some m) = tt
fit_mark None = tt

without_last : (ds : List ℕ) (x : ℕ) → take (length (ds ++ x ∷ []) - 1) (ds ++ x ∷ []) ≡ ds
without_last ds x =
    let size : length (ds ++ x ∷ []) - 1 ≡ length ds = let l = length-append ds (x ∷ []) in omega (arith, l) in
    rw size (take-append_seam ds (x ∷ []))

fit_big : (bytes : List ℕ) (n : ℕ) → IsBig bytes n → decimal (take (length bytes - 1) bytes) < 2 ^ 127
fit_big bytes n h = subst (λ z. decimal (take (length z - 1) z) < 2 ^ 127) (sym h.spelled) (subst (λ z. decimal z < 2 ^ 127) (sym (without_last h.digits 110)) (subst (λ z. z < 2 ^ 127) (sym h.is_numeral.spelled) h.within))

fit_word : (k : TokenKind) (name : Placed) → SpellsToken k name.bytes → IsFit (word_as k name)
fit_word kind.Name name s = fit_name (keyword_of name.bytes) name
fit_word kind.Number name (n, s) = subst (λ z. z < 2 ^ 53) (sym s.is_numeral.spelled) s.within
fit_word kind.Big name (n, s) = fit_big name.bytes n s
fit_word kind.Text name s = tt
fit_word kind.Mark name s = fit_mark (sign_of name.bytes)

fit_tokens : (text : List ℕ) (tokens : List Token) → AllByRecursion (IsTokenOf text) tokens → AreFit (words_of text tokens)
fit_tokens text [] h = tt
fit_tokens text (t ∷ tokens) h = (fit_word t.kind (record { bytes = spelling text t; at = t.from }) h.0.spelled, fit_tokens text tokens h.1)

pub fit_words : (text : List ℕ) (tokens : List Token) → AreTokens text tokens → AreFit (words_of text tokens)
fit_words text tokens r = fit_tokens text tokens (each_of (IsTokenOf text) tokens (Reads-each r))

-- ---- literals

some_is : {A : Type 0} (a b : A) → Some a ≡ Some b → a ≡ b
some_is a b e = cc

is_literal : (b a : Atom) → Some b ≡ Some a → IsLiteral b → IsLiteral a
is_literal b a e h = subst IsLiteral (some_is b a e) h

above : (n k : ℕ) → negsuc k ≤ℤ pos n
above n k = record { le = tt }

below : (n k : ℕ) → n ≤ k → pos n ≤ℤ pos k
below n k l = record { le = le→leb n k l }

both_below : (n k : ℕ) → n ≤ k → negsuc k ≤ℤ negsuc n
both_below n k l = record { le = le→leb n k l }

-- so many bits hold a number on each side of 0
pos_within : (n most : ℕ) → n < most → (negsuc (most - 2) ≤ℤ pos n) × (pos n ≤ℤ pos (most - 1))
pos_within n most l = (above n (most - 2), below n (most - 1) (omega (arith, l)))

negsuc_within : (n most : ℕ) → suc n < most → (negsuc (most - 2) ≤ℤ negsuc n) × (negsuc n ≤ℤ pos (most - 1))
negsuc_within n most l = (both_below n (most - 2) (omega (arith, l)), above (most - 1) n)

minus_fits : (n : ℕ) → n < 2 ^ 53 → IsLiteral (minus n)
minus_fits zero l = tt
minus_fits (suc n) l = negsuc_within n (2 ^ 53) l

big_minus_fits : (n : ℕ) → n < 2 ^ 127 → IsLiteral (big_minus n)
big_minus_fits zero l = pos_within 0 (2 ^ 127) l
big_minus_fits (suc n) l = negsuc_within n (2 ^ 127) l

fit_key : (k : Keyword) (at : ℕ) (a : Atom) → constant_of (key k at) ≡ Some a → IsLiteral a
fit_key keys.Null at a e = is_literal value.Null a e tt
fit_key keys.Undefined at a e = is_literal value.Undefined a e tt
fit_key keys.True at a e = is_literal (value.Bool true) a e tt
fit_key keys.False at a e = is_literal (value.Bool false) a e tt
fit_key keys.NotANumber at a e = is_literal (value.Constant constant.NotANumber) a e tt
fit_key keys.Infinity at a e = is_literal (value.Constant constant.Infinity) a e tt
fit_key _ at a e = absurd cc

fit_constant : (w : Word) (a : Atom) → IsFit w → constant_of w ≡ Some a → IsLiteral a
fit_constant (key k at) a f e = fit_key k at a e
fit_constant (number digits) a f e = is_literal (value.Whole (pos (decimal digits))) a e (pos_within (decimal digits) (2 ^ 53) f)
fit_constant (big digits) a f e = is_literal (value.Big (pos (decimal digits))) a e (pos_within (decimal digits) (2 ^ 127) f)
fit_constant (literal text) a f e = is_literal (value.Text text.bytes) a e tt
fit_constant _ a f e = absurd cc

fit_minus_key : (k : Keyword) (at : ℕ) (a : Atom) → negative_of (key k at) ≡ Some a → IsLiteral a
fit_minus_key keys.Infinity at a e = is_literal (value.Constant constant.MinusInfinity) a e tt
fit_minus_key _ at a e = absurd cc

fit_negative : (w : Word) (a : Atom) → IsFit w → negative_of w ≡ Some a → IsLiteral a
fit_negative (key k at) a f e = fit_minus_key k at a e
fit_negative (number digits) a f e = is_literal (minus (decimal digits)) a e (minus_fits (decimal digits) f)
fit_negative (big digits) a f e = is_literal (big_minus (decimal digits)) a e (big_minus_fits (decimal digits) f)
fit_negative _ a f e = absurd cc

fit_date : (w : Word) (a : Atom) → date_of w ≡ Some a → IsLiteral a
fit_date (literal text) a e = by (is_date text.bytes) refl e
  where
    by : (b : Bool) → is_date text.bytes ≡ b → taken_where b (value.Date text.bytes) ≡ Some a → IsLiteral a
    by true t q = is_literal (value.Date text.bytes) a q (date_is text.bytes t)
    by false t q = absurd cc
fit_date _ a e = absurd cc

fit_symbol : (w : Word) (a : Atom) → symbol_of w ≡ Some a → IsLiteral a
fit_symbol (literal text) a e = is_literal (value.Symbol text.bytes) a e tt
fit_symbol _ a e = absurd cc

-- ---- parts of phrases

front_fit : (y z : List Word) → AreFit (y ++ z) → AreFit y
front_fit [] z h = tt
front_fit (w ∷ y) z h = (h.0, front_fit y z h.1)

rest_fit : (y z : List Word) → AreFit (y ++ z) → AreFit z
rest_fit [] z h = h
rest_fit (w ∷ y) z h = rest_fit y z h.1

left : {x : List Word} (y z : List Word) → x ≡ y ++ z → AreFit x → AreFit y
left {x} y z e r = front_fit y z (subst AreFit e r)

right : {x : List Word} (y z : List Word) → x ≡ y ++ z → AreFit x → AreFit z
right {x} y z e r = rest_fit y z (subst AreFit e r)

only : (x : List Word) (w : Word) → x ≡ w ∷ [] → AreFit x → IsFit w
only x w e r = (subst AreFit e r).0

constant_fits : (a : Atom) (x : List Word) → AreFit x → Constant a x → IsLiteral a
constant_fits a x r (inl m) = fit_constant m.0 a (only x m.0 m.2 r) m.1
constant_fits a x r (inr (inl m)) = let b = m.4 in fit_negative b.0 a (only m.1 b.0 b.2 (right m.0 m.1 m.2 r)) b.1
constant_fits a x r (inr (inr (inl m))) = let b = m.4 in fit_date b.0 a b.1
constant_fits a x r (inr (inr (inr m))) = let b = m.4 in fit_symbol b.0 a b.1

-- ---- trees

-- with literals in range
abbrev mutual
  pub HasLiterals : Tree → Type 0
  HasLiterals (tree.atom a) = IsLiteral a
  HasLiterals (tree.let_in n v b) = HasLiterals v × HasLiterals b
  HasLiterals (tree.if_else t y o) = HasLiterals t × HasLiterals y × HasLiterals o
  HasLiterals (tree.for_in n o g) = HasLiterals o × HasLiterals g
  HasLiterals (tree.throw v) = HasLiterals v
  HasLiterals (tree.member of n) = HasLiterals of
  HasLiterals (tree.index of t) = HasLiterals of × HasLiterals t
  HasLiterals (tree.array l) = HaveLiterals l
  HasLiterals (tree.object l) = HavePropsLiterals l
  HasLiterals (tree.map l) = HavePairsLiterals l
  HasLiterals (tree.set l) = HaveLiterals l
  HasLiterals (tree.action_with n l) = HaveLiterals l
  HasLiterals (tree.paren t) = HasLiterals t
  HasLiterals (tree.binary o l r) = HasLiterals l × HasLiterals r
  HasLiterals (tree.element n a c) = HavePropsLiterals a × HaveLiterals c
  HasLiterals _ = Unit {0}

  pub HaveLiterals : Trees → Type 0
  HaveLiterals tree.no_trees = Unit {0}
  HaveLiterals (tree.tree_and t l) = HasLiterals t × HaveLiterals l

  pub HavePropsLiterals : TreeProps → Type 0
  HavePropsLiterals tree.no_props = Unit {0}
  HavePropsLiterals (tree.prop_and n t l) = HasLiterals t × HavePropsLiterals l

  pub HavePairsLiterals : TreePairs → Type 0
  HavePairsLiterals tree.no_pairs = Unit {0}
  HavePairsLiterals (tree.pair_and k t l) = HasLiterals k × HasLiterals t × HavePairsLiterals l

abbrev Given : Tree → ℕ → Phrase
Given t d x = Bare t x ⊎ (sign OpenBrace ▸ Spells t d ▸ sign CloseBrace) x

abbrev Child : Tree → ℕ → Phrase
Child t d x = Given t d x ⊎ ((IsElement t × Spells t d x) ⊎ ((t ≡ tree.too_deep) × Beyond Less x))

abbrev Ends : Trees → ℕ → Placed → Phrase
Ends children d tag x = ((children ≡ tree.no_trees) × sign SlashGreater x) ⊎ (sign Greater ▸ Children children d ▸ sign LessSlash ▸ one (is_plain tag.bytes) tt ▸ sign Greater) x

bare_fits : (t : Tree) (text : Placed) → tree.atom (value.Text text.bytes) ≡ t → HasLiterals t
bare_fits t text e = subst HasLiterals e tt

given_fits : (t : Tree) (d : ℕ) (x : List Word) → AreFit x → Given t d x → ((x : List Word) → AreFit x → Spells t d x → HasLiterals t) → HasLiterals t
given_fits t d x r (inl m) h = bare_fits t m.0 m.1
given_fits t d x r (inr m) h = let a = m.4 in h a.0 (left a.0 a.1 a.2 (right m.0 m.1 m.2 r)) a.3

child_fits : (t : Tree) (d : ℕ) (x : List Word) → AreFit x → Child t d x → ((x : List Word) → AreFit x → Spells t d x → HasLiterals t) → HasLiterals t
child_fits t d x r (inl m) h = given_fits t d x r m h
child_fits t d x r (inr (inl m)) h = h x r m.1
child_fits t d x r (inr (inr m)) h = subst HasLiterals (sym m.0) tt

ends_fit : (l : Trees) (d : ℕ) (n : Placed) (x : List Word) → AreFit x → Ends l d n x → ((x : List Word) → AreFit x → Children l d x → HaveLiterals l) → HaveLiterals l
ends_fit l d n x r (inl m) h = subst HaveLiterals (sym m.0) tt
ends_fit l d n x r (inr m) h = let a = m.4 in h a.0 (left a.0 a.1 a.2 (right m.0 m.1 m.2 r)) a.3

mutual
  pub fits : (t : Tree) (d : ℕ) (x : List Word) → AreFit x → Spells t d x → HasLiterals t
  fits tree.too_deep zero x r m = tt
  fits _ zero x r m = absurd m
  fits tree.too_deep (suc d) x r m = absurd m
  fits (tree.let_in n v b) (suc d) x r m =
      let a = m.4.4.4 in let q = right m.4.4.0 m.4.4.1 m.4.4.2 (right m.4.0 m.4.1 m.4.2 (right m.0 m.1 m.2 r)) in (fits v d a.0 (left a.0 a.1 a.2 q) a.3, fits b d a.4.1 (right a.4.0 a.4.1 a.4.2 (right a.0 a.1 a.2 q)) a.4.4)
  fits (tree.if_else t y o) (suc d) x r m =
      let a = m.4 in
      let q = right m.0 m.1 m.2 r in
      let b = a.4.4 in
      let p = right a.4.0 a.4.1 a.4.2 (right a.0 a.1 a.2 q) in
      (fits t d a.0 (left a.0 a.1 a.2 q) a.3, fits y d b.0 (left b.0 b.1 b.2 p) b.3, fits o d b.4.1 (right b.4.0 b.4.1 b.4.2 (right b.0 b.1 b.2 p)) b.4.4)
  fits (tree.for_in n o g) (suc d) x r m =
      let a = m.4.4.4 in let q = right m.4.4.0 m.4.4.1 m.4.4.2 (right m.4.0 m.4.1 m.4.2 (right m.0 m.1 m.2 r)) in (fits o d a.0 (left a.0 a.1 a.2 q) a.3, fits g d a.4.1 (right a.4.0 a.4.1 a.4.2 (right a.0 a.1 a.2 q)) a.4.4)
  fits (tree.throw v) (suc d) x r m = fits v d m.1 (right m.0 m.1 m.2 r) m.4
  fits (tree.member of n) (suc d) x r m = let a = m.2 in fits of (suc d) a.0 (left a.0 a.1 a.2 r) a.3
  fits (tree.index of t) (suc d) x r m =
      let a = m.2 in let b = a.4.4 in let q = right a.4.0 a.4.1 a.4.2 (right a.0 a.1 a.2 r) in (fits of (suc d) a.0 (left a.0 a.1 a.2 r) a.3, fits t d b.0 (left b.0 b.1 b.2 q) b.3)
  fits (tree.too_many of) (suc d) x r m = tt
  fits (tree.atom v) (suc d) x r m = constant_fits v x r m
  fits (tree.variable n) (suc d) x r m = tt
  fits (tree.client n) (suc d) x r m = tt
  fits (tree.array l) (suc d) x r m = let a = m.4 in all_fit l d a.0 (left a.0 a.1 a.2 (right m.0 m.1 m.2 r)) a.3
  fits (tree.object l) (suc d) x r m = let a = m.4 in props_fit l d a.0 (left a.0 a.1 a.2 (right m.0 m.1 m.2 r)) a.3
  fits (tree.map l) (suc d) x r m = let a = m.4.4 in pairs_fit l d a.0 (left a.0 a.1 a.2 (right m.4.0 m.4.1 m.4.2 (right m.0 m.1 m.2 r))) a.3
  fits (tree.set l) (suc d) x r m = let a = m.4.4 in all_fit l d a.0 (left a.0 a.1 a.2 (right m.4.0 m.4.1 m.4.2 (right m.0 m.1 m.2 r))) a.3
  fits (tree.source n) (suc d) x r m = tt
  fits (tree.promise n) (suc d) x r m = tt
  fits (tree.stream n) (suc d) x r m = tt
  fits (tree.action n) (suc d) x r m = tt
  fits (tree.action_with n l) (suc d) x r m =
      let b = m.4.4.4 in let a = b.4 in all_fit l d a.0 (left a.0 a.1 a.2 (right b.0 b.1 b.2 (right m.4.4.0 m.4.4.1 m.4.4.2 (right m.4.0 m.4.1 m.4.2 (right m.0 m.1 m.2 r))))) a.3
  fits (tree.paren t) (suc d) x r m = let a = m.4 in fits t d a.0 (left a.0 a.1 a.2 (right m.0 m.1 m.2 r)) a.3
  fits (tree.binary o l k) (suc d) x r m =
      let a = m.4 in let q = right m.0 m.1 m.2 r in let b = a.4.4 in let p = right a.4.0 a.4.1 a.4.2 (right a.0 a.1 a.2 q) in (fits l d a.0 (left a.0 a.1 a.2 q) a.3, fits k d b.0 (left b.0 b.1 b.2 p) b.3)
  fits (tree.element n a c) (suc d) x r m =
      let b = m.4.4 in
      let q = right m.4.0 m.4.1 m.4.2 (right m.0 m.1 m.2 r) in
      (attrs_fit a d b.0 (left b.0 b.1 b.2 q) b.3, ends_fit c d n b.1 (right b.0 b.1 b.2 q) b.4 (λ y k o. children_fit c d y k o))

  all_fit : (l : Trees) (d : ℕ) (x : List Word) → AreFit x → Listed l d x → HaveLiterals l
  all_fit tree.no_trees d x r m = tt
  all_fit (tree.tree_and t l) d x r m = (fits t d m.0 (left m.0 m.1 m.2 r) m.3, more_fit l d m.1 (right m.0 m.1 m.2 r) m.4)

  more_fit : (l : Trees) (d : ℕ) (x : List Word) → AreFit x → MoreListed l d x → HaveLiterals l
  more_fit tree.no_trees d x r m = tt
  more_fit (tree.tree_and t l) d x r m = let a = m.3 in (fits t d a.1 (right a.0 a.1 a.2 (left m.0 m.1 m.2 r)) a.4, more_fit l d m.1 (right m.0 m.1 m.2 r) m.4)

  props_fit : (l : TreeProps) (d : ℕ) (x : List Word) → AreFit x → Properties l d x → HavePropsLiterals l
  props_fit tree.no_props d x r m = tt
  props_fit (tree.prop_and n t l) d x r m = let a = m.3.4 in (fits t d a.1 (right a.0 a.1 a.2 (right m.3.0 m.3.1 m.3.2 (left m.0 m.1 m.2 r))) a.4, more_props l d m.1 (right m.0 m.1 m.2 r) m.4)

  more_props : (l : TreeProps) (d : ℕ) (x : List Word) → AreFit x → MoreProperties l d x → HavePropsLiterals l
  more_props tree.no_props d x r m = tt
  more_props (tree.prop_and n t l) d x r m = let a = m.3.4.4 in (fits t d a.1 (right a.0 a.1 a.2 (right m.3.4.0 m.3.4.1 m.3.4.2 (right m.3.0 m.3.1 m.3.2 (left m.0 m.1 m.2 r)))) a.4, more_props l d m.1 (right m.0 m.1 m.2 r) m.4)

  pairs_fit : (l : TreePairs) (d : ℕ) (x : List Word) → AreFit x → Entries l d x → HavePairsLiterals l
  pairs_fit tree.no_pairs d x r m = tt
  pairs_fit (tree.pair_and k t l) d x r m =
      let a = m.3.4 in
      let q = right m.3.0 m.3.1 m.3.2 (left m.0 m.1 m.2 r) in
      let b = a.4.4 in
      (fits k d a.0 (left a.0 a.1 a.2 q) a.3, fits t d b.0 (left b.0 b.1 b.2 (right a.4.0 a.4.1 a.4.2 (right a.0 a.1 a.2 q))) b.3, more_pairs l d m.1 (right m.0 m.1 m.2 r) m.4)

  more_pairs : (l : TreePairs) (d : ℕ) (x : List Word) → AreFit x → MoreEntries l d x → HavePairsLiterals l
  more_pairs tree.no_pairs d x r m = tt
  more_pairs (tree.pair_and k t l) d x r m =
      let a = m.3.4.4 in
      let q = right m.3.4.0 m.3.4.1 m.3.4.2 (right m.3.0 m.3.1 m.3.2 (left m.0 m.1 m.2 r)) in
      let b = a.4.4 in
      (fits k d a.0 (left a.0 a.1 a.2 q) a.3, fits t d b.0 (left b.0 b.1 b.2 (right a.4.0 a.4.1 a.4.2 (right a.0 a.1 a.2 q))) b.3, more_pairs l d m.1 (right m.0 m.1 m.2 r) m.4)

  attrs_fit : (l : TreeProps) (d : ℕ) (x : List Word) → AreFit x → Attributes l d x → HavePropsLiterals l
  attrs_fit tree.no_props d x r m = tt
  attrs_fit (tree.prop_and n t l) d x r m = let a = m.3.4 in (given_fits t d a.1 (right a.0 a.1 a.2 (right m.3.0 m.3.1 m.3.2 (left m.0 m.1 m.2 r))) a.4 (λ y k n. fits t d y k n), attrs_fit l d m.1 (right m.0 m.1 m.2 r) m.4)

  children_fit : (l : Trees) (d : ℕ) (x : List Word) → AreFit x → Children l d x → HaveLiterals l
  children_fit tree.no_trees d x r m = tt
  children_fit (tree.tree_and t l) d x r m = (child_fits t d m.0 (left m.0 m.1 m.2 r) m.3 (λ y k n. fits t d y k n), children_fit l d m.1 (right m.0 m.1 m.2 r) m.4)

-- ---- programs

abbrev pub HasBodyLiterals : Declaration → Type 0
HasBodyLiterals (tree.server n ps b) = HasLiterals b
HasBodyLiterals (tree.action_is n ps b) = HasLiterals b
HasBodyLiterals (tree.client_is n j) = Unit {0}

abbrev pub HaveBodyLiterals : List Declaration → Type 0
HaveBodyLiterals [] = Unit {0}
HaveBodyLiterals (d ∷ all) = HasBodyLiterals d × HaveBodyLiterals all

body_fits : (levels : ℕ) (a : Declaration) (x : List Word) → AreFit x → DeclaresTo levels a x → HasBodyLiterals a
body_fits levels (tree.server n ps b) x r m =
    let c = m.4.4.4.4.4 in let a = c.4 in fits b levels a.0 (left a.0 a.1 a.2 (right c.0 c.1 c.2 (right m.4.4.4.4.0 m.4.4.4.4.1 m.4.4.4.4.2 (right m.4.4.4.0 m.4.4.4.1 m.4.4.4.2 (right m.4.4.0 m.4.4.1 m.4.4.2 (right m.4.0 m.4.1 m.4.2 (right m.0 m.1 m.2 r))))))) a.3
body_fits levels (tree.action_is n ps b) x r m =
    let c = m.4.4.4.4.4 in let a = c.4 in fits b levels a.0 (left a.0 a.1 a.2 (right c.0 c.1 c.2 (right m.4.4.4.4.0 m.4.4.4.4.1 m.4.4.4.4.2 (right m.4.4.4.0 m.4.4.4.1 m.4.4.4.2 (right m.4.4.0 m.4.4.1 m.4.4.2 (right m.4.0 m.4.1 m.4.2 (right m.0 m.1 m.2 r))))))) a.3
body_fits levels (tree.client_is n j) x r m = tt

bodies_fit : (levels : ℕ) (all : List Declaration) (x : List Word) → AreFit x → DeclaresAllTo levels all x → HaveBodyLiterals all
bodies_fit levels [] x r m = tt
bodies_fit levels (a ∷ all) x r m = (body_fits levels a m.0 (left m.0 m.1 m.2 r) m.3, bodies_fit levels all m.1 (right m.0 m.1 m.2 r) m.4)

-- the words of a text spell bodies with literals in range
pub text_literals : (levels : ℕ) (text : List ℕ) (tokens : List Token) (all : List Declaration) → AreTokens text tokens → DeclaresAllTo levels all (words_of text tokens) → HaveBodyLiterals all
text_literals levels text tokens all r m = bodies_fit levels all (words_of text tokens) (fit_words text tokens r) m
