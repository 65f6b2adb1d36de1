-- A tree means one term.
use Rattle.std.proofs.Common.{◌≡◌, ℕ, zero, suc, Bool, true, false, List, [], ◌∷◌, ◌++◌, Some, refl, sym, ap, subst, ◌∙◌, arith, if◌then◌else◌}
use Rattle.std.specs.Prelude.{slice_get}
use Rattle.std.specs.List.{AllZip}
use Rattle.std.specs.Str.{bytes_eq}
use Rattle.std.proofs.lemmas.Slice.Eq.{bytes_eq-Decides}
use Rattle.serde_json.specs.Written.{compact_text}
use Rattle.flight_syntax.specs.Tree as tree
use Rattle.flight_syntax.specs.Tree.{Tree, Trees, TreeProps, TreePairs, Declaration}
use Rattle.flight_syntax.specs.Term as term
use Rattle.flight_syntax.specs.Term.{Term, Terms, Props, Pairs}
use Rattle.flight_syntax.specs.Meaning.{occurs, innermost, given, given_tag, meaning, meanings, meaning_props, meaning_pairs}
use Rattle.flight_syntax.specs.Scope.{IsInnermost, action_number, tag_of, Means, MeansEach, MeansProps, MeansPairs}
use Rattle.flight_syntax.specs.Derives.{Said, server, client, action, SaidAs}

-- ---- variables

some_is : {A : Type 0} (a b : A) → Some a ≡ Some b → a ≡ b
some_is a b e = cc

pub bytes_is : (a b : List ℕ) → bytes_eq a b ≡ true → a ≡ b
bytes_is a b e = grind (arith, bytes_eq-Decides)

pub bytes_same : (a b : List ℕ) → a ≡ b → bytes_eq a b ≡ true
bytes_same a b e = grind (arith, bytes_eq-Decides)

either_true : (b c : Bool) → c ≡ true → (if b then true else c) ≡ true
either_true true c e = refl
either_true false c e = e

pub occurs_at : (named : List ℕ) (scope : List (List ℕ)) (k : ℕ) → slice_get scope k ≡ Some named → occurs named scope ≡ true
occurs_at named [] k e = absurd cc
occurs_at named (n ∷ scope) zero e = rw (bytes_same n named (some_is n named e)) refl
occurs_at named (n ∷ scope) (suc k) e = either_true (bytes_eq n named) (occurs named scope) (occurs_at named scope k e)

at_occurs : (named : List ℕ) (scope : List (List ℕ)) → occurs named scope ≡ true → (k : ℕ) × (slice_get scope k ≡ Some named)
at_occurs named [] e = absurd cc
at_occurs named (n ∷ scope) e = by (bytes_eq n named) refl e (at_occurs named scope)
  where
    by : (b : Bool) → bytes_eq n named ≡ b → (if b then true else occurs named scope) ≡ true → (occurs named scope ≡ true → (k : ℕ) × (slice_get scope k ≡ Some named)) → (k : ℕ) × (slice_get (n ∷ scope) k ≡ Some named)
    by true q e again = (zero, ap (λ z. Some z) (bytes_is n named q))
    by false q e again = let found = again e in (suc found.0, found.1)

innermost_is : (scope : List (List ℕ)) (named : List ℕ) (k : ℕ) → IsInnermost scope named k → k ≡ innermost scope named
innermost_is [] named k h = absurd (cc (h.here))
innermost_is (n ∷ scope) named zero h = by (occurs named scope) refl
  where
    by : (b : Bool) → occurs named scope ≡ b → zero ≡ (if occurs named scope then suc (innermost scope named) else zero)
    by false e = rw e refl
    by true e = let found = at_occurs named scope e in absurd (h.innermost (suc found.0) (omega arith) found.1)
innermost_is (n ∷ scope) named (suc k) h =
    rw (occurs_at named scope k h.here) (ap suc (innermost_is scope named k (record { here = h.here; innermost = λ later l. h.innermost (suc later) (omega (arith, l)) })))

-- ---- terms

mutual
  means_is : (all : List Declaration) (scope : List (List ℕ)) (t : Tree) (u : Term) → Means all scope t u → u ≡ meaning all scope t
  means_is all scope (tree.let_in n v b) (term.let_in k w r) m = cc (m.0, means_is all scope v w m.1, means_is all (scope ++ n.bytes ∷ []) b r m.2)
  means_is all scope (tree.if_else t y o) (term.if_else a b c) m = cc (means_is all scope t a m.0, means_is all scope y b m.1, means_is all scope o c m.2)
  means_is all scope (tree.for_in n o g) (term.for_in k p q) m = cc (m.0, means_is all scope o p m.1, means_is all (scope ++ n.bytes ∷ []) g q m.2)
  means_is all scope (tree.throw v) (term.throw u) m = ap (λ z. term.throw z) (means_is all scope v u m)
  means_is all scope (tree.member o n) (term.member p k) m = cc (m.0, means_is all scope o p m.1)
  means_is all scope (tree.index o a) (term.index p b) m = cc (means_is all scope o p m.0, means_is all scope a b m.1)
  means_is all scope (tree.atom v) (term.atom u) m = ap (λ z. term.atom z) m
  means_is all scope (tree.variable n) (term.variable k) m = ap (λ z. term.variable z) (innermost_is scope n.bytes k m)
  means_is all scope (tree.client n) (term.client k) m = ap (λ z. term.client (given z)) (sym m)
  means_is all scope (tree.array l) (term.array k) m = ap (λ z. term.array z) (means_each all scope l k m)
  means_is all scope (tree.object l) (term.object k) m = ap (λ z. term.object z) (means_props all scope l k m)
  means_is all scope (tree.map l) (term.map k) m = ap (λ z. term.map z) (means_pairs all scope l k m)
  means_is all scope (tree.set l) (term.set k) m = ap (λ z. term.set z) (means_each all scope l k m)
  means_is all scope (tree.source n) (term.source k) m = ap (λ z. term.source z) m
  means_is all scope (tree.promise n) (term.promise k) m = ap (λ z. term.promise z) m
  means_is all scope (tree.stream n) (term.stream k) m = ap (λ z. term.stream z) m
  means_is all scope (tree.action n) (term.action k) m = ap (λ z. term.action (given z)) (sym m)
  means_is all scope (tree.action_with n l) (term.action_with k j) m = ap (λ z. term.action_with (given z) j) (sym m.0) ∙ ap (λ z. term.action_with (given (action_number all n.bytes)) z) (means_each all scope l j m.1)
  means_is all scope (tree.paren i) (term.paren j) m = ap (λ z. term.paren z) (means_is all scope i j m)
  means_is all scope (tree.binary o l r) (term.binary p k j) m = cc (m.0, means_is all scope l k m.1, means_is all scope r j m.2)
  means_is all scope (tree.element n a c) (term.element t b d) m =
      ap (λ z. term.element (given_tag z) b d) (sym m.0) ∙ ap (λ z. term.element (given_tag (tag_of all n.bytes)) z d) (means_props all scope a b m.1)
      ∙ ap (λ z. term.element (given_tag (tag_of all n.bytes)) (meaning_props all scope a) z) (means_each all scope c d m.2)
  means_is all scope _ _ m = absurd m

  means_each : (all : List Declaration) (scope : List (List ℕ)) (l : Trees) (k : Terms) → MeansEach all scope l k → k ≡ meanings all scope l
  means_each all scope tree.no_trees term.no_terms m = refl
  means_each all scope (tree.tree_and t l) (term.term_and u k) m = cc (means_is all scope t u m.0, means_each all scope l k m.1)
  means_each all scope _ _ m = absurd m

  means_props : (all : List Declaration) (scope : List (List ℕ)) (l : TreeProps) (k : Props) → MeansProps all scope l k → k ≡ meaning_props all scope l
  means_props all scope tree.no_props term.no_props m = refl
  means_props all scope (tree.prop_and n t l) (term.prop_and p u k) m = cc (m.0, means_is all scope t u m.1, means_props all scope l k m.2)
  means_props all scope _ _ m = absurd m

  means_pairs : (all : List Declaration) (scope : List (List ℕ)) (l : TreePairs) (k : Pairs) → MeansPairs all scope l k → k ≡ meaning_pairs all scope l
  means_pairs all scope tree.no_pairs term.no_pairs m = refl
  means_pairs all scope (tree.pair_and p t l) (term.pair_and q u k) m = cc (means_is all scope p q m.0, means_is all scope t u m.1, means_pairs all scope l k m.2)
  means_pairs all scope _ _ m = absurd m

pub one_meaning : (all : List Declaration) (scope : List (List ℕ)) (t : Tree) (u v : Term) → Means all scope t u → Means all scope t v → u ≡ v
one_meaning all scope t u v m n = means_is all scope t u m ∙ sym (means_is all scope t v n)

-- ---- declarations

pub one_saying : (all : List Declaration) (d : Declaration) (s t : Said) → SaidAs all d s → SaidAs all d t → s ≡ t
one_saying all (tree.server n ps b) (server k p u) (server j q v) m o =
    let same : p ≡ q = m.1 ∙ sym o.1 in
    let body : u ≡ v = one_meaning all p b u v m.2 (subst (λ z. Means all z b v) (sym same) o.2) in
    cc (m.0, o.0, same, body)
one_saying all (tree.client_is n j) (client k i) (client l h) m o =
    let data_same : m.1.0 ≡ o.1.0 = some_is m.1.0 o.1.0 (sym m.1.1 ∙ o.1.1) in
    cc (m.0, o.0, m.1.2, o.1.2, ap (λ z. compact_text z) data_same)
one_saying all (tree.action_is n ps b) (action k p u) (action j q v) m o =
    let same : p ≡ q = m.1 ∙ sym o.1 in
    let body : u ≡ v = one_meaning all p b u v m.2 (subst (λ z. Means all z b v) (sym same) o.2) in
    cc (m.0, o.0, same, body)
one_saying all (tree.server n ps b) (server k p u) (client l h) m o = absurd o
one_saying all (tree.server n ps b) (server k p u) (action l q h) m o = absurd o
one_saying all (tree.client_is n j) (client k i) (server l q h) m o = absurd o
one_saying all (tree.client_is n j) (client k i) (action l q h) m o = absurd o
one_saying all (tree.action_is n ps b) (action k p u) (server l q h) m o = absurd o
one_saying all (tree.action_is n ps b) (action k p u) (client l h) m o = absurd o
one_saying all _ _ t m o = absurd m

pub all_said : (all rest : List Declaration) (ss ts : List Said) → AllZip (SaidAs all) rest ss → AllZip (SaidAs all) rest ts → ss ≡ ts
all_said all [] [] [] m n = refl
all_said all (d ∷ rest) (s ∷ ss) (t ∷ ts) m n = cc (one_saying all d s t m.0 n.0, all_said all rest ss ts m.1 n.1)
all_said all [] [] (t ∷ ts) m n = absurd n
all_said all [] (s ∷ ss) ts m n = absurd m
all_said all (d ∷ rest) [] ts m n = absurd m
all_said all (d ∷ rest) (s ∷ ss) [] m n = absurd n
