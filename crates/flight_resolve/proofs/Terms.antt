-- Terms one after another.
use Rattle.std.proofs.Common.{◌≡◌, ℕ, ◌+◌, ◌<◌, List, [], ◌∷◌, ◌++◌, length, map, take, get_or, sym, ap, ◌∙◌, arith, refl}
use Rattle.flight_syntax.specs.Lexicon.{Placed}
use Rattle.flight_syntax.specs.Tree as tree
use Rattle.flight_syntax.specs.Tree.{Declaration}
use Rattle.flight_syntax.specs.Term as terms
use Rattle.flight_syntax.specs.Term.{Term}
use Rattle.flight_syntax.specs.Meaning.{meaning, meanings, meaning_props, meaning_pairs}
use Rattle.flight_syntax.specs.Faults.{beside_children, children_attributes}
use Rattle.flight_parse.specs.declared.tree.Tree.{Tree}
use Rattle.flight_parse.specs.Code.{tree_of, PlainPost, named, indexed, posted}
use Rattle.flight_resolve.specs.Posts.{meaning_post}
use Rattle.flight_resolve.proofs.Firsts.{taken, map_last}

terms_last : (all : List Declaration) (scope : List (List ℕ)) (es : List Term) (ts : List tree.Tree) (e : Term) (t : tree.Tree) → terms.terms_of es ≡ meanings all scope (tree.trees_of ts) → e ≡ meaning all scope t
    → terms.terms_of (es ++ e ∷ []) ≡ meanings all scope (tree.trees_of (ts ++ t ∷ []))
terms_last all scope [] [] e t h q = ap (λ z. terms.term_and z terms.no_terms) q
terms_last all scope [] (u ∷ ts) e t h q = absurd cc
terms_last all scope (d ∷ es) [] e t h q = absurd cc
terms_last all scope (d ∷ es) (u ∷ ts) e t h q =
    let a : d ≡ meaning all scope u = cc in
    let b : terms.terms_of es ≡ meanings all scope (tree.trees_of ts) = cc in
    ap (λ z. terms.term_and z (terms.terms_of (es ++ e ∷ []))) a ∙ ap (terms.term_and (meaning all scope u)) (terms_last all scope es ts e t b q)

props_last : (all : List Declaration) (scope : List (List ℕ)) (es : List (List ℕ × Term)) (ts : List (Placed × tree.Tree)) (e : List ℕ × Term) (t : Placed × tree.Tree) → terms.props_of es ≡ meaning_props all scope (tree.props_of ts)
    → e.0 ≡ t.0.bytes → e.1 ≡ meaning all scope t.1 → terms.props_of (es ++ e ∷ []) ≡ meaning_props all scope (tree.props_of (ts ++ t ∷ []))
props_last all scope [] [] e t h n q = ap (λ z. terms.prop_and z e.1 terms.no_props) n ∙ ap (λ z. terms.prop_and t.0.bytes z terms.no_props) q
props_last all scope [] (u ∷ ts) e t h n q = absurd cc
props_last all scope (d ∷ es) [] e t h n q = absurd cc
props_last all scope (d ∷ es) (u ∷ ts) e t h n q =
    let k : d.0 ≡ u.0.bytes = cc in
    let a : d.1 ≡ meaning all scope u.1 = cc in
    let b : terms.props_of es ≡ meaning_props all scope (tree.props_of ts) = cc in
    ap (λ z. terms.prop_and z d.1 (terms.props_of (es ++ e ∷ []))) k
    ∙ (ap (λ z. terms.prop_and u.0.bytes z (terms.props_of (es ++ e ∷ []))) a ∙ ap (terms.prop_and u.0.bytes (meaning all scope u.1)) (props_last all scope es ts e t b n q))

pairs_last : (all : List Declaration) (scope : List (List ℕ)) (es : List (Term × Term)) (ts : List (tree.Tree × tree.Tree)) (e : Term × Term) (t : tree.Tree × tree.Tree) → terms.pairs_of es ≡ meaning_pairs all scope (tree.pairs_of ts)
    → e.0 ≡ meaning all scope t.0 → e.1 ≡ meaning all scope t.1 → terms.pairs_of (es ++ e ∷ []) ≡ meaning_pairs all scope (tree.pairs_of (ts ++ t ∷ []))
pairs_last all scope [] [] e t h n q = ap (λ z. terms.pair_and z e.1 terms.no_pairs) n ∙ ap (λ z. terms.pair_and (meaning all scope t.0) z terms.no_pairs) q
pairs_last all scope [] (u ∷ ts) e t h n q = absurd cc
pairs_last all scope (d ∷ es) [] e t h n q = absurd cc
pairs_last all scope (d ∷ es) (u ∷ ts) e t h n q =
    let k : d.0 ≡ meaning all scope u.0 = cc in
    let a : d.1 ≡ meaning all scope u.1 = cc in
    let b : terms.pairs_of es ≡ meaning_pairs all scope (tree.pairs_of ts) = cc in
    ap (λ z. terms.pair_and z d.1 (terms.pairs_of (es ++ e ∷ []))) k
    ∙ (ap (λ z. terms.pair_and (meaning all scope u.0) z (terms.pairs_of (es ++ e ∷ []))) a ∙ ap (terms.pair_and (meaning all scope u.0) (meaning all scope u.1)) (pairs_last all scope es ts e t b n q))

-- ---- over a list, seen by views

module _ (all : List Declaration) (scope : List (List ℕ)) {A E : Type 0} (xs : List A) (i : ℕ) (x : A) (l : i < length xs) (is : x ≡ get_or xs i x) (old new : List E) (e : E) (push : new ≡ old ++ e ∷ []) where
  pub terms_steps : (f : E → Term) (g : A → tree.Tree) → terms.terms_of (map f old) ≡ meanings all scope (tree.trees_of (map g (take i xs))) → f e ≡ meaning all scope (g x)
      → terms.terms_of (map f new) ≡ meanings all scope (tree.trees_of (map g (take (i + 1) xs)))
  terms_steps f g inv q =
      ap terms.terms_of (ap (map f) push ∙ map_last f old e)
      ∙ (terms_last all scope (map f old) (map g (take i xs)) (f e) (g x) inv q ∙ ap (λ z. meanings all scope (tree.trees_of z)) (sym (ap (map g) (taken xs i x l is) ∙ map_last g (take i xs) x)))

  pub props_steps : (f : E → List ℕ × Term) (g : A → Placed × tree.Tree) → terms.props_of (map f old) ≡ meaning_props all scope (tree.props_of (map g (take i xs))) → (f e).0 ≡ (g x).0.bytes → (f e).1 ≡ meaning all scope (g x).1
      → terms.props_of (map f new) ≡ meaning_props all scope (tree.props_of (map g (take (i + 1) xs)))
  props_steps f g inv n q =
      ap terms.props_of (ap (map f) push ∙ map_last f old e)
      ∙ (props_last all scope (map f old) (map g (take i xs)) (f e) (g x) inv n q ∙ ap (λ z. meaning_props all scope (tree.props_of z)) (sym (ap (map g) (taken xs i x l is) ∙ map_last g (take i xs) x)))

  pub pairs_steps : (f : E → Term × Term) (g : A → tree.Tree × tree.Tree) → terms.pairs_of (map f old) ≡ meaning_pairs all scope (tree.pairs_of (map g (take i xs))) → (f e).0 ≡ meaning all scope (g x).0 → (f e).1 ≡ meaning all scope (g x).1
      → terms.pairs_of (map f new) ≡ meaning_pairs all scope (tree.pairs_of (map g (take (i + 1) xs)))
  pairs_steps f g inv n q =
      ap terms.pairs_of (ap (map f) push ∙ map_last f old e)
      ∙ (pairs_last all scope (map f old) (map g (take i xs)) (f e) (g x) inv n q ∙ ap (λ z. meaning_pairs all scope (tree.pairs_of z)) (sym (ap (map g) (taken xs i x l is) ∙ map_last g (take i xs) x)))

  pub posts_steps : (f : E → terms.Post) (g : A → PlainPost) → map f old ≡ map (meaning_post all scope) (map g (take i xs)) → f e ≡ meaning_post all scope (g x)
      → map f new ≡ map (meaning_post all scope) (map g (take (i + 1) xs))
  posts_steps f g inv q =
      ap (map f) push
      ∙ (map_last f old e
      ∙ (ap (λ z. z ++ f e ∷ []) inv
      ∙ (ap (λ z. map (meaning_post all scope) (map g (take i xs)) ++ z ∷ []) q
      ∙ sym (ap (λ z. map (meaning_post all scope) (map g z)) (taken xs i x l is) ∙ (ap (map (meaning_post all scope)) (map_last g (take i xs) x) ∙ map_last (meaning_post all scope) (map g (take i xs)) (g x))))))

-- an expression with its postfixes
pub posted_meaning : (all : List Declaration) (scope : List (List ℕ)) (t : tree.Tree) (ps : List PlainPost) → meaning all scope (posted t ps) ≡ terms.posted (meaning all scope t) (map (meaning_post all scope) ps)
posted_meaning all scope t [] = refl
posted_meaning all scope t (named n ∷ ps) = posted_meaning all scope (tree.member t n) ps
posted_meaning all scope t (indexed a ∷ ps) = posted_meaning all scope (tree.index t a) ps

-- where there are children
pub some_children : (children : List Tree) (names : List Placed) → 0 < length children → beside_children (tree.trees_of (map tree_of children)) names ≡ children_attributes names
some_children [] names l = absurd (omega (arith, l))
some_children (c ∷ children) names l = refl
