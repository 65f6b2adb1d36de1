-- Postfixes as the code has them.
use Rattle.std.proofs.Common.{◌≡◌, ◌≢◌, ℕ, ◌==◌, Bool, true, false, List, [], ◌∷◌, ◌++◌, length, map, refl, sym, ap, ◌∙◌, append_assoc, append-nil}
use Rattle.std.proofs.lemmas.Bool.{false≢true}
use Rattle.flight_syntax.specs.declared.expr.Expr as expr
use Rattle.flight_syntax.specs.declared.expr.Expr.{Expr}
use Rattle.flight_syntax.specs.declared.expr.Postfix.{Postfix}
use Rattle.flight_syntax.specs.Term.{Term, Post, term, post, named, indexed, posted, posted_one}
use Rattle.flight_syntax.proofs.Terms.{term-Postfixed}
use Rattle.flight_print.specs.Text.{other, shape_of, term_text}
use Rattle.flight_print.specs.Scope.{post_text, posts_text}

-- what has a postfix is neither a text nor an element
one_shape : (t : Term) (p : Post) → shape_of (posted_one t p) ≡ other
one_shape t (named n) = refl
one_shape t (indexed a) = refl

more_shape : (t : Term) (ps : List Post) → shape_of t ≡ other → shape_of (posted t ps) ≡ other
more_shape t [] e = e
more_shape t (p ∷ ps) e = more_shape (posted_one t p) ps (one_shape t p)

pub posted_shape : (t : Term) (ps : List Post) → ps ≢ [] → shape_of (posted t ps) ≡ other
posted_shape t [] h = absurd (h refl)
posted_shape t (p ∷ ps) h = more_shape (posted_one t p) ps (one_shape t p)

-- postfixes are printed one behind the other
one_text : (names scope : List (List ℕ)) (t : Term) (p : Post) → term_text names scope (posted_one t p) ≡ term_text names scope t ++ post_text names scope p
one_text names scope t (named n) = refl
one_text names scope t (indexed a) = refl

pub posted_text : (names scope : List (List ℕ)) (t : Term) (ps : List Post) → term_text names scope (posted t ps) ≡ term_text names scope t ++ posts_text names scope ps
posted_text names scope t [] = sym (append-nil (term_text names scope t))
posted_text names scope t (p ∷ ps) =
    posted_text names scope (posted_one t p) ps
    ∙ (ap (λ z. z ++ posts_text names scope ps) (one_text names scope t p) ∙ append_assoc (term_text names scope t) (post_text names scope p) (posts_text names scope ps))

pub postfixed_shape : (e of : Expr) (posts slice : List Postfix) (b : Bool) → e ≡ expr.Postfixed of posts → slice ≡ posts → b ≡ (length slice == 0) → b ≡ false → other ≡ shape_of (term e)
postfixed_shape e of posts slice b is same test not_empty = sym (ap (λ z. shape_of (term z)) is ∙ (ap shape_of (term-Postfixed of posts) ∙ posted_shape (term of) (map post posts) (some posts same)))
  where
    some : (posts : List Postfix) → slice ≡ posts → map post posts ≢ []
    some [] s e = let none : (length slice == 0) ≡ true = ap (λ z. length z == 0) s in false≢true (sym not_empty ∙ (test ∙ none))
    some (p ∷ posts) s e = cc
