-- Postfixes, at most so many.
use Rattle.std.proofs.Common.{◌≡◌, ℕ, zero, suc, Bool, true, ◌⊎◌, inl, inr, List, [], ◌∷◌, ◌++◌, refl, sym, ap, subst, ◌∙◌}
use Rattle.flight_syntax.specs.declared.word.Punctuator.{Punctuator}
use Rattle.flight_syntax.specs.declared.word.Punctuator.TheVariants.{OpenBracket, CloseBracket, Dot}
use Rattle.flight_syntax.specs.Lexicon.{Word, mark, beyond, Phrase, ◌▸◌, nothing, one, is_mark, sign, name_of}
use Rattle.flight_syntax.specs.Tree.{Tree, member, index, too_many}
use Rattle.flight_syntax.specs.Grammar.{Beyond}
use Rattle.flight_grammar.specs.Reading.{Reader, Arm, stop, limit, go, want, done, both, closed}
use Rattle.flight_grammar.specs.Reader.{Post, named, indexed, over, posted, named_and, indexed_and, starts_post, last_post_arm, post_arm, posts}
use Rattle.flight_grammar.proofs.Exact.{HasHead, IsMeek, Exact, none, meek_none, exact_for}
use Rattle.flight_grammar.proofs.Parts.{Just, exact_done_on, Seq, Image, exact_made, ByWord, IsArm, Limit, Arms, exact_word}
use Rattle.flight_grammar.proofs.Choices.{IsStop, IsExactArm, eager_word, Or, exact_optional, joins_never, Trail, word_and, part_and, up_to}
use Rattle.flight_grammar.proofs.Terminals.{mark_is, the_mark, a_name}
use Rattle.flight_grammar.proofs.After.{after, meek_post, mark_after}
use Rattle.flight_grammar.proofs.Listed.{E}

abbrev pub BeyondPost : Phrase
BeyondPost x = Beyond Dot x ⊎ Beyond OpenBracket x

abbrev pub Posts : ℕ → ℕ → List Post → Phrase
Posts d n [] x = nothing x
Posts d n (over ∷ []) x = BeyondPost x
Posts d n (over ∷ p ∷ ps) x = ⊥
Posts d zero (named m ∷ ps) x = ⊥
Posts d zero (indexed t ∷ ps) x = ⊥
Posts d (suc n) (named m ∷ ps) x = (sign Dot ▸ (one name_of m ▸ Posts d n ps)) x
Posts d (suc n) (indexed t ∷ ps) x = (sign OpenBracket ▸ (Trail (E d) (is_mark CloseBracket) t ▸ Posts d n ps)) x

-- what continues postfixes: more, unless the last is one too many
abbrev pub after_posts : List Post → Word → Bool
after_posts [] = starts_post
after_posts (over ∷ []) = none
after_posts (over ∷ p ∷ ps) = after_posts (p ∷ ps)
after_posts (named m ∷ ps) = after_posts ps
after_posts (indexed t ∷ ps) = after_posts ps

pub meek_posts : (ps : List Post) → IsMeek (after_posts ps)
meek_posts [] = meek_post
meek_posts (over ∷ []) = meek_none
meek_posts (over ∷ p ∷ ps) = meek_posts (p ∷ ps)
meek_posts (named m ∷ ps) = meek_posts ps
meek_posts (indexed t ∷ ps) = meek_posts ps

-- ---- by the first word

abbrev NamedBehind : ℕ → ℕ → List Post → Phrase
NamedBehind d zero ps x = ⊥
NamedBehind d (suc n) ps x = Image named_and (Seq (one name_of) (λ m. Posts d n)) ps x

abbrev IndexedBehind : ℕ → ℕ → List Post → Phrase
IndexedBehind d zero ps x = ⊥
IndexedBehind d (suc n) ps x = Image indexed_and (Seq (Trail (E d) (is_mark CloseBracket)) (λ t. Posts d n)) ps x

abbrev PostBehind : ℕ → ℕ → Word → List Post → Phrase
PostBehind d n (mark Dot) ps x = NamedBehind d n ps x
PostBehind d n (mark OpenBracket) ps x = IndexedBehind d n ps x
PostBehind d n (beyond Dot) ps x = Just (over ∷ []) ps x
PostBehind d n (beyond OpenBracket) ps x = Just (over ∷ []) ps x
PostBehind d n _ ps x = ⊥

posts_there : (d n : ℕ) (ps : List Post) (x : List Word) → Or (ByWord (PostBehind d n)) (Just []) ps x → Posts d n ps x
posts_there d n ps x (inr m) = subst (λ z. Posts d n z x) (sym m.0) m.1
posts_there d n ps x (inl m) = by n m.0 m.1 m.2 m.3
  where
    by : (n : ℕ) (w : Word) (y : List Word) → x ≡ w ∷ y → PostBehind d n w ps y → Posts d n ps x
    by (suc n) (mark Dot) y e m = subst (λ z. Posts d (suc n) z x) m.1 (mark Dot ∷ [], y, e, (mark Dot, refl, refl), m.2)
    by (suc n) (mark OpenBracket) y e m = subst (λ z. Posts d (suc n) z x) m.1 (mark OpenBracket ∷ [], y, e, (mark OpenBracket, refl, refl), m.2)
    by zero (mark Dot) y e m = absurd m
    by zero (mark OpenBracket) y e m = absurd m
    by n (beyond Dot) y e m = subst (λ z. Posts d n z x) (sym m.0) (inl (e ∙ ap (λ z. beyond Dot ∷ z) m.1))
    by n (beyond OpenBracket) y e m = subst (λ z. Posts d n z x) (sym m.0) (inr (e ∙ ap (λ z. beyond OpenBracket ∷ z) m.1))
    by n _ y e m = absurd m

posts_back : (d n : ℕ) (ps : List Post) (x : List Word) → Posts d n ps x → Or (ByWord (PostBehind d n)) (Just []) ps x
posts_back d n [] x m = inr (refl, m)
posts_back d n (over ∷ []) x (inl m) = inl (beyond Dot, [], m, (refl, refl))
posts_back d n (over ∷ []) x (inr m) = inl (beyond OpenBracket, [], m, (refl, refl))
posts_back d n (over ∷ p ∷ ps) x m = absurd m
posts_back d zero (named k ∷ ps) x m = absurd m
posts_back d zero (indexed t ∷ ps) x m = absurd m
posts_back d (suc n) (named k ∷ ps) x m =
    inl (mark Dot, m.1, m.2 ∙ ap (λ z. z ++ m.1) (m.3.2 ∙ ap (λ z. z ∷ []) (mark_is Dot m.3.0 tt m.3.1)), ((k, ps), refl, m.4))
posts_back d (suc n) (indexed t ∷ ps) x m =
    inl (mark OpenBracket, m.1, m.2 ∙ ap (λ z. z ++ m.1) (m.3.2 ∙ ap (λ z. z ∷ []) (mark_is OpenBracket m.3.0 tt m.3.1)), ((t, ps), refl, m.4))

post_first : (d n : ℕ) (ps : List Post) (x : List Word) → ByWord (PostBehind d n) ps x → HasHead starts_post x
post_first d n ps x m = subst (HasHead starts_post) (sym m.2) (by n m.0 m.3)
  where
    by : (n : ℕ) (w : Word) → PostBehind d n w ps m.1 → starts_post w ≡ true
    by n (mark Dot) m = refl
    by n (mark OpenBracket) m = refl
    by n (beyond Dot) m = refl
    by n (beyond OpenBracket) m = refl
    by n _ m = absurd m

pub posts_head : (d n : ℕ) (p : Post) (ps : List Post) (x : List Word) → Posts d n (p ∷ ps) x → HasHead starts_post x
posts_head d n p ps x m = by (posts_back d n (p ∷ ps) x m)
  where
    by : Or (ByWord (PostBehind d n)) (Just []) (p ∷ ps) x → HasHead starts_post x
    by (inl m) = post_first d n (p ∷ ps) x m
    by (inr m) = absurd (cc (m.0))

-- an arm that is exact is so in some way
pub exact_arm : {A : Type 0} (Q : A → Phrase) (on : A → Word → Bool) (L : Type 0) (arm : Arm A) → IsArm Q on L arm → IsExactArm arm
exact_arm Q on L stop h = tt
exact_arm Q on L limit h = tt
exact_arm Q on L (go p) h = (Q, on, h)

over_part : Exact (Just (over ∷ [])) after_posts (done (over ∷ []))
over_part = exact_done_on (over ∷ []) after_posts (λ w. refl) meek_posts

last_arms : (d : ℕ) → Arms (PostBehind d zero) after_posts last_post_arm
last_arms d = record {
  each = each;
  at_deep = refl;
  at_beyond = beyonds;
  some = record { tree = over ∷ []; text = beyond Dot ∷ []; spelled = (beyond Dot, [], refl, (refl, refl)) };
  meek = meek_posts;
}
  where
    each : (w : Word) → IsArm (PostBehind d zero w) after_posts (Limit (PostBehind d zero) w) (last_post_arm w)
    each (mark Dot) = (λ a x m. m, (Dot, refl, record { tree = over ∷ []; text = []; spelled = (refl, refl) }))
    each (mark OpenBracket) = (λ a x m. m, (OpenBracket, refl, record { tree = over ∷ []; text = []; spelled = (refl, refl) }))
    each (beyond Dot) = over_part
    each (beyond OpenBracket) = over_part
    each _ = λ a x m. m

    beyonds : (m : Punctuator) → last_post_arm (mark m) ≡ stop → last_post_arm (beyond m) ≡ stop
    beyonds Dot e = absurd cc
    beyonds OpenBracket e = absurd cc
    beyonds _ e = refl

post_arms : (d n : ℕ) (e : Reader Tree) → Exact (E d) after e → Exact (Posts d n) after_posts (posts n e) → Arms (PostBehind d (suc n)) after_posts (post_arm e (posts n e))
post_arms d n e h again = record {
  each = each;
  at_deep = refl;
  at_beyond = beyonds;
  some = record { tree = over ∷ []; text = beyond Dot ∷ []; spelled = (beyond Dot, [], refl, (refl, refl)) };
  meek = meek_posts;
}
  where
    each : (w : Word) → IsArm (PostBehind d (suc n) w) after_posts (Limit (PostBehind d (suc n)) w) (post_arm e (posts n e) w)
    each (mark Dot) = exact_made named_and (Seq (one name_of) (λ m. Posts d n)) after_posts (both (want name_of) (λ m. posts n e)) (word_and a_name (λ m. again)) meek_posts
    each (mark OpenBracket) =
        exact_made indexed_and (Seq (Trail (E d) (is_mark CloseBracket)) (λ t. Posts d n)) after_posts (both (closed e (is_mark CloseBracket)) (λ t. posts n e))
        (part_and (up_to h (the_mark CloseBracket) (mark_after CloseBracket refl)) (λ t. again) (joins_never (λ t. Posts d n) after_posts meek_posts)) meek_posts
    each (beyond Dot) = over_part
    each (beyond OpenBracket) = over_part
    each _ = λ a x m. m

    beyonds : (m : Punctuator) → post_arm e (posts n e) (mark m) ≡ stop → post_arm e (posts n e) (beyond m) ≡ stop
    beyonds Dot k = absurd cc
    beyonds OpenBracket k = absurd cc
    beyonds _ k = refl

pub posts_part : (d n : ℕ) (e : Reader Tree) → Exact (E d) after e → Exact (Posts d n) after_posts (posts n e)
posts_part d zero e h =
    exact_for (Or (ByWord (PostBehind d zero)) (Just [])) (Posts d zero) after_posts (posts zero e) (posts_there d zero) (posts_back d zero)
    (exact_optional starts_post [] (exact_word (PostBehind d zero) after_posts last_post_arm (last_arms d)) (post_first d zero) (λ w. refl) meek_post
    (eager_word starts_post last_post_arm not_stop (λ w. exact_arm (PostBehind d zero w) after_posts (Limit (PostBehind d zero) w) (last_post_arm w) ((last_arms d).each w))))
  where
    not_stop : (w : Word) → starts_post w ≡ true → IsStop (last_post_arm w) → ⊥
    not_stop (mark Dot) k s = s
    not_stop (mark OpenBracket) k s = s
    not_stop (beyond Dot) k s = s
    not_stop (beyond OpenBracket) k s = s
    not_stop _ k s = absurd cc
posts_part d (suc n) e h =
    let arms = post_arms d n e h (posts_part d n e h) in
    exact_for (Or (ByWord (PostBehind d (suc n))) (Just [])) (Posts d (suc n)) after_posts (posts (suc n) e) (posts_there d (suc n)) (posts_back d (suc n))
    (exact_optional starts_post [] (exact_word (PostBehind d (suc n)) after_posts (post_arm e (posts n e)) arms) (post_first d (suc n)) (λ w. refl) meek_post
    (eager_word starts_post (post_arm e (posts n e)) not_stop (λ w. exact_arm (PostBehind d (suc n) w) after_posts (Limit (PostBehind d (suc n)) w) (post_arm e (posts n e) w) (arms.each w))))
  where
    not_stop : (w : Word) → starts_post w ≡ true → IsStop (post_arm e (posts n e) w) → ⊥
    not_stop (mark Dot) k s = s
    not_stop (mark OpenBracket) k s = s
    not_stop (beyond Dot) k s = s
    not_stop (beyond OpenBracket) k s = s
    not_stop _ k s = absurd cc

-- ---- what continues the whole

pub posted_after : (p : Post) (ps : List Post) (e : Tree) (w : Word) → after (posted e (p ∷ ps)) w ≡ after_posts (p ∷ ps) w
posted_after (named m) [] e w = refl
posted_after (indexed t) [] e w = refl
posted_after over [] e w = refl
posted_after (named m) (q ∷ qs) e w = posted_after q qs (member e m) w
posted_after (indexed t) (q ∷ qs) e w = posted_after q qs (index e t) w
posted_after over (q ∷ qs) e w = posted_after q qs (too_many e) w
