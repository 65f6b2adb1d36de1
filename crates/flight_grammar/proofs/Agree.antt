-- Readers that read the same, unless the first passes a limit.
use Rattle.std.proofs.Common.{◌≡◌, ℕ, zero, suc, Bool, true, false, if◌then◌else◌, ◌⊎◌, inl, inr, List, [], ◌∷◌, ◌++◌, length, Option, Some, None, Result, Ok, Err, refl, ap, subst, ◌∙◌}
use Rattle.flight_syntax.specs.declared.word.Punctuator.TheVariants.{Comma}
use Rattle.flight_syntax.specs.Lexicon.{Word, Phrase, U, is_mark, AreReal}
use Rattle.flight_grammar.specs.Reading.{Fault, Read, Reader, ◌>>=◌, taken, want, at, next_is, done, paired, both, made, behind, closed, choice, Arm, stop, limit, go, by_arm, by_word, consed, many_by, many, first_and, list_until}
use Rattle.flight_grammar.proofs.Exact.{Exact, ok_is}

abbrev pub IsTooDeep : {A : Type 0} → Result A Fault → Type 0
IsTooDeep (Ok x) = ⊥
IsTooDeep (Err f) = f.too_deep ≡ true

abbrev pub Same : {A : Type 0} → Result A Fault → Result A Fault → Type 0
Same r s = (r ≡ s) ⊎ IsTooDeep r

-- on real words
abbrev pub Agree : {A : Type 0} → Reader A → Reader A → Type 0
Agree r s = (ts : List Word) → AreReal ts → Same (r ts) (s ts)

-- what is left of real words is real
abbrev pub Keeps : {A : Type 0} → Reader A → Type 0
Keeps {A} r = (ts : List Word) (a : A) (rest : List Word) → AreReal ts → r ts ≡ Ok (a, rest) → AreReal rest

real_rest : (front rest : List Word) → AreReal (front ++ rest) → AreReal rest
real_rest [] rest h = h
real_rest (w ∷ ws) rest h = real_rest ws rest h.1

pub keeps : {A : Type 0} (P : A → Phrase) (on : A → Word → Bool) (r : Reader A) → Exact P on r → Keeps r
keeps P on r h ts a rest real e = let s = h.sound ts a rest e in real_rest s.front rest (subst AreReal s.whole real)

pub keeps_want : {A : Type 0} (take : Word → Option A) → Keeps (want take)
keeps_want take [] a rest real e = absurd cc
keeps_want {A} take (w ∷ ws) a rest real e = by (take w) e
  where
    by : (o : Option A) → taken o w ws ≡ Ok (a, rest) → AreReal rest
    by None e = absurd cc
    by (Some b) e = subst AreReal (ap (λ p. p.1) (ok_is (b, ws) (a, rest) e)) real.1

agree_bind : {A B : Type 0} (r s : Result A Fault) (f g : A → Result B Fault) → Same r s → ((a : A) → r ≡ Ok a → Same (f a) (g a)) → Same (r >>= f) (s >>= g)
agree_bind {A} {B} (Ok a) s f g (inl e) h = by (h a refl)
  where
    by : Same (f a) (g a) → Same (f a) (s >>= g)
    by (inl k) = inl (k ∙ ap (λ z. z >>= g) e)
    by (inr k) = inr k
agree_bind (Ok a) s f g (inr d) h = absurd d
agree_bind (Err x) s f g (inl e) h = inl (ap (λ z. z >>= g) e)
agree_bind (Err x) s f g (inr d) h = inr d

pub agree_self : {A : Type 0} (r : Reader A) → Agree r r
agree_self r ts real = inl refl

pub agree_both : {A B : Type 0} {p s : Reader A} {q t : A → Reader B} → Agree p s → Keeps p → ((a : A) → Agree (q a) (t a)) → Agree (both p q) (both s t)
agree_both {A} {B} {p} {s} {q} {t} h k l ts real =
    agree_bind (p ts) (s ts) (λ a. q a.0 a.1 >>= λ b. paired a.0 b) (λ a. t a.0 a.1 >>= λ b. paired a.0 b) (h ts real)
    (λ a e. agree_bind (q a.0 a.1) (t a.0 a.1) (λ b. paired a.0 b) (λ b. paired a.0 b) (l a.0 a.1 (k ts a.0 a.1 real e)) (λ b e. inl refl))

pub agree_made : {A B : Type 0} (put : A → B) {p s : Reader A} → Agree p s → Agree (made put p) (made put s)
agree_made put {p} {s} h ts real = agree_bind (p ts) (s ts) (λ a. Ok (put a.0, a.1)) (λ a. Ok (put a.0, a.1)) (h ts real) (λ a e. inl refl)

pub agree_behind : {A : Type 0} (take : Word → Option U) {p s : Reader A} → Agree p s → Agree (behind take p) (behind take s)
agree_behind take {p} {s} h ts real = agree_bind (want take ts) (want take ts) (λ u. p u.1) (λ u. s u.1) (inl refl) (λ u e. h u.1 (keeps_want take ts u.0 u.1 real e))

pub agree_closed : {A : Type 0} (take : Word → Option U) {p s : Reader A} → Agree p s → Agree (closed p take) (closed s take)
agree_closed take {p} {s} h ts real =
    agree_bind (p ts) (s ts) (λ a. want take a.1 >>= λ u. Ok (a.0, u.1)) (λ a. want take a.1 >>= λ u. Ok (a.0, u.1)) (h ts real) (λ a e. inl refl)

pub agree_choice : {A : Type 0} (starts : Word → Bool) {p s q t : Reader A} → Agree p s → Agree q t → Agree (choice starts p q) (choice starts s t)
agree_choice {A} starts {p} {s} {q} {t} h k ts real = by (next_is starts ts)
  where
    by : (b : Bool) → Same (if b then p ts else q ts) (if b then s ts else t ts)
    by true = h ts real
    by false = k ts real

abbrev pub AgreeArm : {A : Type 0} → Arm A → Arm A → Type 0
AgreeArm stop stop = Unit {0}
AgreeArm limit other = Unit {0}
AgreeArm (go p) (go s) = Agree p s
AgreeArm _ _ = ⊥

pub same_arm : {A : Type 0} (arm : Arm A) → AgreeArm arm arm
same_arm stop = tt
same_arm limit = tt
same_arm (go p) = agree_self p

pub agree_word : {A : Type 0} (arms others : Word → Arm A) → ((w : Word) → AreReal (w ∷ []) → AgreeArm (arms w) (others w)) → Agree (by_word arms) (by_word others)
agree_word arms others h [] real = inl refl
agree_word {A} arms others h (w ∷ ws) real = by (arms w) (others w) (h w (real.0, tt))
  where
    by : (a b : Arm A) → AgreeArm a b → Same (by_arm a w ws) (by_arm b w ws)
    by stop stop k = inl refl
    by limit b k = inr refl
    by (go p) (go s) k = k ws real.1
    by stop limit k = absurd k
    by stop (go s) k = absurd k
    by (go p) stop k = absurd k
    by (go p) limit k = absurd k

agree_by : {A : Type 0} (starts : Word → Bool) (p s : Reader A) → Agree p s → Keeps p → (n : ℕ) → Agree (many_by n starts p) (many_by n starts s)
agree_by starts p s h k zero ts real = inl refl
agree_by {A} starts p s h k (suc n) ts real = by (next_is starts ts) (agree_by starts p s h k n)
  where
    by : (b : Bool) → Agree (many_by n starts p) (many_by n starts s)
        → Same (if b then (p ts >>= λ a. many_by n starts p a.1 >>= λ c. consed a.0 c) else Ok ([], ts)) (if b then (s ts >>= λ a. many_by n starts s a.1 >>= λ c. consed a.0 c) else Ok ([], ts))
    by false again = inl refl
    by true again =
        agree_bind (p ts) (s ts) (λ a. many_by n starts p a.1 >>= λ c. consed a.0 c) (λ a. many_by n starts s a.1 >>= λ c. consed a.0 c) (h ts real)
        (λ a e. agree_bind (many_by n starts p a.1) (many_by n starts s a.1) (λ c. consed a.0 c) (λ c. consed a.0 c) (again a.1 (k ts a.0 a.1 real e)) (λ c e. inl refl))

pub agree_many : {A : Type 0} (starts : Word → Bool) {p s : Reader A} → Agree p s → Keeps p → Agree (many starts p) (many starts s)
agree_many starts {p} {s} h k ts real = agree_by starts p s h k (length ts) ts real

pub agree_list : {A : Type 0} (close : Word → Option U) {p s : Reader A} → Agree p s → Keeps p → Agree (list_until close p) (list_until close s)
agree_list close {p} {s} h k =
    agree_choice (at close) (agree_self (behind close (done [])))
    (agree_closed close (agree_made first_and (agree_both h k (λ a. agree_many (at (is_mark Comma)) (agree_behind (is_mark Comma) h) keep))))
  where
    keep : Keeps (behind (is_mark Comma) p)
    keep ts a rest real e = by (want (is_mark Comma) ts) refl e
      where
        by : (r : Read U) → want (is_mark Comma) ts ≡ r → (r >>= λ u. p u.1) ≡ Ok (a, rest) → AreReal rest
        by (Ok u) q e = k u.1 a rest (keeps_want (is_mark Comma) ts u.0 u.1 real q) e
        by (Err f) q e = absurd cc
