-- A choice by the next word, what is read up to a word, and reading that does not end at once.
use Rattle.std.proofs.Common.{◌≡◌, ℕ, suc, ◌+◌, ◌≤◌, Bool, true, false, ◌⊎◌, inl, inr, List, [], ◌∷◌, ◌++◌, length, Option, Some, None, Ok, Err, refl, sym, ap, subst, ◌∙◌, arith}
use Rattle.std.proofs.lemmas.List.{length-append}
use Rattle.flight_syntax.specs.Lexicon.{Word, Phrase, ◌▸◌, one, U}
use Rattle.flight_grammar.specs.Reading.{Fault, Read, Reader, unexpected, ◌>>=◌, taken, want, is_some, at, done, paired, both, made, behind, closed, choice, Arm, stop, limit, go, by_arm, by_word}
use Rattle.flight_grammar.proofs.Exact.{Closed, HasHead, IsMeek, Split, Stop, Exact, none, never, closed_none, closed_near, head_near, head_append, head_cases, meek_none, err_is, bind_err, exact_as, exact_for}
use Rattle.flight_grammar.proofs.Parts.{Just, exact_done, Seq, Joins, exact_both, Image, exact_made, Terminal, exact_want, exact_behind}

-- ---- reading that does not end at once

-- at a word that starts it, it does not end there because none continues with the word
abbrev pub IsEager : {A : Type 0} → (Word → Bool) → Reader A → Type 0
IsEager starts p = (ts : List Word) → HasHead starts ts → p ts ≡ unexpected ts → ⊥

left_within : {A : Type 0} (P : A → Phrase) (on : A → Word → Bool) (p : Reader A) → Exact P on p → (ts : List Word) (f : Fault) → p ts ≡ Err f → f.left ≤ length ts
left_within P on p h ts f e =
    let s = h.stops ts f e in
    let whole : length ts ≡ length s.before + length s.bad = ap length s.whole ∙ length-append s.before s.bad in
    omega (arith, whole, s.is_left)

not_at_once : {A : Type 0} (P : A → Phrase) (on : A → Word → Bool) (p : Reader A) → Exact P on p → (w : Word) (ts : List Word) → p ts ≡ unexpected (w ∷ ts) → ⊥
not_at_once P on p h w ts e =
    let le : suc (length ts) ≤ length ts = left_within P on p h ts (record { too_deep = false; left = suc (length ts) }) e in
    absurd (omega (arith, le))

pub eager_behind : {A : Type 0} (take : Word → Option U) (P : A → Phrase) (on : A → Word → Bool) (p : Reader A) → Exact P on p → IsEager (at take) (behind take p)
eager_behind take P on p h [] k e = absurd cc
eager_behind {A} take P on p h (w ∷ ws) k e = by (take w) refl
  where
    by : (o : Option U) → take w ≡ o → ⊥
    by None q = absurd (cc (sym k ∙ ap is_some q))
    by (Some u) q = not_at_once P on p h w ws (sym (ap (λ o. taken o w ws >>= λ u. p u.1) q) ∙ e)

pub eager_both : {A B : Type 0} (take : Word → Option A) (Q : A → B → Phrase) (on : A → B → Word → Bool) (q : A → Reader B) → ((a : A) → Exact (Q a) (on a) (q a)) → IsEager (at take) (both (want take) q)
eager_both take Q on q h [] k e = absurd cc
eager_both {A} {B} take Q on q h (w ∷ ws) k e = by (take w) refl
  where
    by : (o : Option A) → take w ≡ o → ⊥
    by None r = absurd (cc (sym k ∙ ap is_some r))
    by (Some a) r = elim (bind_err (q a ws) (λ b. paired a b) _ (sym (ap (λ o. taken o w ws >>= λ a. q a.0 a.1 >>= λ b. paired a.0 b) r) ∙ e)) [
      | inl g ↦ not_at_once (Q a) (on a) (q a) (h a) w ws g
      | inr g ↦ absurd (cc (g.2))
    ]

pub eager_made : {A B : Type 0} (starts : Word → Bool) (put : B → A) (q : Reader B) → IsEager starts q → IsEager starts (made put q)
eager_made starts put q h ts k e = elim (bind_err (q ts) (λ b. Ok (put b.0, b.1)) _ e) [
  | inl g ↦ h ts k g
  | inr g ↦ absurd (cc (g.2))
]

pub eager_want : {A : Type 0} (take : Word → Option A) → IsEager (at take) (want take)
eager_want take [] k e = absurd cc
eager_want {A} take (w ∷ ws) k e = by (take w) refl
  where
    by : (o : Option A) → take w ≡ o → ⊥
    by None r = absurd (cc (sym k ∙ ap is_some r))
    by (Some a) r = absurd (cc (sym (ap (λ o. taken o w ws) r) ∙ e))

abbrev pub IsStop : {A : Type 0} → Arm A → Type 0
IsStop stop = Unit {0}
IsStop limit = ⊥
IsStop (go p) = ⊥

-- what an arm reads is exact in some way
abbrev pub IsExactArm : {A : Type 0} → Arm A → Type 1
IsExactArm stop = Unit {1}
IsExactArm limit = Unit {1}
IsExactArm {A} (go p) = (P : A → Phrase) × (on : A → Word → Bool) × Exact P on p

pub eager_word : {A : Type 0} (starts : Word → Bool) (arms : Word → Arm A) → ((w : Word) → starts w ≡ true → IsStop (arms w) → ⊥) → ((w : Word) → IsExactArm (arms w)) → IsEager starts (by_word arms)
eager_word starts arms h x [] k e = absurd cc
eager_word {A} starts arms h x (w ∷ ws) k e = by (arms w) (h w k) (x w) e
  where
    by : (arm : Arm A) → (IsStop arm → ⊥) → IsExactArm arm → by_arm arm w ws ≡ unexpected (w ∷ ws) → ⊥
    by stop n x e = n tt
    by limit n x e = let deep : true ≡ false = ap (λ (f : Fault). f.too_deep) (err_is {A = A × List Word} _ _ e) in absurd cc
    by (go p) n x e = not_at_once x.0 x.1 p x.2 w ws e

-- ---- by the next word

abbrev pub Or : {A : Type 0} → (A → Phrase) → (A → Phrase) → A → Phrase
Or P Q a words = P a words ⊎ Q a words

pub record Told {A : Type 0} (P Q : A → Phrase) (on after : A → Word → Bool) (starts : Word → Bool) (p : Reader A) : Type 0 where
  pub first : (a : A) (x : List Word) → P a x → HasHead starts x
  pub other : (a : A) (x rest : List Word) → Q a x → Closed (on a) rest → Closed starts (x ++ rest)
  pub meek : IsMeek starts
  pub eager : IsEager starts p
  -- what continues the second, where it was chosen
  pub less : (a : A) (x rest : List Word) → Q a x → Closed (on a) rest → Closed (after a) rest
  pub more : (a : A) (x rest : List Word) → Q a x → Closed starts (x ++ rest) → Closed (after a) rest → Closed (on a) rest

choice_left : {A : Type 0} (starts : Word → Bool) (p q : Reader A) (ts : List Word) → HasHead starts ts → choice starts p q ts ≡ p ts
choice_left starts p q ts h = rw h refl

choice_right : {A : Type 0} (starts : Word → Bool) (p q : Reader A) (ts : List Word) → Closed starts ts → choice starts p q ts ≡ q ts
choice_right starts p q ts h = rw h refl

abbrev fault : Bool → ℕ → Fault
fault d n = record { too_deep = d; left = n }

abbrev ends : {A : Type 0} → Fault → Read A
ends f = Err f

-- reading that ends with nothing read ends at once
pub ends_at_once : {A : Type 0} (starts : Word → Bool) (p : Reader A) → IsEager starts p → (ts before bad : List Word) (f : Fault) → p ts ≡ Err f → ts ≡ before ++ bad → f.left ≡ length bad → HasHead starts ts → before ≡ [] → f.too_deep ≡ false → ⊥
ends_at_once {A} starts p eager ts before bad f e whole left k none deep =
    let is : ts ≡ bad = whole ∙ ap (λ z. z ++ bad) none in
    let n : f.left ≡ length ts = left ∙ ap length (sym is) in
    let at : f ≡ fault false (length ts) = ap (λ d. fault d f.left) deep ∙ ap (λ n. fault false n) n in
    eager ts k (e ∙ ap (λ g. ends g) at)

choice_sound : {A : Type 0} (P Q : A → Phrase) (on after : A → Word → Bool) (starts : Word → Bool) (p q : Reader A) → Exact P on p → Exact Q after q → Told P Q on after starts p
    → (ts : List Word) (a : A) (rest : List Word) → choice starts p q ts ≡ Ok (a, rest) → Split (Or P Q) on ts a rest
choice_sound {A} P Q on after starts p q hp hq t ts a rest e = elim (head_cases starts ts) [
  | inl h ↦ let s = hp.sound ts a rest (sym (choice_left starts p q ts h) ∙ e) in record { front = s.front; whole = s.whole; spelled = inl s.spelled; closed = s.closed }
  | inr h ↦
      let s = hq.sound ts a rest (sym (choice_right starts p q ts h) ∙ e) in
      record { front = s.front; whole = s.whole; spelled = inr s.spelled; closed = t.more a s.front rest s.spelled (subst (λ z. Closed starts z) s.whole h) s.closed }
]

choice_complete : {A : Type 0} (P Q : A → Phrase) (on after : A → Word → Bool) (starts : Word → Bool) (p q : Reader A) → Exact P on p → Exact Q after q → Told P Q on after starts p
    → (a : A) (x rest : List Word) → Or P Q a x → Closed (on a) rest → choice starts p q (x ++ rest) ≡ Ok (a, rest)
choice_complete P Q on after starts p q hp hq t a x rest (inl m) c = choice_left starts p q (x ++ rest) (head_append starts x rest (t.first a x m)) ∙ hp.complete a x rest m c
choice_complete P Q on after starts p q hp hq t a x rest (inr m) c = choice_right starts p q (x ++ rest) (t.other a x rest m c) ∙ hq.complete a x rest m (t.less a x rest m c)

choice_stops : {A : Type 0} (P Q : A → Phrase) (on after : A → Word → Bool) (starts : Word → Bool) (p q : Reader A) → Exact P on p → Exact Q after q → Told P Q on after starts p
    → (ts : List Word) (f : Fault) → choice starts p q ts ≡ Err f → Stop (Or P Q) (choice starts p q) ts f
choice_stops {A} P Q on after starts p q hp hq t ts f e = elim (head_cases starts ts) [
  | inl h ↦
      let found = sym (choice_left starts p q ts h) ∙ e in
      let s = hp.stops ts f found in
      record {
        before = s.before;
        bad = s.bad;
        whole = s.whole;
        is_left = s.is_left;
        rest = s.rest;
        tree = s.tree;
        begun = inl s.begun;
        deeper = s.deeper;
        fails = λ others k.
            choice_left starts p q (s.before ++ others) (head_near starts f.too_deep ts s.before s.bad others s.whole k (ends_at_once starts p t.eager ts s.before s.bad f found s.whole s.is_left h) h)
            ∙ s.fails others k;
      }
  | inr h ↦
      let s = hq.stops ts f (sym (choice_right starts p q ts h) ∙ e) in
      record {
        before = s.before;
        bad = s.bad;
        whole = s.whole;
        is_left = s.is_left;
        rest = s.rest;
        tree = s.tree;
        begun = inr s.begun;
        deeper = s.deeper;
        fails = λ others k. choice_right starts p q (s.before ++ others) (closed_near starts t.meek f.too_deep ts s.before s.bad others s.whole k h) ∙ s.fails others k;
      }
]

pub exact_choice : {A : Type 0} (P Q : A → Phrase) (on after : A → Word → Bool) (starts : Word → Bool) (p q : Reader A) → Exact P on p → Exact Q after q → Told P Q on after starts p → Exact (Or P Q) on (choice starts p q)
exact_choice P Q on after starts p q hp hq t = record {
  sound = choice_sound P Q on after starts p q hp hq t;
  complete = choice_complete P Q on after starts p q hp hq t;
  stops = choice_stops P Q on after starts p q hp hq t;
  meek = hp.meek;
  some = record { tree = hp.some.tree; text = hp.some.text; spelled = inl hp.some.spelled };
}

-- one of two that nothing continues
pub exact_one_of : {A : Type 0} {P Q : A → Phrase} {p q : Reader A} (starts : Word → Bool) → Exact P never p → Exact Q never q → ((a : A) (x : List Word) → P a x → HasHead starts x) → ((a : A) (x rest : List Word) → Q a x → Closed starts (x ++ rest))
    → IsMeek starts → IsEager starts p → Exact (Or P Q) never (choice starts p q)
exact_one_of {A} {P} {Q} {p} {q} starts hp hq first other meek eager =
    exact_choice P Q never never starts p q hp hq
    (record { first = first; other = λ a x rest m c. other a x rest m; meek = meek; eager = eager; less = λ a x rest m c. c; more = λ a x rest m k c. c })

-- one, or nothing
pub exact_optional : {A : Type 0} {P : A → Phrase} {on : A → Word → Bool} {p : Reader A} (starts : Word → Bool) (b : A) → Exact P on p → ((a : A) (x : List Word) → P a x → HasHead starts x) → ((w : Word) → on b w ≡ starts w)
    → IsMeek starts → IsEager starts p → Exact (Or P (Just b)) on (choice starts p (done b))
exact_optional {A} {P} {on} {p} starts b hp first same meek eager =
    exact_choice P (Just b) on never starts p (done b) hp (exact_done b)
    (record { first = first; other = other; meek = meek; eager = eager; less = λ a x rest m c. closed_none rest; more = more })
  where
    is : (f g : Word → Bool) → ((w : Word) → f w ≡ g w) → (ts : List Word) → Closed f ts → Closed g ts
    is f g h [] c = refl
    is f g h (t ∷ ts) c = sym (h t) ∙ c

    other : (a : A) (x rest : List Word) → Just b a x → Closed (on a) rest → Closed starts (x ++ rest)
    other a x rest m c = subst (λ z. Closed starts (z ++ rest)) (sym m.1) (is (on b) starts same rest (subst (λ z. Closed (on z) rest) m.0 c))

    more : (a : A) (x rest : List Word) → Just b a x → Closed starts (x ++ rest) → Closed none rest → Closed (on a) rest
    more a x rest m k c = subst (λ z. Closed (on z) rest) (sym m.0) (is starts (on b) (λ w. sym (same w)) rest (subst (λ z. Closed starts (z ++ rest)) m.1 k))

-- ---- what comes next

abbrev pub IsApart : {A : Type 0} → (Word → Bool) → (A → Word → Bool) → Type 0
IsApart {A} test on = (a : A) (w : Word) → test w ≡ true → on a w ≡ false

pub head_closed : (test on : Word → Bool) (x rest : List Word) → ((w : Word) → test w ≡ true → on w ≡ false) → HasHead test x → Closed on (x ++ rest)
head_closed test on [] rest h k = absurd cc
head_closed test on (w ∷ ws) rest h k = h w k

-- where the second part begins with a word that does not continue the first
pub joins : {A B : Type 0} (on : A → Word → Bool) (Q : A → B → Phrase) (after : B → Word → Bool) (test : Word → Bool) → ((a : A) (b : B) (y : List Word) → Q a b y → HasHead test y) → IsApart test on → ((b : B) → IsMeek (after b))
    → Joins on Q after (λ c. after c.1)
joins on Q after test head h meek = record {
  follow = λ a b y rest m c. head_closed test (on a) y rest (h a) (head a b y m);
  last = λ a b rest c. c;
  all = λ a b y rest m c k. k;
  meek = λ c. meek c.1;
}

-- where nothing continues the first
pub joins_never : {A B : Type 0} (Q : A → B → Phrase) (after : B → Word → Bool) → ((b : B) → IsMeek (after b)) → Joins never Q after (λ c. after c.1)
joins_never Q after meek = record {
  follow = λ a b y rest m c. closed_none (y ++ rest);
  last = λ a b rest c. c;
  all = λ a b y rest m c k. k;
  meek = λ c. meek c.1;
}

pub one_head : {A : Type 0} (take : Word → Option A) (a : A) (x : List Word) → one take a x → HasHead (at take) x
one_head take a x m = subst (HasHead (at take)) (sym m.2) (ap is_some m.1)

pub behind_head : {A : Type 0} (take : Word → Option A) (a : A) (P : Phrase) (x : List Word) → (one take a ▸ P) x → HasHead (at take) x
behind_head take a P x m = subst (HasHead (at take)) (sym m.2) (head_append (at take) m.0 m.1 (one_head take a m.0 m.3))

-- one word and then
pub exact_one_and : {A B : Type 0} (take : Word → Option A) (Q : A → B → Phrase) (after : B → Word → Bool) (q : A → Reader B) → Terminal take → ((a : A) → Exact (Q a) after (q a)) → Exact (Seq (one take) Q) (λ c. after c.1) (both (want take) q)
exact_one_and take Q after q t h = exact_both (one take) Q never after (λ c. after c.1) (want take) q (exact_want take t) h (joins_never Q after (h t.some).meek)

-- ---- up to a word

abbrev with_word : {A : Type 0} → A → U × List Word → Read A
with_word a u = Ok (a, u.1)

abbrev without : {A : Type 0} → (A × U) × List Word → Read A
without c = Ok (c.0.0, c.1)

closed_is : {A : Type 0} (p : Reader A) (take : Word → Option U) (ts : List Word) → closed p take ts ≡ made (λ c. c.0) (both p (λ a. want take)) ts
closed_is {A} p take ts = by (p ts)
  where
    then : (a : A) (r : Read U) → (r >>= with_word a) ≡ ((r >>= paired a) >>= without)
    then a (Ok u) = refl
    then a (Err f) = refl

    by : (r : Read A) → (r >>= λ a. want take a.1 >>= with_word a.0) ≡ ((r >>= λ a. want take a.1 >>= paired a.0) >>= without)
    by (Ok a) = then a.0 (want take a.1)
    by (Err f) = refl

pub exact_closed : {A : Type 0} (P : A → Phrase) (on : A → Word → Bool) (p : Reader A) (take : Word → Option U) → Exact P on p → Terminal take → IsApart (at take) on → Exact (λ a. P a ▸ one take tt) never (closed p take)
exact_closed {A} P on p take h t k =
    exact_as (λ a. P a ▸ one take tt) never (closed p take) (made (λ c. c.0) (both p (λ a. want take))) (closed_is p take)
    (exact_for (Image (λ (c : A × U). c.0) (Seq P (λ a. one take))) (λ a. P a ▸ one take tt) never (made (λ c. c.0) (both p (λ a. want take)))
    (λ a x m. subst (λ z. (P z ▸ one take tt) x) m.1 m.2) (λ a x m. ((a, tt), refl, m))
    (exact_made (λ (c : A × U). c.0) (Seq P (λ a. one take)) never (both p (λ a. want take))
    (exact_both P (λ a. one take) on never never p (λ a. want take) h (λ a. exact_want take t) (joins on (λ a. one take) never (at take) (λ a b y m. one_head take b y m) k (λ b. meek_none)))
    (λ a. meek_none)))

-- ---- short forms

abbrev pub Lead : {A : Type 0} → (Word → Option U) → (A → Phrase) → A → Phrase
Lead take P a = one take tt ▸ P a

abbrev pub Trail : {A : Type 0} → (A → Phrase) → (Word → Option U) → A → Phrase
Trail P take a = P a ▸ one take tt

pub after_word : {A : Type 0} {take : Word → Option U} {P : A → Phrase} {on : A → Word → Bool} {p : Reader A} → Terminal take → Exact P on p → Exact (Lead take P) on (behind take p)
after_word {A} {take} {P} {on} {p} t h = exact_behind take P on p t h

pub word_and : {A B : Type 0} {take : Word → Option A} {Q : A → B → Phrase} {after : B → Word → Bool} {q : A → Reader B} → Terminal take → ((a : A) → Exact (Q a) after (q a)) → Exact (Seq (one take) Q) (λ c. after c.1) (both (want take) q)
word_and {A} {B} {take} {Q} {after} {q} t h = exact_one_and take Q after q t h

pub part_and : {A B : Type 0} {P : A → Phrase} {Q : A → B → Phrase} {on : A → Word → Bool} {after : B → Word → Bool} {fin : A × B → Word → Bool} {p : Reader A} {q : A → Reader B} → Exact P on p → ((a : A) → Exact (Q a) after (q a)) → Joins on Q after fin → Exact (Seq P Q) fin (both p q)
part_and {A} {B} {P} {Q} {on} {after} {fin} {p} {q} h k j = exact_both P Q on after fin p q h k j

pub up_to : {A : Type 0} {P : A → Phrase} {on : A → Word → Bool} {p : Reader A} {take : Word → Option U} → Exact P on p → Terminal take → IsApart (at take) on → Exact (Trail P take) never (closed p take)
up_to {A} {P} {on} {p} {take} h t k = exact_closed P on p take h t k

pub lead_joins : {A B : Type 0} (on : A → Word → Bool) (take : Word → Option U) (Q : A → B → Phrase) (after : B → Word → Bool) → IsApart (at take) on → ((b : B) → IsMeek (after b)) → Joins on (λ a. Lead take (Q a)) after (λ c. after c.1)
lead_joins on take Q after k meek = joins on (λ a. Lead take (Q a)) after (at take) (λ a b y m. behind_head take tt (Q a b) y m) k meek
