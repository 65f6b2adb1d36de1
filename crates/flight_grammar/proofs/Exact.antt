-- What makes a reading exact.
use Rattle.std.proofs.Common.{◌≡◌, Bool, true, false, cond, ◌⊎◌, inl, inr, List, [], ◌∷◌, ◌++◌, length, Result, Ok, Err, refl, sym, ap, subst, ◌∙◌, append_assoc}
use Rattle.flight_syntax.specs.declared.word.Punctuator.{Punctuator}
use Rattle.flight_syntax.specs.Lexicon.{Word, mark, deep, beyond, Phrase}
use Rattle.flight_grammar.specs.Reading.{Fault, Reader, ◌>>=◌, next_is}
use Rattle.flight_grammar.specs.Verdict.{Alike, IsDeeper}

-- the next word does not continue
abbrev pub Closed : (Word → Bool) → List Word → Type 0
Closed on words = next_is on words ≡ false

-- the next word is one of these
abbrev pub HasHead : (Word → Bool) → List Word → Type 0
HasHead starts words = next_is starts words ≡ true

-- the same next word, or the end in both; where it is not too deep, also what is too deep there
abbrev pub Near : Bool → List Word → List Word → Type 0
Near too_deep bad others = Alike bad others ⊎ ((too_deep ≡ false) × IsDeeper bad others)

-- among the words are none of those that stand for what is too deep, unless the words that these are in place of are there too
pub record IsMeek (on : Word → Bool) : Type 0 where
  pub at_deep : on deep ≡ false
  pub at_beyond : (m : Punctuator) → on (mark m) ≡ false → on (beyond m) ≡ false

pub record Split {A : Type 0} (P : A → Phrase) (on : A → Word → Bool) (words : List Word) (a : A) (rest : List Word) : Type 0 where
  pub front : List Word
  pub whole : words ≡ front ++ rest
  pub spelled : P a front
  pub closed : Closed (on a) rest

pub record Stop {A : Type 0} (P : A → Phrase) (r : Reader A) (words : List Word) (f : Fault) : Type 0 where
  pub before : List Word
  pub bad : List Word
  pub whole : words ≡ before ++ bad
  pub is_left : f.left ≡ length bad
  -- what was read begins one
  pub rest : List Word
  pub tree : A
  pub begun : P tree (before ++ rest)
  pub deeper : f.too_deep ≡ true → IsDeeper bad rest
  -- whatever comes behind the bad word, the reading ends there
  pub fails : (others : List Word) → Near f.too_deep bad others → r (before ++ others) ≡ Err (record { too_deep = f.too_deep; left = length others })

-- an example
pub record Made {A : Type 0} (P : A → Phrase) : Type 0 where
  pub tree : A
  pub text : List Word
  pub spelled : P tree text

-- The reader reads just what is spelled, up to a word that does not continue it.
pub record Exact {A : Type 0} (P : A → Phrase) (on : A → Word → Bool) (r : Reader A) : Type 0 where
  pub sound : (words : List Word) (a : A) (rest : List Word) → r words ≡ Ok (a, rest) → Split P on words a rest
  pub complete : (a : A) (x rest : List Word) → P a x → Closed (on a) rest → r (x ++ rest) ≡ Ok (a, rest)
  pub stops : (words : List Word) (f : Fault) → r words ≡ Err f → Stop P r words f
  pub meek : (a : A) → IsMeek (on a)
  pub some : Made P

-- ---- words that do not continue

abbrev pub none : Word → Bool
none word = false

abbrev pub never : {A : Type 0} → A → Word → Bool
never a = none

abbrev pub or : (Word → Bool) → (Word → Bool) → Word → Bool
or f g word = cond (f word) true (g word)

pub closed_none : (words : List Word) → Closed none words
closed_none [] = refl
closed_none (w ∷ ws) = refl

pub cond_false : (b c : Bool) → cond b true c ≡ false → (b ≡ false) × (c ≡ false)
cond_false true c e = absurd cc
cond_false false c e = (refl, e)

pub closed_both : (f g : Word → Bool) (ts : List Word) → Closed f ts → Closed g ts → Closed (or f g) ts
closed_both f g [] p q = refl
closed_both f g (t ∷ ts) p q = rw p q

pub closed_left : (f g : Word → Bool) (ts : List Word) → Closed (or f g) ts → Closed f ts
closed_left f g [] p = refl
closed_left f g (t ∷ ts) p = (cond_false (f t) (g t) p).0

pub closed_right : (f g : Word → Bool) (ts : List Word) → Closed (or f g) ts → Closed g ts
closed_right f g [] p = refl
closed_right f g (t ∷ ts) p = (cond_false (f t) (g t) p).1

pub meek_none : IsMeek none
meek_none = record { at_deep = refl; at_beyond = λ m e. refl }

pub meek_or : (f g : Word → Bool) → IsMeek f → IsMeek g → IsMeek (or f g)
meek_or f g hf hg = record {
  at_deep = rw hf.at_deep hg.at_deep;
  at_beyond = λ m e. let p = cond_false (f (mark m)) (g (mark m)) e in rw (hf.at_beyond m p.0) (hg.at_beyond m p.1);
}

pub deeper_view : (bad others : List Word) → IsDeeper bad others
    → ((us : List Word) × (others ≡ deep ∷ us)) ⊎ ((m : Punctuator) × (ws : List Word) × (us : List Word) × (bad ≡ mark m ∷ ws) × (others ≡ beyond m ∷ us))
deeper_view bad (deep ∷ us) h = inl (us, refl)
deeper_view (mark m ∷ ws) (beyond n ∷ us) h = inr (m, ws, us, refl, ap (λ z. beyond z ∷ us) (sym h))
deeper_view _ _ h = absurd h

pub deeper_more : (bad others more : List Word) → IsDeeper bad others → IsDeeper bad (others ++ more)
deeper_more bad (deep ∷ us) more h = tt
deeper_more (mark m ∷ ws) (beyond n ∷ us) more h = h
deeper_more _ _ more h = absurd h

alike_closed : (on : Word → Bool) (bad others : List Word) → Alike bad others → Closed on bad → Closed on others
alike_closed on [] [] k c = refl
alike_closed on (t ∷ ts) (u ∷ us) k c = ap on (sym k) ∙ c
alike_closed on [] (u ∷ us) k c = absurd k
alike_closed on (t ∷ ts) [] k c = absurd k

near_closed : (on : Word → Bool) → IsMeek on → (deeper : Bool) (bad others : List Word) → Near deeper bad others → Closed on bad → Closed on others
near_closed on h deeper bad others (inl k) c = alike_closed on bad others k c
near_closed on h deeper bad others (inr k) c = elim (deeper_view bad others k.1) [
  | inl v ↦ subst (λ z. Closed on z) (sym v.1) h.at_deep
  | inr v ↦ subst (λ z. Closed on z) (sym v.4) (h.at_beyond v.0 (subst (λ z. Closed on z) v.3 c))
]

pub closed_near : (on : Word → Bool) → IsMeek on → (deeper : Bool) (words before bad others : List Word) → words ≡ before ++ bad → Near deeper bad others → Closed on words → Closed on (before ++ others)
closed_near on h deeper words [] bad others e k c = near_closed on h deeper bad others k (subst (λ z. Closed on z) e c)
closed_near on h deeper words (t ∷ ts) bad others e k c = subst (λ z. Closed on z) e c

alike_head : (starts : Word → Bool) (bad others : List Word) → Alike bad others → HasHead starts bad → HasHead starts others
alike_head starts [] [] k h = h
alike_head starts (t ∷ ts) (u ∷ us) k h = ap starts (sym k) ∙ h
alike_head starts [] (u ∷ us) k h = absurd k
alike_head starts (t ∷ ts) [] k h = absurd k

-- the head stays, where the reading does not end at once
pub head_near : (starts : Word → Bool) (deeper : Bool) (words before bad others : List Word) → words ≡ before ++ bad → Near deeper bad others → (before ≡ [] → deeper ≡ false → ⊥) → HasHead starts words → HasHead starts (before ++ others)
head_near starts deeper words [] bad others e (inl k) late h = alike_head starts bad others k (subst (λ z. HasHead starts z) e h)
head_near starts deeper words [] bad others e (inr k) late h = absurd (late refl k.0)
head_near starts deeper words (t ∷ ts) bad others e k late h = subst (λ z. HasHead starts z) e h

pub head_append : (starts : Word → Bool) (x y : List Word) → HasHead starts x → HasHead starts (x ++ y)
head_append starts [] y k = absurd cc
head_append starts (t ∷ ts) y k = k

pub head_cases : (starts : Word → Bool) (words : List Word) → HasHead starts words ⊎ Closed starts words
head_cases starts words = go (next_is starts words) refl
  where
    go : (b : Bool) → next_is starts words ≡ b → (next_is starts words ≡ true) ⊎ (next_is starts words ≡ false)
    go true e = inl e
    go false e = inr e

-- ---- results

abbrev done : {A : Type 0} → A → Result A Fault
done x = Ok x

abbrev failed : {A : Type 0} → Fault → Result A Fault
failed f = Err f

pub ok_is : {A : Type 0} (x y : A) → done x ≡ done y → x ≡ y
ok_is x y e = cc

pub err_is : {A : Type 0} (f g : Fault) → failed {A = A} f ≡ failed g → f ≡ g
err_is f g e = cc

pub ok_err : {A : Type 0} (x : A) (f : Fault) → done x ≡ failed f → ⊥
ok_err x f e = cc

pub bind_ok : {A B : Type 0} (r : Result A Fault) (f : A → Result B Fault) (y : B) → (r >>= f) ≡ Ok y → (x : A) × (r ≡ Ok x) × (f x ≡ Ok y)
bind_ok (Ok x) f y e = (x, refl, e)
bind_ok (Err d) f y e = absurd cc

pub bind_err : {A B : Type 0} (r : Result A Fault) (f : A → Result B Fault) (d : Fault) → (r >>= f) ≡ Err d → (r ≡ Err d) ⊎ ((x : A) × (r ≡ Ok x) × (f x ≡ Err d))
bind_err (Ok x) f d e = inr (x, refl, e)
bind_err (Err c) f d e = inl (cc)

pub grown : (ts x us y rest : List Word) → ts ≡ x ++ us → us ≡ y ++ rest → ts ≡ (x ++ y) ++ rest
grown ts x us y rest p q = p ∙ ap (λ w. x ++ w) q ∙ sym (append_assoc x y rest)

-- ---- the same said otherwise

-- the same reader
pub exact_as : {A : Type 0} (P : A → Phrase) (on : A → Word → Bool) (r s : Reader A) → ((ts : List Word) → r ts ≡ s ts) → Exact P on s → Exact P on r
exact_as P on r s same h = record {
  sound = λ ts a rest e. h.sound ts a rest (sym (same ts) ∙ e);
  complete = λ a x rest m c. same (x ++ rest) ∙ h.complete a x rest m c;
  stops = λ ts f e.
      let t = h.stops ts f (sym (same ts) ∙ e) in
      record { before = t.before; bad = t.bad; whole = t.whole; is_left = t.is_left; rest = t.rest; tree = t.tree; begun = t.begun; deeper = t.deeper; fails = λ others k. same (t.before ++ others) ∙ t.fails others k };
  meek = h.meek;
  some = h.some;
}

-- the same phrases
pub exact_for : {A : Type 0} (P Q : A → Phrase) (on : A → Word → Bool) (r : Reader A) → ((a : A) (x : List Word) → P a x → Q a x) → ((a : A) (x : List Word) → Q a x → P a x) → Exact P on r → Exact Q on r
exact_for P Q on r there back h = record {
  sound = λ ts a rest e. let s = h.sound ts a rest e in record { front = s.front; whole = s.whole; spelled = there a s.front s.spelled; closed = s.closed };
  complete = λ a x rest m c. h.complete a x rest (back a x m) c;
  stops = λ ts f e.
      let t = h.stops ts f e in
      record { before = t.before; bad = t.bad; whole = t.whole; is_left = t.is_left; rest = t.rest; tree = t.tree; begun = there t.tree (t.before ++ t.rest) t.begun; deeper = t.deeper; fails = t.fails };
  meek = h.meek;
  some = record { tree = h.some.tree; text = h.some.text; spelled = there h.some.tree h.some.text h.some.spelled };
}

closed_is : (f g : Word → Bool) → ((w : Word) → f w ≡ g w) → (ts : List Word) → Closed f ts → Closed g ts
closed_is f g e [] c = refl
closed_is f g e (t ∷ ts) c = sym (e t) ∙ c

-- the same continuing words
pub exact_on : {A : Type 0} (P : A → Phrase) (on other : A → Word → Bool) (r : Reader A) → ((a : A) (w : Word) → on a w ≡ other a w) → Exact P on r → Exact P other r
exact_on P on other r same h = record {
  sound = λ ts a rest e. let s = h.sound ts a rest e in record { front = s.front; whole = s.whole; spelled = s.spelled; closed = closed_is (on a) (other a) (same a) rest s.closed };
  complete = λ a x rest m c. h.complete a x rest m (closed_is (other a) (on a) (λ w. sym (same a w)) rest c);
  stops = h.stops;
  meek = λ a. record {
    at_deep = sym (same a deep) ∙ (h.meek a).at_deep;
    at_beyond = λ m e. sym (same a (beyond m)) ∙ (h.meek a).at_beyond m (same a (mark m) ∙ e);
  };
  some = h.some;
}
