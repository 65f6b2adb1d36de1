-- Any number with commas between, up to a word.
use Rattle.std.proofs.Common.{◌≡◌, Bool, true, false, inl, inr, List, [], ◌∷◌, ◌++◌, Option, Ok, Err, refl, sym, ap, subst, ◌∙◌, append_assoc}
use Rattle.std.proofs.lemmas.List.{append-nil}
use Rattle.flight_syntax.specs.declared.word.Punctuator.TheVariants.{Comma}
use Rattle.flight_syntax.specs.Lexicon.{Word, Phrase, ◌▸◌, nothing, one, U, is_mark, sign}
use Rattle.flight_grammar.specs.Reading.{Read, Reader, at, done, both, made, behind, more, first_and, some_until, list_until}
use Rattle.flight_grammar.proofs.Exact.{Closed, HasHead, IsMeek, Exact, none, never, or, closed_left, closed_right, closed_both, head_append, exact_for}
use Rattle.flight_grammar.proofs.Parts.{Just, exact_done, Seq, Joins, exact_both, Image, exact_made, Terminal, meek_at, exact_behind}
use Rattle.flight_grammar.proofs.Choices.{IsApart, eager_behind, Or, exact_choice, head_closed, behind_head, exact_closed}
use Rattle.flight_grammar.proofs.Many.{Many, last_on, goes_on, exact_many, goes_apart}
use Rattle.flight_grammar.proofs.Terminals.{the_mark}

-- ---- words that do not begin one

abbrev pub IsErr : {A : Type 0} → Read A → Type 0
IsErr (Ok x) = ⊥
IsErr (Err f) = Unit {0}

-- the reader reads nothing at the end, nor at these words
pub record Refuses {A : Type 0} (test : Word → Bool) (p : Reader A) : Type 0 where
  pub at_end : IsErr (p [])
  pub at_word : (w : Word) (ws : List Word) → test w ≡ true → IsErr (p (w ∷ ws))

pub not_begun : {A : Type 0} (P : A → Phrase) (on : A → Word → Bool) (p : Reader A) (test : Word → Bool) → Exact P on p → Refuses test p → (a : A) (y z : List Word) → P a y → Closed test (y ++ z)
not_begun {A} P on p test h r a [] z m = absurd (subst (λ (x : Read A). IsErr x) (h.complete a [] [] m refl) r.at_end)
not_begun {A} P on p test h r a (w ∷ ws) z m = by (test w) refl
  where
    by : (b : Bool) → test w ≡ b → test w ≡ false
    by false e = e
    by true e = absurd (subst (λ (x : Read A). IsErr x) (h.complete a (w ∷ ws) [] m refl) (r.at_word w (ws ++ []) e))

-- ---- more, behind commas

abbrev pub Commaed : {A : Type 0} → (A → Phrase) → A → Phrase
Commaed P a = sign Comma ▸ P a

abbrev pub comma : Word → Bool
comma = at (is_mark Comma)

pub exact_more : {A : Type 0} (P : A → Phrase) (on : A → Word → Bool) (p : Reader A) → Exact P on p → IsApart comma on → Exact (Many (Commaed P)) (goes_on comma on) (more p)
exact_more P on p h k =
    exact_many (Commaed P) comma on (behind (is_mark Comma) p)
    (record { first = λ a x m. behind_head (is_mark Comma) tt (P a) x m; apart = k; meek = meek_at (is_mark Comma) (the_mark Comma); eager = eager_behind (is_mark Comma) P on p h })
    (exact_behind (is_mark Comma) P on p (the_mark Comma) h)

-- one and more
abbrev FirstAnd : {A : Type 0} → (A → Phrase) → A × List A → Phrase
FirstAnd P = Seq P (λ a. Many (Commaed P))

abbrev after_first : {A : Type 0} → (A → Word → Bool) → A × List A → Word → Bool
after_first on x = or comma (last_on on (on x.0) x.1)

head_of_many : {A : Type 0} (P : A → Phrase) (a : A) (items : List A) (y : List Word) → Many (Commaed P) (a ∷ items) y → HasHead comma y
head_of_many P a items y m = subst (HasHead comma) (sym m.2) (head_append comma m.0 m.1 (behind_head (is_mark Comma) tt (P a) m.0 m.3))

first_joins : {A : Type 0} (P : A → Phrase) (on : A → Word → Bool) → IsApart comma on → ((a : A) → IsMeek (on a)) → ((items : List A) → IsMeek (goes_on comma on items)) → Joins on (λ (a : A). Many (Commaed P)) (goes_on comma on) (after_first on)
first_joins {A} P on k meek meeks = record { follow = follow; last = last; all = all; meek = λ c. meeks (c.0 ∷ c.1) }
  where
    follow : (a : A) (items : List A) (y rest : List Word) → Many (Commaed P) items y → Closed (or comma (last_on on (on a) items)) rest → Closed (on a) (y ++ rest)
    follow a [] y rest m c = subst (λ w. Closed (on a) (w ++ rest)) (sym m) (closed_right comma (on a) rest c)
    follow a (b ∷ items) y rest m c = head_closed comma (on a) y rest (k a) (head_of_many P b items y m)

    last : (a : A) (items : List A) (rest : List Word) → Closed (or comma (last_on on (on a) items)) rest → Closed (goes_on comma on items) rest
    last a [] rest c = closed_both comma none rest (closed_left comma (on a) rest c) (none_closed rest)
      where
        none_closed : (rest : List Word) → Closed none rest
        none_closed [] = refl
        none_closed (w ∷ ws) = refl
    last a (b ∷ items) rest c = c

    all : (a : A) (items : List A) (y rest : List Word) → Many (Commaed P) items y → Closed (on a) (y ++ rest) → Closed (goes_on comma on items) rest → Closed (or comma (last_on on (on a) items)) rest
    all a [] y rest m c d = closed_both comma (on a) rest (closed_left comma none rest d) (subst (λ w. Closed (on a) (w ++ rest)) m c)
    all a (b ∷ items) y rest m c d = d

-- ---- up to a word

abbrev pub CommaList : {A : Type 0} → (A → Phrase) → List A → Phrase
CommaList P [] x = nothing x
CommaList P (a ∷ items) x = (P a ▸ Many (Commaed P) items) x

abbrev pub UntilList : {A : Type 0} → (Word → Option U) → (A → Phrase) → List A → Phrase
UntilList close P items = CommaList P items ▸ one close tt

abbrev SomeUntil : {A : Type 0} → (Word → Option U) → (A → Phrase) → List A → Phrase
SomeUntil close P items = Image first_and (FirstAnd P) items ▸ one close tt

abbrev NoneUntil : {A : Type 0} → (Word → Option U) → List A → Phrase
NoneUntil close items = one close tt ▸ Just [] items

exact_some : {A : Type 0} (close : Word → Option U) (P : A → Phrase) (on : A → Word → Bool) (p : Reader A) → Exact P on p → Terminal close → IsApart comma on → IsApart (at close) on → ((w : Word) → at close w ≡ true → comma w ≡ false)
    → Exact (SomeUntil close P) never (some_until close p)
exact_some {A} close P on p h t k l n =
    let m = exact_more P on p h k in
    exact_closed (Image first_and (FirstAnd P)) (goes_on comma on) (made first_and (both p (λ a. more p))) close
    (exact_made first_and (FirstAnd P) (goes_on comma on) (both p (λ a. more p)) (exact_both P (λ a. Many (Commaed P)) on (goes_on comma on) (after_first on) p (λ a. more p) h (λ a. m) (first_joins P on k h.meek m.meek)) m.meek)
    t (goes_apart (at close) comma on l n)

until_back : {A : Type 0} (close : Word → Option U) (P : A → Phrase) (items : List A) (x : List Word) → UntilList close P items x → Or (NoneUntil close) (SomeUntil close P) items x
until_back close P [] x m = inl (x, [], sym (append-nil x), subst (one close tt) (sym (m.2 ∙ ap (λ z. z ++ m.1) m.3)) m.4, (refl, refl))
until_back close P (a ∷ items) x m = inr (m.0, m.1, m.2, ((a, items), refl, m.3), m.4)

until_there : {A : Type 0} (close : Word → Option U) (P : A → Phrase) (items : List A) (x : List Word) → Or (NoneUntil close) (SomeUntil close P) items x → UntilList close P items x
until_there close P items x (inl m) =
    subst (λ z. UntilList close P z x) (sym m.4.0) ([], x, refl, refl, subst (one close tt) (sym (m.2 ∙ ap (λ z. m.0 ++ z) m.4.1 ∙ append-nil m.0)) m.3)
until_there close P items x (inr m) = subst (λ z. UntilList close P z x) m.3.1 (m.0, m.1, m.2, m.3.2, m.4)

pub exact_until : {A : Type 0} (close : Word → Option U) (P : A → Phrase) (on : A → Word → Bool) (p : Reader A) → Exact P on p → Terminal close → IsApart comma on → IsApart (at close) on → ((w : Word) → at close w ≡ true → comma w ≡ false) → Refuses (at close) p
    → Exact (UntilList close P) never (list_until close p)
exact_until {A} close P on p h t k l n r =
    exact_for (Or (NoneUntil close) (SomeUntil close P)) (UntilList close P) never (list_until close p) (until_there close P) (until_back close P)
    (exact_choice (NoneUntil close) (SomeUntil close P) never never (at close) (behind close (done [])) (some_until close p)
    (exact_behind close (Just []) never (done []) t (exact_done [])) (exact_some close P on p h t k l n)
    (record {
      first = λ items x m. behind_head close tt (Just [] items) x m;
      other = other;
      meek = meek_at close t;
      eager = eager_behind close (Just []) never (done []) (exact_done []);
      less = λ a x rest m c. c;
      more = λ a x rest m k c. c;
    }))
  where
    other : (items : List A) (x rest : List Word) → SomeUntil close P items x → Closed none rest → Closed (at close) (x ++ rest)
    other items x rest m c =
        let f = m.3.2 in
        let whole : x ≡ f.0 ++ (f.1 ++ m.1) = m.2 ∙ ap (λ z. z ++ m.1) f.2 ∙ append_assoc f.0 f.1 m.1 in
        subst (λ z. Closed (at close) z) (sym (ap (λ z. z ++ rest) whole ∙ append_assoc f.0 (f.1 ++ m.1) rest)) (not_begun P on p (at close) h r m.3.0.0 f.0 ((f.1 ++ m.1) ++ rest) f.3)

pub list_up_to : {A : Type 0} {close : Word → Option U} {P : A → Phrase} {on : A → Word → Bool} {p : Reader A} → Exact P on p → Terminal close → IsApart comma on → IsApart (at close) on → ((w : Word) → at close w ≡ true → comma w ≡ false) → Refuses (at close) p
    → Exact (UntilList close P) never (list_until close p)
list_up_to {A} {close} {P} {on} {p} h t k l n r = exact_until close P on p h t k l n r
