-- Phrases at the front of words, and what reading one word says.
use Rattle.std.proofs.Common.{◌≡◌, ℕ, ◌+◌, ◌<◌, ◌≤◌, List, [], ◌∷◌, ◌++◌, length, refl, sym, ◌∙◌, ap, subst, append_assoc, length-append, arith, true, false, Bool, Option, Some, None, codes, ◌⊎◌, inl, inr, ◌&&◌, if◌then◌else◌}
use Rattle.std.specs.Str.{bytes_eq}
use Rattle.std.proofs.lemmas.Bool.{false≢true}
use Rattle.std.proofs.lemmas.Slice.Eq.{bytes_eq-Decides}
use Rattle.flight_syntax.specs.declared.token.TokenKind.{TokenKind}
use Rattle.flight_syntax.specs.declared.token.TokenKind.TheVariants.{Name, Number, Big, Text, Mark}
use Rattle.flight_syntax.specs.Words.{Word, Phrase, ◌▸◌, one, nothing}
use Rattle.flight_top.specs.StaticReader.{AreSpelled, same_kind, is_the, ◌>>=◌, if_some, want}

-- a phrase is at the front, and these words are left
pub record Front (P : Phrase) (ws rest : List Word) : Type 0 where
  pub front : List Word
  pub whole : ws ≡ front ++ rest
  pub spelled : P front

pub join : {P Q : Phrase} {ws middle rest : List Word} → Front P ws middle → Front Q middle rest → Front (P ▸ Q) ws rest
join {P} {Q} {ws} {middle} {rest} a b = record {
  front = a.front ++ b.front;
  whole = a.whole ∙ ap (λ w. a.front ++ w) b.whole ∙ sym (append_assoc a.front b.front rest);
  spelled = (a.front, b.front, refl, a.spelled, b.spelled);
}

pub record Both (P Q : Phrase) (ws rest : List Word) : Type 0 where
  pub middle : List Word
  pub first : Front P ws middle
  pub second : Front Q middle rest

pub split : {P Q : Phrase} {ws rest : List Word} → Front (P ▸ Q) ws rest → Both P Q ws rest
split {P} {Q} {ws} {rest} f =
    let x = f.spelled.0 in
    let y = f.spelled.1 in
    record {
      middle = y ++ rest;
      first = record { front = x; whole = f.whole ∙ ap (λ w. w ++ rest) f.spelled.2 ∙ append_assoc x y rest; spelled = f.spelled.3 };
      second = record { front = y; whole = refl; spelled = f.spelled.4 };
    }

-- ---- one word

abbrev pub the : TokenKind → List ℕ → Word
the kind bytes = record { kind = kind; bytes = bytes }

pub one_front : (kind : TokenKind) (bytes : List ℕ) (ws rest : List Word) → ws ≡ the kind bytes ∷ rest → Front (one kind bytes) ws rest
one_front kind bytes ws rest e = record { front = the kind bytes ∷ []; whole = e; spelled = refl }

pub front_one : {kind : TokenKind} {bytes : List ℕ} {ws rest : List Word} → Front (one kind bytes) ws rest → ws ≡ the kind bytes ∷ rest
front_one {kind} {bytes} {ws} {rest} f = f.whole ∙ ap (λ x. x ++ rest) f.spelled

pub none_front : (ws : List Word) → Front nothing ws ws
none_front ws = record { front = []; whole = refl; spelled = refl }

pub front_none : {ws rest : List Word} → Front nothing ws rest → ws ≡ rest
front_none {ws} {rest} f = f.whole ∙ ap (λ x. x ++ rest) f.spelled

spelled_behind : (xs rest : List Word) → AreSpelled (xs ++ rest) → AreSpelled rest
spelled_behind [] rest h = h
spelled_behind (x ∷ xs) rest h = spelled_behind xs rest h.1

-- what is left is spelled too
pub spelled_rest : {P : Phrase} {ws rest : List Word} → Front P ws rest → AreSpelled ws → AreSpelled rest
spelled_rest {P} {ws} {rest} f h = spelled_behind f.front rest (subst AreSpelled f.whole h)

pub same_kind-is : (a b : TokenKind) → same_kind a b ≡ true → b ≡ a
same_kind-is Name Name e = refl
same_kind-is Number Number e = refl
same_kind-is Big Big e = refl
same_kind-is Text Text e = refl
same_kind-is Mark Mark e = refl
same_kind-is Name Number e = absurd (false≢true e)
same_kind-is Name Big e = absurd (false≢true e)
same_kind-is Name Text e = absurd (false≢true e)
same_kind-is Name Mark e = absurd (false≢true e)
same_kind-is Number Name e = absurd (false≢true e)
same_kind-is Number Big e = absurd (false≢true e)
same_kind-is Number Text e = absurd (false≢true e)
same_kind-is Number Mark e = absurd (false≢true e)
same_kind-is Big Name e = absurd (false≢true e)
same_kind-is Big Number e = absurd (false≢true e)
same_kind-is Big Text e = absurd (false≢true e)
same_kind-is Big Mark e = absurd (false≢true e)
same_kind-is Text Name e = absurd (false≢true e)
same_kind-is Text Number e = absurd (false≢true e)
same_kind-is Text Big e = absurd (false≢true e)
same_kind-is Text Mark e = absurd (false≢true e)
same_kind-is Mark Name e = absurd (false≢true e)
same_kind-is Mark Number e = absurd (false≢true e)
same_kind-is Mark Big e = absurd (false≢true e)
same_kind-is Mark Text e = absurd (false≢true e)

pub same_kind-self : (a : TokenKind) → same_kind a a ≡ true
same_kind-self Name = refl
same_kind-self Number = refl
same_kind-self Big = refl
same_kind-self Text = refl
same_kind-self Mark = refl

-- a word of a kind
pub word_of_kind : (w : Word) (kind : TokenKind) → same_kind kind w.kind ≡ true → w ≡ the kind w.bytes
word_of_kind w kind e = ap (λ k. the k w.bytes) (same_kind-is kind w.kind e)

pub both : (a b : Bool) → (a && b) ≡ true → (a ≡ true) × (b ≡ true)
both true b h = (refl, h)
both false b h = absurd (false≢true h)

pub is_the-is : (kind : TokenKind) (bytes : List ℕ) (w : Word) → is_the kind bytes w ≡ true → w ≡ the kind bytes
is_the-is kind bytes w e =
    let parts = both (same_kind kind w.kind) (bytes_eq w.bytes bytes) e in
    word_of_kind w kind parts.0 ∙ ap (λ b. the kind b) ((bytes_eq-Decides w.bytes bytes).0 parts.1)

-- ---- reading

pub then_some : {A B : Type 0} (o : Option A) (f : A → Option B) (y : B) → (o >>= f) ≡ Some y → (x : A) × (o ≡ Some x) × (f x ≡ Some y)
then_some (Some x) f y e = (x, refl, e)
then_some None f y e = absurd cc

pub if_some-cases : {A B : Type 0} (o : Option A) (f : A → B) (b y : B) → if_some o f b ≡ y → ((x : A) × (o ≡ Some x) × (f x ≡ y)) ⊎ ((o ≡ None) × (b ≡ y))
if_some-cases (Some x) f b y e = inl (x, refl, e)
if_some-cases None f b y e = inr (refl, e)

pub want-is : (kind : TokenKind) (bytes : List ℕ) (ws rest : List Word) → want kind bytes ws ≡ Some rest → Front (one kind bytes) ws rest
want-is kind bytes [] rest e = absurd cc
want-is kind bytes (w ∷ ws) rest e = go (is_the kind bytes w) refl e
  where
    go : (b : Bool) → is_the kind bytes w ≡ b → (if b then Some ws else None) ≡ Some rest → Front (one kind bytes) (w ∷ ws) rest
    go true h k = let same : ws ≡ rest = cc in one_front kind bytes (w ∷ ws) rest (ap (λ x. x ∷ ws) (is_the-is kind bytes w h) ∙ ap (λ r. the kind bytes ∷ r) same)
    go false h k = absurd cc

pub want-one : (kind : TokenKind) (bytes : List ℕ) (rest : List Word) → want kind bytes (the kind bytes ∷ rest) ≡ Some rest
want-one kind bytes rest =
    let test : is_the kind bytes (the kind bytes) ≡ true = rw (same_kind-self kind, (bytes_eq-Decides bytes bytes).1 refl) refl in
    rw test refl
