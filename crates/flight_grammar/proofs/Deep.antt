-- Where no level is left.
use Rattle.std.proofs.Common.{◌≡◌, true, if◌then◌else◌, inl, inr, List, [], ◌∷◌, ◌++◌, length, Some, Ok, Err, refl, sym, ap, subst, ◌∙◌}
use Rattle.flight_syntax.specs.Lexicon.{Word, deep, Phrase, one, is_deep}
use Rattle.flight_grammar.specs.Reading.{Fault, Read, Reader, too_deep, at, next_is, want, made}
use Rattle.flight_grammar.specs.Verdict.{Alike}
use Rattle.flight_grammar.proofs.Exact.{Closed, HasHead, Near, Split, Stop, Exact, never, closed_none, head_cases, meek_none, ok_is, err_is}

-- what is too deep is one word, read as this
abbrev pub OnlyDeep : {A : Type 0} → A → A → Phrase
OnlyDeep a b words = (b ≡ a) × one is_deep tt words

abbrev pub only : {A : Type 0} → A → Reader A
only a words = if next_is (at is_deep) words then made (λ u. a) (want is_deep) words else too_deep words

head_deep : (ts : List Word) → HasHead (at is_deep) ts → (us : List Word) × (ts ≡ deep ∷ us)
head_deep (deep ∷ us) h = (us, refl)
head_deep [] h = absurd cc
head_deep (_ ∷ us) h = absurd cc

reads : {A : Type 0} (a : A) (us : List Word) → only a (deep ∷ us) ≡ Ok (a, us)
reads a us = refl

refuses : {A : Type 0} (a : A) (ts : List Word) → Closed (at is_deep) ts → only a ts ≡ too_deep ts
refuses a ts h = rw h refl

alike_not_deep : (ts others : List Word) → Alike ts others → Closed (at is_deep) ts → Closed (at is_deep) others
alike_not_deep [] [] k c = refl
alike_not_deep (t ∷ ts) (u ∷ us) k c = ap (λ w. at is_deep w) (sym k) ∙ c
alike_not_deep [] (u ∷ us) k c = absurd k
alike_not_deep (t ∷ ts) [] k c = absurd k

pub exact_deep : {A : Type 0} (a : A) → Exact (OnlyDeep a) never (only a)
exact_deep {A} a = record { sound = sound; complete = complete; stops = stops; meek = λ b. meek_none; some = record { tree = a; text = deep ∷ []; spelled = (refl, (deep, refl, refl)) } }
  where
    sound : (ts : List Word) (b : A) (rest : List Word) → only a ts ≡ Ok (b, rest) → Split (OnlyDeep a) never ts b rest
    sound ts b rest e = elim (head_cases (at is_deep) ts) [
      | inl h ↦
          let d = head_deep ts h in
          subst (λ z. Split (OnlyDeep a) never z b rest) (sym d.1)
          (subst (λ (y : A × List Word). Split (OnlyDeep a) never (deep ∷ d.0) y.0 y.1) (ok_is (a, d.0) (b, rest) (sym (ap (only a) d.1) ∙ e))
          (record { front = deep ∷ []; whole = refl; spelled = (refl, (deep, refl, refl)); closed = closed_none d.0 }))
      | inr h ↦ absurd (cc (sym (refuses a ts h) ∙ e))
    ]

    deep_is : (w : Word) → is_deep w ≡ Some tt → w ≡ deep
    deep_is deep e = refl
    deep_is _ e = absurd cc

    complete : (b : A) (x rest : List Word) → OnlyDeep a b x → Closed (never b) rest → only a (x ++ rest) ≡ Ok (b, rest)
    complete b x rest m c =
        let whole : x ≡ deep ∷ [] = m.1.2 ∙ ap (λ z. z ∷ []) (deep_is m.1.0 m.1.1) in
        ap (λ z. only a (z ++ rest)) whole ∙ ap (λ z. read z rest) (sym m.0)
      where
        read : A → List Word → Read A
        read b rest = Ok (b, rest)

    stops : (ts : List Word) (f : Fault) → only a ts ≡ Err f → Stop (OnlyDeep a) (only a) ts f
    stops ts f e = elim (head_cases (at is_deep) ts) [
      | inl h ↦ let d = head_deep ts h in absurd (cc (sym (ap (only a) d.1) ∙ e))
      | inr h ↦
          let same : record { too_deep = true; left = length ts } ≡ f = err_is {A = A × List Word} _ _ (sym (refuses a ts h) ∙ e) in
          subst (λ z. Stop (OnlyDeep a) (only a) ts z) same
          (record { before = []; bad = ts; whole = refl; is_left = refl; rest = deep ∷ []; tree = a; begun = (refl, (deep, refl, refl)); deeper = λ d. tt; fails = fails h })
    ]
      where
        fails : Closed (at is_deep) ts → (others : List Word) → Near true ts others → only a others ≡ too_deep others
        fails h others (inl k) = refuses a others (alike_not_deep ts others k h)
        fails h others (inr k) = absurd (cc (k.0))
