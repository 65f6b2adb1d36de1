-- Any number, each begun by a word that tells.
use Rattle.std.proofs.Common.{◌≡◌, ℕ, zero, suc, ◌≤◌, Bool, true, false, ◌⊎◌, inl, inr, List, [], ◌∷◌, ◌++◌, length, Ok, Err, refl, sym, ap, subst, ◌∙◌, append_assoc, arith}
use Rattle.std.proofs.lemmas.List.{append-nil, length-append}
use Rattle.flight_syntax.specs.Lexicon.{Word, Phrase, ◌▸◌, nothing}
use Rattle.flight_grammar.specs.Reading.{Fault, Read, Reader, ◌>>=◌, consed, many_by, many}
use Rattle.flight_grammar.specs.Verdict.{IsDeeper}
use Rattle.flight_grammar.proofs.Exact.{Closed, HasHead, Near, IsMeek, Split, Exact, none, or, closed_none, closed_both, closed_left, closed_right, closed_near, head_near, head_append, head_cases, meek_none, meek_or, ok_is, bind_ok, bind_err, grown}
use Rattle.flight_grammar.proofs.Choices.{IsEager, IsApart, ends_at_once, head_closed}

abbrev pub Many : {A : Type 0} → (A → Phrase) → List A → Phrase
Many P [] x = nothing x
Many P (a ∷ items) x = (P a ▸ Many P items) x

-- what continues the last of these, or what was before them
abbrev pub last_on : {A : Type 0} → (A → Word → Bool) → (Word → Bool) → List A → Word → Bool
last_on on before [] = before
last_on on before (a ∷ items) = last_on on (on a) items

abbrev pub goes_on : {A : Type 0} → (Word → Bool) → (A → Word → Bool) → List A → Word → Bool
goes_on starts on items = or starts (last_on on none items)

pub record Star {A : Type 0} (P : A → Phrase) (starts : Word → Bool) (on : A → Word → Bool) (p : Reader A) : Type 0 where
  pub first : (a : A) (x : List Word) → P a x → HasHead starts x
  pub apart : IsApart starts on
  pub meek : IsMeek starts
  pub eager : IsEager starts p

abbrev rest_of : {A : Type 0} → ℕ → (Word → Bool) → Reader A → A × List Word → Read (List A)
rest_of n starts p a = many_by n starts p a.1 >>= λ b. consed a.0 b

pub many_none : {A : Type 0} (starts : Word → Bool) (p : Reader A) (n : ℕ) (ts : List Word) → Closed starts ts → many_by n starts p ts ≡ Ok ([], ts)
many_none starts p zero ts c = refl
many_none starts p (suc n) ts c = rw c refl

pub many_more : {A : Type 0} (starts : Word → Bool) (p : Reader A) (n : ℕ) (ts : List Word) → HasHead starts ts → many_by (suc n) starts p ts ≡ (p ts >>= λ a. many_by n starts p a.1 >>= λ b. consed a.0 b)
many_more starts p n ts k = rw k refl

shorter : (starts : Word → Bool) (n : ℕ) (x y : List Word) → HasHead starts x → length (x ++ y) ≤ suc n → length y ≤ n
shorter starts n [] y k h = absurd cc
shorter starts n (t ∷ ts) y k h = omega (arith, length-append ts y)

closed_many : {A : Type 0} (P : A → Phrase) (starts : Word → Bool) (on : A → Word → Bool) (p : Reader A) → Star P starts on p → (d : Word → Bool) → ((w : Word) → starts w ≡ true → d w ≡ false) → (items : List A) (z rest : List Word)
    → Many P items z → Closed (or starts (last_on on d items)) rest → Closed d (z ++ rest)
closed_many P starts on p h d apart [] z rest m c = subst (λ w. Closed d (w ++ rest)) (sym m) (closed_right starts d rest c)
closed_many P starts on p h d apart (a ∷ items) z rest m c = head_closed starts d z rest apart (subst (HasHead starts) (sym m.2) (head_append starts m.0 m.1 (h.first a m.0 m.3)))

many_sound : {A : Type 0} (P : A → Phrase) (starts : Word → Bool) (on : A → Word → Bool) (p : Reader A) → Star P starts on p → Exact P on p → (n : ℕ) (d : Word → Bool) (ts : List Word) → Closed d ts → length ts ≤ n
    → (items : List A) (rest : List Word) → many_by n starts p ts ≡ Ok (items, rest) → Split (Many P) (λ is. or starts (last_on on d is)) ts items rest
many_sound {A} P starts on p st hp zero d (t ∷ ts) c le items rest e = absurd (omega arith)
many_sound {A} P starts on p st hp zero d [] c le items rest e =
    subst (λ (y : List A × List Word). Split (Many P) (λ is. or starts (last_on on d is)) [] y.0 y.1) (ok_is ([], []) (items, rest) e) (record { front = []; whole = refl; spelled = refl; closed = refl })
many_sound {A} P starts on p st hp (suc n) d ts c le items rest e = by (head_cases starts ts) (many_sound P starts on p st hp n)
  where
    by : HasHead starts ts ⊎ Closed starts ts
        → ((d : Word → Bool) (us : List Word) → Closed d us → length us ≤ n → (found : List A) (left : List Word) → many_by n starts p us ≡ Ok (found, left) → Split (Many P) (λ is. or starts (last_on on d is)) us found left)
        → Split (Many P) (λ is. or starts (last_on on d is)) ts items rest
    by (inr k) again =
        subst (λ (y : List A × List Word). Split (Many P) (λ is. or starts (last_on on d is)) ts y.0 y.1) (ok_is ([], ts) (items, rest) (sym (many_none starts p (suc n) ts k) ∙ e))
        (record { front = []; whole = refl; spelled = refl; closed = closed_both starts d ts k c })
    by (inl k) again =
        let a = bind_ok (p ts) (rest_of n starts p) (items, rest) (sym (many_more starts p n ts k) ∙ e) in
        let b = bind_ok (many_by n starts p a.0.1) (consed a.0.0) (items, rest) a.2 in
        let sp = hp.sound ts a.0.0 a.0.1 a.1 in
        let s = again (on a.0.0) a.0.1 sp.closed (shorter starts n sp.front a.0.1 (st.first a.0.0 sp.front sp.spelled) (subst (λ (w : List Word). length w ≤ suc n) sp.whole le)) b.0.0 b.0.1 b.1 in
        subst (λ (y : List A × List Word). Split (Many P) (λ is. or starts (last_on on d is)) ts y.0 y.1) (ok_is (a.0.0 ∷ b.0.0, b.0.1) (items, rest) b.2)
        (record {
          front = sp.front ++ s.front;
          whole = grown ts sp.front a.0.1 s.front b.0.1 sp.whole s.whole;
          spelled = (sp.front, s.front, refl, sp.spelled, s.spelled);
          closed = s.closed;
        })

many_complete : {A : Type 0} (P : A → Phrase) (starts : Word → Bool) (on : A → Word → Bool) (p : Reader A) → Star P starts on p → Exact P on p → (items : List A) (n : ℕ) (d : Word → Bool) (x rest : List Word) → length (x ++ rest) ≤ n
    → Many P items x → Closed (or starts (last_on on d items)) rest → many_by n starts p (x ++ rest) ≡ Ok (items, rest)
many_complete P starts on p st hp [] n d x rest le m c = ap (λ w. many_by n starts p (w ++ rest)) m ∙ many_none starts p n rest (closed_left starts d rest c)
many_complete P starts on p st hp (a ∷ items) n d x rest le m c =
    let y = m.0 in
    let z = m.1 in
    let e : x ++ rest ≡ y ++ (z ++ rest) = ap (λ w. w ++ rest) m.2 ∙ append_assoc y z rest in
    ap (many_by n starts p) e ∙ step n y z (st.first a y m.3) m.3 m.4 (subst (λ (w : List Word). length w ≤ n) e le) (many_complete P starts on p st hp items)
  where
    step : (n : ℕ) (y z : List Word) → HasHead starts y → P a y → Many P items z → length (y ++ (z ++ rest)) ≤ n
        → ((n : ℕ) (d : Word → Bool) (x rest : List Word) → length (x ++ rest) ≤ n → Many P items x → Closed (or starts (last_on on d items)) rest → many_by n starts p (x ++ rest) ≡ Ok (items, rest))
        → many_by n starts p (y ++ (z ++ rest)) ≡ Ok (a ∷ items, rest)
    step n [] z k s t le again = absurd cc
    step zero (w ∷ ws) z k s t le again = absurd (omega arith)
    step (suc n) (w ∷ ws) z k s t le again =
        many_more starts p n ((w ∷ ws) ++ (z ++ rest)) k
        ∙ rw (hp.complete a (w ∷ ws) (z ++ rest) s (closed_many P starts on p st (on a) (st.apart a) items z rest t c), again n (on a) z rest (shorter starts n (w ∷ ws) (z ++ rest) k le) t c) refl

record ManyStop {A : Type 0} (P : A → Phrase) (starts : Word → Bool) (p : Reader A) (ts : List Word) (f : Fault) : Type 0 where
  pub before : List Word
  pub bad : List Word
  pub whole : ts ≡ before ++ bad
  pub is_left : f.left ≡ length bad
  pub rest : List Word
  pub tree : List A
  pub begun : Many P tree (before ++ rest)
  pub deeper : f.too_deep ≡ true → IsDeeper bad rest
  pub fails : (others : List Word) → Near f.too_deep bad others → (m : ℕ) → length (before ++ others) ≤ m → many_by m starts p (before ++ others) ≡ Err (record { too_deep = f.too_deep; left = length others })

many_fails : {A : Type 0} (starts : Word → Bool) (p : Reader A) (f : Fault) (m : ℕ) (ts : List Word) → HasHead starts ts → length ts ≤ m → p ts ≡ Err f → many_by m starts p ts ≡ Err f
many_fails starts p f m [] k le e = absurd cc
many_fails starts p f zero (t ∷ ts) k le e = absurd (omega arith)
many_fails starts p f (suc m) (t ∷ ts) k le e = many_more starts p m (t ∷ ts) k ∙ rw e refl

many_later : {A : Type 0} (starts : Word → Bool) (p : Reader A) (f : Fault) (m : ℕ) (y rest : List Word) (a : A) → HasHead starts y → length (y ++ rest) ≤ m → p (y ++ rest) ≡ Ok (a, rest)
    → ((k : ℕ) → length rest ≤ k → many_by k starts p rest ≡ Err f) → many_by m starts p (y ++ rest) ≡ Err f
many_later starts p f m [] rest a k le e h = absurd cc
many_later starts p f zero (t ∷ ts) rest a k le e h = absurd (omega arith)
many_later starts p f (suc m) (t ∷ ts) rest a k le e h = many_more starts p m ((t ∷ ts) ++ rest) k ∙ rw (e, h m (shorter starts m (t ∷ ts) rest k le)) refl

many_stops : {A : Type 0} (P : A → Phrase) (starts : Word → Bool) (on : A → Word → Bool) (p : Reader A) → Star P starts on p → Exact P on p → (n : ℕ) (ts : List Word) → length ts ≤ n
    → (f : Fault) → many_by n starts p ts ≡ Err f → ManyStop P starts p ts f
many_stops {A} P starts on p st hp zero ts le f e = absurd cc
many_stops {A} P starts on p st hp (suc n) ts le f e = by (head_cases starts ts) (many_stops P starts on p st hp n)
  where
    later : ((us : List Word) → length us ≤ n → (d : Fault) → many_by n starts p us ≡ Err d → ManyStop P starts p us d) → (a : A × List Word) → p ts ≡ Ok a
        → (many_by n starts p a.1 ≡ Err f) ⊎ ((x : List A × List Word) × (many_by n starts p a.1 ≡ Ok x) × (consed a.0 x ≡ Err f)) → ManyStop P starts p ts f
    later again a h (inr g) = absurd (cc (g.2))
    later again a h (inl g) =
        let sp = hp.sound ts a.0 a.1 h in
        let k = st.first a.0 sp.front sp.spelled in
        let s = again a.1 (shorter starts n sp.front a.1 k (subst (λ (w : List Word). length w ≤ suc n) sp.whole le)) f g in
        record {
          before = sp.front ++ s.before;
          bad = s.bad;
          whole = grown ts sp.front a.1 s.before s.bad sp.whole s.whole;
          is_left = s.is_left;
          rest = s.rest;
          tree = a.0 ∷ s.tree;
          begun = (sp.front, s.before ++ s.rest, append_assoc sp.front s.before s.rest, sp.spelled, s.begun);
          deeper = s.deeper;
          fails = λ others j m lm.
              let ass : (sp.front ++ s.before) ++ others ≡ sp.front ++ (s.before ++ others) = append_assoc sp.front s.before others in
              ap (many_by m starts p) ass
              ∙ many_later starts p (record { too_deep = f.too_deep; left = length others }) m sp.front (s.before ++ others) a.0 k (subst (λ (w : List Word). length w ≤ m) ass lm)
              (hp.complete a.0 sp.front (s.before ++ others) sp.spelled (closed_near (on a.0) (hp.meek a.0) f.too_deep a.1 s.before s.bad others s.whole j sp.closed)) (s.fails others j);
        }

    by : HasHead starts ts ⊎ Closed starts ts → ((us : List Word) → length us ≤ n → (d : Fault) → many_by n starts p us ≡ Err d → ManyStop P starts p us d) → ManyStop P starts p ts f
    by (inr k) again = absurd (cc (sym (many_none starts p (suc n) ts k) ∙ e))
    by (inl k) again =
        elim (bind_err (p ts) (rest_of n starts p) f (sym (many_more starts p n ts k) ∙ e)) [
          | inl h ↦
              let s = hp.stops ts f h in
              record {
                before = s.before;
                bad = s.bad;
                whole = s.whole;
                is_left = s.is_left;
                rest = s.rest;
                tree = s.tree ∷ [];
                begun = (s.before ++ s.rest, [], sym (append-nil (s.before ++ s.rest)), s.begun, refl);
                deeper = s.deeper;
                fails = λ others j m lm.
                    many_fails starts p (record { too_deep = f.too_deep; left = length others }) m (s.before ++ others)
                    (head_near starts f.too_deep ts s.before s.bad others s.whole j (ends_at_once starts p st.eager ts s.before s.bad f h s.whole s.is_left k) k) lm (s.fails others j);
              }
          | inr h ↦ later again h.0 h.1 (bind_err (many_by n starts p h.0.1) (consed h.0.0) f h.2)
        ]

meek_last : {A : Type 0} (on : A → Word → Bool) → ((a : A) → IsMeek (on a)) → (d : Word → Bool) → IsMeek d → (items : List A) → IsMeek (last_on on d items)
meek_last on h d m [] = m
meek_last on h d m (a ∷ items) = meek_last on h (on a) (h a) items

pub exact_many : {A : Type 0} (P : A → Phrase) (starts : Word → Bool) (on : A → Word → Bool) (p : Reader A) → Star P starts on p → Exact P on p → Exact (Many P) (goes_on starts on) (many starts p)
exact_many P starts on p st hp = record {
  sound = λ ts items rest e. many_sound P starts on p st hp (length ts) none ts (closed_none ts) (omega arith) items rest e;
  complete = λ items x rest m c. many_complete P starts on p st hp items (length (x ++ rest)) none x rest (omega arith) m c;
  stops = λ ts f e.
      let s = many_stops P starts on p st hp (length ts) ts (omega arith) f e in
      record {
        before = s.before;
        bad = s.bad;
        whole = s.whole;
        is_left = s.is_left;
        rest = s.rest;
        tree = s.tree;
        begun = s.begun;
        deeper = s.deeper;
        fails = λ others k. s.fails others k (length (s.before ++ others)) (omega arith);
      };
  meek = λ items. meek_or starts (last_on on none items) st.meek (meek_last on hp.meek none meek_none items);
  some = record { tree = []; text = []; spelled = refl };
}

-- what does not continue any of these does not continue the last
pub last_apart : {A : Type 0} (test : Word → Bool) (on : A → Word → Bool) → IsApart test on → (d : Word → Bool) → ((w : Word) → test w ≡ true → d w ≡ false) → (items : List A) (w : Word) → test w ≡ true → last_on on d items w ≡ false
last_apart test on h d k [] w e = k w e
last_apart test on h d k (a ∷ items) w e = last_apart test on h (on a) (h a) items w e

pub goes_apart : {A : Type 0} (test starts : Word → Bool) (on : A → Word → Bool) → IsApart test on → ((w : Word) → test w ≡ true → starts w ≡ false) → IsApart test (goes_on starts on)
goes_apart test starts on h k items w e = rw (k w e) (last_apart test on h none (λ w e. refl) items w e)
