-- What reading is made of keeps it exact.
use Rattle.std.proofs.Common.{◌≡◌, suc, Bool, true, false, inl, inr, List, [], ◌∷◌, ◌++◌, length, Option, Some, None, Ok, Err, refl, sym, ap, subst, ◌∙◌, append_assoc}
use Rattle.flight_syntax.specs.declared.word.Punctuator.{Punctuator}
use Rattle.flight_syntax.specs.Lexicon.{Word, mark, deep, beyond, Phrase, ◌▸◌, nothing, one, U}
use Rattle.flight_grammar.specs.Reading.{Fault, Reader, unexpected, too_deep, ◌>>=◌, taken, want, is_some, at, done, paired, both, made, behind, Arm, stop, limit, go, by_arm, by_word}
use Rattle.flight_grammar.specs.Verdict.{IsDeeper}
use Rattle.flight_grammar.proofs.Exact.{Closed, Near, IsMeek, Split, Stop, Made, Exact, never, closed_none, closed_near, meek_none, deeper_view, deeper_more, ok_is, err_is, bind_ok, bind_err, grown, exact_as, exact_for}

-- ---- nothing

abbrev pub Just : {A : Type 0} → A → A → Phrase
Just a b words = (b ≡ a) × nothing words

pub exact_done : {A : Type 0} (a : A) → Exact (Just a) never (done a)
exact_done {A} a = record {
  sound = λ ts b rest e.
      subst (λ (y : A × List Word). Split (Just a) never ts y.0 y.1) (ok_is (a, ts) (b, rest) e) (record { front = []; whole = refl; spelled = (refl, refl); closed = closed_none ts });
  complete = λ b x rest m c. ap (λ w. done a (w ++ rest)) m.1 ∙ ap (λ z. done z rest) (sym m.0);
  stops = λ ts f e. absurd cc;
  meek = λ b. meek_none;
  some = record { tree = a; text = []; spelled = (refl, refl) };
}

-- the continuing words, where something is spelled
pub exact_spelled : {A : Type 0} (P : A → Phrase) (on other : A → Word → Bool) (r : Reader A) → ((a : A) (x : List Word) → P a x → (w : Word) → on a w ≡ other a w) → ((a : A) → IsMeek (other a)) → Exact P on r → Exact P other r
exact_spelled {A} P on other r same meek h = record {
  sound = λ ts a rest e.
      let s = h.sound ts a rest e in record { front = s.front; whole = s.whole; spelled = s.spelled; closed = is (on a) (other a) (same a s.front s.spelled) rest s.closed };
  complete = λ a x rest m c. h.complete a x rest m (is (other a) (on a) (λ w. sym (same a x m w)) rest c);
  stops = h.stops;
  meek = meek;
  some = h.some;
}
  where
    is : (f g : Word → Bool) → ((w : Word) → f w ≡ g w) → (ts : List Word) → Closed f ts → Closed g ts
    is f g e [] c = refl
    is f g e (t ∷ ts) c = sym (e t) ∙ c

-- nothing, where nothing continues it
pub exact_done_on : {A : Type 0} (a : A) (on : A → Word → Bool) → ((w : Word) → on a w ≡ false) → ((b : A) → IsMeek (on b)) → Exact (Just a) on (done a)
exact_done_on {A} a on h meek = exact_spelled (Just a) never on (done a) (λ b x m w. sym (subst (λ z. on z w ≡ false) (sym m.0) (h w))) meek (exact_done a)

-- ---- one after the other

abbrev pub Seq : {A B : Type 0} → (A → Phrase) → (A → B → Phrase) → A × B → Phrase
Seq P Q c = P c.0 ▸ Q c.0 c.1

-- What may follow a part and then another.
pub record Joins {A B : Type 0} (on : A → Word → Bool) (Q : A → B → Phrase) (after : B → Word → Bool) (fin : A × B → Word → Bool) : Type 0 where
  -- the second part does not continue the first
  pub follow : (a : A) (b : B) (y rest : List Word) → Q a b y → Closed (fin (a, b)) rest → Closed (on a) (y ++ rest)
  pub last : (a : A) (b : B) (rest : List Word) → Closed (fin (a, b)) rest → Closed (after b) rest
  pub all : (a : A) (b : B) (y rest : List Word) → Q a b y → Closed (on a) (y ++ rest) → Closed (after b) rest → Closed (fin (a, b)) rest
  pub meek : (c : A × B) → IsMeek (fin c)

seq_sound : {A B : Type 0} (P : A → Phrase) (Q : A → B → Phrase) (on : A → Word → Bool) (after : B → Word → Bool) (fin : A × B → Word → Bool) (p : Reader A) (q : A → Reader B)
    → Exact P on p → ((a : A) → Exact (Q a) after (q a)) → Joins on Q after fin → (ts : List Word) (c : A × B) (rest : List Word) → both p q ts ≡ Ok (c, rest) → Split (Seq P Q) fin ts c rest
seq_sound {A} {B} P Q on after fin p q hp hq jn ts c rest e =
    let a = bind_ok (p ts) (λ a. q a.0 a.1 >>= λ b. paired a.0 b) (c, rest) e in
    let b = bind_ok (q a.0.0 a.0.1) (λ b. paired a.0.0 b) (c, rest) a.2 in
    let sp = hp.sound ts a.0.0 a.0.1 a.1 in
    let sq = (hq a.0.0).sound a.0.1 b.0.0 b.0.1 b.1 in
    subst (λ (y : (A × B) × List Word). Split (Seq P Q) fin ts y.0 y.1) (ok_is ((a.0.0, b.0.0), b.0.1) (c, rest) b.2)
    (record {
      front = sp.front ++ sq.front;
      whole = grown ts sp.front a.0.1 sq.front b.0.1 sp.whole sq.whole;
      spelled = (sp.front, sq.front, refl, sp.spelled, sq.spelled);
      closed = jn.all a.0.0 b.0.0 sq.front b.0.1 sq.spelled (subst (λ z. Closed (on a.0.0) z) sq.whole sp.closed) sq.closed;
    })

seq_complete : {A B : Type 0} (P : A → Phrase) (Q : A → B → Phrase) (on : A → Word → Bool) (after : B → Word → Bool) (fin : A × B → Word → Bool) (p : Reader A) (q : A → Reader B)
    → Exact P on p → ((a : A) → Exact (Q a) after (q a)) → Joins on Q after fin → (c : A × B) (x rest : List Word) → Seq P Q c x → Closed (fin c) rest → both p q (x ++ rest) ≡ Ok (c, rest)
seq_complete P Q on after fin p q hp hq jn c x rest h k =
    let y = h.0 in
    let z = h.1 in
    let e : x ++ rest ≡ y ++ (z ++ rest) = ap (λ w. w ++ rest) h.2 ∙ append_assoc y z rest in
    ap (both p q) e ∙ rw (hp.complete c.0 y (z ++ rest) h.3 (jn.follow c.0 c.1 z rest h.4 k), (hq c.0).complete c.1 z rest h.4 (jn.last c.0 c.1 rest k)) refl

seq_stops : {A B : Type 0} (P : A → Phrase) (Q : A → B → Phrase) (on : A → Word → Bool) (after : B → Word → Bool) (p : Reader A) (q : A → Reader B)
    → Exact P on p → ((a : A) → Exact (Q a) after (q a)) → (ts : List Word) (f : Fault) → both p q ts ≡ Err f → Stop (Seq P Q) (both p q) ts f
seq_stops {A} {B} P Q on after p q hp hq ts f e =
    elim (bind_err (p ts) (λ a. q a.0 a.1 >>= λ b. paired a.0 b) f e) [
      | inl h ↦
          let s = hp.stops ts f h in
          let m = (hq s.tree).some in
          record {
            before = s.before;
            bad = s.bad;
            whole = s.whole;
            is_left = s.is_left;
            rest = s.rest ++ m.text;
            tree = (s.tree, m.tree);
            begun = (s.before ++ s.rest, m.text, sym (append_assoc s.before s.rest m.text), s.begun, m.spelled);
            deeper = λ d. deeper_more s.bad s.rest m.text (s.deeper d);
            fails = λ others k. rw (s.fails others k) refl;
          }
      | inr h ↦ second h.0 h.1 h.2
    ]
  where
    second : (a : A × List Word) → p ts ≡ Ok a → (q a.0 a.1 >>= λ b. paired a.0 b) ≡ Err f → Stop (Seq P Q) (both p q) ts f
    second a h e2 =
        elim (bind_err (q a.0 a.1) (λ b. paired a.0 b) f e2) [
          | inl g ↦
              let sp = hp.sound ts a.0 a.1 h in
              let s = (hq a.0).stops a.1 f g in
              record {
                before = sp.front ++ s.before;
                bad = s.bad;
                whole = grown ts sp.front a.1 s.before s.bad sp.whole s.whole;
                is_left = s.is_left;
                rest = s.rest;
                tree = (a.0, s.tree);
                begun = (sp.front, s.before ++ s.rest, append_assoc sp.front s.before s.rest, sp.spelled, s.begun);
                deeper = s.deeper;
                fails = λ others k. ap (both p q) (append_assoc sp.front s.before others)
                    ∙ rw (hp.complete a.0 sp.front (s.before ++ others) sp.spelled (closed_near (on a.0) (hp.meek a.0) f.too_deep a.1 s.before s.bad others s.whole k sp.closed), s.fails others k) refl;
              }
          | inr g ↦ absurd (cc (g.2))
        ]

pub exact_both : {A B : Type 0} (P : A → Phrase) (Q : A → B → Phrase) (on : A → Word → Bool) (after : B → Word → Bool) (fin : A × B → Word → Bool) (p : Reader A) (q : A → Reader B)
    → Exact P on p → ((a : A) → Exact (Q a) after (q a)) → Joins on Q after fin → Exact (Seq P Q) fin (both p q)
exact_both P Q on after fin p q hp hq jn =
    let a = hp.some in
    let b = (hq a.tree).some in
    record {
      sound = seq_sound P Q on after fin p q hp hq jn;
      complete = seq_complete P Q on after fin p q hp hq jn;
      stops = seq_stops P Q on after p q hp hq;
      meek = jn.meek;
      some = record { tree = (a.tree, b.tree); text = a.text ++ b.text; spelled = (a.text, b.text, refl, a.spelled, b.spelled) };
    }

-- ---- put together

abbrev pub Image : {A B : Type 0} → (B → A) → (B → Phrase) → A → Phrase
Image {A} {B} put Q a words = (b : B) × (put b ≡ a) × Q b words

pub exact_made : {A B : Type 0} (put : B → A) (Q : B → Phrase) (on : A → Word → Bool) (q : Reader B) → Exact Q (λ b. on (put b)) q → ((a : A) → IsMeek (on a)) → Exact (Image put Q) on (made put q)
exact_made {A} {B} put Q on q h meek = record {
  sound = λ ts a rest e.
      let b = bind_ok (q ts) (λ b. Ok (put b.0, b.1)) (a, rest) e in
      let s = h.sound ts b.0.0 b.0.1 b.1 in
      subst (λ (y : A × List Word). Split (Image put Q) on ts y.0 y.1) (ok_is (put b.0.0, b.0.1) (a, rest) b.2)
      (record { front = s.front; whole = s.whole; spelled = (b.0.0, refl, s.spelled); closed = s.closed });
  complete = λ a x rest m c. rw (h.complete m.0 x rest m.2 (subst (λ z. Closed (on z) rest) (sym m.1) c)) (ap (λ z. done z rest) m.1);
  stops = λ ts f e. elim (bind_err (q ts) (λ b. Ok (put b.0, b.1)) f e) [
    | inl k ↦
        let s = h.stops ts f k in
        record {
          before = s.before;
          bad = s.bad;
          whole = s.whole;
          is_left = s.is_left;
          rest = s.rest;
          tree = put s.tree;
          begun = (s.tree, refl, s.begun);
          deeper = s.deeper;
          fails = λ others j. rw (s.fails others j) refl;
        }
    | inr k ↦ absurd (cc (k.2))
  ];
  meek = meek;
  some = record { tree = put h.some.tree; text = h.some.text; spelled = (h.some.tree, refl, h.some.spelled) };
}

-- ---- by the first word

abbrev pub ByWord : {A : Type 0} → (Word → A → Phrase) → A → Phrase
ByWord Q a words = (word : Word) × (rest : List Word) × (words ≡ word ∷ rest) × Q word a rest

-- what an arm reads is what is spelled behind its word; where it passes a limit, L
abbrev pub IsArm : {A : Type 0} → (A → Phrase) → (A → Word → Bool) → Type 0 → Arm A → Type 0
IsArm {A} Q on L stop = (a : A) (words : List Word) → Q a words → ⊥
IsArm {A} Q on L limit = ((a : A) (words : List Word) → Q a words → ⊥) × L
IsArm {A} Q on L (go p) = Exact Q on p

-- the limit is passed at a mark, in place of which something is spelled
abbrev pub Limit : {A : Type 0} → (Word → A → Phrase) → Word → Type 0
Limit {A} Q word = (m : Punctuator) × (word ≡ mark m) × Made (Q (beyond m))

pub record Arms {A : Type 0} (Q : Word → A → Phrase) (on : A → Word → Bool) (arms : Word → Arm A) : Type 0 where
  pub each : (word : Word) → IsArm (Q word) on (Limit Q word) (arms word)
  pub at_deep : arms deep ≡ stop
  pub at_beyond : (m : Punctuator) → arms (mark m) ≡ stop → arms (beyond m) ≡ stop
  pub some : Made (ByWord Q)
  pub meek : (a : A) → IsMeek (on a)

arm_sound : {A : Type 0} (Q : Word → A → Phrase) (on : A → Word → Bool) (L : Type 0) (w : Word) (arm : Arm A) → IsArm (Q w) on L arm
    → (ts : List Word) (a : A) (rest : List Word) → by_arm arm w ts ≡ Ok (a, rest) → Split (ByWord Q) on (w ∷ ts) a rest
arm_sound Q on L w stop h ts a rest e = absurd cc
arm_sound Q on L w limit h ts a rest e = absurd cc
arm_sound Q on L w (go p) h ts a rest e =
    let s = h.sound ts a rest e in
    record { front = w ∷ s.front; whole = ap (λ z. w ∷ z) s.whole; spelled = (w, s.front, refl, s.spelled); closed = s.closed }

arm_complete : {A : Type 0} (Q : A → Phrase) (on : A → Word → Bool) (L : Type 0) (w : Word) (arm : Arm A) → IsArm Q on L arm → (a : A) (y rest : List Word) → Q a y → Closed (on a) rest → by_arm arm w (y ++ rest) ≡ Ok (a, rest)
arm_complete Q on L w stop h a y rest m c = absurd (h a y m)
arm_complete Q on L w limit h a y rest m c = absurd (h.0 a y m)
arm_complete Q on L w (go p) h a y rest m c = h.complete a y rest m c

at_end : {A : Type 0} (Q : Word → A → Phrase) (on : A → Word → Bool) (arms : Word → Arm A) → Arms Q on arms → (others : List Word) → Near false [] others → by_word arms others ≡ unexpected others
at_end Q on arms h [] k = refl
at_end Q on arms h (u ∷ us) (inl k) = absurd k
at_end {A} Q on arms h (u ∷ us) (inr k) = elim (deeper_view [] (u ∷ us) k.1) [
  | inl v ↦ subst (λ z. by_word arms z ≡ unexpected z) (sym v.1) (ap (λ (arm : Arm A). by_arm arm deep v.0) h.at_deep)
  | inr v ↦ absurd (cc (v.3))
]

at_word : {A : Type 0} (Q : Word → A → Phrase) (on : A → Word → Bool) (arms : Word → Arm A) → Arms Q on arms → (w : Word) (ts : List Word) → arms w ≡ stop → (others : List Word) → Near false (w ∷ ts) others → by_word arms others ≡ unexpected others
at_word Q on arms h w ts e [] (inl k) = absurd k
at_word {A} Q on arms h w ts e (u ∷ us) (inl k) = ap (λ (arm : Arm A). by_arm arm u us) (ap arms (sym k) ∙ e)
at_word {A} Q on arms h w ts e others (inr k) = elim (deeper_view (w ∷ ts) others k.1) [
  | inl v ↦ subst (λ z. by_word arms z ≡ unexpected z) (sym v.1) (ap (λ (arm : Arm A). by_arm arm deep v.0) h.at_deep)
  | inr v ↦
      let is : w ≡ mark v.0 = cc (v.3) in
      subst (λ z. by_word arms z ≡ unexpected z) (sym v.4) (ap (λ (arm : Arm A). by_arm arm (beyond v.0) v.2) (h.at_beyond v.0 (ap arms (sym is) ∙ e)))
]

-- reading that ends at once
pub at_once : {A : Type 0} (P : A → Phrase) (r : Reader A) → Made P → (ts : List Word) (f : Fault) → r ts ≡ Err f → r ts ≡ unexpected ts → ((others : List Word) → Near false ts others → r others ≡ unexpected others) → Stop P r ts f
at_once {A} P r made ts f e is fails =
    let same : record { too_deep = false; left = length ts } ≡ f = err_is {A = A × List Word} _ _ (sym is ∙ e) in
    subst (λ z. Stop P r ts z) same (record { before = []; bad = ts; whole = refl; is_left = refl; rest = made.text; tree = made.tree; begun = made.spelled; deeper = λ d. absurd cc; fails = fails })

word_stops : {A : Type 0} (Q : Word → A → Phrase) (on : A → Word → Bool) (arms : Word → Arm A) → Arms Q on arms → (ts : List Word) (f : Fault) → by_word arms ts ≡ Err f → Stop (ByWord Q) (by_word arms) ts f
word_stops Q on arms h [] f e = at_once (ByWord Q) (by_word arms) h.some [] f e refl (at_end Q on arms h)
word_stops {A} Q on arms h (w ∷ ts) f e = by (arms w) refl (h.each w)
  where
    by : (arm : Arm A) → arms w ≡ arm → IsArm (Q w) on (Limit Q w) arm → Stop (ByWord Q) (by_word arms) (w ∷ ts) f
    by stop is i = at_once (ByWord Q) (by_word arms) h.some (w ∷ ts) f e (ap (λ (arm : Arm A). by_arm arm w ts) is) (at_word Q on arms h w ts is)
    by limit is i =
        let l = i.1 in
        let found : too_deep {A = A} (w ∷ ts) ≡ Err f = sym (ap (λ (arm : Arm A). by_arm arm w ts) is) ∙ e in
        let same : record { too_deep = true; left = suc (length ts) } ≡ f = err_is {A = A × List Word} _ _ found in
        subst (λ z. Stop (ByWord Q) (by_word arms) (w ∷ ts) z) same
        (record {
          before = [];
          bad = w ∷ ts;
          whole = refl;
          is_left = refl;
          rest = beyond l.0 ∷ l.2.text;
          tree = l.2.tree;
          begun = (beyond l.0, l.2.text, refl, l.2.spelled);
          deeper = λ d. subst (λ z. IsDeeper (z ∷ ts) (beyond l.0 ∷ l.2.text)) (sym l.1) refl;
          fails = fails is;
        })
      where
        fails : arms w ≡ limit → (others : List Word) → Near true (w ∷ ts) others → by_word arms others ≡ too_deep others
        fails is [] (inl k) = absurd k
        fails is (u ∷ us) (inl k) = ap (λ (arm : Arm A). by_arm arm u us) (ap arms (sym k) ∙ is)
        fails is others (inr k) = absurd (cc (k.0))
    by (go p) is i =
        let s = i.stops ts f (sym (ap (λ (arm : Arm A). by_arm arm w ts) is) ∙ e) in
        record {
          before = w ∷ s.before;
          bad = s.bad;
          whole = ap (λ z. w ∷ z) s.whole;
          is_left = s.is_left;
          rest = s.rest;
          tree = s.tree;
          begun = (w, s.before ++ s.rest, refl, s.begun);
          deeper = s.deeper;
          fails = λ others k. ap (λ (arm : Arm A). by_arm arm w (s.before ++ others)) is ∙ s.fails others k;
        }

pub exact_word : {A : Type 0} (Q : Word → A → Phrase) (on : A → Word → Bool) (arms : Word → Arm A) → Arms Q on arms → Exact (ByWord Q) on (by_word arms)
exact_word {A} Q on arms h = record {
  sound = sound;
  complete = λ a x rest m c. ap (λ z. by_word arms (z ++ rest)) m.2 ∙ arm_complete (Q m.0) on (Limit Q m.0) m.0 (arms m.0) (h.each m.0) a m.1 rest m.3 c;
  stops = word_stops Q on arms h;
  meek = h.meek;
  some = h.some;
}
  where
    sound : (ts : List Word) (a : A) (rest : List Word) → by_word arms ts ≡ Ok (a, rest) → Split (ByWord Q) on ts a rest
    sound [] a rest e = absurd cc
    sound (w ∷ ts) a rest e = arm_sound Q on (Limit Q w) w (arms w) (h.each w) ts a rest e

-- ---- one word

-- a test that takes some word, and none that stands for what is too deep
pub record Terminal {A : Type 0} (take : Word → Option A) : Type 0 where
  pub word : Word
  pub some : A
  pub takes : take word ≡ Some some
  pub at_deep : take deep ≡ None
  pub at_beyond : (m : Punctuator) → take (beyond m) ≡ None

pub meek_at : {A : Type 0} (take : Word → Option A) → Terminal take → IsMeek (at take)
meek_at take h = record { at_deep = ap is_some h.at_deep; at_beyond = λ m e. ap is_some (h.at_beyond m) }

abbrev want_arm : {A : Type 0} → Option A → Arm A
want_arm (Some a) = go (done a)
want_arm None = stop

abbrev WantBehind : {A : Type 0} → (Word → Option A) → Word → A → Phrase
WantBehind take word a words = (take word ≡ Some a) × nothing words

want_is : {A : Type 0} (take : Word → Option A) (ts : List Word) → want take ts ≡ by_word (λ w. want_arm (take w)) ts
want_is take [] = refl
want_is {A} take (w ∷ ws) = by (take w)
  where
    by : (o : Option A) → taken o w ws ≡ by_arm (want_arm o) w ws
    by (Some a) = refl
    by None = refl

some_is : {A : Type 0} (a b : A) → Some a ≡ Some b → a ≡ b
some_is a b e = cc

want_each : {A : Type 0} (take : Word → Option A) (w : Word) → IsArm (WantBehind take w) never (Limit (WantBehind take) w) (want_arm (take w))
want_each {A} take w = by (take w) refl
  where
    by : (o : Option A) → take w ≡ o → IsArm (WantBehind take w) never (Limit (WantBehind take) w) (want_arm o)
    by None e = λ a ws m. absurd (cc (sym e ∙ m.0))
    by (Some a) e = exact_for (Just a) (WantBehind take w) never (done a) (λ b x m. (e ∙ ap (λ z. Some z) (sym m.0), m.1)) (λ b x m. (some_is b a (sym m.0 ∙ e), m.1)) (exact_done a)

pub exact_want : {A : Type 0} (take : Word → Option A) → Terminal take → Exact (one take) never (want take)
exact_want {A} take h =
    exact_as (one take) never (want take) (by_word (λ w. want_arm (take w))) (want_is take)
    (exact_for (ByWord (WantBehind take)) (one take) never (by_word (λ w. want_arm (take w)))
    (λ a x m. (m.0, m.3.0, m.2 ∙ ap (λ z. m.0 ∷ z) m.3.1)) (λ a x m. (m.0, [], m.2, (m.1, refl)))
    (exact_word (WantBehind take) never (λ w. want_arm (take w)) (record {
      each = want_each take;
      at_deep = ap want_arm h.at_deep;
      at_beyond = λ m e. ap want_arm (h.at_beyond m);
      some = record { tree = h.some; text = h.word ∷ []; spelled = (h.word, [], refl, (h.takes, refl)) };
      meek = λ a. meek_none;
    })))

-- ---- behind a word

abbrev behind_arm : {A : Type 0} → Reader A → Option U → Arm A
behind_arm p (Some u) = go p
behind_arm p None = stop

abbrev Behind : {A : Type 0} → (Word → Option U) → (A → Phrase) → Word → A → Phrase
Behind take P word a words = (take word ≡ Some tt) × P a words

behind_is : {A : Type 0} (take : Word → Option U) (p : Reader A) (ts : List Word) → behind take p ts ≡ by_word (λ w. behind_arm p (take w)) ts
behind_is take p [] = refl
behind_is take p (w ∷ ws) = by (take w)
  where
    by : (o : Option U) → (taken o w ws >>= λ u. p u.1) ≡ by_arm (behind_arm p o) w ws
    by (Some a) = refl
    by None = refl

behind_each : {A : Type 0} (take : Word → Option U) (P : A → Phrase) (on : A → Word → Bool) (p : Reader A) → Exact P on p → (w : Word) → IsArm (Behind take P w) on (Limit (Behind take P) w) (behind_arm p (take w))
behind_each {A} take P on p h w = by (take w) refl
  where
    by : (o : Option U) → take w ≡ o → IsArm (Behind take P w) on (Limit (Behind take P) w) (behind_arm p o)
    by None e = λ a ws m. absurd (cc (sym e ∙ m.0))
    by (Some u) e = exact_for P (Behind take P w) on p (λ b x m. (e, m)) (λ b x m. m.1) h

pub exact_behind : {A : Type 0} (take : Word → Option U) (P : A → Phrase) (on : A → Word → Bool) (p : Reader A) → Terminal take → Exact P on p → Exact (λ a. one take tt ▸ P a) on (behind take p)
exact_behind take P on p t h =
    exact_as (λ a. one take tt ▸ P a) on (behind take p) (by_word (λ w. behind_arm p (take w))) (behind_is take p)
    (exact_for (ByWord (Behind take P)) (λ a. one take tt ▸ P a) on (by_word (λ w. behind_arm p (take w)))
    (λ a x m. (m.0 ∷ [], m.1, m.2, (m.0, m.3.0, refl), m.3.1)) (λ a x m. (m.3.0, m.1, m.2 ∙ ap (λ z. z ++ m.1) m.3.2, (m.3.1, m.4)))
    (exact_word (Behind take P) on (λ w. behind_arm p (take w)) (record {
      each = behind_each take P on p h;
      at_deep = ap (behind_arm p) t.at_deep;
      at_beyond = λ m e. ap (behind_arm p) (t.at_beyond m);
      some = record { tree = h.some.tree; text = t.word ∷ h.some.text; spelled = (t.word, h.some.text, refl, (t.takes, h.some.spelled)) };
      meek = h.meek;
    })))
