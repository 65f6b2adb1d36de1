-- Items one after another.
use Rattle.std.proofs.Common.{◌≡◌, ℕ, ◌+◌, inl, inr, List, [], ◌∷◌, ◌++◌, length, take, drop, refl, sym, ◌∙◌, ap, subst, arith, append_assoc, append-nil, add-zero, length-append}
use Rattle.std.proofs.lemmas.List.{take-append-drop}
use Rattle.flight_row.specs.Rows.{Item, handed, hint, SpellsItem, SpellAll}
use Rattle.flight_feed.specs.declared.arrived.Arrived.{Arrived}
use Rattle.flight_feed.specs.declared.begun.Begun.{Begun}
use Rattle.flight_feed.specs.declared.begun.Stop.{Stop}
use Rattle.flight_feed.specs.declared.begun.Stop.TheVariants.{Refused, Memory}
use Rattle.flight_feed.specs.Begun.{GoesOn, IsStopAt, Stops, bytes_of}
use Rattle.flight_feed.specs.Stream.{Advances, numbered}

pub SpellAll-append : (a b : List ℕ) (is js : List Item) → SpellAll a is → SpellAll b js → SpellAll (a ++ b) (is ++ js)
SpellAll-append a b [] js h k = rw h k
SpellAll-append a b (i ∷ is) js h k =
    (h.0, h.1 ++ b, rw h.2 (append_assoc h.0 h.1 b), h.3, SpellAll-append h.1 b is js h.4 k)

pub spell_one : (a : List ℕ) (i : Item) → SpellsItem a i → SpellAll a (i ∷ [])
spell_one a i h = (a, [], sym (append-nil a), h, refl)

pub numbered-append : (n m : ℕ) (is js : List Item) → m ≡ n + length is → numbered n (is ++ js) ≡ numbered n is ++ numbered m js
numbered-append n m [] js e = let same : m ≡ n = omega (arith, e) in rw same refl
numbered-append n m (handed r ∷ is) js e =
    ap (λ xs. record { number = n; row = r } ∷ xs) (numbered-append (n + 1) m is js (omega (arith, e)))
numbered-append n m (hint ∷ is) js e = numbered-append (n + 1) m is js (omega (arith, e))

-- the rows that came go on by those of a following text
pub advances_more : (text piece : List ℕ) (n m k : ℕ) (first rows rows' : List Arrived) (rest rest' : List ℕ) → Advances text n first rows rest m → Advances (rest ++ piece) m rows rows' rest' k → Advances (text ++ piece) n first rows' rest' k
advances_more text piece n m k first rows rows' rest rest' a b =
    record {
      items = a.items ++ b.items;
      front = a.front ++ b.front;
      added =
          b.added ∙ (ap (λ xs. xs ++ numbered m b.items) a.added
          ∙ (append_assoc first (numbered n a.items) (numbered m b.items)
          ∙ ap (λ xs. first ++ xs) (sym (numbered-append n m a.items b.items a.counted))));
      counted = let here = a.counted in let there = b.counted in simp length-append (omega (arith, here, there));
      spelled = SpellAll-append a.front b.front a.items b.items a.spelled b.spelled;
      whole =
          ap (λ xs. xs ++ piece) a.whole
          ∙ (append_assoc a.front rest piece
          ∙ (ap (λ xs. a.front ++ xs) b.whole ∙ sym (append_assoc a.front b.front rest')));
    }

-- what one step takes is an advance of its own
pub advance_one : (t : List ℕ) (rows rows' : List Arrived) (b b' : Begun) → GoesOn b b' rows rows' t → Advances (bytes_of b ++ t) b.number rows rows' (bytes_of b') b'.number
advance_one t rows rows' b b' (inl same) =
    record {
      items = [];
      front = [];
      added = same.0 ∙ sym (append-nil rows);
      counted = same.2 ∙ sym (add-zero b.number);
      spelled = refl;
      whole = sym same.1;
    }
advance_one t rows rows' b b' (inr whole) =
    record {
      items = whole.0 ∷ [];
      front = bytes_of b ++ t;
      added = whole.1;
      counted = whole.4;
      spelled = spell_one (bytes_of b ++ t) whole.0 whole.2;
      whole = rw (whole.3, append-nil) refl;
    }

pub advance : (text t : List ℕ) (n : ℕ) (first rows rows' : List Arrived) (b b' : Begun) → Advances text n first rows (bytes_of b) b.number → GoesOn b b' rows rows' t → Advances (text ++ t) n first rows' (bytes_of b') b'.number
advance text t n first rows rows' b b' a goes =
    advances_more text t n b.number b'.number first rows rows' (bytes_of b) (bytes_of b') a (advance_one t rows rows' b b' goes)

-- what is left behind a place of the piece
split_at : (old piece front now : List ℕ) (at : ℕ) → old ++ take at piece ≡ front ++ now → old ++ piece ≡ front ++ (now ++ drop at piece)
split_at old piece front now at e =
    ap (λ xs. old ++ xs) (sym (take-append-drop at piece))
    ∙ (sym (append_assoc old (take at piece) (drop at piece))
    ∙ (ap (λ xs. xs ++ drop at piece) e ∙ append_assoc front now (drop at piece)))

behind : (old piece : List ℕ) (at n m m' : ℕ) (first rows rows' : List Arrived) (now : List ℕ) → Advances (old ++ take at piece) n first rows now m → rows' ≡ rows → m' ≡ m → Advances (old ++ piece) n first rows' (now ++ drop at piece) m'
behind old piece at n m m' first rows rows' now a same number =
    record {
      items = a.items;
      front = a.front;
      added = same ∙ a.added;
      counted = number ∙ a.counted;
      spelled = a.spelled;
      whole = split_at old piece a.front now at a.whole;
    }

-- the fault is behind the rows so far
pub stop : (old piece : List ℕ) (at n m : ℕ) (first rows rows' : List Arrived) (b : Begun) (s : Stop) → Advances (old ++ take at piece) n first rows (bytes_of b) b.number → rows' ≡ rows → m ≡ b.number → IsStopAt (bytes_of b) (drop at piece) s → Stops (old ++ piece) n first rows' m s
stop old piece at n m first rows rows' b Memory a same number h =
    record {
      more = bytes_of b ++ drop at piece;
      number = m;
      rows = behind old piece at n b.number m first rows rows' (bytes_of b) a same number;
    }
stop old piece at n m first rows rows' b (Refused kind) a same number h =
    let regrouped : bytes_of b ++ drop at piece ≡ (bytes_of b ++ take h.0 (drop at piece)) ++ drop h.0 (drop at piece) =
    ap (λ xs. bytes_of b ++ xs) (sym (take-append-drop h.0 (drop at piece)))
    ∙ sym (append_assoc (bytes_of b) (take h.0 (drop at piece)) (drop h.0 (drop at piece))) in
    record {
      bad = bytes_of b ++ take h.0 (drop at piece);
      more = drop h.0 (drop at piece);
      rows = subst (λ xs. Advances (old ++ piece) n first rows' xs m) regrouped (behind old piece at n b.number m first rows rows' (bytes_of b) a same number);
      is_bad = h.2;
    }
