-- The front of a text that is a piece: no longer front is one.
use Rattle.std.proofs.Common.{◌≡◌, ℕ, suc, ◌+◌, ◌<◌, ◌≤◌, ◌++◌, Bool, true, false, cond, List, [], ◌∷◌, length, take, get_or, zero, refl, sym, ◌∙◌, ap, subst, arith, one-add}
use Rattle.std.specs.List.{list_all, prefix_len}
use Rattle.std.specs.Char.{is_ascii_digit}
use Rattle.std.proofs.lemmas.Bool.{and_parts, false≢true, and_from, or_left}
use Rattle.std.proofs.lemmas.List.Sums.{prefix_len-le-length}
use Rattle.flight_syntax.specs.declared.token.TokenKind.TheVariants.{Name, Number, Big, Text, Mark}
use Rattle.flight_syntax.specs.declared.piece.Piece.{Piece}
use Rattle.flight_syntax.specs.declared.piece.Piece.TheVariants.{Space, Comment, Token}
use Rattle.flight_syntax.specs.Pieces.{is_space, is_space_piece, begins_name, is_name_byte, Spells, Stands}
use Rattle.flight_syntax.proofs.Classes.{space, letter, class, class_of, class-first, class-letter, class-space}

-- no front longer than this spells a piece
abbrev pub IsLongest : List ℕ → ℕ → Type 0
IsLongest text count = (piece : Piece) (n : ℕ) → n ≤ length text → Spells piece (take n text) → n ≤ count

-- a front whose bytes all pass is no longer than the longest one
pub all-le : (p : ℕ → Bool) (xs : List ℕ) (n : ℕ) → n ≤ length xs → list_all p (take n xs) ≡ true → n ≤ prefix_len p xs
all-le p xs zero l h = omega arith
all-le p [] (suc n) l h = absurd (omega arith)
all-le p (x ∷ xs) (suc n) l h =
    let parts = and_parts (p x) (list_all p (take n xs)) h in
    let rest = all-le p xs n (omega arith) parts.1 in
    let more : cond (p x) (1 + prefix_len p xs) 0 ≡ 1 + prefix_len p xs = ap (λ t. cond t (1 + prefix_len p xs) 0) parts.0 in
    omega (arith, rest, more)

all-prefix_at : (p : ℕ → Bool) (x : ℕ) (xs : List ℕ) (t : Bool) → p x ≡ t → list_all p (take (prefix_len p xs) xs) ≡ true → list_all p (take (cond t (1 + prefix_len p xs) 0) (x ∷ xs)) ≡ true
all-prefix_at p x xs true e h = rw one-add (and_from (p x) (list_all p (take (prefix_len p xs) xs)) e h)
all-prefix_at p x xs false e h = refl

-- all bytes of the longest front pass
pub all-prefix : (p : ℕ → Bool) (xs : List ℕ) → list_all p (take (prefix_len p xs) xs) ≡ true
all-prefix p [] = refl
all-prefix p (x ∷ xs) = all-prefix_at p x xs (p x) refl (all-prefix p xs)

nil_last : (xs : List ℕ) (x : ℕ) → ◌≡◌ {A = List ℕ} [] (xs ++ x ∷ []) → ⊥
nil_last [] x e = cc
nil_last (y ∷ xs) x e = cc

-- only pieces of the first byte's class can be longer
pub longest-by : (b : ℕ) (bs : List ℕ) (count : ℕ) → ((piece : Piece) (n : ℕ) → class_of piece ≡ class b → n ≤ length bs → Spells piece (b ∷ take n bs) → n < count) → IsLongest (b ∷ bs) count
longest-by b bs count f piece zero l s = omega arith
longest-by b bs count f piece (suc n) l s = let below = f piece n (sym (class-first piece b (take n bs) s)) (omega arith) s in omega (arith, below)

-- a space
space-one : (b : ℕ) (bs : List ℕ) (n : ℕ) → n ≤ length bs → is_space_piece (b ∷ take n bs) ≡ true → n < 1
space-one b bs zero l s = omega arith
space-one b [] (suc n) l s = absurd (omega arith)
space-one b (c ∷ bs) (suc n) l s = absurd (false≢true s)

longest-space_at : (b : ℕ) (bs : List ℕ) (piece : Piece) (n : ℕ) → class_of piece ≡ space → n ≤ length bs → Spells piece (b ∷ take n bs) → n < 1
longest-space_at b bs Space n e l s = space-one b bs n l s
longest-space_at b bs Comment n e l s = cc
longest-space_at b bs (Token Name) n e l s = cc
longest-space_at b bs (Token Number) n e l s = cc
longest-space_at b bs (Token Big) n e l s = cc
longest-space_at b bs (Token Text) n e l s = cc
longest-space_at b bs (Token Mark) n e l s = cc

pub Stands-space : (text : List ℕ) → 0 < length text → is_space (get_or text 0 0) ≡ true → Stands Space text 1
Stands-space [] l h = absurd (omega arith)
Stands-space (b ∷ bs) l h = record {
  within = omega arith;
  spelled = h;
  longest = longest-by b bs 1 (λ piece n e. longest-space_at b bs piece n (e ∙ class-space b h));
  is_apart = tt;
}

-- a name
longest-name_at : (b : ℕ) (bs : List ℕ) (piece : Piece) (n : ℕ) → class_of piece ≡ letter → n ≤ length bs → Spells piece (b ∷ take n bs) → n < 1 + prefix_len is_name_byte bs
longest-name_at b bs Space n e l s = cc
longest-name_at b bs Comment n e l s = cc
longest-name_at b bs (Token Name) n e l s =
    let fits = all-le is_name_byte bs n l (and_parts (begins_name b) (list_all is_name_byte (take n bs)) s).1 in omega (arith, fits)
longest-name_at b bs (Token Number) n e l s = cc
longest-name_at b bs (Token Big) n e l s = cc
longest-name_at b bs (Token Text) n e l s = cc
longest-name_at b bs (Token Mark) n e l s = cc

pub prefix_len-first : (p : ℕ → Bool) (b : ℕ) (bs : List ℕ) → p b ≡ true → prefix_len p (b ∷ bs) ≡ 1 + prefix_len p bs
prefix_len-first p b bs h = ap (λ t. cond t (1 + prefix_len p bs) 0) h

name-stands : (b : ℕ) (bs : List ℕ) → begins_name b ≡ true → Stands (Token Name) (b ∷ bs) (suc (prefix_len is_name_byte bs))
name-stands b bs h = record {
  within = let w = prefix_len-le-length is_name_byte bs in omega (arith, w);
  spelled = and_from (begins_name b) (list_all is_name_byte (take (prefix_len is_name_byte bs) bs)) h (all-prefix is_name_byte bs);
  longest = longest-by b bs (suc (prefix_len is_name_byte bs)) (λ piece n e l s. let below = longest-name_at b bs piece n (e ∙ class-letter b h) l s in omega (arith, below));
  is_apart = tt;
}

pub Stands-name : (text : List ℕ) → 0 < length text → begins_name (get_or text 0 0) ≡ true → Stands (Token Name) text (prefix_len is_name_byte text)
Stands-name [] l h = absurd (omega arith)
Stands-name (b ∷ bs) l h =
    let first = prefix_len-first is_name_byte b bs (or_left (begins_name b) (is_ascii_digit b) h) in
    let same : prefix_len is_name_byte (b ∷ bs) ≡ suc (prefix_len is_name_byte bs) = omega (arith, first) in
    subst (λ n. Stands (Token Name) (b ∷ bs) n) (sym same) (name-stands b bs h)

-- no piece is empty
pub no_empty : (piece : Piece) → Spells piece [] → ⊥
no_empty Space s = false≢true s
no_empty Comment s = false≢true s
no_empty (Token Name) s = false≢true s
no_empty (Token Number) (number, s) = let some = s.is_numeral.some in omega (arith, some)
no_empty (Token Big) (number, s) = nil_last s.digits 110 s.spelled
no_empty (Token Text) (value, s) = let q = s.quoted in cc
no_empty (Token Mark) s = false≢true s
