-- Comments and marks at the front of a text.
use Rattle.std.proofs.Common.{◌≡◌, ℕ, zero, suc, ◌+◌, ◌<◌, ◌≤◌, Bool, true, false, List, [], ◌∷◌, length, take, drop, get_or, refl, sym, ◌∙◌, ap, subst, arith}
use Rattle.std.specs.Prelude.{◌&&◌, ◌==◌}
use Rattle.std.specs.List.{list_all, prefix_len}
use Rattle.std.specs.Char.{is_ascii_digit}
use Rattle.std.proofs.lemmas.Bool.{and_parts, false≢true, eqb-true, both_ways, and_from, or_parts, or_from, false_from_ne_true}
use Rattle.std.proofs.lemmas.List.Sums.{prefix_len-le-length}
use Rattle.flight_syntax.specs.declared.token.TokenKind.TheVariants.{Name, Number, Big, Text, Mark}
use Rattle.flight_syntax.specs.declared.piece.Piece.{Piece}
use Rattle.flight_syntax.specs.declared.piece.Piece.TheVariants.{Space, Comment, Token}
use Rattle.flight_syntax.specs.Pieces.{is_space, is_line_byte, begins_name, is_single_mark, is_double_mark, begins_pair, Spells, Stands, NothingStands}
use Rattle.flight_syntax.proofs.Classes.{other, class, class_of, class-first, class-mark, class-double, class-other}
use Rattle.flight_syntax.proofs.Fronts.{longest-by, all-le, all-prefix, no_empty}

-- a comment
longest-comment_at : (line : List ℕ) (piece : Piece) (n : ℕ) → class_of piece ≡ other → n ≤ length (47 ∷ line) → Spells piece (47 ∷ take n (47 ∷ line)) → n < 2 + prefix_len is_line_byte line
longest-comment_at line Space n e l s = cc
longest-comment_at line Comment zero e l s = omega arith
longest-comment_at line Comment (suc n) e l s = let fits = all-le is_line_byte line n (omega arith) s in omega (arith, fits)
longest-comment_at line (Token Name) n e l s = cc
longest-comment_at line (Token Number) n e l s = cc
longest-comment_at line (Token Big) n e l s = cc
longest-comment_at line (Token Text) n e l s = cc
longest-comment_at line (Token Mark) zero e l s = omega arith
longest-comment_at line (Token Mark) (suc zero) e l s = omega arith
longest-comment_at [] (Token Mark) (suc (suc n)) e l s = absurd (omega arith)
longest-comment_at (c ∷ line) (Token Mark) (suc (suc n)) e l s = absurd (false≢true s)

pub Stands-comment : (line : List ℕ) → Stands Comment (47 ∷ 47 ∷ line) (suc (suc (prefix_len is_line_byte line)))
Stands-comment line = record {
  within = let w = prefix_len-le-length is_line_byte line in omega (arith, w);
  spelled = all-prefix is_line_byte line;
  longest = longest-by 47 (47 ∷ line) (suc (suc (prefix_len is_line_byte line))) (λ piece n e l s. let below = longest-comment_at line piece n e l s in omega (arith, below));
  is_apart = tt;
}

pub no_double : (a b : ℕ) (t : Bool) → is_double_mark a b ≡ true → (a == 47) ≡ true → (b == 47) ≡ true → ⊥
no_double a b t h p q =
    let a_is = eqb-true a 47 p in
    let b_is = eqb-true b 47 q in
    false≢true (ap (λ x. is_double_mark 47 x) (sym b_is) ∙ (ap (λ x. is_double_mark x b) (sym a_is) ∙ h))

-- a mark of two bytes
longest-double_at : (a b : ℕ) (bs : List ℕ) → is_double_mark a b ≡ true → (piece : Piece) (n : ℕ) → class_of piece ≡ other → n ≤ length (b ∷ bs) → Spells piece (a ∷ take n (b ∷ bs)) → n < 2
longest-double_at a b bs h Space n e l s = cc
longest-double_at a b bs h Comment zero e l s = omega arith
longest-double_at a b bs h Comment (suc n) e l s =
    let parts = and_parts (a == 47) ((b == 47) && list_all is_line_byte (take n bs)) s in
    let more = and_parts (b == 47) (list_all is_line_byte (take n bs)) parts.1 in
    absurd (no_double a b true h parts.0 more.0)
longest-double_at a b bs h (Token Name) n e l s = cc
longest-double_at a b bs h (Token Number) n e l s = cc
longest-double_at a b bs h (Token Big) n e l s = cc
longest-double_at a b bs h (Token Text) n e l s = cc
longest-double_at a b bs h (Token Mark) zero e l s = omega arith
longest-double_at a b bs h (Token Mark) (suc zero) e l s = omega arith
longest-double_at a b [] h (Token Mark) (suc (suc n)) e l s = absurd (omega arith)
longest-double_at a b (c ∷ bs) h (Token Mark) (suc (suc n)) e l s = absurd (false≢true s)

pub Stands-double : (a b : ℕ) (bs : List ℕ) → is_double_mark a b ≡ true → Stands (Token Mark) (a ∷ b ∷ bs) 2
Stands-double a b bs h = record {
  within = omega arith;
  spelled = h;
  longest = longest-by a (b ∷ bs) 2 (λ piece n e. longest-double_at a b bs h piece n (e ∙ class-double a b h));
  is_apart = tt;
}

no_single-slash : (a : ℕ) → is_single_mark a ≡ true → (a == 47) ≡ true → ⊥
no_single-slash a h p = false≢true (ap is_single_mark (sym (eqb-true a 47 p)) ∙ h)

-- a longer piece of this class has a pair at its front
longer-pair : (a : ℕ) (bs : List ℕ) → begins_pair (a ∷ bs) ≡ false → (piece : Piece) (n : ℕ) → class_of piece ≡ other → n ≤ length bs → Spells piece (a ∷ take n bs) → n ≡ 0
longer-pair a bs h piece zero e l s = refl
longer-pair a [] h piece (suc n) e l s = absurd (omega arith)
longer-pair a (b ∷ bs) h Space (suc n) e l s = cc
longer-pair a (b ∷ bs) h Comment (suc n) e l s =
    let parts = and_parts (a == 47) ((b == 47) && list_all is_line_byte (take n bs)) s in
    let more = and_parts (b == 47) (list_all is_line_byte (take n bs)) parts.1 in
    let tests = or_parts (is_double_mark a b) ((a == 47) && (b == 47)) h in
    absurd (both_ways ((a == 47) && (b == 47)) tests.1 (and_from (a == 47) (b == 47) parts.0 more.0))
longer-pair a (b ∷ bs) h (Token Name) (suc n) e l s = cc
longer-pair a (b ∷ bs) h (Token Number) (suc n) e l s = cc
longer-pair a (b ∷ bs) h (Token Big) (suc n) e l s = cc
longer-pair a (b ∷ bs) h (Token Text) (suc n) e l s = cc
longer-pair a (b ∷ bs) h (Token Mark) (suc zero) e l s =
    let tests = or_parts (is_double_mark a b) ((a == 47) && (b == 47)) h in
    absurd (both_ways (is_double_mark a b) tests.0 s)
longer-pair a (b ∷ []) h (Token Mark) (suc (suc n)) e l s = absurd (omega arith)
longer-pair a (b ∷ c ∷ bs) h (Token Mark) (suc (suc n)) e l s = absurd (false≢true s)

pub Stands-single : (a : ℕ) (bs : List ℕ) → is_single_mark a ≡ true → begins_pair (a ∷ bs) ≡ false → Stands (Token Mark) (a ∷ bs) 1
Stands-single a bs h p = record {
  within = omega arith;
  spelled = h;
  longest = longest-by a bs 1 (λ piece n e l s. let none_more = longer-pair a bs p piece n (e ∙ class-mark a h) l s in omega (arith, none_more));
  is_apart = tt;
}

single-other : (a : ℕ) (piece : Piece) → class_of piece ≡ other → Spells piece (a ∷ []) → is_single_mark a ≡ true
single-other a Space e s = cc
single-other a Comment e s = absurd (false≢true s)
single-other a (Token Name) e s = cc
single-other a (Token Number) e s = cc
single-other a (Token Big) e s = cc
single-other a (Token Text) e s = cc
single-other a (Token Mark) e s = s

-- nothing begins with any other byte
pub none-other : (a : ℕ) (bs : List ℕ) → class a ≡ other → is_single_mark a ≡ false → begins_pair (a ∷ bs) ≡ false → (piece : Piece) (count : ℕ) → Stands piece (a ∷ bs) count → ⊥
none-other a bs k h p piece zero s = no_empty piece s.spelled
none-other a bs k h p piece (suc n) s =
    let e = sym (class-first piece a (take n bs) s.spelled) ∙ k in
    let alone : n ≡ 0 = longer-pair a bs p piece n e (let w = s.within in omega (arith, w)) s.spelled in
    let front : Spells piece (a ∷ []) = subst (λ m. Spells piece (a ∷ take m bs)) alone s.spelled in
    both_ways (is_single_mark a) h (single-other a piece e front)

-- the same of texts by their first bytes
pub comment_at : (text : List ℕ) (count : ℕ) → 2 ≤ length text → get_or text 0 0 ≡ 47 → get_or text 1 0 ≡ 47 → count ≡ 2 + prefix_len is_line_byte (drop 2 text) → Stands Comment text count
comment_at [] count l p q e = absurd (omega arith)
comment_at (a ∷ []) count l p q e = absurd (omega arith)
comment_at (a ∷ b ∷ line) count l p q e =
    let same : count ≡ suc (suc (prefix_len is_line_byte line)) = omega (arith, e) in
    rw (p, q, same) (Stands-comment line)

pub double_at : (text : List ℕ) → 2 ≤ length text → is_double_mark (get_or text 0 0) (get_or text 1 0) ≡ true → Stands (Token Mark) text 2
double_at [] l h = absurd (omega arith)
double_at (a ∷ []) l h = absurd (omega arith)
double_at (a ∷ b ∷ bs) l h = Stands-double a b bs h

pub no_pair : (text : List ℕ) → (get_or text 0 0 ≡ 47 → get_or text 1 0 ≡ 47 → ⊥) → is_double_mark (get_or text 0 0) (get_or text 1 0) ≡ false → begins_pair text ≡ false
no_pair [] f h = refl
no_pair (a ∷ []) f h = refl
no_pair (a ∷ b ∷ bs) f h =
    or_from (is_double_mark a b) ((a == 47) && (b == 47)) h
    (false_from_ne_true ((a == 47) && (b == 47)) (λ e. let parts = and_parts (a == 47) (b == 47) e in f (eqb-true a 47 parts.0) (eqb-true b 47 parts.1)))

pub single_at : (text : List ℕ) → 0 < length text → is_single_mark (get_or text 0 0) ≡ true → begins_pair text ≡ false → Stands (Token Mark) text 1
single_at [] l h p = absurd (omega arith)
single_at (a ∷ bs) l h p = Stands-single a bs h p

pub none_at : (text : List ℕ) → 0 < length text → is_space (get_or text 0 0) ≡ false → begins_name (get_or text 0 0) ≡ false → is_ascii_digit (get_or text 0 0) ≡ false → (get_or text 0 0 == 34) ≡ false → is_single_mark (get_or text 0 0) ≡ false → begins_pair text ≡ false → NothingStands text
none_at [] l s n d q h p = absurd (omega arith)
none_at (a ∷ bs) l s n d q h p = none-other a bs (class-other a s n d q) h p
