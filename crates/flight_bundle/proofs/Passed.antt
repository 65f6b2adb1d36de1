-- Going through the lines of a text.
use Rattle.std.proofs.Common.{◌≡◌, ◌≢◌, ◌++◌, ◌∷◌, [], ℕ, ◌+◌, ◌≤◌, length, take, List, Option, Some, None, Contains, refl, sym, ◌∙◌, ap, inl, inr}
use Rattle.std.specs.List.{AllByRecursion}
use Rattle.std.proofs.lemmas.List.{append_assoc, length-append, take_at}
use Rattle.flight_bundle.specs.Lines.{newline, IsLine, IsOther, ended, from_line, FirstLine, NoLine}

-- a line of a text, behind lines that are not the mark
pub record Passed (mark text line : List ℕ) (behind : Option (List ℕ)) (at : ℕ) : Type 0 where
  pub lines : List (List ℕ)
  pub others : AllByRecursion (IsOther mark) lines
  pub count : at ≡ length (ended lines)
  pub is_line : IsLine line
  pub whole : text ≡ ended lines ++ from_line line behind

pub begins : (mark text line : List ℕ) (behind : Option (List ℕ)) → IsLine line → text ≡ from_line line behind → Passed mark text line behind 0
begins mark text line behind l w = record { lines = []; others = tt; count = refl; is_line = l; whole = w }

all-append : {A : Type 0} (P : A → Type 0) (xs : List A) (x : A) → AllByRecursion P xs → P x → AllByRecursion P (xs ++ x ∷ [])
all-append P [] x h p = (p, tt)
all-append P (y ∷ ys) x h p = (h.0, all-append P ys x h.1 p)

ended-append : (lines : List (List ℕ)) (line : List ℕ) → ended (lines ++ line ∷ []) ≡ ended lines ++ (line ++ newline ∷ [])
ended-append [] line = refl
ended-append (l ∷ lines) line = ap (λ x. l ++ newline ∷ x) (ended-append lines line) ∙ sym (append_assoc l (newline ∷ ended lines) (line ++ newline ∷ []))

more : (lines : List (List ℕ)) (line rest : List ℕ) → ended (lines ++ line ∷ []) ++ rest ≡ ended lines ++ (line ++ newline ∷ rest)
more lines line rest =
    ap (λ x. x ++ rest) (ended-append lines line)
    ∙ append_assoc (ended lines) (line ++ newline ∷ []) rest
    ∙ ap (λ x. ended lines ++ x) (append_assoc line (newline ∷ []) rest)

pub goes_on : (mark text line rest next : List ℕ) (behind : Option (List ℕ)) (at : ℕ) → Passed mark text line (Some rest) at → line ≢ mark → IsLine next → rest ≡ from_line next behind → Passed mark text next behind (at + (length line + 1))
goes_on mark text line rest next behind at p other l w =
    record {
      lines = p.lines ++ line ∷ [];
      others = all-append (IsOther mark) p.lines line p.others (p.is_line, other);
      count =
          ap (λ n. n + (length line + 1)) p.count
          ∙ ap (λ n. length (ended p.lines) + n) (sym (length-append line (newline ∷ [])))
          ∙ sym (length-append (ended p.lines) (line ++ newline ∷ []))
          ∙ ap length (sym (ended-append p.lines line));
      is_line = l;
      whole = p.whole ∙ sym (more p.lines line rest) ∙ ap (λ x. ended (p.lines ++ line ∷ []) ++ x) w;
    }

front_of : (mark text line : List ℕ) (behind : Option (List ℕ)) (at : ℕ) (p : Passed mark text line behind at) → take at text ≡ ended p.lines
front_of mark text line behind at p =
    ap (λ t. take at t) p.whole ∙ take_at (ended p.lines) (from_line line behind) at (sym p.count)

pub found : (mark text line rest : List ℕ) (at : ℕ) → Passed mark text line (Some rest) at → line ≡ mark → FirstLine mark text (take at text) rest
found mark text line rest at p e =
    let front = front_of mark text line (Some rest) at p in
    record {
      lines = p.lines;
      others = p.others;
      front = front;
      around = inr (p.whole ∙ ap (λ x. x ++ (line ++ newline ∷ rest)) (sym front) ∙ ap (λ m. take at text ++ (m ++ newline ∷ rest)) e);
    }

pub found_last : (mark text line : List ℕ) (at : ℕ) → Passed mark text line None at → line ≡ mark → FirstLine mark text (take at text) []
found_last mark text line at p e =
    let front = front_of mark text line None at p in
    record {
      lines = p.lines;
      others = p.others;
      front = front;
      around = inl (p.whole ∙ ap (λ x. x ++ line) (sym front) ∙ ap (λ m. take at text ++ m) e, refl);
    }

pub none_left : (mark text line : List ℕ) (at : ℕ) → Passed mark text line None at → line ≢ mark → NoLine mark text
none_left mark text line at p other = record { lines = p.lines; last = line; others = p.others; last_other = (p.is_line, other); whole = p.whole }

pub within : (mark text line : List ℕ) (behind : Option (List ℕ)) (at : ℕ) → Passed mark text line behind at → at + length (from_line line behind) ≡ length text
within mark text line behind at p = ap (λ n. n + length (from_line line behind)) p.count ∙ sym (length-append (ended p.lines) (from_line line behind)) ∙ ap length (sym p.whole)
