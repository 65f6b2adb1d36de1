-- Texts at the front of a text.
use Rattle.std.proofs.Common.{◌≡◌, ℕ, zero, suc, ◌+◌, ◌-◌, ◌<◌, ◌≤◌, ◌++◌, false, List, [], ◌∷◌, length, take, drop, get_or, sym, ap, subst, arith, add-one}
use Rattle.std.specs.Prelude.{Some, None}
use Rattle.std.proofs.lemmas.List.{take-append-drop, length-take-le, length-drop, get_or-drop}
use Rattle.std.specs.Str.{IsUtf8}
use Rattle.std.proofs.lemmas.Str.{IsUtf8-between, IsCharBoundary-before_ascii, IsCharBoundary-after_ascii}
use Rattle.serde_json.specs.Data.{string}
use Rattle.serde_json.specs.Read.{read}
use Rattle.flight_syntax.specs.declared.token.TokenKind.TheVariants.{Name, Number, Big, Text, Mark}
use Rattle.flight_syntax.specs.declared.piece.Piece.{Piece}
use Rattle.flight_syntax.specs.declared.piece.Piece.TheVariants.{Space, Comment, Token}
use Rattle.flight_syntax.specs.Pieces.{Spells, IsText, Stands, NothingStands}
use Rattle.flight_syntax.specs.Literal.{closing}
use Rattle.flight_syntax.proofs.Classes.{quote, class_of, class-first}
use Rattle.flight_syntax.proofs.Fronts.{longest-by, no_empty}
use Rattle.flight_syntax.proofs.Numbers.{front-last}
use Rattle.flight_syntax.proofs.Strings.{closing-string, closing-append, closing-last, closing-le}

-- where a front of the text is a text, it ends at the closing quote
text-closing : (xs v : List ℕ) (n : ℕ) → n ≤ length xs → IsText (34 ∷ take n xs) v → closing false xs ≡ Some n
text-closing xs v n l h =
    let inside : take n xs ≡ h.inner ++ 34 ∷ [] = let q = h.quoted in cc in
    let front = closing-string (take n xs) h.inner v inside h.is_string in
    let whole = closing-append (take n xs) (drop n xs) false (length (take n xs)) front in
    rw (take-append-drop n xs, length-take-le n xs l) at whole

text-count : (xs : List ℕ) (count : ℕ) → closing false xs ≡ Some count → (piece : Piece) (n : ℕ) → class_of piece ≡ quote → n ≤ length xs → Spells piece (34 ∷ take n xs) → n ≡ count
text-count xs count c Space n e l s = cc
text-count xs count c Comment n e l s = cc
text-count xs count c (Token Name) n e l s = cc
text-count xs count c (Token Number) n e l s = cc
text-count xs count c (Token Big) n e l s = cc
text-count xs count c (Token Text) n e l (v, s) = let k = text-closing xs v n l s in cc
text-count xs count c (Token Mark) n e l s = cc

text-stands : (xs : List ℕ) (count : ℕ) → closing false xs ≡ Some count → (v : List ℕ) → read (34 ∷ take count xs) ≡ Some (string v) → Stands (Token Text) (34 ∷ xs) (suc count)
text-stands xs count c v r =
    let last = closing-last xs false count c in
    record {
      within = let w = closing-le xs false count c in omega (arith, w);
      spelled = (v, record { inner = last.0; quoted = ap (λ ys. 34 ∷ ys) last.1; is_string = r });
      longest = longest-by 34 xs (suc count) (λ piece n e l s. let same = text-count xs count c piece n e l s in omega (arith, same));
      is_apart = tt;
    }

text-none : (xs : List ℕ) → ((v : List ℕ) (n : ℕ) → n ≤ length xs → IsText (34 ∷ take n xs) v → ⊥) → (piece : Piece) (n : ℕ) → class_of piece ≡ quote → n ≤ length xs → Spells piece (34 ∷ take n xs) → ⊥
text-none xs f Space n e l s = cc
text-none xs f Comment n e l s = cc
text-none xs f (Token Name) n e l s = cc
text-none xs f (Token Number) n e l s = cc
text-none xs f (Token Big) n e l s = cc
text-none xs f (Token Text) n e l (v, s) = f v n l s
text-none xs f (Token Mark) n e l s = cc

none-at : (xs : List ℕ) → ((v : List ℕ) (n : ℕ) → n ≤ length xs → IsText (34 ∷ take n xs) v → ⊥) → NothingStands (34 ∷ xs)
none-at xs f piece zero s = no_empty piece s.spelled
none-at xs f piece (suc n) s = text-none xs f piece n (sym (class-first piece 34 (take n xs) s.spelled)) (let w = s.within in omega (arith, w)) s.spelled

-- at a quote stands the text up to the closing quote, where it is a JSON string
pub Stands-text : (text : List ℕ) (count : ℕ) → 0 < length text → get_or text 0 0 ≡ 34 → closing false (drop 1 text) ≡ Some count → (v : List ℕ) → read (take (count + 1) text) ≡ Some (string v) → Stands (Token Text) text (count + 1)
Stands-text [] count l q c v r = absurd (omega arith)
Stands-text (b ∷ xs) count l q c v r =
    let r' : read (b ∷ take count xs) ≡ Some (string v) = rw add-one at r in
    rw (add-one, q) (text-stands xs count c v (rw q at r'))

-- at a quote with no closing quote stands nothing
pub none-unclosed : (text : List ℕ) → 0 < length text → get_or text 0 0 ≡ 34 → closing false (drop 1 text) ≡ None → NothingStands text
none-unclosed [] l q c = absurd (omega arith)
none-unclosed (b ∷ xs) l q c = rw q (none-at xs (λ v n w h. let k = text-closing xs v n w h in cc))

-- and nothing where what is up to the closing quote is no JSON string
pub none-no_string : (text : List ℕ) (count : ℕ) → 0 < length text → get_or text 0 0 ≡ 34 → closing false (drop 1 text) ≡ Some count → ((v : List ℕ) → read (take (count + 1) text) ≡ Some (string v) → ⊥) → NothingStands text
none-no_string [] count l q c f = absurd (omega arith)
none-no_string (b ∷ xs) count l q c f =
    rw q (none-at xs (λ v n w h.
    let k = text-closing xs v n w h in
    let same : n ≡ count = cc in
    let is : read (34 ∷ take count xs) ≡ Some (string v) = subst (λ m. read (34 ∷ take m xs) ≡ Some (string v)) same h.is_string in
    f v (rw (add-one, q) is)))

-- the literal of a UTF-8 text is UTF-8
pub literal-IsUtf8 : (text : List ℕ) (at count : ℕ) → IsUtf8 text → at < length text → get_or text at 0 ≡ 34 → closing false (drop 1 (drop at text)) ≡ Some count → IsUtf8 (take (count + 1) (drop at text))
literal-IsUtf8 text at count u l q c =
    let xs = drop 1 (drop at text) in
    let within : count ≤ length xs = closing-le xs false count c in
    let len : length xs ≡ length text - at - 1 = simp (length-drop, length-drop) in
    let last = closing-last xs false count c in
    let parts = front-last xs last.0 34 count within last.1 in
    let place : get_or text (at + (1 + length last.0)) 0 ≡ 34 = rw (get_or-drop, get_or-drop) at parts.1.1 in
    let counted = parts.0 in
    let inside : at + (1 + length last.0) < length text = omega (arith, counted, within, len) in
    let ends : at + (1 + length last.0) + 1 ≡ at + (count + 1) = omega (arith, counted) in
    let before = IsCharBoundary-before_ascii text at l (rw q (omega arith)) in
    let behind = IsCharBoundary-after_ascii text (at + (1 + length last.0)) u inside (rw place (omega arith)) in
    let whole = IsUtf8-between text at (at + (1 + length last.0) + 1) u (omega arith) before behind in
    let size : at + (1 + length last.0) + 1 - at ≡ count + 1 = omega (arith, counted) in
    subst (λ n. IsUtf8 (take n (drop at text))) size whole
