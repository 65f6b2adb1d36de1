-- Printed tokens are read again.
use Rattle.std.proofs.Common.{◌≡◌, ◌≢◌, ℕ, ◌+◌, ◌-◌, ◌<◌, ◌≤◌, ◌++◌, Bool, true, false, cond, List, [], ◌∷◌, length, take, drop, get_or, refl, sym, ◌∙◌, ap, subst, arith, append_assoc, length-append, length-drop}
use Rattle.std.specs.Prelude.{◌^◌, slice_range, Some}
use Rattle.std.proofs.Math.Seq.{drop-drop}
use Rattle.std.specs.List.{list_all, prefix_len}
use Rattle.std.specs.Char.{is_ascii_digit}
use Rattle.std.proofs.lemmas.Bool.{and_parts, false≢true, or_left, or_parts}
use Rattle.std.proofs.lemmas.Bool.Decides.{nat_tests}
use Rattle.serde_json.specs.Data.{string}
use Rattle.serde_json.specs.Read.{read}
use Rattle.flight_syntax.specs.declared.token.Token.{Token}
use Rattle.flight_syntax.specs.declared.token.TokenKind.{TokenKind}
use Rattle.flight_syntax.specs.declared.token.TokenKind.TheVariants.{Name, Number, Big, Text, Mark}
use Rattle.flight_syntax.specs.declared.piece.Piece.TheVariants as piece
use Rattle.flight_syntax.specs.Pieces.{SpellsToken, Stands, IsNumeral, IsNumber, IsText, is_space, is_name, begins_name, is_name_byte, begins_pair, is_mark}
use Rattle.flight_syntax.specs.Tokens.{Reads, nothing, space, token, AreTokens}
use Rattle.flight_syntax.specs.Lexicon.{Word, word_as, words_of}
use Rattle.flight_syntax.proofs.Fronts.{Stands-name, Stands-space}
use Rattle.flight_syntax.proofs.Numbers.{Stands-number, Stands-big}
use Rattle.flight_syntax.proofs.Marks.{Stands-single, Stands-double}
use Rattle.flight_syntax.proofs.Literals.{Stands-text}
use Rattle.flight_syntax.proofs.Strings.{closing-string, closing-append}
use Rattle.flight_print.specs.Pieces.{Piece, IsApart, EndsBy, AreApart, text_of, size, tokens_at, words_at, total}

-- ---- the front of a text

take_front : (xs ys : List ℕ) → take (length xs) (xs ++ ys) ≡ xs
take_front [] ys = refl
take_front (x ∷ xs) ys = ap (λ z. x ∷ z) (take_front xs ys)

drop_front : (xs ys : List ℕ) → drop (length xs) (xs ++ ys) ≡ ys
drop_front [] ys = refl
drop_front (x ∷ xs) ys = drop_front xs ys

at_front : (xs ys : List ℕ) (d : ℕ) → get_or (xs ++ ys) (length xs) d ≡ get_or ys 0 d
at_front [] ys d = refl
at_front (x ∷ xs) ys d = at_front xs ys d

-- a front whose bytes pass ends at a byte that does not
prefix_ends : (p : ℕ → Bool) (xs : List ℕ) (b : ℕ) (ys : List ℕ) → list_all p xs ≡ true → p b ≡ false → prefix_len p (xs ++ b ∷ ys) ≡ length xs
prefix_ends p [] b ys h e = ap (λ t. cond t (1 + prefix_len p ys) 0) e
prefix_ends p (x ∷ xs) b ys h e =
    let parts = and_parts (p x) (list_all p xs) h in
    let rest = prefix_ends p xs b ys parts.1 e in
    let more : cond (p x) (1 + prefix_len p (xs ++ b ∷ ys)) 0 ≡ 1 + prefix_len p (xs ++ b ∷ ys) = ap (λ t. cond t (1 + prefix_len p (xs ++ b ∷ ys)) 0) parts.0 in
    omega (arith, rest, more)

-- ---- one token

space_name : (b : ℕ) → is_space b ≡ true → is_name_byte b ≡ false
space_name b h = grind (arith, nat_tests)

space_pair : (a b : ℕ) → is_space b ≡ true → begins_pair (a ∷ b ∷ []) ≡ false
space_pair a b h = grind (arith, nat_tests)

digit_apart : (b : ℕ) → is_name_byte b ≡ false → is_ascii_digit b ≡ false
digit_apart b h = (or_parts (begins_name b) (is_ascii_digit b) h).1

name_stands : (xs : List ℕ) (b : ℕ) (ys : List ℕ) → is_name xs ≡ true → is_name_byte b ≡ false → Stands (piece.Token Name) (xs ++ b ∷ ys) (length xs)
name_stands [] b ys h e = absurd (false≢true h)
name_stands (x ∷ xs) b ys h e =
    let parts = and_parts (begins_name x) (list_all is_name_byte xs) h in
    let all : list_all is_name_byte (x ∷ xs) ≡ true = rw (or_left (begins_name x) (is_ascii_digit x) parts.0) parts.1 in
    subst (λ n. Stands (piece.Token Name) (x ∷ (xs ++ b ∷ ys)) n) (prefix_ends is_name_byte (x ∷ xs) b ys all e) (Stands-name (x ∷ (xs ++ b ∷ ys)) (omega arith) parts.0)

no_n : (b : ℕ) → is_name_byte b ≡ false → b ≢ 110
no_n b h e = false≢true (sym h ∙ ap is_name_byte e)

module _ (xs : List ℕ) (b : ℕ) (ys : List ℕ) (h : list_all is_ascii_digit xs ≡ true) (e : is_ascii_digit b ≡ false) where
  digits_is : prefix_len is_ascii_digit (xs ++ b ∷ ys) ≡ length xs
  digits_is = prefix_ends is_ascii_digit xs b ys h e

  digits_taken : take (prefix_len is_ascii_digit (xs ++ b ∷ ys)) (xs ++ b ∷ ys) ≡ xs
  digits_taken = ap (λ n. take n (xs ++ b ∷ ys)) digits_is ∙ take_front xs (b ∷ ys)

  digits_next : get_or (xs ++ b ∷ ys) (prefix_len is_ascii_digit (xs ++ b ∷ ys)) 0 ≡ b
  digits_next = ap (λ n. get_or (xs ++ b ∷ ys) n 0) digits_is ∙ at_front xs (b ∷ ys) 0

first_digit : (xs : List ℕ) (b : ℕ) (ys : List ℕ) → 0 < length xs → list_all is_ascii_digit xs ≡ true → is_ascii_digit (get_or (xs ++ b ∷ ys) 0 0) ≡ true
first_digit [] b ys l h = absurd (omega arith)
first_digit (x ∷ xs) b ys l h = (and_parts (is_ascii_digit x) (list_all is_ascii_digit xs) h).0

number_stands : (xs : List ℕ) (number : ℕ) (b : ℕ) (ys : List ℕ) → IsNumber xs number → is_name_byte b ≡ false → Stands (piece.Token Number) (xs ++ b ∷ ys) (length xs)
number_stands xs number b ys is e =
    let all = is.is_numeral.all_digits in
    let d = digit_apart b e in
    let next = digits_next xs b ys all d in
    let some = is.is_numeral.some in
    subst (λ n. Stands (piece.Token Number) (xs ++ b ∷ ys) n) (digits_is xs b ys all d)
    (Stands-number (xs ++ b ∷ ys) number (omega (arith, some, length-append xs (b ∷ ys))) (first_digit xs b ys some all) (λ z. no_n b e (sym next ∙ z))
    (subst (λ l. IsNumeral l number) (sym (digits_taken xs b ys all d)) is.is_numeral) is.within (λ l. ap is_name_byte next ∙ e))

big_stands : (xs : List ℕ) (number : ℕ) (b : ℕ) (ys : List ℕ) → IsNumeral xs number → number < 2 ^ 127 → is_name_byte b ≡ false → Stands (piece.Token Big) (xs ++ 110 ∷ b ∷ ys) (length xs + 1)
big_stands xs number b ys is within e =
    let all = is.all_digits in
    let text : List ℕ = xs ++ 110 ∷ b ∷ ys in
    let count = digits_is xs 110 (b ∷ ys) all refl in
    let some = is.some in
    let behind : get_or text (length xs + 1) 0 ≡ b = ap (λ l. get_or l (length xs + 1) 0) (sym (append_assoc xs (110 ∷ []) (b ∷ ys))) ∙ (ap (λ n. get_or ((xs ++ 110 ∷ []) ++ b ∷ ys) n 0) (sym (length-append xs (110 ∷ []))) ∙ at_front (xs ++ 110 ∷ []) (b ∷ ys) 0) in
    subst (λ n. Stands (piece.Token Big) text (n + 1)) count
    (Stands-big text number (omega (arith, some, length-append xs (110 ∷ b ∷ ys))) (first_digit xs 110 (b ∷ ys) some all) (omega (arith, count, length-append xs (110 ∷ b ∷ ys))) (digits_next xs 110 (b ∷ ys) all refl)
    (subst (λ l. IsNumeral l number) (sym (digits_taken xs 110 (b ∷ ys) all refl)) is) within
    (λ l. ap (λ n. is_name_byte (get_or text (n + 1) 0)) count ∙ (ap is_name_byte behind ∙ e)))

text_stands : (xs : List ℕ) (v ys : List ℕ) → IsText xs v → Stands (piece.Token Text) (xs ++ ys) (length xs)
text_stands [] v ys is = let q = is.quoted in absurd cc
text_stands (x ∷ xs) v ys is =
    let quote : x ≡ 34 = let q = is.quoted in cc in
    let inside : xs ≡ is.inner ++ 34 ∷ [] = let q = is.quoted in cc in
    let closed = closing-append xs ys false (length xs) (closing-string xs is.inner v inside (subst (λ y. read (y ∷ xs) ≡ Some (string v)) quote is.is_string)) in
    let size : length xs + 1 ≡ length (x ∷ xs) = omega arith in
    let taken : take (length xs + 1) (x ∷ (xs ++ ys)) ≡ x ∷ xs = ap (λ n. take n (x ∷ (xs ++ ys))) size ∙ take_front (x ∷ xs) ys in
    subst (λ n. Stands (piece.Token Text) (x ∷ (xs ++ ys)) n) size
    (Stands-text (x ∷ (xs ++ ys)) (length xs) (omega arith) quote closed v (ap read taken ∙ is.is_string))

mark_stands : (xs : List ℕ) (b : ℕ) (ys : List ℕ) → is_mark xs ≡ true → IsApart Mark xs (b ∷ ys) → Stands (piece.Token Mark) (xs ++ b ∷ ys) (length xs)
mark_stands [] b ys h e = absurd (false≢true h)
mark_stands (x ∷ []) b ys h e = Stands-single x (b ∷ ys) h e
mark_stands (x ∷ y ∷ []) b ys h e = Stands-double x y (b ∷ ys) h
mark_stands (x ∷ y ∷ z ∷ xs) b ys h e = absurd (false≢true h)

token_stands : (kind : TokenKind) (xs : List ℕ) (b : ℕ) (ys : List ℕ) → SpellsToken kind xs → IsApart kind xs (b ∷ ys) → Stands (piece.Token kind) (xs ++ b ∷ ys) (length xs)
token_stands Name xs b ys h e = name_stands xs b ys h e
token_stands Number xs b ys h e = number_stands xs h.0 b ys h.1 e
token_stands Big xs b ys h e =
    let is = h.1 in
    let size : length is.digits + 1 ≡ length xs = sym (length-append is.digits (110 ∷ [])) ∙ ap length (sym is.spelled) in
    let whole : is.digits ++ 110 ∷ b ∷ ys ≡ xs ++ b ∷ ys = sym (append_assoc is.digits (110 ∷ []) (b ∷ ys)) ∙ ap (λ l. l ++ b ∷ ys) (sym is.spelled) in
    subst (λ n. Stands (piece.Token Big) (xs ++ b ∷ ys) n) size (subst (λ l. Stands (piece.Token Big) l (length is.digits + 1)) whole (big_stands is.digits h.0 b ys is.is_numeral is.within e))
token_stands Text xs b ys h e = text_stands xs h.0 (b ∷ ys) h.1
token_stands Mark xs b ys h e = mark_stands xs b ys h e

-- a space ends every token
space_apart : (kind : TokenKind) (xs : List ℕ) (b : ℕ) (ys : List ℕ) → SpellsToken kind xs → is_space b ≡ true → IsApart kind xs (b ∷ ys)
space_apart Name xs b ys h e = space_name b e
space_apart Number xs b ys h e = space_name b e
space_apart Big xs b ys h e = space_name b e
space_apart Text xs b ys h e = tt
space_apart Mark [] b ys h e = tt
space_apart Mark (a ∷ []) b ys h e = space_pair a b e
space_apart Mark (a ∷ c ∷ xs) b ys h e = tt

-- ---- all tokens

-- what stands behind a part
behind : (text : List ℕ) (at : ℕ) (xs ys : List ℕ) → drop at text ≡ xs ++ ys → drop (at + length xs) text ≡ ys
behind text at xs ys e = sym (drop-drop (length xs) at text) ∙ (ap (drop (length xs)) e ∙ drop_front xs ys)

within_text : (text : List ℕ) (at : ℕ) (xs ys : List ℕ) → at ≤ length text → drop at text ≡ xs ++ ys → at + length xs ≤ length text
within_text text at xs ys l e = let a = length-drop at text in let b = ap length e in let c = length-append xs ys in omega (arith, a, b, c, l)

-- a token, and what is read behind it
token_reads : (text : List ℕ) (at : ℕ) (kind : TokenKind) (bytes : List ℕ) (b : ℕ) (ys : List ℕ) (rest : List Token) → drop at text ≡ bytes ++ b ∷ ys → SpellsToken kind bytes → IsApart kind bytes (b ∷ ys)
    → Reads text (at + length bytes) rest (length text) → Reads text at (record { kind = kind; from = at; to = at + length bytes } ∷ rest) (length text)
token_reads text at kind bytes b ys rest e h apart r = token (subst (λ l. Stands (piece.Token kind) l (length bytes)) (sym e) (token_stands kind bytes b ys h apart)) r

space_reads : (text : List ℕ) (at : ℕ) (b : ℕ) (ys : List ℕ) (rest : List Token) → drop at text ≡ b ∷ ys → is_space b ≡ true → Reads text (at + 1) rest (length text) → Reads text at rest (length text)
space_reads text at b ys rest e h r = space (subst (λ l. Stands piece.Space l 1) (sym e) (Stands-space (b ∷ ys) (omega arith) h)) r

-- the first byte of a token that another ends at
apart_front : (kind : TokenKind) (bytes xs ys : List ℕ) → IsApart kind bytes xs → (b : ℕ) × (zs : List ℕ) × (xs ++ ys ≡ b ∷ zs) × IsApart kind bytes (b ∷ zs)
apart_front kind bytes [] ys h = absurd h
apart_front kind bytes (b ∷ xs) ys h = (b, xs ++ ys, refl, other kind bytes h)
  where
    other : (kind : TokenKind) (bytes : List ℕ) → IsApart kind bytes (b ∷ xs) → IsApart kind bytes (b ∷ (xs ++ ys))
    other Name bytes h = h
    other Number bytes h = h
    other Big bytes h = h
    other Text bytes h = tt
    other Mark [] h = tt
    other Mark (a ∷ []) h = h
    other Mark (a ∷ c ∷ bytes) h = tt

reads : (text : List ℕ) (at : ℕ) (ps : List Piece) → AreApart ps → at ≤ length text → drop at text ≡ text_of ps → Reads text at (tokens_at at ps) (length text)
reads text at [] h l e =
    let a = length-drop at text in let b = ap length e in
    let same : at ≡ length text = omega (arith, a, b, l) in
    subst (λ n. Reads text at [] n) same nothing
reads text at (p ∷ rest) h l e = by p.gap refl (λ n. reads text n rest h.2)
  where
    spaced : (b : ℕ) → p.gap ≡ b ∷ [] → is_space b ≡ true → ((n : ℕ) → n ≤ length text → drop n text ≡ text_of rest → Reads text n (tokens_at n rest) (length text)) → Reads text at (tokens_at at (p ∷ rest)) (length text)
    spaced b g s again =
        let e1 : drop at text ≡ p.bytes ++ b ∷ text_of rest = e ∙ ap (λ z. p.bytes ++ (z ++ text_of rest)) g in
        let e2 = behind text at p.bytes (b ∷ text_of rest) e1 in
        let e3 : drop (at + length p.bytes + 1) text ≡ text_of rest = behind text (at + length p.bytes) (b ∷ []) (text_of rest) e2 in
        let l1 = within_text text at p.bytes (b ∷ text_of rest) l e1 in
        let l2 = within_text text (at + length p.bytes) (b ∷ []) (text_of rest) l1 e2 in
        let long = ap length g in
        let place : at + length p.bytes + 1 ≡ at + size p = omega (arith, long) in
        token_reads text at p.kind p.bytes b (text_of rest) (tokens_at (at + size p) rest) e1 h.0 (space_apart p.kind p.bytes b (text_of rest) h.0 s)
        (space_reads text (at + length p.bytes) b (text_of rest) (tokens_at (at + size p) rest) e2 s
        (subst (λ n. Reads text (at + length p.bytes + 1) (tokens_at n rest) (length text)) place (again (at + length p.bytes + 1) l2 e3)))

    close : (q : Piece) (more : List Piece) → rest ≡ q ∷ more → p.gap ≡ [] → IsApart p.kind p.bytes q.bytes → ((n : ℕ) → n ≤ length text → drop n text ≡ text_of rest → Reads text n (tokens_at n rest) (length text)) → Reads text at (tokens_at at (p ∷ rest)) (length text)
    close q more r g s again =
        let f = apart_front p.kind p.bytes q.bytes (q.gap ++ text_of more) s in
        let e0 : drop at text ≡ p.bytes ++ text_of rest = e ∙ ap (λ z. p.bytes ++ (z ++ text_of rest)) g in
        let e1 : drop at text ≡ p.bytes ++ f.0 ∷ f.1 = e0 ∙ ap (λ z. p.bytes ++ z) (ap text_of r ∙ f.2) in
        let e2 = behind text at p.bytes (text_of rest) e0 in
        let l1 = within_text text at p.bytes (text_of rest) l e0 in
        let long = ap length g in
        let place : at + length p.bytes ≡ at + size p = omega (arith, long) in
        token_reads text at p.kind p.bytes f.0 f.1 (tokens_at (at + size p) rest) e1 h.0 f.3
        (subst (λ n. Reads text (at + length p.bytes) (tokens_at n rest) (length text)) place (again (at + length p.bytes) l1 e2))

    ends : (g : List ℕ) (r : List Piece) → p.gap ≡ g → rest ≡ r → EndsBy g p.kind p.bytes r → ((n : ℕ) → n ≤ length text → drop n text ≡ text_of rest → Reads text n (tokens_at n rest) (length text)) → Reads text at (tokens_at at (p ∷ rest)) (length text)
    ends (b ∷ []) r g q s = spaced b g s
    ends [] (next ∷ more) g q s = close next more q g s
    ends [] [] g q s = absurd s
    ends (b ∷ c ∷ gap) r g q s = absurd s

    by : (g : List ℕ) → p.gap ≡ g → ((n : ℕ) → n ≤ length text → drop n text ≡ text_of rest → Reads text n (tokens_at n rest) (length text)) → Reads text at (tokens_at at (p ∷ rest)) (length text)
    by g q = ends g rest q refl (subst (λ z. EndsBy z p.kind p.bytes rest) q h.1)

-- the text of tokens that end where they do is read as these tokens
pub are_tokens : (ps : List Piece) → AreApart ps → AreTokens (text_of ps) (tokens_at 0 ps)
are_tokens ps h = reads (text_of ps) 0 ps h (omega arith) refl

words : (text : List ℕ) (at : ℕ) (ps : List Piece) → drop at text ≡ text_of ps → words_of text (tokens_at at ps) ≡ words_at at ps
words text at [] e = refl
words text at (p ∷ rest) e =
    let far : at + length p.bytes - at ≡ length p.bytes = omega arith in
    let spelled : slice_range text at (at + length p.bytes) ≡ p.bytes = ap (λ n. take n (drop at text)) far ∙ (ap (take (length p.bytes)) e ∙ take_front p.bytes (p.gap ++ text_of rest)) in
    let e2 = behind text at p.bytes (p.gap ++ text_of rest) e in
    let e3 = behind text (at + length p.bytes) p.gap (text_of rest) e2 in
    let place : at + length p.bytes + length p.gap ≡ at + size p = omega arith in
    let first : ◌≡◌ {A = Word} (word_as p.kind (record { bytes = slice_range text at (at + length p.bytes); at = at })) (word_as p.kind (record { bytes = p.bytes; at = at })) = ap (λ z. word_as p.kind (record { bytes = z; at = at })) spelled in
    cc (first, words text (at + size p) rest (subst (λ n. drop n text ≡ text_of rest) place e3))

pub are_words : (ps : List Piece) → words_of (text_of ps) (tokens_at 0 ps) ≡ words_at 0 ps
are_words ps = words (text_of ps) 0 ps refl

-- ---- one behind the other

pub text_of-append : (ps qs : List Piece) → text_of (ps ++ qs) ≡ text_of ps ++ text_of qs
text_of-append [] qs = refl
text_of-append (p ∷ ps) qs = ap (λ z. p.bytes ++ (p.gap ++ z)) (text_of-append ps qs) ∙ (ap (λ z. p.bytes ++ z) (sym (append_assoc p.gap (text_of ps) (text_of qs))) ∙ sym (append_assoc p.bytes (p.gap ++ text_of ps) (text_of qs)))

pub words_at-append : (at : ℕ) (ps qs : List Piece) → words_at at (ps ++ qs) ≡ words_at at ps ++ words_at (at + total ps) qs
words_at-append at [] qs = ap (λ n. words_at n qs) (omega arith)
words_at-append at (p ∷ ps) qs =
    let place : at + size p + total ps ≡ at + (size p + total ps) = omega arith in
    ap (λ z. word_as p.kind (record { bytes = p.bytes; at = at }) ∷ z) (words_at-append (at + size p) ps qs ∙ ap (λ n. words_at (at + size p) ps ++ words_at n qs) place)

ends_on : (g : List ℕ) (kind : TokenKind) (bytes : List ℕ) (ps qs : List Piece) → EndsBy g kind bytes ps → EndsBy g kind bytes (ps ++ qs)
ends_on (b ∷ []) kind bytes ps qs h = h
ends_on [] kind bytes (p ∷ ps) qs h = h
ends_on [] kind bytes [] qs h = absurd h
ends_on (b ∷ c ∷ g) kind bytes ps qs h = absurd h

pub AreApart-append : (ps qs : List Piece) → AreApart ps → AreApart qs → AreApart (ps ++ qs)
AreApart-append [] qs h k = k
AreApart-append (p ∷ ps) qs h k = (h.0, ends_on p.gap p.kind p.bytes ps qs h.1, AreApart-append ps qs h.2 k)
