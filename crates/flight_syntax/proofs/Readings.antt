-- A text has one reading.
use Rattle.std.proofs.Common.{◌≡◌, ℕ, ◌+◌, ◌++◌, Bool, true, false, List, [], ◌∷◌, length, take, drop, get_or, refl, sym, ◌∙◌, ap, subst, arith, length-drop}
use Rattle.std.specs.Prelude.{◌&&◌, ◌==◌}
use Rattle.std.specs.List.{list_all}
use Rattle.std.specs.Char.{is_ascii_digit}
use Rattle.std.proofs.lemmas.Bool.{false≢true, and_right, and_parts, false_from_ne_true}
use Rattle.std.proofs.lemmas.List.Folds.{list_all-append}
use Rattle.flight_syntax.specs.declared.token.TokenKind.{TokenKind}
use Rattle.flight_syntax.specs.declared.token.TokenKind.TheVariants.{Name, Number, Big, Text, Mark}
use Rattle.flight_syntax.specs.declared.token.Token as declared
use Rattle.flight_syntax.specs.declared.token.LexFault.{LexFault}
use Rattle.flight_syntax.specs.declared.piece.Piece.{Piece}
use Rattle.flight_syntax.specs.declared.piece.Piece.TheVariants.{Space, Comment, Token}
use Rattle.flight_syntax.specs.Pieces.{is_comment, is_mark, Spells, Stands, NothingStands}
use Rattle.flight_syntax.specs.Tokens.{Reads, nothing, space, comment, token, HasOneReading, kind_at}
use Rattle.flight_syntax.proofs.Classes as first
use Rattle.flight_syntax.proofs.Classes.{Class, class, class-first}
use Rattle.flight_syntax.proofs.Fronts.{no_empty}
use Rattle.flight_syntax.proofs.Marks.{no_double}

-- ---- one piece at a place

-- the piece that bytes of a class spell: a comment or a mark, a number or a big one
abbrev piece_of : Class → Bool → Bool → Piece
piece_of first.space is_comment all_digits = Space
piece_of first.letter is_comment all_digits = Token Name
piece_of first.digit is_comment true = Token Number
piece_of first.digit is_comment false = Token Big
piece_of first.quote is_comment all_digits = Token Text
piece_of first.other true all_digits = Comment
piece_of first.other false all_digits = Token Mark

no_comment : (a : ℕ) (bs : List ℕ) → is_mark (a ∷ bs) ≡ true → is_comment (a ∷ bs) ≡ false
no_comment a [] h = refl
no_comment a (b ∷ []) h =
    false_from_ne_true (is_comment (a ∷ b ∷ [])) (λ e.
    let parts = and_parts (a == 47) ((b == 47) && true) e in
    no_double a b true h parts.0 (and_parts (b == 47) true parts.1).0)
no_comment a (b ∷ c ∷ bs) h = absurd (false≢true h)

spelled-piece : (piece : Piece) (b : ℕ) (bs : List ℕ) → Spells piece (b ∷ bs) → piece ≡ piece_of (class b) (is_comment (b ∷ bs)) (list_all is_ascii_digit (b ∷ bs))
spelled-piece Space b bs s = ap (λ c. piece_of c (is_comment (b ∷ bs)) (list_all is_ascii_digit (b ∷ bs))) (sym (class-first Space b bs s))
spelled-piece Comment b bs s = ap (λ t. piece_of first.other t (list_all is_ascii_digit (b ∷ bs))) (sym s) ∙ ap (λ c. piece_of c (is_comment (b ∷ bs)) (list_all is_ascii_digit (b ∷ bs))) (sym (class-first Comment b bs s))
spelled-piece (Token Name) b bs s = ap (λ c. piece_of c (is_comment (b ∷ bs)) (list_all is_ascii_digit (b ∷ bs))) (sym (class-first (Token Name) b bs s))
spelled-piece (Token Number) b bs s = ap (λ t. piece_of first.digit (is_comment (b ∷ bs)) t) (sym s.1.is_numeral.all_digits) ∙ ap (λ c. piece_of c (is_comment (b ∷ bs)) (list_all is_ascii_digit (b ∷ bs))) (sym (class-first (Token Number) b bs s))
spelled-piece (Token Big) b bs s =
    let last : list_all is_ascii_digit (b ∷ bs) ≡ false = ap (list_all is_ascii_digit) s.1.spelled ∙ (list_all-append is_ascii_digit s.1.digits (110 ∷ []) ∙ and_right (list_all is_ascii_digit s.1.digits) false refl) in
    ap (λ t. piece_of first.digit (is_comment (b ∷ bs)) t) (sym last) ∙ ap (λ c. piece_of c (is_comment (b ∷ bs)) (list_all is_ascii_digit (b ∷ bs))) (sym (class-first (Token Big) b bs s))
spelled-piece (Token Text) b bs s = ap (λ c. piece_of c (is_comment (b ∷ bs)) (list_all is_ascii_digit (b ∷ bs))) (sym (class-first (Token Text) b bs s))
spelled-piece (Token Mark) b bs s = ap (λ t. piece_of first.other t (list_all is_ascii_digit (b ∷ bs))) (sym (no_comment b bs s)) ∙ ap (λ c. piece_of c (is_comment (b ∷ bs)) (list_all is_ascii_digit (b ∷ bs))) (sym (class-first (Token Mark) b bs s))

one_spelling : (piece other : Piece) (bytes : List ℕ) → Spells piece bytes → Spells other bytes → piece ≡ other
one_spelling piece other [] s t = absurd (no_empty piece s)
one_spelling piece other (b ∷ bs) s t = spelled-piece piece b bs s ∙ sym (spelled-piece other b bs t)

one_count : (piece other : Piece) (text : List ℕ) (n m : ℕ) → Stands piece text n → Stands other text m → n ≡ m
one_count piece other text n m s t =
    let up = s.longest other m t.within t.spelled in
    let down = t.longest piece n s.within s.spelled in
    omega (arith, up, down)

one_piece : (piece other : Piece) (text : List ℕ) (n m : ℕ) → Stands piece text n → Stands other text m → piece ≡ other
one_piece piece other text n m s t =
    one_spelling piece other (take n text) s.spelled (subst (λ k. Spells other (take k text)) (sym (one_count piece other text n m s t)) t.spelled)

-- ---- reading on

-- two readings, one behind the other
pub Reads-append : {text : List ℕ} {a b c : ℕ} {ts us : List declared.Token} → Reads text a ts b → Reads text b us c → Reads text a (ts ++ us) c
Reads-append nothing q = q
Reads-append (space s r) q = space s (Reads-append r q)
Reads-append (comment s r) q = comment s (Reads-append r q)
Reads-append (token s r) q = token s (Reads-append r q)

-- a token more
pub Reads-token : (text : List ℕ) (ts : List declared.Token) (at count : ℕ) (kind : TokenKind) → Reads text 0 ts at → Stands (Token kind) (drop at text) count → Reads text 0 (ts ++ record { kind = kind; from = at; to = at + count } ∷ []) (at + count)
Reads-token text ts at count kind r s = Reads-append r (token s nothing)

append-none : (ts : List declared.Token) → ts ++ [] ≡ ts
append-none [] = refl
append-none (t ∷ ts) = ap (λ us. t ∷ us) (append-none ts)

-- a space or a comment more
pub Reads-blank : (text : List ℕ) (ts : List declared.Token) (at count : ℕ) (piece : Piece) → Reads text 0 ts at → Stands piece (drop at text) count → ((kind : TokenKind) → piece ≡ Token kind → ⊥) → Reads text 0 ts (at + count)
Reads-blank text ts at count Space r s f = rw append-none at (Reads-append r (space s nothing))
Reads-blank text ts at count Comment r s f = rw append-none at (Reads-append r (comment s nothing))
Reads-blank text ts at count (Token kind) r s f = absurd (f kind refl)

-- ---- two readings up to places where nothing stands

pub record SameEnds (ts us : List declared.Token) (e f : ℕ) : Type 0 where
  pub tokens : ts ≡ us
  pub ends : e ≡ f

same-token : (kind other : TokenKind) (at n m : ℕ) (ts us : List declared.Token) → Token kind ≡ Token other → n ≡ m → ts ≡ us → ◌≡◌ {A = List declared.Token} (record { kind = kind; from = at; to = at + n } ∷ ts) (record { kind = other; from = at; to = at + m } ∷ us)
same-token kind other at n m ts us p q r = let same : kind ≡ other = cc in rw (same, q, r) refl

one_end : {text : List ℕ} {a e : ℕ} {ts : List declared.Token} → Reads text a ts e → (us : List declared.Token) (f : ℕ) → NothingStands (drop e text) → Reads text a us f → NothingStands (drop f text) → SameEnds ts us e f
one_end nothing us f stop nothing stop' = record { tokens = refl; ends = refl }
one_end nothing us f stop (space s r) stop' = absurd (stop Space _ s)
one_end nothing us f stop (comment s r) stop' = absurd (stop Comment _ s)
one_end nothing us f stop (token s r) stop' = absurd (stop (Token _) _ s)
one_end (space s r) us f stop nothing stop' = absurd (stop' Space _ s)
one_end (comment s r) us f stop nothing stop' = absurd (stop' Comment _ s)
one_end (token s r) us f stop nothing stop' = absurd (stop' (Token _) _ s)
one_end {text} {a} (space s r) us f stop (space s' r') stop' = one_end r us f stop (subst (λ n. Reads text (a + n) us f) (sym (one_count Space Space _ _ _ s s')) r') stop'
one_end (space s r) us f stop (comment s' r') stop' = let differ : Space ≡ Comment = one_piece Space Comment _ _ _ s s' in cc
one_end (space s r) us f stop (token s' r') stop' = let differ : Space ≡ Token _ = one_piece Space (Token _) _ _ _ s s' in cc
one_end (comment s r) us f stop (space s' r') stop' = let differ : Comment ≡ Space = one_piece Comment Space _ _ _ s s' in cc
one_end {text} {a} (comment s r) us f stop (comment s' r') stop' = one_end r us f stop (subst (λ n. Reads text (a + n) us f) (sym (one_count Comment Comment _ _ _ s s')) r') stop'
one_end (comment s r) us f stop (token s' r') stop' = let differ : Comment ≡ Token _ = one_piece Comment (Token _) _ _ _ s s' in cc
one_end (token s r) us f stop (space s' r') stop' = let differ : Token _ ≡ Space = one_piece (Token _) Space _ _ _ s s' in cc
one_end (token s r) us f stop (comment s' r') stop' = let differ : Token _ ≡ Comment = one_piece (Token _) Comment _ _ _ s s' in cc
one_end {text} {a} (token {kind} {count = n} s r) us f stop (token {kind = other} {count = m} {tokens} s' r') stop' =
    let same = one_count (Token kind) (Token other) (drop a text) n m s s' in
    let rest = one_end r tokens f stop (subst (λ k. Reads text (a + k) tokens f) (sym same) r') stop' in
    record {
      tokens = same-token kind other a n m _ tokens (one_piece (Token kind) (Token other) (drop a text) n m s s') same rest.tokens;
      ends = rest.ends;
    }

-- nothing stands at the end
end-nothing : (text : List ℕ) → NothingStands (drop (length text) text)
end-nothing text piece count s =
    let within = s.within in
    let len = length-drop (length text) text in
    let none_left : count ≡ 0 = omega (arith, within, len) in
    no_empty piece (subst (λ n. Spells piece (take n (drop (length text) text))) none_left s.spelled)

same-fault : (fault other : LexFault) → fault.at ≡ other.at → fault.kind ≡ other.kind → fault ≡ other
same-fault fault other p q =
    let first : ◌≡◌ {A = LexFault} fault (record fault { at = other.at }) = ap (λ n. record fault { at = n }) p in
    let second : ◌≡◌ {A = LexFault} (record fault { at = other.at }) other = ap (λ k. record other { kind = k }) q in
    first ∙ second

pub one_reading : (text : List ℕ) → HasOneReading text
one_reading text = record {
  one_list = λ tokens others r s. (one_end r others (length text) (end-nothing text) s (end-nothing text)).tokens;
  not_both = λ tokens fault r h.
      let ends = (one_end r h.tokens fault.at (end-nothing text) h.before h.is_refused.nothing).ends in
      let some = h.is_refused.some in
      let len = length-drop fault.at text in
      omega (arith, ends, some, len);
  one_fault = λ fault other h k.
      let ends = (one_end h.before k.tokens other.at h.is_refused.nothing k.before k.is_refused.nothing).ends in
      let kinds : fault.kind ≡ other.kind = h.is_refused.is_kind ∙ (ap (λ n. kind_at (get_or (drop n text) 0 0)) ends ∙ sym k.is_refused.is_kind) in
      same-fault fault other ends kinds;
}
