-- The tokens that were read, by their bytes.
use Rattle.std.proofs.Common.{◌≡◌, ℕ, zero, suc, ◌+◌, ◌-◌, ◌<◌, ◌≤◌, true, List, [], ◌∷◌, length, take, drop, get_or, sym, subst, arith, length-drop}
use Rattle.std.specs.List.{list_all, All, AllPairs}
use Rattle.std.specs.Str.{IsUtf8}
use Rattle.std.proofs.lemmas.Bool.{and_parts, or_left, false≢true}
use Rattle.std.proofs.lemmas.Bool.Decides.{nat_tests}
use Rattle.std.proofs.lemmas.Str.{IsUtf8-from_ascii}
use Rattle.flight_syntax.specs.declared.token.TokenKind.{TokenKind}
use Rattle.flight_syntax.specs.declared.token.Token as declared
use Rattle.flight_syntax.specs.declared.piece.Piece.TheVariants.{Token}
use Rattle.flight_syntax.specs.Pieces.{begins_name, is_name_byte, is_name, SpellsToken, Stands}
use Rattle.flight_syntax.specs.Tokens.{Reads, nothing, space, comment, token, IsTokenOf}
use Rattle.flight_syntax.proofs.Fronts.{no_empty}

token-some : (text : List ℕ) (kind : TokenKind) (at count : ℕ) → Stands (Token kind) (drop at text) count → 0 < count
token-some text kind at zero s = absurd (no_empty (Token kind) s.spelled)
token-some text kind at (suc count) s = omega arith

token-of : (text : List ℕ) (kind : TokenKind) (at count : ℕ) → Stands (Token kind) (drop at text) count → IsTokenOf text (record { kind = kind; from = at; to = at + count })
token-of text kind at count s =
    let some = token-some text kind at count s in
    let within = s.within in
    let len = length-drop at text in
    let size : at + count - at ≡ count = omega arith in
    record {
      ordered = omega (arith, some);
      within = omega (arith, some, within, len);
      spelled = subst (λ n. SpellsToken kind (take n (drop at text))) (sym size) s.spelled;
    }

-- each token that was read is one of the text's
pub Reads-each : {text : List ℕ} {a b : ℕ} {ts : List declared.Token} → Reads text a ts b → All (IsTokenOf text) ts
Reads-each nothing k d l = absurd (omega arith)
Reads-each (space s r) k d l = Reads-each r k d l
Reads-each (comment s r) k d l = Reads-each r k d l
Reads-each {text} {a} (token {kind} {count = n} s r) zero d l = token-of text kind a n s
Reads-each (token s r) (suc k) d l = Reads-each r k d (omega arith)

name_byte-small : (b : ℕ) → is_name_byte b ≡ true → b < 128
name_byte-small b h = grind (arith, nat_tests)

names-small : (bs : List ℕ) → list_all is_name_byte bs ≡ true → (i : ℕ) → get_or bs i 0 < 128
names-small [] h i = omega arith
names-small (b ∷ bs) h zero = name_byte-small b (and_parts (is_name_byte b) (list_all is_name_byte bs) h).0
names-small (b ∷ bs) h (suc i) = names-small bs (and_parts (is_name_byte b) (list_all is_name_byte bs) h).1 i

-- a name is UTF-8
pub is_name-IsUtf8 : (bs : List ℕ) → is_name bs ≡ true → IsUtf8 bs
is_name-IsUtf8 [] h = absurd (false≢true h)
is_name-IsUtf8 (b ∷ bs) h =
    let parts = and_parts (begins_name b) (list_all is_name_byte bs) h in
    IsUtf8-from_ascii (b ∷ bs) (names-small (b ∷ bs) (rw (or_left (begins_name b) _ parts.0) parts.1))

-- what is read from a place on does not begin before it
Reads-from : {text : List ℕ} {a b : ℕ} {ts : List declared.Token} → Reads text a ts b → (k : ℕ) (d : declared.Token) → k < length ts → a ≤ (get_or ts k d).from
Reads-from nothing k d l = absurd (omega arith)
Reads-from (space s r) k d l = let later = Reads-from r k d l in omega (arith, later)
Reads-from (comment s r) k d l = let later = Reads-from r k d l in omega (arith, later)
Reads-from (token s r) zero d l = omega arith
Reads-from (token s r) (suc k) d l = let later = Reads-from r k d (omega arith) in omega (arith, later)

-- each token ends before the later ones begin
pub Reads-ascend : {text : List ℕ} {a b : ℕ} {ts : List declared.Token} → Reads text a ts b → AllPairs (λ t u. t.to ≤ u.from) ts
Reads-ascend nothing i j d l m = absurd (omega arith)
Reads-ascend (space s r) i j d l m = Reads-ascend r i j d l m
Reads-ascend (comment s r) i j d l m = Reads-ascend r i j d l m
Reads-ascend (token s r) i zero d l m = absurd (omega arith)
Reads-ascend (token s r) zero (suc j) d l m = Reads-from r j d (omega arith)
Reads-ascend (token s r) (suc i) (suc j) d l m = Reads-ascend r i j d (omega arith) (omega arith)
