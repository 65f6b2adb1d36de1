-- The words of tokens, one by one.
use Rattle.std.proofs.Common.{◌≡◌, ℕ, zero, suc, ◌+◌, ◌<◌, ◌≤◌, List, [], ◌∷◌, length, drop, slice_index_or, refl, sym, ◌∙◌, ap, arith, add-one, drop-cons, Bool, true, false, Option, Some, None, if◌then◌else◌}
use Rattle.flight_syntax.specs.Names.{is_lower}
use Rattle.std.specs.List.{AllByRecursion}
use Rattle.serde_json.specs.Data.{Data}
use Rattle.flight_syntax.specs.Tokens.{IsTokenOf}
use Rattle.flight_syntax.specs.Words.{Word, word_of, words_of}
use Rattle.flight_syntax.specs.declared.token.TokenKind.{TokenKind}
use Rattle.flight_syntax.specs.declared.token.TokenKind.TheVariants.{Name}
use Rattle.flight_syntax.specs.declared.token.Token.{Token}
use Rattle.flight_top.specs.declared.static_code.Code.{Code}
use Rattle.flight_top.specs.StaticReader.{words_from, same_kind, is_the, want, lower_name, gives, ended, AreSpelled}
use Rattle.flight_top.proofs.Fronts.{the, want-one, is_the-is, same_kind-is}

drop-past : (ts : List Token) (at : ℕ) → length ts ≤ at → drop at ts ≡ []
drop-past [] zero h = refl
drop-past [] (suc n) h = refl
drop-past (t ∷ ts) zero h = absurd (omega arith)
drop-past (t ∷ ts) (suc n) h = drop-past ts n (omega arith)

-- no words behind the last token
pub words_past : (code : Code) (at : ℕ) → length code.tokens.now ≤ at → words_from code at ≡ []
words_past code at h = rw (drop-past code.tokens.now at h) refl

-- the word of a token, and those behind it
pub words_at : (code : Code) (at : ℕ) (d : Token) → at < length code.tokens.now → words_from code at ≡ word_of code.text.now (slice_index_or code.tokens.now at d) ∷ words_from code (at + 1)
words_at code at d h = rw (add-one, drop-cons code.tokens.now at d h) refl

-- ---- tests of the next word

pub want_here : (kind : TokenKind) (bytes : List ℕ) (w : Word) (ws : List Word) → w.kind ≡ kind → w.bytes ≡ bytes → want kind bytes (w ∷ ws) ≡ Some ws
want_here kind bytes w ws k b = ap (λ (k : TokenKind). want kind bytes (the k w.bytes ∷ ws)) k ∙ ap (λ b. want kind bytes (the kind b ∷ ws)) b ∙ want-one kind bytes ws

pub want_none : (kind : TokenKind) (bytes : List ℕ) (w : Word) (ws : List Word) → ((w.kind ≡ kind) × (w.bytes ≡ bytes) → ⊥) → want kind bytes (w ∷ ws) ≡ None
want_none kind bytes w ws other = go (is_the kind bytes w) refl
  where
    go : (b : Bool) → is_the kind bytes w ≡ b → (if b then Some ws else None) ≡ None
    go true e = let same = is_the-is kind bytes w e in absurd (other (ap (λ (w : Word). w.kind) same, ap (λ (w : Word). w.bytes) same))
    go false e = refl

pub lower_none : (w : Word) (ws : List Word) → ((w.kind ≡ Name) × (is_lower w.bytes ≡ true) → ⊥) → lower_name (w ∷ ws) ≡ None
lower_none w ws other = go (same_kind Name w.kind) (is_lower w.bytes) refl refl
  where
    go : (b c : Bool) → same_kind Name w.kind ≡ b → is_lower w.bytes ≡ c → (if b then (if c then gives w.bytes ws else None) else None) ≡ None
    go false c k l = refl
    go true false k l = refl
    go true true k l = absurd (other (same_kind-is Name w.kind k, l))

-- ---- the end

pub ended_at : (code : Code) (at : ℕ) (v : Data) → length code.tokens.now ≤ at → ended (v, words_from code at) ≡ Some v
ended_at code at v h = ap (λ (ws : List Word). ended (v, ws)) (words_past code at h)

pub not_ended : (code : Code) (at : ℕ) (v : Data) → at < length code.tokens.now → ended (v, words_from code at) ≡ None
not_ended code at v h = ap (λ (ws : List Word). ended (v, ws)) (words_at code at (record { kind = Name; from = 0; to = 0 }) h)

-- the tokens of a text are spelled as their kinds say
pub are_spelled : (text : List ℕ) (tokens : List Token) → AllByRecursion (IsTokenOf text) tokens → AreSpelled (words_of text tokens)
are_spelled text [] h = tt
are_spelled text (t ∷ ts) h = (h.0.spelled, are_spelled text ts h.1)
