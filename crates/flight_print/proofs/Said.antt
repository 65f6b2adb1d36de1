-- Words that tokens say.
use Rattle.std.proofs.Common.{◌≡◌, ℕ, suc, ◌<◌, Bool, true, false, List, [], ◌∷◌, ◌++◌, length, length-append, Option, Some, None, refl, sym, ap, subst, ◌∙◌, arith, if◌then◌else◌}
use Rattle.std.specs.Prelude.{◌^◌, ◌-◌, slice_index, codes, take}
use Rattle.std.specs.Str.{bytes_eq}
use Rattle.std.proofs.Math.Seq.{take-append_seam}
use Rattle.std.specs.List.{All}
use Rattle.std.specs.Char.{is_ascii_uppercase}
use Rattle.flight_syntax.specs.declared.token.Token.{Token}
use Rattle.flight_syntax.specs.declared.token.TokenKind.{TokenKind}
use Rattle.flight_syntax.specs.declared.token.TokenKind.TheVariants.{Name, Number, Big, Text, Mark}
use Rattle.flight_syntax.specs.declared.word.Keyword.{Keyword}
use Rattle.flight_syntax.specs.declared.word.Keyword.TheVariants as keys
use Rattle.flight_syntax.specs.declared.word.Punctuator.{Punctuator}
use Rattle.flight_syntax.specs.declared.word.Punctuator.TheVariants as signs
use Rattle.flight_syntax.specs.Pieces.{SpellsToken, is_name, is_mark, IsNumber, IsNumeral}
use Rattle.flight_syntax.specs.Tokens.{AreTokens, IsTokenOf}
use Rattle.flight_syntax.specs.Lexicon.{Placed, Word, key, lower, upper, number, big, mark, deep, spelled, sign_spelled, keyword_of, sign_of, name_word, mark_word, word_as, words_of, name_of, lower_of, upper_of, plain_of, component_of}
use Rattle.flight_syntax.proofs.Spellings.{Reads-each}

-- the word is what a token says
pub record IsSaid (word : Word) : Type 0 where
  pub kind : TokenKind
  pub bytes : List ℕ
  pub at : ℕ
  pub is_token : SpellsToken kind bytes
  pub is_word : word ≡ word_as kind (record { bytes = bytes; at = at })

abbrev pub AreSaid : List Word → Type 0
AreSaid [] = Unit {0}
AreSaid (w ∷ ws) = IsSaid w × AreSaid ws

front_said : (y z : List Word) → AreSaid (y ++ z) → AreSaid y
front_said [] z h = tt
front_said (w ∷ y) z h = (h.0, front_said y z h.1)

rest_said : (y z : List Word) → AreSaid (y ++ z) → AreSaid z
rest_said [] z h = h
rest_said (w ∷ y) z h = rest_said y z h.1

pub left : {x : List Word} (y z : List Word) → x ≡ y ++ z → AreSaid x → AreSaid y
left {x} y z e r = front_said y z (subst AreSaid e r)

pub right : {x : List Word} (y z : List Word) → x ≡ y ++ z → AreSaid x → AreSaid z
right {x} y z e r = rest_said y z (subst AreSaid e r)

-- the words of a text are said
said_words : (text : List ℕ) (tokens : List Token) → All (IsTokenOf text) tokens → AreSaid (words_of text tokens)
said_words text [] h = tt
said_words text (t ∷ tokens) h =
    let first = h 0 t (omega arith) in
    (record { kind = t.kind; bytes = _; at = t.from; is_token = first.spelled; is_word = refl }, said_words text tokens (λ k d l. h (suc k) d (omega (arith, l))))

pub text_said : (text : List ℕ) (tokens : List Token) → AreTokens text tokens → AreSaid (words_of text tokens)
text_said text tokens h = said_words text tokens (Reads-each h)

-- ---- names

-- the bytes are a name, which is taken for itself wherever it stands
pub record Takes (take : Word → Option Placed) (bytes : List ℕ) : Type 0 where
  pub is_name : is_name bytes ≡ true
  pub again : (at : ℕ) → take (word_as Name (record { bytes = bytes; at = at })) ≡ Some (record { bytes = bytes; at = at })

-- the bytes are a name that gives this word wherever it stands
abbrev pub Gives : (Placed → Word) → List ℕ → Type 0
Gives word bytes = (is_name bytes ≡ true) × ((at : ℕ) → word_as Name (record { bytes = bytes; at = at }) ≡ word (record { bytes = bytes; at = at }))

mark_is : (o : Option Punctuator) → (s : Punctuator) × (mark_word o ≡ mark s)
mark_is (Some s) = (s, refl)
mark_is None = (signs.Semicolon, refl)

gives_lower : (bytes : List ℕ) (at : ℕ) (name : Placed) → is_name bytes ≡ true → lower name ≡ word_as Name (record { bytes = bytes; at = at }) → Gives lower name.bytes
gives_lower bytes at name h e = by (keyword_of bytes) (is_ascii_uppercase (slice_index bytes 0)) refl refl e
  where
    by : (o : Option Keyword) (u : Bool) → keyword_of bytes ≡ o → is_ascii_uppercase (slice_index bytes 0) ≡ u → lower name ≡ name_word (keyword_of bytes) (record { bytes = bytes; at = at }) → Gives lower name.bytes
    by (Some k) u p q e = let f : lower name ≡ name_word (Some k) (record { bytes = bytes; at = at }) = rw p at e in absurd cc
    by None true p q e = let f : lower name ≡ upper (record { bytes = bytes; at = at }) = rw (p, q) at e in absurd cc
    by None false p q e =
        let f : lower name ≡ lower (record { bytes = bytes; at = at }) = rw (p, q) at e in
        let g : name ≡ record { bytes = bytes; at = at } = cc in
        subst (Gives lower) (sym (ap (λ z. z.bytes) g)) (h, λ n. rw (p, q) refl)

gives_upper : (bytes : List ℕ) (at : ℕ) (name : Placed) → is_name bytes ≡ true → upper name ≡ word_as Name (record { bytes = bytes; at = at }) → Gives upper name.bytes
gives_upper bytes at name h e = by (keyword_of bytes) (is_ascii_uppercase (slice_index bytes 0)) refl refl e
  where
    by : (o : Option Keyword) (u : Bool) → keyword_of bytes ≡ o → is_ascii_uppercase (slice_index bytes 0) ≡ u → upper name ≡ name_word (keyword_of bytes) (record { bytes = bytes; at = at }) → Gives upper name.bytes
    by (Some k) u p q e = let f : upper name ≡ name_word (Some k) (record { bytes = bytes; at = at }) = rw p at e in absurd cc
    by None false p q e = let f : upper name ≡ lower (record { bytes = bytes; at = at }) = rw (p, q) at e in absurd cc
    by None true p q e =
        let f : upper name ≡ upper (record { bytes = bytes; at = at }) = rw (p, q) at e in
        let g : name ≡ record { bytes = bytes; at = at } = cc in
        subst (Gives upper) (sym (ap (λ z. z.bytes) g)) (h, λ n. rw (p, q) refl)

lower_said : (name : Placed) → IsSaid (lower name) → Gives lower name.bytes
lower_said name s = by s.kind s.is_token s.is_word
  where
    by : (k : TokenKind) → SpellsToken k s.bytes → lower name ≡ word_as k (record { bytes = s.bytes; at = s.at }) → Gives lower name.bytes
    by Name h e = gives_lower s.bytes s.at name h e
    by Number h e = absurd cc
    by Big h e = absurd cc
    by Text h e = absurd cc
    by Mark h e = let m = (mark_is (sign_of s.bytes)).1 in absurd cc

upper_said : (name : Placed) → IsSaid (upper name) → Gives upper name.bytes
upper_said name s = by s.kind s.is_token s.is_word
  where
    by : (k : TokenKind) → SpellsToken k s.bytes → upper name ≡ word_as k (record { bytes = s.bytes; at = s.at }) → Gives upper name.bytes
    by Name h e = gives_upper s.bytes s.at name h e
    by Number h e = absurd cc
    by Big h e = absurd cc
    by Text h e = absurd cc
    by Mark h e = let m = (mark_is (sign_of s.bytes)).1 in absurd cc

-- every keyword is a name that gives it
pub key_named : (k : Keyword) → is_name (spelled k) ≡ true
key_named keys.Null = refl
key_named keys.Undefined = refl
key_named keys.True = refl
key_named keys.False = refl
key_named keys.Map = refl
key_named keys.Set = refl
key_named keys.Date = refl
key_named keys.Symbol = refl
key_named keys.Use = refl
key_named keys.Promise = refl
key_named keys.Stream = refl
key_named keys.Action = refl
key_named keys.With = refl
key_named keys.Throw = refl
key_named keys.Let = refl
key_named keys.In = refl
key_named keys.If = refl
key_named keys.Then = refl
key_named keys.Else = refl
key_named keys.For = refl
key_named keys.Give = refl
key_named keys.Server = refl
key_named keys.Client = refl
key_named keys.NotANumber = refl
key_named keys.Infinity = refl

pub key_word : (k : Keyword) (at : ℕ) → word_as Name (record { bytes = spelled k; at = at }) ≡ key k at
key_word keys.Null at = refl
key_word keys.Undefined at = refl
key_word keys.True at = refl
key_word keys.False at = refl
key_word keys.Map at = refl
key_word keys.Set at = refl
key_word keys.Date at = refl
key_word keys.Symbol at = refl
key_word keys.Use at = refl
key_word keys.Promise at = refl
key_word keys.Stream at = refl
key_word keys.Action at = refl
key_word keys.With at = refl
key_word keys.Throw at = refl
key_word keys.Let at = refl
key_word keys.In at = refl
key_word keys.If at = refl
key_word keys.Then at = refl
key_word keys.Else at = refl
key_word keys.For at = refl
key_word keys.Give at = refl
key_word keys.Server at = refl
key_word keys.Client at = refl
key_word keys.NotANumber at = refl
key_word keys.Infinity at = refl

-- and so with the marks
pub sign_marked : (s : Punctuator) → is_mark (sign_spelled s) ≡ true
sign_marked signs.OpenParen = refl
sign_marked signs.CloseParen = refl
sign_marked signs.OpenBracket = refl
sign_marked signs.CloseBracket = refl
sign_marked signs.OpenBrace = refl
sign_marked signs.CloseBrace = refl
sign_marked signs.Comma = refl
sign_marked signs.Semicolon = refl
sign_marked signs.Colon = refl
sign_marked signs.Dot = refl
sign_marked signs.Assign = refl
sign_marked signs.Equal = refl
sign_marked signs.And = refl
sign_marked signs.Or = refl
sign_marked signs.Plus = refl
sign_marked signs.Minus = refl
sign_marked signs.Times = refl
sign_marked signs.Less = refl
sign_marked signs.Greater = refl
sign_marked signs.LessSlash = refl
sign_marked signs.SlashGreater = refl

pub sign_word : (s : Punctuator) (at : ℕ) → word_as Mark (record { bytes = sign_spelled s; at = at }) ≡ mark s
sign_word signs.OpenParen at = refl
sign_word signs.CloseParen at = refl
sign_word signs.OpenBracket at = refl
sign_word signs.CloseBracket at = refl
sign_word signs.OpenBrace at = refl
sign_word signs.CloseBrace at = refl
sign_word signs.Comma at = refl
sign_word signs.Semicolon at = refl
sign_word signs.Colon at = refl
sign_word signs.Dot at = refl
sign_word signs.Assign at = refl
sign_word signs.Equal at = refl
sign_word signs.And at = refl
sign_word signs.Or at = refl
sign_word signs.Plus at = refl
sign_word signs.Minus at = refl
sign_word signs.Times at = refl
sign_word signs.Less at = refl
sign_word signs.Greater at = refl
sign_word signs.LessSlash at = refl
sign_word signs.SlashGreater at = refl

-- ---- what a word is taken for, it is taken for again

takes_lower : (bytes : List ℕ) (take : Word → Option Placed) → ((name : Placed) → take (lower name) ≡ Some name) → Gives lower bytes → Takes take bytes
takes_lower bytes take h g = record { is_name = g.0; again = λ at. ap take (g.1 at) ∙ h (record { bytes = bytes; at = at }) }

takes_upper : (bytes : List ℕ) (take : Word → Option Placed) → ((name : Placed) → take (upper name) ≡ Some name) → Gives upper bytes → Takes take bytes
takes_upper bytes take h g = record { is_name = g.0; again = λ at. ap take (g.1 at) ∙ h (record { bytes = bytes; at = at }) }

some_bytes : (a b : Placed) → Some a ≡ Some b → a.bytes ≡ b.bytes
some_bytes a b e = let f : a ≡ b = cc in ap (λ z. z.bytes) f

pub lower_again : (w : Word) (named : Placed) → IsSaid w → lower_of w ≡ Some named → Takes lower_of named.bytes
lower_again (lower n) named s e = subst (Takes lower_of) (some_bytes n named e) (takes_lower n.bytes lower_of (λ a. refl) (lower_said n s))
lower_again _ named s e = absurd cc

pub upper_again : (w : Word) (named : Placed) → IsSaid w → upper_of w ≡ Some named → Takes upper_of named.bytes
upper_again (upper n) named s e = subst (Takes upper_of) (some_bytes n named e) (takes_upper n.bytes upper_of (λ a. refl) (upper_said n s))
upper_again _ named s e = absurd cc

pub plain_again : (w : Word) (named : Placed) → IsSaid w → plain_of w ≡ Some named → Takes plain_of named.bytes
plain_again (lower n) named s e = subst (Takes plain_of) (some_bytes n named e) (takes_lower n.bytes plain_of (λ a. refl) (lower_said n s))
plain_again (upper n) named s e = subst (Takes plain_of) (some_bytes n named e) (takes_upper n.bytes plain_of (λ a. refl) (upper_said n s))
plain_again _ named s e = absurd cc

pub name_again : (w : Word) (named : Placed) → IsSaid w → name_of w ≡ Some named → Takes name_of named.bytes
name_again (lower n) named s e = subst (Takes name_of) (some_bytes n named e) (takes_lower n.bytes name_of (λ a. refl) (lower_said n s))
name_again (upper n) named s e = subst (Takes name_of) (some_bytes n named e) (takes_upper n.bytes name_of (λ a. refl) (upper_said n s))
name_again (key k at) named s e = subst (Takes name_of) (some_bytes (record { bytes = spelled k; at = at }) named e) (record { is_name = key_named k; again = λ n. ap name_of (key_word k n) })
name_again _ named s e = absurd cc

pub component_again : (w : Word) (named : Placed) → IsSaid w → component_of w ≡ Some named → Takes component_of named.bytes
component_again (upper n) named s e = by (bytes_eq n.bytes (codes "Suspense")) refl e
  where
    by : (b : Bool) → bytes_eq n.bytes (codes "Suspense") ≡ b → (if b then None else Some n) ≡ Some named → Takes component_of named.bytes
    by true q e = absurd cc
    by false q e =
        let g = upper_said n s in
        subst (Takes component_of) (some_bytes n named e) (record { is_name = g.0; again = λ at. ap component_of (g.1 at) ∙ ap (λ z. if z then None else Some (record { bytes = n.bytes; at = at })) q })
component_again _ named s e = absurd cc

-- ---- numbers

-- what a name says is a name
name_shape : {R : Type 0} (o : Option Keyword) (name : Placed) (w : Word) → w ≡ name_word o name → ((k : Keyword) → w ≡ key k name.at → R) → (w ≡ lower name → R) → (w ≡ upper name → R) → R
name_shape (Some k) name w e f g h = f k e
name_shape {R} None name w e f g h = by (is_ascii_uppercase (slice_index name.bytes 0)) e
  where
    by : (u : Bool) → w ≡ (if u then upper name else lower name) → R
    by true e = h e
    by false e = g e

no_name : (o : Option Keyword) (name : Placed) (digits : List ℕ) → number digits ≡ name_word o name → ⊥
no_name o name digits e = name_shape o name (number digits) e (λ k f. cc) (λ f. cc) (λ f. cc)

no_big : (o : Option Keyword) (name : Placed) (digits : List ℕ) → big digits ≡ name_word o name → ⊥
no_big o name digits e = name_shape o name (big digits) e (λ k f. cc) (λ f. cc) (λ f. cc)

no_deep : (o : Option Keyword) (name : Placed) → deep ≡ name_word o name → ⊥
no_deep o name e = name_shape o name deep e (λ k f. cc) (λ f. cc) (λ f. cc)

pub but_last : (digits : List ℕ) (b : ℕ) → take (length (digits ++ b ∷ []) - 1) (digits ++ b ∷ []) ≡ digits
but_last digits b = let e : length (digits ++ b ∷ []) - 1 ≡ length digits = omega (arith, length-append digits (b ∷ [])) in ap (λ n. take n (digits ++ b ∷ [])) e ∙ take-append_seam digits (b ∷ [])

all_but_last : (bytes digits : List ℕ) (b : ℕ) → bytes ≡ digits ++ b ∷ [] → take (length bytes - 1) bytes ≡ digits
all_but_last bytes digits b e = ap (λ l. take (length l - 1) l) e ∙ but_last digits b

pub number_said : (digits : List ℕ) → IsSaid (number digits) → (n : ℕ) × IsNumber digits n
number_said digits s = by s.kind s.is_token s.is_word
  where
    by : (k : TokenKind) → SpellsToken k s.bytes → number digits ≡ word_as k (record { bytes = s.bytes; at = s.at }) → (n : ℕ) × IsNumber digits n
    by Name h e = absurd (no_name (keyword_of s.bytes) (record { bytes = s.bytes; at = s.at }) digits e)
    by Number h e = let f : s.bytes ≡ digits = cc in (h.0, subst (λ z. IsNumber z h.0) f h.1)
    by Big h e = absurd cc
    by Text h e = absurd cc
    by Mark h e = let m = (mark_is (sign_of s.bytes)).1 in absurd cc

pub big_said : (digits : List ℕ) → IsSaid (big digits) → (n : ℕ) × IsNumeral digits n × (n < 2 ^ 127)
big_said digits s = by s.kind s.is_token s.is_word
  where
    by : (k : TokenKind) → SpellsToken k s.bytes → big digits ≡ word_as k (record { bytes = s.bytes; at = s.at }) → (n : ℕ) × IsNumeral digits n × (n < 2 ^ 127)
    by Name h e = absurd (no_big (keyword_of s.bytes) (record { bytes = s.bytes; at = s.at }) digits e)
    by Number h e = absurd cc
    by Big h e =
        let f : digits ≡ take (length s.bytes - 1) s.bytes = cc in
        let g = all_but_last s.bytes h.1.digits 110 h.1.spelled in
        (h.0, subst (λ z. IsNumeral z h.0) (sym (f ∙ g)) h.1.is_numeral, h.1.within)
    by Text h e = absurd cc
    by Mark h e = let m = (mark_is (sign_of s.bytes)).1 in absurd cc

pub deep_said : IsSaid deep → ⊥
deep_said s = by s.kind s.is_word
  where
    by : (k : TokenKind) → deep ≡ word_as k (record { bytes = s.bytes; at = s.at }) → ⊥
    by Name e = no_deep (keyword_of s.bytes) (record { bytes = s.bytes; at = s.at }) e
    by Number e = cc
    by Big e = cc
    by Text e = cc
    by Mark e = let m = (mark_is (sign_of s.bytes)).1 in cc
