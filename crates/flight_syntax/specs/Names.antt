-- Keywords, and the names that are none.
use Rattle.std.specs.Prelude.{ℕ, ◌≡◌, ◌&&◌, Bool, true, not, List, [], ◌∷◌, slice_index, codes}
use Rattle.std.specs.List.{list_any}
use Rattle.std.specs.Char.{is_ascii_uppercase}
use Rattle.std.specs.Str.{bytes_eq}
use Rattle.flight_syntax.specs.declared.token.Token.{Token}
use Rattle.flight_syntax.specs.declared.token.TokenKind.TheVariants.{Name}
use Rattle.flight_syntax.specs.Pieces.{is_name}
use Rattle.flight_syntax.specs.Tokens.{spelling}

-- the keywords
abbrev pub keywords : List (List ℕ)
keywords =
    codes "null" ∷ codes "undefined" ∷ codes "true" ∷ codes "false" ∷ codes "map" ∷ codes "set" ∷ codes "date"
    ∷ codes "symbol" ∷ codes "use" ∷ codes "promise" ∷ codes "stream" ∷ codes "action" ∷ codes "with" ∷ codes "throw"
    ∷ codes "let" ∷ codes "in" ∷ codes "if" ∷ codes "then" ∷ codes "else" ∷ codes "for" ∷ codes "give" ∷ codes "server"
    ∷ codes "client" ∷ codes "NaN" ∷ codes "Infinity" ∷ []

-- whether a name is a keyword
abbrev pub is_keyword : List ℕ → Bool
is_keyword name = list_any (λ word. bytes_eq word name) keywords

-- a name that is no keyword, as a source and a stream have
abbrev pub is_plain_name : List ℕ → Bool
is_plain_name text = is_name text && not (is_keyword text)

-- an Upper name begins with a capital letter, and is no keyword
abbrev pub is_upper : List ℕ → Bool
is_upper name = is_ascii_uppercase (slice_index name 0) && not (is_keyword name)

-- a lower name is any other that is no keyword
abbrev pub is_lower : List ℕ → Bool
is_lower name = not (is_ascii_uppercase (slice_index name 0)) && not (is_keyword name)

-- the token is an Upper name
abbrev pub IsUpper : List ℕ → Token → Type 0
IsUpper text t = (t.kind ≡ Name) × (is_upper (spelling text t) ≡ true)

-- the token is a lower name
abbrev pub IsLower : List ℕ → Token → Type 0
IsLower text t = (t.kind ≡ Name) × (is_lower (spelling text t) ≡ true)
