-- Places in rows: an id and a path of names.
use Rattle.std.specs.Prelude.{ℕ, ◌≡◌, List, ◌∷◌, ◌++◌, All, Contains}
use Rattle.std.specs.List.{flat_map}
use Rattle.flight_text.specs.declared.mark.Ref.{Ref}
use Rattle.flight_text.specs.Hex.{IsId}

-- a colon
abbrev pub colon : ℕ
colon = 58

-- a name has no `:`, and may be empty
abbrev pub IsName : List ℕ → Type 0
IsName name = ¬ Contains name colon

-- each name behind a `:`
abbrev pub path_text : List (List ℕ) → List ℕ
path_text names = flat_map (λ name. colon ∷ name) names

-- an id, and then the path
pub record IsReference (text : List ℕ) (place : Ref) : Type 0 where
  pub digits : List ℕ
  pub is_id : IsId digits place.id
  pub names : All IsName place.path
  pub spelled : text ≡ digits ++ path_text place.path
