-- The settlers of a script.
use Rattle.std.specs.Prelude.{ℕ, ◌&&◌, nat_le, not, Bool, true, false, List, [], ◌∷◌, ◌++◌, map, length, codes, Option}
use Rattle.std.specs.Option.{option_map_or}
use Rattle.std.specs.List.{AllZip, list_all, flat_map}
use Rattle.serde_json.specs.Data.{Data}
use Rattle.serde_json.specs.Find.{get}
use Rattle.flight_script.specs.declared.fault.ScriptFault.TheVariants.{BadShape, UnknownSource, SettledTwice}
use Rattle.flight_script.specs.Json.{as_list, list_of, list_at, is_among, text, are_texts}
use Rattle.flight_script.specs.Tests.{Test, holds}
use Rattle.flight_script.specs.Streams.{IsNumberOf}

-- at most 64 arrays of texts
abbrev pub are_settlers : Option (List Data) → Bool
are_settlers own = option_map_or (λ ds. nat_le (length ds) 64 && list_all are_texts ds) own false

-- there may be none
abbrev pub has_settlers : Data → Bool
has_settlers d = option_map_or (λ own. are_settlers (as_list own)) (get (codes "settlers") d) true

-- the name of a source, and none of the earlier ones
abbrev pub settle_tests : List (List ℕ) → List (List ℕ) → List ℕ → List Test
settle_tests sources earlier name = holds (is_among sources name) (UnknownSource name) ∷ holds (not (is_among earlier name)) (SettledTwice name) ∷ []

-- text by text, each then an earlier one
abbrev pub settled_tests : List (List ℕ) → List (List ℕ) → List Data → List Test
settled_tests sources earlier [] = []
settled_tests sources earlier (d ∷ ds) = settle_tests sources earlier (text d) ++ settled_tests sources (earlier ++ text d ∷ []) ds

abbrev pub settler_tests : List (List ℕ) → Data → List Test
settler_tests sources d =
    holds (has_settlers d) (BadShape (codes "settlers")) ∷ settled_tests sources [] (flat_map list_of (list_at (codes "settlers") d))

-- for each source, whether it is among those that are settled
abbrev pub marks : List (List ℕ) → List (List ℕ) → List Bool
marks sources earlier = map (is_among earlier) sources

-- the sources that a settler settles
abbrev pub AreSettled : List (List ℕ) → Data → List ℕ → Type 0
AreSettled sources own numbers = AllZip (IsNumberOf sources) (list_of own) numbers
