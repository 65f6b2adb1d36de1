-- What a declaration is kept as, and JSON as `serde_json` has it.
use Rattle.std.specs.Prelude.{ℕ, ◌≡◌, Bool, false, List, [], ◌∷◌, Some}
use Rattle.json.specs.Json as json
use Rattle.serde_json.specs.Data.{Data}
use Rattle.serde_json.specs.Read.{of_json}
use Rattle.serde_json.specs.Written.{compact_text, has_float}
use Rattle.serde_json.specs.View.{view}
use Rattle.serde_json.specs.declared.value.Value.{Value}
use Rattle.flight_syntax.specs.Tree as tree
use Rattle.flight_syntax.specs.Tree.{Declaration}
use Rattle.flight_syntax.specs.Meaning.{meaning}
use Rattle.flight_syntax.specs.Derives.{Said, server, client, action, bytes_of}

-- a value of `serde_json` is what the JSON says, and has whole numbers alone
pub record IsValueOf (value : Value) (read : json.Json) : Type 0 where
  pub is_read : of_json read ≡ Some (view value)
  pub whole : has_float (view value) ≡ false

-- the text is what `serde_json` writes compactly
abbrev pub IsWritten : List ℕ → json.Json → Type 0
IsWritten import read = (d : Data) × (of_json read ≡ Some d) × (import ≡ compact_text d)

-- a declaration with its body as its term
abbrev pub IsKept : List Declaration → Declaration → Said → Type 0
IsKept all (tree.server named params body) (server n ps b) = (n ≡ named.bytes) × (ps ≡ bytes_of params) × (b ≡ meaning all (bytes_of params) body)
IsKept all (tree.client_is named json) (client n import) = (n ≡ named.bytes) × IsWritten import json
IsKept all (tree.action_is named params body) (action n ps b) = (n ≡ named.bytes) × (ps ≡ bytes_of params) × (b ≡ meaning all (bytes_of params) body)
IsKept all _ _ = ⊥
