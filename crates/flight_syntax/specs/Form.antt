-- The sources that are scripted.
use Rattle.std.specs.Prelude.{ℕ, ◌==◌, Bool, List}
use Rattle.std.specs.List.{flat_map, list_any}
use Rattle.flight_syntax.specs.declared.script.Script.{Script}

-- the sources that are settled, in order, settler by settler
abbrev pub settled_by : Script → List ℕ
settled_by script = flat_map (λ own. own) script.settlers

-- whether some settler settles the source
abbrev pub is_scripted : Script → ℕ → Bool
is_scripted script source = list_any (λ own. list_any (λ n. n == source) own) script.settlers
