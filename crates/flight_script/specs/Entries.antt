-- The members that the entries of a map stand for.
use Rattle.std.specs.Prelude.{List, map, String, string_bytes}
use Rattle.std.specs.declared.alloc.Global.{Global}
use Rattle.serde_json.specs.View.{view}
use Rattle.serde_json.specs.declared.value.Value.{Value}
use Rattle.flight_script.specs.Json.{Member}

abbrev pub entry : String Global × Value → Member
entry e = (string_bytes e.0, view e.1)

abbrev pub entries : List (String Global × Value) → List Member
entries es = map entry es
