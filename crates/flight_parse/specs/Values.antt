-- JSON values as plain data.
use Rattle.std.specs.Fmt.{signed_decimal}
use Rattle.json.specs.Json as json
use Rattle.flight_syntax.specs.Lexicon.{Placed}
use Rattle.flight_syntax.specs.Tree.{json_items_of, json_members_of}
use Rattle.flight_parse.specs.declared.json_value.Json.{Json}
use Rattle.flight_parse.specs.declared.json_value.Json.TheOpen.{Json-F, Member-F}
use Rattle.flight_parse.specs.declared.json_value.Json.TheFolds.{fold-Json, fold-Member}
use Rattle.flight_parse.specs.declared.json_value.Member.{Member}
use Rattle.flight_parse.specs.Code.{placed}

-- one level, with each value inside already seen as plain data
abbrev pub json_step : Json-F json.Json (Placed × json.Json) → json.Json
json_step Json-F.Null = json.null
json_step (Json-F.Boolean b) = json.boolean b
json_step (Json-F.Number number) = json.number (signed_decimal number)
json_step (Json-F.String text) = json.string text
json_step (Json-F.Array items) = json.array (json_items_of items)
json_step (Json-F.Object members) = json.object (json_members_of members)

abbrev pub member_step : Member-F json.Json (Placed × json.Json) → Placed × json.Json
member_step m = (placed m.name, m.value)

-- a value and a member as plain data
abbrev pub json_of : Json → json.Json
json_of = fold-Json json.Json (Placed × json.Json) json_step member_step

abbrev pub member_of : Member → Placed × json.Json
member_of = fold-Member json.Json (Placed × json.Json) json_step member_step
