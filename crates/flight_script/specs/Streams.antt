-- The streams of a script.
use Rattle.std.specs.Prelude.{ℕ, ◌≡◌, ◌&&◌, if◌then◌else◌, Bool, true, false, List, [], ◌∷◌, ◌++◌, map, codes, Option, Some, None, option_and_then, is_some, slice_get}
use Rattle.std.specs.Option.{option_map_or, option_to_list}
use Rattle.std.specs.List.{AllZip}
use Rattle.std.specs.Str.{bytes_eq}
use Rattle.serde_json.specs.Data.{Data}
use Rattle.serde_json.specs.Find.{get, as_str}
use Rattle.flight_value.specs.declared.graph.Flow.{Flow}
use Rattle.flight_value.specs.declared.graph.Flow.TheVariants.{Readable, Iterable, Iterator}
use Rattle.flight_syntax.specs.declared.script.Flowing.{Flowing}
use Rattle.flight_script.specs.declared.fault.ScriptFault.TheVariants.{BadShape, UnknownSource}
use Rattle.flight_script.specs.Json.{Member, list_at, has_only, is_among, text, are_texts}
use Rattle.flight_script.specs.Tests.{Test, holds}

abbrev pub flow_of : List ℕ → Option Flow
flow_of kind =
    if bytes_eq kind (codes "readable") then Some Readable
    else (if bytes_eq kind (codes "iterable") then Some Iterable else (if bytes_eq kind (codes "iterator") then Some Iterator else None))

abbrev pub flow_in : Data → Option Flow
flow_in d = option_and_then flow_of (option_and_then as_str (get (codes "kind") d))

-- the items are texts
abbrev pub has_items : Data → Bool
has_items d = option_map_or are_texts (get (codes "items") d) false

-- the final value, if there is one, is a text
abbrev pub may_have_final : Data → Bool
may_have_final d = option_map_or (λ t. is_some (as_str t)) (get (codes "final") d) true

abbrev pub has_stream_members : Data → Bool
has_stream_members d = has_only (codes "kind" ∷ codes "items" ∷ codes "final" ∷ []) d && (has_items d && may_have_final d)

-- `{"kind":KIND,"items":[SOURCE,..]}`, and perhaps `"final":SOURCE`
abbrev pub is_stream : Data → Bool
is_stream d = is_some (flow_in d) && has_stream_members d

-- ---- what is asked

-- a text is the name of a source
abbrev pub name_test : List (List ℕ) → Data → Test
name_test sources d = holds (is_among sources (text d)) (UnknownSource (text d))

-- it has the form
abbrev pub stream_front : Member → Test
stream_front m = holds (is_stream m.1) (BadShape (codes "streams." ++ m.0))

-- first the form, then the names of the items, then that of the final value
abbrev pub stream_tests : List (List ℕ) → Member → List Test
stream_tests sources m =
    stream_front m
    ∷ (map (name_test sources) (list_at (codes "items") m.1) ++ map (name_test sources) (option_to_list (get (codes "final") m.1)))

-- ---- what it is

-- a text is the name that stands there
abbrev pub IsNumberOf : List (List ℕ) → Data → ℕ → Type 0
IsNumberOf names d number = slice_get names number ≡ Some (text d)

abbrev pub IsLast : List (List ℕ) → Option Data → Option ℕ → Type 0
IsLast names None None = Unit {0}
IsLast names (Some d) (Some number) = IsNumberOf names d number
IsLast names d number = ⊥

pub record IsStream (sources : List (List ℕ)) (m : Member) (stream : Flowing) : Type 0 where
  pub is_name : stream.name ≡ m.0
  pub is_flow : flow_in m.1 ≡ Some stream.flow
  pub are_items : AllZip (IsNumberOf sources) (list_at (codes "items") m.1) stream.items
  pub is_last : IsLast sources (get (codes "final") m.1) stream.last
