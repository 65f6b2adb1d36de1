-- Worked runs: small programs, step by step, with the rows that go out.
use Rattle.std.specs.Prelude.{ℕ, Bool, true, false, List, [], ◌∷◌, ◌++◌, Some, None, codes, pos}
use Rattle.flight_value.specs.declared.graph.Atom.{Atom}
use Rattle.flight_value.specs.declared.graph.Atom.TheVariants as atom
use Rattle.flight_value.specs.declared.graph.Slot.TheVariants as slot
use Rattle.flight_value.specs.declared.graph.Node.TheVariants as node
use Rattle.flight_value.specs.declared.graph.Flow.TheVariants as flow
use Rattle.flight_value.specs.declared.graph.End.TheVariants as end
use Rattle.flight_value.specs.declared.graph.Graph.{Graph}
use Rattle.flight_value.specs.declared.key.Key.TheVariants as key
use Rattle.flight_value.specs.declared.made.MadeKind.TheVariants as kind
use Rattle.flight_value.specs.declared.made.Made.{Made}
use Rattle.flight_value.specs.declared.made.Tree.TheVariants as tree
use Rattle.flight_value.specs.declared.name.Name.{Name}
use Rattle.flight_syntax.specs.declared.expr.Expr.{Expr}
use Rattle.flight_syntax.specs.declared.expr.Tag.TheVariants as tag
use Rattle.flight_syntax.specs.declared.script.Outcome.TheVariants as outcome
use Rattle.flight_syntax.specs.declared.expr.Expr as expr
use Rattle.flight_syntax.specs.declared.program.Declared.{Declared}
use Rattle.flight_syntax.specs.declared.program.Declared.TheVariants as declared
use Rattle.flight_syntax.specs.declared.script.Data.{Data}
use Rattle.flight_syntax.specs.declared.script.Flowing.{Flowing}
use Rattle.flight_row.specs.declared.row.RowKind.TheVariants as row
use Rattle.flight_render.specs.declared.root.Ground.{Ground}
use Rattle.flight_render.specs.declared.root.Root.TheVariants as root
use Rattle.flight_render.specs.declared.job.What.TheVariants as what
use Rattle.flight_meaning.specs.declared.place.Place.{Place}
use Rattle.flight_meaning.specs.declared.place.Place.TheVariants as place
use Rattle.flight_meaning.specs.declared.place.PlacedRow.{PlacedRow}
use Rattle.flight_meaning.specs.Linked.{first_place, beside}
use Rattle.flight_meaning.specs.Meaning.{made_at, promise_of, stream_of, action_of}
use Rattle.flight_state.specs.declared.status.Status.{Status}
use Rattle.flight_state.specs.declared.status.Status.TheVariants as status
use Rattle.flight_state.specs.declared.event.Event.{Event}
use Rattle.flight_state.specs.declared.event.Event.TheVariants as event
use Rattle.flight_state.specs.State.{State, Task}

-- ---- the parts

-- `function NAME() { return BODY; }`
abbrev pub component : List ℕ → Expr → Declared
component name body = declared.Server name [] body

-- these components with their data, rendered from `App`
abbrev pub app_over : List Declared → List Data → List Flowing → Ground
app_over declared sources streams =
    record {
      program = record { declared = declared };
      script = record { sources = sources; streams = streams; settlers = [] };
      root = root.App;
    }

-- a row of a model, by its places: the root first
abbrev pub model : ℕ → List Place → PlacedRow
model id places = record { id = id; tree = record { kind = row.Model; places = places } }

-- an error row, by its digest
abbrev pub failure : ℕ → List ℕ → PlacedRow
failure id digest = record { id = id; tree = record { kind = row.Error; places = place.Atom (atom.Failed digest) ∷ [] } }

-- ---- a value: `function App() { return "hello"; }`

abbrev pub hello : Atom
hello = atom.Text (codes "hello")

abbrev pub greeting : Ground
greeting = app_over (component (codes "App") (expr.Atom hello) ∷ []) [] []

-- the task of the root is taken, and finishes
abbrev pub greeting_events : List Event
greeting_events = event.Take 0 ∷ event.Done 0 ∷ []

-- One row goes out, `0:"hello"`, and the one task is done. The body cost 7: 1 for the literal, 1 for the value given, and
-- 5 for its bytes.
abbrev pub greeting_end : State
greeting_end =
    record {
      rows = model 0 (place.Atom hello ∷ []) ∷ [];
      tasks = record { id = 0; what = what.Root; status = status.Done; turns = 1; remembered = [] } ∷ [];
      settled = [];
      homes = [];
      others = [];
      counted = ([], 7) ∷ [];
      ended = [];
      over = false;
    }

-- a text, and no node
abbrev pub greeting_graph : Graph
greeting_graph = record { root = slot.Atom hello; nodes = [] }

-- ---- an element that waits for data: `function App() { return <Item/>; }` and `async function Item() { return await user; }`

abbrev pub ada : Atom
ada = atom.Text (codes "Ada")

-- the data that is waited for: the text "Ada"
abbrev pub user : Data
user = record { name = codes "user"; outcome = outcome.Value (record { root = slot.Atom ada; nodes = [] }) }

abbrev pub late : Ground
late = app_over (component (codes "App") (expr.Element (tag.Server 1) [] []) ∷ component (codes "Item") (expr.Source (codes "user")) ∷ []) (user ∷ []) []

-- what the body of `App` makes: the props of `<Item/>`, and the element
abbrev pub props_made : Made
props_made = record { kind = kind.Object []; slots = [] }

abbrev pub item_made : Made
item_made = record { kind = kind.Server 1; slots = tree.Atom atom.Null ∷ tree.Made (record { render = []; serial = 0 }) ∷ [] }

abbrev pub item : Name
item = record { render = []; serial = 1 }

-- the task of `<Item/>` writes row 1
abbrev pub item_task : Status → ℕ → List Bool → Task
item_task s turns remembered = record { id = 1; what = what.Element item (record { made = (props_made ∷ item_made ∷ []) ∷ [] }); status = s; turns = turns; remembered = remembered }

abbrev pub root_done : List Bool → Task
root_done remembered = record { id = 0; what = what.Root; status = status.Done; turns = 1; remembered = remembered }

-- `App` finishes, and the task of `<Item/>` is born; that is taken, and waits
abbrev pub late_events : List Event
late_events = event.Take 0 ∷ event.Done 0 ∷ event.Take 1 ∷ event.Wait 1 0 ∷ []

-- One row went out, `0:"$L1"`, and the task of row 1 waits for the data. The body of `App` cost 5.
abbrev pub late_waiting : State
late_waiting =
    record {
      rows = model 0 (place.Lazy 1 ∷ []) ∷ [];
      tasks = root_done (false ∷ []) ∷ item_task (status.Waiting 0) 1 (false ∷ []) ∷ [];
      settled = false ∷ [];
      homes = [];
      others = (key.Server item, 1) ∷ [];
      counted = ([], 5) ∷ [];
      ended = [];
      over = false;
    }

-- the data is there, so the task is ready; it is taken again, from its start, and finishes
abbrev pub late_rest : List Event
late_rest = event.Ping 0 ∷ event.Take 1 ∷ event.Done 1 ∷ []

-- A second row went out, `1:"Ada"`, and all tasks are done. The body of `Item` cost 5: 1 for the data, 1 for the value
-- given, and 3 for its bytes.
abbrev pub late_end : State
late_end =
    record {
      rows = model 0 (place.Lazy 1 ∷ []) ∷ model 1 (place.Atom ada ∷ []) ∷ [];
      tasks = root_done (false ∷ []) ∷ item_task status.Done 2 (true ∷ []) ∷ [];
      settled = true ∷ [];
      homes = [];
      others = (key.Server item, 1) ∷ [];
      counted = ([], 5) ∷ (1 ∷ [], 5) ∷ [];
      ended = [];
      over = false;
    }

abbrev pub late_graph : Graph
late_graph = record { root = slot.Atom ada; nodes = [] }

-- before the data is there, row 1 pends
abbrev pub late_so_far : Graph
late_so_far = record { root = slot.Atom atom.Pending; nodes = [] }

-- ---- an abort of the same request, while the task of `<Item/>` waits

-- One error row went out, under the next id, and row 1 refers to it: `2:E{"digest":"stopped"}` and `1:"$L2"`. All tasks
-- are done.
abbrev pub late_aborted : State
late_aborted =
    record {
      rows = model 0 (place.Lazy 1 ∷ []) ∷ failure 2 (codes "stopped") ∷ model 1 (place.Lazy 2 ∷ []) ∷ [];
      tasks = root_done (false ∷ []) ∷ item_task status.Done 1 (false ∷ []) ∷ [];
      settled = false ∷ [];
      homes = [];
      others = (key.Server item, 1) ∷ [];
      counted = ([], 5) ∷ [];
      ended = (1, 2) ∷ [];
      over = false;
    }

-- the element failed
abbrev pub aborted_graph : Graph
aborted_graph = record { root = slot.Atom (atom.Failed (codes "stopped")); nodes = [] }

-- ---- one object in two tasks: `function App() { return [<Item/>, <Item/>]; }`, where the data is `{name: "Ada"}`

abbrev pub profile : Data
profile =
    record {
      name = codes "user";
      outcome = outcome.Value (record { root = slot.Node 0; nodes = node.Object (record { name = codes "name"; slot = slot.Atom ada } ∷ []) ∷ [] });
    }

abbrev pub twice : Ground
twice =
    app_over
    (component (codes "App") (expr.Array (expr.Element (tag.Server 1) [] [] ∷ expr.Element (tag.Server 1) [] [] ∷ [])) ∷ component (codes "Item") (expr.Source (codes "user")) ∷ [])
    (profile ∷ []) []

abbrev pub other_item : Name
other_item = record { render = []; serial = 3 }

abbrev pub both_items : Name
both_items = record { render = []; serial = 4 }

-- what the body of `App` makes: each element after its props, and the array
abbrev pub twice_made : List Made
twice_made =
    props_made ∷ item_made
    ∷ props_made ∷ record { kind = kind.Server 1; slots = tree.Atom atom.Null ∷ tree.Made (record { render = []; serial = 2 }) ∷ [] }
    ∷ record { kind = kind.Array; slots = tree.Made item ∷ tree.Made other_item ∷ [] } ∷ []

-- the tasks of the elements write rows 1 and 2
abbrev pub first_task_of : Status → ℕ → List Bool → Task
first_task_of s turns remembered = record { id = 1; what = what.Element item (record { made = twice_made ∷ [] }); status = s; turns = turns; remembered = remembered }

abbrev pub second_task_of : Status → ℕ → List Bool → Task
second_task_of s turns remembered = record { id = 2; what = what.Element other_item (record { made = twice_made ∷ [] }); status = s; turns = turns; remembered = remembered }

-- `App` finishes; the data is there; the tasks of the elements finish one after the other
abbrev pub twice_events : List Event
twice_events = event.Take 0 ∷ event.Done 0 ∷ event.Ping 0 ∷ event.Take 1 ∷ event.Done 1 ∷ event.Take 2 ∷ event.Done 2 ∷ []

-- Three rows went out: `0:["$L1","$L2"]`, `1:{"name":"Ada"}` and `2:"$1"`. The object has its home in row 1, where it was
-- met first, and row 2 refers to it.
abbrev pub twice_end : State
twice_end =
    record {
      rows =
          model 0 (place.Array (1 ∷ 2 ∷ []) ∷ place.Lazy 1 ∷ place.Lazy 2 ∷ [])
          ∷ model 1 (place.Object (record { name = codes "name"; place = 1 } ∷ []) ∷ place.Atom ada ∷ [])
          ∷ model 2 (place.Value (record { id = 1; path = [] }) ∷ []) ∷ [];
      tasks = root_done (false ∷ []) ∷ first_task_of status.Done 1 (true ∷ []) ∷ second_task_of status.Done 1 (true ∷ []) ∷ [];
      settled = true ∷ [];
      homes = (key.Made both_items, made_at (first_place 0)) ∷ (key.Source 0 0, made_at (first_place 1)) ∷ [];
      others = (key.Server item, 1) ∷ (key.Server other_item, 2) ∷ [];
      counted = ([], 12) ∷ (1 ∷ [], 2) ∷ (3 ∷ [], 2) ∷ [];
      ended = [];
      over = false;
    }

-- an array with one object twice
abbrev pub twice_graph : Graph
twice_graph =
    record {
      root = slot.Node 0;
      nodes =
          node.Array (slot.Node 1 ∷ slot.Node 1 ∷ [])
          ∷ node.Object (record { name = codes "name"; slot = slot.Atom ada } ∷ []) ∷ [];
    }

-- ---- a stream: `function App() { return feed; }`, a stream of one item

-- the item comes from the data `user`, the text "Ada"; there is no final value
abbrev pub feed : Flowing
feed = record { name = codes "feed"; flow = flow.Readable; items = 0 ∷ []; last = None }

abbrev pub streamed : Ground
streamed = app_over (component (codes "App") (expr.Stream (codes "feed")) ∷ []) (user ∷ []) (feed ∷ [])

-- the tasks of the stream have its id: that of its item, and that of its end
abbrev pub item_of_feed : Status → ℕ → List Bool → Task
item_of_feed s turns remembered = record { id = 1; what = what.Item 0 0; status = s; turns = turns; remembered = remembered }

abbrev pub end_of_feed : Status → ℕ → List Bool → Task
end_of_feed s turns remembered = record { id = 1; what = what.Last 0; status = s; turns = turns; remembered = remembered }

-- the row that opens the stream has no places, and the row that closes it `undefined`
abbrev pub opens_feed : PlacedRow
opens_feed = record { id = 1; tree = record { kind = row.Open flow.Readable; places = [] } }

abbrev pub closes_feed : PlacedRow
closes_feed = record { id = 1; tree = record { kind = row.Close; places = place.Atom atom.Undefined ∷ [] } }

-- the stream is opened; its item is there, and goes out; then it is closed
abbrev pub streamed_events : List Event
streamed_events = event.Take 0 ∷ event.Done 0 ∷ event.Ping 0 ∷ event.Take 1 ∷ event.Done 1 ∷ event.Take 2 ∷ event.Done 2 ∷ []

-- Four rows went out: `1:R` and `0:"$1"`, then `1:"Ada"`, then `1:C`. The body of `App` cost 2.
abbrev pub streamed_end : State
streamed_end =
    record {
      rows = opens_feed ∷ model 0 (place.Value (record { id = 1; path = [] }) ∷ []) ∷ model 1 (place.Atom ada ∷ []) ∷ closes_feed ∷ [];
      tasks = root_done (false ∷ []) ∷ item_of_feed status.Done 1 (true ∷ []) ∷ end_of_feed status.Done 1 (true ∷ []) ∷ [];
      settled = true ∷ [];
      homes = (key.Stream 0, stream_of 1) ∷ [];
      others = [];
      counted = ([], 2) ∷ [];
      ended = [];
      over = false;
    }

-- a stream of one text, which is closed without a value
abbrev pub streamed_graph : Graph
streamed_graph = record { root = slot.Node 0; nodes = node.Stream flow.Readable (slot.Atom ada ∷ []) (end.Closed (slot.Atom atom.Undefined)) ∷ [] }

-- ---- an element of the host, and a component in place: `function App() { return <p><Item/></p>; }` and
-- `function Item() { return "hello"; }`

abbrev pub nested : Ground
nested = app_over (component (codes "App") (expr.Element (tag.Host (codes "p")) [] (expr.Element (tag.Server 1) [] [] ∷ [])) ∷ component (codes "Item") (expr.Atom hello) ∷ []) [] []

abbrev pub attributes : Name
attributes = record { render = []; serial = 2 }

abbrev pub paragraph : Name
paragraph = record { render = []; serial = 3 }

-- what the body of `App` makes: `<Item/>` after its props, then the props of `<p>`, then `<p>`
abbrev pub nested_made : List Made
nested_made =
    props_made ∷ item_made
    ∷ record { kind = kind.Object (codes "children" ∷ []); slots = tree.Made item ∷ [] }
    ∷ record { kind = kind.Element; slots = tree.Atom (atom.Text (codes "p")) ∷ tree.Atom atom.Null ∷ tree.Made attributes ∷ [] } ∷ []

abbrev pub nested_events : List Event
nested_events = event.Take 0 ∷ event.Done 0 ∷ []

-- One row went out, `0:["$","p",null,{"children":"hello"}]`: `Item` waits for nothing, so what it gives stands in its place,
-- and no task is born. The mark `"$"` has a place of its own. Both bodies are counted.
abbrev pub nested_end : State
nested_end =
    record {
      rows =
          model 0 (
          place.Element 2 3 4 ∷ place.Atom (atom.Text (codes "$"))
          ∷ place.Atom (atom.Text (codes "p")) ∷ place.Atom atom.Null
          ∷ place.Object (record { name = codes "children"; place = 5 } ∷ []) ∷ place.Atom hello ∷ []
          ) ∷ [];
      tasks = root_done [] ∷ [];
      settled = [];
      homes = (key.Made paragraph, made_at (first_place 0)) ∷ (key.Made attributes, made_at (beside (first_place 0) 4)) ∷ [];
      others = [];
      counted = ([], 19) ∷ (1 ∷ [], 7) ∷ [];
      ended = [];
      over = false;
    }

-- an element with its props
abbrev pub nested_graph : Graph
nested_graph =
    record {
      root = slot.Node 0;
      nodes =
          node.Element (slot.Atom (atom.Text (codes "p"))) (slot.Atom atom.Null) (slot.Node 1)
          ∷ node.Object (record { name = codes "children"; slot = slot.Atom hello } ∷ []) ∷ [];
    }

-- ---- a Map: `function App() { return new Map([["a", 1]]); }`

abbrev pub one_of : Atom
one_of = atom.Whole (pos 1)

abbrev pub letter : Atom
letter = atom.Text (codes "a")

abbrev pub mapped : Ground
mapped = app_over (component (codes "App") (expr.Map (record { key = expr.Atom letter; value = expr.Atom one_of } ∷ [])) ∷ []) [] []

abbrev pub the_map : Name
the_map = record { render = []; serial = 0 }

abbrev pub mapped_events : List Event
mapped_events = event.Take 0 ∷ event.Done 0 ∷ []

-- Two rows went out: the entries, `1:[["a",1]]`, and the Map, `0:"$Q1"`. The Map is at home where its token stands; the row
-- of its entries is no home.
abbrev pub mapped_end : State
mapped_end =
    record {
      rows =
          model 1 (place.Array (1 ∷ []) ∷ place.Array (2 ∷ 3 ∷ []) ∷ place.Atom letter ∷ place.Atom one_of ∷ [])
          ∷ model 0 (place.Map (record { id = 1; path = [] }) ∷ []) ∷ [];
      tasks = root_done [] ∷ [];
      settled = [];
      homes = (key.Made the_map, made_at (first_place 0)) ∷ [];
      others = [];
      counted = ([], 7) ∷ [];
      ended = [];
      over = false;
    }

-- a Map of one entry
abbrev pub mapped_graph : Graph
mapped_graph = record { root = slot.Node 0; nodes = node.Map (record { key = slot.Atom letter; value = slot.Atom one_of } ∷ []) ∷ [] }

-- ---- an abort of the same stream, while its item is waited for

abbrev pub feed_events : List Event
feed_events = event.Take 0 ∷ event.Done 0 ∷ event.Take 1 ∷ event.Wait 1 0 ∷ []

-- `1:R` and `0:"$1"` went out, and the task of the item waits
abbrev pub feed_waiting : State
feed_waiting =
    record {
      rows = opens_feed ∷ model 0 (place.Value (record { id = 1; path = [] }) ∷ []) ∷ [];
      tasks = root_done (false ∷ []) ∷ item_of_feed (status.Waiting 0) 1 (false ∷ []) ∷ [];
      settled = false ∷ [];
      homes = (key.Stream 0, stream_of 1) ∷ [];
      others = [];
      counted = ([], 2) ∷ [];
      ended = [];
      over = false;
    }

-- The error row went out, `2:E{"digest":"stopped"}`, and the stream ends as broken, by a row of its own id,
-- `1:E{"digest":"stopped"}`.
abbrev pub feed_aborted : State
feed_aborted =
    record feed_waiting {
      rows = feed_waiting.rows ++ failure 2 (codes "stopped") ∷ failure 1 (codes "stopped") ∷ [];
      tasks = root_done (false ∷ []) ∷ item_of_feed status.Done 1 (false ∷ []) ∷ [];
      ended = (1, 2) ∷ [];
    }

-- a stream that broke before its first item
abbrev pub broken_graph : Graph
broken_graph = record { root = slot.Node 0; nodes = node.Stream flow.Readable [] (end.Broken (codes "stopped")) ∷ [] }

-- ---- a server reference with a bound argument: `function App() { return save.bind(null, 1); }`, where `save` is a server
-- function

abbrev pub save : Declared
save = declared.Action (codes "save") (codes "x" ∷ []) (expr.Atom atom.Null)

abbrev pub bound : Ground
bound = app_over (component (codes "App") (expr.Action 1 (Some (expr.Atom one_of ∷ []))) ∷ save ∷ []) [] []

-- what the body of `App` makes, each of the one before: the array of the arguments, its promise, the server reference
abbrev pub bound_array : Name
bound_array = record { render = []; serial = 0 }

abbrev pub bound_promise : Name
bound_promise = record { render = []; serial = 1 }

abbrev pub bound_action : Name
bound_action = record { render = []; serial = 2 }

abbrev pub bound_events : List Event
bound_events = event.Take 0 ∷ event.Done 0 ∷ []

-- Three rows went out: the arguments, `2:[1]`, the server reference with their promise, `1:{"bound":"$@2","id":"save"}`,
-- and `0:"$F1"`. The promise is that of row 2, and no task is born for it.
abbrev pub bound_end : State
bound_end =
    record {
      rows =
          model 2 (place.Array (1 ∷ []) ∷ place.Atom one_of ∷ [])
          ∷ model 1 (place.Object (record { name = codes "bound"; place = 1 } ∷ record { name = codes "id"; place = 2 } ∷ []) ∷ place.Promise 2 ∷ place.Atom (atom.Text (codes "save")) ∷ [])
          ∷ model 0 (place.Action 1 ∷ []) ∷ [];
      tasks = root_done [] ∷ [];
      settled = [];
      homes = (key.Made bound_array, made_at (first_place 2)) ∷ (key.Made bound_promise, promise_of 2) ∷ (key.Made bound_action, action_of 1) ∷ [];
      others = [];
      counted = ([], 6) ∷ [];
      ended = [];
      over = false;
    }

-- a server reference, the promise of its arguments, and their array
abbrev pub bound_graph : Graph
bound_graph =
    record {
      root = slot.Node 0;
      nodes = node.Action (codes "save") (slot.Node 1) ∷ node.Promise (slot.Node 2) ∷ node.Array (slot.Atom one_of ∷ []) ∷ [];
    }

-- ---- a Suspense boundary: `function App() { return <Suspense>hello</Suspense>; }`

abbrev pub suspense : List ℕ
suspense = codes "react.suspense"

abbrev pub boundary : Ground
boundary = app_over (component (codes "App") (expr.Element tag.Suspense [] (expr.Atom hello ∷ [])) ∷ []) [] []

-- what the body of `App` makes: the props of the boundary, and the boundary
abbrev pub inside : Name
inside = record { render = []; serial = 0 }

abbrev pub outside : Name
outside = record { render = []; serial = 1 }

abbrev pub boundary_events : List Event
boundary_events = event.Take 0 ∷ event.Done 0 ∷ []

-- Two rows went out: the symbol, `1:"$Sreact.suspense"`, and the element with a reference to it for its tag,
-- `0:["$","$1",null,{"children":"hello"}]`. A symbol is no node, so its row is kept apart from the homes.
abbrev pub boundary_end : State
boundary_end =
    record {
      rows =
          model 1 (place.Atom (atom.Symbol suspense) ∷ [])
          ∷ model 0 (
          place.Element 2 3 4 ∷ place.Atom (atom.Text (codes "$"))
          ∷ place.Value (record { id = 1; path = [] }) ∷ place.Atom atom.Null
          ∷ place.Object (record { name = codes "children"; place = 5 } ∷ []) ∷ place.Atom hello ∷ []
          ) ∷ [];
      tasks = root_done [] ∷ [];
      settled = [];
      homes = (key.Made outside, made_at (first_place 0)) ∷ (key.Made inside, made_at (beside (first_place 0) 4)) ∷ [];
      others = (key.Symbol suspense, 1) ∷ [];
      counted = ([], 20) ∷ [];
      ended = [];
      over = false;
    }

-- an element whose tag is the symbol
abbrev pub boundary_graph : Graph
boundary_graph =
    record {
      root = slot.Node 0;
      nodes =
          node.Element (slot.Atom (atom.Symbol suspense)) (slot.Atom atom.Null) (slot.Node 1)
          ∷ node.Object (record { name = codes "children"; slot = slot.Atom hello } ∷ []) ∷ [];
    }
