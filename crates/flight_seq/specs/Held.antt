-- What stands in a slot before it is followed, and a node with such slots.
use Rattle.std.specs.Prelude.{map}
use Rattle.flight_value.specs.Store as store
use Rattle.flight_render.specs.Run as run
use Rattle.flight_render.specs.Jobs.{Value, shown, of_job, failed, stopped, the_root, outcome, known, blank}
use Rattle.flight_eval.specs.Attempted.{end_of}
use Rattle.flight_seq.specs.declared.held.Held.{Held}
use Rattle.flight_seq.specs.declared.held.Held.TheVariants as held
use Rattle.flight_seq.specs.declared.held.End.{End}
use Rattle.flight_seq.specs.declared.held.End.TheVariants as end
use Rattle.flight_seq.specs.declared.held.FlowState.{FlowState}
use Rattle.flight_seq.specs.declared.held.FlowState.TheVariants as state
use Rattle.flight_seq.specs.declared.held.Label.{Label}
use Rattle.flight_seq.specs.declared.held.Label.TheVariants as label
use Rattle.flight_seq.specs.declared.held.Shape.{Shape}
use Rattle.flight_seq.specs.declared.known.Known.{Known}
use Rattle.flight_seq.specs.declared.known.Known.TheVariants as body

-- the value of rendering that stands there
abbrev pub value_held : Held → Value
value_held (held.Tree t) = shown t
value_held held.Root = of_job the_root
value_held (held.Outcome source) = of_job (outcome source)
value_held (held.Known slot) = of_job (known slot)
value_held held.Blank = of_job blank

abbrev pub end_for : End → run.End
end_for (end.Gave t) = run.gave t
end_for (end.Threw digest) = run.threw digest
end_for (end.Waits source) = run.waits source

-- what a job came to by its end
abbrev pub value_for : End → Value
value_for (end.Gave t) = shown t
value_for (end.Threw digest) = failed digest
value_for (end.Waits source) = stopped source

-- how a body ends
abbrev pub known_end : Known → run.End
known_end (body.Finished made inside gave cost) = end_of gave
known_end (body.Waits source) = run.waits source

abbrev pub state_for : FlowState → store.FlowState
state_for state.Flowing = store.flowing
state_for state.Closed = store.closed
state_for (state.Broken digest) = store.broken digest

abbrev pub label_for : Label → store.Label
label_for label.Array = store.array
label_for (label.Object names) = store.object names
label_for label.Map = store.map_of
label_for label.Set = store.set_of
label_for label.Element = store.element
label_for label.Promise = store.promise
label_for (label.Stream flow state) = store.stream flow (state_for state)
label_for (label.Action id) = store.action id

abbrev pub shape_for : Shape → store.Shape Value
shape_for s = record { label = label_for s.label; slots = map value_held s.held }
