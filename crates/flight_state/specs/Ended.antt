-- What an abort in a quiet state leaves: sequential rendering, with what pends failed.
use Rattle.std.specs.Prelude.{ℕ, ◌≡◌, List, Some}
use Rattle.std.specs.List.{AllZip}
use Rattle.flight_value.specs.Store as store
use Rattle.flight_value.specs.Store.{FlowState, Label, Shape, Target, Store, Paired}
use Rattle.flight_value.specs.declared.graph.Atom.{Atom}
use Rattle.flight_value.specs.declared.graph.Atom.TheVariants as atom
use Rattle.flight_value.specs.declared.key.Key.{Key}
use Rattle.flight_value.specs.declared.key.Key.TheVariants as key
use Rattle.flight_render.specs.declared.root.Ground.{Ground}
use Rattle.flight_render.specs.Run.{waits}
use Rattle.flight_render.specs.Jobs.{Value, comes}
use Rattle.flight_render.specs.Plain.{NodeIs}
use Rattle.flight_value.specs.Listed.{In}
use Rattle.flight_meaning.specs.Meaning.{Written, Identity, stream_of, HasShape}
use Rattle.flight_state.specs.State.{State, Task, IsAlone, job_at, IsClosed}
use Rattle.flight_state.specs.Spells.{SpelledBy, IsErrorRow}

-- ---- stores with what pends failed

abbrev pub ended_atom : List ℕ → Atom → Atom
ended_atom digest atom.Pending = atom.Failed digest
ended_atom digest a = a

abbrev pub ended_target : {K : Type 0} → List ℕ → Target K → Target K
ended_target digest (store.atom a) = store.atom (ended_atom digest a)
ended_target digest (store.node_at k) = store.node_at k

abbrev pub ended_flow : List ℕ → FlowState → FlowState
ended_flow digest store.flowing = store.broken digest
ended_flow digest state = state

abbrev pub ended_label : List ℕ → Label → Label
ended_label digest (store.stream flow state) = store.stream flow (ended_flow digest state)
ended_label digest label = label

abbrev pub EndedLeads : {K V : Type 0} → List ℕ → Store K V → V → Target K → Type 0
EndedLeads {K} digest s v target = (before : Target K) × s.leads v before × (target ≡ ended_target digest before)

abbrev pub EndedAt : {K V : Type 0} → List ℕ → Store K V → K → Shape V → Type 0
EndedAt {K} {V} digest s k shape = (before : Shape V) × s.at k before × (shape ≡ record { label = ended_label digest before.label; slots = before.slots })

-- each pending slot is failed with the digest, and each open stream is broken with it
abbrev pub ended : {K V : Type 0} → List ℕ → Store K V → Store K V
ended digest s = record { root = s.root; at = EndedAt digest s; leads = EndedLeads digest s }

-- ---- the state behind

-- a node is written at its home, but that an open stream is broken there
pub record EndedHome (g : Ground) (st : State) (digest : List ℕ) (k : Key) (i : Identity) : Type 0 where
  pub here : Shape Value
  pub there : Shape Written
  pub is_here : NodeIs g st.settled k here
  pub is_there : HasShape st.rows i there
  pub labels : ended_label digest here.label ≡ there.label
  pub slots : AllZip (SpelledBy g st) here.slots there.slots

-- all tasks are done; those that an abort ended waited, and its error row has this digest
pub record IsAborted (g : Ground) (st : State) (digest : List ℕ) : Type 0 where
  pub closed : IsClosed st
  pub waited : (t : Task) (error : ℕ) → In t st.tasks → IsAlone t.what → In (t.id, error) st.ended → (source : ℕ) × (comes g st.settled (job_at g t) ≡ Some (waits source))
  pub errors : (id error : ℕ) → In (id, error) st.ended → IsErrorRow st.rows error digest
  pub streams : (stream id : ℕ) → Paired st.homes (key.Stream stream) (stream_of id) → EndedHome g st digest (key.Stream stream) (stream_of id)
