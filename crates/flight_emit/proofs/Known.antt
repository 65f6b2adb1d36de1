-- Values that are written as a reference to what has one home.
use Rattle.std.proofs.Common.{◌≡◌, ℕ, ◌<◌, ◌^◌, inl, inr, List, [], ◌∷◌, ◌++◌, Option, Some, None, if◌then◌else◌, refl, sym, ap, ◌∙◌, subst, arith}
use Rattle.std.specs.Prelude.{slice_get}
use Rattle.flight_value.specs.Listed.{In}
use Rattle.flight_value.specs.Store as store
use Rattle.flight_value.specs.Store.{Shape}
use Rattle.flight_value.specs.declared.graph.Atom.{Atom}
use Rattle.flight_value.specs.declared.key.Key.{Key}
use Rattle.flight_value.specs.declared.key.Key.TheVariants as key
use Rattle.flight_value.specs.declared.made.Tree.TheVariants as tree
use Rattle.flight_value.specs.declared.name.Name.{Name}
use Rattle.flight_text.specs.declared.mark.Ref.{Ref}
use Rattle.flight_text.specs.Mark.{IsPlace}
use Rattle.flight_row.specs.declared.row.RowKind.{RowKind}
use Rattle.flight_home.specs.Homes.{IsNew}
use Rattle.flight_render.specs.declared.root.Ground.{Ground}
use Rattle.flight_render.specs.declared.job.What.{What}
use Rattle.flight_render.specs.declared.job.What.TheVariants as what
use Rattle.flight_value.specs.declared.made.Tables.{Tables}
use Rattle.flight_syntax.specs.declared.script.Flowing.{Flowing}
use Rattle.flight_eval.specs.declared.body.Body.{Body}
use Rattle.flight_value.specs.declared.graph.Atom.TheVariants as atom
use Rattle.flight_meaning.specs.declared.place.Place.{Place}
use Rattle.std.specs.Prelude.{Result, Ok, Err, IfOk, OnOk}
use Rattle.flight_value.specs.declared.memory.Memory.{Memory}
use Rattle.flight_emit.specs.Log.{value_row, take, IsMetNode}
use Rattle.flight_emit.specs.Wrote.{HasRow}
use Rattle.flight_emit.proofs.Growing.{grows_none, grows_took}
use Rattle.flight_emit.specs.Seen.{look, tables_by, seen_of, IsServerNode}
use Rattle.flight_render.specs.Jobs.{is_server, Value, shown, of_job, outcome, element, target_of}
use Rattle.flight_render.specs.Attempt.{job_for}
use Rattle.flight_meaning.specs.declared.place.Place.TheVariants as place
use Rattle.flight_payload.specs.Written.{token_of}
use Rattle.flight_state.specs.State.{stream_for, IsAlone, next_by, next_what}
use Rattle.flight_state.specs.Local.{Seen, IsSeen, job_seen, shape_seen, IsAtomOf, at_first, in_slot, MetBy, TablesHere, IsRowKey}
use Rattle.flight_state.proofs.Lists.{in_behind}
use Rattle.flight_emit.specs.Sheet.{root}
use Rattle.flight_emit.specs.Good as good
use Rattle.flight_emit.specs.Good.{Gives, IsNode, IsLeaf, IsPlainKind}
use Rattle.flight_emit.specs.Whole.{IsBoundPlace, HasOneSlot}
use Rattle.flight_render.specs.Plain.{action_name}
use Rattle.flight_emit.specs.Log.{reference_row, Taken, atom_row, task, stream_row, home_for, IsTaskFor, Stage, Took, Put}
use Rattle.flight_emit.specs.declared.node.Sort.{Sort}
use Rattle.flight_emit.specs.declared.node.Sort.TheVariants as sort
use Rattle.flight_emit.specs.Nodes.{IsReady, reference_place}
use Rattle.flight_emit.specs.Wrote.{WroteLeaf}
use Rattle.flight_emit.proofs.Growing.{root_place}
use Rattle.flight_emit.proofs.Leaves.{leaf_found, leaf_taken}

low_id : (s t : Stage) (taken : Taken) → Took taken s t → s.next < 2 ^ 31
low_id s t taken took = let e = took.next in let h = took.below in omega (arith, e, h)

-- the home that an id was taken for is there
home_there : (s t : Stage) (taken : Taken) (k : Key) → Took taken s t → home_for s.next taken ≡ (k, root s.next) ∷ [] → In (k, root s.next) t.homes
home_there s t taken k took e = subst (In (k, root s.next)) (sym (took.homes ∙ ap (λ z. s.homes ++ z) e)) (in_behind s.homes ((k, root s.next) ∷ []) (k, root s.next) (inl refl))

-- ---- imports and symbols

pub known_found : (g : Ground) (seen : Seen) (v : Value) (a : Atom) (k : Key) (r : Ref) (s u : Stage) → In (k, r) s.homes → IsPlace r → IsAtomOf g k a → target_of v ≡ store.atom a → Put (token_of (place.Value (root r.id)) ∷ []) s u → WroteLeaf g seen v s u
known_found g seen v a k r s u home is_place of target put =
    leaf_found g seen v (place.Value (root r.id)) s u put (good.a_known_atom a k r (inr refl) home of target) (root_place r.id is_place.small)

pub known_taken : (g : Ground) (seen : Seen) (v : Value) (a : Atom) (kind : RowKind) (k : Key) (s t u : Stage) → Took (atom_row (Some k) kind a) s t → IsNew k s.homes → IsPlainKind kind → IsRowKey k → IsAtomOf g k a → target_of v ≡ store.atom a
    → Put (token_of (place.Value (root s.next)) ∷ []) t u → WroteLeaf g seen v s u
known_taken g seen v a kind k s t u took new plain is_row of target put =
    leaf_taken g seen v (atom_row (Some k) kind a) (place.Value (root s.next)) s t u took (new, tt) (plain, (is_row, of)) put
    (good.a_known_atom a k (root s.next) (inr refl) (home_there s t (atom_row (Some k) kind a) k took refl) of target)
    (root_place s.next (low_id s t (atom_row (Some k) kind a) took))

-- ---- tasks

-- a promise that is at home, and one whose task is born
pub promise_found : (g : Ground) (seen : Seen) (v w : Value) (k : Key) (r : Ref) (s u : Stage) → In (k, r) s.homes → IsPlace r → IsNode g seen v k → shape_seen g seen k ≡ Some (record { label = store.promise; slots = w ∷ [] })
    → Put (token_of (place.Promise r.id) ∷ []) s u → WroteLeaf g seen v s u
promise_found g seen v w k r s u home is_place node shape put =
    leaf_found g seen v (place.Promise r.id) s u put (good.a_reference k r (record { label = store.promise; slots = w ∷ [] }) node home shape refl) is_place.small

pub promise_taken : (g : Ground) (seen : Seen) (v w : Value) (k : Key) (what : What) (s t u : Stage) → Took (task k what) s t → IsNew k s.homes → IsNode g seen v k → shape_seen g seen k ≡ Some (record { label = store.promise; slots = w ∷ [] })
    → IsAlone what → MetBy g seen v (job_for g what) None → TablesHere seen what → IsTaskFor g seen k what → Put (token_of (place.Promise s.next) ∷ []) t u → WroteLeaf g seen v s u
promise_taken g seen v w k what s t u took new node shape alone met tables is_task put =
    leaf_taken g seen v (task k what) (place.Promise s.next) s t u took (new, tt) (alone, met, tables, is_task) put
    (good.a_reference k (root s.next) (record { label = store.promise; slots = w ∷ [] }) node (home_there s t (task k what) k took refl) shape refl)
    (low_id s t (task k what) took)

-- the promise of a source
source_node : (g : Ground) (seen : Seen) (source : ℕ) → IsNode g seen (shown (tree.Promise source)) (key.Settled source)
source_node g seen source = record { is_seen = tt; no_job = refl; is_target = refl; lasting = tt }

pub source_found : (g : Ground) (seen : Seen) (source : ℕ) (r : Ref) (s u : Stage) → In (key.Settled source, r) s.homes → IsPlace r → Put (token_of (place.Promise r.id) ∷ []) s u → WroteLeaf g seen (shown (tree.Promise source)) s u
source_found g seen source r s u home is_place put = promise_found g seen (shown (tree.Promise source)) (of_job (outcome source)) (key.Settled source) r s u home is_place (source_node g seen source) refl put

pub source_taken : (g : Ground) (seen : Seen) (source id : ℕ) (s t u : Stage) → id ≡ s.next → Took (task (key.Settled source) (what.Promise source)) s t → IsNew (key.Settled source) s.homes → Put (token_of (place.Promise id) ∷ []) t u → WroteLeaf g seen (shown (tree.Promise source)) s u
source_taken g seen source id s t u is_id took new put =
    promise_taken g seen (shown (tree.Promise source)) (of_job (outcome source)) (key.Settled source) (what.Promise source) s t u took new (source_node g seen source) refl refl
    (of_job (outcome source), in_slot at_first tt refl refl tt refl (inl refl), tt, refl) tt (of_job (outcome source), refl, tt, refl)
    (subst (λ z. Put (token_of (place.Promise z) ∷ []) t u) is_id put)

-- a server element, by the row of its task
pub element_found : (g : Ground) (seen : Seen) (v : Value) (n : Name) (r : Ref) (s u : Stage) → In (key.Server n, r) s.homes → IsPlace r → IsSeen seen v → job_seen seen v ≡ Some (element n) → Put (token_of (place.Lazy r.id) ∷ []) s u → WroteLeaf g seen v s u
element_found g seen v n r s u home is_place is_seen job put = leaf_found g seen v (place.Lazy r.id) s u put (good.a_task n r is_seen job home (inl refl)) is_place.small

pub element_taken : (g : Ground) (seen : Seen) (v : Value) (n : Name) (what : What) (id : ℕ) (s t u : Stage) → id ≡ s.next → Took (task (key.Server n) what) s t → IsNew (key.Server n) s.homes → IsSeen seen v → job_seen seen v ≡ Some (element n)
    → job_for g what ≡ element n → IsAlone what → TablesHere seen what → Put (token_of (place.Lazy id) ∷ []) t u → WroteLeaf g seen v s u
element_taken g seen v n what id s t u is_id took new is_seen job same alone tables put =
    leaf_taken g seen v (task (key.Server n) what) (place.Lazy s.next) s t u took (new, tt) (alone, (v, at_first, is_seen, job ∙ ap (λ z. Some z) (sym same)), tables, same)
    (subst (λ z. Put (token_of (place.Lazy z) ∷ []) t u) is_id put)
    (good.a_task n (root s.next) is_seen job (home_there s t (task (key.Server n) what) (key.Server n) took refl) (inl refl))
    (low_id s t (task (key.Server n) what) took)

-- ---- a reference by the sort of a node

pub other_place : (s : Sort) (at : Ref) → (s ≡ sort.Promise → ⊥) → (s ≡ sort.Action → ⊥) → place.Value at ≡ reference_place s at
other_place sort.Promise at a b = absurd (a refl)
other_place sort.Action at a b = absurd (b refl)
other_place sort.Array at a b = refl
other_place sort.Object at a b = refl
other_place sort.Element at a b = refl
other_place sort.Map at a b = refl
other_place sort.Set at a b = refl
other_place sort.Server at a b = refl
other_place sort.Stream at a b = refl

-- ---- server elements by what a writer sees

pub server_seen : (bodies : List Body) (n : Name) → IsServerNode (look bodies n) → IsSeen (seen_of bodies) (shown (tree.Made n))
server_seen bodies n h = (h.0, h.1)

pub server_job : (bodies : List Body) (n : Name) → IsServerNode (look bodies n) → job_seen (seen_of bodies) (shown (tree.Made n)) ≡ Some (element n)
server_job bodies n h = ap (λ b. if b then Some (element n) else None) (ap is_server h.1 ∙ h.2)

pub server_found : (g : Ground) (bodies : List Body) (n m : Name) (r : Ref) (s u : Stage) → m ≡ n → IsReady s → IsServerNode (look bodies n) → In (key.Server m, r) s.homes → Put (token_of (place.Lazy r.id) ∷ []) s u → WroteLeaf g (seen_of bodies) (shown (tree.Made n)) s u
server_found g bodies n m r s u e ready server home put =
    element_found g (seen_of bodies) (shown (tree.Made n)) n r s u (subst (λ z. In (key.Server z, r) s.homes) e home) (ready.0 (key.Server m) r home) (server_seen bodies n server) (server_job bodies n server) put

pub server_taken : (g : Ground) (bodies : List Body) (n m : Name) (w : What) (id : ℕ) (s t u : Stage) → m ≡ n → (tables : Tables) → w ≡ what.Element n tables → tables.made ≡ tables_by bodies n → id ≡ s.next → Took (task (key.Server m) w) s t → IsNew (key.Server m) s.homes
    → IsServerNode (look bodies n) → Put (token_of (place.Lazy id) ∷ []) t u → WroteLeaf g (seen_of bodies) (shown (tree.Made n)) s u
server_taken g bodies n m w id s t u e tables is_what are_tables is_id took new server put =
    element_taken g (seen_of bodies) (shown (tree.Made n)) n (what.Element n tables) id s t u is_id
    (subst (λ z. Took (task (key.Server z) (what.Element n tables)) s t) e (subst (λ z. Took (task (key.Server m) z) s t) is_what took))
    (subst (λ z. IsNew (key.Server z) s.homes) e new) (server_seen bodies n server) (server_job bodies n server) refl refl ((server.0, server.1, server.2), are_tables) put

-- ---- streams

next_stream : (stream : ℕ) (items : List ℕ) (n : ℕ) → stream_for (next_what stream items n) ≡ Some stream
next_stream stream items n = go (slice_get items n)
  where
    go : (o : Option ℕ) → stream_for (next_by stream n o) ≡ Some stream
    go None = refl
    go (Some source) = refl

pub stream_found : (g : Ground) (seen : Seen) (stream : ℕ) (r : Ref) (s u : Stage) → IsReady s → In (key.Stream stream, r) s.homes → Put (token_of (place.Value (root r.id)) ∷ []) s u → WroteLeaf g seen (shown (tree.Stream stream)) s u
stream_found g seen stream r s u ready home put =
    leaf_found g seen (shown (tree.Stream stream)) (place.Value (root r.id)) s u put (good.a_stream stream r refl home (inr refl)) (root_place r.id (let p = ready.0 (key.Stream stream) r home in p.small))

pub stream_taken : (g : Ground) (seen : Seen) (stream : ℕ) (flows : Flowing) (id : ℕ) (s t u : Stage) → id ≡ s.next → slice_get g.script.streams stream ≡ Some flows → Took (stream_row stream flows) s t → IsNew (key.Stream stream) s.homes
    → Put (token_of (place.Value (root id)) ∷ []) t u → WroteLeaf g seen (shown (tree.Stream stream)) s u
stream_taken g seen stream flows id s t u is_id is_stream took new put =
    leaf_taken g seen (shown (tree.Stream stream)) (stream_row stream flows) (place.Value (root s.next)) s t u took (new, tt)
    (is_stream, (shown (tree.Stream stream), at_first, refl))
    (subst (λ z. Put (token_of (place.Value (root z)) ∷ []) t u) is_id put)
    (good.a_stream stream (root s.next) refl (home_there s t (stream_row stream flows) (key.Stream stream) took refl) (inr refl))
    (root_place s.next (low_id s t (stream_row stream flows) took))

-- ---- server references

pub action_found : (g : Ground) (seen : Seen) (v w : Value) (k : Key) (name : List ℕ) (r : Ref) (s u : Stage) → In (k, r) s.homes → IsPlace r → IsNode g seen v k → HasOneSlot g seen k (store.action name) w → Put (token_of (place.Action r.id) ∷ []) s u → WroteLeaf g seen v s u
action_found g seen v w k name r s u home is_place node shape put =
    leaf_found g seen v (place.Action r.id) s u put (good.a_reference k r (record { label = store.action name; slots = w ∷ [] }) node home shape refl) is_place.small

pub reference_taken : (g : Ground) (seen : Seen) (v w : Value) (k : Key) (name : List ℕ) (bound : Place) (id : ℕ) (s t u : Stage) → id ≡ s.next → Took (reference_row k name w bound) s t → IsNew k s.homes → IsNode g seen v k → HasOneSlot g seen k (store.action name) w → IsBoundPlace bound
    → ((z : Value) × Gives g seen w z × IsLeaf g seen t.homes [] bound z) → Put (token_of (place.Action id) ∷ []) t u → WroteLeaf g seen v s u
reference_taken g seen v w k name bound id s t u is_id took new node shape is_bound spells put =
    leaf_taken g seen v (reference_row k name w bound) (place.Action s.next) s t u took (new, tt) (shape, is_bound, spells)
    (subst (λ z. Put (token_of (place.Action z) ∷ []) t u) is_id put)
    (good.a_reference k (root s.next) (record { label = store.action name; slots = w ∷ [] }) node (home_there s t (reference_row k name w bound) k took refl) shape refl)
    (low_id s t (reference_row k name w bound) took)

action_node : (g : Ground) (seen : Seen) (action : ℕ) → IsNode g seen (shown (tree.Action action)) (key.Action action)
action_node g seen action = record { is_seen = tt; no_job = refl; is_target = refl; lasting = tt }

null_certain : atom.Null ≡ atom.Pending → ⊥
null_certain e = cc

pub plain_found : (g : Ground) (seen : Seen) (action : ℕ) (r : Ref) (s u : Stage) → IsReady s → In (key.Action action, r) s.homes → Put (token_of (place.Action r.id) ∷ []) s u → WroteLeaf g seen (shown (tree.Action action)) s u
plain_found g seen action r s u ready home put =
    action_found g seen (shown (tree.Action action)) (shown (tree.Atom atom.Null)) (key.Action action) (action_name g action) r s u home (ready.0 (key.Action action) r home) (action_node g seen action) refl put

pub plain_taken : (g : Ground) (seen : Seen) (action id : ℕ) (name : List ℕ) (s t u : Stage) → id ≡ s.next → name ≡ action_name g action → ((v : Value) → Took (reference_row (key.Action action) name v (place.Atom atom.Null)) s t) → IsNew (key.Action action) s.homes → Put (token_of (place.Action id) ∷ []) t u
    → WroteLeaf g seen (shown (tree.Action action)) s u
plain_taken g seen action id name s t u is_id named took new put =
    let null = shown (tree.Atom atom.Null) in
    reference_taken g seen (shown (tree.Action action)) null (key.Action action) (action_name g action) (place.Atom atom.Null) id s t u is_id
    (subst (λ z. Took (reference_row (key.Action action) z null (place.Atom atom.Null)) s t) named (took null)) new (action_node g seen action) refl (inl refl)
    (null, good.itself, good.an_atom atom.Null refl refl null_certain) put

-- ---- rows of promises

pub row_found : (g : Ground) (seen : Seen) (v : Value) (k l : Key) (id : ℕ) (r : Ref) (s : Stage) → l ≡ k → id ≡ r.id → IsReady s → In (l, r) s.homes → HasRow g seen v k id s s
row_found g seen v k l id r s e is_id ready home =
    record {
      acts = [];
      grows = grows_none g seen v s s refl refl refl refl refl;
      no_places = refl;
      same = refl;
      home = r;
      is_home = subst (λ z. In (z, r) s.homes) e home;
      is_id = is_id;
      below = subst (λ z. z < 2 ^ 31) (sym is_id) (let p = ready.0 l r home in p.small);
    }

pub row_taken : (g : Ground) (seen : Seen) (v : Value) (k l : Key) (id : ℕ) (s t : Stage) → l ≡ k → id ≡ s.next → id < 2 ^ 31 → Took (value_row l) s t → IsNew l s.homes → IsMetNode g seen v k → HasRow g seen v k id s t
row_taken g seen v k l id s t e is_id low took new met =
    let taken : Took (value_row k) s t = subst (λ z. Took (value_row z) s t) e took in
    record {
      acts = take (value_row k) ∷ [];
      grows = grows_took g seen v (value_row k) s t taken (subst (λ z. IsNew z s.homes) e new, tt) met;
      no_places = refl;
      same = taken.out;
      home = root s.next;
      is_home = home_there s t (value_row k) k taken refl;
      is_id = is_id;
      below = low;
    }

pub rows_taken : (seen : Seen) (k l : Key) (r : Result ℕ Memory) (s t : Stage) → l ≡ k → IfOk r (λ id. (id ≡ s.next) × (id < 2 ^ 31)) → OnOk r (Took (value_row l) s t) → IsNew l s.homes
    → IfOk r (λ id. (g : Ground) (v : Value) → IsMetNode g seen v k → HasRow g seen v k id s t)
rows_taken seen k l (Ok id) s t e is_id took new = λ g v met. row_taken g seen v k l id s t e is_id.0 is_id.1 took new met
rows_taken seen k l (Err refused) s t e is_id took new = tt
