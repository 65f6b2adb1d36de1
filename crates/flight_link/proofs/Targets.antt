-- What slots lead to.
use Rattle.std.proofs.Common.{◌≡◌, ◌≢◌, ℕ, true, false, List, [], Option, Some, None, slice_get, refl, sym, ◌∙◌, ap, subst, inl, inr}
use Rattle.std.specs.Prelude.{is_some, if◌then◌else◌}
use Rattle.std.proofs.lemmas.Bool.{false≢true}
use Rattle.std.proofs.lemmas.Option.{none-some, same_Some}
use Rattle.flight_text.specs.declared.mark.Ref.{Ref}
use Rattle.flight_value.specs.declared.graph.Atom.{Atom}
use Rattle.flight_value.specs.declared.graph.Atom.TheVariants as atom
use Rattle.flight_value.specs.Store as store
use Rattle.flight_value.specs.Store.{Target as Aim}
use Rattle.flight_meaning.specs.declared.place.Place.{Place}
use Rattle.flight_meaning.specs.declared.place.Place.TheVariants as place
use Rattle.flight_meaning.specs.declared.place.PlacedRow.{PlacedRow}
use Rattle.flight_meaning.specs.Linked as linked
use Rattle.flight_meaning.specs.Linked.{rows_of, place_at}
use Rattle.flight_meaning.specs.Resolve.{Path, to, here, Found, found, not_yet, nowhere, Ends, Endless, LeadsNowhere}
use Rattle.flight_meaning.specs.Meaning.{Written, at_place, value_of, Identity, made_at, promise_of, action_of, pending, stand_of, Leads, LeadsHere, TokenLeads, Token, map_token, set_token, slots_in, slots_found, Reference, reference_of}
use Rattle.flight_meaning.specs.Good.{IsTokenDefined}
use Rattle.flight_place.specs.Parts.{IsTold}
use Rattle.flight_meaning.proofs.Walking.{one_end, not_endless, ends_back, turn_ends}
use Rattle.flight_meaning.proofs.Paths.{absent_turn}
use Rattle.flight_link.specs.declared.found.Spot.{Spot}
use Rattle.flight_link.specs.declared.node.Start.{Start}
use Rattle.flight_link.specs.declared.node.Start.TheVariants.{Id, Place as AtPlace}
use Rattle.flight_link.specs.declared.node.State.{State}
use Rattle.flight_link.specs.declared.node.State.TheVariants.{Absent, Ended, Lost, Behind}
use Rattle.flight_link.specs.declared.table.Table.{Table}
use Rattle.flight_link.specs.declared.target.Target.{Target}
use Rattle.flight_link.specs.declared.target.Target.TheVariants as target
use Rattle.flight_link.specs.Looking.{Awaits, AwaitsHere}
use Rattle.flight_link.specs.Least.{token_at}
use Rattle.flight_link.specs.Nodes.{IsPlain, IsTable, AreLinked, AreStates, IsNodeAt, HasBegun, place_in, spot_of, stand, last_names, with_path}
use Rattle.flight_link.specs.Nodes as nodes
use Rattle.flight_link.specs.Waiting.{IsResolved, WaitsFor, WaitsForever}
use Rattle.flight_link.specs.Targets.{IsTargetOf, IsTargetFrom, IsTargetBehind, written, token_place, IsMissing, missing_target, IsTokenIn}
use Rattle.flight_link.proofs.PlainRows.{row_there, place_there}
use Rattle.flight_link.proofs.Stepping.{at_all, stop_ends}
use Rattle.flight_link.proofs.Waits.{reaches_ends, ends_come, endless_come}
use Rattle.flight_link.proofs.Finds.{is_spot}
use Rattle.flight_link.proofs.Defined.{token_ended}

-- ---- where a slot's walk ends at a place

found_waits : (s : linked.Spot) (id : ℕ) (path : Path) → found s ≡ not_yet id path → ⊥
found_waits s id path e = cc

nowhere_waits : (id : ℕ) (path : Path) → nowhere ≡ not_yet id path → ⊥
nowhere_waits id path e = cc

nowhere_found : (s : linked.Spot) → nowhere ≡ found s → ⊥
nowhere_found s e = cc

same_spot : (s t : linked.Spot) → found s ≡ found t → s ≡ t
same_spot s t e = cc

pub leads_found : (rows : List PlacedRow) (w : Written) (s : linked.Spot) (at : Place) (x : Aim Identity) → Ends rows (stand_of w) (found s) → place_at rows s ≡ Some at → LeadsHere rows s (Some at) x → Leads rows w x
leads_found rows w s at x e is h = inl (found s, e, subst (λ o. LeadsHere rows s o x) (sym is) h)

pub not_awaited : (rows : List PlacedRow) (w : Written) (s : linked.Spot) (at : Place) → Ends rows (stand_of w) (found s) → place_at rows s ≡ Some at → ((id : ℕ) → AwaitsHere rows s at id → ⊥) → (id : ℕ) → Awaits rows w id → ⊥
not_awaited rows w s at e is none id (inl a) = found_waits s id a.0 (one_end rows (stand_of w) (found s) (not_yet id a.0) e a.1)
not_awaited rows w s at e is none id (inr a) =
    let spot = same_spot a.0 s (one_end rows (stand_of w) (found a.0) (found s) a.2 e) in
    let same : a.1 ≡ at = same_Some a.1 at (sym a.3 ∙ (ap (place_at rows) spot ∙ is)) in
    none id (subst (λ p. AwaitsHere rows s p id) same (subst (λ x. AwaitsHere rows x a.1 id) spot a.4))

pub awaited_here : (rows : List PlacedRow) (w : Written) (s : linked.Spot) (at : Place) (id : ℕ) → Ends rows (stand_of w) (found s) → place_at rows s ≡ Some at → AwaitsHere rows s at id → Awaits rows w id
awaited_here rows w s at id e is h = inr (s, at, e, is, h)

-- ---- where it ends at none

pub never_target : (rows : List PlacedRow) (w : Written) → LeadsNowhere rows (stand_of w) → IsTargetOf rows w target.Lost
never_target rows w (inl e) = (inl (nowhere, e, refl), none)
  where
    none : (id : ℕ) → Awaits rows w id → ⊥
    none id (inl a) = nowhere_waits id a.0 (one_end rows (stand_of w) nowhere (not_yet id a.0) e a.1)
    none id (inr a) = nowhere_found a.0 (one_end rows (stand_of w) nowhere (found a.0) e a.2)
never_target rows w (inr e) = (inr (e, refl), none)
  where
    none : (id : ℕ) → Awaits rows w id → ⊥
    none id (inl a) = not_endless rows (stand_of w) (not_yet id a.0) a.1 e
    none id (inr a) = not_endless rows (stand_of w) (found a.0) a.2 e

pub waits_target : (rows : List PlacedRow) (w : Written) (id : ℕ) (path : Path) → Ends rows (stand_of w) (not_yet id path) → IsTargetOf rows w (target.Awaits id)
waits_target rows w id path e = (inl (not_yet id path, e, refl), inl (path, e))

-- ---- by the node of a slot

pub written_stand : (rows : List PlacedRow) (start : Start) → stand_of (written rows start) ≡ stand rows start
written_stand rows (Id id) = refl
written_stand rows (AtPlace spot) = refl

with_none : (rows : List PlacedRow) (start : Start) → with_path (stand rows start) [] ≡ stand rows start
with_none rows (Id id) = refl
with_none rows (AtPlace spot) = refl

-- the walk of a node that has ended at a place
pub ended_target : (t : Table) (states : List State) (node : ℕ) (end : Spot) (x : Target) → AreLinked t states → slice_get states node ≡ Some (Ended end) → IsTargetFrom t.rows.items end x → IsTargetBehind t.rows.items t.starts.items node x
ended_target t states node end x linked e from start is =
    let b = linked.are_states.sound node start (Ended end) is e in
    from (written t.rows.items start) (subst (λ s. Ends t.rows.items s (found (spot_of t.rows.items end))) (sym (written_stand t.rows.items start))
    (ends_back t.rows.items (stand t.rows.items start) b.next b.is_next (found (spot_of t.rows.items end)) (reaches_ends t.rows.items b.next (found (spot_of t.rows.items end)) b.gets.0)))

pub ended_stop : (t : Table) (states : List State) (node : ℕ) (end : Spot) (start : Start) → AreLinked t states → slice_get states node ≡ Some (Ended end) → IsNodeAt t.starts.items node start → nodes.IsStop t.rows.items end
ended_stop t states node end start linked e is = (linked.are_states.sound node start (Ended end) is e).gets.1

pub lost_target : (t : Table) (states : List State) (node : ℕ) → AreLinked t states → slice_get states node ≡ Some Lost → IsTargetBehind t.rows.items t.starts.items node target.Lost
lost_target t states node linked e start is =
    let b = linked.are_states.sound node start Lost is e in
    never_target t.rows.items (written t.rows.items start) (subst (LeadsNowhere t.rows.items) (sym (written_stand t.rows.items start))
    (inl (ends_back t.rows.items (stand t.rows.items start) b.next b.is_next nowhere (reaches_ends t.rows.items b.next nowhere b.gets))))

pub awaiting_target : (t : Table) (node id : ℕ) → WaitsFor t node id → IsTargetBehind t.rows.items t.starts.items node (target.Awaits id)
awaiting_target t node id waits start is =
    let w = waits start is [] in
    waits_target t.rows.items (written t.rows.items start) id w.0 (subst (λ s. Ends t.rows.items s (not_yet id w.0)) (with_none t.rows.items start ∙ sym (written_stand t.rows.items start)) w.1)

pub ring_target : (t : Table) (node : ℕ) → WaitsForever t node → IsTargetBehind t.rows.items t.starts.items node target.Lost
ring_target t node waits start is =
    never_target t.rows.items (written t.rows.items start) (inr (subst (Endless t.rows.items) (with_none t.rows.items start ∙ sym (written_stand t.rows.items start)) (waits start is [])))

pub absent_target : (rows : List PlacedRow) (id : ℕ) → rows_of id rows ≡ [] → IsTargetOf rows (value_of id) (target.Awaits id)
absent_target rows id none = waits_target rows (value_of id) id [] (turn_ends rows (to id []) (not_yet id []) (absent_turn rows id [] none))

-- ---- what stands where a slot's walk ends

-- a place that is a node
abbrev pub IsNodePlace : Place → Type 0
IsNodePlace (place.Array numbers) = Unit {0}
IsNodePlace (place.Object props) = Unit {0}
IsNodePlace (place.Element tag key props) = Unit {0}
IsNodePlace at = ⊥

node_leads : (rows : List PlacedRow) (s : linked.Spot) (at : Place) → IsNodePlace at → LeadsHere rows s (Some at) (store.node_at (made_at s))
node_leads rows s (place.Array numbers) h = refl
node_leads rows s (place.Object props) h = refl
node_leads rows s (place.Element tag key props) h = refl
node_leads rows s at h = absurd h

pub node_target : (t : Table) (end : Spot) (at : Place) → IsTable t → place_in t.rows.items end ≡ Some at → IsNodePlace at → IsTargetFrom t.rows.items end (target.Node end)
node_target t end at table e is w ends = (
  spot_of t.rows.items end,
  is_spot t.rows.items end at table.plain e,
  leads_found t.rows.items w (spot_of t.rows.items end) at (store.node_at (made_at (spot_of t.rows.items end))) ends (place_there t.rows.items end at table.plain e) (node_leads t.rows.items (spot_of t.rows.items end) at is),
)

pub promise_target : (t : Table) (end : Spot) (id : ℕ) → IsTable t → place_in t.rows.items end ≡ Some (place.Promise id) → IsTargetFrom t.rows.items end (target.Promise id)
promise_target t end id table e w ends = leads_found t.rows.items w (spot_of t.rows.items end) (place.Promise id) (store.node_at (promise_of id)) ends (place_there t.rows.items end (place.Promise id) table.plain e) refl

-- ---- server references

some_of : {A : Type 0} (o : Option A) (x : A) → o ≡ Some x → is_some o ≡ true
some_of o x e = ap is_some e

none_of : {A : Type 0} (o : Option A) → ((x : A) × (o ≡ Some x) → ⊥) → is_some o ≡ false
none_of None f = refl
none_of (Some x) f = absurd (f (x, refl))

pub action_target : (t : Table) (end : Spot) (id : ℕ) → IsTable t → place_in t.rows.items end ≡ Some (place.Action id) → ((x : Reference) × (reference_of t.rows.items id ≡ Some x)) → IsTargetFrom t.rows.items end (target.Action id)
action_target t end id table e x w ends =
    leads_found t.rows.items w (spot_of t.rows.items end) (place.Action id) (store.node_at (action_of id)) ends (place_there t.rows.items end (place.Action id) table.plain e)
    (sym (ap (λ b. if b then store.node_at (action_of id) else pending) (some_of (reference_of t.rows.items id) x.0 x.1)))

action_pending : (t : Table) (end : Spot) (id : ℕ) (w : Written) → IsTable t → place_in t.rows.items end ≡ Some (place.Action id) → ((x : Reference) × (reference_of t.rows.items id ≡ Some x) → ⊥) → Ends t.rows.items (stand_of w) (found (spot_of t.rows.items end)) → Leads t.rows.items w pending
action_pending t end id w table e none ends =
    leads_found t.rows.items w (spot_of t.rows.items end) (place.Action id) pending ends (place_there t.rows.items end (place.Action id) table.plain e)
    (sym (ap (λ b. if b then store.node_at (action_of id) else pending) (none_of (reference_of t.rows.items id) none)))

pub no_action_target : (t : Table) (end : Spot) (id : ℕ) → IsTable t → place_in t.rows.items end ≡ Some (place.Action id) → ((x : Reference) × (reference_of t.rows.items id ≡ Some x) → ⊥) → rows_of id t.rows.items ≢ [] → IsTargetFrom t.rows.items end target.Lost
no_action_target t end id table e none row w ends = (
  action_pending t end id w table e none ends,
  not_awaited t.rows.items w (spot_of t.rows.items end) (place.Action id) ends (place_there t.rows.items end (place.Action id) table.plain e)
      (λ other h. row (subst (λ i. rows_of i t.rows.items ≡ []) (sym h.0) h.1)),
)

pub action_awaits : (t : Table) (end : Spot) (id : ℕ) → IsTable t → place_in t.rows.items end ≡ Some (place.Action id) → ((x : Reference) × (reference_of t.rows.items id ≡ Some x) → ⊥) → rows_of id t.rows.items ≡ [] → IsTargetFrom t.rows.items end (target.Awaits id)
action_awaits t end id table e none row w ends = (
  action_pending t end id w table e none ends,
  awaited_here t.rows.items w (spot_of t.rows.items end) (place.Action id) id ends (place_there t.rows.items end (place.Action id) table.plain e) (refl, row),
)

-- ---- Maps and Sets

token_leads : (rows : List PlacedRow) (k : Token) (s : linked.Spot) (r : Ref) (x : Aim Identity) → TokenLeads rows k s r x → LeadsHere rows s (Some (token_place k r)) x
token_leads rows map_token s r x h = h
token_leads rows set_token s r x h = h

token_awaits : (rows : List PlacedRow) (k : Token) (s : linked.Spot) (r : Ref) (id : ℕ) → (path : Path) × Ends rows (to r.id r.path) (not_yet id path) → AwaitsHere rows s (token_place k r) id
token_awaits rows map_token s r id h = h
token_awaits rows set_token s r id h = h

awaits_token : (rows : List PlacedRow) (k : Token) (s : linked.Spot) (r : Ref) (id : ℕ) → AwaitsHere rows s (token_place k r) id → (path : Path) × Ends rows (to r.id r.path) (not_yet id path)
awaits_token rows map_token s r id h = h
awaits_token rows set_token s r id h = h

-- slots are those of an array
slots_array : (k : Token) (rows : List PlacedRow) (s : linked.Spot) (o : Option Place) (slots : List Written) → slots_in k rows s o ≡ Some slots → (numbers : List ℕ) × (o ≡ Some (place.Array numbers))
slots_array map_token rows s (Some (place.Array numbers)) slots e = (numbers, refl)
slots_array set_token rows s (Some (place.Array numbers)) slots e = (numbers, refl)
slots_array map_token rows s o slots e = absurd (none-some slots e)
slots_array set_token rows s o slots e = absurd (none-some slots e)

token_pending : (rows : List PlacedRow) (k : Token) (w : Written) (s : linked.Spot) (r : Ref) → Ends rows (stand_of w) (found s) → place_at rows s ≡ Some (token_place k r) → (IsTokenDefined rows k r → ⊥) → Leads rows w pending
token_pending rows k w s r ends is never = leads_found rows w s (token_place k r) pending ends is (token_leads rows k s r pending (inr (inr (λ slots h. never (inl (slots, h)), λ digest h. never (inr (digest, h)), refl))))

-- a token whose reference comes to no end
pub token_missing : (t : Table) (k : Token) (end : Spot) (r : Ref) (o : Option ℕ) → IsTable t → place_in t.rows.items end ≡ Some (token_place k r) → (IsTokenDefined t.rows.items k r → ⊥) → IsMissing t.rows.items r.id r.path o → IsTargetFrom t.rows.items end (missing_target o)
token_missing t k end r (Some id) table e never m w ends = (
  token_pending t.rows.items k w (spot_of t.rows.items end) r ends (place_there t.rows.items end (token_place k r) table.plain e) never,
  awaited_here t.rows.items w (spot_of t.rows.items end) (token_place k r) id ends (place_there t.rows.items end (token_place k r) table.plain e) (token_awaits t.rows.items k (spot_of t.rows.items end) r id m),
)
token_missing t k end r None table e never m w ends = (
  token_pending t.rows.items k w (spot_of t.rows.items end) r ends (place_there t.rows.items end (token_place k r) table.plain e) never,
  not_awaited t.rows.items w (spot_of t.rows.items end) (token_place k r) ends (place_there t.rows.items end (token_place k r) table.plain e) (λ id h. none id (awaits_token t.rows.items k (spot_of t.rows.items end) r id h) m),
)
  where
    none : (id : ℕ) → (path : Path) × Ends t.rows.items (to r.id r.path) (not_yet id path) → LeadsNowhere t.rows.items (to r.id r.path) → ⊥
    none id h (inl n) = nowhere_waits id h.0 (one_end t.rows.items (to r.id r.path) nowhere (not_yet id h.0) n h.1)
    none id h (inr n) = not_endless t.rows.items (to r.id r.path) (not_yet id h.0) h.1 n

-- a token whose reference leads to what is neither entries nor a failure
pub token_lost : (t : Table) (states : List State) (k : Token) (end spot : Spot) (r : Ref) → IsTable t → place_in t.rows.items end ≡ Some (token_place k r) → IsResolved t states r.id r.path (Ended spot) → token_at k t.rows.items spot ≡ false → IsTargetFrom t.rows.items end target.Lost
token_lost t states k end spot r table e h other w ends = (
  token_pending t.rows.items k w (spot_of t.rows.items end) r ends (place_there t.rows.items end (token_place k r) table.plain e) (λ d. false≢true (sym other ∙ (token_ended t states k r spot table h).1 d)),
  not_awaited t.rows.items w (spot_of t.rows.items end) (token_place k r) ends (place_there t.rows.items end (token_place k r) table.plain e)
      (λ id x. let y = awaits_token t.rows.items k (spot_of t.rows.items end) r id x in found_waits (spot_of t.rows.items spot) id y.0 (one_end t.rows.items (to r.id r.path) (found (spot_of t.rows.items spot)) (not_yet id y.0) h.0 y.1)),
)

-- a token whose reference leads to its entries, or to a failure
pub token_stands : (t : Table) (states : List State) (k : Token) (end spot : Spot) (r : Ref) (x : Target) → IsTable t → place_in t.rows.items end ≡ Some (token_place k r) → IsResolved t states r.id r.path (Ended spot) → token_at k t.rows.items spot ≡ true → IsTokenIn end (place_in t.rows.items spot) x → IsTargetFrom t.rows.items end x
token_stands t states k end spot r x table e h there is w ends = go ((token_ended t states k r spot table h).0 there)
  where
    stands : place_at t.rows.items (spot_of t.rows.items end) ≡ Some (token_place k r)
    stands = place_there t.rows.items end (token_place k r) table.plain e

    entries : place_at t.rows.items (spot_of t.rows.items spot) ≡ place_in t.rows.items spot
    entries = place_there t.rows.items spot h.1.0 table.plain h.1.1 ∙ sym h.1.1

    node_there : IsTargetOf t.rows.items w (target.Node end) → (numbers : List ℕ) × (place_in t.rows.items spot ≡ Some (place.Array numbers)) → IsTargetOf t.rows.items w x
    node_there n a = subst (IsTargetOf t.rows.items w) (sym (subst (λ o. IsTokenIn end o x) a.1 is)) n

    failed : (digest : List ℕ) (y : Target) → IsTokenIn end (Some (place.Atom (atom.Failed digest))) y → Leads t.rows.items w (store.atom (atom.Failed digest)) → IsTargetOf t.rows.items w y
    failed digest (target.Atom a) i leads = (subst (λ v. Leads t.rows.items w (store.atom v)) (sym i) leads, λ pends. let bad = sym i ∙ pends in cc)
    failed digest y i leads = absurd i

    spot_same : (s : linked.Spot) → Ends t.rows.items (to r.id r.path) (found s) → s ≡ spot_of t.rows.items spot
    spot_same s at = same_spot s (spot_of t.rows.items spot) (one_end t.rows.items (to r.id r.path) (found s) (found (spot_of t.rows.items spot)) at h.0)

    array_at : (f : Found) (slots : List Written) → found (spot_of t.rows.items spot) ≡ f → slots_found k t.rows.items f ≡ Some slots → (numbers : List ℕ) × (place_in t.rows.items spot ≡ Some (place.Array numbers))
    array_at f slots same s =
        let a = slots_array k t.rows.items (spot_of t.rows.items spot) (place_at t.rows.items (spot_of t.rows.items spot)) slots (ap (slots_found k t.rows.items) same ∙ s) in
        (a.0, sym entries ∙ a.1)

    go : IsTokenDefined t.rows.items k r → IsTargetOf t.rows.items w x
    go (inl d) =
        node_there (
          spot_of t.rows.items end,
          is_spot t.rows.items end (token_place k r) table.plain e,
          leads_found t.rows.items w (spot_of t.rows.items end) (token_place k r) (store.node_at (made_at (spot_of t.rows.items end))) ends stands (token_leads t.rows.items k (spot_of t.rows.items end) r (store.node_at (made_at (spot_of t.rows.items end))) (inl (d.0, d.1, refl))),
        ) (array_at d.1.0 d.0 (one_end t.rows.items (to r.id r.path) (found (spot_of t.rows.items spot)) d.1.0 h.0 d.1.1) d.1.2)
    go (inr d) =
        let failure : place_in t.rows.items spot ≡ Some (place.Atom (atom.Failed d.0)) = sym entries ∙ (ap (place_at t.rows.items) (sym (spot_same d.1.0 d.1.1)) ∙ d.1.2) in
        failed d.0 x (subst (λ o. IsTokenIn end o x) failure is)
        (leads_found t.rows.items w (spot_of t.rows.items end) (token_place k r) (store.atom (atom.Failed d.0)) ends stands (token_leads t.rows.items k (spot_of t.rows.items end) r (store.atom (atom.Failed d.0)) (inr (inl (d.0, d.1, refl)))))

-- ---- the id that is wanting

pub missing_absent : (t : Table) (states : List State) (id : ℕ) (names : Path) → IsResolved t states id names Absent → IsMissing t.rows.items id names (Some id)
missing_absent t states id names h = (names, turn_ends t.rows.items (to id names) (not_yet id names) (absent_turn t.rows.items id names h))

pub missing_waits : (t : Table) (states : List State) (id : ℕ) (names : Path) (node left wanting : ℕ) → IsResolved t states id names (Behind node left) → WaitsFor t node wanting → IsMissing t.rows.items id names (Some wanting)
missing_waits t states id names node left wanting h waits =
    let w = waits h.0.other h.0.is_other (last_names left names) in
    (w.0, ends_come t.rows.items (to id names) (with_path (stand t.rows.items h.0.other) (last_names left names)) (not_yet wanting w.0) h.0.come w.1)

pub missing_ring : (t : Table) (states : List State) (id : ℕ) (names : Path) (node left : ℕ) → IsResolved t states id names (Behind node left) → WaitsForever t node → IsMissing t.rows.items id names None
missing_ring t states id names node left h waits = inr (endless_come t.rows.items (to id names) (with_path (stand t.rows.items h.0.other) (last_names left names)) h.0.come (waits h.0.other h.0.is_other (last_names left names)))

-- ---- by the place of a slot

pub indexed : (t : Table) (s : Spot) (at : Place) (n : ℕ) → IsTable t → place_in t.rows.items s ≡ Some at → nodes.node_in t.index.items s ≡ Some n → IsNodeAt t.starts.items n (AtPlace s)
indexed t s at n table e is = go (nodes.followed at) (subst (nodes.IsIndexed t.starts.items s (nodes.followed at)) is (table.indexed s at e))
  where
    go : (w : Option (ℕ × Path)) → nodes.IsIndexed t.starts.items s w (Some n) → IsNodeAt t.starts.items n (AtPlace s)
    go (Some way) h = h
    go None h = absurd h

pub not_indexed : (t : Table) (s : Spot) (at : Place) → IsTable t → place_in t.rows.items s ≡ Some at → nodes.node_in t.index.items s ≡ None → nodes.IsStop t.rows.items s
not_indexed t s at table e is = (at, e, go (nodes.followed at) (subst (nodes.IsIndexed t.starts.items s (nodes.followed at)) is (table.indexed s at e)))
  where
    go : (w : Option (ℕ × Path)) → nodes.IsIndexed t.starts.items s w None → w ≡ None
    go (Some way) h = absurd h
    go None h = refl

pub stop_target : (t : Table) (s : Spot) (x : Target) → IsTable t → nodes.IsStop t.rows.items s → IsTargetFrom t.rows.items s x → IsTargetOf t.rows.items (at_place (spot_of t.rows.items s)) x
stop_target t s x table stop from = from (at_place (spot_of t.rows.items s)) (turn_ends t.rows.items (here (spot_of t.rows.items s) []) (found (spot_of t.rows.items s)) (stop_ends t.rows.items s table.plain stop))

-- an atom that stands at a place is known
pub told_at : (t : Table) (s : Spot) (at : Place) → IsTable t → place_in t.rows.items s ≡ Some at → IsTold at
told_at t s at table e =
    let h = row_there t.rows.items s at e in
    at_all IsTold h.0.tree.places s.place at ((at_all nodes.IsFine t.rows.items s.row h.0 table.fine h.1).told) h.2

pub atom_leads : (t : Table) (end : Spot) (value : Atom) → IsTable t → place_in t.rows.items end ≡ Some (place.Atom value) → (w : Written) → Ends t.rows.items (stand_of w) (found (spot_of t.rows.items end)) → Leads t.rows.items w (store.atom value) × (value ≢ atom.Pending)
atom_leads t end value table e w ends = (
  leads_found t.rows.items w (spot_of t.rows.items end) (place.Atom value) (store.atom value) ends (place_there t.rows.items end (place.Atom value) table.plain e) refl,
  told_at t end (place.Atom value) table e,
)
