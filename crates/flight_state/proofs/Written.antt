-- What a writer has written is written in the state behind its step.
use Rattle.std.proofs.Common.{◌≡◌, ℕ, inl, List, [], Option, Some, None, refl, sym, ap, ◌∙◌, subst}
use Rattle.std.proofs.lemmas.Option.{none-some}
use Rattle.flight_value.specs.Store as store
use Rattle.flight_value.specs.Store.{Shape, Label, Target, TargetsFit, Paired}
use Rattle.flight_value.specs.declared.graph.Atom.{Atom}
use Rattle.flight_value.specs.declared.graph.Atom.TheVariants as atom
use Rattle.flight_value.specs.declared.key.Key.{Key}
use Rattle.flight_value.specs.declared.key.Key.TheVariants as key
use Rattle.flight_text.specs.declared.mark.Ref.{Ref}
use Rattle.flight_render.specs.declared.root.Ground.{Ground}
use Rattle.flight_render.specs.Jobs.{element, Value}
use Rattle.flight_value.specs.Listed.{In}
use Rattle.flight_render.specs.Attempt.{job_for}
use Rattle.flight_render.specs.Laws.{IsLasting}
use Rattle.flight_meaning.specs.declared.place.Place.{Place}
use Rattle.flight_meaning.specs.declared.place.Place.TheVariants as place
use Rattle.flight_meaning.specs.declared.place.PlacedRow.{PlacedRow}
use Rattle.flight_meaning.specs.Linked.{Spot, place_at, first_place}
use Rattle.flight_meaning.specs.Resolve.{Stand, to, here, Found, found, Turn, on, ends, turn, go_to, Ends, IsEnd}
use Rattle.flight_meaning.specs.Resolve as resolve
use Rattle.flight_meaning.specs.Meaning as wire
use Rattle.flight_meaning.specs.Meaning.{Written, at_place, Identity, made_at, promise_of, stream_of, action_of, HasShape}
use Rattle.flight_meaning.proofs.Walking.{turn_ends}
use Rattle.flight_state.specs.State.{State, stream_for}
use Rattle.flight_state.specs.Fits.{IsAtomRow, RowAt}
use Rattle.flight_state.specs.Emits.{IsWritten, as_itself, as_task, as_given, MeantBy, by_place, by_row, by_task, NewHome}
use Rattle.flight_state.specs.Local as local
use Rattle.flight_state.specs.Local.{Seen, IsSeen, job_seen, shape_seen, value_seen, Met, Homes, Births, NamesAt, Names, RefersBy, IsAtomOf, WrittenHere, MeantHere, NodeHere, StreamHere, TaskHere, HomeHere, MetBy, TablesHere, IsFresh, IsNewHome, IsOnce, IsRowKey, IsNodeKey, IsOwnRow, AddsHere, Shows, TiedTo, Tied, id_of, Below, Adopts}
use Rattle.flight_state.proofs.Lists.{zip-map}
use Rattle.flight_state.proofs.Joined.{value_same, job_shown, shape_shown, same_atom, atom_no_job, stream_no_job, element_alone, IsStanding, standing_by, refers_turn, leads_to_row, refers_lead, names_one}
use Rattle.flight_state.proofs.Lift.{Lifting, atom_row_new, born_new, born_task, new_home, node_here, node_key, row_at, shape_new, shows_new, stands_at, stream_stands, value_row_new}

-- ---- what is written

pub atom_leads : (rows : List PlacedRow) (s : Spot) (a : Atom) → place_at rows s ≡ Some (place.Atom a) → wire.IsTarget rows (found s) (store.atom a)
atom_leads rows s a h = subst (λ o. wire.LeadsHere rows s o (store.atom a)) (sym h) refl

pub atom_of_row : (g : Ground) (st : State) (k : Key) (id : ℕ) (a : Atom) → IsAtomOf g k a → RowAt g st k id → IsAtomRow st.rows id a
atom_of_row g st (key.Client c) id a e r = subst (IsAtomRow st.rows id) (sym e) r
atom_of_row g st (key.Symbol n) id a e r = subst (IsAtomRow st.rows id) (sym e) r
atom_of_row g st (key.Made n) id a e r = absurd e
atom_of_row g st (key.Source n m) id a e r = absurd e
atom_of_row g st (key.Settled n) id a e r = absurd e
atom_of_row g st (key.Stream n) id a e r = absurd e
atom_of_row g st (key.Action n) id a e r = absurd e
atom_of_row g st (key.Server n) id a e r = absurd e

pub IsToldAtom : Atom → Type 0
IsToldAtom atom.Pending = ⊥
IsToldAtom a = Unit {0}

pub told : (g : Ground) (k : Key) (a : Atom) → IsAtomOf g k a → IsRowKey k × ¬ (a ≡ atom.Pending)
unfolding IsToldAtom
told g (key.Client c) a e = (tt, λ q. subst IsToldAtom (sym e ∙ q) tt)
told g (key.Symbol n) a e = (tt, λ q. subst IsToldAtom (sym e ∙ q) tt)
told g (key.Made n) a e = absurd e
told g (key.Source n m) a e = absurd e
told g (key.Settled n) a e = absurd e
told g (key.Stream n) a e = absurd e
told g (key.Action n) a e = absurd e
told g (key.Server n) a e = absurd e

pub IsNodeTarget : Target Key → Type 0
IsNodeTarget (store.node_at k) = Unit {0}
IsNodeTarget (store.atom a) = ⊥

abbrev key_node : Key → Target Key
key_node k = store.node_at k

pub node_sure : (k : Key) → key_node k ≡ store.atom atom.Pending → ⊥
unfolding IsNodeTarget
node_sure k e = absurd (subst IsNodeTarget e tt)

abbrev key_atom : Atom → Target Key
key_atom a = store.atom a

pub atom_sure : (a : Atom) → ¬ (a ≡ atom.Pending) → ¬ (key_atom a ≡ store.atom atom.Pending)
atom_sure a sure e = sure (same_atom a atom.Pending e)

pub written : (w : Lifting) (o : Option Spot) (s : Spot) (at : Place) (v : Value) → ((t : Spot) → o ≡ Some t → t ≡ s) → place_at w.new.rows s ≡ Some at → WrittenHere w.g w.seen w.behind w.local.more w.rows o at v → IsWritten w.g w.new s v
written w o s at v same h (local.an_atom a e is sure) =
    let here' : place_at w.new.rows s ≡ Some (place.Atom a) = h ∙ ap Some e in
    as_itself (store.atom a) (store.atom a) (atom_no_job w.g w.new.settled v a is sure) (sym is) (atom_sure a sure)
    (inl (found s, turn_ends w.new.rows (here s []) (found s) (ap (λ o. resolve.go_from s o []) here'), atom_leads w.new.rows s a here')) refl
written w o s at v same h (local.an_atom_row a id refers is_row is sure) =
    let r = atom_row_new w id a is_row in
    as_itself (store.atom a) (store.atom a) (atom_no_job w.g w.new.settled v a is sure) (sym is) (atom_sure a sure)
    (leads_to_row w.new.rows s id (found (first_place id)) (store.atom a) (refers_turn w.new.rows s at id h refers) r.0 (atom_leads w.new.rows (first_place id) a r.1)) refl
written w o s at v same h (local.a_known_atom a k r refers i is_atom is) =
    let t = told w.g k a is_atom in
    let x = atom_of_row w.g w.new k r.id a is_atom (row_at w k r t.0 i) in
    as_itself (store.atom a) (store.atom a) (atom_no_job w.g w.new.settled v a is t.1) (sym is) (atom_sure a t.1)
    (leads_to_row w.new.rows s r.id (found (first_place r.id)) (store.atom a) (refers_turn w.new.rows s at r.id h refers) x.0 (atom_leads w.new.rows (first_place r.id) a x.1)) refl
written w o s at v same h (local.its_home k r spot is_spot x none is lasting i names0) = by (names_node k names)
  where
    names : Names w.g w.seen w.rows k r (made_at s)
    names = subst (λ z. Names w.g w.seen w.rows k r (made_at z)) (same spot is_spot) names0

    names_node : (k : Key) → Names w.g w.seen w.rows k r (made_at s) → IsNodeKey k
    names_node (key.Client n) q = none-some q.0 q.1
    names_node (key.Symbol n) q = none-some q.0 q.1
    names_node (key.Server n) q = none-some q.0 q.1
    names_node (key.Made n) q = tt
    names_node (key.Source a n) q = tt
    names_node (key.Settled n) q = tt
    names_node (key.Stream n) q = tt
    names_node (key.Action n) q = tt

    by : IsNodeKey k → IsWritten w.g w.new s v
    by node =
        let n = node_here w k r lasting node i in
        let same_id : n.identity ≡ made_at s = names_one w.g w.seen w.rows k r n.identity (made_at s) n.names names in
        let standing : IsStanding w.new.rows (made_at s) = subst (IsStanding w.new.rows) same_id (standing_by w.new.rows n.identity n.there n.lone (shape_new w n.identity n.there n.lone n.is_there)) in
        let stops : Ends w.new.rows (here s []) (found s) = home_ends (place_at w.new.rows s) refl standing in
        as_itself (store.node_at k) (store.node_at (made_at s)) (job_shown w.g w.new.settled w.seen (shows_new w) v x ∙ none) (sym is) (node_sure k) (inl (found s, stops, standing))
        (new_home w k (made_at s) (w.adopts.onto k r (made_at s) node i names))
      where
        home_ends : (o : Option Place) → place_at w.new.rows s ≡ o → wire.LeadsHere w.new.rows s o (store.node_at (made_at s)) → Ends w.new.rows (here s []) (found s)
        home_ends o e l = turn_ends w.new.rows (here s []) (found s) (ap (λ z. resolve.go_from s z []) e ∙ go o l)
          where
            IsPendingTarget : Target Identity → Type 0
            IsPendingTarget (store.atom a) = Unit {0}
            IsPendingTarget (store.node_at j) = ⊥

            no : store.node_at (made_at s) ≡ wire.pending → ⊥
            no q = subst IsPendingTarget (sym q) tt

            go : (o : Option Place) → wire.LeadsHere w.new.rows s o (store.node_at (made_at s)) → resolve.go_from s o [] ≡ ends (found s)
            go None l = absurd (no l)
            go (Some (place.Lazy a)) l = absurd (no l)
            go (Some (place.Value a)) l = absurd (no l)
            go (Some (place.Atom a)) l = refl
            go (Some (place.Array a)) l = refl
            go (Some (place.Object a)) l = refl
            go (Some (place.Element a b c)) l = refl
            go (Some (place.Promise a)) l = refl
            go (Some (place.Map a)) l = refl
            go (Some (place.Set a)) l = refl
            go (Some (place.Action a)) l = refl
written w o s at v same h (local.a_reference k r shape x none is lasting i is_shape refers) =
    let st = stands_at w k r shape lasting (node_key w.g w.seen k shape is_shape) is_shape i in
    as_itself (store.node_at k) (store.node_at st.identity) (job_shown w.g w.new.settled w.seen (shows_new w) v x ∙ none) (sym is) (node_sure k)
    (refers_lead shape.label w.new.rows s at r st.identity h refers st.names st.standing) st.is_home
written w o s at v same h (local.a_stream n r is i refers) =
    let st = stream_stands w n r i in
    as_itself (store.node_at (key.Stream n)) (store.node_at (stream_of r.id)) (stream_no_job w.g w.new.settled v n is) (sym is) (node_sure (key.Stream n))
    (leads_to_row w.new.rows s r.id (resolve.stream r.id) (store.node_at (stream_of r.id)) (refers_turn w.new.rows s at r.id h refers) (turn_ends w.new.rows (to r.id []) (resolve.stream r.id) st.1) refl) st.0
written w o s at v same h (local.a_task n r x is i refers) =
    let t = row_at w (key.Server n) r tt i in
    as_task t.0 t.1 (element_alone w.g t.0.what n t.3) (job_shown w.g w.new.settled w.seen (shows_new w) v x ∙ (is ∙ ap Some (sym t.3)))
    (refers_turn w.new.rows s at r.id h refers ∙ ap (λ z. on (to z [])) (sym t.2))
written w o s at v same h (local.what_is_given n end x is given inside) =
    as_given (element n) end (job_shown w.g w.new.settled w.seen (shows_new w) v x ∙ is) ((shows_new w).ends n end given) (w.adopts.given_counted n end given)
    (subst (IsWritten w.g w.new s) (value_same w.g [] w.new.settled (element n) end) (written w o s at (value_seen w.g w.seen (element n) end) same h inside))

pub meant_by : (w : Lifting) (v : Value) (m : Written) → MeantHere w.g w.seen w.rows w.births w.meant v m → MeantBy w.g w.new w.all v m
meant_by w v _ (local.at_spot s i) = by_place s (w.among s v i)
meant_by w v _ (local.at_row id is_row i) = by_row id (value_row_new w id is_row) (w.among (first_place id) v i)
meant_by w v _ (local.at_birth id what i alone x is) =
    let u = born_task w id what i in
    subst (λ z. MeantBy w.g w.new w.all v (wire.value_of z)) u.2
    (by_task u.0 (born_new w u.0 u.1) (ap stream_for u.3 ∙ alone) (job_shown w.g w.new.settled w.seen (shows_new w) v x ∙ (is ∙ ap (λ z. Some (job_for w.g z)) (sym u.3))))

pub lasting_node : (w : Lifting) (k : Key) (i : Identity) → IsLasting k → IsNodeKey k → (a : Ref) → In (k, a) w.local.more → Names w.g w.seen w.rows k a i → NewHome w.g w.new w.all k i
lasting_node w k i lasting node a among names =
    let x = node_here w k a lasting node among in
    let same : x.identity ≡ i = names_one w.g w.seen w.rows k a x.identity i x.names names in
    subst (NewHome w.g w.new w.all k) same
    (record {
      lone = x.lone;
      here = x.here;
      there = x.there;
      is_here = shape_shown w.g w.new.settled w.seen (shows_new w) k x.here lasting x.is_here;
      is_there = shape_new w x.identity x.there x.lone x.is_there;
      labels = x.labels;
      slots = zip-map (MeantHere w.g w.seen w.rows w.births w.meant) (MeantBy w.g w.new w.all) (meant_by w) x.here.slots x.there.slots x.slots;
    })
