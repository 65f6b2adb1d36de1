-- Lemmas that join what a writer sees and names to a state.
use Rattle.std.proofs.Common.{◌≡◌, ℕ, zero, suc, Bool, true, false, cond, is_some, ◌⊎◌, inl, inr, ⊎_elim, List, [], ◌∷◌, ◌++◌, map, Option, Some, None, option_and_then, refl, sym, ap, ◌∙◌, subst, append-nil}
use Rattle.std.proofs.lemmas.Option.{none-some, same_Some}
use Rattle.std.specs.Prelude.{slice_get, slice_set}
use Rattle.flight_value.specs.Store as store
use Rattle.flight_value.specs.Store.{Shape, Label, Target, Paired}
use Rattle.flight_value.specs.declared.graph.Atom.{Atom}
use Rattle.flight_value.specs.declared.graph.Atom.TheVariants as atom
use Rattle.flight_value.specs.declared.key.Key.{Key}
use Rattle.flight_value.specs.declared.key.Key.TheVariants as key
use Rattle.flight_value.specs.declared.made.Made.{Made}
use Rattle.flight_value.specs.declared.made.Tree.TheVariants as tree
use Rattle.flight_syntax.specs.declared.script.Flowing.{Flowing}
use Rattle.flight_text.specs.declared.mark.Ref.{Ref}
use Rattle.flight_render.specs.declared.root.Ground.{Ground}
use Rattle.flight_render.specs.declared.job.What.{What}
use Rattle.flight_render.specs.declared.job.What.TheVariants as what
use Rattle.flight_render.specs.Run.{gave, threw, waits, End}
use Rattle.flight_render.specs.Bodies.{node_at}
use Rattle.flight_render.specs.Jobs.{Job, element, Value, shown, of_job, failed, stopped, is_server, job_of, value_of, target_of}
use Rattle.flight_render.specs.Plain.{NodeIs, made_shape, last_job}
use Rattle.flight_state.proofs.Lists.{in_either, at_in}
use Rattle.std.proofs.lemmas.Bool.{false≢true}
use Rattle.flight_value.specs.Listed.{In, Distinct}
use Rattle.flight_render.specs.Costs.{Reached, through, in_slot}
use Rattle.flight_render.specs.Attempt.{source_job, item_job, end_job, job_for}
use Rattle.flight_render.specs.Laws.{IsLasting}
use Rattle.flight_meaning.specs.declared.place.Place.{Place}
use Rattle.flight_meaning.specs.declared.place.Place.TheVariants as place
use Rattle.flight_meaning.specs.declared.place.PlacedRow.{PlacedRow}
use Rattle.flight_meaning.specs.Linked.{Spot, place_at}
use Rattle.flight_meaning.specs.Resolve.{Stand, to, here, Found, found, Turn, on, ends, turn, go_to, go_from, Ends}
use Rattle.flight_meaning.specs.Resolve as resolve
use Rattle.flight_meaning.specs.Meaning as wire
use Rattle.flight_meaning.specs.Meaning.{Written, at_place, Identity, made_at, promise_of, stream_of, action_of, Reference, reference_of, action_shape, HasShapeHere, HasShape}
use Rattle.flight_meaning.proofs.Walking.{ends_back, turn_ends, one_end}
use Rattle.flight_state.specs.State.{Task, IsAlone, owns_id, own_ids}
use Rattle.flight_state.specs.Spells.{IsLone}
use Rattle.flight_state.specs.Steps.{RefersTo}
use Rattle.flight_state.specs.Local as local
use Rattle.flight_state.specs.Local.{Seen, IsSeen, job_seen, shape_seen, value_seen, Met, NamesAt, Names, RefersBy, Shows}
use Rattle.flight_state.proofs.Owned.{Owns, id_in, distinct_rest}

-- ---- what is seen is so in sequential rendering

pub value_same : (g : Ground) (s t : List Bool) (j : Job) (h : End) → value_of g s j h ≡ value_of g t j h
value_same g s t j (gave x) = refl
value_same g s t j (threw d) = refl
value_same g s t j (waits i) = refl

pub job_shown : (g : Ground) (s : List Bool) (seen : Seen) → Shows g s seen → (v : Value) → IsSeen seen v → job_of g s v ≡ job_seen seen v
job_shown g s seen sh (shown (tree.Made n)) x = ap (λ o. cond (is_server o) (Some (element n)) None) (sh.nodes n x.0 x.1 ∙ sym x.1)
job_shown g s seen sh (shown (tree.Atom a)) x = refl
job_shown g s seen sh (shown (tree.FromSource a n)) x = refl
job_shown g s seen sh (shown (tree.Promise a)) x = refl
job_shown g s seen sh (shown (tree.Stream a)) x = refl
job_shown g s seen sh (shown (tree.Action a)) x = refl
job_shown g s seen sh (of_job j) x = refl
job_shown g s seen sh (failed d) x = refl
job_shown g s seen sh (stopped i) x = refl

pub shape_shown : (g : Ground) (s : List Bool) (seen : Seen) → Shows g s seen → (k : Key) (shape : Shape Value) → IsLasting k → shape_seen g seen k ≡ Some shape → NodeIs g s k shape
shape_shown g s seen sh (key.Made n) shape lasting h = go (seen.look n) refl h
  where
    go : (o : Option Made) → seen.look n ≡ o → option_and_then (made_shape g) o ≡ Some shape → option_and_then (made_shape g) (node_at g s n) ≡ Some shape
    go None e x = absurd (none-some shape x)
    go (Some m) e x = ap (option_and_then (made_shape g)) (sh.nodes n m e) ∙ x
shape_shown g s seen sh (key.Source a n) shape lasting h = h
shape_shown g s seen sh (key.Settled a) shape lasting h = h
shape_shown g s seen sh (key.Stream a) shape lasting h = absurd lasting
shape_shown g s seen sh (key.Action a) shape lasting h = h
shape_shown g s seen sh (key.Client a) shape lasting h = h
shape_shown g s seen sh (key.Symbol a) shape lasting h = h
shape_shown g s seen sh (key.Server a) shape lasting h = h

-- what is met is reached
pub met_reached : (g : Ground) (s : List Bool) (seen : Seen) → Shows g s seen → (first : Value) → Reached g s first → (v : Value) → Met g seen first v → Reached g s v
met_reached g s seen sh first r _ local.at_first = r
met_reached g s seen sh first r _ (local.in_slot {v = v} {k = k} {shape = shape} m x none is lasting at among) =
    in_slot (met_reached g s seen sh first r v m) (job_shown g s seen sh v x ∙ none) (sym is) (shape_shown g s seen sh k shape lasting at) among
met_reached g s seen sh first r _ (local.in_place {v = v} n end m x is given) =
    subst (Reached g s) (value_same g s [] (element n) end) (through (met_reached g s seen sh first r v m) (job_shown g s seen sh v x ∙ is) (sh.ends n end given))

-- ---- values that are no jobs

IsPending : Target Key → Type 0
IsPending (store.atom atom.Pending) = Unit {0}
IsPending t = ⊥

IsNode : Target Key → Type 0
IsNode (store.node_at k) = Unit {0}
IsNode (store.atom a) = ⊥

IsStream : Target Key → Type 0
IsStream (store.node_at (key.Stream n)) = Unit {0}
IsStream t = ⊥

atom_or : Target Key → Atom → Atom
atom_or (store.atom a) d = a
atom_or (store.node_at k) d = d

abbrev key_atom : Atom → Target Key
key_atom a = store.atom a

pub same_atom : (a b : Atom) → key_atom a ≡ key_atom b → a ≡ b
unfolding atom_or
same_atom a b e = ap (λ z. atom_or z a) e

pub atom_no_job : (g : Ground) (s : List Bool) (v : Value) (a : Atom) → target_of v ≡ key_atom a → ¬ (a ≡ atom.Pending) → job_of g s v ≡ None
unfolding IsNode
atom_no_job g s (shown (tree.Made n)) a e sure = absurd (subst IsNode e tt)
atom_no_job g s (shown (tree.Atom x)) a e sure = refl
atom_no_job g s (shown (tree.FromSource x n)) a e sure = refl
atom_no_job g s (shown (tree.Promise x)) a e sure = refl
atom_no_job g s (shown (tree.Stream x)) a e sure = refl
atom_no_job g s (shown (tree.Action x)) a e sure = refl
atom_no_job g s (of_job j) a e sure = absurd (sure (sym (same_atom atom.Pending a e)))
atom_no_job g s (failed d) a e sure = refl
atom_no_job g s (stopped i) a e sure = refl

pub stream_no_job : (g : Ground) (s : List Bool) (v : Value) (n : ℕ) → target_of v ≡ store.node_at (key.Stream n) → job_of g s v ≡ None
unfolding IsStream
stream_no_job g s (shown (tree.Made m)) n e = absurd (subst IsStream (sym e) tt)
stream_no_job g s (shown (tree.Atom x)) n e = refl
stream_no_job g s (shown (tree.FromSource x m)) n e = refl
stream_no_job g s (shown (tree.Promise x)) n e = refl
stream_no_job g s (shown (tree.Stream x)) n e = refl
stream_no_job g s (shown (tree.Action x)) n e = refl
stream_no_job g s (of_job j) n e = absurd (subst IsStream (sym e) tt)
stream_no_job g s (failed d) n e = refl
stream_no_job g s (stopped i) n e = refl

IsElementJob : Job → Type 0
IsElementJob (element n) = Unit {0}
IsElementJob j = ⊥

-- a task for a server element has a row of its own
pub element_alone : (g : Ground) (w : What) (n : _) → job_for g w ≡ element n → IsAlone w
unfolding IsElementJob
element_alone g what.Root n e = refl
element_alone g (what.Element m ts) n e = refl
element_alone g (what.Promise a) n e = refl
element_alone g (what.Known a) n e = refl
element_alone g (what.Item stream index) n e = absurd (go (slice_get g.script.streams stream) e)
  where
    by : (o : Option ℕ) → source_job o ≡ element n → ⊥
    by None x = subst IsElementJob (sym x) tt
    by (Some i) x = subst IsElementJob (sym x) tt

    go : (o : Option Flowing) → item_job o index ≡ element n → ⊥
    go None x = subst IsElementJob (sym x) tt
    go (Some f) x = by (slice_get f.items index) x
element_alone g (what.Last stream) n e = absurd (go (slice_get g.script.streams stream) e)
  where
    by : (o : Option ℕ) → last_job o ≡ element n → ⊥
    by None x = subst IsElementJob (sym x) tt
    by (Some i) x = subst IsElementJob (sym x) tt

    go : (o : Option Flowing) → end_job o ≡ element n → ⊥
    go None x = subst IsElementJob (sym x) tt
    go (Some f) x = by f.last x

-- ---- what a reference names

-- what stands under an identity is a node
abbrev pub IsStanding : List PlacedRow → Identity → Type 0
IsStanding rows (made_at s) = wire.LeadsHere rows s (place_at rows s) (store.node_at (made_at s))
IsStanding rows (promise_of id) = Unit {0}
IsStanding rows (stream_of id) = turn rows (to id []) ≡ ends (resolve.stream id)
IsStanding rows (action_of id) = (r : Reference) × (reference_of rows id ≡ Some r)

pub standing_by : (rows : List PlacedRow) (i : Identity) (shape : Shape Written) → IsLone i → HasShape rows i shape → IsStanding rows i
standing_by rows (stream_of id) shape lone h = absurd lone
standing_by rows (promise_of id) shape lone h = tt
standing_by rows (action_of id) shape lone h = go (reference_of rows id) refl h
  where
    go : (o : Option Reference) → reference_of rows id ≡ o → action_shape o ≡ Some shape → (r : Reference) × (reference_of rows id ≡ Some r)
    go None e x = absurd (none-some shape x)
    go (Some r) e x = (r, e)
standing_by rows (made_at s) shape lone h = go (place_at rows s) h
  where
    go : (o : Option Place) → HasShapeHere rows s o shape → wire.LeadsHere rows s o (store.node_at (made_at s))
    go None x = absurd (none-some shape x)
    go (Some (place.Map r)) x = inl (x.0, x.1, refl)
    go (Some (place.Set r)) x = inl (x.0, x.1, refl)
    go (Some (place.Array ns)) x = refl
    go (Some (place.Object ps)) x = refl
    go (Some (place.Element a b c)) x = refl
    go (Some (place.Atom a)) x = absurd (none-some shape x)
    go (Some (place.Lazy a)) x = absurd (none-some shape x)
    go (Some (place.Promise a)) x = absurd (none-some shape x)
    go (Some (place.Value a)) x = absurd (none-some shape x)
    go (Some (place.Action a)) x = absurd (none-some shape x)

-- a reference with no steps turns to its row
pub refers_turn : (rows : List PlacedRow) (s : Spot) (at : Place) (id : ℕ) → place_at rows s ≡ Some at → RefersTo id at → turn rows (here s []) ≡ on (to id [])
refers_turn rows s at id h (inl e) = ap (λ o. go_from s o []) (h ∙ ap Some e)
refers_turn rows s at id h (inr e) = ap (λ o. go_from s o []) (h ∙ ap Some e)

-- from a place to where a walk from a reference's row ends
pub leads_to_row : (rows : List PlacedRow) (s : Spot) (id : ℕ) (f : Found) (t : Target Identity) → turn rows (here s []) ≡ on (to id []) → Ends rows (to id []) f → wire.IsTarget rows f t → wire.Leads rows (at_place s) t
leads_to_row rows s id f t e w is = inl (f, ends_back rows (here s []) (to id []) e f w, is)

-- a reference to a home leads to the node there
pub refers_lead : (label : Label) (rows : List PlacedRow) (s : Spot) (at : Place) (a : Ref) (i : Identity) → place_at rows s ≡ Some at → RefersBy label a at → NamesAt label rows a i → IsStanding rows i → wire.Leads rows (at_place s) (store.node_at i)
refers_lead label rows s at a i h refers names standing = go label refers names
  where
    by_place : (at ≡ place.Value a) ⊎ ((at ≡ place.Lazy a.id) × (a.path ≡ [])) → (t : Spot) × (i ≡ made_at t) × Ends rows (to a.id a.path) (found t) → wire.Leads rows (at_place s) (store.node_at i)
    by_place r n =
        let stands : wire.IsTarget rows (found n.0) (store.node_at i) = subst (λ z. wire.LeadsHere rows n.0 (place_at rows n.0) (store.node_at z)) (sym n.1) (subst (IsStanding rows) n.1 standing) in
        ⊎_elim
        (λ e. inl (found n.0, ends_back rows (here s []) (to a.id a.path) (ap (λ o. go_from s o []) (h ∙ ap Some e) ∙ ap (λ p. on (to a.id p)) (append-nil a.path)) (found n.0) n.2, stands))
        (λ e. leads_to_row rows s a.id (found n.0) (store.node_at i) (ap (λ o. go_from s o []) (h ∙ ap Some e.0)) (subst (λ p. Ends rows (to a.id p) (found n.0)) e.1 n.2) stands)
        r

    here_ends : (p : Place) → at ≡ p → go_from s (Some p) [] ≡ ends (found s) → Ends rows (here s []) (found s)
    here_ends p e x = turn_ends rows (here s []) (found s) (ap (λ o. go_from s o []) (h ∙ ap Some e) ∙ x)

    go : (l : Label) → RefersBy l a at → NamesAt l rows a i → wire.Leads rows (at_place s) (store.node_at i)
    go store.promise r n =
        inl (found s, here_ends (place.Promise a.id) r refl, subst (λ o. wire.LeadsHere rows s o (store.node_at i)) (sym (h ∙ ap Some r)) (ap store.node_at n))
    go (store.action name) r n =
        let st : (x : Reference) × (reference_of rows a.id ≡ Some x) = subst (IsStanding rows) n standing in
        inl (
          found s,
          here_ends (place.Action a.id) r refl,
          subst (λ o. wire.LeadsHere rows s o (store.node_at i)) (sym (h ∙ ap Some r))
              (ap store.node_at n ∙ sym (ap (λ o. cond (is_some o) (store.node_at (action_of a.id)) wire.pending) st.1)),
        )
    go store.array r n = by_place r n
    go (store.object names') r n = by_place r n
    go store.map_of r n = by_place r n
    go store.set_of r n = by_place r n
    go store.element r n = by_place r n
    go (store.stream flow state) r n = by_place r n

spot_or : Found → Spot → Spot
spot_or (found s) d = s
spot_or f d = d

same_found : (s t : Spot) → found s ≡ found t → s ≡ t
unfolding spot_or
same_found s t e = ap (λ z. spot_or z s) e

-- a reference names one identity
pub names_at_one : (label : Label) (rows : List PlacedRow) (a : Ref) (i j : Identity) → NamesAt label rows a i → NamesAt label rows a j → i ≡ j
names_at_one store.promise rows a i j x y = x ∙ sym y
names_at_one (store.action name) rows a i j x y = x ∙ sym y
names_at_one store.array rows a i j x y = x.1 ∙ (ap made_at (same_found x.0 y.0 (one_end rows (to a.id a.path) (found x.0) (found y.0) x.2 y.2)) ∙ sym y.1)
names_at_one (store.object n) rows a i j x y = x.1 ∙ (ap made_at (same_found x.0 y.0 (one_end rows (to a.id a.path) (found x.0) (found y.0) x.2 y.2)) ∙ sym y.1)
names_at_one store.map_of rows a i j x y = x.1 ∙ (ap made_at (same_found x.0 y.0 (one_end rows (to a.id a.path) (found x.0) (found y.0) x.2 y.2)) ∙ sym y.1)
names_at_one store.set_of rows a i j x y = x.1 ∙ (ap made_at (same_found x.0 y.0 (one_end rows (to a.id a.path) (found x.0) (found y.0) x.2 y.2)) ∙ sym y.1)
names_at_one store.element rows a i j x y = x.1 ∙ (ap made_at (same_found x.0 y.0 (one_end rows (to a.id a.path) (found x.0) (found y.0) x.2 y.2)) ∙ sym y.1)
names_at_one (store.stream f s) rows a i j x y = x.1 ∙ (ap made_at (same_found x.0 y.0 (one_end rows (to a.id a.path) (found x.0) (found y.0) x.2 y.2)) ∙ sym y.1)

-- over other rows, where walks that end at a place end there too
pub names_at_on : (label : Label) (xs ys : List PlacedRow) → ((s : Stand) (t : Spot) → Ends xs s (found t) → Ends ys s (found t)) → (a : Ref) (i : Identity) → NamesAt label xs a i → NamesAt label ys a i
names_at_on store.promise xs ys f a i x = x
names_at_on (store.action name) xs ys f a i x = x
names_at_on store.array xs ys f a i x = (x.0, x.1, f (to a.id a.path) x.0 x.2)
names_at_on (store.object n) xs ys f a i x = (x.0, x.1, f (to a.id a.path) x.0 x.2)
names_at_on store.map_of xs ys f a i x = (x.0, x.1, f (to a.id a.path) x.0 x.2)
names_at_on store.set_of xs ys f a i x = (x.0, x.1, f (to a.id a.path) x.0 x.2)
names_at_on store.element xs ys f a i x = (x.0, x.1, f (to a.id a.path) x.0 x.2)
names_at_on (store.stream fl st) xs ys f a i x = (x.0, x.1, f (to a.id a.path) x.0 x.2)

pub names_one : (g : Ground) (seen : Seen) (rows : List PlacedRow) (k : Key) (a : Ref) (i j : Identity) → Names g seen rows k a i → Names g seen rows k a j → i ≡ j
names_one g seen rows (key.Stream n) a i j x y = x ∙ sym y
names_one g seen rows (key.Made n) a i j x y = names_at_one y.0.label rows a i j (subst (λ (z : Shape Value). NamesAt z.label rows a i) (same_Some x.0 y.0 (sym x.1 ∙ y.1)) x.2) y.2
names_one g seen rows (key.Source s n) a i j x y = names_at_one y.0.label rows a i j (subst (λ (z : Shape Value). NamesAt z.label rows a i) (same_Some x.0 y.0 (sym x.1 ∙ y.1)) x.2) y.2
names_one g seen rows (key.Settled n) a i j x y = names_at_one y.0.label rows a i j (subst (λ (z : Shape Value). NamesAt z.label rows a i) (same_Some x.0 y.0 (sym x.1 ∙ y.1)) x.2) y.2
names_one g seen rows (key.Action n) a i j x y = names_at_one y.0.label rows a i j (subst (λ (z : Shape Value). NamesAt z.label rows a i) (same_Some x.0 y.0 (sym x.1 ∙ y.1)) x.2) y.2
names_one g seen rows (key.Client n) a i j x y = absurd (none-some x.0 x.1)
names_one g seen rows (key.Symbol n) a i j x y = absurd (none-some x.0 x.1)
names_one g seen rows (key.Server n) a i j x y = absurd (none-some x.0 x.1)

-- what a lasting key's reference names, by its shape
pub names_shape : (g : Ground) (seen : Seen) (rows : List PlacedRow) (k : Key) (a : Ref) (i : Identity) (shape : Shape Value) → IsLasting k → shape_seen g seen k ≡ Some shape → Names g seen rows k a i → NamesAt shape.label rows a i
names_shape g seen rows (key.Stream n) a i shape lasting h x = absurd lasting
names_shape g seen rows (key.Made n) a i shape lasting h x = subst (λ (z : Shape Value). NamesAt z.label rows a i) (same_Some x.0 shape (sym x.1 ∙ h)) x.2
names_shape g seen rows (key.Source s n) a i shape lasting h x = subst (λ (z : Shape Value). NamesAt z.label rows a i) (same_Some x.0 shape (sym x.1 ∙ h)) x.2
names_shape g seen rows (key.Settled n) a i shape lasting h x = subst (λ (z : Shape Value). NamesAt z.label rows a i) (same_Some x.0 shape (sym x.1 ∙ h)) x.2
names_shape g seen rows (key.Action n) a i shape lasting h x = subst (λ (z : Shape Value). NamesAt z.label rows a i) (same_Some x.0 shape (sym x.1 ∙ h)) x.2
names_shape g seen rows (key.Client n) a i shape lasting h x = absurd (none-some x.0 x.1)
names_shape g seen rows (key.Symbol n) a i shape lasting h x = absurd (none-some x.0 x.1)
names_shape g seen rows (key.Server n) a i shape lasting h x = absurd (none-some x.0 x.1)

-- ---- ids of tasks

pub ids_append : (ts us : List Task) → own_ids (ts ++ us) ≡ own_ids ts ++ own_ids us
ids_append [] us = refl
ids_append (t ∷ ts) us = go (owns_id t) (ids_append ts us)
  where
    go : (b : Bool) → own_ids (ts ++ us) ≡ own_ids ts ++ own_ids us → cond b (t.id ∷ own_ids (ts ++ us)) (own_ids (ts ++ us)) ≡ cond b (t.id ∷ own_ids ts) (own_ids ts) ++ own_ids us
    go true e = ap (λ z. t.id ∷ z) e
    go false e = e

pub ids_owned : (ts : List Task) → ((t : Task) → In t ts → Owns t) → own_ids ts ≡ map (λ (t : Task). t.id) ts
ids_owned [] h = refl
ids_owned (t ∷ ts) h = ap (λ b. cond b (t.id ∷ own_ids ts) (own_ids ts)) (h t (inl refl)) ∙ ap (λ z. t.id ∷ z) (ids_owned ts (λ u i. h u (inr i)))

pub distinct_append : (xs ys : List ℕ) → Distinct xs → Distinct ys → ((x : ℕ) → In x xs → In x ys → ⊥) → Distinct (xs ++ ys)
distinct_append [] ys a b h = b
distinct_append (x ∷ xs) ys a b h =
    ((λ i. ⊎_elim (λ k. a.0 k) (λ k. h x (inl refl) k) (in_either xs ys x i)), distinct_append xs ys a.1 b (λ y i k. h y (inr i) k))

pub id_of_own : (ts : List Task) (id : ℕ) → In id (own_ids ts) → (t : Task) × In t ts × (t.id ≡ id)
id_of_own [] id i = absurd i
id_of_own (t ∷ ts) id i = go (owns_id t) i (id_of_own ts id)
  where
    go : (b : Bool) → In id (cond b (t.id ∷ own_ids ts) (own_ids ts)) → (In id (own_ids ts) → (u : Task) × In u ts × (u.id ≡ id)) → (u : Task) × In u (t ∷ ts) × (u.id ≡ id)
    go true (inl e) rest = (t, inl refl, sym e)
    go true (inr k) rest = let y = rest k in (y.0, inr y.1, y.2)
    go false k rest = let y = rest k in (y.0, inr y.1, y.2)

-- where a task stood, no other has its id
pub set_other : (ts : List Task) (n : ℕ) (t u x : Task) → Distinct (own_ids ts) → slice_get ts n ≡ Some t → Owns t → In x (slice_set ts n u) → Owns x → x.id ≡ t.id → x ≡ u
set_other [] n t u x d at owns i owns' same = absurd (none-some t at)
set_other (y ∷ ts) zero t u x d at owns (inl e) owns' same = e
set_other (y ∷ ts) zero t u x d at owns (inr i) owns' same = absurd (go (owns_id y) (ap owns_id is ∙ owns) d)
  where
    is : y ≡ t
    is = same_Some y t at

    go : (b : Bool) → b ≡ true → Distinct (cond b (y.id ∷ own_ids ts) (own_ids ts)) → ⊥
    go true e z = z.0 (subst (λ w. In w (own_ids ts)) (same ∙ sym (ap (λ (w : Task). w.id) is)) (id_in ts x i owns'))
    go false e z = false≢true e
set_other (y ∷ ts) (suc n) t u x d at owns (inl e) owns' same = absurd (go (owns_id y) (ap owns_id (sym e) ∙ owns') d)
  where
    go : (b : Bool) → b ≡ true → Distinct (cond b (y.id ∷ own_ids ts) (own_ids ts)) → ⊥
    go true q z = z.0 (subst (λ w. In w (own_ids ts)) (sym same ∙ ap (λ (w : Task). w.id) e) (id_in ts t (at_in ts n t at) owns))
    go false q z = false≢true q
set_other (y ∷ ts) (suc n) t u x d at owns (inr i) owns' same = set_other ts n t u x (distinct_rest y ts d) at owns i owns' same
