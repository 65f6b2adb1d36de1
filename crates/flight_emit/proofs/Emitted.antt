-- What is on paper is what a writer owes.
use Rattle.std.proofs.Common.{◌≡◌, ◌≢◌, ℕ, ◌+◌, ◌≤◌, ◌⊎◌, inl, inr, ⊎_elim, List, [], ◌∷◌, ◌++◌, length, Option, Some, None, option_and_then, refl, sym, ap, ap₂, ◌∙◌, subst, arith}
use Rattle.std.proofs.lemmas.Option.{none-some, same_Some}
use Rattle.std.proofs.lemmas.Bool.{false≢true}
use Rattle.std.specs.Prelude.{slice_get}
use Rattle.flight_value.specs.Listed.{In}
use Rattle.flight_value.specs.Store as store
use Rattle.flight_value.specs.Store.{Label, Shape}
use Rattle.flight_value.specs.declared.graph.Atom.TheVariants as atom
use Rattle.flight_value.specs.declared.key.Key.{Key}
use Rattle.flight_value.specs.declared.key.Key.TheVariants as key
use Rattle.flight_text.specs.declared.mark.Ref.{Ref}
use Rattle.flight_row.specs.declared.row.RowKind.{RowKind}
use Rattle.flight_row.specs.declared.row.RowKind.TheVariants as row
use Rattle.flight_home.specs.Homes.{Homes}
use Rattle.flight_render.specs.declared.root.Ground.{Ground}
use Rattle.flight_render.specs.declared.job.What.{What}
use Rattle.flight_render.specs.Values.{import_at}
use Rattle.flight_render.specs.Jobs.{Value}
use Rattle.flight_render.specs.Laws.{IsLasting}
use Rattle.flight_meaning.specs.declared.place.Place.{Place}
use Rattle.flight_meaning.specs.declared.place.PlaceTree.{PlaceTree}
use Rattle.flight_meaning.specs.Linked.{rows_of, Spot, place_at}
use Rattle.flight_meaning.specs.Resolve.{to, found}
use Rattle.flight_meaning.specs.Meaning as wire
use Rattle.flight_meaning.specs.Meaning.{at_place, Identity, made_at, promise_of, stream_of, action_of, reference_with, reference_by, reference_of, reference_in, bound_at, action_shape}
use Rattle.flight_meaning.proofs.Walking.{one_end}
use Rattle.flight_payload.proofs.Standing.{each_place}
use Rattle.flight_state.specs.State.{IsAlone}
use Rattle.flight_state.specs.Emits.{IsPlain}
use Rattle.flight_state.specs.Local as local
use Rattle.flight_state.specs.Local.{Seen, shape_seen, Births, Names, NodeHere, StreamHere, TaskHere, HomeHere, IsFresh, IsNewHome, IsOnce, IsRowKey, id_of, IsOwnRow, AddsHere, EmitsHere, WrittenHere}
use Rattle.flight_emit.specs.Sheet.{composite, as_object, reference_parts, tree_of, Sheet, filled, opening, id_on, homes_on, row_of, rows_on, spot, meant_of}
use Rattle.flight_emit.specs.Good.{Gives, IsPlainKind}
use Rattle.flight_emit.specs.Whole as whole
use Rattle.flight_emit.specs.Whole.{Use, ids_from, IsBoundPlace, HasNodeHome, HasHome, HasStream, HasOwnId, OnPaper}
use Rattle.flight_emit.proofs.Rows.{row_there, rows_by, Placed, place_back, id_fresh, one_use}
use Rattle.flight_emit.proofs.Sits.{Paper, homes, rows, meant, Filled, sheet_sits, find_meant, find_home, value_first}
use Rattle.flight_emit.proofs.Homes.{only_row, spot_place, value_row, atom_row, names_place, place_names, names_node, node_names, HomeThere, home_there, value_written, plain_kind}
use Rattle.flight_emit.proofs.Once.{one_node, MeantAt, meant_at, one_meant, IsPlainOrMeant, each_drawn}

-- ---- homes

filled_home : (p : Paper) (k : Key) (r : Ref) (s : Sheet) → In s p.sheets → In (k, r) (homes_on s) → (x : Filled p) × HomeThere p x k r
filled_home p k r (opening id flow) i j = absurd j
filled_home p k r (filled id kind d) i j =
    let x : Filled p = record { id = id; kind = kind; drawn = d; is_sheet = i } in
    (x, home_there p x k r (find_home p x d 0 [] (sheet_sits p x) k r j))

place_home : (p : Paper) (k : Key) (r : Ref) → IsLasting k → (x : Filled p) → HomeThere p x k r → NodeHere p.g p.seen (rows p) p.births (meant p) k r
place_home p k r lasting x h =
    record {
      identity = made_at (spot x.id h.at);
      names = names_node p k r (made_at (spot x.id h.at)) lasting (h.here, h.is_here, names_place h.here.label (rows p) r (made_at (spot x.id h.at)) h.by_place (spot x.id h.at, refl, h.leads));
      lone = tt;
      here = h.here;
      there = h.there;
      is_here = h.is_here;
      is_there = h.is_there;
      labels = h.labels;
      slots = h.slots;
    }

bound_there : (s : Spot) (at : Place) → IsBoundPlace at → bound_at s (Some at) ≡ Some s
bound_there s at (inl e) = ap (λ z. bound_at s (Some z)) e
bound_there s at (inr h) = ap (λ z. bound_at s (Some z)) h.1

-- the row of a server reference has its name and what is bound to it
reference_there : (p : Paper) (id : ℕ) (name : List ℕ) (v : Value) (bound : Place) → IsBoundPlace bound → In (filled id row.Model (composite None as_object (reference_parts v bound name))) p.sheets
    → reference_of (rows p) id ≡ Some (record { name = name; bound = spot id 1 })
reference_there p id name v bound is_bound i =
    let x : Filled p = record { id = id; kind = row.Model; drawn = composite None as_object (reference_parts v bound name); is_sheet = i } in
    ap (λ (ts : List PlaceTree). option_and_then (λ (t : PlaceTree). reference_by (rows p) id t.kind) (slice_get ts 0)) (only_row p x)
    ∙ (ap (reference_in (rows p) (spot id 0)) (spot_place p x 0)
    ∙ ap₂ reference_with (ap wire.text_at (spot_place p x 2)) (ap (bound_at (spot id 1)) (spot_place p x 1) ∙ bound_there (spot id 1) bound is_bound))

node_here : (p : Paper) (k : Key) (r : Ref) → IsLasting k → HasNodeHome p.g p.seen p.sheets p.births k r → NodeHere p.g p.seen (rows p) p.births (meant p) k r
node_here p k r lasting (whole.at_place s i j) = let h = filled_home p k r s i j in place_home p k r lasting h.0 h.1
node_here p k r lasting (whole.promise_with_row v kind d shape i e) =
    let x : Filled p = record { id = r.id; kind = kind; drawn = d; is_sheet = i } in
    record {
      identity = promise_of r.id;
      names = names_node p k r (promise_of r.id) lasting (record { label = store.promise; slots = v ∷ [] }, shape, refl);
      lone = tt;
      here = record { label = store.promise; slots = v ∷ [] };
      there = record { label = store.promise; slots = wire.value_of r.id ∷ [] };
      is_here = shape;
      is_there = refl;
      labels = refl;
      slots = (local.at_row r.id (value_row p x) ((sheet_sits p x).meant 0 v (value_first 0 d v e)), tt);
    }
node_here p k r lasting (whole.promise_with_task v w shape born alone is_seen job) =
    record {
      identity = promise_of r.id;
      names = names_node p k r (promise_of r.id) lasting (record { label = store.promise; slots = v ∷ [] }, shape, refl);
      lone = tt;
      here = record { label = store.promise; slots = v ∷ [] };
      there = record { label = store.promise; slots = wire.value_of r.id ∷ [] };
      is_here = shape;
      is_there = refl;
      labels = refl;
      slots = (local.at_birth r.id w born alone is_seen job, tt);
    }
node_here p k r lasting (whole.server_reference name v bound shape is_bound i) =
    let x : Filled p = record { id = r.id; kind = row.Model; drawn = composite None as_object (reference_parts v bound name); is_sheet = i } in
    record {
      identity = action_of r.id;
      names = names_node p k r (action_of r.id) lasting (record { label = store.action name; slots = v ∷ [] }, shape, refl);
      lone = tt;
      here = record { label = store.action name; slots = v ∷ [] };
      there = record { label = store.action name; slots = at_place (spot r.id 1) ∷ [] };
      is_here = shape;
      is_there = ap action_shape (reference_there p r.id name v bound is_bound i);
      labels = refl;
      slots = (local.at_spot (spot r.id 1) ((sheet_sits p x).meant 1 v (inl refl)), tt);
    }

stream_here : (p : Paper) (stream : ℕ) (r : Ref) → HasStream p.g p.sheets p.births stream r → StreamHere p.g (rows p) p.births stream r
stream_here p stream r h =
    record {
      flows = h.flows;
      is_stream = h.is_stream;
      opener = record { kind = row.Open h.flows.flow; places = [] };
      is_row = row_there p.sheets (opening r.id h.flows.flow) p.on.once h.opens;
      opens = refl;
      born = h.born;
    }

home_here : (p : Paper) (k : Key) (r : Ref) → HasHome p.g p.seen p.sheets p.births k r → HomeHere p.g p.seen (rows p) p.births (meant p) k r
home_here p (key.Stream stream) r h = stream_here p stream r h
home_here p (key.Server n) r h = record { what = h.0; born = h.1; is_job = h.2 }
home_here p (key.Client client) r h = atom_row p r.id (atom.Import (import_at p.g client)) h
home_here p (key.Symbol name) r h = atom_row p r.id (atom.Symbol name) h
home_here p (key.Made n) r h = node_here p (key.Made n) r tt h
home_here p (key.Source source n) r h = node_here p (key.Source source n) r tt h
home_here p (key.Settled source) r h = node_here p (key.Settled source) r tt h
home_here p (key.Action action) r h = node_here p (key.Action action) r tt h

-- ---- identities

-- a node is known by an id of its own
abbrev pub IsIdIdentity : Identity → Type 0
IsIdIdentity (made_at s) = ⊥
IsIdIdentity i = Unit {0}

-- what a key is named by: a place of a row, or an id of its own
pub data NamedBy (p : Paper) (k : Key) (r : Ref) (i : Identity) : Type 0 where
  by_place : (x : Filled p) (h : HomeThere p x k r) → i ≡ made_at (spot x.id h.at) → NamedBy p k r i
  by_id : HasOwnId p.g p.seen k → IsIdIdentity i → id_of i ≡ r.id → NamedBy p k r i

named_there : (p : Paper) (k : Key) (r : Ref) (i : Identity) → IsLasting k → Names p.g p.seen (rows p) k r i → (x : Filled p) → HomeThere p x k r → NamedBy p k r i
named_there p k r i lasting names x h =
    let n = node_names p k r i lasting names in
    let shape = same_Some h.here n.0 (sym h.is_here ∙ n.1) in
    let by = place_names h.here.label (rows p) r i h.by_place (subst (λ z. local.NamesAt z.label (rows p) r i) (sym shape) n.2) in
    let same = one_end (rows p) (to r.id r.path) (found by.0) (found (spot x.id h.at)) by.2 h.leads in
    by_place x h (by.1 ∙ ap made_at (let e : found by.0 ≡ found (spot x.id h.at) = same in cc))

one_shape : (p : Paper) (k : Key) (r : Ref) (i : Identity) (label : Label) (v : Value) → IsLasting k → whole.HasOneSlot p.g p.seen k label v → Names p.g p.seen (rows p) k r i → local.NamesAt label (rows p) r i
one_shape p k r i label v lasting shape names =
    let n = node_names p k r i lasting names in
    let same = same_Some n.0 (record { label = label; slots = v ∷ [] }) (sym n.1 ∙ shape) in
    subst (λ z. local.NamesAt z.label (rows p) r i) same n.2

promise_id : (i : Identity) (id : ℕ) → i ≡ promise_of id → IsIdIdentity i × (id_of i ≡ id)
promise_id i id e = (subst IsIdIdentity (sym e) tt, ap id_of e)

action_id : (i : Identity) (id : ℕ) → i ≡ action_of id → IsIdIdentity i × (id_of i ≡ id)
action_id i id e = (subst IsIdIdentity (sym e) tt, ap id_of e)

stream_id : (i : Identity) (id : ℕ) → i ≡ stream_of id → IsIdIdentity i × (id_of i ≡ id)
stream_id i id e = (subst IsIdIdentity (sym e) tt, ap id_of e)

named_node : (p : Paper) (k : Key) (r : Ref) (i : Identity) → IsLasting k → HasNodeHome p.g p.seen p.sheets p.births k r → Names p.g p.seen (rows p) k r i → NamedBy p k r i
named_node p k r i lasting (whole.at_place s a b) names = let h = filled_home p k r s a b in named_there p k r i lasting names h.0 h.1
named_node p k r i lasting (whole.promise_with_row v kind d shape a e) names =
    let n = promise_id i r.id (one_shape p k r i store.promise v lasting shape names) in by_id (inr (inr (inl (v, shape)))) n.0 n.1
named_node p k r i lasting (whole.promise_with_task v w shape born alone is_seen job) names =
    let n = promise_id i r.id (one_shape p k r i store.promise v lasting shape names) in by_id (inr (inr (inl (v, shape)))) n.0 n.1
named_node p k r i lasting (whole.server_reference name v bound shape is_bound a) names =
    let n = action_id i r.id (one_shape p k r i (store.action name) v lasting shape names) in by_id (inr (inr (inr (name, v, shape)))) n.0 n.1

no_names : (p : Paper) (k : Key) (r : Ref) (i : Identity) → shape_seen p.g p.seen k ≡ None → IsLasting k → Names p.g p.seen (rows p) k r i → NamedBy p k r i
no_names p k r i none lasting names = let n = node_names p k r i lasting names in absurd (none-some n.0 (sym none ∙ n.1))

named_by : (p : Paper) (k : Key) (r : Ref) (i : Identity) → HasHome p.g p.seen p.sheets p.births k r → Names p.g p.seen (rows p) k r i → NamedBy p k r i
named_by p (key.Stream stream) r i h names = let n = stream_id i r.id names in by_id (inr (inl (stream, refl))) n.0 n.1
named_by p (key.Server n) r i h names = no_names p (key.Server n) r i refl tt names
named_by p (key.Client client) r i h names = no_names p (key.Client client) r i refl tt names
named_by p (key.Symbol name) r i h names = no_names p (key.Symbol name) r i refl tt names
named_by p (key.Made n) r i h names = named_node p (key.Made n) r i tt h names
named_by p (key.Source source n) r i h names = named_node p (key.Source source n) r i tt h names
named_by p (key.Settled source) r i h names = named_node p (key.Settled source) r i tt h names
named_by p (key.Action action) r i h names = named_node p (key.Action action) r i tt h names

same_owner : (p : Paper) (k l : Key) (a b : Ref) → In (k, a) p.more → In (l, b) p.more → HasOwnId p.g p.seen k → HasOwnId p.g p.seen l → a.id ≡ b.id → k ≡ l
same_owner p k l a b i j own other e =
    let u = p.on.own_ids k a i own in
    let w = p.on.own_ids l b j other in
    let same = one_use p.start p.uses a.id u.0 w.0 u.1 (subst (λ z. In (z, w.0) (ids_from p.start p.uses)) (sym e) w.1) in
    same_Some k l (sym u.2 ∙ (ap (λ z. z.home) same ∙ w.2))

id_or_place : (i : Identity) (s : Spot) → i ≡ made_at s → IsIdIdentity i → ⊥
id_or_place i s e h = subst IsIdIdentity e h

key_of : (p : Paper) (k l : Key) (a b : Ref) (i : Identity) → In (k, a) p.more → In (l, b) p.more → NamedBy p k a i → NamedBy p l b i → k ≡ l
key_of p k l a b i m n (by_place x h e) (by_place y j f) =
    let spots : spot x.id h.at ≡ spot y.id j.at = let both : made_at (spot x.id h.at) ≡ made_at (spot y.id j.at) = sym e ∙ f in cc in
    let values = one_meant p (spot x.id h.at) h.value j.value h.is_meant (subst (λ z. In (z, j.value) (meant p)) (sym spots) j.is_meant) in
    let here = h.gives in
    let there = j.gives in
    one_node p h.value here.0 there.0 k l here.1 here.2 (subst (λ z. Gives p.g p.seen z there.0) (sym values) there.1) there.2
key_of p k l a b i m n (by_place x h e) (by_id own is_id f) = absurd (id_or_place i (spot x.id h.at) e is_id)
key_of p k l a b i m n (by_id own is_id f) (by_place y j e) = absurd (id_or_place i (spot y.id j.at) e is_id)
key_of p k l a b i m n (by_id own is_id e) (by_id other is_id_too f) = same_owner p k l a b m n own other (sym e ∙ f)

own_fresh : (p : Paper) (k : Key) (a : Ref) → In (k, a) p.more → HasOwnId p.g p.seen k → IsFresh p.start (p.start + length p.uses) a.id
own_fresh p k a i own = let u = p.on.own_ids k a i own in id_fresh p.start p.uses a.id u.0 u.1

id_home : (start next : ℕ) (i : Identity) (id : ℕ) → IsIdIdentity i → id_of i ≡ id → IsFresh start next id → IsNewHome start next i
id_home start next (made_at s) id h e fresh = absurd h
id_home start next (promise_of n) id h e fresh = subst (IsFresh start next) (sym e) fresh
id_home start next (stream_of n) id h e fresh = subst (IsFresh start next) (sym e) fresh
id_home start next (action_of n) id h e fresh = subst (IsFresh start next) (sym e) fresh

new_home : (p : Paper) (k : Key) (a : Ref) (i : Identity) → In (k, a) p.more → NamedBy p k a i → IsNewHome p.start (p.start + length p.uses) i
new_home p k a i m (by_place x h e) = subst (IsNewHome p.start (p.start + length p.uses)) (sym e) tt
new_home p k a i m (by_id own is_id e) = id_home p.start (p.start + length p.uses) i a.id is_id e (own_fresh p k a m own)

-- ---- rows

abbrev IsOneRow : PlaceTree → Type 0
IsOneRow t = ¬ (t.kind ≡ row.Close)

is_close : RowKind → Type 0
is_close row.Close = Unit {0}
is_close kind = ⊥

no_close : (p : Paper) (s : Sheet) → In s p.sheets → IsOneRow (row_of s).tree
unfolding is_close
no_close p (filled id kind d) i e = let x : Filled p = record { id = id; kind = kind; drawn = d; is_sheet = i } in subst IsPlainKind e (plain_kind p x)
no_close p (opening id flow) i e = subst is_close (sym e) tt

rows_once : (p : Paper) (n : ℕ) → IsOnce (rows_of n (rows p))
rows_once p n = ⊎_elim (λ none. subst IsOnce (sym none) tt) (λ f. subst IsOnce (sym f.3) (no_close p f.0 f.1)) (rows_by p.sheets p.on.once n)

is_own : (own : Option ℕ) (n : ℕ) → own ≡ Some n → IsOwnRow own n
is_own None n e = absurd (none-some n e)
is_own (Some id) n e = sym (same_Some id n e)

sheet_owner : (p : Paper) (s : Sheet) (n : ℕ) → In s p.sheets → id_on s ≡ n → IsOwnRow p.own n ⊎ IsFresh p.start (p.start + length p.uses) n
sheet_owner p s n i e =
    subst (λ z. IsOwnRow p.own z ⊎ IsFresh p.start (p.start + length p.uses) z) e
    (⊎_elim (λ own. inl (is_own p.own (id_on s) own)) (λ f. inr (id_fresh p.start p.uses (id_on s) f.0 f.1)) (p.on.row_ids s i))

row_fresh : (p : Paper) (n : ℕ) → rows_of n (rows p) ≢ [] → IsOwnRow p.own n ⊎ IsFresh p.start (p.start + length p.uses) n
row_fresh p n some = ⊎_elim (λ none. absurd (some none)) (λ f. sheet_owner p f.0 n f.1 f.2) (rows_by p.sheets p.on.once n)

plain_place : (p : Paper) (s : Spot) (at : Place) → Placed p.sheets s at → IsPlain at ⊎ ((v : Value) × In (s, v) (meant p))
plain_place p s at q =
    let x : Filled p = record { id = q.id; kind = q.kind; drawn = q.drawn; is_sheet = q.is_sheet } in
    subst (λ z. IsPlain at ⊎ ((v : Value) × In (z, v) (meant p))) (sym q.is_spot)
    (each_place (IsPlainOrMeant p x) (tree_of q.drawn) (each_drawn p x q.drawn 0 [] (sheet_sits p x)) q.number at q.is_place)

written_there : (p : Paper) (s : Spot) (v : Value) → MeantAt p s v → (at : Place) × (place_at (rows p) s ≡ Some at) × WrittenHere p.g p.seen (homes p) p.more (rows p) (Some s) at v
written_there p s v m =
    let x = m.sheet in
    let f = find_meant p x x.drawn 0 [] (sheet_sits p x) m.number v m.is_meant in
    let w = value_written p x f.drawn m.number f.path v f.sits f.is_value in
    subst (λ z. (at : Place) × (place_at (rows p) z ≡ Some at) × WrittenHere p.g p.seen (homes p) p.more (rows p) (Some z) at v) (sym m.is_spot)
    (w.place, spot_place p x m.number ∙ w.is_place, w.written)

-- ---- births

older_not_fresh : (own : Option ℕ) (start n : ℕ) → whole.IsOlder own start → own ≡ Some n → start ≤ n → ⊥
older_not_fresh None start n h e low = none-some n e
older_not_fresh (Some id) start n h e low = let same = same_Some id n e in omega (arith, h, same, low)

no_row : (p : Paper) (n : ℕ) (w : What) → In (n, w) p.births → IsAlone w → rows_of n (rows p) ≡ []
no_row p n w i alone = ⊎_elim (λ none. none) (λ f. absurd (apart f.0 f.1 f.2)) (rows_by p.sheets p.on.once n)
  where
    apart : (s : Sheet) → In s p.sheets → id_on s ≡ n → ⊥
    apart s j e =
        let u = p.on.born_ids n w i in
        let low = (id_fresh p.start p.uses n u.0 u.1).0 in
        ⊎_elim (λ own. older_not_fresh p.own p.start n p.on.older (own ∙ ap (λ z. Some z) e) low)
        (λ f. let same = one_use p.start p.uses n u.0 f.0 u.1 (subst (λ z. In (z, f.0) (ids_from p.start p.uses)) e f.1) in
        false≢true (sym (u.3 alone) ∙ (ap (λ z. z.has_row) same ∙ f.2)))
        (p.on.row_ids s j)

-- ---- the whole

pub adds_here : (p : Paper) → AddsHere p.g p.seen p.first p.own p.start (p.start + length p.uses) p.before (p.before ++ p.more) (rows p) p.births (meant p)
adds_here p =
    record {
      up = omega arith;
      once = rows_once p;
      row_fresh = row_fresh p;
      held = λ s at h. plain_place p s at (place_back p.sheets p.on.once s at h);
      more = p.more;
      homes = refl;
      new_key = λ k a b i j. p.on.new_keys k a i b j;
      one_home = p.on.one_home;
      one_key = λ k l a b i m n x y. key_of p k l a b i m n (named_by p k a i (p.on.has_home k a m) x) (named_by p l b i (p.on.has_home l b n) y);
      home_fresh = λ k a i m x. new_home p k a i m (named_by p k a i (p.on.has_home k a m) x);
      row_fresh_key = λ k a is_row m. own_fresh p k a m (inl is_row);
      one_row_key = λ k l a b x y m n e. same_owner p k l a b m n (inl x) (inl y) e;
      is_home = λ k a m. home_here p k a (p.on.has_home k a m);
      places = λ s v i. written_there p s v (meant_at p s v i);
      born_once = p.on.born_once;
      born_fresh = λ u w i. let b = p.on.born_ids u w i in id_fresh p.start p.uses u b.0 b.1;
      born_met = p.on.born_met;
      born_tables = p.on.born_tables;
      unwritten = no_row p;
      for_stream = p.on.for_stream;
    }

pub adds_more : (p : Paper) → (adds_here p).more ≡ p.more
unfolding adds_here
adds_more p = refl

pub alone_emits : (g : Ground) (seen : Seen) (first : Value) (id start : ℕ) (before more : Homes) (sheets : List Sheet) (births : Births) (uses : List Use) → OnPaper g seen first (Some id) start before more sheets births uses
    → EmitsHere g seen first id start (start + length uses) before (before ++ more) (rows_on sheets) births (meant_of sheets)
alone_emits g seen first id start before more sheets births uses on =
    let p : Paper = record { g = g; seen = seen; first = first; own = Some id; start = start; before = before; more = more; sheets = sheets; births = births; uses = uses; on = on } in
    let own = on.own_row in
    let rest = own.1 in
    let x : Filled p = record { id = id; kind = own.0; drawn = rest; is_sheet = own.2 } in
    record { adds = adds_here p; own = (value_row p x, (sheet_sits p x).meant 0 first (value_first 0 rest first own.3)) }
