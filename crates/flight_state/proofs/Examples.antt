-- What is asked of a writer can be done: an atom, and the promise of a source.
use Rattle.std.proofs.Common.{◌≡◌, ℕ, zero, suc, ◌<◌, Bool, true, inl, inr, ⊎_elim, List, [], ◌∷◌, ◌++◌, Option, Some, None, refl, sym, ap, ◌∙◌, subst, append-nil, arith}
use Rattle.std.proofs.lemmas.Option.{none-some, same_Some}
use Rattle.std.specs.Prelude.{slice_get, if◌then◌else◌}
use Rattle.flight_value.specs.Store as store
use Rattle.flight_value.specs.Store.{Shape}
use Rattle.flight_value.specs.declared.graph.Atom.{Atom}
use Rattle.flight_value.specs.declared.graph.Atom.TheVariants as atom
use Rattle.flight_value.specs.declared.key.Key.{Key}
use Rattle.flight_value.specs.declared.key.Key.TheVariants as key
use Rattle.flight_value.specs.declared.made.Made.{Made}
use Rattle.flight_value.specs.declared.made.Tables.{Tables}
use Rattle.flight_value.specs.declared.made.Tree.TheVariants as tree
use Rattle.flight_value.specs.declared.name.Name.{Name}
use Rattle.flight_text.specs.declared.mark.Ref.{Ref}
use Rattle.flight_render.specs.declared.root.Ground.{Ground}
use Rattle.flight_render.specs.declared.job.What.TheVariants as what
use Rattle.flight_render.specs.Jobs.{outcome, element, Value, of_job, shown, is_server}
use Rattle.flight_value.specs.Listed.{In}
use Rattle.flight_render.specs.Attempt.{job_for}
use Rattle.flight_state.specs.State.{stream_for}
use Rattle.flight_meaning.specs.declared.place.Place.{Place}
use Rattle.flight_meaning.specs.declared.place.Place.TheVariants as place
use Rattle.flight_meaning.specs.declared.place.PlacedRow.{PlacedRow}
use Rattle.flight_meaning.specs.Linked.{Spot, place_at, first_place}
use Rattle.flight_meaning.specs.Meaning.{Identity, promise_of, value_of}
use Rattle.flight_state.specs.Local as local
use Rattle.flight_state.specs.Local.{Seen, Homes, Births, IsOnce, EmitsHere, job_seen}
use Rattle.flight_state.specs.Worked.{model}
use Rattle.flight_state.proofs.Singles.{row_once, row_rows, row_places, row_root, row_value}

-- one row of one place
abbrev pub single : ℕ → Place → List PlacedRow
single id at = model id (at ∷ []) ∷ []

-- the one place is the root
pub single_only : (id : ℕ) (at : Place) (s : Spot) (p : Place) → place_at (single id at) s ≡ Some p → (s ≡ first_place id) × (p ≡ at)
single_only id at s p h = let r = row_places id (at ∷ []) s p h in go s.at r.0 r.1
  where
    go : (n : ℕ) → s ≡ record { id = id; nth = 0; at = n } → slice_get (at ∷ []) n ≡ Some p → (s ≡ first_place id) × (p ≡ at)
    go zero e q = (e, sym (same_Some at p q))
    go (suc n) e q = absurd (none-some p q)

-- what is written at one place is one row, and nothing else
unfoldable pub bare_here : (g : Ground) (seen : Seen) (v : Value) (at : Place) (id start : ℕ) (homes : Homes) → local.WrittenHere g seen homes [] (single id at) (Some (first_place id)) at v → EmitsHere g seen v id start start homes homes (single id at) [] ((first_place id, v) ∷ [])
bare_here g seen v at id start homes written =
    record {
      own = (row_value id (at ∷ []), inl refl);
      adds = record {
        up = omega arith;
        once = row_once id (at ∷ []);
        row_fresh = λ n h. ⊎_elim (λ e. inl e.0) (λ e. absurd (h e)) (row_rows id (at ∷ []) n);
        held = λ s p h. inr (v, inl (ap (λ z. (z, v)) (single_only id at s p h).0));
        more = [];
        homes = sym (append-nil homes);
        new_key = λ k x y i j. i;
        one_home = λ k x y i j. absurd i;
        one_key = λ k l x y n i j p q. absurd i;
        home_fresh = λ k x n i p. absurd i;
        row_fresh_key = λ k x r i. absurd i;
        one_row_key = λ k l x y r q i j. absurd i;
        is_home = λ k x i. absurd i;
        places = λ s u i. ⊎_elim (λ e. (at, ap (λ z. place_at (single id at) z.0) e ∙ row_root id at [], subst (λ (z : Spot × Value). local.WrittenHere g seen homes [] (single id at) (Some z.0) at z.1) (sym e) written)) (λ k. absurd k) i;
        born_once = tt;
        born_fresh = λ u w i. absurd i;
        born_met = λ u w i. absurd i;
        born_tables = λ u w i. absurd i;
        unwritten = λ u w i. absurd i;
        for_stream = λ u w n i. absurd i;
      };
    }

abbrev pub atom_here : (g : Ground) (seen : Seen) (a : Atom) → ¬ (a ≡ atom.Pending) → (id start : ℕ) (homes : Homes) → EmitsHere g seen (shown (tree.Atom a)) id start start homes homes (single id (place.Atom a)) [] ((first_place id, shown (tree.Atom a)) ∷ [])
atom_here g seen a sure id start homes = bare_here g seen (shown (tree.Atom a)) (place.Atom a) id start homes (local.an_atom a refl refl sure)

-- the promise of a source is one row, one home and one task
abbrev pub promise_home : ℕ → ℕ → Key × Ref
promise_home source id = (key.Settled source, record { id = id; path = [] })

unfoldable pub promise_here : (g : Ground) (seen : Seen) (source id start : ℕ) (homes : Homes) → id < start → ((a : Ref) → In (key.Settled source, a) homes → ⊥)
    → EmitsHere g seen (shown (tree.Promise source)) id start (suc start) homes (homes ++ promise_home source start ∷ []) (single id (place.Promise start)) ((start, what.Promise source) ∷ []) ((first_place id, shown (tree.Promise source)) ∷ [])
promise_here g seen source id start homes low new =
    record {
      own = (row_value id (place.Promise start ∷ []), inl refl);
      adds = record {
        up = omega arith;
        once = row_once id (place.Promise start ∷ []);
        row_fresh = λ n h. ⊎_elim (λ e. inl e.0) (λ e. absurd (h e)) (row_rows id (place.Promise start ∷ []) n);
        held = λ s at h. let e = single_only id (place.Promise start) s at h in inr (shown (tree.Promise source), inl (ap (λ z. (z, shown (tree.Promise source))) e.0));
        more = promise_home source start ∷ [];
        homes = refl;
        new_key = λ k x y i j. new y (subst (λ z. In (z, y) homes) (only k x i).0 j);
        one_home = λ k x y i j. (only k x i).1 ∙ sym (only k y j).1;
        one_key = λ k l x y n i j p q. (only k x i).0 ∙ sym (only l y j).0;
        home_fresh = λ k x n i p. fresh k x n (only k x i) p;
        row_fresh_key = λ k x r i. absurd (subst local.IsRowKey (only k x i).0 r);
        one_row_key = λ k l x y r q i j same. absurd (subst local.IsRowKey (only k x i).0 r);
        is_home = λ k x i. subst (λ z. local.HomeHere g seen (single id (place.Promise start)) ((start, what.Promise source) ∷ []) ((first_place id, shown (tree.Promise source)) ∷ []) z x) (sym (only k x i).0)
            (subst (local.HomeHere g seen (single id (place.Promise start)) ((start, what.Promise source) ∷ []) ((first_place id, shown (tree.Promise source)) ∷ []) (key.Settled source)) (sym (only k x i).1) home);
        places = λ s v i. ⊎_elim (λ e. (place.Promise start, ap (λ z. place_at (single id (place.Promise start)) z.0) e ∙ row_root id (place.Promise start) [], subst (λ z. local.WrittenHere g seen (homes ++ promise_home source start ∷ []) (promise_home source start ∷ []) (single id (place.Promise start)) (Some s) (place.Promise start) z) (sym (ap (λ z. z.1) e)) (written (Some s)))) (λ k. absurd k) i;
        born_once = (λ i. i, tt);
        born_fresh = λ u w i. ⊎_elim (λ e. (omega (arith, ap (λ z. z.0) e), omega (arith, ap (λ z. z.0) e))) (λ k. absurd k) i;
        born_met = λ u w i. ⊎_elim (λ e. subst (λ z. local.MetBy g seen (shown (tree.Promise source)) (job_for g z) (stream_for z)) (sym (ap (λ z. z.1) e)) met) (λ k. absurd k) i;
        born_tables = λ u w i. ⊎_elim (λ e. subst (local.TablesHere seen) (sym (ap (λ z. z.1) e)) tt) (λ k. absurd k) i;
        unwritten = λ u w i alone. ⊎_elim (λ e. ⊎_elim (λ x. absurd (omega (arith, low, x.0, ap (λ z. z.0) e))) (λ x. x) (row_rows id (place.Promise start ∷ []) u)) (λ k. absurd k) i;
        for_stream = λ u w n i e. ⊎_elim (λ x. absurd (none-some n (sym (ap (λ z. stream_for z.1) x) ∙ e))) (λ k. absurd k) i;
      };
    }
  where
    a : Ref
    a = record { id = start; path = [] }

    only : (k : Key) (x : Ref) → In (k, x) (promise_home source start ∷ []) → (k ≡ key.Settled source) × (x ≡ record { id = start; path = [] })
    only k x (inl e) = (ap (λ z. z.0) e, ap (λ z. z.1) e)
    only k x (inr i) = absurd i

    fresh : (k : Key) (x : Ref) (n : Identity) → (k ≡ key.Settled source) × (x ≡ record { id = start; path = [] }) → local.Names g seen (single id (place.Promise start)) k x n → local.IsNewHome start (suc start) n
    fresh k x n e p =
        let q = subst (λ z. local.Names g seen (single id (place.Promise start)) z x n) e.0 p in
        let label = ap (λ (z : Shape Value). z.label) (sym (same_Some _ q.0 q.1)) in
        let is : n ≡ promise_of x.id = subst (λ z. local.NamesAt z (single id (place.Promise start)) x n) label q.2 in
        subst (local.IsNewHome start (suc start)) (sym (is ∙ ap (λ (z : Ref). promise_of z.id) e.1)) (omega arith, omega arith)

    home : local.NodeHere g seen (single id (place.Promise start)) ((start, what.Promise source) ∷ []) ((first_place id, shown (tree.Promise source)) ∷ []) (key.Settled source) (record { id = start; path = [] })
    home =
        record {
          identity = promise_of start;
          names = (record { label = store.promise; slots = of_job (outcome source) ∷ [] }, refl, refl);
          lone = tt;
          here = record { label = store.promise; slots = of_job (outcome source) ∷ [] };
          there = record { label = store.promise; slots = value_of start ∷ [] };
          is_here = refl;
          is_there = refl;
          labels = refl;
          slots = (local.at_birth start (what.Promise source) (inl refl) refl tt refl, tt);
        }

    in_new : (xs : Homes) → In (promise_home source start) (xs ++ promise_home source start ∷ [])
    in_new [] = inl refl
    in_new (x ∷ xs) = inr (in_new xs)

    written : (o : Option Spot) → local.WrittenHere g seen (homes ++ promise_home source start ∷ []) (promise_home source start ∷ []) (single id (place.Promise start)) o (place.Promise start) (shown (tree.Promise source))
    written o = local.a_reference (key.Settled source) (record { id = start; path = [] }) (record { label = store.promise; slots = of_job (outcome source) ∷ [] }) tt refl refl tt (in_new homes) refl refl

    met : local.MetBy g seen (shown (tree.Promise source)) (outcome source) None
    met = (of_job (outcome source), local.in_slot local.at_first tt refl refl tt refl (inl refl), tt, refl)

-- a server element that is left to a task is one row, one home of a row and one task
abbrev pub element_home : Name → ℕ → Key × Ref
element_home n id = (key.Server n, record { id = id; path = [] })

pub element_only : (n : Name) (start : ℕ) (k : Key) (x : Ref) → In (k, x) (element_home n start ∷ []) → (k ≡ key.Server n) × (x ≡ record { id = start; path = [] })
element_only n start k x (inl e) = (ap (λ z. z.0) e, ap (λ z. z.1) e)
element_only n start k x (inr i) = absurd i

-- it is no node, so nothing is known by its name
pub nameless : (g : Ground) (seen : Seen) (n : Name) (rows : List PlacedRow) (k : Key) (x : Ref) (i : Identity) → k ≡ key.Server n → local.Names g seen rows k x i → ⊥
nameless g seen n rows k x i same p = let q = subst (λ z. local.Names g seen rows z x i) same p in none-some q.0 q.1

pub element_job : (seen : Seen) (n : Name) (m : Made) → seen.look n ≡ Some m → is_server (Some m) ≡ true → job_seen seen (shown (tree.Made n)) ≡ Some (element n)
element_job seen n m is_made server = ap (λ z. if is_server z then Some (element n) else None) is_made ∙ ap (λ (b : Bool). if b then Some (element n) else None) server

pub in_last : {A : Type 0} (x : A) (xs : List A) → In x (xs ++ x ∷ [])
in_last x [] = inl refl
in_last x (y ∷ ys) = inr (in_last x ys)

unfoldable pub element_here : (g : Ground) (seen : Seen) (n : Name) (m : Made) (tables : Tables) (id start : ℕ) (homes : Homes) → seen.look n ≡ Some m → is_server (Some m) ≡ true → tables.made ≡ seen.tables n → id < start → ((a : Ref) → In (key.Server n, a) homes → ⊥)
    → EmitsHere g seen (shown (tree.Made n)) id start (suc start) homes (homes ++ element_home n start ∷ []) (single id (place.Lazy start)) ((start, what.Element n tables) ∷ []) ((first_place id, shown (tree.Made n)) ∷ [])
element_here g seen n m tables id start homes is_made server same low new =
    record {
      own = (row_value id (place.Lazy start ∷ []), inl refl);
      adds = record {
        up = omega arith;
        once = row_once id (place.Lazy start ∷ []);
        row_fresh = λ k h. ⊎_elim (λ e. inl e.0) (λ e. absurd (h e)) (row_rows id (place.Lazy start ∷ []) k);
        held = λ s at h. let e = single_only id (place.Lazy start) s at h in inr (shown (tree.Made n), inl (ap (λ z. (z, shown (tree.Made n))) e.0));
        more = element_home n start ∷ [];
        homes = refl;
        new_key = λ k x y i j. new y (subst (λ z. In (z, y) homes) (element_only n start k x i).0 j);
        one_home = λ k x y i j. (element_only n start k x i).1 ∙ sym (element_only n start k y j).1;
        one_key = λ k l x y o i j p q. (element_only n start k x i).0 ∙ sym (element_only n start l y j).0;
        home_fresh = λ k x o i p. absurd (nameless g seen n (single id (place.Lazy start)) k x o (element_only n start k x i).0 p);
        row_fresh_key = λ k x r i. let e = ap (λ (z : Ref). z.id) (element_only n start k x i).1 in (omega (arith, e), omega (arith, e));
        one_row_key = λ k l x y r q i j e. (element_only n start k x i).0 ∙ sym (element_only n start l y j).0;
        is_home = λ k x i. let e = element_only n start k x i in subst (λ z. local.HomeHere g seen (single id (place.Lazy start)) ((start, what.Element n tables) ∷ []) ((first_place id, shown (tree.Made n)) ∷ []) z x) (sym e.0)
            (record { what = what.Element n tables; born = inl (ap (λ (z : Ref). (z.id, what.Element n tables)) e.1); is_job = refl });
        places = λ s v i. ⊎_elim (λ e. (
          place.Lazy start,
          ap (λ z. place_at (single id (place.Lazy start)) z.0) e ∙ row_root id (place.Lazy start) [],
          subst (λ z. local.WrittenHere g seen (homes ++ element_home n start ∷ []) (element_home n start ∷ []) (single id (place.Lazy start)) (Some s) (place.Lazy start) z) (sym (ap (λ z. z.1) e))
              (local.a_task n (record { id = start; path = [] }) (m, is_made) (element_job seen n m is_made server) (in_last (element_home n start) homes) (inl refl)),
        )) (λ k. absurd k) i;
        born_once = (λ i. i, tt);
        born_fresh = λ u w i. ⊎_elim (λ e. (omega (arith, ap (λ z. z.0) e), omega (arith, ap (λ z. z.0) e))) (λ k. absurd k) i;
        born_met = λ u w i. ⊎_elim (λ e. subst (λ z. local.MetBy g seen (shown (tree.Made n)) (job_for g z) (stream_for z)) (sym (ap (λ z. z.1) e)) (shown (tree.Made n), local.at_first, (m, is_made), element_job seen n m is_made server)) (λ k. absurd k) i;
        born_tables = λ u w i. ⊎_elim (λ e. subst (local.TablesHere seen) (sym (ap (λ z. z.1) e)) ((m, is_made, server), same)) (λ k. absurd k) i;
        unwritten = λ u w i alone. ⊎_elim (λ e. ⊎_elim (λ x. absurd (omega (arith, low, x.0, ap (λ z. z.0) e))) (λ x. x) (row_rows id (place.Lazy start ∷ []) u)) (λ k. absurd k) i;
        for_stream = λ u w k i e. ⊎_elim (λ x. absurd (none-some k (sym (ap (λ z. stream_for z.1) x) ∙ e))) (λ j. absurd j) i;
      };
    }
