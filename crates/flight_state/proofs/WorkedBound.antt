-- The worked run of a server reference with a bound argument.
use Rattle.std.proofs.Common.{◌≡◌, ℕ, ◌⊎◌, inl, inr, ⊎_elim, List, [], ◌∷◌, zero, suc, Some, None, refl, sym, ap, ◌∙◌, subst, arith, option_and_then}
use Rattle.std.proofs.lemmas.Option.{none-some, same_Some}
use Rattle.std.specs.Prelude.{if◌then◌else◌, slice_get}
use Rattle.std.proofs.lemmas.List.Elements.{All-from_recursion}
use Rattle.flight_value.specs.Store as store
use Rattle.flight_value.specs.Store.{DrawOneGraph, of_graph, Paired, Shape}
use Rattle.flight_value.specs.declared.graph.Slot.TheVariants as slot
use Rattle.flight_value.specs.declared.key.Key.{Key}
use Rattle.flight_value.specs.declared.key.Key.TheVariants as key
use Rattle.flight_value.specs.declared.made.Made.{Made}
use Rattle.flight_value.specs.declared.made.MadeKind.TheVariants as kind
use Rattle.flight_value.specs.declared.made.Tree.{Tree}
use Rattle.flight_value.specs.declared.made.Tree.TheVariants as tree
use Rattle.flight_value.specs.Listed.{In}
use Rattle.flight_text.specs.declared.mark.Ref.{Ref}
use Rattle.flight_syntax.specs.declared.expr.Expr.{Expr}
use Rattle.flight_syntax.specs.declared.expr.Expr as expr
use Rattle.flight_syntax.specs.Term as term
use Rattle.flight_syntax.specs.Term.{Term}
use Rattle.flight_render.specs.Run.{gave, Run}
use Rattle.flight_render.specs.Body.{root_body}
use Rattle.flight_render.specs.Bodies.{body_at, node_at, made_by, finished}
use Rattle.flight_render.specs.Jobs.{element, shown, is_server, Value}
use Rattle.flight_render.specs.Plain.{made_shape}
use Rattle.flight_render.specs.Costs.{Rendered}
use Rattle.flight_render.specs.Valid.{IsValidGround, IsDeclared, IsLawful}
use Rattle.flight_meaning.specs.Linked.{first_place, beside, Spot, place_at}
use Rattle.flight_meaning.specs.Resolve.{found}
use Rattle.flight_meaning.specs.Meaning.{meaning, at_place, Identity, made_at}
use Rattle.flight_meaning.specs.declared.place.Place.{Place}
use Rattle.flight_meaning.specs.declared.place.Place.TheVariants as place
use Rattle.flight_meaning.specs.declared.place.PlacedRow.{PlacedRow}
use Rattle.flight_state.specs.declared.status.Status.TheVariants as status
use Rattle.flight_state.specs.State.{State, IsClosed, Task}
use Rattle.flight_state.specs.Steps as steps
use Rattle.flight_state.specs.Steps.{taken, first_task, opening, DoneStep, TakeStep, PingStep}
use Rattle.flight_state.specs.Emits.{IsPlain, Meant}
use Rattle.flight_state.specs.Local as local
use Rattle.flight_state.specs.Local.{WritesHere, Homes, Births, Seen, IsNodeKey, IsRowKey, EmitsHere, job_seen, shape_seen}
use Rattle.flight_state.specs.Worked.{one_of, bound, bound_array, bound_promise, bound_action, bound_events, bound_end, bound_graph}
use Rattle.flight_state.proofs.Going.{Going, opens, takes, writes}
use Rattle.flight_state.proofs.Apps.{app_script, no_name, app_body, root_rendered}
use Rattle.flight_state.proofs.Singles.{each_in, once_by, contains_in, in_contains, sure, is_placed, two, no_close, none_further}
use Rattle.flight_syntax.proofs.Terms.{term-Action, term-Atom}
use Rattle.flight_state.specs.Local.{Shows}
use Rattle.flight_syntax.proofs.Terms.{term-Action, term-Atom}
use Rattle.flight_row.specs.declared.row.RowKind.TheVariants as row
use Rattle.flight_meaning.specs.Meaning.{Written}
use Rattle.flight_meaning.specs.Meaning as wire
use Rattle.flight_meaning.specs.declared.place.PlaceTree.{PlaceTree}
use Rattle.flight_state.proofs.Apps.{all_seen, all_shows}
use Rattle.std.proofs.Common.{cond, codes, Bool, false}
use Rattle.std.proofs.lemmas.Bool.{ne_eqb}
use Rattle.flight_value.specs.declared.graph.Slot.TheVariants as slot
use Rattle.flight_value.specs.declared.graph.Atom.TheVariants as atom
use Rattle.flight_value.specs.Listed.{Distinct}
use Rattle.flight_value.specs.Store.{Label}
use Rattle.flight_meaning.specs.Linked.{rows_of}
use Rattle.flight_meaning.specs.Meaning.{promise_of, action_of}
use Rattle.flight_state.specs.Local.{IsOnce}
use Rattle.flight_state.proofs.LastRows.{rows_of-cons}

-- ---- the ground

abbrev bound_term : Term
bound_term = term.action_with 1 (term.terms_of (term.atom one_of ∷ []))

bound_is : term.term (expr.Action 1 (Some (expr.Atom one_of ∷ []))) ≡ bound_term
bound_is = term-Action 1 (Some (expr.Atom one_of ∷ [])) ∙ ap (λ t. term.action_with 1 (term.terms_of (t ∷ []))) (term-Atom one_of)

pub bound_valid : IsValidGround bound
bound_valid =
    record {
      each = All-from_recursion (IsDeclared bound) bound.program.declared (
        (tt, subst (IsLawful bound 0) (sym bound_is) ((1, (codes "save", (codes "x" ∷ [], (expr.Atom atom.Null, refl, refl)))), ((omega arith, omega arith), tt))),
        (((tt, tt), subst (IsLawful bound 1) (sym (term-Atom atom.Null)) tt), tt),
      );
      one_component = (tt, tt);
      one_action = (tt, tt);
      has_app = (0, ([], (expr.Action 1 (Some (expr.Atom one_of ∷ [])), refl)));
      script = app_script [] [] (omega arith) (omega arith) no_name no_name tt tt;
      first = tt;
    }

-- ---- the body

abbrev array_made : Made
array_made = record { kind = kind.Array; slots = tree.Atom one_of ∷ [] }

abbrev promise_made : Made
promise_made = record { kind = kind.Promise; slots = tree.Made bound_array ∷ [] }

abbrev action_made : Made
action_made = record { kind = kind.Bound 1; slots = tree.Made bound_promise ∷ [] }

abbrev bound_root : Run Tree
bound_root = record { after = record { made = array_made ∷ promise_made ∷ action_made ∷ []; cost = 6 }; step = gave (tree.Made bound_action) }

bound_body : root_body bound [] ≡ bound_root
bound_body = app_body bound [] (expr.Action 1 (Some (expr.Atom one_of ∷ []))) bound_term bound_is refl

node_there : (serial : ℕ) (m : Made) → slice_get bound_root.after.made serial ≡ Some m → node_at bound [] (record { render = []; serial = serial }) ≡ Some m
unfolding node_at body_at
node_there serial m h = ap (λ b. made_by (finished (Some b)) serial) bound_body ∙ h

abbrev seen : Seen
seen = all_seen bound []

abbrev array_shape : Shape Value
array_shape = record { label = store.array; slots = shown (tree.Atom one_of) ∷ [] }

abbrev promise_shape : Shape Value
promise_shape = record { label = store.promise; slots = shown (tree.Made bound_array) ∷ [] }

abbrev action_shape : Shape Value
action_shape = record { label = store.action (codes "save"); slots = shown (tree.Made bound_promise) ∷ [] }

array_seen : shape_seen bound seen (key.Made bound_array) ≡ Some array_shape
array_seen = ap (λ o. option_and_then (made_shape bound) o) (node_there 0 array_made refl)

promise_seen : shape_seen bound seen (key.Made bound_promise) ≡ Some promise_shape
promise_seen = ap (λ o. option_and_then (made_shape bound) o) (node_there 1 promise_made refl)

action_seen : shape_seen bound seen (key.Made bound_action) ≡ Some action_shape
action_seen = ap (λ o. option_and_then (made_shape bound) o) (node_there 2 action_made refl)

-- none is a server element
no_job : (serial : ℕ) (m : Made) → slice_get bound_root.after.made serial ≡ Some m → is_server (Some m) ≡ false → job_seen seen (shown (tree.Made (record { render = []; serial = serial }))) ≡ None
no_job serial m at not = ap (λ o. if is_server o then Some (element (record { render = []; serial = serial })) else None) (node_there serial m at) ∙ ap (λ (b : Bool). if b then Some (element (record { render = []; serial = serial })) else None) not

-- ---- the rows

abbrev array_tree : PlaceTree
array_tree = record { kind = row.Model; places = place.Array (1 ∷ []) ∷ place.Atom one_of ∷ [] }

abbrev action_tree : PlaceTree
action_tree = record { kind = row.Model; places = place.Object (record { name = codes "bound"; place = 1 } ∷ record { name = codes "id"; place = 2 } ∷ []) ∷ place.Promise 2 ∷ place.Atom (atom.Text (codes "save")) ∷ [] }

abbrev root_tree : PlaceTree
root_tree = record { kind = row.Model; places = place.Action 1 ∷ [] }

abbrev rows : List PlacedRow
rows = bound_end.rows

abbrev others : List PlacedRow
others = two action_tree root_tree

none_beyond : (n : ℕ) → rows_of (suc (suc (suc n))) rows ≡ []
none_beyond n =
    rows_of-cons (suc (suc (suc n))) (record { id = 2; tree = array_tree }) others
    ∙ (ap (λ b. cond b (array_tree ∷ rows_of (suc (suc (suc n))) others) (rows_of (suc (suc (suc n))) others)) (ne_eqb 2 (suc (suc (suc n))) (λ e. omega (arith, e))) ∙ none_further action_tree root_tree (suc n))

once : (n : ℕ) → IsOnce (rows_of n rows)
once zero = no_close row.Model (λ x. x)
once (suc zero) = no_close row.Model (λ x. x)
once (suc (suc zero)) = no_close row.Model (λ x. x)
once (suc (suc (suc n))) = subst IsOnce (sym (none_beyond n)) tt

fresh : (n : ℕ) → (rows_of n rows ≡ [] → ⊥) → (n ≡ 0) ⊎ local.IsFresh 1 3 n
fresh zero h = inl refl
fresh (suc zero) h = inr (omega arith, omega arith)
fresh (suc (suc zero)) h = inr (omega arith, omega arith)
fresh (suc (suc (suc n))) h = absurd (h (none_beyond n))

abbrev spot : ℕ → ℕ → Spot
spot id n = beside (first_place id) n

abbrev meant : Meant
meant = (spot 0 0, shown (tree.Made bound_action)) ∷ (spot 1 1, shown (tree.Made bound_promise)) ∷ (spot 2 0, shown (tree.Made bound_array)) ∷ (spot 2 1, shown (tree.Atom one_of)) ∷ []

held : (s : Spot) (at : Place) → place_at rows s ≡ Some at → IsPlain at ⊎ ((v : Value) × In (s, v) meant)
held s at h = go s.id s.nth s.at h
  where
    none : (t : PlaceTree) (n k : ℕ) → option_and_then (λ (u : PlaceTree). slice_get u.places k) (slice_get (t ∷ []) (suc n)) ≡ Some at → ⊥
    none t n k q = none-some at q

    go : (id n k : ℕ) → place_at rows (record { id = id; nth = n; at = k }) ≡ Some at → IsPlain at ⊎ ((v : Value) × In (record { id = id; nth = n; at = k }, v) meant)
    go zero zero zero q = inr (shown (tree.Made bound_action), inl refl)
    go zero zero (suc k) q = absurd (none-some at q)
    go zero (suc n) k q = absurd (none root_tree n k q)
    go (suc zero) zero zero q = inl (subst IsPlain (same_Some (place.Object (record { name = codes "bound"; place = 1 } ∷ record { name = codes "id"; place = 2 } ∷ [])) at q) tt)
    go (suc zero) zero (suc zero) q = inr (shown (tree.Made bound_promise), inr (inl refl))
    go (suc zero) zero (suc (suc zero)) q = inl (subst IsPlain (same_Some (place.Atom (atom.Text (codes "save"))) at q) tt)
    go (suc zero) zero (suc (suc (suc k))) q = absurd (none-some at q)
    go (suc zero) (suc n) k q = absurd (none action_tree n k q)
    go (suc (suc zero)) zero zero q = inl (subst IsPlain (same_Some (place.Array (1 ∷ [])) at q) tt)
    go (suc (suc zero)) zero (suc zero) q = inl (subst IsPlain (same_Some (place.Atom one_of) at q) tt)
    go (suc (suc zero)) zero (suc (suc k)) q = absurd (none-some at q)
    go (suc (suc zero)) (suc n) k q = absurd (none array_tree n k q)
    go (suc (suc (suc id))) n k q = absurd (none-some at (sym (ap (λ ts. option_and_then (λ (t : PlaceTree). slice_get t.places k) (slice_get ts n)) (none_beyond id)) ∙ q))

-- ---- the homes

abbrev row_ref : ℕ → Ref
row_ref id = record { id = id; path = [] }

abbrev homes : Homes
homes = (key.Made bound_array, row_ref 2) ∷ (key.Made bound_promise, row_ref 2) ∷ (key.Made bound_action, row_ref 1) ∷ []

abbrev array_home : Identity
array_home = made_at (first_place 2)

array_names : local.Names bound seen rows (key.Made bound_array) (row_ref 2) array_home
array_names = (array_shape, array_seen, (first_place 2, refl, (2, refl)))

promise_names : local.Names bound seen rows (key.Made bound_promise) (row_ref 2) (promise_of 2)
promise_names = (promise_shape, promise_seen, refl)

action_names : local.Names bound seen rows (key.Made bound_action) (row_ref 1) (action_of 1)
action_names = (action_shape, action_seen, refl)

-- what has a name is one of these
named : (k : Key) (a : Ref) (i : Identity) → In (k, a) homes → local.Names bound seen rows k a i → In (k, i) bound_end.homes
named k a i (inl e) p =
    let q = subst (λ (z : Key × Ref). local.Names bound seen rows z.0 z.1 i) e p in
    inl (ap (λ z. (z.0, i)) e ∙ ap (λ z. (key.Made bound_array, z)) (is_placed bound seen rows (key.Made bound_array) (row_ref 2) array_shape (first_place 2) array_seen tt (2, refl) i q))
named k a i (inr (inl e)) p =
    let q = subst (λ (z : Key × Ref). local.Names bound seen rows z.0 z.1 i) e p in
    let is : i ≡ promise_of 2 = subst (λ (z : Label). local.NamesAt z rows (row_ref 2) i) (ap (λ (z : Shape Value). z.label) (same_Some q.0 promise_shape (sym q.1 ∙ promise_seen))) q.2 in
    inr (inl (ap (λ z. (z.0, i)) e ∙ ap (λ z. (key.Made bound_promise, z)) is))
named k a i (inr (inr (inl e))) p =
    let q = subst (λ (z : Key × Ref). local.Names bound seen rows z.0 z.1 i) e p in
    let is : i ≡ action_of 1 = subst (λ (z : Label). local.NamesAt z rows (row_ref 1) i) (ap (λ (z : Shape Value). z.label) (same_Some q.0 action_shape (sym q.1 ∙ action_seen))) q.2 in
    inr (inr (inl (ap (λ z. (z.0, i)) e ∙ ap (λ z. (key.Made bound_action, z)) is)))
named k a i (inr (inr (inr h))) p = absurd h

-- keys and identities told apart
abbrev tell : Key → ℕ
tell (key.Made n) = n.serial
tell k = 9

abbrev tell_home : Identity → ℕ
tell_home (made_at s) = 0
tell_home (promise_of id) = 1
tell_home (action_of id) = 2
tell_home i = 9

three : Distinct {A = ℕ} (0 ∷ 1 ∷ 2 ∷ [])
three = ((λ i. ⊎_elim (λ e. omega (arith, e)) (λ j. ⊎_elim (λ e. omega (arith, e)) (λ h. h) j) i), ((λ i. ⊎_elim (λ e. omega (arith, e)) (λ h. h) i), ((λ i. i), tt)))

no_row_key : (k : Key) (a : Ref) → In (k, a) homes → IsRowKey k → ⊥
no_row_key k a i = each_in (λ (z : Key × Ref). IsRowKey z.0 → ⊥) homes ((λ r. r), ((λ r. r), ((λ r. r), tt))) (k, a) i

here : EmitsHere bound seen (shown (tree.Made bound_action)) 0 1 3 [] homes rows [] meant
here =
    record {
      own = (refl, inl refl);
      adds = record {
        up = omega arith;
        once = once;
        row_fresh = fresh;
        held = held;
        more = homes;
        homes = refl;
        new_key = λ k a b i j. j;
        one_home = λ k a b i j. ap (λ (z : Key × Ref). z.1) (once_by (λ (z : Key × Ref). tell z.0) homes three (k, a) (k, b) i j refl);
        one_key = λ k l a b n i j p q. ap (λ (z : Key × Identity). z.0) (once_by (λ (z : Key × Identity). tell_home z.1) bound_end.homes three (k, n) (l, n) (named k a n i p) (named l b n j q) refl);
        home_fresh = λ k a n i p. each_in (λ (z : Key × Identity). local.IsNewHome 1 3 z.1) bound_end.homes (tt, ((omega arith, omega arith), ((omega arith, omega arith), tt))) (k, n) (named k a n i p);
        row_fresh_key = λ k a is i. absurd (no_row_key k a i is);
        one_row_key = λ k l a b r q i j e. absurd (no_row_key k a i r);
        is_home = λ k a i. each_in (λ (z : Key × Ref). local.HomeHere bound seen rows [] meant z.0 z.1) homes (
          record {
            identity = array_home;
            names = array_names;
            lone = tt;
            here = array_shape;
            there = record { label = store.array; slots = at_place (spot 2 1) ∷ [] };
            is_here = array_seen;
            is_there = refl;
            labels = refl;
            slots = (local.at_spot (spot 2 1) (inr (inr (inr (inl refl)))), tt);
          },
          (
            record {
              identity = promise_of 2;
              names = promise_names;
              lone = tt;
              here = promise_shape;
              there = record { label = store.promise; slots = wire.value_of 2 ∷ [] };
              is_here = promise_seen;
              is_there = refl;
              labels = refl;
              slots = (local.at_row 2 refl (inr (inr (inl refl))), tt);
            },
            (
              record {
                identity = action_of 1;
                names = action_names;
                lone = tt;
                here = action_shape;
                there = record { label = store.action (codes "save"); slots = at_place (spot 1 1) ∷ [] };
                is_here = action_seen;
                is_there = refl;
                labels = refl;
                slots = (local.at_spot (spot 1 1) (inr (inl refl)), tt);
              },
              tt,
            ),
          ),
        ) (k, a) i;
        places = λ s v i. each_in (λ (z : Spot × Value). (at : Place) × (place_at rows z.0 ≡ Some at) × local.WrittenHere bound seen homes homes rows (Some z.0) at z.1) meant (
          (place.Action 1, refl, local.a_reference (key.Made bound_action) (row_ref 1) action_shape (action_made, node_there 2 action_made refl) (no_job 2 action_made refl refl) refl tt (inr (inr (inl refl))) action_seen refl),
          (
            (place.Promise 2, refl, local.a_reference (key.Made bound_promise) (row_ref 2) promise_shape (promise_made, node_there 1 promise_made refl) (no_job 1 promise_made refl refl) refl tt (inr (inl refl)) promise_seen refl),
            (
              (place.Array (1 ∷ []), refl, local.its_home (key.Made bound_array) (row_ref 2) (first_place 2) refl (array_made, node_there 0 array_made refl) (no_job 0 array_made refl refl) refl tt (inl refl) array_names),
              ((place.Atom one_of, refl, local.an_atom one_of refl refl (sure one_of tt)), tt),
            ),
          ),
        ) (s, v) i;
        born_once = tt;
        born_fresh = λ u w i. absurd i;
        born_met = λ u w i. absurd i;
        born_tables = λ u w i. absurd i;
        unwritten = λ u w i. absurd i;
        for_stream = λ u w n i. absurd i;
      };
    }

-- ---- the run

abbrev root_running : State
root_running = record (opening bound) { tasks = taken [] first_task ∷ [] }

root_taken : TakeStep (opening bound) root_running 0
root_taken = record { task = first_task; is_task = refl; was = refl; now = refl }

abbrev root_finishes : DoneStep bound root_running bound_end 0
root_finishes =
    record {
      task = taken [] first_task;
      is_task = refl;
      turn = 1;
      was = refl;
      end = gave (tree.Made bound_action);
      finds = ap (λ (z : Run Tree). z.step) bound_body;
      finishes = tt;
      rows = (rows, refl);
      homes = (bound_end.homes, refl);
      others = ([], refl);
      counted = (bound_end.counted, refl);
      born = [];
      tasks = refl;
      are_ready = λ t i. absurd i;
      rest = refl;
    }

root_writes : WritesHere bound root_running bound_end 0 1 3 [] homes
unfolding here
root_writes =
    record {
      step = root_finishes;
      alone = refl;
      seen = seen;
      shows = all_shows bound [];
      rows = rows;
      births = [];
      meant = meant;
      local = here;
      adopts = record {
        same_rows = refl;
        same_births = refl;
        into = λ k i p. each_in (λ (z : Key × Identity). IsNodeKey z.0 × ((a : Ref) × In (z.0, a) homes × local.Names bound seen rows z.0 a z.1)) bound_end.homes ((tt, (row_ref 2, inl refl, array_names)), ((tt, (row_ref 2, inr (inl refl), promise_names)), ((tt, (row_ref 1, inr (inr (inl refl)), action_names)), tt))) (k, i) (contains_in bound_end.homes (k, i) p);
        onto = λ k a i is h names. in_contains bound_end.homes (k, i) (named k a i h names);
        into_rows = λ k id i. absurd i;
        onto_rows = λ k a is h. absurd (no_row_key k a h is);
        own_counted = (6, inl refl);
        given_counted = λ n end h. absurd (none-some end h);
        counted_once = ((λ h. h), tt);
        new_counted = λ address cost i. each_in (λ (z : List ℕ × ℕ). Rendered bound [] z.0 z.1) bound_end.counted (root_rendered bound [] bound_root bound_body tt, tt) (address, cost) i;
      };
    }

at_root_running : Going bound root_running [] 1
at_root_running = takes bound (opening bound) root_running 0 1 [] (opens bound) root_taken

at_end : Going bound bound_end homes 3
at_end = writes bound bound_valid root_running bound_end 0 1 3 [] homes at_root_running root_writes

pub bound_runs : steps.Run bound bound_events (opening bound) bound_end
bound_runs = (root_running, record { does = root_taken; fits = at_root_running.fits }, (bound_end, record { does = root_finishes; fits = at_end.fits }, refl))

pub bound_closed : IsClosed bound_end
bound_closed = each_in (λ (t : Task). t.status ≡ status.Done) bound_end.tasks (refl, tt)

-- ---- what it means

abbrev pairs : List (ℕ × Identity)
pairs = (2, array_home) ∷ (1, promise_of 2) ∷ (0, action_of 1) ∷ []

numbers : Distinct {A = ℕ} (2 ∷ 1 ∷ 0 ∷ [])
numbers = ((λ i. ⊎_elim (λ e. omega (arith, e)) (λ j. ⊎_elim (λ e. omega (arith, e)) (λ h. h) j) i), ((λ i. ⊎_elim (λ e. omega (arith, e)) (λ h. h) i), ((λ i. i), tt)))

pub bound_means : DrawOneGraph (of_graph bound_graph) (meaning bound_end.rows)
bound_means = (
  pairs,
  record {
    one_there = λ k l m p q. ap (λ (z : ℕ × Identity). z.1) (once_by (λ (z : ℕ × Identity). z.0) pairs numbers (k, l) (k, m) (contains_in pairs (k, l) p) (contains_in pairs (k, m) q) refl);
    one_here = λ k j l p q. ap (λ (z : ℕ × Identity). z.0) (once_by (λ (z : ℕ × Identity). tell_home z.1) pairs three (k, l) (j, l) (contains_in pairs (k, l) p) (contains_in pairs (j, l) q) refl);
    roots = record {
      here = store.node_at 0;
      there = store.node_at (action_of 1);
      leads_here = refl;
      leads_there = inl (found (first_place 0), (2, refl), refl);
      targets_fit = in_contains pairs (0, action_of 1) (inr (inr (inl refl)));
    };
    each = λ k l p. each_in (λ (z : ℕ × Identity). store.NodesFit (Paired pairs) (of_graph bound_graph) (meaning bound_end.rows) z.0 z.1) pairs (
      record {
        here = record { label = store.array; slots = slot.Atom one_of ∷ [] };
        there = record { label = store.array; slots = at_place (spot 2 1) ∷ [] };
        is_here = refl;
        is_there = refl;
        labels = refl;
        slots_fit = (record { here = store.atom one_of; there = store.atom one_of; leads_here = refl; leads_there = inl (found (spot 2 1), (1, refl), refl); targets_fit = refl }, tt);
      },
      (
        record {
          here = record { label = store.promise; slots = slot.Node 2 ∷ [] };
          there = record { label = store.promise; slots = wire.value_of 2 ∷ [] };
          is_here = refl;
          is_there = refl;
          labels = refl;
          slots_fit = (record { here = store.node_at 2; there = store.node_at array_home; leads_here = refl; leads_there = inl (found (first_place 2), (2, refl), refl); targets_fit = in_contains pairs (2, array_home) (inl refl) }, tt);
        },
        (
          record {
            here = record { label = store.action (codes "save"); slots = slot.Node 1 ∷ [] };
            there = record { label = store.action (codes "save"); slots = at_place (spot 1 1) ∷ [] };
            is_here = refl;
            is_there = refl;
            labels = refl;
            slots_fit = (record { here = store.node_at 1; there = store.node_at (promise_of 2); leads_here = refl; leads_there = inl (found (spot 1 1), (1, refl), refl); targets_fit = in_contains pairs (1, promise_of 2) (inr (inl refl)) }, tt);
          },
          tt,
        ),
      ),
    ) (k, l) (contains_in pairs (k, l) p);
  },
)
