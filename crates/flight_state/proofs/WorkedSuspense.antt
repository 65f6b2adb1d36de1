-- The worked run of a Suspense boundary.
use Rattle.std.proofs.Common.{◌≡◌, ℕ, ◌⊎◌, inl, inr, ⊎_elim, List, [], ◌∷◌, zero, suc, Some, None, refl, sym, ap, ◌∙◌, subst, arith, option_and_then}
use Rattle.std.proofs.lemmas.Option.{none-some, same_Some}
use Rattle.std.specs.Prelude.{codes, if◌then◌else◌, slice_get}
use Rattle.std.proofs.lemmas.List.Elements.{All-from_recursion}
use Rattle.flight_value.specs.Store as store
use Rattle.flight_value.specs.Store.{DrawOneGraph, of_graph, Paired, Shape}
use Rattle.flight_value.specs.declared.graph.Slot.TheVariants as slot
use Rattle.flight_value.specs.declared.graph.Atom.TheVariants as atom
use Rattle.flight_value.specs.declared.key.Key.{Key}
use Rattle.flight_value.specs.declared.key.Key.TheVariants as key
use Rattle.flight_value.specs.declared.made.Made.{Made}
use Rattle.flight_value.specs.declared.made.MadeKind.TheVariants as kind
use Rattle.flight_value.specs.declared.made.Tree.{Tree}
use Rattle.flight_value.specs.declared.made.Tree.TheVariants as tree
use Rattle.flight_value.specs.Listed.{In}
use Rattle.flight_text.specs.declared.mark.Ref.{Ref}
use Rattle.flight_syntax.specs.declared.expr.Expr.{Expr}
use Rattle.flight_syntax.specs.declared.expr.Expr as expr
use Rattle.flight_syntax.specs.declared.expr.Tag.TheVariants as tag
use Rattle.flight_syntax.specs.Term as term
use Rattle.flight_syntax.specs.Term.{Term}
use Rattle.flight_syntax.proofs.Terms.{term-Element}
use Rattle.flight_render.specs.Run.{gave, Run}
use Rattle.flight_render.specs.Body.{root_body}
use Rattle.flight_render.specs.Bodies.{body_at, node_at, made_by, finished}
use Rattle.flight_render.specs.Jobs.{element, shown, is_server, Value}
use Rattle.flight_render.specs.Plain.{made_shape}
use Rattle.flight_render.specs.Costs.{Rendered}
use Rattle.flight_render.specs.Valid.{IsValidGround, IsDeclared, IsLawful}
use Rattle.flight_meaning.specs.Linked.{first_place, beside, Spot, place_at}
use Rattle.flight_meaning.specs.Resolve.{found}
use Rattle.flight_meaning.specs.Meaning.{meaning, at_place, Identity, made_at}
use Rattle.flight_meaning.specs.declared.place.Place.{Place}
use Rattle.flight_meaning.specs.declared.place.Place.TheVariants as place
use Rattle.flight_meaning.specs.declared.place.PlacedRow.{PlacedRow}
use Rattle.flight_state.specs.declared.status.Status.TheVariants as status
use Rattle.flight_state.specs.State.{State, IsClosed, Task}
use Rattle.flight_state.specs.Steps as steps
use Rattle.flight_state.specs.Steps.{taken, first_task, opening, DoneStep, TakeStep, PingStep}
use Rattle.flight_state.specs.Emits.{IsPlain, Meant}
use Rattle.flight_state.specs.Local as local
use Rattle.flight_state.specs.Local.{WritesHere, Homes, Births, Seen, IsNodeKey, IsRowKey, EmitsHere, job_seen, shape_seen}
use Rattle.flight_state.specs.Worked.{hello, suspense, boundary, inside, outside, boundary_events, boundary_end, boundary_graph}
use Rattle.flight_state.proofs.Going.{Going, opens, takes, writes}
use Rattle.flight_state.proofs.Apps.{app_script, no_name, app_body, root_rendered}
use Rattle.flight_state.proofs.Singles.{each_in, once_by, contains_in, in_contains, sure, is_placed, two_rows, two_once, two_places, no_close}
use Rattle.flight_syntax.proofs.Terms.{term-Atom}
use Rattle.flight_state.specs.Local.{Shows}
use Rattle.flight_row.specs.declared.row.RowKind.TheVariants as row
use Rattle.flight_value.specs.Listed.{Distinct}
use Rattle.flight_meaning.specs.declared.place.PlaceTree.{PlaceTree}
use Rattle.flight_meaning.specs.Linked.{beside}
use Rattle.flight_state.specs.Fits.{IsAtomRow}
use Rattle.flight_state.proofs.Apps.{all_seen, all_shows}

-- ---- the ground

abbrev boundary_term : Term
boundary_term = term.element tag.Suspense term.no_props (term.terms_of (term.atom hello ∷ []))

boundary_is : term.term (expr.Element tag.Suspense [] (expr.Atom hello ∷ [])) ≡ boundary_term
boundary_is = term-Element tag.Suspense [] (expr.Atom hello ∷ []) ∙ ap (λ t. term.element tag.Suspense term.no_props (term.terms_of (t ∷ []))) (term-Atom hello)

pub boundary_valid : IsValidGround boundary
boundary_valid =
    record {
      each = All-from_recursion (IsDeclared boundary) boundary.program.declared ((tt, subst (IsLawful boundary 0) (sym boundary_is) (tt, tt, tt, tt, (tt, tt))), tt);
      one_component = (tt, tt);
      one_action = tt;
      has_app = (0, ([], (expr.Element tag.Suspense [] (expr.Atom hello ∷ []), refl)));
      script = app_script [] [] (omega arith) (omega arith) no_name no_name tt tt;
      first = tt;
    }

-- ---- the body

abbrev inside_made : Made
inside_made = record { kind = kind.Object (codes "children" ∷ []); slots = tree.Atom hello ∷ [] }

abbrev outside_made : Made
outside_made = record { kind = kind.Element; slots = tree.Atom (atom.Symbol suspense) ∷ tree.Atom atom.Null ∷ tree.Made inside ∷ [] }

abbrev boundary_root : Run Tree
boundary_root = record { after = record { made = inside_made ∷ outside_made ∷ []; cost = 20 }; step = gave (tree.Made outside) }

boundary_body : root_body boundary [] ≡ boundary_root
boundary_body = app_body boundary [] (expr.Element tag.Suspense [] (expr.Atom hello ∷ [])) boundary_term boundary_is refl

node_there : (serial : ℕ) (m : Made) → slice_get boundary_root.after.made serial ≡ Some m → node_at boundary [] (record { render = []; serial = serial }) ≡ Some m
unfolding node_at body_at
node_there serial m h = ap (λ b. made_by (finished (Some b)) serial) boundary_body ∙ h

abbrev seen : Seen
seen = all_seen boundary []

abbrev outside_shape : Shape Value
outside_shape = record { label = store.element; slots = shown (tree.Atom (atom.Symbol suspense)) ∷ shown (tree.Atom atom.Null) ∷ shown (tree.Made inside) ∷ [] }

abbrev inside_shape : Shape Value
inside_shape = record { label = store.object (codes "children" ∷ []); slots = shown (tree.Atom hello) ∷ [] }

outside_seen : shape_seen boundary seen (key.Made outside) ≡ Some outside_shape
outside_seen = ap (λ o. option_and_then (made_shape boundary) o) (node_there 1 outside_made refl)

inside_seen : shape_seen boundary seen (key.Made inside) ≡ Some inside_shape
inside_seen = ap (λ o. option_and_then (made_shape boundary) o) (node_there 0 inside_made refl)

outside_no_job : job_seen seen (shown (tree.Made outside)) ≡ None
outside_no_job = ap (λ o. if is_server o then Some (element outside) else None) (node_there 1 outside_made refl)

inside_no_job : job_seen seen (shown (tree.Made inside)) ≡ None
inside_no_job = ap (λ o. if is_server o then Some (element inside) else None) (node_there 0 inside_made refl)

-- ---- the rows

abbrev place_of : ℕ → Spot
place_of n = beside (first_place 0) n

abbrev symbol_tree : PlaceTree
symbol_tree = record { kind = row.Model; places = place.Atom (atom.Symbol suspense) ∷ [] }

abbrev row_ref : ℕ → Ref
row_ref id = record { id = id; path = [] }

abbrev element_tree : PlaceTree
element_tree =
    record {
      kind = row.Model;
      places =
          place.Element 2 3 4 ∷ place.Atom (atom.Text (codes "$")) ∷ place.Value (row_ref 1) ∷ place.Atom atom.Null
          ∷ place.Object (record { name = codes "children"; place = 5 } ∷ []) ∷ place.Atom hello ∷ [];
    }

abbrev rows : List PlacedRow
rows = boundary_end.rows

abbrev inside_ref : Ref
inside_ref = record { id = 0; path = codes "props" ∷ [] }

abbrev homes : Homes
homes = (key.Made outside, row_ref 0) ∷ (key.Made inside, inside_ref) ∷ (key.Symbol suspense, row_ref 1) ∷ []

abbrev meant : Meant
meant =
    (place_of 0, shown (tree.Made outside)) ∷ (place_of 2, shown (tree.Atom (atom.Symbol suspense))) ∷ (place_of 3, shown (tree.Atom atom.Null))
    ∷ (place_of 4, shown (tree.Made inside)) ∷ (place_of 5, shown (tree.Atom hello)) ∷ []

outside_names : local.Names boundary seen rows (key.Made outside) (row_ref 0) (made_at (place_of 0))
outside_names = (outside_shape, outside_seen, (place_of 0, refl, (2, refl)))

inside_names : local.Names boundary seen rows (key.Made inside) inside_ref (made_at (place_of 4))
inside_names = (inside_shape, inside_seen, (place_of 4, refl, (3, refl)))

-- what has a name is one of both nodes; the symbol has none
named : (k : Key) (a : Ref) (i : Identity) → In (k, a) homes → local.Names boundary seen rows k a i → In (k, i) boundary_end.homes
named k a i (inl e) p =
    let q = subst (λ (z : Key × Ref). local.Names boundary seen rows z.0 z.1 i) e p in
    inl (ap (λ z. (z.0, i)) e ∙ ap (λ z. (key.Made outside, z)) (is_placed boundary seen rows (key.Made outside) (row_ref 0) outside_shape (place_of 0) outside_seen tt (2, refl) i q))
named k a i (inr (inl e)) p =
    let q = subst (λ (z : Key × Ref). local.Names boundary seen rows z.0 z.1 i) e p in
    inr (inl (ap (λ z. (z.0, i)) e ∙ ap (λ z. (key.Made inside, z)) (is_placed boundary seen rows (key.Made inside) inside_ref inside_shape (place_of 4) inside_seen tt (3, refl) i q)))
named k a i (inr (inr (inl e))) p = let q = subst (λ (z : Key × Ref). local.Names boundary seen rows z.0 z.1 i) e p in absurd (none-some q.0 q.1)
named k a i (inr (inr (inr h))) p = absurd h

-- keys, identities told apart
abbrev tell : Key → ℕ
tell (key.Made n) = n.serial
tell k = 2

abbrev tell_home : Identity → ℕ
tell_home (made_at s) = s.at
tell_home i = 9

serials : Distinct {A = ℕ} (1 ∷ 0 ∷ 2 ∷ [])
serials = ((λ i. ⊎_elim (λ e. omega (arith, e)) (λ j. ⊎_elim (λ e. omega (arith, e)) (λ h. h) j) i), ((λ i. ⊎_elim (λ e. omega (arith, e)) (λ h. h) i), ((λ i. i), tt)))

numbers : (a b : ℕ) → (a ≡ b → ⊥) → Distinct {A = ℕ} (a ∷ b ∷ [])
numbers a b f = ((λ i. ⊎_elim (λ e. f e) (λ h. h) i), ((λ i. i), tt))

-- only the symbol is the key of a row
row_key : (k : Key) (a : Ref) → In (k, a) homes → IsRowKey k → (k ≡ key.Symbol suspense) × (a ≡ row_ref 1)
row_key k a i = each_in (λ (z : Key × Ref). IsRowKey z.0 → (z.0 ≡ key.Symbol suspense) × (z.1 ≡ row_ref 1)) homes ((λ r. absurd r), ((λ r. absurd r), ((λ r. (refl, refl)), tt))) (k, a) i

symbol_row : IsAtomRow rows 1 (atom.Symbol suspense)
symbol_row = ((2, refl), refl)

here : EmitsHere boundary seen (shown (tree.Made outside)) 0 1 2 [] homes rows [] meant
here =
    record {
      own = (refl, inl refl);
      adds = record {
        up = omega arith;
        once = two_once symbol_tree element_tree (no_close row.Model (λ x. x)) (no_close row.Model (λ x. x));
        row_fresh = λ n h. ⊎_elim (λ e. inr (omega (arith, e.0), omega (arith, e.0))) (λ x. ⊎_elim (λ e. inl e.0) (λ e. absurd (h e)) x) (two_rows symbol_tree element_tree n);
        held = λ s at h. ⊎_elim (λ e. inl (symbol_held s.at at e.1)) (λ e. element_held s s.at at e.0 e.1) (two_places symbol_tree element_tree s at h);
        more = homes;
        homes = refl;
        new_key = λ k a b i j. j;
        one_home = λ k a b i j. ap (λ (z : Key × Ref). z.1) (once_by (λ (z : Key × Ref). tell z.0) homes serials (k, a) (k, b) i j refl);
        one_key = λ k l a b n i j p q. ap (λ (z : Key × Identity). z.0) (once_by (λ (z : Key × Identity). tell_home z.1) boundary_end.homes (numbers 0 4 (λ e. omega (arith, e))) (k, n) (l, n) (named k a n i p) (named l b n j q) refl);
        home_fresh = λ k a n i p. each_in (λ (z : Key × Identity). local.IsNewHome 1 2 z.1) boundary_end.homes (tt, (tt, tt)) (k, n) (named k a n i p);
        row_fresh_key = λ k a is i. let e = ap (λ (z : Ref). z.id) (row_key k a i is).1 in (omega (arith, e), omega (arith, e));
        one_row_key = λ k l a b r q i j e. (row_key k a i r).0 ∙ sym (row_key l b j q).0;
        is_home = λ k a i. each_in (λ (z : Key × Ref). local.HomeHere boundary seen rows [] meant z.0 z.1) homes (
          record {
            identity = made_at (place_of 0);
            names = outside_names;
            lone = tt;
            here = outside_shape;
            there = record { label = store.element; slots = at_place (place_of 2) ∷ at_place (place_of 3) ∷ at_place (place_of 4) ∷ [] };
            is_here = outside_seen;
            is_there = refl;
            labels = refl;
            slots = (local.at_spot (place_of 2) (inr (inl refl)), (local.at_spot (place_of 3) (inr (inr (inl refl))), (local.at_spot (place_of 4) (inr (inr (inr (inl refl)))), tt)));
          },
          (
            record {
              identity = made_at (place_of 4);
              names = inside_names;
              lone = tt;
              here = inside_shape;
              there = record { label = store.object (codes "children" ∷ []); slots = at_place (place_of 5) ∷ [] };
              is_here = inside_seen;
              is_there = refl;
              labels = refl;
              slots = (local.at_spot (place_of 5) (inr (inr (inr (inr (inl refl))))), tt);
            },
            (symbol_row, tt),
          ),
        ) (k, a) i;
        places = λ s v i. each_in (λ (z : Spot × Value). (at : Place) × (place_at rows z.0 ≡ Some at) × local.WrittenHere boundary seen homes homes rows (Some z.0) at z.1) meant (
          (place.Element 2 3 4, refl, local.its_home (key.Made outside) (row_ref 0) (place_of 0) refl (outside_made, node_there 1 outside_made refl) outside_no_job refl tt (inl refl) outside_names),
          (
            (place.Value (row_ref 1), refl, local.a_known_atom (atom.Symbol suspense) (key.Symbol suspense) (row_ref 1) (inr refl) (inr (inr (inl refl))) refl refl),
            (
              (place.Atom atom.Null, refl, local.an_atom atom.Null refl refl (sure atom.Null tt)),
              (
                (place.Object (record { name = codes "children"; place = 5 } ∷ []), refl, local.its_home (key.Made inside) inside_ref (place_of 4) refl (inside_made, node_there 0 inside_made refl) inside_no_job refl tt (inr (inl refl)) inside_names),
                ((place.Atom hello, refl, local.an_atom hello refl refl (sure hello tt)), tt),
              ),
            ),
          ),
        ) (s, v) i;
        born_once = tt;
        born_fresh = λ u w i. absurd i;
        born_met = λ u w i. absurd i;
        born_tables = λ u w i. absurd i;
        unwritten = λ u w i. absurd i;
        for_stream = λ u w n i. absurd i;
      };
    }
  where
    symbol_held : (n : ℕ) (at : Place) → slice_get symbol_tree.places n ≡ Some at → IsPlain at
    symbol_held zero at h = subst IsPlain (same_Some (place.Atom (atom.Symbol suspense)) at h) tt
    symbol_held (suc n) at h = absurd (none-some at h)

    element_held : (s : Spot) (n : ℕ) (at : Place) → s ≡ record { id = 0; nth = 0; at = n } → slice_get element_tree.places n ≡ Some at → IsPlain at ⊎ ((v : Value) × In (s, v) meant)
    element_held s zero at e h = inl (subst IsPlain (same_Some (place.Element 2 3 4) at h) tt)
    element_held s (suc zero) at e h = inl (subst IsPlain (same_Some (place.Atom (atom.Text (codes "$"))) at h) tt)
    element_held s (suc (suc zero)) at e h = inr (shown (tree.Atom (atom.Symbol suspense)), inr (inl (ap (λ z. (z, shown (tree.Atom (atom.Symbol suspense)))) e)))
    element_held s (suc (suc (suc zero))) at e h = inl (subst IsPlain (same_Some (place.Atom atom.Null) at h) tt)
    element_held s (suc (suc (suc (suc zero)))) at e h = inl (subst IsPlain (same_Some (place.Object (record { name = codes "children"; place = 5 } ∷ [])) at h) tt)
    element_held s (suc (suc (suc (suc (suc zero))))) at e h = inl (subst IsPlain (same_Some (place.Atom hello) at h) tt)
    element_held s (suc (suc (suc (suc (suc (suc n)))))) at e h = absurd (none-some at h)

-- ---- the run

abbrev root_running : State
root_running = record (opening boundary) { tasks = taken [] first_task ∷ [] }

root_taken : TakeStep (opening boundary) root_running 0
root_taken = record { task = first_task; is_task = refl; was = refl; now = refl }

abbrev root_finishes : DoneStep boundary root_running boundary_end 0
root_finishes =
    record {
      task = taken [] first_task;
      is_task = refl;
      turn = 1;
      was = refl;
      end = gave (tree.Made outside);
      finds = ap (λ (z : Run Tree). z.step) boundary_body;
      finishes = tt;
      rows = (rows, refl);
      homes = (boundary_end.homes, refl);
      others = (boundary_end.others, refl);
      counted = (boundary_end.counted, refl);
      born = [];
      tasks = refl;
      are_ready = λ t i. absurd i;
      rest = refl;
    }

root_writes : WritesHere boundary root_running boundary_end 0 1 2 [] homes
unfolding here
root_writes =
    record {
      step = root_finishes;
      alone = refl;
      seen = seen;
      shows = all_shows boundary [];
      rows = rows;
      births = [];
      meant = meant;
      local = here;
      adopts = record {
        same_rows = refl;
        same_births = refl;
        into = λ k i p. each_in (λ (z : Key × Identity). IsNodeKey z.0 × ((a : Ref) × In (z.0, a) homes × local.Names boundary seen rows z.0 a z.1)) boundary_end.homes ((tt, (row_ref 0, inl refl, outside_names)), ((tt, (inside_ref, inr (inl refl), inside_names)), tt)) (k, i) (contains_in boundary_end.homes (k, i) p);
        onto = λ k a i is h names. in_contains boundary_end.homes (k, i) (named k a i h names);
        into_rows = λ k id i. each_in (λ (z : Key × ℕ). IsRowKey z.0 × ((a : Ref) × In (z.0, a) homes × (a.id ≡ z.1))) boundary_end.others ((tt, (row_ref 1, inr (inr (inl refl)), refl)), tt) (k, id) i;
        onto_rows = λ k a is h. let e = row_key k a h is in inl (ap (λ z. (z, a.id)) e.0 ∙ ap (λ (z : Ref). (key.Symbol suspense, z.id)) e.1);
        own_counted = (20, inl refl);
        given_counted = λ n end h. absurd (none-some end h);
        counted_once = ((λ h. h), tt);
        new_counted = λ address cost i. each_in (λ (z : List ℕ × ℕ). Rendered boundary [] z.0 z.1) boundary_end.counted (root_rendered boundary [] boundary_root boundary_body tt, tt) (address, cost) i;
      };
    }

at_root_running : Going boundary root_running [] 1
at_root_running = takes boundary (opening boundary) root_running 0 1 [] (opens boundary) root_taken

at_end : Going boundary boundary_end homes 2
at_end = writes boundary boundary_valid root_running boundary_end 0 1 2 [] homes at_root_running root_writes

pub boundary_runs : steps.Run boundary boundary_events (opening boundary) boundary_end
boundary_runs = (root_running, record { does = root_taken; fits = at_root_running.fits }, (boundary_end, record { does = root_finishes; fits = at_end.fits }, refl))

pub boundary_closed : IsClosed boundary_end
boundary_closed = each_in (λ (t : Task). t.status ≡ status.Done) boundary_end.tasks (refl, tt)

-- ---- what it means

abbrev pairs : List (ℕ × Identity)
pairs = (0, made_at (place_of 0)) ∷ (1, made_at (place_of 4)) ∷ []

pub boundary_means : DrawOneGraph (of_graph boundary_graph) (meaning boundary_end.rows)
boundary_means = (
  pairs,
  record {
    one_there = λ k l m p q. ap (λ (z : ℕ × Identity). z.1) (once_by (λ (z : ℕ × Identity). z.0) pairs (numbers 0 1 (λ e. omega (arith, e))) (k, l) (k, m) (contains_in pairs (k, l) p) (contains_in pairs (k, m) q) refl);
    one_here = λ k j l p q. ap (λ (z : ℕ × Identity). z.0) (once_by (λ (z : ℕ × Identity). tell_home z.1) pairs (numbers 0 4 (λ e. omega (arith, e))) (k, l) (j, l) (contains_in pairs (k, l) p) (contains_in pairs (j, l) q) refl);
    roots = record {
      here = store.node_at 0;
      there = store.node_at (made_at (place_of 0));
      leads_here = refl;
      leads_there = inl (found (place_of 0), (2, refl), refl);
      targets_fit = in_contains pairs (0, made_at (place_of 0)) (inl refl);
    };
    each = λ k l p. each_in (λ (z : ℕ × Identity). store.NodesFit (Paired pairs) (of_graph boundary_graph) (meaning boundary_end.rows) z.0 z.1) pairs (
      record {
        here = record { label = store.element; slots = slot.Atom (atom.Symbol suspense) ∷ slot.Atom atom.Null ∷ slot.Node 1 ∷ [] };
        there = record { label = store.element; slots = at_place (place_of 2) ∷ at_place (place_of 3) ∷ at_place (place_of 4) ∷ [] };
        is_here = refl;
        is_there = refl;
        labels = refl;
        slots_fit = (
          record { here = store.atom (atom.Symbol suspense); there = store.atom (atom.Symbol suspense); leads_here = refl; leads_there = inl (found (first_place 1), (3, refl), refl); targets_fit = refl },
          (
            record { here = store.atom atom.Null; there = store.atom atom.Null; leads_here = refl; leads_there = inl (found (place_of 3), (1, refl), refl); targets_fit = refl },
            (record { here = store.node_at 1; there = store.node_at (made_at (place_of 4)); leads_here = refl; leads_there = inl (found (place_of 4), (1, refl), refl); targets_fit = in_contains pairs (1, made_at (place_of 4)) (inr (inl refl)) }, tt),
          ),
        );
      },
      (
        record {
          here = record { label = store.object (codes "children" ∷ []); slots = slot.Atom hello ∷ [] };
          there = record { label = store.object (codes "children" ∷ []); slots = at_place (place_of 5) ∷ [] };
          is_here = refl;
          is_there = refl;
          labels = refl;
          slots_fit = (record { here = store.atom hello; there = store.atom hello; leads_here = refl; leads_there = inl (found (place_of 5), (1, refl), refl); targets_fit = refl }, tt);
        },
        tt,
      ),
    ) (k, l) (contains_in pairs (k, l) p);
  },
)
