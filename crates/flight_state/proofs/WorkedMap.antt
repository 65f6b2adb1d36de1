-- The worked run of a Map.
use Rattle.std.proofs.Common.{◌≡◌, ℕ, ◌⊎◌, inl, inr, ⊎_elim, List, [], ◌∷◌, zero, suc, Some, None, refl, sym, ap, ◌∙◌, subst, arith, option_and_then}
use Rattle.std.proofs.lemmas.Option.{none-some, same_Some}
use Rattle.std.specs.Prelude.{if◌then◌else◌, slice_get}
use Rattle.std.proofs.lemmas.List.Elements.{All-from_recursion}
use Rattle.flight_value.specs.Store as store
use Rattle.flight_value.specs.Store.{DrawOneGraph, of_graph, Paired, Shape}
use Rattle.flight_value.specs.declared.graph.Slot.TheVariants as slot
use Rattle.flight_value.specs.declared.key.Key.{Key}
use Rattle.flight_value.specs.declared.key.Key.TheVariants as key
use Rattle.flight_value.specs.declared.made.Made.{Made}
use Rattle.flight_value.specs.declared.made.MadeKind.TheVariants as kind
use Rattle.flight_value.specs.declared.made.Tree.{Tree}
use Rattle.flight_value.specs.declared.made.Tree.TheVariants as tree
use Rattle.flight_value.specs.Listed.{In}
use Rattle.flight_text.specs.declared.mark.Ref.{Ref}
use Rattle.flight_syntax.specs.declared.expr.Expr.{Expr}
use Rattle.flight_syntax.specs.declared.expr.Expr as expr
use Rattle.flight_syntax.specs.Term as term
use Rattle.flight_syntax.specs.Term.{Term}
use Rattle.flight_render.specs.Run.{gave, Run}
use Rattle.flight_render.specs.Body.{root_body}
use Rattle.flight_render.specs.Bodies.{body_at, node_at, made_by, finished}
use Rattle.flight_render.specs.Jobs.{element, shown, is_server, Value}
use Rattle.flight_render.specs.Plain.{made_shape}
use Rattle.flight_render.specs.Costs.{Rendered}
use Rattle.flight_render.specs.Valid.{IsValidGround, IsDeclared, IsLawful}
use Rattle.flight_meaning.specs.Linked.{first_place, beside, Spot, place_at}
use Rattle.flight_meaning.specs.Resolve.{found}
use Rattle.flight_meaning.specs.Meaning.{meaning, at_place, Identity, made_at}
use Rattle.flight_meaning.specs.declared.place.Place.{Place}
use Rattle.flight_meaning.specs.declared.place.Place.TheVariants as place
use Rattle.flight_meaning.specs.declared.place.PlacedRow.{PlacedRow}
use Rattle.flight_state.specs.declared.status.Status.TheVariants as status
use Rattle.flight_state.specs.State.{State, IsClosed, Task}
use Rattle.flight_state.specs.Steps as steps
use Rattle.flight_state.specs.Steps.{taken, first_task, opening, DoneStep, TakeStep, PingStep}
use Rattle.flight_state.specs.Emits.{IsPlain, Meant}
use Rattle.flight_state.specs.Local as local
use Rattle.flight_state.specs.Local.{WritesHere, Homes, Births, Seen, IsNodeKey, IsRowKey, EmitsHere, job_seen, shape_seen}
use Rattle.flight_state.specs.Worked.{letter, one_of, mapped, the_map, mapped_events, mapped_end, mapped_graph}
use Rattle.flight_state.proofs.Going.{Going, opens, takes, writes}
use Rattle.flight_state.proofs.Apps.{app_script, no_name, app_body, root_rendered}
use Rattle.flight_state.proofs.Singles.{two_rows, two_once, two_places, no_close, sure, each_in, contains_in, in_contains, is_placed}
use Rattle.flight_syntax.proofs.Terms.{term-Atom}
use Rattle.flight_state.specs.Local.{Shows}
use Rattle.flight_syntax.specs.declared.expr.PairExpr.{PairExpr}
use Rattle.flight_syntax.proofs.Terms.{term-Map, pair-value}
use Rattle.flight_row.specs.declared.row.RowKind.TheVariants as row
use Rattle.flight_meaning.specs.Meaning.{Written}
use Rattle.flight_meaning.specs.Meaning as wire
use Rattle.flight_meaning.specs.declared.place.PlaceTree.{PlaceTree}
use Rattle.flight_state.proofs.Apps.{all_seen, all_shows}

-- ---- the ground

abbrev the_pair : PairExpr
the_pair = record { key = expr.Atom letter; value = expr.Atom one_of }

abbrev mapped_term : Term
mapped_term = term.map (term.pairs_of ((term.atom letter, term.atom one_of) ∷ []))

mapped_is : term.term (expr.Map (the_pair ∷ [])) ≡ mapped_term
mapped_is =
    term-Map (the_pair ∷ []) ∙ (ap (λ p. term.map (term.pairs_of (p ∷ []))) (pair-value the_pair)
    ∙ (ap (λ t. term.map (term.pairs_of ((t, term.term (expr.Atom one_of)) ∷ []))) (term-Atom letter) ∙ ap (λ t. term.map (term.pairs_of ((term.atom letter, t) ∷ []))) (term-Atom one_of)))

pub mapped_valid : IsValidGround mapped
mapped_valid =
    record {
      each = All-from_recursion (IsDeclared mapped) mapped.program.declared ((tt, subst (IsLawful mapped 0) (sym mapped_is) (tt, (omega arith, omega arith), tt)), tt);
      one_component = (tt, tt);
      one_action = tt;
      has_app = (0, ([], (expr.Map (the_pair ∷ []), refl)));
      script = app_script [] [] (omega arith) (omega arith) no_name no_name tt tt;
      first = tt;
    }

-- ---- the body

abbrev map_made : Made
map_made = record { kind = kind.Map; slots = tree.Atom letter ∷ tree.Atom one_of ∷ [] }

abbrev mapped_root : Run Tree
mapped_root = record { after = record { made = map_made ∷ []; cost = 7 }; step = gave (tree.Made the_map) }

mapped_body : root_body mapped [] ≡ mapped_root
mapped_body = app_body mapped [] (expr.Map (the_pair ∷ [])) mapped_term mapped_is refl

map_node : node_at mapped [] the_map ≡ Some map_made
unfolding node_at body_at
map_node = ap (λ b. made_by (finished (Some b)) 0) mapped_body

abbrev seen : Seen
seen = all_seen mapped []

abbrev map_shape : Shape Value
map_shape = record { label = store.map_of; slots = shown (tree.Atom letter) ∷ shown (tree.Atom one_of) ∷ [] }

map_seen : shape_seen mapped seen (key.Made the_map) ≡ Some map_shape
map_seen = ap (λ o. option_and_then (made_shape mapped) o) map_node

map_no_job : job_seen seen (shown (tree.Made the_map)) ≡ None
map_no_job = ap (λ o. if is_server o then Some (element the_map) else None) map_node

-- ---- the rows

abbrev entry_place : ℕ → Spot
entry_place n = beside (first_place 1) n

abbrev one_tree : PlaceTree
one_tree = record { kind = row.Model; places = place.Array (1 ∷ []) ∷ place.Array (2 ∷ 3 ∷ []) ∷ place.Atom letter ∷ place.Atom one_of ∷ [] }

abbrev root_tree : PlaceTree
root_tree = record { kind = row.Model; places = place.Map (record { id = 1; path = [] }) ∷ [] }

abbrev rows : List PlacedRow
rows = mapped_end.rows

abbrev map_ref : Ref
map_ref = record { id = 0; path = [] }

abbrev homes : Homes
homes = (key.Made the_map, map_ref) ∷ []

abbrev meant : Meant
meant = (first_place 0, shown (tree.Made the_map)) ∷ (entry_place 2, shown (tree.Atom letter)) ∷ (entry_place 3, shown (tree.Atom one_of)) ∷ []

abbrev written_slots : List Written
written_slots = at_place (entry_place 2) ∷ at_place (entry_place 3) ∷ []

map_names : local.Names mapped seen rows (key.Made the_map) map_ref (made_at (first_place 0))
map_names = (map_shape, map_seen, (first_place 0, refl, (2, refl)))

only_map : (k : Key) (a : Ref) → In (k, a) homes → (k ≡ key.Made the_map) × (a ≡ map_ref)
only_map k a (inl e) = (ap (λ z. z.0) e, ap (λ z. z.1) e)
only_map k a (inr h) = absurd h

named : (k : Key) (a : Ref) (i : Identity) → In (k, a) homes → local.Names mapped seen rows k a i → i ≡ made_at (first_place 0)
named k a i (inl e) p = is_placed mapped seen rows (key.Made the_map) map_ref map_shape (first_place 0) map_seen tt (2, refl) i (subst (λ (z : Key × Ref). local.Names mapped seen rows z.0 z.1 i) e p)
named k a i (inr h) p = absurd h

here : EmitsHere mapped seen (shown (tree.Made the_map)) 0 1 2 [] homes rows [] meant
here =
    record {
      own = (refl, inl refl);
      adds = record {
        up = omega arith;
        once = two_once one_tree root_tree (no_close row.Model (λ x. x)) (no_close row.Model (λ x. x));
        row_fresh = λ n h. ⊎_elim (λ e. inr (omega (arith, e.0), omega (arith, e.0))) (λ x. ⊎_elim (λ e. inl e.0) (λ e. absurd (h e)) x) (two_rows one_tree root_tree n);
        held = λ s at h. ⊎_elim (λ e. inl (entry_held s.at at e.1)) (λ e. root_held s s.at at e.0 e.1) (two_places one_tree root_tree s at h);
        more = homes;
        homes = refl;
        new_key = λ k a b i j. j;
        one_home = λ k a b i j. (only_map k a i).1 ∙ sym (only_map k b j).1;
        one_key = λ k l a b n i j p q. (only_map k a i).0 ∙ sym (only_map l b j).0;
        home_fresh = λ k a n i p. subst (local.IsNewHome 1 2) (sym (named k a n i p)) tt;
        row_fresh_key = λ k a is i. absurd (subst IsRowKey (only_map k a i).0 is);
        one_row_key = λ k l a b r q i j e. absurd (subst IsRowKey (only_map k a i).0 r);
        is_home = λ k a i. each_in (λ (z : Key × Ref). local.HomeHere mapped seen rows [] meant z.0 z.1) homes (
          record {
            identity = made_at (first_place 0);
            names = map_names;
            lone = tt;
            here = map_shape;
            there = record { label = store.map_of; slots = written_slots };
            is_here = map_seen;
            is_there = (written_slots, (found (first_place 1), (2, refl), refl), refl);
            labels = refl;
            slots = (local.at_spot (entry_place 2) (inr (inl refl)), (local.at_spot (entry_place 3) (inr (inr (inl refl))), tt));
          },
          tt,
        ) (k, a) i;
        places = λ s v i. each_in (λ (z : Spot × Value). (at : Place) × (place_at rows z.0 ≡ Some at) × local.WrittenHere mapped seen homes homes rows (Some z.0) at z.1) meant (
          (place.Map (record { id = 1; path = [] }), refl, local.its_home (key.Made the_map) map_ref (first_place 0) refl (map_made, map_node) map_no_job refl tt (inl refl) map_names),
          (
            (place.Atom letter, refl, local.an_atom letter refl refl (sure letter tt)),
            ((place.Atom one_of, refl, local.an_atom one_of refl refl (sure one_of tt)), tt),
          ),
        ) (s, v) i;
        born_once = tt;
        born_fresh = λ u w i. absurd i;
        born_met = λ u w i. absurd i;
        born_tables = λ u w i. absurd i;
        unwritten = λ u w i. absurd i;
        for_stream = λ u w n i. absurd i;
      };
    }
  where
    entry_held : (n : ℕ) (at : Place) → slice_get one_tree.places n ≡ Some at → IsPlain at
    entry_held zero at h = subst IsPlain (same_Some (place.Array (1 ∷ [])) at h) tt
    entry_held (suc zero) at h = subst IsPlain (same_Some (place.Array (2 ∷ 3 ∷ [])) at h) tt
    entry_held (suc (suc zero)) at h = subst IsPlain (same_Some (place.Atom letter) at h) tt
    entry_held (suc (suc (suc zero))) at h = subst IsPlain (same_Some (place.Atom one_of) at h) tt
    entry_held (suc (suc (suc (suc n)))) at h = absurd (none-some at h)

    root_held : (s : Spot) (n : ℕ) (at : Place) → s ≡ record { id = 0; nth = 0; at = n } → slice_get root_tree.places n ≡ Some at → IsPlain at ⊎ ((v : Value) × In (s, v) meant)
    root_held s zero at e h = inr (shown (tree.Made the_map), inl (ap (λ z. (z, shown (tree.Made the_map))) e))
    root_held s (suc n) at e h = absurd (none-some at h)

-- ---- the run

abbrev root_running : State
root_running = record (opening mapped) { tasks = taken [] first_task ∷ [] }

root_taken : TakeStep (opening mapped) root_running 0
root_taken = record { task = first_task; is_task = refl; was = refl; now = refl }

abbrev root_finishes : DoneStep mapped root_running mapped_end 0
root_finishes =
    record {
      task = taken [] first_task;
      is_task = refl;
      turn = 1;
      was = refl;
      end = gave (tree.Made the_map);
      finds = ap (λ (z : Run Tree). z.step) mapped_body;
      finishes = tt;
      rows = (rows, refl);
      homes = (mapped_end.homes, refl);
      others = ([], refl);
      counted = (mapped_end.counted, refl);
      born = [];
      tasks = refl;
      are_ready = λ t i. absurd i;
      rest = refl;
    }

root_writes : WritesHere mapped root_running mapped_end 0 1 2 [] homes
unfolding here
root_writes =
    record {
      step = root_finishes;
      alone = refl;
      seen = seen;
      shows = all_shows mapped [];
      rows = rows;
      births = [];
      meant = meant;
      local = here;
      adopts = record {
        same_rows = refl;
        same_births = refl;
        into = λ k i p. each_in (λ (z : Key × Identity). IsNodeKey z.0 × ((a : Ref) × In (z.0, a) homes × local.Names mapped seen rows z.0 a z.1)) mapped_end.homes ((tt, (map_ref, inl refl, map_names)), tt) (k, i) (contains_in mapped_end.homes (k, i) p);
        onto = λ k a i is h names. in_contains mapped_end.homes (k, i) (inl (ap (λ z. (z, i)) (only_map k a h).0 ∙ ap (λ z. (key.Made the_map, z)) (named k a i h names)));
        into_rows = λ k id i. absurd i;
        onto_rows = λ k a is h. absurd (subst IsRowKey (only_map k a h).0 is);
        own_counted = (7, inl refl);
        given_counted = λ n end h. absurd (none-some end h);
        counted_once = ((λ h. h), tt);
        new_counted = λ address cost i. each_in (λ (z : List ℕ × ℕ). Rendered mapped [] z.0 z.1) mapped_end.counted (root_rendered mapped [] mapped_root mapped_body tt, tt) (address, cost) i;
      };
    }

at_root_running : Going mapped root_running [] 1
at_root_running = takes mapped (opening mapped) root_running 0 1 [] (opens mapped) root_taken

at_end : Going mapped mapped_end homes 2
at_end = writes mapped mapped_valid root_running mapped_end 0 1 2 [] homes at_root_running root_writes

pub mapped_runs : steps.Run mapped mapped_events (opening mapped) mapped_end
mapped_runs = (root_running, record { does = root_taken; fits = at_root_running.fits }, (mapped_end, record { does = root_finishes; fits = at_end.fits }, refl))

pub mapped_closed : IsClosed mapped_end
mapped_closed = each_in (λ (t : Task). t.status ≡ status.Done) mapped_end.tasks (refl, tt)

-- ---- what it means

abbrev pairs : List (ℕ × Identity)
pairs = (0, made_at (first_place 0)) ∷ []

has_slots : wire.HasSlots rows wire.map_token (record { id = 1; path = [] }) written_slots
has_slots = (found (first_place 1), (2, refl), refl)

pub mapped_means : DrawOneGraph (of_graph mapped_graph) (meaning mapped_end.rows)
mapped_means = (
  pairs,
  record {
    one_there = λ k l m p q. ap (λ (z : ℕ × Identity). z.1) (only k l p ∙ sym (only k m q));
    one_here = λ k j l p q. ap (λ (z : ℕ × Identity). z.0) (only k l p ∙ sym (only j l q));
    roots = record {
      here = store.node_at 0;
      there = store.node_at (made_at (first_place 0));
      leads_here = refl;
      leads_there = inl (found (first_place 0), (2, refl), inl (written_slots, has_slots, refl));
      targets_fit = in_contains pairs (0, made_at (first_place 0)) (inl refl);
    };
    each = λ k l p. each_in (λ (z : ℕ × Identity). store.NodesFit (Paired pairs) (of_graph mapped_graph) (meaning mapped_end.rows) z.0 z.1) pairs (
      record {
        here = record { label = store.map_of; slots = slot.Atom letter ∷ slot.Atom one_of ∷ [] };
        there = record { label = store.map_of; slots = written_slots };
        is_here = refl;
        is_there = (written_slots, has_slots, refl);
        labels = refl;
        slots_fit = (
          record { here = store.atom letter; there = store.atom letter; leads_here = refl; leads_there = inl (found (entry_place 2), (1, refl), refl); targets_fit = refl },
          (record { here = store.atom one_of; there = store.atom one_of; leads_here = refl; leads_there = inl (found (entry_place 3), (1, refl), refl); targets_fit = refl }, tt),
        );
      },
      tt,
    ) (k, l) (contains_in pairs (k, l) p);
  },
)
  where
    only : (k : ℕ) (l : Identity) → Paired pairs k l → ◌≡◌ {A = ℕ × Identity} (k, l) (0, made_at (first_place 0))
    only k l p = each_in (λ (z : ℕ × Identity). z ≡ (0, made_at (first_place 0))) pairs (refl, tt) (k, l) (contains_in pairs (k, l) p)
