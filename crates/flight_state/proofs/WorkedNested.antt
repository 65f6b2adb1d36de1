-- The worked run of an element of the host, with a component in its place.
use Rattle.std.proofs.Common.{◌≡◌, ℕ, ◌⊎◌, inl, inr, ⊎_elim, length, List, [], ◌∷◌, zero, suc, Some, None, refl, sym, ap, ◌∙◌, subst, arith, option_and_then, option_map}
use Rattle.std.proofs.lemmas.Option.{none-some, same_Some}
use Rattle.std.specs.Prelude.{codes, if◌then◌else◌, slice_get}
use Rattle.std.proofs.lemmas.List.Elements.{All-from_recursion}
use Rattle.flight_value.specs.Store as store
use Rattle.flight_value.specs.Store.{DrawOneGraph, of_graph, Paired, Shape}
use Rattle.flight_value.specs.declared.graph.Slot.TheVariants as slot
use Rattle.flight_value.specs.declared.graph.Atom.TheVariants as atom
use Rattle.flight_value.specs.declared.key.Key.{Key}
use Rattle.flight_value.specs.declared.key.Key.TheVariants as key
use Rattle.flight_value.specs.declared.made.Made.{Made}
use Rattle.flight_value.specs.declared.made.MadeKind.TheVariants as kind
use Rattle.flight_value.specs.declared.made.Tree.{Tree}
use Rattle.flight_value.specs.declared.made.Tree.TheVariants as tree
use Rattle.flight_value.specs.Listed.{In}
use Rattle.flight_text.specs.declared.mark.Ref.{Ref}
use Rattle.flight_syntax.specs.declared.expr.Expr.{Expr}
use Rattle.flight_syntax.specs.declared.expr.Expr as expr
use Rattle.flight_syntax.specs.declared.expr.Tag.TheVariants as tag
use Rattle.flight_syntax.specs.Term as term
use Rattle.flight_syntax.specs.Term.{Term}
use Rattle.flight_syntax.proofs.Terms.{term-Element}
use Rattle.flight_render.specs.Run.{gave, Run}
use Rattle.flight_render.specs.Body.{root_body}
use Rattle.flight_render.specs.Bodies.{body_at, node_at, tables_for, body_below, made_by, finished}
use Rattle.flight_render.specs.Jobs.{element, shown, comes, is_server, Value}
use Rattle.flight_render.specs.Plain.{made_shape}
use Rattle.flight_render.specs.Costs.{Rendered, Reached, at_root, through, in_slot}
use Rattle.flight_render.specs.Valid.{IsValidGround, IsDeclared, IsLawful}
use Rattle.flight_meaning.specs.Linked.{first_place, beside, Spot, place_at}
use Rattle.flight_meaning.specs.Resolve.{found}
use Rattle.flight_meaning.specs.Meaning.{meaning, at_place, Identity, made_at}
use Rattle.flight_meaning.specs.declared.place.Place.{Place}
use Rattle.flight_meaning.specs.declared.place.Place.TheVariants as place
use Rattle.flight_meaning.specs.declared.place.PlacedRow.{PlacedRow}
use Rattle.flight_state.specs.declared.status.Status.TheVariants as status
use Rattle.flight_state.specs.State.{State, IsClosed, Task}
use Rattle.flight_state.specs.Steps as steps
use Rattle.flight_state.specs.Steps.{taken, first_task, opening, DoneStep, TakeStep, PingStep}
use Rattle.flight_state.specs.Emits.{IsPlain, Meant}
use Rattle.flight_state.specs.Local as local
use Rattle.flight_state.specs.Local.{WritesHere, Homes, Births, Seen, IsNodeKey, IsRowKey, EmitsHere, job_seen, shape_seen}
use Rattle.flight_state.specs.Worked.{hello, item_made, item, attributes, paragraph, nested, nested_made, nested_events, nested_end, nested_graph, model}
use Rattle.flight_state.proofs.Examples.{element_job}
use Rattle.flight_state.proofs.Going.{Going, opens, takes, writes}
use Rattle.flight_state.proofs.Apps.{app_script, no_name, starts, app_body, component_body, root_rendered}
use Rattle.flight_state.proofs.Singles.{sure, each_in, once_by, contains_in, in_contains, row_rows, row_once, row_places, is_placed}
use Rattle.flight_syntax.proofs.Terms.{term-Atom}
use Rattle.std.proofs.Common.{Option}
use Rattle.flight_value.specs.declared.name.Name.{Name}
use Rattle.flight_render.specs.Run.{End}
use Rattle.flight_render.specs.Costs.{address_of}
use Rattle.flight_state.specs.Spells.{CountedAt}
use Rattle.flight_state.specs.Local.{Shows}

-- ---- the ground

abbrev item_expr : Expr
item_expr = expr.Element (tag.Server 1) [] []

abbrev nested_expr : Expr
nested_expr = expr.Element (tag.Host (codes "p")) [] (item_expr ∷ [])

abbrev item_term : Term
item_term = term.element (tag.Server 1) term.no_props term.no_terms

abbrev nested_term : Term
nested_term = term.element (tag.Host (codes "p")) term.no_props (term.terms_of (item_term ∷ []))

nested_is : term.term nested_expr ≡ nested_term
nested_is = term-Element (tag.Host (codes "p")) [] (item_expr ∷ []) ∙ ap (λ t. term.element (tag.Host (codes "p")) term.no_props (term.terms_of (t ∷ []))) (term-Element (tag.Server 1) [] [])

pub nested_valid : IsValidGround nested
nested_valid =
    record {
      each = All-from_recursion (IsDeclared nested) nested.program.declared (
        (tt, subst (IsLawful nested 0) (sym nested_is) (tt, tt, tt, tt, (lawful, tt))),
        ((tt, subst (IsLawful nested 0) (sym (term-Atom hello)) tt), tt),
      );
      one_component = ((λ e. omega (arith, ap starts e), tt), (tt, tt));
      one_action = tt;
      has_app = (0, ([], (nested_expr, refl)));
      script = app_script [] [] (omega arith) (omega arith) no_name no_name tt tt;
      first = tt;
    }
  where
    lawful : IsLawful nested 0 item_term
    lawful = ((codes "Item", ([], (expr.Atom hello, refl))), tt, tt, tt, tt)

-- ---- the bodies

abbrev nested_root : Run Tree
nested_root = record { after = record { made = nested_made; cost = 19 }; step = gave (tree.Made paragraph) }

nested_body : root_body nested [] ≡ nested_root
nested_body = app_body nested [] nested_expr nested_term nested_is refl

node_there : (serial : ℕ) (m : Made) → slice_get nested_made serial ≡ Some m → node_at nested [] (record { render = []; serial = serial }) ≡ Some m
unfolding node_at body_at
node_there serial m h = ap (λ b. made_by (finished (Some b)) serial) nested_body ∙ h

abbrev item_run : Run Tree
item_run = record { after = record { made = []; cost = 7 }; step = gave (tree.Atom hello) }

item_body : body_at nested [] (1 ∷ []) ≡ Some item_run
unfolding body_at
item_body =
    ap (λ b. body_below nested [] [] [] (Some b) (1 ∷ [])) nested_body
    ∙ ap Some (component_body nested [] (nested_made ∷ []) 1 (codes "Item") (expr.Atom hello) (term.atom hello) (term-Atom hello) refl (tree.Made (record { render = []; serial = 0 })) (1 ∷ []))

item_comes : comes nested [] (element item) ≡ Some (gave (tree.Atom hello))
unfolding comes
item_comes = ap (λ o. option_map (λ (b : Run Tree). b.step) o) item_body

-- ---- what the writer sees: the body of `Item` finished beside that of the root

ends_by : List ℕ → ℕ → Option End
ends_by [] (suc zero) = Some (gave (tree.Atom hello))
ends_by render serial = None

abbrev seen : Seen
seen = record { look = node_at nested []; ends = λ n. ends_by n.render n.serial; tables = tables_for nested [] }

-- no other one finished
only_item : (P : Name → End → Type 0) → P item (gave (tree.Atom hello)) → (n : Name) (end : End) → seen.ends n ≡ Some end → P n end
unfolding ends_by
only_item P p n end h = go n.render n.serial h
  where
    go : (r : List ℕ) (s : ℕ) → ends_by r s ≡ Some end → P (record { render = r; serial = s }) end
    go [] zero h = absurd (none-some end h)
    go [] (suc zero) h = subst (P item) (same_Some (gave (tree.Atom hello)) end h) p
    go [] (suc (suc s)) h = absurd (none-some end h)
    go (x ∷ r) s h = absurd (none-some end h)

item_ends : seen.ends item ≡ Some (gave (tree.Atom hello))
unfolding ends_by
item_ends = refl

shows : Shows nested [] seen
shows = record { nodes = λ n m h. h; ends = only_item (λ n end. comes nested [] (element n) ≡ Some end) item_comes; tables = λ n m h is. refl }

abbrev paragraph_made : Made
paragraph_made = record { kind = kind.Element; slots = tree.Atom (atom.Text (codes "p")) ∷ tree.Atom atom.Null ∷ tree.Made attributes ∷ [] }

abbrev attributes_made : Made
attributes_made = record { kind = kind.Object (codes "children" ∷ []); slots = tree.Made item ∷ [] }

abbrev paragraph_shape : Shape Value
paragraph_shape = record { label = store.element; slots = shown (tree.Atom (atom.Text (codes "p"))) ∷ shown (tree.Atom atom.Null) ∷ shown (tree.Made attributes) ∷ [] }

abbrev attributes_shape : Shape Value
attributes_shape = record { label = store.object (codes "children" ∷ []); slots = shown (tree.Made item) ∷ [] }

paragraph_seen : shape_seen nested seen (key.Made paragraph) ≡ Some paragraph_shape
paragraph_seen = ap (λ o. option_and_then (made_shape nested) o) (node_there 3 paragraph_made refl)

attributes_seen : shape_seen nested seen (key.Made attributes) ≡ Some attributes_shape
attributes_seen = ap (λ o. option_and_then (made_shape nested) o) (node_there 2 attributes_made refl)

paragraph_no_job : job_seen seen (shown (tree.Made paragraph)) ≡ None
paragraph_no_job = ap (λ o. if is_server o then Some (element paragraph) else None) (node_there 3 paragraph_made refl)

attributes_no_job : job_seen seen (shown (tree.Made attributes)) ≡ None
attributes_no_job = ap (λ o. if is_server o then Some (element attributes) else None) (node_there 2 attributes_made refl)

item_job : job_seen seen (shown (tree.Made item)) ≡ Some (element item)
item_job = element_job seen item item_made (node_there 1 item_made refl) refl

-- ---- the row

abbrev place_of : ℕ → Spot
place_of n = beside (first_place 0) n

abbrev places : List Place
places =
    place.Element 2 3 4 ∷ place.Atom (atom.Text (codes "$")) ∷ place.Atom (atom.Text (codes "p")) ∷ place.Atom atom.Null
    ∷ place.Object (record { name = codes "children"; place = 5 } ∷ []) ∷ place.Atom hello ∷ []

abbrev rows : List PlacedRow
rows = model 0 places ∷ []

abbrev paragraph_ref : Ref
paragraph_ref = record { id = 0; path = [] }

abbrev attributes_ref : Ref
attributes_ref = record { id = 0; path = codes "props" ∷ [] }

abbrev homes : Homes
homes = (key.Made paragraph, paragraph_ref) ∷ (key.Made attributes, attributes_ref) ∷ []

abbrev meant : Meant
meant =
    (place_of 0, shown (tree.Made paragraph)) ∷ (place_of 2, shown (tree.Atom (atom.Text (codes "p")))) ∷ (place_of 3, shown (tree.Atom atom.Null))
    ∷ (place_of 4, shown (tree.Made attributes)) ∷ (place_of 5, shown (tree.Made item)) ∷ []

paragraph_names : local.Names nested seen rows (key.Made paragraph) paragraph_ref (made_at (place_of 0))
paragraph_names = (paragraph_shape, paragraph_seen, (place_of 0, refl, (2, refl)))

attributes_names : local.Names nested seen rows (key.Made attributes) attributes_ref (made_at (place_of 4))
attributes_names = (attributes_shape, attributes_seen, (place_of 4, refl, (3, refl)))

-- what has a name is one of both
Named : Key → Identity → Type 0
Named k i = ((k ≡ key.Made paragraph) × (i ≡ made_at (place_of 0))) ⊎ ((k ≡ key.Made attributes) × (i ≡ made_at (place_of 4)))

named : (k : Key) (a : Ref) (i : Identity) → In (k, a) homes → local.Names nested seen rows k a i → Named k i
unfolding Named
named k a i (inl e) p =
    inl (
      ap (λ z. z.0) e,
      is_placed nested seen rows (key.Made paragraph) paragraph_ref paragraph_shape (place_of 0) paragraph_seen tt (2, refl) i
          (subst (λ (z : Key × Ref). local.Names nested seen rows z.0 z.1 i) e p),
    )
named k a i (inr (inl e)) p =
    inr (
      ap (λ z. z.0) e,
      is_placed nested seen rows (key.Made attributes) attributes_ref attributes_shape (place_of 4) attributes_seen tt (3, refl) i
          (subst (λ (z : Key × Ref). local.Names nested seen rows z.0 z.1 i) e p),
    )
named k a i (inr (inr h)) p = absurd h

place_number : Identity → ℕ
place_number (made_at s) = s.at
place_number i = 9

one_key : (k l : Key) (i : Identity) → Named k i → Named l i → k ≡ l
unfolding Named place_number
one_key k l i (inl p) (inl q) = p.0 ∙ sym q.0
one_key k l i (inl p) (inr q) = absurd (omega (arith, ap place_number (sym p.1 ∙ q.1)))
one_key k l i (inr p) (inl q) = absurd (omega (arith, ap place_number (sym p.1 ∙ q.1)))
one_key k l i (inr p) (inr q) = p.0 ∙ sym q.0

no_row_key : (k : Key) (a : Ref) → In (k, a) homes → IsRowKey k → ⊥
no_row_key k a i = each_in (λ (z : Key × Ref). IsRowKey z.0 → ⊥) homes ((λ r. r), ((λ r. r), tt)) (k, a) i

abbrev tell : Key → ℕ
tell (key.Made n) = n.serial
tell k = 9

here : EmitsHere nested seen (shown (tree.Made paragraph)) 0 1 1 [] homes rows [] meant
unfolding Named
here =
    record {
      own = (refl, inl refl);
      adds = record {
        up = omega arith;
        once = row_once 0 places;
        row_fresh = λ n h. ⊎_elim (λ e. inl e.0) (λ e. absurd (h e)) (row_rows 0 places n);
        held = λ s at h. let r = row_places 0 places s at h in inl (plain_place s.at at r.1);
        more = homes;
        homes = refl;
        new_key = λ k a b i j. j;
        one_home = λ k a b i j. ap (λ (z : Key × Ref). z.1) (once_by (λ (z : Key × Ref). tell z.0) homes ((λ h. ⊎_elim (λ e. omega (arith, e)) (λ x. x) h), ((λ x. x), tt)) (k, a) (k, b) i j refl);
        one_key = λ k l a b n i j p q. one_key k l n (named k a n i p) (named l b n j q);
        home_fresh = λ k a n i p. ⊎_elim (λ e. subst (local.IsNewHome 1 1) (sym e.1) tt) (λ e. subst (local.IsNewHome 1 1) (sym e.1) tt) (named k a n i p);
        row_fresh_key = λ k a is i. absurd (no_row_key k a i is);
        one_row_key = λ k l a b r q i j e. absurd (no_row_key k a i r);
        is_home = λ k a i. each_in (λ (z : Key × Ref). local.HomeHere nested seen rows [] meant z.0 z.1) homes (
          record {
            identity = made_at (place_of 0);
            names = paragraph_names;
            lone = tt;
            here = paragraph_shape;
            there = record { label = store.element; slots = at_place (place_of 2) ∷ at_place (place_of 3) ∷ at_place (place_of 4) ∷ [] };
            is_here = paragraph_seen;
            is_there = refl;
            labels = refl;
            slots = (local.at_spot (place_of 2) (inr (inl refl)), (local.at_spot (place_of 3) (inr (inr (inl refl))), (local.at_spot (place_of 4) (inr (inr (inr (inl refl)))), tt)));
          },
          (
            record {
              identity = made_at (place_of 4);
              names = attributes_names;
              lone = tt;
              here = attributes_shape;
              there = record { label = store.object (codes "children" ∷ []); slots = at_place (place_of 5) ∷ [] };
              is_here = attributes_seen;
              is_there = refl;
              labels = refl;
              slots = (local.at_spot (place_of 5) (inr (inr (inr (inr (inl refl))))), tt);
            },
            tt,
          ),
        ) (k, a) i;
        places = λ s v i. each_in (λ (z : Spot × Value). (at : Place) × (place_at rows z.0 ≡ Some at) × local.WrittenHere nested seen homes homes rows (Some z.0) at z.1) meant (
          (place.Element 2 3 4, refl, local.its_home (key.Made paragraph) paragraph_ref (place_of 0) refl (paragraph_made, node_there 3 paragraph_made refl) paragraph_no_job refl tt (inl refl) paragraph_names),
          (
            (place.Atom (atom.Text (codes "p")), refl, local.an_atom (atom.Text (codes "p")) refl refl (sure (atom.Text (codes "p")) tt)),
            (
              (place.Atom atom.Null, refl, local.an_atom atom.Null refl refl (sure atom.Null tt)),
              (
                (place.Object (record { name = codes "children"; place = 5 } ∷ []), refl, local.its_home (key.Made attributes) attributes_ref (place_of 4) refl (attributes_made, node_there 2 attributes_made refl) attributes_no_job refl tt (inr (inl refl)) attributes_names),
                ((place.Atom hello, refl, local.what_is_given item (gave (tree.Atom hello)) (item_made, node_there 1 item_made refl) item_job item_ends (local.an_atom hello refl refl (sure hello tt))), tt),
              ),
            ),
          ),
        ) (s, v) i;
        born_once = tt;
        born_fresh = λ u w i. absurd i;
        born_met = λ u w i. absurd i;
        born_tables = λ u w i. absurd i;
        unwritten = λ u w i. absurd i;
        for_stream = λ u w n i. absurd i;
      };
    }
  where
    plain_place : (n : ℕ) (at : Place) → slice_get places n ≡ Some at → IsPlain at
    plain_place zero at h = subst IsPlain (same_Some (place.Element 2 3 4) at h) tt
    plain_place (suc zero) at h = subst IsPlain (same_Some (place.Atom (atom.Text (codes "$"))) at h) tt
    plain_place (suc (suc zero)) at h = subst IsPlain (same_Some (place.Atom (atom.Text (codes "p"))) at h) tt
    plain_place (suc (suc (suc zero))) at h = subst IsPlain (same_Some (place.Atom atom.Null) at h) tt
    plain_place (suc (suc (suc (suc zero)))) at h = subst IsPlain (same_Some (place.Object (record { name = codes "children"; place = 5 } ∷ [])) at h) tt
    plain_place (suc (suc (suc (suc (suc zero))))) at h = subst IsPlain (same_Some (place.Atom hello) at h) tt
    plain_place (suc (suc (suc (suc (suc (suc n)))))) at h = absurd (none-some at h)

-- ---- the costs

root_reached : Reached nested [] (shown (tree.Made paragraph))
unfolding comes body_at
root_reached = through at_root refl (ap (λ (b : Run Tree). Some b.step) nested_body)

item_rendered : Rendered nested [] (1 ∷ []) 7
item_rendered =
    record {
      here = item_run;
      is_body = item_body;
      finishes = tt;
      costs = refl;
      job = element item;
      addressed = refl;
      value = shown (tree.Made item);
      met = in_slot (in_slot root_reached paragraph_no_job refl paragraph_seen (inr (inr (inl refl)))) attributes_no_job refl attributes_seen (inl refl);
      is_job = item_job;
    }

-- ---- the run

abbrev root_running : State
root_running = record (opening nested) { tasks = taken [] first_task ∷ [] }

root_taken : TakeStep (opening nested) root_running 0
root_taken = record { task = first_task; is_task = refl; was = refl; now = refl }

abbrev root_finishes : DoneStep nested root_running nested_end 0
root_finishes =
    record {
      task = taken [] first_task;
      is_task = refl;
      turn = 1;
      was = refl;
      end = gave (tree.Made paragraph);
      finds = ap (λ (z : Run Tree). z.step) nested_body;
      finishes = tt;
      rows = (rows, refl);
      homes = (nested_end.homes, refl);
      others = ([], refl);
      counted = (nested_end.counted, refl);
      born = [];
      tasks = refl;
      are_ready = λ t i. absurd i;
      rest = refl;
    }

root_writes : WritesHere nested root_running nested_end 0 1 1 [] homes
unfolding here Named
root_writes =
    record {
      step = root_finishes;
      alone = refl;
      seen = seen;
      shows = shows;
      rows = rows;
      births = [];
      meant = meant;
      local = here;
      adopts = record {
        same_rows = refl;
        same_births = refl;
        into = λ k i p. each_in (λ (z : Key × Identity). IsNodeKey z.0 × ((a : Ref) × In (z.0, a) homes × local.Names nested seen rows z.0 a z.1)) nested_end.homes ((tt, (paragraph_ref, inl refl, paragraph_names)), ((tt, (attributes_ref, inr (inl refl), attributes_names)), tt)) (k, i) (contains_in nested_end.homes (k, i) p);
        onto = λ k a i is h names. in_contains nested_end.homes (k, i) (⊎_elim (λ e. inl (ap (λ z. (z, i)) e.0 ∙ ap (λ z. (key.Made paragraph, z)) e.1)) (λ e. inr (inl (ap (λ z. (z, i)) e.0 ∙ ap (λ z. (key.Made attributes, z)) e.1))) (named k a i h names));
        into_rows = λ k id i. absurd i;
        onto_rows = λ k a is h. absurd (no_row_key k a h is);
        own_counted = (19, inl refl);
        given_counted = only_item (λ n end. CountedAt nested_end (address_of (element n))) (7, inr (inl refl));
        counted_once = ((λ i. ⊎_elim (λ e. omega (arith, ap (λ (z : List ℕ). length z) e)) (λ h. h) i), ((λ h. h), tt));
        new_counted = λ address cost i. each_in (λ (z : List ℕ × ℕ). Rendered nested [] z.0 z.1) nested_end.counted (root_rendered nested [] nested_root nested_body tt, (item_rendered, tt)) (address, cost) i;
      };
    }

at_root_running : Going nested root_running [] 1
at_root_running = takes nested (opening nested) root_running 0 1 [] (opens nested) root_taken

at_end : Going nested nested_end homes 1
at_end = writes nested nested_valid root_running nested_end 0 1 1 [] homes at_root_running root_writes

pub nested_runs : steps.Run nested nested_events (opening nested) nested_end
nested_runs = (root_running, record { does = root_taken; fits = at_root_running.fits }, (nested_end, record { does = root_finishes; fits = at_end.fits }, refl))

pub nested_closed : IsClosed nested_end
nested_closed = each_in (λ (t : Task). t.status ≡ status.Done) nested_end.tasks (refl, tt)

-- ---- what it means

abbrev pairs : List (ℕ × Identity)
pairs = (0, made_at (place_of 0)) ∷ (1, made_at (place_of 4)) ∷ []

pub nested_means : DrawOneGraph (of_graph nested_graph) (meaning nested_end.rows)
unfolding place_number
nested_means = (
  pairs,
  record {
    one_there = λ k l m p q. ap (λ (z : ℕ × Identity). z.1) (once_by (λ (z : ℕ × Identity). z.0) pairs ((λ i. ⊎_elim (λ e. omega (arith, e)) (λ h. h) i), ((λ i. i), tt)) (k, l) (k, m) (contains_in pairs (k, l) p) (contains_in pairs (k, m) q) refl);
    one_here = λ k j l p q. ap (λ (z : ℕ × Identity). z.0) (once_by (λ (z : ℕ × Identity). place_number z.1) pairs ((λ i. ⊎_elim (λ e. omega (arith, e)) (λ h. h) i), ((λ i. i), tt)) (k, l) (j, l) (contains_in pairs (k, l) p) (contains_in pairs (j, l) q) refl);
    roots = record {
      here = store.node_at 0;
      there = store.node_at (made_at (place_of 0));
      leads_here = refl;
      leads_there = inl (found (place_of 0), (2, refl), refl);
      targets_fit = in_contains pairs (0, made_at (place_of 0)) (inl refl);
    };
    each = λ k l p. each_in (λ (z : ℕ × Identity). store.NodesFit (Paired pairs) (of_graph nested_graph) (meaning nested_end.rows) z.0 z.1) pairs (
      record {
        here = record { label = store.element; slots = slot.Atom (atom.Text (codes "p")) ∷ slot.Atom atom.Null ∷ slot.Node 1 ∷ [] };
        there = record { label = store.element; slots = at_place (place_of 2) ∷ at_place (place_of 3) ∷ at_place (place_of 4) ∷ [] };
        is_here = refl;
        is_there = refl;
        labels = refl;
        slots_fit = (
          record { here = store.atom (atom.Text (codes "p")); there = store.atom (atom.Text (codes "p")); leads_here = refl; leads_there = inl (found (place_of 2), (1, refl), refl); targets_fit = refl },
          (
            record { here = store.atom atom.Null; there = store.atom atom.Null; leads_here = refl; leads_there = inl (found (place_of 3), (1, refl), refl); targets_fit = refl },
            (record { here = store.node_at 1; there = store.node_at (made_at (place_of 4)); leads_here = refl; leads_there = inl (found (place_of 4), (1, refl), refl); targets_fit = in_contains pairs (1, made_at (place_of 4)) (inr (inl refl)) }, tt),
          ),
        );
      },
      (
        record {
          here = record { label = store.object (codes "children" ∷ []); slots = slot.Atom hello ∷ [] };
          there = record { label = store.object (codes "children" ∷ []); slots = at_place (place_of 5) ∷ [] };
          is_here = refl;
          is_there = refl;
          labels = refl;
          slots_fit = (record { here = store.atom hello; there = store.atom hello; leads_here = refl; leads_there = inl (found (place_of 5), (1, refl), refl); targets_fit = refl }, tt);
        },
        tt,
      ),
    ) (k, l) (contains_in pairs (k, l) p);
  },
)
