-- The worked run of an element that waits for data.
use Rattle.std.proofs.Common.{◌≡◌, ℕ, Bool, true, false, inl, inr, ⊎_elim, length, List, [], ◌∷◌, ◌++◌, Some, None, refl, sym, ap, ◌∙◌, subst, arith}
use Rattle.std.proofs.lemmas.Option.{none-some}
use Rattle.std.specs.Prelude.{codes, if◌then◌else◌}
use Rattle.std.proofs.lemmas.List.Elements.{All-from_recursion}
use Rattle.flight_value.specs.Store as store
use Rattle.flight_value.specs.Store.{DrawOneGraph, of_graph, Paired}
use Rattle.flight_value.specs.declared.graph.Atom.TheVariants as atom
use Rattle.flight_value.specs.declared.key.Key.TheVariants as key
use Rattle.flight_value.specs.declared.made.Tree.{Tree}
use Rattle.flight_value.specs.declared.made.Tree.TheVariants as tree
use Rattle.flight_value.specs.Listed.{In}
use Rattle.flight_syntax.specs.declared.expr.Expr as expr
use Rattle.flight_syntax.specs.declared.expr.Tag.TheVariants as tag
use Rattle.flight_syntax.specs.Script.{IsData}
use Rattle.flight_syntax.specs.Term as term
use Rattle.flight_syntax.proofs.Terms.{term-Element, term-Source}
use Rattle.flight_render.specs.Run.{gave, waits, Run}
use Rattle.flight_render.specs.Body.{root_body, body}
use Rattle.flight_render.specs.Bodies.{body_at, node_at, tables_for, tables_at, body_below, made_by, finished, tables_with}
use Rattle.flight_render.specs.Jobs.{element, shown, comes, job_of, is_server}
use Rattle.flight_render.specs.Costs.{Rendered, Reached, at_root, through}
use Rattle.flight_render.specs.Valid.{IsValidGround, IsDeclared, IsLawful}
use Rattle.flight_meaning.specs.Linked.{first_place}
use Rattle.flight_meaning.specs.Resolve.{found, not_yet}
use Rattle.flight_meaning.specs.Meaning.{meaning}
use Rattle.flight_meaning.specs.declared.place.Place.TheVariants as place
use Rattle.flight_state.specs.declared.status.Status.TheVariants as status
use Rattle.flight_state.specs.State.{State, IsClosed, IsQuiet, IsAtRest, Task}
use Rattle.flight_state.specs.Steps as steps
use Rattle.flight_state.specs.Steps.{taken, first_task, opening, DoneStep, TakeStep, WaitStep, PingStep}
use Rattle.flight_state.specs.Local.{WritesHere, IsNodeKey, IsRowKey}
use Rattle.flight_value.specs.declared.key.Key.{Key}
use Rattle.flight_text.specs.declared.mark.Ref.{Ref}
use Rattle.flight_render.specs.declared.job.What.TheVariants as what
use Rattle.flight_state.specs.declared.event.Event.{Event}
use Rattle.flight_state.specs.Worked.{ada, user, late, props_made, item_made, item, item_task, root_done, late_events, late_waiting, late_rest, late_end, late_graph, late_so_far, model}
use Rattle.flight_state.proofs.Examples.{bare_here, atom_here, element_here, element_home, element_only}
use Rattle.flight_state.proofs.Singles.{sure}
use Rattle.flight_state.proofs.Going.{Going, opens, takes, writes, stops, pings}
use Rattle.flight_state.proofs.Apps.{app_script, no_name, one_name, starts, app_body, component_body, root_rendered, all_seen, all_shows}

-- ---- the ground

pub user_data : IsData user
user_data = ((refl, refl), record { valid = record { few = omega arith; valid_root = tt; each = λ k d h. absurd (omega (arith, h)) }; root = tt; nodes = λ k d h. absurd (omega (arith, h)) })

pub late_valid : IsValidGround late
late_valid =
    record {
      each = All-from_recursion (IsDeclared late) late.program.declared (
        (tt, subst (IsLawful late 0) (sym (term-Element (tag.Server 1) [] [])) ((codes "Item", ([], (expr.Source (codes "user"), refl))), tt, tt, tt, tt)),
        ((tt, subst (IsLawful late 0) (sym (term-Source (codes "user"))) refl), tt),
      );
      one_component = ((λ e. omega (arith, ap starts e), tt), (tt, tt));
      one_action = tt;
      has_app = (0, ([], (expr.Element (tag.Server 1) [] [], refl)));
      script = app_script (user ∷ []) [] (omega arith) (omega arith) (one_name user.name) no_name (user_data, tt) tt;
      first = tt;
    }

-- ---- the bodies

abbrev late_root : Run Tree
late_root = record { after = record { made = props_made ∷ item_made ∷ []; cost = 5 }; step = gave (tree.Made item) }

late_body : (settled : List Bool) → root_body late settled ≡ late_root
late_body settled = app_body late settled (expr.Element (tag.Server 1) [] []) (term.element (tag.Server 1) term.no_props term.no_terms) (term-Element (tag.Server 1) [] []) refl

pub late_reached : (settled : List Bool) → Reached late settled (shown (tree.Made item))
unfolding comes body_at
late_reached settled = through at_root refl (ap (λ (b : Run Tree). Some b.step) (late_body settled))

-- the element is there, with its tables and its body
item_node : (settled : List Bool) → node_at late settled item ≡ Some item_made
unfolding node_at body_at
item_node settled = ap (λ b. made_by (finished (Some b)) 1) (late_body settled)

item_tables : (settled : List Bool) → (props_made ∷ item_made ∷ []) ∷ [] ≡ tables_for late settled item
unfolding tables_at body_at
item_tables settled = ap (λ b. tables_with [] (finished (Some b))) (sym (late_body settled))

item_job : (settled : List Bool) → job_of late settled (shown (tree.Made item)) ≡ Some (element item)
item_job settled = ap (λ o. if is_server o then Some (element item) else None) (item_node settled)

abbrev item_run : List Bool → Run Tree
item_run settled = body late settled ((props_made ∷ item_made ∷ []) ∷ []) 1 (tree.Made (record { render = []; serial = 0 })) (1 ∷ [])

item_body : (settled : List Bool) → body_at late settled (1 ∷ []) ≡ Some (item_run settled)
unfolding body_at
item_body settled = ap (λ b. body_below late settled [] [] (Some b) (1 ∷ [])) (late_body settled)

abbrev item_waits : Run Tree
item_waits = record { after = record { made = []; cost = 1 }; step = waits 0 }

abbrev item_gives : Run Tree
item_gives = record { after = record { made = []; cost = 5 }; step = gave (tree.Atom ada) }

item_before : item_run (false ∷ []) ≡ item_waits
item_before = component_body late (false ∷ []) ((props_made ∷ item_made ∷ []) ∷ []) 1 (codes "Item") (expr.Source (codes "user")) (term.source (codes "user")) (term-Source (codes "user")) refl (tree.Made (record { render = []; serial = 0 })) (1 ∷ [])

item_after : item_run (true ∷ []) ≡ item_gives
item_after = component_body late (true ∷ []) ((props_made ∷ item_made ∷ []) ∷ []) 1 (codes "Item") (expr.Source (codes "user")) (term.source (codes "user")) (term-Source (codes "user")) refl (tree.Made (record { render = []; serial = 0 })) (1 ∷ [])

item_rendered : Rendered late (true ∷ []) (1 ∷ []) 5
item_rendered =
    record {
      here = item_gives;
      is_body = item_body (true ∷ []) ∙ ap Some item_after;
      finishes = tt;
      costs = refl;
      job = element item;
      addressed = refl;
      value = shown (tree.Made item);
      met = late_reached (true ∷ []);
      is_job = item_job (true ∷ []);
    }

-- ---- the root finishes

abbrev root_running : State
root_running = record (opening late) { tasks = taken (false ∷ []) first_task ∷ [] }

abbrev item_ready : State
item_ready = record late_waiting { tasks = root_done (false ∷ []) ∷ item_task status.Ready 0 [] ∷ [] }

root_taken : TakeStep (opening late) root_running 0
root_taken = record { task = first_task; is_task = refl; was = refl; now = refl }

abbrev root_finishes : DoneStep late root_running item_ready 0
root_finishes =
    record {
      task = taken (false ∷ []) first_task;
      is_task = refl;
      turn = 1;
      was = refl;
      end = gave (tree.Made item);
      finds = ap (λ (z : Run Tree). z.step) (late_body (false ∷ []));
      finishes = tt;
      rows = (item_ready.rows, refl);
      homes = ([], refl);
      others = (item_ready.others, refl);
      counted = (item_ready.counted, refl);
      born = item_task status.Ready 0 [] ∷ [];
      tasks = refl;
      are_ready = born_ready;
      rest = refl;
    }
  where
    born_ready : (t : Task) → In t (item_task status.Ready 0 [] ∷ []) → t.status ≡ status.Ready
    born_ready t (inl e) = ap (λ (z : Task). z.status) e
    born_ready t (inr i) = absurd i

root_writes : WritesHere late root_running item_ready 0 1 2 [] (element_home item 1 ∷ [])
unfolding element_here
root_writes =
    record {
      step = root_finishes;
      alone = refl;
      seen = all_seen late (false ∷ []);
      shows = all_shows late (false ∷ []);
      rows = item_ready.rows;
      births = (1, what.Element item (record { made = (props_made ∷ item_made ∷ []) ∷ [] })) ∷ [];
      meant = (first_place 0, shown (tree.Made item)) ∷ [];
      local = element_here late (all_seen late (false ∷ [])) item item_made (record { made = (props_made ∷ item_made ∷ []) ∷ [] }) 0 1 [] (item_node (false ∷ [])) refl (item_tables (false ∷ [])) (omega arith) (λ a h. h);
      adopts = record {
        same_rows = refl;
        same_births = refl;
        into = λ k i p. absurd (omega (arith, p.1));
        onto = λ k a i is h names. absurd (subst IsNodeKey (element_only item 1 k a h).0 is);
        into_rows = into_row;
        onto_rows = λ k a is h. ⊎_elim (λ e. inl (ap (λ (z : Key × Ref). (z.0, z.1.id)) e)) (λ i. absurd i) h;
        own_counted = (5, inl refl);
        given_counted = λ n end h. absurd (none-some end h);
        counted_once = ((λ h. h), tt);
        new_counted = λ address cost h. counted address cost h;
      };
    }
  where
    into_row : (k : Key) (id : ℕ) → In {A = Key × ℕ} (k, id) ((key.Server item, 1) ∷ []) → IsRowKey k × ((a : Ref) × In (k, a) (element_home item 1 ∷ []) × (a.id ≡ id))
    into_row k id (inl e) = (subst IsRowKey (sym (ap (λ z. z.0) e)) tt, (record { id = 1; path = [] }, inl (ap (λ z. (z.0, record { id = 1; path = [] })) e), sym (ap (λ z. z.1) e)))
    into_row k id (inr i) = absurd i

    counted : (address : List ℕ) (cost : ℕ) → In {A = List ℕ × ℕ} (address, cost) (([], 5) ∷ []) → Rendered late (false ∷ []) address cost
    counted address cost (inl e) = subst (λ z. Rendered late (false ∷ []) z.0 z.1) (sym e) (root_rendered late (false ∷ []) _ (late_body (false ∷ [])) tt)
    counted address cost (inr h) = absurd h

-- ---- the element waits

abbrev item_running : State
item_running = record late_waiting { tasks = root_done (false ∷ []) ∷ item_task (status.Running 1) 1 (false ∷ []) ∷ [] }

item_taken : TakeStep item_ready item_running 1
item_taken = record { task = item_task status.Ready 0 []; is_task = refl; was = refl; now = refl }

item_stops : WaitStep late item_running late_waiting 1 0
item_stops = record { task = item_task (status.Running 1) 1 (false ∷ []); is_task = refl; turn = 1; was = refl; finds = ap (λ (z : Run Tree). z.step) item_before; now = refl }

at_root_running : Going late root_running [] 1
at_root_running = takes late (opening late) root_running 0 1 [] (opens late) root_taken

at_item_ready : Going late item_ready (element_home item 1 ∷ []) 2
at_item_ready = writes late late_valid root_running item_ready 0 1 2 [] (element_home item 1 ∷ []) at_root_running root_writes

at_item_running : Going late item_running (element_home item 1 ∷ []) 2
at_item_running = takes late item_ready item_running 1 2 (element_home item 1 ∷ []) at_item_ready item_taken

pub at_waiting : Going late late_waiting (element_home item 1 ∷ []) 2
at_waiting = stops late late_valid item_running late_waiting 1 0 2 (element_home item 1 ∷ []) at_item_running item_stops

-- the steps up to there, and then others
pub late_then : (more : List Event) (new : State) → steps.Run late more late_waiting new → steps.Run late (late_events ++ more) (opening late) new
late_then more new run = (
  root_running,
  record { does = root_taken; fits = at_root_running.fits },
  (
    item_ready,
    record { does = root_finishes; fits = at_item_ready.fits },
    (
      item_running,
      record { does = item_taken; fits = at_item_running.fits },
      (late_waiting, record { does = item_stops; fits = at_waiting.fits }, run),
    ),
  ),
)

pub late_waits : steps.Run late late_events (opening late) late_waiting
late_waits = late_then [] late_waiting refl

-- ---- the data is there

abbrev item_woken : State
item_woken = record late_waiting { settled = true ∷ []; tasks = root_done (false ∷ []) ∷ item_task status.Ready 1 (false ∷ []) ∷ [] }

abbrev item_again : State
item_again = record item_woken { tasks = root_done (false ∷ []) ∷ item_task (status.Running 2) 2 (true ∷ []) ∷ [] }

data_there : PingStep late_waiting item_woken 0
data_there = record { was = refl; now = refl }

item_retaken : TakeStep item_woken item_again 1
item_retaken = record { task = item_task status.Ready 1 (false ∷ []); is_task = refl; was = refl; now = refl }

abbrev item_finishes : DoneStep late item_again late_end 1
item_finishes =
    record {
      task = item_task (status.Running 2) 2 (true ∷ []);
      is_task = refl;
      turn = 2;
      was = refl;
      end = gave (tree.Atom ada);
      finds = ap (λ (z : Run Tree). z.step) item_after;
      finishes = tt;
      rows = (model 1 (place.Atom ada ∷ []) ∷ [], refl);
      homes = ([], refl);
      others = ([], refl);
      counted = ((1 ∷ [], 5) ∷ [], refl);
      born = [];
      tasks = refl;
      are_ready = λ t i. absurd i;
      rest = refl;
    }

item_writes : WritesHere late item_again late_end 1 2 2 (element_home item 1 ∷ []) (element_home item 1 ∷ [])
unfolding bare_here
item_writes =
    record {
      step = item_finishes;
      alone = refl;
      seen = all_seen late (true ∷ []);
      shows = all_shows late (true ∷ []);
      rows = model 1 (place.Atom ada ∷ []) ∷ [];
      births = [];
      meant = (first_place 1, shown (tree.Atom ada)) ∷ [];
      local = atom_here late (all_seen late (true ∷ [])) ada (sure ada tt) 1 2 (element_home item 1 ∷ []);
      adopts = record {
        same_rows = refl;
        same_births = refl;
        into = λ k i p. absurd (omega (arith, p.1));
        onto = λ k a i is h names. absurd h;
        into_rows = λ k id h. absurd h;
        onto_rows = λ k a is h. absurd h;
        own_counted = (5, inr (inl refl));
        given_counted = λ n end h. absurd (none-some end h);
        counted_once = (λ h. ⊎_elim (λ e. omega (arith, ap (λ (z : List ℕ). length z) e)) (λ i. absurd i) h, ((λ h. h), tt));
        new_counted = λ address cost h. counted address cost h;
      };
    }
  where
    counted : (address : List ℕ) (cost : ℕ) → In {A = List ℕ × ℕ} (address, cost) ((1 ∷ [], 5) ∷ []) → Rendered late (true ∷ []) address cost
    counted address cost (inl e) = subst (λ z. Rendered late (true ∷ []) z.0 z.1) (sym e) item_rendered
    counted address cost (inr h) = absurd h

at_item_woken : Going late item_woken (element_home item 1 ∷ []) 2
at_item_woken = pings late late_waiting item_woken 0 2 (element_home item 1 ∷ []) at_waiting data_there

at_item_again : Going late item_again (element_home item 1 ∷ []) 2
at_item_again = takes late item_woken item_again 1 2 (element_home item 1 ∷ []) at_item_woken item_retaken

at_end : Going late late_end (element_home item 1 ∷ []) 2
at_end = writes late late_valid item_again late_end 1 2 2 (element_home item 1 ∷ []) (element_home item 1 ∷ []) at_item_again item_writes

pub late_runs : steps.Run late (late_events ++ late_rest) (opening late) late_end
late_runs = late_then late_rest late_end (
  item_woken,
  record { does = data_there; fits = at_item_woken.fits },
  (
    item_again,
    record { does = item_retaken; fits = at_item_again.fits },
    (late_end, record { does = item_finishes; fits = at_end.fits }, refl),
  ),
)

-- ---- what it comes to

pub late_quiet : IsQuiet late_waiting
late_quiet t (inl e) = subst (λ (z : Task). IsAtRest z.status) (sym e) tt
late_quiet t (inr (inl e)) = subst (λ (z : Task). IsAtRest z.status) (sym e) tt
late_quiet t (inr (inr i)) = absurd i

pub late_closed : IsClosed late_end
late_closed t (inl e) = ap (λ (z : Task). z.status) e
late_closed t (inr (inl e)) = ap (λ (z : Task). z.status) e
late_closed t (inr (inr i)) = absurd i

pub late_means : DrawOneGraph (of_graph late_graph) (meaning late_end.rows)
late_means = (
  [],
  record {
    one_there = λ k l m p q. absurd (omega (arith, p.1));
    one_here = λ k j l p q. absurd (omega (arith, p.1));
    roots = record {
      here = store.atom ada;
      there = store.atom ada;
      leads_here = refl;
      leads_there = inl (found (first_place 1), (4, refl), refl);
      targets_fit = refl;
    };
    each = λ k l p. absurd (omega (arith, p.1));
  },
)

pub late_pends : DrawOneGraph (of_graph late_so_far) (meaning late_waiting.rows)
late_pends = (
  [],
  record {
    one_there = λ k l m p q. absurd (omega (arith, p.1));
    one_here = λ k j l p q. absurd (omega (arith, p.1));
    roots = record {
      here = store.atom atom.Pending;
      there = store.atom atom.Pending;
      leads_here = refl;
      leads_there = inl (not_yet 1 [], (3, refl), refl);
      targets_fit = refl;
    };
    each = λ k l p. absurd (omega (arith, p.1));
  },
)
