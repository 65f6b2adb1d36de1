-- The worked run of a component that gives a plain value.
use Rattle.std.proofs.Common.{◌≡◌, ℕ, inl, inr, List, [], ◌∷◌, refl, sym, ap, subst, arith}
use Rattle.std.proofs.lemmas.Option.{none-some}
use Rattle.std.specs.Prelude.{codes}
use Rattle.std.proofs.lemmas.List.Elements.{All-from_recursion}
use Rattle.flight_value.specs.Store as store
use Rattle.flight_value.specs.Store.{DrawOneGraph, of_graph, Paired}
use Rattle.flight_value.specs.declared.made.Tree.{Tree}
use Rattle.flight_value.specs.declared.made.Tree.TheVariants as tree
use Rattle.flight_syntax.specs.declared.expr.Expr as expr
use Rattle.flight_syntax.specs.Term as term
use Rattle.flight_syntax.proofs.Terms.{term-Atom}
use Rattle.flight_render.specs.Run.{gave, Run}
use Rattle.flight_render.specs.Body.{root_body}
use Rattle.flight_render.specs.Jobs.{shown}
use Rattle.flight_render.specs.Costs.{Rendered}
use Rattle.flight_value.specs.Listed.{In}
use Rattle.flight_render.specs.Valid.{IsValidGround, IsDeclared, IsLawful}
use Rattle.flight_meaning.specs.Linked.{first_place}
use Rattle.flight_meaning.specs.Resolve.{found}
use Rattle.flight_meaning.specs.Meaning.{meaning}
use Rattle.flight_state.specs.State.{State, IsClosed, Task}
use Rattle.flight_state.specs.Steps as steps
use Rattle.flight_state.specs.Steps.{taken, first_task, opening, DoneStep, TakeStep}
use Rattle.flight_state.specs.Local.{WritesHere}
use Rattle.flight_state.specs.Worked.{hello, greeting, greeting_events, greeting_end, greeting_graph, component}
use Rattle.flight_state.proofs.Examples.{bare_here, atom_here}
use Rattle.flight_state.proofs.Singles.{sure}
use Rattle.flight_state.proofs.Going.{Going, opens, takes, writes}
use Rattle.flight_state.proofs.Apps.{app_script, no_name, app_body, root_rendered, all_seen, all_shows}

-- ---- the ground

pub greeting_valid : IsValidGround greeting
greeting_valid =
    record {
      each = All-from_recursion (IsDeclared greeting) (component (codes "App") (expr.Atom hello) ∷ []) ((tt, subst (IsLawful greeting 0) (sym (term-Atom hello)) tt), tt);
      one_component = (tt, tt);
      one_action = tt;
      has_app = (0, ([], (expr.Atom hello, refl)));
      script = app_script [] [] (omega arith) (omega arith) no_name no_name tt tt;
      first = tt;
    }

greeting_body : root_body greeting [] ≡ record { after = record { made = []; cost = 7 }; step = gave (tree.Atom hello) }
greeting_body = app_body greeting [] (expr.Atom hello) (term.atom hello) (term-Atom hello) refl

-- ---- the steps

abbrev running : State
running = record (opening greeting) { tasks = taken [] first_task ∷ [] }

take_first : TakeStep (opening greeting) running 0
take_first = record { task = first_task; is_task = refl; was = refl; now = refl }

abbrev done_first : DoneStep greeting running greeting_end 0
done_first =
    record {
      task = taken [] first_task;
      is_task = refl;
      turn = 1;
      was = refl;
      end = gave (tree.Atom hello);
      finds = ap (λ (z : Run Tree). z.step) greeting_body;
      finishes = tt;
      rows = (greeting_end.rows, refl);
      homes = ([], refl);
      others = ([], refl);
      counted = (greeting_end.counted, refl);
      born = [];
      tasks = refl;
      are_ready = λ t i. absurd i;
      rest = refl;
    }

write_first : WritesHere greeting running greeting_end 0 1 1 [] []
unfolding bare_here
write_first =
    record {
      step = done_first;
      alone = refl;
      seen = all_seen greeting [];
      shows = all_shows greeting [];
      rows = greeting_end.rows;
      births = [];
      meant = (first_place 0, shown (tree.Atom hello)) ∷ [];
      local = atom_here greeting (all_seen greeting []) hello (sure hello tt) 0 1 [];
      adopts = record {
        same_rows = refl;
        same_births = refl;
        into = λ k i p. absurd (omega (arith, p.1));
        onto = λ k a i is h names. absurd h;
        into_rows = λ k id h. absurd h;
        onto_rows = λ k a is h. absurd h;
        own_counted = (7, inl refl);
        given_counted = λ n end h. absurd (none-some end h);
        counted_once = ((λ h. h), tt);
        new_counted = λ address cost h. counted address cost h;
      };
    }
  where
    counted : (address : List ℕ) (cost : ℕ) → In {A = List ℕ × ℕ} (address, cost) (([], 7) ∷ []) → Rendered greeting [] address cost
    counted address cost (inl e) = subst (λ z. Rendered greeting [] z.0 z.1) (sym e) (root_rendered greeting [] _ greeting_body tt)
    counted address cost (inr h) = absurd h

-- ---- the run

at_running : Going greeting running [] 1
at_running = takes greeting (opening greeting) running 0 1 [] (opens greeting) take_first

at_end : Going greeting greeting_end [] 1
at_end = writes greeting greeting_valid running greeting_end 0 1 1 [] [] at_running write_first

pub greeting_runs : steps.Run greeting greeting_events (opening greeting) greeting_end
greeting_runs = (running, record { does = take_first; fits = at_running.fits }, (greeting_end, record { does = done_first; fits = at_end.fits }, refl))

pub greeting_means : DrawOneGraph (of_graph greeting_graph) (meaning greeting_end.rows)
greeting_means = (
  [],
  record {
    one_there = λ k l m p q. absurd (omega (arith, p.1));
    one_here = λ k j l p q. absurd (omega (arith, p.1));
    roots = record {
      here = store.atom hello;
      there = store.atom hello;
      leads_here = refl;
      leads_there = inl (found (first_place 0), (2, refl), refl);
      targets_fit = refl;
    };
    each = λ k l p. absurd (omega (arith, p.1));
  },
)

pub greeting_closed : IsClosed greeting_end
greeting_closed t (inl e) = ap (λ (z : Task). z.status) e
greeting_closed t (inr i) = absurd i
