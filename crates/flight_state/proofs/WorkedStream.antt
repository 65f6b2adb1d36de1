-- The worked run of a stream.
use Rattle.std.proofs.Common.{◌≡◌, ℕ, Bool, true, false, ◌⊎◌, inl, inr, ⊎_elim, List, [], ◌∷◌, zero, suc, Some, None, refl, sym, ap, ◌∙◌, subst, arith, append-nil, ◌<◌}
use Rattle.std.proofs.lemmas.Option.{none-some, same_Some}
use Rattle.std.specs.Prelude.{codes, slice_get}
use Rattle.std.proofs.lemmas.List.Elements.{All-from_recursion}
use Rattle.flight_value.specs.Store as store
use Rattle.flight_value.specs.Store.{DrawOneGraph, of_graph, Paired, Shape}
use Rattle.flight_value.specs.declared.graph.Slot.TheVariants as slot
use Rattle.flight_value.specs.declared.graph.Atom.{Atom}
use Rattle.flight_value.specs.declared.graph.Atom.TheVariants as atom
use Rattle.flight_value.specs.declared.key.Key.{Key}
use Rattle.flight_value.specs.declared.key.Key.TheVariants as key
use Rattle.flight_value.specs.declared.made.Tree.{Tree}
use Rattle.flight_value.specs.declared.made.Tree.TheVariants as tree
use Rattle.flight_value.specs.Listed.{In}
use Rattle.flight_text.specs.declared.mark.Ref.{Ref}
use Rattle.flight_syntax.specs.declared.expr.Expr.{Expr}
use Rattle.flight_syntax.specs.declared.expr.Expr as expr
use Rattle.flight_syntax.specs.Term as term
use Rattle.flight_syntax.specs.Term.{Term}
use Rattle.flight_render.specs.declared.job.What.{What}
use Rattle.flight_render.specs.declared.job.What.TheVariants as what
use Rattle.flight_render.specs.Attempt.{job_for}
use Rattle.flight_render.specs.Run.{gave, Run}
use Rattle.flight_render.specs.Body.{root_body}
use Rattle.flight_render.specs.Jobs.{shown, Value}
use Rattle.flight_render.specs.Costs.{Rendered}
use Rattle.flight_render.specs.Valid.{IsValidGround, IsDeclared, IsLawful}
use Rattle.flight_meaning.specs.Linked.{first_place, Spot, place_at, rows_of}
use Rattle.flight_meaning.specs.Resolve.{found}
use Rattle.flight_meaning.specs.Meaning.{meaning, at_place, Identity}
use Rattle.flight_meaning.specs.declared.place.Place.{Place}
use Rattle.flight_meaning.specs.declared.place.Place.TheVariants as place
use Rattle.flight_meaning.specs.declared.place.PlacedRow.{PlacedRow}
use Rattle.flight_state.specs.declared.status.Status.TheVariants as status
use Rattle.flight_state.specs.State.{State, IsClosed, Task, stream_for}
use Rattle.flight_state.specs.Steps as steps
use Rattle.flight_state.specs.Steps.{taken, first_task, opening, DoneStep, TakeStep, PingStep}
use Rattle.flight_state.specs.Emits.{IsPlain, Meant}
use Rattle.flight_state.specs.Local as local
use Rattle.flight_state.specs.Local.{WritesHere, Homes, Births, Seen, IsNodeKey, IsRowKey, EmitsHere, job_seen, shape_seen}
use Rattle.flight_state.specs.Worked.{ada, root_done, model}
use Rattle.flight_state.proofs.Going.{Going, opens, takes, writes, pings}
use Rattle.flight_state.proofs.Apps.{app_script, one_name, app_body, root_rendered, all_seen, all_shows}
use Rattle.flight_state.proofs.Singles.{two_rows, two_once, two_places, no_close, sure, each_in, contains_in, in_contains}
use Rattle.flight_value.specs.declared.graph.Flow.TheVariants as flow
use Rattle.flight_syntax.specs.Script.{IsFlowing}
use Rattle.flight_syntax.proofs.Terms.{term-Stream}
use Rattle.flight_meaning.specs.Resolve as resolve
use Rattle.flight_meaning.specs.Meaning.{stream_of}
use Rattle.flight_row.specs.declared.row.RowKind.{RowKind}
use Rattle.flight_row.specs.declared.row.RowKind.TheVariants as row
use Rattle.flight_render.specs.Values.{undefined}
use Rattle.flight_state.specs.Local.{AddsHere, StreamsHere, StreamsOn, MeantThere, IsOnce}
use Rattle.flight_state.specs.Worked.{user, feed, streamed, item_of_feed, end_of_feed, opens_feed, closes_feed, streamed_events, streamed_end, streamed_graph}
use Rattle.flight_state.proofs.Going.{flows}
use Rattle.flight_state.proofs.WorkedWait.{user_data}

-- ---- the ground

feed_flows : IsFlowing 1 feed
feed_flows = record { named = (refl, refl); few = omega arith; items = All-from_recursion (λ source. source < 1) (0 ∷ []) (omega arith, tt); last = λ source h. absurd (none-some source h) }

pub streamed_valid : IsValidGround streamed
streamed_valid =
    record {
      each = All-from_recursion (IsDeclared streamed) streamed.program.declared ((tt, subst (IsLawful streamed 0) (sym (term-Stream (codes "feed"))) refl), tt);
      one_component = (tt, tt);
      one_action = tt;
      has_app = (0, ([], (expr.Stream (codes "feed"), refl)));
      script = app_script (user ∷ []) (feed ∷ []) (omega arith) (omega arith) (one_name user.name) (one_name feed.name) (user_data, tt) (feed_flows, tt);
      first = tt;
    }

abbrev streamed_root : Run Tree
streamed_root = record { after = record { made = []; cost = 2 }; step = gave (tree.Stream 0) }

pub streamed_body : (settled : List Bool) → root_body streamed settled ≡ streamed_root
streamed_body settled = app_body streamed settled (expr.Stream (codes "feed")) (term.stream (codes "feed")) (term-Stream (codes "feed")) refl

-- ---- the stream is opened: `1:R` and `0:"$1"`

abbrev feed_ref : Ref
feed_ref = record { id = 1; path = [] }

abbrev root_row : PlacedRow
root_row = model 0 (place.Value feed_ref ∷ [])

abbrev opening_rows : List PlacedRow
opening_rows = opens_feed ∷ root_row ∷ []

abbrev pub feed_homes : Homes
feed_homes = (key.Stream 0, feed_ref) ∷ []

abbrev feed_births : Births
feed_births = (1, what.Item 0 0) ∷ []

abbrev feed_meant : Meant
feed_meant = (first_place 0, shown (tree.Stream 0)) ∷ []

abbrev before : Seen
before = all_seen streamed (false ∷ [])

only_feed : (k : Key) (a : Ref) → In (k, a) feed_homes → (k ≡ key.Stream 0) × (a ≡ feed_ref)
only_feed k a (inl e) = (ap (λ z. z.0) e, ap (λ z. z.1) e)
only_feed k a (inr h) = absurd h

feed_named : (k : Key) (a : Ref) (i : Identity) → In (k, a) feed_homes → local.Names streamed before opening_rows k a i → i ≡ stream_of 1
feed_named k a i h p =
    let e = only_feed k a h in
    subst (λ (z : Ref). i ≡ stream_of z.id) e.1 (subst (λ z. local.Names streamed before opening_rows z a i) e.0 p)

row_there : (n : ℕ) → (rows_of n opening_rows ≡ [] → ⊥) → (n ≡ 0) ⊎ local.IsFresh 1 2 n
row_there n h = ⊎_elim (λ e. inr (omega (arith, e.0), omega (arith, e.0))) (λ x. ⊎_elim (λ e. inl e.0) (λ e. absurd (h e)) x) (two_rows opens_feed.tree root_row.tree n)

-- one place stands there
opening_place : (s : Spot) (at : Place) → place_at opening_rows s ≡ Some at → s ≡ first_place 0
opening_place s at h = ⊎_elim (λ e. absurd (none-some at e.1)) (λ e. go s.at e.0 e.1) (two_places opens_feed.tree root_row.tree s at h)
  where
    go : (n : ℕ) → s ≡ record { id = 0; nth = 0; at = n } → slice_get root_row.tree.places n ≡ Some at → s ≡ first_place 0
    go zero e q = e
    go (suc n) e q = absurd (none-some at q)

feed_here : EmitsHere streamed before (shown (tree.Stream 0)) 0 1 2 [] feed_homes opening_rows feed_births feed_meant
feed_here =
    record {
      own = (refl, inl refl);
      adds = record {
        up = omega arith;
        once = two_once opens_feed.tree root_row.tree (no_close (row.Open flow.Readable) (λ x. x)) (no_close row.Model (λ x. x));
        row_fresh = row_there;
        held = λ s at h. inr (shown (tree.Stream 0), inl (ap (λ z. (z, shown (tree.Stream 0))) (opening_place s at h)));
        more = feed_homes;
        homes = refl;
        new_key = λ k a b i j. j;
        one_home = λ k a b i j. (only_feed k a i).1 ∙ sym (only_feed k b j).1;
        one_key = λ k l a b n i j p q. (only_feed k a i).0 ∙ sym (only_feed l b j).0;
        home_fresh = λ k a n i p. subst (local.IsNewHome 1 2) (sym (feed_named k a n i p)) (omega arith, omega arith);
        row_fresh_key = λ k a is i. absurd (subst IsRowKey (only_feed k a i).0 is);
        one_row_key = λ k l a b r q i j e. absurd (subst IsRowKey (only_feed k a i).0 r);
        is_home = λ k a i. each_in (λ (z : Key × Ref). local.HomeHere streamed before opening_rows feed_births feed_meant z.0 z.1) feed_homes (
          record { flows = feed; is_stream = refl; opener = opens_feed.tree; is_row = refl; opens = refl; born = inl refl },
          tt,
        ) (k, a) i;
        places = λ s v i. each_in (λ (z : Spot × Value). (at : Place) × (place_at opening_rows z.0 ≡ Some at) × local.WrittenHere streamed before feed_homes feed_homes opening_rows (Some z.0) at z.1) feed_meant (
          (place.Value feed_ref, refl, local.a_stream 0 feed_ref refl (inl refl) (inr refl)),
          tt,
        ) (s, v) i;
        born_once = ((λ i. i), tt);
        born_fresh = λ u w i. each_in (λ (z : ℕ × What). local.IsFresh 1 2 z.0) feed_births ((omega arith, omega arith), tt) (u, w) i;
        born_met = λ u w i. each_in (λ (z : ℕ × What). local.MetBy streamed before (shown (tree.Stream 0)) (job_for streamed z.1) (stream_for z.1)) feed_births ((shown (tree.Stream 0), local.at_first, refl), tt) (u, w) i;
        born_tables = λ u w i. each_in (λ (z : ℕ × What). local.TablesHere before z.1) feed_births (tt, tt) (u, w) i;
        unwritten = λ u w i alone. absurd (each_in (λ (z : ℕ × What). stream_for z.1 ≡ None → ⊥) feed_births ((λ e. none-some 0 (sym e)), tt) (u, w) i alone);
        for_stream = λ u w n i e. each_in (λ (z : ℕ × What). stream_for z.1 ≡ Some n → (a : Ref) × In (key.Stream n, a) feed_homes × (a.id ≡ z.0)) feed_births ((λ q. (feed_ref, inl (ap (λ z. (key.Stream z, feed_ref)) (sym (same_Some 0 n q))), refl)), tt) (u, w) i e;
      };
    }

-- ---- the steps

abbrev pub root_running : State
root_running = record (opening streamed) { tasks = taken (false ∷ []) first_task ∷ [] }

abbrev pub feed_open : State
feed_open =
    record {
      rows = opening_rows;
      tasks = root_done (false ∷ []) ∷ item_of_feed status.Ready 0 [] ∷ [];
      settled = false ∷ [];
      homes = streamed_end.homes;
      others = [];
      counted = streamed_end.counted;
      ended = [];
      over = false;
    }

abbrev data_came : State
data_came = record feed_open { settled = true ∷ [] }

abbrev item_running : State
item_running = record data_came { tasks = root_done (false ∷ []) ∷ item_of_feed (status.Running 1) 1 (true ∷ []) ∷ [] }

abbrev item_written : State
item_written =
    record data_came {
      rows = opens_feed ∷ root_row ∷ model 1 (place.Atom ada ∷ []) ∷ [];
      tasks = root_done (false ∷ []) ∷ item_of_feed status.Done 1 (true ∷ []) ∷ end_of_feed status.Ready 0 [] ∷ [];
    }

abbrev end_running : State
end_running = record item_written { tasks = root_done (false ∷ []) ∷ item_of_feed status.Done 1 (true ∷ []) ∷ end_of_feed (status.Running 1) 1 (true ∷ []) ∷ [] }

pub root_taken : TakeStep (opening streamed) root_running 0
root_taken = record { task = first_task; is_task = refl; was = refl; now = refl }

abbrev pub root_finishes : DoneStep streamed root_running feed_open 0
root_finishes =
    record {
      task = taken (false ∷ []) first_task;
      is_task = refl;
      turn = 1;
      was = refl;
      end = gave (tree.Stream 0);
      finds = ap (λ (z : Run Tree). z.step) (streamed_body (false ∷ []));
      finishes = tt;
      rows = (opening_rows, refl);
      homes = (feed_open.homes, refl);
      others = ([], refl);
      counted = (feed_open.counted, refl);
      born = item_of_feed status.Ready 0 [] ∷ [];
      tasks = refl;
      are_ready = each_in (λ (t : Task). t.status ≡ status.Ready) (item_of_feed status.Ready 0 [] ∷ []) (refl, tt);
      rest = refl;
    }

root_writes : WritesHere streamed root_running feed_open 0 1 2 [] feed_homes
unfolding feed_here
root_writes =
    record {
      step = root_finishes;
      alone = refl;
      seen = before;
      shows = all_shows streamed (false ∷ []);
      rows = opening_rows;
      births = feed_births;
      meant = feed_meant;
      local = feed_here;
      adopts = record {
        same_rows = refl;
        same_births = refl;
        into = λ k i p. each_in (λ (z : Key × Identity). IsNodeKey z.0 × ((a : Ref) × In (z.0, a) feed_homes × local.Names streamed before opening_rows z.0 a z.1)) feed_open.homes ((tt, (feed_ref, inl refl, refl)), tt) (k, i) (contains_in feed_open.homes (k, i) p);
        onto = λ k a i is h names. in_contains feed_open.homes (k, i) (inl (ap (λ z. (z, i)) (only_feed k a h).0 ∙ ap (λ z. (key.Stream 0, z)) (feed_named k a i h names)));
        into_rows = λ k id i. absurd i;
        onto_rows = λ k a is h. absurd (subst IsRowKey (only_feed k a h).0 is);
        own_counted = (2, inl refl);
        given_counted = λ n end h. absurd (none-some end h);
        counted_once = ((λ h. h), tt);
        new_counted = λ address cost i. each_in (λ (z : List ℕ × ℕ). Rendered streamed (false ∷ []) z.0 z.1) feed_open.counted (root_rendered streamed (false ∷ []) streamed_root (streamed_body (false ∷ [])) tt, tt) (address, cost) i;
      };
    }

data_settles : PingStep feed_open data_came 0
data_settles = record { was = refl; now = refl }

-- ---- the item: `1:"Ada"`

abbrev after : Seen
after = all_seen streamed (true ∷ [])

-- no row besides that of the stream, no home and no task
unfoldable nothing : (v : Value) (homes : Homes) → AddsHere streamed after v None 2 2 homes homes [] [] []
nothing v homes =
    record {
      up = omega arith;
      once = λ n. tt;
      row_fresh = λ n h. absurd (h refl);
      held = λ s at h. absurd (none-some at h);
      more = [];
      homes = sym (append-nil homes);
      new_key = λ k a b i j. i;
      one_home = λ k a b i j. absurd i;
      one_key = λ k l a b n i j p q. absurd i;
      home_fresh = λ k a n i p. absurd i;
      row_fresh_key = λ k a is i. absurd i;
      one_row_key = λ k l a b r q i j e. absurd i;
      is_home = λ k a i. absurd i;
      places = λ s v i. absurd i;
      born_once = tt;
      born_fresh = λ u w i. absurd i;
      born_met = λ u w i. absurd i;
      born_tables = λ u w i. absurd i;
      unwritten = λ u w i. absurd i;
      for_stream = λ u w n i. absurd i;
    }

item_taken : TakeStep data_came item_running 1
item_taken = record { task = item_of_feed status.Ready 0 []; is_task = refl; was = refl; now = refl }

abbrev item_finishes : DoneStep streamed item_running item_written 1
item_finishes =
    record {
      task = item_of_feed (status.Running 1) 1 (true ∷ []);
      is_task = refl;
      turn = 1;
      was = refl;
      end = gave (tree.Atom ada);
      finds = refl;
      finishes = tt;
      rows = (model 1 (place.Atom ada ∷ []) ∷ [], refl);
      homes = ([], refl);
      others = ([], refl);
      counted = ([], refl);
      born = end_of_feed status.Ready 0 [] ∷ [];
      tasks = refl;
      are_ready = each_in (λ (t : Task). t.status ≡ status.Ready) (end_of_feed status.Ready 0 [] ∷ []) (refl, tt);
      rest = refl;
    }

abbrev there : Atom → MeantThere
there a = (0, shown (tree.Atom a)) ∷ []

atom_places : (a : Atom) → (a ≡ atom.Pending → ⊥) → (kind : RowKind) (n : ℕ) (v : Value) → In (n, v) (there a) → (at : Place) × (slice_get (place.Atom a ∷ []) n ≡ Some at) × local.WrittenHere streamed after feed_homes [] [] None at v
atom_places a not kind n v i = each_in (λ (z : ℕ × Value). (at : Place) × (slice_get (place.Atom a ∷ []) z.0 ≡ Some at) × local.WrittenHere streamed after feed_homes [] [] None at z.1) (there a) ((place.Atom a, refl, local.an_atom a refl refl not), tt) (n, v) i

atom_held : (a : Atom) (n : ℕ) (at : Place) → slice_get (place.Atom a ∷ []) n ≡ Some at → IsPlain at ⊎ ((v : Value) × In (n, v) (there a))
atom_held a zero at h = inl (subst IsPlain (same_Some (place.Atom a) at h) tt)
atom_held a (suc n) at h = absurd (none-some at h)

item_writes : StreamsOn streamed item_running item_written 1 2 2 feed_homes feed_homes
unfolding nothing
item_writes =
    record {
      step = item_finishes;
      stream = 0;
      of_stream = refl;
      seen = after;
      shows = all_shows streamed (true ∷ []);
      tree = record { kind = row.Model; places = place.Atom ada ∷ [] };
      rows = [];
      follower = Some (what.Last 0);
      births = [];
      there = there ada;
      meant = [];
      local = record {
        adds = nothing (shown (tree.Atom ada)) feed_homes;
        is_row = local.an_item feed 0 0 (tree.Atom ada) refl refl refl tt (inl refl);
        places = atom_places ada (sure ada tt) row.Model;
        held = atom_held ada;
      };
      adopts = record {
        same_rows = refl;
        same_births = refl;
        into = λ k i p. absurd (omega (arith, p.1));
        onto = λ k a i is h names. absurd h;
        into_rows = λ k id i. absurd i;
        onto_rows = λ k a is h. absurd h;
        own_counted = tt;
        given_counted = λ n end h. absurd (none-some end h);
        counted_once = ((λ h. h), tt);
        new_counted = λ address cost i. absurd i;
      };
    }

-- ---- the end: `1:C`

end_taken : TakeStep item_written end_running 2
end_taken = record { task = end_of_feed status.Ready 0 []; is_task = refl; was = refl; now = refl }

abbrev end_finishes : DoneStep streamed end_running streamed_end 2
end_finishes =
    record {
      task = end_of_feed (status.Running 1) 1 (true ∷ []);
      is_task = refl;
      turn = 1;
      was = refl;
      end = gave undefined;
      finds = refl;
      finishes = tt;
      rows = (closes_feed ∷ [], refl);
      homes = ([], refl);
      others = ([], refl);
      counted = ([], refl);
      born = [];
      tasks = refl;
      are_ready = λ t i. absurd i;
      rest = refl;
    }

end_writes : StreamsOn streamed end_running streamed_end 2 2 2 feed_homes feed_homes
unfolding nothing
end_writes =
    record {
      step = end_finishes;
      stream = 0;
      of_stream = refl;
      seen = after;
      shows = all_shows streamed (true ∷ []);
      tree = closes_feed.tree;
      rows = [];
      follower = None;
      births = [];
      there = there atom.Undefined;
      meant = [];
      local = record {
        adds = nothing (shown undefined) feed_homes;
        is_row = local.its_final 0 undefined refl refl refl (inl refl);
        places = atom_places atom.Undefined (sure atom.Undefined tt) row.Close;
        held = atom_held atom.Undefined;
      };
      adopts = record {
        same_rows = refl;
        same_births = refl;
        into = λ k i p. absurd (omega (arith, p.1));
        onto = λ k a i is h names. absurd h;
        into_rows = λ k id i. absurd i;
        onto_rows = λ k a is h. absurd h;
        own_counted = tt;
        given_counted = λ n end h. absurd (none-some end h);
        counted_once = ((λ h. h), tt);
        new_counted = λ address cost i. absurd i;
      };
    }

-- ---- the run

pub at_root_running : Going streamed root_running [] 1
at_root_running = takes streamed (opening streamed) root_running 0 1 [] (opens streamed) root_taken

pub at_feed_open : Going streamed feed_open feed_homes 2
at_feed_open = writes streamed streamed_valid root_running feed_open 0 1 2 [] feed_homes at_root_running root_writes

at_data_came : Going streamed data_came feed_homes 2
at_data_came = pings streamed feed_open data_came 0 2 feed_homes at_feed_open data_settles

at_item_running : Going streamed item_running feed_homes 2
at_item_running = takes streamed data_came item_running 1 2 feed_homes at_data_came item_taken

at_item_written : Going streamed item_written feed_homes 2
at_item_written = flows streamed streamed_valid item_running item_written 1 2 2 feed_homes feed_homes at_item_running item_writes

at_end_running : Going streamed end_running feed_homes 2
at_end_running = takes streamed item_written end_running 2 2 feed_homes at_item_written end_taken

at_end : Going streamed streamed_end feed_homes 2
at_end = flows streamed streamed_valid end_running streamed_end 2 2 2 feed_homes feed_homes at_end_running end_writes

pub streamed_runs : steps.Run streamed streamed_events (opening streamed) streamed_end
streamed_runs = (
  root_running,
  record { does = root_taken; fits = at_root_running.fits },
  (
    feed_open,
    record { does = root_finishes; fits = at_feed_open.fits },
    (
      data_came,
      record { does = data_settles; fits = at_data_came.fits },
      (
        item_running,
        record { does = item_taken; fits = at_item_running.fits },
        (
          item_written,
          record { does = item_finishes; fits = at_item_written.fits },
          (
            end_running,
            record { does = end_taken; fits = at_end_running.fits },
            (streamed_end, record { does = end_finishes; fits = at_end.fits }, refl),
          ),
        ),
      ),
    ),
  ),
)

pub streamed_closed : IsClosed streamed_end
streamed_closed = each_in (λ (t : Task). t.status ≡ status.Done) streamed_end.tasks (refl, (refl, (refl, tt)))

-- ---- what it means

abbrev pairs : List (ℕ × Identity)
pairs = (0, stream_of 1) ∷ []

pub streamed_means : DrawOneGraph (of_graph streamed_graph) (meaning streamed_end.rows)
streamed_means = (
  pairs,
  record {
    one_there = λ k l m p q. ap (λ (z : ℕ × Identity). z.1) (only k l p ∙ sym (only k m q));
    one_here = λ k j l p q. ap (λ (z : ℕ × Identity). z.0) (only k l p ∙ sym (only j l q));
    roots = record {
      here = store.node_at 0;
      there = store.node_at (stream_of 1);
      leads_here = refl;
      leads_there = inl (resolve.stream 1, (4, refl), refl);
      targets_fit = in_contains pairs (0, stream_of 1) (inl refl);
    };
    each = λ k l p. each_in (λ (z : ℕ × Identity). store.NodesFit (Paired pairs) (of_graph streamed_graph) (meaning streamed_end.rows) z.0 z.1) pairs (
      record {
        here = record { label = store.stream flow.Readable store.closed; slots = slot.Atom ada ∷ slot.Atom atom.Undefined ∷ [] };
        there = record { label = store.stream flow.Readable store.closed; slots = at_place (record { id = 1; nth = 1; at = 0 }) ∷ at_place (record { id = 1; nth = 2; at = 0 }) ∷ [] };
        is_here = refl;
        is_there = refl;
        labels = refl;
        slots_fit = (
          record { here = store.atom ada; there = store.atom ada; leads_here = refl; leads_there = inl (found (record { id = 1; nth = 1; at = 0 }), (1, refl), refl); targets_fit = refl },
          (record { here = store.atom atom.Undefined; there = store.atom atom.Undefined; leads_here = refl; leads_there = inl (found (record { id = 1; nth = 2; at = 0 }), (1, refl), refl); targets_fit = refl }, tt),
        );
      },
      tt,
    ) (k, l) (contains_in pairs (k, l) p);
  },
)
  where
    only : (k : ℕ) (l : Identity) → Paired pairs k l → ◌≡◌ {A = ℕ × Identity} (k, l) (0, stream_of 1)
    only k l p = each_in (λ (z : ℕ × Identity). z ≡ (0, stream_of 1)) pairs (refl, tt) (k, l) (contains_in pairs (k, l) p)
