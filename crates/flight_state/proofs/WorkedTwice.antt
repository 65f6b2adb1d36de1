-- The worked run in which two tasks meet one object.
use Rattle.std.proofs.Common.{◌≡◌, ℕ, Bool, true, false, ◌⊎◌, inl, inr, ⊎_elim, length, List, [], ◌∷◌, ◌++◌, zero, suc, Some, None, refl, sym, ap, ◌∙◌, subst, arith, option_and_then}
use Rattle.std.proofs.lemmas.Option.{none-some, same_Some}
use Rattle.std.specs.Prelude.{codes, if◌then◌else◌, slice_get}
use Rattle.std.specs.List.Sorted.{IsStrictlySortedBy}
use Rattle.std.proofs.lemmas.List.Elements.{All-from_recursion}
use Rattle.flight_value.specs.Store as store
use Rattle.flight_value.specs.Store.{DrawOneGraph, of_graph, Paired, Shape}
use Rattle.flight_value.specs.Graph.{IsValidNode, IsValidSlot}
use Rattle.flight_value.specs.declared.graph.Node.{Node}
use Rattle.flight_value.specs.declared.graph.Node.TheVariants as node
use Rattle.flight_value.specs.declared.graph.Slot.TheVariants as slot
use Rattle.flight_value.specs.declared.graph.Atom.TheVariants as atom
use Rattle.flight_value.specs.declared.key.Key.{Key}
use Rattle.flight_value.specs.declared.key.Key.TheVariants as key
use Rattle.flight_value.specs.declared.made.Made.{Made}
use Rattle.flight_value.specs.declared.made.MadeKind.TheVariants as kind
use Rattle.flight_value.specs.declared.made.Tree.{Tree}
use Rattle.flight_value.specs.declared.made.Tree.TheVariants as tree
use Rattle.flight_value.specs.Listed.{In, Distinct}
use Rattle.flight_text.specs.declared.mark.Ref.{Ref}
use Rattle.flight_syntax.specs.declared.expr.Expr.{Expr}
use Rattle.flight_syntax.specs.declared.expr.Expr as expr
use Rattle.flight_syntax.specs.declared.expr.Tag.TheVariants as tag
use Rattle.flight_syntax.specs.Script.{IsData, IsSourceSlot, IsSourceNode}
use Rattle.flight_syntax.specs.Term as term
use Rattle.flight_syntax.specs.Term.{Term}
use Rattle.flight_syntax.proofs.Terms.{term-Array, term-Element, term-Source}
use Rattle.flight_render.specs.declared.job.What.{What}
use Rattle.flight_render.specs.declared.job.What.TheVariants as what
use Rattle.flight_render.specs.Attempt.{job_for}
use Rattle.flight_render.specs.Run.{gave, Run}
use Rattle.flight_render.specs.Body.{root_body, body}
use Rattle.flight_render.specs.Bodies.{body_at, node_at, tables_for, tables_at, body_below, made_by, finished, tables_with}
use Rattle.flight_render.specs.Jobs.{element, shown, comes, job_of, is_server, Value}
use Rattle.flight_render.specs.Plain.{made_shape}
use Rattle.flight_render.specs.Costs.{Rendered, Reached, at_root, through, in_slot}
use Rattle.flight_render.specs.Valid.{IsValidGround, IsDeclared, IsLawful}
use Rattle.flight_meaning.specs.Linked.{first_place, beside, Spot, place_at, rows_of}
use Rattle.flight_meaning.specs.Resolve.{found}
use Rattle.flight_meaning.specs.Meaning.{meaning, at_place, Identity, made_at}
use Rattle.flight_meaning.specs.declared.place.Place.{Place}
use Rattle.flight_meaning.specs.declared.place.Place.TheVariants as place
use Rattle.flight_meaning.specs.declared.place.PlacedRow.{PlacedRow}
use Rattle.flight_state.specs.declared.status.Status.TheVariants as status
use Rattle.flight_state.specs.State.{State, IsClosed, Task, stream_for}
use Rattle.flight_state.specs.Steps as steps
use Rattle.flight_state.specs.Steps.{taken, first_task, opening, DoneStep, TakeStep, PingStep}
use Rattle.flight_state.specs.Emits.{IsPlain, Meant}
use Rattle.flight_state.specs.Local as local
use Rattle.flight_state.specs.Local.{WritesHere, Homes, Births, Seen, IsNodeKey, IsRowKey, EmitsHere, job_seen, shape_seen}
use Rattle.flight_state.specs.Worked.{ada, profile, twice, item_made, item, other_item, both_items, twice_made, first_task_of, second_task_of, root_done, twice_events, twice_end, twice_graph, model}
use Rattle.flight_state.proofs.Examples.{bare_here, element_job, nameless}
use Rattle.flight_state.proofs.Going.{Going, opens, takes, writes, pings}
use Rattle.flight_state.proofs.Apps.{app_script, no_name, one_name, starts, app_body, component_body, root_rendered, all_seen, all_shows}
use Rattle.flight_state.proofs.Singles.{sure, each_in, once_by, contains_in, in_contains, row_rows, row_once, row_places, is_placed}

-- ---- the ground

abbrev object : Node
object = node.Object (record { name = codes "name"; slot = slot.Atom ada } ∷ [])

profile_data : IsData profile
unfolding IsStrictlySortedBy
profile_data = (
  (refl, refl),
  record {
    valid = record {
      few = omega arith;
      valid_root = omega arith;
      each = All-from_recursion (IsValidNode (object ∷ [])) (object ∷ []) (record { few = omega arith; slots = All-from_recursion (IsValidSlot 1) (slot.Atom ada ∷ []) (tt, tt); kind = (tt, tt) }, tt);
    };
    root = tt;
    nodes = All-from_recursion IsSourceNode (object ∷ []) ((tt, All-from_recursion IsSourceSlot (slot.Atom ada ∷ []) (tt, tt)), tt);
  },
)

abbrev item_expr : Expr
item_expr = expr.Element (tag.Server 1) [] []

abbrev item_term : Term
item_term = term.element (tag.Server 1) term.no_props term.no_terms

twice_term : term.term (expr.Array (item_expr ∷ item_expr ∷ [])) ≡ term.array (term.terms_of (item_term ∷ item_term ∷ []))
twice_term = term-Array (item_expr ∷ item_expr ∷ []) ∙ ap (λ t. term.array (term.terms_of (t ∷ t ∷ []))) (term-Element (tag.Server 1) [] [])

pub twice_valid : IsValidGround twice
twice_valid =
    record {
      each = All-from_recursion (IsDeclared twice) twice.program.declared (
        (tt, subst (IsLawful twice 0) (sym twice_term) (lawful, (lawful, tt))),
        ((tt, subst (IsLawful twice 0) (sym (term-Source (codes "user"))) refl), tt),
      );
      one_component = ((λ e. omega (arith, ap starts e), tt), (tt, tt));
      one_action = tt;
      has_app = (0, ([], (expr.Array (item_expr ∷ item_expr ∷ []), refl)));
      script = app_script (profile ∷ []) [] (omega arith) (omega arith) (one_name profile.name) no_name (profile_data, tt) tt;
      first = tt;
    }
  where
    lawful : IsLawful twice 0 item_term
    lawful = ((codes "Item", ([], (expr.Source (codes "user"), refl))), tt, tt, tt, tt)

-- ---- the bodies

abbrev twice_root : Run Tree
twice_root = record { after = record { made = twice_made; cost = 12 }; step = gave (tree.Made both_items) }

twice_body : (settled : List Bool) → root_body twice settled ≡ twice_root
twice_body settled = app_body twice settled (expr.Array (item_expr ∷ item_expr ∷ [])) (term.array (term.terms_of (item_term ∷ item_term ∷ []))) twice_term refl

-- what is made at a serial is there
node_there : (settled : List Bool) (serial : ℕ) (m : Made) → slice_get twice_made serial ≡ Some m → node_at twice settled (record { render = []; serial = serial }) ≡ Some m
unfolding node_at body_at
node_there settled serial m h = ap (λ b. made_by (finished (Some b)) serial) (twice_body settled) ∙ h

tables_there : (settled : List Bool) (serial : ℕ) → twice_made ∷ [] ≡ tables_for twice settled (record { render = []; serial = serial })
unfolding tables_at body_at
tables_there settled serial = ap (λ b. tables_with [] (finished (Some b))) (sym (twice_body settled))

abbrev array_made : Made
array_made = record { kind = kind.Array; slots = tree.Made item ∷ tree.Made other_item ∷ [] }

abbrev other_made : Made
other_made = record { kind = kind.Server 1; slots = tree.Atom atom.Null ∷ tree.Made (record { render = []; serial = 2 }) ∷ [] }

abbrev array_shape : Shape Value
array_shape = record { label = store.array; slots = shown (tree.Made item) ∷ shown (tree.Made other_item) ∷ [] }

seen_shape : (settled : List Bool) → shape_seen twice (all_seen twice settled) (key.Made both_items) ≡ Some array_shape
seen_shape settled = ap (λ o. option_and_then (made_shape twice) o) (node_there settled 4 array_made refl)

no_job : (settled : List Bool) → job_of twice settled (shown (tree.Made both_items)) ≡ None
no_job settled = ap (λ o. if is_server o then Some (element both_items) else None) (node_there settled 4 array_made refl)

-- ---- the root finishes: `0:["$L1","$L2"]`

abbrev array_places : List Place
array_places = place.Array (1 ∷ 2 ∷ []) ∷ place.Lazy 1 ∷ place.Lazy 2 ∷ []

abbrev array_row : List PlacedRow
array_row = model 0 array_places ∷ []

abbrev row_ref : ℕ → Ref
row_ref id = record { id = id; path = [] }

abbrev array_homes : Homes
array_homes = (key.Made both_items, row_ref 0) ∷ (key.Server item, row_ref 1) ∷ (key.Server other_item, row_ref 2) ∷ []

abbrev array_births : Births
array_births = (1, what.Element item (record { made = twice_made ∷ [] })) ∷ (2, what.Element other_item (record { made = twice_made ∷ [] })) ∷ []

abbrev array_meant : Meant
array_meant = (first_place 0, shown (tree.Made both_items)) ∷ (beside (first_place 0) 1, shown (tree.Made item)) ∷ (beside (first_place 0) 2, shown (tree.Made other_item)) ∷ []

abbrev before : Seen
before = all_seen twice (false ∷ [])

-- keys told apart
abbrev tell : Key → ℕ
tell (key.Made n) = 0
tell (key.Server n) = n.serial
tell k = 9

-- what has a name there is the array
named : (k : Key) (a : Ref) (i : Identity) → In (k, a) array_homes → local.Names twice before array_row k a i → (k ≡ key.Made both_items) × (i ≡ made_at (first_place 0))
named k a i (inl e) p = (
  ap (λ z. z.0) e,
  is_placed twice before array_row (key.Made both_items) (row_ref 0) array_shape (first_place 0) (seen_shape (false ∷ [])) tt (2, refl) i
      (subst (λ (z : Ref). local.Names twice before array_row (key.Made both_items) z i) (ap (λ z. z.1) e) (subst (λ z. local.Names twice before array_row z a i) (ap (λ z. z.0) e) p)),
)
named k a i (inr (inl e)) p = absurd (nameless twice before item array_row k a i (ap (λ z. z.0) e) p)
named k a i (inr (inr (inl e))) p = absurd (nameless twice before other_item array_row k a i (ap (λ z. z.0) e) p)
named k a i (inr (inr (inr h))) p = absurd h

array_names : local.Names twice before array_row (key.Made both_items) (row_ref 0) (made_at (first_place 0))
array_names = (array_shape, seen_shape (false ∷ []), (first_place 0, refl, (2, refl)))

array_here : EmitsHere twice before (shown (tree.Made both_items)) 0 1 3 [] array_homes array_row array_births array_meant
array_here =
    record {
      own = (refl, inl refl);
      adds = record {
        up = omega arith;
        once = row_once 0 array_places;
        row_fresh = λ n h. ⊎_elim (λ e. inl e.0) (λ e. absurd (h e)) (row_rows 0 array_places n);
        held = λ s at h. let r = row_places 0 array_places s at h in held s.at at s r.0 r.1;
        more = array_homes;
        homes = refl;
        new_key = λ k a b i j. j;
        one_home = λ k a b i j. ap (λ (z : Key × Ref). z.1) (once_by (λ (z : Key × Ref). tell z.0) array_homes ((λ i. apart 0 1 3 (λ e. omega (arith, e)) (λ e. omega (arith, e)) i), ((λ i. ⊎_elim (λ e. omega (arith, e)) (λ h. h) i), ((λ i. i), tt))) (k, a) (k, b) i j refl);
        one_key = λ k l a b n i j p q. (named k a n i p).0 ∙ sym (named l b n j q).0;
        home_fresh = λ k a n i p. subst (local.IsNewHome 1 3) (sym (named k a n i p).1) tt;
        row_fresh_key = λ k a is i. each_in (λ (z : Key × Ref). IsRowKey z.0 → local.IsFresh 1 3 z.1.id) array_homes ((λ r. absurd r), ((λ r. (omega arith, omega arith)), ((λ r. (omega arith, omega arith)), tt))) (k, a) i is;
        one_row_key = λ k l a b r q i j e. ap (λ (z : Key × Ref). z.0) (once_by (λ (z : Key × Ref). z.1.id) array_homes ((λ i. apart 0 1 2 (λ e. omega (arith, e)) (λ e. omega (arith, e)) i), ((λ i. ⊎_elim (λ e. omega (arith, e)) (λ h. h) i), ((λ i. i), tt))) (k, a) (l, b) i j e);
        is_home = λ k a i. each_in (λ (z : Key × Ref). local.HomeHere twice before array_row array_births array_meant z.0 z.1) array_homes (
          record {
            identity = made_at (first_place 0);
            names = array_names;
            lone = tt;
            here = array_shape;
            there = record { label = store.array; slots = at_place (beside (first_place 0) 1) ∷ at_place (beside (first_place 0) 2) ∷ [] };
            is_here = seen_shape (false ∷ []);
            is_there = refl;
            labels = refl;
            slots = (local.at_spot (beside (first_place 0) 1) (inr (inl refl)), (local.at_spot (beside (first_place 0) 2) (inr (inr (inl refl))), tt));
          },
          (
            record { what = what.Element item (record { made = twice_made ∷ [] }); born = inl refl; is_job = refl },
            (record { what = what.Element other_item (record { made = twice_made ∷ [] }); born = inr (inl refl); is_job = refl }, tt),
          ),
        ) (k, a) i;
        places = λ s v i. each_in (λ (z : Spot × Value). (at : Place) × (place_at array_row z.0 ≡ Some at) × local.WrittenHere twice before array_homes array_homes array_row (Some z.0) at z.1) array_meant (
          (place.Array (1 ∷ 2 ∷ []), refl, local.its_home (key.Made both_items) (row_ref 0) (first_place 0) refl (array_made, node_there (false ∷ []) 4 array_made refl) (no_job (false ∷ [])) refl tt (inl refl) array_names),
          (
            (place.Lazy 1, refl, local.a_task item (row_ref 1) (item_made, node_there (false ∷ []) 1 item_made refl) item_waits (inr (inl refl)) (inl refl)),
            ((place.Lazy 2, refl, local.a_task other_item (row_ref 2) (other_made, node_there (false ∷ []) 3 other_made refl) other_waits (inr (inr (inl refl))) (inl refl)), tt),
          ),
        ) (s, v) i;
        born_once = ((λ i. ⊎_elim (λ e. omega (arith, e)) (λ k. k) i), ((λ i. i), tt));
        born_fresh = λ u w i. each_in (λ (z : ℕ × What). local.IsFresh 1 3 z.0) array_births ((omega arith, omega arith), ((omega arith, omega arith), tt)) (u, w) i;
        born_met = λ u w i. each_in (λ (z : ℕ × What). local.MetBy twice before (shown (tree.Made both_items)) (job_for twice z.1) (stream_for z.1)) array_births (
          (shown (tree.Made item), local.in_slot local.at_first (array_made, node_there (false ∷ []) 4 array_made refl) (no_job (false ∷ [])) refl tt (seen_shape (false ∷ [])) (inl refl), (item_made, node_there (false ∷ []) 1 item_made refl), item_waits),
          ((shown (tree.Made other_item), local.in_slot local.at_first (array_made, node_there (false ∷ []) 4 array_made refl) (no_job (false ∷ [])) refl tt (seen_shape (false ∷ [])) (inr (inl refl)), (other_made, node_there (false ∷ []) 3 other_made refl), other_waits), tt),
        ) (u, w) i;
        born_tables = λ u w i. each_in (λ (z : ℕ × What). local.TablesHere before z.1) array_births (
          ((item_made, node_there (false ∷ []) 1 item_made refl, refl), tables_there (false ∷ []) 1),
          (((other_made, node_there (false ∷ []) 3 other_made refl, refl), tables_there (false ∷ []) 3), tt),
        ) (u, w) i;
        unwritten = λ u w i alone. each_in (λ (z : ℕ × What). rows_of z.0 array_row ≡ []) array_births (refl, (refl, tt)) (u, w) i;
        for_stream = λ u w n i e. absurd (none-some n (sym (each_in (λ (z : ℕ × What). stream_for z.1 ≡ None) array_births (refl, (refl, tt)) (u, w) i) ∙ e));
      };
    }
  where
    apart : (a b c : ℕ) → (a ≡ b → ⊥) → (a ≡ c → ⊥) → In a (b ∷ c ∷ []) → ⊥
    apart a b c f g (inl e) = f e
    apart a b c f g (inr (inl e)) = g e
    apart a b c f g (inr (inr i)) = i

    item_waits : job_seen before (shown (tree.Made item)) ≡ Some (element item)
    item_waits = element_job before item item_made (node_there (false ∷ []) 1 item_made refl) refl

    other_waits : job_seen before (shown (tree.Made other_item)) ≡ Some (element other_item)
    other_waits = element_job before other_item other_made (node_there (false ∷ []) 3 other_made refl) refl

    held : (n : ℕ) (at : Place) (s : Spot) → s ≡ beside (first_place 0) n → slice_get array_places n ≡ Some at → IsPlain at ⊎ ((v : Value) × In (s, v) array_meant)
    held zero at s same h = inl (subst IsPlain (same_Some (place.Array (1 ∷ 2 ∷ [])) at h) tt)
    held (suc zero) at s same h = inr (shown (tree.Made item), inr (inl (ap (λ z. (z, shown (tree.Made item))) same)))
    held (suc (suc zero)) at s same h = inr (shown (tree.Made other_item), inr (inr (inl (ap (λ z. (z, shown (tree.Made other_item))) same))))
    held (suc (suc (suc n))) at s same h = absurd (none-some at h)

-- ---- what the elements give

-- the body of each element gives the object
abbrev item_gives : Run Tree
item_gives = record { after = record { made = []; cost = 2 }; step = gave (tree.FromSource 0 0) }

first_body : body twice (true ∷ []) (twice_made ∷ []) 1 (tree.Made (record { render = []; serial = 0 })) (1 ∷ []) ≡ item_gives
first_body = component_body twice (true ∷ []) (twice_made ∷ []) 1 (codes "Item") (expr.Source (codes "user")) (term.source (codes "user")) (term-Source (codes "user")) refl (tree.Made (record { render = []; serial = 0 })) (1 ∷ [])

second_body : body twice (true ∷ []) (twice_made ∷ []) 1 (tree.Made (record { render = []; serial = 2 })) (3 ∷ []) ≡ item_gives
second_body = component_body twice (true ∷ []) (twice_made ∷ []) 1 (codes "Item") (expr.Source (codes "user")) (term.source (codes "user")) (term-Source (codes "user")) refl (tree.Made (record { render = []; serial = 2 })) (3 ∷ [])

first_at : body_at twice (true ∷ []) (1 ∷ []) ≡ Some item_gives
unfolding body_at
first_at = ap (λ b. body_below twice (true ∷ []) [] [] (Some b) (1 ∷ [])) (twice_body (true ∷ [])) ∙ ap Some first_body

second_at : body_at twice (true ∷ []) (3 ∷ []) ≡ Some item_gives
unfolding body_at
second_at = ap (λ b. body_below twice (true ∷ []) [] [] (Some b) (3 ∷ [])) (twice_body (true ∷ [])) ∙ ap Some second_body

array_reached : (settled : List Bool) → Reached twice settled (shown (tree.Made both_items))
unfolding comes body_at
array_reached settled = through at_root refl (ap (λ (b : Run Tree). Some b.step) (twice_body settled))

slot_reached : (settled : List Bool) (v : Value) → In v array_shape.slots → Reached twice settled v
slot_reached settled v i = in_slot (array_reached settled) (no_job settled) refl (seen_shape settled) i

first_rendered : Rendered twice (true ∷ []) (1 ∷ []) 2
first_rendered =
    record {
      here = item_gives;
      is_body = first_at;
      finishes = tt;
      costs = refl;
      job = element item;
      addressed = refl;
      value = shown (tree.Made item);
      met = slot_reached (true ∷ []) (shown (tree.Made item)) (inl refl);
      is_job = element_job (all_seen twice (true ∷ [])) item item_made (node_there (true ∷ []) 1 item_made refl) refl;
    }

second_rendered : Rendered twice (true ∷ []) (3 ∷ []) 2
second_rendered =
    record {
      here = item_gives;
      is_body = second_at;
      finishes = tt;
      costs = refl;
      job = element other_item;
      addressed = refl;
      value = shown (tree.Made other_item);
      met = slot_reached (true ∷ []) (shown (tree.Made other_item)) (inr (inl refl));
      is_job = element_job (all_seen twice (true ∷ [])) other_item other_made (node_there (true ∷ []) 3 other_made refl) refl;
    }

-- ---- the first element finishes: `1:{"name":"Ada"}`

abbrev object_places : List Place
object_places = place.Object (record { name = codes "name"; place = 1 } ∷ []) ∷ place.Atom ada ∷ []

abbrev object_row : List PlacedRow
object_row = model 1 object_places ∷ []

abbrev object_homes : Homes
object_homes = (key.Source 0 0, row_ref 1) ∷ []

abbrev object_meant : Meant
object_meant = (first_place 1, shown (tree.FromSource 0 0)) ∷ (beside (first_place 1) 1, shown (tree.Atom ada)) ∷ []

abbrev object_shape : Shape Value
object_shape = record { label = store.object (codes "name" ∷ []); slots = shown (tree.Atom ada) ∷ [] }

abbrev after : Seen
after = all_seen twice (true ∷ [])

only_object : (k : Key) (a : Ref) → In (k, a) object_homes → (k ≡ key.Source 0 0) × (a ≡ row_ref 1)
only_object k a (inl e) = (ap (λ z. z.0) e, ap (λ z. z.1) e)
only_object k a (inr h) = absurd h

object_named : (k : Key) (a : Ref) (i : Identity) → In (k, a) object_homes → local.Names twice after object_row k a i → i ≡ made_at (first_place 1)
object_named k a i (inr h) p = absurd h
object_named k a i (inl e) p =
    is_placed twice after object_row (key.Source 0 0) (row_ref 1) object_shape (first_place 1) refl tt (2, refl) i
    (subst (λ (z : Ref). local.Names twice after object_row (key.Source 0 0) z i) (ap (λ z. z.1) e) (subst (λ z. local.Names twice after object_row z a i) (ap (λ z. z.0) e) p))

object_names : local.Names twice after object_row (key.Source 0 0) (row_ref 1) (made_at (first_place 1))
object_names = (object_shape, refl, (first_place 1, refl, (2, refl)))

object_here : EmitsHere twice after (shown (tree.FromSource 0 0)) 1 3 3 array_homes (array_homes ++ object_homes) object_row [] object_meant
object_here =
    record {
      own = (refl, inl refl);
      adds = record {
        up = omega arith;
        once = row_once 1 object_places;
        row_fresh = λ n h. ⊎_elim (λ e. inl e.0) (λ e. absurd (h e)) (row_rows 1 object_places n);
        held = λ s at h. let r = row_places 1 object_places s at h in held s.at at s r.0 r.1;
        more = object_homes;
        homes = refl;
        new_key = λ k a b i j. each_in (λ (z : Key × Ref). z.0 ≡ key.Source 0 0 → ⊥) array_homes ((λ e. omega (arith, ap tell e)), ((λ e. omega (arith, ap tell e)), ((λ e. omega (arith, ap tell e)), tt))) (k, b) j (only_object k a i).0;
        one_home = λ k a b i j. (only_object k a i).1 ∙ sym (only_object k b j).1;
        one_key = λ k l a b n i j p q. (only_object k a i).0 ∙ sym (only_object l b j).0;
        home_fresh = λ k a n i p. subst (local.IsNewHome 3 3) (sym (object_named k a n i p)) tt;
        row_fresh_key = λ k a is i. absurd (subst IsRowKey (only_object k a i).0 is);
        one_row_key = λ k l a b r q i j e. absurd (subst IsRowKey (only_object k a i).0 r);
        is_home = λ k a i. each_in (λ (z : Key × Ref). local.HomeHere twice after object_row [] object_meant z.0 z.1) object_homes (
          record {
            identity = made_at (first_place 1);
            names = object_names;
            lone = tt;
            here = object_shape;
            there = record { label = store.object (codes "name" ∷ []); slots = at_place (beside (first_place 1) 1) ∷ [] };
            is_here = refl;
            is_there = refl;
            labels = refl;
            slots = (local.at_spot (beside (first_place 1) 1) (inr (inl refl)), tt);
          },
          tt,
        ) (k, a) i;
        places = λ s v i. each_in (λ (z : Spot × Value). (at : Place) × (place_at object_row z.0 ≡ Some at) × local.WrittenHere twice after (array_homes ++ object_homes) object_homes object_row (Some z.0) at z.1) object_meant (
          (place.Object (record { name = codes "name"; place = 1 } ∷ []), refl, local.its_home (key.Source 0 0) (row_ref 1) (first_place 1) refl tt refl refl tt (inl refl) object_names),
          ((place.Atom ada, refl, local.an_atom ada refl refl (sure ada tt)), tt),
        ) (s, v) i;
        born_once = tt;
        born_fresh = λ u w i. absurd i;
        born_met = λ u w i. absurd i;
        born_tables = λ u w i. absurd i;
        unwritten = λ u w i. absurd i;
        for_stream = λ u w n i. absurd i;
      };
    }
  where
    held : (n : ℕ) (at : Place) (s : Spot) → s ≡ beside (first_place 1) n → slice_get object_places n ≡ Some at → IsPlain at ⊎ ((v : Value) × In (s, v) object_meant)
    held zero at s same h = inl (subst IsPlain (same_Some (place.Object (record { name = codes "name"; place = 1 } ∷ [])) at h) tt)
    held (suc zero) at s same h = inl (subst IsPlain (same_Some (place.Atom ada) at h) tt)
    held (suc (suc n)) at s same h = absurd (none-some at h)

-- ---- the steps

abbrev root_running : State
root_running = record (opening twice) { tasks = taken (false ∷ []) first_task ∷ [] }

abbrev both_ready : State
both_ready =
    record {
      rows = array_row;
      tasks = root_done (false ∷ []) ∷ first_task_of status.Ready 0 [] ∷ second_task_of status.Ready 0 [] ∷ [];
      settled = false ∷ [];
      homes = (key.Made both_items, made_at (first_place 0)) ∷ [];
      others = twice_end.others;
      counted = ([], 12) ∷ [];
      ended = [];
      over = false;
    }

abbrev data_came : State
data_came = record both_ready { settled = true ∷ [] }

abbrev first_running : State
first_running = record data_came { tasks = root_done (false ∷ []) ∷ first_task_of (status.Running 1) 1 (true ∷ []) ∷ second_task_of status.Ready 0 [] ∷ [] }

abbrev first_written : State
first_written =
    record twice_end {
      rows = array_row ++ object_row;
      tasks = root_done (false ∷ []) ∷ first_task_of status.Done 1 (true ∷ []) ∷ second_task_of status.Ready 0 [] ∷ [];
      counted = ([], 12) ∷ (1 ∷ [], 2) ∷ [];
    }

abbrev second_running : State
second_running = record first_written { tasks = root_done (false ∷ []) ∷ first_task_of status.Done 1 (true ∷ []) ∷ second_task_of (status.Running 1) 1 (true ∷ []) ∷ [] }

root_taken : TakeStep (opening twice) root_running 0
root_taken = record { task = first_task; is_task = refl; was = refl; now = refl }

abbrev root_finishes : DoneStep twice root_running both_ready 0
root_finishes =
    record {
      task = taken (false ∷ []) first_task;
      is_task = refl;
      turn = 1;
      was = refl;
      end = gave (tree.Made both_items);
      finds = ap (λ (z : Run Tree). z.step) (twice_body (false ∷ []));
      finishes = tt;
      rows = (array_row, refl);
      homes = (both_ready.homes, refl);
      others = (both_ready.others, refl);
      counted = (both_ready.counted, refl);
      born = first_task_of status.Ready 0 [] ∷ second_task_of status.Ready 0 [] ∷ [];
      tasks = refl;
      are_ready = each_in (λ (t : Task). t.status ≡ status.Ready) (first_task_of status.Ready 0 [] ∷ second_task_of status.Ready 0 [] ∷ []) (refl, (refl, tt));
      rest = refl;
    }

root_writes : WritesHere twice root_running both_ready 0 1 3 [] array_homes
unfolding array_here
root_writes =
    record {
      step = root_finishes;
      alone = refl;
      seen = before;
      shows = all_shows twice (false ∷ []);
      rows = array_row;
      births = array_births;
      meant = array_meant;
      local = array_here;
      adopts = record {
        same_rows = refl;
        same_births = refl;
        into = λ k i p. each_in (λ (z : Key × Identity). IsNodeKey z.0 × ((a : Ref) × In (z.0, a) array_homes × local.Names twice before array_row z.0 a z.1)) both_ready.homes ((tt, (row_ref 0, inl refl, array_names)), tt) (k, i) (contains_in both_ready.homes (k, i) p);
        onto = λ k a i is h names. in_contains both_ready.homes (k, i) (inl (ap (λ z. (z, i)) (named k a i h names).0 ∙ ap (λ z. (key.Made both_items, z)) (named k a i h names).1));
        into_rows = λ k id i. each_in (λ (z : Key × ℕ). IsRowKey z.0 × ((a : Ref) × In (z.0, a) array_homes × (a.id ≡ z.1))) both_ready.others ((tt, (row_ref 1, inr (inl refl), refl)), ((tt, (row_ref 2, inr (inr (inl refl)), refl)), tt)) (k, id) i;
        onto_rows = λ k a is h. each_in (λ (z : Key × Ref). IsRowKey z.0 → In (z.0, z.1.id) both_ready.others) array_homes ((λ r. absurd r), ((λ r. inl refl), ((λ r. inr (inl refl)), tt))) (k, a) h is;
        own_counted = (12, inl refl);
        given_counted = λ n end h. absurd (none-some end h);
        counted_once = ((λ h. h), tt);
        new_counted = λ address cost i. each_in (λ (z : List ℕ × ℕ). Rendered twice (false ∷ []) z.0 z.1) both_ready.counted (root_rendered twice (false ∷ []) twice_root (twice_body (false ∷ [])) tt, tt) (address, cost) i;
      };
    }

data_settles : PingStep both_ready data_came 0
data_settles = record { was = refl; now = refl }

first_taken : TakeStep data_came first_running 1
first_taken = record { task = first_task_of status.Ready 0 []; is_task = refl; was = refl; now = refl }

abbrev first_finishes : DoneStep twice first_running first_written 1
first_finishes =
    record {
      task = first_task_of (status.Running 1) 1 (true ∷ []);
      is_task = refl;
      turn = 1;
      was = refl;
      end = gave (tree.FromSource 0 0);
      finds = ap (λ (z : Run Tree). z.step) first_body;
      finishes = tt;
      rows = (object_row, refl);
      homes = ((key.Source 0 0, made_at (first_place 1)) ∷ [], refl);
      others = ([], refl);
      counted = ((1 ∷ [], 2) ∷ [], refl);
      born = [];
      tasks = refl;
      are_ready = λ t i. absurd i;
      rest = refl;
    }

first_writes : WritesHere twice first_running first_written 1 3 3 array_homes (array_homes ++ object_homes)
unfolding object_here
first_writes =
    record {
      step = first_finishes;
      alone = refl;
      seen = after;
      shows = all_shows twice (true ∷ []);
      rows = object_row;
      births = [];
      meant = object_meant;
      local = object_here;
      adopts = record {
        same_rows = refl;
        same_births = refl;
        into = λ k i p. each_in (λ (z : Key × Identity). IsNodeKey z.0 × ((a : Ref) × In (z.0, a) object_homes × local.Names twice after object_row z.0 a z.1)) ((key.Source 0 0, made_at (first_place 1)) ∷ []) ((tt, (row_ref 1, inl refl, object_names)), tt) (k, i) (contains_in ((key.Source 0 0, made_at (first_place 1)) ∷ []) (k, i) p);
        onto = λ k a i is h names. in_contains ((key.Source 0 0, made_at (first_place 1)) ∷ []) (k, i) (inl (ap (λ z. (z, i)) (only_object k a h).0 ∙ ap (λ z. (key.Source 0 0, z)) (object_named k a i h names)));
        into_rows = λ k id i. absurd i;
        onto_rows = λ k a is h. absurd (subst IsRowKey (only_object k a h).0 is);
        own_counted = (2, inr (inl refl));
        given_counted = λ n end h. absurd (none-some end h);
        counted_once = ((λ i. ⊎_elim (λ e. omega (arith, ap (λ (z : List ℕ). length z) e)) (λ h. h) i), ((λ h. h), tt));
        new_counted = λ address cost i. each_in (λ (z : List ℕ × ℕ). Rendered twice (true ∷ []) z.0 z.1) ((1 ∷ [], 2) ∷ []) (first_rendered, tt) (address, cost) i;
      };
    }

-- ---- the second element finishes: `2:"$1"`

second_taken : TakeStep first_written second_running 2
second_taken = record { task = second_task_of status.Ready 0 []; is_task = refl; was = refl; now = refl }

abbrev second_finishes : DoneStep twice second_running twice_end 2
second_finishes =
    record {
      task = second_task_of (status.Running 1) 1 (true ∷ []);
      is_task = refl;
      turn = 1;
      was = refl;
      end = gave (tree.FromSource 0 0);
      finds = ap (λ (z : Run Tree). z.step) second_body;
      finishes = tt;
      rows = (model 2 (place.Value (row_ref 1) ∷ []) ∷ [], refl);
      homes = ([], refl);
      others = ([], refl);
      counted = ((3 ∷ [], 2) ∷ [], refl);
      born = [];
      tasks = refl;
      are_ready = λ t i. absurd i;
      rest = refl;
    }

second_writes : WritesHere twice second_running twice_end 2 3 3 (array_homes ++ object_homes) (array_homes ++ object_homes)
unfolding bare_here
second_writes =
    record {
      step = second_finishes;
      alone = refl;
      seen = after;
      shows = all_shows twice (true ∷ []);
      rows = model 2 (place.Value (row_ref 1) ∷ []) ∷ [];
      births = [];
      meant = (first_place 2, shown (tree.FromSource 0 0)) ∷ [];
      local = bare_here twice after (shown (tree.FromSource 0 0)) (place.Value (row_ref 1)) 2 3 (array_homes ++ object_homes) (local.a_reference (key.Source 0 0) (row_ref 1) object_shape tt refl refl tt (inr (inr (inr (inl refl)))) refl (inl refl));
      adopts = record {
        same_rows = refl;
        same_births = refl;
        into = λ k i p. absurd (omega (arith, p.1));
        onto = λ k a i is h names. absurd h;
        into_rows = λ k id i. absurd i;
        onto_rows = λ k a is h. absurd h;
        own_counted = (2, inr (inr (inl refl)));
        given_counted = λ n end h. absurd (none-some end h);
        counted_once = ((λ i. ⊎_elim (λ e. omega (arith, ap (λ (z : List ℕ). length z) e)) (λ j. ⊎_elim (λ e. omega (arith, ap (λ (z : List ℕ). length z) e)) (λ h. h) j) i), ((λ i. ⊎_elim (λ e. omega (arith, ap starts e)) (λ h. h) i), ((λ h. h), tt)));
        new_counted = λ address cost i. each_in (λ (z : List ℕ × ℕ). Rendered twice (true ∷ []) z.0 z.1) ((3 ∷ [], 2) ∷ []) (second_rendered, tt) (address, cost) i;
      };
    }

-- ---- the run

at_root_running : Going twice root_running [] 1
at_root_running = takes twice (opening twice) root_running 0 1 [] (opens twice) root_taken

at_both_ready : Going twice both_ready array_homes 3
at_both_ready = writes twice twice_valid root_running both_ready 0 1 3 [] array_homes at_root_running root_writes

at_data_came : Going twice data_came array_homes 3
at_data_came = pings twice both_ready data_came 0 3 array_homes at_both_ready data_settles

at_first_running : Going twice first_running array_homes 3
at_first_running = takes twice data_came first_running 1 3 array_homes at_data_came first_taken

at_first_written : Going twice first_written (array_homes ++ object_homes) 3
at_first_written = writes twice twice_valid first_running first_written 1 3 3 array_homes (array_homes ++ object_homes) at_first_running first_writes

at_second_running : Going twice second_running (array_homes ++ object_homes) 3
at_second_running = takes twice first_written second_running 2 3 (array_homes ++ object_homes) at_first_written second_taken

at_end : Going twice twice_end (array_homes ++ object_homes) 3
at_end = writes twice twice_valid second_running twice_end 2 3 3 (array_homes ++ object_homes) (array_homes ++ object_homes) at_second_running second_writes

pub twice_runs : steps.Run twice twice_events (opening twice) twice_end
twice_runs = (
  root_running,
  record { does = root_taken; fits = at_root_running.fits },
  (
    both_ready,
    record { does = root_finishes; fits = at_both_ready.fits },
    (
      data_came,
      record { does = data_settles; fits = at_data_came.fits },
      (
        first_running,
        record { does = first_taken; fits = at_first_running.fits },
        (
          first_written,
          record { does = first_finishes; fits = at_first_written.fits },
          (
            second_running,
            record { does = second_taken; fits = at_second_running.fits },
            (twice_end, record { does = second_finishes; fits = at_end.fits }, refl),
          ),
        ),
      ),
    ),
  ),
)

pub twice_closed : IsClosed twice_end
twice_closed = each_in (λ (t : Task). t.status ≡ status.Done) twice_end.tasks (refl, (refl, (refl, tt)))

-- ---- what it means

abbrev pairs : List (ℕ × Identity)
pairs = (0, made_at (first_place 0)) ∷ (1, made_at (first_place 1)) ∷ []

pub twice_means : DrawOneGraph (of_graph twice_graph) (meaning twice_end.rows)
twice_means = (
  pairs,
  record {
    one_there = λ k l m p q. ap (λ (z : ℕ × Identity). z.1) (once_by (λ (z : ℕ × Identity). z.0) pairs apart (k, l) (k, m) (contains_in pairs (k, l) p) (contains_in pairs (k, m) q) refl);
    one_here = λ k j l p q. ap (λ (z : ℕ × Identity). z.0) (once_by (λ (z : ℕ × Identity). local.id_of z.1) pairs apart (k, l) (j, l) (contains_in pairs (k, l) p) (contains_in pairs (j, l) q) refl);
    roots = record {
      here = store.node_at 0;
      there = store.node_at (made_at (first_place 0));
      leads_here = refl;
      leads_there = inl (found (first_place 0), (2, refl), refl);
      targets_fit = in_contains pairs (0, made_at (first_place 0)) (inl refl);
    };
    each = λ k l p. each_in (λ (z : ℕ × Identity). store.NodesFit (Paired pairs) (of_graph twice_graph) (meaning twice_end.rows) z.0 z.1) pairs (
      record {
        here = record { label = store.array; slots = slot.Node 1 ∷ slot.Node 1 ∷ [] };
        there = record { label = store.array; slots = at_place (beside (first_place 0) 1) ∷ at_place (beside (first_place 0) 2) ∷ [] };
        is_here = refl;
        is_there = refl;
        labels = refl;
        slots_fit = (
          record {
            here = store.node_at 1;
            there = store.node_at (made_at (first_place 1));
            leads_here = refl;
            leads_there = inl (found (first_place 1), (3, refl), refl);
            targets_fit = in_contains pairs (1, made_at (first_place 1)) (inr (inl refl));
          },
          (
            record {
              here = store.node_at 1;
              there = store.node_at (made_at (first_place 1));
              leads_here = refl;
              leads_there = inl (found (first_place 1), (5, refl), refl);
              targets_fit = in_contains pairs (1, made_at (first_place 1)) (inr (inl refl));
            },
            tt,
          ),
        );
      },
      (
        record {
          here = record { label = store.object (codes "name" ∷ []); slots = slot.Atom ada ∷ [] };
          there = record { label = store.object (codes "name" ∷ []); slots = at_place (beside (first_place 1) 1) ∷ [] };
          is_here = refl;
          is_there = refl;
          labels = refl;
          slots_fit = (record { here = store.atom ada; there = store.atom ada; leads_here = refl; leads_there = inl (found (beside (first_place 1) 1), (1, refl), refl); targets_fit = refl }, tt);
        },
        tt,
      ),
    ) (k, l) (contains_in pairs (k, l) p);
  },
)
  where
    apart : Distinct {A = ℕ} (0 ∷ 1 ∷ [])
    apart = ((λ i. ⊎_elim (λ e. omega (arith, e)) (λ h. h) i), ((λ i. i), tt))
