-- Chains of slots.
use Rattle.std.proofs.Common.{◌≡◌, ◌≤◌, ℕ, zero, suc, Bool, List, map, [], ◌∷◌, ◌++◌, Option, Some, None, slice_get, refl, sym, ◌∙◌, ap, subst, inl, inr, append-nil, Result, Ok, Err, IfOk, MatchOption}
use Rattle.std.specs.List.{AllByRecursion}
use Rattle.std.proofs.lemmas.Option.{none-some}
use Rattle.flight_value.specs.declared.graph.Slot.{Slot}
use Rattle.flight_value.specs.declared.graph.Slot.TheVariants as slot
use Rattle.flight_value.specs.declared.key.Key.{Key}
use Rattle.flight_value.specs.declared.made.Tree.{Tree}
use Rattle.flight_value.specs.declared.memory.Memory.{Memory}
use Rattle.flight_value.specs.Store as store
use Rattle.flight_value.specs.Store.{Target}
use Rattle.flight_render.specs.declared.root.Ground.{Ground}
use Rattle.flight_render.specs.Run as run
use Rattle.flight_render.specs.Bodies.{inner}
use Rattle.flight_render.specs.Jobs.{Job, the_root, element, outcome, known, blank, Value, of_job, job_of, comes, argument_in, value_of, Leads, IsTarget, target_of}
use Rattle.flight_value.specs.Listed.{Distinct}
use Rattle.flight_render.specs.Costs.{Reached, through, total_of, IsOver}
use Rattle.flight_render.proofs.Sourced.{each_append}
use Rattle.flight_seq.specs.declared.held.End.{End}
use Rattle.flight_seq.specs.declared.held.End.TheVariants as end
use Rattle.flight_seq.specs.declared.walk.Walk.{Walk}
use Rattle.flight_seq.specs.Held.{end_for, value_for}
use Rattle.flight_seq.specs.Walk.{Entry, known_at, IsKnownAt, counted, IsEntry, IsMetJob, IsMet, IsWalk, GoesOn, Adds}
use Rattle.flight_seq.specs.Chain.{Comes, Fits, Draws, StandsFor, ComesOn, Begins, Follows}
use Rattle.flight_seq.proofs.Pushing.{known_grows, distinct_push, goes_none}

-- ---- more bodies and keys

pub append_more : {A : Type 0} (xs ys zs : List A) → (xs ++ ys) ++ zs ≡ xs ++ (ys ++ zs)
append_more [] ys zs = refl
append_more (x ∷ xs) ys zs = ap (λ t. x ∷ t) (append_more xs ys zs)

pub goes_on : (a b c : Walk) → GoesOn a b → GoesOn b c → GoesOn a c
goes_on a b c p q = record {
  more_bodies = p.more_bodies ++ q.more_bodies;
  bodies = q.bodies ∙ (ap (λ es. es ++ q.more_bodies) p.bodies ∙ append_more a.bodies.entries p.more_bodies q.more_bodies);
  more_keys = p.more_keys ++ q.more_keys;
  keys = q.keys ∙ (ap (λ ks. ks ++ q.more_keys) p.keys ∙ append_more a.keys.keys p.more_keys q.more_keys);
}

known_on : (old new : Walk) (a : List ℕ) → GoesOn old new → IsKnownAt old.bodies.entries a → IsKnownAt new.bodies.entries a
known_on old new a g h = (h.0, ap (λ es. known_at es a) g.bodies ∙ known_grows old.bodies.entries g.more_bodies a h.0 h.1)

met_on : (old new : Walk) (j : Job) → GoesOn old new → IsMetJob old.bodies.entries j → IsMetJob new.bodies.entries j
met_on old new the_root g h = known_on old new [] g h
met_on old new (element n) g h = known_on old new (inner n) g h
met_on old new (outcome i) g h = h
met_on old new (known s) g h = h
met_on old new blank g h = h

all_met_on : (old new : Walk) (js : List Job) → GoesOn old new → AllByRecursion (IsMetJob old.bodies.entries) js → AllByRecursion (IsMetJob new.bodies.entries) js
all_met_on old new [] g h = tt
all_met_on old new (j ∷ js) g h = (met_on old new j g h.0, all_met_on old new js g h.1)

get_front : {A : Type 0} (xs ys : List A) (n : ℕ) (x : A) → slice_get xs n ≡ Some x → slice_get (xs ++ ys) n ≡ Some x
get_front [] ys n x e = absurd (none-some x e)
get_front (y ∷ xs) ys zero x e = e
get_front (y ∷ xs) ys (suc n) x e = get_front xs ys n x e

pub key_on : (old new : Walk) (n : ℕ) (k : Key) → GoesOn old new → slice_get old.keys.keys n ≡ Some k → slice_get new.keys.keys n ≡ Some k
key_on old new n k g e = ap (λ ks. slice_get ks n) g.keys ∙ get_front old.keys.keys g.more_keys n k e

fits_on : (old new : Walk) (s : Slot) (t : Target Key) → GoesOn old new → Fits old.keys.keys s t → Fits new.keys.keys s t
fits_on old new (slot.Atom a) (store.atom b) g h = h
fits_on old new (slot.Node n) (store.node_at k) g h = key_on old new n k g h
fits_on old new (slot.Atom a) (store.node_at k) g h = absurd h
fits_on old new (slot.Node n) (store.atom b) g h = absurd h

pub comes_on : (g : Ground) (s : List Bool) (old new : Walk) (v w : Value) → GoesOn old new → Comes g s old.bodies.entries v w → Comes g s new.bodies.entries v w
comes_on g s old new v w on h = record { jobs = h.jobs; leads = h.leads; met = all_met_on old new h.jobs on h.met }

pub draws_on : (g : Ground) (s : List Bool) (old new : Walk) (x : Slot) (v : Value) → GoesOn old new → Draws g s old.bodies.entries old.keys.keys x v → Draws g s new.bodies.entries new.keys.keys x v
draws_on g s old new x v on h = record { last = h.last; comes = comes_on g s old new v h.last on h.comes; no_job = h.no_job; fits = fits_on old new x (target_of h.last) on h.fits }

-- ---- steps of a chain

value_is : (g : Ground) (s : List Bool) (j : Job) (e : End) → value_of g s j (end_for e) ≡ value_for e
value_is g s j (end.Gave t) = refl
value_is g s j (end.Threw d) = refl
value_is g s j (end.Waits i) = refl

pub comes_none : (g : Ground) (s : List Bool) (es : List Entry) (v : Value) → Comes g s es v v
comes_none g s es v = record { jobs = []; leads = refl; met = tt }

leads_append : (g : Ground) (s : List Bool) (v w x : Value) (js ks : List Job) → Leads g s v js w → Leads g s w ks x → Leads g s v (js ++ ks) x
leads_append g s v w x [] ks h k = subst (λ u. Leads g s u ks x) (sym h) k
leads_append g s v w x (j ∷ js) ks h k = (h.0, (h.1.0, h.1.1, leads_append g s (value_of g s j h.1.0) w x js ks h.1.2 k))

pub comes_then : (g : Ground) (s : List Bool) (es : List Entry) (v w x : Value) → Comes g s es v w → Comes g s es w x → Comes g s es v x
comes_then g s es v w x h k = record {
  jobs = h.jobs ++ k.jobs;
  leads = leads_append g s v w x h.jobs k.jobs h.leads k.leads;
  met = each_append (IsMetJob es) h.jobs k.jobs h.met k.met;
}

pub comes_one : (g : Ground) (s : List Bool) (es : List Entry) (v : Value) (j : Job) (e : End) → job_of g s v ≡ Some j → comes g s j ≡ Some (end_for e) → IsMetJob es j → Comes g s es v (value_for e)
comes_one g s es v j e is to met = record { jobs = j ∷ []; leads = (is, (end_for e, to, value_is g s j e)); met = (met, tt) }

pub comes_draws : (g : Ground) (s : List Bool) (es : List Entry) (ks : List Key) (x : Slot) (v w : Value) → Comes g s es v w → Draws g s es ks x w → Draws g s es ks x v
comes_draws g s es ks x v w h d = record { last = d.last; comes = comes_then g s es v w d.last h d.comes; no_job = d.no_job; fits = d.fits }

reached_leads : (g : Ground) (s : List Bool) (v w : Value) (js : List Job) → Reached g s v → Leads g s v js w → Reached g s w
reached_leads g s v w [] r h = subst (Reached g s) h r
reached_leads g s v w (j ∷ js) r h = reached_leads g s (value_of g s j h.1.0) w js (through r h.0 h.1.1) h.1.2

pub reached_comes : (g : Ground) (s : List Bool) (es : List Entry) (v w : Value) → Reached g s v → Comes g s es v w → Reached g s w
reached_comes g s es v w r h = reached_leads g s v w h.jobs r h.leads

-- ---- one key more

pub stands_push : (g : Ground) (s : List Bool) (fuel : ℕ) (old new : Walk) (v : Value) (k : Key) (n : ℕ) → IsWalk g s fuel old → Reached g s v → job_of g s v ≡ None → IsTarget g s v (store.node_at k) → Adds old.keys.keys k new.keys.keys → slice_get new.keys.keys n ≡ Some k → new.bodies ≡ old.bodies → new.spent ≡ old.spent → StandsFor g s fuel v (slot.Node n) old new
stands_push g s fuel old new v k n walk met none target adds number bodies spent =
    elim adds [
      | inl e ↦ finish (subst (AllByRecursion (IsMet g s)) (sym e) walk.keys) (subst Distinct (sym e) walk.apart) [] (e ∙ sym (append-nil old.keys.keys))
      | inr p ↦ finish (subst (AllByRecursion (IsMet g s)) (sym p.0) (each_append (IsMet g s) old.keys.keys (k ∷ []) walk.keys (record { value = v; met = met; no_job = none; leads = target }, tt)))
          (subst Distinct (sym p.0) (distinct_push old.keys.keys k walk.apart p.1)) (k ∷ []) p.0
    ]
  where
    finish : AllByRecursion (IsMet g s) new.keys.keys → Distinct new.keys.keys → (more : List Key) → new.keys.keys ≡ old.keys.keys ++ more → StandsFor g s fuel v (slot.Node n) old new
    finish keys apart more e = record {
      walk = record {
        bodies = subst (λ b. AllByRecursion (IsEntry g s fuel) b.entries) (sym bodies) walk.bodies;
        once = subst (λ b. Distinct (map (λ (e : Entry). e.0) b.entries)) (sym bodies) walk.once;
        is_spent = spent ∙ (walk.is_spent ∙ ap (λ b. total_of (counted b.entries)) (sym bodies));
        within = subst (λ m. m ≤ fuel) (sym spent) walk.within;
        keys = keys;
        apart = apart;
      };
      goes_on = record { more_bodies = []; bodies = ap (λ b. b.entries) bodies ∙ sym (append-nil old.bodies.entries); more_keys = more; keys = e };
      no_job = none;
      fits = subst (Fits new.keys.keys (slot.Node n)) target number;
    }

-- ---- what a slot holds first, and what follows

begins : (g : Ground) (s : List Bool) (fuel : ℕ) (v : Value) (e : End) (old new : Walk) → ComesOn g s fuel v e old new → Begins g s fuel v e old new
begins g s fuel v e old new h = record { walk = h.walk; goes_on = h.goes_on; leads = comes_one g s new.bodies.entries v h.job e h.is_job h.comes_to h.met }

pub begins_if : (g : Ground) (s : List Bool) (fuel : ℕ) (v : Value) (old new : Walk) (r : Result (Option End) Memory) → IfOk r (λ o. MatchOption o (IsOver g s fuel) (λ e. ComesOn g s fuel v e old new)) → IfOk r (λ o. MatchOption o (IsOver g s fuel) (λ e. Begins g s fuel v e old new))
begins_if g s fuel v old new (Ok (Some e)) h = begins g s fuel v e old new h
begins_if g s fuel v old new (Ok None) h = h
begins_if g s fuel v old new (Err m) h = h

pub begins_here : (g : Ground) (s : List Bool) (fuel : ℕ) (v : Value) (e : End) (w : Walk) → IsWalk g s fuel w → Comes g s w.bodies.entries v (value_for e) → Begins g s fuel v e w w
begins_here g s fuel v e w walk h = record { walk = walk; goes_on = goes_none w; leads = h }

pub begins_job : (g : Ground) (s : List Bool) (fuel : ℕ) (j : Job) (e : End) (w : Walk) → IsWalk g s fuel w → comes g s j ≡ Some (end_for e) → IsMetJob w.bodies.entries j → Begins g s fuel (of_job j) e w w
begins_job g s fuel j e w walk to met = begins_here g s fuel (of_job j) e w walk (comes_one g s w.bodies.entries (of_job j) j e refl to met)

pub comes_known : (g : Ground) (s : List Bool) (x : Slot) (t : Tree) → t ≡ argument_in g x → comes g s (known x) ≡ Some (end_for (end.Gave t))
unfolding comes
comes_known g s x t e = ap (λ u. Some (run.gave u)) (sym e)

follows : (g : Ground) (s : List Bool) (fuel : ℕ) (v : Value) (e : End) (x : Slot) (old mid new : Walk) → Begins g s fuel v e old mid → Follows g s fuel x (value_for e) mid new → Follows g s fuel x v old new
follows g s fuel v e x old mid new b f = record {
  walk = f.walk;
  goes_on = goes_on old mid new b.goes_on f.goes_on;
  draws = comes_draws g s new.bodies.entries new.keys.keys x v (value_for e) (comes_on g s mid new v (value_for e) f.goes_on b.leads) f.draws;
}

pub follows_if : (g : Ground) (s : List Bool) (fuel : ℕ) (v : Value) (e : End) (old mid new : Walk) (r : Result (Option Slot) Memory) → Begins g s fuel v e old mid → IfOk r (λ o. MatchOption o (IsOver g s fuel) (λ x. Follows g s fuel x (value_for e) mid new)) → IfOk r (λ o. MatchOption o (IsOver g s fuel) (λ x. Follows g s fuel x v old new))
follows_if g s fuel v e old mid new (Ok (Some x)) b h = follows g s fuel v e x old mid new b h
follows_if g s fuel v e old mid new (Ok None) b h = h
follows_if g s fuel v e old mid new (Err m) b h = h

-- ---- turns

pub turn_stands : (g : Ground) (s : List Bool) (fuel : ℕ) (v w : Value) (x : Slot) (old mid new : Walk) → GoesOn old mid → Comes g s mid.bodies.entries v w → StandsFor g s fuel w x mid new → Follows g s fuel x v old new
turn_stands g s fuel v w x old mid new on h t = record {
  walk = t.walk;
  goes_on = goes_on old mid new on t.goes_on;
  draws = record { last = w; comes = comes_on g s mid new v w t.goes_on h; no_job = t.no_job; fits = t.fits };
}

pub turn_on : (g : Ground) (s : List Bool) (fuel : ℕ) (v w : Value) (e : End) (mid new : Walk) → Comes g s mid.bodies.entries v w → ComesOn g s fuel w e mid new → Comes g s new.bodies.entries v (value_for e)
turn_on g s fuel v w e mid new h t = comes_then g s new.bodies.entries v w (value_for e) (comes_on g s mid new v w t.goes_on h) (comes_one g s new.bodies.entries w t.job e t.is_job t.comes_to t.met)

pub stands_here : (g : Ground) (s : List Bool) (fuel : ℕ) (v : Value) (x : Slot) (w : Walk) → IsWalk g s fuel w → job_of g s v ≡ None → Fits w.keys.keys x (target_of v) → StandsFor g s fuel v x w w
stands_here g s fuel v x w walk none fits = record { walk = walk; goes_on = goes_none w; no_job = none; fits = fits }
