-- One body more.
use Rattle.std.proofs.Common.{◌≡◌, ℕ, ◌+◌, ◌<◌, ◌≤◌, Bool, true, false, cond, List, [], ◌∷◌, ◌++◌, map, Some, None, refl, sym, ◌∙◌, ap, subst, inl, inr, ◌⊎◌, arith, append-nil}
use Rattle.std.specs.List.{AllByRecursion}
use Rattle.std.proofs.lemmas.List.{map-append}
use Rattle.std.proofs.lemmas.Option.{none-some}
use Rattle.flight_render.specs.declared.root.Ground.{Ground}
use Rattle.flight_render.specs.Run.{End}
use Rattle.flight_render.specs.Bodies.{Finishes}
use Rattle.flight_value.specs.Listed.{In, Distinct}
use Rattle.flight_render.specs.Costs.{Rendered, IsOver, total_of}
use Rattle.flight_render.proofs.Sourced.{each_append}
use Rattle.flight_eval.specs.declared.body.Gave.{Gave}
use Rattle.flight_eval.specs.declared.body.Gave.TheVariants as gives
use Rattle.flight_eval.specs.Attempted.{end_of}
use Rattle.flight_seq.specs.declared.known.Known.{Known}
use Rattle.flight_seq.specs.declared.known.Known.TheVariants.{Finished, Waits}
use Rattle.flight_seq.specs.declared.walk.Walk.{Walk}
use Rattle.flight_seq.specs.Walk.{Entry, same_address, known_at, known_cost, counted, IsEntry, IsMet, IsWalk, GoesOn, Reaches}
use Rattle.flight_seq.proofs.Walks.{same_self}

-- ---- lists without repeats

pub in_push : {A : Type 0} (xs : List A) (x y : A) → In y (xs ++ x ∷ []) → In y xs ⊎ (y ≡ x)
in_push [] x y (inl e) = inr e
in_push [] x y (inr h) = absurd h
in_push (z ∷ xs) x y (inl e) = inl (inl e)
in_push (z ∷ xs) x y (inr h) = elim (in_push xs x y h) [ inl p ↦ inl (inr p) | inr e ↦ inr e ]

pub distinct_push : {A : Type 0} (xs : List A) (x : A) → Distinct xs → (In x xs → ⊥) → Distinct (xs ++ x ∷ [])
distinct_push [] x h none = (λ p. p, tt)
distinct_push (y ∷ xs) x h none = (λ p. elim (in_push xs x y p) [ inl q ↦ h.0 q | inr e ↦ none (inl (sym e)) ], distinct_push xs x h.1 (λ p. none (inr p)))

-- ---- what is known at an address

pub not_in : (es : List Entry) (a : List ℕ) → known_at es a ≡ None → In a (map (λ e. e.0) es) → ⊥
not_in (x ∷ es) a none (inl e) =
    none-some x.1 (sym none ∙ ap (λ c. cond c (Some x.1) (known_at es a)) (ap (same_address a) (sym e) ∙ same_self a))
not_in (x ∷ es) a none (inr h) = by (same_address a x.0) refl (λ n. not_in es a n h)
  where
    by : (b : Bool) → same_address a x.0 ≡ b → (known_at es a ≡ None → ⊥) → ⊥
    by true t rest = none-some x.1 (sym none ∙ ap (λ c. cond c (Some x.1) (known_at es a)) t)
    by false t rest = rest (sym (ap (λ c. cond c (Some x.1) (known_at es a)) t) ∙ none)
not_in [] a none h = h

pub known_grows : (es more : List Entry) (a : List ℕ) (k : Known) → known_at es a ≡ Some k → known_at (es ++ more) a ≡ Some k
known_grows [] more a k e = absurd (none-some k e)
known_grows (x ∷ es) more a k e = by (same_address a x.0) refl (λ h. known_grows es more a k h)
  where
    by : (b : Bool) → same_address a x.0 ≡ b → (known_at es a ≡ Some k → known_at (es ++ more) a ≡ Some k) → known_at ((x ∷ es) ++ more) a ≡ Some k
    by true t rest = ap (λ c. cond c (Some x.1) (known_at (es ++ more) a)) t ∙ (sym (ap (λ c. cond c (Some x.1) (known_at es a)) t) ∙ e)
    by false t rest = ap (λ c. cond c (Some x.1) (known_at (es ++ more) a)) t ∙ rest (sym (ap (λ c. cond c (Some x.1) (known_at es a)) t) ∙ e)

pub known_push : (es : List Entry) (a : List ℕ) (k : Known) → known_at es a ≡ None → known_at (es ++ (a, k) ∷ []) a ≡ Some k
known_push [] a k none = ap (λ c. cond c (Some k) None) (same_self a)
known_push (x ∷ es) a k none = by (same_address a x.0) refl (λ h. known_push es a k h)
  where
    by : (b : Bool) → same_address a x.0 ≡ b → (known_at es a ≡ None → known_at (es ++ (a, k) ∷ []) a ≡ Some k) → known_at ((x ∷ es) ++ (a, k) ∷ []) a ≡ Some k
    by true t rest = absurd (none-some x.1 (sym none ∙ ap (λ c. cond c (Some x.1) (known_at es a)) t))
    by false t rest = ap (λ c. cond c (Some x.1) (known_at (es ++ (a, k) ∷ []) a)) t ∙ rest (sym (ap (λ c. cond c (Some x.1) (known_at es a)) t) ∙ none)

-- ---- costs

pub total_push : (es : List Entry) (a : List ℕ) (k : Known) → total_of (counted (es ++ (a, k) ∷ [])) ≡ total_of (counted es) + known_cost k
total_push [] a (Finished made inside gave_it cost) = omega arith
total_push [] a (Waits source) = omega arith
total_push ((b, Finished made inside gave_it cost) ∷ es) a k = let h = total_push es a k in omega (arith, h)
total_push ((b, Waits source) ∷ es) a k = total_push es a k

in_counted : (es : List Entry) (a : List ℕ) → In a (map (λ p. p.0) (counted es)) → In a (map (λ e. e.0) es)
in_counted ((b, Finished made inside gave_it cost) ∷ es) a (inl e) = inl e
in_counted ((b, Finished made inside gave_it cost) ∷ es) a (inr h) = inr (in_counted es a h)
in_counted ((b, Waits source) ∷ es) a h = inr (in_counted es a h)
in_counted [] a h = h

pub distinct_counted : (es : List Entry) → Distinct (map (λ e. e.0) es) → Distinct (map (λ p. p.0) (counted es))
distinct_counted [] h = tt
distinct_counted ((b, Finished made inside gave_it cost) ∷ es) h = (λ p. h.0 (in_counted es b p), distinct_counted es h.1)
distinct_counted ((b, Waits source) ∷ es) h = distinct_counted es h.1

pub ends_finished : (gave_it : Gave) (e : End) → e ≡ end_of gave_it → Finishes e
ends_finished (gives.Tree t) e is = subst Finishes (sym is) tt
ends_finished (gives.Threw d) e is = subst Finishes (sym is) tt

rendered_here : (g : Ground) (s : List Bool) (fuel : ℕ) (a : List ℕ) (k : Known) → IsEntry g s fuel (a, k) → (c : ℕ) → In (a, c) (counted ((a, k) ∷ [])) → Rendered g s a c
rendered_here g s fuel a (Waits source) entry c h = absurd h
rendered_here g s fuel a (Finished made inside gave_it cost) entry c (inr h) = absurd h
rendered_here g s fuel a (Finished made inside gave_it cost) entry c (inl e) = record {
  here = entry.here;
  is_body = entry.is_body;
  finishes = ends_finished gave_it entry.here.step entry.is_known.2;
  costs = sym entry.is_known.3 ∙ sym (ap (λ p. p.1) e);
  job = entry.called.job;
  addressed = entry.called.addressed;
  value = entry.called.value;
  met = entry.called.met;
  is_job = entry.called.is_job;
}

pub rendered_in : (g : Ground) (s : List Bool) (fuel : ℕ) (es : List Entry) → AllByRecursion (IsEntry g s fuel) es → (a : List ℕ) (c : ℕ) → In (a, c) (counted es) → Rendered g s a c
rendered_in g s fuel ((b, Finished made inside gave_it cost) ∷ es) all a c (inl e) =
    subst (λ x. Rendered g s x c) (sym (ap (λ p. p.0) e)) (rendered_here g s fuel b (Finished made inside gave_it cost) all.0 c (inl (ap (λ n. (b, n)) (ap (λ p. p.1) e))))
rendered_in g s fuel ((b, Finished made inside gave_it cost) ∷ es) all a c (inr h) = rendered_in g s fuel es all.1 a c h
rendered_in g s fuel ((b, Waits source) ∷ es) all a c h = rendered_in g s fuel es all.1 a c h
rendered_in g s fuel [] all a c h = absurd h

-- ---- the walk with one body more

once_push : (es : List Entry) (a : List ℕ) (k : Known) → Distinct (map (λ e. e.0) es) → known_at es a ≡ None → Distinct (map (λ e. e.0) (es ++ (a, k) ∷ []))
once_push es a k h none = subst Distinct (sym (map-append (λ (e : Entry). e.0) es ((a, k) ∷ []))) (distinct_push (map (λ e. e.0) es) a h (not_in es a none))

pub over_total : (g : Ground) (s : List Bool) (fuel : ℕ) (w : Walk) (a : List ℕ) (k : Known) → IsWalk g s fuel w → IsEntry g s fuel (a, k) → known_at w.bodies.entries a ≡ None → fuel < w.spent + known_cost k → IsOver g s fuel
over_total g s fuel w a k walk entry none more =
    let es = w.bodies.entries ++ (a, k) ∷ [] in
    let total = total_push w.bodies.entries a k in
    let spent = walk.is_spent in
    inl (record {
      counted = counted es;
      once = distinct_counted es (once_push w.bodies.entries a k walk.once none);
      only = rendered_in g s fuel es (each_append (IsEntry g s fuel) w.bodies.entries ((a, k) ∷ []) walk.bodies (entry, tt));
      more = subst (λ n. fuel < n) (ap (λ n. n + known_cost k) spent ∙ sym total) more;
    })

pub reaches_push : (g : Ground) (s : List Bool) (fuel : ℕ) (old new : Walk) (a : List ℕ) (k : Known) → IsWalk g s fuel old → IsEntry g s fuel (a, k) → known_at old.bodies.entries a ≡ None → new.bodies.entries ≡ old.bodies.entries ++ (a, k) ∷ [] → new.spent ≡ old.spent + known_cost k → new.spent ≤ fuel → new.keys ≡ old.keys → Reaches g s fuel a old new
reaches_push g s fuel old new a k walk entry none bodies spent few keys = record {
  walk = record {
    bodies = subst (AllByRecursion (IsEntry g s fuel)) (sym bodies) (each_append (IsEntry g s fuel) old.bodies.entries ((a, k) ∷ []) walk.bodies (entry, tt));
    once = subst (λ es. Distinct (map (λ (e : Entry). e.0) es)) (sym bodies) (once_push old.bodies.entries a k walk.once none);
    is_spent = spent ∙ (ap (λ n. n + known_cost k) walk.is_spent ∙ (sym (total_push old.bodies.entries a k) ∙ ap (λ es. total_of (counted es)) (sym bodies)));
    within = few;
    keys = subst (λ ks. AllByRecursion (IsMet g s) ks.keys) (sym keys) walk.keys;
    apart = subst (λ ks. Distinct ks.keys) (sym keys) walk.apart;
  };
  goes_on = record {
    more_bodies = (a, k) ∷ [];
    bodies = bodies;
    more_keys = [];
    keys = ap (λ ks. ks.keys) keys ∙ sym (append-nil old.keys.keys);
  };
  knows = (k, ap (λ es. known_at es a) bodies ∙ known_push old.bodies.entries a k none);
}

-- nothing more
pub goes_none : (w : Walk) → GoesOn w w
goes_none w = record {
  more_bodies = [];
  bodies = sym (append-nil w.bodies.entries);
  more_keys = [];
  keys = sym (append-nil w.keys.keys);
}
