-- All that is reached was followed, and what it costs.
use Rattle.std.proofs.Common.{◌≡◌, ℕ, ◌≤◌, Bool, true, false, cond, List, [], ◌∷◌, Some, None, slice_get, refl, sym, ◌∙◌, ap, subst, inl, inr, arith}
use Rattle.std.specs.List.{AllByRecursion, AllZip}
use Rattle.std.proofs.lemmas.Option.{none-some, same_Some, slice_get_within, slice_get_cases}
use Rattle.flight_value.specs.declared.graph.Slot.{Slot}
use Rattle.flight_value.specs.declared.graph.Slot.TheVariants as slot
use Rattle.flight_value.specs.declared.graph.Node.{Node}
use Rattle.flight_value.specs.declared.key.Key.{Key}
use Rattle.flight_value.specs.declared.made.Tree.{Tree}
use Rattle.flight_value.specs.Graph.{slots_of}
use Rattle.flight_value.specs.Store as store
use Rattle.flight_value.specs.Store.{Shape, Target}
use Rattle.flight_render.specs.declared.root.Ground.{Ground}
use Rattle.flight_render.specs.Run as run
use Rattle.flight_render.specs.Run.{Run}
use Rattle.flight_render.specs.Bodies.{inner, Finishes}
use Rattle.flight_render.specs.Jobs.{Job, the_root, element, outcome, known, blank, Value, job_of, job_body, comes, value_of, Leads, target_of}
use Rattle.flight_render.specs.Plain.{NodeIs}
use Rattle.flight_value.specs.Listed.{In}
use Rattle.flight_render.specs.Costs.{Reached, at_root, through, in_slot, address_of, Rendered, Total, BodyOver, IsOver}
use Rattle.flight_render.proofs.Reaches.{one_node}
use Rattle.flight_render.proofs.Sums.{total-within}
use Rattle.flight_seq.specs.declared.known.Known.{Known}
use Rattle.flight_seq.specs.declared.known.Known.TheVariants.{Finished, Waits}
use Rattle.flight_seq.specs.declared.walk.Walk.{Walk}
use Rattle.flight_seq.specs.Walk.{Entry, same_address, known_at, counted, IsEntry, IsKnownBody, IsKnownAt, IsMetJob}
use Rattle.flight_seq.specs.Chain.{Comes, Fits, Draws}
use Rattle.flight_seq.specs.Drawing.{DrawsNode}
use Rattle.flight_seq.specs.Whole.{IsDrawing}
use Rattle.flight_seq.specs.Cost.{IsWithin}
use Rattle.flight_seq.proofs.Walks.{same_is, known_entry}
use Rattle.flight_seq.proofs.Pushing.{rendered_in, distinct_counted}
use Rattle.flight_seq.proofs.Tasks.{body_of_job}

module _ (g : Ground) (s : List Bool) (fuel : ℕ) (root : Slot) (nodes : List Node) (w : Walk) (d : IsDrawing g s fuel root nodes w) where
  abbrev es : List Entry
  es = w.bodies.entries

  abbrev ks : List Key
  ks = w.keys.keys

  -- a slot that was drawn for the value
  abbrev Handled : Value → Type 0
  Handled v = (x : Slot) × Draws g s es ks x v

  -- ---- chains

  next_job : (v last : Value) (js : List Job) (j : Job) (end : run.End) → Leads g s v js last → AllByRecursion (IsMetJob es) js → job_of g s last ≡ None → job_of g s v ≡ Some j → comes g s j ≡ Some end → Comes g s es (value_of g s j end) last
  next_job v last [] j end leads met none is to = absurd (none-some j (sym none ∙ (ap (job_of g s) (sym leads) ∙ is)))
  next_job v last (k ∷ js) j end leads met none is to =
      let same : k ≡ j = same_Some k j (sym leads.0 ∙ is) in
      let ends : leads.1.0 ≡ end = same_Some leads.1.0 end (sym leads.1.1 ∙ (ap (comes g s) same ∙ to)) in
      let moved : value_of g s k leads.1.0 ≡ value_of g s j end = ap (λ i. value_of g s i leads.1.0) same ∙ ap (value_of g s j) ends in
      record { jobs = js; leads = subst (λ u. Leads g s u js last) moved leads.1.2; met = met.1 }

  job_met : (v last : Value) (js : List Job) (j : Job) → Leads g s v js last → AllByRecursion (IsMetJob es) js → job_of g s last ≡ None → job_of g s v ≡ Some j → IsMetJob es j
  job_met v last [] j leads met none is = absurd (none-some j (sym none ∙ (ap (job_of g s) (sym leads) ∙ is)))
  job_met v last (k ∷ js) j leads met none is = subst (IsMetJob es) (same_Some k j (sym leads.0 ∙ is)) met.0

  no_step : (v last : Value) (js : List Job) → Leads g s v js last → job_of g s v ≡ None → v ≡ last
  no_step v last [] leads none = leads
  no_step v last (j ∷ js) leads none = absurd (none-some j (sym none ∙ leads.0))

  -- ---- all that is reached is handled

  zip_in : (xs : List Slot) (vs : List Value) (v : Value) → AllZip (Draws g s es ks) xs vs → In v vs → Handled v
  zip_in (x ∷ xs) (u ∷ vs) v h (inl e) = (x, subst (Draws g s es ks x) (sym e) h.0)
  zip_in (x ∷ xs) (u ∷ vs) v h (inr i) = zip_in xs vs v h.1 i
  zip_in [] (u ∷ vs) v h i = absurd h
  zip_in xs [] v h i = absurd i

  node_there : (n : ℕ) (k : Key) → slice_get ks n ≡ Some k → (x : Node) × (slice_get nodes n ≡ Some x)
  node_there n k e =
      let less = slice_get_within ks n k e in
      let all = d.all in
      elim (slice_get_cases nodes n).1 [ inl h ↦ (h.0, h.2) | inr h ↦ (let past = h.0 in absurd (omega (arith, less, all, past))) ]

  pub node_drawn : (n : ℕ) (k : Key) → slice_get ks n ≡ Some k → (x : Node) × (slice_get nodes n ≡ Some x) × DrawsNode g s es ks k x
  node_drawn n k e =
      let there = node_there n k e in
      let drawn = d.each n there.0 there.1 in
      (there.0, there.1, subst (λ l. DrawsNode g s es ks l there.0) (same_Some drawn.0 k (sym drawn.1 ∙ e)) drawn.2)

  slots_at : (x : Slot) (k : Key) (shape : Shape Value) → Fits ks x (store.node_at k) → NodeIs g s k shape → (u : Value) → In u shape.slots → Handled u
  slots_at (slot.Atom a) k shape fits is u i = absurd fits
  slots_at (slot.Node n) k shape fits is u i =
      let drawn = node_drawn n k fits in
      let same : drawn.2.shape ≡ shape = one_node g s k drawn.2.shape shape drawn.2.is_shape is in
      zip_in (slots_of drawn.0) shape.slots u (subst (λ (z : Shape Value). AllZip (Draws g s es ks) (slots_of drawn.0) z.slots) same drawn.2.slots) i

  pub handled : (v : Value) → Reached g s v → Handled v
  handled v at_root = (root, d.draws_root)
  handled v (through {v = u} {j = j} {end = end} r is to) =
      let h = handled u r in
      let c = h.1.comes in
      (h.0, record { last = h.1.last; comes = next_job u h.1.last c.jobs j end c.leads c.met h.1.no_job is to; no_job = h.1.no_job; fits = h.1.fits })
  handled v (in_slot {v = u} {k = k} {shape = shape} r none target is i) =
      let h = handled u r in
      let same : u ≡ h.1.last = no_step u h.1.last h.1.comes.jobs h.1.comes.leads none in
      slots_at h.0 k shape (subst (Fits ks h.0) (ap target_of (sym same) ∙ sym target) h.1.fits) is v i

  pub met_job : (v : Value) (j : Job) → Reached g s v → job_of g s v ≡ Some j → IsMetJob es j
  met_job v j r is =
      let h = handled v r in
      job_met v h.1.last h.1.comes.jobs j h.1.comes.leads h.1.comes.met h.1.no_job is

  -- ---- what it costs

  known_job : (j : Job) (a : List ℕ) → address_of j ≡ Some a → IsMetJob es j → IsKnownAt es a
  known_job the_root a e h = subst (IsKnownAt es) (same_Some [] a e) h
  known_job (element n) a e h = subst (IsKnownAt es) (same_Some (inner n) a e) h
  known_job (outcome i) a e h = absurd (none-some a e)
  known_job (known x) a e h = absurd (none-some a e)
  known_job blank a e h = absurd (none-some a e)

  counted_at : (all : List Entry) (a : List ℕ) (made : _) (inside : _) (gave_it : _) (cost : ℕ) → known_at all a ≡ Some (Finished made inside gave_it cost) → In (a, cost) (counted all)
  counted_at [] a made inside gave_it cost e = absurd (none-some (Finished made inside gave_it cost) e)
  counted_at ((b, k) ∷ all) a made inside gave_it cost e = by (same_address a b) refl (λ h. counted_at all a made inside gave_it cost h)
    where
      skip : (l : Known) → In (a, cost) (counted all) → In (a, cost) (counted ((b, l) ∷ all))
      skip (Finished m i v c) h = inr h
      skip (Waits i) h = h

      by : (t : Bool) → same_address a b ≡ t → (known_at all a ≡ Some (Finished made inside gave_it cost) → In (a, cost) (counted all)) → In (a, cost) (counted ((b, k) ∷ all))
      by true t rest =
          let here : Finished made inside gave_it cost ≡ k = sym (same_Some k (Finished made inside gave_it cost) (sym (ap (λ c. cond c (Some k) (known_at all a)) t) ∙ e)) in
          subst (λ l. In (a, cost) (counted ((b, l) ∷ all))) here (inl (ap (λ x. (x, cost)) ((same_is a b).0 t)))
      by false t rest = skip k (rest (sym (ap (λ c. cond c (Some k) (known_at all a)) t) ∙ e))

  finished_counted : (a : List ℕ) (k : Known) (here : Run Tree) (cost : ℕ) → known_at es a ≡ Some k → IsKnownBody g s a k here → Finishes here.step → here.after.cost ≡ cost → In (a, cost) (counted es)
  finished_counted a (Finished made inside gave_it c) here cost e is fin costs = subst (λ n. In (a, n) (counted es)) (is.3 ∙ costs) (counted_at es a made inside gave_it c e)
  finished_counted a (Waits i) here cost e is fin costs = absurd (subst Finishes is fin)

  rendered_counted : (a : List ℕ) (cost : ℕ) → Rendered g s a cost → In (a, cost) (counted es)
  rendered_counted a cost r =
      let k = known_job r.job a r.addressed (met_job r.value r.job r.met r.is_job) in
      let entry = known_entry (IsEntry g s fuel) es a k.0 d.walk.bodies k.1 in
      let same : entry.here ≡ r.here = same_Some entry.here r.here (sym entry.is_body ∙ r.is_body) in
      finished_counted a k.0 r.here cost k.1 (subst (IsKnownBody g s a k.0) same entry.is_known) r.finishes r.costs

  pub total : Total g s w.spent
  total = record {
    counted = counted es;
    once = distinct_counted es d.walk.once;
    only = rendered_in g s fuel es d.walk.bodies;
    each = rendered_counted;
    is_total = d.walk.is_spent;
  }

  body_address : (j : Job) (here : Run Tree) → job_body g s j ≡ Some here → (a : List ℕ) × (address_of j ≡ Some a)
  body_address the_root here e = ([], refl)
  body_address (element n) here e = (inner n, refl)
  body_address (outcome i) here e = absurd (none-some here e)
  body_address (known x) here e = absurd (none-some here e)
  body_address blank here e = absurd (none-some here e)

  body_within : BodyOver g s fuel → ⊥
  body_within o =
      let a = body_address o.job o.here o.is_body in
      let k = known_job o.job a.0 a.1 (met_job o.value o.job o.met o.is_job) in
      let entry = known_entry (IsEntry g s fuel) es a.0 k.0 d.walk.bodies k.1 in
      let same : entry.here ≡ o.here = same_Some entry.here o.here (sym entry.is_body ∙ (sym (body_of_job g s o.job a.0 a.1) ∙ o.is_body)) in
      let few : o.here.after.cost ≤ fuel = subst (λ (h : Run Tree). h.after.cost ≤ fuel) same entry.within in
      let more = o.more in
      omega (arith, few, more)

  pub not_over : IsOver g s fuel → ⊥
  not_over (inl o) =
      let more = total-within g s w.spent fuel total o in
      let few = d.walk.within in
      omega (arith, more, few)
  not_over (inr o) = body_within o

  pub is_within : IsWithin g s fuel w.spent
  is_within = (total, d.walk.within, not_over)
