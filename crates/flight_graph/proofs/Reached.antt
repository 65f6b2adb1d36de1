-- What the walk comes to: distinct nodes of the graph, with all that their slots name.
use Rattle.std.proofs.Common.{◌≡◌, ℕ, zero, suc, ◌+◌, ◌<◌, ◌≤◌, Bool, true, false, nat_eq, is_some, List, [], ◌∷◌, ◌++◌, length, Option, Some, None, slice_get, refl, sym, ◌∙◌, ap, subst, arith, inl, inr, ◌⊎◌, ◌||◌, length-append}
use Rattle.std.specs.Prelude.{if◌then◌else◌}
use Rattle.std.specs.List.{AllByRecursion, IsDistinct, list_any}
use Rattle.std.specs.Cmp.{nat_eq_equiv}
use Rattle.std.proofs.lemmas.Map.Steps.{length-le_from_distinct_below}
use Rattle.std.proofs.lemmas.Map.Keys.{IsDistinct-push}
use Rattle.std.proofs.lemmas.Bool.Decides.{nat_tests, eqb_tells}
use Rattle.flight_value.specs.Graph.{IsValid}
use Rattle.flight_value.specs.declared.graph.Atom.{Atom}
use Rattle.flight_value.specs.declared.graph.Slot.{Slot}
use Rattle.flight_value.specs.declared.graph.Slot.TheVariants as slot
use Rattle.flight_value.specs.declared.graph.Graph.{Graph}
use Rattle.flight_graph.specs.Canon.{slots_at, place_from, place_in, walk, walk_with, visited_of}
use Rattle.flight_graph.proofs.Pairs.{Below, IsBelow, below_push, both_low, fresh_any, low_nodes, low_root, nothing_distinct}

-- ---- members

abbrev pub In : ℕ → List ℕ → Type 0
In m [] = ⊥
In m (x ∷ v) = (m ≡ x) ⊎ In m v

in_front : (m : ℕ) (v w : List ℕ) → In m v → In m (v ++ w)
in_front m [] w h = absurd h
in_front m (x ∷ v) w (inl e) = inl e
in_front m (x ∷ v) w (inr h) = inr (in_front m v w h)

in_last : (m : ℕ) (v : List ℕ) → In m (v ++ m ∷ [])
in_last m [] = inl refl
in_last m (x ∷ v) = inr (in_last m v)

-- a member of a list with one more
in_more : (m n : ℕ) (v : List ℕ) → In m (v ++ n ∷ []) → In m v ⊎ (m ≡ n)
in_more m n [] (inl e) = inr e
in_more m n [] (inr h) = absurd h
in_more m n (x ∷ v) (inl e) = inl (inl e)
in_more m n (x ∷ v) (inr h) = elim (in_more m n v h) [ inl k ↦ inl (inr k) | inr e ↦ inr e ]

in_from_place : (i m : ℕ) (v : List ℕ) → is_some (place_from i m v) ≡ true → In m v
in_from_place i m [] h = cc
in_from_place i m (x ∷ v) h =
    elim (eqb_tells x m) [
      | inl e ↦ inl (sym e.1)
      | inr e ↦ (let k = rw e.0 at h in inr (in_from_place (i + 1) m v k))
    ]

-- where a member stands
pub place_of_in : (i m : ℕ) (v : List ℕ) → In m v → (p : ℕ) × (place_from i m v ≡ Some (i + p)) × (p < length v) × (slice_get v p ≡ Some m)
place_of_in i m [] h = absurd h
place_of_in i m (x ∷ v) h =
    elim (eqb_tells x m) [
      | inl e ↦
          let here : i ≡ i + 0 = omega arith in
          (0, rw e.0 (ap Some here), omega arith, ap Some e.1)
      | inr e ↦
          let later : In m v = elim h [ inl same ↦ absurd (e.1 (sym same)) | inr k ↦ k ] in
          let rest = place_of_in (i + 1) m v later in
          let count : i + 1 + rest.0 ≡ i + suc rest.0 = omega arith in
          (suc rest.0, rw e.0 (rest.1 ∙ ap Some count), omega (arith, rest.2), rest.3)
    ]

or_right : (a b : Bool) → b ≡ true → (a || b) ≡ true
or_right true b h = refl
or_right false b h = h

any_in : (m : ℕ) (v : List ℕ) → In m v → list_any (nat_eq m) v ≡ true
any_in m [] h = absurd h
any_in m (x ∷ v) (inl e) =
    let test : nat_eq m x ≡ true = grind (arith, nat_tests) in
    rw test refl
any_in m (x ∷ v) (inr h) = or_right (nat_eq m x) (list_any (nat_eq m) v) (any_in m v h)

pub below_in : (count m : ℕ) (v : List ℕ) → Below count v → In m v → m < count
below_in count m v low h = low m (any_in m v h)

-- ---- slots that are met

abbrev pub Waits : ℕ → List Slot → Type 0
Waits m [] = ⊥
Waits m (slot.Atom a ∷ s) = Waits m s
Waits m (slot.Node n ∷ s) = (m ≡ n) ⊎ Waits m s

-- a slot's node, if it names one, was visited, or a slot that waits names it
abbrev pub IsMet : List ℕ → List Slot → Slot → Type 0
IsMet v s (slot.Atom a) = Unit {0}
IsMet v s (slot.Node m) = In m v ⊎ Waits m s

waits_front : (m : ℕ) (s t : List Slot) → Waits m s → Waits m (s ++ t)
waits_front m [] t h = absurd h
waits_front m (slot.Atom a ∷ s) t h = waits_front m s t h
waits_front m (slot.Node n ∷ s) t (inl e) = inl e
waits_front m (slot.Node n ∷ s) t (inr h) = inr (waits_front m s t h)

waits_back : (m : ℕ) (s t : List Slot) → Waits m t → Waits m (s ++ t)
waits_back m [] t h = h
waits_back m (slot.Atom a ∷ s) t h = waits_back m s t h
waits_back m (slot.Node n ∷ s) t h = inr (waits_back m s t h)

abbrev AreMet : List ℕ → List Slot → List Slot → Type 0
AreMet v s slots = AllByRecursion (IsMet v s) slots

are_met : (v w : List ℕ) (s t : List Slot) → ((r : Slot) → IsMet v s r → IsMet w t r) → (slots : List Slot) → AreMet v s slots → AreMet w t slots
are_met v w s t f [] h = tt
are_met v w s t f (r ∷ slots) h = (f r h.0, are_met v w s t f slots h.1)

past_atom : (v : List ℕ) (a : Atom) (s : List Slot) (r : Slot) → IsMet v (slot.Atom a ∷ s) r → IsMet v s r
past_atom v a s (slot.Atom b) h = tt
past_atom v a s (slot.Node m) h = h

past_visited : (v : List ℕ) (n : ℕ) (s : List Slot) → In n v → (r : Slot) → IsMet v (slot.Node n ∷ s) r → IsMet v s r
past_visited v n s k (slot.Atom b) h = tt
past_visited v n s k (slot.Node m) (inl h) = inl h
past_visited v n s k (slot.Node m) (inr (inl e)) = inl (subst (λ q. In q v) (sym e) k)
past_visited v n s k (slot.Node m) (inr (inr h)) = inr h

past_fresh : (v : List ℕ) (n : ℕ) (s t : List Slot) → (r : Slot) → IsMet v (slot.Node n ∷ s) r → IsMet (v ++ n ∷ []) (t ++ s) r
past_fresh v n s t (slot.Atom b) h = tt
past_fresh v n s t (slot.Node m) (inl h) = inl (in_front m v (n ∷ []) h)
past_fresh v n s t (slot.Node m) (inr (inl e)) = inl (subst (λ q. In q (v ++ n ∷ [])) (sym e) (in_last n v))
past_fresh v n s t (slot.Node m) (inr (inr h)) = inr (waits_back m t s h)

more_waits : (v : List ℕ) (q : Slot) (s : List Slot) (r : Slot) → IsMet v s r → IsMet v (q ∷ s) r
more_waits v q s (slot.Atom b) h = tt
more_waits v q s (slot.Node m) (inl h) = inl h
more_waits v q s (slot.Node m) (inr h) = inr (waits_back m (q ∷ []) s h)

first_waits : (v : List ℕ) (q : Slot) (s : List Slot) → IsMet v (q ∷ s) q
first_waits v (slot.Atom b) s = tt
first_waits v (slot.Node m) s = inr (inl refl)

-- slots in front of others wait
own_waits : (v : List ℕ) (own s : List Slot) → AreMet v (own ++ s) own
own_waits v [] s = tt
own_waits v (r ∷ own) s = (first_waits v r (own ++ s), are_met v v (own ++ s) (r ∷ own ++ s) (more_waits v r (own ++ s)) own (own_waits v own s))

-- ---- what the walk keeps

pub record Reaches (g : Graph) (v : List ℕ) (s : List Slot) : Type 0 where
  pub distinct : IsDistinct nat_eq v
  pub below : Below (length g.nodes) v
  pub slots_below : AllByRecursion (IsBelow (length g.nodes)) s
  pub root_met : IsMet v s g.root
  pub all_met : (n : ℕ) → In n v → AreMet v s (slots_at g.nodes n)

reaches_atom : (g : Graph) (v : List ℕ) (a : Atom) (s : List Slot) → Reaches g v (slot.Atom a ∷ s) → Reaches g v s
reaches_atom g v a s r =
    record {
      distinct = r.distinct;
      below = r.below;
      slots_below = r.slots_below.1;
      root_met = past_atom v a s g.root r.root_met;
      all_met = λ n h. are_met v v (slot.Atom a ∷ s) s (past_atom v a s) (slots_at g.nodes n) (r.all_met n h);
    }

reaches_visited : (g : Graph) (v : List ℕ) (n : ℕ) (s : List Slot) → In n v → Reaches g v (slot.Node n ∷ s) → Reaches g v s
reaches_visited g v n s k r =
    record {
      distinct = r.distinct;
      below = r.below;
      slots_below = r.slots_below.1;
      root_met = past_visited v n s k g.root r.root_met;
      all_met = λ m h. are_met v v (slot.Node n ∷ s) s (past_visited v n s k) (slots_at g.nodes m) (r.all_met m h);
    }

reaches_fresh : (g : Graph) → IsValid g → (v : List ℕ) (n : ℕ) (s : List Slot) → place_in n v ≡ None → Reaches g v (slot.Node n ∷ s) → Reaches g (v ++ n ∷ []) (slots_at g.nodes n ++ s)
reaches_fresh g valid v n s fresh r =
    let w = v ++ n ∷ [] in
    let t = slots_at g.nodes n in
    record {
      distinct = IsDistinct-push nat_eq_equiv v n r.distinct (fresh_any 0 n v fresh);
      below = below_push (length g.nodes) n v r.below r.slots_below.0;
      slots_below = both_low (length g.nodes) t s (low_nodes g valid n) r.slots_below.1;
      root_met = past_fresh v n s t g.root r.root_met;
      all_met = λ m h.
          elim (in_more m n v h) [
            | inl k ↦ are_met v w (slot.Node n ∷ s) (t ++ s) (past_fresh v n s t) (slots_at g.nodes m) (r.all_met m k)
            | inr e ↦ subst (λ q. AreMet w (t ++ s) (slots_at g.nodes q)) (sym e) (own_waits w t s)
          ];
    }

chosen_reaches : (g : Graph) (o : Option ℕ) (x y : List ℕ) → (is_some o ≡ true → Reaches g x []) → (o ≡ None → Reaches g y []) → Reaches g (if is_some o then x else y) []
chosen_reaches g None x y p q = q refl
chosen_reaches g (Some a) x y p q = p refl

with_reaches : (g : Graph) → IsValid g → (next : List ℕ → List Slot → List ℕ) (v : List ℕ) → ((n : ℕ) (t : List Slot) → Reaches g (v ++ n ∷ []) t → Reaches g (next (v ++ n ∷ []) t) []) → (s : List Slot) → Reaches g v s → Reaches g (walk_with next g.nodes v s) []
with_reaches g valid next v go [] r = r
with_reaches g valid next v go (slot.Atom a ∷ s) r = with_reaches g valid next v go s (reaches_atom g v a s r)
with_reaches g valid next v go (slot.Node n ∷ s) r =
    chosen_reaches g (place_in n v) (walk_with next g.nodes v s) (next (v ++ n ∷ []) (slots_at g.nodes n ++ s))
    (λ test. with_reaches g valid next v go s (reaches_visited g v n s (in_from_place 0 n v test) r))
    (λ fresh. go n (slots_at g.nodes n ++ s) (reaches_fresh g valid v n s fresh r))

walk_reaches : (g : Graph) → IsValid g → (k : ℕ) (v : List ℕ) (s : List Slot) → length g.nodes < k + length v → Reaches g v s → Reaches g (walk k g.nodes v s) []
walk_reaches g valid zero v s room r = absurd (let most : length v ≤ length g.nodes = length-le_from_distinct_below v (length g.nodes) r.distinct r.below in omega arith)
walk_reaches g valid (suc k) v s room r = with_reaches g valid (walk k g.nodes) v (λ n t q. walk_reaches g valid k (v ++ n ∷ []) t (simp length-append (omega arith)) q) s r

-- the visited nodes are those that the root leads to
pub visited_reaches : (g : Graph) → IsValid g → Reaches g (visited_of g) []
unfolding visited_of
visited_reaches g valid =
    walk_reaches g valid (suc (length g.nodes)) [] (g.root ∷ []) (omega arith)
    (record {
      distinct = nothing_distinct;
      below = λ q h. cc;
      slots_below = low_root g valid;
      root_met = first_waits [] g.root [];
      all_met = λ n h. absurd h;
    })
