-- Nodes drawn one after another.
use Rattle.std.proofs.Common.{◌≡◌, ℕ, zero, suc, ◌≤◌, Bool, List, [], ◌∷◌, ◌++◌, map, length, Some, None, slice_get, refl, sym, ◌∙◌, ap, subst, inl, inr, ◌⊎◌, arith}
use Rattle.std.specs.List.{AllByRecursion, AllZip}
use Rattle.std.proofs.lemmas.Option.{none-some, same_Some}
use Rattle.flight_value.specs.declared.graph.Slot.{Slot}
use Rattle.flight_value.specs.declared.graph.Node.{Node}
use Rattle.flight_value.specs.declared.key.Key.{Key}
use Rattle.flight_value.specs.Graph.{slots_of}
use Rattle.flight_render.specs.declared.root.Ground.{Ground}
use Rattle.flight_render.specs.Jobs.{Value}
use Rattle.flight_value.specs.Listed.{In}
use Rattle.flight_render.specs.Costs.{Reached, in_slot}
use Rattle.flight_render.proofs.Sourced.{each_at}
use Rattle.flight_seq.specs.declared.held.Held.{Held}
use Rattle.flight_seq.specs.declared.held.Shape as held
use Rattle.flight_seq.specs.declared.walk.Walk.{Walk}
use Rattle.flight_seq.specs.Held.{value_held, shape_for}
use Rattle.flight_seq.specs.Walk.{IsMet, IsWalk, GoesOn}
use Rattle.flight_seq.specs.Chain.{Draws, Follows}
use Rattle.flight_seq.specs.Drawing.{DrawsNode, DrawEach, IsKept, IsNodeDrawn}
use Rattle.flight_seq.proofs.Chains.{draws_on, key_on, append_more}

-- ---- lists

pub zip_as : {A B : Type 0} (P Q : A → B → Type 0) (xs : List A) (ys : List B) → ((x : A) (y : B) → P x y → Q x y) → AllZip P xs ys → AllZip Q xs ys
zip_as P Q [] [] f h = tt
zip_as P Q (x ∷ xs) (y ∷ ys) f h = (f x y h.0, zip_as P Q xs ys f h.1)
zip_as P Q [] (y ∷ ys) f h = absurd h
zip_as P Q (x ∷ xs) [] f h = absurd h

zip_push : {A B : Type 0} (P : A → B → Type 0) (xs : List A) (ys : List B) (x : A) (y : B) → AllZip P xs ys → P x y → AllZip P (xs ++ x ∷ []) (ys ++ y ∷ [])
zip_push P [] [] x y h p = (p, tt)
zip_push P (a ∷ xs) (b ∷ ys) x y h p = (h.0, zip_push P xs ys x y h.1 p)
zip_push P [] (b ∷ ys) x y h p = absurd h
zip_push P (a ∷ xs) [] x y h p = absurd h

map_push : (hs : List Held) (h : Held) → map value_held (hs ++ h ∷ []) ≡ map value_held hs ++ value_held h ∷ []
map_push [] h = refl
map_push (x ∷ hs) h = ap (λ t. value_held x ∷ t) (map_push hs h)

pub push_get : {A : Type 0} (xs : List A) (x : A) (n : ℕ) (y : A) → slice_get (xs ++ x ∷ []) n ≡ Some y → (slice_get xs n ≡ Some y) ⊎ ((n ≡ length xs) × (x ≡ y))
push_get [] x zero y e = inr (refl, same_Some x y e)
push_get [] x (suc n) y e = absurd (none-some y e)
push_get (z ∷ xs) x zero y e = inl e
push_get (z ∷ xs) x (suc n) y e = elim (push_get xs x n y e) [ inl h ↦ inl h | inr p ↦ inr (omega (arith, p.0), p.1) ]

pub all_in : {A : Type 0} (P : A → Type 0) (xs : List A) → ((x : A) → In x xs → P x) → AllByRecursion P xs
all_in P [] f = tt
all_in P (x ∷ xs) f = (f x (inl refl), all_in P xs (λ y h. f y (inr h)))

pub past_all : {A : Type 0} (xs : List A) (n : ℕ) → slice_get xs n ≡ None → length xs ≤ n
past_all [] n e = omega arith
past_all (x ∷ xs) zero e = absurd (none-some x (sym e))
past_all (x ∷ xs) (suc n) e = let h = past_all xs n e in omega (arith, h)

-- ---- slots

met_in : (P : Value → Type 0) (done rest : List Held) (h : Held) → AllByRecursion P (map value_held (done ++ h ∷ rest)) → P (value_held h)
met_in P [] rest h all = all.0
met_in P (x ∷ done) rest h all = met_in P done rest h all.1

pub met_at : (P : Value → Type 0) (whole done rest next : List Held) (h : Held) → done ++ rest ≡ whole → rest ≡ h ∷ next → AllByRecursion P (map value_held whole) → P (value_held h)
met_at P whole done rest next h e is all = met_in P done next h (subst (λ hs. AllByRecursion P (map value_held hs)) (sym e ∙ ap (λ hs. done ++ hs) is) all)

pub done_more : (whole done rest next : List Held) (h : Held) → done ++ rest ≡ whole → rest ≡ h ∷ next → (done ++ h ∷ []) ++ next ≡ whole
done_more whole done rest next h e is = append_more done (h ∷ []) next ∙ (ap (λ hs. done ++ hs) (sym is) ∙ e)

pub slots_push : (g : Ground) (s : List Bool) (fuel : ℕ) (mid new : Walk) (slots more : List Slot) (done : List Held) (x : Slot) (h : Held) → AllZip (Draws g s mid.bodies.entries mid.keys.keys) slots (map value_held done) → Follows g s fuel x (value_held h) mid new → more ≡ slots ++ x ∷ [] → AllZip (Draws g s new.bodies.entries new.keys.keys) more (map value_held (done ++ h ∷ []))
slots_push g s fuel mid new slots more done x h zip f e =
    subst (λ xs. AllZip (Draws g s new.bodies.entries new.keys.keys) xs (map value_held (done ++ h ∷ []))) (sym e)
    (subst (AllZip (Draws g s new.bodies.entries new.keys.keys) (slots ++ x ∷ [])) (sym (map_push done h))
    (zip_push (Draws g s new.bodies.entries new.keys.keys) slots (map value_held done) x (value_held h)
    (zip_as (Draws g s mid.bodies.entries mid.keys.keys) (Draws g s new.bodies.entries new.keys.keys) slots (map value_held done) (λ y v d. draws_on g s mid new y v f.goes_on d) zip) f.draws))

-- ---- nodes

pub slots_met : (g : Ground) (s : List Bool) (fuel : ℕ) (w : Walk) (n : ℕ) (shape : held.Shape) → IsWalk g s fuel w → IsKept g s w n shape → AllByRecursion (Reached g s) (shape_for shape).slots
slots_met g s fuel w n shape walk kept =
    let met = each_at (IsMet g s) w.keys.keys n kept.0 walk.keys kept.1 in
    all_in (Reached g s) (shape_for shape).slots (λ v i. in_slot met.met met.no_job met.leads kept.2 i)

node_on : (g : Ground) (s : List Bool) (old new : Walk) (k : Key) (x : Node) → GoesOn old new → DrawsNode g s old.bodies.entries old.keys.keys k x → DrawsNode g s new.bodies.entries new.keys.keys k x
node_on g s old new k x on h = record {
  shape = h.shape;
  is_shape = h.is_shape;
  label = h.label;
  slots = zip_as (Draws g s old.bodies.entries old.keys.keys) (Draws g s new.bodies.entries new.keys.keys) (slots_of x) h.shape.slots (λ y v d. draws_on g s old new y v on d) h.slots;
  few = h.few;
}

pub each_none : (g : Ground) (s : List Bool) (w : Walk) (nodes : List Node) → nodes ≡ [] → DrawEach g s w.bodies.entries w.keys.keys nodes
each_none g s w nodes e n x is = absurd (none-some x (sym (ap (λ xs. slice_get xs n) e) ∙ is))

pub each_push : (g : Ground) (s : List Bool) (fuel : ℕ) (mid new : Walk) (nodes more : List Node) (shape : held.Shape) (x : Node) → DrawEach g s mid.bodies.entries mid.keys.keys nodes → IsKept g s mid (length nodes) shape → IsNodeDrawn g s fuel (shape_for shape) x mid new → more ≡ nodes ++ x ∷ [] → DrawEach g s new.bodies.entries new.keys.keys more
each_push g s fuel mid new nodes more shape x each kept drawn e n y is =
    elim (push_get nodes x n y (sym (ap (λ xs. slice_get xs n) e) ∙ is)) [
      | inl h ↦ let d = each n y h in (d.0, key_on mid new n d.0 drawn.goes_on d.1, node_on g s mid new d.0 y drawn.goes_on d.2)
      | inr p ↦ (
        kept.0,
        ap (slice_get new.keys.keys) p.0 ∙ key_on mid new (length nodes) kept.0 drawn.goes_on kept.1,
        subst (DrawsNode g s new.bodies.entries new.keys.keys kept.0) p.1 (record { shape = shape_for shape; is_shape = kept.2; label = drawn.label; slots = drawn.slots; few = drawn.few }),
      )
    ]
