-- A row without references has no nodes.
use Rattle.std.proofs.Common.{◌≡◌, ℕ, zero, suc, Bool, true, false, ◌||◌, List, [], ◌∷◌, length, Option, Some, None, is_some, slice_get, refl, sym, ◌∙◌, ap, subst, arith}
use Rattle.std.specs.List.{list_any}
use Rattle.std.proofs.lemmas.Bool.{false≢true}
use Rattle.std.proofs.lemmas.Option.{none-some, same_Some}
use Rattle.flight_meaning.specs.declared.place.Place.{Place}
use Rattle.flight_link.specs.declared.fresh.Fresh.{Fresh}
use Rattle.flight_link.specs.declared.node.Start.{Start}
use Rattle.flight_link.specs.Nodes.{followed}
use Rattle.flight_link.specs.Growth.{IsFreshAt, AreFresh, number_in}

neither : (a b : Bool) → (a || b) ≡ false → (a ≡ false) × (b ≡ false)
neither false b t = (refl, t)
neither true b t = absurd (false≢true (sym t))

none_there : {A : Type 0} (o : Option A) → is_some o ≡ false → o ≡ None
none_there None t = refl
none_there (Some x) t = absurd (false≢true (sym t))

none_followed : (places : List Place) (n : ℕ) (at : Place) → list_any (λ p. is_some (followed p)) places ≡ false → slice_get places n ≡ Some at → followed at ≡ None
none_followed [] n at t e = absurd (none-some at e)
none_followed (p ∷ places) zero at t e = none_there (followed at) (subst (λ x. is_some (followed x) ≡ false) (same_Some p at e) (neither (is_some (followed p)) (list_any (λ p. is_some (followed p)) places) t).0)
none_followed (p ∷ places) (suc n) at t e = none_followed places n at (neither (is_some (followed p)) (list_any (λ p. is_some (followed p)) places) t).1 e

pub fresh_empty : (starts : List Start) (row : ℕ) (places : List Place) (f : Fresh) → list_any (λ p. is_some (followed p)) places ≡ false → f.index.items ≡ [] → f.starts.items ≡ [] → f.states.items ≡ [] → AreFresh starts row places f
fresh_empty starts row places f none index is_starts is_states = record {
  few = let e = ap length index in omega (arith, e);
  same_count = ap length is_states ∙ sym (ap length is_starts);
  placed = λ n at e.
      subst (λ x. IsFreshAt starts f.starts.items (record { row = row; place = n }) x (number_in f.index.items n)) (sym (none_followed places n at none e))
      (subst (λ x. IsFreshAt starts f.starts.items (record { row = row; place = n }) None (number_in x n)) (sym index) tt);
  nodes = λ j start state e h. absurd (none-some start (sym (ap (λ x. slice_get x j) is_starts) ∙ e));
}
