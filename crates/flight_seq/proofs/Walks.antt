-- What a walk knows is so.
use Rattle.std.proofs.Common.{◌≡◌, ℕ, Bool, true, false, cond, List, [], ◌∷◌, Option, Some, None, slice_get, refl, sym, ◌∙◌, ap, subst, Decides}
use Rattle.std.specs.Prelude.{option_and_then}
use Rattle.std.specs.List.{AllByRecursion}
use Rattle.std.proofs.lemmas.Bool.Decides.{Decides-eqb}
use Rattle.std.proofs.lemmas.Slice.Eq.{slice_eq-Decides}
use Rattle.std.proofs.lemmas.Option.{none-some, same_Some}
use Rattle.flight_value.specs.declared.made.Made.{Made}
use Rattle.flight_value.specs.declared.name.Name.{Name}
use Rattle.flight_render.specs.declared.root.Ground.{Ground}
use Rattle.flight_render.specs.Bodies.{node_at, finished, is_finished, made_by}
use Rattle.flight_render.proofs.Larger.{finished-is}
use Rattle.flight_eval.specs.declared.body.Gave.{Gave}
use Rattle.flight_eval.specs.declared.body.Gave.TheVariants as gives
use Rattle.flight_eval.specs.Attempted.{end_of}
use Rattle.flight_seq.specs.declared.known.Known.{Known}
use Rattle.flight_seq.specs.declared.known.Known.TheVariants as known
use Rattle.flight_seq.specs.Walk.{Entry, same_address, known_at, known_made, made_at, IsEntry}

-- ---- addresses

pub same_is : (a b : List ℕ) → Decides (same_address a b) (a ≡ b)
same_is a b = slice_eq-Decides (λ x y. Decides-eqb x y) a b (same_address a b) refl

pub same_self : (a : List ℕ) → same_address a a ≡ true
same_self a = (same_is a a).1 refl

-- ---- entries

pub known_entry : (P : Entry → Type 0) (es : List Entry) (a : List ℕ) (k : Known) → AllByRecursion P es → known_at es a ≡ Some k → P (a, k)
known_entry P [] a k all e = absurd (none-some k e)
known_entry P (x ∷ es) a k all e = by (same_address a x.0) refl (λ h. known_entry P es a k all.1 h)
  where
    by : (b : Bool) → same_address a x.0 ≡ b → (known_at es a ≡ Some k → P (a, k)) → P (a, k)
    by true t rest =
        let here : x.1 ≡ k = same_Some x.1 k (sym (ap (λ c. cond c (Some x.1) (known_at es a)) t) ∙ e) in
        let there : x.0 ≡ a = sym ((same_is a x.0).0 t) in
        subst (λ b. P (b, k)) there (subst (λ l. P (x.0, l)) here all.0)
    by false t rest = rest (sym (ap (λ c. cond c (Some x.1) (known_at es a)) t) ∙ e)

pub finishes_end : (gave_it : Gave) → is_finished (end_of gave_it) ≡ true
finishes_end (gives.Tree t) = refl
finishes_end (gives.Threw d) = refl

entry_node : (g : Ground) (s : List Bool) (fuel : ℕ) (n : Name) (k : Known) (m : Made) → IsEntry g s fuel (n.render, k) → slice_get (known_made k) n.serial ≡ Some m → node_at g s n ≡ Some m
unfolding node_at
entry_node g s fuel n (known.Finished made inside gave_it cost) m entry e =
    let here = entry.here in
    let done : is_finished here.step ≡ true = ap is_finished entry.is_known.2 ∙ finishes_end gave_it in
    ap (λ o. made_by (finished o) n.serial) entry.is_body
    ∙ (ap (λ o. made_by o n.serial) (finished-is here done)
    ∙ (ap (λ (ms : List Made). slice_get ms n.serial) (sym entry.is_known.0) ∙ e))
entry_node g s fuel n (known.Waits source) m entry e = absurd (none-some m e)

pub node_known : (g : Ground) (s : List Bool) (fuel : ℕ) (es : List Entry) (n : Name) (m : Made) → AllByRecursion (IsEntry g s fuel) es → made_at es n ≡ Some m → node_at g s n ≡ Some m
node_known g s fuel es n m all e = by (known_at es n.render) refl
  where
    by : (o : Option Known) → known_at es n.render ≡ o → node_at g s n ≡ Some m
    by None is = absurd (none-some m (sym (ap (option_and_then (λ k. slice_get (known_made k) n.serial)) is) ∙ e))
    by (Some k) is = entry_node g s fuel n k m (known_entry (IsEntry g s fuel) es n.render k all is) (sym (ap (option_and_then (λ l. slice_get (known_made l) n.serial)) is) ∙ e)
