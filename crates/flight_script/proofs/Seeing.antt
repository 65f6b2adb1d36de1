-- Marks of what is settled.
use Rattle.std.proofs.Common.{◌≡◌, ℕ, zero, suc, ◌<◌, List, [], ◌∷◌, length, map, refl, ◌∙◌, ap, arith, Option, Some, option_map, Bool, false}
use Rattle.std.specs.Prelude.{◌||◌, slice_get}

-- one more reason for a mark
abbrev pub also : Bool → Option Bool → Option Bool
also c o = option_map (λ b. b || c) o

unmarked_at : {X : Type 0} (xs : List X) (i : ℕ) → i < length xs → slice_get (map (λ x. false) xs) i ≡ Some false
unmarked_at [] i h = absurd (omega arith)
unmarked_at (x ∷ xs) zero h = refl
unmarked_at (x ∷ xs) (suc i) h = unmarked_at xs i (omega arith)

-- where none was marked, the marks are the reasons
pub marked_at : {X : Type 0} (xs : List X) (old new seen : List Bool) (reason : Bool) (i : ℕ) → i < length xs → old ≡ map (λ x. false) xs → slice_get new i ≡ also reason (slice_get old i) → seen ≡ new → slice_get seen i ≡ Some reason
marked_at xs old new seen reason i within bare marked is =
    ap (λ bs. slice_get bs i) is ∙ (marked ∙ (ap (λ bs. also reason (slice_get bs i)) bare ∙ ap (also reason) (unmarked_at xs i within)))
