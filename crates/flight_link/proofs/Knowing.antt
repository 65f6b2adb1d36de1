-- What is known of ids, once something is said of one.
use Rattle.std.proofs.Common.{◌≡◌, ◌≢◌, ℕ, zero, suc, ◌<◌, ◌≤◌, nat_eq, cond, true, false, List, [], ◌∷◌, length, Option, Some, None, option_and_then, slice_set, refl, sym, ◌∙◌, ap, arith, inl, inr, ◌⊎◌}
use Rattle.std.specs.Option.{option_or}
use Rattle.std.specs.HashMap.{get}
use Rattle.std.proofs.lemmas.Bool.Decides.{eqb_tells}
use Rattle.flight_link.specs.declared.ids.Known.{Known}
use Rattle.flight_link.specs.declared.ids.Ids.{Ids}
use Rattle.flight_link.specs.Known.{known_in, known_of, Learns}
use Rattle.flight_link.proofs.Settling.{set_there}

cell_here : (cells : List (Option Known)) (id : ℕ) (k : Known) → id < length cells → known_in (slice_set cells id (Some k)) id ≡ Some k
cell_here [] id k w = let no : ⊥ = omega (arith, w) in absurd no
cell_here (c ∷ cells) zero k w = refl
cell_here (c ∷ cells) (suc id) k w = cell_here cells id k (omega (arith, w))

cell_past : (cells : List (Option Known)) (id : ℕ) → length cells ≤ id → known_in cells id ≡ None
cell_past [] id w = refl
cell_past (c ∷ cells) zero w = let no : ⊥ = omega (arith, w) in absurd no
cell_past (c ∷ cells) (suc id) w = cell_past cells id (omega (arith, w))

-- in the cell of the id
pub learns_cell : (old new : Ids) (id : ℕ) (k : Known) → id < length old.dense.items → new.dense.items ≡ slice_set old.dense.items id (Some k) → new.sparse ≡ old.sparse → Learns old id k new
learns_cell old new id k less cells rest q = ap (λ c. option_or (known_in c q) (get nat_eq new.sparse q)) cells ∙ (ap (λ m. option_or (known_in (slice_set old.dense.items id (Some k)) q) (get nat_eq m q)) rest ∙ go (eqb_tells id q))
  where
    go : ((nat_eq id q ≡ true) × (id ≡ q)) ⊎ ((nat_eq id q ≡ false) × (id ≢ q)) → option_or (known_in (slice_set old.dense.items id (Some k)) q) (get nat_eq old.sparse q) ≡ cond (nat_eq id q) (Some k) (known_of old q)
    go (inl p) =
        ap (λ o. option_or o (get nat_eq old.sparse q)) (ap (known_in (slice_set old.dense.items id (Some k))) (sym p.1) ∙ cell_here old.dense.items id k less)
        ∙ sym (ap (λ b. cond b (Some k) (known_of old q)) p.0)
    go (inr p) =
        ap (λ o. option_or (option_and_then (λ o. o) o) (get nat_eq old.sparse q)) (set_there old.dense.items id q (Some k) p.1)
        ∙ sym (ap (λ b. cond b (Some k) (known_of old q)) p.0)

-- in the map, where the id has no cell
pub learns_entry : (old new : Ids) (id : ℕ) (k : Known) → length old.dense.items ≤ id → new.dense.items ≡ old.dense.items → ((q : ℕ) → get nat_eq new.sparse q ≡ cond (nat_eq id q) (Some k) (get nat_eq old.sparse q)) → Learns old id k new
learns_entry old new id k past cells entries q = ap (λ c. option_or (known_in c q) (get nat_eq new.sparse q)) cells ∙ (ap (option_or (known_in old.dense.items q)) (entries q) ∙ go (eqb_tells id q))
  where
    go : ((nat_eq id q ≡ true) × (id ≡ q)) ⊎ ((nat_eq id q ≡ false) × (id ≢ q)) → option_or (known_in old.dense.items q) (cond (nat_eq id q) (Some k) (get nat_eq old.sparse q)) ≡ cond (nat_eq id q) (Some k) (known_of old q)
    go (inl p) =
        ap (λ b. option_or (known_in old.dense.items q) (cond b (Some k) (get nat_eq old.sparse q))) p.0
        ∙ (ap (λ o. option_or o (Some k)) (ap (known_in old.dense.items) (sym p.1) ∙ cell_past old.dense.items id past)
        ∙ sym (ap (λ b. cond b (Some k) (known_of old q)) p.0))
    go (inr p) =
        ap (λ b. option_or (known_in old.dense.items q) (cond b (Some k) (get nat_eq old.sparse q))) p.0
        ∙ sym (ap (λ b. cond b (Some k) (known_of old q)) p.0)

pub cells_stay : (old new : Ids) → ((q : ℕ) → known_in new.dense.items q ≡ known_in old.dense.items q) → new.sparse ≡ old.sparse → (q : ℕ) → known_of new q ≡ known_of old q
cells_stay old new cells rest q = ap (λ o. option_or o (get nat_eq new.sparse q)) (cells q) ∙ ap (λ m. option_or (known_in old.dense.items q) (get nat_eq m q)) rest
