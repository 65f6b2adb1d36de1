-- The pairs of keys that meet in a third store.

-- the pairs of keys, each with a partner, whose partners are one key of a third store
abbrev pub Joined : {K L N : Type 0} → (K → N → Type 0) → (L → N → Type 0) → K → L → Type 0
Joined {K} {L} {N} P Q i j = (x : N) × P i x × Q j x
