-- Lists: what stands in them, pairs of them, and lists that differ at one place.
use Rattle.std.proofs.Common.{◌≡◌, ℕ, zero, suc, ◌⊎◌, inl, inr, ⊎_elim, List, [], ◌∷◌, ◌++◌, map, Some, refl, sym, ap, ◌∙◌, subst}
use Rattle.std.proofs.lemmas.Option.{none-some, same_Some}
use Rattle.std.specs.Prelude.{slice_get, slice_set}
use Rattle.std.specs.List.{AllZip}
use Rattle.flight_value.specs.Listed.{In}

-- ---- pairs of lists

pub zip-map : {A B : Type 0} (R S : A → B → Type 0) → ((a : A) (b : B) → R a b → S a b) → (xs : List A) (ys : List B) → AllZip R xs ys → AllZip S xs ys
zip-map R S f [] [] h = tt
zip-map R S f (x ∷ xs) (y ∷ ys) h = (f x y h.0, zip-map R S f xs ys h.1)
zip-map R S f [] (y ∷ ys) h = absurd h
zip-map R S f (x ∷ xs) [] h = absurd h

pub zip-append : {A B : Type 0} (R : A → B → Type 0) (xs us : List A) (ys vs : List B) → AllZip R xs ys → AllZip R us vs → AllZip R (xs ++ us) (ys ++ vs)
zip-append R [] us [] vs a b = b
zip-append R (x ∷ xs) us (y ∷ ys) vs a b = (a.0, zip-append R xs us ys vs a.1 b)
zip-append R [] us (y ∷ ys) vs a b = absurd a
zip-append R (x ∷ xs) us [] vs a b = absurd a

pub in_zip : {A B : Type 0} (R : A → B → Type 0) (a : A) (xs : List A) (ys : List B) → In a xs → AllZip R xs ys → (b : B) × R a b
in_zip R a [] ys i h = absurd i
in_zip R a (x ∷ xs) [] i h = absurd h
in_zip R a (x ∷ xs) (y ∷ ys) (inl e) h = (y, subst (λ z. R z y) (sym e) h.0)
in_zip R a (x ∷ xs) (y ∷ ys) (inr i) h = in_zip R a xs ys i h.1

-- ---- what stands in a list

pub in_front : {A : Type 0} (xs ys : List A) (x : A) → In x xs → In x (xs ++ ys)
in_front [] ys x i = absurd i
in_front (y ∷ xs) ys x (inl e) = inl e
in_front (y ∷ xs) ys x (inr i) = inr (in_front xs ys x i)

pub in_behind : {A : Type 0} (xs ys : List A) (x : A) → In x ys → In x (xs ++ ys)
in_behind [] ys x i = i
in_behind (y ∷ xs) ys x i = inr (in_behind xs ys x i)

pub in_either : {A : Type 0} (xs ys : List A) (x : A) → In x (xs ++ ys) → In x xs ⊎ In x ys
in_either [] ys x i = inr i
in_either (y ∷ xs) ys x (inl e) = inl (inl e)
in_either (y ∷ xs) ys x (inr i) = ⊎_elim (λ k. inl (inr k)) (λ k. inr k) (in_either xs ys x i)

pub in_map : {A B : Type 0} (f : A → B) (xs : List A) (x : A) → In x xs → In (f x) (map f xs)
in_map f [] x i = absurd i
in_map f (y ∷ xs) x (inl e) = inl (ap f e)
in_map f (y ∷ xs) x (inr i) = inr (in_map f xs x i)

pub map_in : {A B : Type 0} (f : A → B) (xs : List A) (y : B) → In y (map f xs) → (x : A) × In x xs × (y ≡ f x)
map_in f [] y i = absurd i
map_in f (x ∷ xs) y (inl e) = (x, inl refl, e)
map_in f (x ∷ xs) y (inr i) = let r = map_in f xs y i in (r.0, inr r.1, r.2)

-- ---- by number

pub at_in : {A : Type 0} (xs : List A) (n : ℕ) (x : A) → slice_get xs n ≡ Some x → In x xs
at_in [] n x h = absurd (none-some x h)
at_in (y ∷ ys) zero x h = inl (sym (same_Some y x h))
at_in (y ∷ ys) (suc n) x h = inr (at_in ys n x h)

pub set_in : {A : Type 0} (xs : List A) (n : ℕ) (t u : A) → slice_get xs n ≡ Some t → In u (slice_set xs n u)
set_in [] n t u h = absurd (none-some t h)
set_in (y ∷ ys) zero t u h = inl refl
set_in (y ∷ ys) (suc n) t u h = inr (set_in ys n t u h)

-- what stood there is the item that was replaced, or stands there
pub set_forth : {A : Type 0} (xs : List A) (n : ℕ) (t u x : A) → slice_get xs n ≡ Some t → In x xs → (x ≡ t) ⊎ In x (slice_set xs n u)
set_forth [] n t u x h i = absurd i
set_forth (y ∷ ys) zero t u x h (inl e) = inl (e ∙ same_Some y t h)
set_forth (y ∷ ys) zero t u x h (inr i) = inr (inr i)
set_forth (y ∷ ys) (suc n) t u x h (inl e) = inr (inl e)
set_forth (y ∷ ys) (suc n) t u x h (inr i) = ⊎_elim (λ e. inl e) (λ k. inr (inr k)) (set_forth ys n t u x h i)

-- what stands there is the new item, or stood there
pub set_back : {A : Type 0} (xs : List A) (n : ℕ) (u x : A) → In x (slice_set xs n u) → (x ≡ u) ⊎ In x xs
set_back [] n u x i = inr i
set_back (y ∷ ys) zero u x (inl e) = inl e
set_back (y ∷ ys) zero u x (inr i) = inr (inr i)
set_back (y ∷ ys) (suc n) u x (inl e) = inr (inl e)
set_back (y ∷ ys) (suc n) u x (inr i) = ⊎_elim (λ e. inl e) (λ k. inr (inr k)) (set_back ys n u x i)
