-- Lists that are read item by item.
use Rattle.std.proofs.Common.{◌≡◌, ℕ, ◌+◌, ◌<◌, List, [], ◌∷◌, ◌++◌, length, drop, map, refl, sym, ◌∙◌, ap, subst, append_assoc, append-nil, Err, slice_index_or}
use Rattle.std.proofs.lemmas.List.{drop_more}
use Rattle.flight_script.specs.declared.unfit.Unfit.{Unfit}
use Rattle.flight_script.specs.declared.unfit.Unfit.TheVariants.{Form, Memory}
use Rattle.flight_script.specs.Answer.{Answers}
use Rattle.std.specs.List.{AllZip}

-- those that are left come behind some that were read
pub record Built {A B : Type 0} (R : A → B → Type 0) (all rest : List A) (out : List B) : Type 0 where
  pub done : List A
  pub split : all ≡ done ++ rest
  pub built : AllZip R done out

pub zip-append : {A B : Type 0} (R : A → B → Type 0) (xs : List A) (ys : List B) (x : A) (y : B) → AllZip R xs ys → R x y → AllZip R (xs ++ x ∷ []) (ys ++ y ∷ [])
zip-append R [] [] x y h r = (r, tt)
zip-append R [] (b ∷ ys) x y h r = absurd h
zip-append R (a ∷ xs) [] x y h r = absurd h
zip-append R (a ∷ xs) (b ∷ ys) x y h r = (h.0, zip-append R xs ys x y h.1 r)

pub none-behind : {A B : Type 0} (R : A → B → Type 0) (xs : List A) (x : A) (rest : List A) → ((y : B) → ¬ R x y) → (ys : List B) → ¬ AllZip R (xs ++ x ∷ rest) ys
none-behind R [] x rest none [] h = h
none-behind R [] x rest none (y ∷ ys) h = none y h.0
none-behind R (a ∷ xs) x rest none [] h = h
none-behind R (a ∷ xs) x rest none (y ∷ ys) h = none-behind R xs x rest none ys h.1

pub built_start : {A B : Type 0} (R : A → B → Type 0) (all : List A) → Built R all all []
built_start R all = record { done = []; split = refl; built = tt }

pub built_on : {A B : Type 0} (R : A → B → Type 0) (all rest : List A) (out : List B) (x : A) (y : B) → Built R all (x ∷ rest) out → R x y → Built R all rest (out ++ y ∷ [])
built_on R all rest out x y b r =
    record { done = b.done ++ x ∷ []; split = b.split ∙ sym (append_assoc b.done (x ∷ []) rest); built = zip-append R b.done out x y b.built r }

pub built_end : {A B : Type 0} (R : A → B → Type 0) (all : List A) (out : List B) → Built R all [] out → AllZip R all out
built_end R all out b = subst (λ xs. AllZip R xs out) (sym (b.split ∙ append-nil b.done)) b.built

pub built_none : {A B : Type 0} (R : A → B → Type 0) (all rest : List A) (out : List B) (x : A) → Built R all (x ∷ rest) out → ((y : B) → ¬ R x y) → (ys : List B) → ¬ AllZip R all ys
built_none R all rest out x b none ys h = none-behind R b.done x rest none ys (subst (λ xs. AllZip R xs ys) b.split h)

-- what is left of a list that is read through a function, from an index on
pub drop_is : {V : Type 0} (vs : List V) (i : ℕ) (v : V) → i < length vs → v ≡ slice_index_or vs i v → drop i vs ≡ v ∷ drop (i + 1) vs
drop_is vs i v within is = drop_more vs i v within ∙ ap (λ x. x ∷ drop (i + 1) vs) (sym is)

pub map_drop : {V A : Type 0} (f : V → A) (vs : List V) (i : ℕ) (v : V) → i < length vs → v ≡ slice_index_or vs i v → map f (drop i vs) ≡ f v ∷ map f (drop (i + 1) vs)
map_drop f vs i v within is = ap (λ xs. map f xs) (drop_is vs i v within is)

-- one item further
pub built_next : {V A B : Type 0} (R : A → B → Type 0) (f : V → A) (all : List A) (vs : List V) (i : ℕ) (v : V) (out new : List B) (y : B)
    → Built R all (map f (drop i vs)) out → i < length vs → v ≡ slice_index_or vs i v → R (f v) y → new ≡ out ++ y ∷ [] → Built R all (map f (drop (i + 1) vs)) new
built_next R f all vs i v out new y b within is r pushed =
    let here = subst (λ rest. Built R all rest out) (map_drop f vs i v within is) b in
    subst (λ o. Built R all (map f (drop (i + 1) vs)) o) (sym pushed) (built_on R all (map f (drop (i + 1) vs)) out (f v) y here r)

-- the item there has not the form
pub unfit_at : {A B : Type 0} (R : A → B → Type 0) (all rest : List A) (out : List B) (x : A) (e : Unfit) → Built R all (x ∷ rest) out → Answers (R x) (Err e) → Answers (AllZip R all) (Err e)
unfit_at R all rest out x Form b none = built_none R all rest out x b none
unfit_at R all rest out x Memory b none = tt

pub unfit_next : {V A B : Type 0} (R : A → B → Type 0) (f : V → A) (all : List A) (vs : List V) (i : ℕ) (v : V) (out : List B) (e : Unfit)
    → Built R all (map f (drop i vs)) out → i < length vs → v ≡ slice_index_or vs i v → Answers (R (f v)) (Err e) → Answers (AllZip R all) (Err e)
unfit_next R f all vs i v out e b within is none =
    unfit_at R all (map f (drop (i + 1) vs)) out (f v) e (subst (λ rest. Built R all rest out) (map_drop f vs i v within is) b) none

-- the same over an iterator that gave one more
pub built_step : {V A B : Type 0} (R : A → B → Type 0) (f : V → A) (all : List A) (vs rest : List V) (v : V) (out new : List B) (y : B)
    → Built R all (map f vs) out → vs ≡ v ∷ rest → R (f v) y → new ≡ out ++ y ∷ [] → Built R all (map f rest) new
built_step R f all vs rest v out new y b more r pushed =
    let here = subst (λ ws. Built R all (map f ws) out) more b in
    subst (λ o. Built R all (map f rest) o) (sym pushed) (built_on R all (map f rest) out (f v) y here r)

pub unfit_step : {V A B : Type 0} (R : A → B → Type 0) (f : V → A) (all : List A) (vs rest : List V) (v : V) (out : List B) (e : Unfit)
    → Built R all (map f vs) out → vs ≡ v ∷ rest → Answers (R (f v)) (Err e) → Answers (AllZip R all) (Err e)
unfit_step R f all vs rest v out e b more none =
    unfit_at R all (map f rest) out (f v) e (subst (λ ws. Built R all (map f ws) out) more b) none
