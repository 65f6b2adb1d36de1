-- Lists that are written out, atoms that do not pend, and one row of a model: for what is worked by computing.
use Rattle.std.proofs.Common.{◌≡◌, ℕ, zero, suc, Bool, true, false, cond, eqb, eqb-true, eq-eqb, ◌⊎◌, inl, inr, ⊎_elim, List, [], ◌∷◌, map, Option, Some, option_and_then, refl, sym, ap, ◌∙◌, subst, arith}
use Rattle.std.proofs.lemmas.Option.{none-some, same_Some}
use Rattle.std.proofs.lemmas.Bool.{ne_eqb}
use Rattle.std.specs.Prelude.{slice_get, Contains}
use Rattle.std.specs.List.{AllByRecursion}
use Rattle.flight_value.specs.Listed.{In, Distinct}
use Rattle.flight_value.specs.Store as store
use Rattle.flight_value.specs.Store.{Label, Shape}
use Rattle.flight_value.specs.declared.graph.Atom.{Atom}
use Rattle.flight_value.specs.declared.graph.Atom.TheVariants as atom
use Rattle.flight_value.specs.declared.key.Key.{Key}
use Rattle.flight_text.specs.declared.mark.Ref.{Ref}
use Rattle.flight_row.specs.declared.row.RowKind.{RowKind}
use Rattle.flight_row.specs.declared.row.RowKind.TheVariants as row
use Rattle.flight_render.specs.declared.root.Ground.{Ground}
use Rattle.flight_render.specs.Jobs.{Value}
use Rattle.flight_meaning.specs.declared.place.Place.{Place}
use Rattle.flight_meaning.specs.declared.place.PlaceTree.{PlaceTree}
use Rattle.flight_meaning.specs.declared.place.PlacedRow.{PlacedRow}
use Rattle.flight_meaning.specs.Linked.{rows_of, Spot, place_at, first_place}
use Rattle.flight_meaning.specs.Resolve.{go_to, to, found, Found, Ends}
use Rattle.flight_meaning.specs.Meaning.{Identity, made_at}
use Rattle.flight_meaning.proofs.Walking.{one_end}
use Rattle.flight_state.specs.Emits.{HasValueRow}
use Rattle.flight_state.specs.Local.{Seen, NamesAt, shape_seen, IsOnce}
use Rattle.flight_state.specs.Worked.{model}
use Rattle.flight_state.proofs.LastRows.{rows_of-cons}

-- ---- lists

-- what holds of each item holds of what stands in the list
pub each_in : {A : Type 0} (P : A → Type 0) (xs : List A) → AllByRecursion P xs → (x : A) → In x xs → P x
each_in P [] h x i = absurd i
each_in P (y ∷ ys) h x (inl e) = subst P (sym e) h.0
each_in P (y ∷ ys) h x (inr i) = each_in P ys h.1 x i

pub in_map : {A B : Type 0} (f : A → B) (xs : List A) (x : A) (b : B) → b ≡ f x → In x xs → In b (map f xs)
in_map f [] x b same i = absurd i
in_map f (y ∷ ys) x b same (inl e) = inl (same ∙ ap f e)
in_map f (y ∷ ys) x b same (inr i) = inr (in_map f ys x b same i)

-- items that differ in what is told of them are one where that is one
pub once_by : {A B : Type 0} (f : A → B) (xs : List A) → Distinct (map f xs) → (x y : A) → In x xs → In y xs → f x ≡ f y → x ≡ y
once_by f [] d x y i j same = absurd i
once_by f (z ∷ zs) d x y (inl e) (inl h) same = e ∙ sym h
once_by f (z ∷ zs) d x y (inl e) (inr j) same = absurd (d.0 (in_map f zs y (f z) (sym (ap f e) ∙ same) j))
once_by f (z ∷ zs) d x y (inr i) (inl h) same = absurd (d.0 (in_map f zs x (f z) (sym (ap f h) ∙ sym same) i))
once_by f (z ∷ zs) d x y (inr i) (inr j) same = once_by f zs d.1 x y i j same

pub contains_in : {A : Type 0} (xs : List A) (x : A) → Contains xs x → In x xs
contains_in [] x p = absurd (omega (arith, p.1))
contains_in (y ∷ ys) x (zero, lt, e) = inl (sym e)
contains_in (y ∷ ys) x (suc k, lt, e) = inr (contains_in ys x (k, omega (arith, lt), e))

pub in_contains : {A : Type 0} (xs : List A) (x : A) → In x xs → Contains xs x
in_contains [] x i = absurd i
in_contains (y ∷ ys) x (inl e) = (0, omega arith, sym e)
in_contains (y ∷ ys) x (inr i) = let r = in_contains ys x i in (suc r.0, omega (arith, r.1), r.2)

-- ---- atoms that do not pend

abbrev pub IsSure : Atom → Type 0
IsSure atom.Pending = ⊥
IsSure a = Unit {0}

pub sure : (a : Atom) → IsSure a → a ≡ atom.Pending → ⊥
sure a is e = subst IsSure e is

-- ---- one row of a model

abbrev tree_of : List Place → PlaceTree
tree_of places = record { kind = row.Model; places = places }

pub row_own : (id : ℕ) (places : List Place) → rows_of id (model id places ∷ []) ≡ tree_of places ∷ []
row_own id places = rows_of-cons id (model id places) [] ∙ ap (λ b. cond b (tree_of places ∷ []) []) (eq-eqb id id refl)

-- of another id there is none
pub row_rows : (id : ℕ) (places : List Place) (n : ℕ) → ((n ≡ id) × (rows_of n (model id places ∷ []) ≡ tree_of places ∷ [])) ⊎ (rows_of n (model id places ∷ []) ≡ [])
row_rows id places n = go (eqb id n) refl
  where
    go : (b : Bool) → eqb id n ≡ b → ((n ≡ id) × (rows_of n (model id places ∷ []) ≡ tree_of places ∷ [])) ⊎ (rows_of n (model id places ∷ []) ≡ [])
    go true e = let same = eqb-true id n e in inl (sym same, subst (λ z. rows_of z (model id places ∷ []) ≡ tree_of places ∷ []) same (row_own id places))
    go false e = inr (rows_of-cons n (model id places) [] ∙ ap (λ b. cond b (tree_of places ∷ []) []) e)

abbrev pub IsClose : RowKind → Type 0
IsClose row.Close = Unit {0}
IsClose k = ⊥

pub row_once : (id : ℕ) (places : List Place) (n : ℕ) → IsOnce (rows_of n (model id places ∷ []))
row_once id places n = ⊎_elim (λ e. subst IsOnce (sym e.1) (λ q. subst IsClose (sym q) tt)) (λ e. subst IsOnce (sym e) tt) (row_rows id places n)

-- what stands at a place of the row
pub row_places : (id : ℕ) (places : List Place) (s : Spot) (p : Place) → place_at (model id places ∷ []) s ≡ Some p → (s ≡ record { id = id; nth = 0; at = s.at }) × (slice_get places s.at ≡ Some p)
row_places id places s p h = ⊎_elim (λ e. by s.id e.0 s.nth s.at (sym (ap (λ ts. look s.nth s.at ts) e.1) ∙ h)) (λ e. absurd (none-some p (sym (ap (λ ts. look s.nth s.at ts) e) ∙ h))) (row_rows id places s.id)
  where
    look : ℕ → ℕ → List PlaceTree → Option Place
    look nth n ts = option_and_then (λ (t : PlaceTree). slice_get t.places n) (slice_get ts nth)

    by : (i : ℕ) → i ≡ id → (nth n : ℕ) → option_and_then (λ (t : PlaceTree). slice_get t.places n) (slice_get (tree_of places ∷ []) nth) ≡ Some p → (◌≡◌ {A = Spot} (record { id = i; nth = nth; at = n }) (record { id = id; nth = 0; at = n })) × (slice_get places n ≡ Some p)
    by i e zero n q = (ap (λ z. record { id = z; nth = 0; at = n }) e, q)
    by i e (suc nth) n q = absurd (none-some p q)

-- the root place
pub row_root : (id : ℕ) (at : Place) (others : List Place) → place_at (model id (at ∷ others) ∷ []) (first_place id) ≡ Some at
row_root id at others = ap (λ ts. option_and_then (λ (t : PlaceTree). slice_get t.places 0) (slice_get ts 0)) (row_own id (at ∷ others))

pub row_value : (id : ℕ) (places : List Place) → HasValueRow (model id places ∷ []) id
row_value id places = ap (λ ts. go_to id ts []) (row_own id places)

-- ---- a row 1, and then row 0

abbrev pub two : PlaceTree → PlaceTree → List PlacedRow
two one root = record { id = 1; tree = one } ∷ record { id = 0; tree = root } ∷ []

pub none_further : (one root : PlaceTree) (n : ℕ) → rows_of (suc (suc n)) (two one root) ≡ []
none_further one root n =
    rows_of-cons (suc (suc n)) (record { id = 1; tree = one }) (record { id = 0; tree = root } ∷ [])
    ∙ (ap (λ b. cond b (one ∷ rows_of (suc (suc n)) (record { id = 0; tree = root } ∷ [])) (rows_of (suc (suc n)) (record { id = 0; tree = root } ∷ []))) (ne_eqb 1 (suc (suc n)) (λ e. omega (arith, e)))
    ∙ (rows_of-cons (suc (suc n)) (record { id = 0; tree = root }) [] ∙ ap (λ b. cond b (root ∷ []) []) (ne_eqb 0 (suc (suc n)) (λ e. omega (arith, e)))))

pub two_rows : (one root : PlaceTree) (n : ℕ) → ((n ≡ 1) × (rows_of n (two one root) ≡ one ∷ [])) ⊎ (((n ≡ 0) × (rows_of n (two one root) ≡ root ∷ [])) ⊎ (rows_of n (two one root) ≡ []))
two_rows one root zero = inr (inl (refl, refl))
two_rows one root (suc zero) = inl (refl, refl)
two_rows one root (suc (suc n)) = inr (inr (none_further one root n))

pub two_once : (one root : PlaceTree) → (one.kind ≡ row.Close → ⊥) → (root.kind ≡ row.Close → ⊥) → (n : ℕ) → IsOnce (rows_of n (two one root))
two_once one root f g n = ⊎_elim (λ e. subst IsOnce (sym e.1) f) (λ x. ⊎_elim (λ e. subst IsOnce (sym e.1) g) (λ e. subst IsOnce (sym e) tt) x) (two_rows one root n)

-- a row that closes no stream
pub no_close : (kind : RowKind) → (IsClose kind → ⊥) → kind ≡ row.Close → ⊥
no_close kind f e = f (subst IsClose (sym e) tt)

pub two_places : (one root : PlaceTree) (s : Spot) (p : Place) → place_at (two one root) s ≡ Some p
    → ((s ≡ record { id = 1; nth = 0; at = s.at }) × (slice_get one.places s.at ≡ Some p)) ⊎ ((s ≡ record { id = 0; nth = 0; at = s.at }) × (slice_get root.places s.at ≡ Some p))
two_places one root s p h = go s.id s.nth s.at h
  where
    look : (id : ℕ) (t : PlaceTree) (n k : ℕ) → option_and_then (λ (u : PlaceTree). slice_get u.places k) (slice_get (t ∷ []) n) ≡ Some p → (◌≡◌ {A = Spot} (record { id = id; nth = n; at = k }) (record { id = id; nth = 0; at = k })) × (slice_get t.places k ≡ Some p)
    look id t zero k q = (refl, q)
    look id t (suc n) k q = absurd (none-some p q)

    go : (id n k : ℕ) → place_at (two one root) (record { id = id; nth = n; at = k }) ≡ Some p
        → ((◌≡◌ {A = Spot} (record { id = id; nth = n; at = k }) (record { id = 1; nth = 0; at = k })) × (slice_get one.places k ≡ Some p)) ⊎ ((◌≡◌ {A = Spot} (record { id = id; nth = n; at = k }) (record { id = 0; nth = 0; at = k })) × (slice_get root.places k ≡ Some p))
    go zero n k q = inr (look 0 root n k q)
    go (suc zero) n k q = inl (look 1 one n k q)
    go (suc (suc id)) n k q = absurd (none-some p (sym (ap (λ ts. option_and_then (λ (t : PlaceTree). slice_get t.places k) (slice_get ts n)) (none_further one root id)) ∙ q))

-- ---- a node at a place, by a reference

abbrev pub IsPlaceLabel : Label → Type 0
IsPlaceLabel store.array = Unit {0}
IsPlaceLabel (store.object names) = Unit {0}
IsPlaceLabel store.element = Unit {0}
IsPlaceLabel store.map_of = Unit {0}
IsPlaceLabel store.set_of = Unit {0}
IsPlaceLabel label = ⊥

pub place_named : (label : Label) → IsPlaceLabel label → (rows : List PlacedRow) (a : Ref) (i : Identity) → NamesAt label rows a i → (s : Spot) × (i ≡ made_at s) × Ends rows (to a.id a.path) (found s)
place_named store.array is rows a i h = h
place_named (store.object names) is rows a i h = h
place_named store.element is rows a i h = h
place_named store.promise is rows a i h = absurd is
place_named store.map_of is rows a i h = h
place_named store.set_of is rows a i h = h
place_named (store.stream flow state) is rows a i h = absurd is
place_named (store.action name) is rows a i h = absurd is

spot_of : Found → Spot → Spot
spot_of (found s) t = s
spot_of f t = t

-- it is at the place where the reference ends
pub is_placed : (g : Ground) (seen : Seen) (rows : List PlacedRow) (k : Key) (a : Ref) (shape : Shape Value) (s : Spot) → shape_seen g seen k ≡ Some shape → IsPlaceLabel shape.label → Ends rows (to a.id a.path) (found s)
    → (i : Identity) → ((other : Shape Value) × (shape_seen g seen k ≡ Some other) × NamesAt other.label rows a i) → i ≡ made_at s
unfolding spot_of
is_placed g seen rows k a shape s is label ends i named =
    let same : named.0 ≡ shape = same_Some named.0 shape (sym named.1 ∙ is) in
    let at = place_named named.0.label (subst (λ (z : Shape Value). IsPlaceLabel z.label) (sym same) label) rows a i named.2 in
    at.1 ∙ ap (λ z. made_at (spot_of z s)) (one_end rows (to a.id a.path) (found at.0) (found s) at.2 ends)
