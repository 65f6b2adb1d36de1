-- Names that ascend, and where one stands.
use Rattle.std.proofs.Common.{◌≡◌, ◌≢◌, ℕ, zero, suc, ◌<◌, ◌≤◌, List, [], ◌∷◌, length, map, refl, sym, ◌∙◌, ap, arith, inl, inr, Some, String, Global, Bor, Ordering, Less, Equal, Greater, nat_cmp, string_cmp, slice_index_or, true, false, Bool, string_bytes}
use Rattle.std.specs.Prelude.{slice_get}
use Rattle.std.specs.Ordering.{ordering_index, is_eq}
use Rattle.std.specs.Cmp.Lexicographic.{slice_cmp}
use Rattle.std.specs.Map.{keys_of}
use Rattle.std.specs.List.{AllByRecursion, HoldsAt}
use Rattle.std.specs.List.Sorted.{IsStrictlySortedBy, IsNonDecreasingBy, IsPartitionPoint}
use Rattle.std.specs.Str.{bytes_eq}
use Rattle.std.proofs.lemmas.Bool.{or_left, or_right, cases_lt}
use Rattle.std.proofs.lemmas.Cmp.{nat_list_cmp_total, tied_itself}
use Rattle.std.proofs.lemmas.Map.Text.{is_eq-slice_cmp}
use Rattle.std.proofs.lemmas.Slice.Eq.{bytes_eq-Decides}
use Rattle.serde_json.specs.declared.value.Value.{Value}
use Rattle.flight_value.specs.Graph.{Ascend}
use Rattle.flight_script.specs.Entries.{entries}
use Rattle.flight_script.specs.Json.{is_among}
use Rattle.flight_script.specs.Script.{names}
use Rattle.flight_script.proofs.Marks.{some≢none}

-- ---- the names of a map

keys_below : (k : String Global) (es : List (String Global × Value)) → AllByRecursion (λ y. string_cmp k y ≡ Less) (keys_of es) → AllByRecursion (λ y. slice_cmp nat_cmp (string_bytes k) y ≡ Less) (names (entries es))
keys_below k [] h = tt
keys_below k (e ∷ es) h = (h.0, keys_below k es h.1)

pub names_ascend : (es : List (String Global × Value)) → IsStrictlySortedBy string_cmp (keys_of es) → Ascend (names (entries es))
unfolding IsStrictlySortedBy
names_ascend [] h = tt
names_ascend (e ∷ es) h = (keys_below e.0 es h.0, names_ascend es h.1)

-- ---- where a name stands

pub same_from_equal : (a b : List ℕ) → slice_cmp nat_cmp a b ≡ Equal → a ≡ b
same_from_equal a b e = (bytes_eq-Decides a b).0 (sym (is_eq-slice_cmp a b) ∙ ap is_eq e)

pub found_at : (ns : List (Bor (List ℕ))) (i : ℕ) (name : List ℕ) → i < length ns → HoldsAt (λ y. slice_cmp nat_cmp y.now name ≡ Equal) ns i → slice_get (map (λ n. n.now) ns) i ≡ Some name
found_at [] i name within h = absurd (omega arith)
found_at (n ∷ ns) zero name within h = ap Some (same_from_equal n.now name (h n))
found_at (n ∷ ns) (suc i) name within h = found_at ns i name (omega arith) (λ d. h d)

pub less≢equal : Less ≡ Equal → ⊥
less≢equal e = cc

less≢greater : Less ≡ Greater → ⊥
less≢greater e = cc

rises_at : (o p : Ordering) (a b x : List ℕ) → slice_cmp nat_cmp a x ≡ o → slice_cmp nat_cmp b x ≡ p → slice_cmp nat_cmp a b ≡ Less → ordering_index o ≤ ordering_index p
rises_at Less p a b x e f less = omega arith
rises_at Equal Less a b x e f less = absurd (less≢equal (sym (nat_list_cmp_total.trans a b x less f) ∙ e))
rises_at Equal Equal a b x e f less = omega arith
rises_at Equal Greater a b x e f less = omega arith
rises_at Greater Less a b x e f less = absurd (less≢greater (sym (nat_list_cmp_total.trans a b x less f) ∙ e))
rises_at Greater Equal a b x e f less = absurd (less≢greater (sym less ∙ (ap (slice_cmp nat_cmp a) (same_from_equal b x f) ∙ e)))
rises_at Greater Greater a b x e f less = omega arith

below_at : (k : List ℕ) (ns : List (Bor (List ℕ))) (j : ℕ) (d : Bor (List ℕ)) → AllByRecursion (λ y. slice_cmp nat_cmp k y ≡ Less) (map (λ n. n.now) ns) → j < length ns → slice_cmp nat_cmp k (slice_index_or ns j d).now ≡ Less
below_at k [] j d h within = absurd (omega arith)
below_at k (n ∷ ns) zero d h within = h.0
below_at k (n ∷ ns) (suc j) d h within = below_at k ns j d h.1 (omega arith)

rises : (ns : List (Bor (List ℕ))) (x : List ℕ) → Ascend (map (λ n. n.now) ns) → IsNonDecreasingBy (λ y. ordering_index (slice_cmp nat_cmp y.now x)) ns
unfolding IsStrictlySortedBy
rises [] x h i j d le within = absurd (omega arith)
rises (n ∷ ns) x h zero zero d le within = omega arith
rises (n ∷ ns) x h zero (suc j) d le within = rises_at _ _ n.now (slice_index_or ns j d).now x refl refl (below_at n.now ns j d h.0 (omega arith))
rises (n ∷ ns) x h (suc i) zero d le within = absurd (omega arith)
rises (n ∷ ns) x h (suc i) (suc j) d le within = rises ns x h.1 i j d (omega arith) (omega arith)

pub equal_from_same : (a x : List ℕ) → a ≡ x → slice_cmp nat_cmp a x ≡ Equal
equal_from_same a x e = ap (slice_cmp nat_cmp a) (sym e) ∙ tied_itself nat_list_cmp_total a

greater_is : Greater ≡ Equal → Less ≡ Equal
greater_is e = cc

other : (a x : List ℕ) (b : Bool) → bytes_eq a x ≡ b → (slice_cmp nat_cmp a x ≢ Equal) → b ≡ false
other a x false e h = refl
other a x true e h = absurd (h (equal_from_same a x ((bytes_eq-Decides a x).0 e)))

none_among : (ns : List (Bor (List ℕ))) (x : List ℕ) → ((k : ℕ) (d : Bor (List ℕ)) → k < length ns → slice_cmp nat_cmp (slice_index_or ns k d).now x ≢ Equal) → is_among (map (λ n. n.now) ns) x ≡ false
none_among [] x h = refl
none_among (n ∷ ns) x h = rw (other n.now x (bytes_eq n.now x) refl (h zero n (omega arith))) (none_among ns x (λ k d within. h (suc k) d (omega arith)))

apart_at : (ns : List (Bor (List ℕ))) (x : List ℕ) (i : ℕ) → IsPartitionPoint (λ y. slice_cmp nat_cmp y.now x ≡ Less) (λ y. slice_cmp nat_cmp y.now x ≡ Greater) ns i
    → (k : ℕ) (d : Bor (List ℕ)) → k < length ns → slice_cmp nat_cmp (slice_index_or ns k d).now x ≢ Equal
apart_at ns x i h k d within same = elim (cases_lt k i) [
  | inl before ↦ less≢equal (sym (h.0 k d (omega arith) before) ∙ same)
  | inr behind ↦ less≢equal (greater_is (sym (h.1 k d (omega arith) within) ∙ same))
]

pub not_found : (ns : List (Bor (List ℕ))) (x : List ℕ) (i : ℕ) → Ascend (map (λ n. n.now) ns)
    → (IsNonDecreasingBy (λ y. ordering_index (slice_cmp nat_cmp y.now x)) ns → IsPartitionPoint (λ y. slice_cmp nat_cmp y.now x ≡ Less) (λ y. slice_cmp nat_cmp y.now x ≡ Greater) ns i) → is_among (map (λ n. n.now) ns) x ≡ false
not_found ns x i h part = none_among ns x (apart_at ns x i (part (rises ns x h)))

pub some_same : (n x : List ℕ) → Some n ≡ Some x → n ≡ x
some_same n x h = cc

-- what stands somewhere is among them
pub get_among : (ns : List (List ℕ)) (i : ℕ) (x : List ℕ) → slice_get ns i ≡ Some x → is_among ns x ≡ true
get_among [] i x h = absurd (some≢none x (sym h))
get_among (n ∷ ns) zero x h = or_left (bytes_eq n x) (is_among ns x) ((bytes_eq-Decides n x).1 (some_same n x h))
get_among (n ∷ ns) (suc i) x h = or_right (bytes_eq n x) (is_among ns x) (get_among ns i x h)
