-- Values that are no node.
use Rattle.std.proofs.Common.{◌≡◌, ◌≢◌, ℕ, suc, List, [], ◌∷◌, length, map, refl, sym, ◌∙◌, subst, arith, Option, Some, None, Err, Ordering, Less, Equal, Greater, nat_cmp, true, false, Bool}
use Rattle.std.specs.Prelude.{codes, option_and_then, if◌then◌else◌, ◌==◌}
use Rattle.std.specs.List.{AllZip}
use Rattle.std.specs.Cmp.Lexicographic.{slice_cmp}
use Rattle.std.specs.Ordering.{match_ordering, is_eq}
use Rattle.std.proofs.lemmas.Map.Text.{is_eq-slice_cmp}
use Rattle.std.specs.Str.{bytes_eq}
use Rattle.std.proofs.lemmas.Slice.Eq.{bytes_eq-Decides}
use Rattle.std.proofs.lemmas.Bool.{false≢true, eqb-true}
use Rattle.serde_json.specs.Data.{Data, null, boolean, number, string, array, object, no_members, member}
use Rattle.serde_json.specs.Find.{get}
use Rattle.serde_json.specs.View.{view}
use Rattle.serde_json.specs.declared.value.Value.{Value}
use Rattle.flight_value.specs.declared.graph.Slot.{Slot}
use Rattle.flight_value.specs.declared.graph.Prop.{Prop}
use Rattle.flight_value.specs.declared.graph.Pair.{Pair}
use Rattle.flight_value.specs.declared.graph.Node.{Node}
use Rattle.flight_value.specs.declared.graph.Node.TheVariants as node
use Rattle.flight_script.specs.declared.unfit.Unfit.{Unfit}
use Rattle.flight_script.specs.declared.unfit.Unfit.TheVariants.{Form, Memory}
use Rattle.flight_script.specs.Answer.{Answers}
use Rattle.flight_script.specs.Json.{Member, members, member_count, only, as_list, as_members}
use Rattle.flight_script.specs.Slots.{IsSlot, IsProp, IsPair, IsNode, Each, list_in, members_in}
use Rattle.flight_script.proofs.Marks.{some≢none}

-- ---- entries and properties

pub not_two : (count : ℕ) (vs : List Value) → ((a b : Value) → vs ≢ a ∷ b ∷ []) → (p : Pair) → AllZip (IsSlot count) (map view vs) (p.key ∷ p.value ∷ []) → ⊥
not_two count [] none p h = h
not_two count (a ∷ []) none p h = h.1
not_two count (a ∷ b ∷ []) none p h = none a b refl
not_two count (a ∷ b ∷ c ∷ vs) none p h = h.1.1

pub unfit_prop : (count : ℕ) (m : Member) (e : Unfit) → Answers (IsSlot count m.1) (Err e) → Answers (IsProp count m) (Err e)
unfit_prop count m Form none = λ p h. none p.slot h.1
unfit_prop count m Memory none = tt

-- ---- the only member

found_is : (o : Ordering) (x : Data) (e : Data) → match_ordering o None (Some e) None ≡ Some x → is_eq o ≡ true
found_is Less x e h = absurd (some≢none x (sym h))
found_is Equal x e h = refl
found_is Greater x e h = absurd (some≢none x (sym h))

same_name : (a k : List ℕ) (e x : Data) → get a (object (member k e no_members)) ≡ Some x → a ≡ k
same_name a k e x h = (bytes_eq-Decides a k).0 (sym (is_eq-slice_cmp a k) ∙ found_is (slice_cmp nat_cmp a k) x e h)

not_one : (b : Bool) (o : Option Data) (x : Data) → (b ≡ true → ⊥) → (if b then o else None) ≡ Some x → ⊥
not_one false o x no_one h = some≢none x (sym h)
not_one true o x no_one h = no_one refl

many : (k : ℕ) → (suc (suc k) == 1) ≡ true → ⊥
many k h = let e = eqb-true (suc (suc k)) 1 h in omega (arith, e)

-- an object has one only member
only_same : (d : Data) (a b : List ℕ) (x y : Data) → only a d ≡ Some x → only b d ≡ Some y → a ≡ b
only_same null a b x y h k = absurd (some≢none x (sym h))
only_same (boolean c) a b x y h k = absurd (some≢none x (sym h))
only_same (number c) a b x y h k = absurd (some≢none x (sym h))
only_same (string c) a b x y h k = absurd (some≢none x (sym h))
only_same (array c) a b x y h k = absurd (some≢none x (sym h))
only_same (object no_members) a b x y h k = absurd (some≢none x (sym h))
only_same (object (member n e no_members)) a b x y h k = same_name a n e x h ∙ sym (same_name b n e y k)
only_same (object (member n e (member m f ms))) a b x y h k = absurd (not_one (member_count (object (member n e (member m f ms))) == 1) (get a (object (member n e (member m f ms)))) x (many (length (members ms))) h)

then_some : {A B : Type 0} (f : A → Option B) (o : Option A) (y : B) → option_and_then f o ≡ Some y → (x : A) × (o ≡ Some x)
then_some f None y h = absurd (some≢none y (sym h))
then_some f (Some x) y h = (x, refl)

pub each_some : {A B : Type 0} (R : A → B → Type 0) (o : Option (List A)) (ys : List B) → Each R o ys → (xs : List A) × (o ≡ Some xs)
each_some R None ys h = absurd h
each_some R (Some xs) ys h = (xs, refl)

-- forms under two names exclude one another
apart : {A B : Type 0} (f : Data → Option A) (g : Data → Option B) (d : Data) (a b : List ℕ) (x : A) (y : B) → bytes_eq a b ≡ false → option_and_then f (only a d) ≡ Some x → option_and_then g (only b d) ≡ Some y → ⊥
apart f g d a b x y differ h k =
    let first = then_some f (only a d) x h in
    let second = then_some g (only b d) y k in
    false≢true (sym differ ∙ (bytes_eq-Decides a b).1 (only_same d a b first.0 second.0 first.1 second.1))

-- ---- nodes

pub apart_each : {A B C : Type 0} (f : Data → Option A) (g : Data → Option (List B)) (R : B → C → Type 0) (d : Data) (a b : List ℕ) (x : A) (ys : List C) → bytes_eq a b ≡ false → Some x ≡ option_and_then f (only a d) → Each R (option_and_then g (only b d)) ys → ⊥
apart_each f g R d a b x ys differ h k =
    let found = each_some R (option_and_then g (only b d)) ys k in
    apart f g d a b x found.0 differ (sym h) found.1

none_each : {A B : Type 0} (R : A → B → Type 0) (o : Option (List A)) (xs : List A) (ys : List B) → Some xs ≡ o → ((ys : List B) → ¬ AllZip R xs ys) → Each R o ys → ⊥
none_each R o xs ys is none h = none ys (subst (λ p. Each R p ys) (sym is) h)

array_none : (count : ℕ) (d : Data) (xs : List Data) → Some xs ≡ list_in (codes "array") d → ((ys : List Slot) → ¬ AllZip (IsSlot count) xs ys) → (n : Node) → IsNode count d n → ⊥
array_none count d xs is none (node.Array ys) h = none_each (IsSlot count) (list_in (codes "array") d) xs ys is none h
array_none count d xs is none (node.Object ys) h = apart_each as_list as_members (IsProp count) d (codes "array") (codes "object") xs ys refl is h
array_none count d xs is none (node.Map ys) h = apart_each as_list as_list (IsPair count) d (codes "array") (codes "map") xs ys refl is h
array_none count d xs is none (node.Set ys) h = apart_each as_list as_list (IsSlot count) d (codes "array") (codes "set") xs ys refl is h
array_none count d xs is none (node.Element t k p) h = h
array_none count d xs is none (node.Promise o) h = h
array_none count d xs is none (node.Stream f i e) h = h
array_none count d xs is none (node.Action i b) h = h

pub array_unfit : (count : ℕ) (d : Data) (xs : List Data) (e : Unfit) → Some xs ≡ list_in (codes "array") d → Answers (AllZip (IsSlot count) xs) (Err e) → Answers (IsNode count d) (Err e)
array_unfit count d xs Form is none = array_none count d xs is none
array_unfit count d xs Memory is none = tt

object_none : (count : ℕ) (d : Data) (xs : List Member) → Some xs ≡ members_in (codes "object") d → ((ys : List Prop) → ¬ AllZip (IsProp count) xs ys) → (n : Node) → IsNode count d n → ⊥
object_none count d xs is none (node.Array ys) h = apart_each as_members as_list (IsSlot count) d (codes "object") (codes "array") xs ys refl is h
object_none count d xs is none (node.Object ys) h = none_each (IsProp count) (members_in (codes "object") d) xs ys is none h
object_none count d xs is none (node.Map ys) h = apart_each as_members as_list (IsPair count) d (codes "object") (codes "map") xs ys refl is h
object_none count d xs is none (node.Set ys) h = apart_each as_members as_list (IsSlot count) d (codes "object") (codes "set") xs ys refl is h
object_none count d xs is none (node.Element t k p) h = h
object_none count d xs is none (node.Promise o) h = h
object_none count d xs is none (node.Stream f i e) h = h
object_none count d xs is none (node.Action i b) h = h

pub object_unfit : (count : ℕ) (d : Data) (xs : List Member) (e : Unfit) → Some xs ≡ members_in (codes "object") d → Answers (AllZip (IsProp count) xs) (Err e) → Answers (IsNode count d) (Err e)
object_unfit count d xs Form is none = object_none count d xs is none
object_unfit count d xs Memory is none = tt

map_none : (count : ℕ) (d : Data) (xs : List Data) → Some xs ≡ list_in (codes "map") d → ((ys : List Pair) → ¬ AllZip (IsPair count) xs ys) → (n : Node) → IsNode count d n → ⊥
map_none count d xs is none (node.Array ys) h = apart_each as_list as_list (IsSlot count) d (codes "map") (codes "array") xs ys refl is h
map_none count d xs is none (node.Object ys) h = apart_each as_list as_members (IsProp count) d (codes "map") (codes "object") xs ys refl is h
map_none count d xs is none (node.Map ys) h = none_each (IsPair count) (list_in (codes "map") d) xs ys is none h
map_none count d xs is none (node.Set ys) h = apart_each as_list as_list (IsSlot count) d (codes "map") (codes "set") xs ys refl is h
map_none count d xs is none (node.Element t k p) h = h
map_none count d xs is none (node.Promise o) h = h
map_none count d xs is none (node.Stream f i e) h = h
map_none count d xs is none (node.Action i b) h = h

pub map_unfit : (count : ℕ) (d : Data) (xs : List Data) (e : Unfit) → Some xs ≡ list_in (codes "map") d → Answers (AllZip (IsPair count) xs) (Err e) → Answers (IsNode count d) (Err e)
map_unfit count d xs Form is none = map_none count d xs is none
map_unfit count d xs Memory is none = tt

set_none : (count : ℕ) (d : Data) (xs : List Data) → Some xs ≡ list_in (codes "set") d → ((ys : List Slot) → ¬ AllZip (IsSlot count) xs ys) → (n : Node) → IsNode count d n → ⊥
set_none count d xs is none (node.Array ys) h = apart_each as_list as_list (IsSlot count) d (codes "set") (codes "array") xs ys refl is h
set_none count d xs is none (node.Object ys) h = apart_each as_list as_members (IsProp count) d (codes "set") (codes "object") xs ys refl is h
set_none count d xs is none (node.Map ys) h = apart_each as_list as_list (IsPair count) d (codes "set") (codes "map") xs ys refl is h
set_none count d xs is none (node.Set ys) h = none_each (IsSlot count) (list_in (codes "set") d) xs ys is none h
set_none count d xs is none (node.Element t k p) h = h
set_none count d xs is none (node.Promise o) h = h
set_none count d xs is none (node.Stream f i e) h = h
set_none count d xs is none (node.Action i b) h = h

pub set_unfit : (count : ℕ) (d : Data) (xs : List Data) (e : Unfit) → Some xs ≡ list_in (codes "set") d → Answers (AllZip (IsSlot count) xs) (Err e) → Answers (IsNode count d) (Err e)
set_unfit count d xs Form is none = set_none count d xs is none
set_unfit count d xs Memory is none = tt
