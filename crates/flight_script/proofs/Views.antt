-- JSON as lists beside the values that it is kept in.
use Rattle.std.proofs.Common.{◌≡◌, ℕ, List, [], ◌∷◌, map, refl, sym, ◌∙◌, ap, Some, String, Vec, Global, BTreeMap, Bor, Bool}
use Rattle.std.specs.Prelude.{◌||◌}
use Rattle.std.specs.List.{list_all, list_any}
use Rattle.std.specs.Str.{bytes_eq}
use Rattle.std.proofs.lemmas.List.Folds.{list_all-map}
use Rattle.serde_json.specs.View.{view, items_view, members_view}
use Rattle.serde_json.specs.declared.value.Value.{Value, Array, Object}
use Rattle.serde_json.proofs.Views.{view-Array, view-Object}
use Rattle.flight_script.specs.Json.{items, members, as_list, as_members, is_among}
use Rattle.flight_script.specs.Entries.{entry, entries}

pub items-view : (vs : List Value) → items (items_view vs) ≡ map view vs
items-view [] = refl
items-view (v ∷ vs) = ap (λ ds. view v ∷ ds) (items-view vs)

pub members-view : (es : List (String Global × Value)) → members (members_view es) ≡ entries es
members-view [] = refl
members-view (e ∷ es) = ap (λ ms. entry e ∷ ms) (members-view es)

pub view_as_list : (v : Vec Value Global) → as_list (view (Array v)) ≡ Some (map view v.items)
view_as_list v = ap as_list (view-Array v) ∙ ap Some (items-view v.items)

pub view_as_members : (m : BTreeMap (String Global) Value) → as_members (view (Object m)) ≡ Some (entries m.entries)
view_as_members m = ap as_members (view-Object m) ∙ ap Some (members-view m.entries)

pub among_map : (names : List (Bor (List ℕ))) (name : List ℕ) (r : Bool) → r ≡ list_any (λ n. bytes_eq n.now name) names → r ≡ is_among (map (λ n. n.now) names) name
among_map [] name r e = e
among_map (n ∷ names) name r e = e ∙ ap (λ b. bytes_eq n.now name || b) (among_map names name _ refl)

pub all_map : {A B : Type 0} (p : B → Bool) (f : A → B) (xs : List A) (r : Bool) → r ≡ list_all (λ x. p (f x)) xs → r ≡ list_all p (map f xs)
all_map p f xs r e = e ∙ sym (list_all-map p f xs)
