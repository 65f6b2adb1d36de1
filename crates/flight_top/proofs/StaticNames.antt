-- Properties by name: their JSON, and names of which none stands twice.
use Rattle.std.proofs.Common.{◌≡◌, ◌≢◌, ℕ, zero, suc, ◌<◌, List, [], ◌∷◌, length, refl, sym, ◌∙◌, ap, subst, arith, Option, Some, None, slice_index_or, All}
use Rattle.std.specs.Prelude.{Contains}
use Rattle.std.specs.declared.cmp.Ordering.{Ordering}
use Rattle.std.specs.declared.cmp.Ordering.TheVariants.{Less, Equal, Greater}
use Rattle.std.specs.Ordering.{nat_cmp, match_ordering}
use Rattle.std.specs.Cmp.Lexicographic.{slice_cmp}
use Rattle.std.specs.List.{AllPairs, AllByRecursion}
use Rattle.std.proofs.lemmas.List.Elements.{All-from_recursion, recursion_from_All}
use Rattle.std.proofs.lemmas.List.Kept.{AllPairs-cons}
use Rattle.serde_json.specs.Data as json
use Rattle.serde_json.specs.Data.{Data, Members}
use Rattle.serde_json.specs.Find.{get_member}
use Rattle.serde_json.proofs.Views.{get_member-put, get_member-put_other}
use Rattle.flight_top.specs.Static.{Static, Props, no_props, prop_and, names, AreApart}
use Rattle.flight_top.specs.Drawn.{put}
use Rattle.flight_top.specs.StaticReader.{json_of, members_json}

-- ---- the JSON of properties

members_json-match : (o : Ordering) (a b c : Props) → members_json (match_ordering o a b c) ≡ match_ordering o (members_json a) (members_json b) (members_json c)
members_json-match Less a b c = refl
members_json-match Equal a b c = refl
members_json-match Greater a b c = refl

pub members_json-put : (k : List ℕ) (t : Static) (props : Props) → members_json (put k t props) ≡ json.put k (json_of t) (members_json props)
members_json-put k t no_props = refl
members_json-put k t (prop_and l u props) = members_json-match (slice_cmp nat_cmp k l) _ _ _ ∙ rw (members_json-put k t props) refl

-- ---- names of which none stands twice

-- the name is none of those
abbrev pub Differs : List ℕ → Props → Type 0
Differs k no_props = Unit {0}
Differs k (prop_and named value props) = (k ≢ named) × Differs k props

abbrev pub Apart : Props → Type 0
Apart no_props = Unit {0}
Apart (prop_and named value props) = Differs named props × Apart props

-- none of the names is there yet
abbrev pub AreNew : Members → Props → Type 0
AreNew found no_props = Unit {0}
AreNew found (prop_and named value props) = (get_member named found ≡ None) × AreNew found props

pub new_after : (k : List ℕ) (d : Data) (found : Members) (props : Props) → AreNew (json.put k d found) props → Differs k props × AreNew found props
new_after k d found no_props h = (tt, tt)
new_after k d found (prop_and named value props) h =
    let rest = new_after k d found props h.1 in
    let there : (m : List ℕ) → k ≡ m → get_member m (json.put k d found) ≡ Some d = λ m e. ap (λ x. get_member x (json.put k d found)) (sym e) ∙ get_member-put k d found in
    let apart : k ≢ named = λ e. let some = there named e in let none = h.0 in cc in
    ((apart, rest.0), (sym (get_member-put_other named k d found (λ e. apart (sym e))) ∙ h.0, rest.1))

pub new_before : (k : List ℕ) (d : Data) (found : Members) (props : Props) → Differs k props → AreNew found props → AreNew (json.put k d found) props
new_before k d found no_props h n = tt
new_before k d found (prop_and named value props) h n = (get_member-put_other named k d found (λ e. h.0 (sym e)) ∙ n.0, new_before k d found props h.1 n.1)

pub all_new : (props : Props) → AreNew json.no_members props
all_new no_props = tt
all_new (prop_and named value props) = (refl, all_new props)

-- ---- the same by index

differs_all : (k : List ℕ) (props : Props) → Differs k props → AllByRecursion (λ b. k ≢ b) (names props)
differs_all k no_props h = tt
differs_all k (prop_and named value props) h = (h.0, differs_all k props h.1)

all_differs : (k : List ℕ) (props : Props) → AllByRecursion (λ b. k ≢ b) (names props) → Differs k props
all_differs k no_props h = tt
all_differs k (prop_and named value props) h = (h.0, all_differs k props h.1)

pub apart_pairs : (props : Props) → Apart props → AreApart props
apart_pairs no_props h = λ i j d less within. absurd (omega arith)
apart_pairs (prop_and named value props) h =
    AllPairs-cons (λ a b. a ≢ b) named (names props) (All-from_recursion (λ b. named ≢ b) (names props) (differs_all named props h.0)) (apart_pairs props h.1)

pub pairs_apart : (props : Props) → AreApart props → Apart props
pairs_apart no_props h = tt
pairs_apart (prop_and named value props) h = (
  all_differs named props (recursion_from_All (λ b. named ≢ b) (names props) (λ k d within. h 0 (suc k) d (omega arith) (omega arith))),
  pairs_apart props (λ i j d less within. h (suc i) (suc j) d (omega arith) (omega arith)),
)

pub differs_absent : (k : List ℕ) (props : Props) → Differs k props → Contains (names props) k → ⊥
differs_absent k props h c = (All-from_recursion (λ b. k ≢ b) (names props) (differs_all k props h)) c.0 k c.1 (sym c.2)

pub absent_differs : (k : List ℕ) (props : Props) → (Contains (names props) k → ⊥) → Differs k props
absent_differs k no_props h = tt
absent_differs k (prop_and named value props) h = (λ e. h (0, omega arith, sym e), absent_differs k props (λ c. h (suc c.0, omega (arith, c.1), c.2)))
