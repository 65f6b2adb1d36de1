-- What was visited has one list of places or one first fault.
use Rattle.std.proofs.Common.{◌≡◌, ℕ, List, [], ◌∷◌, ◌++◌, refl, sym, ◌∙◌, ap, subst, inl, inr, true, false, Bool}
use Rattle.std.specs.Prelude.{◌&&◌, ◌||◌, is_some, Option, Some, None}
use Rattle.std.proofs.lemmas.Bool.{false≢true}
use Rattle.serde_json.specs.Data.{Num, unsigned, negative, float, Data, null, boolean, number, string, array, object, Items, no_items, item, Members, no_members, member}
use Rattle.serde_json.specs.Read.{read}
use Rattle.serde_json.specs.Find.{is_float}
use Rattle.serde_json.specs.Written.{has_float, items_have_float, members_have_float, compact_text}
use Rattle.flight_text.proofs.Lines.{same_mark}
use Rattle.flight_row.specs.declared.row.Row.{Row}
use Rattle.flight_row.specs.declared.row.RowKind.{RowKind}
use Rattle.flight_text.specs.Whole.{whole_of, has_whole_numbers, items_have_whole_numbers, members_have_whole_numbers}
use Rattle.flight_value.specs.declared.graph.Atom.TheVariants as atom
use Rattle.flight_meaning.specs.declared.place.Place.{Place}
use Rattle.flight_meaning.specs.declared.place.Place.TheVariants as place
use Rattle.flight_place.specs.declared.manner.Manner.{Manner}
use Rattle.flight_meaning.specs.declared.place.PlaceTree.{PlaceTree}
use Rattle.flight_place.specs.declared.fault.PlaceKind.{PlaceKind}
use Rattle.flight_place.specs.declared.fault.PlaceKind.TheVariants.{BadModel}
use Rattle.flight_place.specs.declared.fault.PlaceFault.{PlaceFault}
use Rattle.flight_place.specs.declared.fault.PlaceFault.TheVariants.{Fault, Memory}
use Rattle.flight_place.specs.Tokens.{place_of}
use Rattle.flight_place.specs.Places.{Visit, placed, token, faulty, visits, HasPlace, HavePlaces, IsFault, IsFirstFault}
use Rattle.flight_place.specs.Faults.{Refuses, IsUnfit, IsUnread, Adds}
use Rattle.flight_place.specs.Rows.{model_visits, import_visit, IsTree}

has-one : (manner : Manner) (v : Visit) (p q : Place) → HasPlace manner v p → HasPlace manner v q → p ≡ q
has-one manner (placed r) p q h k = h ∙ sym k
has-one manner (token n text) p q h k = h.is_place ∙ (ap place_of (same_mark text h.spelled k.spelled h.spells k.spells) ∙ sym k.is_place)
has-one manner (faulty kind) p q h k = absurd h

have-one : (manner : Manner) (vs : List Visit) (ps qs : List Place) → HavePlaces manner vs ps → HavePlaces manner vs qs → ps ≡ qs
have-one manner [] [] [] h k = refl
have-one manner [] [] (q ∷ qs) h k = absurd k
have-one manner [] (p ∷ ps) qs h k = absurd h
have-one manner (v ∷ vs) [] qs h k = absurd h
have-one manner (v ∷ vs) (p ∷ ps) [] h k = absurd k
have-one manner (v ∷ vs) (p ∷ ps) (q ∷ qs) h k = ap (λ x. x ∷ ps) (has-one manner v p q h.0 k.0) ∙ ap (λ xs. q ∷ xs) (have-one manner vs ps qs h.1 k.1)

has-no_fault : (manner : Manner) (v : Visit) (p : Place) (kind : PlaceKind) → HasPlace manner v p → IsFault manner v kind → ⊥
has-no_fault manner (placed r) p kind h f = f
has-no_fault manner (token n text) p kind h f = f.0 p h
has-no_fault manner (faulty k) p kind h f = h

pub have-no_fault : (manner : Manner) (vs : List Visit) (ps : List Place) (kind : PlaceKind) → HavePlaces manner vs ps → IsFirstFault manner vs kind → ⊥
have-no_fault manner [] ps kind h f = f
have-no_fault manner (v ∷ vs) [] kind h f = h
have-no_fault manner (v ∷ vs) (p ∷ ps) kind h (inl f) = has-no_fault manner v p kind h.0 f
have-no_fault manner (v ∷ vs) (p ∷ ps) kind h (inr r) = have-no_fault manner vs ps kind h.1 r.2

fault-one : (manner : Manner) (v : Visit) (j k : PlaceKind) → IsFault manner v j → IsFault manner v k → j ≡ k
fault-one manner (placed r) j k f g = absurd f
fault-one manner (token n text) j k f g = f.1 ∙ sym g.1
fault-one manner (faulty kind) j k f g = f ∙ sym g

pub first-one : (manner : Manner) (vs : List Visit) (j k : PlaceKind) → IsFirstFault manner vs j → IsFirstFault manner vs k → j ≡ k
first-one manner [] j k f g = absurd f
first-one manner (v ∷ vs) j k (inl f) (inl g) = fault-one manner v j k f g
first-one manner (v ∷ vs) j k (inl f) (inr r) = absurd (has-no_fault manner v r.0 j r.1 f)
first-one manner (v ∷ vs) j k (inr r) (inl g) = absurd (has-no_fault manner v r.0 k r.1 g)
first-one manner (v ∷ vs) j k (inr r) (inr s) = first-one manner vs j k r.2 s.2

abbrev tree : RowKind → List Place → PlaceTree
tree kind places = record { kind = kind; places = places }

pub tree-one : (manner : Manner) (row : Row) (t u : PlaceTree) → IsTree manner row t → IsTree manner row u → t ≡ u
tree-one manner row t u h k =
    ap (λ x. tree x t.places) (h.same_kind ∙ sym k.same_kind) ∙ ap (λ ps. tree u.kind ps) (have-one manner _ t.places u.places h.have k.have)

-- ---- rows of one place

pub single_has : (manner : Manner) (v : Visit) (p : Place) (ps : List Place) → v ≡ placed p → ps ≡ p ∷ [] → HavePlaces manner (v ∷ []) ps
single_has manner v p ps is_v is_ps =
    subst (λ xs. HavePlaces manner (v ∷ []) xs) (sym is_ps) (subst (λ w. HavePlaces manner (w ∷ []) (p ∷ [])) (sym is_v) (refl, tt))

pub single_refuses : (manner : Manner) (v : Visit) (e : PlaceFault) → IsUnfit v e → Refuses manner (v ∷ []) e
single_refuses manner v (Fault kind) is = subst (λ w. IsFirstFault manner (w ∷ []) kind) (sym is) (inl refl)
single_refuses manner v Memory is = tt

-- ---- JSON

-- the places that came behind none are all
pub model-has : (manner : Manner) (text : List ℕ) (old new : List Place) (d : Data) → read text ≡ Some d → old ≡ [] → Adds manner old new (visits manner 0 d) → HavePlaces manner (model_visits manner (read text)) new
model-has manner text old new d json is_old a =
    subst (λ o. HavePlaces manner (model_visits manner o) new) (sym json)
    (subst (λ xs. HavePlaces manner (visits manner 0 d) xs) (sym (a.added ∙ ap (λ xs. xs ++ a.more) is_old)) a.have)

pub model-refuses : (manner : Manner) (text : List ℕ) (d : Data) (e : PlaceFault) → read text ≡ Some d → Refuses manner (visits manner 0 d) e → Refuses manner (model_visits manner (read text)) e
model-refuses manner text d e json f = subst (λ o. Refuses manner (model_visits manner o) e) (sym json) f

pub model-unread : (manner : Manner) (text : List ℕ) (e : PlaceFault) → IsUnread text e → Refuses manner (model_visits manner (read text)) e
model-unread manner text (Fault kind) h = subst (λ o. IsFirstFault manner (model_visits manner o) kind) (sym h.0) (inl h.1)
model-unread manner text Memory h = tt

pub unread-unfit : (text : List ℕ) (f : Option Data → Visit) (e : PlaceFault) → f None ≡ faulty BadModel → IsUnread text e → IsUnfit (f (read text)) e
unread-unfit text f (Fault kind) none h = ap f h.0 ∙ (none ∙ ap faulty (sym h.1))
unread-unfit text f Memory none h = tt

-- ---- whole numbers are no floats

both : (a b : Bool) → (a && b) ≡ true → (a ≡ true) × (b ≡ true)
both true b h = (refl, h)
both false b h = absurd (false≢true h)

neither : (a b : Bool) → a ≡ false → b ≡ false → (a || b) ≡ false
neither a b h k = rw (h, k) refl

num-no_float : (x : Num) → is_some (whole_of x) ≡ true → is_float x ≡ false
num-no_float (unsigned n) h = refl
num-no_float (negative z) h = refl
num-no_float (float x) h = absurd (false≢true h)

mutual
  pub whole-no_float : (d : Data) → has_whole_numbers d ≡ true → has_float d ≡ false
  whole-no_float null h = refl
  whole-no_float (boolean b) h = refl
  whole-no_float (number x) h = num-no_float x h
  whole-no_float (string s) h = refl
  whole-no_float (array ds) h = items-no_float ds h
  whole-no_float (object ms) h = members-no_float ms h

  items-no_float : (ds : Items) → items_have_whole_numbers ds ≡ true → items_have_float ds ≡ false
  items-no_float no_items h = refl
  items-no_float (item d ds) h = let p = both (has_whole_numbers d) (items_have_whole_numbers ds) h in neither _ _ (whole-no_float d p.0) (items-no_float ds p.1)

  members-no_float : (ms : Members) → members_have_whole_numbers ms ≡ true → members_have_float ms ≡ false
  members-no_float no_members h = refl
  members-no_float (member k d ms) h = let p = both (has_whole_numbers d) (members_have_whole_numbers ms) h in neither _ _ (whole-no_float d p.0) (members-no_float ms p.1)

-- the compact text of whole numbers
pub import_is : (text out : List ℕ) (d : Data) → read text ≡ Some d → has_whole_numbers d ≡ true → (has_float d ≡ false → out ≡ compact_text d) → import_visit (read text) ≡ placed (place.Atom (atom.Import out))
import_is text out d json whole is_text =
    ap import_visit json ∙ rw whole (ap (λ t. placed (place.Atom (atom.Import t))) (sym (is_text (whole-no_float d whole))))
