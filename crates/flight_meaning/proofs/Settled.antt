-- What waits for no row never changes: a walk over more rows, back to fewer, and targets that are settled, pending ones too.
use Rattle.std.proofs.Common.{◌≡◌, ◌≢◌, ℕ, zero, suc, ◌≤◌, ◌⊎◌, inl, inr, is_some, if◌then◌else◌, List, [], ◌∷◌, ◌++◌, arith, codes, Option, Some, None, option_and_then, slice_get, refl, sym, ap, ◌∙◌, subst}
use Rattle.std.proofs.lemmas.Option.{none-some}
use Rattle.flight_value.specs.Store as store
use Rattle.flight_value.specs.Store.{Target}
use Rattle.flight_text.specs.declared.mark.Ref.{Ref}
use Rattle.flight_row.specs.declared.row.RowKind.{RowKind}
use Rattle.flight_row.specs.declared.row.RowKind.TheVariants as row
use Rattle.flight_meaning.specs.declared.place.Place.{Place}
use Rattle.flight_meaning.specs.declared.place.Place.TheVariants as place
use Rattle.flight_meaning.specs.declared.place.PlaceTree.{PlaceTree}
use Rattle.flight_meaning.specs.declared.place.PlacedRow.{PlacedRow}
use Rattle.flight_meaning.specs.Linked.{rows_of, Spot, place_at, first_place, beside, HasRowOf}
use Rattle.flight_meaning.specs.Resolve.{property, Path, Stand, to, Found, found, stream, not_yet, nowhere, Turn, on, ends, turn, after_turn, walk_by, Ends, IsThere, WaitsForNone}
use Rattle.flight_meaning.specs.Meaning.{Written, Identity, action_of, Token, map_token, set_token, entry, both, entries, slots_in, HasSlots, FailsWith, text_at, bound_at, reference_with, there, reference_in, reference_by, reference_of, pending, TokenLeads, LeadsHere, stand_of, Leads}
use Rattle.flight_meaning.specs.Lasting.{IsSettledHere, IsSettled}
use Rattle.flight_meaning.proofs.Walking.{turn_back, found_stops}
use Rattle.flight_meaning.proofs.MoreRows.{rows_of-first, place_row, places-stay, IsThereBy, there_turn, TurnsOn, turn-more, end-more, nowhere-more, endless-more}
use Rattle.flight_meaning.proofs.MoreMeaning.{slots-more, failure-more}

-- ---- a walk over more rows, back to fewer

-- within so many turns the walk waits for a row
abbrev pub WaitsWithin : ℕ → List PlacedRow → Stand → Type 0
WaitsWithin n rows s = (id : ℕ) × (path : Path) × (m : ℕ) × (m ≤ n) × (walk_by m rows s ≡ Some (not_yet id path))

-- it went the same way, or waited
pub back_by : (n : ℕ) (rows more : List PlacedRow) (s : Stand) (f : Found) → IsThere rows s → walk_by n (rows ++ more) s ≡ Some f → (walk_by n rows s ≡ Some f) ⊎ WaitsWithin n rows s
back_by zero rows more s f is h = absurd (none-some f h)
back_by (suc n) rows more s f is h = go (turn rows s) refl (there_turn rows s is) (turn-more rows more s) (λ t. back_by n rows more t f)
  where
    ended : (e : Found) → turn rows s ≡ ends e → turn (rows ++ more) s ≡ ends e → walk_by (suc n) rows s ≡ Some f
    ended e is turns = ap (after_turn (walk_by n rows)) is ∙ (sym (ap (after_turn (walk_by n (rows ++ more))) turns) ∙ h)

    later : (t : Stand) → turn rows s ≡ on t → (walk_by n rows t ≡ Some f) ⊎ WaitsWithin n rows t → (walk_by (suc n) rows s ≡ Some f) ⊎ WaitsWithin (suc n) rows s
    later t e (inl w) = inl (turn_back rows s t e n f w)
    later t e (inr w) =
        let most : w.2 ≤ n = w.3 in
        let within : suc w.2 ≤ suc n = omega (arith, most) in
        inr (w.0, w.1, suc w.2, within, turn_back rows s t e w.2 (not_yet w.0 w.1) w.4)

    go : (t : Turn) → turn rows s ≡ t → IsThereBy rows t → TurnsOn (rows ++ more) (IsThere rows s) t (turn (rows ++ more) s)
        → ((t : Stand) → IsThere rows t → walk_by n (rows ++ more) t ≡ Some f → (walk_by n rows t ≡ Some f) ⊎ WaitsWithin n rows t) → (walk_by (suc n) rows s ≡ Some f) ⊎ WaitsWithin (suc n) rows s
    go (on t) e there turns rest = later t e (rest t there (sym (ap (after_turn (walk_by n (rows ++ more))) turns) ∙ h))
    go (ends (found t)) e there turns rest = inl (ended (found t) e turns)
    go (ends (stream id)) e there turns rest = inl (ended (stream id) e turns)
    go (ends nowhere) e there turns rest = inl (ended nowhere e (turns is))
    go (ends (not_yet id path)) e there turns rest =
        let within : 1 ≤ suc n = omega arith in
        inr (id, path, 1, within, ap (after_turn (walk_by 0 rows)) e)

-- where a walk waits for no row, it ends over more rows as it did
pub ends-back : (rows more : List PlacedRow) (s : Stand) (f : Found) → IsThere rows s → WaitsForNone rows s → Ends (rows ++ more) s f → Ends rows s f
ends-back rows more s f is none w = go (back_by w.0 rows more s f is w.1)
  where
    go : (walk_by w.0 rows s ≡ Some f) ⊎ WaitsWithin w.0 rows s → Ends rows s f
    go (inl x) = (w.0, x)
    go (inr x) = absurd (none x.0 x.1 (x.2, x.4))

-- ---- Maps and Sets

entries-same : (rows more : List PlacedRow) (s : Spot) (ns : List ℕ) → HasRowOf rows s → entries (rows ++ more) s ns ≡ entries rows s ns
entries-same rows more s [] is = refl
entries-same rows more s (n ∷ ns) is =
    ap (λ o. both (entry s o) (entries (rows ++ more) s ns)) (places-stay rows more (beside s n) is)
    ∙ ap (λ es. both (entry s (place_at rows (beside s n))) es) (entries-same rows more s ns is)

slots_in-same : (token : Token) (rows more : List PlacedRow) (s : Spot) (o : Option Place) → HasRowOf rows s → slots_in token (rows ++ more) s o ≡ slots_in token rows s o
slots_in-same map_token rows more s (Some (place.Array numbers)) is = entries-same rows more s numbers is
slots_in-same set_token rows more s (Some (place.Array numbers)) is = refl
slots_in-same map_token rows more s None is = refl
slots_in-same set_token rows more s None is = refl
slots_in-same map_token rows more s (Some at) is = refl
slots_in-same set_token rows more s (Some at) is = refl

row_there : (rows : List PlacedRow) (s : Stand) (t : Spot) → Ends rows s (found t) → HasRowOf rows t
row_there rows s t w = let p = found_stops rows s t w in place_row rows t p.0 p.1

pub slots-back : (rows more : List PlacedRow) (token : Token) (r : Ref) (slots : List Written) → WaitsForNone rows (to r.id r.path) → HasSlots (rows ++ more) token r slots → HasSlots rows token r slots
slots-back rows more token r slots none (found s, w, h) =
    let e = ends-back rows more (to r.id r.path) (found s) tt none w in
    let is = row_there rows (to r.id r.path) s e in
    (found s, e, sym (slots_in-same token rows more s (place_at rows s) is) ∙ (sym (ap (slots_in token (rows ++ more) s) (places-stay rows more s is)) ∙ h))
slots-back rows more token r slots none (stream id, w, h) = absurd (none-some slots h)
slots-back rows more token r slots none (not_yet id path, w, h) = absurd (none-some slots h)
slots-back rows more token r slots none (nowhere, w, h) = absurd (none-some slots h)

pub failure-back : (rows more : List PlacedRow) (r : Ref) (digest : List ℕ) → WaitsForNone rows (to r.id r.path) → FailsWith (rows ++ more) r digest → FailsWith rows r digest
failure-back rows more r digest none w =
    let e = ends-back rows more (to r.id r.path) (found w.0) tt none w.1 in
    (w.0, e, sym (places-stay rows more w.0 (row_there rows (to r.id r.path) w.0 e)) ∙ w.2)

-- ---- server references

bound-same : (rows more : List PlacedRow) (s : Spot) (o : Option ℕ) → HasRowOf rows s → option_and_then (λ n. bound_at (beside s n) (there (rows ++ more) s n)) o ≡ option_and_then (λ n. bound_at (beside s n) (there rows s n)) o
bound-same rows more s None is = refl
bound-same rows more s (Some n) is = ap (bound_at (beside s n)) (places-stay rows more (beside s n) is)

text-same : (rows more : List PlacedRow) (s : Spot) (o : Option ℕ) → HasRowOf rows s → option_and_then (λ n. text_at (there (rows ++ more) s n)) o ≡ option_and_then (λ n. text_at (there rows s n)) o
text-same rows more s None is = refl
text-same rows more s (Some n) is = ap text_at (places-stay rows more (beside s n) is)

reference_in-same : (rows more : List PlacedRow) (s : Spot) (o : Option Place) → HasRowOf rows s → reference_in (rows ++ more) s o ≡ reference_in rows s o
reference_in-same rows more s (Some (place.Object props)) is =
    ap (λ x. reference_with x (option_and_then (λ n. bound_at (beside s n) (there (rows ++ more) s n)) (property props (codes "bound")))) (text-same rows more s (property props (codes "id")) is)
    ∙ ap (λ y. reference_with (option_and_then (λ n. text_at (there rows s n)) (property props (codes "id"))) y) (bound-same rows more s (property props (codes "bound")) is)
reference_in-same rows more s None is = refl
reference_in-same rows more s (Some at) is = refl

reference_by-same : (rows more : List PlacedRow) (id : ℕ) (kind : RowKind) → HasRowOf rows (first_place id) → reference_by (rows ++ more) id kind ≡ reference_by rows id kind
reference_by-same rows more id row.Model is =
    ap (reference_in (rows ++ more) (first_place id)) (places-stay rows more (first_place id) is) ∙ reference_in-same rows more (first_place id) (place_at rows (first_place id)) is
reference_by-same rows more id kind is = refl

-- a server reference is that of the first row of its id
pub reference-same : (rows more : List PlacedRow) (id : ℕ) → rows_of id rows ≢ [] → reference_of (rows ++ more) id ≡ reference_of rows id
reference-same rows more id some = go (rows_of id rows) refl
  where
    go : (ts : List PlaceTree) → rows_of id rows ≡ ts → reference_of (rows ++ more) id ≡ reference_of rows id
    go [] e = absurd (some e)
    go (t ∷ ts) e =
        ap (λ us. option_and_then (λ t. reference_by (rows ++ more) id t.kind) (slice_get us 0)) (rows_of-first id rows more t ts e)
        ∙ (reference_by-same rows more id t.kind (t, ap (λ us. slice_get us 0) e)
        ∙ sym (ap (λ us. option_and_then (λ t. reference_by rows id t.kind) (slice_get us 0)) e))

-- ---- where a slot leads

token-stays : (rows more : List PlacedRow) (token : Token) (s : Spot) (r : Ref) (x : Target Identity) → WaitsForNone rows (to r.id r.path) → TokenLeads rows token s r x → TokenLeads (rows ++ more) token s r x
token-stays rows more token s r x none (inl a) = inl (a.0, slots-more rows more token r a.0 a.1, a.2)
token-stays rows more token s r x none (inr (inl a)) = inr (inl (a.0, failure-more rows more r a.0 a.1, a.2))
token-stays rows more token s r x none (inr (inr a)) =
    inr (inr (λ slots h. a.0 slots (slots-back rows more token r slots none h), λ digest h. a.1 digest (failure-back rows more r digest none h), a.2))

here-stays : (rows more : List PlacedRow) (s : Spot) (o : Option Place) (x : Target Identity) → IsSettledHere rows o → LeadsHere rows s o x → LeadsHere (rows ++ more) s o x
here-stays rows more s (Some (place.Map r)) x none h = token-stays rows more map_token s r x none h
here-stays rows more s (Some (place.Set r)) x none h = token-stays rows more set_token s r x none h
here-stays rows more s (Some (place.Action id)) x some h = h ∙ ap (λ o. if is_some o then store.node_at (action_of id) else pending) (sym (reference-same rows more id some))
here-stays rows more s None x none h = h
here-stays rows more s (Some at) x none h = h

-- what is settled never changes
pub settled-stays : (rows more : List PlacedRow) (w : Written) (x : Target Identity) → IsSettled rows w → Leads rows w x → Leads (rows ++ more) w x
settled-stays rows more w x settled (inl (found s, a, h)) =
    let is = row_there rows (stand_of w) s a in
    inl (
      found s,
      end-more rows more (stand_of w) (found s) tt a,
      subst (λ o. LeadsHere (rows ++ more) s o x) (sym (places-stay rows more s is)) (here-stays rows more s (place_at rows s) x (settled.2 s a) h),
    )
settled-stays rows more w x settled (inl (stream id, a, h)) = inl (stream id, end-more rows more (stand_of w) (stream id) tt a, h)
settled-stays rows more w x settled (inl (not_yet id path, a, h)) = absurd (settled.1 id path a)
settled-stays rows more w x settled (inl (nowhere, a, h)) = inl (nowhere, nowhere-more rows more (stand_of w) settled.0 a, h)
settled-stays rows more w x settled (inr (a, h)) = inr (endless-more rows more (stand_of w) a, h)
