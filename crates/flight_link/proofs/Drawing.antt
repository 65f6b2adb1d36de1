-- Keys under numbers, and what is drawn under them.
use Rattle.std.proofs.Common.{take, get_or, true, false, cond, ◌≡◌, ◌≢◌, ℕ, zero, suc, ◌+◌, ◌<◌, ◌≤◌, ◌^◌, nat_eq, List, [], ◌∷◌, ◌++◌, length, map, Option, Some, None, slice_get, slice_set, refl, sym, ◌∙◌, ap, subst, arith, inl, inr, ◌⊎◌}
use Rattle.std.specs.List.{AllZip}
use Rattle.std.specs.HashMap.{get}
use Rattle.std.proofs.lemmas.Bool.Decides.{eqb_tells, nat_tests}
use Rattle.std.proofs.lemmas.Option.{none-some, same_Some, slice_get_within}
use Rattle.std.proofs.lemmas.List.{length-set}
use Rattle.flight_value.specs.Graph.{slots_of}
use Rattle.flight_value.specs.declared.graph.Slot.{Slot}
use Rattle.flight_value.specs.declared.graph.Slot.TheVariants as slot
use Rattle.flight_value.specs.declared.graph.Prop.{Prop}
use Rattle.flight_value.specs.declared.graph.Pair.{Pair}
use Rattle.flight_value.specs.declared.graph.Node.{Node}
use Rattle.flight_value.specs.declared.graph.Node.TheVariants as node
use Rattle.flight_value.specs.Store as store
use Rattle.flight_text.specs.declared.mark.Ref.{Ref}
use Rattle.flight_meaning.specs.declared.place.Place.TheVariants as place
use Rattle.flight_meaning.specs.declared.place.Named.{Named}
use Rattle.flight_meaning.specs.declared.place.PlacedRow.{PlacedRow}
use Rattle.flight_meaning.specs.Linked as linked
use Rattle.flight_meaning.specs.Linked.{rows_of, place_at, beside}
use Rattle.flight_meaning.specs.Resolve.{to, found, Ends}
use Rattle.flight_meaning.specs.Meaning.{Written, at_place, value_of, slots_in, Identity, made_at, promise_of, action_of, at_places, entry, both, entries, map_token, set_token, HasSlots, HasShapeHere, Leads}
use Rattle.flight_meaning.proofs.MoreRows.{slice_get-front}
use Rattle.flight_link.specs.declared.found.Spot.{Spot}
use Rattle.flight_link.specs.declared.key.NodeKey.{NodeKey}
use Rattle.flight_link.specs.declared.key.NodeKey.TheVariants.{Made, Promise, Action}
use Rattle.flight_link.specs.declared.numbers.Numbers.{Numbers}
use Rattle.flight_link.specs.Nodes.{IsPlain, place_in, spot_of}
use Rattle.flight_link.specs.Spots.{IsSpot, places_in}
use Rattle.flight_meaning.specs.declared.place.Place.{Place}
use Rattle.flight_link.specs.Backlogs.{cell}
use Rattle.flight_link.specs.Numbering.{number_among, IsKey, number_of, HasNumber, AreNumbered, IsPut, Grows}
use Rattle.flight_link.specs.Drawing.{identity_of, Draws, AreSlots, AreProps, IsPairAt, ArePairs, DrawsNode, AreDrawn, AreApart}
use Rattle.flight_link.proofs.Backlogs.{cell_here, cell_there}
use Rattle.flight_link.proofs.Marks.{order, row_before, row_within}
use Rattle.flight_link.proofs.PlainRows.{held, place_there, row_there, spot_in_row}
use Rattle.flight_link.proofs.Slots.{spot_is}
use Rattle.flight_link.proofs.Growing.{push_get, push_at}
use Rattle.flight_link.proofs.Finds.{none_before}
use Rattle.flight_link.specs.declared.target.Target.{Target}
use Rattle.flight_link.specs.Targets.{IsTargetOf}
use Rattle.flight_value.specs.declared.graph.Atom.{Atom}
use Rattle.flight_value.specs.declared.graph.Atom.TheVariants as atom
use Rattle.std.proofs.lemmas.List.{take_more}

-- ---- numbers of places

-- what stands at one number is one place
pub one_place : (rows : List PlacedRow) (s t : Spot) (x y : Place) → place_in rows s ≡ Some x → place_in rows t ≡ Some y → number_among rows s ≡ number_among rows t → s ≡ t
one_place rows s t x y p q e = go (order s.row t.row)
  where
    here : (r : PlacedRow) × (slice_get rows s.row ≡ Some r) × (slice_get r.tree.places s.place ≡ Some x)
    here = row_there rows s x p

    there : (r : PlacedRow) × (slice_get rows t.row ≡ Some r) × (slice_get r.tree.places t.place ≡ Some y)
    there = row_there rows t y q

    go : (s.row < t.row) ⊎ ((s.row ≡ t.row) ⊎ (t.row < s.row)) → s ≡ t
    go (inl less) =
        let w = slice_get_within here.0.tree.places s.place x here.2 in
        let before = row_before rows s.row t.row here.0 less here.1 in
        let no_way : ⊥ = omega (arith, e, w, before) in
        absurd no_way
    go (inr (inr more)) =
        let w = slice_get_within there.0.tree.places t.place y there.2 in
        let before = row_before rows t.row s.row there.0 more there.1 in
        let no_way : ⊥ = omega (arith, e, w, before) in
        absurd no_way
    go (inr (inl same)) =
        let base : places_in (take s.row rows) ≡ places_in (take t.row rows) = ap (λ k. places_in (take k rows)) same in
        let place : s.place ≡ t.place = omega (arith, e, base) in
        ap (λ r. record { row = r; place = s.place }) same ∙ ap (λ n. record { row = t.row; place = n }) place

pub number_within : (rows : List PlacedRow) (s : Spot) (x : Place) → place_in rows s ≡ Some x → number_among rows s < places_in rows
number_within rows s x p =
    let r = row_there rows s x p in
    let w = slice_get_within r.0.tree.places s.place x r.2 in
    let whole = row_within rows s.row r.0 r.1 in
    omega (arith, w, whole)

-- ---- numbers of keys

same_spot : (s t : Spot) → Made s ≡ Made t → s ≡ t
same_spot s t e = cc

tell_spot : (s t : Spot) → ((nat_eq s.row t.row ≡ true) × (s.row ≡ t.row)) ⊎ ((nat_eq s.row t.row ≡ false) × (s.row ≢ t.row)) → ((nat_eq s.place t.place ≡ true) × (s.place ≡ t.place)) ⊎ ((nat_eq s.place t.place ≡ false) × (s.place ≢ t.place)) → (Made s ≡ Made t) ⊎ (Made s ≢ Made t)
tell_spot s t (inl p) (inl q) = inl (ap (λ n. Made (record { row = n; place = s.place })) p.1 ∙ ap (λ n. Made (record { row = t.row; place = n })) q.1)
tell_spot s t (inr p) q = inr (λ e. p.1 (ap (λ (x : Spot). x.row) (same_spot s t e)))
tell_spot s t (inl p) (inr q) = inr (λ e. q.1 (ap (λ (x : Spot). x.place) (same_spot s t e)))

tell_promise : (i j : ℕ) → ((nat_eq i j ≡ true) × (i ≡ j)) ⊎ ((nat_eq i j ≡ false) × (i ≢ j)) → (Promise i ≡ Promise j) ⊎ (Promise i ≢ Promise j)
tell_promise i j (inl p) = inl (ap Promise p.1)
tell_promise i j (inr p) = inr (λ e. p.1 cc)

tell_action : (i j : ℕ) → ((nat_eq i j ≡ true) × (i ≡ j)) ⊎ ((nat_eq i j ≡ false) × (i ≢ j)) → (Action i ≡ Action j) ⊎ (Action i ≢ Action j)
tell_action i j (inl p) = inl (ap Action p.1)
tell_action i j (inr p) = inr (λ e. p.1 cc)

pub tell : (a b : NodeKey) → (a ≡ b) ⊎ (a ≢ b)
tell (Made s) (Made t) = tell_spot s t (eqb_tells s.row t.row) (eqb_tells s.place t.place)
tell (Promise i) (Promise j) = tell_promise i j (eqb_tells i j)
tell (Action i) (Action j) = tell_action i j (eqb_tells i j)
tell (Made s) (Promise j) = inr (λ e. cc)
tell (Made s) (Action j) = inr (λ e. cc)
tell (Promise i) (Made t) = inr (λ e. cc)
tell (Promise i) (Action j) = inr (λ e. cc)
tell (Action i) (Made t) = inr (λ e. cc)
tell (Action i) (Promise j) = inr (λ e. cc)

has_push : (keys : List NodeKey) (key other : NodeKey) (o : Option ℕ) → key ≢ other → HasNumber keys other o → HasNumber (keys ++ key ∷ []) other o
has_push keys key other (Some n) ne h = slice_get-front keys (key ∷ []) n other h
has_push keys key other None ne h = λ i e. elim (push_get keys key i other e) [ inl p ↦ h i p | inr p ↦ ne p.1 ]

-- a key without a number gets the next one
pub numbered_push : (rows : List PlacedRow) (old new : Numbers) (key : NodeKey) → IsKey rows key → AreNumbered rows old → number_of rows old key ≡ None → new.keys.items ≡ old.keys.items ++ key ∷ [] → number_of rows new key ≡ Some (length old.keys.items) → ((other : NodeKey) → IsKey rows other → key ≢ other → number_of rows new other ≡ number_of rows old other) → length new.places.items ≡ length old.places.items → AreNumbered rows new
numbered_push rows old new key is_key is none keys here others room = record {
  each = λ other there. subst (λ ks. HasNumber ks other (number_of rows new other)) (sym keys) (elim (tell key other) [
    | inl e ↦ subst (λ k. HasNumber (old.keys.items ++ key ∷ []) k (number_of rows new k)) e (subst (HasNumber (old.keys.items ++ key ∷ []) key) (sym here) (push_at old.keys.items key))
    | inr ne ↦ subst (HasNumber (old.keys.items ++ key ∷ []) other) (sym (others other there ne)) (has_push old.keys.items key other (number_of rows old other) ne (is.each other there))
  ]);
  back = λ i other e. elim (push_get old.keys.items key i other (sym (ap (λ ks. slice_get ks i) keys) ∙ e)) [
    | inl h ↦ (let b = is.back i other h in (
      b.0,
      elim (tell key other) [
        | inl s ↦ absurd (none-some i (sym none ∙ (ap (number_of rows old) s ∙ b.1)))
        | inr ne ↦ others other b.0 ne ∙ b.1
      ],
    ))
    | inr p ↦ (subst (IsKey rows) p.1 is_key, sym (ap (number_of rows new) p.1) ∙ (here ∙ ap Some (sym p.0)))
  ];
  room = let r = is.room in omega (arith, r, room);
}

-- a number in one of the tables
pub put_made : (rows : List PlacedRow) (old new : Numbers) (s : Spot) (x : Place) (number : ℕ) → place_in rows s ≡ Some x → places_in rows ≤ length old.places.items → new.keys ≡ old.keys → new.promises ≡ old.promises → new.actions ≡ old.actions → new.places.items ≡ slice_set old.places.items (number_among rows s) (Some number) → IsPut rows old new (Made s) number
put_made rows old new s x number is room keys promises actions h = record {
  keys = ap (λ k. k.items) keys;
  here = ap (λ c. cell c (number_among rows s)) h ∙ cell_here old.places.items (number_among rows s) (Some number) (let w = number_within rows s x is in omega (arith, w, room));
  others = go;
  room = ap length h ∙ length-set old.places.items (number_among rows s) (Some number);
}
  where
    go : (other : NodeKey) → IsKey rows other → Made s ≢ other → number_of rows new other ≡ number_of rows old other
    go (Made t) there ne = ap (λ c. cell c (number_among rows t)) h ∙ cell_there old.places.items (number_among rows s) (number_among rows t) (Some number) (λ e. ne (ap Made (one_place rows s t x there.0 is there.1 e)))
    go (Promise j) there ne = ap (λ t. get nat_eq t j) promises
    go (Action j) there ne = ap (λ t. get nat_eq t j) actions

id_here : (id number : ℕ) (o : Option ℕ) → cond (nat_eq id id) (Some number) o ≡ Some number
id_here id number o = ap (λ b. cond b (Some number) o) (same_true id)
  where
    same_true : (n : ℕ) → nat_eq n n ≡ true
    same_true n = grind (arith, nat_tests)

id_other : (id j number : ℕ) (o : Option ℕ) → id ≢ j → cond (nat_eq id j) (Some number) o ≡ o
id_other id j number o ne = elim (eqb_tells id j) [ inl p ↦ absurd (ne p.1) | inr p ↦ ap (λ b. cond b (Some number) o) p.0 ]

pub put_promise : (rows : List PlacedRow) (old new : Numbers) (id number : ℕ) → new.keys ≡ old.keys → new.places ≡ old.places → new.actions ≡ old.actions → ((q : ℕ) → get nat_eq new.promises q ≡ cond (nat_eq id q) (Some number) (get nat_eq old.promises q)) → IsPut rows old new (Promise id) number
put_promise rows old new id number keys places actions h = record {
  keys = ap (λ k. k.items) keys;
  here = h id ∙ id_here id number (get nat_eq old.promises id);
  others = go;
  room = ap (λ p. length p.items) places;
}
  where
    go : (other : NodeKey) → IsKey rows other → Promise id ≢ other → number_of rows new other ≡ number_of rows old other
    go (Made s) there ne = ap (λ p. cell p.items (number_among rows s)) places
    go (Promise j) there ne = h j ∙ id_other id j number (get nat_eq old.promises j) (λ e. ne (ap Promise e))
    go (Action j) there ne = ap (λ t. get nat_eq t j) actions

pub put_action : (rows : List PlacedRow) (old new : Numbers) (id number : ℕ) → new.keys ≡ old.keys → new.places ≡ old.places → new.promises ≡ old.promises → ((q : ℕ) → get nat_eq new.actions q ≡ cond (nat_eq id q) (Some number) (get nat_eq old.actions q)) → IsPut rows old new (Action id) number
put_action rows old new id number keys places promises h = record {
  keys = ap (λ k. k.items) keys;
  here = h id ∙ id_here id number (get nat_eq old.actions id);
  others = go;
  room = ap (λ p. length p.items) places;
}
  where
    go : (other : NodeKey) → IsKey rows other → Action id ≢ other → number_of rows new other ≡ number_of rows old other
    go (Made s) there ne = ap (λ p. cell p.items (number_among rows s)) places
    go (Promise j) there ne = ap (λ t. get nat_eq t j) promises
    go (Action j) there ne = h j ∙ id_other id j number (get nat_eq old.actions j) (λ e. ne (ap Action e))

pub same_tables : (rows : List PlacedRow) (n m : Numbers) → n.places ≡ m.places → n.promises ≡ m.promises → n.actions ≡ m.actions → (key : NodeKey) → number_of rows n key ≡ number_of rows m key
same_tables rows n m p q r (Made s) = ap (λ c. cell c.items (number_among rows s)) p
same_tables rows n m p q r (Promise id) = ap (λ t. get nat_eq t id) q
same_tables rows n m p q r (Action id) = ap (λ t. get nat_eq t id) r

-- ---- one key for a node

same_place : (a b : linked.Spot) → made_at a ≡ made_at b → a ≡ b
same_place a b e = cc

-- of an id there is one row
first_row : (rows : List PlacedRow) (i j : ℕ) (r q : PlacedRow) → IsPlain rows → slice_get rows i ≡ Some r → slice_get rows j ≡ Some q → r.id ≡ q.id → i < j → ⊥
first_row rows i j r q plain e f same less =
    let front : slice_get (take j rows) i ≡ Some r = get_take rows i j r less e in
    let h = held (take j rows) i r front in
    let w = slice_get_within (rows_of r.id (take j rows)) h.0 r.tree h.1 in
    let none : 0 ≡ length (rows_of r.id (take j rows)) = none_before rows j q plain f ∙ ap (λ id. length (rows_of id (take j rows))) (sym same) in
    omega (arith, w, none)
  where
    get_take : (xs : List PlacedRow) (i j : ℕ) (r : PlacedRow) → i < j → slice_get xs i ≡ Some r → slice_get (take j xs) i ≡ Some r
    get_take [] i j r less e = absurd (none-some r e)
    get_take (x ∷ xs) i zero r less e = let no_way : ⊥ = omega (arith, less) in absurd no_way
    get_take (x ∷ xs) zero (suc j) r less e = e
    get_take (x ∷ xs) (suc i) (suc j) r less e = get_take xs i j r (omega (arith, less)) e

one_spot : (rows : List PlacedRow) (s t : Spot) (x y : Place) → IsPlain rows → place_in rows s ≡ Some x → place_in rows t ≡ Some y → spot_of rows s ≡ spot_of rows t → s ≡ t
one_spot rows s t x y plain p q e = go (order s.row t.row)
  where
    here : (r : PlacedRow) × (slice_get rows s.row ≡ Some r) × (slice_get r.tree.places s.place ≡ Some x)
    here = row_there rows s x p

    there : (r : PlacedRow) × (slice_get rows t.row ≡ Some r) × (slice_get r.tree.places t.place ≡ Some y)
    there = row_there rows t y q

    same_id : here.0.id ≡ there.0.id
    same_id = ap (λ (z : linked.Spot). z.id) (sym (spot_in_row rows s here.0 here.1) ∙ (e ∙ spot_in_row rows t there.0 there.1))

    place : s.place ≡ t.place
    place = ap (λ (z : linked.Spot). z.at) e

    go : (s.row < t.row) ⊎ ((s.row ≡ t.row) ⊎ (t.row < s.row)) → s ≡ t
    go (inl less) = absurd (first_row rows s.row t.row here.0 there.0 plain here.1 there.1 same_id less)
    go (inr (inr more)) = absurd (first_row rows t.row s.row there.0 here.0 plain there.1 here.1 (sym same_id) more)
    go (inr (inl same)) = ap (λ r. record { row = r; place = s.place }) same ∙ ap (λ n. record { row = t.row; place = n }) place

same_promise : (i j : ℕ) → promise_of i ≡ promise_of j → i ≡ j
same_promise i j e = cc

same_action : (i j : ℕ) → action_of i ≡ action_of j → i ≡ j
same_action i j e = cc

place_or_promise : (s : linked.Spot) (j : ℕ) → made_at s ≡ promise_of j → ⊥
place_or_promise s j e = cc

place_or_action : (s : linked.Spot) (j : ℕ) → made_at s ≡ action_of j → ⊥
place_or_action s j e = cc

promise_or_action : (i j : ℕ) → promise_of i ≡ action_of j → ⊥
promise_or_action i j e = cc

one_key : (rows : List PlacedRow) (a b : NodeKey) → IsPlain rows → IsKey rows a → IsKey rows b → identity_of rows a ≡ identity_of rows b → a ≡ b
one_key rows (Made s) (Made t) plain p q e = ap Made (one_spot rows s t p.0 q.0 plain p.1 q.1 (same_place (spot_of rows s) (spot_of rows t) e))
one_key rows (Promise i) (Promise j) plain p q e = ap Promise (same_promise i j e)
one_key rows (Action i) (Action j) plain p q e = ap Action (same_action i j e)
one_key rows (Made s) (Promise j) plain p q e = absurd (place_or_promise (spot_of rows s) j e)
one_key rows (Made s) (Action j) plain p q e = absurd (place_or_action (spot_of rows s) j e)
one_key rows (Promise i) (Made t) plain p q e = absurd (place_or_promise (spot_of rows t) i (sym e))
one_key rows (Promise i) (Action j) plain p q e = absurd (promise_or_action i j e)
one_key rows (Action i) (Made t) plain p q e = absurd (place_or_action (spot_of rows t) i (sym e))
one_key rows (Action i) (Promise j) plain p q e = absurd (promise_or_action j i (sym e))

pub apart : (rows : List PlacedRow) (n : Numbers) → IsPlain rows → AreNumbered rows n → AreApart rows n.keys.items
apart rows n plain is i j k l h m e =
    let a = is.back i k h in
    let b = is.back j l m in
    let same : k ≡ l = one_key rows k l plain a.0 b.0 e in
    same_Some i j (sym a.1 ∙ (ap (number_of rows n) same ∙ b.1))

-- ---- more keys

pub grows_none : (keys : List NodeKey) → Grows keys keys
grows_none keys = ([], sym (append_none keys))
  where
    append_none : (xs : List NodeKey) → xs ++ [] ≡ xs
    append_none [] = refl
    append_none (x ∷ xs) = ap (λ t. x ∷ t) (append_none xs)

append_more : (xs ys zs : List NodeKey) → (xs ++ ys) ++ zs ≡ xs ++ (ys ++ zs)
append_more [] ys zs = refl
append_more (x ∷ xs) ys zs = ap (λ t. x ∷ t) (append_more xs ys zs)

pub grows_on : (a b c : List NodeKey) → Grows a b → Grows b c → Grows a c
grows_on a b c p q = (p.0 ++ q.0, q.1 ∙ (ap (λ x. x ++ q.0) p.1 ∙ append_more a p.0 q.0))

pub grown_at : (keys new : List NodeKey) (n : ℕ) (key : NodeKey) → Grows keys new → slice_get keys n ≡ Some key → slice_get new n ≡ Some key
grown_at keys new n key g e = ap (λ ks. slice_get ks n) g.1 ∙ slice_get-front keys g.0 n key e

pub draws_grow : (rows : List PlacedRow) (keys new : List NodeKey) (s : Slot) (w : Written) → Grows keys new → Draws rows keys s w → Draws rows new s w
draws_grow rows keys new (slot.Atom a) w g h = h
draws_grow rows keys new (slot.Node n) w g h = (h.0, grown_at keys new n h.0 g h.1, h.2)

pub zip_as : {A B : Type 0} (P Q : A → B → Type 0) (xs : List A) (ys : List B) → ((x : A) (y : B) → P x y → Q x y) → AllZip P xs ys → AllZip Q xs ys
zip_as P Q [] [] f h = tt
zip_as P Q (x ∷ xs) (y ∷ ys) f h = (f x y h.0, zip_as P Q xs ys f h.1)
zip_as P Q [] (y ∷ ys) f h = absurd h
zip_as P Q (x ∷ xs) [] f h = absurd h

pub zip_push : {A B : Type 0} (P : A → B → Type 0) (xs : List A) (ys : List B) (x : A) (y : B) → AllZip P xs ys → P x y → AllZip P (xs ++ x ∷ []) (ys ++ y ∷ [])
zip_push P [] [] x y h p = (p, tt)
zip_push P (a ∷ xs) (b ∷ ys) x y h p = (h.0, zip_push P xs ys x y h.1 p)
zip_push P [] (b ∷ ys) x y h p = absurd h
zip_push P (a ∷ xs) [] x y h p = absurd h

pub slots_grow : (rows : List PlacedRow) (keys new : List NodeKey) (s : linked.Spot) (slots : List Slot) (ns : List ℕ) → Grows keys new → AreSlots rows keys s slots ns → AreSlots rows new s slots ns
slots_grow rows keys new s slots ns g h = zip_as (λ slot n. Draws rows keys slot (at_place (beside s n))) (λ slot n. Draws rows new slot (at_place (beside s n))) slots ns (λ x n. draws_grow rows keys new x (at_place (beside s n)) g) h

pub props_grow : (rows : List PlacedRow) (keys new : List NodeKey) (s : linked.Spot) (props : List Prop) (ns : List Named) → Grows keys new → AreProps rows keys s props ns → AreProps rows new s props ns
props_grow rows keys new s props ns g h =
    zip_as (λ (p : Prop) (n : Named). (p.name ≡ n.name) × Draws rows keys p.slot (at_place (beside s n.place))) (λ (p : Prop) (n : Named). (p.name ≡ n.name) × Draws rows new p.slot (at_place (beside s n.place)))
    props ns (λ p n q. (q.0, draws_grow rows keys new p.slot (at_place (beside s n.place)) g q.1)) h

pub pairs_grow : (rows : List PlacedRow) (keys new : List NodeKey) (s : linked.Spot) (pairs : List Pair) (ns : List ℕ) → Grows keys new → ArePairs rows keys s pairs ns → ArePairs rows new s pairs ns
pairs_grow rows keys new s pairs ns g h =
    zip_as (IsPairAt rows keys s) (IsPairAt rows new s) pairs ns
    (λ p n q. (q.0, q.1, q.2, draws_grow rows keys new p.key (at_place (beside s q.0)) g q.3, draws_grow rows keys new p.value (at_place (beside s q.1)) g q.4)) h

pub node_grow : (rows : List PlacedRow) (keys new : List NodeKey) (k : Identity) (n : Node) → Grows keys new → DrawsNode rows keys k n → DrawsNode rows new k n
node_grow rows keys new k n g h = record {
  shape = h.shape;
  stands = h.stands;
  label = h.label;
  slots = zip_as (Draws rows keys) (Draws rows new) (slots_of n) h.shape.slots (λ x w. draws_grow rows keys new x w g) h.slots;
  few = h.few;
}

-- ---- slots as they are written

slots_written : (rows : List PlacedRow) (keys : List NodeKey) (s : linked.Spot) (slots : List Slot) (ns : List ℕ) → AreSlots rows keys s slots ns → AllZip (Draws rows keys) slots (at_places s ns)
slots_written rows keys s [] [] h = tt
slots_written rows keys s (x ∷ slots) (n ∷ ns) h = (h.0, slots_written rows keys s slots ns h.1)
slots_written rows keys s [] (n ∷ ns) h = absurd h
slots_written rows keys s (x ∷ slots) [] h = absurd h

props_written : (rows : List PlacedRow) (keys : List NodeKey) (s : linked.Spot) (props : List Prop) (ns : List Named) → AreProps rows keys s props ns → AllZip (Draws rows keys) (map (λ p. p.slot) props) (at_places s (map (λ n. n.place) ns))
props_written rows keys s [] [] h = tt
props_written rows keys s (x ∷ props) (n ∷ ns) h = (h.0.1, props_written rows keys s props ns h.1)
props_written rows keys s [] (n ∷ ns) h = absurd h
props_written rows keys s (x ∷ props) [] h = absurd h

names_written : (rows : List PlacedRow) (keys : List NodeKey) (s : linked.Spot) (props : List Prop) (ns : List Named) → AreProps rows keys s props ns → map (λ (p : Prop). p.name) props ≡ map (λ (n : Named). n.name) ns
names_written rows keys s [] [] h = refl
names_written rows keys s (x ∷ props) (n ∷ ns) h = ap (λ k. k ∷ map (λ (p : Prop). p.name) props) h.0.0 ∙ ap (λ t. n.name ∷ t) (names_written rows keys s props ns h.1)
names_written rows keys s [] (n ∷ ns) h = absurd h
names_written rows keys s (x ∷ props) [] h = absurd h

pairs_written : (rows : List PlacedRow) (keys : List NodeKey) (s : linked.Spot) (pairs : List Pair) (ns : List ℕ) → ArePairs rows keys s pairs ns → (ws : List Written) × (entries rows s ns ≡ Some ws) × AllZip (Draws rows keys) (slots_of (node.Map pairs)) ws
pairs_written rows keys s [] [] h = ([], refl, tt)
pairs_written rows keys s (x ∷ pairs) (n ∷ ns) h =
    let rest = pairs_written rows keys s pairs ns h.1 in
    let p = h.0 in
    (at_place (beside s p.0) ∷ at_place (beside s p.1) ∷ rest.0, ap (λ o. both o (entries rows s ns)) p.2 ∙ ap (both (Some (at_place (beside s p.0) ∷ at_place (beside s p.1) ∷ []))) rest.1, (p.3, (p.4, rest.2)))
pairs_written rows keys s [] (n ∷ ns) h = absurd h
pairs_written rows keys s (x ∷ pairs) [] h = absurd h

pairs_long : (pairs : List Pair) → length (slots_of (node.Map pairs)) ≡ length pairs + length pairs
pairs_long [] = refl
pairs_long (x ∷ pairs) = omega (arith, pairs_long pairs)

few_pairs : (count half whole : ℕ) (pairs : List Pair) → count ≡ length pairs → whole ≡ half + half → count < half → length (slots_of (node.Map pairs)) < whole
few_pairs count half whole pairs e w h = omega (arith, pairs_long pairs, e, w, h)

-- ---- nodes

pub array_node : (rows : List PlacedRow) (keys : List NodeKey) (s : Spot) (ns : List ℕ) (slots : List Slot) → IsPlain rows → place_in rows s ≡ Some (place.Array ns) → AreSlots rows keys (spot_of rows s) slots ns → length slots < 2 ^ 32 → DrawsNode rows keys (made_at (spot_of rows s)) (node.Array slots)
array_node rows keys s ns slots plain e h few = record {
  shape = record { label = store.array; slots = at_places (spot_of rows s) ns };
  stands = subst (λ o. HasShapeHere rows (spot_of rows s) o (record { label = store.array; slots = at_places (spot_of rows s) ns })) (sym (place_there rows s (place.Array ns) plain e)) refl;
  label = refl;
  slots = slots_written rows keys (spot_of rows s) slots ns h;
  few = few;
}

map_long : (props : List Prop) → length (map (λ (p : Prop). p.slot) props) ≡ length props
map_long [] = refl
map_long (x ∷ props) = ap suc (map_long props)

pub object_node : (rows : List PlacedRow) (keys : List NodeKey) (s : Spot) (ns : List Named) (props : List Prop) → IsPlain rows → place_in rows s ≡ Some (place.Object ns) → AreProps rows keys (spot_of rows s) props ns → length props < 2 ^ 32 → DrawsNode rows keys (made_at (spot_of rows s)) (node.Object props)
object_node rows keys s ns props plain e h few =
    let shape : store.Shape Written = record { label = store.object (map (λ n. n.name) ns); slots = at_places (spot_of rows s) (map (λ n. n.place) ns) } in
    record {
      shape = shape;
      stands = subst (λ o. HasShapeHere rows (spot_of rows s) o shape) (sym (place_there rows s (place.Object ns) plain e)) refl;
      label = ap store.object (names_written rows keys (spot_of rows s) props ns h);
      slots = props_written rows keys (spot_of rows s) props ns h;
      few = below (length props) (length (map (λ (p : Prop). p.slot) props)) (2 ^ 32) (sym (map_long props)) few;
    }
  where
    below : (m n top : ℕ) → m ≡ n → m < top → n < top
    below m n top e h = subst (λ k. k < top) e h

pub element_node : (rows : List PlacedRow) (keys : List NodeKey) (s : Spot) (a b c : ℕ) (x y z : Slot) → IsPlain rows → place_in rows s ≡ Some (place.Element a b c) → Draws rows keys x (at_place (beside (spot_of rows s) a)) → Draws rows keys y (at_place (beside (spot_of rows s) b)) → Draws rows keys z (at_place (beside (spot_of rows s) c)) → DrawsNode rows keys (made_at (spot_of rows s)) (node.Element x y z)
element_node rows keys s a b c x y z plain e p q r =
    let shape : store.Shape Written = record { label = store.element; slots = at_places (spot_of rows s) (a ∷ b ∷ c ∷ []) } in
    record {
      shape = shape;
      stands = subst (λ o. HasShapeHere rows (spot_of rows s) o shape) (sym (place_there rows s (place.Element a b c) plain e)) refl;
      label = refl;
      slots = (p, (q, (r, tt)));
      few = omega arith;
    }

pub set_node : (rows : List PlacedRow) (keys : List NodeKey) (s end : Spot) (r : Ref) (ns : List ℕ) (slots : List Slot) → IsPlain rows → place_in rows s ≡ Some (place.Set r) → Ends rows (to r.id r.path) (found (spot_of rows end)) → place_in rows end ≡ Some (place.Array ns) → AreSlots rows keys (spot_of rows end) slots ns → length slots < 2 ^ 32 → DrawsNode rows keys (made_at (spot_of rows s)) (node.Set slots)
set_node rows keys s end r ns slots plain e ends at h few =
    let shape : store.Shape Written = record { label = store.set_of; slots = at_places (spot_of rows end) ns } in
    let has : HasSlots rows set_token r (at_places (spot_of rows end) ns) = (found (spot_of rows end), ends, ap (λ o. slots_in set_token rows (spot_of rows end) o) (place_there rows end (place.Array ns) plain at)) in
    record {
      shape = shape;
      stands = subst (λ o. HasShapeHere rows (spot_of rows s) o shape) (sym (place_there rows s (place.Set r) plain e)) (at_places (spot_of rows end) ns, has, refl);
      label = refl;
      slots = slots_written rows keys (spot_of rows end) slots ns h;
      few = few;
    }

pub map_node : (rows : List PlacedRow) (keys : List NodeKey) (s end : Spot) (r : Ref) (ns : List ℕ) (pairs : List Pair) → IsPlain rows → place_in rows s ≡ Some (place.Map r) → Ends rows (to r.id r.path) (found (spot_of rows end)) → place_in rows end ≡ Some (place.Array ns) → ArePairs rows keys (spot_of rows end) pairs ns → length pairs < 2 ^ 31 → DrawsNode rows keys (made_at (spot_of rows s)) (node.Map pairs)
map_node rows keys s end r ns pairs plain e ends at h few =
    let w = pairs_written rows keys (spot_of rows end) pairs ns h in
    let shape : store.Shape Written = record { label = store.map_of; slots = w.0 } in
    let has : HasSlots rows map_token r w.0 = (found (spot_of rows end), ends, ap (λ o. slots_in map_token rows (spot_of rows end) o) (place_there rows end (place.Array ns) plain at) ∙ w.1) in
    record {
      shape = shape;
      stands = subst (λ o. HasShapeHere rows (spot_of rows s) o shape) (sym (place_there rows s (place.Map r) plain e)) (w.0, has, refl);
      label = refl;
      slots = w.2;
      few = few_pairs (length pairs) (2 ^ 31) (2 ^ 32) pairs refl refl few;
    }

pub promise_node : (rows : List PlacedRow) (keys : List NodeKey) (id : ℕ) (x : Slot) → Draws rows keys x (value_of id) → DrawsNode rows keys (promise_of id) (node.Promise x)
promise_node rows keys id x h = record {
  shape = record { label = store.promise; slots = value_of id ∷ [] };
  stands = refl;
  label = refl;
  slots = (h, tt);
  few = omega arith;
}

pub drawn_all : (rows : List PlacedRow) (keys : List NodeKey) (nodes : List Node) → ((n : ℕ) (x : Node) → slice_get nodes n ≡ Some x → (key : NodeKey) × (slice_get keys n ≡ Some key) × DrawsNode rows keys (identity_of rows key) x) → slice_get keys (length nodes) ≡ None → AreDrawn rows keys nodes
drawn_all rows keys nodes each none = record { each = each; all = past keys (length nodes) none }
  where
    past : (ks : List NodeKey) (n : ℕ) → slice_get ks n ≡ None → length ks ≤ n
    past [] n e = omega arith
    past (k ∷ ks) zero e = absurd (none-some k (sym e))
    past (k ∷ ks) (suc n) e = let h = past ks n e in omega (arith, h)

pub each_push : (rows : List PlacedRow) (keys new : List NodeKey) (nodes : List Node) (key : NodeKey) (x : Node) → Grows keys new → ((n : ℕ) (y : Node) → slice_get nodes n ≡ Some y → (k : NodeKey) × (slice_get keys n ≡ Some k) × DrawsNode rows keys (identity_of rows k) y) → slice_get keys (length nodes) ≡ Some key → DrawsNode rows new (identity_of rows key) x → (n : ℕ) (y : Node) → slice_get (nodes ++ x ∷ []) n ≡ Some y → (k : NodeKey) × (slice_get new n ≡ Some k) × DrawsNode rows new (identity_of rows k) y
each_push rows keys new nodes key x g each at h n y e =
    elim (push_get nodes x n y e) [
      | inl p ↦ let w = each n y p in (w.0, grown_at keys new n w.0 g w.1, node_grow rows keys new (identity_of rows w.0) y g w.2)
      | inr p ↦ (key, subst (λ i. slice_get new i ≡ Some key) (sym p.0) (grown_at keys new (length nodes) key g at), subst (DrawsNode rows new (identity_of rows key)) p.1 h)
    ]

-- ---- slots of targets

pub atom_slot : (rows : List PlacedRow) (keys : List NodeKey) (a b : Atom) → b ≡ a → (w : Written) → Leads rows w (store.atom a) × (a ≢ atom.Pending) → Draws rows keys (slot.Atom b) w
atom_slot rows keys a b e w h = subst (λ x. Leads rows w (store.atom x)) (sym e) h.0

-- a node that is a target leads to its place
pub node_leads : (rows : List PlacedRow) (spot : Spot) (w : Written) → IsPlain rows → ((s : linked.Spot) × IsSpot rows spot s × Leads rows w (store.node_at (made_at s))) → Leads rows w (store.node_at (made_at (spot_of rows spot)))
node_leads rows spot w plain h = subst (λ s. Leads rows w (store.node_at (made_at s))) (spot_is rows spot h.0 plain h.1) h.2

pub key_slot : (rows : List PlacedRow) (keys : List NodeKey) (n : ℕ) (key : NodeKey) → slice_get keys n ≡ Some key → (w : Written) → Leads rows w (store.node_at (identity_of rows key)) → Draws rows keys (slot.Node n) w
key_slot rows keys n key e w h = (key, e, h)

pub same_identity : (rows : List PlacedRow) (keys : List NodeKey) (k i : Identity) (x : Node) → k ≡ i → DrawsNode rows keys k x → DrawsNode rows keys i x
same_identity rows keys k i x e h = subst (λ j. DrawsNode rows keys j x) e h

pub pair_drawn : (rows : List PlacedRow) (keys new : List NodeKey) (s at : Spot) (n k v : ℕ) (x y : Slot) → IsPlain rows → at ≡ record { row = s.row; place = n } → place_in rows at ≡ Some (place.Array (k ∷ v ∷ [])) → Draws rows keys x (at_place (beside (spot_of rows s) k)) → Grows keys new → Draws rows new y (at_place (beside (spot_of rows s) v)) → IsPairAt rows new (spot_of rows s) (record { key = x; value = y }) n
pair_drawn rows keys new s at n k v x y plain is e p g q =
    let spot : Spot = record { row = s.row; place = n } in
    let there : place_in rows spot ≡ Some (place.Array (k ∷ v ∷ [])) = sym (ap (place_in rows) is) ∙ e in
    (k, v, ap (entry (beside (spot_of rows s) n)) (place_there rows spot (place.Array (k ∷ v ∷ [])) plain there), draws_grow rows keys new x (at_place (beside (spot_of rows s) k)) g p, q)

-- ---- one item more

pub slots_more : (rows : List PlacedRow) (keys new : List NodeKey) (s : linked.Spot) (slots : List Slot) (ns : List ℕ) (i : ℕ) (x : Slot) → i < length ns → Grows keys new → AreSlots rows keys s slots (take i ns) → Draws rows new x (at_place (beside s (get_or ns i 0))) → AreSlots rows new s (slots ++ x ∷ []) (take (i + 1) ns)
slots_more rows keys new s slots ns i x lt g h p =
    subst (AreSlots rows new s (slots ++ x ∷ [])) (sym (take_more ns i 0 lt))
    (zip_push (λ slot n. Draws rows new slot (at_place (beside s n))) slots (take i ns) x (get_or ns i 0) (slots_grow rows keys new s slots (take i ns) g h) p)

pub pairs_more : (rows : List PlacedRow) (keys new : List NodeKey) (s : linked.Spot) (pairs : List Pair) (ns : List ℕ) (i : ℕ) (x : Pair) → i < length ns → Grows keys new → ArePairs rows keys s pairs (take i ns) → IsPairAt rows new s x (get_or ns i 0) → ArePairs rows new s (pairs ++ x ∷ []) (take (i + 1) ns)
pairs_more rows keys new s pairs ns i x lt g h p =
    subst (ArePairs rows new s (pairs ++ x ∷ [])) (sym (take_more ns i 0 lt))
    (zip_push (IsPairAt rows new s) pairs (take i ns) x (get_or ns i 0) (pairs_grow rows keys new s pairs (take i ns) g h) p)

pub props_more : (rows : List PlacedRow) (keys new : List NodeKey) (s : linked.Spot) (props : List Prop) (ns : List Named) (i : ℕ) (x : Prop) (n : Named) → i < length ns → n ≡ get_or ns i n → Grows keys new → AreProps rows keys s props (take i ns) → x.name ≡ n.name → Draws rows new x.slot (at_place (beside s n.place)) → AreProps rows new s (props ++ x ∷ []) (take (i + 1) ns)
props_more rows keys new s props ns i x n lt is g h named p =
    subst (AreProps rows new s (props ++ x ∷ [])) (sym (take_more ns i n lt ∙ ap (λ y. take i ns ++ y ∷ []) (sym is)))
    (zip_push (λ (p : Prop) (n : Named). (p.name ≡ n.name) × Draws rows new p.slot (at_place (beside s n.place))) props (take i ns) x n (props_grow rows keys new s props (take i ns) g h) (named, p))

pub beside_slot : (rows : List PlacedRow) (keys : List NodeKey) (s at : Spot) (n : ℕ) (x : Slot) (t : Target) → at ≡ record { row = s.row; place = n } → ((w : Written) → IsTargetOf rows w t → Draws rows keys x w) → IsTargetOf rows (at_place (spot_of rows at)) t → Draws rows keys x (at_place (beside (spot_of rows s) n))
beside_slot rows keys s at n x t is f h = f (at_place (beside (spot_of rows s) n)) (subst (λ a. IsTargetOf rows (at_place (spot_of rows a)) t) is h)
