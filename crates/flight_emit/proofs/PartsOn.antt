-- Parts that are written one after another, and the composite that they make.
use Rattle.std.proofs.Common.{◌≡◌, ℕ, ◌+◌, ◌^◌, ◌≤◌, ⊎_elim, List, [], ◌∷◌, ◌++◌, Some, None, refl, sym, ap, ap₂, ◌∙◌, subst, append_assoc, append-nil}
use Rattle.std.proofs.lemmas.List.{map-append}
use Rattle.std.specs.List.{AllZip}
use Rattle.flight_value.specs.Listed.{In}
use Rattle.flight_value.specs.declared.key.Key.{Key}
use Rattle.flight_text.specs.declared.mark.Ref.{Ref}
use Rattle.flight_home.specs.Homes.{Homes}
use Rattle.flight_render.specs.declared.root.Ground.{Ground}
use Rattle.flight_render.specs.Jobs.{Value}
use Rattle.flight_meaning.specs.Meaning as wire
use Rattle.flight_payload.specs.Tree.{depth}
use Rattle.flight_payload.specs.Written.{tokens_of, IsWritable}
use Rattle.flight_state.specs.Local.{Seen, Met}
use Rattle.flight_state.proofs.Lists.{in_front, in_behind, in_either}
use Rattle.flight_emit.specs.declared.work.Due.{Due}
use Rattle.flight_emit.specs.Sheet.{Note, Form, as_array, as_object, as_element, Drawn, leaf, token as is_token, composite, Parts, no_parts, part_and, names_in, values_in, tree_of, value_at, below, homes_in, homes_of, Sheet}
use Rattle.flight_emit.specs.Good.{IsHomeOf, Entries, IsGood, AreGood}
use Rattle.flight_emit.specs.Log.{takes, homes_by, places_by, sheets_by, births_by, dues_by, AreNew, HasSheet, Stage, Grows}
use Rattle.flight_emit.specs.Wrote.{AreDue, Wrote, part_tokens, tokens_in, AllWritable, AllWithin, WroteParts, name_tokens}
use Rattle.flight_emit.proofs.Growing.{Keeps, leaf_more, homes-append, sheets-append, dues-append, places-append, grows_none, grows_more, grows_on}

-- ---- more homes, sheets and rows that are due

abbrev pub Stays : Entries → Entries → Type 0
Stays E F = (k : Key) (kind : wire.Token) (id : ℕ) → E k kind id → F k kind id

home_more : (g : Ground) (seen : Seen) (few many : Homes) (r : Ref) (note : Note) → Keeps few many → IsHomeOf g seen few r note → IsHomeOf g seen many r note
home_more g seen few many r note keep h = (h.0, keep (note.key, r) h.1)

mutual
  pub good_more : (g : Ground) (seen : Seen) (homes all few many : Homes) (less more : List Sheet) (E F : Entries) (r : Ref) (d : Drawn) → Keeps homes all → Keeps few many → Keeps less more → Stays E F → IsGood g seen homes few less E r d → IsGood g seen all many more F r d
  good_more g seen homes all few many less more E F r (leaf None at) a b c e h = h
  good_more g seen homes all few many less more E F r (leaf (Some v) at) a b c e h = (h.0, h.1, leaf_more g seen homes all less more at h.0 a c h.2)
  good_more g seen homes all few many less more E F r (is_token note kind id) a b c e h = (home_more g seen few many r note b h.0, e note.key kind id h.1)
  good_more g seen homes all few many less more E F r (composite None form ps) a b c e h = (tt, h.1, goods_more g seen homes all few many less more E F r ps a b c e h.2)
  good_more g seen homes all few many less more E F r (composite (Some note) form ps) a b c e h =
      let home = h.0 in ((home_more g seen few many r note b home.0, home.1), h.1, goods_more g seen homes all few many less more E F r ps a b c e h.2)

  pub goods_more : (g : Ground) (seen : Seen) (homes all few many : Homes) (less more : List Sheet) (E F : Entries) (r : Ref) (ps : Parts) → Keeps homes all → Keeps few many → Keeps less more → Stays E F → AreGood g seen homes few less E r ps → AreGood g seen all many more F r ps
  goods_more g seen homes all few many less more E F r no_parts a b c e h = tt
  goods_more g seen homes all few many less more E F r (part_and name d rest) a b c e h = (good_more g seen homes all few many less more E F (below r name) d a b c e h.0, goods_more g seen homes all few many less more E F r rest a b c e h.1)

due_more : (g : Ground) (seen : Seen) (xs ys : List Due) → Keeps xs ys → Stays (AreDue g seen xs) (AreDue g seen ys)
due_more g seen xs ys keep k kind id h = (keep _ h.0, h.1)

-- ---- one part more

abbrev snoc : Parts → List ℕ → Drawn → Parts
snoc no_parts name d = part_and name d no_parts
snoc (part_and first e rest) name d = part_and first e (snoc rest name d)

snoc_names : (ps : Parts) (name : List ℕ) (d : Drawn) → names_in (snoc ps name d) ≡ names_in ps ++ name ∷ []
snoc_names no_parts name d = refl
snoc_names (part_and first e rest) name d = ap (λ z. first ∷ z) (snoc_names rest name d)

snoc_values : (ps : Parts) (name : List ℕ) (d : Drawn) → values_in (snoc ps name d) ≡ values_in ps ++ value_at d ∷ []
snoc_values no_parts name d = refl
snoc_values (part_and first e rest) name d = ap (λ z. value_at e ∷ z) (snoc_values rest name d)

snoc_tokens : (form : Form) (ps : Parts) (name : List ℕ) (d : Drawn) → tokens_in form (snoc ps name d) ≡ tokens_in form ps ++ part_tokens form name d
snoc_tokens form no_parts name d = append-nil (part_tokens form name d)
snoc_tokens form (part_and first e rest) name d =
    ap (λ z. part_tokens form first e ++ z) (snoc_tokens form rest name d) ∙ sym (append_assoc (part_tokens form first e) (tokens_in form rest) (part_tokens form name d))

snoc_homes : (r : Ref) (ps : Parts) (name : List ℕ) (d : Drawn) → homes_of r (snoc ps name d) ≡ homes_of r ps ++ homes_in (below r name) d
snoc_homes r no_parts name d = append-nil (homes_in (below r name) d)
snoc_homes r (part_and first e rest) name d =
    ap (λ z. homes_in (below r first) e ++ z) (snoc_homes r rest name d) ∙ sym (append_assoc (homes_in (below r first) e) (homes_of r rest) (homes_in (below r name) d))

snoc_good : (g : Ground) (seen : Seen) (homes more : Homes) (sheets : List Sheet) (E : Entries) (r : Ref) (ps : Parts) (name : List ℕ) (d : Drawn) → AreGood g seen homes more sheets E r ps → IsGood g seen homes more sheets E (below r name) d → AreGood g seen homes more sheets E r (snoc ps name d)
snoc_good g seen homes more sheets E r no_parts name d h i = (i, tt)
snoc_good g seen homes more sheets E r (part_and first e rest) name d h i = (h.0, snoc_good g seen homes more sheets E r rest name d h.1 i)

snoc_writable : (ps : Parts) (name : List ℕ) (d : Drawn) → AllWritable ps → IsWritable (tree_of d) → AllWritable (snoc ps name d)
snoc_writable no_parts name d h i = (i, tt)
snoc_writable (part_and first e rest) name d h i = (h.0, snoc_writable rest name d h.1 i)

snoc_within : (levels : ℕ) (ps : Parts) (name : List ℕ) (d : Drawn) → AllWithin levels ps → depth (tree_of d) ≤ levels → AllWithin levels (snoc ps name d)
snoc_within levels no_parts name d h i = (i, tt)
snoc_within levels (part_and first e rest) name d h i = (h.0, snoc_within levels rest name d h.1 i)

-- ---- parts one after another

keeps_front : {A : Type 0} (xs ys zs : List A) → zs ≡ xs ++ ys → Keeps xs zs
keeps_front xs ys zs e x i = subst (In x) (sym e) (in_front xs ys x i)

keeps_back : {A : Type 0} (xs ys zs : List A) → zs ≡ xs ++ ys → Keeps ys zs
keeps_back xs ys zs e x i = subst (In x) (sym e) (in_behind xs ys x i)

pub parts_none : (g : Ground) (seen : Seen) (v : Value) (form : Form) (r : Ref) (levels : ℕ) (s : Stage) → WroteParts g seen v form r [] [] levels s s
parts_none g seen v form r levels s =
    record {
      acts = [];
      parts = no_parts;
      grows = grows_none g seen v s s refl refl refl refl refl;
      tokens = sym (append-nil s.out);
      are_names = refl;
      are_values = refl;
      good = tt;
      placed = λ k a i. i;
      writable = tt;
      shallow = tt;
    }

name_first : (form : Form) (name : List ℕ) (d : Drawn) → part_tokens form name d ≡ name_tokens form name ++ tokens_of (tree_of d)
name_first as_array name d = refl
name_first as_object name d = refl
name_first as_element name d = refl

pub parts_more : (g : Ground) (seen : Seen) (v w : Value) (form : Form) (r : Ref) (names : List (List ℕ)) (values : List Value) (levels : ℕ) (name : List ℕ) (s t m u : Stage)
    → WroteParts g seen v form r names values levels s t → m ≡ record t { out = t.out ++ name_tokens form name } → Met g seen v w → Wrote g seen (below r name) w levels m u
    → WroteParts g seen v form r (names ++ name ∷ []) (values ++ w ∷ []) levels s u
parts_more g seen v w form r names values levels name s t m u a named met b =
    let xs = a.acts in
    let ys = b.acts in
    let d = b.drawn in
    let same = ap (λ z. z.next) named in
    let n = same ∙ (let grown = a.grows in grown.next) in
    let more = grows_on g seen v w ys m u met b.grows in
    let second : Grows g seen v ys t u =
    record {
      homes = more.homes ∙ ap₂ (λ y z. y ++ homes_by z ys) (ap (λ z. z.homes) named) same;
      next = more.next ∙ ap (λ z. z + takes ys) same;
      added = more.added;
      rows = more.rows ∙ ap (λ z. z ++ more.added) (ap (λ z. z.rows) named);
      sheets = subst (λ z. AllZip HasSheet more.added (sheets_by z ys)) same more.sheets;
      births = more.births ∙ ap₂ (λ y z. y ++ births_by z ys) (ap (λ z. z.births) named) same;
      dues = more.dues ∙ ap₂ (λ y z. y ++ dues_by z ys) (ap (λ z. z.dues) named) same;
      below = λ low. more.below (subst (λ z. z ≤ 2 ^ 31) (sym same) low);
      keys = subst (λ z. AreNew z (homes_by t.next ys)) (ap (λ z. z.homes) named) (subst (λ z. AreNew m.homes (homes_by z ys)) same more.keys);
      fit = more.fit;
    } in
    let homes = homes-append s.next xs ys in
    let sheets = sheets-append s.next xs ys in
    let dues = dues-append s.next xs ys in
    record {
      acts = xs ++ ys;
      parts = snoc a.parts name d;
      grows = grows_more g seen v xs ys s t u a.grows second;
      tokens = b.tokens ∙ (ap (λ z. z ++ tokens_of (tree_of d)) (ap (λ z. z.out) named)
          ∙ (append_assoc t.out (name_tokens form name) (tokens_of (tree_of d)) ∙ (ap (λ z. t.out ++ z) (sym (name_first form name d))
          ∙ (ap (λ z. z ++ part_tokens form name d) a.tokens ∙ (append_assoc s.out (tokens_in form a.parts) (part_tokens form name d) ∙ ap (λ z. s.out ++ z) (sym (snoc_tokens form a.parts name d)))))));
      are_names = snoc_names a.parts name d ∙ ap (λ z. z ++ name ∷ []) a.are_names;
      are_values = snoc_values a.parts name d ∙ (ap₂ (λ y z. y ++ z ∷ []) a.are_values b.is_value ∙ sym (map-append Some values (w ∷ [])));
      good = snoc_good g seen u.homes (homes_by s.next (xs ++ ys)) (sheets_by s.next (xs ++ ys)) (AreDue g seen (dues_by s.next (xs ++ ys))) r a.parts name d
          (goods_more g seen t.homes u.homes (homes_by s.next xs) (homes_by s.next (xs ++ ys)) (sheets_by s.next xs) (sheets_by s.next (xs ++ ys)) (AreDue g seen (dues_by s.next xs)) (AreDue g seen (dues_by s.next (xs ++ ys))) r a.parts
          (keeps_front t.homes (homes_by t.next ys) u.homes second.homes)
          (keeps_front (homes_by s.next xs) (homes_by (s.next + takes xs) ys) (homes_by s.next (xs ++ ys)) homes)
          (keeps_front (sheets_by s.next xs) (sheets_by (s.next + takes xs) ys) (sheets_by s.next (xs ++ ys)) sheets)
          (due_more g seen (dues_by s.next xs) (dues_by s.next (xs ++ ys)) (keeps_front (dues_by s.next xs) (dues_by (s.next + takes xs) ys) (dues_by s.next (xs ++ ys)) dues)) a.good)
          (good_more g seen u.homes u.homes (homes_by m.next ys) (homes_by s.next (xs ++ ys)) (sheets_by m.next ys) (sheets_by s.next (xs ++ ys)) (AreDue g seen (dues_by m.next ys)) (AreDue g seen (dues_by s.next (xs ++ ys))) (below r name) d
          (λ x i. i)
          (keeps_back (homes_by s.next xs) (homes_by m.next ys) (homes_by s.next (xs ++ ys)) (homes ∙ ap (λ z. homes_by s.next xs ++ homes_by z ys) (sym n)))
          (keeps_back (sheets_by s.next xs) (sheets_by m.next ys) (sheets_by s.next (xs ++ ys)) (sheets ∙ ap (λ z. sheets_by s.next xs ++ sheets_by z ys) (sym n)))
          (due_more g seen (dues_by m.next ys) (dues_by s.next (xs ++ ys)) (keeps_back (dues_by s.next xs) (dues_by m.next ys) (dues_by s.next (xs ++ ys)) (dues ∙ ap (λ z. dues_by s.next xs ++ dues_by z ys) (sym n)))) b.good);
      placed = λ k h i. subst (In (k, h)) (sym (snoc_homes r a.parts name d))
          (⊎_elim (λ j. in_front (homes_of r a.parts) (homes_in (below r name) d) (k, h) (a.placed k h j)) (λ j. in_behind (homes_of r a.parts) (homes_in (below r name) d) (k, h) (b.placed k h j))
          (in_either (places_by xs) (places_by ys) (k, h) (subst (In (k, h)) (places-append xs ys) i)));
      writable = snoc_writable a.parts name d a.writable b.writable;
      shallow = snoc_within levels a.parts name d a.shallow b.shallow;
    }
