-- What acts add, one after another.
use Rattle.std.proofs.Common.{◌≡◌, ℕ, suc, ◌+◌, ◌^◌, ◌<◌, ◌≤◌, inl, inr, ⊎_elim, List, [], ◌∷◌, ◌++◌, Option, Some, None, refl, sym, ap, ◌∙◌, subst, arith, append_assoc, append-nil}
use Rattle.std.specs.List.{AllZip}
use Rattle.std.proofs.lemmas.List.Elements.{All-nil}
use Rattle.flight_text.specs.Reference.{IsName}
use Rattle.flight_value.specs.Listed.{In}
use Rattle.flight_value.specs.declared.key.Key.{Key}
use Rattle.flight_value.specs.declared.key.Key.TheVariants as key
use Rattle.flight_text.specs.declared.mark.Ref.{Ref}
use Rattle.flight_text.specs.Mark.{IsPlace}
use Rattle.flight_home.specs.Homes.{Homes, IsNew}
use Rattle.flight_render.specs.declared.root.Ground.{Ground}
use Rattle.flight_render.specs.Jobs.{Job, Value}
use Rattle.flight_render.specs.Attempt.{job_for}
use Rattle.flight_meaning.specs.declared.place.Place.{Place}
use Rattle.flight_state.specs.State.{next_what}
use Rattle.flight_state.specs.Local.{Seen, Met, at_first, in_slot, in_place, MetBy}
use Rattle.flight_state.proofs.Lists.{zip-append, in_front, in_either}
use Rattle.flight_emit.specs.Sheet.{Sheet, root}
use Rattle.flight_emit.specs.Good as good
use Rattle.flight_emit.specs.Good.{IsLeaf}
use Rattle.flight_emit.specs.Log.{Taken, atom_row, value_row, entries_row, task, stream_row, reference_row, Act, put, take, home_for, sheet_for, birth_for, due_for, takes, homes_by, places_by, sheets_by, births_by, dues_by, value_of_key, IsMetNode, FitsTaken, FitActs, AreNew, HasSheet, ArePlaces, Stage, Grows, Took}

-- ---- lists of acts

same_plus : (n : ℕ) → n ≡ n + 0
same_plus n = omega arith

zero_plus : (n : ℕ) → n ≡ 0 + n
zero_plus n = omega arith

pub takes-append : (xs ys : List Act) → takes (xs ++ ys) ≡ takes xs + takes ys
takes-append [] ys = zero_plus (takes ys)
takes-append (put k r ∷ xs) ys = takes-append xs ys
takes-append (take t ∷ xs) ys = let e = takes-append xs ys in omega (arith, e)

next_id : (n k : ℕ) → suc n + k ≡ n + suc k
next_id n k = omega arith

pub homes-append : (n : ℕ) (xs ys : List Act) → homes_by n (xs ++ ys) ≡ homes_by n xs ++ homes_by (n + takes xs) ys
homes-append n [] ys = ap (λ m. homes_by m ys) (same_plus n)
homes-append n (put k r ∷ xs) ys = ap (λ zs. (k, r) ∷ zs) (homes-append n xs ys)
homes-append n (take t ∷ xs) ys =
    ap (λ zs. home_for n t ++ zs) (homes-append (suc n) xs ys ∙ ap (λ m. homes_by (suc n) xs ++ homes_by m ys) (next_id n (takes xs)))
    ∙ sym (append_assoc (home_for n t) (homes_by (suc n) xs) (homes_by (n + suc (takes xs)) ys))

pub sheets-append : (n : ℕ) (xs ys : List Act) → sheets_by n (xs ++ ys) ≡ sheets_by n xs ++ sheets_by (n + takes xs) ys
sheets-append n [] ys = ap (λ m. sheets_by m ys) (same_plus n)
sheets-append n (put k r ∷ xs) ys = sheets-append n xs ys
sheets-append n (take t ∷ xs) ys =
    ap (λ zs. sheet_for n t ++ zs) (sheets-append (suc n) xs ys ∙ ap (λ m. sheets_by (suc n) xs ++ sheets_by m ys) (next_id n (takes xs)))
    ∙ sym (append_assoc (sheet_for n t) (sheets_by (suc n) xs) (sheets_by (n + suc (takes xs)) ys))

pub births-append : (n : ℕ) (xs ys : List Act) → births_by n (xs ++ ys) ≡ births_by n xs ++ births_by (n + takes xs) ys
births-append n [] ys = ap (λ m. births_by m ys) (same_plus n)
births-append n (put k r ∷ xs) ys = births-append n xs ys
births-append n (take t ∷ xs) ys =
    ap (λ zs. birth_for n t ++ zs) (births-append (suc n) xs ys ∙ ap (λ m. births_by (suc n) xs ++ births_by m ys) (next_id n (takes xs)))
    ∙ sym (append_assoc (birth_for n t) (births_by (suc n) xs) (births_by (n + suc (takes xs)) ys))

pub dues-append : (n : ℕ) (xs ys : List Act) → dues_by n (xs ++ ys) ≡ dues_by n xs ++ dues_by (n + takes xs) ys
dues-append n [] ys = ap (λ m. dues_by m ys) (same_plus n)
dues-append n (put k r ∷ xs) ys = dues-append n xs ys
dues-append n (take t ∷ xs) ys =
    ap (λ zs. due_for n t ++ zs) (dues-append (suc n) xs ys ∙ ap (λ m. dues_by (suc n) xs ++ dues_by m ys) (next_id n (takes xs)))
    ∙ sym (append_assoc (due_for n t) (dues_by (suc n) xs) (dues_by (n + suc (takes xs)) ys))

pub places-append : (xs ys : List Act) → places_by (xs ++ ys) ≡ places_by xs ++ places_by ys
places-append [] ys = refl
places-append (put k r ∷ xs) ys = ap (λ zs. (k, r) ∷ zs) (places-append xs ys)
places-append (take t ∷ xs) ys = places-append xs ys

-- ---- more homes

abbrev pub Keeps : {A : Type 0} → List A → List A → Type 0
Keeps {A} xs ys = (x : A) → In x xs → In x ys

pub leaf_more : (g : Ground) (seen : Seen) (homes more : Homes) (sheets others : List Sheet) (at : Place) (v : Value) → Keeps homes more → Keeps sheets others → IsLeaf g seen homes sheets at v → IsLeaf g seen more others at v
leaf_more g seen homes more sheets others at v keep stay (good.an_atom a is_place target certain) = good.an_atom a is_place target certain
leaf_more g seen homes more sheets others at v keep stay (good.an_atom_row a id refers is_row target certain) = good.an_atom_row a id refers (is_row.0, stay _ is_row.1) target certain
leaf_more g seen homes more sheets others at v keep stay (good.a_known_atom a k r refers home of target) = good.a_known_atom a k r refers (keep (k, r) home) of target
leaf_more g seen homes more sheets others at v keep stay (good.a_reference k r shape node home is_shape refers) = good.a_reference k r shape node (keep (k, r) home) is_shape refers
leaf_more g seen homes more sheets others at v keep stay (good.a_stream stream r target home refers) = good.a_stream stream r target (keep (key.Stream stream, r) home) refers
leaf_more g seen homes more sheets others at v keep stay (good.a_task n r is_seen job home refers) = good.a_task n r is_seen job (keep (key.Server n, r) home) refers

taken_more : (g : Ground) (seen : Seen) (v : Value) (homes more : Homes) (t : Taken) → Keeps homes more → FitsTaken g seen v homes t → FitsTaken g seen v more t
taken_more g seen v homes more (atom_row home kind a) keep h = h
taken_more g seen v homes more (value_row k) keep h = h
taken_more g seen v homes more (entries_row k) keep h = h
taken_more g seen v homes more (task k w) keep h = h
taken_more g seen v homes more (stream_row stream flows) keep h = h
taken_more g seen v homes more (reference_row k name w at) keep h = let z = h.2 in (h.0, h.1, (z.0, z.1, leaf_more g seen homes more [] [] at z.0 keep (λ x i. i) z.2))

pub acts_more : (g : Ground) (seen : Seen) (v : Value) (homes more : Homes) (acts : List Act) → Keeps homes more → FitActs g seen v homes acts → FitActs g seen v more acts
acts_more g seen v homes more [] keep h = tt
acts_more g seen v homes more (put k r ∷ acts) keep h = (h.0, acts_more g seen v homes more acts keep h.1)
acts_more g seen v homes more (take t ∷ acts) keep h = (taken_more g seen v homes more t keep h.0, acts_more g seen v homes more acts keep h.1)

pub acts-append : (g : Ground) (seen : Seen) (v : Value) (homes : Homes) (xs ys : List Act) → FitActs g seen v homes xs → FitActs g seen v homes ys → FitActs g seen v homes (xs ++ ys)
acts-append g seen v homes [] ys h i = i
acts-append g seen v homes (x ∷ xs) ys h i = (h.0, acts-append g seen v homes xs ys h.1 i)

-- ---- from a value that was met

pub met_on : (g : Ground) (seen : Seen) (v w z : Value) → Met g seen v w → Met g seen w z → Met g seen v z
met_on g seen v w _ first at_first = first
met_on g seen v w z first (in_slot rest is_seen no_job target lasting shape slot) = in_slot (met_on g seen v w _ first rest) is_seen no_job target lasting shape slot
met_on g seen v w _ first (in_place n end rest is_seen job ends) = in_place n end (met_on g seen v w _ first rest) is_seen job ends

metby_on : (g : Ground) (seen : Seen) (v w : Value) (j : Job) (o : Option ℕ) → Met g seen v w → MetBy g seen w j o → MetBy g seen v j o
metby_on g seen v w j None first h = (h.0, met_on g seen v w h.0 first h.1, h.2, h.3)
metby_on g seen v w j (Some stream) first h = (h.0, met_on g seen v w h.0 first h.1, h.2)

node_on : (g : Ground) (seen : Seen) (v w : Value) (k : Key) → Met g seen v w → IsMetNode g seen w k → IsMetNode g seen v k
node_on g seen v w k first h = record { met = met_on g seen v w (value_of_key k) first h.met; node = h.node; shape = h.shape; is_shape = h.is_shape }

taken_on : (g : Ground) (seen : Seen) (v w : Value) (homes : Homes) (t : Taken) → Met g seen v w → FitsTaken g seen w homes t → FitsTaken g seen v homes t
taken_on g seen v w homes (atom_row home kind a) first h = h
taken_on g seen v w homes (value_row k) first h = node_on g seen v w k first h
taken_on g seen v w homes (entries_row k) first h = node_on g seen v w k first h
taken_on g seen v w homes (task k what) first h = (h.0, metby_on g seen v w (job_for g what) None first h.1, h.2, h.3)
taken_on g seen v w homes (stream_row stream flows) first h = (h.0, metby_on g seen v w (job_for g (next_what stream flows.items 0)) (Some stream) first h.1)
taken_on g seen v w homes (reference_row k name z at) first h = h

pub acts_on : (g : Ground) (seen : Seen) (v w : Value) (homes : Homes) (acts : List Act) → Met g seen v w → FitActs g seen w homes acts → FitActs g seen v homes acts
acts_on g seen v w homes [] first h = tt
acts_on g seen v w homes (put k r ∷ acts) first h = (h.0, acts_on g seen v w homes acts first h.1)
acts_on g seen v w homes (take t ∷ acts) first h = (taken_on g seen v w homes t first h.0, acts_on g seen v w homes acts first h.1)

-- ---- keys that are new

pub new-append : (homes xs ys : Homes) → AreNew homes xs → AreNew (homes ++ xs) ys → AreNew homes (xs ++ ys)
new-append homes [] ys h i = subst (λ z. AreNew z ys) (append-nil homes) i
new-append homes ((k, r) ∷ xs) ys h i = (h.0, new-append (homes ++ (k, r) ∷ []) xs ys h.1 (subst (λ z. AreNew z ys) (sym (append_assoc homes ((k, r) ∷ []) xs)) i))

-- ---- growth

pub grows_none : (g : Ground) (seen : Seen) (v : Value) (s u : Stage) → u.homes ≡ s.homes → u.next ≡ s.next → u.rows ≡ s.rows → u.births ≡ s.births → u.dues ≡ s.dues → Grows g seen v [] s u
grows_none g seen v s u homes next rows births dues =
    record {
      homes = homes ∙ sym (append-nil s.homes);
      next = let e = next in omega (arith, e);
      added = [];
      rows = rows ∙ sym (append-nil s.rows);
      sheets = tt;
      births = births ∙ sym (append-nil s.births);
      dues = dues ∙ sym (append-nil s.dues);
      below = λ low. let e = next in omega (arith, e, low);
      keys = tt;
      fit = tt;
    }

append_two : {A : Type 0} (a b c x y : List A) → b ≡ a ++ x → c ≡ b ++ y → c ≡ a ++ (x ++ y)
append_two a b c x y e f = f ∙ (ap (λ z. z ++ y) e ∙ append_assoc a x y)

pub grows_more : (g : Ground) (seen : Seen) (v : Value) (xs ys : List Act) (s t u : Stage) → Grows g seen v xs s t → Grows g seen v ys t u → Grows g seen v (xs ++ ys) s u
grows_more g seen v xs ys s t u a b =
    let n = a.next in
    let homes = ap (λ m. homes_by m ys) n in
    record {
      homes = append_two s.homes t.homes u.homes (homes_by s.next xs) (homes_by (s.next + takes xs) ys) a.homes (b.homes ∙ ap (λ z. t.homes ++ z) homes) ∙ ap (λ z. s.homes ++ z) (sym (homes-append s.next xs ys));
      next = let e = takes-append xs ys in let f = b.next in omega (arith, e, f, n);
      added = a.added ++ b.added;
      rows = append_two s.rows t.rows u.rows a.added b.added a.rows b.rows;
      sheets = subst (λ z. AllZip HasSheet (a.added ++ b.added) z) (sym (sheets-append s.next xs ys))
          (zip-append HasSheet a.added b.added (sheets_by s.next xs) (sheets_by (s.next + takes xs) ys) a.sheets (subst (λ m. AllZip HasSheet b.added (sheets_by m ys)) n b.sheets));
      births = append_two s.births t.births u.births (births_by s.next xs) (births_by (s.next + takes xs) ys) a.births (b.births ∙ ap (λ m. t.births ++ births_by m ys) n) ∙ ap (λ z. s.births ++ z) (sym (births-append s.next xs ys));
      dues = append_two s.dues t.dues u.dues (dues_by s.next xs) (dues_by (s.next + takes xs) ys) a.dues (b.dues ∙ ap (λ m. t.dues ++ dues_by m ys) n) ∙ ap (λ z. s.dues ++ z) (sym (dues-append s.next xs ys));
      below = λ low. b.below (a.below low);
      keys = subst (AreNew s.homes) (sym (homes-append s.next xs ys))
          (new-append s.homes (homes_by s.next xs) (homes_by (s.next + takes xs) ys) a.keys (subst (λ z. AreNew z (homes_by (s.next + takes xs) ys)) a.homes (subst (λ m. AreNew t.homes (homes_by m ys)) n b.keys)));
      fit = acts-append g seen v u.homes xs ys (acts_more g seen v t.homes u.homes xs (λ x i. subst (In x) (sym b.homes) (in_front t.homes (homes_by t.next ys) x i)) a.fit) b.fit;
    }

pub grows_on : (g : Ground) (seen : Seen) (v w : Value) (acts : List Act) (s u : Stage) → Met g seen v w → Grows g seen w acts s u → Grows g seen v acts s u
grows_on g seen v w acts s u first a =
    record { homes = a.homes; next = a.next; added = a.added; rows = a.rows; sheets = a.sheets; births = a.births; dues = a.dues; below = a.below; keys = a.keys; fit = acts_on g seen v w u.homes acts first a.fit }

pub grows_took : (g : Ground) (seen : Seen) (v : Value) (t : Taken) (s u : Stage) → Took t s u → AreNew s.homes (home_for s.next t) → FitsTaken g seen v u.homes t → Grows g seen v (take t ∷ []) s u
grows_took g seen v t s u a new fit =
    record {
      homes = a.homes ∙ ap (λ z. s.homes ++ z) (sym (append-nil (home_for s.next t)));
      next = let e = a.next in omega (arith, e);
      added = a.added;
      rows = a.rows;
      sheets = subst (λ z. AllZip HasSheet a.added z) (sym (append-nil (sheet_for s.next t))) a.sheets;
      births = a.births ∙ ap (λ z. s.births ++ z) (sym (append-nil (birth_for s.next t)));
      dues = a.dues ∙ ap (λ z. s.dues ++ z) (sym (append-nil (due_for s.next t)));
      below = λ low. a.below;
      keys = subst (AreNew s.homes) (sym (append-nil (home_for s.next t))) new;
      fit = (fit, tt);
    }

pub grows_put : (g : Ground) (seen : Seen) (v : Value) (k : Key) (r : Ref) (s u : Stage) → IsPlace r → u ≡ record s { homes = s.homes ++ (k, r) ∷ [] } → IsNew k s.homes → Grows g seen v (put k r ∷ []) s u
grows_put g seen v k r s u is_place e new =
    record {
      homes = ap (λ z. z.homes) e;
      next = let f = ap (λ z. z.next) e in omega (arith, f);
      added = [];
      rows = ap (λ z. z.rows) e ∙ sym (append-nil s.rows);
      sheets = tt;
      births = ap (λ z. z.births) e ∙ sym (append-nil s.births);
      dues = ap (λ z. z.dues) e ∙ sym (append-nil s.dues);
      below = λ low. let f = ap (λ z. z.next) e in omega (arith, f, low);
      keys = (new, tt);
      fit = (is_place, tt);
    }

-- the payload is no part of growth
pub grows_out : (g : Ground) (seen : Seen) (v : Value) (acts : List Act) (s t u : Stage) → Grows g seen v acts s t → u ≡ record t { out = u.out } → Grows g seen v acts s u
grows_out g seen v acts s t u a e =
    record {
      homes = ap (λ z. z.homes) e ∙ a.homes;
      next = ap (λ z. z.next) e ∙ a.next;
      added = a.added;
      rows = ap (λ z. z.rows) e ∙ a.rows;
      sheets = a.sheets;
      births = ap (λ z. z.births) e ∙ a.births;
      dues = ap (λ z. z.dues) e ∙ a.dues;
      below = λ low. let f = ap (λ z. z.next) e in let h = a.below low in omega (arith, f, h);
      keys = a.keys;
      fit = subst (λ z. FitActs g seen v z acts) (sym (ap (λ z. z.homes) e)) a.fit;
    }

-- ---- homes stay places

pub root_place : (n : ℕ) → n < 2 ^ 31 → IsPlace (root n)
root_place n low = record { small = low; names = All-nil IsName }

home_places : (n : ℕ) (t : Taken) (k : Key) (r : Ref) → n < 2 ^ 31 → In (k, r) (home_for n t) → IsPlace r
home_places n (atom_row None kind a) k r low i = absurd i
home_places n (atom_row (Some home) kind a) k r low (inl e) = subst IsPlace (sym (ap (λ z. z.1) e)) (root_place n low)
home_places n (atom_row (Some home) kind a) k r low (inr i) = absurd i
home_places n (value_row home) k r low (inl e) = subst IsPlace (sym (ap (λ z. z.1) e)) (root_place n low)
home_places n (value_row home) k r low (inr i) = absurd i
home_places n (entries_row home) k r low i = absurd i
home_places n (task home w) k r low (inl e) = subst IsPlace (sym (ap (λ z. z.1) e)) (root_place n low)
home_places n (task home w) k r low (inr i) = absurd i
home_places n (stream_row stream flows) k r low (inl e) = subst IsPlace (sym (ap (λ z. z.1) e)) (root_place n low)
home_places n (stream_row stream flows) k r low (inr i) = absurd i
home_places n (reference_row home name v at) k r low (inl e) = subst IsPlace (sym (ap (λ z. z.1) e)) (root_place n low)
home_places n (reference_row home name v at) k r low (inr i) = absurd i

acts_places : (g : Ground) (seen : Seen) (v : Value) (homes : Homes) (acts : List Act) (n : ℕ) (k : Key) (r : Ref) → n + takes acts ≤ 2 ^ 31 → FitActs g seen v homes acts → In (k, r) (homes_by n acts) → IsPlace r
acts_places g seen v homes [] n k r low fit i = absurd i
acts_places g seen v homes (put node at ∷ acts) n k r low fit (inl e) = subst IsPlace (sym (ap (λ z. z.1) e)) fit.0
acts_places g seen v homes (put node at ∷ acts) n k r low fit (inr i) = acts_places g seen v homes acts n k r low fit.1 i
acts_places g seen v homes (take t ∷ acts) n k r low fit i =
    ⊎_elim (λ j. home_places n t k r (omega (arith, low)) j) (λ j. acts_places g seen v homes acts (suc n) k r (omega (arith, low)) fit.1 j)
    (in_either (home_for n t) (homes_by (suc n) acts) (k, r) i)

pub places_kept : (g : Ground) (seen : Seen) (v : Value) (acts : List Act) (s u : Stage) → s.next ≤ 2 ^ 31 → ArePlaces s.homes → Grows g seen v acts s u → ArePlaces u.homes
places_kept g seen v acts s u low places grown k r i =
    ⊎_elim (λ j. places k r j) (λ j. acts_places g seen v u.homes acts s.next k r (let e = grown.next in let h = grown.below low in omega (arith, e, h)) grown.fit j)
    (in_either s.homes (homes_by s.next acts) (k, r) (subst (In (k, r)) grown.homes i))
