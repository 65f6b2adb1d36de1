-- Acts whose rows are all written are on paper.
use Rattle.std.proofs.Common.{◌≡◌, ℕ, suc, ◌⊎◌, inl, inr, ⊎_elim, List, [], ◌∷◌, ◌++◌, length, refl, sym, ap, ◌∙◌, subst, arith}
use Rattle.flight_value.specs.Listed.{In}
use Rattle.flight_value.specs.declared.key.Key.{Key}
use Rattle.flight_text.specs.declared.mark.Ref.{Ref}
use Rattle.flight_home.specs.Homes.{Homes, IsNew}
use Rattle.flight_render.specs.declared.root.Ground.{Ground}
use Rattle.flight_render.specs.declared.job.What.{What}
use Rattle.flight_render.specs.Jobs.{Value}
use Rattle.flight_state.specs.Local.{Seen}
use Rattle.flight_state.proofs.Lists.{in_front, in_behind, in_either}
use Rattle.flight_emit.specs.declared.work.Due.{Due}
use Rattle.flight_emit.specs.Sheet.{Sheet}
use Rattle.flight_emit.specs.Whole.{ids_from}
use Rattle.flight_emit.specs.Log.{Taken, Act, put, take, takes, home_for, sheet_for, birth_for, due_for, homes_by, places_by, sheets_by, births_by, dues_by, FitsTaken, FitActs, AreNew}
use Rattle.flight_emit.specs.Finished.{use_of, uses_of}

-- ---- ids

pub uses_count : (acts : List Act) → length (uses_of acts) ≡ takes acts
uses_count [] = refl
uses_count (put k r ∷ acts) = uses_count acts
uses_count (take t ∷ acts) = let e = uses_count acts in omega (arith, e)

-- what an act adds under an id
pub record Added (start : ℕ) (acts : List Act) (id : ℕ) (t : Taken) : Type 0 where
  pub is_use : In (id, use_of t) (ids_from start (uses_of acts))
  pub sheets : (s : Sheet) → In s (sheet_for id t) → In s (sheets_by start acts)
  pub births : (b : ℕ × What) → In b (birth_for id t) → In b (births_by start acts)
  pub dues : (d : Due) → In d (due_for id t) → In d (dues_by start acts)
  pub homes : (h : Key × Ref) → In h (home_for id t) → In h (homes_by start acts)

added_first : (start : ℕ) (t : Taken) (acts : List Act) → Added start (take t ∷ acts) start t
added_first start t acts =
    record {
      is_use = inl refl;
      sheets = λ s i. in_front (sheet_for start t) (sheets_by (suc start) acts) s i;
      births = λ b i. in_front (birth_for start t) (births_by (suc start) acts) b i;
      dues = λ d i. in_front (due_for start t) (dues_by (suc start) acts) d i;
      homes = λ h i. in_front (home_for start t) (homes_by (suc start) acts) h i;
    }

added_later : (start : ℕ) (t u : Taken) (acts : List Act) (id : ℕ) → Added (suc start) acts id u → Added start (take t ∷ acts) id u
added_later start t u acts id a =
    record {
      is_use = inr a.is_use;
      sheets = λ s i. in_behind (sheet_for start t) (sheets_by (suc start) acts) s (a.sheets s i);
      births = λ b i. in_behind (birth_for start t) (births_by (suc start) acts) b (a.births b i);
      dues = λ d i. in_behind (due_for start t) (dues_by (suc start) acts) d (a.dues d i);
      homes = λ h i. in_behind (home_for start t) (homes_by (suc start) acts) h (a.homes h i);
    }

added_put : (start : ℕ) (k : Key) (r : Ref) (u : Taken) (acts : List Act) (id : ℕ) → Added start acts id u → Added start (put k r ∷ acts) id u
added_put start k r u acts id a = record { is_use = a.is_use; sheets = a.sheets; births = a.births; dues = a.dues; homes = λ h i. inr (a.homes h i) }

-- a taken id, with what was known when it was taken
pub record Source (g : Ground) (seen : Seen) (first : Value) (all : Homes) (start : ℕ) (acts : List Act) (P : ℕ → Taken → Type 0) : Type 0 where
  pub id : ℕ
  pub taken : Taken
  pub added : Added start acts id taken
  pub fits : FitsTaken g seen first all taken
  pub is : P id taken

source_later : (g : Ground) (seen : Seen) (first : Value) (all : Homes) (start : ℕ) (t : Taken) (acts : List Act) (P : ℕ → Taken → Type 0) → Source g seen first all (suc start) acts P → Source g seen first all start (take t ∷ acts) P
source_later g seen first all start t acts P s = record { id = s.id; taken = s.taken; added = added_later start t s.taken acts s.id s.added; fits = s.fits; is = s.is }

source_put : (g : Ground) (seen : Seen) (first : Value) (all : Homes) (start : ℕ) (k : Key) (r : Ref) (acts : List Act) (P : ℕ → Taken → Type 0) → Source g seen first all start acts P → Source g seen first all start (put k r ∷ acts) P
source_put g seen first all start k r acts P s = record { id = s.id; taken = s.taken; added = added_put start k r s.taken acts s.id s.added; fits = s.fits; is = s.is }

abbrev GivesSheet : Sheet → ℕ → Taken → Type 0
GivesSheet s id t = In s (sheet_for id t)

pub sheet_source : (g : Ground) (seen : Seen) (first : Value) (all : Homes) (start : ℕ) (acts : List Act) (s : Sheet) → FitActs g seen first all acts → In s (sheets_by start acts) → Source g seen first all start acts (GivesSheet s)
sheet_source g seen first all start [] s fit i = absurd i
sheet_source g seen first all start (put k r ∷ acts) s fit i = source_put g seen first all start k r acts (GivesSheet s) (sheet_source g seen first all start acts s fit.1 i)
sheet_source g seen first all start (take t ∷ acts) s fit i =
    ⊎_elim (λ j. record { id = start; taken = t; added = added_first start t acts; fits = fit.0; is = j })
    (λ j. source_later g seen first all start t acts (GivesSheet s) (sheet_source g seen first all (suc start) acts s fit.1 j))
    (in_either (sheet_for start t) (sheets_by (suc start) acts) s i)

abbrev GivesBirth : ℕ × What → ℕ → Taken → Type 0
GivesBirth b id t = In b (birth_for id t)

pub birth_source : (g : Ground) (seen : Seen) (first : Value) (all : Homes) (start : ℕ) (acts : List Act) (b : ℕ × What) → FitActs g seen first all acts → In b (births_by start acts) → Source g seen first all start acts (GivesBirth b)
birth_source g seen first all start [] b fit i = absurd i
birth_source g seen first all start (put k r ∷ acts) b fit i = source_put g seen first all start k r acts (GivesBirth b) (birth_source g seen first all start acts b fit.1 i)
birth_source g seen first all start (take t ∷ acts) b fit i =
    ⊎_elim (λ j. record { id = start; taken = t; added = added_first start t acts; fits = fit.0; is = j })
    (λ j. source_later g seen first all start t acts (GivesBirth b) (birth_source g seen first all (suc start) acts b fit.1 j))
    (in_either (birth_for start t) (births_by (suc start) acts) b i)

abbrev GivesDue : Due → ℕ → Taken → Type 0
GivesDue d id t = In d (due_for id t)

pub due_source : (g : Ground) (seen : Seen) (first : Value) (all : Homes) (start : ℕ) (acts : List Act) (d : Due) → FitActs g seen first all acts → In d (dues_by start acts) → Source g seen first all start acts (GivesDue d)
due_source g seen first all start [] d fit i = absurd i
due_source g seen first all start (put k r ∷ acts) d fit i = source_put g seen first all start k r acts (GivesDue d) (due_source g seen first all start acts d fit.1 i)
due_source g seen first all start (take t ∷ acts) d fit i =
    ⊎_elim (λ j. record { id = start; taken = t; added = added_first start t acts; fits = fit.0; is = j })
    (λ j. source_later g seen first all start t acts (GivesDue d) (due_source g seen first all (suc start) acts d fit.1 j))
    (in_either (due_for start t) (dues_by (suc start) acts) d i)

abbrev GivesHome : Key × Ref → ℕ → Taken → Type 0
GivesHome h id t = In h (home_for id t)

-- a home is in a row, or an id was taken for it
pub home_source : (g : Ground) (seen : Seen) (first : Value) (all : Homes) (start : ℕ) (acts : List Act) (h : Key × Ref) → FitActs g seen first all acts → In h (homes_by start acts) → In h (places_by acts) ⊎ Source g seen first all start acts (GivesHome h)
home_source g seen first all start [] h fit i = absurd i
home_source g seen first all start (put k r ∷ acts) h fit (inl e) = inl (inl e)
home_source g seen first all start (put k r ∷ acts) h fit (inr i) = ⊎_elim (λ j. inl (inr j)) (λ s. inr (source_put g seen first all start k r acts (GivesHome h) s)) (home_source g seen first all start acts h fit.1 i)
home_source g seen first all start (take t ∷ acts) h fit i =
    ⊎_elim (λ j. inr (record { id = start; taken = t; added = added_first start t acts; fits = fit.0; is = j }))
    (λ j. ⊎_elim (λ p. inl p) (λ s. inr (source_later g seen first all start t acts (GivesHome h) s)) (home_source g seen first all (suc start) acts h fit.1 j))
    (in_either (home_for start t) (homes_by (suc start) acts) h i)

-- ---- keys

pub new_key : (homes more : Homes) (k : Key) (a : Ref) → AreNew homes more → In (k, a) more → IsNew k homes
new_key homes [] k a h i = absurd i
new_key homes ((l, b) ∷ more) k a h (inl e) = subst (λ z. IsNew z homes) (sym (ap (λ p. p.0) e)) h.0
new_key homes ((l, b) ∷ more) k a h (inr i) = λ r j. new_key (homes ++ (l, b) ∷ []) more k a h.1 i r (in_front homes ((l, b) ∷ []) (k, r) j)

pub one_home : (homes more : Homes) (k : Key) (a b : Ref) → AreNew homes more → In (k, a) more → In (k, b) more → a ≡ b
one_home homes [] k a b h i j = absurd i
one_home homes ((l, c) ∷ more) k a b h (inl e) (inl f) = ap (λ p. p.1) e ∙ sym (ap (λ p. p.1) f)
one_home homes ((l, c) ∷ more) k a b h (inl e) (inr j) = absurd (new_key (homes ++ (l, c) ∷ []) more k b h.1 j a (in_behind homes ((l, c) ∷ []) (k, a) (inl e)))
one_home homes ((l, c) ∷ more) k a b h (inr i) (inl f) = absurd (new_key (homes ++ (l, c) ∷ []) more k a h.1 i b (in_behind homes ((l, c) ∷ []) (k, b) (inl f)))
one_home homes ((l, c) ∷ more) k a b h (inr i) (inr j) = one_home (homes ++ (l, c) ∷ []) more k a b h.1 i j
