-- What is due: what follows for the refusals.
use Rattle.std.proofs.Common.{◌≡◌, ℕ, ◌+◌, ◌<◌, ◌≤◌, List, [], ◌∷◌, ◌++◌, length, map, slice_index_or, refl, sym, ◌∙◌, ap, subst, arith, true, Option, Some, None, string_bytes, replicate, codes, inl, inr}
use Rattle.std.specs.Prelude.{String, Result, Ok, Err, IfOk}
use Rattle.flight_top.specs.declared.due.Due.{Due}
use Rattle.flight_top.specs.declared.due.Undue.{Undue}
use Rattle.std.specs.declared.alloc.Global.{Global}
use Rattle.flight_base.specs.Outside.{IsAll, IsMore}
use Rattle.flight_top.specs.declared.told.Status.{Status}
use Rattle.flight_top.specs.declared.told.Status.TheVariants as status
use Rattle.flight_top.specs.Told.{is_whole}
use Rattle.flight_top.specs.Due.{IsDue, usage, view, plain, run, texts}
use Rattle.flight_top.proofs.Long.{long_list}
use Rattle.flight_top.proofs.Plains.{plain-whole}
use Rattle.flight_top.specs.View.{IsDueView, IsDueViewOf, most_stream}
use Rattle.flight_top.specs.Plain.{IsPlainWords, IsDuePlainOf}
use Rattle.flight_top.specs.Run.{IsDueRun, IsDueRunOf, most_bundle}

-- a refusal is due with its own status and line
pub due_line : (IsOwed : Status → List ℕ → Type 0) (status : Status) (r : Result Due Undue) (line : List ℕ) → IfOk r (λ due. (due.status ≡ status) × (due.text ≡ line)) → IsOwed status line → IfOk r (λ due. IsOwed due.status due.text)
due_line IsOwed status (Ok due) line h k =
    let P : Status → Type 0 = λ s. IsOwed s due.text in
    let Q : List ℕ → Type 0 = λ t. IsOwed status t in
    subst P (sym h.0) (subst Q (sym h.1) k)
due_line IsOwed status (Err e) line h k = h

-- the first word
abbrev pub first_of : List (List ℕ) → List ℕ
first_of [] = []
first_of (word ∷ words) = word

-- what is due is printed whole
pub view-whole : (input : List ℕ) (s : Status) (text : List ℕ) → IsDueView input s text → is_whole s ≡ true
view-whole input status.Done text h = refl
view-whole input status.Usage text h = absurd h
view-whole input status.Bundle text h = absurd h
view-whole input status.Stream text h = refl
view-whole input status.Fuel text h = absurd h
view-whole input status.Stalled text h = absurd h
view-whole input status.Read text h = absurd h
view-whole input status.Write text h = absurd h
view-whole input status.Memory text h = absurd h

pub run-whole : (input : List ℕ) (s : Status) (text : List ℕ) → IsDueRun input s text → is_whole s ≡ true
run-whole input status.Done text h = refl
run-whole input status.Usage text h = absurd h
run-whole input status.Bundle text h = refl
run-whole input status.Stream text h = absurd h
run-whole input status.Fuel text h = absurd h
run-whole input status.Stalled text h = absurd h
run-whole input status.Read text h = absurd h
run-whole input status.Write text h = absurd h
run-whole input status.Memory text h = absurd h

pub due-whole : (words : List (List ℕ)) (left : Option (List ℕ)) (s : Status) (text : List ℕ) → IsDue words left s text → is_whole s ≡ true
due-whole words left s text (usage is_none is_status is_text) = ap is_whole is_status
due-whole words left s text (view is_view is_due) = view-whole is_due.0 s text is_due.2
due-whole words left s text (plain fuel is_plain is_due) = plain-whole fuel is_due.0 s text is_due.2
due-whole words left s text (run is_run is_due) = run-whole is_due.0 s text is_due.2

-- more bytes than a stream may have
pub too_long : (left : Option (List ℕ)) → IsMore most_stream left → IsDueViewOf left status.Stream (codes "stream: too long\n")
too_long None more = let some = long_list most_stream in (some.0, tt, inl (some.1, refl))
too_long (Some left) more = (left, refl, inl (more, refl))

-- more bytes than a bundle may have
pub bundle_too_long : (left : Option (List ℕ)) → IsMore most_bundle left → IsDueRunOf left status.Bundle (codes "bundle: too long\n")
bundle_too_long None more = let some = long_list most_bundle in (some.0, tt, inl (some.1, refl))
bundle_too_long (Some left) more = (left, refl, inl (more, refl))

-- the text of one word
pub one_word : (words : List (String Global)) (word : String Global) → 1 ≤ length words → length words < 2 → word ≡ slice_index_or words 0 word → texts words ≡ string_bytes word ∷ []
one_word [] word least most is_word = absurd (omega arith)
one_word (a ∷ []) word least most is_word = rw is_word refl
one_word (a ∷ b ∷ ws) word least most is_word = absurd (omega arith)

-- what is owed for the words of `plain`
pub due_plain : (words : List (List ℕ)) (left : Option (List ℕ)) (fuel : ℕ) (r : Result Due Undue) → IsPlainWords words fuel → IfOk r (λ due. IsDuePlainOf fuel left due.status due.text) → IfOk r (λ due. IsDue words left due.status due.text)
due_plain words left fuel (Ok due) is h = plain fuel is h
due_plain words left fuel (Err e) is h = h
