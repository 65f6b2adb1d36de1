-- `run`: its words, and what it owes for a bundle.
use Rattle.std.specs.Prelude.{ℕ, ◌<◌, ◌≤◌, ◌≡◌, ◌⊎◌, List, [], ◌∷◌, length, Option, codes}
use Rattle.flight_base.specs.Outside.{IsAll}
use Rattle.flight_graph.specs.Text.{text_of}
use Rattle.flight_top.specs.Static.{Static, IsStatic}
use Rattle.flight_top.specs.Drawn.{graph_of}
use Rattle.flight_top.specs.declared.told.Status.{Status}
use Rattle.flight_top.specs.declared.told.Status.TheVariants as status

-- the words of the command
abbrev pub run_words : List (List ℕ)
run_words = codes "run" ∷ []

abbrev pub IsRun : List (List ℕ) → Type 0
IsRun words = words ≡ run_words

-- the most bytes of a bundle
abbrev pub most_bundle : ℕ
most_bundle = 1048576

-- the canonical text of the graph of the tree that the bundle declares, or the first of these refusals
abbrev pub IsDueRun : List ℕ → Status → List ℕ → Type 0
IsDueRun input status.Done text = (tree : Static) × IsStatic input tree × (text ≡ text_of (graph_of tree))
IsDueRun input status.Bundle text =
    ((most_bundle < length input) × (text ≡ codes "bundle: too long\n"))
    ⊎ ((length input ≤ most_bundle) × ((tree : Static) → ¬ (IsStatic input tree)) × (text ≡ codes "bundle: not built\n"))
IsDueRun input s text = ⊥

-- to bytes that were left, where they are told, and to some bytes where they are not
abbrev pub IsDueRunOf : Option (List ℕ) → Status → List ℕ → Type 0
IsDueRunOf left s text = (input : List ℕ) × IsAll left input × IsDueRun input s text
