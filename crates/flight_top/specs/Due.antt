-- What a call owes its caller: a status and printed text, by the words and the bytes that came in.
use Rattle.std.specs.Prelude.{ℕ, ◌≤◌, ◌≡◌, ◌⊎◌, List, length, take, map, Option, String, string_bytes, codes}
use Rattle.std.specs.declared.alloc.Global.{Global}
use Rattle.flight_base.specs.Outside.{appended}
use Rattle.flight_top.specs.View.{IsView, IsDueViewOf}
use Rattle.flight_top.specs.Run.{IsRun, IsDueRunOf}
use Rattle.flight_top.specs.Plain.{IsPlain, IsPlainWords, IsDuePlainOf}
use Rattle.flight_top.specs.declared.told.Status.{Status}
use Rattle.flight_top.specs.declared.told.Status.TheVariants as status

-- ---- words

-- the bytes of each word
abbrev pub texts : List (String Global) → List (List ℕ)
texts words = map (λ w. string_bytes w) words

-- ---- any words

abbrev pub IsCommand : List (List ℕ) → Type 0
IsCommand words = IsView words ⊎ (IsRun words ⊎ IsPlain words)

abbrev pub usage_line : List ℕ
usage_line = codes "usage: flight COMMAND [OPTIONS]\n"

-- words that are no command get the usage line
pub data IsDue (words : List (List ℕ)) (left : Option (List ℕ)) (s : Status) (text : List ℕ) : Type 0 where
  usage : (is_none : ¬ (IsCommand words)) (is_status : s ≡ status.Usage) (is_text : text ≡ usage_line) → IsDue words left s text
  view : (is_view : IsView words) (is_due : IsDueViewOf left s text) → IsDue words left s text
  plain : (fuel : ℕ) (is_plain : IsPlainWords words fuel) (is_due : IsDuePlainOf fuel left s text) → IsDue words left s text
  run : (is_run : IsRun words) (is_due : IsDueRunOf left s text) → IsDue words left s text

-- ---- what was written

-- a front of a text went out, and nothing else
pub record PartOut (held now : Option (List ℕ)) (text : List ℕ) : Type 0 where
  pub count : ℕ
  pub within : count ≤ length text
  pub out : now ≡ appended held (take count text)

-- a front of what was due
abbrev pub DuePartOut : List (List ℕ) → Option (List ℕ) → Option (List ℕ) → Option (List ℕ) → Type 0
DuePartOut words left held now = (s : Status) × (text : List ℕ) × IsDue words left s text × PartOut held now text
