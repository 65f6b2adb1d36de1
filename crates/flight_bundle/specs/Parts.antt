-- The parts of a bundle: a program, its script, and perhaps a reply.
use Rattle.std.specs.Prelude.{ℕ, ◌≡◌, ◌≢◌, ◌⊎◌, List, [], ◌∷◌, ◌++◌, codes, Option, Some, None}
use Rattle.flight_bundle.specs.Lines.{newline, FirstLine, NoLine}

-- the line that ends the program, and that which ends the script
abbrev pub script_mark : List ℕ
script_mark = codes "%%script"

abbrev pub reply_mark : List ℕ
reply_mark = codes "%%reply"

-- the script of a program that has none
abbrev pub no_script : List ℕ
no_script = codes "{\"version\":1,\"sources\":{}}"

-- one newline at the end of a reply is dropped
abbrev pub IsReply : List ℕ → List ℕ → Type 0
IsReply rest reply = (rest ≡ reply ++ newline ∷ []) ⊎ ((rest ≡ reply) × ((front : List ℕ) → rest ≢ front ++ newline ∷ []))

-- the text's program, script and reply
pub data HasParts (text : List ℕ) : List ℕ → List ℕ → Option (List ℕ) → Type 0 where
  alone : NoLine script_mark text → HasParts text text no_script None
  scripted : (program script : List ℕ) → FirstLine script_mark text program script → NoLine reply_mark script → HasParts text program script None
  replied : (program rest script behind reply : List ℕ) → FirstLine script_mark text program rest → FirstLine reply_mark rest script behind → IsReply behind reply → HasParts text program script (Some reply)
