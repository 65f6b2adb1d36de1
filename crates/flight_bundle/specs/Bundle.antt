-- What a bundle is, and its first fault.
use Rattle.std.specs.Prelude.{ℕ, ◌≤◌, ◌<◌, ◌≡◌, ◌≢◌, Bool, true, false, List, length, Option, Some, None, is_some}
use Rattle.std.specs.Str.{IsUtf8}
use Rattle.std.specs.Str.Lossy.{utf8_valid_len}
use Rattle.flight_syntax.specs.declared.program.Declared.{Declared}
use Rattle.flight_syntax.specs.Derives.{Derives}
use Rattle.flight_resolve.specs.declared.fault.ParseFault.TheVariants as parse
use Rattle.flight_resolve.specs.Reports.{IsParseFault}
use Rattle.flight_script.specs.Script.{IsScriptOf, IsFaultOf}
use Rattle.flight_render.specs.declared.root.Ground.{Ground}
use Rattle.flight_render.specs.declared.root.Root.TheVariants.{App}
use Rattle.flight_bundle.specs.declared.fault.BundleFault.{BundleFault}
use Rattle.flight_bundle.specs.declared.fault.BundleFault.TheVariants as fault
use Rattle.flight_bundle.specs.Parts.{HasParts}

abbrev pub most_bytes : ℕ
most_bytes = 1048576

-- text within the limit, in its parts
pub record IsParted (bytes program script : List ℕ) (reply : Option (List ℕ)) : Type 0 where
  pub within : length bytes ≤ most_bytes
  pub utf8 : IsUtf8 bytes
  pub parts : HasParts bytes program script reply

-- the bytes are the program and the script of the ground, whose root is `App`, and a reply just where one is wanted
pub record IsBundle (bytes : List ℕ) (wanted : Bool) (ground : Ground) (reply : Option (List ℕ)) : Type 0 where
  pub program : List ℕ
  pub script : List ℕ
  pub parted : IsParted bytes program script reply
  pub fits : is_some reply ≡ wanted
  pub derives : Derives program ground.program.declared
  pub is_script : IsScriptOf script ground.program.declared ground.script
  pub first : ground.root ≡ App

-- the fault of the script of a program
abbrev pub IsScriptFault : List ℕ → List Declared → BundleFault → Type 0
IsScriptFault script declared (fault.Script f) = IsFaultOf script declared f
IsScriptFault script declared fault.Memory = Unit {0}
IsScriptFault script declared _ = ⊥

-- the fault of a program, or, where it is one, of its script
abbrev pub IsGroundFault : List ℕ → List ℕ → BundleFault → Type 0
IsGroundFault program script (fault.Program f) = IsParseFault program f × (f ≢ parse.Memory)
IsGroundFault program script (fault.Script f) = (declared : List Declared) × Derives program declared × IsFaultOf script declared f
IsGroundFault program script fault.Memory = Unit {0}
IsGroundFault program script _ = ⊥

-- the fault of the parts, with a reply just where one is wanted
pub record HasPartFault (bytes : List ℕ) (wanted : Bool) (f : BundleFault) : Type 0 where
  pub program : List ℕ
  pub script : List ℕ
  pub reply : Option (List ℕ)
  pub parted : IsParted bytes program script reply
  pub fits : is_some reply ≡ wanted
  pub is_fault : IsGroundFault program script f

-- the first fault of the bytes, in the order of these lines; want of memory says nothing of it
abbrev pub HasFault : List ℕ → Bool → BundleFault → Type 0
HasFault bytes wanted fault.TooLong = most_bytes < length bytes
HasFault bytes wanted (fault.NotUtf8 place) = (length bytes ≤ most_bytes) × (IsUtf8 bytes → ⊥) × (place ≡ utf8_valid_len bytes)
HasFault bytes wanted fault.ReplyWanted = (wanted ≡ true) × ((program : List ℕ) × ((script : List ℕ) × IsParted bytes program script None))
HasFault bytes wanted fault.ReplyNotWanted = (wanted ≡ false) × ((program : List ℕ) × ((script : List ℕ) × ((reply : List ℕ) × IsParted bytes program script (Some reply))))
HasFault bytes wanted (fault.Program f) = HasPartFault bytes wanted (fault.Program f)
HasFault bytes wanted (fault.Script f) = HasPartFault bytes wanted (fault.Script f)
HasFault bytes wanted fault.Memory = Unit {0}
