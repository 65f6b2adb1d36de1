-- Strings that are no slot.
use Rattle.std.proofs.Common.{◌≡◌, ℕ, List, ◌∙◌, sym, ap, Some, None, String, Global, string_bytes, rules}
use Rattle.serde_json.specs.Data.{string}
use Rattle.serde_json.specs.View.{view}
use Rattle.serde_json.specs.declared.value.Value as value
use Rattle.serde_json.specs.declared.value.Value.{the_lemmas}
use Rattle.flight_value.specs.declared.graph.Slot.{Slot}
use Rattle.flight_text.specs.declared.mark.Mark.{Mark}
use Rattle.flight_text.specs.Mark.{IsSpelling}
use Rattle.flight_text.proofs.Lines.{same_mark}
use Rattle.flight_script.specs.Slots.{slot_of}

pub view-String : (t : String Global) → view (value.String t) ≡ string (string_bytes t)
view-String t = search (rules, the_lemmas)

pub some≢none : {A : Type 0} (x : A) → Some x ≡ None → ⊥
some≢none x e = cc

-- a string whose mark is no slot is none
pub no_slot : (count : ℕ) (text : List ℕ) (m : Mark) → IsSpelling text m → None ≡ slot_of count m → (s : Slot) → ((x : Mark) × IsSpelling text x × (slot_of count x ≡ Some s)) → ⊥
no_slot count text m spelled none s h =
    let same : h.0 ≡ m = same_mark text h.0 m h.1 spelled in
    some≢none s (sym h.2 ∙ (ap (slot_of count) same ∙ sym none))
