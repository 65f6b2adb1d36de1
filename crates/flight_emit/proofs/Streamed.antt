-- What is on paper beside the row of a stream is what the writer of that row owes.
use Rattle.std.proofs.Common.{◌≡◌, ℕ, zero, suc, ◌+◌, ◌⊎◌, inl, inr, List, [], ◌∷◌, ◌++◌, length, Option, Some, None, refl, sym, subst}
use Rattle.std.proofs.lemmas.Option.{none-some}
use Rattle.std.specs.Prelude.{slice_get}
use Rattle.flight_value.specs.Listed.{In}
use Rattle.flight_row.specs.declared.row.RowKind.{RowKind}
use Rattle.flight_home.specs.Homes.{Homes}
use Rattle.flight_render.specs.declared.root.Ground.{Ground}
use Rattle.flight_render.specs.declared.job.What.{What}
use Rattle.flight_render.specs.Run.{End}
use Rattle.flight_render.specs.Jobs.{Value}
use Rattle.flight_meaning.specs.declared.place.Place.{Place}
use Rattle.flight_state.specs.Emits.{IsPlain}
use Rattle.flight_state.specs.Local.{Seen, Births, WrittenHere, RowHere, StreamsHere}
use Rattle.flight_emit.specs.Sheet.{Sheet, rows_on, meant_of}
use Rattle.flight_emit.specs.Good.{Gives, IsLeaf}
use Rattle.flight_emit.specs.Whole.{Use, OnPaper}
use Rattle.flight_emit.proofs.Sits.{Paper}
use Rattle.flight_emit.proofs.Homes.{leaf_here, gives_here}
use Rattle.flight_emit.proofs.Emitted.{adds_here, adds_more}

-- the only place of the row, with what is meant there
only_place : (p : Paper) (at : Place) (v w : Value) → Gives p.g p.seen v w → IsLeaf p.g p.seen (p.before ++ p.more) p.sheets at w → (n : ℕ) (u : Value) → In {A = ℕ × Value} (n, u) ((0, v) ∷ [])
    → (x : Place) × (slice_get (at ∷ []) n ≡ Some x) × WrittenHere p.g p.seen (p.before ++ p.more) p.more (rows_on p.sheets) None x u
only_place p at v w gives spells n u (inl e) =
    subst (λ q. (x : Place) × (slice_get (at ∷ []) q.0 ≡ Some x) × WrittenHere p.g p.seen (p.before ++ p.more) p.more (rows_on p.sheets) None x q.1) (sym e)
    (at, refl, gives_here p None at v w gives (leaf_here p None at w spells))
only_place p at v w gives spells n u (inr i) = absurd i

held_place : (at x : Place) (v : Value) (n : ℕ) → slice_get (at ∷ []) n ≡ Some x → IsPlain x ⊎ ((u : Value) × In {A = ℕ × Value} (n, u) ((0, v) ∷ []))
held_place at x v zero e = inr (v, inl refl)
held_place at x v (suc n) e = absurd (none-some x e)

pub stream_emits : (g : Ground) (seen : Seen) (first w : Value) (end : End) (task : What) (kind : RowKind) (at : Place) (follower : Option What) (start : ℕ) (before more : Homes) (sheets : List Sheet) (births : Births) (uses : List Use)
    → OnPaper g seen first None start before more sheets births uses → Gives g seen first w → IsLeaf g seen (before ++ more) sheets at w
    → RowHere g end task (record { kind = kind; places = at ∷ [] }) ((0, first) ∷ []) births follower
    → StreamsHere g seen first end task start (start + length uses) before (before ++ more) (record { kind = kind; places = at ∷ [] }) (rows_on sheets) follower births ((0, first) ∷ []) (meant_of sheets)
stream_emits g seen first w end task kind at follower start before more sheets births uses on gives spells is_row =
    let p : Paper = record { g = g; seen = seen; first = first; own = None; start = start; before = before; more = more; sheets = sheets; births = births; uses = uses; on = on } in
    record {
      adds = adds_here p;
      is_row = is_row;
      places = λ n v i. subst (λ z. (x : Place) × (slice_get (at ∷ []) n ≡ Some x) × WrittenHere g seen (before ++ more) z (rows_on sheets) None x v) (sym (adds_more p)) (only_place p at first w gives spells n v i);
      held = λ n x e. held_place at x first n e;
    }
