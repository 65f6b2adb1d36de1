-- Rows that are added one after another.
use Rattle.std.proofs.Common.{suc, arith, All, List, [], ◌∷◌, ◌++◌, sym, ◌∙◌, ap, append_assoc, append-nil}
use Rattle.std.specs.List.{AllZip}
use Rattle.flight_feed.specs.declared.arrived.Arrived.{Arrived}
use Rattle.flight_meaning.specs.declared.place.PlacedRow.{PlacedRow}
use Rattle.flight_client.specs.Rows.{IsPlacedRow}
use Rattle.flight_client.specs.Adding.{IsReadable, Adds}

pub AllZip-append : {X Y : Type 0} (R : X → Y → Type 0) (xs xs' : List X) (ys ys' : List Y) → AllZip R xs ys → AllZip R xs' ys' → AllZip R (xs ++ xs') (ys ++ ys')
AllZip-append R [] xs' [] ys' a b = b
AllZip-append R [] xs' (y ∷ ys) ys' a b = absurd a
AllZip-append R (x ∷ xs) xs' [] ys' a b = absurd a
AllZip-append R (x ∷ xs) xs' (y ∷ ys) ys' a b = (a.0, AllZip-append R xs xs' ys ys' a.1 b)

pub adds_none : (rows : List PlacedRow) → Adds [] rows rows
adds_none rows = record { more = []; added = sym (append-nil rows); are_placed = tt; are_linked = λ l. l }

pub adds_more : (done next : List Arrived) (old mid new : List PlacedRow) → Adds done old mid → Adds next mid new → Adds (done ++ next) old new
adds_more done next old mid new a b =
    record {
      more = a.more ++ b.more;
      added = b.added ∙ (ap (λ r. r ++ b.more) a.added ∙ append_assoc old a.more b.more);
      are_placed = AllZip-append (λ (x : Arrived) (p : PlacedRow). IsPlacedRow x.row p) done next a.more b.more a.are_placed b.are_placed;
      are_linked = λ l. b.are_linked (a.are_linked l);
    }

pub readable_rest : (a : Arrived) (rest : List Arrived) → All IsReadable (a ∷ rest) → All IsReadable rest
readable_rest a rest h = λ k d l. h (suc k) d (omega arith)
