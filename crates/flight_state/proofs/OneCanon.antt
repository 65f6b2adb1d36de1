-- Graphs of what draws one graph have one canon.
use Rattle.std.proofs.Common.{◌≡◌, ℕ, Bool, List, sym, ap, ◌∙◌}
use Rattle.flight_value.specs.Graph.{IsValid}
use Rattle.flight_value.specs.Store.{Shape, Store, Paired, DrawOneGraph, of_graph}
use Rattle.flight_value.specs.declared.graph.Graph.{Graph}
use Rattle.flight_graph.specs.Canon.{canon_of}
use Rattle.flight_graph.specs.Joined.{Joined}
use Rattle.flight_graph.proofs.Drawn.{IsSingle, fits_join, fit_one_canon}
use Rattle.flight_render.specs.declared.root.Ground.{Ground}
use Rattle.flight_render.specs.Plain.{plain}
use Rattle.flight_render.proofs.Reaches.{one_slot, one_node}
use Rattle.flight_meaning.specs.declared.place.PlacedRow.{PlacedRow}
use Rattle.flight_meaning.specs.Meaning.{meaning}
use Rattle.flight_meaning.proofs.OneMeaning.{leads_once, stands_once}
use Rattle.flight_state.specs.Ended.{ended_target, ended_label, ended}

plain_single : (g : Ground) (settled : List Bool) → IsSingle (plain g settled)
plain_single g settled = record { leads_once = one_slot g settled; stands_once = one_node g settled }

meaning_single : (rows : List PlacedRow) → IsSingle (meaning rows)
meaning_single rows = record { leads_once = leads_once rows; stands_once = stands_once rows }

ended_single : {K V : Type 0} (digest : List ℕ) (s : Store K V) → IsSingle s → IsSingle (ended digest s)
ended_single {K} {V} digest s single =
    record {
      leads_once = λ v x y a b. a.2 ∙ (ap (ended_target digest) (single.leads_once v a.0 b.0 a.1 b.1) ∙ sym b.2);
      stands_once = λ k x y a b. a.2 ∙ (ap (λ (z : Shape V). record { label = ended_label digest z.label; slots = z.slots }) (single.stands_once k a.0 b.0 a.1 b.1) ∙ sym b.2);
    }

-- graphs of two stores that draw one graph
one_canon : {K V L W : Type 0} (s : Store K V) (t : Store L W) → IsSingle s → IsSingle t → DrawOneGraph s t → (one two : Graph) → IsValid one → IsValid two → DrawOneGraph (of_graph one) s → DrawOneGraph (of_graph two) t → canon_of one ≡ canon_of two
one_canon s t single single' same one two valid valid' a b =
    let across = fits_join (Paired b.0) (Paired same.0) (of_graph two) s t single' b.1 same.1 in
    fit_one_canon (Joined (Paired a.0) (Joined (Paired b.0) (Paired same.0))) one two valid valid'
    (fits_join (Paired a.0) (Joined (Paired b.0) (Paired same.0)) (of_graph one) (of_graph two) s single a.1 across)

pub canon_same : (g : Ground) (settled : List Bool) (rows : List PlacedRow) → DrawOneGraph (plain g settled) (meaning rows) → (one two : Graph) → IsValid one → IsValid two → DrawOneGraph (of_graph one) (plain g settled) → DrawOneGraph (of_graph two) (meaning rows) → canon_of one ≡ canon_of two
canon_same g settled rows = one_canon (plain g settled) (meaning rows) (plain_single g settled) (meaning_single rows)

pub canon_ended : (g : Ground) (settled : List Bool) (digest : List ℕ) (rows : List PlacedRow) → DrawOneGraph (ended digest (plain g settled)) (meaning rows) → (one two : Graph) → IsValid one → IsValid two → DrawOneGraph (of_graph one) (ended digest (plain g settled)) → DrawOneGraph (of_graph two) (meaning rows) → canon_of one ≡ canon_of two
canon_ended g settled digest rows = one_canon (ended digest (plain g settled)) (meaning rows) (ended_single digest (plain g settled) (plain_single g settled)) (meaning_single rows)
