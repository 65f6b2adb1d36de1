-- `view`: its words, and what it owes for a stream.
use Rattle.std.specs.Prelude.{ℕ, ◌<◌, ◌≤◌, ◌≡◌, ◌⊎◌, List, length, Option, codes}
use Rattle.flight_base.specs.Outside.{IsAll}
use Rattle.flight_value.specs.Graph.{IsValid}
use Rattle.flight_value.specs.declared.graph.Graph.{Graph}
use Rattle.flight_graph.specs.Text.{text_of}
use Rattle.flight_client.specs.Faults.{EndsWithFault}
use Rattle.flight_client.specs.Meant.{IsMeant}
use Rattle.flight_client.specs.declared.fault.ClientFault.{ClientFault}
use Rattle.flight_top.specs.Lines.{fault_line}
use Rattle.flight_top.specs.Words.{AreOf}
use Rattle.flight_top.specs.declared.told.Status.{Status}
use Rattle.flight_top.specs.declared.told.Status.TheVariants as status

-- ---- words

-- the command, with the length of pieces, from 1 to 65,536; by itself it is 65,536
abbrev pub IsView : List (List ℕ) → Type 0
IsView words = AreOf (codes "view") (codes "--cut") 65536 words

-- ---- streams

-- the most bytes of a stream
abbrev pub most_stream : ℕ
most_stream = 134217728

-- the canonical text of the graph that the stream means, or the first of these refusals; the length of pieces is no
-- matter
abbrev pub IsDueView : List ℕ → Status → List ℕ → Type 0
IsDueView input status.Done text = (length input ≤ most_stream) × ((graph : Graph) × IsValid graph × IsMeant input graph × (text ≡ text_of graph))
IsDueView input status.Stream text =
    ((most_stream < length input) × (text ≡ codes "stream: too long\n"))
    ⊎ ((length input ≤ most_stream) × ((f : ClientFault) × EndsWithFault input f × (text ≡ fault_line f)))
IsDueView input s text = ⊥

-- to bytes that were left, where they are told, and to some bytes where they are not
abbrev pub IsDueViewOf : Option (List ℕ) → Status → List ℕ → Type 0
IsDueViewOf left s text = (input : List ℕ) × IsAll left input × IsDueView input s text
