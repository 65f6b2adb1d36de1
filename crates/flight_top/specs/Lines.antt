-- The line that tells why a stream is refused.
use Rattle.std.specs.Prelude.{ℕ, List, [], ◌++◌, codes, decimal, false}
use Rattle.std.specs.Fmt.{digits}
use Rattle.flight_feed.specs.declared.fault.FeedKind.{FeedKind}
use Rattle.flight_feed.specs.declared.fault.FeedKind.TheVariants as feed
use Rattle.flight_place.specs.declared.fault.PlaceKind.{PlaceKind}
use Rattle.flight_place.specs.declared.fault.PlaceKind.TheVariants as place
use Rattle.flight_link.specs.declared.fault.LinkKind.{LinkKind}
use Rattle.flight_link.specs.declared.fault.LinkKind.TheVariants as link
use Rattle.flight_client.specs.declared.fault.ClientFault.{ClientFault}
use Rattle.flight_client.specs.declared.fault.ClientFault.TheVariants as fault

abbrev pub feed_words : FeedKind → List ℕ
feed_words feed.BadId = codes "bad id"
feed_words feed.BadTag = codes "bad tag"
feed_words feed.DevRow = codes "dev row"
feed_words feed.BadLength = codes "bad length"
feed_words feed.RowTooLong = codes "row too long"
feed_words feed.BadText = codes "bad text"
feed_words feed.Cut = codes "cut"

abbrev pub place_words : PlaceKind → List ℕ
place_words place.BadModel = codes "bad model"
place_words place.Number = codes "number"
place_words (place.BadToken at) = codes "bad token"
place_words (place.BadElement at) = codes "bad element"

-- an id in lower-case hexadecimal, without leading zeros
abbrev pub id_text : ℕ → List ℕ
id_text id = digits 16 false id

abbrev pub link_words : LinkKind → List ℕ
link_words (link.Twice id) = codes "twice " ++ id_text id
link_words (link.NotOpen id) = codes "not open " ++ id_text id
link_words (link.Closed id) = codes "closed " ++ id_text id
link_words (link.NotBuilt id) = codes "not built"

-- behind these words stands what is wrong with the row of this number
abbrev pub row_words : ℕ → List ℕ
row_words number = codes "row " ++ decimal number ++ codes ": "

abbrev pub fault_words : ClientFault → List ℕ
fault_words (fault.Feed number kind) = row_words number ++ feed_words kind
fault_words (fault.Place number kind) = row_words number ++ place_words kind
fault_words (fault.Link number kind) = row_words number ++ link_words kind
fault_words fault.NoRoot = codes "no root"
fault_words (fault.Undefined id) = codes "undefined " ++ id_text id
fault_words fault.Memory = codes "out of memory"

abbrev pub fault_line : ClientFault → List ℕ
fault_line f = codes "stream: " ++ fault_words f ++ codes "\n"
