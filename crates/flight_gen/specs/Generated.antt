-- The bundle of so many components, byte for byte.
use Rattle.std.specs.Prelude.{ℕ, zero, suc, ◌==◌, ◌%◌, List, [], ◌++◌, if◌then◌else◌, codes, decimal}

-- what the numbers below n give, one after another
abbrev pub each_below : (ℕ → List ℕ) → ℕ → List ℕ
each_below give zero = []
each_below give (suc n) = each_below give n ++ give n

-- a comma before all but the first
abbrev pub comma : ℕ → ℕ → List ℕ
comma first n = if n == first then [] else codes ","

-- ---- the program

abbrev pub head_lines : List ℕ
head_lines = codes "client Tag = [\"./tag.js\",[],\"Tag\"];\nserver Item(row) = <li><Tag label={row.name} next={row.next}/></li>;\n"

-- a component for each number, which places an item for each row of its source
abbrev pub component : ℕ → List ℕ
component i = codes "server P" ++ decimal i ++ codes "() = for row in use s" ++ decimal i ++ codes " give <Item row={row}/>;\n"

abbrev pub child : ℕ → List ℕ
child i = codes "<P" ++ decimal i ++ codes "/>"

abbrev pub program : ℕ → List ℕ
program n = head_lines ++ each_below component n ++ codes "server App() = <ul>" ++ each_below child n ++ codes "</ul>;\n"

-- ---- the script

-- a number between two texts
abbrev pub between : List ℕ → ℕ → List ℕ → List ℕ
between before n after = before ++ decimal n ++ after

-- object k of source i, which names the object m as the next one
unfoldable pub object : ℕ → ℕ → ℕ → List ℕ
object i k m =
    between (codes ",{\"object\":{\"name\":\"s") i (codes ".")
    ++ (between [] k (codes "\",\"next\":\"$") ++ between [] m (codes "\"}}"))

-- four objects in a ring
unfoldable pub ring : ℕ → List ℕ
ring i = object i 1 2 ++ object i 2 3 ++ object i 3 4 ++ object i 4 1

-- an array of four objects
unfoldable pub source : ℕ → List ℕ
source i =
    comma 0 i
    ++ between (codes "\"s") i (codes "\":{\"value\":\"$0\",\"nodes\":[{\"array\":[\"$1\",\"$2\",\"$3\",\"$4\"]}")
    ++ ring i ++ codes "]}"

-- settler j settles each fourth source, from j on
abbrev pub settled : ℕ → ℕ → List ℕ
settled j i = if i % 4 == j then comma j i ++ codes "\"s" ++ decimal i ++ codes "\"" else []

abbrev pub settler : ℕ → ℕ → List ℕ
settler n j = codes "[" ++ each_below (settled j) n ++ codes "]"

abbrev pub before_sources : List ℕ
before_sources = codes "{\"version\":1,\"sources\":{"

unfoldable pub sources : ℕ → List ℕ
sources n = before_sources ++ each_below source n ++ codes "}"

abbrev pub settlers : ℕ → List ℕ
settlers n = settler n 0 ++ codes "," ++ settler n 1 ++ codes "," ++ settler n 2 ++ codes "," ++ settler n 3

abbrev pub script : ℕ → List ℕ
script n = sources n ++ codes ",\"settlers\":[" ++ settlers n ++ codes "]}\n"

-- ---- the bundle

abbrev pub generated : ℕ → List ℕ
generated n = program n ++ codes "%%script\n" ++ script n
