-- The row of a static tree is written and read again.
use Rattle.std.proofs.Common.{◌≡◌, ◌≢◌, ℕ, zero, suc, ◌+◌, ◌<◌, ◌≤◌, List, [], ◌∷◌, ◌++◌, length, slice_index_or, refl, sym, ◌∙◌, ap, subst, arith, true, false, Bool, Option, Some, None, nat_eq, codes, IsUtf8, length-append, ◌&&◌}
use Rattle.std.specs.Prelude.{Contains, not, Result, Ok, Err, IfOk}
use Rattle.std.specs.Fmt.{digits}
use Rattle.std.proofs.lemmas.Bool.{false≢true}
use Rattle.std.proofs.lemmas.List.{append_cancel_left, append_cancel_right}
use Rattle.std.proofs.lemmas.Bool.Decides.{nat_tests}
use Rattle.std.proofs.lemmas.Str.{IsUtf8-append, IsUtf8-from_ascii}
use Rattle.std.proofs.lemmas.Str.Ascii.{IsAscii-cons, IsAscii-nil}
use Rattle.serde_json.specs.Data.{Data}
use Rattle.serde_json.specs.Read.{read}
use Rattle.serde_json.specs.Written.{compact_text}
use Rattle.flight_value.specs.declared.graph.Graph.{Graph}
use Rattle.flight_row.specs.Rows.{is_one_line, is_newline}
use Rattle.flight_row.specs.Written.{IsWritable, spelling_of}
use Rattle.flight_row.specs.declared.row.Row.{Row}
use Rattle.flight_row.specs.declared.row.RowKind.TheVariants.{Model}
use Rattle.flight_top.specs.Model.{MeansGraph, graph_of}
use Rattle.flight_top.specs.OneRow.{IsRowOf, IsOneRow}
use Rattle.flight_top.specs.StaticRow.{IsRowJson, IsRootRow, row_of}
use Rattle.flight_top.specs.declared.model.Refused.{Refused}
use Rattle.flight_value.specs.declared.memory.Memory.{Memory}
use Rattle.flight_top.proofs.Fronts.{both}

-- a row has one payload
one_payload : (input p q : List ℕ) → IsRowOf input p → IsRowOf input q → p ≡ q
one_payload input p q a b =
    append_cancel_left (codes "0:") p q (append_cancel_right (codes "0:" ++ p) (codes "0:" ++ q) (codes "\n") (sym a.row ∙ b.row))

abbrev root_with : List ℕ → Row
root_with payload = record { id = 0; kind = Model; payload = payload }

abbrev root : Data → Row
root d = record { id = 0; kind = Model; payload = compact_text d }

root_spelling : (d : Data) → spelling_of (root d) ≡ row_of d
unfolding digits
root_spelling d = refl

pub row_spelling : (d : Data) (row : Row) → IsRootRow d row → spelling_of row ≡ row_of d
row_spelling d row h = ap spelling_of h.is_row ∙ root_spelling d

root_writable : (d : Data) → IsRowJson d → IsUtf8 (compact_text d) → length (compact_text d) ≤ 67108861 → IsWritable (root d)
root_writable d j utf8 short = record { small = omega arith; is_text = utf8; within = omega (arith, short); one_line = λ e. j.one_line; is_model = λ e. j.is_model }

pub row_writable : (d : Data) (row : Row) → IsRowJson d → IsRootRow d row → IsWritable row
row_writable d row j h = subst IsWritable (sym h.is_row) (root_writable d j h.utf8 h.short)

no_newline : (bytes : List ℕ) → is_one_line bytes ≡ true → Contains bytes 10 → ⊥
no_newline [] h c = let less = c.1 in absurd (omega arith)
no_newline (b ∷ bs) h (zero, less, is) = let p = both (not (is_newline b)) (is_one_line bs) h in absurd (false≢true (ap (λ x. not (is_newline x)) (sym is) ∙ p.0))
no_newline (b ∷ bs) h (suc k, less, is) = let p = both (not (is_newline b)) (is_one_line bs) h in no_newline bs p.1 (k, omega arith, is)

line_utf8 : (payload : List ℕ) → IsUtf8 payload → IsUtf8 (codes "0:" ++ payload ++ codes "\n")
line_utf8 payload h =
    let head : IsUtf8 (codes "0:") = IsUtf8-from_ascii (48 ∷ 58 ∷ []) (IsAscii-cons 48 (58 ∷ []) (omega arith) (IsAscii-cons 58 [] (omega arith) IsAscii-nil)) in
    let end : IsUtf8 (codes "\n") = IsUtf8-from_ascii (10 ∷ []) (IsAscii-cons 10 [] (omega arith) IsAscii-nil) in
    IsUtf8-append (codes "0:") (payload ++ codes "\n") head (IsUtf8-append payload (codes "\n") h end)

pub row_of_json : (d : Data) (row : Row) → IsRowJson d → IsRootRow d row → IsRowOf (row_of d) (compact_text d)
row_of_json d row j h =
    let short = h.short in
    let len = length-append (compact_text d) (10 ∷ []) in
    record { row = refl; short = omega (arith, short, len); utf8 = line_utf8 (compact_text d) h.utf8; one_line = no_newline (compact_text d) j.one_line; model = j.begins }

-- the row means the graph of its JSON
pub row_means : (d : Data) (row : Row) → IsRowJson d → IsRootRow d row → IsOneRow (row_of d) (graph_of d)
row_means d row j h = (compact_text d, row_of_json d row j h, record { json = d; reads = h.reads; plain = j.plain; is_graph = refl })

some_is : (d e : Data) → Some d ≡ Some e → d ≡ e
some_is d e h = cc

-- and no other
pub row_graph : (d : Data) (row : Row) (g : Graph) → IsRowJson d → IsRootRow d row → IsOneRow (row_of d) g → g ≡ graph_of d
row_graph d row g j h (q, r, m) =
    let same : q ≡ compact_text d = one_payload (row_of d) q (compact_text d) r (row_of_json d row j h) in
    m.is_graph ∙ ap graph_of (some_is m.json d (sym m.reads ∙ ap read same ∙ h.reads))

pub row_graph_of : (d : Data) (row : Row) (bytes : List ℕ) (r : Result Graph Memory) → IsRowJson d → IsRootRow d row → bytes ≡ row_of d → IfOk r (IsOneRow bytes) → IfOk r (λ g. g ≡ graph_of d)
row_graph_of d row bytes (Ok g) j h e one = row_graph d row g j h (subst (λ bytes. IsOneRow bytes g) e one)
row_graph_of d row bytes (Err x) j h e one = tt

-- an input that means a graph is not refused as no plain JSON
pub means_plain : (input payload : List ℕ) → IsRowOf input payload → (graph : Graph) × IsOneRow input graph → ((graph : Graph) → MeansGraph payload graph → ⊥) → ⊥
means_plain input payload r (graph, (q, s, m)) none = let P : List ℕ → Type 0 = λ p. MeansGraph p graph in none graph (subst P (one_payload input q payload s r) m)

pub root_is : (d : Data) (bytes : List ℕ) → bytes ≡ compact_text d → IsUtf8 bytes → length bytes ≤ 67108861 → read bytes ≡ Some d → IsRootRow d (record { id = 0; kind = Model; payload = bytes })
root_is d bytes e utf8 short reads = record {
  is_row = ap (λ (bytes : List ℕ). root_with bytes) e;
  utf8 = subst IsUtf8 e utf8;
  short = let P : List ℕ → Type 0 = λ bytes. length bytes ≤ 67108861 in subst P e short;
  reads = ap read (sym e) ∙ reads;
}
