-- What the reader gives for a program, and which bytes are one.
use Rattle.std.proofs.Common.{◌≡◌, ℕ, ◌*◌, ◌≤◌, List, length, refl, sym, ◌∙◌, ap, subst, arith, Option, Some, None, IsUtf8, All, true}
use Rattle.std.specs.Prelude.{Result, Ok, Err, IfOk}
use Rattle.std.proofs.lemmas.List.Elements.{recursion_from_All}
use Rattle.serde_json.specs.Data.{Data}
use Rattle.serde_json.specs.View.{view}
use Rattle.serde_json.specs.declared.value.Value.{Value}
use Rattle.flight_syntax.specs.declared.token.Token.{Token}
use Rattle.flight_syntax.specs.declared.token.LexFault.{LexFault}
use Rattle.flight_syntax.specs.Tokens.{AreTokens, IsTokenOf, HasFault, HasOneReading}
use Rattle.flight_syntax.specs.Words.{Word, words_of}
use Rattle.flight_top.specs.declared.static_code.Unbuilt.{Unbuilt}
use Rattle.flight_top.specs.declared.static_code.Unbuilt.TheVariants as unbuilt
use Rattle.flight_graph.specs.Text.{text_of}
use Rattle.flight_top.specs.Model as model
use Rattle.flight_top.specs.Model.{is_plain}
use Rattle.flight_top.specs.Static.{Static, IsStatic, Declares, most_program, most_values}
use Rattle.flight_top.specs.Drawn.{ordered, graph_of}
use Rattle.flight_top.specs.StaticReader.{Gives, program, json_of}
use Rattle.flight_top.specs.StaticRow.{IsRowJson}
use Rattle.flight_top.proofs.StaticWords.{are_spelled}
use Rattle.flight_top.proofs.StaticSound.{program_sound}
use Rattle.flight_top.proofs.StaticComplete.{program_complete}
use Rattle.flight_top.proofs.StaticFine.{tree_fine, graph_same}
use Rattle.flight_top.proofs.StaticLines.{row_json}

pub declared_tree : (input : List ℕ) (ts : List Token) (r : Result Value Unbuilt) → length input ≤ most_program → IsUtf8 input → AreTokens input ts → All (IsTokenOf input) ts → Gives view r (program (words_of input ts))
    → IfOk r (λ json. (tree : Static) × IsStatic input tree × (view json ≡ json_of (ordered tree)))
declared_tree input ts (Ok json) short utf8 are_tokens each g =
    let t = program_sound (words_of input ts) (are_spelled input ts (recursion_from_All (IsTokenOf input) ts each)) (view json) g in
    (t.0, record { short = short; utf8 = utf8; tokens = ts; are_tokens = are_tokens; declares = t.1; lawful = t.2 }, t.3)
declared_tree input ts (Err e) short utf8 are_tokens each g = tt

declared_row : (tree : Static) (ws : List Word) → Declares tree ws → IsRowJson (json_of (ordered tree))
declared_row tree ws h = row_json (json_of (ordered tree)) (2 * most_values) (omega arith) (tree_fine tree most_values h.4.4.4.4.4.0 h.4.4.4.4.4.3)

pub tree_row : (input : List ℕ) (r : Result Value Unbuilt) → IfOk r (λ json. (tree : Static) × IsStatic input tree × (view json ≡ json_of (ordered tree))) → IfOk r (λ json. IsRowJson (view json))
tree_row input (Ok json) h = subst IsRowJson (sym h.2) (declared_row h.0 (words_of input h.1.tokens) h.1.declares)
tree_row input (Err e) h = tt

pub no_tree : (input : List ℕ) (ts : List Token) (r : Result Value Unbuilt) → HasOneReading input → AreTokens input ts → Gives view r (program (words_of input ts)) → r ≡ Err unbuilt.NotBuilt → (tree : Static) → IsStatic input tree → ⊥
no_tree input ts (Ok json) one are_tokens g e tree s = absurd cc
no_tree input ts (Err unbuilt.Memory) one are_tokens g e tree s = absurd cc
no_tree input ts (Err unbuilt.NotBuilt) one are_tokens g e tree s =
    let same : ts ≡ s.tokens = one.one_list ts s.tokens are_tokens s.are_tokens in
    let some : program (words_of input ts) ≡ Some (json_of (ordered tree)) = ap (λ ts. program (words_of input ts)) same ∙ program_complete tree (words_of input s.tokens) s.declares s.lawful in
    let none : program (words_of input ts) ≡ None = g in
    absurd (cc (sym some ∙ none))

pub no_tree_by_fault : (input : List ℕ) (fault : LexFault) → HasOneReading input → HasFault input fault → (tree : Static) → IsStatic input tree → ⊥
no_tree_by_fault input fault one has tree s = one.not_both s.tokens fault s.are_tokens has

some_json : (d e : Data) → Some d ≡ Some e → d ≡ e
some_json d e h = cc

-- bytes are one tree's JSON at most
pub one_json : (input : List ℕ) → HasOneReading input → (a b : Static) → IsStatic input a → IsStatic input b → json_of (ordered a) ≡ json_of (ordered b)
one_json input one a b s t =
    let same = one.one_list s.tokens t.tokens s.are_tokens t.are_tokens in
    let first = program_complete a (words_of input s.tokens) s.declares s.lawful in
    let second = ap (λ ts. program (words_of input ts)) same ∙ program_complete b (words_of input t.tokens) t.declares t.lawful in
    some_json (json_of (ordered a)) (json_of (ordered b)) (sym first ∙ second)

-- the text of the graph that a tree's JSON means
pub tree_text : (tree : Static) (d : Data) → d ≡ json_of (ordered tree) → is_plain d ≡ true → text_of (model.graph_of d) ≡ text_of (graph_of tree)
tree_text tree d e plain = ap text_of (ap model.graph_of e ∙ graph_same tree (ap is_plain (sym e) ∙ plain))
