-- What a reader finds in each kind of row.
use Rattle.std.proofs.Common.{◌≡◌, ℕ, ◌==◌, Bool, true, false, List, [], ◌∷◌, length, Some, refl, sym, ap, ◌∙◌, subst, arith, codes, Result, Ok, Err, IfOk}
use Rattle.std.specs.Prelude.{option_and_then, if◌then◌else◌}
use Rattle.std.proofs.lemmas.Bool.{ne_eqb}
use Rattle.json.specs.Token.{Token}
use Rattle.json.specs.Token as token
use Rattle.json.specs.Lex.{tokens, lex, punctuate}
use Rattle.json.specs.Json as json
use Rattle.json.specs.Json.{value as read_value}
use Rattle.json.proofs.Printed.Trees.{value-json_tokens}
use Rattle.serde_json.specs.Data as value
use Rattle.serde_json.specs.Data.{Data}
use Rattle.serde_json.specs.Read.{of_json, read, max_depth}
use Rattle.flight_value.specs.declared.graph.Atom.TheVariants as atom
use Rattle.flight_row.specs.declared.row.Row.{Row}
use Rattle.flight_row.specs.declared.row.RowKind.{RowKind}
use Rattle.flight_row.specs.declared.row.RowKind.TheVariants as row
use Rattle.flight_meaning.specs.declared.place.Place.{Place}
use Rattle.flight_meaning.specs.declared.place.Place.TheVariants as place
use Rattle.flight_place.specs.declared.manner.Manner.TheVariants.{Wire}
use Rattle.flight_place.specs.Places.{Visit, placed, HavePlaces}
use Rattle.flight_place.specs.Rows.{model_visits, import_visit, error_visit, row_visits}
use Rattle.flight_payload.specs.Tree.{Tree, places_from}
use Rattle.flight_payload.specs.Rows.{HasAtom, HasTree, HasWritten, IsModule}
use Rattle.flight_payload.proofs.Data.{data_of, read_again}
use Rattle.flight_payload.proofs.Again.{read_have}

-- what follows of a result from two facts
pub from_both : {A E : Type 0} (P Q R : A → Type 0) (r : Result A E) → ((a : A) → P a → Q a → R a) → IfOk r P → IfOk r Q → IfOk r R
from_both P Q R (Ok a) f p q = f a p q
from_both P Q R (Err e) f p q = tt

-- ---- a value

tree_as : (k : RowKind) (r : Row) (t : Tree) → r.kind ≡ k → HavePlaces Wire (row_visits Wire k r.payload) (places_from 0 t) → HasTree t r
tree_as k r t is have = record { same_kind = refl; have = rw is have }

pub model_written : (ts : List Token) (r : Row) → r.kind ≡ row.Model → tokens r.payload ≡ ts → HasWritten ts r
model_written ts r is e = λ t w readable. tree_as row.Model r t is (read_have r.payload t (e ∙ w) readable)

-- a value is written with some text
some_text : (text : List ℕ) (d : Data) → read text ≡ Some d → (length text == 0) ≡ false
unfolding lex punctuate read_value
some_text [] d e = cc
some_text (b ∷ text) d e = ne_eqb (length (b ∷ text)) 0 (λ e. omega arith)

close_as : (b : Bool) (vs ws : List Visit) (ps : List Place) → b ≡ false → HavePlaces Wire ws ps → HavePlaces Wire (if b then vs else ws) ps
close_as true vs ws ps off h = absurd cc
close_as false vs ws ps off h = h

pub close_written : (ts : List Token) (r : Row) → r.kind ≡ row.Close → tokens r.payload ≡ ts → HasWritten ts r
close_written ts r is e = λ t w readable.
    tree_as row.Close r t is
    (close_as (length r.payload == 0) (placed (place.Atom atom.Undefined) ∷ []) (model_visits Wire (read r.payload)) (places_from 0 t) (some_text r.payload (data_of t) (read_again r.payload t (e ∙ w) readable))
    (read_have r.payload t (e ∙ w) readable))

-- ---- a failure

abbrev failure : List ℕ → json.Json
failure digest = json.object (json.member (codes "digest") (json.string digest) json.no_members)

abbrev pub failure_tokens : List ℕ → List Token
failure_tokens digest = token.begin_object ∷ token.key (codes "digest") ∷ token.string digest ∷ token.end_object ∷ []

failure_read : (text digest : List ℕ) → tokens text ≡ failure_tokens digest → read text ≡ Some (value.object (value.member (codes "digest") (value.string digest) value.no_members))
failure_read text digest e =
    ap (λ o. option_and_then of_json (option_and_then (λ p. json.if_last p.0 p.1) o)) (ap (json.value max_depth) e ∙ value-json_tokens (failure digest) max_depth [] (omega arith))

pub failure_atom : (digest : List ℕ) (r : Row) → r.kind ≡ row.Error → tokens r.payload ≡ failure_tokens digest → HasAtom (atom.Failed digest) r
failure_atom digest r is e =
    let found : error_visit (read r.payload) ≡ placed (place.Atom (atom.Failed digest)) = ap error_visit (failure_read r.payload digest e) in
    record { same_kind = refl; have = rw is (subst (λ v. HavePlaces Wire (v ∷ []) (place.Atom (atom.Failed digest) ∷ [])) (sym found) (refl, tt)) }

-- ---- a client module

pub module_atom : (text : List ℕ) (r : Row) → r.kind ≡ row.Import → r.payload ≡ text → IsModule text → HasAtom (atom.Import text) r
module_atom text r is e m =
    let found : import_visit (read r.payload) ≡ placed (place.Atom (atom.Import text)) =
    ap import_visit (ap read e ∙ m.is_read) ∙ (rw m.are_whole (ap (λ j. placed (place.Atom (atom.Import j))) (sym m.is_compact))) in
    record { same_kind = refl; have = rw is (subst (λ v. HavePlaces Wire (v ∷ []) (place.Atom (atom.Import text) ∷ [])) (sym found) (refl, tt)) }
