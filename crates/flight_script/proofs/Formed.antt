-- A script that was read has the form that a valid ground asks.
use Rattle.std.proofs.Common.{◌≡◌, ℕ, zero, suc, ◌^◌, ◌<◌, ◌≤◌, List, [], ◌∷◌, ◌++◌, length, map, refl, sym, ◌∙◌, ap, subst, arith, true, false, Option, Some, None, nat_le, nat_eq, codes}
use Rattle.std.specs.Prelude.{slice_get, option_and_then, unwrap_or, not, Bool, All}
use Rattle.std.specs.Option.{option_map_or}
use Rattle.std.specs.List.{AllByRecursion, AllZip, flat_map, list_all, IsDistinct}
use Rattle.std.specs.Str.{bytes_eq}
use Rattle.std.proofs.lemmas.Bool.{ltb-true, leb-true, and_parts, not-true, or_parts, eqb-true, false≢true, false_from_ne_true}
use Rattle.std.proofs.lemmas.Bool.Decides.{Decides-eqb}
use Rattle.std.proofs.lemmas.Slice.Eq.{bytes_eq-Decides}
use Rattle.std.proofs.lemmas.List.{length-map}
use Rattle.std.proofs.lemmas.List.Elements.{All-from_recursion}
use Rattle.std.proofs.lemmas.Map.Made.{AllPairs-from_IsDistinct}
use Rattle.serde_json.specs.Data.{Data, null, boolean, number, string, array, object, Members, no_members, member}
use Rattle.serde_json.specs.Read.{read}
use Rattle.serde_json.specs.Find.{get}
use Rattle.flight_value.specs.Graph.{Ascend}
use Rattle.flight_text.proofs.Ordered.{Ordered, EachOrdered, If, read-ordered}
use Rattle.flight_syntax.specs.declared.program.Declared.{Declared}
use Rattle.flight_syntax.specs.declared.script.Outcome.{Outcome}
use Rattle.flight_syntax.specs.declared.script.Outcome.TheVariants.{Value, Reject}
use Rattle.flight_syntax.specs.declared.script.Data as source
use Rattle.flight_syntax.specs.declared.script.Flowing.{Flowing}
use Rattle.flight_syntax.specs.declared.script.Script.{Script}
use Rattle.flight_syntax.specs.Form.{settled_by}
use Rattle.flight_syntax.specs.Names.{is_plain_name, is_keyword}
use Rattle.flight_syntax.specs.Pieces.{is_name}
use Rattle.flight_syntax.specs.Script as form
use Rattle.flight_syntax.specs.Script.{IsPlainName, IsSourceNode, IsData, IsFlowing}
use Rattle.flight_script.specs.Json.{Member, members, as_list, as_members, list_of, list_at, has_only, is_among, text}
use Rattle.flight_script.specs.Sources.{value_parts, source_tests, IsOutcome, IsSource}
use Rattle.flight_script.specs.Streams.{stream_tests, IsNumberOf, IsLast, IsStream}
use Rattle.flight_script.specs.Settlers.{are_settlers, settled_tests, settler_tests, AreSettled}
use Rattle.flight_script.specs.Program.{program_tests}
use Rattle.flight_script.specs.Script.{is_version, are_named, has_sources, may_have_streams, sources_in, streams_in, names, script_tests, tests, IsScript, IsScriptOf}
use Rattle.flight_script.specs.Tests.{Test, AllPass}
use Rattle.flight_script.specs.Counts.{fits, outcome_fits, script_fits}
use Rattle.flight_script.proofs.Marks.{some≢none}
use Rattle.flight_script.proofs.Once.{some_one}
use Rattle.flight_script.proofs.Valid.{get_ordered, zip_length, value_valid}
use Rattle.flight_script.proofs.Held.{root_held, nodes_held}

-- ---- names

source_names : (ms : List Member) (ss : List source.Data) → AllZip IsSource ms ss → map (λ s. s.name) ss ≡ names ms
source_names [] [] h = refl
source_names [] (s ∷ ss) h = absurd h
source_names (m ∷ ms) [] h = absurd h
source_names (m ∷ ms) (s ∷ ss) h = ap (λ n. n ∷ map (λ s. s.name) ss) h.0.0 ∙ ap (λ ns. m.0 ∷ ns) (source_names ms ss h.1)

stream_names : (all : List (List ℕ)) (ms : List Member) (ss : List Flowing) → AllZip (IsStream all) ms ss → map (λ s. s.name) ss ≡ names ms
stream_names all [] [] h = refl
stream_names all [] (s ∷ ss) h = absurd h
stream_names all (m ∷ ms) [] h = absurd h
stream_names all (m ∷ ms) (s ∷ ss) h = ap (λ n. n ∷ map (λ s. s.name) ss) h.0.is_name ∙ ap (λ ns. m.0 ∷ ns) (stream_names all ms ss h.1)

-- ---- plain names

is_plain : (name : List ℕ) → is_plain_name name ≡ true → IsPlainName name
is_plain name h = let parts = and_parts (is_name name) (not (is_keyword name)) h in (parts.0, not-true (is_keyword name) parts.1)

abbrev are_plain : List Member → Bool
are_plain ms = list_all (λ m. is_plain_name m.0) ms

plain_members : (o : Option (List Member)) → option_map_or are_plain o false ≡ true → are_plain (unwrap_or o []) ≡ true
plain_members None h = refl
plain_members (Some ms) h = h

plain_sources : (o : Option Data) → option_map_or are_named o false ≡ true → are_plain (unwrap_or (option_and_then as_members o) []) ≡ true
plain_sources None h = refl
plain_sources (Some d) h = plain_members (as_members d) h

plain_streams : (o : Option Data) → option_map_or are_named o true ≡ true → are_plain (unwrap_or (option_and_then as_members o) []) ≡ true
plain_streams None h = refl
plain_streams (Some d) h = plain_members (as_members d) h

-- ---- sources

outcome_formed : (d : Data) (o : Outcome) → Ordered d → IsOutcome d o → outcome_fits o ≡ true → form.IsOutcome o
outcome_formed d (Value g) w h f = record { valid = value_valid d g w h f; root = root_held (value_parts d) g h; nodes = All-from_recursion IsSourceNode g.nodes (nodes_held (value_parts d) g h) }
outcome_formed d (Reject digest) w h f = tt

sources_formed : (ms : List Member) (ss : List source.Data) → AllByRecursion (λ m. Ordered m.1) ms → are_plain ms ≡ true → AllZip IsSource ms ss → list_all (λ d. outcome_fits d.outcome) ss ≡ true → AllByRecursion IsData ss
sources_formed [] [] w p h f = tt
sources_formed [] (s ∷ ss) w p h f = absurd h
sources_formed (m ∷ ms) [] w p h f = tt
sources_formed (m ∷ ms) (s ∷ ss) w p h f =
    let parts = and_parts (outcome_fits s.outcome) (list_all (λ d. outcome_fits d.outcome) ss) f in
    let plain = and_parts (is_plain_name m.0) (are_plain ms) p in
    ((subst IsPlainName (sym h.0.0) (is_plain m.0 plain.0), outcome_formed m.1 s.outcome w.0 h.0.1 parts.0), sources_formed ms ss w.1 plain.1 h.1 parts.1)

each_ordered : (ms : Members) → EachOrdered ms → AllByRecursion (λ m. Ordered m.1) (members ms)
each_ordered no_members h = tt
each_ordered (member k d ms) h = (h.0, each_ordered ms h.1)

object_ordered : (d : Data) → Ordered d → AllByRecursion (λ m. Ordered m.1) (unwrap_or (as_members d) [])
object_ordered null w = tt
object_ordered (boolean b) w = tt
object_ordered (number x) w = tt
object_ordered (string s) w = tt
object_ordered (array ds) w = tt
object_ordered (object ms) w = each_ordered ms w.1

found_ordered : (o : Option Data) → ((e : Data) → o ≡ Some e → Ordered e) → AllByRecursion (λ m. Ordered m.1) (unwrap_or (option_and_then as_members o) [])
found_ordered None w = tt
found_ordered (Some d) w = object_ordered d (w d refl)

if_ordered : (o : Option Data) (d : Data) → If Ordered o → o ≡ Some d → Ordered d
if_ordered None d h e = absurd (some≢none d (sym e))
if_ordered (Some x) d h e = subst Ordered (some_one x d e) h

-- ---- numbers of sources

get_within : {X : Type 0} (xs : List X) (i : ℕ) (x : X) → slice_get xs i ≡ Some x → i < length xs
get_within [] i x h = absurd (some≢none x (sym h))
get_within (y ∷ xs) zero x h = omega arith
get_within (y ∷ xs) (suc i) x h = let lt = get_within xs i x h in omega (arith, lt)

numbers_within : (ns : List (List ℕ)) (count : ℕ) (ds : List Data) (is : List ℕ) → length ns ≡ count → AllZip (IsNumberOf ns) ds is → AllByRecursion (λ n. n < count) is
numbers_within ns count [] [] e h = tt
numbers_within ns count [] (i ∷ is) e h = absurd h
numbers_within ns count (d ∷ ds) [] e h = tt
numbers_within ns count (d ∷ ds) (i ∷ is) e h = (subst (λ c. i < c) e (get_within ns i (text d) h.0), numbers_within ns count ds is e h.1)

last_within : (ns : List (List ℕ)) (count : ℕ) (o : Option Data) (i : Option ℕ) → length ns ≡ count → IsLast ns o i → (n : ℕ) → i ≡ Some n → n < count
last_within ns count o None e h n k = absurd (some≢none n (sym k))
last_within ns count None (Some i) e h n k = absurd h
last_within ns count (Some d) (Some i) e h n k = subst (λ m. m < count) (some_one i n k) (subst (λ c. i < c) e (get_within ns i (text d) h))

streams_formed : (ns : List (List ℕ)) (count : ℕ) (ms : List Member) (ss : List Flowing) → length ns ≡ count → are_plain ms ≡ true → AllZip (IsStream ns) ms ss → list_all (λ f. fits (length f.items)) ss ≡ true → AllByRecursion (IsFlowing count) ss
streams_formed ns count [] [] e p h f = tt
streams_formed ns count [] (s ∷ ss) e p h f = absurd h
streams_formed ns count (m ∷ ms) [] e p h f = tt
streams_formed ns count (m ∷ ms) (s ∷ ss) e p h f =
    let parts = and_parts (fits (length s.items)) (list_all (λ f. fits (length f.items)) ss) f in
    let plain = and_parts (is_plain_name m.0) (are_plain ms) p in
    let one : IsFlowing count s = record {
      named = subst IsPlainName (sym h.0.is_name) (is_plain m.0 plain.0);
      few = ltb-true (length s.items) (2 ^ 32) parts.0;
      items = All-from_recursion (λ n. n < count) s.items (numbers_within ns count (list_at (codes "items") m.1) s.items e h.0.are_items);
      last = last_within ns count (get (codes "final") m.1) s.last e h.0.is_last;
    } in
    (one, streams_formed ns count ms ss e plain.1 h.1 parts.1)

-- ---- settlers

settlers_within : (ns : List (List ℕ)) (count : ℕ) (ds : List Data) (own : List (List ℕ)) → length ns ≡ count → AllZip (AreSettled ns) ds own → AllByRecursion (All (λ n. n < count)) own
settlers_within ns count [] [] e h = tt
settlers_within ns count [] (o ∷ own) e h = absurd h
settlers_within ns count (d ∷ ds) [] e h = tt
settlers_within ns count (d ∷ ds) (o ∷ own) e h = (All-from_recursion (λ n. n < count) o (numbers_within ns count (list_of d) o e h.0), settlers_within ns count ds own e h.1)

zip-append : {A B : Type 0} (R : A → B → Type 0) (xs us : List A) (ys vs : List B) → AllZip R xs ys → AllZip R us vs → AllZip R (xs ++ us) (ys ++ vs)
zip-append R [] us [] vs h k = k
zip-append R [] us (y ∷ ys) vs h k = absurd h
zip-append R (x ∷ xs) us [] vs h k = absurd h
zip-append R (x ∷ xs) us (y ∷ ys) vs h k = (h.0, zip-append R xs us ys vs h.1 k)

flat_zip : (ns : List (List ℕ)) (ds : List Data) (own : List (List ℕ)) → AllZip (AreSettled ns) ds own → AllZip (IsNumberOf ns) (flat_map list_of ds) (flat_map (λ o. o) own)
flat_zip ns [] [] h = tt
flat_zip ns [] (o ∷ own) h = absurd h
flat_zip ns (d ∷ ds) [] h = absurd h
flat_zip ns (d ∷ ds) (o ∷ own) h = zip-append (IsNumberOf ns) (list_of d) (flat_map list_of ds) o (flat_map (λ o. o) own) h.0 (flat_zip ns ds own h.1)

-- the name of the source is not among these
abbrev IsFresh : List (List ℕ) → List (List ℕ) → ℕ → Type 0
IsFresh ns earlier n = (x : List ℕ) → slice_get ns n ≡ Some x → is_among earlier x ≡ false

among_front : (xs : List (List ℕ)) (y x : List ℕ) → is_among (xs ++ y ∷ []) x ≡ false → (is_among xs x ≡ false) × (bytes_eq y x ≡ false)
among_front [] y x h = (refl, (or_parts (bytes_eq y x) false h).0)
among_front (z ∷ xs) y x h =
    let parts = or_parts (bytes_eq z x) (is_among (xs ++ y ∷ []) x) h in
    let rest = among_front xs y x parts.1 in
    (rw (parts.0) rest.0, rest.1)

less_fresh : (ns earlier : List (List ℕ)) (y : List ℕ) (is : List ℕ) → AllByRecursion (IsFresh ns (earlier ++ y ∷ [])) is → AllByRecursion (IsFresh ns earlier) is
less_fresh ns earlier y [] h = tt
less_fresh ns earlier y (i ∷ is) h = (λ x k. (among_front earlier y x (h.0 x k)).0, less_fresh ns earlier y is h.1)

no_same : (ns earlier : List (List ℕ)) (y : List ℕ) (i : ℕ) (is : List ℕ) → slice_get ns i ≡ Some y → AllByRecursion (IsFresh ns (earlier ++ y ∷ [])) is → AllByRecursion (λ j. nat_eq i j ≡ false) is
no_same ns earlier y i [] e h = tt
no_same ns earlier y i (j ∷ is) e h =
    (false_from_ne_true (nat_eq i j) (λ same. false≢true (sym (among_front earlier y y (h.0 y (subst (λ k. slice_get ns k ≡ Some y) (eqb-true i j same) e))).1 ∙ (bytes_eq-Decides y y).1 refl)), no_same ns earlier y i is e h.1)

settled_once : (ns earlier : List (List ℕ)) (ds : List Data) (is : List ℕ) → AllPass (settled_tests ns earlier ds) → AllZip (IsNumberOf ns) ds is → IsDistinct nat_eq is × AllByRecursion (IsFresh ns earlier) is
unfolding IsDistinct
settled_once ns earlier [] [] p h = (tt, tt)
settled_once ns earlier [] (i ∷ is) p h = absurd h
settled_once ns earlier (d ∷ ds) [] p h = absurd h
settled_once ns earlier (d ∷ ds) (i ∷ is) p h =
    let rest = settled_once ns (earlier ++ text d ∷ []) ds is p.1.1 h.1 in
    let first : is_among earlier (text d) ≡ false = not-true (is_among earlier (text d)) p.1.0 in
    ((no_same ns earlier (text d) i is h.0 rest.1, rest.0), (λ x k. subst (λ y. is_among earlier y ≡ false) (some_one (text d) x (sym h.0 ∙ k)) first, less_fresh ns earlier (text d) is rest.1))

few_list : (o : Option (List Data)) → are_settlers o ≡ true → length (unwrap_or o []) ≤ 64
few_list None h = absurd (false≢true h)
few_list (Some ds) h = leb-true (length ds) 64 (and_parts (nat_le (length ds) 64) _ h).0

few_settlers : (o : Option Data) → option_map_or (λ own. are_settlers (as_list own)) o true ≡ true → length (option_map_or list_of o []) ≤ 64
few_settlers None h = omega arith
few_settlers (Some d) h = few_list (as_list d) h

-- ---- the whole

all_parts : (ts us : List Test) → AllPass (ts ++ us) → AllPass ts × AllPass us
all_parts [] us h = (tt, h)
all_parts (t ∷ ts) us h = let rest = all_parts ts us h.1 in ((h.0, rest.0), rest.1)

form_of : (d : Data) (declared : List Declared) (s : Script) → Ordered d → AllPass (script_tests d declared) → IsScript d s → script_fits s ≡ true → form.IsScript s
form_of d declared s w pass h f =
    let ns = names (sources_in d) in
    let a = and_parts (fits (length s.sources)) _ f in
    let b = and_parts (fits (length s.streams)) _ a.1 in
    let c = and_parts (list_all (λ d. outcome_fits d.outcome) s.sources) (list_all (λ f. fits (length f.items)) s.streams) b.1 in
    let named = and_parts (is_version d) _ (and_parts (has_only (codes "version" ∷ codes "sources" ∷ codes "streams" ∷ codes "settlers" ∷ []) d) _ pass.0).1 in
    let both = and_parts (has_sources d) (may_have_streams d) named.1 in
    let behind_sources = all_parts (flat_map source_tests (sources_in d)) _ pass.1 in
    let behind_streams = all_parts (flat_map (stream_tests ns) (streams_in d)) _ behind_sources.1 in
    let settling = all_parts (settler_tests ns d) (program_tests ns (names (streams_in d)) declared) behind_streams.1 in
    let count : length ns ≡ length s.sources = length-map (sources_in d) (λ m. m.0) ∙ zip_length IsSource (sources_in d) s.sources h.sources in
    let settlers = list_at (codes "settlers") d in
    let numbers = flat_zip ns settlers s.settlers h.settlers in
    let lists = zip_length (AreSettled ns) settlers s.settlers h.settlers in
    let ordered = found_ordered (get (codes "sources") d) (λ e k. get_ordered (codes "sources") d e w k) in
    record {
      few_sources = ltb-true (length s.sources) (2 ^ 32) a.0;
      few_streams = ltb-true (length s.streams) (2 ^ 32) b.0;
      sources = subst Ascend (sym (source_names (sources_in d) s.sources h.sources)) h.sources_ascend;
      each_source = All-from_recursion IsData s.sources (sources_formed (sources_in d) s.sources ordered (plain_sources (get (codes "sources") d) both.0) h.sources c.0);
      streams = subst Ascend (sym (stream_names ns (streams_in d) s.streams h.streams)) h.streams_ascend;
      each_stream = All-from_recursion (IsFlowing (length s.sources)) s.streams (streams_formed ns (length s.sources) (streams_in d) s.streams count (plain_streams (get (codes "streams") d) both.1) h.streams c.1);
      few_settlers = subst (λ n. n ≤ 64) lists (few_settlers (get (codes "settlers") d) settling.0.0);
      each_settler = All-from_recursion (All (λ n. n < length s.sources)) s.settlers (settlers_within ns (length s.sources) settlers s.settlers count h.settlers);
      once = AllPairs-from_IsDistinct Decides-eqb (settled_by s) (settled_once ns [] (flat_map list_of settlers) (settled_by s) settling.0.1 numbers).0;
    }

-- a script whose counts fit has the form
pub has_form : (bytes : List ℕ) (declared : List Declared) (s : Script) → IsScriptOf bytes declared s → script_fits s ≡ true → form.IsScript s
has_form bytes declared s h f =
    form_of h.json declared s (if_ordered (read bytes) h.json (read-ordered bytes) h.is_read) (subst (λ o. AllPass (tests o declared)) h.is_read h.all_pass) h.is_script f
