-- Names, paths and the places that they spell.
use Rattle.std.proofs.Common.{ℕ, ◌<◌, ◌≡◌, ◌≢◌, Bool, true, false, eqb, List, [], ◌∷◌, ◌++◌, length, get_or, All, Contains, Option, Some, None, Err, refl, sym, ap, ◌∙◌, subst, append-nil, append_assoc, arith}
use denote.Ref.{Bor}
use Rattle.std.specs.List.{list_all, slice_split}
use Rattle.std.specs.Option.{MatchOption}
use Rattle.std.proofs.lemmas.Bool.Decides.{nat_tests}
use Rattle.std.proofs.lemmas.List.Elements.{All-from_get_or, All-contains, All-cons, All-nil, All-push, All-head, All-tail, Contains-get_or}
use Rattle.std.proofs.lemmas.List.Concat.{flat_map-append}
use Rattle.std.proofs.lemmas.List.Splits.{slice_split_none, slice_split_at}
use Rattle.std.proofs.lemmas.Str.Pattern.{IsSplitOnceResult, split_parts}
use Rattle.flight_text.specs.declared.mark.Ref.{Ref}
use Rattle.flight_text.specs.declared.mark.Marked.{Marked}
use Rattle.flight_text.specs.declared.mark.Marked.TheVariants.{BadToken, Memory}
use Rattle.flight_text.specs.Answer.{Answers}
use Rattle.flight_text.specs.Hex.{is_hex_digit, IsId}
use Rattle.flight_text.specs.Reference.{IsName, path_text, IsReference}
use Rattle.flight_text.proofs.Digits.{both_true, same_id}

abbrev pub is_colon : ℕ → Bool
is_colon byte = eqb byte 58

-- ---- names

pub name_from_bytes : (name : List ℕ) → ((i : ℕ) → i < length name → get_or name i 0 ≢ 58) → IsName name
name_from_bytes name h = λ has. All-contains (λ b. b ≢ 58) name 58 (All-from_get_or (λ b. b ≢ 58) name 0 h) has refl

no_colon_at : (name : List ℕ) (k d : ℕ) → k < length name → IsName name → (b : Bool) → is_colon (get_or name k d) ≡ b → b ≡ false
no_colon_at name k d lt h true e =
    let same : get_or name k d ≡ 58 = grind (arith, nat_tests) in
    absurd (h (subst (λ x. Contains name x) same (Contains-get_or name k d lt)))
no_colon_at name k d lt h false e = refl

pub no_colon : (name : List ℕ) → IsName name → All (λ b. is_colon b ≡ false) name
no_colon name h = λ k d lt. no_colon_at name k d lt h (is_colon (get_or name k d)) refl

no_colon_digit : (c : ℕ) → is_hex_digit c ≡ true → is_colon c ≡ false
no_colon_digit c h = grind (arith, nat_tests)

pub no_colon_digits : (ds : List ℕ) → list_all is_hex_digit ds ≡ true → All (λ b. is_colon b ≡ false) ds
no_colon_digits [] h = All-nil (λ b. is_colon b ≡ false)
no_colon_digits (c ∷ cs) h =
    let p = both_true (is_hex_digit c) (list_all is_hex_digit cs) h in
    All-cons (λ b. is_colon b ≡ false) c cs (no_colon_digit c p.0) (no_colon_digits cs p.1)

-- what `split_once` answers
pub split_at_colon : (text : List ℕ) (r : Option (Bor (List ℕ) × Bor (List ℕ))) → IsSplitOnceResult 58 text r → MatchOption r (IsName text) (λ parts. IsName parts.0.now × (text ≡ parts.0.now ++ 58 ∷ parts.1.now))
split_at_colon text None h = name_from_bytes text (split_parts 58 text None h (omega arith))
split_at_colon text (Some parts) h =
    let found = split_parts 58 text (Some parts) h (omega arith) in
    (name_from_bytes parts.0.now found.1, found.0)

-- ---- paths

pub path_text-push : (names : List (List ℕ)) (name : List ℕ) → path_text (names ++ name ∷ []) ≡ path_text names ++ 58 ∷ name
path_text-push names name = flat_map-append (λ n. 58 ∷ n) names (name ∷ []) ∙ ap (λ t. path_text names ++ 58 ∷ t) (append-nil name)

-- one step of reading a path
pub path_text-more : (names : List (List ℕ)) (name rest path whole : List ℕ) → path ≡ name ++ 58 ∷ rest → path_text names ++ 58 ∷ path ≡ whole → path_text (names ++ name ∷ []) ++ 58 ∷ rest ≡ whole
path_text-more names name rest path whole e h =
    ap (λ t. t ++ 58 ∷ rest) (path_text-push names name) ∙ (append_assoc (path_text names) (58 ∷ name) (58 ∷ rest) ∙ (ap (λ t. path_text names ++ 58 ∷ t) (sym e) ∙ h))

-- one more name of a path that is read
pub one_more : (names others : List (List ℕ)) (text name rest path whole : List ℕ) → others ≡ names ++ text ∷ [] → text ≡ name → path ≡ name ++ 58 ∷ rest → path_text names ++ 58 ∷ path ≡ whole → path_text others ++ 58 ∷ rest ≡ whole
one_more names others text name rest path whole pushed same split read =
    let e : others ≡ names ++ name ∷ [] = cc in
    rw e (path_text-more names name rest path whole split read)

pub all_names : (names others : List (List ℕ)) (text name : List ℕ) → others ≡ names ++ text ∷ [] → text ≡ name → IsName name → All IsName names → All IsName others
all_names names others text name pushed same is are =
    let e : names ++ name ∷ [] ≡ others = cc in
    subst (λ ns. All IsName ns) e (All-push IsName names name are is)

-- the parts between the colons are the front and the names
pub slice_split-path : (front : List ℕ) (names : List (List ℕ)) → All (λ b. is_colon b ≡ false) front → All IsName names → slice_split is_colon (front ++ path_text names) ≡ front ∷ names
slice_split-path front [] h are = rw append-nil (slice_split_none is_colon front h)
slice_split-path front (name ∷ names) h are =
    slice_split_at is_colon front 58 (name ++ path_text names) h refl
    ∙ ap (λ parts. front ∷ parts) (slice_split-path name names (no_colon name (All-head IsName name names are)) (All-tail IsName name names are))

pub slice_split-reference : (text : List ℕ) (place : Ref) (is : IsReference text place) → slice_split is_colon text ≡ is.digits ∷ place.path
slice_split-reference text place is = rw is.spelled (slice_split-path is.digits place.path (no_colon_digits is.digits is.is_id.hex.lower) is.names)

same_place : (m n : Ref) → m.id ≡ n.id → m.path ≡ n.path → m ≡ n
same_place m n id path =
    let place : ℕ → List (List ℕ) → Ref = λ i p. record { id = i; path = p } in
    ap (λ i. place i m.path) id ∙ ap (place n.id) path

-- a text spells one place at most
pub same_reference : (text : List ℕ) (m n : Ref) → IsReference text m → IsReference text n → m ≡ n
same_reference text m n a b =
    let parts : a.digits ∷ m.path ≡ b.digits ∷ n.path = sym (slice_split-reference text m a) ∙ slice_split-reference text n b in
    let digits : a.digits ≡ b.digits = cc in
    let path : m.path ≡ n.path = cc in
    let id : m.id ≡ n.id = same_id a.digits m.id n.id a.is_id (subst (λ ds. IsId ds n.id) (sym digits) b.is_id) in
    same_place m n id path

-- ---- texts that spell none

-- the id of a place is spelled by what stands before the first colon
pub id_in_front : (text front : List ℕ) (others : List (List ℕ)) → slice_split is_colon text ≡ front ∷ others → (place : Ref) → IsReference text place → IsId front place.id
id_in_front text front others e place is =
    let parts : front ∷ others ≡ is.digits ∷ place.path = sym e ∙ slice_split-reference text place is in
    let same : is.digits ≡ front = cc in
    subst (λ ds. IsId ds place.id) same is.is_id

no_place : (text front : List ℕ) (others : List (List ℕ)) (e : Marked) → slice_split is_colon text ≡ front ∷ others → Answers (IsId front) (Err e) → Answers (IsReference text) (Err e)
no_place text front others BadToken split none = λ place is. none place.id (id_in_front text front others split place is)
no_place text front others Memory split none = tt

pub no_place_whole : (text : List ℕ) (e : Marked) → IsName text → Answers (IsId text) (Err e) → Answers (IsReference text) (Err e)
no_place_whole text e name none = no_place text text [] e (slice_split_none is_colon text (no_colon text name)) none

pub no_place_front : (text front path : List ℕ) (e : Marked) → IsName front → text ≡ front ++ 58 ∷ path → Answers (IsId front) (Err e) → Answers (IsReference text) (Err e)
no_place_front text front path e name spelled none =
    no_place text front (slice_split is_colon path) e (ap (slice_split is_colon) spelled ∙ slice_split_at is_colon front 58 path (no_colon front name) refl) none

-- a text that spells a place begins with a digit
pub first_digit : (c : ℕ) (rest digits path : List ℕ) → c ∷ rest ≡ digits ++ path → list_all is_hex_digit digits ≡ true → 0 < length digits → is_hex_digit c ≡ true
first_digit c rest [] path e lower some = absurd (omega arith)
first_digit c rest (d ∷ ds) path e lower some =
    let same : c ≡ d = cc in
    rw same (both_true (is_hex_digit d) (list_all is_hex_digit ds) lower).0
