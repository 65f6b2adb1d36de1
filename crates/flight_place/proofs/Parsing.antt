-- Parsed values, level by level, and items behind those that were read.
use Rattle.std.proofs.Common.{◌≡◌, ◌⊎◌, inl, inr, ◌<◌, ◌-◌, length, ap₂, ℕ, List, [], ◌∷◌, ◌++◌, Option, Some, None, Vec, Global, Bor, refl, ap, ◌∙◌, rules}
use Rattle.json.specs.Token.{Token}
use Rattle.json.specs.Json.{parse_map, value, items, members}
use Rattle.json.proofs.Grammar.{value-begin_array, value-begin_object}
use Rattle.serde_json.specs.Data.{array, object, Items, no_items, item, no_members}
use Rattle.serde_json.specs.Read.{of_json, of_items, converted}
use Rattle.flight_place.proofs.Turns.{onto, array-data, object-data}
use Rattle.flight_place.specs.declared.parsed.Parsed.{Parsed, Array, Object, the_lemmas}
use Rattle.flight_place.specs.Parsed.{data_of, items_data, members_data}

pub data-Array : (v : Vec Parsed Global) → data_of (Array v) ≡ array (items_data v.items)
data-Array v = search (rules, the_lemmas)

pub data-Object : (v : Vec (Bor (List ℕ) × Parsed) Global) → data_of (Object v) ≡ object (members_data v.items)
data-Object v = search (rules, the_lemmas)

-- ---- items behind others

abbrev pub behind : List Parsed → Items → Items
behind [] rest = rest
behind (p ∷ ps) rest = item (data_of p) (behind ps rest)

pub behind-none : (ps : List Parsed) → behind ps no_items ≡ items_data ps
behind-none [] = refl
behind-none (p ∷ ps) = ap (item (data_of p)) (behind-none ps)

behind-push : (ps : List Parsed) (p : Parsed) (rest : Items) → behind ps (item (data_of p) rest) ≡ behind (ps ++ p ∷ []) rest
behind-push [] p rest = refl
behind-push (q ∷ ps) p rest = ap (item (data_of q)) (behind-push ps p rest)

pub behind-one_more : (ps : List Parsed) (p : Parsed) (r : Option (Items × List Token)) → parse_map (behind ps) (parse_map (item (data_of p)) r) ≡ parse_map (behind (ps ++ p ∷ [])) r
behind-one_more ps p None = refl
behind-one_more ps p (Some r) = ap (λ ds. Some (ds, r.1)) (behind-push ps p r.0)

pub behind-nothing : (r : Option (Items × List Token)) → r ≡ parse_map (λ a. a) r
behind-nothing None = refl
behind-nothing (Some r) = refl

-- ---- what a first token begins

pub an-array : (levels : ℕ) (ts rest : List Token) → ts ≡ Token.begin_array ∷ rest → 0 < levels → converted of_json (value levels ts) ≡ parse_map array (converted of_items (items (value (levels - 1)) (length rest) rest))
an-array levels ts rest first some =
    ap (converted of_json) (ap (value levels) first ∙ value-begin_array levels rest some) ∙ array-data (items (value (levels - 1)) (length rest) rest)

pub an-object : (levels : ℕ) (ts rest : List Token) → ts ≡ Token.begin_object ∷ rest → 0 < levels → converted of_json (value levels ts) ≡ parse_map object (converted (onto no_members) (members (value (levels - 1)) (length rest) rest))
an-object levels ts rest first some =
    ap (converted of_json) (ap (value levels) first ∙ value-begin_object levels rest some) ∙ object-data (members (value (levels - 1)) (length rest) rest)

-- no array or object stands deeper than all levels
pub too-deep : (levels : ℕ) (ts rest : List Token) (t : Token) → (t ≡ Token.begin_array) ⊎ (t ≡ Token.begin_object) → ts ≡ t ∷ rest → levels ≡ 0 → converted of_json (value levels ts) ≡ None
unfolding value
too-deep levels ts rest t (inl is) first none = ap (converted of_json) (ap₂ value none (first ∙ ap (λ k. k ∷ rest) is))
too-deep levels ts rest t (inr is) first none = ap (converted of_json) (ap₂ value none (first ∙ ap (λ k. k ∷ rest) is))
