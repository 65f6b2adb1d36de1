-- One turn of each loop of the reader, and names in a map.
use Rattle.std.proofs.Common.{◌≡◌, ℕ, zero, suc, ◌+◌, ◌-◌, ◌<◌, List, [], ◌∷◌, ◌++◌, refl, sym, ◌∙◌, ap, arith, true, false, Bool, Option, Some, None, option_map, is_some, string_bytes, string_cmp, codes}
use Rattle.std.specs.Prelude.{String}
use Rattle.std.specs.declared.alloc.Global.{Global}
use Rattle.std.specs.Map.{lookup}
use Rattle.std.specs.BTreeMap.{is_at}
use Rattle.serde_json.specs.Data.{Data, Members, array, object}
use Rattle.serde_json.specs.Find.{get_member}
use Rattle.serde_json.specs.View.{view, items_of, members_view}
use Rattle.serde_json.specs.declared.value.Value.{Value}
use Rattle.serde_json.proofs.Views.{view-lookup}
use Rattle.flight_syntax.specs.declared.token.TokenKind.TheVariants.{Mark}
use Rattle.flight_syntax.specs.Words.{Word}
use Rattle.flight_top.specs.StaticReader.{gives, Reader, ◌>>=◌, if_some, want, items_by, property, members_by, attribute, attributes_by, value, begun}

-- a turn is taken off those that are left
pub turn_off : (end at : ℕ) → at < end → end - at ≡ suc (end - (at + 1))
turn_off end at h = omega arith

pub value_at : (n m : ℕ) (ws : List Word) → n ≡ suc m → value n ws ≡ begun (value m) ws
unfolding value
value_at n m ws e = rw e refl

-- behind an item
pub item_open : (n : ℕ) (p : Reader) (done : List Data) (ws r : List Word) (x : Data) → p ws ≡ gives x r → None ≡ want Mark (codes "]") r → items_by (suc n) p done ws ≡ (want Mark (codes ",") r >>= λ m. items_by n p (done ++ x ∷ []) m)
item_open n p done ws r x e none =
    ap (λ o. o >>= λ x. if_some (want Mark (codes "]") x.1) (λ r. gives (array (items_of (done ++ x.0 ∷ []))) r) (want Mark (codes ",") x.1 >>= λ r. items_by n p (done ++ x.0 ∷ []) r)) e
    ∙ ap (λ o. if_some o (λ r. gives (array (items_of (done ++ x ∷ []))) r) (want Mark (codes ",") r >>= λ r. items_by n p (done ++ x ∷ []) r)) (sym none)

pub item_closed : (n : ℕ) (p : Reader) (done : List Data) (ws r end : List Word) (x : Data) → p ws ≡ gives x r → Some end ≡ want Mark (codes "]") r → items_by (suc n) p done ws ≡ gives (array (items_of (done ++ x ∷ []))) end
item_closed n p done ws r end x e closed =
    ap (λ o. o >>= λ x. if_some (want Mark (codes "]") x.1) (λ r. gives (array (items_of (done ++ x.0 ∷ []))) r) (want Mark (codes ",") x.1 >>= λ r. items_by n p (done ++ x.0 ∷ []) r)) e
    ∙ ap (λ o. if_some o (λ r. gives (array (items_of (done ++ x ∷ []))) r) (want Mark (codes ",") r >>= λ r. items_by n p (done ++ x ∷ []) r)) (sym closed)

pub item_comma : (n : ℕ) (p : Reader) (done : List Data) (ws r next : List Word) (x : Data) → p ws ≡ gives x r → None ≡ want Mark (codes "]") r → want Mark (codes ",") r ≡ Some next → items_by (suc n) p done ws ≡ items_by n p (done ++ x ∷ []) next
item_comma n p done ws r next x e none comma = item_open n p done ws r x e none ∙ ap (λ o. o >>= λ m. items_by n p (done ++ x ∷ []) m) comma

pub prop_comma : (n : ℕ) (p : Reader) (found more : Members) (ws r next : List Word) → property p found ws ≡ gives more r → None ≡ want Mark (codes "}") r → want Mark (codes ",") r ≡ Some next → members_by (suc n) p found ws ≡ members_by n p more next
prop_comma n p found more ws r next e none comma =
    ap (λ o. o >>= λ x. if_some (want Mark (codes "}") x.1) (λ r. gives (object x.0) r) (want Mark (codes ",") x.1 >>= λ r. members_by n p x.0 r)) e
    ∙ ap (λ o. if_some o (λ r. gives (object more) r) (want Mark (codes ",") r >>= λ r. members_by n p more r)) (sym none)
    ∙ ap (λ o. o >>= λ m. members_by n p more m) comma

pub attribute_next : (n : ℕ) (p : Reader) (found more : Members) (ws next : List Word) → None ≡ want Mark (codes "/>") ws → attribute p found ws ≡ gives more next → attributes_by (suc n) p found ws ≡ attributes_by n p more next
attribute_next n p found more ws next none e =
    ap (λ o. if_some o (λ r. gives found r) (attribute p found ws >>= λ x. attributes_by n p x.0 x.1)) (sym none) ∙ ap (λ o. o >>= λ x. attributes_by n p x.0 x.1) e

-- ---- names in a map

is_some-map : {A B : Type 0} (f : A → B) (o : Option A) → is_some (option_map f o) ≡ is_some o
is_some-map f None = refl
is_some-map f (Some x) = refl

-- a name is found among the members where the map has it
pub found_name : (es : List (String Global × Value)) (k : String Global) (o : Option Value) → o ≡ lookup (is_at (λ y. string_cmp k y)) es → is_some (get_member (string_bytes k) (members_view es)) ≡ is_some o
found_name es k o e = ap is_some (sym (view-lookup (string_bytes k) es)) ∙ is_some-map view (lookup (is_at (λ y. string_cmp k y)) es) ∙ ap is_some (sym e)

pub none_of : {A : Type 0} (o : Option A) → is_some o ≡ false → o ≡ None
none_of None e = refl
none_of (Some x) e = absurd cc
