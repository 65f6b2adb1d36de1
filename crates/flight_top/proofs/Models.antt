-- Nodes put where one stands, texts with no dollar in front, elements, and names in order.
use Rattle.std.proofs.Common.{◌≡◌, ℕ, ◌+◌, ◌<◌, ◌≤◌, List, [], ◌∷◌, ◌++◌, length, map, slice_set, slice_index_or, refl, sym, ◌∙◌, ap, subst, append_assoc, append-nil, length-append, arith, ◌≢◌, ◌==◌, true, false, string_bytes, string_cmp}
use Rattle.std.specs.Prelude.{Option, Some, None, MatchOption, IsSome, option_to_list, ◌↔◌, String, Result, Ok, Err, IfOk, ◌^◌}
use Rattle.std.specs.Map.{keys_of}
use Rattle.std.proofs.lemmas.Bool.{false≢true}
use Rattle.flight_value.specs.Graph.{Ascend}
use Rattle.flight_value.specs.declared.graph.Prop.{Prop}
use Rattle.flight_top.specs.declared.model.Refused.{Refused}
use Rattle.std.specs.declared.alloc.Global.{Global}
use Rattle.std.specs.declared.cmp.Ordering.TheVariants.{Less}
use Rattle.std.specs.Ordering.{nat_cmp}
use Rattle.std.specs.Cmp.Lexicographic.{slice_cmp}
use Rattle.std.specs.List.{AllByRecursion}
use Rattle.std.specs.List.Sorted.{IsStrictlySortedBy}
use Rattle.std.proofs.lemmas.Bool.Decides.{nat_tests}
use Rattle.std.proofs.Math.Seq.{set-append_seam}
use Rattle.serde_json.specs.Data.{Data, Items, no_items, item}
use Rattle.serde_json.specs.View.{view, items_view, members_view}
use Rattle.serde_json.specs.declared.value.Value.{Value}
use Rattle.flight_value.specs.declared.graph.Node.{Node}
use Rattle.flight_value.specs.declared.graph.Node.TheVariants as node
use Rattle.flight_top.specs.Model.{text_of, is_mark, is_key, has_element_form, nodes_at, array_nodes, member_props}
use Rattle.flight_top.specs.Fine.{three, behind}

-- a node that is put where one stood, in front of what came behind it
pub filled : (before after more : List Node) (n : ℕ) (first node : Node) → length before ≡ n → after ≡ (before ++ first ∷ []) ++ more → slice_set after n node ≡ before ++ node ∷ more
filled before after more n first node len e =
    rw (e, append_assoc, ← len) (set-append_seam before first more node)

-- a text that does not begin with a dollar is itself
pub not_dollar : (t : List ℕ) → ((rest : List ℕ) → t ≢ 36 ∷ rest) → Some t ≡ text_of t
not_dollar [] h = refl
not_dollar (b ∷ []) h =
    let other : b ≢ 36 = λ e. h [] (ap (λ x. x ∷ []) e) in
    let test : (b == 36) ≡ false = grind (arith, nat_tests) in
    rw test refl
not_dollar (b ∷ c ∷ bs) h =
    let other : b ≢ 36 = λ e. h (c ∷ bs) (ap (λ x. x ∷ c ∷ bs) e) in
    let test : (b == 36) ≡ false = grind (arith, nat_tests) in
    rw test refl

-- ---- the items of an element

-- in a list of four the form is that of its key
pub form_key : (xs : List Value) (k : Value) → 4 ≤ length xs → length xs < 5 → k ≡ slice_index_or xs 2 k → has_element_form (behind (items_view xs)) ≡ is_key (view k)
form_key [] k least most is_k = absurd (omega arith)
form_key (a ∷ []) k least most is_k = absurd (omega arith)
form_key (a ∷ b ∷ []) k least most is_k = absurd (omega arith)
form_key (a ∷ b ∷ c ∷ []) k least most is_k = absurd (omega arith)
form_key (a ∷ b ∷ c ∷ d ∷ []) k least most is_k = rw is_k refl
form_key (a ∷ b ∷ c ∷ d ∷ e ∷ xs) k least most is_k = absurd (omega arith)

-- what has the form has four items
pub form_length : (xs : List Value) → has_element_form (behind (items_view xs)) ≡ true → length xs ≡ 4
form_length [] form = absurd (false≢true form)
form_length (a ∷ []) form = absurd (false≢true form)
form_length (a ∷ b ∷ []) form = absurd (false≢true form)
form_length (a ∷ b ∷ c ∷ []) form = absurd (false≢true form)
form_length (a ∷ b ∷ c ∷ d ∷ []) form = refl
form_length (a ∷ b ∷ c ∷ d ∷ e ∷ xs) form = absurd (false≢true form)

-- the parts behind the mark, taken one after another
pub parts : (xs first second third rest : List Value) (n n' n'' : ℕ) (mark : Option Value) (t k p : Value) → has_element_form (behind (items_view xs)) ≡ true
    → MatchOption mark ((n ≡ 0) × (n' ≡ 0)) (λ m. (xs ≡ m ∷ first) × (n' + 1 ≡ n)) → n'' + 1 ≡ n' → first ≡ t ∷ second → second ≡ k ∷ third → third ≡ p ∷ rest
    → (m : Data) × (items_view xs ≡ item m (three (view t) (view k) (view p)))
parts xs first second third rest n n' n'' None t k p form step more is_t is_k is_p = let none = step.1 in absurd (omega arith)
parts xs first second third [] n n' n'' (Some m) t k p form step more is_t is_k is_p = (view m, rw (step.0, is_t, is_k, is_p) refl)
parts xs first second third (y ∷ ys) n n' n'' (Some m) t k p form step more is_t is_k is_p =
    absurd (false≢true (rw (step.0, is_t, is_k, is_p) at form))

-- one is taken where any is left
left_over : (n m : ℕ) (o : Option Value) → m + length (option_to_list o) ≡ n → n ≤ m + 1
left_over n m None e = omega arith
left_over n m (Some x) e = omega arith

-- of four each is there
pub all_there : (n first second third fourth : ℕ) (m t k p : Option Value) → n ≡ 4 → first + length (option_to_list m) ≡ n → second + length (option_to_list t) ≡ first → third + length (option_to_list k) ≡ second
    → (IsSome t ↔ (0 < first)) → (IsSome k ↔ (0 < second)) → (IsSome p ↔ (0 < third)) → IsSome t × IsSome k × IsSome p
all_there n first second third fourth m t k p four is_first is_second is_third has_t has_k has_p =
    let a = left_over n first m is_first in
    let b = left_over first second t is_second in
    let c = left_over second third k is_third in
    (has_t.1 (omega arith), has_k.1 (omega arith), has_p.1 (omega arith))

-- no list of another length has the form
pub short_form : (xs : List Value) → length xs < 4 → has_element_form (behind (items_view xs)) ≡ false
short_form [] short = refl
short_form (a ∷ []) short = refl
short_form (a ∷ b ∷ []) short = refl
short_form (a ∷ b ∷ c ∷ []) short = refl
short_form (a ∷ b ∷ c ∷ d ∷ xs) short = absurd (omega arith)

pub long_form : (xs : List Value) → 5 ≤ length xs → has_element_form (behind (items_view xs)) ≡ false
long_form [] long = absurd (omega arith)
long_form (a ∷ []) long = absurd (omega arith)
long_form (a ∷ b ∷ []) long = absurd (omega arith)
long_form (a ∷ b ∷ c ∷ []) long = absurd (omega arith)
long_form (a ∷ b ∷ c ∷ d ∷ []) long = absurd (omega arith)
long_form (a ∷ b ∷ c ∷ d ∷ e ∷ xs) long = refl

-- the nodes of an element
pub element_nodes : (n : ℕ) (m t k p : Data) → is_mark m ≡ true
    → array_nodes n (item m (three t k p)) ≡ nodes_at n t ++ (nodes_at (n + length (nodes_at n t)) k ++ (nodes_at (n + length (nodes_at n t) + length (nodes_at (n + length (nodes_at n t)) k)) p ++ []))
element_nodes n m t k p marked = rw marked refl

-- what three walks one after another put behind the nodes before
pub element_out : (before first second third : List Node) (m t k p : Data) → is_mark m ≡ true → first ≡ before ++ nodes_at (length before) t → second ≡ first ++ nodes_at (length first) k → third ≡ second ++ nodes_at (length second) p
    → third ≡ before ++ array_nodes (length before) (item m (three t k p))
element_out before first second third m t k p marked is_first is_second is_third =
    let n = length before in
    let len_first : length first ≡ n + length (nodes_at n t) = ap length is_first ∙ length-append before (nodes_at n t) in
    let second_is : second ≡ first ++ nodes_at (n + length (nodes_at n t)) k = is_second ∙ ap (λ j. first ++ nodes_at j k) len_first in
    let len_second : length second ≡ n + length (nodes_at n t) + length (nodes_at (n + length (nodes_at n t)) k) = ap length second_is ∙ (length-append first (nodes_at (n + length (nodes_at n t)) k) ∙ ap (λ j. j + length (nodes_at (n + length (nodes_at n t)) k)) len_first) in
    let ts = nodes_at n t in
    let ks = nodes_at (n + length ts) k in
    let ps = nodes_at (n + length ts + length ks) p in
    let third_is : third ≡ second ++ ps = is_third ∙ ap (λ j. second ++ nodes_at j p) len_second in
    third_is
    ∙ (ap (λ xs. xs ++ ps) (second_is ∙ ap (λ xs. xs ++ ks) is_first)
    ∙ (ap (λ xs. xs ++ ps) (append_assoc before ts ks)
    ∙ (append_assoc before (ts ++ ks) ps
    ∙ (ap (λ xs. before ++ xs) (append_assoc ts ks ps)
    ∙ (ap (λ xs. before ++ (ts ++ (ks ++ xs))) (sym (append-nil ps))
    ∙ ap (λ xs. before ++ xs) (sym (element_nodes n m t k p marked)))))))

-- ---- the names of an object

-- the names of the properties are the keys of the members
pub member_props-names : (n : ℕ) (es : List (String Global × Value)) → map (λ p. p.name) (member_props n (members_view es)) ≡ map (λ k. string_bytes k) (keys_of es)
member_props-names n [] = refl
member_props-names n (e ∷ es) = ap (λ ks. string_bytes e.0 ∷ ks) (member_props-names (n + length (nodes_at n (view e.1))) es)

all_below : (k : String Global) (ks : List (String Global)) → AllByRecursion (λ y. string_cmp k y ≡ Less) ks → AllByRecursion (λ y. slice_cmp nat_cmp (string_bytes k) y ≡ Less) (map (λ k. string_bytes k) ks)
all_below k [] h = h
all_below k (x ∷ ks) h = (h.0, all_below k ks h.1)

-- keys in order have texts in order
pub ascend-map : (ks : List (String Global)) → IsStrictlySortedBy string_cmp ks → IsStrictlySortedBy (slice_cmp nat_cmp) (map (λ k. string_bytes k) ks)
unfolding IsStrictlySortedBy
ascend-map [] h = h
ascend-map (k ∷ ks) h = (all_below k ks h.0, ascend-map ks h.1)

-- properties with these names ascend, where there are any
pub ascend_if_ok : (r : Result (List Prop) Refused) (ps : List Prop) → IfOk r (λ list. (list ≡ ps) × (length ps < 2 ^ 32)) → Ascend (map (λ p. p.name) ps) → IfOk r (λ list. Ascend (map (λ p. p.name) list))
ascend_if_ok (Ok list) ps h ascend = let P : List Prop → Type 0 = λ ps. Ascend (map (λ p. p.name) ps) in subst P (sym h.0) ascend
ascend_if_ok (Err e) ps h ascend = h
