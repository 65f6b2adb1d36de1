-- A tree without faults means its term.
use Rattle.std.proofs.Common.{◌≡◌, ℕ, zero, suc, ◌<◌, Bool, true, false, ◌⊎◌, inl, inr, List, [], ◌∷◌, ◌++◌, map, Option, Some, None, refl, sym, ap, subst, ◌∙◌, arith, if◌then◌else◌, codes}
use Rattle.std.specs.Prelude.{slice_get, ◌||◌, option_map}
use Rattle.std.specs.Str.{bytes_eq}
use Rattle.std.proofs.lemmas.Bool.{false≢true}
use Rattle.flight_syntax.specs.declared.expr.Tag.{Tag}
use Rattle.flight_syntax.specs.declared.expr.Tag.TheVariants.{Host}
use Rattle.flight_syntax.specs.Names.{is_lower}
use Rattle.flight_syntax.specs.Lexicon.{Placed}
use Rattle.flight_syntax.specs.Tree as tree
use Rattle.flight_syntax.specs.Tree.{Tree, Trees, TreeProps, TreePairs, Declaration}
use Rattle.flight_syntax.specs.Scope.{IsInnermost, is_server, is_client, is_action, number_of, server_number, client_number, action_number, component_tag, tag_of, Means, MeansEach, MeansProps, MeansPairs}
use Rattle.flight_syntax.specs.Faults.{is_named, clients, servers, components, actions, property_names, is_tag, unless_known, repeated, beside_children, keys_of, faults, faults_each, faults_props, faults_pairs}
use Rattle.flight_syntax.specs.Meaning.{occurs, innermost, given, given_tag, meaning, meanings, meaning_props, meaning_pairs}
use Rattle.flight_syntax.proofs.Meanings.{bytes_is, occurs_at}

-- ---- lists and tests

pub nil_left : {A : Type 0} (a b : List A) → a ++ b ≡ [] → a ≡ []
nil_left [] b e = refl
nil_left (x ∷ a) b e = absurd cc

pub nil_right : {A : Type 0} (a b : List A) → a ++ b ≡ [] → b ≡ []
nil_right [] b e = e
nil_right (x ∷ a) b e = absurd cc

known_is : (known : Bool) (name : Placed) → unless_known known name ≡ [] → known ≡ true
known_is true name e = refl
known_is false name e = absurd cc

or_parts : (a b : Bool) → (a || b) ≡ true → (a ≡ true) ⊎ (b ≡ true)
or_parts true b e = inl refl
or_parts false b e = inr e

then_true : (b c : Bool) → b ≡ true → (if b then true else c) ≡ true
then_true true c e = refl
then_true false c e = absurd cc

else_true : (b c : Bool) → c ≡ true → (if b then true else c) ≡ true
else_true true c e = refl
else_true false c e = e

-- ---- variables

-- what is in scope in the one list is so in the other
abbrev pub InScope : List Placed → List (List ℕ) → Type 0
InScope outer scope = (name : List ℕ) → is_named name outer ≡ true → occurs name scope ≡ true

occurs_before : (name : List ℕ) (scope more : List (List ℕ)) → occurs name scope ≡ true → occurs name (scope ++ more) ≡ true
occurs_before name [] more e = absurd cc
occurs_before name (n ∷ scope) more e = by (bytes_eq n name) e (occurs_before name scope more)
  where
    by : (b : Bool) → (if b then true else occurs name scope) ≡ true → (occurs name scope ≡ true → occurs name (scope ++ more) ≡ true) → (if b then true else occurs name (scope ++ more)) ≡ true
    by true e h = refl
    by false e h = h e

occurs_last : (name n : List ℕ) (scope : List (List ℕ)) → bytes_eq n name ≡ true → occurs name (scope ++ n ∷ []) ≡ true
occurs_last name n [] e = then_true (bytes_eq n name) false e
occurs_last name n (m ∷ scope) e = else_true (bytes_eq m name) (occurs name (scope ++ n ∷ [])) (occurs_last name n scope e)

one_more : (n : Placed) (outer : List Placed) (scope : List (List ℕ)) → InScope outer scope → InScope (n ∷ outer) (scope ++ n.bytes ∷ [])
one_more n outer scope h name e = by (or_parts (bytes_eq n.bytes name) (is_named name outer) e)
  where
    by : (bytes_eq n.bytes name ≡ true) ⊎ (is_named name outer ≡ true) → occurs name (scope ++ n.bytes ∷ []) ≡ true
    by (inl k) = occurs_last name n.bytes scope k
    by (inr k) = occurs_before name scope (n.bytes ∷ []) (h name k)

pub all_in_scope : (params : List Placed) → InScope params (map (λ p. p.bytes) params)
all_in_scope [] name e = absurd cc
all_in_scope (p ∷ params) name e = by (or_parts (bytes_eq p.bytes name) (is_named name params) e) (all_in_scope params name)
  where
    by : (bytes_eq p.bytes name ≡ true) ⊎ (is_named name params ≡ true) → (is_named name params ≡ true → occurs name (map (λ p. p.bytes) params) ≡ true) → (if bytes_eq p.bytes name then true else occurs name (map (λ p. p.bytes) params)) ≡ true
    by (inl k) again = then_true (bytes_eq p.bytes name) (occurs name (map (λ p. p.bytes) params)) k
    by (inr k) again = else_true (bytes_eq p.bytes name) (occurs name (map (λ p. p.bytes) params)) (again k)

pub innermost-is : (scope : List (List ℕ)) (name : List ℕ) → occurs name scope ≡ true → IsInnermost scope name (innermost scope name)
innermost-is [] name e = absurd cc
innermost-is (n ∷ scope) name e = by (occurs name scope) refl (innermost-is scope name)
  where
    far : IsInnermost scope name (innermost scope name) → IsInnermost (n ∷ scope) name (suc (innermost scope name))
    far h = record { here = h.here; innermost = later h }
      where
        later : IsInnermost scope name (innermost scope name) → (k : ℕ) → suc (innermost scope name) < k → slice_get (n ∷ scope) k ≡ Some name → ⊥
        later h zero l q = absurd (omega (arith, l))
        later h (suc k) l q = h.innermost k (omega (arith, l)) q

    near : occurs name scope ≡ false → bytes_eq n name ≡ true → IsInnermost (n ∷ scope) name zero
    near none k = record { here = ap (λ z. Some z) (bytes_is n name k); innermost = later none }
      where
        later : occurs name scope ≡ false → (k : ℕ) → zero < k → slice_get (n ∷ scope) k ≡ Some name → ⊥
        later none zero l q = absurd (omega (arith, l))
        later none (suc k) l q = absurd (false≢true (sym none ∙ occurs_at name scope k q))

    first : (b : Bool) → occurs name scope ≡ false → (if b then true else occurs name scope) ≡ true → b ≡ true
    first true none e = refl
    first false none e = absurd (false≢true (sym none ∙ e))

    by : (b : Bool) → occurs name scope ≡ b → (occurs name scope ≡ true → IsInnermost scope name (innermost scope name)) → IsInnermost (n ∷ scope) name (innermost (n ∷ scope) name)
    by true q again = subst (λ z. IsInnermost (n ∷ scope) name (if z then suc (innermost scope name) else zero)) (sym q) (far (again q))
    by false q again = subst (λ z. IsInnermost (n ∷ scope) name (if z then suc (innermost scope name) else zero)) (sym q) (near q (first (bytes_eq n name) q e))

-- ---- declarations

abbrev Found : Option ℕ → Type 0
Found o = o ≡ Some (given o)

found_suc : (o : Option ℕ) → Found o → Found (option_map suc o)
found_suc (Some n) e = refl
found_suc None e = absurd cc

found_then : (b : Bool) (o : Option ℕ) → Found o → Found (if b then Some 0 else o)
found_then true o e = refl
found_then false o e = e

found_first : (b : Bool) (o : Option ℕ) → b ≡ true → Found (if b then Some 0 else o)
found_first true o e = refl
found_first false o e = absurd cc

found_more : (test : Declaration → Bool) (d : Declaration) (all : List Declaration) → Found (number_of test all) → Found (number_of test (d ∷ all))
found_more test d all e = found_then (test d) (option_map suc (number_of test all)) (found_suc (number_of test all) e)

found_here : (test : Declaration → Bool) (d : Declaration) (all : List Declaration) → test d ≡ true → Found (number_of test (d ∷ all))
found_here test d all e = found_first (test d) (option_map suc (number_of test all)) e

client_found : (all : List Declaration) (name : List ℕ) → is_named name (clients all) ≡ true → Found (client_number all name)
client_found [] name e = absurd cc
client_found (tree.client_is n j ∷ all) name e = by (or_parts (bytes_eq n.bytes name) (is_named name (clients all)) e) (client_found all name)
  where
    by : (bytes_eq n.bytes name ≡ true) ⊎ (is_named name (clients all) ≡ true) → (is_named name (clients all) ≡ true → Found (client_number all name)) → Found (client_number (tree.client_is n j ∷ all) name)
    by (inl k) again = found_here (is_client name) (tree.client_is n j) all k
    by (inr k) again = found_more (is_client name) (tree.client_is n j) all (again k)
client_found (tree.server n ps b ∷ all) name e = found_more (is_client name) (tree.server n ps b) all (client_found all name e)
client_found (tree.action_is n ps b ∷ all) name e = found_more (is_client name) (tree.action_is n ps b) all (client_found all name e)

action_found : (all : List Declaration) (name : List ℕ) → is_named name (actions all) ≡ true → Found (action_number all name)
action_found [] name e = absurd cc
action_found (tree.action_is n ps b ∷ all) name e = by (or_parts (bytes_eq n.bytes name) (is_named name (actions all)) e) (action_found all name)
  where
    by : (bytes_eq n.bytes name ≡ true) ⊎ (is_named name (actions all) ≡ true) → (is_named name (actions all) ≡ true → Found (action_number all name)) → Found (action_number (tree.action_is n ps b ∷ all) name)
    by (inl k) again = found_here (is_action name) (tree.action_is n ps b) all k
    by (inr k) again = found_more (is_action name) (tree.action_is n ps b) all (again k)
action_found (tree.server n ps b ∷ all) name e = found_more (is_action name) (tree.server n ps b) all (action_found all name e)
action_found (tree.client_is n j ∷ all) name e = found_more (is_action name) (tree.client_is n j) all (action_found all name e)

component_found : (all : List Declaration) (name : List ℕ) → is_named name (components all) ≡ true → Found (server_number all name) ⊎ Found (client_number all name)
component_found [] name e = absurd cc
component_found (tree.action_is n ps b ∷ all) name e = by (component_found all name e)
  where
    by : Found (server_number all name) ⊎ Found (client_number all name) → Found (server_number (tree.action_is n ps b ∷ all) name) ⊎ Found (client_number (tree.action_is n ps b ∷ all) name)
    by (inl k) = inl (found_more (is_server name) (tree.action_is n ps b) all k)
    by (inr k) = inr (found_more (is_client name) (tree.action_is n ps b) all k)
component_found (tree.server n ps b ∷ all) name e = by (or_parts (bytes_eq n.bytes name) (is_named name (components all)) e) (component_found all name)
  where
    more : Found (server_number all name) ⊎ Found (client_number all name) → Found (server_number (tree.server n ps b ∷ all) name) ⊎ Found (client_number (tree.server n ps b ∷ all) name)
    more (inl k) = inl (found_more (is_server name) (tree.server n ps b) all k)
    more (inr k) = inr (found_more (is_client name) (tree.server n ps b) all k)

    by : (bytes_eq n.bytes name ≡ true) ⊎ (is_named name (components all) ≡ true) → (is_named name (components all) ≡ true → Found (server_number all name) ⊎ Found (client_number all name))
        → Found (server_number (tree.server n ps b ∷ all) name) ⊎ Found (client_number (tree.server n ps b ∷ all) name)
    by (inl k) again = inl (found_here (is_server name) (tree.server n ps b) all k)
    by (inr k) again = more (again k)
component_found (tree.client_is n j ∷ all) name e = by (or_parts (bytes_eq n.bytes name) (is_named name (components all)) e) (component_found all name)
  where
    more : Found (server_number all name) ⊎ Found (client_number all name) → Found (server_number (tree.client_is n j ∷ all) name) ⊎ Found (client_number (tree.client_is n j ∷ all) name)
    more (inl k) = inl (found_more (is_server name) (tree.client_is n j) all k)
    more (inr k) = inr (found_more (is_client name) (tree.client_is n j) all k)

    by : (bytes_eq n.bytes name ≡ true) ⊎ (is_named name (components all) ≡ true) → (is_named name (components all) ≡ true → Found (server_number all name) ⊎ Found (client_number all name))
        → Found (server_number (tree.client_is n j ∷ all) name) ⊎ Found (client_number (tree.client_is n j ∷ all) name)
    by (inl k) again = inr (found_here (is_client name) (tree.client_is n j) all k)
    by (inr k) again = more (again k)

abbrev HasTag : Option Tag → Type 0
HasTag o = o ≡ Some (given_tag o)

by_server : (s c : Option ℕ) (b : Bool) → Found s → HasTag (component_tag s c b)
by_server (Some n) c b e = refl
by_server None c b e = absurd cc

by_client : (s c : Option ℕ) (b : Bool) → Found c → HasTag (component_tag s c b)
by_client (Some n) c b e = refl
by_client None (Some n) b e = refl
by_client None None b e = absurd cc

by_suspense : (s c : Option ℕ) (b : Bool) → b ≡ true → HasTag (component_tag s c b)
by_suspense (Some n) c b e = refl
by_suspense None (Some n) b e = refl
by_suspense None None true e = refl
by_suspense None None false e = absurd cc

if_tag : (b : Bool) (t : Tag) (o : Option Tag) → (b ≡ true) ⊎ HasTag o → HasTag (if b then Some t else o)
if_tag true t o h = refl
if_tag false t o (inl e) = absurd cc
if_tag false t o (inr e) = e

abbrev suspense : List ℕ → Bool
suspense name = bytes_eq name (codes "Suspense")

upper_found : (all : List Declaration) (name : List ℕ) → (is_named name (components all) ≡ true) ⊎ (suspense name ≡ true) → HasTag (component_tag (server_number all name) (client_number all name) (suspense name))
upper_found all name (inr e) = by_suspense (server_number all name) (client_number all name) (suspense name) e
upper_found all name (inl e) = by (component_found all name e)
  where
    by : Found (server_number all name) ⊎ Found (client_number all name) → HasTag (component_tag (server_number all name) (client_number all name) (suspense name))
    by (inl k) = by_server (server_number all name) (client_number all name) (suspense name) k
    by (inr k) = by_client (server_number all name) (client_number all name) (suspense name) k

tag_found : (all : List Declaration) (name : List ℕ) → is_tag all name ≡ true → HasTag (tag_of all name)
tag_found all name e = if_tag (is_lower name) (Host name) (component_tag (server_number all name) (client_number all name) (suspense name)) (by (or_parts (is_lower name) (is_named name (components all) || suspense name) e))
  where
    by : (is_lower name ≡ true) ⊎ ((is_named name (components all) || suspense name) ≡ true) → (is_lower name ≡ true) ⊎ HasTag (component_tag (server_number all name) (client_number all name) (suspense name))
    by (inl k) = inl k
    by (inr k) = inr (upper_found all name (or_parts (is_named name (components all)) (suspense name) k))

-- ---- trees

-- without what stands for what is too deep
abbrev mutual
  pub IsWhole : Tree → Type 0
  IsWhole tree.too_deep = ⊥
  IsWhole (tree.too_many of) = ⊥
  IsWhole (tree.let_in n v b) = IsWhole v × IsWhole b
  IsWhole (tree.if_else t y o) = IsWhole t × IsWhole y × IsWhole o
  IsWhole (tree.for_in n o g) = IsWhole o × IsWhole g
  IsWhole (tree.throw v) = IsWhole v
  IsWhole (tree.member of n) = IsWhole of
  IsWhole (tree.index of t) = IsWhole of × IsWhole t
  IsWhole (tree.array l) = AreWhole l
  IsWhole (tree.object l) = ArePropsWhole l
  IsWhole (tree.map l) = ArePairsWhole l
  IsWhole (tree.set l) = AreWhole l
  IsWhole (tree.action_with n l) = AreWhole l
  IsWhole (tree.paren t) = IsWhole t
  IsWhole (tree.binary o l r) = IsWhole l × IsWhole r
  IsWhole (tree.element n a c) = ArePropsWhole a × AreWhole c
  IsWhole _ = Unit {0}

  pub AreWhole : Trees → Type 0
  AreWhole tree.no_trees = Unit {0}
  AreWhole (tree.tree_and t l) = IsWhole t × AreWhole l

  pub ArePropsWhole : TreeProps → Type 0
  ArePropsWhole tree.no_props = Unit {0}
  ArePropsWhole (tree.prop_and n t l) = IsWhole t × ArePropsWhole l

  pub ArePairsWhole : TreePairs → Type 0
  ArePairsWhole tree.no_pairs = Unit {0}
  ArePairsWhole (tree.pair_and k t l) = IsWhole k × IsWhole t × ArePairsWhole l

mutual
  pub means_it : (all : List Declaration) (outer : List Placed) (scope : List (List ℕ)) → InScope outer scope → (t : Tree) → IsWhole t → faults all outer t ≡ [] → Means all scope t (meaning all scope t)
  means_it all outer scope h (tree.let_in n v b) w e =
      (refl, means_it all outer scope h v w.0 (nil_left (faults all outer v) _ e), means_it all (n ∷ outer) (scope ++ n.bytes ∷ []) (one_more n outer scope h) b w.1 (nil_right (faults all outer v) _ e))
  means_it all outer scope h (tree.if_else t y o) w e =
      let r = nil_right (faults all outer t) _ e in
      (means_it all outer scope h t w.0 (nil_left (faults all outer t) _ e), means_it all outer scope h y w.1 (nil_left (faults all outer y) _ r), means_it all outer scope h o w.2 (nil_right (faults all outer y) _ r))
  means_it all outer scope h (tree.for_in n o g) w e =
      (refl, means_it all outer scope h o w.0 (nil_left (faults all outer o) _ e), means_it all (n ∷ outer) (scope ++ n.bytes ∷ []) (one_more n outer scope h) g w.1 (nil_right (faults all outer o) _ e))
  means_it all outer scope h (tree.throw v) w e = means_it all outer scope h v w e
  means_it all outer scope h (tree.member of n) w e = (refl, means_it all outer scope h of w e)
  means_it all outer scope h (tree.index of t) w e = (means_it all outer scope h of w.0 (nil_left (faults all outer of) _ e), means_it all outer scope h t w.1 (nil_right (faults all outer of) _ e))
  means_it all outer scope h (tree.atom a) w e = refl
  means_it all outer scope h (tree.variable n) w e = innermost-is scope n.bytes (h n.bytes (known_is (is_named n.bytes outer) n e))
  means_it all outer scope h (tree.client n) w e = client_found all n.bytes (known_is (is_named n.bytes (clients all)) n e)
  means_it all outer scope h (tree.array l) w e = means_all all outer scope h l w e
  means_it all outer scope h (tree.object l) w e = means_its all outer scope h l w (nil_right (repeated [] (property_names l)) _ e)
  means_it all outer scope h (tree.map l) w e = means_both all outer scope h l w e
  means_it all outer scope h (tree.set l) w e = means_all all outer scope h l w e
  means_it all outer scope h (tree.source n) w e = refl
  means_it all outer scope h (tree.promise n) w e = refl
  means_it all outer scope h (tree.stream n) w e = refl
  means_it all outer scope h (tree.action n) w e = action_found all n.bytes (known_is (is_named n.bytes (actions all)) n e)
  means_it all outer scope h (tree.action_with n l) w e =
      let known = unless_known (is_named n.bytes (actions all)) n in
      (action_found all n.bytes (known_is (is_named n.bytes (actions all)) n (nil_left known _ e)), means_all all outer scope h l w (nil_right known _ e))
  means_it all outer scope h (tree.paren t) w e = means_it all outer scope h t w e
  means_it all outer scope h (tree.binary o l r) w e = (refl, means_it all outer scope h l w.0 (nil_left (faults all outer l) _ e), means_it all outer scope h r w.1 (nil_right (faults all outer l) _ e))
  means_it all outer scope h (tree.element n a c) w e =
      let known = unless_known (is_tag all n.bytes) n in
      let r1 = nil_right known _ e in
      let r2 = nil_right (repeated [] (property_names a)) _ r1 in
      let r3 = nil_right (beside_children c (property_names a)) _ r2 in
      let r4 = nil_right (keys_of (is_named n.bytes (servers all)) (property_names a)) _ r3 in
      (tag_found all n.bytes (known_is (is_tag all n.bytes) n (nil_left known _ e)), means_its all outer scope h a w.0 (nil_left (faults_props all outer a) _ r4), means_all all outer scope h c w.1 (nil_right (faults_props all outer a) _ r4))
  means_it all outer scope h tree.too_deep w e = absurd w
  means_it all outer scope h (tree.too_many of) w e = absurd w

  means_all : (all : List Declaration) (outer : List Placed) (scope : List (List ℕ)) → InScope outer scope → (l : Trees) → AreWhole l → faults_each all outer l ≡ [] → MeansEach all scope l (meanings all scope l)
  means_all all outer scope h tree.no_trees w e = tt
  means_all all outer scope h (tree.tree_and t l) w e = (means_it all outer scope h t w.0 (nil_left (faults all outer t) _ e), means_all all outer scope h l w.1 (nil_right (faults all outer t) _ e))

  means_its : (all : List Declaration) (outer : List Placed) (scope : List (List ℕ)) → InScope outer scope → (l : TreeProps) → ArePropsWhole l → faults_props all outer l ≡ [] → MeansProps all scope l (meaning_props all scope l)
  means_its all outer scope h tree.no_props w e = tt
  means_its all outer scope h (tree.prop_and n t l) w e = (refl, means_it all outer scope h t w.0 (nil_left (faults all outer t) _ e), means_its all outer scope h l w.1 (nil_right (faults all outer t) _ e))

  means_both : (all : List Declaration) (outer : List Placed) (scope : List (List ℕ)) → InScope outer scope → (l : TreePairs) → ArePairsWhole l → faults_pairs all outer l ≡ [] → MeansPairs all scope l (meaning_pairs all scope l)
  means_both all outer scope h tree.no_pairs w e = tt
  means_both all outer scope h (tree.pair_and k t l) w e =
      let r = nil_right (faults all outer k) _ e in
      (means_it all outer scope h k w.0 (nil_left (faults all outer k) _ e), means_it all outer scope h t w.1 (nil_left (faults all outer t) _ r), means_both all outer scope h l w.2 (nil_right (faults all outer t) _ r))
