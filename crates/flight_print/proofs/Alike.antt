-- Where the names of a program stand in its text changes neither its faults nor its meaning.
use Rattle.std.proofs.Common.{◌≡◌, ℕ, suc, Bool, true, false, List, [], ◌∷◌, ◌++◌, map, Some, refl, sym, ap, ap₂, ◌∙◌, if◌then◌else◌, codes}
use Rattle.std.specs.Prelude.{◌||◌, option_map}
use Rattle.std.specs.Str.{bytes_eq}
use Rattle.json.specs.Json as json
use Rattle.flight_syntax.specs.declared.expr.Tag.TheVariants.{Host}
use Rattle.flight_syntax.specs.Names.{is_lower}
use Rattle.flight_syntax.specs.Lexicon.{Placed}
use Rattle.flight_syntax.specs.Tree as tree
use Rattle.flight_syntax.specs.Tree.{Tree, Trees, TreeProps, TreePairs, Declaration}
use Rattle.flight_syntax.specs.Scope.{is_server, is_client, is_action, number_of, server_number, client_number, action_number, component_tag, tag_of}
use Rattle.flight_syntax.specs.Meaning.{given, given_tag, meaning, meanings, meaning_props, meaning_pairs}
use Rattle.flight_syntax.specs.Term as term
use Rattle.flight_syntax.specs.Faults.{NameFault, unknown, twice, key_on_server, is_named, servers, clients, components, actions, property_names, is_tag, unless_known, repeated, children_attributes, beside_children, key_attributes, keys_of, faults, faults_each, faults_props, faults_pairs, declaration_faults, each_faults, program_faults, has_app}

-- ---- without places

abbrev pub unplaced : Placed → Placed
unplaced name = record { bytes = name.bytes; at = 0 }

abbrev mutual
  pub plain : Tree → Tree
  plain (tree.let_in n v b) = tree.let_in (unplaced n) (plain v) (plain b)
  plain (tree.if_else t y o) = tree.if_else (plain t) (plain y) (plain o)
  plain (tree.for_in n o g) = tree.for_in (unplaced n) (plain o) (plain g)
  plain (tree.throw v) = tree.throw (plain v)
  plain (tree.member of n) = tree.member (plain of) (unplaced n)
  plain (tree.index of t) = tree.index (plain of) (plain t)
  plain (tree.atom a) = tree.atom a
  plain (tree.variable n) = tree.variable (unplaced n)
  plain (tree.client n) = tree.client (unplaced n)
  plain (tree.array l) = tree.array (plain_each l)
  plain (tree.object l) = tree.object (plain_props l)
  plain (tree.map l) = tree.map (plain_pairs l)
  plain (tree.set l) = tree.set (plain_each l)
  plain (tree.source n) = tree.source (unplaced n)
  plain (tree.promise n) = tree.promise (unplaced n)
  plain (tree.stream n) = tree.stream (unplaced n)
  plain (tree.action n) = tree.action (unplaced n)
  plain (tree.action_with n l) = tree.action_with (unplaced n) (plain_each l)
  plain (tree.paren t) = tree.paren (plain t)
  plain (tree.binary o l r) = tree.binary o (plain l) (plain r)
  plain (tree.element n a c) = tree.element (unplaced n) (plain_props a) (plain_each c)
  plain tree.too_deep = tree.too_deep
  plain (tree.too_many of) = tree.too_many (plain of)

  pub plain_each : Trees → Trees
  plain_each tree.no_trees = tree.no_trees
  plain_each (tree.tree_and t l) = tree.tree_and (plain t) (plain_each l)

  pub plain_props : TreeProps → TreeProps
  plain_props tree.no_props = tree.no_props
  plain_props (tree.prop_and n t l) = tree.prop_and (unplaced n) (plain t) (plain_props l)

  pub plain_pairs : TreePairs → TreePairs
  plain_pairs tree.no_pairs = tree.no_pairs
  plain_pairs (tree.pair_and k t l) = tree.pair_and (plain k) (plain t) (plain_pairs l)

-- what a bundler says is left out
abbrev pub plain_declaration : Declaration → Declaration
plain_declaration (tree.server n ps b) = tree.server (unplaced n) (map unplaced ps) (plain b)
plain_declaration (tree.client_is n j) = tree.client_is (unplaced n) json.null
plain_declaration (tree.action_is n ps b) = tree.action_is (unplaced n) (map unplaced ps) (plain b)

abbrev plain_fault : NameFault → NameFault
plain_fault (unknown n) = unknown (unplaced n)
plain_fault (twice n) = twice (unplaced n)
plain_fault (key_on_server n) = key_on_server (unplaced n)

-- ---- names

abbrev all_plain : List Declaration → List Declaration
all_plain all = map plain_declaration all

named_plain : (q : List ℕ) (names : List Placed) → is_named q (map unplaced names) ≡ is_named q names
named_plain q [] = refl
named_plain q (n ∷ names) = ap (λ z. bytes_eq n.bytes q || z) (named_plain q names)

servers_plain : (all : List Declaration) → servers (all_plain all) ≡ map unplaced (servers all)
servers_plain [] = refl
servers_plain (tree.server n ps b ∷ all) = ap (λ z. unplaced n ∷ z) (servers_plain all)
servers_plain (tree.client_is n j ∷ all) = servers_plain all
servers_plain (tree.action_is n ps b ∷ all) = servers_plain all

clients_plain : (all : List Declaration) → clients (all_plain all) ≡ map unplaced (clients all)
clients_plain [] = refl
clients_plain (tree.server n ps b ∷ all) = clients_plain all
clients_plain (tree.client_is n j ∷ all) = ap (λ z. unplaced n ∷ z) (clients_plain all)
clients_plain (tree.action_is n ps b ∷ all) = clients_plain all

components_plain : (all : List Declaration) → components (all_plain all) ≡ map unplaced (components all)
components_plain [] = refl
components_plain (tree.server n ps b ∷ all) = ap (λ z. unplaced n ∷ z) (components_plain all)
components_plain (tree.client_is n j ∷ all) = ap (λ z. unplaced n ∷ z) (components_plain all)
components_plain (tree.action_is n ps b ∷ all) = components_plain all

actions_plain : (all : List Declaration) → actions (all_plain all) ≡ map unplaced (actions all)
actions_plain [] = refl
actions_plain (tree.server n ps b ∷ all) = actions_plain all
actions_plain (tree.client_is n j ∷ all) = actions_plain all
actions_plain (tree.action_is n ps b ∷ all) = ap (λ z. unplaced n ∷ z) (actions_plain all)

properties_plain : (l : TreeProps) → property_names (plain_props l) ≡ map unplaced (property_names l)
properties_plain tree.no_props = refl
properties_plain (tree.prop_and n t l) = ap (λ z. unplaced n ∷ z) (properties_plain l)

tag_plain : (all : List Declaration) (q : List ℕ) → is_tag (all_plain all) q ≡ is_tag all q
tag_plain all q = ap (λ z. is_lower q || (z || bytes_eq q (codes "Suspense"))) (ap (is_named q) (components_plain all) ∙ named_plain q (components all))

-- ---- faults

joined : {A B : Type 0} (f : A → B) (a b : List A) → map f (a ++ b) ≡ map f a ++ map f b
joined f [] b = refl
joined f (x ∷ a) b = ap (λ z. f x ∷ z) (joined f a b)

two : (a b c d : List NameFault) → map plain_fault a ≡ c → map plain_fault b ≡ d → map plain_fault (a ++ b) ≡ c ++ d
two a b c d p q = joined plain_fault a b ∙ ap₂ (λ x y. x ++ y) p q

if_plain : (b : Bool) (f : NameFault) → map plain_fault (if b then f ∷ [] else []) ≡ (if b then plain_fault f ∷ [] else [])
if_plain true f = refl
if_plain false f = refl

unless_plain : (b c : Bool) (n : Placed) → c ≡ b → map plain_fault (unless_known b n) ≡ unless_known c (unplaced n)
unless_plain true c n e = ap (λ z. unless_known z (unplaced n)) (sym e)
unless_plain false c n e = ap (λ z. unless_known z (unplaced n)) (sym e)

repeated_plain : (before names : List Placed) → map plain_fault (repeated before names) ≡ repeated (map unplaced before) (map unplaced names)
repeated_plain before [] = refl
repeated_plain before (n ∷ names) =
    two (if is_named n.bytes before then twice n ∷ [] else []) (repeated (n ∷ before) names) (if is_named n.bytes (map unplaced before) then twice (unplaced n) ∷ [] else []) (repeated (map unplaced (n ∷ before)) (map unplaced names))
    (if_plain (is_named n.bytes before) (twice n) ∙ ap (λ z. if z then twice (unplaced n) ∷ [] else []) (sym (named_plain n.bytes before))) (repeated_plain (n ∷ before) names)

children_plain : (names : List Placed) → map plain_fault (children_attributes names) ≡ children_attributes (map unplaced names)
children_plain [] = refl
children_plain (n ∷ names) = two (if bytes_eq n.bytes (codes "children") then twice n ∷ [] else []) (children_attributes names) _ _ (if_plain (bytes_eq n.bytes (codes "children")) (twice n)) (children_plain names)

keys_plain : (names : List Placed) → map plain_fault (key_attributes names) ≡ key_attributes (map unplaced names)
keys_plain [] = refl
keys_plain (n ∷ names) = two (if bytes_eq n.bytes (codes "key") then key_on_server n ∷ [] else []) (key_attributes names) _ _ (if_plain (bytes_eq n.bytes (codes "key")) (key_on_server n)) (keys_plain names)

keys_of_plain : (b c : Bool) (names : List Placed) → c ≡ b → map plain_fault (keys_of b names) ≡ keys_of c (map unplaced names)
keys_of_plain true c names e = keys_plain names ∙ ap (λ z. keys_of z (map unplaced names)) (sym e)
keys_of_plain false c names e = ap (λ z. keys_of z (map unplaced names)) (sym e)

beside_plain : (l : Trees) (names : List Placed) → map plain_fault (beside_children l names) ≡ beside_children (plain_each l) (map unplaced names)
beside_plain tree.no_trees names = refl
beside_plain (tree.tree_and t l) names = children_plain names

mutual
  faults_plain : (all : List Declaration) (scope : List Placed) (t : Tree) → map plain_fault (faults all scope t) ≡ faults (all_plain all) (map unplaced scope) (plain t)
  faults_plain all scope (tree.let_in n v b) = two (faults all scope v) (faults all (n ∷ scope) b) _ _ (faults_plain all scope v) (faults_plain all (n ∷ scope) b)
  faults_plain all scope (tree.if_else t y o) = two (faults all scope t) (faults all scope y ++ faults all scope o) _ _ (faults_plain all scope t) (two (faults all scope y) (faults all scope o) _ _ (faults_plain all scope y) (faults_plain all scope o))
  faults_plain all scope (tree.for_in n o g) = two (faults all scope o) (faults all (n ∷ scope) g) _ _ (faults_plain all scope o) (faults_plain all (n ∷ scope) g)
  faults_plain all scope (tree.throw v) = faults_plain all scope v
  faults_plain all scope (tree.member of n) = faults_plain all scope of
  faults_plain all scope (tree.index of t) = two (faults all scope of) (faults all scope t) _ _ (faults_plain all scope of) (faults_plain all scope t)
  faults_plain all scope (tree.atom a) = refl
  faults_plain all scope (tree.variable n) = unless_plain (is_named n.bytes scope) _ n (named_plain n.bytes scope)
  faults_plain all scope (tree.client n) = unless_plain (is_named n.bytes (clients all)) _ n (ap (is_named n.bytes) (clients_plain all) ∙ named_plain n.bytes (clients all))
  faults_plain all scope (tree.array l) = each_plain all scope l
  faults_plain all scope (tree.object l) =
      two (repeated [] (property_names l)) (faults_props all scope l) _ _ (repeated_plain [] (property_names l) ∙ ap (repeated []) (sym (properties_plain l))) (props_plain all scope l)
  faults_plain all scope (tree.map l) = pairs_plain all scope l
  faults_plain all scope (tree.set l) = each_plain all scope l
  faults_plain all scope (tree.source n) = refl
  faults_plain all scope (tree.promise n) = refl
  faults_plain all scope (tree.stream n) = refl
  faults_plain all scope (tree.action n) = unless_plain (is_named n.bytes (actions all)) _ n (ap (is_named n.bytes) (actions_plain all) ∙ named_plain n.bytes (actions all))
  faults_plain all scope (tree.action_with n l) =
      two (unless_known (is_named n.bytes (actions all)) n) (faults_each all scope l) _ _ (unless_plain (is_named n.bytes (actions all)) _ n (ap (is_named n.bytes) (actions_plain all) ∙ named_plain n.bytes (actions all))) (each_plain all scope l)
  faults_plain all scope (tree.paren t) = faults_plain all scope t
  faults_plain all scope (tree.binary o l r) = two (faults all scope l) (faults all scope r) _ _ (faults_plain all scope l) (faults_plain all scope r)
  faults_plain all scope (tree.element n a c) =
      two (unless_known (is_tag all n.bytes) n) _ _ _ (unless_plain (is_tag all n.bytes) _ n (tag_plain all n.bytes))
      (two (repeated [] (property_names a)) _ _ _ (repeated_plain [] (property_names a) ∙ ap (repeated []) (sym (properties_plain a)))
      (two (beside_children c (property_names a)) _ _ _ (beside_plain c (property_names a) ∙ ap (beside_children (plain_each c)) (sym (properties_plain a)))
      (two (keys_of (is_named n.bytes (servers all)) (property_names a)) _ _ _
      (keys_of_plain (is_named n.bytes (servers all)) _ (property_names a) (ap (is_named n.bytes) (servers_plain all) ∙ named_plain n.bytes (servers all)) ∙ ap (keys_of (is_named n.bytes (servers (all_plain all)))) (sym (properties_plain a)))
      (two (faults_props all scope a) (faults_each all scope c) _ _ (props_plain all scope a) (each_plain all scope c)))))
  faults_plain all scope tree.too_deep = refl
  faults_plain all scope (tree.too_many of) = refl

  each_plain : (all : List Declaration) (scope : List Placed) (l : Trees) → map plain_fault (faults_each all scope l) ≡ faults_each (all_plain all) (map unplaced scope) (plain_each l)
  each_plain all scope tree.no_trees = refl
  each_plain all scope (tree.tree_and t l) = two (faults all scope t) (faults_each all scope l) _ _ (faults_plain all scope t) (each_plain all scope l)

  props_plain : (all : List Declaration) (scope : List Placed) (l : TreeProps) → map plain_fault (faults_props all scope l) ≡ faults_props (all_plain all) (map unplaced scope) (plain_props l)
  props_plain all scope tree.no_props = refl
  props_plain all scope (tree.prop_and n t l) = two (faults all scope t) (faults_props all scope l) _ _ (faults_plain all scope t) (props_plain all scope l)

  pairs_plain : (all : List Declaration) (scope : List Placed) (l : TreePairs) → map plain_fault (faults_pairs all scope l) ≡ faults_pairs (all_plain all) (map unplaced scope) (plain_pairs l)
  pairs_plain all scope tree.no_pairs = refl
  pairs_plain all scope (tree.pair_and k t l) = two (faults all scope k) _ _ _ (faults_plain all scope k) (two (faults all scope t) (faults_pairs all scope l) _ _ (faults_plain all scope t) (pairs_plain all scope l))

declaration_plain : (all : List Declaration) (d : Declaration) → map plain_fault (declaration_faults all d) ≡ declaration_faults (all_plain all) (plain_declaration d)
declaration_plain all (tree.server n ps b) = two (repeated [] ps) (faults all ps b) _ _ (repeated_plain [] ps) (faults_plain all ps b)
declaration_plain all (tree.client_is n j) = refl
declaration_plain all (tree.action_is n ps b) = two (repeated [] ps) (faults all ps b) _ _ (repeated_plain [] ps) (faults_plain all ps b)

declarations_plain : (all rest : List Declaration) → map plain_fault (each_faults all rest) ≡ each_faults (all_plain all) (all_plain rest)
declarations_plain all [] = refl
declarations_plain all (d ∷ rest) = two (declaration_faults all d) (each_faults all rest) _ _ (declaration_plain all d) (declarations_plain all rest)

program_plain : (all : List Declaration) → map plain_fault (program_faults all) ≡ program_faults (all_plain all)
program_plain all =
    two (repeated [] (components all)) _ _ _ (repeated_plain [] (components all) ∙ ap (repeated []) (sym (components_plain all)))
    (two (repeated [] (actions all)) (each_faults all all) _ _ (repeated_plain [] (actions all) ∙ ap (repeated []) (sym (actions_plain all))) (declarations_plain all all))

none_mapped : {A B : Type 0} (f : A → B) (l : List A) → map f l ≡ [] → l ≡ []
none_mapped f [] e = refl
none_mapped f (x ∷ l) e = absurd cc

pub same_faultless : (all other : List Declaration) → map plain_declaration other ≡ map plain_declaration all → program_faults all ≡ [] → program_faults other ≡ []
same_faultless all other e h = none_mapped plain_fault (program_faults other) (program_plain other ∙ (ap program_faults e ∙ (sym (program_plain all) ∙ ap (map plain_fault) h)))

app_plain : (all : List Declaration) → has_app (all_plain all) ≡ has_app all
app_plain all = ap (is_named (codes "App")) (servers_plain all) ∙ named_plain (codes "App") (servers all)

pub same_app : (all other : List Declaration) → map plain_declaration other ≡ map plain_declaration all → has_app other ≡ has_app all
same_app all other e = sym (app_plain other) ∙ (ap has_app e ∙ app_plain all)

-- ---- meanings

number_plain : (test : Declaration → Bool) → ((d : Declaration) → test (plain_declaration d) ≡ test d) → (all : List Declaration) → number_of test (all_plain all) ≡ number_of test all
number_plain test h [] = refl
number_plain test h (d ∷ all) = ap₂ (λ b o. if b then Some 0 else option_map suc o) (h d) (number_plain test h all)

server_plain : (q : List ℕ) (d : Declaration) → is_server q (plain_declaration d) ≡ is_server q d
server_plain q (tree.server n ps b) = refl
server_plain q (tree.client_is n j) = refl
server_plain q (tree.action_is n ps b) = refl

client_plain : (q : List ℕ) (d : Declaration) → is_client q (plain_declaration d) ≡ is_client q d
client_plain q (tree.server n ps b) = refl
client_plain q (tree.client_is n j) = refl
client_plain q (tree.action_is n ps b) = refl

action_plain : (q : List ℕ) (d : Declaration) → is_action q (plain_declaration d) ≡ is_action q d
action_plain q (tree.server n ps b) = refl
action_plain q (tree.client_is n j) = refl
action_plain q (tree.action_is n ps b) = refl

servers_numbered : (all : List Declaration) (q : List ℕ) → server_number (all_plain all) q ≡ server_number all q
servers_numbered all q = number_plain (is_server q) (server_plain q) all

clients_numbered : (all : List Declaration) (q : List ℕ) → client_number (all_plain all) q ≡ client_number all q
clients_numbered all q = number_plain (is_client q) (client_plain q) all

actions_numbered : (all : List Declaration) (q : List ℕ) → action_number (all_plain all) q ≡ action_number all q
actions_numbered all q = number_plain (is_action q) (action_plain q) all

tags_numbered : (all : List Declaration) (q : List ℕ) → tag_of (all_plain all) q ≡ tag_of all q
tags_numbered all q = ap₂ (λ s c. if is_lower q then Some (Host q) else component_tag s c (bytes_eq q (codes "Suspense"))) (servers_numbered all q) (clients_numbered all q)

pub three : {A B C D : Type 0} (f : A → B → C → D) {a a' : A} {b b' : B} {c c' : C} → a ≡ a' → b ≡ b' → c ≡ c' → f a b c ≡ f a' b' c'
three f {a} {a'} {b} {b'} {c} {c'} p q r = ap₂ (λ x y. f x y c) p q ∙ ap (f a' b') r

mutual
  meaning_plain : (all : List Declaration) (scope : List (List ℕ)) (t : Tree) → meaning (all_plain all) scope (plain t) ≡ meaning all scope t
  meaning_plain all scope (tree.let_in n v b) = ap₂ (λ x y. term.let_in n.bytes x y) (meaning_plain all scope v) (meaning_plain all (scope ++ n.bytes ∷ []) b)
  meaning_plain all scope (tree.if_else t y o) = three (λ x a b. term.if_else x a b) (meaning_plain all scope t) (meaning_plain all scope y) (meaning_plain all scope o)
  meaning_plain all scope (tree.for_in n o g) = ap₂ (λ x y. term.for_in n.bytes x y) (meaning_plain all scope o) (meaning_plain all (scope ++ n.bytes ∷ []) g)
  meaning_plain all scope (tree.throw v) = ap (λ x. term.throw x) (meaning_plain all scope v)
  meaning_plain all scope (tree.member of n) = ap (λ x. term.member x n.bytes) (meaning_plain all scope of)
  meaning_plain all scope (tree.index of t) = ap₂ (λ x y. term.index x y) (meaning_plain all scope of) (meaning_plain all scope t)
  meaning_plain all scope (tree.atom a) = refl
  meaning_plain all scope (tree.variable n) = refl
  meaning_plain all scope (tree.client n) = ap (λ x. term.client (given x)) (clients_numbered all n.bytes)
  meaning_plain all scope (tree.array l) = ap (λ x. term.array x) (meanings_plain all scope l)
  meaning_plain all scope (tree.object l) = ap (λ x. term.object x) (meaning_props_plain all scope l)
  meaning_plain all scope (tree.map l) = ap (λ x. term.map x) (meaning_pairs_plain all scope l)
  meaning_plain all scope (tree.set l) = ap (λ x. term.set x) (meanings_plain all scope l)
  meaning_plain all scope (tree.source n) = refl
  meaning_plain all scope (tree.promise n) = refl
  meaning_plain all scope (tree.stream n) = refl
  meaning_plain all scope (tree.action n) = ap (λ x. term.action (given x)) (actions_numbered all n.bytes)
  meaning_plain all scope (tree.action_with n l) = ap₂ (λ x y. term.action_with (given x) y) (actions_numbered all n.bytes) (meanings_plain all scope l)
  meaning_plain all scope (tree.paren t) = ap (λ x. term.paren x) (meaning_plain all scope t)
  meaning_plain all scope (tree.binary o l r) = ap₂ (λ x y. term.binary o x y) (meaning_plain all scope l) (meaning_plain all scope r)
  meaning_plain all scope (tree.element n a c) = three (λ x p q. term.element (given_tag x) p q) (tags_numbered all n.bytes) (meaning_props_plain all scope a) (meanings_plain all scope c)
  meaning_plain all scope tree.too_deep = refl
  meaning_plain all scope (tree.too_many of) = refl

  meanings_plain : (all : List Declaration) (scope : List (List ℕ)) (l : Trees) → meanings (all_plain all) scope (plain_each l) ≡ meanings all scope l
  meanings_plain all scope tree.no_trees = refl
  meanings_plain all scope (tree.tree_and t l) = ap₂ (λ x y. term.term_and x y) (meaning_plain all scope t) (meanings_plain all scope l)

  meaning_props_plain : (all : List Declaration) (scope : List (List ℕ)) (l : TreeProps) → meaning_props (all_plain all) scope (plain_props l) ≡ meaning_props all scope l
  meaning_props_plain all scope tree.no_props = refl
  meaning_props_plain all scope (tree.prop_and n t l) = ap₂ (λ x y. term.prop_and n.bytes x y) (meaning_plain all scope t) (meaning_props_plain all scope l)

  meaning_pairs_plain : (all : List Declaration) (scope : List (List ℕ)) (l : TreePairs) → meaning_pairs (all_plain all) scope (plain_pairs l) ≡ meaning_pairs all scope l
  meaning_pairs_plain all scope tree.no_pairs = refl
  meaning_pairs_plain all scope (tree.pair_and k t l) = three (λ x a b. term.pair_and x a b) (meaning_plain all scope k) (meaning_plain all scope t) (meaning_pairs_plain all scope l)

pub same_meaning : (all other : List Declaration) (scope : List (List ℕ)) (t u : Tree) → map plain_declaration other ≡ map plain_declaration all → plain u ≡ plain t → meaning other scope u ≡ meaning all scope t
same_meaning all other scope t u e f = sym (meaning_plain other scope u) ∙ (ap₂ (λ a x. meaning a scope x) e f ∙ meaning_plain all scope t)
