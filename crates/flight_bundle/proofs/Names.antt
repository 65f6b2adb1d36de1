-- The names of a program without faults: none stands twice, and each stands for its declaration.
use Rattle.std.proofs.Common.{◌≡◌, ◌≢◌, ℕ, zero, suc, Bool, true, false, List, [], ◌∷◌, ◌++◌, map, length, Option, Some, None, refl, sym, ap, subst, ◌∙◌, if◌then◌else◌, codes}
use Rattle.std.specs.Prelude.{slice_get, option_map, ◌||◌}
use Rattle.std.specs.List.{AllZip}
use Rattle.std.specs.Str.{bytes_eq}
use Rattle.std.proofs.lemmas.Bool.{false≢true, or_left, or_right}
use Rattle.flight_syntax.specs.declared.expr.Expr.{Expr}
use Rattle.flight_syntax.specs.declared.expr.Tag.{Tag}
use Rattle.flight_syntax.specs.declared.expr.Tag.TheVariants as tag
use Rattle.flight_syntax.specs.declared.program.Declared.{Declared}
use Rattle.flight_syntax.specs.declared.program.Declared.TheVariants as declared
use Rattle.flight_syntax.specs.Lexicon.{Placed}
use Rattle.flight_syntax.specs.Tree as tree
use Rattle.flight_syntax.specs.Tree.{Declaration, Trees, TreeProps}
use Rattle.flight_syntax.specs.Term.{Terms, Props}
use Rattle.flight_syntax.specs.Term as term
use Rattle.flight_syntax.specs.Names.{is_lower}
use Rattle.flight_syntax.specs.Scope.{is_server, is_client, is_action, number_of, server_number, client_number, action_number, component_tag, tag_of, MeansProps, MeansEach}
use Rattle.flight_syntax.specs.Faults as faults
use Rattle.flight_syntax.specs.Faults.{NameFault, twice, is_named, repeated, children_attributes, beside_children, property_names, servers}
use Rattle.flight_syntax.specs.Derives.{said, bytes_of, SaidAs}
use Rattle.flight_syntax.proofs.Meanings.{bytes_is, bytes_same}
use Rattle.flight_render.specs.declared.root.Ground.{Ground}
use Rattle.flight_render.specs.Valid.{IsServerAt, IsClientAt, IsActionAt, Differs, NoneTwice, names_of, HasChildrenOnce, IsTagOf, components, actions}

some_is : {A : Type 0} (a b : A) → Some a ≡ Some b → a ≡ b
some_is a b e = cc

-- ---- no name stands twice

none_of : (b : Bool) (f : NameFault) (rest : List NameFault) → (if b then f ∷ [] else []) ++ rest ≡ [] → (b ≡ false) × (rest ≡ [])
none_of true f rest e = absurd cc
none_of false f rest e = (refl, e)

not_that : (name other : List ℕ) → bytes_eq other name ≡ false → name ≢ other
not_that name other e same = false≢true (sym e ∙ bytes_same other name (sym same))

differs_from : (name : List ℕ) (before names : List Placed) → is_named name before ≡ true → repeated before names ≡ [] → Differs name (bytes_of names)
differs_from name before [] k e = tt
differs_from name before (n ∷ names) k e =
    let p = none_of (is_named n.bytes before) (twice n) (repeated (n ∷ before) names) e in
    ((λ same. false≢true (sym p.0 ∙ subst (λ z. is_named z before ≡ true) same k)), differs_from name (n ∷ before) names (or_right (bytes_eq n.bytes name) (is_named name before) k) p.1)

pub none_twice : (before names : List Placed) → repeated before names ≡ [] → NoneTwice (bytes_of names)
none_twice before [] e = tt
none_twice before (n ∷ names) e =
    let p = none_of (is_named n.bytes before) (twice n) (repeated (n ∷ before) names) e in
    (differs_from n.bytes (n ∷ before) names (or_left (bytes_eq n.bytes n.bytes) (is_named n.bytes before) (bytes_same n.bytes n.bytes refl)) p.1, none_twice (n ∷ before) names p.1)

pub names_same : (all : List Declaration) (scope : List (List ℕ)) (l : TreeProps) (ps : Props) → MeansProps all scope l ps → names_of ps ≡ bytes_of (property_names l)
names_same all scope tree.no_props term.no_props m = refl
names_same all scope (tree.prop_and n t l) (term.prop_and p u k) m = cc (m.0, names_same all scope l k m.2)
names_same all scope _ _ m = absurd m

-- ---- no attribute `children` stands beside children

no_children : (names : List Placed) → children_attributes names ≡ [] → Differs (codes "children") (bytes_of names)
no_children [] e = tt
no_children (n ∷ names) e =
    let p = none_of (bytes_eq n.bytes (codes "children")) (twice n) (children_attributes names) e in
    (not_that (codes "children") n.bytes p.0, no_children names p.1)

pub children_once : (all : List Declaration) (scope : List (List ℕ)) (c : Trees) (ts : Terms) (names : List Placed) → MeansEach all scope c ts → beside_children c names ≡ [] → HasChildrenOnce (bytes_of names) ts
children_once all scope tree.no_trees term.no_terms names m e = tt
children_once all scope (tree.tree_and t l) (term.term_and u k) names m e = no_children names e
children_once all scope _ _ names m e = absurd m

-- ---- the declarations that are kept

-- each as it was written
abbrev pub AreSaid : List Declaration → List Declaration → List Declared → Type 0
AreSaid all rest ds = AllZip (SaidAs all) rest (map said ds)

pub components_same : (all rest : List Declaration) (ds : List Declared) → AreSaid all rest ds → components ds ≡ bytes_of (faults.components rest)
components_same all [] [] m = refl
components_same all (tree.server n ps b ∷ rest) (declared.Server k qs c ∷ ds) m = cc (m.0.0, components_same all rest ds m.1)
components_same all (tree.client_is n j ∷ rest) (declared.Client k i ∷ ds) m = cc (m.0.0, components_same all rest ds m.1)
components_same all (tree.action_is n ps b ∷ rest) (declared.Action k qs c ∷ ds) m = components_same all rest ds m.1
components_same all (tree.server n ps b ∷ rest) (declared.Client k i ∷ ds) m = absurd m.0
components_same all (tree.server n ps b ∷ rest) (declared.Action k qs c ∷ ds) m = absurd m.0
components_same all (tree.client_is n j ∷ rest) (declared.Server k qs c ∷ ds) m = absurd m.0
components_same all (tree.client_is n j ∷ rest) (declared.Action k qs c ∷ ds) m = absurd m.0
components_same all (tree.action_is n ps b ∷ rest) (declared.Server k qs c ∷ ds) m = absurd m.0
components_same all (tree.action_is n ps b ∷ rest) (declared.Client k i ∷ ds) m = absurd m.0
components_same all [] (d ∷ ds) m = absurd m
components_same all (d ∷ rest) [] m = absurd m

pub actions_same : (all rest : List Declaration) (ds : List Declared) → AreSaid all rest ds → actions ds ≡ bytes_of (faults.actions rest)
actions_same all [] [] m = refl
actions_same all (tree.server n ps b ∷ rest) (declared.Server k qs c ∷ ds) m = actions_same all rest ds m.1
actions_same all (tree.client_is n j ∷ rest) (declared.Client k i ∷ ds) m = actions_same all rest ds m.1
actions_same all (tree.action_is n ps b ∷ rest) (declared.Action k qs c ∷ ds) m = cc (m.0.0, actions_same all rest ds m.1)
actions_same all (tree.server n ps b ∷ rest) (declared.Client k i ∷ ds) m = absurd m.0
actions_same all (tree.server n ps b ∷ rest) (declared.Action k qs c ∷ ds) m = absurd m.0
actions_same all (tree.client_is n j ∷ rest) (declared.Server k qs c ∷ ds) m = absurd m.0
actions_same all (tree.client_is n j ∷ rest) (declared.Action k qs c ∷ ds) m = absurd m.0
actions_same all (tree.action_is n ps b ∷ rest) (declared.Server k qs c ∷ ds) m = absurd m.0
actions_same all (tree.action_is n ps b ∷ rest) (declared.Client k i ∷ ds) m = absurd m.0
actions_same all [] (d ∷ ds) m = absurd m
actions_same all (d ∷ rest) [] m = absurd m

-- ---- what a name stands for

number_at : (test : Declaration → Bool) (all : List Declaration) (k : ℕ) → number_of test all ≡ Some k → (d : Declaration) × (slice_get all k ≡ Some d) × (test d ≡ true)
number_at test [] k e = absurd cc
number_at test (d ∷ all) k e = by (test d) refl e (number_at test all)
  where
    later : (o : Option ℕ) → option_map suc o ≡ Some k → ((j : ℕ) → o ≡ Some j → (f : Declaration) × (slice_get all j ≡ Some f) × (test f ≡ true)) → (f : Declaration) × (slice_get (d ∷ all) k ≡ Some f) × (test f ≡ true)
    later (Some j) q again = let found = again j refl in (found.0, subst (λ z. slice_get (d ∷ all) z ≡ Some found.0) (some_is (suc j) k q) found.1, found.2)
    later None q again = absurd cc

    by : (b : Bool) → test d ≡ b → (if b then Some 0 else option_map suc (number_of test all)) ≡ Some k → ((j : ℕ) → number_of test all ≡ Some j → (f : Declaration) × (slice_get all j ≡ Some f) × (test f ≡ true)) → (f : Declaration) × (slice_get (d ∷ all) k ≡ Some f) × (test f ≡ true)
    by true t q again = (d, subst (λ z. slice_get (d ∷ all) z ≡ Some d) (some_is 0 k q) refl, t)
    by false t q again = later (number_of test all) q again

pub said_at : (all rest : List Declaration) (ds : List Declared) → AreSaid all rest ds → (k : ℕ) (d : Declaration) → slice_get rest k ≡ Some d → (e : Declared) × (slice_get ds k ≡ Some e) × SaidAs all d (said e)
said_at all [] ds m k d q = absurd cc
said_at all (c ∷ rest) [] m k d q = absurd m
said_at all (c ∷ rest) (e ∷ ds) m zero d q = (e, refl, subst (λ z. SaidAs all z (said e)) (some_is c d q) m.0)
said_at all (c ∷ rest) (e ∷ ds) m (suc k) d q = said_at all rest ds m.1 k d q

-- what is declared at the number of a name, and what is kept there
declared_at : (test : Declaration → Bool) (all : List Declaration) (ds : List Declared) → AreSaid all all ds → (k : ℕ) → number_of test all ≡ Some k → (d : Declaration) × (e : Declared) × (test d ≡ true) × SaidAs all d (said e) × (slice_get ds k ≡ Some e)
declared_at test all ds m k q =
    let found = number_at test all k q in
    let kept = said_at all all ds m k found.0 found.1 in
    (found.0, kept.0, found.2, kept.2, kept.1)

pub server_at : (g : Ground) (all : List Declaration) → AreSaid all all g.program.declared → (name : List ℕ) (k : ℕ) → server_number all name ≡ Some k → IsServerAt g k
server_at g all m name k q = let p = declared_at (is_server name) all g.program.declared m k q in by p.0 p.1 p.2 p.3 p.4
  where
    by : (d : Declaration) (e : Declared) → is_server name d ≡ true → SaidAs all d (said e) → slice_get g.program.declared k ≡ Some e → IsServerAt g k
    by (tree.server n ps b) (declared.Server o qs c) t s h = (o, (qs, (c, h)))
    by (tree.server n ps b) (declared.Client o i) t s h = absurd s
    by (tree.server n ps b) (declared.Action o qs c) t s h = absurd s
    by (tree.client_is n j) e t s h = absurd cc
    by (tree.action_is n ps b) e t s h = absurd cc

pub client_at : (g : Ground) (all : List Declaration) → AreSaid all all g.program.declared → (name : List ℕ) (k : ℕ) → client_number all name ≡ Some k → IsClientAt g k
client_at g all m name k q = let p = declared_at (is_client name) all g.program.declared m k q in by p.0 p.1 p.2 p.3 p.4
  where
    by : (d : Declaration) (e : Declared) → is_client name d ≡ true → SaidAs all d (said e) → slice_get g.program.declared k ≡ Some e → IsClientAt g k
    by (tree.client_is n j) (declared.Client o i) t s h = (o, (i, h))
    by (tree.client_is n j) (declared.Server o qs c) t s h = absurd s
    by (tree.client_is n j) (declared.Action o qs c) t s h = absurd s
    by (tree.server n ps b) e t s h = absurd cc
    by (tree.action_is n ps b) e t s h = absurd cc

pub action_at : (g : Ground) (all : List Declaration) → AreSaid all all g.program.declared → (name : List ℕ) (k : ℕ) → action_number all name ≡ Some k → IsActionAt g k
action_at g all m name k q = let p = declared_at (is_action name) all g.program.declared m k q in by p.0 p.1 p.2 p.3 p.4
  where
    by : (d : Declaration) (e : Declared) → is_action name d ≡ true → SaidAs all d (said e) → slice_get g.program.declared k ≡ Some e → IsActionAt g k
    by (tree.action_is n ps b) (declared.Action o qs c) t s h = (length qs, (o, (qs, (c, h, refl))))
    by (tree.action_is n ps b) (declared.Server o qs c) t s h = absurd s
    by (tree.action_is n ps b) (declared.Client o i) t s h = absurd s
    by (tree.server n ps b) e t s h = absurd cc
    by (tree.client_is n j) e t s h = absurd cc

-- what a tag stands for is declared as that
pub tag_at : (g : Ground) (all : List Declaration) → AreSaid all all g.program.declared → (name : List ℕ) (t : Tag) → tag_of all name ≡ Some t → IsTagOf g t
tag_at g all m name (tag.Host n) q = tt
tag_at g all m name (tag.Suspense) q = tt
tag_at g all m name (tag.Server k) q = server_at g all m name k (by (is_lower name) (server_number all name) (client_number all name) (bytes_eq name (codes "Suspense")) q)
  where
    by : (l : Bool) (s c : Option ℕ) (b : Bool) → (if l then Some (tag.Host name) else component_tag s c b) ≡ Some (tag.Server k) → s ≡ Some k
    by true s c b e = absurd cc
    by false (Some n) c b e = cc
    by false None (Some n) b e = absurd cc
    by false None None true e = absurd cc
    by false None None false e = absurd cc
tag_at g all m name (tag.Client k) q = client_at g all m name k (by (is_lower name) (server_number all name) (client_number all name) (bytes_eq name (codes "Suspense")) q)
  where
    by : (l : Bool) (s c : Option ℕ) (b : Bool) → (if l then Some (tag.Host name) else component_tag s c b) ≡ Some (tag.Client k) → c ≡ Some k
    by true s c b e = absurd cc
    by false (Some n) c b e = absurd cc
    by false None (Some n) b e = cc
    by false None None true e = absurd cc
    by false None None false e = absurd cc

-- ---- the server component of a name

pub server_of : (name : List ℕ) (all rest : List Declaration) (ds : List Declared) → AreSaid all rest ds → is_named name (servers rest) ≡ true → (number : ℕ) × ((params : List (List ℕ)) × ((body : Expr) × (slice_get ds number ≡ Some (declared.Server name params body))))
server_of name all [] ds m e = absurd cc
server_of name all (d ∷ rest) [] m e = absurd m
server_of name all (tree.server n ps b ∷ rest) (declared.Server k qs c ∷ ds) m e = by (bytes_eq n.bytes name) refl e (server_of name all rest ds m.1)
  where
    by : (t : Bool) → bytes_eq n.bytes name ≡ t → (t || is_named name (servers rest)) ≡ true
        → (is_named name (servers rest) ≡ true → (number : ℕ) × ((params : List (List ℕ)) × ((body : Expr) × (slice_get ds number ≡ Some (declared.Server name params body)))))
        → (number : ℕ) × ((params : List (List ℕ)) × ((body : Expr) × (slice_get (declared.Server k qs c ∷ ds) number ≡ Some (declared.Server name params body))))
    by true t q again = (0, (qs, (c, ap (λ z. Some (declared.Server z qs c)) (m.0.0 ∙ bytes_is n.bytes name t))))
    by false t q again = let found = again q in (suc found.0, found.1)
server_of name all (tree.client_is n j ∷ rest) (declared.Client k i ∷ ds) m e = let found = server_of name all rest ds m.1 e in (suc found.0, found.1)
server_of name all (tree.action_is n ps b ∷ rest) (declared.Action k qs c ∷ ds) m e = let found = server_of name all rest ds m.1 e in (suc found.0, found.1)
server_of name all (tree.server n ps b ∷ rest) (declared.Client k i ∷ ds) m e = absurd m.0
server_of name all (tree.server n ps b ∷ rest) (declared.Action k qs c ∷ ds) m e = absurd m.0
server_of name all (tree.client_is n j ∷ rest) (declared.Server k qs c ∷ ds) m e = absurd m.0
server_of name all (tree.client_is n j ∷ rest) (declared.Action k qs c ∷ ds) m e = absurd m.0
server_of name all (tree.action_is n ps b ∷ rest) (declared.Server k qs c ∷ ds) m e = absurd m.0
server_of name all (tree.action_is n ps b ∷ rest) (declared.Client k i ∷ ds) m e = absurd m.0
