-- A term that a tree without faults means is lawful.
use Rattle.std.proofs.Common.{◌≡◌, ℕ, zero, suc, ◌<◌, true, List, [], ◌∷◌, ◌++◌, length, Some, sym, subst, arith}
use Rattle.std.specs.Prelude.{slice_get, is_some}
use Rattle.std.proofs.lemmas.List.{length-append}
use Rattle.flight_syntax.specs.Lexicon.{Placed}
use Rattle.flight_syntax.specs.Tree as tree
use Rattle.flight_syntax.specs.Tree.{Tree, Trees, TreeProps, TreePairs, Declaration}
use Rattle.flight_syntax.specs.Term as term
use Rattle.flight_syntax.specs.Term.{Term, Terms, Props, Pairs}
use Rattle.flight_syntax.specs.Scope.{Means, MeansEach, MeansProps, MeansPairs}
use Rattle.flight_syntax.specs.Faults.{is_named, servers, actions, property_names, is_tag, unless_known, repeated, beside_children, keys_of, faults, faults_each, faults_props, faults_pairs}
use Rattle.flight_syntax.proofs.Known.{nil_left, nil_right}
use Rattle.flight_script.specs.Program.{Named, source_named as of_source, stream_named as of_stream, names_in, names_in_terms, names_in_props, names_in_pairs}
use Rattle.flight_render.specs.declared.root.Ground.{Ground}
use Rattle.flight_render.specs.Values.{source_named, stream_named}
use Rattle.flight_render.specs.Valid.{IsLiteral, NoneTwice, HasChildrenOnce, names_of, IsLawful, AreLawful, PropsLawful, PairsLawful}
use Rattle.flight_bundle.proofs.Literals.{HasLiterals, HaveLiterals, HavePropsLiterals, HavePairsLiterals}
use Rattle.flight_bundle.proofs.Names.{AreSaid, none_twice, names_same, children_once, client_at, action_at, tag_at}

-- ---- the names of sources and streams

abbrev pub IsThere : Ground → Named → Type 0
IsThere g (of_source name) = is_some (source_named g name) ≡ true
IsThere g (of_stream name) = is_some (stream_named g name) ≡ true

abbrev pub AreThere : Ground → List Named → Type 0
AreThere g [] = Unit {0}
AreThere g (n ∷ ns) = IsThere g n × AreThere g ns

pub there_left : (g : Ground) (a b : List Named) → AreThere g (a ++ b) → AreThere g a
there_left g [] b h = tt
there_left g (n ∷ a) b h = (h.0, there_left g a b h.1)

pub there_right : (g : Ground) (a b : List Named) → AreThere g (a ++ b) → AreThere g b
there_right g [] b h = h
there_right g (n ∷ a) b h = there_right g a b h.1

-- ---- variables

within : {A : Type 0} (xs : List A) (k : ℕ) (x : A) → slice_get xs k ≡ Some x → k < length xs
within [] k x e = absurd cc
within (y ∷ xs) zero x e = omega arith
within (y ∷ xs) (suc k) x e = let l = within xs k x e in omega (arith, l)

one_more : (scope : List (List ℕ)) (name : List ℕ) (size : ℕ) → length scope ≡ size → length (scope ++ name ∷ []) ≡ suc size
one_more scope name size e = let l = length-append scope (name ∷ []) in omega (arith, l, e)

-- ---- terms

-- no name of the properties stands twice
once : (all : List Declaration) (scope : List (List ℕ)) (l : TreeProps) (ps : Props) → MeansProps all scope l ps → repeated [] (property_names l) ≡ [] → NoneTwice (names_of ps)
once all scope l ps m e = subst NoneTwice (sym (names_same all scope l ps m)) (none_twice [] (property_names l) e)

once_beside : (all : List Declaration) (scope : List (List ℕ)) (l : TreeProps) (ps : Props) (c : Trees) (ts : Terms) → MeansProps all scope l ps → MeansEach all scope c ts → beside_children c (property_names l) ≡ [] → HasChildrenOnce (names_of ps) ts
once_beside all scope l ps c ts m n e = subst (λ z. HasChildrenOnce z ts) (sym (names_same all scope l ps m)) (children_once all scope c ts (property_names l) n e)

mutual
  pub lawful : (g : Ground) (all : List Declaration) → AreSaid all all g.program.declared → (outer : List Placed) (scope : List (List ℕ)) (size : ℕ) → length scope ≡ size → (t : Tree) (u : Term) → HasLiterals t → faults all outer t ≡ [] → Means all scope t u → AreThere g (names_in u) → IsLawful g size u
  lawful g all z outer scope size s (tree.let_in n v b) (term.let_in k w r) l e m h =
      (lawful g all z outer scope size s v w l.0 (nil_left (faults all outer v) _ e) m.1 (there_left g (names_in w) _ h), lawful g all z (n ∷ outer) (scope ++ n.bytes ∷ []) (suc size) (one_more scope n.bytes size s) b r l.1 (nil_right (faults all outer v) _ e) m.2 (there_right g (names_in w) _ h))
  lawful g all z outer scope size s (tree.if_else t y o) (term.if_else a b c) l e m h =
      let r = nil_right (faults all outer t) _ e in
      let k = there_right g (names_in a) _ h in
      (lawful g all z outer scope size s t a l.0 (nil_left (faults all outer t) _ e) m.0 (there_left g (names_in a) _ h), lawful g all z outer scope size s y b l.1 (nil_left (faults all outer y) _ r) m.1 (there_left g (names_in b) _ k), lawful g all z outer scope size s o c l.2 (nil_right (faults all outer y) _ r) m.2 (there_right g (names_in b) _ k))
  lawful g all z outer scope size s (tree.for_in n o b) (term.for_in k p q) l e m h =
      (lawful g all z outer scope size s o p l.0 (nil_left (faults all outer o) _ e) m.1 (there_left g (names_in p) _ h), lawful g all z (n ∷ outer) (scope ++ n.bytes ∷ []) (suc size) (one_more scope n.bytes size s) b q l.1 (nil_right (faults all outer o) _ e) m.2 (there_right g (names_in p) _ h))
  lawful g all z outer scope size s (tree.throw v) (term.throw u) l e m h = lawful g all z outer scope size s v u l e m h
  lawful g all z outer scope size s (tree.member o n) (term.member p k) l e m h = lawful g all z outer scope size s o p l e m.1 h
  lawful g all z outer scope size s (tree.index o a) (term.index p b) l e m h =
      (lawful g all z outer scope size s o p l.0 (nil_left (faults all outer o) _ e) m.0 (there_left g (names_in p) _ h), lawful g all z outer scope size s a b l.1 (nil_right (faults all outer o) _ e) m.1 (there_right g (names_in p) _ h))
  lawful g all z outer scope size s (tree.atom v) (term.atom u) l e m h = subst IsLiteral (sym m) l
  lawful g all z outer scope size s (tree.variable n) (term.variable k) l e m h = subst (λ w. k < w) s (within scope k n.bytes m.here)
  lawful g all z outer scope size s (tree.client n) (term.client k) l e m h = client_at g all z n.bytes k m
  lawful g all z outer scope size s (tree.array a) (term.array b) l e m h = each_lawful g all z outer scope size s a b l e m h
  lawful g all z outer scope size s (tree.object a) (term.object b) l e m h =
      (once all scope a b m (nil_left (repeated [] (property_names a)) _ e), props_lawful g all z outer scope size s a b l (nil_right (repeated [] (property_names a)) _ e) m h)
  lawful g all z outer scope size s (tree.map a) (term.map b) l e m h = pairs_lawful g all z outer scope size s a b l e m h
  lawful g all z outer scope size s (tree.set a) (term.set b) l e m h = each_lawful g all z outer scope size s a b l e m h
  lawful g all z outer scope size s (tree.source n) (term.source k) l e m h = h.0
  lawful g all z outer scope size s (tree.promise n) (term.promise k) l e m h = h.0
  lawful g all z outer scope size s (tree.stream n) (term.stream k) l e m h = h.0
  lawful g all z outer scope size s (tree.action n) (term.action k) l e m h = action_at g all z n.bytes k m
  lawful g all z outer scope size s (tree.action_with n a) (term.action_with k b) l e m h =
      (action_at g all z n.bytes k m.0, each_lawful g all z outer scope size s a b l (nil_right (unless_known (is_named n.bytes (actions all)) n) _ e) m.1 h)
  lawful g all z outer scope size s (tree.paren i) (term.paren j) l e m h = lawful g all z outer scope size s i j l e m h
  lawful g all z outer scope size s (tree.binary o a b) (term.binary p c d) l e m h =
      (lawful g all z outer scope size s a c l.0 (nil_left (faults all outer a) _ e) m.1 (there_left g (names_in c) _ h), lawful g all z outer scope size s b d l.1 (nil_right (faults all outer a) _ e) m.2 (there_right g (names_in c) _ h))
  lawful g all z outer scope size s (tree.element n a c) (term.element t b d) l e m h =
      let r1 = nil_right (unless_known (is_tag all n.bytes) n) _ e in
      let r2 = nil_right (repeated [] (property_names a)) _ r1 in
      let r3 = nil_right (beside_children c (property_names a)) _ r2 in
      let r4 = nil_right (keys_of (is_named n.bytes (servers all)) (property_names a)) _ r3 in (
        tag_at g all z n.bytes t m.0,
        once all scope a b m.1 (nil_left (repeated [] (property_names a)) _ r1),
        once_beside all scope a b c d m.1 m.2 (nil_left (beside_children c (property_names a)) _ r2),
        props_lawful g all z outer scope size s a b l.0 (nil_left (faults_props all outer a) _ r4) m.1 (there_left g (names_in_props b) _ h),
        each_lawful g all z outer scope size s c d l.1 (nil_right (faults_props all outer a) _ r4) m.2 (there_right g (names_in_props b) _ h),
      )
  lawful g all z outer scope size s _ _ l e m h = absurd m

  each_lawful : (g : Ground) (all : List Declaration) → AreSaid all all g.program.declared → (outer : List Placed) (scope : List (List ℕ)) (size : ℕ) → length scope ≡ size → (a : Trees) (b : Terms) → HaveLiterals a → faults_each all outer a ≡ [] → MeansEach all scope a b → AreThere g (names_in_terms b) → AreLawful g size b
  each_lawful g all z outer scope size s tree.no_trees term.no_terms l e m h = tt
  each_lawful g all z outer scope size s (tree.tree_and t a) (term.term_and u b) l e m h =
      (lawful g all z outer scope size s t u l.0 (nil_left (faults all outer t) _ e) m.0 (there_left g (names_in u) _ h), each_lawful g all z outer scope size s a b l.1 (nil_right (faults all outer t) _ e) m.1 (there_right g (names_in u) _ h))
  each_lawful g all z outer scope size s _ _ l e m h = absurd m

  props_lawful : (g : Ground) (all : List Declaration) → AreSaid all all g.program.declared → (outer : List Placed) (scope : List (List ℕ)) (size : ℕ) → length scope ≡ size → (a : TreeProps) (b : Props) → HavePropsLiterals a → faults_props all outer a ≡ [] → MeansProps all scope a b → AreThere g (names_in_props b) → PropsLawful g size b
  props_lawful g all z outer scope size s tree.no_props term.no_props l e m h = tt
  props_lawful g all z outer scope size s (tree.prop_and n t a) (term.prop_and p u b) l e m h =
      (lawful g all z outer scope size s t u l.0 (nil_left (faults all outer t) _ e) m.1 (there_left g (names_in u) _ h), props_lawful g all z outer scope size s a b l.1 (nil_right (faults all outer t) _ e) m.2 (there_right g (names_in u) _ h))
  props_lawful g all z outer scope size s _ _ l e m h = absurd m

  pairs_lawful : (g : Ground) (all : List Declaration) → AreSaid all all g.program.declared → (outer : List Placed) (scope : List (List ℕ)) (size : ℕ) → length scope ≡ size → (a : TreePairs) (b : Pairs) → HavePairsLiterals a → faults_pairs all outer a ≡ [] → MeansPairs all scope a b → AreThere g (names_in_pairs b) → PairsLawful g size b
  pairs_lawful g all z outer scope size s tree.no_pairs term.no_pairs l e m h = tt
  pairs_lawful g all z outer scope size s (tree.pair_and k t a) (term.pair_and q u b) l e m h =
      let r = nil_right (faults all outer k) _ e in
      let w = there_right g (names_in q) _ h in
      (lawful g all z outer scope size s k q l.0 (nil_left (faults all outer k) _ e) m.0 (there_left g (names_in q) _ h), lawful g all z outer scope size s t u l.1 (nil_left (faults all outer t) _ r) m.1 (there_left g (names_in u) _ w), pairs_lawful g all z outer scope size s a b l.2 (nil_right (faults all outer t) _ r) m.2 (there_right g (names_in u) _ w))
  pairs_lawful g all z outer scope size s _ _ l e m h = absurd m
