-- Parts of trees without places, and how they stand in the text.
use Rattle.std.proofs.Common.{◌≡◌, ℕ, suc, ◌+◌, Bool, true, false, List, [], ◌∷◌, ◌++◌, map, Option, Some, None, refl, sym, ap, subst, ◌∙◌, append_assoc, codes, option_map, if◌then◌else◌}
use Rattle.std.specs.Str.{bytes_eq}
use Rattle.json.specs.Print.{quoted}
use Rattle.flight_value.specs.declared.graph.Atom.{Atom}
use Rattle.flight_value.specs.declared.graph.Atom.TheVariants as value
use Rattle.flight_syntax.specs.declared.expr.Op.{Op}
use Rattle.flight_syntax.specs.declared.expr.Op.TheVariants as op
use Rattle.flight_syntax.specs.declared.expr.Tag.{Tag}
use Rattle.flight_syntax.specs.declared.expr.Tag.TheVariants.{Host, Server, Client, Suspense}
use Rattle.flight_syntax.specs.declared.token.TokenKind.TheVariants.{Name, Text, Mark}
use Rattle.flight_syntax.specs.declared.word.Punctuator.{Punctuator}
use Rattle.flight_syntax.specs.declared.word.Punctuator.TheVariants as signs
use Rattle.flight_syntax.specs.Names.{is_lower}
use Rattle.flight_syntax.specs.Lexicon.{Placed, Word, ◌▸◌, one, sign, operator_of, mark, sign_spelled, name_of, plain_of, is_plain, lower, upper, text_of, property_of, word_as, taken_where}
use Rattle.flight_syntax.specs.Pieces.{is_name}
use Rattle.flight_syntax.specs.Tree as tree
use Rattle.flight_syntax.specs.Tree.{Tree, Trees, TreeProps, TreePairs, Declaration, joined, joined_bytes, postfixes, IsBase, IsElement}
use Rattle.flight_syntax.specs.Grammar.{Bare, MoreParts, AttributeName}
use Rattle.flight_syntax.specs.Scope.{is_server, is_client, is_action, number_of, server_number, client_number, action_number, component_tag, tag_of}
use Rattle.flight_syntax.specs.Meaning.{meaning}
use Rattle.flight_syntax.specs.Term as term
use Rattle.flight_syntax.specs.Term.{Term}
use Rattle.flight_syntax.proofs.Meanings.{bytes_is, bytes_same}
use Rattle.flight_print.specs.Text as printed
use Rattle.flight_print.specs.Text.{word, name_at, op_text, tag_name, Shape, bare, element, other, shape_of}
use Rattle.flight_print.specs.Pieces.{Piece, IsApart, AreApart, words_at, size}
use Rattle.flight_print.specs.Pieces as pieces
use Rattle.flight_print.proofs.Numerals.{quoted_text}
use Rattle.flight_print.proofs.Alike.{plain}
use Rattle.flight_print.proofs.Said.{AreSaid, Takes, name_again, left, right, sign_marked, sign_word}
use Rattle.flight_print.proofs.Again.{Again, U, Named, token_again}
use Rattle.flight_print.proofs.Atoms.{Alone, text_word}

-- ---- without places

-- the same tree, but for places
abbrev pub Like : Tree → Tree → Type 0
Like t u = plain u ≡ plain t

base_plain : (t : Tree) → IsBase t → IsBase (plain t)
base_plain (tree.let_in n v b) h = absurd h
base_plain (tree.if_else t y o) h = absurd h
base_plain (tree.for_in n o g) h = absurd h
base_plain (tree.throw v) h = absurd h
base_plain tree.too_deep h = absurd h
base_plain (tree.too_many of) h = absurd h
base_plain _ h = tt

plain_base : (t : Tree) → IsBase (plain t) → IsBase t
plain_base (tree.let_in n v b) h = absurd h
plain_base (tree.if_else t y o) h = absurd h
plain_base (tree.for_in n o g) h = absurd h
plain_base (tree.throw v) h = absurd h
plain_base tree.too_deep h = absurd h
plain_base (tree.too_many of) h = absurd h
plain_base _ h = tt

pub same_base : (t u : Tree) → Like t u → IsBase t → IsBase u
same_base t u e h = plain_base u (subst IsBase (sym e) (base_plain t h))

posts_plain : (t : Tree) → postfixes (plain t) ≡ postfixes t
posts_plain (tree.member of n) = ap suc (posts_plain of)
posts_plain (tree.index of t) = ap suc (posts_plain of)
posts_plain _ = refl

pub same_posts : (t u : Tree) → Like t u → postfixes u ≡ postfixes t
same_posts t u e = sym (posts_plain u) ∙ (ap postfixes e ∙ posts_plain t)

element_plain : (t : Tree) → IsElement t → IsElement (plain t)
element_plain (tree.element n a c) h = tt
element_plain _ h = absurd h

plain_element : (t : Tree) → IsElement (plain t) → IsElement t
plain_element (tree.element n a c) h = tt
plain_element _ h = absurd h

pub same_element : (t u : Tree) → Like t u → IsElement t → IsElement u
same_element t u e h = plain_element u (subst IsElement (sym e) (element_plain t h))

-- ---- shapes

module _ (all : List Declaration) (scope : List (List ℕ)) where
  abbrev pub shape : Tree → Shape
  shape t = shape_of (meaning all scope t)

  pub bare_shape : (t : Tree) (v : List ℕ) → tree.atom (value.Text v) ≡ t → shape t ≡ bare v
  bare_shape t v e = ap shape (sym e)

  pub element_shape : (t : Tree) → IsElement t → shape t ≡ element
  element_shape (tree.element n a c) h = refl
  element_shape _ h = absurd h

  atom_bare : (a : Atom) (v : List ℕ) → shape_of (term.atom a) ≡ bare v → tree.atom (value.Text v) ≡ tree.atom a
  atom_bare (value.Text w) v e = let f : w ≡ v = cc in ap (λ z. tree.atom (value.Text z)) (sym f)
  atom_bare _ v e = absurd cc

  pub shape_bare : (t : Tree) (v : List ℕ) → shape t ≡ bare v → tree.atom (value.Text v) ≡ t
  shape_bare (tree.atom a) v e = atom_bare a v e
  shape_bare _ v e = absurd cc

  atom_element : (a : Atom) → shape_of (term.atom a) ≡ element → ⊥
  atom_element (value.Text w) e = cc
  atom_element _ e = cc

  pub shape_element : (t : Tree) → shape t ≡ element → IsElement t
  shape_element (tree.atom a) e = absurd (atom_element a e)
  shape_element (tree.element n a c) e = tt
  shape_element _ e = absurd cc

-- a text without braces
pub bare_again : (t : Tree) (v : List ℕ) → tree.atom (value.Text v) ≡ t → Again Bare (Like t) (printed.literal v)
bare_again t v e = token_again Bare (Like t) Text (quoted v) (v, quoted_text v) (λ at. (tree.atom (value.Text v), ap plain e, (record { bytes = v; at = at }, refl, (_, ap text_of (text_word v at), refl))))

-- the name of a property
pub property_again : (named : Placed) → Again (one property_of) (Named named) (printed.literal named.bytes)
property_again named = token_again (one property_of) (Named named) Text (quoted named.bytes) (named.bytes, quoted_text named.bytes) (λ at. (record { bytes = named.bytes; at = at }, refl, (_, ap property_of (text_word named.bytes at), refl)))

-- ---- operators

op_alone : (o : Op) (s : Punctuator) → operator_of (mark s) ≡ Some o → Alone (one operator_of o) (word (sign_spelled s))
op_alone o s h = token_again (λ a. one operator_of o) (λ a. U) Mark (sign_spelled s) (sign_marked s) (λ at. (tt, tt, (_, ap operator_of (sign_word s at) ∙ h, refl)))

pub op_again : (o : Op) → Alone (one operator_of o) (word (op_text o))
op_again op.Plus = op_alone op.Plus signs.Plus refl
op_again op.Minus = op_alone op.Minus signs.Minus refl
op_again op.Times = op_alone op.Times signs.Times refl
op_again op.Equal = op_alone op.Equal signs.Equal refl
op_again op.Less = op_alone op.Less signs.Less refl
op_again op.And = op_alone op.And signs.And refl
op_again op.Or = op_alone op.Or signs.Or refl

-- ---- names of declarations

abbrev pub name_of_declaration : Declaration → List ℕ
name_of_declaration (tree.server n ps b) = n.bytes
name_of_declaration (tree.client_is n j) = n.bytes
name_of_declaration (tree.action_is n ps b) = n.bytes

abbrev pub names_of : List Declaration → List (List ℕ)
names_of all = map name_of_declaration all

-- the declaration of this number passes the test, so that its name is found
numbered : (q : List ℕ) (test : Declaration → Bool) → ((d : Declaration) → test d ≡ true → name_of_declaration d ≡ q) → (all : List Declaration) (k : ℕ) → number_of test all ≡ Some k → name_at (names_of all) k ≡ q
numbered q test h [] k e = absurd cc
numbered q test h (d ∷ all) k e = by (test d) refl (number_of test all) refl e (numbered q test h all)
  where
    by : (b : Bool) → test d ≡ b → (o : Option ℕ) → number_of test all ≡ o → (if b then Some 0 else option_map suc o) ≡ Some k → ((k : ℕ) → number_of test all ≡ Some k → name_at (names_of all) k ≡ q) → name_at (name_of_declaration d ∷ names_of all) k ≡ q
    by true p o f e again = let z : 0 ≡ k = cc in subst (λ n. name_at (name_of_declaration d ∷ names_of all) n ≡ q) z (h d p)
    by false p None f e again = absurd cc
    by false p (Some n) f e again = let z : suc n ≡ k = cc in subst (λ m. name_at (name_of_declaration d ∷ names_of all) m ≡ q) z (again n f)

server_named : (q : List ℕ) (d : Declaration) → is_server q d ≡ true → name_of_declaration d ≡ q
server_named q (tree.server n ps b) e = bytes_is n.bytes q e
server_named q _ e = absurd cc

client_named : (q : List ℕ) (d : Declaration) → is_client q d ≡ true → name_of_declaration d ≡ q
client_named q (tree.client_is n j) e = bytes_is n.bytes q e
client_named q _ e = absurd cc

action_named : (q : List ℕ) (d : Declaration) → is_action q d ≡ true → name_of_declaration d ≡ q
action_named q (tree.action_is n ps b) e = bytes_is n.bytes q e
action_named q _ e = absurd cc

pub client_name : (all : List Declaration) (q : List ℕ) (k : ℕ) → client_number all q ≡ Some k → name_at (names_of all) k ≡ q
client_name all q k e = numbered q (is_client q) (client_named q) all k e

pub action_name : (all : List Declaration) (q : List ℕ) (k : ℕ) → action_number all q ≡ Some k → name_at (names_of all) k ≡ q
action_name all q k e = numbered q (is_action q) (action_named q) all k e

server_name : (all : List Declaration) (q : List ℕ) (k : ℕ) → server_number all q ≡ Some k → name_at (names_of all) k ≡ q
server_name all q k e = numbered q (is_server q) (server_named q) all k e

component_name : (all : List Declaration) (q : List ℕ) (s c : Option ℕ) (b : Bool) (t : Tag) → server_number all q ≡ s → client_number all q ≡ c → bytes_eq q (codes "Suspense") ≡ b → component_tag s c b ≡ Some t → tag_name (names_of all) t ≡ q
component_name all q (Some k) c b t f g p e = let z : Server k ≡ t = cc in subst (λ x. tag_name (names_of all) x ≡ q) z (server_name all q k f)
component_name all q None (Some k) b t f g p e = let z : Client k ≡ t = cc in subst (λ x. tag_name (names_of all) x ≡ q) z (client_name all q k g)
component_name all q None None true t f g p e = let z : Suspense ≡ t = cc in subst (λ x. tag_name (names_of all) x ≡ q) z (sym (bytes_is q (codes "Suspense") p))
component_name all q None None false t f g p e = absurd cc

pub tag_named : (all : List Declaration) (q : List ℕ) (t : Tag) → tag_of all q ≡ Some t → tag_name (names_of all) t ≡ q
tag_named all q t e = by (is_lower q) e
  where
    by : (b : Bool) → (if b then Some (Host q) else component_tag (server_number all q) (client_number all q) (bytes_eq q (codes "Suspense"))) ≡ Some t → tag_name (names_of all) t ≡ q
    by true e = let z : Host q ≡ t = cc in subst (λ x. tag_name (names_of all) x ≡ q) z refl
    by false e = component_name all q (server_number all q) (client_number all q) (bytes_eq q (codes "Suspense")) t refl refl refl e

-- the name of a closing tag
plain_closes : (q : List ℕ) (w : Word) (name : Placed) → plain_of w ≡ Some name → name.bytes ≡ q → is_plain q w ≡ Some tt
plain_closes q (lower n) name e f = let g : n ≡ name = cc in ap (λ b. taken_where b tt) (bytes_same n.bytes q (ap (λ z. z.bytes) g ∙ f))
plain_closes q (upper n) name e f = let g : n ≡ name = cc in ap (λ b. taken_where b tt) (bytes_same n.bytes q (ap (λ z. z.bytes) g ∙ f))
plain_closes q _ name e f = absurd cc

pub closing_again : (q : List ℕ) → Takes plain_of q → Alone (one (is_plain q) tt) (word q)
closing_again q h = token_again (λ a. one (is_plain q) tt) (λ a. U) Name q h.is_name (λ at. (tt, tt, (_, plain_closes q _ _ (h.again at) refl, refl)))

-- ---- names of attributes

abbrev more_pieces : List Placed → List Piece
more_pieces [] = record { kind = Mark; bytes = codes "="; gap = 32 ∷ [] } ∷ []
more_pieces (p ∷ ps) = record { kind = Mark; bytes = codes "-"; gap = [] } ∷ record { kind = Name; bytes = p.bytes; gap = [] } ∷ more_pieces ps

abbrev AllTake : List Placed → Type 0
AllTake [] = Unit {0}
AllTake (p ∷ ps) = Takes name_of p.bytes × AllTake ps

minus_apart : (xs : List ℕ) → is_name xs ≡ true → IsApart Mark (codes "-") xs
minus_apart [] h = absurd cc
minus_apart (x ∷ xs) h = refl

name_apart : (bytes : List ℕ) (ps : List Placed) → pieces.EndsBy [] Name bytes (more_pieces ps)
name_apart bytes [] = refl
name_apart bytes (p ∷ ps) = refl

more_apart : (ps : List Placed) → AllTake ps → AreApart (more_pieces ps)
more_apart [] h = (refl, refl, tt)
more_apart (p ∷ ps) h = (refl, minus_apart p.bytes h.0.is_name, (h.0.is_name, name_apart p.bytes ps, more_apart ps h.1))

more_text : (bytes : List ℕ) (ps : List Placed) → bytes ++ pieces.text_of (more_pieces ps) ≡ joined_bytes bytes ps ++ word (codes "=")
more_text bytes [] = refl
more_text bytes (p ∷ ps) = ap (λ z. bytes ++ 45 ∷ z) (more_text p.bytes ps) ∙ sym (append_assoc bytes (45 ∷ joined_bytes p.bytes ps) (word (codes "=")))

-- parts with the same bytes, which stand here
record Parted (ps : List Placed) (x : List Word) : Type 0 where
  parts : List Placed
  same : (bytes : List ℕ) → joined_bytes bytes parts ≡ joined_bytes bytes ps
  spelled : (MoreParts parts ▸ sign signs.Assign) x

more_parts : (ps : List Placed) → AllTake ps → (at : ℕ) → Parted ps (words_at at (more_pieces ps))
more_parts [] h at = record { parts = []; same = λ bytes. refl; spelled = ([], mark signs.Assign ∷ [], refl, refl, (mark signs.Assign, refl, refl)) }
more_parts (p ∷ ps) h at =
    let again = more_parts ps h.1 (at + 1 + (size (record { kind = Name; bytes = p.bytes; gap = [] }))) in
    let first : Placed = record { bytes = p.bytes; at = at + 1 } in
    let m = again.spelled in
    let w : Word = word_as Name first in
    let dash : Word = mark signs.Minus in
    record {
      parts = first ∷ again.parts;
      same = λ bytes. ap (λ z. bytes ++ 45 ∷ z) (again.same p.bytes);
      spelled = (dash ∷ w ∷ m.0, m.1, ap (λ z. dash ∷ w ∷ z) m.2, (dash ∷ w ∷ [], m.0, refl, (dash ∷ [], w ∷ [], refl, (dash, refl, refl), (w, h.0.again (at + 1), refl)), m.3), m.4);
    }

all_take : (ps : List Placed) (x : List Word) → AreSaid x → MoreParts ps x → AllTake ps
all_take [] x r m = tt
all_take (p ∷ ps) x r m =
    let c = m.3 in
    let q = right c.0 c.1 c.2 (left m.0 m.1 m.2 r) in
    (name_again c.4.0 p (subst AreSaid c.4.2 q).0 c.4.1, all_take ps m.1 (right m.0 m.1 m.2 r) m.4)

-- the name of an attribute, and `=`
pub attribute_again : (named : Placed) (x : List Word) → AreSaid x → AttributeName named x → Again (λ n. AttributeName n ▸ sign signs.Assign) (Named named) (named.bytes ++ word (codes "="))
attribute_again named x r m =
    let first = m.0 in
    let parts = m.1 in
    let c = m.3 in
    let taken = name_again c.3.0 first (subst AreSaid c.3.2 (left c.0 c.1 c.2 r)).0 c.3.1 in
    let others = all_take parts c.1 (right c.0 c.1 c.2 r) c.4 in
    record {
      pieces = record { kind = Name; bytes = first.bytes; gap = [] } ∷ more_pieces parts;
      is_text = more_text first.bytes parts ∙ ap (λ z. z.bytes ++ word (codes "=")) m.2;
      apart = (taken.is_name, name_apart first.bytes parts, more_apart parts others);
      spells = λ at.
          let new : Placed = record { bytes = first.bytes; at = at } in
          let again = more_parts parts others (at + size (record { kind = Name; bytes = first.bytes; gap = [] })) in
          let s = again.spelled in
          let w : Word = word_as Name new in (
            joined new again.parts,
            ap (λ z. record { bytes = z; at = 0 }) (again.same first.bytes ∙ ap (λ z. z.bytes) m.2),
            (w ∷ s.0, s.1, ap (λ z. w ∷ z) s.2, (new, again.parts, refl, (w ∷ [], s.0, refl, (w, taken.again at, refl), s.3)), s.4),
          );
    }
