-- What is kept of declarations without a fault is what they mean.
use Rattle.std.proofs.Common.{◌≡◌, ℕ, ◌+◌, ◌<◌, ◌++◌, length, take, get_or, ap, Bool, true, false, List, [], ◌∷◌, map, Option, Some, None, option_map, refl, sym, subst, ◌∙◌, if◌then◌else◌, nat_lt}
use Rattle.std.specs.List.{AllZip}
use Rattle.flight_syntax.specs.Tree as tree
use Rattle.flight_syntax.specs.Tree.{Declaration}
use Rattle.flight_syntax.specs.Scope.{Means}
use Rattle.flight_syntax.specs.Faults as faults
use Rattle.flight_syntax.specs.Faults.{place, earlier, first_fault, program_faults, has_app}
use Rattle.flight_syntax.specs.Meaning.{meaning}
use Rattle.flight_syntax.specs.Derives.{Said, server, client, action, bytes_of, SaidAs, IsProgram}
use Rattle.flight_syntax.proofs.Bodies.{BodyMeans, BodiesMean, text_means}
use Rattle.flight_grammar.specs.Outcome.{IsSpelled, ComesTo, misnamed, no_app, program}
use Rattle.flight_resolve.specs.declared.name_fault.NameFault.{NameFault}
use Rattle.flight_resolve.specs.declared.name_fault.NameFault.TheVariants as names
use Rattle.flight_parse.specs.declared.fault.TreeFault.{TreeFault}
use Rattle.flight_parse.specs.declared.fault.TreeFault.TheVariants as trees
use Rattle.flight_parse.specs.Reports.{IsFaultOf}
use Rattle.flight_resolve.specs.Names.{fault_of, IsFirst}
use Rattle.flight_resolve.specs.Kept.{IsKept}
use Rattle.flight_resolve.proofs.Firsts.{taken, map_last}
use Rattle.flight_resolve.specs.Reports.{IsParseFault, of_tree, of_name}

body_said : (all : List Declaration) (scope kept : List (List ℕ)) (b : tree.Tree) (t : _) → Means all scope b (meaning all scope b) → kept ≡ scope → t ≡ meaning all scope b → Means all kept b t
body_said all scope kept b t m k e = subst (λ x. Means all x b t) (sym k) (subst (Means all scope b) (sym e) m)

one_said : (all : List Declaration) (d : Declaration) (p : Said) → BodyMeans all d → IsKept all d p → SaidAs all d p
one_said all (tree.server n ps b) (server m qs c) h k = (k.0, k.1, body_said all (bytes_of ps) qs b c h k.1 k.2)
one_said all (tree.client_is n j) (client m i) h k = k
one_said all (tree.action_is n ps b) (action m qs c) h k = (k.0, k.1, body_said all (bytes_of ps) qs b c h k.1 k.2)
one_said all (tree.server n ps b) (client m i) h k = absurd k
one_said all (tree.server n ps b) (action m qs c) h k = absurd k
one_said all (tree.client_is n j) (server m qs c) h k = absurd k
one_said all (tree.client_is n j) (action m qs c) h k = absurd k
one_said all (tree.action_is n ps b) (server m qs c) h k = absurd k
one_said all (tree.action_is n ps b) (client m i) h k = absurd k

all_said : (all rest : List Declaration) (kept : List Said) → BodiesMean all rest → AllZip (IsKept all) rest kept → AllZip (SaidAs all) rest kept
all_said all [] [] m k = k
all_said all [] (p ∷ ps) m k = absurd k
all_said all (d ∷ rest) [] m k = absurd k
all_said all (d ∷ rest) (p ∷ ps) m k = (one_said all d p m.0 k.0, all_said all rest ps m.1 k.1)

never_none : (f : faults.NameFault) (o : Option faults.NameFault) → earlier f o ≡ None → ⊥
never_none f None e = cc
never_none f (Some g) e = by (nat_lt (place g) (place f)) e
  where
    by : (b : Bool) → (if b then Some g else Some f) ≡ None → ⊥
    by true e = cc
    by false e = cc

pub no_faults : (all : List faults.NameFault) → first_fault all ≡ None → all ≡ []
no_faults [] e = refl
no_faults (f ∷ fs) e = absurd (never_none f (first_fault fs) e)

-- ---- what a text comes to

pub to_program : (text : List ℕ) (all : List Declaration) (kept : List Said) → IsSpelled text all → IsFirst None (program_faults all) → has_app all ≡ true → AllZip (IsKept all) all kept → ComesTo text (program kept)
to_program text all kept s f app k =
    let none = no_faults (program_faults all) (sym f) in
    record { tokens = s.tokens; all = all; are_tokens = s.are_tokens; declares = s.declares; faultless = none; app = app; means = all_said all all kept (text_means text s.tokens all s.declares none) k }

pub to_no_app : (text : List ℕ) (all : List Declaration) → IsSpelled text all → IsFirst None (program_faults all) → has_app all ≡ false → ComesTo text no_app
to_no_app text all s f app = (all, s, no_faults (program_faults all) (sym f), app)

pub to_fault : (text : List ℕ) (all : List Declaration) (fault : NameFault) → IsSpelled text all → IsFirst (Some fault) (program_faults all) → IsParseFault text (of_name fault)
to_fault text all (names.Unknown name) s f = (all, s, sym f)
to_fault text all (names.Twice name) s f = (all, s, sym f)
to_fault text all (names.KeyOnServer name) s f = (name.bytes, (all, s, sym f))

pub to_tree_fault : (text : List ℕ) (fault : TreeFault) → IsFaultOf text fault → IsParseFault text (of_tree fault)
to_tree_fault text (trees.Lex f) h = h
to_tree_fault text (trees.Unexpected at) h = h
to_tree_fault text (trees.TooDeep at) h = h
to_tree_fault text trees.Memory h = tt

-- ---- one more is kept

zip_last : {A B : Type 0} (R : A → B → Type 0) (xs : List A) (ys : List B) (x : A) (y : B) → AllZip R xs ys → R x y → AllZip R (xs ++ x ∷ []) (ys ++ y ∷ [])
zip_last R [] [] x y z r = (r, z)
zip_last R [] (b ∷ ys) x y z r = absurd z
zip_last R (a ∷ xs) [] x y z r = absurd z
zip_last R (a ∷ xs) (b ∷ ys) x y z r = (z.0, zip_last R xs ys x y z.1 r)

pub kept_steps : {A B X Y : Type 0} (R : X → Y → Type 0) (f : A → X) (g : B → Y) (xs : List A) (i : ℕ) (x : A) → i < length xs → x ≡ get_or xs i x → (old new : List B) (y : B)
    → AllZip R (map f (take i xs)) (map g old) → R (f x) (g y) → new ≡ old ++ y ∷ [] → AllZip R (map f (take (i + 1) xs)) (map g new)
kept_steps R f g xs i x l is old new y z r e =
    subst (λ us. AllZip R us (map g new)) (sym (ap (map f) (taken xs i x l is) ∙ map_last f (take i xs) x))
    (subst (λ us. AllZip R (map f (take i xs) ++ f x ∷ []) us) (sym (ap (map g) e ∙ map_last g old y)) (zip_last R (map f (take i xs)) (map g old) (f x) (g y) z r))
