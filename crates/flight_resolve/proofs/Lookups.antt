-- Names of declarations: whether there is one, and its number.
use Rattle.std.proofs.Common.{◌≡◌, ℕ, zero, suc, ◌+◌, Bool, true, false, List, [], ◌∷◌, map, drop, Option, Some, None, option_map, refl, sym, ap, ◌∙◌, if◌then◌else◌, arith}
use Rattle.std.specs.Prelude.{◌||◌, is_some, cond}
use Rattle.std.specs.Str.{bytes_eq}
use Rattle.flight_syntax.specs.Tree as tree
use Rattle.flight_syntax.specs.Tree.{Declaration}
use Rattle.flight_syntax.specs.Scope.{is_server, is_client, is_action, number_of, server_number, client_number, action_number}
use Rattle.flight_syntax.specs.Faults.{is_named, servers, clients, components, actions}

-- ---- from a position on

-- the number of the first that passes the test, where the first of all has this number
abbrev pub number_from : ℕ → (Declaration → Bool) → List Declaration → Option ℕ
number_from at test [] = None
number_from at test (first ∷ rest) = cond (test first) (Some at) (number_from (at + 1) test rest)

shifted : (k : ℕ) (o : Option ℕ) → option_map (λ n. k + n) (option_map suc o) ≡ option_map (λ n. (k + 1) + n) o
shifted k None = refl
shifted k (Some n) = let e : k + suc n ≡ (k + 1) + n = omega arith in ap (λ m. Some m) e

at_first : (b : Bool) (k : ℕ) (o q : Option ℕ) → option_map (λ n. k + n) o ≡ q → option_map (λ n. k + n) (if b then Some 0 else o) ≡ cond b (Some k) q
at_first true k o q e = let z : k + 0 ≡ k = omega arith in ap (λ m. Some m) z
at_first false k o q e = e

pub from_is : (k : ℕ) (test : Declaration → Bool) (all : List Declaration) → option_map (λ n. k + n) (number_of test all) ≡ number_from k test all
from_is k test [] = refl
from_is k test (first ∷ rest) = at_first (test first) k (option_map suc (number_of test rest)) (number_from (k + 1) test rest) (shifted k (number_of test rest) ∙ from_is (k + 1) test rest)

zero_map : (o : Option ℕ) → o ≡ option_map (λ n. 0 + n) o
zero_map None = refl
zero_map (Some n) = let e : n ≡ 0 + n = omega arith in ap (λ m. Some m) e

pub from_zero : (test : Declaration → Bool) (all : List Declaration) → number_from 0 test all ≡ number_of test all
from_zero test all = sym (zero_map (number_of test all) ∙ from_is 0 test all)

pub from_start : {A : Type 0} (at : ℕ) (test : Declaration → Bool) (view : A → Declaration) (xs : List A) → at ≡ 0 → number_from at test (map view (drop at xs)) ≡ number_of test (map view xs)
from_start at test view xs e = ap (λ n. number_from n test (map view (drop n xs))) e ∙ from_zero test (map view xs)

-- ---- whether there is one

some_suc : (o : Option ℕ) → is_some (option_map suc o) ≡ is_some o
some_suc None = refl
some_suc (Some n) = refl

some_first : (b c : Bool) (o : Option ℕ) → is_some o ≡ c → is_some (if b then Some 0 else option_map suc o) ≡ (b || c)
some_first true c o e = refl
some_first false c o e = some_suc o ∙ e

pub server_known : (all : List Declaration) (q : List ℕ) → is_some (server_number all q) ≡ is_named q (servers all)
server_known [] q = refl
server_known (tree.server n ps b ∷ all) q = some_first (bytes_eq n.bytes q) (is_named q (servers all)) (server_number all q) (server_known all q)
server_known (tree.client_is n j ∷ all) q = some_suc (server_number all q) ∙ server_known all q
server_known (tree.action_is n ps b ∷ all) q = some_suc (server_number all q) ∙ server_known all q

pub client_known : (all : List Declaration) (q : List ℕ) → is_some (client_number all q) ≡ is_named q (clients all)
client_known [] q = refl
client_known (tree.server n ps b ∷ all) q = some_suc (client_number all q) ∙ client_known all q
client_known (tree.client_is n j ∷ all) q = some_first (bytes_eq n.bytes q) (is_named q (clients all)) (client_number all q) (client_known all q)
client_known (tree.action_is n ps b ∷ all) q = some_suc (client_number all q) ∙ client_known all q

pub action_known : (all : List Declaration) (q : List ℕ) → is_some (action_number all q) ≡ is_named q (actions all)
action_known [] q = refl
action_known (tree.server n ps b ∷ all) q = some_suc (action_number all q) ∙ action_known all q
action_known (tree.client_is n j ∷ all) q = some_suc (action_number all q) ∙ action_known all q
action_known (tree.action_is n ps b ∷ all) q = some_first (bytes_eq n.bytes q) (is_named q (actions all)) (action_number all q) (action_known all q)

or_left : (b s c : Bool) → (b || (s || c)) ≡ ((b || s) || c)
or_left true s c = refl
or_left false s c = refl

or_right : (b s c : Bool) → (b || (s || c)) ≡ (s || (b || c))
or_right true true c = refl
or_right true false c = refl
or_right false true c = refl
or_right false false c = refl

pub component_known : (all : List Declaration) (q : List ℕ) → is_named q (components all) ≡ (is_named q (servers all) || is_named q (clients all))
component_known [] q = refl
component_known (tree.server n ps b ∷ all) q =
    ap (λ x. bytes_eq n.bytes q || x) (component_known all q) ∙ or_left (bytes_eq n.bytes q) (is_named q (servers all)) (is_named q (clients all))
component_known (tree.client_is n j ∷ all) q =
    ap (λ x. bytes_eq n.bytes q || x) (component_known all q) ∙ or_right (bytes_eq n.bytes q) (is_named q (servers all)) (is_named q (clients all))
component_known (tree.action_is n ps b ∷ all) q = component_known all q
