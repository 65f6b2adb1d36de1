-- Variables: whether one is in scope, and its number.
use Rattle.std.proofs.Common.{◌≡◌, ℕ, zero, suc, ◌+◌, ◌<◌, Bool, true, false, List, [], ◌∷◌, ◌++◌, map, length, take, Option, Some, None, option_map, refl, sym, ap, ◌∙◌, if◌then◌else◌, arith, Bor}
use Rattle.std.specs.Prelude.{◌||◌, is_some, cond, Result, Ok, Err, OnOk}
use Rattle.std.specs.Str.{bytes_eq}
use Rattle.flight_syntax.specs.Lexicon.{Placed}
use Rattle.flight_syntax.specs.Faults.{is_named}
use Rattle.flight_syntax.specs.Meaning.{occurs, innermost, given}
use Rattle.flight_syntax.specs.Derives.{bytes_of}
use Rattle.flight_parse.specs.declared.lexeme.Name.{Name}
use Rattle.flight_parse.specs.Code.{placed}
use Rattle.flight_resolve.specs.declared.body.Body.{Body}
use Rattle.flight_resolve.specs.Names.{variable_number, inside_out, params_of, scope_of, names_of}

append_nil : {A : Type 0} (xs : List A) → xs ++ [] ≡ xs
append_nil [] = refl
append_nil (x ∷ xs) = ap (λ ys. x ∷ ys) (append_nil xs)

append_assoc : {A : Type 0} (xs ys zs : List A) → (xs ++ ys) ++ zs ≡ xs ++ (ys ++ zs)
append_assoc [] ys zs = refl
append_assoc (x ∷ xs) ys zs = ap (λ us. x ∷ us) (append_assoc xs ys zs)

-- ---- numbers

-- with one name more on the outside
abbrev behind : Option ℕ → Bool → Option ℕ
behind (Some n) here = Some (suc n)
behind None true = Some 0
behind None false = None

cons_is : (m : List ℕ) (scope : List (List ℕ)) (q : List ℕ) → variable_number (m ∷ scope) q ≡ behind (variable_number scope q) (bytes_eq m q)
cons_is m scope q = by (occurs q scope) (bytes_eq m q)
  where
    by : (o b : Bool) → (if (if b then true else o) then Some (if o then suc (innermost scope q) else zero) else None) ≡ behind (if o then Some (innermost scope q) else None) b
    by true true = refl
    by true false = refl
    by false true = refl
    by false false = refl

behind_cond : (c : Bool) (n : ℕ) (o : Option ℕ) (b : Bool) → behind (cond c (Some n) o) b ≡ cond c (Some (suc n)) (behind o b)
behind_cond true n o b = refl
behind_cond false n o b = refl

only : (b : Bool) → behind None b ≡ cond b (Some 0) None
only true = refl
only false = refl

-- one name more on the inside
pub last_in : (scope : List (List ℕ)) (n q : List ℕ) → variable_number (scope ++ n ∷ []) q ≡ cond (bytes_eq n q) (Some (length scope)) (variable_number scope q)
last_in [] n q = cons_is n [] q ∙ only (bytes_eq n q)
last_in (m ∷ scope) n q =
    cons_is m (scope ++ n ∷ []) q
    ∙ (ap (λ o. behind o (bytes_eq m q)) (last_in scope n q)
    ∙ (behind_cond (bytes_eq n q) (length scope) (variable_number scope q) (bytes_eq m q)
    ∙ ap (cond (bytes_eq n q) (Some (suc (length scope)))) (sym (cons_is m scope q))))

-- the number in the inner part, counted from the outer one, or else that in the outer part
abbrev over : ℕ → Option ℕ → Option ℕ → Option ℕ
over k (Some i) outer = Some (i + k)
over k None outer = outer

behind_over : (k : ℕ) (inner outer : Option ℕ) (b : Bool) → behind (over k inner outer) b ≡ over (suc k) inner (behind outer b)
behind_over k (Some i) outer b = let e : suc (i + k) ≡ i + suc k = omega arith in ap (λ m. Some m) e
behind_over k None outer b = refl

over_zero : (inner : Option ℕ) → inner ≡ over 0 inner None
over_zero (Some i) = let e : i ≡ i + 0 = omega arith in ap (λ m. Some m) e
over_zero None = refl

pub two_parts : (outer inner : List (List ℕ)) (q : List ℕ) → variable_number (outer ++ inner) q ≡ over (length outer) (variable_number inner q) (variable_number outer q)
two_parts [] inner q = over_zero (variable_number inner q)
two_parts (m ∷ outer) inner q =
    cons_is m (outer ++ inner) q
    ∙ (ap (λ o. behind o (bytes_eq m q)) (two_parts outer inner q)
    ∙ (behind_over (length outer) (variable_number inner q) (variable_number outer q) (bytes_eq m q)
    ∙ ap (over (suc (length outer)) (variable_number inner q)) (sym (cons_is m outer q))))

pub in_inner : (outer inner : List (List ℕ)) (q : List ℕ) (i : ℕ) → variable_number inner q ≡ Some i → Some (i + length outer) ≡ variable_number (outer ++ inner) q
in_inner outer inner q i e = sym (two_parts outer inner q ∙ ap (λ o. over (length outer) o (variable_number outer q)) e)

pub in_outer : (outer inner : List (List ℕ)) (q : List ℕ) → variable_number inner q ≡ None → variable_number outer q ≡ variable_number (outer ++ inner) q
in_outer outer inner q e = sym (two_parts outer inner q ∙ ap (λ o. over (length outer) o (variable_number outer q)) e)

-- ---- whether one is in scope

some_number : (b : Bool) (n : ℕ) → is_some (if b then Some n else None) ≡ b
some_number true n = refl
some_number false n = refl

occurs_last : (scope : List (List ℕ)) (n q : List ℕ) → occurs q (scope ++ n ∷ []) ≡ (if bytes_eq n q then true else occurs q scope)
occurs_last [] n q = refl
occurs_last (m ∷ scope) n q = ap (λ x. if bytes_eq m q then true else x) (occurs_last scope n q) ∙ swap (bytes_eq m q) (bytes_eq n q) (occurs q scope)
  where
    swap : (a b o : Bool) → (if a then true else (if b then true else o)) ≡ (if b then true else (if a then true else o))
    swap true true o = refl
    swap true false o = refl
    swap false true o = refl
    swap false false o = refl

or_if : (b o : Bool) → (b || o) ≡ (if b then true else o)
or_if true o = refl
or_if false o = refl

named_params : (params : List Placed) (q : List ℕ) → is_named q params ≡ occurs q (bytes_of params)
named_params [] q = refl
named_params (p ∷ params) q = or_if (bytes_eq p.bytes q) (is_named q params) ∙ ap (λ x. if bytes_eq p.bytes q then true else x) (named_params params q)

named_in : (q : List ℕ) (outer : List Placed) (scope : List (List ℕ)) → is_named q outer ≡ occurs q scope → (locals : List Placed) → is_named q (inside_out outer locals) ≡ occurs q (scope ++ bytes_of locals)
named_in q outer scope h [] = h ∙ ap (occurs q) (sym (append_nil scope))
named_in q outer scope h (n ∷ locals) =
    named_in q (n ∷ outer) (scope ++ n.bytes ∷ []) (or_if (bytes_eq n.bytes q) (is_named q outer) ∙ (ap (λ x. if bytes_eq n.bytes q then true else x) h ∙ sym (occurs_last scope n.bytes q))) locals
    ∙ ap (occurs q) (append_assoc scope (n.bytes ∷ []) (bytes_of locals))

pub variable_known : (params locals : List Placed) (q : List ℕ) → is_some (variable_number (bytes_of params ++ bytes_of locals) q) ≡ is_named q (inside_out params locals)
variable_known params locals q =
    some_number (occurs q (bytes_of params ++ bytes_of locals)) (innermost (bytes_of params ++ bytes_of locals) q)
    ∙ sym (named_in q params (bytes_of params) (named_params params q) locals)

-- the same, of names in memory
same_params : (params : List Name) → bytes_of (map placed params) ≡ map (λ n. n.bytes) params
same_params [] = refl
same_params (n ∷ params) = ap (λ x. n.bytes ∷ x) (same_params params)

same_locals : (locals : List (Bor Name)) → bytes_of (map (λ n. placed n.now) locals) ≡ map (λ n. n.now.bytes) locals
same_locals [] = refl
same_locals (n ∷ locals) = ap (λ x. n.now.bytes ∷ x) (same_locals locals)

pub same_names : (body : Body) (locals : List (Bor Name)) → bytes_of (params_of body) ++ bytes_of (map (λ n. placed n.now) locals) ≡ names_of body locals
same_names body locals = ap (λ x. x ++ bytes_of (map (λ n. placed n.now) locals)) (same_params body.params.now) ∙ ap (λ x. map (λ n. n.bytes) body.params.now ++ x) (same_locals locals)

pub name_known : (body : Body) (locals : List (Bor Name)) (q : List ℕ) → is_some (variable_number (names_of body locals) q) ≡ is_named q (scope_of body locals)
name_known body locals q =
    ap (λ s. is_some (variable_number s q)) (sym (same_names body locals)) ∙ variable_known (params_of body) (map (λ n. placed n.now) locals) q

-- without locals
pub no_locals : (body : Body) → names_of body [] ≡ bytes_of (params_of body)
no_locals body = sym (same_names body []) ∙ append_nil (bytes_of (params_of body))

-- a number, or 0 where there is none
zero_of : (scope : List (List ℕ)) (q : List ℕ) → occurs q scope ≡ false → innermost scope q ≡ 0
zero_of [] q e = refl
zero_of (n ∷ scope) q e = by (bytes_eq n q) (occurs q scope) e
  where
    by : (b o : Bool) → (if b then true else o) ≡ false → (if o then suc (innermost scope q) else zero) ≡ 0
    by true o e = absurd cc
    by false true e = absurd cc
    by false false e = refl

pub given_number : (scope : List (List ℕ)) (q : List ℕ) → given (variable_number scope q) ≡ innermost scope q
given_number scope q = by (occurs q scope) refl
  where
    by : (b : Bool) → occurs q scope ≡ b → given (if b then Some (innermost scope q) else None) ≡ innermost scope q
    by true e = refl
    by false e = sym (zero_of scope q e)

-- ---- one local more

pub inside_one : (outer locals : List Placed) (n : Placed) → inside_out outer (locals ++ n ∷ []) ≡ n ∷ inside_out outer locals
inside_one outer [] n = refl
inside_one outer (m ∷ locals) n = inside_one (m ∷ outer) locals n

pub bytes_one : (locals : List Placed) (n : Placed) → bytes_of (locals ++ n ∷ []) ≡ bytes_of locals ++ n.bytes ∷ []
bytes_one [] n = refl
bytes_one (m ∷ locals) n = ap (λ x. m.bytes ∷ x) (bytes_one locals n)

pub names_one : (params locals : List Placed) (n : Placed) → bytes_of params ++ bytes_of (locals ++ n ∷ []) ≡ (bytes_of params ++ bytes_of locals) ++ n.bytes ∷ []
names_one params locals n = ap (λ x. bytes_of params ++ x) (bytes_one locals n) ∙ sym (append_assoc (bytes_of params) (bytes_of locals) (n.bytes ∷ []))

-- ---- one name more, found or not

-- what a table has for a name, with one parameter more
pub numbered_one : (params : List (List ℕ)) (n q : List ℕ) (at : ℕ) (old new : Option ℕ) → at ≡ length params → old ≡ variable_number params q
    → new ≡ cond (bytes_eq n q) (Some at) old → new ≡ variable_number (params ++ n ∷ []) q
numbered_one params n q at old new here known more =
    more
    ∙ (ap (cond (bytes_eq n q) (Some at)) known
    ∙ (ap (λ k. cond (bytes_eq n q) (Some k) (variable_number params q)) here ∙ sym (last_in params n q)))

pub number_inside : (before locals : List (List ℕ)) (q : List ℕ) (inner : Option ℕ) (at params n : ℕ) → inner ≡ Some at → params ≡ length before → inner ≡ variable_number locals q → n ≡ at + params
    → Some n ≡ variable_number (before ++ locals) q
number_inside before locals q inner at params n is here known sum =
    ap (λ m. Some m) (sum ∙ ap (λ k. at + k) here) ∙ in_inner before locals q at (sym known ∙ is)

pub number_outside : (before locals : List (List ℕ)) (q : List ℕ) (inner outer : Option ℕ) → inner ≡ None → inner ≡ variable_number locals q → outer ≡ variable_number before q → outer ≡ variable_number (before ++ locals) q
number_outside before locals q inner outer is known found = found ∙ in_outer before locals q (sym known ∙ is)

-- the last of a name, with one local more
pub last_found : (locals : List (List ℕ)) (n q : List ℕ) (at : ℕ) → at ≡ length locals → bytes_eq n q ≡ true → Some at ≡ variable_number (locals ++ n ∷ []) q
last_found locals n q at here e = ap (λ k. Some k) here ∙ (ap (λ b. cond b (Some (length locals)) (variable_number locals q)) (sym e) ∙ sym (last_in locals n q))

pub last_other : (locals : List (List ℕ)) (n q : List ℕ) (found : Option ℕ) → found ≡ variable_number locals q → bytes_eq n q ≡ false → found ≡ variable_number (locals ++ n ∷ []) q
last_other locals n q found known e = known ∙ (ap (λ b. cond b (Some (length locals)) (variable_number locals q)) (sym e) ∙ sym (last_in locals n q))

pub on_ok : {A E P Q : Type 0} (r : Result A E) → (P → Q) → OnOk r P → OnOk r Q
on_ok (Ok x) f p = f p
on_ok (Err e) f p = tt

pub none_in : (params : List Name) (locals : List (Bor Name)) → locals ≡ [] → map (λ n. n.bytes) params ++ map (λ n. n.now.bytes) locals ≡ bytes_of (map placed params)
none_in params locals e = ap (λ z. map (λ n. n.bytes) params ++ map (λ n. n.now.bytes) z) e ∙ (append_nil (map (λ n. n.bytes) params) ∙ sym (same_params params))

placed_each : (names : List (Bor Name)) → map (λ n. placed n.now) names ≡ map placed (map (λ n. n.now) names)
placed_each [] = refl
placed_each (n ∷ names) = ap (λ x. placed n.now ∷ x) (placed_each names)

pub placed_references : (references : List (Bor Name)) (names : List Name) → map (λ n. n.now) references ≡ names → map (λ n. placed n.now) references ≡ map placed names
placed_references references names e = placed_each references ∙ ap (map placed) e
