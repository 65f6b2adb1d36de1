-- Where JSON reads a literal as a string, the literal ends at its first quote that no backslash escapes.
use Rattle.std.proofs.Common.{◌≡◌, ℕ, zero, suc, ◌≤◌, ◌++◌, Bool, true, false, cond, List, [], ◌∷◌, length, take, drop, refl, sym, ◌∙◌, ap, subst, arith}
use Rattle.std.specs.Prelude.{◌&&◌, ◌==◌, nat_lt, Option, Some, None, option_map, option_and_then, if◌then◌else◌}
use Rattle.std.specs.Char.{is_digit, encode_utf8}
use Rattle.std.proofs.lemmas.Bool.{and_parts, false≢true, eqb-true, both_ways, false_from_ne_true}
use Rattle.json.specs.Text.{plain, after_backslash, after_u, after_high, prepend, content, code_unit, short_escape}
use Rattle.json.specs.Token as json
use Rattle.json.specs.Lex.{Lexeme, token, comma, colon, Mode, between, in_string, in_escape, lex, lex_byte, Class, quote, backslash, operator, space, other, class, string_token, Place, fresh, after_value, after_comma, punctuate, place_token}
use Rattle.json.specs.Json as tree
use Rattle.serde_json.specs.Data.{string}
use Rattle.serde_json.specs.Read.{read, of_json}
use Rattle.flight_syntax.specs.Literal.{closing}

-- ---- a text with no closing quote has no content

none-map : (o : Option ℕ) → option_map suc o ≡ None → o ≡ None
none-map None h = refl
none-map (Some n) h = cc

skip_at : (q b : Bool) (xs : List ℕ) → q ≡ false → b ≡ false → (if q then Some 1 else option_map suc (closing b xs)) ≡ None → closing false xs ≡ None
skip_at true b xs p r h = absurd (false≢true (sym p))
skip_at false true xs p r h = absurd (false≢true (sym r))
skip_at false false xs p r h = none-map (closing false xs) h

-- a hexadecimal digit is neither a quote nor a backslash
not_hex : (a x : ℕ) → is_digit x 16 ≡ false → is_digit a 16 ≡ true → (a == x) ≡ false
not_hex a x p h = false_from_ne_true (a == x) (λ e. both_ways (is_digit a 16) (ap (λ y. is_digit y 16) (eqb-true a x e) ∙ p) h)

skip_hex : (a : ℕ) (xs : List ℕ) → is_digit a 16 ≡ true → closing false (a ∷ xs) ≡ None → closing false xs ≡ None
skip_hex a xs h n = skip_at (a == 34) (a == 92) xs (not_hex a 34 refl h) (not_hex a 92 refl h) n

skip_four : (a b c d : ℕ) (xs : List ℕ) → (is_digit a 16 && is_digit b 16 && is_digit c 16 && is_digit d 16) ≡ true → closing false (a ∷ b ∷ c ∷ d ∷ xs) ≡ None → closing false xs ≡ None
skip_four a b c d xs h n =
    let three = and_parts (is_digit a 16 && is_digit b 16 && is_digit c 16) (is_digit d 16) h in
    let two = and_parts (is_digit a 16 && is_digit b 16) (is_digit c 16) three.0 in
    let one = and_parts (is_digit a 16) (is_digit b 16) two.0 in
    skip_hex d xs three.1 (skip_hex c (d ∷ xs) two.1 (skip_hex b (c ∷ d ∷ xs) one.1 (skip_hex a (b ∷ c ∷ d ∷ xs) one.0 n)))

prepend-none : (s : List ℕ) (o : Option (List ℕ)) → o ≡ None → prepend s o ≡ None
prepend-none s o h = ap (prepend s) h

plain-at : (q b c : Bool) (x : ℕ) (xs : List ℕ) → (if q then Some 1 else option_map suc (closing b xs)) ≡ None → (closing true xs ≡ None → content after_backslash xs ≡ None) → (closing false xs ≡ None → content plain xs ≡ None)
    → cond q (Some []) (cond b (content after_backslash xs) (cond c None (prepend (x ∷ []) (content plain xs)))) ≡ None
plain-at true b c x xs h f g = cc
plain-at false true c x xs h f g = f (none-map (closing true xs) h)
plain-at false false true x xs h f g = refl
plain-at false false false x xs h f g = prepend-none (x ∷ []) (content plain xs) (g (none-map (closing false xs) h))

escape-at : (t : Bool) (o : Option ℕ) (xs : List ℕ) → content after_u xs ≡ None → content plain xs ≡ None → cond t (content after_u xs) (option_and_then (λ c. prepend (c ∷ []) (content plain xs)) o) ≡ None
escape-at true o xs f g = f
escape-at false None xs f g = refl
escape-at false (Some c) xs f g = prepend-none (c ∷ []) (content plain xs) g

unit-at : (t : Bool) (n : ℕ) (f : ℕ → Option (List ℕ)) → (t ≡ true → f n ≡ None) → option_and_then f (cond t (Some n) None) ≡ None
unit-at true n f h = h refl
unit-at false n f h = refl

surrogate-at : (h l : Bool) (u : ℕ) (xs : List ℕ) → content (after_high u) xs ≡ None → content plain xs ≡ None → cond h (content (after_high u) xs) (cond l None (prepend (encode_utf8 u) (content plain xs))) ≡ None
surrogate-at true l u xs f g = f
surrogate-at false true u xs f g = refl
surrogate-at false false u xs f g = prepend-none (encode_utf8 u) (content plain xs) g

low-at : (t : Bool) (s : List ℕ) (xs : List ℕ) → content plain xs ≡ None → cond t (prepend s (content plain xs)) None ≡ None
low-at true s xs g = prepend-none s (content plain xs) g
low-at false s xs g = refl

pair-at : (t : Bool) (o : Option (List ℕ)) → (t ≡ true → o ≡ None) → cond t o None ≡ None
pair-at true o f = f refl
pair-at false o f = refl

-- behind a backslash and `u`
skip_escape : (s u : ℕ) (xs : List ℕ) → ((s == 92) && (u == 117)) ≡ true → closing false (s ∷ u ∷ xs) ≡ None → closing false xs ≡ None
skip_escape s u xs h n =
    let parts = and_parts (s == 92) (u == 117) h in
    let at : closing false (92 ∷ u ∷ xs) ≡ None = subst (λ y. closing false (y ∷ u ∷ xs) ≡ None) (eqb-true s 92 parts.0) n in
    none-map (closing false xs) (none-map (option_map suc (closing false xs)) at)

mutual
  unfolding content code_unit

  none-plain : (xs : List ℕ) → closing false xs ≡ None → content plain xs ≡ None
  none-plain [] h = refl
  none-plain (x ∷ xs) h = plain-at (x == 34) (x == 92) (nat_lt x 32) x xs h (none-backslash xs) (none-plain xs)

  none-backslash : (xs : List ℕ) → closing true xs ≡ None → content after_backslash xs ≡ None
  none-backslash [] h = refl
  none-backslash (x ∷ xs) h =
      let rest = none-map (closing false xs) h in
      escape-at (x == 117) (short_escape x) xs (none-u xs rest) (none-plain xs rest)

  none-u : (xs : List ℕ) → closing false xs ≡ None → content after_u xs ≡ None
  none-u [] h = refl
  none-u (a ∷ []) h = refl
  none-u (a ∷ b ∷ []) h = refl
  none-u (a ∷ b ∷ c ∷ []) h = refl
  none-u (a ∷ b ∷ c ∷ d ∷ xs) h =
      unit-at (is_digit a 16 && is_digit b 16 && is_digit c 16 && is_digit d 16) _ _ (λ hex.
      let rest = skip_four a b c d xs hex h in
      surrogate-at _ _ _ xs (none-high _ xs rest) (none-plain xs rest))

  none-high : (high : ℕ) (xs : List ℕ) → closing false xs ≡ None → content (after_high high) xs ≡ None
  none-high high [] h = refl
  none-high high (s ∷ []) h = refl
  none-high high (s ∷ u ∷ []) h = refl
  none-high high (s ∷ u ∷ a ∷ []) h = refl
  none-high high (s ∷ u ∷ a ∷ b ∷ []) h = refl
  none-high high (s ∷ u ∷ a ∷ b ∷ c ∷ []) h = refl
  none-high high (s ∷ u ∷ a ∷ b ∷ c ∷ d ∷ xs) h =
      pair-at ((s == 92) && (u == 117)) _ (λ escape.
      unit-at (is_digit a 16 && is_digit b 16 && is_digit c 16 && is_digit d 16) _ _ (λ hex.
      low-at _ _ xs (none-plain xs (skip_four a b c d xs hex (skip_escape s u (a ∷ b ∷ c ∷ d ∷ xs) escape h)))))

-- ---- what stands behind the closing quote

abbrev mode_of : Bool → Mode
mode_of true = in_escape
mode_of false = in_string

some-map : (o : Option ℕ) (n : ℕ) → option_map suc o ≡ Some n → (m : ℕ) × ((o ≡ Some m) × (n ≡ suc m))
some-map None n h = cc
some-map (Some m) n h = (m, (refl, let e : suc m ≡ n = cc in sym e))

lex-at : (q b o s : Bool) (x : ℕ) (xs : List ℕ) (n : ℕ) → (if q then Some 1 else option_map suc (closing b xs)) ≡ Some n → ((e : Bool) (m : ℕ) → closing e xs ≡ Some m → lex (mode_of e) xs ≡ lex between (drop m xs))
    → lex_byte in_string (cond q quote (cond b backslash (cond o operator (cond s space other)))) x xs (λ next. lex next xs) ≡ lex between (drop n (x ∷ xs))
lex-at true b o s x xs n h f = let e : n ≡ suc zero = cc in rw e refl
lex-at false true o s x xs n h f = let m = some-map (closing true xs) n h in rw m.1.1 (f true m.0 m.1.0)
lex-at false false true s x xs n h f = let m = some-map (closing false xs) n h in rw m.1.1 (f false m.0 m.1.0)
lex-at false false false true x xs n h f = let m = some-map (closing false xs) n h in rw m.1.1 (f false m.0 m.1.0)
lex-at false false false false x xs n h f = let m = some-map (closing false xs) n h in rw m.1.1 (f false m.0 m.1.0)

lex-closed : (xs : List ℕ) (e : Bool) (n : ℕ) → closing e xs ≡ Some n → lex (mode_of e) xs ≡ lex between (drop n xs)
unfolding lex
lex-closed [] e n h = cc
lex-closed (x ∷ xs) true n h = let m = some-map (closing false xs) n h in rw m.1.1 (lex-closed xs false m.0 m.1.0)
lex-closed (x ∷ xs) false n h = lex-at (x == 34) (x == 92) _ _ x xs n h (λ e m. lex-closed xs e m)

last-at : (c : Class) (x : ℕ) (xs : List ℕ) → lex_byte between c x xs (λ next. lex next xs) ≡ [] → lex between xs ≡ []
last-at quote x xs h = cc
last-at backslash x xs h = cc
last-at operator x xs h = cc
last-at space x xs h = h
last-at other x xs h = cc

-- a text that ends with a quote has a lexeme
no_last : (xs : List ℕ) → lex between (xs ++ 34 ∷ []) ≡ [] → ⊥
unfolding lex
no_last [] h = cc
no_last (x ∷ xs) h = no_last xs (last-at (class x) x (xs ++ 34 ∷ []) h)

closing-le-at : (q b : Bool) (x : ℕ) (xs : List ℕ) (n : ℕ) → (if q then Some 1 else option_map suc (closing b xs)) ≡ Some n → ((e : Bool) (m : ℕ) → closing e xs ≡ Some m → m ≤ length xs) → n ≤ length (x ∷ xs)
closing-le-at true b x xs n h f = let e : n ≡ suc zero = cc in omega (arith, e)
closing-le-at false b x xs n h f = let m = some-map (closing b xs) n h in let w = f b m.0 m.1.0 in let s = m.1.1 in omega (arith, w, s)

pub closing-le : (xs : List ℕ) (e : Bool) (n : ℕ) → closing e xs ≡ Some n → n ≤ length xs
closing-le [] e n h = cc
closing-le (x ∷ xs) true n h = let m = some-map (closing false xs) n h in let w = closing-le xs false m.0 m.1.0 in let s = m.1.1 in omega (arith, w, s)
closing-le (x ∷ xs) false n h = closing-le-at (x == 34) (x == 92) x xs n h (λ e m. closing-le xs e m)

-- ---- the tokens of a text that begins with a quote

token-some : (t : json.Token) (b : Bool) (k : Place → List json.Token) → place_token after_value t b k ≡ [] → ⊥
token-some json.begin_object b k h = cc
token-some json.end_object b k h = cc
token-some json.begin_array b k h = cc
token-some json.end_array b k h = cc
token-some (json.key s) b k h = cc
token-some (json.string s) true k h = cc
token-some (json.string s) false k h = cc
token-some (json.number s) b k h = cc
token-some (json.boolean t) b k h = cc
token-some json.null b k h = cc
token-some json.bad b k h = cc

comma-some-at : (t : json.Token) (b : Bool) (k : Place → List json.Token) → place_token after_comma t b k ≡ [] → ⊥
comma-some-at json.begin_object b k h = cc
comma-some-at json.end_object b k h = cc
comma-some-at json.begin_array b k h = cc
comma-some-at json.end_array b k h = cc
comma-some-at (json.key s) b k h = cc
comma-some-at (json.string s) true k h = cc
comma-some-at (json.string s) false k h = cc
comma-some-at (json.number s) b k h = cc
comma-some-at (json.boolean t) b k h = cc
comma-some-at json.null b k h = cc
comma-some-at json.bad b k h = cc

comma-some : (ls : List Lexeme) → punctuate after_comma ls ≡ [] → ⊥
unfolding punctuate
comma-some [] h = cc
comma-some (token t ∷ ls) h = comma-some-at t _ _ h
comma-some (comma ∷ ls) h = cc
comma-some (colon ∷ ls) h = cc

nothing-behind : (ls : List Lexeme) → punctuate after_value ls ≡ [] → ls ≡ []
unfolding punctuate
nothing-behind [] h = refl
nothing-behind (token t ∷ ls) h = absurd (token-some t _ _ h)
nothing-behind (comma ∷ ls) h = absurd (comma-some ls h)
nothing-behind (colon ∷ ls) h = cc

-- a string and what follows it are read as a string where nothing follows
last-string : (s v : List ℕ) (ts : List json.Token) → option_and_then of_json (tree.if_last (tree.string s) ts) ≡ Some (string v) → (s ≡ v) × (ts ≡ [])
last-string s v [] h = let e : s ≡ v = cc in (e, refl)
last-string s v (t ∷ ts) h = cc

reads-at : (o : Option (List ℕ)) (ls : List Lexeme) (v : List ℕ) → option_and_then of_json (option_and_then (λ p. tree.if_last p.0 p.1) (tree.value 127 (punctuate fresh (token (string_token o) ∷ ls)))) ≡ Some (string v) → (o ≡ Some v) × (ls ≡ [])
unfolding punctuate tree.value
reads-at None ls v h = cc
reads-at (Some s) [] v h = let r = last-string s v [] h in (ap Some r.0, refl)
reads-at (Some s) (token t ∷ ls) v h = let r = last-string s v _ h in absurd (token-some t _ _ r.1)
reads-at (Some s) (comma ∷ ls) v h = let r = last-string s v _ h in absurd (comma-some ls r.1)
reads-at (Some s) (colon ∷ ls) v h = cc

reads-string : (xs v : List ℕ) → read (34 ∷ xs) ≡ Some (string v) → (content plain xs ≡ Some v) × (lex in_string xs ≡ [])
unfolding lex
reads-string xs v h = reads-at (content plain xs) (lex in_string xs) v h

-- ---- the literal ends at its closing quote

behind-none : (inner : List ℕ) (n : ℕ) → n ≤ length (inner ++ 34 ∷ []) → lex between (drop n (inner ++ 34 ∷ [])) ≡ [] → n ≡ length (inner ++ 34 ∷ [])
behind-none [] zero l h = absurd (no_last [] h)
behind-none [] (suc n) l h = omega arith
behind-none (x ∷ inner) zero l h = absurd (no_last (x ∷ inner) h)
behind-none (x ∷ inner) (suc n) l h = ap suc (behind-none inner n (omega arith) h)

closed-at : (xs inner v : List ℕ) (o : Option ℕ) → closing false xs ≡ o → xs ≡ inner ++ 34 ∷ [] → content plain xs ≡ Some v → lex in_string xs ≡ [] → o ≡ Some (length xs)
closed-at xs inner v None c e k l = let none_of = none-plain xs c in cc
closed-at xs inner v (Some n) c e k l =
    let within = closing-le xs false n c in
    let behind : lex between (drop n xs) ≡ [] = sym (lex-closed xs false n c) ∙ l in
    let n_is : n ≡ length (inner ++ 34 ∷ []) = behind-none inner n (rw e at within) (rw e at behind) in
    ap Some (n_is ∙ ap length (sym e))

-- a literal between quotes that JSON reads as a string closes at its end
pub closing-string : (xs inner v : List ℕ) → xs ≡ inner ++ 34 ∷ [] → read (34 ∷ xs) ≡ Some (string v) → closing false xs ≡ Some (length xs)
closing-string xs inner v e h =
    let r = reads-string xs v h in closed-at xs inner v (closing false xs) refl e r.0 r.1

-- ---- more text behind the closing quote changes nothing

closing-append_at : (q b : Bool) (xs ys : List ℕ) (n : ℕ) → (if q then Some 1 else option_map suc (closing b xs)) ≡ Some n → ((e : Bool) (m : ℕ) → closing e xs ≡ Some m → closing e (xs ++ ys) ≡ Some m) → (if q then Some 1 else option_map suc (closing b (xs ++ ys))) ≡ Some n
closing-append_at true b xs ys n h f = h
closing-append_at false b xs ys n h f = let m = some-map (closing b xs) n h in ap (option_map suc) (f b m.0 m.1.0) ∙ ap Some (sym m.1.1)

pub closing-append : (xs ys : List ℕ) (e : Bool) (n : ℕ) → closing e xs ≡ Some n → closing e (xs ++ ys) ≡ Some n
closing-append [] ys e n h = cc
closing-append (x ∷ xs) ys true n h = let m = some-map (closing false xs) n h in ap (option_map suc) (closing-append xs ys false m.0 m.1.0) ∙ ap Some (sym m.1.1)
closing-append (x ∷ xs) ys false n h = closing-append_at (x == 34) (x == 92) xs ys n h (λ e m. closing-append xs ys e m)

-- what is up to the closing quote ends with it
closing-last_at : (q b : Bool) (x : ℕ) (xs : List ℕ) (n : ℕ) → (x == 34) ≡ q → (if q then Some 1 else option_map suc (closing b xs)) ≡ Some n → ((e : Bool) (m : ℕ) → closing e xs ≡ Some m → (inner : List ℕ) × (take m xs ≡ inner ++ 34 ∷ [])) → (inner : List ℕ) × (take n (x ∷ xs) ≡ inner ++ 34 ∷ [])
closing-last_at true b x xs n t h f = let e : n ≡ suc zero = cc in ([], rw (e, eqb-true x 34 t) refl)
closing-last_at false b x xs n t h f =
    let m = some-map (closing b xs) n h in
    let r = f b m.0 m.1.0 in
    (x ∷ r.0, ap (λ k. take k (x ∷ xs)) m.1.1 ∙ ap (λ ys. x ∷ ys) r.1)

pub closing-last : (xs : List ℕ) (e : Bool) (n : ℕ) → closing e xs ≡ Some n → (inner : List ℕ) × (take n xs ≡ inner ++ 34 ∷ [])
closing-last [] e n h = cc
closing-last (x ∷ xs) true n h =
    let m = some-map (closing false xs) n h in
    let r = closing-last xs false m.0 m.1.0 in
    (x ∷ r.0, ap (λ k. take k (x ∷ xs)) m.1.1 ∙ ap (λ ys. x ∷ ys) r.1)
closing-last (x ∷ xs) false n h = closing-last_at (x == 34) (x == 92) x xs n refl h (λ e m. closing-last xs e m)
