-- An atom with its postfixes, as a loop reads them.
use Rattle.std.proofs.Common.{◌≡◌, ℕ, zero, suc, ◌-◌, ◌+◌, ◌≤◌, ◌<◌, true, false, List, [], ◌∷◌, ◌++◌, map, Ok, Err, length, append_assoc, append-nil, refl, sym, ap, subst, ◌∙◌, arith}
use Rattle.std.proofs.lemmas.List.{map-append}
use Rattle.flight_syntax.specs.declared.word.Punctuator.TheVariants as signs
use Rattle.flight_syntax.specs.Lexicon.{Word}
use Rattle.flight_syntax.specs.Lexicon as lexicon
use Rattle.flight_syntax.specs.Tree.{Tree, member, index}
use Rattle.flight_grammar.specs.Reading.{Read, Reader, Arm, stop, limit, go, ◌>>=◌, want, at, next_is, made, closed, by_arm, by_word, consed, paired}
use Rattle.flight_grammar.specs.Reader as reader
use Rattle.flight_grammar.specs.Reader.{Post, posted, chain_arm, atom_arm, chain_of, named_and, indexed_and, starts_post, level, json_value}
use Rattle.flight_parse.specs.declared.lexeme.Lexeme.{Lexeme}
use Rattle.flight_parse.specs.declared.lexeme.Lexeme.TheVariants as code
use Rattle.flight_parse.specs.declared.stop.Stop.{Stop}
use Rattle.flight_parse.specs.declared.stop.Stop.TheVariants as stops
use Rattle.flight_parse.specs.Code as plain
use Rattle.flight_parse.specs.Code.{Fails, words, word, postfix, PlainPost, read_post}

-- ---- postfixes

-- what was read, and what is still read behind it in so many turns
abbrev joined : List Post → Read (List Post) → Read (List Post)
joined xs r = r >>= λ b. Ok (xs ++ b.0, b.1)

abbrev pub left_posts : ℕ → ℕ → Reader Tree → List Post → List Word → Read (List Post)
left_posts count i e xs ts = joined xs (reader.posts (count - i) e ts)

abbrev next : Post → Read (List Post) → Read (List Post)
next p r = r >>= λ b. consed p b

none : (n : ℕ) (e : Reader Tree) (ts : List Word) → next_is starts_post ts ≡ false → reader.posts n e ts ≡ Ok ([], ts)
none zero e ts h = rw h refl
none (suc n) e ts h = rw h refl

named_next : (a : lexicon.Placed) (r : Read (List Post)) → ((r >>= λ b. paired a b) >>= λ b. Ok (named_and b.0, b.1)) ≡ next (reader.named a) r
named_next a (Ok b) = refl
named_next a (Err f) = refl

indexed_next : (a : Tree) (r : Read (List Post)) → ((r >>= λ b. paired a b) >>= λ b. Ok (indexed_and b.0, b.1)) ≡ next (reader.indexed a) r
indexed_next a (Ok b) = refl
indexed_next a (Err f) = refl

abbrev then_posts : ℕ → Reader Tree → Read Post → Read (List Post)
then_posts n e r = r >>= λ a. next a.0 (reader.posts n e a.1)

dot_split : (n : ℕ) (e : Reader Tree) (r : Read lexicon.Placed)
    → ((r >>= λ a. reader.posts n e a.1 >>= λ b. paired a.0 b) >>= λ b. Ok (named_and b.0, b.1)) ≡ then_posts n e (r >>= λ a. Ok (reader.named a.0, a.1))
dot_split n e (Ok a) = named_next a.0 (reader.posts n e a.1)
dot_split n e (Err f) = refl

bracket_split : (n : ℕ) (e : Reader Tree) (r : Read Tree)
    → ((r >>= λ a. reader.posts n e a.1 >>= λ b. paired a.0 b) >>= λ b. Ok (indexed_and b.0, b.1)) ≡ then_posts n e (r >>= λ a. Ok (reader.indexed a.0, a.1))
bracket_split n e (Ok a) = indexed_next a.0 (reader.posts n e a.1)
bracket_split n e (Err f) = refl

split : (n : ℕ) (e : Reader Tree) (ls : List Lexeme) → next_is starts_post (words ls) ≡ true → reader.posts (suc n) e (words ls) ≡ then_posts n e (postfix e (words ls))
split n e [] h = absurd cc
split n e (code.Mark signs.Dot ∷ ls) h = dot_split n e (want lexicon.name_of (words ls))
split n e (code.Mark signs.OpenBracket ∷ ls) h = bracket_split n e (closed e (lexicon.is_mark signs.CloseBracket) (words ls))
split n e (_ ∷ ls) h = absurd cc

regroup : (xs : List Post) (p : Post) (r : Read (List Post)) → joined (xs ++ p ∷ []) r ≡ joined xs (next p r)
regroup xs p (Ok b) = ap (λ us. Ok (us, b.1)) (append_assoc xs (p ∷ []) b.0)
regroup xs p (Err e) = refl

-- before the first turn
pub begins_posts : (count : ℕ) (e : Reader Tree) (ts : List Word) → left_posts count 0 e [] ts ≡ reader.posts count e ts
begins_posts count e ts = let k : count - 0 ≡ count = omega arith in ap (λ n. joined [] (reader.posts n e ts)) k ∙ of (reader.posts count e ts)
  where
    of : (r : Read (List Post)) → joined [] r ≡ r
    of (Ok b) = refl
    of (Err f) = refl

-- no postfix starts
pub ends_posts : (count i : ℕ) (e : Reader Tree) (xs : List Post) (ts : List Word) (total : Read (List Post))
    → left_posts count i e xs ts ≡ total → next_is starts_post ts ≡ false → total ≡ Ok (xs, ts)
ends_posts count i e xs ts total inv h = sym inv ∙ (ap (joined xs) (none (count - i) e ts h) ∙ ap (λ us. Ok (us, ts)) (append-nil xs))

last_deep : (e : Reader Tree) (ls : List Lexeme) → next_is starts_post (words ls) ≡ true → reader.posts zero e (words ls) ≡ Err (record { too_deep = true; left = length (words ls) })
last_deep e [] h = absurd cc
last_deep e (code.Mark signs.Dot ∷ ls) h = refl
last_deep e (code.Mark signs.OpenBracket ∷ ls) h = refl
last_deep e (_ ∷ ls) h = absurd cc

-- one starts, and no turn is left
pub too_many_posts : (s : Stop) (count i : ℕ) (e : Reader Tree) (xs : List Post) (ls : List Lexeme) (total : Read (List Post))
    → left_posts count i e xs (words ls) ≡ total → count ≤ i → next_is starts_post (words ls) ≡ true → s ≡ stops.Fault true (length (words ls)) → Fails s total
too_many_posts s count i e xs ls total inv lt h is =
    let z : count - i ≡ zero = omega arith in
    subst (λ x. Fails x total) (sym is) (sym inv ∙ (ap (λ n. joined xs (reader.posts n e (words ls))) z ∙ ap (joined xs) (last_deep e ls h)))

pushed : {X : Type 0} (f : X → PlainPost) (old new : List X) (p : X) → new ≡ old ++ p ∷ [] → map read_post (map f new) ≡ map read_post (map f old) ++ read_post (f p) ∷ []
pushed f old new p is =
    ap (λ xs. map read_post (map f xs)) is ∙ (ap (map read_post) (map-append f old (p ∷ [])) ∙ map-append read_post (map f old) (f p ∷ []))

-- one more was read
pub more_posts : {X : Type 0} (f : X → PlainPost) (count i : ℕ) (e : Reader Tree) (old new : List X) (p : X) (ls : List Lexeme) (after : List Word) (total : Read (List Post))
    → left_posts count i e (map read_post (map f old)) (words ls) ≡ total → i < count → next_is starts_post (words ls) ≡ true → postfix e (words ls) ≡ Ok (read_post (f p), after) → new ≡ old ++ p ∷ []
    → left_posts count (i + 1) e (map read_post (map f new)) after ≡ total
more_posts f count i e old new p ls after total inv lt h is push =
    let k : count - i ≡ suc (count - (i + 1)) = omega arith in
    let m = count - (i + 1) in
    let xs = map read_post (map f old) in
    ap (λ ys. joined ys (reader.posts m e after)) (pushed f old new p push)
    ∙ (regroup xs (read_post (f p)) (reader.posts m e after)
    ∙ (ap (λ r. joined xs (then_posts m e r)) (sym is)
    ∙ (ap (joined xs) (sym (split m e ls h))
    ∙ (ap (λ n. joined xs (reader.posts n e (words ls))) (sym k) ∙ inv))))

-- one more fails
pub fails_posts : (s : Stop) (count i : ℕ) (e : Reader Tree) (xs : List Post) (ls : List Lexeme) (total : Read (List Post))
    → left_posts count i e xs (words ls) ≡ total → i < count → next_is starts_post (words ls) ≡ true → Fails s (postfix e (words ls)) → Fails s total
fails_posts stops.Memory count i e xs ls total inv lt h f = tt
fails_posts (stops.Fault deep left) count i e xs ls total inv lt h f =
    let k : count - i ≡ suc (count - (i + 1)) = omega arith in
    let m = count - (i + 1) in
    sym inv ∙ (ap (λ n. joined xs (reader.posts n e (words ls))) k
    ∙ (ap (joined xs) (split m e ls h)
    ∙ ap (λ r. joined xs (then_posts m e r)) f))

-- ---- an atom and its postfixes

abbrev chains : Read (Tree × List Post) → Read Tree
chains r = r >>= λ b. Ok (chain_of b.0, b.1)

-- the postfixes that were read, put on an expression
abbrev onto : Tree → Read (List Post) → Read Tree
onto t r = r >>= λ b. Ok (posted t b.0, b.1)

read_all : (t : Tree) (ps : List PlainPost) → posted t (map read_post ps) ≡ plain.posted t ps
read_all t [] = refl
read_all t (plain.named n ∷ ps) = read_all (member t n) ps
read_all t (plain.indexed a ∷ ps) = read_all (index t a) ps

abbrev chained : Reader Tree → Read Tree → Read Tree
chained e r = r >>= λ a. onto a.0 (reader.posts 100 e a.1)

pub chain : (e : Reader Tree) (arm : Arm Tree) (w : Word) (ts : List Word) → by_arm (chain_arm e arm) w ts ≡ chained e (by_arm arm w ts)
chain e stop w ts = refl
chain e limit w ts = refl
chain e (go p) w ts = of (p ts)
  where
    inner : (a : Tree) (r : Read (List Post)) → chains (r >>= λ b. paired a b) ≡ onto a r
    inner a (Ok b) = refl
    inner a (Err f) = refl

    of : (r : Read Tree) → chains (r >>= λ a. reader.posts 100 e a.1 >>= λ b. paired a.0 b) ≡ chained e r
    of (Ok a) = inner a.0 (reader.posts 100 e a.1)
    of (Err f) = refl

pub chain_word : (e c : Reader Tree) (ts : List Word)
    → by_word (λ w. chain_arm e (atom_arm e c w)) ts ≡ chained e (by_word (atom_arm e c) ts)
chain_word e c [] = refl
chain_word e c (w ∷ ts) = chain e (atom_arm e c w) w ts

fails_chained : (s : Stop) (e : Reader Tree) (r : Read Tree) → Fails s r → Fails s (chained e r)
fails_chained stops.Memory e r f = tt
fails_chained (stops.Fault deep left) e r f = rw f refl

pub arm_fails : (s : Stop) (e : Reader Tree) (arm : Arm Tree) (w : Word) (ts : List Word) → Fails s (by_arm arm w ts) → Fails s (by_arm (chain_arm e arm) w ts)
arm_fails s e arm w ts f = subst (Fails s) (sym (chain e arm w ts)) (fails_chained s e (by_arm arm w ts) f)

pub word_fails : (s : Stop) (e c : Reader Tree) (ts : List Word) → Fails s (by_word (atom_arm e c) ts) → Fails s (by_word (λ w. chain_arm e (atom_arm e c w)) ts)
word_fails s e c ts f = subst (Fails s) (sym (chain_word e c ts)) (fails_chained s e (by_word (atom_arm e c) ts) f)

-- an atom was read: what is left to read are its postfixes
pub with_posts : (e c : Reader Tree) (ts after : List Word) (a : Tree)
    → by_word (atom_arm e c) ts ≡ Ok (a, after) → by_word (λ w. chain_arm e (atom_arm e c w)) ts ≡ onto a (reader.posts 100 e after)
with_posts e c ts after a f = chain_word e c ts ∙ ap (chained e) f

-- the postfixes were read as well
pub posts_read : (e : Reader Tree) (ts rest : List Word) (a t : Tree) (ps : List PlainPost)
    → reader.posts 100 e ts ≡ Ok (map read_post ps, rest) → t ≡ plain.posted a ps → onto a (reader.posts 100 e ts) ≡ Ok (t, rest)
posts_read e ts rest a t ps g is = ap (onto a) g ∙ ap (λ z. Ok (z, rest)) (read_all a ps ∙ sym is)

-- ---- where no level is left

no_deep : (lexeme : Lexeme) → at lexicon.is_deep (word lexeme) ≡ false
no_deep (code.Key k p) = refl
no_deep (code.Lower n) = refl
no_deep (code.Upper n) = refl
no_deep (code.Number n) = refl
no_deep (code.Big n) = refl
no_deep (code.Literal n) = refl
no_deep (code.Mark m) = refl

pub none_left : (ls : List Lexeme) → reader.no_expression (words ls) ≡ Err (record { too_deep = true; left = length (words ls) })
none_left [] = refl
none_left (l ∷ ls) = rw (no_deep l) refl

pub no_json_left : (ls : List Lexeme) → reader.no_json (words ls) ≡ Err (record { too_deep = true; left = length (words ls) })
no_json_left [] = refl
no_json_left (l ∷ ls) = rw (no_deep l) refl

pub expression_none : (s : Stop) (ls : List Lexeme) → s ≡ stops.Fault true (length (words ls)) → Fails s (reader.expression 0 (words ls))
unfolding level
expression_none s ls e = subst (λ x. Fails x (reader.no_expression (words ls))) (sym e) (none_left ls)

pub json_none : (s : Stop) (ls : List Lexeme) → s ≡ stops.Fault true (length (words ls)) → Fails s (reader.json_value 0 (words ls))
unfolding json_value
json_none s ls e = subst (λ x. Fails x (reader.no_json (words ls))) (sym e) (no_json_left ls)

pub child_none : (s : Stop) (ls : List Word) → Fails s (by_word reader.no_element_arm ls) → Fails s (reader.child_element 0 ls)
unfolding level
child_none s ls f = f
