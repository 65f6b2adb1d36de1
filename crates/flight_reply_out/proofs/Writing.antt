-- What is written grows item by item.
use Rattle.std.proofs.Common.{◌≡◌, ℕ, suc, ◌+◌, ◌<◌, List, [], ◌∷◌, ◌++◌, length, take, get_or, sym, ap, ◌∙◌, arith, append_assoc, append-nil}
use Rattle.std.proofs.lemmas.List.{take_more, length-take}
use Rattle.json.specs.Token.{Token}
use Rattle.json.specs.Token as token
use Rattle.flight_payload.specs.Tree.{Tree, trees_of, props_of}
use Rattle.flight_payload.specs.Written.{tokens_of, tree_tokens, prop_tokens}
use Rattle.flight_reply_out.specs.Fields.{numbered}

abbrev pub items_tokens : {A : Type 0} → (ℕ → A → Tree) → ℕ → List A → List Token
items_tokens f k xs = tree_tokens (trees_of (numbered f k xs))

abbrev pub props_tokens : {A : Type 0} → (ℕ → A → List ℕ × Tree) → ℕ → List A → List Token
props_tokens f k xs = prop_tokens (props_of (numbered f k xs))

abbrev prop_text : List ℕ × Tree → List Token
prop_text p = token.key p.0 ∷ tokens_of p.1

module _ {A : Type 0} where
  items_last : (f : ℕ → A → Tree) (k : ℕ) (xs : List A) (x : A) → items_tokens f k (xs ++ x ∷ []) ≡ items_tokens f k xs ++ tokens_of (f (k + length xs) x)
  items_last f k [] x = let e : k + 0 ≡ k = omega arith in append-nil (tokens_of (f k x)) ∙ ap (λ i. tokens_of (f i x)) (sym e)
  items_last f k (y ∷ ys) x =
      let e : suc k + length ys ≡ k + suc (length ys) = omega arith in
      ap (λ ts. tokens_of (f k y) ++ ts) (items_last f (suc k) ys x ∙ ap (λ i. items_tokens f (suc k) ys ++ tokens_of (f i x)) e)
      ∙ sym (append_assoc (tokens_of (f k y)) (items_tokens f (suc k) ys) (tokens_of (f (k + suc (length ys)) x)))

  props_last : (f : ℕ → A → List ℕ × Tree) (k : ℕ) (xs : List A) (x : A) → props_tokens f k (xs ++ x ∷ []) ≡ props_tokens f k xs ++ prop_text (f (k + length xs) x)
  props_last f k [] x =
      let e : k + 0 ≡ k = omega arith in
      ap (λ ts. token.key (f k x).0 ∷ ts) (append-nil (tokens_of (f k x).1)) ∙ ap (λ i. prop_text (f i x)) (sym e)
  props_last f k (y ∷ ys) x =
      let e : suc k + length ys ≡ k + suc (length ys) = omega arith in
      ap (λ ts. token.key (f k y).0 ∷ (tokens_of (f k y).1 ++ ts)) (props_last f (suc k) ys x ∙ ap (λ i. props_tokens f (suc k) ys ++ prop_text (f i x)) e)
      ∙ ap (λ ts. token.key (f k y).0 ∷ ts) (sym (append_assoc (tokens_of (f k y).1) (props_tokens f (suc k) ys) (prop_text (f (k + suc (length ys)) x))))

  taken : (xs : List A) (i : ℕ) (x : A) → i < length xs → x ≡ get_or xs i x → take (i + 1) xs ≡ take i xs ++ x ∷ []
  taken xs i x lt is = take_more xs i x lt ∙ ap (λ y. take i xs ++ y ∷ []) (sym is)

  -- the next item
  pub items_next : (f : ℕ → A → Tree) (xs : List A) (i : ℕ) (x : A) (start now next : List Token) → i < length xs → x ≡ get_or xs i x → now ≡ start ++ token.begin_array ∷ items_tokens f 0 (take i xs) → next ≡ now ++ tokens_of (f i x)
      → next ≡ start ++ token.begin_array ∷ items_tokens f 0 (take (i + 1) xs)
  items_next f xs i x start now next lt is e g =
      let count : 0 + length (take i xs) ≡ i = let h = length-take i xs in omega (arith, h) in
      let more : items_tokens f 0 (take (i + 1) xs) ≡ items_tokens f 0 (take i xs) ++ tokens_of (f i x) =
      ap (items_tokens f 0) (taken xs i x lt is) ∙ (items_last f 0 (take i xs) x ∙ ap (λ n. items_tokens f 0 (take i xs) ++ tokens_of (f n x)) count) in
      g ∙ (ap (λ ts. ts ++ tokens_of (f i x)) e ∙ (append_assoc start (token.begin_array ∷ items_tokens f 0 (take i xs)) (tokens_of (f i x)) ∙ ap (λ ts. start ++ token.begin_array ∷ ts) (sym more)))

  -- the next property
  pub props_next : (f : ℕ → A → List ℕ × Tree) (xs : List A) (i : ℕ) (x : A) (start now named next : List Token) → i < length xs → x ≡ get_or xs i x → now ≡ start ++ token.begin_object ∷ props_tokens f 0 (take i xs) → named ≡ now ++ token.key (f i x).0 ∷ []
      → next ≡ named ++ tokens_of (f i x).1 → next ≡ start ++ token.begin_object ∷ props_tokens f 0 (take (i + 1) xs)
  props_next f xs i x start now named next lt is e n g =
      let count : 0 + length (take i xs) ≡ i = let h = length-take i xs in omega (arith, h) in
      let more : props_tokens f 0 (take (i + 1) xs) ≡ props_tokens f 0 (take i xs) ++ prop_text (f i x) =
      ap (props_tokens f 0) (taken xs i x lt is) ∙ (props_last f 0 (take i xs) x ∙ ap (λ n. props_tokens f 0 (take i xs) ++ prop_text (f n x)) count) in
      g
      ∙ (ap (λ ts. ts ++ tokens_of (f i x).1) n
      ∙ (append_assoc now (token.key (f i x).0 ∷ []) (tokens_of (f i x).1)
      ∙ (ap (λ ts. ts ++ prop_text (f i x)) e
      ∙ (append_assoc start (token.begin_object ∷ props_tokens f 0 (take i xs)) (prop_text (f i x)) ∙ ap (λ ts. start ++ token.begin_object ∷ ts) (sym more)))))
