-- Texts that are written item by item.
use Rattle.std.proofs.Common.{◌≡◌, ◌<◌, ℕ, suc, ◌+◌, nat_eq, false, codes, List, [], ◌∷◌, ◌++◌, map, length, take, get_or, refl, sym, ◌∙◌, ap, arith, append_assoc, add-zero, append-nil}
use Rattle.std.specs.List.{flat_map}
use Rattle.std.proofs.lemmas.List.{take_more, map-append, length-map, length-take-le}
use Rattle.std.proofs.lemmas.Bool.Decides.{nat_tests}
use Rattle.std.proofs.lemmas.Grind.{flat_map-append}
use Rattle.flight_value.specs.declared.graph.Node.{Node}
use Rattle.flight_graph.specs.Text.{commas, line_text, lines_from}
use Rattle.flight_graph.specs.Writing.{comma_before}

-- one more item behind others
pub commas-snoc : {A : Type 0} (text : A → List ℕ) (xs : List A) (x : A) → commas text (xs ++ x ∷ []) ≡ commas text xs ++ (comma_before (length xs) ++ text x)
commas-snoc text [] x = append-nil (text x)
commas-snoc text (y ∷ xs) x =
    let test : nat_eq (suc (length xs)) 0 ≡ false = grind (arith, nat_tests) in
    let comma : comma_before (suc (length xs)) ≡ codes "," = rw test refl in
    ap (λ z. text y ++ z) (flat_map-append (λ z. codes "," ++ text z) xs (x ∷ []) ∙ ap (λ z. flat_map (λ z. codes "," ++ text z) xs ++ z) (append-nil (codes "," ++ text x)))
    ∙ (sym (append_assoc (text y) (flat_map (λ z. codes "," ++ text z) xs) (codes "," ++ text x))
    ∙ ap (λ z. commas text (y ∷ xs) ++ (z ++ text x)) (sym comma))

pub lines-snoc : (n : ℕ) (xs : List Node) (x : Node) → lines_from n (xs ++ x ∷ []) ≡ lines_from n xs ++ line_text (n + length xs) x
lines-snoc n [] x = append-nil (line_text n x) ∙ ap (λ k. line_text k x) (sym (add-zero n))
lines-snoc n (y ∷ xs) x =
    let count : n + 1 + length xs ≡ n + suc (length xs) = omega arith in
    ap (λ z. line_text n y ++ z) (lines-snoc (n + 1) xs x)
    ∙ (sym (append_assoc (line_text n y) (lines_from (n + 1) xs) (line_text (n + 1 + length xs) x))
    ∙ ap (λ k. lines_from n (y ∷ xs) ++ line_text k x) count)

-- the front of a list, with one more
front_more : {A B : Type 0} (f : A → B) (xs : List A) (i : ℕ) (x : A) → i < length xs → x ≡ get_or xs i x → map f (take (i + 1) xs) ≡ map f (take i xs) ++ f x ∷ []
front_more f xs i x within e = ap (map f) (take_more xs i x within ∙ ap (λ y. take i xs ++ y ∷ []) (sym e)) ∙ map-append f (take i xs) (x ∷ [])

front_length : {A B : Type 0} (f : A → B) (xs : List A) (i : ℕ) → i < length xs → length (map f (take i xs)) ≡ i
front_length f xs i within = length-map (take i xs) f ∙ length-take-le i xs (omega (arith, within))

appended : (out start old more new : List ℕ) → out ≡ start ++ old → new ≡ out ++ more → new ≡ start ++ (old ++ more)
appended out start old more new e h = h ∙ (ap (λ x. x ++ more) e ∙ append_assoc start old more)

pub commas_more : {A B : Type 0} (f : A → B) (text : B → List ℕ) (xs : List A) (i : ℕ) (x : A) (start out between new : List ℕ) → i < length xs → x ≡ get_or xs i x → out ≡ start ++ commas text (map f (take i xs)) → between ≡ out ++ comma_before i → new ≡ between ++ text (f x) → new ≡ start ++ commas text (map f (take (i + 1) xs))
commas_more f text xs i x start out between new within e so_far comma item =
    appended out start (commas text (map f (take i xs))) (comma_before i ++ text (f x)) new so_far (item ∙ (ap (λ y. y ++ text (f x)) comma ∙ append_assoc out (comma_before i) (text (f x))))
    ∙ ap (λ y. start ++ y) (
    ap (λ k. commas text (map f (take i xs)) ++ (comma_before k ++ text (f x))) (sym (front_length f xs i within))
    ∙ (sym (commas-snoc text (map f (take i xs)) (f x)) ∙ ap (commas text) (sym (front_more f xs i x within e)))
    )

pub lines_more : (f : ℕ → Node) (xs : List ℕ) (i : ℕ) (start out new : List ℕ) → i < length xs → out ≡ start ++ lines_from 0 (map f (take i xs)) → new ≡ out ++ line_text i (f (get_or xs i 0)) → new ≡ start ++ lines_from 0 (map f (take (i + 1) xs))
lines_more f xs i start out new within so_far line =
    let count : i ≡ 0 + length (map f (take i xs)) = let k = front_length f xs i within in omega (arith, k) in
    let front : map f (take (i + 1) xs) ≡ map f (take i xs) ++ f (get_or xs i 0) ∷ [] = ap (map f) (take_more xs i 0 within) ∙ map-append f (take i xs) (get_or xs i 0 ∷ []) in
    appended out start (lines_from 0 (map f (take i xs))) (line_text i (f (get_or xs i 0))) new so_far line
    ∙ ap (λ y. start ++ y) (
    ap (λ k. lines_from 0 (map f (take i xs)) ++ line_text k (f (get_or xs i 0))) count
    ∙ (sym (lines-snoc 0 (map f (take i xs)) (f (get_or xs i 0))) ∙ ap (lines_from 0) (sym front))
    )
