-- What is written part by part.
use Rattle.std.proofs.Common.{◌≡◌, ℕ, suc, ◌+◌, ◌<◌, ◌≤◌, ◌==◌, nat_lt, Bool, true, false, List, [], ◌∷◌, ◌++◌, length, map, drop, get_or, Option, Some, None, refl, sym, ap, ap₂, ◌∙◌, arith, append_assoc, append-nil, codes}
use Rattle.std.specs.Prelude.{OnOk}
use Rattle.std.specs.declared.result.Result.{Result}
use Rattle.std.specs.declared.result.Result.TheVariants.{Ok, Err}
use Rattle.std.proofs.Math.Seq.{drop-cons}
use Rattle.std.proofs.Math.ListN.{drop_of_length-le}
use Rattle.std.proofs.lemmas.Bool.{false≢true}
use Rattle.std.proofs.lemmas.Bool.Decides.{nat_tests}
use Rattle.flight_syntax.specs.declared.expr.Op.{Op}
use Rattle.flight_syntax.specs.declared.expr.Tag.{Tag}
use Rattle.flight_syntax.specs.declared.expr.Expr as expr
use Rattle.flight_syntax.specs.declared.expr.Expr.{Expr}
use Rattle.flight_syntax.specs.declared.expr.PropExpr.{PropExpr}
use Rattle.flight_syntax.specs.declared.expr.PairExpr.{PairExpr}
use Rattle.flight_syntax.specs.declared.expr.Postfix.{Postfix}
use Rattle.flight_syntax.specs.declared.program.Declared.{Declared}
use Rattle.flight_syntax.specs.Derives.{said}
use Rattle.flight_syntax.specs.Term.{Term, Terms, term, prop, pair, post, terms_of, props_of, pairs_of, no_terms, term_and}
use Rattle.flight_syntax.proofs.Terms.{term-Postfixed, term-Array, term-Object, term-Map, term-Set, term-Source, term-Promise, term-Stream, term-Action, term-Paren, term-Binary, term-Element}
use Rattle.flight_print.specs.Text.{word, literal, comma_if, op_text, tag_name, name_at, shape_of, given_text, child_text, term_text, terms_text, props_text, pairs_text, attrs_text, children_text, each_text, said_name, program_text}
use Rattle.flight_print.specs.Scope.{declared_names, post_text, posts_text, prop_text, pair_text, attr_text, ending_text}
use Rattle.flight_print.proofs.Posts.{posted_text}
use Rattle.flight_print.proofs.Trees.{grouped_five}

-- ---- the last part

pub tail_one : {A E : Type 0} (r : Result A E) (new old a whole : List ℕ) → OnOk r (new ≡ old ++ a) → a ≡ whole → OnOk r (new ≡ old ++ whole)
tail_one (Ok x) new old a whole h e = h ∙ ap (λ z. old ++ z) e
tail_one (Err x) new old a whole h e = tt

pub tail_two : {A E : Type 0} (r : Result A E) (new first old a b whole : List ℕ) → first ≡ old ++ a → OnOk r (new ≡ first ++ b) → a ++ b ≡ whole → OnOk r (new ≡ old ++ whole)
tail_two (Ok x) new first old a b whole f h e = h ∙ (ap (λ z. z ++ b) f ∙ (append_assoc old a b ∙ ap (λ z. old ++ z) e))
tail_two (Err x) new first old a b whole f h e = tt

pub tail_three : {A E : Type 0} (r : Result A E) (new second first old a b c whole : List ℕ) → first ≡ old ++ a → second ≡ first ++ b → OnOk r (new ≡ second ++ c) → a ++ (b ++ c) ≡ whole → OnOk r (new ≡ old ++ whole)
tail_three r new second first old a b c whole f g h e = tail_two r new second old (a ++ b) c whole (g ∙ (ap (λ z. z ++ b) f ∙ append_assoc old a b)) h (append_assoc a b c ∙ e)

pub tail_four : {A E : Type 0} (r : Result A E) (new third second first old a b c d whole : List ℕ) → first ≡ old ++ a → second ≡ first ++ b → third ≡ second ++ c → OnOk r (new ≡ third ++ d) → a ++ (b ++ (c ++ d)) ≡ whole → OnOk r (new ≡ old ++ whole)
tail_four r new third second first old a b c d whole f g h k e = tail_three r new third second old (a ++ b) c d whole (g ∙ (ap (λ z. z ++ b) f ∙ append_assoc old a b)) h k (append_assoc a b (c ++ d) ∙ e)

-- ---- loops

-- the items that are left, one turn later
left_over : {X : Type 0} (items : List X) (i : ℕ) (x d : X) → i < length items → x ≡ get_or items i d → drop i items ≡ x ∷ drop (i + 1) items
left_over items i x d l is =
    let e : suc i ≡ i + 1 = omega arith in
    drop-cons items i d l ∙ ap₂ (λ a b. a ∷ drop b items) (sym is) e

-- a turn of a loop that writes an item
pub turn : {X : Type 0} (F : List X → List ℕ) (f : X → List ℕ) → ((x : X) (xs : List X) → F (x ∷ xs) ≡ f x ++ F xs) → (items : List X) (i : ℕ) (x d : X) → i < length items → x ≡ get_or items i d
    → (out new total : List ℕ) → out ++ F (drop i items) ≡ total → new ≡ out ++ f x → new ++ F (drop (i + 1) items) ≡ total
turn F f step items i x d l is out new total inv e =
    ap (λ z. z ++ F (drop (i + 1) items)) e
    ∙ (append_assoc out (f x) (F (drop (i + 1) items))
    ∙ (ap (λ z. out ++ z) (sym (step x (drop (i + 1) items)) ∙ ap F (sym (left_over items i x d l is))) ∙ inv))

-- its end
pub done : {X : Type 0} (F : List X → List ℕ) → F [] ≡ [] → (items : List X) (i : ℕ) → length items ≤ i → (out total : List ℕ) → out ++ F (drop i items) ≡ total → out ≡ total
done F none items i l out total inv = sym (append-nil out) ∙ (ap (λ z. out ++ z) (sym none ∙ ap F (sym (drop_of_length-le items l))) ∙ inv)

-- the same with commas between
later_is : (i : ℕ) → nat_lt 0 (i + 1) ≡ true
later_is i = grind (arith, nat_tests)

pub comma_turn : {X : Type 0} (F : Bool → List X → List ℕ) (f : X → List ℕ) → ((b : Bool) (x : X) (xs : List X) → F b (x ∷ xs) ≡ comma_if b ++ (f x ++ F true xs)) → (items : List X) (i : ℕ) (x d : X) → i < length items → x ≡ get_or items i d
    → (b : Bool) → b ≡ nat_lt 0 i → (out comma new total : List ℕ) → out ++ F (nat_lt 0 i) (drop i items) ≡ total → comma ≡ out ++ comma_if b → new ≡ comma ++ f x → new ++ F (nat_lt 0 (i + 1)) (drop (i + 1) items) ≡ total
comma_turn F f step items i x d l is b later out comma new total inv e g =
    let rest = drop (i + 1) items in
    ap (λ z. new ++ F z rest) (later_is i)
    ∙ (ap (λ z. z ++ F true rest) g
    ∙ (append_assoc comma (f x) (F true rest)
    ∙ (ap (λ z. z ++ (f x ++ F true rest)) (e ∙ ap (λ z. out ++ comma_if z) later)
    ∙ (append_assoc out (comma_if (nat_lt 0 i)) (f x ++ F true rest)
    ∙ (ap (λ z. out ++ z) (sym (step (nat_lt 0 i) x rest) ∙ ap (F (nat_lt 0 i)) (sym (left_over items i x d l is))) ∙ inv)))))

-- ---- the lists

module _ (names scope : List (List ℕ)) where
  abbrev pub items_in : Bool → List Expr → List ℕ
  items_in later items = terms_text names scope later (terms_of (map term items))

  pub items_step : (b : Bool) (x : Expr) (xs : List Expr) → items_in b (x ∷ xs) ≡ comma_if b ++ (term_text names scope (term x) ++ items_in true xs)
  items_step b x xs = refl

  abbrev pub props_in : Bool → List PropExpr → List ℕ
  props_in later props = props_text names scope later (props_of (map prop props))

  pub props_step : (b : Bool) (x : PropExpr) (xs : List PropExpr) → props_in b (x ∷ xs) ≡ comma_if b ++ (prop_text names scope (prop x) ++ props_in true xs)
  props_step b x xs =
      ap (λ z. comma_if b ++ z) (sym (append_assoc (literal (prop x).0) (word (codes ":") ++ term_text names scope (prop x).1) (props_in true xs) ∙ ap (λ z. literal (prop x).0 ++ z) (append_assoc (word (codes ":")) (term_text names scope (prop x).1) (props_in true xs))))

  abbrev pub pairs_in : Bool → List PairExpr → List ℕ
  pairs_in later pairs = pairs_text names scope later (pairs_of (map pair pairs))

  pub pairs_step : (b : Bool) (x : PairExpr) (xs : List PairExpr) → pairs_in b (x ∷ xs) ≡ comma_if b ++ (pair_text names scope (pair x) ++ pairs_in true xs)
  pairs_step b x xs = ap (λ z. comma_if b ++ z) (sym (grouped_five (word (codes "[")) (term_text names scope (pair x).0) (word (codes ",")) (term_text names scope (pair x).1) (word (codes "]")) (pairs_in true xs)))

  abbrev pub attrs_in : List PropExpr → List ℕ
  attrs_in attrs = attrs_text names scope (props_of (map prop attrs))

  pub attrs_step : (x : PropExpr) (xs : List PropExpr) → attrs_in (x ∷ xs) ≡ attr_text names scope (prop x) ++ attrs_in xs
  attrs_step x xs =
      let value = given_text (shape_of (prop x).1) (term_text names scope (prop x).1) in
      sym (append_assoc (prop x).0 (word (codes "=") ++ value) (attrs_in xs) ∙ ap (λ z. (prop x).0 ++ z) (append_assoc (word (codes "=")) value (attrs_in xs)))

  abbrev pub children_in : List Expr → List ℕ
  children_in children = children_text names scope (terms_of (map term children))

  abbrev pub child_in : Expr → List ℕ
  child_in x = child_text (shape_of (term x)) (term_text names scope (term x))

  pub children_step : (x : Expr) (xs : List Expr) → children_in (x ∷ xs) ≡ child_in x ++ children_in xs
  children_step x xs = refl

  abbrev pub posts_in : List Postfix → List ℕ
  posts_in posts = posts_text names scope (map post posts)

  pub posts_step : (x : Postfix) (xs : List Postfix) → posts_in (x ∷ xs) ≡ post_text names scope (post x) ++ posts_in xs
  posts_step x xs = refl

  -- ---- the productions

  pub postfixed_text : (e of : Expr) (posts slice : List Postfix) (inner : Expr) → e ≡ expr.Postfixed of posts → inner ≡ of → slice ≡ posts → term_text names scope (term inner) ++ posts_in slice ≡ term_text names scope (term e)
  postfixed_text e of posts slice inner is same all =
      sym (ap (λ z. term_text names scope (term z)) is ∙ (ap (term_text names scope) (term-Postfixed of posts) ∙ (posted_text names scope (term of) (map post posts) ∙ ap₂ (λ a b. term_text names scope (term a) ++ posts_in b) (sym same) (sym all))))

  pub array_text : (e : Expr) (items slice : List Expr) → e ≡ expr.Array items → slice ≡ items → word (codes "[") ++ (items_in false slice ++ word (codes "]")) ≡ term_text names scope (term e)
  array_text e items slice is all = ap (λ z. word (codes "[") ++ (items_in false z ++ word (codes "]"))) all ∙ sym (ap (λ z. term_text names scope (term z)) is ∙ ap (term_text names scope) (term-Array items))

  pub object_text : (e : Expr) (props slice : List PropExpr) → e ≡ expr.Object props → slice ≡ props → word (codes "{") ++ (props_in false slice ++ word (codes "}")) ≡ term_text names scope (term e)
  object_text e props slice is all = ap (λ z. word (codes "{") ++ (props_in false z ++ word (codes "}"))) all ∙ sym (ap (λ z. term_text names scope (term z)) is ∙ ap (term_text names scope) (term-Object props))

  pub map_text : (e : Expr) (pairs slice : List PairExpr) → e ≡ expr.Map pairs → slice ≡ pairs → word (codes "map") ++ (word (codes "[") ++ (pairs_in false slice ++ word (codes "]"))) ≡ term_text names scope (term e)
  map_text e pairs slice is all = ap (λ z. word (codes "map") ++ (word (codes "[") ++ (pairs_in false z ++ word (codes "]")))) all ∙ sym (ap (λ z. term_text names scope (term z)) is ∙ ap (term_text names scope) (term-Map pairs))

  pub set_text : (e : Expr) (items slice : List Expr) → e ≡ expr.Set items → slice ≡ items → word (codes "set") ++ (word (codes "[") ++ (items_in false slice ++ word (codes "]"))) ≡ term_text names scope (term e)
  set_text e items slice is all = ap (λ z. word (codes "set") ++ (word (codes "[") ++ (items_in false z ++ word (codes "]")))) all ∙ sym (ap (λ z. term_text names scope (term z)) is ∙ ap (term_text names scope) (term-Set items))

  pub source_text : (e : Expr) (name : List ℕ) → e ≡ expr.Source name → word (codes "use") ++ word name ≡ term_text names scope (term e)
  source_text e name is = sym (ap (λ z. term_text names scope (term z)) is ∙ ap (term_text names scope) (term-Source name))

  pub promise_text : (e : Expr) (name : List ℕ) → e ≡ expr.Promise name → word (codes "promise") ++ word name ≡ term_text names scope (term e)
  promise_text e name is = sym (ap (λ z. term_text names scope (term z)) is ∙ ap (term_text names scope) (term-Promise name))

  pub stream_text : (e : Expr) (name : List ℕ) → e ≡ expr.Stream name → word (codes "stream") ++ word name ≡ term_text names scope (term e)
  stream_text e name is = sym (ap (λ z. term_text names scope (term z)) is ∙ ap (term_text names scope) (term-Stream name))

  pub action_text : (e : Expr) (number : ℕ) (bound : Option (List Expr)) (name : List ℕ) → e ≡ expr.Action number bound → bound ≡ None → name ≡ name_at names number → word (codes "action") ++ word name ≡ term_text names scope (term e)
  action_text e number bound name is none same =
      ap (λ z. word (codes "action") ++ word z) same ∙ sym (ap (λ z. term_text names scope (term z)) (is ∙ ap (expr.Action number) none) ∙ ap (term_text names scope) (term-Action number None))

  action_with_parts : (e : Expr) (number : ℕ) (bound : Option (List Expr)) (name : List ℕ) (items slice : List Expr) → e ≡ expr.Action number bound → bound ≡ Some items → slice ≡ items → name ≡ name_at names number
      → word (codes "action") ++ (word name ++ (word (codes "with") ++ (word (codes "[") ++ (items_in false slice ++ word (codes "]"))))) ≡ term_text names scope (term e)
  action_with_parts e number bound name items slice is some all same =
      ap₂ (λ y z. word (codes "action") ++ (word y ++ (word (codes "with") ++ (word (codes "[") ++ (items_in false z ++ word (codes "]")))))) same all
      ∙ sym (ap (λ z. term_text names scope (term z)) (is ∙ ap (expr.Action number) some) ∙ ap (term_text names scope) (term-Action number (Some items)))

  pub action_with_text : (e : Expr) (number : ℕ) (bound : Option (List Expr)) (name : List ℕ) (items slice : List Expr) → e ≡ expr.Action number bound → bound ≡ Some items → slice ≡ items → name ≡ name_at names number
      → (word (codes "action") ++ word name) ++ (word (codes "with") ++ (word (codes "[") ++ (items_in false slice ++ word (codes "]")))) ≡ term_text names scope (term e)
  action_with_text e number bound name items slice is some all same =
      append_assoc (word (codes "action")) (word name) (word (codes "with") ++ (word (codes "[") ++ (items_in false slice ++ word (codes "]")))) ∙ action_with_parts e number bound name items slice is some all same

  pub paren_text : (e inside inner : Expr) → e ≡ expr.Paren inside → inner ≡ inside → (word (codes "(") ++ term_text names scope (term inner)) ++ word (codes ")") ≡ term_text names scope (term e)
  paren_text e inside inner is same = append_assoc (word (codes "(")) (term_text names scope (term inner)) (word (codes ")")) ∙ ap (λ z. word (codes "(") ++ (term_text names scope (term z) ++ word (codes ")"))) same ∙ sym (ap (λ z. term_text names scope (term z)) is ∙ ap (term_text names scope) (term-Paren inside))

  binary_parts : (e left right l r : Expr) (o : Op) (mark : List ℕ) → e ≡ expr.Binary o left right → l ≡ left → r ≡ right → mark ≡ op_text o
      → word (codes "(") ++ (term_text names scope (term l) ++ (word mark ++ (term_text names scope (term r) ++ word (codes ")")))) ≡ term_text names scope (term e)
  binary_parts e left right l r o mark is p q m =
      ap (λ z. word (codes "(") ++ (term_text names scope (term z) ++ (word mark ++ (term_text names scope (term r) ++ word (codes ")"))))) p
      ∙ (ap (λ z. word (codes "(") ++ (term_text names scope (term left) ++ (word mark ++ (term_text names scope (term z) ++ word (codes ")"))))) q
      ∙ (ap (λ z. word (codes "(") ++ (term_text names scope (term left) ++ (word z ++ (term_text names scope (term right) ++ word (codes ")"))))) m
      ∙ sym (ap (λ z. term_text names scope (term z)) is ∙ ap (term_text names scope) (term-Binary o left right))))

  pub binary_text : (e left right l r : Expr) (o : Op) (mark : List ℕ) → e ≡ expr.Binary o left right → l ≡ left → r ≡ right → mark ≡ op_text o
      → (word (codes "(") ++ term_text names scope (term l)) ++ ((word mark ++ term_text names scope (term r)) ++ word (codes ")")) ≡ term_text names scope (term e)
  binary_text e left right l r o mark is p q m =
      let a = word (codes "(") in
      let b = term_text names scope (term l) in
      let close = word (codes ")") in
      let more = term_text names scope (term r) in
      ap (λ z. (a ++ b) ++ z) (append_assoc (word mark) more close) ∙ (append_assoc a b (word mark ++ (more ++ close)) ∙ binary_parts e left right l r o mark is p q m)

  element_whole : (named : Tag) (attrs : List PropExpr) (children : Terms) → word (codes "<") ++ (word (tag_name names named) ++ (attrs_in attrs ++ ending_text names scope named children)) ≡ term_text names scope (Rattle.flight_syntax.specs.Term.element named (props_of (map prop attrs)) children)
  element_whole named attrs no_terms = refl
  element_whole named attrs (term_and first rest) = refl

  element_parts : (e : Expr) (named tag : Tag) (attrs props : List PropExpr) (children cs : List Expr) (name : List ℕ) → e ≡ expr.Element named attrs children → tag ≡ named → props ≡ attrs → cs ≡ children → name ≡ tag_name names named
      → word (codes "<") ++ (word name ++ (attrs_in props ++ ending_text names scope tag (terms_of (map term cs)))) ≡ term_text names scope (term e)
  element_parts e named tag attrs props children cs name is t p q n =
      ap₂ (λ y z. word (codes "<") ++ (word y ++ (attrs_in z ++ ending_text names scope tag (terms_of (map term cs))))) n p
      ∙ (ap₂ (λ y z. word (codes "<") ++ (word (tag_name names named) ++ (attrs_in attrs ++ ending_text names scope y (terms_of (map term z))))) t q
      ∙ (element_whole named attrs (terms_of (map term children)) ∙ sym (ap (λ z. term_text names scope (term z)) is ∙ ap (term_text names scope) (term-Element named attrs children))))

  pub element_text : (e : Expr) (named tag : Tag) (attrs props : List PropExpr) (children cs : List Expr) (name : List ℕ) → e ≡ expr.Element named attrs children → tag ≡ named → props ≡ attrs → cs ≡ children → name ≡ tag_name names named
      → (word (codes "<") ++ word name) ++ (attrs_in props ++ ending_text names scope tag (terms_of (map term cs))) ≡ term_text names scope (term e)
  element_text e named tag attrs props children cs name is t p q n =
      append_assoc (word (codes "<")) (word name) (attrs_in props ++ ending_text names scope tag (terms_of (map term cs))) ∙ element_parts e named tag attrs props children cs name is t p q n

  ending_parts : (tag : Tag) (children : List Expr) (b : Bool) (name : List ℕ) → b ≡ (length children == 0) → b ≡ false → name ≡ tag_name names tag
      → word (codes ">") ++ (children_in children ++ (word (codes "</") ++ (word name ++ word (codes ">")))) ≡ ending_text names scope tag (terms_of (map term children))
  ending_parts tag [] b name e f n = absurd (false≢true (sym f ∙ e))
  ending_parts tag (x ∷ xs) b name e f n = ap (λ z. word (codes ">") ++ (children_in (x ∷ xs) ++ (word (codes "</") ++ (word z ++ word (codes ">"))))) n

  pub ending_whole : (tag : Tag) (children : List Expr) (b : Bool) (name : List ℕ) → b ≡ (length children == 0) → b ≡ false → name ≡ tag_name names tag
      → word (codes ">") ++ (children_in children ++ ((word (codes "</") ++ word name) ++ word (codes ">"))) ≡ ending_text names scope tag (terms_of (map term children))
  ending_whole tag children b name e f n =
      ap (λ z. word (codes ">") ++ (children_in children ++ z)) (append_assoc (word (codes "</")) (word name) (word (codes ">"))) ∙ ending_parts tag children b name e f n

-- ---- programs

names_mapped : (declared : List Declared) → map said_name (map said declared) ≡ declared_names declared
names_mapped [] = refl
names_mapped (d ∷ declared) = ap (λ z. said_name (said d) ∷ z) (names_mapped declared)

pub program_written : (declared : List Declared) → each_text (declared_names declared) (map said declared) ≡ program_text (map said declared)
program_written declared = ap (λ z. each_text z (map said declared)) (sym (names_mapped declared))
