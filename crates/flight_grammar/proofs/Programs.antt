-- The reader of programs is exact, and what it gives is what the words come to.
use Rattle.std.proofs.Common.{◌≡◌, ℕ, Bool, true, false, inl, inr, List, [], ◌∷◌, ◌++◌, Option, Ok, Err, refl, sym, ap, subst, ◌∙◌, append_assoc, codes}
use Rattle.std.proofs.lemmas.List.{append-nil}
use Rattle.json.specs.Json.{Json}
use Rattle.flight_syntax.specs.declared.word.Keyword.TheVariants.{Server, Client, Action}
use Rattle.flight_syntax.specs.declared.word.Punctuator.TheVariants.{OpenParen, CloseParen, Semicolon, Assign}
use Rattle.flight_syntax.specs.Lexicon.{Word, key, Placed, Phrase, ◌▸◌, one, is_key, is_mark, sign, lower_of, component_of}
use Rattle.flight_syntax.specs.Tree.{Tree, Declaration, server, client_is, action_is}
use Rattle.flight_syntax.specs.Grammar.{most_levels, Parameters, DeclaresTo, DeclaresAllTo, DeclaresAll}
use Rattle.flight_grammar.specs.Reading.{Read, Reader, ◌>>=◌, at, want, both, many}
use Rattle.flight_grammar.specs.Reader.{parameters, body_to, import_to, declaration_arm_to, declaration_to, starts_declaration, ended, program}
use Rattle.flight_grammar.specs.Verdict.{Verdict}
use Rattle.flight_grammar.proofs.Exact.{Closed, HasHead, Near, Exact, never, closed_near, meek_none, ok_is, exact_for}
use Rattle.flight_grammar.proofs.Parts.{Seq, Image, exact_made, ByWord, IsArm, Limit, Arms, exact_word, exact_want, Terminal}
use Rattle.flight_grammar.proofs.Choices.{IsEager, IsStop, eager_word, Lead, Trail, after_word, word_and, part_and, up_to, joins_never}
use Rattle.flight_grammar.proofs.Many.{Many, goes_on, exact_many}
use Rattle.flight_grammar.proofs.Terminals.{the_mark, a_lower, a_component}
use Rattle.flight_grammar.proofs.Lists.{comma, UntilList, list_up_to}
use Rattle.flight_grammar.proofs.After.{at_mark, mark_after}
use Rattle.flight_grammar.proofs.Listed.{E, J, params_spell, params_back, declared_spell, declared_back}
use Rattle.flight_grammar.proofs.Productions.{refuses_mark}
use Rattle.flight_grammar.proofs.Postfixes.{exact_arm}
use Rattle.flight_grammar.proofs.Atoms.{lead_key, lead_word}
use Rattle.flight_grammar.proofs.Levels.{levels}
use Rattle.flight_grammar.proofs.Values.{values}

-- ---- parts of a declaration

abbrev pub Params : List Placed → Phrase
Params = Lead (is_mark OpenParen) (UntilList (is_mark CloseParen) (one lower_of))

pub params_part : Exact Params never parameters
params_part =
    after_word (the_mark OpenParen) (list_up_to (exact_want lower_of a_lower) (the_mark CloseParen) (λ a w k. refl) (λ a w k. refl) (at_mark CloseParen comma refl) (refuses_mark CloseParen (want lower_of) tt (λ ws. tt)))

abbrev Body : ℕ → Tree → Phrase
Body d = Lead (is_mark Assign) (Trail (E d) (is_mark Semicolon))

body_part : (d : ℕ) → Exact (Body d) never (body_to d)
body_part d = after_word (the_mark Assign) (up_to (levels d).whole (the_mark Semicolon) (mark_after Semicolon refl))

abbrev Import : ℕ → Json → Phrase
Import d = Lead (is_mark Assign) (Trail (J d) (is_mark Semicolon))

import_part : (d : ℕ) → Exact (Import d) never (import_to d)
import_part d = after_word (the_mark Assign) (up_to (values d) (the_mark Semicolon) (λ a w k. refl))

abbrev Function : ℕ → (Word → Option Placed) → Placed × (List Placed × Tree) → Phrase
Function d take = Seq (one take) (λ n. Seq Params (λ ps. Body d))

function_part : (d : ℕ) (take : Word → Option Placed) → Terminal take → Exact (Function d take) never (both (want take) (λ n. both parameters (λ ps. body_to d)))
function_part d take t = word_and t (λ n. part_and params_part (λ ps. body_part d) (joins_never (λ ps. Body d) never (λ b. meek_none)))

abbrev ClientRest : ℕ → Placed × Json → Phrase
ClientRest d = Seq (one component_of) (λ n. Import d)

client_part : (d : ℕ) → Exact (ClientRest d) never (both (want component_of) (λ n. import_to d))
client_part d = word_and a_component (λ n. import_part d)

-- ---- from parts to declarations and back

abbrev FunctionRest : ℕ → (Word → Option Placed) → Placed → List Placed → Tree → Phrase
FunctionRest d take n ps b = one take n ▸ sign OpenParen ▸ Parameters ps ▸ sign CloseParen ▸ (Body d) b

function_spells : (d : ℕ) (take : Word → Option Placed) (n : Placed) (ps : List Placed) (b : Tree) (x : List Word) → Function d take (n, (ps, b)) x → FunctionRest d take n ps b x
function_spells d take n ps b x m =
    let s = m.4 in
    let p = s.3 in
    let c = p.4 in (
      m.0,
      m.1,
      m.2,
      m.3,
      (
        p.0,
        c.0 ++ (c.1 ++ s.1),
        s.2 ∙ ap (λ z. z ++ s.1) (p.2 ∙ ap (λ z. p.0 ++ z) c.2) ∙ append_assoc p.0 (c.0 ++ c.1) s.1 ∙ ap (λ z. p.0 ++ z) (append_assoc c.0 c.1 s.1),
        p.3,
        (c.0, c.1 ++ s.1, refl, params_spell ps c.0 c.3, (c.1, s.1, refl, c.4, s.4)),
      ),
    )

function_back : (d : ℕ) (take : Word → Option Placed) (n : Placed) (ps : List Placed) (b : Tree) (x : List Word) → FunctionRest d take n ps b x → Function d take (n, (ps, b)) x
function_back d take n ps b x m =
    let o = m.4 in
    let c = o.4 in
    let g = c.4 in (
      m.0,
      m.1,
      m.2,
      m.3,
      (
        o.0 ++ (c.0 ++ g.0),
        g.1,
        o.2 ∙ ap (λ z. o.0 ++ z) (c.2 ∙ ap (λ z. c.0 ++ z) g.2 ∙ sym (append_assoc c.0 g.0 g.1)) ∙ sym (append_assoc o.0 (c.0 ++ g.0) g.1),
        (o.0, c.0 ++ g.0, refl, o.3, (c.0, g.0, refl, params_back ps c.0 c.3, g.3)),
        g.4,
      ),
    )

abbrev DeclarationBehind : ℕ → Word → Declaration → Phrase
DeclarationBehind d (key Server at) a y = Image (λ p. server p.0 p.1.0 p.1.1) (Function d component_of) a y
DeclarationBehind d (key Client at) a y = Image (λ p. client_is p.0 p.1) (ClientRest d) a y
DeclarationBehind d (key Action at) a y = Image (λ p. action_is p.0 p.1.0 p.1.1) (Function d lower_of) a y
DeclarationBehind d _ a y = ⊥

there : (d : ℕ) (a : Declaration) (x : List Word) → ByWord (DeclarationBehind d) a x → DeclaresTo d a x
there d a x m = subst (DeclaresTo d a) (sym m.2) (by m.0 m.1 m.3)
  where
    by : (w : Word) (y : List Word) → DeclarationBehind d w a y → DeclaresTo d a (w ∷ y)
    by (key Server at) y m =
        let c = m.0 in
        subst (λ z. DeclaresTo d z (key Server at ∷ y)) m.1 (lead_word (is_key Server) (key Server at) (FunctionRest d component_of c.0 c.1.0 c.1.1) y refl (function_spells d component_of c.0 c.1.0 c.1.1 y m.2))
    by (key Client at) y m = subst (λ z. DeclaresTo d z (key Client at ∷ y)) m.1 (lead_word (is_key Client) (key Client at) (ClientRest d m.0) y refl m.2)
    by (key Action at) y m =
        let c = m.0 in
        subst (λ z. DeclaresTo d z (key Action at ∷ y)) m.1 (lead_word (is_key Action) (key Action at) (FunctionRest d lower_of c.0 c.1.0 c.1.1) y refl (function_spells d lower_of c.0 c.1.0 c.1.1 y m.2))
    by _ y m = absurd m

back : (d : ℕ) (a : Declaration) (x : List Word) → DeclaresTo d a x → ByWord (DeclarationBehind d) a x
back d (server n ps b) x m = let q = lead_key Server (FunctionRest d component_of n ps b) x m in (key Server q.0, q.1, q.2, ((n, (ps, b)), refl, function_back d component_of n ps b q.1 q.3))
back d (client_is n j) x m = let q = lead_key Client (ClientRest d (n, j)) x m in (key Client q.0, q.1, q.2, ((n, j), refl, q.3))
back d (action_is n ps b) x m = let q = lead_key Action (FunctionRest d lower_of n ps b) x m in (key Action q.0, q.1, q.2, ((n, (ps, b)), refl, function_back d lower_of n ps b q.1 q.3))

-- ---- exact

app : Placed
app = record { bytes = codes "App"; at = 0 }

arms : (d : ℕ) → Arms (DeclarationBehind d) never (declaration_arm_to d)
arms d = record {
  each = each;
  at_deep = refl;
  at_beyond = λ m k. refl;
  some = let h = (client_part d).some in record { tree = client_is h.tree.0 h.tree.1; text = key Client 0 ∷ h.text; spelled = (key Client 0, h.text, refl, (h.tree, refl, h.spelled)) };
  meek = λ a. meek_none;
}
  where
    each : (w : Word) → IsArm (DeclarationBehind d w) never (Limit (DeclarationBehind d) w) (declaration_arm_to d w)
    each (key Server at) = exact_made (λ p. server p.0 p.1.0 p.1.1) (Function d component_of) never (both (want component_of) (λ n. both parameters (λ ps. body_to d))) (function_part d component_of a_component) (λ a. meek_none)
    each (key Client at) = exact_made (λ p. client_is p.0 p.1) (ClientRest d) never (both (want component_of) (λ n. import_to d)) (client_part d) (λ a. meek_none)
    each (key Action at) = exact_made (λ p. action_is p.0 p.1.0 p.1.1) (Function d lower_of) never (both (want lower_of) (λ n. both parameters (λ ps. body_to d))) (function_part d lower_of a_lower) (λ a. meek_none)
    each _ = λ a x m. m

pub exact_declaration : (d : ℕ) → Exact (DeclaresTo d) never (declaration_to d)
exact_declaration d = exact_for (ByWord (DeclarationBehind d)) (DeclaresTo d) never (declaration_to d) (there d) (back d) (exact_word (DeclarationBehind d) never (declaration_arm_to d) (arms d))

eager : (d : ℕ) → IsEager starts_declaration (declaration_to d)
eager d = eager_word starts_declaration (declaration_arm_to d) not_stop (λ w. exact_arm (DeclarationBehind d w) never (Limit (DeclarationBehind d) w) (declaration_arm_to d w) ((arms d).each w))
  where
    not_stop : (w : Word) → starts_declaration w ≡ true → IsStop (declaration_arm_to d w) → ⊥
    not_stop (key Server at) k s = s
    not_stop (key Client at) k s = s
    not_stop (key Action at) k s = s
    not_stop _ k s = absurd cc

first : (d : ℕ) (a : Declaration) (x : List Word) → DeclaresTo d a x → HasHead starts_declaration x
first d a x m = let b = back d a x m in subst (HasHead starts_declaration) (sym b.2) (by b.0 b.1 b.3)
  where
    by : (w : Word) (y : List Word) → DeclarationBehind d w a y → starts_declaration w ≡ true
    by (key Server at) y m = refl
    by (key Client at) y m = refl
    by (key Action at) y m = refl
    by _ y m = absurd m

abbrev pub all_of : ℕ → Reader (List Declaration)
all_of d = many starts_declaration (declaration_to d)

abbrev pub on_all : List Declaration → Word → Bool
on_all = goes_on starts_declaration never

pub exact_all : (d : ℕ) → Exact (Many (DeclaresTo d)) on_all (all_of d)
exact_all d = exact_many (DeclaresTo d) starts_declaration never (declaration_to d) (record { first = first d; apart = λ a w k. refl; meek = record { at_deep = refl; at_beyond = λ m k. refl }; eager = eager d }) (exact_declaration d)

-- ---- what the words come to

-- what spells a program is read as that program
pub again : (d : ℕ) (all : List Declaration) (words : List Word) → DeclaresAllTo d all words → all_of d words ≡ Ok (all, [])
again d all words m = ap (all_of d) (sym (append-nil words)) ∙ (exact_all d).complete all words [] (declared_back d all words m) refl

pub verdict : (words : List Word) → Verdict words (program words)
verdict words = by (all_of most_levels words) refl
  where
    by : (r : Read (List Declaration)) → all_of most_levels words ≡ r → Verdict words (r >>= ended)
    by (Ok (all, [])) q =
        let s = (exact_all most_levels).sound words all [] q in (
          subst (DeclaresAll all) (sym (s.whole ∙ append-nil s.front)) (declared_spell most_levels all s.front s.spelled),
          λ other m. ap (λ p. p.0) (ok_is (other, []) (all, []) (sym (again most_levels other words m) ∙ q)),
        )
    by (Ok (all, word ∷ rest)) q =
        let s = (exact_all most_levels).sound words all (word ∷ rest) q in
        record {
          before = s.front;
          bad = word ∷ rest;
          whole = s.whole;
          is_left = refl;
          rest = [];
          all = all;
          begins = subst (DeclaresAll all) (sym (append-nil s.front)) (declared_spell most_levels all s.front s.spelled);
          deeper = λ h. absurd cc;
          dead = λ others k. ends all s.front s.spelled s.closed others (inl k);
          tie = λ h others k. ends all s.front s.spelled s.closed others (inr (refl, k));
        }
      where
        not_empty : (others : List Word) → Near false (word ∷ rest) others → others ≡ [] → ⊥
        not_empty [] (inl k) e = k
        not_empty [] (inr k) e = k.1
        not_empty (u ∷ us) k e = absurd cc

        ends : (all : List Declaration) (front : List Word) → Many (DeclaresTo most_levels) all front → Closed (on_all all) (word ∷ rest) → (others : List Word) → Near false (word ∷ rest) others → (tree : List Declaration) → DeclaresAll tree (front ++ others) → ⊥
        ends all front s c others k tree m =
            let one = (exact_all most_levels).complete all front others s (closed_near (on_all all) ((exact_all most_levels).meek all) false (word ∷ rest) [] (word ∷ rest) others refl k c) in
            let two = ok_is (all, others) (tree, []) (sym one ∙ again most_levels tree (front ++ others) m) in
            not_empty others k (ap (λ p. p.1) two)
    by (Err f) q =
        let s = (exact_all most_levels).stops words f q in
        record {
          before = s.before;
          bad = s.bad;
          whole = s.whole;
          is_left = s.is_left;
          rest = s.rest;
          all = s.tree;
          begins = (declared_spell most_levels) s.tree (s.before ++ s.rest) s.begun;
          deeper = s.deeper;
          dead = λ others k tree m. absurd (cc (sym (s.fails others (inl k)) ∙ again most_levels tree (s.before ++ others) m));
          tie = λ h others k tree m. absurd (cc (sym (s.fails others (inr (h, k))) ∙ again most_levels tree (s.before ++ others) m));
        }
