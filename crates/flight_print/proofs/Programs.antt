-- What is printed of a program is read as that program.
use Rattle.std.proofs.Common.{◌≡◌, ℕ, true, false, List, [], ◌∷◌, map, Option, Some, refl, sym, ap, ap₂, subst, ◌∙◌, codes}
use Rattle.std.specs.List.{AllZip}
use Rattle.serde_json.specs.Data.{Data}
use Rattle.serde_json.specs.Read.{of_json}
use Rattle.serde_json.specs.Written.{compact_text}
use Rattle.json.specs.Json as json
use Rattle.json.specs.Json.{Json}
use Rattle.flight_syntax.specs.declared.word.Keyword.TheVariants.{Server, Client, Action}
use Rattle.flight_syntax.specs.declared.word.Punctuator.TheVariants.{OpenParen, CloseParen, Comma, Semicolon, Assign}
use Rattle.flight_syntax.specs.declared.token.TokenKind.TheVariants.{Mark}
use Rattle.flight_syntax.specs.Lexicon.{Placed, Word, Phrase, ◌▸◌, one, sign, is_mark, lower_of, component_of, words_of}
use Rattle.flight_syntax.specs.Tree as tree
use Rattle.flight_syntax.specs.Tree.{Tree, Declaration}
use Rattle.flight_syntax.specs.Grammar.{Spells, Parameters, MoreParameters, Declares, DeclaresAll, most_levels}
use Rattle.flight_syntax.specs.Term.{Term}
use Rattle.flight_syntax.specs.Scope.{Means}
use Rattle.flight_syntax.specs.Meaning.{meaning}
use Rattle.flight_syntax.specs.Derives.{Said, server, client, action, bytes_of, SaidAs, IsProgram}
use Rattle.flight_syntax.proofs.Meanings.{one_meaning}
use Rattle.flight_syntax.proofs.Bodies.{BodyMeans, BodiesMean, text_means}
use Rattle.flight_print.specs.Text.{word, params_text, line_end, body_text, said_text, each_text, said_name, program_text}
use Rattle.flight_print.specs.Pieces.{tokens_at, text_of}
use Rattle.flight_print.proofs.Lexing.{are_tokens, are_words}
use Rattle.flight_print.proofs.Alike.{unplaced, plain, plain_declaration, three, same_faultless, same_app, same_meaning}
use Rattle.flight_print.proofs.Said.{IsSaid, AreSaid, Takes, left, right, text_said, lower_again, component_again, sign_word}
use Rattle.flight_print.proofs.Again.{Again, U, Named, nothing_again, then_again, made_again, so_again, key_before, sign_before, same_sign}
use Rattle.flight_print.proofs.Parts.{Like, names_of, name_of_declaration}
use Rattle.flight_print.proofs.Trees.{again, taken, grouped}
use Rattle.flight_print.proofs.Imports.{import_again}

-- ---- parameters

abbrev Alike : List Placed → List Placed → Type 0
Alike ps qs = map unplaced qs ≡ map unplaced ps

more_params_again : (ps : List Placed) (x : List Word) → AreSaid x → MoreParameters ps x → Again MoreParameters (Alike ps) (params_text true (bytes_of ps))
more_params_again [] x r m = made_again MoreParameters (Alike []) nothing_again (λ b. []) (λ b s. refl) (λ b w s y. y)
more_params_again (p ∷ ps) x r m =
    let a = m.3 in
    so_again (grouped (word (codes ",")) (word p.bytes) (params_text true (bytes_of ps)))
    (made_again MoreParameters (Alike (p ∷ ps)) (then_again (sign_before Comma (taken lower_again p a.1 (right a.0 a.1 a.2 (left m.0 m.1 m.2 r)) a.4)) (more_params_again ps m.1 (right m.0 m.1 m.2 r) m.4))
    (λ p. p.0 ∷ p.1) (λ p s. ap₂ (λ a b. a ∷ b) s.0 s.1) (λ p w s y. y))

params_again : (ps : List Placed) (x : List Word) → AreSaid x → Parameters ps x → Again Parameters (Alike ps) (params_text false (bytes_of ps))
params_again [] x r m = made_again Parameters (Alike []) nothing_again (λ b. []) (λ b s. refl) (λ b w s y. y)
params_again (p ∷ ps) x r m =
    made_again Parameters (Alike (p ∷ ps)) (then_again (taken lower_again p m.0 (left m.0 m.1 m.2 r) m.3) (more_params_again ps m.1 (right m.0 m.1 m.2 r) m.4))
    (λ p. p.0 ∷ p.1) (λ p s. ap₂ (λ a b. a ∷ b) s.0 s.1) (λ p w s y. y)

-- ---- declarations

end_again : Again {A = U} (λ a. sign Semicolon) (λ a. U) line_end
end_again = record {
  pieces = record { kind = Mark; bytes = codes ";"; gap = 10 ∷ [] } ∷ [];
  is_text = refl;
  apart = (refl, refl, tt);
  spells = λ at. (tt, tt, (_, ap (is_mark Semicolon) (sign_word Semicolon at) ∙ same_sign Semicolon, refl));
}

-- a declaration of the same form, with JSON that is read as this
abbrev IsKept : Said → Declaration → Type 0
IsKept (client name import) (tree.client_is n j) = (d : Data) × (of_json j ≡ Some d) × (import ≡ compact_text d)
IsKept _ _ = U

abbrev SameAs : Declaration → Said → Declaration → Type 0
SameAs d s e = (plain_declaration e ≡ plain_declaration d) × IsKept s e

-- a name, parameters and a body
module _ (take : Word → Option Placed) (again_named : (w : Word) (named : Placed) → IsSaid w → take w ≡ Some named → Takes take named.bytes) where
  abbrev BodyOf : Placed → List Placed → Tree → Phrase
  BodyOf n ps b = one take n ▸ sign OpenParen ▸ Parameters ps ▸ sign CloseParen ▸ sign Assign ▸ Spells b most_levels ▸ sign Semicolon

  body_again : (all : List Declaration) (n : Placed) (ps : List Placed) (b : Tree) (x : List Word) → AreSaid x → BodyOf n ps b x → Means all (bytes_of ps) b (meaning all (bytes_of ps) b)
      → Again {A = Placed × (List Placed × Tree)} (λ p. BodyOf p.0 p.1.0 p.1.1) (λ p. Named n p.0 × (Alike ps p.1.0 × Like b p.1.1)) (body_text (names_of all) n.bytes (bytes_of ps) (meaning all (bytes_of ps) b))
  body_again all n ps b x r m k =
      let c = m.4.4 in
      let q = right m.4.0 m.4.1 m.4.2 (right m.0 m.1 m.2 r) in
      let a = c.4.4.4 in
      let p = right c.4.4.0 c.4.4.1 c.4.4.2 (right c.4.0 c.4.1 c.4.2 (right c.0 c.1 c.2 q)) in
      let named = taken again_named n m.0 (left m.0 m.1 m.2 r) m.3 in
      let params = params_again ps c.0 (left c.0 c.1 c.2 q) c.3 in
      let body = again all (bytes_of ps) b most_levels a.0 (left a.0 a.1 a.2 p) a.3 k in
      made_again (λ p. BodyOf p.0 p.1.0 p.1.1) (λ p. Named n p.0 × (Alike ps p.1.0 × Like b p.1.1))
      (then_again named (sign_before OpenParen (then_again params (sign_before CloseParen (sign_before Assign (then_again body end_again))))))
      (λ p. (p.0, (p.1.0, p.1.1.0))) (λ p s. (s.0, (s.1.0, s.1.1.0))) (λ p w s y. y)

declaration_again : (all : List Declaration) (d : Declaration) (x : List Word) → AreSaid x → Declares d x → BodyMeans all d → (s : Said) → SaidAs all d s → Again Declares (SameAs d s) (said_text (names_of all) s)
declaration_again all (tree.server n ps b) x r m k (server a c e) h =
    let same : e ≡ meaning all (bytes_of ps) b = one_meaning all (bytes_of ps) b e (meaning all (bytes_of ps) b) (subst (λ z. Means all z b e) h.1 h.2) k in
    let whole = made_again Declares (SameAs (tree.server n ps b) (server a c e)) (key_before Server (body_again component_of component_again all n ps b m.1 (right m.0 m.1 m.2 r) m.4 k))
    (λ p. tree.server p.0 p.1.0 p.1.1) (λ p s. (three tree.server s.0 s.1.0 s.1.1, tt)) (λ p w s y. y) in
    so_again (sym (three (λ a c e. said_text (names_of all) (server a c e)) h.0 h.1 same)) whole
declaration_again all (tree.action_is n ps b) x r m k (action a c e) h =
    let same : e ≡ meaning all (bytes_of ps) b = one_meaning all (bytes_of ps) b e (meaning all (bytes_of ps) b) (subst (λ z. Means all z b e) h.1 h.2) k in
    let whole = made_again Declares (SameAs (tree.action_is n ps b) (action a c e)) (key_before Action (body_again lower_of lower_again all n ps b m.1 (right m.0 m.1 m.2 r) m.4 k))
    (λ p. tree.action_is p.0 p.1.0 p.1.1) (λ p s. (three tree.action_is s.0 s.1.0 s.1.1, tt)) (λ p w s y. y) in
    so_again (sym (three (λ a c e. said_text (names_of all) (action a c e)) h.0 h.1 same)) whole
declaration_again all (tree.client_is n j) x r m k (client a i) h =
    let q = right m.0 m.1 m.2 r in
    let c = m.4.4.4 in
    let p = right m.4.4.0 m.4.4.1 m.4.4.2 (right m.4.0 m.4.1 m.4.2 q) in
    let named = taken component_again n m.4.0 (left m.4.0 m.4.1 m.4.2 q) m.4.3 in
    let import = import_again most_levels j h.1.0 c.0 (left c.0 c.1 c.2 p) c.3 h.1.1 in
    let whole = made_again Declares (SameAs (tree.client_is n j) (client a i)) (key_before Client (then_again named (sign_before Assign import)))
    (λ p. tree.client_is p.0 p.1) (λ p s. (ap (λ z. tree.client_is z json.null) s.0, (h.1.0, s.1, h.1.2))) (λ p w s y. y) in
    so_again (sym (ap₂ (λ a i. said_text (names_of all) (client a i)) h.0 h.1.2)) whole
declaration_again all _ x r m k _ h = absurd h

-- ---- programs

abbrev AllSame : List Declaration → List Said → List Declaration → Type 0
AllSame ds ss es = (map plain_declaration es ≡ map plain_declaration ds) × AllZip IsKept ss es

declarations_again : (all ds : List Declaration) (x : List Word) → AreSaid x → DeclaresAll ds x → BodiesMean all ds → (ss : List Said) → AllZip (SaidAs all) ds ss → Again DeclaresAll (AllSame ds ss) (each_text (names_of all) ss)
declarations_again all [] x r m k [] h = made_again DeclaresAll (AllSame [] []) nothing_again (λ b. []) (λ b s. (refl, tt)) (λ b w s y. y)
declarations_again all (d ∷ ds) x r m k (s ∷ ss) h =
    made_again DeclaresAll (AllSame (d ∷ ds) (s ∷ ss)) (then_again (declaration_again all d m.0 (left m.0 m.1 m.2 r) m.3 k.0 s h.0) (declarations_again all ds m.1 (right m.0 m.1 m.2 r) m.4 k.1 ss h.1))
    (λ p. p.0 ∷ p.1) (λ p s. (ap₂ (λ a b. a ∷ b) s.0.0 s.1.0, (s.0.1, s.1.1))) (λ p w s y. y)
declarations_again all [] x r m k (s ∷ ss) h = absurd h
declarations_again all (d ∷ ds) x r m k [] h = absurd h

names_said : (all ds : List Declaration) (ss : List Said) → AllZip (SaidAs all) ds ss → map said_name ss ≡ names_of ds
names_said all [] [] h = refl
names_said all (d ∷ ds) (s ∷ ss) h = ap₂ (λ a b. a ∷ b) (one_name d s h.0) (names_said all ds ss h.1)
  where
    one_name : (d : Declaration) (s : Said) → SaidAs all d s → said_name s ≡ name_of_declaration d
    one_name (tree.server n ps b) (server a c e) h = h.0
    one_name (tree.client_is n j) (client a i) h = h.0
    one_name (tree.action_is n ps b) (action a c e) h = h.0
    one_name _ _ h = absurd h
names_said all [] (s ∷ ss) h = absurd h
names_said all (d ∷ ds) [] h = absurd h

-- what the declarations say is said by others that are alike
params_same : (ps qs : List Placed) → Alike ps qs → bytes_of qs ≡ bytes_of ps
params_same [] [] e = refl
params_same (p ∷ ps) (q ∷ qs) e =
    let first : unplaced q ≡ unplaced p = cc in
    let rest : map unplaced qs ≡ map unplaced ps = cc in
    ap₂ (λ a b. a ∷ b) (ap (λ z. z.bytes) first) (params_same ps qs rest)
params_same [] (q ∷ qs) e = absurd cc
params_same (p ∷ ps) [] e = absurd cc

body_said : (all other : List Declaration) → map plain_declaration other ≡ map plain_declaration all → (n m : Placed) (ps qs : List Placed) (b c : Tree) (a : List ℕ) (p : List (List ℕ)) (x : Term) → unplaced m ≡ unplaced n → Alike ps qs → plain c ≡ plain b
    → (a ≡ n.bytes) × (p ≡ bytes_of ps) × Means all p b x → Means all (bytes_of ps) b (meaning all (bytes_of ps) b) → Means other (bytes_of qs) c (meaning other (bytes_of qs) c)
    → (a ≡ m.bytes) × (p ≡ bytes_of qs) × Means other p c x
body_said all other same n m ps qs b c a p x names alike like h k l =
    let params : bytes_of qs ≡ bytes_of ps = params_same ps qs alike in
    let here : p ≡ bytes_of qs = h.1 ∙ sym params in
    let term : x ≡ meaning all (bytes_of ps) b = one_meaning all (bytes_of ps) b x (meaning all (bytes_of ps) b) (subst (λ z. Means all z b x) h.1 h.2) k in
    let there : meaning other (bytes_of qs) c ≡ x = ap (λ z. meaning other z c) params ∙ (same_meaning all other (bytes_of ps) b c same like ∙ sym term) in
    (h.0 ∙ sym (ap (λ z. z.bytes) names), here, subst (λ z. Means other z c x) (sym here) (subst (Means other (bytes_of qs) c) there l))

one_said : (all other : List Declaration) → map plain_declaration other ≡ map plain_declaration all → (d e : Declaration) (s : Said) → SameAs d s e → SaidAs all d s → BodyMeans all d → BodyMeans other e → SaidAs other e s
one_said all other same (tree.server n ps b) (tree.server m qs c) (server a p x) g h k l =
    let names : unplaced m ≡ unplaced n = let f = g.0 in cc in
    let alike : map unplaced qs ≡ map unplaced ps = let f = g.0 in cc in
    let like : plain c ≡ plain b = let f = g.0 in cc in
    body_said all other same n m ps qs b c a p x names alike like h k l
one_said all other same (tree.action_is n ps b) (tree.action_is m qs c) (action a p x) g h k l =
    let names : unplaced m ≡ unplaced n = let f = g.0 in cc in
    let alike : map unplaced qs ≡ map unplaced ps = let f = g.0 in cc in
    let like : plain c ≡ plain b = let f = g.0 in cc in
    body_said all other same n m ps qs b c a p x names alike like h k l
one_said all other same (tree.client_is n j) (tree.client_is m i) (client a p) g h k l =
    let names : unplaced m ≡ unplaced n = let f = g.0 in cc in
    (h.0 ∙ sym (ap (λ z. z.bytes) names), g.1)
one_said all other same (tree.server n ps b) (tree.client_is m i) s g h k l = let f = g.0 in absurd cc
one_said all other same (tree.server n ps b) (tree.action_is m qs c) s g h k l = let f = g.0 in absurd cc
one_said all other same (tree.action_is n ps b) (tree.client_is m i) s g h k l = let f = g.0 in absurd cc
one_said all other same (tree.action_is n ps b) (tree.server m qs c) s g h k l = let f = g.0 in absurd cc
one_said all other same (tree.client_is n j) (tree.server m qs c) s g h k l = let f = g.0 in absurd cc
one_said all other same (tree.client_is n j) (tree.action_is m qs c) s g h k l = let f = g.0 in absurd cc
one_said all other same _ _ _ g h k l = absurd h

all_said : (all other : List Declaration) → map plain_declaration other ≡ map plain_declaration all → (ds es : List Declaration) (ss : List Said) → map plain_declaration es ≡ map plain_declaration ds → AllZip IsKept ss es → AllZip (SaidAs all) ds ss → BodiesMean all ds → BodiesMean other es
    → AllZip (SaidAs other) es ss
all_said all other same [] [] [] e g h k l = tt
all_said all other same (d ∷ ds) (e ∷ es) (s ∷ ss) f g h k l =
    let first : plain_declaration e ≡ plain_declaration d = cc in
    let rest : map plain_declaration es ≡ map plain_declaration ds = cc in
    (one_said all other same d e s (first, g.0) h.0 k.0 l.0, all_said all other same ds es ss rest g.1 h.1 k.1 l.1)
all_said all other same [] (e ∷ es) ss f g h k l = absurd cc
all_said all other same (d ∷ ds) [] ss f g h k l = absurd cc
all_said all other same [] [] (s ∷ ss) f g h k l = absurd h
all_said all other same (d ∷ ds) (e ∷ es) [] f g h k l = absurd h

printed_pieces : (source : List ℕ) (program : List Said) (h : IsProgram source program) → BodiesMean h.all h.all → (x : Again DeclaresAll (AllSame h.all program) (each_text (names_of h.all) program)) → IsProgram (text_of x.pieces) program
printed_pieces source program h k x =
    let a = x.spells 0 in
    let other = a.0 in
    let same = a.1.0 in
    let spelled : DeclaresAll other (words_of (text_of x.pieces) (tokens_at 0 x.pieces)) = subst (DeclaresAll other) (sym (are_words x.pieces)) a.2 in
    let none = same_faultless h.all other same h.faultless in
    record {
      tokens = tokens_at 0 x.pieces;
      all = other;
      are_tokens = are_tokens x.pieces x.apart;
      declares = spelled;
      faultless = none;
      app = same_app h.all other same ∙ h.app;
      means = all_said h.all other same h.all other program same a.1.1 h.means k (text_means (text_of x.pieces) (tokens_at 0 x.pieces) other spelled none);
    }

-- what is printed of a program that some text is, is that program
pub printed_again : (source : List ℕ) (program : List Said) → IsProgram source program → IsProgram (program_text program) program
printed_again source program h =
    let k = text_means source h.tokens h.all h.declares h.faultless in
    let x = declarations_again h.all h.all (words_of source h.tokens) (text_said source h.tokens h.are_tokens) h.declares k program h.means in
    let text : text_of x.pieces ≡ program_text program = x.is_text ∙ ap (λ z. each_text z program) (sym (names_said h.all h.all program h.means)) in
    subst (λ z. IsProgram z program) text (printed_pieces source program h k x)
