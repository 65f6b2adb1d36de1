-- Where a text stops, and not because it is too deep, no program of any number of levels goes on.
use Rattle.std.proofs.Common.{◌≡◌, ℕ, zero, suc, ◌≤◌, true, false, ◌⊎◌, inl, inr, List, [], ◌∷◌, ◌++◌, Ok, Err, refl, sym, ap, subst, ◌∙◌, append_assoc, arith}
use Rattle.std.proofs.lemmas.List.{append-nil}
use Rattle.flight_syntax.specs.declared.word.Punctuator.{Punctuator}
use Rattle.flight_syntax.specs.Lexicon.{Word, mark, beyond, AreReal}
use Rattle.flight_syntax.specs.Tree.{Declaration}
use Rattle.flight_syntax.specs.Grammar.{most_levels, DeclaresAllTo, DeclaresAll}
use Rattle.flight_grammar.specs.Reading.{Fault, Read, ◌>>=◌}
use Rattle.flight_grammar.specs.Reader.{ended}
use Rattle.flight_grammar.specs.Verdict.{Alike, IsDeeper, StopsAt, Verdict, StopsAtAnyDepth}
use Rattle.flight_grammar.proofs.Exact.{deeper_view}
use Rattle.flight_grammar.proofs.Listed.{declared_spell}
use Rattle.flight_grammar.proofs.Programs.{all_of, exact_all, again, verdict}
use Rattle.flight_grammar.proofs.Outcomes.{Cuts, cut, past}
use Rattle.flight_grammar.proofs.Agree.{IsTooDeep, Same}
use Rattle.flight_grammar.proofs.Depth.{agree_all}

front_real : (front rest : List Word) → AreReal (front ++ rest) → AreReal front
front_real [] rest h = tt
front_real (w ∷ ws) rest h = (h.0, front_real ws rest h.1)

real_front : (words front rest : List Word) → words ≡ front ++ rest → AreReal words → AreReal front
real_front words front rest e h = front_real front rest (subst AreReal e h)

real_both : (front rest : List Word) → AreReal front → AreReal rest → AreReal (front ++ rest)
real_both [] rest h k = k
real_both (w ∷ ws) rest h k = (h.0, real_both ws rest h.1 k)

-- what is read to the end is spelled
read_spells : (d : ℕ) (all : List Declaration) (ts : List Word) → all_of d ts ≡ Ok (all, []) → DeclaresAllTo d all ts
read_spells d all ts e = let s = (exact_all d).sound ts all [] e in subst (DeclaresAllTo d all) (sym (s.whole ∙ append-nil s.front)) (declared_spell d all s.front s.spelled)

-- what few levels spell, more spell
more_levels : (d k : ℕ) → d ≤ k → (all : List Declaration) (ts : List Word) → AreReal ts → DeclaresAllTo d all ts → DeclaresAllTo k all ts
more_levels d k h all ts real m = by (agree_all d k h ts real)
  where
    by : Same (all_of d ts) (all_of k ts) → DeclaresAllTo k all ts
    by (inl e) = read_spells k all ts (sym e ∙ again d all ts m)
    by (inr e) = absurd (subst (λ (r : Read (List Declaration)). IsTooDeep r) (again d all ts m) e)

alike_other : (x : List Word) (w : Word) (a b : List Word) → Alike x (w ∷ a) → Alike x (w ∷ b)
alike_other [] w a b k = k
alike_other (v ∷ vs) w a b k = k

mark_deeper : (m : Punctuator) (a ws us : List Word) → Alike a (mark m ∷ ws) → IsDeeper a (beyond m ∷ us)
mark_deeper m [] ws us k = absurd k
mark_deeper m (w ∷ a) ws us k = subst (λ z. IsDeeper (z ∷ a) (beyond m ∷ us)) (sym k) refl

deeper_alike : (a b r : List Word) → Alike a b → IsDeeper b r → IsDeeper a r
deeper_alike a b r k h = elim (deeper_view b r h) [
  | inl v ↦ subst (λ z. IsDeeper a z) (sym v.1) tt
  | inr v ↦ subst (λ z. IsDeeper a z) (sym v.4) (mark_deeper v.0 a v.1 v.2 (subst (λ z. Alike a z) v.3 k))
]

-- a text that goes on as this one does not stop because it is too deep
not_deep : (words ts others : List Word) (f g : Fault) (s : StopsAt words f) → f.too_deep ≡ false → ts ≡ s.before ++ others → Alike s.bad others → StopsAt ts g → g.too_deep ≡ true → ⊥
not_deep words ts others f g s shallow e k t too = by (cut s.before others t.before t.bad (sym e ∙ t.whole))
  where
    by : Cuts s.before others t.before t.bad → ⊥
    by (inl h) =
        s.tie shallow t.rest (deeper_alike s.bad t.bad t.rest (subst (λ z. Alike s.bad z) h.1 k) (t.deeper too)) t.all (subst (λ z. DeclaresAll t.all (z ++ t.rest)) (sym h.0) t.begins)
    by (inr (inl h)) =
        s.dead (h.0 ∷ (h.1 ++ t.rest)) (alike_other s.bad h.0 (h.1 ++ t.bad) (h.1 ++ t.rest) (subst (λ z. Alike s.bad z) h.2 k)) t.all
        (subst (DeclaresAll t.all) (append_assoc s.before (h.0 ∷ h.1) t.rest) (subst (λ z. DeclaresAll t.all (z ++ t.rest)) h.3 t.begins))
    by (inr (inr h)) = past ts g t s.all h.0 h.1 others s.rest h.2 (subst (λ z. DeclaresAll s.all (z ++ s.rest)) h.3 s.begins)

at_most : (d k : ℕ) → (d ≤ k) ⊎ (k ≤ d)
at_most zero k = inl (omega arith)
at_most (suc d) zero = inr (omega arith)
at_most (suc d) (suc k) = by (at_most d k)
  where
    by : (d ≤ k) ⊎ (k ≤ d) → (suc d ≤ suc k) ⊎ (suc k ≤ suc d)
    by (inl h) = inl (omega (arith, h))
    by (inr h) = inr (omega (arith, h))

-- where the reading ends, the text stops
ends_there : (ts : List Word) (g : Fault) → all_of most_levels ts ≡ Err g → StopsAt ts g
ends_there ts g e = subst (Verdict ts) (ap (λ (r : Read (List Declaration)). r >>= ended) e) (verdict ts)

-- with more levels as with few
goes_on : (words others : List Word) (f : Fault) (s : StopsAt words f) → f.too_deep ≡ false → (levels : ℕ) → most_levels ≤ levels → AreReal (s.before ++ others) → Alike s.bad others → (all : List Declaration) → DeclaresAllTo levels all (s.before ++ others) → ⊥
goes_on words others f s shallow levels h real k all m = by (all_of most_levels (s.before ++ others)) refl (agree_all most_levels levels h (s.before ++ others) real)
  where
    by : (r : Read (List Declaration)) → all_of most_levels (s.before ++ others) ≡ r → Same r (all_of levels (s.before ++ others)) → ⊥
    by r q (inl e) = s.dead others k all (read_spells most_levels all (s.before ++ others) (q ∙ e ∙ again levels all (s.before ++ others) m))
    by (Ok x) q (inr e) = e
    by (Err g) q (inr e) = not_deep words (s.before ++ others) others f g s shallow refl k (ends_there (s.before ++ others) g q) e

pub any_depth : (words : List Word) → AreReal words → StopsAtAnyDepth words
any_depth words real f s shallow levels others reals k all m = by (at_most levels most_levels) (real_both s.before others (real_front words s.before s.bad s.whole real) reals)
  where
    by : (levels ≤ most_levels) ⊎ (most_levels ≤ levels) → AreReal (s.before ++ others) → ⊥
    by (inl h) both = s.dead others k all (more_levels levels most_levels h all (s.before ++ others) both m)
    by (inr h) both = goes_on words others f s shallow levels h both k all m
