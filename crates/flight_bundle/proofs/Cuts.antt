-- The parts of a text are texts, and no longer than it.
use Rattle.std.proofs.Common.{◌≡◌, ◌++◌, ◌∷◌, [], ℕ, ◌+◌, ◌≤◌, ◌<◌, length, take, drop, get_or, List, Option, Some, None, refl, sym, ◌∙◌, ap, subst, inl, inr, arith, true}
use lib.Utf8.{encode}
use Rattle.std.specs.Str.{IsUtf8, is_utf8, chars}
use Rattle.std.proofs.lemmas.Str.{IsUtf8-take, IsUtf8-drop, IsUtf8-append, IsUtf8-nil, IsUtf8-from_is_utf8, IsCharBoundary-after_ascii}
use Rattle.std.proofs.lemmas.List.{append_assoc, length-append, take_at, drop_at}
use Rattle.flight_bundle.specs.Lines.{newline, ended, FirstLine, IsAround}
use Rattle.flight_bundle.specs.Parts.{HasParts, alone, scripted, replied, no_script, IsReply}

here : (line rest : List ℕ) → get_or (line ++ newline ∷ rest) (length line) 0 ≡ newline
here [] rest = refl
here (b ∷ line) rest = here line rest

as_line : (line rest : List ℕ) → line ++ newline ∷ rest ≡ (line ++ newline ∷ []) ++ rest
as_line line rest = sym (append_assoc line (newline ∷ []) rest)

behind_line : (line rest : List ℕ) → drop (length line + 1) (line ++ newline ∷ rest) ≡ rest
behind_line line rest = ap (λ l. drop (length line + 1) l) (as_line line rest) ∙ drop_at (line ++ newline ∷ []) rest (length line + 1) (length-append line (newline ∷ []))

with_line : (line rest : List ℕ) → take (length line + 1) (line ++ newline ∷ rest) ≡ line ++ newline ∷ []
with_line line rest = ap (λ l. take (length line + 1) l) (as_line line rest) ∙ take_at (line ++ newline ∷ []) rest (length line + 1) (length-append line (newline ∷ []))

-- the script of a program that has none is a text
no_script_utf8 : is_utf8 no_script ≡ true
unfolding is_utf8 chars encode
no_script_utf8 = refl

cut : (line rest : List ℕ) → IsUtf8 (line ++ newline ∷ rest) → IsUtf8 (line ++ newline ∷ []) × IsUtf8 rest
cut line rest u =
    let bs = line ++ newline ∷ rest in
    let within : length line < length bs = subst (λ n. length line < n) (sym (length-append line (newline ∷ rest))) (omega arith) in
    let ascii : get_or bs (length line) 0 < 128 = subst (λ n. n < 128) (sym (here line rest)) (omega arith) in
    let boundary = IsCharBoundary-after_ascii bs (length line) u within ascii in
    (subst IsUtf8 (with_line line rest) (IsUtf8-take bs (length line + 1) u boundary), subst IsUtf8 (behind_line line rest) (IsUtf8-drop bs (length line + 1) u boundary))

cut_lines : (lines : List (List ℕ)) (rest : List ℕ) → IsUtf8 (ended lines ++ rest) → IsUtf8 (ended lines) × IsUtf8 rest
cut_lines [] rest u = (IsUtf8-nil, u)
cut_lines (line ∷ lines) rest u =
    let parts = cut line (ended lines ++ rest) (subst IsUtf8 (append_assoc line (newline ∷ ended lines) rest) u) in
    let others = cut_lines lines rest parts.1 in
    (subst IsUtf8 (append_assoc line (newline ∷ []) (ended lines)) (IsUtf8-append (line ++ newline ∷ []) (ended lines) parts.0 others.0), others.1)

-- what stands before and behind a mark's line
around : (mark text before after : List ℕ) → FirstLine mark text before after → IsUtf8 text → IsUtf8 before × IsUtf8 after
around mark text before after f u = by f.around
  where
    at_end : (rest : List ℕ) → text ≡ before ++ rest → IsUtf8 before × IsUtf8 rest
    at_end rest e =
        let p = cut_lines f.lines rest (subst IsUtf8 (e ∙ ap (λ b. b ++ rest) f.front) u) in
        (subst IsUtf8 (sym f.front) p.0, p.1)

    by : IsAround mark text before after → IsUtf8 before × IsUtf8 after
    by (inl (e, n)) = ((at_end mark e).0, subst IsUtf8 (sym n) IsUtf8-nil)
    by (inr e) = let p = at_end (mark ++ newline ∷ after) e in (p.0, (cut mark after p.1).1)

shorter : (mark text before after : List ℕ) → FirstLine mark text before after → length before ≤ length text
shorter mark text before after f = by f.around
  where
    at_end : (rest : List ℕ) → text ≡ before ++ rest → length before ≤ length text
    at_end rest e = let n = ap length e ∙ length-append before rest in omega (arith, n)

    by : IsAround mark text before after → length before ≤ length text
    by (inl (e, n)) = at_end mark e
    by (inr e) = at_end (mark ++ newline ∷ after) e

pub parts_utf8 : (text program script : List ℕ) (reply : Option (List ℕ)) → HasParts text program script reply → IsUtf8 text → IsUtf8 program × IsUtf8 script
parts_utf8 text _ _ _ (alone none) u = (u, IsUtf8-from_is_utf8 no_script no_script_utf8)
parts_utf8 text _ _ _ (scripted program script first none) u = around _ text program script first u
parts_utf8 text _ _ _ (replied program rest script behind reply first second is) u =
    let p = around _ text program rest first u in
    (p.0, (around _ rest script behind second p.1).0)

pub program_within : (text program script : List ℕ) (reply : Option (List ℕ)) → HasParts text program script reply → length program ≤ length text
program_within text _ _ _ (alone none) = omega arith
program_within text _ _ _ (scripted program script first none) = shorter _ text program script first
program_within text _ _ _ (replied program rest script behind reply first second is) = shorter _ text program rest first
