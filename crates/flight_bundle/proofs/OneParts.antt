-- A text has one program, one script and one reply.
use Rattle.std.proofs.Common.{◌≡◌, ◌≢◌, ◌⊎◌, ◌++◌, ◌∷◌, [], ℕ, zero, suc, List, Option, Some, None, Contains, refl, sym, ◌∙◌, ap, subst, inl, inr, arith, Bool, true, false, nat_eq}
use Rattle.std.specs.Prelude.{if◌then◌else◌}
use Rattle.std.specs.List.{AllByRecursion}
use Rattle.std.proofs.lemmas.Bool.{false≢true}
use Rattle.std.proofs.lemmas.List.{append_assoc, append-nil, append_cancel_left, append_cancel_right}
use Rattle.flight_bundle.specs.Lines.{newline, IsLine, IsOther, ended, IsAround, FirstLine, NoLine}
use Rattle.flight_bundle.specs.Parts.{HasParts, alone, scripted, replied, no_script, script_mark, reply_mark, IsReply}

-- ---- one line

head_is : (b c : ℕ) (bs cs : List ℕ) → b ∷ bs ≡ c ∷ cs → b ≡ c
head_is b c bs cs e = cc

tail_is : (b c : ℕ) (bs cs : List ℕ) → b ∷ bs ≡ c ∷ cs → bs ≡ cs
tail_is b c bs cs e = cc

contains_here : (l : List ℕ) → Contains (newline ∷ l) newline
contains_here l = (0, omega arith, refl)

contains_there : (b : ℕ) (l : List ℕ) → Contains l newline → Contains (b ∷ l) newline
contains_there b l (k, within, is) = (suc k, omega (arith, within), is)

begins_none : (b : ℕ) (l : List ℕ) → IsLine (b ∷ l) → b ≢ newline
begins_none b l h e = h (subst (λ c. Contains (c ∷ l) newline) (sym e) (contains_here l))

rest_none : (b : ℕ) (l : List ℕ) → IsLine (b ∷ l) → IsLine l
rest_none b l h k = h (contains_there b l k)

-- of two lines that begin a text each ends where the other does
same_line : (l m x y : List ℕ) → IsLine l → IsLine m → l ++ newline ∷ x ≡ m ++ newline ∷ y → (l ≡ m) × (x ≡ y)
same_line [] [] x y h k e = (refl, tail_is _ _ x y e)
same_line [] (c ∷ m) x y h k e = absurd (begins_none c m k (sym (head_is _ _ _ _ e)))
same_line (b ∷ l) [] x y h k e = absurd (begins_none b l h (head_is _ _ _ _ e))
same_line (b ∷ l) (c ∷ m) x y h k e =
    let p = same_line l m x y (rest_none b l h) (rest_none c m k) (tail_is _ _ _ _ e) in
    (rw (head_is _ _ _ _ e, p.0) refl, p.1)

no_newline : (l m x : List ℕ) → IsLine m → l ++ newline ∷ x ≡ m → ⊥
no_newline [] [] x k e = cc
no_newline [] (c ∷ m) x k e = begins_none c m k (sym (head_is _ _ _ _ e))
no_newline (b ∷ l) [] x k e = cc
no_newline (b ∷ l) (c ∷ m) x k e = no_newline l m x (rest_none c m k) (tail_is _ _ _ _ e)

-- ---- the line of a mark

-- what stands behind the mark: nothing, or a newline and more
abbrev rest_of : List ℕ → List ℕ → List ℕ → List ℕ → Type 0
rest_of mark lines text after = ((text ≡ lines ++ mark) × (after ≡ [])) ⊎ (text ≡ lines ++ (mark ++ newline ∷ after))

-- of a text that begins with a line that is not the mark, the mark's line is further on
skip : (l : List ℕ) (ls rest : List ℕ) → (l ++ newline ∷ ls) ++ rest ≡ l ++ newline ∷ (ls ++ rest)
skip l ls rest = append_assoc l (newline ∷ ls) rest

-- a text that begins with the mark's line does not begin with another
not_other : (mark l x after : List ℕ) → IsLine mark → IsOther mark l → rest_of mark [] (l ++ newline ∷ x) after → ⊥
not_other mark l x after m other (inl (e, n)) = no_newline l mark x m e
not_other mark l x after m other (inr e) = other.1 (same_line l mark x after other.0 m e).0

both_begin : (mark text after more : List ℕ) → IsLine mark → rest_of mark [] text after → rest_of mark [] text more → after ≡ more
both_begin mark text after more m (inl (e, n)) (inl (f, k)) = n ∙ sym k
both_begin mark text after more m (inl (e, n)) (inr f) = absurd (no_newline mark mark more m (sym f ∙ e))
both_begin mark text after more m (inr e) (inl (f, k)) = absurd (no_newline mark mark after m (sym e ∙ f))
both_begin mark text after more m (inr e) (inr f) = (same_line mark mark after more m m (sym e ∙ f)).1

-- takes a line off
shorten : (mark l ls text after : List ℕ) → rest_of mark (l ++ newline ∷ ls) text after → (inner : List ℕ) × ((text ≡ l ++ newline ∷ inner) × rest_of mark ls inner after)
shorten mark l ls text after (inl (e, n)) = (ls ++ mark, (e ∙ skip l ls mark, inl (refl, n)))
shorten mark l ls text after (inr e) = (ls ++ (mark ++ newline ∷ after), (e ∙ skip l ls (mark ++ newline ∷ after), inr refl))

same_lines : (mark text after more : List ℕ) (ls ms : List (List ℕ)) → IsLine mark → AllByRecursion (IsOther mark) ls → AllByRecursion (IsOther mark) ms → rest_of mark (ended ls) text after → rest_of mark (ended ms) text more → (ended ls ≡ ended ms) × (after ≡ more)
same_lines mark text after more [] [] m h k r s = (refl, both_begin mark text after more m r s)
same_lines mark text after more [] (n ∷ ms) m h k r s =
    let t = shorten mark n (ended ms) text more s in
    absurd (not_other mark n t.0 after m k.0 (subst (λ x. rest_of mark [] x after) t.1.0 r))
same_lines mark text after more (l ∷ ls) [] m h k r s =
    let t = shorten mark l (ended ls) text after r in
    absurd (not_other mark l t.0 more m h.0 (subst (λ x. rest_of mark [] x more) t.1.0 s))
same_lines mark text after more (l ∷ ls) (n ∷ ms) m h k r s =
    let t = shorten mark l (ended ls) text after r in
    let u = shorten mark n (ended ms) text more s in
    let e = same_line l n t.0 u.0 h.0.0 k.0.0 (sym t.1.0 ∙ u.1.0) in
    let p = same_lines mark t.0 after more ls ms m h.1 k.1 t.1.1 (subst (λ x. rest_of mark (ended ms) x more) (sym e.1) u.1.1) in
    (rw (e.0, p.0) refl, p.1)

one_around : (mark text before after front behind : List ℕ) → IsLine mark → FirstLine mark text before after → FirstLine mark text front behind → (before ≡ front) × (after ≡ behind)
one_around mark text before after front behind m f g =
    let r = subst (λ b. rest_of mark b text after) f.front f.around in
    let s = subst (λ b. rest_of mark b text behind) g.front g.around in
    let p = same_lines mark text after behind f.lines g.lines m f.others g.others r s in
    (f.front ∙ p.0 ∙ sym g.front, p.1)

-- ---- no line of a mark

none_here : (mark text after : List ℕ) (ls ms : List (List ℕ)) (last : List ℕ) → IsLine mark → AllByRecursion (IsOther mark) ls → AllByRecursion (IsOther mark) ms → IsOther mark last → rest_of mark (ended ls) text after → text ≡ ended ms ++ last → ⊥
none_here mark text after [] [] last m h k o (inl (e, n)) w = o.1 (sym w ∙ e)
none_here mark text after [] [] last m h k o (inr e) w = no_newline mark last after o.0 (sym e ∙ w)
none_here mark text after [] (n ∷ ms) last m h k o r w = not_other mark n (ended ms ++ last) after m k.0 (subst (λ x. rest_of mark [] x after) (w ∙ skip n (ended ms) last) r)
none_here mark text after (l ∷ ls) [] last m h k o r w =
    let t = shorten mark l (ended ls) text after r in
    no_newline l last t.0 o.0 (sym t.1.0 ∙ w)
none_here mark text after (l ∷ ls) (n ∷ ms) last m h k o r w =
    let t = shorten mark l (ended ls) text after r in
    let e = same_line l n t.0 (ended ms ++ last) h.0.0 k.0.0 (sym t.1.0 ∙ w ∙ skip n (ended ms) last) in
    none_here mark t.0 after ls ms last m h.1 k.1 o t.1.1 e.1

not_both : (mark text before after : List ℕ) → IsLine mark → FirstLine mark text before after → NoLine mark text → ⊥
not_both mark text before after m f n =
    none_here mark text after f.lines n.lines n.last m f.others n.others n.last_other (subst (λ b. rest_of mark b text after) f.front f.around) n.whole

-- ---- parts

line_in : (bs : List ℕ) → AllByRecursion (λ b. b ≢ newline) bs → IsLine bs
line_in [] h (k, within, is) = absurd (omega (arith, within))
line_in (b ∷ bs) h (zero, within, is) = h.0 is
line_in (b ∷ bs) h (suc k, within, is) = line_in bs h.1 (k, omega (arith, within), is)

abbrev has_none : List ℕ → Bool
has_none [] = true
has_none (b ∷ bs) = if nat_eq b newline then false else has_none bs

not_newline : (bs : List ℕ) → has_none bs ≡ true → AllByRecursion (λ b. b ≢ newline) bs
not_newline [] h = tt
not_newline (b ∷ bs) h = by (nat_eq b newline) refl (not_newline bs) h
  where
    by : (t : Bool) → nat_eq b newline ≡ t → (has_none bs ≡ true → AllByRecursion (λ c. c ≢ newline) bs) → (if t then false else has_none bs) ≡ true → AllByRecursion (λ c. c ≢ newline) (b ∷ bs)
    by true e more k = absurd (false≢true k)
    by false e more k = (λ is. false≢true (sym e ∙ (ap (λ c. nat_eq c newline) is ∙ refl)), more k)

script_line : IsLine script_mark
script_line = line_in script_mark (not_newline script_mark refl)

reply_line : IsLine reply_mark
reply_line = line_in reply_mark (not_newline reply_mark refl)

one_reply : (rest reply other : List ℕ) → IsReply rest reply → IsReply rest other → reply ≡ other
one_reply rest reply other (inl e) (inl f) = append_cancel_right reply other (newline ∷ []) (sym e ∙ f)
one_reply rest reply other (inl e) (inr (f, n)) = absurd (n reply e)
one_reply rest reply other (inr (e, n)) (inl f) = absurd (n other f)
one_reply rest reply other (inr (e, n)) (inr (f, m)) = sym e ∙ f

-- the same program, script and reply
abbrev AreSame : List ℕ → List ℕ → Option (List ℕ) → List ℕ → List ℕ → Option (List ℕ) → Type 0
AreSame p s r q t u = (p ≡ q) × (s ≡ t) × (r ≡ u)

pub one_parts : (text p s q t : List ℕ) (r u : Option (List ℕ)) → HasParts text p s r → HasParts text q t u → AreSame p s r q t u
one_parts text _ _ _ _ _ _ (alone n) (alone m) = (refl, refl, refl)
one_parts text _ _ _ _ _ _ (alone n) (scripted q t f m) = absurd (not_both script_mark text q t script_line f n)
one_parts text _ _ _ _ _ _ (alone n) (replied q rest t behind u f g is) = absurd (not_both script_mark text q rest script_line f n)
one_parts text _ _ _ _ _ _ (scripted p s f n) (alone m) = absurd (not_both script_mark text p s script_line f m)
one_parts text _ _ _ _ _ _ (scripted p s f n) (scripted q t g m) = let e = one_around script_mark text p s q t script_line f g in (e.0, e.1, refl)
one_parts text _ _ _ _ _ _ (scripted p s f n) (replied q rest t behind u g h is) =
    let e = one_around script_mark text p s q rest script_line f g in
    absurd (not_both reply_mark s t behind reply_line (subst (λ x. FirstLine reply_mark x t behind) (sym e.1) h) n)
one_parts text _ _ _ _ _ _ (replied p rest s behind r f g is) (alone m) = absurd (not_both script_mark text p rest script_line f m)
one_parts text _ _ _ _ _ _ (replied p rest s behind r f g is) (scripted q t h m) =
    let e = one_around script_mark text p rest q t script_line f h in
    absurd (not_both reply_mark t s behind reply_line (subst (λ x. FirstLine reply_mark x s behind) e.1 g) m)
one_parts text _ _ _ _ _ _ (replied p rest s behind r f g is) (replied q other t more u h k it) =
    let e = one_around script_mark text p rest q other script_line f h in
    let d = one_around reply_mark other s behind t more reply_line (subst (λ x. FirstLine reply_mark x s behind) e.1 g) k in
    (e.0, d.0, ap Some (one_reply more r u (subst (λ x. IsReply x r) d.1 is) it))
