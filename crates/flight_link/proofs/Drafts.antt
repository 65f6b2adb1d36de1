-- Texts with gaps: what a piece more or a gap more makes of their parts, and how the gaps are filled.
use Rattle.std.proofs.Common.{◌≡◌, ℕ, ◌+◌, ◌-◌, ◌<◌, ◌≤◌, List, [], ◌∷◌, ◌++◌, length, take, drop, get_or, Ok, Err, refl, sym, ◌∙◌, ap, subst, arith, append_assoc}
use Rattle.std.specs.Prelude.{Result, OnErr, OnOk}
use Rattle.std.proofs.lemmas.List.{take-append-le, drop-append-le, length-append, length-drop, map-append, drop_all, drop_more}
use Rattle.std.proofs.Math.Seq.{take-length}
use Rattle.flight_link.specs.declared.gap.Gap.{Gap}
use Rattle.flight_link.specs.declared.key.NodeKey.{NodeKey}
use Rattle.flight_link.specs.Drafted.{Part, byte, number, plain, parts, Fits, reach, fill, AllKeys}

-- ---- a piece more

pub parts-push : (t s : List ℕ) (gs : List Gap) → Fits t gs → parts (t ++ s) gs ≡ parts t gs ++ plain s
parts-push t s [] fits = map-append byte t s
parts-push t s (g ∷ gs) fits =
    ap (λ x. plain x ++ number g.key ∷ parts (drop g.before (t ++ s)) gs) (take-append-le g.before t s fits.0)
    ∙ (ap (λ x. plain (take g.before t) ++ number g.key ∷ parts x gs) (drop-append-le g.before t s fits.0)
    ∙ (ap (λ x. plain (take g.before t) ++ number g.key ∷ x) (parts-push (drop g.before t) s gs fits.1)
    ∙ sym (append_assoc (plain (take g.before t)) (number g.key ∷ parts (drop g.before t) gs) (plain s))))

pub fits-push : (t s : List ℕ) (gs : List Gap) → Fits t gs → Fits (t ++ s) gs
fits-push t s [] fits = tt
fits-push t s (g ∷ gs) fits =
    let long = length-append t s in
    let within = fits.0 in
    (omega (arith, long, within), subst (λ x. Fits x gs) (sym (drop-append-le g.before t s fits.0)) (fits-push (drop g.before t) s gs fits.1))

-- what is left of a draft after writing: all and a piece more, or no gap
pub kept-fits : {A E : Type 0} (r : Result A E) (t u s : List ℕ) (gs hs : List Gap) (n m : ℕ) → OnOk r (u ≡ t ++ s) → OnOk r ((hs ≡ gs) × (m ≡ n)) → OnErr r ((hs ≡ []) × (m ≡ 0)) → Fits t gs × (n ≡ reach gs) → Fits u hs × (m ≡ reach hs)
kept-fits (Ok x) t u s gs hs n m is_more same none fits =
    (subst (λ y. Fits y hs) (sym is_more) (subst (Fits (t ++ s)) (sym same.0) (fits-push t s gs fits.0)), same.1 ∙ (fits.1 ∙ ap reach (sym same.0)))
kept-fits (Err x) t u s gs hs n m is_more same none fits = (subst (Fits u) (sym none.0) tt, none.1 ∙ ap reach (sym none.0))

pub kept-parts : {A E : Type 0} (r result : Result A E) (t u s : List ℕ) (gs hs : List Gap) (n m : ℕ) (ps : List Part) → result ≡ r → OnOk r (u ≡ t ++ s) → OnOk r ((hs ≡ gs) × (m ≡ n)) → Fits t gs × (n ≡ reach gs) → parts t gs ≡ ps → OnOk result (parts u hs ≡ ps ++ plain s)
kept-parts r result t u s gs hs n m ps same_result is_more same fits is_old = subst (λ x. OnOk x (parts u hs ≡ ps ++ plain s)) (sym same_result) (go r is_more same)
  where
    go : {A E : Type 0} (r : Result A E) → OnOk r (u ≡ t ++ s) → OnOk r ((hs ≡ gs) × (m ≡ n)) → OnOk r (parts u hs ≡ ps ++ plain s)
    go (Ok x) is_more same = ap (λ y. parts y hs) is_more ∙ (ap (parts (t ++ s)) same.0 ∙ (parts-push t s gs fits.0 ∙ ap (λ y. y ++ plain s) is_old))
    go (Err x) is_more same = tt

-- ---- a gap more

pub reach-within : (t : List ℕ) (gs : List Gap) → Fits t gs → reach gs ≤ length t
reach-within t [] fits = omega arith
reach-within t (g ∷ gs) fits =
    let within = fits.0 in
    let left = reach-within (drop g.before t) gs fits.1 in
    let long = length-drop g.before t in
    omega (arith, within, left, long)

pub reach-snoc : (gs : List Gap) (g : Gap) → reach (gs ++ g ∷ []) ≡ reach gs + g.before
reach-snoc [] g = omega arith
reach-snoc (h ∷ gs) g = let more = reach-snoc gs g in omega (arith, more)

left_behind : (t : List ℕ) (h : Gap) (gs : List Gap) (n : ℕ) → n ≡ length t - reach (h ∷ gs) → n ≡ length (drop h.before t) - reach gs
left_behind t h gs n e = let long = length-drop h.before t in omega (arith, e, long)

pub parts-snoc : (t : List ℕ) (gs : List Gap) (g : Gap) → Fits t gs → g.before ≡ length t - reach gs → parts t (gs ++ g ∷ []) ≡ parts t gs ++ number g.key ∷ []
parts-snoc t [] g fits e =
    let all : g.before ≡ length t = omega (arith, e) in
    ap (λ x. plain x ++ number g.key ∷ plain (drop g.before t)) (ap (λ n. take n t) all ∙ take-length t)
    ∙ ap (λ x. plain t ++ number g.key ∷ plain x) (drop_all g.before t (omega (arith, all)))
parts-snoc t (h ∷ gs) g fits e =
    ap (λ x. plain (take h.before t) ++ number h.key ∷ x) (parts-snoc (drop h.before t) gs g fits.1 (left_behind t h gs g.before e))
    ∙ sym (append_assoc (plain (take h.before t)) (number h.key ∷ parts (drop h.before t) gs) (number g.key ∷ []))

pub fits-snoc : (t : List ℕ) (gs : List Gap) (g : Gap) → Fits t gs → g.before ≡ length t - reach gs → Fits t (gs ++ g ∷ [])
fits-snoc t [] g fits e = (omega (arith, e), tt)
fits-snoc t (h ∷ gs) g fits e = (fits.0, fits-snoc (drop h.before t) gs g fits.1 (left_behind t h gs g.before e))

-- at the end of the text
pub gap-at_end : (t : List ℕ) (gs hs : List Gap) (g : Gap) (passed long : ℕ) → long ≡ length t → g.before ≡ long - passed → hs ≡ gs ++ g ∷ [] → Fits t gs × (passed ≡ reach gs) → Fits t hs × (long ≡ reach hs)
gap-at_end t gs hs g passed long is_long is_before is_more fits =
    let from = fits.1 in
    let e : g.before ≡ length t - reach gs = omega (arith, is_long, is_before, from) in
    let within = reach-within t gs fits.0 in
    let up : long ≡ reach gs + g.before = omega (arith, is_long, e, within) in
    (subst (Fits t) (sym is_more) (fits-snoc t gs g fits.0 e), up ∙ (sym (reach-snoc gs g) ∙ ap reach (sym is_more)))

pub gap-at_end-parts : (t : List ℕ) (gs hs : List Gap) (g : Gap) (passed long : ℕ) (ps : List Part) → long ≡ length t → g.before ≡ long - passed → hs ≡ gs ++ g ∷ [] → Fits t gs × (passed ≡ reach gs) → parts t gs ≡ ps → parts t hs ≡ ps ++ number g.key ∷ []
gap-at_end-parts t gs hs g passed long ps is_long is_before is_more fits is_old =
    let from = fits.1 in
    let e : g.before ≡ length t - reach gs = omega (arith, is_long, is_before, from) in
    ap (parts t) is_more ∙ (parts-snoc t gs g fits.0 e ∙ ap (λ x. x ++ number g.key ∷ []) is_old)

-- ---- gaps that are filled

pub fill-plain : (f : NodeKey → List ℕ) (s : List ℕ) (ps : List Part) → fill f (plain s ++ ps) ≡ s ++ fill f ps
fill-plain f [] ps = refl
fill-plain f (b ∷ s) ps = ap (λ x. b ∷ x) (fill-plain f s ps)

pub fill-plain_only : (f : NodeKey → List ℕ) (s : List ℕ) → fill f (plain s) ≡ s
fill-plain_only f [] = refl
fill-plain_only f (b ∷ s) = ap (λ x. b ∷ x) (fill-plain_only f s)

pub keys-plain : (P : NodeKey → Type 0) (s : List ℕ) → AllKeys P (plain s)
keys-plain P [] = tt
keys-plain P (b ∷ s) = keys-plain P s

pub keys-behind : (P : NodeKey → Type 0) (s : List ℕ) (ps : List Part) → AllKeys P (plain s ++ ps) → AllKeys P ps
keys-behind P [] ps h = h
keys-behind P (b ∷ s) ps h = keys-behind P s ps h

pub keys-before : (P : NodeKey → Type 0) (s : List ℕ) (ps : List Part) → AllKeys P ps → AllKeys P (plain s ++ ps)
keys-before P [] ps h = h
keys-before P (b ∷ s) ps h = keys-before P s ps h

-- ---- one gap of those that are left

next_gap : (gs : List Gap) (i : ℕ) (g d : Gap) → i < length gs → g ≡ get_or gs i d → drop i gs ≡ g ∷ drop (i + 1) gs
next_gap gs i g d less e = drop_more gs i d less ∙ ap (λ x. x ∷ drop (i + 1) gs) (sym e)

pub gap-within : (t : List ℕ) (gs : List Gap) (i : ℕ) (g d : Gap) → i < length gs → g ≡ get_or gs i d → Fits t (drop i gs) → g.before ≤ length t
gap-within t gs i g d less e fits = (subst (Fits t) (next_gap gs i g d less e) fits).0

pub gap-fits : (t rest : List ℕ) (gs : List Gap) (i : ℕ) (g d : Gap) → i < length gs → g ≡ get_or gs i d → rest ≡ drop g.before t → Fits t (drop i gs) → Fits rest (drop (i + 1) gs)
gap-fits t rest gs i g d less e is_rest fits = subst (λ x. Fits x (drop (i + 1) gs)) (sym is_rest) (subst (Fits t) (next_gap gs i g d less e) fits).1

keys_of_next : (P : NodeKey → Type 0) (t : List ℕ) (gs : List Gap) (i : ℕ) (g d : Gap) → i < length gs → g ≡ get_or gs i d → AllKeys P (parts t (drop i gs)) → P g.key × AllKeys P (parts (drop g.before t) (drop (i + 1) gs))
keys_of_next P t gs i g d less e h =
    keys-behind P (take g.before t) (number g.key ∷ parts (drop g.before t) (drop (i + 1) gs)) (subst (λ x. AllKeys P (parts t x)) (next_gap gs i g d less e) h)

pub gap-key : (P : NodeKey → Type 0) (t : List ℕ) (gs : List Gap) (i : ℕ) (g d : Gap) → i < length gs → g ≡ get_or gs i d → AllKeys P (parts t (drop i gs)) → P g.key
gap-key P t gs i g d less e h = (keys_of_next P t gs i g d less e h).0

pub gap-keys : (P : NodeKey → Type 0) (t rest : List ℕ) (gs : List Gap) (i : ℕ) (g d : Gap) → i < length gs → g ≡ get_or gs i d → rest ≡ drop g.before t → AllKeys P (parts t (drop i gs)) → AllKeys P (parts rest (drop (i + 1) gs))
gap-keys P t rest gs i g d less e is_rest h = subst (λ x. AllKeys P (parts x (drop (i + 1) gs))) (sym is_rest) (keys_of_next P t gs i g d less e h).1

pub gap-numbered : (P : NodeKey → Type 0) (t rest : List ℕ) (gs : List Gap) (i : ℕ) (g d : Gap) → i < length gs → g ≡ get_or gs i d → rest ≡ drop g.before t → P g.key → AllKeys P (parts rest (drop (i + 1) gs)) → AllKeys P (parts t (drop i gs))
gap-numbered P t rest gs i g d less e is_rest p h =
    subst (λ x. AllKeys P (parts t x)) (sym (next_gap gs i g d less e))
    (keys-before P (take g.before t) (number g.key ∷ parts (drop g.before t) (drop (i + 1) gs)) (p, subst (λ x. AllKeys P (parts x (drop (i + 1) gs))) is_rest h))

pub gap-filled : (f : NodeKey → List ℕ) (t rest : List ℕ) (gs : List Gap) (i : ℕ) (g d : Gap) (old new all : List ℕ) → i < length gs → g ≡ get_or gs i d → rest ≡ drop g.before t → new ≡ old ++ take g.before t ++ f g.key → old ++ fill f (parts t (drop i gs)) ≡ all → new ++ fill f (parts rest (drop (i + 1) gs)) ≡ all
gap-filled f t rest gs i g d old new all less e is_rest is_new so_far =
    let left : List Part = parts (drop g.before t) (drop (i + 1) gs) in
    ap (λ x. new ++ fill f (parts x (drop (i + 1) gs))) is_rest
    ∙ (ap (λ x. x ++ fill f left) is_new
    ∙ (append_assoc (old ++ take g.before t) (f g.key) (fill f left)
    ∙ (append_assoc old (take g.before t) (f g.key ++ fill f left)
    ∙ (ap (λ x. old ++ x) (sym (fill-plain f (take g.before t) (number g.key ∷ left)))
    ∙ (ap (λ x. old ++ fill f (parts t x)) (sym (next_gap gs i g d less e)) ∙ so_far)))))

-- ---- none is left

pub none_left : (P : NodeKey → Type 0) (t : List ℕ) (gs : List Gap) (i : ℕ) → length gs ≤ i → AllKeys P (parts t (drop i gs))
none_left P t gs i past = subst (λ x. AllKeys P (parts t x)) (sym (drop_all i gs past)) (keys-plain P t)

pub all_filled : (f : NodeKey → List ℕ) (t : List ℕ) (gs : List Gap) (i : ℕ) (out all : List ℕ) → length gs ≤ i → out ++ fill f (parts t (drop i gs)) ≡ all → out ++ t ≡ all
all_filled f t gs i out all past so_far =
    ap (λ x. out ++ x) (sym (fill-plain_only f t)) ∙ (ap (λ x. out ++ fill f (parts t x)) (sym (drop_all i gs past)) ∙ so_far)
