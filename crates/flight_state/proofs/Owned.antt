-- Tasks that own one id are one.
use Rattle.std.proofs.Common.{◌≡◌, Bool, true, false, cond, ◌||◌, ◌⊎◌, inl, inr, List, [], ◌∷◌, refl, sym, ap, ◌∙◌, subst}
use Rattle.std.proofs.lemmas.Bool.{false≢true}
use Rattle.std.proofs.lemmas.Option.{none-some}
use Rattle.flight_render.specs.declared.job.What.{What}
use Rattle.flight_render.specs.declared.job.What.TheVariants as what
use Rattle.flight_value.specs.Listed.{In, Distinct}
use Rattle.flight_state.specs.State.{Task, IsLive, is_live, IsAlone, is_alone, owns_id, own_ids}
use Rattle.flight_state.proofs.Tasks.{live_true}

abbrev pub Owns : Task → Type 0
Owns t = owns_id t ≡ true

or_right : (b c : Bool) → c ≡ true → (b || c) ≡ true
or_right true c e = refl
or_right false c e = e

or_left : (b c : Bool) → b ≡ true → (b || c) ≡ true
or_left true c e = refl
or_left false c e = absurd (false≢true e)

pub alone_true : (w : What) → IsAlone w → is_alone w ≡ true
alone_true what.Root e = refl
alone_true (what.Element n tables) e = refl
alone_true (what.Promise s) e = refl
alone_true (what.Known s) e = refl
alone_true (what.Item s i) e = absurd (none-some s (sym e))
alone_true (what.Last s) e = absurd (none-some s (sym e))

pub live_owns : (t : Task) → IsLive t.status → Owns t
live_owns t l = or_right (is_alone t.what) (is_live t.status) (live_true t.status l)

pub alone_owns : (t : Task) → IsAlone t.what → Owns t
alone_owns t e = or_left (is_alone t.what) (is_live t.status) (alone_true t.what e)

pub id_in : (ts : List Task) (t : Task) → In t ts → Owns t → In t.id (own_ids ts)
id_in [] t i c = absurd i
id_in (x ∷ ts) t i c = go (owns_id x) refl i (λ k. id_in ts t k c)
  where
    go : (b : Bool) → owns_id x ≡ b → (t ≡ x) ⊎ In t ts → (In t ts → In t.id (own_ids ts)) → In t.id (cond b (x.id ∷ own_ids ts) (own_ids ts))
    go true e (inl q) rest = inl (ap (λ (z : Task). z.id) q)
    go true e (inr k) rest = inr (rest k)
    go false e (inl q) rest = absurd (false≢true (sym e ∙ (ap owns_id (sym q) ∙ c)))
    go false e (inr k) rest = rest k

pub one_of : (ts : List Task) → Distinct (own_ids ts) → (t u : Task) → In t ts → In u ts → Owns t → Owns u → t.id ≡ u.id → t ≡ u
one_of [] d t u i k c c' e = absurd i
one_of (x ∷ ts) d t u i k c c' e = go (owns_id x) refl d i k (λ d' i' k'. one_of ts d' t u i' k' c c' e)
  where
    go : (b : Bool) → owns_id x ≡ b → Distinct (cond b (x.id ∷ own_ids ts) (own_ids ts)) → (t ≡ x) ⊎ In t ts → (u ≡ x) ⊎ In u ts → (Distinct (own_ids ts) → In t ts → In u ts → t ≡ u) → t ≡ u
    go b q d' (inl m) (inl n) rest = m ∙ sym n
    go true q d' (inl m) (inr n) rest = absurd (d'.0 (subst (λ z. In z (own_ids ts)) (sym e ∙ ap (λ (z : Task). z.id) m) (id_in ts u n c')))
    go true q d' (inr m) (inl n) rest = absurd (d'.0 (subst (λ z. In z (own_ids ts)) (e ∙ ap (λ (z : Task). z.id) n) (id_in ts t m c)))
    go true q d' (inr m) (inr n) rest = rest d'.1 m n
    go false q d' (inl m) (inr n) rest = absurd (false≢true (sym q ∙ (ap owns_id (sym m) ∙ c)))
    go false q d' (inr m) (inl n) rest = absurd (false≢true (sym q ∙ (ap owns_id (sym n) ∙ c')))
    go false q d' (inr m) (inr n) rest = rest d' m n

pub distinct_rest : (x : Task) (ts : List Task) → Distinct (own_ids (x ∷ ts)) → Distinct (own_ids ts)
distinct_rest x ts d = go (owns_id x) d
  where
    go : (b : Bool) → Distinct (cond b (x.id ∷ own_ids ts) (own_ids ts)) → Distinct (own_ids ts)
    go true e = e.1
    go false e = e
