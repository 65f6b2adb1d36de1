-- Tests one after another.
use Rattle.std.proofs.Common.{◌≡◌, List, [], ◌∷◌, ◌++◌, refl, sym, ◌∙◌, subst, append_assoc, append-nil, inl, inr}
use Rattle.std.specs.Prelude.{Result, Ok, Err, OnOk}
use Rattle.flight_script.specs.declared.fault.ScriptFault.{ScriptFault}
use Rattle.flight_script.specs.Tests.{Test, AllPass, IsFirstFault, Refuses}

pub all_behind : (ts us : List Test) → AllPass ts → AllPass us → AllPass (ts ++ us)
all_behind [] us h k = k
all_behind (t ∷ ts) us h k = (h.0, all_behind ts us h.1 k)

first_front : (ts us : List Test) (e : ScriptFault) → IsFirstFault ts e → IsFirstFault (ts ++ us) e
first_front [] us e h = absurd h
first_front (t ∷ ts) us e (inl here) = inl here
first_front (t ∷ ts) us e (inr later) = inr (later.0, first_front ts us e later.1)

first_behind : (ts us : List Test) (e : ScriptFault) → AllPass ts → IsFirstFault us e → IsFirstFault (ts ++ us) e
first_behind [] us e h f = f
first_behind (t ∷ ts) us e h f = inr (h.0, first_behind ts us e h.1 f)

pub refuses_front : (ts us : List Test) (e : ScriptFault) → Refuses ts e → Refuses (ts ++ us) e
refuses_front ts us e (inl memory) = inl memory
refuses_front ts us e (inr f) = inr (first_front ts us e f)

pub refuses_behind : (ts us : List Test) (e : ScriptFault) → AllPass ts → Refuses us e → Refuses (ts ++ us) e
refuses_behind ts us e h (inl memory) = inl memory
refuses_behind ts us e h (inr f) = inr (first_behind ts us e h f)

-- ---- what is left of some tests, where those before it pass

pub record Passed (all rest : List Test) : Type 0 where
  pub done : List Test
  pub split : all ≡ done ++ rest
  pub passed : AllPass done

pub passed_start : (all : List Test) → Passed all all
passed_start all = record { done = []; split = refl; passed = tt }

pub passed_on : (all now rest : List Test) → Passed all (now ++ rest) → AllPass now → Passed all rest
passed_on all now rest p h = record { done = p.done ++ now; split = p.split ∙ sym (append_assoc p.done now rest); passed = all_behind p.done now p.passed h }

pub passed_end : (all : List Test) → Passed all [] → AllPass all
passed_end all p = subst AllPass (sym (p.split ∙ append-nil p.done)) p.passed

pub passed_refuses : (all now rest : List Test) (e : ScriptFault) → Passed all (now ++ rest) → Refuses now e → Refuses all e
passed_refuses all now rest e p r = subst (λ ts. Refuses ts e) (sym p.split) (refuses_behind p.done (now ++ rest) e p.passed (refuses_front now rest e r))

-- ---- a fact that is known anyway

pub on_ok : {A E : Type 0} (r : Result A E) (P : Type 0) → P → OnOk r P
on_ok (Ok x) P h = h
on_ok (Err e) P h = tt
