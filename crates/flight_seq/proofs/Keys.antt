-- Keys under numbers.
use Rattle.std.proofs.Common.{rules, true, false, Bool, ◌||◌, ◌≡◌, ◌∙◌, ap, sym, refl, inl, inr, List, [], ◌∷◌, ◌++◌, true≢false, if◌then◌else◌}
use Rattle.std.specs.List.{list_any}
use Rattle.flight_value.specs.declared.key.Key.{Key}
use Rattle.flight_value.specs.contracts.key.KeyPartialEq.TheImpl.{eq-value}
use Rattle.flight_value.specs.Listed.{In}
use Rattle.flight_seq.specs.Walk.{Adds}

pub key_same : (x : Key) → eq-value.it x x ≡ true
key_same x = search rules

in_any : (ks : List Key) (k : Key) → In k ks → list_any (eq-value.it k) ks ≡ true
in_any (x ∷ ks) k (inl e) = ap (λ b. b || list_any (eq-value.it k) ks) (ap (eq-value.it k) (sym e) ∙ key_same k)
in_any (x ∷ ks) k (inr h) = either (eq-value.it k x) (list_any (eq-value.it k) ks) (in_any ks k h)
  where
    either : (a b : Bool) → b ≡ true → (a || b) ≡ true
    either true b e = refl
    either false b e = e
in_any [] k h = absurd h

pub adds : (old new : List Key) (k : Key) → new ≡ (if list_any (eq-value.it k) old then old else old ++ k ∷ []) → Adds old k new
adds old new k e = by (list_any (eq-value.it k) old) refl
  where
    by : (b : Bool) → list_any (eq-value.it k) old ≡ b → Adds old k new
    by true any = inl (e ∙ ap (λ c. if c then old else old ++ k ∷ []) any)
    by false any = inr (e ∙ ap (λ c. if c then old else old ++ k ∷ []) any, λ h. true≢false (sym (in_any old k h) ∙ any))
