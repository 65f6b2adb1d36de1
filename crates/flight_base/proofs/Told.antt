-- Bytes that are told.
use Rattle.std.proofs.Common.{◌≡◌, ℕ, List, ◌++◌, length, refl, sym, ◌∙◌, ap, append_assoc, arith, length-append}
use Rattle.std.specs.Prelude.{Option, Some, None}
use Rattle.flight_base.specs.Outside.{raised, Takes, TookFront, appended}

-- one piece after another
pub Takes-more : (a b c : Option (List ℕ)) (came next : List ℕ) → Takes a b came → Takes b c next → Takes a c (came ++ next)
Takes-more None None None came next h k = tt
Takes-more None None (Some r) came next h k = k
Takes-more None (Some r) c came next h k = absurd h
Takes-more (Some l) None c came next h k = absurd h
Takes-more (Some l) (Some r) None came next h k = k
Takes-more (Some l) (Some r) (Some q) came next h k = h ∙ (ap (λ xs. came ++ xs) k ∙ sym (append_assoc came next q))

-- writing twice is writing both at once
pub appended-append : (a : Option (List ℕ)) (x y : List ℕ) → appended (appended a x) y ≡ appended a (x ++ y)
appended-append None x y = refl
appended-append (Some h) x y = ap Some (append_assoc h x y)

-- a front that came, and then one piece more
pub TookFront-more : (a b c : Option (List ℕ)) (met before now : ℕ) (came next : List ℕ) (n : ℕ) → Takes a b came → before ≡ raised met (length came) → Takes b c next → n ≡ length next → now ≡ raised before n → TookFront a c met now
TookFront-more a b c met before now came next n h e k l f =
    record {
      came = came ++ next;
      front = Takes-more a b c came next h k;
      counted = let s = length-append came next in omega (arith, e, l, f, s);
    }
