-- What a search by a key finds.
use Rattle.std.proofs.Common.{Bor, inl, inr, ◌≡◌, ◌≢◌, Bool, true, false, cond, [], ◌∷◌, Option, Some, None, IfSome, IfNone, refl, ap}
use Rattle.std.specs.Map.{lookup}
use Rattle.std.specs.Option.{option_copied}
use Rattle.flight_value.specs.declared.key.Key.{Key}
use Rattle.flight_text.specs.declared.mark.Ref.{Ref}
use Rattle.flight_value.specs.Listed.{In}
use Rattle.flight_home.specs.Homes.{Homes, IsNew}

module _ (test : Key → Bool) (key : Key) where
  pub lookup_in : ((x : Key) → test x ≡ true → key ≡ x) → (homes : Homes) → IfSome (lookup test homes) (λ home. In (key, home) homes)
  lookup_in same [] = tt
  lookup_in same (e ∷ es) = go (lookup_in same es) (test e.0) refl
    where
      more : (o : Option Ref) → IfSome o (λ home. In (key, home) es) → IfSome o (λ home. In (key, home) (e ∷ es))
      more None found = tt
      more (Some home) found = inr found

      go : IfSome (lookup test es) (λ home. In (key, home) es) → (b : Bool) → test e.0 ≡ b → IfSome (cond b (Some e.1) (lookup test es)) (λ home. In (key, home) (e ∷ es))
      go rest true h = inl (ap (λ z. (z, e.1)) (same e.0 h))
      go rest false h = more (lookup test es) rest

  pub lookup_new : ((x : Key) → test x ≡ false → key ≢ x) → (homes : Homes) → IfNone (lookup test homes) (IsNew key homes)
  lookup_new other [] = λ home at. at
  lookup_new other (e ∷ es) = go (lookup_new other es) (test e.0) refl
    where
      new : (test e.0 ≡ false) → IsNew key es → IsNew key (e ∷ es)
      new h rest home (inl at) = other e.0 h (ap (λ z. z.0) at)
      new h rest home (inr at) = rest home at

      more : (o : Option Ref) → test e.0 ≡ false → IfNone o (IsNew key es) → IfNone o (IsNew key (e ∷ es))
      more None h rest = new h rest
      more (Some home) h rest = tt

      go : IfNone (lookup test es) (IsNew key es) → (b : Bool) → test e.0 ≡ b → IfNone (cond b (Some e.1) (lookup test es)) (IsNew key (e ∷ es))
      go rest true h = tt
      go rest false h = more (lookup test es) h rest

  pub new_lookup : ((x : Key) → test x ≡ true → key ≡ x) → (homes : Homes) → IsNew key homes → lookup test homes ≡ None
  new_lookup same [] new = refl
  new_lookup same (e ∷ es) new = go (new_lookup same es (λ home at. new home (inr at))) (test e.0) refl
    where
      go : lookup test es ≡ None → (b : Bool) → test e.0 ≡ b → cond b (Some e.1) (lookup test es) ≡ None
      go rest true h = absurd (new e.1 (inl (ap (λ z. (z, e.1)) (same e.0 h))))
      go rest false h = rest

-- what is said of a copy is said of what was lent
pub lent_some : {A : Type 0} (P : A → Type 0) (o : Option (Bor A)) → IfSome (option_copied o) P → IfSome o (λ x. P x.now)
lent_some P None h = tt
lent_some P (Some x) h = h

pub lent_none : {A : Type 0} (P : Type 0) (o : Option (Bor A)) → IfNone (option_copied o) P → IfNone o P
lent_none P None h = h
lent_none P (Some x) h = tt
