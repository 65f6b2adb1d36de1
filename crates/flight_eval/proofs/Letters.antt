-- The names of the tests' sources and streams ascend.
use Rattle.std.proofs.Common.{◌≡◌, refl, sym, subst, List, [], ◌∷◌, map}
use Rattle.std.specs.Prelude.{codes}
use Rattle.std.specs.List.Sorted.{IsStrictlySortedBy}
use Rattle.flight_value.specs.Graph.{Ascend}
use Rattle.flight_syntax.specs.declared.script.Data.{Data}
use Rattle.flight_syntax.specs.declared.script.Flowing.{Flowing}

pub letters_ascend : (sources : List Data) (streams : List Flowing) → map (λ d. d.name) sources ≡ codes "a" ∷ codes "b" ∷ codes "c" ∷ codes "d" ∷ codes "e" ∷ [] → map (λ f. f.name) streams ≡ codes "f" ∷ codes "g" ∷ [] → Ascend (map (λ d. d.name) sources) × Ascend (map (λ f. f.name) streams)
unfolding IsStrictlySortedBy
letters_ascend sources streams e f = (
  subst Ascend (sym e) ((refl, (refl, (refl, (refl, tt)))), ((refl, (refl, (refl, tt))), ((refl, (refl, tt)), ((refl, tt), (tt, tt))))),
  subst Ascend (sym f) ((refl, tt), (tt, tt)),
)
