-- The ground of a call over no data: an action of two parameters that adds them, and two numbers.
use Rattle.std.proofs.Common.{◌≡◌, ◌<◌, ℕ, List, [], ◌∷◌, Some, refl, sym, subst, ap, arith, pos, Bool, true, false, nat_eq}
use Rattle.std.proofs.lemmas.Bool.{false≢true}
use Rattle.std.specs.Prelude.{codes, slice_index, All}
use Rattle.std.specs.List.{AllByRecursion}
use Rattle.std.specs.List.Sorted.{IsStrictlySortedBy}
use Rattle.std.proofs.lemmas.List.Elements.{All-from_recursion}
use Rattle.flight_value.specs.Graph.{IsValid, IsValidNode, IsValidSlot, Ascend, slots_of}
use Rattle.flight_value.specs.declared.graph.Atom.TheVariants as value
use Rattle.flight_value.specs.declared.graph.Slot.{Slot}
use Rattle.flight_value.specs.declared.graph.Slot.TheVariants as slot
use Rattle.flight_value.specs.declared.graph.Node.{Node}
use Rattle.flight_value.specs.declared.graph.Node.TheVariants as node
use Rattle.flight_value.specs.declared.graph.Graph.{Graph}
use Rattle.flight_syntax.specs.declared.expr.Expr.{Expr}
use Rattle.flight_syntax.specs.declared.expr.Op.TheVariants.{Plus}
use Rattle.flight_syntax.specs.declared.program.Declared.{Declared}
use Rattle.flight_syntax.specs.declared.program.Declared.TheVariants as declared
use Rattle.flight_syntax.specs.declared.script.Script.{Script}
use Rattle.flight_syntax.specs.declared.script.Data.{Data}
use Rattle.flight_syntax.specs.declared.script.Flowing.{Flowing}
use Rattle.flight_syntax.specs.Script.{IsScript, IsData, IsFlowing}
use Rattle.flight_syntax.specs.Term.{Term, term, binary, variable, atom}
use Rattle.flight_render.specs.declared.root.Ground.{Ground}
use Rattle.flight_render.specs.declared.root.Root.TheVariants.{Call}
use Rattle.flight_render.specs.Valid.{IsValidGround, IsDeclared, IsLawful, NoneTwice, components, actions, AreArguments, IsArgumentKind, IsArgumentSlot, IsRoot}

abbrev pub no_data : Script
no_data = record { sources = []; streams = []; settlers = [] }

abbrev pub IsAdd : Declared → Type 0
IsAdd d = (body : Expr) × ((d ≡ declared.Action (codes "add") (codes "a" ∷ codes "b" ∷ []) body) × (term body ≡ binary Plus (variable 0) (variable 1)))

abbrev pub IsApp : Declared → Type 0
IsApp d = (body : Expr) × ((d ≡ declared.Server (codes "App") [] body) × (term body ≡ atom value.Null))

abbrev pub two_and_three : List Node
two_and_three = node.Array (slot.Atom (value.Whole (pos 2)) ∷ slot.Atom (value.Whole (pos 3)) ∷ []) ∷ []

abbrev pub calling : Declared → Declared → Graph → Ground
calling a b args = record { program = record { declared = a ∷ b ∷ [] }; script = no_data; root = Call 0 args }

ascend_none : Ascend []
unfolding IsStrictlySortedBy
ascend_none = tt

no_script : IsScript no_data
no_script = record {
  few_sources = omega arith;
  few_streams = omega arith;
  sources = ascend_none;
  each_source = λ k d h. absurd (omega (arith, h));
  streams = ascend_none;
  each_stream = λ k d h. absurd (omega (arith, h));
  few_settlers = omega arith;
  each_settler = λ k d h. absurd (omega (arith, h));
  once = λ i j d h k. absurd (omega (arith, k));
}

abbrev numbers : List Slot
numbers = slot.Atom (value.Whole (pos 2)) ∷ slot.Atom (value.Whole (pos 3)) ∷ []

numbers_valid : All (IsValidSlot 1) numbers
numbers_valid = All-from_recursion (IsValidSlot 1) numbers ((omega arith, omega arith), ((omega arith, omega arith), tt))

numbers_argued : All IsArgumentSlot numbers
numbers_argued = All-from_recursion IsArgumentSlot numbers (tt, (tt, tt))

array_valid : IsValidNode two_and_three (node.Array numbers)
array_valid = record { few = omega arith; slots = numbers_valid; kind = tt }

arguments_valid : IsValid (record { root = slot.Node 0; nodes = two_and_three })
arguments_valid = record {
  few = omega arith;
  valid_root = omega arith;
  each = All-from_recursion (IsValidNode two_and_three) two_and_three (array_valid, tt);
}

arguments : AreArguments 2 (record { root = slot.Node 0; nodes = two_and_three })
arguments = record {
  valid = arguments_valid;
  nodes = All-from_recursion (λ n. IsArgumentKind n × All IsArgumentSlot (slots_of n)) two_and_three ((tt, numbers_argued), tt);
  root = 0;
  is_root = refl;
  items = numbers;
  is_array = refl;
  one_each = refl;
}

-- whether a name is that of the first parameter
abbrev is_first : List ℕ → Bool
is_first [] = false
is_first (x ∷ xs) = nat_eq x 97

parameters_differ : codes "a" ≡ codes "b" → ⊥
parameters_differ e = let first : is_first (codes "b") ≡ true = subst (λ z. is_first z ≡ true) e refl in false≢true first

pub call_valid : (a b : Declared) (args : Graph) → IsAdd a → IsApp b → args ≡ record { root = slot.Node 0; nodes = two_and_three } → IsValidGround (calling a b args)
call_valid a b args p q e =
    let g = calling a b args in
    record {
      each = All-from_recursion (IsDeclared g) (a ∷ b ∷ []) (
        subst (IsDeclared g) (sym p.1.0) (((parameters_differ, tt), (tt, tt)), subst (IsLawful g 2) (sym p.1.1) (omega arith, omega arith)),
        (subst (IsDeclared g) (sym q.1.0) (tt, subst (IsLawful g 0) (sym q.1.1) tt), tt),
      );
      one_component = subst (λ d. NoneTwice (components (a ∷ d ∷ []))) (sym q.1.0) (subst (λ d. NoneTwice (components (d ∷ declared.Server (codes "App") [] q.0 ∷ []))) (sym p.1.0) (tt, tt));
      one_action = subst (λ d. NoneTwice (actions (a ∷ d ∷ []))) (sym q.1.0) (subst (λ d. NoneTwice (actions (d ∷ declared.Server (codes "App") [] q.0 ∷ []))) (sym p.1.0) (tt, tt));
      has_app = (1, ([], (q.0, ap Some q.1.0)));
      script = no_script;
      first = (2, (codes "add", (codes "a" ∷ codes "b" ∷ [], (p.0, ap Some p.1.0, refl))), subst (AreArguments 2) (sym e) arguments);
    }

-- the same, as a ground that was put together from parts
abbrev put : List Declared → List Data → List Flowing → List (List ℕ) → Graph → Ground
put declared sources streams settlers args = record { program = record { declared = declared }; script = record { sources = sources; streams = streams; settlers = settlers }; root = Call 0 args }

pub call_put : (a b : Declared) (args : Graph) (ds : List Declared) (sources : List Data) (streams : List Flowing) (settlers : List (List ℕ)) → IsAdd a → IsApp b → args ≡ record { root = slot.Node 0; nodes = two_and_three } → ds ≡ a ∷ b ∷ [] → sources ≡ [] → streams ≡ [] → settlers ≡ [] → IsValidGround (put ds sources streams settlers args)
call_put a b args ds sources streams settlers p q e d s t u =
    subst (λ z. IsValidGround (put z sources streams settlers args)) (sym d)
    (subst (λ z. IsValidGround (put (a ∷ b ∷ []) z streams settlers args)) (sym s)
    (subst (λ z. IsValidGround (put (a ∷ b ∷ []) [] z settlers args)) (sym t)
    (subst (λ z. IsValidGround (put (a ∷ b ∷ []) [] [] z args)) (sym u) (call_valid a b args p q e))))
