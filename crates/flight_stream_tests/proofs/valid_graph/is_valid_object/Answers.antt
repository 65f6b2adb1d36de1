use Rattle.std.proofs.Common.{◌≡◌, ◌<◌, ◌≤◌, List, [], ◌∷◌, length, get_or, subst, arith}
use Rattle.std.specs.Ordering.{nat_cmp}
use Rattle.std.specs.Cmp.Lexicographic.{slice_cmp}
use Rattle.std.specs.List.Sorted.{IsStrictlySortedBy}
use Rattle.std.specs.declared.cmp.Ordering.TheVariants.{Less}
use Rattle.std.proofs.lemmas.List.Elements.{All-from_recursion}
use Rattle.flight_value.specs.Graph.{IsValidNode, IsValidSlot}
use Rattle.flight_value.specs.declared.graph.Prop.{Prop}
use Rattle.flight_value.specs.declared.graph.Node.{Node}
use Rattle.flight_value.specs.declared.graph.Node.TheVariants as node
use Rattle.flight_stream_tests.proofs.valid_graph.is_valid_object.Goals as goal

no_props : (nodes : List Node) (props : List Prop) → length props < 1 → IsValidNode nodes (node.Object props)
unfolding IsStrictlySortedBy
no_props nodes [] short = record { few = omega arith; slots = All-from_recursion (IsValidSlot (length nodes)) [] tt; kind = tt }
no_props nodes (x ∷ props) short = absurd (omega (arith, short))

one_prop : (nodes : List Node) (props : List Prop) (p : Prop) → 1 ≤ length props → length props < 2 → p ≡ get_or props 0 p → IsValidSlot (length nodes) p.slot → IsValidNode nodes (node.Object props)
unfolding IsStrictlySortedBy
one_prop nodes [] p long short is valid = absurd (omega (arith, long))
one_prop nodes (x ∷ []) p long short is valid =
    record {
      few = omega arith;
      slots = All-from_recursion (IsValidSlot (length nodes)) (x.slot ∷ []) (subst (λ (q : Prop). IsValidSlot (length nodes) q.slot) is valid, tt);
      kind = (tt, tt);
    }
one_prop nodes (x ∷ y ∷ props) p long short is valid = absurd (omega (arith, short))

two_props : (nodes : List Node) (props : List Prop) (p q : Prop) → 2 ≤ length props → length props < 3 → p ≡ get_or props 0 p → q ≡ get_or props 1 q → slice_cmp nat_cmp p.name q.name ≡ Less → IsValidSlot (length nodes) p.slot → IsValidSlot (length nodes) q.slot → IsValidNode nodes (node.Object props)
unfolding IsStrictlySortedBy
two_props nodes [] p q long short is is' less valid valid' = absurd (omega (arith, long))
two_props nodes (x ∷ []) p q long short is is' less valid valid' = absurd (omega (arith, long))
two_props nodes (x ∷ y ∷ []) p q long short is is' less valid valid' =
    record {
      few = omega arith;
      slots = All-from_recursion (IsValidSlot (length nodes)) (x.slot ∷ y.slot ∷ []) (subst (λ (r : Prop). IsValidSlot (length nodes) r.slot) is valid, (subst (λ (r : Prop). IsValidSlot (length nodes) r.slot) is' valid', tt));
      kind = ((subst (λ (r : Prop). slice_cmp nat_cmp x.name r.name ≡ Less) is' (subst (λ (r : Prop). slice_cmp nat_cmp r.name q.name ≡ Less) is less), tt), (tt, tt));
    }
two_props nodes (x ∷ y ∷ z ∷ props) p q long short is is' less valid valid' = absurd (omega (arith, short))

pub returns-in-empty : goal.returns-in-empty
returns-in-empty c = λ _. no_props c.args.nodes.now c.args.props.now c.in-empty.len_below

pub returns-in-len1 : goal.returns-in-len1
returns-in-len1 c = λ t. one_prop c.args.nodes.now c.args.props.now c.only-item.result c.in-len1.len_at_least c.in-len1.len_below c.only-item.is (c.is_valid_slot.ensures t)

pub returns-in-len2 : goal.returns-in-len2
returns-in-len2 c = λ t. let two = c.are_two.ensures t in two_props c.args.nodes.now c.args.props.now c.first-item.result c.second-item.result c.in-len2.len_at_least c.in-len2.len_below c.first-item.is c.second-item.is two.0 two.1 two.2
