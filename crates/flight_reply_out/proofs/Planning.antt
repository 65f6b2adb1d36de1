-- Homes come one by one, in the order of the nodes.
use Rattle.std.proofs.Common.{◌≡◌, ℕ, suc, ◌+◌, ◌<◌, Bool, List, [], ◌∷◌, ◌++◌, length, get_or, Option, refl, sym, ap, ◌∙◌, arith}
use Rattle.std.specs.Prelude.{unwrap_or}
use Rattle.std.proofs.lemmas.Option.{slice_get_read}
use Rattle.flight_value.specs.declared.graph.Node.{Node}
use Rattle.flight_value.specs.declared.graph.Node.TheVariants as node
use Rattle.flight_text.specs.declared.mark.Ref.{Ref}
use Rattle.flight_graph.specs.Canon.{node_at}
use Rattle.flight_reply_out.specs.declared.origin.Origin.{Origin}
use Rattle.flight_reply_out.specs.declared.home.Home.{Home}
use Rattle.flight_reply_out.specs.Origins.{origin_of}
use Rattle.flight_reply_out.specs.Homes.{has_entries, is_apart, place_for, one_if, home_with, planned, planned_next}

pub node_is : (nodes : List Node) (n : ℕ) (x : Node) → n < length nodes → x ≡ get_or nodes n x → node_at nodes n ≡ x
node_is nodes n x lt is = ap (λ o. unwrap_or o (node.Array [])) (slice_get_read nodes (length nodes) n x refl lt is)

next_is : (nodes : List Node) (n : ℕ) → planned_next nodes n (planned nodes n) ≡ planned nodes (n + 1)
next_is nodes n = let e : suc n ≡ n + 1 = omega arith in ap (planned nodes) e

module _ (nodes : List Node) (n parts : ℕ) (x : Node) (o : Option Origin) (at : Ref) (apart entries : Bool) (homes : List Home) (homes_are : homes ≡ (planned nodes n).homes) (parts_are : parts ≡ (planned nodes n).parts) (is : node_at nodes n ≡ x) (met : o ≡ origin_of nodes n) (stands : at ≡ place_for nodes homes o) (is_apart_so : apart ≡ is_apart x at) (entries_so : entries ≡ has_entries x) where
  pub homes_more : (home : Home) (next : List Home) → home ≡ home_with apart entries at parts → next ≡ homes ++ home ∷ [] → next ≡ (planned nodes (n + 1)).homes
  homes_more home next home_is next_are =
      next_are
      ∙ (ap (λ h. homes ++ h ∷ []) (home_is ∙ (rw (is_apart_so, entries_so, stands) refl))
      ∙ (ap (λ hs. F hs parts x o) homes_are
      ∙ (ap (λ p. F (planned nodes n).homes p x o) parts_are
      ∙ (ap (λ y. F (planned nodes n).homes (planned nodes n).parts y o) (sym is)
      ∙ (ap (F (planned nodes n).homes (planned nodes n).parts (node_at nodes n)) met
      ∙ ap (λ p. p.homes) (next_is nodes n))))))
    where
      F : List Home → ℕ → Node → Option Origin → List Home
      F hs p y o = hs ++ home_with (is_apart y (place_for nodes hs o)) (has_entries y) (place_for nodes hs o) p ∷ []

  pub parts_more : (next : ℕ) → next ≡ parts + one_if apart + one_if entries → next ≡ (planned nodes (n + 1)).parts
  parts_more next next_is_so =
      next_is_so
      ∙ ((rw (is_apart_so, entries_so, stands) refl)
      ∙ (ap (λ hs. G hs parts x o) homes_are
      ∙ (ap (λ p. G (planned nodes n).homes p x o) parts_are
      ∙ (ap (λ y. G (planned nodes n).homes (planned nodes n).parts y o) (sym is)
      ∙ (ap (G (planned nodes n).homes (planned nodes n).parts (node_at nodes n)) met
      ∙ ap (λ p. p.parts) (next_is nodes n))))))
    where
      G : List Home → ℕ → Node → Option Origin → ℕ
      G hs p y o = p + one_if (is_apart y (place_for nodes hs o)) + one_if (has_entries y)
