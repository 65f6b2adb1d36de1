-- Fields are gathered part by part.
use Rattle.std.proofs.Common.{◌≡◌, ℕ, zero, suc, ◌+◌, ◌<◌, true, List, [], ◌∷◌, ◌++◌, length, get_or, flat_map, None, Result, Ok, Err, OnOk, IfOk, refl, sym, ap, ◌∙◌, arith, append_assoc, append-nil, length-append}
use Rattle.std.specs.Prelude.{unwrap_or}
use Rattle.std.proofs.lemmas.Option.{slice_get_read}
use Rattle.std.proofs.lemmas.List.Concat.{flat_map-append}
use Rattle.json.specs.Token.{Token}
use Rattle.json.specs.Print.{print}
use Rattle.flight_value.specs.declared.graph.Slot.{Slot}
use Rattle.flight_value.specs.declared.graph.Node.{Node}
use Rattle.flight_value.specs.declared.graph.Graph.{Graph}
use Rattle.flight_payload.specs.Written.{tokens_of}
use Rattle.flight_graph.specs.Canon.{node_at}
use Rattle.flight_graph.specs.Ordered.{in_order}
use Rattle.flight_reply.specs.declared.field.Field.{Field}
use Rattle.flight_reply_out.specs.declared.home.Home.{Home}
use Rattle.flight_reply_out.specs.Homes.{root_of, home_at, planned, homes_of}
use Rattle.flight_reply_out.specs.Fields.{field, shown, token_fields, value_fields, node_fields, fields_under, fields_of}

pub on_ok : {A E : Type 0} (P Q : Type 0) (r : Result A E) → (P → Q) → OnOk r P → OnOk r Q
on_ok P Q (Ok a) f p = f p
on_ok P Q (Err e) f p = tt

pub from_ok : {A E : Type 0} (P Q : A → Type 0) (r : Result A E) → ((a : A) → P a → Q a) → IfOk r P → IfOk r Q
from_ok P Q (Ok a) f p = f a p
from_ok P Q (Err e) f p = tt

pub home_is : (homes : List Home) (n : ℕ) (x : Home) → n < length homes → x ≡ get_or homes n x → home_at homes n ≡ x
home_is homes n x lt is = ap (λ o. unwrap_or o (record { place = root_of 0; apart = true; content = 0 })) (slice_get_read homes (length homes) n x refl lt is)

-- the parts of a node
pub parts_pushed : (nodes : List Node) (homes : List Home) (n : ℕ) (home : Home) (node : Node) (start mid last : List Field) → node_at nodes n ≡ node → home_at homes n ≡ home → mid ≡ start ++ token_fields nodes homes n home node → last ≡ mid ++ value_fields nodes homes n home node
    → last ≡ start ++ node_fields nodes homes n
parts_pushed nodes homes n home node start mid last is at e f =
    f
    ∙ (ap (λ fs. fs ++ value_fields nodes homes n home node) e
    ∙ (append_assoc start (token_fields nodes homes n home node) (value_fields nodes homes n home node)
    ∙ (ap (λ h. start ++ (token_fields nodes homes n h node ++ value_fields nodes homes n h node)) (sym at)
    ∙ ap (λ x. start ++ (token_fields nodes homes n (home_at homes n) x ++ value_fields nodes homes n (home_at homes n) x)) (sym is))))

pub root_pushed : (nodes : List Node) (homes : List Home) (root : Slot) (start fields : List Field) (before written : List Token) → start ≡ [] → before ≡ [] → written ≡ before ++ tokens_of (shown nodes homes None root) → fields ≡ start ++ record { name = 0; value = print written } ∷ []
    → fields ≡ field 0 (shown nodes homes None root) ∷ []
root_pushed nodes homes root start fields before written s b w f =
    f ∙ (ap (λ fs. fs ++ record { name = 0; value = print written } ∷ []) s ∙ ap (λ ts. record { name = 0; value = print ts } ∷ []) (w ∙ ap (λ ts. ts ++ tokens_of (shown nodes homes None root)) b))

-- one node more
pub nodes_more : (nodes : List Node) (homes : List Home) (first : Field) (n : ℕ) (old new : List Field) → old ≡ first ∷ flat_map (node_fields nodes homes) (in_order n) → new ≡ old ++ node_fields nodes homes n → new ≡ first ∷ flat_map (node_fields nodes homes) (in_order (n + 1))
nodes_more nodes homes first n old new e f =
    let one : n + 1 ≡ suc n = omega arith in
    f
    ∙ (ap (λ fs. fs ++ node_fields nodes homes n) e
    ∙ ap (λ fs. first ∷ fs)
    (ap (λ fs. flat_map (node_fields nodes homes) (in_order n) ++ fs) (sym (append-nil (node_fields nodes homes n)))
    ∙ (sym (flat_map-append (node_fields nodes homes) (in_order n) (n ∷ [])) ∙ ap (λ m. flat_map (node_fields nodes homes) (in_order m)) (sym one))))

planned_count : (nodes : List Node) (n : ℕ) → length (planned nodes n).homes ≡ n
planned_count nodes zero = refl
planned_count nodes (suc n) = let h = planned_count nodes n in length-append (planned nodes n).homes _ ∙ omega (arith, h)

pub homes_count : (nodes : List Node) → length (homes_of nodes) ≡ length nodes
homes_count nodes = planned_count nodes (length nodes)

pub fields_are : (g : Graph) (nodes : List Node) (homes : List Home) (fields : List Field) → nodes ≡ g.nodes → homes ≡ homes_of nodes → fields ≡ fields_under nodes homes g.root → fields ≡ fields_of g
unfolding fields_of
fields_are g nodes homes fields n h e = e ∙ (ap (λ hs. fields_under nodes hs g.root) h ∙ ap (λ ns. fields_under ns (homes_of ns) g.root) n)
