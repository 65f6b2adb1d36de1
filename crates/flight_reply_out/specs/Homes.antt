-- Where each node of a canon stands in the form.
use Rattle.std.specs.Prelude.{ℕ, zero, suc, ◌+◌, ◌/◌, ◌%◌, ◌||◌, nat_eq, nat_lt, nat_le, Bool, true, false, List, [], ◌∷◌, ◌++◌, length, codes, decimal, Option, Some, None, slice_get, unwrap_or, if◌then◌else◌}
use Rattle.std.specs.List.{list_any}
use Rattle.json.specs.Print.{token_text}
use Rattle.flight_value.specs.declared.graph.Prop.{Prop}
use Rattle.flight_value.specs.declared.graph.Node.{Node}
use Rattle.flight_value.specs.declared.graph.Node.TheVariants as node
use Rattle.flight_text.specs.Reference.{colon}
use Rattle.flight_text.specs.declared.mark.Ref.{Ref}
use Rattle.flight_meaning.specs.declared.place.Place.TheVariants as place
use Rattle.flight_payload.specs.Written.{token_of}
use Rattle.flight_graph.specs.Canon.{node_at}
use Rattle.flight_reply_out.specs.declared.origin.Origin.{Origin}
use Rattle.flight_reply_out.specs.declared.home.Home.{Home}
use Rattle.flight_reply_out.specs.Origins.{origin_of}

-- ---- which nodes have parts

-- promises and server references are parts
abbrev pub is_outlined : Node → Bool
is_outlined (node.Promise outcome) = true
is_outlined (node.Action id bound) = true
is_outlined n = false

-- Maps and Sets have their entries in a part
abbrev pub has_entries : Node → Bool
has_entries (node.Map pairs) = true
has_entries (node.Set items) = true
has_entries n = false

abbrev pub has_colon : List ℕ → Bool
has_colon name = list_any (λ b. nat_eq b colon) name

-- nothing else stands in place under a name with `:`, under 40 arrays and objects, or where a reference to it would have
-- more than 48 bytes, and two for its quotation marks
abbrev pub is_far : Ref → Bool
is_far at = list_any has_colon at.path || (nat_le 40 (length at.path) || nat_lt 50 (length (token_text (token_of (place.Value at)))))

abbrev pub is_apart : Node → Ref → Bool
is_apart n at = is_outlined n || is_far at

-- ---- places

abbrev pub root_of : ℕ → Ref
root_of part = record { id = part; path = [] }

abbrev pub name_of : Option Prop → List (List ℕ)
name_of (Some p) = p.name ∷ []
name_of None = []

-- the names that lead from a node to its slot i
abbrev pub steps_to : Node → ℕ → List (List ℕ)
steps_to (node.Array items) i = decimal i ∷ []
steps_to (node.Object props) i = name_of (slice_get props i)
steps_to (node.Map pairs) i = decimal (i / 2) ∷ decimal (i % 2) ∷ []
steps_to (node.Set items) i = decimal i ∷ []
steps_to (node.Action id bound) i = codes "bound" ∷ []
steps_to n i = []

-- where what is in a node stands
abbrev pub inside : Node → Home → Ref
inside n home = if has_entries n then root_of home.content else home.place

abbrev pub place_below : Option Node → Option Home → ℕ → Ref
place_below (Some n) (Some home) i = record { id = (inside n home).id; path = (inside n home).path ++ steps_to n i }
place_below n home i = root_of 0

-- where a node would stand in place: in the slot of its origin, or at the root
abbrev pub place_for : List Node → List Home → Option Origin → Ref
place_for nodes homes None = root_of 0
place_for nodes homes (Some o) = place_below (slice_get nodes o.node) (slice_get homes o.node) o.slot

-- ---- homes

abbrev pub one_if : Bool → ℕ
one_if true = 1
one_if false = 0

-- a node that would stand there, after so many parts: first its own part, and then that of its entries
abbrev pub home_with : Bool → Bool → Ref → ℕ → Home
home_with apart entries at parts = record {
  place = if apart then root_of (parts + 1) else at;
  apart = apart;
  content = if entries then parts + one_if apart + 1 else (if apart then parts + 1 else at.id);
}

-- the homes of the first nodes, and how many parts these have
pub record Planned : Type 0 where
  pub homes : List Home
  pub parts : ℕ

abbrev pub planned_with : Node → Ref → Planned → Planned
planned_with n at p = record {
  homes = p.homes ++ home_with (is_apart n at) (has_entries n) at p.parts ∷ [];
  parts = p.parts + one_if (is_apart n at) + one_if (has_entries n);
}

abbrev pub planned_next : List Node → ℕ → Planned → Planned
planned_next nodes n p = planned_with (node_at nodes n) (place_for nodes p.homes (origin_of nodes n)) p

abbrev pub planned : List Node → ℕ → Planned
planned nodes zero = record { homes = []; parts = 0 }
planned nodes (suc n) = planned_next nodes n (planned nodes n)

abbrev pub homes_of : List Node → List Home
homes_of nodes = (planned nodes (length nodes)).homes

-- the home of a node; past the nodes the root of the form
abbrev pub home_at : List Home → ℕ → Home
home_at homes n = unwrap_or (slice_get homes n) (record { place = root_of 0; apart = true; content = 0 })
