-- The bodies of a whole rendering, each at its address, and the nodes that they made.
use Rattle.std.specs.Prelude.{ℕ, ◌≡◌, Bool, true, false, if◌then◌else◌, List, [], ◌∷◌, ◌++◌, Option, Some, None, slice_get, option_map}
use Rattle.flight_value.specs.declared.made.MadeKind.TheVariants as kind
use Rattle.flight_value.specs.declared.made.Made.{Made}
use Rattle.flight_value.specs.declared.made.Tree.{Tree}
use Rattle.flight_value.specs.declared.name.Name.{Name}
use Rattle.flight_render.specs.declared.root.Ground.{Ground}
use Rattle.flight_render.specs.Run.{waits, Run, End}
use Rattle.flight_render.specs.Body.{body, root_body}

-- the address at which a server element of a name renders
abbrev pub inner : Name → List ℕ
inner n = n.render ++ n.serial ∷ []

-- the component and the props of a server element
abbrev pub element_of : Option Made → Option (ℕ × Tree)
element_of None = None
element_of (Some m) = elim m.kind [ kind.Server component ↦ option_map (λ props. (component, props)) (slice_get m.slots 1) | kind.Array ↦ None | kind.Object names ↦ None | kind.Map ↦ None | kind.Set ↦ None | kind.Element ↦ None | kind.Promise ↦ None | kind.Bound action ↦ None ]

-- a body that gave or threw finishes
abbrev pub Finishes : End → Type 0
Finishes (waits source) = ⊥
Finishes _ = Unit {0}

abbrev pub is_finished : End → Bool
is_finished (waits source) = false
is_finished _ = true

-- a body that finishes; the nodes of one that waits are not met
abbrev pub finished : Option (Run Tree) → Option (Run Tree)
finished None = None
finished (Some b) = if is_finished b.step then Some b else None

abbrev pub made_by : Option (Run Tree) → ℕ → Option Made
made_by None serial = None
made_by (Some b) serial = slice_get b.after.made serial

-- the tables below a body
abbrev pub tables_with : List (List Made) → Option (Run Tree) → List (List Made)
tables_with tables None = tables
tables_with tables (Some b) = tables ++ b.after.made ∷ []

-- the body of a server element at its address
abbrev pub next_body : Ground → List Bool → List (List Made) → List ℕ → Option (ℕ × Tree) → Option (Run Tree)
next_body g settled tables address None = None
next_body g settled tables address (Some e) = Some (body g settled tables e.0 e.1 address)

-- from the body at an address, with the tables of that address, down the rest of another
abbrev pub body_below : Ground → List Bool → List (List Made) → List ℕ → Option (Run Tree) → List ℕ → Option (Run Tree)
body_below g settled tables address here [] = here
body_below g settled tables address here (serial ∷ rest) =
    body_below g settled (tables_with tables (finished here)) (address ++ serial ∷ [])
    (next_body g settled (tables_with tables (finished here)) (address ++ serial ∷ []) (element_of (made_by (finished here) serial))) rest

-- the body at an address: nothing is below a body that waits
unfoldable pub body_at : Ground → List Bool → List ℕ → Option (Run Tree)
body_at g settled address = body_below g settled [] [] (Some (root_body g settled)) address

-- the node of a name
unfoldable pub node_at : Ground → List Bool → Name → Option Made
node_at g settled n = made_by (finished (body_at g settled n.render)) n.serial

-- the tables of an address: what the bodies on the way to it made
abbrev pub tables_below : Ground → List Bool → List (List Made) → List ℕ → Option (Run Tree) → List ℕ → List (List Made)
tables_below g settled tables address here [] = tables
tables_below g settled tables address here (serial ∷ rest) =
    tables_below g settled (tables_with tables (finished here)) (address ++ serial ∷ [])
    (next_body g settled (tables_with tables (finished here)) (address ++ serial ∷ []) (element_of (made_by (finished here) serial))) rest

unfoldable pub tables_at : Ground → List Bool → List ℕ → List (List Made)
tables_at g settled address = tables_below g settled [] [] (Some (root_body g settled)) address

-- the tables with which the body of a server element is rendered
abbrev pub tables_for : Ground → List Bool → Name → List (List Made)
tables_for g settled n = tables_with (tables_at g settled n.render) (finished (body_at g settled n.render))

-- a server element that is there, with its tables
abbrev pub TabledFor : Ground → List Bool → Name → List (List Made) → Type 0
TabledFor g settled n tables = ((m : Made) × (node_at g settled n ≡ Some m)) × (tables ≡ tables_for g settled n)
