-- Small bodies, evaluated: what they give or throw, what they make and what they cost.
use Rattle.std.proofs.Common.{◌≡◌, ℕ, Bool, true, false, List, [], ◌∷◌, pos, negsuc, refl}
use Rattle.std.specs.Prelude.{codes, ◌^◌, ◌-◌}
use Rattle.std.specs.Fmt.{digits}
use Rattle.flight_value.specs.declared.graph.Atom.TheVariants as atom
use Rattle.flight_value.specs.declared.graph.Slot.TheVariants as slot
use Rattle.flight_value.specs.declared.graph.Node.{Node}
use Rattle.flight_value.specs.declared.graph.Node.TheVariants as node
use Rattle.flight_value.specs.declared.graph.Graph.{Graph}
use Rattle.flight_value.specs.declared.made.MadeKind.TheVariants as kind
use Rattle.flight_value.specs.declared.made.Tree.{Tree}
use Rattle.flight_value.specs.declared.made.Tree.TheVariants as tree
use Rattle.flight_syntax.specs.declared.expr.Op.TheVariants as op
use Rattle.flight_syntax.specs.declared.expr.Tag.TheVariants as tag
use Rattle.flight_syntax.specs.declared.script.Outcome.TheVariants as outcome
use Rattle.flight_syntax.specs.Term as term
use Rattle.flight_syntax.specs.Term.{Term, Terms, Props, terms_of, props_of}
use Rattle.flight_render.specs.declared.root.Ground.{Ground}
use Rattle.flight_render.specs.declared.root.Root.TheVariants as root
use Rattle.flight_render.specs.Run.{gave, threw, waits, Run}
use Rattle.flight_render.specs.Body.{started}

-- ---- one source, `s0`: an array of four objects with a name each, in a ring

abbrev row_of : List ℕ → ℕ → Node
row_of name next =
    node.Object (record { name = codes "name"; slot = slot.Atom (atom.Text name) } ∷ record { name = codes "next"; slot = slot.Node next } ∷ [])

abbrev ring : Graph
ring =
    record {
      root = slot.Node 0;
      nodes =
          node.Array (slot.Node 1 ∷ slot.Node 2 ∷ slot.Node 3 ∷ slot.Node 4 ∷ [])
          ∷ row_of (codes "s0.1") 2 ∷ row_of (codes "s0.2") 3 ∷ row_of (codes "s0.3") 4 ∷ row_of (codes "s0.4") 1 ∷ [];
    }

abbrev over : Ground
over =
    record {
      program = record { declared = [] };
      script = record { sources = record { name = codes "s0"; outcome = outcome.Value ring } ∷ []; streams = []; settlers = [] };
      root = root.App;
    }

-- evaluates an expression at the empty address, with the source settled or not
abbrev run : Bool → List Tree → Term → Run Tree
run settled env t =
    started (record { over = over; settled = settled ∷ []; address = []; tables = [] }) (record { expression = t; env = env })

abbrev made_here : ℕ → Tree
made_here serial = tree.Made (record { render = []; serial = serial })

abbrev text_of : List ℕ → Term
text_of text = term.atom (atom.Text text)

abbrev whole_of : ℕ → Term
whole_of n = term.atom (atom.Whole (pos n))

-- ---- elements

-- `<P0/>`
abbrev leaf : Term
leaf = term.element (tag.Server 1) term.no_props term.no_terms

-- it makes a props object and the element, and costs 1, 3 and 1
leaf_is : run true [] leaf
    ≡ record {
      after = record {
        made =
            record { kind = kind.Object []; slots = [] }
            ∷ record { kind = kind.Server 1; slots = tree.Atom atom.Null ∷ made_here 0 ∷ [] } ∷ [];
        cost = 5;
      };
      step = gave (made_here 1);
    }
leaf_is = refl

-- `<ul><P0/></ul>` costs 20
list_costs : (run true [] (term.element (tag.Host (codes "ul")) term.no_props (terms_of (leaf ∷ [])))).after.cost ≡ 20
list_costs = refl

-- `for row in use s0 give <Item row={row}/>`
abbrev rows : Term
rows = term.for_in (codes "row") (term.source (codes "s0")) (term.element (tag.Server 2) (props_of ((codes "row", term.variable 0) ∷ [])) term.no_terms)

-- it makes two nodes for each row and an array, and costs 43
rows_made : (run true [] rows).step ≡ gave (made_here 8)
rows_made = refl

rows_cost : (run true [] rows).after.cost ≡ 43
rows_cost = refl

-- where the source is not settled it waits, with the cost so far and nothing made
rows_wait : run false [] rows ≡ record { after = record { made = []; cost = 2 }; step = waits 0 }
rows_wait = refl

-- `<li><Tag label={row.name} next={row.next}/></li>` costs 39
abbrev item : Term
item =
    term.element (tag.Host (codes "li")) term.no_props
    (terms_of (term.element (tag.Client 0)
    (props_of ((codes "label", term.member (term.variable 0) (codes "name")) ∷ (codes "next", term.member (term.variable 0) (codes "next")) ∷ [])) term.no_terms ∷ []))

item_costs : (run true (tree.FromSource 0 1 ∷ []) item).after.cost ≡ 39
item_costs = refl

-- properties are in the order of their names, a key is none of them, and more children are an array made before the props:
-- `<b z="1" key={7} a="2">{true}x</b>`
ordered : (run true []
    (term.element (tag.Host (codes "b")) (props_of ((codes "z", text_of (codes "1")) ∷ (codes "key", whole_of 7) ∷ (codes "a", text_of (codes "2")) ∷ []))
    (terms_of (term.atom (atom.Bool true) ∷ text_of (codes "x") ∷ [])))).after.made
    ≡ record { kind = kind.Array; slots = tree.Atom (atom.Bool true) ∷ tree.Atom (atom.Text (codes "x")) ∷ [] }
    ∷ record {
      kind = kind.Object (codes "a" ∷ codes "children" ∷ codes "z" ∷ []);
      slots = tree.Atom (atom.Text (codes "2")) ∷ made_here 0 ∷ tree.Atom (atom.Text (codes "1")) ∷ [];
    }
    ∷ record { kind = kind.Element; slots = tree.Atom (atom.Text (codes "b")) ∷ tree.Atom (atom.Text (codes "7")) ∷ made_here 1 ∷ [] } ∷ []
unfolding digits
ordered = refl

-- a key that is no text and no whole throws before the children are begun
wrong_key : run true [] (term.element (tag.Host (codes "b")) (props_of ((codes "key", term.atom atom.Null) ∷ [])) (terms_of (term.throw (text_of (codes "x")) ∷ [])))
    ≡ record { after = record { made = []; cost = 2 }; step = threw (codes "type") }
wrong_key = refl

-- ---- the operators

-- `("a" + 12)` is a text, which costs its bytes when it is made and when it is given
joined : run true [] (term.binary op.Plus (text_of (codes "a")) (whole_of 12)) ≡ record { after = record { made = []; cost = 10 }; step = gave (tree.Atom (atom.Text (codes "a12"))) }
unfolding digits
joined = refl

out_of_range : (run true [] (term.binary op.Plus (whole_of (2 ^ 53 - 1)) (whole_of 1))).step ≡ threw (codes "range")
out_of_range = refl

in_range : (run true [] (term.binary op.Minus (whole_of 0) (whole_of (2 ^ 53 - 1)))).step ≡ gave (tree.Atom (atom.Whole (negsuc (2 ^ 53 - 2))))
in_range = refl

least_big : (run true [] (term.binary op.Minus (term.atom (atom.Big (negsuc (2 ^ 127 - 2)))) (term.atom (atom.Big (pos 1))))).step ≡ gave (tree.Atom (atom.Big (negsuc (2 ^ 127 - 1))))
least_big = refl

-- both operands are evaluated before their kinds are tested
operands_first : (run false [] (term.binary op.Plus (term.array term.no_terms) (term.source (codes "s0")))).step ≡ waits 0
operands_first = refl

-- different kinds are unequal; a constant is not compared
unequal : (run true [] (term.binary op.Equal (term.atom atom.Null) (whole_of 0))).step ≡ gave (tree.Atom (atom.Bool false))
unequal = refl

-- `&&` leaves out the right where the left decides
decided : (run false [] (term.binary op.And (term.atom (atom.Bool false)) (term.source (codes "s0")))).step ≡ gave (tree.Atom (atom.Bool false))
decided = refl

-- ---- members and items

no_member : (run true (tree.FromSource 0 1 ∷ []) (term.member (term.variable 0) (codes "x"))).step ≡ gave (tree.Atom atom.Undefined)
no_member = refl

-- `(use s0)[4]`, past the end of the array
no_item : (run true [] (term.index (term.source (codes "s0")) (whole_of 4))).step ≡ threw (codes "missing")
no_item = refl

-- an action with bound arguments makes the array, the promise and the server reference
bound : run true [] (term.action_with 3 (terms_of (whole_of 1 ∷ [])))
    ≡ record {
      after = record {
        made =
            record { kind = kind.Array; slots = tree.Atom (atom.Whole (pos 1)) ∷ [] }
            ∷ record { kind = kind.Promise; slots = made_here 0 ∷ [] }
            ∷ record { kind = kind.Bound 3; slots = made_here 1 ∷ [] } ∷ [];
        cost = 6;
      };
      step = gave (made_here 2);
    }
bound = refl
