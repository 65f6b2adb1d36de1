-- A whole rendering: `server App() = <Item/>; server Item() = "x";`.
use Rattle.std.proofs.Common.{◌≡◌, cond, [], ◌∷◌, Some, None, refl, ap, ◌∙◌}
use Rattle.std.specs.Prelude.{codes, option_map}
use Rattle.flight_value.specs.Store as target
use Rattle.flight_value.specs.Store.{Target}
use Rattle.flight_value.specs.declared.graph.Atom.TheVariants as atom
use Rattle.flight_value.specs.declared.made.MadeKind.TheVariants as kind
use Rattle.flight_value.specs.declared.made.Tree.{Tree}
use Rattle.flight_value.specs.declared.made.Tree.TheVariants as tree
use Rattle.flight_value.specs.declared.name.Name.{Name}
use Rattle.flight_syntax.specs.declared.expr.Expr.{Expr}
use Rattle.flight_syntax.specs.declared.expr.Tag.TheVariants as tag
use Rattle.flight_syntax.specs.declared.program.Declared.TheVariants as declared
use Rattle.flight_syntax.specs.Term as term
use Rattle.flight_syntax.specs.Term.{Term, term as term_of}
use Rattle.flight_render.specs.declared.root.Ground.{Ground}
use Rattle.flight_render.specs.declared.root.Root.TheVariants as root
use Rattle.flight_render.specs.Run.{gave, Run}
use Rattle.flight_render.specs.Body.{run_start, body, root_body}
use Rattle.flight_render.specs.Bodies.{body_at, node_at, body_below, made_by, finished}
use Rattle.flight_render.specs.Jobs.{the_root, element, shown, of_job, is_server, comes, Stands}

-- the program, with any two expressions that say so
module _ (first second : Expr) (app : term_of first ≡ term.element (tag.Server 1) term.no_props term.no_terms) (item : term_of second ≡ term.atom (atom.Text (codes "x"))) where
  over : Ground
  over =
      record {
        program = record { declared = declared.Server (codes "App") [] first ∷ declared.Server (codes "Item") [] second ∷ [] };
        script = record { sources = []; streams = []; settlers = [] };
        root = root.App;
      }

  -- the element that the first body makes and gives
  name : Name
  name = record { render = []; serial = 1 }

  outer : Run Tree
  outer =
      record {
        after = record { made = record { kind = kind.Object []; slots = [] } ∷ record { kind = kind.Server 1; slots = tree.Atom atom.Null ∷ tree.Made (record { render = []; serial = 0 }) ∷ [] } ∷ []; cost = 5 };
        step = gave (tree.Made name);
      }

  inside : Run Tree
  inside = record { after = record { made = []; cost = 3 }; step = gave (tree.Atom (atom.Text (codes "x"))) }

  outer_is : root_body over [] ≡ outer
  unfolding over outer name root_body
  outer_is = ap (λ t. run_start (record { over = over; settled = []; address = []; tables = [] }) (Some (record { expression = t; env = [] }))) app

  inside_is : body over [] (outer.after.made ∷ []) 1 (tree.Made (record { render = []; serial = 0 })) (1 ∷ []) ≡ inside
  unfolding over outer name inside body
  inside_is = ap (λ t. run_start (record { over = over; settled = []; address = 1 ∷ []; tables = outer.after.made ∷ [] }) (Some (record { expression = t; env = [] }))) item

  at_first : body_at over [] [] ≡ Some outer
  unfolding body_at
  at_first = ap Some outer_is

  at_second : body_at over [] (1 ∷ []) ≡ Some inside
  unfolding body_at outer name
  at_second = ap (λ b. body_below over [] [] [] (Some b) (1 ∷ [])) outer_is ∙ ap Some inside_is

  is_element : node_at over [] name ≡ Some (record { kind = kind.Server 1; slots = tree.Atom atom.Null ∷ tree.Made (record { render = []; serial = 0 }) ∷ [] })
  unfolding node_at name outer
  is_element = ap (λ o. made_by (finished o) 1) at_first

  -- the root stands for the text: its job gives the element, whose job gives the text
  stands : Stands over [] (of_job the_root) (target.atom (atom.Text (codes "x")))
  unfolding comes name outer inside
  stands =
      record {
        jobs = the_root ∷ element name ∷ [];
        last = shown (tree.Atom (atom.Text (codes "x")));
        leads = (
          refl,
          (
            gave (tree.Made name),
            ap (option_map (λ b. b.step)) at_first,
            (
              ap (λ o. cond (is_server o) (Some (element name)) None) is_element,
              (gave (tree.Atom (atom.Text (codes "x"))), ap (option_map (λ b. b.step)) at_second, refl),
            ),
          ),
        );
        no_job = refl;
        is_target = refl;
      }
