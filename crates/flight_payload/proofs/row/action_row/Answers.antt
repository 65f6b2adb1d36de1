use Rattle.std.proofs.Common.{◌≡◌, ◌∷◌, ◌++◌, [], ◌∙◌, ap, codes}
use Rattle.json.specs.Token as token
use Rattle.flight_value.specs.declared.graph.Atom.TheVariants as atom
use Rattle.flight_row.specs.declared.row.RowKind.TheVariants.{Model}
use Rattle.flight_meaning.specs.declared.place.Place.TheVariants as place
use Rattle.flight_payload.specs.Written.{tokens_of, token_of}
use Rattle.flight_payload.specs.Rows.{IsRow, HasWritten, HasTree, bound_place, action_tree}
use Rattle.flight_payload.proofs.Whole.{from_both}
use Rattle.flight_payload.proofs.Actions.{action_readable}
use Rattle.flight_payload.proofs.row.action_row.Goals as goal

pub returns-clause-tree : goal.returns-clause-tree
returns-clause-tree c =
    let name = c.args.name.now in
    let bound = c.args.bound in
    let written : c.end_object.new.self ≡ tokens_of (action_tree name bound) =
    c.in_ok-end_object.ensures ∙ ap (λ ts. ts ++ token.end_object ∷ []) (c.in_ok-text.ensures ∙ ap (λ ts. ts ++ token_of (place.Atom (atom.Text name)) ∷ []) (c.in_ok-name-2.ensures ∙ ap (λ ts. ts ++ token.key (codes "id") ∷ []) (c.in_ok-write_bound.ensures ∙ ap (λ ts. ts ++ token_of (bound_place bound) ∷ []) (c.in_ok-name.ensures ∙ ap (λ ts. ts ++ token.key (codes "bound") ∷ []) (c.in_ok-begin_object.ensures ∙ ap (λ ts. ts ++ token.begin_object ∷ []) c.new-out.ensures))))) in
    from_both (IsRow c.args.id Model) (HasWritten c.end_object.new.self) (HasTree (action_tree name bound)) c.take_model_row.result
    (λ row is has. has (action_tree name bound) written (action_readable name bound c.requires.bound)) c.take_model_row.ensures.row c.take_model_row.ensures.written
