use Rattle.std.proofs.Common.{◌∙◌, ap, ◌++◌, ◌∷◌, []}
use Rattle.flight_meaning.specs.declared.place.Place.TheVariants as place
use Rattle.flight_payload.specs.Written.{token_of}
use Rattle.flight_emit.proofs.Leaves.{atom_written}
use Rattle.flight_emit.proofs.take.model_row.Goals as goal

pub returns-clause-atom : goal.returns-clause-atom
returns-clause-atom c =
    atom_written c.take_model_row.result c.args.atom.now c.atom.new.self (c.in_ok-atom.ensures.written ∙ ap (λ z. z ++ token_of (place.Atom c.args.atom.now) ∷ []) c.new-out.ensures) (c.in_ok-atom.ensures.writable c.requires.valid) c.take_model_row.ensures.written
