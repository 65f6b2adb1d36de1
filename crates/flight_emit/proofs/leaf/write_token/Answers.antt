use Rattle.flight_emit.specs.Log.{stage}
use Rattle.flight_emit.proofs.Leaves.{token_in_place}
use Rattle.flight_emit.proofs.leaf.write_token.Goals as goal

pub returns : goal.returns
returns c = token_in_place c.put_atom.result c.args.atom.now (λ homes. stage homes c.args.work.now) (λ homes. stage homes c.put_atom.new.self) c.requires.token c.requires.valid c.put_atom.ensures.put c.put_atom.ensures.writable
