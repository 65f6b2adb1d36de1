use Rattle.std.specs.Str.{bytes_eq}
use Rattle.std.specs.HashMap.{get}
use Rattle.flight_resolve.proofs.Scopes.{numbered_one, on_ok}
use Rattle.flight_resolve.proofs.body.add.Goals as goal

pub returns : goal.returns
returns c params known here =
    on_ok c.put.result
    (λ more q. numbered_one params c.args.name.now q c.args.at (get bytes_eq c.args.numbers.now q) (get bytes_eq c.put.new.numbers q) here (known q) (more q))
    c.put.ensures
