use Rattle.std.proofs.Common.{string_bytes}
use Rattle.std.specs.Prelude.{codes}
use Rattle.flight_gen.specs.Generated.{each_below, before_sources, source, sources}
use Rattle.flight_gen.proofs.Joined.{three}
use Rattle.flight_gen.proofs.script.push_sources.Goals as goal

pub returns : goal.returns
unfolding sources
returns c =
    three (string_bytes c.args.out.now) before_sources (each_below source c.args.count) (codes "}")
    _ _ _ c.in_ok-push_str.ensures.bytes c.in_ok-push_all_sources.ensures c.in_ok-push_str-2.ensures.bytes
