use Rattle.std.proofs.Common.{◌≡◌, ◌++◌, ◌∷◌, [], length, sym, ap, ◌∙◌, arith}
use Rattle.flight_link.proofs.Marks.{whole_more}
use Rattle.flight_link.proofs.Standing.{is_fine}
use Rattle.flight_link.proofs.links.Links.add.Goals as goal

pub add-requires-clause-fine : goal.add-requires-clause-fine
add-requires-clause-fine c = is_fine c.args.id c.args.tree c.requires.placed (sym c.is_of_stream.ensures ∙ c.if-is_of_stream.false)

pub invariant_of-self-2 : goal.invariant_of-self-2
invariant_of-self-2 c =
    let fits = c.in-Ok.ensures in
    let same : c.in-Ok.base ≡ c.self.inside.total = omega (arith, fits) in (
      whole_more c.add.new.self c.add.new.states.items c.self.inside.table.rows.items c.self.inside.before.items c.put_last.new.list.items c.self.inside.total c.in-Ok.base c.in-Some.total (length c.as_slice.result.now)
          (record { id = c.args.id; tree = c.args.tree }) (record { table = c.add.ensures.table; are_states = c.add.ensures.states; quiet = c.add.ensures.quiet }) c.self.invariant.0.bases c.in_ok-add.ensures.ok
          (c.put_last.ensures ∙ ap (λ xs. xs ++ c.in-Ok.base ∷ []) c.reserve.ensures.items) same c.in-Some.ensures (ap length c.as_slice.ensures),
      c.add.ensures.rest,
    )
