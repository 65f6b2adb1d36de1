use Rattle.std.proofs.Common.{subst, refl, ◌∷◌, []}
use Rattle.std.proofs.lemmas.Result.{on_ok_weaker}
use Rattle.flight_value.specs.Listed.{In}
use Rattle.flight_value.specs.declared.graph.Atom.TheVariants as atom
use Rattle.flight_value.specs.declared.key.Key.TheVariants as key
use Rattle.flight_value.specs.declared.made.Tree.TheVariants as tree
use Rattle.flight_row.specs.declared.row.RowKind.TheVariants as row
use Rattle.flight_home.specs.Homes.{IsNew}
use Rattle.flight_meaning.specs.declared.place.Place.TheVariants as place
use Rattle.flight_payload.specs.Written.{token_of}
use Rattle.flight_render.specs.Jobs.{shown}
use Rattle.flight_emit.specs.Sheet.{root}
use Rattle.flight_emit.specs.Log.{stage, Put}
use Rattle.flight_emit.proofs.Known.{known_found, known_taken}
use Rattle.flight_emit.proofs.leaf.write_symbol.Goals as goal

pub take_symbol-requires : goal.take_symbol-requires
take_symbol-requires c = record { absent = subst (λ z. IsNew (key.Symbol z) c.args.home.now) c.in_ok-copy_text.ensures c.in_default.ensures.absent }

pub returns-in-Some-clause-wrote : goal.returns-in-Some-clause-wrote
returns-in-Some-clause-wrote c =
    let ready = c.requires.ready in
    let home = subst (λ z. In (key.Symbol z, c.in-Some.at.now) c.args.home.now) c.in_ok-copy_text.ensures c.in-Some.ensures.found in
    on_ok_weaker c.put_whole.result (λ put g seen.
    known_found g seen (shown (tree.Atom (atom.Symbol c.args.name.now))) (atom.Symbol c.args.name.now) (key.Symbol c.args.name.now) c.in-Some.at.now
    (stage c.args.home.now c.args.work.now) (stage c.args.home.now c.put_whole.new.self) home (ready.0 (key.Symbol c.args.name.now) c.in-Some.at.now home) refl refl (put c.args.home.now)) c.put_whole.ensures

pub returns-clause-wrote : goal.returns-clause-wrote
returns-clause-wrote c =
    let is_id = c.in_ok-id.ensures.id in
    on_ok_weaker c.put_whole-2.result (λ put g seen.
    known_taken g seen (shown (tree.Atom (atom.Symbol c.args.name.now))) (atom.Symbol c.args.name.now) row.Model (key.Symbol c.args.name.now)
    (stage c.args.home.now c.args.work.now) (stage c.take_symbol.new.home c.take_symbol.new.work) (stage c.take_symbol.new.home c.put_whole-2.new.self)
    c.in_ok-id.ensures.took (subst (λ z. IsNew (key.Symbol z) c.args.home.now) c.in_ok-copy_text.ensures c.in_default.ensures.absent) tt tt refl refl
    (subst (λ z. Put (token_of (place.Value (root z)) ∷ []) (stage c.take_symbol.new.home c.take_symbol.new.work) (stage c.take_symbol.new.home c.put_whole-2.new.self)) is_id.0 (put c.take_symbol.new.home))) c.put_whole-2.ensures
