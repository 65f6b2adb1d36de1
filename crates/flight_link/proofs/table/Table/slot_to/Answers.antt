use Rattle.std.proofs.Common.{subst}
use Rattle.std.proofs.lemmas.Result.{IfOk-weaker}
use Rattle.flight_value.specs.Store as store
use Rattle.flight_meaning.specs.Meaning.{Written, Leads}
use Rattle.flight_link.specs.declared.key.NodeKey.TheVariants.{Made}
use Rattle.flight_link.specs.Drawing.{Draws, identity_of}
use Rattle.flight_link.specs.Targets.{IsTargetOf}
use Rattle.flight_link.proofs.Drawing.{atom_slot, node_leads}
use Rattle.flight_link.proofs.Slots.{node_place}
use Rattle.flight_link.proofs.table.Table.slot_to.Goals as goal

pub node_slot-requires-clause-key : goal.node_slot-requires-clause-key
node_slot-requires-clause-key c =
    node_place c.args.self.now c.in-Node.spot c.requires.target.0 c.requires.table (subst (IsTargetOf c.args.self.now.rows.items c.requires.target.0) c.in-Node.is c.requires.target.1)

pub returns-in_ok-copy-in-Atom-clause-slot : goal.returns-in_ok-copy-in-Atom-clause-slot
returns-in_ok-copy-in-Atom-clause-slot c = λ w h.
    atom_slot c.args.self.now.rows.items c.args.numbers.now.keys.items c.in-Atom.atom.now c.in_ok-copy-in-Atom.field-0 c.in_ok-copy-in-Atom.ensures w (subst (IsTargetOf c.args.self.now.rows.items w) c.in-Atom.is h)

pub returns-in-Node-clause-slot : goal.returns-in-Node-clause-slot
returns-in-Node-clause-slot c =
    let rows = c.args.self.now.rows.items in
    let keys = c.node_slot.new.numbers.keys.items in
    IfOk-weaker c.node_slot.result (λ slot. (w : Written) → Leads rows w (store.node_at (identity_of rows (Made c.in-Node.spot))) → Draws rows keys slot w) (λ slot. (w : Written) → IsTargetOf rows w c.args.target → Draws rows keys slot w)
    (λ slot f w h. f w (node_leads rows c.in-Node.spot w c.requires.table.plain (subst (IsTargetOf rows w) c.in-Node.is h))) c.node_slot.ensures.slot
