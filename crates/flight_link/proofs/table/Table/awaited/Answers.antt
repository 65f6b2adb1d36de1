use Rattle.std.proofs.Common.{◌≡◌, ◌+◌, suc, length, subst, arith, rules}
use Rattle.flight_link.specs.Nodes.{IsNodeAt}
use Rattle.flight_link.proofs.Waits.{IsChain, chain_begins, chain_within, chain_goes, chain_absent, chain_whole}
use Rattle.flight_link.proofs.table.Table.awaited.Goals as goal

pub chain-init : goal.chain-init
chain-init c = chain_begins c.args.self.now c.args.states.now c.args.node c.requires.node c.requires.waits

pub state_at-requires : goal.state_at-requires
state_at-requires c = chain_within c.args.self.now c.args.states.now c.args.node c.chain.behind c.chain.counter c.requires.linked c.chain.invariant

pub start_at-requires : goal.start_at-requires
start_at-requires c =
    let w = chain_within c.args.self.now c.args.states.now c.args.node c.chain.behind c.chain.counter c.requires.linked c.chain.invariant in
    omega (arith, w, c.requires.linked.are_states.one_each, c.as_slice.ensures.len)

pub returns-in-Absent : goal.returns-in-Absent
returns-in-Absent c =
    chain_absent c.args.self.now c.args.states.now c.args.node c.chain.behind c.chain.counter c.start_at.result c.id_of.result c.requires.linked c.chain.invariant c.in-Absent.ensures
    (subst (λ x. IsNodeAt x c.chain.behind c.start_at.result) c.as_slice.ensures.value c.start_at.ensures) c.id_of.ensures

pub chain-preserved : goal.chain-preserved
chain-preserved c =
    let more : suc c.chain.counter ≡ c.chain.counter + 1 = omega arith in
    subst (IsChain c.args.self.now c.args.states.now c.args.node c.in-Behind.node) more
    (chain_goes c.args.self.now c.args.states.now c.args.node c.chain.behind c.in-Behind.node c.in-Behind.left c.chain.counter c.requires.linked c.chain.invariant c.in-Behind.ensures)

pub returns : goal.returns
returns c =
    let whole : c.chain.counter ≡ length c.args.states.now = search rules in
    chain_whole c.args.self.now c.args.states.now c.args.node c.chain.behind c.chain.counter c.requires.linked c.chain.invariant whole
