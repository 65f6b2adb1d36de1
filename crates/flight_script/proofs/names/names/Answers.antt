use Rattle.flight_script.proofs.Finding.{names_ascend}
use Rattle.flight_script.proofs.names.names.Goals as goal

pub returns-clause-ascend : goal.returns-clause-ascend
returns-clause-ascend c = names_ascend c.args.members.now.entries c.len.ensures.ordered

pub returns-in_err-out-clause-ascend : goal.returns-in_err-out-clause-ascend
returns-in_err-out-clause-ascend c = names_ascend c.args.members.now.entries c.len.ensures.ordered

pub returns-in_err-push-clause-ascend : goal.returns-in_err-push-clause-ascend
returns-in_err-push-clause-ascend c = names_ascend c.args.members.now.entries c.len.ensures.ordered
