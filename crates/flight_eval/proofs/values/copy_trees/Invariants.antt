use Rattle.std.proofs.Common.{◌≡◌, ◌++◌, drop}
use Rattle.flight_eval.proofs.values.copy_trees.Given as goal

abbrev pub invariant-loop-tree : goal.invariant-loop-tree
invariant-loop-tree l = l.copies.items ++ drop l.tree-index l.trees ≡ l.trees
