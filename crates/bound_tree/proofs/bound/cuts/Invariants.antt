use Rattle.std.proofs.Common.{◌≡◌, ◌++◌, map}
use Rattle.bound_tree.specs.declared.tree.Tree.{Cut}
use Rattle.bound_tree.proofs.bound.cuts.Given as goal

abbrev pub invariant-loop-multipliers : goal.invariant-loop-multipliers
invariant-loop-multipliers l = (l.cuts.items ≡ map Cut l.yielded) × (l.yielded ++ l.multipliers-iterator.rest.items ≡ l.fn.kids)
