use Rattle.std.proofs.Common.{arith, ap}
use Rattle.bound_tree.specs.Plain.{plain_of}
use Rattle.bound_tree.specs.Nodes.{size, cut_count}
use Rattle.bound_tree.proofs.Laws.{cut_within, size_grown, cuts_grown}
use Rattle.bound_tree.proofs.bound.put_at.Goals as goal

pub unreachable-requires : goal.unreachable-requires
unreachable-requires c = omega (arith, cut_within _ _ c.requires.cut, c.in-Err.ensures.missed)

pub returns-clause-size : goal.returns-clause-size
returns-clause-size c = omega (arith, ap size c.in-Ok.ensures.grown, size_grown _ _ _ (plain_of c.args.new) c.requires.cut c.in-Ok.ensures.found.deep)

pub returns-clause-cuts : goal.returns-clause-cuts
returns-clause-cuts c = omega (arith, ap cut_count c.in-Ok.ensures.grown, cuts_grown _ _ _ (plain_of c.args.new) c.requires.cut c.in-Ok.ensures.found.deep)
