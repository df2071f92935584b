use Rattle.std.proofs.Common.{arith}
use Rattle.std.proofs.lemmas.Grind.{common_steps}
use Rattle.bound_tree.proofs.Shapes.{highest_kid}
use Rattle.bound_tree.proofs.Finding.{if_ok, found_low, found_high, found_among}
use Rattle.bound_tree.proofs.find.+find.Goals as goal

pub find-returns-in-Ok-clause-found : goal.find-returns-in-Ok-clause-found
find-returns-in-Ok-clause-found t c = found_low _ _ _ _ _ _ _ _ _ _ c.in-Branch.is c.get.ensures c.if-number-eq0.false c.in-Ok.ensures.found

pub find-returns-in-Err-clause-found : goal.find-returns-in-Err-clause-found
find-returns-in-Err-clause-found t c =
    if_ok _ (λ place. found_high _ _ _ _ _ _ _ _ _ _ _ _ c.in-Branch.is c.get.ensures c.get-in-Err.ensures c.if-number-eq0.false c.in-Err.ensures.missed) c.find-in-Err.ensures.found

pub find_among-find-requires : goal.find_among-find-requires
find_among-find-requires t c = grind (arith, common_steps, highest_kid c.args.kids.now c.loop-kid.kid-index c.kid-item.result c.loop-kid-test.true)

pub find_among-returns-in-Ok-clause-found : goal.find_among-returns-in-Ok-clause-found
find_among-returns-in-Ok-clause-found t c = found_among _ _ _ _ _ _ _ _ c.loop-kid-test.true c.kid-item.is c.loop-kid.invariant c.in-Ok.ensures.found
