use Rattle.std.proofs.Common.{arith, ◌∙◌}
use Rattle.std.proofs.lemmas.Grind.{common_steps}
use Rattle.bound_tree.proofs.Shapes.{highest_at, size_kid}
use Rattle.bound_tree.proofs.Finding.{if_ok, found_low, found_high}
use Rattle.bound_tree.proofs.Growing.{grown_high, put_in_kid, found_in_kid}
use Rattle.bound_tree.proofs.growth.+put.Goals as goal

pub put-returns-in-Ok-clause-found : goal.put-returns-in-Ok-clause-found
put-returns-in-Ok-clause-found t c = found_low _ _ _ _ _ _ _ _ _ _ c.in-Branch.is (c.get_mut.ensures.value ∙ c.in-Branch.low-is) c.if-number-eq0.false c.in-Ok.ensures.found

pub put-returns-in-Err-clause-grown : goal.put-returns-in-Err-clause-grown
unfolding Rattle.bound_tree.specs.declared.tree.Tree.TheViews.out-Tree denote.Hole.Carrier.out denote.Hole.Carrier.shown denote.Hole.Carrier.hidden Rattle.bound_tree.specs.declared.tree.Tree.TheBlock.shape-the_row-Tree-0 Rattle.bound_tree.specs.declared.tree.Tree.TheBlock.hidden-the_row-Tree-0 Rattle.bound_tree.specs.declared.tree.Tree.TheBlock.shown-the_row-Tree-0 Rattle.bound_tree.specs.declared.tree.Tree.TheBlock.shape-the_row-Tree-1 Rattle.bound_tree.specs.declared.tree.Tree.TheBlock.hidden-the_row-Tree-1 Rattle.bound_tree.specs.declared.tree.Tree.TheBlock.shown-the_row-Tree-1
put-returns-in-Err-clause-grown t c =
    rw c.in-Branch.is (if_ok _ (λ taken. grown_high _ _ _ _ _ _ _ _ _ _ _ _ (c.get_mut.ensures.value ∙ c.in-Branch.low-is) (c.in-Err.ensures.unchanged ∙ c.get_mut.ensures.value ∙ c.in-Branch.low-is)
    (c.get_mut-in-Err.ensures.value ∙ c.in-Branch.high-is) c.in-Err.ensures.kept c.if-number-eq0.false c.in-Err.ensures.missed) c.put-in-Err.ensures.grown)

pub put-returns-in-Err-clause-found : goal.put-returns-in-Err-clause-found
put-returns-in-Err-clause-found t c =
    if_ok _ (λ taken. found_high _ _ _ _ _ _ _ _ _ _ _ _ c.in-Branch.is (c.get_mut.ensures.value ∙ c.in-Branch.low-is) (c.get_mut-in-Err.ensures.value ∙ c.in-Branch.high-is) c.if-number-eq0.false c.in-Err.ensures.missed) c.put-in-Err.ensures.found

pub put_among-put-requires : goal.put_among-put-requires
put_among-put-requires t c =
    grind (arith, common_steps, size_kid c.loop-i.kids c.loop-i.i c.item_mut.result.now c.item_mut.ensures.item, highest_at c.loop-i.kids c.loop-i.i c.item_mut.result.now c.item_mut.ensures.item, c.loop-i.invariant.same)

pub put_among-returns-in-Ok-clause-grown : goal.put_among-returns-in-Ok-clause-grown
put_among-returns-in-Ok-clause-grown t c =
    put_in_kid _ _ _ _ _ _ _ _ _ _ _ _ c.item_mut.ensures.item c.loop-i.invariant.same c.loop-i.invariant.at c.loop-i.invariant.kept c.in-Ok.ensures.found c.in-Ok.ensures.grown

pub put_among-returns-in-Ok-clause-found : goal.put_among-returns-in-Ok-clause-found
put_among-returns-in-Ok-clause-found t c = found_in_kid _ _ _ _ _ _ _ _ _ c.item_mut.ensures.item c.loop-i.invariant.same c.loop-i.invariant.at c.in-Ok.ensures.found
