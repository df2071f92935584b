use Rattle.std.proofs.Common.{arith, ◌≤◌, ◌-◌, length, take, drop, length-drop, length-take, ◌∙◌}
use Rattle.mov_edge.proofs.Parts.{took_more}
use Rattle.mov_edge.proofs.transfer.write_whole.Goals as goal

pub loop-done-preserved : goal.loop-done-preserved
loop-done-preserved g c = record {
  within = (let b : c.in_ok-done.field-0 ≤ length (take (length c.args.bytes.now - c.loop-done.done) (drop c.loop-done.done c.args.bytes.now)) = c.in_ok-done.ensures.bound in omega (arith, simp (length-take, length-drop) at b));
  took = took_more _ _ _ _ _ _ c.loop-done.invariant.took c.in_ok-done.ensures.took;
  kept = c.in_ok-done.ensures.cause.kept ∙ c.loop-done.invariant.kept;
}
