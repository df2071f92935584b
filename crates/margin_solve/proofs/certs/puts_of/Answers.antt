use Rattle.std.proofs.Common.{ap, ◌∙◌}
use Rattle.alteration_model.specs.Faults.{pairs_of}
use Rattle.margin_solve.proofs.Printing.{put_more}
use Rattle.margin_solve.proofs.certs.puts_of.Goals as goal

pub loop-i-preserved : goal.loop-i-preserved
loop-i-preserved c =
    ap pairs_of c.in_ok-push.ensures.items ∙ put_more c.args.changes.now c.loop-i.i c.number.result c.ballot.result.now c.in_ok-from_slice.field-0
    c.loop-i.puts.items c.number.ensures c.ballot.ensures c.in_ok-from_slice.ensures c.loop-i.invariant
