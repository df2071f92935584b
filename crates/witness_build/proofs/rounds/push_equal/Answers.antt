use Rattle.std.proofs.Common.{◌∙◌, ap, refl}
use Rattle.alteration_model.specs.Faults.{pairs_of}
use Rattle.witness_build.proofs.CutRuns.{put_more}
use Rattle.witness_build.proofs.rounds.push_equal.Goals as goal

pub loop-i-preserved : goal.loop-i-preserved
loop-i-preserved c =
    ap pairs_of c.in_ok-push.ensures.items
    ∙ put_more c.args.ballot.now c.args.first c.loop-i.i c.loop-i.puts.items (record { number = _; ballot = c.in_ok-from_slice.field-0 }) (pairs_of c.args.puts.now.items) refl
    c.in_ok-from_slice.ensures c.loop-i.invariant
