use Rattle.std.proofs.Common.{arith, get_or}
use Rattle.mov_run.specs.Tally.{party_text}
use Rattle.mov_run.proofs.Ranges.{each_more}
use Rattle.mov_run.proofs.tally_seats.push_shares.Goals as goal

pub loop-a-preserved : goal.loop-a-preserved
loop-a-preserved c = each_more (party_text (λ b. get_or c.args.votes.now b 0) (λ b. get_or c.args.shares.now b 0)) _ _ _ 0 c.loop-a.a c.loop-a.a (omega arith) c.loop-a.invariant c.in_ok-push_share.ensures
