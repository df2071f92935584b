use Rattle.mov_run.proofs.TallyRounds.{round_in_pieces}
use Rattle.mov_run.proofs.tally_rounds.push_round.Goals as goal

pub returns : goal.returns
returns c = round_in_pieces _ c.args.counts.now c.args.i c.args.gone _ _ _ _ (rw (c.from.ensures, c.from-2.ensures) at c.in_ok-push_gone.ensures) c.in_ok-push_held.ensures c.in_ok-push.ensures.items
