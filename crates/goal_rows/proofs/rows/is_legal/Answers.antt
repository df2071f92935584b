use Rattle.goal_rows.proofs.SuffixRows.{legal_rows}
use Rattle.goal_rows.proofs.rows.is_legal.Goals as goal

pub returns : goal.returns
returns c =
    let exactly = legal_rows c.args.roll.now c.args.order.now c.candidates.ensures.poll.valid c.requires in
    (λ hit. exactly.0 (c.legal_order.ensures.0 hit), λ rows. c.legal_order.ensures.1 (exactly.1 rows))
