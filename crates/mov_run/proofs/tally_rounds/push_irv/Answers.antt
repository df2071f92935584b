use Rattle.std.proofs.Common.{◌≡◌, ◌+◌, ◌-◌, ◌∙◌, ap, arith, get_or}
use Rattle.mov_run.proofs.TallyRounds.{rounds_added}
use Rattle.mov_run.proofs.tally_rounds.push_irv.Goals as goal

pub returns : goal.returns
returns c =
    let lent : c.as_slice.result.now ≡ c.in_ok-order.order = c.as_slice.ensures.value in
    let lent_again : c.as_slice-3.result.now ≡ c.in_ok-order.order = c.as_slice-3.ensures.value in
    let some = c.candidates.ensures.poll.some in
    let wide : c.from-c.result ≡ c.args.roll.now.c = c.from-c.ensures ∙ c.candidates.ensures.value in
    let last : (c.from-c.result - 1) + 1 ≡ c.args.roll.now.c = omega (arith, wide, some) in
    rounds_added _ _ _ (c.from-c.result - 1) _ _ _ c.push_winner.result c.in_ok-order.ensures.order last (ap (λ l. get_or l (c.from-c.result - 1) 0) lent_again)
    (rw lent at c.in_ok-push_rounds.ensures) c.push_winner.ensures
