use Rattle.std.proofs.Common.{arith, ◌∙◌, ◌≡◌, ◌++◌, ◌*◌, ◌+◌, ◌<◌, ap, append-nil, get_or, sym}
use Rattle.std.specs.List.{slice_range}
use Rattle.irv_count.proofs.Bits.{all_left, left_without}
use Rattle.mov_run.specs.Tally.{round_of}
use Rattle.mov_run.proofs.Ranges.{each_more}
use Rattle.mov_run.proofs.TallyRounds.{round_same}
use Rattle.mov_run.proofs.tally_rounds.push_rounds.Goals as goal

pub loop-i-init : goal.loop-i-init
loop-i-init c = record {
  text = sym (append-nil _);
  set = rw (c.all_of-standing.ensures, c.candidates-2.ensures.value) (all_left c.args.roll.now.c c.args.order.now);
}

pub loop-i-preserved : goal.loop-i-preserved
loop-i-preserved c =
    let poll = c.candidates.ensures.poll in
    let few = poll.most in
    let more = c.candidates-i-end.ensures.value in
    let below : c.loop-i.i < c.args.roll.now.c = let t = c.loop-i-test.true in omega (arith, t, more) in
    let long = c.requires.order.long in
    let wide : c.from-c.result ≡ c.args.roll.now.c = c.from-c.ensures ∙ c.candidates.ensures.value in
    let first : c.from.result ≡ c.loop-i.i = c.from.ensures in
    let again : c.from-in-loop-i.result ≡ c.loop-i.i = c.from-in-loop-i.ensures in
    record {
      text = each_more (round_of c.args.roll.now c.args.order.now) _ _ _ 0 c.loop-i.i c.loop-i.i (omega arith) c.loop-i.invariant.text
          (c.in_ok-push_round.ensures ∙ ap (λ t. c.loop-i.out.items ++ t)
          (round_same c.args.roll.now c.args.order.now c.args.held.now _ c.loop-i.standing c.loop-i.i c.from-c.result _ poll c.loop-i.invariant.set (ap (λ n. get_or c.args.order.now n 0) again) wide c.requires.size long below c.requires.held
          (ap (λ n. slice_range c.args.held.now (n * c.from-c.result) (n * c.from-c.result + c.from-c.result)) first)));
      set = left_without _ _ _ _ _ (omega (arith, few)) (omega (arith, below, long)) c.loop-i.invariant.set (rw again at c.without-standing.ensures.others) (rw again at c.without-standing.ensures.gone) c.without-standing.ensures.fits;
    }
