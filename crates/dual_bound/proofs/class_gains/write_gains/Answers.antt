use Rattle.std.proofs.Common.{◌≡◌, ◌<◌, ◌≤◌, ◌^◌, length, get_or, sym, ap, ◌∙◌, rules, arith}
use Rattle.std.proofs.lemmas.Int.{to_z-of_z}
use Rattle.std.proofs.lemmas.List.{get_or_default}
use Rattle.std.proofs.Math.ListN.{length-set}
use Rattle.dual_bound.specs.Weighing.{cost_by, gain_over}
use Rattle.dual_bound.proofs.Pairwise.{after_set}
use Rattle.dual_bound.proofs.SortedGains.{gains_more}
use Rattle.dual_bound.proofs.class_gains.write_gains.Goals as goal
use mir.Val.{SFits}
use mir.Syntax.{w128}

pub loop-i-preserved : goal.loop-i-preserved
loop-i-preserved c =
    let start = c.args.start.now in
    let cost = cost_by start c.args.limits.now c.args.multipliers.now in
    let i = c.loop-i.i in
    let so_far = c.loop-i.invariant in
    let fits : SFits w128 c.cost-cost.result = search rules in
    let cost_is : c.cost-cost.result ≡ cost (get_or start.classes i (0, 0)).0 = c.cost-cost.ensures.value ∙ ap cost c.key.ensures in
    let value = c.gain.ensures.value ∙ ap (gain_over _) (to_z-of_z w128 c.cost-cost.result fits ∙ cost_is) in
    let lt : i < length c.loop-i.places = omega (arith, c.loop-i.auto.places, c.loop-i-test.true) in
    let within : i < length start.classes = omega (arith, lt, so_far.long) in
    record {
      long = length-set c.loop-i.places i (c.gain.result, c.count.result) ∙ so_far.long;
      done = gains_more _ cost start.classes c.loop-i.places i c.gain.result c.count.result lt within value c.count.ensures so_far.done;
      small = after_set (λ p. p.0 ≤ 2 ^ 88) c.loop-i.places i (c.gain.result, c.count.result) (0, 0) lt so_far.small c.gain.ensures.small;
    }

pub returns-clause-small : goal.returns-clause-small
returns-clause-small c k d lt =
    let here = c.loop-i.invariant.small k (omega (arith, lt, c.loop-i.auto.places, c.loop-i-test.false)) in
    rw (sym (get_or_default c.loop-i.places k (0, 0) d lt)) here
