use Rattle.std.proofs.Common.{◌≡◌, ◌+◌, length, get_or, drop, ap, arith}
use Rattle.std.specs.Prelude.{pos, ◌*ℤ◌}
use Rattle.std.proofs.lemmas.Int.{ints}
use Rattle.goal_rows.specs.Suffixes.{others}
use Rattle.dual_bound.specs.Weighing.{over_weight}
use Rattle.dual_bound.proofs.OldCosts.{cover_passes, cover_takes, others_from, rest_cost, row_within}
use Rattle.dual_bound.proofs.ballot_costs.cover_cost.Goals as goal
use Rattle.dual_bound.proofs.ballot_costs.cover_cost.Goals.{then-j-x, else-j-x}

pub loop-j-preserved : goal.loop-j-preserved
loop-j-preserved c =
    let x = c.args.x in
    let key = c.args.key in
    let rows = c.args.rows.now in
    let n = length rows + 1 in
    let j = c.loop-j.j in
    let row = c.loop-j.row in
    let so_far = c.loop-j.invariant in
    let whole = rest_cost x key rows (others n x) in
    elim c.if-j-x.branch [
      | then-j-x w ↦
          let within = row_within (length rows) x j row (omega arith) c.requires.within w.if-j-x.true so_far.before so_far.behind in
          let step : w.over_cost-sum.result ≡ pos (get_or rows row 0) *ℤ over_weight x key j = w.over_cost-sum.ensures.value in
          let t = cover_takes n x key j row rows c.loop-j.sum w.over_cost-sum.result whole (omega arith) w.if-j-x.true within step (omega (arith, ints, so_far.total)) in
          let p = ap (λ v. rest_cost x key (drop v rows) (others_from n x (j + 1))) w.row-is in
          record {
            before = λ le. let e = so_far.before (omega (arith, le)) in omega (arith, e, w.row-is);
            behind = λ lt. let e = so_far.behind (omega (arith, lt, w.if-j-x.true)) in omega (arith, e, w.row-is);
            total = omega (arith, ints, t, p, w.sum-is, w.over_cost-sum.ensures.small, so_far.bound);
            bound = omega (arith, ints, w.sum-is, w.over_cost-sum.ensures.small, so_far.bound, w.row-is);
          }
      | else-j-x w ↦
          let t = cover_passes n x key j row rows c.loop-j.sum whole (omega arith) w.if-j-x.false (omega (arith, ints, so_far.total)) in
          let p = ap (λ v. rest_cost x key (drop v rows) (others_from n x (j + 1))) w.row-is in
          record {
            before = λ le. absurd (omega (arith, le, w.if-j-x.false));
            behind = λ lt. let e = so_far.before (omega (arith, w.if-j-x.false)) in omega (arith, e, w.row-is);
            total = omega (arith, ints, t, p, w.sum-is);
            bound = omega (arith, ints, w.sum-is, so_far.bound, w.row-is);
          }
    ]
