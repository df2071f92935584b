use Rattle.std.proofs.Common.{◌≡◌, ◌≤◌, ◌+◌, ◌-◌, length, take, drop, ap, ◌∙◌, rules, arith}
use Rattle.std.proofs.lemmas.Int.{ints}
use Rattle.std.proofs.lemmas.List.{length-take}
use Rattle.dual_bound.specs.Weighing.{rows_bring}
use Rattle.dual_bound.proofs.RoundSums.{few_rows, first_end, first_next, round_within, rounds_end, rounds_more}
use Rattle.dual_bound.proofs.arc_weights.by_rows.Goals as goal
use Rattle.dual_bound.proofs.arc_weights.by_rows.Goals.{After-from, After-by_round-sum}

-- the rows of the round are some of all
fits : (c : After-from) → c.loop-i.first + c.from.result ≤ length c.args.rows.now
fits c =
    let within = round_within c.args.m c.loop-i.i c.loop-i.auto.i c.loop-i-test.true in
    omega (arith, within, c.loop-i.invariant.first, c.requires.one_each, c.from.ensures)

few : (c : After-from) → length c.args.rows.now ≤ 780
few c = let h = few_rows c.args.m c.requires.places in omega (arith, h, c.requires.one_each)

pub overflow_add-end : goal.overflow_add-end
overflow_add-end c = let h = fits c in let n = few c in search rules

pub offset_bounds-rows-first : goal.offset_bounds-rows-first
offset_bounds-rows-first c = let h = fits c in let n = few c in search rules

pub slice_bounds-by_round-end : goal.slice_bounds-by_round-end
slice_bounds-by_round-end c = let h = fits c in let n = few c in search rules

pub loop-i-preserved : goal.loop-i-preserved
loop-i-preserved c =
    let m = c.args.m in
    let i = c.loop-i.i in
    let first = c.loop-i.first in
    let rows = c.args.rows.now in
    let within = round_within m i c.loop-i.auto.i c.loop-i-test.true in
    let enough : first + (m - i) ≤ length rows = omega (arith, within, c.loop-i.invariant.first, c.requires.one_each) in
    let count : first + c.from.result - first ≡ m - i = omega (arith, c.from.ensures) in
    let next : first + c.from.result ≡ first + (m - i) = omega (arith, c.from.ensures) in
    let part = ap (λ k. take k (drop first rows)) count in
    let t = rounds_more m i first (first + c.from.result) rows _ (c.args.u, c.args.x) c.loop-i.sum c.by_round-sum.result (rows_bring m rows (c.args.u, c.args.x)) c.loop-i-test.true enough next part
    c.by_round-sum.ensures.value (omega (arith, ints, c.loop-i.invariant.total)) in
    let small = c.by_round-sum.ensures.small in
    let few = few_rows m c.requires.places in
    let long = length-take (first + c.from.result - first) (drop first rows) in
    record {
      first = next ∙ ap (λ k. k + (m - i)) c.loop-i.invariant.first ∙ first_next m i c.loop-i.auto.i c.loop-i-test.true;
      total = omega (arith, ints, t, c.loop-i.invariant.bound, few, enough, small, long, count);
      bound = omega (arith, ints, c.loop-i.invariant.bound, few, enough, small, long, count, next);
    }

pub returns-clause-value : goal.returns-clause-value
returns-clause-value c = rounds_end c.args.m c.loop-i.i c.loop-i.first c.args.rows.now (c.args.u, c.args.x) _ _ c.loop-i-test.false c.loop-i.invariant.total

pub returns-clause-small : goal.returns-clause-small
returns-clause-small c =
    let all = first_end c.args.m c.loop-i.i (omega arith) c.loop-i-test.false (c.loop-i.auto.i-end (omega arith)) in
    let few = few_rows c.args.m c.requires.places in
    omega (arith, all, few, c.loop-i.invariant.first, c.loop-i.invariant.bound)
