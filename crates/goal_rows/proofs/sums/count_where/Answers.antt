use Rattle.std.proofs.Common.{◌≡◌, ◌<◌, ◌+◌, ◌∙◌, length, sym, ap, arith}
use Rattle.goal_rows.proofs.ClassCounts.{class_fails, class_passes, counts_more, counts_same, part_few}
use Rattle.goal_rows.proofs.sums.count_where.Goals as goal
use Rattle.goal_rows.proofs.sums.count_where.Goals.{then-test, else-test}

pub overflow_add-sum : goal.overflow_add-sum
overflow_add-sum g c =
    let classes = c.args.classes.now in
    let k = c.loop-k.k in
    let lt : k < length classes = (let e = c.len-k-end.ensures.value in omega (arith, e, c.loop-k-test.true)) in
    let more = counts_more classes k c.count.result c.loop-k.sum lt c.count.ensures c.loop-k.invariant.few in
    let few = part_few (λ c. c.1) classes (k + 1) in
    omega (arith, more, few, c.requires.few, c.from-sum.ensures)

pub loop-k-preserved : goal.loop-k-preserved
loop-k-preserved g c =
    let classes = c.args.classes.now in
    let k = c.loop-k.k in
    let lt : k < length classes = (let e = c.len-k-end.ensures.value in omega (arith, e, c.loop-k-test.true)) in
    elim c.if-test.branch [
      | then-test w ↦
          let sum : c.if-test.sum ≡ c.loop-k.sum + w.count.result = w.sum-is ∙ ap (λ n. c.loop-k.sum + n) w.from-sum.ensures in
          rw sum (record {
            value = λ passes is. class_passes passes classes k c.key.result w.count.result c.loop-k.sum lt c.key.ensures w.count.ensures
                (sym (is c.key.result c.test.result c.test.ensures) ∙ w.if-test.true) (c.loop-k.invariant.value passes is);
            few = counts_more classes k w.count.result c.loop-k.sum lt w.count.ensures c.loop-k.invariant.few;
          })
      | else-test w ↦ rw w.sum-is (record {
        value = λ passes is. class_fails passes classes k c.key.result c.loop-k.sum lt c.key.ensures
            (sym (is c.key.result c.test.result c.test.ensures) ∙ w.if-test.false) (c.loop-k.invariant.value passes is);
        few = counts_same classes k c.loop-k.sum lt c.loop-k.invariant.few;
      })
    ]
