use Rattle.std.proofs.Common.{◌≡◌, ◌<◌, ◌+◌, ◌∙◌, length, get_or, set, ap, refl, arith}
use Rattle.std.proofs.Math.ListN.{length-set}
use Rattle.goal_rows.proofs.ClassCounts.{counts_more, counts_same, part_few}
use Rattle.goal_rows.proofs.HeldCounts.{few_more, held_by_none, held_more, zeros}
use Rattle.goal_rows.proofs.sums.held_counts.Goals as goal
use Rattle.goal_rows.proofs.sums.held_counts.Goals.{in-None, in-Some}

pub loop-k-init : goal.loop-k-init
loop-k-init c = record {
  value = λ j low. zeros 40 j;
  few = λ j. let e = zeros 40 j in omega (arith, e);
  long = refl;
}

pub overflow_add-held : goal.overflow_add-held
overflow_add-held c =
    let classes = c.args.classes.now in
    let k = c.loop-k.k in
    let lt : k < length classes = (let e = c.len-k-end.ensures.value in omega (arith, e, c.loop-k-test.true)) in
    let more = counts_more classes k c.count.result (get_or c.loop-k.held c.from-in-Some.result 0) lt c.count.ensures (c.loop-k.invariant.few c.from-in-Some.result) in
    let few = part_few (λ z. z.1) classes (k + 1) in
    omega (arith, more, few, c.requires.few, c.from.ensures)

pub loop-k-preserved : goal.loop-k-preserved
loop-k-preserved c =
    let classes = c.args.classes.now in
    let k = c.loop-k.k in
    let i = c.args.i in
    let held = c.loop-k.held in
    let so_far = c.loop-k.invariant in
    let lt : k < length classes = (let e = c.len-k-end.ensures.value in omega (arith, e, c.loop-k-test.true)) in
    elim c.match-first_bit.branch [
      | in-Some w ↦
          let at = w.in-Some.j in
          let is : c.match-first_bit.held ≡ set held at (get_or held at 0 + w.count.result) =
          w.held-is ∙ ap (λ z. set held z (get_or held z 0 + w.from.result)) w.from-in-Some.ensures ∙ ap (λ n. set held at (get_or held at 0 + n)) w.from.ensures in
          let within : at < length held = (let b = w.in-Some.ensures.within in let l = so_far.long in omega (arith, b, l)) in
          rw is (record {
            value = held_more i k c.key.result w.count.result at classes held lt c.key.ensures w.count.ensures w.in-Some.ensures.value within so_far.value;
            few = few_more k w.count.result at classes held lt w.count.ensures within so_far.few;
            long = length-set held at (get_or held at 0 + w.count.result) ∙ so_far.long;
          })
      | in-None w ↦ rw w.held-is (record {
        value = held_by_none i k c.key.result classes held lt c.key.ensures w.in-None.ensures.value so_far.value;
        few = λ j. counts_same classes k (get_or held j 0) lt (so_far.few j);
        long = so_far.long;
      })
    ]
