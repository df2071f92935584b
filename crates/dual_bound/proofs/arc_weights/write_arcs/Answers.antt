use Rattle.std.proofs.Common.{ℕ, ◌≡◌, ◌≤◌, ◌^◌, length, sym, arith}
use Rattle.std.specs.Prelude.{ℤ, pos, ◌+ℤ◌, unsigned_abs}
use Rattle.std.proofs.lemmas.Int.{ints}
use Rattle.std.proofs.lemmas.List.{get_or_default}
use Rattle.dual_bound.specs.Weighing.{is_arc, limits_bring, rows_bring}
use Rattle.dual_bound.proofs.ArcLists.{arc_left, arcs_end, arcs_more}
use Rattle.dual_bound.proofs.Pairwise.{after_set}
use Rattle.dual_bound.proofs.arc_weights.write_arcs.Goals as goal

pub by_rows-requires-clause-ends : goal.by_rows-requires-clause-ends
by_rows-requires-clause-ends c = arc_left c.args.m c.loop-arc.u c.loop-arc.x c.loop-arc.arc-index c.loop-arc.invariant.number (omega arith) c.loop-arc.invariant.ends c.loop-arc.invariant.last

pub next_arc-next-requires-clause-ends : goal.next_arc-next-requires-clause-ends
next_arc-next-requires-clause-ends c = arc_left c.args.m c.loop-arc.u c.loop-arc.x c.loop-arc.arc-index c.loop-arc.invariant.number (omega arith) c.loop-arc.invariant.ends c.loop-arc.invariant.last

pub loop-arc-preserved : goal.loop-arc-preserved
loop-arc-preserved c =
    let m = c.args.m in
    let u = c.loop-arc.u in
    let x = c.loop-arc.x in
    let k = c.loop-arc.arc-index in
    let so_far = c.loop-arc.invariant in
    let next = c.next_arc-next.ensures in
    let g : ℕ × ℕ → ℤ = λ a. rows_bring m c.args.rows.now a +ℤ limits_bring (is_arc a) c.args.bounds.now c.args.limits.now in
    let long : length c.loop-arc.arcs ≡ length c.args.arcs.now = c.loop-arc.auto.arcs in
    let ends = arc_left m u x k so_far.number (omega arith) so_far.ends so_far.last in
    let rows : c.by_rows.result ≡ rows_bring m c.args.rows.now (u, x) = c.by_rows.ensures.value in
    let limits : c.limits_on.result ≡ limits_bring (is_arc (u, x)) c.args.bounds.now c.args.limits.now = c.limits_on.ensures.value in
    let small = c.by_rows.ensures.small in
    let small_too = c.limits_on.ensures.small in
    record {
      number = omega (arith, next.number, so_far.number);
      begins = next.begins;
      ends = next.ends;
      last = next.last;
      done = arcs_more g m u x k c.loop-arc.arcs _ so_far.number so_far.begins ends (omega (arith, long, c.requires.arcs)) (omega (arith, ints, rows, limits, small, small_too)) so_far.done;
      small = after_set (λ z. unsigned_abs z ≤ 2 ^ 74) c.loop-arc.arcs k _ (pos 0) (omega arith) so_far.small (omega (arith, ints, small, small_too));
    }

pub returns-clause-value : goal.returns-clause-value
returns-clause-value c =
    let g : ℕ × ℕ → ℤ = λ a. rows_bring c.args.m c.args.rows.now a +ℤ limits_bring (is_arc a) c.args.bounds.now c.args.limits.now in
    let long : length c.loop-arc.arcs ≡ length c.args.arcs.now = c.loop-arc.auto.arcs in
    arcs_end g c.args.m c.loop-arc.arc-index c.loop-arc.arcs (omega (arith, long, c.requires.arcs)) (omega (arith, long, c.loop-arc-test.false)) c.loop-arc.invariant.done

pub returns-clause-small : goal.returns-clause-small
returns-clause-small c k d lt =
    let long : length c.loop-arc.arcs ≡ length c.args.arcs.now = c.loop-arc.auto.arcs in
    let here = c.loop-arc.invariant.small k (omega (arith, lt, long, c.loop-arc-test.false)) in
    rw (sym (get_or_default c.loop-arc.arcs k (pos 0) d lt)) here
