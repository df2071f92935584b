use Rattle.std.proofs.Common.{arith, refl}
use Rattle.std.specs.Prelude.{slice_index}
use Rattle.witness_build.proofs.Thresholds.{counts_all, counts_found, counts_more, counts_none, few_at, few_counted}
use Rattle.witness_build.proofs.levels.level_at.Goals as goal

pub loop-key-init : goal.loop-key-init
loop-key-init c = record {
  so_far = λ gains are. counts_none c.args.deficit gains c.args.counts.now are;
  lacks = λ some. absurd (omega (arith, some));
}

pub overflow_add-result : goal.overflow_add-result
overflow_add-result c =
    let gains = c.requires.gains.0 in
    let are = c.requires.gains.1.counted in
    let level = counts_found c.args.deficit gains c.args.counts.now c.loop-key.key c.loop-key.lacking c.loop-key.count (slice_index c.args.counts.now c.loop-key.key) c.from.result c.div_ceil-equal.result
    are c.loop-key-test.true c.from.ensures refl c.if-lacking-brought.true c.div_ceil-equal.ensures (c.loop-key.invariant.so_far gains are) in
    let few = few_at c.args.deficit gains c.args.counts.now _ are level in
    omega (arith, few)

pub returns-then-lacking-brought : goal.returns-then-lacking-brought
returns-then-lacking-brought c = λ gains are.
    counts_found c.args.deficit gains c.args.counts.now c.loop-key.key c.loop-key.lacking c.loop-key.count (slice_index c.args.counts.now c.loop-key.key) c.from.result c.div_ceil-equal.result
    are c.loop-key-test.true c.from.ensures refl c.if-lacking-brought.true c.div_ceil-equal.ensures (c.loop-key.invariant.so_far gains are)

pub overflow_add-count : goal.overflow_add-count
overflow_add-count c =
    let gains = c.requires.gains.0 in
    let are = c.requires.gains.1.counted in
    let more = counts_more c.args.deficit gains c.args.counts.now c.loop-key.key c.loop-key.lacking c.loop-key.count (slice_index c.args.counts.now c.loop-key.key) c.from.result
    are c.loop-key-test.true c.from.ensures refl c.if-lacking-brought.false (c.loop-key.invariant.so_far gains are) in
    let few = few_counted c.args.deficit gains c.args.counts.now _ _ _ are more in
    omega (arith, few)

pub loop-key-preserved : goal.loop-key-preserved
loop-key-preserved c = record {
  so_far = λ gains are. counts_more c.args.deficit gains c.args.counts.now c.loop-key.key c.loop-key.lacking c.loop-key.count (slice_index c.args.counts.now c.loop-key.key) c.from.result
      are c.loop-key-test.true c.from.ensures refl c.if-lacking-brought.false (c.loop-key.invariant.so_far gains are);
  lacks = λ some. omega (arith, c.if-lacking-brought.false);
}

pub unreachable-requires : goal.unreachable-requires
unreachable-requires c =
    let gains = c.requires.gains.0 in
    let are = c.requires.gains.1 in
    let none = counts_all c.args.deficit gains c.args.counts.now c.loop-key.key c.loop-key.lacking c.loop-key.count are c.loop-key-test.false (c.loop-key.invariant.so_far gains are.counted) in
    let some = c.loop-key.invariant.lacks (omega (arith, c.loop-key-test.false, c.requires.some)) in
    omega (arith, none, some)
