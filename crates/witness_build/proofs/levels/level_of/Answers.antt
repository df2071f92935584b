use Rattle.std.proofs.Common.{◌≡◌, ◌∙◌, length, slice_index, sym, ap, subst, arith}
use Rattle.mov_base.specs.Sums.{add_up}
use Rattle.witness_build.specs.Levels.{AreEnough, IsLevelFor, gains_under, of_key}
use Rattle.witness_build.proofs.Grounds.{counted_gains, few_classes}
use Rattle.witness_build.proofs.levels.level_of.Goals as goal

pub counts_by_key-requires : goal.counts_by_key-requires
counts_by_key-requires c = record { few = few_classes c.requires.start.0 c.args.start.now c.requires.start.1 }

pub level_at-requires-clause-gains : goal.level_at-requires-clause-gains
level_at-requires-clause-gains c =
    let e = c.requires.start.0 in
    let is = c.requires.start.1 in
    let items = c.as_slice.ensures.value in
    let size : length c.as_slice.result.now ≡ c.greatest_gain-end.result = ap length items ∙ c.in_ok-counts.ensures.size in
    let are = counted_gains e c.args.start.now c.as_slice.result.now is c.requires.pair (size ∙ c.greatest_gain-end.ensures.value e is)
    (λ k lt. subst (λ xs. slice_index xs k ≡ add_up (of_key k) c.args.start.now.classes) (sym items) (c.in_ok-counts.ensures.each k (omega (arith, lt, size)))) in
    (gains_under e c.args.start.now.goal, subst (λ n. AreEnough n (gains_under e c.args.start.now.goal) c.as_slice.result.now) (sym (c.behind.ensures e is)) are)

pub returns : goal.returns
returns c = λ e is.
    let items = c.as_slice.ensures.value in
    let size : length c.as_slice.result.now ≡ c.greatest_gain-end.result = ap length items ∙ c.in_ok-counts.ensures.size in
    let are = counted_gains e c.args.start.now c.as_slice.result.now is c.requires.pair (size ∙ c.greatest_gain-end.ensures.value e is)
    (λ k lt. subst (λ xs. slice_index xs k ≡ add_up (of_key k) c.args.start.now.classes) (sym items) (c.in_ok-counts.ensures.each k (omega (arith, lt, size)))) in
    subst (λ n. IsLevelFor n (gains_under e c.args.start.now.goal) c.level_at.result) (c.behind.ensures e is) (c.level_at.ensures (gains_under e c.args.start.now.goal) are.counted)
