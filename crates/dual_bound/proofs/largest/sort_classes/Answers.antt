use Rattle.std.proofs.Common.{rules, arith}
use Rattle.std.proofs.lemmas.Bool.Decides.{nat_tests}
use Rattle.std.proofs.lemmas.List.Sorted.{answers_always}
use Rattle.dual_bound.proofs.Sorting.{descending_from}
use Rattle.dual_bound.proofs.largest.sort_classes.Goals as goal

pub returns-clause-order : goal.returns-clause-order
returns-clause-order c =
    let h = c.sort_unstable_by_key.ensures.sorted (λ p. record { 0 = p.0 }) (answers_always _ _ _ (λ f a r q k. search rules)) in
    descending_from _ (λ k d lt. let t = h k d (omega arith) lt in grind (arith, nat_tests))
