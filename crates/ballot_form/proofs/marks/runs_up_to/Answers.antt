use Rattle.std.proofs.Common.{leb, leb-false, leb-true, arith, rules}
use Rattle.std.proofs.lemmas.List.Sorted.{IsNonDecreasingBy-from_default, IsPartitionPoint-from_clause, IsPartitionedBy-leb}
use Rattle.ballot_form.proofs.Kept.{firsts_rise}
use Rattle.ballot_form.proofs.marks.runs_up_to.Goals as goal

pub returns-clause-earlier : goal.returns-clause-earlier
returns-clause-earlier c =
    let rise = IsNonDecreasingBy-from_default (λ m. m.first) c.args.marks.now (record { start = 0; first = 0 }) (λ j k le lt. firsts_rise c.args.marks.now c.requires.0 c.requires.1 j k _ c.requires.2 le lt) in
    let point = IsPartitionPoint-from_clause (λ m. leb m.first c.args.i) _ _ c.partition_point.ensures.partitioned (IsPartitionedBy-leb (λ m. m.first) _ c.args.i rise) (λ a r q k. search rules) in
    λ k d lt. leb-true _ _ (point.0 k d (omega arith) lt)

pub returns-clause-later : goal.returns-clause-later
returns-clause-later c =
    let rise = IsNonDecreasingBy-from_default (λ m. m.first) c.args.marks.now (record { start = 0; first = 0 }) (λ j k le lt. firsts_rise c.args.marks.now c.requires.0 c.requires.1 j k _ c.requires.2 le lt) in
    let point = IsPartitionPoint-from_clause (λ m. leb m.first c.args.i) _ _ c.partition_point.ensures.partitioned (IsPartitionedBy-leb (λ m. m.first) _ c.args.i rise) (λ a r q k. search rules) in
    λ k d le lt. leb-false _ _ (point.1 k d le lt)
