use Rattle.std.proofs.Common.{arith, ap, length, ◌≡◌}
use Rattle.row_program.proofs.Values.{few_terms}
use Rattle.dual_bound.proofs.cell_rows.value_at.Goals as goal

pub terms_sum-requires-clause-few : goal.terms_sum-requires-clause-few
terms_sum-requires-clause-few c =
    let few = few_terms (length c.args.values.now) c.args.row.now c.requires.row in
    let same : length c.as_slice.result.now ≡ length c.args.row.now.terms = ap length c.as_slice.ensures in
    omega (arith, few, same, c.requires.few)
