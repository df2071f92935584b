use Rattle.std.proofs.Common.{FitsSigned, w64, arith}
use Rattle.std.proofs.lemmas.Int.{fits_signed_from_abs, ints, to_z-of_z}
use Rattle.goal_rows.proofs.GroundSizes.{cover_few, lone_small, suffix_few}
use Rattle.goal_rows.proofs.programs.weighings.Goals as goal

pub overflow_cast-len : goal.overflow_cast-len
overflow_cast-len c = let few = suffix_few c.args.start.now c.in-Suffix.suffix c.requires c.in-Suffix.is in omega (arith, few, c.len.ensures)

pub overflow_cast-len-in-Cover : goal.overflow_cast-len-in-Cover
overflow_cast-len-in-Cover c = let few = cover_few c.args.start.now c.in-Cover.x c.requires c.in-Cover.is in omega (arith, few.0, few.2, c.len-in-Cover.ensures)

pub overflow_add-len : goal.overflow_add-len
overflow_add-len c = let few = cover_few c.args.start.now c.in-Cover.x c.requires c.in-Cover.is in omega (arith, few.0, few.2, c.len-in-Cover.ensures)

pub level_weighing-requires : goal.level_weighing-requires
level_weighing-requires c =
    let small = lone_small c.args.start.now c.in-Pair.field-0 c.in-Pair.field-1 c.requires c.in-Pair.is in
    let fits : FitsSigned w64 c.args.start.now.lone = fits_signed_from_abs w64 c.args.start.now.lone (omega (arith, ints, small.0, small.1)) in
    simp to_z-of_z (record { low = small.0; high = small.1 })
