use Rattle.std.proofs.Common.{◌∷◌, ◌∙◌, length, ap, arith}
use Rattle.signature_class.specs.Signatures.{suffix_key}
use Rattle.goal_rows.proofs.Keyed.{classes_few, suffix_ground}
use Rattle.goal_rows.proofs.LongerGrounds.{longer_classes, longer_few, told_are, told_few}
use Rattle.goal_rows.proofs.Ways.{longer_valid}
use Rattle.goal_rows.proofs.cover_grounds.kid_ground.Goals as goal

pub kid_classes-requires : goal.kid_classes-requires
kid_classes-requires c = record {
  few = told_few c.args.race.now c.args.suffix.now c.args.told.now c.requires.race c.requires.told;
  each = told_are c.args.race.now c.args.suffix.now c.args.told.now c.requires.race c.requires.told;
}

pub overflow_cast-len : goal.overflow_cast-len
overflow_cast-len c =
    let few = longer_few c.args.race.now c.args.z c.args.suffix.now c.requires.race c.requires.valid c.requires.below c.requires.another in
    let same = ap length c.in_ok-ranking.ensures in
    omega (arith, few.0, same, c.len.ensures)

pub suffix_values-requires : goal.suffix_values-requires
suffix_values-requires c =
    let race = c.args.race.now in
    let z = c.args.z in
    let suffix = c.args.suffix.now in
    let few = longer_few race z suffix c.requires.race c.requires.valid c.requires.below c.requires.another in
    let same = ap length c.in_ok-ranking.ensures in
    let are = longer_classes race z suffix c.args.told.now c.in_ok-classes.classes c.requires.race c.requires.rule c.requires.valid c.requires.below c.requires.another
    c.requires.told c.in_ok-classes.ensures in
    record {
      few = classes_few race (suffix_key (z ∷ suffix)) c.in_ok-classes.classes c.requires.race are;
      places = omega (arith, few.0, same, c.len.ensures);
    }

pub returns-clause-values : goal.returns-clause-values
returns-clause-values c =
    let race = c.args.race.now in
    let z = c.args.z in
    let suffix = c.args.suffix.now in
    let valid = longer_valid race.roll.now.c z suffix c.requires.valid c.requires.below c.requires.another in
    let are = longer_classes race z suffix c.args.told.now c.in_ok-classes.classes c.requires.race c.requires.rule c.requires.valid c.requires.below c.requires.another
    c.requires.told c.in_ok-classes.ensures in
    rw c.in_ok-ranking.ensures (suffix_ground race (z ∷ suffix) c.in_ok-classes.classes c.in_ok-sums.sums c.len.result c.len-ballots.result c.requires.race valid are
    (c.len.ensures ∙ ap length c.in_ok-ranking.ensures) c.in_ok-sums.ensures c.len-ballots.ensures.value)
