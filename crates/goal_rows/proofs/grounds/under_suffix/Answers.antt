use Rattle.std.proofs.Common.{◌∙◌, length, ap, arith}
use Rattle.signature_class.specs.Signatures.{suffix_key}
use Rattle.signature_class.specs.Classes.{classes_by}
use Rattle.ballot_form.proofs.Lengths.{length_valid}
use Rattle.goal_rows.proofs.Keyed.{classes_few, suffix_classes_are, suffix_ground}
use Rattle.goal_rows.proofs.grounds.under_suffix.Goals as goal

pub suffix_classes-requires : goal.suffix_classes-requires
suffix_classes-requires c =
    let few = length_valid c.args.race.now.roll.now.c c.args.suffix.now c.requires.valid in
    let most = c.requires.race.election.poll.most in
    let same = ap length c.as_slice-candidates.ensures.value in
    omega (arith, few, most, same)

pub overflow_cast-candidates : goal.overflow_cast-candidates
overflow_cast-candidates c =
    let few = length_valid c.args.race.now.roll.now.c c.args.suffix.now c.requires.valid in
    let most = c.requires.race.election.poll.most in
    let same = ap length c.as_slice-candidates.ensures.value in
    omega (arith, few, most, same)

pub suffix_values-requires : goal.suffix_values-requires
suffix_values-requires c =
    let few = length_valid c.args.race.now.roll.now.c c.args.suffix.now c.requires.valid in
    let most = c.requires.race.election.poll.most in
    let same = ap length c.as_slice-candidates.ensures.value in
    let race = c.args.race.now in
    let suffix = c.args.suffix.now in
    let by = c.in_ok-classes.ensures ∙ ap (λ s. classes_by (suffix_key s) race.kinds) c.as_slice-candidates.ensures.value in
    let are = suffix_classes_are race suffix c.in_ok-classes.classes c.requires.race c.requires.rule by in
    record { few = classes_few race (suffix_key suffix) c.in_ok-classes.classes c.requires.race are; places = omega (arith, few, most, same) }

pub returns-clause-values : goal.returns-clause-values
returns-clause-values c =
    let race = c.args.race.now in
    let suffix = c.args.suffix.now in
    let by = c.in_ok-classes.ensures ∙ ap (λ s. classes_by (suffix_key s) race.kinds) c.as_slice-candidates.ensures.value in
    let are = suffix_classes_are race suffix c.in_ok-classes.classes c.requires.race c.requires.rule by in
    let start = suffix_ground race suffix c.in_ok-classes.classes c.in_ok-sums.sums (length c.as_slice-candidates.result.now) c.len-ballots.result c.requires.race c.requires.valid are
    (ap length c.as_slice-candidates.ensures.value) c.in_ok-sums.ensures c.len-ballots.ensures.value in
    rw c.in_ok-copy.ensures start
