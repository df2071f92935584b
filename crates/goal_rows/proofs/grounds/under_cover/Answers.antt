use Rattle.signature_class.specs.Signatures.{cover_key}
use Rattle.goal_rows.proofs.Keyed.{classes_few, cover_classes_are, cover_ground}
use Rattle.goal_rows.proofs.grounds.under_cover.Goals as goal

pub cover_values-requires : goal.cover_values-requires
cover_values-requires c =
    let race = c.args.race.now in
    let are = cover_classes_are race c.args.x c.in_ok-classes.classes c.requires.race c.requires.rule c.in_ok-classes.ensures in
    record { few = classes_few race (cover_key c.args.x) c.in_ok-classes.classes c.requires.race are }

pub returns-clause-values : goal.returns-clause-values
returns-clause-values c =
    let race = c.args.race.now in
    let are = cover_classes_are race c.args.x c.in_ok-classes.classes c.requires.race c.requires.rule c.in_ok-classes.ensures in
    cover_ground race c.args.x c.in_ok-classes.classes c.in_ok-sums.sums c.candidates.result c.len-ballots.result c.requires.race c.requires.below are
    c.candidates.ensures.value c.in_ok-sums.ensures c.len-ballots.ensures.value
