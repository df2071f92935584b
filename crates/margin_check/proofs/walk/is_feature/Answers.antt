use Rattle.std.proofs.Common.{◌∙◌, ap, refl, sym}
use Rattle.goal_rows.specs.Races.{election_of}
use Rattle.goal_rows.specs.declared.goals.Goal.TheVariants.{Cover, Suffix}
use Rattle.margin_check.proofs.Keys.{feature_of}
use Rattle.margin_check.proofs.walk.is_feature.Goals as goal

pub returns-in-Suffix : goal.returns-in-Suffix
returns-in-Suffix c = feature_of (election_of c.args.race.now) c.args.goal.now (Suffix c.as_slice.result.now) c.args.feature c.is_in_suffix.result
    (c.in-Suffix.is ∙ ap Suffix (sym c.as_slice.ensures.value))
    (c.is_in_suffix.ensures (election_of c.args.race.now) c.as_slice.result.now refl)

pub returns-in-Cover : goal.returns-in-Cover
returns-in-Cover c = feature_of (election_of c.args.race.now) c.args.goal.now (Cover c.in-Cover.field-0) c.args.feature c.is_in_cover.result c.in-Cover.is
    (c.is_in_cover.ensures (election_of c.args.race.now) c.in-Cover.field-0 (sym c.candidates.ensures.value))
