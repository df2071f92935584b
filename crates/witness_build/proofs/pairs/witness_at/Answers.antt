use Rattle.std.proofs.Common.{◌≡◌, ◌∙◌, ap, sym, subst}
use Rattle.alteration_model.specs.Faults.{pairs_of}
use Rattle.goal_rows.specs.Pairs.{puts_of}
use Rattle.goal_rows.specs.Races.{election_of}
use Rattle.witness_build.specs.Levels.{first_from, gains_under}
use Rattle.witness_build.proofs.Cheapest.{AreBuilt, built}
use Rattle.witness_build.proofs.pairs.witness_at.Goals as goal

pub from_puts-requires : goal.from_puts-requires
from_puts-requires c =
    let e = election_of c.args.race.now in
    let gains = gains_under e c.args.start.now.goal in
    let puts_are : pairs_of c.as_slice-2.result.now ≡ puts_of c.in-Pair.gainer (first_from c.args.level.gain c.args.level.equal 1 gains) =
    ap pairs_of c.as_slice-2.ensures.value ∙ c.in_ok-puts.ensures ∙ ap (puts_of c.in-Pair.gainer) (c.as_slice.ensures ∙ c.in_ok-numbers.ensures) in
    (built e c.args.start.now c.in-Pair.gainer c.in-Pair.field-1 c.args.level (pairs_of c.as_slice-2.result.now) c.requires.start c.in-Pair.is c.requires.level puts_are).met.alteration

are_built : (c : goal.After-drop-numbers-inside-2) → AreBuilt (election_of c.args.race.now) c.in_ok-goal.goal c.args.level c.in_ok-changes.changes
are_built c =
    let e = election_of c.args.race.now in
    let gains = gains_under e c.args.start.now.goal in
    let changes_are : c.in_ok-changes.changes ≡ puts_of c.in-Pair.gainer (first_from c.args.level.gain c.args.level.equal 1 gains) =
    c.in_ok-changes.ensures ∙ ap pairs_of c.as_slice-2.ensures.value ∙ c.in_ok-puts.ensures ∙ ap (puts_of c.in-Pair.gainer) (c.as_slice.ensures ∙ c.in_ok-numbers.ensures) in
    subst (λ at. AreBuilt e at c.args.level c.in_ok-changes.changes) (sym c.in_ok-goal.ensures)
    (built e c.args.start.now c.in-Pair.gainer c.in-Pair.field-1 c.args.level c.in_ok-changes.changes c.requires.start c.in-Pair.is c.requires.level changes_are)

pub returns-clause-least : goal.returns-clause-least
returns-clause-least c = (are_built c).least

pub returns-clause-size : goal.returns-clause-size
returns-clause-size c = (are_built c).size

pub returns-clause-met : goal.returns-clause-met
returns-clause-met c = (are_built c).met
