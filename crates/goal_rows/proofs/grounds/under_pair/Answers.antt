use Rattle.std.proofs.Common.{rules, FitsSigned, w64, [], ◌∷◌, ◌≡◌}
use Rattle.std.proofs.lemmas.Int.{to_z-of_z}
use Rattle.goal_rows.proofs.Classed.{pair_values}
use Rattle.goal_rows.proofs.grounds.under_pair.Goals as goal

pub returns-clause-values : goal.returns-clause-values
returns-clause-values c =
    let one : FitsSigned w64 c.weight.result = search rules in
    let two : FitsSigned w64 c.difference.result = search rules in
    let sums : c.in_ok-sums.sums ≡ c.difference.result ∷ [] = simp to_z-of_z at c.in_ok-sums.ensures in
    let tally = c.in_ok-tally.ensures in
    simp to_z-of_z (rw sums (pair_values c.args.race.now c.args.gainer c.args.loser c.in_ok-tally.tally.classes c.in_ok-tally.tally.gained c.in_ok-tally.tally.lost
    c.difference.result c.weight.result c.len-ballots.result c.requires.race tally.classes tally.gained tally.lost c.difference.ensures c.weight.ensures c.len-ballots.ensures.value))
