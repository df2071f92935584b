-- The outcome turns exactly where the rows of some complete goal hold: for every rule.
use Rattle.std.proofs.Common.{ℕ, List, ◌≡◌, ◌↔◌, sym, subst}
use Rattle.ballot_form.specs.Alterations.{IsAlteration}
use Rattle.ballot_form.specs.Ballots.{IsPoll, Poll}
use Rattle.ballot_form.specs.declared.outcome.Outcome.{Outcome}
use Rattle.ballot_form.specs.declared.outcome.Outcome.TheVariants.{Winner, NoWinner, Seats}
use Rattle.ballot_form.specs.declared.rule.Rule.{Rule}
use Rattle.ballot_form.specs.declared.rule.Rule.TheVariants.{Plurality, Borda, Condorcet, Dhondt, Irv}
use Rattle.goal_rows.specs.Elections.{Election}
use Rattle.goal_rows.specs.Goals.{IsElection, root_goals}
use Rattle.goal_rows.specs.Margins.{Turns}
use Rattle.goal_rows.specs.Outcomes.{IsReported}
use Rattle.goal_rows.specs.declared.goals.Goal.{Goal}
use Rattle.goal_rows.proofs.CoverTurning.{cover_turning}
use Rattle.goal_rows.proofs.PairTurning.{Met, of_contest, turning_by}
use Rattle.goal_rows.proofs.SuffixTurning.{suffix_turning}

turning_of : (rule : Rule) (p : Poll) (reported : Outcome) (changes : List (ℕ × List ℕ)) → IsPoll p → IsAlteration p changes → IsReported rule p reported
    → Turns rule p changes ↔ Met (of_contest rule p reported) changes
turning_of Plurality p reported changes poll alters is = turning_by Plurality p reported changes tt poll is
turning_of Borda p reported changes poll alters is = turning_by Borda p reported changes tt poll is
turning_of Condorcet p (Winner x) changes poll alters is = turning_by Condorcet p (Winner x) changes tt poll is
turning_of Condorcet p NoWinner changes poll alters is = cover_turning p changes is
turning_of Condorcet p (Seats shares) changes poll alters is = absurd is
turning_of (Dhondt seats) p reported changes poll alters is = turning_by (Dhondt seats) p reported changes tt poll is
turning_of Irv p (Winner x) changes poll alters is = suffix_turning p x changes poll alters is
turning_of Irv p NoWinner changes poll alters is = absurd is
turning_of Irv p (Seats shares) changes poll alters is = absurd is

pub contest_turning : (e : Election) (changes : List (ℕ × List ℕ)) → IsPoll e.poll → IsReported e.rule e.poll e.reported → e.roots ≡ root_goals e.rule e.poll.c e.reported
    → IsAlteration e.poll changes → Turns e.rule e.poll changes ↔ Met e changes
contest_turning e changes poll is roots alters =
    let with : List Goal → Election = λ goals. record { rule = e.rule; poll = e.poll; reported = e.reported; roots = goals } in
    subst (λ goals. Turns e.rule e.poll changes ↔ Met (with goals) changes) (sym roots) (turning_of e.rule e.poll e.reported changes poll alters is)

pub election_turning : (e : Election) (changes : List (ℕ × List ℕ)) → IsElection e → e.roots ≡ root_goals e.rule e.poll.c e.reported → IsAlteration e.poll changes
    → Turns e.rule e.poll changes ↔ Met e changes
election_turning e changes is roots alters = contest_turning e changes is.poll is.reported roots alters
