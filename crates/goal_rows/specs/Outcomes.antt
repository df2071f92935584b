-- Which outcomes a rule admits, and the one that is reported.
use Rattle.std.specs.Prelude.{◌≡◌, ℕ, ◌<◌, ◌≤◌, List, Some, None}
use Rattle.ballot_form.specs.Ballots.{Poll}
use Rattle.ballot_form.specs.Scores.{borda_points, plurality_points, score_of}
use Rattle.ballot_form.specs.declared.outcome.Outcome.{Outcome}
use Rattle.ballot_form.specs.declared.outcome.Outcome.TheVariants.{Winner, NoWinner, Seats}
use Rattle.ballot_form.specs.declared.rule.Rule.{Rule}
use Rattle.ballot_form.specs.declared.rule.Rule.TheVariants.{Plurality, Borda, Condorcet, Dhondt, Irv}
use Rattle.condorcet_count.specs.Preferences.{pref_of}
use Rattle.condorcet_count.specs.Settlings.{IsAdmittedOutcome, IsReportedOutcome}
use Rattle.dhondt_seats.specs.Seats.{IsAllocation, reported_seats, votes_of}
use Rattle.irv_count.specs.Orders.{IsLast, IsLegalOrder, IsOrderBy}

-- no candidate's score is greater than that of x
pub record HasGreatestScore (points : List ℕ → ℕ → ℕ) (p : Poll) (x : ℕ) : Type 0 where
  pub stands : x < p.c
  pub greatest : (y : ℕ) → y < p.c → score_of points p.ballots y ≤ score_of points p.ballots x

-- x has the lowest number of those with the greatest score
pub record IsLowestWithGreatest (points : List ℕ → ℕ → ℕ) (p : Poll) (x : ℕ) : Type 0 where
  pub greatest : HasGreatestScore points p x
  pub lowest : (y : ℕ) → y < x → score_of points p.ballots y < score_of points p.ballots x

-- some choice at the ties gives this outcome: a candidate with the greatest score; who is chosen in all pairs of some
-- settling, or nobody where none is in some settling; an allocation of the seats; the last of some legal order
abbrev pub Admits : Rule → Poll → Outcome → Type 0
Admits Plurality p (Winner x) = HasGreatestScore plurality_points p x
Admits Borda p (Winner x) = HasGreatestScore (borda_points p.c) p x
Admits Condorcet p (Winner x) = IsAdmittedOutcome p.c (pref_of p.ballots) (Some x)
Admits Condorcet p NoWinner = IsAdmittedOutcome p.c (pref_of p.ballots) None
Admits (Dhondt seats) p (Seats shares) = IsAllocation (votes_of p) seats shares
Admits Irv p (Winner x) = (order : List ℕ) × IsLegalOrder p order × IsLast order x
Admits rule p outcome = ⊥

-- the outcome that the rule's own choice at the ties gives: the lowest-numbered with the greatest score; the outcome of
-- the settling that gives tied pairs to the lower number; the seats of the highest quotients, the lower-numbered
-- party's first among equals; the last of the legal order in which the highest-numbered of the least goes out
abbrev pub IsReported : Rule → Poll → Outcome → Type 0
IsReported Plurality p (Winner x) = IsLowestWithGreatest plurality_points p x
IsReported Borda p (Winner x) = IsLowestWithGreatest (borda_points p.c) p x
IsReported Condorcet p (Winner x) = IsReportedOutcome p.c (pref_of p.ballots) (Some x)
IsReported Condorcet p NoWinner = IsReportedOutcome p.c (pref_of p.ballots) None
IsReported (Dhondt seats) p (Seats shares) = shares ≡ reported_seats (votes_of p) seats
IsReported Irv p (Winner x) = (order : List ℕ) × IsOrderBy None p order × IsLast order x
IsReported rule p outcome = ⊥
