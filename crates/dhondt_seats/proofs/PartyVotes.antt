-- The votes of the parties are their first preferences.
use Rattle.std.proofs.Common.{ℕ, List, ◌≡◌, ◌<◌, ◌≤◌, length, get_or, arith}
use Rattle.std.proofs.lemmas.List.{get_or_default}
use Rattle.std.proofs.lemmas.List.FromFn.{fill_by_all}
use Rattle.ballot_form.specs.Ballots.{Poll}
use Rattle.ballot_form.specs.Scores.{first_count}
use Rattle.dhondt_seats.specs.Seats.{votes_of}

-- all parties are counted
pub are_votes : (p : Poll) (votes : List ℕ) → length votes ≡ p.c → ((a : ℕ) → a < length votes → get_or votes a 0 ≡ first_count p.ballots a)
    → votes ≡ votes_of p
are_votes p votes long each = fill_by_all (λ a. first_count p.ballots a) votes p.c 0 long (λ a lt. each a (omega arith))

-- a bound on each place, at every default
pub all_few : (xs : List ℕ) (m : ℕ) → ((a : ℕ) → a < length xs → get_or xs a 0 ≤ m) → (k d : ℕ) → k < length xs → get_or xs k d ≤ m
all_few xs m each k d lt = omega (arith, get_or_default xs k d 0 lt, each k lt)
