-- Replacements of ballots, and the list of ballots after them.
use Rattle.std.specs.Prelude.{ℕ, ◌+◌, ◌≤◌, ◌==◌, List, [], ◌∷◌, if◌then◌else◌, length}
use Rattle.ballot_form.specs.Ballots.{IsValidBallot, Poll}

-- numbers from i to n, strictly ascending, each with a valid ballot of c candidates
abbrev pub IsAlterationFrom : ℕ → ℕ → ℕ → List (ℕ × List ℕ) → Type 0
IsAlterationFrom c i n [] = Unit {0}
IsAlterationFrom c i n (change ∷ changes) =
    (i ≤ change.0) × (change.0 ≤ n) × IsValidBallot c change.1 × IsAlterationFrom c (change.0 + 1) n changes

-- an alteration of a list of ballots, which have the numbers from 1 to its length
abbrev pub IsAlteration : Poll → List (ℕ × List ℕ) → Type 0
IsAlteration p changes = IsAlterationFrom p.c 1 (length p.ballots) changes

-- the ballots, of which the first has the number i, with each one replaced that a change names
abbrev pub after_from : ℕ → List (List ℕ) → List (ℕ × List ℕ) → List (List ℕ)
after_from i [] changes = []
after_from i (ballot ∷ ballots) [] = ballot ∷ ballots
after_from i (ballot ∷ ballots) (change ∷ changes) =
    if change.0 == i then change.1 ∷ after_from (i + 1) ballots changes else ballot ∷ after_from (i + 1) ballots (change ∷ changes)

-- the ballots after an alteration
abbrev pub after : Poll → List (ℕ × List ℕ) → Poll
after p changes = record p { ballots = after_from 1 p.ballots changes }
