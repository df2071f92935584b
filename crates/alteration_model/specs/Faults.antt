-- What is wrong with claimed replacements.
use Rattle.std.specs.Prelude.{◌≡◌, ◌⊎◌, ⊤, ℕ, ◌+◌, ◌<◌, ◌≤◌, List, [], ◌∷◌, map, Option, Some, None, Result, Ok, Err, length}
use Rattle.ballot_form.specs.Ballots.{IsValidBallot, Poll}
use Rattle.alteration_model.specs.declared.faults.AlterFault.{AlterFault}
use Rattle.alteration_model.specs.declared.faults.AlterFault.TheVariants.{NumberRange, NotAscending, BadBallot, Memory}
use Rattle.alteration_model.specs.declared.puts.Put.{Put}

-- what is wrong with the put at a place, where the one before has the number `last`: of several faults the first of this list
abbrev pub IsPutFault : Poll → ℕ → ℕ → Put → Option AlterFault → Type 0
IsPutFault p at last put None =
    (1 ≤ put.number) × (put.number ≤ length p.ballots) × (last < put.number) × IsValidBallot p.c put.ballot
IsPutFault p at last put (Some (NumberRange i)) =
    (i ≡ at) × ((put.number < 1) ⊎ (length p.ballots < put.number))
IsPutFault p at last put (Some (NotAscending i)) =
    (i ≡ at) × (1 ≤ put.number) × (put.number ≤ length p.ballots) × (put.number ≤ last)
IsPutFault p at last put (Some (BadBallot i)) =
    (i ≡ at) × (1 ≤ put.number) × (put.number ≤ length p.ballots) × (last < put.number) × (IsValidBallot p.c put.ballot → ⊥)
IsPutFault p at last put (Some Memory) = ⊥

-- the fault of the first put that has one, where the first put stands at a place and the one before it has the number `last`
abbrev pub IsFirstFaultFrom : Poll → ℕ → ℕ → List Put → Option AlterFault → Type 0
IsFirstFaultFrom p at last [] None = Unit {0}
IsFirstFaultFrom p at last [] (Some fault) = ⊥
IsFirstFaultFrom p at last (put ∷ puts) None = IsPutFault p at last put None × IsFirstFaultFrom p (at + 1) put.number puts None
IsFirstFaultFrom p at last (put ∷ puts) (Some fault) =
    IsPutFault p at last put (Some fault)
    ⊎ (IsPutFault p at last put None × IsFirstFaultFrom p (at + 1) put.number puts (Some fault))

-- the fault of the first put that has one, its place counted from 0
abbrev pub IsFirstFault : Poll → List Put → Option AlterFault → Type 0
IsFirstFault p puts fault = IsFirstFaultFrom p 0 0 puts fault

-- the replacements as pairs of number and ballot
abbrev pub pairs_of : List Put → List (ℕ × List ℕ)
pairs_of puts = map (λ put. (put.number, put.ballot)) puts

-- the replacements where no put has a fault, or the first fault, unless memory ran out
abbrev pub Judges : Poll → List Put → Result (List (ℕ × List ℕ)) AlterFault → Type 0
Judges p puts (Ok changes) = IsFirstFault p puts None × (changes ≡ pairs_of puts)
Judges p puts (Err Memory) = ⊤
Judges p puts (Err fault) = IsFirstFault p puts (Some fault)
