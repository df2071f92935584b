-- Contests that a seed determines.
use Rattle.std.specs.Prelude.{ℕ, ◌+◌, ◌*◌, ◌/◌, ◌%◌, ◌^◌, List, [], ◌∷◌, ◌++◌, codes, decimal, length, map, min}
use Rattle.std.specs.Prelude.{slice_index}
use Rattle.std.proofs.Common.{zero, suc}
use Rattle.std.specs.List.{range_with_len, remove}
use Rattle.ballot_form.specs.Ballots.{Poll}

-- the multiplier and the increment of the generator: those of Knuth's MMIX
abbrev pub multiplier : ℕ
multiplier = 6364136223846793005

abbrev pub increment : ℕ
increment = 1442695040888963407

-- the state after a draw: a linear congruential generator modulo 2^64
abbrev pub next_state : ℕ → ℕ
next_state state = (state * multiplier + increment) % 2 ^ 64

-- the state after so many draws
abbrev pub state_after : ℕ → ℕ → ℕ
state_after zero state = state
state_after (suc draws) state = state_after draws (next_state state)

-- what the next draw gives below a bound: the state after it, without its lower 33 bits, modulo the bound
abbrev pub number_drawn : ℕ → ℕ → ℕ
number_drawn state bound = next_state state / 2 ^ 33 % bound

-- the lesser of what the next two draws give below a bound
abbrev pub lesser_drawn : ℕ → ℕ → ℕ
lesser_drawn state bound = min (number_drawn state bound) (number_drawn (next_state state) bound)

-- so many of the candidates that are left, which ascend: each stands at the lesser of two draws, and is left no more
abbrev pub candidates_drawn : ℕ → List ℕ → ℕ → List ℕ
candidates_drawn state left zero = []
candidates_drawn state left (suc count) =
    let place = lesser_drawn state (length left) in
    slice_index left place ∷ candidates_drawn (state_after 2 state) (remove left place) count

-- a ballot of c candidates: a draw gives its length, and two draws give each of its candidates
abbrev pub ballot_drawn : ℕ → ℕ → List ℕ
ballot_drawn c state = candidates_drawn (next_state state) (range_with_len 0 c) (number_drawn state (c + 1))

-- n ballots of c candidates, one after another
abbrev pub ballots_drawn : ℕ → ℕ → ℕ → List (List ℕ)
ballots_drawn c zero state = []
ballots_drawn c (suc n) state =
    let ballot = ballot_drawn c state in
    ballot ∷ ballots_drawn c n (state_after (2 * length ballot + 1) state)

-- the n ballots of c candidates that a seed gives
abbrev pub poll_made : ℕ → ℕ → ℕ → Poll
poll_made seed c n = record { c = c; ballots = ballots_drawn c n seed }

-- the name of a candidate: C and its number
abbrev pub name_of : ℕ → List ℕ
name_of x = codes "C" ++ decimal x

-- the names of c candidates
abbrev pub names_made : ℕ → List (List ℕ)
names_made c = map name_of (range_with_len 0 c)
