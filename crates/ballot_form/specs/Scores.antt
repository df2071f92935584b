-- First preferences, and scores as sums of points.
use Rattle.std.specs.Prelude.{ℕ, ◌-◌, ◌==◌, Bool, false, List, [], ◌∷◌, Option, Some, None, if◌then◌else◌, option_map, slice_get, count_by}
use Rattle.std.proofs.Common.{suc}
use Rattle.mov_base.specs.Sums.{add_up}

-- the first candidate on a ballot; none on a blank one
abbrev pub first_of : List ℕ → Option ℕ
first_of ballot = slice_get ballot 0

abbrev pub is_some_of : Option ℕ → ℕ → Bool
is_some_of None x = false
is_some_of (Some y) x = y == x

-- x is the first candidate on the ballot
abbrev pub is_first : List ℕ → ℕ → Bool
is_first ballot x = is_some_of (first_of ballot) x

-- how many ballots put x first
abbrev pub first_count : List (List ℕ) → ℕ → ℕ
first_count ballots x = count_by (λ ballot. is_first ballot x) ballots

-- plurality: a ballot gives 1 to its first candidate
abbrev pub plurality_points : List ℕ → ℕ → ℕ
plurality_points ballot x = if is_first ballot x then 1 else 0

-- the place of x on a ballot, from 1, if it is on it
abbrev pub place_of : ℕ → List ℕ → Option ℕ
place_of x [] = None
place_of x (y ∷ ys) = if y == x then Some 1 else option_map suc (place_of x ys)

abbrev pub points_at : ℕ → Option ℕ → ℕ
points_at c None = 0
points_at c (Some r) = c - r

-- Borda: of c candidates the one at place r, from 1, earns c - r; one that isn't on the ballot earns 0
abbrev pub borda_points : ℕ → List ℕ → ℕ → ℕ
borda_points c ballot x = points_at c (place_of x ballot)

-- the score of x: the sum of the points that the ballots give it
abbrev pub score_of : (List ℕ → ℕ → ℕ) → List (List ℕ) → ℕ → ℕ
score_of points ballots x = add_up (λ ballot. points ballot x) ballots
