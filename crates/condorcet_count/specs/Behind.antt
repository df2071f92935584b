-- Ballots on which a candidate stands, and another one no later. The pairs are counted by these: of the ballots that rank x, those
-- that don't have y up to it prefer x.
use Rattle.std.specs.Prelude.{ℕ, nat_le, Bool, false, List, Option, Some, None, is_some, count_by}
use Rattle.ballot_form.specs.Scores.{place_of}

-- a place that comes at another one or after it
abbrev pub comes_after : Option ℕ → Option ℕ → Bool
comes_after None other = false
comes_after (Some r) None = false
comes_after (Some r) (Some q) = nat_le q r

-- the ballot ranks x, and y no later
abbrev pub is_behind : List ℕ → ℕ → ℕ → Bool
is_behind row x y = comes_after (place_of x row) (place_of y row)

abbrev pub behind_count : List (List ℕ) → ℕ → ℕ → ℕ
behind_count rows x y = count_by (λ row. is_behind row x y) rows

-- the ballot ranks x
abbrev pub is_on : List ℕ → ℕ → Bool
is_on row x = is_some (place_of x row)
