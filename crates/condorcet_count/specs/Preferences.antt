-- How many ballots prefer one candidate to another. Counting pairs is textbook; what a candidate counts that a ballot doesn't rank
-- is this project's own.
use Rattle.std.specs.Prelude.{◌≡◌, ℕ, ◌+◌, ◌*◌, ◌<◌, nat_lt, Bool, true, false, List, Option, Some, None, count_by, slice_index}
use Rattle.ballot_form.specs.Ballots.{Poll}
use Rattle.ballot_form.specs.Scores.{place_of}

-- a place that comes before another one, or there is no other one
abbrev pub comes_before : Option ℕ → Option ℕ → Bool
comes_before None other = false
comes_before (Some r) None = true
comes_before (Some r) (Some q) = nat_lt r q

-- the ballot ranks x, and y later or not at all
abbrev pub prefers : List ℕ → ℕ → ℕ → Bool
prefers row x y = comes_before (place_of x row) (place_of y row)

-- how many ballots rank x, and y later or not at all
abbrev pub pref_of : List (List ℕ) → ℕ → ℕ → ℕ
pref_of rows x y = count_by (λ row. prefers row x y) rows

-- a number for each two of c candidates, row by row
pub record Table : Type 0 where
  pub c : ℕ
  pub counts : List ℕ

-- the number of x and y
abbrev pub count_at : ℕ → List ℕ → ℕ → ℕ → ℕ
count_at c counts x y = slice_index counts (x * c + y)

abbrev pub count_in : Table → ℕ → ℕ → ℕ
count_in t x y = count_at t.c t.counts x y

-- for each two candidates the table has how many ballots prefer the first to the second
pub record ArePrefs (p : Poll) (t : Table) : Type 0 where
  pub candidates : t.c ≡ p.c
  pub each : (x y : ℕ) → x < p.c → y < p.c → count_in t x y ≡ pref_of p.ballots x y
