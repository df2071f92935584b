-- Ballots kept as the candidates of their runs, one run behind the other, with a mark for each run.
use Rattle.std.specs.Prelude.{ℕ, List, [], ◌∷◌, ◌≡◌, ◌≢◌, ◌-◌, ◌++◌, ◌<◌, ◌≤◌, ⊤, Option, Some, None, IfSome, drop, length, replicate, slice_get, slice_range}
use Rattle.ballot_form.specs.declared.limits.TheConstants.{MOST_BALLOTS}
use Rattle.ballot_form.specs.declared.marks.Mark.{Mark}
use Rattle.ballot_form.specs.Ballots.{IsPoll}

-- where the next run starts, and where the cells end if there is none
abbrev pub next_start : List Mark → ℕ → ℕ
next_start [] size = size
next_start (m ∷ ms) size = m.start

-- how many ballots stand before the next run, and how many there are if there is none
abbrev pub next_first : List Mark → ℕ → ℕ
next_first [] len = len
next_first (m ∷ ms) len = m.first

-- the ballot of the run m, of which ms are the later ones
abbrev pub row_of : Mark → List Mark → List ℕ → List ℕ
row_of m ms cells = slice_range cells m.start (next_start ms (length cells))

-- the ballots of the runs
abbrev pub ballots_of : List Mark → List ℕ → ℕ → List (List ℕ)
ballots_of [] cells len = []
ballots_of (m ∷ ms) cells len = replicate (next_first ms len - m.first) (row_of m ms cells) ++ ballots_of ms cells len

-- the ballot isn't the first of these
abbrev pub BeginsOtherwise : List ℕ → List (List ℕ) → Type 0
BeginsOtherwise row ballots = IfSome (slice_get ballots 0) (λ ballot. ballot ≢ row)

-- the marks ascend, no run is empty, and neighbours differ
abbrev pub AreMarks : List Mark → List ℕ → ℕ → Type 0
AreMarks [] cells len = ⊤
AreMarks (m ∷ ms) cells len = (m.start ≤ next_start ms (length cells)) × (m.first < next_first ms len)
    × BeginsOtherwise (row_of m ms cells) (ballots_of ms cells len) × AreMarks ms cells len

-- the ballot of the last run, if there is a run
abbrev pub last_row : List Mark → List ℕ → Option (List ℕ)
last_row [] cells = None
last_row (m ∷ []) cells = Some (drop m.start cells)
last_row (m ∷ n ∷ ms) cells = last_row (n ∷ ms) cells

-- len ballots of a contest of c candidates, kept as marks and cells
pub record AreKept (c len : ℕ) (marks : List Mark) (cells : List ℕ) : Type 0 where
  pub few : len ≤ MOST_BALLOTS
  pub poll : IsPoll (record { c = c; ballots = ballots_of marks cells len })
  pub rising : AreMarks marks cells len
  pub start : next_start marks (length cells) ≡ 0
  pub first : next_first marks len ≡ 0
