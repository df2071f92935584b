-- What the key of a ballot tells of the rows of a suffix or a cover, and what the classes of ballots tell of all of
-- them.
use Rattle.std.specs.Prelude.{ℕ, ◌+◌, ◌-◌, ◌*◌, ◌&&◌, not, Bool, List, Option, find, if◌then◌else◌, map, ℤ, pos, ◌-ℤ◌}
use Rattle.std.specs.List.{flat_map, range_with_len}
use Rattle.mov_base.specs.Sums.{add_up}
use Rattle.ballot_form.specs.Scores.{is_some_of}
use Rattle.irv_count.specs.Orders.{stands}
use Rattle.signature_class.specs.declared.limits.TheConstants.{MOST_PLACES}
use Rattle.goal_rows.specs.Suffixes.{others}

-- how many ballots the classes have whose key passes
abbrev pub counted_by : (ℕ → Bool) → List (ℕ × ℕ) → ℕ
counted_by test classes = add_up (λ c. c.1 * (if test c.0 then 1 else 0)) classes

-- how many more ballots have a key that passes the first test than have one that passes the second
abbrev pub lead_by : (ℕ → Bool) → (ℕ → Bool) → List (ℕ × ℕ) → ℤ
lead_by more less classes = pos (counted_by more classes) -ℤ pos (counted_by less classes)

-- ---- suffixes

-- the first bit of a key that is set, from bit i on
abbrev pub first_bit : ℕ → ℕ → Option ℕ
first_bit i key = find (λ k. stands key k) (range_with_len i (MOST_PLACES - i))

-- the key, under a suffix, of a ballot that the candidate at place j holds while those from place i on stand; places
-- are from 0
abbrev pub is_held : ℕ → ℕ → ℕ → Bool
is_held i j key = is_some_of (first_bit i key) j

-- the values of the rows that compare the candidate at place i of a suffix of m candidates with each later one
abbrev pub round_values : ℕ → ℕ → List (ℕ × ℕ) → List ℤ
round_values m i classes = map (λ j. lead_by (is_held i j) (is_held i i) classes) (range_with_len (i + 1) (m - (i + 1)))

-- the values of the rows of a suffix of m candidates
abbrev pub suffix_values : ℕ → List (ℕ × ℕ) → List ℤ
suffix_values m classes = flat_map (λ i. round_values m i classes) (range_with_len 0 m)

-- ---- covers

-- the key, under the cover of x, of a ballot that prefers x to j
abbrev pub is_over : ℕ → ℕ → ℕ → Bool
is_over x j key = stands key x && not (stands key j)

-- the values of the rows of the cover of x, of c candidates
abbrev pub cover_values : ℕ → ℕ → List (ℕ × ℕ) → List ℤ
cover_values c x classes = map (λ j. lead_by (is_over x j) (λ key. stands key j) classes) (others c x)
