-- Instant runoff: who holds a ballot, and which orders of elimination are legal, as in a textbook of voting rules. The choice at the
-- ties is this project's own.
use Rattle.std.specs.Prelude.{◌≡◌, ◌⊎◌, ℕ, ◌+◌, ◌*◌, ◌<◌, ◌≤◌, ◌==◌, ◌||◌, not, Bool, true, false, List, [], ◌∷◌, length, take, slice_index, Option, Some, None, find, count_by}
use Rattle.std.specs.Int.{bit_at}
use Rattle.ballot_form.specs.Ballots.{Poll}
use Rattle.ballot_form.specs.Scores.{is_some_of}

-- x is on the list
abbrev pub member : ℕ → List ℕ → Bool
member x [] = false
member x (y ∷ ys) = (x == y) || member x ys

-- who holds a ballot: the first of the set on it
abbrev pub holder : (ℕ → Bool) → List ℕ → Option ℕ
holder set row = find set row

-- how many ballots x holds: those on which it is the first of the set
abbrev pub held_count : (ℕ → Bool) → List (List ℕ) → ℕ → ℕ
held_count set rows x = count_by (λ row. is_some_of (holder set row) x) rows

-- each of c candidates once
pub record IsOrder (c : ℕ) (order : List ℕ) : Type 0 where
  pub long : length order ≡ c
  pub below : (i : ℕ) → i < c → slice_index order i < c
  pub distinct : (i : ℕ) → i < c → member (slice_index order i) (take i order) ≡ false
  pub every : (x : ℕ) → x < c → member x order ≡ true

-- the set of those who stand where the first i of the order have gone
abbrev pub left_after : List ℕ → ℕ → ℕ → Bool
left_after order i = λ x. not (member x (take i order))

-- at each place goes one who holds at most what every other one of those left holds
pub record IsLegalOrder (p : Poll) (order : List ℕ) : Type 0 where
  pub whole : IsOrder p.c order
  pub least : (i y : ℕ) → i < p.c → y < p.c → left_after order i y ≡ true
      → held_count (left_after order i) p.ballots (slice_index order i) ≤ held_count (left_after order i) p.ballots y

-- row by row, what each of c candidates holds where so many of the order have gone
abbrev pub AreHeld : Poll → List ℕ → List ℕ → Type 0
AreHeld p order held = (i x : ℕ) → i < length order → x < p.c → slice_index held (i * p.c + x) ≡ held_count (left_after order i) p.ballots x

-- of two with equal counts x goes before y: the higher-numbered, but the one that the choice is against before all others
abbrev pub GoesFirst : Option ℕ → ℕ → ℕ → Type 0
GoesFirst None x y = y ≤ x
GoesFirst (Some against) x y = (x ≡ against) ⊎ ((y ≡ against → ⊥) × (y ≤ x))

-- the legal order by a choice at the ties
pub record IsOrderBy (against : Option ℕ) (p : Poll) (order : List ℕ) : Type 0 where
  pub legal : IsLegalOrder p order
  pub choice : (i y : ℕ) → i < p.c → y < p.c → left_after order i y ≡ true
      → held_count (left_after order i) p.ballots y ≡ held_count (left_after order i) p.ballots (slice_index order i)
      → GoesFirst against (slice_index order i) y

-- the last of the order: it wins
abbrev pub IsLast : List ℕ → ℕ → Type 0
IsLast order x = (i : ℕ) × (length order ≡ i + 1) × (slice_index order i ≡ x)

-- candidate x stands in the set of bits
abbrev pub stands : ℕ → ℕ → Bool
stands standing x = bit_at standing x == 1
