-- The points of a program, their costs and their order, over whole numbers of any size. They know no forms.
use Rattle.std.specs.Prelude.{ℕ, ℤ, pos, ◌≡◌, ◌+◌, ◌*◌, ◌<◌, ◌≤◌, ◌+ℤ◌, ◌*ℤ◌, ◌<ℤ◌, ◌≤ℤ◌, ◌⊎◌, List, [], ◌∷◌, length, slice_index}
use Rattle.std.specs.List.{All}
use Rattle.mov_base.specs.Sums.{sum_z}
use Rattle.row_program.specs.declared.program.Term.{Term}
use Rattle.row_program.specs.declared.program.Row.{Row}
use Rattle.row_program.specs.declared.program.Program.{Program}

-- a term at whole values
abbrev pub term_value : List ℕ → Term → ℤ
term_value whole t = t.times *ℤ pos (slice_index whole t.variable)

-- what a row says at the values whole / den, times den
abbrev pub row_value : Row → List ℕ → ℕ → ℤ
row_value row whole den = row.constant *ℤ pos den +ℤ sum_z (term_value whole) row.terms

-- whole numbers, one a variable, over one denominator, at which each row is at least 0
pub record IsPoint (program : Program) (whole : List ℕ) (den : ℕ) : Type 0 where
  pub all_variables : length whole ≡ length program.costs
  pub positive : 1 ≤ den
  pub meets : All (λ row. pos 0 ≤ℤ row_value row whole den) program.rows

-- the sum of the costs times the numbers
abbrev pub cost_of : List ℕ → List ℕ → ℕ
cost_of [] whole = 0
cost_of (c ∷ costs) [] = 0
cost_of (c ∷ costs) (x ∷ whole) = c * x + cost_of costs whole

-- num / den is the cost of some point, and no point costs less
pub record IsLeastCost (program : Program) (num den : ℤ) : Type 0 where
  pub positive : pos 0 <ℤ den
  pub reached : (whole : List ℕ) × (d : ℕ) × IsPoint program whole d
      × (pos (cost_of program.costs whole) *ℤ den ≡ num *ℤ pos d)
  pub least : (whole : List ℕ) (d : ℕ) → IsPoint program whole d →
      (num *ℤ pos d) ≤ℤ (pos (cost_of program.costs whole) *ℤ den)

-- the values xs / d come before ys / e or are equal: the first that differ rise
abbrev pub IsLexAtMost : List ℕ → ℕ → List ℕ → ℕ → Type 0
IsLexAtMost [] d ys e = Unit {0}
IsLexAtMost (x ∷ xs) d [] e = Unit {0}
IsLexAtMost (x ∷ xs) d (y ∷ ys) e = (x * e < y * d) ⊎ ((x * e ≡ y * d) × IsLexAtMost xs d ys e)

-- the values xs / d are the values ys / e
abbrev pub SameValues : List ℕ → ℕ → List ℕ → ℕ → Type 0
SameValues xs d ys e = (k : ℕ) → slice_index xs k * e ≡ slice_index ys k * d

-- the lexicographically least of the points of least cost, in its least denominator
pub record IsLeastPoint (program : Program) (whole : List ℕ) (den : ℕ) : Type 0 where
  pub point : IsPoint program whole den
  pub cheapest : (ys : List ℕ) (e : ℕ) → IsPoint program ys e →
      cost_of program.costs whole * e ≤ cost_of program.costs ys * den
  pub least : (ys : List ℕ) (e : ℕ) → IsPoint program ys e →
      cost_of program.costs ys * den ≡ cost_of program.costs whole * e → IsLexAtMost whole den ys e
  pub lowest : (ys : List ℕ) (e : ℕ) → IsPoint program ys e → SameValues whole den ys e → den ≤ e
