-- Where a leaf is branched.
use Rattle.std.specs.Prelude.{◌≡◌, ◌≢◌, ℕ, ◌+◌, ◌-◌, ◌/◌, ◌%◌, ◌<◌, List, Some, None, Option, length, slice_get, slice_index}
use Rattle.row_program.specs.declared.Feature.{Feature}
use Rattle.row_program.specs.declared.Limit.{Limit}
use Rattle.goal_rows.specs.Cells.{HasFeatures, Variable, high_end, low_end}
use Rattle.goal_rows.specs.Elections.{Election}
use Rattle.goal_rows.specs.Races.{IsGroundIn}
use Rattle.search_theory.specs.Branchings.{Branching, IsFloor, IsLeastOf, IsMiddle, IsWhole, Values, variables_at}
use Rattle.search_theory.specs.Leaves.{HasRanges}
use Rattle.search_leaves.specs.Kept.{node_at, values_of}
use Rattle.search_leaves.specs.declared.leaves.Leaf.{Leaf as KeptLeaf}

-- ---- at a point

-- the number at a place isn't whole
abbrev pub IsPart : List ℕ → ℕ → ℕ → Type 0
IsPart whole den k = slice_index whole k % den ≢ 0

-- some number isn't whole
abbrev pub HasPart : List ℕ → ℕ → Type 0
HasPart whole den = (k : ℕ) × (k < length whole) × IsPart whole den k

-- the first one that isn't, at its floor
pub record IsPartAt (features : List Feature) (whole : List ℕ) (den : ℕ) (b : Branching) : Type 0 where
  pub place : ℕ
  pub stands : slice_get features place ≡ Some b.feature
  pub before : (k : ℕ) → k < place → slice_index whole k % den ≡ 0
  pub part : IsPart whole den place
  pub floor : b.value ≡ slice_index whole place / den

-- ---- in the middle

-- the limits leave the variable more than one value
abbrev pub IsWide : List Limit → Variable → Type 0
IsWide limits v = low_end limits v.feature < high_end limits v

-- they do so to some variable
abbrev pub HasWide : List Variable → List Limit → Type 0
HasWide variables limits = (k : ℕ) × (v : Variable) × (slice_get variables k ≡ Some v) × IsWide limits v

-- the first such variable, in the middle of its range
pub record IsWideAt (variables : List Variable) (limits : List Limit) (b : Branching) : Type 0 where
  pub place : ℕ
  pub variable : Variable
  pub stands : slice_get variables place ≡ Some variable
  pub feature : b.feature ≡ variable.feature
  pub before : (k : ℕ) (other : Variable) → k < place → slice_get variables k ≡ Some other → IsWide limits other → ⊥
  pub wide : IsWide limits variable
  pub middle : b.value ≡ low_end limits variable.feature + (high_end limits variable - low_end limits variable.feature) / 2

-- ---- leaves

-- the leaf has a least point that isn't whole; or it has none, and some variable more than one value
abbrev pub IsOpenAt : Election → KeptLeaf → Option Values → Type 0
IsOpenAt e leaf None = HasWide (variables_at e (node_at leaf)) leaf.limits.items
IsOpenAt e leaf (Some q) = IsLeastOf e (node_at leaf) q × (IsWhole q → ⊥)

-- a leaf that may be branched
pub record MayBranch (e : Election) (leaf : KeptLeaf) : Type 0 where
  pub ground : IsGroundIn e leaf.start
  pub featured : HasFeatures leaf.start.goal
  pub ranges : HasRanges e (node_at leaf)
  pub part : IsOpenAt e leaf (values_of leaf.point)

-- at its least point, or without one in the middle
abbrev pub IsBranched : Election → KeptLeaf → Option Values → Branching → Type 0
IsBranched e leaf None b = IsMiddle e (node_at leaf) b
IsBranched e leaf (Some q) b = IsFloor e (node_at leaf) q b

abbrev pub IsBranchedAt : Election → KeptLeaf → Branching → Type 0
IsBranchedAt e leaf b = IsBranched e leaf (values_of leaf.point) b
