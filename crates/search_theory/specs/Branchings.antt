-- Solid nodes, their least points, and where a node is branched.
use Rattle.std.specs.Prelude.{◌≡◌, ◌⊎◌, ℕ, ◌+◌, ◌*◌, ◌/◌, ◌<◌, ◌≤◌, List, Bool, true, false, Some, length, slice_get, slice_index}
use Rattle.row_program.specs.Method.{IsWide}
use Rattle.row_program.specs.Points.{IsLexAtMost, SameValues}
use Rattle.row_program.specs.declared.Feature.{Feature}
use Rattle.row_program.specs.declared.program.Program.{Program}
use Rattle.goal_rows.specs.Cells.{IsCell, Variable, high_end, low_end, variables_of}
use Rattle.goal_rows.specs.Elections.{Election, Node}
use Rattle.goal_rows.specs.Goals.{IsComplete}
use Rattle.goal_rows.specs.Nodes.{without_limits}
use Rattle.goal_rows.specs.declared.goals.Goal.{Goal}
use Rattle.goal_rows.specs.declared.goals.Goal.TheVariants.{Root, Suffix, Pair, Cover}
use Rattle.goal_rows.specs.declared.programs.TheConstants.{MOST_CLASSES}
use Rattle.node_bounds.specs.Ceilings.{IsNodePoint, IsProgramOf, ground_at, node_cost}

abbrev pub is_pair : Goal → Bool
is_pair Root = false
is_pair (Suffix suffix) = false
is_pair (Pair g l) = true
is_pair (Cover x) = false

-- ---- solid nodes

-- the node has few classes, and the method meets no wide number in its program
pub record IsSolvable (e : Election) (node : Node) : Type 0 where
  pub few : length (ground_at e node.goal).classes ≤ MOST_CLASSES
  pub program : Program
  pub is : IsProgramOf (ground_at e node.goal) node.limits program
  pub narrow : IsWide program → ⊥

-- a cell of a complete goal
pub record IsCompleteCell (e : Election) (node : Node) : Type 0 where
  pub complete : IsComplete e node.goal
  pub cell : IsCell (ground_at e node.goal) node.limits

-- the root, a pair, a cell of a complete goal, or a node whose program the method solves
abbrev pub IsSolid : Election → Node → Type 0
IsSolid e node =
    (node ≡ without_limits Root) ⊎ ((is_pair node.goal ≡ true) ⊎ (IsCompleteCell e node ⊎ IsSolvable e node))

-- ---- least points

-- a number for each variable, over one denominator
pub record Values : Type 0 where
  pub whole : List ℕ
  pub den : ℕ

-- they are the lexicographically least of the node's points of least cost, in their least denominator
pub record IsLeastOf (e : Election) (node : Node) (q : Values) : Type 0 where
  pub point : IsNodePoint e node q.whole q.den
  pub cheapest : (whole : List ℕ) (den : ℕ) → IsNodePoint e node whole den →
      node_cost e node q.whole * den ≤ node_cost e node whole * q.den
  pub least : (whole : List ℕ) (den : ℕ) → IsNodePoint e node whole den →
      node_cost e node whole * q.den ≡ node_cost e node q.whole * den → IsLexAtMost q.whole q.den whole den
  pub lowest : (whole : List ℕ) (den : ℕ) → IsNodePoint e node whole den → SameValues q.whole q.den whole den →
      q.den ≤ den

-- all values are whole: in the least denominator this is 1
abbrev pub IsWhole : Values → Type 0
IsWhole q = q.den ≡ 1

-- the value of a variable is whole
abbrev pub IsWholeAt : Values → ℕ → Type 0
IsWholeAt q k = (n : ℕ) × (slice_index q.whole k ≡ n * q.den)

-- ---- branches

-- the feature by which a node is branched, and the value of its low half
pub record Branching : Type 0 where
  pub feature : Feature
  pub value : ℕ

abbrev pub variables_at : Election → Node → List Variable
variables_at e node = variables_of (ground_at e node.goal)

-- the first variable whose value isn't whole, at its floor
pub record IsFloor (e : Election) (node : Node) (q : Values) (b : Branching) : Type 0 where
  pub place : ℕ
  pub variable : Variable
  pub stands : slice_get (variables_at e node) place ≡ Some variable
  pub feature : b.feature ≡ variable.feature
  pub before : (k : ℕ) → k < place → IsWholeAt q k
  pub part : IsWholeAt q place → ⊥
  pub floor : b.value ≡ slice_index q.whole place / q.den

-- the first variable to which the limits leave more than one value, in the middle of these
pub record IsMiddle (e : Election) (node : Node) (b : Branching) : Type 0 where
  pub place : ℕ
  pub variable : Variable
  pub stands : slice_get (variables_at e node) place ≡ Some variable
  pub feature : b.feature ≡ variable.feature
  pub before : (k : ℕ) (other : Variable) → k < place → slice_get (variables_at e node) k ≡ Some other →
      low_end node.limits other.feature ≡ high_end node.limits other
  pub wide : low_end node.limits variable.feature < high_end node.limits variable
  pub middle : b.value ≡ (low_end node.limits variable.feature + high_end node.limits variable) / 2

-- a solid node is branched at its least point, another one in the middle of a range
abbrev pub IsBranching : Election → Node → Branching → Type 0
IsBranching e node b =
    (IsSolid e node × (q : Values) × IsLeastOf e node q × (IsWhole q → ⊥) × IsFloor e node q b)
    ⊎ ((IsSolid e node → ⊥) × IsMiddle e node b)
