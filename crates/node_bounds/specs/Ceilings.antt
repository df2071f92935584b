-- How few replacements the program of a node allows, in fractions.
use Rattle.std.specs.Prelude.{◌≡◌, ◌⊎◌, ℕ, ◌+◌, ◌*◌, ◌≤◌, List, length, map}
use Rattle.std.specs.Prelude.{nat_eq}
use Rattle.mov_base.specs.Sums.{sum_z}
use Rattle.row_program.specs.declared.Limit.{Limit}
use Rattle.row_program.specs.declared.program.Program.{Program}
use Rattle.signature_class.specs.Classes.{classes_of}
use Rattle.goal_rows.specs.Elections.{Election, Node}
use Rattle.goal_rows.specs.Goals.{rows_of}
use Rattle.goal_rows.specs.Programs.{IsPointOf, arcs_under, costs_of, point_cost_of, program_rows}
use Rattle.goal_rows.specs.Races.{keys_of, lone_weight}
use Rattle.goal_rows.specs.declared.goals.Goal.{Goal}
use Rattle.goal_rows.specs.declared.parts.Ground.{Ground}

-- the ground of a goal
abbrev pub ground_at : Election → Goal → Ground
ground_at e goal = record {
  goal = goal;
  classes = classes_of nat_eq (keys_of e goal);
  sums = map (λ weight. sum_z weight e.poll.ballots) (rows_of e goal);
  ballots = length e.poll.ballots;
  lone = lone_weight e goal;
}

-- the program of a node
pub record IsProgramOf (start : Ground) (limits : List Limit) (program : Program) : Type 0 where
  pub costs : program.costs ≡ costs_of start.classes (arcs_under start.goal)
  pub rows : program.rows ≡ program_rows start limits
  pub kept : program.kept ≡ length start.sums + length limits

-- whole numbers over one denominator that meet the rows of the node's program
abbrev pub IsNodePoint : Election → Node → List ℕ → ℕ → Type 0
IsNodePoint e node whole den = IsPointOf (ground_at e node.goal) node.limits whole den

-- what they cost: the sum of the numbers of the classes
abbrev pub node_cost : Election → Node → List ℕ → ℕ
node_cost e node whole = point_cost_of (ground_at e node.goal) whole

-- no whole numbers over any denominator do
abbrev pub HasNoNodePoint : Election → Node → Type 0
HasNoNodePoint e node = (whole : List ℕ) (den : ℕ) → IsNodePoint e node whole den → ⊥

-- some point costs at most t, in its denominator
abbrev pub IsAffordable : Election → Node → ℕ → Type 0
IsAffordable e node t = (whole : List ℕ) × (den : ℕ) × IsNodePoint e node whole den × (node_cost e node whole ≤ t * den)

-- the least whole number that some point costs at most; where there is no point, one more than there are ballots
pub record IsCeiling (e : Election) (node : Node) (t : ℕ) : Type 0 where
  pub reached : IsAffordable e node t ⊎ (HasNoNodePoint e node × (t ≡ length e.poll.ballots + 1))
  pub least : (u : ℕ) → IsAffordable e node u → t ≤ u
