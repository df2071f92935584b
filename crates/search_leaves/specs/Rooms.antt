-- Room for the cut test.
use Rattle.std.specs.Prelude.{ℕ, ◌≤◌}
use Rattle.goal_rows.specs.declared.programs.TheConstants.{MOST_CLASSES}

-- it has room for the classes of each goal
abbrev pub HasRoom : ℕ → Type 0
HasRoom classes = MOST_CLASSES ≤ classes
