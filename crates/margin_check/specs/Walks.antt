-- A walk over the nodes of a tree, up to the first one that fails.
use Rattle.std.specs.Prelude.{◌≡◌, ℕ, ◌+◌, ◌≤◌, List, All, length}
use Rattle.bound_tree.specs.Lines.{lines_of}
use Rattle.bound_tree.specs.Nodes.{height}
use Rattle.bound_tree.specs.Plain.{Plain}
use Rattle.bound_tree.specs.declared.bound.TheConstants.{MOST_DEPTH}
use Rattle.cert_text.specs.CertText.{LineFits}
use Rattle.goal_rows.specs.Elections.{Election}
use Rattle.margin_check.specs.declared.walk.Asked.{Asked}
use Rattle.margin_check.specs.declared.walk.Asked.TheVariants.{Shape, Cuts}
use Rattle.margin_check.specs.declared.walk.End.{End}
use Rattle.margin_check.specs.declared.walk.End.TheVariants.{Through, Stopped}
use Rattle.margin_check.specs.Proving.{IsShaped, Passes}
use Rattle.margin_check.specs.Verdicts.{IsFirstWithout}
use Rattle.margin_check.specs.Visits.{Visit}

-- a node gives what is asked: its shape, or that a cut passes at t
abbrev pub Gives : Election → Asked → Visit → Type 0
Gives e Shape visit = IsShaped e visit.node visit.tree
Gives e (Cuts t) visit = Passes e t visit.node visit.tree

-- a tree whose topmost node may have so many limits: the values of its lines are within the limits of the grammar, and
-- no way down is too long
pub record FitsBelow (limits : ℕ) (tree : Plain) : Type 0 where
  pub lines : All LineFits (lines_of tree)
  pub depth : limits + height tree ≤ MOST_DEPTH

-- what is known of a node before: where a cut is asked for, that it has its shape
abbrev pub IsKnown : Election → Asked → Visit → Type 0
IsKnown e Shape visit = Unit {0}
IsKnown e (Cuts t) visit = IsShaped e visit.node visit.tree

-- where a walk ends, whose first node has this number: behind the last node, or at the first that fails
abbrev pub EndsAt : {X : Type 0} → (X → Type 0) → ℕ → List X → End → Type 0
EndsAt P number xs (Through next) = All P xs × (next ≡ number + length xs)
EndsAt P number xs (Stopped at) = (place : ℕ) × IsFirstWithout P xs place × (at ≡ number + place)

-- the number of the node at which a walk stopped is at most this
abbrev pub IsWithin : ℕ → End → Type 0
IsWithin most (Through next) = Unit {0}
IsWithin most (Stopped at) = at ≤ most
