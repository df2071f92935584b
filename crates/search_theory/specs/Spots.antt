-- Trees of bounds below a node: their cuts and where these hang, what holds everywhere in them, and how they grow.
use Rattle.std.proofs.Common.{zero, suc}
use Rattle.std.specs.Prelude.{ℕ, ◌-◌, List, [], ◌∷◌, ◌++◌, Bool, cond, ltb, map}
use Rattle.std.specs.Option.{is_some}
use Rattle.row_program.specs.declared.Feature.{Feature}
use Rattle.bound_tree.specs.Nodes.{cut_count}
use Rattle.bound_tree.specs.Plain.{Plain, Kids, Split, Branch, Cut}
use Rattle.bound_tree.specs.Plain as trees
use Rattle.goal_rows.specs.Elections.{Election, Node}
use Rattle.goal_rows.specs.Goals.{cover_of, kid_goals}
use Rattle.goal_rows.specs.Nodes.{high_half, low_half, without_limits}
use Rattle.goal_rows.specs.declared.goals.Goal.{Goal}
use Rattle.goal_rows.specs.declared.goals.Goal.TheVariants.{Root}

-- a node of a tree, and those above it, the nearest first
pub record Spot : Type 0 where
  pub node : Node
  pub above : List Node

-- the node and those above it
abbrev pub path_of : Spot → List Node
path_of spot = spot.node ∷ spot.above

-- the spot of a node right below
abbrev pub below : Spot → Node → Spot
below spot node = record { node = node; above = path_of spot }

-- the top of a tree: the root, without limits
abbrev pub root_spot : Spot
root_spot = record { node = without_limits Root; above = [] }

-- the goals that a goal is split into, or none
abbrev pub cover_list : Election → Goal → List Goal
cover_list e goal = kid_goals (cover_of e goal)

-- the goal has a cover
abbrev pub has_cover : Election → Goal → Bool
has_cover e goal = is_some (cover_of e goal)

-- the spots of goals without limits right below
abbrev pub spots_below : Spot → List Goal → List Spot
spots_below spot goals = map (λ goal. below spot (without_limits goal)) goals

-- a cut of a tree: where it hangs, and its multipliers
pub record Hung : Type 0 where
  pub spot : Spot
  pub multipliers : List ℕ

-- the cuts of a tree in preorder, where its top is at a spot
abbrev mutual
  pub hung_of : Election → Plain → Spot → List Hung
  hung_of e (Split kids) spot = hung_among e kids (spots_below spot (cover_list e spot.node.goal))
  hung_of e (Branch feature value low high) spot =
      hung_of e low (below spot (low_half spot.node feature value))
      ++ hung_of e high (below spot (high_half spot.node feature value))
  hung_of e (Cut multipliers) spot = record { spot = spot; multipliers = multipliers } ∷ []

  pub hung_among : Election → Kids → List Spot → List Hung
  hung_among e trees.None spots = []
  hung_among e (trees.More kid kids) [] = []
  hung_among e (trees.More kid kids) (spot ∷ spots) = hung_of e kid spot ++ hung_among e kids spots

-- what may be said of each split, of each branch and of each cut
pub record Words : Type 1 where
  pub split : Spot → Type 0
  pub branch : Feature → ℕ → Spot → Type 0
  pub cut : List ℕ → Spot → Type 0

-- it holds at each split, branch and cut of the tree, and each split has a kid for each goal of the cover
abbrev mutual
  pub Everywhere : Election → Words → Plain → Spot → Type 0
  Everywhere e words (Split kids) spot =
      words.split spot × EveryKid e words kids (spots_below spot (cover_list e spot.node.goal))
  Everywhere e words (Branch feature value low high) spot =
      words.branch feature value spot
      × Everywhere e words low (below spot (low_half spot.node feature value))
      × Everywhere e words high (below spot (high_half spot.node feature value))
  Everywhere e words (Cut multipliers) spot = words.cut multipliers spot

  pub EveryKid : Election → Words → Kids → List Spot → Type 0
  EveryKid e words trees.None [] = Unit {0}
  EveryKid e words trees.None (spot ∷ spots) = ⊥
  EveryKid e words (trees.More kid kids) [] = ⊥
  EveryKid e words (trees.More kid kids) (spot ∷ spots) = Everywhere e words kid spot × EveryKid e words kids spots

-- the tree with `new` in the place of its cut number i, from 0 in preorder
abbrev mutual
  pub grown : ℕ → Plain → Plain → Plain
  grown i new (Split kids) = Split (grown_in i new kids)
  grown i new (Branch feature value low high) =
      cond (ltb i (cut_count low)) (Branch feature value (grown i new low) high)
      (Branch feature value low (grown (i - cut_count low) new high))
  grown i new (Cut multipliers) = cond (ltb i 1) new (Cut multipliers)

  pub grown_in : ℕ → Plain → Kids → Kids
  grown_in i new trees.None = trees.None
  grown_in i new (trees.More kid kids) =
      cond (ltb i (cut_count kid)) (trees.More (grown i new kid) kids)
      (trees.More kid (grown_in (i - cut_count kid) new kids))

-- the list with what f gives of its item number i, from 0, in the item's place
abbrev pub put_at : {A : Type 0} → ℕ → (A → List A) → List A → List A
put_at i f [] = []
put_at zero f (x ∷ xs) = f x ++ xs
put_at (suc i) f (x ∷ xs) = x ∷ put_at i f xs
