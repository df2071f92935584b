-- The variables of a node's program, the values that its limits leave them, and cells, in which each has one.
use Rattle.std.specs.Prelude.{◌≡◌, ℕ, Bool, List, [], ◌∷◌, ◌++◌, All, Contains, if◌then◌else◌, map, max, min}
use Rattle.row_program.specs.declared.Feature.{Feature}
use Rattle.row_program.specs.declared.Feature.TheVariants.{From, Arc}
use Rattle.row_program.specs.declared.Limit.{Limit}
use Rattle.goal_rows.specs.Programs.{arcs_under, has_ends, has_key}
use Rattle.goal_rows.specs.declared.goals.Goal.{Goal}
use Rattle.goal_rows.specs.declared.goals.Goal.TheVariants.{Root, Suffix, Pair, Cover}
use Rattle.goal_rows.specs.declared.parts.Ground.{Ground}

-- a variable: the feature that it counts, and the most that there can be of it without limits
pub record Variable : Type 0 where
  pub feature : Feature
  pub end : ℕ

-- the variables of a node's program, in its order: for each class how many of its ballots are replaced, and for each
-- arc how many new ballots' signatures use it
abbrev pub variables_of : Ground → List Variable
variables_of start =
    map (λ c. record { feature = From c.0; end = c.1 }) start.classes
    ++ map (λ a. record { feature = Arc a.0 a.1; end = start.ballots }) (arcs_under start.goal)

-- the second feature is the first one
abbrev pub same_feature : Feature → Feature → Bool
same_feature (From key) other = has_key key other
same_feature (Arc u p) other = has_ends (u, p) other

-- the least count of a feature that the limits leave
abbrev pub low_end : List Limit → Feature → ℕ
low_end [] feature = 0
low_end (limit ∷ limits) feature =
    if limit.at_most then low_end limits feature
    else if same_feature feature limit.feature then max limit.value (low_end limits feature) else low_end limits feature

-- the greatest count of a variable that they leave
abbrev pub high_end : List Limit → Variable → ℕ
high_end [] v = v.end
high_end (limit ∷ limits) v =
    if limit.at_most then
    (if same_feature v.feature limit.feature then min limit.value (high_end limits v) else high_end limits v)
    else high_end limits v

-- suffixes and covers have features
abbrev pub HasFeatures : Goal → Type 0
HasFeatures Root = ⊥
HasFeatures (Suffix suffix) = Unit {0}
HasFeatures (Pair g l) = ⊥
HasFeatures (Cover x) = Unit {0}

-- a node of a goal with features whose limits are all on variables of its program, and leave each of these one value
pub record IsCell (start : Ground) (limits : List Limit) : Type 0 where
  pub featured : HasFeatures start.goal
  pub on_variables : All (λ limit. Contains (map (λ v. v.feature) (variables_of start)) limit.feature) limits
  pub one_value : All (λ v. low_end limits v.feature ≡ high_end limits v) (variables_of start)

-- the values of a cell's one point
abbrev pub cell_values : Ground → List Limit → List ℕ
cell_values start limits = map (λ v. low_end limits v.feature) (variables_of start)
