-- The limits, rows and classes of a seed.
use Rattle.std.proofs.Common.{◌≡◌, ℕ, ◌+◌, ◌<◌, ◌≤◌, ◌^◌, List, get_or, length, refl, subst, sym, arith}
use Rattle.row_program.specs.declared.Feature.{Feature}
use Rattle.row_program.specs.declared.Feature.TheVariants.{Arc, From}
use Rattle.row_program.specs.declared.Limit.{Limit}
use Rattle.goal_rows.specs.Elections.{Election}
use Rattle.goal_rows.specs.Nodes.{AreLimits, IsFeatureOf, node_of, number_count}
use Rattle.goal_rows.specs.Races.{IsGroundIn}
use Rattle.goal_rows.specs.declared.goals.Goal.{Goal}
use Rattle.goal_rows.specs.declared.goals.Goal.TheVariants.{Cover, Pair, Root, Suffix}
use Rattle.goal_rows.specs.declared.parts.Ground.{Ground}
use Rattle.goal_rows.specs.declared.programs.TheConstants.{MOST_CLASSES}
use Rattle.goal_rows.proofs.GroundSizes.{cover_few, sums_of}
use Rattle.dual_bound.proofs.Sizes.{few_classes}
use Rattle.search_leaves.specs.Kept.{IsSeed, node_in}
use Rattle.search_leaves.specs.NewLeaves.{IsSomeSeed}
use Rattle.search_leaves.specs.declared.seeds.Seed.{Seed}

-- ---- limits are limits in each election that the ground may be of

feature_alike : (e other : Election) (start : Ground) (goal : Goal) (feature : Feature) → IsGroundIn e start → IsGroundIn other start → start.goal ≡ goal
    → IsFeatureOf e goal feature → IsFeatureOf other goal feature
feature_alike e other start Root feature here there goal_is is = is
feature_alike e other start (Suffix suffix) (From key) here there goal_is is = is
feature_alike e other start (Suffix suffix) (Arc u p) here there goal_is is = is
feature_alike e other start (Pair g l) feature here there goal_is is = is
feature_alike e other start (Cover x) (From key) here there goal_is is =
    let own = (cover_few start x (e, here) goal_is).0 in
    let others = (cover_few start x (other, there) goal_is).0 in
    let c : e.poll.c ≡ other.poll.c = omega (arith, own, others) in
    subst (λ n. key < 2 ^ n) c is
feature_alike e other start (Cover x) (Arc u p) here there goal_is is = is

pub limits_in : (e : Election) (seed : Seed) → IsSeed e seed → AreLimits e (node_in seed)
limits_in e seed is = record { few = is.few; small = is.ranges.small; features = is.ranges.features }

limits_everywhere : (seed : Seed) → IsSomeSeed seed → (other : Election) → IsGroundIn other seed.start → AreLimits other (node_of seed.start seed.limits.items)
limits_everywhere seed (e, is) other there = record {
  few = is.few;
  small = is.ranges.small;
  features = λ k d lt. feature_alike e other seed.start seed.start.goal (get_or seed.limits.items k d).feature is.ground there refl (is.ranges.features k d lt);
}

-- the same of a list that is read from the seed
pub limits_read : (seed : Seed) (limits : List Limit) → limits ≡ seed.limits.items → IsSomeSeed seed → (other : Election) → IsGroundIn other seed.start → AreLimits other (node_of seed.start limits)
limits_read seed limits same some other there = subst (λ ls. AreLimits other (node_of seed.start ls)) (sym same) (limits_everywhere seed some other there)

-- ---- rows and classes

-- one multiplier for each row and each limit
pub as_many : (e : Election) (seed : Seed) (ls : List ℕ) → IsSeed e seed → length ls ≡ length seed.start.sums + length seed.limits.items → length ls ≡ number_count e (node_in seed)
as_many e seed ls is one_each =
    let rows = sums_of seed.start seed.start.goal (e, is.ground) refl in
    omega (arith, one_each, rows)

pub few_enough : (seed : Seed) → IsSomeSeed seed → length seed.start.classes ≤ MOST_CLASSES
few_enough seed (e, is) = few_classes e seed.start is.ground
