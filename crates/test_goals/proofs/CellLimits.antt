-- Limits on the classes of three keys below 8, under a cover of three candidates.
use Rattle.std.proofs.Common.{ℕ, zero, suc, ◌≡◌, ◌<◌, ◌≤◌, ◌^◌, [], ◌∷◌, get_or, length, subst, sym, arith}
use Rattle.row_program.specs.declared.Feature.{Feature}
use Rattle.row_program.specs.declared.Feature.TheVariants.{From}
use Rattle.row_program.specs.declared.Limit.{Limit}
use Rattle.goal_rows.specs.Elections.{Election}
use Rattle.goal_rows.specs.Nodes.{AreLimits, IsFeatureOf, node_of}
use Rattle.goal_rows.specs.Races.{IsGroundIn}
use Rattle.goal_rows.specs.declared.goals.Goal.{Goal}
use Rattle.goal_rows.specs.declared.goals.Goal.TheVariants.{Cover}
use Rattle.goal_rows.specs.declared.parts.Ground.{Ground}
use Rattle.goal_rows.proofs.GroundSizes.{cover_few}

key_is : (e : Election) (goal : Goal) (f : Feature) (key : ℕ) → goal ≡ Cover 0 → e.poll.c ≡ 3 → f ≡ From key → key < 8 → IsFeatureOf e goal f
key_is e goal f key covers three is low =
    let here : IsFeatureOf e (Cover 0) (From key) = subst (λ c. key < 2 ^ c) (sym three) low in
    subst (λ g. IsFeatureOf e g f) (sym covers) (subst (IsFeatureOf e (Cover 0)) (sym is) here)

pub three_limits : (e : Election) (start : Ground) (a b d : Limit) → IsGroundIn e start → start.goal ≡ Cover 0 → length start.sums ≡ 2 → a.feature ≡ From 1 → a.value ≤ 1
    → b.feature ≡ From 7 → b.value ≤ 1 → d.feature ≡ From 5 → d.value ≤ 1 → AreLimits e (node_of start (a ∷ b ∷ d ∷ []))
three_limits e start a b d is covers two ak av bk bv dk dv =
    let few = cover_few start 0 (e, is) covers in
    let three : e.poll.c ≡ 3 = omega (arith, few.0, two) in
    record { few = omega arith; small = small; features = features three }
  where
    small : (k : ℕ) (l : Limit) → k < 3 → (get_or (a ∷ b ∷ d ∷ []) k l).value ≤ 1000000
    small zero l lt = omega (arith, av)
    small (suc zero) l lt = omega (arith, bv)
    small (suc (suc zero)) l lt = omega (arith, dv)
    small (suc (suc (suc k))) l lt = absurd (omega (arith, lt))

    features : e.poll.c ≡ 3 → (k : ℕ) (l : Limit) → k < 3 → IsFeatureOf e start.goal (get_or (a ∷ b ∷ d ∷ []) k l).feature
    features three zero l lt = key_is e start.goal a.feature 1 covers three ak (omega arith)
    features three (suc zero) l lt = key_is e start.goal b.feature 7 covers three bk (omega arith)
    features three (suc (suc zero)) l lt = key_is e start.goal d.feature 5 covers three dk (omega arith)
    features three (suc (suc (suc k))) l lt = absurd (omega (arith, lt))
