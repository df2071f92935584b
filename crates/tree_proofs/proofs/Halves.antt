-- The halves of a node: what meets one of them, and their limits.
use Rattle.std.proofs.Common.{ℕ, List, [], ◌∷◌, ◌++◌, All, ◌≡◌, ◌<◌, ◌≤◌, ◌+◌, ◌⊎◌, length, inl, inr, arith}
use Rattle.std.specs.Prelude.{pos, ◌≤ℤ◌}
use Rattle.std.proofs.lemmas.Bool.{cases_lt}
use Rattle.std.proofs.lemmas.Int.{ints}
use Rattle.std.proofs.lemmas.List.{length-append}
use Rattle.std.proofs.lemmas.List.Elements.{All-append, All-cons, All-nil}
use Rattle.ballot_form.specs.declared.limits.TheConstants.{MOST_BALLOTS}
use Rattle.mov_base.specs.Sums.{add_up}
use Rattle.row_program.specs.declared.Feature.{Feature}
use Rattle.row_program.specs.declared.Limit.{Limit}
use Rattle.row_program.specs.declared.limits.TheConstants.{MOST_LIMITS}
use Rattle.goal_rows.specs.Elections.{Election, Node}
use Rattle.goal_rows.specs.Nodes.{AreLimits, IsFeatureOf, Meets, counted_for, high_limit, limit_value, low_limit, swaps_of, with_limit}

meets_more : (e : Election) (node : Node) (limit : Limit) (changes : List (ℕ × List ℕ)) → Meets e node changes → pos 0 ≤ℤ limit_value e node.goal (swaps_of e changes) limit
    → Meets e (with_limit node limit) changes
meets_more e node limit changes meets kept =
    let P : Limit → Type 0 = λ limit. pos 0 ≤ℤ limit_value e node.goal (swaps_of e changes) limit in
    record { holds = meets.holds; kept = All-append P node.limits (limit ∷ []) meets.kept (All-cons P limit [] kept (All-nil P)) }

pub halves_met : (e : Election) (node : Node) (changes : List (ℕ × List ℕ)) (f : Feature) (v : ℕ) → Meets e node changes
    → Meets e (with_limit node (low_limit f v)) changes ⊎ Meets e (with_limit node (high_limit f v)) changes
halves_met e node changes f v meets =
    let count = add_up (counted_for e node.goal f) (swaps_of e changes) in
    elim (cases_lt v count) [
      | inl above ↦ inr (meets_more e node (high_limit f v) changes meets (omega (arith, ints, above)))
      | inr below ↦ inl (meets_more e node (low_limit f v) changes meets (omega (arith, ints, below)))
    ]

-- the limits of a half
pub half_limits : (e : Election) (node : Node) (limit : Limit) → AreLimits e node → length node.limits + 1 ≤ MOST_LIMITS → limit.value ≤ MOST_BALLOTS → IsFeatureOf e node.goal limit.feature
    → AreLimits e (with_limit node limit)
half_limits e node limit are few small feature = record {
  few = omega (arith, few, length-append node.limits (limit ∷ []));
  small = All-append (λ limit. limit.value ≤ MOST_BALLOTS) node.limits (limit ∷ []) are.small (All-cons (λ limit. limit.value ≤ MOST_BALLOTS) limit [] small (All-nil (λ limit. limit.value ≤ MOST_BALLOTS)));
  features = All-append (λ limit. IsFeatureOf e node.goal limit.feature) node.limits (limit ∷ []) are.features
      (All-cons (λ limit. IsFeatureOf e node.goal limit.feature) limit [] feature (All-nil (λ limit. IsFeatureOf e node.goal limit.feature)));
}
