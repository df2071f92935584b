-- The variables of a goal's program count features of the goal, each one of its own.
use Rattle.std.proofs.Common.{◌≡◌, ℕ, zero, suc, ◌+◌, ◌<◌, ◌≤◌, ◌∙◌, List, [], ◌∷◌, All, get_or, length, map, refl, sym, ap, subst, arith}
use Rattle.std.specs.Prelude.{Contains, ◌^◌}
use Rattle.std.proofs.lemmas.List.{length-map}
use Rattle.ballot_form.specs.Ballots.{IsValidBallot}
use Rattle.row_program.specs.declared.Feature.{Feature}
use Rattle.row_program.specs.declared.Feature.TheVariants.{From, Arc}
use Rattle.signature_class.specs.Classes as classes
use Rattle.signature_class.specs.Signatures.{cover_key, suffix_key}
use Rattle.signature_class.proofs.Counts.{keys_are_classes}
use Rattle.signature_class.proofs.Covers.{cover_key_below}
use Rattle.signature_class.proofs.KeysTold.{suffix_key_below}
use Rattle.goal_rows.specs.Cells.{HasFeatures, Variable, variables_of}
use Rattle.goal_rows.specs.Elections.{Election}
use Rattle.goal_rows.specs.Nodes.{IsFeatureOf}
use Rattle.goal_rows.specs.Races.{IsGroundIn, key_of, keys_of}
use Rattle.goal_rows.specs.declared.goals.Goal.{Goal}
use Rattle.goal_rows.specs.declared.goals.Goal.TheVariants.{Root, Suffix, Pair, Cover}
use Rattle.goal_rows.specs.declared.parts.Ground.{Ground}
use Rattle.dual_bound.specs.CellCuts.{features_of}
use Rattle.dual_bound.specs.Sizes.{places_of}
use Rattle.dual_bound.proofs.CellVariables.{on_arc, on_class}

-- what is so of what each item gives is so of each of these
made_from : (P : ℕ → Type 0) (f : List ℕ → ℕ) (xs : List (List ℕ)) (key : ℕ) → ((k : ℕ) (d : List ℕ) → k < length xs → P (f (get_or xs k d))) → Contains (map f xs) key → P key
made_from P f [] key all there = absurd (omega (arith, there.1))
made_from P f (x ∷ xs) key all (zero, lt, is) = subst P is (all 0 [] (omega arith))
made_from P f (x ∷ xs) key all (suc k, lt, is) = made_from P f xs key (λ j d less. all (suc j) d (omega (arith, less))) (k, omega (arith, lt), is)

key_there : (e : Election) (start : Ground) (key : ℕ) → IsGroundIn e start → Contains (features_of start) (From key) → Contains (keys_of e start.goal) key
key_there e start key is there =
    let in_classes = (on_class start key).0 there in
    let moved = subst (λ cs. Contains (classes.keys_of cs) key) is.values.classes in_classes in
    ((keys_are_classes (keys_of e start.goal)).keys key).1 moved

by_goal : (e : Election) (goal : Goal) (key : ℕ) → All (IsValidBallot e.poll.c) e.poll.ballots → HasFeatures goal → Contains (keys_of e goal) key → IsFeatureOf e goal (From key)
by_goal e Root key valid has there = has
by_goal e (Suffix suffix) key valid has there = made_from (λ key. key < 2 ^ length suffix) (suffix_key suffix) e.poll.ballots key (λ k d lt. suffix_key_below suffix (get_or e.poll.ballots k d)) there
by_goal e (Pair g l) key valid has there = has
by_goal e (Cover x) key valid has there = made_from (λ key. key < 2 ^ e.poll.c) (cover_key x) e.poll.ballots key (λ k d lt. cover_key_below e.poll.c x (get_or e.poll.ballots k d) (valid k d lt).below) there

arc_by : (e : Election) (goal : Goal) (u x : ℕ) → HasFeatures goal → u < x → x ≤ places_of goal → IsFeatureOf e goal (Arc u x)
arc_by e Root u x has begins ends = has
arc_by e (Suffix suffix) u x has begins ends = (begins, ends)
arc_by e (Pair g l) u x has begins ends = has
arc_by e (Cover y) u x has begins ends = absurd (omega (arith, begins, ends))

pub is_feature : (e : Election) (start : Ground) (feature : Feature) → IsGroundIn e start → HasFeatures start.goal → Contains (features_of start) feature → IsFeatureOf e start.goal feature
is_feature e start (From key) is has there = by_goal e start.goal key is.election.poll.valid has (key_there e start key is there)
is_feature e start (Arc u x) is has there = let at = (on_arc start u x).0 there in arc_by e start.goal u x has at.0 at.1
