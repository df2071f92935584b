-- A ground has few classes.
use Rattle.std.proofs.Common.{◌≡◌, ℕ, zero, suc, ◌<◌, ◌≤◌, ◌^◌, List, [], ◌∷◌, map, length, get_or, ap, inl, inr, subst, arith, All}
use Rattle.std.specs.Prelude.{nat_eq}
use Rattle.std.proofs.lemmas.Bool.{cases_lt}
use Rattle.std.proofs.lemmas.List.{length-map}
use Rattle.std.proofs.lemmas.List.Elements.{Contains-get_or}
use Rattle.std.proofs.lemmas.Nat.{pow_below}
use Rattle.ballot_form.specs.Ballots.{IsValidBallot}
use Rattle.ballot_form.proofs.Lengths.{length_valid}
use Rattle.signature_class.specs.Classes.{classes_of, keys_of}
use Rattle.signature_class.specs.Signatures.{cover_key, suffix_key}
use Rattle.signature_class.proofs.Counts.{keys_are_classes}
use Rattle.signature_class.proofs.Covers.{cover_key_below}
use Rattle.signature_class.proofs.KeysTold.{suffix_key_below}
use Rattle.goal_rows.specs.Elections.{Election}
use Rattle.goal_rows.specs.Goals.{IsElection, IsReached}
use Rattle.goal_rows.specs.Races as races
use Rattle.goal_rows.specs.Races.{IsGroundIn, key_of}
use Rattle.goal_rows.specs.declared.goals.Goal.{Goal}
use Rattle.goal_rows.specs.declared.goals.Goal.TheVariants.{Root, Suffix, Pair, Cover}
use Rattle.goal_rows.specs.declared.parts.Ground.{Ground}
use Rattle.goal_rows.proofs.Ways.{reached_pair, reached_suffix}
use Rattle.goal_rows.proofs.PairPoints.{pair_points}

all_map : (P : List ℕ → Type 0) (f : List ℕ → ℕ) (n : ℕ) (ballots : List (List ℕ)) → All P ballots → ((ballot : List ℕ) → P ballot → f ballot < n) → All (λ y. y < n) (map f ballots)
all_map P f n [] each below i d lt = absurd (omega arith)
all_map P f n (ballot ∷ ballots) each below zero d lt = below ballot (each 0 ballot (omega arith))
all_map P f n (ballot ∷ ballots) each below (suc i) d lt = all_map P f n ballots (λ k b within. each (suc k) b (omega arith)) below i d (omega arith)

-- distinct keys below n are at most n
few_keys : (n : ℕ) (keys : List ℕ) → All (λ y. y < n) keys → length (classes_of nat_eq keys) ≤ n
few_keys n keys below =
    let are = keys_are_classes keys in
    let cs = classes_of nat_eq keys in
    let small : All (λ y. y < n) (keys_of cs) = λ i d lt.
    let there = (are.keys (get_or (keys_of cs) i d)).1 (Contains-get_or (keys_of cs) i d lt) in
    subst (λ y. y < n) there.2 (below there.0 _ there.1)
    in
    let few = length_valid n (keys_of cs) (record { below = small; distinct = are.distinct }) in
    let e : length (keys_of cs) ≡ length cs = length-map cs (λ c. c.0) in
    omega (arith, few, e)

few_sets : (m : ℕ) → m ≤ 12 → 2 ^ m ≤ 4096
few_sets m few = elim (cases_lt m 12) [
  | inl less ↦ let h = pow_below m 12 less in omega (arith, h)
  | inr most ↦ let e : m ≡ 12 = omega (arith, few, most) in let same = ap (λ k. 2 ^ k) e in omega (arith, same)
]

keys_below : (e : Election) (goal : Goal) → IsElection e → IsReached e goal → All (λ y. y < 4096) (races.keys_of e goal)
keys_below e Root is reached = λ i d lt. absurd (omega arith)
keys_below e (Suffix suffix) is reached =
    let valid = (reached_suffix e suffix is.roots reached).1 in
    let most = is.poll.most in
    let few = few_sets (length suffix) (omega (arith, length_valid e.poll.c suffix valid, most)) in
    all_map (IsValidBallot e.poll.c) (suffix_key suffix) 4096 e.poll.ballots is.poll.valid (λ ballot ok. omega (arith, suffix_key_below suffix ballot, few))
keys_below e (Pair g l) is reached =
    let are = pair_points e g l is (reached_pair e g l is.roots reached).1 in
    let top = are.top in
    all_map (IsValidBallot e.poll.c) (key_of e (Pair g l)) 4096 e.poll.ballots is.poll.valid (λ ballot ok. let h = are.high ballot in omega (arith, h, top))
keys_below e (Cover x) is reached =
    let most = is.poll.most in
    let few = few_sets e.poll.c (omega (arith, most)) in
    all_map (IsValidBallot e.poll.c) (cover_key x) 4096 e.poll.ballots is.poll.valid (λ ballot ok. omega (arith, cover_key_below e.poll.c x ballot ok.below, few))

pub few_classes : (e : Election) (start : Ground) → IsGroundIn e start → length start.classes ≤ 4096
few_classes e start is =
    let n = few_keys 4096 (races.keys_of e start.goal) (keys_below e start.goal is.election is.reached) in
    omega (arith, n, ap length is.values.classes)
