-- How long a valid ballot is.
use Rattle.std.proofs.Common.{ℕ, suc, List, [], ◌∷◌, Bool, true, false, ◌≡◌, ◌<◌, ◌≤◌, length, arith, All}
use Rattle.std.specs.Prelude.{◌==◌, ◌||◌}
use Rattle.std.specs.List.{list_any}
use Rattle.std.proofs.Math.Dec.{eqb}
use Rattle.std.proofs.lemmas.Bool.Decides.{Decides-eqb, nat_tests}
use Rattle.std.proofs.lemmas.Map.Made.{IsDistinct-from_AllPairs}
use Rattle.std.proofs.lemmas.Map.Steps.{length-le_from_distinct_below}
use Rattle.ballot_form.specs.Ballots.{IsValidBallot}

either : (q x c : ℕ) (rest t : Bool) → t ≡ (q == x) → (t || rest) ≡ true → x < c → (rest ≡ true → q < c) → q < c
either q x c rest true e h here there = let same : q ≡ x = grind (arith, nat_tests) in omega arith
either q x c rest false e h here there = there h

member_below : (c : ℕ) (row : List ℕ) → All (λ x. x < c) row → (q : ℕ) → list_any (eqb q) row ≡ true → q < c
member_below c [] below q h = absurd (cc)
member_below c (x ∷ xs) below q h = either q x c (list_any (eqb q) xs) (q == x) (let e : (q == x) ≡ (q == x) = cc in e) h (below 0 0 (omega arith)) (member_below c xs (λ k d lt. below (suc k) d (omega arith)) q)

-- a valid ballot has at most as many places as there are candidates
pub length_valid : (c : ℕ) (row : List ℕ) → IsValidBallot c row → length row ≤ c
length_valid c row valid = length-le_from_distinct_below row c (IsDistinct-from_AllPairs Decides-eqb row valid.distinct) (member_below c row valid.below)
