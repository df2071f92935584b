-- The place of a candidate on the first part of a ballot.
use Rattle.std.proofs.Common.{ℕ, suc, List, Option, Some, None, Bool, true, false, ◌≡◌, ◌==◌, ◌<◌, ◌+◌, ◌-◌, ◌*◌, ◌∙◌, take, length, cond, get_or, arith, ap, sym, refl, add-zero, inl, inr}
use Rattle.std.proofs.Math.Nat.{mul-add}
use Rattle.std.proofs.lemmas.Bool.{cases_eq}
use Rattle.std.proofs.lemmas.Bool.Decides.{nat_tests}
use Rattle.ballot_form.specs.Ballots.{IsValidBallot}
use Rattle.ballot_form.specs.Scores.{borda_points, place_of, points_at}
use Rattle.ballot_form.proofs.Places.{length_here, no_place, or_else, place_more, take_here}

-- the points after one more place
borda_place : (c : ℕ) (row : List ℕ) (i x y : ℕ) → IsValidBallot c row → i < length row → x ≡ get_or row i 0
    → borda_points c (take (i + 1) row) y ≡ borda_points c (take i row) y + cond (x == y) (c - (i + 1)) 0
borda_place c row i x y valid within is = elim (cases_eq x y) [
  | inl e ↦
      let t : (x == y) ≡ true = grind (arith, nat_tests) in
      let u : (get_or row i 0 == y) ≡ true = grind (arith, nat_tests, is) in
      let nowhere : place_of y (take i row) ≡ None = no_place (take i row) y (λ k lt same.
      let below : k < i = omega (arith, length_here row i) in
      valid.distinct k i 0 below within (sym (take_here row i k below) ∙ same ∙ sym e ∙ is)) in
      rw (t, (let s : i + 1 ≡ suc i = omega arith in s), place_more row i y within, nowhere, u) (omega arith)
  | inr ne ↦
      let t : (x == y) ≡ false = grind (arith, nat_tests) in
      let u : (get_or row i 0 == y) ≡ false = grind (arith, nat_tests, is) in
      rw (t, (let s : i + 1 ≡ suc i = omega arith in s), place_more row i y within, u) (same_place (place_of y (take i row)))
]
  where
    same_place : (o : Option ℕ) → points_at c (or_else o None) ≡ points_at c o + 0
    same_place None = refl
    same_place (Some n) = omega arith

-- the points of n ballots after one more place
pub borda_place_times : (n c : ℕ) (row : List ℕ) (i x y : ℕ) → IsValidBallot c row → i < length row → x ≡ get_or row i 0
    → n * borda_points c (take (i + 1) row) y ≡ n * borda_points c (take i row) y + cond (x == y) (n * (c - (i + 1))) 0
borda_place_times n c row i x y valid within is = times (borda_points c (take (i + 1) row) y) (borda_points c (take i row) y) (c - (i + 1)) (x == y) (borda_place c row i x y valid within is)
  where
    times : (a b k : ℕ) (t : Bool) → a ≡ b + cond t k 0 → n * a ≡ n * b + cond t (n * k) 0
    times a b k true e = ap (λ m. n * m) e ∙ mul-add n b k
    times a b k false e = ap (λ m. n * m) (e ∙ add-zero b) ∙ sym (add-zero (n * b))
