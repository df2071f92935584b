-- The place of a candidate that was found on a ballot.
use Rattle.std.proofs.Common.{ℕ, zero, suc, List, [], ◌∷◌, Some, true, false, ◌≡◌, ◌<◌, ◌+◌, length, get_or, ap, refl, arith}
use Rattle.std.specs.Prelude.{◌==◌}
use Rattle.std.proofs.lemmas.Bool.Decides.{nat_tests}
use Rattle.ballot_form.specs.Scores.{place_of}

pub found_place : (row : List ℕ) (i x : ℕ) → i < length row → ((k : ℕ) → k < i → get_or row k 0 ≡ x → ⊥) → get_or row i 0 ≡ x → place_of x row ≡ Some (i + 1)
found_place [] i x lt none here = absurd (omega arith)
found_place (y ∷ ys) zero x lt none here =
    let t : (y == x) ≡ true = grind (arith, nat_tests) in
    rw t refl
found_place (y ∷ ys) (suc i) x lt none here =
    let t : (y == x) ≡ false = (let ne : y ≡ x → ⊥ = none 0 (omega arith) in grind (arith, nat_tests)) in
    let rest = found_place ys i x (omega arith) (λ k kl e. none (suc k) (omega arith) e) here in
    rw (t, rest) (ap Some (omega arith))
