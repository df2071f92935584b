-- The place of a candidate on the first part of a ballot.
use Rattle.std.proofs.Common.{ℕ, zero, suc, List, [], ◌∷◌, Option, Some, None, Bool, true, false, ◌≡◌, ◌==◌, ◌<◌, ◌≤◌, ◌∙◌, take, length, cond, get_or, arith, ap, refl, inl, inr}
use Rattle.std.specs.Prelude.{option_map}
use Rattle.std.proofs.lemmas.Bool.{cases_eq}
use Rattle.std.proofs.lemmas.Bool.Decides.{nat_tests}
use Rattle.ballot_form.specs.Scores.{place_of}

-- the first place, or else the second
abbrev pub or_else : Option ℕ → Option ℕ → Option ℕ
or_else None o = o
or_else (Some n) o = Some n

later : (a : Option ℕ) (t : Bool) (n : ℕ) → option_map suc (or_else a (cond t (Some n) None)) ≡ or_else (option_map suc a) (cond t (Some (suc n)) None)
later (Some m) t n = refl
later None true n = refl
later None false n = refl

-- one more place
pub place_more : (row : List ℕ) (i y : ℕ) → i < length row → place_of y (take (suc i) row) ≡ or_else (place_of y (take i row)) (cond (get_or row i 0 == y) (Some (suc i)) None)
place_more [] i y within = absurd (omega arith)
place_more (z ∷ zs) zero y within = refl
place_more (z ∷ zs) (suc i) y within = here (z == y) (ap (option_map suc) (place_more zs i y (omega arith)) ∙ later (place_of y (take i zs)) (get_or zs i 0 == y) (suc i))
  where
    here : (t : Bool) → option_map suc (place_of y (take (suc i) zs)) ≡ or_else (option_map suc (place_of y (take i zs))) (cond (get_or zs i 0 == y) (Some (suc (suc i))) None)
        → cond t (Some 1) (option_map suc (place_of y (take (suc i) zs))) ≡ or_else (cond t (Some 1) (option_map suc (place_of y (take i zs)))) (cond (get_or zs i 0 == y) (Some (suc (suc i))) None)
    here true rest = refl
    here false rest = rest

-- a candidate that stands nowhere has no place
pub no_place : (row : List ℕ) (y : ℕ) → ((k : ℕ) → k < length row → get_or row k 0 ≡ y → ⊥) → place_of y row ≡ None
no_place [] y nowhere = refl
no_place (z ∷ zs) y nowhere = elim (cases_eq z y) [
  | inl e ↦ absurd (nowhere 0 (omega arith) e)
  | inr ne ↦
      let t : (z == y) ≡ false = grind (arith, nat_tests) in
      rw (t, no_place zs y (λ k lt e. nowhere (suc k) (omega arith) e)) refl
]

-- what stands on the first part of a ballot
pub take_here : (row : List ℕ) (i k : ℕ) → k < i → get_or (take i row) k 0 ≡ get_or row k 0
take_here [] zero k lt = absurd (omega arith)
take_here [] (suc i) k lt = refl
take_here (z ∷ zs) zero k lt = absurd (omega arith)
take_here (z ∷ zs) (suc i) zero lt = refl
take_here (z ∷ zs) (suc i) (suc k) lt = take_here zs i k (omega arith)

pub length_here : (row : List ℕ) (i : ℕ) → length (take i row) ≤ i
length_here [] zero = omega arith
length_here [] (suc i) = omega arith
length_here (z ∷ zs) zero = omega arith
length_here (z ∷ zs) (suc i) = omega (arith, length_here zs i)
