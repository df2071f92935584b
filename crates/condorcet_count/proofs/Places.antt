-- The places of candidates on the first part of a ballot.
use Rattle.std.proofs.Common.{ℕ, zero, suc, List, [], ◌∷◌, Option, Some, None, Bool, true, false, ◌≡◌, ◌<◌, ◌≤◌, ◌+◌, ◌∙◌, take, length, cond, get_or, arith, sym, refl}
use Rattle.std.specs.Prelude.{◌==◌, ◌&&◌, option_map, is_some}
use Rattle.std.proofs.lemmas.Bool.Decides.{nat_tests}
use Rattle.ballot_form.specs.Ballots.{AreDistinct}
use Rattle.ballot_form.specs.Scores.{place_of}
use Rattle.ballot_form.proofs.Places.{length_here, no_place, or_else, place_more, take_here}
use Rattle.condorcet_count.specs.Behind.{comes_after, is_behind, is_on}
use Rattle.condorcet_count.specs.Preferences.{comes_before, prefers}

-- who stands at a place stands nowhere before it
not_before : (row : List ℕ) (i y : ℕ) → AreDistinct row → i < length row → (get_or row i 0 == y) ≡ true → place_of y (take i row) ≡ None
not_before row i y distinct within at =
    let e : get_or row i 0 ≡ y = grind (arith, nat_tests) in
    no_place (take i row) y (λ k lt same.
    let below : k < i = omega (arith, length_here row i) in
    distinct k i 0 below within (sym (take_here row i k below) ∙ same ∙ sym e))

-- a place that is at most so much, if there is one
abbrev pub AtMost : ℕ → Option ℕ → Type 0
AtMost n None = Unit {0}
AtMost n (Some r) = r ≤ n

at_most_suc : (n : ℕ) (o : Option ℕ) → AtMost n o → AtMost (suc n) (option_map suc o)
at_most_suc n None h = tt
at_most_suc n (Some r) h = omega arith

at_most_here : (t : Bool) (n : ℕ) (o : Option ℕ) → AtMost (suc n) o → AtMost (suc n) (cond t (Some 1) o)
at_most_here true n o h = omega arith
at_most_here false n o h = h

place_at_most : (row : List ℕ) (i y : ℕ) → AtMost i (place_of y (take i row))
place_at_most [] zero y = tt
place_at_most [] (suc i) y = tt
place_at_most (z ∷ zs) zero y = tt
place_at_most (z ∷ zs) (suc i) y = at_most_here (z == y) i (option_map suc (place_of y (take i zs))) (at_most_suc i (place_of y (take i zs)) (place_at_most zs i y))

-- one more place of an upto list, of k equal ballots
on_step : (t : Bool) (o : Option ℕ) (u : Bool) (n k : ℕ) → (u ≡ true → o ≡ None) → cond (t && is_some (or_else o (cond u (Some n) None))) k 0 ≡ cond (t && is_some o) k 0 + cond (t && u) k 0
on_step false o u n k once = refl
on_step true o true n k once = rw (once refl) (omega arith)
on_step true None false n k once = refl
on_step true (Some m) false n k once = omega arith

pub on_more : (row : List ℕ) (i y : ℕ) (t : Bool) (k : ℕ) → AreDistinct row → i < length row
    → cond (t && is_on (take (i + 1) row) y) k 0 ≡ cond (t && is_on (take i row) y) k 0 + cond (t && (get_or row i 0 == y)) k 0
on_more row i y t k distinct within =
    let s : i + 1 ≡ suc i = omega arith in
    rw (s, place_more row i y within) (on_step t (place_of y (take i row)) (get_or row i 0 == y) (suc i) k (not_before row i y distinct within))

-- one more place of k equal ballots
behind_step : (n : ℕ) (oa ob : Option ℕ) (t u : Bool) (k : ℕ) → AtMost n oa → AtMost n ob → (t ≡ true → oa ≡ None) → (u ≡ true → ob ≡ None)
    → cond (comes_after (or_else oa (cond t (Some (suc n)) None)) (or_else ob (cond u (Some (suc n)) None))) k 0
    ≡ cond (comes_after oa ob) k 0 + cond (t && is_some (or_else ob (cond u (Some (suc n)) None))) k 0
behind_step n oa ob true true k la lb na nb = rw (na refl, nb refl) (grind (arith, nat_tests))
behind_step n oa None true false k la lb na nb = rw (na refl) refl
behind_step n oa (Some q) true false k la lb na nb = rw (na refl) (grind (arith, nat_tests))
behind_step n None ob false true k la lb na nb = refl
behind_step n (Some r) ob false true k la lb na nb = rw (nb refl) (grind (arith, nat_tests))
behind_step n None ob false false k la lb na nb = refl
behind_step n (Some r) None false false k la lb na nb = refl
behind_step n (Some r) (Some q) false false k la lb na nb = omega arith

pub behind_more : (row : List ℕ) (i x y k : ℕ) → AreDistinct row → i < length row
    → cond (is_behind (take (i + 1) row) x y) k 0 ≡ cond (is_behind (take i row) x y) k 0 + cond ((get_or row i 0 == x) && is_on (take (i + 1) row) y) k 0
behind_more row i x y k distinct within =
    let s : i + 1 ≡ suc i = omega arith in
    rw (s, place_more row i x within, place_more row i y within)
    (behind_step i (place_of x (take i row)) (place_of y (take i row)) (get_or row i 0 == x) (get_or row i 0 == y) k (place_at_most row i x) (place_at_most row i y)
    (not_before row i x distinct within) (not_before row i y distinct within))

-- a ballot that ranks x prefers it to y, or has y no later
one_of_both : (o other : Option ℕ) → cond (comes_before o other) 1 0 + cond (comes_after o other) 1 0 ≡ cond (comes_after o o) 1 0
one_of_both None other = refl
one_of_both (Some r) None = grind (arith, nat_tests)
one_of_both (Some r) (Some q) = grind (arith, nat_tests)

pub prefers_or_behind : (row : List ℕ) (x y : ℕ) → cond (prefers row x y) 1 0 + cond (is_behind row x y) 1 0 ≡ cond (is_behind row x x) 1 0
prefers_or_behind row x y = one_of_both (place_of x row) (place_of y row)
