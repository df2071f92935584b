-- The cells of a record by their numbers.
use Rattle.std.proofs.Common.{ℕ, List, [], ◌∷◌, ◌++◌, ◌≡◌, ◌<◌, ◌≤◌, ◌+◌, ◌∙◌, refl, ap, Bool, true, false, Option, Some, None, length, suc, zero, arith, take, drop}
use Rattle.std.specs.Prelude.{IsSome, slice_get, option_map, ◌&&◌, ◌||◌}
use Rattle.std.specs.List.{list_all, list_any}
use Rattle.std.proofs.lemmas.List.{take_more}
use Rattle.std.proofs.lemmas.List.Folds.{list_all_more, list_any_at, list_any-append}
use Rattle.std.proofs.lemmas.Option.{get_or_from_slice_get, slice_get_within}
use Rattle.std.proofs.Math.Bool.{and-false, or-false}
use Rattle.csv.specs.Records.{field_at}

pub same_place : (cells : List (List ℕ)) (i : ℕ) → field_at cells i ≡ slice_get cells i
unfolding field_at
same_place [] i = refl
same_place (x ∷ xs) zero = refl
same_place (x ∷ xs) (suc i) = same_place xs i

there : (cells : List (List ℕ)) (i : ℕ) → i < length cells → IsSome (field_at cells i)
unfolding field_at
there [] i h = absurd (omega (arith, h))
there (x ∷ xs) zero h = refl
there (x ∷ xs) (suc i) h = there xs i (omega (arith, h))

shown : {X Y : Type 0} (f : X → Y) (o : Option X) (v : Option Y) → option_map f o ≡ v → IsSome v → IsSome o
shown f (Some x) v e h = refl
shown f None v e h = cc (e, h)

pub got : {X : Type 0} (f : X → List ℕ) (o : Option X) (cells : List (List ℕ)) (i : ℕ) → option_map f o ≡ field_at cells i → i < length cells → IsSome o
got f o cells i e h = shown f o _ e (there cells i h)

module _ {X : Type 0} where
  -- the items below the next place are those below this one, and the item here
  pub until_more : (xs : List X) (i : ℕ) (x : X) → slice_get xs i ≡ Some x → take (i + 1) xs ≡ take i xs ++ x ∷ []
  until_more xs i x at = take_more xs i x (slice_get_within xs i x at) ∙ ap (λ y. take i xs ++ y ∷ []) (get_or_from_slice_get xs i x x at)

  -- the same, of those after the first
  pub rest_more : (xs : List X) (i : ℕ) (x : X) → 1 ≤ i → slice_get xs i ≡ Some x → drop 1 (take (i + 1) xs) ≡ drop 1 (take i xs) ++ x ∷ []
  rest_more xs zero x one at = absurd (omega (arith, one))
  rest_more [] (suc i) x one at = cc at
  rest_more (y ∷ xs) (suc i) x one at = ap (drop 1) (until_more (y ∷ xs) (suc i) x at)

  -- a test of all, as far as a place
  pub all_until : (p : X → Bool) (xs : List X) (i : ℕ) (x : X) → slice_get xs i ≡ Some x → list_all p (take (i + 1) xs) ≡ (list_all p (take i xs) && p x)
  all_until p xs i x at = list_all_more p xs i x (slice_get_within xs i x at) ∙ ap (λ y. list_all p (take i xs) && p y) (get_or_from_slice_get xs i x x at)

  pub all_stops_at : (p : X → Bool) (xs : List X) (i : ℕ) (x : X) → slice_get xs i ≡ Some x → p x ≡ false → list_all p xs ≡ false
  all_stops_at p [] i x at fails = cc at
  all_stops_at p (y ∷ xs) zero x at fails = rw (some_is y x at, fails) refl
    where
      some_is : (a b : X) → Some a ≡ Some b → a ≡ b
      some_is a b e = cc e
  all_stops_at p (y ∷ xs) (suc i) x at fails = rw (all_stops_at p xs i x at fails) (and-false (p y))

  pub any_starts_at : (p : X → Bool) (xs : List X) (i : ℕ) (x : X) → slice_get xs i ≡ Some x → p x ≡ true → list_any p xs ≡ true
  any_starts_at p xs i x at holds = list_any_at p xs i x (slice_get_within xs i x at) (rw (get_or_from_slice_get xs i x x at) holds)

  pub any_rest_starts_at : (p : X → Bool) (xs : List X) (i : ℕ) (x : X) → 1 ≤ i → slice_get xs i ≡ Some x → p x ≡ true → list_any p (drop 1 xs) ≡ true
  any_rest_starts_at p xs zero x one at holds = absurd (omega (arith, one))
  any_rest_starts_at p [] (suc i) x one at holds = cc at
  any_rest_starts_at p (y ∷ xs) (suc i) x one at holds = any_starts_at p xs i x at holds

  pub any_rest_more : (p : X → Bool) (xs : List X) (i : ℕ) (x : X) → 1 ≤ i → slice_get xs i ≡ Some x
      → list_any p (drop 1 (take (i + 1) xs)) ≡ (list_any p (drop 1 (take i xs)) || p x)
  any_rest_more p xs i x one at = rw (rest_more xs i x one at, list_any-append p (drop 1 (take i xs)) (x ∷ [])) (ap (λ b. list_any p (drop 1 (take i xs)) || b) (or-false (p x)))
