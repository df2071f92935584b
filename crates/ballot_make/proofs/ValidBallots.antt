-- Drawn ballots: how many there are, and that each is valid.
use Rattle.std.proofs.Common.{ℕ, zero, suc, List, ◌∷◌, ◌≡◌, ◌≢◌, ◌<◌, ◌≤◌, ◌+◌, ◌*◌, ◌/◌, ◌^◌, All, length, get_or}
use Rattle.std.proofs.Common.{arith, ap, inl, inr, refl, sym, take}
use Rattle.std.specs.List.{range_with_len, remove}
use Rattle.std.proofs.lemmas.Bool.{cases_lt}
use Rattle.std.proofs.lemmas.Nat.{mod_below}
use Rattle.std.proofs.lemmas.List.Edits.{get_or-remove_above, get_or-remove_below, length-remove}
use Rattle.std.proofs.lemmas.List.Elements.{All-cons, All-from_get_or, All-nil}
use Rattle.std.proofs.lemmas.List.FromFn.{get_or-range_with_len, length-range_with_len}
use Rattle.std.proofs.lemmas.List.Kept.{AllPairs-cons}
use Rattle.std.proofs.lemmas.List.Quantifiers.{all_pairs_remove}
use Rattle.ballot_form.specs.Ballots.{AreDistinct, IsValidBallot}
use Rattle.ballot_make.specs.Made.{ballot_drawn, ballots_drawn, candidates_drawn, lesser_drawn, next_state}
use Rattle.ballot_make.specs.Made.{number_drawn, state_after}

-- a draw below a bound is below it
lesser_below : (state bound : ℕ) → 0 < bound → lesser_drawn state bound < bound
lesser_below state bound some =
    let first = mod_below (next_state state / 2 ^ 33) bound some in
    let second = mod_below (next_state (next_state state) / 2 ^ 33) bound some in
    omega (arith, first, second)

-- what holds of all on a list holds of all that are left after one is taken
All-remove : (P : ℕ → Type 0) (xs : List ℕ) (i : ℕ) → i < length xs → All P xs → All P (remove xs i)
All-remove P xs i within all k d below = elim (cases_lt k i) [
  | inl before ↦ rw get_or-remove_below (all k d (omega (arith, length-remove xs i within)))
  | inr after ↦ rw get_or-remove_above (all (k + 1) d (omega (arith, length-remove xs i within)))
]

-- one of those that are left is taken, and one fewer is left
place_within : (state : ℕ) (left : List ℕ) (count : ℕ) → suc count ≤ length left
    → lesser_drawn state (length left) < length left
place_within state left count enough = lesser_below state (length left) (omega arith)

enough_left : (state : ℕ) (left : List ℕ) (count : ℕ) → suc count ≤ length left
    → count ≤ length (remove left (lesser_drawn state (length left)))
enough_left state left count enough =
    omega (arith, length-remove left (lesser_drawn state (length left)) (place_within state left count enough))

-- what holds of all that are left holds of all that are drawn of them
All-drawn : (P : ℕ → Type 0) (state : ℕ) (left : List ℕ) (count : ℕ) → count ≤ length left → All P left
    → All P (candidates_drawn state left count)
All-drawn P state left zero enough all = All-nil P
All-drawn P state left (suc count) enough all =
    let place = lesser_drawn state (length left) in
    let within : place < length left = place_within state left count enough in
    All-cons P (get_or left place 0) (candidates_drawn (state_after 2 state) (remove left place) count)
    (all place 0 within)
    (All-drawn P (state_after 2 state) (remove left place) count (enough_left state left count enough)
    (All-remove P left place within all))

-- the others differ from the one that is taken
others_differ : (xs : List ℕ) (i : ℕ) → i < length xs → AreDistinct xs → All (λ y. get_or xs i 0 ≢ y) (remove xs i)
others_differ xs i within distinct = All-from_get_or (λ y. get_or xs i 0 ≢ y) (remove xs i) 0 differs
  where
    shorter : length (remove xs i) + 1 ≡ length xs
    shorter = length-remove xs i within

    differs : (k : ℕ) → k < length (remove xs i) → get_or xs i 0 ≢ get_or (remove xs i) k 0
    differs k below = elim (cases_lt k i) [
      | inl before ↦ rw get_or-remove_below (λ same. distinct k i 0 before within (sym same))
      | inr after ↦ rw get_or-remove_above (distinct i (k + 1) 0 (omega arith) (omega (arith, shorter)))
    ]

-- what is drawn of distinct candidates is distinct
drawn_distinct : (state : ℕ) (left : List ℕ) (count : ℕ) → count ≤ length left → AreDistinct left
    → AreDistinct (candidates_drawn state left count)
drawn_distinct state left zero enough distinct = λ i j d before below. absurd (omega arith)
drawn_distinct state left (suc count) enough distinct =
    let place = lesser_drawn state (length left) in
    let within : place < length left = place_within state left count enough in
    let rest = candidates_drawn (state_after 2 state) (remove left place) count in
    AllPairs-cons (λ x y. x ≢ y) (get_or left place 0) rest
    (All-drawn (λ y. get_or left place 0 ≢ y) (state_after 2 state) (remove left place) count
    (enough_left state left count enough)
    (others_differ left place within distinct))
    (drawn_distinct (state_after 2 state) (remove left place) count (enough_left state left count enough)
    (all_pairs_remove (λ x y. x ≢ y) left place within distinct))

-- the state after a ballot
abbrev after_ballot : ℕ → ℕ → ℕ
after_ballot c state = state_after (2 * length (ballot_drawn c state) + 1) state

-- each drawn ballot is valid
drawn_valid : (c state : ℕ) → IsValidBallot c (ballot_drawn c state)
drawn_valid c state = record {
  below = All-drawn (λ x. x < c) (next_state state) (range_with_len 0 c) (number_drawn state (c + 1)) enough all_below;
  distinct = drawn_distinct (next_state state) (range_with_len 0 c) (number_drawn state (c + 1)) enough all_distinct;
}
  where
    size : length (range_with_len 0 c) ≡ c
    size = length-range_with_len 0 c

    enough : number_drawn state (c + 1) ≤ length (range_with_len 0 c)
    enough = omega (arith, size, mod_below (next_state state / 2 ^ 33) (c + 1) (omega arith))

    all_below : All (λ x. x < c) (range_with_len 0 c)
    all_below k d below = omega (arith, size, get_or-range_with_len 0 c k d (omega (arith, size)))

    all_distinct : AreDistinct (range_with_len 0 c)
    all_distinct i j d before below =
        let later : j < c = omega (arith, size) in
        let first : i < c = omega arith in
        λ same. omega (arith, same, get_or-range_with_len 0 c i d first, get_or-range_with_len 0 c j d later)

-- a ballot that is drawn for as many candidates as there are
pub valid_for : (c k state : ℕ) (ballot : List ℕ) → k ≡ c → ballot ≡ ballot_drawn c state → IsValidBallot k ballot
valid_for c k state ballot same is = rw (same, is) (drawn_valid c state)

-- as many ballots as are drawn, each of them valid
pub all_valid : (seed c n : ℕ) → All (IsValidBallot c) (ballots_drawn c n seed)
all_valid seed c zero = All-nil (IsValidBallot c)
all_valid seed c (suc n) =
    All-cons (IsValidBallot c) (ballot_drawn c seed) (ballots_drawn c n (after_ballot c seed)) (drawn_valid c seed)
    (all_valid (after_ballot c seed) c n)

pub length_drawn : (seed c n : ℕ) → length (ballots_drawn c n seed) ≡ n
length_drawn seed c zero = refl
length_drawn seed c (suc n) = ap suc (length_drawn (after_ballot c seed) c n)

-- fewer ballots are the first of more
pub first_drawn : (seed c n m : ℕ) → n ≤ m → take n (ballots_drawn c m seed) ≡ ballots_drawn c n seed
first_drawn seed c zero m more = refl
first_drawn seed c (suc n) zero more = absurd (omega arith)
first_drawn seed c (suc n) (suc m) more =
    ap (λ rest. ballot_drawn c seed ∷ rest) (first_drawn (after_ballot c seed) c n m (omega arith))
