-- A threshold that falls by one, and the level that it ends at.
use Rattle.std.proofs.Common.{◌≡◌, ℕ, zero, suc, ◌+◌, ◌-◌, ◌*◌, ◌/◌, ◌%◌, ◌<◌, ◌≤◌, ◌⊎◌, ◌∙◌, List, [], ◌∷◌, min, inl, inr, length, refl, ap, subst, arith}
use Rattle.std.specs.Prelude.{slice_index}
use Rattle.std.proofs.Math.Nat.{mul-le-mul_left}
use Rattle.std.proofs.lemmas.Bool.{cases_lt}
use Rattle.std.proofs.lemmas.Bool.Decides.{nat_tests}
use Rattle.std.proofs.lemmas.Grind.{div_ceil_times}
use Rattle.ballot_form.specs.declared.limits.TheConstants.{MOST_BALLOTS}
use Rattle.mov_base.specs.Sums.{add_up}
use Rattle.mov_base.proofs.Most.{most-le, most-reached}
use Rattle.goal_rows.specs.Pairs.{Reaches}
use Rattle.witness_build.specs.Levels.{AreCounts, AreEnough, IsLevelFor, above, equals, largest, reaching}
use Rattle.witness_build.specs.declared.levels.Level.{Level}

-- ---- one gain

one_above : (θ x : ℕ) → above θ x ≡ above (suc θ) x + equals (suc θ) x
one_above θ x = grind (arith, nat_tests)

one_beyond : (θ x : ℕ) → x - θ ≡ (x - suc θ) + above θ x
one_beyond θ x = grind (arith, nat_tests)

one_reaching : (θ x : ℕ) → reaching θ x ≡ above θ x + equals θ x
one_reaching θ x = grind (arith, nat_tests)

one_none : (n x s : ℕ) → above n x + s ≡ 0 → (x - n ≡ 0) × (s ≡ 0)
one_none n x s none = (grind (arith, nat_tests), grind (arith, nat_tests))

-- ---- all gains

pub above_down : (θ : ℕ) (gains : List ℕ) → add_up (above θ) gains ≡ add_up (above (suc θ)) gains + add_up (equals (suc θ)) gains
above_down θ [] = refl
above_down θ (x ∷ xs) = omega (arith, one_above θ x, above_down θ xs)

pub beyond_down : (θ : ℕ) (gains : List ℕ) → add_up (λ x. x - θ) gains ≡ add_up (λ x. x - suc θ) gains + add_up (above θ) gains
beyond_down θ [] = refl
beyond_down θ (x ∷ xs) = omega (arith, one_beyond θ x, beyond_down θ xs)

pub reaching_is : (θ : ℕ) (gains : List ℕ) → add_up (reaching θ) gains ≡ add_up (above θ) gains + add_up (equals θ) gains
reaching_is θ [] = refl
reaching_is θ (x ∷ xs) = omega (arith, one_reaching θ x, reaching_is θ xs)

none_beyond : (n : ℕ) (gains : List ℕ) → add_up (above n) gains ≡ 0 → add_up (λ x. x - n) gains ≡ 0
none_beyond n [] none = refl
none_beyond n (x ∷ xs) none =
    let parts = one_none n x (add_up (above n) xs) none in
    omega (arith, parts.0, none_beyond n xs parts.1)

all_beyond : (gains : List ℕ) → add_up (λ x. x - 0) gains ≡ add_up (λ x. x) gains
all_beyond [] = refl
all_beyond (x ∷ xs) = omega (arith, all_beyond xs)

-- ---- on the way

-- the gains above the threshold are counted, and so much is lacking beside them
pub record IsSoFar (deficit : ℕ) (gains : List ℕ) (θ lacking count : ℕ) : Type 0 where
  pub sum : lacking + largest θ count gains ≡ deficit
  pub counted : count ≡ add_up (above θ) gains
  pub begun : lacking ≡ 0 → count ≡ 0

pub so_far_none : (deficit : ℕ) (gains counts : List ℕ) → AreCounts gains counts → IsSoFar deficit gains (length counts) deficit 0
so_far_none deficit gains counts are =
    let none = none_beyond (length counts) gains are.greatest in
    record { sum = omega (arith, none); counted = omega (arith, are.greatest); begun = λ e. refl }

pub so_far_more : (deficit : ℕ) (gains : List ℕ) (θ lacking count many : ℕ) → IsSoFar deficit gains (suc θ) lacking count
    → many ≡ add_up (equals (suc θ)) gains → suc θ * many < lacking → IsSoFar deficit gains θ (lacking - suc θ * many) (count + many)
so_far_more deficit gains θ lacking count many is many_is less =
    let a = above_down θ gains in
    let b = beyond_down θ gains in
    record {
      sum = omega (arith, a, b, is.sum, is.counted, many_is, less);
      counted = omega (arith, a, is.counted, many_is);
      begun = λ e. absurd (omega (arith, e, less));
    }

pub none_left : (deficit : ℕ) (gains : List ℕ) (lacking count : ℕ) → IsSoFar deficit gains 0 lacking count → deficit ≤ add_up (λ x. x) gains → lacking ≡ 0
none_left deficit gains lacking count is enough = omega (arith, is.sum, enough, all_beyond gains)

-- a product that is below another with the same factor
less_factor : (a b n : ℕ) → a * n < b * n → a < b
less_factor a b n less = elim (cases_lt a b) [
  | inl lt ↦ lt
  | inr ge ↦ absurd (let le = mul-le-mul_left n ge in omega (arith, le, less))
]

few_enough : (lacking gain many equal : ℕ) → lacking ≤ gain * many → equal * gain < lacking + gain → equal ≤ many
few_enough lacking gain many zero last up = omega arith
few_enough lacking gain many (suc k) last up = let lt = less_factor k many gain (omega (arith, last, up)) in omega (arith, lt)

pub found : (deficit : ℕ) (gains : List ℕ) (gain lacking count many equal : ℕ) → IsSoFar deficit gains gain lacking count → many ≡ add_up (equals gain) gains
    → lacking ≤ gain * many → lacking ≤ equal * gain → equal * gain < lacking + gain → IsLevelFor deficit gains (record { gain = gain; equal = equal; count = count + equal })
found deficit gains gain lacking count many equal is many_is last enough up =
    let few = few_enough lacking gain many equal last up in
    record {
      counted = omega (arith, is.counted);
      within = omega (arith, is.counted, few, many_is, reaching_is gain gains);
      enough = omega (arith, is.sum, enough);
      none_spare = spare equal enough up;
    }
  where
    spare : (equal : ℕ) → lacking ≤ equal * gain → equal * gain < lacking + gain → (count + equal ≡ 0) ⊎ (largest gain ((count + equal) - 1) gains < deficit)
    spare zero enough up = let none : lacking ≡ 0 = omega (arith, enough) in inl (omega (arith, is.begun none))
    spare (suc k) enough up =
        let one : (count + suc k) - 1 ≡ count + k = omega arith in
        let sum = is.sum in
        inr (rw one (omega (arith, sum, up)))

-- ---- at the level

pub level_reaches : (deficit : ℕ) (gains : List ℕ) (level : Level) → IsLevelFor deficit gains level → Reaches deficit gains level.count
level_reaches deficit gains level is =
    let reached = most-reached level.gain level.count gains (let e = is.counted in omega (arith, e)) is.within in
    omega (arith, reached, is.enough)

pub level_least : (deficit : ℕ) (gains : List ℕ) (level : Level) (i : ℕ) → IsLevelFor deficit gains level → Reaches deficit gains i → level.count ≤ i
level_least deficit gains level i is reached = elim (cases_lt i level.count) [
  | inr le ↦ le
  | inl less ↦ elim is.none_spare [
    | inl none ↦ omega (arith, none)
    | inr short ↦ absurd (
        let bound = most-le level.gain i gains in
        let below : i ≤ level.count - 1 = omega arith in
        let le = mul-le-mul_left level.gain below in
        omega (arith, reached, bound, short, le))
  ]
]

-- ---- by the counts of the gains

all_reaching : (θ : ℕ) (gains : List ℕ) → add_up (reaching θ) gains ≤ length gains
all_reaching θ [] = omega arith
all_reaching θ (x ∷ xs) =
    let one : reaching θ x ≤ 1 = grind (arith, nat_tests) in
    omega (arith, one, all_reaching θ xs)

pub few_counted : (deficit : ℕ) (gains counts : List ℕ) (θ lacking count : ℕ) → AreCounts gains counts → IsSoFar deficit gains θ lacking count → count ≤ MOST_BALLOTS
few_counted deficit gains counts θ lacking count are is = omega (arith, is.counted, reaching_is θ gains, all_reaching θ gains, are.few)

pub few_at : (deficit : ℕ) (gains counts : List ℕ) (level : Level) → AreCounts gains counts → IsLevelFor deficit gains level → level.count ≤ MOST_BALLOTS
few_at deficit gains counts level are is = omega (arith, is.within, all_reaching level.gain gains, are.few)

pub counts_none : (deficit : ℕ) (gains counts : List ℕ) → AreCounts gains counts → IsSoFar deficit gains (length counts - 0) deficit 0
counts_none deficit gains counts are = let e : length counts - 0 ≡ length counts = omega arith in rw e (so_far_none deficit gains counts are)

pub counts_more : (deficit : ℕ) (gains counts : List ℕ) (key lacking count many same : ℕ) → AreCounts gains counts → key < length counts
    → same ≡ many → many ≡ slice_index counts key → (length counts - key) * same < lacking
    → IsSoFar deficit gains (length counts - key) lacking count
    → IsSoFar deficit gains (length counts - (key + 1)) (lacking - (length counts - key) * same) (count + many)
counts_more deficit gains counts key lacking count many same are lt same_is many_is less is =
    let θ = length counts - (key + 1) in
    let e : length counts - key ≡ suc θ = omega arith in
    let more = so_far_more deficit gains θ lacking count many (subst (λ n. IsSoFar deficit gains n lacking count) e is)
    (many_is ∙ are.each key lt ∙ ap (λ n. add_up (equals n) gains) e) (subst (λ n. n * many < lacking) e (subst (λ n. (length counts - key) * n < lacking) same_is less)) in
    rw (same_is, e) more

pub counts_found : (deficit : ℕ) (gains counts : List ℕ) (key lacking count many same equal : ℕ) → AreCounts gains counts → key < length counts
    → same ≡ many → many ≡ slice_index counts key → lacking ≤ (length counts - key) * same → equal ≡ lacking / (length counts - key) + min 1 (lacking % (length counts - key))
    → IsSoFar deficit gains (length counts - key) lacking count
    → IsLevelFor deficit gains (record { gain = length counts - key; equal = equal; count = count + equal })
counts_found deficit gains counts key lacking count many same equal are lt same_is many_is last equal_is is =
    let bounds = div_ceil_times lacking (length counts - key) (omega arith) in
    found deficit gains (length counts - key) lacking count many equal is (many_is ∙ are.each key lt)
    (subst (λ n. lacking ≤ (length counts - key) * n) same_is last)
    (rw equal_is bounds.0) (rw equal_is bounds.1)

-- what all gains together make up isn't passed
pub counts_all : (deficit : ℕ) (gains counts : List ℕ) (key lacking count : ℕ) → AreEnough deficit gains counts → length counts ≤ key
    → IsSoFar deficit gains (length counts - key) lacking count → lacking ≡ 0
counts_all deficit gains counts key lacking count are past is =
    let e : length counts - key ≡ 0 = omega arith in
    none_left deficit gains lacking count (subst (λ n. IsSoFar deficit gains n lacking count) e is) are.enough
