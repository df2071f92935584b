-- What the rows of one round bring on an arc.
use Rattle.std.proofs.Common.{ℕ, zero, suc, ◌≡◌, ◌<◌, ◌≤◌, ◌+◌, ◌-◌, ◌&&◌, List, [], ◌∷◌, ◌++◌, length, get_or, take, drop, map, cond, refl, ap, ◌∙◌, ◌⊎◌, inl, inr, arith}
use Rattle.std.specs.Prelude.{ℤ, pos, ◌+ℤ◌, ◌-ℤ◌, ◌*ℤ◌, ◌==◌, nat_lt}
use Rattle.std.specs.List.{flat_map, range_with_len, zip}
use Rattle.std.proofs.Math.Nat.{mul-le-mul_left}
use Rattle.std.proofs.lemmas.Int.{ints}
use Rattle.std.proofs.lemmas.Bool.{cases_eq}
use Rattle.std.proofs.lemmas.Bool.Decides.{nat_tests}
use Rattle.std.proofs.lemmas.List.{length-map}
use Rattle.std.proofs.lemmas.List.Concat.{flat_map-cons}
use Rattle.std.proofs.lemmas.List.FromFn.{length-range_with_len}
use Rattle.mov_base.specs.Sums.{add_up, sum_z}
use Rattle.sig_graph.specs.Paths.{arc_total, arcs_before}
use Rattle.sig_graph.specs.Rows.{row_weight_of}
use Rattle.sig_graph.proofs.ArcNumbers.{arcs_before-all, arcs_before-mono}
use Rattle.dual_bound.specs.WeighingParts.{round_brings, round_places, row_brings}
use Rattle.dual_bound.proofs.Pairwise.{zip_none, zip_split, drop_twice}

-- ---- an arc in a row

abbrev one_over : ℕ → ℕ → ℕ → ℕ → ℕ
one_over i j u x = cond (nat_lt u i && (x == j)) 1 0

over_late : (i j u x : ℕ) → i ≤ u → one_over i j u x ≡ 0
over_late i j u x late = grind (arith, nat_tests)

over_past : (i j u x : ℕ) → x < j → one_over i j u x ≡ 0
over_past i j u x less = grind (arith, nat_tests)

over_before : (i j u x : ℕ) → j < x → one_over i j u x ≡ 0
over_before i j u x more = grind (arith, nat_tests)

over_here : (i j u x : ℕ) → u < i → x ≡ j → one_over i j u x ≡ 1
over_here i j u x less is = grind (arith, nat_tests)

weight_is : (i j u x n k : ℕ) → one_over i j u x ≡ n → one_over i i u x ≡ k → row_weight_of i j (u, x) ≡ pos n -ℤ pos k
weight_is i j u x n k e f = rw (e, f) refl

times_none : (l : ℕ) (w : ℤ) → w ≡ pos 0 -ℤ pos 0 → pos l *ℤ w ≡ pos 0
times_none l w is = rw is (omega (arith, ints))

times_less : (l : ℕ) (w : ℤ) → w ≡ pos 0 -ℤ pos 1 → pos l *ℤ w ≡ pos 0 -ℤ pos l
times_less l w is = rw is (omega (arith, ints))

times_one : (l : ℕ) (w : ℤ) → w ≡ pos 1 -ℤ pos 0 → pos l *ℤ w ≡ pos l
times_one l w is = rw is (omega (arith, ints))

-- ---- an arc in the rows of round i, from that of i and a on

abbrev round_sum : ℕ → ℕ → ℕ → ℕ → ℕ → List ℕ → ℤ
round_sum i u x a n ls = sum_z (row_brings (u, x)) (zip ls (map (λ j. (i, j)) (range_with_len a n)))

-- nothing of a later round, or of an arc to a later place
sum_late : (i u x a n : ℕ) (ls : List ℕ) → i ≤ u → round_sum i u x a n ls ≡ pos 0
sum_late i u x a n [] late = refl
sum_late i u x a zero (l ∷ ls) late = refl
sum_late i u x a (suc n) (l ∷ ls) late =
    let t = times_none l _ (weight_is i a u x 0 0 (over_late i a u x late) (over_late i i u x late)) in
    omega (arith, ints, t, sum_late i u x (a + 1) n ls late)

sum_before : (i u x a n : ℕ) (ls : List ℕ) → x < i → x < a → round_sum i u x a n ls ≡ pos 0
sum_before i u x a n [] less low = refl
sum_before i u x a zero (l ∷ ls) less low = refl
sum_before i u x a (suc n) (l ∷ ls) less low =
    let t = times_none l _ (weight_is i a u x 0 0 (over_past i a u x low) (over_past i i u x less)) in
    omega (arith, ints, t, sum_before i u x (a + 1) n ls less (omega (arith, low)))

sum_behind : (i u x a n : ℕ) (ls : List ℕ) → i < x → x < a → round_sum i u x a n ls ≡ pos 0
sum_behind i u x a n [] less low = refl
sum_behind i u x a zero (l ∷ ls) less low = refl
sum_behind i u x a (suc n) (l ∷ ls) less low =
    let t = times_none l _ (weight_is i a u x 0 0 (over_past i a u x low) (over_before i i u x less)) in
    omega (arith, ints, t, sum_behind i u x (a + 1) n ls less (omega (arith, low)))

-- an arc to i takes each multiplier away
sum_to : (i u x a n : ℕ) (ls : List ℕ) → u < i → x ≡ i → x < a → length ls ≤ n → round_sum i u x a n ls ≡ pos 0 -ℤ pos (add_up (λ l. l) ls)
sum_to i u x a n [] less is low few = omega (arith, ints)
sum_to i u x a zero (l ∷ ls) less is low few = absurd (omega (arith, few))
sum_to i u x a (suc n) (l ∷ ls) less is low few =
    let t = times_less l _ (weight_is i a u x 0 1 (over_past i a u x low) (over_here i i u x less is)) in
    let h = sum_to i u x (a + 1) n ls less is (omega (arith, low)) (omega (arith, few)) in
    omega (arith, ints, t, h)

-- an arc over i to x takes the multiplier of the row of i and x
sum_over : (i u x a n : ℕ) (ls : List ℕ) → u < i → i < x → a ≤ x → x < a + length ls → length ls ≤ n
    → round_sum i u x a n ls ≡ pos (get_or ls (x - a) 0)
sum_over i u x a n [] less over from within few = absurd (omega (arith, within))
sum_over i u x a zero (l ∷ ls) less over from within few = absurd (omega (arith, few))
sum_over i u x a (suc n) (l ∷ ls) less over from within few = elim (cases_eq x a) [
  | inl is ↦
      let t = times_one l _ (weight_is i a u x 1 0 (over_here i a u x less is) (over_before i i u x over)) in
      let h = sum_behind i u x (a + 1) n ls over (omega (arith, is)) in
      let z : x - a ≡ 0 = omega (arith, is) in
      rw z (omega (arith, ints, t, h))
  | inr differ ↦
      let t = times_none l _ (weight_is i a u x 0 0 (over_before i a u x (omega (arith, differ, from))) (over_before i i u x over)) in
      let h = sum_over i u x (a + 1) n ls less over (omega (arith, differ, from)) (omega (arith, within)) (omega (arith, few)) in
      let z : x - a ≡ suc (x - (a + 1)) = omega (arith, differ, from) in
      rw z (omega (arith, ints, t, h))
]

pub round_none : (i u x : ℕ) (ls : List ℕ) → (i ≤ u) ⊎ (x < i) → round_brings i ls (u, x) ≡ pos 0
round_none i u x ls (inl late) = sum_late i u x (i + 1) (length ls) ls late
round_none i u x ls (inr less) = sum_before i u x (i + 1) (length ls) ls less (omega (arith, less))

pub round_to : (i u x : ℕ) (ls : List ℕ) → u < i → x ≡ i → round_brings i ls (u, x) ≡ pos 0 -ℤ pos (add_up (λ l. l) ls)
round_to i u x ls less is = sum_to i u x (i + 1) (length ls) ls less is (omega (arith, is)) (omega arith)

pub round_over : (i u x : ℕ) (ls : List ℕ) → u < i → i < x → x ≤ i + length ls → round_brings i ls (u, x) ≡ pos (get_or ls (x - i - 1) 0)
round_over i u x ls less over within =
    let e : x - i - 1 ≡ x - (i + 1) = omega arith in
    rw e (sum_over i u x (i + 1) (length ls) ls less over (omega (arith, over)) (omega (arith, within)) (omega arith))

-- ---- how many rows and arcs there are

pub few_rows : (m : ℕ) → m ≤ 40 → arc_total (m - 1) ≤ 780
few_rows m few =
    let n = m - 1 in
    let h : n + 1 ≤ 40 = omega (arith, few) in
    let a = mul-le-mul_left n h in
    omega (arith, a, few)

-- ---- round after round

-- the rows from round i on
abbrev pub rounds_from : ℕ → ℕ → List (ℕ × ℕ)
rounds_from m i = flat_map (λ i. map (λ j. (i, j)) (range_with_len (i + 1) (m - i))) (range_with_len i (m - i))

rounds_next : (m i : ℕ) → i < m → rounds_from m i ≡ round_places i (m - i) ++ rounds_from m (i + 1)
rounds_next m i less =
    let e : m - i ≡ suc (m - (i + 1)) = omega (arith, less) in
    ap (λ n. flat_map (λ i. map (λ j. (i, j)) (range_with_len (i + 1) (m - i))) (range_with_len i n)) e
    ∙ flat_map-cons (λ i. map (λ j. (i, j)) (range_with_len (i + 1) (m - i))) i (range_with_len (i + 1) (m - (i + 1)))

rounds_done : (m i : ℕ) → m ≤ i → rounds_from m i ≡ []
rounds_done m i past =
    let e : m - i ≡ 0 = omega (arith, past) in
    ap (λ n. flat_map (λ i. map (λ j. (i, j)) (range_with_len (i + 1) (m - i))) (range_with_len i n)) e

-- the rows of a round are the next of all
pub round_within : (m i : ℕ) → 1 ≤ i → i < m → arcs_before (m - 1) (i - 1) + (m - i) ≤ arc_total (m - 1)
round_within m i from less =
    let h = arcs_before-mono (m - 1) (i - 1 + 1) (m - 1) (omega (arith, from, less)) in
    let e : i - 1 + 1 ≡ suc (i - 1) = omega (arith, from) in
    let s = ap (arcs_before (m - 1)) e in
    let all = arcs_before-all (m - 1) in
    omega (arith, h, s, all, from, less)

pub first_next : (m i : ℕ) → 1 ≤ i → i < m → arcs_before (m - 1) (i - 1) + (m - i) ≡ arcs_before (m - 1) (i + 1 - 1)
first_next m i from less =
    let e : i + 1 - 1 ≡ suc (i - 1) = omega (arith, from) in
    rw e (omega (arith, from, less))

length_drop : (n : ℕ) (xs : List ℕ) → length (drop n xs) ≡ length xs - n
length_drop zero xs = omega arith
length_drop (suc n) [] = omega arith
length_drop (suc n) (x ∷ xs) = omega (arith, length_drop n xs)

length_take : (n : ℕ) (xs : List ℕ) → n ≤ length xs → length (take n xs) ≡ n
length_take zero xs le = refl
length_take (suc n) [] le = absurd (omega (arith, le))
length_take (suc n) (x ∷ xs) le = omega (arith, length_take n xs (omega (arith, le)))

-- one round more
pub rounds_more : (m i first next : ℕ) (rows round : List ℕ) (a : ℕ × ℕ) (sum step whole : ℤ) → i < m → first + (m - i) ≤ length rows
    → next ≡ first + (m - i) → round ≡ take (m - i) (drop first rows) → step ≡ round_brings i round a
    → sum +ℤ sum_z (row_brings a) (zip (drop first rows) (rounds_from m i)) ≡ whole
    → (sum +ℤ step) +ℤ sum_z (row_brings a) (zip (drop next rows) (rounds_from m (i + 1))) ≡ whole
rounds_more m i first next rows part a sum step whole less fits next_is part_is is so_far =
    let n = m - i in
    let round = round_places i n in
    let left_rows = drop first rows in
    let long : length round ≡ n = length-map (range_with_len (i + 1) n) (λ j. (i, j)) ∙ length-range_with_len (i + 1) n in
    let left : length left_rows ≡ length rows - first = length_drop first rows in
    let s = zip_split (row_brings a) left_rows round (rounds_from m (i + 1)) (omega (arith, long, left, fits)) in
    let s1 = ap (λ (xs : List (ℕ × ℕ)). sum_z (row_brings a) (zip left_rows xs)) (rounds_next m i less) in
    let s2 = ap (λ k. sum_z (row_brings a) (zip (take k left_rows) round)) long in
    let s3 = ap (λ k. sum_z (row_brings a) (zip (drop k left_rows) (rounds_from m (i + 1)))) long in
    let s4 = ap (λ (ls : List ℕ). sum_z (row_brings a) (zip ls (rounds_from m (i + 1)))) (drop_twice first n rows) in
    let s6 = ap (λ k. sum_z (row_brings a) (zip (drop k rows) (rounds_from m (i + 1)))) next_is in
    let t : length (take n left_rows) ≡ n = length_take n left_rows (omega (arith, left, fits)) in
    let s5 = ap (λ k. sum_z (row_brings a) (zip (take n left_rows) (round_places i k))) t in
    let is_all : step ≡ round_brings i (take n left_rows) a = is ∙ ap (λ ls. round_brings i ls a) part_is in
    omega (arith, ints, s, s1, s2, s3, s4, s5, s6, is_all, so_far)

pub rounds_end : (m i first : ℕ) (rows : List ℕ) (a : ℕ × ℕ) (sum whole : ℤ) → m ≤ i
    → sum +ℤ sum_z (row_brings a) (zip (drop first rows) (rounds_from m i)) ≡ whole → sum ≡ whole
rounds_end m i first rows a sum whole past so_far =
    let s1 = ap (λ (xs : List (ℕ × ℕ)). sum_z (row_brings a) (zip (drop first rows) xs)) (rounds_done m i past) in
    let s2 = zip_none (row_brings a) (drop first rows) in
    omega (arith, ints, s1, s2, so_far)

-- where all rounds are counted, all rows are
pub first_end : (m i : ℕ) → 1 ≤ m → m ≤ i → i ≤ m → arcs_before (m - 1) (i - 1) ≡ arc_total (m - 1)
first_end m i some past within =
    let e : i - 1 ≡ m - 1 = omega (arith, past, within) in
    ap (arcs_before (m - 1)) e ∙ arcs_before-all (m - 1)
