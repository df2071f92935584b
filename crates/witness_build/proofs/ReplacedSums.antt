-- What the lowest ballots of each class count, where all that are wanted are there.
use Rattle.std.proofs.Common.{ℕ, zero, suc, List, [], ◌∷◌, Bool, ◌≡◌, ◌≢◌, ◌<◌, ◌≤◌, ◌+◌, ◌-◌, ◌*◌, ◌∙◌, cond, length, get_or, map, ap, sym, refl, subst, inl, inr, arith, All}
use Rattle.std.specs.Prelude.{◌==◌, AllPairs, ℤ, pos, ◌+ℤ◌, ◌-ℤ◌, ◌*ℤ◌}
use Rattle.std.specs.List.{zip}
use Rattle.std.proofs.lemmas.Bool.{cases_eq, cases_lt, lt-ltb, le-ltb}
use Rattle.std.proofs.lemmas.Int.{ints}
use Rattle.std.proofs.lemmas.List.{length-map}
use Rattle.std.proofs.lemmas.List.Sums.{sum_by-cons}
use Rattle.irv_count.proofs.Members.{differ_test, same_test}
use Rattle.mov_base.specs.Sums.{add_up, sum_z}
use Rattle.ballot_form.specs.Alterations.{IsAlterationFrom}
use Rattle.ballot_form.specs.Ballots.{IsValidBallot}
use Rattle.signature_class.specs.Classes.{AreClasses, keys_of}
use Rattle.goal_rows.specs.Nodes.{swaps_from}
use Rattle.dual_bound.specs.Weighing.{times_all}
use Rattle.node_bounds.proofs.RestRows.{AreWithin}
use Rattle.witness_build.specs.FromPoints.{number_for, times_seen}
use Rattle.witness_build.proofs.LowNumbers.{low_by, none_for, taken_from, taken_none}

-- ---- each class once

-- no class has the key
abbrev pub IsAbsent : ℕ → List (ℕ × ℕ) → Type 0
IsAbsent key [] = Unit {0}
IsAbsent key (c ∷ cs) = (c.0 ≢ key) × IsAbsent key cs

-- each class has a key of its own
abbrev pub AreApart : List (ℕ × ℕ) → Type 0
AreApart [] = Unit {0}
AreApart (c ∷ cs) = IsAbsent c.0 cs × AreApart cs

absent_from : (key : ℕ) (cs : List (ℕ × ℕ)) → ((k d : ℕ) → k < length (keys_of cs) → get_or (keys_of cs) k d ≢ key) → IsAbsent key cs
absent_from key [] none = tt
absent_from key (c ∷ cs) none = (none 0 0 (omega arith), absent_from key cs (λ k d lt. none (suc k) d (omega (arith, lt))))

pub apart_from : (cs : List (ℕ × ℕ)) → AllPairs (λ k l. k ≢ l) (keys_of cs) → AreApart cs
apart_from [] distinct = tt
apart_from (c ∷ cs) distinct = (
  absent_from c.0 cs (λ k d lt e. distinct 0 (suc k) d (omega arith) (omega (arith, lt)) (sym e)),
  apart_from cs (λ i j d lt within. distinct (suc i) (suc j) d (omega (arith, lt)) (omega (arith, within))),
)

-- ---- as many as are left are there

abbrev pub AreEnough : List (ℕ × ℕ) → List ℕ → List ℕ → Type 0
AreEnough [] xs keys = Unit {0}
AreEnough (c ∷ cs) [] keys = Unit {0}
AreEnough (c ∷ cs) (x ∷ xs) keys = (x ≤ times_seen c.0 keys) × AreEnough cs xs keys

seen_first : (key other : ℕ) (keys : List ℕ) → times_seen key (other ∷ keys) ≡ cond (other == key) 1 0 + times_seen key keys
seen_first key other keys = sum_by-cons (λ k. cond (k == key) 1 0) other keys

seen_own : (key other : ℕ) (keys : List ℕ) → other ≡ key → times_seen key (other ∷ keys) ≡ 1 + times_seen key keys
seen_own key other keys same = seen_first key other keys ∙ ap (λ b. cond b 1 0 + times_seen key keys) (same_test other key same)

seen_other : (key other : ℕ) (keys : List ℕ) → other ≢ key → times_seen key (other ∷ keys) ≡ 0 + times_seen key keys
seen_other key other keys differ = seen_first key other keys ∙ ap (λ b. cond b 1 0 + times_seen key keys) (differ_test other key differ)

enough_absent : (cs : List (ℕ × ℕ)) (xs keys : List ℕ) (key : ℕ) → IsAbsent key cs → AreEnough cs xs (key ∷ keys) → AreEnough cs xs keys
enough_absent [] xs keys key absent enough = tt
enough_absent (c ∷ cs) [] keys key absent enough = tt
enough_absent (c ∷ cs) (x ∷ xs) keys key absent enough =
    let same = seen_other c.0 key keys (λ e. absent.0 (sym e)) in
    (omega (arith, same, enough.0), enough_absent cs xs keys key absent.1 enough.1)

enough_next : (cs : List (ℕ × ℕ)) (xs keys : List ℕ) (key : ℕ) → AreApart cs → AreEnough cs xs (key ∷ keys) → AreEnough cs (taken_from cs xs key 1) keys
enough_next [] xs keys key apart enough = tt
enough_next (c ∷ cs) [] keys key apart enough = tt
enough_next (c ∷ cs) (x ∷ xs) keys key apart enough = elim (cases_eq c.0 key) [
  | inl same ↦
      let one = seen_own c.0 key keys (sym same) in
      rw (same_test c.0 key same) (omega (arith, one, enough.0), enough_absent cs xs keys key (subst (λ k. IsAbsent k cs) same apart.0) enough.1)
  | inr differ ↦
      let kept = seen_other c.0 key keys (λ e. differ (sym e)) in
      rw (differ_test c.0 key differ) (omega (arith, kept, enough.0), enough_next cs xs keys key apart.1 enough.1)
]

-- ---- the counts of classes

own_sum : (key : ℕ) (cs : List (ℕ × ℕ)) → IsAbsent key cs → add_up (λ d. d.1 * cond (d.0 == key) 1 0) cs ≡ 0
own_sum key [] absent = refl
own_sum key (c ∷ cs) absent =
    let rest = own_sum key cs absent.1 in
    let test = differ_test c.0 key absent.0 in
    rw test (omega (arith, rest))

counts_in : (cs : List (ℕ × ℕ)) (p : ℕ) → AreApart cs → p < length cs
    → add_up (λ d. d.1 * cond (d.0 == (get_or cs p (0, 0)).0) 1 0) cs ≡ (get_or cs p (0, 0)).1
counts_in [] p apart within = absurd (omega (arith, within))
counts_in (c ∷ cs) zero apart within =
    let rest = own_sum c.0 cs apart.0 in
    let test = same_test c.0 c.0 refl in
    rw test (omega (arith, rest))
counts_in (c ∷ cs) (suc p) apart within =
    let rest = counts_in cs p apart.1 (omega (arith, within)) in
    let test = differ_test c.0 (get_or cs p (0, 0)).0 (λ e. absent_at cs p c.0 apart.0 (omega (arith, within)) (sym e)) in
    rw test (omega (arith, rest))
  where
    absent_at : (cs : List (ℕ × ℕ)) (p key : ℕ) → IsAbsent key cs → p < length cs → (get_or cs p (0, 0)).0 ≢ key
    absent_at [] p key absent within = absurd (omega (arith, within))
    absent_at (c ∷ cs) zero key absent within = absent.0
    absent_at (c ∷ cs) (suc p) key absent within = absent_at cs p key absent.1 (omega (arith, within))

seen_sum : (key : ℕ) (keys : List ℕ) → times_seen key keys ≡ add_up (λ k. cond (k == key) 1 0) keys
seen_sum key [] = refl
seen_sum key (k ∷ keys) = seen_first key k keys ∙ ap (λ n. cond (k == key) 1 0 + n) (seen_sum key keys)

enough_at : (cs : List (ℕ × ℕ)) (xs keys : List ℕ) → AreWithin 1 cs xs
    → ((p : ℕ) → p < length cs → times_seen (get_or cs p (0, 0)).0 keys ≡ (get_or cs p (0, 0)).1) → AreEnough cs xs keys
enough_at [] xs keys within counts = tt
enough_at (c ∷ cs) [] keys within counts = tt
enough_at (c ∷ cs) (x ∷ xs) keys within counts =
    let here = counts 0 (omega arith) in
    let most = within.0 in
    (omega (arith, here, most), enough_at cs xs keys within.1 (λ p lt. counts (suc p) (omega (arith, lt))))

-- no more than each class has are wanted
pub enough_of : (cs : List (ℕ × ℕ)) (xs keys : List ℕ) → AreClasses keys cs → AreWithin 1 cs xs → AreEnough cs xs keys
enough_of cs xs keys are within = enough_at cs xs keys within (λ p lt.
    let key = (get_or cs p (0, 0)).0 in
    seen_sum key keys ∙ are.counted (λ k. cond (k == key) 1 0) ∙ counts_in cs p (apart_from cs are.distinct) lt)

-- ---- sums

none_left : (g : ℕ × ℕ → ℤ) (cs : List (ℕ × ℕ)) (xs : List ℕ) → AreEnough cs xs [] → times_all xs (map g cs) ≡ pos 0
none_left g [] [] enough = refl
none_left g [] (x ∷ xs) enough = refl
none_left g (c ∷ cs) [] enough = refl
none_left g (c ∷ cs) (x ∷ xs) enough =
    let none : x ≡ 0 = omega (arith, enough.0) in
    let rest = none_left g cs xs enough.1 in
    rw none (omega (arith, ints, rest))

one_time_more : (x : ℕ) (z : ℤ) → 0 < x → pos x *ℤ z ≡ (pos (x - 1) *ℤ z) +ℤ z
one_time_more zero z some = absurd (omega (arith, some))
one_time_more (suc n) z some = let e : suc n - 1 ≡ n = omega arith in rw e (omega (arith, ints))

-- one less of a class
one_taken : (f : ℕ → ℤ) (cs : List (ℕ × ℕ)) (xs : List ℕ) (key : ℕ) → 0 < number_for cs xs key
    → times_all xs (map (λ c. f c.0) cs) ≡ times_all (taken_from cs xs key 1) (map (λ c. f c.0) cs) +ℤ f key
one_taken f [] xs key some = absurd (omega (arith, some))
one_taken f (c ∷ cs) [] key some = absurd (omega (arith, none_for (c ∷ cs) key, some))
one_taken f (c ∷ cs) (x ∷ xs) key some = elim (cases_eq c.0 key) [
  | inl same ↦
      let more : 0 < x = rw (same_test c.0 key same) at some in
      let time = one_time_more x (f c.0) more in
      let value = ap f same in
      rw (same_test c.0 key same) (omega (arith, ints, time, value))
  | inr differ ↦
      let later : 0 < number_for cs xs key = rw (differ_test c.0 key differ) at some in
      let rest = one_taken f cs xs key later in
      rw (differ_test c.0 key differ) (omega (arith, ints, rest))
]

-- ---- the numbers ascend

-- numbers from i to n, ascending
abbrev pub AreNumbersFrom : ℕ → ℕ → List ℕ → Type 0
AreNumbersFrom i n [] = Unit {0}
AreNumbersFrom i n (k ∷ ks) = (i ≤ k) × (k ≤ n) × AreNumbersFrom (k + 1) n ks

from_lower : (i j n : ℕ) (ks : List ℕ) → i ≤ j → AreNumbersFrom j n ks → AreNumbersFrom i n ks
from_lower i j n [] le are = tt
from_lower i j n (k ∷ ks) le are = (omega (arith, le, are.0), are.1, are.2)

pub low_ascends : (cs : List (ℕ × ℕ)) (xs : List ℕ) (i n : ℕ) (keys : List ℕ) → i + length keys ≡ n + 1 → AreNumbersFrom i n (low_by cs xs i keys)
low_ascends cs xs i n [] end = tt
low_ascends cs xs i n (key ∷ keys) end =
    let rest = low_ascends cs (taken_from cs xs key 1) (i + 1) n keys (omega (arith, end)) in
    elim (cases_lt 0 (number_for cs xs key)) [
      | inl some ↦ rw (lt-ltb 0 (number_for cs xs key) some) (omega arith, omega (arith, end), rest)
      | inr none ↦ rw (le-ltb 0 (number_for cs xs key) none) (from_lower i (i + 1) n (low_by cs (taken_from cs xs key 1) (i + 1) keys) (omega arith) rest)
    ]

-- the first change isn't of a ballot before it
skipped : (i n : ℕ) (ballot : List ℕ) (ballots : List (List ℕ)) (ks : List ℕ) (news : List (List ℕ)) → AreNumbersFrom (i + 1) n ks
    → swaps_from i (ballot ∷ ballots) (zip ks news) ≡ swaps_from (i + 1) ballots (zip ks news)
skipped i n ballot [] [] news are = refl
skipped i n ballot (b ∷ bs) [] news are = refl
skipped i n ballot [] (k ∷ ks) [] are = refl
skipped i n ballot (b ∷ bs) (k ∷ ks) [] are = refl
skipped i n ballot ballots (k ∷ ks) (new ∷ news) are =
    let test = differ_test k i (λ e. omega (arith, e, are.0)) in
    rw test refl

-- ---- what the replacements bring

-- the new ballots less the old ones
abbrev pub swaps_sum : (List ℕ → ℤ) → ℕ → List (List ℕ) → List ℕ → List (List ℕ) → ℤ
swaps_sum w i ballots numbers news = sum_z (λ s. w s.1 -ℤ w s.0) (swaps_from i ballots (zip numbers news))

worth_taken : (w : List ℕ → ℤ) (i : ℕ) (ballot : List ℕ) (ballots : List (List ℕ)) (numbers : List ℕ) (new : List ℕ) (news : List (List ℕ))
    → swaps_sum w i (ballot ∷ ballots) (i ∷ numbers) (new ∷ news) ≡ (w new -ℤ w ballot) +ℤ swaps_sum w (i + 1) ballots numbers news
worth_taken w i ballot ballots numbers new news = let test = same_test i i refl in rw test refl

-- where the first ballot is replaced
worth_low : (w : List ℕ → ℤ) (i : ℕ) (ballot : List ℕ) (ballots : List (List ℕ)) (numbers : List ℕ) (news : List (List ℕ)) (value before after : ℤ)
    → ((news : List (List ℕ)) → length news ≡ length numbers → swaps_sum w (i + 1) ballots numbers news ≡ sum_z w news -ℤ after)
    → w ballot ≡ value → before ≡ after +ℤ value → length news ≡ length (i ∷ numbers)
    → swaps_sum w i (ballot ∷ ballots) (i ∷ numbers) news ≡ sum_z w news -ℤ before
worth_low w i ballot ballots numbers [] value before after later own more long = absurd (omega (arith, long))
worth_low w i ballot ballots numbers (new ∷ news) value before after later own more long =
    let rest = later news (omega (arith, long)) in
    let first = worth_taken w i ballot ballots numbers new news in
    omega (arith, ints, rest, first, own, more)

-- the new ballots less the old ones, which are worth what their keys are
pub swaps_worth : (key : List ℕ → ℕ) (w : List ℕ → ℤ) (f : ℕ → ℤ) (cs : List (ℕ × ℕ)) (xs : List ℕ) (i : ℕ) (ballots news : List (List ℕ))
    → ((ballot : List ℕ) → w ballot ≡ f (key ballot)) → AreApart cs → AreEnough cs xs (map key ballots)
    → length news ≡ length (low_by cs xs i (map key ballots))
    → swaps_sum w i ballots (low_by cs xs i (map key ballots)) news ≡ sum_z w news -ℤ times_all xs (map (λ c. f c.0) cs)
swaps_worth key w f cs xs i [] [] own apart enough long =
    let none = none_left (λ c. f c.0) cs xs enough in omega (arith, ints, none)
swaps_worth key w f cs xs i [] (new ∷ news) own apart enough long = absurd (omega (arith, long))
swaps_worth key w f cs xs i (ballot ∷ ballots) news own apart enough long =
    let k = key ballot in
    let ys = taken_from cs xs k 1 in
    let numbers = low_by cs ys (i + 1) (map key ballots) in
    let ws = map (λ (c : ℕ × ℕ). f c.0) cs in
    let P = λ (b : Bool). length news ≡ length (cond b (i ∷ numbers) numbers)
    → swaps_sum w i (ballot ∷ ballots) (cond b (i ∷ numbers) numbers) news ≡ sum_z w news -ℤ times_all xs ws in
    let later = λ (news : List (List ℕ)) (long : length news ≡ length numbers).
    swaps_worth key w f cs ys (i + 1) ballots news own apart (enough_next cs xs (map key ballots) k apart enough) long in
    elim (cases_lt 0 (number_for cs xs k)) [
      | inl some ↦ subst P (sym (lt-ltb 0 (number_for cs xs k) some))
          (worth_low w i ballot ballots numbers news (f k) (times_all xs ws) (times_all ys ws) later (own ballot) (one_taken f cs xs k some)) long
      | inr none ↦ subst P (sym (le-ltb 0 (number_for cs xs k) none))
          (λ long.
          let same = taken_none cs xs k 1 (omega (arith, none)) in
          ap (sum_z (λ (s : List ℕ × List ℕ). w s.1 -ℤ w s.0)) (skipped i (i + length ballots) ballot ballots numbers news
          (low_ascends cs ys (i + 1) (i + length ballots) (map key ballots) (omega (arith, length-map ballots key))))
          ∙ later news long ∙ ap (λ zs. sum_z w news -ℤ times_all zs ws) same) long
    ]

-- ---- how many there are

one_fewer : (cs : List (ℕ × ℕ)) (xs : List ℕ) (key : ℕ) → 0 < number_for cs xs key → add_up (λ x. x) xs ≡ add_up (λ x. x) (taken_from cs xs key 1) + 1
one_fewer [] xs key some = absurd (omega (arith, some))
one_fewer (c ∷ cs) [] key some = absurd (omega (arith, none_for (c ∷ cs) key, some))
one_fewer (c ∷ cs) (x ∷ xs) key some = elim (cases_eq c.0 key) [
  | inl same ↦
      let more : 0 < x = rw (same_test c.0 key same) at some in
      rw (same_test c.0 key same) (omega (arith, more))
  | inr differ ↦
      let later : 0 < number_for cs xs key = rw (differ_test c.0 key differ) at some in
      let rest = one_fewer cs xs key later in
      rw (differ_test c.0 key differ) (omega (arith, rest))
]

all_taken : (cs : List (ℕ × ℕ)) (xs : List ℕ) → length xs ≡ length cs → AreEnough cs xs [] → add_up (λ x. x) xs ≡ 0
all_taken [] [] long enough = refl
all_taken [] (x ∷ xs) long enough = absurd (omega (arith, long))
all_taken (c ∷ cs) [] long enough = refl
all_taken (c ∷ cs) (x ∷ xs) long enough = let rest = all_taken cs xs (omega (arith, long)) enough.1 in omega (arith, rest, enough.0)

length-taken : (cs : List (ℕ × ℕ)) (xs : List ℕ) (key n : ℕ) → length (taken_from cs xs key n) ≡ length xs
length-taken [] xs key n = refl
length-taken (c ∷ cs) [] key n = refl
length-taken (c ∷ cs) (x ∷ xs) key n = elim (cases_eq c.0 key) [
  | inl same ↦ rw (same_test c.0 key same) refl
  | inr differ ↦ rw (differ_test c.0 key differ) (ap suc (length-taken cs xs key n))
]

-- as many numbers as are wanted of all classes together
pub low_count : (cs : List (ℕ × ℕ)) (xs : List ℕ) (i : ℕ) (keys : List ℕ) → length xs ≡ length cs → AreApart cs → AreEnough cs xs keys
    → length (low_by cs xs i keys) ≡ add_up (λ x. x) xs
low_count cs xs i [] long apart enough = sym (all_taken cs xs long enough)
low_count cs xs i (key ∷ keys) long apart enough =
    let ys = taken_from cs xs key 1 in
    let numbers = low_by cs ys (i + 1) keys in
    let rest = low_count cs ys (i + 1) keys (length-taken cs xs key 1 ∙ long) apart (enough_next cs xs keys key apart enough) in
    elim (cases_lt 0 (number_for cs xs key)) [
      | inl some ↦ let fewer = one_fewer cs xs key some in rw (lt-ltb 0 (number_for cs xs key) some) (omega (arith, rest, fewer))
      | inr none ↦ rw (le-ltb 0 (number_for cs xs key) none) (rest ∙ ap (add_up (λ x. x)) (taken_none cs xs key 1 (omega (arith, none))))
    ]

-- ---- they are an alteration

pub numbers_alter : (c i n : ℕ) (ks : List ℕ) (news : List (List ℕ)) → AreNumbersFrom i n ks → All (IsValidBallot c) news → IsAlterationFrom c i n (zip ks news)
numbers_alter c i n [] news are valid = tt
numbers_alter c i n (k ∷ ks) [] are valid = tt
numbers_alter c i n (k ∷ ks) (new ∷ news) are valid =
    (are.0, are.1, valid 0 new (omega arith), numbers_alter c (k + 1) n ks news are.2 (λ j d lt. valid (suc j) d (omega (arith, lt))))
