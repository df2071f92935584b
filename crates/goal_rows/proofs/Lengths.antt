-- How many candidates pass, and how many rows a goal has; who may stand behind others.
use Rattle.std.proofs.Common.{ℕ, zero, suc, List, [], ◌∷◌, Bool, true, false, ◌≡◌, ◌<◌, ◌≤◌, ◌+◌, ◌-◌, ◌*◌, ◌/◌, ◌∙◌, cond, length, get_or, map, take, ap, sym, refl, inl, inr, arith}
use Rattle.std.specs.Prelude.{◌==◌, not, Contains}
use Rattle.std.proofs.lemmas.Bool.{cases_eq}
use Rattle.std.proofs.lemmas.List.{get_or_default, get_or-take, length-append, length-map, length-take}
use Rattle.ballot_form.specs.Ballots.{AreDistinct}
use Rattle.ballot_form.proofs.Lengths.{length_valid}
use Rattle.irv_count.specs.Orders.{member}
use Rattle.irv_count.proofs.Members.{place_member}
use Rattle.goal_rows.specs.Suffixes.{cover_rows, hold_weight, others, prefer_weight, suffix_rows, those}
use Rattle.goal_rows.proofs.Lists.{is_no_other, is_other, those_suc}

abbrev one : Bool → ℕ
one t = cond t 1 0

-- one candidate more, who passes or not
length_suc : (test : ℕ → Bool) (c : ℕ) → length (those (suc c) test) ≡ length (those c test) + one (test c)
length_suc test c = ap length (those_suc c test) ∙ length-append (those c test) (cond (test c) (c ∷ []) []) ∙ ap (λ n. length (those c test) + n) (by (test c))
  where
    by : (t : Bool) → length (cond t (c ∷ []) []) ≡ one t
    by true = refl
    by false = refl

pub one_more : (test : ℕ → Bool) (c n : ℕ) → n ≡ length (those c test) → test c ≡ true → n + 1 ≡ length (those (c + 1) test)
one_more test c n is passes =
    let e : c + 1 ≡ suc c = omega arith in
    let h = length_suc test c in
    let t : one (test c) ≡ 1 = rw passes refl in
    rw e (omega (arith, h, t, is))

pub one_less : (test : ℕ → Bool) (c n : ℕ) → n ≡ length (those c test) → test c ≡ false → n ≡ length (those (c + 1) test)
one_less test c n is fails =
    let e : c + 1 ≡ suc c = omega arith in
    let h = length_suc test c in
    let t : one (test c) ≡ 0 = rw fails refl in
    rw e (omega (arith, h, t, is))

-- ---- rows

all_others : (c x : ℕ) → c ≤ x → length (others c x) ≡ c
all_others zero x le = refl
all_others (suc c) x le =
    let h = length_suc (λ j. not (j == x)) c in
    let t : one (not (c == x)) ≡ 1 = rw (is_other c x (λ e. omega arith)) refl in
    omega (arith, h, t, all_others c x (omega arith))

one_other_less : (c x : ℕ) → x < c → length (others c x) + 1 ≡ c
one_other_less zero x lt = absurd (omega arith)
one_other_less (suc c) x lt =
    let h = length_suc (λ j. not (j == x)) c in
    elim (cases_eq c x) [
      | inl same ↦
          let t : one (not (c == x)) ≡ 0 = rw (is_no_other c x same) refl in
          omega (arith, h, t, all_others c x (omega arith))
      | inr differ ↦
          let t : one (not (c == x)) ≡ 1 = rw (is_other c x differ) refl in
          omega (arith, h, t, one_other_less c x (omega (arith, differ)))
    ]

pub cover_rows_less : (c x : ℕ) → x < c → c - 1 ≡ length (cover_rows c x)
cover_rows_less c x lt = omega (arith, one_other_less c x lt, length-map (others c x) (prefer_weight x))

pub cover_rows_all : (c x : ℕ) → c ≤ x → c ≡ length (cover_rows c x)
cover_rows_all c x le = omega (arith, all_others c x le, length-map (others c x) (prefer_weight x))

twice_rows : (suffix : List ℕ) → 2 * length (suffix_rows suffix) + length suffix ≡ length suffix * length suffix
twice_rows [] = refl
twice_rows (x ∷ rest) =
    let m = length-append (map (λ y. hold_weight (x ∷ rest) y x) rest) (suffix_rows rest) in
    let n = length-map rest (λ y. hold_weight (x ∷ rest) y x) in
    omega (arith, m, n, twice_rows rest)

pub suffix_rows_count : (suffix : List ℕ) → length suffix * (length suffix - 1) / 2 ≡ length (suffix_rows suffix)
suffix_rows_count suffix = half (length suffix) (length (suffix_rows suffix)) (twice_rows suffix)
  where
    half : (m n : ℕ) → 2 * n + m ≡ m * m → m * (m - 1) / 2 ≡ n
    half zero n e = omega arith
    half (suc m) n e = let d : suc m * (suc m - 1) ≡ 2 * n = (let z : suc m - 1 ≡ m = omega arith in rw z (omega (arith, e))) in rw d (omega arith)

-- ---- a candidate in front

pub new_in_front : (z i : ℕ) (suffix : List ℕ) → AreDistinct suffix → member z suffix ≡ false → i < length suffix → Contains (z ∷ take i suffix) (get_or suffix i 0) → ⊥
new_in_front z i suffix distinct out lt (zero, le, e) =
    let on = place_member suffix i lt in
    let on1 = rw (sym e) at on in
    let d : true ≡ false = sym on1 ∙ out in
    cc
new_in_front z i suffix distinct out lt (suc k, le, e) =
    let n = length-take i suffix in
    let ki : k < i = omega (arith, le, n) in
    let same : get_or (take i suffix) k (get_or suffix i 0) ≡ get_or suffix k (get_or suffix i 0) = get_or-take i suffix k (get_or suffix i 0) ki in
    distinct k i (get_or suffix i 0) ki lt (sym same ∙ e ∙ get_or_default suffix i 0 (get_or suffix i 0) lt)

-- distinct bytes are few
pub few_bytes : (suffix : List ℕ) → AreDistinct suffix → ((k : ℕ) → k < length suffix → get_or suffix k 0 < 256) → length suffix ≤ 256
few_bytes suffix distinct below = length_valid 256 suffix (record { below = λ k d lt. rw (get_or_default suffix k d 0 lt) (below k lt); distinct = distinct })
