-- What the candidate at each place holds, class by class.
use Rattle.std.proofs.Common.{ℕ, zero, suc, List, true, false, Some, None, ◌≡◌, ◌<◌, ◌≤◌, ◌+◌, ◌∙◌, length, get_or, set, replicate, take, ap, sym, refl, inl, inr, arith, get_or-set_other, get_or-set_same}
use Rattle.std.proofs.lemmas.Bool.{cases_eq}
use Rattle.mov_base.specs.Sums.{add_up}
use Rattle.ballot_form.specs.Scores.{is_some_of}
use Rattle.irv_count.proofs.Members.{differ_test, same_test}
use Rattle.goal_rows.specs.KeyCounts.{counted_by, first_bit, is_held}
use Rattle.goal_rows.proofs.ClassCounts.{class_fails, class_passes, counts_more, counts_same}

pub zeros : (n j : ℕ) → get_or {A = ℕ} (replicate {A = ℕ} n 0) j 0 ≡ 0
zeros zero j = refl
zeros (suc n) zero = refl
zeros (suc n) (suc j) = zeros n j

-- a class more, whose ballots the candidate at a place holds
pub held_more : (i k key n at : ℕ) (classes : List (ℕ × ℕ)) (held : List ℕ) → k < length classes → key ≡ (get_or classes k (0, 0)).0 → n ≡ (get_or classes k (0, 0)).1
    → Some at ≡ first_bit i key → at < length held → ((j : ℕ) → j < 40 → get_or held j 0 ≡ counted_by (is_held i j) (take k classes))
    → (j : ℕ) → j < 40 → get_or (set held at (get_or held at 0 + n)) j 0 ≡ counted_by (is_held i j) (take (k + 1) classes)
held_more i k key n at classes held lt key_is n_is first within so_far j low = elim (cases_eq j at) [
  | inl same ↦
      let on : is_held i j key ≡ true = ap (λ o. is_some_of o j) (sym first) ∙ same_test at j (sym same) in
      let here = class_passes (is_held i j) classes k key n (get_or held j 0) lt key_is n_is on (so_far j low) in
      let moved : get_or (set held at (get_or held at 0 + n)) at 0 ≡ get_or held at 0 + n = rw get_or-set_same refl in
      ap (λ l. get_or (set held at (get_or held at 0 + n)) l 0) same ∙ moved ∙ ap (λ l. get_or held l 0 + n) (sym same) ∙ here
  | inr differ ↦
      let off : is_held i j key ≡ false = ap (λ o. is_some_of o j) (sym first) ∙ differ_test at j (λ e. differ (sym e)) in
      rw get_or-set_other (class_fails (is_held i j) classes k key (get_or held j 0) lt key_is off (so_far j low))
]

pub few_more : (k n at : ℕ) (classes : List (ℕ × ℕ)) (held : List ℕ) → k < length classes → n ≡ (get_or classes k (0, 0)).1 → at < length held
    → ((j : ℕ) → get_or held j 0 ≤ add_up (λ c. c.1) (take k classes)) → (j : ℕ) → get_or (set held at (get_or held at 0 + n)) j 0 ≤ add_up (λ c. c.1) (take (k + 1) classes)
few_more k n at classes held lt n_is within so_far j = elim (cases_eq j at) [
  | inl same ↦
      let more = counts_more classes k n (get_or held at 0) lt n_is (so_far at) in
      let moved : get_or (set held at (get_or held at 0 + n)) at 0 ≡ get_or held at 0 + n = rw get_or-set_same refl in
      let e = ap (λ l. get_or (set held at (get_or held at 0 + n)) l 0) same in
      omega (arith, e, moved, more)
  | inr differ ↦ rw get_or-set_other (counts_same classes k (get_or held j 0) lt (so_far j))
]

-- a class more, whose ballots nobody holds
pub held_by_none : (i k key : ℕ) (classes : List (ℕ × ℕ)) (held : List ℕ) → k < length classes → key ≡ (get_or classes k (0, 0)).0 → None ≡ first_bit i key
    → ((j : ℕ) → j < 40 → get_or held j 0 ≡ counted_by (is_held i j) (take k classes)) → (j : ℕ) → j < 40 → get_or held j 0 ≡ counted_by (is_held i j) (take (k + 1) classes)
held_by_none i k key classes held lt key_is first so_far j low =
    class_fails (is_held i j) classes k key (get_or held j 0) lt key_is (ap (λ o. is_some_of o j) (sym first)) (so_far j low)
