-- A table of how many have each key, from the classes in turn.
use Rattle.std.proofs.Common.{ℕ, zero, suc, Bool, true, false, cond, List, [], ◌∷◌, ◌≡◌, ◌≢◌, ◌<◌, ◌≤◌, ◌==◌, ◌+◌, ◌*◌, take, length, get_or, set, get_or-set_same, get_or-set_other, inl, inr, arith}
use Rattle.std.proofs.lemmas.Bool.{cases_eq}
use Rattle.std.proofs.lemmas.Bool.Decides.{nat_tests}
use Rattle.std.proofs.lemmas.List.{take_more}
use Rattle.mov_base.specs.Sums.{add_up}
use Rattle.mov_base.proofs.Sums.{add_up-append}
use Rattle.witness_build.specs.Levels.{equals, of_key}

one_le : (t : Bool) (n : ℕ) → n * cond t 1 0 ≤ n
one_le true n = omega arith
one_le false n = omega arith

of_key_le : (k : ℕ) (classes : List (ℕ × ℕ)) → add_up (of_key k) classes ≤ add_up (λ c. c.1) classes
of_key_le k [] = omega arith
of_key_le k (c ∷ cs) = omega (arith, one_le (c.0 == k) c.1, of_key_le k cs)

part_le : (k i : ℕ) (classes : List (ℕ × ℕ)) → add_up (of_key k) (take i classes) ≤ add_up (of_key k) classes
part_le k zero [] = omega arith
part_le k (suc i) [] = omega arith
part_le k zero (c ∷ cs) = omega arith
part_le k (suc i) (c ∷ cs) = omega (arith, part_le k i cs)

key_more : (k i : ℕ) (classes : List (ℕ × ℕ)) → i < length classes
    → add_up (of_key k) (take (i + 1) classes) ≡ add_up (of_key k) (take i classes) + of_key k (get_or classes i (0, 0))
key_more k i classes lt =
    let j = add_up-append (of_key k) (take i classes) (get_or classes i (0, 0) ∷ []) in
    rw (take_more classes i (0, 0) lt) (omega (arith, j))

own_key : (k key n : ℕ) → k ≡ key → n * equals k key ≡ n
own_key k key n e = let t : (key == k) ≡ true = grind (arith, nat_tests) in rw t (omega arith)

other_key : (k key n : ℕ) → k ≢ key → n * equals k key ≡ 0
other_key k key n ne = let t : (key == k) ≡ false = grind (arith, nat_tests) in rw t (omega arith)

class_own : (k : ℕ) (class : ℕ × ℕ) → k ≡ class.0 → of_key k class ≡ class.1
class_own k class e = own_key k class.0 class.1 e

class_other : (k : ℕ) (class : ℕ × ℕ) → k ≢ class.0 → of_key k class ≡ 0
class_other k class ne = other_key k class.0 class.1 ne

-- the table so far
abbrev pub IsTabled : ℕ → ℕ → List (ℕ × ℕ) → List ℕ → Type 0
IsTabled end i classes counts = (k : ℕ) → k < end → get_or counts k 0 ≡ add_up (of_key k) (take i classes)

pub tabled_sum : (end i key n : ℕ) (classes : List (ℕ × ℕ)) (counts : List ℕ) → i < length classes → key ≡ (get_or classes i (0, 0)).0 → n ≡ (get_or classes i (0, 0)).1
    → key < end → IsTabled end i classes counts → get_or counts key 0 + n ≡ add_up (of_key key) (take (i + 1) classes)
tabled_sum end i key n classes counts lt key_is n_is below are =
    omega (arith, key_more key i classes lt, class_own key (get_or classes i (0, 0)) key_is, are key below, n_is)

pub tabled_few : (end i key n : ℕ) (classes : List (ℕ × ℕ)) (counts : List ℕ) → i < length classes → key ≡ (get_or classes i (0, 0)).0 → n ≡ (get_or classes i (0, 0)).1
    → key < end → IsTabled end i classes counts → get_or counts key 0 + n ≤ add_up (λ c. c.1) classes
tabled_few end i key n classes counts lt key_is n_is below are =
    omega (arith, tabled_sum end i key n classes counts lt key_is n_is below are, part_le key (i + 1) classes, of_key_le key classes)

pub tabled_more : (end i key n : ℕ) (classes : List (ℕ × ℕ)) (counts : List ℕ) → i < length classes → key ≡ (get_or classes i (0, 0)).0 → n ≡ (get_or classes i (0, 0)).1
    → key < end → length counts ≡ end → IsTabled end i classes counts → IsTabled end (i + 1) classes (set counts key (get_or counts key 0 + n))
tabled_more end i key n classes counts lt key_is n_is below size are k within = elim (cases_eq k key) [
  | inl same ↦
      let inner : key < length counts = omega arith in
      rw (same, get_or-set_same) (tabled_sum end i key n classes counts lt key_is n_is below are)
  | inr differ ↦
      let ne : k ≢ key = differ in
      rw (get_or-set_other) (omega (arith, key_more k i classes lt, class_other k (get_or classes i (0, 0)) (λ e. differ (omega (arith, e, key_is))), are k within))
]

pub tabled_passed : (end i key : ℕ) (classes : List (ℕ × ℕ)) (counts : List ℕ) → i < length classes → key ≡ (get_or classes i (0, 0)).0
    → end ≤ key → IsTabled end i classes counts → IsTabled end (i + 1) classes counts
tabled_passed end i key classes counts lt key_is past are k within =
    omega (arith, key_more k i classes lt, class_other k (get_or classes i (0, 0)) (λ e. omega (arith, e, key_is, past, within)), are k within)
