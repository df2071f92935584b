-- The classes of the first kinds, and of one kind more.
use Rattle.std.proofs.Common.{ℕ, zero, suc, List, [], ◌∷◌, ◌≡◌, ◌<◌, ◌≤◌, ◌+◌, take, length, get_or, refl, arith}
use Rattle.std.specs.Prelude.{nat_eq}
use Rattle.std.proofs.lemmas.List.{take_more, map-append}
use Rattle.ballot_form.specs.declared.limits.TheConstants.{MOST_BALLOTS}
use Rattle.mov_base.specs.Sums.{add_up}
use Rattle.mov_base.proofs.Sums.{add_up-append}
use Rattle.signature_class.specs.Classes.{add_class, classes_by, count_of}
use Rattle.signature_class.proofs.Counts.{add_all-append, count_le, regrouped, sum-times_one, sum_add}

-- one kind more
pub classes_more : (key : List ℕ → ℕ) (i : ℕ) (kinds : List (List ℕ × ℕ)) (row : List ℕ) (n k : ℕ) (classes : List (ℕ × ℕ))
    → i < length kinds
    → row ≡ (get_or kinds i ([], 0)).0 → n ≡ (get_or kinds i ([], 0)).1 → k ≡ key row
    → classes ≡ classes_by key (take i kinds) → add_class nat_eq k n classes ≡ classes_by key (take (i + 1) kinds)
classes_more key i kinds row n k classes lt row_is n_is key_is is =
    let one : List ℕ × ℕ → ℕ × ℕ = λ z. (key z.0, z.1) in
    rw (
      take_more kinds i ([], 0) lt,
      map-append one (take i kinds) (get_or kinds i ([], 0) ∷ []),
      add_all-append nat_eq [] (regrouped key (take i kinds)) (one (get_or kinds i ([], 0)) ∷ []),
      ← is,
      key_is,
      row_is,
      n_is,
    ) refl

-- how many ballots the first kinds have
kinds_more : (i : ℕ) (kinds : List (List ℕ × ℕ)) (n : ℕ) → i < length kinds → n ≡ (get_or kinds i ([], 0)).1
    → add_up (λ k. k.1) (take (i + 1) kinds) ≡ add_up (λ k. k.1) (take i kinds) + n
kinds_more i kinds n lt n_is =
    let j = add_up-append (λ (k : List ℕ × ℕ). k.1) (take i kinds) (get_or kinds i ([], 0) ∷ []) in
    rw (take_more kinds i ([], 0) lt) (omega (arith, j, n_is))

first_fewer : (kinds : List (List ℕ × ℕ)) (i : ℕ) → add_up (λ k. k.1) (take i kinds) ≤ add_up (λ k. k.1) kinds
first_fewer [] zero = omega arith
first_fewer [] (suc i) = omega arith
first_fewer (k ∷ kinds) zero = omega arith
first_fewer (k ∷ kinds) (suc i) = omega (arith, first_fewer kinds i)

-- the classes have as many ballots as the kinds
pub counted_more : (i : ℕ) (kinds : List (List ℕ × ℕ)) (n k : ℕ) (classes : List (ℕ × ℕ)) → i < length kinds
    → n ≡ (get_or kinds i ([], 0)).1
    → add_up (λ c. c.1) classes ≡ add_up (λ k. k.1) (take i kinds)
    → add_up (λ c. c.1) (add_class nat_eq k n classes) ≡ add_up (λ k. k.1) (take (i + 1) kinds)
counted_more i kinds n k classes lt n_is is = omega (arith, sum_add nat_eq k n classes, kinds_more i kinds n lt n_is, is)

-- so each class has room for those of the next kind
pub room_of_kind : (i : ℕ) (kinds : List (List ℕ × ℕ)) (n k : ℕ) (classes : List (ℕ × ℕ)) → i < length kinds
    → n ≡ (get_or kinds i ([], 0)).1
    → add_up (λ c. c.1) classes ≡ add_up (λ k. k.1) (take i kinds) → add_up (λ k. k.1) kinds ≤ MOST_BALLOTS
    → count_of nat_eq k classes + n ≤ MOST_BALLOTS
room_of_kind i kinds n k classes lt n_is is few =
    let a = count_le nat_eq k classes in
    omega (arith, a, sum-times_one classes, kinds_more i kinds n lt n_is, first_fewer kinds (i + 1), is)
