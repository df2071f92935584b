-- Sorted classes, and what a permutation keeps.
use Rattle.std.proofs.Common.{◌≡◌, ℕ, suc, ◌+◌, ◌*◌, ◌<◌, ◌≤◌, List, [], ◌∷◌, length, get_or, add-one, sym, ◌∙◌, arith}
use Rattle.std.specs.List.Sorted.{IsPermutation}
use Rattle.std.proofs.lemmas.List.Sorted.{sum_by-IsPermutation}
use Rattle.mov_base.specs.Sums.{add_up}
use Rattle.mov_base.proofs.Sums.{add_up-sum_by}
use Rattle.signature_class.specs.Classes.{IsGrouped}
use Rattle.dual_bound.specs.Largest.{AllAtMost, IsDescending}

-- no class is greater than the one before it
abbrev pub Falls : List (ℕ × ℕ) → Type 0
Falls ps = (k : ℕ) (d : ℕ × ℕ) → k + 1 < length ps → (get_or ps (k + 1) d).0 ≤ (get_or ps k d).0

Falls-tail : (p : ℕ × ℕ) (ps : List (ℕ × ℕ)) → Falls (p ∷ ps) → Falls ps
Falls-tail p ps h k d lt =
    let r = h (suc k) d (omega arith) in
    rw add-one (rw add-one at r)

all_at_most : (g : ℕ) (ps : List (ℕ × ℕ)) → Falls ps → ((d : ℕ × ℕ) → 0 < length ps → (get_or ps 0 d).0 ≤ g) → AllAtMost g ps
all_at_most g [] h first = tt
all_at_most g (p ∷ ps) h first =
    let le : p.0 ≤ g = first p (omega arith) in
    (le, all_at_most g ps (Falls-tail p ps h) (λ d some. let r = h 0 d (omega arith) in omega arith))

pub descending_from : (ps : List (ℕ × ℕ)) → Falls ps → IsDescending ps
descending_from [] h = tt
descending_from (p ∷ ps) h =
    (all_at_most p.0 ps (Falls-tail p ps h) (λ d some. let r = h 0 d (omega arith) in omega arith), descending_from ps (Falls-tail p ps h))

pub add_up-permutation : {A : Type 0} (f : A → ℕ) (xs ys : List A) → IsPermutation xs ys → add_up f ys ≡ add_up f xs
add_up-permutation f xs ys h = add_up-sum_by f ys ∙ sum_by-IsPermutation f xs ys h ∙ sym (add_up-sum_by f xs)

pub IsGrouped-permutation : (xs : List ℕ) (ps qs : List (ℕ × ℕ)) → IsPermutation ps qs → IsGrouped xs ps → IsGrouped xs qs
IsGrouped-permutation xs ps qs h g f = g f ∙ sym (add_up-permutation (λ (p : ℕ × ℕ). p.1 * f p.0) ps qs h)
