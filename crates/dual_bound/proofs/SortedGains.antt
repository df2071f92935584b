-- The gains of the classes, written one by one and then sorted.
use Rattle.std.proofs.Common.{◌≡◌, ℕ, ◌+◌, ◌*◌, ◌<◌, List, [], ◌∷◌, ◌++◌, length, get_or, map, take, sym, ap, subst, ◌∙◌}
use Rattle.std.specs.Prelude.{ℤ, IsPermutation}
use Rattle.std.proofs.Math.ListN.{set}
use Rattle.std.proofs.lemmas.List.{map-append, take_more, take_more_set}
use Rattle.mov_base.specs.Sums.{add_up}
use Rattle.mov_base.proofs.Sums.{add_up-map}
use Rattle.signature_class.specs.Classes.{IsGrouped}
use Rattle.dual_bound.specs.Weighing.{gain_by}
use Rattle.dual_bound.specs.WeighingParts.{gains_by}
use Rattle.dual_bound.proofs.Sorting.{IsGrouped-permutation, add_up-permutation}

abbrev gain_of : ℤ → (ℕ → ℤ) → ℕ × ℕ → ℕ × ℕ
gain_of best cost c = (gain_by best cost c.0, c.1)

-- the gain of one class more
pub gains_more : (best : ℤ) (cost : ℕ → ℤ) (classes places : List (ℕ × ℕ)) (i gain count : ℕ) → i < length places → i < length classes
    → gain ≡ gain_by best cost (get_or classes i (0, 0)).0 → count ≡ (get_or classes i (0, 0)).1 → take i places ≡ gains_by best cost (take i classes)
    → take (i + 1) (set places i (gain, count)) ≡ gains_by best cost (take (i + 1) classes)
gains_more best cost classes places i gain count fits within is counted done =
    let here : ℕ × ℕ = (gain, count) in
    let same : here ≡ gain_of best cost (get_or classes i (0, 0)) = ap (λ g. (g, count)) is ∙ ap (λ n. (gain_by best cost (get_or classes i (0, 0)).0, n)) counted in
    take_more_set places i here fits
    ∙ ap (λ (ps : List (ℕ × ℕ)). ps ++ here ∷ []) done
    ∙ ap (λ (p : ℕ × ℕ). gains_by best cost (take i classes) ++ p ∷ []) same
    ∙ sym (map-append (gain_of best cost) (take i classes) (get_or classes i (0, 0) ∷ []))
    ∙ ap (gains_by best cost) (sym (take_more classes i (0, 0) within))

pub counted_sorted : (best : ℤ) (cost : ℕ → ℤ) (ballots : ℕ) (classes places sorted : List (ℕ × ℕ)) → places ≡ gains_by best cost classes → IsPermutation places sorted
    → add_up (λ c. c.1) classes ≡ ballots → add_up (λ p. p.1) sorted ≡ ballots
counted_sorted best cost ballots classes places sorted is moved count =
    add_up-permutation (λ p. p.1) places sorted moved ∙ ap (add_up (λ p. p.1)) is ∙ add_up-map (λ p. p.1) (gain_of best cost) classes ∙ count

grouped : (best : ℤ) (cost : ℕ → ℤ) (classes : List (ℕ × ℕ)) (keys : List ℕ) → IsGrouped keys classes → IsGrouped (map (gain_by best cost) keys) (gains_by best cost classes)
grouped best cost classes keys same f =
    add_up-map f (gain_by best cost) keys ∙ same (λ key. f (gain_by best cost key)) ∙ sym (add_up-map (λ p. p.1 * f p.0) (gain_of best cost) classes)

pub grouped_sorted : (best : ℤ) (cost : ℕ → ℤ) (classes places sorted : List (ℕ × ℕ)) (keys : List ℕ) → places ≡ gains_by best cost classes → IsPermutation places sorted
    → IsGrouped keys classes → IsGrouped (map (gain_by best cost) keys) sorted
grouped_sorted best cost classes places sorted keys is moved same =
    IsGrouped-permutation (map (gain_by best cost) keys) places sorted moved
    (subst (λ ps. IsGrouped (map (gain_by best cost) keys) ps) (sym is) (grouped best cost classes keys same))
