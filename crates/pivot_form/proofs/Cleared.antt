-- A slot's row that has none of the entering variable stays.
use Rattle.std.proofs.Common.{ℕ, ◌≡◌, arith, ap, sym, ◌∙◌, List, length, get_or, set, map}
use Rattle.std.specs.Prelude.{ℤ, pos, ◌*ℤ◌, ◌<ℤ◌, unsigned_abs}
use Rattle.std.proofs.lemmas.Int.{ints}
use Rattle.std.proofs.lemmas.List.{set-get_or}
use Rattle.exact_num.specs.Divisors.{IsPrimitive, primitive}
use Rattle.row_program.specs.Forms.{combination}
use Rattle.pivot_form.specs.Kept.{cleared_by}
use Rattle.pivot_form.proofs.Equations.{positive_is, scaled_primitive, scaled_zero}

pub cleared_none : (j : ℕ) (p : ℤ) (lead row : List ℤ) → length lead ≡ length row → pos 0 <ℤ p → get_or row j (pos 0) ≡ pos 0 → IsPrimitive row → row ≡ cleared_by j p lead row
cleared_none j p lead row same above none lowest =
    let stays : set row j (pos 0) ≡ row = ap (set row j) (sym none) ∙ set-get_or row j (pos 0) in
    sym (ap (λ (xs : List ℤ). primitive (combination p xs (get_or row j (pos 0)) lead)) stays
    ∙ ap (λ (q : ℤ). primitive (combination p row q lead)) none
    ∙ ap primitive (scaled_zero p row lead same ∙ ap (λ (m : ℤ). map (λ x. m *ℤ x) row) (positive_is p above))
    ∙ scaled_primitive (unsigned_abs p) row (omega (arith, ints, above)) lowest)
