-- The fraction of a lead that is taken away of a row, in lowest terms.
use Rattle.std.proofs.Common.{arith, ◌≡◌, ◌∙◌, sym, ap, ◌<◌, List}
use Rattle.std.specs.Prelude.{ℤ, pos, ◌*ℤ◌, ◌<ℤ◌, unsigned_abs}
use Rattle.std.specs.Int.RustNames.{FitsSigned}
use Rattle.std.proofs.lemmas.Int.{ints, to_z-of_z, fits_signed_from_abs}
use mir.Syntax.{w64}
use mir.Val.{to_z, of_z}
use Rattle.exact_num.specs.declared.limits.TheConstants.{WIDE}
use Rattle.exact_num.specs.declared.ratio.Ratio.{Ratio}
use Rattle.row_program.specs.Forms.{combination}
use Rattle.pivot_form.proofs.Equations.{factor_small}

-- a number as 64 bits keep it
abbrev pub kept : ℤ → ℤ
kept x = to_z w64 (of_z w64 x)

pub kept_is : (x : ℤ) → unsigned_abs x < WIDE → kept x ≡ x
kept_is x small = to_z-of_z w64 x (fits_signed_from_abs w64 x small)

-- the fraction of the lead that is taken away of the row
pub record IsFactor (p q : ℤ) (factor : Ratio) : Type 0 where
  pub equal : factor.num *ℤ p ≡ q *ℤ factor.den
  pub small_num : unsigned_abs factor.num < WIDE
  pub small_den : unsigned_abs factor.den < WIDE

pub is_factor : (p q : ℤ) (factor : Ratio) → unsigned_abs p < WIDE → unsigned_abs q < WIDE → pos 0 <ℤ p → FitsSigned w64 factor.den
    → factor.num *ℤ kept p ≡ kept q *ℤ factor.den → IsFactor p q factor
is_factor p q factor small_p small_q above fits told =
    let equal : factor.num *ℤ p ≡ q *ℤ factor.den = ap (λ (z : ℤ). factor.num *ℤ z) (sym (kept_is p small_p)) ∙ told ∙ ap (λ (z : ℤ). z *ℤ factor.den) (kept_is q small_q) in
    record { equal = equal; small_num = factor_small p q factor.num factor.den WIDE factor.lowest equal above small_q; small_den = omega (arith, ints, fits.sfits, factor.positive) }

-- the row less the fraction of the lead
pub made_is : (factor : Ratio) (row lead out : List ℤ) → unsigned_abs factor.num < WIDE → unsigned_abs factor.den < WIDE → out ≡ combination (kept factor.den) row (kept factor.num) lead → out ≡ combination factor.den row factor.num lead
made_is factor row lead out small_num small_den told = told ∙ ap (λ (z : ℤ). combination z row (kept factor.num) lead) (kept_is factor.den small_den) ∙ ap (λ (z : ℤ). combination factor.den row z lead) (kept_is factor.num small_num)
