-- Rows in 64 bits: products that have room, and the greatest common divisor from any entry on.
use Rattle.std.proofs.Common.{ℕ, ◌≡◌, ◌<◌, ◌≤◌, ◌*◌, ◌+◌, arith, sym, ◌∙◌, subst, List, get_or, length, take, inl, inr}
use Rattle.std.specs.Prelude.{ℤ, pos, ◌*ℤ◌, ◌-ℤ◌, unsigned_abs}
use Prim.Native.Nat.{◌∣◌}
use Rattle.std.specs.List.{All, fold}
use Rattle.std.specs.Int.RustNames.{FitsSigned}
use Rattle.std.proofs.lemmas.Bool.{cases_eq}
use Rattle.std.proofs.lemmas.Int.{ints, fits_signed_from_abs, fits_signed_mul, unsigned_abs-mul}
use Rattle.std.proofs.lemmas.List.{get_or_default}
use Rattle.std.proofs.lemmas.List.Elements.{All-take}
use Rattle.std.proofs.lemmas.Nat.{mul-le}
use Rattle.std.proofs.lemmas.Nat.Gcd.{dvd_antisymm, dvd-zero}
use Rattle.std.proofs.Math.Nat.{eq-one_of_dvd-one}
use mir.Syntax.{w64}
use Rattle.exact_num.specs.declared.limits.TheConstants.{WIDE}
use Rattle.exact_num.specs.Divisors.{gcd_with, primitive, row_gcd}
use Rattle.exact_num.proofs.Divisors.{IsGcd-gcd_of, fold_divides, fold_greatest, primitive_one, primitive_zero}
use Rattle.row_program.specs.Forms.{combination}
use Rattle.pivot_form.specs.Sizes.{HasRoom}
use Rattle.pivot_form.proofs.Equations.{get_or-combination, length-combination}

pub small_product : (p x : ℤ) (more : ℕ) → unsigned_abs p * unsigned_abs x + more < WIDE → FitsSigned w64 (p *ℤ x)
small_product p x more room = fits_signed_mul w64 p x (unsigned_abs p) (unsigned_abs x) (omega arith) (omega arith) (omega (arith, room))

size_of_difference : (a b : ℤ) → unsigned_abs (a -ℤ b) ≤ unsigned_abs a + unsigned_abs b
size_of_difference a b = omega (arith, ints)

pub cross_below : (p x q y : ℤ) → unsigned_abs p * unsigned_abs x + unsigned_abs q * unsigned_abs y < WIDE → unsigned_abs (p *ℤ x -ℤ q *ℤ y) < WIDE
cross_below p x q y room = omega (arith, room, size_of_difference (p *ℤ x) (q *ℤ y), unsigned_abs-mul p x, unsigned_abs-mul q y)

pub small_difference : (p x q y : ℤ) → unsigned_abs p * unsigned_abs x + unsigned_abs q * unsigned_abs y < WIDE → FitsSigned w64 (p *ℤ x -ℤ q *ℤ y)
small_difference p x q y room = fits_signed_from_abs w64 (p *ℤ x -ℤ q *ℤ y) (cross_below p x q y room)

pub room_small : (p q : ℤ) (row lead : List ℤ) → length lead ≡ length row → HasRoom p row q lead → All (λ x. unsigned_abs x < WIDE) (combination p row q lead)
room_small p q row lead same room k d l =
    let within : k < length row = omega (arith, l, length-combination p q row lead same) in
    let made = get_or_default (combination p row q lead) k d (pos 0) l ∙ get_or-combination p q row lead k (pos 0) same within in
    subst (λ (z : ℤ). unsigned_abs z < WIDE) (sym made) (cross_below p (get_or row k (pos 0)) q (get_or lead k (pos 0)) (room k within))

-- ---- the greatest common divisor from an entry on
begun_divides : (d : ℕ) (x : ℤ) → d ∣ unsigned_abs x → d ∣ gcd_with 0 x
begun_divides d x h = let g = IsGcd-gcd_of 0 (unsigned_abs x) in g.2 d (dvd-zero d) h

pub started : (row : List ℤ) (own : ℕ) → own < length row → fold gcd_with (gcd_with 0 (get_or row own (pos 0))) row ≡ row_gcd row
started row own within =
    let x = get_or row own (pos 0) in
    let a = fold_divides (gcd_with 0 x) row in
    let b = fold_divides 0 row in
    dvd_antisymm (fold_greatest (fold gcd_with (gcd_with 0 x) row) 0 row (dvd-zero _) a.1)
    (fold_greatest (row_gcd row) (gcd_with 0 x) row (begun_divides (row_gcd row) x (b.1 own (pos 0) within)) b.1)

pub stays_one : (g : ℕ) (row : List ℤ) (i : ℕ) → fold gcd_with g (take i row) ≡ 1 → fold gcd_with g row ≡ 1
stays_one g row i one =
    let d = fold_divides g row in
    let divides : fold gcd_with g row ∣ fold gcd_with g (take i row) = fold_greatest (fold gcd_with g row) g (take i row) d.0 (All-take (λ x. fold gcd_with g row ∣ unsigned_abs x) i row d.1) in
    eq-one_of_dvd-one (subst (λ (n : ℕ). fold gcd_with g row ∣ n) one divides)

pub stays_reduced : (row : List ℤ) → row_gcd row ≤ 1 → row ≡ primitive row
stays_reduced row le = elim (cases_eq (row_gcd row) 0) [
  | inl none ↦ primitive_zero row none
  | inr some ↦ primitive_one row (omega (arith, le, some))
]

pub room_of : (p q : ℤ) (most : ℕ) (row lead : List ℤ) → length lead ≡ length row → All (λ x. unsigned_abs p * unsigned_abs x + unsigned_abs q * most < WIDE) row → All (λ x. unsigned_abs x ≤ most) lead → HasRoom p row q lead
room_of p q most row lead same room below i l =
    let taken = mul-le (unsigned_abs q) (unsigned_abs (get_or lead i (pos 0))) (unsigned_abs q) most (omega arith) (below i (pos 0) (omega (arith, l, same))) in
    omega (arith, room i (pos 0) l, taken)
