use Rattle.std.proofs.Common.{rules}
use Rattle.std.specs.Prelude.{ℤ, pos, ◌*ℤ◌, ◌≤ℤ◌, ◌<ℤ◌, ◌-ℤ◌}
use Rattle.std.proofs.lemmas.Int.{to_z-of_z}
use Rattle.std.specs.Int.RustNames.{FitsSigned}
use mir.Syntax.{w64, w128}
use Rattle.exact_num.proofs.Bounds.{fits_wider, between_fits}
use Rattle.exact_num.proofs.ratio.Ratio.ceil.Goals as goal

-- a / b rounded up is r, which has 64 bits
record IsRounded (a b r : ℤ) : Type 0 where
  wide : FitsSigned w128 r
  narrow : FitsSigned w64 r
  enough : a ≤ℤ (r *ℤ b)
  least : ((r -ℤ pos 1) *ℤ b) <ℤ a

rounded : (c : goal.After-ceil_div) → IsRounded c.args.self.now.num c.args.self.now.den c.ceil_div.result
rounded c =
    let a = c.args.self.now.num in
    let b = c.args.self.now.den in
    let r = c.ceil_div.result in
    let small_a : FitsSigned w64 a = search rules in
    let small_b : FitsSigned w64 b = search rules in
    let wide_a : FitsSigned w128 a = fits_wider a small_a in
    let wide_b : FitsSigned w128 b = fits_wider b small_b in
    let wide : FitsSigned w128 r = search rules in
    let enough : a ≤ℤ (r *ℤ b) = simp to_z-of_z at c.ceil_div.ensures.enough in
    let least : ((r -ℤ pos 1) *ℤ b) <ℤ a = simp to_z-of_z at c.ceil_div.ensures.least in
    record { wide = wide; narrow = between_fits a b r small_a c.args.self.now.positive enough least; enough = enough; least = least }

pub overflow_cast-result : goal.overflow_cast-result
overflow_cast-result c = let is = rounded c in let wide = is.wide in simp to_z-of_z is.narrow

pub returns-clause-enough : goal.returns-clause-enough
returns-clause-enough c = let is = rounded c in let wide = is.wide in let narrow = is.narrow in simp to_z-of_z is.enough

pub returns-clause-least : goal.returns-clause-least
returns-clause-least c = let is = rounded c in let wide = is.wide in let narrow = is.narrow in simp to_z-of_z is.least
