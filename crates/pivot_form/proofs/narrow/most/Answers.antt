use Rattle.std.proofs.Common.{arith, rules, ◌≡◌, ◌<◌, ap, below_more, get_or}
use Rattle.std.specs.Prelude.{pos, unsigned_abs}
use Rattle.std.specs.Int.RustNames.{FitsSigned}
use Rattle.std.proofs.lemmas.Int.{to_z-of_z}
use Rattle.std.proofs.lemmas.List.{get_or_default}
use Rattle.std.proofs.lemmas.Nat.{le_or_l, le_or_r, or_lt}
use mir.Syntax.{w64}
use Rattle.exact_num.specs.declared.limits.TheConstants.{WIDE}
use Rattle.pivot_form.proofs.narrow.most.Goals as goal

pub loop-x-preserved : goal.loop-x-preserved
loop-x-preserved c =
    let x = get_or c.args.row.now c.loop-x.x-index (pos 0) in
    let fits : FitsSigned w64 x = search rules in
    let size : c.unsigned_abs-most.result ≡ unsigned_abs x = simp to_z-of_z at c.unsigned_abs-most.ensures.value in
    let small : unsigned_abs x < WIDE = c.requires c.loop-x.x-index (pos 0) (omega arith) in
    let left = le_or_l c.loop-x.most c.unsigned_abs-most.result in
    let right = le_or_r c.loop-x.most c.unsigned_abs-most.result in
    record {
      most = below_more _ _ (λ k h. omega (arith, left, c.loop-x.invariant.most k h)) (omega (arith, right, size));
      small = or_lt 63 c.loop-x.most c.unsigned_abs-most.result c.loop-x.invariant.small (omega (arith, size, small));
    }

pub returns-clause-most : goal.returns-clause-most
returns-clause-most c = λ k d l.
    let same = ap unsigned_abs (get_or_default c.args.row.now k d (pos 0) l) in
    omega (arith, same, c.loop-x.invariant.most k (omega arith))
