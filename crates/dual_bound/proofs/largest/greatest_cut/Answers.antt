use Rattle.std.proofs.Common.{ℕ, ◌+◌, ◌-◌, ◌/◌, sym, ◌∙◌, inl, inr, arith}
use Rattle.std.proofs.lemmas.Bool.{cases_lt, false≢true}
use Rattle.std.proofs.lemmas.Int.{to_z-of_z}
use Rattle.dual_bound.proofs.Greedy.{CutsAt-below}
use Rattle.dual_bound.proofs.largest.greatest_cut.Goals as goal
use mir.Val.{SFits}
use mir.Syntax.{w128}

pub loop-high-preserved : goal.loop-high-preserved
loop-high-preserved c =
    let f : SFits w128 c.args.base = c.ranges.base in
    let t = simp to_z-of_z at c.cuts_at.ensures.value in
    let middle : ℕ = c.loop-high.low + (c.loop-high.high - c.loop-high.low) / 2 in (
      omega arith,
      omega arith,
      c.loop-high.invariant.2,
      λ xs same u le cut. elim (cases_lt u middle) [
        | inl lt ↦ lt
        | inr ge ↦
            let cut' = simp to_z-of_z at cut in
            let yes = (t xs same).1 (CutsAt-below c.args.base xs middle u ge cut') in
            absurd (false≢true (sym c.if-cuts_at.false ∙ yes))
      ],
    )
