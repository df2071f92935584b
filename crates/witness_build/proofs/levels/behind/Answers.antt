use Rattle.std.proofs.Common.{◌≡◌, ◌∙◌, FitsSigned, w64, Some, slice_get, sym, subst, rules}
use Rattle.std.proofs.lemmas.Int.{to_z-of_z}
use Rattle.witness_build.specs.Levels.{below_zero}
use Rattle.witness_build.proofs.Grounds.{behind_is, below_first}
use Rattle.witness_build.proofs.levels.behind.Goals as goal

pub returns-in-Some : goal.returns-in-Some
returns-in-Some c = λ e is.
    let fits : FitsSigned w64 c.in-Some.sum.now = search rules in
    let own : c.missing.result ≡ below_zero c.in-Some.sum.now = simp to_z-of_z at c.missing.ensures in
    let first : Some c.in-Some.sum.now ≡ slice_get c.args.start.now.sums 0 = subst (λ xs. Some c.in-Some.sum.now ≡ slice_get xs 0) c.as_slice.ensures c.in-Some.ensures.value in
    own ∙ sym (below_first c.in-Some.sum.now c.args.start.now.sums first) ∙ behind_is e c.args.start.now is c.requires.pair
