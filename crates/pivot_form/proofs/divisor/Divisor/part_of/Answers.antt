use Rattle.std.proofs.Common.{rules, ◌≡◌, ◌∙◌, subst, IfSome, Option}
use Rattle.std.specs.Prelude.{ℤ, ◌*ℤ◌}
use Rattle.std.specs.Int.RustNames.{FitsSigned}
use Rattle.std.proofs.lemmas.Int.{to_z-of_z}
use mir.Syntax.{w64}
use mir.Val.{to_z, of_z}
use Rattle.pivot_form.proofs.Quotients.{part_is}
use Rattle.pivot_form.proofs.divisor.Divisor.part_of.Goals as goal

pub returns-in-Some : goal.returns-in-Some
returns-in-Some c =
    let told = subst (λ (o : Option ℤ). IfSome o (λ y. y *ℤ c.args.self.now.value ≡ to_z w64 (of_z w64 c.args.x))) c.in-Some.is c.quotient.ensures ∙ to_z-of_z w64 c.args.x c.ranges.x in
    let fits : FitsSigned w64 c.in-Some.part = search rules in
    simp to_z-of_z (part_is c.args.x c.in-Some.part c.args.self.now.value c.requires told)
