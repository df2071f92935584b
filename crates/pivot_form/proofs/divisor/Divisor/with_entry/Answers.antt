use Rattle.std.proofs.Common.{◌≡◌, ◌∙◌, subst, IfSome, Option}
use Rattle.std.specs.Prelude.{ℤ, ◌*ℤ◌}
use Rattle.std.proofs.lemmas.Int.{to_z-of_z}
use mir.Syntax.{w64}
use mir.Val.{to_z, of_z}
use Rattle.pivot_form.proofs.Quotients.{gcd_stays}
use Rattle.pivot_form.proofs.divisor.Divisor.with_entry.Goals as goal

pub returns-in-Some : goal.returns-in-Some
returns-in-Some c =
    let told = subst (λ (o : Option ℤ). IfSome o (λ y. y *ℤ c.args.self.value ≡ to_z w64 (of_z w64 c.args.x))) c.in-Some.is c.quotient.ensures ∙ to_z-of_z w64 c.args.x c.ranges.x in
    gcd_stays c.args.self.value c.args.x c.in-Some.field-0 c.args.self.positive told
