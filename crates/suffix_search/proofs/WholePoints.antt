-- Whether a point is whole.
use Rattle.std.proofs.Common.{◌≡◌, ◌∙◌, Option, Some, ap, sym, arith}
use Rattle.std.specs.Prelude.{IsTrue, ◌↔◌, nat_eq}
use Rattle.std.proofs.lemmas.Bool.Decides.{nat_tests}
use Rattle.row_program.specs.declared.program.Point.{Point}
use Rattle.search_theory.specs.Branchings.{IsWhole, Values}
use Rattle.search_leaves.specs.Kept.{values_of}

pub whole_is : (o : Option Point) (point : Point) → o ≡ Some point → IsTrue (nat_eq point.den 1) ↔ ((q : Values) × (values_of o ≡ Some q) × IsWhole q)
whole_is o point is = (into, out)
  where
    into : IsTrue (nat_eq point.den 1) → (q : Values) × (values_of o ≡ Some q) × IsWhole q
    into on = (record { whole = point.whole; den = point.den }, ap values_of is, grind (arith, nat_tests, on))

    out : (q : Values) × (values_of o ≡ Some q) × IsWhole q → IsTrue (nat_eq point.den 1)
    out (q, at, whole) =
        let r : Values = record { whole = point.whole; den = point.den } in
        let same : q ≡ r = (let e = sym at in let f : Some q ≡ Some r = e' e in cc) in
        let den : point.den ≡ 1 = sym (ap (λ (q : Values). q.den) same) ∙ whole in
        grind (arith, nat_tests, den)
      where
        e' : Some q ≡ values_of o → Some q ≡ Some (record { whole = point.whole; den = point.den })
        e' e = e ∙ ap values_of is
