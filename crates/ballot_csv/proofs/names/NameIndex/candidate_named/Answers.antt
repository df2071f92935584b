use Rattle.std.proofs.Common.{◌∙◌, Some, ap, sym}
use Rattle.ballot_csv.proofs.NameFacts.{guess_right}
use Rattle.ballot_csv.proofs.names.NameIndex.candidate_named.Goals as goal

pub returns-in-Some-clause-candidate : goal.returns-in-Some-clause-candidate
returns-in-Some-clause-candidate c =
    let at = rw c.deref.ensures.value at c.in-Some.ensures.lookup in
    rw (← c.self.view_is) (ap Some (sym c.from-2.ensures) ∙ sym (guess_right c.self.inside.names.items c.args.name.now c.in-Some.found.now c.from-2.result c.self.invariant.1 at.3.0 at.1 (sym c.eq.ensures ∙ c.if-eq.true)))
