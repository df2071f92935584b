use Rattle.std.proofs.Common.{◌∙◌, sym}
use Rattle.std.specs.Str.{bytes_eq}
use Rattle.ballot_csv.proofs.NameFacts.{position_of_map}
use Rattle.ballot_csv.proofs.names.NameIndex.search.Goals as goal

pub returns-in-Some-clause-candidate : goal.returns-in-Some-clause-candidate
returns-in-Some-clause-candidate c = rw (← c.self.view_is) (sym c.in-Some.is ∙ rw c.as_slice.ensures.value at c.place_of.ensures ∙ position_of_map (λ n. n.now) (bytes_eq c.args.name.now) c.self.inside.names.items)

pub returns-in-None-clause-candidate : goal.returns-in-None-clause-candidate
returns-in-None-clause-candidate c = rw (← c.self.view_is) (sym c.in-None.is ∙ rw c.as_slice.ensures.value at c.place_of.ensures ∙ position_of_map (λ n. n.now) (bytes_eq c.args.name.now) c.self.inside.names.items)
