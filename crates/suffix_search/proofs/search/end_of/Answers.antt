use Rattle.std.proofs.Common.{sym, subst}
use Rattle.goal_rows.specs.Goals.{IsElection}
use Rattle.suffix_search.specs.Searches.{IsPointLeaf, IsWitnessOf, StopsSo}
use Rattle.suffix_search.proofs.Starts.{from_leaf, point_leaf, read_leaf}
use Rattle.suffix_search.proofs.search.end_of.Goals as goal

pub witness_of-requires-clause-point : goal.witness_of-requires-clause-point
witness_of-requires-clause-point c =
    let p = c.requires.search.0 in
    let tree = c.requires.search.1 in
    let low = c.requires.search.2 in
    let same = c.requires.search.3 in
    let running = c.requires.search.4 in
    let at = subst (StopsSo p tree c.args.leaves.now low) c.in-AtPoint.is c.requires.search.5 in
    let election = subst IsElection (sym same) c.requires.race.election in
    let read = read_leaf p tree c.args.leaves.now low c.in-AtPoint.place election running at c.index-leaves-place.result c.index-leaves-place.is in
    subst (λ e. IsPointLeaf e c.index-leaves-place.result) same
    (subst (λ leaf. IsPointLeaf p.election leaf) (sym read) (point_leaf p tree c.args.leaves.now low c.in-AtPoint.place election running at))

pub returns-in_ok-witness_of-in-AtPoint : goal.returns-in_ok-witness_of-in-AtPoint
returns-in_ok-witness_of-in-AtPoint c = λ p tree low same running stops.
    let at = subst (StopsSo p tree c.args.leaves.now low) c.in-AtPoint.is stops in
    let election = subst IsElection (sym same) c.requires.race.election in
    let read = read_leaf p tree c.args.leaves.now low c.in-AtPoint.place election running at c.index-leaves-place.result c.index-leaves-place.is in
    let witness = c.in_ok-witness_of-in-AtPoint.field-0 in
    let is = subst (λ e. IsWitnessOf e c.index-leaves-place.result witness) (sym same) c.in_ok-witness_of-in-AtPoint.ensures in
    from_leaf p tree c.args.leaves.now low c.in-AtPoint.place election running at witness (subst (λ leaf. IsWitnessOf p.election leaf witness) read is)
