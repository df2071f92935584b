use Rattle.std.proofs.Common.{◌≡◌, length, refl, subst, arith, All}
use Rattle.goal_rows.specs.Races.{election_of}
use Rattle.witness_build.specs.Nearest.{IsNearestSoFar, IsNearestUpTo}
use Rattle.witness_build.specs.Witnesses.{IsPair}
use Rattle.witness_build.proofs.Nearby.{pair_of_nearest, started}
use Rattle.witness_build.proofs.RootPairs.{none_of_one, one_where_none, own_are_pairs}
use Rattle.witness_build.proofs.starts.nearest_witness.Goals as goal

pub nearest-requires-clause-pairs : goal.nearest-requires-clause-pairs
nearest-requires-clause-pairs c =
    let race = c.args.race.now in
    own_are_pairs race.rule race.roll.now.c race.reported race.roots c.requires.pairs c.requires.own

pub witness_at-requires-clause-pair : goal.witness_at-requires-clause-pair
witness_at-requires-clause-pair c =
    let e = election_of c.args.race.now in
    let roots = length c.args.race.now.roots in
    let near : IsNearestUpTo e roots c.in-Some.near = subst (λ found. IsNearestSoFar e roots found) c.in-Some.is c.in_ok-near.ensures in
    let race = c.args.race.now in
    let pairs : All IsPair race.roots = own_are_pairs race.rule race.roll.now.c race.reported race.roots c.requires.pairs c.requires.own in
    pair_of_nearest e roots c.in-Some.near pairs (omega arith) near

pub returns-in_ok-witness_at-in-Some-clause-none : goal.returns-in_ok-witness_at-in-Some-clause-none
returns-in_ok-witness_at-in-Some-clause-none c =
    let e = election_of c.args.race.now in
    let roots = length c.args.race.now.roots in
    let near : IsNearestUpTo e roots c.in-Some.near = subst (λ found. IsNearestSoFar e roots found) c.in-Some.is c.in_ok-near.ensures in
    let race = c.args.race.now in
    let pairs : All IsPair race.roots = own_are_pairs race.rule race.roll.now.c race.reported race.roots c.requires.pairs c.requires.own in
    (λ none. cc, λ one. absurd (let none = none_of_one e c.requires.race.election pairs one in omega (arith, none, near.within)))

pub returns-in_ok-witness_at-in-Some-clause-start : goal.returns-in_ok-witness_at-in-Some-clause-start
returns-in_ok-witness_at-in-Some-clause-start c =
    let e = election_of c.args.race.now in
    let roots = length c.args.race.now.roots in
    let near : IsNearestUpTo e roots c.in-Some.near = subst (λ found. IsNearestSoFar e roots found) c.in-Some.is c.in_ok-near.ensures in
    let made = c.in_ok-witness_at-in-Some.ensures in
    started e c.in-Some.near c.in_ok-witness_at-in-Some.field-0.goal c.in_ok-witness_at-in-Some.field-0.changes near made.goal made.least made.size

pub returns-in-None-clause-none : goal.returns-in-None-clause-none
returns-in-None-clause-none c =
    let e = election_of c.args.race.now in
    let none : length c.args.race.now.roots ≡ 0 = subst (λ near. IsNearestSoFar e (length c.args.race.now.roots) near) c.in-None.is c.in_ok-near.ensures in
    (λ _. one_where_none e c.requires.race.election c.requires.pairs c.requires.own none, λ _. refl)
