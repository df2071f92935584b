use Rattle.std.proofs.Common.{length, ap, subst, arith}
use Rattle.ballot_form.proofs.Lengths.{length_valid}
use Rattle.goal_rows.specs.Goals.{IsReached}
use Rattle.goal_rows.specs.Races.{election_of}
use Rattle.goal_rows.proofs.Ways.{reached_suffix}
use Rattle.goal_rows.proofs.grounds.key.Goals as goal

pub suffix_key-requires : goal.suffix_key-requires
suffix_key-requires c =
    let e = election_of c.args.race.now in
    let is = reached_suffix e c.in-Suffix.suffix c.requires.race.election.roots (subst (IsReached e) c.in-Suffix.is c.requires.reached) in
    let few = length_valid e.poll.c c.in-Suffix.suffix is.1 in
    let most = c.requires.race.election.poll.most in
    let same = ap length c.as_slice.ensures.value in
    omega (arith, few, most, same)
