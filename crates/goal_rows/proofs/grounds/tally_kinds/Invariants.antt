use Rattle.std.proofs.Common.{◌≡◌, ◌≤◌, ◌*◌, [], take}
use Rattle.std.specs.Prelude.{nat_eq}
use Rattle.mov_base.specs.Sums.{add_up}
use Rattle.signature_class.specs.Classes.{add_all}
use Rattle.goal_rows.specs.Goals.{gainer_points, loser_points}
use Rattle.goal_rows.specs.Races.{election_of, key_of, keyed}
use Rattle.goal_rows.specs.declared.goals.Goal.TheVariants.{Pair}
use Rattle.goal_rows.proofs.grounds.tally_kinds.Given as goal

abbrev pub invariant-loop-i : goal.invariant-loop-i
invariant-loop-i l =
    let kinds = take l.i l.race.kinds in
    record {
      classes : l.classes ≡ add_all nat_eq [] (keyed (key_of (election_of l.race) (Pair l.gainer l.loser)) kinds);
      gained : l.gained ≡ add_up (λ k. k.1 * gainer_points (election_of l.race) l.gainer l.loser k.0) kinds;
      lost : l.lost ≡ add_up (λ k. k.1 * loser_points (election_of l.race) l.gainer l.loser k.0) kinds;
      few_gained : l.gained ≤ 65536 * add_up (λ k. k.1) kinds;
      few_lost : l.lost ≤ 65536 * add_up (λ k. k.1) kinds;
    }
