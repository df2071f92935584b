use Rattle.std.proofs.Common.{◌≡◌, ◌+◌, ◌*◌, ◌≤◌, [], All, take, map}
use Rattle.std.specs.Prelude.{sum_by}
use Rattle.bound_tree.specs.Nodes.{size}
use Rattle.bound_tree.specs.Plain.{kids_of, plain_of}
use Rattle.goal_rows.specs.LongerKeys.{goals_of}
use Rattle.goal_rows.specs.Races.{election_of}
use Rattle.margin_check.specs.Visits.{visits_among}
use Rattle.margin_check.specs.Walks.{EndsAt, Gives, IsKnown}
use Rattle.margin_check.specs.declared.walk.End.{End}
use Rattle.margin_check.proofs.Nodes.{rest_of}
use Rattle.margin_check.proofs.walk.+walk.Given as goal

abbrev pub decreases-walk : goal.decreases-walk
decreases-walk l = 3 * size (plain_of l.tree.now)

abbrev pub decreases-walk_among : goal.decreases-walk_among
decreases-walk_among l = 3 * sum_by (λ kid. size (plain_of kid)) l.kids.now + 1

abbrev pub decreases-walk_halves : goal.decreases-walk_halves
decreases-walk_halves l = 3 * (size (plain_of l.low.now) + size (plain_of l.high.now)) + 2

abbrev pub decreases-walk_half : goal.decreases-walk_half
decreases-walk_half l = 3 * size (plain_of l.half.now) + 1

abbrev pub invariant-walk_among-loop-i : goal.invariant-walk_among-loop-i
invariant-walk_among-loop-i l = record {
  room : l.scratch ≡ l.initial.scratch;
  limits : l.limits.items ≡ [];
  few : l.next ≤ l.number + sum_by (λ kid. size (plain_of kid)) (take l.i l.kids);
  known : All (IsKnown (election_of l.race) l.asked) (rest_of (election_of l.race) (goals_of l.starts) l.kids l.i);
  rest : (end : End) → EndsAt (Gives (election_of l.race) l.asked) l.next (rest_of (election_of l.race) (goals_of l.starts) l.kids l.i) end
      → EndsAt (Gives (election_of l.race) l.asked) l.number (visits_among (election_of l.race) (goals_of l.starts) (kids_of (map plain_of l.kids))) end;
}
