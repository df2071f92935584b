-- The ground of a goal that is reached.
use Rattle.std.proofs.Common.{ℕ, ◌≡◌, [], subst, sym}
use Rattle.goal_rows.specs.Goals.{IsComplete, IsReached}
use Rattle.goal_rows.specs.Races.{IsGroundOf, IsRace, IsSomeGround, election_of}
use Rattle.goal_rows.specs.declared.goals.Goal.{Goal}
use Rattle.goal_rows.specs.declared.goals.Goal.TheVariants.{Root}
use Rattle.goal_rows.specs.declared.parts.Ground.{Ground}
use Rattle.goal_rows.specs.declared.parts.Race.{Race}
use Rattle.goal_rows.proofs.Ways.{only_way}

pub root_ground : (race : Race) (start : Ground) → IsRace race → start.goal ≡ Root → IsGroundOf (election_of race) start → IsSomeGround start
root_ground race start is root values = (
  election_of race,
  record {
    election = is.election;
    reached = ([], sym root);
    values = values;
  },
)

pub complete_reached : (race : Race) (goal : Goal) → IsRace race → IsComplete (election_of race) goal → IsReached (election_of race) goal
complete_reached race goal is complete =
    let way = only_way (election_of race) goal is.election.roots complete in
    (way.0, way.1.leads)

pub complete_ground : (race : Race) (start : Ground) (goal : Goal) → IsRace race → start.goal ≡ goal → IsComplete (election_of race) goal → IsGroundOf (election_of race) start → IsSomeGround start
complete_ground race start goal is same complete values = (
  election_of race,
  record {
    election = is.election;
    reached = subst (λ other. IsReached (election_of race) other) (sym same) (complete_reached race goal is complete);
    values = values;
  },
)
