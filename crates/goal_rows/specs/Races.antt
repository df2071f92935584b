-- What is known of a contest under a rule, and of a goal in it, before any replacement.
use Rattle.std.specs.Prelude.{◌≡◌, ℕ, ◌+◌, ◌-◌, List, [], ◌∷◌, map, length, nat_eq, ℤ, pos}
use Rattle.std.specs.Str.{bytes_eq}
use Rattle.mov_base.specs.Sums.{sum_z}
use Rattle.ballot_form.specs.declared.rule.Rule.{Rule}
use Rattle.ballot_form.specs.declared.rule.Rule.TheVariants.{Plurality, Dhondt}
use Rattle.signature_class.specs.Classes.{classes_of, first_part}
use Rattle.signature_class.specs.Signatures.{cover_key, suffix_key}
use Rattle.goal_rows.specs.Elections.{Election}
use Rattle.goal_rows.specs.Goals.{IsElection, IsReached, gainer_points, loser_points, pair_weight, rows_of}
use Rattle.goal_rows.specs.declared.goals.Goal.{Goal}
use Rattle.goal_rows.specs.declared.goals.Goal.TheVariants.{Root, Suffix, Pair, Cover}
use Rattle.goal_rows.specs.declared.parts.Ground.{Ground}
use Rattle.goal_rows.specs.declared.parts.Race.{Race}

-- the election that a race is of
abbrev pub election_of : Race → Election
election_of race = record { rule = race.rule; poll = race.roll.now; reported = race.reported; roots = race.roots }

-- what a rule looks at on a ballot: under plurality and D'Hondt its first candidate alone
abbrev pub seen_by : Rule → List ℕ → List ℕ
seen_by Plurality ballot = first_part ballot
seen_by (Dhondt seats) ballot = first_part ballot
seen_by rule ballot = ballot

-- it is one, and the race has the kinds of its ballots, as far as the rule looks at them
pub record IsRace (race : Race) : Type 0 where
  pub election : IsElection (election_of race)
  pub kinds : race.kinds ≡ classes_of bytes_eq (map (seen_by race.rule) race.roll.now.ballots)

-- the key of a ballot under a goal: under a suffix that of its signature; under a pair its weight, and 1,024 more;
-- under a cover the set of those up to its candidate. The root has no classes
abbrev pub key_of : Election → Goal → List ℕ → ℕ
key_of e Root ballot = 0
key_of e (Suffix suffix) ballot = suffix_key suffix ballot
key_of e (Pair g l) ballot = (gainer_points e g l ballot + 1024) - loser_points e g l ballot
key_of e (Cover x) ballot = cover_key x ballot

-- the keys of the ballots under a goal
abbrev pub keys_of : Election → Goal → List ℕ
keys_of e Root = []
keys_of e (Suffix suffix) = map (key_of e (Suffix suffix)) e.poll.ballots
keys_of e (Pair g l) = map (key_of e (Pair g l)) e.poll.ballots
keys_of e (Cover x) = map (key_of e (Cover x)) e.poll.ballots

-- for a pair the weight of the ballot that ranks the gainer alone; for a cover 1, which each row gives the ballot that
-- ranks its candidate alone; 0 where there is no such candidate
abbrev pub lone_weight : Election → Goal → ℤ
lone_weight e Root = pos 0
lone_weight e (Suffix suffix) = pos 0
lone_weight e (Pair g l) = pair_weight e g l (g ∷ [])
lone_weight e (Cover x) = pos 1

-- the classes of the ballots under the goal, the value of each of its rows, the number of ballots, and the weight of
-- the ballot that ranks the gainer, or the candidate of a cover, alone
pub record IsGroundOf (e : Election) (start : Ground) : Type 0 where
  pub classes : start.classes ≡ classes_of nat_eq (keys_of e start.goal)
  pub sums : start.sums ≡ map (λ weight. sum_z weight e.poll.ballots) (rows_of e start.goal)
  pub ballots : start.ballots ≡ length e.poll.ballots
  pub lone : start.lone ≡ lone_weight e start.goal

-- the ground of a goal that is reached in this election
pub record IsGroundIn (e : Election) (start : Ground) : Type 0 where
  pub election : IsElection e
  pub reached : IsReached e start.goal
  pub values : IsGroundOf e start

-- the ground of a goal in some election
abbrev pub IsSomeGround : Ground → Type 0
IsSomeGround start = (e : Election) × IsGroundIn e start

-- kinds of ballots by a key
abbrev pub keyed : (List ℕ → ℕ) → List (List ℕ × ℕ) → List (ℕ × ℕ)
keyed key kinds = map (λ k. (key k.0, k.1)) kinds
