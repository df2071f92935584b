-- The ballots with the largest gains, replaced by the gainer alone, are the cheapest replacements of a pair.
use Rattle.std.proofs.Common.{ℕ, List, [], ◌∷◌, ◌≡◌, ◌≤◌, ◌∙◌, length, refl, sym, ap, subst, arith}
use Rattle.std.specs.Prelude.{Contains}
use Rattle.std.proofs.lemmas.List.{get_or_default, length-map}
use Rattle.ballot_form.specs.Alterations.{IsAlteration, after}
use Rattle.goal_rows.specs.Elections.{Election}
use Rattle.goal_rows.specs.Goals.{Holds, IsElection, IsReached, IsRootOf, gainer_points, loser_points}
use Rattle.goal_rows.specs.Pairs.{Reaches, puts_of}
use Rattle.goal_rows.specs.Races.{IsGroundIn}
use Rattle.goal_rows.specs.declared.goals.Goal.{Goal}
use Rattle.goal_rows.specs.declared.goals.Goal.TheVariants.{Root, Suffix, Pair, Cover}
use Rattle.goal_rows.specs.declared.parts.Ground.{Ground}
use Rattle.goal_rows.proofs.PairGains.{length_reaches}
use Rattle.goal_rows.proofs.PairPoints.{pair_points}
use Rattle.goal_rows.proofs.PairTurning.{pair_row}
use Rattle.goal_rows.proofs.Ways.{reached_pair}
use Rattle.witness_build.specs.Levels.{IsLevelFor, IsLevelUnder, deficit_under, first_from, gains_under, largest}
use Rattle.witness_build.specs.Witnesses.{IsMetBy, IsPairWitness, IsRootPair, IsStartWitness, IsWitnessOf, pair_deficit, pair_gains}
use Rattle.witness_build.specs.declared.levels.Level.{Level}
use Rattle.witness_build.proofs.Thresholds.{level_least, level_reaches}
use Rattle.witness_build.proofs.Largest.{HasAsMany, alters, come_first, length-first, moved}

-- the numbers that are chosen at a level
abbrev pub numbers_at : Election → ℕ → ℕ → Level → List ℕ
numbers_at e g l level = first_from level.gain level.equal 1 (pair_gains e g l)

length-gains : (e : Election) (g l : ℕ) → length (pair_gains e g l) ≡ length e.poll.ballots
length-gains e g l = length-map e.poll.ballots _

length-puts : (g : ℕ) (numbers : List ℕ) → length (puts_of g numbers) ≡ length numbers
length-puts g numbers = length-map numbers _

as_many_at : (deficit : ℕ) (gains : List ℕ) (level : Level) → IsLevelFor deficit gains level → HasAsMany level.gain level.equal gains
as_many_at deficit gains level is = omega (arith, is.counted, is.within)

-- as many are chosen as the level counts
pub chosen_size : (deficit : ℕ) (gains : List ℕ) (level : Level) → IsLevelFor deficit gains level → length (first_from level.gain level.equal 1 gains) ≡ level.count
chosen_size deficit gains level is = length-first level.gain level.equal 1 gains (as_many_at deficit gains level is) ∙ sym is.counted

pub length-at : (e : Election) (g l : ℕ) (level : Level) → IsLevelFor (pair_deficit e g l) (pair_gains e g l) level → length (puts_of g (numbers_at e g l level)) ≡ level.count
length-at e g l level is =
    length-puts g (numbers_at e g l level) ∙ chosen_size (pair_deficit e g l) (pair_gains e g l) level is

pub alteration_at : (e : Election) (g l : ℕ) (level : Level) → IsRootOf e (Pair g l) → IsAlteration e.poll (puts_of g (numbers_at e g l level))
alteration_at e g l level root = alters e.poll.c g level.gain level.equal 1 (length e.poll.ballots) (pair_gains e g l) root.1 (omega (arith, length-gains e g l))

pub witness_of : (e : Election) (g l : ℕ) (level : Level) → IsRootOf e (Pair g l) → IsLevelFor (pair_deficit e g l) (pair_gains e g l) level
    → IsPairWitness e g l (puts_of g (numbers_at e g l level))
witness_of e g l level root is =
    let size = length-at e g l level is in
    record {
      numbers = numbers_at e g l level;
      puts = refl;
      alteration = alteration_at e g l level root;
      least = record {
        reached = rw size (level_reaches (pair_deficit e g l) (pair_gains e g l) level is);
        least = λ i reached. rw size (level_least (pair_deficit e g l) (pair_gains e g l) level i is reached);
      };
      first = come_first level.gain level.equal (pair_gains e g l);
    }

pub met_of : (e : Election) (g l : ℕ) (level : Level) → IsElection e → IsRootOf e (Pair g l) → Contains e.roots (Pair g l)
    → IsLevelFor (pair_deficit e g l) (pair_gains e g l) level → IsMetBy e (Pair g l) (puts_of g (numbers_at e g l level))
met_of e g l level election root there is =
    let points = pair_points e g l election root in
    let fits = as_many_at (pair_deficit e g l) (pair_gains e g l) level is in
    let moves = moved e.poll.c (length e.poll.ballots) g (gainer_points e g l (g ∷ [])) level.gain level.equal 1 (gainer_points e g l) (loser_points e g l) e.poll.ballots
    (record { alone = refl; none = points.none; most = points.high }) root.1 (omega arith) fits in
    let count = ap (λ n. largest level.gain n (pair_gains e g l)) is.counted in
    record {
      alteration = alteration_at e g l level root;
      complete = there;
      holds = (pair_row e g l (after e.poll (puts_of g (numbers_at e g l level))).ballots).1 (omega (arith, moves, count, is.enough));
    }

-- ---- no alteration is shorter than what reaches

pub reaches_where_held : (e : Election) (g l : ℕ) (changes : List (ℕ × List ℕ)) → IsElection e → IsRootOf e (Pair g l) → IsAlteration e.poll changes
    → Holds e (Pair g l) (after e.poll changes).ballots → Reaches (pair_deficit e g l) (pair_gains e g l) (length changes)
reaches_where_held e g l changes election root ok holds =
    let points = pair_points e g l election root in
    length_reaches (gainer_points e g l (g ∷ [])) (gainer_points e g l) (loser_points e g l) e.poll changes
    (λ row _. omega (arith, points.high row)) ok ((pair_row e g l (after e.poll changes).ballots).0 holds)

pub no_shorter : (e : Election) (goal : Goal) (cheapest changes : List (ℕ × List ℕ)) (g l : ℕ) → IsElection e → IsStartWitness e goal cheapest → IsAlteration e.poll changes
    → Contains e.roots (Pair g l) → Holds e (Pair g l) (after e.poll changes).ballots → length cheapest ≤ length changes
no_shorter e goal cheapest changes g l election is ok there holds =
    let root : IsRootOf e (Pair g l) = subst (IsRootOf e) there.2 (election.roots.each there.0 (Pair g l) there.1) in
    let pair : IsRootPair e there.0 g l = (there.1, get_or_default e.roots there.0 Root (Pair g l) there.1 ∙ there.2) in
    is.fewest there.0 g l (length changes) pair (reaches_where_held e g l changes election root ok holds)

-- ---- under a ground

-- the replacements are the cheapest of the goal, are as many as its level counts, and meet it
pub record AreBuilt (e : Election) (goal : Goal) (level : Level) (changes : List (ℕ × List ℕ)) : Type 0 where
  pub least : IsWitnessOf e goal changes
  pub size : length changes ≡ level.count
  pub met : IsMetBy e goal changes

built_under : (e : Election) (goal : Goal) (g l : ℕ) (level : Level) (changes : List (ℕ × List ℕ)) → IsElection e → IsReached e goal → goal ≡ Pair g l
    → IsLevelFor (deficit_under e goal) (gains_under e goal) level → changes ≡ puts_of g (first_from level.gain level.equal 1 (gains_under e goal)) → AreBuilt e goal level changes
built_under e Root g l level changes election reached pair is changes_are = absurd (cc)
built_under e (Suffix suffix) g l level changes election reached pair is changes_are = absurd (cc)
built_under e (Cover x) g l level changes election reached pair is changes_are = absurd (cc)
built_under e (Pair h m) g l level changes election reached pair is changes_are =
    let same : g ≡ h = cc in
    let both = reached_pair e h m election.roots reached in
    let own : changes ≡ puts_of h (numbers_at e h m level) = changes_are ∙ ap (λ x. puts_of x (numbers_at e h m level)) same in
    rw own (record {
      least = witness_of e h m level both.1 is;
      size = length-at e h m level is;
      met = met_of e h m level election both.1 both.0 is;
    })

pub built : (e : Election) (start : Ground) (g l : ℕ) (level : Level) (changes : List (ℕ × List ℕ)) → IsGroundIn e start → start.goal ≡ Pair g l → IsLevelUnder start level
    → changes ≡ puts_of g (first_from level.gain level.equal 1 (gains_under e start.goal)) → AreBuilt e start.goal level changes
built e start g l level changes is pair level_is changes_are =
    built_under e start.goal g l level changes is.election is.reached pair (level_is e is) changes_are
