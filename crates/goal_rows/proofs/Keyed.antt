-- What a suffix or a cover is before any replacement, from the kinds of ballots.
use Rattle.std.proofs.Common.{ℕ, List, ◌≡◌, ◌<◌, ◌≤◌, ◌∙◌, length, map, ap, refl, arith}
use Rattle.std.specs.Prelude.{nat_eq, pos, ℤ}
use Rattle.std.proofs.lemmas.List.{length-map}
use Rattle.mov_base.specs.Sums.{add_up}
use Rattle.mov_base.proofs.Sums.{add_up-le}
use Rattle.ballot_form.specs.Ballots.{IsValidBallot}
use Rattle.ballot_form.proofs.Lengths.{length_valid}
use Rattle.ballot_form.specs.declared.limits.TheConstants.{MOST_BALLOTS}
use Rattle.ballot_form.specs.declared.rule.Rule.TheVariants.{Condorcet, Irv}
use Rattle.signature_class.specs.Classes.{classes_by, classes_of}
use Rattle.signature_class.specs.Signatures.{cover_key, suffix_key}
use Rattle.signature_class.proofs.Counts.{classes_by_kinds, keys_are_classes, sum-times_one}
use Rattle.goal_rows.specs.KeyCounts.{cover_values, suffix_values}
use Rattle.goal_rows.specs.Races.{IsGroundOf, IsRace, election_of, seen_by}
use Rattle.goal_rows.specs.declared.goals.Goal.TheVariants.{Suffix, Cover}
use Rattle.goal_rows.specs.declared.parts.Race.{Race}
use Rattle.goal_rows.proofs.KeyRows.{cover_values_are, suffix_values_are}
use Rattle.goal_rows.proofs.Seen.{seen_alike}

-- the classes of the kinds by a key are those of the ballots, where the rule looks at whole ballots
whole_classes : (race : Race) (key : List ℕ → ℕ) (classes : List (ℕ × ℕ)) → IsRace race → ((ballot : List ℕ) → seen_by race.rule ballot ≡ ballot) → classes ≡ classes_by key race.kinds
    → classes ≡ classes_of nat_eq (map key race.roll.now.ballots)
whole_classes race key classes is whole classes_are =
    classes_are
    ∙ ap (classes_by key) is.kinds
    ∙ classes_by_kinds key (map (seen_by race.rule) race.roll.now.ballots)
    ∙ ap (classes_of nat_eq) (seen_alike key (seen_by race.rule) race.roll.now.ballots (λ ballot. ap key (whole ballot)))

pub suffix_classes_are : (race : Race) (suffix : List ℕ) (classes : List (ℕ × ℕ)) → IsRace race → race.rule ≡ Irv → classes ≡ classes_by (suffix_key suffix) race.kinds
    → classes ≡ classes_of nat_eq (map (suffix_key suffix) race.roll.now.ballots)
suffix_classes_are race suffix classes is rule classes_are = whole_classes race (suffix_key suffix) classes is (λ ballot. ap (λ r. seen_by r ballot) rule) classes_are

pub cover_classes_are : (race : Race) (x : ℕ) (classes : List (ℕ × ℕ)) → IsRace race → race.rule ≡ Condorcet → classes ≡ classes_by (cover_key x) race.kinds
    → classes ≡ classes_of nat_eq (map (cover_key x) race.roll.now.ballots)
cover_classes_are race x classes is rule classes_are = whole_classes race (cover_key x) classes is (λ ballot. ap (λ r. seen_by r ballot) rule) classes_are

-- the classes have as many ballots as there are
pub classes_few : (race : Race) (key : List ℕ → ℕ) (classes : List (ℕ × ℕ)) → IsRace race → classes ≡ classes_of nat_eq (map key race.roll.now.ballots)
    → add_up (λ (c : ℕ × ℕ). c.1) classes ≤ MOST_BALLOTS
classes_few race key classes is classes_are =
    let keys = map key race.roll.now.ballots in
    let a = (keys_are_classes keys).counted (λ _. 1) in
    let b = add_up-le (λ (_ : ℕ). 1) 1 keys (λ x. omega arith) in
    let m = length-map race.roll.now.ballots key in
    let s = sum-times_one (classes_of nat_eq keys) in
    let few = is.election.poll.few in
    rw classes_are (omega (arith, a, b, m, s, few))

pub suffix_ground : (race : Race) (suffix : List ℕ) (classes : List (ℕ × ℕ)) (sums : List ℤ) (m ballots : ℕ) → IsRace race → IsValidBallot race.roll.now.c suffix
    → classes ≡ classes_of nat_eq (map (suffix_key suffix) race.roll.now.ballots) → m ≡ length suffix → sums ≡ suffix_values m classes → ballots ≡ length race.roll.now.ballots
    → IsGroundOf (election_of race) (record { goal = Suffix suffix; classes = classes; sums = sums; ballots = ballots; lone = pos 0 })
suffix_ground race suffix classes sums m ballots is valid classes_are m_is sums_are count =
    let few = length_valid race.roll.now.c suffix valid in
    let most = is.election.poll.most in
    record {
      classes = classes_are;
      sums = sums_are ∙ ap (λ n. suffix_values n classes) m_is ∙ ap (suffix_values (length suffix)) classes_are
          ∙ suffix_values_are suffix race.roll.now.ballots valid.distinct (omega (arith, few, most));
      ballots = count;
      lone = refl;
    }

pub cover_ground : (race : Race) (x : ℕ) (classes : List (ℕ × ℕ)) (sums : List ℤ) (c ballots : ℕ) → IsRace race → x < race.roll.now.c
    → classes ≡ classes_of nat_eq (map (cover_key x) race.roll.now.ballots) → c ≡ race.roll.now.c → sums ≡ cover_values c x classes → ballots ≡ length race.roll.now.ballots
    → IsGroundOf (election_of race) (record { goal = Cover x; classes = classes; sums = sums; ballots = ballots; lone = pos 1 })
cover_ground race x classes sums c ballots is xc classes_are c_is sums_are count =
    let most = is.election.poll.most in
    record {
      classes = classes_are;
      sums = sums_are ∙ ap (λ n. cover_values n x classes) c_is ∙ ap (cover_values race.roll.now.c x) classes_are
          ∙ cover_values_are race.roll.now.c x race.roll.now.ballots xc (omega (arith, most));
      ballots = count;
      lone = refl;
    }
