-- The replacements that a whole point of a complete goal stands for: as many as it costs, an alteration, and the rows of
-- the goal hold after it.
use Rattle.std.proofs.Common.{ℕ, List, ◌≡◌, ◌∙◌, length, map, ap, sym, subst, arith}
use Rattle.std.specs.List.{zip}
use Rattle.std.proofs.lemmas.List.{length-map}
use Rattle.std.proofs.lemmas.Slice.Zip.{length-zip}
use Rattle.mov_base.specs.Sums.{add_up}
use Rattle.ballot_form.specs.Alterations.{IsAlteration, after}
use Rattle.signature_class.specs.Classes.{AreClasses}
use Rattle.signature_class.proofs.Counts.{keys_are_classes}
use Rattle.goal_rows.specs.Elections.{Election}
use Rattle.goal_rows.specs.Goals.{Holds, IsComplete}
use Rattle.goal_rows.specs.Races.{IsGroundIn, key_of, keys_of}
use Rattle.goal_rows.specs.declared.goals.Goal.{Goal}
use Rattle.goal_rows.specs.declared.goals.Goal.TheVariants.{Root}
use Rattle.goal_rows.specs.declared.parts.Ground.{Ground}
use Rattle.witness_build.specs.FromPoints.{IsPointWithout, arcs_at, changes_at, new_ballots, number_for, replaced_at, replaced_numbers}
use Rattle.witness_build.specs.Witnesses.{IsMetBy}
use Rattle.witness_build.proofs.LowNumbers.{low_by, low_is}
use Rattle.witness_build.proofs.LowRuns.{keys_are}
use Rattle.witness_build.proofs.PointParts.{ArePartsOf, number_in_front, parts_of}
use Rattle.witness_build.proofs.PointsMet.{new_count, new_valid, rows_hold_after}
use Rattle.witness_build.proofs.ReplacedSums.{AreApart, AreEnough, apart_from, enough_of, low_ascends, low_count, numbers_alter}

pub not_root : (e : Election) (goal : Goal) → IsComplete e goal → goal ≡ Root → ⊥
not_root e goal complete is = subst (IsComplete e) is complete

-- the parts of the replacements: the numbers by the classes' part of the point, and the new ballots by that of the arcs
pub record AreMade (e : Election) (start : Ground) (whole : List ℕ) : Type 0 where
  pub parts : ArePartsOf start whole
  pub numbers : replaced_numbers e start whole ≡ low_by start.classes parts.xs 1 (map (key_of e start.goal) e.poll.ballots)
  pub news : new_ballots start.goal (arcs_at start whole) (replaced_at start whole) ≡ new_ballots start.goal parts.ys (add_up (λ x. x) parts.xs)
  pub apart : AreApart start.classes
  pub enough : AreEnough start.classes parts.xs (map (key_of e start.goal) e.poll.ballots)

made_of : (e : Election) (start : Ground) (whole : List ℕ) → IsGroundIn e start → (start.goal ≡ Root → ⊥) → IsPointWithout start whole → AreMade e start whole
made_of e start whole is not_root point =
    let parts = parts_of start whole point in
    let cs = start.classes in
    let keys = keys_of e start.goal in
    let are : AreClasses keys cs = subst (AreClasses keys) (sym is.values.classes) (keys_are_classes keys) in
    let by_ballots = keys_are e start.goal not_root in
    record {
      parts = parts;
      numbers = sym (low_is cs (number_for cs whole) parts.xs keys (λ key.
          number_in_front cs parts.xs parts.ys key parts.numbers.of_classes ∙ ap (λ zs. number_for cs zs key) (sym parts.is)))
          ∙ ap (low_by cs parts.xs 1) by_ballots;
      news = ap (λ ys. new_ballots start.goal ys (replaced_at start whole)) parts.arcs ∙ ap (new_ballots start.goal parts.ys) parts.cost;
      apart = apart_from cs are.distinct;
      enough = subst (AreEnough cs parts.xs) by_ballots (enough_of cs parts.xs keys are parts.within);
    }

-- as many numbers as new ballots, which is what the point costs
pub numbers_count : (e : Election) (start : Ground) (whole : List ℕ) → IsGroundIn e start → (start.goal ≡ Root → ⊥) → IsPointWithout start whole
    → length (replaced_numbers e start whole) ≡ replaced_at start whole
numbers_count e start whole is not_root point =
    let made = made_of e start whole is not_root point in
    let xs = made.parts.xs in
    ap length made.numbers
    ∙ low_count start.classes xs 1 (map (key_of e start.goal) e.poll.ballots) made.parts.numbers.of_classes made.apart made.enough
    ∙ sym made.parts.cost

pub changes_count : (e : Election) (start : Ground) (whole : List ℕ) → IsGroundIn e start → (start.goal ≡ Root → ⊥) → IsPointWithout start whole
    → length (changes_at e start whole) ≡ replaced_at start whole
changes_count e start whole is not_root point =
    let news = new_ballots start.goal (arcs_at start whole) (replaced_at start whole) in
    let both = length-zip (replaced_numbers e start whole) news in
    let one = numbers_count e start whole is not_root point in
    let other = new_count start.goal (arcs_at start whole) (replaced_at start whole) not_root in
    omega (arith, both, one, other)

-- they are an alteration
pub changes_alter : (e : Election) (start : Ground) (whole : List ℕ) → IsGroundIn e start → (start.goal ≡ Root → ⊥) → IsPointWithout start whole
    → IsAlteration e.poll (changes_at e start whole)
changes_alter e start whole is not_root point =
    let made = made_of e start whole is not_root point in
    let news = new_ballots start.goal (arcs_at start whole) (replaced_at start whole) in
    let keys = map (key_of e start.goal) e.poll.ballots in
    let n = length e.poll.ballots in
    let up = low_ascends start.classes made.parts.xs 1 n keys (omega (arith, length-map e.poll.ballots (key_of e start.goal))) in
    subst (λ ks. IsAlteration e.poll (zip ks news)) (sym made.numbers)
    (numbers_alter e.poll.c 1 n (low_by start.classes made.parts.xs 1 keys) news up (new_valid e start (arcs_at start whole) (replaced_at start whole) is))

holds_after : (e : Election) (start : Ground) (whole : List ℕ) → IsGroundIn e start → (start.goal ≡ Root → ⊥) → IsPointWithout start whole
    → Holds e start.goal (after e.poll (changes_at e start whole)).ballots
holds_after e start whole is not_root point =
    let made = made_of e start whole is not_root point in
    let parts = made.parts in
    let keys = map (key_of e start.goal) e.poll.ballots in
    let numbers = low_by start.classes parts.xs 1 keys in
    let total = add_up (λ (x : ℕ). x) parts.xs in
    let news = new_ballots start.goal (arcs_at start whole) (replaced_at start whole) in
    let count : length news ≡ length numbers =
    ap length made.news ∙ new_count start.goal parts.ys total not_root
    ∙ sym (low_count start.classes parts.xs 1 keys parts.numbers.of_classes made.apart made.enough) in
    subst (λ ks. Holds e start.goal (after e.poll (zip ks news)).ballots) (sym made.numbers)
    (rows_hold_after e start parts.xs parts.ys news is not_root parts.numbers parts.met parts.flow made.news made.apart made.enough count)

-- the goal is met by them
pub changes_meet : (e : Election) (start : Ground) (whole : List ℕ) → IsGroundIn e start → IsComplete e start.goal → IsPointWithout start whole
    → IsMetBy e start.goal (changes_at e start whole)
changes_meet e start whole is complete point = record {
  alteration = changes_alter e start whole is (not_root e start.goal complete) point;
  complete = complete;
  holds = holds_after e start whole is (not_root e start.goal complete) point;
}
