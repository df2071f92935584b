-- A goal that is reached and has no cover is complete.
use Rattle.std.proofs.Common.{◌≡◌, ℕ, ◌≤◌, List, Bool, Some, None, true, false, cond, length, refl, sym, arith}
use Rattle.std.specs.Prelude.{nat_lt}
use Rattle.std.specs.Option.{is_some}
use Rattle.std.proofs.lemmas.Bool.{false≢true}
use Rattle.std.proofs.lemmas.Bool.Decides.{nat_tests}
use Rattle.ballot_form.proofs.Lengths.{length_valid}
use Rattle.irv_count.proofs.Whole.{order_from_valid}
use Rattle.goal_rows.specs.Elections.{Election}
use Rattle.goal_rows.specs.Goals.{IsComplete, IsElection, IsReached, longer_suffixes}
use Rattle.goal_rows.specs.declared.goals.Goal.{Goal}
use Rattle.goal_rows.specs.declared.goals.Goal.TheVariants.{Root, Suffix, Pair, Cover}
use Rattle.goal_rows.proofs.Ways.{reached_exactly}
use Rattle.search_theory.specs.Spots.{has_cover}

-- a suffix without a cover has all candidates
no_longer : (e : Election) (suffix : List ℕ) → has_cover e (Suffix suffix) ≡ false → e.poll.c ≤ length suffix
no_longer e suffix none = by (nat_lt (length suffix) e.poll.c) refl none
  where
    by : (b : Bool) → nat_lt (length suffix) e.poll.c ≡ b → is_some (cond b (Some (longer_suffixes e.poll.c suffix)) None) ≡ false → e.poll.c ≤ length suffix
    by true is none = absurd (false≢true (sym none))
    by false is none = grind (arith, nat_tests, is)

pub complete_is : (e : Election) (goal : Goal) → IsElection e → IsReached e goal → has_cover e goal ≡ false → IsComplete e goal
complete_is e Root election reached none = absurd (false≢true (sym none))
complete_is e (Suffix suffix) election reached none =
    let is = (reached_exactly e (Suffix suffix) election.roots).0 reached in
    let most = length_valid e.poll.c suffix is.0 in
    let least = no_longer e suffix none in
    (order_from_valid e.poll.c suffix is.0 (omega (arith, most, least)), is.1)
complete_is e (Pair g l) election reached none = (reached_exactly e (Pair g l) election.roots).0 reached
complete_is e (Cover x) election reached none = (reached_exactly e (Cover x) election.roots).0 reached
