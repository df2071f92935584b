-- What is counted of the ballots, run by run.
use Rattle.std.proofs.Common.{ℕ, List, [], ◌≡◌, ◌≤◌, ◌+◌, ◌*◌, ◌∙◌, length, ap, sym, arith}
use Rattle.std.proofs.Math.Nat.{mul-le-mul_left}
use Rattle.mov_base.specs.Sums.{add_up}
use Rattle.ballot_form.specs.declared.runs.Run.{Run}
use Rattle.ballot_form.specs.Runs.{IsFirstRun, Left}
use Rattle.ballot_form.proofs.RunSums.{length_of_run, sum_of_run}

-- a run more
pub run_counted : (f : List ℕ → ℕ) (old : Left) (run : Run) (new : Left) (n points sum all : ℕ) → IsFirstRun old run new → n ≡ run.count → points ≡ f run.row.now
    → sum + add_up f old.ballots ≡ all → sum + n * points + add_up f new.ballots ≡ all
run_counted f old run new n points sum all is n_is points_is so_far = let step = sum_of_run f old run new is in rw (n_is, points_is) (omega (arith, step, so_far))

pub run_few : (most : ℕ) (old : Left) (run : Run) (new : Left) (n points sum all : ℕ) → IsFirstRun old run new → n ≡ run.count → points ≤ most
    → sum + most * length old.ballots ≤ all → sum + n * points + most * length new.ballots ≤ all
run_few most old run new n points sum all is n_is small so_far =
    let size = length_of_run old run new is in
    let part = mul-le-mul_left n small in
    let whole : most * length old.ballots ≡ most * (n + length new.ballots) = ap (λ k. most * k) (size ∙ ap (λ k. k + length new.ballots) (sym n_is)) in
    omega (arith, part, whole, so_far)

-- no run is left
pub all_counted : (f : List ℕ → ℕ) (ballots left : List (List ℕ)) (sum : ℕ) → left ≡ [] → sum + add_up f left ≡ add_up f ballots → sum ≡ add_up f ballots
all_counted f ballots left sum none so_far = let e : add_up f left ≡ 0 = ap (add_up f) none in omega (arith, e, so_far)
