-- The points of a run, and how great scores get.
use Rattle.std.proofs.Common.{ℕ, List, Option, Some, None, ◌≡◌, ◌≤◌, ◌<◌, ◌+◌, ◌*◌, ◌^◌, ◌∙◌, length, sym, arith}
use Rattle.std.proofs.lemmas.Nat.{mul-le}
use Rattle.mov_base.proofs.Sums.{add_up-le}
use Rattle.ballot_form.proofs.FirstCounts.{plurality_score}
use Rattle.ballot_form.proofs.RunSums.{sum_of_run}
use Rattle.ballot_form.specs.declared.limits.TheConstants.{MOST_BALLOTS, MOST_CANDIDATES}
use Rattle.ballot_form.specs.declared.runs.Run.{Run}
use Rattle.ballot_form.specs.Ballots.{IsPoll, Poll}
use Rattle.ballot_form.specs.Runs.{IsFirstRun, Left}
use Rattle.ballot_form.specs.Scores.{borda_points, first_count, place_of, plurality_points, points_at, score_of}

-- a run more
pub borda_of_run : (c : ℕ) (old : Left) (run : Run) (new : Left) (x : ℕ) → IsFirstRun old run new
    → score_of (borda_points c) old.ballots x ≡ run.count * borda_points c run.row.now x + score_of (borda_points c) new.ballots x
borda_of_run c old run new x is = sum_of_run (λ row. borda_points c row x) old run new is

at_most_c : (c : ℕ) (o : Option ℕ) → points_at c o ≤ c
at_most_c c None = omega arith
at_most_c c (Some i) = omega arith

-- a ballot gives at most as many points as there are candidates
borda_few : (c : ℕ) (row : List ℕ) (x : ℕ) → borda_points c row x ≤ c
borda_few c row x = at_most_c c (place_of x row)

pub borda_times_few : (n c : ℕ) (row : List ℕ) (x : ℕ) → n * borda_points c row x ≤ n * c
borda_times_few n c row x = mul-le n (borda_points c row x) n c (omega arith) (borda_few c row x)

-- what is counted of a poll's ballots has room for a run more
pub room_of_run : (p : Poll) (c : ℕ) (old : Left) (run : Run) (new : Left) (x n : ℕ) → IsPoll p → c ≡ p.c → IsFirstRun old run new
    → n + score_of (borda_points c) old.ballots x ≡ score_of (borda_points c) p.ballots x → n + 2 * (run.count * c) < 2 ^ 64
room_of_run p c old run new x n poll size is counted =
    let most : c ≤ MOST_CANDIDATES = omega (arith, size, poll.most) in
    let all = add_up-le (λ row. borda_points c row x) c p.ballots (λ row. borda_few c row x) in
    let product = mul-le c (length p.ballots) MOST_CANDIDATES MOST_BALLOTS most poll.few in
    let run_product = mul-le run.count c (MOST_BALLOTS + 1) MOST_CANDIDATES (omega (arith, is.few)) most in
    omega (arith, all, product, run_product, counted)

-- the number of first preferences is the score under plurality
pub scored : (ballots : List (List ℕ)) (n x : ℕ) → n ≡ first_count ballots x → n ≡ score_of plurality_points ballots x
scored ballots n x is = is ∙ sym (plurality_score ballots x)
