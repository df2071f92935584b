-- Counts of ballots.
use Rattle.std.proofs.Common.{ℕ, List, [], ◌∷◌, ◌≡◌, ◌<◌, ◌≤◌, ◌+◌, ◌-◌, cond, length, refl, arith}
use Rattle.std.proofs.lemmas.List.Sums.{count_by-le-length, sum_by-cons}
use Rattle.ballot_form.proofs.RunSums.{count_of_run}
use Rattle.condorcet_count.specs.Behind.{behind_count, is_behind}
use Rattle.ballot_form.specs.declared.runs.Run.{Run}
use Rattle.ballot_form.specs.Ballots.{Poll}
use Rattle.ballot_form.specs.Runs.{IsFirstRun, Left}
use Rattle.condorcet_count.specs.Preferences.{ArePrefs, count_at, pref_of, prefers}
use Rattle.condorcet_count.proofs.Places.{prefers_or_behind}

-- a run more
pub behind_of_run : (old : Left) (run : Run) (new : Left) (x y : ℕ) → IsFirstRun old run new
    → behind_count old.ballots x y ≡ cond (is_behind run.row.now x y) run.count 0 + behind_count new.ballots x y
behind_of_run old run new x y is = count_of_run (λ row. is_behind row x y) old run new is

pub behind_le : (rows : List (List ℕ)) (x y : ℕ) → behind_count rows x y ≤ length rows
behind_le rows x y = count_by-le-length (λ row. is_behind row x y) rows

-- of the ballots that rank x, those that don't have y up to it prefer x
pub all_that_rank : (rows : List (List ℕ)) (x y : ℕ) → pref_of rows x y + behind_count rows x y ≡ behind_count rows x x
all_that_rank [] x y = refl
all_that_rank (row ∷ rows) x y =
    let one = prefers_or_behind row x y in
    let rest = all_that_rank rows x y in
    let a = sum_by-cons (λ r. cond (prefers r x y) 1 0) row rows in
    let b = sum_by-cons (λ r. cond (is_behind r x y) 1 0) row rows in
    let d = sum_by-cons (λ r. cond (is_behind r x x) 1 0) row rows in
    rw (a, b, d) (omega (arith, one, rest))

behind_least : (rows : List (List ℕ)) (x y : ℕ) → behind_count rows x y ≤ behind_count rows x x
behind_least rows x y = omega (arith, all_that_rank rows x y)

behind_rest : (rows : List (List ℕ)) (x y : ℕ) → behind_count rows x x - behind_count rows x y ≡ pref_of rows x y
behind_rest rows x y = omega (arith, all_that_rank rows x y)

-- for each two candidates below n, on how many ballots the one stands behind the other
abbrev pub AreBehind : ℕ → List (List ℕ) → List ℕ → Type 0
AreBehind n rows counts = (x y : ℕ) → x < n → y < n → count_at n counts x y ≡ behind_count rows x y

pub least_of_behind : (c n : ℕ) (rows : List (List ℕ)) (counts : List ℕ) → c ≡ n → AreBehind n rows counts
    → (x y : ℕ) → x < c → y < c → count_at c counts x y ≤ count_at c counts x x
least_of_behind c n rows counts same are x y xc yc =
    rw same (omega (arith, are x y (omega arith) (omega arith), are x x (omega arith) (omega arith), behind_least rows x y))

pub prefs_of_behind : (p : Poll) (c : ℕ) (old new : List ℕ) → c ≡ p.c → AreBehind p.c p.ballots old
    → ((x y : ℕ) → x < c → y < c → count_at c new x y ≡ count_at c old x x - count_at c old x y) → ArePrefs p (record { c = p.c; counts = new })
prefs_of_behind p c old new same are set = record {
  candidates = refl;
  each = λ x y xc yc.
      let here = rw same at (set x y (omega arith) (omega arith)) in
      omega (arith, here, are x y xc yc, are x x xc xc, behind_rest p.ballots x y);
}
