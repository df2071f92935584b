-- What a run of equal ballots adds to a count and to a sum.
use Rattle.std.proofs.Common.{ℕ, zero, suc, List, ◌++◌, Bool, true, false, ◌≡◌, ◌+◌, ◌*◌, ◌∙◌, cond, length, replicate, ap, arith, length-append, suc-mul}
use Rattle.std.specs.Prelude.{count_by}
use Rattle.std.proofs.lemmas.List.{length-replicate}
use Rattle.std.proofs.lemmas.List.Sums.{sum_by-cons}
use Rattle.mov_base.specs.Sums.{add_up}
use Rattle.ballot_form.specs.declared.runs.Run.{Run}
use Rattle.ballot_form.specs.Runs.{IsFirstRun, Left}

count_equal : {X : Type 0} (p : X → Bool) (n : ℕ) (x : X) (ys : List X) → count_by p (replicate n x ++ ys) ≡ cond (p x) n 0 + count_by p ys
count_equal p zero x ys = none (p x)
  where
    none : (b : Bool) → count_by p ys ≡ cond b 0 0 + count_by p ys
    none true = omega arith
    none false = omega arith
count_equal p (suc n) x ys = sum_by-cons (λ y. cond (p y) 1 0) x (replicate n x ++ ys) ∙ more (p x) (count_by p (replicate n x ++ ys)) (count_equal p n x ys)
  where
    more : (b : Bool) (all : ℕ) → all ≡ cond b n 0 + count_by p ys → cond b 1 0 + all ≡ cond b (suc n) 0 + count_by p ys
    more true all e = omega (arith, e)
    more false all e = omega (arith, e)

sum_equal : {X : Type 0} (f : X → ℕ) (n : ℕ) (x : X) (ys : List X) → add_up f (replicate n x ++ ys) ≡ n * f x + add_up f ys
sum_equal f zero x ys = omega arith
sum_equal f (suc n) x ys = omega (arith, sum_equal f n x ys, suc-mul n (f x))

-- how many ballots of a kind there are, from how many are left after the run
pub count_of_run : (p : List ℕ → Bool) (old : Left) (run : Run) (new : Left) → IsFirstRun old run new
    → count_by p old.ballots ≡ cond (p run.row.now) run.count 0 + count_by p new.ballots
count_of_run p old run new is = ap (count_by p) is.joined ∙ count_equal p run.count run.row.now new.ballots

pub sum_of_run : (f : List ℕ → ℕ) (old : Left) (run : Run) (new : Left) → IsFirstRun old run new
    → add_up f old.ballots ≡ run.count * f run.row.now + add_up f new.ballots
sum_of_run f old run new is = ap (add_up f) is.joined ∙ sum_equal f run.count run.row.now new.ballots

pub length_of_run : (old : Left) (run : Run) (new : Left) → IsFirstRun old run new → length old.ballots ≡ run.count + length new.ballots
length_of_run old run new is =
    ap length is.joined ∙ length-append (replicate run.count run.row.now) new.ballots ∙ ap (λ k. k + length new.ballots) (length-replicate run.count run.row.now)
