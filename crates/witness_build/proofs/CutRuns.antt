-- The cuts of the last round over a run of equal ballots.
use Rattle.std.proofs.Common.{ℕ, zero, suc, List, [], ◌∷◌, ◌++◌, true, false, ◌≡◌, ◌<◌, ◌≤◌, ◌+◌, ◌-◌, ◌∙◌, cond, min, map, replicate, take, ap, sym, refl, arith, append_assoc}
use Rattle.std.specs.List.{range_with_len}
use Rattle.std.proofs.lemmas.List.{map-append}
use Rattle.std.proofs.lemmas.List.FromFn.{map-range_with_len_more}
use Rattle.alteration_model.specs.Faults.{pairs_of}
use Rattle.alteration_model.specs.declared.puts.Put.{Put}
use Rattle.ballot_form.specs.Runs.{IsFirstRun, Left}
use Rattle.ballot_form.specs.declared.runs.Run.{Run}
use Rattle.witness_build.specs.LastRounds.{cut_at, cuts_from, holds_last}

-- the cuts of so many equal ballots, with their numbers
abbrev pub equal_cuts : ℕ → ℕ → List ℕ → ℕ → ℕ → List (ℕ × List ℕ)
equal_cuts x r row first k = map (λ number. (number, cut_at x r row)) (range_with_len first k)

-- a run that x doesn't hold has none
kept_run : (x r i n : ℕ) (row : List ℕ) (rest : List (List ℕ)) → holds_last x r row ≡ false → cuts_from x r i (replicate n row ++ rest) ≡ cuts_from x r (i + n) rest
kept_run x r i zero row rest off = let e : i ≡ i + 0 = omega arith in ap (λ k. cuts_from x r k rest) e
kept_run x r i (suc n) row rest off =
    let left = cuts_from x r (i + 1) (replicate n row ++ rest) in
    let e : i + 1 + n ≡ i + suc n = omega arith in
    ap (λ b. cond b ((i, cut_at x r row) ∷ left) left) off ∙ kept_run x r (i + 1) n row rest off ∙ ap (λ k. cuts_from x r k rest) e

-- of a run that x holds the first k are cut, and where not all are, no later one is
cut_run : (x r i n k left : ℕ) (row : List ℕ) (rest : List (List ℕ)) → holds_last x r row ≡ true → k ≤ n → (k < n → left ≡ 0)
    → take (k + left) (cuts_from x r i (replicate n row ++ rest)) ≡ equal_cuts x r row i k ++ take left (cuts_from x r (i + n) rest)
cut_run x r i zero zero left row rest on within all =
    let e : i ≡ i + 0 = omega arith in
    let none : 0 + left ≡ left = omega arith in
    ap (λ k. take k (cuts_from x r i rest)) none ∙ ap (λ k. take left (cuts_from x r k rest)) e
cut_run x r i zero (suc k) left row rest on within all = absurd (omega (arith, within))
cut_run x r i (suc n) zero left row rest on within all =
    let e : left ≡ 0 = all (omega arith) in
    rw e refl
cut_run x r i (suc n) (suc k) left row rest on within all =
    let later = cuts_from x r (i + 1) (replicate n row ++ rest) in
    let more : suc k + left ≡ suc (k + left) = omega arith in
    let e : i + 1 + n ≡ i + suc n = omega arith in
    ap (λ m. take m (cuts_from x r i (replicate (suc n) row ++ rest))) more
    ∙ ap (λ b. take (suc (k + left)) (cond b ((i, cut_at x r row) ∷ later) later)) on
    ∙ ap (λ cs. (i, cut_at x r row) ∷ cs) (cut_run x r (i + 1) n k left row rest on (omega (arith, within)) (λ lt. all (omega (arith, lt)))
    ∙ ap (λ m. equal_cuts x r row (i + 1) k ++ take left (cuts_from x r m rest)) e)

-- ---- one put more

pub put_more : (row : List ℕ) (first i : ℕ) (puts : List Put) (put : Put) (before : List (ℕ × List ℕ)) → put.number ≡ first + i → put.ballot ≡ row
    → pairs_of puts ≡ before ++ map (λ number. (number, row)) (range_with_len first i)
    → pairs_of (puts ++ put ∷ []) ≡ before ++ map (λ number. (number, row)) (range_with_len first (i + 1))
put_more row first i puts put before numbered is so_far =
    let numbers = map (λ (number : ℕ). (number, row)) (range_with_len first i) in
    let last : (put.number, put.ballot) ≡ (first + i, row) = ap (λ n. (n, put.ballot)) numbered ∙ ap (λ b. (first + i, b)) is in
    map-append (λ (put : Put). (put.number, put.ballot)) puts (put ∷ []) ∙ ap (λ cs. cs ++ (put.number, put.ballot) ∷ []) so_far
    ∙ append_assoc before numbers ((put.number, put.ballot) ∷ []) ∙ ap (λ change. before ++ (numbers ++ change ∷ [])) last
    ∙ ap (λ cs. before ++ cs) (sym (map-range_with_len_more (λ number. (number, row)) first i (first + i) refl))

-- ---- one run more

-- the cuts so far and those still wanted of the ballots that are left are all
abbrev pub AreCut : ℕ → ℕ → ℕ → Left → List (ℕ × List ℕ) → List (ℕ × List ℕ) → Type 0
AreCut x r wanted left puts all = puts ++ take wanted (cuts_from x r left.first left.ballots) ≡ all

pub cuts_more : (x r k wanted next : ℕ) (old : Left) (run : Run) (new : Left) (puts more all : List (ℕ × List ℕ)) → IsFirstRun old run new → holds_last x r run.row.now ≡ true
    → k ≡ min wanted run.count → next ≡ wanted - k → more ≡ puts ++ equal_cuts x r run.row.now run.first k → AreCut x r wanted old puts all → AreCut x r next new more all
cuts_more x r k wanted next old run new puts more all is on count rest added so_far =
    let begins : cuts_from x r old.first old.ballots ≡ cuts_from x r run.first (replicate run.count run.row.now ++ new.ballots) =
    ap (λ i. cuts_from x r i old.ballots) (sym is.numbered) ∙ ap (cuts_from x r run.first) is.joined in
    let whole : wanted ≡ k + next = omega (arith, count, rest) in
    let behind : run.first + run.count ≡ new.first = ap (λ i. i + run.count) is.numbered ∙ sym is.after in
    let step : take wanted (cuts_from x r old.first old.ballots) ≡ equal_cuts x r run.row.now run.first k ++ take next (cuts_from x r new.first new.ballots) =
    ap (λ cs. take wanted cs) begins ∙ ap (λ m. take m (cuts_from x r run.first (replicate run.count run.row.now ++ new.ballots))) whole
    ∙ cut_run x r run.first run.count k next run.row.now new.ballots on (omega (arith, count)) (λ lt. omega (arith, count, rest, lt))
    ∙ ap (λ i. equal_cuts x r run.row.now run.first k ++ take next (cuts_from x r i new.ballots)) behind in
    ap (λ cs. cs ++ take next (cuts_from x r new.first new.ballots)) added
    ∙ append_assoc puts (equal_cuts x r run.row.now run.first k) (take next (cuts_from x r new.first new.ballots))
    ∙ ap (λ cs. puts ++ cs) (sym step) ∙ so_far

pub cuts_kept : (x r wanted : ℕ) (old : Left) (run : Run) (new : Left) (puts all : List (ℕ × List ℕ)) → IsFirstRun old run new → holds_last x r run.row.now ≡ false
    → AreCut x r wanted old puts all → AreCut x r wanted new puts all
cuts_kept x r wanted old run new puts all is off so_far =
    let behind : run.first + run.count ≡ new.first = ap (λ i. i + run.count) is.numbered ∙ sym is.after in
    let step : cuts_from x r old.first old.ballots ≡ cuts_from x r new.first new.ballots =
    ap (λ i. cuts_from x r i old.ballots) (sym is.numbered) ∙ ap (cuts_from x r run.first) is.joined
    ∙ kept_run x r run.first run.count run.row.now new.ballots off ∙ ap (λ i. cuts_from x r i new.ballots) behind in
    ap (λ cs. puts ++ take wanted cs) (sym step) ∙ so_far
