-- A run of equal ballots more on the way to those with the largest gains.
use Rattle.std.proofs.Common.{ℕ, zero, suc, List, [], ◌∷◌, ◌++◌, ◌≡◌, ◌<◌, ◌≤◌, ◌+◌, ◌-◌, ◌∙◌, sym, ap, length, replicate, append_assoc, append-nil, length-append, refl, arith}
use Rattle.std.specs.List.{range_with_len}
use Rattle.ballot_form.specs.declared.runs.Run.{Run}
use Rattle.ballot_form.specs.Runs.{IsFirstRun, Left}
use Rattle.witness_build.specs.Levels.{first_from}
use Rattle.witness_build.proofs.Largest.{from_greater, from_level, from_passed}

-- ---- equal gains

equal_greater : (θ equal i n gain : ℕ) (later : List ℕ) → θ < gain
    → first_from θ equal i (replicate n gain ++ later) ≡ range_with_len i n ++ first_from θ equal (i + n) later
equal_greater θ equal i zero gain later high = ap (λ j. first_from θ equal j later) (omega arith)
equal_greater θ equal i (suc n) gain later high =
    let next : i + 1 + n ≡ i + suc n = omega arith in
    from_greater θ equal i gain (replicate n gain ++ later) high
    ∙ ap (λ xs. i ∷ xs) (equal_greater θ equal (i + 1) n gain later high ∙ ap (λ j. range_with_len (i + 1) n ++ first_from θ equal j later) next)

-- as many of them as are left
equal_level : (θ equal i n k gain : ℕ) (later : List ℕ) → gain ≡ θ → k ≤ n → k ≤ equal → (k < n → k ≡ equal)
    → first_from θ equal i (replicate n gain ++ later) ≡ range_with_len i k ++ first_from θ (equal - k) (i + n) later
equal_level θ equal i zero zero gain later same within left all = let e : equal - 0 ≡ equal = omega arith in let j : i + 0 ≡ i = omega arith in rw (e, j) refl
equal_level θ equal i zero (suc k) gain later same within left all = absurd (omega (arith, within))
equal_level θ equal i (suc n) zero gain later same within left all =
    let none : 0 ≡ equal = all (omega arith) in
    let next : i + 1 + n ≡ i + suc n = omega arith in
    from_passed θ equal i gain (replicate n gain ++ later) (omega (arith, same)) (λ _. sym none)
    ∙ equal_level θ equal (i + 1) n 0 gain later same (omega arith) left (λ _. none) ∙ ap (λ j. first_from θ (equal - 0) j later) next
equal_level θ equal i (suc n) (suc k) gain later same within left all =
    let next : i + 1 + n ≡ i + suc n = omega arith in
    let fewer : equal - 1 - k ≡ equal - suc k = omega arith in
    from_level θ equal i gain (replicate n gain ++ later) same (omega (arith, left))
    ∙ ap (λ xs. i ∷ xs) (equal_level θ (equal - 1) (i + 1) n k gain later same (omega (arith, within)) (omega (arith, left))
    (λ lt. let e = all (omega (arith, lt)) in omega (arith, e))
    ∙ ap (λ j. range_with_len (i + 1) k ++ first_from θ (equal - 1 - k) j later) next ∙ ap (λ m. range_with_len (i + 1) k ++ first_from θ m (i + suc n) later) fewer)

equal_passed : (θ equal i n gain : ℕ) (later : List ℕ) → gain < θ → first_from θ equal i (replicate n gain ++ later) ≡ first_from θ equal (i + n) later
equal_passed θ equal i zero gain later low = ap (λ j. first_from θ equal j later) (omega arith)
equal_passed θ equal i (suc n) gain later low =
    let next : i + 1 + n ≡ i + suc n = omega arith in
    from_passed θ equal i gain (replicate n gain ++ later) (omega (arith, low)) (λ e. absurd (omega (arith, e, low)))
    ∙ equal_passed θ equal (i + 1) n gain later low ∙ ap (λ j. first_from θ equal j later) next

-- ---- the gains of the ballots that are left, from the number i

-- so many are left of those with the threshold's gain
abbrev pub IsPicked : ℕ → ℕ → ℕ → List ℕ → List ℕ → List ℕ → Type 0
IsPicked θ equal i numbers gains whole = numbers ++ first_from θ equal i gains ≡ whole

taken : (θ equal left i j : ℕ) (numbers added more gains later whole : List ℕ) → more ≡ numbers ++ added
    → first_from θ equal i gains ≡ added ++ first_from θ left j later → IsPicked θ equal i numbers gains whole → IsPicked θ left j more later whole
taken θ equal left i j numbers added more gains later whole is step so_far =
    rw is (append_assoc numbers added (first_from θ left j later) ∙ ap (λ rest. numbers ++ rest) (sym step) ∙ so_far)

pub picked_greater : (θ equal gain : ℕ) (old : Left) (run : Run) (new : Left) (numbers more gains later whole : List ℕ) → IsFirstRun old run new
    → gains ≡ replicate run.count gain ++ later → θ < gain → more ≡ numbers ++ range_with_len run.first run.count
    → IsPicked θ equal old.first numbers gains whole → IsPicked θ equal new.first more later whole
picked_greater θ equal gain old run new numbers more gains later whole is split high added so_far =
    taken θ equal equal old.first new.first numbers (range_with_len run.first run.count) more gains later whole added
    (rw (is.numbered, is.after) (ap (first_from θ equal old.first) split ∙ equal_greater θ equal old.first run.count gain later high)) so_far

pub picked_level : (θ equal gain k : ℕ) (old : Left) (run : Run) (new : Left) (numbers more gains later whole : List ℕ) → IsFirstRun old run new
    → gains ≡ replicate run.count gain ++ later → gain ≡ θ → k ≤ run.count → k ≤ equal → (k < run.count → k ≡ equal) → more ≡ numbers ++ range_with_len run.first k
    → IsPicked θ equal old.first numbers gains whole → IsPicked θ (equal - k) new.first more later whole
picked_level θ equal gain k old run new numbers more gains later whole is split same within left all added so_far =
    taken θ equal (equal - k) old.first new.first numbers (range_with_len run.first k) more gains later whole added
    (rw (is.numbered, is.after) (ap (first_from θ equal old.first) split ∙ equal_level θ equal old.first run.count k gain later same within left all)) so_far

pub picked_none : (θ equal gain : ℕ) (old : Left) (run : Run) (new : Left) (numbers more gains later whole : List ℕ) → IsFirstRun old run new
    → gains ≡ replicate run.count gain ++ later → gain < θ → more ≡ numbers ++ range_with_len run.first 0
    → IsPicked θ equal old.first numbers gains whole → IsPicked θ equal new.first more later whole
picked_none θ equal gain old run new numbers more gains later whole is split low added so_far =
    taken θ equal equal old.first new.first numbers [] more gains later whole added
    (rw is.after (ap (first_from θ equal old.first) split ∙ equal_passed θ equal old.first run.count gain later low)) so_far

none_long : (xs : List ℕ) → length xs ≡ 0 → xs ≡ []
none_long [] none = refl
none_long (x ∷ xs) none = absurd (omega (arith, none))

pub picked_all : (θ equal i : ℕ) (numbers gains whole : List ℕ) → gains ≡ [] → IsPicked θ equal i numbers gains whole → numbers ≡ whole
picked_all θ equal i numbers gains whole none so_far = sym (append-nil numbers) ∙ (rw none at so_far)

-- as many as are to be chosen are
pub picked_enough : (θ equal i : ℕ) (numbers gains whole : List ℕ) → length numbers ≡ length whole → IsPicked θ equal i numbers gains whole → numbers ≡ whole
picked_enough θ equal i numbers gains whole size so_far =
    let rest = first_from θ equal i gains in
    let both = length-append numbers rest in
    let none : rest ≡ [] = none_long rest (omega (arith, ap length so_far, both, size)) in
    sym (append-nil numbers) ∙ ap (λ xs. numbers ++ xs) (sym none) ∙ so_far
