-- The outcome turns exactly where some other candidate's score reaches the reported one's.
use Rattle.std.proofs.Common.{ℕ, zero, suc, List, ◌≡◌, ◌↔◌, ◌<◌, ◌≤◌, refl, ap, subst, sym, arith, inl, inr}
use Rattle.std.proofs.lemmas.Bool.{cases_lt, cases_eq}
use Rattle.ballot_form.specs.Alterations.{after}
use Rattle.ballot_form.specs.Ballots.{Poll}
use Rattle.ballot_form.specs.Scores.{borda_points, plurality_points, score_of}
use Rattle.ballot_form.specs.declared.outcome.Outcome.{Outcome}
use Rattle.ballot_form.specs.declared.outcome.Outcome.TheVariants.{Winner, NoWinner, Seats}
use Rattle.ballot_form.specs.declared.rule.Rule.TheVariants.{Borda, Plurality}
use Rattle.goal_rows.specs.Outcomes.{Admits, HasGreatestScore, IsLowestWithGreatest, IsReported}
use Rattle.goal_rows.specs.Margins.{Turns}
use Rattle.goal_rows.specs.Pairs.{IsLevel}
use Rattle.goal_rows.proofs.OutcomesReported.{one_lowest}

-- of some numbers one is the greatest
greatest_below : (f : ℕ → ℕ) (c : ℕ) → 0 < c → (x : ℕ) × (x < c) × ((y : ℕ) → y < c → f y ≤ f x)
greatest_below f zero some = absurd (omega arith)
greatest_below f (suc zero) some = (0, omega arith, λ y lt. let e : y ≡ 0 = omega arith in rw e (omega arith))
greatest_below f (suc (suc c)) some =
    let best = greatest_below f (suc c) (omega arith) in
    elim (cases_lt (f best.0) (f (suc c))) [
      | inl more ↦ (
        suc c,
        omega arith,
        λ y lt. elim (cases_lt y (suc c)) [
          | inl below ↦ omega (arith, best.2 y below)
          | inr end ↦ let e : y ≡ suc c = omega arith in rw e (omega arith)
        ],
      )
      | inr less ↦ (
        best.0,
        omega (arith, best.1),
        λ y lt. elim (cases_lt y (suc c)) [
          | inl below ↦ best.2 y below
          | inr end ↦ let e : y ≡ suc c = omega arith in rw e less
        ],
      )
    ]

-- where the score of some other candidate reaches that of x, another one than x can have the greatest
pub other_greatest : (points : List ℕ → ℕ → ℕ) (p q : Poll) (x j : ℕ) → IsLowestWithGreatest points p x → IsLevel points q x j
    → (o : ℕ) × (IsLowestWithGreatest points p o → ⊥) × HasGreatestScore points q o
other_greatest points p q x j is level =
    let f : ℕ → ℕ = λ y. score_of points q.ballots y in
    let best = greatest_below f q.c (omega (arith, level.stands)) in
    elim (cases_eq best.0 x) [
      | inr differ ↦ (best.0, λ r. differ (one_lowest points p best.0 x r is), record { stands = best.1; greatest = best.2 })
      | inl same ↦ (
        j,
        λ r. level.other (one_lowest points p j x r is),
        record { stands = level.stands; greatest = λ y lt. let top = best.2 y lt in let e : f best.0 ≡ f x = ap f same in omega (arith, level.level) },
      )
    ]

pub level_of : (points : List ℕ → ℕ → ℕ) (p q : Poll) (x o : ℕ) → q.c ≡ p.c → IsLowestWithGreatest points p x → (IsLowestWithGreatest points p o → ⊥) → HasGreatestScore points q o
    → (j : ℕ) × IsLevel points q x j
level_of points p q x o same is unlike best = elim (cases_eq o x) [
  | inl e ↦ absurd (unlike (subst (λ z. IsLowestWithGreatest points p z) (sym e) is))
  | inr differ ↦ (o, record { stands = best.stands; other = differ; level = best.greatest x (let h = is.greatest.stands in omega arith) })
]

pub turns_from_level : (p : Poll) (x j : ℕ) (changes : List (ℕ × List ℕ)) → IsLowestWithGreatest plurality_points p x → IsLevel plurality_points (after p changes) x j → Turns Plurality p changes
turns_from_level p x j changes is level =
    let other = other_greatest plurality_points p (after p changes) x j is level in
    (Winner other.0, other.1, other.2)

level_by : (p : Poll) (x : ℕ) (changes : List (ℕ × List ℕ)) (o : Outcome) → IsLowestWithGreatest plurality_points p x → (IsReported Plurality p o → ⊥) → Admits Plurality (after p changes) o
    → (j : ℕ) × IsLevel plurality_points (after p changes) x j
level_by p x changes (Winner y) is unlike best = level_of plurality_points p (after p changes) x y refl is unlike best
level_by p x changes NoWinner is unlike best = absurd best
level_by p x changes (Seats s) is unlike best = absurd best

pub level_from_turns : (p : Poll) (x : ℕ) (changes : List (ℕ × List ℕ)) → IsLowestWithGreatest plurality_points p x → Turns Plurality p changes → (j : ℕ) × IsLevel plurality_points (after p changes) x j
level_from_turns p x changes is turns = level_by p x changes turns.0 is turns.1 turns.2

pub turns_exactly : (p : Poll) (x : ℕ) (changes : List (ℕ × List ℕ)) → IsReported Plurality p (Winner x) → Turns Plurality p changes ↔ ((j : ℕ) × IsLevel plurality_points (after p changes) x j)
turns_exactly p x changes is = (level_from_turns p x changes is, λ level. turns_from_level p x level.0 changes is level.1)

borda_from_level : (p : Poll) (x : ℕ) (changes : List (ℕ × List ℕ)) → IsLowestWithGreatest (borda_points p.c) p x → ((j : ℕ) × IsLevel (borda_points p.c) (after p changes) x j) → Turns Borda p changes
borda_from_level p x changes is level =
    let other = other_greatest (borda_points p.c) p (after p changes) x level.0 is level.1 in
    (Winner other.0, other.1, other.2)

borda_level : (p : Poll) (x : ℕ) (changes : List (ℕ × List ℕ)) (o : Outcome) → IsLowestWithGreatest (borda_points p.c) p x → (IsReported Borda p o → ⊥) → Admits Borda (after p changes) o
    → (j : ℕ) × IsLevel (borda_points p.c) (after p changes) x j
borda_level p x changes (Winner y) is unlike best = level_of (borda_points p.c) p (after p changes) x y refl is unlike best
borda_level p x changes NoWinner is unlike best = absurd best
borda_level p x changes (Seats s) is unlike best = absurd best

pub borda_turns_exactly : (p : Poll) (x : ℕ) (changes : List (ℕ × List ℕ)) → IsReported Borda p (Winner x) → Turns Borda p changes ↔ ((j : ℕ) × IsLevel (borda_points p.c) (after p changes) x j)
borda_turns_exactly p x changes is = (λ turns. borda_level p x changes turns.0 is turns.1 turns.2, λ level. borda_from_level p x changes is level)
