-- Replacements bring a gainer no closer than the largest gains.
use Rattle.std.proofs.Common.{ℕ, suc, true, false, cond, List, [], ◌∷◌, ◌==◌, ◌≤◌, ◌+◌, ◌-◌, length, map, arith}
use Rattle.mov_base.specs.Sums.{add_up, most}
use Rattle.ballot_form.specs.Alterations.{IsAlteration, IsAlterationFrom, after_from}
use Rattle.ballot_form.specs.Ballots.{IsValidBallot, Poll}
use Rattle.goal_rows.specs.Pairs.{Reaches, deficit_of, gain_of}

-- one ballot more, replaced or kept
replaced : (top new_plus new_minus old_plus old_minus plus minus plus' minus' best whole : ℕ) → new_plus ≤ top + new_minus
    → plus' + minus ≤ plus + minus' + best → ((top + old_minus) - old_plus) + best ≤ whole
    → (new_plus + plus') + (old_minus + minus) ≤ (old_plus + plus) + (new_minus + minus') + whole
replaced top new_plus new_minus old_plus old_minus plus minus plus' minus' best whole valid rest more = omega (arith, valid, rest, more)

kept : (old_plus old_minus plus minus plus' minus' best whole : ℕ) → plus' + minus ≤ plus + minus' + best → best ≤ whole
    → (old_plus + plus') + (old_minus + minus) ≤ (old_plus + plus) + (old_minus + minus') + whole
kept old_plus old_minus plus minus plus' minus' best whole rest more = omega (arith, rest, more)

pub brought : (c top : ℕ) (plus minus : List ℕ → ℕ) → ((row : List ℕ) → IsValidBallot c row → plus row ≤ top + minus row)
    → (i j n : ℕ) (rows : List (List ℕ)) (changes : List (ℕ × List ℕ)) → IsAlterationFrom c j n changes
    → add_up plus (after_from i rows changes) + add_up minus rows
    ≤ (add_up plus rows + add_up minus (after_from i rows changes)) + most (length changes) (map (gain_of top plus minus) rows)
brought c top plus minus valid i j n [] changes ok = omega arith
brought c top plus minus valid i j n (row ∷ rows) [] ok = omega arith
brought c top plus minus valid i j n (row ∷ rows) (change ∷ changes) ok =
    let yes = brought c top plus minus valid (i + 1) (change.0 + 1) n rows changes ok.3 in
    let no = brought c top plus minus valid (i + 1) j n rows (change ∷ changes) ok in
    let gains = map (gain_of top plus minus) rows in
    elim (change.0 == i) as (λ t.
    add_up plus (cond t (change.1 ∷ after_from (i + 1) rows changes) (row ∷ after_from (i + 1) rows (change ∷ changes))) + add_up minus (row ∷ rows)
    ≤ (add_up plus (row ∷ rows) + add_up minus (cond t (change.1 ∷ after_from (i + 1) rows changes) (row ∷ after_from (i + 1) rows (change ∷ changes)))) + most (length (change ∷ changes)) (map (gain_of top plus minus) (row ∷ rows))) [
      | true ↦ replaced top (plus change.1) (minus change.1) (plus row) (minus row) (add_up plus rows) (add_up minus rows) (add_up plus (after_from (i + 1) rows changes)) (add_up minus (after_from (i + 1) rows changes))
          (most (length changes) gains) (most (suc (length changes)) (gain_of top plus minus row ∷ gains)) (valid change.1 ok.2) yes (omega arith)
      | false ↦ kept (plus row) (minus row) (add_up plus rows) (add_up minus rows) (add_up plus (after_from (i + 1) rows (change ∷ changes))) (add_up minus (after_from (i + 1) rows (change ∷ changes)))
          (most (suc (length changes)) gains) (most (suc (length changes)) (gain_of top plus minus row ∷ gains)) no (omega arith)
    ]

-- where the gainer is level after an alteration, its length reaches
pub length_reaches : (top : ℕ) (plus minus : List ℕ → ℕ) (p : Poll) (changes : List (ℕ × List ℕ))
    → ((row : List ℕ) → IsValidBallot p.c row → plus row ≤ top + minus row) → IsAlteration p changes
    → add_up minus (after_from 1 p.ballots changes) ≤ add_up plus (after_from 1 p.ballots changes)
    → Reaches (deficit_of plus minus p.ballots) (map (gain_of top plus minus) p.ballots) (length changes)
length_reaches top plus minus p changes valid ok level = omega (arith, level, brought p.c top plus minus valid 1 1 (length p.ballots) p.ballots changes ok)
