-- The multipliers of a cell, from their parts.
use Rattle.std.proofs.Common.{◌≡◌, ℕ, suc, ◌+◌, ◌<◌, List, [], ◌∷◌, ◌++◌, Option, Some, None, length, map, ap, refl, ◌∙◌, arith, All}
use Rattle.std.specs.List.{position, range_with_len}
use Rattle.std.proofs.lemmas.List.{length-append, length-map}
use Rattle.std.proofs.lemmas.List.FromFn.{length-range_with_len}
use Rattle.std.proofs.lemmas.List.Elements.{All-nil}
use Rattle.ballot_form.specs.Scores.{is_some_of}
use Rattle.row_program.specs.Bounds.{IsRow}
use Rattle.row_program.specs.Forms.{empty_row}
use Rattle.row_program.specs.declared.Feature.{Feature}
use Rattle.row_program.specs.declared.Limit.{Limit}
use Rattle.row_program.specs.declared.program.Row.{Row}
use Rattle.row_program.specs.declared.program.Term.{Term}
use Rattle.sig_graph.specs.Rows.{one_where}
use Rattle.goal_rows.specs.Cells.{cell_values}
use Rattle.goal_rows.specs.Programs.{program_rows}
use Rattle.goal_rows.specs.declared.parts.Ground.{Ground}
use Rattle.dual_bound.specs.CellCuts.{case_of, cell_gives, cell_multipliers, features_of, first_broken, given_each, given_in, is_broken, terms_at}
use Rattle.dual_bound.specs.declared.cell_cuts.Case.{Case}

-- the terms of a row that there is
pub terms_within : (n : ℕ) (rows : List Row) (broken : Option ℕ) → All (IsRow n) rows → ((r : ℕ) → broken ≡ Some r → r < length rows) → All (λ t. t.variable < n) (terms_at rows broken)
terms_within n rows None good low = All-nil (λ (t : Term). t.variable < n)
terms_within n rows (Some r) good low = (good r empty_row (low r refl)).within

-- 1 for the broken row of so many
abbrev pub row_part : ℕ → Option ℕ → List ℕ
row_part n broken = map (λ r. one_where (is_some_of broken r)) (range_with_len 0 n)

module _ (start : Ground) (limits : List Limit) where
  pub broken_is : (values : List ℕ) (rows : List Row) (broken : Option ℕ) → values ≡ cell_values start limits → rows ≡ program_rows start limits → broken ≡ position (is_broken values) rows
      → broken ≡ first_broken start limits
  broken_is values rows broken v r b =
      b ∙ ap (λ xs. position (is_broken xs) rows) v ∙ ap (position (is_broken (cell_values start limits))) r

  pub multipliers_are : (rows : List Row) (broken : Option ℕ) (terms : List Term) (case : Case) (features : List Feature) (n : ℕ) (front whole : List ℕ)
      → broken ≡ first_broken start limits → rows ≡ program_rows start limits → terms ≡ terms_at rows broken → case ≡ case_of start limits broken terms → features ≡ features_of start
      → n ≡ length start.sums → front ≡ row_part n broken → whole ≡ front ++ given_each limits (given_in case features terms) [] limits → whole ≡ cell_multipliers start limits
  multipliers_are rows broken terms case features n front whole b r t k f m fr w =
      let o = first_broken start limits in
      let ts = terms_at (program_rows start limits) o in
      let t1 : terms ≡ ts = t ∙ ap (λ xs. terms_at xs broken) r ∙ ap (terms_at (program_rows start limits)) b in
      let k1 : case ≡ case_of start limits o ts = k ∙ ap (λ q. case_of start limits q terms) b ∙ ap (case_of start limits o) t1 in
      let f1 : front ≡ row_part (length start.sums) o = fr ∙ ap (row_part n) b ∙ ap (λ j. row_part j o) m in
      w
      ∙ ap (λ xs. xs ++ given_each limits (given_in case features terms) [] limits) f1
      ∙ ap (λ c. row_part (length start.sums) o ++ given_each limits (given_in c features terms) [] limits) k1
      ∙ ap (λ fs. row_part (length start.sums) o ++ given_each limits (given_in (case_of start limits o ts) fs terms) [] limits) f
      ∙ ap (λ xs. row_part (length start.sums) o ++ given_each limits (given_in (case_of start limits o ts) (features_of start) xs) [] limits) t1

pub given_count : (limits : List Limit) (give : Limit → ℕ) (before rest : List Limit) → length (given_each limits give before rest) ≡ length rest
given_count limits give before [] = refl
given_count limits give before (l ∷ rest) = ap suc (given_count limits give (before ++ l ∷ []) rest)

pub multipliers_count : (start : Ground) (limits : List Limit) → length (cell_multipliers start limits) ≡ length start.sums + length limits
multipliers_count start limits =
    let front = row_part (length start.sums) (first_broken start limits) in
    let back = given_each limits (cell_gives start limits) [] limits in
    let a = length-append front back in
    let b = length-map (range_with_len 0 (length start.sums)) (λ r. one_where (is_some_of (first_broken start limits) r)) in
    let d = length-range_with_len 0 (length start.sums) in
    omega (arith, a, b, d, given_count limits (cell_gives start limits) [] limits)
