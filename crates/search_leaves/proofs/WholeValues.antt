-- The least point of a node, in its least denominator: where each of its values is whole, that is 1.
use Rattle.std.proofs.Common.{◌≡◌, ℕ, zero, suc, ◌+◌, ◌*◌, ◌<◌, ◌≤◌, ◌∙◌, List, [], ◌∷◌, All, get_or, length, map, refl, sym, ap, subst, arith, inl, inr}
use Rattle.std.specs.Prelude.{pos, ◌≤ℤ◌, ◌%◌, ◌/◌, slice_index}
use Rattle.std.proofs.lemmas.Bool.{cases_lt}
use Rattle.std.proofs.lemmas.List.{length-map}
use Rattle.std.proofs.lemmas.Nat.{div-add-mod', mod_below, mod-mul-add}
use Rattle.row_program.specs.Points.{SameValues, row_value}
use Rattle.goal_rows.specs.Elections.{Election, Node}
use Rattle.goal_rows.specs.Programs.{IsPointOf, program_rows}
use Rattle.node_bounds.specs.Ceilings.{IsNodePoint, ground_at}
use Rattle.node_bounds.proofs.CellPoints.{not_below, scaled, scaled_at, scaled_row}
use Rattle.search_theory.specs.Branchings.{IsLeastOf, IsWhole, IsWholeAt, Values}
use Rattle.search_leaves.specs.Branched.{HasPart, IsPart}

-- ---- whole values

whole_again : (den : ℕ) (xs : List ℕ) → ((k : ℕ) → k < length xs → slice_index xs k % den ≡ 0) → scaled den (map (λ n. n / den) xs) ≡ xs
whole_again den [] each = refl
whole_again den (x ∷ xs) each =
    let here = div-add-mod' x den in
    let none = each 0 (omega arith) in
    let is : x / den * den ≡ x = omega (arith, here, none) in
    rw is (ap (λ l. x ∷ l) (whole_again den xs (λ k lt. each (suc k) (omega (arith, lt)))))

-- a least point whose values are whole has the denominator 1
whole_den : (e : Election) (node : Node) (q : Values) → IsLeastOf e node q → ((k : ℕ) → k < length q.whole → slice_index q.whole k % q.den ≡ 0) → IsWhole q
whole_den e node q least each =
    let den = q.den in
    let xs = map (λ n. n / den) q.whole in
    let again = whole_again den q.whole each in
    let rows = program_rows (ground_at e node.goal) node.limits in
    let point : IsNodePoint e node xs 1 = record {
      all_variables = length-map q.whole (λ n. n / den) ∙ least.point.all_variables;
      positive = omega arith;
      meets = λ k d lt.
          let row = get_or rows k d in
          let met = subst (λ ys. pos 0 ≤ℤ row_value row ys den) (sym again) (least.point.meets k d lt) in
          not_below den (row_value row xs 1) least.point.positive (subst (λ z. pos 0 ≤ℤ z) (scaled_row den xs row) met);
    } in
    let values : SameValues q.whole q.den xs 1 = λ k. let at = ap (λ ys. slice_index ys k) again in let is = scaled_at den xs k in omega (arith, at, is) in
    let most = least.lowest xs 1 point values in
    let some = least.point.positive in
    omega (arith, most, some)

-- ---- some value isn't whole

first_part : (den : ℕ) (xs : List ℕ) → (((k : ℕ) → k < length xs → slice_index xs k % den ≡ 0) → ⊥) → HasPart xs den
first_part den [] other = absurd (other (λ k lt. absurd (omega (arith, lt))))
first_part den (x ∷ xs) other = elim (cases_lt 0 (x % den)) [
  | inl some ↦ (0, omega arith, λ none. omega (arith, some, none))
  | inr none ↦
      let rest = first_part den xs (λ each. other (λ k lt. both_parts k lt each none)) in
      (suc rest.0, omega (arith, rest.1), rest.2)
]
  where
    both_parts : (k : ℕ) → k < length (x ∷ xs) → ((k : ℕ) → k < length xs → slice_index xs k % den ≡ 0) → x % den ≤ 0 → slice_index (x ∷ xs) k % den ≡ 0
    both_parts zero lt each none = omega (arith, none)
    both_parts (suc k) lt each none = each k (omega (arith, lt))

pub has_part : (e : Election) (node : Node) (q : Values) → IsLeastOf e node q → (IsWhole q → ⊥) → HasPart q.whole q.den
has_part e node q least part = first_part q.den q.whole (λ each. part (whole_den e node q least each))

-- ---- whole at a place

pub whole_at : (q : Values) (k : ℕ) → slice_index q.whole k % q.den ≡ 0 → IsWholeAt q k
whole_at q k none = let is = div-add-mod' (slice_index q.whole k) q.den in (slice_index q.whole k / q.den, omega (arith, is, none))

pub part_at : (q : Values) (k : ℕ) → 1 ≤ q.den → IsPart q.whole q.den k → IsWholeAt q k → ⊥
part_at q k some part whole = part (ap (λ n. n % q.den) whole.1 ∙ no_rest whole.0 q.den some)
  where
    no_rest : (n den : ℕ) → 1 ≤ den → (n * den) % den ≡ 0
    no_rest n den some = let same : n * den ≡ n * den + 0 = omega arith in ap (λ m. m % den) same ∙ mod-mul-add n den 0 (omega (arith, some))
