-- The pairs of a program's variables and slacks, as code finds them.
use Rattle.std.proofs.Common.{ℕ, ◌≡◌, ◌≢◌, ◌<◌, ◌+◌, ◌-◌, arith, refl, ap, sym, ◌∙◌, ⊎_elim, subst, List, length, get_or, set, Some, None, Option}
use Rattle.std.specs.Prelude.{ℤ, pos, is_some, if◌then◌else◌}
use Rattle.std.proofs.lemmas.Bool.{cases_eq}
use Rattle.std.proofs.lemmas.List.{get_or_default, get_or-set_other, get_or-set_same, length-set}
use Rattle.row_program.specs.Bounds.{IsRow}
use Rattle.row_program.specs.declared.program.Term.{Term}
use Rattle.row_program.specs.declared.program.Row.{Row}
use Rattle.row_program.specs.Forms.{empty_row}
use Rattle.pivot_form.specs.declared.places.Pair.{Pair}
use Rattle.pivot_form.specs.Starts.{ArePairs, IsClassPair, IsClassRow, pair_in, paired_up}

-- a row as a loop over the rows finds it
pub row_read : (rows from : List Row) (i : ℕ) (row : Row) → from ≡ rows → i < length from → row ≡ get_or from i row → row ≡ get_or rows i empty_row
row_read rows from i row e h is = is ∙ get_or_default from i row empty_row h ∙ ap (λ (xs : List Row). get_or xs i empty_row) e

-- such a row's variable is one of the program's
pub class_within : (n : ℕ) (row : Row) (f : ℕ) → IsClassRow row f → IsRow n row → f < n
class_within n row f is good =
    let d : Term = record { variable = 0; times = pos 0 } in
    subst (λ (terms : List Term). (get_or terms 0 d).variable < n) is.terms (good.within 0 d (omega (arith, ap length is.terms)))

-- a row that makes no pair
pub pairs_past : (n : ℕ) (rows : List Row) (i j : ℕ) (pairs : List (Option Pair)) → ArePairs n rows i pairs → i + 1 ≡ j → ArePairs n rows j pairs
pairs_past n rows i j pairs are h = record { width = are.width; both = are.both; sides = are.sides; slacks = are.slacks; later = λ v l. are.later v (omega (arith, l, h)) }

abbrev two : ℕ → ℤ → Option Pair
two other sum = Some (record { other = other; sum = sum })

abbrev one_set : List (Option Pair) → ℕ → ℕ → ℤ → List (Option Pair)
one_set pairs a b c = set pairs a (two b c)

abbrev both_set : List (Option Pair) → ℕ → ℕ → ℤ → List (Option Pair)
both_set pairs a b c = set (set pairs a (two b c)) b (two a c)

-- and one that makes one, of the variable f
module _ (n : ℕ) (rows : List Row) (i j f : ℕ) (c : ℤ) (pairs : List (Option Pair)) (are : ArePairs n rows i pairs) (next : i + 1 ≡ j) (inside : i < length rows) (low : f < n) (is : IsClassRow (get_or rows i empty_row) f) (sum : c ≡ (get_or rows i empty_row).constant) where
  first_width : length (one_set pairs (1 + f) (1 + n + i) c) ≡ 1 + n + length rows
  first_width = length-set pairs (1 + f) (two (1 + n + i) c) ∙ are.width

  at_variable : pair_in (both_set pairs (1 + f) (1 + n + i) c) (1 + f) ≡ two (1 + n + i) c
  at_variable = get_or-set_other (one_set pairs (1 + f) (1 + n + i) c) (1 + n + i) (1 + f) (two (1 + f) c) None (λ e. absurd (omega (arith, e, low))) ∙ get_or-set_same pairs (1 + f) (two (1 + n + i) c) None (omega (arith, low, are.width))

  at_slack : pair_in (both_set pairs (1 + f) (1 + n + i) c) (1 + n + i) ≡ two (1 + f) c
  at_slack = get_or-set_same (one_set pairs (1 + f) (1 + n + i) c) (1 + n + i) (two (1 + f) c) None (omega (arith, first_width, inside))

  elsewhere : (v : ℕ) → v ≢ 1 + f → v ≢ 1 + n + i → pair_in (both_set pairs (1 + f) (1 + n + i) c) v ≡ pair_in pairs v
  elsewhere v off away = get_or-set_other (one_set pairs (1 + f) (1 + n + i) c) (1 + n + i) v (two (1 + f) c) None away ∙ get_or-set_other pairs (1 + f) v (two (1 + n + i) c) None off

  by_place : {P : Type 0} (v : ℕ) (q : Pair) → pair_in (both_set pairs (1 + f) (1 + n + i) c) v ≡ Some q → (v ≡ 1 + f → q ≡ record { other = 1 + n + i; sum = c } → P) → (v ≡ 1 + n + i → q ≡ record { other = 1 + f; sum = c } → P) → (v ≢ 1 + f → v ≢ 1 + n + i → pair_in pairs v ≡ Some q → P) → P
  by_place v q e variable slack other =
      ⊎_elim
      (λ (at : v ≡ 1 + f). variable at (let g : Some q ≡ two (1 + n + i) c = sym e ∙ ap (pair_in (both_set pairs (1 + f) (1 + n + i) c)) at ∙ at_variable in cc))
      (λ off. ⊎_elim
      (λ (at : v ≡ 1 + n + i). slack at (let g : Some q ≡ two (1 + f) c = sym e ∙ ap (pair_in (both_set pairs (1 + f) (1 + n + i) c)) at ∙ at_slack in cc))
      (λ away. other off away (sym (elsewhere v off away) ∙ e))
      (cases_eq v (1 + n + i)))
      (cases_eq v (1 + f))

  pairs_made : pair_in pairs (1 + f) ≡ None → ArePairs n rows j (both_set pairs (1 + f) (1 + n + i) c)
  pairs_made free = record {
    width = length-set (one_set pairs (1 + f) (1 + n + i) c) (1 + n + i) (two (1 + f) c) ∙ first_width;
    both = λ v q e. by_place v q e
        (λ at pair. ap (λ (x : Pair). pair_in (both_set pairs (1 + f) (1 + n + i) c) x.other) pair ∙ at_slack ∙ ap (λ (x : ℕ). two x c) (sym at) ∙ ap (λ (x : Pair). two v x.sum) (sym pair))
        (λ at pair. ap (λ (x : Pair). pair_in (both_set pairs (1 + f) (1 + n + i) c) x.other) pair ∙ at_variable ∙ ap (λ (x : ℕ). two x c) (sym at) ∙ ap (λ (x : Pair). two v x.sum) (sym pair))
        (λ off away old. let back = are.both v q old in
        elsewhere q.other (taken q.other (1 + f) (record { other = v; sum = q.sum }) free back) (taken q.other (1 + n + i) (record { other = v; sum = q.sum }) (are.later (1 + n + i) (omega arith)) back) ∙ back);
    sides = λ v q e l. by_place v q e
        (λ at pair. let o : q.other ≡ 1 + n + i = ap (λ (x : Pair). x.other) pair in omega (arith, o))
        (λ at pair. absurd (omega (arith, at, l)))
        (λ off away old. are.sides v q old l);
    slacks = λ v q e l. by_place v q e
        (λ at pair. absurd (omega (arith, at, l, low)))
        (λ at pair. subst (IsClassPair n rows v) (sym pair) (record {
          above = omega arith;
          variable = omega (arith, low);
          class_row = subst (IsClassRow (get_or rows (v - (1 + n)) empty_row)) (omega arith) (subst (λ (k : ℕ). IsClassRow (get_or rows k empty_row) f) (omega (arith, at)) is);
          sum = sum ∙ ap (λ (k : ℕ). (get_or rows k empty_row).constant) (omega (arith, at));
        }))
        (λ off away old. are.slacks v q old l);
    later = λ v l. elsewhere v (λ e. absurd (omega (arith, e, l, low))) (λ e. absurd (omega (arith, e, l, next))) ∙ are.later v (omega (arith, l, next));
  }
    where
      taken : (v w : ℕ) (q : Pair) → pair_in pairs w ≡ None → pair_in pairs v ≡ Some q → v ≢ w
      taken v w q none some e = let g : None ≡ Some q = sym none ∙ ap (pair_in pairs) (sym e) ∙ some in cc

  pub pairs_more : ArePairs n rows j (paired_up pairs (1 + f) (1 + n + i) c)
  pairs_more = by (pair_in pairs (1 + f)) refl
    where
      by : (q : Option Pair) → pair_in pairs (1 + f) ≡ q → ArePairs n rows j (paired_up pairs (1 + f) (1 + n + i) c)
      by None e = subst (ArePairs n rows j) (sym (ap (λ (q : Option Pair). if is_some q then pairs else (both_set pairs (1 + f) (1 + n + i) c)) e)) (pairs_made e)
      by (Some q) e = subst (ArePairs n rows j) (sym (ap (λ (q : Option Pair). if is_some q then pairs else (both_set pairs (1 + f) (1 + n + i) c)) e)) (pairs_past n rows i j pairs are next)
