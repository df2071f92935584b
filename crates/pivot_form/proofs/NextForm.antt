-- The next form, as lists, is that of a pivot.
use Rattle.std.proofs.Common.{ℕ, ◌≡◌, ◌≢◌, ◌<◌, ◌+◌, arith, refl, ap, sym, ◌∙◌, ⊎_elim, subst, List, [], length, get_or, set, drop, None}
use Rattle.std.specs.Prelude.{ℤ, pos, ◌*ℤ◌, ◌-ℤ◌, ◌<ℤ◌, unsigned_abs, ◌↔◌, Vec}
use Prim.Native.Nat.{◌∣◌}
use Rattle.std.specs.Vec.{with_items}
use Rattle.std.proofs.lemmas.Int.{ints}
use Rattle.std.proofs.lemmas.Bool.{cases_eq}
use Rattle.std.proofs.lemmas.Bool.Decides.{nat_tests}
use Rattle.std.proofs.lemmas.List.{get_or-set_same, get_or-set_other, length-set, length-map, get_or_default, with_items_is}
use Rattle.exact_num.specs.Divisors.{row_gcd, primitive, IsPrimitive}
use Rattle.exact_num.proofs.Divisors.{primitive_entry, primitive_lowest, zero_fold}
use Rattle.exact_num.proofs.Ring.{leaf, times, same}
use Rattle.row_program.specs.Forms.{Table, row_of, entry, basic_of, tableau, combination, eliminated, turned, next_row, map_from, next_form, first_large, first_large_of, Holds, IsSolved, IsReduced}
use Rattle.pivot_form.specs.Invariant.{IsForm, row_lists}
use Rattle.pivot_form.proofs.Sums.{positive_product, zero_times}
use Rattle.pivot_form.proofs.Equations.{length-combination, get_or-combination, turned_by, IsTurned, length-map_from, get_or-map_from, small_rows_from_none, all_at, row_lists-get, row_lists-set, length-row_lists, map_front_from, get_or-map_front_from, map_front_from_more, map_from_drop, rows_past}
use Rattle.pivot_form.proofs.Pivots.{IsPivot, next_holds, before_holds, next_solved}

-- the pivot's equation, turned
abbrev pub lead_of : Table → ℕ → ℕ → List ℤ
lead_of t r c = turned c (row_of t r)

-- another equation before it is reduced
abbrev pub mixed : Table → ℕ → ℕ → ℕ → List ℤ
mixed t r c i = combination (get_or (lead_of t r c) c (pos 0)) (row_of t i) (entry t i c) (lead_of t r c)

next_row_at : (place column : ℕ) (lead : List ℤ) (i : ℕ) (row : List ℤ) → i ≡ place → next_row place column lead i row ≡ lead
next_row_at place column lead i row e = grind (arith, nat_tests)

next_row_off : (place column : ℕ) (lead : List ℤ) (i : ℕ) (row : List ℤ) → i ≢ place → next_row place column lead i row ≡ eliminated column row lead
next_row_off place column lead i row h = grind (arith, nat_tests)

pub new_lead : (t : Table) (r c : ℕ) → r < length t.rows → row_of (next_form t r c) r ≡ lead_of t r c
new_lead t r c h = get_or-map_from (next_row r c (lead_of t r c)) 0 t.rows r r [] h (omega arith) ∙ next_row_at r c (lead_of t r c) r (row_of t r) refl

pub new_row : (t : Table) (r c i : ℕ) → i < length t.rows → i ≢ r → row_of (next_form t r c) i ≡ primitive (mixed t r c i)
new_row t r c i h apart = get_or-map_from (next_row r c (lead_of t r c)) 0 t.rows i i [] h (omega arith) ∙ next_row_off r c (lead_of t r c) i (row_of t i) apart

-- a form whose entries have any size: an entry a variable and the right side, and one basic variable an equation
pub record IsShaped (t : Table) : Type 0 where
  pub widths : (i : ℕ) → i < length t.rows → length (row_of t i) ≡ t.variables + 1
  pub basics : length t.basis ≡ length t.rows
  pub solved : IsSolved (tableau t)

pub shape_of : (t : Table) → IsForm t → IsShaped t
shape_of t form = record {
  widths = λ i h. let equation = form.equations i [] h in equation.width;
  basics = form.basics;
  solved = form.solved;
}

module _ (t : Table) (r c : ℕ) (form : IsShaped t) (within : r < length t.rows) (lt : c < t.variables) (s : ℤ) (is : IsTurned c (row_of t r) s) (above : pos 0 <ℤ get_or (lead_of t r c) c (pos 0)) where
  lead_width : (i : ℕ) → i < length t.rows → length (lead_of t r c) ≡ length (row_of t i)
  lead_width i h = is.width ∙ form.widths r within ∙ sym (form.widths i h)

  mixed_width : (i : ℕ) → i < length t.rows → length (mixed t r c i) ≡ t.variables + 1
  mixed_width i h = length-combination (get_or (lead_of t r c) c (pos 0)) (entry t i c) (row_of t i) (lead_of t r c) (lead_width i h) ∙ form.widths i h

  mixed_entry : (i j : ℕ) → i < length t.rows → j < t.variables + 1 → get_or (mixed t r c i) j (pos 0) ≡ get_or (lead_of t r c) c (pos 0) *ℤ entry t i j -ℤ entry t i c *ℤ get_or (lead_of t r c) j (pos 0)
  mixed_entry i j h l = get_or-combination (get_or (lead_of t r c) c (pos 0)) (entry t i c) (row_of t i) (lead_of t r c) j (pos 0) (lead_width i h) (omega (arith, l, form.widths i h))

  mixed_gcd : (i : ℕ) → i < length t.rows → i ≢ r → 0 < row_gcd (mixed t r c i)
  mixed_gcd i h apart =
      let b = basic_of t i in
      let inside : b < t.variables = form.solved.within i h in
      let e = mixed_entry i b h (omega (arith, inside)) in
      let clear : get_or (lead_of t r c) b (pos 0) ≡ pos 0 = is.entries b ∙ zero_times s (entry t r b) (form.solved.clear i r h within (λ f. apart (sym f))) in
      let second : entry t i c *ℤ get_or (lead_of t r c) b (pos 0) ≡ pos 0 = zero_times (entry t i c) (get_or (lead_of t r c) b (pos 0)) clear in
      let first : pos 0 <ℤ (get_or (lead_of t r c) c (pos 0) *ℤ entry t i b) = positive_product (get_or (lead_of t r c) c (pos 0)) (entry t i b) above (form.solved.positive i h) in
      ⊎_elim
      (λ (z : row_gcd (mixed t r c i) ≡ 0). let none : get_or (mixed t r c i) b (pos 0) ≡ pos 0 = (zero_fold 0 (mixed t r c i) z).1 b (pos 0) (omega (arith, inside, mixed_width i h)) in absurd (omega (arith, ints, none, e, second, first)))
      (λ other. omega (arith, other))
      (cases_eq (row_gcd (mixed t r c i)) 0)

  divided : (i j : ℕ) → i < length t.rows → j < t.variables + 1 → i ≢ r → pos (row_gcd (mixed t r c i)) *ℤ entry (next_form t r c) i j ≡ get_or (lead_of t r c) c (pos 0) *ℤ entry t i j -ℤ entry t i c *ℤ get_or (lead_of t r c) j (pos 0)
  divided i j h l apart =
      let G = leaf (pos (row_gcd (mixed t r c i))) in
      let X = leaf (get_or (primitive (mixed t r c i)) j (pos 0)) in
      ap (λ (x : List ℤ). pos (row_gcd (mixed t r c i)) *ℤ get_or x j (pos 0)) (new_row t r c i h apart)
      ∙ same (times G X) (times X G) (omega arith)
      ∙ primitive_entry (mixed t r c i) j (pos 0) (omega (arith, l, mixed_width i h))
      ∙ mixed_entry i j h l

  pub is_pivot : IsPivot (tableau t) (tableau (next_form t r c)) r c (λ j. get_or (lead_of t r c) j (pos 0)) (get_or (lead_of t r c) t.variables (pos 0)) s (λ i. pos (row_gcd (mixed t r c i)))
  is_pivot = record {
    height = length-map_from (next_row r c (lead_of t r c)) 0 t.rows;
    width = refl;
    sign = is.sign;
    lead_is = is.entries;
    last_is = is.entries t.variables;
    lead_positive = above;
    pivot_row = λ j. ap (λ (x : List ℤ). get_or x j (pos 0)) (new_lead t r c within);
    pivot_right = ap (λ (x : List ℤ). get_or x t.variables (pos 0)) (new_lead t r c within);
    pivot_basic = get_or-set_same t.basis r c 0 (omega (arith, form.basics, within));
    divisor = λ i h apart. let g = mixed_gcd i h apart in omega (arith, ints, g);
    row = λ i j h l apart. divided i j h (omega (arith, l)) apart;
    right = λ i h apart. divided i t.variables h (omega arith) apart;
    basic = λ i h apart. get_or-set_other t.basis r i c 0 apart;
  }

  lead_primitive : IsPrimitive (row_of t r) → IsPrimitive (lead_of t r c)
  lead_primitive reduced d all = reduced d (all_at (λ x. d ∣ unsigned_abs x) (row_of t r) (λ k l. subst (λ (n : ℕ). d ∣ n) (is.sizes k) (all k (pos 0) (omega (arith, l, is.width)))))

  reduced_row : IsPrimitive (row_of t r) → (k : ℕ) (row : List ℤ) → k < length t.rows → row ≡ row_of t k → (length (next_row r c (lead_of t r c) k row) ≡ t.variables + 1) × IsPrimitive (next_row r c (lead_of t r c) k row)
  reduced_row reduced k row h e =
      ⊎_elim
      (λ (at : k ≡ r).
      let there = next_row_at r c (lead_of t r c) k row at in
      subst (λ (x : List ℤ). (length x ≡ t.variables + 1) × IsPrimitive x) (sym there) (is.width ∙ form.widths r within, lead_primitive reduced))
      (λ apart.
      let there : next_row r c (lead_of t r c) k row ≡ primitive (mixed t r c k) = next_row_off r c (lead_of t r c) k row apart ∙ ap (λ (x : List ℤ). eliminated c x (lead_of t r c)) e in
      subst (λ (x : List ℤ). (length x ≡ t.variables + 1) × IsPrimitive x) (sym there) (length-map (mixed t r c k) _ ∙ mixed_width k h, primitive_lowest (mixed t r c k) (mixed_gcd k h apart)))
      (cases_eq k r)

  pub is_reduced : IsPrimitive (row_of t r) → IsReduced (next_form t r c)
  is_reduced reduced k d h =
      let inside : k < length t.rows = omega (arith, h, length-map_from (next_row r c (lead_of t r c)) 0 t.rows) in
      subst (λ (x : List ℤ). (length x ≡ t.variables + 1) × IsPrimitive x) (sym (get_or-map_from (next_row r c (lead_of t r c)) 0 t.rows k k d inside (omega arith)))
      (reduced_row reduced k (get_or t.rows k d) inside (get_or_default t.rows k d [] inside))

-- ---- what a pivot promises of the next form
pub solutions_kept : (t : Table) (r c : ℕ) → IsForm t → r < length t.rows → c < t.variables → entry t r c ≢ pos 0 → (y : ℕ → ℤ) (d : ℤ) → Holds (tableau (next_form t r c)) y d ↔ Holds (tableau t) y d
solutions_kept t r c form within lt apart y d =
    let by = turned_by c (row_of t r) apart in
    let pivot = is_pivot t r c (shape_of t form) within lt by.0 by.1 by.2 in (
      before_holds (tableau t) (tableau (next_form t r c)) r c (λ j. get_or (lead_of t r c) j (pos 0)) (get_or (lead_of t r c) t.variables (pos 0)) by.0 (λ i. pos (row_gcd (mixed t r c i))) y d pivot within,
      next_holds (tableau t) (tableau (next_form t r c)) r c (λ j. get_or (lead_of t r c) j (pos 0)) (get_or (lead_of t r c) t.variables (pos 0)) by.0 (λ i. pos (row_gcd (mixed t r c i))) y d pivot within,
    )

pub solved_next : (t : Table) (r c : ℕ) → IsForm t → r < length t.rows → c < t.variables → entry t r c ≢ pos 0 → IsSolved (tableau (next_form t r c))
solved_next t r c form within lt apart =
    let by = turned_by c (row_of t r) apart in
    next_solved (tableau t) (tableau (next_form t r c)) r c (λ j. get_or (lead_of t r c) j (pos 0)) (get_or (lead_of t r c) t.variables (pos 0)) by.0 (λ i. pos (row_gcd (mixed t r c i))) (is_pivot t r c (shape_of t form) within lt by.0 by.1 by.2) form.solved lt within

pub reduced_next : (t : Table) (r c : ℕ) → IsForm t → r < length t.rows → c < t.variables → entry t r c ≢ pos 0 → IsReduced (next_form t r c)
reduced_next t r c form within lt apart = let by = turned_by c (row_of t r) apart in is_reduced t r c (shape_of t form) within lt by.0 by.1 by.2 (let equation = form.equations r [] within in equation.primitive)

pub next_is_form : (t : Table) (r c : ℕ) → IsForm t → r < length t.rows → c < t.variables → entry t r c ≢ pos 0 → first_large_of (next_form t r c).rows ≡ None → IsForm (next_form t r c)
next_is_form t r c form within lt apart none = record {
  equations = λ k d h. let both = reduced_next t r c form within lt apart k d h in record { width = both.0; small = small_rows_from_none (next_form t r c).rows none k d h; primitive = both.1 };
  basics = length-set t.basis r c ∙ form.basics ∙ sym (length-map_from (next_row r c (lead_of t r c)) 0 t.rows);
  solved = solved_next t r c form within lt apart;
}

-- ---- the vectors of a form
abbrev pub make : ℕ → List (List ℤ) → List ℕ → Table
make variables rows basis = record { variables = variables; rows = rows; basis = basis }

pub make_same : (a b : ℕ) (r s : List (List ℤ)) (x y : List ℕ) → a ≡ b → r ≡ s → x ≡ y → make a r x ≡ make b s y
make_same a b r s x y e f g = ap (λ (n : ℕ). make n r x) e ∙ ap (λ (q : List (List ℤ)). make b q x) f ∙ ap (λ (z : List ℕ). make b s z) g

-- a row as a loop over vectors finds it
pub current_row : {A : Type 0} (f : ℕ → List ℤ → List ℤ) (rows init : List (Vec ℤ A)) (i : ℕ) (d : Vec ℤ A) → row_lists rows ≡ map_front_from f i 0 (row_lists init) → i < length rows → (get_or rows i d).items ≡ get_or (row_lists init) i []
current_row f rows init i d e h = sym (row_lists-get rows i d h) ∙ ap (λ (xs : List (List ℤ)). get_or xs i []) e ∙ get_or-map_front_from f i 0 (row_lists init) []

-- and as it leaves it
pub written_row : {A : Type 0} (f : ℕ → List ℤ → List ℤ) (rows init : List (Vec ℤ A)) (i : ℕ) (d : Vec ℤ A) (new : List ℤ) → row_lists rows ≡ map_front_from f i 0 (row_lists init) → i < length rows → length rows ≡ length init → length new ≡ length (get_or rows i d).items → new ≡ f i (get_or (row_lists init) i [])
    → row_lists (set rows i (with_items (get_or rows i d) new)) ≡ map_front_from f (i + 1) 0 (row_lists init)
written_row f rows init i d new e h same_length wide is =
    let v = with_items (get_or rows i d) new in
    let there : v.items ≡ new = with_items_is (get_or rows i d) new (wide ∙ sym (get_or rows i d).ok.0) in
    row_lists-set rows i v
    ∙ ap (set (row_lists rows) i) (there ∙ is)
    ∙ ap (λ (xs : List (List ℤ)). set xs i (f i (get_or (row_lists init) i []))) e
    ∙ map_front_from_more f i 0 i (row_lists init) [] (omega (arith, h, same_length, length-row_lists init)) (omega arith)

-- the next row is small, so the first large entry is further on
pub large_past : (f : ℕ → List ℤ → List ℤ) (rows : List (List ℤ)) (i : ℕ) → i < length rows → first_large (f i (get_or rows i [])) ≡ None → first_large_of (map_from f (i + 1) (drop (i + 1) rows)) ≡ first_large_of (map_from f i (drop i rows))
large_past f rows i h none = sym (ap first_large_of (map_from_drop f i i rows [] h) ∙ rows_past (f i (get_or rows i [])) (map_from f (i + 1) (drop (i + 1) rows)) none)
