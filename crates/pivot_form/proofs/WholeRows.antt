-- The whole equations of what is kept, as code writes them, and those that a pivot makes of them.
use Rattle.std.proofs.Common.{ℕ, ◌≡◌, ◌≢◌, ◌<◌, ◌+◌, arith, ap, sym, subst, ◌∙◌, ⊎_elim, List, length, get_or, drop, set, refl, false, rules, Option, None, Some, IfSome}
use Rattle.std.specs.Prelude.{ℤ, pos, ◌<ℤ◌, unsigned_abs}
use Rattle.std.specs.List.{All}
use Rattle.std.specs.Option.{is_some}
use Rattle.std.proofs.lemmas.Bool.{cases_eq}
use Rattle.std.proofs.lemmas.Bool.Decides.{nat_tests}
use Rattle.std.proofs.lemmas.List.{get_or-set_same, get_or-set_other, length-set}
use Rattle.std.proofs.lemmas.List.FromFn.{fill_by_all}
use Rattle.exact_num.specs.declared.limits.TheConstants.{WIDE}
use mir.Syntax.{w64}
use mir.Val.{to_z, of_z}
use Rattle.row_program.specs.Forms.{Table, basic_of, eliminated, entry, first_large, first_large_of, map_from, next_row, right_side, row_of, turned}
use Rattle.pivot_form.specs.Kept.{Store, entry_by, entry_of, kept_entry, pair_entry, place_of, right_of, row_entry, table_of, variables_of, whole_row}
use Rattle.pivot_form.specs.Origins.{IsOrigin}
use Rattle.pivot_form.specs.declared.equation.Origin.{Origin}
use Rattle.pivot_form.specs.declared.equation.Origin.TheVariants.{Own, Lone}
use Rattle.pivot_form.specs.declared.places.Pair.{Pair}
use Rattle.pivot_form.specs.declared.places.Place.{Place}
use Rattle.pivot_form.specs.declared.places.Place.TheVariants.{Kept}
use Rattle.pivot_form.specs.Shorts.{IsBasic, IsShort}
use Rattle.pivot_form.proofs.Equations.{eliminated_kept, none_from_small}
use Rattle.pivot_form.proofs.NextForm.{large_past}
use Rattle.pivot_form.proofs.Shorts.{entry_small, equation, kept_bits, pair_at, right_small, small_bits}
use Rattle.pivot_form.proofs.Whole.{cell_at, entry_is, height, right_is, row_at, row_entry_inside, row_entry_last, width_at}

pub basic_at : (s : Store) (i : ℕ) → IsShort s → i < length s.basis → IsBasic s (get_or s.basis i 0)
basic_at s i is l = record { within = is.store.basics i l; no_column = λ j. is.store.basic_place i j l }

-- an equation that is written entry by entry
row_written : (s : Store) (b : ℕ) (out : List ℤ) → length out ≡ variables_of s + 1 → ((v : ℕ) → v < variables_of s → get_or out v (pos 0) ≡ entry_of s b v) → get_or out (variables_of s) (pos 0) ≡ right_of s b → out ≡ whole_row s b
row_written s b out wide entries right = fill_by_all (row_entry s b) out (variables_of s + 1) (pos 0) wide (λ v l.
    ⊎_elim
    (λ (e : v ≡ variables_of s). ap (λ (k : ℕ). get_or out k (pos 0)) e ∙ right ∙ sym (row_entry_last s b) ∙ ap (row_entry s b) (sym e))
    (λ apart. let inside : v < variables_of s = omega (arith, l, apart) in entries v inside ∙ sym (row_entry_inside s b v inside))
    (cases_eq v (variables_of s)))

-- its right side is written last
pub row_finished : (s : Store) (b n : ℕ) (out : List ℤ) (x : ℤ) → n ≡ variables_of s → length out ≡ variables_of s + 1 → ((v : ℕ) → v < n → get_or out v (pos 0) ≡ entry_of s b v) → x ≡ right_of s b → set out n x ≡ whole_row s b
row_finished s b n out x e wide entries right = row_written s b (set out n x) (length-set out n x ∙ wide)
    (λ v l. get_or-set_other out n v x (pos 0) (λ f. absurd (omega (arith, l, e, f))) ∙ entries v (omega (arith, l, e)))
    (ap (λ (k : ℕ). get_or (set out n x) k (pos 0)) (sym e) ∙ get_or-set_same out n x (pos 0) (omega (arith, e, wide)) ∙ right)

-- an equation that is clear in the column has no large entry in the next form
pub clear_none : (s : Store) (b c : ℕ) (lead : List ℤ) → IsShort s → IsBasic s b → length lead ≡ variables_of s + 1 → pos 0 <ℤ get_or lead c (pos 0) → get_or (whole_row s b) c (pos 0) ≡ pos 0 → first_large (eliminated c (whole_row s b) lead) ≡ None
clear_none s b c lead is basic wide above none =
    let e = equation s b is basic in
    ap first_large (eliminated_kept c (whole_row s b) lead (wide ∙ sym e.width) above none e.primitive) ∙ none_from_small (whole_row s b) e.small

-- ---- the search for the first large entry
next_row_at : (place column : ℕ) (lead : List ℤ) (i : ℕ) (row : List ℤ) → i ≡ place → next_row place column lead i row ≡ lead
next_row_at place column lead i row e = grind (arith, nat_tests)

next_row_off : (place column : ℕ) (lead : List ℤ) (i : ℕ) (row : List ℤ) → i ≢ place → next_row place column lead i row ≡ eliminated column row lead
next_row_off place column lead i row h = grind (arith, nat_tests)

-- what a pivot makes of the row with the number i
abbrev pub made_of : Store → ℕ → ℕ → ℕ → List ℤ → List ℤ
made_of s r c = next_row r c (turned c (row_of (table_of s) r))

pub none_of : (found : Option ℕ) → is_some found ≡ false → found ≡ None
none_of None e = refl
none_of (Some n) e = absurd (search rules)

module _ (s : Store) (r c i : ℕ) (lead : List ℤ) (l : i < length s.basis) (is : lead ≡ turned c (row_of (table_of s) r)) where
  inside : i < length (table_of s).rows
  inside = omega (arith, l, height s)

  other_row : i ≢ r → first_large (made_of s r c i (row_of (table_of s) i)) ≡ first_large (eliminated c (whole_row s (get_or s.basis i 0)) lead)
  other_row apart =
      ap first_large (next_row_off r c (turned c (row_of (table_of s) r)) i (row_of (table_of s) i) apart)
      ∙ ap (λ (x : List ℤ). first_large (eliminated c (row_of (table_of s) i) x)) (sym is)
      ∙ ap (λ (x : List ℤ). first_large (eliminated c x lead)) (row_at s i l)

  -- the pivot's own equation is small
  pub past_pivot : i ≡ r → All (λ x. unsigned_abs x < WIDE) lead
      → first_large_of (map_from (made_of s r c) (i + 1) (drop (i + 1) (table_of s).rows)) ≡ first_large_of (map_from (made_of s r c) i (drop i (table_of s).rows))
  past_pivot e small = large_past (made_of s r c) (table_of s).rows i inside
      (ap first_large (next_row_at r c (turned c (row_of (table_of s) r)) i (row_of (table_of s) i) e ∙ sym is) ∙ none_from_small lead small)

  -- so is one without a large entry
  pub past_other : i ≢ r → first_large (eliminated c (whole_row s (get_or s.basis i 0)) lead) ≡ None
      → first_large_of (map_from (made_of s r c) (i + 1) (drop (i + 1) (table_of s).rows)) ≡ first_large_of (map_from (made_of s r c) i (drop i (table_of s).rows))
  past_other apart none = large_past (made_of s r c) (table_of s).rows i inside (other_row apart ∙ none)

-- ---- an equation, as it is lent
module _ (s : Store) (b v : ℕ) (row : List ℤ) (same : whole_row s b ≡ row) (inside : v + 1 < length row) where
  pub lent_inside : v < variables_of s
  lent_inside = omega (arith, inside, ap length same, width_at s b)

  lent_at : entry_of s b v ≡ get_or row v (pos 0)
  lent_at = sym (cell_at s b v (omega (arith, lent_inside)) ∙ row_entry_inside s b v lent_inside) ∙ ap (λ (r : List ℤ). get_or r v (pos 0)) same

  -- its entry, as it is read
  pub lent_read : (x : ℤ) → IsShort s → IsBasic s b → x ≡ entry_of s b v → to_z w64 (of_z w64 x) ≡ get_or row v (pos 0)
  lent_read x is basic read = kept_bits x (rw read (entry_small s b v is basic lent_inside)) ∙ read ∙ lent_at

  pub lent_small : (x : ℤ) → IsShort s → IsBasic s b → x ≡ entry_of s b v → unsigned_abs (to_z w64 (of_z w64 x)) < WIDE
  lent_small x is basic read = small_bits x (rw read (entry_small s b v is basic lent_inside))

pub own_entry : (s : Store) (b k v : ℕ) (o : Origin) → IsOrigin s b o → o ≡ Own k → kept_entry s k v ≡ entry_of s b v
own_entry s b k v o is e = let place : place_of s b ≡ Kept k = subst (IsOrigin s b) e is in sym (ap (λ (p : Place). entry_by s b p v) place)

pub lone_entry : (s : Store) (b v : ℕ) (p : Pair) (o : Origin) → IsShort s → IsBasic s b → IsOrigin s b o → o ≡ Lone p → pair_entry b p.other v ≡ entry_of s b v
lone_entry s b v p o is basic origin e =
    let at : IsOrigin s b (Lone p) = subst (IsOrigin s b) e origin in
    sym (pair_at s b p is basic at.0.place at.0.pair at.1.0 v at.1.1)

-- the form's row is the equation of its basic variable
pub lent_is : (s : Store) (t : Table) (row b : ℕ) → table_of s ≡ t → row < length t.rows → b ≡ get_or s.basis row 0 → whole_row s b ≡ row_of t row
lent_is s t row b same inside basic =
    let rows : row < length s.basis = omega (arith, inside, ap (λ (u : Table). length u.rows) same, height s) in
    ap (whole_row s) basic ∙ sym (row_at s row rows) ∙ ap (λ (u : Table). row_of u row) same

-- one more entry of an equation is written
pub entry_written : (s : Store) (b n : ℕ) (out row : List ℤ) (x : ℤ) → whole_row s b ≡ row → n + 1 < length row → n < length out → unsigned_abs x < WIDE → x ≡ get_or row n (pos 0)
    → ((v : ℕ) → v < n → get_or out v (pos 0) ≡ entry_of s b v) → (v : ℕ) → v < n + 1 → get_or (set out n (to_z w64 (of_z w64 x))) v (pos 0) ≡ entry_of s b v
entry_written s b n out row x same inside wide small read before v l = ⊎_elim
    (λ (e : v ≡ n). ap (λ (k : ℕ). get_or (set out n (to_z w64 (of_z w64 x))) k (pos 0)) e ∙ get_or-set_same out n (to_z w64 (of_z w64 x)) (pos 0) wide ∙ kept_bits x small ∙ read ∙ sym (lent_at s b n row same inside) ∙ ap (entry_of s b) (sym e))
    (λ apart. get_or-set_other out n v (to_z w64 (of_z w64 x)) (pos 0) apart ∙ before v (omega (arith, l, apart)))
    (cases_eq v n)

-- a right side of the form, as it is read
pub right_read : (s : Store) (t : Table) (row b : ℕ) (x : ℤ) → IsShort s → table_of s ≡ t → row < length t.rows → b ≡ get_or s.basis row 0 → x ≡ right_of s b → to_z w64 (of_z w64 x) ≡ right_side t row
right_read s t row b x is same inside basic read =
    let rows : row < length s.basis = omega (arith, inside, ap (λ (u : Table). length u.rows) same, height s) in
    let at : x ≡ right_of s (get_or s.basis row 0) = read ∙ ap (right_of s) basic in
    kept_bits x (rw at (right_small s (get_or s.basis row 0) is (basic_at s row is rows))) ∙ at ∙ sym (right_is s row rows) ∙ ap (λ (u : Table). right_side u row) same

pub row_inside : (s : Store) (t : Table) (row : ℕ) → table_of s ≡ t → row < length t.rows → row < length s.basis
row_inside s t row same inside = omega (arith, inside, ap (λ (u : Table). length u.rows) same, height s)

-- the one variable that an equation has besides its basic one, as it is told
pub lone_read : (s : Store) (t : Table) (row b : ℕ) (o : Option ℕ) → table_of s ≡ t → row < length t.rows → b ≡ get_or s.basis row 0
    → IfSome o (λ other. (v : ℕ) → v ≢ b → v ≢ other → entry_of s b v ≡ pos 0)
    → IfSome o (λ other. (v : ℕ) → v < t.variables → v ≢ basic_of t row → v ≢ other → entry t row v ≡ pos 0)
lone_read s t row b None same inside basic told = told
lone_read s t row b (Some other) same inside basic told = λ v within off apart.
    let rows : row < length s.basis = omega (arith, inside, ap (λ (u : Table). length u.rows) same, height s) in
    let variables : v < variables_of s = omega (arith, within, ap (λ (u : Table). u.variables) same) in
    sym (ap (λ (u : Table). entry u row v) same) ∙ entry_is s row v rows variables ∙ ap (λ (a : ℕ). entry_of s a v) (sym basic)
    ∙ told v (λ e. off (e ∙ basic ∙ ap (λ (u : Table). basic_of u row) same)) apart
