-- The slots of a program's first form.
use Rattle.std.proofs.Common.{ℕ, zero, suc, ◌≡◌, ◌≢◌, ◌<◌, ◌≤◌, ◌+◌, ◌-◌, ◌++◌, arith, refl, ap, sym, ◌∙◌, ⊎_elim, subst, List, [], ◌∷◌, length, get_or, Some, None, Option, true, false, Bool, cond, drop, not, map, set, take, length-append}
use Rattle.std.specs.Prelude.{ℤ, pos, ◌+ℤ◌, ◌==◌, is_some}
use lib.IntN.{neg_ℤ}
use Rattle.std.specs.List.{All, AllPairs, range_with_len}
use Rattle.std.proofs.lemmas.List.FromFn.{map-range_with_len_more}
use Rattle.std.proofs.lemmas.Int.{ints}
use Rattle.std.proofs.lemmas.Bool.{cases_eq, cases_lt}
use Rattle.std.proofs.lemmas.Bool.Decides.{nat_tests}
use Rattle.std.proofs.lemmas.List.{get_or_append_left, get_or-append_right, get_or_default, get_or-drop, get_or-set_other, get_or-set_same, get_or-take, length-take}
use Rattle.row_program.specs.declared.program.Term.{Term}
use Rattle.row_program.specs.declared.program.Row.{Row}
use Rattle.row_program.specs.declared.program.Program.{Program}
use Rattle.row_program.specs.Forms.{coefficient, empty_row, first_basic, variable_count}
use Rattle.pivot_form.specs.declared.places.Pair.{Pair}
use Rattle.pivot_form.specs.declared.places.Place.{Place}
use Rattle.pivot_form.specs.declared.places.Place.TheVariants.{Column, Kept, Paired}
use Rattle.pivot_form.proofs.FirstForm.{coefficient_none, cost_at, cost_past, slack_constant, slack_variable}
use Rattle.pivot_form.specs.Starts.{AreFirstRows, IsFirstRow, basic_place, first_place, pair_in, slots_before, slots_for}

-- ---- slots
slots_more : (n : ℕ) (pairs : List (Option Pair)) (e f : ℕ) → e + 1 ≡ f → slots_before n pairs f ≡ slots_before n pairs e + slots_for (pair_in pairs (first_basic n e))
slots_more n pairs e zero h = absurd (omega (arith, h))
slots_more n pairs e (suc f) h = let k : f ≡ e = omega (arith, h) in ap (λ (x : ℕ). slots_before n pairs x + slots_for (pair_in pairs (first_basic n x))) k

slots_le : (n : ℕ) (pairs : List (Option Pair)) (e d : ℕ) → e ≤ d → slots_before n pairs e ≤ slots_before n pairs d
slots_le n pairs e zero h = let k : e ≡ 0 = omega (arith, h) in let same = ap (slots_before n pairs) k in omega (arith, same)
slots_le n pairs e (suc d) h =
    ⊎_elim
    (λ (low : e < suc d). let rest = slots_le n pairs e d (omega (arith, low)) in omega (arith, rest))
    (λ past. let k : e ≡ suc d = omega (arith, h, past) in let same = ap (slots_before n pairs) k in omega (arith, same))
    (cases_lt e (suc d))

pub slots_apart : (n : ℕ) (pairs : List (Option Pair)) (e d : ℕ) → e < d → pair_in pairs (first_basic n e) ≡ None → slots_before n pairs e < slots_before n pairs d
slots_apart n pairs e d h none =
    let one : slots_before n pairs (suc e) ≡ slots_before n pairs e + 1 = ap (λ (q : Option Pair). slots_before n pairs e + slots_for q) none in
    let rest = slots_le n pairs (suc e) d (omega (arith, h)) in
    omega (arith, one, rest)

pub slots_one : (n : ℕ) (pairs : List (Option Pair)) (e d : ℕ) → pair_in pairs (first_basic n e) ≡ None → pair_in pairs (first_basic n d) ≡ None → slots_before n pairs e ≡ slots_before n pairs d → e ≡ d
slots_one n pairs e d none none' same =
    ⊎_elim
    (λ (low : e < d). let apart = slots_apart n pairs e d low none in absurd (omega (arith, apart, same)))
    (λ past. ⊎_elim
    (λ (low : d < e). let apart = slots_apart n pairs d e low none' in absurd (omega (arith, apart, same)))
    (λ past'. omega (arith, past, past'))
    (cases_lt d e))
    (cases_lt e d)

slot_here : (n : ℕ) (pairs : List (Option Pair)) (d k : ℕ) → k < slots_before n pairs (suc d)
    → (k < slots_before n pairs d → (e : ℕ) × (e < d) × (pair_in pairs (first_basic n e) ≡ None) × (slots_before n pairs e ≡ k))
    → (e : ℕ) × (e < suc d) × (pair_in pairs (first_basic n e) ≡ None) × (slots_before n pairs e ≡ k)
slot_here n pairs d k h rest = by (pair_in pairs (first_basic n d)) refl
  where
    past : k < slots_before n pairs d → (e : ℕ) × (e < suc d) × (pair_in pairs (first_basic n e) ≡ None) × (slots_before n pairs e ≡ k)
    past low = let found = rest low in (found.0, omega (arith, found.1), found.2, found.3)

    by : (q : Option Pair) → pair_in pairs (first_basic n d) ≡ q → (e : ℕ) × (e < suc d) × (pair_in pairs (first_basic n e) ≡ None) × (slots_before n pairs e ≡ k)
    by None is =
        let one : slots_before n pairs (suc d) ≡ slots_before n pairs d + 1 = ap (λ (q : Option Pair). slots_before n pairs d + slots_for q) is in
        ⊎_elim past (λ high. (d, omega arith, is, omega (arith, high, h, one))) (cases_lt k (slots_before n pairs d))
    by (Some q) is =
        let none : slots_before n pairs (suc d) ≡ slots_before n pairs d + 0 = ap (λ (q : Option Pair). slots_before n pairs d + slots_for q) is in
        past (omega (arith, none, h))

pub slots_found : (n : ℕ) (pairs : List (Option Pair)) (d k : ℕ) → k < slots_before n pairs d → (e : ℕ) × (e < d) × (pair_in pairs (first_basic n e) ≡ None) × (slots_before n pairs e ≡ k)
slots_found n pairs zero k h = absurd (omega (arith, h))
slots_found n pairs (suc d) k h = slot_here n pairs d k h (slots_found n pairs d k)

-- ---- places
pub first_column : (n : ℕ) (pairs : List (Option Pair)) (v : ℕ) → 0 < v → v ≤ n → first_place n pairs v ≡ Column (v - 1)
first_column n pairs v h l = grind (arith, nat_tests)

pub first_slack : (n : ℕ) (pairs : List (Option Pair)) (v : ℕ) → n < v → first_place n pairs v ≡ basic_place (pair_in pairs v) (slots_before n pairs (v - n))
first_slack n pairs v h = grind (arith, nat_tests)

pub place_in_column : (n : ℕ) (pairs : List (Option Pair)) (v j : ℕ) → j < n → 1 + j ≡ v → first_place n pairs v ≡ Column j
place_in_column n pairs v j h e = let k : v - 1 ≡ j = omega (arith, e) in first_column n pairs v (omega (arith, e)) (omega (arith, h, e)) ∙ ap Column k

pub place_of_slack : (n : ℕ) (pairs : List (Option Pair)) (v e : ℕ) → n + e ≡ v → 0 < e → first_place n pairs v ≡ basic_place (pair_in pairs v) (slots_before n pairs e)
place_of_slack n pairs v e h l = let k : v - n ≡ e = omega (arith, h) in first_slack n pairs v (omega (arith, h, l)) ∙ ap (λ (x : ℕ). basic_place (pair_in pairs v) (slots_before n pairs x)) k

-- one place more
pub place_pushed : (n : ℕ) (pairs : List (Option Pair)) (v : ℕ) (x : Place) (old new : List Place) → new ≡ old ++ x ∷ [] → old ≡ map (first_place n pairs) (range_with_len 0 v) → first_place n pairs v ≡ x → new ≡ map (first_place n pairs) (range_with_len 0 (v + 1))
place_pushed n pairs v x old new e f g =
    e
    ∙ ap (λ (xs : List Place). xs ++ x ∷ []) f
    ∙ ap (λ (y : Place). map (first_place n pairs) (range_with_len 0 v) ++ y ∷ []) (sym g)
    ∙ sym (map-range_with_len_more (first_place n pairs) 0 v v (omega arith))

-- an item of what is left of the pairs behind the first a
pub item_behind : (pairs : List (Option Pair)) (a i : ℕ) → i < length (take (length pairs - a) (drop a pairs)) → get_or (take (length pairs - a) (drop a pairs)) i None ≡ pair_in pairs (a + i)
item_behind pairs a i h =
    let low : i < length pairs - a = omega (arith, h, length-take (length pairs - a) (drop a pairs)) in
    get_or-take (length pairs - a) (drop a pairs) i None low ∙ get_or-drop a pairs i None

-- ---- what a test for a pair says
none_of : (q : Option Pair) (r : Bool) → is_some q ≡ not r → r ≡ true → q ≡ None
none_of None r e f = refl
none_of (Some q) r e f = absurd (let g : true ≡ false = e ∙ ap not f in cc)

some_of : (q : Option Pair) (r : Bool) → is_some q ≡ not r → r ≡ false → (p : Pair) × (q ≡ Some p)
some_of None r e f = absurd (let g : false ≡ true = e ∙ ap not f in cc)
some_of (Some q) r e f = (q, refl)

basic_is : (n e v : ℕ) → n + e ≡ v → 0 < e → first_basic n e ≡ v
basic_is n zero v h l = absurd (omega (arith, l))
basic_is n (suc e) v h l = omega (arith, h)

-- at the slack v, as code goes over the slacks in order
module _ (n : ℕ) (pairs : List (Option Pair)) (v slot : ℕ) (r : Bool) (past : n < v) (test : is_some (pair_in pairs v) ≡ not r) (next : (e : ℕ) → n + e ≡ v → slot ≡ slots_before n pairs e) where
  place_there : first_place n pairs v ≡ basic_place (pair_in pairs v) slot
  place_there = first_slack n pairs v past ∙ ap (basic_place (pair_in pairs v)) (sym (next (v - n) (omega (arith, past))))

  slot_there : (f : ℕ) → n + f ≡ v + 1 → slots_before n pairs f ≡ slot + slots_for (pair_in pairs v)
  slot_there f h =
      slots_more n pairs (v - n) f (omega (arith, h, past))
      ∙ ap (λ (x : ℕ). slots_before n pairs (v - n) + slots_for (pair_in pairs x)) (basic_is n (v - n) v (omega (arith, past)) (omega (arith, past)))
      ∙ ap (λ (x : ℕ). x + slots_for (pair_in pairs v)) (sym (next (v - n) (omega (arith, past))))

  pub kept_there : r ≡ true → first_place n pairs v ≡ Kept slot
  kept_there e = place_there ∙ ap (λ (q : Option Pair). basic_place q slot) (none_of (pair_in pairs v) r test e)

  pub paired_there : r ≡ false → first_place n pairs v ≡ Paired
  paired_there e = place_there ∙ ap (λ (q : Option Pair). basic_place q slot) (let found = some_of (pair_in pairs v) r test e in found.1)

  pub next_kept : r ≡ true → (f : ℕ) → n + f ≡ v + 1 → slot + 1 ≡ slots_before n pairs f
  next_kept e f h = sym (slot_there f h ∙ ap (λ (q : Option Pair). slot + slots_for q) (none_of (pair_in pairs v) r test e))

  pub next_paired : r ≡ false → (f : ℕ) → n + f ≡ v + 1 → slot ≡ slots_before n pairs f
  next_paired e f h = let found = some_of (pair_in pairs v) r test e in sym (slot_there f h ∙ ap (λ (q : Option Pair). slot + slots_for q) found.1 ∙ omega arith)

-- ---- rows
-- the cost's equation
pub cost_first : (p : Program) (costs : List ℕ) (row : List ℤ) → costs ≡ p.costs → length row ≡ length costs + 2
    → ((v : ℕ) → v < length costs → get_or row v (pos 0) ≡ neg_ℤ (pos (get_or costs v 0))) → get_or row (length costs) (pos 0) ≡ pos 1 → get_or row (length costs + 1) (pos 0) ≡ pos 0 → IsFirstRow p 0 row
cost_first p costs row same wide columns mine last = record {
  width = wide ∙ ap (λ (k : ℕ). k + 2) count;
  columns = λ j h. columns j (omega (arith, h, count)) ∙ ap (λ (xs : List ℕ). neg_ℤ (pos (get_or xs j 0))) same ∙ sym (cost_at p.costs (1 + j) (omega arith) ∙ ap (λ (k : ℕ). neg_ℤ (pos (get_or p.costs k 0))) (after j));
  own = ap (λ (k : ℕ). get_or row k (pos 0)) (sym count) ∙ mine;
  right = ap (λ (k : ℕ). get_or row (k + 1) (pos 0)) (sym count) ∙ last ∙ sym (cost_past p.costs (variable_count p) (omega arith));
}
  where
    count : length costs ≡ length p.costs
    count = ap length same

    after : (j : ℕ) → 1 + j - 1 ≡ j
    after j = omega arith

-- and that of the row i
pub slack_kept : (p : Program) (n i : ℕ) (source : Row) (row : List ℤ) → n ≡ length p.costs → source ≡ get_or p.rows i empty_row → length row ≡ n + 2
    → ((v : ℕ) → v < n → get_or row v (pos 0) ≡ neg_ℤ (coefficient source.terms v)) → get_or row n (pos 0) ≡ pos 1 → get_or row (n + 1) (pos 0) ≡ source.constant → IsFirstRow p (suc i) row
slack_kept p n i source row count same wide columns mine last = record {
  width = wide ∙ ap (λ (k : ℕ). k + 2) count;
  columns = λ j h. columns j (omega (arith, h, count)) ∙ ap (λ (r : Row). neg_ℤ (coefficient r.terms j)) same
      ∙ sym (slack_variable (length p.costs) (length p.rows) i (get_or p.rows i empty_row) (1 + j) (omega arith) (omega (arith, h)) ∙ ap (λ (k : ℕ). neg_ℤ (coefficient (get_or p.rows i empty_row).terms k)) (after j));
  own = ap (λ (k : ℕ). get_or row k (pos 0)) (sym count) ∙ mine;
  right = ap (λ (k : ℕ). get_or row (k + 1) (pos 0)) (sym count) ∙ last ∙ ap (λ (r : Row). r.constant) same ∙ sym (slack_constant (length p.costs) (length p.rows) i (get_or p.rows i empty_row) (variable_count p) refl);
}
  where
    after : (j : ℕ) → 1 + j - 1 ≡ j
    after j = omega arith

pub rows_none : (p : Program) (pairs : List (Option Pair)) → AreFirstRows p pairs 0 []
rows_none p pairs = record { height = refl; each = λ e h none. absurd (omega (arith, h)) }

-- an equation with a slot
pub rows_more : (p : Program) (pairs : List (Option Pair)) (rows : List (List ℤ)) (row : List ℤ) (e f : ℕ) → AreFirstRows p pairs e rows → e + 1 ≡ f → pair_in pairs (first_basic (length p.costs) e) ≡ None → IsFirstRow p e row → AreFirstRows p pairs f (rows ++ row ∷ [])
rows_more p pairs rows row e f are h none is = record {
  height = length-append rows (row ∷ []) ∙ ap (λ (k : ℕ). k + 1) are.height ∙ sym (slots_more (length p.costs) pairs e f h ∙ ap (λ (q : Option Pair). slots_before (length p.costs) pairs e + slots_for q) none);
  each = λ d l none'. ⊎_elim
      (λ (same : d ≡ e).
      let here : slots_before (length p.costs) pairs e - slots_before (length p.costs) pairs e ≡ 0 = omega arith in
      let there : get_or (rows ++ row ∷ []) (slots_before (length p.costs) pairs d) [] ≡ row =
      ap (λ (x : ℕ). get_or (rows ++ row ∷ []) (slots_before (length p.costs) pairs x) []) same
      ∙ get_or-append_right rows (row ∷ []) (slots_before (length p.costs) pairs e) (slots_before (length p.costs) pairs e) [] are.height (omega arith)
      ∙ ap (λ (x : ℕ). get_or (row ∷ []) x []) here in
      subst (λ (x : ℕ). IsFirstRow p x (get_or (rows ++ row ∷ []) (slots_before (length p.costs) pairs d) [])) (sym same) (subst (IsFirstRow p e) (sym there) is))
      (λ apart.
      let low : d < e = omega (arith, l, h, apart) in
      let slot = slots_apart (length p.costs) pairs d e low none' in
      subst (IsFirstRow p d) (sym (get_or_append_left rows (row ∷ []) [] (slots_before (length p.costs) pairs d) (omega (arith, slot, are.height)))) (are.each d low none'))
      (cases_eq d e);
}

-- and one with none
rows_past : (p : Program) (pairs : List (Option Pair)) (rows : List (List ℤ)) (e f : ℕ) → AreFirstRows p pairs e rows → e + 1 ≡ f → (q : Pair) → pair_in pairs (first_basic (length p.costs) e) ≡ Some q → AreFirstRows p pairs f rows
rows_past p pairs rows e f are h q some = record {
  height = are.height ∙ sym (slots_more (length p.costs) pairs e f h ∙ ap (λ (x : Option Pair). slots_before (length p.costs) pairs e + slots_for x) some ∙ omega arith);
  each = λ d l none. ⊎_elim
      (λ (same : d ≡ e). let g : None ≡ Some q = sym none ∙ ap (λ (x : ℕ). pair_in pairs (first_basic (length p.costs) x)) same ∙ some in cc)
      (λ apart. are.each d (omega (arith, l, h, apart)) none)
      (cases_eq d e);
}

-- the rows of the first so many equations, at the slack of the row i
module _ (p : Program) (pairs : List (Option Pair)) (rows : List (List ℤ)) (n i : ℕ) (r : Bool) (count : n ≡ length p.costs) (are : AreFirstRows p pairs (i + 1) rows) (test : is_some (pair_in pairs (1 + n + i)) ≡ not r) where
  slack_is : 1 + n + i ≡ first_basic (length p.costs) (i + 1)
  slack_is = sym (basic_is (length p.costs) (i + 1) (1 + n + i) (omega (arith, count)) (omega arith))

  pub row_added : r ≡ true → (row : List ℤ) → IsFirstRow p (suc i) row → AreFirstRows p pairs (i + 1 + 1) (rows ++ row ∷ [])
  row_added e row is =
      rows_more p pairs rows row (i + 1) (i + 1 + 1) are refl (sym (ap (pair_in pairs) slack_is) ∙ none_of (pair_in pairs (1 + n + i)) r test e)
      (let same : suc i ≡ i + 1 = omega arith in subst (λ (x : ℕ). IsFirstRow p x row) same is)

  pub row_left_out : r ≡ false → AreFirstRows p pairs (i + 1 + 1) rows
  row_left_out e = let found = some_of (pair_in pairs (1 + n + i)) r test e in rows_past p pairs rows (i + 1) (i + 1 + 1) are refl found.0 (sym (ap (pair_in pairs) slack_is) ∙ found.1)

-- ---- a row's columns: one term more is written
front_apart : (terms : List Term) (i : ℕ) (d : Term) → i < length terms → AllPairs (λ s t. s.variable ≢ t.variable) terms → All (λ u. u.variable ≢ (get_or terms i d).variable) (take i terms)
front_apart terms i d h p k e l =
    let inside : k < i = omega (arith, l, length-take i terms) in
    let there : get_or (take i terms) k e ≡ get_or terms k d = get_or-take i terms k e inside ∙ get_or_default terms k e d (omega (arith, inside, h)) in
    λ f. p k i d inside h (sym (ap (λ (t : Term). t.variable) there) ∙ f)

coefficient_more : (terms : List Term) (i v : ℕ) (d : Term) → i < length terms → coefficient (take (i + 1) terms) v ≡ coefficient (take i terms) v +ℤ cond ((get_or terms i d).variable == v) (get_or terms i d).times (pos 0)
coefficient_more [] i v d h = absurd (omega (arith, h))
coefficient_more (t ∷ terms) zero v d h = omega (arith, ints)
coefficient_more (t ∷ terms) (suc i) v d h = let e : suc i + 1 ≡ suc (i + 1) = omega arith in ap (λ (n : ℕ). coefficient (take n (t ∷ terms)) v) e ∙ omega (arith, ints, coefficient_more terms i v d (omega (arith, h)))

pub columns_more : (terms : List Term) (row : List ℤ) (n i : ℕ) (d : Term) (x : ℤ) → i < length terms → n < length row → AllPairs (λ s t. s.variable ≢ t.variable) terms → (get_or terms i d).variable < n → x ≡ neg_ℤ (get_or terms i d).times
    → ((v : ℕ) → v < n → get_or row v (pos 0) ≡ neg_ℤ (coefficient (take i terms) v)) → (v : ℕ) → v < n → get_or (set row (get_or terms i d).variable x) v (pos 0) ≡ neg_ℤ (coefficient (take (i + 1) terms) v)
columns_more terms row n i d x h wide apart low is written v l =
    ⊎_elim
    (λ (f : v ≡ u).
    let here : get_or (set row u x) v (pos 0) ≡ x = ap (λ (k : ℕ). get_or (set row u x) k (pos 0)) f ∙ get_or-set_same row u x (pos 0) (omega (arith, low, wide)) in
    let before : coefficient (take i terms) v ≡ pos 0 = coefficient_none (take i terms) v (subst (λ (k : ℕ). All (λ s. s.variable ≢ k) (take i terms)) (sym f) (front_apart terms i d h apart)) in
    let more = coefficient_more terms i v d h in
    let test : cond ((get_or terms i d).variable == v) (get_or terms i d).times (pos 0) ≡ (get_or terms i d).times = grind (arith, nat_tests) in
    omega (arith, ints, here, is, before, more, test))
    (λ away.
    let here : get_or (set row u x) v (pos 0) ≡ get_or row v (pos 0) = get_or-set_other row u v x (pos 0) away in
    let before = written v l in
    let more = coefficient_more terms i v d h in
    let test : cond ((get_or terms i d).variable == v) (get_or terms i d).times (pos 0) ≡ pos 0 = grind (arith, nat_tests) in
    omega (arith, ints, here, before, more, test))
    (cases_eq v u)
  where
    u : ℕ
    u = (get_or terms i d).variable
