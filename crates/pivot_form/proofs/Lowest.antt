-- The equations of a form have no common divisor, where what is kept has none.
use Rattle.std.proofs.Common.{ℕ, ◌≡◌, ◌≢◌, ◌<◌, ◌+◌, arith, refl, ap, sym, ◌∙◌, ⊎_elim, subst, List, [], length, get_or}
use Rattle.std.specs.Prelude.{ℤ, pos, ◌*ℤ◌, ◌-ℤ◌, unsigned_abs}
use Rattle.std.specs.List.{All}
use Rattle.std.specs.Int.RustNames.{int_div}
use Prim.Native.Nat.{◌∣◌}
use Rattle.std.proofs.Math.Nat.{dvd-mul_left, eq-one_of_dvd-one}
use Rattle.std.proofs.lemmas.Int.{ints, unsigned_abs-mul}
use Rattle.std.proofs.lemmas.Bool.{cases_eq, cases_lt}
use Rattle.std.proofs.lemmas.List.{get_or_default}
use Rattle.exact_num.specs.Divisors.{IsPrimitive}
use Rattle.exact_num.proofs.Divisors.{exact}
use Rattle.exact_num.proofs.Ring.{leaf, times, minus, same}
use Rattle.row_program.specs.Forms.{IsReduced}
use Rattle.pivot_form.specs.declared.places.Pair.{Pair}
use Rattle.pivot_form.specs.declared.places.Place.TheVariants.{Column}
use Rattle.pivot_form.specs.Kept.{Store, IsStore, variables_of, cell, own, kept_right, short_row, kept_entry, entry_at, place_of, pair_entry, entry_of, right_of, whole_row, table_of}
use Rattle.pivot_form.proofs.Whole.{IsMirrorRow, cell_at, height, kept_own, pair_first, row_at, row_entry_inside, row_entry_last, row_kind, width_at}
use Rattle.pivot_form.proofs.NextForm.{IsShaped}
use Rattle.pivot_form.proofs.Whole.{store_solved}

-- ---- divisors
times_divides : (d : ℕ) (z x : ℤ) → z *ℤ pos d ≡ x → d ∣ unsigned_abs x
times_divides d z x e = subst (λ (n : ℕ). d ∣ n) (sym (unsigned_abs-mul z (pos d)) ∙ ap unsigned_abs e) (dvd-mul_left d (unsigned_abs z))

-- what divides p a - q b and a divides q b; here q is 1 or -1
pub rest_divides : (d : ℕ) (p a b : ℤ) → d ∣ unsigned_abs (p *ℤ a -ℤ b) → d ∣ unsigned_abs p → d ∣ unsigned_abs b
rest_divides d p a b whole part =
    let W = int_div (p *ℤ a -ℤ b) (pos d) in
    let P = int_div p (pos d) in
    let e : W *ℤ pos d ≡ p *ℤ a -ℤ b = exact (p *ℤ a -ℤ b) d whole in
    let f : P *ℤ pos d ≡ p = exact p d part in
    let g : (P *ℤ a) *ℤ pos d ≡ p *ℤ a = same (times (times (leaf P) (leaf a)) (leaf (pos d))) (times (times (leaf P) (leaf (pos d))) (leaf a)) (omega arith) ∙ ap (λ (x : ℤ). x *ℤ a) f in
    let h : (P *ℤ a -ℤ W) *ℤ pos d ≡ (P *ℤ a) *ℤ pos d -ℤ W *ℤ pos d = same (times (minus (times (leaf P) (leaf a)) (leaf W)) (leaf (pos d))) (minus (times (times (leaf P) (leaf a)) (leaf (pos d))) (times (leaf W) (leaf (pos d)))) (omega arith) in
    times_divides d (P *ℤ a -ℤ W) b (omega (arith, ints, e, g, h))

-- ---- each equation
at_inside : (s : Store) (d b v : ℕ) → All (λ x. d ∣ unsigned_abs x) (whole_row s b) → v < variables_of s → d ∣ unsigned_abs (entry_of s b v)
at_inside s d b v all l = subst (λ (x : ℤ). d ∣ unsigned_abs x) (cell_at s b v (omega (arith, l)) ∙ row_entry_inside s b v l) (all v (pos 0) (omega (arith, l, width_at s b)))

at_last : (s : Store) (d b : ℕ) → All (λ x. d ∣ unsigned_abs x) (whole_row s b) → d ∣ unsigned_abs (right_of s b)
at_last s d b all = subst (λ (x : ℤ). d ∣ unsigned_abs x) (cell_at s b (variables_of s) (omega arith) ∙ row_entry_last s b) (all (variables_of s) (pos 0) (omega (arith, width_at s b)))

-- what divides each cell of a slot is 1
pub all_cells_one : (s : Store) (d k : ℕ) → IsStore s → k < length s.rows → ((j : ℕ) → j < s.width → d ∣ unsigned_abs (cell s k j)) → d ∣ unsigned_abs (own s k) → d ∣ unsigned_abs (kept_right s k) → d ≡ 1
all_cells_one s d k is l columns mine last =
    is.primitive k l d (λ q e h. subst (λ (x : ℤ). d ∣ unsigned_abs x) (sym (at_default q e h)) (by q (omega (arith, h, is.widths k l))))
  where
    at_default : (q : ℕ) (e : ℤ) → q < length (short_row s k) → get_or (short_row s k) q e ≡ get_or (short_row s k) q (pos 0)
    at_default q e h = get_or_default (short_row s k) q e (pos 0) h

    by : (q : ℕ) → q < s.width + 2 → d ∣ unsigned_abs (cell s k q)
    by q h =
        ⊎_elim
        (λ (inside : q < s.width). columns q inside)
        (λ past. ⊎_elim
        (λ (e : q ≡ s.width). subst (λ (x : ℕ). d ∣ unsigned_abs (cell s k x)) (sym e) mine)
        (λ off. subst (λ (x : ℕ). d ∣ unsigned_abs (cell s k x)) (omega (arith, h, past, off)) last)
        (cases_eq q s.width))
        (cases_lt q s.width)

pub row_lowest : (s : Store) (b : ℕ) → IsStore s → b < variables_of s → ((j : ℕ) → place_of s b ≢ Column j) → IsPrimitive (whole_row s b)
row_lowest s b is l no_column d all =
    row_kind s b is l no_column
    (λ k row. all_cells_one s d k is (is.kept b k l row.place)
    (λ j h. let c = is.all_columns j h in subst (λ (x : ℤ). d ∣ unsigned_abs x) (row.entries c.0 ∙ ap (entry_at s k) c.2) (at_inside s d b c.0 all c.1))
    (subst (λ (x : ℤ). d ∣ unsigned_abs x) (row.entries b ∙ kept_own s k b row.place) (at_inside s d b b all l))
    (subst (λ (x : ℤ). d ∣ unsigned_abs x) row.right (at_last s d b all)))
    (λ p j row. let good = is.pairs b p l row.pair in
    eq-one_of_dvd-one (subst (λ (x : ℤ). d ∣ unsigned_abs x) (row.entries b ∙ pair_first b p.other b refl (λ e. good.1 (sym e))) (at_inside s d b b all l)))
    (λ p k row. let good = is.pairs b p l row.pair in
    let mine : d ∣ unsigned_abs (own s k) = subst (λ (x : ℤ). d ∣ unsigned_abs x) (own_is p k row (good.1)) (at_inside s d b b all l) in
    all_cells_one s d k is (is.kept p.other k good.0 row.other)
    (λ j h. let c = is.all_columns j h in
    rest_divides d (own s k) (pair_entry b p.other c.0) (cell s k j)
    (subst (λ (x : ℤ). d ∣ unsigned_abs x) (row.entries c.0 ∙ ap (λ (x : ℤ). own s k *ℤ pair_entry b p.other c.0 -ℤ x) (ap (entry_at s k) c.2)) (at_inside s d b c.0 all c.1)) mine)
    mine
    (rest_divides d (own s k) p.sum (kept_right s k) (subst (λ (x : ℤ). d ∣ unsigned_abs x) row.right (at_last s d b all)) mine))
  where
    own_is : (p : Pair) (k : ℕ) → IsMirrorRow s b p k → p.other ≢ b → entry_of s b b ≡ own s k
    own_is p k row apart =
        let one : pair_entry b p.other b ≡ pos 1 = pair_first b p.other b refl (λ e. apart (sym e)) in
        let none : kept_entry s k b ≡ pos 0 = ap (entry_at s k) row.place in
        let full : entry_of s b b ≡ own s k *ℤ pos 1 -ℤ pos 0 = row.entries b ∙ ap (λ (x : ℤ). own s k *ℤ x -ℤ kept_entry s k b) one ∙ ap (λ (x : ℤ). own s k *ℤ pos 1 -ℤ x) none in
        omega (arith, ints, full)

low : (s : Store) (i : ℕ) → i < length (table_of s).rows → i < length s.basis
low s i h = omega (arith, h, height s)

pub store_reduced : (s : Store) → IsStore s → IsReduced (table_of s)
store_reduced s is i e h =
    let l = low s i h in
    subst (λ (row : List ℤ). (length row ≡ variables_of s + 1) × IsPrimitive row)
    (sym (get_or_default (table_of s).rows i e [] h ∙ row_at s i l))
    (width_at s (get_or s.basis i 0), row_lowest s (get_or s.basis i 0) is (is.basics i l) (λ j. is.basic_place i j l))

pub store_shaped : (s : Store) → IsStore s → IsShaped (table_of s)
store_shaped s is = record {
  widths = λ i h. ap (λ (row : List ℤ). length row) (row_at s i (low s i h)) ∙ width_at s (get_or s.basis i 0);
  basics = sym (height s);
  solved = store_solved s is;
}
