-- The first large number of a list, and the numbers of a point.
use Rattle.std.proofs.Common.{ℕ, zero, suc, ◌≡◌, ◌<◌, ◌≤◌, ◌+◌, ◌^◌, arith, refl, ap, sym, ◌∙◌, subst, length, map, ⊎_elim, Bool, true, false, None, Some}
use Rattle.std.specs.Prelude.{Option, find}
use Rattle.std.specs.List.{range_with_len}
use Rattle.std.specs.Option.{option_or}
use Rattle.std.proofs.lemmas.Bool.{cases_eq}
use Rattle.std.proofs.lemmas.Bool.Decides.{nat_tests}
use Rattle.std.proofs.lemmas.List.Folds.{find-append}
use Rattle.row_program.specs.Forms.{Table}
use Rattle.row_program.specs.declared.program.Program.{Program}
use Rattle.dual_theory.specs.Ends.{is_large, lcm_of, lowest_den, common_den, whole_numbers, large_in_point, point_whole}
use Rattle.lex_dual.specs.declared.solved.SolveFault.{SolveFault}
use Rattle.lex_dual.specs.declared.solved.SolveFault.TheVariants.{Wide, Memory}
use Rattle.lex_dual.specs.Faults.{IfWide}

pub large : (x : ℕ) → 2 ^ 63 ≤ x → is_large x ≡ true
large x h = grind (arith, nat_tests)

pub not_large : (x : ℕ) → x < 2 ^ 63 → is_large x ≡ false
not_large x h = grind (arith, nat_tests)

-- the first of f a, f (a + 1), .. that passes
pub found_in_map : (p : ℕ → Bool) (f : ℕ → ℕ) (a n v : ℕ) → a ≤ v → v < a + n → p (f v) ≡ true → ((u : ℕ) → a ≤ u → u < v → p (f u) ≡ false) → find p (map f (range_with_len a n)) ≡ Some (f v)
found_in_map p f a zero v h l e first = absurd (omega (arith, h, l))
found_in_map p f a (suc n) v h l e first = ⊎_elim
    (λ (at : a ≡ v). let here : p (f a) ≡ true = ap (λ (u : ℕ). p (f u)) at ∙ e in rw here (ap (λ (u : ℕ). Some (f u)) at))
    (λ apart. let past : p (f a) ≡ false = first a (omega arith) (omega (arith, h, apart)) in rw past (found_in_map p f (a + 1) n v (omega (arith, h, apart)) (omega (arith, l)) e (λ u m k. first u (omega (arith, m)) k)))
    (cases_eq a v)

pub none_in_map : (p : ℕ → Bool) (f : ℕ → ℕ) (a n : ℕ) → ((u : ℕ) → a ≤ u → u < a + n → p (f u) ≡ false) → find p (map f (range_with_len a n)) ≡ None
none_in_map p f a zero fails = refl
none_in_map p f a (suc n) fails = let here : p (f a) ≡ false = fails a (omega arith) (omega arith) in rw here (none_in_map p f (a + 1) n (λ u h l. fails u (omega (arith, h)) (omega (arith, l))))

-- one more
pub none_more : (P : ℕ → Type 0) (a v w : ℕ) → a + v ≡ w → ((u : ℕ) → a ≤ u → u < w → P u) → P w → (u : ℕ) → a ≤ u → u < a + (v + 1) → P u
none_more P a v w e before here u h l = ⊎_elim
    (λ (at : u ≡ w). subst P (sym at) here)
    (λ apart. before u h (omega (arith, l, e, apart)))
    (cases_eq u w)

pub common_more : (t : Table) (v w : ℕ) → v + 1 ≡ w → common_den t w ≡ lcm_of (common_den t v) (lowest_den t v)
common_more t v zero e = absurd (omega (arith, e))
common_more t v (suc w) e = ap (λ (n : ℕ). lcm_of (common_den t n) (lowest_den t n)) (omega (arith, e))

-- the two lists that are searched, one after the other
pub large_in_den : (p : Program) (t : Table) (n size : ℕ) → n ≡ length p.costs → find is_large (map (common_den t) (range_with_len 1 n)) ≡ Some size → large_in_point p t ≡ Some size
large_in_den p t n size e some =
    find-append is_large (map (common_den t) (range_with_len 1 (length p.costs))) (point_whole p t)
    ∙ ap (λ (o : Option ℕ). option_or o (find is_large (point_whole p t))) (ap (λ (m : ℕ). find is_large (map (common_den t) (range_with_len 1 m))) (sym e) ∙ some)

pub large_in_numbers : (p : Program) (t : Table) (n : ℕ) (o : Option ℕ) → n ≡ length p.costs → find is_large (map (common_den t) (range_with_len 1 n)) ≡ None → find is_large (whole_numbers t n) ≡ o → large_in_point p t ≡ o
large_in_numbers p t n o e none is =
    find-append is_large (map (common_den t) (range_with_len 1 (length p.costs))) (point_whole p t)
    ∙ ap (λ (q : Option ℕ). option_or q (find is_large (point_whole p t))) (ap (λ (m : ℕ). find is_large (map (common_den t) (range_with_len 1 m))) (sym e) ∙ none)
    ∙ ap (λ (m : ℕ). find is_large (whole_numbers t m)) (sym e) ∙ is

pub if_wide : (P Q : ℕ → Type 0) (fault : SolveFault) → ((size : ℕ) → P size → Q size) → IfWide P fault → IfWide Q fault
if_wide P Q (Wide size) f h = f size h
if_wide P Q Memory f h = tt
