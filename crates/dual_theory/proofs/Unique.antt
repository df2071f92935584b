-- There is one least point at most.
use Rattle.std.proofs.Common.{ℕ, zero, suc, ◌≡◌, ◌≤◌, ◌*◌, arith, ap, sym, ◌∙◌, inl, inr, List, [], ◌∷◌, length, get_or}
use Rattle.std.specs.Prelude.{ℤ, pos, ◌*ℤ◌, ◌-ℤ◌, ◌<ℤ◌, ◌≤ℤ◌}
use Rattle.std.proofs.lemmas.List.{ext_get_or}
use Rattle.std.proofs.lemmas.Int.{ints}
use Rattle.row_program.specs.Points.{cost_of, IsLexAtMost, IsLeastPoint, IsLeastCost}
use Rattle.row_program.specs.declared.program.Program.{Program}
use Rattle.exact_num.proofs.Ring.{leaf, minus, times, same}
use Rattle.pivot_form.proofs.Sums.{cancel}
use Rattle.dual_theory.proofs.Multiples.{cancel_nat}
use Rattle.dual_theory.proofs.Best.{nonnegative_factor, nonnegative_product}

both_ways : (xs ys : List ℕ) (d e : ℕ) → length xs ≡ length ys → IsLexAtMost xs d ys e → IsLexAtMost ys e xs d → (k : ℕ) → get_or xs k 0 * e ≡ get_or ys k 0 * d
both_ways [] [] d e h l m k = omega arith
both_ways [] (y ∷ ys) d e h l m k = absurd (omega (arith, h))
both_ways (x ∷ xs) [] d e h l m k = absurd (omega (arith, h))
both_ways (x ∷ xs) (y ∷ ys) d e h (inl l) (inl m) k = absurd (omega (arith, l, m))
both_ways (x ∷ xs) (y ∷ ys) d e h (inl l) (inr m) k = absurd (let q = m.0 in omega (arith, l, q))
both_ways (x ∷ xs) (y ∷ ys) d e h (inr l) (inl m) k = absurd (let q = l.0 in omega (arith, m, q))
both_ways (x ∷ xs) (y ∷ ys) d e h (inr l) (inr m) zero = l.0
both_ways (x ∷ xs) (y ∷ ys) d e h (inr l) (inr m) (suc k) = both_ways xs ys d e (omega (arith, h)) l.1 m.1 k

pub least_unique : (p : Program) (xs : List ℕ) (d : ℕ) (ys : List ℕ) (e : ℕ) → IsLeastPoint p xs d → IsLeastPoint p ys e → (xs ≡ ys) × (d ≡ e)
least_unique p xs d ys e a b =
    let low = a.cheapest ys e b.point in
    let high = b.cheapest xs d a.point in
    let level : cost_of p.costs ys * d ≡ cost_of p.costs xs * e = omega (arith, low, high) in
    let wide : length xs ≡ length ys = a.point.all_variables ∙ sym b.point.all_variables in
    let values = both_ways xs ys d e wide (a.least ys e b.point level) (b.least xs d a.point (sym level)) in
    let less : d ≤ e = a.lowest ys e b.point values in
    let more : e ≤ d = b.lowest xs d a.point (λ k. sym (values k)) in
    let same_den : d ≡ e = omega (arith, less, more) in
    let above = a.point.positive in
    (ext_get_or 0 xs ys wide (λ k h. cancel_nat d (get_or xs k 0) (get_or ys k 0) (omega (arith, above)) (ap (λ (m : ℕ). get_or xs k 0 * m) same_den ∙ values k)), same_den)

-- ---- a value as another fraction
-- num / den is at most c / m, and a / b is num / den
pub carried : (num den a b c m : ℤ) → pos 0 <ℤ den → pos 0 <ℤ b → a *ℤ den ≡ num *ℤ b → (num *ℤ m) ≤ℤ (c *ℤ den) → (a *ℤ m) ≤ℤ (c *ℤ b)
carried num den a b c m h i e l =
    let N = leaf num in let D = leaf den in let A = leaf a in let B = leaf b in let C = leaf c in let M = leaf m in
    let gap : den *ℤ (c *ℤ b -ℤ a *ℤ m) ≡ b *ℤ (c *ℤ den -ℤ num *ℤ m)
    = same (times D (minus (times C B) (times A M))) (minus (times B (times C D)) (times (times A D) M)) (omega arith)
    ∙ ap (λ (z : ℤ). b *ℤ (c *ℤ den) -ℤ z *ℤ m) e
    ∙ same (minus (times B (times C D)) (times (times N B) M)) (times B (minus (times C D) (times N M))) (omega arith) in
    let q = nonnegative_product b (c *ℤ den -ℤ num *ℤ m) (omega (arith, ints, i)) (omega (arith, ints, l)) in
    let z = nonnegative_factor den (c *ℤ b -ℤ a *ℤ m) h (omega (arith, ints, gap, q)) in
    omega (arith, ints, z)

pub same_cost : (p : Program) (num den a b : ℤ) → IsLeastCost p num den → pos 0 <ℤ b → a *ℤ den ≡ num *ℤ b → IsLeastCost p a b
same_cost p num den a b least above e = record {
  positive = above;
  reached = let r = least.reached in (r.0, r.1, r.2, reach (pos (cost_of p.costs r.0)) (pos r.1) r.3);
  least = λ ys d point. carried num den a b (pos (cost_of p.costs ys)) (pos d) least.positive above e (least.least ys d point);
}
  where
    reach : (c m : ℤ) → c *ℤ den ≡ num *ℤ m → c *ℤ b ≡ a *ℤ m
    reach c m f =
        let N = leaf num in let D = leaf den in let A = leaf a in let B = leaf b in let C = leaf c in let M = leaf m in
        cancel den (c *ℤ b) (a *ℤ m) least.positive
        (same (times D (times C B)) (times (times C D) B) (omega arith) ∙ ap (λ (z : ℤ). z *ℤ b) f ∙ same (times (times N M) B) (times (times N B) M) (omega arith) ∙ ap (λ (z : ℤ). z *ℤ m) (sym e) ∙ same (times (times A D) M) (times D (times A M)) (omega arith))
