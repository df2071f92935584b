-- Sums of products as a loop makes them, and how many terms a row has.
use Rattle.std.proofs.Common.{ℕ, zero, suc, ◌≡◌, ◌<◌, ◌≤◌, ◌+◌, ◌*◌, arith, sym, ◌∙◌, subst, List, [], ◌∷◌, length, get_or, take, map, eqb, Bool, true, false, ⊎_elim}
use Rattle.std.specs.Prelude.{ℤ, pos, ◌+ℤ◌, ◌||◌}
use Rattle.std.specs.List.{All, list_any}
use Rattle.std.proofs.lemmas.Int.{ints}
use Rattle.std.proofs.lemmas.Bool.Decides.{Decides-eqb, eqb_tells}
use Rattle.std.proofs.lemmas.List.{length-map}
use Rattle.std.proofs.Math.ListN.{get_or-map}
use Rattle.std.proofs.lemmas.Map.Made.{IsDistinct-from_AllPairs}
use Rattle.std.proofs.lemmas.Map.Steps.{length-le_from_distinct_below}
use Rattle.row_program.specs.declared.program.Term.{Term}
use Rattle.row_program.specs.declared.program.Row.{Row}
use Rattle.row_program.specs.Bounds.{IsRow}
use Rattle.mov_base.specs.Sums.{sum_z}
use Rattle.row_program.specs.Points.{cost_of}

pub sum_z_more : {A : Type 0} (f : A → ℤ) (xs : List A) (i j : ℕ) (d : A) → i < length xs → i + 1 ≡ j → sum_z f (take j xs) ≡ sum_z f (take i xs) +ℤ f (get_or xs i d)
sum_z_more f [] i j d h e = absurd (omega (arith, h))
sum_z_more f (x ∷ xs) zero j d h e = subst (λ (k : ℕ). sum_z f (take k (x ∷ xs)) ≡ pos 0 +ℤ f x) e (omega (arith, ints))
sum_z_more f (x ∷ xs) (suc i) zero d h e = absurd (omega (arith, e))
sum_z_more f (x ∷ xs) (suc i) (suc j) d h e = omega (arith, ints, sum_z_more f xs i j d (omega (arith, h)) (omega (arith, e)))

pub cost_of_more : (costs whole : List ℕ) (i j : ℕ) → i < length costs → i < length whole → i + 1 ≡ j → cost_of (take j costs) (take j whole) ≡ cost_of (take i costs) (take i whole) + get_or costs i 0 * get_or whole i 0
cost_of_more [] whole i j h k e = absurd (omega (arith, h))
cost_of_more (c ∷ costs) [] i j h k e = absurd (omega (arith, k))
cost_of_more (c ∷ costs) (x ∷ whole) zero j h k e = subst (λ (m : ℕ). cost_of (take m (c ∷ costs)) (take m (x ∷ whole)) ≡ 0 + c * x) e (omega arith)
cost_of_more (c ∷ costs) (x ∷ whole) (suc i) zero h k e = absurd (omega (arith, e))
cost_of_more (c ∷ costs) (x ∷ whole) (suc i) (suc j) h k e = omega (arith, cost_of_more costs whole i j (omega (arith, h)) (omega (arith, k)) (omega (arith, e)))

-- a row has at most one term a variable
variables_of : List Term → List ℕ
variables_of terms = map (λ t. t.variable) terms

variable_at : (terms : List Term) (k d : ℕ) → get_or (variables_of terms) k d ≡ (get_or terms k (record { variable = d; times = pos 0 })).variable
unfolding variables_of
variable_at terms k d = get_or-map (λ t. t.variable) terms k (record { variable = d; times = pos 0 })

any_below : (n q : ℕ) (terms : List Term) → All (λ t. t.variable < n) terms → list_any (eqb q) (variables_of terms) ≡ true → q < n
unfolding variables_of
any_below n q [] a e = absurd (let clash : false ≡ true = e in cc)
any_below n q (t ∷ terms) a e =
    ⊎_elim
    (λ here. let low : t.variable < n = a zero t (omega arith) in omega (arith, low, here.1))
    (λ apart. any_below n q terms (λ k d h. a (suc k) d (omega (arith, h))) (or_right (eqb q t.variable) (list_any (eqb q) (map (λ u. u.variable) terms)) apart.0 e))
    (eqb_tells q t.variable)
  where
    or_right : (a b : Bool) → a ≡ false → (a || b) ≡ true → b ≡ true
    or_right true b e f = let clash : true ≡ false = e in cc
    or_right false b e f = f

pub few_terms : (n : ℕ) (row : Row) → IsRow n row → length row.terms ≤ n
unfolding variables_of
few_terms n row h =
    let distinct = IsDistinct-from_AllPairs {eq = eqb} Decides-eqb (variables_of row.terms) (λ i j d l m. λ e. h.one_each i j (record { variable = d; times = pos 0 }) l (omega (arith, m, length-map row.terms (λ t. t.variable))) (sym (variable_at row.terms i d) ∙ e ∙ variable_at row.terms j d)) in
    let few = length-le_from_distinct_below (variables_of row.terms) n distinct (λ q e. any_below n q row.terms h.within e) in
    omega (arith, few, length-map row.terms (λ t. t.variable))
