-- Sums over the arcs of a suffix, and the rows of a flow.
use Rattle.std.proofs.Common.{◌≡◌, ◌≢◌, ℕ, zero, suc, ◌+◌, ◌-◌, ◌*◌, ◌<◌, ◌≤◌, List, [], ◌∷◌, length, get_or, map, refl, sym, ap, ◌∙◌, inl, inr, arith}
use Rattle.std.specs.Prelude.{pos, ◌-ℤ◌, ◌==◌}
use Rattle.std.specs.List.{range_with_len}
use Rattle.std.proofs.lemmas.Bool.{cases_eq, cases_lt}
use Rattle.std.proofs.lemmas.Int.{ints}
use Rattle.std.proofs.lemmas.List.{ext_get_or, length-map}
use Rattle.mov_base.specs.Sums.{add_up}
use Rattle.irv_count.proofs.Members.{differ_test, same_test}
use Rattle.sig_graph.specs.Flows.{flow_at, flow_in, flow_out}
use Rattle.sig_graph.specs.Paths.{arc_total, arcs_of}
use Rattle.sig_graph.specs.Rows.{one_where}
use Rattle.sig_graph.proofs.ArcNumbers.{arc_of, get_or-each, length-arcs_of}
use Rattle.sig_graph.proofs.Ranges.{range-none, range-same}
use Rattle.dual_bound.specs.Weighing.{times_all}
use Rattle.dual_bound.proofs.PathTotals.{by_rows}
use Rattle.dual_bound.proofs.SideBySide.{minus_inside}

-- ---- sums over ranges

-- one term alone
range-alone : (g : ℕ → ℕ) (x a n : ℕ) → ((b : ℕ) → a ≤ b → b < a + n → b ≢ x → g b ≡ 0) → a ≤ x → x < a + n → add_up g (range_with_len a n) ≡ g x
range-alone g x a zero none from to = absurd (omega (arith, from, to))
range-alone g x a (suc n) none from to = elim (cases_eq a x) [
  | inl same ↦
      let later = range-none g (a + 1) n (λ b le lt. none b (omega arith) (omega arith) (omega (arith, le, same))) in
      omega (arith, later, ap g same)
  | inr differ ↦
      let here = none a (omega arith) (omega arith) differ in
      let later = range-alone g x (a + 1) n (λ b le lt ne. none b (omega arith) (omega arith) ne) (omega (arith, from, differ)) (omega (arith, to)) in
      omega (arith, here, later)
]

-- terms that end
range-ends : (g h : ℕ → ℕ) (a n k : ℕ) → ((b : ℕ) → a ≤ b → b < a + n → g b ≡ h b) → ((b : ℕ) → a + n ≤ b → b < a + n + k → g b ≡ 0)
    → add_up g (range_with_len a (n + k)) ≡ add_up h (range_with_len a n)
range-ends g h a zero k same none =
    let e : zero + k ≡ k = omega arith in
    ap (λ j. add_up g (range_with_len a j)) e ∙ range-none g a k (λ b le lt. none b (omega arith) (omega arith))
range-ends g h a (suc n) k same none =
    let e : suc n + k ≡ suc (n + k) = omega arith in
    let here = same a (omega arith) (omega arith) in
    let later = range-ends g h (a + 1) n k (λ b le lt. same b (omega arith) (omega arith)) (λ b le lt. none b (omega arith) (omega arith)) in
    ap (λ j. add_up g (range_with_len a j)) e ∙ omega (arith, here, later)

-- ---- sums over arcs

counted : (f u v : ℕ) → u ≡ v → f * one_where (u == v) ≡ f
counted f u v same = rw (same_test u v same) (omega arith)

not_counted : (f u v : ℕ) → u ≢ v → f * one_where (u == v) ≡ 0
not_counted f u v differ = rw (differ_test u v differ) (omega arith)

-- over the arcs out of a place
pub out_of : (m v : ℕ) (f : ℕ → ℕ → ℕ) → add_up (λ a. f a.0 a.1 * one_where (a.0 == v)) (arcs_of m) ≡ add_up (λ x. f v x) (range_with_len (v + 1) (m - v))
out_of m v f = by_rows m (λ a. f a.0 a.1 * one_where (a.0 == v)) ∙ elim (cases_lt v m) [
  | inl within ↦
      range-alone (λ u. add_up (λ x. f u x * one_where (u == v)) (range_with_len (u + 1) (m - u))) v 0 m
      (λ u from to differ. range-none (λ x. f u x * one_where (u == v)) (u + 1) (m - u) (λ x le lt. not_counted (f u x) u v differ)) (omega arith) (omega (arith, within))
      ∙ range-same (λ x. f v x * one_where (v == v)) (λ x. f v x) (v + 1) (m - v) (λ x le lt. counted (f v x) v v refl)
  | inr past ↦
      let none : m - v ≡ 0 = omega (arith, past) in
      range-none (λ u. add_up (λ x. f u x * one_where (u == v)) (range_with_len (u + 1) (m - u))) 0 m
      (λ u from to. range-none (λ x. f u x * one_where (u == v)) (u + 1) (m - u) (λ x le lt. not_counted (f u x) u v (λ e. omega (arith, e, to, past))))
      ∙ ap (λ n. add_up (λ x. f v x) (range_with_len (v + 1) n)) (sym none)
]

-- over the arcs to a place
pub come_to : (m p : ℕ) (f : ℕ → ℕ → ℕ) → p ≤ m → add_up (λ a. f a.0 a.1 * one_where (a.1 == p)) (arcs_of m) ≡ add_up (λ u. f u p) (range_with_len 0 p)
come_to m p f le =
    let whole : m ≡ p + (m - p) = omega (arith, le) in
    by_rows m (λ a. f a.0 a.1 * one_where (a.1 == p))
    ∙ ap (λ n. add_up (λ u. add_up (λ x. f u x * one_where (x == p)) (range_with_len (u + 1) (m - u))) (range_with_len 0 n)) whole
    ∙ range-ends (λ u. add_up (λ x. f u x * one_where (x == p)) (range_with_len (u + 1) (m - u))) (λ u. f u p) 0 p (m - p)
    (λ u from to.
    range-alone (λ x. f u x * one_where (x == p)) p (u + 1) (m - u) (λ x low high differ. not_counted (f u x) x p differ) (omega (arith, to)) (omega (arith, to, le))
    ∙ counted (f u p) p p refl)
    (λ u from to. range-none (λ x. f u x * one_where (x == p)) (u + 1) (m - u) (λ x low high. not_counted (f u x) x p (λ e. omega (arith, e, low, from))))

-- ---- numbers on arcs

-- numbers in the order of arcs, arc by arc
numbers_are : (m : ℕ) (ys : List ℕ) → length ys ≡ arc_total m → ys ≡ map (λ a. flow_at m ys a.0 a.1) (arcs_of m)
numbers_are m ys long =
    let on : ℕ × ℕ → ℕ = λ a. flow_at m ys a.0 a.1 in
    ext_get_or 0 ys (map on (arcs_of m)) (omega (arith, long, length-map (arcs_of m) on, length-arcs_of m)) (λ k within.
    let a = arc_of m k (omega (arith, within, long)) in
    ap (λ i. get_or ys i 0) (sym a.is) ∙ sym (get_or-each on m a.from a.to 0 a.begins a.ends) ∙ ap (λ i. get_or (map on (arcs_of m)) i 0) a.is)

times_apart : (on more less : ℕ × ℕ → ℕ) (arcs : List (ℕ × ℕ))
    → times_all (map on arcs) (map (λ a. pos (more a) -ℤ pos (less a)) arcs) ≡ pos (add_up (λ a. on a * more a) arcs) -ℤ pos (add_up (λ a. on a * less a) arcs)
times_apart on more less [] = refl
times_apart on more less (a ∷ arcs) =
    let here = minus_inside (on a) (pos (more a)) (pos (less a)) in
    let rest = times_apart on more less arcs in
    omega (arith, ints, here, rest)

-- numbers times weights that are differences
counted_apart : (m : ℕ) (ys : List ℕ) (more less : ℕ × ℕ → ℕ) → length ys ≡ arc_total m
    → times_all ys (map (λ a. pos (more a) -ℤ pos (less a)) (arcs_of m))
    ≡ pos (add_up (λ a. flow_at m ys a.0 a.1 * more a) (arcs_of m)) -ℤ pos (add_up (λ a. flow_at m ys a.0 a.1 * less a) (arcs_of m))
counted_apart m ys more less long =
    ap (λ zs. times_all zs (map (λ a. pos (more a) -ℤ pos (less a)) (arcs_of m))) (numbers_are m ys long) ∙ times_apart (λ a. flow_at m ys a.0 a.1) more less (arcs_of m)

none_counted : (f : ℕ × ℕ → ℕ) (arcs : List (ℕ × ℕ)) → add_up (λ a. f a * 0) arcs ≡ 0
none_counted f [] = refl
none_counted f (a ∷ arcs) = omega (arith, none_counted f arcs)

-- what leaves the start
pub leaving_counts : (m : ℕ) (ys : List ℕ) → length ys ≡ arc_total m
    → times_all ys (map (λ a. pos 0 -ℤ pos (one_where (a.0 == 0))) (arcs_of m)) ≡ pos 0 -ℤ pos (flow_out m ys 0)
leaving_counts m ys long =
    let apart = counted_apart m ys (λ a. 0) (λ a. one_where (a.0 == 0)) long in
    let none = none_counted (λ a. flow_at m ys a.0 a.1) (arcs_of m) in
    let out = out_of m 0 (flow_at m ys) in
    omega (arith, ints, apart, none, out)

-- what comes to a place, less what leaves it
pub through_counts : (m p : ℕ) (ys : List ℕ) → length ys ≡ arc_total m → p ≤ m
    → times_all ys (map (λ a. pos (one_where (a.1 == p)) -ℤ pos (one_where (a.0 == p))) (arcs_of m)) ≡ pos (flow_in m ys p) -ℤ pos (flow_out m ys p)
through_counts m p ys long le =
    let apart = counted_apart m ys (λ a. one_where (a.1 == p)) (λ a. one_where (a.0 == p)) long in
    let come = come_to m p (flow_at m ys) le in
    let out = out_of m p (flow_at m ys) in
    omega (arith, ints, apart, come, out)
