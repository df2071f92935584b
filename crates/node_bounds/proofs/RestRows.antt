-- The rows of a program that aren't kept: those of the classes, and those of the flow.
use Rattle.std.proofs.Common.{◌≡◌, ℕ, zero, suc, ◌+◌, ◌-◌, ◌*◌, ◌<◌, ◌≤◌, List, [], ◌∷◌, ◌++◌, length, get_or, map, refl, sym, ap, subst, ◌∙◌, inl, inr, arith, All}
use Rattle.std.specs.Prelude.{pos, ◌-ℤ◌, ◌≤ℤ◌, ◌==◌}
use Rattle.std.specs.List.{range_with_len}
use Rattle.std.proofs.lemmas.Bool.{cases_lt}
use Rattle.std.proofs.lemmas.Int.{ints}
use Rattle.std.proofs.lemmas.List.{get_or_append_left}
use Rattle.std.proofs.lemmas.List.Elements.{All-cons, All-head, All-tail}
use Rattle.mov_base.specs.Sums.{add_up}
use Rattle.row_program.specs.Points.{row_value}
use Rattle.row_program.specs.declared.program.Row.{Row}
use Rattle.sig_graph.specs.Flows.{IsFlow, flow_in, flow_out}
use Rattle.sig_graph.specs.Paths.{arcs_of}
use Rattle.sig_graph.specs.Rows.{one_where}
use Rattle.sig_graph.proofs.ArcNumbers.{length-arcs_of}
use Rattle.goal_rows.specs.Programs.{class_row, class_rows_of, flow_weighings, row_by, weights_by}
use Rattle.goal_rows.specs.declared.goals.Goal.TheVariants.{Suffix}
use Rattle.node_bounds.proofs.ArcSums.{leaving_counts, through_counts}
use Rattle.node_bounds.proofs.RowValues.{AreNumbers, counting_value}
use Rattle.dual_bound.proofs.SideBySide.{times_none, times_ones}

-- the row is at least 0 there
abbrev pub IsMetAt : List ℕ → ℕ → Row → Type 0
IsMetAt whole den row = pos 0 ≤ℤ row_value row whole den

-- ---- what holds of what is made of a range

all_at : {X : Type 0} (P : X → Type 0) (f : ℕ → X) (a n x : ℕ) → All P (map f (range_with_len a n)) → a ≤ x → x < a + n → P (f x)
all_at P f a zero x all from to = absurd (omega (arith, from, to))
all_at P f a (suc n) x all from to = elim (cases_lt a x) [
  | inl later ↦ all_at P f (a + 1) n x (All-tail P (f a) (map f (range_with_len (a + 1) n)) all) (omega (arith, later)) (omega (arith, to))
  | inr here ↦ let e : a ≡ x = omega (arith, here, from) in subst (λ k. P (f k)) e (All-head P (f a) (map f (range_with_len (a + 1) n)) all)
]

all_over : {X : Type 0} (P : X → Type 0) (f : ℕ → X) (a n : ℕ) → ((x : ℕ) → a ≤ x → x < a + n → P (f x)) → All P (map f (range_with_len a n))
all_over P f a zero each = λ k d lt. absurd (omega (arith, lt))
all_over P f a (suc n) each =
    All-cons P (f a) (map f (range_with_len (a + 1) n)) (each a (omega arith) (omega arith)) (all_over P f (a + 1) n (λ x from to. each x (omega (arith, from)) (omega (arith, to))))

twice : {X Y : Type 0} (f : Y → X) (g : ℕ → Y) (xs : List ℕ) → map f (map g xs) ≡ map (λ x. f (g x)) xs
twice f g [] = refl
twice f g (x ∷ xs) = ap (λ ys. f (g x) ∷ ys) (twice f g xs)

-- made in two steps
made_at : {X Y : Type 0} (P : X → Type 0) (f : Y → X) (g : ℕ → Y) (a n : ℕ) → All P (map f (map g (range_with_len a n))) → (x : ℕ) → a ≤ x → x < a + n → P (f (g x))
made_at P f g a n all x = all_at P (λ x. f (g x)) a n x (subst (All P) (twice f g (range_with_len a n)) all)

made_over : {X Y : Type 0} (P : X → Type 0) (f : Y → X) (g : ℕ → Y) (a n : ℕ) → ((x : ℕ) → a ≤ x → x < a + n → P (f (g x))) → All P (map f (map g (range_with_len a n)))
made_over P f g a n each = subst (All P) (sym (twice f g (range_with_len a n))) (all_over P (λ x. f (g x)) a n each)

-- ---- classes

-- of each class at most its count times d
abbrev pub AreWithin : ℕ → List (ℕ × ℕ) → List ℕ → Type 0
AreWithin d [] xs = Unit {0}
AreWithin d (p ∷ ps) [] = Unit {0}
AreWithin d (p ∷ ps) (x ∷ xs) = (x ≤ d * p.1) × AreWithin d ps xs

class_value : (k n : ℕ) (whole : List ℕ) (den : ℕ) → row_value (class_row k n) whole den ≡ pos (den * n) -ℤ pos (get_or whole k 0)
class_value k n whole den = omega (arith, ints)

within_from : (d : ℕ) (ps : List (ℕ × ℕ)) (xs : List ℕ) → ((k : ℕ) → k < length ps → k < length xs → get_or xs k 0 ≤ d * (get_or ps k (0, 0)).1) → AreWithin d ps xs
within_from d [] xs each = tt
within_from d (p ∷ ps) [] each = tt
within_from d (p ∷ ps) (x ∷ xs) each = (each 0 (omega arith) (omega arith), within_from d ps xs (λ k lt also. each (suc k) (omega (arith, lt)) (omega (arith, also))))

pub within_at : (d : ℕ) (ps : List (ℕ × ℕ)) (xs : List ℕ) (k : ℕ) → AreWithin d ps xs → k < length ps → k < length xs → get_or xs k 0 ≤ d * (get_or ps k (0, 0)).1
within_at d [] xs k within lt also = absurd (omega (arith, lt))
within_at d (p ∷ ps) [] k within lt also = absurd (omega (arith, also))
within_at d (p ∷ ps) (x ∷ xs) zero within lt also = within.0
within_at d (p ∷ ps) (x ∷ xs) (suc k) within lt also = within_at d ps xs k within.1 (omega (arith, lt)) (omega (arith, also))

-- the rows of the classes bound them
pub classes_within : (classes : List (ℕ × ℕ)) (xs ys : List ℕ) (den : ℕ) → All (IsMetAt (xs ++ ys) den) (class_rows_of classes) → AreWithin den classes xs
classes_within classes xs ys den all = within_from den classes xs (λ k lt also.
    let met = all_at (IsMetAt (xs ++ ys) den) (λ k. class_row k (get_or classes k (0, 0)).1) 0 (length classes) k all (omega arith) (omega (arith, lt)) in
    let value = class_value k (get_or classes k (0, 0)).1 (xs ++ ys) den in
    let there = get_or_append_left xs ys 0 k also in
    omega (arith, ints, met, value, there))

pub classes_met : (classes : List (ℕ × ℕ)) (xs ys : List ℕ) (den : ℕ) → length xs ≡ length classes → AreWithin den classes xs → All (IsMetAt (xs ++ ys) den) (class_rows_of classes)
classes_met classes xs ys den long within = all_over (IsMetAt (xs ++ ys) den) (λ k. class_row k (get_or classes k (0, 0)).1) 0 (length classes) (λ k from to.
    let le = within_at den classes xs k within (omega (arith, to)) (omega (arith, to, long)) in
    let value = class_value k (get_or classes k (0, 0)).1 (xs ++ ys) den in
    let there = get_or_append_left xs ys 0 k (omega (arith, to, long)) in
    omega (arith, ints, le, value, there))

-- ---- flows

-- the row of the start
start_value : (classes : List (ℕ × ℕ)) (m : ℕ) (xs ys : List ℕ) (den : ℕ) → AreNumbers classes (arcs_of m) xs ys
    → row_value (row_by (pos 0) (map (λ c. pos 1) classes ++ map (λ a. pos 0 -ℤ pos (one_where (a.0 == 0))) (arcs_of m))) (xs ++ ys) den
    ≡ pos (add_up (λ x. x) xs) -ℤ pos (flow_out m ys 0)
start_value classes m xs ys den are =
    let value = counting_value (pos 0) (λ c. pos 1) (λ a. pos 0 -ℤ pos (one_where (a.0 == 0))) classes (arcs_of m) xs ys den are.of_classes are.of_arcs in
    let ones = times_ones xs classes are.of_classes in
    let out = leaving_counts m ys (are.of_arcs ∙ length-arcs_of m) in
    omega (arith, ints, value, ones, out)

-- the row of a place
place_value : (classes : List (ℕ × ℕ)) (m p : ℕ) (xs ys : List ℕ) (den : ℕ) → AreNumbers classes (arcs_of m) xs ys → p ≤ m
    → row_value (row_by (pos 0) (map (λ c. pos 0) classes ++ map (λ a. pos (one_where (a.1 == p)) -ℤ pos (one_where (a.0 == p))) (arcs_of m))) (xs ++ ys) den
    ≡ pos (flow_in m ys p) -ℤ pos (flow_out m ys p)
place_value classes m p xs ys den are le =
    let value = counting_value (pos 0) (λ c. pos 0) (λ a. pos (one_where (a.1 == p)) -ℤ pos (one_where (a.0 == p))) classes (arcs_of m) xs ys den are.of_classes are.of_arcs in
    let none = times_none xs classes in
    let through = through_counts m p ys (are.of_arcs ∙ length-arcs_of m) le in
    omega (arith, ints, value, none, through)

-- the rows of a flow under a suffix
abbrev pub suffix_flow_rows : List ℕ → List (ℕ × ℕ) → List Row
suffix_flow_rows suffix classes = map (λ weighing. row_by (pos 0) (weights_by weighing classes (arcs_of (length suffix)))) (flow_weighings (Suffix suffix))

pub rows_make_flow : (suffix : List ℕ) (classes : List (ℕ × ℕ)) (xs ys : List ℕ) (den : ℕ) → AreNumbers classes (arcs_of (length suffix)) xs ys
    → All (IsMetAt (xs ++ ys) den) (suffix_flow_rows suffix classes) → IsFlow (length suffix) ys (add_up (λ x. x) xs)
rows_make_flow suffix classes xs ys den are all =
    let m = length suffix in
    let met = IsMetAt (xs ++ ys) den in
    let first : met (row_by (pos 0) (map (λ c. pos 1) classes ++ map (λ a. pos 0 -ℤ pos (one_where (a.0 == 0))) (arcs_of m))) = All-head met _ _ all in
    let rest = All-tail met _ _ all in
    record {
      each = are.of_arcs ∙ length-arcs_of m;
      start = let value = start_value classes m xs ys den are in omega (arith, ints, first, value);
      places = λ p some le. elim (cases_lt p m) [
        | inl inner ↦
            let here : met (row_by (pos 0) (map (λ c. pos 0) classes ++ map (λ a. pos (one_where (a.1 == p)) -ℤ pos (one_where (a.0 == p))) (arcs_of m)))
            = made_at met (λ weighing. row_by (pos 0) (weights_by weighing classes (arcs_of m))) _ 1 (m - 1) rest p some (omega (arith, inner)) in
            let value = place_value classes m p xs ys den are le in
            omega (arith, ints, here, value)
        | inr last ↦
            let none : m - p ≡ 0 = omega (arith, last) in
            rw none (omega arith)
      ];
    }

pub flow_meets_rows : (suffix : List ℕ) (classes : List (ℕ × ℕ)) (xs ys : List ℕ) (den : ℕ) → AreNumbers classes (arcs_of (length suffix)) xs ys
    → IsFlow (length suffix) ys (add_up (λ x. x) xs) → All (IsMetAt (xs ++ ys) den) (suffix_flow_rows suffix classes)
flow_meets_rows suffix classes xs ys den are flow =
    let m = length suffix in
    let met = IsMetAt (xs ++ ys) den in
    All-cons met _ _
    (let value = start_value classes m xs ys den are in let le = flow.start in omega (arith, ints, value, le))
    (made_over met (λ weighing. row_by (pos 0) (weights_by weighing classes (arcs_of m))) _ 1 (m - 1)
    (λ p some to.
    let within : p ≤ m = omega (arith, to) in
    let value = place_value classes m p xs ys den are within in
    let le = flow.places p some within in
    omega (arith, ints, value, le)))
