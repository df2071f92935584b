-- The first of the classes sorted by gain give the greatest sum.
use Rattle.std.proofs.Common.{◌≡◌, ℕ, zero, suc, ◌+◌, ◌-◌, ◌*◌, ◌<◌, ◌≤◌, List, [], ◌∷◌, min, length, drop, get_or, drop-cons, add-one, sym, refl, ap, ◌∙◌, inl, inr, arith}
use Rattle.std.proofs.Math.Nat.{mul-le-mul_left}
use Rattle.std.proofs.lemmas.Bool.{cases_lt}
use Rattle.std.proofs.lemmas.Bool.Decides.{nat_tests}
use Rattle.std.proofs.Math.IntN.{ℤ}
use Rattle.std.proofs.lemmas.Int.{ints}
use Rattle.mov_base.specs.Sums.{add_up, most}
use Rattle.mov_base.proofs.Most.{above, reaching, most-le, most-mono, most-none, most-reached}
use Rattle.signature_class.specs.Classes.{IsGrouped}
use Rattle.dual_bound.specs.Largest.{AllAtMost, CutsAt, IsDescending, greedy}

-- a threshold at which the first k of the classes are exact
pub record Split (k : ℕ) (ps : List (ℕ × ℕ)) (g : ℕ) : Type 0 where
  pub θ : ℕ
  pub below : θ ≤ g
  pub value : greedy k ps ≡ k * θ + add_up (λ (p : ℕ × ℕ). p.1 * (p.0 - θ)) ps
  pub few : add_up (λ (p : ℕ × ℕ). p.1 * above θ p.0) ps ≤ k
  pub many : k ≤ add_up (λ (p : ℕ × ℕ). p.1 * reaching θ p.0) ps

-- nothing of the rest is above the greatest
none_step : (θ c x s f : ℕ) → x ≤ θ → s ≡ 0 → f ≡ 0 → (c * (x - θ) + s ≡ 0) × (c * above θ x + f ≡ 0)
none_step θ c x s f h e d =
    let z : x - θ ≡ 0 = omega arith in
    let o : above θ x ≡ 0 = grind (arith, nat_tests) in
    (rw z (omega arith), rw o (omega arith))

rest_none : (θ : ℕ) (ps : List (ℕ × ℕ)) → AllAtMost θ ps → (add_up (λ (p : ℕ × ℕ). p.1 * (p.0 - θ)) ps ≡ 0) × (add_up (λ (p : ℕ × ℕ). p.1 * above θ p.0) ps ≡ 0)
rest_none θ [] h = (refl, refl)
rest_none θ (p ∷ ps) h =
    let r = rest_none θ ps h.1 in
    none_step θ p.1 p.0 _ _ h.0 r.0 r.1

greedy-zero : (ps : List (ℕ × ℕ)) → greedy 0 ps ≡ 0
greedy-zero [] = refl
greedy-zero (p ∷ ps) =
    let e : 0 - p.1 ≡ 0 = omega arith in
    let z : min 0 p.1 ≡ 0 = omega arith in
    rw (e, z, greedy-zero ps) (omega arith)

-- the first class has all of the k
split_here : (k c x : ℕ) (ps : List (ℕ × ℕ)) (g : ℕ) → AllAtMost x ps → x ≤ g → 0 < k → k ≤ c → Split k ((x, c) ∷ ps) g
split_here k c x ps g down le some fits =
    let r = rest_none x ps down in
    let w : min k c ≡ k = omega arith in
    let e : k - c ≡ 0 = omega arith in
    let z : x - x ≡ 0 = omega arith in
    let a : above x x ≡ 0 = grind (arith, nat_tests) in
    let b : reaching x x ≡ 1 = grind (arith, nat_tests) in
    record {
      θ = x;
      below = le;
      value = rw (w, e, z, greedy-zero ps) (omega (arith, r.0));
      few = rw a (omega (arith, r.1));
      many = rw b (omega arith);
    }

spread : (c j θ y r s : ℕ) → r ≡ j * θ + s → c * (θ + y) + r ≡ (c + j) * θ + (c * y + s)
spread c j θ y r s e = omega arith

whole : (k c x θ r s : ℕ) → c < k → θ ≤ x → r ≡ (k - c) * θ + s → min k c * x + r ≡ k * θ + (c * (x - θ) + s)
whole k c x θ r s more le e =
    let w : min k c ≡ c = omega arith in
    let dk : k ≡ c + (k - c) = omega arith in
    let dx : x ≡ θ + (x - θ) = omega arith in
    rw w (ap (λ n. c * n + r) dx ∙ spread c (k - c) θ (x - θ) r s e ∙ ap (λ n. n * θ + (c * (x - θ) + s)) (sym dk))

-- the first class is taken whole
split_on : (k c x : ℕ) (ps : List (ℕ × ℕ)) (g : ℕ) → x ≤ g → c < k → Split (k - c) ps x → Split k ((x, c) ∷ ps) g
split_on k c x ps g le more s =
    let w : min k c ≡ c = omega arith in
    let d : x ≡ s.θ + (x - s.θ) = omega (arith, s.below) in
    let a : above s.θ x ≤ 1 = grind (arith, nat_tests) in
    let b : reaching s.θ x ≡ 1 = grind (arith, nat_tests, s.below) in
    let am : c * above s.θ x ≤ c * 1 = mul-le-mul_left c a in
    record {
      θ = s.θ;
      below = omega (arith, s.below);
      value = whole k c x s.θ _ _ more s.below s.value;
      few = omega (arith, am, s.few);
      many = rw b (omega (arith, s.many));
    }

pub split : (k : ℕ) (ps : List (ℕ × ℕ)) (g : ℕ) → IsDescending ps → AllAtMost g ps → 0 < k → k ≤ add_up (λ (p : ℕ × ℕ). p.1) ps → Split k ps g
split k [] g down most_g some enough = absurd (omega arith)
split k (p ∷ ps) g down most_g some enough =
    elim (cases_lt p.1 k) [
      | inl more ↦ split_on k p.1 p.0 ps g most_g.0 more (split (k - p.1) ps p.0 down.1 down.0 (omega arith) (omega arith))
      | inr fits ↦ split_here k p.1 p.0 ps g down.0 most_g.0 some fits
    ]

greedy-at : (k : ℕ) (xs : List ℕ) (ps : List (ℕ × ℕ)) (g : ℕ) → IsGrouped xs ps → IsDescending ps → AllAtMost g ps →
    0 < k → k ≤ add_up (λ (p : ℕ × ℕ). p.1) ps → greedy k ps ≡ most k xs
greedy-at k xs ps g same down top some enough =
    let s = split k ps g down top some enough in
    let up = most-le s.θ k xs in
    let a = same (above s.θ) in
    let b = same (reaching s.θ) in
    let e = same (λ x. x - s.θ) in
    let lo = most-reached s.θ k xs (omega (arith, s.few)) (omega (arith, s.many)) in
    omega (arith, s.value)

pub greedy-is_most : (k : ℕ) (xs : List ℕ) (ps : List (ℕ × ℕ)) → IsGrouped xs ps → IsDescending ps →
    k ≤ add_up (λ (p : ℕ × ℕ). p.1) ps → greedy k ps ≡ most k xs
greedy-is_most zero xs ps same down enough = greedy-zero ps ∙ sym (most-none xs)
greedy-is_most (suc k) xs [] same down enough = absurd (omega arith)
greedy-is_most (suc k) xs (p ∷ ps) same down enough =
    let le : p.0 ≤ p.0 = omega arith in
    greedy-at (suc k) xs (p ∷ ps) p.0 same down (le, down.0) (omega arith) enough

-- what is cut at t is cut below
pub CutsAt-below : (base : ℤ) (xs : List ℕ) (u t : ℕ) → u ≤ t → CutsAt base xs t → CutsAt base xs u
CutsAt-below base xs u t le cut = elim (cases_lt 0 u) [
  | inr z ↦ inl (omega arith)
  | inl some ↦ elim cut [
    | inl z ↦ inl (omega arith)
    | inr c ↦ let m = most-mono (u - 1) (t - 1) xs (omega arith) in inr (omega (arith, ints, c))
  ]
]

-- ---- the loop over the classes
-- one class more
pub greedy_more : (k left total taken wide i : ℕ) (classes : List (ℕ × ℕ)) → i < length classes → taken ≡ min left (get_or classes i (0, 0)).1 → wide ≡ taken
    → total + greedy left (drop i classes) ≡ greedy k classes → total + wide * (get_or classes i (0, 0)).0 + greedy (left - taken) (drop (i + 1) classes) ≡ greedy k classes
greedy_more k left total taken wide i classes lt is wide_is inv =
    let d : drop i classes ≡ get_or classes i (0, 0) ∷ drop (i + 1) classes = rw add-one (drop-cons classes i (0, 0) lt) in
    let s : left - taken ≡ left - (get_or classes i (0, 0)).1 = omega arith in
    let h = rw d at inv in
    rw (s, wide_is, is) (omega (arith, h))

-- and what is taken of it is small
pub taken_high : (bound k left taken wide total gain : ℕ) → gain ≤ bound → taken ≤ left → wide ≡ taken → left ≤ k → total ≤ (k - left) * bound → total + wide * gain ≤ (k - (left - taken)) * bound
taken_high bound k left taken wide total gain small few wide_is le high =
    let m = mul-le-mul_left taken small in
    let e : k - (left - taken) ≡ (k - left) + taken = omega arith in
    rw (e, wide_is) (omega (arith, m, high))
