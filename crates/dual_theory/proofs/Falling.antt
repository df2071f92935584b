-- The measure falls with each step between forms without large entries.
use Rattle.std.proofs.Common.{ℕ, zero, suc, ◌≡◌, ◌<◌, ◌≤◌, ◌-◌, ◌*◌, ◌/◌, ◌^◌, arith, ap, sym, ◌∙◌, inl, inr, ⊎_elim, subst, List, [], length, get_or, Some, None}
use Rattle.std.specs.Prelude.{ℤ, pos, ◌+ℤ◌, ◌*ℤ◌, ◌-ℤ◌, ◌<ℤ◌, unsigned_abs}
use Rattle.std.specs.List.{All}
use Rattle.std.proofs.Math.Path.{fun_ext}
use Rattle.std.proofs.lemmas.Int.{ints}
use Rattle.std.proofs.lemmas.Bool.{cases_lt}
use Rattle.std.proofs.lemmas.Nat.{le-div}
use Rattle.std.proofs.lemmas.List.{get_or_past}
use Rattle.std.proofs.Math.Nat.{div-mul-le_self, mul-le-mul_right, le_of_mul-le-mul_left, pow-succ', pow-zero}
use Rattle.row_program.specs.Sums.{LexPositive}
use Rattle.row_program.specs.Forms.{Table, entry, row_of, next_form, first_large_of}
use Rattle.row_program.specs.Method.{row_of_basic, value_count, leaving, entering}
use Rattle.row_program.specs.declared.program.Program.{Program}
use Rattle.exact_num.proofs.Ring.{leaf, plus, minus, times, same}
use Rattle.pivot_form.proofs.NextForm.{IsShaped}
use Rattle.pivot_form.proofs.Equations.{small_rows_from_none}
use Rattle.dual_theory.proofs.FormValues.{IsRun}
use Rattle.dual_theory.specs.Runs.{num_in, den_in, value_num, value_den, gain, IsAbove}
use Rattle.dual_theory.specs.Measures.{digit, number, measure}
use Rattle.dual_theory.proofs.Found.{option_cases}
use Rattle.dual_theory.proofs.Runs.{value_count_is, next_kept}
use Rattle.dual_theory.proofs.Rising.{value_den_positive, next_above}

-- ---- digits
-- the digit of a fraction num / den whose size is below bound: rounded down at scale
pub digit_rises : (num num2 den den2 scale : ℕ) → 0 < den → 0 < den2 → den * den2 ≤ scale → num * den2 < num2 * den → num * scale / den < num2 * scale / den2
digit_rises num num2 den den2 scale h k small less =
    let q = num * scale / den in
    let low : q * den ≤ num * scale = div-mul-le_self (num * scale) den in
    let a : (q * den) * den2 ≤ (num * scale) * den2 = mul-le-mul_right den2 low in
    let b : suc (num * den2) * scale ≤ (num2 * den) * scale = mul-le-mul_right scale less in
    let c : den * (suc q * den2) ≤ den * (num2 * scale) = omega (arith, a, b, small) in
    le-div (suc q) (num2 * scale) den2 k (le_of_mul-le-mul_left c h)

pub number_below : (base n v : ℕ) (f : ℕ → ℕ) → ((u : ℕ) → f u < base) → number base n v f < base ^ n
number_below base zero v f h = omega (arith, pow-zero base)
number_below base (suc n) v f h =
    omega (arith, number_below base n (suc v) f h, mul-le-mul_right (base ^ n) (h v), pow-succ' base n)

-- the first digit that differs rises: the number rises
pub number_rises : (base n v : ℕ) (f g : ℕ → ℕ) → ((u : ℕ) → f u < base) → f v < g v → number base (suc n) v f < number base (suc n) v g
number_rises base n v f g h less =
    omega (arith, number_below base n (suc v) f h, mul-le-mul_right (base ^ n) less)

-- equal fractions have equal digits
pub digit_same : (num num2 den den2 scale : ℕ) → 0 < den → 0 < den2 → num * den2 ≡ num2 * den → num * scale / den ≡ num2 * scale / den2
digit_same num num2 den den2 scale h k e = omega (arith, below num num2 den den2 h k e, below num2 num den2 den k h (sym e))
  where
    below : (a b m n : ℕ) → 0 < m → 0 < n → a * n ≡ b * m → a * scale / m ≤ b * scale / n
    below a b m n h k e =
        let q = a * scale / m in
        let low : q * m ≤ a * scale = div-mul-le_self (a * scale) m in
        let x : (q * m) * n ≤ (a * scale) * n = mul-le-mul_right n low in
        let y : m * (q * n) ≤ m * (b * scale) = omega (arith, x, ap (λ (z : ℕ). z * scale) e) in
        le-div q (b * scale) n k (le_of_mul-le-mul_left y h)

-- fractions whose first difference rises: the numbers of their digits rise
pub fractions_rise : (base scale n v : ℕ) (num den num2 den2 : ℕ → ℕ) → ((u : ℕ) → 0 < den u) → ((u : ℕ) → 0 < den2 u) → ((u : ℕ) → den u * den2 u ≤ scale) → ((u : ℕ) → num u * scale / den u < base)
    → LexPositive n v (λ u. pos (num2 u * den u) -ℤ pos (num u * den2 u)) → number base n v (λ u. num u * scale / den u) < number base n v (λ u. num2 u * scale / den2 u)
fractions_rise base scale zero v num den num2 den2 h k small low p = absurd p
fractions_rise base scale (suc n) v num den num2 den2 h k small low (inl p) = number_rises base n v (λ u. num u * scale / den u) (λ u. num2 u * scale / den2 u) low (digit_rises (num v) (num2 v) (den v) (den2 v) scale (h v) (k v) (small v) (omega (arith, ints, p)))
fractions_rise base scale (suc n) v num den num2 den2 h k small low (inr r) =
    let same_digit = digit_same (num v) (num2 v) (den v) (den2 v) scale (h v) (k v) (omega (arith, ints, r.0)) in
    let rest = fractions_rise base scale n (suc v) num den num2 den2 h k small low r.1 in
    let front = ap (λ (d : ℕ). d * base ^ n) same_digit in
    omega (arith, rest, front)

-- ---- sizes
all_small : (row : List ℤ) (j : ℕ) → All (λ x. unsigned_abs x < 2 ^ 63) row → unsigned_abs (get_or row j (pos 0)) < 2 ^ 63
all_small row j a =
    ⊎_elim
    (λ (h : j < length row). a j (pos 0) h)
    (λ past. subst (λ (x : ℤ). unsigned_abs x < 2 ^ 63) (sym (get_or_past row j (pos 0) past)) (omega arith))
    (cases_lt j (length row))

-- no entry of a form without large entries is large
pub entry_small : (t : Table) (i j : ℕ) → first_large_of t.rows ≡ None → unsigned_abs (entry t i j) < 2 ^ 63
entry_small t i j narrow =
    ⊎_elim
    (λ (h : i < length t.rows). all_small (row_of t i) j (small_rows_from_none t.rows narrow i [] h))
    (λ past. subst (λ (row : List ℤ). unsigned_abs (get_or row j (pos 0)) < 2 ^ 63) (sym (get_or_past t.rows i [] past)) (omega arith))
    (cases_lt i (length t.rows))

den_small : (t : Table) (v : ℕ) → first_large_of t.rows ≡ None → unsigned_abs (value_den t v) < 2 ^ 63
den_small t v narrow =
    ⊎_elim
    (λ none. subst (λ (x : ℤ). unsigned_abs x < 2 ^ 63) (sym (ap (den_in t v) none)) (omega arith))
    (λ some. subst (λ (x : ℤ). unsigned_abs x < 2 ^ 63) (sym (ap (den_in t v) some.1)) (entry_small t some.0 v narrow))
    (option_cases (row_of_basic t v))

num_small : (t : Table) (v : ℕ) → first_large_of t.rows ≡ None → unsigned_abs (value_num t v) < 2 ^ 63
num_small t v narrow =
    ⊎_elim
    (λ none. subst (λ (x : ℤ). unsigned_abs x < 2 ^ 63) (sym (ap (num_in t) none)) (omega arith))
    (λ some. subst (λ (x : ℤ). unsigned_abs x < 2 ^ 63) (sym (ap (num_in t) some.1)) (entry_small t some.0 t.variables narrow))
    (option_cases (row_of_basic t v))

-- a value raised by 2 ^ 63
abbrev raised : Table → ℕ → ℕ
raised t v = unsigned_abs (value_num t v +ℤ pos (2 ^ 63) *ℤ value_den t v)

raised_is : (n d : ℤ) → pos 0 <ℤ d → unsigned_abs n < 2 ^ 63 → pos (unsigned_abs (n +ℤ pos (2 ^ 63) *ℤ d)) ≡ n +ℤ pos (2 ^ 63) *ℤ d
raised_is n d h k = omega (arith, ints, h, k)

raised_below : (n d : ℤ) → pos 0 <ℤ d → unsigned_abs n < 2 ^ 63 → unsigned_abs (n +ℤ pos (2 ^ 63) *ℤ d) < 2 ^ 64 * unsigned_abs d
raised_below n d h k = omega (arith, ints, h, k)

quotient_below : (a d b : ℕ) → 0 < d → a < b * d → a / d < b
quotient_below a d b h k =
    ⊎_elim
    (λ less. less)
    (λ (more : b ≤ a / d).
    let low : a / d * d ≤ a = div-mul-le_self a d in
    let up : b * d ≤ a / d * d = mul-le-mul_right d more in
    absurd (omega (arith, low, up, k)))
    (cases_lt (a / d) b)

digit_below : (t : Table) (v : ℕ) → IsShaped t → first_large_of t.rows ≡ None → digit t v < 2 ^ 190
digit_below t v shape narrow =
    let above = value_den_positive t v shape in
    let b = raised_below (value_num t v) (value_den t v) above (num_small t v narrow) in
    quotient_below (raised t v * 2 ^ 126) (unsigned_abs (value_den t v)) (2 ^ 190) (omega (arith, ints, above)) (omega (arith, b))

product_small : (a b : ℕ) → a < 2 ^ 63 → b < 2 ^ 63 → a * b ≤ 2 ^ 126
product_small a b h k =
    let x : a * b ≤ 2 ^ 63 * b = mul-le-mul_right b (let l : a ≤ 2 ^ 63 = omega (arith, h) in l) in
    omega (arith, x, k)

-- the gain of raised values
raised_gain : (n d n2 d2 k : ℤ) (a b : ℕ) (x y : ℕ) → pos a ≡ n +ℤ k *ℤ d → pos b ≡ n2 +ℤ k *ℤ d2 → pos x ≡ d → pos y ≡ d2 → n2 *ℤ d -ℤ n *ℤ d2 ≡ pos (b * x) -ℤ pos (a * y)
raised_gain n d n2 d2 k a b x y e f g h =
    let N = leaf n in let D = leaf d in let O = leaf n2 in let E = leaf d2 in let K = leaf k in
    let ring : n2 *ℤ d -ℤ n *ℤ d2 ≡ (n2 +ℤ k *ℤ d2) *ℤ d -ℤ (n +ℤ k *ℤ d) *ℤ d2 = same (minus (times O D) (times N E)) (minus (times (plus O (times K E)) D) (times (plus N (times K D)) E)) (omega arith) in
    let put : (n2 +ℤ k *ℤ d2) *ℤ d -ℤ (n +ℤ k *ℤ d) *ℤ d2 ≡ pos b *ℤ pos x -ℤ pos a *ℤ pos y = cc in
    ring ∙ put ∙ omega (arith, ints)

pub number_falls : (t u : Table) → IsShaped t → IsShaped u → first_large_of t.rows ≡ None → first_large_of u.rows ≡ None → IsAbove t u → number (2 ^ 190) (value_count t) 0 (digit t) < number (2 ^ 190) (value_count t) 0 (digit u)
number_falls t u st su nt nu above =
    fractions_rise (2 ^ 190) (2 ^ 126) (value_count t) 0 (raised t) (λ v. unsigned_abs (value_den t v)) (raised u) (λ v. unsigned_abs (value_den u v))
    (λ v. let p = value_den_positive t v st in omega (arith, ints, p))
    (λ v. let p = value_den_positive u v su in omega (arith, ints, p))
    (λ v. product_small (unsigned_abs (value_den t v)) (unsigned_abs (value_den u v)) (den_small t v nt) (den_small u v nu))
    (λ v. digit_below t v st nt)
    (subst (LexPositive (value_count t) 0) (fun_ext same_gain) above)
  where
    same_gain : (v : ℕ) → gain t u v ≡ pos (raised u v * unsigned_abs (value_den t v)) -ℤ pos (raised t v * unsigned_abs (value_den u v))
    same_gain v =
        let p = value_den_positive t v st in
        let q = value_den_positive u v su in
        raised_gain (value_num t v) (value_den t v) (value_num u v) (value_den u v) (pos (2 ^ 63)) (raised t v) (raised u v) (unsigned_abs (value_den t v)) (unsigned_abs (value_den u v))
        (raised_is (value_num t v) (value_den t v) p (num_small t v nt)) (raised_is (value_num u v) (value_den u v) q (num_small u v nu)) (omega (arith, ints, p)) (omega (arith, ints, q))

less_left : (b m n : ℕ) → m < n → n ≤ b → b - n < b - m
less_left b m n h k = omega (arith, h, k)

pub measure_falls : (p : Program) (t : Table) (r c : ℕ) → IsRun p t → leaving t ≡ Some r → entering t r ≡ Some c → first_large_of t.rows ≡ None → first_large_of (next_form t r c).rows ≡ None → measure (next_form t r c) < measure t
measure_falls p t r c run leaves enters nt nu =
    let u = next_form t r c in
    let kept = next_kept p t r c run leaves enters in
    let count : value_count u ≡ value_count t = value_count_is p u kept ∙ sym (value_count_is p t run) in
    let rise = number_falls t u run.shape kept.shape nt nu (next_above p t r c run leaves enters) in
    let below = number_below (2 ^ 190) (value_count t) 0 (digit u) (λ v. digit_below u v kept.shape nu) in
    subst (λ (n : ℕ). (2 ^ 190) ^ n - number (2 ^ 190) n 0 (digit u) < measure t) (sym count)
    (less_left ((2 ^ 190) ^ value_count t) (number (2 ^ 190) (value_count t) 0 (digit t)) (number (2 ^ 190) (value_count t) 0 (digit u)) rise (omega (arith, below)))
