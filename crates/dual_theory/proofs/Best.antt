-- Where the method ends in Best: the point of the form is the least point.
use Rattle.std.proofs.Common.{ℕ, zero, suc, ◌≡◌, ◌<◌, ◌≤◌, ◌+◌, ◌-◌, ◌*◌, ◌/◌, arith, ap, sym, ◌∙◌, inl, inr, ◌⊎◌, ⊎_elim, subst, List, [], ◌∷◌, length, get_or}
use Rattle.std.specs.Prelude.{ℤ, pos, negsuc, ◌*ℤ◌, ◌-ℤ◌, ◌<ℤ◌, ◌≤ℤ◌, unsigned_abs}
use Prim.Native.Nat.{◌∣◌}
use Rattle.std.proofs.lemmas.Int.{ints}
use Rattle.std.proofs.lemmas.Bool.{cases_eq}
use Rattle.std.proofs.lemmas.List.{get_or_default}
use Rattle.std.proofs.lemmas.List.FromFn.{length-map-range_with_len, get_or-map-range_with_len}
use Rattle.std.proofs.lemmas.Nat.Gcd.{dvd_trans, le_of_dvd}
use Rattle.std.proofs.Math.Nat.{one-dvd}
use Rattle.row_program.specs.Forms.{Table, entry, right_side, tableau, empty_row}
use Rattle.row_program.specs.Method.{row_of_basic, column, IsBest}
use Rattle.row_program.specs.Points.{row_value, IsPoint, cost_of, IsLeastCost, IsLexAtMost, SameValues, IsLeastPoint}
use Rattle.row_program.specs.declared.program.Row.{Row}
use Rattle.row_program.specs.declared.program.Program.{Program}
use Rattle.exact_num.proofs.Divisors.{lowest as lowest_divides}
use Rattle.exact_num.proofs.Ring.{leaf, minus, times, same}
use Rattle.pivot_form.proofs.Sums.{positive_product, cancel}
use Rattle.dual_theory.proofs.FormValues.{value_of, IsRun}
use Rattle.dual_theory.specs.Runs.{num_in, value_num, value_den}
use Rattle.dual_theory.specs.Ends.{lowest_by, lowest_num, lowest_den, common_den, whole_number, point_whole, point_den}
use Rattle.dual_theory.proofs.Lex.{LexNonnegative, LexNonnegative-times, LexNonnegative-same_signs}
use Rattle.dual_theory.proofs.Orders.{base_value, base_least}
use Rattle.dual_theory.proofs.Found.{option_cases, row_of_some}
use Rattle.dual_theory.proofs.Chosen.{leaving_none, is_column}
use Rattle.dual_theory.proofs.Rising.{value_den_positive, value_at_base, column_positive}
use Rattle.dual_theory.proofs.Multiples.{exact_quotient, cancel_nat, num_back, den_back, den_above, in_lowest, lcm_left, lcm_right, lcm_above, lcm_least}
use Rattle.dual_theory.proofs.Bridges.{as_values, value_cost_is, value_own_is, value_slack_is, point_above, in_proportion}
use Rattle.dual_theory.proofs.Values.{value_own}

-- ---- signs
pub nonnegative_factor : (g b : ℤ) → pos 0 <ℤ g → pos 0 ≤ℤ (g *ℤ b) → pos 0 ≤ℤ b
nonnegative_factor g (pos b) h k = omega (arith, ints)
nonnegative_factor g (negsuc b) h k =
    let q = positive_product g (neg_of b) h (omega (arith, ints)) in
    let ring : g *ℤ neg_of b ≡ pos 0 -ℤ g *ℤ negsuc b = same (times (leaf g) (minus (leaf (pos 0)) (leaf (negsuc b)))) (minus (leaf (pos 0)) (times (leaf g) (leaf (negsuc b)))) (omega arith) in
    absurd (omega (arith, ints, q, ring, k))
  where
    neg_of : ℕ → ℤ
    neg_of c = pos 0 -ℤ negsuc c

pub nonnegative_product : (a b : ℤ) → pos 0 ≤ℤ a → pos 0 ≤ℤ b → pos 0 ≤ℤ (a *ℤ b)
nonnegative_product (pos a) (pos b) h k = omega (arith, ints)
nonnegative_product (pos a) (negsuc b) h k = absurd (omega (arith, ints, k))
nonnegative_product (negsuc a) b h k = absurd (omega (arith, ints, h))

-- ---- the values of a form where nothing is negative
pub value_num_above : (t : Table) (p : Program) (v : ℕ) → IsRun p t → IsBest t → pos 0 ≤ℤ value_num t v
value_num_above t p v run best =
    ⊎_elim
    (λ none. subst (λ (x : ℤ). pos 0 ≤ℤ x) (sym (ap (num_in t) none)) (omega (arith, ints)))
    (λ some. let found = row_of_some t v some.0 run.shape.basics some.1 in subst (λ (x : ℤ). pos 0 ≤ℤ x) (sym (ap (num_in t) some.1)) (leaving_none t some.0 run.shape best found.0))
    (option_cases (row_of_basic t v))

-- ---- in lowest terms
module _ (t : Table) (positive : (v : ℕ) → pos 0 <ℤ value_den t v) where
  den_size_above : (v : ℕ) → 0 < unsigned_abs (value_den t (v + 1))
  den_size_above v = let h = positive (v + 1) in omega (arith, ints, h)

  pub lowest_den_above : (v : ℕ) → 0 < lowest_den t v
  lowest_den_above v = den_above (unsigned_abs (value_num t (v + 1))) (unsigned_abs (value_den t (v + 1))) (den_size_above v)

  pub common_den_above : (n : ℕ) → 0 < common_den t n
  common_den_above zero = omega arith
  common_den_above (suc n) = lcm_above (common_den t n) (lowest_den t n) (common_den_above n) (lowest_den_above n)

  pub common_den_divided : (n v : ℕ) → v < n → lowest_den t v ∣ common_den t n
  common_den_divided zero v h = absurd (omega (arith, h))
  common_den_divided (suc n) v h =
      ⊎_elim
      (λ (e : v ≡ n). subst (λ (u : ℕ). lowest_den t u ∣ common_den t (suc n)) (sym e) (lcm_right (common_den t n) (lowest_den t n) (common_den_above n) (lowest_den_above n)))
      (λ apart. dvd_trans (lowest_den t v) (common_den_divided n v (omega (arith, h, apart))) (lcm_left (common_den t n) (lowest_den t n) (common_den_above n) (lowest_den_above n)))
      (cases_eq v n)

  pub common_den_least : (n m : ℕ) → ((v : ℕ) → v < n → lowest_den t v ∣ m) → common_den t n ∣ m
  common_den_least zero m h = one-dvd m
  common_den_least (suc n) m h = lcm_least (common_den t n) (lowest_den t n) (common_den_above n) (lowest_den_above n) m (common_den_least n m (λ v l. h v (omega (arith, l)))) (h n (omega arith))

  -- the number over the common denominator is the value
  pub whole_in_lowest : (n v : ℕ) → v < n → whole_number t n v * lowest_den t v ≡ common_den t n * lowest_num t v
  whole_in_lowest n v h =
      let e = exact_quotient (common_den t n) (lowest_den t v) (common_den_divided n v h) in
      product_same (lowest_num t v) (common_den t n / lowest_den t v) (lowest_den t v) (common_den t n) e
    where
      product_same : (a q d m : ℕ) → q * d ≡ m → a * q * d ≡ m * a
      product_same a q d m e = omega (arith, ap (λ (x : ℕ). a * x) e)

  pub whole_is : (n v : ℕ) → v < n → whole_number t n v * unsigned_abs (value_den t (v + 1)) ≡ common_den t n * unsigned_abs (value_num t (v + 1))
  whole_is n v h =
      let e = whole_in_lowest n v h in
      let a = num_back (unsigned_abs (value_num t (v + 1))) (unsigned_abs (value_den t (v + 1))) (den_size_above v) in
      let b = den_back (unsigned_abs (value_num t (v + 1))) (unsigned_abs (value_den t (v + 1))) (den_size_above v) in
      times_by (whole_number t n v) (lowest_den t v) (common_den t n) (lowest_num t v) (lowest_by t v) (unsigned_abs (value_num t (v + 1))) (unsigned_abs (value_den t (v + 1))) e a b
    where
      times_by : (w d c m g x y : ℕ) → w * d ≡ c * m → m * g ≡ x → d * g ≡ y → w * y ≡ c * x
      times_by w d c m g x y e a b = omega (arith, ap (λ (k : ℕ). k * g) e, ap (λ (k : ℕ). c * k) a, ap (λ (k : ℕ). w * k) b)

-- ---- lists in lexicographic order
lex_lists : (xs ys : List ℕ) (d e v : ℕ) (f : ℕ → ℤ) → ((k : ℕ) → k < length xs → f (v + k) ≡ pos (get_or ys k 0 * d) -ℤ pos (get_or xs k 0 * e)) → LexNonnegative (length xs) v f → IsLexAtMost xs d ys e
lex_lists [] ys d e v f h l = tt
lex_lists (x ∷ xs) [] d e v f h l = tt
lex_lists (x ∷ xs) (y ∷ ys) d e v f h (inl more) =
    let here : f v ≡ pos (y * d) -ℤ pos (x * e) = ap f (let k : v ≡ v + 0 = omega arith in k) ∙ h 0 (omega arith) in
    inl (omega (arith, ints, here, more))
lex_lists (x ∷ xs) (y ∷ ys) d e v f h (inr rest) =
    let here : f v ≡ pos (y * d) -ℤ pos (x * e) = ap f (let k : v ≡ v + 0 = omega arith in k) ∙ h 0 (omega arith) in
    let level = rest.0 in
    inr (omega (arith, ints, here, level), lex_lists xs ys d e (suc v) f (λ k l. ap f (let m : suc v + k ≡ v + suc k = omega arith in m) ∙ h (suc k) (omega (arith, l))) rest.1)

-- ---- the point
module _ (p : Program) (t : Table) (run : IsRun p t) (best : IsBest t) where
  abbrev n : ℕ
  n = length p.costs

  abbrev whole : List ℕ
  whole = point_whole p t

  abbrev den : ℕ
  den = point_den p t

  abbrev base : ℕ → ℤ
  base = value_of p run.base.x run.base.d

  abbrev d : ℤ
  d = run.base.d

  d_above : pos 0 <ℤ d
  d_above = run.base.base.positive

  positive : (v : ℕ) → pos 0 <ℤ value_den t v
  positive v = value_den_positive t v run.shape

  pub den_above_zero : 0 < den
  den_above_zero = common_den_above t positive n

  whole_length : length whole ≡ n
  whole_length = length-map-range_with_len (whole_number t n) 0 n

  whole_at : (v : ℕ) → v < n → get_or whole v 0 ≡ whole_number t n v
  whole_at v h = get_or-map-range_with_len (whole_number t n) 0 n v v 0 h (omega arith)

  base_above : (j : ℕ) → j < t.variables → pos 0 ≤ℤ base j
  base_above j h =
      let e = value_at_base t base d j run.shape run.base.base h in
      let num = value_num_above t p j run best in
      let above = d_above in
      let q = nonnegative_product (value_num t j) d num (omega (arith, ints, above)) in
      nonnegative_factor (value_den t j) (base j) (positive j) (omega (arith, ints, e, q))

  -- the numbers are the values of the base, in another denominator
  in_ratio : (v : ℕ) → v < n → d *ℤ as_values whole v ≡ pos den *ℤ run.base.x v
  in_ratio v h =
      let inside : v + 1 < t.variables = omega (arith, h, run.variables) in
      let e = value_at_base t base d (v + 1) run.shape run.base.base inside in
      let own : base (v + 1) ≡ run.base.x v = own_base v h in
      let num = value_num_above t p (v + 1) run best in
      let low = positive (v + 1) in
      let is = whole_is t positive n v h in
      let at = whole_at v h in
      cancel (value_den t (v + 1)) (d *ℤ as_values whole v) (pos den *ℤ run.base.x v) low
      (ratio_identity (value_num t (v + 1)) (value_den t (v + 1)) d (run.base.x v) (get_or whole v 0) den (unsigned_abs (value_num t (v + 1))) (unsigned_abs (value_den t (v + 1)))
      (omega (arith, ints, num)) (omega (arith, ints, low)) (ap (λ (k : ℕ). k * unsigned_abs (value_den t (v + 1))) at ∙ is) (ap (λ (z : ℤ). value_den t (v + 1) *ℤ z) (sym own) ∙ e))
    where
      own_base : (v : ℕ) → v < n → base (v + 1) ≡ run.base.x v
      own_base v h = value_own p run.base.x run.base.d (v + 1) (omega arith) (omega (arith, h)) ∙ (let back : v + 1 - 1 ≡ v = omega arith in ap run.base.x back)

      ratio_identity : (num low d x : ℤ) (w c a b : ℕ) → pos a ≡ num → pos b ≡ low → w * b ≡ c * a → low *ℤ x ≡ num *ℤ d → low *ℤ (d *ℤ pos w) ≡ low *ℤ (pos c *ℤ x)
      ratio_identity num low d x w c a b e f g h =
          let D = leaf d in let W = leaf (pos w) in let C = leaf (pos c) in let L = leaf low in let X = leaf x in let N = leaf num in
          let product : pos w *ℤ pos b ≡ pos c *ℤ pos a = omega (arith, ints, g) in
          let put : pos w *ℤ low ≡ pos c *ℤ num = sym (ap (λ (z : ℤ). pos w *ℤ z) f) ∙ product ∙ ap (λ (z : ℤ). pos c *ℤ z) e in
          same (times L (times D W)) (times D (times W L)) (omega arith)
          ∙ ap (λ (z : ℤ). d *ℤ z) put
          ∙ same (times D (times C N)) (times C (times N D)) (omega arith)
          ∙ ap (λ (z : ℤ). pos c *ℤ z) (sym h)
          ∙ same (times C (times L X)) (times L (times C X)) (omega arith)

  -- so are all values
  pub in_ratio_all : (j : ℕ) → d *ℤ value_of p (as_values whole) (pos den) j ≡ pos den *ℤ base j
  in_ratio_all = in_proportion p (as_values whole) run.base.x (pos den) d in_ratio

  whole_above : (j : ℕ) → j < t.variables → pos 0 ≤ℤ value_of p (as_values whole) (pos den) j
  whole_above j h =
      let e = in_ratio_all j in
      let q = nonnegative_product (pos den) (base j) (omega (arith, ints)) (base_above j h) in
      nonnegative_factor d (value_of p (as_values whole) (pos den) j) d_above (omega (arith, ints, e, q))

  pub is_point : IsPoint p whole den
  is_point = record {
    all_variables = whole_length;
    positive = let h = den_above_zero in omega (arith, h);
    meets = λ i e h. subst (λ (row : Row). pos 0 ≤ℤ row_value row whole den) (get_or_default p.rows i empty_row e h) (let is = value_slack_is p whole den i h in let above = whole_above (1 + n + i) (omega (arith, h, run.variables)) in omega (arith, ints, is, above));
  }

  -- ---- least among all points
  least_values : (ys : List ℕ) (e : ℕ) → IsPoint p ys e → LexNonnegative (1 + n) 0 (λ v. pos den *ℤ value_of p (as_values ys) (pos e) v -ℤ pos e *ℤ value_of p (as_values whole) (pos den) v)
  least_values ys e point =
      LexNonnegative-same_signs (λ v. d) (1 + n) 0 (λ v. pos den *ℤ (d *ℤ y v -ℤ pos e *ℤ base v)) (λ v. pos den *ℤ y v -ℤ pos e *ℤ value_of p (as_values whole) (pos den) v)
      (λ v l. (d_above, one (y v) (base v) (value_of p (as_values whole) (pos den) v) (in_ratio_all v)))
      (LexNonnegative-times (pos den) (omega (arith, ints)) (1 + n) 0 (λ v. d *ℤ y v -ℤ pos e *ℤ base v)
      (base_least (tableau t) (1 + n) (column t) base d y (pos e) run.shape.solved run.base.base (run.sound (as_values ys) (pos e)) (λ j h. point_above p ys e point j (omega (arith, h, run.variables))) (λ j h free. is_column t j run.shape free) (λ j h free. column_positive p t j run h free) (omega (arith, run.variables))))
    where
      y : ℕ → ℤ
      y = value_of p (as_values ys) (pos e)

      one : (a b w : ℤ) → d *ℤ w ≡ pos den *ℤ b → pos den *ℤ (d *ℤ a -ℤ pos e *ℤ b) ≡ d *ℤ (pos den *ℤ a -ℤ pos e *ℤ w)
      one a b w g =
          let A = leaf a in let B = leaf b in let W = leaf w in let D = leaf d in let E = leaf (pos e) in let C = leaf (pos den) in
          same (times C (minus (times D A) (times E B))) (minus (times D (times C A)) (times E (times C B))) (omega arith)
          ∙ ap (λ (z : ℤ). d *ℤ (pos den *ℤ a) -ℤ pos e *ℤ z) (sym g)
          ∙ same (minus (times D (times C A)) (times E (times D W))) (times D (minus (times C A) (times E W))) (omega arith)

  front : (m : ℕ) (f : ℕ → ℤ) → LexNonnegative (1 + m) 0 f → (pos 0 <ℤ f 0) ⊎ ((f 0 ≡ pos 0) × LexNonnegative m 1 f)
  front m f h = let e : 1 + m ≡ suc m = omega arith in subst (λ (k : ℕ). LexNonnegative k 0 f) e h

  cost_gap : (ys : List ℕ) (e : ℕ) → IsPoint p ys e → pos den *ℤ value_of p (as_values ys) (pos e) 0 -ℤ pos e *ℤ value_of p (as_values whole) (pos den) 0 ≡ pos (cost_of p.costs ys * den) -ℤ pos (cost_of p.costs whole * e)
  cost_gap ys e point =
      let a = value_cost_is p ys e point.all_variables in
      let b = value_cost_is p whole den whole_length in
      ap (λ (z : ℤ). pos den *ℤ z -ℤ pos e *ℤ value_of p (as_values whole) (pos den) 0) a ∙ ap (λ (z : ℤ). pos den *ℤ pos (cost_of p.costs ys) -ℤ pos e *ℤ z) b ∙ swap den (cost_of p.costs ys) e (cost_of p.costs whole)
    where
      swap : (a b c d : ℕ) → pos a *ℤ pos b -ℤ pos c *ℤ pos d ≡ pos (b * a) -ℤ pos (d * c)
      swap a b c d = omega (arith, ints)

  pub cheapest : (ys : List ℕ) (e : ℕ) → IsPoint p ys e → cost_of p.costs whole * e ≤ cost_of p.costs ys * den
  cheapest ys e point =
      let gap = cost_gap ys e point in
      ⊎_elim (λ more. omega (arith, ints, gap, more)) (λ level. let z = level.0 in omega (arith, ints, gap, z))
      (front n (λ v. pos den *ℤ value_of p (as_values ys) (pos e) v -ℤ pos e *ℤ value_of p (as_values whole) (pos den) v) (least_values ys e point))

  own_gap : (ys : List ℕ) (e v : ℕ) → v < n → pos den *ℤ value_of p (as_values ys) (pos e) (suc v) -ℤ pos e *ℤ value_of p (as_values whole) (pos den) (suc v) ≡ pos (get_or ys v 0 * den) -ℤ pos (get_or whole v 0 * e)
  own_gap ys e v l =
      let a = value_own_is p ys e v l in
      let b = value_own_is p whole den v l in
      ap (λ (z : ℤ). pos den *ℤ z -ℤ pos e *ℤ value_of p (as_values whole) (pos den) (suc v)) a ∙ ap (λ (z : ℤ). pos den *ℤ pos (get_or ys v 0) -ℤ pos e *ℤ z) b ∙ swap den (get_or ys v 0) e (get_or whole v 0)
    where
      swap : (a b c d : ℕ) → pos a *ℤ pos b -ℤ pos c *ℤ pos d ≡ pos (b * a) -ℤ pos (d * c)
      swap a b c d = omega (arith, ints)

  pub lex_least : (ys : List ℕ) (e : ℕ) → IsPoint p ys e → cost_of p.costs ys * den ≡ cost_of p.costs whole * e → IsLexAtMost whole den ys e
  lex_least ys e point level =
      let gap = cost_gap ys e point in
      ⊎_elim (λ more. absurd (omega (arith, ints, gap, more, level)))
      (λ rest. lex_lists whole ys den e 1 (λ v. pos den *ℤ value_of p (as_values ys) (pos e) v -ℤ pos e *ℤ value_of p (as_values whole) (pos den) v)
      (λ k h. ap (λ v. pos den *ℤ value_of p (as_values ys) (pos e) v -ℤ pos e *ℤ value_of p (as_values whole) (pos den) v) (one_more k) ∙ own_gap ys e k (omega (arith, h, whole_length)))
      (subst (λ (m : ℕ). LexNonnegative m 1 (λ v. pos den *ℤ value_of p (as_values ys) (pos e) v -ℤ pos e *ℤ value_of p (as_values whole) (pos den) v)) (sym whole_length) rest.1))
      (front n (λ v. pos den *ℤ value_of p (as_values ys) (pos e) v -ℤ pos e *ℤ value_of p (as_values whole) (pos den) v) (least_values ys e point))
    where
      one_more : (k : ℕ) → 1 + k ≡ suc k
      one_more k = omega arith

  pub den_least : (ys : List ℕ) (e : ℕ) → IsPoint p ys e → SameValues whole den ys e → den ≤ e
  den_least ys e point same_values =
      let low = point.positive in
      le_of_dvd (omega (arith, low)) (common_den_least t positive n e (λ v l. lowest_divides (lowest_num t v) (lowest_den t v) (get_or ys v 0) e (in_lowest (unsigned_abs (value_num t (v + 1))) (unsigned_abs (value_den t (v + 1))) (size_above v)) (in_lowest_terms v l)))
    where
      size_above : (v : ℕ) → 0 < unsigned_abs (value_den t (v + 1))
      size_above v = let h = positive (v + 1) in omega (arith, ints, h)

      swap : (y m c w k e : ℕ) → w * e ≡ y * c → w * m ≡ c * k → 0 < c → y * m ≡ k * e
      swap y m c w k e f g h = cancel_nat c (y * m) (k * e) h (omega (arith, ap (λ (x : ℕ). x * m) f, ap (λ (x : ℕ). x * e) g))

      in_lowest_terms : (v : ℕ) → v < n → get_or ys v 0 * lowest_den t v ≡ lowest_num t v * e
      in_lowest_terms v l = swap (get_or ys v 0) (lowest_den t v) den (whole_number t n v) (lowest_num t v) e (ap (λ (w : ℕ). w * e) (sym (whole_at v l)) ∙ same_values v) (whole_in_lowest t positive n v l) den_above_zero

  pub best_point : IsLeastPoint p whole den
  best_point = record { point = is_point; cheapest = cheapest; least = lex_least; lowest = den_least }

  -- ---- the least cost
  cost_value : pos (cost_of p.costs whole) *ℤ entry t 0 0 ≡ right_side t 0 *ℤ pos den
  cost_value =
      let top : 0 < length t.rows = omega (arith, run.height) in
      let at : entry t 0 0 *ℤ base 0 ≡ right_side t 0 *ℤ d = subst (λ (b : ℕ). entry t 0 b *ℤ base b ≡ right_side t 0 *ℤ d) run.cost_first (base_value (tableau t) base d run.shape.solved run.base.base 0 top) in
      let ratio = in_ratio_all 0 in
      let is = value_cost_is p whole den whole_length in
      cancel d (pos (cost_of p.costs whole) *ℤ entry t 0 0) (right_side t 0 *ℤ pos den) d_above
      (identity (pos (cost_of p.costs whole)) (entry t 0 0) (right_side t 0) (pos den) d (base 0) (ap (λ (z : ℤ). d *ℤ z) (sym is) ∙ ratio) at)
    where
      identity : (c e r m d b : ℤ) → d *ℤ c ≡ m *ℤ b → e *ℤ b ≡ r *ℤ d → d *ℤ (c *ℤ e) ≡ d *ℤ (r *ℤ m)
      identity c e r m d b f g =
          let C = leaf c in let E = leaf e in let R = leaf r in let M = leaf m in let D = leaf d in let B = leaf b in
          same (times D (times C E)) (times (times D C) E) (omega arith)
          ∙ ap (λ (z : ℤ). z *ℤ e) f
          ∙ same (times (times M B) E) (times M (times E B)) (omega arith)
          ∙ ap (λ (z : ℤ). m *ℤ z) g
          ∙ same (times M (times R D)) (times D (times R M)) (omega arith)

  cost_entry_above : pos 0 <ℤ entry t 0 0
  cost_entry_above = subst (λ (b : ℕ). pos 0 <ℤ entry t 0 b) run.cost_first (run.shape.solved.positive 0 (omega (arith, run.height)))

  pub best_cost : IsLeastCost p (right_side t 0) (entry t 0 0)
  best_cost = record {
    positive = cost_entry_above;
    reached = (whole, den, is_point, cost_value);
    least = λ ys e point. compare (cost_of p.costs whole) (cost_of p.costs ys) den e (right_side t 0) (entry t 0 0) den_above_zero cost_entry_above cost_value (cheapest ys e point);
  }
    where
      compare : (c k m e : ℕ) (r f : ℤ) → 0 < m → pos 0 <ℤ f → pos c *ℤ f ≡ r *ℤ pos m → c * e ≤ k * m → (r *ℤ pos e) ≤ℤ (pos k *ℤ f)
      compare c k m e r f h i g l =
          let C = leaf (pos c) in let K = leaf (pos k) in let M = leaf (pos m) in let E = leaf (pos e) in let R = leaf r in let F = leaf f in
          let gap : pos m *ℤ (pos k *ℤ f -ℤ r *ℤ pos e) ≡ f *ℤ (pos k *ℤ pos m -ℤ pos c *ℤ pos e)
          = same (times M (minus (times K F) (times R E))) (minus (times F (times K M)) (times (times R M) E)) (omega arith)
          ∙ ap (λ (z : ℤ). f *ℤ (pos k *ℤ pos m) -ℤ z *ℤ pos e) (sym g)
          ∙ same (minus (times F (times K M)) (times (times C F) E)) (times F (minus (times K M) (times C E))) (omega arith) in
          let low : pos 0 ≤ℤ (pos k *ℤ pos m -ℤ pos c *ℤ pos e) = omega (arith, ints, l) in
          let q = nonnegative_product f (pos k *ℤ pos m -ℤ pos c *ℤ pos e) (omega (arith, ints, i)) low in
          let z = nonnegative_factor (pos m) (pos k *ℤ f -ℤ r *ℤ pos e) (omega (arith, ints, h)) (omega (arith, ints, gap, q)) in
          omega (arith, ints, z)
