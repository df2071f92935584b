-- Numbers one after the other, as a loop reads them.
use Rattle.std.proofs.Common.{◌≡◌, ℕ, ◌<◌, ◌≤◌, ◌^◌, List, [], ◌∷◌, map, Result, Ok, Err, refl, sym, ap, ◌∙◌, append_assoc}
use Rattle.std.specs.List.{AllByRecursion}
use Rattle.std.specs.Fmt.{decimal}
use Rattle.text_lines.specs.declared.fault.LineFault.{LineFault}
use Rattle.text_lines.specs.declared.fault.LineFault.TheVariants.{BadLine, BadNumber, Memory}
use Rattle.text_lines.specs.Faults.{UnlessMemory, both, graver}
use Rattle.text_lines.specs.Forms.{number_within, numbers_of, joined, single, made, one_of, two_of, alone}
use Rattle.text_lines.proofs.Inverse.{number_takes, number_again}

graver_assoc : (e f g : LineFault) → graver (graver e f) g ≡ graver e (graver f g)
graver_assoc Memory f g = refl
graver_assoc BadNumber f g = refl
graver_assoc BadLine Memory g = refl
graver_assoc BadLine BadNumber g = refl
graver_assoc BadLine BadLine Memory = refl
graver_assoc BadLine BadLine BadLine = refl
graver_assoc BadLine BadLine BadNumber = refl

joined_assoc : (a b c : Result (List ℕ) LineFault) → joined (joined a b) c ≡ joined a (joined b c)
joined_assoc (Ok x) (Ok y) (Ok z) = ap (λ (l : List ℕ). Ok l) (append_assoc x y z)
joined_assoc (Ok x) (Ok y) (Err e) = refl
joined_assoc (Ok x) (Err e) (Ok z) = refl
joined_assoc (Ok x) (Err e) (Err f) = refl
joined_assoc (Err e) (Ok y) (Ok z) = refl
joined_assoc (Err e) (Ok y) (Err f) = refl
joined_assoc (Err e) (Err f) (Ok z) = refl
joined_assoc (Err e) (Err f) (Err g) = ap (λ (h : LineFault). Err h) (graver_assoc e f g)

-- one number more, in the terms of the numbers
one_more : (low high : ℕ) (found found2 total n : Result (List ℕ) LineFault) (rest : List (List ℕ)) → found2 ≡ joined found n
    → joined found (joined n (numbers_of low high rest)) ≡ total → joined found2 (numbers_of low high rest) ≡ total
one_more low high found found2 total n rest pushed so_far = rw pushed (joined_assoc found n (numbers_of low high rest) ∙ so_far)

-- what was found before is without want of memory where what is found now is
kept_before : {N : Type 0} (numbers : N → List ℕ) (found found2 : Result N LineFault) (n : Result (List ℕ) LineFault) (P Q : Type 0)
    → UnlessMemory found2 (made numbers found2 ≡ joined (made numbers found) n) → UnlessMemory found P → (made numbers found2 ≡ joined (made numbers found) n → P → Q) → UnlessMemory found2 Q
kept_before numbers found (Err Memory) n P Q pushed so_far step = tt
kept_before numbers (Ok x) (Ok y) n P Q pushed so_far step = step pushed so_far
kept_before numbers (Ok x) (Err BadLine) n P Q pushed so_far step = step pushed so_far
kept_before numbers (Ok x) (Err BadNumber) n P Q pushed so_far step = step pushed so_far
kept_before numbers (Err BadLine) (Ok y) n P Q pushed so_far step = step pushed so_far
kept_before numbers (Err BadLine) (Err BadLine) n P Q pushed so_far step = step pushed so_far
kept_before numbers (Err BadLine) (Err BadNumber) n P Q pushed so_far step = step pushed so_far
kept_before numbers (Err BadNumber) (Ok y) n P Q pushed so_far step = step pushed so_far
kept_before numbers (Err BadNumber) (Err BadLine) n P Q pushed so_far step = step pushed so_far
kept_before numbers (Err BadNumber) (Err BadNumber) n P Q pushed so_far step = step pushed so_far
kept_before numbers (Err Memory) (Ok y) (Ok m) P Q pushed so_far step = absurd cc
kept_before numbers (Err Memory) (Ok y) (Err f) P Q pushed so_far step = absurd cc
kept_before numbers (Err Memory) (Err BadLine) (Ok m) P Q pushed so_far step = absurd cc
kept_before numbers (Err Memory) (Err BadLine) (Err f) P Q pushed so_far step = absurd cc
kept_before numbers (Err Memory) (Err BadNumber) (Ok m) P Q pushed so_far step = absurd cc
kept_before numbers (Err Memory) (Err BadNumber) (Err f) P Q pushed so_far step = absurd cc

pub goes_on : {N : Type 0} (numbers : N → List ℕ) (low high : ℕ) (found found2 : Result N LineFault) (total : Result (List ℕ) LineFault) (n : Result ℕ LineFault) (f : List ℕ) (fields rest : List (List ℕ))
    → fields ≡ f ∷ rest → n ≡ number_within low high f → UnlessMemory found2 (made numbers found2 ≡ joined (made numbers found) (single n))
    → UnlessMemory found (joined (made numbers found) (numbers_of low high fields) ≡ total) → UnlessMemory found2 (joined (made numbers found2) (numbers_of low high rest) ≡ total)
goes_on numbers low high found found2 total n f fields rest e is pushed so_far =
    kept_before numbers found found2 (single n) _ _ pushed so_far (λ p s. one_more low high (made numbers found) (made numbers found2) total (single n) rest p (rw is (ap (λ fs. joined (made numbers found) (numbers_of low high fs)) (sym e) ∙ s)))

-- ---- what is read is spelled so, and what is spelled so is read again

abbrev pub IsWithin : ℕ → ℕ → ℕ → Type 0
IsWithin low high n = (low ≤ n) × (n ≤ high)

pub both_ok : {A B : Type 0} (r : Result A LineFault) (s : Result B LineFault) (y : A × B) → both r s ≡ Ok y → (r ≡ Ok y.0) × (s ≡ Ok y.1)
both_ok {A = A} {B = B} (Ok x) (Ok z) y e = let p : (x, z) ≡ y = cc in (ap (λ (q : A × B). Ok q.0) p, ap (λ (q : A × B). Ok q.1) p)
both_ok (Ok x) (Err f) y e = absurd cc
both_ok (Err f) (Ok z) y e = absurd cc
both_ok (Err f) (Err g) y e = absurd cc

alone_ok : {A : Type 0} (r : Result A LineFault) (fields : List (List ℕ)) (y : A) → alone r fields ≡ Ok y → (r ≡ Ok y) × (fields ≡ [])
alone_ok r [] y e = (e, refl)
alone_ok r (f ∷ fs) y e = absurd cc

pub one_takes : (low high : ℕ) (fields : List (List ℕ)) (n : ℕ) → high < 2 ^ 64 → one_of low high fields ≡ Ok n → (fields ≡ decimal n ∷ []) × IsWithin low high n
one_takes low high [] n fits e = absurd cc
one_takes low high (f ∷ fs) n fits e =
    let a = alone_ok (number_within low high f) fs n e in
    let t = number_takes low high f n fits a.0 in
    (rw (t.0, a.1) refl, (t.1, t.2))

pub one_again : (low high n : ℕ) → high < 2 ^ 64 → IsWithin low high n → one_of low high (decimal n ∷ []) ≡ Ok n
one_again low high n fits h = number_again low high n fits h.0 h.1

pub two_takes : (low high low' high' : ℕ) (fields : List (List ℕ)) (x : ℕ × ℕ) → high < 2 ^ 64 → high' < 2 ^ 64 → two_of (low, high) (low', high') fields ≡ Ok x
    → (fields ≡ decimal x.0 ∷ decimal x.1 ∷ []) × IsWithin low high x.0 × IsWithin low' high' x.1
two_takes low high low' high' [] x fits fits' e = absurd cc
two_takes low high low' high' (f ∷ fs) x fits fits' e =
    let b = both_ok (number_within low high f) (one_of low' high' fs) x e in
    let t = number_takes low high f x.0 fits b.0 in
    let u = one_takes low' high' fs x.1 fits' b.1 in
    (rw (t.0, u.0) refl, (t.1, t.2), u.1)

pub two_again : (low high low' high' m n : ℕ) → high < 2 ^ 64 → high' < 2 ^ 64 → IsWithin low high m → IsWithin low' high' n → two_of (low, high) (low', high') (decimal m ∷ decimal n ∷ []) ≡ Ok (m, n)
two_again low high low' high' m n fits fits' h h' = rw (number_again low high m fits h.0 h.1, number_again low' high' n fits' h'.0 h'.1) refl

joined_ok : (r : Result ℕ LineFault) (s : Result (List ℕ) LineFault) (ns : List ℕ) → joined (single r) s ≡ Ok ns → (n : ℕ) × (ms : List ℕ) × (r ≡ Ok n) × (s ≡ Ok ms) × (n ∷ ms ≡ ns)
joined_ok (Ok n) (Ok ms) ns e = (n, ms, refl, refl, cc)
joined_ok (Ok n) (Err f) ns e = absurd cc
joined_ok (Err f) (Ok ms) ns e = absurd cc
joined_ok (Err f) (Err g) ns e = absurd cc

pub same_fields : (f g : List ℕ) (fs gs : List (List ℕ)) → f ≡ g → fs ≡ gs → f ∷ fs ≡ g ∷ gs
same_fields f g fs gs e es = cc

ok_is : (x y : List ℕ) → (let r : Result (List ℕ) LineFault = Ok x in r ≡ Ok y) → x ≡ y
ok_is x y e = cc

pub record AreNumbers (low high : ℕ) (fields : List (List ℕ)) (ns : List ℕ) : Type 0 where
  pub spelled : fields ≡ map decimal ns
  pub within : AllByRecursion (IsWithin low high) ns

pub numbers_take : (low high : ℕ) (fields : List (List ℕ)) (ns : List ℕ) → high < 2 ^ 64 → numbers_of low high fields ≡ Ok ns → AreNumbers low high fields ns
numbers_take low high [] ns fits e = rw (← ok_is [] ns e) (record { spelled = refl; within = tt })
numbers_take low high (f ∷ fs) ns fits e =
    let j = joined_ok (number_within low high f) (numbers_of low high fs) ns e in
    let t = number_takes low high f j.0 fits j.2 in
    let u = numbers_take low high fs j.1 fits j.3 in
    rw (← j.4) (record { spelled = same_fields f (decimal j.0) fs (map decimal j.1) t.0 u.spelled; within = ((t.1, t.2), u.within) })

pub numbers_again : (low high : ℕ) (ns : List ℕ) → high < 2 ^ 64 → AllByRecursion (IsWithin low high) ns → numbers_of low high (map decimal ns) ≡ Ok ns
numbers_again low high [] fits h = refl
numbers_again low high (n ∷ ns) fits h = rw (number_again low high n fits h.0.0 h.0.1, numbers_again low high ns fits h.1) refl
