-- So many ballots of each class, whole or in parts: what they gain, against the largest gains.
use Rattle.std.proofs.Common.{◌≡◌, ◌⊎◌, ℕ, zero, suc, ◌+◌, ◌-◌, ◌*◌, ◌<◌, ◌≤◌, List, [], ◌∷◌, min, cond, ltb, length, refl, ap, ◌∙◌, inl, inr, arith}
use Rattle.std.proofs.Math.Nat.{mul-le-mul_left}
use Rattle.std.proofs.lemmas.Bool.{cases_lt, lt-ltb, le-ltb}
use Rattle.std.proofs.lemmas.Bool.Decides.{nat_tests}
use Rattle.mov_base.specs.Sums.{add_up, most}
use Rattle.mov_base.proofs.Most.{above, most-le, most-none, most-reached, reaching}
use Rattle.signature_class.specs.Classes.{IsGrouped}
use Rattle.dual_bound.specs.Largest.{AllAtMost, IsDescending}
use Rattle.dual_bound.proofs.Greedy.{split}
use Rattle.node_bounds.proofs.RestRows.{AreWithin}

-- what numbers of the classes gain
abbrev pub gained : List (ℕ × ℕ) → List ℕ → ℕ
gained [] xs = 0
gained (p ∷ ps) [] = 0
gained (p ∷ ps) (x ∷ xs) = x * p.0 + gained ps xs

-- ---- classes sorted by their gains

abbrev insert : ℕ × ℕ → List (ℕ × ℕ) → List (ℕ × ℕ)
insert q [] = q ∷ []
insert q (p ∷ ps) = cond (ltb p.0 q.0) (q ∷ p ∷ ps) (p ∷ insert q ps)

abbrev sorted : List (ℕ × ℕ) → List (ℕ × ℕ)
sorted [] = []
sorted (p ∷ ps) = insert p (sorted ps)

add_up-insert : (w : ℕ × ℕ → ℕ) (q : ℕ × ℕ) (ps : List (ℕ × ℕ)) → add_up w (insert q ps) ≡ w q + add_up w ps
add_up-insert w q [] = refl
add_up-insert w q (p ∷ ps) = elim (cases_lt p.0 q.0) [
  | inl lt ↦ rw (lt-ltb p.0 q.0 lt) refl
  | inr le ↦ rw (le-ltb p.0 q.0 le) (omega (arith, add_up-insert w q ps))
]

add_up-sorted : (w : ℕ × ℕ → ℕ) (ps : List (ℕ × ℕ)) → add_up w (sorted ps) ≡ add_up w ps
add_up-sorted w [] = refl
add_up-sorted w (p ∷ ps) = omega (arith, add_up-insert w p (sorted ps), add_up-sorted w ps)

at_most-more : (a b : ℕ) (ps : List (ℕ × ℕ)) → a ≤ b → AllAtMost a ps → AllAtMost b ps
at_most-more a b [] le all = tt
at_most-more a b (p ∷ ps) le all = (omega (arith, all.0), at_most-more a b ps le all.1)

at_most-insert : (g : ℕ) (q : ℕ × ℕ) (ps : List (ℕ × ℕ)) → q.0 ≤ g → AllAtMost g ps → AllAtMost g (insert q ps)
at_most-insert g q [] le all = (le, tt)
at_most-insert g q (p ∷ ps) le all = elim (cases_lt p.0 q.0) [
  | inl lt ↦ rw (lt-ltb p.0 q.0 lt) (le, all)
  | inr ge ↦ rw (le-ltb p.0 q.0 ge) (all.0, at_most-insert g q ps le all.1)
]

descending-insert : (q : ℕ × ℕ) (ps : List (ℕ × ℕ)) → IsDescending ps → IsDescending (insert q ps)
descending-insert q [] down = (tt, tt)
descending-insert q (p ∷ ps) down = elim (cases_lt p.0 q.0) [
  | inl lt ↦ rw (lt-ltb p.0 q.0 lt) ((omega arith, at_most-more p.0 q.0 ps (omega arith) down.0), down)
  | inr ge ↦ rw (le-ltb p.0 q.0 ge) (at_most-insert p.0 q ps ge down.0, descending-insert q ps down.1)
]

descending-sorted : (ps : List (ℕ × ℕ)) → IsDescending (sorted ps)
descending-sorted [] = tt
descending-sorted (p ∷ ps) = descending-insert p (sorted ps) (descending-sorted ps)

abbrev first_gain : List (ℕ × ℕ) → ℕ
first_gain [] = 0
first_gain (p ∷ ps) = p.0

at_most-first : (ps : List (ℕ × ℕ)) → IsDescending ps → AllAtMost (first_gain ps) ps
at_most-first [] down = tt
at_most-first (p ∷ ps) down = (omega arith, down.0)

-- a gain that few classes are above and enough reach
record IsThreshold (k θ : ℕ) (ps : List (ℕ × ℕ)) : Type 0 where
  few : add_up (λ (p : ℕ × ℕ). p.1 * above θ p.0) ps ≤ k
  many : k ≤ add_up (λ (p : ℕ × ℕ). p.1 * reaching θ p.0) ps

threshold : (k : ℕ) (ps : List (ℕ × ℕ)) → 0 < k → k ≤ add_up (λ (p : ℕ × ℕ). p.1) ps → (θ : ℕ) × IsThreshold k θ ps
threshold k ps some enough =
    let qs = sorted ps in
    let count = add_up-sorted (λ (p : ℕ × ℕ). p.1) ps in
    let s = split k qs (first_gain qs) (descending-sorted ps) (at_most-first qs (descending-sorted ps)) some (omega (arith, count, enough)) in
    let a = add_up-sorted (λ (p : ℕ × ℕ). p.1 * above s.θ p.0) ps in
    let b = add_up-sorted (λ (p : ℕ × ℕ). p.1 * reaching s.θ p.0) ps in
    (s.θ, record { few = omega (arith, s.few, a); many = omega (arith, s.many, b) })

-- ---- no more is gained than the largest gains

one_class : (θ d g c x : ℕ) → x ≤ d * c → x * g ≤ x * θ + d * (c * (g - θ))
one_class θ d g c x le =
    let a : g ≤ θ + (g - θ) = omega arith in
    let b = mul-le-mul_left x a in
    let e = mul-le-mul_left (g - θ) le in
    omega (arith, b, e)

gained-le : (θ d : ℕ) (ps : List (ℕ × ℕ)) (xs : List ℕ) → AreWithin d ps xs
    → gained ps xs ≤ add_up (λ x. x) xs * θ + d * add_up (λ (p : ℕ × ℕ). p.1 * (p.0 - θ)) ps
gained-le θ d [] xs within = omega arith
gained-le θ d (p ∷ ps) [] within = omega arith
gained-le θ d (p ∷ ps) (x ∷ xs) within = omega (arith, one_class θ d p.0 p.1 x within.0, gained-le θ d ps xs within.1)

none_gained : (ps : List (ℕ × ℕ)) (xs : List ℕ) → add_up (λ x. x) xs ≡ 0 → gained ps xs ≡ 0
none_gained [] xs none = refl
none_gained (p ∷ ps) [] none = refl
none_gained (p ∷ ps) (x ∷ xs) none = let z : x ≡ 0 = omega (arith, none) in rw z (omega (arith, none_gained ps xs (omega (arith, none))))

-- k times d in all, of each class at most its count times d: they gain at most d times the k largest gains
pub gained-le_most : (d k : ℕ) (ps : List (ℕ × ℕ)) (xs gs : List ℕ) → IsGrouped gs ps → k ≤ add_up (λ (p : ℕ × ℕ). p.1) ps
    → AreWithin d ps xs → add_up (λ x. x) xs ≤ k * d → gained ps xs ≤ d * most k gs
gained-le_most d zero ps xs gs same enough within few = let z = none_gained ps xs (omega (arith, few)) in omega (arith, z)
gained-le_most d (suc k) ps xs gs same enough within few =
    let t = threshold (suc k) ps (omega arith) enough in
    let θ = t.0 in
    let a = same (above θ) in
    let b = same (reaching θ) in
    let e = same (λ x. x - θ) in
    let lo = most-reached θ (suc k) gs (omega (arith, t.1.few, a)) (omega (arith, t.1.many, b)) in
    let u = gained-le θ d ps xs within in
    let v = mul-le-mul_left θ few in
    let m = mul-le-mul_left d lo in
    omega (arith, u, v, m, ap (λ z. d * z) e)

-- ---- whole ballots that gain as much as the largest gains

-- numbers of the classes, none where nothing is gained
abbrev pub AreGaining : List (ℕ × ℕ) → List ℕ → Type 0
AreGaining [] xs = Unit {0}
AreGaining (p ∷ ps) [] = Unit {0}
AreGaining (p ∷ ps) (x ∷ xs) = ((x ≡ 0) ⊎ (0 < p.0)) × AreGaining ps xs

-- all that are above a threshold, and some more that reach it
record IsFilled (θ more : ℕ) (ps : List (ℕ × ℕ)) : Type 0 where
  xs : List ℕ
  long : length xs ≡ length ps
  within : AreWithin 1 ps xs
  gaining : AreGaining ps xs
  few : add_up (λ x. x) xs ≤ add_up (λ (p : ℕ × ℕ). p.1 * above θ p.0) ps + more
  many : (θ ≡ 0) ⊎ (min (add_up (λ (p : ℕ × ℕ). p.1 * above θ p.0) ps + more) (add_up (λ (p : ℕ × ℕ). p.1 * reaching θ p.0) ps) ≤ add_up (λ x. x) xs)
  order : add_up (λ (p : ℕ × ℕ). p.1 * above θ p.0) ps ≤ add_up (λ (p : ℕ × ℕ). p.1 * reaching θ p.0) ps
  value : add_up (λ (p : ℕ × ℕ). p.1 * (p.0 - θ)) ps + θ * add_up (λ x. x) xs ≤ gained ps xs

fill_above : (θ more g c : ℕ) (ps : List (ℕ × ℕ)) → θ < g → IsFilled θ more ps → IsFilled θ more ((g, c) ∷ ps)
fill_above θ more g c ps lt rest =
    let a : above θ g ≡ 1 = grind (arith, nat_tests) in
    let b : reaching θ g ≡ 1 = grind (arith, nat_tests) in
    let whole : g ≡ (g - θ) + θ = omega (arith, lt) in
    let product : c * g ≡ c * (g - θ) + c * θ = ap (λ n. c * n) whole ∙ omega arith in
    record {
      xs = c ∷ rest.xs;
      long = omega (arith, rest.long);
      within = (omega arith, rest.within);
      gaining = (inr (omega (arith, lt)), rest.gaining);
      few = rw a (omega (arith, rest.few));
      many = rw (a, b) (elim rest.many [ inl z ↦ inl z | inr le ↦ inr (omega (arith, le)) ]);
      order = rw (a, b) (omega (arith, rest.order));
      value = omega (arith, rest.value, product);
    }

fill_below : (θ more g c : ℕ) (ps : List (ℕ × ℕ)) → g < θ → IsFilled θ more ps → IsFilled θ more ((g, c) ∷ ps)
fill_below θ more g c ps lt rest =
    let a : above θ g ≡ 0 = grind (arith, nat_tests) in
    let b : reaching θ g ≡ 0 = grind (arith, nat_tests) in
    let none : g - θ ≡ 0 = omega (arith, lt) in
    record {
      xs = 0 ∷ rest.xs;
      long = omega (arith, rest.long);
      within = (omega arith, rest.within);
      gaining = (inl refl, rest.gaining);
      few = rw a (omega (arith, rest.few));
      many = rw (a, b) (elim rest.many [ inl z ↦ inl z | inr le ↦ inr (omega (arith, le)) ]);
      order = rw (a, b) (omega (arith, rest.order));
      value = rw none (omega (arith, rest.value));
    }

-- nothing is gained where the threshold is 0
fill_none : (more c : ℕ) (ps : List (ℕ × ℕ)) → IsFilled 0 more ps → IsFilled 0 more ((0, c) ∷ ps)
fill_none more c ps rest =
    let a : above 0 0 ≡ 0 = grind (arith, nat_tests) in
    let b : reaching 0 0 ≡ 1 = grind (arith, nat_tests) in
    record {
      xs = 0 ∷ rest.xs;
      long = omega (arith, rest.long);
      within = (omega arith, rest.within);
      gaining = (inl refl, rest.gaining);
      few = rw a (omega (arith, rest.few));
      many = inl refl;
      order = rw (a, b) (omega (arith, rest.order));
      value = omega (arith, rest.value);
    }

fill_level : (θ more c : ℕ) (ps : List (ℕ × ℕ)) → 0 < θ → IsFilled θ (more - min c more) ps → IsFilled θ more ((θ, c) ∷ ps)
fill_level θ more c ps some rest =
    let a : above θ θ ≡ 0 = grind (arith, nat_tests) in
    let b : reaching θ θ ≡ 1 = grind (arith, nat_tests) in
    let none : θ - θ ≡ 0 = omega arith in
    record {
      xs = min c more ∷ rest.xs;
      long = omega (arith, rest.long);
      within = (omega arith, rest.within);
      gaining = (inr some, rest.gaining);
      few = rw a (omega (arith, rest.few));
      many = rw (a, b) (elim rest.many [ inl z ↦ inl z | inr le ↦ inr (omega (arith, le, rest.order)) ]);
      order = rw (a, b) (omega (arith, rest.order));
      value = rw none (omega (arith, rest.value));
    }

fill : (θ more : ℕ) (ps : List (ℕ × ℕ)) → IsFilled θ more ps
fill θ more [] = record {
  xs = [];
  long = refl;
  within = tt;
  gaining = tt;
  few = omega arith;
  many = inr (omega arith);
  order = omega arith;
  value = omega arith;
}
fill θ more (p ∷ ps) = elim (cases_lt θ p.0) [
  | inl higher ↦ fill_above θ more p.0 p.1 ps higher (fill θ more ps)
  | inr le ↦ elim (cases_lt p.0 θ) [
    | inl lower ↦ fill_below θ more p.0 p.1 ps lower (fill θ more ps)
    | inr ge ↦ level θ more p ps (omega (arith, le, ge)) (fill θ more ps) (fill θ (more - min p.1 more) ps)
  ]
]
  where
    level : (θ more : ℕ) (p : ℕ × ℕ) (ps : List (ℕ × ℕ)) → p.0 ≡ θ → IsFilled θ more ps → IsFilled θ (more - min p.1 more) ps → IsFilled θ more (p ∷ ps)
    level zero more p ps same rest after = rw same (fill_none more p.1 ps rest)
    level (suc θ) more p ps same rest after = rw same (fill_level (suc θ) more p.1 ps (omega arith) after)

-- at most k whole ballots that gain at least what the k largest gains are
pub record AreTaken (k : ℕ) (ps : List (ℕ × ℕ)) (gs : List ℕ) : Type 0 where
  pub xs : List ℕ
  pub long : length xs ≡ length ps
  pub within : AreWithin 1 ps xs
  pub gaining : AreGaining ps xs
  pub few : add_up (λ x. x) xs ≤ k
  pub enough : most k gs ≤ gained ps xs

taken_at : (k θ : ℕ) (ps : List (ℕ × ℕ)) (gs : List ℕ) → IsGrouped gs ps → add_up (λ (p : ℕ × ℕ). p.1 * above θ p.0) ps ≤ k
    → (θ ≡ 0) ⊎ (k ≤ add_up (λ (p : ℕ × ℕ). p.1 * reaching θ p.0) ps) → AreTaken k ps gs
taken_at k θ ps gs same few many =
    let filled = fill θ (k - add_up (λ (p : ℕ × ℕ). p.1 * above θ p.0) ps) ps in
    let high = most-le θ k gs in
    let e = same (λ x. x - θ) in
    let full : k * θ ≤ θ * add_up (λ x. x) filled.xs = elim many [
      | inl z ↦ rw z (omega arith)
      | inr le ↦ elim filled.many [
        | inl z ↦ rw z (omega arith)
        | inr all ↦ let m = mul-le-mul_left θ (let reach : k ≤ add_up (λ x. x) filled.xs = omega (arith, few, le, all) in reach) in omega (arith, m)
      ]
    ] in
    record {
      xs = filled.xs;
      long = filled.long;
      within = filled.within;
      gaining = filled.gaining;
      few = omega (arith, filled.few, few);
      enough = omega (arith, high, e, full, filled.value);
    }

few_above : (ps : List (ℕ × ℕ)) → add_up (λ (p : ℕ × ℕ). p.1 * above 0 p.0) ps ≤ add_up (λ (p : ℕ × ℕ). p.1) ps
few_above [] = omega arith
few_above (p ∷ ps) =
    let one : above 0 p.0 ≤ 1 = grind (arith, nat_tests) in
    let m = mul-le-mul_left p.1 one in
    omega (arith, m, few_above ps)

pub taken : (k : ℕ) (ps : List (ℕ × ℕ)) (gs : List ℕ) → IsGrouped gs ps → AreTaken k ps gs
taken zero ps gs same =
    let none = most-none gs in
    let few = fill_zero ps in
    record { xs = few.0; long = few.1; within = few.2; gaining = few.3; few = omega (arith, few.4); enough = omega (arith, none) }
  where
    fill_zero : (ps : List (ℕ × ℕ)) → (xs : List ℕ) × (length xs ≡ length ps) × AreWithin 1 ps xs × AreGaining ps xs × (add_up (λ x. x) xs ≡ 0)
    fill_zero [] = ([], refl, tt, tt, refl)
    fill_zero (p ∷ ps) = let rest = fill_zero ps in (0 ∷ rest.0, omega (arith, rest.1), (omega arith, rest.2), (inl refl, rest.3), omega (arith, rest.4))
taken (suc k) ps gs same = elim (cases_lt (add_up (λ (p : ℕ × ℕ). p.1) ps) (suc k)) [
  | inl beyond ↦ taken_at (suc k) 0 ps gs same (omega (arith, few_above ps, beyond)) (inl refl)
  | inr within ↦ let t = threshold (suc k) ps (omega arith) within in taken_at (suc k) t.0 ps gs same t.1.few (inr t.1.many)
]
