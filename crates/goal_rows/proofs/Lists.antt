-- Lists of candidates that pass a test, and of the goals that they make.
use Rattle.std.proofs.Common.{ℕ, zero, suc, List, [], ◌∷◌, ◌++◌, Bool, true, false, ◌≡◌, ◌≢◌, ◌<◌, ◌≤◌, ◌+◌, ◌*◌, ◌∙◌, cond, length, map, ap, sym, refl, subst, inl, inr, arith}
use Rattle.std.specs.Prelude.{◌==◌, not, filter, Contains, AllPairs}
use Rattle.std.specs.List.{flat_map, range_with_len}
use Rattle.std.proofs.lemmas.Bool.{cases_eq}
use Rattle.std.proofs.lemmas.Bool.Decides.{nat_tests}
use Rattle.std.proofs.lemmas.List.{append_assoc, append-nil, get_or_default, length-append, map-append}
use Rattle.std.proofs.lemmas.List.Elements.{Contains-append_cases, Contains-append_left, Contains-append_right, filter-append}
use Rattle.std.proofs.lemmas.List.Concat.{flat_map-cons}
use Rattle.std.proofs.lemmas.Grind.{flat_map-append}
use Rattle.std.proofs.lemmas.List.Kept.{AllPairs-cons}
use Rattle.goal_rows.specs.declared.goals.Goal.{Goal}
use Rattle.goal_rows.specs.Suffixes.{those}

-- ---- one candidate more

range_suc : (a n : ℕ) → range_with_len a (suc n) ≡ range_with_len a n ++ (a + n) ∷ []
range_suc a zero = let e : a + 0 ≡ a = omega arith in rw e refl
range_suc a (suc n) =
    let e : (a + 1) + n ≡ a + suc n = omega arith in
    ap (λ xs. a ∷ xs) (range_suc (a + 1) n ∙ ap (λ k. range_with_len (a + 1) n ++ k ∷ []) e)

pub range_more : (n : ℕ) → range_with_len 0 (n + 1) ≡ range_with_len 0 n ++ n ∷ []
range_more n =
    let e : n + 1 ≡ suc n = omega arith in
    let z : 0 + n ≡ n = omega arith in
    rw e (range_suc 0 n ∙ ap (λ k. range_with_len 0 n ++ k ∷ []) z)

pub those_suc : (c : ℕ) (test : ℕ → Bool) → those (suc c) test ≡ those c test ++ cond (test c) (c ∷ []) []
those_suc c test =
    let z : 0 + c ≡ c = omega arith in
    ap (filter test) (range_suc 0 c ∙ ap (λ k. range_with_len 0 c ++ k ∷ []) z) ∙ filter-append test (range_with_len 0 c) (c ∷ [])

made_suc : {X : Type 0} (f : ℕ → X) (test : ℕ → Bool) (c : ℕ) → map f (those (suc c) test) ≡ map f (those c test) ++ map f (cond (test c) (c ∷ []) [])
made_suc f test c = ap (map f) (those_suc c test) ∙ map-append f (those c test) (cond (test c) (c ∷ []) [])

-- what is made of candidates, behind others: of one that passes, or of one that doesn't
pub added_one : {X : Type 0} (f : ℕ → X) (test : ℕ → Bool) (c : ℕ) (before roots : List X) → roots ≡ before ++ map f (those c test) → test c ≡ true
    → roots ++ f c ∷ [] ≡ before ++ map f (those (c + 1) test)
added_one f test c before roots is passes =
    let e : c + 1 ≡ suc c = omega arith in
    rw (e, made_suc f test c, passes, is) (append_assoc before (map f (those c test)) (f c ∷ []))

pub added_none : {X : Type 0} (f : ℕ → X) (test : ℕ → Bool) (c : ℕ) (before roots : List X) → roots ≡ before ++ map f (those c test) → test c ≡ false
    → roots ≡ before ++ map f (those (c + 1) test)
added_none f test c before roots is fails =
    let e : c + 1 ≡ suc c = omega arith in
    rw (e, made_suc f test c, fails, is) (ap (λ xs. before ++ xs) (sym (append-nil (map f (those c test)))))

-- the lists of all candidates before one, and its own
pub list_more : {X : Type 0} (f : ℕ → List X) (g : ℕ) (before roots : List X) → before ≡ flat_map f (range_with_len 0 g) → roots ≡ before ++ f g
    → roots ≡ flat_map f (range_with_len 0 (g + 1))
list_more f g before roots is added =
    rw (range_more g, flat_map-append f (range_with_len 0 g) (g ∷ []), ← is, flat_map-cons f g []) (added ∙ ap (λ xs. before ++ xs) (sym (append-nil (f g))))

-- the test for another candidate
pub is_other : (j x : ℕ) → j ≢ x → not (j == x) ≡ true
is_other j x differ = grind (arith, nat_tests)

pub is_no_other : (j x : ℕ) → j ≡ x → not (j == x) ≡ false
is_no_other j x same = grind (arith, nat_tests)

pub other_is : (j x : ℕ) → not (j == x) ≡ true → j ≢ x
other_is j x passes same = grind (arith, nat_tests)

-- ---- who is among those that pass

pub those_are : (c x : ℕ) (test : ℕ → Bool) → Contains (those c test) x → (x < c) × (test x ≡ true)
those_are zero x test there = absurd (omega (arith, there.1))
those_are (suc c) x test there = elim (Contains-append_cases (those c test) (cond (test c) (c ∷ []) []) x (subst (λ xs. Contains xs x) (those_suc c test) there)) [
  | inl below ↦ let is = those_are c x test below in (omega (arith, is.0), is.1)
  | inr last ↦ let is = by (test c) c x last in (omega (arith, is.1), subst (λ y. test y ≡ true) is.1 is.0)
]
  where
    by : (t : Bool) (c x : ℕ) → Contains (cond t (c ∷ []) []) x → (t ≡ true) × (c ≡ x)
    by true c x (zero, lt, e) = (refl, e)
    by true c x (suc k, lt, e) = absurd (omega (arith, lt))
    by false c x there = absurd (omega (arith, there.1))

pub among_those : (c x : ℕ) (test : ℕ → Bool) → x < c → test x ≡ true → Contains (those c test) x
among_those zero x test lt passes = absurd (omega arith)
among_those (suc c) x test lt passes = subst (λ xs. Contains xs x) (sym (those_suc c test)) (elim (cases_eq x c) [
  | inl same ↦
      let t : test c ≡ true = subst (λ y. test y ≡ true) same passes in
      Contains-append_right (those c test) (cond (test c) (c ∷ []) []) x (rw t (0, omega arith, sym same))
  | inr differ ↦ Contains-append_left (those c test) (cond (test c) (c ∷ []) []) x (among_those c x test (omega arith) passes)
])

pub those_few : (c : ℕ) (test : ℕ → Bool) → length (those c test) ≤ c
those_few zero test = omega arith
those_few (suc c) test =
    let n = length-append (those c test) (cond (test c) (c ∷ []) []) in
    let e = ap length (those_suc c test) in
    omega (arith, n, e, those_few c test, one (test c) c)
  where
    one : (t : Bool) (c : ℕ) → length (cond t (c ∷ []) []) ≤ 1
    one true c = omega arith
    one false c = omega arith

-- ---- goals made from candidates

pub made_are : (f : ℕ → Goal) (xs : List ℕ) (goal : Goal) → Contains (map f xs) goal → (x : ℕ) × Contains xs x × (f x ≡ goal)
made_are f [] goal there = absurd (omega (arith, there.1))
made_are f (x ∷ xs) goal (zero, lt, e) = (x, (0, omega arith, refl), e)
made_are f (x ∷ xs) goal (suc k, lt, e) =
    let rest = made_are f xs goal (k, omega (arith, lt), e) in
    (rest.0, (suc rest.1.0, omega (arith, rest.1.1), rest.1.2), rest.2)

pub among_made : (f : ℕ → Goal) (xs : List ℕ) (x : ℕ) → Contains xs x → Contains (map f xs) (f x)
among_made f [] x there = absurd (omega (arith, there.1))
among_made f (y ∷ xs) x (zero, lt, e) = (0, omega arith, ap f e)
among_made f (y ∷ xs) x (suc k, lt, e) =
    let rest = among_made f xs x (k, omega (arith, lt), e) in
    (suc rest.0, omega (arith, rest.1), rest.2)

length_map : {A B : Type 0} (f : A → B) (xs : List A) → length (map f xs) ≡ length xs
length_map f [] = refl
length_map f (x ∷ xs) = omega (arith, length_map f xs)

pub made_few : (f : ℕ → Goal) (c : ℕ) (test : ℕ → Bool) → length (map f (those c test)) ≤ c
made_few f c test = omega (arith, those_few c test, length_map f (those c test))

-- ---- each once

none_once : {A : Type 0} → AllPairs {X = A} (λ a b. a ≢ b) []
none_once i j d less lt = absurd (omega (arith, lt))

tail_once : {A : Type 0} (x : A) (xs : List A) → AllPairs (λ a b. a ≢ b) (x ∷ xs) → AllPairs (λ a b. a ≢ b) xs
tail_once x xs once i j d less lt = once (suc i) (suc j) d (omega arith) (omega arith)

pub append_once : {A : Type 0} (xs ys : List A) → AllPairs (λ a b. a ≢ b) xs → AllPairs (λ a b. a ≢ b) ys → ((g : A) → Contains xs g → Contains ys g → ⊥)
    → AllPairs (λ a b. a ≢ b) (xs ++ ys)
append_once [] ys one two apart = two
append_once (x ∷ xs) ys one two apart =
    let rest = append_once xs ys (tail_once x xs one) two (λ g a b. apart g (suc a.0, omega (arith, a.1), a.2) b) in
    AllPairs-cons (λ a b. a ≢ b) x (xs ++ ys) (λ k d lt e.
    let there : Contains (xs ++ ys) x = (k, lt, get_or_default (xs ++ ys) k x d lt ∙ sym e) in
    elim (Contains-append_cases xs ys x there) [
      | inl front ↦ one 0 (suc front.0) x (omega arith) (omega (arith, front.1)) (sym front.2)
      | inr back ↦ apart x (0, omega arith, refl) back
    ]) rest

when_once : {A : Type 0} (t : Bool) (x : A) → AllPairs (λ a b. a ≢ b) (cond t (x ∷ []) [])
when_once true x i j d less lt = absurd (omega (arith, less, lt))
when_once false x i j d less lt = absurd (omega (arith, lt))

pub those_once : (c : ℕ) (test : ℕ → Bool) → AllPairs (λ a b. a ≢ b) (those c test)
those_once zero test = none_once
those_once (suc c) test =
    subst (λ xs. AllPairs (λ a b. a ≢ b) xs) (sym (those_suc c test))
    (append_once (those c test) (cond (test c) (c ∷ []) []) (those_once c test) (when_once (test c) c) (λ x a b. last (test c) c x b (those_are c x test a).0))
  where
    last : (t : Bool) (c x : ℕ) → Contains (cond t (c ∷ []) []) x → x < c → ⊥
    last true c x (zero, lt, e) less = omega (arith, e)
    last true c x (suc k, lt, e) less = omega (arith, lt)
    last false c x there less = omega (arith, there.1)

pub made_once : (f : ℕ → Goal) (xs : List ℕ) → ((x y : ℕ) → f x ≡ f y → x ≡ y) → AllPairs (λ a b. a ≢ b) xs → AllPairs (λ a b. a ≢ b) (map f xs)
made_once f [] one once = none_once
made_once f (x ∷ xs) one once =
    AllPairs-cons (λ a b. a ≢ b) (f x) (map f xs) (λ k d lt e.
    let there : Contains (map f xs) (f x) = (k, lt, get_or_default (map f xs) k (f x) d lt ∙ sym e) in
    let is = made_are f xs (f x) there in
    once 0 (suc is.1.0) is.0 (omega arith) (omega (arith, is.1.1)) (sym (one is.0 x is.2) ∙ sym is.1.2))
    (made_once f xs one (tail_once x xs once))

-- ---- lists of goals, one for each candidate

pub lists_suc : (f : ℕ → List Goal) (n : ℕ) → flat_map f (range_with_len 0 (suc n)) ≡ flat_map f (range_with_len 0 n) ++ f n
lists_suc f n =
    let e : n + 1 ≡ suc n = omega arith in
    sym (list_more f n (flat_map f (range_with_len 0 n)) (flat_map f (range_with_len 0 n) ++ f n) refl refl ∙ ap (λ m. flat_map f (range_with_len 0 m)) e)

pub lists_are : (f : ℕ → List Goal) (n : ℕ) (goal : Goal) → Contains (flat_map f (range_with_len 0 n)) goal → (g : ℕ) × (g < n) × Contains (f g) goal
lists_are f zero goal there = absurd (omega (arith, there.1))
lists_are f (suc n) goal there = elim (Contains-append_cases (flat_map f (range_with_len 0 n)) (f n) goal (subst (λ xs. Contains xs goal) (lists_suc f n) there)) [
  | inl below ↦ let is = lists_are f n goal below in (is.0, omega (arith, is.1), is.2)
  | inr last ↦ (n, omega arith, last)
]

pub among_lists : (f : ℕ → List Goal) (n g : ℕ) (goal : Goal) → g < n → Contains (f g) goal → Contains (flat_map f (range_with_len 0 n)) goal
among_lists f zero g goal lt there = absurd (omega arith)
among_lists f (suc n) g goal lt there = subst (λ xs. Contains xs goal) (sym (lists_suc f n)) (elim (cases_eq g n) [
  | inl same ↦ Contains-append_right (flat_map f (range_with_len 0 n)) (f n) goal (subst (λ h. Contains (f h) goal) same there)
  | inr differ ↦ Contains-append_left (flat_map f (range_with_len 0 n)) (f n) goal (among_lists f n g goal (omega arith) there)
])

pub lists_few : (f : ℕ → List Goal) (n c : ℕ) → ((g : ℕ) → length (f g) ≤ c) → length (flat_map f (range_with_len 0 n)) ≤ n * c
lists_few f zero c few = omega arith
lists_few f (suc n) c few =
    let e = ap length (lists_suc f n) in
    let h = length-append (flat_map f (range_with_len 0 n)) (f n) in
    omega (arith, e, h, few n, lists_few f n c few)

pub lists_once : (f : ℕ → List Goal) (n : ℕ) → ((g : ℕ) → AllPairs (λ a b. a ≢ b) (f g)) → ((g h : ℕ) (goal : Goal) → Contains (f g) goal → Contains (f h) goal → g ≡ h)
    → AllPairs (λ a b. a ≢ b) (flat_map f (range_with_len 0 n))
lists_once f zero each one = none_once
lists_once f (suc n) each one =
    subst (λ xs. AllPairs (λ a b. a ≢ b) xs) (sym (lists_suc f n))
    (append_once (flat_map f (range_with_len 0 n)) (f n) (lists_once f n each one) (each n)
    (λ goal a b. let is = lists_are f n goal a in omega (arith, is.1, one is.0 n goal is.2 b)))
