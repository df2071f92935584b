-- What searches of lists find: the row of a basic variable, the first that passes a test, the first least.
use Rattle.std.proofs.Common.{ℕ, zero, suc, ◌≡◌, ◌<◌, ◌≤◌, arith, refl, ap, sym, ◌∙◌, inl, inr, ◌⊎◌, ⊎_elim, subst, List, [], ◌∷◌, length, get_or, Some, None, Bool, true, false, cond, ltb, eqb}
use Rattle.std.specs.Prelude.{ℤ, pos, ◌<ℤ◌, Option, find, filter}
use lib.IntN.{neg_ℤ}
use Rattle.std.specs.List.{All, position, position_or_len}
use Rattle.std.proofs.lemmas.Bool.{cases_lt, cases_eq, cases_Bool, lt-ltb, eq-eqb, eqb-true, cond-true, cond-false}
use Rattle.std.proofs.lemmas.Int.{ints}
use Rattle.std.proofs.lemmas.List.Sums.{fails_before_first}
use Rattle.std.proofs.lemmas.List.Elements.{All-cons}
use Rattle.std.proofs.lemmas.List.Quantifiers.{position-Some}
use Rattle.row_program.specs.Forms.{Table, Tableau, basic_of, tableau, IsNonbasic, IsSolved}
use Rattle.row_program.specs.Method.{row_of_basic, lex_negative, difference, first_least}
use Rattle.pivot_form.proofs.NextForm.{IsShaped}
use Rattle.dual_theory.proofs.Lex.{LexNonnegative, LexNonnegative-zeros, weaken}
use Rattle.dual_theory.proofs.Tests.{lex_test_false, lex_test_true, difference_trans}

pub option_cases : {A : Type 0} (o : Option A) → (o ≡ None) ⊎ ((x : A) × (o ≡ Some x))
option_cases None = inl refl
option_cases (Some x) = inr (x, refl)

pub none_some : {A : Type 0} {P : Type 0} (o : Option A) (x : A) → o ≡ None → o ≡ Some x → P
none_some o x e f = absurd (let g : None ≡ Some x = sym e ∙ f in cc)

pub some_same : {A : Type 0} (o : Option A) (x y : A) → o ≡ Some x → o ≡ Some y → x ≡ y
some_same o x y e f = let g : Some x ≡ Some y = sym e ∙ f in cc

pub position_none : {X : Type 0} (p : X → Bool) (xs : List X) → position p xs ≡ None → (k : ℕ) (d : X) → k < length xs → p (get_or xs k d) ≡ false
position_none p xs e k d h =
    ⊎_elim
    (λ (low : position_or_len p xs < length xs). none_some (position p xs) (position_or_len p xs) e (cond-true (ltb (position_or_len p xs) (length xs)) (Some (position_or_len p xs)) None (lt-ltb (position_or_len p xs) (length xs) low)))
    (λ (past : length xs ≤ position_or_len p xs). fails_before_first p xs k d (omega (arith, h, past)))
    (cases_lt (position_or_len p xs) (length xs))

pub find_some : {X : Type 0} (p : X → Bool) (xs : List X) (x : X) → find p xs ≡ Some x → p x ≡ true
find_some p [] x e = none_some None x refl e
find_some p (y ∷ xs) x e =
    ⊎_elim
    (λ (t : p y ≡ true). let f : Some y ≡ Some x = sym (cond-true (p y) (Some y) (find p xs) t) ∙ e in let g : y ≡ x = cc in subst (λ z. p z ≡ true) g t)
    (λ f. find_some p xs x (sym (cond-false (p y) (Some y) (find p xs) f) ∙ e))
    (cases_Bool (p y))

pub find_none : {X : Type 0} (p : X → Bool) (xs : List X) → find p xs ≡ None → (k : ℕ) (d : X) → k < length xs → p (get_or xs k d) ≡ false
find_none p [] e k d h = absurd (omega (arith, h))
find_none p (y ∷ xs) e k d h = ⊎_elim (λ t. none_some (find p (y ∷ xs)) y e (cond-true (p y) (Some y) (find p xs) t)) (λ f. at k h f (λ i l. find_none p xs (sym (cond-false (p y) (Some y) (find p xs) f) ∙ e) i d l)) (cases_Bool (p y))
  where
    at : (k : ℕ) → k < length (y ∷ xs) → p y ≡ false → ((i : ℕ) → i < length xs → p (get_or xs i d) ≡ false) → p (get_or (y ∷ xs) k d) ≡ false
    at zero h f g = f
    at (suc k) h f g = g k (omega (arith, h))

-- ---- the row of a basic variable
pub row_of_some : (t : Table) (v i : ℕ) → length t.basis ≡ length t.rows → row_of_basic t v ≡ Some i → (i < length t.rows) × (basic_of t i ≡ v)
row_of_some t v i same_length e = let found = position-Some (λ b. eqb b v) t.basis i 0 e in (omega (arith, found.0, same_length), eqb-true (basic_of t i) v found.1)

pub row_of_none : (t : Table) (v : ℕ) → length t.basis ≡ length t.rows → row_of_basic t v ≡ None → IsNonbasic (tableau t) v
row_of_none t v same_length e i h f =
    let off = position_none (λ b. eqb b v) t.basis e i 0 (omega (arith, h, same_length)) in
    let on : eqb (basic_of t i) v ≡ true = eq-eqb (basic_of t i) v f in
    let clash : true ≡ false = sym on ∙ off in cc

-- a basic variable has one row
pub one_row : (t : Tableau) (i k : ℕ) → IsSolved t → i < t.height → k < t.height → t.basic i ≡ t.basic k → i ≡ k
one_row t i k solved h l e =
    ⊎_elim
    (λ is. is)
    (λ apart. let z : t.at k (t.basic i) ≡ pos 0 = solved.clear i k h l (λ f. apart (sym f)) in
    let z2 : t.at k (t.basic k) ≡ pos 0 = subst (λ (x : ℕ). t.at k x ≡ pos 0) e z in
    let p = solved.positive k l in absurd (omega (arith, ints, z2, p)))
    (cases_eq i k)

pub row_of_is : (t : Table) (i : ℕ) → IsShaped t → i < length t.rows → row_of_basic t (basic_of t i) ≡ Some i
row_of_is t i shape h =
    ⊎_elim
    (λ none. absurd (row_of_none t (basic_of t i) shape.basics none i h refl))
    (λ some. let found = row_of_some t (basic_of t i) some.0 shape.basics some.1 in
    let e : some.0 ≡ i = one_row (tableau t) some.0 i shape.solved found.0 h found.1 in
    some.1 ∙ ap Some e)
    (option_cases (row_of_basic t (basic_of t i)))

pub row_of_free : (t : Table) (v : ℕ) → length t.basis ≡ length t.rows → IsNonbasic (tableau t) v → row_of_basic t v ≡ None
row_of_free t v same_length free = ⊎_elim (λ none. none) (λ some. let found = row_of_some t v some.0 same_length some.1 in absurd (free some.0 found.0 found.1)) (option_cases (row_of_basic t v))

-- ---- the first least
module _ (n : ℕ) (f : ℕ → ℕ → ℤ) (a : ℕ → ℤ) where
  -- the column of j comes before that of k
  abbrev pub before : ℕ → ℕ → Bool
  before j k = lex_negative n 0 (difference (f j) (a j) (f k) (a k))

  -- the column of c is at most that of j
  abbrev pub AtMost : ℕ → ℕ → Type 0
  AtMost c j = LexNonnegative n 0 (difference (f j) (a j) (f c) (a c))

  at_most_self : (j : ℕ) → AtMost j j
  at_most_self j = LexNonnegative-zeros n 0 (difference (f j) (a j) (f j) (a j)) (λ u. omega (arith, ints))

  turned_round : (m v : ℕ) (j k : ℕ) → LexNonnegative m v (λ u. neg_ℤ (difference (f j) (a j) (f k) (a k) u)) → LexNonnegative m v (difference (f k) (a k) (f j) (a j))
  turned_round zero v j k h = h
  turned_round (suc m) v j k (inl p) = inl (omega (arith, ints, p))
  turned_round (suc m) v j k (inr r) = inr (omega (arith, ints, r.0), turned_round m (suc v) j k r.1)

  pub least_of : (P : ℕ → Type 0) → ((j : ℕ) → P j → pos 0 <ℤ a j) → (best : ℕ) (js : List ℕ) → P best → All P js → P (first_least before best js) × AtMost (first_least before best js) best × All (AtMost (first_least before best js)) js
  least_of P above best [] p q = (p, at_most_self best, λ k d h. absurd (omega (arith, h)))
  least_of P above best (j ∷ js) p q = ⊎_elim (λ t. chosen j (λ pm. least_of P above j js pm (λ k d h. q (suc k) d (omega (arith, h)))) (cond-true (before j best) j best t) (q zero 0 (omega arith)) (turned_round n 0 j best (weaken n 0 (λ u. neg_ℤ (difference (f j) (a j) (f best) (a best) u)) (lex_test_true n 0 (difference (f j) (a j) (f best) (a best)) t))) (at_most_self j))
      (λ e. chosen best (λ pm. least_of P above best js pm (λ k d h. q (suc k) d (omega (arith, h)))) (cond-false (before j best) j best e) p (at_most_self best) (lex_test_false n 0 (difference (f j) (a j) (f best) (a best)) e)) (cases_Bool (before j best))
    where
      trans : (x y z : ℕ) → P x → P y → P z → AtMost x y → AtMost y z → AtMost x z
      trans x y z px py pz l m = difference_trans n 0 (f z) (f y) (f x) (a z) (a y) (a x) (above z pz) (above y py) (above x px) m l

      chosen : (m : ℕ) → (P m → P (first_least before m js) × AtMost (first_least before m js) m × All (AtMost (first_least before m js)) js) → cond (before j best) j best ≡ m → P m → AtMost m best → AtMost m j → P (first_least before best (j ∷ js)) × AtMost (first_least before best (j ∷ js)) best × All (AtMost (first_least before best (j ∷ js))) (j ∷ js)
      chosen m more e pm low here =
          let ih = more pm in
          subst (λ (c : ℕ). P (first_least before c js) × AtMost (first_least before c js) best × All (AtMost (first_least before c js)) (j ∷ js)) (sym e)
          (ih.0, trans (first_least before m js) m best ih.0 pm p ih.1 low, All-cons (AtMost (first_least before m js)) j js (trans (first_least before m js) m j ih.0 pm (q zero 0 (omega arith)) ih.1 here) ih.2)

-- ---- filters
pub filter_all : (p : ℕ → Bool) (P : ℕ → Type 0) (xs : List ℕ) → All P xs → All (λ x. P x × (p x ≡ true)) (filter p xs)
filter_all p P [] a = λ k d h. absurd (omega (arith, h))
filter_all p P (x ∷ xs) a = ⊎_elim (λ t. subst (λ (ys : List ℕ). All (λ y. P y × (p y ≡ true)) ys) (sym (cond-true (p x) (x ∷ filter p xs) (filter p xs) t)) (All-cons (λ y. P y × (p y ≡ true)) x (filter p xs) (a zero 0 (omega arith), t) (filter_all p P xs (λ k d h. a (suc k) d (omega (arith, h)))))) (λ f. subst (λ (ys : List ℕ). All (λ y. P y × (p y ≡ true)) ys) (sym (cond-false (p x) (x ∷ filter p xs) (filter p xs) f)) (filter_all p P xs (λ k d h. a (suc k) d (omega (arith, h))))) (cases_Bool (p x))

-- what passes is kept
pub filter_has : (p : ℕ → Bool) (Q : ℕ → Type 0) (xs : List ℕ) → All Q (filter p xs) → (k : ℕ) → k < length xs → p (get_or xs k 0) ≡ true → Q (get_or xs k 0)
filter_has p Q [] a k h e = absurd (omega (arith, h))
filter_has p Q (x ∷ xs) a zero h e = subst (λ (ys : List ℕ). All Q ys) (cond-true (p x) (x ∷ filter p xs) (filter p xs) e) a zero 0 (omega arith)
filter_has p Q (x ∷ xs) a (suc k) h e =
    ⊎_elim
    (λ t. filter_has p Q xs (λ i d l. subst (λ (ys : List ℕ). All Q ys) (cond-true (p x) (x ∷ filter p xs) (filter p xs) t) a (suc i) d (omega (arith, l))) k (omega (arith, h)) e)
    (λ f. filter_has p Q xs (subst (λ (ys : List ℕ). All Q ys) (cond-false (p x) (x ∷ filter p xs) (filter p xs) f) a) k (omega (arith, h)) e)
    (cases_Bool (p x))
