-- The lowest numbers of each key, as many as a table says, one ballot after another.
use Rattle.std.proofs.Common.{ℕ, zero, suc, List, [], ◌∷◌, ◌++◌, true, ◌≡◌, ◌≢◌, ◌<◌, ◌≤◌, ◌+◌, ◌-◌, ◌∙◌, cond, length, get_or, replicate, take, ap, sym, refl, subst, inl, inr, arith, append_assoc}
use Rattle.std.specs.Prelude.{◌==◌, filter, nat_lt}
use Rattle.std.specs.List.{range_with_len}
use Rattle.std.proofs.Math.ListN.{set}
use Rattle.std.proofs.Math.Seq.{get_or-append_seam, take-append_seam}
use Rattle.std.proofs.lemmas.Bool.{cases_eq, cases_lt, lt-ltb, le-ltb}
use Rattle.std.proofs.lemmas.List.{length-append}
use Rattle.std.proofs.lemmas.List.Sums.{sum_by-append, sum_by-cons}
use Rattle.irv_count.proofs.Members.{differ_test, same_test}
use Rattle.witness_build.specs.FromPoints.{is_low, low_numbers, number_for, times_seen}

-- ---- a table of what is left for each class

-- what is left where so many of the key are taken
abbrev pub taken_from : List (ℕ × ℕ) → List ℕ → ℕ → ℕ → List ℕ
taken_from [] xs key n = xs
taken_from (c ∷ cs) [] key n = []
taken_from (c ∷ cs) (x ∷ xs) key n = cond (c.0 == key) ((x - n) ∷ xs) (x ∷ taken_from cs xs key n)

pub none_for : (cs : List (ℕ × ℕ)) (key : ℕ) → number_for cs [] key ≡ 0
none_for [] key = refl
none_for (c ∷ cs) key = elim (cases_eq c.0 key) [
  | inl same ↦ rw (same_test c.0 key same) refl
  | inr differ ↦ rw (differ_test c.0 key differ) (none_for cs key)
]

pub taken_own : (cs : List (ℕ × ℕ)) (xs : List ℕ) (key n : ℕ) → number_for cs (taken_from cs xs key n) key ≡ number_for cs xs key - n
taken_own [] xs key n = omega arith
taken_own (c ∷ cs) [] key n = let none = none_for (c ∷ cs) key in omega (arith, none)
taken_own (c ∷ cs) (x ∷ xs) key n = elim (cases_eq c.0 key) [
  | inl same ↦ rw (same_test c.0 key same) refl
  | inr differ ↦ rw (differ_test c.0 key differ) (taken_own cs xs key n)
]

pub taken_other : (cs : List (ℕ × ℕ)) (xs : List ℕ) (key n other : ℕ) → key ≢ other
    → number_for cs (taken_from cs xs key n) other ≡ number_for cs xs other
taken_other [] xs key n other apart = refl
taken_other (c ∷ cs) [] key n other apart = refl
taken_other (c ∷ cs) (x ∷ xs) key n other apart = elim (cases_eq c.0 key) [
  | inl same ↦ rw (same_test c.0 key same, differ_test c.0 other (λ e. apart (sym same ∙ e))) refl
  | inr differ ↦ elim (cases_eq c.0 other) [
    | inl is ↦ rw (differ_test c.0 key differ, same_test c.0 other is) refl
    | inr not ↦ rw (differ_test c.0 key differ, differ_test c.0 other not) (taken_other cs xs key n other apart)
  ]
]

taken_twice : (cs : List (ℕ × ℕ)) (xs : List ℕ) (key n m : ℕ) → taken_from cs (taken_from cs xs key n) key m ≡ taken_from cs xs key (n + m)
taken_twice [] xs key n m = refl
taken_twice (c ∷ cs) [] key n m = refl
taken_twice (c ∷ cs) (x ∷ xs) key n m = elim (cases_eq c.0 key) [
  | inl same ↦
      let e : x - n - m ≡ x - (n + m) = omega arith in
      rw (same_test c.0 key same, same_test c.0 key same) (ap (λ y. y ∷ xs) e)
  | inr differ ↦ rw (differ_test c.0 key differ, differ_test c.0 key differ) (ap (λ ys. x ∷ ys) (taken_twice cs xs key n m))
]

pub taken_none : (cs : List (ℕ × ℕ)) (xs : List ℕ) (key n : ℕ) → number_for cs xs key ≡ 0 → taken_from cs xs key n ≡ xs
taken_none [] xs key n none = refl
taken_none (c ∷ cs) [] key n none = refl
taken_none (c ∷ cs) (x ∷ xs) key n none = elim (cases_eq c.0 key) [
  | inl same ↦
      let nothing : x ≡ 0 = rw (same_test c.0 key same) at none in
      let e : x - n ≡ x = omega (arith, nothing) in
      rw (same_test c.0 key same) (ap (λ y. y ∷ xs) e)
  | inr differ ↦
      let rest : number_for cs xs key ≡ 0 = rw (differ_test c.0 key differ) at none in
      rw (differ_test c.0 key differ) (ap (λ ys. x ∷ ys) (taken_none cs xs key n rest))
]

-- ---- the numbers by the table

-- the numbers, from i, of the ballots with these keys that are replaced where so many are left for each class
abbrev pub low_by : List (ℕ × ℕ) → List ℕ → ℕ → List ℕ → List ℕ
low_by cs left i [] = []
low_by cs left i (key ∷ keys) =
    let rest = low_by cs (taken_from cs left key 1) (i + 1) keys in
    cond (nat_lt 0 (number_for cs left key)) (i ∷ rest) rest

-- as many are left as are wanted beyond those that are seen
abbrev pub IsLeftAfter : List (ℕ × ℕ) → (ℕ → ℕ) → List ℕ → List ℕ → Type 0
IsLeftAfter cs wanted seen left = (key : ℕ) → number_for cs left key ≡ wanted key - times_seen key seen

seen_one : (key other : ℕ) (seen : List ℕ) → times_seen key (seen ++ other ∷ []) ≡ times_seen key seen + cond (other == key) 1 0
seen_one key other seen =
    let f : ℕ → ℕ = λ k. cond (k == key) 1 0 in
    let both = sum_by-append f seen (other ∷ []) in
    let one = sum_by-cons f other [] in
    omega (arith, both, one)

left_next : (cs : List (ℕ × ℕ)) (wanted : ℕ → ℕ) (seen left : List ℕ) (key : ℕ) → IsLeftAfter cs wanted seen left
    → IsLeftAfter cs wanted (seen ++ key ∷ []) (taken_from cs left key 1)
left_next cs wanted seen left key so_far other = elim (cases_eq key other) [
  | inl same ↦
      let one = seen_one other key seen in
      let test = same_test key other same in
      let more : times_seen other (seen ++ key ∷ []) ≡ times_seen other seen + 1 = one ∙ ap (λ b. times_seen other seen + cond b 1 0) test in
      let own = ap (λ k. number_for cs (taken_from cs left key 1) k) (sym same) ∙ taken_own cs left key 1 ∙ ap (λ k. number_for cs left k - 1) same in
      let before = so_far other in
      omega (arith, more, own, before)
  | inr differ ↦
      let one = seen_one other key seen in
      let test = differ_test key other differ in
      let more : times_seen other (seen ++ key ∷ []) ≡ times_seen other seen + 0 = one ∙ ap (λ b. times_seen other seen + cond b 1 0) test in
      let kept = taken_other cs left key 1 other differ in
      let before = so_far other in
      omega (arith, more, kept, before)
]

less_test : (a b : ℕ) → nat_lt a b ≡ nat_lt 0 (b - a)
less_test a b = elim (cases_lt a b) [
  | inl less ↦ lt-ltb a b less ∙ sym (lt-ltb 0 (b - a) (omega (arith, less)))
  | inr at_least ↦ le-ltb a b at_least ∙ sym (le-ltb 0 (b - a) (omega (arith, at_least)))
]

-- whether the first ballot behind those that are seen is low
first_low : (cs : List (ℕ × ℕ)) (wanted : ℕ → ℕ) (seen rest left : List ℕ) (key : ℕ) → IsLeftAfter cs wanted seen left
    → is_low (seen ++ key ∷ rest) wanted (length seen + 1) ≡ nat_lt 0 (number_for cs left key)
first_low cs wanted seen rest left key so_far =
    let keys = seen ++ key ∷ rest in
    let back : length seen + 1 - 1 ≡ length seen = omega arith in
    ap (λ n. nat_lt (times_seen (get_or keys n 0) (take n keys)) (wanted (get_or keys n 0))) back
    ∙ ap (λ k. nat_lt (times_seen k (take (length seen) keys)) (wanted k)) (get_or-append_seam seen key rest 0)
    ∙ ap (λ before. nat_lt (times_seen key before) (wanted key)) (take-append_seam seen (key ∷ rest))
    ∙ less_test (times_seen key seen) (wanted key)
    ∙ ap (λ n. nat_lt 0 n) (sym (so_far key))

pub low_from : (cs : List (ℕ × ℕ)) (wanted : ℕ → ℕ) (seen rest left keys : List ℕ) → keys ≡ seen ++ rest → IsLeftAfter cs wanted seen left
    → low_by cs left (length seen + 1) rest ≡ filter (is_low keys wanted) (range_with_len (length seen + 1) (length rest))
low_from cs wanted seen [] left keys is so_far = refl
low_from cs wanted seen (key ∷ rest) left keys is so_far =
    let i = length seen + 1 in
    let one : length (seen ++ key ∷ []) ≡ length seen + 1 = length-append seen (key ∷ []) in
    let later = low_from cs wanted (seen ++ key ∷ []) rest (taken_from cs left key 1) keys
    (is ∙ sym (append_assoc seen (key ∷ []) rest)) (left_next cs wanted seen left key so_far) in
    let numbers = low_by cs (taken_from cs left key 1) (i + 1) rest in
    let here : is_low keys wanted i ≡ nat_lt 0 (number_for cs left key) =
    ap (λ ks. is_low ks wanted i) is ∙ first_low cs wanted seen rest left key so_far in
    let next : numbers ≡ filter (is_low keys wanted) (range_with_len (i + 1) (length rest)) =
    subst (λ n. low_by cs (taken_from cs left key 1) (n + 1) rest ≡ filter (is_low keys wanted) (range_with_len (n + 1) (length rest))) one later in
    ap (λ b. cond b (i ∷ numbers) numbers) (sym here)
    ∙ ap (λ ns. cond (is_low keys wanted i) (i ∷ ns) ns) next

-- from the whole table on they are the lowest numbers of each key
pub low_is : (cs : List (ℕ × ℕ)) (wanted : ℕ → ℕ) (left keys : List ℕ) → ((key : ℕ) → number_for cs left key ≡ wanted key)
    → low_by cs left 1 keys ≡ low_numbers keys wanted
low_is cs wanted left keys are = low_from cs wanted [] keys left keys refl (λ key. let e = are key in omega (arith, e))

-- ---- equal keys

low_none : (cs : List (ℕ × ℕ)) (left rest : List ℕ) (i n key : ℕ) → number_for cs left key ≡ 0
    → low_by cs left i (replicate n key ++ rest) ≡ low_by cs left (i + n) rest
low_none cs left rest i zero key none = ap (λ j. low_by cs left j rest) (omega arith)
low_none cs left rest i (suc n) key none =
    let same = taken_none cs left key 1 none in
    let next : i + 1 + n ≡ i + suc n = omega arith in
    let numbers = low_by cs (taken_from cs left key 1) (i + 1) (replicate n key ++ rest) in
    ap (λ k. cond (nat_lt 0 k) (i ∷ numbers) numbers) none
    ∙ ap (λ xs. low_by cs xs (i + 1) (replicate n key ++ rest)) same
    ∙ low_none cs left rest (i + 1) n key none
    ∙ ap (λ j. low_by cs left j rest) next

-- as many of them as are left
pub low_run : (cs : List (ℕ × ℕ)) (left rest : List ℕ) (i n m key : ℕ) → m ≤ n → m ≤ number_for cs left key → (m < n → m ≡ number_for cs left key)
    → low_by cs left i (replicate n key ++ rest) ≡ range_with_len i m ++ low_by cs (taken_from cs left key m) (i + n) rest
low_run cs left rest i zero zero key within enough all =
    let j : i ≡ i + 0 = omega arith in
    ap (λ k. low_by cs left k rest) j ∙ ap (λ xs. low_by cs xs (i + 0) rest) (sym (taken_nothing cs left key))
  where
    taken_nothing : (cs : List (ℕ × ℕ)) (xs : List ℕ) (key : ℕ) → taken_from cs xs key 0 ≡ xs
    taken_nothing [] xs key = refl
    taken_nothing (c ∷ cs) [] key = refl
    taken_nothing (c ∷ cs) (x ∷ xs) key = elim (cases_eq c.0 key) [
      | inl same ↦ let e : x - 0 ≡ x = omega arith in rw (same_test c.0 key same) (ap (λ y. y ∷ xs) e)
      | inr differ ↦ rw (differ_test c.0 key differ) (ap (λ ys. x ∷ ys) (taken_nothing cs xs key))
    ]
low_run cs left rest i zero (suc m) key within enough all = absurd (omega (arith, within))
low_run cs left rest i (suc n) zero key within enough all =
    let none : number_for cs left key ≡ 0 = sym (all (omega arith)) in
    low_none cs left rest i (suc n) key none ∙ ap (λ xs. low_by cs xs (i + suc n) rest) (sym (taken_none cs left key 0 none))
low_run cs left rest i (suc n) (suc m) key within enough all =
    let xs = taken_from cs left key 1 in
    let numbers = low_by cs xs (i + 1) (replicate n key ++ rest) in
    let some : nat_lt 0 (number_for cs left key) ≡ true = lt-ltb 0 (number_for cs left key) (omega (arith, enough)) in
    let fewer = taken_own cs left key 1 in
    let next : i + 1 + n ≡ i + suc n = omega arith in
    let one : 1 + m ≡ suc m = omega arith in
    ap (λ b. cond b (i ∷ numbers) numbers) some
    ∙ ap (λ ns. i ∷ ns) (low_run cs xs rest (i + 1) n m key (omega (arith, within)) (omega (arith, fewer, enough))
    (λ lt. let e = all (omega (arith, lt)) in omega (arith, e, fewer))
    ∙ ap (λ ys. range_with_len (i + 1) m ++ low_by cs ys (i + 1 + n) rest) (taken_twice cs left key 1 m ∙ ap (taken_from cs left key) one)
    ∙ ap (λ j. range_with_len (i + 1) m ++ low_by cs (taken_from cs left key (suc m)) j rest) next)

-- ---- the place of a class

-- the first class with the key stands at this place
pub record IsFirstAt (cs : List (ℕ × ℕ)) (p key : ℕ) : Type 0 where
  pub within : p < length cs
  pub key_is : (get_or cs p (0, 0)).0 ≡ key
  pub before : (k : ℕ) → k < p → (get_or cs k (0, 0)).0 ≢ key

first_rest : (c : ℕ × ℕ) (cs : List (ℕ × ℕ)) (p key : ℕ) → IsFirstAt (c ∷ cs) (suc p) key → IsFirstAt cs p key
first_rest c cs p key is = record {
  within = omega (arith, is.within);
  key_is = is.key_is;
  before = λ k lt. is.before (suc k) (omega (arith, lt));
}

pub number_at : (cs : List (ℕ × ℕ)) (xs : List ℕ) (p key : ℕ) → IsFirstAt cs p key → number_for cs xs key ≡ get_or xs p 0
number_at [] xs p key is = absurd (omega (arith, is.within))
number_at (c ∷ cs) xs zero key is = rw (same_test c.0 key is.key_is) refl
number_at (c ∷ cs) [] (suc p) key is = none_for (c ∷ cs) key
number_at (c ∷ cs) (x ∷ xs) (suc p) key is =
    rw (differ_test c.0 key (is.before 0 (omega arith))) (number_at cs xs p key (first_rest c cs p key is))

pub taken_at : (cs : List (ℕ × ℕ)) (xs : List ℕ) (p key n : ℕ) → IsFirstAt cs p key → taken_from cs xs key n ≡ set xs p (get_or xs p 0 - n)
taken_at [] xs p key n is = absurd (omega (arith, is.within))
taken_at (c ∷ cs) [] p key n is = refl
taken_at (c ∷ cs) (x ∷ xs) zero key n is = rw (same_test c.0 key is.key_is) refl
taken_at (c ∷ cs) (x ∷ xs) (suc p) key n is =
    rw (differ_test c.0 key (is.before 0 (omega arith))) (ap (λ ys. x ∷ ys) (taken_at cs xs p key n (first_rest c cs p key is)))
