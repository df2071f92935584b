-- One item more, and the classes after it.
use Rattle.std.proofs.Common.{ℕ, zero, suc, List, [], ◌∷◌, ◌++◌, Some, None, Bool, true, false, ◌≡◌, ◌≢◌, ◌≤◌, ◌+◌, ◌*◌, ◌∙◌, ◌⊎◌, map, length, replicate, arith, ap, sym, refl, subst, inl, inr, All}
use Rattle.std.specs.Prelude.{Contains, AllPairs, nat_eq, unwrap_or}
use Rattle.std.specs.Bool.{Decides}
use Rattle.std.specs.Borrow.{Bor}
use Rattle.std.specs.Str.{bytes_eq}
use Rattle.std.specs.Map.{lookup, set_value}
use Rattle.std.proofs.lemmas.Bool.{cases_lt}
use Rattle.std.proofs.lemmas.Bool.Decides.{Decides-eqb}
use Rattle.std.proofs.lemmas.List.{append-nil, append_assoc, map-append, length-append, length-map, get_or_append_left, get_or_at}
use Rattle.std.proofs.lemmas.List.Elements.{Contains-append_left, Contains-append_right, Contains-push, Contains-push_cases, Contains-get_or}
use Rattle.std.proofs.lemmas.Slice.Eq.{bytes_eq-Decides}
use Rattle.indexmap.specs.IndexMap.{insert_entry}
use Rattle.ballot_form.specs.declared.limits.TheConstants.{MOST_BALLOTS}
use Rattle.ballot_form.specs.declared.runs.Run.{Run}
use Rattle.ballot_form.specs.Runs.{IsFirstRun, Left}
use Rattle.mov_base.specs.Sums.{add_up}
use Rattle.mov_base.proofs.Sums.{add_up-append, add_up-le}
use Rattle.signature_class.specs.Classes.{AreClasses, AreKinds, IsClassList, IsSeenBefore, add_all, add_class, classes_of, count_of, first_part, keys_of, seen}

-- a list with one more at the end
pub pairs_push : {X : Type 0} (R : X → X → Type 0) (xs : List X) (x : X) → AllPairs R xs → All (λ y. R y x) xs → AllPairs R (xs ++ x ∷ [])
pairs_push R xs x pairs last i j d lt within = elim (cases_lt j (length xs)) [
  | inl inner ↦ rw (get_or_append_left xs (x ∷ []) d i (omega arith), get_or_append_left xs (x ∷ []) d j inner) (pairs i j d lt inner)
  | inr outer ↦
      let l = length-append xs (x ∷ []) in
      let e : j ≡ length xs = omega arith in
      rw (e, get_or_append_left xs (x ∷ []) d i (omega arith), get_or_at xs x [] d (length xs) refl) (last i d (omega arith))
]

-- ---- adding to the classes
bool_of : (b : Bool) → (b ≡ true) ⊎ (b ≡ false)
bool_of true = inl refl
bool_of false = inr refl

-- the key stands among the classes, and the keys stay; or it doesn't, and stands last
add_cases : {X : Type 0} (same : X → X → Bool) (decides : (a b : X) → Decides (same a b) (a ≡ b)) (x : X) (n : ℕ) (cs : List (X × ℕ))
    → (Contains (keys_of cs) x × (keys_of (add_class same x n cs) ≡ keys_of cs)) ⊎ ((Contains (keys_of cs) x → ⊥) × (add_class same x n cs ≡ cs ++ (x, n) ∷ []))
add_cases same decides x n [] = inr (λ c. absurd (omega (arith, c.1)), refl)
add_cases {X} same decides x n (c ∷ cs) = elim (bool_of (same x c.0)) [
  | inl t ↦ inl ((0, omega arith, sym ((decides x c.0).0 t)), rw t refl)
  | inr f ↦ elim (add_cases same decides x n cs) [
    | inl here ↦ inl (Contains-append_right (c.0 ∷ []) (keys_of cs) x here.0, rw f (ap (λ ks. c.0 ∷ ks) here.1))
    | inr none ↦ inr (
      λ there. elim (first_or_rest c.0 (keys_of cs) x there) [
        | inl first ↦ absurd (let e = (decides x c.0).1 (sym first) in let z : true ≡ false = sym e ∙ f in cc)
        | inr rest ↦ none.0 rest
      ],
      rw f (ap (λ ks. c ∷ ks) none.1),
    )
  ]
]
  where
    first_or_rest : (k : X) (ks : List X) (y : X) → Contains (k ∷ ks) y → (k ≡ y) ⊎ Contains ks y
    first_or_rest k ks y (zero, lt, e) = inl e
    first_or_rest k ks y (suc i, lt, e) = inr (i, omega arith, e)

-- the sum over the classes after so many more
add_up-add_class : {X : Type 0} (same : X → X → Bool) (decides : (a b : X) → Decides (same a b) (a ≡ b)) (f : X → ℕ) (x : X) (n : ℕ) (cs : List (X × ℕ))
    → add_up (λ c. c.1 * f c.0) (add_class same x n cs) ≡ add_up (λ c. c.1 * f c.0) cs + n * f x
add_up-add_class same decides f x n [] = omega arith
add_up-add_class same decides f x n (c ∷ cs) = elim (bool_of (same x c.0)) [
  | inl t ↦ let k : f x ≡ f c.0 = ap f ((decides x c.0).0 t) in rw (t, k) (omega arith)
  | inr e ↦ rw e (omega (arith, add_up-add_class same decides f x n cs))
]

some_add : {X : Type 0} (same : X → X → Bool) (x : X) (n : ℕ) (cs : List (X × ℕ)) → 1 ≤ n → All (λ c. 1 ≤ c.1) cs → All (λ c. 1 ≤ c.1) (add_class same x n cs)
some_add same x n [] some all zero d lt = some
some_add same x n [] some all (suc k) d lt = absurd (omega arith)
some_add same x n (c ∷ cs) some all k d lt = by (bool_of (same x c.0)) (some_add same x n cs some (λ i e il. all (suc i) e (omega arith))) k d lt
  where
    first : All (λ c. 1 ≤ c.1) ((c.0, c.1 + n) ∷ cs)
    first zero d lt = omega arith
    first (suc k) d lt = all (suc k) d (omega arith)

    later : All (λ c. 1 ≤ c.1) (add_class same x n cs) → All (λ c. 1 ≤ c.1) (c ∷ add_class same x n cs)
    later rest zero d lt = all 0 d (omega arith)
    later rest (suc k) d lt = rest k d (omega arith)

    by : (same x c.0 ≡ true) ⊎ (same x c.0 ≡ false) → All (λ c. 1 ≤ c.1) (add_class same x n cs) → All (λ c. 1 ≤ c.1) (add_class same x n (c ∷ cs))
    by (inl t) rest = rw t first
    by (inr f) rest = rw f (later rest)

differ_add : {X : Type 0} (same : X → X → Bool) (decides : (a b : X) → Decides (same a b) (a ≡ b)) (x : X) (n : ℕ) (cs : List (X × ℕ))
    → AllPairs (λ k l. k ≢ l) (keys_of cs) → AllPairs (λ k l. k ≢ l) (keys_of (add_class same x n cs))
differ_add same decides x n cs distinct = elim (add_cases same decides x n cs) [
  | inl there ↦ rw there.1 distinct
  | inr none ↦ rw (none.1, map-append (λ c. c.0) cs ((x, n) ∷ []))
      (pairs_push (λ k l. k ≢ l) (keys_of cs) x distinct (λ i d lt e. none.0 (subst (Contains (keys_of cs)) e (Contains-get_or (keys_of cs) i d lt))))
]

pub still_classes : (key n : ℕ) (cs : List (ℕ × ℕ)) → 1 ≤ n → IsClassList cs → IsClassList (add_class nat_eq key n cs)
still_classes key n cs some is = record {
  distinct = differ_add nat_eq Decides-eqb key n cs is.distinct;
  some = some_add nat_eq key n cs some is.some;
}

-- how many items all classes have then
pub sum_add : {X : Type 0} (same : X → X → Bool) (x : X) (n : ℕ) (cs : List (X × ℕ)) → add_up (λ c. c.1) (add_class same x n cs) ≡ add_up (λ c. c.1) cs + n
sum_add same x n [] = omega arith
sum_add same x n (c ∷ cs) = elim (bool_of (same x c.0)) [
  | inl t ↦ rw t (omega arith)
  | inr f ↦ rw f (omega (arith, sum_add same x n cs))
]

pub still_kinds : (row : List ℕ) (n : ℕ) (cs : List (List ℕ × ℕ)) → 1 ≤ n → add_up (λ c. c.1) cs + n ≤ MOST_BALLOTS → AreKinds cs → AreKinds (add_class bytes_eq row n cs)
still_kinds row n cs some few are = record {
  classes = record {
    distinct = differ_add bytes_eq bytes_eq-Decides row n cs are.classes.distinct;
    some = some_add bytes_eq row n cs some are.classes.some;
  };
  few = let s = sum_add bytes_eq row n cs in omega arith;
}

-- ---- one item more
seen_more : {X : Type 0} (xs : List X) (x k l : X) → IsSeenBefore xs k l → IsSeenBefore (xs ++ x ∷ []) k l
seen_more xs x k l is = (is.0, is.1 ++ x ∷ [], ap (λ ys. ys ++ x ∷ []) is.2 ∙ append_assoc is.0 is.1 (x ∷ []), is.3, is.4)

seen_last : {X : Type 0} (xs : List X) (x k : X) → Contains xs k → (Contains xs x → ⊥) → IsSeenBefore (xs ++ x ∷ []) k x
seen_last xs x k here none = (xs, x ∷ [], refl, here, none)

pub classes_more : {X : Type 0} (same : X → X → Bool) (decides : (a b : X) → Decides (same a b) (a ≡ b)) (xs : List X) (x : X) (cs : List (X × ℕ))
    → AreClasses xs cs → AreClasses (xs ++ x ∷ []) (add_class same x 1 cs)
classes_more {X} same decides xs x cs are = record {
  keys = λ y. (λ c. into y c, λ c. out y c);
  distinct = differ_add same decides x 1 cs are.distinct;
  some = some_add same x 1 cs (omega arith) are.some;
  counted = λ f. let a = add_up-append f xs (x ∷ []) in let b = add_up-add_class same decides f x 1 cs in omega (arith, a, b, are.counted f);
  first_seen = elim (add_cases same decides x 1 cs) [
    | inl there ↦ rw there.1 (λ i j d lt within. seen_more xs x _ _ (are.first_seen i j d lt within))
    | inr none ↦ rw (none.1, map-append (λ c. c.0) cs ((x, 1) ∷ [])) (pairs_push (IsSeenBefore (xs ++ x ∷ [])) (keys_of cs) x
        (λ i j d lt within. seen_more xs x _ _ (are.first_seen i j d lt within))
        (λ i d lt. seen_last xs x _ ((are.keys _).1 (Contains-get_or (keys_of cs) i d lt)) (λ c. none.0 ((are.keys x).0 c))))
  ];
}
  where
    into : (y : X) → Contains (xs ++ x ∷ []) y → Contains (keys_of (add_class same x 1 cs)) y
    into y c = elim (add_cases same decides x 1 cs) [
      | inl there ↦ rw there.1 (elim (Contains-push_cases xs x y c) [
        | inl old ↦ (are.keys y).0 old
        | inr new ↦ subst (Contains (keys_of cs)) new there.0
      ])
      | inr none ↦ rw (none.1, map-append (λ c. c.0) cs ((x, 1) ∷ [])) (elim (Contains-push_cases xs x y c) [
        | inl old ↦ Contains-append_left (keys_of cs) (x ∷ []) y ((are.keys y).0 old)
        | inr new ↦ subst (Contains (keys_of cs ++ x ∷ [])) new (Contains-push (keys_of cs) x)
      ])
    ]

    out : (y : X) → Contains (keys_of (add_class same x 1 cs)) y → Contains (xs ++ x ∷ []) y
    out y c = elim (add_cases same decides x 1 cs) [
      | inl there ↦ Contains-append_left xs (x ∷ []) y ((are.keys y).1 (subst (λ ks. Contains ks y) there.1 c))
      | inr none ↦ elim (Contains-push_cases (keys_of cs) x y (subst (λ ks. Contains ks y) (ap keys_of none.1 ∙ map-append (λ c. c.0) cs ((x, 1) ∷ [])) c)) [
        | inl old ↦ Contains-append_left xs (x ∷ []) y ((are.keys y).1 old)
        | inr new ↦ subst (Contains (xs ++ x ∷ [])) new (Contains-push xs x)
      ]
    ]

nowhere : {X : Type 0} (x : X) → Contains [] x → ⊥
nowhere x c = omega (arith, c.1)

no_classes : {X : Type 0} → AreClasses {X = X} [] []
no_classes = record {
  keys = λ x. (λ c. absurd (nowhere x c), λ c. absurd (nowhere x c));
  distinct = λ i j d lt within. absurd (omega arith);
  some = λ i d lt. absurd (omega arith);
  counted = λ f. refl;
  first_seen = λ i j d lt within. absurd (omega arith);
}

-- ---- all items in turn
pub add_all-append : {X : Type 0} (same : X → X → Bool) (cs first second : List (X × ℕ)) → add_all same cs (first ++ second) ≡ add_all same (add_all same cs first) second
add_all-append same cs [] second = refl
add_all-append same cs (a ∷ first) second = add_all-append same (add_class same a.0 a.1 cs) first second

pub are_classes_from : {X : Type 0} (same : X → X → Bool) (decides : (a b : X) → Decides (same a b) (a ≡ b)) (done xs : List X) (cs : List (X × ℕ))
    → AreClasses done cs → AreClasses (done ++ xs) (add_all same cs (map (λ x. (x, 1)) xs))
are_classes_from same decides done [] cs are = rw (append-nil done) are
are_classes_from same decides done (x ∷ xs) cs are =
    subst (λ ys. AreClasses ys (add_all same cs (map (λ y. (y, 1)) (x ∷ xs)))) (append_assoc done (x ∷ []) xs)
    (are_classes_from same decides (done ++ x ∷ []) xs (add_class same x 1 cs) (classes_more same decides done x cs are))

pub are_classes : {X : Type 0} (same : X → X → Bool) (decides : (a b : X) → Decides (same a b) (a ≡ b)) (xs : List X) → AreClasses xs (classes_of same xs)
are_classes same decides xs = are_classes_from same decides [] xs [] no_classes

pub kinds_are_classes : (rows : List (List ℕ)) → AreClasses rows (classes_of bytes_eq rows)
kinds_are_classes rows = are_classes bytes_eq bytes_eq-Decides rows

pub keys_are_classes : (keys : List ℕ) → AreClasses keys (classes_of nat_eq keys)
keys_are_classes keys = are_classes nat_eq Decides-eqb keys

-- the sum over the classes after all of these
pub add_up-add_all : {X : Type 0} (same : X → X → Bool) (decides : (a b : X) → Decides (same a b) (a ≡ b)) (f : X → ℕ) (cs more : List (X × ℕ))
    → add_up (λ c. c.1 * f c.0) (add_all same cs more) ≡ add_up (λ c. c.1 * f c.0) cs + add_up (λ c. c.1 * f c.0) more
add_up-add_all same decides f cs [] = omega arith
add_up-add_all same decides f cs (a ∷ more) =
    omega (arith, add_up-add_all same decides f (add_class same a.0 a.1 cs) more, add_up-add_class same decides f a.0 a.1 cs)

-- how many items all classes have
pub sum-times_one : {X : Type 0} (cs : List (X × ℕ)) → add_up (λ c. c.1 * 1) cs ≡ add_up (λ c. c.1) cs
sum-times_one [] = refl
sum-times_one (c ∷ cs) = omega (arith, sum-times_one cs)

pub sum-add_all : (cs more : List (ℕ × ℕ)) → add_up (λ c. c.1) (add_all nat_eq cs more) ≡ add_up (λ c. c.1) cs + add_up (λ c. c.1) more
sum-add_all cs more =
    let a = add_up-add_all nat_eq Decides-eqb (λ _. 1) cs more in
    let b = sum-times_one (add_all nat_eq cs more) in
    omega (arith, a, b, sum-times_one cs, sum-times_one more)

-- a class has at most as many items as there are
pub count_le : {X : Type 0} (same : X → X → Bool) (x : X) (cs : List (X × ℕ)) → count_of same x cs ≤ add_up (λ c. c.1 * 1) cs
count_le same x [] = omega arith
count_le same x (c ∷ cs) = elim (bool_of (same x c.0)) [
  | inl t ↦ rw t (omega arith)
  | inr e ↦ rw e (omega (arith, count_le same x cs))
]

-- ---- what the map does
pub looked_up : {X : Type 0} (same : X → X → Bool) (x : X) (cs : List (X × ℕ)) → unwrap_or (lookup (same x) cs) 0 ≡ count_of same x cs
looked_up same x [] = refl
looked_up same x (c ∷ cs) = elim (bool_of (same x c.0)) [
  | inl t ↦ rw t refl
  | inr e ↦ rw e (looked_up same x cs)
]

-- the map's entries with this sum at the key
pub inserted : {X : Type 0} (same : X → X → Bool) (x : X) (n m : ℕ) (cs : List (X × ℕ)) → m ≡ count_of same x cs + n → insert_entry same cs x m ≡ add_class same x n cs
inserted same x n m [] is = let e : m ≡ n = omega arith in rw e refl
inserted same x n m (c ∷ cs) is = elim (bool_of (same x c.0)) [
  | inl t ↦ let e : m ≡ c.1 + n = rw t at is in rw (t, e) refl
  | inr f ↦ let e : m ≡ count_of same x cs + n = rw f at is in rw f (ap (λ r. c ∷ r) (inserted same x n m cs e))
]

-- a class that is found, with so many more
pub raised : {X : Type 0} (same : X → X → Bool) (x : X) (n v : ℕ) (cs : List (X × ℕ)) → lookup (same x) cs ≡ Some v
    → set_value (same x) cs (v + n) ≡ add_class same x n cs
raised same x n v [] at = absurd (cc (at))
raised same x n v (c ∷ cs) at = elim (bool_of (same x c.0)) [
  | inl t ↦ let found : Some c.1 ≡ Some v = rw t at at in let e : c.1 ≡ v = cc in rw (t, e) refl
  | inr f ↦ let rest : lookup (same x) cs ≡ Some v = rw f at at in rw f (ap (λ r. c ∷ r) (raised same x n v cs rest))
]

pub found_count : {X : Type 0} (same : X → X → Bool) (x : X) (v : ℕ) (cs : List (X × ℕ)) → lookup (same x) cs ≡ Some v → count_of same x cs ≡ v
found_count same x v cs at = sym (looked_up same x cs) ∙ ap (λ o. unwrap_or o 0) at

-- one that isn't stands last
pub added : {X : Type 0} (same : X → X → Bool) (x : X) (n : ℕ) (cs : List (X × ℕ)) → lookup (same x) cs ≡ None
    → insert_entry same cs x n ≡ add_class same x n cs
added same x n cs none =
    let nothing : count_of same x cs ≡ 0 = sym (looked_up same x cs) ∙ ap (λ o. unwrap_or o 0) none in
    inserted same x n n cs (omega (arith, nothing))

-- whether the ballots behind two references are equal
abbrev pub same_row : Bor (List ℕ) → Bor (List ℕ) → Bool
same_row a b = bytes_eq a.now b.now

pub seen_count : (row : Bor (List ℕ)) (es : List (Bor (List ℕ) × ℕ)) → count_of same_row row es ≡ count_of bytes_eq row.now (seen es)
seen_count row [] = refl
seen_count row (e ∷ es) = elim (bool_of (bytes_eq row.now e.0.now)) [
  | inl t ↦ rw t refl
  | inr f ↦ rw f (seen_count row es)
]

pub seen_add : (row : Bor (List ℕ)) (n : ℕ) (es : List (Bor (List ℕ) × ℕ)) → seen (add_class same_row row n es) ≡ add_class bytes_eq row.now n (seen es)
seen_add row n [] = refl
seen_add row n (e ∷ es) = elim (bool_of (bytes_eq row.now e.0.now)) [
  | inl t ↦ rw t refl
  | inr f ↦ rw f (ap (λ r. (e.0.now, e.1) ∷ r) (seen_add row n es))
]

-- the same by a reference to a ballot
pub raised_row : (row : Bor (List ℕ)) (n v : ℕ) (es : List (Bor (List ℕ) × ℕ)) → lookup (same_row row) es ≡ Some v
    → seen (set_value (same_row row) es (v + n)) ≡ add_class bytes_eq row.now n (seen es)
raised_row row n v es at = ap seen (raised same_row row n v es at) ∙ seen_add row n es

pub found_row : (row : Bor (List ℕ)) (v : ℕ) (es : List (Bor (List ℕ) × ℕ)) → lookup (same_row row) es ≡ Some v
    → count_of bytes_eq row.now (seen es) ≡ v
found_row row v es at = sym (seen_count row es) ∙ found_count same_row row v es at

pub added_row : (row : Bor (List ℕ)) (n : ℕ) (es : List (Bor (List ℕ) × ℕ)) → lookup (same_row row) es ≡ None
    → seen (insert_entry same_row es row n) ≡ add_class bytes_eq row.now n (seen es)
added_row row n es none = ap seen (added same_row row n es none) ∙ seen_add row n es

-- ---- classes of classes
-- so many items of a key that is there, and then of others
add_there : {X : Type 0} (same : X → X → Bool) (decides : (a b : X) → Decides (same a b) (a ≡ b)) (x y : X) (n m : ℕ) (cs : List (X × ℕ))
    → Contains (keys_of cs) x → add_class same x n (add_class same y m cs) ≡ add_class same y m (add_class same x n cs)
add_there same decides x y n m [] there = absurd (nowhere x there)
add_there {X} same decides x y n m (c ∷ cs) there = by (bool_of (same x c.0)) (bool_of (same y c.0)) (λ h. add_there same decides x y n m cs h)
  where
    rest_of : same x c.0 ≡ false → Contains (c.0 ∷ keys_of cs) x → Contains (keys_of cs) x
    rest_of f (zero, lt, e) = absurd (let t = (decides x c.0).1 (sym e) in let z : true ≡ false = sym t ∙ f in cc)
    rest_of f (suc i, lt, e) = (i, omega arith, e)

    by : (same x c.0 ≡ true) ⊎ (same x c.0 ≡ false) → (same y c.0 ≡ true) ⊎ (same y c.0 ≡ false)
        → (Contains (keys_of cs) x → add_class same x n (add_class same y m cs) ≡ add_class same y m (add_class same x n cs))
        → add_class same x n (add_class same y m (c ∷ cs)) ≡ add_class same y m (add_class same x n (c ∷ cs))
    by (inl t) (inl u) more = rw (t, u, t) (let e : c.1 + m + n ≡ c.1 + n + m = omega arith in ap (λ i. (c.0, i) ∷ cs) e)
    by (inl t) (inr u) more = rw (t, u, t) refl
    by (inr t) (inl u) more = rw (t, u, t) refl
    by (inr t) (inr u) more = rw (t, u, t) (ap (λ r. c ∷ r) (more (rest_of t there)))

add_twice : {X : Type 0} (same : X → X → Bool) (decides : (a b : X) → Decides (same a b) (a ≡ b)) (x : X) (n m : ℕ) (cs : List (X × ℕ))
    → add_class same x m (add_class same x n cs) ≡ add_class same x (n + m) cs
add_twice same decides x n m [] = let t = (decides x x).1 refl in rw t refl
add_twice same decides x n m (c ∷ cs) = elim (bool_of (same x c.0)) [
  | inl t ↦ rw (t, t) (let e : c.1 + n + m ≡ c.1 + (n + m) = omega arith in ap (λ i. (c.0, i) ∷ cs) e)
  | inr f ↦ rw (f, f) (ap (λ r. c ∷ r) (add_twice same decides x n m cs))
]

there_still : {X : Type 0} (same : X → X → Bool) (decides : (a b : X) → Decides (same a b) (a ≡ b)) (x y : X) (m : ℕ) (cs : List (X × ℕ))
    → Contains (keys_of cs) x → Contains (keys_of (add_class same y m cs)) x
there_still same decides x y m cs there = elim (add_cases same decides y m cs) [
  | inl here ↦ rw here.1 there
  | inr none ↦ rw (none.1, map-append (λ c. c.0) cs ((y, m) ∷ [])) (Contains-append_left (keys_of cs) (y ∷ []) x there)
]

there_now : {X : Type 0} (same : X → X → Bool) (decides : (a b : X) → Decides (same a b) (a ≡ b)) (x : X) (n : ℕ) (cs : List (X × ℕ))
    → Contains (keys_of (add_class same x n cs)) x
there_now same decides x n cs = elim (add_cases same decides x n cs) [
  | inl here ↦ rw here.1 here.0
  | inr none ↦ rw (none.1, map-append (λ c. c.0) cs ((x, n) ∷ [])) (Contains-push (keys_of cs) x)
]

there_all : {X : Type 0} (same : X → X → Bool) (decides : (a b : X) → Decides (same a b) (a ≡ b)) (x : X) (n : ℕ) (cs more : List (X × ℕ))
    → Contains (keys_of cs) x → add_class same x n (add_all same cs more) ≡ add_all same (add_class same x n cs) more
there_all same decides x n cs [] there = refl
there_all same decides x n cs (a ∷ more) there =
    there_all same decides x n (add_class same a.0 a.1 cs) more (there_still same decides x a.0 a.1 cs there)
    ∙ ap (λ r. add_all same r more) (add_there same decides x a.0 n a.1 cs there)

-- ---- a run of equal items

-- each item once
abbrev pub once : {X : Type 0} → List X → List (X × ℕ)
once xs = map (λ x. (x, 1)) xs

add_equal : {X : Type 0} (same : X → X → Bool) (decides : (a b : X) → Decides (same a b) (a ≡ b)) (x : X) (n : ℕ) (later : List X) (cs : List (X × ℕ))
    → add_all same cs (once (replicate (suc n) x ++ later)) ≡ add_all same (add_class same x (suc n) cs) (once later)
add_equal same decides x zero later cs = refl
add_equal same decides x (suc n) later cs =
    let e : 1 + suc n ≡ suc (suc n) = omega arith in
    add_equal same decides x n later (add_class same x 1 cs)
    ∙ ap (λ r. add_all same r (once later)) (add_twice same decides x 1 (suc n) cs ∙ ap (λ k. add_class same x k cs) e)

add_some : (row : List ℕ) (n : ℕ) (later : List (List ℕ)) (cs : List (List ℕ × ℕ)) → 1 ≤ n
    → add_all bytes_eq (add_class bytes_eq row n cs) (once later) ≡ add_all bytes_eq cs (once (replicate n row ++ later))
add_some row zero later cs some = absurd (omega (arith, some))
add_some row (suc n) later cs some = sym (add_equal bytes_eq bytes_eq-Decides row n later cs)

-- the kinds after a run, and the ballots that are left then
pub kinds_of_run : (old : Left) (run : Run) (new : Left) (cs : List (List ℕ × ℕ)) → IsFirstRun old run new
    → add_all bytes_eq (add_class bytes_eq run.row.now run.count cs) (once new.ballots) ≡ add_all bytes_eq cs (once old.ballots)
kinds_of_run old run new cs is =
    add_some run.row.now run.count new.ballots cs is.some ∙ ap (λ rows. add_all bytes_eq cs (once rows)) (sym is.joined)

pub map_equal : {X Y : Type 0} (f : X → Y) (n : ℕ) (x : X) (later : List X) → map f (replicate n x ++ later) ≡ replicate n (f x) ++ map f later
map_equal f zero x later = refl
map_equal f (suc n) x later = ap (λ ys. f x ∷ ys) (map_equal f n x later)

pub firsts_of_run : (old : Left) (run : Run) (new : Left) (cs : List (List ℕ × ℕ)) → IsFirstRun old run new
    → add_all bytes_eq (add_class bytes_eq (first_part run.row.now) run.count cs) (once (map first_part new.ballots)) ≡ add_all bytes_eq cs (once (map first_part old.ballots))
firsts_of_run old run new cs is =
    add_some (first_part run.row.now) run.count (map first_part new.ballots) cs is.some
    ∙ ap (λ rows. add_all bytes_eq cs (once rows)) (sym (ap (map first_part) is.joined ∙ map_equal first_part run.count run.row.now new.ballots))

-- the classes of few ballots have room for those of a run
few_at : (row : List ℕ) (n : ℕ) (cs : List (List ℕ × ℕ)) (later rows : List (List ℕ)) → add_all bytes_eq (add_class bytes_eq row n cs) (once later) ≡ classes_of bytes_eq rows
    → length rows ≤ MOST_BALLOTS → add_up (λ c. c.1) cs + n ≤ MOST_BALLOTS
few_at row n cs later rows is few =
    let all = (kinds_are_classes rows).counted (λ _. 1) in
    let rows_few = add_up-le (λ (_ : List ℕ). 1) 1 rows (λ x. omega arith) in
    let then = add_up-add_all bytes_eq bytes_eq-Decides (λ _. 1) (add_class bytes_eq row n cs) (once later) in
    let now = add_up-add_class bytes_eq bytes_eq-Decides (λ _. 1) row n cs in
    let same = ap (add_up (λ c. c.1 * 1)) is in
    omega (arith, all, rows_few, then, now, same, sum-times_one cs)

pub room_of_run : (old : Left) (run : Run) (new : Left) (cs : List (List ℕ × ℕ)) (rows : List (List ℕ)) → IsFirstRun old run new
    → add_all bytes_eq cs (once old.ballots) ≡ classes_of bytes_eq rows → length rows ≤ MOST_BALLOTS → add_up (λ c. c.1) cs + run.count ≤ MOST_BALLOTS
room_of_run old run new cs rows is counted few = few_at run.row.now run.count cs new.ballots rows (kinds_of_run old run new cs is ∙ counted) few

pub room_of_firsts : (old : Left) (run : Run) (new : Left) (cs : List (List ℕ × ℕ)) (rows : List (List ℕ)) → IsFirstRun old run new
    → add_all bytes_eq cs (once (map first_part old.ballots)) ≡ classes_of bytes_eq (map first_part rows) → length rows ≤ MOST_BALLOTS
    → add_up (λ c. c.1) cs + run.count ≤ MOST_BALLOTS
room_of_firsts old run new cs rows is counted few =
    let size = length-map rows first_part in
    few_at (first_part run.row.now) run.count cs (map first_part new.ballots) (map first_part rows) (firsts_of_run old run new cs is ∙ counted) (omega (arith, size, few))

-- ---- the classes of classes

-- the classes of classes by a key of their keys
abbrev pub regrouped : {X : Type 0} → (X → ℕ) → List (X × ℕ) → List (ℕ × ℕ)
regrouped key cs = map (λ c. (key c.0, c.1)) cs

regroup_more : {X : Type 0} (same : X → X → Bool) (decides : (a b : X) → Decides (same a b) (a ≡ b)) (key : X → ℕ) (x : X) (n : ℕ) (cs : List (ℕ × ℕ)) (kinds : List (X × ℕ))
    → add_all nat_eq cs (regrouped key (add_class same x n kinds)) ≡ add_class nat_eq (key x) n (add_all nat_eq cs (regrouped key kinds))
regroup_more same decides key x n cs [] = refl
regroup_more same decides key x n cs (k ∷ kinds) = elim (bool_of (same x k.0)) [
  | inl t ↦
      let e : key x ≡ key k.0 = ap key ((decides x k.0).0 t) in
      rw (t, e) (sym (there_all nat_eq Decides-eqb (key k.0) n (add_class nat_eq (key k.0) k.1 cs) (regrouped key kinds) (there_now nat_eq Decides-eqb (key k.0) k.1 cs)
      ∙ ap (λ r. add_all nat_eq r (regrouped key kinds)) (add_twice nat_eq Decides-eqb (key k.0) k.1 n cs)))
  | inr f ↦ rw f (regroup_more same decides key x n (add_class nat_eq (key k.0) k.1 cs) kinds)
]

regroup_from : {X : Type 0} (same : X → X → Bool) (decides : (a b : X) → Decides (same a b) (a ≡ b)) (key : X → ℕ) (kinds : List (X × ℕ)) (xs : List X)
    → add_all nat_eq [] (regrouped key (add_all same kinds (map (λ x. (x, 1)) xs))) ≡ add_all nat_eq (add_all nat_eq [] (regrouped key kinds)) (map (λ k. (k, 1)) (map key xs))
regroup_from same decides key kinds [] = refl
regroup_from same decides key kinds (x ∷ xs) =
    regroup_from same decides key (add_class same x 1 kinds) xs
    ∙ ap (λ r. add_all nat_eq r (map (λ k. (k, 1)) (map key xs))) (regroup_more same decides key x 1 [] kinds)

-- the classes of the ballots by a key of them, from the kinds
pub classes_by_kinds : (key : List ℕ → ℕ) (rows : List (List ℕ)) → add_all nat_eq [] (regrouped key (classes_of bytes_eq rows)) ≡ classes_of nat_eq (map key rows)
classes_by_kinds key rows = regroup_from bytes_eq bytes_eq-Decides key [] rows
