-- Keys as sets of bits.
use Rattle.std.proofs.Common.{ℕ, zero, suc, List, [], ◌∷◌, ◌++◌, Bool, true, false, ◌≡◌, ◌<◌, ◌≤◌, ◌+◌, ◌-◌, ◌*◌}
use Rattle.std.proofs.Common.{◌/◌, ◌%◌, ◌^◌, ◌==◌, ◌∙◌, ◌⊎◌, cond, refl, sym, subst, ap, inl, inr, arith, w64}
use Rattle.std.specs.Prelude.{◌||◌}
use Rattle.std.specs.List.{range_with_len}
use Rattle.std.specs.Int.{bit_at}
use Rattle.std.specs.Int.RustNames.{bit_or}
use Rattle.std.proofs.lemmas.Bool.{cases_Bool, cases_eq, cases_lt}
use Rattle.std.proofs.lemmas.Nat.{one_shl, or_lt, pow_below, pow-add}
use Rattle.std.proofs.lemmas.Nat.Bits.{bit_at-lt, bit_at-suc, bit_at-zero, bit_at_above, bit_at_lowest}
use Rattle.std.proofs.lemmas.Nat.Bits.{bit_at_set_other, bit_at_set_same, same_from_bits_below}
use Rattle.irv_count.specs.Orders.{member, stands}
use Rattle.irv_count.proofs.Members.{differ_test, member_append, same_test}
use Rattle.mov_base.specs.Sums.{add_up}
use Rattle.signature_class.specs.Signatures.{bits_of, places_key}
use Rattle.signature_class.specs.declared.limits.TheConstants.{MOST_PLACES}

double : (i : ℕ) → 2 ^ (i + 1) ≡ 2 * 2 ^ i
double i = pow-add 2 i 1 ∙ omega arith

-- the bits from one on are twice those of the tests one further
shifted : (n i : ℕ) (test : ℕ → Bool)
    → add_up (λ k. cond (test k) (2 ^ k) 0) (range_with_len (i + 1) n) ≡ 2 * add_up (λ k. cond (test (k + 1)) (2 ^ k) 0) (range_with_len i n)
shifted zero i test = refl
shifted (suc n) i test = elim (cases_Bool (test (i + 1))) [
  | inl t ↦ rw t (omega (arith, double i, shifted n (i + 1) test))
  | inr f ↦ rw f (omega (arith, shifted n (i + 1) test))
]

-- the lowest bit, and the others
pub bits_step : (n : ℕ) (test : ℕ → Bool) → bits_of (suc n) test ≡ cond (test 0) 1 0 + 2 * bits_of n (λ k. test (k + 1))
unfolding bits_of
bits_step n test = ap (λ m. cond (test 0) 1 0 + m) (shifted n 0 test)

pub no_bits : (test : ℕ → Bool) → bits_of 0 test ≡ 0
unfolding bits_of
no_bits test = refl

pub bits_fit : (n : ℕ) (test : ℕ → Bool) → bits_of n test < 2 ^ n
bits_fit zero test = rw (no_bits test) (omega arith)
bits_fit (suc n) test =
    let ih = bits_fit n (λ k. test (k + 1)) in
    let d = double n in
    let e : suc n ≡ n + 1 = omega arith in
    rw (bits_step n test, e) (elim (cases_Bool (test 0)) [ inl t ↦ rw t (omega arith) | inr f ↦ rw f (omega arith) ])

-- which bits are set
pub stands_bits : (n : ℕ) (test : ℕ → Bool) (i : ℕ) → i < n → stands (bits_of n test) i ≡ test i
stands_bits zero test i within = absurd (omega arith)
stands_bits (suc n) test zero within =
    rw (bits_step n test, bit_at_lowest (cond (test 0) 1 0 + 2 * bits_of n (λ k. test (k + 1)))) (elim (cases_Bool (test 0)) [
      | inl t ↦ rw t (same_test ((1 + 2 * bits_of n (λ k. test (k + 1))) % 2) 1 (omega arith))
      | inr f ↦ rw f (differ_test ((0 + 2 * bits_of n (λ k. test (k + 1))) % 2) 1 (λ e. omega arith))
    ])
stands_bits (suc n) test (suc i) within =
    let half : (cond (test 0) 1 0 + 2 * bits_of n (λ k. test (k + 1))) / 2 ≡ bits_of n (λ k. test (k + 1)) =
    elim (cases_Bool (test 0)) [ inl t ↦ rw t (omega arith) | inr f ↦ rw f (omega arith) ] in
    let e : i + 1 ≡ suc i = omega arith in
    rw (bits_step n test, bit_at-suc (cond (test 0) 1 0 + 2 * bits_of n (λ k. test (k + 1))) i, half) (stands_bits n (λ k. test (k + 1)) i (omega arith) ∙ ap test e)

bit_from_stands : (a b i : ℕ) → stands a i ≡ stands b i → bit_at a i ≡ bit_at b i
bit_from_stands a b i same =
    let x = bit_at-lt a i in
    let y = bit_at-lt b i in
    elim (cases_eq (bit_at a i) 1) [
      | inl one ↦ elim (cases_eq (bit_at b i) 1) [
        | inl also ↦ omega arith
        | inr other ↦ absurd (let e : true ≡ false = sym (same_test (bit_at a i) 1 one) ∙ same ∙ differ_test (bit_at b i) 1 other in cc)
      ]
      | inr none ↦ elim (cases_eq (bit_at b i) 1) [
        | inl some ↦ absurd (let e : true ≡ false = sym (same_test (bit_at b i) 1 some) ∙ sym same ∙ differ_test (bit_at a i) 1 none in cc)
        | inr also ↦ omega arith
      ]
    ]

-- a number is known by which bits are set
pub key_is : (n key : ℕ) (test : ℕ → Bool) → key < 2 ^ n → ((i : ℕ) → i < n → stands key i ≡ test i)
    → key ≡ bits_of n test
key_is n key test fits same =
    same_from_bits_below n key (bits_of n test) fits (bits_fit n test) (λ i lt. bit_from_stands key (bits_of n test) i (same i lt ∙ sym (stands_bits n test i lt)))

pub bits_same : (n : ℕ) (test other : ℕ → Bool) → ((i : ℕ) → i < n → test i ≡ other i)
    → bits_of n test ≡ bits_of n other
bits_same n test other same = key_is n (bits_of n test) other (bits_fit n test) (λ i lt. stands_bits n test i lt ∙ same i lt)

-- bits that aren't set may be left out at the top
pub bits_unset : (m n : ℕ) (test : ℕ → Bool) → m ≤ n → ((i : ℕ) → m ≤ i → i < n → test i ≡ false)
    → bits_of m test ≡ bits_of n test
bits_unset m n test few unset =
    let fits = bits_fit m test in
    key_is n (bits_of m test) test (small (cases_lt m n)) (λ i lt. elim (cases_lt i m) [
      | inl low ↦ stands_bits m test i low
      | inr past ↦ rw (bit_at_above (bits_of m test) m i fits past) (sym (unset i past lt))
    ])
  where
    small : (m < n) ⊎ (n ≤ m) → bits_of m test < 2 ^ n
    small (inl lt) = omega (arith, bits_fit m test, pow_below m n lt)
    small (inr le) = let e : m ≡ n = omega arith in subst (λ k. bits_of m test < 2 ^ k) e (bits_fit m test)

pub bits_below : (n m : ℕ) (test : ℕ → Bool) → ((i : ℕ) → m ≤ i → test i ≡ false) → bits_of n test < 2 ^ m
bits_below n m test unset = elim (cases_lt n m) [
  | inl few ↦ omega (arith, bits_fit n test, pow_below n m few)
  | inr many ↦ rw (sym (bits_unset m n test many (λ i past lt. unset i past))) (bits_fit m test)
]

-- what equal keys tell
pub same_bits : (n : ℕ) (test other : ℕ → Bool) → bits_of n test ≡ bits_of n other → (i : ℕ) → i < n → test i ≡ other i
same_bits n test other same i lt = sym (stands_bits n test i lt) ∙ ap (λ key. stands key i) same ∙ stands_bits n other i lt

-- the number of an empty set
pub none_set : 0 ≡ bits_of MOST_PLACES (λ y. false)
none_set = key_is MOST_PLACES 0 (λ y. false) (omega arith) (λ i lt. rw (bit_at-zero i) refl)

-- one bit more
or_true : (b : Bool) → true ≡ (b || true)
or_true true = refl
or_true false = refl

or_false : (b : Bool) → b ≡ (b || false)
or_false true = refl
or_false false = refl

pub bit_more : (key k : ℕ) (set : ℕ → Bool) → k < MOST_PLACES → key ≡ bits_of MOST_PLACES set
    → bit_or key (1 * 2 ^ k % 2 ^ 64) ≡ bits_of MOST_PLACES (λ y. set y || (y == k))
bit_more key k set within is = key_is MOST_PLACES (bit_or key (1 * 2 ^ k % 2 ^ 64)) (λ y. set y || (y == k))
    (rw (one_shl k 64 (omega arith)) (or_lt MOST_PLACES key (2 ^ k) (rw is (bits_fit MOST_PLACES set)) (pow_below k MOST_PLACES within)))
    (λ y lt. elim (cases_eq y k) [
      | inl same ↦ rw (same, bit_at_set_same w64 key k (omega arith), same_test k k refl) (or_true (set k))
      | inr other ↦ rw (bit_at_set_other w64 key k (omega arith) y other, differ_test y k other)
          (ap (λ n. stands n y) is ∙ stands_bits MOST_PLACES set y lt ∙ or_false (set y))
    ])

-- a bit too high is none
pub bit_past : (key k : ℕ) (set : ℕ → Bool) → MOST_PLACES ≤ k → key ≡ bits_of MOST_PLACES set
    → key ≡ bits_of MOST_PLACES (λ y. set y || (y == k))
bit_past key k set past is = is ∙ bits_same MOST_PLACES set (λ y. set y || (y == k)) (λ y lt. rw (differ_test y k (λ e. omega arith)) (or_false (set y)))

-- the bit of one more on a list
pub key_more : (places : List ℕ) (p key new : ℕ) → 1 ≤ p
    → ((set : ℕ → Bool) → key ≡ bits_of MOST_PLACES set → new ≡ bits_of MOST_PLACES (λ y. set y || (y == p - 1)))
    → key ≡ places_key places → new ≡ places_key (places ++ p ∷ [])
key_more places p key new some more is =
    more (λ k. member (k + 1) places) is
    ∙ bits_same MOST_PLACES (λ y. member (y + 1) places || (y == p - 1)) (λ k. member (k + 1) (places ++ p ∷ []))
    (λ y lt. rw (member_append (y + 1) p places) (ap (λ b. member (y + 1) places || b) (test y)))
  where
    test : (y : ℕ) → (y == p - 1) ≡ (y + 1 == p)
    test y = elim (cases_eq y (p - 1)) [
      | inl same ↦ same_test y (p - 1) same ∙ sym (same_test (y + 1) p (omega arith))
      | inr other ↦ differ_test y (p - 1) other ∙ sym (differ_test (y + 1) p (λ e. other (omega arith)))
    ]

pub members_more : (row : List ℕ) (x key new : ℕ)
    → ((set : ℕ → Bool) → key ≡ bits_of MOST_PLACES set → new ≡ bits_of MOST_PLACES (λ y. set y || (y == x)))
    → key ≡ bits_of MOST_PLACES (λ y. member y row) → new ≡ bits_of MOST_PLACES (λ y. member y (row ++ x ∷ []))
members_more row x key new more is =
    more (λ y. member y row) is ∙ bits_same MOST_PLACES (λ y. member y row || (y == x)) (λ y. member y (row ++ x ∷ [])) (λ y lt. sym (member_append y x row))
