-- Ballots up to a candidate, and what the key of a cover tells.
use Rattle.std.proofs.Common.{ℕ, suc, List, [], ◌∷◌, ◌++◌, Option, Some, None, All, Bool, true, false, ◌≡◌, ◌≢◌}
use Rattle.std.proofs.Common.{◌<◌, ◌≤◌, ◌+◌, ◌^◌, ◌==◌, ◌∙◌, length, take, drop, get_or, refl, sym, ap, inl, inr}
use Rattle.std.proofs.Common.{append_assoc, arith}
use Rattle.std.specs.Prelude.{not, ◌&&◌, option_map, IfSome}
use Rattle.std.proofs.lemmas.Bool.{cases_eq, cases_lt, le-ltb, lt-ltb}
use Rattle.std.proofs.lemmas.List.{drop_more, take_more}
use Rattle.irv_count.specs.Orders.{member}
use Rattle.irv_count.proofs.Members.{differ_test, same_test}
use Rattle.ballot_form.specs.Scores.{place_of}
use Rattle.condorcet_count.specs.Preferences.{comes_before, prefers}
use Rattle.signature_class.specs.Signatures.{HaveBits, cover_key, up_to}
use Rattle.signature_class.specs.declared.limits.TheConstants.{MOST_PLACES}
use Rattle.signature_class.proofs.KeyBits.{bits_below, same_bits}

-- at the candidate the part ends
pub up_to_here : (x i : ℕ) (row : List ℕ) → i < length row → get_or row i 0 ≡ x
    → take i row ++ get_or row i 0 ∷ [] ≡ take i row ++ up_to x (drop i row)
up_to_here x i row within here =
    rw (drop_more row i 0 within, same_test (get_or row i 0) x here) refl

-- at another one it goes on
pub up_to_later : (x i : ℕ) (row : List ℕ) → i < length row → get_or row i 0 ≢ x
    → take (i + 1) row ++ up_to x (drop (i + 1) row) ≡ take i row ++ up_to x (drop i row)
up_to_later x i row within other =
    rw (drop_more row i 0 within, differ_test (get_or row i 0) x other, take_more row i 0 within) (append_assoc (take i row) (get_or row i 0 ∷ []) (up_to x (drop (i + 1) row)))

-- ---- who is preferred, by the part up to a candidate

none_before_first : (o : Option ℕ) → comes_before (option_map suc o) (Some 1) ≡ false
none_before_first None = refl
none_before_first (Some p) = le-ltb (suc p) 1 (omega arith)

-- places of a ballot are from 1
place_some : (x : ℕ) (ballot : List ℕ) → IfSome (place_of x ballot) (λ p. 1 ≤ p)
place_some x [] = tt
place_some x (y ∷ ballot) = elim (cases_eq y x) [
  | inl same ↦ rw (same_test y x same) (omega arith)
  | inr other ↦ rw (differ_test y x other) (next (place_of x ballot))
]
  where
    next : (o : Option ℕ) → IfSome (option_map suc o) (λ p. 1 ≤ p)
    next None = tt
    next (Some p) = omega arith

first_before_others : (o : Option ℕ) → IfSome o (λ p. 1 ≤ p) → comes_before (Some 1) (option_map suc o) ≡ true
first_before_others None some = refl
first_before_others (Some p) some = lt-ltb 1 (suc p) (omega arith)

both_later : (o p : Option ℕ) → comes_before (option_map suc o) (option_map suc p) ≡ comes_before o p
both_later None p = refl
both_later (Some a) None = refl
both_later (Some a) (Some b) = elim (cases_lt a b) [
  | inl lt ↦ lt-ltb (suc a) (suc b) (omega arith) ∙ sym (lt-ltb a b lt)
  | inr le ↦ le-ltb (suc a) (suc b) (omega arith) ∙ sym (le-ltb a b le)
]

-- preferred to x is who stands up to x, and isn't x
pub preferred_over : (x j : ℕ) (ballot : List ℕ) → prefers ballot j x ≡ (member j (up_to x ballot) && not (j == x))
preferred_over x j [] = refl
preferred_over x j (z ∷ ballot) = elim (cases_eq z x) [
  | inl at ↦ elim (cases_eq z j) [
    | inl also ↦ rw (same_test z x at, same_test z j also, same_test j z (sym also), same_test j x (sym also ∙ at)) (le-ltb 1 1 (omega arith))
    | inr other ↦ rw (same_test z x at, differ_test z j other, differ_test j z (λ e. other (sym e))) (none_before_first (place_of j ballot))
  ]
  | inr past ↦ elim (cases_eq z j) [
    | inl here ↦ rw (differ_test z x past, same_test z j here, same_test j z (sym here), differ_test j x (λ e. past (here ∙ e)))
        (first_before_others (place_of x ballot) (place_some x ballot))
    | inr other ↦ rw (differ_test z x past, differ_test z j other, differ_test j z (λ e. other (sym e)))
        (both_later (place_of j ballot) (place_of x ballot) ∙ preferred_over x j ballot)
  ]
]

-- x is preferred to those who don't stand up to it, where it is ranked
pub preferred_to : (x j : ℕ) (ballot : List ℕ)
    → prefers ballot x j ≡ (member x (up_to x ballot) && not (member j (up_to x ballot)))
preferred_to x j [] = refl
preferred_to x j (z ∷ ballot) = elim (cases_eq z x) [
  | inl at ↦ elim (cases_eq z j) [
    | inl also ↦ rw (same_test z x at, same_test z j also, same_test x z (sym at), same_test j z (sym also)) (le-ltb 1 1 (omega arith))
    | inr other ↦ rw (same_test z x at, differ_test z j other, same_test x z (sym at), differ_test j z (λ e. other (sym e)))
        (first_before_others (place_of j ballot) (place_some j ballot))
  ]
  | inr past ↦ elim (cases_eq z j) [
    | inl here ↦ rw (differ_test z x past, same_test z j here, differ_test x z (λ e. past (sym e)), same_test j z (sym here))
        (none_before_first (place_of x ballot) ∙ sym (nothing (member x (up_to x ballot))))
    | inr other ↦ rw (differ_test z x past, differ_test z j other, differ_test x z (λ e. past (sym e)), differ_test j z (λ e. other (sym e)))
        (both_later (place_of x ballot) (place_of j ballot) ∙ preferred_to x j ballot)
  ]
]
  where
    nothing : (b : Bool) → (b && false) ≡ false
    nothing true = refl
    nothing false = refl

-- ---- equal keys

unranked : (c x y : ℕ) (ballot : List ℕ) → All (λ z. z < c) ballot → c ≤ y → member y (up_to x ballot) ≡ false
unranked c x y [] below high = refl
unranked c x y (z ∷ ballot) below high =
    let first = below 0 0 (omega arith) in
    let differ : (y == z) ≡ false = differ_test y z (λ e. omega arith) in
    elim (cases_eq z x) [
      | inl at ↦ rw (same_test z x at, differ) refl
      | inr past ↦ rw (differ_test z x past, differ) (unranked c x y ballot (λ k d lt. below (suc k) d (omega arith)) high)
    ]

same_part : (x : ℕ) (ballot other : List ℕ) → HaveBits ballot → HaveBits other → cover_key x ballot ≡ cover_key x other
    → (y : ℕ) → member y (up_to x ballot) ≡ member y (up_to x other)
same_part x ballot other below also same y = elim (cases_lt y MOST_PLACES) [
  | inl low ↦ same_bits MOST_PLACES (λ z. member z (up_to x ballot)) (λ z. member z (up_to x other)) same y low
  | inr high ↦ unranked MOST_PLACES x y ballot below high ∙ sym (unranked MOST_PLACES x y other also high)
]

pub cover_tells_over : (x j : ℕ) (ballot other : List ℕ) → HaveBits ballot → HaveBits other
    → cover_key x ballot ≡ cover_key x other → prefers ballot j x ≡ prefers other j x
cover_tells_over x j ballot other below also same =
    preferred_over x j ballot ∙ ap (λ b. b && not (j == x)) (same_part x ballot other below also same j) ∙ sym (preferred_over x j other)

pub cover_tells_under : (x j : ℕ) (ballot other : List ℕ) → HaveBits ballot → HaveBits other
    → cover_key x ballot ≡ cover_key x other → prefers ballot x j ≡ prefers other x j
cover_tells_under x j ballot other below also same =
    preferred_to x j ballot
    ∙ ap (λ b. b && not (member j (up_to x ballot))) (same_part x ballot other below also same x)
    ∙ ap (λ b. member x (up_to x other) && not b) (same_part x ballot other below also same j)
    ∙ sym (preferred_to x j other)

-- ---- how large a key is
pub cover_key_below : (c x : ℕ) (ballot : List ℕ) → All (λ y. y < c) ballot → cover_key x ballot < 2 ^ c
cover_key_below c x ballot below = bits_below MOST_PLACES c (λ y. member y (up_to x ballot)) (λ y past. unranked c x y ballot below past)
