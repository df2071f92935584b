-- What a ballot counts in the rows of a suffix, by its signature, and the signature by its key.
use Rattle.std.proofs.Common.{◌≡◌, ◌≢◌, ℕ, zero, suc, ◌+◌, ◌-◌, ◌<◌, ◌≤◌, List, [], ◌∷◌, ◌++◌, Bool, false, Option, Some, None, cond, drop, get_or, length, map, ap, refl, sym, ◌∙◌, inl, inr, arith}
use Rattle.std.specs.Prelude.{filter, nat_le, option_map, ℤ, pos, ◌-ℤ◌, ◌*ℤ◌}
use Rattle.std.specs.List.{flat_map, range_with_len, zip}
use Rattle.std.proofs.lemmas.Bool.{cases_Bool, cases_eq, cases_lt}
use Rattle.std.proofs.lemmas.List.{length-drop, map-append}
use Rattle.std.proofs.lemmas.List.Concat.{flat_map-cons}
use Rattle.mov_base.specs.Sums.{sum_z}
use Rattle.ballot_form.specs.Ballots.{AreDistinct}
use Rattle.ballot_form.specs.Scores.{is_some_of}
use Rattle.irv_count.specs.Orders.{holder, member, stands}
use Rattle.irv_count.proofs.Members.{differ_test, same_test}
use Rattle.signature_class.specs.Signatures.{candidate_at, first_from, signature_of, suffix_key}
use Rattle.signature_class.specs.declared.limits.TheConstants.{MOST_PLACES}
use Rattle.signature_class.proofs.KeptPlaces.{Climbs, climb_same, high_out, kept_climbs, names_holders}
use Rattle.signature_class.proofs.KeyBits.{stands_bits}
use Rattle.sig_graph.specs.Paths.{IsPath, IsPathFrom, path_sum}
use Rattle.sig_graph.specs.Rows.{is_first_from, one_where}
use Rattle.goal_rows.specs.Suffixes.{hold_points, hold_weight, suffix_rows}
use Rattle.dual_bound.specs.Weighing.{places_by, row_arcs, row_places}
use Rattle.dual_bound.proofs.Keyed.{sum_z-made, worth}
use Rattle.dual_bound.proofs.PathArcs.{round_at, row_sum, rows_on_path}

-- ---- signatures are paths

climbing_path : (m u : ℕ) (places : List ℕ) → Climbs m u places → IsPathFrom m u places
climbing_path m u [] up = tt
climbing_path m u (p ∷ places) up = (up.0, up.1, climbing_path m p places up.2)

pub signature_path : (suffix ballot : List ℕ) → IsPath (length suffix) (signature_of suffix ballot)
signature_path suffix ballot = climbing_path (length suffix) 0 (signature_of suffix ballot) (kept_climbs suffix 0 ballot)

-- ---- who holds a ballot, by its signature

-- a place of m, or none
abbrev IsPlace : ℕ → Option ℕ → Type 0
IsPlace m None = Unit {0}
IsPlace m (Some p) = (1 ≤ p) × (p ≤ m)

first_place : (m u i : ℕ) (places : List ℕ) → IsPathFrom m u places → IsPlace m (first_from i places)
first_place m u i [] is = tt
first_place m u i (p ∷ places) is = elim (cases_Bool (nat_le i p)) [
  | inl here ↦ rw here (omega (arith, is.0), is.1)
  | inr later ↦ rw later (first_place m p i places is.2)
]

places_differ : (suffix : List ℕ) (k l : ℕ) → AreDistinct suffix → k < length suffix → l < length suffix → k ≢ l → get_or suffix k 0 ≡ get_or suffix l 0 → ⊥
places_differ suffix k l distinct kl ll differ e = elim (cases_lt k l) [
  | inl less ↦ distinct k l 0 less ll e
  | inr ge ↦ distinct l k 0 (omega (arith, differ, ge)) kl (sym e)
]

same_place : (suffix : List ℕ) (j : ℕ) (o : Option ℕ) → AreDistinct suffix → j < length suffix → IsPlace (length suffix) o
    → is_some_of (option_map (candidate_at suffix) o) (get_or suffix j 0) ≡ is_some_of o (j + 1)
same_place suffix j None distinct within is = refl
same_place suffix j (Some p) distinct within is = elim (cases_eq p (j + 1)) [
  | inl same ↦
      let e : p - 1 ≡ j = omega (arith, same) in
      same_test (get_or suffix (p - 1) 0) (get_or suffix j 0) (ap (λ k. get_or suffix k 0) e) ∙ sym (same_test p (j + 1) same)
  | inr differ ↦
      let apart : p - 1 ≢ j = λ e. differ (omega (arith, e, is.0)) in
      differ_test (get_or suffix (p - 1) 0) (get_or suffix j 0) (places_differ suffix (p - 1) j distinct (omega (arith, is.0, is.1)) within apart) ∙ sym (differ_test p (j + 1) differ)
]

holder_is : (suffix : List ℕ) (i : ℕ) (ballot : List ℕ) → AreDistinct suffix
    → holder (λ z. member z (drop i suffix)) ballot ≡ option_map (candidate_at suffix) (first_from (i + 1) (signature_of suffix ballot))
holder_is suffix i ballot distinct =
    let less : i + 1 - 1 ≡ i = omega arith in
    ap (λ n. holder (λ z. member z (drop n suffix)) ballot) (sym less) ∙ names_holders suffix ballot (i + 1) distinct (omega arith)

held_by : (suffix : List ℕ) (i j : ℕ) (ballot : List ℕ) → AreDistinct suffix → j < length suffix
    → hold_points (drop i suffix) (get_or suffix j 0) ballot ≡ one_where (is_first_from (i + 1) (signature_of suffix ballot) (j + 1))
held_by suffix i j ballot distinct within =
    let place = first_place (length suffix) 0 (i + 1) (signature_of suffix ballot) (signature_path suffix ballot) in
    ap (λ o. cond (is_some_of o (get_or suffix j 0)) 1 0) (holder_is suffix i ballot distinct)
    ∙ ap (λ t. cond t 1 0) (same_place suffix j (first_from (i + 1) (signature_of suffix ballot)) distinct within place)

-- ---- row by row

-- what stands at a place, and behind it
dropped : (xs : List ℕ) (a y : ℕ) (rest : List ℕ) → drop a xs ≡ y ∷ rest → (a < length xs) × (get_or xs a 0 ≡ y) × (drop (a + 1) xs ≡ rest)
dropped [] zero y rest e = cc
dropped [] (suc a) y rest e = cc
dropped (x ∷ xs) zero y rest e = (omega arith, cc, cc)
dropped (x ∷ xs) (suc a) y rest e =
    let next : suc a + 1 ≡ suc (a + 1) = omega arith in
    let is = dropped xs a y rest e in
    (omega (arith, is.0), is.1, rw next is.2)

-- what a ballot counts in rows
abbrev counts : List ℕ → List (List ℕ → ℤ) → List ℤ
counts ballot weights = map (λ weight. weight ballot) weights

weight_is : (suffix ballot : List ℕ) (k j : ℕ) → AreDistinct suffix → k < length suffix → j < length suffix
    → hold_weight (drop k suffix) (get_or suffix j 0) (get_or suffix k 0) ballot ≡ row_sum (signature_of suffix ballot) (k + 1, j + 1)
weight_is suffix ballot k j distinct kl jl =
    ap (λ n. pos n -ℤ pos (hold_points (drop k suffix) (get_or suffix k 0) ballot)) (held_by suffix k j ballot distinct jl)
    ∙ ap (λ n. pos (one_where (is_first_from (k + 1) (signature_of suffix ballot) (j + 1))) -ℤ pos n) (held_by suffix k k ballot distinct kl)

round_from : (suffix ballot : List ℕ) (k : ℕ) → AreDistinct suffix → k < length suffix → (rest : List ℕ) (a : ℕ) → drop a suffix ≡ rest
    → counts ballot (map (λ y. hold_weight (drop k suffix) y (get_or suffix k 0)) rest)
    ≡ map (row_sum (signature_of suffix ballot)) (map (λ j. (k + 1, j)) (range_with_len (a + 1) (length rest)))
round_from suffix ballot k distinct kl [] a e = refl
round_from suffix ballot k distinct kl (y ∷ rest) a e =
    let is = dropped suffix a y rest e in
    let head = ap (λ z. hold_weight (drop k suffix) z (get_or suffix k 0) ballot) (sym is.1) ∙ weight_is suffix ballot k a distinct kl is.0 in
    let tail = round_from suffix ballot k distinct kl rest (a + 1) is.2 in
    ap (λ z. z ∷ counts ballot (map (λ z. hold_weight (drop k suffix) z (get_or suffix k 0)) rest)) head
    ∙ ap (λ zs. row_sum (signature_of suffix ballot) (k + 1, a + 1) ∷ zs) tail

round_is : (suffix ballot : List ℕ) (k x : ℕ) (rest : List ℕ) → AreDistinct suffix → drop k suffix ≡ x ∷ rest
    → counts ballot (map (λ y. hold_weight (x ∷ rest) y x) rest) ≡ map (row_sum (signature_of suffix ballot)) (round_at (length suffix) (k + 1))
round_is suffix ballot k x rest distinct e =
    let is = dropped suffix k x rest e in
    let l = length-drop (k + 1) suffix in
    let n : length rest ≡ length suffix - (k + 1) = omega (arith, l, ap length is.2) in
    ap (λ z. counts ballot (map (λ y. hold_weight (x ∷ rest) y z) rest)) (sym is.1)
    ∙ ap (λ standing. counts ballot (map (λ y. hold_weight standing y (get_or suffix k 0)) rest)) (sym e)
    ∙ round_from suffix ballot k distinct is.0 rest (k + 1) is.2
    ∙ ap (λ n. map (row_sum (signature_of suffix ballot)) (map (λ j. (k + 1, j)) (range_with_len (k + 1 + 1) n))) n

rounds_from : (suffix ballot : List ℕ) → AreDistinct suffix → (rest : List ℕ) (k : ℕ) → drop k suffix ≡ rest
    → counts ballot (suffix_rows rest) ≡ map (row_sum (signature_of suffix ballot)) (flat_map (round_at (length suffix)) (range_with_len (k + 1) (length rest - 1)))
rounds_from suffix ballot distinct [] k e = refl
rounds_from suffix ballot distinct (x ∷ []) k e = refl
rounds_from suffix ballot distinct (x ∷ y ∷ rest) k e =
    let is = dropped suffix k x (y ∷ rest) e in
    let sum = row_sum (signature_of suffix ballot) in
    let rounds : ℕ → ℕ → List (ℕ × ℕ) = λ a n. flat_map (round_at (length suffix)) (range_with_len a n) in
    let n : length (x ∷ y ∷ rest) - 1 ≡ suc (length (y ∷ rest) - 1) = omega arith in
    map-append (λ (weight : List ℕ → ℤ). weight ballot) (map (λ z. hold_weight (x ∷ y ∷ rest) z x) (y ∷ rest)) (suffix_rows (y ∷ rest))
    ∙ ap (λ zs. zs ++ counts ballot (suffix_rows (y ∷ rest))) (round_is suffix ballot k x (y ∷ rest) distinct e)
    ∙ ap (λ zs. map sum (round_at (length suffix) (k + 1)) ++ zs) (rounds_from suffix ballot distinct (y ∷ rest) (k + 1) is.2)
    ∙ sym (map-append sum (round_at (length suffix) (k + 1)) (rounds (k + 1 + 1) (length (y ∷ rest) - 1)))
    ∙ ap (map sum) (sym (flat_map-cons (round_at (length suffix)) (k + 1) (range_with_len (k + 1 + 1) (length (y ∷ rest) - 1))))
    ∙ ap (λ n. map sum (rounds (k + 1) n)) (sym n)

-- what a ballot counts in the rows is what its signature brings by their arcs
pub suffix_worth : (suffix rows ballot : List ℕ) → AreDistinct suffix
    → worth rows (suffix_rows suffix) ballot ≡ path_sum (length suffix) (row_arcs (length suffix) rows) 0 (signature_of suffix ballot)
suffix_worth suffix rows ballot distinct =
    let path = signature_of suffix ballot in
    ap (λ zs. sum_z (λ v. pos v.0 *ℤ v.1) (zip rows zs)) (rounds_from suffix ballot distinct suffix 0 refl)
    ∙ sum_z-made (λ v. pos v.0 *ℤ v.1) (row_sum path) rows (row_places (length suffix))
    ∙ rows_on_path (length suffix) rows path (signature_path suffix ballot)

-- ---- the places of a key

filter_climbs : (m u n : ℕ) (test : ℕ → Bool) → u + n ≤ m → Climbs m u (filter test (range_with_len (u + 1) n))
filter_climbs m u n test within = from u (u + 1) n (omega arith) (omega (arith, within))
  where
    from : (u a n : ℕ) → u < a → a + n ≤ m + 1 → Climbs m u (filter test (range_with_len a n))
    from u a zero above fits = tt
    from u a (suc n) above fits = elim (cases_Bool (test a)) [
      | inl on ↦ rw on (above, omega (arith, fits), from a (a + 1) n (omega arith) (omega (arith, fits)))
      | inr off ↦ rw off (from u (a + 1) n (omega (arith, above)) (omega (arith, fits)))
    ]

-- who is among those of a range that pass
passing : (test : ℕ → Bool) (p a n : ℕ) → a ≤ p → p < a + n → member p (filter test (range_with_len a n)) ≡ test p
passing test p a n from to = by a n from to
  where
    below : (a n : ℕ) → p < a → member p (filter test (range_with_len a n)) ≡ false
    below a zero lt = refl
    below a (suc n) lt = elim (cases_Bool (test a)) [
      | inl on ↦ rw (on, differ_test p a (λ e. omega (arith, e, lt))) (below (a + 1) n (omega (arith, lt)))
      | inr off ↦ rw off (below (a + 1) n (omega (arith, lt)))
    ]

    by : (a n : ℕ) → a ≤ p → p < a + n → member p (filter test (range_with_len a n)) ≡ test p
    by a zero from to = absurd (omega (arith, from, to))
    by a (suc n) from to = elim (cases_eq p a) [
      | inl same ↦ elim (cases_Bool (test a)) [
        | inl on ↦ rw (on, same_test p a same) (sym on ∙ ap test (sym same))
        | inr off ↦ rw off (below (a + 1) n (omega (arith, same)) ∙ sym off ∙ ap test (sym same))
      ]
      | inr differ ↦ elim (cases_Bool (test a)) [
        | inl on ↦ rw (on, differ_test p a differ) (by (a + 1) n (omega (arith, from, differ)) (omega (arith, to)))
        | inr off ↦ rw off (by (a + 1) n (omega (arith, from, differ)) (omega (arith, to)))
      ]
    ]

pub key_places : (suffix ballot : List ℕ) → length suffix ≤ MOST_PLACES → places_by (length suffix) (suffix_key suffix ballot) ≡ signature_of suffix ballot
key_places suffix ballot few =
    let m = length suffix in
    let places = signature_of suffix ballot in
    let test : ℕ → Bool = λ p. stands (suffix_key suffix ballot) (p - 1) in
    let made = filter_climbs m 0 m test (omega arith) in
    let up = kept_climbs suffix 0 ballot in
    climb_same m 0 (filter test (range_with_len 1 m)) places made up (λ p some. elim (cases_lt m p) [
      | inl high ↦ high_out m 0 p (filter test (range_with_len 1 m)) made high ∙ sym (high_out m 0 p places up high)
      | inr low ↦
          let back : p - 1 + 1 ≡ p = omega (arith, some) in
          passing test p 1 m (omega (arith, some)) (omega (arith, low))
          ∙ stands_bits MOST_PLACES (λ k. member (k + 1) places) (p - 1) (omega (arith, low, some, few))
          ∙ ap (λ q. member q places) back
    ])
