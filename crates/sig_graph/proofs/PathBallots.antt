-- The ballot of a path ranks each candidate once, and its signature is the path.
use Rattle.std.proofs.Common.{◌≡◌, ℕ, zero, suc, ◌+◌, ◌-◌, ◌<◌, ◌≤◌, List, [], ◌∷◌, get_or, length, take, All, sym, refl, ap, ◌∙◌, arith}
use Rattle.std.specs.Prelude.{Contains}
use Rattle.std.proofs.lemmas.Bool.{lt-ltb, eq-eqb, ne_eqb}
use Rattle.std.proofs.lemmas.List.{get_or-map, get_or-take, length-map, length-take, take_all}
use Rattle.ballot_form.specs.Ballots.{AreDistinct, IsValidBallot}
use Rattle.signature_class.specs.Signatures.{kept_from, place_from, place_in, signature_of}
use Rattle.sig_graph.specs.Paths.{ballot_of, IsPath, IsPathFrom}

distinct_rest : (x : ℕ) (row : List ℕ) → AreDistinct (x ∷ row) → AreDistinct row
distinct_rest x row distinct = λ i j d lt within. distinct (suc i) (suc j) d (omega arith) (omega arith)

-- the place of the candidate at k, where the first has the place i
place_from-at : (i : ℕ) (suffix : List ℕ) (k : ℕ) → AreDistinct suffix → k < length suffix →
    place_from i suffix (get_or suffix k 0) ≡ i + k
place_from-at i [] k distinct within = absurd (omega arith)
place_from-at i (y ∷ suffix) zero distinct within = rw (eq-eqb y y refl) (omega arith)
place_from-at i (y ∷ suffix) (suc k) distinct within =
    let later = place_from-at (i + 1) suffix k (distinct_rest y suffix distinct) (omega arith) in
    rw (ne_eqb y (get_or suffix k 0) (distinct 0 (suc k) 0 (omega arith) within)) (omega (arith, later))

-- the candidate at a place has it
place_in-at : (suffix : List ℕ) (p : ℕ) → AreDistinct suffix → 1 ≤ p → p ≤ length suffix →
    place_in suffix (get_or suffix (p - 1) 0) ≡ p
place_in-at suffix p distinct some within = omega (arith, place_from-at 1 suffix (p - 1) distinct (omega arith))

kept-ballot : (suffix : List ℕ) (u : ℕ) (path : List ℕ) → AreDistinct suffix → IsPathFrom (length suffix) u path →
    kept_from suffix u (ballot_of suffix path) ≡ path
kept-ballot suffix u [] distinct is = refl
kept-ballot suffix u (x ∷ path) distinct is =
    let place = place_in-at suffix x distinct (omega (arith, is.0)) is.1 in
    let later = kept-ballot suffix x path distinct is.2 in
    rw (place, lt-ltb u x is.0) (ap (λ ps. x ∷ ps) later)

pub signature-ballot : (suffix path : List ℕ) → AreDistinct suffix → IsPath (length suffix) path →
    signature_of suffix (ballot_of suffix path) ≡ path
signature-ballot suffix path distinct is = kept-ballot suffix 0 path distinct is

-- ---- a valid ballot

-- each place is one of the suffix
path_within : (m u : ℕ) (path : List ℕ) (k : ℕ) → IsPathFrom m u path → k < length path →
    (u < get_or path k 0) × (get_or path k 0 ≤ m)
path_within m u [] k is within = absurd (omega arith)
path_within m u (x ∷ path) zero is within = (is.0, is.1)
path_within m u (x ∷ path) (suc k) is within =
    let later = path_within m x path k is.2 (omega arith) in
    (omega (arith, is.0, later.0), later.1)

-- and places ascend
path_ascends : (m u : ℕ) (path : List ℕ) (j k : ℕ) → IsPathFrom m u path → j < k → k < length path →
    get_or path j 0 < get_or path k 0
path_ascends m u [] j k is lt within = absurd (omega arith)
path_ascends m u (x ∷ path) j zero is lt within = absurd (omega arith)
path_ascends m u (x ∷ path) zero (suc k) is lt within = (path_within m x path k is.2 (omega arith)).0
path_ascends m u (x ∷ path) (suc j) (suc k) is lt within = path_ascends m x path j k is.2 (omega arith) (omega arith)

ballot-at : (suffix path : List ℕ) (k d : ℕ) → k < length path →
    get_or (ballot_of suffix path) k d ≡ get_or suffix (get_or path k 0 - 1) 0
ballot-at suffix path k d within = get_or-map (λ p. get_or suffix (p - 1) 0) path k 0 d within

length-ballot : (suffix path : List ℕ) → length (ballot_of suffix path) ≡ length path
length-ballot suffix path = length-map path (λ p. get_or suffix (p - 1) 0)

pub ballot_is_distinct : (suffix path : List ℕ) → AreDistinct suffix → IsPath (length suffix) path →
    AreDistinct (ballot_of suffix path)
ballot_is_distinct suffix path distinct is = λ i j d lt within.
    let long = length-ballot suffix path in
    let p = get_or path i 0 in
    let q = get_or path j 0 in
    let first = path_within (length suffix) 0 path i is (omega (arith, long)) in
    let second = path_within (length suffix) 0 path j is (omega (arith, long)) in
    let up = path_ascends (length suffix) 0 path i j is lt (omega (arith, long)) in
    let ne = distinct (p - 1) (q - 1) 0 (omega (arith, first, second, up)) (omega (arith, first, second)) in
    λ e. ne (sym (ballot-at suffix path i d (omega (arith, long))) ∙ e
    ∙ ballot-at suffix path j d (omega (arith, long)))

pub ballot_is_valid : (c : ℕ) (suffix path : List ℕ) → AreDistinct suffix → IsPath (length suffix) path →
    All (λ x. x < c) suffix → IsValidBallot c (ballot_of suffix path)
ballot_is_valid c suffix path distinct is below = record {
  below = all;
  distinct = ballot_is_distinct suffix path distinct is;
} where
  all : All (λ x. x < c) (ballot_of suffix path)
  all k d within =
      let at : k < length path = omega (arith, length-ballot suffix path) in
      let place = path_within (length suffix) 0 path k is at in
      let one = below (get_or path k 0 - 1) 0 (omega (arith, place)) in
      rw (ballot-at suffix path k d at) one

-- the next candidate is not yet on the ballot
pub next_is_new : (suffix path : List ℕ) (i : ℕ) → AreDistinct suffix → IsPath (length suffix) path → i < length path →
    Contains (ballot_of suffix (take i path)) (get_or suffix (get_or path i 0 - 1) 0) → ⊥
next_is_new suffix path i distinct is within found =
    let few = length-ballot suffix (take i path) in
    let shorter = length-take i path in
    let k = found.0 in
    let lt : k < i = omega (arith, few, shorter, found.1) in
    let long = length-ballot suffix path in
    let here = ballot-at suffix path k 0 (omega (arith, lt, within)) in
    let front = ballot-at suffix (take i path) k (get_or suffix (get_or path i 0 - 1) 0)
    (omega (arith, few, found.1)) in
    let same = ap (λ p. get_or suffix (p - 1) 0) (get_or-take i path k 0 lt) in
    let last = ballot-at suffix path i 0 within in
    ballot_is_distinct suffix path distinct is k i 0 lt (omega (arith, long, within))
    (here ∙ sym same ∙ sym front ∙ found.2 ∙ sym last)

-- a candidate at a place of the path
pub candidate_within : (m : ℕ) (path : List ℕ) (i : ℕ) → IsPath m path → i < length path →
    (1 ≤ get_or path i 0) × (get_or path i 0 ≤ m)
candidate_within m path i is within = path_within m 0 path i is within

-- at the end of the path the ballot is whole
pub ballot_is_whole : (suffix path ballot : List ℕ) (i : ℕ) → ballot ≡ ballot_of suffix (take i path) →
    length path ≤ i → ballot ≡ ballot_of suffix path
ballot_is_whole suffix path ballot i is past = is ∙ ap (ballot_of suffix) (take_all i path past)
