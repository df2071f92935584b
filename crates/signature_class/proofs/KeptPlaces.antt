-- The places that a ballot keeps: a signature.
use Rattle.std.proofs.Common.{ℕ, suc, List, [], ◌∷◌, Some, true, false, ◌≡◌, ◌<◌, ◌≤◌, ◌+◌, ◌-◌, ◌∙◌, ◌++◌, length}
use Rattle.std.proofs.Common.{drop, get_or, leb, map, All, refl, sym, ap, inl, inr, arith}
use Rattle.std.specs.Prelude.{AllPairs, find, option_map}
use Rattle.std.proofs.lemmas.Bool.{cases_lt, cases_order, lt-ltb, le-ltb, le-leb, lt-leb}
use Rattle.std.proofs.lemmas.List.{get_or_at, length-append}
use Rattle.std.proofs.lemmas.List.Elements.{All-cons, All-nil, All-weaker}
use Rattle.std.proofs.lemmas.List.Kept.{AllPairs-cons}
use Rattle.ballot_form.specs.Ballots.{AreDistinct}
use Rattle.irv_count.specs.Orders.{holder, member}
use Rattle.irv_count.proofs.Members.{differ_test, same_test}
use Rattle.signature_class.specs.Signatures.{ArePlaces, candidate_at, first_from, kept_from, place_in, signature_of}
use Rattle.signature_class.specs.Signatures.{stands_in_round}
use Rattle.signature_class.proofs.SuffixPlaces.{candidate_of_place, later_places, place_le, place_of_candidate}

-- each is above u and those before it, and at most m
abbrev pub Climbs : ℕ → ℕ → List ℕ → Type 0
Climbs m u [] = Unit {0}
Climbs m u (p ∷ places) = (u < p) × (p ≤ m) × Climbs m p places

pub climb_above : (m u : ℕ) (places : List ℕ) → Climbs m u places → All (λ p. u < p) places
climb_above m u [] up = All-nil (λ p. u < p)
climb_above m u (p ∷ places) up =
    let first = up.0 in
    All-cons (λ q. u < q) p places first (All-weaker (λ q. p < q) (λ q. u < q) (λ q above. omega arith) places (climb_above m p places up.2))

pub climb_within : (m u : ℕ) (places : List ℕ) → Climbs m u places → All (λ p. (1 ≤ p) × (p ≤ m)) places
climb_within m u [] up = All-nil (λ p. (1 ≤ p) × (p ≤ m))
climb_within m u (p ∷ places) up =
    let first = up.0 in
    All-cons (λ q. (1 ≤ q) × (q ≤ m)) p places (omega arith, up.1) (climb_within m p places up.2)

pub climb_ascends : (m u : ℕ) (places : List ℕ) → Climbs m u places → AllPairs (λ p q. p < q) places
climb_ascends m u [] up = λ i j d before within. absurd (omega arith)
climb_ascends m u (p ∷ places) up = AllPairs-cons (λ a b. a < b) p places (climb_above m p places up.2) (climb_ascends m p places up.2)

pub places_climbing : (m : ℕ) (places : List ℕ) → Climbs m 0 places → ArePlaces m places
places_climbing m places up = record { within = climb_within m 0 places up; ascending = climb_ascends m 0 places up }

-- the other way round
climb_from : (m u : ℕ) (places : List ℕ) → All (λ p. u < p) places → All (λ p. (1 ≤ p) × (p ≤ m)) places
    → AllPairs (λ p q. p < q) places → Climbs m u places
climb_from m u [] above within ascending = tt
climb_from m u (p ∷ places) above within ascending = (
  above 0 0 (omega arith),
  (within 0 0 (omega arith)).1,
  climb_from m p places (λ k d lt. ascending 0 (suc k) d (omega arith) (omega arith)) (λ k d lt. within (suc k) d (omega arith))
      (λ i j d before inside. ascending (suc i) (suc j) d (omega arith) (omega arith)),
)

pub climb_of_places : (m : ℕ) (places : List ℕ) → ArePlaces m places → Climbs m 0 places
climb_of_places m places are = climb_from m 0 places (λ k d lt. let w = (are.within k d lt).0 in omega arith) are.within are.ascending

-- ---- a signature
pub kept_climbs : (suffix : List ℕ) (m : ℕ) (ballot : List ℕ) → Climbs (length suffix) m (kept_from suffix m ballot)
kept_climbs suffix m [] = tt
kept_climbs suffix m (x ∷ ballot) = elim (cases_lt m (place_in suffix x)) [
  | inl up ↦ rw (lt-ltb m (place_in suffix x) up) (up, place_le suffix x, kept_climbs suffix (place_in suffix x) ballot)
  | inr down ↦ rw (le-ltb m (place_in suffix x) down) (kept_climbs suffix m ballot)
]

pub signature_places : (suffix ballot : List ℕ) → ArePlaces (length suffix) (signature_of suffix ballot)
signature_places suffix ballot = places_climbing (length suffix) (signature_of suffix ballot) (kept_climbs suffix 0 ballot)

climb_length : (m u : ℕ) (places : List ℕ) → u ≤ m → Climbs m u places → u + length places ≤ m
climb_length m u [] from up = omega arith
climb_length m u (p ∷ places) from up = let first = up.0 in let ih = climb_length m p places up.1 up.2 in omega arith

-- there are no more places than candidates
pub signature_few : (suffix ballot : List ℕ) → length (signature_of suffix ballot) ≤ length suffix
signature_few suffix ballot = let l = climb_length (length suffix) 0 (signature_of suffix ballot) (omega arith) (kept_climbs suffix 0 ballot) in omega arith

-- each is at least 1
pub kept_some : (suffix ballot before : List ℕ) (p : ℕ) (later : List ℕ)
    → before ++ p ∷ later ≡ signature_of suffix ballot → 1 ≤ p
kept_some suffix ballot before p later is =
    let long = length-append before (p ∷ later) in
    let same = ap length is in
    let some = ((signature_places suffix ballot).within (length before) 0 (omega arith)).0 in
    let here : get_or (signature_of suffix ballot) (length before) 0 ≡ p = ap (λ ps. get_or ps (length before) 0) (sym is) ∙ get_or_at before p later 0 (length before) refl in
    omega (arith, some, here)

-- ---- lists that climb, by their members
low_out : (m u p : ℕ) (places : List ℕ) → Climbs m u places → p ≤ u → member p places ≡ false
low_out m u p [] up low = refl
low_out m u p (q ∷ places) up low =
    let above = up.0 in
    rw (differ_test p q (λ e. omega arith)) (low_out m q p places up.2 (omega arith))

pub high_out : (m u p : ℕ) (places : List ℕ) → Climbs m u places → m < p → member p places ≡ false
high_out m u p [] up high = refl
high_out m u p (q ∷ places) up high =
    let most = up.1 in
    rw (differ_test p q (λ e. omega arith)) (high_out m q p places up.2 high)

-- one that the other list can't have
only_here : (m u p q : ℕ) (places others : List ℕ) → Climbs m u (q ∷ others) → p < q
    → member p (p ∷ places) ≡ member p (q ∷ others) → ⊥
only_here m u p q places others up before same =
    let out : member p (q ∷ others) ≡ false = rw (differ_test p q (λ e. omega arith)) (low_out m q p others up.2 (omega arith)) in
    let on : member p (p ∷ places) ≡ true = rw (same_test p p refl) refl in
    let e : true ≡ false = sym on ∙ same ∙ out in cc

pub climb_same : (m u : ℕ) (places others : List ℕ) → Climbs m u places → Climbs m u others
    → ((p : ℕ) → u < p → member p places ≡ member p others) → places ≡ others
climb_same m u [] [] up also same = refl
climb_same m u [] (q ∷ others) up also same =
    absurd (let on : member q (q ∷ others) ≡ true = rw (same_test q q refl) refl in let e : false ≡ true = same q also.0 ∙ on in cc)
climb_same m u (p ∷ places) [] up also same =
    absurd (let on : member p (p ∷ places) ≡ true = rw (same_test p p refl) refl in let e : true ≡ false = sym on ∙ same p up.0 in cc)
climb_same m u (p ∷ places) (q ∷ others) up also same = elim (cases_order p q) [
  | inl e ↦
      let rest : Climbs m p others = rw e also.2 in
      let ih = climb_same m p places others up.2 rest (λ r above.
      let here = up.0 in
      let t = same r (omega arith) in
      rw (differ_test r p (λ at. omega arith), differ_test r q (λ at. omega arith)) at t) in
      rw (e, ih) refl
  | inr differ ↦ elim differ [
    | inl below ↦ absurd (only_here m u p q places others also below (same p up.0))
    | inr above ↦ absurd (only_here m u q p others places up above (sym (same q also.0)))
  ]
]

-- ---- who holds a ballot
holds_from : (suffix : List ℕ) (j m : ℕ) (ballot : List ℕ) → AreDistinct suffix → m ≤ j
    → find (λ x. member x (drop j suffix)) ballot ≡ option_map (candidate_at suffix) (find (λ p. leb (j + 1) p) (kept_from suffix m ballot))
holds_from suffix j m [] distinct below = refl
holds_from suffix j m (x ∷ ballot) distinct below = elim (cases_lt j (place_in suffix x)) [
  | inl stands ↦
      let on : member x (drop j suffix) ≡ true = later_places suffix 1 j x distinct (omega arith) ∙ lt-ltb (1 + j - 1) (place_in suffix x) (omega arith) in
      rw (on, lt-ltb m (place_in suffix x) (omega arith), le-leb (j + 1) (place_in suffix x) (omega arith)) (ap Some (sym (candidate_of_place suffix x (omega arith))))
  | inr gone ↦
      let off : member x (drop j suffix) ≡ false = later_places suffix 1 j x distinct (omega arith) ∙ le-ltb (1 + j - 1) (place_in suffix x) (omega arith) in
      rw off (elim (cases_lt m (place_in suffix x)) [
        | inl kept ↦ rw (lt-ltb m (place_in suffix x) kept, lt-leb (j + 1) (place_in suffix x) (omega arith)) (holds_from suffix j (place_in suffix x) ballot distinct gone)
        | inr passed ↦ rw (le-ltb m (place_in suffix x) passed) (holds_from suffix j m ballot distinct below)
      ])
]

pub names_holders : (suffix ballot : List ℕ) (i : ℕ) → AreDistinct suffix → 1 ≤ i
    → holder (stands_in_round suffix i) ballot ≡ option_map (candidate_at suffix) (first_from i (signature_of suffix ballot))
names_holders suffix ballot i distinct some =
    let e : i - 1 + 1 ≡ i = omega arith in
    holds_from suffix (i - 1) 0 ballot distinct (omega arith) ∙ ap (λ n. option_map (candidate_at suffix) (find (λ p. leb n p) (signature_of suffix ballot))) e

-- ---- a list of places as a ballot
own_from : (suffix : List ℕ) (m : ℕ) (places : List ℕ) → AreDistinct suffix → Climbs (length suffix) m places
    → kept_from suffix m (map (candidate_at suffix) places) ≡ places
own_from suffix m [] distinct up = refl
own_from suffix m (p ∷ places) distinct up =
    let above = up.0 in
    rw (place_of_candidate suffix p distinct (omega arith) up.1, lt-ltb m p above) (ap (λ ps. p ∷ ps) (own_from suffix p places distinct up.2))

pub own_signature : (suffix places : List ℕ) → AreDistinct suffix → ArePlaces (length suffix) places
    → signature_of suffix (map (candidate_at suffix) places) ≡ places
own_signature suffix places distinct are = own_from suffix 0 places distinct (climb_of_places (length suffix) places are)
