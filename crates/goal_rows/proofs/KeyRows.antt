-- The values of the rows of a suffix or a cover, from the classes of the ballots by their keys.
use Rattle.std.proofs.Common.{ℕ, zero, suc, List, [], ◌∷◌, ◌++◌, Bool, true, false, Option, Some, None, ◌≡◌, ◌≢◌, ◌<◌, ◌≤◌, ◌+◌, ◌-◌, ◌∙◌, cond, length, get_or, map, drop, ap, sym, refl, subst, inl, inr, arith}
use Rattle.std.specs.Prelude.{◌==◌, ◌&&◌, not, nat_eq, nat_le, find, option_map, AllPairs, Contains, ℤ, pos, ◌-ℤ◌}
use Rattle.std.specs.List.{flat_map, range_with_len}
use Rattle.std.proofs.lemmas.Bool.{cases_eq, cases_lt}
use Rattle.std.proofs.lemmas.Bool.Decides.{nat_tests}
use Rattle.std.proofs.lemmas.List.{length-drop, map-append}
use Rattle.std.proofs.lemmas.List.Concat.{flat_map-cons}
use Rattle.mov_base.specs.Sums.{add_up, sum_z}
use Rattle.mov_base.proofs.Signed.{sum_z-difference}
use Rattle.mov_base.proofs.Sums.{add_up-map}
use Rattle.ballot_form.specs.Ballots.{AreDistinct}
use Rattle.ballot_form.specs.Scores.{is_some_of}
use Rattle.condorcet_count.specs.Preferences.{prefers}
use Rattle.irv_count.specs.Orders.{holder, member, stands}
use Rattle.irv_count.proofs.Members.{differ_test, member_at, or_true, same_test}
use Rattle.signature_class.specs.Classes.{classes_of}
use Rattle.signature_class.specs.Signatures.{ArePlaces, candidate_at, cover_key, first_from, signature_of, suffix_key, up_to}
use Rattle.signature_class.specs.declared.limits.TheConstants.{MOST_PLACES}
use Rattle.signature_class.proofs.Counts.{keys_are_classes}
use Rattle.signature_class.proofs.Covers.{preferred_over, preferred_to}
use Rattle.signature_class.proofs.KeptPlaces.{names_holders, signature_places}
use Rattle.signature_class.proofs.KeyBits.{stands_bits}
use Rattle.goal_rows.specs.KeyCounts.{counted_by, cover_values, first_bit, is_held, is_over, lead_by, round_values, suffix_values}
use Rattle.goal_rows.specs.Suffixes.{cover_rows, hold_points, hold_weight, others, prefer_points, prefer_weight, suffix_rows}
use Rattle.goal_rows.proofs.Lists.{is_other, other_is, those_are}

-- ---- sums over the classes

sum_same : {A : Type 0} (f g : A → ℕ) (xs : List A) → ((x : A) → f x ≡ g x) → add_up f xs ≡ add_up g xs
sum_same f g [] same = refl
sum_same f g (x ∷ xs) same = omega (arith, same x, sum_same f g xs same)

class_count : (key : List ℕ → ℕ) (test : ℕ → Bool) (points : List ℕ → ℕ) (ballots : List (List ℕ)) → ((ballot : List ℕ) → points ballot ≡ cond (test (key ballot)) 1 0)
    → counted_by test (classes_of nat_eq (map key ballots)) ≡ add_up points ballots
class_count key test points ballots same =
    sym ((keys_are_classes (map key ballots)).counted (λ k. cond (test k) 1 0))
    ∙ add_up-map (λ k. cond (test k) 1 0) key ballots
    ∙ sym (sum_same points (λ ballot. cond (test (key ballot)) 1 0) ballots same)

lead_sum : (key : List ℕ → ℕ) (more less : ℕ → Bool) (f g : List ℕ → ℕ) (ballots : List (List ℕ)) → ((ballot : List ℕ) → f ballot ≡ cond (more (key ballot)) 1 0)
    → ((ballot : List ℕ) → g ballot ≡ cond (less (key ballot)) 1 0)
    → lead_by more less (classes_of nat_eq (map key ballots)) ≡ sum_z (λ ballot. pos (f ballot) -ℤ pos (g ballot)) ballots
lead_sum key more less f g ballots same also =
    ap (λ n. pos n -ℤ pos (counted_by less (classes_of nat_eq (map key ballots)))) (class_count key more f ballots same)
    ∙ ap (λ n. pos (add_up f ballots) -ℤ pos n) (class_count key less g ballots also)
    ∙ sym (sum_z-difference f g ballots)

-- ---- the first place from one on

abbrev IsFirstFrom : ℕ → List ℕ → Option ℕ → Type 0
IsFirstFrom i places None = (q : ℕ) → member q places ≡ true → q < i
IsFirstFrom i places (Some p) = (member p places ≡ true) × (i ≤ p) × ((q : ℕ) → member q places ≡ true → i ≤ q → p ≤ q)

among_rest : (q x : ℕ) (places : List ℕ) → q ≢ x → member q (x ∷ places) ≡ true → member q places ≡ true
among_rest q x places differ on = rw (differ_test q x differ) at on

past_one : (i x : ℕ) (places : List ℕ) (o : Option ℕ) → x < i → IsFirstFrom i places o → IsFirstFrom i (x ∷ places) o
past_one i x places None less is = λ q on. elim (cases_eq q x) [ inl same ↦ omega (arith, same) | inr differ ↦ is q (among_rest q x places differ on) ]
past_one i x places (Some p) less is = (
  rw is.0 (or_true (p == x)),
  is.1,
  λ q on from. elim (cases_eq q x) [ inl same ↦ absurd (omega (arith, same, from)) | inr differ ↦ is.2 q (among_rest q x places differ on) from ],
)

tail_ascends : (x : ℕ) (places : List ℕ) → AllPairs (λ p q. p < q) (x ∷ places) → AllPairs (λ p q. p < q) places
tail_ascends x places up i j d ij jl = up (suc i) (suc j) d (omega arith) (omega arith)

head_least : (x q : ℕ) (places : List ℕ) → AllPairs (λ p q. p < q) (x ∷ places) → member q places ≡ true → x < q
head_least x q places up on =
    let at = member_at q places on in
    let lt = up 0 (suc at.0) 0 (omega arith) (omega (arith, at.1)) in
    omega (arith, lt, at.2)

first_is : (i : ℕ) (places : List ℕ) → AllPairs (λ p q. p < q) places → IsFirstFrom i places (find (λ p. nat_le i p) places)
first_is i [] up = λ q on. cc
first_is i (x ∷ places) up = elim (cases_lt x i) [
  | inl less ↦
      let t : nat_le i x ≡ false = grind (arith, nat_tests) in
      let rest = past_one i x places (find (λ p. nat_le i p) places) less (first_is i places (tail_ascends x places up)) in
      subst (λ b. IsFirstFrom i (x ∷ places) (cond b (Some x) (find (λ p. nat_le i p) places))) (sym t) rest
  | inr ge ↦
      let t : nat_le i x ≡ true = grind (arith, nat_tests) in
      let here : IsFirstFrom i (x ∷ places) (Some x) = (
        rw (same_test x x refl) refl,
        ge,
        λ q on from. elim (cases_eq q x) [ inl same ↦ omega (arith, same) | inr differ ↦ let h = head_least x q places up (among_rest q x places differ on) in omega (arith, h) ],
      ) in
      subst (λ b. IsFirstFrom i (x ∷ places) (cond b (Some x) (find (λ p. nat_le i p) places))) (sym t) here
]

-- ---- the first bit from one on

find_at : (test : ℕ → Bool) (n a k : ℕ) → a ≤ k → k < a + n → test k ≡ true → ((l : ℕ) → a ≤ l → l < k → test l ≡ false) → find test (range_with_len a n) ≡ Some k
find_at test zero a k ak kn on off = absurd (omega arith)
find_at test (suc n) a k ak kn on off = elim (cases_eq a k) [
  | inl same ↦ let t : test a ≡ true = ap test same ∙ on in rw t (ap Some same)
  | inr differ ↦ rw (off a (omega arith) (omega (arith, differ))) (find_at test n (a + 1) k (omega (arith, differ)) (omega (arith, kn)) on (λ l al lk. off l (omega arith) lk))
]

find_none : (test : ℕ → Bool) (n a : ℕ) → ((l : ℕ) → a ≤ l → l < a + n → test l ≡ false) → find test (range_with_len a n) ≡ None
find_none test zero a off = refl
find_none test (suc n) a off = rw (off a (omega arith) (omega arith)) (find_none test n (a + 1) (λ l al ln. off l (omega arith) (omega (arith, ln))))

not_on : (b : Bool) → (b ≡ true → ⊥) → b ≡ false
not_on true never = absurd (never refl)
not_on false never = refl

-- the key of places has a bit for each
abbrev HasBits : ℕ → List ℕ → Type 0
HasBits key places = (k : ℕ) → k < 40 → stands key k ≡ member (k + 1) places

within_places : (m q : ℕ) (places : List ℕ) → ArePlaces m places → member q places ≡ true → (1 ≤ q) × (q ≤ m)
within_places m q places are on =
    let at = member_at q places on in
    let is = are.within at.0 0 at.1 in
    (omega (arith, is.0, at.2), omega (arith, is.1, at.2))

off_before : (i key m : ℕ) (places : List ℕ) (o : Option ℕ) (l : ℕ) → HasBits key places → l < 40 → i ≤ l → (member (l + 1) places ≡ true → ⊥) → stands key l ≡ false
off_before i key m places o l bits low from never = bits l low ∙ not_on (member (l + 1) places) never

places_differ : (suffix : List ℕ) (k l : ℕ) → AreDistinct suffix → k < length suffix → l < length suffix → k ≢ l → get_or suffix k 0 ≡ get_or suffix l 0 → ⊥
places_differ suffix k l distinct kl ll differ e = elim (cases_lt k l) [
  | inl less ↦ distinct k l 0 less ll e
  | inr ge ↦ distinct l k 0 (omega (arith, differ)) kl (sym e)
]

bit_of_first : (suffix : List ℕ) (i j key : ℕ) (places : List ℕ) (o : Option ℕ) → AreDistinct suffix → length suffix ≤ 40 → i < length suffix → j < length suffix
    → ArePlaces (length suffix) places → HasBits key places → IsFirstFrom (i + 1) places o
    → is_some_of (option_map (candidate_at suffix) o) (get_or suffix j 0) ≡ is_some_of (first_bit i key) j
bit_of_first suffix i j key places None distinct few il jl are bits first =
    let none = find_none (λ k. stands key k) (40 - i) i (λ l from lt. off_before i key 40 places None l bits (omega (arith, lt, few)) from (λ on. let h = first (l + 1) on in omega (arith, h, from))) in
    rw none refl
bit_of_first suffix i j key places (Some p) distinct few il jl are bits first =
    let range = within_places (length suffix) p places are first.0 in
    let back : p - 1 + 1 ≡ p = omega (arith, range.0) in
    let on : stands key (p - 1) ≡ true = bits (p - 1) (omega (arith, range.1, range.0, few)) ∙ ap (λ q. member q places) back ∙ first.0 in
    let found = find_at (λ k. stands key k) (40 - i) i (p - 1) (omega (arith, first.1)) (omega (arith, range.1, range.0, few)) on
    (λ l from lt. off_before i key 40 places None l bits (omega (arith, lt, range.1, few)) from (λ on. let h = first.2 (l + 1) on (omega (arith, from)) in omega (arith, h, lt))) in
    rw found (elim (cases_eq (p - 1) j) [
      | inl same ↦ same_test (get_or suffix (p - 1) 0) (get_or suffix j 0) (ap (λ k. get_or suffix k 0) same) ∙ sym (same_test (p - 1) j same)
      | inr differ ↦ differ_test (get_or suffix (p - 1) 0) (get_or suffix j 0) (places_differ suffix (p - 1) j distinct (omega (arith, range.1, range.0)) jl differ) ∙ sym (differ_test (p - 1) j differ)
    ])

-- who holds a ballot while those from a place on stand, by its key
held_by_key : (suffix : List ℕ) (i j : ℕ) (ballot : List ℕ) → AreDistinct suffix → length suffix ≤ 40 → i < length suffix → j < length suffix
    → hold_points (drop i suffix) (get_or suffix j 0) ballot ≡ cond (is_held i j (suffix_key suffix ballot)) 1 0
held_by_key suffix i j ballot distinct few il jl =
    let places = signature_of suffix ballot in
    let are = signature_places suffix ballot in
    let less : i + 1 - 1 ≡ i = omega arith in
    let who : holder (λ z. member z (drop i suffix)) ballot ≡ option_map (candidate_at suffix) (first_from (i + 1) places) =
    ap (λ n. holder (λ z. member z (drop n suffix)) ballot) (sym less) ∙ names_holders suffix ballot (i + 1) distinct (omega arith) in
    let bits : HasBits (suffix_key suffix ballot) places = λ k low. stands_bits MOST_PLACES (λ l. member (l + 1) places) k low in
    let same = bit_of_first suffix i j (suffix_key suffix ballot) places (first_from (i + 1) places) distinct few il jl are bits (first_is (i + 1) places are.ascending) in
    ap (λ o. cond (is_some_of o (get_or suffix j 0)) 1 0) who ∙ ap (λ t. cond t 1 0) same

held_lead : (suffix : List ℕ) (i j : ℕ) (ballots : List (List ℕ)) → AreDistinct suffix → length suffix ≤ 40 → i < length suffix → j < length suffix
    → lead_by (is_held i j) (is_held i i) (classes_of nat_eq (map (suffix_key suffix) ballots)) ≡ sum_z (hold_weight (drop i suffix) (get_or suffix j 0) (get_or suffix i 0)) ballots
held_lead suffix i j ballots distinct few il jl =
    lead_sum (suffix_key suffix) (is_held i j) (is_held i i) (hold_points (drop i suffix) (get_or suffix j 0)) (hold_points (drop i suffix) (get_or suffix i 0)) ballots
    (λ ballot. held_by_key suffix i j ballot distinct few il jl) (λ ballot. held_by_key suffix i i ballot distinct few il il)

-- ---- the rows of a suffix

-- what stands at a place, and behind it
dropped : (xs : List ℕ) (a y : ℕ) (rest : List ℕ) → drop a xs ≡ y ∷ rest → (a < length xs) × (get_or xs a 0 ≡ y) × (drop (a + 1) xs ≡ rest)
dropped [] zero y rest e = cc
dropped [] (suc a) y rest e = cc
dropped (x ∷ xs) zero y rest e = (omega arith, cc, cc)
dropped (x ∷ xs) (suc a) y rest e =
    let next : suc a + 1 ≡ suc (a + 1) = omega arith in
    let is = dropped xs a y rest e in
    (omega (arith, is.0), is.1, rw next is.2)

-- the values of the classes of ballots under a suffix
abbrev under_suffix : List ℕ → List (List ℕ) → List (ℕ × ℕ)
under_suffix suffix ballots = classes_of nat_eq (map (suffix_key suffix) ballots)

abbrev row_value : List (List ℕ) → (List ℕ → ℤ) → ℤ
row_value ballots weight = sum_z weight ballots

round_from : (suffix : List ℕ) (k : ℕ) (ballots : List (List ℕ)) → AreDistinct suffix → length suffix ≤ 40 → k < length suffix → (rest : List ℕ) (a : ℕ) → drop a suffix ≡ rest
    → map (λ j. lead_by (is_held k j) (is_held k k) (under_suffix suffix ballots)) (range_with_len a (length rest))
    ≡ map (row_value ballots) (map (λ y. hold_weight (drop k suffix) y (get_or suffix k 0)) rest)
round_from suffix k ballots distinct few kl [] a e = refl
round_from suffix k ballots distinct few kl (y ∷ rest) a e =
    let is = dropped suffix a y rest e in
    let head = held_lead suffix k a ballots distinct few kl is.0 ∙ ap (λ z. sum_z (hold_weight (drop k suffix) z (get_or suffix k 0)) ballots) is.1 in
    let tail = round_from suffix k ballots distinct few kl rest (a + 1) is.2 in
    ap (λ z. z ∷ map (λ j. lead_by (is_held k j) (is_held k k) (under_suffix suffix ballots)) (range_with_len (a + 1) (length rest))) head
    ∙ ap (λ zs. sum_z (hold_weight (drop k suffix) y (get_or suffix k 0)) ballots ∷ zs) tail

round_is : (suffix : List ℕ) (k x : ℕ) (rest : List ℕ) (ballots : List (List ℕ)) → AreDistinct suffix → length suffix ≤ 40 → drop k suffix ≡ x ∷ rest
    → round_values (length suffix) k (under_suffix suffix ballots) ≡ map (row_value ballots) (map (λ y. hold_weight (x ∷ rest) y x) rest)
round_is suffix k x rest ballots distinct few e =
    let is = dropped suffix k x rest e in
    let l = length-drop (k + 1) suffix in
    let m : length suffix - (k + 1) ≡ length rest = omega (arith, l, ap length is.2) in
    ap (λ n. map (λ j. lead_by (is_held k j) (is_held k k) (under_suffix suffix ballots)) (range_with_len (k + 1) n)) m
    ∙ round_from suffix k ballots distinct few is.0 rest (k + 1) is.2
    ∙ ap (λ standing. map (row_value ballots) (map (λ y. hold_weight standing y (get_or suffix k 0)) rest)) e
    ∙ ap (λ z. map (row_value ballots) (map (λ y. hold_weight (x ∷ rest) y z) rest)) is.1

rounds_from : (suffix : List ℕ) (ballots : List (List ℕ)) → AreDistinct suffix → length suffix ≤ 40 → (rest : List ℕ) (k : ℕ) → drop k suffix ≡ rest
    → flat_map (λ i. round_values (length suffix) i (under_suffix suffix ballots)) (range_with_len k (length rest)) ≡ map (row_value ballots) (suffix_rows rest)
rounds_from suffix ballots distinct few [] k e = refl
rounds_from suffix ballots distinct few (x ∷ rest) k e =
    let is = dropped suffix k x rest e in
    let more = flat_map (λ i. round_values (length suffix) i (under_suffix suffix ballots)) (range_with_len (k + 1) (length rest)) in
    flat_map-cons (λ i. round_values (length suffix) i (under_suffix suffix ballots)) k (range_with_len (k + 1) (length rest))
    ∙ ap (λ zs. zs ++ more) (round_is suffix k x rest ballots distinct few e)
    ∙ ap (λ zs. map (row_value ballots) (map (λ y. hold_weight (x ∷ rest) y x) rest) ++ zs) (rounds_from suffix ballots distinct few rest (k + 1) is.2)
    ∙ sym (map-append (row_value ballots) (map (λ y. hold_weight (x ∷ rest) y x) rest) (suffix_rows rest))

pub suffix_values_are : (suffix : List ℕ) (ballots : List (List ℕ)) → AreDistinct suffix → length suffix ≤ 40
    → suffix_values (length suffix) (classes_of nat_eq (map (suffix_key suffix) ballots)) ≡ map (λ weight. sum_z weight ballots) (suffix_rows suffix)
suffix_values_are suffix ballots distinct few = rounds_from suffix ballots distinct few suffix 0 refl

-- ---- the rows of a cover

key_bit : (x y : ℕ) (ballot : List ℕ) → y < 40 → stands (cover_key x ballot) y ≡ member y (up_to x ballot)
key_bit x y ballot low = stands_bits MOST_PLACES (λ z. member z (up_to x ballot)) y low

and_true : (b : Bool) → (b && true) ≡ b
and_true true = refl
and_true false = refl

over_by_key : (x j : ℕ) (ballot : List ℕ) → x < 40 → j < 40 → prefer_points x j ballot ≡ cond (is_over x j (cover_key x ballot)) 1 0
over_by_key x j ballot xl jl =
    let key = cover_key x ballot in
    let same : prefers ballot x j ≡ is_over x j key =
    preferred_to x j ballot ∙ ap (λ b. b && not (member j (up_to x ballot))) (sym (key_bit x x ballot xl)) ∙ ap (λ b. stands key x && not b) (sym (key_bit x j ballot jl)) in
    ap (λ t. cond t 1 0) same

under_by_key : (x j : ℕ) (ballot : List ℕ) → j < 40 → j ≢ x → prefer_points j x ballot ≡ cond (stands (cover_key x ballot) j) 1 0
under_by_key x j ballot jl differ =
    let same : prefers ballot j x ≡ stands (cover_key x ballot) j =
    preferred_over x j ballot ∙ ap (λ b. member j (up_to x ballot) && b) (is_other j x differ) ∙ and_true (member j (up_to x ballot)) ∙ sym (key_bit x j ballot jl) in
    ap (λ t. cond t 1 0) same

abbrev under_cover : ℕ → List (List ℕ) → List (ℕ × ℕ)
under_cover x ballots = classes_of nat_eq (map (cover_key x) ballots)

cover_from : (x : ℕ) (ballots : List (List ℕ)) (xs : List ℕ) → x < 40 → ((j : ℕ) → Contains xs j → (j < 40) × (j ≢ x))
    → map (λ j. lead_by (is_over x j) (λ key. stands key j) (under_cover x ballots)) xs ≡ map (row_value ballots) (map (λ j. prefer_weight x j) xs)
cover_from x ballots [] xl each = refl
cover_from x ballots (j ∷ xs) xl each =
    let here = each j (0, omega arith, refl) in
    let head = lead_sum (cover_key x) (is_over x j) (λ key. stands key j) (prefer_points x j) (prefer_points j x) ballots
    (λ ballot. over_by_key x j ballot xl here.0) (λ ballot. under_by_key x j ballot here.0 here.1) in
    let tail = cover_from x ballots xs xl (λ k there. each k (suc there.0, omega (arith, there.1), there.2)) in
    ap (λ z. z ∷ map (λ k. lead_by (is_over x k) (λ key. stands key k) (under_cover x ballots)) xs) head ∙ ap (λ zs. sum_z (prefer_weight x j) ballots ∷ zs) tail

pub cover_values_are : (c x : ℕ) (ballots : List (List ℕ)) → x < c → c ≤ 40
    → cover_values c x (classes_of nat_eq (map (cover_key x) ballots)) ≡ map (λ weight. sum_z weight ballots) (cover_rows c x)
cover_values_are c x ballots xc few = cover_from x ballots (others c x) (omega arith)
    (λ j there. let is = those_are c j (λ k. not (k == x)) there in (omega (arith, is.0, few), other_is j x is.1))
