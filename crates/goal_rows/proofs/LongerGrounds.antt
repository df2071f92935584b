-- What the kinds of ballots tell of the keys under a suffix with one candidate more in front.
use Rattle.std.proofs.Common.{ℕ, zero, suc, List, [], ◌∷◌, ◌++◌, ◌==◌, true, false, Some, None, ◌≡◌, ◌<◌, ◌≤◌, ◌+◌, ◌*◌, ◌∙◌, ◌⊎◌, cond, take, length, map, get_or, sym, refl, ap, inl, inr, arith}
use Rattle.std.specs.Prelude.{All, nat_eq, not}
use Rattle.std.specs.Str.{bytes_eq}
use Rattle.std.proofs.lemmas.Bool.{cases_Bool, cases_eq}
use Rattle.std.proofs.lemmas.List.{map-append, take_more}
use Rattle.std.proofs.lemmas.List.Elements.{All-cons}
use Rattle.mov_base.specs.Sums.{add_up}
use Rattle.mov_base.proofs.Sums.{add_up-append}
use Rattle.ballot_form.specs.Ballots.{IsValidBallot}
use Rattle.ballot_form.specs.declared.rule.Rule.TheVariants.{Irv}
use Rattle.ballot_form.proofs.Lengths.{length_valid}
use Rattle.ballot_form.specs.declared.limits.TheConstants.{MOST_BALLOTS}
use Rattle.irv_count.specs.Orders.{holder, member}
use Rattle.irv_count.proofs.Members.{differ_test, same_test}
use Rattle.signature_class.specs.Classes.{add_all, add_class, classes_of, count_of}
use Rattle.signature_class.specs.Signatures.{cover_key, holds_before, signature_of, suffix_key, up_to}
use Rattle.signature_class.specs.declared.limits.TheConstants.{MOST_PLACES}
use Rattle.signature_class.proofs.Counts.{add_all-append, count_le, kinds_are_classes, sum-add_all, sum-times_one}
use Rattle.signature_class.proofs.KeyBits.{bits_fit, bits_same, stands_bits}
use Rattle.signature_class.proofs.KeysTold.{kid_key}
use Rattle.goal_rows.specs.LongerKeys.{IsTold, class_behind, goals_of, key_behind, leaders_key, told_of}
use Rattle.goal_rows.specs.Races.{IsRace, keyed, seen_by}
use Rattle.goal_rows.specs.Suffixes.{those}
use Rattle.goal_rows.specs.declared.cover_grounds.Told.{Told}
use Rattle.goal_rows.specs.declared.goals.Goal.{Goal}
use Rattle.goal_rows.specs.declared.goals.Goal.TheVariants.{Suffix}
use Rattle.goal_rows.specs.declared.parts.Ground.{Ground}
use Rattle.goal_rows.specs.declared.parts.Race.{Race}
use Rattle.goal_rows.proofs.Classed.{few_kinds}
use Rattle.goal_rows.proofs.Keyed.{suffix_classes_are}
use Rattle.goal_rows.proofs.Lists.{added_none, added_one}
use Rattle.goal_rows.proofs.Ways.{longer_valid}

-- ---- who holds a ballot beside the suffix

-- those on the ballot up to the first of the suffix, or all of them
up_to_holder : (suffix : List ℕ) (x z : ℕ) (ballot : List ℕ) → member x suffix ≡ true
    → (holder (λ y. member y suffix) ballot ≡ Some x) ⊎ (holder (λ y. member y suffix) ballot ≡ None)
    → member z (up_to x ballot) ≡ holds_before z suffix ballot
up_to_holder suffix x z [] on first = refl
up_to_holder suffix x z (y ∷ ballot) on first = elim (cases_eq y z) [
  | inl same ↦ elim (cases_Bool (y == x)) [
    | inl t ↦ rw (t, same_test z y (sym same), same_test y z same, same_test y z same) refl
    | inr f ↦ rw (f, same_test z y (sym same), same_test y z same, same_test y z same) refl
  ]
  | inr other ↦ elim (cases_Bool (member y suffix)) [
    | inl within ↦
        let at : y ≡ x = elim (rw within at first) [ inl e ↦ cc | inr e ↦ absurd cc ] in
        rw (same_test y x at, differ_test z y (λ e. other (sym e)), differ_test y z other, within, differ_test y z other) refl
    | inr without ↦
        let off : y ≡ x → ⊥ = λ e. let h : true ≡ false = sym on ∙ ap (λ u. member u suffix) (sym e) ∙ without in cc in
        rw (differ_test y x off, differ_test z y (λ e. other (sym e)), differ_test y z other, without)
        (up_to_holder suffix x z ballot on (rw without at first))
  ]
]

-- the key of the cover of such a candidate
pub leaders_of : (suffix : List ℕ) (x : ℕ) (ballot : List ℕ) → member x suffix ≡ true
    → (holder (λ y. member y suffix) ballot ≡ Some x) ⊎ (holder (λ y. member y suffix) ballot ≡ None)
    → cover_key x ballot ≡ leaders_key suffix ballot
leaders_of suffix x ballot on first =
    bits_same MOST_PLACES (λ z. member z (up_to x ballot)) (λ z. holds_before z suffix ballot) (λ z lt. up_to_holder suffix x z ballot on first)

-- the holder is one of the suffix
pub holder_on : (suffix : List ℕ) (x : ℕ) (ballot : List ℕ) → holder (λ y. member y suffix) ballot ≡ Some x → member x suffix ≡ true
holder_on suffix x [] is = cc
holder_on suffix x (y ∷ ballot) is = elim (cases_Bool (member y suffix)) [
  | inl on ↦ let e : y ≡ x = (let h = rw on at is in cc) in ap (λ u. member u suffix) (sym e) ∙ on
  | inr off ↦ holder_on suffix x ballot (rw off at is)
]

-- ---- classes

key_moved : (z : ℕ) (suffix : List ℕ) (kind : List ℕ × ℕ) → member z suffix ≡ false → length suffix < MOST_PLACES → z < MOST_PLACES
    → key_behind z (told_of suffix kind) ≡ suffix_key (z ∷ suffix) kind.0
key_moved z suffix kind out few low =
    ap (λ b. 2 * suffix_key suffix kind.0 + cond b 1 0) (stands_bits MOST_PLACES (λ x. holds_before x suffix kind.0) z low)
    ∙ sym (kid_key z suffix kind.0 out few)

-- the classes of what the kinds tell are those of the kinds
pub told_classes : (z : ℕ) (suffix : List ℕ) (kinds : List (List ℕ × ℕ)) → member z suffix ≡ false → length suffix < MOST_PLACES → z < MOST_PLACES
    → map (class_behind z) (map (told_of suffix) kinds) ≡ keyed (suffix_key (z ∷ suffix)) kinds
told_classes z suffix [] out few low = refl
told_classes z suffix (kind ∷ kinds) out few low =
    ap (λ key. (key, kind.1) ∷ map (class_behind z) (map (told_of suffix) kinds)) (key_moved z suffix kind out few low)
    ∙ ap (λ rest. (suffix_key (z ∷ suffix) kind.0, kind.1) ∷ rest) (told_classes z suffix kinds out few low)

-- a suffix with a candidate more is short enough for keys
pub longer_few : (race : Race) (z : ℕ) (suffix : List ℕ) → IsRace race → IsValidBallot race.roll.now.c suffix → z < race.roll.now.c → member z suffix ≡ false
    → (length (z ∷ suffix) ≤ MOST_PLACES) × (z < MOST_PLACES)
longer_few race z suffix is valid below out =
    let few = length_valid race.roll.now.c (z ∷ suffix) (longer_valid race.roll.now.c z suffix valid below out) in
    let most = is.election.poll.most in
    (omega (arith, few, most), omega (arith, below, most))

-- they are those of the ballots
pub longer_classes : (race : Race) (z : ℕ) (suffix : List ℕ) (told : List Told) (classes : List (ℕ × ℕ)) → IsRace race → race.rule ≡ Irv
    → IsValidBallot race.roll.now.c suffix → z < race.roll.now.c → member z suffix ≡ false → told ≡ map (told_of suffix) race.kinds
    → classes ≡ add_all nat_eq [] (map (class_behind z) told) → classes ≡ classes_of nat_eq (map (suffix_key (z ∷ suffix)) race.roll.now.ballots)
longer_classes race z suffix told classes is rule valid below out told_is classes_are =
    let few = longer_few race z suffix is valid below out in
    suffix_classes_are race (z ∷ suffix) classes is rule
    (classes_are ∙ ap (λ t. add_all nat_eq [] (map (class_behind z) t)) told_is
    ∙ ap (add_all nat_eq []) (told_classes z suffix race.kinds out (let h = few.0 in omega arith) few.1))

-- ---- what is told of the kinds of a race

told_count : (suffix : List ℕ) (kinds : List (List ℕ × ℕ)) → add_up (λ (t : Told). t.count) (map (told_of suffix) kinds) ≡ add_up (λ (k : List ℕ × ℕ). k.1) kinds
told_count suffix [] = refl
told_count suffix (kind ∷ kinds) = omega (arith, told_count suffix kinds)

told_each : (suffix : List ℕ) (kinds : List (List ℕ × ℕ)) → All (λ k. 1 ≤ k.1) kinds → All IsTold (map (told_of suffix) kinds)
told_each suffix [] some = λ k d lt. absurd (omega (arith, lt))
told_each suffix (kind ∷ kinds) some =
    All-cons IsTold (told_of suffix kind) (map (told_of suffix) kinds)
    (record { fits = bits_fit MOST_PLACES (λ k. member (k + 1) (signature_of suffix kind.0)); some = some 0 kind (omega arith) })
    (told_each suffix kinds (λ k d lt. some (suc k) d (omega arith)))

pub told_few : (race : Race) (suffix : List ℕ) (told : List Told) → IsRace race → told ≡ map (told_of suffix) race.kinds
    → add_up (λ (t : Told). t.count) told ≤ MOST_BALLOTS
told_few race suffix told is told_is = rw told_is (omega (arith, told_count suffix race.kinds, few_kinds race is))

pub told_are : (race : Race) (suffix : List ℕ) (told : List Told) → IsRace race → told ≡ map (told_of suffix) race.kinds → All IsTold told
told_are race suffix told is told_is =
    rw (told_is, is.kinds) (told_each suffix (classes_of bytes_eq (map (seen_by race.rule) race.roll.now.ballots))
    (kinds_are_classes (map (seen_by race.rule) race.roll.now.ballots)).some)

-- ---- one kind more

pub told_more : (suffix : List ℕ) (i : ℕ) (kinds : List (List ℕ × ℕ)) (told : List Told) (row : List ℕ) (n : ℕ) → i < length kinds
    → row ≡ (get_or kinds i ([], 0)).0 → n ≡ (get_or kinds i ([], 0)).1 → told ≡ map (told_of suffix) (take i kinds)
    → told ++ told_of suffix (row, n) ∷ [] ≡ map (told_of suffix) (take (i + 1) kinds)
told_more suffix i kinds told row n lt row_is n_is is =
    rw (take_more kinds i ([], 0) lt, map-append (told_of suffix) (take i kinds) (get_or kinds i ([], 0) ∷ []), ← is, row_is, n_is) refl

pub class_more : (z i k : ℕ) (told : List Told) (t : Told) (classes : List (ℕ × ℕ)) → i < length told → k ≡ key_behind z (get_or told i t)
    → classes ≡ add_all nat_eq [] (map (class_behind z) (take i told))
    → add_class nat_eq k (get_or told i t).count classes ≡ add_all nat_eq [] (map (class_behind z) (take (i + 1) told))
class_more z i k told t classes lt key_is is =
    rw (
      take_more told i t lt,
      map-append (class_behind z) (take i told) (get_or told i t ∷ []),
      add_all-append nat_eq [] (map (class_behind z) (take i told)) (class_behind z (get_or told i t) ∷ []),
      ← is,
      key_is,
    ) refl

count_classes : (z : ℕ) (told : List Told) → add_up (λ (c : ℕ × ℕ). c.1) (map (class_behind z) told) ≡ add_up (λ (t : Told). t.count) told
count_classes z [] = refl
count_classes z (t ∷ told) = omega (arith, count_classes z told)

part_of : (i : ℕ) (told : List Told) → add_up (λ (t : Told). t.count) (take i told) ≤ add_up (λ (t : Told). t.count) told
part_of zero [] = omega arith
part_of zero (t ∷ told) = omega arith
part_of (suc i) [] = omega arith
part_of (suc i) (t ∷ told) = omega (arith, part_of i told)

pub class_room : (z i k : ℕ) (told : List Told) (t : Told) (classes : List (ℕ × ℕ)) → i < length told → classes ≡ add_all nat_eq [] (map (class_behind z) (take i told))
    → add_up (λ (t : Told). t.count) told ≤ MOST_BALLOTS → count_of nat_eq k classes + (get_or told i t).count ≤ MOST_BALLOTS
class_room z i k told t classes lt is few =
    let a = count_le nat_eq k classes in
    let b = sum-times_one classes in
    let d = sum-add_all [] (map (class_behind z) (take i told)) in
    let e : add_up (λ c. c.1) classes ≡ add_up (λ c. c.1) (add_all nat_eq [] (map (class_behind z) (take i told))) = ap (add_up (λ c. c.1)) is in
    let f = count_classes z (take i told) in
    let h = add_up-append (λ (t : Told). t.count) (take i told) (get_or told i t ∷ []) in
    let g = ap (add_up (λ (t : Told). t.count)) (take_more told i t lt) in
    let m = part_of (i + 1) told in
    omega (arith, a, b, d, e, f, h, g, m)

-- ---- the goals of grounds

pub goals_more : (starts : List Ground) (start : Ground) (i : ℕ) (kids : List Goal) (kid : Goal) → i < length kids → goals_of starts ≡ take i kids
    → kid ≡ get_or kids i kid → start.goal ≡ kid → goals_of (starts ++ start ∷ []) ≡ take (i + 1) kids
goals_more starts start i kids kid lt is here goal_is =
    map-append (λ (s : Ground). s.goal) starts (start ∷ [])
    ∙ ap (λ gs. gs ++ start.goal ∷ []) is
    ∙ ap (λ g. take i kids ++ g ∷ []) (goal_is ∙ here)
    ∙ sym (take_more kids i kid lt)

pub goals_added : (starts : List Ground) (start : Ground) (z : ℕ) (suffix : List ℕ) → goals_of starts ≡ map (λ y. Suffix (y ∷ suffix)) (those z (λ y. not (member y suffix)))
    → member z suffix ≡ false → start.goal ≡ Suffix (z ∷ suffix)
    → goals_of (starts ++ start ∷ []) ≡ map (λ y. Suffix (y ∷ suffix)) (those (z + 1) (λ y. not (member y suffix)))
goals_added starts start z suffix is out goal_is =
    map-append (λ (s : Ground). s.goal) starts (start ∷ [])
    ∙ ap (λ g. goals_of starts ++ g ∷ []) goal_is
    ∙ added_one (λ y. Suffix (y ∷ suffix)) (λ y. not (member y suffix)) z [] (goals_of starts) is (ap not out)

pub goals_kept : (starts : List Ground) (z : ℕ) (suffix : List ℕ) → goals_of starts ≡ map (λ y. Suffix (y ∷ suffix)) (those z (λ y. not (member y suffix)))
    → member z suffix ≡ true → goals_of starts ≡ map (λ y. Suffix (y ∷ suffix)) (those (z + 1) (λ y. not (member y suffix)))
goals_kept starts z suffix is on = added_none (λ y. Suffix (y ∷ suffix)) (λ y. not (member y suffix)) z [] (goals_of starts) is (ap not on)
