-- The ballots with the largest gains: how many they are, that they are an alteration, what replacing them does, and
-- that they come first.
use Rattle.std.proofs.Common.{ℕ, zero, suc, true, false, List, [], ◌∷◌, ◌≡◌, ◌<◌, ◌≤◌, ◌==◌, ◌+◌, ◌-◌, ◌*◌, ◌⊎◌, ◌∙◌, refl, sym, ap, subst, inl, inr, length, map, get_or, ltb, arith, All}
use Rattle.std.specs.Prelude.{Contains, slice_index, slice_index_or}
use Rattle.std.proofs.lemmas.Bool.{cases_eq, cases_lt}
use Rattle.std.proofs.lemmas.Bool.Decides.{nat_tests}
use Rattle.mov_base.specs.Sums.{add_up}
use Rattle.ballot_form.specs.Alterations.{IsAlterationFrom, after_from}
use Rattle.ballot_form.specs.Ballots.{IsValidBallot}
use Rattle.goal_rows.specs.Pairs.{ComeFirst, gain_of, puts_of}
use Rattle.witness_build.specs.Levels.{above, first_from, largest, reaching}
use Rattle.witness_build.proofs.Thresholds.{reaching_is}

-- ---- one gain more

-- the first number is chosen since its gain is above the threshold, or since it equals it and one is left, or it isn't
pub data Step (θ equal i gain : ℕ) (gains whole : List ℕ) : Type 0 where
  greater : θ < gain → whole ≡ i ∷ first_from θ equal (i + 1) gains → Step θ equal i gain gains whole
  level : (rest : ℕ) → gain ≡ θ → equal ≡ suc rest → whole ≡ i ∷ first_from θ rest (i + 1) gains → Step θ equal i gain gains whole
  passed : gain ≤ θ → (gain ≡ θ → equal ≡ 0) → whole ≡ first_from θ equal (i + 1) gains → Step θ equal i gain gains whole

no_greater : (θ gain : ℕ) → gain ≤ θ → ltb θ gain ≡ false
no_greater θ gain le = grind (arith, nat_tests)

is_greater : (θ gain : ℕ) → θ < gain → ltb θ gain ≡ true
is_greater θ gain lt = grind (arith, nat_tests)

is_level : (θ gain : ℕ) → gain ≡ θ → (gain == θ) ≡ true
is_level θ gain e = grind (arith, nat_tests)

no_level : (θ gain : ℕ) → gain < θ → (gain == θ) ≡ false
no_level θ gain lt = grind (arith, nat_tests)

pub from_greater : (θ equal i gain : ℕ) (gains : List ℕ) → θ < gain → first_from θ equal i (gain ∷ gains) ≡ i ∷ first_from θ equal (i + 1) gains
from_greater θ equal i gain gains more = let yes = is_greater θ gain more in rw yes refl

pub from_level : (θ equal i gain : ℕ) (gains : List ℕ) → gain ≡ θ → 0 < equal → first_from θ equal i (gain ∷ gains) ≡ i ∷ first_from θ (equal - 1) (i + 1) gains
from_level θ equal i gain gains e left =
    let no = no_greater θ gain (omega (arith, e)) in
    let yes = is_level θ gain e in
    let some : ltb 0 equal ≡ true = is_greater 0 equal left in
    rw (no, yes, some) refl

pub from_passed : (θ equal i gain : ℕ) (gains : List ℕ) → gain ≤ θ → (gain ≡ θ → equal ≡ 0) → first_from θ equal i (gain ∷ gains) ≡ first_from θ equal (i + 1) gains
from_passed θ equal i gain gains le none = elim (cases_lt gain θ) [
  | inl less ↦
      let no = no_greater θ gain le in
      let other = no_level θ gain less in
      rw (no, other) refl
  | inr ge ↦
      let no = no_greater θ gain le in
      let e : gain ≡ θ = omega (arith, le, ge) in
      let yes = is_level θ gain e in
      let zero_left : ltb 0 equal ≡ false = no_greater 0 equal (omega (arith, none e)) in
      rw (no, yes, zero_left) refl
]

step_level : (θ equal i gain : ℕ) (gains : List ℕ) → gain ≡ θ → Step θ equal i gain gains (first_from θ equal i (gain ∷ gains))
step_level θ zero i gain gains e = passed (omega (arith, e)) (λ _. refl) (from_passed θ zero i gain gains (omega (arith, e)) (λ _. refl))
step_level θ (suc rest) i gain gains e =
    let one : suc rest - 1 ≡ rest = omega arith in
    level rest e refl (from_level θ (suc rest) i gain gains e (omega arith) ∙ ap (λ n. i ∷ first_from θ n (i + 1) gains) one)

pub step_of : (θ equal i gain : ℕ) (gains : List ℕ) → Step θ equal i gain gains (first_from θ equal i (gain ∷ gains))
step_of θ equal i gain gains = elim (cases_lt θ gain) [
  | inl more ↦ greater more (from_greater θ equal i gain gains more)
  | inr le ↦ elim (cases_lt gain θ) [
    | inl less ↦ passed le (λ e. absurd (omega (arith, e, less))) (from_passed θ equal i gain gains le (λ e. absurd (omega (arith, e, less))))
    | inr ge ↦ step_level θ equal i gain gains (omega (arith, le, ge))
  ]
]

above_greater : (θ gain : ℕ) → θ < gain → above θ gain ≡ 1
above_greater θ gain lt = grind (arith, nat_tests)

above_none : (θ gain : ℕ) → gain ≤ θ → above θ gain ≡ 0
above_none θ gain le = grind (arith, nat_tests)

reaching_one : (θ gain : ℕ) → reaching θ gain ≤ 1
reaching_one θ gain = grind (arith, nat_tests)

reaching_none : (θ gain : ℕ) → gain < θ → reaching θ gain ≡ 0
reaching_none θ gain lt = grind (arith, nat_tests)

-- there are as many as are to be chosen
abbrev pub HasAsMany : ℕ → ℕ → List ℕ → Type 0
HasAsMany θ equal gains = add_up (above θ) gains + equal ≤ add_up (reaching θ) gains

as_many_greater : (θ equal gain : ℕ) (gains : List ℕ) → θ < gain → HasAsMany θ equal (gain ∷ gains) → HasAsMany θ equal gains
as_many_greater θ equal gain gains lt fits = omega (arith, fits, above_greater θ gain lt, reaching_one θ gain)

as_many_level : (θ rest gain : ℕ) (gains : List ℕ) → HasAsMany θ (suc rest) (gain ∷ gains) → HasAsMany θ rest gains
as_many_level θ rest gain gains fits = omega (arith, fits, reaching_one θ gain)

as_many_passed : (θ equal gain : ℕ) (gains : List ℕ) → gain ≤ θ → (gain ≡ θ → equal ≡ 0) → HasAsMany θ equal (gain ∷ gains) → HasAsMany θ equal gains
as_many_passed θ equal gain gains le none fits = elim (cases_lt gain θ) [
  | inl less ↦ omega (arith, fits, above_none θ gain le, reaching_none θ gain less)
  | inr ge ↦ let e = none (omega (arith, le, ge)) in omega (arith, e, reaching_is θ gains)
]

-- ---- how many they are

pub length-first : (θ equal i : ℕ) (gains : List ℕ) → HasAsMany θ equal gains → length (first_from θ equal i gains) ≡ add_up (above θ) gains + equal
length-first θ equal i [] fits = omega (arith, fits)
length-first θ equal i (gain ∷ gains) fits = elim (step_of θ equal i gain gains) [
  | greater lt is ↦ omega (arith, ap length is, above_greater θ gain lt, length-first θ equal (i + 1) gains (as_many_greater θ equal gain gains lt fits))
  | level rest e left is ↦
      let fit : HasAsMany θ (suc rest) (gain ∷ gains) = subst (λ n. HasAsMany θ n (gain ∷ gains)) left fits in
      omega (arith, ap length is, left, above_none θ gain (omega (arith, e)), length-first θ rest (i + 1) gains (as_many_level θ rest gain gains fit))
  | passed le none is ↦ omega (arith, ap length is, above_none θ gain le, length-first θ equal (i + 1) gains (as_many_passed θ equal gain gains le none fits))
]

-- ---- they are an alteration

alone_below : (c g : ℕ) → g < c → All (λ x. x < c) (g ∷ [])
alone_below c g lt zero d within = lt
alone_below c g lt (suc k) d within = absurd (omega arith)

alone_valid : (c g : ℕ) → g < c → IsValidBallot c (g ∷ [])
alone_valid c g lt = record { below = alone_below c g lt; distinct = λ i j d before within. absurd (omega arith) }

from_earlier : (c i n : ℕ) (changes : List (ℕ × List ℕ)) → IsAlterationFrom c (i + 1) n changes → IsAlterationFrom c i n changes
from_earlier c i n [] ok = tt
from_earlier c i n (change ∷ changes) ok = (omega (arith, ok.0), ok.1, ok.2, ok.3)

pub alters : (c g θ equal i n : ℕ) (gains : List ℕ) → g < c → i + length gains ≡ n + 1 → IsAlterationFrom c i n (puts_of g (first_from θ equal i gains))
alters c g θ equal i n [] lt size = tt
alters c g θ equal i n (gain ∷ gains) lt size = elim (step_of θ equal i gain gains) [
  | greater more is ↦ rw is (omega arith, omega arith, alone_valid c g lt, alters c g θ equal (i + 1) n gains lt (omega arith))
  | level rest e left is ↦ rw is (omega arith, omega arith, alone_valid c g lt, alters c g θ rest (i + 1) n gains lt (omega arith))
  | passed le none is ↦ rw is (from_earlier c i n (puts_of g (first_from θ equal (i + 1) gains)) (alters c g θ equal (i + 1) n gains lt (omega arith)))
]

-- ---- what replacing them does

after_none : (i : ℕ) (rows : List (List ℕ)) → after_from i rows [] ≡ rows
after_none i [] = refl
after_none i (row ∷ rows) = refl

after_later : (c i n : ℕ) (row : List ℕ) (rows : List (List ℕ)) (changes : List (ℕ × List ℕ)) → IsAlterationFrom c (i + 1) n changes
    → after_from i (row ∷ rows) changes ≡ row ∷ after_from (i + 1) rows changes
after_later c i n row rows [] ok = ap (λ rest. row ∷ rest) (sym (after_none (i + 1) rows))
after_later c i n row rows (change ∷ changes) ok =
    let lt = ok.0 in
    let t : (change.0 == i) ≡ false = grind (arith, nat_tests) in
    rw t refl

after_here : (g i : ℕ) (row : List ℕ) (rows : List (List ℕ)) (numbers : List ℕ)
    → after_from i (row ∷ rows) (puts_of g (i ∷ numbers)) ≡ (g ∷ []) ∷ after_from (i + 1) rows (puts_of g numbers)
after_here g i row rows numbers = let t : (i == i) ≡ true = grind (arith, nat_tests) in rw t refl

-- what the gainer alone counts, and what it gets closer by a ballot
pub record AreGains (g top : ℕ) (plus minus : List ℕ → ℕ) : Type 0 where
  pub alone : plus (g ∷ []) ≡ top
  pub none : minus (g ∷ []) ≡ 0
  pub most : (ballot : List ℕ) → plus ballot ≤ top

-- the gainer gets closer by as much as the largest gains are together
abbrev pub Moved : ℕ → ℕ → ℕ → (List ℕ → ℕ) → (List ℕ → ℕ) → List (List ℕ) → List (List ℕ) → Type 0
Moved θ equal top plus minus before now =
    add_up plus now + add_up minus before
    ≡ (add_up plus before + add_up minus now) + largest θ (add_up (above θ) (map (gain_of top plus minus) before) + equal) (map (gain_of top plus minus) before)

moved_greater : (θ equal top gain p m p' m' plus minus more beyond a : ℕ) → plus ≤ top → gain ≡ (top + minus) - plus → θ < gain → a ≡ 1
    → p' + m ≡ (p + m') + ((more + equal) * θ + beyond)
    → (top + p') + (minus + m) ≡ ((plus + p) + (0 + m')) + (((a + more) + equal) * θ + ((gain - θ) + beyond))
moved_greater θ equal top gain p m p' m' plus minus more beyond a le is lt one rest = rw one (omega (arith, le, is, lt, rest))

moved_level : (θ equal top gain p m p' m' plus minus more beyond a : ℕ) → plus ≤ top → gain ≡ (top + minus) - plus → gain ≡ θ → a ≡ 0
    → p' + m ≡ (p + m') + ((more + equal) * θ + beyond)
    → (top + p') + (minus + m) ≡ ((plus + p) + (0 + m')) + (((a + more) + suc equal) * θ + ((gain - θ) + beyond))
moved_level θ equal top gain p m p' m' plus minus more beyond a le is e one rest = rw one (omega (arith, le, is, e, rest))

moved_passed : (θ equal gain p m p' m' plus minus more beyond a : ℕ) → gain ≤ θ → a ≡ 0
    → p' + m ≡ (p + m') + ((more + equal) * θ + beyond)
    → (plus + p') + (minus + m) ≡ ((plus + p) + (minus + m')) + (((a + more) + equal) * θ + ((gain - θ) + beyond))
moved_passed θ equal gain p m p' m' plus minus more beyond a le one rest = rw one (omega (arith, le, rest))

pub moved : (c n g top θ equal i : ℕ) (plus minus : List ℕ → ℕ) (rows : List (List ℕ)) → AreGains g top plus minus → g < c → i + length rows ≡ n + 1
    → HasAsMany θ equal (map (gain_of top plus minus) rows)
    → Moved θ equal top plus minus rows (after_from i rows (puts_of g (first_from θ equal i (map (gain_of top plus minus) rows))))
moved c n g top θ equal i plus minus [] are lt size fits = let e : equal ≡ 0 = omega (arith, fits) in rw e (omega arith)
moved c n g top θ equal i plus minus (row ∷ rows) are lt size fits =
    let gains = map (gain_of top plus minus) rows in
    let gain = gain_of top plus minus row in
    let long = length-gains rows in
    let alone = are.alone in
    let none = are.none in
    elim (step_of θ equal i gain gains) [
      | greater more is ↦
          let rest = moved c n g top θ equal (i + 1) plus minus rows are lt (omega arith) (as_many_greater θ equal gain gains more fits) in
          rw (is, after_here g i row rows (first_from θ equal (i + 1) gains), alone, none)
          (moved_greater θ equal top gain (add_up plus rows) (add_up minus rows) (add_up plus (after_from (i + 1) rows (puts_of g (first_from θ equal (i + 1) gains))))
          (add_up minus (after_from (i + 1) rows (puts_of g (first_from θ equal (i + 1) gains)))) (plus row) (minus row) (add_up (above θ) gains) (add_up (λ x. x - θ) gains) (above θ gain)
          (are.most row) refl more (above_greater θ gain more) rest)
      | level left e same is ↦
          let fit : HasAsMany θ (suc left) (gain ∷ gains) = subst (λ n. HasAsMany θ n (gain ∷ gains)) same fits in
          let rest = moved c n g top θ left (i + 1) plus minus rows are lt (omega arith) (as_many_level θ left gain gains fit) in
          rw (is, after_here g i row rows (first_from θ left (i + 1) gains), alone, none, same)
          (moved_level θ left top gain (add_up plus rows) (add_up minus rows) (add_up plus (after_from (i + 1) rows (puts_of g (first_from θ left (i + 1) gains))))
          (add_up minus (after_from (i + 1) rows (puts_of g (first_from θ left (i + 1) gains)))) (plus row) (minus row) (add_up (above θ) gains) (add_up (λ x. x - θ) gains) (above θ gain)
          (are.most row) refl e (above_none θ gain (omega (arith, e))) rest)
      | passed le out is ↦
          let rest = moved c n g top θ equal (i + 1) plus minus rows are lt (omega arith) (as_many_passed θ equal gain gains le out fits) in
          let ok = alters c g θ equal (i + 1) n gains lt (omega (arith, long)) in
          rw (is, after_later c i n row rows (puts_of g (first_from θ equal (i + 1) gains)) ok)
          (moved_passed θ equal gain (add_up plus rows) (add_up minus rows) (add_up plus (after_from (i + 1) rows (puts_of g (first_from θ equal (i + 1) gains))))
          (add_up minus (after_from (i + 1) rows (puts_of g (first_from θ equal (i + 1) gains)))) (plus row) (minus row) (add_up (above θ) gains) (add_up (λ x. x - θ) gains) (above θ gain)
          le (above_none θ gain le) rest)
    ]
  where
    length-gains : (rows : List (List ℕ)) → length (map (gain_of top plus minus) rows) ≡ length rows
    length-gains [] = refl
    length-gains (row ∷ rows) = ap suc (length-gains rows)

-- ---- they come first

contains_cases : (x m : ℕ) (xs : List ℕ) → Contains (x ∷ xs) m → (x ≡ m) ⊎ Contains xs m
contains_cases x m xs has = by has.0 has.1 has.2
  where
    by : (k : ℕ) → k < length (x ∷ xs) → slice_index_or (x ∷ xs) k m ≡ m → (x ≡ m) ⊎ Contains xs m
    by zero lt e = inl e
    by (suc k) lt e = inr (k, omega arith, e)

contains_here : (x : ℕ) (xs : List ℕ) → Contains (x ∷ xs) x
contains_here x xs = (0, omega arith, refl)

contains_there : (x m : ℕ) (xs : List ℕ) → Contains xs m → Contains (x ∷ xs) m
contains_there x m xs has = (suc has.0, omega (arith, has.1), has.2)

contains_none : (m : ℕ) → Contains [] m → ⊥
contains_none m has = omega (arith, has.1)

-- the gain of the ballot with the number m, where the first has the number i
abbrev pub gain_at : ℕ → List ℕ → ℕ → ℕ
gain_at i gains m = get_or gains (m - i) 0

gain_later : (i m gain : ℕ) (gains : List ℕ) → i + 1 ≤ m → gain_at i (gain ∷ gains) m ≡ gain_at (i + 1) gains m
gain_later i m gain gains le = let e : m - i ≡ suc (m - (i + 1)) = omega arith in rw e refl

gain_here : (i gain : ℕ) (gains : List ℕ) → gain_at i (gain ∷ gains) i ≡ gain
gain_here i gain gains = let e : i - i ≡ 0 = omega arith in rw e refl

-- the number is one of these ballots, and its gain reaches the threshold
pub record IsReaching (θ i : ℕ) (gains : List ℕ) (m : ℕ) : Type 0 where
  pub from : i ≤ m
  pub to : m < i + length gains
  pub reaches : θ ≤ gain_at i gains m

reaching_later : (θ i m gain : ℕ) (gains : List ℕ) → IsReaching θ (i + 1) gains m → IsReaching θ i (gain ∷ gains) m
reaching_later θ i m gain gains is =
    let same = gain_later i m gain gains is.from in
    record { from = omega (arith, is.from); to = omega (arith, is.to); reaches = omega (arith, is.reaches, same) }

reaching_first : (θ i m gain : ℕ) (gains : List ℕ) → θ ≤ gain → i ≡ m → IsReaching θ i (gain ∷ gains) m
reaching_first θ i m gain gains le e =
    subst (λ v. IsReaching θ i (gain ∷ gains) v) e (record { from = omega arith; to = omega arith; reaches = omega (arith, le, gain_here i gain gains) })

pub chosen_reach : (θ equal i m : ℕ) (gains : List ℕ) → Contains (first_from θ equal i gains) m → IsReaching θ i gains m
chosen_reach θ equal i m [] has = absurd (contains_none m has)
chosen_reach θ equal i m (gain ∷ gains) has = elim (step_of θ equal i gain gains) [
  | greater lt is ↦ elim (contains_cases i m (first_from θ equal (i + 1) gains) (subst (λ xs. Contains xs m) is has)) [
    | inl e ↦ reaching_first θ i m gain gains (omega (arith, lt)) e
    | inr rest ↦ reaching_later θ i m gain gains (chosen_reach θ equal (i + 1) m gains rest)
  ]
  | level left same one is ↦ elim (contains_cases i m (first_from θ left (i + 1) gains) (subst (λ xs. Contains xs m) is has)) [
    | inl e ↦ reaching_first θ i m gain gains (omega (arith, same)) e
    | inr rest ↦ reaching_later θ i m gain gains (chosen_reach θ left (i + 1) m gains rest)
  ]
  | passed le none is ↦ reaching_later θ i m gain gains (chosen_reach θ equal (i + 1) m gains (subst (λ xs. Contains xs m) is has))
]

-- a ballot that isn't chosen has no gain above the threshold; where its gain is the threshold, all that are chosen with
-- this gain come before it
pub record IsBehind (θ i : ℕ) (gains numbers : List ℕ) (j : ℕ) : Type 0 where
  pub most : gain_at i gains j ≤ θ
  pub earlier : gain_at i gains j ≡ θ → (m : ℕ) → Contains numbers m → gain_at i gains m ≡ θ → m < j

later_level : (θ i m gain : ℕ) (gains : List ℕ) → Contains (first_from θ 0 (i + 1) gains) m → θ < gain_at (i + 1) gains m → θ < gain_at i (gain ∷ gains) m
later_level θ i m gain gains rest more =
    let from = (chosen_reach θ 0 (i + 1) m gains rest).from in
    omega (arith, more, gain_later i m gain gains from)

-- none of the numbers from i on with the gain of the threshold is chosen
none_level : (θ i m : ℕ) (gains : List ℕ) → Contains (first_from θ 0 i gains) m → θ < gain_at i gains m
none_level θ i m [] has = absurd (contains_none m has)
none_level θ i m (gain ∷ gains) has = elim (step_of θ 0 i gain gains) [
  | greater lt is ↦ elim (contains_cases i m (first_from θ 0 (i + 1) gains) (subst (λ xs. Contains xs m) is has)) [
    | inl e ↦ subst (λ v. θ < gain_at i (gain ∷ gains) v) e (omega (arith, lt, gain_here i gain gains))
    | inr rest ↦ later_level θ i m gain gains rest (none_level θ (i + 1) m gains rest)
  ]
  | level left same one is ↦ absurd (cc)
  | passed le none is ↦
      let rest = subst (λ xs. Contains xs m) is has in
      later_level θ i m gain gains rest (none_level θ (i + 1) m gains rest)
]

behind_later : (θ i j gain : ℕ) (gains numbers whole : List ℕ) → i + 1 ≤ j → IsBehind θ (i + 1) gains numbers j
    → ((m : ℕ) → Contains whole m → (m ≡ i) ⊎ ((i + 1 ≤ m) × Contains numbers m)) → IsBehind θ i (gain ∷ gains) whole j
behind_later θ i j gain gains numbers whole le is cases =
    let same = gain_later i j gain gains le in
    record {
      most = omega (arith, is.most, same);
      earlier = λ e m has level. elim (cases m has) [
        | inl here ↦ omega (arith, here, le)
        | inr rest ↦
            let own = gain_later i m gain gains rest.0 in
            is.earlier (omega (arith, e, same)) m rest.1 (omega (arith, level, own))
      ];
    }

pub others_behind : (θ equal i j : ℕ) (gains : List ℕ) → i ≤ j → j < i + length gains → (Contains (first_from θ equal i gains) j → ⊥)
    → IsBehind θ i gains (first_from θ equal i gains) j
others_behind θ equal i j [] from to out = absurd (omega (arith, from, to))
others_behind θ equal i j (gain ∷ gains) from to out = elim (step_of θ equal i gain gains) [
  | greater lt is ↦ rw is (taken equal (subst (λ xs. Contains xs j → ⊥) is out) (λ le. others_behind θ equal (i + 1) j gains le (omega arith)))
  | level left same one is ↦ rw is (taken left (subst (λ xs. Contains xs j → ⊥) is out) (λ le. others_behind θ left (i + 1) j gains le (omega arith)))
  | passed le none is ↦ rw is (elim (cases_eq i j) [
    | inl e ↦
        let here : gain_at i (gain ∷ gains) j ≡ gain = subst (λ v. gain_at i (gain ∷ gains) v ≡ gain) e (gain_here i gain gains) in
        record {
          most = omega (arith, here, le);
          earlier = λ level m has own.
              let zero_left = none (omega (arith, here, level)) in
              let rest : Contains (first_from θ 0 (i + 1) gains) m = subst (λ n. Contains (first_from θ n (i + 1) gains) m) zero_left has in
              let start = (chosen_reach θ 0 (i + 1) m gains rest).from in
              absurd (omega (arith, none_level θ (i + 1) m gains rest, gain_later i m gain gains start, own));
        }
    | inr differ ↦
        let le' : i + 1 ≤ j = omega (arith, from, differ) in
        behind_later θ i j gain gains (first_from θ equal (i + 1) gains) (first_from θ equal (i + 1) gains) le'
        (others_behind θ equal (i + 1) j gains le' (omega arith) (subst (λ xs. Contains xs j → ⊥) is out))
        (λ m has. inr ((chosen_reach θ equal (i + 1) m gains has).from, has))
  ])
]
  where
    taken : (left : ℕ) → (Contains (i ∷ first_from θ left (i + 1) gains) j → ⊥)
        → (i + 1 ≤ j → (Contains (first_from θ left (i + 1) gains) j → ⊥) → IsBehind θ (i + 1) gains (first_from θ left (i + 1) gains) j)
        → IsBehind θ i (gain ∷ gains) (i ∷ first_from θ left (i + 1) gains) j
    taken left out rest = elim (cases_eq i j) [
      | inl e ↦ absurd (out (subst (λ v. Contains (i ∷ first_from θ left (i + 1) gains) v) e (contains_here i (first_from θ left (i + 1) gains))))
      | inr differ ↦
          let le : i + 1 ≤ j = omega (arith, from, differ) in
          behind_later θ i j gain gains (first_from θ left (i + 1) gains) (i ∷ first_from θ left (i + 1) gains) le
          (rest le (λ has. out (contains_there i j (first_from θ left (i + 1) gains) has)))
          (λ m has. elim (contains_cases i m (first_from θ left (i + 1) gains) has) [
            | inl e ↦ inl (sym e)
            | inr more ↦ inr ((chosen_reach θ left (i + 1) m gains more).from, more)
          ])
    ]

pub come_first : (θ equal : ℕ) (gains : List ℕ) → ComeFirst gains (first_from θ equal 1 gains)
come_first θ equal gains i j has some most out =
    let own = chosen_reach θ equal 1 i gains has in
    let behind = others_behind θ equal 1 j gains some (omega (arith, most)) out in
    elim (cases_lt (slice_index gains (j - 1)) (slice_index gains (i - 1))) [
      | inl less ↦ inl less
      | inr more ↦
          let gain_j : gain_at 1 gains j ≡ θ = omega (arith, own.reaches, behind.most, more) in
          let gain_i : gain_at 1 gains i ≡ θ = omega (arith, own.reaches, behind.most, more) in
          inr (gain_i ∙ sym gain_j, behind.earlier gain_j i has gain_i)
    ]
