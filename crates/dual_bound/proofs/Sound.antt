-- Where a node is cut, fewer replacements don't meet it.
use Rattle.std.proofs.Common.{◌≡◌, ℕ, suc, ◌+◌, ◌-◌, ◌<◌, ◌≤◌, ◌==◌, List, [], ◌∷◌, ◌++◌, Bool, true, false, cond, min, map, length, refl, inl, inr, arith, All}
use Rattle.std.specs.Prelude.{ℤ, pos, ◌+ℤ◌, ◌-ℤ◌, ◌*ℤ◌, ◌≤ℤ◌}
use Rattle.std.specs.List.{zip}
use Rattle.std.proofs.Math.IntN.{negsuc}
use Rattle.std.proofs.lemmas.Int.{ints}
use Rattle.mov_base.specs.Sums.{add_up, most, sum_z}
use Rattle.mov_base.proofs.Most.{most-mono}
use Rattle.mov_base.proofs.Signed.{distrib, sum_z-add, sum_z-scale, sum_z-zero}
use Rattle.ballot_form.specs.Alterations.{IsAlteration, IsAlterationFrom, after_from}
use Rattle.ballot_form.specs.Ballots.{Poll}
use Rattle.row_program.specs.declared.Limit.{Limit}
use Rattle.goal_rows.specs.Elections.{Election, Node}
use Rattle.goal_rows.specs.Goals.{rows_of}
use Rattle.goal_rows.specs.Nodes.{Kept, Meets, counted_for, kept_limit, kept_of, kept_row, limit_value, swaps_from, swaps_of}
use Rattle.goal_rows.specs.declared.goals.Goal.{Goal}
use Rattle.dual_bound.specs.CutTest.{AreGains, Cuts, CutsKept, IsBound, IsGain, base_of, change_by, weighed_of}

-- the value of a row or a limit after the replacements
abbrev pub value_after : List (List ℕ × List ℕ) → Kept → ℤ
value_after swaps k = k.start +ℤ sum_z k.change swaps

abbrev pub AllKept : List (List ℕ × List ℕ) → List Kept → Type 0
AllKept swaps [] = Unit {0}
AllKept swaps (k ∷ ks) = (pos 0 ≤ℤ value_after swaps k) × AllKept swaps ks

-- the same of rows and limits with multipliers
abbrev AllWeighed : List (List ℕ × List ℕ) → List (ℕ × Kept) → Type 0
AllWeighed swaps [] = Unit {0}
AllWeighed swaps (w ∷ ws) = (pos 0 ≤ℤ value_after swaps w.1) × AllWeighed swaps ws

all_weighed : (ls : List ℕ) (ks : List Kept) (swaps : List (List ℕ × List ℕ)) → AllKept swaps ks → AllWeighed swaps (zip ls ks)
all_weighed [] ks swaps kept = tt
all_weighed (l ∷ ls) [] swaps kept = tt
all_weighed (l ∷ ls) (k ∷ ks) swaps kept = (kept.0, all_weighed ls ks swaps kept.1)

-- a row's sum after the replacements: the sum before, and what each replacement changes
pub sum_z-after : (w : List ℕ → ℤ) (i : ℕ) (ballots : List (List ℕ)) (changes : List (ℕ × List ℕ))
    → sum_z w (after_from i ballots changes) ≡ sum_z w ballots +ℤ sum_z (λ (s : List ℕ × List ℕ). w s.1 -ℤ w s.0) (swaps_from i ballots changes)
sum_z-after w i [] changes = refl
sum_z-after w i (ballot ∷ ballots) [] = omega (arith, ints)
sum_z-after w i (ballot ∷ ballots) (change ∷ changes) =
    let hit = sum_z-after w (i + 1) ballots changes in
    let miss = sum_z-after w (i + 1) ballots (change ∷ changes) in
    elim (change.0 == i) as (λ v. sum_z w (cond v (change.1 ∷ after_from (i + 1) ballots changes) (ballot ∷ after_from (i + 1) ballots (change ∷ changes)))
    ≡ sum_z w (ballot ∷ ballots) +ℤ sum_z (λ (s : List ℕ × List ℕ). w s.1 -ℤ w s.0) (cond v ((ballot, change.1) ∷ swaps_from (i + 1) ballots changes) (swaps_from (i + 1) ballots (change ∷ changes)))) [
      | true ↦ omega (arith, ints)
      | false ↦ omega (arith, ints)
    ]

-- multipliers times values: the base and what each replacement changes
weighed-value : (ws : List (ℕ × Kept)) (swaps : List (List ℕ × List ℕ))
    → sum_z (λ w. pos w.0 *ℤ value_after swaps w.1) ws ≡ base_of ws +ℤ sum_z (change_by ws) swaps
weighed-value [] swaps = let z = sum_z-zero swaps in omega (arith, ints)
weighed-value ((l, k) ∷ ws) swaps =
    let h = weighed-value ws swaps in
    let a = sum_z-add (λ p. pos l *ℤ k.change p) (change_by ws) swaps in
    let s = sum_z-scale l k.change swaps in
    let d = distrib l k.start (sum_z k.change swaps) in
    omega (arith, ints, a, s, d, h)

nonneg_times : (l : ℕ) (v : ℤ) → pos 0 ≤ℤ v → pos 0 ≤ℤ (pos l *ℤ v)
nonneg_times l (pos n) h = omega (arith, ints)
nonneg_times l (negsuc n) h = absurd (omega (arith, ints))

weighed-nonneg : (ws : List (ℕ × Kept)) (swaps : List (List ℕ × List ℕ)) → AllWeighed swaps ws → pos 0 ≤ℤ sum_z (λ w. pos w.0 *ℤ value_after swaps w.1) ws
weighed-nonneg [] swaps h = omega (arith, ints)
weighed-nonneg ((l, k) ∷ ws) swaps h =
    let a = nonneg_times l (value_after swaps k) h.0 in
    let r = weighed-nonneg ws swaps h.1 in
    omega (arith, ints)

-- the replacements bring no more than the largest gains
gains-bound : (p : Poll) (ws : List (ℕ × Kept)) (i j n : ℕ) (ballots : List (List ℕ)) (changes : List (ℕ × List ℕ)) (gains : List ℕ)
    → AreGains p ws ballots gains → IsAlterationFrom p.c j n changes → sum_z (change_by ws) (swaps_from i ballots changes) ≤ℤ pos (most (length changes) gains)
gains-bound p ws i j n [] changes gains are ok = omega (arith, ints)
gains-bound p ws i j n (ballot ∷ ballots) [] gains are ok = omega (arith, ints)
gains-bound p ws i j n (ballot ∷ ballots) (change ∷ changes) [] are ok = absurd are
gains-bound p ws i j n (ballot ∷ ballots) (change ∷ changes) (gain ∷ gains) are ok =
    let here = are.0.above change.1 ok.2 in
    let hit = gains-bound p ws (i + 1) (change.0 + 1) n ballots changes gains are.1 ok.3 in
    let miss = gains-bound p ws (i + 1) j n ballots (change ∷ changes) gains are.1 ok in
    elim (change.0 == i) as (λ v. sum_z (change_by ws) (cond v ((ballot, change.1) ∷ swaps_from (i + 1) ballots changes) (swaps_from (i + 1) ballots (change ∷ changes)))
    ≤ℤ pos (most (length (change ∷ changes)) (gain ∷ gains))) [
      | true ↦ omega (arith, ints)
      | false ↦ omega (arith, ints)
    ]

-- no more ballots are replaced than there are
few_changes : (c j n : ℕ) (changes : List (ℕ × List ℕ)) → j ≤ n + 1 → IsAlterationFrom c j n changes → length changes + j ≤ n + 1
few_changes c j n [] le ok = omega arith
few_changes c j n (change ∷ changes) le ok = let h = few_changes c (change.0 + 1) n changes (omega (arith, ok.1)) ok.3 in omega (arith, h, ok.0)

-- no alteration of fewer than t replacements keeps all rows and limits
sound_kept : (p : Poll) (ws : List (ℕ × Kept)) (t : ℕ) (changes : List (ℕ × List ℕ)) → CutsKept p ws (min t (length p.ballots + 1))
    → IsAlteration p changes → length changes < t → AllWeighed (swaps_from 1 p.ballots changes) ws → ⊥
sound_kept p ws t changes cuts ok short holds =
    let few = few_changes p.c 1 (length p.ballots) changes (omega arith) ok in
    elim cuts [
      | inl z ↦ omega (arith, few)
      | inr c ↦
          let up = gains-bound p ws 1 1 (length p.ballots) p.ballots changes c.0 c.1 ok in
          let m = most-mono (length changes) (min t (length p.ballots + 1) - 1) c.0 (omega (arith, few)) in
          let v = weighed-value ws (swaps_from 1 p.ballots changes) in
          let n = weighed-nonneg ws (swaps_from 1 p.ballots changes) holds in
          omega (arith, ints, c.2)
    ]

-- ---- meeting a node is keeping its rows and limits
minus_all : {A : Type 0} (f : A → ℕ) (xs : List A) → sum_z (λ x. pos 0 -ℤ pos (f x)) xs ≡ pos 0 -ℤ pos (add_up f xs)
minus_all f [] = omega (arith, ints)
minus_all f (x ∷ xs) = let h = minus_all f xs in omega (arith, ints)

plus_all : {A : Type 0} (f : A → ℕ) (xs : List A) → sum_z (λ x. pos (f x)) xs ≡ pos (add_up f xs)
plus_all f [] = refl
plus_all f (x ∷ xs) = let h = plus_all f xs in omega (arith, ints)

limit_by : (t : Bool) (value : ℕ) (f : List ℕ × List ℕ → ℕ) (swaps : List (List ℕ × List ℕ)) → pos 0 ≤ℤ cond t (pos value -ℤ pos (add_up f swaps)) (pos (add_up f swaps) -ℤ pos value)
    → pos 0 ≤ℤ value_after swaps (cond t (record { start = pos value; change = λ s. pos 0 -ℤ pos (f s) }) (record { start = pos 0 -ℤ pos value; change = λ s. pos (f s) }))
limit_by true value f swaps h = let e = minus_all f swaps in omega (arith, ints)
limit_by false value f swaps h = let e = plus_all f swaps in omega (arith, ints)

limits_kept : (e : Election) (goal : Goal) (swaps : List (List ℕ × List ℕ)) (limits : List Limit) → All (λ limit. pos 0 ≤ℤ limit_value e goal swaps limit) limits
    → AllKept swaps (map (kept_limit e goal) limits)
limits_kept e goal swaps [] all = tt
limits_kept e goal swaps (limit ∷ limits) all =
    (limit_by limit.at_most limit.value (counted_for e goal limit.feature) swaps (all 0 limit (omega arith)), limits_kept e goal swaps limits (λ k d lt. all (suc k) d (omega arith)))

all_kept : (ballots : List (List ℕ)) (changes : List (ℕ × List ℕ)) (weights : List (List ℕ → ℤ)) (ks : List Kept)
    → All (λ weight. pos 0 ≤ℤ sum_z weight (after_from 1 ballots changes)) weights
    → AllKept (swaps_from 1 ballots changes) ks → AllKept (swaps_from 1 ballots changes) (map (kept_row ballots) weights ++ ks)
all_kept ballots changes [] ks holds kept = kept
all_kept ballots changes (w ∷ weights) ks holds kept =
    let here : pos 0 ≤ℤ sum_z w (after_from 1 ballots changes) = holds 0 w (omega arith) in
    let e = sum_z-after w 1 ballots changes in
    (omega (arith, ints, e, here), all_kept ballots changes weights ks (λ k d lt. holds (suc k) d (omega arith)) kept)

pub sound : (e : Election) (node : Node) (ls : List ℕ) (t : ℕ) (changes : List (ℕ × List ℕ))
    → Cuts e node ls t → IsAlteration e.poll changes → length changes < t → Meets e node changes → ⊥
sound e node ls t changes cuts ok short meets =
    let swaps = swaps_of e changes in
    sound_kept e.poll (weighed_of e node ls) t changes cuts ok short
    (all_weighed ls (kept_of e node) swaps
    (all_kept e.poll.ballots changes (rows_of e node.goal) (map (kept_limit e node.goal) node.limits) meets.holds (limits_kept e node.goal swaps node.limits meets.kept)))

pub one_bound : (e : Election) (node : Node) (ls : List ℕ) (t other : ℕ) → IsBound e node ls t → IsBound e node ls other → t ≡ other
one_bound e node ls t other a b = omega (arith, a.greatest other b.within b.cut, b.greatest t a.within a.cut)

-- ---- a gain is one number
gain-le : (p : Poll) (ws : List (ℕ × Kept)) (ballot : List ℕ) (g h : ℕ) → IsGain p ws ballot g → IsGain p ws ballot h → g ≤ h
gain-le p ws ballot g h one two = elim one.reached [
  | inl z ↦ omega arith
  | inr r ↦ let le = two.above r.0 r.1 in omega (arith, ints, r.2)
]

pub gains-unique : (p : Poll) (ws : List (ℕ × Kept)) (ballots : List (List ℕ)) (gs hs : List ℕ) → AreGains p ws ballots gs → AreGains p ws ballots hs → gs ≡ hs
gains-unique p ws [] [] [] a b = refl
gains-unique p ws [] [] (h ∷ hs) a b = absurd b
gains-unique p ws [] (g ∷ gs) hs a b = absurd a
gains-unique p ws (ballot ∷ ballots) [] hs a b = absurd a
gains-unique p ws (ballot ∷ ballots) (g ∷ gs) [] a b = absurd b
gains-unique p ws (ballot ∷ ballots) (g ∷ gs) (h ∷ hs) a b =
    let le = gain-le p ws ballot g h a.0 b.0 in
    let ge = gain-le p ws ballot h g b.0 a.0 in
    let e : g ≡ h = omega arith in
    let t = gains-unique p ws ballots gs hs a.1 b.1 in
    cc

-- ---- a cut at t is a cut at each lower number
lower_kept : (p : Poll) (ws : List (ℕ × Kept)) (t u : ℕ) → u ≤ t → CutsKept p ws t → CutsKept p ws u
lower_kept p ws t u le (inl z) = inl (omega (arith, z))
lower_kept p ws t u le (inr cut) =
    let m = most-mono (u - 1) (t - 1) cut.0 (omega (arith, le)) in
    inr (cut.0, cut.1, omega (arith, ints, cut.2, m))

pub cut_below : (e : Election) (node : Node) (ls : List ℕ) (t u : ℕ) → u ≤ t → Cuts e node ls t → Cuts e node ls u
cut_below e node ls t u le cut =
    lower_kept e.poll (weighed_of e node ls) (min t (length e.poll.ballots + 1)) (min u (length e.poll.ballots + 1)) (omega (arith, le)) cut
