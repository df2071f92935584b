-- Multipliers of 0 change no cut: so a node cuts what it is split into as far as itself.
use Rattle.std.proofs.Common.{◌≡◌, ◌↔◌, ℕ, zero, suc, ◌+◌, ◌-◌, ◌<◌, ◌≤◌, List, [], ◌∷◌, ◌++◌, Some, None, Bool, true, false, cond, min, length, get_or, map, replicate, refl, sym, ap, subst, ◌∙◌, inl, inr, arith}
use Rattle.std.specs.Prelude.{ℤ, pos, ◌+ℤ◌, ◌*ℤ◌, nat_lt, not}
use Rattle.std.specs.List.{zip}
use Rattle.std.proofs.lemmas.Int.{ints}
use Rattle.std.proofs.lemmas.List.{append_assoc, append-nil, length-append, length-map, length-replicate, map-append}
use Rattle.mov_base.specs.Sums.{sum_z}
use Rattle.ballot_form.specs.Ballots.{Poll}
use Rattle.irv_count.specs.Orders.{member}
use Rattle.row_program.specs.declared.Limit.{Limit}
use Rattle.goal_rows.specs.Elections.{Election, Node}
use Rattle.goal_rows.specs.Goals.{IsKid, longer_suffixes, rows_of}
use Rattle.goal_rows.specs.Nodes.{AreLimits, Kept, kept_limit, kept_of, kept_row, node_of, with_limit, without_limits}
use Rattle.goal_rows.specs.Races.{IsGroundIn}
use Rattle.goal_rows.specs.Suffixes.{hold_weight, those}
use Rattle.goal_rows.specs.declared.goals.Goal.{Goal}
use Rattle.goal_rows.specs.declared.goals.Goal.TheVariants.{Root, Suffix, Pair, Cover}
use Rattle.goal_rows.specs.declared.parts.Ground.{Ground}
use Rattle.goal_rows.proofs.GroundSizes.{sums_of}
use Rattle.dual_bound.specs.CutTest.{AreGains, Cuts, CutsKept, IsGain, base_of, change_by, weighed_of}
use Rattle.node_bounds.specs.Ceilings.{IsCeiling}
use Rattle.node_bounds.specs.Inherited.{inherited_by_half, inherited_by_kid}
use Rattle.dual_bound.proofs.SideBySide.{none_times}
use Rattle.node_bounds.proofs.CeilingCuts.{cut_within_ceiling}

-- ---- rows and limits that come to the same

-- the same value before any replacement, and the same change by each
pub record AreLike (ws vs : List (ℕ × Kept)) : Type 0 where
  pub base : base_of ws ≡ base_of vs
  pub change : (swap : List ℕ × List ℕ) → change_by ws swap ≡ change_by vs swap

gain_like : (p : Poll) (ws vs : List (ℕ × Kept)) (old : List ℕ) (gain : ℕ) → AreLike ws vs → IsGain p ws old gain → IsGain p vs old gain
gain_like p ws vs old gain like is = record {
  above = λ new valid. let e = like.change (old, new) in let le = is.above new valid in omega (arith, ints, e, le);
  reached = elim is.reached [
    | inl none ↦ inl none
    | inr top ↦ inr (top.0, top.1, sym (like.change (old, top.0)) ∙ top.2)
  ];
}

gains_like : (p : Poll) (ws vs : List (ℕ × Kept)) (ballots : List (List ℕ)) (gains : List ℕ) → AreLike ws vs → AreGains p ws ballots gains → AreGains p vs ballots gains
gains_like p ws vs [] [] like are = tt
gains_like p ws vs [] (gain ∷ gains) like are = absurd are
gains_like p ws vs (ballot ∷ ballots) [] like are = absurd are
gains_like p ws vs (ballot ∷ ballots) (gain ∷ gains) like are = (gain_like p ws vs ballot gain like are.0, gains_like p ws vs ballots gains like are.1)

cuts_like : (p : Poll) (ws vs : List (ℕ × Kept)) (t : ℕ) → AreLike ws vs → CutsKept p ws t → CutsKept p vs t
cuts_like p ws vs t like (inl none) = inl none
cuts_like p ws vs t like (inr cut) =
    let e = like.base in
    let lt = cut.2 in
    inr (cut.0, gains_like p ws vs p.ballots cut.0 like cut.1, omega (arith, ints, e, lt))

both_ways : (p : Poll) (ws vs : List (ℕ × Kept)) (t : ℕ) → AreLike ws vs → CutsKept p ws t ↔ CutsKept p vs t
both_ways p ws vs t like = (cuts_like p ws vs t like, cuts_like p vs ws t (record { base = sym like.base; change = λ swap. sym (like.change swap) }))

-- ---- multipliers of 0

zeros_front : (f : ℕ × Kept → ℤ) (new : List Kept) (ls : List ℕ) (old : List Kept) → ((k : Kept) → f (0, k) ≡ pos 0)
    → sum_z f (zip (replicate (length new) 0 ++ ls) (new ++ old)) ≡ sum_z f (zip ls old)
zeros_front f [] ls old none = refl
zeros_front f (k ∷ new) ls old none =
    let here = none k in
    let rest = zeros_front f new ls old none in
    omega (arith, ints, here, rest)

zero_back : (f : ℕ × Kept → ℤ) (ls : List ℕ) (ks : List Kept) (k : Kept) → ((k : Kept) → f (0, k) ≡ pos 0) → length ls ≡ length ks
    → sum_z f (zip (ls ++ 0 ∷ []) (ks ++ k ∷ [])) ≡ sum_z f (zip ls ks)
zero_back f [] [] k none long = let here = none k in omega (arith, ints, here)
zero_back f [] (x ∷ ks) k none long = absurd (omega (arith, long))
zero_back f (l ∷ ls) [] k none long = absurd (omega (arith, long))
zero_back f (l ∷ ls) (x ∷ ks) k none long = ap (λ z. f (l, x) +ℤ z) (zero_back f ls ks k none (omega (arith, long)))

-- ---- a limit more

kept_half : (e : Election) (node : Node) (limit : Limit) → kept_of e (with_limit node limit) ≡ kept_of e node ++ kept_limit e node.goal limit ∷ []
kept_half e node limit =
    let rows = map (kept_row e.poll.ballots) (rows_of e node.goal) in
    ap (λ ks. rows ++ ks) (map-append (kept_limit e node.goal) node.limits (limit ∷ []))
    ∙ sym (append_assoc rows (map (kept_limit e node.goal) node.limits) (kept_limit e node.goal limit ∷ []))

half_like : (e : Election) (node : Node) (limit : Limit) (ls : List ℕ) → length ls ≡ length (kept_of e node)
    → AreLike (weighed_of e (with_limit node limit) (inherited_by_half ls)) (weighed_of e node ls)
half_like e node limit ls long =
    let k = kept_limit e node.goal limit in
    subst (λ ks. AreLike (zip (ls ++ 0 ∷ []) ks) (weighed_of e node ls)) (sym (kept_half e node limit)) (record {
      base = zero_back (λ w. pos w.0 *ℤ w.1.start) ls (kept_of e node) k (λ k. none_times k.start) long;
      change = λ swap. zero_back (λ w. pos w.0 *ℤ w.1.change swap) ls (kept_of e node) k (λ k. none_times (k.change swap)) long;
    })

pub half_cuts : (e : Election) (node : Node) (limit : Limit) (ls : List ℕ) (t : ℕ) → length ls ≡ length (kept_of e node)
    → Cuts e (with_limit node limit) (inherited_by_half ls) t ↔ Cuts e node ls t
half_cuts e node limit ls t long = both_ways e.poll (weighed_of e (with_limit node limit) (inherited_by_half ls)) (weighed_of e node ls) (min t (length e.poll.ballots + 1)) (half_like e node limit ls long)

-- ---- a goal that another one is split into

at_of : {A B : Type 0} (f : A → B) (xs : List A) (k : ℕ) (d : B) (a : A) → k < length (map f xs) → get_or (map f xs) k d ≡ f (get_or xs k a)
at_of f [] k d a lt = absurd (omega (arith, lt))
at_of f (x ∷ xs) zero d a lt = refl
at_of f (x ∷ xs) (suc k) d a lt = at_of f xs k d a (omega (arith, lt))

-- the rows of the one are those of the other, behind new ones
pub record IsBehind (e : Election) (goal kid : Goal) : Type 0 where
  pub new : List (List ℕ → ℤ)
  pub rows : rows_of e kid ≡ new ++ rows_of e goal

some_kids : (t : Bool) (kids others : List Goal) → cond t (Some others) None ≡ Some kids → others ≡ kids
some_kids true kids others e = cc
some_kids false kids others e = cc

no_kids : (kids : List Goal) → None ≡ Some kids → ⊥
no_kids kids e = cc

longer : (e : Election) (suffix : List ℕ) (kids : List Goal) (place : ℕ) (kid : Goal) → longer_suffixes e.poll.c suffix ≡ kids → place < length kids → get_or kids place kid ≡ kid
    → (z : ℕ) × (Suffix (z ∷ suffix) ≡ kid)
longer e suffix kids place kid are within is =
    let zs = those e.poll.c (λ z. not (member z suffix)) in
    let here = subst (λ ks. place < length ks) (sym are) within in
    (get_or zs place 0, sym (at_of (λ z. Suffix (z ∷ suffix)) zs place kid 0 here) ∙ ap (λ ks. get_or ks place kid) are ∙ is)

pub behind : (e : Election) (goal : Goal) (place : ℕ) (kid : Goal) → IsKid e goal place kid → IsBehind e goal kid
behind e Root place kid is = record { new = rows_of e kid; rows = sym (append-nil (rows_of e kid)) }
behind e (Suffix suffix) place kid is =
    let z = longer e suffix is.0 place kid (some_kids (nat_lt (length suffix) e.poll.c) is.0 (longer_suffixes e.poll.c suffix) is.1) is.2 is.3 in
    subst (IsBehind e (Suffix suffix)) z.1 (record { new = map (λ y. hold_weight (z.0 ∷ suffix) y z.0) suffix; rows = refl })
behind e (Pair g l) place kid is = absurd (no_kids is.0 is.1)
behind e (Cover x) place kid is = absurd (no_kids is.0 is.1)

kept_kid : (e : Election) (goal kid : Goal) (is : IsBehind e goal kid)
    → kept_of e (without_limits kid) ≡ map (kept_row e.poll.ballots) is.new ++ kept_of e (without_limits goal)
kept_kid e goal kid is =
    let old = map (kept_row e.poll.ballots) (rows_of e goal) in
    append-nil (map (kept_row e.poll.ballots) (rows_of e kid))
    ∙ ap (map (kept_row e.poll.ballots)) is.rows
    ∙ map-append (kept_row e.poll.ballots) is.new (rows_of e goal)
    ∙ ap (λ ks. map (kept_row e.poll.ballots) is.new ++ ks) (sym (append-nil old))

kid_like : (e : Election) (goal kid : Goal) (ls : List ℕ) → IsBehind e goal kid
    → AreLike (weighed_of e (without_limits kid) (inherited_by_kid e goal kid ls)) (weighed_of e (without_limits goal) ls)
kid_like e goal kid ls is =
    let new = map (kept_row e.poll.ballots) is.new in
    let all = ap length is.rows in
    let both = length-append is.new (rows_of e goal) in
    let made = length-map is.new (kept_row e.poll.ballots) in
    let count : length (rows_of e kid) - length (rows_of e goal) ≡ length new = omega (arith, all, both, made) in
    let old = kept_of e (without_limits goal) in
    subst (λ n. AreLike (zip (replicate n 0 ++ ls) (kept_of e (without_limits kid))) (weighed_of e (without_limits goal) ls)) (sym count)
    (subst (λ ks. AreLike (zip (replicate (length new) 0 ++ ls) ks) (weighed_of e (without_limits goal) ls)) (sym (kept_kid e goal kid is)) (record {
      base = zeros_front (λ w. pos w.0 *ℤ w.1.start) new ls old (λ k. none_times k.start);
      change = λ swap. zeros_front (λ w. pos w.0 *ℤ w.1.change swap) new ls old (λ k. none_times (k.change swap));
    }))

pub kid_cuts : (e : Election) (goal : Goal) (place : ℕ) (kid : Goal) (ls : List ℕ) (t : ℕ) → IsKid e goal place kid
    → Cuts e (without_limits kid) (inherited_by_kid e goal kid ls) t ↔ Cuts e (without_limits goal) ls t
kid_cuts e goal place kid ls t is =
    both_ways e.poll (weighed_of e (without_limits kid) (inherited_by_kid e goal kid ls)) (weighed_of e (without_limits goal) ls) (min t (length e.poll.ballots + 1))
    (kid_like e goal kid ls (behind e goal place kid is))

-- ---- so no ceiling falls

pub no_limits_are : (e : Election) (goal : Goal) → AreLimits e (without_limits goal)
no_limits_are e goal = record { few = omega arith; small = λ k d lt. absurd (omega (arith, lt)); features = λ k d lt. absurd (omega (arith, lt)) }

pub kid_ceiling : (e : Election) (goal : Goal) (place : ℕ) (start : Ground) (ls : List ℕ) (t v : ℕ) → IsGroundIn e start → IsKid e goal place start.goal → length ls ≡ length (rows_of e goal)
    → t ≤ length e.poll.ballots + 1 → Cuts e (without_limits goal) ls t → IsCeiling e (without_limits start.goal) v → t ≤ v
kid_ceiling e goal place start ls t v is kid one_each within cut ceiling =
    let rows = behind e goal place start.goal kid in
    let all = ap length rows.rows in
    let both = length-append rows.new (rows_of e goal) in
    let sums = sums_of start start.goal (e, is) refl in
    let n = length (rows_of e start.goal) - length (rows_of e goal) in
    let zeros : List ℕ = replicate n 0 in
    let front : length zeros ≡ n = length-replicate n 0 in
    let long = length-append zeros ls in
    cut_within_ceiling e start [] (inherited_by_kid e goal start.goal ls) t v is (no_limits_are e start.goal) (omega (arith, all, both, sums, front, long, one_each)) within
    ((kid_cuts e goal place start.goal ls t kid).1 cut) ceiling

pub half_ceiling : (e : Election) (start : Ground) (limits : List Limit) (limit : Limit) (ls : List ℕ) (t v : ℕ) → IsGroundIn e start
    → AreLimits e (with_limit (node_of start limits) limit) → length ls ≡ length start.sums + length limits → t ≤ length e.poll.ballots + 1
    → Cuts e (node_of start limits) ls t → IsCeiling e (with_limit (node_of start limits) limit) v → t ≤ v
half_ceiling e start limits limit ls t v is few one_each within cut ceiling =
    let sums = sums_of start start.goal (e, is) refl in
    let rows = length-map (rows_of e start.goal) (kept_row e.poll.ballots) in
    let more = length-map limits (kept_limit e start.goal) in
    let both = length-append (map (kept_row e.poll.ballots) (rows_of e start.goal)) (map (kept_limit e start.goal) limits) in
    let long = length-append ls (0 ∷ []) in
    let behind = length-append limits (limit ∷ []) in
    cut_within_ceiling e start (limits ++ limit ∷ []) (inherited_by_half ls) t v is few (omega (arith, long, behind, one_each)) within
    ((half_cuts e (node_of start limits) limit ls t (omega (arith, sums, rows, more, both, one_each))).1 cut) ceiling
