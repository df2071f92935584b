-- What a ballot counts in the rows of a cover, by its key, and the most that a new one brings.
use Rattle.std.proofs.Common.{◌≡◌, ◌≢◌, ℕ, zero, suc, ◌<◌, ◌≤◌, List, [], ◌∷◌, Bool, true, false, length, map, ap, refl, sym, ◌∙◌, arith}
use Rattle.std.specs.Prelude.{◌==◌, ◌&&◌, not, Contains, ℤ, pos, ◌-ℤ◌, ◌*ℤ◌, ◌≤ℤ◌}
use Rattle.std.proofs.Math.IntN.{negsuc}
use Rattle.std.proofs.lemmas.Int.{ints}
use Rattle.mov_base.specs.Sums.{add_up}
use Rattle.condorcet_count.specs.Preferences.{prefers}
use Rattle.irv_count.specs.Orders.{member, stands}
use Rattle.irv_count.proofs.Members.{differ_test, same_test}
use Rattle.signature_class.specs.Signatures.{cover_key, up_to}
use Rattle.signature_class.specs.declared.limits.TheConstants.{MOST_PLACES}
use Rattle.signature_class.proofs.Covers.{preferred_over, preferred_to}
use Rattle.signature_class.proofs.KeyBits.{stands_bits}
use Rattle.sig_graph.specs.Rows.{one_where}
use Rattle.goal_rows.specs.KeyCounts.{is_over}
use Rattle.goal_rows.specs.Suffixes.{cover_rows, others, prefer_points, prefer_weight}
use Rattle.goal_rows.proofs.Lists.{is_other, other_is, those_are}
use Rattle.dual_bound.specs.Weighing.{over_weight, times_all}
use Rattle.dual_bound.proofs.Keyed.{worth}

-- ---- by the key

key_bit : (x y : ℕ) (ballot : List ℕ) → y < 40 → stands (cover_key x ballot) y ≡ member y (up_to x ballot)
key_bit x y ballot low = stands_bits MOST_PLACES (λ z. member z (up_to x ballot)) y low

and_true : (b : Bool) → (b && true) ≡ b
and_true true = refl
and_true false = refl

over_by_key : (x j : ℕ) (ballot : List ℕ) → x < 40 → j < 40 → prefers ballot x j ≡ is_over x j (cover_key x ballot)
over_by_key x j ballot xl jl =
    preferred_to x j ballot
    ∙ ap (λ b. b && not (member j (up_to x ballot))) (sym (key_bit x x ballot xl))
    ∙ ap (λ b. stands (cover_key x ballot) x && not b) (sym (key_bit x j ballot jl))

under_by_key : (x j : ℕ) (ballot : List ℕ) → j < 40 → j ≢ x → prefers ballot j x ≡ stands (cover_key x ballot) j
under_by_key x j ballot jl differ =
    preferred_over x j ballot ∙ ap (λ b. member j (up_to x ballot) && b) (is_other j x differ) ∙ and_true (member j (up_to x ballot)) ∙ sym (key_bit x j ballot jl)

weight_by_key : (x j : ℕ) (ballot : List ℕ) → x < 40 → j < 40 → j ≢ x → prefer_weight x j ballot ≡ over_weight x (cover_key x ballot) j
weight_by_key x j ballot xl jl differ =
    ap (λ t. pos (one_where t) -ℤ pos (prefer_points j x ballot)) (over_by_key x j ballot xl jl)
    ∙ ap (λ t. pos (one_where (is_over x j (cover_key x ballot))) -ℤ pos (one_where t)) (under_by_key x j ballot jl differ)

-- other candidates than x, of few
abbrev AreOthers : ℕ → List ℕ → Type 0
AreOthers x [] = Unit {0}
AreOthers x (j ∷ js) = (j < 40) × (j ≢ x) × AreOthers x js

are_others : (x : ℕ) (js : List ℕ) → ((j : ℕ) → Contains js j → (j < 40) × (j ≢ x)) → AreOthers x js
are_others x [] each = tt
are_others x (j ∷ js) each =
    let here = each j (0, omega arith, refl) in
    (here.0, here.1, are_others x js (λ k there. each k (suc there.0, omega (arith, there.1), there.2)))

others_are : (c x : ℕ) → c ≤ 40 → AreOthers x (others c x)
others_are c x few = are_others x (others c x) (λ j there. let is = those_are c j (λ k. not (k == x)) there in (omega (arith, is.0, few), other_is j x is.1))

weights_by_key : (x : ℕ) (ballot js : List ℕ) → x < 40 → AreOthers x js
    → map (λ (weight : List ℕ → ℤ). weight ballot) (map (λ j. prefer_weight x j) js) ≡ map (over_weight x (cover_key x ballot)) js
weights_by_key x ballot [] xl are = refl
weights_by_key x ballot (j ∷ js) xl are =
    ap (λ z. z ∷ map (λ (weight : List ℕ → ℤ). weight ballot) (map (λ j. prefer_weight x j) js)) (weight_by_key x j ballot xl are.0 are.1)
    ∙ ap (λ zs. over_weight x (cover_key x ballot) j ∷ zs) (weights_by_key x ballot js xl are.2)

pub cover_worth : (c x : ℕ) (rows ballot : List ℕ) → x < c → c ≤ 40 → worth rows (cover_rows c x) ballot ≡ times_all rows (map (over_weight x (cover_key x ballot)) (others c x))
cover_worth c x rows ballot xc few = ap (times_all rows) (weights_by_key x ballot (others c x) (omega (arith, xc, few)) (others_are c x few))

-- ---- the most that a new ballot brings

one_at_most : (t : Bool) → one_where t ≤ 1
one_at_most true = omega arith
one_at_most false = omega arith

weight_at_most : (x j : ℕ) (ballot : List ℕ) → prefer_weight x j ballot ≤ℤ pos 1
weight_at_most x j ballot = let few = one_at_most (prefers ballot x j) in omega (arith, ints, few)

times_at_most : (l : ℕ) (z : ℤ) → z ≤ℤ pos 1 → (pos l *ℤ z) ≤ℤ pos l
times_at_most l (pos zero) le = omega (arith, ints)
times_at_most l (pos (suc zero)) le = omega (arith, ints)
times_at_most l (pos (suc (suc n))) le = absurd (omega (arith, ints, le))
times_at_most l (negsuc n) le = omega (arith, ints)

-- no ballot brings more than the sum of the multipliers
pub cover_above : (x : ℕ) (rows ballot js : List ℕ) → worth rows (map (λ j. prefer_weight x j) js) ballot ≤ℤ pos (add_up (λ l. l) rows)
cover_above x [] ballot js = omega (arith, ints)
cover_above x (l ∷ rows) ballot [] = omega (arith, ints)
cover_above x (l ∷ rows) ballot (j ∷ js) =
    let here = times_at_most l (prefer_weight x j ballot) (weight_at_most x j ballot) in
    let rest = cover_above x rows ballot js in
    omega (arith, ints, here, rest)

over_alone : (x j : ℕ) → j ≢ x → prefers (x ∷ []) x j ≡ true
over_alone x j differ =
    let here = same_test x x refl in
    let apart = differ_test j x differ in
    preferred_to x j (x ∷ []) ∙ rw (here, here, apart) refl

under_alone : (x j : ℕ) → j ≢ x → prefers (x ∷ []) j x ≡ false
under_alone x j differ =
    let here = same_test x x refl in
    let apart = differ_test j x differ in
    preferred_over x j (x ∷ []) ∙ rw (here, apart) refl

weight_alone : (x j : ℕ) → j ≢ x → prefer_weight x j (x ∷ []) ≡ pos 1
weight_alone x j differ =
    ap (λ t. pos (one_where t) -ℤ pos (prefer_points j x (x ∷ []))) (over_alone x j differ) ∙ ap (λ t. pos 1 -ℤ pos (one_where t)) (under_alone x j differ)

reached_from : (x : ℕ) (rows js : List ℕ) → AreOthers x js → length rows ≡ length js → worth rows (map (λ j. prefer_weight x j) js) (x ∷ []) ≡ pos (add_up (λ l. l) rows)
reached_from x [] js are long = refl
reached_from x (l ∷ rows) [] are long = absurd (omega (arith, long))
reached_from x (l ∷ rows) (j ∷ js) are long =
    let here = ap (λ z. pos l *ℤ z) (weight_alone x j are.1) in
    let rest = reached_from x rows js are.2 (omega (arith, long)) in
    omega (arith, ints, here, rest)

-- the ballot that ranks the candidate alone does
pub cover_reached : (c x : ℕ) (rows : List ℕ) → c ≤ 40 → length rows ≡ length (others c x) → worth rows (cover_rows c x) (x ∷ []) ≡ pos (add_up (λ l. l) rows)
cover_reached c x rows few long = reached_from x rows (others c x) (others_are c x few) long
