-- The variables of a program: each has a feature of its own, and how many there can be of it.
use Rattle.std.proofs.Common.{◌≡◌, ℕ, zero, suc, ◌+◌, ◌*◌, ◌<◌, ◌≤◌, ◌∙◌, List, [], ◌∷◌, All, Some, None, true, cond, get_or, length, map, refl, sym, ap, subst, arith, inl, inr}
use Rattle.std.specs.Prelude.{Contains, slice_get, slice_index}
use Rattle.std.proofs.lemmas.Bool.{cases_lt}
use Rattle.std.proofs.lemmas.List.{get_or_default, length-map}
use Rattle.std.proofs.lemmas.List.Elements.{All-append, All-cons}
use Rattle.std.proofs.lemmas.Option.{get_or_from_slice_get, slice_get_within}
use Rattle.ballot_form.specs.declared.limits.TheConstants.{MOST_BALLOTS}
use Rattle.row_program.specs.declared.Feature.{Feature}
use Rattle.row_program.specs.declared.Feature.TheVariants.{From, Arc}
use Rattle.row_program.specs.declared.Limit.{Limit}
use Rattle.goal_rows.specs.Cells.{Variable, high_end, low_end, same_feature, variables_of}
use Rattle.goal_rows.specs.Elections.{Election}
use Rattle.goal_rows.specs.Programs.{IsPointOf, arcs_under}
use Rattle.goal_rows.specs.Races.{IsGroundIn}
use Rattle.goal_rows.specs.declared.parts.Ground.{Ground}
use Rattle.dual_bound.specs.CellCuts.{features_of}
use Rattle.dual_bound.proofs.CellFeatures.{count, counted_once}
use Rattle.dual_bound.proofs.GivenLimits.{same_feature_on}
use Rattle.node_bounds.proofs.CellPoints.{ranges_at}
use Rattle.search_leaves.proofs.ClassCopies.{counts_small}

-- ---- features

count_some : (fs : List Feature) (g : Feature) (k : ℕ) (d : Feature) → k < length fs → get_or fs k d ≡ g → 1 ≤ count fs g
count_some [] g k d lt is = absurd (omega (arith, lt))
count_some (f ∷ fs) g zero d lt is = let on : same_feature f g ≡ true = subst (λ h. same_feature h g ≡ true) (sym is) (same_feature_on g) in rw on (omega arith)
count_some (f ∷ fs) g (suc k) d lt is = let rest = count_some fs g k d (omega (arith, lt)) is in omega (arith, rest)

count_two : (fs : List Feature) (g : Feature) (i j : ℕ) (d : Feature) → i < j → j < length fs → get_or fs i d ≡ g → get_or fs j d ≡ g → 2 ≤ count fs g
count_two [] g i j d less lt one two = absurd (omega (arith, lt))
count_two (f ∷ fs) g i zero d less lt one two = absurd (omega (arith, less))
count_two (f ∷ fs) g zero (suc j) d less lt one two =
    let on : same_feature f g ≡ true = subst (λ h. same_feature h g ≡ true) (sym one) (same_feature_on g) in
    let rest = count_some fs g j d (omega (arith, lt)) two in
    rw on (omega (arith, rest))
count_two (f ∷ fs) g (suc i) (suc j) d less lt one two = let rest = count_two fs g i j d (omega (arith, less)) (omega (arith, lt)) one two in omega (arith, rest)

feature_there : (vs : List Variable) (k : ℕ) (d : Variable) (f : Feature) → k < length vs → get_or (map (λ (v : Variable). v.feature) vs) k f ≡ (get_or vs k d).feature
feature_there [] k d f lt = absurd (omega (arith, lt))
feature_there (v ∷ vs) zero d f lt = refl
feature_there (v ∷ vs) (suc k) d f lt = feature_there vs k d f (omega (arith, lt))

-- ---- ends

class_ends : (classes : List (ℕ × ℕ)) → All (λ (c : ℕ × ℕ). c.1 ≤ MOST_BALLOTS) classes → All (λ (v : Variable). v.end ≤ MOST_BALLOTS) (map (λ (c : ℕ × ℕ). record { feature = From c.0; end = c.1 }) classes)
class_ends [] all = λ k d lt. absurd (omega (arith, lt))
class_ends (c ∷ classes) all = All-cons (λ (v : Variable). v.end ≤ MOST_BALLOTS) (record { feature = From c.0; end = c.1 }) (map (λ (c : ℕ × ℕ). record { feature = From c.0; end = c.1 }) classes)
    (all 0 c (omega arith)) (class_ends classes (λ j d less. all (suc j) d (omega (arith, less))))

arc_ends : (arcs : List (ℕ × ℕ)) (n : ℕ) → n ≤ MOST_BALLOTS → All (λ (v : Variable). v.end ≤ MOST_BALLOTS) (map (λ (a : ℕ × ℕ). record { feature = Arc a.0 a.1; end = n }) arcs)
arc_ends [] n le = λ k d lt. absurd (omega (arith, lt))
arc_ends (a ∷ arcs) n le = All-cons (λ (v : Variable). v.end ≤ MOST_BALLOTS) (record { feature = Arc a.0 a.1; end = n }) (map (λ (a : ℕ × ℕ). record { feature = Arc a.0 a.1; end = n }) arcs) le (arc_ends arcs n le)

ends_small : (e : Election) (start : Ground) → IsGroundIn e start → All (λ (v : Variable). v.end ≤ MOST_BALLOTS) (variables_of start)
ends_small e start is = All-append (λ (v : Variable). v.end ≤ MOST_BALLOTS) (map (λ (c : ℕ × ℕ). record { feature = From c.0; end = c.1 }) start.classes) (map (λ (a : ℕ × ℕ). record { feature = Arc a.0 a.1; end = start.ballots }) (arcs_under start.goal))
    (class_ends start.classes (counts_small start (e, is)))
    (arc_ends (arcs_under start.goal) start.ballots (let n = is.values.ballots in let few = is.election.poll.few in omega (arith, n, few)))

-- a variable has at most as many as there can be ballots, and no other one has its feature
pub record IsOneEnd (start : Ground) (v : Variable) : Type 0 where
  pub most : v.end ≤ MOST_BALLOTS
  pub alone : (k : ℕ) (d : Variable) → k < length (variables_of start) → (get_or (variables_of start) k d).feature ≡ v.feature → get_or (variables_of start) k d ≡ v

pub one_end : (e : Election) (start : Ground) (place : ℕ) (v : Variable) → IsGroundIn e start → slice_get (variables_of start) place ≡ Some v → IsOneEnd start v
one_end e start place v is stands =
    let vs = variables_of start in
    let within = slice_get_within vs place v stands in
    let there = get_or_from_slice_get vs place v v stands in
    let g = v.feature in
    let long = length-map vs (λ (v : Variable). v.feature) in
    let at : get_or (features_of start) place g ≡ g = feature_there vs place v g within ∙ ap (λ (w : Variable). w.feature) there in
    let once = counted_once e start g is.values (place, omega (arith, within, long), at) in
    record {
      most = subst (λ (w : Variable). w.end ≤ MOST_BALLOTS) there (ends_small e start is place v within);
      alone = λ k d lt same.
          let other : get_or (features_of start) k g ≡ g = feature_there vs k d g lt ∙ same in
          let here : k ≡ place = elim (cases_lt k place) [
            | inl less ↦ absurd (let two = count_two (features_of start) g k place g less (omega (arith, within, long)) other at in omega (arith, two, once))
            | inr le ↦ elim (cases_lt place k) [
              | inl more ↦ absurd (let two = count_two (features_of start) g place k g more (omega (arith, lt, long)) at other in omega (arith, two, once))
              | inr also ↦ omega (arith, le, also)
            ]
          ] in
          ap (λ j. get_or vs j d) here ∙ get_or_default vs place d v within ∙ there;
    }

-- ---- points

-- a number over a denominator lies between the ends that the limits leave a variable
pub record IsBetween (limits : List Limit) (v : Variable) (x den : ℕ) : Type 0 where
  pub low : low_end limits v.feature * den ≤ x
  pub high : x ≤ high_end limits v * den

pub point_between : (e : Election) (start : Ground) (limits : List Limit) (whole : List ℕ) (den : ℕ) → IsGroundIn e start → IsPointOf start limits whole den
    → (k : ℕ) (v : Variable) → slice_get (variables_of start) k ≡ Some v → IsBetween limits v (slice_index whole k) den
point_between e start limits whole den is point k v stands =
    let vs = variables_of start in
    let range = ranges_at e start limits whole den is point k v (slice_get_within vs k v stands) in
    let there = get_or_from_slice_get vs k v v stands in
    record {
      low = subst (λ (w : Variable). low_end limits w.feature * den ≤ slice_index whole k) there range.0;
      high = subst (λ (w : Variable). slice_index whole k ≤ high_end limits w * den) there range.1;
    }
