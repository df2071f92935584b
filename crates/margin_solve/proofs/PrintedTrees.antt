-- The tree of a search is within the limits of the text.
use Rattle.std.proofs.Common.{◌≡◌, ℕ, ◌+◌, ◌-◌, ◌*◌, ◌<◌, ◌≤◌, List, [], ◌∷◌, ◌++◌, All, Bool, true, false, Some, None, cond, length, refl, ap, subst, arith, inl, inr}
use Rattle.std.specs.Prelude.{◌/◌, ◌^◌, nat_lt, not, slice_get, slice_index}
use Rattle.std.proofs.Math.Nat.{mul-le-mul, mul-le-mul_right}
use Rattle.std.proofs.Math.Pow.{pow_mono}
use Rattle.std.proofs.lemmas.Bool.{cases_lt}
use Rattle.std.proofs.lemmas.List.{length-append}
use Rattle.std.proofs.lemmas.List.Elements.{All-append, All-cons, All-head, All-nil, All-tail}
use Rattle.std.proofs.lemmas.Nat.{div-add-mod'}
use Rattle.ballot_form.specs.declared.limits.TheConstants.{MOST_BALLOTS, MOST_CANDIDATES}
use Rattle.ballot_form.proofs.Lengths.{length_valid}
use Rattle.exact_num.specs.declared.limits.TheConstants.{WIDE}
use Rattle.irv_count.specs.Orders.{member}
use Rattle.row_program.specs.declared.Feature.{Feature}
use Rattle.row_program.specs.declared.Feature.TheVariants.{From, Arc}
use Rattle.row_program.specs.declared.Limit.{Limit}
use Rattle.row_program.specs.declared.limits.TheConstants.{MOST_KIDS}
use Rattle.bound_tree.specs.Lines.{SplitInto, BranchBy, CutWith, kid_count, lines_of, lines_of_all}
use Rattle.bound_tree.specs.Nodes.{height, highest}
use Rattle.bound_tree.specs.Plain.{Plain, Kids, Split, Branch, Cut, None as NoKids, More}
use Rattle.bound_tree.specs.declared.bound.TheConstants.{MOST_DEPTH}
use Rattle.cert_text.specs.CertText.{LineFits}
use Rattle.cert_text.specs.declared.limits.TheConstants.{GREATEST_VALUE}
use Rattle.goal_rows.specs.Cells.{Variable, high_end}
use Rattle.goal_rows.specs.Elections.{Election, Node}
use Rattle.goal_rows.specs.Goals.{IsElection, IsReached, cover_of, kid_goals, longer_suffixes, rows_of}
use Rattle.goal_rows.specs.Nodes.{IsFeatureOf, high_half, high_limit, low_half, low_limit, number_count, with_limit, without_limits}
use Rattle.goal_rows.specs.Races.{IsGroundIn}
use Rattle.goal_rows.specs.declared.goals.Goal.{Goal}
use Rattle.goal_rows.specs.declared.goals.Goal.TheVariants.{Root, Suffix, Pair, Cover}
use Rattle.goal_rows.proofs.Lengths.{cover_rows_less, suffix_rows_count}
use Rattle.goal_rows.proofs.Lists.{made_few}
use Rattle.goal_rows.proofs.Ways.{reached_cover, reached_suffix}
use Rattle.dual_bound.proofs.CellEnds.{high_below}
use Rattle.tree_proofs.specs.Proving.{ProveAll, Proves}
use Rattle.tree_proofs.proofs.Ways.{cover_reached}
use Rattle.node_bounds.specs.Ceilings.{ground_at}
use Rattle.search_theory.specs.Branchings.{Branching, IsBranching, IsFloor, IsLeastOf, IsMiddle, Values, variables_at}
use Rattle.search_theory.specs.Spots.{EveryKid, Everywhere, Spot, below, root_spot, spots_below}
use Rattle.search_theory.specs.Trees.{IsNeeded, needed_words}
use Rattle.search_leaves.proofs.PointRanges.{one_end, point_between}
use Rattle.margin_solve.specs.Numbers.{AllNarrow, AreNarrow}

-- ---- splits

longer_few : (c : ℕ) (suffix : List ℕ) (goals : List Goal) (t : Bool) → cond t (Some (longer_suffixes c suffix)) None ≡ Some goals → length goals ≤ c
longer_few c suffix goals true covered =
    let same : longer_suffixes c suffix ≡ goals = cc (covered) in
    subst (λ goals. length goals ≤ c) same (made_few (λ z. Suffix (z ∷ suffix)) c (λ z. not (member z suffix)))
longer_few c suffix goals false covered = cc (covered)

-- a goal is split into few
cover_few : (e : Election) (goal : Goal) (goals : List Goal) → IsElection e → cover_of e goal ≡ Some goals → length goals ≤ MOST_KIDS
cover_few e Root goals is covered = let same : e.roots ≡ goals = cc (covered) in subst (λ goals. length goals ≤ MOST_KIDS) same is.roots.few
cover_few e (Suffix suffix) goals is covered =
    let few = longer_few e.poll.c suffix goals (nat_lt (length suffix) e.poll.c) covered in
    let most = is.poll.most in
    omega (arith, few, most)
cover_few e (Pair g l) goals is covered = cc (covered)
cover_few e (Cover x) goals is covered = cc (covered)

-- a split has a kid for each goal
as_many : (e : Election) (t : ℕ) (goals : List Goal) (kids : Kids) → ProveAll e t goals kids → kid_count kids ≡ length goals
as_many e t [] NoKids proved = refl
as_many e t [] (More kid kids) proved = absurd proved
as_many e t (goal ∷ goals) NoKids proved = absurd proved
as_many e t (goal ∷ goals) (More kid kids) proved = let rest = as_many e t goals kids proved.1 in omega (arith, rest)

-- ---- branches

-- a reached suffix is no longer than an order of all candidates
suffix_few : (e : Election) (suffix : List ℕ) → IsElection e → IsReached e (Suffix suffix) → length suffix ≤ MOST_CANDIDATES
suffix_few e suffix is reached =
    let valid = (reached_suffix e suffix is.roots reached).1 in
    let few = length_valid e.poll.c suffix valid in
    let most = is.poll.most in
    omega (arith, few, most)

-- the feature and the value of a branch
branch_fits : (e : Election) (goal : Goal) (feature : Feature) (value : ℕ) → IsElection e → IsReached e goal → IsFeatureOf e goal feature → value ≤ GREATEST_VALUE → LineFits (BranchBy feature value)
branch_fits e Root feature value is reached of small = absurd of
branch_fits e (Suffix suffix) (From key) value is reached of small =
    let pow : 2 ^ length suffix ≤ 2 ^ 12 = pow_mono {i = length suffix} {j = 12} (let few = suffix_few e suffix is reached in omega (arith, few)) in
    (omega (arith, of, pow), small)
branch_fits e (Suffix suffix) (Arc u p) value is reached of small =
    let few = suffix_few e suffix is reached in
    (omega (arith, of.0, of.1, few), omega (arith, of.0), omega (arith, of.1, few), small)
branch_fits e (Pair g l) feature value is reached of small = absurd of
branch_fits e (Cover x) (From key) value is reached of small =
    let pow : 2 ^ e.poll.c ≤ 2 ^ 12 = pow_mono {i = e.poll.c} {j = 12} (let most = is.poll.most in omega (arith, most)) in
    (omega (arith, of, pow), small)
branch_fits e (Cover x) (Arc u p) value is reached of small = absurd of

-- the floor of a number below the most that isn't whole
floor_below : (x den high : ℕ) → x ≤ high * den → (x ≡ high * den → ⊥) → x / den < high
floor_below x den high le part = elim (cases_lt (x / den) high) [
  | inl less ↦ less
  | inr more ↦ absurd (
      let is = div-add-mod' x den in
      let up : high * den ≤ x / den * den = mul-le-mul_right den more in
      part (omega (arith, is, le, up)))
]

-- a node is branched at less than there can be ballots
module _ (e : Election) (node : Node) (election : IsElection e) (reached : IsReached e node.goal) where
  ground_in : IsGroundIn e (ground_at e node.goal)
  ground_in = record { election = election; reached = reached; values = record { classes = refl; sums = refl; ballots = refl; lone = refl } }

  end_small : (place : ℕ) (v : Variable) → slice_get (variables_at e node) place ≡ Some v → high_end node.limits v ≤ MOST_BALLOTS
  end_small place v stands =
      let end = one_end e (ground_at e node.goal) place v ground_in stands in
      let high = high_below node.limits v in
      let most = end.most in
      omega (arith, high, most)

  value_at_floor : (q : Values) (b : Branching) → IsLeastOf e node q → IsFloor e node q b → b.value < MOST_BALLOTS
  value_at_floor q b least is =
      let v = is.variable in
      let x = slice_index q.whole is.place in
      let between = point_between e (ground_at e node.goal) node.limits q.whole q.den ground_in least.point is.place v is.stands in
      let under = floor_below x q.den (high_end node.limits v) between.high (λ same. is.part (high_end node.limits v, same)) in
      let most = end_small is.place v is.stands in
      let floor = is.floor in
      omega (arith, under, most, floor)

  value_in_middle : (b : Branching) → IsMiddle e node b → b.value < MOST_BALLOTS
  value_in_middle b is =
      let most = end_small is.place is.variable is.stands in
      let wide = is.wide in
      let middle = is.middle in
      omega (arith, most, wide, middle)

  value_small : (b : Branching) → IsBranching e node b → b.value ≤ GREATEST_VALUE
  value_small b (inl (solid, q, least, part, floor)) = let less = value_at_floor q b least floor in omega (arith, less)
  value_small b (inr (loose, middle)) = let less = value_in_middle b middle in omega (arith, less)

-- ---- cuts

-- a goal has few rows
rows_few : (e : Election) (goal : Goal) → IsElection e → IsReached e goal → length (rows_of e goal) ≤ 780
rows_few e Root is reached = omega arith
rows_few e (Suffix suffix) is reached =
    let few = suffix_few e suffix is reached in
    let rows = suffix_rows_count suffix in
    let product : length suffix * (length suffix - 1) ≤ 12 * 12 = mul-le-mul {n₁ = length suffix} {m₁ = length suffix - 1} {n₂ = 12} {m₂ = 12} (omega (arith, few)) (omega (arith, few)) in
    omega (arith, rows, product)
rows_few e (Pair g l) is reached = omega arith
rows_few e (Cover x) is reached =
    let rows = cover_rows_less e.poll.c x (reached_cover e x is.roots reached).1 in
    let most = is.poll.most in
    omega (arith, rows, most)

-- the multipliers of a cut
cut_fits : (e : Election) (node : Node) (multipliers : List ℕ) → IsElection e → IsReached e node.goal → length multipliers ≡ number_count e node → length node.limits + 1 ≤ MOST_DEPTH
    → All (λ number. number < WIDE) multipliers → LineFits (CutWith multipliers)
cut_fits e node multipliers is reached count deep narrow =
    let rows = rows_few e node.goal is reached in (
      omega (arith, count, rows, deep),
      λ k d lt. let small = narrow k d lt in omega (arith, small),
    )

-- ---- the tree

one_limit_more : (node : Node) (limit : Limit) (high most : ℕ) → length node.limits + (high + 1) ≤ most → length (with_limit node limit).limits + high ≤ most
one_limit_more node limit high most le = let long = length-append node.limits (limit ∷ []) in omega (arith, le, long)

module _ (e : Election) (t u : ℕ) (is : IsElection e) where
  mutual
    lines_at : (tree : Plain) (spot : Spot) → IsReached e spot.node.goal → Proves e t spot.node tree → Everywhere e (needed_words e u) tree spot
        → AreNarrow tree → length spot.node.limits + height tree ≤ MOST_DEPTH → All LineFits (lines_of tree)
    lines_at (Split kids) spot reached proved needed narrow deep =
        let goals = proved.1.0 in
        let covered = proved.1.1 in
        let few = cover_few e spot.node.goal goals is covered in
        let many = as_many e t goals kids proved.1.2 in
        let needed_kids = subst (λ goals. EveryKid e (needed_words e u) kids (spots_below spot goals)) (ap kid_goals covered) needed.1 in
        All-cons LineFits (SplitInto (kid_count kids)) (lines_of_all kids) (omega (arith, few, many))
        (lines_below kids goals spot (cover_reached e goals spot.node.goal reached covered) proved.1.2 needed_kids narrow (omega (arith, deep)))
    lines_at (Branch feature value low high) spot reached proved needed narrow deep =
        let small = value_small e spot.node is reached (record { feature = feature; value = value }) needed.0.2 in
        let low_deep = one_limit_more spot.node (low_limit feature value) (height low) MOST_DEPTH (omega (arith, deep)) in
        let high_deep = one_limit_more spot.node (high_limit feature value) (height high) MOST_DEPTH (omega (arith, deep)) in
        All-cons LineFits (BranchBy feature value) (lines_of low ++ lines_of high) (branch_fits e spot.node.goal feature value is reached proved.0 small)
        (All-append LineFits (lines_of low) (lines_of high)
        (lines_at low (below spot (low_half spot.node feature value)) reached proved.1 needed.1 narrow.0 low_deep)
        (lines_at high (below spot (high_half spot.node feature value)) reached proved.2 needed.2 narrow.1 high_deep))
    lines_at (Cut multipliers) spot reached proved needed narrow deep =
        All-cons LineFits (CutWith multipliers) [] (cut_fits e spot.node multipliers is reached proved.0 deep narrow) (All-nil LineFits)

    lines_below : (kids : Kids) (goals : List Goal) (spot : Spot) → All (IsReached e) goals → ProveAll e t goals kids → EveryKid e (needed_words e u) kids (spots_below spot goals)
        → AllNarrow kids → highest kids ≤ MOST_DEPTH → All LineFits (lines_of_all kids)
    lines_below NoKids goals spot reached proved needed narrow deep = All-nil LineFits
    lines_below (More kid kids) [] spot reached proved needed narrow deep = absurd proved
    lines_below (More kid kids) (goal ∷ goals) spot reached proved needed narrow deep =
        All-append LineFits (lines_of kid) (lines_of_all kids)
        (lines_at kid (below spot (without_limits goal)) (All-head (IsReached e) goal goals reached) proved.0 needed.0 narrow.0 (omega (arith, deep)))
        (lines_below kids goals spot (All-tail (IsReached e) goal goals reached) proved.1 needed.1 narrow.1 (omega (arith, deep)))

-- each line of a proof that is needed, narrow and not too deep is within the limits of the text
pub tree_lines : (e : Election) (t u : ℕ) (tree : Plain) → IsElection e → Proves e t (without_limits Root) tree → IsNeeded e u tree
    → AreNarrow tree → height tree ≤ MOST_DEPTH → All LineFits (lines_of tree)
tree_lines e t u tree is proved needed narrow deep = lines_at e t u is tree root_spot ([], refl) proved needed narrow (omega (arith, deep))
