-- The tree of a search of a contest that is decided by pairs is the root, or the root split into its pairs; and it ends
-- where the start number is met, but where there is no room for the pairs.
use Rattle.std.proofs.Common.{◌≡◌, ◌⊎◌, ℕ, ◌+◌, ◌<◌, ◌≤◌, ◌∙◌, ◌++◌, true, false, List, [], ◌∷◌, All, length, refl, sym, ap, subst, inl, inr, arith}
use Rattle.std.specs.Prelude.{slice_index_or, Contains}
use Rattle.std.proofs.lemmas.Bool.{false≢true}
use Rattle.std.proofs.lemmas.List.{get_or_default}
use Rattle.std.proofs.lemmas.List.Elements.{All-head, All-tail}
use Rattle.bound_tree.specs.Plain.{Plain, Kids, Split, Branch, Cut, More}
use Rattle.bound_tree.specs.Plain as trees
use Rattle.goal_rows.specs.Elections.{Election, Node}
use Rattle.goal_rows.specs.Goals.{IsElection, IsReached, IsRootOf}
use Rattle.goal_rows.specs.Nodes.{IsFeatureOf, without_limits}
use Rattle.goal_rows.specs.Races.{IsGroundIn}
use Rattle.goal_rows.specs.declared.goals.Goal.{Goal}
use Rattle.goal_rows.specs.declared.goals.Goal.TheVariants.{Root, Pair}
use Rattle.goal_rows.proofs.Ways.{reached_root_goal}
use Rattle.dual_bound.specs.CutTest.{Cuts, IsBound}
use Rattle.dual_bound.proofs.Sound.{one_bound}
use Rattle.node_bounds.specs.Ceilings.{IsCeiling, ground_at}
use Rattle.node_bounds.proofs.CeilingCuts.{cut_within_ceiling}
use Rattle.node_bounds.proofs.Inheritance.{no_limits_are}
use Rattle.witness_build.specs.Witnesses.{IsPair, IsRootPair, IsStartWitness}
use Rattle.search_theory.specs.Ends.{Budget, Depth, EndsAtPoint, IsEnd, IsFirst, IsFirstOf, Problem, cuts_in}
use Rattle.search_theory.specs.Ends as searching
use Rattle.search_theory.specs.Branchings.{Values}
use Rattle.search_theory.specs.Laws.{EachOf}
use Rattle.search_theory.specs.Spots.{EveryKid, Everywhere, Hung, Spot, below, has_cover, hung_among, hung_of, root_spot, spots_below}
use Rattle.search_theory.specs.Trees.{IsAnchor, IsNeeded, IsTight, IsTightCut, needed_words, tight_words}
use Rattle.margin_solve.proofs.Cutting.{short_is_cut}
use Rattle.margin_solve.proofs.Endings.{IsBareRoot}

-- ---- the cuts of the tree

-- the goal is a pair of the root
record IsOwnPair (e : Election) (goal : Goal) : Type 0 where
  pub g : ℕ
  pub l : ℕ
  pub at : ℕ
  pub pair : goal ≡ Pair g l
  pub stands : IsRootPair e at g l
  pub root : IsRootOf e (Pair g l)

-- a tight cut of one
record IsPairCut (e : Election) (cut : Hung) : Type 0 where
  pub goal : Goal
  pub own : IsOwnPair e goal
  pub spot : cut.spot ≡ below root_spot (without_limits goal)
  pub tight : IsTightCut e cut.multipliers cut.spot

-- what stands below a pair is a tight cut
cut_below : (e : Election) (t : ℕ) (kid : Plain) (goal : Goal) → IsOwnPair e goal → Everywhere e (needed_words e t) kid (below root_spot (without_limits goal))
    → Everywhere e (tight_words e) kid (below root_spot (without_limits goal)) → (ms : List ℕ) × (kid ≡ Cut ms) × IsPairCut e (record { spot = below root_spot (without_limits goal); multipliers = ms })
cut_below e t (Cut ms) goal own needed tight = (ms, refl, record { goal = goal; own = own; spot = refl; tight = tight })
cut_below e t (Split kids) goal own needed tight =
    let covered : has_cover e (Pair own.g own.l) ≡ true = subst (λ at. has_cover e at ≡ true) own.pair needed.0.0.0 in
    absurd (false≢true covered)
cut_below e t (Branch feature value low high) goal own needed tight = absurd (subst (λ at. IsFeatureOf e at feature) own.pair needed.0.1)

-- the cuts are of pairs, where the goals are
pair_cuts : (e : Election) (t : ℕ) (kids : Kids) (goals : List Goal) → All (IsOwnPair e) goals → EveryKid e (needed_words e t) kids (spots_below root_spot goals)
    → EveryKid e (tight_words e) kids (spots_below root_spot goals) → EachOf (IsPairCut e) (hung_among e kids (spots_below root_spot goals))
pair_cuts e t trees.None goals own needed tight = tt
pair_cuts e t (More kid kids) [] own needed tight = tt
pair_cuts e t (More kid kids) (goal ∷ goals) own needed tight =
    let here = cut_below e t kid goal (All-head (IsOwnPair e) goal goals own) needed.0 tight.0 in
    let rest = hung_among e kids (spots_below root_spot goals) in
    subst (λ k. EachOf (IsPairCut e) (hung_of e k (below root_spot (without_limits goal)) ++ rest)) (sym here.1)
    (here.2, pair_cuts e t kids goals (All-tail (IsOwnPair e) goal goals own) needed.1 tight.1)

first_has : (e : Election) (P : Hung → Type 0) (low : ℕ) (cuts : List Hung) (first : Hung) → EachOf P cuts → IsFirstOf e low cuts first → P first
first_has e P low [] first each is = absurd is
first_has e P low (cut ∷ cuts) first each (inl here) = subst P (sym here.1) each.0
first_has e P low (cut ∷ cuts) first each (inr there) = first_has e P low cuts first each.1 there.3

first_bound : (e : Election) (low : ℕ) (cuts : List Hung) (first : Hung) → IsFirstOf e low cuts first → IsBound e first.spot.node first.multipliers low
first_bound e low [] first is = absurd is
first_bound e low (cut ∷ cuts) first (inl here) = subst (λ (h : Hung). IsBound e h.spot.node h.multipliers low) (sym here.1) here.0
first_bound e low (cut ∷ cuts) first (inr there) = first_bound e low cuts first there.3

-- the first cut is the root, alone in the tree, or one of a pair
first_cut : (e : Election) (t low : ℕ) (tree : Plain) (first : Hung) → All (IsOwnPair e) e.roots → IsNeeded e t tree → IsTight e tree → IsFirst e tree low first
    → IsBareRoot tree first ⊎ IsPairCut e first
first_cut e t low (Cut ms) first own needed tight (inl here) = inl (record { spot = ap (λ (h : Hung). h.spot) here.1; one = refl })
first_cut e t low (Cut ms) first own needed tight (inr there) = absurd there.3
first_cut e t low (Branch feature value lower higher) first own needed tight is = absurd (false≢true (sym needed.0.0))
first_cut e t low (Split kids) first own needed tight is =
    inr (first_has e (IsPairCut e) low (hung_among e kids (spots_below root_spot e.roots)) first (pair_cuts e t kids e.roots own needed.1 tight.1) is)

-- ---- a pair's cut is met

own_pairs : (e : Election) → IsElection e → All IsPair e.roots → All (IsOwnPair e) e.roots
own_pairs e is pairs at d lt = by (slice_index_or e.roots at d) refl (pairs at d lt)
  where
    by : (goal : Goal) → slice_index_or e.roots at d ≡ goal → IsPair goal → IsOwnPair e (slice_index_or e.roots at d)
    by goal here (g, l, pair) = record {
      g = g;
      l = l;
      at = at;
      pair = here ∙ pair;
      stands = (lt, get_or_default e.roots at Root d lt ∙ here ∙ pair);
      root = subst (IsRootOf e) (here ∙ pair) (is.roots.each at d lt);
    }

-- a pair is its own anchor
anchor_is : (e : Election) (g l : ℕ) (above : List Node) (anchor : Node) → IsAnchor e (without_limits (Pair g l) ∷ above) anchor → anchor ≡ without_limits (Pair g l)
anchor_is e g l above anchor (inl here) = here.1
anchor_is e g l above anchor (inr there) = absurd (there.0 (inr (inl refl)))

-- the first cut isn't one of a pair, where fewer are proved than the cheapest replacements
unmet_pair : (e : Election) (goal : Goal) (changes : List (ℕ × List ℕ)) (low : ℕ) (first : Hung) → IsElection e → IsStartWitness e goal changes
    → length changes ≤ length e.poll.ballots → low < length changes → IsPairCut e first → IsBound e first.spot.node first.multipliers low → ⊥
unmet_pair e goal changes low first is start few less cut bound =
    let g = cut.own.g in
    let l = cut.own.l in
    let place : first.spot ≡ below root_spot (without_limits (Pair g l)) = cut.spot ∙ ap (λ at. below root_spot (without_limits at)) cut.own.pair in
    let node : first.spot.node ≡ without_limits (Pair g l) = ap (λ (s : Spot). s.node) place in
    let tight : IsTightCut e first.multipliers (below root_spot (without_limits (Pair g l))) = subst (IsTightCut e first.multipliers) place cut.tight in
    let here : IsBound e (without_limits (Pair g l)) first.multipliers low = subst (λ n. IsBound e n first.multipliers low) node bound in
    let same : tight.0 ≡ low = one_bound e (without_limits (Pair g l)) first.multipliers tight.0 low tight.1 here in
    let anchor = anchor_is e g l (without_limits Root ∷ []) tight.2.0 tight.2.1 in
    let ceiling : IsCeiling e (without_limits (Pair g l)) tight.2.2 = subst (λ n. IsCeiling e n tight.2.2) anchor tight.2.3 in
    let short = short_is_cut e g l low is cut.own.root (omega (arith, less, few))
    (λ reached. let fewest = start.fewest cut.own.at g l low cut.own.stands reached in omega (arith, fewest, less)) in
    let there : Contains e.roots (Pair g l) = (cut.own.at, cut.own.stands.0, get_or_default e.roots cut.own.at (Pair g l) Root cut.own.stands.0 ∙ cut.own.stands.1) in
    let ground = ground_in e (Pair g l) is (reached_root_goal e (Pair g l) there) in
    let beyond = cut_within_ceiling e (ground_at e (Pair g l)) [] (1 ∷ []) (low + 1) tight.2.2 ground (no_limits_are e (Pair g l)) refl (omega (arith, less, few))
    (subst (Cuts e (without_limits (Pair g l)) (1 ∷ [])) (omega arith) short) ceiling in
    let most = tight.2.4 in
    omega (arith, beyond, most, same)
  where
    ground_in : (e : Election) (goal : Goal) → IsElection e → IsReached e goal → IsGroundIn e (ground_at e goal)
    ground_in e goal election reached = record { election = election; reached = reached; values = record { classes = refl; sums = refl; ballots = refl; lone = refl } }

-- ---- ends

module _ (p : Problem) (goal : Goal) (changes : List (ℕ × List ℕ)) (tree : Plain) (low : ℕ) (is : IsElection p.election) (pairs : All IsPair p.election.roots)
    (start : IsStartWitness p.election goal changes) (few : length changes ≤ length p.election.poll.ballots) (less : low < length changes)
    (needed : IsNeeded p.election low tree) (tight : IsTight p.election tree) where
  abbrev e : Election
  e = p.election

  -- the first cut is the root
  bare : (first : Hung) → IsFirst e tree low first → IsBareRoot tree first
  bare first here = elim (first_cut e low low tree first (own_pairs e is pairs) needed tight here) [
    | inl root ↦ root
    | inr pair ↦ absurd (unmet_pair e goal changes low first is start few less pair (first_bound e low (cuts_in e tree) first here))
  ]

  -- it is at no point
  pub at_no_point : (q : Values) → EndsAtPoint p tree low q → ⊥
  at_no_point q at =
      let root = bare at.first at.is_first in
      absurd (false≢true (sym (subst (λ (spot : Spot). has_cover e spot.node.goal ≡ false) root.spot at.at_point.complete)))

  -- the search stopped since there was no room for the pairs
  pub no_room : IsEnd p tree low Budget ⊎ IsEnd p tree low Depth → p.budget < 1 + length e.roots
  no_room (inl (on, room)) =
      let root = bare on.first on.is_first in
      let growth : searching.growth_of e on.first ≡ length e.roots = ap (λ (spot : Spot). searching.growth_of e (record { spot = spot; multipliers = on.first.multipliers })) root.spot in
      let one = root.one in
      omega (arith, room, growth, one)
  no_room (inr (on, room, deep)) =
      let root = bare on.first on.is_first in
      let depth : searching.depth_of on.first ≡ 1 = ap (λ (spot : Spot). searching.depth_of (record { spot = spot; multipliers = on.first.multipliers })) root.spot in
      absurd (omega (arith, depth, deep))
