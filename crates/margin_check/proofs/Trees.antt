-- Shape and cuts of all nodes are what a tree proves.
use Rattle.std.proofs.Common.{ℕ, zero, suc, List, [], ◌∷◌, ◌++◌, Option, Some, None, All, ◌≡◌, ◌<◌, ◌∙◌, ◌↔◌, length, get_or, refl, ap, sym, subst, inl, inr, arith}
use Rattle.std.specs.Prelude.{option_map, pos, ◌≤ℤ◌}
use Rattle.std.proofs.lemmas.List.Elements.{All-append, All-cons, All-head, All-nil, All-tail}
use Rattle.bound_tree.specs.Lines.{kid_count}
use Rattle.bound_tree.specs.Plain.{Plain, Kids, Split, Branch, Cut}
use Rattle.bound_tree.specs.Plain as tree
use Rattle.goal_rows.specs.Elections.{Election, Node}
use Rattle.goal_rows.specs.Goals.{cover_of, kid_goals}
use Rattle.goal_rows.specs.Nodes.{high_limit, low_limit, with_limit, without_limits}
use Rattle.goal_rows.specs.declared.goals.Goal.{Goal}
use Rattle.tree_proofs.specs.Proving.{ProveAll, Proves}
use Rattle.margin_check.specs.Proving.{IsProof, IsShaped, Passes}
use Rattle.margin_check.specs.Visits.{Visit, visit_of, visits, visits_among}
use Rattle.margin_check.proofs.Branches.{before, behind}

pub covered : (cover : Option (List Goal)) (n : ℕ) → option_map length cover ≡ Some n → (goals : List Goal) × (cover ≡ Some goals) × (length goals ≡ n)
covered None n many = cc (many)
covered (Some goals) n many = (goals, refl, cc (many))

same_count : (cover : Option (List Goal)) (goals : List Goal) (n : ℕ) → cover ≡ Some goals → length goals ≡ n → option_map length cover ≡ Some n
same_count cover goals n is many = ap (option_map length) is ∙ ap Some many

module _ (e : Election) (t : ℕ) where
  abbrev S : Visit → Type 0
  S visit = IsShaped e visit.node visit.tree

  abbrev C : Visit → Type 0
  C visit = Passes e t visit.node visit.tree

  mutual
    pub to_proves : (tree : Plain) (node : Node) → All S (visits e node tree) → All C (visits e node tree) → Proves e t node tree
    to_proves (Split kids) node shape cuts =
        let first : Visit = visit_of node (Split kids) in
        let rest = visits_among e (kid_goals (cover_of e node.goal)) kids in
        let here = All-head S first rest shape in
        let got = covered (cover_of e node.goal) (kid_count kids) here.1 in
        let goals_are : kid_goals (cover_of e node.goal) ≡ got.0 = ap kid_goals got.1 in (
          here.0,
          (
            got.0,
            got.1,
            to_all kids got.0 got.2
                (subst (λ gs. All S (visits_among e gs kids)) goals_are (All-tail S first rest shape))
                (subst (λ gs. All C (visits_among e gs kids)) goals_are (All-tail C first rest cuts)),
          ),
        )
    to_proves (Branch f v low high) node shape cuts =
        let first : Visit = visit_of node (Branch f v low high) in
        let lows = visits e (with_limit node (low_limit f v)) low in
        let highs = visits e (with_limit node (high_limit f v)) high in
        let shapes = All-tail S first (lows ++ highs) shape in
        let tests = All-tail C first (lows ++ highs) cuts in (
          All-head S first (lows ++ highs) shape,
          to_proves low (with_limit node (low_limit f v)) (before S lows highs shapes) (before C lows highs tests),
          to_proves high (with_limit node (high_limit f v)) (behind S lows highs shapes) (behind C lows highs tests),
        )
    to_proves (Cut ms) node shape cuts = (
      All-head S (visit_of node (Cut ms)) [] shape,
      All-head C (visit_of node (Cut ms)) [] cuts,
    )

    to_all : (kids : Kids) (goals : List Goal) → length goals ≡ kid_count kids → All S (visits_among e goals kids) → All C (visits_among e goals kids) → ProveAll e t goals kids
    to_all tree.None [] many shape cuts = tt
    to_all tree.None (goal ∷ goals) many shape cuts = absurd (omega (arith, many))
    to_all (tree.More kid kids) [] many shape cuts = absurd (omega (arith, many))
    to_all (tree.More kid kids) (goal ∷ goals) many shape cuts = (
      to_proves kid (without_limits goal) (before S (visits e (without_limits goal) kid) (visits_among e goals kids) shape) (before C (visits e (without_limits goal) kid) (visits_among e goals kids) cuts),
      to_all kids goals (omega (arith, many)) (behind S (visits e (without_limits goal) kid) (visits_among e goals kids) shape) (behind C (visits e (without_limits goal) kid) (visits_among e goals kids) cuts),
    )

  as_many : (kids : Kids) (goals : List Goal) → ProveAll e t goals kids → length goals ≡ kid_count kids
  as_many tree.None [] proved = refl
  as_many tree.None (goal ∷ goals) proved = absurd proved
  as_many (tree.More kid kids) [] proved = absurd proved
  as_many (tree.More kid kids) (goal ∷ goals) proved = ap suc (as_many kids goals proved.1)

  mutual
    pub shape_of : (tree : Plain) (node : Node) → Proves e t node tree → All S (visits e node tree)
    shape_of (Split kids) node proved =
        let first : Visit = visit_of node (Split kids) in
        let goals_are : kid_goals (cover_of e node.goal) ≡ proved.1.0 = ap kid_goals proved.1.1 in
        All-cons S first (visits_among e (kid_goals (cover_of e node.goal)) kids)
        (proved.0, same_count (cover_of e node.goal) proved.1.0 (kid_count kids) proved.1.1 (as_many kids proved.1.0 proved.1.2))
        (subst (λ gs. All S (visits_among e gs kids)) (sym goals_are) (shapes_of kids proved.1.0 proved.1.2))
    shape_of (Branch f v low high) node proved =
        let lows = visits e (with_limit node (low_limit f v)) low in
        let highs = visits e (with_limit node (high_limit f v)) high in
        All-cons S (visit_of node (Branch f v low high)) (lows ++ highs) proved.0
        (All-append S lows highs (shape_of low (with_limit node (low_limit f v)) proved.1) (shape_of high (with_limit node (high_limit f v)) proved.2))
    shape_of (Cut ms) node proved = All-cons S (visit_of node (Cut ms)) [] proved.0 (All-nil S)

    shapes_of : (kids : Kids) (goals : List Goal) → ProveAll e t goals kids → All S (visits_among e goals kids)
    shapes_of tree.None goals proved = All-nil S
    shapes_of (tree.More kid kids) [] proved = All-nil S
    shapes_of (tree.More kid kids) (goal ∷ goals) proved = All-append S (visits e (without_limits goal) kid) (visits_among e goals kids) (shape_of kid (without_limits goal) proved.0) (shapes_of kids goals proved.1)

  mutual
    pub cuts_of : (tree : Plain) (node : Node) → Proves e t node tree → All C (visits e node tree)
    cuts_of (Split kids) node proved =
        let first : Visit = visit_of node (Split kids) in
        let goals_are : kid_goals (cover_of e node.goal) ≡ proved.1.0 = ap kid_goals proved.1.1 in
        All-cons C first (visits_among e (kid_goals (cover_of e node.goal)) kids) tt
        (subst (λ gs. All C (visits_among e gs kids)) (sym goals_are) (cuts_of_all kids proved.1.0 proved.1.2))
    cuts_of (Branch f v low high) node proved =
        let lows = visits e (with_limit node (low_limit f v)) low in
        let highs = visits e (with_limit node (high_limit f v)) high in
        All-cons C (visit_of node (Branch f v low high)) (lows ++ highs) tt
        (All-append C lows highs (cuts_of low (with_limit node (low_limit f v)) proved.1) (cuts_of high (with_limit node (high_limit f v)) proved.2))
    cuts_of (Cut ms) node proved = All-cons C (visit_of node (Cut ms)) [] proved.1 (All-nil C)

    cuts_of_all : (kids : Kids) (goals : List Goal) → ProveAll e t goals kids → All C (visits_among e goals kids)
    cuts_of_all tree.None goals proved = All-nil C
    cuts_of_all (tree.More kid kids) [] proved = All-nil C
    cuts_of_all (tree.More kid kids) (goal ∷ goals) proved = All-append C (visits e (without_limits goal) kid) (visits_among e goals kids) (cuts_of kid (without_limits goal) proved.0) (cuts_of_all kids goals proved.1)

  pub same_proof : (node : Node) (tree : Plain) → IsProof e t node tree ↔ Proves e t node tree
  same_proof node tree = (
    λ is. to_proves tree node is.shape is.cuts,
    λ proved. record { shape = shape_of tree node proved; cuts = cuts_of tree node proved },
  )
