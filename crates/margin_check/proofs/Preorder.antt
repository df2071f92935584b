-- The visits are the nodes of the tree in preorder, up to the first one that hasn't its shape.
use Rattle.std.proofs.Common.{ℕ, zero, suc, List, [], ◌∷◌, ◌++◌, Some, All, ◌≡◌, length, map, refl, ap, sym, subst, arith}
use Rattle.std.specs.Prelude.{slice_get}
use Rattle.std.proofs.lemmas.List.Elements.{All-head, All-tail}
use Rattle.bound_tree.specs.Lines.{kid_count}
use Rattle.bound_tree.specs.Nodes.{nodes_of, nodes_of_all}
use Rattle.bound_tree.specs.Plain.{Plain, Kids, Split, Branch, Cut}
use Rattle.bound_tree.specs.Plain as tree
use Rattle.goal_rows.specs.Elections.{Election, Node}
use Rattle.goal_rows.specs.Goals.{cover_of, kid_goals}
use Rattle.goal_rows.specs.Nodes.{high_limit, low_limit, with_limit, without_limits}
use Rattle.goal_rows.specs.declared.goals.Goal.{Goal}
use Rattle.margin_check.specs.Proving.{IsShaped}
use Rattle.margin_check.specs.Verdicts.{IsFirstWithout}
use Rattle.margin_check.specs.Visits.{Visit, visits, visits_among}
use Rattle.margin_check.proofs.Trees.{covered}

-- the same nodes as far as all before have the property
abbrev pub Follows : (Visit → Type 0) → List Visit → List Plain → Type 0
Follows S [] [] = Unit {0}
Follows S [] (tree ∷ trees) = ⊥
Follows S (visit ∷ more) [] = ⊥
Follows S (visit ∷ more) (tree ∷ trees) = (visit.tree ≡ tree) × (S visit → Follows S more trees)

follow_on : (S : Visit → Type 0) (xs us : List Visit) (ys vs : List Plain) → Follows S xs ys → Follows S us vs → Follows S (xs ++ us) (ys ++ vs)
follow_on S [] us [] vs first second = second
follow_on S [] us (y ∷ ys) vs first second = absurd first
follow_on S (x ∷ xs) us [] vs first second = absurd first
follow_on S (x ∷ xs) us (y ∷ ys) vs first second = (first.0, λ s. follow_on S xs us ys vs (first.1 s) second)

all_nodes : (S : Visit → Type 0) (xs : List Visit) (ys : List Plain) → Follows S xs ys → All S xs → map (λ visit. visit.tree) xs ≡ ys
all_nodes S [] [] is all = refl
all_nodes S [] (y ∷ ys) is all = absurd is
all_nodes S (x ∷ xs) [] is all = absurd is
all_nodes S (x ∷ xs) (y ∷ ys) is all =
    let here = is.0 in
    let rest = all_nodes S xs ys (is.1 (All-head S x xs all)) (All-tail S x xs all) in
    cc

first_node : (S : Visit → Type 0) (xs : List Visit) (ys : List Plain) (place : ℕ) → Follows S xs ys → IsFirstWithout S xs place → slice_get (map (λ visit. visit.tree) xs) place ≡ slice_get ys place
first_node S [] ys place is first = absurd first
first_node S (x ∷ xs) [] place is first = absurd is
first_node S (x ∷ xs) (y ∷ ys) zero is first = ap Some is.0
first_node S (x ∷ xs) (y ∷ ys) (suc place) is first = first_node S xs ys place (is.1 first.0) first.1

module _ (e : Election) where
  abbrev S : Visit → Type 0
  S visit = IsShaped e visit.node visit.tree

  mutual
    follows : (tree : Plain) (node : Node) → Follows S (visits e node tree) (nodes_of tree)
    follows (Split kids) node = (
      refl,
      λ shape. let got = covered (cover_of e node.goal) (kid_count kids) shape.1 in
          subst (λ gs. Follows S (visits_among e (kid_goals gs) kids) (nodes_of_all kids)) (sym got.1) (follows_all kids got.0 got.2),
    )
    follows (Branch f v low high) node = (
      refl,
      λ shape. follow_on S (visits e (with_limit node (low_limit f v)) low) (visits e (with_limit node (high_limit f v)) high) (nodes_of low) (nodes_of high)
          (follows low (with_limit node (low_limit f v))) (follows high (with_limit node (high_limit f v))),
    )
    follows (Cut ms) node = (refl, λ shape. tt)

    follows_all : (kids : Kids) (goals : List Goal) → length goals ≡ kid_count kids → Follows S (visits_among e goals kids) (nodes_of_all kids)
    follows_all tree.None goals many = tt
    follows_all (tree.More kid kids) [] many = absurd (omega (arith, many))
    follows_all (tree.More kid kids) (goal ∷ goals) many =
        follow_on S (visits e (without_limits goal) kid) (visits_among e goals kids) (nodes_of kid) (nodes_of_all kids) (follows kid (without_limits goal)) (follows_all kids goals (omega (arith, many)))

  pub visits_are : (node : Node) (tree : Plain) → All S (visits e node tree) → map (λ visit. visit.tree) (visits e node tree) ≡ nodes_of tree
  visits_are node tree all = all_nodes S (visits e node tree) (nodes_of tree) (follows tree node) all

  pub place_is : (node : Node) (tree : Plain) (place : ℕ) → IsFirstWithout S (visits e node tree) place
      → slice_get (map (λ visit. visit.tree) (visits e node tree)) place ≡ slice_get (nodes_of tree) place
  place_is node tree place first = first_node S (visits e node tree) (nodes_of tree) place (follows tree node) first
