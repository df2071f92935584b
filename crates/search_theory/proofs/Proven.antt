-- The tree of a search proves what its leaves have at least.
use Rattle.std.proofs.Common.{◌≡◌, ℕ, ◌≤◌, ◌∙◌, true, List, [], ◌∷◌, ◌++◌, Option, Some, None, length, refl, sym, ap, subst, arith}
use Rattle.std.specs.Option.{is_some}
use Rattle.std.specs.Prelude.{All}
use Rattle.std.proofs.lemmas.Bool.{false≢true}
use Rattle.std.proofs.lemmas.List.Elements.{All-head, All-tail}
use Rattle.bound_tree.specs.Plain.{Plain, Kids, Split, Branch, Cut, None as NoKids, More}
use Rattle.goal_rows.specs.Elections.{Election}
use Rattle.goal_rows.specs.Goals.{IsReached, cover_of, kid_goals}
use Rattle.goal_rows.specs.Nodes.{high_half, low_half, number_count, without_limits}
use Rattle.goal_rows.specs.declared.goals.Goal.{Goal}
use Rattle.goal_rows.specs.declared.goals.Goal.TheVariants.{Root}
use Rattle.dual_bound.specs.CutTest.{Cuts, IsBound}
use Rattle.tree_proofs.specs.Proving.{ProveAll, Proves}
use Rattle.tree_proofs.proofs.Ways.{cover_reached}
use Rattle.search_theory.specs.Ends.{Problem, cuts_in}
use Rattle.search_theory.specs.Laws.{AreLaws, EachOf}
use Rattle.search_theory.specs.Leaves.{AreHeld, IsHeld, IsUnderWay, Leaf, lowest}
use Rattle.search_theory.specs.Spots.{EveryKid, Everywhere, Hung, Spot, below, cover_list, has_cover, hung_among, hung_of, root_spot, spots_below}
use Rattle.search_theory.specs.Trees.{needed_words}

-- the bound of a cut, by its leaf
pub bound_here : (p : Problem) (h : Hung) (x : Leaf) → IsHeld p h x → IsBound p.election h.spot.node h.multipliers x.bound
bound_here p h x held =
    subst (λ n. IsBound p.election n h.multipliers x.bound) (sym held.node)
    (subst (λ ms. IsBound p.election x.node ms x.bound) (sym held.multipliers) held.own.bound)

-- a cut has a multiplier for each row and each limit, and passes the test at t
abbrev CutsHere : Election → ℕ → Hung → Type 0
CutsHere e t h = (length h.multipliers ≡ number_count e h.spot.node) × Cuts e h.spot.node h.multipliers t

cuts_here : (p : Problem) (laws : AreLaws p) (t : ℕ) (h : Hung) (x : Leaf) → IsHeld p h x → t ≤ x.bound → CutsHere p.election t h
cuts_here p laws t h x held le = (
  ap length held.multipliers ∙ held.own.count ∙ ap (λ n. number_count p.election n) (sym held.node),
  laws.cuts h.spot.node h.multipliers x.bound t (bound_here p h x held) le,
)

all_cut : (p : Problem) (laws : AreLaws p) (t : ℕ) (hs : List Hung) (xs : List Leaf) → AreHeld p hs xs → t ≤ lowest p.election xs → EachOf (CutsHere p.election t) hs
all_cut p laws t [] [] held le = tt
all_cut p laws t [] (x ∷ xs) held le = absurd held
all_cut p laws t (h ∷ hs) [] held le = absurd held
all_cut p laws t (h ∷ hs) (x ∷ xs) held le = (cuts_here p laws t h x held.0 (omega (arith, le)), all_cut p laws t hs xs held.1 (omega (arith, le)))

each-left : {A : Type 0} (P : A → Type 0) (xs ys : List A) → EachOf P (xs ++ ys) → EachOf P xs
each-left P [] ys all = tt
each-left P (x ∷ xs) ys all = (all.0, each-left P xs ys all.1)

each-right : {A : Type 0} (P : A → Type 0) (xs ys : List A) → EachOf P (xs ++ ys) → EachOf P ys
each-right P [] ys all = all
each-right P (x ∷ xs) ys all = each-right P xs ys all.1

covered : (cover : Option (List Goal)) → is_some cover ≡ true → cover ≡ Some (kid_goals cover)
covered None some = absurd (false≢true some)
covered (Some goals) some = refl

pub cover_is : (e : Election) (goal : Goal) → has_cover e goal ≡ true → cover_of e goal ≡ Some (cover_list e goal)
cover_is e goal some = covered (cover_of e goal) some

module _ (p : Problem) (laws : AreLaws p) (low t : ℕ) where
  mutual
    proves_below : (tree : Plain) (spot : Spot) → Everywhere p.election (needed_words p.election low) tree spot → IsReached p.election spot.node.goal →
        EachOf (CutsHere p.election t) (hung_of p.election tree spot) → Proves p.election t spot.node tree
    proves_below (Split kids) spot so reached cuts =
        let covers = cover_is p.election spot.node.goal so.0.0.0 in (
          so.0.0.1,
          (
            cover_list p.election spot.node.goal,
            covers,
            prove_kids kids (cover_list p.election spot.node.goal) spot so.1
                (cover_reached p.election (cover_list p.election spot.node.goal) spot.node.goal reached covers) cuts,
          ),
        )
    proves_below (Branch f v lower higher) spot so reached cuts =
        let lows = hung_of p.election lower (below spot (low_half spot.node f v)) in
        let highs = hung_of p.election higher (below spot (high_half spot.node f v)) in (
          so.0.1,
          proves_below lower (below spot (low_half spot.node f v)) so.1 reached (each-left (CutsHere p.election t) lows highs cuts),
          proves_below higher (below spot (high_half spot.node f v)) so.2 reached (each-right (CutsHere p.election t) lows highs cuts),
        )
    proves_below (Cut ms) spot so reached cuts = cuts.0

    prove_kids : (kids : Kids) (goals : List Goal) (spot : Spot) → EveryKid p.election (needed_words p.election low) kids (spots_below spot goals) →
        All (IsReached p.election) goals → EachOf (CutsHere p.election t) (hung_among p.election kids (spots_below spot goals)) →
        ProveAll p.election t goals kids
    prove_kids NoKids [] spot so reached cuts = tt
    prove_kids NoKids (goal ∷ goals) spot so reached cuts = absurd so
    prove_kids (More kid kids) [] spot so reached cuts = absurd so
    prove_kids (More kid kids) (goal ∷ goals) spot so reached cuts =
        let here = hung_of p.election kid (below spot (without_limits goal)) in
        let rest = hung_among p.election kids (spots_below spot goals) in (
          proves_below kid (below spot (without_limits goal)) so.0 (All-head (IsReached p.election) goal goals reached) (each-left (CutsHere p.election t) here rest cuts),
          prove_kids kids goals spot so.1 (All-tail (IsReached p.election) goal goals reached) (each-right (CutsHere p.election t) here rest cuts),
        )

root_reached : (e : Election) → IsReached e Root
root_reached e = ([], refl)

-- the tree proves what its leaves have at least
pub proves : (p : Problem) (laws : AreLaws p) (tree : Plain) (leaves : List Leaf) (t : ℕ) → IsUnderWay p tree leaves → t ≤ lowest p.election leaves →
    Proves p.election t (without_limits Root) tree
proves p laws tree leaves t search le =
    proves_below p laws (lowest p.election leaves) t tree root_spot search.inner (root_reached p.election)
    (all_cut p laws t (cuts_in p.election tree) leaves search.cuts le)
