-- What a search knows where it ends.
use Rattle.std.proofs.Common.{◌≡◌, ℕ, zero, suc, ◌+◌, ◌-◌, ◌*◌, ◌<◌, ◌≤◌, true, false, cond, List, [], ◌∷◌, map, length, length-append, refl, sym, ap, ◌∙◌, subst, inl, inr, arith, Option, Some, None}
use Rattle.std.proofs.lemmas.Bool.{false≢true}
use Rattle.std.proofs.lemmas.List.{length-map}
use Rattle.row_program.specs.declared.limits.TheConstants.{MOST_LIMITS}
use Rattle.bound_tree.specs.Growth.{cuts_of}
use Rattle.bound_tree.specs.Nodes.{cut_count, size, size_all}
use Rattle.bound_tree.specs.Plain.{Cut, Plain}
use Rattle.bound_tree.specs.declared.bound.TheConstants.{MOST_DEPTH}
use Rattle.goal_rows.specs.Elections.{Election, Node}
use Rattle.goal_rows.specs.Nodes.{IsFeatureOf, without_limits}
use Rattle.goal_rows.specs.declared.goals.Goal.TheVariants.{Root}
use Rattle.node_bounds.specs.Ceilings.{IsCeiling, node_cost}
use Rattle.search_theory.specs.Branchings.{Branching, IsFloor, IsLeastOf, IsMiddle, IsSolid, IsWhole, Values, is_pair}
use Rattle.search_theory.specs.Ends.{AllFrom, AtPoint, Budget, Depth, Ending, GoesOn, IsAtPoint, IsEnd, IsFirst, IsFirstOf, Met, Nothing, Problem, cuts_in, growth_of}
use Rattle.search_theory.specs.Laws.{AreLaws}
use Rattle.search_theory.specs.Leaves.{AreHeld, AreMade, ByBranch, ByCover, Growth, IsFirstLeaf, IsHeld, IsKept, IsLeaf, IsUnderWay, Leaf, MayGrow, growth_tree, kid_nodes, lowest}
use Rattle.search_theory.specs.Spots.{Hung, cover_list, grown, has_cover, put_at, root_spot}
use Rattle.search_theory.specs.Trees.{IsTight, IsTightCut, needed_words, tight_words, top_of}
use Rattle.search_theory.proofs.Growing.{Everywhere-map, Hanging, length-hung_of, size-grown}
use Rattle.search_theory.proofs.Proven.{bound_here, proves}
use Rattle.search_theory.proofs.Turns.{length-held, limits_of, lowest-first, place-first}

-- ---- the tree

tight_hanging : (p : Problem) (hs : List Hung) (xs : List Leaf) → AreHeld p hs xs → Hanging (λ ms spot. Unit {0}) (IsTightCut p.election) hs
tight_hanging p [] [] held = tt
tight_hanging p [] (x ∷ xs) held = absurd held
tight_hanging p (h ∷ hs) [] held = absurd held
tight_hanging p (h ∷ hs) (x ∷ xs) held = (λ any. (x.bound, bound_here p h x held.0, held.0.tight), tight_hanging p hs xs held.1)

-- the tree is tight
pub tight : (p : Problem) (tree : Plain) (leaves : List Leaf) → IsUnderWay p tree leaves → IsTight p.election tree
tight p tree leaves search =
    Everywhere-map p.election (needed_words p.election (lowest p.election leaves)) (tight_words p.election)
    (λ spot h. tt) (λ f v spot h. tt) tree root_spot search.inner (tight_hanging p (cuts_in p.election tree) leaves search.cuts)

pub all_from : (p : Problem) (t : ℕ) (hs : List Hung) (xs : List Leaf) → AreHeld p hs xs → t ≤ lowest p.election xs → AllFrom p.election t hs
all_from p t [] [] held le = tt
all_from p t [] (x ∷ xs) held le = absurd held
all_from p t (h ∷ hs) [] held le = absurd held
all_from p t (h ∷ hs) (x ∷ xs) held le = ((x.bound, bound_here p h x held.0, omega arith), all_from p t hs xs held.1 (omega arith))

-- ---- the first leaf

-- the cut of the first leaf with the least bound
pub first_cut : (p : Problem) (i : ℕ) (hs : List Hung) (xs : List Leaf) (x : Leaf) → AreHeld p hs xs → IsFirstLeaf p.election i xs x →
    (h : Hung) × IsHeld p h x × IsFirstOf p.election x.bound hs h
first_cut p i [] [] x held first = absurd first
first_cut p i [] (y ∷ ys) x held first = absurd held
first_cut p i (h ∷ hs) [] x held first = absurd held
first_cut p zero (h ∷ hs) (y ∷ ys) x held first =
    let here = subst (λ z. IsHeld p h z) (sym first.0) held.0 in
    (h, here, inl (bound_here p h x here, refl, all_from p x.bound hs ys held.1 first.1))
first_cut p (suc i) (h ∷ hs) (y ∷ ys) x held first =
    let r = first_cut p i hs ys x held.1 first.1 in
    (r.0, r.1, inr (y.bound, bound_here p h y held.0, first.0, r.2))

-- a leaf of a pair with a bound within reach has met what is known
pub pair_met : (p : Problem) (laws : AreLaws p) (tree : Plain) (leaves : List Leaf) (i : ℕ) (x : Leaf) → IsUnderWay p tree leaves →
    IsFirstLeaf p.election i leaves x → x.bound < top_of p.election → is_pair x.node.goal ≡ true → IsLeaf p x → p.upper ≡ Some x.bound
pair_met p laws tree leaves i x search first low pair leaf =
    let u = leaf.pair pair low in
    let is = lowest-first p.election i leaves x first in
    let le = laws.sound tree x.bound u.0 (proves p laws tree leaves x.bound search (omega (arith, is))) u.1 in
    let e : u.0 ≡ x.bound = omega (arith, le, u.2) in
    u.1 ∙ ap (λ n. Some n) e

-- without a point that is kept the first leaf's node is none of those that have one
pub no_point : (p : Problem) (laws : AreLaws p) (h : Hung) (x : Leaf) → IsHeld p h x → x.bound < top_of p.election → x.point ≡ None →
    has_cover p.election x.node.goal ≡ false → (is_pair x.node.goal ≡ true → ⊥) → IsSolid p.election x.node → ⊥
no_point p laws h x held low none complete no_pair solid =
    elim (subst (λ q. IsKept p.election x.node q) none held.own.point) [
      | inl covered ↦ false≢true (sym complete ∙ covered)
      | inr r ↦ elim r [
        | inl pair ↦ no_pair pair
        | inr other ↦ elim other [
          | inl loose ↦ loose solid
          | inr far ↦ elim held.tight.1 [
            | inl here ↦
                let same = here.1 ∙ held.node in
                let v = laws.one_ceiling x.node held.tight.2 (top_of p.election) (subst (λ n. IsCeiling p.election n held.tight.2) same held.tight.3) far in
                omega (arith, v, held.tight.4, low)
            | inr not_solid ↦ not_solid.0 (subst (λ n. IsSolid p.election n) (sym held.node) solid)
          ]
        ]
      ]
    ]

-- where the leaf keeps no whole point, its cut is not at a point
pub not_at_point : (p : Problem) (laws : AreLaws p) (h : Hung) (x : Leaf) → IsHeld p h x → x.bound < top_of p.election →
    (is_pair x.node.goal ≡ true → ⊥) → ((q : Values) → x.point ≡ Some q → IsWhole q → ⊥) → (q : Values) → IsAtPoint p.election h q → ⊥
not_at_point p laws h x held low no_pair none q at =
    let complete = subst (λ (n : Node). has_cover p.election n.goal ≡ false) held.node at.complete in
    let solid = subst (λ n. IsSolid p.election n) held.node at.solid in
    let least = subst (λ n. IsLeastOf p.election n q) held.node at.least in
    kept x.point refl complete solid least
  where
    kept : (o : Option Values) → x.point ≡ o → has_cover p.election x.node.goal ≡ false → IsSolid p.election x.node → IsLeastOf p.election x.node q → ⊥
    kept None is complete solid least = no_point p laws h x held low is complete no_pair solid
    kept (Some r) is complete solid least =
        let fact = subst (λ o. IsKept p.election x.node o) is held.own.point in
        none r is (subst (λ z. IsWhole z) (laws.one_least x.node q r least fact.3) at.whole)

pub at_point : (p : Problem) (h : Hung) (x : Leaf) (q : Values) → IsHeld p h x → x.point ≡ Some q → IsWhole q → IsAtPoint p.election h q
at_point p h x q held is whole =
    let fact = subst (λ o. IsKept p.election x.node o) is held.own.point in
    record {
      complete = subst (λ (n : Node). has_cover p.election n.goal ≡ false) (sym held.node) fact.0;
      solid = subst (λ n. IsSolid p.election n) (sym held.node) fact.2;
      least = subst (λ n. IsLeastOf p.election n q) (sym held.node) fact.3;
      whole = whole;
    }

-- at a whole least point the bound is its cost
point_cost : (p : Problem) (laws : AreLaws p) (h : Hung) (x : Leaf) (q : Values) → IsHeld p h x → x.point ≡ Some q → IsWhole q →
    length x.node.limits ≤ MOST_LIMITS → node_cost p.election x.node q.whole ≡ x.bound
point_cost p laws h x q held is whole few =
    let fact = subst (λ o. IsKept p.election x.node o) is held.own.point in
    let ceiling = laws.whole x.node q fact.3 whole in
    let limits = limits_of p.election x.node held.own.ranges few in
    let up = laws.below x.node x.bound (node_cost p.election x.node q.whole) held.own.reached limits (x.multipliers, held.own.count, held.own.bound) ceiling in
    elim held.tight.1 [
      | inl here ↦
          let same = here.1 ∙ held.node in
          let v = laws.one_ceiling x.node held.tight.2 (node_cost p.election x.node q.whole) (subst (λ n. IsCeiling p.election n held.tight.2) same held.tight.3) ceiling in
          omega (arith, v, held.tight.4, up)
      | inr other ↦ absurd (other.0 (subst (λ n. IsSolid p.election n) (sym held.node) fact.2))
    ]

few_limits : (p : Problem) (h : Hung) (x : Leaf) → IsHeld p h x → length x.node.limits ≤ MOST_LIMITS
few_limits p h x held = omega (arith, held.few, held.shallow)

-- ---- each of the five ends, at the test that finds it

pub end_nothing : (p : Problem) (tree : Plain) (leaves : List Leaf) → IsUnderWay p tree leaves → lowest p.election leaves ≡ top_of p.election →
    IsEnd p tree (lowest p.election leaves) Nothing
end_nothing p tree leaves search is = (all_from p (lowest p.election leaves) (cuts_in p.election tree) leaves search.cuts (omega arith), is)

pub end_met : (p : Problem) (tree : Plain) (leaves : List Leaf) (i : ℕ) (x : Leaf) → IsUnderWay p tree leaves → IsFirstLeaf p.election i leaves x →
    x.bound < top_of p.election → p.upper ≡ Some x.bound → IsEnd p tree x.bound Met
end_met p tree leaves i x search first low met =
    let c = first_cut p i (cuts_in p.election tree) leaves x search.cuts first in
    (low, met, c.0, c.2)

pub end_at_point : (p : Problem) (laws : AreLaws p) (tree : Plain) (leaves : List Leaf) (i : ℕ) (x : Leaf) (q : Values) → IsUnderWay p tree leaves →
    IsFirstLeaf p.election i leaves x → x.bound < top_of p.election → (p.upper ≡ Some x.bound → ⊥) → x.point ≡ Some q → IsWhole q →
    IsEnd p tree x.bound (AtPoint q)
end_at_point p laws tree leaves i x q search first low unmet is whole =
    let c = first_cut p i (cuts_in p.election tree) leaves x search.cuts first in
    record {
      within = low;
      unmet = unmet;
      first = c.0;
      is_first = c.2;
      at_point = at_point p c.0 x q c.1 is whole;
      cost = ap (λ n. node_cost p.election n q.whole) c.1.node ∙ point_cost p laws c.0 x q c.1 is whole (few_limits p c.0 x c.1);
    }

-- what is known where the search goes on past the third test
pub record Goes (p : Problem) (tree : Plain) (x : Leaf) : Type 0 where
  pub on : GoesOn p tree x.bound
  pub held : IsHeld p on.first x
  pub no_pair : is_pair x.node.goal ≡ true → ⊥

pub goes_on : (p : Problem) (laws : AreLaws p) (tree : Plain) (leaves : List Leaf) (i : ℕ) (x : Leaf) → IsUnderWay p tree leaves →
    IsFirstLeaf p.election i leaves x → x.bound < top_of p.election → (p.upper ≡ Some x.bound → ⊥) →
    ((q : Values) → x.point ≡ Some q → IsWhole q → ⊥) → Goes p tree x
goes_on p laws tree leaves i x search first low unmet none =
    let c = first_cut p i (cuts_in p.election tree) leaves x search.cuts first in
    let no_pair = λ (pair : is_pair x.node.goal ≡ true). unmet (pair_met p laws tree leaves i x search first low pair c.1.own) in
    record {
      on = record { within = low; unmet = unmet; first = c.0; is_first = c.2; no_point = not_at_point p laws c.0 x c.1 low no_pair none };
      held = c.1;
      no_pair = no_pair;
    }

-- how many nodes come where the leaf grows
abbrev pub kids_of : Election → Leaf → ℕ
kids_of e x = cond (has_cover e x.node.goal) (length (cover_list e x.node.goal)) 2

same_kids : (p : Problem) (h : Hung) (x : Leaf) → IsHeld p h x → growth_of p.election h ≡ kids_of p.election x
same_kids p h x held = ap (λ (n : Node). cond (has_cover p.election n.goal) (length (cover_list p.election n.goal)) 2) held.node

pub end_budget : (p : Problem) (tree : Plain) (x : Leaf) → Goes p tree x → p.budget < size tree + kids_of p.election x → IsEnd p tree x.bound Budget
end_budget p tree x goes full = (goes.on, (let k = same_kids p goes.on.first x goes.held in omega (arith, k, full)))

pub end_depth : (p : Problem) (tree : Plain) (x : Leaf) → Goes p tree x → size tree + kids_of p.election x ≤ p.budget → x.depth ≡ MOST_DEPTH →
    IsEnd p tree x.bound Depth
end_depth p tree x goes room deep =
    (goes.on, (let k = same_kids p goes.on.first x goes.held in omega (arith, k, room)), sym goes.held.depth ∙ deep)

-- ---- how the first leaf may grow

pub may_branch_at_point : (p : Problem) (x : Leaf) (q : Values) (b : Branching) → IsLeaf p x → IsFeatureOf p.election x.node.goal b.feature → x.point ≡ Some q →
    (IsWhole q → ⊥) → IsFloor p.election x.node q b → MayGrow p.election (ByBranch b) x.node
may_branch_at_point p x q b leaf feature is part floor =
    let fact = subst (λ o. IsKept p.election x.node o) is leaf.point in
    (fact.0, feature, inl (fact.2, q, fact.3, part, floor))

pub may_branch_in_middle : (p : Problem) (laws : AreLaws p) (tree : Plain) (x : Leaf) (b : Branching) → Goes p tree x → IsFeatureOf p.election x.node.goal b.feature → x.point ≡ None →
    has_cover p.election x.node.goal ≡ false → IsMiddle p.election x.node b → MayGrow p.election (ByBranch b) x.node
may_branch_in_middle p laws tree x b goes feature none complete middle =
    (complete, feature, inr (no_point p laws goes.on.first x goes.held goes.on.within none complete goes.no_pair, middle))

-- ---- sizes and the measure

pub length-made : (p : Problem) (parent : Leaf) (nodes : List Node) (kids : List Leaf) → AreMade p parent nodes kids → length kids ≡ length nodes
length-made p parent [] [] made = refl
length-made p parent [] (x ∷ xs) made = absurd made
length-made p parent (n ∷ nodes) [] made = absurd made
length-made p parent (n ∷ nodes) (x ∷ xs) made = ap suc (length-made p parent nodes xs made.1)

size-cuts_of : (ms : List (List ℕ)) → size_all (cuts_of ms) ≡ length ms
size-cuts_of [] = refl
size-cuts_of (m ∷ ms) = omega (arith, size-cuts_of ms)

pub size_growth : (p : Problem) (parent : Leaf) (way : Growth) (kids : List Leaf) → AreMade p parent (kid_nodes p.election way parent.node) kids →
    size (growth_tree way kids) ≡ suc (length kids)
size_growth p parent ByCover kids made = omega (arith, size-cuts_of (map (λ (k : Leaf). k.multipliers) kids), length-map kids (λ (k : Leaf). k.multipliers))
size_growth p parent (ByBranch b) [] made = absurd made
size_growth p parent (ByBranch b) (x ∷ []) made = absurd made.1
size_growth p parent (ByBranch b) (x ∷ y ∷ []) made = refl
size_growth p parent (ByBranch b) (x ∷ y ∷ z ∷ zs) made = absurd made.1.1

pub length-put_at : {A : Type 0} (i : ℕ) (kids xs : List A) → i < length xs → length (put_at i (λ x. kids) xs) + 1 ≡ length xs + length kids
length-put_at i kids [] lt = absurd (omega arith)
length-put_at zero kids (x ∷ xs) lt = omega (arith, length-append kids xs)
length-put_at (suc i) kids (x ∷ xs) lt = omega (arith, length-put_at i kids xs (omega arith))

pub cut_count_is : (p : Problem) (tree : Plain) (leaves : List Leaf) → IsUnderWay p tree leaves → cut_count tree ≡ length leaves
cut_count_is p tree leaves search =
    sym (length-hung_of p.election (needed_words p.election (lowest p.election leaves)) tree root_spot search.inner)
    ∙ length-held p (cuts_in p.election tree) leaves search.cuts

-- a turn adds its kids to the nodes, and their number less one to the leaves
pub size_step : (p : Problem) (tree : Plain) (leaves : List Leaf) (i : ℕ) (x : Leaf) (way : Growth) (kids : List Leaf) →
    IsUnderWay p tree leaves → IsFirstLeaf p.election i leaves x → AreMade p x (kid_nodes p.election way x.node) kids →
    (size (grown i (growth_tree way kids) tree) ≡ size tree + length kids) × (length (put_at i (λ y. kids) leaves) + 1 ≡ length leaves + length kids)
size_step p tree leaves i x way kids search first made =
    let place = place-first p.election i leaves x first in
    let s = size-grown i (growth_tree way kids) tree (omega (arith, cut_count_is p tree leaves search)) in
    let g = size_growth p x way kids made in
    (omega arith, length-put_at i kids leaves place)

pub measure_falls : (budget before after leaves more kids : ℕ) → after ≡ before + kids → more + 1 ≡ leaves + kids → after ≤ budget →
    2 * (budget - after) + more < 2 * (budget - before) + leaves
measure_falls budget before after leaves more kids a b c = omega arith

-- ---- at the start

pub start : (p : Problem) (x : Leaf) → IsLeaf p x → x.node ≡ without_limits Root → x.depth ≡ 1 →
    (v : ℕ) → IsCeiling p.election x.node v → v ≤ x.bound → IsUnderWay p (Cut x.multipliers) (x ∷ [])
start p x leaf is deep v ceiling le = record {
  inner = tt;
  cuts = (
    record {
      node = sym is;
      multipliers = refl;
      own = leaf;
      tight = (without_limits Root, inl (inl refl, refl), v, subst (λ n. IsCeiling p.election n v) is ceiling, le);
      plain = subst (λ (n : Node). has_cover p.election n.goal ≡ true → n.limits ≡ []) (sym is) (λ yes. refl);
      depth = deep;
      shallow = omega (arith, deep);
      few = (let e = ap (λ (n : Node). length n.limits) is in omega (arith, e, deep));
    },
    tt,
  );
}

-- ---- a search has one end

least_first : (p : Problem) (laws : AreLaws p) (t u : ℕ) (hs : List Hung) (g : Hung) → AllFrom p.election t hs → IsFirstOf p.election u hs g → t ≤ u
least_first p laws t u [] g all first = absurd first
least_first p laws t u (h ∷ hs) g all first = elim first [
  | inl here ↦ let e = laws.unique h.spot.node h.multipliers all.0.0 u all.0.1 here.0 in omega (arith, all.0.2, e)
  | inr later ↦ least_first p laws t u hs g all.1 later.3
]

-- the first cut is one, and its bound too
pub same_first : (p : Problem) (laws : AreLaws p) (t u : ℕ) (hs : List Hung) (f g : Hung) → IsFirstOf p.election t hs f → IsFirstOf p.election u hs g →
    (t ≡ u) × (f ≡ g)
same_first p laws t u [] f g a b = absurd a
same_first p laws t u (h ∷ hs) f g a b = elim a [
  | inl one ↦ elim b [
    | inl two ↦ (laws.unique h.spot.node h.multipliers t u one.0 two.0, one.1 ∙ sym two.1)
    | inr two ↦
        let le = least_first p laws t u hs g one.2 two.3 in
        let e = laws.unique h.spot.node h.multipliers t two.0 one.0 two.1 in
        absurd (omega (arith, two.2, le, e))
  ]
  | inr one ↦ elim b [
    | inl two ↦
        let le = least_first p laws u t hs f two.2 one.3 in
        let e = laws.unique h.spot.node h.multipliers u one.0 two.0 one.1 in
        absurd (omega (arith, one.2, le, e))
    | inr two ↦ same_first p laws t u hs f g one.3 two.3
  ]
]

module _ (p : Problem) (laws : AreLaws p) (tree : Plain) where
  not_nothing : (t u : ℕ) (f : Hung) → IsEnd p tree t Nothing → u < top_of p.election → IsFirst p.election tree u f → ⊥
  not_nothing t u f a low first = let le = least_first p laws t u (cuts_in p.election tree) f a.0 first in omega (arith, a.1, low, le)

  not_met : (t u : ℕ) (f g : Hung) → p.upper ≡ Some t → (p.upper ≡ Some u → ⊥) → IsFirst p.election tree t f → IsFirst p.election tree u g → ⊥
  not_met t u f g met unmet a b = unmet (met ∙ ap (λ n. Some n) (same_first p laws t u (cuts_in p.election tree) f g a b).0)

  not_point : (t u : ℕ) (f g : Hung) (q : Values) → IsFirst p.election tree t f → IsFirst p.election tree u g → IsAtPoint p.election f q →
      ((r : Values) → IsAtPoint p.election g r → ⊥) → ⊥
  not_point t u f g q a b at none = none q (subst (λ h. IsAtPoint p.election h q) (same_first p laws t u (cuts_in p.election tree) f g a b).1 at)

  not_both : (t u : ℕ) (f g : Hung) → IsFirst p.election tree t f → IsFirst p.election tree u g → p.budget < size tree + growth_of p.election f →
      size tree + growth_of p.election g ≤ p.budget → ⊥
  not_both t u f g a b full room =
      let k = ap (λ h. growth_of p.election h) (same_first p laws t u (cuts_in p.election tree) f g a b).1 in
      omega (arith, k, full, room)

  one_low : (t u : ℕ) (f g : Hung) → IsFirst p.election tree t f → IsFirst p.election tree u g → t ≡ u
  one_low t u f g a b = (same_first p laws t u (cuts_in p.election tree) f g a b).0

  -- the ends exclude one another
  pub one_end : (t u : ℕ) (d e : Ending) → IsEnd p tree t d → IsEnd p tree u e → (t ≡ u) × (d ≡ e)
  one_end t u Nothing Nothing a b = (omega (arith, a.1, b.1), refl)
  one_end t u Nothing Met a b = absurd (not_nothing t u b.2 a b.0 b.3)
  one_end t u Nothing (AtPoint r) a b = absurd (not_nothing t u b.first a b.within b.is_first)
  one_end t u Nothing Budget a b = absurd (not_nothing t u b.0.first a b.0.within b.0.is_first)
  one_end t u Nothing Depth a b = absurd (not_nothing t u b.0.first a b.0.within b.0.is_first)
  one_end t u Met Nothing a b = absurd (not_nothing u t a.2 b a.0 a.3)
  one_end t u (AtPoint q) Nothing a b = absurd (not_nothing u t a.first b a.within a.is_first)
  one_end t u Budget Nothing a b = absurd (not_nothing u t a.0.first b a.0.within a.0.is_first)
  one_end t u Depth Nothing a b = absurd (not_nothing u t a.0.first b a.0.within a.0.is_first)
  one_end t u Met Met a b = (one_low t u a.2 b.2 a.3 b.3, refl)
  one_end t u Met (AtPoint r) a b = absurd (not_met t u a.2 b.first a.1 b.unmet a.3 b.is_first)
  one_end t u Met Budget a b = absurd (not_met t u a.2 b.0.first a.1 b.0.unmet a.3 b.0.is_first)
  one_end t u Met Depth a b = absurd (not_met t u a.2 b.0.first a.1 b.0.unmet a.3 b.0.is_first)
  one_end t u (AtPoint q) Met a b = absurd (not_met u t b.2 a.first b.1 a.unmet b.3 a.is_first)
  one_end t u Budget Met a b = absurd (not_met u t b.2 a.0.first b.1 a.0.unmet b.3 a.0.is_first)
  one_end t u Depth Met a b = absurd (not_met u t b.2 a.0.first b.1 a.0.unmet b.3 a.0.is_first)
  one_end t u (AtPoint q) (AtPoint r) a b =
      let s = same_first p laws t u (cuts_in p.election tree) a.first b.first a.is_first b.is_first in
      let q_least = subst (λ (h : Hung). IsLeastOf p.election h.spot.node q) s.1 a.at_point.least in
      (s.0, ap (λ z. AtPoint z) (laws.one_least b.first.spot.node q r q_least b.at_point.least))
  one_end t u (AtPoint q) Budget a b = absurd (not_point t u a.first b.0.first q a.is_first b.0.is_first a.at_point b.0.no_point)
  one_end t u (AtPoint q) Depth a b = absurd (not_point t u a.first b.0.first q a.is_first b.0.is_first a.at_point b.0.no_point)
  one_end t u Budget (AtPoint r) a b = absurd (not_point u t b.first a.0.first r b.is_first a.0.is_first b.at_point a.0.no_point)
  one_end t u Depth (AtPoint r) a b = absurd (not_point u t b.first a.0.first r b.is_first a.0.is_first b.at_point a.0.no_point)
  one_end t u Budget Budget a b = (one_low t u a.0.first b.0.first a.0.is_first b.0.is_first, refl)
  one_end t u Budget Depth a b = absurd (not_both t u a.0.first b.0.first a.0.is_first b.0.is_first a.1 b.1)
  one_end t u Depth Budget a b = absurd (not_both u t b.0.first a.0.first b.0.is_first a.0.is_first b.1 a.1)
  one_end t u Depth Depth a b = (one_low t u a.0.first b.0.first a.0.is_first b.0.is_first, refl)
