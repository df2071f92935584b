-- One turn of a search keeps what is known of it.
use Rattle.std.proofs.Common.{◌≡◌, ℕ, zero, suc, ◌<◌, ◌≤◌, true, List, [], ◌∷◌, ◌++◌, map, length, length-append, refl, sym, ap, ◌∙◌, subst, inl, inr, arith}
use Rattle.std.proofs.lemmas.Bool.{false≢true}
use Rattle.row_program.specs.declared.limits.TheConstants.{MOST_LIMITS}
use Rattle.bound_tree.specs.Growth.{cuts_of}
use Rattle.bound_tree.specs.Plain.{Plain}
use Rattle.bound_tree.specs.declared.bound.TheConstants.{MOST_DEPTH}
use Rattle.goal_rows.specs.Elections.{Election, Node}
use Rattle.goal_rows.specs.Nodes.{AreLimits, high_half, high_limit, low_half, low_limit, without_limits}
use Rattle.goal_rows.specs.declared.goals.Goal.{Goal}
use Rattle.search_theory.specs.Ends.{Problem, cuts_in}
use Rattle.search_theory.specs.Laws.{AreLaws, EachOf, IsCutBySome}
use Rattle.search_theory.specs.Leaves.{AreHeld, AreMade, ByBranch, ByCover, Growth, HasRanges, IsFirstLeaf, IsHeld, IsLeaf, IsMade, IsUnderWay, Leaf, MayGrow, growth_tree, kid_nodes, lowest}
use Rattle.search_theory.specs.Spots.{EveryKid, Everywhere, Hung, Spot, below, cover_list, grown, has_cover, hung_among, hung_of, put_at, root_spot, spots_below}
use Rattle.search_theory.specs.Trees.{HasAnchor, IsInReach, IsNeeded, needed_words, top_of}
use Rattle.search_theory.proofs.Growing.{AtPlace, Everywhere-grown, Everywhere-map, Hanging, hung_of-grown}

pub anchor-map : (e : Election) (spot : Spot) (P Q : ℕ → Type 0) → ((v : ℕ) → P v → Q v) → HasAnchor e spot P → HasAnchor e spot Q
anchor-map e spot P Q more h = (h.0, h.1, h.2, h.3, more h.2 h.4)

AtPlace-map : {A : Type 0} (P Q : A → Type 0) (i : ℕ) (xs : List A) → ((x : A) → P x → Q x) → AtPlace P i xs → AtPlace Q i xs
AtPlace-map P Q i [] more h = h
AtPlace-map P Q zero (x ∷ xs) more h = more x h
AtPlace-map P Q (suc i) (x ∷ xs) more h = AtPlace-map P Q i xs more h

from_place : {A : Type 0} (i : ℕ) (xs : List A) (P : Type 0) → AtPlace (λ x. P) i xs → P
from_place i [] P at = absurd at
from_place zero (x ∷ xs) P at = at
from_place (suc i) (x ∷ xs) P at = from_place i xs P at

-- ---- the first leaf

pub lowest-first : (e : Election) (i : ℕ) (xs : List Leaf) (x : Leaf) → IsFirstLeaf e i xs x → lowest e xs ≡ x.bound
lowest-first e i [] x h = absurd h
lowest-first e zero (y ∷ ys) x h = let same = ap (λ (z : Leaf). z.bound) h.0 in omega (arith, h.1, same)
lowest-first e (suc i) (y ∷ ys) x h = omega (arith, h.0, lowest-first e i ys x h.1)

pub place-first : (e : Election) (i : ℕ) (xs : List Leaf) (x : Leaf) → IsFirstLeaf e i xs x → i < length xs
place-first e i [] x h = absurd h
place-first e zero (y ∷ ys) x h = omega arith
place-first e (suc i) (y ∷ ys) x h = omega (arith, place-first e i ys x h.1)

-- where the first leaf hangs
pub held_at : (p : Problem) (i : ℕ) (hs : List Hung) (xs : List Leaf) (x : Leaf) → AreHeld p hs xs → IsFirstLeaf p.election i xs x →
    AtPlace (λ h. IsHeld p h x) i hs
held_at p i [] [] x held first = first
held_at p i [] (y ∷ ys) x held first = absurd held
held_at p i (h ∷ hs) [] x held first = absurd held
held_at p zero (h ∷ hs) (y ∷ ys) x held first = subst (λ z. IsHeld p h z) (sym first.0) held.0
held_at p (suc i) (h ∷ hs) (y ∷ ys) x held first = held_at p i hs ys x held.1 first.1

pub length-held : (p : Problem) (hs : List Hung) (xs : List Leaf) → AreHeld p hs xs → length hs ≡ length xs
length-held p [] [] held = refl
length-held p [] (y ∷ ys) held = absurd held
length-held p (h ∷ hs) [] held = absurd held
length-held p (h ∷ hs) (y ∷ ys) held = ap suc (length-held p hs ys held.1)

AreHeld-append : (p : Problem) (hs gs : List Hung) (xs ys : List Leaf) → AreHeld p hs xs → AreHeld p gs ys → AreHeld p (hs ++ gs) (xs ++ ys)
AreHeld-append p [] gs [] ys a b = b
AreHeld-append p [] gs (x ∷ xs) ys a b = absurd a
AreHeld-append p (h ∷ hs) gs [] ys a b = absurd a
AreHeld-append p (h ∷ hs) gs (x ∷ xs) ys a b = (a.0, AreHeld-append p hs gs xs ys a.1 b)

AreHeld-put_at : (p : Problem) (i : ℕ) (f : Hung → List Hung) (hs : List Hung) (xs kids : List Leaf) →
    AreHeld p hs xs → AtPlace (λ h. AreHeld p (f h) kids) i hs → AreHeld p (put_at i f hs) (put_at i (λ x. kids) xs)
AreHeld-put_at p i f [] [] kids held at = tt
AreHeld-put_at p i f [] (x ∷ xs) kids held at = absurd held
AreHeld-put_at p i f (h ∷ hs) [] kids held at = absurd held
AreHeld-put_at p zero f (h ∷ hs) (x ∷ xs) kids held at = AreHeld-append p (f h) hs kids xs at held.1
AreHeld-put_at p (suc i) f (h ∷ hs) (x ∷ xs) kids held at = (held.0, AreHeld-put_at p i f hs xs kids held.1 at)

lowest-append : (e : Election) (t : ℕ) (xs ys : List Leaf) → EachOf (λ (x : Leaf). t ≤ x.bound) xs → t ≤ lowest e ys → t ≤ lowest e (xs ++ ys)
lowest-append e t [] ys all low = low
lowest-append e t (x ∷ xs) ys all low = omega (arith, all.0, lowest-append e t xs ys all.1 low)

pub lowest-put_at : (e : Election) (i : ℕ) (xs : List Leaf) (x : Leaf) (kids : List Leaf) → IsFirstLeaf e i xs x →
    EachOf (λ (k : Leaf). x.bound ≤ k.bound) kids → x.bound ≤ lowest e (put_at i (λ y. kids) xs)
lowest-put_at e i [] x kids first all = absurd first
lowest-put_at e zero (y ∷ ys) x kids first all = lowest-append e x.bound kids ys all first.1
lowest-put_at e (suc i) (y ∷ ys) x kids first all = omega (arith, first.0, lowest-put_at e i ys x kids first.1 all)

-- ---- new leaves

-- a node of the tree has limits as the cut test wants them
pub limits_of : (e : Election) (node : Node) → HasRanges e node → length node.limits ≤ MOST_LIMITS → AreLimits e node
limits_of e node ranges few = record {
  few = few;
  small = ranges.small;
  features = ranges.features;
}

-- the spot of a leaf below these nodes
abbrev pub spot_of : Leaf → List Node → Spot
spot_of leaf above = record { node = leaf.node; above = above }

-- what a new leaf knows, below a leaf whose anchor has a ceiling of at most its bound
module _ (p : Problem) (laws : AreLaws p) (parent : Leaf) (above : List Node) (anchored : HasAnchor p.election (spot_of parent above) (λ v. v ≤ parent.bound))
    (deep : parent.depth ≡ suc (length above)) (shallow : suc parent.depth ≤ MOST_DEPTH) (few : length parent.node.limits < parent.depth) where
  abbrev pub KidIsFine : Node → Type 0
  KidIsFine k =
      IsCutBySome p.election parent.bound k × (has_cover p.election k.goal ≡ true → k.limits ≡ []) × (length k.limits ≤ suc (length parent.node.limits))

  few_limits : (k : Node) (x : Leaf) → KidIsFine k → IsMade p parent k x → length x.node.limits ≤ MOST_LIMITS
  few_limits k x fine made = let e = ap (λ (z : Node). length z.limits) made.is in omega (arith, e, fine.2)

  below_parent : (k : Node) (x : Leaf) → KidIsFine k → IsMade p parent k x → parent.bound ≤ x.bound
  below_parent k x fine made = elim made.tight [
    | inl solid ↦
        let limits = limits_of p.election x.node made.own.ranges (few_limits k x fine made) in
        let cut = subst (λ z. IsCutBySome p.election parent.bound z) (sym made.is) fine.0 in
        omega (arith, laws.below x.node parent.bound solid.1 made.own.reached limits cut solid.2, solid.3)
    | inr other ↦ omega (arith, other.1)
  ]

  held_kid : (k : Node) (x : Leaf) → KidIsFine k → IsMade p parent k x →
      IsHeld p (record { spot = below (spot_of parent above) k; multipliers = x.multipliers }) x
  held_kid k x fine made = record {
    node = sym made.is;
    multipliers = refl;
    own = made.own;
    tight = subst (λ z. HasAnchor p.election (below (spot_of parent above) z) (λ v. v ≤ x.bound)) made.is (elim made.tight [
      | inl solid ↦ (x.node, inl (solid.0, refl), solid.1, solid.2, solid.3)
      | inr other ↦ (anchored.0, inr (other.0, anchored.1), anchored.2, anchored.3, omega (arith, other.1, anchored.4))
    ]);
    plain = subst (λ (z : Node). has_cover p.election z.goal ≡ true → z.limits ≡ []) (sym made.is) fine.1;
    depth = (let d = made.depth in omega (arith, d, deep));
    shallow = (let d = made.depth in omega (arith, d, shallow));
    few = (let e = ap (λ (z : Node). length z.limits) made.is in let d = made.depth in omega (arith, e, d, fine.2, few));
  }

  pub kids_above : (nodes : List Node) (kids : List Leaf) → EachOf KidIsFine nodes → AreMade p parent nodes kids →
      EachOf (λ (k : Leaf). parent.bound ≤ k.bound) kids
  kids_above [] [] fine made = tt
  kids_above [] (x ∷ xs) fine made = absurd made
  kids_above (k ∷ ks) [] fine made = absurd made
  kids_above (k ∷ ks) (x ∷ xs) fine made = (below_parent k x fine.0 made.0, kids_above ks xs fine.1 made.1)

  held_split : (goals : List Goal) (kids : List Leaf) → EachOf KidIsFine (map without_limits goals) → AreMade p parent (map without_limits goals) kids →
      AreHeld p (hung_among p.election (cuts_of (map (λ (k : Leaf). k.multipliers) kids)) (spots_below (spot_of parent above) goals)) kids
  held_split [] [] fine made = tt
  held_split [] (x ∷ xs) fine made = absurd made
  held_split (g ∷ gs) [] fine made = absurd made
  held_split (g ∷ gs) (x ∷ xs) fine made = (held_kid (without_limits g) x fine.0 made.0, held_split gs xs fine.1 made.1)

  pub held_growth : (way : Growth) (kids : List Leaf) → EachOf KidIsFine (kid_nodes p.election way parent.node) →
      AreMade p parent (kid_nodes p.election way parent.node) kids →
      AreHeld p (hung_of p.election (growth_tree way kids) (spot_of parent above)) kids
  held_growth ByCover kids fine made = held_split (cover_list p.election parent.node.goal) kids fine made
  held_growth (ByBranch b) [] fine made = absurd made
  held_growth (ByBranch b) (x ∷ []) fine made = absurd made.1
  held_growth (ByBranch b) (x ∷ y ∷ []) fine made = (
    held_kid (low_half parent.node b.feature b.value) x fine.0 made.0,
    (held_kid (high_half parent.node b.feature b.value) y fine.1.0 made.1.0, tt),
  )
  held_growth (ByBranch b) (x ∷ y ∷ z ∷ zs) fine made = absurd made.1.1

-- ---- the kids of a leaf that may grow

abbrev pub IsFineBelow : Election → ℕ → ℕ → Node → Type 0
IsFineBelow e b m k = IsCutBySome e b k × (has_cover e k.goal ≡ true → k.limits ≡ []) × (length k.limits ≤ suc m)

kids_plain : (e : Election) (b m : ℕ) (goals : List Goal) → EachOf (IsCutBySome e b) (map without_limits goals) → EachOf (IsFineBelow e b m) (map without_limits goals)
kids_plain e b m [] all = tt
kids_plain e b m (g ∷ gs) all = ((all.0, λ yes. refl, omega arith), kids_plain e b m gs all.1)

pub kids_fine : (p : Problem) (laws : AreLaws p) (parent : Leaf) (way : Growth) → MayGrow p.election way parent.node →
    (has_cover p.election parent.node.goal ≡ true → parent.node.limits ≡ []) → IsLeaf p parent →
    EachOf (IsFineBelow p.election parent.bound (length parent.node.limits)) (kid_nodes p.election way parent.node)
kids_fine p laws parent ByCover may plain leaf =
    kids_plain p.election parent.bound (length parent.node.limits) (cover_list p.election parent.node.goal)
    (laws.inherits parent.node parent.multipliers parent.bound ByCover leaf.reached may plain leaf.count leaf.bound)
kids_fine p laws parent (ByBranch b) may plain leaf =
    let h = laws.inherits parent.node parent.multipliers parent.bound (ByBranch b) leaf.reached may plain leaf.count leaf.bound in (
      (h.0, λ yes. absurd (false≢true (sym may.0 ∙ yes)), omega (arith, length-append parent.node.limits (low_limit b.feature b.value ∷ []))),
      ((h.1.0, λ yes. absurd (false≢true (sym may.0 ∙ yes)), omega (arith, length-append parent.node.limits (high_limit b.feature b.value ∷ []))), tt),
    )

-- ---- what was grown is needed

needed_kids : (p : Problem) (t : ℕ) (parent : Leaf) (goals : List Goal) (kids : List Leaf) (spot : Spot) → AreMade p parent (map without_limits goals) kids →
    EveryKid p.election (needed_words p.election t) (cuts_of (map (λ (k : Leaf). k.multipliers) kids)) (spots_below spot goals)
needed_kids p t parent [] [] spot made = tt
needed_kids p t parent [] (x ∷ xs) spot made = absurd made
needed_kids p t parent (g ∷ gs) [] spot made = absurd made
needed_kids p t parent (g ∷ gs) (x ∷ xs) spot made = (tt, needed_kids p t parent gs xs spot made.1)

needed_growth : (p : Problem) (t : ℕ) (parent : Leaf) (above : List Node) (way : Growth) (kids : List Leaf) → MayGrow p.election way parent.node →
    (has_cover p.election parent.node.goal ≡ true → parent.node.limits ≡ []) → HasAnchor p.election (spot_of parent above) (IsInReach p.election t) →
    AreMade p parent (kid_nodes p.election way parent.node) kids →
    Everywhere p.election (needed_words p.election t) (growth_tree way kids) (spot_of parent above)
needed_growth p t parent above ByCover kids may plain anchored made =
    (((may, plain may), anchored), needed_kids p t parent (cover_list p.election parent.node.goal) kids (spot_of parent above) made)
needed_growth p t parent above (ByBranch b) [] may plain anchored made = absurd made
needed_growth p t parent above (ByBranch b) (x ∷ []) may plain anchored made = absurd made.1
needed_growth p t parent above (ByBranch b) (x ∷ y ∷ zs) may plain anchored made = ((may.0, may.1, may.2, anchored), tt, tt)

pub nothing_new : (cut : List ℕ → Spot → Type 0) (hs : List Hung) → Hanging cut (λ ms spot. Unit {0}) hs
nothing_new cut [] = tt
nothing_new cut (h ∷ hs) = (λ any. tt, nothing_new cut hs)

-- a number that may rise
pub needed-more : (e : Election) (t u : ℕ) (tree : Plain) → t ≤ u → IsNeeded e t tree → IsNeeded e u tree
needed-more e t u tree le needed =
    Everywhere-map e (needed_words e t) (needed_words e u)
    (λ spot h. (h.0, anchor-map e spot (IsInReach e t) (IsInReach e u) (λ v g. (omega (arith, g.0), g.1)) h.1))
    (λ f v spot h. (h.0, h.1, h.2, anchor-map e spot (IsInReach e t) (IsInReach e u) (λ v g. (omega (arith, g.0), g.1)) h.3))
    tree root_spot needed (nothing_new (λ ms spot. Unit {0}) (cuts_in e tree))

-- ---- a turn

-- the spot of a cut, by its leaf
pub same_spot : (p : Problem) (h : Hung) (x : Leaf) → IsHeld p h x → h.spot ≡ spot_of x h.spot.above
same_spot p h x held = ap (λ (n : Node). record { node = n; above = h.spot.above }) held.node

module _ (p : Problem) (laws : AreLaws p) (x : Leaf) (way : Growth) (kids : List Leaf) (may : MayGrow p.election way x.node)
    (made : AreMade p x (kid_nodes p.election way x.node) kids) (shallow : x.depth < MOST_DEPTH) (h : Hung) (held : IsHeld p h x) where
  anchored_here : HasAnchor p.election (spot_of x h.spot.above) (λ v. v ≤ x.bound)
  anchored_here = subst (λ s. HasAnchor p.election s (λ v. v ≤ x.bound)) (same_spot p h x held) held.tight

  deep_here : x.depth ≡ suc (length h.spot.above)
  deep_here = held.depth

  fine_here : EachOf (IsFineBelow p.election x.bound (length x.node.limits)) (kid_nodes p.election way x.node)
  fine_here = kids_fine p laws x way may held.plain held.own

  pub hung_here : AreHeld p (hung_of p.election (growth_tree way kids) h.spot) kids
  hung_here =
      subst (λ s. AreHeld p (hung_of p.election (growth_tree way kids) s) kids) (sym (same_spot p h x held))
      (held_growth p laws x h.spot.above anchored_here deep_here (omega (arith, shallow)) held.few way kids fine_here made)

  pub above_here : EachOf (λ (k : Leaf). x.bound ≤ k.bound) kids
  above_here = kids_above p laws x h.spot.above anchored_here deep_here (omega (arith, shallow)) held.few (kid_nodes p.election way x.node) kids fine_here made

  pub needed_here : (t : ℕ) → x.bound ≤ t → x.bound < top_of p.election → Everywhere p.election (needed_words p.election t) (growth_tree way kids) h.spot
  needed_here t le low =
      subst (λ s. Everywhere p.election (needed_words p.election t) (growth_tree way kids) s) (sym (same_spot p h x held))
      (needed_growth p t x h.spot.above way kids may held.plain
      (anchor-map p.election (spot_of x h.spot.above) (λ v. v ≤ x.bound) (IsInReach p.election t) (λ v g. (omega (arith, g, le), omega (arith, g, low))) anchored_here) made)

-- the first leaf with the least bound grows
pub step : (p : Problem) (laws : AreLaws p) (tree : Plain) (leaves : List Leaf) (i : ℕ) (x : Leaf) (way : Growth) (kids : List Leaf) →
    IsUnderWay p tree leaves → IsFirstLeaf p.election i leaves x → x.bound < top_of p.election → x.depth < MOST_DEPTH → MayGrow p.election way x.node →
    AreMade p x (kid_nodes p.election way x.node) kids →
    IsUnderWay p (grown i (growth_tree way kids) tree) (put_at i (λ y. kids) leaves) × (x.bound ≤ lowest p.election (put_at i (λ y. kids) leaves))
step p laws tree leaves i x way kids search first low shallow may made =
    let e = p.election in
    let at = held_at p i (cuts_in e tree) leaves x search.cuts first in
    let new = growth_tree way kids in
    let after = put_at i (λ y. kids) leaves in
    let hung = AtPlace-map (λ h. IsHeld p h x) (λ h. AreHeld p (hung_of e new h.spot) kids) i (cuts_in e tree) (λ h held. hung_here p laws x way kids may made shallow h held) at in
    let above = AtPlace-map (λ h. IsHeld p h x) (λ h. EachOf (λ (k : Leaf). x.bound ≤ k.bound) kids) i (cuts_in e tree) (λ h held. above_here p laws x way kids may made shallow h held) at in
    let risen = lowest-put_at e i leaves x kids first (from_place i (cuts_in e tree) (EachOf (λ (k : Leaf). x.bound ≤ k.bound) kids) above) in
    let needed = needed-more e x.bound (lowest e after) tree risen (subst (λ u. IsNeeded e u tree) (lowest-first e i leaves x first) search.inner) in
    let part = AtPlace-map (λ h. IsHeld p h x) (λ h. Everywhere e (needed_words e (lowest e after)) new h.spot) i (cuts_in e tree)
    (λ h held. needed_here p laws x way kids may made shallow h held (lowest e after) risen low) at in (
      record {
        inner = Everywhere-grown e (needed_words e (lowest e after)) i new tree root_spot needed part;
        cuts = subst (λ l. AreHeld p l after) (sym (hung_of-grown e (needed_words e (lowest e after)) i new tree root_spot needed))
            (AreHeld-put_at p i (λ h. hung_of e new h.spot) (cuts_in e tree) leaves kids search.cuts hung);
      },
      risen,
    )
