-- The leaves of seeds are the kids of a leaf.
use Rattle.std.proofs.Common.{◌≡◌, ℕ, suc, ◌+◌, ◌≤◌, ◌++◌, ◌∙◌, List, [], ◌∷◌, All, true, false, cond, get_or, length, map, refl, sym, ap, subst, arith}
use Rattle.std.proofs.lemmas.List.{length-map}
use Rattle.std.proofs.lemmas.List.Elements.{All-cons, All-head, All-nil, All-tail}
use Rattle.row_program.specs.declared.Limit.{Limit}
use Rattle.bound_tree.specs.Growth.{cuts_of, replaced}
use Rattle.bound_tree.specs.Nodes.{size}
use Rattle.bound_tree.specs.Plain.{Branch, Cut, Plain, Split}
use Rattle.bound_tree.specs.declared.bound.TheConstants.{MOST_NODES}
use Rattle.goal_rows.specs.Elections.{Election, Node}
use Rattle.goal_rows.specs.Nodes.{without_limits}
use Rattle.goal_rows.specs.Races.{IsGroundIn}
use Rattle.goal_rows.specs.declared.parts.Ground.{Ground}
use Rattle.search_theory.specs.Ends.{IsKnown, Problem}
use Rattle.search_theory.specs.Branchings.{Branching}
use Rattle.search_theory.specs.Leaves.{AreMade, ByBranch, ByCover, IsCutTo, IsMade, Leaf, growth_tree, kid_nodes}
use Rattle.search_theory.specs.Spots.{cover_list, has_cover}
use Rattle.search_leaves.specs.Branched.{IsBranchedAt}
use Rattle.search_leaves.specs.Kept.{CanHalve, IsSeedOf, leaf_of, node_at, node_in}
use Rattle.search_leaves.specs.declared.leaves.Leaf.{Leaf as KeptLeaf}
use Rattle.search_leaves.specs.declared.seeds.Seed.{Seed}
use Rattle.search_leaves.specs.NewLeaves.{IsLeafOf}
use Rattle.suffix_search.specs.Searches.{AreKids, AreLeavesOf, MayGrowAt, leaves_of}

-- ---- one after another

-- leaves were made of the seeds before those that are left
pub record AreSown (e : Election) (seeds left : List Seed) (made : List KeptLeaf) : Type 0 where
  pub done : List Seed
  pub all : seeds ≡ done ++ left
  pub leaves : AreLeavesOf e done made

snoc : {A : Type 0} (done : List A) (x : A) (left : List A) → done ++ x ∷ left ≡ (done ++ x ∷ []) ++ left
snoc [] x left = refl
snoc (y ∷ done) x left = ap (λ l. y ∷ l) (snoc done x left)

leaves-snoc : (e : Election) (done : List Seed) (made : List KeptLeaf) (seed : Seed) (leaf : KeptLeaf) → AreLeavesOf e done made → IsLeafOf e seed leaf → AreLeavesOf e (done ++ seed ∷ []) (made ++ leaf ∷ [])
leaves-snoc e [] [] seed leaf are is = (is, tt)
leaves-snoc e [] (y ∷ made) seed leaf are is = absurd are
leaves-snoc e (x ∷ done) [] seed leaf are is = absurd are
leaves-snoc e (x ∷ done) (y ∷ made) seed leaf are is = (are.0, leaves-snoc e done made seed leaf are.1 is)

pub one_sown : (e : Election) (seeds left : List Seed) (made now : List KeptLeaf) (seed : Seed) (leaf : KeptLeaf) → AreSown e seeds (seed ∷ left) made → IsLeafOf e seed leaf → now ≡ made ++ leaf ∷ [] → AreSown e seeds left now
one_sown e seeds left made now seed leaf sown is now_is = record {
  done = sown.done ++ seed ∷ [];
  all = sown.all ∙ snoc sown.done seed left;
  leaves = subst (AreLeavesOf e (sown.done ++ seed ∷ [])) (sym now_is) (leaves-snoc e sown.done made seed leaf sown.leaves is);
}

append-none : {A : Type 0} (xs : List A) → xs ++ [] ≡ xs
append-none [] = refl
append-none (x ∷ xs) = ap (λ l. x ∷ l) (append-none xs)

pub all_sown : (e : Election) (seeds left : List Seed) (made : List KeptLeaf) → AreSown e seeds left made → left ≡ [] → AreLeavesOf e seeds made
all_sown e seeds left made sown none =
    subst (λ s. AreLeavesOf e s made) (sym (sown.all ∙ ap (λ l. sown.done ++ l) none ∙ append-none sown.done)) sown.leaves

-- what is so of all seeds is so of the next one
pub of_next : (P : Seed → Type 0) (e : Election) (seeds left : List Seed) (made : List KeptLeaf) (seed : Seed) → AreSown e seeds (seed ∷ left) made → All P seeds → P seed
of_next P e seeds left made seed sown all = there sown.done (subst (All P) sown.all all)
  where
    there : (done : List Seed) → All P (done ++ seed ∷ left) → P seed
    there [] all = All-head P seed left all
    there (x ∷ done) all = there done (All-tail P x (done ++ seed ∷ left) all)

-- ---- kids

grounds_moved : (start other : Ground) (e : Election) → start ≡ other → IsGroundIn e other → IsGroundIn e start
grounds_moved start other e same is = subst (IsGroundIn e) (sym same) is

pub kid_grounds : (e : Election) (parent : KeptLeaf) (seeds : List Seed) (kids : List KeptLeaf) → All (IsSeedOf e parent) seeds → AreLeavesOf e seeds kids → All (λ (kid : KeptLeaf). IsGroundIn e kid.start) kids
kid_grounds e parent [] [] all are = All-nil (λ (kid : KeptLeaf). IsGroundIn e kid.start)
kid_grounds e parent [] (y ∷ kids) all are = absurd are
kid_grounds e parent (x ∷ seeds) [] all are = absurd are
kid_grounds e parent (x ∷ seeds) (y ∷ kids) all are =
    let head = All-head (IsSeedOf e parent) x seeds all in
    All-cons (λ (kid : KeptLeaf). IsGroundIn e kid.start) y kids (grounds_moved y.start x.start e are.0.ground head.own.ground)
    (kid_grounds e parent seeds kids (All-tail (IsSeedOf e parent) x seeds all) are.1)

node_same : (x : Seed) (y : KeptLeaf) → y.start ≡ x.start → y.limits.items ≡ x.limits.items → node_at y ≡ node_in x
node_same x y start items = ap (λ (g : Ground). record { goal = g.goal; limits = y.limits.items }) start ∙ ap (λ (ls : List Limit). record { goal = x.start.goal; limits = ls }) items

made_one : (p : Problem) (parent : KeptLeaf) (x : Seed) (y : KeptLeaf) → IsKnown p → IsSeedOf p.election parent x → IsLeafOf p.election x y → IsMade p (leaf_of parent) (node_in x) (leaf_of y)
made_one p parent x y known seed is = record {
  is = node_same x y is.ground (cc (is.limits));
  own = is.own p refl known;
  tight = subst (λ b. IsCutTo p.election b (leaf_of y)) seed.bound is.cut;
  depth = is.depth ∙ seed.depth ∙ omega arith;
}

pub are_made : (p : Problem) (parent : KeptLeaf) (seeds : List Seed) (kids : List KeptLeaf) → IsKnown p → All (IsSeedOf p.election parent) seeds → AreLeavesOf p.election seeds kids
    → AreMade p (leaf_of parent) (map node_in seeds) (leaves_of kids)
are_made p parent [] [] known all are = tt
are_made p parent [] (y ∷ kids) known all are = absurd are
are_made p parent (x ∷ seeds) [] known all are = absurd are
are_made p parent (x ∷ seeds) (y ∷ kids) known all are = (
  made_one p parent x y known (All-head (IsSeedOf p.election parent) x seeds all) are.0,
  are_made p parent seeds kids known (All-tail (IsSeedOf p.election parent) x seeds all) are.1,
)

pub count_of_leaves : (e : Election) (seeds : List Seed) (kids : List KeptLeaf) → AreLeavesOf e seeds kids → length kids ≡ length seeds
count_of_leaves e [] [] are = refl
count_of_leaves e [] (y ∷ kids) are = absurd are
count_of_leaves e (x ∷ seeds) [] are = absurd are
count_of_leaves e (x ∷ seeds) (y ∷ kids) are = ap suc (count_of_leaves e seeds kids are.1)

-- ---- the two kids of a branch, and those of a cover

two_kids : (kids : List KeptLeaf) (low high : KeptLeaf) → length kids ≡ 2 → low ≡ get_or kids 0 low → high ≡ get_or kids 1 high → kids ≡ low ∷ high ∷ []
two_kids [] low high two one other = absurd (omega (arith, two))
two_kids (x ∷ []) low high two one other = absurd (omega (arith, two))
two_kids (x ∷ y ∷ []) low high two one other = rw (one, other) refl
two_kids (x ∷ y ∷ z ∷ kids) low high two one other = absurd (omega (arith, two))

pub branch_kids : (e : Election) (leaf : KeptLeaf) (number : ℕ) (before after : Plain) (b : Branching) (seeds : List Seed) (kids : List KeptLeaf) (low high : KeptLeaf) → has_cover e leaf.start.goal ≡ false → IsBranchedAt e leaf b → CanHalve e (node_at leaf) b
    → map node_in seeds ≡ kid_nodes e (ByBranch b) (node_at leaf) → All (IsSeedOf e leaf) seeds → AreLeavesOf e seeds kids → low ≡ get_or kids 0 low → high ≡ get_or kids 1 high
    → after ≡ replaced number (Branch b.feature b.value (Cut low.multipliers) (Cut high.multipliers)) before → AreKids e leaf number before after kids
branch_kids e leaf number before after b seeds kids low high none branched can nodes all are one other grown =
    let many = length-map seeds node_in in
    let both = ap (λ (l : List Node). length l) nodes in
    let count = count_of_leaves e seeds kids are in
    let two = two_kids kids low high (omega (arith, many, both, count)) one other in
    record {
      way = ByBranch b;
      by = (none, branched, can);
      tree = grown ∙ ap (λ l. replaced number (growth_tree (ByBranch b) (leaves_of l)) before) (sym two);
      grounds = kid_grounds e leaf seeds kids all are;
      made = λ p same known. made_as p e leaf seeds kids (kid_nodes e (ByBranch b) (node_at leaf)) same known nodes all are;
    }
  where
    made_as : (p : Problem) (e : Election) (leaf : KeptLeaf) (seeds : List Seed) (kids : List KeptLeaf) (news : List Node) → p.election ≡ e → IsKnown p → map node_in seeds ≡ news → All (IsSeedOf e leaf) seeds → AreLeavesOf e seeds kids
        → AreMade p (leaf_of leaf) news (leaves_of kids)
    made_as p e leaf seeds kids news same known nodes all are =
        subst (λ ns. AreMade p (leaf_of leaf) ns (leaves_of kids)) nodes
        (are_made p leaf seeds kids known (subst (λ e. All (IsSeedOf e leaf) seeds) (sym same) all) (subst (λ e. AreLeavesOf e seeds kids) (sym same) are))

lists_same : (kids : List KeptLeaf) → map (λ (leaf : KeptLeaf). leaf.multipliers) kids ≡ map (λ (leaf : Leaf). leaf.multipliers) (leaves_of kids)
lists_same [] = refl
lists_same (x ∷ kids) = ap (λ l. x.multipliers ∷ l) (lists_same kids)

pub cover_kids : (e : Election) (leaf : KeptLeaf) (number : ℕ) (before after : Plain) (seeds : List Seed) (kids : List KeptLeaf) → has_cover e leaf.start.goal ≡ true
    → map node_in seeds ≡ kid_nodes e ByCover (node_at leaf) → All (IsSeedOf e leaf) seeds → AreLeavesOf e seeds kids
    → after ≡ replaced number (Split (cuts_of (map (λ (leaf : KeptLeaf). leaf.multipliers) kids))) before → AreKids e leaf number before after kids
cover_kids e leaf number before after seeds kids covered nodes all are grown = record {
  way = ByCover;
  by = covered;
  tree = grown ∙ ap (λ lists. replaced number (Split (cuts_of lists)) before) (lists_same kids);
  grounds = kid_grounds e leaf seeds kids all are;
  made = λ p same known. made_as p same known;
}
  where
    made_as : (p : Problem) → p.election ≡ e → IsKnown p → AreMade p (leaf_of leaf) (kid_nodes e ByCover (node_at leaf)) (leaves_of kids)
    made_as p same known =
        subst (λ ns. AreMade p (leaf_of leaf) ns (leaves_of kids)) nodes
        (are_made p leaf seeds kids known (subst (λ e. All (IsSeedOf e leaf) seeds) (sym same) all) (subst (λ e. AreLeavesOf e seeds kids) (sym same) are))

-- as many kids come by a cover as there is room for
pub cover_room : (e : Election) (leaf : KeptLeaf) (number : ℕ) (tree : Plain) (seeds : List Seed) (kids : List KeptLeaf) (lists : List (List ℕ)) → has_cover e leaf.start.goal ≡ true → MayGrowAt e leaf number tree
    → map node_in seeds ≡ kid_nodes e ByCover (node_at leaf) → AreLeavesOf e seeds kids → lists ≡ map (λ (leaf : KeptLeaf). leaf.multipliers) kids → size tree + length lists ≤ MOST_NODES
cover_room e leaf number tree seeds kids lists covered may nodes are is =
    let many = length-map seeds node_in in
    let news = ap (λ (l : List Node). length l) nodes in
    let goals = length-map (cover_list e leaf.start.goal) without_limits in
    let count = count_of_leaves e seeds kids are in
    let long = ap (λ (l : List (List ℕ)). length l) is ∙ length-map kids (λ (leaf : KeptLeaf). leaf.multipliers) in
    let growth = ap (λ b. cond b (length (cover_list e leaf.start.goal)) 2) covered in
    let room = may.room in
    omega (arith, many, news, goals, count, long, growth, room)

pub two_seeds : (seeds : List Seed) (a b : Node) → map node_in seeds ≡ a ∷ b ∷ [] → length seeds ≡ 2
two_seeds seeds a b nodes = let many = length-map seeds node_in in let two = ap (λ (l : List Node). length l) nodes in omega (arith, many, two)
