-- The root is no kid and no half.
use Rattle.std.proofs.Common.{◌≡◌, ◌≢◌, ℕ, zero, suc, ◌<◌, ◌∙◌, List, [], ◌∷◌, All, Bool, Some, None, true, false, cond, get_or, length, map, refl, sym, ap, arith}
use Rattle.std.specs.Prelude.{Contains, nat_lt}
use Rattle.std.proofs.lemmas.List.{length-map}
use Rattle.goal_rows.specs.Cells.{HasFeatures}
use Rattle.goal_rows.specs.Elections.{Election, Node}
use Rattle.goal_rows.specs.Goals.{AreRoots, kid_goals, longer_suffixes}
use Rattle.goal_rows.specs.Nodes.{without_limits}
use Rattle.goal_rows.specs.declared.goals.Goal.{Goal}
use Rattle.goal_rows.specs.declared.goals.Goal.TheVariants.{Root, Suffix, Pair, Cover}
use Rattle.goal_rows.proofs.Ways.{no_root}
use Rattle.search_theory.specs.Spots.{cover_list}
use Rattle.search_leaves.specs.Kept.{node_in}
use Rattle.search_leaves.specs.declared.seeds.Seed.{Seed}

none_made : (suffix zs : List ℕ) → Contains (map (λ z. Suffix (z ∷ suffix)) zs) Root → ⊥
none_made suffix [] there = omega (arith, there.1)
none_made suffix (z ∷ zs) (zero, lt, is) = let h : Suffix (z ∷ suffix) ≡ Root = is in absurd cc
none_made suffix (z ∷ zs) (suc k, lt, is) = none_made suffix zs (k, omega (arith, lt), is)

not_kid : (e : Election) (goal : Goal) → AreRoots e → Contains (cover_list e goal) Root → ⊥
not_kid e Root are there = no_root e are there
not_kid e (Suffix suffix) are there = by (nat_lt (length suffix) e.poll.c) there
  where
    by : (b : Bool) → Contains (kid_goals (cond b (Some (longer_suffixes e.poll.c suffix)) None)) Root → ⊥
    by true there = none_made suffix _ there
    by false there = omega (arith, there.1)
not_kid e (Pair g l) are there = omega (arith, there.1)
not_kid e (Cover x) are there = omega (arith, there.1)

node_at_place : (seeds : List Seed) (k : ℕ) (d : Seed) (n : Node) → k < length seeds → get_or (map node_in seeds) k n ≡ node_in (get_or seeds k d)
node_at_place [] k d n lt = absurd (omega (arith, lt))
node_at_place (x ∷ seeds) zero d n lt = refl
node_at_place (x ∷ seeds) (suc k) d n lt = node_at_place seeds k d n (omega (arith, lt))

bare_at : (goals : List Goal) (k : ℕ) (n : Node) (d : Goal) → k < length goals → get_or (map without_limits goals) k n ≡ without_limits (get_or goals k d)
bare_at [] k n d lt = absurd (omega (arith, lt))
bare_at (x ∷ goals) zero n d lt = refl
bare_at (x ∷ goals) (suc k) n d lt = bare_at goals k n d (omega (arith, lt))

pub kids_below : (e : Election) (goal : Goal) (seeds : List Seed) → AreRoots e → map node_in seeds ≡ map without_limits (cover_list e goal) → All (λ (seed : Seed). seed.start.goal ≢ Root) seeds
kids_below e goal seeds are nodes = λ k d lt is.
    let many = length-map seeds node_in in
    let much = length-map (cover_list e goal) without_limits in
    let count = ap (λ (l : List Node). length l) nodes in
    let within : k < length (cover_list e goal) = omega (arith, lt, many, much, count) in
    let n = without_limits Root in
    let same : node_in (get_or seeds k d) ≡ without_limits (get_or (cover_list e goal) k Root) = sym (node_at_place seeds k d n lt) ∙ ap (λ l. get_or l k n) nodes ∙ bare_at (cover_list e goal) k n Root within in
    let here : get_or (cover_list e goal) k Root ≡ Root = sym (ap (λ (n : Node). n.goal) same) ∙ is in
    not_kid e goal are (k, within, here)

halves_of : (seeds : List Seed) (a b : Node) → map node_in seeds ≡ a ∷ b ∷ [] → (a.goal ≡ Root → ⊥) → (b.goal ≡ Root → ⊥) → All (λ (seed : Seed). seed.start.goal ≢ Root) seeds
halves_of seeds a b nodes one two = λ k d lt is. by k d lt is (ap (λ l. get_or l k a) nodes) (node_at_place seeds k d a lt)
  where
    by : (k : ℕ) (d : Seed) → k < length seeds → (get_or seeds k d).start.goal ≡ Root → get_or (map node_in seeds) k a ≡ get_or (a ∷ b ∷ []) k a → get_or (map node_in seeds) k a ≡ node_in (get_or seeds k d) → ⊥
    by zero d lt is e f = one (ap (λ (n : Node). n.goal) (sym e ∙ f) ∙ is)
    by (suc zero) d lt is e f = two (ap (λ (n : Node). n.goal) (sym e ∙ f) ∙ is)
    by (suc (suc k)) d lt is e f =
        let many = length-map seeds node_in in
        let two = ap (λ (l : List Node). length l) nodes in
        omega (arith, lt, many, two)

featured_not_root : (goal : Goal) → HasFeatures goal → goal ≡ Root → ⊥
featured_not_root Root has is = has
featured_not_root (Suffix suffix) has is = let h : Suffix suffix ≡ Root = is in absurd cc
featured_not_root (Pair g l) has is = has
featured_not_root (Cover x) has is = let h : Cover x ≡ Root = is in absurd cc

pub halves_below : (node : Node) (seeds : List Seed) (low high : Node) → HasFeatures node.goal → map node_in seeds ≡ low ∷ high ∷ [] → low.goal ≡ node.goal → high.goal ≡ node.goal → All (λ (seed : Seed). seed.start.goal ≢ Root) seeds
halves_below node seeds low high has nodes one two =
    halves_of seeds low high nodes (λ is. featured_not_root node.goal has (sym one ∙ is)) (λ is. featured_not_root node.goal has (sym two ∙ is))
