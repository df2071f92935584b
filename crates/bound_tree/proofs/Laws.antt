-- What growth does to the count and to the depth of a tree.
use Rattle.std.proofs.Common.{ℕ, zero, suc, ◌≡◌, ◌+◌, ◌-◌, ◌<◌, ◌≤◌, inl, inr, min, max, map, get_or, List, [], ◌∷◌, ◌++◌, length, Some, slice_get, refl, sym, ap, subst, ◌∙◌, arith}
use Rattle.std.proofs.lemmas.Bool.{cases_lt, lt-ltb, le-ltb}
use Rattle.std.proofs.lemmas.Option.{slice_get_within, slice_get-get_or}
use Rattle.row_program.specs.declared.Feature.{Feature}
use Rattle.bound_tree.specs.declared.tree.Tree.{Tree}
use Rattle.bound_tree.specs.declared.tree.Tree.TheVariants as program
use Rattle.bound_tree.specs.Plain.{Plain, Kids, Split, Branch, Cut, More, kids_of, plain_of}
use Rattle.bound_tree.specs.Plain as kids
use Rattle.bound_tree.specs.Nodes.{size, size_all, cut_count, cut_count_all, height, highest, nodes_of, nodes_of_all, depths, depths_all}
use Rattle.bound_tree.specs.Places.{IsNode, IsCut, IsAtDepth, IsPlace, IsPlaceIn}
use Rattle.bound_tree.specs.Growth.{replaced, replaced_in, cuts_of}
use Rattle.bound_tree.proofs.Shapes.{plain_Split, plain_Branch, plain_Cut}
use Rattle.bound_tree.proofs.Places.{place_top, get_left, get_right, length_nodes, length_depths}

pub same_some : {X : Type 0} (x y : X) → Some x ≡ Some y → x ≡ y
same_some x y e = cc

-- where a node stands in what a node has below it
pub split_place : (kids : Kids) (d n : ℕ) (sub : Plain) (e : ℕ) → IsPlace (Split kids) d (suc n) sub e → IsPlaceIn kids (suc d) n sub e
split_place kids d n sub e at = record { node = at.node; deep = at.deep }

pub low_place : (f : Feature) (v : ℕ) (low high : Plain) (d n : ℕ) (sub : Plain) (e : ℕ) → n < size low → IsPlace (Branch f v low high) d (suc n) sub e → IsPlace low (suc d) n sub e
low_place f v low high d n sub e within at = record {
  node = sym (get_left (nodes_of low) (nodes_of high) n (omega (arith, length_nodes low))) ∙ at.node;
  deep = sym (get_left (depths (suc d) low) (depths (suc d) high) n (omega (arith, length_depths (suc d) low))) ∙ at.deep;
}

pub high_place : (f : Feature) (v : ℕ) (low high : Plain) (d n : ℕ) (sub : Plain) (e : ℕ) → size low ≤ n → IsPlace (Branch f v low high) d (suc n) sub e → IsPlace high (suc d) (n - size low) sub e
high_place f v low high d n sub e past at =
    let nodes_at : n ≡ length (nodes_of low) + (n - size low) = omega (arith, length_nodes low) in
    let depths_at : n ≡ length (depths (suc d) low) + (n - size low) = omega (arith, length_depths (suc d) low) in
    record {
      node = sym (ap (slice_get (nodes_of low ++ nodes_of high)) nodes_at ∙ get_right (nodes_of low) (nodes_of high) (n - size low)) ∙ at.node;
      deep = sym (ap (slice_get (depths (suc d) low ++ depths (suc d) high)) depths_at ∙ get_right (depths (suc d) low) (depths (suc d) high) (n - size low)) ∙ at.deep;
    }

pub first_place : (kid : Plain) (kids : Kids) (d n : ℕ) (sub : Plain) (e : ℕ) → n < size kid → IsPlaceIn (More kid kids) d n sub e → IsPlace kid d n sub e
first_place kid kids d n sub e within at = record {
  node = sym (get_left (nodes_of kid) (nodes_of_all kids) n (omega (arith, length_nodes kid))) ∙ at.node;
  deep = sym (get_left (depths d kid) (depths_all d kids) n (omega (arith, length_depths d kid))) ∙ at.deep;
}

pub rest_place : (kid : Plain) (kids : Kids) (d n : ℕ) (sub : Plain) (e : ℕ) → size kid ≤ n → IsPlaceIn (More kid kids) d n sub e → IsPlaceIn kids d (n - size kid) sub e
rest_place kid kids d n sub e past at =
    let nodes_at : n ≡ length (nodes_of kid) + (n - size kid) = omega (arith, length_nodes kid) in
    let depths_at : n ≡ length (depths d kid) + (n - size kid) = omega (arith, length_depths d kid) in
    record {
      node = sym (ap (slice_get (nodes_of kid ++ nodes_of_all kids)) nodes_at ∙ get_right (nodes_of kid) (nodes_of_all kids) (n - size kid)) ∙ at.node;
      deep = sym (ap (slice_get (depths d kid ++ depths_all d kids)) depths_at ∙ get_right (depths d kid) (depths_all d kids) (n - size kid)) ∙ at.deep;
    }

pub nowhere : {X : Type 0} (x y : X) (n : ℕ) → slice_get (x ∷ []) (suc n) ≡ Some y → ⊥
nowhere x y n at = omega (arith, slice_get_within (x ∷ []) (suc n) y at)

-- a tree gains what is put in, and loses what stood there
mutual
  pub size_replaced : (t : Plain) (d n : ℕ) (sub : Plain) (e : ℕ) (new : Plain) → IsPlace t d n sub e → size (replaced n new t) + size sub ≡ size t + size new
  size_replaced (Split kids) d zero sub e new at = omega (arith, ap size (same_some (Split kids) sub at.node))
  size_replaced (Branch f v low high) d zero sub e new at = omega (arith, ap size (same_some (Branch f v low high) sub at.node))
  size_replaced (Cut ms) d zero sub e new at = omega (arith, ap size (same_some (Cut ms) sub at.node))
  size_replaced (Cut ms) d (suc n) sub e new at = absurd (nowhere (Cut ms) sub n at.node)
  size_replaced (Split kids) d (suc n) sub e new at = omega (arith, size_replaced_in kids (suc d) n sub e new (split_place kids d n sub e at))
  size_replaced (Branch f v low high) d (suc n) sub e new at = elim (cases_lt n (size low)) [
    | inl within ↦ rw (lt-ltb n (size low) within) (omega (arith, size_replaced low (suc d) n sub e new (low_place f v low high d n sub e within at)))
    | inr past ↦ rw (le-ltb n (size low) past) (omega (arith, size_replaced high (suc d) (n - size low) sub e new (high_place f v low high d n sub e past at)))
  ]

  size_replaced_in : (kids : Kids) (d n : ℕ) (sub : Plain) (e : ℕ) (new : Plain) → IsPlaceIn kids d n sub e → size_all (replaced_in n new kids) + size sub ≡ size_all kids + size new
  size_replaced_in kids.None d n sub e new at = absurd (omega (arith, slice_get_within [] n sub at.node))
  size_replaced_in (More kid kids) d n sub e new at = elim (cases_lt n (size kid)) [
    | inl within ↦ rw (lt-ltb n (size kid) within) (omega (arith, size_replaced kid d n sub e new (first_place kid kids d n sub e within at)))
    | inr past ↦ rw (le-ltb n (size kid) past) (omega (arith, size_replaced_in kids d (n - size kid) sub e new (rest_place kid kids d n sub e past at)))
  ]

-- and the same for its cuts
mutual
  pub cuts_replaced : (t : Plain) (d n : ℕ) (sub : Plain) (e : ℕ) (new : Plain) → IsPlace t d n sub e → cut_count (replaced n new t) + cut_count sub ≡ cut_count t + cut_count new
  cuts_replaced (Split kids) d zero sub e new at = omega (arith, ap cut_count (same_some (Split kids) sub at.node))
  cuts_replaced (Branch f v low high) d zero sub e new at = omega (arith, ap cut_count (same_some (Branch f v low high) sub at.node))
  cuts_replaced (Cut ms) d zero sub e new at = omega (arith, ap cut_count (same_some (Cut ms) sub at.node))
  cuts_replaced (Cut ms) d (suc n) sub e new at = absurd (nowhere (Cut ms) sub n at.node)
  cuts_replaced (Split kids) d (suc n) sub e new at = cuts_replaced_in kids (suc d) n sub e new (split_place kids d n sub e at)
  cuts_replaced (Branch f v low high) d (suc n) sub e new at = elim (cases_lt n (size low)) [
    | inl within ↦ rw (lt-ltb n (size low) within) (omega (arith, cuts_replaced low (suc d) n sub e new (low_place f v low high d n sub e within at)))
    | inr past ↦ rw (le-ltb n (size low) past) (omega (arith, cuts_replaced high (suc d) (n - size low) sub e new (high_place f v low high d n sub e past at)))
  ]

  cuts_replaced_in : (kids : Kids) (d n : ℕ) (sub : Plain) (e : ℕ) (new : Plain) → IsPlaceIn kids d n sub e → cut_count_all (replaced_in n new kids) + cut_count sub ≡ cut_count_all kids + cut_count new
  cuts_replaced_in kids.None d n sub e new at = absurd (omega (arith, slice_get_within [] n sub at.node))
  cuts_replaced_in (More kid kids) d n sub e new at = elim (cases_lt n (size kid)) [
    | inl within ↦ rw (lt-ltb n (size kid) within) (omega (arith, cuts_replaced kid d n sub e new (first_place kid kids d n sub e within at)))
    | inr past ↦ rw (le-ltb n (size kid) past) (omega (arith, cuts_replaced_in kids d (n - size kid) sub e new (rest_place kid kids d n sub e past at)))
  ]

-- a node with what is below it reaches no deeper than the tree
mutual
  pub height_at : (t : Plain) (d n : ℕ) (sub : Plain) (e : ℕ) → IsPlace t d n sub e → e + height sub ≤ d + height t
  height_at (Split kids) d zero sub e at = omega (arith, same_some d e at.deep, ap height (same_some (Split kids) sub at.node))
  height_at (Branch f v low high) d zero sub e at = omega (arith, same_some d e at.deep, ap height (same_some (Branch f v low high) sub at.node))
  height_at (Cut ms) d zero sub e at = omega (arith, same_some d e at.deep, ap height (same_some (Cut ms) sub at.node))
  height_at (Cut ms) d (suc n) sub e at = absurd (nowhere (Cut ms) sub n at.node)
  height_at (Split kids) d (suc n) sub e at = omega (arith, height_at_all kids (suc d) n sub e (split_place kids d n sub e at))
  height_at (Branch f v low high) d (suc n) sub e at = elim (cases_lt n (size low)) [
    | inl within ↦ omega (arith, height_at low (suc d) n sub e (low_place f v low high d n sub e within at))
    | inr past ↦ omega (arith, height_at high (suc d) (n - size low) sub e (high_place f v low high d n sub e past at))
  ]

  height_at_all : (kids : Kids) (d n : ℕ) (sub : Plain) (e : ℕ) → IsPlaceIn kids d n sub e → e + height sub ≤ d + highest kids
  height_at_all kids.None d n sub e at = absurd (omega (arith, slice_get_within [] n sub at.node))
  height_at_all (More kid kids) d n sub e at = elim (cases_lt n (size kid)) [
    | inl within ↦ omega (arith, height_at kid d n sub e (first_place kid kids d n sub e within at))
    | inr past ↦ omega (arith, height_at_all kids d (n - size kid) sub e (rest_place kid kids d n sub e past at))
  ]

-- where a cut goes out, the tree reaches as deep as before, or as deep as what is put in its place
mutual
  pub height_replaced : (t : Plain) (d n : ℕ) (sub : Plain) (e : ℕ) (new : Plain) → IsPlace t d n sub e → height sub ≤ height new
      → d + height (replaced n new t) ≡ max (d + height t) (e + height new)
  height_replaced (Split kids) d zero sub e new at more = omega (arith, same_some d e at.deep, ap height (same_some (Split kids) sub at.node))
  height_replaced (Branch f v low high) d zero sub e new at more = omega (arith, same_some d e at.deep, ap height (same_some (Branch f v low high) sub at.node))
  height_replaced (Cut ms) d zero sub e new at more = omega (arith, same_some d e at.deep, ap height (same_some (Cut ms) sub at.node))
  height_replaced (Cut ms) d (suc n) sub e new at more = absurd (nowhere (Cut ms) sub n at.node)
  height_replaced (Split kids) d (suc n) sub e new at more = omega (arith, height_replaced_in kids (suc d) n sub e new (split_place kids d n sub e at) more)
  height_replaced (Branch f v low high) d (suc n) sub e new at more = elim (cases_lt n (size low)) [
    | inl within ↦ rw (lt-ltb n (size low) within) (omega (arith, height_replaced low (suc d) n sub e new (low_place f v low high d n sub e within at) more))
    | inr past ↦ rw (le-ltb n (size low) past) (omega (arith, height_replaced high (suc d) (n - size low) sub e new (high_place f v low high d n sub e past at) more))
  ]

  height_replaced_in : (kids : Kids) (d n : ℕ) (sub : Plain) (e : ℕ) (new : Plain) → IsPlaceIn kids d n sub e → height sub ≤ height new
      → d + highest (replaced_in n new kids) ≡ max (d + highest kids) (e + height new)
  height_replaced_in kids.None d n sub e new at more = absurd (omega (arith, slice_get_within [] n sub at.node))
  height_replaced_in (More kid kids) d n sub e new at more = elim (cases_lt n (size kid)) [
    | inl within ↦ rw (lt-ltb n (size kid) within) (omega (arith, height_replaced kid d n sub e new (first_place kid kids d n sub e within at) more))
    | inr past ↦ rw (le-ltb n (size kid) past) (omega (arith, height_replaced_in kids d (n - size kid) sub e new (rest_place kid kids d n sub e past at) more))
  ]

-- cuts are of one node and of the depth 1
pub size_cuts : (lists : List (List ℕ)) → size_all (cuts_of lists) ≡ length lists
size_cuts [] = refl
size_cuts (ms ∷ lists) = omega (arith, size_cuts lists)

cut_count_cuts : (lists : List (List ℕ)) → cut_count_all (cuts_of lists) ≡ length lists
cut_count_cuts [] = refl
cut_count_cuts (ms ∷ lists) = omega (arith, cut_count_cuts lists)

pub highest_cuts : (lists : List (List ℕ)) → highest (cuts_of lists) ≡ min (length lists) 1
highest_cuts [] = refl
highest_cuts (ms ∷ lists) = omega (arith, highest_cuts lists)

plain_cuts : (lists : List (List ℕ)) → kids_of (map plain_of (map program.Cut lists)) ≡ cuts_of lists
plain_cuts [] = refl
plain_cuts (ms ∷ lists) =
    let a = plain_Cut ms in
    let b = plain_cuts lists in
    cc

-- a split of cuts, as plain data
pub split_of_cuts : (lists : List (List ℕ)) (cuts : List Tree) → cuts ≡ map program.Cut lists → plain_of (program.Split cuts) ≡ Split (cuts_of lists)
split_of_cuts lists cuts is = plain_Split cuts ∙ ap (λ ks. Split (kids_of (map plain_of ks))) is ∙ ap Split (plain_cuts lists)

-- a branch of cuts, as plain data
pub branch_of_cuts : (f : Feature) (v : ℕ) (low high : List ℕ) → plain_of (program.Branch f v (program.Cut low) (program.Cut high)) ≡ Branch f v (Cut low) (Cut high)
branch_of_cuts f v low high =
    let a = plain_Cut low in
    let b = plain_Cut high in
    plain_Branch f v (program.Cut low) (program.Cut high) ∙ cc

height_some : (t : Plain) → 0 < height t
height_some (Split kids) = omega arith
height_some (Branch f v low high) = omega arith
height_some (Cut ms) = omega arith

pub size_some : (t : Plain) → 0 < size t
size_some (Split kids) = omega arith
size_some (Branch f v low high) = omega arith
size_some (Cut ms) = omega arith

-- the topmost node is the tree
pub top_is : (t sub : Plain) (n : ℕ) → IsNode t n sub → n ≡ 0 → sub ≡ t
top_is t sub n is first =
    let top : IsNode t 0 sub = subst (λ x. IsNode t x sub) first is in
    same_some sub t (sym top ∙ (place_top t 1).node)

-- a node's depth is at most the tree's
pub depth_within : (t : Plain) (n e : ℕ) → IsAtDepth t n e → e ≤ height t
depth_within t n e deep =
    let within : n < size t = omega (arith, slice_get_within (depths 1 t) n e deep, length_depths 1 t) in
    let x : Plain = get_or (nodes_of t) n t in
    let there : slice_get (nodes_of t) n ≡ Some x = slice_get-get_or (nodes_of t) n t (omega (arith, length_nodes t)) in
    omega (arith, height_at t 1 n x e (record { node = there; deep = deep }), height_some x)

-- a cut is a node
pub cut_within : (t : Plain) (n : ℕ) → IsCut t n → n < size t
cut_within t n cut = omega (arith, slice_get_within (nodes_of t) n (Cut cut.multipliers) cut.node, length_nodes t)

-- growth at a cut
pub size_grown : (t : Plain) (n e : ℕ) (new : Plain) → IsCut t n → IsAtDepth t n e → size (replaced n new t) + 1 ≡ size t + size new
size_grown t n e new cut deep = size_replaced t 1 n (Cut cut.multipliers) e new (record { node = cut.node; deep = deep })

pub cuts_grown : (t : Plain) (n e : ℕ) (new : Plain) → IsCut t n → IsAtDepth t n e → cut_count (replaced n new t) + 1 ≡ cut_count t + cut_count new
cuts_grown t n e new cut deep = cuts_replaced t 1 n (Cut cut.multipliers) e new (record { node = cut.node; deep = deep })

pub height_grown : (t : Plain) (n e : ℕ) (new : Plain) → IsCut t n → IsAtDepth t n e → height (replaced n new t) + 1 ≡ max (height t + 1) (e + height new)
height_grown t n e new cut deep =
    let place : IsPlace t 1 n (Cut cut.multipliers) e = record { node = cut.node; deep = deep } in
    omega (arith, height_replaced t 1 n (Cut cut.multipliers) e new place (height_some new))

-- a split and a branch of cuts, counted and measured
pub size_split : (lists : List (List ℕ)) (cuts : List Tree) → cuts ≡ map program.Cut lists → size (plain_of (program.Split cuts)) ≡ 1 + length lists
size_split lists cuts is = ap size (split_of_cuts lists cuts is) ∙ omega (arith, size_cuts lists)

pub cuts_split : (lists : List (List ℕ)) (cuts : List Tree) → cuts ≡ map program.Cut lists → cut_count (plain_of (program.Split cuts)) ≡ length lists
cuts_split lists cuts is = ap cut_count (split_of_cuts lists cuts is) ∙ cut_count_cuts lists

pub height_split : (lists : List (List ℕ)) (cuts : List Tree) → cuts ≡ map program.Cut lists → height (plain_of (program.Split cuts)) ≡ 1 + min (length lists) 1
height_split lists cuts is = ap height (split_of_cuts lists cuts is) ∙ omega (arith, highest_cuts lists)

pub size_branch : (f : Feature) (v : ℕ) (low high : List ℕ) → size (plain_of (program.Branch f v (program.Cut low) (program.Cut high))) ≡ 3
size_branch f v low high = ap size (branch_of_cuts f v low high)

pub cuts_branch : (f : Feature) (v : ℕ) (low high : List ℕ) → cut_count (plain_of (program.Branch f v (program.Cut low) (program.Cut high))) ≡ 2
cuts_branch f v low high = ap cut_count (branch_of_cuts f v low high)

pub height_branch : (f : Feature) (v : ℕ) (low high : List ℕ) → height (plain_of (program.Branch f v (program.Cut low) (program.Cut high))) ≡ 2
height_branch f v low high = ap height (branch_of_cuts f v low high) ∙ omega arith
