-- Where the nodes of a tree stand, from where those of its kids stand.
use Rattle.std.proofs.Common.{ℕ, zero, suc, ◌≡◌, ◌+◌, ◌<◌, take, map, List, [], ◌∷◌, ◌++◌, length, length-append, Some, slice_get, refl, ap, sym, ◌∙◌, subst, arith}
use Rattle.std.specs.Prelude.{sum_by}
use Rattle.std.proofs.lemmas.List.Sums.{sum_by-cons}
use Rattle.std.proofs.lemmas.Option.{slice_get_within}
use Rattle.row_program.specs.declared.Feature.{Feature}
use Rattle.bound_tree.specs.declared.tree.Tree.{Tree}
use Rattle.bound_tree.specs.Plain.{Plain, Kids, Split, Branch, Cut, None, More, kids_of, plain_of}
use Rattle.bound_tree.specs.Nodes.{size, size_all, nodes_of, nodes_of_all, depths, depths_all}
use Rattle.bound_tree.specs.Places.{IsPlace, IsPlaceIn}

pub get_left : {X : Type 0} (xs ys : List X) (n : ℕ) → n < length xs → slice_get (xs ++ ys) n ≡ slice_get xs n
get_left [] ys n within = absurd (omega arith)
get_left (x ∷ xs) ys zero within = refl
get_left (x ∷ xs) ys (suc n) within = get_left xs ys n (omega arith)

pub get_right : {X : Type 0} (xs ys : List X) (n : ℕ) → slice_get (xs ++ ys) (length xs + n) ≡ slice_get ys n
get_right [] ys n = let e : 0 + n ≡ n = omega arith in rw e refl
get_right (x ∷ xs) ys n = let e : suc (length xs) + n ≡ suc (length xs + n) = omega arith in rw e (get_right xs ys n)

-- each node is listed once, and so is each depth
mutual
  pub length_nodes : (t : Plain) → length (nodes_of t) ≡ size t
  length_nodes (Split kids) = omega (arith, length_nodes_all kids)
  length_nodes (Branch f v low high) = omega (arith, length-append (nodes_of low) (nodes_of high), length_nodes low, length_nodes high)
  length_nodes (Cut ms) = refl

  pub length_nodes_all : (kids : Kids) → length (nodes_of_all kids) ≡ size_all kids
  length_nodes_all None = refl
  length_nodes_all (More k ks) = omega (arith, length-append (nodes_of k) (nodes_of_all ks), length_nodes k, length_nodes_all ks)

mutual
  pub length_depths : (d : ℕ) (t : Plain) → length (depths d t) ≡ size t
  length_depths d (Split kids) = omega (arith, length_depths_all (suc d) kids)
  length_depths d (Branch f v low high) = omega (arith, length-append (depths (suc d) low) (depths (suc d) high), length_depths (suc d) low, length_depths (suc d) high)
  length_depths d (Cut ms) = refl

  pub length_depths_all : (d : ℕ) (kids : Kids) → length (depths_all d kids) ≡ size_all kids
  length_depths_all d None = refl
  length_depths_all d (More k ks) = omega (arith, length-append (depths d k) (depths_all d ks), length_depths d k, length_depths_all d ks)

-- the topmost node has the number 0
pub place_top : (t : Plain) (d : ℕ) → IsPlace t d 0 t d
place_top (Split kids) d = record { node = refl; deep = refl }
place_top (Branch f v low high) d = record { node = refl; deep = refl }
place_top (Cut ms) d = record { node = refl; deep = refl }

-- a place has a number below the count
pub place_within : (t : Plain) (d n : ℕ) (sub : Plain) (e : ℕ) → IsPlace t d n sub e → n < size t
place_within t d n sub e at = omega (arith, slice_get_within (nodes_of t) n sub at.node, length_nodes t)

-- the places of a split, from those of its kids
pub place_split : (kids : Kids) (d n : ℕ) (sub : Plain) (e : ℕ) → IsPlaceIn kids (suc d) n sub e → IsPlace (Split kids) d (suc n) sub e
place_split kids d n sub e at = record { node = at.node; deep = at.deep }

-- those of a branch, from those of its halves
pub place_low : (f : Feature) (v : ℕ) (low high : Plain) (d n : ℕ) (sub : Plain) (e : ℕ) → IsPlace low (suc d) n sub e → IsPlace (Branch f v low high) d (suc n) sub e
place_low f v low high d n sub e at =
    let within = place_within low (suc d) n sub e at in
    record {
      node = get_left (nodes_of low) (nodes_of high) n (omega (arith, length_nodes low)) ∙ at.node;
      deep = get_left (depths (suc d) low) (depths (suc d) high) n (omega (arith, length_depths (suc d) low)) ∙ at.deep;
    }

pub place_high : (f : Feature) (v : ℕ) (low high : Plain) (d m n : ℕ) (sub : Plain) (e : ℕ) → m ≡ size low + n → IsPlace high (suc d) n sub e → IsPlace (Branch f v low high) d (suc m) sub e
place_high f v low high d m n sub e is at =
    let nodes_at : m ≡ length (nodes_of low) + n = omega (arith, length_nodes low) in
    let depths_at : m ≡ length (depths (suc d) low) + n = omega (arith, length_depths (suc d) low) in
    record {
      node = ap (slice_get (nodes_of low ++ nodes_of high)) nodes_at ∙ get_right (nodes_of low) (nodes_of high) n ∙ at.node;
      deep = ap (slice_get (depths (suc d) low ++ depths (suc d) high)) depths_at ∙ get_right (depths (suc d) low) (depths (suc d) high) n ∙ at.deep;
    }

-- those of several trees, from those of the first and of the rest
pub place_first : (kid : Plain) (kids : Kids) (d n : ℕ) (sub : Plain) (e : ℕ) → IsPlace kid d n sub e → IsPlaceIn (More kid kids) d n sub e
place_first kid kids d n sub e at =
    let within = place_within kid d n sub e at in
    record {
      node = get_left (nodes_of kid) (nodes_of_all kids) n (omega (arith, length_nodes kid)) ∙ at.node;
      deep = get_left (depths d kid) (depths_all d kids) n (omega (arith, length_depths d kid)) ∙ at.deep;
    }

pub place_rest : (kid : Plain) (kids : Kids) (d m n : ℕ) (sub : Plain) (e : ℕ) → m ≡ size kid + n → IsPlaceIn kids d n sub e → IsPlaceIn (More kid kids) d m sub e
place_rest kid kids d m n sub e is at =
    let nodes_at : m ≡ length (nodes_of kid) + n = omega (arith, length_nodes kid) in
    let depths_at : m ≡ length (depths d kid) + n = omega (arith, length_depths d kid) in
    record {
      node = ap (slice_get (nodes_of kid ++ nodes_of_all kids)) nodes_at ∙ get_right (nodes_of kid) (nodes_of_all kids) n ∙ at.node;
      deep = ap (slice_get (depths d kid ++ depths_all d kids)) depths_at ∙ get_right (depths d kid) (depths_all d kids) n ∙ at.deep;
    }

-- a place in the i-th of several trees of the program
pub place_kid : (kids : List Tree) (i : ℕ) (kid : Tree) (d m n : ℕ) (sub : Plain) (e : ℕ) → slice_get kids i ≡ Some kid → m ≡ sum_by (λ k. size (plain_of k)) (take i kids) + n
    → IsPlace (plain_of kid) d n sub e → IsPlaceIn (kids_of (map plain_of kids)) d m sub e
place_kid [] i kid d m n sub e is at place = absurd (omega (arith, slice_get_within [] i kid is))
place_kid (k ∷ ks) zero kid d m n sub e is at place =
    let same : k ≡ kid = cc in
    let here : m ≡ n = omega arith in
    place_first (plain_of k) (kids_of (map plain_of ks)) d m sub e (subst (λ x. IsPlace (plain_of x) d m sub e) (sym same) (subst (λ x. IsPlace (plain_of kid) d x sub e) (sym here) place))
place_kid (k ∷ ks) (suc i) kid d m n sub e is at place =
    place_rest (plain_of k) (kids_of (map plain_of ks)) d m (sum_by (λ x. size (plain_of x)) (take i ks) + n) sub e
    (omega (arith, sum_by-cons (λ x. size (plain_of x)) k (take i ks))) (place_kid ks i kid d _ n sub e is refl place)
