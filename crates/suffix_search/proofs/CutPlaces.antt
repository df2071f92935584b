-- A cut of a tree is a node that stands as deep as it hangs.
use Rattle.std.proofs.Common.{◌≡◌, ℕ, zero, suc, ◌+◌, ◌-◌, ◌<◌, ◌++◌, ◌∙◌, List, [], ◌∷◌, length, refl, sym, subst, arith, inl, inr}
use Rattle.std.proofs.lemmas.Bool.{cases_lt, lt-ltb, le-ltb}
use Rattle.bound_tree.specs.Nodes.{cut_count, cut_count_all, size}
use Rattle.bound_tree.specs.Places.{IsAtDepth, IsCut, IsPlace, IsPlaceIn}
use Rattle.bound_tree.specs.Plain.{Plain, Kids, Split, Branch, Cut, None, More}
use Rattle.bound_tree.specs.declared.bound.TheConstants.{MOST_DEPTH}
use Rattle.bound_tree.proofs.Places.{place_first, place_high, place_low, place_rest, place_split, place_top}
use Rattle.goal_rows.specs.Elections.{Election}
use Rattle.goal_rows.specs.Nodes.{high_half, low_half, without_limits}
use Rattle.goal_rows.specs.declared.goals.Goal.{Goal}
use Rattle.search_theory.specs.Ends.{Problem, cuts_in}
use Rattle.search_theory.specs.Leaves.{IsFirstLeaf, IsHeld, IsUnderWay, Leaf, lowest}
use Rattle.search_theory.specs.Numbers.{cut_number, cut_number_in}
use Rattle.search_theory.specs.Spots.{EveryKid, Everywhere, Hung, Spot, Words, below, cover_list, hung_among, hung_of, path_of, root_spot, spots_below}
use Rattle.search_theory.specs.Trees.{needed_words}
use Rattle.search_theory.proofs.Ended.{cut_count_is}
use Rattle.search_theory.proofs.Growing.{AtPlace, length-hung_of}
use Rattle.search_theory.proofs.Turns.{held_at, place-first}

-- ---- places in lists

at_map : {A : Type 0} (P Q : A → Type 0) (i : ℕ) (xs : List A) → ((x : A) → P x → Q x) → AtPlace P i xs → AtPlace Q i xs
at_map P Q i [] more h = h
at_map P Q zero (x ∷ xs) more h = more x h
at_map P Q (suc i) (x ∷ xs) more h = at_map P Q i xs more h

in_left : {A : Type 0} (P : A → Type 0) (i : ℕ) (xs ys : List A) → AtPlace P i xs → AtPlace P i (xs ++ ys)
in_left P i [] ys h = absurd h
in_left P zero (x ∷ xs) ys h = h
in_left P (suc i) (x ∷ xs) ys h = in_left P i xs ys h

in_right : {A : Type 0} (P : A → Type 0) (i j : ℕ) (xs ys : List A) → i ≡ j + length xs → AtPlace P j ys → AtPlace P i (xs ++ ys)
in_right P i j [] ys e h = let e' : i ≡ j = omega (arith, e) in subst (λ k. AtPlace P k ys) (sym e') h
in_right P zero j (x ∷ xs) ys e h = absurd (omega (arith, e))
in_right P (suc i) j (x ∷ xs) ys e h = in_right P i j xs ys (omega (arith, e)) h

both_at : {A : Type 0} (P Q : A → Type 0) (i : ℕ) (xs : List A) → AtPlace P i xs → AtPlace Q i xs → (x : A) × P x × Q x
both_at P Q i [] p q = absurd p
both_at P Q zero (x ∷ xs) p q = (x, p, q)
both_at P Q (suc i) (x ∷ xs) p q = both_at P Q i xs p q

-- ---- the node of a cut

abbrev Stands : Plain → ℕ → ℕ → Hung → Type 0
Stands t d n cut = IsPlace t d n (Cut cut.multipliers) (length (path_of cut.spot))

abbrev StandsIn : Kids → ℕ → ℕ → Hung → Type 0
StandsIn kids d n cut = IsPlaceIn kids d n (Cut cut.multipliers) (length (path_of cut.spot))

module _ (e : Election) (words : Words) where
  mutual
    stands : (i : ℕ) (t : Plain) (s : Spot) → Everywhere e words t s → i < cut_count t → AtPlace (Stands t (length (path_of s)) (cut_number i t)) i (hung_of e t s)
    stands i (Split kids) s so lt =
        let d = length (path_of s) in
        let n = cut_number_in i kids in
        at_map (StandsIn kids (suc d) n) (Stands (Split kids) d (suc n)) i (hung_among e kids (spots_below s (cover_list e s.node.goal)))
        (λ cut at. place_split kids d n (Cut cut.multipliers) (length (path_of cut.spot)) at) (stands_among i kids s (cover_list e s.node.goal) so.1 lt)
    stands i (Branch f v low high) s so lt =
        let d = length (path_of s) in
        let first = below s (low_half s.node f v) in
        let second = below s (high_half s.node f v) in
        let a = hung_of e low first in
        let b = hung_of e high second in
        elim (cases_lt i (cut_count low)) [
          | inl l ↦
              let n = cut_number i low in
              let here = at_map (Stands low (suc d) n) (Stands (Branch f v low high) d (suc n)) i a
              (λ cut at. place_low f v low high d n (Cut cut.multipliers) (length (path_of cut.spot)) at) (stands i low first so.1 l) in
              let moved = in_left (Stands (Branch f v low high) d (suc n)) i a b here in
              rw (lt-ltb i (cut_count low) l) moved
          | inr g ↦
              let j = i - cut_count low in
              let n = cut_number j high in
              let long = length-hung_of e words low first so.1 in
              let here = at_map (Stands high (suc d) n) (Stands (Branch f v low high) d (suc (size low + n))) j b
              (λ cut at. place_high f v low high d (size low + n) n (Cut cut.multipliers) (length (path_of cut.spot)) refl at) (stands j high second so.2 (omega (arith, lt, g))) in
              let moved = in_right (Stands (Branch f v low high) d (suc (size low + n))) i j a b (omega (arith, g, long)) here in
              rw (le-ltb i (cut_count low) g) moved
        ]
    stands zero (Cut ms) s so lt = place_top (Cut ms) (length (path_of s))
    stands (suc i) (Cut ms) s so lt = absurd (omega (arith, lt))

    stands_among : (i : ℕ) (kids : Kids) (s : Spot) (goals : List Goal) → EveryKid e words kids (spots_below s goals) → i < cut_count_all kids
        → AtPlace (StandsIn kids (suc (length (path_of s))) (cut_number_in i kids)) i (hung_among e kids (spots_below s goals))
    stands_among i None s goals so lt = absurd (omega (arith, lt))
    stands_among i (More k ks) s [] so lt = absurd so
    stands_among i (More k ks) s (goal ∷ goals) so lt =
        let d = suc (length (path_of s)) in
        let top = below s (without_limits goal) in
        let a = hung_of e k top in
        let b = hung_among e ks (spots_below s goals) in
        elim (cases_lt i (cut_count k)) [
          | inl l ↦
              let n = cut_number i k in
              let here = at_map (Stands k d n) (StandsIn (More k ks) d n) i a
              (λ cut at. place_first k ks d n (Cut cut.multipliers) (length (path_of cut.spot)) at) (stands i k top so.0 l) in
              let moved = in_left (StandsIn (More k ks) d n) i a b here in
              rw (lt-ltb i (cut_count k) l) moved
          | inr g ↦
              let j = i - cut_count k in
              let n = cut_number_in j ks in
              let long = length-hung_of e words k top so.0 in
              let here = at_map (StandsIn ks d n) (StandsIn (More k ks) d (size k + n)) j b
              (λ cut at. place_rest k ks d (size k + n) n (Cut cut.multipliers) (length (path_of cut.spot)) refl at) (stands_among j ks s goals so.1 (omega (arith, lt, g))) in
              let moved = in_right (StandsIn (More k ks) d (size k + n)) i j a b (omega (arith, g, long)) here in
              rw (le-ltb i (cut_count k) g) moved
        ]

-- the first leaf with the least bound hangs in the tree as a cut, as deep as it knows
pub record IsCutOf (tree : Plain) (i : ℕ) (leaf : Leaf) : Type 0 where
  pub within : i < cut_count tree
  pub cut : IsCut tree (cut_number i tree)
  pub deep : IsAtDepth tree (cut_number i tree) leaf.depth

pub cut_of : (p : Problem) (tree : Plain) (leaves : List Leaf) (i : ℕ) (leaf : Leaf) → IsUnderWay p tree leaves → IsFirstLeaf p.election i leaves leaf → IsCutOf tree i leaf
cut_of p tree leaves i leaf search first =
    let e = p.election in
    let lt : i < cut_count tree = (let count = cut_count_is p tree leaves search in let place = place-first e i leaves leaf first in omega (arith, count, place)) in
    let held = held_at p i (cuts_in e tree) leaves leaf search.cuts first in
    let at = stands e (needed_words e (lowest e leaves)) i tree root_spot search.inner lt in
    let both = both_at (λ h. IsHeld p h leaf) (Stands tree 1 (cut_number i tree)) i (cuts_in e tree) held at in
    record {
      within = lt;
      cut = record { multipliers = both.0.multipliers; node = both.2.node };
      deep = subst (λ d. IsAtDepth tree (cut_number i tree) d) (sym both.1.depth) both.2.deep;
    }

pub not_deepest : (tree : Plain) (number depth : ℕ) → IsAtDepth tree number depth → depth < MOST_DEPTH → IsAtDepth tree number MOST_DEPTH → ⊥
not_deepest tree number depth at lt other = let same : depth ≡ MOST_DEPTH = (let e = sym at ∙ other in cc) in omega (arith, lt, same)
