-- The words on trees at each shape of a tree of the program, and at the kids of a split.
use Rattle.std.proofs.Common.{ℕ, zero, suc, ◌≡◌, ◌+◌, ◌<◌, ◌≤◌, max, take, get_or, map, List, [], ◌∷◌, refl, ap, sym, ◌∙◌, add-one, arith}
use Rattle.std.specs.Prelude.{sum_by, length, slice_get, slice_set, Some}
use Rattle.std.proofs.lemmas.List.{set-get_or}
use Rattle.std.proofs.lemmas.List.Sums.{sum_by-cons, sum_by_more, sum_by_more_le}
use Rattle.std.proofs.lemmas.Option.{slice_get_within, get_or_from_slice_get}
use Rattle.row_program.specs.declared.Feature.{Feature}
use Rattle.bound_tree.specs.declared.tree.Tree.{Tree}
use Rattle.bound_tree.specs.declared.tree.Tree.TheVariants as program
use Rattle.bound_tree.specs.declared.tree.Tree.TheFolds.{fold-roll-Tree}
use Rattle.bound_tree.specs.Plain.{Plain, Split, Branch, Cut, kids_of, read_node, plain_of}
use Rattle.bound_tree.specs.Nodes.{size, size_all, height, highest}

pub plain_Split : (kids : List Tree) → plain_of (program.Split kids) ≡ Split (kids_of (map plain_of kids))
plain_Split kids = ap plain_of (sym (program.rolls-Split kids)) ∙ fold-roll-Tree Plain read_node _

pub plain_Branch : (f : Feature) (v : ℕ) (low high : Tree) → plain_of (program.Branch f v low high) ≡ Branch f v (plain_of low) (plain_of high)
plain_Branch f v low high = ap plain_of (sym (program.rolls-Branch f v low high)) ∙ fold-roll-Tree Plain read_node _

pub plain_Cut : (ms : List ℕ) → plain_of (program.Cut ms) ≡ Cut ms
plain_Cut ms = ap plain_of (sym (program.rolls-Cut ms)) ∙ fold-roll-Tree Plain read_node _

-- the nodes of several trees are those of each, added up
pub size_kids : (kids : List Tree) → size_all (kids_of (map plain_of kids)) ≡ sum_by (λ kid. size (plain_of kid)) kids
size_kids [] = refl
size_kids (kid ∷ kids) = omega (arith, sum_by-cons (λ k. size (plain_of k)) kid kids, size_kids kids)

pub size_Split : (kids : List Tree) → size (plain_of (program.Split kids)) ≡ 1 + sum_by (λ kid. size (plain_of kid)) kids
size_Split kids = ap size (plain_Split kids) ∙ omega (arith, size_kids kids)

pub size_Branch : (f : Feature) (v : ℕ) (low high : Tree) → size (plain_of (program.Branch f v low high)) ≡ 1 + size (plain_of low) + size (plain_of high)
size_Branch f v low high = ap size (plain_Branch f v low high) ∙ omega arith

pub size_Cut : (ms : List ℕ) → size (plain_of (program.Cut ms)) ≡ 1
size_Cut ms = ap size (plain_Cut ms)

pub height_Split : (kids : List Tree) → height (plain_of (program.Split kids)) ≡ 1 + highest (kids_of (map plain_of kids))
height_Split kids = ap height (plain_Split kids) ∙ omega arith

pub height_Branch : (f : Feature) (v : ℕ) (low high : Tree) → height (plain_of (program.Branch f v low high)) ≡ 1 + max (height (plain_of low)) (height (plain_of high))
height_Branch f v low high = ap height (plain_Branch f v low high) ∙ omega arith

pub height_Cut : (ms : List ℕ) → height (plain_of (program.Cut ms)) ≡ 1
height_Cut ms = ap height (plain_Cut ms)

-- a kid is at most as high as the highest
pub highest_kid : (kids : List Tree) (i : ℕ) (kid : Tree) → i < length kids → height (plain_of (get_or kids i kid)) ≤ highest (kids_of (map plain_of kids))
highest_kid [] i kid within = absurd (omega arith)
highest_kid (k ∷ ks) zero kid within = omega arith
highest_kid (k ∷ ks) (suc i) kid within = omega (arith, highest_kid ks i kid (omega arith))

-- one more kid may be the highest
highest_next : (kids : List Tree) (i : ℕ) (kid : Tree) → i < length kids → highest (kids_of (map plain_of (take (suc i) kids))) ≡ max (height (plain_of (get_or kids i kid))) (highest (kids_of (map plain_of (take i kids))))
highest_next [] i kid within = absurd (omega arith)
highest_next (k ∷ ks) zero kid within = omega arith
highest_next (k ∷ ks) (suc i) kid within = omega (arith, highest_next ks i kid (omega arith))

pub highest_more : (kids : List Tree) (i : ℕ) (kid : Tree) → i < length kids → highest (kids_of (map plain_of (take (i + 1) kids))) ≡ max (height (plain_of (get_or kids i kid))) (highest (kids_of (map plain_of (take i kids))))
highest_more kids i kid within = rw (add-one i) (highest_next kids i kid within)

-- a kid of several, by its place
pub size_kid : (kids : List Tree) (i : ℕ) (kid : Tree) → slice_get kids i ≡ Some kid → sum_by (λ k. size (plain_of k)) (take i kids) + size (plain_of kid) ≤ sum_by (λ k. size (plain_of k)) kids
size_kid kids i kid is = rw (← get_or_from_slice_get kids i kid kid is) (sum_by_more_le (λ k. size (plain_of k)) kids i kid (slice_get_within kids i kid is))

pub size_more : (kids : List Tree) (i : ℕ) (kid : Tree) → slice_get kids i ≡ Some kid → sum_by (λ k. size (plain_of k)) (take (i + 1) kids) ≡ sum_by (λ k. size (plain_of k)) (take i kids) + size (plain_of kid)
size_more kids i kid is =
    sum_by_more (λ k. size (plain_of k)) kids i kid (slice_get_within kids i kid is)
    ∙ ap (λ k. sum_by (λ x. size (plain_of x)) (take i kids) + size (plain_of k)) (get_or_from_slice_get kids i kid kid is)

pub kid_kept : (kids : List Tree) (i : ℕ) (kid : Tree) → slice_get kids i ≡ Some kid → slice_set kids i kid ≡ kids
kid_kept kids i kid is = ap (λ k. slice_set kids i k) (sym (get_or_from_slice_get kids i kid kid is)) ∙ set-get_or kids i kid

pub highest_at : (kids : List Tree) (i : ℕ) (kid : Tree) → slice_get kids i ≡ Some kid → height (plain_of kid) ≤ highest (kids_of (map plain_of kids))
highest_at kids i kid is = rw (← get_or_from_slice_get kids i kid kid is) (highest_kid kids i kid (slice_get_within kids i kid is))
