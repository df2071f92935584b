-- A tree of the program that grew, read as plain data.
use Rattle.std.proofs.Common.{ℕ, zero, suc, ◌≡◌, ◌+◌, ◌-◌, ◌<◌, take, map, List, [], ◌∷◌, Some, slice_get, refl, sym, ap, subst, ◌∙◌, arith}
use Rattle.std.specs.Prelude.{sum_by, slice_set}
use Rattle.std.proofs.lemmas.Bool.{lt-ltb, le-ltb}
use Rattle.std.proofs.lemmas.List.Sums.{sum_by-cons}
use Rattle.std.proofs.lemmas.Option.{slice_get_within}
use Rattle.row_program.specs.declared.Feature.{Feature}
use Rattle.bound_tree.specs.declared.tree.Tree.{Tree}
use Rattle.bound_tree.specs.declared.tree.Tree.TheVariants as program
use Rattle.bound_tree.specs.Plain.{Plain, Branch, More, kids_of, plain_of}
use Rattle.bound_tree.specs.Nodes.{size}
use Rattle.bound_tree.specs.Growth.{replaced, replaced_in}
use Rattle.bound_tree.specs.Places.{IsPlace, IsPlaceIn}
use Rattle.bound_tree.proofs.Shapes.{plain_Branch}
use Rattle.bound_tree.proofs.Places.{place_kid, place_within}

-- in the second half of a branch
pub replaced_high : (f : Feature) (v : ℕ) (low high : Plain) (m n : ℕ) (new : Plain) → (m ≡ 0 → ⊥) → m - 1 ≡ size low + n → replaced m new (Branch f v low high) ≡ Branch f v low (replaced n new high)
replaced_high f v low high zero n new some at = absurd (some refl)
replaced_high f v low high (suc m) n new some at =
    let here : m ≡ size low + n = omega arith in
    let rest : m - size low ≡ n = omega arith in
    rw (le-ltb m (size low) (omega arith)) (ap (λ x. Branch f v low (replaced x new high)) rest)

pub grown_high : (f : Feature) (v : ℕ) (low lent_low kept high high' lent : Tree) (m n : ℕ) (new passed : Tree) → lent_low ≡ low → kept ≡ low → lent ≡ high → passed ≡ new → (m ≡ 0 → ⊥)
    → m - 1 ≡ size (plain_of lent_low) + n → plain_of high' ≡ replaced n (plain_of passed) (plain_of lent)
    → plain_of (program.Branch f v kept high') ≡ replaced m (plain_of new) (plain_of (program.Branch f v low high))
grown_high f v low lent_low kept high high' lent m n new passed same_low unchanged same given some split grown =
    let at : m - 1 ≡ size (plain_of low) + n = subst (λ x. m - 1 ≡ size (plain_of x) + n) same_low split in
    let now : plain_of high' ≡ replaced n (plain_of new) (plain_of high)
    = grown ∙ ap (λ x. replaced n (plain_of x) (plain_of lent)) given ∙ ap (λ x. replaced n (plain_of new) (plain_of x)) same in
    plain_Branch f v kept high'
    ∙ ap (λ x. Branch f v (plain_of x) (plain_of high')) unchanged
    ∙ ap (Branch f v (plain_of low)) now
    ∙ sym (replaced_high f v (plain_of low) (plain_of high) m n (plain_of new) some at)
    ∙ sym (ap (replaced m (plain_of new)) (plain_Branch f v low high))

-- in the i-th of several trees
pub grown_among : (kids : List Tree) (i : ℕ) (kid kid' : Tree) (m n : ℕ) (new : Plain) → slice_get kids i ≡ Some kid → m ≡ sum_by (λ k. size (plain_of k)) (take i kids) + n → n < size (plain_of kid)
    → plain_of kid' ≡ replaced n new (plain_of kid) → kids_of (map plain_of (slice_set kids i kid')) ≡ replaced_in m new (kids_of (map plain_of kids))
grown_among [] i kid kid' m n new is at within grown = absurd (omega (arith, slice_get_within [] i kid is))
grown_among (k ∷ ks) zero kid kid' m n new is at within grown =
    let same : k ≡ kid = cc in
    let here : n ≡ m = omega arith in
    let inside : m < size (plain_of k) = omega (arith, ap (λ x. size (plain_of x)) same) in
    let now : plain_of kid' ≡ replaced m new (plain_of k) = grown ∙ ap (λ x. replaced x new (plain_of kid)) here ∙ ap (λ x. replaced m new (plain_of x)) (sym same) in
    rw (lt-ltb m (size (plain_of k)) inside) (ap (λ x. More x (kids_of (map plain_of ks))) now)
grown_among (k ∷ ks) (suc i) kid kid' m n new is at within grown =
    let before = sum_by-cons (λ x. size (plain_of x)) k (take i ks) in
    let rest : m - size (plain_of k) ≡ sum_by (λ x. size (plain_of x)) (take i ks) + n = omega (arith, before) in
    rw (le-ltb m (size (plain_of k)) (omega (arith, before)))
    (ap (More (plain_of k)) (grown_among ks i kid kid' (m - size (plain_of k)) n new is rest within grown))

-- the same where a walk has come to the kid, with the tree to put in hand
pub put_in_kid : (kids now : List Tree) (i : ℕ) (kid kid' : Tree) (m n d : ℕ) (new passed : Tree) (sub : Plain) (e : ℕ) → slice_get kids i ≡ Some kid → kids ≡ now → m ≡ sum_by (λ k. size (plain_of k)) (take i kids) + n → passed ≡ new
    → IsPlace (plain_of kid) d n sub e → plain_of kid' ≡ replaced n (plain_of passed) (plain_of kid)
    → kids_of (map plain_of (slice_set kids i kid')) ≡ replaced_in m (plain_of new) (kids_of (map plain_of now))
put_in_kid kids now i kid kid' m n d new passed sub e is same at given place grown =
    grown_among kids i kid kid' m n (plain_of new) is at (place_within (plain_of kid) d n sub e place) (grown ∙ ap (λ x. replaced n (plain_of x) (plain_of kid)) given)
    ∙ ap (λ x. replaced_in m (plain_of new) (kids_of (map plain_of x))) same

pub found_in_kid : (kids now : List Tree) (i : ℕ) (kid : Tree) (m n d : ℕ) (sub : Plain) (e : ℕ) → slice_get kids i ≡ Some kid → kids ≡ now → m ≡ sum_by (λ k. size (plain_of k)) (take i kids) + n
    → IsPlace (plain_of kid) d n sub e → IsPlaceIn (kids_of (map plain_of now)) d m sub e
found_in_kid kids now i kid m n d sub e is same at place = subst (λ x. IsPlaceIn (kids_of (map plain_of x)) d m sub e) same (place_kid kids i kid d m n sub e is at place)
