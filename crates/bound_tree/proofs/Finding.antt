-- Where a node stands in a tree of the program, from where it stands in what the tree lends.
use Rattle.std.proofs.Common.{ℕ, suc, ◌≡◌, ◌+◌, ◌-◌, ◌<◌, take, map, List, length, get_or, Result, Ok, Err, IfOk, refl, subst, add-one, arith}
use Rattle.std.specs.Prelude.{sum_by}
use Rattle.std.proofs.lemmas.Option.{slice_get_read}
use Rattle.row_program.specs.declared.Feature.{Feature}
use Rattle.bound_tree.specs.declared.tree.Tree.{Tree}
use Rattle.bound_tree.specs.declared.tree.Tree.TheVariants as program
use Rattle.bound_tree.specs.Plain.{Plain, kids_of, plain_of}
use Rattle.bound_tree.specs.Nodes.{size}
use Rattle.bound_tree.specs.Places.{IsPlace, IsPlaceIn}
use Rattle.bound_tree.proofs.Shapes.{plain_Branch}
use Rattle.bound_tree.proofs.Places.{place_low, place_high, place_kid}

pub if_ok : {X E : Type 0} {P Q : X → Type 0} (r : Result X E) → ((x : X) → P x → Q x) → IfOk r P → IfOk r Q
if_ok (Ok x) then h = then x h
if_ok (Err e) then h = tt

-- the number behind the topmost node
behind : (p : Plain) (d m : ℕ) (sub : Plain) (e : ℕ) → (m ≡ 0 → ⊥) → IsPlace p d (suc (m - 1)) sub e → IsPlace p d m sub e
behind p d m sub e some place = subst (λ x. IsPlace p d x sub e) (omega arith) place

pub found_low : (t : Tree) (f : Feature) (v : ℕ) (low high lent : Tree) (d m : ℕ) (sub : Plain) (e : ℕ) → t ≡ program.Branch f v low high → lent ≡ low → (m ≡ 0 → ⊥)
    → IsPlace (plain_of lent) (d + 1) (m - 1) sub e → IsPlace (plain_of t) d m sub e
found_low t f v low high lent d m sub e is same some place =
    let there : IsPlace (plain_of low) (suc d) (m - 1) sub e
    = subst (λ x. IsPlace (plain_of low) x (m - 1) sub e) (add-one d) (subst (λ x. IsPlace (plain_of x) (d + 1) (m - 1) sub e) same place) in
    rw is (rw (plain_Branch f v low high) (behind _ d m sub e some (place_low f v (plain_of low) (plain_of high) d (m - 1) sub e there)))

pub found_high : (t : Tree) (f : Feature) (v : ℕ) (low high lent_low lent : Tree) (d m n : ℕ) (sub : Plain) (e : ℕ) → t ≡ program.Branch f v low high → lent_low ≡ low → lent ≡ high → (m ≡ 0 → ⊥)
    → m - 1 ≡ size (plain_of lent_low) + n → IsPlace (plain_of lent) (d + 1) n sub e → IsPlace (plain_of t) d m sub e
found_high t f v low high lent_low lent d m n sub e is same_low same some split place =
    let there : IsPlace (plain_of high) (suc d) n sub e
    = subst (λ x. IsPlace (plain_of high) x n sub e) (add-one d) (subst (λ x. IsPlace (plain_of x) (d + 1) n sub e) same place) in
    let at : m - 1 ≡ size (plain_of low) + n = subst (λ x. m - 1 ≡ size (plain_of x) + n) same_low split in
    rw is (rw (plain_Branch f v low high) (behind _ d m sub e some (place_high f v (plain_of low) (plain_of high) d (m - 1) n sub e at there)))

-- a place in the kid that a walk has come to
pub found_among : (kids : List Tree) (i : ℕ) (kid : Tree) (d m n : ℕ) (sub : Plain) (e : ℕ) → i < length kids → kid ≡ get_or kids i kid → m ≡ sum_by (λ k. size (plain_of k)) (take i kids) + n
    → IsPlace (plain_of kid) d n sub e → IsPlaceIn (kids_of (map plain_of kids)) d m sub e
found_among kids i kid d m n sub e within is at place = place_kid kids i kid d m n sub e (slice_get_read kids (length kids) i kid (refl) within is) at place
