-- Cells of complete goals.
use Rattle.std.proofs.Common.{◌≡◌, ◌↔◌, ◌∙◌, List, Bool, false, length, le-ltb, refl, sym, subst, arith}
use Rattle.std.specs.Prelude.{IsTrue, nat_lt}
use Rattle.std.proofs.lemmas.Bool.{false≢true}
use Rattle.row_program.specs.declared.Limit.{Limit}
use Rattle.goal_rows.specs.Cells.{HasFeatures, IsCell}
use Rattle.goal_rows.specs.Elections.{Election}
use Rattle.goal_rows.specs.Goals.{IsComplete}
use Rattle.goal_rows.specs.declared.goals.Goal.{Goal}
use Rattle.goal_rows.specs.declared.goals.Goal.TheVariants.{Cover, Pair, Root, Suffix}
use Rattle.node_bounds.proofs.CeilingCuts.{ground_is}
use Rattle.search_theory.specs.Branchings.{IsCompleteCell, is_pair}
use Rattle.search_theory.specs.Spots.{has_cover}
use Rattle.search_leaves.specs.Kept.{IsSeed, node_in}
use Rattle.search_leaves.specs.declared.seeds.Seed.{Seed}

-- the test of a node of a complete goal
pub where_complete : (e : Election) (seed : Seed) (limits : List Limit) (cell : Bool) → IsSeed e seed → limits ≡ seed.limits.items → IsComplete e seed.start.goal
    → IsTrue cell ↔ IsCell seed.start limits → IsTrue cell ↔ IsCompleteCell e (node_in seed)
where_complete e seed limits cell is read complete test =
    let same = ground_is e seed.start is.ground in (
      λ hit. record { complete = complete; cell = subst (λ own. IsCell own seed.limits.items) same (subst (λ ls. IsCell seed.start ls) read (test.0 hit)) },
      λ both. test.1 (subst (λ ls. IsCell seed.start ls) (sym read) (subst (λ own. IsCell own seed.limits.items) (sym same) both.cell)),
    )

-- and of one of another goal
pub where_not : (e : Election) (seed : Seed) (complete : Bool) → complete ≡ false → IsTrue complete ↔ IsComplete e seed.start.goal → IsTrue complete ↔ IsCompleteCell e (node_in seed)
where_not e seed complete off test = (λ hit. absurd (false≢true (sym off ∙ hit)), λ both. test.1 both.complete)

-- a complete goal has no cover
pub no_cover : (e : Election) (goal : Goal) → IsComplete e goal → has_cover e goal ≡ false
no_cover e Root complete = absurd complete
no_cover e (Suffix suffix) complete =
    let long = complete.0.long in
    let all : nat_lt (length suffix) e.poll.c ≡ false = le-ltb (length suffix) e.poll.c (omega (arith, long)) in
    rw all refl
no_cover e (Pair g l) complete = refl
no_cover e (Cover x) complete = refl

-- a cell's goal is no pair
pub featured_other : (goal : Goal) → HasFeatures goal → is_pair goal ≡ false
featured_other Root has = absurd has
featured_other (Suffix suffix) has = refl
featured_other (Pair g l) has = absurd has
featured_other (Cover x) has = refl
