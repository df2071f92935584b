-- Goals on the way from the root to a complete one.
use Rattle.std.proofs.Common.{ℕ, List, [], ◌∷◌, ◌++◌, Some, None, All, false, ◌≡◌, ◌<◌, ◌≤◌, ◌∙◌, length, get_or, refl, subst, sym, arith}
use Rattle.std.specs.Prelude.{nat_lt}
use Rattle.std.proofs.lemmas.Bool.{le-ltb}
use Rattle.std.proofs.lemmas.List.{get_or_default}
use Rattle.goal_rows.specs.Elections.{Election}
use Rattle.goal_rows.specs.Goals.{IsComplete, IsKid, IsReached, LeadsTo, cover_of}
use Rattle.goal_rows.specs.declared.goals.Goal.{Goal}
use Rattle.goal_rows.specs.declared.goals.Goal.TheVariants.{Root, Suffix, Pair, Cover}

-- a goal on a way from the root to another one
pub record IsBetween (e : Election) (goal end : Goal) : Type 0 where
  pub before : List ℕ
  pub behind : List ℕ
  pub there : LeadsTo e Root before goal
  pub on : LeadsTo e goal behind end

-- one step more
pub leads_on : (e : Election) (from between kid : Goal) (way : List ℕ) (place : ℕ) → LeadsTo e from way between → IsKid e between place kid → LeadsTo e from (way ++ place ∷ []) kid
leads_on e from between kid [] place same step = (kid, subst (λ goal. IsKid e goal place kid) (sym same) step, refl)
leads_on e from between kid (p ∷ way) place (next, first, rest) step = (next, first, leads_on e next between kid way place rest step)

-- the goal at a place of a cover is a kid
kid_at : (e : Election) (goals : List Goal) (goal d : Goal) (k : ℕ) → cover_of e goal ≡ Some goals → k < length goals → IsKid e goal k (get_or goals k d)
kid_at e goals goal d k covered lt = (goals, covered, lt, get_or_default goals k (get_or goals k d) d lt)

pub cover_reached : (e : Election) (goals : List Goal) (goal : Goal) → IsReached e goal → cover_of e goal ≡ Some goals → All (IsReached e) goals
cover_reached e goals goal reached covered k d lt =
    (reached.0 ++ k ∷ [], leads_on e Root goal (get_or goals k d) reached.0 k reached.1 (kid_at e goals goal d k covered lt))

-- a complete goal isn't split
no_cover : (e : Election) (goal : Goal) → IsComplete e goal → cover_of e goal ≡ None
no_cover e Root complete = absurd complete
no_cover e (Suffix suffix) complete =
    let all : nat_lt (length suffix) e.poll.c ≡ false = le-ltb (length suffix) e.poll.c (omega (arith, complete.0.long)) in
    rw all refl
no_cover e (Pair g l) complete = refl
no_cover e (Cover x) complete = refl

-- where a goal is split on the way to a complete one, one of its kids is on that way
pub record IsNextStep (e : Election) (goals : List Goal) (end : Goal) : Type 0 where
  pub place : ℕ
  pub within : place < length goals
  pub kid : Goal
  pub stands : get_or goals place kid ≡ kid
  pub between : IsBetween e kid end

pub next_step : (e : Election) (goals : List Goal) (goal end : Goal) → IsComplete e end → cover_of e goal ≡ Some goals → IsBetween e goal end → IsNextStep e goals end
next_step e goals goal end complete covered way = by way.behind way.on
  where
    by : (behind : List ℕ) → LeadsTo e goal behind end → IsNextStep e goals end
    by [] same =
        let none : cover_of e goal ≡ None = no_cover e goal (subst (IsComplete e) (sym same) complete) in
        let both : Some goals ≡ None = sym covered ∙ none in
        cc (both)
    by (place ∷ rest) (kid, step, on) =
        let both : Some step.0 ≡ Some goals = sym step.1 ∙ covered in
        let same : step.0 ≡ goals = cc (both) in
        record {
          place = place;
          within = subst (λ gs. place < length gs) same step.2;
          kid = kid;
          stands = subst (λ gs. get_or gs place kid ≡ kid) same step.3;
          between = record { before = way.before ++ place ∷ []; behind = rest; there = leads_on e Root goal kid way.before place way.there step; on = on };
        }
