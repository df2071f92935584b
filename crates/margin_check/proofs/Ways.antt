-- The grounds of a goal's kids.
use Rattle.std.proofs.Common.{ℕ, zero, suc, List, [], ◌∷◌, ◌++◌, Option, Some, None, All, false, ◌≡◌, ◌<◌, ◌≤◌, ◌∙◌, length, get_or, ap, refl, subst, sym, arith}
use Rattle.std.specs.Prelude.{IfSome}
use Rattle.std.proofs.lemmas.List.{get_or_default, length-map}
use Rattle.goal_rows.specs.Elections.{Election}
use Rattle.goal_rows.specs.Goals.{IsElection, IsReached, cover_of}
use Rattle.goal_rows.specs.LongerKeys.{goals_of}
use Rattle.goal_rows.specs.Races.{IsGroundIn, IsGroundOf}
use Rattle.goal_rows.specs.declared.goals.Goal.{Goal}
use Rattle.goal_rows.specs.declared.parts.Ground.{Ground}
use Rattle.tree_proofs.proofs.Ways.{cover_reached}

pub goals_long : (starts : List Ground) → length (goals_of starts) ≡ length starts
goals_long starts = length-map starts (λ start. start.goal)

-- the goal of the ground at a place
pub goal_at : (starts : List Ground) (i : ℕ) (start : Ground) → i < length starts → start ≡ get_or starts i start → start.goal ≡ get_or (goals_of starts) i start.goal
goal_at [] i start lt is = absurd (omega (arith, lt))
goal_at (first ∷ starts) zero start lt is = ap (λ (s : Ground). s.goal) is
goal_at (first ∷ starts) (suc i) start lt is = goal_at starts i start (omega (arith, lt)) is

pub some_grounds : (e : Election) (found : Option (List Ground)) (starts : List Ground) → found ≡ Some starts → IfSome found (All (IsGroundOf e)) → All (IsGroundOf e) starts
some_grounds e found starts is values = subst (λ f. IfSome f (All (IsGroundOf e))) is values

pub grounds_in : (e : Election) (goal : Goal) (starts : List Ground) → IsElection e → IsReached e goal → cover_of e goal ≡ Some (goals_of starts) → All (IsGroundOf e) starts → All (IsGroundIn e) starts
grounds_in e goal starts election reached covered values k d lt =
    let start = get_or starts k d in
    let same : start.goal ≡ get_or (goals_of starts) k start.goal = goal_at starts k start lt (get_or_default starts k d start lt) in
    let within : k < length (goals_of starts) = omega (arith, lt, goals_long starts) in
    record {
      election = election;
      reached = subst (IsReached e) (sym same) (cover_reached e (goals_of starts) goal reached covered k start.goal within);
      values = values k d lt;
    }
