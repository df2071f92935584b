-- The seeds of a cover's goals, one after another.
use Rattle.std.proofs.Common.{◌≡◌, ℕ, ◌+◌, ◌<◌, ◌++◌, ◌∙◌, List, [], ◌∷◌, All, Some, get_or, length, length-append, map, refl, sym, ap, subst, arith}
use Rattle.std.proofs.lemmas.List.Elements.{All-head, All-tail}
use Rattle.goal_rows.specs.Elections.{Election, Node}
use Rattle.goal_rows.specs.Goals.{IsElection, IsKid, IsReached, cover_of}
use Rattle.goal_rows.specs.LongerKeys.{goals_of}
use Rattle.goal_rows.specs.Nodes.{without_limits}
use Rattle.goal_rows.specs.Races.{IsGroundIn, IsGroundOf}
use Rattle.goal_rows.specs.declared.goals.Goal.{Goal}
use Rattle.goal_rows.specs.declared.parts.Ground.{Ground}
use Rattle.tree_proofs.proofs.Ways.{cover_reached}

-- nodes were made of the goals before the ones that are left
pub record AreSeeded (e : Election) (goal : Goal) (nodes : List Node) (left : List Ground) : Type 0 where
  pub done : List Goal
  pub cover : cover_of e goal ≡ Some (done ++ goals_of left)
  pub made : nodes ≡ map without_limits done
  pub values : All (IsGroundOf e) left

at_end : (done : List Goal) (kid : Goal) (rest : List Goal) (d : Goal) → get_or (done ++ kid ∷ rest) (length done) d ≡ kid
at_end [] kid rest d = refl
at_end (g ∷ done) kid rest d = at_end done kid rest d

snoc : (done : List Goal) (kid : Goal) (rest : List Goal) → done ++ kid ∷ rest ≡ (done ++ kid ∷ []) ++ rest
snoc [] kid rest = refl
snoc (g ∷ done) kid rest = ap (λ l. g ∷ l) (snoc done kid rest)

map-snoc : (done : List Goal) (kid : Goal) → map without_limits (done ++ kid ∷ []) ≡ map without_limits done ++ without_limits kid ∷ []
map-snoc [] kid = refl
map-snoc (g ∷ done) kid = ap (λ l. without_limits g ∷ l) (map-snoc done kid)

pub is_kid : (e : Election) (goal : Goal) (nodes : List Node) (start : Ground) (left : List Ground) → AreSeeded e goal nodes (start ∷ left) → (place : ℕ) × IsKid e goal place start.goal
is_kid e goal nodes start left are =
    let all = are.done ++ start.goal ∷ goals_of left in
    (length are.done, (all, are.cover, omega (arith, length-append are.done (start.goal ∷ goals_of left)), at_end are.done start.goal (goals_of left) start.goal))

pub is_ground : (e : Election) (goal : Goal) (nodes : List Node) (start : Ground) (left : List Ground) → IsElection e → IsReached e goal → AreSeeded e goal nodes (start ∷ left) → IsGroundIn e start
is_ground e goal nodes start left election reached are =
    let all = are.done ++ start.goal ∷ goals_of left in
    let here : length are.done < length all = omega (arith, length-append are.done (start.goal ∷ goals_of left)) in
    record {
      election = election;
      reached = subst (IsReached e) (at_end are.done start.goal (goals_of left) start.goal) (cover_reached e all goal reached are.cover (length are.done) start.goal here);
      values = All-head (IsGroundOf e) start left are.values;
    }

pub next_seeded : (e : Election) (goal : Goal) (nodes next : List Node) (start : Ground) (left : List Ground) → AreSeeded e goal nodes (start ∷ left) → next ≡ nodes ++ without_limits start.goal ∷ [] → AreSeeded e goal next left
next_seeded e goal nodes next start left are next_is = record {
  done = are.done ++ start.goal ∷ [];
  cover = are.cover ∙ ap Some (snoc are.done start.goal (goals_of left));
  made = next_is ∙ ap (λ l. l ++ without_limits start.goal ∷ []) are.made ∙ sym (map-snoc are.done start.goal);
  values = All-tail (IsGroundOf e) start left are.values;
}

-- one more item
pub map_more : {A B : Type 0} (f : A → B) (xs ys : List A) (x : A) (y : B) → ys ≡ xs ++ x ∷ [] → f x ≡ y → map f ys ≡ map f xs ++ y ∷ []
map_more {A} {B} f xs ys x y is same = ap (map f) is ∙ by xs
  where
    by : (xs : List A) → map f (xs ++ x ∷ []) ≡ map f xs ++ y ∷ []
    by [] = ap (λ z. z ∷ []) same
    by (a ∷ xs) = ap (λ l. f a ∷ l) (by xs)
