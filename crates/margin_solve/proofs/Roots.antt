-- The goals into which the root is split: how many there are, and which.
use Rattle.std.proofs.Common.{ℕ, zero, suc, List, [], ◌∷◌, ◌≡◌, ◌<◌, ◌≤◌, ◌*◌, ◌∙◌, length, map, ap, sym, refl, subst, arith}
use Rattle.std.specs.Prelude.{Contains, ◌==◌, not}
use Rattle.std.specs.List.{range_with_len}
use Rattle.std.proofs.Math.Nat.{mul-le-mul_left}
use Rattle.ballot_form.specs.Ballots.{Poll}
use Rattle.ballot_form.specs.declared.outcome.Outcome.{Outcome}
use Rattle.ballot_form.specs.declared.outcome.Outcome.TheVariants.{Winner, NoWinner, Seats}
use Rattle.ballot_form.specs.declared.rule.Rule.{Rule}
use Rattle.ballot_form.specs.declared.rule.Rule.TheVariants.{Plurality, Borda, Condorcet, Dhondt, Irv}
use Rattle.goal_rows.specs.Goals.{IsDecidedByPairs, is_seated, root_goals}
use Rattle.goal_rows.specs.Outcomes.{IsReported}
use Rattle.goal_rows.specs.Suffixes.{those}
use Rattle.goal_rows.specs.declared.goals.Goal.{Goal}
use Rattle.goal_rows.specs.declared.goals.Goal.TheVariants.{Suffix, Pair, Cover}
use Rattle.goal_rows.proofs.Lists.{lists_few, made_are, made_few}

-- ---- there are few

-- where pairs decide, there are at most as many as ordered pairs
pub pairs_few : (rule : Rule) (c : ℕ) (o : Outcome) (roots : List Goal) → 1 ≤ c → roots ≡ root_goals rule c o → IsDecidedByPairs rule o → length roots ≤ c * c
pairs_few rule c o roots some is decided = subst (λ goals. length goals ≤ c * c) (sym is) (few rule o decided)
  where
    square : (n : ℕ) → n ≤ c → n ≤ c * c
    square n small = let up : c * 1 ≤ c * c = mul-le-mul_left c some in omega (arith, small, up)

    few : (rule : Rule) (o : Outcome) → IsDecidedByPairs rule o → length (root_goals rule c o) ≤ c * c
    few Plurality (Winner x) decided = square _ (made_few (λ j. Pair j x) c (λ j. not (j == x)))
    few Borda (Winner x) decided = square _ (made_few (λ j. Pair j x) c (λ j. not (j == x)))
    few Condorcet (Winner x) decided = square _ (made_few (λ j. Pair j x) c (λ j. not (j == x)))
    few (Dhondt s) (Seats shares) decided =
        lists_few (λ g. map (λ l. Pair g l) (those c (is_seated shares g))) c c (λ g. made_few (λ l. Pair g l) c (is_seated shares g))
    few Condorcet NoWinner decided = absurd decided
    few Irv o decided = absurd decided
    few Plurality NoWinner decided = omega arith
    few Plurality (Seats shares) decided = omega arith
    few Borda NoWinner decided = omega arith
    few Borda (Seats shares) decided = omega arith
    few Condorcet (Seats shares) decided = omega arith
    few (Dhondt s) (Winner x) decided = omega arith
    few (Dhondt s) NoWinner decided = omega arith

-- ---- one candidate has none

none_beside : {X : Type 0} (f : ℕ → X) (x : ℕ) → x < 1 → map f (those 1 (λ j. not (j == x))) ≡ []
none_beside f zero lt = refl
none_beside f (suc x) lt = absurd (omega arith)

chosen_alone : (p : Poll) → IsReported Condorcet p NoWinner → p.c ≡ 1 → ⊥
chosen_alone p none one = none 0 (record {
  stands = omega (arith, one);
  chosen = λ y within other. absurd (other (omega (arith, one, within)));
})

-- the winner under instant runoff stands
pub last_below : (p : Poll) (x : ℕ) → IsReported Irv p (Winner x) → x < p.c
last_below p x is =
    let long = is.1.legal.whole.long in
    let last = is.2.1 in
    let below = is.1.legal.whole.below is.2.0 (omega (arith, long, last)) in
    let same = is.2.2 in
    omega (arith, below, same)

alone_by : (rule : Rule) (p : Poll) (o : Outcome) → IsReported rule p o → p.c ≡ 1 → root_goals rule 1 o ≡ []
alone_by Plurality p (Winner x) is one = none_beside (λ j. Pair j x) x (omega (arith, one, is.greatest.stands))
alone_by Borda p (Winner x) is one = none_beside (λ j. Pair j x) x (omega (arith, one, is.greatest.stands))
alone_by Condorcet p (Winner x) is one = none_beside (λ j. Pair j x) x (let stands = is.stands in omega (arith, one, stands))
alone_by (Dhondt s) p (Seats shares) is one = refl
alone_by Irv p (Winner x) is one = none_beside (λ y. Suffix (y ∷ [])) x (let below = last_below p x is in omega (arith, below, one))
alone_by Condorcet p NoWinner is one = absurd (chosen_alone p is one)
alone_by Irv p NoWinner is one = absurd is
alone_by Irv p (Seats shares) is one = absurd is
alone_by Condorcet p (Seats shares) is one = absurd is
alone_by Plurality p NoWinner is one = absurd is
alone_by Plurality p (Seats shares) is one = absurd is
alone_by Borda p NoWinner is one = absurd is
alone_by Borda p (Seats shares) is one = absurd is
alone_by (Dhondt s) p (Winner x) is one = absurd is
alone_by (Dhondt s) p NoWinner is one = absurd is

pub alone_without_goals : (rule : Rule) (p : Poll) (o : Outcome) (roots : List Goal) → IsReported rule p o → roots ≡ root_goals rule p.c o → p.c ≡ 1 → roots ≡ []
alone_without_goals rule p o roots is own one = own ∙ ap (λ c. root_goals rule c o) one ∙ alone_by rule p o is one

-- ---- where pairs don't decide, none is a pair

pub no_pairs : (rule : Rule) (c : ℕ) (o : Outcome) (roots : List Goal) (g l : ℕ) → roots ≡ root_goals rule c o → Contains roots (Pair g l)
    → (IsDecidedByPairs rule o → ⊥) → ⊥
no_pairs rule c o roots g l own there undecided = by rule o (subst (λ goals. Contains goals (Pair g l)) own there) undecided
  where
    none : Contains [] (Pair g l) → ⊥
    none there = omega (arith, there.1)

    by : (rule : Rule) (o : Outcome) → Contains (root_goals rule c o) (Pair g l) → (IsDecidedByPairs rule o → ⊥) → ⊥
    by Condorcet NoWinner there undecided = let is = made_are Cover (range_with_len 0 c) (Pair g l) there in (let no = is.2 in cc)
    by Irv (Winner x) there undecided = let is = made_are (λ y. Suffix (y ∷ [])) (those c (λ y. not (y == x))) (Pair g l) there in (let no = is.2 in cc)
    by Irv NoWinner there undecided = none there
    by Irv (Seats shares) there undecided = none there
    by Plurality o there undecided = undecided tt
    by Borda o there undecided = undecided tt
    by (Dhondt s) o there undecided = undecided tt
    by Condorcet (Winner x) there undecided = undecided tt
    by Condorcet (Seats shares) there undecided = undecided tt
