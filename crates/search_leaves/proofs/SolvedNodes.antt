-- What the method's answer to a node's program says of the node.
use Rattle.std.proofs.Common.{◌≡◌, ℕ, ◌+◌, ◌*◌, ◌/◌, ◌%◌, ◌≤◌, ◌∙◌, List, All, min, length, sym, ap, subst, inl, inr, arith}
use Rattle.std.specs.Prelude.{ℤ, pos, ◌*ℤ◌, ◌<ℤ◌, ◌≤ℤ◌}
use Rattle.std.proofs.Math.IntN.{negsuc}
use Rattle.std.proofs.Math.Nat.{mul-le-mul_right}
use Rattle.std.proofs.Props.{props}
use Rattle.std.proofs.lemmas.Bool.{cases_lt}
use Rattle.std.proofs.lemmas.Grind.{div_ceil_times}
use Rattle.std.proofs.lemmas.Int.{ints}
use Rattle.row_program.specs.Bounds.{IsProgram}
use Rattle.row_program.specs.Method.{IsWide}
use Rattle.row_program.specs.Points.{IsLeastCost, IsLeastPoint, IsPoint, cost_of, row_value}
use Rattle.row_program.specs.declared.Limit.{Limit}
use Rattle.row_program.specs.declared.program.Program.{Program}
use Rattle.row_program.specs.declared.program.Row.{Row}
use Rattle.dual_theory.specs.Multipliers.{BoundsCost, RulesOut}
use Rattle.lex_dual.specs.Answers.{HasNoPoint}
use Rattle.goal_rows.specs.Elections.{Election}
use Rattle.goal_rows.specs.Nodes.{AreLimits, node_of}
use Rattle.goal_rows.specs.Programs.{IsPointOf, arcs_under, costs_of, program_rows}
use Rattle.goal_rows.specs.Races.{IsGroundIn}
use Rattle.goal_rows.specs.declared.parts.Ground.{Ground}
use Rattle.dual_bound.proofs.Sizes.{few_classes}
use Rattle.dual_bound.proofs.Sound.{one_bound}
use Rattle.dual_bound.specs.CutTest.{IsBound}
use Rattle.node_bounds.specs.Ceilings.{IsCeiling, IsProgramOf, ground_at}
use Rattle.node_bounds.proofs.CeilingCuts.{best_ceiling, best_cuts, ground_is, never_ceiling, never_cuts}
use Rattle.node_bounds.proofs.CeilingSizes.{ceiling_bound}
use Rattle.search_theory.specs.Branchings.{IsLeastOf, IsSolvable, Values}

-- ---- a node has one program

one_program : (costs : List ℕ) (rows : List Row) (kept : ℕ) (these others : IsProgram costs rows kept) → these ≡ others
one_program costs rows kept = hlevel props

abbrev program_with : (costs : List ℕ) (rows : List Row) (kept : ℕ) → IsProgram costs rows kept → Program
program_with costs rows kept are = record { costs = costs; rows = rows; kept = kept; bounds = are }

same_program : (a b : Program) → a.costs ≡ b.costs → a.rows ≡ b.rows → a.kept ≡ b.kept → a ≡ b
same_program a b costs rows kept =
    subst (λ (cs : List ℕ). (are : IsProgram cs b.rows b.kept) → a ≡ program_with cs b.rows b.kept are) costs
    (subst (λ (rs : List Row). (are : IsProgram a.costs rs b.kept) → a ≡ program_with a.costs rs b.kept are) rows
    (subst (λ (k : ℕ). (are : IsProgram a.costs a.rows k) → a ≡ program_with a.costs a.rows k are) kept
    (λ are. ap (program_with a.costs a.rows a.kept) (one_program a.costs a.rows a.kept a.bounds are)))) b.bounds

-- where its program meets a wide number, the method doesn't solve it
pub wide_is_unsolved : (e : Election) (start : Ground) (limits : List Limit) (program : Program) → IsGroundIn e start → IsProgramOf start limits program → IsWide program → IsSolvable e (node_of start limits) → ⊥
wide_is_unsolved e start limits program is made wide solvable =
    let same = ground_is e start is in
    let own = solvable.is in
    let here : IsProgramOf (ground_at e start.goal) limits program = subst (λ g. IsProgramOf g limits program) same made in
    solvable.narrow (subst IsWide (same_program program solvable.program (here.costs ∙ sym own.costs) (here.rows ∙ sym own.rows) (here.kept ∙ sym own.kept)) wide)

-- and where it meets none, it does
pub narrow_is_solved : (e : Election) (start : Ground) (limits : List Limit) (program : Program) → IsGroundIn e start → IsProgramOf start limits program → (IsWide program → ⊥) → IsSolvable e (node_of start limits)
narrow_is_solved e start limits program is made narrow =
    let same = ground_is e start is in
    record {
      few = subst (λ (own : Ground). length own.classes ≤ 4096) same (few_classes e start is);
      program = program;
      is = subst (λ g. IsProgramOf g limits program) same made;
      narrow = narrow;
    }

-- ---- the least cost, rounded up

record IsRounded (num den : ℤ) : Type 0 where
  pub v : ℕ
  pub high : num ≤ℤ (pos v *ℤ den)
  pub lowest : (u : ℕ) → num ≤ℤ (pos u *ℤ den) → v ≤ u

rounded : (num den : ℤ) → pos 0 <ℤ den → IsRounded num den
rounded num (negsuc d) some = absurd (omega (arith, ints, some))
rounded (negsuc n) (pos d) some = record { v = 0; high = omega (arith, ints); lowest = λ u le. omega arith }
rounded (pos n) (pos d) some =
    let v = n / d + min 1 (n % d) in
    let near = div_ceil_times n d (omega (arith, ints, some)) in
    let high = near.0 in
    let low = near.1 in
    record {
      v = v;
      high = omega (arith, ints, high);
      lowest = λ u le. elim (cases_lt u v) [
        | inl less ↦ absurd (
            let step : (u + 1) * d ≤ v * d = mul-le-mul_right d (omega (arith, less)) in
            let spread : (u + 1) * d ≡ u * d + d = omega arith in
            omega (arith, ints, step, spread, low, le))
        | inr more ↦ more
      ];
    }

-- the program that is made of the node
pub made_of : (start : Ground) (read limits : List Limit) (program : Program) → read ≡ limits → program.costs ≡ costs_of start.classes (arcs_under start.goal) → program.rows ≡ program_rows start read
    → program.kept ≡ length start.sums + length read → IsProgramOf start limits program
made_of start read limits program same costs rows kept = record {
  costs = costs;
  rows = rows ∙ ap (program_rows start) same;
  kept = kept ∙ ap (λ (ls : List Limit). length start.sums + length ls) same;
}

-- ---- its bound is its ceiling

pub best_is_ceiling : (e : Election) (start : Ground) (limits : List Limit) (program : Program) (ls : List ℕ) (num den : ℤ) (b : ℕ) → IsGroundIn e start → AreLimits e (node_of start limits)
    → IsProgramOf start limits program → IsLeastCost program num den → BoundsCost program ls num den → length ls ≡ program.kept → IsBound e (node_of start limits) ls b
    → IsCeiling e (node_of start limits) b
best_is_ceiling e start limits program ls num den b is few made least bounds one_each bound =
    let up = rounded num den least.positive in
    let ceiling = best_ceiling e start limits program num den up.v is made least up.high up.lowest in
    let cut = best_cuts e start limits program ls num den up.v is few made least bounds one_each up.high up.lowest in
    let own = ceiling_bound e start limits ls up.v is few (one_each ∙ made.kept) ceiling cut in
    subst (IsCeiling e (node_of start limits)) (one_bound e (node_of start limits) ls up.v b own bound) ceiling

pub never_is_ceiling : (e : Election) (start : Ground) (limits : List Limit) (program : Program) (ls : List ℕ) (b : ℕ) → IsGroundIn e start → AreLimits e (node_of start limits)
    → IsProgramOf start limits program → HasNoPoint program → RulesOut program ls → length ls ≡ program.kept → IsBound e (node_of start limits) ls b
    → IsCeiling e (node_of start limits) b × (b ≡ length e.poll.ballots + 1)
never_is_ceiling e start limits program ls b is few made none rules one_each bound =
    let top = length e.poll.ballots + 1 in
    let ceiling = never_ceiling e start limits program is made none in
    let cut = never_cuts e start limits program ls top is few made rules one_each in
    let own = ceiling_bound e start limits ls top is few (one_each ∙ made.kept) ceiling cut in
    let same = one_bound e (node_of start limits) ls top b own bound in
    (subst (IsCeiling e (node_of start limits)) same ceiling, sym same)

-- ---- its point is the least

pub least_is_least : (e : Election) (start : Ground) (limits : List Limit) (program : Program) (q : Values) → IsGroundIn e start → IsProgramOf start limits program → IsLeastPoint program q.whole q.den
    → IsLeastOf e (node_of start limits) q
least_is_least e start limits program q is made least =
    let same = ground_is e start is in
    let here : IsProgramOf (ground_at e start.goal) limits program = subst (λ g. IsProgramOf g limits program) same made in
    let own = ground_at e start.goal in
    let point : (whole : List ℕ) (den : ℕ) → IsPointOf own limits whole den → IsPoint program whole den = λ whole den p.
    record {
      all_variables = p.all_variables ∙ sym (ap length here.costs);
      positive = p.positive;
      meets = subst (λ (rows : List Row). All (λ row. pos 0 ≤ℤ row_value row whole den) rows) (sym here.rows) p.meets;
    } in
    let cost : (whole : List ℕ) → cost_of (costs_of own.classes (arcs_under own.goal)) whole ≡ cost_of program.costs whole = λ whole. ap (λ cs. cost_of cs whole) (sym here.costs) in
    record {
      point = record {
        all_variables = least.point.all_variables ∙ ap length here.costs;
        positive = least.point.positive;
        meets = subst (λ (rows : List Row). All (λ row. pos 0 ≤ℤ row_value row q.whole q.den) rows) here.rows least.point.meets;
      };
      cheapest = λ whole den p. rw (cost q.whole, cost whole) (least.cheapest whole den (point whole den p));
      least = λ whole den p level. least.least whole den (point whole den p) (rw (cost q.whole, cost whole) at level);
      lowest = λ whole den p values. least.lowest whole den (point whole den p) values;
    }
