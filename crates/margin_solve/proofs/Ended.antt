-- What is made of each end of a search.
use Rattle.std.proofs.Common.{ℕ, [], Some, ◌≡◌, ◌≤◌, Option, Result, Ok, Err, IfOk, length, refl, subst, inl, inr, arith}
use Rattle.std.specs.Prelude.{None as Nothing}
use Rattle.bound_tree.specs.Nodes.{height}
use Rattle.bound_tree.specs.declared.bound.TheConstants.{MOST_DEPTH}
use Rattle.cert_text.specs.declared.cert.Cert.{Cert}
use Rattle.cert_text.specs.declared.cert.Claim.TheVariants.{Margin, Fixed, Bounds}
use Rattle.cert_text.specs.declared.cert.Stop.TheVariants as stops
use Rattle.cert_text.specs.declared.limits.TheConstants.{MOST_BUDGET}
use Rattle.goal_rows.specs.Goals.{root_goals}
use Rattle.goal_rows.specs.Races.{IsRace, election_of}
use Rattle.goal_rows.specs.declared.parts.Race.{Race}
use Rattle.witness_build.specs.declared.ends.End.{End}
use Rattle.witness_build.specs.declared.ends.End.TheVariants as ends
use Rattle.witness_build.specs.declared.ends.Found.{Found}
use Rattle.witness_build.specs.declared.pairs.Witness.{Witness}
use Rattle.search_theory.specs.Ends as searching
use Rattle.search_leaves.specs.Found.{EndsSo, IsFound, problem_of}
use Rattle.margin_solve.specs.Made.{HasParts, HasTurn, IsBegun, IsMade, upper_by}
use Rattle.margin_solve.specs.Numbers.{AreNarrow}
use Rattle.margin_solve.proofs.Endings.{alone_at_no_point, alone_ends, no_goals, within}
use Rattle.margin_solve.proofs.Made.{IsTreeOf, fixed_made, met_made, point_made, stopped_made}

with_two : {A E : Type 0} (r : Result A E) (P Q R : A → Type 0) → IfOk r P → IfOk r Q → ((x : A) → P x → Q x → R x) → IfOk r R
with_two (Ok x) P Q R p q so = so x p q
with_two (Err e) P Q R p q so = tt

module _ (race : Race) (is : IsRace race) (own : race.roots ≡ root_goals race.rule race.roll.now.c race.reported) (budget : ℕ) (some : 1 ≤ budget) (few : budget ≤ MOST_BUDGET)
    (found : Found) (narrow : AreNarrow found.tree) (shallow : height found.tree ≤ MOST_DEPTH) where
  tree_of : (upper : Option ℕ) → IsFound (problem_of race upper budget) found → IsTreeOf (election_of race) budget found.low found.tree
  tree_of upper is_found = record {
    proof = is_found.proof;
    tight = is_found.tight;
    needed = is_found.needed;
    within = is_found.within;
    narrow = narrow;
    shallow = shallow;
  }

  -- ---- nobody else stands

  alone_end : race.roll.now.c ≡ 1 → IsFound (problem_of race Nothing budget) found → (end : End) → EndsSo (problem_of race Nothing budget) found.tree found.low end
      → searching.IsEnd (problem_of race Nothing budget) found.tree found.low searching.Nothing
  alone_end alone is_found ends.Nothing so = so
  alone_end alone is_found ends.Met so = absurd (let no = so.1 in cc)
  alone_end alone is_found (ends.AtPoint w) so =
      absurd (alone_at_no_point (problem_of race Nothing budget) found.tree found.low so.q (no_goals race is own alone) is_found.needed so.at)
  alone_end alone is_found ends.Budget so =
      absurd (alone_ends (problem_of race Nothing budget) found.tree found.low some (no_goals race is own alone) is_found.needed (inl so))
  alone_end alone is_found ends.Depth so =
      absurd (alone_ends (problem_of race Nothing budget) found.tree found.low some (no_goals race is own alone) is_found.needed (inr so))

  pub fixed_of : {E : Type 0} (start : Option Witness) (r : Result Cert E) → start ≡ Nothing → IsBegun race start → IsFound (problem_of race (upper_by start) budget) found
      → IfOk r (HasParts race Fixed found.tree) → IfOk r (λ cert. cert.goal ≡ Nothing) → IfOk r (λ cert. cert.puts ≡ []) → IfOk r (IsMade race budget)
  fixed_of start r none begun is_found parts goal puts =
      let alone : IsBegun race Nothing = subst (IsBegun race) none begun in
      let at : IsFound (problem_of race Nothing budget) found = subst (λ s. IsFound (problem_of race (upper_by s) budget) found) none is_found in
      let end = alone_end alone at found.end at.end in
      with_two r (HasParts race Fixed found.tree) (λ cert. (cert.goal ≡ Nothing) × (cert.puts ≡ [])) (IsMade race budget) parts
      (with_two r (λ cert. cert.goal ≡ Nothing) (λ cert. cert.puts ≡ []) (λ cert. (cert.goal ≡ Nothing) × (cert.puts ≡ [])) goal puts (λ cert g p. (g, p)))
      (λ cert has none. fixed_made race is own budget few Fixed found.tree cert has found.low refl none.0 none.1 alone (tree_of Nothing at) end)

  -- ---- somebody else does

  module _ (w : Witness) (begun : IsBegun race (Some w)) (is_found : IsFound (problem_of race (Some (length w.changes)) budget) found) where
    end_here : (end : End) → found.end ≡ end → EndsSo (problem_of race (Some (length w.changes)) budget) found.tree found.low end
    end_here end same = subst (EndsSo (problem_of race (Some (length w.changes)) budget) found.tree found.low) same is_found.end

    -- the tree proves no more than is known
    pub not_nothing : found.end ≡ ends.Nothing → ⊥
    not_nothing same =
        let end = end_here ends.Nothing same in
        let limits = within race is own budget w found.tree found.low begun is_found.proof in
        let most = limits.most in
        let all = limits.few in
        let top = end.1 in
        omega (arith, most, all, top)

    pub met_of : {E : Type 0} (r : Result Cert E) → found.end ≡ ends.Met → IfOk r (HasParts race (Margin found.low) found.tree) → IfOk r (HasTurn w) → IfOk r (IsMade race budget)
    met_of r same parts turn =
        with_two r (HasParts race (Margin found.low) found.tree) (HasTurn w) (IsMade race budget) parts turn
        (λ cert has goes. met_made race is own budget few (Margin found.low) found.tree cert has w begun found.low (tree_of (Some (length w.changes)) is_found) refl goes (end_here ends.Met same))

    pub point_of : {E : Type 0} (v : Witness) (r : Result Cert E) → found.end ≡ ends.AtPoint v → IfOk r (HasParts race (Margin found.low) found.tree) → IfOk r (HasTurn v) → IfOk r (IsMade race budget)
    point_of v r same parts turn =
        with_two r (HasParts race (Margin found.low) found.tree) (HasTurn v) (IsMade race budget) parts turn
        (λ cert has goes. point_made race is own budget few (Margin found.low) found.tree cert has w begun found.low (tree_of (Some (length w.changes)) is_found) v refl goes (end_here (ends.AtPoint v) same))

    pub budget_of : {E : Type 0} (up : ℕ) (r : Result Cert E) → up ≡ length w.changes → found.end ≡ ends.Budget → IfOk r (HasParts race (Bounds found.low up (stops.Budget budget)) found.tree) → IfOk r (HasTurn w)
        → IfOk r (IsMade race budget)
    budget_of up r count same parts turn =
        let claimed = subst (λ u. IfOk r (HasParts race (Bounds found.low u (stops.Budget budget)) found.tree)) count parts in
        with_two r (HasParts race (Bounds found.low (length w.changes) (stops.Budget budget)) found.tree) (HasTurn w) (IsMade race budget) claimed turn
        (λ cert has goes. stopped_made race is own budget few (Bounds found.low (length w.changes) (stops.Budget budget)) found.tree cert has w begun found.low
        (tree_of (Some (length w.changes)) is_found) (stops.Budget budget) searching.Budget some refl goes (refl, refl) (end_here ends.Budget same))

    pub depth_of : {E : Type 0} (up : ℕ) (r : Result Cert E) → up ≡ length w.changes → found.end ≡ ends.Depth → IfOk r (HasParts race (Bounds found.low up stops.Depth) found.tree) → IfOk r (HasTurn w)
        → IfOk r (IsMade race budget)
    depth_of up r count same parts turn =
        let claimed = subst (λ u. IfOk r (HasParts race (Bounds found.low u stops.Depth) found.tree)) count parts in
        with_two r (HasParts race (Bounds found.low (length w.changes) stops.Depth) found.tree) (HasTurn w) (IsMade race budget) claimed turn
        (λ cert has goes. stopped_made race is own budget few (Bounds found.low (length w.changes) stops.Depth) found.tree cert has w begun found.low
        (tree_of (Some (length w.changes)) is_found) stops.Depth searching.Depth some refl goes refl (end_here ends.Depth same))
