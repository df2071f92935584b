-- When replacements turn the outcome, and how few do.
use Rattle.std.specs.Prelude.{◌≡◌, ℕ, ◌<◌, List, length}
use Rattle.ballot_form.specs.Alterations.{IsAlteration, after}
use Rattle.ballot_form.specs.Ballots.{Poll}
use Rattle.ballot_form.specs.declared.outcome.Outcome.{Outcome}
use Rattle.ballot_form.specs.declared.rule.Rule.{Rule}
use Rattle.goal_rows.specs.Outcomes.{Admits, IsReported}

-- an outcome other than the reported one is admitted after the changes
abbrev pub Turns : Rule → Poll → List (ℕ × List ℕ) → Type 0
Turns rule p changes = (o : Outcome) × (IsReported rule p o → ⊥) × Admits rule (after p changes) o

-- no alteration of fewer than t replacements turns the outcome
abbrev pub NoneBelow : Rule → Poll → ℕ → Type 0
NoneBelow rule p t =
    (changes : List (ℕ × List ℕ)) → IsAlteration p changes → length changes < t → Turns rule p changes → ⊥

-- k is the least number of replacements that turn the outcome
pub record IsMargin (rule : Rule) (p : Poll) (k : ℕ) : Type 0 where
  pub turned : (changes : List (ℕ × List ℕ)) × IsAlteration p changes × (length changes ≡ k) × Turns rule p changes
  pub least : NoneBelow rule p k

-- no alteration of any length turns the outcome
abbrev pub IsUnturnable : Rule → Poll → Type 0
IsUnturnable rule p = (changes : List (ℕ × List ℕ)) → IsAlteration p changes → Turns rule p changes → ⊥
