-- The lines before a tree, each by its fields.
use Rattle.std.specs.Prelude.{ℕ, if◌then◌else◌, List, [], ◌∷◌, codes, Option, Some, None, Result, Ok, Err}
use Rattle.std.specs.Str.{bytes_eq}
use Rattle.text_lines.specs.declared.fault.LineFault.{LineFault}
use Rattle.text_lines.specs.declared.fault.LineFault.TheVariants.{BadLine}
use Rattle.text_lines.specs.Faults.{both}
use Rattle.text_lines.specs.Forms.{number_within, made, alone, behind_word, one_of, two_of, numbers_of, count_of}
use Rattle.ballot_form.specs.Rules.{name_of_text}
use Rattle.ballot_form.specs.declared.rule.RuleName.{RuleName}
use Rattle.ballot_form.specs.declared.rule.RuleName.TheVariants as named
use Rattle.ballot_form.specs.declared.rule.Rule.{Rule}
use Rattle.ballot_form.specs.declared.rule.Rule.TheVariants.{Plurality, Borda, Condorcet, Dhondt, Irv}
use Rattle.ballot_form.specs.declared.outcome.Outcome.{Outcome}
use Rattle.ballot_form.specs.declared.outcome.Outcome.TheVariants.{Winner, NoWinner, Seats}
use Rattle.alteration_model.specs.declared.puts.Put.{Put}
use Rattle.cert_text.specs.declared.cert.Stop.{Stop}
use Rattle.cert_text.specs.declared.cert.Stop.TheVariants.{Budget, Depth}
use Rattle.cert_text.specs.declared.cert.Claim.{Claim}
use Rattle.cert_text.specs.declared.cert.Claim.TheVariants.{Margin, Fixed, Bounds}
use Rattle.cert_text.specs.declared.cert.GoalText.{GoalText}
use Rattle.cert_text.specs.declared.cert.GoalText.TheVariants.{Order, Pair, Cover}
use Rattle.ballot_form.specs.declared.limits.TheConstants.{MOST_BALLOTS, MOST_CANDIDATES, MOST_SEATS}
use Rattle.cert_text.specs.declared.limits.TheConstants.{GREATEST_CANDIDATE, MOST_BUDGET}

-- the first line, whose 1 is a word
abbrev pub first_line : List ℕ → Result (Unit {0}) LineFault
first_line line = if bytes_eq line (codes "movcert 1") then Ok tt else Err BadLine

-- `rule` and a rule, with its seats where it has them
abbrev pub named_rule : Option RuleName → List (List ℕ) → Result Rule LineFault
named_rule None fields = Err BadLine
named_rule (Some named.Plurality) fields = alone (Ok Plurality) fields
named_rule (Some named.Borda) fields = alone (Ok Borda) fields
named_rule (Some named.Condorcet) fields = alone (Ok Condorcet) fields
named_rule (Some named.Dhondt) fields = made Dhondt (one_of 1 MOST_SEATS fields)
named_rule (Some named.Irv) fields = alone (Ok Irv) fields

abbrev pub rule_fields : List (List ℕ) → Result Rule LineFault
rule_fields [] = Err BadLine
rule_fields (name ∷ fields) = named_rule (name_of_text name) fields

abbrev pub rule_line : List (List ℕ) → Result Rule LineFault
rule_line fields = behind_word (codes "rule") rule_fields fields

-- `size`, how many candidates and how many ballots
abbrev pub size_line : List (List ℕ) → Result (ℕ × ℕ) LineFault
size_line fields = behind_word (codes "size") (two_of (1, MOST_CANDIDATES) (0, MOST_BALLOTS)) fields

-- `reported` and an outcome of the rule with so many candidates
abbrev pub winner_fields : List (List ℕ) → Result Outcome LineFault
winner_fields fields = made Winner (one_of 0 GREATEST_CANDIDATE fields)

abbrev pub winner_or_none_fields : List (List ℕ) → Result Outcome LineFault
winner_or_none_fields [] = Err BadLine
winner_or_none_fields (field ∷ fields) =
    if bytes_eq field (codes "none") then alone (Ok NoWinner) fields
    else made Winner (alone (number_within 0 GREATEST_CANDIDATE field) fields)

abbrev pub seats_fields : ℕ → List (List ℕ) → Result Outcome LineFault
seats_fields c fields = made Seats (count_of c 0 MOST_SEATS fields)

abbrev pub outcome_fields : Rule → ℕ → List (List ℕ) → Result Outcome LineFault
outcome_fields (Dhondt seats) c fields = seats_fields c fields
outcome_fields Condorcet c fields = winner_or_none_fields fields
outcome_fields rule c fields = winner_fields fields

abbrev pub reported_line : Rule → ℕ → List (List ℕ) → Result Outcome LineFault
reported_line rule c fields = behind_word (codes "reported") (outcome_fields rule c) fields

-- a claim
abbrev pub stop_fields : List (List ℕ) → Result Stop LineFault
stop_fields [] = Err BadLine
stop_fields (word ∷ fields) =
    if bytes_eq word (codes "budget") then made Budget (one_of 1 MOST_BUDGET fields)
    else if bytes_eq word (codes "depth") then alone (Ok Depth) fields
    else Err BadLine

abbrev pub bounds_fields : List (List ℕ) → Result Claim LineFault
bounds_fields [] = Err BadLine
bounds_fields (low ∷ []) = Err BadLine
bounds_fields (low ∷ up ∷ fields) = made (λ x. Bounds x.0 x.1.0 x.1.1)
    (both (number_within 0 MOST_BALLOTS low) (both (number_within 0 MOST_BALLOTS up) (stop_fields fields)))

abbrev pub claim_line : List (List ℕ) → Result Claim LineFault
claim_line [] = Err BadLine
claim_line (word ∷ fields) =
    if bytes_eq word (codes "margin") then made Margin (one_of 0 MOST_BALLOTS fields)
    else if bytes_eq word (codes "fixed") then alone (Ok Fixed) fields
    else if bytes_eq word (codes "bounds") then bounds_fields fields
    else Err BadLine

-- how many replacements a claim has
abbrev pub put_count : Claim → ℕ
put_count (Margin k) = k
put_count Fixed = 0
put_count (Bounds low up stop) = up

-- `goal` and a goal, where an order has so many candidates
abbrev pub goal_of : ℕ → List ℕ → List (List ℕ) → Result GoalText LineFault
goal_of c kind fields =
    if bytes_eq kind (codes "order") then made Order (count_of c 0 GREATEST_CANDIDATE fields)
    else if bytes_eq kind (codes "pair")
    then made (λ x. Pair x.0 x.1) (two_of (0, GREATEST_CANDIDATE) (0, GREATEST_CANDIDATE) fields)
    else if bytes_eq kind (codes "cover") then made Cover (one_of 0 GREATEST_CANDIDATE fields)
    else Err BadLine

abbrev pub goal_fields : ℕ → List (List ℕ) → Result GoalText LineFault
goal_fields c [] = Err BadLine
goal_fields c (kind ∷ fields) = goal_of c kind fields

abbrev pub goal_line : ℕ → List (List ℕ) → Result GoalText LineFault
goal_line c fields = behind_word (codes "goal") (goal_fields c) fields

-- `put`, the number of a ballot, and any count of candidates
abbrev pub put_of : ℕ × List ℕ → Put
put_of x = record { number = x.0; ballot = x.1 }

abbrev pub put_fields : List (List ℕ) → Result Put LineFault
put_fields [] = Err BadLine
put_fields (number ∷ fields) =
    made put_of (both (number_within 0 MOST_BALLOTS number) (numbers_of 0 GREATEST_CANDIDATE fields))

abbrev pub put_line : List (List ℕ) → Result Put LineFault
put_line fields = behind_word (codes "put") put_fields fields
