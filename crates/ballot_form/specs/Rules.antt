-- The rules.
use Rattle.std.specs.Prelude.{◌≤◌, ℕ, List, codes, bytes_eq, Option, Some, None, if◌then◌else◌}
use Rattle.ballot_form.specs.declared.limits.TheConstants.{MOST_SEATS}
use Rattle.ballot_form.specs.declared.rule.Rule.{Rule}
use Rattle.ballot_form.specs.declared.rule.Rule.TheVariants.{Plurality, Borda, Condorcet, Dhondt, Irv}
use Rattle.ballot_form.specs.declared.rule.RuleName.{RuleName}
use Rattle.ballot_form.specs.declared.rule.RuleName.TheVariants as named

-- a rule with a lawful number of seats, where it has one
abbrev pub IsRule : Rule → Type 0
IsRule (Dhondt seats) = (1 ≤ seats) × (seats ≤ MOST_SEATS)
IsRule rule = Unit {0}

-- the name that texts give a rule
abbrev pub text_of_name : RuleName → List ℕ
text_of_name named.Plurality = codes "plurality"
text_of_name named.Borda = codes "borda"
text_of_name named.Condorcet = codes "condorcet"
text_of_name named.Dhondt = codes "dhondt"
text_of_name named.Irv = codes "irv"

-- what a text names, if it is the name of a rule
abbrev pub name_of_text : List ℕ → Option RuleName
name_of_text text =
    if bytes_eq text (codes "plurality") then Some named.Plurality
    else if bytes_eq text (codes "borda") then Some named.Borda
    else if bytes_eq text (codes "condorcet") then Some named.Condorcet
    else if bytes_eq text (codes "dhondt") then Some named.Dhondt
    else if bytes_eq text (codes "irv") then Some named.Irv
    else None

-- the name of a rule
abbrev pub name_of_rule : Rule → RuleName
name_of_rule Plurality = named.Plurality
name_of_rule Borda = named.Borda
name_of_rule Condorcet = named.Condorcet
name_of_rule (Dhondt seats) = named.Dhondt
name_of_rule Irv = named.Irv
