-- What the words of the command line ask for.
use Rattle.std.specs.Prelude.{◌≡◌, ◌≤◌, ◌⊎◌, List, [], ◌∷◌, ℕ, if◌then◌else◌, codes, bytes_eq, Option, Some, None, Result, Ok, Err, IsErrOf}
use Rattle.ballot_form.specs.Rules.{IsRule, name_of_text}
use Rattle.ballot_form.specs.declared.rule.Rule.{Rule}
use Rattle.ballot_form.specs.declared.rule.Rule.TheVariants.{Plurality, Borda, Condorcet, Dhondt, Irv}
use Rattle.ballot_form.specs.declared.rule.RuleName.{RuleName}
use Rattle.ballot_form.specs.declared.rule.RuleName.TheVariants as named
use Rattle.cert_text.specs.declared.limits.TheConstants.{MOST_BUDGET}
use Rattle.mov_words.specs.Commands.{check_app, drill_app, is_taken, margin_app, show_app, tally_app, text_in, value_in}
use Rattle.mov_words.specs.Numbers.{budget_of, seats_named, seed_named}
use Rattle.mov_words.specs.declared.fault.WordFault.{WordFault}
use Rattle.mov_words.specs.declared.fault.WordFault.TheVariants.{NoCommand, UnknownCommand, Line, UnknownRule, BadSeats, SeatsMissing, SeatsUnwanted, BadBudget, BadSeed, Memory}
use Rattle.mov_words.specs.declared.jobs.Job.{Job}
use Rattle.mov_words.specs.declared.jobs.Job.TheVariants.{Tally, Margin, Check, Show, Drill}

-- the rule without seats
abbrev pub rule_alone : Option RuleName → Result Rule WordFault
rule_alone None = Err UnknownRule
rule_alone (Some named.Plurality) = Ok Plurality
rule_alone (Some named.Borda) = Ok Borda
rule_alone (Some named.Condorcet) = Ok Condorcet
rule_alone (Some named.Dhondt) = Err SeatsMissing
rule_alone (Some named.Irv) = Ok Irv

-- the rule with these seats
abbrev pub rule_seated : RuleName → ℕ → Result Rule WordFault
rule_seated named.Plurality seats = Err SeatsUnwanted
rule_seated named.Borda seats = Err SeatsUnwanted
rule_seated named.Condorcet seats = Err SeatsUnwanted
rule_seated named.Dhondt seats = Ok (Dhondt seats)
rule_seated named.Irv seats = Err SeatsUnwanted

-- the rule with the seats that were named
abbrev pub rule_with : Option RuleName → Option ℕ → Result Rule WordFault
rule_with None seats = Err UnknownRule
rule_with (Some name) None = Err BadSeats
rule_with (Some name) (Some seats) = rule_seated name seats

-- the rule with the text of the seats, if there is one
abbrev pub rule_of : Option RuleName → Option (List ℕ) → Result Rule WordFault
rule_of name None = rule_alone name
rule_of name (Some seats) = rule_with name (seats_named seats)

abbrev pub tally_with : Result Rule WordFault → List ℕ → Result Job WordFault
tally_with (Err fault) file = Err fault
tally_with (Ok rule) file = Ok (Tally rule file)

-- `tally`: a rule, a file, and perhaps seats
abbrev pub tally_of : List (List ℕ) → Result Job WordFault
tally_of words =
    if is_taken tally_app words then tally_with
    (rule_of (name_of_text (text_in tally_app words (codes "rule"))) (value_in tally_app words (codes "seats")))
    (text_in tally_app words (codes "file"))
    else Err Line

-- what is wrong with the rule comes before what is wrong with the budget
abbrev pub margin_with : Result Rule WordFault → List ℕ → Option ℕ → Result Job WordFault
margin_with (Err fault) file budget = Err fault
margin_with (Ok rule) file None = Err BadBudget
margin_with (Ok rule) file (Some budget) = Ok (Margin rule file budget)

-- `margin`: a rule, a file, and perhaps seats and a budget
abbrev pub margin_of : List (List ℕ) → Result Job WordFault
margin_of words =
    if is_taken margin_app words then margin_with
    (rule_of (name_of_text (text_in margin_app words (codes "rule"))) (value_in margin_app words (codes "seats")))
    (text_in margin_app words (codes "file"))
    (budget_of (value_in margin_app words (codes "budget")))
    else Err Line

-- `check`: a ballot file and a certificate file
abbrev pub check_of : List (List ℕ) → Result Job WordFault
check_of words =
    if is_taken check_app words
    then Ok (Check (text_in check_app words (codes "file")) (text_in check_app words (codes "cert")))
    else Err Line

-- `show`: a file
abbrev pub show_of : List (List ℕ) → Result Job WordFault
show_of words = if is_taken show_app words then Ok (Show (text_in show_app words (codes "file"))) else Err Line

abbrev pub drill_with : Option ℕ → Result Job WordFault
drill_with None = Err BadSeed
drill_with (Some seed) = Ok (Drill seed)

-- `drill`: a seed
abbrev pub drill_of : List (List ℕ) → Result Job WordFault
drill_of words =
    if is_taken drill_app words then drill_with (seed_named (text_in drill_app words (codes "seed"))) else Err Line

-- the job of the words, or the first thing that is wrong with them
abbrev pub meaning : List (List ℕ) → Result Job WordFault
meaning [] = Err NoCommand
meaning (command ∷ words) =
    if bytes_eq command (codes "tally") then tally_of words
    else if bytes_eq command (codes "margin") then margin_of words
    else if bytes_eq command (codes "check") then check_of words
    else if bytes_eq command (codes "show") then show_of words
    else if bytes_eq command (codes "drill") then drill_of words
    else Err UnknownCommand

-- what was made of the words is their meaning, or want of memory
abbrev pub Gives : Result Job WordFault → Result Job WordFault → Type 0
Gives m r = (r ≡ m) ⊎ (r ≡ Err Memory)

-- there is no word, or the first isn't a command
abbrev pub IsNoCommand : Result Job WordFault → Type 0
IsNoCommand m = IsErrOf m NoCommand ⊎ IsErrOf m UnknownCommand

-- a reading of the words: their meaning, or want of memory once the first word is a command
abbrev pub Reads : List (List ℕ) → Result Job WordFault → Type 0
Reads words r = (r ≡ meaning words) ⊎ ((r ≡ Err Memory) × (IsNoCommand (meaning words) → ⊥))

-- the rule has a lawful number of seats, and a margin's budget is within its limits
abbrev pub IsLawful : Job → Type 0
IsLawful (Tally rule file) = IsRule rule
IsLawful (Margin rule file budget) = IsRule rule × (1 ≤ budget) × (budget ≤ MOST_BUDGET)
IsLawful job = Unit {0}

-- the ballot file that the job reads
abbrev pub BallotFile : Result Job WordFault → List ℕ → Type 0
BallotFile (Ok (Tally rule file)) name = name ≡ file
BallotFile (Ok (Margin rule file budget)) name = name ≡ file
BallotFile (Ok (Check file cert)) name = name ≡ file
BallotFile (Ok (Show file)) name = name ≡ file
BallotFile (Ok (Drill seed)) name = ⊥
BallotFile (Err fault) name = ⊥

-- how many files the job reads
abbrev pub file_count : Result Job WordFault → ℕ
file_count (Ok (Tally rule file)) = 1
file_count (Ok (Margin rule file budget)) = 1
file_count (Ok (Check file cert)) = 2
file_count (Ok (Show file)) = 1
file_count (Ok (Drill seed)) = 0
file_count (Err fault) = 0
