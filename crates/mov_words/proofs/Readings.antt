-- A reading of the words after a command is one of the words with the command.
use Rattle.std.proofs.Common.{ℕ, List, ◌∷◌, ◌≡◌, ◌⊎◌, Bool, true, false, Option, Some, None, inl, inr, codes, subst, sym}
use Rattle.std.specs.Prelude.{if◌then◌else◌, Result, Ok, Err}
use Rattle.ballot_form.specs.Rules.{name_of_text}
use Rattle.ballot_form.specs.declared.rule.Rule.{Rule}
use Rattle.ballot_form.specs.declared.rule.RuleName.{RuleName}
use Rattle.ballot_form.specs.declared.rule.RuleName.TheVariants as named
use Rattle.mov_words.specs.Commands.{check_app, drill_app, is_taken, margin_app, show_app, tally_app, text_in, value_in}
use Rattle.mov_words.specs.Numbers.{budget_of, seats_named, seed_named}
use Rattle.mov_words.specs.Words.{Gives, IsNoCommand, Reads, check_of, drill_of, drill_with, margin_of, margin_with, rule_alone, rule_of, rule_seated, rule_with, show_of, tally_of, tally_with}
use Rattle.mov_words.specs.declared.fault.WordFault.{WordFault}
use Rattle.mov_words.specs.declared.fault.WordFault.TheVariants as fault
use Rattle.mov_words.specs.declared.jobs.Job.{Job}

-- the fault is of the words after a command
abbrev IsAfter : WordFault → Type 0
IsAfter fault.NoCommand = ⊥
IsAfter fault.UnknownCommand = ⊥
IsAfter f = Unit {0}

abbrev IsAfterCommand : {A : Type 0} → Result A WordFault → Type 0
IsAfterCommand (Ok x) = Unit {0}
IsAfterCommand (Err f) = IsAfter f

no_fault : (f : WordFault) → IsAfter f → IsNoCommand (Err f) → ⊥
no_fault fault.NoCommand after none = after
no_fault fault.UnknownCommand after none = after
no_fault fault.Line after none = elim none [ inl h ↦ cc h | inr h ↦ cc h ]
no_fault fault.UnknownRule after none = elim none [ inl h ↦ cc h | inr h ↦ cc h ]
no_fault fault.BadSeats after none = elim none [ inl h ↦ cc h | inr h ↦ cc h ]
no_fault fault.SeatsMissing after none = elim none [ inl h ↦ cc h | inr h ↦ cc h ]
no_fault fault.SeatsUnwanted after none = elim none [ inl h ↦ cc h | inr h ↦ cc h ]
no_fault fault.BadBudget after none = elim none [ inl h ↦ cc h | inr h ↦ cc h ]
no_fault fault.BadSeed after none = elim none [ inl h ↦ cc h | inr h ↦ cc h ]
no_fault fault.Memory after none = elim none [ inl h ↦ cc h | inr h ↦ cc h ]

no_command : (m : Result Job WordFault) → IsAfterCommand m → IsNoCommand m → ⊥
no_command (Ok job) after none = elim none [ inl h ↦ cc h | inr h ↦ cc h ]
no_command (Err f) after none = no_fault f after none

-- words that aren't taken are a fault of the line
if_taken : (b : Bool) (m : Result Job WordFault) → IsAfterCommand m → IsAfterCommand (if b then m else Err fault.Line)
if_taken true m after = after
if_taken false m after = tt

alone : (name : Option RuleName) → IsAfterCommand (rule_alone name)
alone None = tt
alone (Some named.Plurality) = tt
alone (Some named.Borda) = tt
alone (Some named.Condorcet) = tt
alone (Some named.Dhondt) = tt
alone (Some named.Irv) = tt

seated : (name : RuleName) (seats : ℕ) → IsAfterCommand (rule_seated name seats)
seated named.Plurality seats = tt
seated named.Borda seats = tt
seated named.Condorcet seats = tt
seated named.Dhondt seats = tt
seated named.Irv seats = tt

with_seats : (name : Option RuleName) (seats : Option ℕ) → IsAfterCommand (rule_with name seats)
with_seats None seats = tt
with_seats (Some name) None = tt
with_seats (Some name) (Some seats) = seated name seats

of_rule : (name : Option RuleName) (seats : Option (List ℕ)) → IsAfterCommand (rule_of name seats)
of_rule name None = alone name
of_rule name (Some seats) = with_seats name (seats_named seats)

of_tally : (rule : Result Rule WordFault) (file : List ℕ) → IsAfterCommand rule → IsAfterCommand (tally_with rule file)
of_tally (Ok rule) file after = tt
of_tally (Err f) file after = after

of_margin : (rule : Result Rule WordFault) (file : List ℕ) (budget : Option ℕ) → IsAfterCommand rule → IsAfterCommand (margin_with rule file budget)
of_margin (Ok rule) file None after = tt
of_margin (Ok rule) file (Some budget) after = tt
of_margin (Err f) file budget after = after

of_drill : (seed : Option ℕ) → IsAfterCommand (drill_with seed)
of_drill None = tt
of_drill (Some seed) = tt

reads : (m : Result Job WordFault) (r : Result Job WordFault) → IsAfterCommand m → Gives m r → (r ≡ m) ⊎ ((r ≡ Err fault.Memory) × (IsNoCommand m → ⊥))
reads m r after (inl is) = inl is
reads m r after (inr memory) = inr (memory, no_command m after)

pub tally_reads : (word : List ℕ) (words : List (List ℕ)) (r : Result Job WordFault) → word ≡ codes "tally" → Gives (tally_of words) r → Reads (word ∷ words) r
tally_reads word words r is gives =
    let rule = rule_of (name_of_text (text_in tally_app words (codes "rule"))) (value_in tally_app words (codes "seats")) in
    let file = text_in tally_app words (codes "file") in
    let after = of_tally rule file (of_rule (name_of_text (text_in tally_app words (codes "rule"))) (value_in tally_app words (codes "seats"))) in
    subst (λ w. Reads (w ∷ words) r) (sym is) (reads (tally_of words) r (if_taken (is_taken tally_app words) (tally_with rule file) after) gives)

pub margin_reads : (word : List ℕ) (words : List (List ℕ)) (r : Result Job WordFault) → word ≡ codes "margin" → Gives (margin_of words) r → Reads (word ∷ words) r
margin_reads word words r is gives =
    let rule = rule_of (name_of_text (text_in margin_app words (codes "rule"))) (value_in margin_app words (codes "seats")) in
    let file = text_in margin_app words (codes "file") in
    let budget = budget_of (value_in margin_app words (codes "budget")) in
    let after = of_margin rule file budget (of_rule (name_of_text (text_in margin_app words (codes "rule"))) (value_in margin_app words (codes "seats"))) in
    subst (λ w. Reads (w ∷ words) r) (sym is) (reads (margin_of words) r (if_taken (is_taken margin_app words) (margin_with rule file budget) after) gives)

pub check_reads : (word : List ℕ) (words : List (List ℕ)) (r : Result Job WordFault) → word ≡ codes "check" → Gives (check_of words) r → Reads (word ∷ words) r
check_reads word words r is gives =
    subst (λ w. Reads (w ∷ words) r) (sym is) (reads (check_of words) r (if_taken (is_taken check_app words) _ tt) gives)

pub show_reads : (word : List ℕ) (words : List (List ℕ)) (r : Result Job WordFault) → word ≡ codes "show" → Gives (show_of words) r → Reads (word ∷ words) r
show_reads word words r is gives =
    subst (λ w. Reads (w ∷ words) r) (sym is) (reads (show_of words) r (if_taken (is_taken show_app words) _ tt) gives)

pub drill_reads : (word : List ℕ) (words : List (List ℕ)) (r : Result Job WordFault) → word ≡ codes "drill" → Gives (drill_of words) r → Reads (word ∷ words) r
drill_reads word words r is gives =
    let after = of_drill (seed_named (text_in drill_app words (codes "seed"))) in
    subst (λ w. Reads (w ∷ words) r) (sym is) (reads (drill_of words) r (if_taken (is_taken drill_app words) _ after) gives)
