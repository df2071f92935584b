use Rattle.std.proofs.Common.{◌≡◌, ◌≢◌, ◌∙◌, All, List, ℕ, ap, length, subst, sym, true}
use Rattle.std.specs.List.{AllPairs}
use Rattle.ballot_form.specs.Ballots.{Poll}
use Rattle.ballot_form.specs.Names.{is_name}
use Rattle.ballot_make.proofs.MadeNames.{length_names, names_admitted, names_distinct}
use Rattle.ballot_make.proofs.contests.make.Goals as goal

pub invariant_of-result-clause-one_each : goal.invariant_of-result-clause-one_each
invariant_of-result-clause-one_each c =
    ap (λ (names : List (List ℕ)). length names) c.in_ok-names.ensures ∙ length_names c.args.c
    ∙ sym (ap (λ (roll : Poll). roll.c) c.in_ok-roll.ensures)

pub invariant_of-result-clause-distinct : goal.invariant_of-result-clause-distinct
invariant_of-result-clause-distinct c =
    subst (AllPairs (λ x y. x ≢ y)) (sym c.in_ok-names.ensures) (names_distinct c.args.c c.requires.most)

pub invariant_of-result-clause-admitted : goal.invariant_of-result-clause-admitted
invariant_of-result-clause-admitted c =
    subst (All (λ name. is_name name ≡ true)) (sym c.in_ok-names.ensures) (names_admitted c.args.c c.requires.most)
