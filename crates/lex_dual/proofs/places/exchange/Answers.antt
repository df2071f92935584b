use Rattle.std.proofs.Common.{arith, ap, sym, ◌∙◌, ◌≡◌, List, set, None, Some}
use Rattle.std.specs.Prelude.{ℕ, Option}
use Rattle.std.proofs.lemmas.List.{set_past}
use Rattle.row_program.specs.Forms.{basic_of}
use Rattle.lex_dual.proofs.Tables.{exchanged}
use Rattle.lex_dual.proofs.places.exchange.Goals as goal
use Rattle.lex_dual.proofs.places.exchange.Goals.{then-leaving-places, else-leaving-places}

pub returns-then-column-places : goal.returns-then-column-places
returns-then-column-places c =
    ap (λ (xs : List (Option ℕ)). set xs c.args.column (Some c.args.row)) left
    ∙ exchanged c.args.form.now c.args.row c.args.column c.args.places.now c.requires.form c.requires.row c.requires.nonbasic c.requires.places
  where
    at : (xs : List (Option ℕ)) → set xs c.basic-leaving.result None ≡ set xs (basic_of c.args.form.now c.args.row) None
    at xs = ap (λ (l : ℕ). set xs l None) c.basic-leaving.ensures

    left : c.if-leaving-places.places ≡ set c.args.places.now (basic_of c.args.form.now c.args.row) None
    left = elim c.if-leaving-places.branch [
      | then-leaving-places w ↦ w.places-is ∙ at c.args.places.now
      | else-leaving-places w ↦ w.places-is ∙ sym (set_past c.args.places.now c.basic-leaving.result None (omega arith)) ∙ at c.args.places.now
    ]

pub returns-else-column-places : goal.returns-else-column-places
returns-else-column-places c =
    sym (set_past c.if-leaving-places.places c.args.column (Some c.args.row) (omega arith))
    ∙ ap (λ (xs : List (Option ℕ)). set xs c.args.column (Some c.args.row)) left
    ∙ exchanged c.args.form.now c.args.row c.args.column c.args.places.now c.requires.form c.requires.row c.requires.nonbasic c.requires.places
  where
    at : (xs : List (Option ℕ)) → set xs c.basic-leaving.result None ≡ set xs (basic_of c.args.form.now c.args.row) None
    at xs = ap (λ (l : ℕ). set xs l None) c.basic-leaving.ensures

    left : c.if-leaving-places.places ≡ set c.args.places.now (basic_of c.args.form.now c.args.row) None
    left = elim c.if-leaving-places.branch [
      | then-leaving-places w ↦ w.places-is ∙ at c.args.places.now
      | else-leaving-places w ↦ w.places-is ∙ sym (set_past c.args.places.now c.basic-leaving.result None (omega arith)) ∙ at c.args.places.now
    ]
