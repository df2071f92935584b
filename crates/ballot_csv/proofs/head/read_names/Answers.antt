use Rattle.std.proofs.Common.{◌∙◌, ◌∷◌, ◌++◌, [], ap, sym, arith, length-append, take, drop, ◌+◌}
use Rattle.std.proofs.lemmas.Result.{err_from_is_err_and}
use Rattle.csv.specs.Records.{fields_of}
use Rattle.ballot_csv.specs.HeadRecord.{names_fault, or_later}
use Rattle.ballot_csv.proofs.CellFacts.{rest_more}
use Rattle.ballot_csv.proofs.FaultFacts.{or_memory}
use Rattle.ballot_csv.proofs.HeadFacts.{next_name}
use Rattle.ballot_csv.proofs.head.read_names.Goals as goal

pub loop-i-preserved : goal.loop-i-preserved
loop-i-preserved c =
    let cells = fields_of c.args.head.now in
    let cell = c.cell_at.result.now in
    let inv = c.loop-i.invariant in
    let added = c.in_ok-add_name.ensures.names in
    let size = length-append c.loop-i.names (cell ∷ []) in
    let later = names_fault (c.loop-i.names ++ cell ∷ []) (drop (c.loop-i.i + 1) (take c.args.len cells)) in
    record {
      names = rw (rest_more cells c.loop-i.i cell c.loop-i.auto.i c.cell_at.ensures, ← inv.names) added;
      index = c.in_ok-add_name.ensures.index ∙ sym added;
      count = rw added (omega (arith, size, inv.count));
      rest = rw added (sym (next_name c.loop-i.names cells c.args.len c.loop-i.i cell c.loop-i-test.true c.cell_at.ensures ∙ ap (λ o. or_later o later) c.in_ok-add_name.ensures.good) ∙ inv.rest);
    }

pub returns-in_err-add_name-clause-err : goal.returns-in_err-add_name-clause-err
returns-in_err-add_name-clause-err c =
    let cells = fields_of c.args.head.now in
    let cell = c.cell_at.result.now in
    let later = names_fault (c.loop-i.names ++ cell ∷ []) (drop (c.loop-i.i + 1) (take c.args.len cells)) in
    let p = err_from_is_err_and c.from_residual.result c.from_residual.ensures.1 in
    rw (p.1, p.2) (or_memory c.in_err-add_name.field-0.0 (λ e. sym c.loop-i.invariant.rest ∙ next_name c.loop-i.names cells c.args.len c.loop-i.i cell c.loop-i-test.true c.cell_at.ensures ∙ ap (λ o. or_later o later) e) c.in_err-add_name.ensures.err)
