use Rattle.std.proofs.Common.{◌-◌, refl, sym, arith}
use Rattle.csv.specs.Records.{fields_of}
use Rattle.ballot_csv.proofs.HeadFacts.{at_none, one_less}
use Rattle.ballot_csv.proofs.head.filled_len.Goals as goal

pub loop-len-preserved : goal.loop-len-preserved
loop-len-preserved c = record {
  same = one_less (fields_of c.args.cells.now) c.loop-len.len (c.loop-len.len - 1) c.cell_at.result.now refl c.loop-len-test.true c.cell_at.ensures (sym c.if-not-is_empty.ensures) c.loop-len.invariant.same;
  within = omega (arith, c.loop-len.invariant.within);
}

pub returns-clause-filled : goal.returns-clause-filled
returns-clause-filled c = at_none (fields_of c.args.cells.now) c.loop-len.len c.loop-len-test.false c.loop-len.invariant.same
