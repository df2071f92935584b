use Rattle.std.proofs.Common.{◌∙◌, get_or, refl}
use Rattle.ballot_csv.proofs.FormFacts.{names_more}
use Rattle.ballot_csv.proofs.print.run_record.Goals as goal

pub loop-x-preserved : goal.loop-x-preserved
loop-x-preserved c = record {
  fields = names_more c.args.names.now c.args.ballot.now c.loop-x.x-index (get_or c.args.ballot.now c.loop-x.x-index 0) _ _ c.index-names-x.result c.as_bytes.result.now _ _
      c.loop-x-test.true refl (c.requires c.loop-x.x-index 0 c.loop-x-test.true) c.index-names-x.is (c.as_bytes.ensures.value ∙ c.as_str.ensures)
      c.loop-x.invariant.fields c.loop-x.invariant.partial c.in_ok-push_field.ensures.fields;
  partial = c.in_ok-push_field.ensures.partial;
}
