use Rattle.std.proofs.Common.{◌≡◌, ◌∙◌, arith, refl, get_or, []}
use Rattle.std.proofs.lemmas.List.{get_or_read_under}
use Rattle.mov_run.specs.Tally.{name_text}
use Rattle.mov_run.proofs.Ranges.{each_more}
use Rattle.mov_run.proofs.tally.push_names.Goals as goal

pub loop-x-preserved : goal.loop-x-preserved
loop-x-preserved c =
    let name : c.as_str.result.now ≡ get_or c.args.names.now c.loop-x.x [] = c.as_str.ensures ∙ get_or_read_under _ _ _ _ _ c.index-names-x.is c.loop-x-test.true refl in
    each_more (name_text c.args.names.now) _ _ _ 0 c.loop-x.x c.loop-x.x (omega arith) c.loop-x.invariant (rw name at c.in_ok-push_name.ensures)
