use Rattle.std.proofs.Common.{◌≡◌, ◌∙◌}
use Rattle.std.specs.Prelude.{decimal}
use Rattle.mov_run.proofs.Lines.{says_from}
use Rattle.mov_run.proofs.run_faults.say_limit.Goals as goal

pub returns : goal.returns
returns g c =
    let number : c.as_bytes-number.result.now ≡ decimal c.args.limit = c.as_bytes-number.ensures.value ∙ c.format.ensures.text in
    says_from _ _ c.write_three.result _ _ _ (rw number at c.write_three.ensures)
