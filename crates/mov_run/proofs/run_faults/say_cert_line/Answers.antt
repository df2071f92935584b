use Rattle.std.proofs.Common.{◌≡◌, ◌∙◌}
use Rattle.std.specs.Prelude.{decimal}
use Rattle.cert_text.specs.Faults.{cert_kind_text}
use Rattle.mov_run.proofs.Lines.{says_from}
use Rattle.mov_run.proofs.run_faults.say_cert_line.Goals as goal

pub returns : goal.returns
returns g c =
    let number : c.as_bytes-number.result.now ≡ decimal c.args.fault.now.line = c.as_bytes-number.ensures.value ∙ c.format.ensures.text in
    let words : c.as_bytes-words.result.now ≡ cert_kind_text c.args.fault.now.kind = c.as_bytes-words.ensures.value ∙ c.text.ensures in
    says_from _ _ c.write_five.result _ _ _ (rw (number, words) at c.write_five.ensures)
