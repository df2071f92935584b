use Rattle.std.proofs.Common.{◌≡◌, ◌∙◌}
use Rattle.mov_words.specs.Faults.{word_fault_text}
use Rattle.mov_run.proofs.Lines.{says_from}
use Rattle.mov_run.proofs.run_faults.say.Goals as goal

pub returns-in-Words : goal.returns-in-Words
returns-in-Words g c =
    let e : c.as_bytes.result.now ≡ word_fault_text c.in-Words.fault = c.as_bytes.ensures.value ∙ c.text.ensures in
    rw c.in-Words.is (says_from _ _ c.write_three.result _ _ _ (rw e at c.write_three.ensures))

pub returns-in-Ballots : goal.returns-in-Ballots
returns-in-Ballots g c = rw c.in-Ballots.is c.say_record.ensures

pub returns-in-Long : goal.returns-in-Long
returns-in-Long g c = rw c.in-Long.is c.say_limit.ensures

pub returns-in-Certificate : goal.returns-in-Certificate
returns-in-Certificate g c = rw c.in-Certificate.is c.say_cert_line.ensures

pub returns-in-LongCertificate : goal.returns-in-LongCertificate
returns-in-LongCertificate g c = rw c.in-LongCertificate.is c.say_limit-in-LongCertificate.ensures

pub returns-in-Read : goal.returns-in-Read
returns-in-Read g c =
    let e : c.as_bytes-in-Read.result.now ≡ c.in-Read.name = c.as_bytes-in-Read.ensures.value ∙ c.as_str.ensures in
    rw c.in-Read.is (says_from _ _ c.write_three-in-Read.result _ _ _ (rw e at c.write_three-in-Read.ensures))

pub returns-in-Memory : goal.returns-in-Memory
returns-in-Memory g c = rw c.in-Memory.is c.say_line.ensures
