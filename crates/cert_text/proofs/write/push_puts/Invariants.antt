use Rattle.std.proofs.Common.{◌≡◌, ◌++◌, take}
use Rattle.cert_text.specs.CertText.{puts_text}
use Rattle.cert_text.proofs.write.push_puts.Given as goal

abbrev pub invariant-loop-put : goal.invariant-loop-put
invariant-loop-put l = l.out.items ≡ l.initial.out.items ++ puts_text (take l.put-index l.puts)
