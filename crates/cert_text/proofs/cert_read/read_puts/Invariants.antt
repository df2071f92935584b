use Rattle.std.proofs.Common.{◌≡◌, ◌+◌, ◌-◌}
use Rattle.text_lines.specs.Words.{fields_of}
use Rattle.cert_text.specs.Reading.{form_at, many_at}
use Rattle.cert_text.specs.HeadLines.{put_line}
use Rattle.cert_text.proofs.Growing.{with_front}
use Rattle.cert_text.proofs.cert_read.read_puts.Given as goal

abbrev pub invariant-loop : goal.invariant-loop
invariant-loop l = record {
  read : with_front l.puts (many_at (form_at (λ t. put_line (fields_of t))) (l.count - l.counter) (l.reader.number, l.reader.rest.now)) ≡ many_at (form_at (λ t. put_line (fields_of t))) l.count (l.initial.reader.number, l.initial.reader.rest.now);
  number : l.reader.number ≡ l.initial.reader.number + l.counter;
}
