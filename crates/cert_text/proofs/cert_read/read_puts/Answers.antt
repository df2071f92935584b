use Rattle.std.proofs.Common.{◌≡◌, ◌++◌, ◌∷◌, [], ◌+◌, arith}
use Rattle.std.proofs.lemmas.Result.{err_from_is_err_and}
use Rattle.text_lines.specs.Words.{fields_of}
use Rattle.cert_text.specs.Reading.{form_at, many_at}
use Rattle.cert_text.specs.HeadLines.{put_line}
use Rattle.cert_text.proofs.Growing.{goes_on, ends, is_done}
use Rattle.cert_text.proofs.cert_read.read_puts.Goals as goal

pub returns-in_err-put-clause-puts : goal.returns-in_err-put-clause-puts
returns-in_err-put-clause-puts c =
    let p = err_from_is_err_and c.from_residual.result c.from_residual.ensures.1 in
    rw (p.1, p.2) (ends (form_at (λ t. put_line (fields_of t))) c.in_err-put.field-0.0 c.loop.puts c.args.count c.loop.counter (c.loop.reader.number, c.loop.reader.rest.now)
    (many_at (form_at (λ t. put_line (fields_of t))) c.args.count (c.args.reader.now.number, c.args.reader.now.rest.now)) c.loop-test.true c.in_err-put.ensures.put c.loop.invariant.read)

pub loop-preserved : goal.loop-preserved
loop-preserved c =
    let e : c.push.new.self ≡ c.loop.puts ++ c.in_ok-put.put ∷ [] = c.in_ok-push.ensures.ok in
    let next : c.next_put.new.reader.number ≡ c.loop.reader.number + 1 = c.in_ok-put.ensures.number in
    record {
      read = rw e (goes_on (form_at (λ t. put_line (fields_of t))) c.loop.puts c.args.count c.loop.counter (c.loop.reader.number, c.loop.reader.rest.now) c.in_ok-put.put (c.next_put.new.reader.number, c.next_put.new.reader.rest.now)
          (many_at (form_at (λ t. put_line (fields_of t))) c.args.count (c.args.reader.now.number, c.args.reader.now.rest.now)) c.loop-test.true c.in_ok-put.ensures.put c.loop.invariant.read);
      number = omega (arith, next, c.loop.invariant.number);
    }

pub returns-clause-puts : goal.returns-clause-puts
returns-clause-puts c = is_done (form_at (λ t. put_line (fields_of t))) c.loop.puts c.args.count c.loop.counter (c.loop.reader.number, c.loop.reader.rest.now)
    (many_at (form_at (λ t. put_line (fields_of t))) c.args.count (c.args.reader.now.number, c.args.reader.now.rest.now)) c.loop-test.false c.loop.invariant.read
