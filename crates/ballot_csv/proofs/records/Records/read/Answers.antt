use Rattle.csv.specs.Records.{fields_of}
use Rattle.ballot_csv.proofs.LeftFacts.{ok_before, read_gives, read_stays}
use Rattle.ballot_csv.proofs.records.Records.read.Goals as goal

pub invariant_of-self-2 : goal.invariant_of-self-2
invariant_of-self-2 c =
    let e = c.read_byte_record.ensures in
    let h = c.self.invariant c.if-self.false in
    let r = ok_before c.read_byte_record.result _ c.in_ok-found.found _ c.map_err.ensures.cases c.in_ok-found.was in
    read_stays _ _ (fields_of c.read_byte_record.new.row) _ h ((rw r at e.reads) h.trim h.ready) (rw r at e.flexible) (rw r at (e.ready h.trim))

pub returns-clause-found : goal.returns-clause-found
returns-clause-found c =
    let e = c.read_byte_record.ensures in
    let h = c.self.invariant c.if-self.false in
    let r = ok_before c.read_byte_record.result _ c.in_ok-found.found _ c.map_err.ensures.cases c.in_ok-found.was in
    let was = rw c.if-self.false at c.self.view_is in
    let gives = read_gives c.self.inside.reader c.read_byte_record.new.self (fields_of c.read_byte_record.new.row) c.in_ok-found.found h ((rw r at e.reads) h.trim h.ready) (rw r at e.flexible) (rw r at (e.ready h.trim)) in
    rw was at gives
