use Rattle.std.proofs.Common.{rules, arith, ◌+◌, ◌++◌, ◌≡◌, ◌≤◌, length, take, ◌∙◌, length-append, length-take}
use Rattle.mov_edge.proofs.Parts.{all_read, first_of_read, longer, read_more}
use Rattle.mov_edge.proofs.transfer.read_whole.Goals as goal

pub returns-then-count-eq0-clause-bytes : goal.returns-then-count-eq0-clause-bytes
returns-then-count-eq0-clause-bytes g c bytes t =
    let room : length c.read.new.buf ≡ c.asked-room.result = search rules in
    all_read bytes _ _ _ (c.loop-bytes.invariant.read bytes t) (search rules) (omega arith) (c.in_ok-count.ensures.bytes _ bytes c.loop-bytes.invariant.at (rw c.loop-bytes.invariant.told t))

pub returns-then-count-left-clause-too_long_told : goal.returns-then-count-left-clause-too_long_told
returns-then-count-left-clause-too_long_told g c e bytes t =
    let is : c.len.result ≡ length c.loop-bytes.bytes.items = search rules in
    longer bytes _ _ _ _ c.in_ok-count.ensures.bound c.loop-bytes.invariant.within (omega arith) (c.in_ok-count.ensures.bytes _ bytes c.loop-bytes.invariant.at (rw c.loop-bytes.invariant.told t))

pub loop-bytes-preserved : goal.loop-bytes-preserved
loop-bytes-preserved g c =
    let is : c.len.result ≡ length c.loop-bytes.bytes.items = search rules in
    let bound : c.in_ok-count.count ≤ length c.read.new.buf = c.in_ok-count.ensures.bound in
    let more : c.extend_from_slice.new.self.items ≡ c.loop-bytes.bytes.items ++ take c.in_ok-count.count c.read.new.buf =
    first_of_read _ _ _ _ _ bound c.in_ok-extend_from_slice.ensures.items in
    let len : length c.extend_from_slice.new.self.items ≡ length c.loop-bytes.bytes.items + c.in_ok-count.count = rw more (simp (length-append, length-take) (omega arith)) in
    record {
      within = omega arith;
      at = rw len (c.in_ok-count.ensures.on _ c.loop-bytes.invariant.at);
      told = c.read.ensures.told ∙ c.loop-bytes.invariant.told;
      begun = c.read.ensures.begun ∙ c.loop-bytes.invariant.begun;
      read = λ bytes t. read_more bytes _ _ _ _ bound (c.loop-bytes.invariant.read bytes t) (c.in_ok-count.ensures.bytes _ bytes c.loop-bytes.invariant.at (rw c.loop-bytes.invariant.told t)) more;
      kept = c.in_ok-count.ensures.cause.kept ∙ c.loop-bytes.invariant.kept;
    }
