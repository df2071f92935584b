use Rattle.std.proofs.Common.{rules}
use Rattle.mov_edge.proofs.Spots.{found, passed}
use Rattle.mov_edge.proofs.mem_files.find.Goals as goal

pub returns-then-eq : goal.returns-then-eq
returns-then-eq c = found _ _ _ c.index-files-i.result c.loop-i-test.true c.index-files-i.is c.loop-i.invariant (search rules)

pub loop-i-preserved : goal.loop-i-preserved
loop-i-preserved c = passed _ _ _ c.index-files-i.result c.loop-i-test.true c.index-files-i.is c.loop-i.invariant (search rules)
