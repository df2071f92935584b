use Rattle.std.proofs.Common.{◌≡◌, map, drop}
use Rattle.mov_edge.specs.Outside.{file_of}
use Rattle.mov_edge.specs.Held.{named}
use Rattle.mov_edge.proofs.mem_files.find.Given as goal

abbrev pub invariant-loop-i : goal.invariant-loop-i
invariant-loop-i l = file_of l.name (map named l.files) ≡ file_of l.name (map named (drop l.i l.files))
