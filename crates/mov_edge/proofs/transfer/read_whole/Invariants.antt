use Rattle.std.proofs.Common.{◌≡◌, ◌≤◌, ◌++◌, ℕ, List, Some, length, ◌-◌, drop}
use Rattle.mov_edge.specs.Outside.{Tells, next_count}
use Rattle.mov_edge.proofs.transfer.read_whole.Given as goal

abbrev pub invariant-loop-bytes : goal.invariant-loop-bytes
invariant-loop-bytes g l = record {
  within : length l.bytes.items ≤ l.limit;
  at : g.F.Files.at l.files ≡ Some (record { name = l.name; given = length l.bytes.items });
  told : g.F.Files.told l.files ≡ g.F.Files.told l.fn.files;
  begun : g.F.Files.begun l.files ≡ next_count (g.F.Files.begun l.fn.files);
  read : (bytes : List ℕ) → Tells (g.F.Files.told l.fn.files) l.name bytes → bytes ≡ l.bytes.items ++ drop (length l.bytes.items) bytes;
  kept : g.F.Files.faults l.files ≡ g.F.Files.faults l.fn.files;
}

abbrev pub decreases-loop-bytes : goal.decreases-loop-bytes
decreases-loop-bytes g l = l.limit - length l.bytes.items
