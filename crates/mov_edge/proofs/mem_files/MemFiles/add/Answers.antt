use Rattle.std.proofs.Common.{refl}
use Rattle.std.proofs.lemmas.List.{map-append}
use Rattle.mov_edge.proofs.Spots.{within_append, place_append}
use Rattle.mov_edge.proofs.mem_files.MemFiles.add.Goals as goal

pub invariant_of-self-2 : goal.invariant_of-self-2
invariant_of-self-2 c = rw c.in_ok-push.ensures.items (simp map-append (within_append _ _ _ c.self.invariant.0, c.self.invariant.1))

pub returns-clause-ok : goal.returns-clause-ok
returns-clause-ok c = rw (c.in_ok-push.ensures.items, ← c.self.view_is) (simp map-append (rw (place_append _ _ _ c.self.invariant.0) (rw c.in_ok-name.ensures.ok refl)))
