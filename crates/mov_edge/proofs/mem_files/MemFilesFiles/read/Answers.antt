use Rattle.std.proofs.Common.{rules, ◌≡◌, map, ap, subst, sym, ◌∙◌, Some}
use Rattle.mov_edge.specs.Held.{IsWithin, place_of, named}
use Rattle.mov_edge.specs.Devices.{FilesState}
use Rattle.mov_edge.specs.Outside.{file_of}
use Rattle.mov_edge.proofs.Spots.{read_gives}
use Rattle.mov_edge.proofs.mem_files.MemFilesFiles.read.Goals as goal

pub returns-clause-bytes : goal.returns-clause-bytes
returns-clause-bytes c p bytes at tells =
    read_gives c.self.inside.files.items c.in-Some.spot p bytes c.args.buf.now _ _ c.self.inside.step c.index-file.result.now
    (subst (λ o. IsWithin (map named c.self.inside.files.items) o) c.in-Some.is c.self.invariant.0)
    c.index-file.ensures
    (subst (λ o. place_of (map named c.self.inside.files.items) o ≡ Some p) c.in-Some.is (ap (λ (v : FilesState). v.at) c.self.view_is ∙ at))
    (subst (λ (v : FilesState). file_of p.name v.told ≡ Some bytes) (sym c.self.view_is) tells)
    (search rules) c.self.invariant.1 (search rules)
