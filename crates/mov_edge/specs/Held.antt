-- What files in memory hold, as what they tell.
use Rattle.std.specs.Prelude.{◌≡◌, ◌≤◌, ℕ, List, length, Option, Some, None, string_bytes, slice_get}
use Rattle.mov_edge.specs.Outside.{Named, Place, file_of}
use Rattle.mov_edge.specs.declared.mem_files.File.{File}
use Rattle.mov_edge.specs.declared.mem_files.Spot.{Spot}

-- a file by its name and its bytes
abbrev pub named : File → Named
named f = record { name = string_bytes f.name; bytes = f.bytes.items }

abbrev pub place_in : Option Named → ℕ → Option Place
place_in None given = None
place_in (Some f) given = Some (record { name = f.name; given = given })

-- the place that a spot stands for
abbrev pub place_of : List Named → Option Spot → Option Place
place_of files None = None
place_of files (Some o) = place_in (slice_get files o.file) o.given

-- a spot is within the bytes of a file that is found by its name
abbrev pub IsWithin : List Named → Option Spot → Type 0
IsWithin files None = Unit {0}
IsWithin files (Some o) =
    (f : Named) × (slice_get files o.file ≡ Some f) × (o.given ≤ length f.bytes) × (file_of f.name files ≡ Some f.bytes)
