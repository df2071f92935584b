-- Bounds that tell that products have room.
use Rattle.std.specs.Prelude.{ℕ, ℤ, pos, ◌<◌, ◌+◌, ◌*◌, List, length, slice_index_or, unsigned_abs}
use Rattle.exact_num.specs.declared.limits.TheConstants.{WIDE}

-- p times an entry of the row less q times the lead's has less than 64 bits
abbrev pub HasRoom : ℤ → List ℤ → ℤ → List ℤ → Type 0
HasRoom p row q lead = (i : ℕ) → i < length row
    → unsigned_abs p * unsigned_abs (slice_index_or row i (pos 0)) + unsigned_abs q * unsigned_abs (slice_index_or lead i (pos 0)) < WIDE
