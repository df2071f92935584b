-- Names of candidates.
use Rattle.std.specs.Prelude.{ℕ, ◌==◌, ◌&&◌, not, nat_lt, nat_le, Bool, List, length}
use Rattle.std.specs.List.{list_all}
use Rattle.std.specs.Str.{is_utf8}
use Rattle.ballot_form.specs.declared.limits.TheConstants.{LONGEST_NAME}

-- a byte that is no control byte
abbrev pub is_plain_byte : ℕ → Bool
is_plain_byte b = not (nat_lt b 32) && not (b == 127)

-- a name that a ballot file admits: 1 to 64 bytes of UTF-8 without control bytes
abbrev pub is_name : List ℕ → Bool
is_name name = nat_lt 0 (length name) && nat_le (length name) LONGEST_NAME && is_utf8 name && list_all is_plain_byte name
