-- Decimal numbers as texts write them.
use Rattle.std.specs.Prelude.{ℕ, ◌≤◌, ◌==◌, ◌&&◌, not, nat_lt, if◌then◌else◌, List, Bool, length, slice_index, Option, Some, None, ⊤}
use Rattle.std.specs.List.{list_all}
use Rattle.std.specs.Char.{is_ascii_digit}
use Rattle.std.specs.Str.Parse.{digits_value}
use Rattle.text_lines.specs.declared.numbers.Numeral.{Numeral}
use Rattle.text_lines.specs.declared.numbers.Numeral.TheVariants.{NotDigits, LeadingZero, Above, Number}

-- one or more digits and nothing else
abbrev pub are_digits : List ℕ → Bool
are_digits text = nat_lt 0 (length text) && list_all is_ascii_digit text

abbrev pub has_leading_zero : List ℕ → Bool
has_leading_zero text = nat_lt 1 (length text) && (slice_index text 0 == 48)

-- the number that digits without a leading zero write, however many there are
abbrev pub number_of : List ℕ → Option ℕ
number_of text = if are_digits text && not (has_leading_zero text) then Some (digits_value 10 text) else None

-- the number up to `high` that a text writes, or why it writes none
abbrev pub numeral_of : ℕ → List ℕ → Numeral
numeral_of high text =
    if not (are_digits text) then NotDigits
    else if has_leading_zero text then LeadingZero
    else if nat_lt high (digits_value 10 text) then Above
    else Number (digits_value 10 text)

-- the number, where there is one, is at most `high`
abbrev pub IsUpTo : ℕ → Numeral → Type 0
IsUpTo high (Number n) = n ≤ high
IsUpTo high numeral = ⊤
