-- Numbers in words: `0`, or digits without a leading zero, each within its limits.
use Rattle.std.specs.Prelude.{ℕ, nat_le, if◌then◌else◌, List, Option, Some, None}
use Rattle.ballot_form.specs.declared.limits.TheConstants.{MOST_SEATS}
use Rattle.cert_text.specs.declared.limits.TheConstants.{MOST_BUDGET}
use Rattle.text_lines.specs.Numbers.{numeral_of}
use Rattle.text_lines.specs.declared.numbers.Numeral.{Numeral}
use Rattle.text_lines.specs.declared.numbers.Numeral.TheVariants.{Number}
use Rattle.mov_words.specs.declared.limits.TheConstants.{DEFAULT_BUDGET, GREATEST_SEED}

-- a number from 0 up, and one from 1 up
abbrev pub number_of : Numeral → Option ℕ
number_of (Number n) = Some n
number_of numeral = None

abbrev pub positive_of : Numeral → Option ℕ
positive_of (Number n) = if nat_le 1 n then Some n else None
positive_of numeral = None

-- the number of seats that a text names: 1 to 500
abbrev pub seats_named : List ℕ → Option ℕ
seats_named text = positive_of (numeral_of MOST_SEATS text)

-- the budget that a text names: 1 to 40,000
abbrev pub budget_named : List ℕ → Option ℕ
budget_named text = positive_of (numeral_of MOST_BUDGET text)

-- the budget that is named, or the one that stands where none is
abbrev pub budget_of : Option (List ℕ) → Option ℕ
budget_of (Some text) = budget_named text
budget_of None = Some DEFAULT_BUDGET

-- the seed that a text names: 0 to 2^64 - 1
abbrev pub seed_named : List ℕ → Option ℕ
seed_named text = number_of (numeral_of GREATEST_SEED text)
