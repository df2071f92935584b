-- Forms of a line: what its fields give, or what is wrong with it first.
use Rattle.std.specs.Prelude.{ℕ, ◌==◌, ◌&&◌, not, nat_le, if◌then◌else◌, List, [], ◌∷◌, ◌++◌, Bool, false, length, Option, Some, None, Result, Ok, Err}
use Rattle.std.specs.Str.{bytes_eq}
use Rattle.text_lines.specs.declared.fault.LineFault.{LineFault}
use Rattle.text_lines.specs.declared.fault.LineFault.TheVariants.{BadLine, BadNumber}
use Rattle.text_lines.specs.Numbers.{are_digits, number_of}
use Rattle.text_lines.specs.Faults.{both}

-- a number from low to high
abbrev pub if_within : ℕ → ℕ → Option ℕ → Result ℕ LineFault
if_within low high (Some n) = if nat_le low n && nat_le n high then Ok n else Err BadNumber
if_within low high None = Err BadNumber

-- the number from low to high that a field is
abbrev pub number_within : ℕ → ℕ → List ℕ → Result ℕ LineFault
number_within low high field = if are_digits field then if_within low high (number_of field) else Err BadLine

-- a value made from what was read
abbrev pub made : {A B : Type 0} → (A → B) → Result A LineFault → Result B LineFault
made f (Ok x) = Ok (f x)
made f (Err e) = Err e

-- a part, where no field is left
abbrev pub alone : {A : Type 0} → Result A LineFault → List (List ℕ) → Result A LineFault
alone x [] = x
alone x (field ∷ fields) = Err BadLine

-- whether the first field is this word, and what stands behind the first field
abbrev pub begins : List ℕ → List (List ℕ) → Bool
begins word [] = false
begins word (field ∷ fields) = bytes_eq field word

abbrev pub behind : List (List ℕ) → List (List ℕ)
behind [] = []
behind (field ∷ fields) = fields

-- what stands behind a word
abbrev pub behind_word : {A : Type 0} → List ℕ → (List (List ℕ) → Result A LineFault) → List (List ℕ)
    → Result A LineFault
behind_word word form fields = if begins word fields then form (behind fields) else Err BadLine

-- one number, or two each within its limits, and then no field
abbrev pub one_of : ℕ → ℕ → List (List ℕ) → Result ℕ LineFault
one_of low high [] = Err BadLine
one_of low high (field ∷ fields) = alone (number_within low high field) fields

abbrev pub two_of : ℕ × ℕ → ℕ × ℕ → List (List ℕ) → Result (ℕ × ℕ) LineFault
two_of limits others [] = Err BadLine
two_of limits others (field ∷ fields) = both (number_within limits.0 limits.1 field) (one_of others.0 others.1 fields)

-- any count of numbers
abbrev pub joined : Result (List ℕ) LineFault → Result (List ℕ) LineFault → Result (List ℕ) LineFault
joined front rest = made (λ x. x.0 ++ x.1) (both front rest)

abbrev pub single : Result ℕ LineFault → Result (List ℕ) LineFault
single number = made (λ n. n ∷ []) number

abbrev pub numbers_of : ℕ → ℕ → List (List ℕ) → Result (List ℕ) LineFault
numbers_of low high [] = Ok []
numbers_of low high (field ∷ fields) = joined (single (number_within low high field)) (numbers_of low high fields)

-- exactly so many numbers
abbrev pub count_of : ℕ → ℕ → ℕ → List (List ℕ) → Result (List ℕ) LineFault
count_of count low high fields = if not (length fields == count) then Err BadLine else numbers_of low high fields
