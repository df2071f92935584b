-- A number that is read is the number that was written, and a number that was written is read again.
use Rattle.std.proofs.Common.{◌≡◌, ℕ, ◌<◌, ◌≤◌, ◌^◌, ◌&&◌, Bool, true, false, cond, not, leb, List, length, get_or, Option, Some, None, Result, Ok, Err, refl, sym, ap, ◌∙◌, arith, inl, inr}
use Rattle.std.specs.List.{list_all}
use Rattle.std.specs.Char.{is_ascii_digit}
use Rattle.std.specs.Str.Parse.{digits_value}
use Rattle.std.specs.Fmt.{decimal}
use Rattle.std.proofs.lemmas.Bool.{ltb-true, lt-ltb, leb-true, le-leb, cases_lt}
use Rattle.std.proofs.lemmas.Fmt.{decimal-digits_value, digits_decimal, digits_value-decimal, first_decimal, decimal_nonempty, decimal_digit}
use Rattle.text_lines.specs.declared.fault.LineFault.{LineFault}
use Rattle.text_lines.specs.Numbers.{are_digits, has_leading_zero, number_of}
use Rattle.text_lines.specs.Forms.{if_within, number_within}
use Rattle.text_lines.proofs.Digits.{own}

pub and_parts : (a b : Bool) → (a && b) ≡ true → (a ≡ true) × (b ≡ true)
and_parts true b e = (refl, e)
and_parts false b e = absurd cc

not_parts : (a : Bool) → not a ≡ true → a ≡ false
not_parts true e = absurd cc
not_parts false e = refl

-- a value where a test is passed
guard : {A : Type 0} (b : Bool) (x y : A) → cond b (Some x) None ≡ Some y → (b ≡ true) × (x ≡ y)
guard true x y e = (refl, cc)
guard false x y e = absurd cc

one_zero : (ds : List ℕ) → 0 < length ds → has_leading_zero ds ≡ false → get_or ds 0 0 ≡ 48 → length ds ≡ 1
one_zero ds some e z = elim (cases_lt 1 (length ds)) [
  | inl long ↦ absurd (let t : has_leading_zero ds ≡ true = rw (lt-ltb 1 (length ds) long, z) refl in cc)
  | inr short ↦ omega arith
]

-- a text that writes a number is how the number is written
pub number_of_spelled : (text : List ℕ) (n : ℕ) → n < 2 ^ 64 → number_of text ≡ Some n → text ≡ decimal n
number_of_spelled text n small e =
    let g = guard (are_digits text && not (has_leading_zero text)) (digits_value 10 text) n e in
    let tests = and_parts (are_digits text) (not (has_leading_zero text)) g.0 in
    let digits = and_parts _ (list_all is_ascii_digit text) tests.0 in
    let some : 0 < length text = ltb-true _ _ digits.0 in
    let is : digits_value 10 text ≡ n = g.1 in
    let back : decimal (digits_value 10 text) ≡ text = decimal-digits_value own text digits.1 some (one_zero text some (not_parts _ tests.1)) (omega arith) in
    sym back ∙ ap decimal is

no_zero : (ds : List ℕ) → 48 < get_or ds 0 0 → has_leading_zero ds ≡ false
no_zero ds h = grind arith

no_leading_zero : (n : ℕ) → n < 2 ^ 64 → has_leading_zero (decimal n) ≡ false
no_leading_zero n fits = elim (cases_lt 0 n) [
  | inl some ↦ no_zero (decimal n) (first_decimal n some fits)
  | inr none ↦ let e : n ≡ 0 = omega arith in rw (e, decimal_digit 0 (omega arith)) refl
]

pub digits_written : (n : ℕ) → n < 2 ^ 64 → are_digits (decimal n) ≡ true
digits_written n small = rw (lt-ltb _ _ (decimal_nonempty n small), digits_decimal own n small) refl

-- a number that was written is read again
pub number_of-decimal : (n : ℕ) → n < 2 ^ 64 → number_of (decimal n) ≡ Some n
number_of-decimal n small = rw (digits_written n small, no_leading_zero n small, digits_value-decimal own n small) refl

some_is : (m n : ℕ) → (let r : Result ℕ LineFault = Ok m in r ≡ Ok n) → (let o : Option ℕ = Some m in o ≡ Some n)
some_is m n e = cc

limited_at : (b : Bool) (m n : ℕ) (f : LineFault) → cond b (Ok m) (Err f) ≡ Ok n → (b ≡ true) × (m ≡ n)
limited_at true m n f e = (refl, cc)
limited_at false m n f e = absurd cc

limited : (low high : ℕ) (o : Option ℕ) (n : ℕ) → if_within low high o ≡ Ok n → (o ≡ Some n) × (low ≤ n) × (n ≤ high)
limited low high None n e = absurd cc
limited low high (Some m) n e =
    let at = limited_at (leb low m && leb m high) m n _ e in
    let tests = and_parts (leb low m) (leb m high) at.0 in
    let is : m ≡ n = at.1 in
    let up = leb-true _ _ tests.0 in
    let down = leb-true _ _ tests.1 in
    (ap (λ k. Some k) is, omega arith, omega arith)

are_digits_ok : (b : Bool) (r : Result ℕ LineFault) (f : LineFault) (n : ℕ) → cond b r (Err f) ≡ Ok n → r ≡ Ok n
are_digits_ok true r f n e = e
are_digits_ok false r f n e = absurd cc

-- a field that is a number within limits is how the number is written
pub number_takes : (low high : ℕ) (field : List ℕ) (n : ℕ) → high < 2 ^ 64 → number_within low high field ≡ Ok n → (field ≡ decimal n) × (low ≤ n) × (n ≤ high)
number_takes low high field n fits e =
    let at = limited low high (number_of field) n (are_digits_ok (are_digits field) (if_within low high (number_of field)) _ n e) in
    let below : n ≤ high = at.2 in
    (number_of_spelled field n (omega arith) at.0, at.1, below)

-- a number that was written is read again within the limits that it keeps
pub number_again : (low high n : ℕ) → high < 2 ^ 64 → low ≤ n → n ≤ high → number_within low high (decimal n) ≡ Ok n
number_again low high n fits above below =
    let small : n < 2 ^ 64 = omega arith in
    rw (number_of-decimal n small, digits_written n small, le-leb low n above, le-leb n high below) refl
