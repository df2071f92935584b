-- Choices by a word, and values that are made of what was read.
use Rattle.std.proofs.Common.{◌≡◌, ℕ, ◌≤◌, ◌<◌, ◌^◌, Bool, true, false, cond, List, [], ◌∷◌, map, Result, Ok, Err, refl, arith, ◌⊎◌, inl, inr}
use Rattle.std.specs.Prelude.{All, decimal}
use Rattle.std.specs.Str.{bytes_eq}
use Rattle.std.specs.List.{AllByRecursion}
use Rattle.std.proofs.lemmas.List.Elements.{All-nil, All-cons, All-head, All-tail}
use Rattle.std.proofs.lemmas.Slice.Eq.{bytes_eq-Decides}
use Rattle.text_lines.specs.declared.fault.LineFault.{LineFault}
use Rattle.text_lines.specs.declared.fault.LineFault.TheVariants.{BadLine}
use Rattle.text_lines.specs.Forms.{made, alone, behind_word}
use Rattle.text_lines.proofs.Many.{IsWithin, same_fields}
use Rattle.text_lines.proofs.Joining.{ArePlain, number_plain}

-- a test that did not fail
pub guard_ok : {A : Type 0} (b : Bool) (d : LineFault) (r : Result A LineFault) (y : A) → cond b (Err d) r ≡ Ok y → (b ≡ false) × (r ≡ Ok y)
guard_ok true d r y e = absurd cc
guard_ok false d r y e = (refl, e)

pub made_ok : {A B : Type 0} (f : A → B) (r : Result A LineFault) (y : B) → made f r ≡ Ok y → (x : A) × (r ≡ Ok x) × (f x ≡ y)
made_ok f (Ok x) y e = (x, refl, cc)
made_ok f (Err e) y h = absurd cc

-- a choice by a word
pub chosen : {A : Type 0} (b : Bool) (r s : A) (y : A) → cond b r s ≡ y → ((b ≡ true) × (r ≡ y)) ⊎ ((b ≡ false) × (s ≡ y))
chosen true r s y e = inl (refl, e)
chosen false r s y e = inr (refl, e)

pub word_is : (w v : List ℕ) → bytes_eq w v ≡ true → w ≡ v
word_is w v e = (bytes_eq-Decides w v).0 e

-- what stands behind a word
pub after_ok : {A : Type 0} (word : List ℕ) (form : List (List ℕ) → Result A LineFault) (fields : List (List ℕ)) (y : A) → behind_word word form fields ≡ Ok y
    → (rest : List (List ℕ)) × (fields ≡ word ∷ rest) × (form rest ≡ Ok y)
after_ok word form [] y e = absurd cc
after_ok word form (w ∷ rest) y e = elim (chosen (bytes_eq w word) (form rest) (Err BadLine) (Ok y) e) [
  | inl a ↦ (rest, same_fields w word rest rest (word_is w word a.0) refl, a.1)
  | inr a ↦ absurd (let no = a.1 in cc)
]

pub alone_ok : {A : Type 0} (x : Result A LineFault) (fields : List (List ℕ)) (y : A) → alone x fields ≡ Ok y → (fields ≡ []) × (x ≡ Ok y)
alone_ok x [] y e = (refl, e)
alone_ok x (f ∷ fs) y e = absurd cc

pub is_ok : {A : Type 0} (x y : A) → (let r : Result A LineFault = Ok x in r ≡ Ok y) → x ≡ y
is_ok x y e = cc

-- numbers up to a limit
pub small_take : (high : ℕ) (ns : List ℕ) → AllByRecursion (IsWithin 0 high) ns → All (λ n. n ≤ high) ns
small_take high [] h = All-nil (λ x. x ≤ high)
small_take high (n ∷ ns) h = All-cons (λ x. x ≤ high) n ns h.0.1 (small_take high ns h.1)

pub small_within : (high : ℕ) (ns : List ℕ) → All (λ n. n ≤ high) ns → AllByRecursion (IsWithin 0 high) ns
small_within high [] h = tt
small_within high (n ∷ ns) h = ((omega arith, All-head (λ x. x ≤ high) n ns h), small_within high ns (All-tail (λ x. x ≤ high) n ns h))

pub small_plain : (high : ℕ) (ns : List ℕ) → high < 2 ^ 64 → All (λ n. n ≤ high) ns → ArePlain (map decimal ns)
small_plain high [] small h = tt
small_plain high (n ∷ ns) small h = (number_plain n (omega (arith, All-head (λ x. x ≤ high) n ns h)), small_plain high ns small (All-tail (λ x. x ≤ high) n ns h))
