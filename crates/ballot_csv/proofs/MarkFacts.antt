-- Byte order marks: what stands after all of them begins with none.
use Rattle.std.proofs.Common.{ℕ, List, [], ◌∷◌, ◌≡◌, refl, Bool, true, false, inl, inr, drop, nat_eq, ◌==◌, ◌≤◌, length, arith}
use Rattle.std.specs.Prelude.{◌&&◌}
use Rattle.std.specs.List.{starts_with}
use Rattle.std.proofs.lemmas.Bool.{cases_Bool, eqb-true}
use Rattle.csv.specs.Reading.{is_bom, strip_bom}
use Rattle.ballot_csv.specs.Marks.{mark, without_marks}

both : (x y : Bool) → (x && y) ≡ true → (x ≡ true) × (y ≡ true)
both true y h = (refl, h)
both false y h = cc h

bom_starts : (a b c : ℕ) (rest : List ℕ) → is_bom a b c ≡ true → starts_with nat_eq (a ∷ b ∷ c ∷ rest) mark ≡ true
bom_starts a b c rest h =
    let last = both ((a == 0xEF) && (b == 0xBB)) (c == 0xBF) h in
    let first = both (a == 0xEF) (b == 0xBB) last.0 in
    rw (eqb-true a 0xEF first.0, eqb-true b 0xBB first.1, eqb-true c 0xBF last.1) refl

-- `csv` finds no mark to drop
pub no_mark_left : (xs : List ℕ) → strip_bom (without_marks xs) ≡ without_marks xs
unfolding without_marks strip_bom
no_mark_left [] = refl
no_mark_left (a ∷ []) = refl
no_mark_left (a ∷ b ∷ []) = refl
no_mark_left (a ∷ b ∷ c ∷ rest) = elim (cases_Bool (starts_with nat_eq (a ∷ b ∷ c ∷ rest) mark)) [
  | inl marked ↦ rw marked (no_mark_left rest)
  | inr none ↦ elim (cases_Bool (is_bom a b c)) [
    | inl bom ↦ cc (none, bom_starts a b c rest bom)
    | inr other ↦ rw (none, other) refl
  ]
]

pub one_mark_less : (xs : List ℕ) → starts_with nat_eq xs mark ≡ true → without_marks (drop 3 xs) ≡ without_marks xs
unfolding without_marks
one_mark_less [] h = cc h
one_mark_less (a ∷ []) h = let p = both (nat_eq 0xEF a) false h in cc p.1
one_mark_less (a ∷ b ∷ []) h = let p = both (nat_eq 0xEF a) (nat_eq 0xBB b && false) h in let q = both (nat_eq 0xBB b) false p.1 in cc q.1
one_mark_less (a ∷ b ∷ c ∷ rest) h = rw h refl

pub no_mark : (xs : List ℕ) → starts_with nat_eq xs mark ≡ false → without_marks xs ≡ xs
unfolding without_marks
no_mark [] h = refl
no_mark (a ∷ []) h = refl
no_mark (a ∷ b ∷ []) h = refl
no_mark (a ∷ b ∷ c ∷ rest) h = rw h refl

pub no_longer : (xs : List ℕ) → length (without_marks xs) ≤ length xs
unfolding without_marks
no_longer [] = omega arith
no_longer (a ∷ []) = omega arith
no_longer (a ∷ b ∷ []) = omega arith
no_longer (a ∷ b ∷ c ∷ rest) = elim (cases_Bool (starts_with nat_eq (a ∷ b ∷ c ∷ rest) mark)) [
  | inl marked ↦ let less = no_longer rest in rw marked (omega (arith, less))
  | inr none ↦ rw none (omega arith)
]
