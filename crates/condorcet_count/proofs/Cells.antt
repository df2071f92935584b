-- Places in a square table.
use Rattle.std.proofs.Common.{ℕ, List, ◌≡◌, ◌≢◌, ◌<◌, ◌≤◌, ◌+◌, ◌*◌, ◌-◌, ◌∙◌, true, false, cond, length, set, get_or-set_same, get_or-set_other, sym, ap, refl, inl, inr, arith}
use Rattle.std.specs.Prelude.{◌==◌, ◌&&◌, ◌/◌, ◌%◌}
use Rattle.std.proofs.lemmas.Bool.{cases_eq}
use Rattle.std.proofs.lemmas.Bool.Decides.{nat_tests}
use Rattle.std.proofs.lemmas.Nat.{div-mul-add, mod-mul-add, mul-add-lt}
use Rattle.condorcet_count.specs.Preferences.{count_at}

-- two places of the table are one only where row and column are
pub same_cell : (c a b x y : ℕ) → b < c → y < c → a * c + b ≡ x * c + y → (a ≡ x) × (b ≡ y)
same_cell c a b x y bc yc e = (
  sym (div-mul-add a c b bc) ∙ ap (λ n. n / c) e ∙ div-mul-add x c y yc,
  sym (mod-mul-add a c b bc) ∙ ap (λ n. n % c) e ∙ mod-mul-add x c y yc,
)

-- a place that is written, and each other one
pub cell_same : (c : ℕ) (counts : List ℕ) (x y v : ℕ) → x < c → y < c → length counts ≡ c * c → count_at c (set counts (x * c + y) v) x y ≡ v
cell_same c counts x y v xc yc square = get_or-set_same counts (x * c + y) v 0 (omega (arith, mul-add-lt x c y c xc yc))

pub cell_other : (c : ℕ) (counts : List ℕ) (x y v a b : ℕ) → y < c → b < c → ((a ≡ x) × (b ≡ y) → ⊥) → count_at c (set counts (x * c + y) v) a b ≡ count_at c counts a b
cell_other c counts x y v a b yc bc other =
    let ne : a * c + b ≢ x * c + y = λ e. other (same_cell c a b x y bc yc e) in
    rw get_or-set_other refl

-- so many more at a place
pub more_at : (c : ℕ) (counts : List ℕ) (x y a b n : ℕ) → x < c → y < c → a < c → b < c → length counts ≡ c * c
    → count_at c (set counts (x * c + y) (count_at c counts x y + n)) a b ≡ count_at c counts a b + cond ((x == a) && (y == b)) n 0
more_at c counts x y a b n xc yc ac bc square = elim (cases_eq x a) [
  | inl ex ↦ elim (cases_eq y b) [
    | inl ey ↦
        let t : ((x == a) && (y == b)) ≡ true = grind (arith, nat_tests) in
        rw (t, ← ex, ← ey) (cell_same c counts x y _ xc yc square)
    | inr ny ↦
        let t : ((x == a) && (y == b)) ≡ false = grind (arith, nat_tests) in
        rw t (cell_other c counts x y _ a b yc bc (λ e. ny (sym e.1)) ∙ omega arith)
  ]
  | inr nx ↦
      let t : ((x == a) && (y == b)) ≡ false = grind (arith, nat_tests) in
      rw t (cell_other c counts x y _ a b yc bc (λ e. nx (sym e.0)) ∙ omega arith)
]

-- the counts of x are what is left of those that rank it, up to y
pub record AreSetUpTo (c : ℕ) (x ranked y : ℕ) (old new : List ℕ) : Type 0 where
  pub prefs : (b : ℕ) → b < c → b < y → count_at c new x b ≡ ranked - count_at c old x b
  pub rest : (b : ℕ) → b < c → y ≤ b → count_at c new x b ≡ count_at c old x b
  pub others : (a b : ℕ) → a < c → b < c → a ≢ x → count_at c new a b ≡ count_at c old a b

pub set_more : (c x ranked y : ℕ) (old new : List ℕ) → x < c → y < c → length new ≡ c * c → AreSetUpTo c x ranked y old new
    → AreSetUpTo c x ranked (y + 1) old (set new (x * c + y) (ranked - count_at c new x y))
set_more c x ranked y old new xc yc square so = record {
  prefs = λ b bc lt. elim (cases_eq b y) [
    | inl e ↦ rw e (cell_same c new x y _ xc yc square ∙ ap (λ n. ranked - n) (so.rest y yc (omega arith)))
    | inr ne ↦ cell_other c new x y _ x b yc bc (λ both. ne both.1) ∙ so.prefs b bc (omega arith)
  ];
  rest = λ b bc le. cell_other c new x y _ x b yc bc (λ both. absurd (omega (arith, both.1))) ∙ so.rest b bc (omega arith);
  others = λ a b ac bc ne. cell_other c new x y _ a b yc bc (λ both. ne both.0) ∙ so.others a b ac bc ne;
}
