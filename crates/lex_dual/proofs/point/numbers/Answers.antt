use Rattle.std.proofs.Common.{arith, ap, sym, ◌∙◌, ◌≡◌, ◌+◌, ◌-◌, ◌*◌, ◌/◌, ◌<◌, ◌^◌, ◌++◌, ◌∷◌, [], ℕ, List, length, map, false, Some, subst}
use Rattle.std.specs.List.{All, range_with_len}
use Rattle.std.proofs.lemmas.List.FromFn.{map-range_with_len_more}
use Rattle.std.proofs.lemmas.List.Elements.{All-push}
use Rattle.row_program.specs.Forms.{Table}
use Rattle.dual_theory.specs.Ends.{is_large, whole_number, lowest_num, lowest_den, common_den}
use Rattle.lex_dual.proofs.Points.{large, not_large, found_in_map, none_in_map, none_more}
use Rattle.lex_dual.proofs.point.numbers.Goals as goal

number : (t : Table) (n v x a b d : ℕ) → x ≡ a * (d / b) → a ≡ lowest_num t v → b ≡ lowest_den t v → d ≡ common_den t n → x ≡ whole_number t n v
number t n v x a b d e f g h = e ∙ ap (λ (y : ℕ). y * (d / b)) f ∙ ap (λ (y : ℕ). lowest_num t v * (d / y)) g ∙ ap (λ (y : ℕ). lowest_num t v * (y / lowest_den t v)) h

pub returns-then-number-clause-value : goal.returns-then-number-clause-value
returns-then-number-clause-value c =
    let t = c.args.form.now in
    let n : ℕ = length c.args.places.now - 1 in
    let v = c.loop-variable.variable in
    let is : c.scaled-number.result ≡ whole_number t n v = number t n v c.scaled-number.result c.lowest_at.result.num c.lowest_at.result.den c.args.den c.scaled-number.ensures c.lowest_at.ensures.num c.lowest_at.ensures.den c.requires.den in
    found_in_map is_large (whole_number t n) 0 n v (omega arith) (omega arith) (large (whole_number t n v) (omega (arith, is))) (λ u h l. c.loop-variable.invariant.none u h (omega (arith, l)))
    ∙ sym (ap (λ (x : ℕ). Some x) is)

pub loop-variable-preserved : goal.loop-variable-preserved
loop-variable-preserved c =
    let t = c.args.form.now in
    let n : ℕ = length c.args.places.now - 1 in
    let v = c.loop-variable.variable in
    let f : ℕ → ℕ = whole_number t n in
    let is : c.scaled-number.result ≡ whole_number t n v = number t n v c.scaled-number.result c.lowest_at.result.num c.lowest_at.result.den c.args.den c.scaled-number.ensures c.lowest_at.ensures.num c.lowest_at.ensures.den c.requires.den in
    let more : map f (range_with_len 0 v) ++ f v ∷ [] ≡ map f (range_with_len 0 (v + 1)) = sym (map-range_with_len_more f 0 v v (omega arith)) in
    record {
      value = c.in_ok-push.ensures.ok ∙ ap (λ (xs : List ℕ). xs ++ c.scaled-number.result ∷ []) c.loop-variable.invariant.value ∙ ap (λ (x : ℕ). map f (range_with_len 0 v) ++ x ∷ []) is ∙ more;
      none = none_more (λ (u : ℕ). is_large (whole_number t n u) ≡ false) 0 v v (omega arith) (λ u h l. c.loop-variable.invariant.none u h (omega (arith, l))) (not_large (whole_number t n v) (omega (arith, is)));
      small = subst (λ (xs : List ℕ). All (λ x. x < 2 ^ 63) xs) (sym c.in_ok-push.ensures.ok) (All-push (λ (x : ℕ). x < 2 ^ 63) c.loop-variable.whole c.scaled-number.result c.loop-variable.invariant.small (omega arith));
    }

pub returns-clause-none : goal.returns-clause-none
returns-clause-none c = none_in_map is_large (whole_number c.args.form.now (length c.args.places.now - 1)) 0 (length c.args.places.now - 1) (λ u h l. c.loop-variable.invariant.none u h (omega arith))
