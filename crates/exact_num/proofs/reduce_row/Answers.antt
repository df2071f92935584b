use Rattle.std.proofs.Common.{arith, ℕ, ◌<◌, ◌≡◌, ◌^◌, length, set, take, get_or, ◌+◌, rules, sym, ◌∙◌, subst, ap, List, map}
use Rattle.std.proofs.lemmas.Int.{to_z-of_z}
use Rattle.std.proofs.lemmas.List.{take_all}
use Rattle.std.proofs.lemmas.List.Sums.{fold_more}
use Rattle.std.proofs.lemmas.List.Elements.{All-get_or}
use Rattle.std.specs.Prelude.{ℤ, pos, ◌*ℤ◌, unsigned_abs}
use Rattle.std.specs.Int.RustNames.{int_div, FitsSigned}
use Rattle.std.specs.List.{fold}
use mir.Syntax.{w128}
use Rattle.exact_num.specs.Divisors.{row_gcd, gcd_with, IsPrimitive}
use Rattle.exact_num.proofs.Maps.{map_front, map_front_more, map_front_all, get_or-map_front, length-map_front}
use Rattle.exact_num.proofs.Divisors.{primitive_zero, primitive_one, one_stays, primitive_times, primitive_lowest}
use Rattle.exact_num.proofs.reduce_row.Goals as goal

pub part_of-requires-clause-small : goal.part_of-requires-clause-small
part_of-requires-clause-small c =
    let i = c.divided.x-index in
    let f : ℤ → ℤ = λ x. int_div x (pos c.measured.divisor) in
    let e : get_or c.divided.row i (pos 0) ≡ get_or c.args.row.now i (pos 0) = ap (λ (r : List ℤ). get_or r i (pos 0)) c.divided.invariant ∙ get_or-map_front f i c.args.row.now (pos 0) in
    let n : length c.divided.row ≡ length c.args.row.now = ap length c.divided.invariant ∙ length-map_front f i c.args.row.now in
    let s : unsigned_abs (get_or c.args.row.now i (pos 0)) < 2 ^ 127 = All-get_or (λ (x : ℤ). unsigned_abs x < 2 ^ 127) c.args.row.now i (pos 0) (omega arith) c.requires in
    let fits : FitsSigned w128 (get_or c.divided.row i (pos 0)) = search rules in
    simp to_z-of_z (rw e s)

pub divided-preserved : goal.divided-preserved
divided-preserved c =
    let i = c.divided.x-index in
    let f : ℤ → ℤ = λ x. int_div x (pos c.measured.divisor) in
    let e : get_or c.divided.row i (pos 0) ≡ get_or c.args.row.now i (pos 0) = ap (λ (r : List ℤ). get_or r i (pos 0)) c.divided.invariant ∙ get_or-map_front f i c.args.row.now (pos 0) in
    let n : length c.divided.row ≡ length c.args.row.now = ap length c.divided.invariant ∙ length-map_front f i c.args.row.now in
    let fits : FitsSigned w128 (get_or c.divided.row i (pos 0)) = search rules in
    let rf : FitsSigned w128 c.part_of.result = search rules in
    let value : c.part_of.result ≡ f (get_or c.divided.row i (pos 0)) = simp to_z-of_z at c.part_of.ensures in
    let more = map_front_more f i c.args.row.now (pos 0) (omega arith) in
    simp to_z-of_z (ap (λ (r : List ℤ). set r i c.part_of.result) c.divided.invariant ∙ ap (set (map_front f i c.args.row.now) i) (value ∙ ap f e) ∙ more)

pub returns-after-divided-clause-value : goal.returns-after-divided-clause-value
returns-after-divided-clause-value c =
    let whole : c.measured.divisor ≡ row_gcd c.args.row.now = c.measured.invariant ∙ ap (fold gcd_with 0) (take_all c.measured.x-index c.args.row.now (omega arith)) in
    let f : ℤ → ℤ = λ x. int_div x (pos c.measured.divisor) in
    let n : length c.divided.row ≡ length c.args.row.now = ap length c.divided.invariant ∙ length-map_front f c.divided.x-index c.args.row.now in
    c.divided.invariant ∙ map_front_all f c.divided.x-index c.args.row.now (omega arith) ∙ ap (λ (g : ℕ). map (λ (x : ℤ). int_div x (pos g)) c.args.row.now) whole

pub returns-after-divided-clause-multiple : goal.returns-after-divided-clause-multiple
returns-after-divided-clause-multiple c =
    ap (map (λ (x : ℤ). x *ℤ pos (row_gcd c.args.row.now))) (returns-after-divided-clause-value c) ∙ primitive_times c.args.row.now

pub returns-after-divided-clause-lowest : goal.returns-after-divided-clause-lowest
returns-after-divided-clause-lowest c = λ h. subst IsPrimitive (sym (returns-after-divided-clause-value c)) (primitive_lowest c.args.row.now h)

pub returns-else-divisor-gt0-clause-value : goal.returns-else-divisor-gt0-clause-value
returns-else-divisor-gt0-clause-value c =
    let whole : c.measured.divisor ≡ row_gcd c.args.row.now = c.measured.invariant ∙ ap (fold gcd_with 0) (take_all c.measured.x-index c.args.row.now (omega arith)) in
    primitive_zero c.args.row.now (omega (arith, whole, c.if-divisor-gt0.false))

pub returns-else-divisor-gt0-clause-multiple : goal.returns-else-divisor-gt0-clause-multiple
returns-else-divisor-gt0-clause-multiple c =
    ap (map (λ (x : ℤ). x *ℤ pos (row_gcd c.args.row.now))) (returns-else-divisor-gt0-clause-value c) ∙ primitive_times c.args.row.now

pub returns-else-divisor-gt0-clause-lowest : goal.returns-else-divisor-gt0-clause-lowest
returns-else-divisor-gt0-clause-lowest c = λ h. subst IsPrimitive (sym (returns-else-divisor-gt0-clause-value c)) (primitive_lowest c.args.row.now h)

pub returns-then-divisor-eq1-clause-value : goal.returns-then-divisor-eq1-clause-value
returns-then-divisor-eq1-clause-value c =
    let i = c.measured.x-index in
    let row = c.args.row.now in
    let x : ℤ = get_or row i (pos 0) in
    let fits : FitsSigned w128 x = search rules in
    let more = fold_more gcd_with 0 row i (pos 0) (omega arith) in
    let value : c.with_entry-divisor.result ≡ gcd_with c.measured.divisor x = simp to_z-of_z at c.with_entry-divisor.ensures in
    let front : fold gcd_with 0 (take (i + 1) row) ≡ c.with_entry-divisor.result = more ∙ ap (λ (g : ℕ). gcd_with g x) (sym c.measured.invariant) ∙ sym value in
    primitive_one row (one_stays row (i + 1) (front ∙ c.if-divisor-eq1.true))

pub returns-then-divisor-eq1-clause-multiple : goal.returns-then-divisor-eq1-clause-multiple
returns-then-divisor-eq1-clause-multiple c =
    ap (map (λ (x : ℤ). x *ℤ pos (row_gcd c.args.row.now))) (returns-then-divisor-eq1-clause-value c) ∙ primitive_times c.args.row.now

pub returns-then-divisor-eq1-clause-lowest : goal.returns-then-divisor-eq1-clause-lowest
returns-then-divisor-eq1-clause-lowest c = λ h. subst IsPrimitive (sym (returns-then-divisor-eq1-clause-value c)) (primitive_lowest c.args.row.now h)
