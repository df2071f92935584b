use Rattle.std.proofs.Common.{arith, ℕ, ◌≡◌, ap, ◌∙◌, ◌/◌, length, get_or, set, List}
use Rattle.exact_num.proofs.Maps.{map_front, map_front_more, map_front_all, get_or-map_front, length-map_front}
use Rattle.lex_dual.proofs.multipliers.divide.Goals as goal

pub loop-x-preserved : goal.loop-x-preserved
loop-x-preserved c =
    let i = c.loop-x.x-index in
    let f : ℕ → ℕ = λ x. x / c.args.divisor in
    let old = c.args.numbers.now in
    let e : get_or c.loop-x.numbers i 0 ≡ get_or old i 0 = ap (λ (r : List ℕ). get_or r i 0) c.loop-x.invariant ∙ get_or-map_front f i old 0 in
    let n : length c.loop-x.numbers ≡ length old = ap length c.loop-x.invariant ∙ length-map_front f i old in
    ap (λ (r : List ℕ). set r i (f (get_or c.loop-x.numbers i 0))) c.loop-x.invariant ∙ ap (λ (x : ℕ). set (map_front f i old) i (f x)) e ∙ map_front_more f i old 0 (omega arith)

pub returns : goal.returns
returns c =
    let f : ℕ → ℕ = λ x. x / c.args.divisor in
    let n : length c.loop-x.numbers ≡ length c.args.numbers.now = ap length c.loop-x.invariant ∙ length-map_front f c.loop-x.x-index c.args.numbers.now in
    c.loop-x.invariant ∙ map_front_all f c.loop-x.x-index c.args.numbers.now (omega arith)
