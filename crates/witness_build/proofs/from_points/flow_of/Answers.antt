use Rattle.std.proofs.Common.{ℕ, List, [], ◌∷◌, ◌++◌, ◌≡◌, ◌-◌, ◌∙◌, drop, length, get_or, take, ap, sym, arith}
use Rattle.std.proofs.lemmas.List.{length-drop, take_all, take_more}
use Rattle.std.proofs.Math.Seq.{take-length}
use Rattle.witness_build.proofs.PointParts.{arc_number_few}
use Rattle.witness_build.proofs.from_points.flow_of.Goals as goal

-- the slice behind the classes
behind : (n m : ℕ) (xs : List ℕ) → n ≡ m → take (length xs - n) (drop n xs) ≡ drop m xs
behind n m xs same = ap (λ k. take k (drop n xs)) (sym (length-drop n xs)) ∙ take-length (drop n xs) ∙ ap (λ k. drop k xs) same

pub overflow_cast-number : goal.overflow_cast-number
overflow_cast-number c =
    let start = c.args.start.now in
    let whole = c.args.whole.now in
    let slice = behind c.len.result (length start.classes) whole c.len.ensures.value in
    let within = c.loop-number-test.true in
    let k = c.loop-number.number-index in
    let few = arc_number_few c.requires.start.0 start whole k c.requires.start.1 c.requires.point (omega (arith, within, ap length slice)) in
    let same = ap (λ xs. get_or xs k 0) slice in
    omega (arith, few, same)

pub loop-number-preserved : goal.loop-number-preserved
loop-number-preserved c =
    let start = c.args.start.now in
    let whole = c.args.whole.now in
    let slice = behind c.len.result (length start.classes) whole c.len.ensures.value in
    let within = c.loop-number-test.true in
    let k = c.loop-number.number-index in
    let arcs = drop (length start.classes) whole in
    c.in_ok-push.ensures.items
    ∙ ap (λ xs. xs ++ get_or (take (length whole - c.len.result) (drop c.len.result whole)) k 0 ∷ []) c.loop-number.invariant
    ∙ ap (λ xs. take k arcs ++ get_or xs k 0 ∷ []) slice
    ∙ sym (take_more arcs k 0 (omega (arith, within, ap length slice)))

pub returns : goal.returns
returns c =
    let start = c.args.start.now in
    let whole = c.args.whole.now in
    let slice = behind c.len.result (length start.classes) whole c.len.ensures.value in
    let past = c.loop-number-test.false in
    c.loop-number.invariant ∙ take_all c.loop-number.number-index (drop (length start.classes) whole) (omega (arith, past, ap length slice))
