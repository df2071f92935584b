use Rattle.std.proofs.Common.{ℕ, ◌<◌, ◌∙◌, length, sym, arith}
use Rattle.std.proofs.lemmas.List.{get_or-map, length-map}
use Rattle.witness_build.proofs.from_points.class_of.Goals as goal

pub unreachable-requires : goal.unreachable-requires
unreachable-requires c =
    let classes = c.args.classes.now in
    let place = c.requires.0 in
    let within : place < length classes = omega (arith, length-map classes (λ (c : ℕ × ℕ). c.0), c.requires.1) in
    let at = get_or-map (λ (c : ℕ × ℕ). c.0) classes place (0, 0) c.args.key within in
    c.loop-i.invariant place (omega (arith, within)) (sym at ∙ c.requires.2)
