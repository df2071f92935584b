use Rattle.std.proofs.Common.{arith, ◌<◌, ◌≡◌, ◌^◌, set, get_or, rules, ◌∙◌, ap, List}
use Rattle.std.proofs.lemmas.Int.{to_z-of_z}
use Rattle.std.proofs.lemmas.List.Elements.{All-get_or}
use Rattle.std.specs.Prelude.{ℤ, pos, unsigned_abs}
use Rattle.std.specs.Int.RustNames.{FitsSigned}
use lib.IntN.{neg_ℤ}
use mir.Syntax.{w64}
use Rattle.exact_num.proofs.Maps.{map_front, map_front_more, map_front_all, get_or-map_front}
use Rattle.pivot_form.proofs.rows.negate.Goals as goal

pub opposite-requires : goal.opposite-requires
opposite-requires c =
    let i = c.loop-x.x-index in
    let e : get_or c.loop-x.row i (pos 0) ≡ get_or c.args.row.now i (pos 0) = ap (λ (r : List ℤ). get_or r i (pos 0)) c.loop-x.invariant ∙ get_or-map_front neg_ℤ i c.args.row.now (pos 0) in
    let s : unsigned_abs (get_or c.args.row.now i (pos 0)) < 2 ^ 63 = All-get_or (λ (x : ℤ). unsigned_abs x < 2 ^ 63) c.args.row.now i (pos 0) (omega arith) c.requires in
    let fits : FitsSigned w64 (get_or c.loop-x.row i (pos 0)) = search rules in
    simp to_z-of_z (rw e s)

pub loop-x-preserved : goal.loop-x-preserved
loop-x-preserved c =
    let i = c.loop-x.x-index in
    let e : get_or c.loop-x.row i (pos 0) ≡ get_or c.args.row.now i (pos 0) = ap (λ (r : List ℤ). get_or r i (pos 0)) c.loop-x.invariant ∙ get_or-map_front neg_ℤ i c.args.row.now (pos 0) in
    let fits : FitsSigned w64 (get_or c.loop-x.row i (pos 0)) = search rules in
    let made : FitsSigned w64 c.opposite.result = search rules in
    let value : c.opposite.result ≡ neg_ℤ (get_or c.loop-x.row i (pos 0)) = simp to_z-of_z at c.opposite.ensures in
    let more = map_front_more neg_ℤ i c.args.row.now (pos 0) (omega arith) in
    simp to_z-of_z (ap (λ (r : List ℤ). set r i c.opposite.result) c.loop-x.invariant ∙ ap (set (map_front neg_ℤ i c.args.row.now) i) (value ∙ ap neg_ℤ e) ∙ more)

pub returns : goal.returns
returns c = c.loop-x.invariant ∙ map_front_all neg_ℤ c.loop-x.x-index c.args.row.now (omega arith)
