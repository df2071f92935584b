use Rattle.std.proofs.Common.{ℕ, List, ◌≡◌, ◌<◌, ◌++◌, ◌+◌, ◌∙◌, take, length, map, get_or, FitsSigned, w64, ap, sym, arith}
use Rattle.std.specs.Prelude.{pos, unsigned_abs, ℤ}
use Rattle.std.specs.List.{zip}
use Rattle.std.proofs.Math.Seq.{take-length}
use Rattle.std.proofs.lemmas.Int.{to_z-of_z}
use Rattle.std.proofs.lemmas.List.Elements.{All-push}
use Rattle.std.proofs.lemmas.Slice.Zip.{length-zip}
use Rattle.row_program.specs.Bounds.{IsRow}
use Rattle.row_program.specs.declared.limits.TheConstants.{TERM_LIMIT}
use Rattle.row_program.specs.declared.program.Row.{Row}
use Rattle.goal_rows.specs.Programs.{row_by, weighings_of, weights_by}
use Rattle.goal_rows.specs.declared.weighings.Weighing.{Weighing}
use Rattle.goal_rows.proofs.GroundSizes.{sums_small, weighings_count}
use Rattle.goal_rows.proofs.ProgramRows.{few_fit, made_more, zip_at}
use Rattle.goal_rows.proofs.programs.add_goal_rows.Goals as goal

pub index-requires : goal.index-requires
index-requires c =
    let same = ap length c.in_ok-weighings.ensures in
    let n = weighings_count c.args.start.now c.requires.start in
    omega (arith, same, n, c.len-r-end.ensures, c.loop-r-test.true)

pub row_of-requires-clause-small : goal.row_of-requires-clause-small
row_of-requires-clause-small c =
    let sums = c.args.start.now.sums in
    let r = c.loop-r.r in
    let lt : r < length sums = omega (arith, c.len-r-end.ensures, c.loop-r-test.true) in
    let small = sums_small c.args.start.now c.requires.start r (pos 0) lt in
    let here : unsigned_abs (get_or c.as_slice.result.now r (pos 0)) < TERM_LIMIT = rw c.as_slice.ensures small in
    let fits : FitsSigned w64 (get_or c.as_slice.result.now r (pos 0)) = few_fit (get_or c.as_slice.result.now r (pos 0)) here in
    simp to_z-of_z here

pub loop-r-preserved : goal.loop-r-preserved
loop-r-preserved c =
    let start = c.args.start.now in
    let arcs = c.args.arcs.now in
    let sums = start.sums in
    let items = c.in_ok-weighings.weighings.items in
    let r = c.loop-r.r in
    let w = c.index.result.now in
    let row = c.in_ok-row_of.field-0 in
    let so_far = c.loop-r.invariant in
    let f : ℤ × Weighing → Row = λ x. row_by x.0 (weights_by x.1 start.classes arcs) in
    let same = ap length c.in_ok-weighings.ensures in
    let n = weighings_count start c.requires.start in
    let z = length-zip sums items in
    let lt : r < length sums = omega (arith, c.len-r-end.ensures, c.loop-r-test.true) in
    let wl : r < length items = omega (arith, same, n, lt) in
    let zl : r < length (zip sums items) = omega (arith, z, lt, wl) in
    let small = sums_small start c.requires.start r (pos 0) lt in
    let here : unsigned_abs (get_or c.as_slice.result.now r (pos 0)) < TERM_LIMIT = rw c.as_slice.ensures small in
    let fits : FitsSigned w64 (get_or c.as_slice.result.now r (pos 0)) = few_fit (get_or c.as_slice.result.now r (pos 0)) here in
    let is : row ≡ row_by (get_or c.as_slice.result.now r (pos 0)) (weights_by w start.classes arcs) = simp to_z-of_z at c.in_ok-row_of.ensures.value in
    let value = ap (λ (xs : List ℤ). row_by (get_or xs r (pos 0)) (weights_by w start.classes arcs)) c.as_slice.ensures in
    let at = zip_at sums items r w lt wl c.index.ensures in
    rw c.in_ok-push.ensures.ok (record {
      rows = made_more f (zip sums items) r (get_or sums r (pos 0), w) c.args.rows.now c.loop-r.rows row zl (is ∙ value ∙ ap f (sym at)) so_far.rows;
      good = All-push (IsRow (length start.classes + length arcs)) c.loop-r.rows row so_far.good c.in_ok-row_of.ensures.row;
    })

pub returns-clause-rows : goal.returns-clause-rows
returns-clause-rows c =
    let start = c.args.start.now in
    let arcs = c.args.arcs.now in
    let sums = start.sums in
    let items = c.in_ok-weighings.weighings.items in
    let before = c.args.rows.now in
    let f : ℤ × Weighing → Row = λ x. row_by x.0 (weights_by x.1 start.classes arcs) in
    let same = ap length c.in_ok-weighings.ensures in
    let n = weighings_count start c.requires.start in
    let z = length-zip sums items in
    let whole : c.loop-r.r ≡ length (zip sums items) = omega (arith, same, n, z, c.len-r-end.ensures, c.loop-r.auto.r-end, c.loop-r-test.false) in
    c.loop-r.invariant.rows
    ∙ ap (λ k. before ++ map f (take k (zip sums items))) whole
    ∙ ap (λ xs. before ++ map f xs) (take-length (zip sums items))
    ∙ ap (λ ws. before ++ map f (zip sums ws)) c.in_ok-weighings.ensures
    ∙ ap (λ (to : List (ℕ × ℕ)). before ++ map (λ (x : ℤ × Weighing). row_by x.0 (weights_by x.1 start.classes to)) (zip sums (weighings_of start))) c.requires.arcs
