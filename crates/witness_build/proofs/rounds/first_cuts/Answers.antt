use Rattle.std.proofs.Common.{◌≡◌, ◌++◌, ◌∙◌, ap, map, refl, sym}
use Rattle.std.specs.List.{range_with_len}
use Rattle.alteration_model.specs.Faults.{pairs_of}
use Rattle.witness_build.proofs.CutRuns.{cuts_kept, cuts_more, equal_cuts}
use Rattle.witness_build.proofs.rounds.first_cuts.Goals as goal

pub loop-run-preserved-then-holds_in_last : goal.loop-run-preserved-then-holds_in_last
loop-run-preserved-then-holds_in_last c =
    let x = c.args.winner in
    let r = c.args.loser in
    let run = c.in-Some.run' in
    let puts = pairs_of c.loop-run.puts.items in
    let added : pairs_of c.push_equal.new.puts.items ≡ puts ++ equal_cuts x r run.row.now run.first c.min-count.result =
    c.in_ok-push_equal.ensures ∙ ap (λ b. puts ++ map (λ number. (number, b)) (range_with_len run.first c.min-count.result)) (c.as_slice.ensures ∙ c.in_ok-cut.ensures) in
    cuts_more x r c.min-count.result c.loop-run.left _ c.loop-run.run-iterator run c.next.new.self puts _ _ c.in-Some.ensures.steps (sym c.holds_in_last.ensures ∙ c.if-holds_in_last.true)
    c.min-count.ensures refl added c.loop-run.invariant

pub loop-run-preserved : goal.loop-run-preserved
loop-run-preserved c =
    cuts_kept c.args.winner c.args.loser c.loop-run.left c.loop-run.run-iterator c.in-Some.run' c.next.new.self _ _ c.in-Some.ensures.steps
    (sym c.holds_in_last.ensures ∙ c.if-holds_in_last.false) c.loop-run.invariant
