use Rattle.std.proofs.Common.{◌∷◌, sym}
use Rattle.text_lines.proofs.Pieces.{on_err, item_cut}
use Rattle.text_lines.proofs.written.push_numbers.Goals as goal

pub returns-in_err-push_number-clause-part : goal.returns-in_err-push_number-clause-part
returns-in_err-push_number-clause-part g c =
    on_err _ (item_cut (λ n. 32 ∷ g.I.Integer.text n) c.args.numbers.now c.loop-number.number-index c.number-item.result _ _ _ c.loop-number-test.true (sym c.number-item.is) c.loop-number.invariant c.in_err-push_number.ensures.part)
