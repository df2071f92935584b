use Rattle.std.proofs.Common.{[], ◌∷◌}
use Rattle.text_lines.proofs.Pieces.{on_err, none_added, first_added}
use Rattle.text_lines.proofs.written.push_number.Goals as goal

pub returns-in_err-push-clause-part : goal.returns-in_err-push-clause-part
returns-in_err-push-clause-part g c = on_err _ (none_added _ _ (32 ∷ g.I.Integer.text c.args.number) c.in_err-push.ensures.items)

pub returns-in_err-extend_from_slice-clause-part : goal.returns-in_err-extend_from_slice-clause-part
returns-in_err-extend_from_slice-clause-part g c = on_err _ (first_added _ _ _ (32 ∷ []) (g.I.Integer.text c.args.number) c.in_ok-push.ensures.items c.in_err-extend_from_slice.ensures.items)
