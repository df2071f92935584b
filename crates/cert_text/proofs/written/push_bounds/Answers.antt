use Rattle.std.proofs.Common.{List, ℕ, ◌∷◌, sym, subst}
use Rattle.std.specs.Prelude.{codes, decimal}
use Rattle.text_lines.specs.Written.{AddedFirst}
use Rattle.text_lines.proofs.Pieces.{on_err, none_added, first_cut, second_cut}
use Rattle.cert_text.proofs.Writing.{bounds_text, stop_rest}
use Rattle.cert_text.proofs.written.push_bounds.Goals as goal

pub returns-in_err-push_number-clause-part : goal.returns-in_err-push_number-clause-part
returns-in_err-push_number-clause-part c =
    on_err _ (subst (λ (t : List ℕ). AddedFirst c.args.out.now.items c.push_number.new.out.items t) (sym (bounds_text c.args.low c.args.up c.args.stop))
    (second_cut _ _ _ (codes "bounds") _ c.in_ok-extend_from_slice.ensures.items (first_cut _ _ (32 ∷ decimal c.args.low) _ c.in_err-push_number.ensures.part)))

pub returns-in_err-push_number-2-clause-part : goal.returns-in_err-push_number-2-clause-part
returns-in_err-push_number-2-clause-part c =
    on_err _ (subst (λ (t : List ℕ). AddedFirst c.args.out.now.items c.push_number-2.new.out.items t) (sym (bounds_text c.args.low c.args.up c.args.stop))
    (second_cut _ _ _ (codes "bounds") _ c.in_ok-extend_from_slice.ensures.items (second_cut _ _ _ (32 ∷ decimal c.args.low) _ c.in_ok-push_number.ensures.number
    (first_cut _ _ (32 ∷ decimal c.args.up) _ c.in_err-push_number-2.ensures.part))))

pub returns-in_err-push_one-in-Budget-clause-part : goal.returns-in_err-push_one-in-Budget-clause-part
returns-in_err-push_one-in-Budget-clause-part c =
    on_err _ (subst (λ (t : List ℕ). AddedFirst c.args.out.now.items c.push_one.new.out.items t) (sym (bounds_text c.args.low c.args.up c.args.stop))
    (second_cut _ _ _ (codes "bounds") _ c.in_ok-extend_from_slice.ensures.items (second_cut _ _ _ (32 ∷ decimal c.args.low) _ c.in_ok-push_number.ensures.number
    (second_cut _ _ _ (32 ∷ decimal c.args.up) (stop_rest c.args.stop) c.in_ok-push_number-2.ensures.number
    (rw (c.in-Budget.is, ← c.from.ensures) c.in_err-push_one-in-Budget.ensures.part)))))

pub returns-in_err-extend_from_slice-in-Depth-clause-part : goal.returns-in_err-extend_from_slice-in-Depth-clause-part
returns-in_err-extend_from_slice-in-Depth-clause-part c =
    on_err _ (subst (λ (t : List ℕ). AddedFirst c.args.out.now.items c.extend_from_slice-in-Depth.new.self.items t) (sym (bounds_text c.args.low c.args.up c.args.stop))
    (second_cut _ _ _ (codes "bounds") _ c.in_ok-extend_from_slice.ensures.items (second_cut _ _ _ (32 ∷ decimal c.args.low) _ c.in_ok-push_number.ensures.number
    (second_cut _ _ _ (32 ∷ decimal c.args.up) (stop_rest c.args.stop) c.in_ok-push_number-2.ensures.number
    (none_added _ _ (stop_rest c.args.stop) c.in_err-extend_from_slice-in-Depth.ensures.items)))))
