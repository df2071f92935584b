use Rattle.std.proofs.Common.{[], ◌∷◌, List, ℕ, map, sym, subst}
use Rattle.std.specs.List.{flat_map}
use Rattle.text_lines.specs.Words.{line_text}
use Rattle.text_lines.specs.Written.{AddedFirst}
use Rattle.text_lines.proofs.Pieces.{on_err, none_added, first_cut, second_cut, first_added, both_added}
use Rattle.text_lines.proofs.Writing.{list_done, list_text}
use Rattle.text_lines.proofs.written.push_list.Goals as goal

pub returns-clause-line : goal.returns-clause-line
returns-clause-line g c = list_done g.I.Integer.text c.args.out.now.items c.args.word.now c.extend_from_slice.new.self.items c.push_numbers.new.out.items c.push.new.self.items c.args.numbers.now c.in_ok-extend_from_slice.ensures.items c.in_ok-push_numbers.ensures.numbers c.in_ok-push.ensures.items

pub returns-in_err-extend_from_slice-clause-part : goal.returns-in_err-extend_from_slice-clause-part
returns-in_err-extend_from_slice-clause-part g c = on_err _ (none_added _ _ (line_text (c.args.word.now ∷ map g.I.Integer.text c.args.numbers.now)) c.in_err-extend_from_slice.ensures.items)

pub returns-in_err-push_numbers-clause-part : goal.returns-in_err-push_numbers-clause-part
returns-in_err-push_numbers-clause-part g c =
    let spaced = flat_map (λ n. 32 ∷ g.I.Integer.text n) c.args.numbers.now in
    on_err _ (subst (λ (t : List ℕ). AddedFirst c.args.out.now.items c.push_numbers.new.out.items t) (sym (list_text g.I.Integer.text c.args.word.now c.args.numbers.now))
    (first_cut _ _ _ (10 ∷ []) (second_cut _ _ _ c.args.word.now spaced c.in_ok-extend_from_slice.ensures.items c.in_err-push_numbers.ensures.part)))

pub returns-in_err-push-clause-part : goal.returns-in_err-push-clause-part
returns-in_err-push-clause-part g c =
    let spaced = flat_map (λ n. 32 ∷ g.I.Integer.text n) c.args.numbers.now in
    on_err _ (subst (λ (t : List ℕ). AddedFirst c.args.out.now.items c.push.new.self.items t) (sym (list_text g.I.Integer.text c.args.word.now c.args.numbers.now))
    (first_added _ _ _ _ (10 ∷ []) (both_added _ _ _ c.args.word.now spaced c.in_ok-extend_from_slice.ensures.items c.in_ok-push_numbers.ensures.numbers) c.in_err-push.ensures.items))
