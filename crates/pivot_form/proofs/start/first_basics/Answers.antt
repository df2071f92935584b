use Rattle.std.proofs.Common.{arith, refl, ap, sym, ◌∙◌, ◌+◌, ◌++◌, ◌∷◌, [], List, ℕ, map}
use Rattle.std.specs.List.{range_with_len}
use Rattle.std.proofs.lemmas.List.FromFn.{map-range_with_len_more}
use Rattle.row_program.specs.Forms.{first_basic}
use Rattle.pivot_form.proofs.FirstForm.{basic_more}
use Rattle.pivot_form.proofs.start.first_basics.Goals as goal

pub loop-i-preserved : goal.loop-i-preserved
loop-i-preserved c =
    let n = c.args.variables in
    let i = c.loop-i.i in
    c.in_ok-push-2.ensures.items
    ∙ ap (λ (xs : List ℕ). xs ++ (1 + n + i) ∷ []) c.loop-i.invariant
    ∙ ap (λ (x : ℕ). map (first_basic n) (range_with_len 0 (i + 1)) ++ x ∷ []) (sym (basic_more n i (i + 1) refl))
    ∙ sym (map-range_with_len_more (first_basic n) 0 (i + 1) (i + 1) (omega arith))
