use Rattle.std.proofs.Common.{arith, ℕ, ◌≡◌, ◌<◌, ◌^◌, ◌+◌, ◌++◌, ◌∷◌, [], ap, sym, ◌∙◌, subst, List, length, map}
use Rattle.std.specs.Prelude.{unsigned_abs}
use Rattle.std.specs.List.{All, range_with_len}
use Rattle.std.proofs.lemmas.List.FromFn.{map-range_with_len_more}
use Rattle.std.proofs.lemmas.List.Elements.{All-push}
use Rattle.row_program.specs.Forms.{entry}
use Rattle.lex_dual.proofs.multipliers.sizes.Goals as goal

pub loop-i-preserved : goal.loop-i-preserved
loop-i-preserved c =
    let f : ℕ → ℕ = λ i. unsigned_abs (entry c.args.form.now c.args.row (1 + length c.args.program.now.costs + i)) in
    let i = c.loop-i.i in
    let is : c.size_at.result ≡ f i = c.size_at.ensures.value ∙ ap (λ (n : ℕ). unsigned_abs (entry c.args.form.now c.args.row (1 + n + i))) c.len-variables.ensures in
    let more : map f (range_with_len 0 i) ++ f i ∷ [] ≡ map f (range_with_len 0 (i + 1)) = sym (map-range_with_len_more f 0 i i (omega arith)) in
    record {
      value = c.in_ok-push.ensures.items ∙ ap (λ (xs : List ℕ). xs ++ c.size_at.result ∷ []) c.loop-i.invariant.value ∙ ap (λ (x : ℕ). map f (range_with_len 0 i) ++ x ∷ []) is ∙ more;
      small = subst (λ (xs : List ℕ). All (λ x. x < 2 ^ 63) xs) (sym c.in_ok-push.ensures.items) (All-push (λ (x : ℕ). x < 2 ^ 63) c.loop-i.numbers.items c.size_at.result c.loop-i.invariant.small c.size_at.ensures.small);
    }
