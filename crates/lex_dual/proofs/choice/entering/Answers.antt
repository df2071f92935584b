use Rattle.std.proofs.Common.{arith, ap, sym, ◌∙◌, ◌≡◌, ◌≤◌, ◌<◌, ◌+◌, List, length, take, inl, inr, ◌⊎◌}
use Rattle.std.specs.Prelude.{ℕ, slice_get}
use Rattle.std.proofs.lemmas.List.{with_items_is}
use Rattle.row_program.specs.Method.{value_count}
use Rattle.lex_dual.specs.Choices.{entering_among}
use Rattle.lex_dual.proofs.Tables.{length-places_of}
use Rattle.lex_dual.proofs.Thinning.{among_begins, among_ends}
use Rattle.lex_dual.proofs.choice.entering.Goals as goal
use Rattle.lex_dual.proofs.choice.entering.Goals.{else-loop-v-test, then-loop-v-test+then-len-lt2}

pub loop-v-init : goal.loop-v-init
loop-v-init c =
    record {
      value = ap (entering_among c.args.form.now c.args.row 0) c.write_candidates.ensures.value ∙ among_begins c.args.form.now c.args.row;
      all = c.write_candidates.ensures.all;
      room = c.write_candidates.ensures.room;
    }

pub loop-v-preserved : goal.loop-v-preserved
loop-v-preserved c =
    let same_length : length c.thin_out-kept.new.left ≡ c.loop-v.buffer.len = omega (arith, c.thin_out-kept.auto.left, c.as_mut_slice.ensures.len) in
    let items : c.truncate.new.self.items ≡ take c.thin_out-kept.result c.thin_out-kept.new.left = c.truncate.ensures.items ∙ ap (take c.thin_out-kept.result) (with_items_is c.loop-v.buffer c.thin_out-kept.new.left same_length) in
    record {
      value = ap (entering_among c.args.form.now c.args.row (c.loop-v.v + 1)) items ∙ c.thin_out-kept.ensures.value ∙ ap (entering_among c.args.form.now c.args.row c.loop-v.v) c.as_mut_slice.ensures.value ∙ c.loop-v.invariant.value;
      all = rw items c.thin_out-kept.ensures.all;
      room = omega (arith, c.truncate.ensures.capacity, c.loop-v.invariant.room);
    }

pub returns-clause-value : goal.returns-clause-value
returns-clause-value c =
    let t = c.args.form.now in
    let last : (value_count t ≤ c.loop-v.v) ⊎ (length c.loop-v.buffer.items < 2) = elim c.loop-v-test.branch [
      | else-loop-v-test w ↦ inl (omega (arith, w.loop-v-test.false, ap length c.requires.places, length-places_of t))
      | then-loop-v-test+then-len-lt2 w ↦ inr (omega (arith, w.if-len-lt2.true, w.len.ensures, c.loop-v.buffer.ok.0))
    ] in
    c.copied.ensures ∙ c.first.ensures.value ∙ ap (λ (js : List ℕ). slice_get js 0) c.deref.ensures.value ∙ sym (among_ends t c.args.row c.loop-v.v c.loop-v.buffer.items last) ∙ c.loop-v.invariant.value
