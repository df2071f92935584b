use Rattle.std.proofs.Common.{arith, ap, sym, ◌∙◌, ◌≡◌, ◌<◌, ◌+◌, ◌++◌, [], ◌∷◌, List, length, get_or}
use Rattle.std.specs.Prelude.{ℕ, ℤ, pos, ◌<ℤ◌, ◌≤ℤ◌}
use Rattle.std.proofs.lemmas.Int.{ints}
use Rattle.std.proofs.lemmas.List.{length_push}
use Rattle.std.proofs.lemmas.List.Elements.{All-push}
use Rattle.row_program.specs.Forms.{entry}
use Rattle.lex_dual.specs.Choices.{IsCandidate}
use Rattle.lex_dual.proofs.Thinning.{candidates_take, candidates_leave, candidates_from}
use Rattle.lex_dual.proofs.choice.write_candidates.Goals as goal
use Rattle.lex_dual.proofs.choice.write_candidates.Goals.{then-entry-lt0, else-entry-lt0}

pub entry-requires : goal.entry-requires
entry-requires c = omega (arith, c.equation-leaving.ensures.wide, c.loop-j-test.true, c.variable_count-j-end.ensures)

pub loop-j-preserved : goal.loop-j-preserved
loop-j-preserved c =
    let t = c.args.form.now in
    let row = c.args.row in
    let j = c.loop-j.j in
    let inside : j < t.variables = omega arith in
    let read : c.entry.result ≡ entry t row j = c.entry.ensures.value ∙ ap (λ (xs : List ℤ). get_or xs j (pos 0)) c.equation-leaving.ensures.value in
    elim c.if-entry-lt0.branch [
      | then-entry-lt0 w ↦
          let low : entry t row j <ℤ pos 0 = omega (arith, ints, w.if-entry-lt0.true, read) in
          let items : w.push.new.self.items ≡ c.loop-j.buffer.items ++ j ∷ [] = simp w.unwrap.ensures at w.push.ensures.items in
          rw w.buffer-is (record {
            value = ap (λ (js : List ℕ). js ++ candidates_from t row (j + 1)) items ∙ sym (candidates_take t row j c.loop-j.buffer.items inside low) ∙ c.loop-j.invariant.value;
            all = rw items (All-push (IsCandidate t row) c.loop-j.buffer.items j c.loop-j.invariant.all (inside, low));
            few = omega (arith, ap length items, length_push c.loop-j.buffer.items j);
            room = omega (arith, w.push.ensures.capacity, c.loop-j.invariant.room);
          })
      | else-entry-lt0 w ↦
          let high : pos 0 ≤ℤ entry t row j = omega (arith, ints, w.if-entry-lt0.false, read) in
          rw w.buffer-is (record {
            value = ap (λ (js : List ℕ). c.loop-j.buffer.items ++ js) (sym (candidates_leave t row j inside high)) ∙ c.loop-j.invariant.value;
            all = c.loop-j.invariant.all;
            few = omega arith;
            room = c.loop-j.invariant.room;
          })
    ]
