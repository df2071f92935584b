use Rattle.std.proofs.Common.{ℕ, List, ◌∷◌, [], ap, refl, arith, codes}
use Rattle.std.proofs.lemmas.Result.{IfOk-weaker}
use Rattle.mov_words.proofs.CommandFacts.{AreNamed, IsStart, always}
use Rattle.mov_words.proofs.commands.tally_command.Goals as goal

pub returns-clause-rule : goal.returns-clause-rule
returns-clause-rule c =
    let args = c.positional.result ∷ c.positional-2.result ∷ c.option.result ∷ [] in
    let ids : List (List ℕ) = codes "rule" ∷ codes "file" ∷ codes "seats" ∷ [] in
    let named : AreNamed args ids =
    (c.positional.ensures.plain, ap (λ x. x.now) c.positional.ensures.id, (c.positional-2.ensures.plain, ap (λ x. x.now) c.positional-2.ensures.id, (c.option.ensures.plain, ap (λ x. x.now) c.option.ensures.id, tt))) in
    let start : IsStart c.bare_command.result = (c.bare_command.ensures.empty, c.bare_command.ensures.local, c.bare_command.ensures.negates) in
    IfOk-weaker c.arg-3.result _ _ (λ cmd added. always c.bare_command.result cmd args ids 0 c.positional.result start (_, c.in_ok-arg.ensures, (_, c.in_ok-arg-2.ensures, (cmd, added, refl))) named refl refl (omega arith)
    c.positional.ensures.value (codes "rule") (ap (λ x. x.now) c.positional.ensures.id)) c.arg-3.ensures

pub returns-clause-file : goal.returns-clause-file
returns-clause-file c =
    let args = c.positional.result ∷ c.positional-2.result ∷ c.option.result ∷ [] in
    let ids : List (List ℕ) = codes "rule" ∷ codes "file" ∷ codes "seats" ∷ [] in
    let named : AreNamed args ids =
    (c.positional.ensures.plain, ap (λ x. x.now) c.positional.ensures.id, (c.positional-2.ensures.plain, ap (λ x. x.now) c.positional-2.ensures.id, (c.option.ensures.plain, ap (λ x. x.now) c.option.ensures.id, tt))) in
    let start : IsStart c.bare_command.result = (c.bare_command.ensures.empty, c.bare_command.ensures.local, c.bare_command.ensures.negates) in
    IfOk-weaker c.arg-3.result _ _ (λ cmd added. always c.bare_command.result cmd args ids 1 c.positional-2.result start (_, c.in_ok-arg.ensures, (_, c.in_ok-arg-2.ensures, (cmd, added, refl))) named refl refl (omega arith)
    c.positional-2.ensures.value (codes "file") (ap (λ x. x.now) c.positional-2.ensures.id)) c.arg-3.ensures
