use Rattle.std.proofs.Common.{ℕ, List, ◌∷◌, [], ap, refl, arith, codes}
use Rattle.std.proofs.lemmas.Result.{IfOk-weaker}
use Rattle.mov_words.proofs.CommandFacts.{AreNamed, IsStart, always}
use Rattle.mov_words.proofs.commands.drill_command.Goals as goal

pub returns-clause-seed : goal.returns-clause-seed
returns-clause-seed c =
    let args = c.positional.result ∷ [] in
    let ids : List (List ℕ) = codes "seed" ∷ [] in
    let named : AreNamed args ids =
    (c.positional.ensures.plain, ap (λ x. x.now) c.positional.ensures.id, tt) in
    let start : IsStart c.bare_command.result = (c.bare_command.ensures.empty, c.bare_command.ensures.local, c.bare_command.ensures.negates) in
    IfOk-weaker c.arg.result _ _ (λ cmd added. always c.bare_command.result cmd args ids 0 c.positional.result start (cmd, added, refl) named refl refl (omega arith)
    c.positional.ensures.value (codes "seed") (ap (λ x. x.now) c.positional.ensures.id)) c.arg.ensures
