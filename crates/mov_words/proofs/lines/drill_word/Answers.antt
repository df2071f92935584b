use Rattle.std.proofs.Common.{codes}
use Rattle.mov_words.proofs.CommandFacts.{value_is}
use Rattle.mov_words.proofs.lines.drill_word.Goals as goal

pub returns-in-Ok-take_words-clause-seed : goal.returns-in-Ok-take_words-clause-seed
returns-in-Ok-take_words-clause-seed c =
    value_is _ _ _ c.in-Ok-take_words.matches (codes "seed") _ c.in-Ok.ensures.app c.in-Ok-take_words.ensures.values c.value_of.ensures
