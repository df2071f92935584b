use Rattle.std.proofs.Common.{codes}
use Rattle.mov_words.proofs.CommandFacts.{value_is}
use Rattle.mov_words.proofs.lines.show_word.Goals as goal

pub returns-in-Ok-take_words-clause-file : goal.returns-in-Ok-take_words-clause-file
returns-in-Ok-take_words-clause-file c =
    value_is _ _ _ c.in-Ok-take_words.matches (codes "file") _ c.in-Ok.ensures.app c.in-Ok-take_words.ensures.values c.value_of.ensures
