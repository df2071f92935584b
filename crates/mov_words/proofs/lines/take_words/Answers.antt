use Rattle.std.specs.Prelude.{map, string_bytes}
use Rattle.clap.specs.Words.{app_of, is_simple, kind_of}
use Rattle.mov_words.proofs.CommandFacts.{both, not_taken, taken, values}
use Rattle.mov_words.proofs.FaultFacts.{or_memory}
use Rattle.mov_words.proofs.lines.take_words.Goals as goal

pub returns-in-Ok-clause-taken : goal.returns-in-Ok-clause-taken
returns-in-Ok-clause-taken c = taken (app_of c.args.command) (map string_bytes c.args.words.now) (c.in-Ok.ensures.kinds c.requires)

pub returns-in-Ok-clause-values : goal.returns-in-Ok-clause-values
returns-in-Ok-clause-values c =
    values (app_of c.args.command) (map string_bytes c.args.words.now) c.in-Ok.matches (c.in-Ok.ensures.matches (both (is_simple (app_of c.args.command)) _ c.requires).0).0

pub returns-in-Err-clause-err : goal.returns-in-Err-clause-err
returns-in-Err-clause-err c =
    or_memory c.fault_of_kind.result (λ h. (h.0, not_taken (app_of c.args.command) (map string_bytes c.args.words.now) c.kind.result (kind_of c.in-Err.error) c.kind.ensures h.1 (c.in-Err.ensures.kinds c.requires))) c.fault_of_kind.ensures
